-- How the contract of `nullify_votes_are_decided` follows: each event that a state allows keeps both.
use Rattle.laws_safety.proofs.votes.NullifyVotesDecided.{votes_are_decided}
use Rattle.laws_safety.proofs.votes.NullifiedAbove.{nullifies_above}
use Rattle.laws_safety.proofs.laws.states.nullify_votes_are_decided.Goals as goal

pub returns : goal.returns
returns g c = record {
  decided = votes_are_decided g.D.PartialEq.eq g.L.Elector.elect;
  above = nullifies_above g.D.PartialEq.eq g.L.Elector.elect;
}
