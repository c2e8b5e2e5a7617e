-- How the contract of `end_certifications` follows: no certification is under way below the bound, so the walk from
-- there ends them all.
use Rattle.std.proofs.Common.{refl}
use Rattle.simplex_voter.proofs.Changed.{quiet_below}
use Rattle.simplex_voter.proofs.RaisedFinal.{ended_kept}
use Rattle.simplex_voter.proofs.voter.rounds.Rounds.end_certifications.Goals as goal

pub invariant_of-self : goal.invariant_of-self
invariant_of-self g c = ended_kept _ c.args.view _ _ c.end_certifications-2.ensures c.end_certifications.ensures
    c.self.invariant

pub end_certifications-requires : goal.end_certifications-requires
end_certifications-requires g c = record { in_range = c.requires; quiet = quiet_below _ _ refl c.self.invariant }

pub returns : goal.returns
returns g c = rw (← c.self.view_is, c.end_certifications.ensures) refl
