-- from the start on, step by step
use Rattle.laws_safety.proofs.lives.Gapless.{states_reach}
use Rattle.laws_safety.proofs.records.RunsLawful.{run_from_lawful}
use Rattle.laws_safety.proofs.laws.network.votes_are_lawful.Goals as goal

pub returns : goal.returns
returns g c = record {
  lawful = λ term_length s begins fresh run.
      run_from_lawful g.D.PartialEq.eq g.met.D.Digest.equal_is_same g.L.Elector.elect term_length s.start begins s.steps
      s.replies fresh run;
  gapless = states_reach g.D.PartialEq.eq g.met.D.Digest.equal_is_same g.L.Elector.elect;
}
