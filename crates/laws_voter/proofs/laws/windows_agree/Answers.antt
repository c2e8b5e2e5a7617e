-- each test is its fact
use Rattle.simplex_voter.proofs.Windows.{outbound_agrees, certificate_agrees, vote_agrees}
use Rattle.laws_voter.proofs.laws.windows_agree.Goals as goal

pub returns : goal.returns
returns g c = record { outbound = outbound_agrees; certificate = certificate_agrees; vote = vote_agrees }
