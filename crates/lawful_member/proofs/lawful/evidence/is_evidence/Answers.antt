-- How the contract of `is_evidence` follows: two votes that contradict each other by the rules alone show a broken one.
use Rattle.lawful_member.proofs.Evidence.{evidence_shows}
use Rattle.lawful_member.specs.Evidence.{signed_vote_in}
use Rattle.lawful_member.proofs.lawful.evidence.is_evidence.Goals as goal

pub returns-clause-broken : goal.returns-clause-broken
returns-clause-broken g c = λ yes. evidence_shows (signed_vote_in c.args.first.now) (signed_vote_in c.args.second.now)
    (c.contradict.ensures.0 yes)
