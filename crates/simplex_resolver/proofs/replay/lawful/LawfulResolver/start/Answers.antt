-- How the contract of `start` follows: the calls of the record, and then the end of the replay, are the first that it
-- received.
use Rattle.std.proofs.Common.{refl, subst}
use Rattle.simplex_resolver.specs.Repair.{IsApplied}
use Rattle.simplex_resolver.proofs.CallHistory.{received_by_record}
use Rattle.simplex_resolver.proofs.replay.lawful.LawfulResolver.start.Goals as goal

pub returns-in-Ok-clause-begins : goal.returns-in-Ok-clause-begins
returns-in-Ok-clause-begins g c =
    received_by_record c.args.term_length _ _ c.in_ok-state.effects.items c.get-positive.ensures.positive
    c.in_ok-state.ensures.named refl
    c.in_ok-state.ensures.state c.in_ok-state.ensures.wanted
    (subst (λ old. IsApplied old c.in_ok-state.effects.items c.apply.new.outstanding.keys) c.new-fetches.ensures.empty
    (subst (λ es. IsApplied c.new-fetches.result.keys es c.apply.new.outstanding.keys) c.deref.ensures.value
    c.in-Ok.ensures.applied))
