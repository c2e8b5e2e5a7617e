-- What the record has grown by is queued, and then what a pruning leaves of it.
use Rattle.std.proofs.Common.{◌≡◌, ◌∙◌, Result, Ok, Err, ap}
use Rattle.std.specs.Prelude.{OnOk}
use Rattle.simplex_member.specs.MemberFacts.{MemberFacts}
use Rattle.simplex_member.specs.PrunedRecord.{pruned_member}
use Rattle.engine_outbox.proofs.Continuity.{goes_further}
use Rattle.engine_outbox.proofs.journaled.Journaled.prune_record.Goals as goal

anyway : {X E P : Type 0} (r : Result X E) → P → OnOk r P
anyway (Ok x) holds = holds
anyway (Err e) holds = tt

still_waiting : {K L D : Type 0} (old new : MemberFacts K L D) → new ≡ pruned_member old
    → new.outstanding_work ≡ old.outstanding_work
still_waiting {K} {L} {D} old new is = ap (λ (m : MemberFacts K L D). m.outstanding_work) is

pub returns-clause-continues : goal.returns-clause-continues
returns-clause-continues g c = goes_further c.store.ensures.continues c.replace.ensures.continues

pub returns-clause-pruned : goal.returns-clause-pruned
returns-clause-pruned g c = anyway c.replace.result
    (c.replace.ensures.pruned ∙ ap (λ m. pruned_member m.facts) c.store.ensures.member)

pub returns-clause-waiting : goal.returns-clause-waiting
returns-clause-waiting g c =
    still_waiting c.store.new.self.member.facts c.replace.new.self.member.facts c.replace.ensures.pruned
    ∙ ap (λ m. m.facts.outstanding_work) c.store.ensures.member

pub returns-clause-no_work : goal.returns-clause-no_work
returns-clause-no_work g c = c.replace.ensures.no_work ∙ c.store.ensures.no_work

pub returns-clause-signed : goal.returns-clause-signed
returns-clause-signed g c i key given is = c.replace.ensures.signed i key given (c.store.ensures.signed i key given is)
