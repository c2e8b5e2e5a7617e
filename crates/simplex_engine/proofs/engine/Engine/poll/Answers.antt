-- A queued output is taken with no other change; otherwise what the work does is done, and then its first output is
-- taken.
use Rattle.std.proofs.Common.{refl, sym, subst, ap, inl, inr, true, false, [], ◌++◌, ◌≡◌, ◌∙◌, if◌then◌else◌, Some, Ok, Err}
use Rattle.std.specs.Prelude.{option_to_list, IsNone, IsOk}
use Rattle.std.specs.Option.{option_map_or}
use Rattle.std.proofs.lemmas.Bool.{true≢false, false≢true}
use Rattle.simplex_types.specs.declared.types.fault.Fault.{Fault}
use Rattle.simplex_types.specs.declared.types.fault.Fault.TheVariants.{OutOfMemory, Failed}
use Rattle.engine_fetches.specs.OutstandingFetches.{holds}
use Rattle.engine_outbox.specs.Continuity.{has_failed}
use Rattle.engine_outbox.specs.Outputs.{work_in}
use Rattle.engine_outbox.specs.RecordReach.{IsShort}
use Rattle.engine_outbox.proofs.Continuity.{stays, gives_then, gives_none, gives_nothing, goes_further, does_more, does_nothing_more, tells_no_other, tells_no_other_then}
use Rattle.engine_planner.proofs.Causes.{among_last}
use Rattle.engine_planner.proofs.PlannedWork.{among_further, among_still}
use Rattle.simplex_engine.specs.AtRest.{ReturnsFirst}
use Rattle.simplex_engine.specs.MemberViews.{StaysStoredEarly}
use Rattle.simplex_engine.specs.Provenance.{forgettable, held_by, pending_causes, IsCaused}
use Rattle.simplex_engine.proofs.AtRest.{never_none, none_first, settled_beside, settled_for, short_for, some_first, still_at_rest, stored_beside, stored_for}
use Rattle.simplex_engine.proofs.Bounds.{bounded_admitted, bounded_still, bounded_further, bounded_same}
use Rattle.simplex_engine.proofs.BuildBounds.{come_beside, early_anyway, near_same}
use Rattle.simplex_engine.proofs.CertificateVotes.{takes_nothing}
use Rattle.simplex_engine.proofs.OwnSteps.{forgets_as, forgets_nothing}
use Rattle.simplex_engine.proofs.Provenance.{comes_still, comes_then, hand_given, risen_facts}
use Rattle.simplex_engine.proofs.NoMissingCertificates.{forgets_no_lack}
use Rattle.simplex_engine.proofs.UnfinishedWork.{tells_given, all_left, works_given}
use Rattle.simplex_engine.proofs.fetch_heights.Engines.{no_higher}
use Rattle.simplex_engine.proofs.engine.Engine.poll.Goals as goal

-- an engine that had failed

pub returns-then-has_failed-clause-front : goal.returns-then-has_failed-clause-front
returns-then-has_failed-clause-front g c lives =
    absurd (true≢false (sym c.if-has_failed.true ∙ c.has_failed.ensures ∙ lives))

pub returns-then-has_failed-clause-stays : goal.returns-then-has_failed-clause-stays
returns-then-has_failed-clause-stays g c lives =
    absurd (true≢false (sym c.if-has_failed.true ∙ c.has_failed.ensures ∙ lives))

pub returns-then-has_failed-clause-does : goal.returns-then-has_failed-clause-does
returns-then-has_failed-clause-does g c = does_nothing_more c.args.self.now.core c.args.self.now.core refl

pub returns-then-has_failed-clause-traced : goal.returns-then-has_failed-clause-traced
returns-then-has_failed-clause-traced g c = gives_none (stays c.args.self.now.core)

pub returns-then-has_failed-clause-reported : goal.returns-then-has_failed-clause-reported
returns-then-has_failed-clause-reported g c = record { queued = refl; reported = refl }

pub returns-then-has_failed-clause-held : goal.returns-then-has_failed-clause-held
returns-then-has_failed-clause-held g c =
    forgets_nothing c.args.self.now.core c.args.self.now.batcher c.args.self.now.batcher refl

pub returns-then-has_failed-clause-bounded : goal.returns-then-has_failed-clause-bounded
returns-then-has_failed-clause-bounded g c =
    bounded_same g.S.CertificateScheme.participants c.args.self.now.core c.args.self.now.core c.args.self.now.batcher
    refl

pub returns-then-has_failed-clause-error : goal.returns-then-has_failed-clause-error
returns-then-has_failed-clause-error g c =
    ap (λ had_failed. if had_failed then Failed else OutOfMemory)
    (sym (sym c.has_failed.ensures ∙ c.if-has_failed.true))

-- one with an output queued

pub returns-then-not-is_idle-clause-front : goal.returns-then-not-is_idle-clause-front
returns-then-not-is_idle-clause-front g c lives =
    let old = c.args.self.now in
    let new = record old { core = c.next.new.self } in
    let first = some_first c.next.result old.core.outbox.queue.items c.next.new.self.outbox.queue.items
    c.is_idle.ensures.1 c.if-not-is_idle.true c.next.ensures.none c.next.ensures.front in
    subst (λ out. ReturnsFirst {E = Fault} old.core.outbox.queue.items (Ok out) old new) (sym first.1)
    (subst (λ queue. ReturnsFirst {E = Fault} queue (Ok (Some first.0)) old new)
    (sym (subst (λ out. old.core.outbox.queue.items ≡ option_to_list out ++ c.next.new.self.outbox.queue.items) first.1
    c.next.ensures.front)) (refl, refl, c.next.ensures.same.0, refl, refl, refl))

pub returns-then-not-is_idle-clause-settles : goal.returns-then-not-is_idle-clause-settles
returns-then-not-is_idle-clause-settles g c empty =
    absurd (true≢false (sym (c.is_idle.ensures.1 empty) ∙ c.if-not-is_idle.true))

pub returns-then-not-is_idle-clause-stays : goal.returns-then-not-is_idle-clause-stays
returns-then-not-is_idle-clause-stays g c lives empty =
    absurd (true≢false (sym (c.is_idle.ensures.1 empty) ∙ c.if-not-is_idle.true))

pub returns-then-not-is_idle-clause-does : goal.returns-then-not-is_idle-clause-does
returns-then-not-is_idle-clause-does g c = does_nothing_more c.args.self.now.core c.next.new.self c.next.ensures.same.0

pub returns-then-not-is_idle-clause-traced : goal.returns-then-not-is_idle-clause-traced
returns-then-not-is_idle-clause-traced g c =
    let old = c.args.self.now.core in
    gives_then {a = old} {b = old} c.next.new.self (option_to_list c.next.result) (stays old) c.next.ensures.traced
    c.next.ensures.signed c.next.ensures.same.0

pub returns-then-not-is_idle-clause-settled : goal.returns-then-not-is_idle-clause-settled
returns-then-not-is_idle-clause-settled g c given kept is =
    stored_beside g.D.PartialEq.eq g.L.Elector.elect g.S.CertificateScheme.certificate_bytes c.args.self.now
    c.next.new.self c.next.ensures.same.0 c.next.ensures.same.1 is

pub returns-then-not-is_idle-clause-rest : goal.returns-then-not-is_idle-clause-rest
returns-then-not-is_idle-clause-rest g c is none =
    never_none c.next.result c.args.self.now.core.outbox.queue.items c.next.new.self.outbox.queue.items
    c.is_idle.ensures.1 c.if-not-is_idle.true c.next.ensures.none c.next.ensures.front none

pub returns-then-not-is_idle-clause-short : goal.returns-then-not-is_idle-clause-short
returns-then-not-is_idle-clause-short g c given kept is none =
    never_none c.next.result c.args.self.now.core.outbox.queue.items c.next.new.self.outbox.queue.items
    c.is_idle.ensures.1 c.if-not-is_idle.true c.next.ensures.none c.next.ensures.front none

pub returns-then-not-is_idle-clause-admitted : goal.returns-then-not-is_idle-clause-admitted
returns-then-not-is_idle-clause-admitted g c is within none =
    never_none c.next.result c.args.self.now.core.outbox.queue.items c.next.new.self.outbox.queue.items
    c.is_idle.ensures.1 c.if-not-is_idle.true c.next.ensures.none c.next.ensures.front none

pub returns-then-not-is_idle-clause-waiting : goal.returns-then-not-is_idle-clause-waiting
returns-then-not-is_idle-clause-waiting g c is none =
    never_none c.next.result c.args.self.now.core.outbox.queue.items c.next.new.self.outbox.queue.items
    c.is_idle.ensures.1 c.if-not-is_idle.true c.next.ensures.none c.next.ensures.front none

pub returns-then-not-is_idle-clause-held : goal.returns-then-not-is_idle-clause-held
returns-then-not-is_idle-clause-held g c =
    forgets_nothing c.next.new.self c.args.self.now.batcher c.args.self.now.batcher refl

pub returns-then-not-is_idle-clause-bounded : goal.returns-then-not-is_idle-clause-bounded
returns-then-not-is_idle-clause-bounded g c =
    bounded_same g.S.CertificateScheme.participants c.args.self.now.core c.next.new.self c.args.self.now.batcher
    c.next.ensures.same.0

pub returns-then-not-is_idle-clause-due_work : goal.returns-then-not-is_idle-clause-due_work
returns-then-not-is_idle-clause-due_work g c =
    tells_given c.args.self.now (record c.args.self.now { core = c.next.new.self }) (option_to_list c.next.result)
    c.next.ensures.same.0 refl c.next.ensures.front

pub returns-then-not-is_idle-clause-works : goal.returns-then-not-is_idle-clause-works
returns-then-not-is_idle-clause-works g c =
    works_given c.args.self.now (record c.args.self.now { core = c.next.new.self }) (option_to_list c.next.result) refl
    c.next.ensures.front

pub returns-then-not-is_idle-clause-near : goal.returns-then-not-is_idle-clause-near
returns-then-not-is_idle-clause-near g c =
    near_same c.args.self.now (record c.args.self.now { core = c.next.new.self }) c.next.ensures.same.0 refl

pub returns-then-not-is_idle-clause-seen : goal.returns-then-not-is_idle-clause-seen
returns-then-not-is_idle-clause-seen g c =
    come_beside c.args.self.now (record c.args.self.now { core = c.next.new.self }) c.next.ensures.same.0 refl

pub returns-then-not-is_idle-clause-early : goal.returns-then-not-is_idle-clause-early
returns-then-not-is_idle-clause-early g c come =
    early_anyway c.args.self.now (record c.args.self.now { core = c.next.new.self })
    (among_still c.args.self.now.plan.early.proposals.items)

pub returns-then-not-is_idle-clause-provenance : goal.returns-then-not-is_idle-clause-provenance
returns-then-not-is_idle-clause-provenance g c =
    let came = forgettable c.next.new.self.member.facts in
    comes_still (ap (λ m. m.facts) c.next.ensures.same.0) refl (forgets_no_lack _ _ _ c.next.new.self.member.facts)
    (among_further
    (hand_given c.args.self.now (record c.args.self.now { core = c.next.new.self }) (option_to_list c.next.result)
    c.next.ensures.front refl) (among_last came (pending_causes c.args.self.now)))

pub returns-then-not-is_idle-clause-fetch_heights : goal.returns-then-not-is_idle-clause-fetch_heights
returns-then-not-is_idle-clause-fetch_heights g c term_length i all done =
    no_higher g.D.PartialEq.eq g.met.D.Digest.equal_is_same g.met.D.Digest.same_is_equal g.L.Elector.elect
    g.D.Digest.bytes g.S.CertificateScheme.certificate_bytes c.args.now term_length i all done
    (forgets_no_lack _ _ _ c.next.new.self.member.facts) (returns-then-not-is_idle-clause-provenance g c)

-- one with none queued, after the work

pub returns-in-Ok-clause-front : goal.returns-in-Ok-clause-front
returns-in-Ok-clause-front g c lives =
    let new = record c.work_unless_settled.new.self { core = c.next-in-Ok.new.self } in
    subst (λ queue. ReturnsFirst {E = Fault} queue (Ok c.next-in-Ok.result) c.args.self.now new)
    (sym (c.is_idle.ensures.0 c.if-not-is_idle.false)) c.next-in-Ok.ensures.none

pub returns-in-Ok-clause-settles : goal.returns-in-Ok-clause-settles
returns-in-Ok-clause-settles g c empty =
    elim (c.in-Ok.ensures.settles) [ inl rests ↦ inl rests | inr settled ↦ inr settled.0 ]

pub returns-in-Ok-clause-stays : goal.returns-in-Ok-clause-stays
returns-in-Ok-clause-stays g c lives empty rests =
    let same = (c.work_unless_settled.ensures.rests rests).1 in
    let none = none_first c.next-in-Ok.result c.next-in-Ok.new.self.outbox.queue.items
    (sym c.next-in-Ok.ensures.front ∙ ap (λ engine. engine.core.outbox.queue.items) same ∙ empty) in
    record {
      nothing = ap Ok none;
      queue = c.next-in-Ok.ensures.none (subst IsNone (sym none) refl);
      member = c.next-in-Ok.ensures.same.0 ∙ ap (λ engine. engine.core.member) same;
      batcher = ap (λ engine. engine.batcher) same;
      plan = ap (λ engine. engine.plan) same;
      settled_at = ap (λ engine. engine.settled_at) same;
    }

pub returns-in-Ok-clause-given : goal.returns-in-Ok-clause-given
returns-in-Ok-clause-given g c = λ given kept.
    c.next-in-Ok.ensures.kept given (c.work_unless_settled.ensures.alone.continues.kept given kept)

pub returns-in-Ok-clause-does : goal.returns-in-Ok-clause-does
returns-in-Ok-clause-does g c =
    does_more c.args.self.now.core c.work_unless_settled.new.self.core c.next-in-Ok.new.self
    c.work_unless_settled.ensures.alone.continues c.next-in-Ok.ensures.same.0

pub returns-in-Ok-clause-traced : goal.returns-in-Ok-clause-traced
returns-in-Ok-clause-traced g c =
    gives_then c.next-in-Ok.new.self (option_to_list c.next-in-Ok.result)
    c.work_unless_settled.ensures.alone.continues c.next-in-Ok.ensures.traced c.next-in-Ok.ensures.signed
    c.next-in-Ok.ensures.same.0

pub returns-in-Ok-clause-reported : goal.returns-in-Ok-clause-reported
returns-in-Ok-clause-reported g c =
    tells_no_other_then c.args.self.now.core c.work_unless_settled.new.self.core
    c.work_unless_settled.ensures.alone.continues c.next-in-Ok.new.self
    (option_to_list c.next-in-Ok.result) c.next-in-Ok.ensures.reported

pub returns-in-Ok-clause-settled : goal.returns-in-Ok-clause-settled
returns-in-Ok-clause-settled g c given kept is =
    let same = g.D.PartialEq.eq in
    let elect = g.L.Elector.elect in
    let bytes_of = g.S.CertificateScheme.certificate_bytes in
    let old = c.args.self.now in
    let new = c.work_unless_settled.new.self in
    stored_beside same elect bytes_of new c.next-in-Ok.new.self c.next-in-Ok.ensures.same.0
    c.next-in-Ok.ensures.same.1
    (stored_for same elect bytes_of c.args.now new
    (settled_for same elect bytes_of c.args.now old new (λ rests. (c.work_unless_settled.ensures.rests rests).1)
    c.in-Ok.ensures.settles is)
    (short_for same elect bytes_of c.args.now old new (λ rests. (c.work_unless_settled.ensures.rests rests).1)
    (c.in-Ok.ensures.short given kept) is))

pub returns-in-Ok-clause-rest : goal.returns-in-Ok-clause-rest
returns-in-Ok-clause-rest g c is none =
    let same = g.D.PartialEq.eq in
    let elect = g.L.Elector.elect in
    let bytes_of = g.S.CertificateScheme.certificate_bytes in
    let new = c.work_unless_settled.new.self in
    let settled = settled_for same elect bytes_of c.args.now c.args.self.now new
    (λ rests. (c.work_unless_settled.ensures.rests rests).1) c.in-Ok.ensures.settles is in
    still_at_rest same elect bytes_of c.args.now settled.since (record new { core = c.next-in-Ok.new.self })
    (record {
      empty = c.next-in-Ok.ensures.none none;
      settled = settled_beside same elect bytes_of settled.since new c.next-in-Ok.new.self new.settled_at
          c.next-in-Ok.ensures.same.0 c.next-in-Ok.ensures.same.1 settled.settled;
    }) settled.lasts

pub returns-in-Ok-clause-short : goal.returns-in-Ok-clause-short
returns-in-Ok-clause-short g c given kept is none =
    let new = c.work_unless_settled.new.self in
    subst (λ m. IsShort new.plan.options.long_record m.facts) (sym c.next-in-Ok.ensures.same.0)
    (short_for g.D.PartialEq.eq g.L.Elector.elect g.S.CertificateScheme.certificate_bytes c.args.now c.args.self.now
    new (λ rests. (c.work_unless_settled.ensures.rests rests).1) (c.in-Ok.ensures.short given kept) is)

pub returns-in-Ok-clause-bounded : goal.returns-in-Ok-clause-bounded
returns-in-Ok-clause-bounded g c =
    let keys_of = g.S.CertificateScheme.participants in
    let alone = c.work_unless_settled.ensures.alone in
    bounded_further keys_of (bounded_still keys_of alone.continues alone.votes)
    (bounded_same keys_of c.work_unless_settled.new.self.core c.next-in-Ok.new.self
    c.work_unless_settled.new.self.batcher c.next-in-Ok.ensures.same.0)

pub returns-in-Ok-clause-admitted : goal.returns-in-Ok-clause-admitted
returns-in-Ok-clause-admitted g c is within none =
    bounded_admitted g.S.CertificateScheme.participants c.next-in-Ok.new.self c.work_unless_settled.new.self.batcher
    ((returns-in-Ok-clause-bounded g c).stays within) (returns-in-Ok-clause-rest g c is none).rest.settled.lowest

pub returns-in-Ok-clause-votes : goal.returns-in-Ok-clause-votes
returns-in-Ok-clause-votes g c = c.work_unless_settled.ensures.alone.votes

pub returns-in-Ok-clause-held : goal.returns-in-Ok-clause-held
returns-in-Ok-clause-held g c =
    forgets_as c.work_unless_settled.new.self.core c.next-in-Ok.new.self c.args.self.now.batcher
    c.work_unless_settled.new.self.batcher c.next-in-Ok.ensures.same.0 c.work_unless_settled.ensures.alone.forgets

pub returns-in-Ok-clause-due_work : goal.returns-in-Ok-clause-due_work
returns-in-Ok-clause-due_work g c = λ given reported.
    let new = c.work_unless_settled.new.self in
    tells_given new (record new { core = c.next-in-Ok.new.self }) (option_to_list c.next-in-Ok.result)
    c.next-in-Ok.ensures.same.0 refl c.next-in-Ok.ensures.front given
    (c.in-Ok.ensures.due_work.stays (work_in given) reported)

pub returns-in-Ok-clause-waiting : goal.returns-in-Ok-clause-waiting
returns-in-Ok-clause-waiting g c = λ is none given reported.
    let new = c.work_unless_settled.new.self in
    all_left new (record new { core = c.next-in-Ok.new.self }) c.next-in-Ok.result none c.next-in-Ok.ensures.same.0
    (c.next-in-Ok.ensures.none none) (returns-in-Ok-clause-rest g c is none).idle.steps refl
    c.next-in-Ok.ensures.front given
    (c.in-Ok.ensures.due_work.stays (work_in given) reported)

pub returns-in-Ok-clause-works : goal.returns-in-Ok-clause-works
returns-in-Ok-clause-works g c =
    let new = c.work_unless_settled.new.self in
    among_further c.in-Ok.ensures.due_work.works
    (works_given new (record new { core = c.next-in-Ok.new.self }) (option_to_list c.next-in-Ok.result) refl
    c.next-in-Ok.ensures.front)

pub returns-in-Ok-clause-near : goal.returns-in-Ok-clause-near
returns-in-Ok-clause-near g c near =
    let new = c.work_unless_settled.new.self in
    near_same new (record new { core = c.next-in-Ok.new.self }) c.next-in-Ok.ensures.same.0 refl
    (c.in-Ok.ensures.due_work.near near)

pub returns-in-Ok-clause-seen : goal.returns-in-Ok-clause-seen
returns-in-Ok-clause-seen g c come =
    let new = c.work_unless_settled.new.self in
    come_beside new (record new { core = c.next-in-Ok.new.self }) c.next-in-Ok.ensures.same.0 refl
    (c.in-Ok.ensures.due_work.seen come)

pub returns-in-Ok-clause-early : goal.returns-in-Ok-clause-early
returns-in-Ok-clause-early g c come =
    subst (λ m. StaysStoredEarly c.args.self.now.plan m.facts c.work_unless_settled.new.self.plan)
    (sym c.next-in-Ok.ensures.same.0) (c.in-Ok.ensures.due_work.early come)

pub returns-in-Ok-clause-provenance : goal.returns-in-Ok-clause-provenance
returns-in-Ok-clause-provenance g c =
    let new = c.work_unless_settled.new.self in
    let returned = record new { core = c.next-in-Ok.new.self } in
    let repair = new.plan.repair in
    comes_then (subst (λ came. IsCaused g.D.PartialEq.eq g.L.Elector.elect g.D.Digest.bytes
    g.S.CertificateScheme.certificate_bytes c.args.now came [] (held_by new) c.args.self.now new)
    (ap (λ m. forgettable m.facts) (sym c.next-in-Ok.ensures.same.0)) c.in-Ok.ensures.provenance)
    (λ kind view un. subst (λ m. option_map_or (λ x. holds repair.resolver.open_fetches x kind view) m.facts.life
    true ≡ false) c.next-in-Ok.ensures.same.0 un)
    (risen_facts (ap (λ m. m.facts) c.next-in-Ok.ensures.same.0))
    (works_given new returned (option_to_list c.next-in-Ok.result) refl c.next-in-Ok.ensures.front)
    (comes_still (ap (λ m. m.facts) c.next-in-Ok.ensures.same.0) refl (λ kind view. refl)
    (hand_given new returned (option_to_list c.next-in-Ok.result) c.next-in-Ok.ensures.front refl))

pub returns-in-Ok-clause-fetch_heights : goal.returns-in-Ok-clause-fetch_heights
returns-in-Ok-clause-fetch_heights g c term_length i all done =
    no_higher g.D.PartialEq.eq g.met.D.Digest.equal_is_same g.met.D.Digest.same_is_equal g.L.Elector.elect
    g.D.Digest.bytes g.S.CertificateScheme.certificate_bytes c.args.now term_length i all done
    (forgets_no_lack _ _ _ c.next-in-Ok.new.self.member.facts) (returns-in-Ok-clause-provenance g c)

-- one whose work failed

pub returns-in-Err-clause-front : goal.returns-in-Err-clause-front
returns-in-Err-clause-front g c lives =
    let new = record c.work_unless_settled.new.self { core = c.fail.new.self } in
    subst (λ queue. ReturnsFirst {E = Fault} queue (Err OutOfMemory) c.args.self.now new)
    (sym (c.is_idle.ensures.0 c.if-not-is_idle.false)) tt

pub returns-in-Err-clause-stays : goal.returns-in-Err-clause-stays
returns-in-Err-clause-stays g c lives empty rests =
    absurd (false≢true (subst IsOk c.in-Err.is (c.work_unless_settled.ensures.rests rests).0))

pub returns-in-Err-clause-given : goal.returns-in-Err-clause-given
returns-in-Err-clause-given g c =
    gives_nothing (goes_further c.work_unless_settled.ensures.alone.continues c.fail.ensures.continues)

pub returns-in-Err-clause-does : goal.returns-in-Err-clause-does
returns-in-Err-clause-does g c =
    does_more c.args.self.now.core c.fail.new.self c.fail.new.self
    (goes_further c.work_unless_settled.ensures.alone.continues c.fail.ensures.continues) refl

pub returns-in-Err-clause-traced : goal.returns-in-Err-clause-traced
returns-in-Err-clause-traced g c =
    gives_none (goes_further c.work_unless_settled.ensures.alone.continues c.fail.ensures.continues)

pub returns-in-Err-clause-reported : goal.returns-in-Err-clause-reported
returns-in-Err-clause-reported g c =
    tells_no_other c.args.self.now.core c.fail.new.self
    (goes_further c.work_unless_settled.ensures.alone.continues c.fail.ensures.continues)

pub returns-in-Err-clause-votes : goal.returns-in-Err-clause-votes
returns-in-Err-clause-votes g c = c.work_unless_settled.ensures.alone.votes

pub returns-in-Err-clause-held : goal.returns-in-Err-clause-held
returns-in-Err-clause-held g c =
    forgets_as c.work_unless_settled.new.self.core c.fail.new.self c.args.self.now.batcher
    c.work_unless_settled.new.self.batcher (ap (λ core. core.member) c.fail.ensures.failed)
    c.work_unless_settled.ensures.alone.forgets

pub returns-in-Err-clause-bounded : goal.returns-in-Err-clause-bounded
returns-in-Err-clause-bounded g c =
    let keys_of = g.S.CertificateScheme.participants in
    let alone = c.work_unless_settled.ensures.alone in
    bounded_further keys_of (bounded_still keys_of alone.continues alone.votes)
    (bounded_still keys_of c.fail.ensures.continues (takes_nothing c.work_unless_settled.new.self.batcher))

pub returns-in-Err-clause-failed : goal.returns-in-Err-clause-failed
returns-in-Err-clause-failed g c = ap has_failed c.fail.ensures.failed

pub returns-in-Err-clause-error : goal.returns-in-Err-clause-error
returns-in-Err-clause-error g c =
    ap (λ had_failed. if had_failed then Failed else OutOfMemory)
    (sym (sym c.has_failed.ensures ∙ c.if-has_failed.false))
