-- Each poll of a settled engine takes the first queued output, and nothing else changes.
use Rattle.std.proofs.Common.{◌≡◌, ◌∙◌, ◌⊎◌, inl, inr, refl, sym, subst, ap, ℕ, suc, pred, ◌<◌, List, [], ◌∷◌, length, drop, map, Option, None, Result, Ok, Err, arith}
use Rattle.std.specs.Prelude.{All}
use Rattle.std.proofs.lemmas.List.{nil_from_length}
use Rattle.std.proofs.lemmas.List.Elements.{All-cons, All-head, All-nil, All-tail}
use Rattle.simplex_types.specs.declared.types.fault.Fault.{Fault}
use Rattle.simplex_member.specs.declared.member.journal.Stored.{Stored}
use Rattle.engine_outbox.specs.declared.output.Output.{Output}
use Rattle.engine_planner.specs.declared.plan.Plan.{Plan}
use Rattle.engine_planner.specs.PlanStates.{IsWake}
use Rattle.simplex_engine.specs.declared.engine.Engine.{Engine}
use Rattle.simplex_engine.specs.AtRest.{HasSettled, RestLasts, ReturnsFirst, StaysAtRest, StaysSettled}
use Rattle.laws_engine.specs.Polls.{ArePolls, IsPoll, Poll, ReturnQueue, first_of}

-- what a poll returned, of a result that is `Ok`
abbrev returned : {A : Type 0} → A → Result A Fault → A
returned none (Ok x) = x
returned none (Err fault) = none

module _ {S L D K G C : Type 0} where
  -- the same plan wakes the engine at the same moment
  stays_so : {now : ℕ} (old new : Engine S L D K G C) → new.plan ≡ old.plan → new.settled_at ≡ old.settled_at
      → StaysSettled now old → StaysSettled now new
  stays_so {now = now} old new plan settled_at is = record {
    since = is.since;
    settled = settled_at ∙ is.settled;
    lasts = subst (λ (p : Plan S D K G C). (now ≡ is.since)
        ⊎ ((is.since < now) × ((wake : ℕ) × IsWake p.repair.fetches.wanted.items p.timeout wake × (now < wake))))
        (sym plan) is.lasts;
  }

  all_so : (polls : List (Poll S D K G C)) (old new : Engine S L D K G C) → new.plan ≡ old.plan
      → new.settled_at ≡ old.settled_at → All (λ poll. StaysSettled poll.now old) polls
      → All (λ poll. StaysSettled poll.now new) polls
  all_so polls old new plan settled_at all = λ k poll within. stays_so old new plan settled_at (all k poll within)

  -- a poll with nothing queued settles the engine for its moment
  settles_for : (now : ℕ) (out : Option (Output S D Stored K G C)) (old new : Engine S L D K G C)
      → IsPoll now out old new → old.core.outbox.queue.items ≡ [] → StaysSettled now new
  settles_for now out old new poll empty = by_rest (poll.settles empty)
    where
      by_rest : StaysSettled now old ⊎ HasSettled now new → StaysSettled now new
      by_rest (inl rests) =
          let same = poll.stays empty rests in stays_so old new same.plan same.settled_at rests
      by_rest (inr at) = record { since = now; settled = at; lasts = inl refl }

  pub queue_returned : (polls : List (Poll S D K G C)) (first last : Engine S L D K G C)
      → All (λ poll. StaysSettled poll.now first) polls → ArePolls polls first last
      → ReturnQueue first.core.outbox.queue.items (map (λ poll. poll.out) polls)
  queue_returned [] first last all polls = tt
  queue_returned (poll ∷ rest) first last all (next, is, polls) =
      by_queue (λ later. queue_returned rest next last later polls) first.core.outbox.queue.items refl
    where
      later : All (λ (p : Poll S D K G C). StaysSettled p.now first) rest
      later = All-tail (λ (p : Poll S D K G C). StaysSettled p.now first) poll rest all

      by_queue : (All (λ (p : Poll S D K G C). StaysSettled p.now next) rest
          → ReturnQueue next.core.outbox.queue.items (map (λ (p : Poll S D K G C). p.out) rest))
          → (queue : List (Output S D Stored K G C)) → first.core.outbox.queue.items ≡ queue
          → (poll.out ≡ first_of queue)
          × ReturnQueue (drop 1 queue) (map (λ (p : Poll S D K G C). p.out) rest)
      by_queue then [] empty =
          let stays = is.stays empty (All-head (λ (p : Poll S D K G C). StaysSettled p.now first) poll rest all) in (
            ap (returned None) stays.nothing,
            subst (λ queue. ReturnQueue queue (map (λ (p : Poll S D K G C). p.out) rest)) stays.queue
                (then (all_so rest first next stays.plan stays.settled_at later)),
          )
      by_queue then (x ∷ queue) queued =
          let front = subst (λ items. ReturnsFirst {E = Fault} items (Ok poll.out) first next) queued is.front in (
            ap (returned None) front.0,
            subst (λ left. ReturnQueue left (map (λ (p : Poll S D K G C). p.out) rest)) front.1
                (then (all_so rest first next front.4 front.5 later)),
          )

  -- as many polls as outputs are queued empty the queue
  emptied : (polls : List (Poll S D K G C)) (first last : Engine S L D K G C) → ArePolls polls first last
      → length polls ≡ length first.core.outbox.queue.items → last.core.outbox.queue.items ≡ []
  emptied [] first last polls is = ap (λ (engine : Engine S L D K G C). engine.core.outbox.queue.items) polls
      ∙ nil_from_length first.core.outbox.queue.items (sym is)
  emptied (poll ∷ rest) first last (next, is, polls) count =
      by_queue (emptied rest next last polls) first.core.outbox.queue.items refl
    where
      by_queue : (length rest ≡ length next.core.outbox.queue.items → last.core.outbox.queue.items ≡ [])
          → (queue : List (Output S D Stored K G C))
          → first.core.outbox.queue.items ≡ queue → last.core.outbox.queue.items ≡ []
      by_queue then [] empty = let none : suc (length rest) ≡ 0 = count ∙ ap length empty in absurd (cc)
      by_queue then (x ∷ queue) queued =
          let front = subst (λ items. ReturnsFirst {E = Fault} items (Ok poll.out) first next) queued is.front in
          let counted : suc (length rest) ≡ suc (length queue) = count ∙ ap length queued in
          then (ap pred counted ∙ sym (ap length front.1))

  pub settled_then : (polls : List (Poll S D K G C)) (now : ℕ) (out : Option (Output S D Stored K G C))
      (first next last : Engine S L D K G C) → ArePolls polls first next
      → length polls ≡ length first.core.outbox.queue.items → IsPoll now out next last → StaysSettled now last
  settled_then polls now out first next last are count poll =
      settles_for now out next last poll (emptied polls first next are count)

  -- where nothing is returned, nothing was queued, and nothing is
  none_queued : (now : ℕ) (old new : Engine S L D K G C) → IsPoll now None old new
      → (old.core.outbox.queue.items ≡ []) × (new.core.outbox.queue.items ≡ [])
  none_queued now old new poll = by_queue old.core.outbox.queue.items refl
    where
      by_queue : (queue : List (Output S D Stored K G C)) → old.core.outbox.queue.items ≡ queue
          → (old.core.outbox.queue.items ≡ []) × (new.core.outbox.queue.items ≡ [])
      by_queue [] empty =
          let left = subst (λ items. ReturnsFirst {E = Fault} items (Ok None) old new) empty poll.front in
          (empty, left refl)
      by_queue (x ∷ queue) queued =
          let front = subst (λ items. ReturnsFirst {E = Fault} items (Ok None) old new) queued poll.front in
          let none = ap (returned None) front.0 in
          absurd (cc)

  -- a rest since a moment for which the engine is settled is part of its rest
  lasts_on : (now moment : ℕ) (engine : Engine S L D K G C) → StaysSettled now engine → RestLasts now moment engine
      → StaysSettled moment engine
  lasts_on now moment engine is (inl at) = subst (λ m. StaysSettled m engine) (sym at) is
  lasts_on now moment engine is (inr (later, before)) =
      record { since = is.since; settled = is.settled; lasts = inr (after is.lasts, before) }
    where
      after : RestLasts is.since now engine → is.since < moment
      after (inl at) = subst (λ m. m < moment) at later
      after (inr (since, _)) = omega (arith, since, later)

  -- polls of an engine that stays settled, with nothing queued
  unchanged : (polls : List (Poll S D K G C)) (first last : Engine S L D K G C)
      → first.core.outbox.queue.items ≡ [] → All (λ poll. StaysSettled poll.now first) polls
      → ArePolls polls first last
      → All (λ (poll : Poll S D K G C). poll.out ≡ None) polls × StaysAtRest {E = Fault} (Ok None) first last
  unchanged [] first last empty all same = (
    All-nil (λ (poll : Poll S D K G C). poll.out ≡ None),
    record {
      nothing = refl;
      queue = ap (λ (engine : Engine S L D K G C). engine.core.outbox.queue.items) same ∙ empty;
      member = ap (λ (engine : Engine S L D K G C). engine.core.member) same;
      batcher = ap (λ (engine : Engine S L D K G C). engine.batcher) same;
      plan = ap (λ (engine : Engine S L D K G C). engine.plan) same;
      settled_at = ap (λ (engine : Engine S L D K G C). engine.settled_at) same;
    },
  )
  unchanged (poll ∷ rest) first last empty all (next, is, polls) =
      let settled = λ (p : Poll S D K G C). StaysSettled p.now first in
      let stays = is.stays empty (All-head settled poll rest all) in
      let others = unchanged rest next last stays.queue
      (all_so rest first next stays.plan stays.settled_at (All-tail settled poll rest all)) polls in (
        All-cons (λ (p : Poll S D K G C). p.out ≡ None) poll rest (ap (returned None) stays.nothing) others.0,
        record {
          nothing = refl;
          queue = others.1.queue;
          member = others.1.member ∙ stays.member;
          batcher = others.1.batcher ∙ stays.batcher;
          plan = others.1.plan ∙ stays.plan;
          settled_at = others.1.settled_at ∙ stays.settled_at;
        },
      )

  pub rests : (now : ℕ) (before first last : Engine S L D K G C) (polls : List (Poll S D K G C))
      → IsPoll now None before first → All (λ poll. RestLasts now poll.now first) polls → ArePolls polls first last
      → All (λ (poll : Poll S D K G C). poll.out ≡ None) polls × StaysAtRest {E = Fault} (Ok None) first last
  rests now before first last polls poll all are =
      let none = none_queued now before first poll in
      let settled = settles_for now None before first poll none.0 in
      unchanged polls first last none.1
      (λ k p within. lasts_on now _ first settled (all k p within)) are
