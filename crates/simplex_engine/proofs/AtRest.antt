-- An engine that has settled, while its queue is returned, and while its rest lasts.
use Rattle.std.proofs.Common.{◌≡◌, ◌∙◌, ◌⊎◌, inl, inr, refl, sym, subst, ap, ℕ, Bool, true, false, ◌≤◌, ◌<◌, List, [], ◌++◌, length, Option, Some, None}
use Rattle.std.specs.Prelude.{IfSome, IsNone, option_to_list}
use Rattle.std.proofs.lemmas.Bool.{true≢false}
use Rattle.simplex_voter.specs.Facts.{Elect}
use Rattle.simplex_voter.specs.Windows.{min_active}
use Rattle.simplex_member.specs.Calls.{ReplyFacts, TimesOut}
use Rattle.simplex_member.specs.MemberFacts.{MemberFacts}
use Rattle.engine_votes.specs.StoredVotes.{HoldsFrom}
use Rattle.engine_fetches.specs.OutstandingFetches.{FetchesTheMissing}
use Rattle.engine_outbox.specs.declared.journaled.Journaled.{Journaled}
use Rattle.engine_outbox.specs.RecordReach.{IsShort}
use Rattle.engine_planner.specs.Blocks.{builds_from}
use Rattle.engine_planner.specs.PlanStates.{IsIdle}
use Rattle.simplex_engine.specs.declared.engine.Engine.{Engine}
use Rattle.simplex_engine.specs.declared.input.Input.{Input}
use Rattle.simplex_engine.specs.declared.input.Input.TheVariants as input
use Rattle.simplex_engine.specs.Admission.{IsTurnedAway, IsStoredEarly}
use Rattle.simplex_engine.specs.AtRest.{HasSettled, IsEngineAtRest, IsSettled, IsSettledAsStored, IsStillAtRest, RestLasts, StaysSettled, unsettled}
use Rattle.simplex_engine.specs.NothingDue.{HasNothingNew}
use Rattle.simplex_engine.specs.Timeouts.{IsAwaited, IsTimed}
use Rattle.simplex_engine.proofs.Wakes.{none_due_before}

-- nothing is taken from an empty queue
pub none_first : {A : Type 0} (out : Option A) (left : List A) → option_to_list out ++ left ≡ [] → out ≡ None
none_first None left is = refl
none_first (Some x) left is = absurd (cc)

-- the first of a queue that is not empty is taken
pub some_first : {A : Type 0} {is_idle : Bool} (out : Option A) (queue left : List A)
    → (queue ≡ [] → is_idle ≡ true) → is_idle ≡ false → (IsNone out → left ≡ [])
    → queue ≡ option_to_list out ++ left → (x : A) × (out ≡ Some x)
some_first (Some x) queue left idle busy none front = (x, refl)
some_first None queue left idle busy none front =
    absurd (true≢false (sym (idle (front ∙ none refl)) ∙ busy))

-- and not nothing
pub never_none : {A P : Type 0} {is_idle : Bool} (out : Option A) (queue left : List A)
    → (queue ≡ [] → is_idle ≡ true) → is_idle ≡ false → (IsNone out → left ≡ [])
    → queue ≡ option_to_list out ++ left → IsNone out → P
never_none (Some x) queue left idle busy none front is = absurd (cc)
never_none None queue left idle busy none front is = absurd (true≢false (sym (idle (front ∙ none is)) ∙ busy))

-- the timeout that was named lies after any moment before the stored one
awaited_then : {K D : Type 0} (since now timeout : ℕ) (answer : ReplyFacts K D) → now < timeout
    → IsAwaited since timeout answer → IsAwaited now timeout answer
awaited_then since now timeout (TimesOut (Some (moment, reason))) before (is, later) =
    (is, subst (λ at. now < at) is before)
awaited_then since now timeout answer before is = tt

module _ {S L D K G C : Type 0} (same : D → D → Bool) (elect : Elect L) (bytes_of : C → List ℕ) where
  -- it stays settled where the member stays, and what of its record was queued to be stored
  pub settled_beside : (now : ℕ) (engine : Engine S L D K G C) (core : Journaled S L D K G C) (settled_at : Option ℕ)
      → core.member ≡ engine.core.member → core.stored ≡ engine.core.stored
      → IsSettled same elect bytes_of now engine
      → IsSettled same elect bytes_of now (record engine { core = core; settled_at = settled_at })
  settled_beside now engine core settled_at member stored is =
      let repair = engine.plan.repair in
      record {
        whole = subst (λ m. length m.facts.entries ≤ core.stored) (sym member)
            (subst (λ count. length engine.core.member.facts.entries ≤ count) (sym stored) is.whole);
        quiet = subst (λ m. HasNothingNew same elect now engine.plan.timeout m.facts) (sym member) is.quiet;
        timed = subst (λ m. (before : MemberFacts K L D) × IsTimed same elect now engine.plan.timeout before m.facts)
            (sym member) is.timed;
        idle = is.idle;
        ahead = subst (λ m. IfSome m.facts.life (λ x. builds_from x.current engine.plan.builds.buildings.items ≡ true))
            (sym member) is.ahead;
        lowest = subst (λ m. IfSome m.facts.life (λ x. HoldsFrom (min_active x) engine.batcher)) (sym member) is.lowest;
        missing = subst (λ m. IfSome m.facts.life
            (λ x. FetchesTheMissing repair.resolver.open_fetches x repair.fetches.wanted.items)) (sym member)
            is.missing;
      }

  -- so does the moment that it stores
  pub stored_beside : (engine : Engine S L D K G C) (core : Journaled S L D K G C) → core.member ≡ engine.core.member
      → core.stored ≡ engine.core.stored
      → IsSettledAsStored same elect bytes_of engine
      → IsSettledAsStored same elect bytes_of (record engine { core = core })
  stored_beside engine core member stored = by_moment engine.settled_at
    where
      by_moment : (settled_at : Option ℕ)
          → IfSome settled_at (λ moment. IsSettled same elect bytes_of moment engine
          × IsShort engine.plan.options.long_record engine.core.member.facts)
          → IfSome settled_at (λ moment. IsSettled same elect bytes_of moment (record engine { core = core })
          × IsShort engine.plan.options.long_record core.member.facts)
      by_moment None is = tt
      by_moment (Some moment) is = (
        settled_beside moment engine core engine.settled_at member stored is.0,
        subst (λ m. IsShort engine.plan.options.long_record m.facts) (sym member) is.1,
      )

  -- an engine that settled at a moment is settled at it, and its record is short
  pub settled_at_it : (since : ℕ) (engine : Engine S L D K G C) → HasSettled since engine
      → IsSettledAsStored same elect bytes_of engine
      → IsSettled same elect bytes_of since engine × IsShort engine.plan.options.long_record engine.core.member.facts
  settled_at_it since engine at is =
      subst (λ settled_at. IfSome settled_at (λ moment. IsSettled same elect bytes_of moment engine
      × IsShort engine.plan.options.long_record engine.core.member.facts)) at is

  -- settled for a moment: at it, or at one since which the rest lasts
  pub record IsSettledFor (now : ℕ) (engine : Engine S L D K G C) : Type 0 where
    pub since : ℕ
    pub at : HasSettled since engine
    pub lasts : RestLasts since now engine
    pub settled : IsSettled same elect bytes_of since engine

  module _ (now : ℕ) (old new : Engine S L D K G C) (rests : StaysSettled now old → new ≡ old) where
    -- an engine that stays settled, or that has settled
    pub settled_for : StaysSettled now old ⊎ (HasSettled now new × IsSettled same elect bytes_of now new)
        → IsSettledAsStored same elect bytes_of old → IsSettledFor now new
    settled_for (inr (at, settled)) is = record { since = now; at = at; lasts = inl refl; settled = settled }
    settled_for (inl stays) is =
        subst (λ engine. IsSettledFor now engine) (sym (rests stays))
        (record {
          since = stays.since;
          at = stays.settled;
          lasts = stays.lasts;
          settled = (settled_at_it stays.since old stays.settled is).0;
        })

    pub short_for : StaysSettled now old ⊎ IsShort new.plan.options.long_record new.core.member.facts
        → IsSettledAsStored same elect bytes_of old → IsShort new.plan.options.long_record new.core.member.facts
    short_for (inr short) is = short
    short_for (inl stays) is =
        subst (λ (engine : Engine S L D K G C). IsShort engine.plan.options.long_record engine.core.member.facts)
        (sym (rests stays)) (settled_at_it stays.since old stays.settled is).1

  pub stored_for : (now : ℕ) (engine : Engine S L D K G C) → IsSettledFor now engine
      → IsShort engine.plan.options.long_record engine.core.member.facts → IsSettledAsStored same elect bytes_of engine
  stored_for now engine is short =
      subst (λ settled_at. IfSome settled_at (λ moment. IsSettled same elect bytes_of moment engine
      × IsShort engine.plan.options.long_record engine.core.member.facts)) (sym is.at) (is.settled, short)

  -- nothing is due while the rest lasts
  pub still_at_rest : (now since : ℕ) (engine : Engine S L D K G C) → IsEngineAtRest same elect bytes_of since engine
      → RestLasts since now engine → IsStillAtRest same elect bytes_of now engine
  still_at_rest now since engine rest (inl is) = record {
    since = since;
    rest = rest;
    lasts = inl is;
    awaited = subst (λ at. IsAwaited at engine.plan.timeout rest.settled.timed.1.answer) (sym is)
        rest.settled.timed.1.awaited;
    idle = subst (λ at. IsIdle at engine.plan) (sym is) rest.settled.idle;
  }
  still_at_rest now since engine rest (inr (later, (wake, at, before))) =
      let none = none_due_before now engine.plan.timeout wake engine.plan.repair.fetches.wanted.items at before in
      let idle = rest.settled.idle in
      record {
        since = since;
        rest = rest;
        lasts = inr (later, (wake, at, before));
        awaited = awaited_then since now engine.plan.timeout rest.settled.timed.1.answer none.0
            rest.settled.timed.1.awaited;
        idle = record {
          steps = idle.steps;
          watched = idle.watched;
          timeout = idle.timeout;
          pruned = idle.pruned;
          fetched = none.1;
        };
      }

-- an input that is not admitted changes nothing else where the engine looks for what is due at the next poll
module _ {S L D K G C : Type 0} where
  early_unsettled : (from : ℕ) {proposal : _} {old new : Engine S L D K G C} → IsStoredEarly from proposal old new
      → IsStoredEarly from proposal (unsettled old) (unsettled new)
  early_unsettled from is = record { kept = is.kept; same = ap unsettled is.same }

  pub turned_away_unsettled : (passed : Input S D K G C) (old new : Engine S L D K G C) → IsTurnedAway passed old new
      → IsTurnedAway passed (unsettled old) (unsettled new)
  turned_away_unsettled (input.Proposal from proposal) old new is = early_unsettled from is
  turned_away_unsettled (input.Vote vote) old new is = ap unsettled is
  turned_away_unsettled (input.Certificate certificate) old new is = ap unsettled is
  turned_away_unsettled (input.Verified view is_valid) old new is = ap unsettled is
  turned_away_unsettled (input.Built context payload) old new is = ap unsettled is
  turned_away_unsettled (input.Certified view is_success) old new is = ap unsettled is
  turned_away_unsettled (input.GivenUp view reason) old new is = ap unsettled is
