-- What a history says of a view grows by what its latest event says.
use Rattle.std.proofs.Common.{◌≡◌, refl, ap, sym, ◌∙◌, ℕ, ◌+◌, Bool, true, false, ◌||◌, if◌then◌else◌, ◌∷◌, Option, Some, None, unwrap_or, option_map}
use Rattle.std.specs.Prelude.{option_and_then}
use Rattle.std.specs.Option.{option_or}
use Rattle.std.proofs.lemmas.Bool.{true≢false}
use Rattle.simplex_types.specs.declared.reasons.TimeoutReason.{TimeoutReason}
use Rattle.simplex_round.specs.declared.round.Decision.{Decision}
use Rattle.simplex_round.specs.declared.round.Decision.TheVariants.{Pending, Nullify, Finalize}
use Rattle.simplex_round.specs.Round.{is_finalize}
use Rattle.simplex_voter.specs.Facts.{Settings, StateFacts, Elect}
use Rattle.simplex_record.specs.Events.{Event}
use Rattle.laws_history.specs.History.{History}
use Rattle.laws_history.specs.OwnWork.{facts_after, was_done, first_said, last_said}
use Rattle.laws_history.specs.HistoryFolds.{or_new}
use Rattle.laws_history.proofs.Worked.{timed}

-- a decision that follows from what was said so far
abbrev pub replied_decision : Settings → (finalize nullify : Bool) → Option ℕ → Option (ℕ × TimeoutReason) → Option ℕ
    → Decision
replied_decision settings finalize nullify entry latch retry =
    if finalize
    then Finalize
    else (if nullify
    then Nullify retry
    else Pending (option_map (λ at. at + settings.leader_timeout) entry)
    (option_map (λ at. at + settings.certification_timeout) entry) latch)

-- it is to finalize where that vote is recorded
pub reply_finalize : (settings : Settings) (finalize nullify : Bool) (entry : Option ℕ)
    (latch : Option (ℕ × TimeoutReason)) (retry : Option ℕ)
    → is_finalize (replied_decision settings finalize nullify entry latch retry) ≡ finalize
reply_finalize s true nullify entry latch retry = refl
reply_finalize s false true entry latch retry = refl
reply_finalize s false false entry latch retry = refl

either_entry : (limit : ℕ) (new old : Option ℕ)
    → option_or (option_map (λ at. at + limit) new) (option_map (λ at. at + limit) old) ≡ option_map (λ at. at + limit)
    (option_or new old)
either_entry limit None old = refl
either_entry limit (Some at) old = refl

timed_further : (settings : Settings) (finalize nullify : Bool) (new old : Option ℕ)
    (latch first : Option (ℕ × TimeoutReason)) (retry again : Option ℕ)
    → timed settings new latch retry (replied_decision settings finalize nullify old first again)
    ≡ replied_decision settings
    finalize nullify (option_or new old) (or_new first latch) (option_or retry again)
timed_further s true nullify new old latch first retry again = refl
timed_further s false true new old latch first retry again = refl
timed_further s false false new old latch first retry again =
    λ i. Pending (either_entry s.leader_timeout new old i) (either_entry s.certification_timeout new old i)
    (or_new first latch)

-- a vote to nullify is not decided where one to finalize is
pub decided_further : (settings : Settings) (to_finalize finalize to_nullify nullify : Bool) (new old : Option ℕ)
    (latch first : Option (ℕ × TimeoutReason)) (retry again : Option ℕ) (after : Decision) →
    after ≡ (if to_finalize then Finalize else
    (if to_nullify then Nullify None else timed settings new latch retry
    (replied_decision settings finalize nullify old first again))) →
    is_finalize after ≡ (to_finalize || finalize) →
    after ≡ replied_decision settings (to_finalize || finalize) (to_nullify || nullify) (option_or new old)
    (or_new first latch) (if to_nullify then None else option_or retry again)
decided_further s true finalize to_nullify nullify new old latch first retry again after is kind = is
decided_further s false true true nullify new old latch first retry again after is kind =
    absurd (true≢false (sym kind ∙ ap is_finalize is))
decided_further s false false true nullify new old latch first retry again after is kind = is
decided_further s false finalize false nullify new old latch first retry again after is kind = is
    ∙ timed_further s finalize nullify new old latch first retry again

last_or_before : {A : Type 0} (new old : Option A) (a : A)
    → unwrap_or new (unwrap_or old a) ≡ unwrap_or (option_or new old) a
last_or_before None old a = refl
last_or_before (Some b) old a = refl

pub stalled_further : (stall : Option ℕ) (new old : Option ℕ)
    → unwrap_or (option_map (λ at. option_map (λ time. at + time) stall) new)
    (option_and_then (λ at. option_map (λ time. at + time) stall) old) ≡ option_and_then
    (λ at. option_map (λ time. at + time) stall) (option_or new old)
stalled_further stall None old = refl
stalled_further stall (Some at) old = refl

module _ {K L D : Type 0} (same : D → D → Bool) (elect : Elect L) (history : History K L D) (x : StateFacts K L D)
    (facts : x ≡ facts_after same elect history.fresh history.events) (e : Event K D) where
  -- one sum more

  pub done_further : (does : StateFacts K L D → Event K D → Bool) (b : Bool)
      → b ≡ was_done same elect does history.fresh history.events
      → (does x e || b) ≡ was_done same elect does history.fresh (e ∷ history.events)
  done_further does b is = ap (λ c. does x e || c) is
      ∙ ap (λ z. does z e || was_done same elect does history.fresh history.events) facts

  pub first_further : {A : Type 0} (says : StateFacts K L D → Event K D → Option A) (o : Option A)
      → o ≡ first_said same elect says history.fresh history.events
      → or_new o (says x e) ≡ first_said same elect says history.fresh (e ∷ history.events)
  first_further says o is = ap (λ p. or_new p (says x e)) is
      ∙ ap (λ z. or_new (first_said same elect says history.fresh history.events) (says z e)) facts

  pub last_further : {A : Type 0} (says : StateFacts K L D → Event K D → Option A) (o : Option A)
      → o ≡ last_said same elect says history.fresh history.events
      → option_or (says x e) o ≡ last_said same elect says history.fresh (e ∷ history.events)
  last_further says o is = ap (option_or (says x e)) is
      ∙ ap (λ z. option_or (says z e) (last_said same elect says history.fresh history.events)) facts

  pub known_further : {A : Type 0} (says : StateFacts K L D → Event K D → Option A) (first a : A)
      → a ≡ unwrap_or (last_said same elect says history.fresh history.events) first
      → unwrap_or (says x e) a ≡ unwrap_or (last_said same elect says history.fresh (e ∷ history.events)) first
  known_further says first a is =
      ap (unwrap_or (says x e)) is
      ∙ last_or_before (says x e) (last_said same elect says history.fresh history.events) first
      ∙ ap (λ z. unwrap_or (option_or (says z e) (last_said same elect says history.fresh history.events)) first) facts
