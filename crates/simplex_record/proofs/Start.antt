-- A floor that breaks no rule is taken by a new state, and refused for a late deadline alone.
use Rattle.std.proofs.Common.{◌≡◌, refl, ap, ◌∙◌, ℕ, ◌+◌, Bool, true, false, not, ◌&&◌, ◌||◌, ◌==◌, nat_lt, nat_le, if◌then◌else◌, [], ◌∷◌, Option, Some, None, IfSome, option_map, Result, Ok, Err, arith}
use Rattle.std.proofs.lemmas.Bool.Decides.{nat_tests}
use Rattle.std.specs.Option.{option_or}
use Rattle.std.specs.Result.{result_err}
use Rattle.simplex_types.specs.Config.{FloorFacts, Genesis, Finalized}
use Rattle.simplex_types.specs.declared.types.fault.Fault.{Fault}
use Rattle.simplex_types.specs.declared.types.fault.Fault.TheVariants as fault
use Rattle.simplex_voter.specs.Facts.{StateFacts}
use Rattle.simplex_voter.specs.Refusals.{is_too_large, has_late_deadline, HasFailed}
use Rattle.simplex_voter.specs.Acceptance.{takes_floor, floor_refusal}
use Rattle.simplex_record.specs.declared.record.error.RecoverError.{RecoverError}
use Rattle.simplex_record.specs.declared.record.error.RecoverError.TheVariants as error
use Rattle.simplex_record.specs.Check.{first_error, recovery_floor_rules, first_recover_error}
use Rattle.simplex_record.specs.Recovery.{recover_error}
use Rattle.simplex_record.specs.Start.{IsErrorDue, error_of}
use Rattle.simplex_record.proofs.CheckState.{unbroken, rest_unbroken, from_not_false, option_or_none}

all_of : (a b c : Bool) → a ≡ true → b ≡ true → c ≡ true → (a && b && c) ≡ true
all_of a b c h k l = rw (h, k, l) refl

late_only : (too_large late : Bool) → too_large ≡ false
    → (if too_large then Some fault.ViewTooLarge else (if late then Some fault.TimeOverflow else None))
    ≡ (if late then Some fault.TimeOverflow else None)
late_only too_large late small = rw small refl

module _ {K L D : Type 0} (x : StateFacts K L D) (new : x.current ≡ 0) where
  pub good_floor : (floor : FloorFacts D) → first_error (recovery_floor_rules x.settings.epoch floor) ≡ None
      → takes_floor x floor ≡ true
  good_floor (Genesis payload) good = rw new refl
  good_floor (Finalized c) good =
      let r = c.proposal.round in
      let epoch = unbroken (not (r.epoch == x.settings.epoch)) error.OtherEpoch
      ((r.view == 0, error.ZeroView) ∷ (is_too_large r.view || is_too_large c.proposal.parent, error.ViewTooLarge)
      ∷ []) good in
      let rest = rest_unbroken (not (r.epoch == x.settings.epoch)) error.OtherEpoch
      ((r.view == 0, error.ZeroView) ∷ (is_too_large r.view || is_too_large c.proposal.parent, error.ViewTooLarge)
      ∷ []) good in
      let above : (r.view == 0) ≡ false = unbroken (r.view == 0) error.ZeroView
      ((is_too_large r.view || is_too_large c.proposal.parent, error.ViewTooLarge) ∷ []) rest in
      all_of (x.current == 0) (r.epoch == x.settings.epoch) (nat_le 1 r.view) (rw new refl)
      (from_not_false (r.epoch == x.settings.epoch) epoch) (grind (arith, nat_tests))

  pub floor_due : (floor : FloorFacts D) (now : ℕ) → x.failed ≡ false
      → first_error (recovery_floor_rules x.settings.epoch floor) ≡ None
      → floor_refusal x floor now ≡ (if has_late_deadline x now then Some fault.TimeOverflow else None)
  floor_due (Genesis payload) now going good = rw (going, new) refl
  floor_due (Finalized c) now going good =
      let r = c.proposal.round in
      let rest = rest_unbroken (not (r.epoch == x.settings.epoch)) error.OtherEpoch
      ((r.view == 0, error.ZeroView) ∷ (is_too_large r.view || is_too_large c.proposal.parent, error.ViewTooLarge)
      ∷ []) good in
      let small = unbroken (is_too_large r.view || is_too_large c.proposal.parent) error.ViewTooLarge []
      (rest_unbroken (r.view == 0) error.ZeroView
      ((is_too_large r.view || is_too_large c.proposal.parent, error.ViewTooLarge) ∷ []) rest) in
      let ahead : nat_lt 0 (r.view + 1) ≡ true = grind (arith, nat_tests) in
      rw (going, new, ahead)
      (late_only (is_too_large r.view || is_too_large c.proposal.parent) (has_late_deadline x now) small)

module _ {K L D : Type 0} (same : D → D → Bool) (x : StateFacts K L D) (floor : FloorFacts D) (now : ℕ) where
  error_alone : recover_error same x floor now [] ≡ option_or
      (first_error (recovery_floor_rules x.settings.epoch floor))
      (if has_late_deadline x now then Some error.TimeOverflow else None)
  unfolding first_recover_error
  error_alone = ap (λ o. option_or o (if has_late_deadline x now then Some error.TimeOverflow else None))
      (option_or_none (first_error (recovery_floor_rules x.settings.epoch floor)))

  pub bad_floor : (e : RecoverError) → first_error (recovery_floor_rules x.settings.epoch floor) ≡ Some e
      → IsErrorDue (recover_error same x floor now []) e
  bad_floor e broken = rw (error_alone, broken) refl

  pub floor_error : x.current ≡ 0 → x.failed ≡ false → first_error (recovery_floor_rules x.settings.epoch floor) ≡ None
      → recover_error same x floor now [] ≡ option_map error_of (floor_refusal x floor now)
  floor_error new going good = error_alone ∙ rw (good, floor_due x new floor now going good)
      (lates (has_late_deadline x now))
    where
      lates : (late : Bool) → (if late then Some error.TimeOverflow else None) ≡ option_map error_of
          (if late then Some fault.TimeOverflow else None)
      lates true = refl
      lates false = refl

abbrev option_fault : Option Fault → Fault → Fault
option_fault None other = other
option_fault (Some f) other = f

-- the fault that a state gave is due
pub due_error : {K L D : Type 0} (T : Type 0) (due : Option Fault) (found : Fault) (x y : StateFacts K L D)
    → IfSome due (λ f. (◌≡◌ {A = Result T Fault} (Err found) (Err f)) × (y ≡ x))
    → (due ≡ None → (found ≡ fault.OutOfMemory) × HasFailed x y) → IsErrorDue (option_map error_of due) (error_of found)
due_error T (Some f) found x y same memory = ap (λ o. error_of (option_fault o found)) (ap result_err same.0)
due_error T None found x y same memory = ap error_of (memory refl).0

pub not_refused : {T : Type 0} (due : Option Fault) (a : T) (P : Fault → Type 0)
    → IfSome due (λ f. (◌≡◌ {A = Result T Fault} (Ok a) (Err f)) × P f) → due ≡ None
not_refused None a P refused = refl
not_refused (Some f) a P refused = absurd (let clash = refused.0 in cc)
