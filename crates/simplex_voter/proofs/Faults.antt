-- The case without a refusal.
use Rattle.std.proofs.Common.{◌≡◌, ℕ, ◌<◌, ◌^◌, leb, Bool, true, false, ◌&&◌, ◌||◌, Option, Some, None, Result, Ok, Err, IsTrue, IfSome, refl, ap, sym, ◌∙◌, arith}
use Rattle.std.proofs.lemmas.Bool.{false≢true}
use Rattle.std.proofs.lemmas.Bool.Decides.{nat_tests}
use Rattle.simplex_types.specs.declared.types.fault.Fault.{Fault}
use Rattle.simplex_voter.specs.Refusals.{first_fault, is_too_large, HasFailed}
use Rattle.simplex_voter.specs.Facts.{StateFacts}
use Rattle.simplex_voter.specs.Setup.{HasSameSetup}

not_late : (b late : Bool) → (IsTrue late → true ≡ false) → (b && late) ≡ false
not_late true true never = absurd (false≢true (sym (never refl)))
not_late true false never = refl
not_late false late never = refl

-- the state has not failed, and no moment is late
pub no_late_fault : (failed b late : Bool) (P : Fault → Type 0) → false ≡ failed → (IsTrue late → true ≡ false)
    → IfSome (first_fault failed false (b && late)) P
no_late_fault true b late P sound never = absurd (false≢true sound)
no_late_fault false b late P sound never = rw (not_late b late never) tt

abbrev fault_in : {A : Type 0} → Result A Fault → Fault → Fault
fault_in (Ok a) other = other
fault_in (Err fault) other = fault

-- a refusal of one kind of answer, passed on as that of another
pub passed_on : (A B Q : Type 0) (refusal : Option Fault) (fault : Fault)
    → IfSome refusal (λ f. ◌≡◌ {A = Result A Fault} (Err fault) (Err f) × Q)
    → IfSome refusal (λ f. ◌≡◌ {A = Result B Fault} (Err fault) (Err f) × Q)
passed_on A B Q None fault refused = tt
passed_on A B Q (Some f) fault refused = (ap Err (ap (λ (r : Result A Fault). fault_in r fault) refused.0), refused.1)

-- a call found no memory, and left how the state was set up
pub failed_now : {K L D : Type 0} (x y z : StateFacts K L D) → HasSameSetup x y → z ≡ record y { failed = true }
    → HasFailed x z
failed_now x y z setup fails = record {
  failed = ap (λ w. w.failed) fails;
  settings = ap (λ w. w.settings) fails ∙ setup.settings;
  terms = ap (λ w. w.terms) fails ∙ setup.terms;
}

pub failed_here : {K L D : Type 0} (x z : StateFacts K L D) → z ≡ record x { failed = true } → HasFailed x z
failed_here x z fails =
    record { failed = ap (λ w. w.failed) fails; settings = ap (λ w. w.settings) fails; terms = ap (λ w. w.terms) fails }

late_of_both : (success tracked late : Bool) → (IsTrue (success && late) → true ≡ false)
    → (success && tracked && late) ≡ false
late_of_both true true true never = absurd (false≢true (sym (never refl)))
late_of_both true true false never = refl
late_of_both true false late never = refl
late_of_both false tracked late never = refl

-- a verdict whose deadlines are not late is not refused
pub no_late_verdict : (failed success tracked late : Bool) (P : Fault → Type 0) → false ≡ failed
    → (IsTrue (success && late) → true ≡ false) → IfSome (first_fault failed false (success && tracked && late)) P
no_late_verdict true success tracked late P sound never = absurd (false≢true sound)
no_late_verdict false success tracked late P sound never = rw (late_of_both success tracked late never) tt

-- a finalization that is not refused: the next view isn't entered too late
pub none_due : (failed large late later : Bool) → false ≡ failed → false ≡ large → later ≡ late
    → (IsTrue late → true ≡ false) → first_fault failed large later ≡ None
none_due true large late later sound small same never = absurd (false≢true sound)
none_due false true late later sound small same never = absurd (false≢true small)
none_due false false true later sound small same never = absurd (false≢true (sym (never refl)))
none_due false false false later sound small same never = rw same refl

left_false : (a b : Bool) → false ≡ (a || b) → false ≡ a
left_false true b never = absurd (false≢true never)
left_false false b never = refl

below_of : (n v : ℕ) → false ≡ leb n v → v < n
below_of n v above = grind (arith, nat_tests)

-- a proposal that names no view too large is of one that may be voted for
pub small_view : (v parent : ℕ) → false ≡ (is_too_large v || is_too_large parent) → v < 2 ^ 63
small_view v parent small = below_of (2 ^ 63) v (left_false (is_too_large v) (is_too_large parent) small)
