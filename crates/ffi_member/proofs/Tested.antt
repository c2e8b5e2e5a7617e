-- What was made, where what was tested is found good.
use Rattle.std.proofs.Common.{◌≡◌, refl, ◌∙◌, sym, ap, Option, Some, None, MatchOption, Result, Ok, Err}
use Rattle.std.proofs.lemmas.Bool.{false≢true}
use Rattle.std.specs.Option.{option_or}
use Rattle.std.specs.Result.{is_ok}

abbrev value_or : {A E : Type 0} → A → Result A E → A
value_or other (Ok value) = value
value_or other (Err e) = other

-- a result that is one or the other by a test, and is `Ok`, has what the test lets through
pub made_of : {A E : Type 0} (due : Option E) (made found : A) (result : Result A E)
    → MatchOption due (result ≡ Ok made) (λ e. result ≡ Err e) → result ≡ Ok found → found ≡ made
made_of None made found result tested is = ap (value_or found) (sym is ∙ tested)
made_of (Some e) made found result tested is = absurd (false≢true (ap is_ok (sym tested ∙ is)))

-- nothing is due where the result is `Ok`
pub none_due : {A E : Type 0} (due : Option E) (made found : A) (result : Result A E)
    → MatchOption due (result ≡ Ok made) (λ e. result ≡ Err e) → result ≡ Ok found → due ≡ None
none_due None made found result tested is = refl
none_due (Some e) made found result tested is = absurd (false≢true (ap is_ok (sym tested ∙ is)))

abbrev error_or : {A E : Type 0} → E → Result A E → E
error_or other (Ok value) = other
error_or other (Err e) = e

-- the error that is due is the one that was answered
pub due_of : {A E : Type 0} (due : Option E) (made : A) (found : E) (result : Result A E)
    → MatchOption due (result ≡ Ok made) (λ e. result ≡ Err e) → result ≡ Err found → due ≡ Some found
due_of None made found result tested is = absurd (false≢true (ap is_ok (sym is ∙ tested)))
due_of (Some e) made found result tested is = ap Some (ap (error_or found) (sym tested ∙ is))

-- neither of two rules is broken
pub both_kept : {E : Type 0} (a b : Option E) → a ≡ None → b ≡ None → option_or a b ≡ None
both_kept a b first second = cc
