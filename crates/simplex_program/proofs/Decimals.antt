-- What a word has to be for its number to be read.
use Rattle.std.proofs.Common.{◌≡◌, ◌≢◌, ℕ, zero, suc, ◌^◌, ◌<◌, List, [], ◌∷◌, length, get_or, Some, Result, Ok, Err, arith, rules, sym, ap}
use Rattle.std.specs.Fmt.{decimal}
use Rattle.std.specs.Result.{result_ok}
use Rattle.std.specs.Str.Parse.{AllDigits, digits_value, ParsesUnsigned, without_leading_plus}
use Rattle.std.proofs.lemmas.Fmt.{decimal_digit, first_decimal, parse-decimal, decimal-digits_value}
use Rattle.std.proofs.lemmas.Str.Parse.{IsNumeralModel, numerals_by_value, without_leading_plus_none}
use Rattle.simplex_program.specs.Decimal.{ReadsDecimal, IsUnpadded}

own : IsNumeralModel (AllDigits 10) (digits_value 10)
own = numerals_by_value _ (search rules)

high_first : (bs : List ℕ) → 48 < get_or bs 0 0 → IsUnpadded bs
high_first [] h = absurd (omega arith)
high_first (b ∷ bs) h = (λ e. grind arith, λ e. grind arith)

first_of : (bs : List ℕ) → IsUnpadded bs → (get_or bs 0 0 ≢ 43) × (get_or bs 0 0 ≡ 48 → length bs ≡ 1)
first_of [] plain = (λ e. absurd (omega arith), λ e. absurd (omega arith))
first_of (b ∷ bs) plain = (λ e. plain.0 (ap Some e), λ e. plain.1 (ap Some e))

-- no number is written with a sign or a leading zero
pub decimal-IsUnpadded : (n : ℕ) → n < 2 ^ 64 → IsUnpadded (decimal n)
decimal-IsUnpadded zero small = rw (decimal_digit 0 (omega arith)) (search rules)
decimal-IsUnpadded (suc n) small = high_first _ (first_decimal (suc n) (omega arith) small)

-- what `parse` gives for an unpadded word
pub reads : {E : Type 0} (bs : List ℕ) (r : Result ℕ E) → ParsesUnsigned 64 10 bs r → IsUnpadded bs
    → ReadsDecimal bs (result_ok r)
reads bs (Ok x) h plain =
    let (no_plus, no_zero) = first_of bs plain in
    let whole : without_leading_plus bs ≡ bs = without_leading_plus_none bs no_plus in
    let ((numeral, small), is) = rw whole at h in
    rw is (sym (decimal-digits_value own bs numeral.1 numeral.0 no_zero small))
reads bs (Err e) h plain = λ n small is. grind (arith, parse-decimal 64 n bs (Err e) small small is h)
