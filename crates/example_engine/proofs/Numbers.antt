-- Numbers written one after the other, and read from the front.
use Rattle.std.proofs.Common.{◌≡◌, ℕ, ◌+◌, List, ◌++◌, ap, ◌∙◌, append_assoc, Result, Ok, Err, drop}
use Rattle.std.specs.Prelude.{OnOk}
use Rattle.std.proofs.lemmas.List.{get_or-drop}
use Rattle.simplex_codec.proofs.Numbers.{IsBytes}

-- the second part is written after the first, unless memory runs out
pub appended : {X E : Type 0} (start middle xs ys : List ℕ) (r : Result X E) (end : List ℕ) → middle ≡ start ++ xs
    → OnOk r (end ≡ middle ++ ys) → OnOk r (end ≡ start ++ (xs ++ ys))
appended start middle xs ys (Ok _) end first second = second ∙ ap (λ l. l ++ ys) first ∙ append_assoc start xs ys
appended start middle xs ys (Err _) end first second = tt

-- what is left of bytes are bytes
pub rest_fits : (bytes rest : List ℕ) (n : ℕ) → IsBytes bytes → rest ≡ drop n bytes → IsBytes rest
rest_fits bytes rest n fits is i = rw is (rw (get_or-drop n bytes i 0) (fits (n + i)))
