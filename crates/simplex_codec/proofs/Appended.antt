-- Parts that are appended one after the other.
use Rattle.std.proofs.Common.{◌≡◌, ℕ, List, [], ◌∷◌, ◌++◌, Result, Ok, Err, ap, ◌∙◌, append_assoc}
use Rattle.std.specs.Prelude.{OnOk}

pub appended : (start middle end xs ys : List ℕ) → middle ≡ start ++ xs → end ≡ middle ++ ys → end ≡ start ++ (xs ++ ys)
appended start middle end xs ys first second = second ∙ ap (λ l. l ++ ys) first ∙ append_assoc start xs ys

pub behind_kind : {E : Type 0} (result : Result (Unit {0}) E) (start middle end rest : List ℕ) (kind : ℕ) →
    middle ≡ start ++ kind ∷ [] → OnOk result (end ≡ middle ++ rest) → OnOk result (end ≡ start ++ kind ∷ rest)
behind_kind (Ok _) start middle end rest kind first second = appended start middle end (kind ∷ []) rest first second
behind_kind (Err _) start middle end rest kind first second = tt
