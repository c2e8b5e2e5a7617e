-- The place of an element in a list, and in one that was made longer by one.
use Rattle.std.proofs.Common.{◌≡◌, ◌⊎◌, inl, inr, zero, suc, List, [], ◌∷◌, ◌++◌, Contains, refl, ap, arith}
use Rattle.std.proofs.lemmas.List.Elements.{Contains-append_right}

-- an element of a longer list is in the shorter one or is the new one
pub push_split : {X : Type 0} (xs before after : List X) (y x : X) → xs ++ y ∷ [] ≡ before ++ x ∷ after
    → ((rest : List X) × (xs ≡ before ++ x ∷ rest)) ⊎ ((before ≡ xs) × (y ≡ x))
push_split [] [] after y x e = inr (refl, cc)
push_split [] (b ∷ []) after y x e = absurd (cc)
push_split [] (b ∷ (c ∷ before)) after y x e = absurd (cc)
push_split {X} (a ∷ xs) [] after y x e =
    let head : a ≡ x = cc in
    inl (xs, ap (λ (z : X). z ∷ xs) head)
push_split {X} (a ∷ xs) (b ∷ before) after y x e =
    let head : a ≡ b = cc in
    let rest : xs ++ y ∷ [] ≡ before ++ x ∷ after = cc in
    elim (push_split xs before after y x rest) [
      | inl h ↦ inl (h.0, cc)
      | inr h ↦ inr (cc, h.1)
    ]

-- the rest of a list holds what it holds
pub Contains-cons_rest : {X : Type 0} (y : X) (xs : List X) (x : X) → Contains xs x → Contains (y ∷ xs) x
Contains-cons_rest y xs x h = Contains-append_right (y ∷ []) xs x h

-- the first element of a list is the one, or the rest holds it
pub Contains-cases : {X : Type 0} (y : X) (xs : List X) (x : X) → Contains (y ∷ xs) x → (y ≡ x) ⊎ Contains xs x
Contains-cases y xs x (zero, less, same) = inl same
Contains-cases y xs x (suc k, less, same) = inr (k, omega arith, same)

-- the one element of a list
pub only_one : {X : Type 0} (y x : X) → Contains (y ∷ []) x → y ≡ x
only_one y x (zero, less, same) = same
only_one y x (suc k, less, same) = absurd (omega arith)
