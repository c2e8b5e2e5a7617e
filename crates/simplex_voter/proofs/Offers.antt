-- The proposals that a walk over the waiting views gathers.
use Rattle.std.proofs.Common.{◌≡◌, List, [], ◌∷◌, ◌++◌, Option, Some, None, append_assoc, refl, ap, sym, ◌∙◌}
use Rattle.std.specs.List.{filter_map, cons_option}

module _ {A B : Type 0} (h : A → Option B) (xs : List A) where
  -- what was gathered, with what is left, is all
  abbrev pub Gathers : List B → List A → Type 0
  Gathers ys es = ys ++ filter_map h es ≡ filter_map h xs

  in_front : (o : Option B) (zs : List B) → cons_option o [] ++ zs ≡ cons_option o zs
  in_front None zs = refl
  in_front (Some y) zs = refl

  -- one more is looked at
  pub gathers_next : (ys more : List B) (o : Option B) (es rest : List A) (e : A) → Gathers ys es → es ≡ e ∷ rest
      → o ≡ h e → more ≡ ys ++ cons_option o [] → Gathers more rest
  gathers_next ys more o es rest e before first is added =
      ap (λ zs. zs ++ filter_map h rest) added ∙ append_assoc ys (cons_option o []) (filter_map h rest)
      ∙ ap (λ zs. ys ++ zs) (in_front o (filter_map h rest) ∙ ap (λ p. cons_option p (filter_map h rest)) is
      ∙ sym (ap (filter_map h) first))
      ∙ before
