-- What one of two lists contains, both contain, one after the other.
use Rattle.std.proofs.Common.{List, ◌∷◌, ◌++◌, ◌+◌, ◌∙◌, length, length-append, arith}
use Rattle.std.specs.Prelude.{Contains}
use Rattle.std.proofs.Math.Seq.{get_or-append_seam}
use Rattle.std.proofs.lemmas.List.{get_or_append_left}

module _ {X : Type 0} where
  pub contains_left : (xs ys : List X) (x : X) → Contains xs x → Contains (xs ++ ys) x
  contains_left xs ys x has =
      (has.0, omega (arith, has.1, length-append xs ys), get_or_append_left xs ys x has.0 has.1 ∙ has.2)

  pub contains_seam : (xs : List X) (x : X) (ys : List X) → Contains (xs ++ x ∷ ys) x
  contains_seam xs x ys = (length xs, omega (arith, length-append xs (x ∷ ys)), get_or-append_seam xs x ys x)
