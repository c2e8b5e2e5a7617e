-- The open requests, as lists by view, match the sorted containers.
use Rattle.std.proofs.Common.{◌≡◌, ℕ, not, eqb, List, filter, ap, ◌∙◌, is_some, arith}
use Rattle.std.specs.Prelude.{map}
use Rattle.std.specs.FinMap as fin
use Rattle.std.specs.FinMap.Entries.{find, is_some-find}
use Rattle.std.specs.List.{list_any}
use Rattle.std.specs.Ordering.{nat_cmp, eq_by_cmp}
use Rattle.std.proofs.lemmas.Bool.Decides.{nat_tests}
use Rattle.simplex_view_maps.proofs.Maps.{entries-remove}
use Rattle.simplex_voter.proofs.RoundsKept.{filter-keys}
use Rattle.simplex_member.specs.OutstandingWork.{all_but, is_among, views_of}

is_eq : (x y : ℕ) → eq_by_cmp nat_cmp x y ≡ eqb x y
is_eq x y = grind (arith, nat_tests)

any_alike : (v : ℕ) (us : List ℕ) → list_any (eq_by_cmp nat_cmp v) us ≡ list_any (λ u. eqb v u) us
any_alike v us = λ i. list_any (λ u. is_eq v u i) us

module _ {V : Type 0} where
  pub among-views : (es : List (ℕ × V)) (v : ℕ) → is_some (find nat_cmp v es) ≡ is_among v (views_of es)
  among-views es v = is_some-find nat_cmp v es ∙ any_alike v (views_of es)

  pub views-others : (es : List (ℕ × V)) (v : ℕ) → views_of (filter (λ e. not (eqb e.0 v)) es) ≡ all_but v (views_of es)
  views-others es v = filter-keys (λ u. not (eqb u v)) es

module _ {V : Type 0} (m : fin.FinMap nat_cmp V) where
  pub keys-others : (v : ℕ) → fin.keys (fin.remove m v) ≡ all_but v (fin.keys m)
  keys-others v = ap (map (λ e. e.0)) (entries-remove m v) ∙ filter-keys (λ u. not (eqb u v)) (fin.entries m)

  pub among-keys : (v : ℕ) → is_some (fin.get m v) ≡ is_among v (fin.keys m)
  among-keys v = fin.contains_key-keys m v ∙ any_alike v (fin.keys m)
