-- Values by view, of which the newest is stored apart: it replaces one of its view among the others.
use Rattle.std.proofs.Common.{◌≡◌, ℕ, Bool, true, false, cond, eqb, not, filter, arith, Option, Some, None, is_some, refl, sym, ap, ◌∙◌}
use Rattle.std.proofs.lemmas.Bool.{false≢true}
use Rattle.std.proofs.lemmas.Bool.Decides.{nat_tests}
use Rattle.std.specs.Cmp.{nat_cmp_total}
use Rattle.std.specs.FinMap as map
use Rattle.std.specs.FinMap.Entries.{find, put}
use Rattle.std.specs.Ordering.{nat_cmp}
use Rattle.simplex_view_maps.proofs.Maps.{same_maps, get-insert, is_eq-nat_cmp, entries-remove}
use Rattle.simplex_member.specs.PendingValues.{with_newest}

module _ {V : Type 0} where
  get-remove : (m : map.FinMap nat_cmp V) (v q : ℕ) → map.get (map.remove m v) q ≡ cond (eqb q v) None (map.get m q)
  get-remove m v q = map.get-remove nat_cmp_total m v q ∙ ap (λ b. cond b None (map.get m q)) (is_eq-nat_cmp q v)

  -- there is room where no value is the newest
  pub none_newest : (newest : Option (ℕ × V)) → not (is_some newest) ≡ true → newest ≡ None
  none_newest None room = refl
  none_newest (Some e) room = absurd (false≢true room)

  -- the newest is found at its view, and the others elsewhere
  pub found_newest : (m : map.FinMap nat_cmp V) (k v : ℕ) (x : V) → eqb k v ≡ true
      → Some x ≡ find nat_cmp v (map.entries (map.insert m k x))
  found_newest m k v x same = sym
      (sym (map.get-entries (map.insert m k x) v) ∙ get-insert m k x v ∙ ap (λ b. cond b (Some x) (map.get m v)) at_v)
    where
      at_v : eqb v k ≡ true
      at_v = grind (arith, nat_tests)

  pub found_other : (m : map.FinMap nat_cmp V) (k v : ℕ) (x : V) → eqb k v ≡ false
      → map.get m v ≡ find nat_cmp v (map.entries (map.insert m k x))
  found_other m k v x other = sym
      (sym (map.get-entries (map.insert m k x) v) ∙ get-insert m k x v ∙ ap (λ b. cond b (Some x) (map.get m v)) at_v)
    where
      at_v : eqb v k ≡ false
      at_v = grind (arith, nat_tests)

  pub entries-insert : (m : map.FinMap nat_cmp V) (v : ℕ) (x : V)
      → map.entries (map.insert m v x) ≡ put nat_cmp v x (map.entries m)
  entries-insert m v x = map.entries-insert nat_cmp_total m v x

  -- a value stored after another was removed
  insert-removed : (m : map.FinMap nat_cmp V) (v : ℕ) (x : V) → map.insert (map.remove m v) v x ≡ map.insert m v x
  insert-removed m v x = same_maps _ _ (λ q.
      rw (get-insert (map.remove m v) v x q, get-insert m v x q, get-remove m v q) (by_test (eqb q v) (map.get m q)))
    where
      by_test : (b : Bool) (found : Option V) → cond b (Some x) (cond b None found) ≡ cond b (Some x) found
      by_test true found = refl
      by_test false found = refl

  pub entries-put : (m : map.FinMap nat_cmp V) (v : ℕ) (x : V)
      → map.entries (map.insert (map.remove m v) v x) ≡ put nat_cmp v x (map.entries m)
  entries-put m v x = ap map.entries (insert-removed m v x) ∙ entries-insert m v x

  pub none_removed : (m : map.FinMap nat_cmp V) (v : ℕ) → is_some (map.get (map.remove m v) v) ≡ false
  none_removed m v = rw (get-remove m v v, itself) refl
    where
      itself : eqb v v ≡ true
      itself = grind (arith, nat_tests)

  -- removing, whether the newest is of the view or not
  abbrev pub without_view : ℕ → Option (ℕ × V) → Option (ℕ × V)
  without_view v None = None
  without_view v (Some e) = cond (eqb e.0 v) None (Some e)

  pub entries-without : (newest : Option (ℕ × V)) (m : map.FinMap nat_cmp V) (v : ℕ)
      → map.entries (with_newest (without_view v newest) (map.remove m v)) ≡ filter (λ e. not (eqb e.0 v))
      (map.entries (with_newest newest m))
  entries-without None m v = entries-remove m v
  entries-without (Some e) m v = ap map.entries (by_view (eqb e.0 v) refl) ∙ entries-remove (map.insert m e.0 e.1) v
    where
      by_tests : (q : ℕ) (is_v is_e : Bool) (found : Option V) → eqb q v ≡ is_v → eqb q e.0 ≡ is_e → eqb e.0 v ≡ false
          → cond is_e (Some e.1) (cond is_v None found) ≡ cond is_v None (cond is_e (Some e.1) found)
      by_tests q true true found at_v at_e apart = absurd (false≢true (sym apart ∙ both))
        where
          both : eqb e.0 v ≡ true
          both = grind (arith, nat_tests)
      by_tests q true false found at_v at_e apart = refl
      by_tests q false true found at_v at_e apart = refl
      by_tests q false false found at_v at_e apart = refl

      same_tests : (q : ℕ) (is_v : Bool) (found : Option V)
          → cond is_v None found ≡ cond is_v None (cond is_v (Some e.1) found)
      same_tests q true found = refl
      same_tests q false found = refl

      by_view : (b : Bool) → eqb e.0 v ≡ b → with_newest (cond b None (Some e)) (map.remove m v) ≡ map.remove
          (map.insert m e.0 e.1) v
      by_view true is = same_maps _ _ (λ q. rw
          (get-remove (map.insert m e.0 e.1) v q, get-insert m e.0 e.1 q, get-remove m v q, alike q)
          (same_tests q (eqb q v) (map.get m q)))
        where
          alike : (q : ℕ) → eqb q e.0 ≡ eqb q v
          alike q = grind (arith, nat_tests)
      by_view false is = same_maps _ _ (λ q. rw (
        get-remove (map.insert m e.0 e.1) v q,
        get-insert m e.0 e.1 q,
        get-insert (map.remove m v) e.0 e.1 q,
        get-remove m v q,
      ) (by_tests q (eqb q v) (eqb q e.0) (map.get m q) refl refl is))
