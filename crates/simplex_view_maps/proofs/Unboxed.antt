-- Entries whose values are in boxes.
use Rattle.std.proofs.Common.{◌≡◌, ℕ, ◌+◌, ◌-◌, ◌<◌, ◌≤◌, suc, List, [], ◌∷◌, ◌++◌, length, get_or, take, drop, set, true, refl, ap, sym, ◌∙◌, arith, zero, Some, slice_get, length-append}
use Rattle.std.specs.Prelude.{Box, map as map_list}
use Rattle.std.specs.List.{insert, remove}
use Rattle.std.proofs.lemmas.List.{get_or-map, map-set, take-map, drop-map}
use Rattle.std.specs.Box.{with_value}
use Rattle.std.specs.FinMap as map
use Rattle.std.specs.Ordering.{nat_cmp}
use Rattle.simplex_view_maps.specs.Tracked.{unboxed, below}
use Rattle.simplex_view_maps.proofs.Maps.{value_at, written, place_from_first, place_from_last}

module _ {V A : Type 0} where
  -- an entry without its box
  abbrev pub opened : ℕ × Box V A → ℕ × V
  opened e = (e.0, e.1.value)

  length-unboxed : (es : List (ℕ × Box V A)) → length (unboxed es) ≡ length es
  length-unboxed [] = refl
  length-unboxed (e ∷ es) = ap suc (length-unboxed es)

  unboxed-append : (es fs : List (ℕ × Box V A)) → unboxed (es ++ fs) ≡ unboxed es ++ unboxed fs
  unboxed-append [] fs = refl
  unboxed-append (e ∷ es) fs = ap (λ t. opened e ∷ t) (unboxed-append es fs)

  -- the value read at a place
  pub unboxed_at : (es : List (ℕ × Box V A)) (i : ℕ) (e : ℕ × Box V A) → i < length es → e ≡ get_or es i e
      → opened e ≡ get_or (unboxed es) i (opened e)
  unboxed_at es i e within read = ap opened read ∙ sym (get_or-map opened es i e (opened e) within)

  pub unboxed-drop : (es fs : List (ℕ × Box V A)) (n : ℕ) → fs ≡ drop n es → unboxed fs ≡ drop n (unboxed es)
  unboxed-drop es fs n left = ap unboxed left ∙ sym (drop-map opened n es)

  pub unboxed-insert : (es fs : List (ℕ × Box V A)) (i : ℕ) (v : ℕ) (b : Box V A) (x : V) → b.value ≡ x
      → fs ≡ insert es i (v, b) → unboxed fs ≡ insert (unboxed es) i (v, x)
  unboxed-insert es fs i v b x holds new =
      ap unboxed new ∙ unboxed-append (take i es) ((v, b) ∷ drop i es)
      ∙ sym (λ k. take-map opened i es k ++ (v, sym holds k) ∷ drop-map opened i es k)

  pub unboxed-remove : (es fs : List (ℕ × Box V A)) (i : ℕ) → fs ≡ remove es i → unboxed fs ≡ remove (unboxed es) i
  unboxed-remove es fs i left =
      ap unboxed left ∙ unboxed-append (take i es) (drop (suc i) es)
      ∙ sym (λ k. take-map opened i es k ++ drop-map opened (suc i) es k)

  pub unboxed-set : (es : List (ℕ × Box V A)) (i v : ℕ) (b : Box V A)
      → unboxed (set es i (v, b)) ≡ set (unboxed es) i (v, b.value)
  unboxed-set es i v b = map-set opened es i (v, b)

  pub same_length : (es : List (ℕ × Box V A)) → length es ≡ length (unboxed es)
  same_length es = sym (length-unboxed es)

  pub counted : (m : map.FinMap nat_cmp V) (es : List (ℕ × Box V A)) → unboxed es ≡ map.entries m
      → length es ≡ map.len m
  counted m es same = same_length es ∙ ap length same ∙ sym (map.len-entries m)

  -- the first of one entry is the only one
  pub only_unboxed : (m : map.FinMap nat_cmp V) (es rest : List (ℕ × Box V A)) (e : ℕ × Box V A)
      → unboxed es ≡ map.entries m → map.len m ≡ 1 → es ≡ e ∷ rest → map.values m ≡ e.1.value ∷ []
  only_unboxed m es [] e same one is = ap (map_list (λ (x : ℕ × V). x.1)) (sym same ∙ ap unboxed is)
  only_unboxed m es (f ∷ rest) e same one is = absurd (omega (arith, counted m es same, ap length is, one))

  -- where a view's place may be, by the first entry and by the last one
  module _ (m : map.FinMap nat_cmp V) (es : List (ℕ × Box V A)) (same : unboxed es ≡ map.entries m) (i : ℕ)
      (e : ℕ × Box V A) (within : i < length es) (read : e ≡ get_or es i e) where
    entry_at : (get_or (map.entries m) i (opened e)).0 ≡ e.0
    entry_at = ap (λ xs. (get_or xs i (opened e)).0) (sym same) ∙ sym (ap (λ x. x.0) (unboxed_at es i e within read))

    pub counted_rows : length es ≡ map.len m
    counted_rows = same_length es ∙ ap length same ∙ sym (map.len-entries m)

    pub from_first : (v : ℕ) → i ≡ 0 → map.len (below m v) ≤ v - e.0
    from_first v first =
        let at : (get_or (map.entries m) 0 (opened e)).0 ≡ e.0 =
        ap (λ k. (get_or (map.entries m) k (opened e)).0) (sym first) ∙ entry_at in
        rw (← at) (place_from_first m v (opened e) (omega (arith, within, counted_rows)))

    pub from_last : (v : ℕ) → i + 1 ≡ map.len m → map.len m ≤ map.len (below m v) + (e.0 + 1 - v)
    from_last v last = rw (← entry_at) (place_from_last m v (opened e) i last)

  -- the entries after a value is written into the box at v's place, where v is there
  pub boxed_written : (m : map.FinMap nat_cmp V) (v : ℕ) (es : List (ℕ × Box V A)) (r : ℕ) (e : ℕ × Box V A) (x : V)
      → unboxed es ≡ map.entries m → r ≡ map.len (below m v) → map.contains_key m v ≡ true → e ≡ get_or es r e
      → unboxed (set es r (e.0, with_value e.1 x)) ≡ map.entries (map.insert m v x)
  boxed_written m v es r e x same at_place there read =
      let within = (value_at m v (unboxed es) r same at_place there).0 in
      unboxed-set es r e.0 (with_value e.1 x)
      ∙ written m v (unboxed es) r (opened e) x same at_place there
      (unboxed_at es r e (omega (arith, within, length-unboxed es)) read)

  -- and the value that it read there
  pub boxed_value : (m : map.FinMap nat_cmp V) (v : ℕ) (es : List (ℕ × Box V A)) (r : ℕ) (e : ℕ × Box V A)
      → unboxed es ≡ map.entries m → r ≡ map.len (below m v) → map.contains_key m v ≡ true → e ≡ get_or es r e
      → Some e.1.value ≡ map.get m v
  boxed_value m v es r e same at_place there read =
      let at = value_at m v (unboxed es) r same at_place there in
      at.1 (opened e) (unboxed_at es r e (omega (arith, at.0, length-unboxed es)) read)

-- the first and the last of the elements from one place up to another
module _ {X : Type 0} where
  pub first_of_range : (xs : List X) (start end : ℕ) (x : X) → start < end → end ≤ length xs → x ≡ get_or xs start x
      → drop start (take end xs) ≡ x ∷ drop (start + 1) (take end xs)
  first_of_range [] start end x some within read = absurd (omega arith)
  first_of_range (y ∷ ys) start zero x some within read = absurd (omega arith)
  first_of_range (y ∷ ys) zero (suc end) x some within read = ap (λ t. t ∷ take end ys) (sym read)
  first_of_range (y ∷ ys) (suc start) (suc end) x some within read =
      let on : suc (start + 1) ≡ suc start + 1 = omega arith in
      first_of_range ys start end x (omega arith) (omega arith) read ∙ ap (λ n. x ∷ drop n (y ∷ take end ys)) on

  last_taken : (xs : List X) (start last : ℕ) (x : X) → start ≤ last → last < length xs → x ≡ get_or xs last x
      → drop start (take (suc last) xs) ≡ drop start (take last xs) ++ x ∷ []
  last_taken [] start last x some within read = absurd (omega arith)
  last_taken (y ∷ ys) (suc start) zero x some within read = absurd (omega arith)
  last_taken (y ∷ ys) zero zero x some within read = ap (λ t. t ∷ []) (sym read)
  last_taken (y ∷ ys) zero (suc last) x some within read =
      ap (λ t. y ∷ t) (last_taken ys zero last x (omega arith) (omega arith) read)
  last_taken (y ∷ ys) (suc start) (suc last) x some within read =
      last_taken ys start last x (omega arith) (omega arith) read

  pub last_of_range : (xs : List X) (start end : ℕ) (x : X) → start < end → end ≤ length xs → x ≡ get_or xs (end - 1) x
      → drop start (take end xs) ≡ drop start (take (end - 1) xs) ++ x ∷ []
  last_of_range xs start end x some within read =
      let on : end ≡ suc (end - 1) = omega arith in
      ap (λ n. drop start (take n xs)) on ∙ last_taken xs start (end - 1) x (omega arith) (omega arith) read

  -- none are left from a place up to itself
  pub empty_range : (xs : List X) (start end : ℕ) → end ≤ start → drop start (take end xs) ≡ []
  empty_range [] zero zero h = refl
  empty_range [] zero (suc end) h = absurd (omega arith)
  empty_range [] (suc start) zero h = refl
  empty_range [] (suc start) (suc end) h = refl
  empty_range (x ∷ xs) zero zero h = refl
  empty_range (x ∷ xs) zero (suc end) h = absurd (omega arith)
  empty_range (x ∷ xs) (suc start) zero h = refl
  empty_range (x ∷ xs) (suc start) (suc end) h = empty_range xs start end (omega arith)

  past_all : (xs : List X) (x : X) → slice_get (xs ++ x ∷ []) (length xs) ≡ Some x
  past_all [] x = refl
  past_all (y ∷ ys) x = past_all ys x

  pub last_of_appended : (xs : List X) (x : X) → slice_get (xs ++ x ∷ []) (length (xs ++ x ∷ []) - 1) ≡ Some x
  last_of_appended xs x =
      let long = length-append xs (x ∷ []) in
      let on : length (xs ++ x ∷ []) - 1 ≡ length xs = omega (arith, long) in
      ap (λ n. slice_get (xs ++ x ∷ []) n) on ∙ past_all xs x
