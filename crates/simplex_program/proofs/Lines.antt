-- Lines that are read byte by byte from known bytes.
use Rattle.std.proofs.Common.{◌≡◌, ◌≢◌, ℕ, suc, ◌+◌, ◌-◌, ◌<◌, ◌≤◌, eqb, Bool, true, false, List, [], ◌∷◌, ◌++◌, Option, Some, None, length, get_or, take, zero, not, refl, sym, ap, subst, ◌∙◌, arith, append_assoc, append-nil}
use Rattle.std.proofs.lemmas.Bool.{ne_eqb}
use Rattle.std.proofs.lemmas.List.{take_all, length-append}
use Rattle.std.proofs.Math.Seq.{take-append-add, drop-append_seam}
use Rattle.std.specs.Io.BufRead.{take_through}
use Rattle.std.specs.Io.KnownBytes.{Consumes, IsAtEnd, Keeps}
use Rattle.simplex_program.specs.Line.{IsFirstLine, IsNextLine, ReadsNextLine, GivesByte}

-- no feed is among the bytes: a line continues after them
pub record IsPassed (bs : List ℕ) : Type 0 where
  pub continues : (others : List ℕ) → take_through 10 (bs ++ others) ≡ bs ++ take_through 10 others

pub passed_none : (bs : List ℕ) → bs ≡ [] → IsPassed bs
passed_none bs empty = rw empty (record { continues = λ others. refl })

pub passed_more : (bs more : List ℕ) (b : ℕ) → IsPassed bs → b ≢ 10 → more ≡ bs ++ b ∷ [] → IsPassed more
passed_more bs more b passed other is = rw is (record {
  continues = λ others.
      let step : take_through 10 (b ∷ others) ≡ b ∷ take_through 10 others = rw (ne_eqb b 10 other) refl in
      ap (take_through 10) (append_assoc bs (b ∷ []) others) ∙ (passed.continues (b ∷ others)
      ∙ (ap (λ (rest : List ℕ). bs ++ rest) step ∙ sym (append_assoc bs (b ∷ []) (take_through 10 others))));
})

-- what is read of at most m bytes
cut : (bs others : List ℕ) (n m : ℕ) → IsPassed bs → m ≡ length bs + n
    → take_through 10 (take m (bs ++ others)) ≡ bs ++ take_through 10 (take n others)
cut bs others n m passed is = rw (is, take-append-add bs others n) (passed.continues (take n others))

-- what is taken twice is taken together
pub taken : (a b c : Option (List ℕ)) (xs ys : List ℕ) → Consumes a b xs → Consumes b c ys → Consumes a c (xs ++ ys)
taken None b c xs ys p q = tt
taken (Some a) None c xs ys p q = absurd p
taken (Some a) (Some b) None xs ys p q = absurd q
taken (Some a) (Some b) (Some c) xs ys p q = p ∙ (ap (λ (rest : List ℕ). xs ++ rest) q ∙ sym (append_assoc xs ys c))

pub taken_none : (a b c : Option (List ℕ)) (xs : List ℕ) → Consumes a b xs → Consumes b c [] → Consumes a c xs
taken_none a b c xs p q = subst (λ (bs : List ℕ). Consumes a c bs) (append-nil xs) (taken a b c xs [] p q)

pub taken_more : (a b c : Option (List ℕ)) (xs more : List ℕ) (x : ℕ) → more ≡ xs ++ x ∷ [] → Consumes a b xs
    → Consumes b c (x ∷ []) → Consumes a c more
taken_more a b c xs more x is p q = rw is (taken a b c xs (x ∷ []) p q)

pub nothing_taken : (a b c : Option (List ℕ)) → Consumes a b [] → Keeps b c → Consumes a c []
nothing_taken None b c p q = tt
nothing_taken (Some a) None c p q = absurd p
nothing_taken (Some a) (Some b) None p q = absurd q
nothing_taken (Some a) (Some b) (Some c) p q = p ∙ sym q

pub keeps_bytes : (a : Option (List ℕ)) → Consumes a a []
keeps_bytes None = tt
keeps_bytes (Some a) = refl

pub still_at_end : (a c : Option (List ℕ)) → Consumes a c [] → IsAtEnd c → IsAtEnd a
still_at_end None c p q = tt
still_at_end (Some a) None p q = absurd p
still_at_end (Some a) (Some c) p q = p ∙ q

-- the three ways in which a line is read: up to its feed, up to the end, and as far as shows that it is too long

pub ends_with_feed : (a c : Option (List ℕ)) (bs : List ℕ) → IsPassed bs → length bs < 201
    → Consumes a c (bs ++ 10 ∷ []) → IsFirstLine a (bs ++ 10 ∷ []) c
ends_with_feed None c bs passed short p = tt
ends_with_feed (Some a) None bs passed short p = absurd p
ends_with_feed (Some a) (Some c) bs passed short p =
    let whole : take_through 10 (take 201 ((bs ++ 10 ∷ []) ++ c)) ≡ bs ++ 10 ∷ [] =
    ap (λ (all : List ℕ). take_through 10 (take 201 all)) (append_assoc bs (10 ∷ []) c)
    ∙ cut bs (10 ∷ c) (suc (200 - length bs)) 201 passed (omega arith) in
    rw p (sym whole, ap Some (sym (drop-append_seam (bs ++ 10 ∷ []) c)))

pub ends_with_bytes : (a c : Option (List ℕ)) (bs : List ℕ) → IsPassed bs → length bs ≤ 201 → Consumes a c bs
    → IsAtEnd c → IsFirstLine a bs c
ends_with_bytes None c bs passed short p q = tt
ends_with_bytes (Some a) None bs passed short p q = absurd p
ends_with_bytes (Some a) (Some c) bs passed short p q =
    let nothing : take (201 - length bs) c ≡ [] = rw q (take_all (201 - length bs) [] (omega arith)) in
    let whole : take_through 10 (take 201 (bs ++ c)) ≡ bs =
    cut bs c (201 - length bs) 201 passed (omega arith)
    ∙ (ap (λ (left : List ℕ). bs ++ take_through 10 left) nothing ∙ append-nil bs) in
    rw p (sym whole, ap Some (sym (drop-append_seam bs c)))

pub is_too_long : (a c : Option (List ℕ)) (bs : List ℕ) → IsPassed bs → length bs ≡ 201 → Consumes a c bs
    → IsFirstLine a bs c
is_too_long None c bs passed long p = tt
is_too_long (Some a) None bs passed long p = absurd p
is_too_long (Some a) (Some c) bs passed long p =
    let whole : take_through 10 (take 201 (bs ++ c)) ≡ bs = cut bs c 0 201 passed (omega arith) ∙ append-nil bs in
    rw p (sym whole, ap Some (sym (drop-append_seam bs c)))

pub something : (bs : List ℕ) → 0 < length bs → bs ≢ []
something bs some empty = absurd (omega (arith, ap length empty))

pub reads_to_feed : (a b c : Option (List ℕ)) (bs line : List ℕ) (x : ℕ) → line ≡ bs ++ x ∷ [] → x ≡ 10
    → length bs < 201 → IsPassed bs → Consumes a b bs → GivesByte b c (Some x) → IsNextLine a line c
reads_to_feed a b c bs line x is feed short passed before given =
    let both : Consumes a c (bs ++ x ∷ []) = taken a b c bs (x ∷ []) before given in
    let whole : Consumes a c (bs ++ 10 ∷ []) = rw feed at both in
    let some : 0 < length (bs ++ 10 ∷ []) = omega (arith, length-append bs (10 ∷ [])) in
    rw (is, feed) (something (bs ++ 10 ∷ []) some, ends_with_feed a c bs passed short whole)

pub reads_to_end : (n : ℕ) (empty : Bool) (a b c : Option (List ℕ)) (bs : List ℕ) → empty ≡ eqb n 0 → n ≡ length bs
    → length bs ≤ 201 → IsPassed bs → Consumes a b bs → GivesByte b c None → ReadsNextLine (not empty) a bs c
reads_to_end n empty a b c [] is count short passed before given =
    let yes : empty ≡ true = rw count at is in
    rw yes (still_at_end a c (taken_none a b c [] before given.0) given.1)
reads_to_end n empty a b c (x ∷ bs) is count short passed before given =
    let no : empty ≡ false = is ∙ ne_eqb n 0 (λ (zero : n ≡ 0). absurd (omega (arith, zero, count))) in
    rw no (
      something (x ∷ bs) (omega arith),
      ends_with_bytes a c (x ∷ bs) passed short (taken_none a b c (x ∷ bs) before given.0) given.1,
    )

-- what one read of one byte gives

pub none_given : (a b c : Option (List ℕ)) (n : ℕ) (buf : List ℕ) → n ≡ 0 → length buf ≡ 1 → Consumes a b []
    → Consumes b c (take n buf) × (n ≡ 0 → 0 < length buf → IsAtEnd c) → Consumes a c [] × IsAtEnd c
none_given a b c n buf none one before now =
    let nothing : Consumes b c [] = rw none at now.0 in
    (taken_none a b c [] before nothing, now.1 none (omega arith))

front : (n : ℕ) (buf : List ℕ) → (n ≡ 0 → ⊥) → n ≤ length buf → length buf ≡ 1 → take n buf ≡ get_or buf 0 0 ∷ []
front zero buf some within one = absurd (some refl)
front (suc n) [] some within one = absurd (omega arith)
front (suc zero) (x ∷ []) some within one = refl
front (suc (suc n)) (x ∷ []) some within one = absurd (omega arith)
front (suc n) (x ∷ y ∷ buf) some within one = absurd (omega arith)

pub one_given : (a b c : Option (List ℕ)) (n : ℕ) (buf : List ℕ) → (n ≡ 0 → ⊥) → n ≤ length buf → length buf ≡ 1
    → Consumes a b [] → Consumes b c (take n buf) → Consumes a c (get_or buf 0 0 ∷ [])
one_given a b c n buf some within one before now =
    let first : Consumes b c (get_or buf 0 0 ∷ []) = rw (front n buf some within one) at now in
    taken a b c [] (get_or buf 0 0 ∷ []) before first
