-- Lines that are read part by part, out of a buffer.
use Rattle.std.proofs.Common.{◌≡◌, refl, ap, sym, ◌∙◌, subst, ℕ, zero, suc, ◌+◌, ◌-◌, ◌<◌, ◌≤◌, min, inl, inr, Bool, true, false, not, List, [], ◌∷◌, ◌++◌, Option, Some, None, length, take, drop, append_assoc, if◌then◌else◌, arith}
use Rattle.std.specs.Prelude.{◌==◌, nat_lt, slice_index}
use Rattle.std.specs.List.{position_or_len}
use Rattle.memchr.specs.Find.{Passes, IsFirstByte, is_byte}
use Rattle.std.proofs.lemmas.Bool.{cases_Bool, eqb-true, ltb-true, ltb-false}
use Rattle.std.proofs.lemmas.List.Sums.{position_or_len_is}
use Rattle.std.proofs.lemmas.List.{length-append, length-take, take-append-drop, take-append-le}
use Rattle.std.specs.Io.BufRead.{take_through, DropsConsumable}
use Rattle.std.specs.Io.KnownBytes.{Consumes, prepend_known}
use Rattle.std.specs.Io.Buffered.{reader_buffer, reader_capacity, reader_remaining}
use Rattle.std.specs.declared.io.buffered.BufReader.{BufReader}
use Rattle.simplex_program.specs.Line.{HasNoFeed, FindsFeed, EndsLine, MovesPart, IsNextLine}
use Rattle.simplex_program.proofs.Lines.{IsPassed, passed_none, taken, ends_with_feed, is_too_long, something}

-- bytes without a feed are passed

pub passed_all : (bs : List ℕ) → HasNoFeed bs → IsPassed bs
passed_all [] none = passed_none [] refl
passed_all (x ∷ bs) none = by_test (passed_all bs) (x == 10) refl
  where
    by_test : (HasNoFeed bs → IsPassed bs) → (b : Bool) → (x == 10) ≡ b → IsPassed (x ∷ bs)
    by_test rest true feed = absurd (let first = rw feed at none in omega (arith, first))
    by_test rest false other = let more = rw other at none in
        record {
          continues = λ others. rw other
              (ap (λ (ys : List ℕ). x ∷ ys) ((rest (omega (arith, more))).continues others));
        }

pub passed_both : (bs more : List ℕ) → IsPassed bs → IsPassed more → IsPassed (bs ++ more)
passed_both bs more first second = record {
  continues = λ others.
      ap (take_through 10) (append_assoc bs more others)
      ∙ (first.continues (more ++ others)
      ∙ (ap (λ (rest : List ℕ). bs ++ rest) (second.continues others)
      ∙ sym (append_assoc bs more (take_through 10 others))));
}

-- a line that continues with a part

module _ (a b c : Option (List ℕ)) (bs grown : List ℕ) (passed : IsPassed bs) (before : Consumes a b bs)
    (most : length bs ≤ 201) (some : 0 < length bs) where
  pub part_ends : MovesPart true bs grown b c → IsNextLine a grown c
  part_ends moves = by_end (moves most)
    where
      by_end : (more : List ℕ) × (grown ≡ bs ++ more) × Consumes b c more × EndsLine true (length bs) more
          → IsNextLine a grown c
      by_end (more, is, gone, inl (front, feed, none, short)) =
          let whole : Consumes a c ((bs ++ front) ++ 10 ∷ []) =
          subst (λ (all : List ℕ). Consumes a c all)
          (ap (λ (rest : List ℕ). bs ++ rest) feed ∙ sym (append_assoc bs front (10 ∷ [])))
          (taken a b c bs more before gone) in
          let same : grown ≡ (bs ++ front) ++ 10 ∷ [] = is
          ∙ (ap (λ (rest : List ℕ). bs ++ rest) feed ∙ sym (append_assoc bs front (10 ∷ []))) in
          let long = length-append bs front in
          let longer = length-append (bs ++ front) (10 ∷ []) in
          rw same (
            something ((bs ++ front) ++ 10 ∷ []) (omega (arith, longer)),
            ends_with_feed a c (bs ++ front) (passed_both bs front passed (passed_all front none))
                (omega (arith, long, short)) whole,
          )
      by_end (more, is, gone, inr (none, long)) =
          let all = length-append bs more in
          rw is (
            something (bs ++ more) (omega (arith, all)),
            is_too_long a c (bs ++ more) (passed_both bs more passed (passed_all more none))
                (omega (arith, all, long)) (taken a b c bs more before gone),
          )

  pub part_goes_on : MovesPart false bs grown b c
      → IsPassed grown × Consumes a c grown × (length bs ≤ length grown) × (length grown < 201)
  part_goes_on moves = by_end (moves most)
    where
      by_end : (more : List ℕ) × (grown ≡ bs ++ more) × Consumes b c more × EndsLine false (length bs) more
          → IsPassed grown × Consumes a c grown × (length bs ≤ length grown) × (length grown < 201)
      by_end (more, is, gone, (none, short)) =
          let all = length-append bs more in
          rw is (
            passed_both bs more passed (passed_all more none),
            taken a b c bs more before gone,
            omega (arith, all),
            omega (arith, all, short),
          )

-- where the feed is

pub up_to_feed : (bs : List ℕ) (place more : ℕ) → more ≡ place + 1 → place < length bs
    → place ≡ position_or_len (λ b. b == 10) bs → (take more bs ≡ take place bs ++ 10 ∷ []) × HasNoFeed (take place bs)
up_to_feed [] place more next less at = absurd (omega arith)
up_to_feed (x ∷ bs) place more next less at = by_test (up_to_feed bs) (x == 10) refl place more next less at
  where
    by_test : ((k m : ℕ) → m ≡ k + 1 → k < length bs → k ≡ position_or_len (λ b. b == 10) bs
        → (take m bs ≡ take k bs ++ 10 ∷ []) × HasNoFeed (take k bs)) → (t : Bool) → (x == 10) ≡ t → (k m : ℕ)
        → m ≡ k + 1 → k < length (x ∷ bs) → k ≡ position_or_len (λ b. b == 10) (x ∷ bs)
        → (take m (x ∷ bs) ≡ take k (x ∷ bs) ++ 10 ∷ []) × HasNoFeed (take k (x ∷ bs))
    by_test rest true feed k m gone fewer is =
        let first : k ≡ 0 = is ∙ rw feed refl in
        let one : m ≡ 1 = omega (arith, gone, first) in
        rw (first, one) (ap (λ (y : ℕ). y ∷ []) (eqb-true x 10 feed), refl)
    by_test rest false other zero m gone fewer is = absurd (let none = rw other at is in omega (arith, none))
    by_test rest false other (suc k) zero gone fewer is = absurd (omega (arith, gone))
    by_test rest false other (suc k) (suc m) gone fewer is =
        let next = rw other at is in
        let parts = rest k m (omega (arith, gone)) (omega (arith, fewer)) (omega (arith, next)) in
        (ap (λ (ys : List ℕ). x ∷ ys) parts.0, rw other (omega (arith, parts.1)))

no_feed_at : (bs : List ℕ) (k : ℕ) → ¬ (Passes (is_byte 10) bs k) → (slice_index bs k == 10) ≡ false
no_feed_at bs k not = elim (cases_Bool (slice_index bs k == 10)) [ inl is ↦ absurd (not is) | inr other ↦ other ]

pub finds_feed : (bs : List ℕ) (r : Option ℕ) → IsFirstByte (is_byte 10) bs r → FindsFeed bs r
finds_feed bs None nowhere = position_or_len_is (λ b. b == 10) bs (length bs) 0 (omega arith)
    (λ k less. no_feed_at bs k (nowhere k (omega arith) less)) (λ more. absurd (omega arith))
finds_feed bs (Some k) (first, here) = (
  first.high,
  sym (position_or_len_is (λ b. b == 10) bs k 0 (omega (arith, first.high))
      (λ j less. no_feed_at bs j (first.before j (omega arith) less)) (λ more. here)),
)

take_within : (n m : ℕ) (xs : List ℕ) → n ≤ m → take n (take m xs) ≡ take n xs
take_within zero m xs less = refl
take_within (suc n) zero xs less = absurd (omega arith)
take_within (suc n) (suc m) [] less = refl
take_within (suc n) (suc m) (x ∷ xs) less = ap (λ (ys : List ℕ). x ∷ ys) (take_within n m xs (omega arith))

-- what a line takes of a buffer: up to its feed, or as much as it has room for

module _ (line grown buffer : List ℕ) (left rest : Option (List ℕ)) (most : ℕ)
    (room : most ≡ min (201 - length line) (length buffer)) where
  pub up_to_its_feed : (place : ℕ) → place < length (take most buffer)
      → place ≡ position_or_len (λ b. b == 10) (take most buffer) → grown ≡ line ++ take (place + 1) buffer
      → Consumes left rest (take (place + 1) buffer) → MovesPart true line grown left rest
  up_to_its_feed place less at is gone within =
      let parts = up_to_feed (take most buffer) place (place + 1) refl less at in
      let long = length-take most buffer in
      let front : take place (take most buffer) ≡ take place buffer =
      take_within place most buffer (omega (arith, less, long)) in
      let more : take (place + 1) buffer ≡ take place buffer ++ 10 ∷ [] =
      sym (take_within (place + 1) most buffer (omega (arith, less, long)))
      ∙ (parts.0 ∙ ap (λ (bs : List ℕ). bs ++ 10 ∷ []) front) in
      let none : HasNoFeed (take place buffer) = subst HasNoFeed front parts.1 in
      let places = length-take place buffer in
      (take (place + 1) buffer, is, gone, inl (take place buffer, more, none, omega (arith, less, long, places, room)))

  pub as_far_as_it_goes : (ended : Bool) → HasNoFeed (take most buffer) → grown ≡ line ++ take most buffer
      → Consumes left rest (take most buffer) → ended ≡ nat_lt 200 (length grown) → MovesPart ended line grown left rest
  as_far_as_it_goes ended none is gone long within =
      by_length ended (long ∙ ap (nat_lt 200) (ap length is ∙ length-append line (take most buffer)))
    where
      by_length : (b : Bool) → b ≡ nat_lt 200 (length line + length (take most buffer))
          → (more : List ℕ) × (grown ≡ line ++ more) × Consumes left rest more × EndsLine b (length line) more
      by_length true over =
          let taken_so = length-take most buffer in
          let above = ltb-true 200 (length line + length (take most buffer)) (sym over) in
          (take most buffer, is, gone, inr (none, omega (arith, taken_so, above, room)))
      by_length false under =
          let below = ltb-false 200 (length line + length (take most buffer)) (sym under) in
          (take most buffer, is, gone, (none, omega (arith, below)))

-- what is taken of a buffer is taken of the bytes ahead
pub taken_ahead : {T A : Type 0} (remaining : T → Option (List ℕ)) (r : BufReader T A) (new : Option (List ℕ))
    (count : ℕ) → count ≤ length (reader_buffer r)
    → DropsConsumable (reader_remaining remaining r) new (Some (length (reader_buffer r))) count
    → Consumes (reader_remaining remaining r) new (take count (reader_buffer r))
taken_ahead {T} {A} remaining r new count within drops = by_room (reader_capacity r == 0) drops
  where
    by_inner : (inner : Option (List ℕ)) → DropsConsumable (prepend_known (reader_buffer r) inner) new
        (Some (length (reader_buffer r))) count
        → Consumes (prepend_known (reader_buffer r) inner) new (take count (reader_buffer r))
    by_inner None falls = tt
    by_inner (Some xs) falls =
        let whole : reader_buffer r ++ xs ≡ take count (reader_buffer r) ++ drop count (reader_buffer r ++ xs) =
        sym (take-append-drop count (reader_buffer r ++ xs))
        ∙ ap (λ (bs : List ℕ). bs ++ drop count (reader_buffer r ++ xs))
        (take-append-le count (reader_buffer r) xs within) in
        rw (falls within) whole

    by_room : (b : Bool) → DropsConsumable (if b then None else prepend_known (reader_buffer r) (remaining r.inner)) new
        (Some (length (reader_buffer r))) count
        → Consumes (if b then None else prepend_known (reader_buffer r) (remaining r.inner)) new
        (take count (reader_buffer r))
    by_room true falls = tt
    by_room false falls = by_inner (remaining r.inner) falls
