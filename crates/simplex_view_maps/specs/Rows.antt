-- A list that is cut into rows.
use Rattle.std.specs.Prelude.{◌≡◌, ℕ, zero, suc, ◌^◌, ◌<◌, ◌≤◌, List, [], ◌∷◌, ◌++◌, length}
use Rattle.std.specs.declared.collections.VecDeque.{VecDeque}
use Rattle.std.specs.VecDeque.{deque_len, deque_capacity}

-- how many entries a full row has
abbrev pub row_size : ℕ
row_size = 2048

module _ {X A : Type 0} where
  -- the entries of the rows, one row after another
  abbrev pub row_entries : List (VecDeque X A) → List X
  row_entries [] = []
  row_entries (row ∷ rows) = row.items ++ row_entries rows

  -- a row of `count` entries may come before these rows: only the last row may have fewer than a full one
  abbrev pub MayPrecede : List (VecDeque X A) → ℕ → Type 0
  MayPrecede [] count = count ≤ row_size
  MayPrecede (next ∷ rows) count = count ≡ row_size

  -- each row is full except the last
  abbrev pub AreFullButLast : List (VecDeque X A) → Type 0
  AreFullButLast [] = Unit {0}
  AreFullButLast (row ∷ rows) = MayPrecede rows (deque_len row) × AreFullButLast rows

  -- the same once the k-th row has one more entry, for which it has room
  abbrev pub HasRoomAt : ℕ → List (VecDeque X A) → Type 0
  HasRoomAt k [] = ⊥
  HasRoomAt zero (row ∷ rows) =
      MayPrecede rows (suc (deque_len row)) × ((deque_len row < deque_capacity row) × AreFullButLast rows)
  HasRoomAt (suc k) (row ∷ rows) = MayPrecede rows (deque_len row) × HasRoomAt k rows

  -- each row is full
  abbrev pub IsFull : List (VecDeque X A) → Type 0
  IsFull [] = Unit {0}
  IsFull (row ∷ rows) = (deque_len row ≡ row_size) × IsFull rows

  -- the last row is not full
  abbrev pub EndsShort : List (VecDeque X A) → Type 0
  EndsShort [] = ⊥
  EndsShort (row ∷ []) = deque_len row < row_size
  EndsShort (row ∷ next ∷ rows) = EndsShort (next ∷ rows)

  -- the first row and the rest have `count` entries, few enough to be counted, and each row is full except the first
  -- and the last
  pub record IsInRows (count : ℕ) (first : VecDeque X A) (rest : VecDeque (VecDeque X A) A) : Type 0 where
    pub counted : count ≡ length (first.items ++ row_entries rest.items)
    pub fits : count < 2 ^ 64
    pub first_fits : deque_len first ≤ row_size
    pub cut : AreFullButLast rest.items
