-- A list that is cut into rows: where its entries are, and how room for one moves from row to row.
use Rattle.std.proofs.Common.{◌≡◌, ◌≢◌, false, Option, Some, None, IfSome, Result, Ok, Err, OnOk, OnErr, is_err, ℕ, zero, suc, ◌+◌, ◌-◌, ◌*◌, ◌<◌, ◌≤◌, List, [], ◌∷◌, ◌++◌, length, get_or, take, drop, set, refl, ap, sym, subst, ◌∙◌, arith, length-append}
use Rattle.std.specs.declared.collections.VecDeque.{VecDeque}
use Rattle.std.specs.VecDeque.{deque_len, deque_capacity, deque_with_item}
use Rattle.std.specs.List.{insert, remove}
use Rattle.std.proofs.lemmas.List.{append_assoc, set-get_or, get_or_append_left, get_or-append_right, get_or-set_other, set-append_left, set-append_right}
use Rattle.std.proofs.lemmas.List.Edits.{insert-append_left, insert-append_right, remove-append_left, remove-append_right}
use Rattle.std.proofs.lemmas.Bool.{false≢true}
use Rattle.simplex_view_maps.specs.Rows.{row_size, row_entries, MayPrecede, AreFullButLast, HasRoomAt, IsFull, EndsShort, IsInRows}

pub on_err : {T E P : Type 0} (r : Result T E) → P → OnErr r P
on_err (Ok x) p = tt
on_err (Err e) p = p

pub ok_gives : {T E P : Type 0} (r : Result T E) → false ≡ is_err r → OnOk r P → P
ok_gives (Ok x) is gives = gives
ok_gives (Err e) is gives = absurd (false≢true is)

pub if_some_weaker : {T : Type 0} {P Q : T → Type 0} (o : Option T) → ((x : T) → P x → Q x) → IfSome o P → IfSome o Q
if_some_weaker None gives holds = tt
if_some_weaker (Some x) gives holds = gives x holds

module _ {X A : Type 0} where
  -- the entries before a row, the row, and those after it, where another row may have replaced it
  joined-set : (rows : List (VecDeque X A)) (k : ℕ) (row : VecDeque X A) → k < length rows
      → row_entries (set rows k row) ≡ row_entries (take k rows) ++ (row.items ++ row_entries (drop (suc k) rows))
  joined-set [] k row within = absurd (omega arith)
  joined-set (first ∷ rows) zero row within = refl
  joined-set (first ∷ rows) (suc k) row within = ap (λ t. first.items ++ t) (joined-set rows k row (omega arith))
      ∙ sym (append_assoc first.items (row_entries (take k rows)) (row.items ++ row_entries (drop (suc k) rows)))

  joined_at : (rows : List (VecDeque X A)) (k : ℕ) (row : VecDeque X A) → k < length rows → row ≡ get_or rows k row
      → row_entries rows ≡ row_entries (take k rows) ++ (row.items ++ row_entries (drop (suc k) rows))
  joined_at rows k row within read = ap row_entries (sym (ap (λ r. set rows k r) read ∙ set-get_or rows k row))
      ∙ joined-set rows k row within

  -- the rows before a row are full
  pub before_row : (rows : List (VecDeque X A)) (k : ℕ) → AreFullButLast rows → k < length rows
      → length (row_entries (take k rows)) ≡ k * row_size
  before_row [] k cut within = absurd (omega arith)
  before_row (row ∷ rows) zero cut within = refl
  before_row (row ∷ []) (suc k) cut within = absurd (omega arith)
  before_row (row ∷ next ∷ rows) (suc k) cut within =
      let rest = before_row (next ∷ rows) k cut.1 (omega arith) in
      omega (arith, rest, cut.0, row.ok.0, length-append row.items (row_entries (take k (next ∷ rows))))

  pub before_room : (rows : List (VecDeque X A)) (k : ℕ) → HasRoomAt k rows
      → length (row_entries (take k rows)) ≡ k * row_size
  before_room [] k room = absurd room
  before_room (row ∷ rows) zero room = refl
  before_room (row ∷ []) (suc k) room = absurd room.1
  before_room (row ∷ next ∷ rows) (suc k) room =
      let rest = before_room (next ∷ rows) k room.1 in
      omega (arith, rest, room.0, row.ok.0, length-append row.items (row_entries (take k (next ∷ rows))))

  -- a place among the entries is in a row, and in its entries
  pub row_within : (rows : List (VecDeque X A)) (k o : ℕ) → AreFullButLast rows
      → k * row_size + o < length (row_entries rows) → k < length rows
  row_within [] k o cut within = absurd (omega arith)
  row_within (row ∷ rows) zero o cut within = omega arith
  row_within (row ∷ []) (suc k) o cut within =
      absurd (omega (arith, within, cut.0, row.ok.0, length-append row.items []))
  row_within (row ∷ next ∷ rows) (suc k) o cut within =
      let rest = row_within (next ∷ rows) k o cut.1
      (omega (arith, within, cut.0, row.ok.0, length-append row.items (row_entries (next ∷ rows)))) in
      omega (arith, rest)

  pub spot_within : (rows : List (VecDeque X A)) (k o : ℕ) (row : VecDeque X A) → AreFullButLast rows → o < row_size
      → k * row_size + o < length (row_entries rows) → row ≡ get_or rows k row → o < deque_len row
  spot_within [] k o row cut small within read = absurd (omega arith)
  spot_within (first ∷ []) zero o row cut small within read =
      omega (arith, within, first.ok.0, length-append first.items [], ap deque_len read)
  spot_within (first ∷ next ∷ rows) zero o row cut small within read = omega (arith, small, cut.0, ap deque_len read)
  spot_within (first ∷ []) (suc k) o row cut small within read =
      absurd (omega (arith, within, cut.0, first.ok.0, length-append first.items []))
  spot_within (first ∷ next ∷ rows) (suc k) o row cut small within read =
      spot_within (next ∷ rows) k o row cut.1 small
      (omega (arith, within, cut.0, first.ok.0, length-append first.items (row_entries (next ∷ rows)))) read

  -- the entry there
  pub entry_at : (rows : List (VecDeque X A)) (k o : ℕ) (row : VecDeque X A) (x : X) → AreFullButLast rows
      → k < length rows → row ≡ get_or rows k row → o < deque_len row → x ≡ get_or row.items o x
      → x ≡ get_or (row_entries rows) (k * row_size + o) x
  entry_at rows k o row x cut within read spot found =
      let behind = row_entries (drop (suc k) rows) in
      let back : o ≡ k * row_size + o - k * row_size = omega arith in
      found ∙ sym (get_or_append_left row.items behind x o (omega (arith, spot, row.ok.0)))
      ∙ ap (λ n. get_or (row.items ++ behind) n x) back
      ∙ sym (get_or-append_right (row_entries (take k rows)) (row.items ++ behind) (k * row_size) (k * row_size + o) x
      (before_row rows k cut within) (omega arith))
      ∙ ap (λ t. get_or t (k * row_size + o) x) (sym (joined_at rows k row within read))

  -- an edit of a row's entries is one of all entries
  edited : (edit : List X → ℕ → List X) → ((xs ys : List X) (n i : ℕ) → length xs ≡ n → n ≤ i
      → edit (xs ++ ys) i ≡ xs ++ edit ys (i - n)) → (rows : List (VecDeque X A)) (k o : ℕ) (row new : VecDeque X A)
      → length (row_entries (take k rows)) ≡ k * row_size → k < length rows → row ≡ get_or rows k row
      → ((ys : List X) → edit (row.items ++ ys) o ≡ new.items ++ ys)
      → row_entries (set rows k new) ≡ edit (row_entries rows) (k * row_size + o)
  edited edit passes rows k o row new before within read at =
      let behind = row_entries (drop (suc k) rows) in
      let back : k * row_size + o - k * row_size ≡ o = omega arith in
      joined-set rows k new within
      ∙ sym (ap (λ t. edit t (k * row_size + o)) (joined_at rows k row within read)
      ∙ passes (row_entries (take k rows)) (row.items ++ behind) (k * row_size) (k * row_size + o) before (omega arith)
      ∙ ap (λ n. row_entries (take k rows) ++ edit (row.items ++ behind) n) back
      ∙ ap (λ t. row_entries (take k rows) ++ t) (at behind))

  pub set_in : (rows : List (VecDeque X A)) (k o : ℕ) (row new : VecDeque X A) (x : X) → AreFullButLast rows
      → k < length rows → row ≡ get_or rows k row → o < deque_len row → new.items ≡ set row.items o x
      → row_entries (set rows k new) ≡ set (row_entries rows) (k * row_size + o) x
  set_in rows k o row new x cut within read spot is =
      edited (λ t i. set t i x) (λ xs ys n i. set-append_right xs ys n i x) rows k o row new
      (before_row rows k cut within) within read
      (λ ys. set-append_left row.items ys o x (omega (arith, spot, row.ok.0)) ∙ ap (λ t. t ++ ys) (sym is))

  pub removed_in : (rows : List (VecDeque X A)) (k o : ℕ) (row new : VecDeque X A) → AreFullButLast rows
      → k < length rows → row ≡ get_or rows k row → o < deque_len row → new.items ≡ remove row.items o
      → row_entries (set rows k new) ≡ remove (row_entries rows) (k * row_size + o)
  removed_in rows k o row new cut within read spot is =
      edited remove remove-append_right rows k o row new (before_row rows k cut within) within read
      (λ ys. remove-append_left row.items ys o (omega (arith, spot, row.ok.0)) ∙ ap (λ t. t ++ ys) (sym is))

  -- the row with room is there
  pub room_within : (rows : List (VecDeque X A)) (k : ℕ) → HasRoomAt k rows → k < length rows
  room_within [] k room = absurd room
  room_within (row ∷ rows) zero room = omega arith
  room_within (row ∷ rows) (suc k) room = omega (arith, room_within rows k room.1)

  pub has_room : (rows : List (VecDeque X A)) (k : ℕ) (row : VecDeque X A) → HasRoomAt k rows → row ≡ get_or rows k row
      → deque_len row < deque_capacity row
  has_room [] k row room read = absurd room
  has_room (first ∷ rows) zero row room read = omega (arith, room.1.0, ap deque_len read, ap deque_capacity read)
  has_room (first ∷ rows) (suc k) row room read = has_room rows k row room.1 read

  pub inserted_in : (rows : List (VecDeque X A)) (k o : ℕ) (row new : VecDeque X A) (x : X) → HasRoomAt k rows
      → row ≡ get_or rows k row → o ≤ deque_len row → new.items ≡ insert row.items o x
      → row_entries (set rows k new) ≡ insert (row_entries rows) (k * row_size + o) x
  inserted_in rows k o row new x room read spot is =
      edited (λ t i. insert t i x) (λ xs ys n i. insert-append_right xs ys n i x) rows k o row new
      (before_room rows k room) (room_within rows k room) read
      (λ ys. insert-append_left row.items ys o x (omega (arith, spot, row.ok.0)) ∙ ap (λ t. t ++ ys) (sym is))

  -- a place for a new entry is in a row, if one has room, and in the entries of the row that has it, or after them
  pub new_row_within : (rows : List (VecDeque X A)) (h k o : ℕ) → HasRoomAt h rows
      → k * row_size + o ≤ length (row_entries rows) → k < length rows
  new_row_within [] h k o room within = absurd room
  new_row_within (row ∷ rows) h zero o room within = omega arith
  new_row_within (row ∷ []) zero (suc k) o room within =
      absurd (omega (arith, within, room.0, row.ok.0, length-append row.items []))
  new_row_within (row ∷ []) (suc h) (suc k) o room within = absurd room.1
  new_row_within (row ∷ next ∷ rows) zero (suc k) o room within =
      let rest = row_within (next ∷ rows) k o room.1.1
      (omega (arith, within, room.0, row.ok.0, length-append row.items (row_entries (next ∷ rows)))) in
      omega (arith, rest)
  new_row_within (row ∷ next ∷ rows) (suc h) (suc k) o room within =
      let rest = new_row_within (next ∷ rows) h k o room.1
      (omega (arith, within, room.0, row.ok.0, length-append row.items (row_entries (next ∷ rows)))) in
      omega (arith, rest)

  pub new_spot_within : (rows : List (VecDeque X A)) (k o : ℕ) (row : VecDeque X A) → HasRoomAt k rows → o < row_size
      → k * row_size + o ≤ length (row_entries rows) → row ≡ get_or rows k row → o ≤ deque_len row
  new_spot_within [] k o row room small within read = absurd room
  new_spot_within (first ∷ []) zero o row room small within read =
      omega (arith, within, first.ok.0, length-append first.items [], ap deque_len read)
  new_spot_within (first ∷ next ∷ rows) zero o row room small within read =
      omega (arith, small, room.0, ap deque_len read)
  new_spot_within (first ∷ []) (suc k) o row room small within read = absurd room.1
  new_spot_within (first ∷ next ∷ rows) (suc k) o row room small within read =
      new_spot_within (next ∷ rows) k o row room.1 small
      (omega (arith, within, room.0, first.ok.0, length-append first.items (row_entries (next ∷ rows)))) read

  -- the shape of the rows, where a row takes the place of another
  stands-set : (rows : List (VecDeque X A)) (k : ℕ) (row : VecDeque X A) (count : ℕ) → MayPrecede rows count
      → MayPrecede (set rows k row) count
  stands-set [] k row count stands = stands
  stands-set (next ∷ rows) zero row count stands = stands
  stands-set (next ∷ rows) (suc k) row count stands = stands

  pub joined_same : (rows : List (VecDeque X A)) (k : ℕ) (old new : VecDeque X A) → old ≡ get_or rows k old
      → new.items ≡ old.items → row_entries (set rows k new) ≡ row_entries rows
  joined_same [] k old new read same = refl
  joined_same (first ∷ rows) zero old new read same =
      ap (λ t. t ++ row_entries rows) (same ∙ ap (λ (r : VecDeque X A). r.items) read)
  joined_same (first ∷ rows) (suc k) old new read same =
      ap (λ t. first.items ++ t) (joined_same rows k old new read same)

  pub cut-set : (rows : List (VecDeque X A)) (k : ℕ) (old new : VecDeque X A) → AreFullButLast rows
      → old ≡ get_or rows k old → deque_len new ≡ deque_len old → AreFullButLast (set rows k new)
  cut-set [] k old new cut read same = tt
  cut-set (first ∷ rows) zero old new cut read same =
      (subst (MayPrecede rows) (sym (same ∙ ap deque_len read)) cut.0, cut.1)
  cut-set (first ∷ rows) (suc k) old new cut read same =
      (stands-set rows k new _ cut.0, cut-set rows k old new cut.1 read same)

  pub cut_filled : (rows : List (VecDeque X A)) (k : ℕ) (old new : VecDeque X A) → HasRoomAt k rows
      → old ≡ get_or rows k old → deque_len new ≡ suc (deque_len old) → AreFullButLast (set rows k new)
  cut_filled [] k old new room read more = absurd room
  cut_filled (first ∷ rows) zero old new room read more =
      (subst (MayPrecede rows) (sym (more ∙ ap (λ r. suc (deque_len r)) read)) room.0, room.1.1)
  cut_filled (first ∷ rows) (suc k) old new room read more =
      (stands-set rows k new _ room.0, cut_filled rows k old new room.1 read more)

  pub room_made : (rows : List (VecDeque X A)) (k : ℕ) (old new : VecDeque X A) → AreFullButLast rows → k < length rows
      → old ≡ get_or rows k old → suc (deque_len new) ≡ deque_len old → deque_len new < deque_capacity new
      → HasRoomAt k (set rows k new)
  room_made [] k old new cut within read less fits = absurd (omega arith)
  room_made (first ∷ rows) zero old new cut within read less fits =
      (subst (MayPrecede rows) (sym (less ∙ ap deque_len read)) cut.0, (fits, cut.1))
  room_made (first ∷ rows) (suc k) old new cut within read less fits =
      (stands-set rows k new _ cut.0, room_made rows k old new cut.1 (omega arith) read less fits)

  -- the row before the one with room is full
  pub full_before : (rows : List (VecDeque X A)) (k : ℕ) (row : VecDeque X A) → HasRoomAt (suc k) rows
      → row ≡ get_or rows k row → deque_len row ≡ row_size
  full_before [] k row room read = absurd room
  full_before (first ∷ []) k row room read = absurd room.1
  full_before (first ∷ next ∷ rows) zero row room read = ap deque_len read ∙ room.0
  full_before (first ∷ next ∷ rows) (suc k) row room read = full_before (next ∷ rows) k row room.1 read

  -- the next row is the same after a write to this one
  pub next_row : (rows : List (VecDeque X A)) (k : ℕ) (less next : VecDeque X A)
      → next ≡ get_or (set rows k less) (k + 1) next → next ≡ get_or rows (suc k) next
  next_row rows k less next read =
      let one : k + 1 ≡ suc k = omega arith in
      read ∙ get_or-set_other rows k (k + 1) less next (λ e. omega (arith, e)) ∙ ap (λ j. get_or rows j next) one

  -- a row without its last entry, which is then the first of the next
  module _ (a less b more : VecDeque X A) (x : X) (taken : a.items ≡ less.items ++ x ∷ [])
      (shorter : suc (deque_len less) ≡ deque_len a) (fits : deque_len less < deque_capacity less)
      (given : more.items ≡ x ∷ b.items) (longer : deque_len more ≡ suc (deque_len b)) where
    pub handed_same : (rows : List (VecDeque X A)) (k : ℕ) → HasRoomAt (suc k) rows → a ≡ get_or rows k a
        → b ≡ get_or rows (suc k) b → row_entries (set (set rows k less) (suc k) more) ≡ row_entries rows
    handed_same [] k room at next = absurd room
    handed_same (first ∷ []) k room at next = absurd room.1
    handed_same (first ∷ second ∷ rows) zero room at next =
        let behind = second.items ++ row_entries rows in
        ap (λ t. less.items ++ (t ++ row_entries rows)) (given ∙ ap (λ (r : VecDeque X A). x ∷ r.items) next)
        ∙ sym (append_assoc less.items (x ∷ []) behind)
        ∙ ap (λ t. t ++ behind) (sym taken ∙ ap (λ (r : VecDeque X A). r.items) at)
    handed_same (first ∷ second ∷ rows) (suc k) room at next =
        ap (λ t. first.items ++ t) (handed_same (second ∷ rows) k room.1 at next)

    pub handed_room : (rows : List (VecDeque X A)) (k : ℕ) → HasRoomAt (suc k) rows → a ≡ get_or rows k a
        → b ≡ get_or rows (suc k) b → HasRoomAt k (set (set rows k less) (suc k) more)
    handed_room [] k room at next = absurd room
    handed_room (first ∷ []) k room at next = absurd room.1
    handed_room (first ∷ second ∷ rows) zero room at next = (
      shorter ∙ ap deque_len at ∙ room.0,
      (fits, (subst (MayPrecede rows) (sym (longer ∙ ap (λ r. suc (deque_len r)) next)) room.1.0, room.1.1.1)),
    )
    handed_room (first ∷ second ∷ rows) (suc k) room at next = (
      stands-set (set (second ∷ rows) k less) (suc k) more _ (stands-set (second ∷ rows) k less _ room.0),
      handed_room (second ∷ rows) k room.1 at next,
    )

  -- the last row
  pub full_cut : (rows : List (VecDeque X A)) → IsFull rows → AreFullButLast rows
  full_cut [] full = tt
  full_cut (row ∷ []) full = (omega (arith, full.0), tt)
  full_cut (row ∷ next ∷ rows) full = (full.0, full_cut (next ∷ rows) full.1)

  pub ends_full : (rows : List (VecDeque X A)) (k : ℕ) (last : VecDeque X A) → AreFullButLast rows → suc k ≡ length rows
      → last ≡ get_or rows k last → deque_len last ≡ row_size → IsFull rows
  ends_full [] k last cut end read full = tt
  ends_full (row ∷ []) zero last cut end read full = (sym (ap deque_len read) ∙ full, tt)
  ends_full (row ∷ []) (suc k) last cut end read full = absurd (omega (arith, end))
  ends_full (row ∷ next ∷ rows) zero last cut end read full = absurd (omega (arith, end))
  ends_full (row ∷ next ∷ rows) (suc k) last cut end read full =
      (cut.0, ends_full (next ∷ rows) k last cut.1 (omega (arith, end)) read full)

  pub ends_short : (rows : List (VecDeque X A)) (k : ℕ) (last : VecDeque X A) → AreFullButLast rows
      → suc k ≡ length rows → last ≡ get_or rows k last → deque_len last ≢ row_size → EndsShort rows
  ends_short [] k last cut end read short = absurd (omega (arith, end))
  ends_short (row ∷ []) zero last cut end read short = let same = ap deque_len read in omega (arith, same, short, cut.0)
  ends_short (row ∷ []) (suc k) last cut end read short = absurd (omega (arith, end))
  ends_short (row ∷ next ∷ rows) zero last cut end read short = absurd (omega (arith, end))
  ends_short (row ∷ next ∷ rows) (suc k) last cut end read short =
      ends_short (next ∷ rows) k last cut.1 (omega (arith, end)) read short

  pub room_at_end : (rows : List (VecDeque X A)) (k : ℕ) (old new : VecDeque X A) → AreFullButLast rows → EndsShort rows
      → suc k ≡ length rows → old ≡ get_or rows k old → deque_len new ≡ deque_len old
      → deque_len new < deque_capacity new → HasRoomAt k (set rows k new)
  room_at_end [] k old new cut short end read same fits = absurd short
  room_at_end (row ∷ []) zero old new cut short end read same fits =
      (let is = ap deque_len read in omega (arith, short, is, same), (fits, tt))
  room_at_end (row ∷ []) (suc k) old new cut short end read same fits = absurd (omega (arith, end))
  room_at_end (row ∷ next ∷ rows) zero old new cut short end read same fits = absurd (omega (arith, end))
  room_at_end (row ∷ next ∷ rows) (suc k) old new cut short end read same fits = (
    stands-set (next ∷ rows) k new _ cut.0,
    room_at_end (next ∷ rows) k old new cut.1 short (omega (arith, end)) read same fits,
  )

  -- an empty row after full ones
  pub joined_pushed : (rows : List (VecDeque X A)) (row : VecDeque X A) → row.items ≡ []
      → row_entries (rows ++ row ∷ []) ≡ row_entries rows
  joined_pushed [] row empty = ap (λ t. t ++ []) empty
  joined_pushed (first ∷ rows) row empty = ap (λ t. first.items ++ t) (joined_pushed rows row empty)

  pub room_pushed : (rows : List (VecDeque X A)) (row : VecDeque X A) → IsFull rows → deque_len row ≡ 0
      → 0 < deque_capacity row → HasRoomAt (length rows) (rows ++ row ∷ [])
  room_pushed [] row full empty fits = (omega (arith, empty), (omega (arith, empty, fits), tt))
  room_pushed (first ∷ []) row full empty fits = (full.0, room_pushed [] row tt empty fits)
  room_pushed (first ∷ next ∷ rows) row full empty fits = (full.0, room_pushed (next ∷ rows) row full.1 empty fits)

  pub length_same : (rows : List (VecDeque X A)) (k : ℕ) (old new : VecDeque X A) → old ≡ get_or rows k old
      → length new.items ≡ length old.items → length (row_entries (set rows k new)) ≡ length (row_entries rows)
  length_same [] k old new read same = refl
  length_same (first ∷ rows) zero old new read same =
      omega (
        arith,
        same,
        ap (λ (r : VecDeque X A). length r.items) read,
        length-append new.items (row_entries rows),
        length-append first.items (row_entries rows),
      )
  length_same (first ∷ rows) (suc k) old new read same =
      omega (
        arith,
        length_same rows k old new read same,
        length-append first.items (row_entries (set rows k new)),
        length-append first.items (row_entries rows),
      )

  -- a row of the same length in the place of another
  pub in_rows-set : (count : ℕ) (first : VecDeque X A) (rest : VecDeque (VecDeque X A) A) (k : ℕ)
      (old new : VecDeque X A) → IsInRows count first rest → old ≡ get_or rest.items k old
      → length new.items ≡ length old.items → deque_len new ≡ deque_len old
      → IsInRows count first (deque_with_item rest k new)
  in_rows-set count first rest k old new is read same len = record {
    counted = omega (
      arith,
      is.counted,
      length_same rest.items k old new read same,
      length-append first.items (row_entries rest.items),
      length-append first.items (row_entries (set rest.items k new)),
    );
    fits = is.fits;
    first_fits = is.first_fits;
    cut = cut-set rest.items k old new is.cut read len;
  }
