-- Lines, as bytes.
use Rattle.std.specs.Prelude.{◌≡◌, ◌≢◌, ℕ, ◌+◌, ◌==◌, Bool, true, false, ◌<◌, ◌≤◌, ◌⊎◌, List, [], ◌∷◌, ◌++◌, length, take, drop, Option, Some, None, MatchOption, IfSome}
use Rattle.std.specs.List.{position_or_len}
use Rattle.std.specs.Io.BufRead.{strip_last, take_through}
use Rattle.std.specs.Io.KnownBytes.{Consumes, IsAtEnd}
use Rattle.std.specs.Str.{IsUtf8}
use Rattle.std.specs.Borrow.{Bor}

-- the line without its line feed, if it has one
abbrev pub without_feed : List ℕ → List ℕ
without_feed line = strip_last 10 line

-- the text of a line, and none if it is longer than 200 bytes or not UTF-8
abbrev pub ReadsText : List ℕ → Option (Bor (List ℕ)) → Type 0
ReadsText line r = MatchOption r
    ((200 < length (without_feed line)) ⊎ ¬ (IsUtf8 (without_feed line)))
    (λ text. (text.now ≡ without_feed line) × (length (without_feed line) ≤ 200))

-- the first line of the bytes that a reader has left, if they are known, and what is left after it: the line ends with
-- its feed or with the bytes, and of a line that is longer than 200 bytes only the first 201 are read
abbrev pub IsFirstLine : Option (List ℕ) → List ℕ → Option (List ℕ) → Type 0
IsFirstLine left line rest = IfSome left (λ bytes.
    (line ≡ take_through 10 (take 201 bytes)) × (rest ≡ Some (drop (length line) bytes)))

-- the next line, of which something is there, and what is left after it
abbrev pub IsNextLine : Option (List ℕ) → List ℕ → Option (List ℕ) → Type 0
IsNextLine left line rest = (line ≢ []) × IsFirstLine left line rest

-- whether there is a next line, and which; there is none only at the end of the bytes
abbrev pub ReadsNextLine : Bool → Option (List ℕ) → List ℕ → Option (List ℕ) → Type 0
ReadsNextLine true left line rest = IsNextLine left line rest
ReadsNextLine false left line rest = IsAtEnd left

-- the first byte that a reader has left, if its bytes are known, and none only at their end
abbrev pub GivesByte : Option (List ℕ) → Option (List ℕ) → Option ℕ → Type 0
GivesByte left rest None = Consumes left rest [] × IsAtEnd rest
GivesByte left rest (Some b) = Consumes left rest (b ∷ [])

-- no line feed is among the bytes
abbrev pub HasNoFeed : List ℕ → Type 0
HasNoFeed bytes = position_or_len (λ b. b == 10) bytes ≡ length bytes

-- the place of the first line feed, and none if there is none
abbrev pub FindsFeed : List ℕ → Option ℕ → Type 0
FindsFeed bytes r = MatchOption r (HasNoFeed bytes)
    (λ place. (place < length bytes) × (place ≡ position_or_len (λ b. b == 10) bytes))

-- bytes that continue a line of some bytes: it ends with its feed, or when it is known to be too long; or it continues
abbrev pub EndsLine : Bool → ℕ → List ℕ → Type 0
EndsLine true before more =
    ((front : List ℕ) × (more ≡ front ++ 10 ∷ []) × HasNoFeed front × (before + length front < 201))
    ⊎ (HasNoFeed more × (before + length more ≡ 201))
EndsLine false before more = HasNoFeed more × (before + length more < 201)

-- what is appended to a line, and what is left after it; a line that is too long is unchanged
abbrev pub MovesPart : Bool → List ℕ → List ℕ → Option (List ℕ) → Option (List ℕ) → Type 0
MovesPart ended line grown left rest = length line ≤ 201
    → (more : List ℕ) × (grown ≡ line ++ more) × Consumes left rest more × EndsLine ended (length line) more
