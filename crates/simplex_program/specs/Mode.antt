-- The arguments of the program.
use Rattle.std.specs.Prelude.{◌≡◌, ◌≢◌, ℕ, ◌^◌, ◌<◌, ◌≤◌, List, [], ◌∷◌, decimal, codes, Option, Some, None, MatchOption, IfSome}
use Rattle.simplex_program.specs.declared.mode.Mode.{Mode}
use Rattle.simplex_program.specs.declared.mode.Mode.TheVariants.{Voter, Resolver}

-- the word for the member that signs: its index, or a dash
abbrev pub member_word : Option ℕ → List ℕ
member_word None = codes "-"
member_word (Some me) = decimal me

-- the arguments that ask for a mode
abbrev pub mode_words : Mode → List (List ℕ)
mode_words (Voter members me term_length optimistic) =
    codes "voter" ∷ decimal members ∷ member_word me ∷ decimal term_length ∷ decimal optimistic ∷ []
mode_words (Resolver term_length) = codes "resolver" ∷ decimal term_length ∷ []

-- a network has from 1 to 1000 members, and the one that signs is among them; a term has from 1 to 2^32 - 1 views
abbrev pub IsNetwork : ℕ → Option ℕ → ℕ → Type 0
IsNetwork members me term_length =
    (1 ≤ members) × (members ≤ 1000) × IfSome me (λ index. index < members)
    × ((1 ≤ term_length) × (term_length < 2 ^ 32))

-- a mode that the arguments can name: its numbers are in range
abbrev pub IsServed : Mode → Type 0
IsServed (Voter members me term_length optimistic) = IsNetwork members me term_length × (optimistic < 2 ^ 64)
IsServed (Resolver term_length) = (1 ≤ term_length) × (term_length < 2 ^ 32)

-- the mode that the words ask for, and none if they ask for no mode that is served
abbrev pub ReadsMode : List (List ℕ) → Option Mode → Type 0
ReadsMode words r = MatchOption r
    ((mode : Mode) → IsServed mode → words ≢ mode_words mode)
    (λ mode. IsServed mode × (words ≡ mode_words mode))

-- the same for the words after `voter`
abbrev pub ReadsVoterMode : List ℕ → List ℕ → List ℕ → List ℕ → Option Mode → Type 0
ReadsVoterMode members me term_length optimistic =
    ReadsMode (codes "voter" ∷ members ∷ me ∷ term_length ∷ optimistic ∷ [])

-- the member that a word names among this number, or none for a dash
abbrev pub ReadsMember : List ℕ → ℕ → Option (Option ℕ) → Type 0
ReadsMember word members r = MatchOption r
    ((me : Option ℕ) → IfSome me (λ index. index < members) → word ≢ member_word me)
    (λ me. IfSome me (λ index. index < members) × (word ≡ member_word me))

-- a term length
abbrev pub ReadsTermLength : List ℕ → Option ℕ → Type 0
ReadsTermLength word r = MatchOption r
    ((length : ℕ) → 1 ≤ length → length < 2 ^ 32 → word ≢ decimal length)
    (λ length. (1 ≤ length) × (length < 2 ^ 32) × (word ≡ decimal length))
