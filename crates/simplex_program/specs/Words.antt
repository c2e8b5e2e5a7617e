-- The words of lines.
use Rattle.std.specs.Prelude.{◌≡◌, ◌≢◌, ◌==◌, Bool, true, false, List, ℕ, map, codes, Option, MatchOption}
use Rattle.std.specs.List.{slice_split}
use Rattle.std.specs.Borrow.{Bor}
use Rattle.simplex_types.specs.declared.reasons.Kind.{Kind}
use Rattle.simplex_types.specs.declared.reasons.TimeoutReason.{TimeoutReason}
use Rattle.simplex_types.specs.Reasons.{kind_text, timeout_reason_text}

-- the bytes of each `&str`
abbrev pub texts_of : List (Bor (List ℕ)) → List (List ℕ)
texts_of words = map (λ word. word.now) words

-- the words of a line, separated by one space each
abbrev pub words_in : List ℕ → List (List ℕ)
words_in text = slice_split (λ byte. byte == 32) text

-- a Boolean's word
abbrev pub flag_word : Bool → List ℕ
flag_word true = codes "true"
flag_word false = codes "false"

-- the value whose word this is, if there is one
abbrev pub ReadsWord : {T : Type 0} → (T → List ℕ) → List ℕ → Option T → Type 0
ReadsWord {T = T} spelled word r = MatchOption r ((x : T) → word ≢ spelled x) (λ x. word ≡ spelled x)

-- the word names a Boolean
abbrev pub ReadsFlag : List ℕ → Option Bool → Type 0
ReadsFlag = ReadsWord flag_word

-- the word names a kind
abbrev pub ReadsKind : List ℕ → Option Kind → Type 0
ReadsKind = ReadsWord kind_text

-- the word names a reason of a timeout
abbrev pub ReadsTimeoutReason : List ℕ → Option TimeoutReason → Type 0
ReadsTimeoutReason = ReadsWord timeout_reason_text
