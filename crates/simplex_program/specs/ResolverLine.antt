-- The lines that call a resolver, by their words.
use Rattle.std.specs.Prelude.{◌≡◌, ◌≢◌, ℕ, ◌^◌, ◌<◌, List, [], ◌∷◌, length, decimal, codes, Option, MatchOption, ⊤}
use Rattle.simplex_types.specs.Reasons.{kind_text}
use Rattle.simplex_program.specs.Words.{flag_word}
use Rattle.simplex_program.specs.declared.resolver_line.ResolverLine.{ResolverLine}
use Rattle.simplex_program.specs.declared.resolver_line.ResolverLine.TheVariants.{Notarization, Nullification, Finalization, Certified, Replayed, Settled, KeySettled, Uncertifiable, Produce, Outstanding}

-- the words of a line
abbrev pub line_words : ResolverLine → List (List ℕ)
line_words (Notarization view) = codes "notarization" ∷ decimal view ∷ []
line_words (Nullification view) = codes "nullification" ∷ decimal view ∷ []
line_words (Finalization view) = codes "finalization" ∷ decimal view ∷ []
line_words (Certified view success) = codes "certified" ∷ decimal view ∷ flag_word success ∷ []
line_words Replayed = codes "replayed" ∷ []
line_words (Settled view kind) = codes "settled" ∷ decimal view ∷ kind_text kind ∷ []
line_words (KeySettled view) = codes "key-settled" ∷ decimal view ∷ []
line_words (Uncertifiable view) = codes "uncertifiable" ∷ decimal view ∷ []
line_words (Produce view) = codes "produce" ∷ decimal view ∷ []
line_words Outstanding = codes "outstanding" ∷ []

-- its view has 64 bits
abbrev pub HasSmallView : ResolverLine → Type 0
HasSmallView (Notarization view) = view < 2 ^ 64
HasSmallView (Nullification view) = view < 2 ^ 64
HasSmallView (Finalization view) = view < 2 ^ 64
HasSmallView (Certified view success) = view < 2 ^ 64
HasSmallView Replayed = ⊤
HasSmallView (Settled view kind) = view < 2 ^ 64
HasSmallView (KeySettled view) = view < 2 ^ 64
HasSmallView (Uncertifiable view) = view < 2 ^ 64
HasSmallView (Produce view) = view < 2 ^ 64
HasSmallView Outstanding = ⊤

-- the line has this number of words
abbrev pub HasLineWords : ℕ → ResolverLine → Type 0
HasLineWords count line = length (line_words line) ≡ count

-- the line that the words ask for, and none if they ask for none with this number of words
abbrev pub ReadsLineOf : ℕ → List (List ℕ) → Option ResolverLine → Type 0
ReadsLineOf count words r = MatchOption r
    ((line : ResolverLine) → HasLineWords count line → HasSmallView line → words ≢ line_words line)
    (λ line. words ≡ line_words line)

-- the line that the words ask for, and none if they ask for none
abbrev pub ReadsLine : List (List ℕ) → Option ResolverLine → Type 0
ReadsLine words r = MatchOption r
    ((line : ResolverLine) → HasSmallView line → words ≢ line_words line)
    (λ line. words ≡ line_words line)
