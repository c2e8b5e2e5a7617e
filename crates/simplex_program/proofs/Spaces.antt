-- Words one after another, each after a space, are the text of these words; and bytes in hexadecimal.
use Rattle.std.proofs.Common.{◌≡◌, ℕ, ◌+◌, ◌-◌, ◌^◌, ◌<◌, false, List, [], ◌∷◌, ◌++◌, length, get_or, take, map, ap, refl, sym, ◌∙◌, append_assoc, append-nil}
use Rattle.std.proofs.lemmas.Fmt.{hex_byte}
use Rattle.std.proofs.lemmas.List.{take_more, flat_map_more}
use Rattle.std.specs.Fmt.{digits, padded_integral, format_spec}
use Rattle.std.specs.List.{flat_map}
use Rattle.simplex_program.specs.ResolverText.{byte_digits}
use Rattle.simplex_program.specs.Texts.{text_of}

pub text_behind : {X : Type 0} (first : List ℕ) (f : X → List ℕ) (xs : List X)
    → first ++ flat_map (λ x. 32 ∷ f x) xs ≡ text_of (first ∷ map f xs)
text_behind first f [] = append-nil first
text_behind first f (x ∷ xs) = ap (λ (others : List ℕ). first ++ 32 ∷ others) (text_behind (f x) f xs)

pub text_around : {X Y : Type 0} (first : List ℕ) (f : X → List ℕ) (xs : List X) (second : List ℕ) (h : Y → List ℕ)
    (ys : List Y) → first ++ (flat_map (λ x. 32 ∷ f x) xs ++ (32 ∷ second ++ flat_map (λ y. 32 ∷ h y) ys)) ≡ text_of
    (first ∷ (map f xs ++ second ∷ map h ys))
text_around first f [] second h ys = ap (λ (others : List ℕ). first ++ 32 ∷ others) (text_behind second h ys)
text_around first f (x ∷ xs) second h ys =
    ap (λ (others : List ℕ). first ++ 32 ∷ others)
    (append_assoc (f x) (flat_map (λ y. 32 ∷ f y) xs) (32 ∷ second ++ flat_map (λ y. 32 ∷ h y) ys)
    ∙ text_around (f x) f xs second h ys)

-- one more word
pub text_more : (first : List ℕ) (words : List (List ℕ)) (word : List ℕ)
    → text_of (first ∷ words) ++ 32 ∷ word ≡ text_of (first ∷ (words ++ word ∷ []))
text_more first [] word = refl
text_more first (x ∷ words) word =
    append_assoc first (32 ∷ text_of (x ∷ words)) (32 ∷ word)
    ∙ ap (λ (others : List ℕ). first ++ 32 ∷ others) (text_more x words word)

-- one more byte in hexadecimal
pub byte_more : (bytes : List ℕ) (i : ℕ) → i < length bytes → get_or bytes i 0 < 256
    → flat_map byte_digits (take i bytes) ++ padded_integral (format_spec 32 0 4 2 (2 ^ 64 - 1)) false []
    (digits 16 false (get_or bytes i 0)) ≡ flat_map byte_digits (take (i + 1) bytes)
byte_more bytes i within small =
    ap (λ (digits : List ℕ). flat_map byte_digits (take i bytes) ++ digits) (hex_byte false (get_or bytes i 0) small)
    ∙ (flat_map_more byte_digits [] (take i bytes) (get_or bytes i 0)
    ∙ ap (flat_map byte_digits) (sym (take_more bytes i 0 within)))
