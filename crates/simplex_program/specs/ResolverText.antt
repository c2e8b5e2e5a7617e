-- The replies of a resolver, by their words.
use Rattle.std.specs.Prelude.{ℕ, ◌/◌, ◌%◌, false, List, [], ◌∷◌, ◌++◌, map, codes, decimal, Some, None}
use Rattle.std.specs.Fmt.{digit_glyph}
use Rattle.std.specs.List.{flat_map}
use Rattle.simplex_types.specs.Reasons.{kind_text, fetch_reason_text}
use Rattle.simplex_resolver.specs.declared.resolver.effect.Effect.{Effect}
use Rattle.simplex_resolver.specs.declared.resolver.effect.Effect.TheVariants as effect
use Rattle.simplex_program.specs.declared.resolver.Answer.{Answer}
use Rattle.simplex_program.specs.declared.resolver.Answer.TheVariants as answer
use Rattle.simplex_program.specs.Texts.{text_of, fault_words}
use Rattle.simplex_program.specs.Words.{flag_word}

-- an effect, in words
abbrev pub effect_words : Effect → List (List ℕ)
effect_words (effect.Fetch view cause reason) = codes "fetch" ∷ decimal view ∷ decimal cause ∷ fetch_reason_text reason ∷ []
effect_words (effect.Settled kind start end) = codes "settled" ∷ kind_text kind ∷ decimal start ∷ decimal end ∷ []
effect_words (effect.Finalized view) = codes "finalized" ∷ decimal view ∷ []
effect_words (effect.Raised view) = codes "raised" ∷ decimal view ∷ []

-- the effects of a call, with a semicolon after each but the last, or a dash if there is none
abbrev pub effects_text : List Effect → List ℕ
effects_text [] = codes "-"
effects_text (e ∷ es) = text_of (effect_words e) ++ flat_map (λ other. codes "; " ++ text_of (effect_words other)) es

-- a byte, by two hexadecimal digits in small letters
abbrev pub byte_digits : ℕ → List ℕ
byte_digits b = digit_glyph false (b / 16) ∷ digit_glyph false (b % 16) ∷ []

-- what is served, in hexadecimal
abbrev pub encoding_text : List ℕ → List ℕ
encoding_text bytes = flat_map byte_digits bytes

-- a reply to a line
abbrev pub resolver_reply_text : Answer → List ℕ
resolver_reply_text (answer.Effects effects) = effects_text effects.items
resolver_reply_text (answer.Flag flag) = flag_word flag
resolver_reply_text (answer.Encoding None) = codes "none"
resolver_reply_text (answer.Encoding (Some bytes)) = encoding_text bytes
resolver_reply_text (answer.Outstanding views) = text_of (codes "outstanding" ∷ map decimal views.items)
resolver_reply_text (answer.Fault f) = text_of (fault_words f)
resolver_reply_text answer.NotAllowed = codes "not-allowed"
