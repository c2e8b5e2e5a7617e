-- The loop of `write_others`: the words of the effects so far, which are written.
use Rattle.std.proofs.Common.{◌++◌, codes, take}
use Rattle.std.specs.Fmt.{HasWritten, IsPlainFormatter}
use Rattle.std.specs.List.{flat_map}
use Rattle.simplex_program.specs.ResolverText.{effect_words}
use Rattle.simplex_program.specs.Texts.{text_of}
use Rattle.simplex_program.proofs.resolver_text.write_others.Given as goal

abbrev pub invariant-loop-effect : goal.invariant-loop-effect
invariant-loop-effect g l =
    IsPlainFormatter l.initial.f
    → HasWritten g.W.Write.write_str_gives l.initial.f (flat_map (λ effect. codes "; " ++ text_of (effect_words effect)) (take l.effect-index l.effects)) l.f
