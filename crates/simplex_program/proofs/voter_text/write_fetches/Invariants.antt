-- The loop of `write_fetches`: the words of the fetches so far, which are written.
use Rattle.std.proofs.Common.{◌∷◌, take}
use Rattle.std.specs.Fmt.{HasWritten, IsPlainFormatter}
use Rattle.std.specs.List.{flat_map}
use Rattle.simplex_program.specs.VoterText.{fetch_word}
use Rattle.simplex_program.proofs.voter_text.write_fetches.Given as goal

abbrev pub invariant-loop-fetch : goal.invariant-loop-fetch
invariant-loop-fetch g l =
    IsPlainFormatter l.initial.f
    → HasWritten g.W.Write.write_str_gives l.initial.f
    (flat_map (λ fetch. 32 ∷ fetch_word fetch) (take l.fetch-index l.fetches)) l.f
