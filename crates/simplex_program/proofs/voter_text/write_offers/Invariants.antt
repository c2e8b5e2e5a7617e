-- The loop of `write_offers`: the words of the offers so far, which are written.
use Rattle.std.proofs.Common.{◌∷◌, take}
use Rattle.std.specs.Fmt.{HasWritten, IsPlainFormatter}
use Rattle.std.specs.List.{flat_map}
use Rattle.simplex_program.specs.VoterText.{offer_word}
use Rattle.simplex_program.proofs.voter_text.write_offers.Given as goal

abbrev pub invariant-loop-proposal : goal.invariant-loop-proposal
invariant-loop-proposal g l =
    IsPlainFormatter l.initial.f
    → HasWritten g.W.Write.write_str_gives l.initial.f
    (flat_map (λ p. 32 ∷ offer_word p) (take l.proposal-index l.proposals)) l.f
