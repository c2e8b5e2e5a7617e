-- How the contract of `write_candidates` follows: the word comes first, then the offers, then the fetches.
use Rattle.std.proofs.Common.{codes, refl}
use Rattle.std.proofs.Output.{has_written_append, has_written_of_eq}
use Rattle.simplex_program.specs.VoterText.{offer_word, fetch_word}
use Rattle.simplex_program.proofs.Spaces.{text_around}
use Rattle.simplex_program.proofs.voter_text.write_candidates.Goals as goal

pub returns : goal.returns
returns g c = λ plain ok.
    let first = c.in_ok-write_str.ensures.writes plain refl in
    let second = c.in_ok-write_offers.ensures first.plain refl in
    let third = c.in_ok-write_str-2.ensures.writes second.plain refl in
    has_written_of_eq _ _ _ _ _ (text_around (codes "candidates") offer_word c.args.proposals.now (codes "fetch") fetch_word c.args.fetches.now)
    (has_written_append _ _ _ _ _ _ first (has_written_append _ _ _ _ _ _ second
    (has_written_append _ _ _ _ _ _ third (c.write_fetches.ensures third.plain ok))))
