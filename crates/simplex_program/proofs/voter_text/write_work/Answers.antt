-- How the contract of `write_work` follows: the context comes first, and after it the number of the payload.
use Rattle.std.proofs.Common.{[], ◌∷◌, codes, refl}
use Rattle.std.proofs.Output.{has_written_append, has_written_of_eq}
use Rattle.std.specs.Fmt.{decimal}
use Rattle.simplex_program.specs.VoterText.{key_word, payload_word}
use Rattle.simplex_program.proofs.Spaces.{text_more}
use Rattle.simplex_program.proofs.voter_text.write_work.Goals as goal

pub returns-in_ok-write_context-in-Ready : goal.returns-in_ok-write_context-in-Ready
returns-in_ok-write_context-in-Ready g c = λ plain ok.
    let x = c.in-Ready.context in
    let first = c.in_ok-write_context-in-Ready.ensures plain refl in
    let written = rw c.number.ensures at c.write.ensures.writes in
    let whole = text_more (codes "ready") (decimal x.round.view ∷ key_word x.leader ∷ decimal x.parent.0 ∷ payload_word x.parent.1 ∷ []) (payload_word c.in-Ready.proposal.payload) in
    rw c.in-Ready.is (has_written_of_eq _ _ _ _ _ whole (has_written_append _ _ _ _ _ _ first (written first.plain ok)))
