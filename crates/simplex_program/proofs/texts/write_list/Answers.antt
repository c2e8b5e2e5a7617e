-- How the contract of `write_list` follows: the word comes first, and each view after a space.
use Rattle.std.proofs.Common.{refl}
use Rattle.std.proofs.Output.{has_written_append, has_written_of_eq}
use Rattle.std.specs.Fmt.{decimal}
use Rattle.simplex_program.proofs.Spaces.{text_behind}
use Rattle.simplex_program.proofs.texts.write_list.Goals as goal

pub returns : goal.returns
returns g c = λ plain ok.
    let first = c.in_ok-write_str.ensures.writes plain refl in
    has_written_of_eq _ _ _ _ _ (text_behind c.args.first.now decimal c.args.views.now)
    (has_written_append _ _ _ _ _ _ first (c.write_views.ensures first.plain ok))
