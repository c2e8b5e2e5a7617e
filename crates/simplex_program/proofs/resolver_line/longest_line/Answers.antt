-- no line has four words
use Rattle.std.proofs.Common.{ap, length, arith, ◌==◌}
use Rattle.std.proofs.lemmas.List.Splits.{length-slice_split}
use Rattle.simplex_program.proofs.WordLists.{three_at_most}
use Rattle.simplex_program.proofs.resolver_line.longest_line.Goals as goal

pub returns-in_default-Some : goal.returns-in_default-Some
returns-in_default-Some c line small is =
    let words = ap length is in
    let parts = ap length (rw c.in_default-Some.is-1 at c.first_word.ensures) in
    let more = length-slice_split (λ b. b == 32) c.in_default-Some.field-0-1.now in
    let most = three_at_most line in
    absurd (omega (arith, words, parts, more, most))
