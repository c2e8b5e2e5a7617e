-- How the contract of `first_word` follows: a text that is split at its first space is the word and the rest, and one
-- without a space is the word.
use Rattle.std.proofs.Common.{lit<, ◌==◌}
use Rattle.std.proofs.lemmas.List.Splits.{slice_split_first}
use Rattle.simplex_program.proofs.WordLists.{one_part}
use Rattle.simplex_program.proofs.words.first_word.Goals as goal

pub returns-in-Some : goal.returns-in-Some
returns-in-Some c =
    let parts = c.in-Some.ensures.byte (lit< tt) (λ w o found. found) in
    rw (parts.0, parts.1) (slice_split_first (λ b. b == 32) c.args.text.now 0 parts.2)

pub returns-in-None : goal.returns-in-None
returns-in-None c = one_part (λ b. b == 32) c.args.text.now (c.in-None.ensures.byte (lit< tt) (λ w o found. found))
