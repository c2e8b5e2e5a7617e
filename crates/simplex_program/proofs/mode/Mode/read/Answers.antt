-- How the contract of `read` follows: two words ask for a resolver and five for a voter, and are those of the mode.
use Rattle.std.proofs.Common.{rules, string_bytes}
use Rattle.simplex_program.proofs.Modes.{two_words, five_words}
use Rattle.simplex_program.proofs.mode.Mode.read.Goals as goal

pub returns-in_ok-term_length_of-in-len2 : goal.returns-in_ok-term_length_of-in-len2
returns-in_ok-term_length_of-in-len2 c =
    let whole = two_words string_bytes c.args.arguments.now _ _ c.in-len2.len_at_least c.in-len2.len_below
    c.kind-item.is c.term_length-item.is in
    rw whole (search rules)

pub returns-in-len5 : goal.returns-in-len5
returns-in-len5 c =
    let whole = five_words string_bytes c.args.arguments.now _ _ _ _ _ c.in-len5.len_at_least c.in-len5.len_below
    c.kind-item-then-arguments-lt6.is c.members-item.is c.me-item.is c.term_length-item-then-arguments-lt6.is
    c.optimistic-item.is in
    rw whole (search rules)
