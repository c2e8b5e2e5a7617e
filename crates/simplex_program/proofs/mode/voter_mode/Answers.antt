-- How the contract of `voter_mode` follows: words that name no member are those of no mode.
use Rattle.std.proofs.Common.{rules}
use Rattle.simplex_program.proofs.Modes.{no_member}
use Rattle.simplex_program.proofs.mode.voter_mode.Goals as goal

pub returns-in_err-member_of : goal.returns-in_err-member_of
returns-in_err-member_of c = search (
  rules,
  no_member c.args.members.now c.args.me.now c.args.term_length.now c.args.optimistic.now c.in_ok-members.field-0,
)
