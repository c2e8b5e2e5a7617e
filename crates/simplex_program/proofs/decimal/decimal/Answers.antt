-- How the contract of `decimal` follows: a word of digits without padding is the decimal of the number that it is read
-- as, and of no other.
use Rattle.std.proofs.Common.{rules}
use Rattle.simplex_program.proofs.Decimals.{decimal-IsUnpadded, reads}
use Rattle.simplex_program.proofs.decimal.decimal.Goals as goal

pub returns-then-not-is_unpadded : goal.returns-then-not-is_unpadded
returns-then-not-is_unpadded c = λ n small is. grind (rules, decimal-IsUnpadded n small)

pub returns : goal.returns
returns c = rw c.ok.ensures.value (reads c.args.word.now c.parse.result c.parse.ensures.value.0 (search rules))
