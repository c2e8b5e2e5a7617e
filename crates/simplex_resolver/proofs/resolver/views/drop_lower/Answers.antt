-- How the contract of `drop_lower` follows: the views below the view are the range up to the one before it.
use Rattle.std.proofs.Common.{arith}
use Rattle.std.proofs.lemmas.Bool.Decides.{nat_tests}
use Rattle.simplex_resolver.proofs.resolver.views.drop_lower.Goals as goal

pub returns-in_default : goal.returns-in_default
returns-in_default c v = let none = c.in_default.ensures in grind (arith, nat_tests, none)

pub returns : goal.returns
returns c v = let each = c.drop_range.ensures v in let last = c.in-Some.ensures in let zero = c.zero.ensures in
    grind (arith, nat_tests, each, last, zero)
