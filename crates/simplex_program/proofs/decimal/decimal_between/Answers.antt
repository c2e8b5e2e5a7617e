-- How the contract of `decimal_between` follows: a decimal writes one number, and it lies in the range or not.
use Rattle.std.proofs.Common.{◌≡◌, arith}
use Rattle.std.proofs.lemmas.Fmt.{decimal_injective}
use Rattle.simplex_program.proofs.decimal.decimal_between.Goals as goal
use Rattle.simplex_program.proofs.decimal.decimal_between.Goals.{then-number-least-via-then-number-least, then-number-least-via-else-number-least+then-most-number}

pub returns-then-number-least : goal.returns-then-number-least
returns-then-number-least c = λ n low high is.
    let same : n ≡ c.in_ok-number.number = grind (arith, decimal_injective) in
    elim c.then-number-least.branch [
      | then-number-least-via-then-number-least w ↦ omega (arith, w.if-number-least.true)
      | then-number-least-via-else-number-least+then-most-number w ↦ omega (arith, w.if-most-number.true)
    ]
