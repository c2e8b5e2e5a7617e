-- How the contract of `take_header` follows: fewer bytes than a header end within one, and a check that differs is
-- damage.
use Rattle.std.proofs.Common.{arith}
use Rattle.std.proofs.lemmas.Result.{err_from_is_err_and}
use Rattle.simplex_codec.proofs.FrameLaw.{short_header, off_check}
use Rattle.simplex_codec.proofs.frame.take_header.Goals as goal

pub returns-in_default-clause-refused : goal.returns-in_default-clause-refused
returns-in_default-clause-refused c = short_header c.args.bytes.now (λ i. omega (arith, c.type_inv.bytes i))
    c.in_default.ensures.parts

pub returns-in_err-rest-clause-refused : goal.returns-in_err-rest-clause-refused
returns-in_err-rest-clause-refused c =
    let p = err_from_is_err_and c.from_residual.result c.from_residual.ensures.1 in
    rw (p.1, p.2)
    (off_check c.args.bytes.now c.in-Some.rest.now c.in-Some.len c.in-Some.ensures.fits c.in-Some.ensures.parts
    c.in_err-rest.field-0.0
    (rw c.to_be_bytes-check.ensures at c.in_err-rest.ensures.refused))
