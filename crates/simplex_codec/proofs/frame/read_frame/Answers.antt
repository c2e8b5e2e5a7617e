-- How the contract of `read_frame` follows: each way that a front is no frame, by its header, its length or its check
-- sum, is the error.
use Rattle.std.proofs.Common.{◌≡◌, ◌∙◌}
use Rattle.std.proofs.lemmas.Result.{err_from_is_err_and}
use Rattle.sha2.specs.Sha256.{sha256}
use Rattle.simplex_codec.proofs.FrameLaw.{off_header, off_header_none, fewer, off_digest, off_digest_none}
use Rattle.simplex_codec.proofs.frame.read_frame.Goals as goal

pub returns-in_err-len-clause-none : goal.returns-in_err-len-clause-none
returns-in_err-len-clause-none c =
    let p = err_from_is_err_and c.from_residual.result c.from_residual.ensures.1 in
    rw p.1 (off_header_none sha256 c.args.bytes.now c.in_err-len.field-0.0 c.in_err-len.ensures.refused)

pub returns-in_err-len-clause-refused : goal.returns-in_err-len-clause-refused
returns-in_err-len-clause-refused c =
    let p = err_from_is_err_and c.from_residual.result c.from_residual.ensures.1 in
    rw (p.1, p.2) (off_header sha256 c.args.bytes.now c.in_err-len.field-0.0 c.in_err-len.ensures.refused)

pub returns-in_default-clause-refused : goal.returns-in_default-clause-refused
returns-in_default-clause-refused c =
    fewer sha256 c.args.bytes.now c.in_ok-len.rest.now c.in_ok-len.len c.in_ok-len.ensures.fits c.in_ok-len.ensures.read
    c.in_default.ensures.cases

pub returns-in_err-behind-clause-none : goal.returns-in_err-behind-clause-none
returns-in_err-behind-clause-none c =
    let p = err_from_is_err_and c.from_residual-in_err-behind.result c.from_residual-in_err-behind.ensures.1 in
    let split = c.in-Some.ensures.cases in
    let digest : c.as_slice.result.now ≡ sha256 c.in-Some.entry.now = c.as_slice.ensures ∙ c.digest-digest.ensures in
    rw p.1
    (off_digest_none sha256 c.args.bytes.now c.in_ok-len.rest.now c.in-Some.entry.now c.in-Some.rest.now c.in_ok-len.len
    c.in_ok-len.ensures.fits
    c.in_ok-len.ensures.read split.1 split.2 split.3 c.in_err-behind.field-0.0
    (rw digest at c.in_err-behind.ensures.refused))

pub returns-in_err-behind-clause-refused : goal.returns-in_err-behind-clause-refused
returns-in_err-behind-clause-refused c =
    let p = err_from_is_err_and c.from_residual-in_err-behind.result c.from_residual-in_err-behind.ensures.1 in
    let split = c.in-Some.ensures.cases in
    let digest : c.as_slice.result.now ≡ sha256 c.in-Some.entry.now = c.as_slice.ensures ∙ c.digest-digest.ensures in
    rw (p.1, p.2)
    (off_digest sha256 c.args.bytes.now c.in_ok-len.rest.now c.in-Some.entry.now c.in-Some.rest.now c.in_ok-len.len
    c.in_ok-len.ensures.fits
    c.in_ok-len.ensures.read split.1 split.2 split.3 c.in_err-behind.field-0.0
    (rw digest at c.in_err-behind.ensures.refused))
