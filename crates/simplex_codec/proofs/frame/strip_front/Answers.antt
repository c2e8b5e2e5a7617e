-- How the contract of `strip_front` follows: bytes that do not begin with the front end within it, or differ from it.
use Rattle.std.proofs.Common.{sym, ◌∙◌}
use Rattle.std.proofs.lemmas.Bool.Decides.{Decides-eqb}
use Rattle.std.proofs.lemmas.Slice.Eq.{starts_is, strip_prefix_is}
use Rattle.simplex_codec.proofs.FrameLaw.{ends_within, parts_from}
use Rattle.simplex_codec.proofs.frame.strip_front.Goals as goal

pub returns-in-Some-clause-read : goal.returns-in-Some-clause-read
returns-in-Some-clause-read c = rw c.in-Some.is at
    (strip_prefix_is Decides-eqb c.args.bytes.now c.args.front.now c.strip_prefix.result c.strip_prefix.ensures.cases)

pub returns-in-None-clause-refused : goal.returns-in-None-clause-refused
returns-in-None-clause-refused c =
    let other = rw c.in-None.is at (strip_prefix_is Decides-eqb c.args.bytes.now c.args.front.now c.strip_prefix.result
    c.strip_prefix.ensures.cases) in
    ends_within c.args.bytes.now c.args.front.now other
    ((starts_is Decides-eqb c.args.front.now c.args.bytes.now c.starts_with.result c.starts_with.ensures.value).0
    c.if-starts_with.true)

pub returns-in-None-2-clause-refused : goal.returns-in-None-2-clause-refused
returns-in-None-2-clause-refused c =
    let other = rw c.in-None.is at (strip_prefix_is Decides-eqb c.args.bytes.now c.args.front.now c.strip_prefix.result
    c.strip_prefix.ensures.cases) in
    parts_from c.args.bytes.now c.args.front.now other (λ rest is.
    let found = (starts_is Decides-eqb c.args.front.now c.args.bytes.now c.starts_with.result
    c.starts_with.ensures.value).1 rest is in
    let crossed = sym found ∙ c.if-starts_with.false in cc)
