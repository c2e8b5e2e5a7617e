-- How the contract of `feed_in` follows: the first feed that is found is the first of all.
use Rattle.simplex_program.proofs.Parts.{finds_feed}
use Rattle.simplex_program.proofs.line_reader.feed_in.Goals as goal

pub returns : goal.returns
returns c = finds_feed c.args.bytes.now c.memchr.result c.memchr.ensures
