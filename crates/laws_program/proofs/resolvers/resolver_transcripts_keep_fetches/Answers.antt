-- How the contract of `resolver_transcripts_keep_fetches` follows: the lines that are answered with effects are the
-- resolver's calls, whose laws hold.
use Rattle.laws_program.proofs.ResolverFetches.{resolver_transcripts_keep_fetches}
use Rattle.laws_program.proofs.resolvers.resolver_transcripts_keep_fetches.Goals as goal

pub returns : goal.returns
returns c = resolver_transcripts_keep_fetches
