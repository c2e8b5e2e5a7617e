-- How the contract of `answers` follows: the results after any calls are of the certificates that were received.
use Rattle.simplex_resolver.proofs.AnswersLaw.{answers_are_of_the_received}
use Rattle.simplex_resolver.proofs.resolver.laws.answers.Goals as goal

pub returns : goal.returns
returns c = answers_are_of_the_received
