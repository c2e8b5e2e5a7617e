-- How the contract of `keeps_the_laws` follows: the laws of the open fetches and the results after any calls hold after
-- the received ones.
use Rattle.simplex_resolver.proofs.CallHistory.{opens_the_wanted, opens_none, opens_none_again, answers_the_received}
use Rattle.simplex_resolver.proofs.replay.lawful.LawfulResolver.keeps_the_laws.Goals as goal

pub returns-clause-wanted : goal.returns-clause-wanted
returns-clause-wanted c = opens_the_wanted c.args.self.now

pub returns-clause-none : goal.returns-clause-none
returns-clause-none c = opens_none c.args.self.now

pub returns-clause-again : goal.returns-clause-again
returns-clause-again c = opens_none_again c.args.self.now

pub returns-clause-answers : goal.returns-clause-answers
returns-clause-answers c = answers_the_received c.args.self.now
