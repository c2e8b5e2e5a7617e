-- the views in reach, as a range and by their floors
use Rattle.laws_voter.proofs.Opened.{opened_reached, reached_opened}
use Rattle.laws_voter.proofs.laws.opened_views_are.Goals as goal

pub returns : goal.returns
returns g c x v w one some = (opened_reached x v one some w, reached_opened x v one some w)
