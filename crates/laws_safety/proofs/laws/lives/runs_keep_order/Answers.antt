-- a run comes apart between its steps, and each of its states is sound
use Rattle.laws_safety.proofs.lives.WithinRuns.{stretch_is_life, life_conflicts, life_hands_out_once, life_drops_for_good, life_hands_as_asked}
use Rattle.laws_safety.proofs.laws.lives.runs_keep_order.Goals as goal

pub returns-clause-stretches : goal.returns-clause-stretches
returns-clause-stretches g c = stretch_is_life g.D.PartialEq.eq g.L.Elector.elect

pub returns-clause-conflicts_stay : goal.returns-clause-conflicts_stay
returns-clause-conflicts_stay g c term_length = life_conflicts g.D.PartialEq.eq g.L.Elector.elect term_length

pub returns-clause-handed_once : goal.returns-clause-handed_once
returns-clause-handed_once g c term_length = life_hands_out_once g.D.PartialEq.eq g.L.Elector.elect term_length

pub returns-clause-dropped_for_good : goal.returns-clause-dropped_for_good
returns-clause-dropped_for_good g c term_length = life_drops_for_good g.D.PartialEq.eq g.L.Elector.elect term_length

pub returns-clause-handed_as_asked : goal.returns-clause-handed_as_asked
returns-clause-handed_as_asked g c term_length = life_hands_as_asked g.D.PartialEq.eq g.L.Elector.elect term_length
