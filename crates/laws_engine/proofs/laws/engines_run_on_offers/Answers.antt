-- step by step
use Rattle.laws_engine.proofs.Offers.{lifetime_on_offers, runs_join, steps_on_offers}
use Rattle.laws_engine.proofs.laws.engines_run_on_offers.Goals as goal

pub returns-clause-runs : goal.returns-clause-runs
returns-clause-runs g c = λ same elect bytes bytes_of now came out held old new it.
    steps_on_offers same elect bytes_of now _ _ it.steps _ _ _ _ _ it.by_steps

pub returns-clause-join : goal.returns-clause-join
returns-clause-join g c = λ same elect first middle last steps more replies others run then.
    runs_join same elect first middle last steps more replies others run then

pub returns-clause-lifetimes : goal.returns-clause-lifetimes
returns-clause-lifetimes g c = λ same elect bytes bytes_of first last calls goes.
    lifetime_on_offers same elect bytes bytes_of first last calls goes
