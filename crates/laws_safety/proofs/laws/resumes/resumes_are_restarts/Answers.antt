-- whether a member has failed, and its open requests, don't matter to its restart; and a run never loses closed entries
use Rattle.laws_safety.proofs.records.Resumes.{resumes, restarts, refuses_resume, refuses_restart, run_loses_nothing}
use Rattle.laws_safety.proofs.records.PrunedRestarts.{pruned_as_at_restart}
use Rattle.laws_safety.proofs.laws.resumes.resumes_are_restarts.Goals as goal

pub returns-clause-resumed : goal.returns-clause-resumed
returns-clause-resumed g c start steps replies m run again next =
    let same = g.D.PartialEq.eq in
    let elect = g.L.Elector.elect in (
      restarts same elect again m next,
      resumes same elect again m next
          (run_loses_nothing same elect start steps replies m run),
    )

pub returns-clause-refused : goal.returns-clause-refused
returns-clause-refused g c start steps replies m run again found =
    let same = g.D.PartialEq.eq in
    let elect = g.L.Elector.elect in (
      refuses_restart same elect again m found,
      refuses_resume same elect again m found (run_loses_nothing same elect start steps replies m run),
    )

pub returns-clause-whole : goal.returns-clause-whole
returns-clause-whole g c start steps replies m run =
    run_loses_nothing g.D.PartialEq.eq g.L.Elector.elect start steps replies m run

pub returns-clause-pruned : goal.returns-clause-pruned
returns-clause-pruned g c start steps replies m run = pruned_as_at_restart m
