-- A member's own record holds each entry once, after whatever run, and so where the member has done whatever it has.
use Rattle.std.proofs.Common.{◌≡◌, ℕ, Bool, true, List}
use Rattle.simplex_voter.specs.Facts.{Elect}
use Rattle.simplex_member.specs.Calls.{ReplyFacts}
use Rattle.simplex_member.specs.MemberFacts.{MemberFacts}
use Rattle.simplex_member.specs.Runs.{StepFacts, IsRun}
use Rattle.simplex_record.specs.Start.{StartFacts}
use Rattle.laws_safety.specs.Executions.{new_member}
use Rattle.laws_safety.specs.MemberHistory.{HasHistory}
use Rattle.laws_safety.specs.RecordsOnce.{HoldsEachEntryOnce}
use Rattle.laws_safety.specs.TermLengths.{HasTerms, KeepTerms}
use Rattle.laws_safety.specs.Traces.{TraceEvent}
use Rattle.laws_safety.proofs.own_records.AtMostSeven.{at_most_seven}
use Rattle.laws_safety.proofs.own_records.EachEntryOnce.{run_records_once}
use Rattle.laws_safety.proofs.records.RunsLawful.{keep_terms}

module _ {K L D : Type 0} (same : D → D → Bool) (decides : (d e : D) → same d e ≡ true → d ≡ e) (elect : Elect L)
    (term_length : ℕ) where
  pub own_entries_once : (start : StartFacts K L D) (steps : List (StepFacts K L D)) (replies : List (ReplyFacts K D))
      (end : MemberFacts K L D) → HasTerms term_length start.setup → KeepTerms term_length steps
      → IsRun same elect (new_member same elect start) steps replies end → HoldsEachEntryOnce end
  own_entries_once start steps replies end begins keep run =
      let once = run_records_once same decides elect term_length start begins steps replies end keep run in
      record { once = once; few = λ view. at_most_seven end.entries view once }

  pub done_entries_once : (i : ℕ) (all : List (TraceEvent D)) (m : MemberFacts K L D)
      → HasHistory same elect term_length i all m → HoldsEachEntryOnce m
  done_entries_once i all m done =
      own_entries_once done.execution.start done.execution.steps done.execution.replies m
      done.executed.lives.first.terms
      (keep_terms term_length i done.execution.steps done.executed.lives.later) done.executed.run
