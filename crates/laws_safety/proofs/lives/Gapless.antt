-- For `votes_are_lawful`.
-- In each state of a run, a proposal that may be voted for skips only views that the state knows to be nullified.
use Rattle.std.proofs.Common.{◌≡◌, ℕ, ◌<◌, Bool, true, List, ◌++◌, Option, Some, None, arith}
use Rattle.std.specs.Prelude.{MatchOption}
use Rattle.simplex_types.specs.Certificates.{ArtifactFacts}
use Rattle.simplex_voter.specs.Facts.{StateFacts, Elect}
use Rattle.simplex_voter.proofs.Rules.{notarize_whole}
use Rattle.simplex_member.specs.Calls.{ReplyFacts}
use Rattle.simplex_member.specs.MemberFacts.{MemberFacts}
use Rattle.simplex_member.specs.OutstandingWork.{OutstandingWork}
use Rattle.simplex_member.specs.Runs.{StepFacts, IsRun}
use Rattle.simplex_record.specs.Start.{StartFacts}
use Rattle.laws_safety.specs.Executions.{new_member}
use Rattle.laws_safety.specs.Traces.{TraceEvent, of_floor, trace_of_steps}
use Rattle.laws_safety.specs.LifetimeLaws.{NotarizesGapless}
use Rattle.laws_safety.specs.TermLengths.{HasTerms, KeepTerms}
use Rattle.laws_safety.proofs.records.RunsLawful.{LivesOn, run_lives, start_lives}
use Rattle.laws_safety.proofs.votes.NotarizeVotes.{held_reaches}

module _ {K L D : Type 0} (same : D → D → Bool) (decides : (d e : D) → same d e ≡ true → d ≡ e) (elect : Elect L) where
  state_reaches : (term_length : ℕ) (trace : List (TraceEvent D)) (closed kept : ℕ) (entries : List (ArtifactFacts D))
      (o : OutstandingWork K D) (life : Option (StateFacts K L D)) → 0 < term_length
      → LivesOn term_length trace closed kept entries o life → MatchOption life (Unit {0}) (NotarizesGapless same elect)
  state_reaches term_length trace closed kept entries o None some lives = tt
  state_reaches term_length trace closed kept entries o (Some x) some lives =
      let terms = lives.keeps.stays.stands.terms in
      let noted = lives.noted in
      λ v p rule holds. held_reaches same decides elect term_length noted.0 noted.1 trace o x
      (omega (arith, some, terms)) terms noted.2 v (notarize_whole same elect x v rule) p holds

  pub states_reach : (term_length : ℕ) (start : StartFacts K L D) (steps : List (StepFacts K L D))
      (replies : List (ReplyFacts K D)) (end : MemberFacts K L D) → HasTerms term_length start.setup
      → KeepTerms term_length steps
      → IsRun same elect (new_member same elect start) steps replies end
      → MatchOption end.life (Unit {0}) (NotarizesGapless same elect)
  states_reach term_length start steps replies end begins keep run =
      let lives = run_lives same decides elect term_length begins.some steps replies (of_floor start.floor) _ end keep
      (start_lives same decides elect term_length start begins) run in
      state_reaches term_length (of_floor start.floor ++ trace_of_steps steps replies) end.closed lives.0 end.entries
      end.outstanding_work end.life begins.some lives.1
