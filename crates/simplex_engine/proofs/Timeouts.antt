-- For the code of the engine.
-- That an engine waits for the timeout that its member names, and that the current view has one.
use Rattle.std.proofs.Common.{◌≡◌, ap, ℕ, Bool, true, List, Option, Some, None, ◌<◌, arith}
use Rattle.std.specs.Prelude.{IfSome, MatchOption, nat_lt}
use Rattle.std.proofs.lemmas.Bool.Decides.{nat_tests}
use Rattle.simplex_voter.specs.Facts.{Elect, StateFacts}
use Rattle.simplex_member.specs.Calls.{ReplyFacts, TimesOut, reply_facts}
use Rattle.simplex_member.specs.MemberFacts.{MemberFacts}
use Rattle.simplex_member.specs.declared.member.calls.Reply.{Reply}
use Rattle.simplex_member.specs.declared.member.calls.Reply.TheVariants as reply
use Rattle.laws_safety.specs.LifetimeLaws.{CurrentTimesOut}
use Rattle.laws_safety.specs.MemberHistory.{HasHistory}
use Rattle.laws_safety.specs.Traces.{TraceEvent}
use Rattle.laws_safety.proofs.lives.Polls.{states_time_out}
use Rattle.laws_safety.proofs.records.RunsLawful.{keep_terms}
use Rattle.engine_planner.specs.declared.plan.Plan.{Plan}
use Rattle.engine_planner.specs.declared.task.Task.{Task}
use Rattle.engine_planner.specs.Consequences.{IsFollowed}
use Rattle.simplex_engine.specs.Timeouts.{is_later, IsAwaited, IsStored}

less : (a b : ℕ) → nat_lt a b ≡ true → a < b
less a b is = grind (arith, nat_tests, is)

-- what the member names is stored, and lies after the moment
pub awaited : {K D : Type 0} (now timeout : ℕ) (answer : ReplyFacts K D) → is_later now answer ≡ true
    → IsStored timeout answer → IsAwaited now timeout answer
awaited now timeout (TimesOut (Some (moment, reason))) later stored = (stored, less now moment later)
awaited now timeout answer later stored = tt

-- a plan that follows a reply stores the timeout that it names
pub stores : {S D K G C : Type 0} (bytes : D → List ℕ) (bytes_of : C → List ℕ) (now : ℕ) (asked : Task D)
    (answer : Reply S D K G C) (old new : Plan S D K G C)
    → IsFollowed bytes bytes_of now asked answer old new → IsStored new.timeout (reply_facts bytes_of answer)
stores {S = S} {D = D} {K = K} {G = G} {C = C} bytes bytes_of now asked (reply.Timeout moment reason) old new is =
    ap (λ (plan : Plan S D K G C). plan.timeout) is.same
stores bytes bytes_of now asked answer old new is = tt

-- the member's current view has a timeout, whatever it has done
pub done_times_out : {K L D : Type 0} (same : D → D → Bool) (decides : (d e : D) → same d e ≡ true → d ≡ e)
    (elect : Elect L) (term_length i : ℕ) (all : List (TraceEvent D)) (m : MemberFacts K L D)
    → HasHistory same elect term_length i all m → IfSome m.life CurrentTimesOut
done_times_out {K = K} {L = L} {D = D} same decides elect term_length i all m done =
    by_life m.life (states_time_out same decides elect term_length done.execution.start done.execution.steps
    done.execution.replies m done.executed.lives.first.terms
    (keep_terms term_length i done.execution.steps done.executed.lives.later) done.executed.run)
  where
    by_life : (life : Option (StateFacts K L D)) → MatchOption life (Unit {0}) CurrentTimesOut
        → IfSome life CurrentTimesOut
    by_life None is = tt
    by_life (Some x) is = is
