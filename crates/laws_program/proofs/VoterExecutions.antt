-- The lines that a voter has answered are an execution of its member, line by line.
use Rattle.std.proofs.Common.{◌≡◌, ◌⊎◌, inl, inr, refl, ap, sym, subst, ℕ, ◌<◌, Bool, true, false, List, [], ◌∷◌, Contains, Option, Some, None, arith}
use Rattle.std.specs.Prelude.{MatchOption}
use Rattle.std.specs.Io.KnownBytes.{Appends}
use Rattle.simplex_types.specs.declared.types.plain.PlainDigest.{PlainDigest}
use Rattle.simplex_types.specs.declared.types.plain.PlainElector.{PlainElector}
use Rattle.simplex_types.specs.declared.types.plain.PlainKey.{PlainKey}
use Rattle.simplex_types.specs.Config.{Genesis}
use Rattle.simplex_types.specs.Plain.{digest_from_eq}
use Rattle.simplex_member.specs.Calls.{reply_facts}
use Rattle.simplex_record.specs.Check.{first_recover_error}
use Rattle.simplex_record.specs.Recovery.{recover_error}
use Rattle.simplex_member.specs.Restarts.{RestartFacts}
use Rattle.simplex_member.specs.Runs.{Calls, Restarts, restart_reply, IsStep, IsRun, IsRunFrom}
use Rattle.simplex_record.specs.Start.{StartFacts, new_state}
use Rattle.laws_safety.specs.Lawful.{IsLawful}
use Rattle.laws_safety.specs.Executions.{new_member, BeginsAs, IsExecution, trace_of}
use Rattle.laws_safety.specs.PlainNetwork.{PlainExecution}
use Rattle.laws_safety.proofs.records.RunsLawful.{execution_lawful}
use Rattle.laws_safety.proofs.lists.Splits.{Contains-cases}
use Rattle.simplex_program.specs.declared.network.Network.{Network}
use Rattle.simplex_program.specs.declared.voter_line.VoterLine.{VoterLine}
use Rattle.simplex_program.specs.declared.voter_line.VoterLine.TheVariants.{Notarization, Nullification, Finalization, Verdict, Notarize, Nullify, Finalize, Broadcast, Best, Prune, Proposal, Release, Propose, Proposed, Supersede, Abandon, Verify, Verified, Rejected, Candidates, Token, Trigger, Timeout, Restart, RestartPruned, Record, Views}
use Rattle.simplex_program.specs.declared.voter.VoterAnswer.{VoterAnswer}
use Rattle.simplex_program.specs.declared.voter.VoterAnswer.TheVariants as answer
use Rattle.simplex_program.specs.Line.{without_feed}
use Rattle.simplex_program.specs.Plain.{PlainMember, PlainCall, same_payload, plain_leader, plain_bytes}
use Rattle.simplex_program.specs.Setup.{IsGenesis, IsGenesisStart, StartsAtGenesis, genesis_start}
use Rattle.simplex_program.specs.Texts.{text_of}
use Rattle.simplex_program.specs.Transcript.{Asked, Member, Resolver, Point, AreAnswered, Replies, reply_line}
use Rattle.simplex_program.specs.Voter.{VoterAnswers, IsReplied, IsRestarted, IsDone, DenotesCall, is_no_call}
use Rattle.simplex_program.specs.VoterLine.{voter_words}
use Rattle.simplex_program.specs.VoterText.{voter_reply_words}
use Rattle.simplex_program.specs.Words.{words_in}
use Rattle.simplex_program.proofs.ServedLines.{nothing_appended, appended}
use Rattle.laws_program.specs.VoterExecutions.{PlainStep, PlainReplyFacts, VoterTurn, IsStepOf, TellsAnswer, only_shows, AreSteps, AreVoterLines, voter_replies, IsTranscribed, IsLawfulOf, VoterTranscriptsAreLawful, restart_in}

false≢true : false ≡ true → ⊥
false≢true e = absurd (cc)

-- ---- a line

-- it is a step, or it only shows something
abbrev IsTurnOf : Network → PlainMember → VoterTurn → PlainMember → Type 0
IsTurnOf n m turn left =
    ((only_shows turn.line ≡ true) × (left ≡ m))
    ⊎ ((step : PlainStep) × (t : PlainReplyFacts) × IsStepOf n turn.line step × TellsAnswer turn.answer t
    × IsStep same_payload plain_leader m step t left)

module _ (n : Network) (m left : PlainMember) where
  called : (line : VoterLine) (call : PlainCall) (a : VoterAnswer) → DenotesCall line call → IsReplied m call a left
      → IsTurnOf n m (record { line = line; answer = a }) left
  called line call (answer.Reply reply) stands replied = inr
      (Calls call, reply_facts plain_bytes reply, stands, refl, replied)
  called line call (answer.Restarted result) stands replied = absurd replied
  called line call (answer.Entries count) stands replied = absurd replied
  called line call (answer.Views current finalized lowest) stands replied = absurd replied
  called line call answer.Failed stands replied = absurd replied

  restarted : (line : VoterLine) (drop now : ℕ) (prune : Bool) (a : VoterAnswer)
      → restart_in line ≡ Some (drop, now, prune) → IsRestarted n m drop prune now a left
      → IsTurnOf n m (record { line = line; answer = a }) left
  restarted line drop now prune (answer.Reply reply) asked done = absurd done
  restarted line drop now prune (answer.Restarted result) asked (start, is_start, restarts) =
      let r : RestartFacts PlainKey PlainElector PlainDigest = record { drop = drop; prune = prune; start = start } in
      inr (
        Restarts r,
        restart_reply result,
        subst
            (λ (o : Option (ℕ × ℕ × Bool)). MatchOption o ⊥
            (λ given. IsGenesisStart n given.1 start × (drop ≡ given.0) × (prune ≡ given.2))) (sym asked)
            (is_start, refl, refl),
        refl,
        (result, restarts, refl),
      )
  restarted line drop now prune (answer.Entries count) asked done = absurd done
  restarted line drop now prune (answer.Views current finalized lowest) asked done = absurd done
  restarted line drop now prune answer.Failed asked done = absurd done

  no_call : (line : VoterLine) (a : VoterAnswer) → is_no_call line ≡ true → IsDone n m line a left
      → IsTurnOf n m (record { line = line; answer = a }) left
  no_call (Restart drop now) a none done = restarted (Restart drop now) drop now false a refl done
  no_call (RestartPruned drop now) a none done = restarted (RestartPruned drop now) drop now true a refl done
  no_call Record a none (is, same) = inl (refl, same)
  no_call Views a none (is, same) = inl (refl, same)
  no_call (Notarization v p d) a none done = absurd (false≢true none)
  no_call (Nullification v now) a none done = absurd (false≢true none)
  no_call (Finalization v p d now) a none done = absurd (false≢true none)
  no_call (Verdict v success now) a none done = absurd (false≢true none)
  no_call (Notarize v) a none done = absurd (false≢true none)
  no_call (Nullify v) a none done = absurd (false≢true none)
  no_call (Finalize v) a none done = absurd (false≢true none)
  no_call (Broadcast kind v) a none done = absurd (false≢true none)
  no_call Best a none done = absurd (false≢true none)
  no_call Prune a none done = absurd (false≢true none)
  no_call (Proposal v p d) a none done = absurd (false≢true none)
  no_call (Release v) a none done = absurd (false≢true none)
  no_call Propose a none done = absurd (false≢true none)
  no_call (Proposed v d now) a none done = absurd (false≢true none)
  no_call (Supersede v) a none done = absurd (false≢true none)
  no_call (Abandon v) a none done = absurd (false≢true none)
  no_call Verify a none done = absurd (false≢true none)
  no_call (Verified v) a none done = absurd (false≢true none)
  no_call (Rejected v now) a none done = absurd (false≢true none)
  no_call Candidates a none done = absurd (false≢true none)
  no_call (Token v token) a none done = absurd (false≢true none)
  no_call (Trigger v reason now) a none done = absurd (false≢true none)
  no_call (Timeout now) a none done = absurd (false≢true none)

  turn_of : (line : VoterLine) (a : VoterAnswer) → VoterAnswers n m line a left
      → IsTurnOf n m (record { line = line; answer = a }) left
  turn_of line a (inl (none, done)) = no_call line a none done
  turn_of line a (inr (call, stands, replied)) = called line call a stands replied

-- ---- the lines in order

-- the lines between two points, asked of a member, are these steps of it
record ExecutionFrom (n : Network) (m : PlainMember) (lines : List (List ℕ)) (p q : Point) : Type 0 where
  pub turns : List VoterTurn
  pub steps : List PlainStep
  pub replies : List PlainReplyFacts
  pub end : PlainMember
  pub spelled : AreVoterLines lines turns
  pub written : Appends p.held q.held (voter_replies turns)
  pub taken : AreSteps n turns steps replies
  pub run : IsRun same_payload plain_leader m steps replies end

module _ (n : Network) (m left : PlainMember) (line : List ℕ) (lines : List (List ℕ)) (p r q : Point)
    (turn : VoterTurn) where
  one_more : words_in (without_feed line) ≡ voter_words turn.line
      → Appends p.held r.held (reply_line (text_of (voter_reply_words turn.answer))) → IsTurnOf n m turn left
      → ExecutionFrom n left lines r q → ExecutionFrom n m (line ∷ lines) p q
  one_more words extended (inl (shows, same)) s = record {
    turns = turn ∷ s.turns;
    steps = s.steps;
    replies = s.replies;
    end = s.end;
    spelled = (words, s.spelled);
    written = appended p.held r.held q.held (reply_line (text_of (voter_reply_words turn.answer)))
        (voter_replies s.turns) extended s.written;
    taken = inl (shows, s.taken);
    run = subst (λ l. IsRun same_payload plain_leader l s.steps s.replies s.end) same s.run;
  }
  one_more words extended (inr (step, t, is, tells, stepped)) s = record {
    turns = turn ∷ s.turns;
    steps = step ∷ s.steps;
    replies = t ∷ s.replies;
    end = s.end;
    spelled = (words, s.spelled);
    written = appended p.held r.held q.held (reply_line (text_of (voter_reply_words turn.answer)))
        (voter_replies s.turns) extended s.written;
    taken = inr (step, t, s.steps, s.replies, refl, refl, is, tells, s.taken);
    run = (left, stepped, s.run);
  }

execution_from : (n : Network) (lines : List (List ℕ)) (p q : Point) (m : PlainMember) → p.asked ≡ Member n m
    → AreAnswered p lines q → ExecutionFrom n m lines p q
execution_from n [] p q m asked same = record {
  turns = [];
  steps = [];
  replies = [];
  end = m;
  spelled = tt;
  written = subst (λ (r : Point). Appends p.held r.held []) same (nothing_appended p.held);
  taken = (refl, refl);
  run = refl;
}
execution_from n (line ∷ lines) p q m asked (r, (reply, (next, replied), extended), rest) =
    by_asked r.asked refl (λ left is. execution_from n lines r q left is rest)
  where
    given : (a : Asked) → r.asked ≡ a → Replies (Member n m) (without_feed line) reply a
    given a is = subst (λ b. Replies b (without_feed line) reply a) asked
        (subst (λ b. Replies p.asked (without_feed line) reply b) is replied)

    by_parts : (o : Network) (left : PlainMember) → ExecutionFrom n left lines r q
        → Replies (Member n m) (without_feed line) reply (Member o left) → ExecutionFrom n m (line ∷ lines) p q
    by_parts o left later (vline, a, words, answers, same, text) =
        one_more n m left line lines p r q (record { line = vline; answer = a }) words
        (subst (λ bytes. Appends p.held r.held bytes) text extended)
        (turn_of n m left vline a answers)
        later

    same_network : (o : Network) (left : PlainMember) → Replies (Member n m) (without_feed line) reply (Member o left)
        → o ≡ n
    same_network o left (_, _, _, _, same, _) = same

    by_asked : (a : Asked) → r.asked ≡ a → ((left : PlainMember) → r.asked ≡ Member n left
        → ExecutionFrom n left lines r q) → ExecutionFrom n m (line ∷ lines) p q
    by_asked (Resolver x fetching) is later = absurd (given (Resolver x fetching) is)
    by_asked (Member o left) is later =
        let here = given (Member o left) is in
        by_parts o left (later left (subst (λ k. r.asked ≡ Member k left) (same_network o left here) is)) here

-- ---- from the start on

module _ (n : Network) (some : 0 < n.term_length) (i : ℕ) (signs : (n.me ≡ Some i) ⊎ (n.me ≡ None)) where
  begins : (now : ℕ) (start : StartFacts PlainKey PlainElector PlainDigest) → IsGenesisStart n now start
      → BeginsAs n.term_length i start.setup
  begins now start (e, payload, is, same) =
      subst (λ (s : StartFacts PlainKey PlainElector PlainDigest). BeginsAs n.term_length i s.setup) (sym same)
      (record { terms = record { terms = ap (λ t. t.term_length) is.terms; some = some }; signs_as = signs })

  restart_begins : (r : RestartFacts PlainKey PlainElector PlainDigest) (o : Option (ℕ × ℕ × Bool))
      → MatchOption o ⊥ (λ asked. IsGenesisStart n asked.1 r.start × (r.drop ≡ asked.0) × (r.prune ≡ asked.2))
      → BeginsAs n.term_length i r.start.setup
  restart_begins r None is = absurd is
  restart_begins r (Some asked) is = begins asked.1 r.start is.0

  restarts_begin : (turns : List VoterTurn) (steps : List PlainStep) (replies : List PlainReplyFacts)
      → AreSteps n turns steps replies → (r : RestartFacts PlainKey PlainElector PlainDigest)
      → Contains steps (Restarts r) → BeginsAs n.term_length i r.start.setup
  restarts_begin [] steps replies (none, _) r h =
      let empty : Contains [] (Restarts r) = subst (λ (xs : List PlainStep). Contains xs (Restarts r)) none h in
      absurd (omega (arith, empty.1))
  restarts_begin (turn ∷ turns) steps replies (inl (_, taken)) r h = restarts_begin turns steps replies taken r h
  restarts_begin (turn ∷ turns) steps replies (inr (step, t, rest, others, same, _, is, _, taken)) r h =
      elim (Contains-cases step rest (Restarts r) (subst (λ (xs : List PlainStep). Contains xs (Restarts r)) same h)) [
        | inl here ↦ restart_begins r (restart_in turn.line) (subst (IsStepOf n turn.line) here is)
        | inr later ↦ restarts_begin turns rest others taken r later
      ]

-- no rule of a record is broken at genesis, and no deadline is late
accepted : (n : Network) (e : PlainElector) (payload : PlainDigest) → IsGenesis n e payload
    → recover_error same_payload (new_state (genesis_start n e payload 0).setup) (Genesis payload) 0 [] ≡ None
unfolding first_recover_error
accepted n e payload is = rw is.terms refl

run_from : (n : Network) (m end : PlainMember) (start : StartFacts PlainKey PlainElector PlainDigest)
    (steps : List PlainStep) (replies : List PlainReplyFacts) → IsGenesisStart n 0 start
    → m ≡ new_member same_payload plain_leader start → IsRun same_payload plain_leader m steps replies end
    → IsRunFrom same_payload plain_leader start steps replies
unfolding IsRunFrom
run_from n m end start steps replies (e, payload, is, same) made run = (
  subst (λ (s : StartFacts PlainKey PlainElector PlainDigest).
      recover_error same_payload (new_state s.setup) s.floor s.now [] ≡ None) (sym same) (accepted n e payload is),
  end,
  subst (λ l. IsRun same_payload plain_leader l steps replies end) made run,
)

-- lines that a member answered that has started at genesis
record LinesTell (n : Network) (lines : List (List ℕ)) (p q : Point) : Type 0 where
  pub execution : PlainExecution
  pub transcribed : IsTranscribed n lines p.held q.held execution
  pub lawful : IsLawfulOf n execution

lines_tell : (n : Network) (m : PlainMember) (p q : Point) (lines : List (List ℕ)) → 0 < n.term_length
    → StartsAtGenesis n m → p.asked ≡ Member n m → AreAnswered p lines q → LinesTell n lines p q
lines_tell n m p q lines some (start, is_start, made) asked answered = record {
  execution = execution;
  transcribed = record {
    start = is_start;
    turns = replied_so.turns;
    spelled = replied_so.spelled;
    written = replied_so.written;
    steps = replied_so.taken;
  };
  lawful = record { ran = ran; lawful = by_me n.me refl };
}
  where
    replied_so : ExecutionFrom n m lines p q
    replied_so = execution_from n lines p q m asked answered

    execution : PlainExecution
    execution = record { start = start; steps = replied_so.steps; replies = replied_so.replies }

    ran : (i : ℕ) → (n.me ≡ Some i) ⊎ (n.me ≡ None) → IsExecution same_payload plain_leader n.term_length i execution
    ran i signs = record {
      lives = record {
        first = begins n some i signs 0 start is_start;
        later = restarts_begin n some i signs replied_so.turns replied_so.steps replied_so.replies replied_so.taken;
      };
      run = run_from n m replied_so.end start replied_so.steps replied_so.replies is_start made replied_so.run;
    }

    by_me : (o : Option ℕ) → n.me ≡ o → IsLawful n.term_length (trace_of execution)
    by_me (Some i) is = execution_lawful same_payload digest_from_eq plain_leader n.term_length i execution
        (ran i (inl is))
    by_me None is = execution_lawful same_payload digest_from_eq plain_leader n.term_length 0 execution (ran 0 (inr is))

pub voter_transcripts_are_lawful : VoterTranscriptsAreLawful
voter_transcripts_are_lawful members me term_length optimistic left held r after served (inl none) = inl none
voter_transcripts_are_lawful members me term_length optimistic left held r after served
    (inr (Resolver x fetching, begins_so, _)) = absurd begins_so
voter_transcripts_are_lawful members me term_length optimistic left held r after served
    (inr (Member n m, (named, starts), (lines, q, answered, ended))) =
    let some : 0 < n.term_length = rw named.2 (omega (arith, served.0.3.0)) in
    let p : Point = record { asked = Member n m; left = left; held = held } in
    let tells = lines_tell n m p q lines some starts refl answered in
    inr (
      n,
      tells.execution,
      named,
      record { lines = lines; last = q; transcribed = tells.transcribed; ended = ended },
      tells.lawful,
    )
