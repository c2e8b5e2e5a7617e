-- The code's steps and replies show the trace of their execution.
use Rattle.std.proofs.Common.{◌≡◌, refl, ap, sym, subst, ◌∙◌, ℕ, inl, inr, Option, Bool, List, [], ◌∷◌, ◌++◌, map, Contains, Some, None, Result, Ok, Err, arith}
use Rattle.simplex_types.specs.Config.{floor_facts}
use Rattle.simplex_types.specs.declared.config.Floor.{Floor}
use Rattle.simplex_types.specs.declared.config.Floor.TheVariants as floor
use Rattle.simplex_types.specs.declared.types.window.Terms.{Terms}
use Rattle.simplex_member.specs.declared.member.calls.Call.{Call}
use Rattle.simplex_member.specs.declared.member.calls.Call.TheVariants as call
use Rattle.simplex_member.specs.declared.member.calls.Reply.{Reply}
use Rattle.simplex_member.specs.declared.member.calls.Reply.TheVariants as reply
use Rattle.simplex_member.specs.declared.member.runs.Step.{Step}
use Rattle.simplex_member.specs.declared.member.runs.Step.TheVariants as step
use Rattle.simplex_record.specs.declared.record.start.Start.{Start}
use Rattle.simplex_member.specs.Calls.{ReplyFacts, reply_facts, asked, CallFacts, Added, AddedNullification}
use Rattle.simplex_member.specs.declared.member.restart.Restart.{Restart}
use Rattle.simplex_member.specs.Restarts.{RestartFacts, restart_facts}
use Rattle.simplex_member.specs.Runs.{Calls, Restarts, step_facts, steps_of, restart_reply}
use Rattle.simplex_record.specs.Start.{start_facts}
use Rattle.simplex_record.specs.declared.record.error.RecoverError.{RecoverError}
use Rattle.std.proofs.lemmas.List.{append-nil}
use Rattle.laws_safety.specs.MemberHistory.{execution_of}
use Rattle.laws_safety.specs.ObservedTraces.{votes_in, certificates_in, floor_in, taken_by, taken_in, begun_by, shown_by, shown_trace, StartsAs, AllStartAs}
use Rattle.laws_safety.specs.Traces.{TraceEvent, passed_certificates, accepted_by, of_floor, signed_in, accepted_at, trace_at, trace_of_steps}
use Rattle.laws_safety.specs.Executions.{trace_of, BeginsAs, RunsAs}
use Rattle.laws_safety.proofs.lists.Splits.{Contains-cases, Contains-cons_rest}

module _ {S D K G C : Type 0} (bytes_of : C → List ℕ) where
  votes_shown : (r : Reply S D K G C) → votes_in r ≡ signed_in (reply_facts bytes_of r)
  votes_shown (reply.Notarize None) = refl
  votes_shown (reply.Notarize (Some vote)) = refl
  votes_shown (reply.Nullify None) = refl
  votes_shown (reply.Nullify (Some vote)) = refl
  votes_shown (reply.Finalize None) = refl
  votes_shown (reply.Finalize (Some vote)) = refl
  votes_shown _ = refl

  floor_shown : (f : Floor S D K G C) → floor_in f ≡ of_floor (floor_facts bytes_of f)
  floor_shown (floor.Genesis payload) = refl
  floor_shown (floor.Finalized f) = refl

-- the certificate of a call whose reply says whether it is new
abbrev where_added : {K D : Type 0} → ReplyFacts K D → List (TraceEvent D) → List (TraceEvent D)
where_added (Added _ _) trace = trace
where_added (AddedNullification _) trace = trace
where_added _ trace = []

accepted_where : {K D : Type 0} (call : CallFacts D) (t : ReplyFacts K D)
    → accepted_by call t ≡ where_added t (passed_certificates call)
accepted_where call (Added newly leader) = refl
accepted_where call (AddedNullification newly) = refl
accepted_where call _ = refl

module _ (L : Type 0) {S D K G C : Type 0} (bytes_of : C → List ℕ) where
  asked_hands : (c : Call S D K G C) → passed_certificates (asked bytes_of c) ≡ certificates_in c
  asked_hands (call.AddNotarization c) = refl
  asked_hands (call.AddNullification c now) = refl
  asked_hands (call.AddFinalization c now) = refl
  asked_hands _ = refl

  taken_where : (c : Call S D K G C) (r : Reply S D K G C)
      → taken_by c r ≡ where_added (reply_facts bytes_of r) (certificates_in c)
  taken_where c (reply.Added newly leader) = refl
  taken_where c (reply.AddedNullification newly) = refl
  taken_where c _ = refl

  call_shown : (c : Call S D K G C) (r : Reply S D K G C)
      → taken_by c r ≡ accepted_by (asked bytes_of c) (reply_facts bytes_of r)
  call_shown c r = taken_where c r
      ∙ sym (accepted_where (asked bytes_of c) (reply_facts bytes_of r)
      ∙ ap (where_added (reply_facts bytes_of r)) (asked_hands c))

  pub made_shown : (c : Call S D K G C) (r : Reply S D K G C)
      → trace_at {L = L} (Calls (asked bytes_of c)) (reply_facts bytes_of r) ≡ taken_by c r ++ votes_in r
  made_shown c r = sym (ap (λ ds. ds ++ votes_in r) (call_shown c r)
      ∙ ap (λ ds. accepted_by (asked bytes_of c) (reply_facts bytes_of r) ++ ds) (votes_shown bytes_of r))

module _ {S L D K G C : Type 0} (me : S → Option ℕ) (members : S → List K) (terms : L → Terms) (elects_early : L → Bool)
    (bytes_of : C → List ℕ) where
  taken_shown : (s : Step S L D K G C) (r : Reply S D K G C)
      → taken_in s r ≡ accepted_at (step_facts me members terms elects_early bytes_of s) (reply_facts bytes_of r)
  taken_shown (step.Call c) r = call_shown L bytes_of c r
  taken_shown step.PruneRecord r = refl
  taken_shown (step.Restart q) reply.Restarted = floor_shown bytes_of q.start.floor
  taken_shown (step.Restart q) _ = refl

  all_shown : (steps : List (Step S L D K G C)) (replies : List (Reply S D K G C))
      → shown_by steps replies ≡ trace_of_steps (steps_of me members terms elects_early bytes_of steps)
      (map (reply_facts bytes_of) replies)
  all_shown [] replies = refl
  all_shown (s ∷ steps) [] = refl
  all_shown (s ∷ steps) (r ∷ replies) =
      ap (λ ds. (ds ++ votes_in r) ++ shown_by steps replies) (taken_shown s r)
      ∙ (ap (λ ds. (accepted_at (step_facts me members terms elects_early bytes_of s) (reply_facts bytes_of r) ++ ds)
      ++ shown_by steps replies) (votes_shown bytes_of r)
      ∙ ap (λ ds. trace_at (step_facts me members terms elects_early bytes_of s) (reply_facts bytes_of r) ++ ds)
      (all_shown steps replies))

  pub execution_shown : (start : Start S L D K G C) (steps : List (Step S L D K G C)) (replies : List (Reply S D K G C))
      → trace_of (execution_of me members terms elects_early bytes_of start steps replies) ≡ shown_trace start steps
      replies
  execution_shown start steps replies = sym
      (ap (λ ds. ds ++ shown_by steps replies) (floor_shown bytes_of start.floor)
      ∙ ap (λ ds. of_floor (floor_facts bytes_of start.floor) ++ ds) (all_shown steps replies))

  pub begins_as : (term_length i : ℕ) (start : Start S L D K G C) → StartsAs me terms term_length i start
      → BeginsAs term_length i (start_facts me members terms elects_early bytes_of start).setup
  begins_as term_length i start holds =
      record { terms = record { terms = holds.terms_of; some = holds.some }; signs_as = holds.signs_as }

  restarts_as : (term_length i : ℕ) (steps : List (Step S L D K G C))
      → ((r : Restart S L D K G C) → Contains steps (step.Restart r) → StartsAs me terms term_length i r.start)
      → (q : RestartFacts K L D) → Contains (steps_of me members terms elects_early bytes_of steps) (Restarts q)
      → BeginsAs term_length i q.start.setup
  restarts_as term_length i [] later q h = absurd (omega (arith, h.1))
  restarts_as term_length i (s ∷ steps) later q h =
      elim (Contains-cases (step_facts me members terms elects_early bytes_of s)
      (steps_of me members terms elects_early bytes_of steps) (Restarts q) h) [
        | inl here ↦ by_step s here (λ r is. later r (0, omega arith, is))
        | inr there ↦ restarts_as term_length i steps (λ r k. later r (Contains-cons_rest s steps (step.Restart r) k)) q
            there
      ]
    where
      by_step : (t : Step S L D K G C) → step_facts me members terms elects_early bytes_of t ≡ Restarts q
          → ((r : Restart S L D K G C) → t ≡ step.Restart r → StartsAs me terms term_length i r.start)
          → BeginsAs term_length i q.start.setup
      by_step (step.Call c) is holds = absurd (cc)
      by_step step.PruneRecord is holds = absurd (cc)
      by_step (step.Restart r) is holds =
          let same : restart_facts me members terms elects_early bytes_of r ≡ q = cc in
          subst (λ (p : RestartFacts K L D). BeginsAs term_length i p.start.setup) same
          (begins_as term_length i r.start (holds r refl))

  pub lives_as : (term_length i : ℕ) (start : Start S L D K G C) (steps : List (Step S L D K G C))
      → AllStartAs me terms term_length i start steps
      → RunsAs term_length i (start_facts me members terms elects_early bytes_of start)
      (steps_of me members terms elects_early bytes_of steps)
  lives_as term_length i start steps holds =
      record { first = begins_as term_length i start holds.first; later = restarts_as term_length i steps holds.later }

  pub restart_shown : (r : Restart S L D K G C) (result : Result (Unit {0}) RecoverError)
      → trace_at (Restarts (restart_facts me members terms elects_early bytes_of r))
      (restart_reply {K = K} {D = D} result) ≡ begun_by r.start result
  restart_shown r (Ok done) = append-nil (of_floor (floor_facts bytes_of r.start.floor))
      ∙ sym (floor_shown bytes_of r.start.floor)
  restart_shown r (Err e) = refl

  pub start_shown : (start : Start S L D K G C) → of_floor (floor_facts bytes_of start.floor) ≡ floor_in start.floor
  start_shown start = sym (floor_shown bytes_of start.floor)
