-- What causes steps whose cause is at hand: what a member receives comes from outside, since no reply brings it.
use Rattle.std.proofs.Common.{◌≡◌, ap, sym, subst, ◌∙◌, refl, ℕ, ◌⊎◌, inl, inr, Bool, true, false, ◌&&◌, List, [], ◌∷◌, ◌++◌, append_assoc, Contains, map, nat_le, Some, None, arith, if◌then◌else◌}
use Rattle.std.specs.List.{list_any}
use Rattle.std.proofs.lemmas.Bool.{and_parts, false≢true, or_cases, or_left, or_right}
use Rattle.std.proofs.lemmas.List.Elements.{Contains-append_cases, Contains-push_cases}
use Rattle.simplex_types.specs.Certificates.{CertificateFacts, Notarized, Nullified, Finalized}
use Rattle.simplex_types.specs.Encoding.{certificate_subject}
use Rattle.simplex_types.specs.declared.types.messages.Proposal.{Proposal}
use Rattle.simplex_voter.specs.Facts.{Elect}
use Rattle.simplex_voter.specs.declared.voter.candidates.CertificateFetch.{CertificateFetch}
use Rattle.simplex_voter.specs.declared.voter.verify.Verify.TheVariants as verify
use Rattle.simplex_member.specs.Calls.{CallFacts, AddNotarization, AddNullification, AddFinalization, SetProposal, Proposed, Verified, VerificationFailed, Certified, TriggerTimeout}
use Rattle.simplex_member.specs.MemberFacts.{MemberFacts}
use Rattle.simplex_member.specs.Runs.{StepFacts, Calls, Prunes, Restarts}
use Rattle.simplex_member.specs.declared.member.calls.Reply.{Reply}
use Rattle.simplex_member.specs.declared.member.calls.Reply.TheVariants as reply
use Rattle.engine_fetches.specs.declared.fetches.FetchKind.{FetchKind}
use Rattle.engine_fetches.specs.declared.fetches.FetchKind.TheVariants.{Notarization}
use Rattle.engine_outbox.specs.CertificateCalls.{certificate_call}
use Rattle.engine_outbox.specs.declared.output.Work.{Work}
use Rattle.engine_outbox.specs.declared.output.Work.TheVariants.{Certify, ProposedTwice}
use Rattle.engine_planner.specs.FetchRequests.{with_missing_certificate}
use Rattle.engine_planner.specs.Causes.{Cause, WorkItem, MissingCertificate, Arrival, Message, Quorum, Expiry, reply_causes, of_task, shown_by, unrequested}
use Rattle.engine_planner.specs.PlannedWork.{AreAmong}
use Rattle.engine_planner.specs.Tasks.{call_of}
use Rattle.engine_planner.specs.declared.task.Task.{Task}
use Rattle.engine_planner.specs.declared.task.Task.TheVariants as task
use Rattle.engine_planner.proofs.PlannedWork.{any_either, among_all, among_further, among_more}
use Rattle.simplex_engine.specs.Provenance.{step_causes, IsCausedBy, IsIn, IsCallCaused, IsStepCaused}
use Rattle.laws_engine.specs.Laws.{given_by_all, WasReceived}

pub any_weaker : {A : Type 0} (p q : A → Bool) → ((a : A) → p a ≡ true → q a ≡ true) → (items : List A)
    → list_any p items ≡ true → list_any q items ≡ true
any_weaker p q weaker [] some = some
any_weaker p q weaker (a ∷ items) some = elim (or_cases (p a) (list_any p items) some) [
  | inl this ↦ or_left (q a) (list_any q items) (weaker a this)
  | inr that ↦ or_right (q a) (list_any q items) (any_weaker p q weaker items that)
]

pub first_or_later : {A : Type 0} (x : A) (rest : List A) (y : A) → Contains (x ∷ rest) y → (x ≡ y) ⊎ Contains rest y
first_or_later x rest y there = elim (Contains-append_cases (x ∷ []) rest y there) [
  | inl here ↦ elim (Contains-push_cases [] x y here) [
    | inl nowhere ↦ (let none = nowhere.1 in absurd (omega (arith, none)))
    | inr is ↦ inl is
  ]
  | inr later ↦ inr later
]

-- what no reply gives

module _ {S D K G C : Type 0} where
  -- it comes from outside
  abbrev is_outside : Cause S D K G C → Bool
  is_outside (Message asked) = true
  is_outside (Arrival from proposal) = true
  is_outside (Quorum subject) = true
  is_outside _ = false

-- what is no duty and no lack is not given by candidates, nor shown of a leader
module _ {S D K G C : Type 0} (test : Cause S D K G C → Bool)
    (no_duty : (work : Work S D K G C) → test (WorkItem work) ≡ false) where
  pub candidates_give_none : ((kind : FetchKind) (view : ℕ) → test (MissingCertificate kind view) ≡ false)
      → (proposals : List (Proposal D)) (wanted : List CertificateFetch)
      → list_any test (map (λ proposal. WorkItem (Certify proposal)) proposals ++ map
      (λ (it : CertificateFetch). MissingCertificate Notarization it.view) wanted) ≡ false
  candidates_give_none no_lack [] [] = refl
  candidates_give_none no_lack [] (it ∷ wanted) =
      rw (no_lack Notarization it.view) (candidates_give_none no_lack [] wanted)
  candidates_give_none no_lack (proposal ∷ proposals) wanted =
      rw (no_duty (Certify proposal)) (candidates_give_none no_lack proposals wanted)

  pub shown_gives_none : (call : CallFacts D) (leader : K) → list_any test (shown_by call leader) ≡ false
  shown_gives_none (AddNotarization c) leader = rw (no_duty (ProposedTwice c.proposal.round.view leader)) refl
  shown_gives_none (AddNullification c now) leader = rw (no_duty (ProposedTwice c.round.view leader)) refl
  shown_gives_none (AddFinalization c now) leader = rw (no_duty (ProposedTwice c.proposal.round.view leader)) refl
  shown_gives_none call leader = refl

module _ {S D K G C : Type 0} where
  timeout_gives_none : (test : Cause S D K G C → Bool) → test Expiry ≡ false → (due : Bool)
      → list_any test (if due then Expiry ∷ [] else []) ≡ false
  timeout_gives_none test no_expiry true = rw no_expiry refl
  timeout_gives_none test no_expiry false = refl

  replies_inside : (now : ℕ) (answer : Reply S D K G C) (call : CallFacts D)
      → list_any is_outside (reply_causes now answer call) ≡ false
  replies_inside now (reply.Work (verify.Ready context proposal)) call = refl
  replies_inside now (reply.Work (verify.Resolve proposal view kind leader)) call = refl
  replies_inside now (reply.Work verify.Wait) call = refl
  replies_inside now (reply.Request (Some request)) call = refl
  replies_inside now (reply.Request None) call = refl
  replies_inside now (reply.Candidates proposals wanted) call =
      candidates_give_none is_outside (λ work. refl) (λ kind view. refl) proposals.items wanted.items
  replies_inside now (reply.Certificate (Some certificate)) call = refl
  replies_inside now (reply.Certificate None) call = refl
  replies_inside now (reply.Added is_new (Some leader)) call = shown_gives_none is_outside (λ work. refl) call leader
  replies_inside now (reply.Added is_new None) call = refl
  replies_inside now (reply.Timeout moment reason) call = timeout_gives_none is_outside refl (nat_le moment now)
  replies_inside now answer call = refl

  -- what comes from outside is among the rest
  outside_before : (causes given : List (Cause S D K G C)) → list_any is_outside given ≡ false
      → (the_cause : Cause S D K G C) → is_outside the_cause ≡ true → IsIn the_cause (causes ++ given)
      → IsIn the_cause causes
  outside_before causes given inside the_cause outside is = record {
    found = λ test some.
        let both : Cause S D K G C → Bool = λ it. is_outside it && test it in
        elim (any_either both causes given (is.found both (rw outside some))) [
          | inl here ↦ any_weaker both test (λ it passes. (and_parts (is_outside it) (test it) passes).1) causes here
          | inr there ↦ absurd (false≢true (sym inside
              ∙ any_weaker both is_outside (λ it passes. (and_parts (is_outside it) (test it) passes).0) given there))
        ];
  }

  replied_before : (causes given : List (Cause S D K G C)) → list_any is_outside given ≡ false → (call : CallFacts D)
      → WasReceived (causes ++ given) call → WasReceived causes call
  replied_before causes given inside (Verified view) is =
      outside_before causes given inside (Message (task.Verified view)) refl is
  replied_before causes given inside (VerificationFailed view reason now) is =
      outside_before causes given inside (Message (task.VerificationFailed view)) refl is
  replied_before causes given inside (Proposed view payload now) is =
      outside_before causes given inside (Message (task.Proposed view payload)) refl is
  replied_before causes given inside (Certified view success now) is =
      outside_before causes given inside (Message (task.Certified view success)) refl is
  replied_before causes given inside (TriggerTimeout view reason now) is =
      outside_before causes given inside (Message (task.TriggerTimeout view reason)) refl is
  replied_before causes given inside (SetProposal view proposal) (inl is) =
      inl (outside_before causes given inside (Message (task.SetProposal view proposal)) refl is)
  replied_before causes given inside (SetProposal view proposal) (inr (from, is)) =
      inr (from, outside_before causes given inside (Arrival from proposal) refl is)
  replied_before causes given inside (AddNotarization c) is =
      outside_before causes given inside (Quorum (certificate_subject (Notarized c))) refl is
  replied_before causes given inside (AddNullification c now) is =
      outside_before causes given inside (Quorum (certificate_subject (Nullified c))) refl is
  replied_before causes given inside (AddFinalization c now) is =
      outside_before causes given inside (Quorum (certificate_subject (Finalized c))) refl is
  replied_before causes given inside call is = tt

  -- what causes a task or a certificate

  task_replied : (causes : List (Cause S D K G C)) (now : ℕ) (asked : Task D) → AreAmong (of_task asked) causes
      → WasReceived causes (call_of asked now)
  task_replied causes now (task.Verified view) is = is
  task_replied causes now (task.VerificationFailed view) is = is
  task_replied causes now (task.Proposed view payload) is = is
  task_replied causes now (task.Certified view success) is = is
  task_replied causes now (task.TriggerTimeout view reason) is = is
  task_replied causes now (task.SetProposal view proposal) is = inl is
  task_replied causes now asked is = tt

  certificate_replied : (causes : List (Cause S D K G C)) (now : ℕ) (certificate : CertificateFacts D)
      → IsIn (Quorum (certificate_subject certificate)) causes
      → WasReceived causes (certificate_call certificate now)
  certificate_replied causes now (Notarized c) is = is
  certificate_replied causes now (Nullified c) is = is
  certificate_replied causes now (Finalized c) is = is

module _ {S L D K G C : Type 0} (now : ℕ) where
  meant_replied : (causes : List (Cause S D K G C)) (m : MemberFacts K L D) (call : CallFacts D)
      → IsCallCaused now causes m call → WasReceived causes call
  meant_replied causes m call (inl (asked, is, of_these, on_offer)) =
      subst (WasReceived causes) (sym is) (task_replied causes now asked of_these)
  meant_replied causes m call (inr (inl (from, proposal, is, in_these, admits))) =
      subst (WasReceived causes) (sym is) (inr (from, in_these))
  meant_replied causes m call (inr (inr (certificate, is, in_these))) =
      subst (WasReceived causes) (sym is) (certificate_replied causes now certificate in_these)

  steps_inside : (step : StepFacts K L D) (answer : Reply S D K G C)
      → list_any is_outside (step_causes now step answer) ≡ false
  steps_inside (Calls call) answer = replies_inside now answer call
  steps_inside Prunes answer = refl
  steps_inside (Restarts restart) answer = refl

module _ {S L D K G C : Type 0} (same : D → D → Bool) (elect : Elect L) (bytes_of : C → List ℕ) (now : ℕ)
    (asks_now over : FetchKind → ℕ → Bool) where
  -- a call of one of these steps was received with what was at hand before all of them
  pub calls_replied : (steps : List (StepFacts K L D × Reply S D K G C)) (causes left : List (Cause S D K G C))
      (asked : FetchKind → ℕ → Bool) (m end : MemberFacts K L D)
      → IsCausedBy same elect bytes_of now asks_now over steps causes asked m left end
      → (call : CallFacts D) (answer : Reply S D K G C) → Contains steps (Calls call, answer)
      → WasReceived causes call
  calls_replied [] causes left asked m end provenance call answer there =
      (let none = there.1 in absurd (omega (arith, none)))
  calls_replied ((step, reply) ∷ rest) causes left asked m end (meant, next, is_step, provenance) call answer there =
      elim (first_or_later (step, reply) rest (Calls call, answer) there) [
        | inl is ↦ meant_replied now causes m call
            (subst (IsStepCaused now causes m) (ap (λ (it : StepFacts K L D × Reply S D K G C). it.0) is) meant)
        | inr later ↦ (let given : List (Cause S D K G C) = step_causes {L = L} now step reply in
            replied_before causes given (steps_inside now step reply) call
            (calls_replied rest (causes ++ given) left (with_missing_certificate asked given) next end provenance call
            answer
            later))
      ]

  -- what is left was at hand before all of them, or was given by a reply
  pub left_given : (steps : List (StepFacts K L D × Reply S D K G C)) (causes left : List (Cause S D K G C))
      (asked : FetchKind → ℕ → Bool) (m end : MemberFacts K L D)
      → IsCausedBy same elect bytes_of now asks_now over steps causes asked m left end
      → AreAmong (unrequested left) (causes ++ given_by_all now steps)
  left_given [] causes left asked m end provenance = among_further provenance.0 (among_more causes [])
  left_given ((step, reply) ∷ rest) causes left asked m end (meant, next, is_step, provenance) =
      let given : List (Cause S D K G C) = step_causes {L = L} now step reply in
      among_further (left_given rest (causes ++ given) left (with_missing_certificate asked given) next end provenance)
      (among_all (append_assoc causes given (given_by_all now rest)))
