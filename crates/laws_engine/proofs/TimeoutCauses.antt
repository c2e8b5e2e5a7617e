-- A vote to nullify is caused by a timeout whose moment has come: it was at hand before, or a reply said so.
use Rattle.std.proofs.Common.{◌≡◌, refl, ap, sym, subst, ◌∙◌, ℕ, ◌⊎◌, inl, inr, arith, Bool, true, false, List, [], ◌∷◌, ◌++◌, Contains, nat_le, Some, None, if◌then◌else◌}
use Rattle.std.specs.List.{list_any}
use Rattle.std.proofs.lemmas.Bool.{false≢true, or_cases}
use Rattle.std.proofs.lemmas.Bool.Decides.{nat_tests}
use Rattle.std.proofs.lemmas.List.Elements.{Contains-append_left, Contains-append_right}
use Rattle.simplex_types.specs.Certificates.{CertificateFacts, Notarized, Nullified, Finalized}
use Rattle.simplex_types.specs.declared.reasons.TimeoutReason.{TimeoutReason}
use Rattle.simplex_voter.specs.Facts.{Elect}
use Rattle.simplex_voter.specs.declared.voter.verify.Verify.TheVariants as verify
use Rattle.simplex_member.specs.Calls.{CallFacts, ConstructNullify}
use Rattle.simplex_member.specs.MemberFacts.{MemberFacts}
use Rattle.simplex_member.specs.Runs.{StepFacts, Calls, Prunes, Restarts}
use Rattle.simplex_member.specs.declared.member.calls.Reply.{Reply}
use Rattle.simplex_member.specs.declared.member.calls.Reply.TheVariants as reply
use Rattle.engine_fetches.specs.declared.fetches.FetchKind.{FetchKind}
use Rattle.engine_outbox.specs.CertificateCalls.{certificate_call}
use Rattle.engine_planner.specs.FetchRequests.{with_missing_certificate}
use Rattle.engine_planner.specs.Causes.{Cause, WorkItem, MissingCertificate, Arrival, Message, Quorum, Expiry, reply_causes, of_task, Request}
use Rattle.engine_planner.specs.Tasks.{call_of}
use Rattle.engine_planner.specs.declared.task.Task.{Task}
use Rattle.engine_planner.specs.declared.task.Task.TheVariants as task
use Rattle.engine_planner.proofs.PlannedWork.{any_either}
use Rattle.simplex_engine.specs.Provenance.{step_causes, IsCausedBy, IsIn, IsCallCaused, IsStepCaused}
use Rattle.laws_engine.specs.Laws.{SaysDue}
use Rattle.laws_engine.proofs.ReceivedCalls.{any_weaker, candidates_give_none, first_or_later, shown_gives_none}

module _ {S D K G C : Type 0} where
  -- it is of a timeout
  abbrev is_expiry : Cause S D K G C → Bool
  is_expiry Expiry = true
  is_expiry _ = false

  expired : (causes : List (Cause S D K G C)) → list_any is_expiry causes ≡ true → IsIn Expiry causes
  expired causes some = record { found = λ test passes. any_weaker is_expiry test (by_matter test passes) causes some }
    where
      by_matter : (test : Cause S D K G C → Bool) → list_any test (Expiry ∷ []) ≡ true → (it : Cause S D K G C)
          → is_expiry it ≡ true → test it ≡ true
      by_matter test passes Expiry is = elim (or_cases (test Expiry) false passes) [
        | inl it ↦ it
        | inr none ↦ absurd (false≢true none)
      ]
      by_matter test passes (WorkItem work) is = absurd (false≢true is)
      by_matter test passes (MissingCertificate kind view) is = absurd (false≢true is)
      by_matter test passes (Request ask) is = absurd (false≢true is)
      by_matter test passes (Arrival from proposal) is = absurd (false≢true is)
      by_matter test passes (Quorum subject) is = absurd (false≢true is)
      by_matter test passes (Message asked) is = absurd (false≢true is)

  task_expires : (now view : ℕ) (asked : Task D) → ConstructNullify view ≡ call_of asked now
      → of_task {S = S} {K = K} {G = G} {C = C} asked ≡ Expiry ∷ []
  task_expires now view (task.ConstructNullify v reason) is = refl
  task_expires now view asked is = absurd (cc)

module _ {S D K G C : Type 0} (now : ℕ) where
  timeout_says : (moment : ℕ) (reason : TimeoutReason) (call : CallFacts D) (due : Bool) → nat_le moment now ≡ due
      → list_any is_expiry (reply_causes {S = S} {K = K} {G = G} {C = C} now (reply.Timeout moment reason) call) ≡ true
      → SaysDue {S = S} {D = D} {K = K} {G = G} {C = C} now (reply.Timeout moment reason)
  timeout_says moment reason call true is some =
      record { moment = moment; reason = reason; says = refl; due = grind (arith, nat_tests, is) }
  timeout_says moment reason call false is some =
      absurd (false≢true (subst (λ (b : Bool).
      list_any (is_expiry {S = S} {D = D} {K = K} {G = G} {C = C}) (if b then Expiry ∷ [] else []) ≡ true) is some))

  reply_says : (answer : Reply S D K G C) (call : CallFacts D)
      → list_any is_expiry (reply_causes now answer call) ≡ true → SaysDue now answer
  reply_says (reply.Timeout moment reason) call some = timeout_says moment reason call (nat_le moment now) refl some
  reply_says (reply.Work (verify.Ready context proposal)) call some = absurd (false≢true some)
  reply_says (reply.Work (verify.Resolve proposal view kind leader)) call some = absurd (false≢true some)
  reply_says (reply.Work verify.Wait) call some = absurd (false≢true some)
  reply_says (reply.Request (Some request)) call some = absurd (false≢true some)
  reply_says (reply.Request None) call some = absurd (false≢true some)
  reply_says (reply.Candidates proposals wanted) call some =
      absurd (false≢true
      (sym (candidates_give_none is_expiry (λ work. refl) (λ kind view. refl) proposals.items wanted.items) ∙ some))
  reply_says (reply.Certificate (Some certificate)) call some = absurd (false≢true some)
  reply_says (reply.Certificate None) call some = absurd (false≢true some)
  reply_says (reply.Added is_new (Some leader)) call some =
      absurd (false≢true (sym (shown_gives_none is_expiry (λ work. refl) call leader) ∙ some))
  reply_says (reply.Added is_new None) call some = absurd (false≢true some)
  reply_says answer call some = absurd (false≢true some)

-- it passes no certificate
no_certificate : {D : Type 0} (now view : ℕ) (certificate : CertificateFacts D)
    → ConstructNullify view ≡ certificate_call certificate now → ⊥
no_certificate now view (Notarized c) is = cc
no_certificate now view (Nullified c) is = cc
no_certificate now view (Finalized c) is = cc

module _ {S L D K G C : Type 0} (now : ℕ) where
  nullify_meant : (causes : List (Cause S D K G C)) (m : MemberFacts K L D) (view : ℕ)
      → IsCallCaused now causes m (ConstructNullify view) → list_any is_expiry causes ≡ true
  nullify_meant causes m view (inl (asked, is, of_these, on_offer)) =
      of_these.found is_expiry (rw (task_expires {S = S} {K = K} {G = G} {C = C} now view asked is) refl)
  nullify_meant causes m view (inr (inl (from, proposal, is, in_these, admits))) = absurd (cc)
  nullify_meant causes m view (inr (inr (certificate, is, in_these))) = absurd (no_certificate now view certificate is)

-- one of these steps was answered so
abbrev SomeSaysDue : {S L D K G C : Type 0} → ℕ → List (StepFacts K L D × Reply S D K G C) → Type 0
SomeSaysDue {S} {L} {D} {K} {G} {C} now steps = (call : CallFacts D) × (said : Reply S D K G C)
    × Contains steps (Calls call, said) × SaysDue now said

module _ {S L D K G C : Type 0} (same : D → D → Bool) (elect : Elect L) (bytes_of : C → List ℕ) (now : ℕ)
    (asks_now over : FetchKind → ℕ → Bool) where
  said_by : (step : StepFacts K L D) (answer : Reply S D K G C) (rest : List (StepFacts K L D × Reply S D K G C))
      → list_any is_expiry (step_causes {L = L} now step answer) ≡ true
      → SomeSaysDue now ((step, answer) ∷ rest)
  said_by (Calls call) answer rest some = (
    call,
    answer,
    Contains-append_left ((Calls call, answer) ∷ []) rest (Calls call, answer) (0, omega arith, refl),
    reply_says now answer call some,
  )
  said_by Prunes answer rest some = absurd (false≢true some)
  said_by (Restarts restart) answer rest some = absurd (false≢true some)

  nullified : (steps : List (StepFacts K L D × Reply S D K G C)) (causes left : List (Cause S D K G C))
      (asked : FetchKind → ℕ → Bool) (m end : MemberFacts K L D)
      → IsCausedBy same elect bytes_of now asks_now over steps causes asked m left end
      → (view : ℕ) (answer : Reply S D K G C) → Contains steps (Calls (ConstructNullify view), answer)
      → (list_any is_expiry causes ≡ true) ⊎ SomeSaysDue now steps
  nullified [] causes left asked m end provenance view answer there =
      (let none = there.1 in absurd (omega (arith, none)))
  nullified ((step, reply) ∷ rest) causes left asked m end (meant, next, is_step, provenance) view answer there =
      elim (first_or_later (step, reply) rest (Calls (ConstructNullify view), answer) there) [
        | inl is ↦ inl (nullify_meant now causes m view
            (subst (IsStepCaused now causes m) (ap (λ (it : StepFacts K L D × Reply S D K G C). it.0) is) meant))
        | inr later ↦ (let given : List (Cause S D K G C) = step_causes {L = L} now step reply in
            elim (nullified rest (causes ++ given) left (with_missing_certificate asked given) next end provenance view
            answer later) [
              | inl some ↦ elim (any_either is_expiry causes given some) [
                | inl before ↦ inl before
                | inr said ↦ inr (said_by step reply rest said)
              ]
              | inr (call, said, among, due) ↦
                  inr (call, said, Contains-append_right ((step, reply) ∷ []) rest (Calls call, said) among, due)
            ])
      ]

  pub nullified_once_due : (steps : List (StepFacts K L D × Reply S D K G C)) (causes left : List (Cause S D K G C))
      (asked : FetchKind → ℕ → Bool) (m end : MemberFacts K L D)
      → IsCausedBy same elect bytes_of now asks_now over steps causes asked m left end
      → (view : ℕ) (answer : Reply S D K G C) → Contains steps (Calls (ConstructNullify view), answer)
      → IsIn Expiry causes ⊎ SomeSaysDue now steps
  nullified_once_due steps causes left asked m end provenance view answer there =
      elim (nullified steps causes left asked m end provenance view answer there) [
        | inl some ↦ inl (expired causes some)
        | inr said ↦ inr said
      ]
