-- What the causes of an engine's steps say, in a sentence each: whatever its steps are, and however many.
use Rattle.std.specs.Prelude.{◌≡◌, ◌≤◌, ℕ, Bool, ◌⊎◌, List, [], ◌∷◌, ◌++◌, Contains}
use Rattle.simplex_types.specs.Certificates.{Notarized, Nullified, Finalized}
use Rattle.simplex_types.specs.Encoding.{certificate_subject}
use Rattle.simplex_types.specs.declared.reasons.TimeoutReason.{TimeoutReason}
use Rattle.simplex_voter.specs.Facts.{Elect}
use Rattle.simplex_member.specs.Calls.{CallFacts, AddNotarization, AddNullification, AddFinalization, SetProposal, Proposed, Verified, VerificationFailed, Certified, ConstructNullify, TriggerTimeout}
use Rattle.simplex_member.specs.Runs.{StepFacts, Calls}
use Rattle.simplex_member.specs.declared.member.calls.Reply.{Reply}
use Rattle.simplex_member.specs.declared.member.calls.Reply.TheVariants.{Timeout}
use Rattle.engine_fetches.specs.declared.fetches.FetchKind.{FetchKind}
use Rattle.engine_outbox.specs.declared.output.Work.{Work}
use Rattle.engine_planner.specs.Causes.{Cause, Arrival, Expiry, Message, Quorum, of_works, unrequested}
use Rattle.engine_planner.specs.PlannedWork.{AreAmong}
use Rattle.engine_planner.specs.declared.task.Task.TheVariants as task
use Rattle.simplex_engine.specs.Provenance.{pending_causes, step_causes, IsCaused, IsIn}
use Rattle.simplex_engine.specs.declared.engine.Engine.{Engine}

module _ {S D K G C : Type 0} where
  -- what was received before such a call: exactly this reply of the application, the leader's timeout, the proposal by
  -- its leader, or a certificate on the same; any other call is the engine's own
  abbrev pub WasReceived : List (Cause S D K G C) → CallFacts D → Type 0
  WasReceived causes (Verified view) = IsIn (Message (task.Verified view)) causes
  WasReceived causes (VerificationFailed view _ _) = IsIn (Message (task.VerificationFailed view)) causes
  WasReceived causes (Proposed view payload _) = IsIn (Message (task.Proposed view payload)) causes
  WasReceived causes (Certified view is_success _) = IsIn (Message (task.Certified view is_success)) causes
  WasReceived causes (TriggerTimeout view reason _) = IsIn (Message (task.TriggerTimeout view reason)) causes
  WasReceived causes (SetProposal view proposal) =
      IsIn (Message (task.SetProposal view proposal)) causes ⊎ ((from : ℕ) × IsIn (Arrival from proposal) causes)
  WasReceived causes (AddNotarization c) = IsIn (Quorum (certificate_subject (Notarized c))) causes
  WasReceived causes (AddNullification c _) = IsIn (Quorum (certificate_subject (Nullified c))) causes
  WasReceived causes (AddFinalization c _) = IsIn (Quorum (certificate_subject (Finalized c))) causes
  WasReceived causes _ = Unit {0}

-- what all replies to some steps brought
abbrev pub given_by_all : {S L D K G C : Type 0} → ℕ → List (StepFacts K L D × Reply S D K G C) → List (Cause S D K G C)
given_by_all now [] = []
given_by_all {L} now ((step, reply) ∷ rest) = step_causes {L = L} now step reply ++ given_by_all now rest

-- a law of each change of an engine that `provenance` allows, whatever came in, is returned, and need not be asked for
abbrev pub OfEachWay : (S L D K G C : Type 0)
    → (ℕ → List (Cause S D K G C) → List (Work S D K G C) → Engine S L D K G C → Engine S L D K G C
    → List (StepFacts K L D × Reply S D K G C) → Type 0)
    → Type 0
OfEachWay S L D K G C law =
    (same : D → D → Bool) (elect : Elect L) (bytes : D → List ℕ) (bytes_of : C → List ℕ) (now : ℕ)
    (came : List (Cause S D K G C))
    (out : List (Work S D K G C)) (held : FetchKind → ℕ → Bool) (old new : Engine S L D K G C)
    (it : IsCaused same elect bytes bytes_of now came out held old new) → law now came out old new it.steps

-- each call was received before: it came in, or was at hand
abbrev pub CallsWereReceivedBefore : (S L D K G C : Type 0) → Type 0
CallsWereReceivedBefore S L D K G C =
    OfEachWay S L D K G C (λ now came out old new steps. (call : CallFacts D) (reply : Reply S D K G C)
    → Contains steps (Calls call, reply) → WasReceived (came ++ pending_causes old) call)

-- what is returned, queued and planned in the end, except what is asked of peers, came in, was at hand, or was brought
-- by a reply
abbrev pub WorkWasGiven : (S L D K G C : Type 0) → Type 0
WorkWasGiven S L D K G C = OfEachWay S L D K G C (λ now came out old new steps.
    AreAmong (unrequested (of_works out ++ pending_causes new))
    ((came ++ pending_causes old) ++ given_by_all now steps))

-- a reply says that the moment of a timeout has come
pub record SaysDue {S D K G C : Type 0} (now : ℕ) (reply : Reply S D K G C) : Type 0 where
  pub moment : ℕ
  pub reason : TimeoutReason
  pub says : reply ≡ Timeout moment reason
  pub due : moment ≤ now

-- no vote to nullify a view is made, unless a reply said so, or it was planned before
abbrev pub NullifiesOnceDue : (S L D K G C : Type 0) → Type 0
NullifiesOnceDue S L D K G C = OfEachWay S L D K G C (λ now came out old new steps. (view : ℕ) (reply : Reply S D K G C)
    → Contains steps (Calls (ConstructNullify view), reply)
    → IsIn Expiry (came ++ pending_causes old)
    ⊎ ((call : CallFacts D) × (said : Reply S D K G C) × Contains steps (Calls call, said) × SaysDue now said))
