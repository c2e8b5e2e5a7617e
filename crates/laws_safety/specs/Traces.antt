-- The actions of a member that others can learn of: the certificates that it accepts, and the votes that it signs.
use Rattle.std.specs.Prelude.{ℕ, List, [], ◌∷◌, ◌++◌, Some}
use Rattle.simplex_types.specs.Certificates.{ArtifactFacts, NotarizeVote, NullifyVote, FinalizeVote}
use Rattle.simplex_types.specs.Config.{FloorFacts, Genesis, Finalized}
use Rattle.simplex_types.specs.declared.types.messages.Subject.{Subject}
use Rattle.simplex_types.specs.declared.types.messages.Subject.TheVariants as subject
use Rattle.simplex_member.specs.Calls.{CallFacts, AddNotarization, AddNullification, AddFinalization, ReplyFacts, Added, AddedNullification, Nullify, Finalize, Notarize, Restarted}
use Rattle.simplex_member.specs.Runs.{StepFacts, Calls, Prunes, Restarts}

-- a certificate was accepted, or a vote was signed by this member of the network; each is named by its subject
pub data TraceEvent (D : Type 0) : Type 0 where
  Accepts : (certificate : Subject D) → TraceEvent D
  Signs : (signer : ℕ) → (vote : Subject D) → TraceEvent D

module _ {D : Type 0} where
  -- the certificate that a call passes in
  abbrev pub passed_certificates : CallFacts D → List (TraceEvent D)
  passed_certificates (AddNotarization c) = Accepts (subject.Notarize c.proposal) ∷ []
  passed_certificates (AddNullification c _) = Accepts (subject.Nullify c.round) ∷ []
  passed_certificates (AddFinalization c _) = Accepts (subject.Finalize c.proposal) ∷ []
  passed_certificates _ = []

  -- the finalization of a floor
  abbrev pub of_floor : FloorFacts D → List (TraceEvent D)
  of_floor (Genesis _) = []
  of_floor (Finalized c) = Accepts (subject.Finalize c.proposal) ∷ []

  -- the vote of an entry
  abbrev pub of_vote : ArtifactFacts D → List (TraceEvent D)
  of_vote (NotarizeVote p signer) = Signs signer (subject.Notarize p) ∷ []
  of_vote (NullifyVote round signer) = Signs signer (subject.Nullify round) ∷ []
  of_vote (FinalizeVote p signer) = Signs signer (subject.Finalize p) ∷ []
  of_vote _ = []

module _ {K D : Type 0} where
  -- the vote that a reply has
  abbrev pub signed_in : ReplyFacts K D → List (TraceEvent D)
  signed_in (Nullify (Some (_, vote))) = of_vote vote
  signed_in (Finalize (Some vote)) = of_vote vote
  signed_in (Notarize (Some vote)) = of_vote vote
  signed_in _ = []

  -- a certificate is accepted by a call whose reply says whether it is new
  abbrev pub accepted_by : CallFacts D → ReplyFacts K D → List (TraceEvent D)
  accepted_by call (Added _ _) = passed_certificates call
  accepted_by call (AddedNullification _) = passed_certificates call
  accepted_by call _ = []

  -- the trace of a call, by its reply
  abbrev pub trace_of_call : CallFacts D → ReplyFacts K D → List (TraceEvent D)
  trace_of_call call replied = accepted_by call replied ++ signed_in replied

module _ {K L D : Type 0} where
  -- a restart that succeeds accepts its floor's finalization
  abbrev pub accepted_at : StepFacts K L D → ReplyFacts K D → List (TraceEvent D)
  accepted_at (Calls call) replied = accepted_by call replied
  accepted_at Prunes replied = []
  accepted_at (Restarts r) Restarted = of_floor r.start.floor
  accepted_at (Restarts r) _ = []

  -- the trace of a step, by its reply
  abbrev pub trace_at : StepFacts K L D → ReplyFacts K D → List (TraceEvent D)
  trace_at step replied = accepted_at step replied ++ signed_in replied

  -- the trace of the steps in order, each with its reply
  abbrev pub trace_of_steps : List (StepFacts K L D) → List (ReplyFacts K D) → List (TraceEvent D)
  trace_of_steps (step ∷ steps) (replied ∷ replies) = trace_at step replied ++ trace_of_steps steps replies
  trace_of_steps _ _ = []
