-- What a member does on one subject, and what is final by that.
use Rattle.std.specs.Prelude.{◌≡◌, Option, Some, None}
use Rattle.simplex_types.specs.declared.types.messages.Proposal.{Proposal}
use Rattle.simplex_types.specs.declared.types.messages.Subject.{Subject}
use Rattle.simplex_member.specs.declared.member.calls.Reply.{Reply}
use Rattle.simplex_member.specs.declared.member.calls.Reply.TheVariants.{Added, AddedNullification}
use Rattle.laws_safety.specs.Traces.{TraceEvent, Accepts, Signs}

-- a vote, or the acceptance of a certificate on this subject, if there is one
abbrev pub IsActionOn : {D : Type 0} → Option (Subject D) → TraceEvent D → Type 0
IsActionOn taken (Signs _ _) = Unit {0}
IsActionOn (Some subject) (Accepts certificate) = certificate ≡ subject
IsActionOn None (Accepts certificate) = ⊥

-- the proposal that a passed certificate finalizes, if the reply says that it is accepted
abbrev pub final_by : {S D K G C : Type 0} → Option (Proposal D) → Reply S D K G C → Option (Proposal D)
final_by finalized (Added _ _) = finalized
final_by finalized (AddedNullification _) = finalized
final_by finalized _ = None
