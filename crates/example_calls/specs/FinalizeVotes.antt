-- The votes to finalize of one member.
use Rattle.std.specs.Prelude.{◌≡◌, List}
use Rattle.simplex_types.specs.declared.types.messages.Proposal.{Proposal}
use Rattle.simplex_types.specs.declared.types.messages.Subject.TheVariants.{Finalize}
use Rattle.laws_safety.specs.Traces.{TraceEvent}
use Rattle.laws_safety.specs.Lawful.{HasSigned}

-- two that are of one view are for one proposal
abbrev pub FinalizesOneProposal : {D : Type 0} → List (TraceEvent D) → Type 0
FinalizesOneProposal {D} trace =
    (p q : Proposal D) → HasSigned trace (Finalize p) → HasSigned trace (Finalize q)
    → p.round.view ≡ q.round.view → p ≡ q
