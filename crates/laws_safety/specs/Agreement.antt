-- The agreement of a network's members.
use Rattle.std.specs.Prelude.{◌≡◌, ℕ, ◌≤◌, ◌<◌, ◌⊎◌, ⊤, false, List, [], ◌∷◌, Contains}
use Rattle.simplex_types.specs.Terms.{covers}
use Rattle.simplex_types.specs.declared.types.messages.Proposal.{Proposal}
use Rattle.simplex_types.specs.declared.types.messages.Subject.TheVariants as subject
use Rattle.simplex_types.specs.declared.types.numbers.Round.{Round}
use Rattle.laws_safety.specs.Replicas.{Replica, Backed}

module _ {K L D : Type 0} (network : List (Replica K L D)) where
  -- a certificate of the proposal may exist
  abbrev pub Certified : Proposal D → Type 0
  Certified p = Backed network (subject.Notarize p) ⊎ Backed network (subject.Finalize p)

  -- no view gets certificates for two proposals
  abbrev pub OneProposal : Type 0
  OneProposal = (p q : Proposal D) → Certified p → Certified q → p.round.view ≡ q.round.view → p ≡ q

  -- no finalized view is covered by a nullification
  abbrev pub FinalizedUncovered : ℕ → Type 0
  FinalizedUncovered term_length =
      (final : Proposal D) (round : Round) → Backed network (subject.Finalize final)
      → Backed network (subject.Nullify round)
      → covers term_length round.view final.round.view ≡ false

  -- a proposal with a certificate names an earlier view as its parent
  abbrev pub ParentBefore : Type 0
  ParentBefore = (p : Proposal D) → Certified p → p.parent < p.round.view

  -- no notarized proposal above a finalized view names a parent below it
  abbrev pub ParentNotBelow : Type 0
  ParentNotBelow =
      (final p : Proposal D) → Backed network (subject.Finalize final) → Backed network (subject.Notarize p)
      → final.round.view < p.round.view → final.round.view ≤ p.parent

  -- a finalized proposal is notarized
  abbrev pub FinalizedNotarized : Type 0
  FinalizedNotarized = (final : Proposal D) → Backed network (subject.Finalize final)
      → Backed network (subject.Notarize final)

  -- notarized proposals from the newest down, each naming the next one's view as its parent
  abbrev pub Chain : List (Proposal D) → Type 0
  Chain [] = ⊤
  Chain (p ∷ []) = Backed network (subject.Notarize p)
  Chain (p ∷ (q ∷ rest)) = Backed network (subject.Notarize p) × (p.parent ≡ q.round.view) × Chain (q ∷ rest)

  -- a chain from above a finalized view down to it or below has the finalized proposal
  abbrev pub ChainHoldsFinalized : Type 0
  ChainHoldsFinalized =
      (final high low : Proposal D) (chain : List (Proposal D)) → Backed network (subject.Finalize final) → Chain chain
      → Contains chain high → Contains chain low → final.round.view < high.round.view
      → low.round.view ≤ final.round.view
      → Contains chain final
