-- What the hosts of a network agree on: the proposals that honest hosts have reported as final.
use Rattle.std.specs.Prelude.{◌≡◌, ◌≤◌, ◌<◌, ℕ, false, List, [], ◌∷◌, slice_get, Contains, Some}
use Rattle.simplex_types.specs.Terms.{covers}
use Rattle.simplex_types.specs.declared.types.messages.Proposal.{Proposal}
use Rattle.simplex_types.specs.declared.types.messages.Subject.TheVariants as subject
use Rattle.simplex_types.specs.declared.types.numbers.Round.{Round}
use Rattle.engine_outbox.specs.declared.output.Output.TheVariants as output
use Rattle.laws_hosts.specs.Processes.{Process, carried_by}
use Rattle.laws_hosts.specs.HostNetworks.{Host, Honest, IsCertifiable}

module _ {S L D K G C : Type 0} (hosts : List (Host S L D K G C)) where
  -- an honest host carried out `Finalized` of this proposal
  abbrev pub IsReportedFinal : Proposal D → Type 0
  IsReportedFinal p =
      (i : ℕ) × (processes : List (Process S L D K G C)) × (slice_get hosts i ≡ Some (Honest processes))
      × Contains (carried_by processes) (output.Finalized p)

  -- those of one view are one proposal
  abbrev pub OneFinalOfEachView : Type 0
  OneFinalOfEachView = (p q : Proposal D) → IsReportedFinal p → IsReportedFinal q → p.round.view ≡ q.round.view → p ≡ q

  -- no nullification that may exist covers the view of such a proposal
  abbrev pub FinalsUncovered : ℕ → Type 0
  FinalsUncovered term_length =
      (final : Proposal D) (round : Round) → IsReportedFinal final → IsCertifiable hosts (subject.Nullify round)
      → covers term_length round.view final.round.view ≡ false

  -- notarized proposals from the newest down, each naming the next one's view as its parent
  abbrev pub NotarizedChain : List (Proposal D) → Type 0
  NotarizedChain [] = Unit {0}
  NotarizedChain (p ∷ []) = IsCertifiable hosts (subject.Notarize p)
  NotarizedChain (p ∷ q ∷ rest) =
      IsCertifiable hosts (subject.Notarize p) × (p.parent ≡ q.round.view) × NotarizedChain (q ∷ rest)

  -- a chain from above the view of such a proposal down to that view or below it holds the proposal
  abbrev pub ChainsHoldFinals : Type 0
  ChainsHoldFinals =
      (final high low : Proposal D) (chain : List (Proposal D)) → IsReportedFinal final → NotarizedChain chain
      → Contains chain high → Contains chain low → final.round.view < high.round.view
      → low.round.view ≤ final.round.view → Contains chain final
