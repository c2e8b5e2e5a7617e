-- The parent of a proposal that an honest host reported as final, and the chain of notarized proposals below it.
use Rattle.std.specs.Prelude.{◌≡◌, ◌≢◌, ◌⊎◌, ℕ, ◌≤◌, ◌<◌, Bool, List, ◌∷◌, Contains, Option}
use Rattle.simplex_types.specs.Terms.{term_start}
use Rattle.simplex_types.specs.declared.types.messages.Proposal.{Proposal}
use Rattle.simplex_types.specs.declared.types.messages.Subject.TheVariants as subject
use Rattle.simplex_types.specs.declared.types.window.Terms.{Terms}
use Rattle.simplex_voter.specs.Facts.{Elect}
use Rattle.laws_safety.specs.Continuations.{EachHonest}
use Rattle.laws_safety.specs.Replicas.{Replica}
use Rattle.laws_chains.specs.Chains.{lowest_parent}
use Rattle.laws_chains.specs.Offers.{RunsOnOffers}
use Rattle.laws_hosts.specs.HostAgreement.{IsReportedFinal, NotarizedChain}
use Rattle.laws_hosts.specs.HostNetworks.{Host, IsCertifiable}
use Rattle.laws_finals.specs.HostLifetimes.{HostsStopWithinLifetimes}
use Rattle.laws_finals.specs.HostMembers.{AreMembers, LifetimesAreProcesses}
use Rattle.laws_finals.specs.HostStarts.{HostHandoffsAreWitnessed, NoHostVotesAhead}

module _ {S L D K G C : Type 0} (hosts : List (Host S L D K G C)) where
  -- each reported proposal is notarized
  abbrev pub FinalsAreNotarized : Type 0
  FinalsAreNotarized =
      (final : Proposal D) → IsReportedFinal hosts final → IsCertifiable hosts (subject.Notarize final)

  -- a proposal of this view is notarized
  abbrev pub HasNotarized : ℕ → Type 0
  HasNotarized view =
      (q : Proposal D) × (q.round.view ≡ view) × IsCertifiable hosts (subject.Notarize q)

  -- one is of the view that a reported proposal names as its parent, unless that proposal starts a term
  abbrev pub FinalsInsideTermsHaveParents : ℕ → Type 0
  FinalsInsideTermsHaveParents term_length =
      (final : Proposal D) → IsReportedFinal hosts final → 0 < final.parent
      → final.round.view ≢ term_start term_length final.round.view
      → HasNotarized final.parent

  -- a chain of notarized proposals leads from this one to genesis, and holds each reported one that is no higher
  pub record HasChainToGenesis (tip : Proposal D) : Type 0 where
    pub below : List (Proposal D)
    pub chain : NotarizedChain hosts (tip ∷ below)
    pub genesis : lowest_parent tip below ≡ 0
    pub holds : (final : Proposal D) → IsReportedFinal hosts final → final.round.view ≤ tip.round.view
        → Contains (tip ∷ below) final

  -- such a chain leads from each reported proposal
  abbrev pub FinalsReachGenesis : Type 0
  FinalsReachGenesis = (final : Proposal D) → IsReportedFinal hosts final → HasChainToGenesis final

module _ {S L D K G C : Type 0} (same : D → D → Bool) (elect : Elect L) (bytes_of : C → List ℕ)
    (keys_of : S → List K) (me : S → Option ℕ) (terms : L → Terms) (elects_early : L → Bool) where
  -- such a chain leads from each reported proposal, if each honest host stops within lifetimes
  abbrev pub LifetimesReachGenesis : List (Host S L D K G C) → Type 0
  LifetimesReachGenesis hosts =
      HostsStopWithinLifetimes same elect bytes_of keys_of me terms elects_early hosts
      → HostHandoffsAreWitnessed hosts elects_early
      → FinalsReachGenesis hosts

  -- no honest host votes ahead, or each honest member receives verdicts only on its offers
  abbrev pub HostParentsAreAwaited : List (Host S L D K G C) → List (Replica K L D) → Type 0
  HostParentsAreAwaited hosts members =
      NoHostVotesAhead hosts terms ⊎ EachHonest members (λ i s. RunsOnOffers same elect s)

  -- such a chain leads from each reported proposal, whichever members the hosts have
  abbrev pub MembersReachGenesis : ℕ → List (Host S L D K G C) → Type 0
  MembersReachGenesis term_length hosts =
      (members : List (Replica K L D)) → AreMembers same elect term_length hosts members
      → LifetimesAreProcesses keys_of me terms elects_early hosts members
      → HostHandoffsAreWitnessed hosts elects_early
      → HostParentsAreAwaited hosts members
      → FinalsReachGenesis hosts
