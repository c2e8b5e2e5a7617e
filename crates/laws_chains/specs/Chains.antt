-- The chain of notarized proposals below a finalized one.
use Rattle.std.specs.Prelude.{◌≡◌, ℕ, ◌≤◌, ◌⊎◌, true, List, [], ◌∷◌, Contains}
use Rattle.simplex_types.specs.declared.types.messages.Proposal.{Proposal}
use Rattle.simplex_types.specs.declared.types.messages.Subject.TheVariants as subject
use Rattle.simplex_voter.specs.declared.voter.candidates.CertificateFetch.{CertificateFetch}
use Rattle.simplex_member.specs.Calls.{Candidates}
use Rattle.laws_safety.specs.Agreement.{Chain}
use Rattle.laws_safety.specs.Continuations.{EachHonest}
use Rattle.laws_safety.specs.Executions.{Execution}
use Rattle.laws_safety.specs.Replicas.{Replica, Backed}
use Rattle.laws_progress.specs.ViewCauses.{judged_of}
use Rattle.laws_chains.specs.Parents.{EachLifetime, HandoffsAreWitnessed, IsCertifiedByHonest}

-- the view that the last proposal of a chain names as its parent
abbrev pub lowest_parent : {D : Type 0} → Proposal D → List (Proposal D) → ℕ
lowest_parent p [] = p.parent
lowest_parent p (q ∷ rest) = lowest_parent q rest

module _ {K L D : Type 0} where
  -- the member offered the proposal to be certified
  abbrev pub WasOffered : Proposal D → Execution K L D → Type 0
  WasOffered q s =
      (offers : List (Proposal D)) × (fetches : List CertificateFetch) × Contains s.replies (Candidates offers fetches)
      × Contains offers q

  -- an honest member receives the verdict that a proposal is good only if it offered the proposal
  abbrev pub VerdictsAreOnOffers : List (Replica K L D) → Type 0
  VerdictsAreOnOffers network =
      EachHonest network (λ i s. (q : Proposal D) → Contains (judged_of s) (true, q) → WasOffered q s)

  -- no honest member votes ahead
  abbrev pub NoneVotesAhead : List (Replica K L D) → Type 0
  NoneVotesAhead network = EachHonest network (λ i s. EachLifetime (λ setup. setup.terms.optimistic_views ≡ 0) s)

  -- a member votes within a term, or receives a verdict, only once the parent is certified
  abbrev pub ParentsAreAwaited : List (Replica K L D) → Type 0
  ParentsAreAwaited network = NoneVotesAhead network ⊎ VerdictsAreOnOffers network

  -- a chain of notarized proposals leads from this one to genesis, and holds each finalized one that is no higher
  pub record ReachesGenesis (network : List (Replica K L D)) (tip : Proposal D) : Type 0 where
    pub below : List (Proposal D)
    pub chain : Chain network (tip ∷ below)
    pub genesis : lowest_parent tip below ≡ 0
    pub holds : (final : Proposal D) → Backed network (subject.Finalize final) → final.round.view ≤ tip.round.view
        → Contains (tip ∷ below) final

  -- such a chain leads from each finalized proposal
  abbrev pub FinalizedReachGenesis : List (Replica K L D) → Type 0
  FinalizedReachGenesis network =
      HandoffsAreWitnessed network → ParentsAreAwaited network
      → (final : Proposal D) → Backed network (subject.Finalize final) → ReachesGenesis network final

  -- such a chain leads from each notarized proposal that an honest member certified
  abbrev pub CertifiedReachGenesis : List (Replica K L D) → Type 0
  CertifiedReachGenesis network =
      HandoffsAreWitnessed network → ParentsAreAwaited network
      → (q : Proposal D) → Backed network (subject.Notarize q) → IsCertifiedByHonest network q
      → ReachesGenesis network q
