-- What is known of the parent of a finalized proposal.
use Rattle.std.specs.Prelude.{◌≡◌, ◌≢◌, ℕ, ◌+◌, ◌≤◌, ◌<◌, ◌⊎◌, true, false, List, length, Contains}
use Rattle.simplex_types.specs.Terms.{term_start}
use Rattle.simplex_types.specs.declared.types.messages.Proposal.{Proposal}
use Rattle.simplex_types.specs.declared.types.messages.Subject.TheVariants as subject
use Rattle.simplex_record.specs.Start.{Setup}
use Rattle.simplex_member.specs.Runs.{Restarts}
use Rattle.laws_safety.specs.Continuations.{EachHonest, SomeHonest}
use Rattle.laws_safety.specs.Executions.{Execution}
use Rattle.laws_safety.specs.Replicas.{Replica, faults, max_faults, quorum, Backed}
use Rattle.laws_progress.specs.ViewCauses.{judged_of}

module _ {K L D : Type 0} where
  -- the setup of each lifetime of a member has a property
  pub record EachLifetime (IsSo : Setup K L → Type 0) (s : Execution K L D) : Type 0 where
    pub first : IsSo s.start.setup
    pub later : (r : _) → Contains s.steps (Restarts r) → IsSo r.start.setup

  -- no honest member elects a leader before the parent is certified
  abbrev pub NoneElectsEarly : List (Replica K L D) → Type 0
  NoneElectsEarly network = EachHonest network (λ i s. EachLifetime (λ setup. setup.elects_early ≡ false) s)

  -- all lifetimes of all honest members have one elector and one epoch
  abbrev pub HaveOneElector : List (Replica K L D) → Type 0
  HaveOneElector network =
      (elector : L) × (epoch : ℕ)
      × EachHonest network (λ i s. EachLifetime (λ setup. (setup.elector ≡ elector) × (setup.settings.epoch ≡ epoch)) s)

  -- each quorum has two honest members
  abbrev pub TwoHonest : List (Replica K L D) → Type 0
  TwoHonest network = faults network + 2 ≤ quorum (length network)

  -- no leader proposes early, or each quorum has an honest member that is not that leader
  abbrev pub HandoffsAreWitnessed : List (Replica K L D) → Type 0
  HandoffsAreWitnessed network = NoneElectsEarly network ⊎ (HaveOneElector network × TwoHonest network)

  -- an honest member received the verdict that the proposal is good
  abbrev pub IsCertifiedByHonest : List (Replica K L D) → Proposal D → Type 0
  IsCertifiedByHonest network q = SomeHonest network (λ i s. Contains (judged_of s) (true, q))

  -- a proposal of this view is finalized, or notarized and certified by an honest member
  abbrev pub HasCertifiedProposal : List (Replica K L D) → ℕ → Type 0
  HasCertifiedProposal network view =
      (q : Proposal D)
      × (q.round.view ≡ view)
      × (Backed network (subject.Finalize q) ⊎ (Backed network (subject.Notarize q) × IsCertifiedByHonest network q))

  -- there is one of the view that a finalized proposal names as its parent
  abbrev pub FinalizedHaveParents : ℕ → List (Replica K L D) → Type 0
  FinalizedHaveParents term_length network =
      (final : Proposal D) → Backed network (subject.Finalize final) → 0 < final.parent
      → (final.round.view ≢ term_start term_length final.round.view) ⊎ HandoffsAreWitnessed network
      → HasCertifiedProposal network final.parent

  -- and of the view that a notarized proposal names which starts a term
  abbrev pub NotarizedStartsHaveParents : ℕ → List (Replica K L D) → Type 0
  NotarizedStartsHaveParents term_length network =
      (p : Proposal D) → Backed network (subject.Notarize p) → 0 < p.parent
      → p.round.view ≡ term_start term_length p.round.view
      → HandoffsAreWitnessed network
      → HasCertifiedProposal network p.parent

-- of two or more members, at most f of which are faulty, two in each quorum are honest
abbrev pub FewFaultyLeaveTwo : (K L D : Type 0) → Type 0
FewFaultyLeaveTwo K L D =
    (network : List (Replica K L D)) → 2 ≤ length network → faults network ≤ max_faults (length network)
    → TwoHonest network
