-- A network: which members are faulty, what the others did, and the certificates that the votes of both make.
use Rattle.std.specs.Prelude.{◌≡◌, ℕ, zero, suc, ◌-◌, ◌*◌, ◌/◌, ◌≤◌, ◌<◌, ◌⊎◌, ⊤, Bool, true, false, List, [], ◌∷◌, length, slice_get, Contains, Some}
use Rattle.std.specs.List.{count_by}
use Rattle.simplex_types.specs.declared.types.messages.Subject.{Subject}
use Rattle.simplex_voter.specs.Facts.{Elect}
use Rattle.laws_safety.specs.Traces.{Accepts, Signs}
use Rattle.laws_safety.specs.Executions.{Execution, trace_of, IsExecution}

-- the greatest number of faulty members that a network of n tolerates
abbrev pub max_faults : ℕ → ℕ
max_faults n = (n - 1) / 3

-- how many votes make a certificate
abbrev pub quorum : ℕ → ℕ
quorum n = n - max_faults n

-- a faulty member may send anything; of an honest one all inputs and replies are given
pub data Replica (K L D : Type 0) : Type 0 where
  Faulty : Replica K L D
  Honest : Execution K L D → Replica K L D

module _ {K L D : Type 0} where
  -- it is faulty
  abbrev pub is_faulty : Replica K L D → Bool
  is_faulty Faulty = true
  is_faulty (Honest s) = false

  -- how many members are faulty
  abbrev pub faults : List (Replica K L D) → ℕ
  faults network = count_by is_faulty network

  -- at most f are faulty, or else fewer than n - 2f, so that two quorums share an honest one
  abbrev pub FewFaulty : List (Replica K L D) → Type 0
  FewFaulty network =
      ((1 ≤ length network) × (faults network ≤ max_faults (length network)))
      ⊎ (faults network < length network - 2 * max_faults (length network))

-- at least `count` of the items, the first of which is member `i`, have P there
abbrev pub AtLeastFrom : {X : Type 0} → ℕ → ℕ → (ℕ → X → Type 0) → List X → Type 0
AtLeastFrom i zero P xs = ⊤
AtLeastFrom i (suc count) P [] = ⊥
AtLeastFrom i (suc count) P (x ∷ xs) = (P i x × AtLeastFrom (suc i) count P xs) ⊎ AtLeastFrom (suc i) (suc count) P xs

module _ {K L D : Type 0} where
  -- member `i` is faulty or signed this vote, as `i`
  abbrev pub MayHaveSigned : Subject D → ℕ → Replica K L D → Type 0
  MayHaveSigned vote i Faulty = ⊤
  MayHaveSigned vote i (Honest s) = Contains (trace_of s) (Signs i vote)

  -- n - f members may have signed it: a certificate of it may exist
  abbrev pub Backed : List (Replica K L D) → Subject D → Type 0
  Backed network vote = AtLeastFrom 0 (quorum (length network)) (MayHaveSigned vote) network

module _ {K L D : Type 0} (same : D → D → Bool) (elect : Elect L) where
  -- few are faulty, each other one runs as it says, and each certificate that one of these accepted is backed
  pub record IsNetworkOf (term_length : ℕ) (network : List (Replica K L D)) : Type 0 where
    pub few_faulty : FewFaulty network
    pub honest : (i : ℕ) (s : Execution K L D) → slice_get network i ≡ Some (Honest s)
        → IsExecution same elect term_length i s
    pub backed : (i : ℕ) (s : Execution K L D) (certificate : Subject D) → slice_get network i ≡ Some (Honest s)
        → Contains (trace_of s) (Accepts certificate) → Backed network certificate

module _ (K : Type 0) {L D : Type 0} (same : D → D → Bool) (elect : Elect L) where
  -- for each such network, in terms of any length
  abbrev pub OfEachNetwork : (ℕ → List (Replica K L D) → Type 0) → Type 0
  OfEachNetwork Holds =
      (term_length : ℕ) (network : List (Replica K L D)) → IsNetworkOf same elect term_length network
      → Holds term_length network
