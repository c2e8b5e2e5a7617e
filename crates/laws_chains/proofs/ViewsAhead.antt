-- The worked network whose members vote ahead keeps the premises.
use Rattle.std.proofs.Common.{◌≡◌, refl, subst, ℕ, zero, suc, inl, inr, Bool, true, List, [], ◌∷◌, Contains, nat_eq, arith}
use Rattle.std.proofs.lemmas.Bool.{eqb-true}
use Rattle.simplex_types.specs.declared.types.messages.Proposal.{Proposal}
use Rattle.simplex_record.specs.Start.{Setup}
use Rattle.simplex_member.specs.Runs.{StepFacts, Calls, Prunes, Restarts}
use Rattle.laws_safety.specs.AheadNetwork.{early, following_early, joining, voted_ahead, three}
use Rattle.laws_safety.specs.Continuations.{EachHonest}
use Rattle.laws_safety.specs.Executions.{Execution}
use Rattle.laws_safety.specs.Replicas.{Replica, Faulty, Honest}
use Rattle.laws_safety.specs.ScenarioSteps.{one, two, in_turn}
use Rattle.laws_safety.proofs.lists.Splits.{Contains-cases}
use Rattle.laws_safety.proofs.networks.AheadNetwork.{ahead_network, ahead_finalized}
use Rattle.laws_progress.specs.ViewCauses.{judged_of}
use Rattle.laws_chains.specs.Parents.{EachLifetime, HandoffsAreWitnessed}
use Rattle.laws_chains.specs.Chains.{WasOffered, VerdictsAreOnOffers, ReachesGenesis}
use Rattle.laws_chains.proofs.ChainsToGenesis.{finalized_reach_genesis}

-- of each honest member, one after another
abbrev pub AllOf : (Execution ℕ ℕ ℕ → Type 0) → List (Replica ℕ ℕ ℕ) → Type 0
AllOf P [] = Unit {0}
AllOf P (Faulty ∷ network) = AllOf P network
AllOf P (Honest s ∷ network) = P s × AllOf P network

pub each_of : (P : Execution ℕ ℕ ℕ → Type 0) (network : List (Replica ℕ ℕ ℕ)) → AllOf P network
    → EachHonest network (λ i s. P s)
each_of P [] all i s at = absurd (cc)
each_of P (Faulty ∷ network) all zero s at = absurd (cc)
each_of P (Faulty ∷ network) all (suc i) s at = each_of P network all i s at
each_of P (Honest t ∷ network) all zero s at = let one : t ≡ s = cc in subst P one all.0
each_of P (Honest t ∷ network) all (suc i) s at = each_of P network all.1 i s at

-- of each proposal that was judged
abbrev pub AllJudged : (Proposal ℕ → Type 0) → List (Bool × Proposal ℕ) → Type 0
AllJudged P [] = Unit {0}
AllJudged P (e ∷ judged) = P e.1 × AllJudged P judged

pub each_judged : (P : Proposal ℕ → Type 0) (judged : List (Bool × Proposal ℕ)) → AllJudged P judged → (q : Proposal ℕ)
    → Contains judged (true, q) → P q
each_judged P [] all q h = absurd (omega (arith, h.1))
each_judged P (e ∷ judged) all q h = elim (Contains-cases e judged (true, q) h) [
  | inl here ↦ subst (λ (k : Bool × Proposal ℕ). P k.1) here all.0
  | inr later ↦ each_judged P judged all.1 q later
]

-- no restart is among calls
abbrev pub NoRestart : List (StepFacts ℕ ℕ ℕ) → Type 0
NoRestart [] = Unit {0}
NoRestart (Calls call ∷ steps) = NoRestart steps
NoRestart (Prunes ∷ steps) = NoRestart steps
NoRestart (Restarts r ∷ steps) = ⊥

none_restarts : (steps : List (StepFacts ℕ ℕ ℕ)) → NoRestart steps → (r : _) → Contains steps (Restarts r) → ⊥
none_restarts [] none r h = omega (arith, h.1)
none_restarts (Calls call ∷ steps) none r h =
    elim (Contains-cases (Calls call) steps (Restarts r) h)
    [ inl here ↦ absurd (cc) | inr later ↦ none_restarts steps none r later ]
none_restarts (Prunes ∷ steps) none r h =
    elim (Contains-cases Prunes steps (Restarts r) h)
    [ inl here ↦ absurd (cc) | inr later ↦ none_restarts steps none r later ]
none_restarts (Restarts q ∷ steps) none r h = none

pub one_life : (IsSo : Setup ℕ ℕ → Type 0) (s : Execution ℕ ℕ ℕ) → NoRestart s.steps → IsSo s.start.setup
    → EachLifetime IsSo s
one_life IsSo s none so = record { first = so; later = λ r h. absurd (none_restarts s.steps none r h) }

abbrev SetUpAlike : Setup ℕ ℕ → Type 0
SetUpAlike setup = (setup.elector ≡ 2) × (setup.settings.epoch ≡ 1)

pub ahead_witnessed : HandoffsAreWitnessed voted_ahead
ahead_witnessed = inr (
  (
    2,
    1,
    each_of (EachLifetime SetUpAlike) voted_ahead (
      one_life SetUpAlike early tt (refl, refl),
      (one_life SetUpAlike following_early tt (refl, refl), (one_life SetUpAlike joining tt (refl, refl), tt)),
    ),
  ),
  omega arith,
)

abbrev OnOffers : Execution ℕ ℕ ℕ → Type 0
OnOffers s = (q : Proposal ℕ) → Contains (judged_of s) (true, q) → WasOffered q s

early_offers : OnOffers early
early_offers = each_judged (λ q. WasOffered q early) (judged_of early) (
  (one ∷ [], [], (9, omega arith, refl), (0, omega arith, refl)),
  (
    (two ∷ [], [], (16, omega arith, refl), (0, omega arith, refl)),
    ((three ∷ [], [], (20, omega arith, refl), (0, omega arith, refl)), tt),
  ),
)

following_offers : OnOffers following_early
following_offers = each_judged (λ q. WasOffered q following_early) (judged_of following_early) (
  (one ∷ [], [], (9, omega arith, refl), (0, omega arith, refl)),
  (
    (two ∷ [], [], (13, omega arith, refl), (0, omega arith, refl)),
    ((three ∷ [], [], (21, omega arith, refl), (0, omega arith, refl)), tt),
  ),
)

joining_offers : OnOffers joining
joining_offers = each_judged (λ q. WasOffered q joining) (judged_of joining)
    ((three ∷ [], [], (5, omega arith, refl), (0, omega arith, refl)), tt)

pub ahead_offers : VerdictsAreOnOffers voted_ahead
ahead_offers = each_of OnOffers voted_ahead (early_offers, (following_offers, (joining_offers, tt)))

pub ahead_reaches_genesis : ReachesGenesis voted_ahead three
ahead_reaches_genesis = finalized_reach_genesis nat_eq eqb-true in_turn 2 voted_ahead ahead_network ahead_witnessed
    (inr ahead_offers) three ahead_finalized
