-- The calls that a host's resolver received so far, and which of its fetches are open.
use Rattle.std.specs.Prelude.{◌≡◌, ℕ, ◌<◌, ◌≤◌, true, false, List, [], ◌∷◌, length, take, refl}
use Rattle.std.specs.Coded.{Coded, code_by, coded×, coded_ℕ, coded_list}
use Rattle.std.specs.List.{list_any, AllByRecursion}
use Rattle.simplex_types.specs.declared.types.fault.Fault.{Fault}
use Rattle.simplex_types.specs.declared.types.fault.Fault.TheVariants.{OutOfMemory}
use Rattle.simplex_resolver.specs.declared.resolver.effect.Effect.{Effect}
use Rattle.simplex_resolver.specs.Facts.{ResolverFacts, facts_code}
use Rattle.simplex_resolver.specs.Steps.{Call, after, effects, Refused}
use Rattle.simplex_resolver.specs.ReceivedFacts.{NamesAView, are_alike, is_replayed, is_needed}
use Rattle.simplex_resolver.specs.Answers.{AnswersFit}
use Rattle.simplex_resolver.specs.Repair.{fetches, has, facts_of, effects_of, IsApplied, IsOutstandingSet}

-- a resolver, and the views whose fetch is open, rising
pub record LawfulResolverFacts : Type 0 where
  pub state : ResolverFacts
  pub open_fetches : List ℕ

-- they are stored as the pair of their fields
abbrev pub resolver_facts_code : Coded LawfulResolverFacts
resolver_facts_code =
    code_by (ResolverFacts × List ℕ) (coded× facts_code (coded_list coded_ℕ)) (λ r. (r.state, r.open_fetches))
    (λ p. record { state = p.0; open_fetches = p.1 }) (λ _. refl)

-- it received exactly these calls, the last one first, and its open fetches are those that their effects leave
-- outstanding
pub record HasReceivedCalls (term_length : ℕ) (calls : List Call) (r : LawfulResolverFacts) : Type 0 where
  pub long : 0 < term_length
  pub named : AllByRecursion NamesAView calls
  pub state : r.state ≡ facts_of term_length calls
  pub open_fetches : IsOutstandingSet r.open_fetches (effects_of term_length calls)

-- ---- a call

-- the call is made: these are its effects, and they are applied to the open fetches
pub record IsMade (call : Call) (old : LawfulResolverFacts) (es : List Effect)
    (new : LawfulResolverFacts) : Type 0 where
  pub state : new.state ≡ after old.state call
  pub answered : es ≡ effects old.state call
  pub applied : IsApplied old.open_fetches es new.open_fetches

-- whatever it received before, it also received this call
abbrev pub ReceivesMore : LawfulResolverFacts → Call → LawfulResolverFacts → Type 0
ReceivesMore old call new =
    (term_length : ℕ) (calls : List Call) → HasReceivedCalls term_length calls old
    → HasReceivedCalls term_length (call ∷ calls) new

-- a prefix of the effects is applied
abbrev pub IsBegun : List ℕ → List Effect → List ℕ → Type 0
IsBegun old es new = (n : ℕ) × (n ≤ length es) × IsApplied old (take n es) new

-- the resolver after a refused call, which names no view above v: without memory a failed one, with the first
-- few of the call's effects applied to its open fetches, and otherwise the same resolver
abbrev pub IsLeftBy : LawfulResolverFacts → ℕ → Call → Fault → LawfulResolverFacts → Type 0
IsLeftBy old v call OutOfMemory new =
    Refused old.state v OutOfMemory new.state × IsBegun old.open_fetches (effects old.state call) new.open_fetches
IsLeftBy old v call fault new = Refused old.state v fault new.state × (new ≡ old)

-- ---- the laws

-- whatever it received so far
abbrev pub OfEachCallHistory : LawfulResolverFacts → (ℕ → List Call → Type 0) → Type 0
OfEachCallHistory r Holds =
    (term_length : ℕ) (calls : List Call) → HasReceivedCalls term_length calls r → Holds term_length calls

-- once its replay has ended its open fetches are exactly the views that it needs
abbrev pub OpensTheOutstanding : LawfulResolverFacts → ℕ → List Call → Type 0
OpensTheOutstanding r term_length calls =
    list_any is_replayed calls ≡ true → (v : ℕ) → has r.open_fetches v ≡ is_needed term_length calls v

-- before that none is open
abbrev pub OpensNone : LawfulResolverFacts → ℕ → List Call → Type 0
OpensNone r term_length calls = list_any is_replayed calls ≡ false → r.open_fetches ≡ []

-- a certificate opens no fetch if it received one of its kind and view before
abbrev pub OpensNoneAgain : LawfulResolverFacts → ℕ → List Call → Type 0
OpensNoneAgain r term_length calls =
    (call : Call) → list_any (are_alike call) calls ≡ true → (v : ℕ)
    → list_any (fetches v) (effects r.state call) ≡ false

-- its results follow from what it received
abbrev pub AnswersTheReceived : LawfulResolverFacts → ℕ → List Call → Type 0
AnswersTheReceived r term_length calls = AnswersFit term_length calls r.state
