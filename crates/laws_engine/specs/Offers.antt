-- An engine passes verdicts only on offers, call by call.
use Rattle.std.specs.Prelude.{◌≡◌, ℕ, Bool, List, [], ◌∷◌, ◌++◌, map}
use Rattle.simplex_voter.specs.Facts.{Elect}
use Rattle.simplex_member.specs.Calls.{ReplyFacts, reply_facts}
use Rattle.simplex_member.specs.MemberFacts.{MemberFacts}
use Rattle.simplex_member.specs.Runs.{StepFacts}
use Rattle.engine_fetches.specs.declared.fetches.FetchKind.{FetchKind}
use Rattle.engine_outbox.specs.declared.output.Work.{Work}
use Rattle.engine_planner.specs.Causes.{Cause}
use Rattle.simplex_engine.specs.Provenance.{IsCaused}
use Rattle.simplex_engine.specs.declared.engine.Engine.{Engine}
use Rattle.laws_chains.specs.Offers.{IsRunOnOffers}

-- each verdict is on a proposal that the member offered and that has none, whatever came in, is returned, and need not
-- be asked for
abbrev pub EnginesRunOnOffers : (S L D K G C : Type 0) → Type 0
EnginesRunOnOffers S L D K G C =
    (same : D → D → Bool) (elect : Elect L) (bytes : D → List ℕ) (bytes_of : C → List ℕ) (now : ℕ)
    (came : List (Cause S D K G C))
    (out : List (Work S D K G C)) (held : FetchKind → ℕ → Bool) (old new : Engine S L D K G C)
    (it : IsCaused same elect bytes bytes_of now came out held old new)
    → IsRunOnOffers same elect old.core.member.facts (map (λ e. e.0) it.steps)
    (map (λ e. reply_facts bytes_of e.1) it.steps)
    new.core.member.facts

-- a call of an engine that returned `Ok`: its moment, what came in, what was returned, what need not be asked for, and
-- the engine after it
pub record CallOf (S L D K G C : Type 0) : Type 0 where
  pub now : ℕ
  pub came : List (Cause S D K G C)
  pub out : List (Work S D K G C)
  pub held : FetchKind → ℕ → Bool
  pub left : Engine S L D K G C

module _ {S L D K G C : Type 0} (same : D → D → Bool) (elect : Elect L) (bytes : D → List ℕ)
    (bytes_of : C → List ℕ) where
  -- an engine changes by these calls, one after another, each as its clause `provenance` says
  abbrev pub ContinuesBy : Engine S L D K G C → List (CallOf S L D K G C) → Engine S L D K G C → Type 0
  ContinuesBy first [] last = first ≡ last
  ContinuesBy first (call ∷ calls) last =
      IsCaused same elect bytes bytes_of call.now call.came call.out call.held first call.left
      × ContinuesBy call.left calls last

-- the same for all calls of a lifetime
abbrev pub LifetimesRunOnOffers : (S L D K G C : Type 0) → Type 0
LifetimesRunOnOffers S L D K G C =
    (same : D → D → Bool) (elect : Elect L) (bytes : D → List ℕ) (bytes_of : C → List ℕ)
    (first last : Engine S L D K G C) (calls : List (CallOf S L D K G C))
    → ContinuesBy same elect bytes bytes_of first calls last
    → (steps : List (StepFacts K L D)) × (replies : List (ReplyFacts K D))
    × IsRunOnOffers same elect first.core.member.facts steps replies last.core.member.facts

-- after one such run another may follow
abbrev pub RunsOnOffersJoin : (L D K : Type 0) → Type 0
RunsOnOffersJoin L D K =
    (same : D → D → Bool) (elect : Elect L) (first middle last : MemberFacts K L D)
    (steps more : List (StepFacts K L D)) (replies others : List (ReplyFacts K D))
    → IsRunOnOffers same elect first steps replies middle
    → IsRunOnOffers same elect middle more others last
    → IsRunOnOffers same elect first (steps ++ more) (replies ++ others) last
