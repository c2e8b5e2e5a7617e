-- The views of what an engine asks its peers for have a bound.
use Rattle.std.specs.Prelude.{◌≡◌, ◌≤◌, ℕ, nat_lt, max, Bool, false, map, IfSome}
use Rattle.std.specs.List.{list_any}
use Rattle.simplex_types.specs.Terms.{next_term_start}
use Rattle.simplex_resolver.specs.ReceivedFacts.{greatest}
use Rattle.simplex_voter.specs.Facts.{StateFacts, Elect}
use Rattle.simplex_record.specs.Entries.{entry_view}
use Rattle.simplex_member.specs.MemberFacts.{MemberFacts}
use Rattle.laws_safety.specs.MemberHistory.{OfEachHistory}
use Rattle.engine_planner.specs.declared.plan.Plan.{Plan}
use Rattle.engine_planner.specs.declared.plan.Step.{Step}
use Rattle.engine_planner.specs.declared.plan.Step.TheVariants.{Resolve}
use Rattle.simplex_engine.specs.declared.engine.Engine.{Engine}

-- the highest view that a member has heard of: of the entries of its record, or the first one of the next term
abbrev pub highest_received : {K L D : Type 0} → MemberFacts K L D → StateFacts K L D → ℕ
highest_received m x = max (next_term_start x.terms.term_length x.current) (greatest (map entry_view m.entries))

module _ {S D K G C : Type 0} where
  -- a step plans to ask for a certificate of a view above this one
  abbrev pub resolves_above : ℕ → Step S D K G C → Bool
  resolves_above top (Resolve kind view proposal) = nat_lt top view
  resolves_above top _ = false

  -- no certificate of a view above this one is asked for, or is planned to be; nor does the resolver want or know of
  -- one
  pub record FetchesUpTo (top : ℕ) (plan : Plan S D K G C) : Type 0 where
    pub asked : list_any (λ fetch. nat_lt top fetch.view) plan.repair.fetches.wanted.items ≡ false
    pub planned : list_any (resolves_above top) plan.steps.items ≡ false
    pub wanted : list_any (nat_lt top) plan.repair.resolver.open_fetches ≡ false
    pub received : plan.repair.resolver.state.current ≤ top

-- an engine asks for certificates of no view above those that its member has heard of
abbrev pub FetchesTheReported : {S L D K G C : Type 0} → Engine S L D K G C → Type 0
FetchesTheReported engine =
    IfSome engine.core.member.facts.life (λ x. FetchesUpTo (highest_received engine.core.member.facts x) engine.plan)

-- an engine that asked for certificates of no view above those that its member had heard of still asks for none,
-- whatever its member has done so far
abbrev pub FetchesNoHigher : {S L D K G C : Type 0} → (D → D → Bool) → Elect L → Engine S L D K G C
    → Engine S L D K G C → Type 0
FetchesNoHigher same elect old new =
    OfEachHistory same elect old.core.member.facts
    (λ term_length i all. FetchesTheReported old → FetchesTheReported new)
