-- The blocks to build.
use Rattle.std.specs.Prelude.{◌≡◌, true, false, IfSome}
use Rattle.simplex_types.specs.Terms.{next_term_start}
use Rattle.engine_outbox.specs.declared.journaled.Journaled.{Journaled}
use Rattle.engine_planner.specs.declared.plan.Plan.{Plan}
use Rattle.engine_planner.specs.Blocks.{builds_above, builds_from}

module _ {S L D K G C : Type 0} where
  -- each is of a view above the member's current one, or of that one and was asked for
  abbrev pub BuildsAhead : Journaled S L D K G C → Plan S D K G C → Type 0
  BuildsAhead core plan = IfSome core.member.facts.life (λ x. builds_from x.current plan.builds.buildings.items ≡ true)

  -- none is of a view above the first one of the next term
  abbrev pub BuildsNear : Journaled S L D K G C → Plan S D K G C → Type 0
  BuildsNear core plan =
      IfSome core.member.facts.life
      (λ x. builds_above (next_term_start x.terms.term_length x.current) plan.builds.buildings.items ≡ false)
