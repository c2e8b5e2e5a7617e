-- An engine asks its peers for exactly the missing certificates.
use Rattle.std.specs.Prelude.{IfSome}
use Rattle.engine_outbox.specs.declared.journaled.Journaled.{Journaled}
use Rattle.engine_fetches.specs.declared.repair.Repair.{Repair}
use Rattle.engine_fetches.specs.OutstandingFetches.{FetchesTheMissing}

module _ {S L D K G C : Type 0} where
  -- exactly the certificates that the member's state misses are asked of peers
  abbrev pub FetchesItsMissing : Journaled S L D K G C → Repair → Type 0
  FetchesItsMissing core repair =
      IfSome core.member.facts.life (λ x. FetchesTheMissing repair.resolver.open_fetches x repair.fetches.wanted.items)
