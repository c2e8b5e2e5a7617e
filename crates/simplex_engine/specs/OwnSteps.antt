-- What an engine does by itself.
use Rattle.std.specs.Prelude.{◌≡◌, ◌⊎◌, ℕ, Bool, List, None, IfSome}
use Rattle.simplex_types.specs.declared.types.messages.Subject.{Subject}
use Rattle.simplex_voter.specs.Facts.{Elect}
use Rattle.simplex_voter.specs.Windows.{min_active}
use Rattle.engine_votes.specs.declared.batcher.Batcher.{Batcher}
use Rattle.engine_votes.specs.StoredVotes.{IsForgotten}
use Rattle.simplex_engine.specs.declared.engine.Engine.{Engine}
use Rattle.simplex_engine.specs.CertificateVotes.{TakesNone}
use Rattle.engine_outbox.specs.declared.journaled.Journaled.{Journaled}
use Rattle.engine_outbox.specs.Continuity.{Continues}

-- the same votes are stored, or those of the views below the lowest one that the member's state retains are forgotten,
-- and no others
abbrev pub ForgetsNoOther : {S L D K G C : Type 0} → Journaled S L D K G C → Batcher S D K G C
    → Batcher S D K G C → Type 0
ForgetsNoOther core old new = IfSome core.member.facts.life (λ x. (new ≡ old) ⊎ IsForgotten (min_active x) old new)

module _ {S L D K G C : Type 0} (same : D → D → Bool) (elect : Elect L) (bytes_of : C → List ℕ)
    (is_signature : K → Subject D → G → Type 0) where
  -- the engine continues, accepts no certificate, and stores the same votes
  pub record ContinuesWithoutInput (old new : Engine S L D K G C) : Type 0 where
    pub continues : Continues same elect bytes_of is_signature None old.core new.core
    pub batcher : new.batcher ≡ old.batcher

  -- or forgets those that are no longer needed
  pub record ContinuesWithPruning (old new : Engine S L D K G C) : Type 0 where
    pub continues : Continues same elect bytes_of is_signature None old.core new.core
    pub votes : TakesNone old.batcher new.batcher
    pub forgets : ForgetsNoOther new.core old.batcher new.batcher
