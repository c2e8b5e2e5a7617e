-- For the code of the engine. An engine continues by itself, step by step.
use Rattle.std.proofs.Common.{◌≡◌, ◌⊎◌, ◌∙◌, refl, sym, subst, inl, inr, ℕ, Bool, List, Option, Some, None}
use Rattle.std.specs.Prelude.{IfSome}
use Rattle.simplex_types.specs.declared.types.messages.Subject.{Subject}
use Rattle.simplex_voter.specs.Facts.{StateFacts, Elect}
use Rattle.simplex_voter.specs.Windows.{min_active}
use Rattle.simplex_member.specs.MemberFacts.{SignedMember}
use Rattle.engine_votes.specs.declared.batcher.Batcher.{Batcher}
use Rattle.engine_votes.specs.StoredVotes.{IsForgotten}
use Rattle.simplex_engine.specs.declared.engine.Engine.{Engine}
use Rattle.simplex_engine.specs.OwnSteps.{ForgetsNoOther, ContinuesWithoutInput, ContinuesWithPruning}
use Rattle.engine_outbox.specs.declared.journaled.Journaled.{Journaled}
use Rattle.engine_outbox.specs.Continuity.{Continues}
use Rattle.simplex_engine.proofs.CertificateVotes.{takes_no_more, takes_same}
use Rattle.engine_outbox.proofs.Continuity.{stays, goes_further}

always_some : {A : Type 0} (o : Option A) {P : A → Type 0} → ((x : A) → P x) → IfSome o P
always_some (Some x) holds = holds x
always_some None holds = tt

module _ {S L D K G C : Type 0} where
  -- the same votes are stored
  pub forgets_nothing : (core : Journaled S L D K G C) (old new : Batcher S D K G C) → new ≡ old
      → ForgetsNoOther core old new
  forgets_nothing core old new same = always_some core.member.facts.life (λ x. inl same)

  -- the lowest retained view is of the member
  pub forgets_as : (was is : Journaled S L D K G C) (old new : Batcher S D K G C) → is.member ≡ was.member
      → ForgetsNoOther was old new → ForgetsNoOther is old new
  forgets_as was is old new same forgets =
      subst (λ (m : SignedMember K L D G). IfSome m.facts.life (λ x. (new ≡ old) ⊎ IsForgotten (min_active x) old new))
      (sym same) forgets

  -- those of the views below it are forgotten
  pub forgets_by : (life : Option (StateFacts K L D)) (lowest : ℕ) (old new : Batcher S D K G C)
      → IfSome life (λ x. min_active x ≡ lowest) → IsForgotten lowest old new
      → IfSome life (λ x. (new ≡ old) ⊎ IsForgotten (min_active x) old new)
  forgets_by (Some x) lowest old new is forgotten = inr (subst (λ v. IsForgotten v old new) (sym is) forgotten)
  forgets_by None lowest old new is forgotten = tt

module _ {S L D K G C : Type 0} {same : D → D → Bool} {elect : Elect L} {bytes_of : C → List ℕ}
    {is_signature : K → Subject D → G → Type 0} where
  -- nothing has changed
  pub alone_still : (a : Engine S L D K G C) → ContinuesWithoutInput same elect bytes_of is_signature a a
  alone_still a = record { continues = stays a.core; batcher = refl }

  -- the same votes are stored
  pub alone_with : (a b : Engine S L D K G C) → Continues same elect bytes_of is_signature None a.core b.core
      → b.batcher ≡ a.batcher → ContinuesWithoutInput same elect bytes_of is_signature a b
  alone_with a b went held = record { continues = went; batcher = held }

  -- from one moment to a later one, and on to one later still
  pub alone_further : {a b c : Engine S L D K G C} → ContinuesWithoutInput same elect bytes_of is_signature a b
      → ContinuesWithoutInput same elect bytes_of is_signature b c
      → ContinuesWithoutInput same elect bytes_of is_signature a c
  alone_further first second =
      record { continues = goes_further first.continues second.continues; batcher = second.batcher ∙ first.batcher }

  -- some are forgotten after that, or none is
  pub forgets_further : {a b c : Engine S L D K G C} → ContinuesWithoutInput same elect bytes_of is_signature a b
      → ContinuesWithPruning same elect bytes_of is_signature b c
      → ContinuesWithPruning same elect bytes_of is_signature a c
  forgets_further {a = a} {b = b} {c = c} first second = record {
    continues = goes_further first.continues second.continues;
    votes = takes_no_more (takes_same first.batcher) second.votes;
    forgets = subst (λ held. ForgetsNoOther c.core held c.batcher) first.batcher second.forgets;
  }

  pub forgets_none : {a b : Engine S L D K G C} → ContinuesWithoutInput same elect bytes_of is_signature a b
      → ContinuesWithPruning same elect bytes_of is_signature a b
  forgets_none {a = a} {b = b} alone = record {
    continues = alone.continues;
    votes = takes_same alone.batcher;
    forgets = forgets_nothing b.core a.batcher b.batcher alone.batcher;
  }

  -- and the new entries of the record are queued after that
  pub forgets_then : {a b c : Engine S L D K G C} → ContinuesWithPruning same elect bytes_of is_signature a b
      → Continues same elect bytes_of is_signature None b.core c.core → c.core.member ≡ b.core.member
      → c.batcher ≡ b.batcher → ContinuesWithPruning same elect bytes_of is_signature a c
  forgets_then {a = a} {b = b} {c = c} first went member held = record {
    continues = goes_further first.continues went;
    votes = takes_no_more first.votes (takes_same held);
    forgets = subst (λ left. ForgetsNoOther c.core a.batcher left) (sym held)
        (forgets_as b.core c.core a.batcher b.batcher member first.forgets);
  }
