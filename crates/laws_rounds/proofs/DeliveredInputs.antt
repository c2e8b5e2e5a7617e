-- What `Engine::handle` does with an admitted certificate: the member takes or declines it.
use Rattle.std.proofs.Common.{◌≡◌, refl, sym, ◌∙◌, ℕ, Bool, true, false, not, List, Option, Result, Ok, Err}
use Rattle.std.specs.Prelude.{IfOk, IsTrue}
use Rattle.std.proofs.lemmas.Bool.{false≢true}
use Rattle.simplex_types.specs.declared.types.messages.Subject.{Subject}
use Rattle.simplex_voter.specs.Facts.{Elect}
use Rattle.simplex_engine.specs.Admission.{is_input_admitted}
use Rattle.simplex_engine.specs.InputEffects.{IsActedOn}
use Rattle.simplex_engine.specs.declared.engine.Engine.{Engine}
use Rattle.simplex_engine.specs.declared.input.Input.{Input}
use Rattle.simplex_engine.specs.declared.input.Input.TheVariants as input
use Rattle.laws_rounds.specs.Deliveries.{is_declined, IsAnswered}

module _ {S L D K G C : Type 0} (same : D → D → Bool) (elect : Elect L) (bytes_of : C → List ℕ)
    (is_signature : K → Subject D → G → Type 0) (IsMadeOf : S → Subject D → List (ℕ × G) → C → Type 0)
    (keys_of : S → List K) (now : ℕ) where
  abbrev IsAnsweredSomehow : Input S D K G C → Engine S L D K G C → Engine S L D K G C → Type 0
  IsAnsweredSomehow passed old new =
      (is_taken : Bool) × IsAnswered same elect bytes_of is_signature keys_of is_taken passed old new

  answered_ok : (passed : Input S D K G C) (old new : Engine S L D K G C) (is_of_use : Bool)
      → (IsTrue (is_input_admitted bytes_of old.core.member.facts passed)
      → IsActedOn same elect bytes_of IsMadeOf keys_of now passed old new.core.member.facts new.batcher
      new.plan.steps.items is_of_use)
      → IsAnsweredSomehow passed old new
  answered_ok (input.Certificate certificate) old new is_of_use acted = by_test _ refl
    where
      by_test : (b : Bool) → is_input_admitted bytes_of old.core.member.facts (input.Certificate certificate) ≡ b
          → IsAnsweredSomehow (input.Certificate certificate) old new
      by_test true admitted =
          let done = acted admitted in (
            not (is_declined done.answer),
            λ _. (now, record { answer = done.answer; answered = done.answered; useful = refl }),
          )
      by_test false turned_away = (true, λ admitted. absurd (false≢true (sym turned_away ∙ admitted)))
  answered_ok (input.Vote vote) old new is_of_use acted = (true, tt)
  answered_ok (input.Proposal from proposal) old new is_of_use acted = (true, tt)
  answered_ok (input.Verified view is_valid) old new is_of_use acted = (true, tt)
  answered_ok (input.Built context payload) old new is_of_use acted = (true, tt)
  answered_ok (input.Certified view success) old new is_of_use acted = (true, tt)
  answered_ok (input.GivenUp view reason) old new is_of_use acted = (true, tt)

  pub answered : {E : Type 0} (passed : Input S D K G C) (old new : Engine S L D K G C) (result : Result Bool E)
      → (IsTrue (is_input_admitted bytes_of old.core.member.facts passed)
      → IfOk result (IsActedOn same elect bytes_of IsMadeOf keys_of now passed old new.core.member.facts new.batcher
      new.plan.steps.items))
      → IfOk result (λ is_of_use. IsAnsweredSomehow passed old new)
  answered passed old new (Ok is_of_use) acted = answered_ok passed old new is_of_use acted
  answered passed old new (Err error) acted = tt
