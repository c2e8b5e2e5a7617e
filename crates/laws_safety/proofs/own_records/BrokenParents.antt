-- A member's record is refused for a parent only where it accepted a notarization with such a parent.
use Rattle.std.proofs.Common.{◌≡◌, refl, ℕ, ◌≤◌, ◌⊎◌, inl, inr, Bool, true, false, if◌then◌else◌, List, [], ◌∷◌, Option, Some, None, Contains, arith}
use Rattle.std.proofs.lemmas.Bool.{leb-true}
use Rattle.simplex_types.specs.Certificates.{ArtifactFacts, NotarizeVote, NullifyVote, FinalizeVote, Verdict, Accepted}
use Rattle.simplex_types.specs.Config.{FloorFacts, Genesis, Finalized}
use Rattle.simplex_types.specs.declared.types.messages.Proposal.{Proposal}
use Rattle.simplex_types.specs.declared.types.messages.Subject.TheVariants as subject
use Rattle.simplex_voter.specs.Facts.{StateFacts}
use Rattle.simplex_voter.specs.Refusals.{has_late_deadline}
use Rattle.simplex_record.specs.declared.record.error.RecoverError.{RecoverError}
use Rattle.simplex_record.specs.declared.record.error.RecoverError.TheVariants as error
use Rattle.simplex_record.specs.Check.{first_error, beside_rules, vote_rules, own_rules, recovery_floor_rules, entry_rules, first_broken_after, first_recover_error}
use Rattle.simplex_record.specs.Recovery.{recover_error}
use Rattle.laws_safety.specs.Traces.{TraceEvent, Accepts}
use Rattle.laws_safety.specs.Lawful.{IsLawful, HasSigned}
use Rattle.laws_safety.specs.RecordRefusals.{AcceptedParentAbove}
use Rattle.laws_safety.proofs.own_records.BrokenRules.{OfBroken, first_broken, broken_joined, from_either}
use Rattle.laws_safety.proofs.lists.Splits.{Contains-cons_rest, only_one}
use Rattle.laws_safety.proofs.agreement.VoteOrder.{voted, earlier}

-- a vote of the entries for this proposal
abbrev HasVote : {D : Type 0} → List (ArtifactFacts D) → Proposal D → Type 0
HasVote entries p = (m : ℕ) × (Contains entries (NotarizeVote p m) ⊎ Contains entries (FinalizeVote p m))

first_too : {X : Type 0} (e : X) (rest : List X) (x : X) → Contains (e ∷ []) x → Contains (e ∷ rest) x
first_too e rest x h = (0, omega arith, only_one e x h)

late_elsewhere : (b : Bool) → (if b then Some error.TimeOverflow else None) ≡ Some error.ParentNotBelow → ⊥
late_elsewhere true is = absurd (cc)
late_elsewhere false is = absurd (cc)

module _ {D : Type 0} (same : D → D → Bool) (epoch : ℕ) (me : Option ℕ) (Claim : Type 0) where
  -- a claim of an error, where it is on a parent
  abbrev IfParent : RecoverError → Type 0
  IfParent found = found ≡ error.ParentNotBelow → Claim

  of_vote : (signer : ℕ) (p : Proposal D) → (p.round.view ≤ p.parent → Claim)
      → OfBroken IfParent (vote_rules epoch me signer p)
  of_vote signer p above = (
    λ _ is. absurd (cc),
    (
      λ _ is. absurd (cc),
      (
        λ _ is. absurd (cc),
        (λ _ is. absurd (cc), (λ broken is. above (leb-true p.round.view p.parent broken), tt)),
      ),
    ),
  )

  of_own : (e : ArtifactFacts D) → ((p : Proposal D) → HasVote (e ∷ []) p → p.round.view ≤ p.parent → Claim)
      → OfBroken IfParent (own_rules epoch me e)
  of_own (NotarizeVote p m) votes = of_vote m p (votes p (m, inl (0, omega arith, refl)))
  of_own (NullifyVote round m) votes =
      (λ _ is. absurd (cc), (λ _ is. absurd (cc), (λ _ is. absurd (cc), (λ _ is. absurd (cc), tt))))
  of_own (FinalizeVote p m) votes = of_vote m p (votes p (m, inr (0, omega arith, refl)))
  of_own (Verdict round success) votes = (λ _ is. absurd (cc), (λ _ is. absurd (cc), (λ _ is. absurd (cc), tt)))
  of_own (Accepted c) votes = (λ _ is. absurd (cc), (λ _ is. absurd (cc), (λ _ is. absurd (cc), tt)))

  of_beside : (before : List (ArtifactFacts D)) (e : ArtifactFacts D) → OfBroken IfParent (beside_rules same before e)
  of_beside before e = (
    λ _ is. absurd (cc),
    (λ _ is. absurd (cc), (λ _ is. absurd (cc), (λ _ is. absurd (cc), (λ _ is. absurd (cc), tt)))),
  )

  of_entry : (before : List (ArtifactFacts D)) (e : ArtifactFacts D)
      → ((p : Proposal D) → HasVote (e ∷ []) p → p.round.view ≤ p.parent → Claim)
      → OfBroken IfParent (entry_rules same epoch me before e)
  of_entry before e votes = (
    λ _ is. absurd (cc),
    broken_joined IfParent (own_rules epoch me e) (beside_rules same before e) (of_own e votes) (of_beside before e),
  )

  of_entries : (before entries : List (ArtifactFacts D)) (found : RecoverError)
      → ((p : Proposal D) → HasVote entries p → p.round.view ≤ p.parent → Claim)
      → first_broken_after same epoch me before entries ≡ Some found → IfParent found
  of_entries before [] found votes is = absurd (cc)
  of_entries before (e ∷ rest) found votes is =
      elim (from_either (first_error (entry_rules same epoch me before e))
      (first_broken_after same epoch me (e ∷ before) rest) found is) [
        | inl here ↦ first_broken IfParent (entry_rules same epoch me before e) found
            (of_entry before e (λ p has. votes p (of_first p has))) here
        | inr later ↦ of_entries (e ∷ before) rest found (λ p has. votes p (of_rest p has)) later
      ]
    where
      of_first : (p : Proposal D) → HasVote (e ∷ []) p → HasVote (e ∷ rest) p
      of_first p (m, inl h) = (m, inl (first_too e rest (NotarizeVote p m) h))
      of_first p (m, inr h) = (m, inr (first_too e rest (FinalizeVote p m) h))

      of_rest : (p : Proposal D) → HasVote rest p → HasVote (e ∷ rest) p
      of_rest p (m, inl h) = (m, inl (Contains-cons_rest e rest (NotarizeVote p m) h))
      of_rest p (m, inr h) = (m, inr (Contains-cons_rest e rest (FinalizeVote p m) h))

  of_floor : (floor : FloorFacts D) → OfBroken IfParent (recovery_floor_rules epoch floor)
  of_floor (Genesis payload) = tt
  of_floor (Finalized c) = (λ _ is. absurd (cc), (λ _ is. absurd (cc), (λ _ is. absurd (cc), tt)))

module _ {K L D : Type 0} (same : D → D → Bool) (term_length : ℕ) (trace : List (TraceEvent D))
    (lawful : IsLawful term_length trace) where
  -- a vote to notarize names an earlier view, and before one to finalize there is a notarization
  pub parent_accepted : (x : StateFacts K L D) (floor : FloorFacts D) (now : ℕ) (entries : List (ArtifactFacts D))
      → ((p : Proposal D) (m : ℕ) → Contains entries (NotarizeVote p m) → HasSigned trace (subject.Notarize p))
      → ((p : Proposal D) (m : ℕ) → Contains entries (FinalizeVote p m) → HasSigned trace (subject.Finalize p))
      → recover_error same x floor now entries ≡ Some error.ParentNotBelow
      → AcceptedParentAbove trace
  unfolding first_recover_error
  parent_accepted x floor now entries notarize_cast finalize_cast is =
      elim (from_either (first_recover_error same x.settings.epoch x.me floor entries)
      (if has_late_deadline x now then Some error.TimeOverflow else None) error.ParentNotBelow is) [
        | inr late ↦ absurd (late_elsewhere (has_late_deadline x now) late)
        | inl broken ↦ elim (from_either (first_error (recovery_floor_rules x.settings.epoch floor))
            (first_broken_after same x.settings.epoch x.me [] entries) error.ParentNotBelow broken) [
              | inl in_floor ↦ first_broken (IfParent same x.settings.epoch x.me (AcceptedParentAbove trace))
                  (recovery_floor_rules x.settings.epoch floor) error.ParentNotBelow
                  (of_floor same x.settings.epoch x.me (AcceptedParentAbove trace) floor) in_floor refl
              | inr in_entries ↦ of_entries same x.settings.epoch x.me (AcceptedParentAbove trace) [] entries
                  error.ParentNotBelow votes in_entries refl
            ]
      ]
    where
      votes : (p : Proposal D) → HasVote entries p → p.round.view ≤ p.parent → AcceptedParentAbove trace
      votes p (m, inl h) above =
          let signs = voted trace (subject.Notarize p) (notarize_cast p m h) in
          let below = lawful.parent_before signs.0 p signs.1 in
          absurd (omega arith)
      votes p (m, inr h) above =
          let signs = voted trace (subject.Finalize p) (finalize_cast p m h) in (
            p,
            earlier trace signs.0 (subject.Finalize p) (Accepts (subject.Notarize p)) signs.1
                (lawful.finalizes_notarized signs.0 p signs.1),
            above,
          )
