-- A member's record is refused for a view that is too large only where the member voted in one.
use Rattle.std.proofs.Common.{◌≡◌, refl, sym, ◌∙◌, subst, ℕ, ◌≤◌, ◌^◌, ◌⊎◌, inl, inr, Bool, true, false, if◌then◌else◌, List, [], ◌∷◌, Option, Some, None, Contains, arith}
use Rattle.std.proofs.Math.Bool.{or-false}
use Rattle.std.proofs.lemmas.Bool.{leb-true, or_cases, or_parts, false≢true}
use Rattle.std.proofs.lemmas.List.Elements.{Contains-append_left}
use Rattle.simplex_types.specs.Certificates.{CertificateFacts, Notarized, Nullified, Finalized, ArtifactFacts, NotarizeVote, NullifyVote, FinalizeVote, Verdict, Accepted}
use Rattle.simplex_types.specs.Config.{FloorFacts, Genesis, Finalized as FinalizedFloor}
use Rattle.simplex_types.specs.declared.types.messages.Subject.TheVariants as subject
use Rattle.simplex_types.specs.declared.types.messages.Proposal.{Proposal}
use Rattle.simplex_types.specs.declared.types.numbers.Round.{Round}
use Rattle.simplex_types.specs.Encoding.{certificate_subject}
use Rattle.simplex_voter.specs.Facts.{StateFacts}
use Rattle.simplex_voter.specs.Refusals.{is_too_large, names_too_large, has_late_deadline}
use Rattle.simplex_record.specs.declared.record.error.RecoverError.{RecoverError}
use Rattle.simplex_record.specs.declared.record.error.RecoverError.TheVariants as error
use Rattle.simplex_record.specs.Check.{first_error, beside_rules, own_rules, recovery_floor_rules, entry_rules, first_broken_after, first_recover_error}
use Rattle.simplex_record.specs.Recovery.{recover_error}
use Rattle.laws_safety.specs.Traces.{TraceEvent, Accepts}
use Rattle.laws_safety.specs.Lawful.{IsLawful, HasSigned}
use Rattle.laws_safety.specs.RecordRefusals.{is_floor_too_large}
use Rattle.laws_safety.proofs.own_records.BrokenRules.{OfBroken, first_broken, broken_joined, from_either}
use Rattle.laws_safety.proofs.own_records.Recorded.{OwnRecord}
use Rattle.laws_safety.proofs.records.TracesShown.{Remembers}
use Rattle.laws_safety.proofs.own_records.SmallViews.{subject_too_large, AreSmall}
use Rattle.laws_safety.proofs.lists.Splits.{Contains-cons_rest}
use Rattle.laws_safety.proofs.agreement.VoteOrder.{voted, earlier, Contains-split}

-- the member voted to nullify or to notarize a view that is too large
abbrev pub HasHighVote : {D : Type 0} → List (TraceEvent D) → Type 0
HasHighVote {D} trace =
    ((round : Round) × HasSigned trace (subject.Nullify round) × (2 ^ 63 ≤ round.view))
    ⊎ ((p : Proposal D) × HasSigned trace (subject.Notarize p) × (2 ^ 63 ≤ p.round.view))

-- an entry names a view that is too large
abbrev pub entry_too_large : {D : Type 0} → ArtifactFacts D → Bool
entry_too_large (NotarizeVote p m) = names_too_large p
entry_too_large (NullifyVote round m) = is_too_large round.view
entry_too_large (FinalizeVote p m) = names_too_large p
entry_too_large (Verdict round success) = is_too_large round.view
entry_too_large (Accepted c) = subject_too_large (certificate_subject c)

late_elsewhere : (b : Bool) → (if b then Some error.TimeOverflow else None) ≡ Some error.ViewTooLarge → ⊥
late_elsewhere true is = absurd (cc)
late_elsewhere false is = absurd (cc)

module _ {D : Type 0} (same : D → D → Bool) (epoch : ℕ) (me : Option ℕ) (Claim : Type 0) where
  -- a claim of an error, where it is on a view
  abbrev IfView : RecoverError → Type 0
  IfView found = found ≡ error.ViewTooLarge → Claim

  of_own : (e : ArtifactFacts D) → (entry_too_large e ≡ true → Claim) → OfBroken IfView (own_rules epoch me e)
  of_own (NotarizeVote p m) claim = (
    λ _ is. absurd (cc),
    (λ _ is. absurd (cc), (λ broken is. claim broken, (λ _ is. absurd (cc), (λ _ is. absurd (cc), tt)))),
  )
  of_own (NullifyVote round m) claim = (
    λ _ is. absurd (cc),
    (
      λ _ is. absurd (cc),
      (λ broken is. claim (sym (or-false (is_too_large round.view)) ∙ broken), (λ _ is. absurd (cc), tt)),
    ),
  )
  of_own (FinalizeVote p m) claim = (
    λ _ is. absurd (cc),
    (λ _ is. absurd (cc), (λ broken is. claim broken, (λ _ is. absurd (cc), (λ _ is. absurd (cc), tt)))),
  )
  of_own (Verdict round success) claim = (
    λ _ is. absurd (cc),
    (λ _ is. absurd (cc), (λ broken is. claim (sym (or-false (is_too_large round.view)) ∙ broken), tt)),
  )
  of_own (Accepted (Notarized c)) claim = (λ _ is. absurd (cc), (λ _ is. absurd (cc), (λ broken is. claim broken, tt)))
  of_own (Accepted (Nullified c)) claim = (
    λ _ is. absurd (cc),
    (λ _ is. absurd (cc), (λ broken is. claim (sym (or-false (is_too_large c.round.view)) ∙ broken), tt)),
  )
  of_own (Accepted (Finalized c)) claim = (λ _ is. absurd (cc), (λ _ is. absurd (cc), (λ broken is. claim broken, tt)))

  of_beside : (before : List (ArtifactFacts D)) (e : ArtifactFacts D) → OfBroken IfView (beside_rules same before e)
  of_beside before e = (
    λ _ is. absurd (cc),
    (λ _ is. absurd (cc), (λ _ is. absurd (cc), (λ _ is. absurd (cc), (λ _ is. absurd (cc), tt)))),
  )

  of_entry : (before : List (ArtifactFacts D)) (e : ArtifactFacts D) → (entry_too_large e ≡ true → Claim)
      → OfBroken IfView (entry_rules same epoch me before e)
  of_entry before e claim = (
    λ _ is. absurd (cc),
    broken_joined IfView (own_rules epoch me e) (beside_rules same before e) (of_own e claim) (of_beside before e),
  )

  of_entries : (before entries : List (ArtifactFacts D)) (found : RecoverError)
      → ((e : ArtifactFacts D) → Contains entries e → entry_too_large e ≡ true → Claim)
      → first_broken_after same epoch me before entries ≡ Some found → IfView found
  of_entries before [] found claims is = absurd (cc)
  of_entries before (e ∷ rest) found claims is =
      elim (from_either (first_error (entry_rules same epoch me before e))
      (first_broken_after same epoch me (e ∷ before) rest) found is) [
        | inl here ↦ first_broken IfView (entry_rules same epoch me before e) found
            (of_entry before e (λ large. claims e (0, omega arith, refl) large)) here
        | inr later ↦ of_entries (e ∷ before) rest found (λ f h large. claims f (Contains-cons_rest e rest f h) large)
            later
      ]

  of_floor : (floor : FloorFacts D) → (is_floor_too_large floor ≡ true → Claim)
      → OfBroken IfView (recovery_floor_rules epoch floor)
  of_floor (Genesis payload) claim = tt
  of_floor (FinalizedFloor c) claim = (λ _ is. absurd (cc), (λ _ is. absurd (cc), (λ broken is. claim broken, tt)))

module _ {D : Type 0} (term_length : ℕ) (trace : List (TraceEvent D)) (lawful : IsLawful term_length trace)
    (small : AreSmall trace) (kept : ℕ) (entries : List (ArtifactFacts D)) (remembers : Remembers trace kept entries)
    (own : OwnRecord trace entries) where
  fine : (b : Bool) → b ≡ false → b ≡ true → HasHighVote trace
  fine b kept_small large = absurd (false≢true (sym kept_small ∙ large))

  certificate_small : (c : CertificateFacts D) → Contains entries (Accepted c)
      → subject_too_large (certificate_subject c) ≡ false
  certificate_small c h = small (certificate_subject c) (remembers.accepted c h)

  -- an entry that is too large is a vote to nullify or to notarize: a certificate was accepted, and before a verdict
  -- and a vote to finalize
  -- there is the notarization
  too_large_voted : (e : ArtifactFacts D) → Contains entries e → entry_too_large e ≡ true → HasHighVote trace
  too_large_voted (NotarizeVote p m) h large =
      let signs = own.notarize_cast p m h in
      let before = voted trace (subject.Notarize p) signs in
      let below = lawful.parent_before before.0 p before.1 in
      elim (or_cases (is_too_large p.round.view) (is_too_large p.parent) large) [
        | inl view ↦ inr (p, signs, leb-true (2 ^ 63) p.round.view view)
        | inr parent ↦ (let high = leb-true (2 ^ 63) p.parent parent in inr (p, signs, omega arith))
      ]
  too_large_voted (NullifyVote round m) h large =
      inl (round, remembers.nullify_cast round m h, leb-true (2 ^ 63) round.view large)
  too_large_voted (FinalizeVote p m) h large =
      let before = voted trace (subject.Finalize p) (remembers.finalize_cast p m h) in
      let accepted = earlier trace before.0 (subject.Finalize p) (Accepts (subject.Notarize p)) before.1
      (lawful.finalizes_notarized before.0 p before.1) in
      fine (names_too_large p) (small (subject.Notarize p) accepted) large
  too_large_voted (Verdict round success) h large =
      let split = Contains-split entries (Verdict round success) h in
      let c = own.notarized split.0 split.1 round success split.2 in
      let accepted : Contains entries (Accepted (Notarized c.0)) =
      subst (λ es. Contains es (Accepted (Notarized c.0))) (sym split.2)
      (Contains-append_left split.0 (Verdict round success ∷ split.1) (Accepted (Notarized c.0)) c.1) in
      let none = certificate_small (Notarized c.0) accepted in
      let parts = or_parts (is_too_large c.0.proposal.round.view) (is_too_large c.0.proposal.parent) none in
      fine (is_too_large round.view) (subst (λ v. is_too_large v ≡ false) c.2 parts.0) large
  too_large_voted (Accepted c) h large = fine (subject_too_large (certificate_subject c)) (certificate_small c h) large

  pub view_voted : {K L : Type 0} (same : D → D → Bool) (x : StateFacts K L D) (floor : FloorFacts D) (now : ℕ)
      → recover_error same x floor now entries ≡ Some error.ViewTooLarge
      → (is_floor_too_large floor ≡ true) ⊎ HasHighVote trace
  unfolding first_recover_error
  view_voted same x floor now is = elim (from_either (first_recover_error same x.settings.epoch x.me floor entries)
      (if has_late_deadline x now then Some error.TimeOverflow else None) error.ViewTooLarge is) [
        | inr late ↦ absurd (late_elsewhere (has_late_deadline x now) late)
        | inl broken ↦ elim (from_either (first_error (recovery_floor_rules x.settings.epoch floor))
            (first_broken_after same x.settings.epoch x.me [] entries) error.ViewTooLarge broken) [
              | inl in_floor ↦ first_broken (IfView same x.settings.epoch x.me
                  ((is_floor_too_large floor ≡ true) ⊎ HasHighVote trace)) (recovery_floor_rules x.settings.epoch floor)
                  error.ViewTooLarge (of_floor same x.settings.epoch x.me
                  ((is_floor_too_large floor ≡ true) ⊎ HasHighVote trace) floor (λ large. inl large)) in_floor refl
              | inr in_entries ↦ of_entries same x.settings.epoch x.me
                  ((is_floor_too_large floor ≡ true) ⊎ HasHighVote trace)
                  [] entries error.ViewTooLarge (λ e h large. inr (too_large_voted e h large)) in_entries refl
            ]
      ]
