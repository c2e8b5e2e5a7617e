-- A record whose entries fit one after another breaks only rules on what comes from outside.
use Rattle.std.proofs.Common.{◌≡◌, sym, ◌∙◌, subst, ℕ, inl, inr, Bool, true, false, nat_lt, if◌then◌else◌, List, [], ◌∷◌, Option, Some, None}
use Rattle.std.proofs.lemmas.Bool.{false≢true}
use Rattle.simplex_types.specs.Certificates.{ArtifactFacts, NotarizeVote, NullifyVote, FinalizeVote, Verdict, Accepted}
use Rattle.simplex_types.specs.Config.{FloorFacts, Genesis, Finalized}
use Rattle.simplex_voter.specs.Facts.{StateFacts}
use Rattle.simplex_voter.specs.Refusals.{has_late_deadline}
use Rattle.simplex_record.specs.declared.record.error.RecoverError.{RecoverError}
use Rattle.simplex_record.specs.declared.record.error.RecoverError.TheVariants as error
use Rattle.simplex_record.specs.Check.{first_error, last_view, lacks_notarization, contradicts_verdict, meets_opposite, contradicts_vote, lacks_true_verdict, beside_rules, own_rules, recovery_floor_rules, entry_rules, first_broken_after, first_recover_error}
use Rattle.simplex_record.specs.Entries.{entry_view}
use Rattle.laws_safety.specs.RecordRefusals.{IsFromOutside}
use Rattle.laws_safety.proofs.own_records.BrokenRules.{OfBroken, first_broken, broken_joined, from_either}
use Rattle.simplex_record.specs.Recovery.{recover_error}

-- each broken rule is on what comes from outside
abbrev pub AreOutside : List (Bool × RecoverError) → Type 0
AreOutside rules = OfBroken IsFromOutside rules

unbroken : (b : Bool) (found : RecoverError) → b ≡ false → b ≡ true → IsFromOutside found
unbroken b found fine broken = absurd (false≢true (sym fine ∙ broken))

module _ {D : Type 0} (same : D → D → Bool) where
  -- an entry that breaks none of the rules on those before it, the newest first
  pub record EntryFits (before : List (ArtifactFacts D)) (e : ArtifactFacts D) : Type 0 where
    pub in_order : nat_lt (entry_view e) (last_view before) ≡ false
    pub notarized : lacks_notarization before e ≡ false
    pub one_verdict : contradicts_verdict before e ≡ false
    pub not_both : meets_opposite before e ≡ false
    pub one_vote : contradicts_vote same before e ≡ false
    pub judged : lacks_true_verdict before e ≡ false

  -- each entry fits after those before it
  abbrev pub Fit : List (ArtifactFacts D) → List (ArtifactFacts D) → Type 0
  Fit before [] = Unit {0}
  Fit before (e ∷ rest) = EntryFits before e × Fit (e ∷ before) rest

module _ {D : Type 0} (same : D → D → Bool) (epoch : ℕ) (me : Option ℕ) where
  own_outside : (e : ArtifactFacts D) → AreOutside (own_rules epoch me e)
  own_outside (NotarizeVote p m) = (λ _. tt, (λ _. tt, (λ _. tt, (λ _. tt, (λ _. tt, tt)))))
  own_outside (NullifyVote round m) = (λ _. tt, (λ _. tt, (λ _. tt, (λ _. tt, tt))))
  own_outside (FinalizeVote p m) = (λ _. tt, (λ _. tt, (λ _. tt, (λ _. tt, (λ _. tt, tt)))))
  own_outside (Verdict round success) = (λ _. tt, (λ _. tt, (λ _. tt, tt)))
  own_outside (Accepted c) = (λ _. tt, (λ _. tt, (λ _. tt, tt)))

  entry_outside : (before : List (ArtifactFacts D)) (e : ArtifactFacts D) → EntryFits same before e
      → AreOutside (entry_rules same epoch me before e)
  entry_outside before e fits = (
    unbroken (nat_lt (entry_view e) (last_view before)) error.OutOfOrder fits.in_order,
    broken_joined IsFromOutside (own_rules epoch me e) (beside_rules same before e) (own_outside e) (
      unbroken (lacks_notarization before e) error.VerdictWithoutNotarization fits.notarized,
      (
        unbroken (contradicts_verdict before e) error.ContradictingVerdicts fits.one_verdict,
        (
          unbroken (meets_opposite before e) error.NullifyBesideFinalize fits.not_both,
          (
            unbroken (contradicts_vote same before e) error.ContradictingVotes fits.one_vote,
            (unbroken (lacks_true_verdict before e) error.FinalizeWithoutVerdict fits.judged, tt),
          ),
        ),
      ),
    ),
  )

  entries_outside : (before entries : List (ArtifactFacts D)) (found : RecoverError) → Fit same before entries
      → first_broken_after same epoch me before entries ≡ Some found → IsFromOutside found
  entries_outside before [] found fit is = absurd (cc)
  entries_outside before (e ∷ rest) found fit is =
      elim (from_either (first_error (entry_rules same epoch me before e))
      (first_broken_after same epoch me (e ∷ before) rest) found is) [
        | inl here ↦ first_broken IsFromOutside (entry_rules same epoch me before e) found
            (entry_outside before e fit.0)
            here
        | inr later ↦ entries_outside (e ∷ before) rest found fit.1 later
      ]

floor_outside : {D : Type 0} (epoch : ℕ) (floor : FloorFacts D) → AreOutside (recovery_floor_rules epoch floor)
floor_outside epoch (Genesis payload) = tt
floor_outside epoch (Finalized c) = (λ _. tt, (λ _. tt, (λ _. tt, tt)))

late_outside : (b : Bool) (found : RecoverError) → (if b then Some error.TimeOverflow else None) ≡ Some found
    → IsFromOutside found
late_outside true found is = let same : error.TimeOverflow ≡ found = cc in subst IsFromOutside same tt
late_outside false found is = absurd (cc)

module _ {K L D : Type 0} (same : D → D → Bool) (x : StateFacts K L D) (floor : FloorFacts D) (now : ℕ) where
  -- only what comes from outside prevents a state
  pub error_outside : (entries : List (ArtifactFacts D)) (found : RecoverError) → Fit same [] entries
      → recover_error same x floor now entries ≡ Some found → IsFromOutside found
  unfolding first_recover_error
  error_outside entries found fit is = elim
      (from_either (first_recover_error same x.settings.epoch x.me floor entries)
      (if has_late_deadline x now then Some error.TimeOverflow else None) found is) [
        | inr late ↦ late_outside (has_late_deadline x now) found late
        | inl broken ↦ elim (from_either (first_error (recovery_floor_rules x.settings.epoch floor))
            (first_broken_after same x.settings.epoch x.me [] entries) found broken) [
              | inl of_floor ↦ first_broken IsFromOutside (recovery_floor_rules x.settings.epoch floor) found
                  (floor_outside x.settings.epoch floor) of_floor
              | inr of_entry ↦ entries_outside same x.settings.epoch x.me [] entries found fit of_entry
            ]
      ]
