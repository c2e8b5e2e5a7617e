-- The properties of an entry that breaks no rule.
use Rattle.std.proofs.Common.{◌≡◌, refl, sym, ap, ◌∙◌, ℕ, Bool, true, false, not, ◌||◌, ◌==◌, nat_le, List, [], ◌∷◌, ◌++◌, Option, Some, None}
use Rattle.std.proofs.lemmas.Bool.{eqb-true}
use Rattle.std.specs.Option.{option_map_or, option_or}
use Rattle.simplex_types.specs.Certificates.{ArtifactFacts, NotarizeVote, NullifyVote, FinalizeVote, Verdict, Accepted, artifact_facts}
use Rattle.simplex_types.specs.declared.types.messages.Proposal.{Proposal}
use Rattle.simplex_types.specs.declared.types.messages.Artifact.{Artifact}
use Rattle.simplex_types.specs.declared.types.messages.Artifact.TheVariants as artifact
use Rattle.simplex_types.specs.declared.types.numbers.Round.{Round}
use Rattle.simplex_round.specs.Round.{signs_as}
use Rattle.simplex_voter.specs.Refusals.{is_too_large}
use Rattle.simplex_voter.specs.Replay.{artifact_round, artifact_too_large}
use Rattle.simplex_record.specs.declared.record.error.RecoverError.{RecoverError}
use Rattle.simplex_record.specs.declared.record.error.RecoverError.TheVariants as error
use Rattle.simplex_record.specs.Entries.{certificate_round, certificate_parent, entry_round}
use Rattle.simplex_record.specs.Check.{first_error, round_rules, vote_rules, own_rules, beside_rules, entry_rules, lacks_notarization, contradicts_verdict, meets_opposite, contradicts_vote, lacks_true_verdict}
use Rattle.simplex_record.proofs.CheckState.{from_not_false, unbroken, rest_unbroken, none_left, first_error-append}

pub none_first : (a b : Option RecoverError) → option_or a b ≡ None → a ≡ None
none_first None b h = refl
none_first (Some x) b h = h

first_kept : (xs ys : List (Bool × RecoverError)) → first_error (xs ++ ys) ≡ None → first_error xs ≡ None
first_kept xs ys h = none_first (first_error xs) (first_error ys) (sym (first_error-append xs ys) ∙ h)

rest_kept : (xs ys : List (Bool × RecoverError)) → first_error (xs ++ ys) ≡ None → first_error ys ≡ None
rest_kept xs ys h = none_left (first_error xs) (first_error ys) (sym (first_error-append xs ys) ∙ h)

three_kept : (a b c : Bool) (i j k : RecoverError) (rest : List (Bool × RecoverError))
    → first_error ((a, i) ∷ (b, j) ∷ (c, k) ∷ rest) ≡ None → (a ≡ false) × (b ≡ false) × (c ≡ false)
three_kept false false false i j k rest h = (refl, refl, refl)
three_kept false false true i j k rest h = absurd cc
three_kept false true c i j k rest h = absurd cc
three_kept true b c i j k rest h = absurd cc

-- this epoch, a view that is no genesis, and no view or parent too large
pub record GoodRound (epoch : ℕ) (round : Round) (parent : Option ℕ) : Type 0 where
  pub of_epoch : (round.epoch == epoch) ≡ true
  pub above : (round.view == 0) ≡ false
  pub small : (is_too_large round.view || option_map_or is_too_large parent false) ≡ false

good_round : (epoch : ℕ) (round : Round) (parent : Option ℕ) → first_error (round_rules epoch round parent) ≡ None
    → GoodRound epoch round parent
good_round epoch round parent kept =
    let all = three_kept (not (round.epoch == epoch)) (round.view == 0)
    (is_too_large round.view || option_map_or is_too_large parent false) error.OtherEpoch error.ZeroView
    error.ViewTooLarge [] kept in
    record { of_epoch = from_not_false (round.epoch == epoch) all.0; above = all.1; small = all.2 }

signer_is : (me : Option ℕ) (signer : ℕ) → signs_as me signer ≡ true → me ≡ Some signer
signer_is None signer h = absurd cc
signer_is (Some m) signer h = ap Some (eqb-true m signer h)

-- the rules of a vote after those of its round
abbrev signer_rule : Option ℕ → ℕ → List (Bool × RecoverError)
signer_rule me signer = (not (signs_as me signer), error.ForeignSigner) ∷ []

abbrev proposal_rules : {D : Type 0} → Option ℕ → ℕ → Proposal D → List (Bool × RecoverError)
proposal_rules me signer p = (not (signs_as me signer), error.ForeignSigner)
    ∷ (nat_le p.round.view p.parent, error.ParentNotBelow) ∷ []

vote_signer : {D : Type 0} (epoch : ℕ) (me : Option ℕ) (signer : ℕ) (p : Proposal D)
    → first_error (vote_rules epoch me signer p) ≡ None → me ≡ Some signer
vote_signer epoch me signer p kept =
    let own = rest_kept (round_rules epoch p.round (Some p.parent)) (proposal_rules me signer p) kept in
    signer_is me signer (from_not_false (signs_as me signer)
    (unbroken (not (signs_as me signer)) error.ForeignSigner
    ((nat_le p.round.view p.parent, error.ParentNotBelow) ∷ []) own))

-- whose vote the entry is
abbrev pub IsOwn : {D : Type 0} → Option ℕ → ArtifactFacts D → Type 0
IsOwn me (NotarizeVote _ signer) = me ≡ Some signer
IsOwn me (NullifyVote _ signer) = me ≡ Some signer
IsOwn me (FinalizeVote _ signer) = me ≡ Some signer
IsOwn me (Verdict _ _) = Unit {0}
IsOwn me (Accepted _) = Unit {0}

abbrev pub entry_parent : {D : Type 0} → ArtifactFacts D → Option ℕ
entry_parent (NotarizeVote p _) = Some p.parent
entry_parent (NullifyVote _ _) = None
entry_parent (FinalizeVote p _) = Some p.parent
entry_parent (Verdict _ _) = None
entry_parent (Accepted c) = certificate_parent c

module _ {D : Type 0} (epoch : ℕ) (me : Option ℕ) where
  entry_good : (e : ArtifactFacts D) → first_error (own_rules epoch me e) ≡ None
      → GoodRound epoch (entry_round e) (entry_parent e)
  entry_good (NotarizeVote p m) kept = good_round epoch p.round (Some p.parent)
      (first_kept (round_rules epoch p.round (Some p.parent)) (proposal_rules me m p) kept)
  entry_good (NullifyVote r m) kept = good_round epoch r None
      (first_kept (round_rules epoch r None) (signer_rule me m) kept)
  entry_good (FinalizeVote p m) kept = good_round epoch p.round (Some p.parent)
      (first_kept (round_rules epoch p.round (Some p.parent)) (proposal_rules me m p) kept)
  entry_good (Verdict r success) kept = good_round epoch r None kept
  entry_good (Accepted c) kept = good_round epoch (certificate_round c) (certificate_parent c) kept

  entry_own : (e : ArtifactFacts D) → first_error (own_rules epoch me e) ≡ None → IsOwn me e
  entry_own (NotarizeVote p m) kept = vote_signer epoch me m p kept
  entry_own (NullifyVote r m) kept =
      signer_is me m (from_not_false (signs_as me m)
      (unbroken (not (signs_as me m)) error.ForeignSigner []
      (rest_kept (round_rules epoch r None) (signer_rule me m) kept)))
  entry_own (FinalizeVote p m) kept = vote_signer epoch me m p kept
  entry_own (Verdict r success) kept = tt
  entry_own (Accepted c) kept = tt

module _ {D : Type 0} (same : D → D → Bool) (epoch : ℕ) (me : Option ℕ) where
  -- an entry that the rules allow after others
  pub record Allowed (before : List (ArtifactFacts D)) (e : ArtifactFacts D) : Type 0 where
    pub good : GoodRound epoch (entry_round e) (entry_parent e)
    pub own : IsOwn me e
    pub notarized : lacks_notarization before e ≡ false
    pub verdict : contradicts_verdict before e ≡ false
    pub votes : meets_opposite before e ≡ false

  pub allowed : (before : List (ArtifactFacts D)) (e : ArtifactFacts D)
      → first_error (entry_rules same epoch me before e) ≡ None → Allowed before e
  allowed before e kept =
      let mine = rest_unbroken _ error.OutOfOrder (own_rules epoch me e ++ beside_rules same before e) kept in
      let alone = first_kept (own_rules epoch me e) (beside_rules same before e) mine in
      let beside = rest_kept (own_rules epoch me e) (beside_rules same before e) mine in
      let all = three_kept (lacks_notarization before e) (contradicts_verdict before e) (meets_opposite before e)
      error.VerdictWithoutNotarization error.ContradictingVerdicts error.NullifyBesideFinalize
      ((contradicts_vote same before e, error.ContradictingVotes)
      ∷ (lacks_true_verdict before e, error.FinalizeWithoutVerdict) ∷ []) beside in
      record {
        good = entry_good epoch me e alone;
        own = entry_own epoch me e alone;
        notarized = all.0;
        verdict = all.1;
        votes = all.2;
      }

both_small : (a b : Bool) → (a || b) ≡ false → (a || (a || b)) ≡ false
both_small false b h = h
both_small true b h = h

module _ {S K D G C : Type 0} (bytes_of : C → List ℕ) where
  -- an artifact names what its entry does
  pub round_of_entry : (a : Artifact S D K G C) → artifact_round a ≡ entry_round (artifact_facts bytes_of a)
  round_of_entry (artifact.Notarize _) = refl
  round_of_entry (artifact.Notarization _) = refl
  round_of_entry (artifact.Certification _ _) = refl
  round_of_entry (artifact.Nullify _) = refl
  round_of_entry (artifact.Nullification _) = refl
  round_of_entry (artifact.Finalize _) = refl
  round_of_entry (artifact.Finalization _) = refl

  pub small_entry : (epoch : ℕ) (a : Artifact S D K G C)
      → GoodRound epoch (entry_round (artifact_facts bytes_of a)) (entry_parent (artifact_facts bytes_of a))
      → artifact_too_large a ≡ false
  small_entry epoch (artifact.Notarize vote) good =
      both_small (is_too_large vote.proposal.round.view) (is_too_large vote.proposal.parent) good.small
  small_entry epoch (artifact.Notarization n) good =
      both_small (is_too_large n.proposal.round.view) (is_too_large n.proposal.parent) good.small
  small_entry epoch (artifact.Certification _ _) good = good.small
  small_entry epoch (artifact.Nullify _) good = good.small
  small_entry epoch (artifact.Nullification _) good = good.small
  small_entry epoch (artifact.Finalize vote) good =
      both_small (is_too_large vote.proposal.round.view) (is_too_large vote.proposal.parent) good.small
  small_entry epoch (artifact.Finalization f) good =
      both_small (is_too_large f.proposal.round.view) (is_too_large f.proposal.parent) good.small
