-- The first rule that a record breaks. An entry is tested against those before it, the newest first.
use Rattle.std.specs.Prelude.{ℕ, Bool, true, false, not, ◌&&◌, ◌||◌, ◌==◌, nat_le, nat_lt, if◌then◌else◌, List, [], ◌∷◌, ◌++◌, Option, Some, None}
use Rattle.std.specs.List.{list_any}
use Rattle.std.specs.Option.{option_map_or, option_or}
use Rattle.simplex_types.specs.Proposal.{same_proposal}
use Rattle.simplex_types.specs.Certificates.{Notarized, ArtifactFacts, NotarizeVote, NullifyVote, FinalizeVote, Verdict, Accepted}
use Rattle.simplex_types.specs.Config.{FloorFacts, Genesis, Finalized}
use Rattle.simplex_types.specs.declared.types.messages.Proposal.{Proposal}
use Rattle.simplex_types.specs.declared.types.numbers.Round.{Round}
use Rattle.simplex_round.specs.Round.{signs_as}
use Rattle.simplex_voter.specs.Refusals.{is_too_large}
use Rattle.simplex_record.specs.declared.record.error.RecoverError.{RecoverError}
use Rattle.simplex_record.specs.declared.record.error.RecoverError.TheVariants as error
use Rattle.simplex_record.specs.Entries.{certificate_round, certificate_parent, entry_view}

-- the error of the first rule of a list that is broken
abbrev pub first_error : List (Bool × RecoverError) → Option RecoverError
first_error [] = None
first_error (rule ∷ rules) = if rule.0 then Some rule.1 else first_error rules

-- the verdict that was given is this one
abbrev pub agrees : Bool → Bool → Bool
agrees success given = if success then given else not given

module _ {D : Type 0} where
  -- an entry of the view, of this kind, is among the entries
  abbrev pub stands : ℕ → (ArtifactFacts D → Bool) → List (ArtifactFacts D) → Bool
  stands v is_kind entries = list_any (λ e. entry_view e == v && is_kind e) entries

  -- the entry is a notarization
  abbrev pub is_notarization : ArtifactFacts D → Bool
  is_notarization (Accepted (Notarized _)) = true
  is_notarization _ = false

  -- a verdict like this one
  abbrev pub is_verdict : Bool → ArtifactFacts D → Bool
  is_verdict success (Verdict _ given) = agrees success given
  is_verdict success _ = false

  -- a vote to nullify
  abbrev pub is_nullify_vote : ArtifactFacts D → Bool
  is_nullify_vote (NullifyVote _ _) = true
  is_nullify_vote _ = false

  -- a vote to finalize
  abbrev pub is_finalize_vote : ArtifactFacts D → Bool
  is_finalize_vote (FinalizeVote _ _) = true
  is_finalize_vote _ = false

  -- the view of the newest entry
  abbrev pub last_view : List (ArtifactFacts D) → ℕ
  last_view [] = 0
  last_view (e ∷ _) = entry_view e

  -- a verdict without a notarization of its view
  abbrev pub lacks_notarization : List (ArtifactFacts D) → ArtifactFacts D → Bool
  lacks_notarization before (Verdict round _) = not (stands round.view is_notarization before)
  lacks_notarization before _ = false

  -- a verdict beside the other one
  abbrev pub contradicts_verdict : List (ArtifactFacts D) → ArtifactFacts D → Bool
  contradicts_verdict before (Verdict round success) = stands round.view (is_verdict (not success)) before
  contradicts_verdict before _ = false

  -- a vote to nullify beside one to finalize, or the other way round
  abbrev pub meets_opposite : List (ArtifactFacts D) → ArtifactFacts D → Bool
  meets_opposite before (NullifyVote round _) = stands round.view is_finalize_vote before
  meets_opposite before (FinalizeVote p _) = stands p.round.view is_nullify_vote before
  meets_opposite before _ = false

  -- a vote to finalize without a true verdict of its view
  abbrev pub lacks_true_verdict : List (ArtifactFacts D) → ArtifactFacts D → Bool
  lacks_true_verdict before (FinalizeVote p _) = not (stands p.round.view (is_verdict true) before)
  lacks_true_verdict before _ = false

module _ {D : Type 0} (same : D → D → Bool) where
  -- a vote of this kind for another proposal

  -- a vote to notarize another proposal
  abbrev pub notarizes_other : Proposal D → ArtifactFacts D → Bool
  notarizes_other p (NotarizeVote q _) = not (same_proposal same q p)
  notarizes_other p _ = false

  -- a vote to finalize another one
  abbrev pub finalizes_other : Proposal D → ArtifactFacts D → Bool
  finalizes_other p (FinalizeVote q _) = not (same_proposal same q p)
  finalizes_other p _ = false

  -- a vote beside one of its kind and view for another proposal
  abbrev pub contradicts_vote : List (ArtifactFacts D) → ArtifactFacts D → Bool
  contradicts_vote before (NotarizeVote p _) = stands p.round.view (notarizes_other p) before
  contradicts_vote before (FinalizeVote p _) = stands p.round.view (finalizes_other p) before
  contradicts_vote before _ = false

  -- the rules of an entry against the entries before it
  abbrev pub beside_rules : List (ArtifactFacts D) → ArtifactFacts D → List (Bool × RecoverError)
  beside_rules before e =
      (lacks_notarization before e, error.VerdictWithoutNotarization)
      ∷ (contradicts_verdict before e, error.ContradictingVerdicts)
      ∷ (meets_opposite before e, error.NullifyBesideFinalize)
      ∷ (contradicts_vote before e, error.ContradictingVotes)
      ∷ (lacks_true_verdict before e, error.FinalizeWithoutVerdict)
      ∷ []

-- of this epoch, above genesis, and no view or parent too large
abbrev pub round_rules : ℕ → Round → Option ℕ → List (Bool × RecoverError)
round_rules epoch round parent =
    (not (round.epoch == epoch), error.OtherEpoch)
    ∷ (round.view == 0, error.ZeroView)
    ∷ (is_too_large round.view || option_map_or is_too_large parent false, error.ViewTooLarge)
    ∷ []

-- a vote for a proposal, besides, is this member's, and the parent is below it
abbrev pub vote_rules : {D : Type 0} → ℕ → Option ℕ → ℕ → Proposal D → List (Bool × RecoverError)
vote_rules epoch me signer p =
    round_rules epoch p.round (Some p.parent)
    ++ (not (signs_as me signer), error.ForeignSigner)
    ∷ (nat_le p.round.view p.parent, error.ParentNotBelow)
    ∷ []

-- the rules of an entry by itself
abbrev pub own_rules : {D : Type 0} → ℕ → Option ℕ → ArtifactFacts D → List (Bool × RecoverError)
own_rules epoch me (NotarizeVote p signer) = vote_rules epoch me signer p
own_rules epoch me (FinalizeVote p signer) = vote_rules epoch me signer p
own_rules epoch me (NullifyVote round signer) =
    round_rules epoch round None ++ (not (signs_as me signer), error.ForeignSigner) ∷ []
own_rules epoch me (Verdict round _) = round_rules epoch round None
own_rules epoch me (Accepted c) = round_rules epoch (certificate_round c) (certificate_parent c)

-- the rules of a floor's finalization; genesis has none
abbrev pub recovery_floor_rules : {D : Type 0} → ℕ → FloorFacts D → List (Bool × RecoverError)
recovery_floor_rules epoch (Genesis _) = []
recovery_floor_rules epoch (Finalized c) = round_rules epoch c.proposal.round (Some c.proposal.parent)

module _ {D : Type 0} (same : D → D → Bool) (epoch : ℕ) (me : Option ℕ) where
  -- all rules of an entry, in order
  abbrev pub entry_rules : List (ArtifactFacts D) → ArtifactFacts D → List (Bool × RecoverError)
  entry_rules before e =
      (nat_lt (entry_view e) (last_view before), error.OutOfOrder) ∷ own_rules epoch me e ++ beside_rules same before e

  -- the first rule that the entries break one after another, following those before them
  abbrev pub first_broken_after : List (ArtifactFacts D) → List (ArtifactFacts D) → Option RecoverError
  first_broken_after before [] = None
  first_broken_after before (e ∷ rest) =
      option_or (first_error (entry_rules before e)) (first_broken_after (e ∷ before) rest)

  -- the first rule that the floor breaks, or else the record, oldest entry first
  unfoldable pub first_recover_error : FloorFacts D → List (ArtifactFacts D) → Option RecoverError
  first_recover_error floor record_entries =
      option_or (first_error (recovery_floor_rules epoch floor)) (first_broken_after [] record_entries)
