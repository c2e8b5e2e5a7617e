-- Why a vote of this member is withheld: the parts of its rule, in the order of the rule, each with its name if it is
-- false.
use Rattle.std.specs.Prelude.{ℕ, Bool, false, ◌==◌, not, nat_lt, List, [], ◌∷◌, ◌++◌, Option, Some, None, is_some, if◌then◌else◌}
use Rattle.simplex_round.specs.Round.{RoundFacts, is_nullify, is_finalize, is_judged, is_certified, is_verified_slot}
use Rattle.simplex_round.specs.Slot.{is_unequivocated}
use Rattle.simplex_voter.specs.declared.voter.withheld.Withheld.{Withheld}
use Rattle.simplex_voter.specs.declared.voter.withheld.Withheld.TheVariants.{NoKey, NotAdmitted, AlreadyVoted, VotedToNullify, VotedToFinalize, NoProposal, Equivocated, NotVerified, AncestryNotReady, BindingChanged, NotCurrent, AlreadyFinalized, ConflictingNullify, ParentNotCertified, NotNotarized, CertificationFailed, NotCertified}
use Rattle.simplex_voter.specs.Facts.{StateFacts, Elect, round_of}
use Rattle.simplex_voter.specs.Windows.{is_admitted}
use Rattle.simplex_voter.specs.Parents.{verification_matches}
use Rattle.simplex_voter.specs.Rules.{has_conflicting_nullify, has_required_parent, has_ancestry}

-- the name of the first part that is false
abbrev pub first_false : List (Bool × Withheld) → Option Withheld
first_false [] = None
first_false ((holds, name) ∷ rest) = if holds then first_false rest else Some name

module _ {K D : Type 0} where
  -- what is known of the view lets this member vote to notarize it: `can_notarize`
  abbrev pub notarize_round_parts : RoundFacts K D → List (Bool × Withheld)
  notarize_round_parts r =
      (not r.notarize_decided, AlreadyVoted)
      ∷ (not (is_nullify r.decision), VotedToNullify)
      ∷ (is_some r.slot.held, NoProposal)
      ∷ (is_unequivocated r.slot, Equivocated)
      ∷ (is_verified_slot r.slot, NotVerified)
      ∷ []

  -- the same of a vote to finalize: `can_finalize`
  abbrev pub finalize_round_parts : RoundFacts K D → List (Bool × Withheld)
  finalize_round_parts r =
      (not (is_nullify r.decision), VotedToNullify)
      ∷ (not (is_finalize r.decision), AlreadyVoted)
      ∷ (is_unequivocated r.slot, Equivocated)
      ∷ (is_some r.notarization, NotNotarized)
      ∷ (not (is_judged false r.certification), CertificationFailed)
      ∷ (is_certified r.certification, NotCertified)
      ∷ []

  abbrev pub notarize_round_withheld : RoundFacts K D → Option Withheld
  notarize_round_withheld r = first_false (notarize_round_parts r)

  abbrev pub finalize_round_withheld : RoundFacts K D → Option Withheld
  finalize_round_withheld r = first_false (finalize_round_parts r)

module _ {K L D : Type 0} where
  -- `may_nullify`, by a member that has a key
  abbrev pub nullify_withheld : StateFacts K L D → ℕ → Option Withheld
  nullify_withheld x v =
      first_false
      ((is_some x.me, NoKey) ∷ (v == x.current, NotCurrent)
      ∷ (not (is_finalize (round_of x v).decision), VotedToFinalize) ∷ [])

module _ {K L D : Type 0} (elect : Elect L) where
  -- `may_finalize`, by a member that has a key
  abbrev pub finalize_withheld : StateFacts K L D → ℕ → Option Withheld
  finalize_withheld x v =
      first_false
      ((is_some x.me, NoKey)
      ∷ (nat_lt x.finalized v, AlreadyFinalized)
      ∷ (is_admitted x v, NotAdmitted)
      ∷ (not (has_conflicting_nullify x v), ConflictingNullify)
      ∷ (is_some (round_of x v).slot.held, NoProposal)
      ∷ (has_required_parent elect x v, ParentNotCertified)
      ∷ finalize_round_parts (round_of x v))

module _ {K L D : Type 0} (same : D → D → Bool) (elect : Elect L) where
  -- `may_notarize`, by a member that has a key
  abbrev pub notarize_withheld : StateFacts K L D → ℕ → Option Withheld
  notarize_withheld x v =
      first_false
      ((is_some x.me, NoKey)
      ∷ (is_admitted x v, NotAdmitted)
      ∷ notarize_round_parts (round_of x v)
      ++ (has_ancestry same elect x v, AncestryNotReady)
      ∷ (verification_matches same elect x v, BindingChanged)
      ∷ [])
