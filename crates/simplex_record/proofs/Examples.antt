-- Records: the first rule that each breaks, and what is cut from it; in epoch 1, for member 0 unless said. Payloads are
-- numbers.
use Rattle.std.proofs.Common.{◌≡◌, refl, ℕ, ◌-◌, ◌^◌, Bool, true, false, List, [], ◌∷◌, Option, Some, None, nat_eq}
use Rattle.simplex_types.specs.Certificates.{Notarized, Nullified, Finalized, ArtifactFacts, NotarizeVote, NullifyVote, FinalizeVote, Verdict, Accepted}
use Rattle.simplex_types.specs.Config.{FloorFacts, Genesis, Finalized as FinalizedFloor}
use Rattle.simplex_types.specs.declared.config.SkipBudget.TheVariants as budget
use Rattle.simplex_types.specs.declared.config.SkipPolicy.TheVariants as skip
use Rattle.simplex_types.specs.declared.types.messages.Proposal.{Proposal}
use Rattle.simplex_types.specs.declared.types.numbers.Round.{Round}
use Rattle.simplex_record.specs.declared.record.error.RecoverError.{RecoverError}
use Rattle.simplex_record.specs.declared.record.error.RecoverError.TheVariants as error
use Rattle.simplex_record.specs.Check.{first_recover_error}
use Rattle.simplex_record.specs.Settings.{skip_budget_of}
use Rattle.simplex_record.specs.Cuts.{may_drop, without_last, pruned_entries}

abbrev pub Entry : Type 0
Entry = ArtifactFacts ℕ

abbrev pub round : ℕ → Round
round v = record { epoch = 1; view = v }

abbrev pub proposal : ℕ → ℕ → ℕ → Proposal ℕ
proposal v parent payload = record { round = round v; parent = parent; payload = payload }

abbrev pub notarization : ℕ → Entry
notarization v = Accepted (Notarized (record { proposal = proposal v (v - 1) 0; bytes = [] }))

abbrev pub nullification : ℕ → Entry
nullification v = Accepted (Nullified (record { round = round v; bytes = [] }))

abbrev pub finalization : ℕ → Entry
finalization v = Accepted (Finalized (record { proposal = proposal v (v - 1) 0; bytes = [] }))

abbrev pub verdict : ℕ → Bool → Entry
verdict v success = Verdict (round v) success

abbrev notarize : ℕ → ℕ → ℕ → Entry
notarize v parent payload = NotarizeVote (proposal v parent payload) 0

abbrev pub nullify : ℕ → Entry
nullify v = NullifyVote (round v) 0

abbrev pub finalize : ℕ → Entry
finalize v = FinalizeVote (proposal v (v - 1) 0) 0

abbrev pub floor_at : ℕ → ℕ → FloorFacts ℕ
floor_at epoch v = FinalizedFloor (record
    { proposal = record { round = record { epoch = epoch; view = v }; parent = v - 1; payload = 0 }; bytes = [] })

abbrev broken : List Entry → Option RecoverError
broken entries = first_recover_error nat_eq 1 (Some 0) (Genesis 0) entries

out_of_order : broken (nullification 3 ∷ nullification 2 ∷ []) ≡ Some error.OutOfOrder
unfolding first_recover_error
out_of_order = refl

other_epoch : broken (NotarizeVote (record { round = record { epoch = 2; view = 3 }; parent = 3; payload = 0 }) 0 ∷ [])
    ≡ Some error.OtherEpoch
unfolding first_recover_error
other_epoch = refl

zero_view : broken (nullification 0 ∷ []) ≡ Some error.ZeroView
unfolding first_recover_error
zero_view = refl

view_too_large : broken (nullification (2 ^ 63) ∷ []) ≡ Some error.ViewTooLarge
unfolding first_recover_error
view_too_large = refl

parent_too_large : broken (notarize 3 (2 ^ 63) 0 ∷ []) ≡ Some error.ViewTooLarge
unfolding first_recover_error
parent_too_large = refl

foreign_signer : broken (NullifyVote (round 3) 2 ∷ []) ≡ Some error.ForeignSigner
unfolding first_recover_error
foreign_signer = refl

vote_without_a_key : first_recover_error nat_eq 1 None (Genesis 0) (nullify 3 ∷ []) ≡ Some error.ForeignSigner
unfolding first_recover_error
vote_without_a_key = refl

parent_not_below : broken (FinalizeVote (proposal 3 3 0) 0 ∷ []) ≡ Some error.ParentNotBelow
unfolding first_recover_error
parent_not_below = refl

verdict_without_notarization : broken (verdict 3 true ∷ []) ≡ Some error.VerdictWithoutNotarization
unfolding first_recover_error
verdict_without_notarization = refl

-- a notarization that comes after its verdict is none for it
notarization_too_late : broken (verdict 3 true ∷ notarization 3 ∷ []) ≡ Some error.VerdictWithoutNotarization
unfolding first_recover_error
notarization_too_late = refl

-- also below the floor
verdict_below_the_floor : first_recover_error nat_eq 1 (Some 0) (floor_at 1 20) (verdict 5 true ∷ []) ≡ Some
    error.VerdictWithoutNotarization
unfolding first_recover_error
verdict_below_the_floor = refl

contradicting_verdicts : broken (notarization 3 ∷ verdict 3 true ∷ verdict 3 false ∷ []) ≡ Some
    error.ContradictingVerdicts
unfolding first_recover_error
contradicting_verdicts = refl

nullify_beside_finalize : broken (notarization 3 ∷ verdict 3 true ∷ nullify 3 ∷ finalize 3 ∷ []) ≡ Some
    error.NullifyBesideFinalize
unfolding first_recover_error
nullify_beside_finalize = refl

finalize_beside_nullify : broken (notarization 3 ∷ verdict 3 true ∷ finalize 3 ∷ nullify 3 ∷ []) ≡ Some
    error.NullifyBesideFinalize
unfolding first_recover_error
finalize_beside_nullify = refl

contradicting_votes : broken (notarize 3 2 7 ∷ notarize 3 2 8 ∷ []) ≡ Some error.ContradictingVotes
unfolding first_recover_error
contradicting_votes = refl

contradicting_votes_to_finalize : broken (notarization 3 ∷ verdict 3 true ∷ finalize 3 ∷ FinalizeVote (proposal 3 2 8) 0
    ∷ []) ≡ Some error.ContradictingVotes
unfolding first_recover_error
contradicting_votes_to_finalize = refl

finalize_without_verdict : broken (notarization 3 ∷ finalize 3 ∷ verdict 3 true ∷ []) ≡ Some
    error.FinalizeWithoutVerdict
unfolding first_recover_error
finalize_without_verdict = refl

finalize_after_a_false_verdict : broken (notarization 3 ∷ verdict 3 false ∷ finalize 3 ∷ []) ≡ Some
    error.FinalizeWithoutVerdict
unfolding first_recover_error
finalize_after_a_false_verdict = refl

-- the floor comes first
floor_of_another_epoch : first_recover_error nat_eq 1 (Some 0) (floor_at 2 20) (nullification 0 ∷ []) ≡ Some
    error.OtherEpoch
unfolding first_recover_error
floor_of_another_epoch = refl

-- entries below the floor are in order, and so are equal votes, equal verdicts, and nullify beside notarize
nothing_broken :
    first_recover_error nat_eq 1 (Some 0) (floor_at 1 20)
    (nullification 3
    ∷ notarize 15 14 0
    ∷ notarization 15
    ∷ verdict 15 true
    ∷ verdict 15 true
    ∷ finalize 15
    ∷ finalize 15
    ∷ finalization 15
    ∷ notarize 16 15 0
    ∷ nullify 16
    ∷ nullify 16
    ∷ [])
    ≡ None
unfolding first_recover_error
nothing_broken = refl

-- a drop stops at the last vote, and at the closed entries

dropped_to_the_vote : without_last 0 5 (nullify 1 ∷ notarization 1 ∷ verdict 1 true ∷ []) ≡ nullify 1 ∷ []
unfolding may_drop
dropped_to_the_vote = refl

dropped_one : without_last 0 1 (nullify 1 ∷ notarization 1 ∷ verdict 1 true ∷ []) ≡ nullify 1 ∷ notarization 1 ∷ []
unfolding may_drop
dropped_one = refl

dropped_to_what_is_closed : without_last 2 9 (notarization 1 ∷ verdict 1 true ∷ nullification 2 ∷ []) ≡ notarization 1
    ∷ verdict 1 true ∷ []
unfolding may_drop
dropped_to_what_is_closed = refl

-- a pruning removes the entries below the highest finalized view by more than the retention, votes too

pruned_below_the_retention : pruned_entries 10
    (nullify 1 ∷ finalization 20 ∷ notarization 9 ∷ notarization 10 ∷ []) ≡ finalization 20 ∷ notarization 10 ∷ []
unfolding pruned_entries
pruned_below_the_retention = refl

pruned_without_a_finalization : pruned_entries 0 (nullify 1 ∷ notarization 9 ∷ []) ≡ nullify 1 ∷ notarization 9 ∷ []
unfolding pruned_entries
pruned_without_a_finalization = refl

-- the terms that a start's settings let it skip

never_skips : skip_budget_of skip.Disabled 4 ≡ 0
never_skips = refl

skips_as_many : skip_budget_of (skip.Enabled 5000 budget.Participants) 4 ≡ 4
skips_as_many = refl
