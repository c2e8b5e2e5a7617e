-- Events that leave each view's proposal, its verification and its binding as they are.
use Rattle.std.proofs.Common.{◌≡◌, ◌≢◌, refl, ap, sym, ◌∙◌, subst, ℕ, ◌<◌, ◌≤◌, ◌⊎◌, inl, inr, Bool, true, false, cond, List, [], ◌∷◌, Contains, Some, None, is_some, arith}
use Rattle.std.specs.Ordering.{nat_cmp, match_ordering}
use Rattle.std.specs.Cmp.{nat_cmp_total}
use Rattle.std.specs.BTreeSet.{insert_key}
use Rattle.std.specs.FinMap.Entries.{find, put, find-put}
use Rattle.std.proofs.lemmas.Bool.{cases_eq, cases_lt, ne_eqb, false≢true, true≢false}
use Rattle.std.specs.declared.cmp.Ordering.{Ordering}
use Rattle.std.specs.declared.cmp.Ordering.TheVariants.{Less, Equal, Greater}
use Rattle.simplex_types.specs.Certificates.{NotarizeVote}
use Rattle.simplex_types.specs.Proposal.{same_proposal}
use Rattle.simplex_types.specs.declared.types.messages.Proposal.{Proposal}
use Rattle.simplex_round.specs.Slot.{after_vote, after_certificate}
use Rattle.simplex_round.specs.Round.{RoundFacts}
use Rattle.simplex_voter.specs.Facts.{StateFacts, Elect, round_of, is_tracked, with_round}
use Rattle.simplex_view_maps.proofs.Maps.{is_eq-nat_cmp}
use Rattle.simplex_record.specs.Events.{Event, Proposed, TryVerify, SetProposal, Verified, VerificationFailed, Prune, Replay, after_event, covers_from, is_prune}
use Rattle.laws_safety.proofs.lists.Splits.{Contains-cases, Contains-cons_rest}
use Rattle.simplex_record.proofs.Steps as step
use Rattle.simplex_record.proofs.Steps.{RoundStep, Step, Path, Covers, Prunes, along, note_by, proposal_by, is_answer}
use Rattle.simplex_record.proofs.Paths.{AskedFrom, event_path}
use Rattle.laws_safety.proofs.frames.EachRound.{step_round}
use Rattle.laws_safety.proofs.frames.NoLowerViews.{UnchangedOrHigher, goes_still, step_goes}
use Rattle.laws_safety.proofs.frames.Untracked.{step_out}
use Rattle.laws_safety.proofs.votes.UnchangedRounds.{UnchangedProposal, calm, calm_joined, calm_alike, calm_led, calm_decided, slot_in_round, certificate_calm, voted_calm}

-- no view below `base` is tracked
abbrev pub Above : {K L D : Type 0} → ℕ → StateFacts K L D → Type 0
Above base x = (v : ℕ) → is_tracked x v ≡ true → base ≤ v

-- each round is unchanged in this sense, no view below `base` becomes tracked, and the event covers what is newly
-- nullified
pub record UnchangedProposalsFrom {K L D : Type 0} (base : ℕ) (e : Event K D) (x y : StateFacts K L D) : Type 0 where
  pub goes : UnchangedOrHigher x y
  pub above : Above base x → Above base y
  pub rounds : (v : ℕ) → UnchangedProposal v (round_of x v) (round_of y v)
  pub covered : (u : ℕ) → Contains y.nullified u → (covers_from u e ≡ true) ⊎ Contains x.nullified u

abbrev is_other : {K D : Type 0} → Event K D → Bool
is_other (Proposed _ _ _) = true
is_other TryVerify = true
is_other _ = false

-- the event is no work on a proposal, and drops nothing; a proposal that it names is of its view
pub record IsNoProposalWork {K D : Type 0} (e : Event K D) : Type 0 where
  pub note : note_by e ≡ None
  pub answer : is_answer e ≡ false
  pub other : is_other e ≡ false
  pub prune : is_prune e ≡ false
  pub placed : (v : ℕ) (p : Proposal D) → proposal_by e ≡ Some (v, p) → p.round.view ≡ v

-- it is any event but these
abbrev works : {K D : Type 0} → Event K D → Bool
works (Replay (NotarizeVote _ _)) = true
works (SetProposal _ _) = true
works (Verified _) = true
works (VerificationFailed _ _ _) = true
works Prune = true
works e = is_other e

pub leaves : {K D : Type 0} {e : Event K D} → works e ≡ false → IsNoProposalWork e
leaves {K} {D} {e} none = by_event e none
  where
    by_event : (e : Event K D) → works e ≡ false → IsNoProposalWork e
    by_event (Replay (NotarizeVote p m)) none = absurd (false≢true (sym none))
    by_event (SetProposal v p) none = absurd (false≢true (sym none))
    by_event (Verified v) none = absurd (false≢true (sym none))
    by_event (VerificationFailed v reason now) none = absurd (false≢true (sym none))
    by_event Prune none = absurd (false≢true (sym none))
    by_event _ none = record { note = refl; answer = refl; other = none; prune = refl; placed = λ v p is. absurd cc }

pub found_apart : {K L D : Type 0} (x : StateFacts K L D) (w v : ℕ) (r : RoundFacts K D) → w ≢ v
    → find nat_cmp w (put nat_cmp v r x.rounds) ≡ find nat_cmp w x.rounds
found_apart x w v r apart = find-put nat_cmp nat_cmp_total w v r x.rounds
    ∙ ap (λ b. cond b (Some r) (find nat_cmp w x.rounds)) (is_eq-nat_cmp w v ∙ ne_eqb w v apart)

pub above_put : {K L D : Type 0} (base : ℕ) (x : StateFacts K L D) (v : ℕ) (r : RoundFacts K D) → base ≤ v
    → Above base x → Above base (with_round x v r)
above_put base x v r over above w tracked = elim (cases_eq w v) [
  | inl at ↦ subst (λ u. base ≤ u) (sym at) over
  | inr apart ↦ above w (sym (ap is_some (found_apart x w v r apart)) ∙ tracked)
]

-- the views newly in a set
pub among_more : (k u : ℕ) (ks : List ℕ) → Contains (insert_key nat_cmp ks k) u → (k ≡ u) ⊎ Contains ks u
among_more k u [] h = elim (Contains-cases k [] u h) [ inl at ↦ inl at | inr none ↦ absurd (omega (arith, none.1)) ]
among_more k u (x ∷ xs) h = by_order (nat_cmp k x) (among_more k u xs) h
  where
    by_order : (o : Ordering) → (Contains (insert_key nat_cmp xs k) u → (k ≡ u) ⊎ Contains xs u)
        → Contains (match_ordering o (k ∷ x ∷ xs) (x ∷ xs) (x ∷ insert_key nat_cmp xs k)) u
        → (k ≡ u) ⊎ Contains (x ∷ xs) u
    by_order Less behind h = Contains-cases k (x ∷ xs) u h
    by_order Equal behind h = inr h
    by_order Greater behind h = elim (Contains-cases x (insert_key nat_cmp xs k) u h) [
      | inl at ↦ inr (0, omega arith, at)
      | inr rest ↦ elim (behind rest) [ inl at ↦ inl at | inr old ↦ inr (Contains-cons_rest x xs u old) ]
    ]

module _ {K L D : Type 0} (same : D → D → Bool) (elect : Elect L) (begun : StateFacts K L D) (e : Event K D) (base : ℕ)
    (left : IsNoProposalWork e) where
  change_calm : (y : StateFacts K L D) (v : ℕ) (r s : RoundFacts K D) → RoundStep same elect begun e y v r s
      → UnchangedProposal v r s
  change_calm y v r s (step.Led leader none) = calm_led v r leader none
  change_calm y v r s (step.Notarized c says at none) =
      calm_joined v r _ s (slot_in_round v r (after_certificate (same_proposal same) r.slot c.proposal)
      (certificate_calm v same r.slot c.proposal at)) (calm_alike v _ s refl refl refl refl refl)
  change_calm y v r s (step.Finalized c says at none) =
      calm_joined v r _ s (slot_in_round v r (after_certificate (same_proposal same) r.slot c.proposal)
      (certificate_calm v same r.slot c.proposal at)) (calm_alike v _ s refl refl refl refl refl)
  change_calm y v r s (step.NotarizeDecided is may) = calm_decided v r
  change_calm y v r s (step.VotedAgain p binding says at which) = absurd (let none = left.note in cc)
  change_calm y v r s (step.Received p says free) =
      slot_in_round v r (after_vote (same_proposal same) r.slot p) (voted_calm v same r.slot p (left.placed v p says))
  change_calm y v r s (step.Marked is bound free) = absurd (false≢true (sym left.answer ∙ ap is_answer is))
  change_calm y v r s (step.Asked requested) =
      slot_in_round v r _ (record {
        holding = λ p is clear. is;
        empty = λ is. is;
        placed = λ p is. inl is;
        clear = λ is. is;
        requested = λ is. is;
        verified = λ is. is;
      })
  change_calm y v r s (step.Built context payload now is answer at) =
      absurd (false≢true (sym left.other ∙ ap is_other is))
  change_calm y v r s (step.Verifying payload is stands) = absurd (false≢true (sym left.other ∙ ap is_other is))
  change_calm y v r s (step.Unbound answers) = absurd (false≢true (sym left.answer ∙ answers))
  change_calm y v r s _ = calm_alike v r s refl refl refl refl refl

  step_above : (y z : StateFacts K L D) → Step same elect begun e base y z → Above base y → Above base z
  step_above y z s above v tracked = elim (cases_lt v base) [
    | inl below ↦ absurd (false≢true (sym (step_out same elect base begun e y z s v below
        (gone (is_tracked y v) refl below)) ∙ tracked))
    | inr over ↦ over
  ]
    where
      gone : (b : Bool) → is_tracked y v ≡ b → v < base → b ≡ false
      gone true is below = absurd (let over = above v is in omega (arith, over, below))
      gone false is below = refl

  step_covered : (x y z : StateFacts K L D) → Step same elect begun e base y z
      → ((u : ℕ) → Contains y.nullified u → (covers_from u e ≡ true) ⊎ Contains x.nullified u) → (u : ℕ)
      → Contains z.nullified u → (covers_from u e ≡ true) ⊎ Contains x.nullified u
  step_covered x y z (Covers w says) p u h =
      elim (among_more w u y.nullified h)
      [ inl at ↦ inl (subst (λ v. covers_from v e ≡ true) at says) | inr old ↦ p u old ]
  step_covered x y z (Prunes is) p u h = absurd (true≢false (sym is ∙ left.prune))
  step_covered x y z _ p u h = p u h

  step_calm : (x y z : StateFacts K L D) → Step same elect begun e base y z → UnchangedProposalsFrom base e x y
      → UnchangedProposalsFrom base e x z
  step_calm x y z s p = record {
    goes = step_goes same elect begun e base x y z s p.goes;
    above = λ above. step_above y z s (p.above above);
    rounds = λ w. elim (step_round same elect begun e base y z s w) [
      | inl change ↦ calm_joined w _ _ _ (p.rounds w) (change_calm y w _ _ change)
      | inr prunes ↦ absurd (true≢false (sym prunes.0 ∙ left.prune))
    ];
    covered = step_covered x y z s p.covered;
  }

  pub calm_along : (x y : StateFacts K L D) → Path same elect begun e base x y → UnchangedProposalsFrom base e x y
  calm_along x y path = along same elect begun e base (UnchangedProposalsFrom base e x) (step_calm x) x y path
      (record
      { goes = goes_still x; above = λ above. above; rounds = λ v. calm v (round_of x v); covered = λ u h. inr h })

module _ {K L D : Type 0} (same : D → D → Bool) (elect : Elect L) (base : ℕ) (x : StateFacts K L D) where
  pub event_calm : (e : Event K D) → IsNoProposalWork e → base ≤ x.current → AskedFrom base x e
      → UnchangedProposalsFrom base e x (after_event same elect x e)
  event_calm e left reached asked = calm_along same elect x e base left x (after_event same elect x e)
      (event_path same elect base x e reached asked)
