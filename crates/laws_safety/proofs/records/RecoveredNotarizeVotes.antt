-- For `votes_are_lawful`.
-- A state that is made again from a record shows its votes to notarize, and nothing else is open.
use Rattle.std.proofs.Common.{◌≡◌, refl, ap, sym, ◌∙◌, subst, ℕ, ◌+◌, ◌≤◌, ◌<◌, ◌⊎◌, inl, inr, Bool, true, false, not, if◌then◌else◌, nat_lt, List, [], ◌∷◌, Contains, Option, Some, None, arith, is_some}
use Rattle.std.specs.Prelude.{option_and_then, ◌==◌}
use Rattle.std.proofs.lemmas.Bool.{cases_eq, eqb-true, false≢true, ltb-true}
use Rattle.simplex_types.specs.Proposal.{same_proposal}
use Rattle.simplex_types.specs.Certificates.{ProposalFacts, NullificationFacts, Notarized, Nullified, Finalized, ArtifactFacts, NotarizeVote, NullifyVote, FinalizeVote, Verdict, Accepted}
use Rattle.simplex_types.specs.Config.{FloorFacts, Genesis, Finalized as FinalizedFloor}
use Rattle.simplex_types.specs.declared.types.messages.Proposal.{Proposal}
use Rattle.simplex_types.specs.declared.types.messages.Subject.TheVariants as subject
use Rattle.simplex_types.specs.declared.types.window.Terms.{Terms}
use Rattle.simplex_round.specs.Slot.{SlotFacts, holds_or_empty, after_own}
use Rattle.simplex_round.specs.Round.{RoundFacts}
use Rattle.simplex_voter.specs.Facts.{Settings, StateFacts, Elect, new_facts, round_of, with_round}
use Rattle.simplex_voter.specs.Windows.{min_active}
use Rattle.simplex_voter.specs.Leaders.{with_next_view_ready}
use Rattle.simplex_voter.specs.Replay.{bound_again, restored_binding}
use Rattle.simplex_voter.specs.Acceptance.{after_add_notarization, after_add_nullification, after_add_finalization, after_set_floor}
use Rattle.simplex_voter.proofs.Elsewhere.{round_of-with_round}
use Rattle.simplex_record.specs.Entries.{entry_view}
use Rattle.simplex_member.specs.OutstandingWork.{no_outstanding_work}
use Rattle.simplex_record.specs.Recovery.{after_replaying, after_entry, after_kept_entry, after_entries, recovered_state}
use Rattle.laws_safety.specs.Traces.{TraceEvent, Accepts}
use Rattle.laws_safety.proofs.frames.NoLowerViews.{finalization_passes}
use Rattle.laws_safety.proofs.lists.Splits.{Contains-cases, Contains-cons_rest}
use Rattle.simplex_record.proofs.Rounds.{round_put}
use Rattle.laws_safety.proofs.votes.UnchangedProposals.{UnchangedProposalsFrom, IsNoProposalWork, calm_along, event_calm, leaves}
use Rattle.simplex_record.specs.Events as event
use Rattle.simplex_record.specs.Events.{Event, after_event, covers_from}
use Rattle.simplex_record.proofs.Steps.{Still}
use Rattle.simplex_record.proofs.Paths.{asked_of_all, to_prepared}
use Rattle.laws_safety.proofs.votes.Proposals.{Tidy, tidy_calm, opposite}
use Rattle.laws_safety.proofs.votes.NotarizeVotesShown.{NotesStand, RemembersNotes}

-- the proposal held at a view is of it, and a verified one was voted for
pub record RoundRemade {K D : Type 0} (v : ℕ) (r : RoundFacts K D) : Type 0 where
  pub tidy : Tidy false false r
  pub placed : (p : Proposal D) → r.slot.held ≡ Some p → p.round.view ≡ v
  pub worked : r.slot.verified ≡ true → r.notarize_decided ≡ true

-- so at each view, and each nullified view has its nullification in the record
pub record Remade {K L D : Type 0} (copy : List (ArtifactFacts D)) (x : StateFacts K L D) : Type 0 where
  pub rounds : (v : ℕ) → RoundRemade v (round_of x v)
  pub covered : (u : ℕ) → Contains x.nullified u
      → (c : NullificationFacts) × Contains copy (Accepted (Nullified c)) × (c.round.view ≡ u)

-- the invariant of each entry that is taken again
pub record Remakes {K L D : Type 0} (copy : List (ArtifactFacts D)) (x y : StateFacts K L D) : Type 0 where
  pub finalized : x.finalized ≤ y.finalized
  pub decided : (v : ℕ) → (round_of x v).notarize_decided ≡ true → (round_of y v).notarize_decided ≡ true
  pub made : Remade copy x → Remade copy y

-- a vote that is taken again

module _ {D : Type 0} (same : D → D → Bool) (s : SlotFacts D) (p : Proposal D) where
  abbrev own_slot : SlotFacts D
  own_slot = after_own (same_proposal same) s p

  abbrev slot_taken_over : Bool → SlotFacts D
  slot_taken_over b = if b then record {
    held = Some p;
    conflict = s.conflict;
    verified = not s.conflict;
    build_requested = true;
    verify_requested = true;
  } else s

  own_requested : (s.verified ≡ true → s.verify_requested ≡ true) → own_slot.verified ≡ true
      → own_slot.verify_requested ≡ true
  own_requested old = elim (holds_or_empty (same_proposal same) s p) as
      (λ b. (slot_taken_over b).verified ≡ true → (slot_taken_over b).verify_requested ≡ true)
      [ true ↦ λ is. refl | false ↦ old ]

  own_held : (s.held ≡ None → s.verified ≡ false) → own_slot.held ≡ None → own_slot.verified ≡ false
  own_held old = elim (holds_or_empty (same_proposal same) s p) as
      (λ b. (slot_taken_over b).held ≡ None → (slot_taken_over b).verified ≡ false)
      [ true ↦ λ none. absurd (cc) | false ↦ old ]

  own_placed : (q : Proposal D) → own_slot.held ≡ Some q → (s.held ≡ Some q) ⊎ (p ≡ q)
  own_placed q = elim (holds_or_empty (same_proposal same) s p) as
      (λ b. (slot_taken_over b).held ≡ Some q → (s.held ≡ Some q) ⊎ (p ≡ q))
      [ true ↦ λ is. inr (cc) | false ↦ λ is. inl is ]

module _ {K D : Type 0} where
  -- the basis of a vote is only its slot
  voted_remade : (v : ℕ) (r : RoundFacts K D) → (r.slot.verified ≡ true → r.slot.verify_requested ≡ true)
      → (r.slot.held ≡ None → r.slot.verified ≡ false) → ((p : Proposal D) → r.slot.held ≡ Some p → p.round.view ≡ v)
      → r.notarize_decided ≡ true → RoundRemade v r
  voted_remade v r requested held placed voted = record {
    tidy = record {
      bound = λ is clear un. absurd (opposite r.notarize_decided voted un);
      verifying_bound = λ is. absurd (false≢true is);
      verifying_other = λ is. absurd (false≢true is);
      verifying_unmarked = λ is. absurd (false≢true is);
      verified_requested = requested;
      verified_held = λ none. (held none, refl);
      opened_led = λ is. absurd (false≢true is);
    };
    placed = placed;
    worked = λ is. voted;
  }

  bound_remade : (v : ℕ) (r : RoundFacts K D) (binding : Option (Proposal D × D))
      → (r.slot.verified ≡ true → r.slot.verify_requested ≡ true) → (r.slot.held ≡ None → r.slot.verified ≡ false)
      → ((p : Proposal D) → r.slot.held ≡ Some p → p.round.view ≡ v) → r.notarize_decided ≡ true
      → RoundRemade v (bound_again r binding)
  bound_remade v r None requested held placed voted = voted_remade v r requested held placed voted
  bound_remade v r (Some bound) requested held placed voted =
      voted_remade v (record r { binding = Some bound }) requested held placed voted

  bound_decided : (r : RoundFacts K D) (binding : Option (Proposal D × D))
      → (bound_again r binding).notarize_decided ≡ r.notarize_decided
  bound_decided r None = refl
  bound_decided r (Some bound) = refl

  own_remade : (same : D → D → Bool) (r : RoundFacts K D) (p : Proposal D) (binding : Option (Proposal D × D))
      → RoundRemade p.round.view r → RoundRemade p.round.view
      (bound_again (record r { slot = after_own (same_proposal same) r.slot p; notarize_decided = true }) binding)
  own_remade same r p binding old =
      bound_remade p.round.view (record r { slot = after_own (same_proposal same) r.slot p; notarize_decided = true })
      binding
      (own_requested same r.slot p old.tidy.verified_requested)
      (own_held same r.slot p (λ none. (old.tidy.verified_held none).0))
      (λ q is. elim (own_placed same r.slot p q is)
      [ inl before ↦ old.placed q before | inr here ↦ ap (λ (t : Proposal D). t.round.view) (sym here) ])
      refl

-- changes of a state

module _ {K L D : Type 0} (copy : List (ArtifactFacts D)) where
  remakes_joined : (x y z : StateFacts K L D) → Remakes copy x y → Remakes copy y z → Remakes copy x z
  remakes_joined x y z p q = record {
    finalized = omega (arith, p.finalized, q.finalized);
    decided = λ v is. q.decided v (p.decided v is);
    made = λ m. q.made (p.made m);
  }

  remakes_same : (x : StateFacts K L D) → Remakes copy x x
  remakes_same x = record { finalized = omega arith; decided = λ v is. is; made = λ m. m }

  remakes_calm : (e : Event K D) (x y : StateFacts K L D)
      → ((u : ℕ) → covers_from u e ≡ true → (c : NullificationFacts) × Contains copy (Accepted (Nullified c))
      × (c.round.view ≡ u)) → UnchangedProposalsFrom 0 e x y → Remakes copy x y
  remakes_calm e x y recorded left = record {
    finalized = left.goes.finalized;
    decided = λ v. (left.rounds v).grown.decided;
    made = λ m. record {
      rounds = λ v. record {
        tidy = tidy_calm v false false false false (round_of x v) (round_of y v) (left.rounds v) (λ is. is) (λ is. is)
            (m.rounds v).tidy;
        placed = λ p is. elim ((left.rounds v).grown.placed p is)
            [ inl before ↦ (m.rounds v).placed p before | inr here ↦ here ];
        worked = λ is. (left.rounds v).grown.decided ((m.rounds v).worked ((left.rounds v).verified is));
      };
      covered = λ u h. elim (left.covered u h) [ inl new ↦ recorded u new | inr old ↦ m.covered u old ];
    };
  }

  remakes_put : (x : StateFacts K L D) (v : ℕ) (r : RoundFacts K D) → r.notarize_decided ≡ true
      → (RoundRemade v (round_of x v) → RoundRemade v r) → Remakes copy x (with_round x v r)
  remakes_put x v r voted remade = record {
    finalized = omega arith;
    decided = λ w is. elim (cases_eq w v) [
      | inl at ↦ subst (λ u. (round_of (with_round x v r) u).notarize_decided ≡ true) (sym at)
          (ap (λ (s : RoundFacts K D). s.notarize_decided) (round_put x v r) ∙ voted)
      | inr apart ↦ ap (λ (s : RoundFacts K D). s.notarize_decided) (round_of-with_round x w v apart r) ∙ is
    ];
    made = λ m. record {
      rounds = λ w. elim (cases_eq w v) [
        | inl at ↦ subst (λ u. RoundRemade u (round_of (with_round x v r) u)) (sym at)
            (subst (λ s. RoundRemade v s) (sym (round_put x v r)) (remade (m.rounds v)))
        | inr apart ↦ subst (λ s. RoundRemade w s) (sym (round_of-with_round x w v apart r)) (m.rounds w)
      ];
      covered = m.covered;
    };
  }

-- entries that are taken again

module _ {K L D : Type 0} (same : D → D → Bool) (elect : Elect L) (now : ℕ) (copy : List (ArtifactFacts D)) where
  module _ (x : StateFacts K L D) where
    -- the round of a vote that is taken again
    abbrev own_round_again : Proposal D → RoundFacts K D
    own_round_again p = bound_again (record (round_of x p.round.view)
        { slot = after_own (same_proposal same) (round_of x p.round.view).slot p; notarize_decided = true })
        (option_and_then (restored_binding x) (Some p))

    voted_again : (p : Proposal D) → (own_round_again p).notarize_decided ≡ true
    voted_again p = bound_decided (record (round_of x p.round.view)
        { slot = after_own (same_proposal same) (round_of x p.round.view).slot p; notarize_decided = true })
        (option_and_then (restored_binding x) (Some p))

    remakes_vote : (p : Proposal D) (m : ℕ) → Remakes copy x (after_entry same elect x now (NotarizeVote p m))
    remakes_vote p m =
        let v = p.round.view in
        let y = with_round x v (own_round_again p) in
        remakes_joined copy x y (with_next_view_ready elect y v)
        (remakes_put copy x v (own_round_again p) (voted_again p)
        (own_remade same (round_of x v) p (option_and_then (restored_binding x) (Some p))))
        (remakes_calm copy event.CertifyCandidates y (with_next_view_ready elect y v) (λ u is. absurd (false≢true is))
        (calm_along same elect y event.CertifyCandidates 0 (leaves refl) y (with_next_view_ready elect y v)
        (to_prepared v (omega arith) Still)))

    noted_again : (p : Proposal D) (m : ℕ)
        → (round_of (after_entry same elect x now (NotarizeVote p m)) p.round.view).notarize_decided ≡ true
    noted_again p m =
        let v = p.round.view in
        let y = with_round x v (own_round_again p) in
        ((calm_along same elect y event.CertifyCandidates 0 (leaves refl) y (with_next_view_ready elect y v)
        (to_prepared v (omega arith) Still)).rounds v).grown.decided
        (ap (λ (s : RoundFacts K D). s.notarize_decided) (round_put x v (own_round_again p)) ∙ voted_again p)

    remakes_event : (y : StateFacts K L D) (e : Event K D) → IsNoProposalWork e
        → ((u : ℕ) → covers_from u e ≡ true → (c : NullificationFacts) × Contains copy (Accepted (Nullified c))
        × (c.round.view ≡ u)) → Remakes copy y (after_event same elect y e)
    remakes_event y e leaves recorded = remakes_calm copy e y (after_event same elect y e) recorded
        (event_calm same elect 0 y e leaves (omega arith) (asked_of_all y e))

    retaken_remakes : (e : ArtifactFacts D) → Contains copy e → Remakes copy x (after_entry same elect x now e)
    retaken_remakes (NotarizeVote p m) here = remakes_vote p m
    retaken_remakes (NullifyVote round m) here =
        remakes_event x (event.Replay (NullifyVote round m)) (leaves refl) (λ u is. absurd (false≢true is))
    retaken_remakes (FinalizeVote p m) here =
        remakes_event x (event.Replay (FinalizeVote p m)) (leaves refl) (λ u is. absurd (false≢true is))
    retaken_remakes (Verdict round success) here =
        let y = after_replaying same elect x (Verdict round success) in
        remakes_joined copy x y _ (remakes_event x (event.Replay (Verdict round success)) (leaves refl)
        (λ u is. absurd (false≢true is)))
        (remakes_event y (event.Certified round.view success now) (leaves refl) (λ u is. absurd (false≢true is)))
    retaken_remakes (Accepted (Notarized c)) here =
        let y = after_add_notarization same elect x c in
        remakes_joined copy x y _ (remakes_event x (event.AddNotarization c) (leaves refl)
        (λ u is. absurd (false≢true is)))
        (remakes_event y (event.Replay (Accepted (Notarized c))) (leaves refl) (λ u is. absurd (false≢true is)))
    retaken_remakes (Accepted (Nullified c)) here =
        let y = after_add_nullification elect x c now in
        let recorded : (u : ℕ) → (u == c.round.view) ≡ true
        → (d : NullificationFacts) × Contains copy (Accepted (Nullified d)) × (d.round.view ≡ u) =
        λ u is. (c, here, sym (eqb-true u c.round.view is)) in
        remakes_joined copy x y _ (remakes_event x (event.AddNullification c now) (leaves refl) recorded)
        (remakes_event y (event.Replay (Accepted (Nullified c))) (leaves refl) recorded)
    retaken_remakes (Accepted (Finalized c)) here =
        let y = after_add_finalization same elect x c now in
        remakes_joined copy x y _ (remakes_event x (event.AddFinalization c now) (leaves refl)
        (λ u is. absurd (false≢true is)))
        (remakes_event y (event.Replay (Accepted (Finalized c))) (leaves refl) (λ u is. absurd (false≢true is)))

  -- an entry is taken again, or skipped

  taken_remakes : (x : StateFacts K L D) (e : ArtifactFacts D) → Contains copy e
      → Remakes copy x (after_kept_entry same elect x now e)
  unfolding after_kept_entry
  taken_remakes x e here = elim (nat_lt (entry_view e) (min_active x)) as
      (λ b. Remakes copy x (if b then x else after_entry same elect x now e)) [
        | true ↦ remakes_same copy x
        | false ↦ retaken_remakes x e here
      ]

  taken_noted : (x : StateFacts K L D) (p : Proposal D) (m : ℕ)
      → ((round_of (after_kept_entry same elect x now (NotarizeVote p m)) p.round.view).notarize_decided ≡ true)
      ⊎ (p.round.view ≤ (after_kept_entry same elect x now (NotarizeVote p m)).finalized)
  unfolding after_kept_entry
  taken_noted x p m = by_view (nat_lt p.round.view (min_active x)) refl
    where
      by_view : (b : Bool) → nat_lt p.round.view (min_active x) ≡ b
          → ((round_of (if b then x else after_entry same elect x now (NotarizeVote p m)) p.round.view).notarize_decided
          ≡ true) ⊎ (p.round.view ≤ (if b then x else after_entry same elect x now (NotarizeVote p m)).finalized)
      by_view true is = inr (omega (arith, ltb-true p.round.view (min_active x) is))
      by_view false is = inl (noted_again x p m)

  taken_reaches : (x : StateFacts K L D) (c : ProposalFacts D)
      → c.proposal.round.view ≤ (after_kept_entry same elect x now (Accepted (Finalized c))).finalized
  unfolding after_kept_entry
  taken_reaches x c = by_view (nat_lt c.proposal.round.view (min_active x)) refl
    where
      by_view : (b : Bool) → nat_lt c.proposal.round.view (min_active x) ≡ b
          → c.proposal.round.view ≤ (if b then x else after_entry same elect x now (Accepted (Finalized c))).finalized
      by_view true is = omega (arith, ltb-true c.proposal.round.view (min_active x) is)
      by_view false is = finalization_passes same elect x now c

  -- all entries

  all_remake : (rest : List (ArtifactFacts D)) (x : StateFacts K L D)
      → ((e : ArtifactFacts D) → Contains rest e → Contains copy e)
      → Remakes copy x (after_entries same elect x now rest)
  all_remake [] x all = remakes_same copy x
  all_remake (e ∷ rest) x all =
      let y = after_kept_entry same elect x now e in
      remakes_joined copy x y (after_entries same elect y now rest) (taken_remakes x e (all e (0, omega arith, refl)))
      (all_remake rest y (λ f h. all f (Contains-cons_rest e rest f h)))

  all_noted : (rest : List (ArtifactFacts D)) (x : StateFacts K L D)
      → ((e : ArtifactFacts D) → Contains rest e → Contains copy e) → (p : Proposal D) (m : ℕ)
      → Contains rest (NotarizeVote p m) → ((round_of (after_entries same elect x now rest)
      p.round.view).notarize_decided ≡ true) ⊎ (p.round.view ≤ (after_entries same elect x now rest).finalized)
  all_noted [] x all p m h = absurd (omega (arith, h.1))
  all_noted (e ∷ rest) x all p m h =
      let y = after_kept_entry same elect x now e in
      let later = all_remake rest y (λ f there. all f (Contains-cons_rest e rest f there)) in
      elim (Contains-cases e rest (NotarizeVote p m) h) [
        | inr behind ↦ all_noted rest y (λ f there. all f (Contains-cons_rest e rest f there)) p m behind
        | inl here ↦ elim (subst (λ f. ((round_of (after_kept_entry same elect x now f) p.round.view).notarize_decided
            ≡ true) ⊎ (p.round.view ≤ (after_kept_entry same elect x now f).finalized)) (sym here)
            (taken_noted x p m)) [
              | inl is ↦ inl (later.decided p.round.view is)
              | inr below ↦ inr (omega (arith, below, later.finalized))
            ]
      ]

  all_reach : (rest : List (ArtifactFacts D)) (x : StateFacts K L D)
      → ((e : ArtifactFacts D) → Contains rest e → Contains copy e) → (c : ProposalFacts D)
      → Contains rest (Accepted (Finalized c)) → c.proposal.round.view ≤ (after_entries same elect x now rest).finalized
  all_reach [] x all c h = absurd (omega (arith, h.1))
  all_reach (e ∷ rest) x all c h =
      let y = after_kept_entry same elect x now e in
      let later = all_remake rest y (λ f there. all f (Contains-cons_rest e rest f there)) in
      elim (Contains-cases e rest (Accepted (Finalized c)) h) [
        | inr behind ↦ all_reach rest y (λ f there. all f (Contains-cons_rest e rest f there)) c behind
        | inl here ↦
            (let reached = subst (λ f. c.proposal.round.view ≤ (after_kept_entry same elect x now f).finalized)
            (sym here) (taken_reaches x c) in
            omega (arith, reached, later.finalized))
      ]

  -- the floor

  floor_remakes : (x : StateFacts K L D) (floor : FloorFacts D)
      → Remakes copy x (after_set_floor same elect x floor now)
  floor_remakes x (Genesis payload) = remakes_event x x (event.SetFloor (Genesis payload) now) (leaves refl)
      (λ u is. absurd (false≢true is))
  floor_remakes x (FinalizedFloor c) = remakes_event x x (event.SetFloor (FinalizedFloor c) now) (leaves refl)
      (λ u is. absurd (false≢true is))

module _ {K L D : Type 0} (same : D → D → Bool) (elect : Elect L) (settings : Settings) (me : Option ℕ)
    (members : List K) (elector : L) (terms : Terms) (early : Bool) where
  abbrev pub made_again : FloorFacts D → ℕ → List (ArtifactFacts D) → StateFacts K L D
  made_again floor now copy = recovered_state same elect (new_facts settings me members elector terms early) floor now
      copy

  fresh_remade : (copy : List (ArtifactFacts D))
      → Remade copy (new_facts {K = K} {L = L} {D = D} settings me members elector terms early)
  fresh_remade copy = record {
    rounds = λ v. record {
      tidy = record {
        bound = λ is. absurd (false≢true is);
        verifying_bound = λ is. absurd (false≢true is);
        verifying_other = λ is. absurd (false≢true is);
        verifying_unmarked = λ is. absurd (false≢true is);
        verified_requested = λ is. absurd (false≢true is);
        verified_held = λ none. (refl, refl);
        opened_led = λ is. absurd (false≢true is);
      };
      placed = λ p is. absurd (cc);
      worked = λ is. absurd (false≢true is);
    };
    covered = λ u h. absurd (omega (arith, h.1));
  }

  -- the votes to notarize that were cast above the finalized view are decided
  pub recovered_notes : (trace : List (TraceEvent D)) (kept : ℕ) (copy : List (ArtifactFacts D)) (floor : FloorFacts D)
      (now : ℕ) → RemembersNotes trace kept copy
      → ((c : NullificationFacts) → Contains copy (Accepted (Nullified c))
      → Contains trace (Accepts (subject.Nullify c.round)))
      → (kept ≡ 0) ⊎ ((c : ProposalFacts D) × Contains copy (Accepted (Finalized c)) × (kept ≤ c.proposal.round.view))
      → (made_again floor now copy).finalized < (made_again floor now copy).current
      → NotesStand 0 ((made_again floor now copy).finalized + 1) trace no_outstanding_work (made_again floor now copy)
  unfolding recovered_state
  recovered_notes trace kept copy floor now remembers accepted high ahead = record {
    above = λ v tracked. omega arith;
    active = omega arith;
    reached = omega (arith, ahead);
    tidy = λ v over. (remade.rounds v).tidy;
    placed = λ v. (remade.rounds v).placed;
    worked = λ v is un. absurd
        (opposite (round_of (after_entries same elect z now copy) v).notarize_decided ((remade.rounds v).worked is) un);
    verifying_low = λ v is. absurd (false≢true is);
    context_low = λ v is. absurd (false≢true is);
    contexts_placed = λ v c is. absurd (false≢true (ap is_some is));
    voted = λ p h above over. elim (remembers.noted p h) [
      | inl e ↦ elim (all_noted same elect now copy copy z (λ f there. there) p e.0 e.1) [
        | inl is ↦ is
        | inr below ↦ absurd (omega (arith, below, above))
      ]
      | inr below ↦ elim high [
        | inl none ↦ absurd (omega (arith, below, none))
        | inr c ↦
            absurd (omega (arith, below, above, c.2, all_reach same elect now copy copy z (λ f there. there) c.0 c.1))
      ]
    ];
    covered = λ u h. (let c = remade.covered u h in (c.0.round, accepted c.0 c.1, c.2));
  }
    where
      z : StateFacts K L D
      z = after_set_floor same elect (new_facts settings me members elector terms early) floor now

      remade : Remade copy (after_entries same elect z now copy)
      remade = (all_remake same elect now copy copy z (λ f there. there)).made
          ((floor_remakes same elect now copy (new_facts settings me members elector terms early) floor).made
          (fresh_remade copy))
