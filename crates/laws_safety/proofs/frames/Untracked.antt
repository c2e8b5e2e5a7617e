-- Where no view below some other is tracked, none comes to be: with each event and each call.
use Rattle.std.proofs.Common.{◌≡◌, ◌≢◌, refl, ap, sym, ◌∙◌, subst, ℕ, ◌<◌, ◌≤◌, inl, inr, Bool, true, false, ◌&&◌, cond, if◌then◌else◌, nat_lt, nat_le, List, [], ◌∷◌, Contains, Some, None, is_some, arith}
use Rattle.std.specs.Prelude.{map, filter, ◌==◌}
use Rattle.std.specs.Ordering.{nat_cmp}
use Rattle.std.specs.Cmp.{nat_cmp_total}
use Rattle.std.specs.FinMap.Entries.{find, find-put}
use Rattle.std.proofs.lemmas.Bool.{cases_eq, cases_lt, ne_eqb, false≢true, true≢false, eqb-true}
use Rattle.std.proofs.lemmas.Bool.Decides.{nat_tests}
use Rattle.simplex_view_maps.proofs.Gaps.{next_above}
use Rattle.simplex_view_maps.proofs.Maps.{is_eq-nat_cmp}
use Rattle.simplex_types.specs.Certificates.{ArtifactFacts, NotarizeVote, Accepted, Notarized}
use Rattle.simplex_types.specs.Config.{Genesis, Finalized as FinalizedFloor}
use Rattle.simplex_types.specs.declared.types.numbers.Round.{Round}
use Rattle.simplex_round.specs.Round.{RoundFacts}
use Rattle.simplex_voter.specs.Facts.{StateFacts, Elect, round_at, is_tracked, with_round}
use Rattle.simplex_voter.specs.Windows.{min_active, admits_certificate}
use Rattle.simplex_voter.specs.Certification.{without_token}
use Rattle.simplex_voter.specs.Refusals.{takes_round, is_started}
use Rattle.simplex_voter.specs.Verification.{scan_left}
use Rattle.simplex_voter.specs.Replay.{artifact_round}
use Rattle.simplex_voter.specs.StateAnswers.{prune_answer}
use Rattle.simplex_voter.proofs.Gaps.{and_parts}
use Rattle.simplex_member.specs.CallConditions.{is_allowed}
use Rattle.simplex_member.specs.Calls.{CallFacts, Prune, Dropped}
use Rattle.simplex_record.specs.Entries.{entry_view}
use Rattle.simplex_member.specs.CallSemantics.{answer, after_call}
use Rattle.simplex_member.specs.OutstandingWork.{OutstandingWork}
use Rattle.simplex_record.specs.Recovery.{as_artifact}
use Rattle.simplex_record.specs.Events as event
use Rattle.simplex_record.specs.Events.{Event, IsEvent, after_event, is_prune}
use Rattle.laws_safety.proofs.frames.CallsMake.{call_by_event}
use Rattle.laws_safety.proofs.frames.EachRound.{pruned_view}
use Rattle.simplex_record.proofs.Paths.{AskedFrom, event_path}
use Rattle.simplex_record.proofs.Rounds.{tracked_changed}
use Rattle.laws_safety.proofs.lists.Splits.{Contains-cases}
use Rattle.simplex_record.proofs.Steps.{Step, Puts, Raises, Scans, Prunes, along}

-- no view below this one is tracked
pub record IsClear {K L D : Type 0} (low : ℕ) (x : StateFacts K L D) : Type 0 where
  pub views : (v : ℕ) → v < low → is_tracked x v ≡ false

module _ {K L D : Type 0} (same : D → D → Bool) (elect : Elect L) (low : ℕ) (x : StateFacts K L D) (e : Event K D) where
  put_out : (y : StateFacts K L D) (u : ℕ) (r : RoundFacts K D) (v : ℕ) → v ≢ u → is_tracked y v ≡ false
      → is_tracked (with_round y u r) v ≡ false
  put_out y u r v apart gone = ap is_some (find-put nat_cmp nat_cmp_total v u r y.rounds
      ∙ ap (λ b. cond b (Some r) (find nat_cmp v y.rounds)) (is_eq-nat_cmp v u ∙ ne_eqb v u apart)) ∙ gone

  -- a view below `low` that isn't tracked stays so
  pub step_out : (y z : StateFacts K L D) → Step same elect x e low y z → (v : ℕ) → v < low → is_tracked y v ≡ false
      → is_tracked z v ≡ false
  step_out y z (Puts u r may s) v below gone = elim (cases_eq v u) [
    | inl at ↦ elim may
        [ inl over ↦ absurd (omega arith) | inr there ↦ absurd (false≢true (sym gone ∙ ap (is_tracked y) at ∙ there)) ]
    | inr apart ↦ put_out y u r v apart gone
  ]
  step_out y z (Raises u says above) v below gone =
      tracked_changed (λ w r. if nat_le w u then without_token r else r) y v ∙ gone
  step_out y z (Scans is) v below gone = tracked_changed (scan_left same elect x) y v ∙ gone
  step_out y z (Prunes is) v below gone = ap is_some (pruned_view y v) ∙ left (nat_le (min_active y) v)
    where
      left : (b : Bool) → is_some (cond b (round_at y v) None) ≡ false
      left true = gone
      left false = refl
  step_out y z _ v below gone = gone

  pub clear_along : low ≤ x.current → AskedFrom low x e → IsClear low x → IsClear low (after_event same elect x e)
  clear_along reached asked clear =
      along same elect x e low (IsClear low) (λ y z s clear.
      record { views = λ v below. step_out y z s v below (clear.views v below) }) x (after_event same elect x e)
      (event_path same elect low x e reached asked) clear

-- the requirements of a call in a lifetime

module _ {K L D : Type 0} (x : StateFacts K L D) where
  pub kept_view : (round : Round) → takes_round x round ≡ true → (1 ≤ round.view) × (min_active x ≤ round.view)
  kept_view round takes =
      let admitted =
      (and_parts (is_started x && round.epoch == x.settings.epoch) (admits_certificate x round.view) takes).1 in
      let parts = and_parts (nat_le 1 round.view) (nat_le (min_active x) round.view) admitted in
      let one : nat_le 1 round.view ≡ true = parts.0 in
      let kept : nat_le (min_active x) round.view ≡ true = parts.1 in
      (grind (arith, nat_tests, one), grind (arith, nat_tests, kept))

module _ {K L D : Type 0} (x : StateFacts K L D) where
  kept_entry : (e : ArtifactFacts D) → takes_round x (artifact_round (as_artifact {K = K} e)) ≡ true
      → min_active x ≤ entry_view e
  kept_entry (NotarizeVote p m) takes = (kept_view x p.round takes).1
  kept_entry (Accepted (Notarized c)) takes = (kept_view x c.proposal.round takes).1
  kept_entry _ takes = (kept_view x _ takes).1

  pub asked_in_life : (low : ℕ) (e : Event K D) → low ≤ min_active x → low ≤ x.current → 0 < x.terms.term_length
      → IsClear low x → IsEvent x e → AskedFrom low x e
  asked_in_life low (event.SetFloor (Genesis payload) now) under reached some clear takes =
      (let new = eqb-true x.current 0 takes in omega (arith, new, reached))
  asked_in_life low (event.SetFloor (FinalizedFloor c) now) under reached some clear takes =
      (let new = eqb-true x.current 0 (and_parts _ _ (and_parts _ _ takes).0).0 in omega (arith, new, reached))
  asked_in_life low (event.AddNotarization c) under reached some clear takes =
      (let kept = kept_view x c.proposal.round takes in omega (arith, kept.1, under))
  asked_in_life low (event.AddNullification c now) under reached some clear takes =
      let kept = kept_view x c.round takes in
      let above = next_above x.terms.term_length c.round.view some kept.0 in
      (omega (arith, kept.1, under), omega (arith, kept.1, under, above))
  asked_in_life low (event.AddFinalization c now) under reached some clear takes =
      (let kept = kept_view x c.proposal.round takes in omega (arith, kept.1, under))
  asked_in_life low (event.ConstructNotarize v) under reached some clear takes =
      λ there.
      (elim (cases_lt v low) [ inl below ↦ absurd (true≢false (sym there ∙ clear.views v below)) | inr over ↦ over ])
  asked_in_life low (event.SetProposal v p) under reached some clear takes =
      let parts = and_parts (takes_round x p.round) _ takes in
      let kept = kept_view x p.round parts.0 in
      let at : p.round.view ≡ v = eqb-true p.round.view v parts.1 in
      omega (arith, kept.1, under, at)
  asked_in_life low (event.Replay e) under reached some clear takes =
      (let kept = kept_entry e takes.kept in omega (arith, kept, under))
  asked_in_life low _ under reached some clear takes = tt

module _ {K L D : Type 0} (same : D → D → Bool) (elect : Elect L) (low : ℕ) (x : StateFacts K L D)
    (under : low ≤ min_active x) (reached : low ≤ x.current) (some : 0 < x.terms.term_length)
    (clear : IsClear low x) where
  pub event_clear : (e : Event K D) → IsEvent x e → IsClear low (after_event same elect x e)
  event_clear e takes = clear_along same elect low x e reached (asked_in_life x low e under reached some clear takes)
      clear

  pub call_clear : (o : OutstandingWork K D) (call : CallFacts D) → is_allowed x o call ≡ true
      → IsClear low (after_call same elect x o call)
  call_clear o call allowed = call_by_event same elect x o (λ es y. IsClear low y) clear
      (λ e takes none. event_clear e takes) call allowed

-- prunes

-- a key among those that pass a test passes it
key_passes : {V : Type 0} (test : ℕ → Bool) (v : ℕ) (es : List (ℕ × V))
    → Contains (map (λ e. e.0) (filter (λ e. test e.0) es)) v → test v ≡ true
key_passes test v [] h = absurd (omega (arith, h.1))
key_passes test v (e ∷ es) h =
    (elim (test e.0) as (λ (b : Bool). test e.0 ≡ b
    → Contains (map (λ f. f.0) (if b then e ∷ filter (λ f. test f.0) es else filter (λ f. test f.0) es)) v
    → test v ≡ true) [
      | true ↦ λ passes g. (elim (Contains-cases e.0 (map (λ f. f.0) (filter (λ f. test f.0) es)) v g) [
        | inl here ↦ sym (ap test here) ∙ passes
        | inr later ↦ key_passes test v es later
      ])
      | false ↦ λ fails g. key_passes test v es g
    ]) refl h

module _ {K L D : Type 0} (same : D → D → Bool) (elect : Elect L) (x : StateFacts K L D) where
  -- the views that an event drops
  pub event_dropped : (e : Event K D) (v : ℕ) → v < (if is_prune e then min_active x else 0)
      → is_tracked (after_event same elect x e) v ≡ false
  event_dropped event.Prune v below = (let test : nat_le (min_active x) v ≡ false = grind (arith, nat_tests) in
      ap is_some (pruned_view x v ∙ ap (λ b. cond b (round_at x v) None) test))
  event_dropped _ v below = absurd (omega (arith, below))

  -- only the reply of a prune has dropped views
  pub call_drops : (o : OutstandingWork K D) (call : CallFacts D) (views : List ℕ) (v : ℕ)
      → answer same elect x o call ≡ Dropped views → Contains views v
      → (v < min_active x) × IsClear (min_active x) (after_call same elect x o call)
  call_drops o Prune views v tells among =
      let same_views : prune_answer x ≡ views = cc in
      let under = key_passes (λ u. nat_lt u (min_active x)) v x.rounds
      (subst (λ vs. Contains vs v) (sym same_views) among) in
      let below : v < min_active x = grind (arith, nat_tests) in
      (below, record { views = λ u under. event_dropped event.Prune u under })
  call_drops o _ views v tells among = absurd (cc)
