-- Once a certificate is added, a vote decided or an entry replayed, the round of its view shows it.
use Rattle.std.proofs.Common.{◌≡◌, refl, ap, ◌∙◌, ℕ, zero, suc, ◌+◌, ◌-◌, ◌<◌, Bool, true, false, not, if◌then◌else◌, nat_lt, min, [], Option, Some, None, is_some, arith}
use Rattle.std.specs.Prelude.{◌==◌, fold}
use Rattle.std.specs.List.{range_with_len}
use Rattle.std.specs.Ordering.{nat_cmp}
use Rattle.std.specs.BTreeSet.{insert_key}
use Rattle.std.specs.Option.{option_map_or}
use Rattle.std.proofs.lemmas.Bool.{true≢false}
use Rattle.simplex_types.specs.Terms.{term_end, next_term_start}
use Rattle.simplex_types.specs.Proposal.{same_proposal}
use Rattle.simplex_types.specs.Certificates.{ProposalFacts, NullificationFacts, ArtifactFacts, NotarizeVote, NullifyVote, FinalizeVote, Verdict, Accepted}
use Rattle.simplex_types.specs.declared.types.messages.Proposal.{Proposal}
use Rattle.simplex_round.specs.declared.round.Leader.{Leader}
use Rattle.simplex_round.specs.declared.round.Decision.{Decision}
use Rattle.simplex_round.specs.declared.round.Decision.TheVariants as decision
use Rattle.simplex_round.specs.Slot.{after_own}
use Rattle.simplex_round.specs.Round.{RoundFacts, is_pending, is_finalize, after_nullify, certified_round, with_nullification, with_finalization}
use Rattle.simplex_voter.specs.Facts.{StateFacts, Elect, round_at, round_of, with_round}
use Rattle.simplex_voter.specs.ViewEntry.{at_moment, with_view_entered}
use Rattle.simplex_voter.specs.Leaders.{with_leader_at, with_leader_of, with_window_leaders, with_elected_leader}
use Rattle.simplex_voter.specs.Certification.{waits_for, named_also, with_waiting_candidate, with_finalized_view}
use Rattle.simplex_voter.specs.Acceptance.{with_notarization_at, with_finalization_at, after_add_notarization, after_add_nullification, after_add_finalization, with_finalization_broadcast}
use Rattle.simplex_voter.specs.Replay.{replayed_sets, bound_again, restored_binding}
use Rattle.simplex_voter.specs.Rules.{may_notarize, may_nullify, may_finalize}
use Rattle.simplex_voter.specs.Votes.{notarize_cast, after_construct_notarize, after_construct_nullify, after_construct_finalize}
use Rattle.simplex_voter.proofs.Elsewhere.{round_of-led}
use Rattle.simplex_record.specs.Recovery.{as_artifact, after_replaying}
use Rattle.simplex_record.specs.Entries.{entry_view}
use Rattle.simplex_record.specs.Events as event
use Rattle.simplex_record.specs.Events.{Event, IsEvent}
use Rattle.simplex_record.proofs.RoundChanges.{notarization_stands}
use Rattle.simplex_record.proofs.Paths.{from_notarized, to_prepared}
use Rattle.simplex_record.proofs.Rounds.{round_put}
use Rattle.simplex_record.proofs.Steps.{Still}
use Rattle.laws_safety.proofs.own_records.ShownEntries.{has_verdict, has_entry, judged_verdict, path_retains}

-- leaders of views above leave a view's round

module _ {K L D : Type 0} (v : ℕ) where
  led_apart : (x : StateFacts K L D) (source to : ℕ) → v < to → round_of (with_leader_of x source to) v ≡ round_of x v
  led_apart x source to above = by_leader (round_of x source).leader
    where
      by_leader : (o : Option (Leader K)) → round_of (option_map_or (λ l. with_leader_at x to l.idx) o x) v ≡ round_of x
          v
      by_leader None = refl
      by_leader (Some l) = round_of-led x v to (λ at. omega (arith, above, at)) l.idx

  slides_apart : (count first : ℕ) (x : StateFacts K L D) → v < first
      → round_of (fold (λ y w. with_leader_of y (w - 1) w) x (range_with_len first count)) v ≡ round_of x v
  slides_apart zero first x above = refl
  slides_apart (suc count) first x above = slides_apart count (first + 1) (with_leader_of x (first - 1) first)
      (omega arith) ∙ led_apart x (first - 1) first above

  slid_apart : (x : StateFacts K L D) → round_of (with_window_leaders x v) v ≡ round_of x v
  slid_apart x = opens (x.terms.optimistic_views == 0)
    where
      opens : (b : Bool) → round_of (fold (λ y w. with_leader_of y (w - 1) w) x
          (if b then [] else range_with_len (v + 1)
          (min (term_end x.terms.term_length v) (v + x.terms.optimistic_views + 1) - v))) v ≡ round_of x v
      opens true = refl
      opens false = slides_apart (min (term_end x.terms.term_length v) (v + x.terms.optimistic_views + 1) - v) (v + 1) x
          (omega arith)

  -- so does a view that waits for certification
  woken_still : (elect : Elect L) (x : StateFacts K L D) (p : ℕ)
      → round_of (with_waiting_candidate elect x p) v ≡ round_of x v
  woken_still elect x p = by_waiting (option_map_or (waits_for elect x p) (round_at x (p + 1)) false)
    where
      by_named : (b : Bool) → round_of (if b then record x { named = insert_key nat_cmp x.named (p + 1) } else x)
          v ≡ round_of x v
      by_named true = refl
      by_named false = refl

      by_waiting : (b : Bool) → round_of (if b then named_also x (p + 1) else x) v ≡ round_of x v
      by_waiting true = by_named (nat_lt x.finalized (p + 1))
      by_waiting false = refl

-- certificates

module _ {K D : Type 0} where
  nullification_kept : (r : RoundFacts K D) (c : NullificationFacts)
      → is_some (with_nullification r c).nullification ≡ true
  nullification_kept r c = by_standing (is_some r.nullification) refl
    where
      by_standing : (b : Bool) → is_some r.nullification ≡ b
          → is_some (if b then r else record r { nullification = Some c }).nullification ≡ true
      by_standing true stands = stands
      by_standing false none = refl

  finalization_kept : (same : Proposal D → Proposal D → Bool) (r : RoundFacts K D) (c : ProposalFacts D)
      → is_some (with_finalization same r c).finalization ≡ true
  finalization_kept same r c = by_standing (is_some r.finalization) refl
    where
      by_standing : (b : Bool) → is_some r.finalization ≡ b → is_some (with_finalization same r c).finalization ≡ true
      by_standing true stands = rw stands stands
      by_standing false none = rw none refl

module _ {K L D : Type 0} (same : D → D → Bool) (elect : Elect L) (x : StateFacts K L D) where
  pub notarization_shown : (c : ProposalFacts D)
      → is_some (round_of (after_add_notarization same elect x c) c.proposal.round.view).notarization ≡ true
  notarization_shown c =
      let v = c.proposal.round.view in
      let y = with_elected_leader elect x (v + 1) (Some c.bytes) in
      let z = with_notarization_at same elect y c in
      let here : is_some (round_of z v).notarization ≡ true =
      ap (λ (r : RoundFacts K D). is_some r.notarization) (round_put y v _)
      ∙ notarization_stands (same_proposal same) (round_of y v) c in
      (path_retains same elect x (event.AddNotarization c) (λ w token is. absurd (cc)) refl z
      (after_add_notarization same elect x c) (from_notarized c (omega arith) Still) v).notarization here

  pub nullification_shown : (c : NullificationFacts) (now : ℕ)
      → is_some (round_of (after_add_nullification elect x c now) c.round.view).nullification ≡ true
  nullification_shown c now =
      let next = next_term_start x.terms.term_length c.round.view in
      let y = with_elected_leader elect (with_view_entered (at_moment x now) next now) next (Some c.bytes) in
      ap (λ (r : RoundFacts K D). is_some r.nullification)
      (round_put y c.round.view (with_nullification (round_of y c.round.view) c))
      ∙ nullification_kept (round_of y c.round.view) c

  pub finalization_shown : (c : ProposalFacts D) (now : ℕ)
      → is_some (round_of (after_add_finalization same elect x c now) c.proposal.round.view).finalization ≡ true
  finalization_shown c now = by_standing (is_some (round_of x v).finalization)
    where
      v : ℕ
      v = c.proposal.round.view

      y : StateFacts K L D
      y = with_elected_leader elect (with_view_entered (with_finalized_view (at_moment x now) v) (v + 1) now) (v + 1)
          (Some c.bytes)

      z : StateFacts K L D
      z = with_finalization_at same elect y c

      here : is_some (round_of z v).finalization ≡ true
      here = ap (λ (r : RoundFacts K D). is_some r.finalization)
          (round_put y v (with_finalization (same_proposal same) (round_of y v) c))
          ∙ finalization_kept (same_proposal same) (round_of y v) c

      by_standing : (b : Bool) → is_some
          (round_of (if b then z else with_window_leaders (with_waiting_candidate elect z v) v) v).finalization ≡ true
      by_standing true = here
      by_standing false = ap (λ (r : RoundFacts K D). is_some r.finalization)
          (slid_apart v (with_waiting_candidate elect z v) ∙ woken_still v elect z v) ∙ here

  pub floor_shown : (c : ProposalFacts D) (now : ℕ)
      → is_some (round_of (with_finalization_broadcast (after_add_finalization same elect x c now)
      c.proposal.round.view) c.proposal.round.view).finalization ≡ true
  floor_shown c now =
      let y = after_add_finalization same elect x c now in
      ap (λ (r : RoundFacts K D). is_some r.finalization) (round_put y c.proposal.round.view _)
      ∙ finalization_shown c now

-- votes

module _ {K D : Type 0} where
  nullify_decided : (r : RoundFacts K D) → not (is_pending (after_nullify r).decision) ≡ true
  nullify_decided r = by_decision r.decision refl
    where
      by_decision : (d : Decision) → r.decision ≡ d
          → not (is_pending (if is_finalize d then r else record r { decision = decision.Nullify None }).decision)
          ≡ true
      by_decision (decision.Pending _ _ _) is = refl
      by_decision (decision.Nullify _) is = refl
      by_decision decision.Finalize is = ap (λ d. not (is_pending d)) is

module _ {K L D : Type 0} (same : D → D → Bool) (elect : Elect L) (x : StateFacts K L D) (v : ℕ) where
  pub nullify_shown : may_nullify x v ≡ true
      → not (is_pending (round_of (after_construct_nullify x v) v).decision) ≡ true
  nullify_shown may = rw may (by_key (is_some x.me))
    where
      y : StateFacts K L D
      y = with_round x v (after_nullify (round_of x v))

      by_key : (b : Bool) → not (is_pending (round_of
          (if b then record y { nullify_votes = insert_key nat_cmp x.nullify_votes v } else y) v).decision) ≡ true
      by_key true = ap (λ (r : RoundFacts K D). not (is_pending r.decision))
          (round_put x v (after_nullify (round_of x v))) ∙ nullify_decided (round_of x v)
      by_key false = ap (λ (r : RoundFacts K D). not (is_pending r.decision))
          (round_put x v (after_nullify (round_of x v))) ∙ nullify_decided (round_of x v)

  pub finalize_shown : may_finalize elect x v ≡ true
      → not (is_pending (round_of (after_construct_finalize elect x v) v).decision) ≡ true
  finalize_shown may = rw may (ap (λ (r : RoundFacts K D). not (is_pending r.decision))
      (round_put x v (record (round_of x v) { decision = decision.Finalize })))

  pub notarize_shown : may_notarize same elect x v ≡ true
      → (round_of (after_construct_notarize same elect x v) v).notarize_decided ≡ true
  notarize_shown may =
      let y = notarize_cast x v in
      let here : (round_of y v).notarize_decided ≡ true =
      ap (λ (r : RoundFacts K D). r.notarize_decided)
      (round_put x v (record (round_of x v) { notarize_decided = true })) in
      rw may ((path_retains same elect x (event.ConstructNotarize v) (λ w token is. absurd (cc)) refl y _
      (to_prepared v (omega arith) Still) v).voted here)

-- what is replayed

-- the entry is a certificate that was accepted
abbrev pub is_accepted : {D : Type 0} → ArtifactFacts D → Bool
is_accepted (Accepted _) = true
is_accepted _ = false

module _ {K L D : Type 0} (same : D → D → Bool) (elect : Elect L) (x : StateFacts K L D) where
  bound_voted : (r : RoundFacts K D) (o : Option (Proposal D × D)) → r.notarize_decided ≡ true
      → (bound_again r o).notarize_decided ≡ true
  bound_voted r None is = is
  bound_voted r (Some b) is = is

  pub vote_replayed : (p : Proposal D) (m : ℕ)
      → (round_of (after_replaying same elect x (NotarizeVote p m)) p.round.view).notarize_decided ≡ true
  vote_replayed p m =
      let v = p.round.view in
      let r : RoundFacts K D = record (round_of x v)
      { slot = after_own (same_proposal same) (round_of x v).slot p; notarize_decided = true } in
      let s = bound_again r (restored_binding x p) in
      let y = with_round x v s in
      let here : (round_of y v).notarize_decided ≡ true =
      ap (λ (r : RoundFacts K D). r.notarize_decided) (round_put x v s)
      ∙ bound_voted r (restored_binding x p) refl in
      (path_retains same elect x (event.Replay (NotarizeVote p m)) (λ w token is. absurd (cc)) refl y
      (after_replaying same elect x (NotarizeVote p m)) (to_prepared v (omega arith) Still) v).voted here

  -- and each entry that is no certificate
  pub replayed_shown : (e : ArtifactFacts D) → is_accepted e ≡ false
      → has_entry (round_of (after_replaying same elect x e) (entry_view e)) e ≡ true
  replayed_shown (NotarizeVote p m) plain = vote_replayed p m
  replayed_shown (NullifyVote round m) plain =
      ap (λ (r : RoundFacts K D). not (is_pending r.decision))
      (round_put (replayed_sets x (as_artifact {K = K} (NullifyVote round m))) round.view
      (record (round_of x round.view) { decision = decision.Nullify None }))
  replayed_shown (FinalizeVote p m) plain =
      ap (λ (r : RoundFacts K D). not (is_pending r.decision))
      (round_put x p.round.view (record (round_of x p.round.view) { decision = decision.Finalize }))
  replayed_shown (Verdict round success) plain =
      ap (λ (r : RoundFacts K D). has_verdict r.certification)
      (round_put x round.view (certified_round (round_of x round.view) success)) ∙ judged_verdict success
  replayed_shown (Accepted c) plain = absurd (true≢false plain)
