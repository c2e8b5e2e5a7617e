-- For the laws by steps: the invariants of each event, and those of a run by them.
-- Each definition of the voter makes primitive changes, and so each event is a path of them.
use Rattle.std.proofs.Common.{◌≡◌, refl, ap, sym, ◌∙◌, ℕ, zero, suc, ◌+◌, ◌-◌, ◌<◌, ◌≤◌, ◌⊎◌, inl, inr, Bool, true, false, ◌&&◌, not, if◌then◌else◌, nat_lt, nat_le, min, List, [], Option, Some, None, is_some, unwrap_or, arith}
use Rattle.std.specs.Prelude.{◌==◌}
use Rattle.std.specs.List.{fold, range_with_len}
use Rattle.std.specs.Option.{option_map_or}
use Rattle.std.proofs.lemmas.Bool.{false≢true, eq-eqb}
use Rattle.std.proofs.lemmas.Bool.Decides.{nat_tests}
use Rattle.simplex_types.specs.Terms.{next_term_start, term_end}
use Rattle.simplex_types.specs.Proposal.{same_proposal}
use Rattle.simplex_types.specs.Certificates.{ProposalFacts, NullificationFacts, ArtifactFacts, NotarizeVote, NullifyVote, FinalizeVote, Verdict, Accepted, Notarized, Nullified, Finalized}
use Rattle.simplex_types.specs.Config.{FloorFacts, Genesis, Finalized as FinalizedFloor}
use Rattle.simplex_types.specs.declared.types.messages.Context.{Context}
use Rattle.simplex_types.specs.declared.types.messages.Proposal.{Proposal}
use Rattle.simplex_types.specs.declared.reasons.TimeoutReason.{TimeoutReason}
use Rattle.simplex_types.specs.declared.reasons.TimeoutReason.TheVariants.{FailedCertification}
use Rattle.simplex_round.specs.declared.round.Leader.{Leader}
use Rattle.simplex_round.specs.declared.round.Decision.TheVariants as decision
use Rattle.simplex_round.specs.declared.round.Decision.{Decision}
use Rattle.simplex_round.specs.Slot.{after_own, after_vote, after_mark, holds_or_empty}
use Rattle.simplex_round.specs.Round.{RoundFacts, new_round, with_decision_deadlines, leader_at, is_nullify, is_finalize, is_pending, is_judged, is_verified_slot, with_latch, with_recovered, with_notarization, awaits_retry, after_nullify}
use Rattle.simplex_voter.specs.Facts.{StateFacts, Elect, round_at, round_of, round_number, is_tracked, with_round, with_tracked}
use Rattle.simplex_voter.specs.Windows.{in_issuance_window}
use Rattle.simplex_voter.specs.Payloads.{is_elected_early}
use Rattle.simplex_voter.specs.ViewEntry.{at_moment, with_view_entered, entered_round}
use Rattle.simplex_voter.specs.Leaders.{has_leader, with_leader_at, with_leader_of, with_window_leaders, with_elected_leader, with_next_view_ready}
use Rattle.simplex_voter.specs.Timeouts.{with_timeout, is_contradicted, round_with_retry}
use Rattle.simplex_voter.specs.Certification.{named_also, with_finalized_view, waits_for, with_waiting_candidate, with_verdict, verdict_taken, after_certified, takes_verdict, takes_certify_handle, after_set_certify_handle}
use Rattle.simplex_voter.specs.Acceptance.{with_notarization_at, with_nullification_at, with_finalization_at, after_add_notarization, after_add_nullification, after_add_finalization, after_set_genesis, after_set_floor}
use Rattle.simplex_voter.specs.Parents.{verification_matches}
use Rattle.simplex_voter.specs.Rules.{may_notarize, may_nullify, may_finalize}
use Rattle.simplex_voter.specs.Votes.{nullify_cast, finalize_cast, after_construct_notarize, after_construct_nullify, after_construct_finalize}
use Rattle.simplex_voter.specs.declared.voter.propose.ProposalRequest.{ProposalRequest}
use Rattle.simplex_voter.specs.ProposalRequests.{request_context, propose_answer, proposed_answer, supersede_answer, context_stands, with_build, proposed_round, proposal_of, after_proposed}
use Rattle.simplex_voter.specs.Verification.{with_mark, without_binding, after_set_proposal}
use Rattle.simplex_voter.specs.Refusals.{is_started}
use Rattle.simplex_voter.specs.Replay.{bound_again, restored_binding}
use Rattle.simplex_voter.proofs.Gaps.{and_parts, not_true}
use Rattle.simplex_voter.proofs.Rules.{notarize_parts, nullify_parts, finalize_parts}
use Rattle.simplex_record.specs.Entries.{entry_view}
use Rattle.simplex_record.specs.Recovery.{after_replaying}
use Rattle.simplex_record.specs.Events.{Event, after_event, SetFloor, AddNotarization, AddNullification, AddFinalization, Certified, ConstructNotarize, ConstructNullify, ConstructFinalize, SetProposal, TryPropose, Proposed, Supersede, Release, TryVerify, Verified, VerificationFailed, CertifyCandidates, SetCertifyHandle, TriggerTimeout, NextTimeout, BroadcastNotarization, BroadcastNullification, BroadcastFinalization, Prune, Replay}
use Rattle.simplex_record.specs.Events.{finalized_by_event}
use Rattle.simplex_record.proofs.Steps as step
use Rattle.simplex_record.proofs.Rounds.{round_put}
use Rattle.simplex_record.proofs.Steps.{is_timed, RoundStep, Path, Still, Then, Puts, Moves, Founds, Names, Unnames, Covers, Notes, Reaches, Raises, Scans, Prunes, notarization_by, nullification_by, finalization_by, nullify_by}

-- a claim that holds of a view's round, and of no new one, is about a tracked view
pub tracked_by : {K L D : Type 0} (x : StateFacts K L D) (v : ℕ) (test : RoundFacts K D → Bool)
    → test (new_round x.me x.members (round_number x v)) ≡ false → test (round_of x v) ≡ true → is_tracked x v ≡ true
tracked_by x v test fails = by_round (round_at x v)
  where
    by_round : (o : Option _) → test (unwrap_or o (new_round x.me x.members (round_number x v))) ≡ true
        → is_some o ≡ true
    by_round None passes = absurd (false≢true (sym fails ∙ passes))
    by_round (Some r) passes = refl

pub armed_timed : (d : Decision) (leader certified : ℕ) → is_timed (with_decision_deadlines d leader certified) ≡ true
armed_timed (decision.Pending leader certified latch) a b = refl
armed_timed (decision.Nullify retry) a b = refl
armed_timed decision.Finalize a b = refl

-- the deadlines of a view are set when it is entered
entered_timed : {K L D : Type 0} (y : StateFacts K L D) (v now : ℕ)
    → is_timed (round_of (with_round y v (entered_round y (round_of y v) now)) v).decision ≡ true
entered_timed y v now =
    ap (λ (r : RoundFacts _ _). is_timed r.decision) (round_put y v (entered_round y (round_of y v) now))
    ∙ armed_timed (round_of y v).decision (now + y.settings.leader_timeout) (now + y.settings.certification_timeout)

-- a view that waits for the one below is notarized, and so is one whose notarization was added
module _ {K L D : Type 0} where
  waiting_notarized : (elect : Elect L) (y : StateFacts K L D) (p : ℕ)
      → option_map_or (waits_for elect y p) (round_at y (p + 1)) false ≡ true
      → is_some (round_of y (p + 1)).notarization ≡ true
  waiting_notarized elect y p = by_round (round_at y (p + 1))
    where
      by_round : (o : Option (RoundFacts K D)) → option_map_or (waits_for elect y p) o false ≡ true
          → is_some (unwrap_or o (new_round y.me y.members (round_number y (p + 1)))).notarization ≡ true
      by_round None waits = absurd (false≢true waits)
      by_round (Some r) waits = (and_parts (is_some r.notarization) _ waits).0

  notarization_stands : (same : D → D → Bool) (elect : Elect L) (y : StateFacts K L D) (c : ProposalFacts D)
      → is_some (round_of (with_notarization_at same elect y c) c.proposal.round.view).notarization ≡ true
  notarization_stands same elect y c =
      let r = round_of y c.proposal.round.view in
      ap (λ (s : RoundFacts K D). is_some s.notarization)
      (round_put y c.proposal.round.view (with_notarization (same_proposal same) r c))
      ∙ by_standing (is_some r.notarization) refl
    where
      by_standing : (b : Bool) → is_some (round_of y c.proposal.round.view).notarization ≡ b
          → is_some (if b then round_of y c.proposal.round.view
          else record (with_recovered (same_proposal same) (round_of y c.proposal.round.view) c.proposal)
          { notarization = Some c }).notarization ≡ true
      by_standing true stands = stands
      by_standing false none = refl

module _ {K L D : Type 0} {same : D → D → Bool} {elect : Elect L} {low : ℕ} {x : StateFacts K L D} {e : Event K D}
    {from : StateFacts K L D} where
  pub either : (b : Bool) (y z : StateFacts K L D) → (b ≡ true → Path same elect x e low from y)
      → (b ≡ false → Path same elect x e low from z) → Path same elect x e low from (if b then y else z)
  either true y z p q = p refl
  either false y z p q = q refl

  -- rounds

  pub put : {y : StateFacts K L D} (v : ℕ) (r : RoundFacts K D) → (low ≤ v) ⊎ (is_tracked y v ≡ true)
      → RoundStep same elect x e y v (round_of y v) r → Path same elect x e low from y
      → Path same elect x e low from (with_round y v r)
  put v r may s path = Then path (Puts v r may s)

  put_either : {y : StateFacts K L D} (v : ℕ) (b : Bool) (r s : RoundFacts K D) → (low ≤ v) ⊎ (is_tracked y v ≡ true)
      → (b ≡ true → RoundStep same elect x e y v (round_of y v) r)
      → (b ≡ false → RoundStep same elect x e y v (round_of y v) s) → Path same elect x e low from y
      → Path same elect x e low from (with_round y v (if b then r else s))
  put_either v true r s may p q path = put v r may (p refl) path
  put_either v false r s may p q path = put v s may (q refl) path

  put_tracked : {y : StateFacts K L D} (v : ℕ) (r : RoundFacts K D) → RoundStep same elect x e y v (round_of y v) r
      → Path same elect x e low from y → Path same elect x e low from (with_tracked y v r)
  put_tracked {y} v r s path = either (is_tracked y v) (with_round y v r) y (λ there. put v r (inr there) s path)
      (λ gone. path)

  put_tracked_either : {y : StateFacts K L D} (v : ℕ) (b : Bool) (r s : RoundFacts K D)
      → (b ≡ true → RoundStep same elect x e y v (round_of y v) r)
      → (b ≡ false → RoundStep same elect x e y v (round_of y v) s) → Path same elect x e low from y
      → Path same elect x e low from (with_tracked y v (if b then r else s))
  put_tracked_either v true r s p q path = put_tracked v r (p refl) path
  put_tracked_either v false r s p q path = put_tracked v s (q refl) path

  -- leaders

  to_led : {y : StateFacts K L D} (v member : ℕ) → low ≤ v → Path same elect x e low from y
      → Path same elect x e low from (with_leader_at y v member)
  to_led {y} v member over path =
      let leader = leader_at y.members member in
      either (has_leader y v) y (with_round y v (record (round_of y v) { leader = leader })) (λ set. path)
      (λ none. put v _ (inl over) (step.Led leader none) path)

  to_inherited : {y : StateFacts K L D} (source to : ℕ) → low ≤ to → Path same elect x e low from y
      → Path same elect x e low from (with_leader_of y source to)
  to_inherited {y} source to over path = inherits (round_of y source).leader
    where
      inherits : (leader : Option (Leader K))
          → Path same elect x e low from (option_map_or (λ l. with_leader_at y to l.idx) leader y)
      inherits None = path
      inherits (Some l) = to_led to l.idx over path

  slides : (count first : ℕ) (y : StateFacts K L D) → low ≤ first → Path same elect x e low from y
      → Path same elect x e low from (fold (λ y w. with_leader_of y (w - 1) w) y (range_with_len first count))
  slides zero first y over path = path
  slides (suc count) first y over path = slides count (first + 1) (with_leader_of y (first - 1) first) (omega arith)
      (to_inherited (first - 1) first over path)

  to_slid : {y : StateFacts K L D} (v : ℕ) → low ≤ v → Path same elect x e low from y
      → Path same elect x e low from (with_window_leaders y v)
  to_slid {y} v over path = opens (y.terms.optimistic_views == 0)
    where
      opens : (b : Bool) → Path same elect x e low from
          (fold (λ y w. with_leader_of y (w - 1) w) y
          (if b then [] else range_with_len (v + 1)
          (min (term_end y.terms.term_length v) (v + y.terms.optimistic_views + 1) - v)))
      opens true = path
      opens false = slides (min (term_end y.terms.term_length v) (v + y.terms.optimistic_views + 1) - v) (v + 1) y
          (omega arith) path

  to_elected : {y : StateFacts K L D} (v : ℕ) (seed : Option (List ℕ)) → low ≤ v → Path same elect x e low from y
      → Path same elect x e low from (with_elected_leader elect y v seed)
  to_elected {y} v seed over path = to_led v (elect y.elector (round_number y v) seed) over path

  pub to_prepared : {y : StateFacts K L D} (v : ℕ) → low ≤ v → Path same elect x e low from y
      → Path same elect x e low from (with_next_view_ready elect y v)
  to_prepared {y} v over path =
      let later = with_elected_leader elect y (v + 1) None in
      let own = (round_of y v).notarize_decided && is_elected_early elect y (v + 1) in
      either (in_issuance_window y (v + 1)) (with_leader_of y v (v + 1)) (if own then later else y)
      (λ opens. to_inherited v (v + 1) (omega arith) path)
      (λ shut. either own later y (λ mine. to_elected (v + 1) None (omega arith) path) (λ other. path))

  -- entries, timeouts and the views that wait for certification

  to_entered : {y : StateFacts K L D} (v now : ℕ) → (y.current < v → low ≤ v) → Path same elect x e low from y
      → Path same elect x e low from (with_view_entered y v now)
  to_entered {y} v now over path =
      let r = entered_round y (round_of y v) now in
      either (nat_lt y.current v) (record (with_round y v r) { current = v }) y
      (λ is. (let above : y.current < v = grind (arith, nat_tests) in
      Then (put v r (inl (over above)) (step.Entered now) path) (Reaches v above (entered_timed y v now))))
      (λ passed. path)

  pub to_triggered : {y : StateFacts K L D} (v : ℕ) (reason : TimeoutReason) (now : ℕ) → Path same elect x e low from y
      → Path same elect x e low from (with_timeout y v reason now)
  to_triggered {y} v reason now path =
      let r = with_latch (round_of y v) now reason in
      either (nat_le y.current v && is_tracked y v && not (is_contradicted reason (round_of y v))) (with_round y v r) y
      (λ is. put v r (inr (and_parts (nat_le y.current v) (is_tracked y v)
      (and_parts (nat_le y.current v && is_tracked y v) (not (is_contradicted reason (round_of y v))) is).0).1)
      (step.Latched now reason) path)
      (λ none. path)

  to_named : {y : StateFacts K L D} (v : ℕ) → is_some (round_of y v).notarization ≡ true
      → Path same elect x e low from y → Path same elect x e low from (named_also y v)
  to_named {y} v notarized path = either (nat_lt y.finalized v) _ y
      (λ is. Then path (Names v (grind (arith, nat_tests)) notarized)) (λ final. path)

  pub to_woken : {y : StateFacts K L D} (p : ℕ) → Path same elect x e low from y
      → Path same elect x e low from (with_waiting_candidate elect y p)
  to_woken {y} p path = either (option_map_or (waits_for elect y p) (round_at y (p + 1)) false) (named_also y (p + 1)) y
      (λ waits. to_named (p + 1) (waiting_notarized elect y p waits) path) (λ none. path)

  to_raised : {y : StateFacts K L D} (v : ℕ) → finalized_by_event e ≡ v → Path same elect x e low from y
      → Path same elect x e low from (with_finalized_view y v)
  to_raised {y} v says path = either (nat_lt y.finalized v) _ y
      (λ is. Then path (Raises v says (grind (arith, nat_tests)))) (λ final. path)

  -- a verdict is given, from its own round on
  from_verdict : (v : ℕ) (success : Bool) (now : ℕ) → (x.current < v + 1 → low ≤ v + 1)
      → Path same elect x e low from (with_verdict (at_moment x now) v success)
      → Path same elect x e low from (verdict_taken elect (at_moment x now) v success now)
  from_verdict v true now over path = to_woken v (to_entered (v + 1) now over path)
  from_verdict v false now over path = to_triggered v FailedCertification now path

  -- genesis is set, from its entry on
  pub from_first_entry : (payload : D) (now : ℕ) → low ≤ 1
      → Path same elect x e low from (with_view_entered (record (at_moment x now) { genesis = Some payload }) 1 now)
      → Path same elect x e low from (after_set_genesis elect x payload now)
  from_first_entry payload now over path = to_elected 1 None over path

  to_cast : {y : StateFacts K L D} (v : ℕ) → nullify_by e ≡ Some v → Path same elect x e low from y
      → Path same elect x e low from (nullify_cast y v)
  to_cast {y} v says path = either (is_some y.me) _ y (λ signs. Then path (Notes v says)) (λ keyless. path)

  -- certificates

  to_notarized : {y : StateFacts K L D} (c : ProposalFacts D) → notarization_by e ≡ Some c → low ≤ c.proposal.round.view
      → Path same elect x e low from y → Path same elect x e low from (with_notarization_at same elect y c)
  to_notarized {y} c says over path =
      let v = c.proposal.round.view in
      let r = round_of y v in
      put_either v (is_some r.notarization) r
      (record (with_recovered (same_proposal same) r c.proposal) { notarization = Some c }) (inl over)
      (λ set. step.Kept) (λ none. step.Notarized c says refl none) path

  to_nullified : {y : StateFacts K L D} (c : NullificationFacts) → nullification_by e ≡ Some c → low ≤ c.round.view
      → Path same elect x e low from y → Path same elect x e low from (with_nullification_at y c)
  to_nullified {y} c says over path =
      let r = round_of y c.round.view in
      put_either c.round.view (is_some r.nullification) r (record r { nullification = Some c }) (inl over)
      (λ set. step.Kept) (λ none. step.Nullified c says refl none) path

  to_finalized : {y : StateFacts K L D} (c : ProposalFacts D) → finalization_by e ≡ Some c → low ≤ c.proposal.round.view
      → Path same elect x e low from y → Path same elect x e low from (with_finalization_at same elect y c)
  to_finalized {y} c says over path =
      let v = c.proposal.round.view in
      let r = round_of y v in
      put_either v (is_some r.finalization) r
      (record (with_recovered (same_proposal same) r c.proposal) { finalization = Some c }) (inl over)
      (λ set. step.Kept) (λ none. step.Finalized c says refl none) path

  -- from an existing notarization on
  pub from_notarized : (c : ProposalFacts D) → low ≤ c.proposal.round.view
      → Path same elect x e low from (with_notarization_at same elect
      (with_elected_leader elect x (c.proposal.round.view + 1) (Some c.bytes)) c)
      → Path same elect x e low from (after_add_notarization same elect x c)
  from_notarized c over path = either (is_some (round_of x c.proposal.round.view).notarization) _ _ (λ old. path)
      (λ new. to_slid c.proposal.round.view over
      (to_named c.proposal.round.view
      (notarization_stands same elect (with_elected_leader elect x (c.proposal.round.view + 1) (Some c.bytes)) c) path))

  -- from the entry of the next view on
  pub from_entry : (c : ProposalFacts D) (now : ℕ) → finalization_by e ≡ Some c → low ≤ c.proposal.round.view
      → Path same elect x e low from (with_view_entered (with_finalized_view (at_moment x now) c.proposal.round.view)
      (c.proposal.round.view + 1) now) → Path same elect x e low from (after_add_finalization same elect x c now)
  from_entry c now says over path =
      let v = c.proposal.round.view in
      let kept = to_finalized c says over (to_elected (v + 1) (Some c.bytes) (omega arith) path) in
      either (is_some (round_of x v).finalization) _ _ (λ old. kept) (λ new. to_slid v over (to_woken v kept))

  -- and from the finalized view on
  pub from_raised : (c : ProposalFacts D) (now : ℕ) → finalization_by e ≡ Some c → low ≤ c.proposal.round.view
      → Path same elect x e low from (with_finalized_view (at_moment x now) c.proposal.round.view)
      → Path same elect x e low from (after_add_finalization same elect x c now)
  from_raised c now says over path = from_entry c now says over
      (to_entered (c.proposal.round.view + 1) now (λ above. omega arith) path)

  to_finalization : (c : ProposalFacts D) (now : ℕ) → finalization_by e ≡ Some c
      → finalized_by_event e ≡ c.proposal.round.view → low ≤ c.proposal.round.view → Path same elect x e low from x
      → Path same elect x e low from (after_add_finalization same elect x c now)
  to_finalization c now says raises over path =
      from_raised c now says over (to_raised c.proposal.round.view raises (Then path (Moves now)))

-- what an event requires of its views, so that none below `low` becomes tracked

module _ {K L D : Type 0} where
  abbrev pub AskedFrom : ℕ → StateFacts K L D → Event K D → Type 0
  AskedFrom low x (SetFloor (Genesis payload) _) = low ≤ 1
  AskedFrom low x (SetFloor (FinalizedFloor c) _) = low ≤ c.proposal.round.view
  AskedFrom low x (AddNotarization c) = low ≤ c.proposal.round.view
  AskedFrom low x (AddNullification c _) = (low ≤ c.round.view)
      × (low ≤ next_term_start x.terms.term_length c.round.view)
  AskedFrom low x (AddFinalization c _) = low ≤ c.proposal.round.view
  AskedFrom low x (ConstructNotarize v) = is_tracked x v ≡ true → low ≤ v
  AskedFrom low x (SetProposal v _) = low ≤ v
  AskedFrom low x (Replay e) = low ≤ entry_view e
  AskedFrom low x _ = Unit {0}

  -- nothing is asked from genesis on
  pub asked_of_all : (x : StateFacts K L D) (e : Event K D) → AskedFrom 0 x e
  asked_of_all x (SetFloor (Genesis payload) _) = omega arith
  asked_of_all x (SetFloor (FinalizedFloor c) _) = omega arith
  asked_of_all x (AddNotarization c) = omega arith
  asked_of_all x (AddNullification c _) = (omega arith, omega arith)
  asked_of_all x (AddFinalization c _) = omega arith
  asked_of_all x (ConstructNotarize v) = λ there. omega arith
  asked_of_all x (SetProposal v _) = omega arith
  asked_of_all x (Replay e) = omega arith
  asked_of_all x _ = tt

module _ {K L D : Type 0} (x : StateFacts K L D) (v : ℕ) where
  -- there is no other verdict if one may be given, and none if a certification may be under way

  verdict_fits : (success : Bool) → is_tracked x v ≡ true → takes_verdict x v success ≡ true
      → is_judged (not success) (round_of x v).certification ≡ false
  verdict_fits success there takes = by_round (round_at x v) there (and_parts (is_started x) _ takes).1
    where
      by_round : (o : Option (RoundFacts K D)) → is_some o ≡ true
          → option_map_or (λ r. is_some r.notarization && not (is_judged (not success) r.certification)) o true ≡ true
          → is_judged (not success) (unwrap_or o (new_round x.me x.members (round_number x v))).certification ≡ false
      by_round None there takes = absurd (false≢true there)
      by_round (Some r) there takes = not_true (is_judged (not success) r.certification)
          (and_parts (is_some r.notarization) (not (is_judged (not success) r.certification)) takes).1

  handle_fits : takes_certify_handle x v ≡ true → (success : Bool)
      → is_judged success (round_of x v).certification ≡ false
  handle_fits takes true = (let c = (round_of x v).certification in
      not_true (is_judged true c) (and_parts (is_started x) (not (is_judged true c))
      (and_parts (is_started x && not (is_judged true c)) (not (is_judged false c)) takes).0).1)
  handle_fits takes false = (let c = (round_of x v).certification in
      not_true (is_judged false c)
      (and_parts (is_started x && not (is_judged true c)) (not (is_judged false c)) takes).1)

module _ {K L D : Type 0} (same : D → D → Bool) (elect : Elect L) (low : ℕ) (x : StateFacts K L D) where
  abbrev To : Event K D → StateFacts K L D → Type 0
  To e y = Path same elect x e low x y

  pub moved : (e : Event K D) (now : ℕ) → To e (at_moment x now)
  moved e now = Then Still (Moves now)

  floor_path : (floor : FloorFacts D) (now : ℕ) → AskedFrom low x (SetFloor floor now)
      → To (SetFloor floor now) (after_set_floor same elect x floor now)
  floor_path (Genesis payload) now over = from_first_entry payload now over
      (to_entered 1 now (λ above. over) (Then (moved (SetFloor (Genesis payload) now) now) (Founds payload)))
  floor_path (FinalizedFloor c) now over = put c.proposal.round.view _ (inl over) step.SentFinalization
      (to_finalization c now refl refl over Still)

  notarization_path : (c : ProposalFacts D) → low ≤ c.proposal.round.view
      → To (AddNotarization c) (after_add_notarization same elect x c)
  notarization_path c over = from_notarized c over
      (to_notarized c refl over (to_elected (c.proposal.round.view + 1) (Some c.bytes) (omega arith) Still))

  nullification_path : (c : NullificationFacts) (now : ℕ) → low ≤ c.round.view
      → low ≤ next_term_start x.terms.term_length c.round.view
      → To (AddNullification c now) (after_add_nullification elect x c now)
  nullification_path c now over above =
      let next = next_term_start x.terms.term_length c.round.view in
      Then
      (to_nullified c refl over (to_elected next (Some c.bytes) above
      (to_entered next now (λ _. above) (moved (AddNullification c now) now))))
      (Covers c.round.view (eq-eqb c.round.view c.round.view refl))

  verdict_path : (v : ℕ) (success : Bool) (now : ℕ) → low ≤ x.current
      → To (Certified v success now) (after_certified elect x v success now)
  verdict_path v success now reached = either (is_tracked x v) (verdict_taken elect (at_moment x now) v success now)
      (at_moment x now) (λ there. from_verdict v success now (λ above. omega (arith, above, reached)) (given there))
      (λ gone. moved (Certified v success now) now)
    where
      given : is_tracked x v ≡ true → To (Certified v success now) (with_verdict (at_moment x now) v success)
      given there = put v _ (inr there) (step.Judged success refl (λ takes. verdict_fits x v success there takes))
          (moved (Certified v success now) now)

  nullify_path : (v : ℕ) → low ≤ x.current → To (ConstructNullify v) (after_construct_nullify x v)
  nullify_path v reached = either (may_nullify x v) (nullify_cast (with_round x v (after_nullify (round_of x v))) v) x
      (λ may. decides (nullify_parts x v may).current (nullify_parts x v may).no_finalize) (λ barred. Still)
    where
      decides : v ≡ x.current → is_finalize (round_of x v).decision ≡ false
          → To (ConstructNullify v) (nullify_cast (with_round x v (after_nullify (round_of x v))) v)
      decides here undecided =
          let r = round_of x v in
          to_cast v refl (put_either v (is_finalize r.decision) r (record r { decision = decision.Nullify None })
          (inl (omega arith)) (λ final. step.Kept) (λ free. step.NullifyDecided refl (λ _. free)) Still)

  finalize_path : (v : ℕ) → To (ConstructFinalize v) (after_construct_finalize elect x v)
  finalize_path v = either (may_finalize elect x v) (finalize_cast x v) x
      (λ may. decides (finalize_parts elect x v may).notarized (finalize_parts elect x v may).undecided)
      (λ barred. Still)
    where
      no_nullify : (d : Decision) → is_pending d ≡ true → is_nullify d ≡ false
      no_nullify (decision.Pending _ _ _) is = refl
      no_nullify (decision.Nullify _) is = absurd (false≢true is)
      no_nullify decision.Finalize is = refl

      decides : is_some (round_of x v).notarization ≡ true → is_pending (round_of x v).decision ≡ true
          → To (ConstructFinalize v) (finalize_cast x v)
      decides notarized pending = put v _ (inr (tracked_by x v (λ r. is_some r.notarization) refl notarized))
          (step.FinalizeDecided refl (λ _. no_nullify (round_of x v).decision pending)) Still

  pub notarize_path : (v : ℕ) → (is_tracked x v ≡ true → low ≤ v)
      → To (ConstructNotarize v) (after_construct_notarize same elect x v)
  notarize_path v known = either (may_notarize same elect x v) _ x
      (λ may. decides may (tracked_by x v (λ r. is_verified_slot r.slot) refl
      (notarize_parts same elect x v may).verified)) (λ barred. Still)
    where
      decides : may_notarize same elect x v ≡ true → is_tracked x v ≡ true
          → To (ConstructNotarize v)
          (with_next_view_ready elect (with_round x v (record (round_of x v) { notarize_decided = true })) v)
      decides may there = to_prepared v (known there) (put v _ (inr there) (step.NotarizeDecided refl may) Still)

  pub proposal_path : (v : ℕ) (p : Proposal D) → low ≤ v → To (SetProposal v p) (after_set_proposal same elect x v p)
  proposal_path v p over =
      let y = with_next_view_ready elect x v in
      let r = round_of y v in
      put_either v (is_nullify r.decision) r (record r { slot = after_vote (same_proposal same) r.slot p }) (inl over)
      (λ given_up. step.Kept) (λ free. step.Received p refl free) (to_prepared v over Still)

  pub build_path : (e : Event K D) (v : ℕ) (requested : Bool) → To e (with_build x v requested)
  build_path e v requested = put_tracked v _ (step.Asked requested) Still

  propose_path : (request : Option (ProposalRequest D K))
      → To TryPropose (option_map_or (λ r. with_build x (request_context r).round.view true) request x)
  propose_path None = Still
  propose_path (Some r) = build_path TryPropose (request_context r).round.view true

  proposed_path : (context : Context D K) (payload : D) (now : ℕ)
      → To (Proposed context payload now) (after_proposed same elect x context payload now)
  unfolding proposed_answer
  proposed_path context payload now =
      either (proposed_answer same elect x context payload)
      (with_round (at_moment x now) context.round.view
      (proposed_round same (round_of x context.round.view) context payload now)) (at_moment x now)
      (λ is. put context.round.view _ (inr (by_round (round_at x context.round.view)
      (and_parts (context_stands same elect x context) _ is).1)) (step.Built context payload now refl is refl)
      (moved (Proposed context payload now) now))
      (λ dropped. moved (Proposed context payload now) now)
    where
      by_round : (o : Option (RoundFacts K D))
          → option_map_or (λ r. not (is_nullify r.decision) && holds_or_empty (same_proposal same) r.slot
          (proposal_of context payload)) o false ≡ true → is_some o ≡ true
      by_round None is = absurd (false≢true is)
      by_round (Some r) is = refl

  verified_path : (v : ℕ) → To (Verified v)
      (if verification_matches same elect x v then with_tracked x v (with_mark (round_of x v)) else without_binding x v)
  verified_path v =
      let r = round_of x v in
      either (verification_matches same elect x v) (with_tracked x v (with_mark r)) (without_binding x v)
      (λ bound. put_tracked_either v (is_nullify r.decision) r (record r { slot = after_mark r.slot })
      (λ given_up. step.Kept) (λ free. step.Marked refl bound free) Still)
      (λ loose. put_tracked v _ (step.Unbound refl) Still)

  failed_path : (v : ℕ) (reason : TimeoutReason) (now : ℕ)
      → To (VerificationFailed v reason now) (if verification_matches same elect x v then with_timeout (at_moment x now)
      v reason now else without_binding (at_moment x now) v)
  failed_path v reason now =
      let m = moved (VerificationFailed v reason now) now in
      either (verification_matches same elect x v) (with_timeout (at_moment x now) v reason now)
      (without_binding (at_moment x now) v) (λ bound. to_triggered v reason now m)
      (λ loose. put_tracked v _ (step.Unbound refl) m)

  pub handle_path : (v token : ℕ) → To (SetCertifyHandle v token) (after_set_certify_handle x v token)
  handle_path v token = put_tracked v _ (step.Certifying token refl (λ takes. handle_fits x v takes)) Still

  pub polled_path : (now : ℕ) → To (NextTimeout now) (with_tracked (at_moment x now) x.current (round_with_retry x now))
  polled_path now =
      let r = round_of x x.current in
      put_tracked_either x.current (awaits_retry r)
      (record r { decision = decision.Nullify (Some (now + x.settings.timeout_retry)) }) r
      (λ awaits. step.Retried now x.settings.timeout_retry refl awaits) (λ none. step.Kept)
      (moved (NextTimeout now) now)

  replay_path : (e : ArtifactFacts D) → low ≤ entry_view e → To (Replay e) (after_replaying same elect x e)
  replay_path (NotarizeVote p m) over = to_prepared p.round.view over
      (put p.round.view _ (inl over) (bound (restored_binding x p) refl) Still)
    where
      bound : (o : Option (Proposal D × D)) → restored_binding x p ≡ o
          → RoundStep same elect x (Replay (NotarizeVote p m)) x p.round.view (round_of x p.round.view)
          (bound_again (record (round_of x p.round.view)
          { slot = after_own (same_proposal same) (round_of x p.round.view).slot p; notarize_decided = true }) o)
      bound None is = step.VotedAgain p (round_of x p.round.view).binding refl refl (inl refl)
      bound (Some b) is = step.VotedAgain p (Some b) refl refl (inr (sym is))
  replay_path (NullifyVote round m) over = put round.view _ (inl over)
      (step.NullifyDecided refl (λ takes. takes.taken.1)) (Then Still (Notes round.view refl))
  replay_path (FinalizeVote p m) over = put p.round.view _ (inl over)
      (step.FinalizeDecided refl (λ takes. takes.taken.1)) Still
  replay_path (Verdict round success) over =
      put round.view _ (inl over) (step.Judged success refl (λ takes. takes.taken)) Still
  replay_path (Accepted (Notarized c)) over = put c.proposal.round.view _ (inl over) step.SentNotarization Still
  replay_path (Accepted (Nullified c)) over =
      put c.round.view _ (inl over) step.SentNullification
      (Then Still (Covers c.round.view (eq-eqb c.round.view c.round.view refl)))
  replay_path (Accepted (Finalized c)) over = put c.proposal.round.view _ (inl over) step.SentFinalization Still

  -- each event
  pub event_path : (e : Event K D) → low ≤ x.current → AskedFrom low x e → To e (after_event same elect x e)
  event_path (SetFloor floor now) reached over = floor_path floor now over
  event_path (AddNotarization c) reached over = notarization_path c over
  event_path (AddNullification c now) reached over = nullification_path c now over.0 over.1
  event_path (AddFinalization c now) reached over = to_finalization c now refl refl over Still
  event_path (Certified v success now) reached over = verdict_path v success now reached
  event_path (ConstructNotarize v) reached over = notarize_path v over
  event_path (ConstructNullify v) reached over = nullify_path v reached
  event_path (ConstructFinalize v) reached over = finalize_path v
  event_path (SetProposal v p) reached over = proposal_path v p over
  event_path TryPropose reached over = propose_path (propose_answer same elect x)
  event_path (Proposed context payload now) reached over = proposed_path context payload now
  event_path (Supersede context) reached over =
      either (supersede_answer same elect x context) (with_build x context.round.view false) x
      (λ other. build_path (Supersede context) context.round.view false) (λ stands. Still)
  event_path (Release v) reached over = build_path (Release v) v false
  event_path TryVerify reached over = Then Still (Scans refl)
  event_path (Verified v) reached over = verified_path v
  event_path (VerificationFailed v reason now) reached over = failed_path v reason now
  event_path CertifyCandidates reached over = Then Still Unnames
  event_path (SetCertifyHandle v token) reached over = handle_path v token
  event_path (TriggerTimeout v reason now) reached over =
      to_triggered v reason now (moved (TriggerTimeout v reason now) now)
  event_path (NextTimeout now) reached over = polled_path now
  event_path (BroadcastNotarization v) reached over = put_tracked v _ step.HandedNotarization Still
  event_path (BroadcastNullification v) reached over = put_tracked v _ step.HandedNullification Still
  event_path (BroadcastFinalization v) reached over = put_tracked v _ step.HandedFinalization Still
  event_path Prune reached over = Then Still (Prunes refl)
  event_path (Replay e) reached over = replay_path e over

module _ {K L D : Type 0} {same : D → D → Bool} {elect : Elect L} {x : StateFacts K L D} {e : Event K D} where
  pub from_judged : (v : ℕ) (success : Bool) (now : ℕ)
      → Path same elect x e 0 (with_verdict (at_moment x now) v success)
      (verdict_taken elect (at_moment x now) v success now)
  from_judged v success now = from_verdict v success now (λ above. omega arith) Still
