-- The events that say nothing: requests, verifications, certifications under way and timeouts.
use Rattle.std.proofs.Common.{◌≡◌, refl, sym, ℕ, ◌+◌, Bool, true, false, not, if◌then◌else◌, Option, Some, None, is_some}
use Rattle.std.specs.Option.{option_map_or}
use Rattle.std.proofs.lemmas.Bool.{true≢false}
use Rattle.simplex_types.specs.declared.types.messages.Context.{Context}
use Rattle.simplex_types.specs.declared.reasons.TimeoutReason.{TimeoutReason}
use Rattle.simplex_types.specs.declared.reasons.TimeoutReason.TheVariants.{InvalidProposal}
use Rattle.simplex_round.specs.declared.round.Decision.{Decision}
use Rattle.simplex_round.specs.declared.round.Decision.TheVariants as decision
use Rattle.simplex_round.specs.declared.round.Certification.{Certification}
use Rattle.simplex_round.specs.declared.round.Certification.TheVariants as certification
use Rattle.simplex_round.specs.Slot.{after_mark}
use Rattle.simplex_round.specs.Round.{RoundFacts, is_nullify, is_finalize, is_judged, has_no_retry, awaits_retry}
use Rattle.simplex_voter.specs.Facts.{StateFacts, Elect, round_of, with_tracked}
use Rattle.simplex_voter.specs.ViewEntry.{at_moment}
use Rattle.simplex_voter.specs.Timeouts.{with_timeout, round_with_retry, after_trigger_timeout, after_next_timeout}
use Rattle.simplex_voter.specs.Certification.{takes_certify_handle, after_candidates, after_set_certify_handle}
use Rattle.simplex_voter.specs.declared.voter.propose.ProposalRequest.{ProposalRequest}
use Rattle.simplex_voter.specs.declared.voter.verify.Standing.{Standing}
use Rattle.simplex_voter.specs.declared.voter.verify.Standing.TheVariants.{NothingToDo, Invalid, Lacks, Ready}
use Rattle.simplex_voter.specs.ProposalRequests.{request_context, build_requested, with_build, propose_answer, after_try_propose, supersede_answer, after_supersede, after_release}
use Rattle.simplex_voter.specs.Parents.{verification_matches}
use Rattle.simplex_voter.specs.Verification.{round_left, standing, was_scanned, scan_left, without_binding, with_mark, after_try_verify, after_verified, after_verification_failed}
use Rattle.simplex_voter.proofs.Gaps.{and_parts}
use Rattle.laws_history.specs.HistoryFacts.{verdict_of}
use Rattle.simplex_record.proofs.Rounds.{round_changed}
use Rattle.laws_history.proofs.UnchangedHistories.{known_of_round, decided_alike, UnchangedKnown, UnchangedButNumbers, UnchangedHistory, alike, latch_alike, alike_where, quiet, then_quiet, quiet_where, tracked_quiet, moment_leaves, triggered_quiet}

retry_nullify : (d : Decision) → has_no_retry d ≡ true → true ≡ is_nullify d
retry_nullify (decision.Pending _ _ _) is = absurd (true≢false (sym is))
retry_nullify (decision.Nullify _) is = refl
retry_nullify decision.Finalize is = absurd (true≢false (sym is))

retry_finalize : (d : Decision) → has_no_retry d ≡ true → false ≡ is_finalize d
retry_finalize (decision.Pending _ _ _) is = absurd (true≢false (sym is))
retry_finalize (decision.Nullify _) is = refl
retry_finalize decision.Finalize is = absurd (true≢false (sym is))

module _ {K L D : Type 0} (x : StateFacts K L D) where
  -- requests

  build_quiet : (v : ℕ) (requested : Bool) → UnchangedHistory x (with_build x v requested)
  build_quiet v requested = tracked_quiet x v
      (record (round_of x v) { slot = build_requested requested (round_of x v).slot }) refl

  pub release_quiet : (v : ℕ) → UnchangedHistory x (after_release x v)
  release_quiet v = build_quiet v false

  pub supersede_quiet : (same : D → D → Bool) (elect : Elect L) (context : Context D K)
      → UnchangedHistory x (after_supersede same elect x context)
  supersede_quiet same elect context = quiet_where x (supersede_answer same elect x context)
      (after_release x context.round.view) x (release_quiet context.round.view) (quiet x)

  pub try_propose_quiet : (same : D → D → Bool) (elect : Elect L) → UnchangedHistory x (after_try_propose same elect x)
  try_propose_quiet same elect = by_answer (propose_answer same elect x)
    where
      by_answer : (o : Option (ProposalRequest D K))
          → UnchangedHistory x (option_map_or (λ request. with_build x (request_context request).round.view true) o x)
      by_answer None = quiet x
      by_answer (Some request) = build_quiet (request_context request).round.view true

  without_binding_quiet : (v : ℕ) → UnchangedHistory x (without_binding x v)
  without_binding_quiet v = tracked_quiet x v (record (round_of x v) { binding = None }) refl

  pub verified_quiet : (same : D → D → Bool) (elect : Elect L) (v : ℕ)
      → UnchangedHistory x (after_verified same elect x v)
  verified_quiet same elect v =
      let r = round_of x v in
      quiet_where x (verification_matches same elect x v) (with_tracked x v (with_mark r)) (without_binding x v)
      (tracked_quiet x v (with_mark r)
      (alike_where r (is_nullify r.decision) r (record r { slot = after_mark r.slot }) (alike r) refl))
      (without_binding_quiet v)

  pub try_verify_quiet : (same : D → D → Bool) (elect : Elect L) → UnchangedHistory x (after_try_verify same elect x)
  try_verify_quiet same elect = record {
    settings = refl;
    terms = refl;
    genesis = refl;
    nullified = refl;
    nullify_votes = refl;
    moment_is = refl;
    current_is = refl;
    finalized_is = refl;
    rounds = λ v. round_changed (scan_left same elect x) x v UnchangedKnown alike
        (λ r. by_standing r (was_scanned same elect x v) (standing same elect x (v, r)));
  }
    where
      by_standing : (r : RoundFacts K D) (b : Bool) (s : Standing D)
          → UnchangedKnown r (if b then round_left r x.moment s else r)
      by_standing r true Invalid = latch_alike r x.moment InvalidProposal
      by_standing r false s = alike r
      by_standing r true NothingToDo = alike r
      by_standing r true (Lacks w kind) = alike r
      by_standing r true (Ready d) = alike r

  -- certification

  pub candidates_quiet : UnchangedHistory x (after_candidates x)
  candidates_quiet = record {
    settings = refl;
    terms = refl;
    genesis = refl;
    nullified = refl;
    nullify_votes = refl;
    moment_is = refl;
    current_is = refl;
    finalized_is = refl;
    rounds = λ w. alike (round_of x w);
  }

  pub handle_quiet : (v token : ℕ) → takes_certify_handle x v ≡ true
      → UnchangedHistory x (after_set_certify_handle x v token)
  handle_quiet v token takes = tracked_quiet x v
      (record (round_of x v) { certification = certification.Outstanding token })
      (λ i. record (known_of_round (round_of x v)) {
        verdict = unjudged (round_of x v).certification (and_parts _ _ (and_parts _ _ takes).0).1
            (and_parts _ _ takes).1 i;
      })
    where
      unjudged : (c : Certification) → not (is_judged true c) ≡ true → not (is_judged false c) ≡ true
          → None ≡ verdict_of c
      unjudged certification.Ready f t = refl
      unjudged (certification.Outstanding _) f t = refl
      unjudged (certification.Judged true) f t = absurd (cc)
      unjudged (certification.Judged false) f t = absurd (cc)
      unjudged certification.Aborted f t = refl

  -- timeouts

  pub trigger_leaves : (v : ℕ) (reason : TimeoutReason) (now : ℕ)
      → UnchangedButNumbers now x.current x.finalized x (after_trigger_timeout x v reason now)
  trigger_leaves v reason now =
      let a = at_moment x now in
      then_quiet now x.current x.finalized x a (with_timeout a v reason now) (moment_leaves x now)
      (triggered_quiet a v reason now)

  pub next_timeout_leaves : (now : ℕ) → UnchangedButNumbers now x.current x.finalized x (after_next_timeout x now)
  next_timeout_leaves now =
      let a = at_moment x now in
      then_quiet now x.current x.finalized x a (with_tracked a x.current (round_with_retry x now)) (moment_leaves x now)
      (tracked_quiet a x.current (round_with_retry x now) (retried (awaits_retry r) refl))
    where
      r : RoundFacts K D
      r = round_of x x.current

      retried : (b : Bool) → awaits_retry r ≡ b
          → UnchangedKnown r (if awaits_retry r then record r
          { decision = decision.Nullify (Some (now + x.settings.timeout_retry)) } else r)
      retried true is =
          let open_retry : has_no_retry r.decision ≡ true =
          (and_parts (not (is_some r.finalization)) (has_no_retry r.decision) is).1 in
          rw is (decided_alike r (decision.Nullify (Some (now + x.settings.timeout_retry)))
          (retry_nullify r.decision open_retry) (retry_finalize r.decision open_retry))
      retried false is = rw is refl

module _ {K L D : Type 0} (x : StateFacts K L D) where
  -- a failed verification times the view out, or takes a binding away
  pub failed_leaves : (same : D → D → Bool) (elect : Elect L) (v : ℕ) (reason : TimeoutReason) (now : ℕ)
      → UnchangedButNumbers now x.current x.finalized x (after_verification_failed same elect x v reason now)
  failed_leaves same elect v reason now =
      let a = at_moment x now in
      then_quiet now x.current x.finalized x a (after_verification_failed same elect x v reason now)
      (moment_leaves x now)
      (quiet_where a (verification_matches same elect x v) (with_timeout a v reason now) (without_binding a v)
      (triggered_quiet a v reason now)
      (tracked_quiet a v (record (round_of a v) { binding = None }) refl))
