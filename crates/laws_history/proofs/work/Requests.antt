-- What requests, verifications, certifications under way, broadcasts and prunes say of the work on a view.
use Rattle.std.proofs.Common.{◌≡◌, subst, refl, ap, sym, ◌∙◌, ℕ, ◌≤◌, Bool, true, false, ◌&&◌, not, cond, eqb, if◌then◌else◌, nat_le, Option, Some, None, is_some, unwrap_or, arith}
use Rattle.std.specs.Option.{option_map_or}
use Rattle.std.specs.Ordering.{nat_cmp}
use Rattle.std.specs.FinMap.Entries.{find-where_key}
use Rattle.std.proofs.Math.Bool.{and-true, and-false}
use Rattle.std.proofs.lemmas.Bool.{eq-eqb, true≢false}
use Rattle.std.proofs.lemmas.Bool.Decides.{nat_tests}
use Rattle.simplex_types.specs.Proposal.{same_proposal}
use Rattle.simplex_types.specs.declared.types.messages.Context.{Context}
use Rattle.simplex_round.specs.declared.round.Certification.TheVariants as certification
use Rattle.simplex_round.specs.Slot.{holds_or_empty, after_mark}
use Rattle.simplex_round.specs.Round.{RoundFacts, new_round, is_nullify}
use Rattle.simplex_voter.specs.Facts.{StateFacts, Elect, round_at, round_of, round_number, is_tracked, with_round, with_tracked}
use Rattle.simplex_voter.specs.Windows.{min_active}
use Rattle.simplex_voter.specs.ViewEntry.{at_moment}
use Rattle.simplex_voter.specs.Certification.{after_candidates, after_set_certify_handle}
use Rattle.simplex_voter.specs.declared.voter.propose.ProposalRequest.{ProposalRequest}
use Rattle.simplex_voter.specs.ProposalRequests.{request_context, build_requested, proposal_of, proposed_round, with_build, propose_answer, proposed_answer, supersede_answer, after_try_propose, after_proposed, after_supersede, after_release}
use Rattle.simplex_voter.specs.Parents.{verification_matches}
use Rattle.simplex_voter.specs.StateAnswers.{after_broadcast_notarization, after_broadcast_nullification, after_broadcast_finalization, after_prune}
use Rattle.simplex_voter.specs.Verification.{without_binding, with_mark, after_verified}
use Rattle.simplex_voter.proofs.Gaps.{and_parts}
use Rattle.simplex_record.specs.Events.{Event, TryPropose, Proposed, Supersede, Release, Verified, CertifyCandidates, SetCertifyHandle, BroadcastNotarization, BroadcastNullification, BroadcastFinalization, Prune}
use Rattle.laws_history.specs.WorkRequests.{names, is_at}
use Rattle.laws_safety.proofs.votes.NullifyVotes.{tied}
use Rattle.laws_history.proofs.Worked.{Worked, work_in, work_of, adds_work, WorkFollows, SaysNoWork, untimed}
use Rattle.laws_history.proofs.work.Puts.{unentered, idle_follows, tracked_follows}

-- requests for proposals

module _ {K L D : Type 0} (same : D → D → Bool) (elect : Elect L) (x : StateFacts K L D) where
  -- an event says of one tracked view whether a proposal is asked for, and nothing else
  abbrev AsksAt : Event K D → ℕ → Bool → Type 0
  AsksAt e v requested =
      (w : ℕ) (k : Worked K D) → adds_work same elect x e w k ≡ record k
      { build_requested = unwrap_or (if is_at x w v then Some requested else None) k.build_requested }

  asked_works : (e : Event K D) (v : ℕ) (requested : Bool) → ((w : ℕ) → names elect w x e ≡ None) → AsksAt e v requested
      → WorkFollows same elect e x (with_build x v requested)
  asked_works e v requested unnamed asks = tracked_follows same elect x e unnamed x.moment v
      (record r { slot = build_requested requested r.slot }) said idle
    where
      r : RoundFacts K D
      r = round_of x v

      said : is_tracked x v ≡ true → work_in true (record r { slot = build_requested requested r.slot }) ≡ adds_work
          same elect x e v (work_in true r)
      said tracked = rw (asks v (work_in true r), eq-eqb v v refl, tracked) refl

      idle : (w : ℕ) → is_at x w v ≡ false → SaysNoWork same elect x e w
      idle w apart k = rw (asks w k, apart) refl

  pub release_works : (v : ℕ) → WorkFollows same elect (Release v) x (after_release x v)
  release_works v = asked_works e v false (λ w. refl)
      (λ w k. rw (unentered x e w refl, untimed x.settings k.decision) refl)
    where
      e : Event K D
      e = Release v

  pub supersede_works : (context : Context D K)
      → WorkFollows same elect (Supersede context) x (after_supersede same elect x context)
  supersede_works context = by_answer (supersede_answer same elect x context) refl
    where
      e : Event K D
      e = Supersede context

      v : ℕ
      v = context.round.view

      by_answer : (b : Bool) → supersede_answer same elect x context ≡ b
          → WorkFollows same elect e x (if b then after_release x v else x)
      by_answer true is = asked_works e v false (λ w. refl)
          (λ w k. rw (unentered x e w refl, untimed x.settings k.decision, is, and-true (is_at x w v)) refl)
      by_answer false is = idle_follows same elect x e (λ w. refl) x refl (λ w _. refl)
          (λ w k. rw (unentered x e w refl, untimed x.settings k.decision, is, and-false (is_at x w v)) refl)

  pub try_propose_works : WorkFollows same elect TryPropose x (after_try_propose same elect x)
  try_propose_works = by_answer (propose_answer same elect x) refl
    where
      e : Event K D
      e = TryPropose

      by_answer : (o : Option (ProposalRequest D K)) → propose_answer same elect x ≡ o
          → WorkFollows same elect e x
          (option_map_or (λ request. with_build x (request_context request).round.view true) o x)
      by_answer None is = idle_follows same elect x e (λ w. refl) x refl (λ w _. refl)
          (λ w k. rw (unentered x e w refl, untimed x.settings k.decision, is) refl)
      by_answer (Some request) is = asked_works e (request_context request).round.view true (λ w. refl)
          (λ w k. rw (unentered x e w refl, untimed x.settings k.decision, is) refl)

-- a proposal that is recorded: the view is tracked, and holds nothing else

module _ {K L D : Type 0} (same : D → D → Bool) (elect : Elect L) (x : StateFacts K L D) (context : Context D K)
    (payload : D) where
  abbrev takes_built : RoundFacts K D → Bool
  takes_built r = not (is_nullify r.decision) && holds_or_empty (same_proposal same) r.slot
      (proposal_of context payload)

  proposed_at_round : proposed_answer same elect x context payload ≡ true
      → option_map_or takes_built (round_at x context.round.view) false ≡ true
  unfolding proposed_answer
  proposed_at_round taken = (and_parts _ _ taken).1

  proposed_tracked : (o : Option (RoundFacts K D)) → option_map_or takes_built o false ≡ true → is_some o ≡ true
  proposed_tracked (Some r) is = refl
  proposed_tracked None is = absurd (true≢false (sym is))

  proposed_held : (fresh : RoundFacts K D) (o : Option (RoundFacts K D)) → option_map_or takes_built o false ≡ true
      → holds_or_empty (same_proposal same) (unwrap_or o fresh).slot (proposal_of context payload) ≡ true
  proposed_held fresh (Some r) is = (and_parts _ _ is).1
  proposed_held fresh None is = absurd (true≢false (sym is))

module _ {K L D : Type 0} (same : D → D → Bool) (elect : Elect L) (x : StateFacts K L D) where
  pub proposed_works : (context : Context D K) (payload : D) (now : ℕ)
      → WorkFollows same elect (Proposed context payload now) x (after_proposed same elect x context payload now)
  proposed_works context payload now = by_answer (proposed_answer same elect x context payload) refl
    where
      e : Event K D
      e = Proposed context payload now

      v : ℕ
      v = context.round.view

      a : StateFacts K L D
      a = at_moment x now

      s : RoundFacts K D
      s = proposed_round same (round_of x v) context payload now

      built : proposed_answer same elect x context payload ≡ true → is_tracked x v ≡ true
          → WorkFollows same elect e x (with_tracked a v s)
      built is known = tracked_follows same elect x e (λ w. refl) now v s (λ tracked. said) idle
        where
          held : holds_or_empty (same_proposal same) (round_of x v).slot (proposal_of context payload) ≡ true
          held = proposed_held same elect x context payload (new_round x.me x.members (round_number x v)) (round_at x v)
              (proposed_at_round same elect x context payload is)

          said : work_in true s ≡ adds_work same elect x e v (work_in true (round_of x v))
          said = rw (unentered x e v refl, untimed x.settings (round_of x v).decision, eq-eqb v v refl, is, held) refl

          idle : (w : ℕ) → is_at x w v ≡ false → SaysNoWork same elect x e w
          idle w apart k =
              let other : eqb w v ≡ false = sym (and-true (eqb w v)) ∙ ap (λ b. eqb w v && b) (sym known) ∙ apart in
              rw (unentered x e w refl, untimed x.settings k.decision, other) refl

      by_answer : (b : Bool) → proposed_answer same elect x context payload ≡ b
          → WorkFollows same elect e x (if b then with_round a v s else a)
      by_answer true is =
          let known : is_tracked x v ≡ true = proposed_tracked same elect x context payload (round_at x v)
          (proposed_at_round same elect x context payload is) in
          subst (λ b. WorkFollows same elect e x (if b then with_round a v s else a)) known (built is known)
      by_answer false is = idle_follows same elect x e (λ w. refl) a refl (λ w _. refl)
          (λ w k. rw (unentered x e w refl, untimed x.settings k.decision, is, and-false (eqb w v)) refl)

  -- verifications

  pub verified_works : (v : ℕ) → WorkFollows same elect (Verified v) x (after_verified same elect x v)
  verified_works v = by_binding (verification_matches same elect x v) refl
    where
      e : Event K D
      e = Verified v

      r : RoundFacts K D
      r = round_of x v

      idle : (w : ℕ) → is_at x w v ≡ false → SaysNoWork same elect x e w
      idle w apart k = rw (unentered x e w refl, untimed x.settings k.decision, apart) refl

      marked : verification_matches same elect x v ≡ true → is_tracked x v ≡ true → (b : Bool)
          → is_nullify r.decision ≡ b → work_in true
          (if b then r else record r { slot = after_mark r.slot }) ≡ adds_work same elect x e v (work_in true r)
      marked holds tracked true is =
          rw (unentered x e v refl, untimed x.settings r.decision, eq-eqb v v refl, tracked, holds, is) refl
      marked holds tracked false is =
          rw (unentered x e v refl, untimed x.settings r.decision, eq-eqb v v refl, tracked, holds, is) refl

      unbound : verification_matches same elect x v ≡ false → is_tracked x v ≡ true
          → work_in true (record r { binding = None }) ≡ adds_work same elect x e v (work_in true r)
      unbound fails tracked = rw (unentered x e v refl, untimed x.settings r.decision, eq-eqb v v refl, tracked, fails)
          refl

      by_binding : (b : Bool) → verification_matches same elect x v ≡ b
          → WorkFollows same elect e x (if b then with_tracked x v (with_mark r) else without_binding x v)
      by_binding true holds = tracked_follows same elect x e (λ w. refl) x.moment v (with_mark r)
          (λ tracked. marked holds tracked (is_nullify r.decision) refl) idle
      by_binding false fails = tracked_follows same elect x e (λ w. refl) x.moment v (record r { binding = None })
          (unbound fails) idle

  -- certifications

  pub handle_works : (v token : ℕ) → WorkFollows same elect (SetCertifyHandle v token) x
      (after_set_certify_handle x v token)
  handle_works v token = tracked_follows same elect x e (λ w. refl) x.moment v s said idle
    where
      e : Event K D
      e = SetCertifyHandle v token

      s : RoundFacts K D
      s = record (round_of x v) { certification = certification.Outstanding token }

      said : is_tracked x v ≡ true → work_in true s ≡ adds_work same elect x e v (work_in true (round_of x v))
      said tracked = rw (unentered x e v refl, untimed x.settings (round_of x v).decision, eq-eqb v v refl, tracked)
          refl

      idle : (w : ℕ) → is_at x w v ≡ false → SaysNoWork same elect x e w
      idle w apart k = rw (unentered x e w refl, untimed x.settings k.decision, apart) refl

  -- no view waits for certification once the candidates were returned
  pub candidates_works : WorkFollows same elect CertifyCandidates x (after_candidates x)
  candidates_works = record {
    me = refl;
    members = refl;
    elector = refl;
    elects_early = refl;
    failed = refl;
    named = λ v. refl;
    work = λ v _. sym (idle v (work_of x v));
  }
    where
      e : Event K D
      e = CertifyCandidates

      idle : (v : ℕ) → SaysNoWork same elect x e v
      idle v k = rw (unentered x e v refl, untimed x.settings k.decision) refl

  -- broadcasts

  -- an event that says nothing puts a round on which the work is the same
  handed_works : (e : Event K D) (v : ℕ) (s : RoundFacts K D) → ((w : ℕ) → names elect w x e ≡ None)
      → work_in true s ≡ work_in true (round_of x v) → ((w : ℕ) → SaysNoWork same elect x e w)
      → WorkFollows same elect e x (with_tracked x v s)
  handed_works e v s unnamed alike idle = tracked_follows same elect x e unnamed x.moment v s
      (λ tracked. alike ∙ sym (idle v (work_in true (round_of x v)))) (λ w apart. idle w)

  pub broadcast_notarization_works : (v : ℕ)
      → WorkFollows same elect (BroadcastNotarization v) x (after_broadcast_notarization x v)
  broadcast_notarization_works v = handed_works e v _ (λ w. refl) refl
      (λ w k. rw (unentered x e w refl, untimed x.settings k.decision) refl)
    where
      e : Event K D
      e = BroadcastNotarization v

  pub broadcast_nullification_works : (v : ℕ)
      → WorkFollows same elect (BroadcastNullification v) x (after_broadcast_nullification x v)
  broadcast_nullification_works v = handed_works e v _ (λ w. refl) refl
      (λ w k. rw (unentered x e w refl, untimed x.settings k.decision) refl)
    where
      e : Event K D
      e = BroadcastNullification v

  pub broadcast_finalization_works : (v : ℕ)
      → WorkFollows same elect (BroadcastFinalization v) x (after_broadcast_finalization x v)
  broadcast_finalization_works v = handed_works e v _ (λ w. refl) refl
      (λ w k. rw (unentered x e w refl, untimed x.settings k.decision) refl)
    where
      e : Event K D
      e = BroadcastFinalization v

-- the views that a prune leaves

module _ {K L D : Type 0} (x : StateFacts K L D) where
  left_by_prune : (v : ℕ) → min_active x ≤ v → round_at (after_prune x) v ≡ round_at x v
  left_by_prune v left =
      let test : nat_le (min_active x) v ≡ true = grind (arith, nat_tests) in
      let found : round_at (after_prune x) v ≡ cond (nat_le (min_active x) v) (round_at x v) None =
      find-where_key nat_cmp (λ u. nat_le (min_active x) u) v
      (λ u alike. ap (nat_le (min_active x)) (sym (tied v u alike))) x.rounds in
      found ∙ ap (λ b. cond b (round_at x v) None) test

module _ {K L D : Type 0} (same : D → D → Bool) (elect : Elect L) (x : StateFacts K L D) where
  pub prune_works : WorkFollows same elect Prune x (after_prune x)
  prune_works = idle_follows same elect x e (λ v. refl) (after_prune x) refl stays
      (λ v k. rw (unentered x e v refl, untimed x.settings k.decision) refl)
    where
      e : Event K D
      e = Prune

      stays : (v : ℕ) → min_active x ≤ v → work_of (after_prune x) v ≡ work_of x v
      stays v left = ap (λ o. work_in (is_some o) (unwrap_or o (new_round x.me x.members (round_number x v))))
          (left_by_prune x v left)
