-- A call of a living member reports no view above all that the member has heard of by then, and that does not fall.
use Rattle.std.proofs.Common.{◌≡◌, refl, ap, sym, ◌∙◌, subst, ℕ, ◌-◌, ◌<◌, ◌≤◌, inl, inr, Bool, true, false, [], ◌∷◌, ◌++◌, Contains, map, nat_le, Option, Some, None, arith, unwrap_or, ◌⊎◌}
use Rattle.std.proofs.lemmas.Bool.{leb-false}
use Rattle.std.specs.List.{list_any}
use Rattle.std.specs.Prelude.{option_and_then, ◌==◌, if◌then◌else◌, is_some}
use Rattle.std.proofs.lemmas.List.Elements.{Contains-append_right}
use Rattle.simplex_types.specs.Certificates.{ArtifactFacts, Accepted, Notarized, Nullified, Finalized, ProposalFacts}
use Rattle.simplex_types.specs.Terms.{next_term_start}
use Rattle.simplex_types.specs.declared.types.fault.Fault.{Fault}
use Rattle.simplex_round.specs.Round.{RoundFacts, new_round}
use Rattle.simplex_voter.specs.Facts.{StateFacts, Elect, round_of, round_at, round_number}
use Rattle.simplex_voter.specs.declared.voter.candidates.CertificateFetch.{CertificateFetch}
use Rattle.simplex_voter.specs.declared.voter.verify.Verify.{Verify}
use Rattle.simplex_voter.specs.declared.voter.verify.Verify.TheVariants as verify
use Rattle.simplex_voter.specs.Acceptance.{notarization_added, nullification_added, finalization_added}
use Rattle.simplex_voter.specs.Certification.{candidates_answer, certified_answer}
use Rattle.simplex_voter.specs.Verification.{verify_answer}
use Rattle.simplex_resolver.specs.ReceivedFacts.{greatest}
use Rattle.simplex_record.specs.Cuts.{finalized_in}
use Rattle.simplex_record.specs.Entries.{entry_view}
use Rattle.simplex_member.specs.CallConditions.{is_allowed, fault_of}
use Rattle.simplex_member.specs.Calls.{CallFacts, AddNotarization, AddNullification, AddFinalization, Certified, TryVerify, CertifyCandidates, ReplyFacts, Judged, Standing as RepliedStanding, Refused, NotAllowed, reply_facts}
use Rattle.simplex_member.specs.CallSemantics.{answer, after_call, recorded_by, if_new}
use Rattle.simplex_member.specs.MemberFacts.{MemberFacts, IsCall, AnswersAlive, with_call, unless_refused, unless_retained}
use Rattle.simplex_member.specs.PrunedRecord.{stays_within, pruned_member, tracks}
use Rattle.laws_safety.proofs.frames.NoLowerViews.{call_goes}
use Rattle.simplex_engine.specs.FetchHeights.{highest_received}
use Rattle.simplex_engine.proofs.Bounds.{next_monotone}
use Rattle.simplex_engine.proofs.Tests.{not_or}
use Rattle.simplex_engine.proofs.fetch_heights.Records.{among_greatest, greatest_grows, greatest_stays}
use Rattle.simplex_engine.proofs.fetch_heights.Replies.{highest_passed}
use Rattle.simplex_engine.proofs.fetch_heights.Lacks.{lacks_ahead, fetches_within}

module _ {K L D : Type 0} where
  -- what runs preserve of a living member: each notarization is in the record, at its own view, and each view that
  -- waits is notarized
  pub record IsKnown (m : MemberFacts K L D) (x : StateFacts K L D) : Type 0 where
    pub some : 0 < x.terms.term_length
    pub recorded : (v : ℕ) → is_some (round_of x v).notarization ≡ true
        → (c : ProposalFacts D) × Contains m.entries (Accepted (Notarized c)) × (c.proposal.round.view ≡ v)
    pub placed : (v : ℕ) (c : ProposalFacts D) → (round_of x v).notarization ≡ Some c → c.proposal.round.view ≡ v
    pub waits : (v : ℕ) → list_any (λ w. v == w) x.named ≡ true → is_some (round_of x v).notarization ≡ true

module _ {K L D : Type 0} (same : D → D → Bool) (elect : Elect L) (m : MemberFacts K L D) (x : StateFacts K L D)
    (known : IsKnown m x) where
  newly_recorded : (is_new : Bool) (e : ArtifactFacts D)
      → (if is_new then entry_view e else 0) ≤ greatest (map entry_view (m.entries ++ if_new is_new e))
  newly_recorded true e = among_greatest (m.entries ++ e ∷ []) e
      (Contains-append_right m.entries (e ∷ []) e (0, omega arith, refl))
  newly_recorded false e = omega arith

  recorded_below : (v : ℕ) → is_some (round_of x v).notarization ≡ true → v ≤ greatest (map entry_view m.entries)
  recorded_below v stands =
      let there = known.recorded v stands in
      let below = among_greatest m.entries (Accepted (Notarized there.0)) there.1 in
      let at = there.2 in
      omega (arith, below, at)

  candidates_below : greatest (map (λ (it : CertificateFetch). it.view) (candidates_answer same elect x).1) ≤ greatest
      (map entry_view m.entries)
  candidates_below = fetches_within same elect x (greatest (map entry_view m.entries)) x.named
      (λ v named. recorded_below v (known.waits v named))

  judged_below : (v : ℕ) (n : ProposalFacts D) → certified_answer x v ≡ Some n
      → n.proposal.round.view ≤ greatest (map entry_view m.entries)
  judged_below v n is = by_round (round_at x v) refl is
    where
      by_round : (o : Option (RoundFacts K D)) → round_at x v ≡ o → option_and_then (λ r. r.notarization) o ≡ Some n
          → n.proposal.round.view ≤ greatest (map entry_view m.entries)
      by_round None untracked is = absurd (cc)
      by_round (Some r) tracked is =
          let stands : (round_of x v).notarization ≡ Some n =
          ap (λ o. (unwrap_or o (new_round x.me x.members (round_number x v))).notarization) tracked ∙ is in
          let at = known.placed v n stands in
          let below = recorded_below v (ap is_some stands) in
          omega (arith, at, below)

  module _ (call : CallFacts D) where
    abbrev next_state : StateFacts K L D
    next_state = after_call same elect x m.outstanding_work call

    abbrev next_member : MemberFacts K L D
    next_member = with_call same elect x m call

    next_up : next_term_start x.terms.term_length x.current ≤ next_term_start next_state.terms.term_length
        next_state.current
    next_up =
        let goes = call_goes same elect x m.outstanding_work call in
        subst (λ t. next_term_start x.terms.term_length x.current ≤ next_term_start t.term_length next_state.current)
        (sym goes.terms)
        (next_monotone x.terms.term_length x.current next_state.current goes.current)

    called_up : highest_received m x ≤ highest_received next_member next_state
    called_up =
        let up = next_up in
        let grows = greatest_grows m.entries (recorded_by same elect x call) in
        omega (arith, up, grows)

  replied_below : (call : CallFacts D) → highest_passed (answer same elect x m.outstanding_work call)
      call ≤ highest_received (next_member call) (next_state call)
  replied_below (AddNotarization c) =
      (let new = newly_recorded (notarization_added same elect x c).0 (Accepted (Notarized c)) in omega (arith, new))
  replied_below (AddNullification c now) =
      (let new = newly_recorded (nullification_added x c) (Accepted (Nullified c)) in omega (arith, new))
  replied_below (AddFinalization c now) =
      (let new = newly_recorded (finalization_added same elect x c).0 (Accepted (Finalized c)) in omega (arith, new))
  replied_below TryVerify = by_answer (verify_answer same elect x) refl
    where
      by_answer : (a : Verify D K) → verify_answer same elect x ≡ a
          → highest_passed (RepliedStanding a) TryVerify ≤ highest_received (next_member TryVerify)
          (next_state TryVerify)
      by_answer (verify.Ready context proposal) is = omega arith
      by_answer (verify.Resolve proposal view kind leader) is =
          let ahead = lacks_ahead same elect x known.some proposal view kind leader is in
          let up = next_up TryVerify in
          omega (arith, ahead, up)
      by_answer verify.Wait is = omega arith
  replied_below CertifyCandidates =
      (let below = candidates_below in let grows = greatest_grows m.entries [] in omega (arith, below, grows))
  replied_below (Certified v success now) = by_answer (certified_answer x v) refl
    where
      judged : Bool → Option (ProposalFacts D) → ReplyFacts K D
      judged = Judged

      by_answer : (o : Option (ProposalFacts D)) → certified_answer x v ≡ o
          → highest_passed (judged success o) (Certified v success now) ≤ highest_received
          (next_member (Certified v success now)) (next_state (Certified v success now))
      by_answer None is = omega arith
      by_answer (Some n) is =
          let below = judged_below v n is in
          let grows = greatest_grows m.entries (recorded_by same elect x (Certified v success now)) in
          omega (arith, below, grows)
  replied_below call = omega arith

  -- the member has failed, or it has not, and what it received is of no view above those that it has heard of
  pub record HasReceived (call : CallFacts D) (replied : ReplyFacts K D) (left : MemberFacts K L D) : Type 0 where
    pub state : StateFacts K L D
    pub alive : left.life ≡ Some state
    pub up : highest_received m x ≤ highest_received left state
    pub low : highest_passed replied call ≤ highest_received left state

  pub call_received : (call : CallFacts D) (replied : ReplyFacts K D) (left : MemberFacts K L D) → m.life ≡ Some x
      → IsCall same elect m call replied left → (left.life ≡ None) ⊎ HasReceived call replied left
  unfolding IsCall
  call_received call replied left alive is_call =
      by_answer (subst (λ life. AnswersAlive same elect life m call replied left) alive is_call)
    where
      still : replied ≡ NotAllowed → left ≡ m → HasReceived call replied left
      still tells leaves = record {
        state = x;
        alive = ap (λ (n : MemberFacts K L D). n.life) leaves ∙ alive;
        up = rw leaves (omega arith);
        low = rw tells (omega arith);
      }

      faulty : (fault : Fault) → replied ≡ Refused fault → left ≡ m → HasReceived call replied left
      faulty fault tells leaves = record {
        state = x;
        alive = ap (λ (n : MemberFacts K L D). n.life) leaves ∙ alive;
        up = rw leaves (omega arith);
        low = rw tells (omega arith);
      }

      by_fault : (o : Option Fault) → fault_of x call ≡ o
          → replied ≡ unless_refused o (answer same elect x m.outstanding_work call)
          → left ≡ unless_retained o m (next_member call) → HasReceived call replied left
      by_fault None none tells leaves = record {
        state = next_state call;
        alive = ap (λ (n : MemberFacts K L D). n.life) leaves;
        up = rw leaves (called_up call);
        low = rw (tells, leaves) (replied_below call);
      }
      by_fault (Some fault) due tells leaves = faulty fault tells leaves

      by_allowed : (b : Bool) → is_allowed x m.outstanding_work call ≡ b
          → replied ≡ (if b then unless_refused (fault_of x call) (answer same elect x m.outstanding_work call)
          else NotAllowed) → left ≡ (if b then unless_retained (fault_of x call) m (next_member call) else m)
          → HasReceived call replied left
      by_allowed true allowed tells leaves = by_fault (fault_of x call) refl tells leaves
      by_allowed false other tells leaves = still tells leaves

      by_answer : AnswersAlive same elect (Some x) m call replied left → (left.life ≡ None)
          ⊎ HasReceived call replied left
      by_answer (inl (tells, leaves)) = inr (by_allowed (is_allowed x m.outstanding_work call) refl tells leaves)
      by_answer (inr (_, tells, inl (_, leaves))) = inr (faulty _ tells leaves)
      by_answer (inr (_, tells, inr (_, _, leaves))) = inl (ap (λ (n : MemberFacts K L D). n.life) leaves)

-- the record is pruned

module _ {K L D : Type 0} (m : MemberFacts K L D) (x : StateFacts K L D) where
  pub pruned_received : m.life ≡ Some x → highest_received m x ≤ highest_received (pruned_member m) x
  pruned_received alive =
      let reaches = greatest_stays m.entries (stays_within m) (finalized_in m.entries - m.retention) (omega arith)
      (λ v gone. (let parts = not_or (tracks m.life v) (nat_le (finalized_in m.entries - m.retention) v) gone in
      leb-false (finalized_in m.entries - m.retention) v parts.1)) in
      omega (arith, reaches)
