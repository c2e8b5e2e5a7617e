-- What ignored calls change of a member.
use Rattle.std.proofs.Common.{◌≡◌, refl, ap, sym, ◌∙◌, ℕ, eqb, Bool, true, false, not, ◌&&◌, cond, ◌++◌, append-nil, Option, Some, None, is_some, unwrap_or, inl, inr}
use Rattle.std.specs.Option.{option_map_or}
use Rattle.std.specs.Prelude.{option_and_then}
use Rattle.std.specs.Cmp.{nat_cmp_total}
use Rattle.std.specs.FinMap.Entries.{find, put, find-put}
use Rattle.std.specs.Ordering.{nat_cmp}
use Rattle.std.proofs.lemmas.Bool.{false≢true, eqb-true}
use Rattle.simplex_types.specs.Certificates.{ProposalFacts, Verdict}
use Rattle.simplex_types.specs.declared.reasons.TimeoutReason.{TimeoutReason}
use Rattle.simplex_types.specs.declared.types.fault.Fault.{Fault}
use Rattle.simplex_round.specs.declared.round.Decision.{Decision}
use Rattle.simplex_round.specs.declared.round.Decision.TheVariants as decision
use Rattle.simplex_round.specs.Round.{RoundFacts, new_round, is_judged, has_no_latch, with_first_timeout, with_latch}
use Rattle.simplex_view_maps.proofs.Maps.{is_eq-nat_cmp}
use Rattle.simplex_voter.specs.Certification.{certified_answer, verdict_taken}
use Rattle.simplex_voter.specs.ViewEntry.{at_moment}
use Rattle.simplex_voter.specs.Facts.{StateFacts, Elect, round_at, round_of, round_number, with_round}
use Rattle.simplex_voter.specs.Refusals.{is_started}
use Rattle.simplex_voter.specs.Timeouts.{can_trigger, trigger_answer, after_trigger_timeout}
use Rattle.simplex_voter.proofs.Gaps.{and_parts, not_true}
use Rattle.simplex_member.specs.CallConditions.{is_allowed, fault_of}
use Rattle.simplex_member.specs.CallSemantics.{answer, if_new}
use Rattle.simplex_member.specs.Calls.{CallFacts, ReplyFacts, NotAllowed, Judged, TryPropose, TriggerTimeout, Certified}
use Rattle.simplex_member.specs.MemberFacts.{MemberFacts, IsCall, AnswersAlive, unless_refused, unless_retained, with_call}
use Rattle.simplex_member.specs.OutstandingWork.{OutstandingWork, without_offer}
use Rattle.engine_outbox.specs.Refusals.{is_refused, says_nothing, HasNoted, IsNoted, without_offer_at, IsLeftByCall}

-- a reason that does not count

unlatched : (d : Decision) (timeout : ℕ × TimeoutReason) → has_no_latch d ≡ false → with_first_timeout d timeout ≡ d
unlatched (decision.Pending leader certification None) timeout latched = absurd (false≢true (sym latched))
unlatched (decision.Pending leader certification (Some first)) timeout latched = refl
unlatched (decision.Nullify retry) timeout latched = refl
unlatched decision.Finalize timeout latched = refl

second_part : (a b c : Bool) → (a && b && c) ≡ true → b ≡ true
second_part true true c are = refl
second_part true false c are = absurd (false≢true are)
second_part false b c are = absurd (false≢true are)

is_there : {A : Type 0} (o : Option A) (otherwise : A) → is_some o ≡ true → o ≡ Some (unwrap_or o otherwise)
is_there None otherwise is = absurd (false≢true is)
is_there (Some a) otherwise is = refl

module _ {K L D : Type 0} (x : StateFacts K L D) (view : ℕ) (reason : TimeoutReason) (now : ℕ) where
  abbrev latched : RoundFacts K D
  latched = with_latch (round_of x view) now reason

  -- the round is put in its place
  stands_still : can_trigger x view reason ≡ true → has_no_latch (round_of x view).decision ≡ false → (other : ℕ)
      → find nat_cmp other (put nat_cmp view latched x.rounds) ≡ find nat_cmp other x.rounds
  stands_still can waits other =
      find-put nat_cmp nat_cmp_total other view latched x.rounds
      ∙ ap (λ b. cond b (Some latched) (find nat_cmp other x.rounds)) (is_eq-nat_cmp other view)
      ∙ by_view (eqb other view) refl
    where
      same_round : Some latched ≡ find nat_cmp view x.rounds
      same_round =
          ap (λ d. Some (record (round_of x view) { decision = d }))
          (unlatched (round_of x view).decision (now, reason) waits)
          ∙ sym (is_there (round_at x view) (new_round x.me x.members (round_number x view))
          (second_part _ (is_some (round_at x view)) _ can))

      by_view : (t : Bool) → eqb other view ≡ t
          → cond t (Some latched) (find nat_cmp other x.rounds) ≡ find nat_cmp other x.rounds
      by_view false apart = refl
      by_view true at = same_round ∙ ap (λ v. find nat_cmp v x.rounds) (sym (eqb-true other view at))

  trigger_noted : trigger_answer x view reason ≡ false → HasNoted now x (after_trigger_timeout x view reason now)
  trigger_noted says = by_test (can_trigger x view reason) refl says
    where
      by_test : (b : Bool) → can_trigger x view reason ≡ b → (b && has_no_latch (round_of x view).decision) ≡ false
          → HasNoted now x (cond b (with_round (at_moment x now) view latched) (at_moment x now))
      by_test false can says = record { rounds = λ other. refl; same = refl }
      by_test true can says = record { rounds = stands_still can says; same = refl }

-- a verdict on a view that is not tracked

none_judged : (K : Type 0) {D : Type 0} (success : Bool) (o : Option (ProposalFacts D))
    → says_nothing {K = K} (Judged success o) ≡ true → o ≡ None
none_judged K success None says = refl
none_judged K success (Some c) says = absurd (false≢true says)

untracked : {K D : Type 0} (success : Bool) (o : Option (RoundFacts K D))
    → option_map_or (λ r. is_some r.notarization && not (is_judged (not success) r.certification)) o true ≡ true
    → option_and_then (λ r. r.notarization) o ≡ None → o ≡ None
untracked success None takes none = refl
untracked success (Some r) takes none = absurd
    (false≢true (sym (ap is_some none)
    ∙ (and_parts (is_some r.notarization) (not (is_judged (not success) r.certification)) takes).0))

module _ {K L D : Type 0} (same : D → D → Bool) (elect : Elect L) (x : StateFacts K L D) (m : MemberFacts K L D)
    (view : ℕ) (success : Bool) (now : ℕ) where
  abbrev left_where : Option (RoundFacts K D) → MemberFacts K L D
  left_where o = record m {
    life = Some (cond (is_some o) (verdict_taken elect (at_moment x now) view success now) (at_moment x now));
    outstanding_work = without_offer m.outstanding_work view;
    entries = m.entries ++ if_new (option_map_or
        (λ r. not (is_judged true r.certification) && not (is_judged false r.certification)) o false)
        (Verdict (round_number x view) success);
  }

  verdict_noted : (left : MemberFacts K L D) → m.life ≡ Some x
      → is_allowed x m.outstanding_work (Certified view success now) ≡ true → certified_answer x view ≡ None
      → left ≡ with_call same elect x m (Certified view success now) → IsNoted now (without_offer_at view m) left
  verdict_noted left alive allowed none leaves =
      let out = untracked success (round_at x view) (and_parts (is_started x) _ allowed).1 none in
      record {
        before = x;
        after = at_moment x now;
        alive = alive;
        noted = record { rounds = λ other. refl; same = refl };
        same = leaves ∙ ap left_where out
            ∙ ap (λ entries. record m {
              life = Some (at_moment x now);
              outstanding_work = without_offer m.outstanding_work view;
              entries = entries;
            }) (append-nil m.entries);
      }

-- all calls

module _ {K L D : Type 0} where
  same_left : (call : CallFacts D) (m left : MemberFacts K L D) → left ≡ m → IsLeftByCall call m left
  same_left (TriggerTimeout _ _ _) m left is = inl is
  same_left (Certified _ _ _) m left is = inl is
  same_left _ m left is = is

module _ {K L D : Type 0} (same : D → D → Bool) (elect : Elect L) where
  answer_stands : (x : StateFacts K L D) (o : OutstandingWork K D) (call : CallFacts D)
      → is_refused (answer same elect x o call) ≡ false
  answer_stands x o TryPropose = refl
  answer_stands x o _ = refl

  -- a refused call
  pub refused_left : (m left : MemberFacts K L D) (call : CallFacts D) (replied : ReplyFacts K D)
      → IsCall same elect m call replied left → is_refused replied ≡ true → left ≡ m
  unfolding IsCall
  refused_left m left call replied is_call refused = by_life m.life is_call
    where
      by_test : (x : StateFacts K L D) (b : Bool) (due : Option Fault)
          → replied ≡ cond b (unless_refused due (answer same elect x m.outstanding_work call)) NotAllowed
          → left ≡ cond b (unless_retained due m (with_call same elect x m call)) m → left ≡ m
      by_test x false due tells leaves = leaves
      by_test x true (Some due) tells leaves = leaves
      by_test x true None tells leaves = absurd
          (false≢true (sym (ap is_refused tells ∙ answer_stands x m.outstanding_work call) ∙ refused))

      by_life : (life : Option (StateFacts K L D)) → AnswersAlive same elect life m call replied left → left ≡ m
      by_life None (tells, leaves) = leaves
      by_life (Some x) (inl (tells, leaves)) =
          by_test x (is_allowed x m.outstanding_work call) (fault_of x call) tells leaves
      by_life (Some x) (inr (_, tells, _)) = absurd (false≢true (sym (ap is_refused tells) ∙ refused))

  answered_left : (x : StateFacts K L D) (m left : MemberFacts K L D) (call : CallFacts D) (replied : ReplyFacts K D)
      → m.life ≡ Some x → is_allowed x m.outstanding_work call ≡ true
      → replied ≡ answer same elect x m.outstanding_work call → left ≡ with_call same elect x m call
      → says_nothing replied ≡ true → IsLeftByCall call m left
  answered_left x m left (TriggerTimeout view reason now) replied alive allowed tells leaves says =
      inr (record {
        before = x;
        after = after_trigger_timeout x view reason now;
        alive = alive;
        noted = trigger_noted x view reason now
            (not_true (trigger_answer x view reason) (sym (ap says_nothing tells) ∙ says));
        same = leaves ∙ ap (λ entries. record m
            { life = Some (after_trigger_timeout x view reason now); entries = entries }) (append-nil m.entries);
      })
  answered_left x m left (Certified view success now) replied alive allowed tells leaves says =
      inr (verdict_noted same elect x m view success now left alive allowed
      (none_judged K success (certified_answer x view) (sym (ap says_nothing tells) ∙ says)) leaves)
  answered_left x m left _ replied alive allowed tells leaves says =
      absurd (false≢true (sym (ap says_nothing tells) ∙ says))

  -- an ignored call
  pub dropped_left : (m left : MemberFacts K L D) (call : CallFacts D) (replied : ReplyFacts K D)
      → IsCall same elect m call replied left → says_nothing replied ≡ true → IsLeftByCall call m left
  unfolding IsCall
  dropped_left m left call replied is_call says = by_life m.life refl is_call
    where
      by_test : (x : StateFacts K L D) → m.life ≡ Some x → (b : Bool) (due : Option Fault)
          → is_allowed x m.outstanding_work call ≡ b
          → replied ≡ cond b (unless_refused due (answer same elect x m.outstanding_work call)) NotAllowed
          → left ≡ cond b (unless_retained due m (with_call same elect x m call)) m → IsLeftByCall call m left
      by_test x alive false due allowed tells leaves = same_left call m left leaves
      by_test x alive true (Some due) allowed tells leaves = same_left call m left leaves
      by_test x alive true None allowed tells leaves = answered_left x m left call replied alive allowed tells leaves
          says

      by_life : (life : Option (StateFacts K L D)) → m.life ≡ life → AnswersAlive same elect life m call replied left
          → IsLeftByCall call m left
      by_life None gone (tells, leaves) = same_left call m left leaves
      by_life (Some x) alive (inl (tells, leaves)) =
          by_test x alive (is_allowed x m.outstanding_work call) (fault_of x call) refl tells leaves
      by_life (Some x) alive (inr (_, tells, _)) = absurd (false≢true (sym (ap says_nothing tells) ∙ says))
