-- The calls by which a member comes to a view: nullifications that skip to it, and what certifies or finalizes the
-- parent.
use Rattle.std.proofs.Common.{◌≡◌, refl, ap, sym, ◌∙◌, subst, ◌⊎◌, inl, inr, ℕ, ◌+◌, ◌<◌, ◌≤◌, max, Bool, true, false, ◌&&◌, not, List, [], ◌∷◌, map, Contains, Option, Some, None, is_some, unwrap_or, arith}
use Rattle.std.specs.Prelude.{◌==◌, option_and_then, is_none}
use Rattle.std.specs.Option.{option_map_or}
use Rattle.std.proofs.Math.Bool.{and-false}
use Rattle.std.proofs.lemmas.Bool.{eq-eqb, lt-ltb}
use Rattle.std.proofs.lemmas.List.Elements.{Contains-append_cases}
use Rattle.simplex_types.specs.Certificates.{ProposalFacts, NullificationFacts}
use Rattle.simplex_types.specs.Terms.{next_term_start}
use Rattle.simplex_types.specs.declared.types.messages.Proposal.{Proposal}
use Rattle.simplex_types.specs.declared.types.messages.Subject.{Subject}
use Rattle.simplex_types.specs.declared.types.messages.Subject.TheVariants as subject
use Rattle.simplex_types.specs.declared.types.numbers.Round.{Round}
use Rattle.simplex_round.specs.declared.round.Certification.{Certification}
use Rattle.simplex_round.specs.declared.round.Certification.TheVariants as certification
use Rattle.simplex_round.specs.Round.{RoundFacts, new_round, is_judged}
use Rattle.simplex_voter.specs.Certification.{takes_verdict}
use Rattle.simplex_voter.specs.Facts.{StateFacts, Elect, round_at, round_of, round_number, is_tracked}
use Rattle.simplex_voter.specs.Refusals.{is_too_large, names_too_large, is_started, enters_late}
use Rattle.simplex_voter.proofs.Gaps.{and_both, or_right}
use Rattle.simplex_member.specs.OutstandingWork.{is_among}
use Rattle.simplex_member.specs.CallConditions.{is_allowed, fault_of}
use Rattle.simplex_member.specs.Calls.{CallFacts, ReplyFacts, Judged, SetProposal, AddNotarization, AddNullification, AddFinalization, Certified}
use Rattle.simplex_member.specs.MemberFacts.{MemberFacts, with_call}
use Rattle.simplex_member.specs.CallSemantics.{answer, after_call}
use Rattle.simplex_member.specs.Runs.{StepFacts, Calls, IsRun}
use Rattle.laws_safety.specs.Traces.{Accepts, trace_of_call, trace_of_steps}
use Rattle.simplex_record.specs.Events as event
use Rattle.simplex_record.specs.Events.{Event, after_event}
use Rattle.laws_history.specs.LeaderHistory.{tracks_by}
use Rattle.laws_history.specs.HistoryFacts.{verdict_of}
use Rattle.laws_history.specs.HistoryFolds.{or_new}
use Rattle.laws_history.proofs.EventsWorked.{event_works}
use Rattle.laws_history.proofs.EventFacts.{FollowsEvent}
use Rattle.laws_history.proofs.ReplayEvents.{event_follows}
use Rattle.laws_safety.proofs.lists.Splits.{Contains-cases, Contains-cons_rest, only_one}
use Rattle.laws_safety.proofs.lives.Progress.{no_fault_due}
use Rattle.laws_progress.specs.NetworkStates.{IsSetUpAs}
use Rattle.laws_progress.specs.ViewCauses.{judged_by, judged_in}
use Rattle.laws_progress.proofs.runs.Brought.{some_brought}
use Rattle.laws_progress.proofs.runs.LedEvents.{Nears, event_nears, no_window_there, takes_it, not_late, given_less, nullified_nears}
use Rattle.laws_progress.proofs.states.Sequences.{answered}
use Rattle.laws_progress.proofs.states.SkippedViews.{small_under}

module _ {K L D : Type 0} (same : D → D → Bool) (elect : Elect L) (Q : Subject D → Type 0)
    (R : Proposal D → Type 0) where
  -- the member continues by calls that pass such certificates and certify such proposals, and its state is such then
  pub record Attains (P : StateFacts K L D → Type 0) (m : MemberFacts K L D) : Type 0 where
    pub calls : List (CallFacts D)
    pub replies : List (ReplyFacts K D)
    pub end : MemberFacts K L D
    pub run : IsRun same elect m (map Calls calls) replies end
    pub accepts : (c : Subject D) → Contains (trace_of_steps {L = L} (map Calls calls) replies) (Accepts c) → Q c
    pub certifies : (p : Proposal D) → Contains (judged_in replies) (true, p) → R p
    pub hears : (v : ℕ) (p : Proposal D) → Contains {X = StepFacts K L D} (map Calls calls) (Calls (SetProposal v p))
        → ⊥
    pub state : StateFacts K L D
    pub lives : end.life ≡ Some state
    pub holds : P state

  pub comes_here : (P : StateFacts K L D → Type 0) (m : MemberFacts K L D) (x : StateFacts K L D) → m.life ≡ Some x
      → P x → Attains P m
  comes_here P m x alive holds = record {
    calls = [];
    replies = [];
    end = m;
    run = refl;
    accepts = λ c h. absurd (omega (arith, h.1));
    certifies = λ p h. absurd (omega (arith, h.1));
    hears = λ v p h. absurd (omega (arith, h.1));
    state = x;
    lives = alive;
    holds = holds;
  }

  pub comes_on : (P : StateFacts K L D → Type 0) (m : MemberFacts K L D) (x : StateFacts K L D) (call : CallFacts D)
      → m.life ≡ Some x → is_allowed x m.outstanding_work call ≡ true → fault_of x call ≡ None
      → ((c : Subject D) → Contains (trace_of_call call (answer same elect x m.outstanding_work call)) (Accepts c)
      → Q c)
      → ((p : Proposal D) → Contains (judged_by (answer same elect x m.outstanding_work call)) (true, p) → R p)
      → ((v : ℕ) (p : Proposal D) → call ≡ SetProposal v p → ⊥)
      → Attains P (with_call same elect x m call) → Attains P m
  comes_on P m x call alive allowed none accepted certified received rest = record {
    calls = call ∷ rest.calls;
    replies = replied ∷ rest.replies;
    end = rest.end;
    run = (with_call same elect x m call, answered same elect m x call alive allowed none, rest.run);
    accepts = λ c h. elim (Contains-append_cases (trace_of_call call replied)
        (trace_of_steps {L = L} (map Calls rest.calls) rest.replies) (Accepts c) h)
        [ inl now ↦ accepted c now | inr later ↦ rest.accepts c later ];
    certifies = λ p h. elim (Contains-append_cases (judged_by replied) (judged_in rest.replies) (true, p) h)
        [ inl now ↦ certified p now | inr later ↦ rest.certifies p later ];
    hears = λ v p h. elim (Contains-cases {X = StepFacts K L D} (Calls call) (map Calls rest.calls)
        (Calls (SetProposal v p)) h) [ inl here ↦ received v p (cc) | inr later ↦ rest.hears v p later ];
    state = rest.state;
    lives = rest.lives;
    holds = rest.holds;
  }
    where
      replied : ReplyFacts K D
      replied = answer same elect x m.outstanding_work call

-- a nullification that may be passed in, and skips to the view or below
pub record SkipsUpTo {D : Type 0} (Q : Subject D → Type 0) (term_length epoch view start finalized : ℕ)
    (round : Round) : Type 0 where
  pub accepted : Q (subject.Nullify round)
  pub in_epoch : round.epoch ≡ epoch
  pub some : 1 ≤ round.view
  pub above : finalized ≤ round.view
  pub low : round.view < start
  pub next : next_term_start term_length round.view ≤ view

-- the member came to the view or below, where these nullifications are known, and is on the parent
pub record Came {K L D : Type 0} (term_length epoch count me : ℕ) (elector : L) (parent view start : ℕ)
    (given : Round → Type 0) (x : StateFacts K L D) : Type 0 where
  pub set : IsSetUpAs epoch count elector me x
  pub terms : x.terms.term_length ≡ term_length
  pub low : x.finalized ≤ parent
  pub above : parent < x.current
  pub reached : x.current ≤ view
  pub untouched : is_tracked x start ≡ false
  pub known : (round : Round) → given round
      → (is_among round.view x.nullified ≡ true) × (next_term_start term_length round.view ≤ x.current)
  -- the last finalized view, or one that is notarized and certified
  pub stands : (x.finalized ≡ parent)
      ⊎ ((verdict_of (round_of x parent).certification ≡ Some true) × (is_some (round_of x parent).notarization ≡ true))

module _ {K L D : Type 0} (same : D → D → Bool) (decides : (d e : D) → same d e ≡ true → d ≡ e) (elect : Elect L)
    (Q : Subject D → Type 0) (R : Proposal D → Type 0) (term_length epoch count me : ℕ) (elector : L)
    (parent view start : ℕ) (far : view < start) (small : is_too_large start ≡ false) where
  abbrev Near : ℕ → Option Bool → (Round → Type 0) → StateFacts K L D → Type 0
  Near finalized verdict given x = Nears term_length epoch count me elector parent view start finalized verdict given x

  abbrev Arrived : (Round → Type 0) → StateFacts K L D → Type 0
  Arrived given x = Came term_length epoch count me elector parent view start given x

  -- the nullifications, one after another
  pub pass_every : (P : StateFacts K L D → Type 0) (finalized : ℕ) (verdict : Option Bool) (rounds : List Round)
      (given : Round → Type 0) → ((r : Round) → Contains rounds r
      → SkipsUpTo Q term_length epoch view start finalized r) → (m : MemberFacts K L D) (x : StateFacts K L D)
      → m.life ≡ Some x → Near finalized verdict given x
      → ((n : MemberFacts K L D) (y : StateFacts K L D) → n.life ≡ Some y
      → Near finalized verdict (λ r. Contains rounds r ⊎ given r) y → Attains same elect Q R P n)
      → Attains same elect Q R P m
  pass_every P finalized verdict [] given fits m x alive nears rest =
      rest m x alive (given_less term_length epoch count me elector parent view start finalized verdict given x nears
      (λ r. Contains [] r ⊎ given r) (λ r h. elim h [ inl none ↦ absurd (omega (arith, none.1)) | inr old ↦ old ]))
  pass_every P finalized verdict (round ∷ rounds) given fits m x alive nears rest =
      comes_on same elect Q R P m x (AddNullification c 0) alive takes no_fault
      (λ d h. subst Q (accepted_is d h) here.accepted) (λ p h. absurd (omega (arith, h.1))) (λ v p e. cc)
      (pass_every P finalized verdict rounds (λ r. (r ≡ round) ⊎ given r)
      (λ r h. fits r (Contains-cons_rest round rounds r h)) (with_call same elect x m (AddNullification c 0))
      (after_call same elect x m.outstanding_work (AddNullification c 0)) refl then_near
      (λ n y lives near. rest n y lives (given_less term_length epoch count me elector parent view start finalized
      verdict (λ r. Contains rounds r ⊎ ((r ≡ round) ⊎ given r)) y near (λ r. Contains (round ∷ rounds) r ⊎ given r)
      regroup)))
    where
      c : NullificationFacts
      c = record { round = round; bytes = [] }

      here : SkipsUpTo Q term_length epoch view start finalized round
      here = fits round (0, omega arith, refl)

      takes : is_allowed x m.outstanding_work (AddNullification c 0) ≡ true
      takes = takes_it term_length epoch count me elector parent view start finalized verdict given x nears round
          here.in_epoch here.some here.above

      no_fault : fault_of x (AddNullification c 0) ≡ None
      no_fault = no_fault_due x.failed (is_too_large round.view)
          (enters_late x (next_term_start x.terms.term_length round.view) 0) nears.alive
          (small_under round.view start (omega (arith, here.low)) small)
          (not_late term_length epoch count me elector parent view start finalized verdict given x nears
          (next_term_start x.terms.term_length round.view))

      accepted_is : (d : Subject D) → Contains (Accepts (subject.Nullify round) ∷ []) (Accepts d)
          → subject.Nullify round ≡ d
      accepted_is d h = let e = only_one _ _ h in cc

      then_near : Near finalized verdict (λ r. (r ≡ round) ⊎ given r)
          (after_event same elect x (event.AddNullification c 0))
      then_near = nullified_nears same decides elect term_length epoch count me elector parent view start finalized
          verdict given x nears c far takes here.next here.low

      regroup : (r : Round) → Contains (round ∷ rounds) r ⊎ given r → Contains rounds r ⊎ ((r ≡ round) ⊎ given r)
      regroup r (inl h) = elim (Contains-cases round rounds r h)
          [ inl first ↦ inr (inl (sym first)) | inr later ↦ inl later ]
      regroup r (inr old) = inr (inr old)

  -- where the parent is the last finalized view nothing more is needed
  pub stays_there : (finalized : ℕ) (verdict : Option Bool) (given : Round → Type 0) → finalized ≡ parent
      → (m : MemberFacts K L D) (x : StateFacts K L D) → m.life ≡ Some x → Near finalized verdict given x
      → Attains same elect Q R (Arrived given) m
  stays_there finalized verdict given is m x alive near = comes_here same elect Q R (Arrived given) m x alive (record {
    set = near.set;
    terms = near.terms;
    low = omega (arith, near.passed, is);
    above = omega (arith, near.passed, is, near.ahead);
    reached = near.reached;
    untouched = near.untouched;
    known = near.known;
    stands = inl (near.passed ∙ is);
  })

  module _ (q : Proposal D) (view_is : q.round.view ≡ parent) (in_epoch : q.round.epoch ≡ epoch)
      (parent_below : q.parent < q.round.view) (some : 1 ≤ parent) (next : parent + 1 ≤ view)
      (behind : next_term_start term_length parent ≤ start) (finalized : ℕ) (verdict : Option Bool)
      (given : Round → Type 0) (m : MemberFacts K L D) (x : StateFacts K L D) (alive : m.life ≡ Some x)
      (near : Near finalized verdict given x) where
    abbrev c : ProposalFacts D
    c = record { proposal = q; bytes = [] }

    small_names : names_too_large q ≡ false
    small_names = rw (
      small_under q.round.view start (omega (arith, view_is, next, far)) small,
      small_under q.parent start (omega (arith, parent_below, view_is, next, far)) small,
    ) refl

    shut : (y : StateFacts K L D) (is_first : Bool) → y.terms.term_length ≡ term_length
        → tracks_by elect y is_first start c ≡ false
    shut y is_first terms = no_window_there elect y c is_first start
        (subst (λ n. next_term_start n q.round.view ≤ start) (sym terms)
        (subst (λ v. next_term_start term_length v ≤ start) (sym view_is) behind)) (omega (arith, view_is, next, far))

    -- if it was finalized, its finalization is passed in
    pub takes_final : finalized ≤ parent → Q (subject.Finalize q) → Attains same elect Q R (Arrived given) m
    takes_final low accepted =
        comes_on same elect Q R (Arrived given) m x (AddFinalization c 0) alive takes no_fault
        (λ d h. subst Q (accepted_is d h) accepted) (λ p h. absurd (omega (arith, h.1))) (λ v p e. cc)
        (comes_here same elect Q R (Arrived given) (with_call same elect x m (AddFinalization c 0))
        (after_call same elect x m.outstanding_work (AddFinalization c 0)) refl (record {
          set = after.set;
          terms = after.terms;
          low = omega (arith, after.passed);
          above = omega (arith, after.passed, after.ahead);
          reached = after.reached;
          untouched = after.untouched;
          known = after.known;
          stands = inl after.passed;
        }))
      where
        e : Event K D
        e = event.AddFinalization c 0

        takes : is_allowed x m.outstanding_work (AddFinalization c 0) ≡ true
        takes = takes_it term_length epoch count me elector parent view start finalized verdict given x near q.round
            in_epoch (omega (arith, view_is, some)) (omega (arith, view_is, low))

        no_fault : fault_of x (AddFinalization c 0) ≡ None
        no_fault = no_fault_due x.failed (names_too_large q) (enters_late x (q.round.view + 1) 0) near.alive small_names
            (not_late term_length epoch count me elector parent view start finalized verdict given x near
            (q.round.view + 1))

        accepted_is : (d : Subject D) → Contains (Accepts (subject.Finalize q) ∷ []) (Accepts d)
            → subject.Finalize q ≡ d
        accepted_is d h = let one = only_one _ _ h in cc

        after : Near parent verdict given (after_event same elect x e)
        after = event_nears same decides elect term_length epoch count me elector parent view start x e takes refl far
            finalized parent verdict verdict given near (omega (arith, view_is, next))
            (shut x (is_none (round_of x q.round.view).finalization) near.terms) (omega (arith, view_is, low)) refl

    -- if it was certified, its notarization is passed in, and then a true verdict
    pub takes_certified : finalized ≤ parent → (verdict ≡ Some false → ⊥) → Q (subject.Notarize q)
        → ((p : Proposal D) → p.round.view ≡ parent → R p) → Attains same elect Q R (Arrived given) m
    takes_certified low not_bad accepted certified =
        comes_on same elect Q R (Arrived given) m x (AddNotarization c) alive takes no_fault
        (λ d h. subst Q (accepted_is d h) accepted) (λ p h. absurd (omega (arith, h.1))) (λ v p e. cc)
        (comes_on same elect Q R (Arrived given) (with_call same elect x m (AddNotarization c)) y
        (Certified parent true 0) refl then_takes then_no_fault (λ d h. absurd (omega (arith, h.1)))
        (λ p h. certified p (replied_placed (round_at y parent) refl p h)) (λ v p e. cc)
        (comes_here same elect Q R (Arrived given) _ z refl (record {
          set = last.set;
          terms = last.terms;
          low = omega (arith, last.passed, low);
          above = omega (arith, risen);
          reached = last.reached;
          untouched = last.untouched;
          known = last.known;
          stands =
              inr (last.judged, ap (λ k. is_some k.notarization) (judging.rounds parent (omega arith)) ∙ notarized);
        })))
      where
        e : Event K D
        e = event.AddNotarization c

        y : StateFacts K L D
        y = after_event same elect x e

        takes : is_allowed x m.outstanding_work (AddNotarization c) ≡ true
        takes = takes_it term_length epoch count me elector parent view start finalized verdict given x near q.round
            in_epoch (omega (arith, view_is, some)) (omega (arith, view_is, low))

        no_fault : fault_of x (AddNotarization c) ≡ None
        no_fault = no_fault_due x.failed (names_too_large q) false near.alive small_names refl

        accepted_is : (d : Subject D) → Contains (Accepts (subject.Notarize q) ∷ []) (Accepts d)
            → subject.Notarize q ≡ d
        accepted_is d h = let one = only_one _ _ h in cc

        after : Near finalized verdict given y
        after = event_nears same decides elect term_length epoch count me elector parent view start x e takes refl far
            finalized finalized verdict verdict given near (omega arith)
            (shut x (is_none (round_of x q.round.view).notarization) near.terms) (omega arith) refl

        at_view : (parent == q.round.view) ≡ true
        at_view = eq-eqb parent q.round.view (sym view_is)

        notarized : is_some (round_of y parent).notarization ≡ true
        notarized = ap (λ k. is_some k.notarization)
            ((event_follows same decides elect x e takes).rounds parent (omega arith))
            ∙ rw at_view (some_brought (round_of x parent).notarization c)

        tracked : is_tracked y parent ≡ true
        tracked = ap (λ k. k.tracked) ((event_works same elect x e).work parent (omega arith))
            ∙ rw at_view (or_right _ true refl)

        g : Event K D
        g = event.Certified parent true 0

        z : StateFacts K L D
        z = after_event same elect y g

        no_other : (c : Certification) → verdict_of c ≡ verdict → not (is_judged (not true) c) ≡ true
        no_other certification.Ready is = refl
        no_other (certification.Outstanding t) is = refl
        no_other (certification.Judged true) is = refl
        no_other (certification.Judged false) is = absurd (not_bad (sym is))
        no_other certification.Aborted is = refl

        then_takes : takes_verdict y parent true ≡ true
        then_takes = and_both (is_started y) _ (lt-ltb 0 y.current (omega (arith, after.ahead)))
            (by_round (round_at y parent) refl)
          where
            by_round : (o : Option (RoundFacts K D)) → round_at y parent ≡ o
                → option_map_or (λ r. is_some r.notarization && not (is_judged (not true) r.certification)) o
                true ≡ true
            by_round None at = refl
            by_round (Some r) at =
                let here : round_of y parent ≡ r = ap
                (λ o. unwrap_or o (new_round y.me y.members (round_number y parent))) at in
                and_both (is_some r.notarization) _ (ap (λ (s : RoundFacts K D). is_some s.notarization) (sym here)
                ∙ notarized) (no_other r.certification
                (ap (λ (s : RoundFacts K D). verdict_of s.certification) (sym here) ∙ after.judged))

        then_no_fault : fault_of y (Certified parent true 0) ≡ None
        then_no_fault = no_fault_due y.failed false (true && is_tracked y parent && enters_late y (parent + 1) 0)
            after.alive refl (ap (λ b. true && is_tracked y parent && b)
            (not_late term_length epoch count me elector parent view start finalized verdict given y after (parent + 1))
            ∙ and-false (true && is_tracked y parent))

        replied_placed : (o : Option (RoundFacts K D)) → round_at y parent ≡ o → (p : Proposal D)
            → Contains (judged_by {K = K} (Judged true (option_and_then (λ (r : RoundFacts K D). r.notarization) o)))
            (true, p) → p.round.view ≡ parent
        replied_placed None at p h = absurd (omega (arith, h.1))
        replied_placed (Some r) at p h = by_notarization r.notarization refl h
          where
            by_notarization : (n : Option (ProposalFacts D)) → r.notarization ≡ n
                → Contains (judged_by {K = K} (Judged true n)) (true, p) → p.round.view ≡ parent
            by_notarization None is h = absurd (omega (arith, h.1))
            by_notarization (Some d) is h =
                let there : (round_of y parent).notarization ≡ Some d =
                ap (λ o. (unwrap_or o (new_round y.me y.members (round_number y parent))).notarization) at ∙ is in
                subst (λ (s : Proposal D). s.round.view ≡ parent) (ap (λ (e : Bool × Proposal D). e.1) (only_one _ _ h))
                (after.placed d there)

        judging : FollowsEvent same elect g y z
        judging = event_follows same decides elect y g then_takes

        or_true : (v : Option Bool) → (v ≡ Some false → ⊥) → Some true ≡ or_new v (Some true)
        or_true None other = refl
        or_true (Some true) other = refl
        or_true (Some false) other = absurd (other refl)

        last : Near finalized (Some true) given z
        last = event_nears same decides elect term_length epoch count me elector parent view start y g then_takes refl
            far finalized finalized verdict (Some true) given after (rw tracked next) refl (omega arith)
            (rw (eq-eqb parent parent refl, tracked) (or_true verdict not_bad))

        risen : parent + 1 ≤ z.current
        risen =
            (let now : z.current ≡ max y.current (parent + 1) = judging.current ∙ rw tracked refl in omega (arith, now))
