-- Each notarized view without a verdict waits to be offered, is offered, or is not ready: events and calls keep that.
use Rattle.std.proofs.Common.{◌≡◌, ◌≢◌, refl, ap, sym, ◌∙◌, subst, ℕ, ◌+◌, ◌-◌, ◌<◌, ◌⊎◌, inl, inr, Bool, true, false, not, cond, ◌&&◌, ◌||◌, if◌then◌else◌, nat_lt, List, [], ◌∷◌, Option, Some, None, is_some, unwrap_or, arith}
use Rattle.std.specs.Prelude.{◌==◌, is_none, option_map, option_and_then}
use Rattle.std.specs.BTreeSet.{insert_key}
use Rattle.std.specs.List.{fold, list_any, filter_map, cons_option}
use Rattle.std.specs.Option.{option_map_or}
use Rattle.std.specs.Ordering.{nat_cmp}
use Rattle.std.proofs.lemmas.Bool.{false≢true, true≢false, eq-eqb, eqb-true, ne_eqb, lt-ltb, cases_lt, cases_eq, or_cases, or_left, and_cases}
use Rattle.simplex_types.specs.Certificates.{ProposalFacts}
use Rattle.simplex_types.specs.Proposal.{same_proposal}
use Rattle.simplex_types.specs.declared.types.messages.Context.{Context}
use Rattle.simplex_types.specs.declared.types.messages.Proposal.{Proposal}
use Rattle.simplex_types.proofs.Proposal.{same_proposal-refl}
use Rattle.simplex_round.specs.declared.round.Certification.{Certification}
use Rattle.simplex_round.specs.declared.round.Certification.TheVariants as certification
use Rattle.simplex_round.specs.Round.{RoundFacts, new_round, is_aborted, is_certified, is_ready, token_of, certifiable_proposal}
use Rattle.simplex_voter.specs.Certification.{offered_of, candidates_answer, certification_parent_ready}
use Rattle.simplex_voter.specs.Facts.{StateFacts, Elect, round_at, round_of, round_number, is_tracked}
use Rattle.simplex_voter.specs.Parents.{has_valid_parent_span}
use Rattle.simplex_voter.specs.Payloads.{certified_payload, explicit_ancestry_payload}
use Rattle.simplex_voter.specs.ProposalRequests.{propose_answer, supersede_answer}
use Rattle.simplex_voter.specs.Rules.{required_certification_parent}
use Rattle.simplex_voter.specs.Verification.{verify_answer}
use Rattle.simplex_voter.specs.declared.voter.propose.ProposalRequest.{ProposalRequest}
use Rattle.simplex_voter.specs.declared.voter.verify.Verify.{Verify}
use Rattle.simplex_voter.specs.declared.voter.verify.Verify.TheVariants as verify
use Rattle.simplex_voter.proofs.Gaps.{and_parts, and_both, or_right, cases_option}
use Rattle.simplex_record.specs.Events as event
use Rattle.simplex_record.specs.Events.{Event, IsEvent, after_event, finalized_by_event}
use Rattle.simplex_member.specs.CallConditions.{is_allowed}
use Rattle.simplex_member.specs.Calls as calls
use Rattle.simplex_member.specs.Calls.{CallFacts}
use Rattle.simplex_member.specs.CallSemantics.{after_call, outstanding_work_after}
use Rattle.simplex_member.specs.Events.{in_context, events_of}
use Rattle.simplex_member.specs.OutstandingWork.{OutstandingWork, all_but, is_among, is_offered, context_at, without_context, with_open_request, with_verification, with_offers}
use Rattle.laws_safety.proofs.frames.CallsMake.{call_by_event}
use Rattle.laws_safety.proofs.votes.OutstandingWork.{among_noted}
use Rattle.laws_history.specs.HistoryFacts.{verdict_of}
use Rattle.laws_history.specs.HistoryFolds.{verdict_of_event}
use Rattle.laws_history.specs.WorkRequests.{names, sets_certification}
use Rattle.laws_meetings.proofs.LedViews.{verdict_so, unmapped}
use Rattle.laws_meetings.proofs.CandidateViews.{none_before, some_so, none_so, IsConsistent, IsNotarizedIfJudged, IsBased, NeedsParent, IsUnready, replays_verdict, clears, named_still, under_way, required_before, old, kept, below, verdict_is, certification_is, works, fresh, consistent_after, notarized_if_judged_after, based_after, unready_after}

-- ---- offers

module _ {D : Type 0} (v : ℕ) where
  fold_keeps : (ps : List (Proposal D)) (views : List ℕ) → is_among v views ≡ true
      → is_among v (fold (λ us (p : Proposal D). insert_key nat_cmp us p.round.view) views ps) ≡ true
  fold_keeps [] views is = is
  fold_keeps (p ∷ ps) views is =
      fold_keeps ps (insert_key nat_cmp views p.round.view)
      (among_noted p.round.view v views ∙ or_right (v == p.round.view) (is_among v views) is)

  fold_adds : (ps : List (Proposal D)) (views : List ℕ)
      → list_any (λ (p : Proposal D). v == p.round.view) ps ≡ true
      → is_among v (fold (λ us (p : Proposal D). insert_key nat_cmp us p.round.view) views ps) ≡ true
  fold_adds [] views is = absurd (false≢true is)
  fold_adds (p ∷ ps) views is =
      elim (or_cases (v == p.round.view) (list_any (λ (q : Proposal D). v == q.round.view) ps) is) [
        | inl here ↦ fold_keeps ps (insert_key nat_cmp views p.round.view)
            (among_noted p.round.view v views ∙ or_left (v == p.round.view) (is_among v views) here)
        | inr later ↦ fold_adds ps (insert_key nat_cmp views p.round.view) later
      ]

  -- the proposal of a view that waits is among those that are offered
  listed : (offer : ℕ → Option (Proposal D)) (p : Proposal D) → offer v ≡ Some p → p.round.view ≡ v
      → (views : List ℕ) → is_among v views ≡ true
      → list_any (λ (q : Proposal D). v == q.round.view) (filter_map offer views) ≡ true
  listed offer p is at [] among = absurd (false≢true among)
  listed offer p is at (u ∷ views) among = elim (or_cases (v == u) (is_among v views) among) [
    | inl here ↦ ap (λ o. list_any (λ (q : Proposal D). v == q.round.view) (cons_option o (filter_map offer views)))
        (ap offer (sym (eqb-true v u here)) ∙ is)
        ∙ or_left (v == p.round.view) _ (eq-eqb v p.round.view (sym at))
    | inr later ↦ behind (offer u) (filter_map offer views) (listed offer p is at views later)
  ]
    where
      behind : (o : Option (Proposal D)) (rest : List (Proposal D))
          → list_any (λ (q : Proposal D). v == q.round.view) rest ≡ true
          → list_any (λ (q : Proposal D). v == q.round.view) (cons_option o rest) ≡ true
      behind None rest there = there
      behind (Some q) rest there = or_right (v == q.round.view) _ there

-- a view stays among others once another one is left out
others_among : (w v : ℕ) (views : List ℕ) → (v ≡ w → ⊥) → is_among v views ≡ true → is_among v (all_but w views) ≡ true
others_among w v [] apart is = absurd (false≢true is)
others_among w v (u ∷ views) apart is =
    by_test (u == w) refl (others_among w v views apart) (or_cases (v == u) (is_among v views) is)
  where
    by_test : (b : Bool) → (u == w) ≡ b → (is_among v views ≡ true → is_among v (all_but w views) ≡ true)
        → ((v == u) ≡ true) ⊎ (is_among v views ≡ true)
        → is_among v (cond (not b) (u ∷ all_but w views) (all_but w views)) ≡ true
    by_test true left_out later (inl here) = absurd (apart (eqb-true v u here ∙ eqb-true u w left_out))
    by_test true left_out later (inr there) = later there
    by_test false stays later (inl here) = or_left (v == u) _ here
    by_test false stays later (inr there) = or_right (v == u) _ (later there)

-- ---- states

module _ {K L D : Type 0} (elect : Elect L) (waiting : OutstandingWork K D) (x : StateFacts K L D) where
  -- the view waits to be offered, is offered, or is not ready
  abbrev pub Waits : ℕ → Type 0
  Waits v = (is_among v x.named ≡ true) ⊎ (is_offered waiting v ≡ true) ⊎ IsUnready elect x v

  -- so does each notarized view above the last finalized one that has no verdict
  pub record OffersAll : Type 0 where
    pub based : IsBased x
    pub consistent : (v : ℕ) → x.finalized < v → IsConsistent v (round_of x v)
    pub judged : (v : ℕ) → x.finalized < v → IsNotarizedIfJudged x v
    pub offered : (v : ℕ) → x.finalized < v → is_some (token_of (round_of x v).certification) ≡ true
        → is_offered waiting v ≡ true
    pub waits : (v : ℕ) → x.finalized < v → is_some (round_of x v).notarization ≡ true
        → verdict_of (round_of x v).certification ≡ None → Waits v

-- the event tells that a certification is under way
abbrev pub is_handle : {K D : Type 0} → Event K D → Bool
is_handle (event.SetCertifyHandle v token) = true
is_handle _ = false

-- ---- an event

module _ {K L D : Type 0} (same : D → D → Bool) (decides : (d e : D) → same d e ≡ true → d ≡ e) (elect : Elect L)
    (x : StateFacts K L D) (e : Event K D) (takes : IsEvent x e) (waiting later : OutstandingWork K D)
    (plain : replays_verdict e ≡ false)
    (closed : (v : ℕ) → is_offered waiting v ≡ true
    → (is_offered later v ≡ true) ⊎ ((success : Bool) × (now : ℕ) × (e ≡ event.Certified v success now)))
    (begins : (v token : ℕ) → e ≡ event.SetCertifyHandle v token → is_offered later v ≡ true)
    (was : OffersAll elect waiting x) where
  abbrev after : StateFacts K L D
  after = after_event same elect x e

  -- a view that is not tracked has no notarization, and no certification
  untracked_round : (v : ℕ) → is_tracked x v ≡ false → round_of x v ≡ new_round x.me x.members (round_number x v)
  untracked_round v untracked =
      ap (λ o. unwrap_or o (new_round x.me x.members (round_number x v))) (none_so (round_at x v) untracked)

  module _ (v : ℕ) (above : after.finalized < v) where
    abbrev over : x.finalized < v
    over = old same decides elect x e takes v above

    judged_now : (success : Bool) (now : ℕ) → e ≡ event.Certified v success now
        → is_some (round_of x v).notarization ≡ true → verdict_of (round_of after v).certification ≡ None → ⊥
    judged_now success now is_event notarized unjudged = by_tracked (is_tracked x v) refl
      where
        by_tracked : (b : Bool) → is_tracked x v ≡ b → ⊥
        by_tracked true tracked =
            let none = (none_before (verdict_of (round_of x v).certification) (verdict_of_event (is_tracked x) v e)
            (sym (verdict_is same decides elect x e takes v (kept same decides elect x e takes v above))
            ∙ unjudged)).1 in
            let given : verdict_of_event (is_tracked x) v e ≡ Some success =
            ap (verdict_of_event (is_tracked x) v) is_event ∙ rw (eq-eqb v v refl, tracked) refl in
            false≢true (ap is_some (sym none ∙ given))
        by_tracked false untracked =
            false≢true (ap (λ (r : RoundFacts K D). is_some r.notarization) (sym (untracked_round v untracked))
            ∙ notarized)

    offered_after : is_some (token_of (round_of after v).certification) ≡ true → is_offered later v ≡ true
    offered_after there =
        let is = certification_is same decides elect x e takes v (kept same decides elect x e takes v above) in
        elim (under_way x v e (round_of x v).certification (sym (ap (λ c. is_some (token_of c)) is) ∙ there)) [
          | inl before ↦ elim (closed v (was.offered v over before)) [
            | inl opened ↦ opened
            | inr (success, now, is_event) ↦ absurd (by_tracked success now is_event is before (is_tracked x v) refl)
          ]
          | inr (token, is_event) ↦ begins v token is_event
        ]
      where
        by_tracked : (success : Bool) (now : ℕ) → e ≡ event.Certified v success now
            → (round_of after v).certification ≡ unwrap_or (sets_certification v x e) (round_of x v).certification
            → is_some (token_of (round_of x v).certification) ≡ true → (b : Bool) → is_tracked x v ≡ b → ⊥
        by_tracked success now is_event is before true tracked =
            let judged : (round_of after v).certification ≡ certification.Judged success =
            is ∙ ap (λ f. unwrap_or (sets_certification v x f) (round_of x v).certification) is_event
            ∙ rw (eq-eqb v v refl, tracked) refl in
            false≢true (ap (λ c. is_some (token_of c)) (sym judged) ∙ there)
        by_tracked success now is_event is before false untracked =
            false≢true (ap (λ (r : RoundFacts K D). is_some (token_of r.certification))
            (sym (untracked_round v untracked)) ∙ before)

    -- the view was notarized
    waits_still : clears e ≡ false → (c : ProposalFacts D) → (round_of x v).notarization ≡ Some c
        → verdict_of (round_of after v).certification ≡ None → Waits elect later after v
    waits_still stays c notarized unjudged =
        let before = (none_before (verdict_of (round_of x v).certification) (verdict_of_event (is_tracked x) v e)
        (sym (verdict_is same decides elect x e takes v (kept same decides elect x e takes v above))
        ∙ unjudged)).0 in
        elim (was.waits v over (ap is_some notarized) before) [
          | inl named ↦ inl ((works same decides elect x e takes).named v
              ∙ ap (unwrap_or (names elect v x e)) named
              ∙ named_still elect x v e stays (below same decides elect x e takes v above))
          | inr (inl offered) ↦ elim (closed v offered) [
            | inl opened ↦ inr (inl opened)
            | inr (success, now, is_event) ↦
                absurd (judged_now success now is_event (ap is_some notarized) unjudged)
          ]
          | inr (inr unready) ↦ elim (unready_after same decides elect x e takes v above c notarized
              (was.consistent v over) (λ q up. (was.consistent q up).unfinalized) unready) [
                | inl still ↦ inr (inr still)
                | inr (inl named) ↦ inl named
                | inr (inr replayed) ↦
                    absurd (true≢false (sym (ap replays_verdict replayed.replays) ∙ plain))
              ]
        ]

    -- it is notarized now
    waits_new : (c : ProposalFacts D) → (round_of x v).notarization ≡ None → (round_of after v).notarization ≡ Some c
        → is_among v after.named ≡ true
    waits_new c none notarized =
        let u = c.proposal.round.view in
        let new = fresh same decides elect x e takes v above c none notarized in
        let unnoted : is_none (round_of x u).notarization ≡ true =
        ap is_none (ap (λ w. (round_of x w).notarization) (sym new.1) ∙ none) in
        (works same decides elect x e takes).named v
        ∙ ap (λ f. unwrap_or (names elect v x f) (is_among v x.named)) new.0
        ∙ ap (λ b. unwrap_or (if b then Some true else None) (is_among v x.named))
        (and_both ((v == u) && is_none (round_of x u).notarization) (nat_lt x.finalized u)
        (and_both (v == u) (is_none (round_of x u).notarization) (eq-eqb v u new.1) unnoted)
        (lt-ltb x.finalized u (subst (λ w. x.finalized < w) new.1 over)))

    waits_after : clears e ≡ false → is_some (round_of after v).notarization ≡ true
        → verdict_of (round_of after v).certification ≡ None → Waits elect later after v
    waits_after stays notarized unjudged = elim (cases_option (round_of x v).notarization) [
      | inl none ↦ (let found = some_so (round_of after v).notarization notarized in
          inl (waits_new found.0 none found.1))
      | inr (c, noted) ↦ waits_still stays c noted unjudged
    ]

  pub offers_after : ((v : ℕ) → after.finalized < v → is_some (round_of after v).notarization ≡ true
      → verdict_of (round_of after v).certification ≡ None → Waits elect later after v) → OffersAll elect later after
  offers_after waits = record {
    based = based_after same decides elect x e takes (λ raises. was.consistent (finalized_by_event e) raises)
        was.based;
    consistent = λ v above. consistent_after same decides elect x e takes v above
        (was.consistent v (old same decides elect x e takes v above));
    judged = λ v above. notarized_if_judged_after same decides elect x e takes v above plain
        (was.judged v (old same decides elect x e takes v above));
    offered = offered_after;
    waits = waits;
  }

  pub event_offers : clears e ≡ false → OffersAll elect later after
  event_offers stays = offers_after (λ v above. waits_after v above stays)

-- ---- the views that wait are offered

module _ {K L D : Type 0} (x : StateFacts K L D) where
  -- a finalized or certified view with its proposal may be built on
  explicit_so : (q : ℕ) → 0 < q
      → (is_some (round_of x q).finalization || is_certified (round_of x q).certification) ≡ true
      → is_some (round_of x q).slot.held ≡ true → is_some (explicit_ancestry_payload x q) ≡ true
  unfolding explicit_ancestry_payload
  explicit_so q some good held =
      ap (λ b. is_some (if b then x.genesis else option_and_then certified_payload (round_at x q)))
      (ne_eqb q 0 (λ none. absurd (omega (arith, none, some))))
      ∙ by_round (round_at x q) good held
    where
      by_round : (o : Option (RoundFacts K D))
          → (is_some (unwrap_or o (new_round x.me x.members (round_number x q))).finalization
          || is_certified (unwrap_or o (new_round x.me x.members (round_number x q))).certification) ≡ true
          → is_some (unwrap_or o (new_round x.me x.members (round_number x q))).slot.held ≡ true
          → is_some (option_and_then certified_payload o) ≡ true
      by_round None tests there = absurd (false≢true there)
      by_round (Some r) tests there =
          ap (λ b. is_some (option_map (λ (p : Proposal D). p.payload) (if b then r.slot.held else None))) tests
          ∙ unmapped (λ (p : Proposal D). p.payload) r.slot.held ∙ there

  -- so may the last finalized one
  pub based_explicit : IsBased x → is_some (explicit_ancestry_payload x x.finalized) ≡ true
  unfolding explicit_ancestry_payload
  based_explicit (inl (none, genesis)) =
      subst (λ w. is_some (explicit_ancestry_payload x w) ≡ true) (sym none) genesis
  based_explicit (inr (some, final, held)) =
      explicit_so x.finalized some
      (or_left (is_some (round_of x x.finalized).finalization) _ final) held

module _ {K L D : Type 0} (same : D → D → Bool) (decides : (d e : D) → same d e ≡ true → d ≡ e)
    (itself : (d : D) → same d d ≡ true) (elect : Elect L) (x : StateFacts K L D) (waiting : OutstandingWork K D)
    (was : OffersAll elect waiting x) where
  abbrev offers : List (Proposal D)
  offers = (candidates_answer same elect x).0

  abbrev reopened : OutstandingWork K D
  reopened = with_offers waiting offers

  still_open : (v : ℕ) → is_offered waiting v ≡ true → is_offered reopened v ≡ true
  still_open v opened = fold_keeps v offers waiting.offered opened

  module _ (v : ℕ) (above : x.finalized < v) (c : ProposalFacts D) (noted : (round_of x v).notarization ≡ Some c)
      (unjudged : verdict_of (round_of x v).certification ≡ None) where
    abbrev p : Proposal D
    p = c.proposal

    held : (round_of x v).slot.held ≡ Some p
    held = ((was.consistent v above).notarized c noted).0

    misplaced : nat_lt p.parent v ≡ false → has_valid_parent_span x v p.parent ≡ false
    unfolding has_valid_parent_span
    misplaced denied = rw denied refl

    -- the view before is not certified
    missing : (q : ℕ) → required_certification_parent elect x v p ≡ Some q
        → is_some (explicit_ancestry_payload x q) ≡ false → NeedsParent elect x v p
    missing q required none = record {
      parent = q;
      required = required;
      next = next;
      above = over;
      uncertified = by_test (is_certified (round_of x q).certification) refl;
    }
      where
        next : v ≡ q + 1
        next = required_before elect x v p q (omega (arith, above)) required

        over : x.finalized < q
        over = elim (cases_lt x.finalized q) [
          | inl up ↦ up
          | inr down ↦
              (let one : x.finalized ≡ q = omega (arith, down, above, next) in
              absurd (true≢false (sym (subst (λ w. is_some (explicit_ancestry_payload x w) ≡ true) one
              (based_explicit x was.based)) ∙ none)))
        ]

        by_test : (b : Bool) → is_certified (round_of x q).certification ≡ b → b ≡ false
        by_test false is = refl
        by_test true is =
            let verdict : is_some (verdict_of (round_of x q).certification) ≡ true =
            ap is_some (verdict_so (round_of x q).certification is) in
            let d = some_so (round_of x q).notarization (was.judged q over verdict) in
            let there : is_some (round_of x q).slot.held ≡ true =
            ap is_some ((was.consistent q over).notarized d.0 d.1).0 in
            absurd (true≢false (sym (explicit_so x q (omega (arith, over))
            (or_right (is_some (round_of x q).finalization) _ is) there) ∙ none))

    not_ready : (nat_lt p.parent v && certification_parent_ready elect x v p) ≡ false → IsUnready elect x v
    not_ready denied = record {
      proposal = p;
      held = held;
      because = elim (and_cases (nat_lt p.parent v) (certification_parent_ready elect x v p) denied) [
        | inl below ↦ inl (misplaced below)
        | inr waits ↦ by_required (required_certification_parent elect x v p) refl waits
      ];
    }
      where
        by_required : (o : Option ℕ) → required_certification_parent elect x v p ≡ o
            → option_map_or (λ q. has_valid_parent_span x v p.parent && is_some (explicit_ancestry_payload x q)) o true
            ≡ false
            → (has_valid_parent_span x v p.parent ≡ false) ⊎ NeedsParent elect x v p
        by_required None is waits = absurd (true≢false waits)
        by_required (Some q) is waits =
            elim (and_cases (has_valid_parent_span x v p.parent) (is_some (explicit_ancestry_payload x q)) waits)
            [ inl invalid ↦ inl invalid | inr none ↦ inr (missing q is none) ]

    -- a view that waited is offered, or not ready
    offered_or_unready : is_among v x.named ≡ true → (is_offered reopened v ≡ true) ⊎ IsUnready elect x v
    offered_or_unready named = by_certification (round_of x v).certification refl
      where
        offer : Certification → Option (ProposalFacts D) → Option (Proposal D) → Option (Proposal D)
        offer certification notarization stored =
            if is_ready certification
            then option_and_then (λ (d : ProposalFacts D). option_and_then
            (λ h. if same_proposal same h d.proposal then Some h else None) stored) notarization
            else None

        by_ready : (round_of x v).certification ≡ certification.Ready → (b : Bool)
            → (nat_lt p.parent v && certification_parent_ready elect x v p) ≡ b
            → (is_offered reopened v ≡ true) ⊎ IsUnready elect x v
        by_ready ready true test =
            let certifiable : certifiable_proposal (same_proposal same) (round_of x v) ≡ Some p =
            rw (ready, noted, held, same_proposal-refl same itself p) refl in
            let given : offered_of same elect x v ≡ Some p =
            ap (option_and_then (λ q. if nat_lt q.parent v && certification_parent_ready elect x v q then Some q
            else None)) certifiable ∙ ap (λ b. if b then Some p else None) test in
            inl (fold_adds v offers waiting.offered
            (listed v (offered_of same elect x) p given ((was.consistent v above).notarized c noted).1 x.named named))
        by_ready ready false test = inr (not_ready test)

        by_certification : (d : Certification) → (round_of x v).certification ≡ d
            → (is_offered reopened v ≡ true) ⊎ IsUnready elect x v
        by_certification certification.Ready is =
            by_ready is (nat_lt p.parent v && certification_parent_ready elect x v p) refl
        by_certification (certification.Outstanding token) is =
            inl (still_open v (was.offered v above (ap (λ d. is_some (token_of d)) is)))
        by_certification (certification.Judged success) is =
            absurd (true≢false (ap is_some (sym (ap verdict_of is) ∙ unjudged)))
        by_certification certification.Aborted is =
            absurd (true≢false (sym (ap is_aborted is) ∙ (was.consistent v above).unaborted))

  pub candidates_offers : OffersAll elect reopened (after_event same elect x event.CertifyCandidates)
  candidates_offers =
      offers_after same decides elect x event.CertifyCandidates tt waiting reopened refl
      (λ v opened. inl (still_open v opened))
      (λ v token is. absurd (false≢true (ap is_handle is))) was waits
    where
      waits : (v : ℕ) → x.finalized < v → is_some (round_of x v).notarization ≡ true
          → verdict_of (round_of x v).certification ≡ None
          → Waits elect reopened (after_event same elect x event.CertifyCandidates) v
      waits v above notarized unjudged =
          let c = some_so (round_of x v).notarization notarized in
          elim (was.waits v above notarized unjudged) [
            | inl named ↦ elim (offered_or_unready v above c.0 c.1 unjudged named)
                [ inl opened ↦ inr (inl opened) | inr unready ↦ inr (inr (still c.0 c.1 unready)) ]
            | inr (inl opened) ↦ inr (inl (still_open v opened))
            | inr (inr unready) ↦ inr (inr (still c.0 c.1 unready))
          ]
        where
          still : (c : ProposalFacts D) → (round_of x v).notarization ≡ Some c → IsUnready elect x v
              → IsUnready elect (after_event same elect x event.CertifyCandidates) v
          still c noted unready =
              elim (unready_after same decides elect x event.CertifyCandidates tt v above c noted
              (was.consistent v above) (λ q up. (was.consistent q up).unfinalized) unready) [
                | inl still_unready ↦ still_unready
                | inr (inl named) ↦ absurd (false≢true named)
                | inr (inr replayed) ↦
                    absurd (false≢true (ap replays_verdict replayed.replays))
              ]

-- ---- a call

abbrev asks_for_candidates : {D : Type 0} → CallFacts D → Bool
asks_for_candidates calls.CertifyCandidates = true
asks_for_candidates _ = false

module _ {K L D : Type 0} (same : D → D → Bool) (elect : Elect L) (x : StateFacts K L D) (o : OutstandingWork K D)
  where
    -- an event closes at most the offer on which it gives a verdict, and replays no verdict
    abbrev Closes : OutstandingWork K D → List (Event K D) → Type 0
    Closes later [] = (v : ℕ) → is_offered o v ≡ true → is_offered later v ≡ true
    Closes later (e ∷ rest) =
        ((v : ℕ) → is_offered o v ≡ true
        → (is_offered later v ≡ true) ⊎ ((success : Bool) × (now : ℕ) × (e ≡ event.Certified v success now)))
        × ((v token : ℕ) → e ≡ event.SetCertifyHandle v token → is_offered later v ≡ true)
        × (replays_verdict e ≡ false)
        × (clears e ≡ false)

    in_context_closes : (made : Context D K → Event K D) (later : OutstandingWork K D)
        → ((c : Context D K) → (is_handle (made c) ≡ false) × (replays_verdict (made c) ≡ false)
        × (clears (made c) ≡ false))
        → ((v : ℕ) → is_offered o v ≡ true → is_offered later v ≡ true) → (context : Option (Context D K))
        → Closes later (in_context made context)
    in_context_closes made later plain opened None = opened
    in_context_closes made later plain opened (Some c) = (
      λ v is. inl (opened v is),
      λ v token is. absurd (true≢false (sym (ap is_handle is) ∙ (plain c).0)),
      (plain c).1,
      (plain c).2,
    )

    request_offers : (request : Option (ProposalRequest D K)) (v : ℕ)
        → is_offered (with_open_request o request) v ≡ is_offered o v
    request_offers None v = refl
    request_offers (Some request) v = refl

    verification_offers : (it : Verify D K) (v : ℕ) → is_offered (with_verification o it) v ≡ is_offered o v
    verification_offers verify.Wait v = refl
    verification_offers (verify.Resolve proposal view kind target) v = refl
    verification_offers (verify.Ready context p) v = refl

    superseded_offers : (u : ℕ) (b : Bool) (v : ℕ) → is_offered (cond b (without_context o u) o) v ≡ is_offered o v
    superseded_offers u true v = refl
    superseded_offers u false v = refl

    call_closes : (call : CallFacts D) → asks_for_candidates call ≡ false → is_allowed x o call ≡ true
        → Closes (outstanding_work_after same elect x o call) (events_of o call)
    call_closes calls.CertifyCandidates denied allowed = absurd (true≢false denied)
    call_closes (calls.Certified w success now) denied allowed = (
      λ v is. elim (cases_eq v w) [
        | inl here ↦ inr (success, now, ap (λ u. event.Certified u success now) (sym here))
        | inr other ↦ inl (others_among w v o.offered other is)
      ],
      λ v token is. absurd (false≢true (ap is_handle is)),
      refl,
      refl,
    )
    call_closes (calls.SetCertifyHandle w token) denied allowed = (
      λ v is. inl is,
      λ v other is. (let one : w ≡ v = cc in
          subst (λ u. is_offered o u ≡ true) one (and_parts (is_offered o w) _ allowed).0),
      refl,
      refl,
    )
    call_closes calls.TryPropose denied allowed = (
      λ v is. inl (request_offers (propose_answer same elect x) v ∙ is),
      λ v token is. absurd (false≢true (ap is_handle is)),
      refl,
      refl,
    )
    call_closes calls.TryVerify denied allowed = (
      λ v is. inl (verification_offers (verify_answer same elect x) v ∙ is),
      λ v token is. absurd (false≢true (ap is_handle is)),
      refl,
      refl,
    )
    call_closes (calls.SupersedeProposalRequest w) denied allowed =
        in_context_closes event.Supersede (outstanding_work_after same elect x o (calls.SupersedeProposalRequest w))
        (λ c. (refl, refl, refl))
        (λ v is. superseded_offers w
        (option_map_or (λ context. supersede_answer same elect x context) (context_at o w) false) v ∙ is)
        (context_at o w)
    call_closes (calls.Proposed w payload now) denied allowed =
        in_context_closes (λ c. event.Proposed c payload now) (without_context o w) (λ c. (refl, refl, refl))
        (λ v is. is) (context_at o w)
    call_closes (calls.PendingHandoffAbandonment w) denied allowed = λ v is. is
    call_closes calls.GetBestCertificate denied allowed = λ v is. is
    call_closes _ denied allowed = (
      λ v is. inl is,
      λ v token is. absurd (false≢true (ap is_handle is)),
      refl,
      refl,
    )

module _ {K L D : Type 0} (same : D → D → Bool) (decides : (d e : D) → same d e ≡ true → d ≡ e)
    (itself : (d : D) → same d d ≡ true) (elect : Elect L) (x : StateFacts K L D) (o : OutstandingWork K D) where
  plain_offers : (call : CallFacts D) → asks_for_candidates call ≡ false → is_allowed x o call ≡ true
      → OffersAll elect o x
      → OffersAll elect (outstanding_work_after same elect x o call) (after_call same elect x o call)
  plain_offers call plain allowed was =
      call_by_event same elect x o (λ es y. (later : OutstandingWork K D) → Closes same elect x o later es
      → OffersAll elect later y)
      (λ later opened. record {
        based = was.based;
        consistent = was.consistent;
        judged = was.judged;
        offered = λ v above there. opened v (was.offered v above there);
        waits = λ v above notarized unjudged. elim (was.waits v above notarized unjudged) [
          | inl named ↦ inl named
          | inr (inl is) ↦ inr (inl (opened v is))
          | inr (inr unready) ↦ inr (inr unready)
        ];
      })
      (λ e takes no_floor later closes. event_offers same decides elect x e takes o later closes.2 closes.0 closes.1 was
      closes.3)
      call allowed (outstanding_work_after same elect x o call) (call_closes same elect x o call plain allowed)

  pub call_offers : (call : CallFacts D) → is_allowed x o call ≡ true → OffersAll elect o x
      → OffersAll elect (outstanding_work_after same elect x o call) (after_call same elect x o call)
  call_offers calls.CertifyCandidates allowed was = candidates_offers same decides itself elect x o was
  call_offers call allowed was = plain_offers call refl allowed was
