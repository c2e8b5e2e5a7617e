-- The views that wait to be offered for certification: what an event leaves of them.
use Rattle.std.proofs.Common.{◌≡◌, refl, ap, sym, ◌∙◌, subst, ℕ, ◌+◌, ◌-◌, ◌<◌, ◌≤◌, max, ◌⊎◌, inl, inr, Bool, true, false, ◌&&◌, ◌||◌, if◌then◌else◌, nat_lt, nat_le, Option, Some, None, is_some, unwrap_or, arith}
use Rattle.std.specs.Prelude.{◌==◌, is_none}
use Rattle.std.specs.Option.{option_map_or, option_or}
use Rattle.std.proofs.lemmas.Bool.{false≢true, true≢false, eq-eqb, eqb-true, ne_eqb, leb-true, lt-ltb, le-leb, cases_lt, cases_eq}
use Rattle.std.proofs.lemmas.Bool.Decides.{nat_tests}
use Rattle.simplex_types.specs.Certificates.{ProposalFacts, Verdict}
use Rattle.simplex_types.specs.Config.{Finalized as FinalizedFloor}
use Rattle.simplex_types.specs.Terms.{term_start}
use Rattle.simplex_types.specs.declared.types.messages.Proposal.{Proposal}
use Rattle.simplex_types.specs.declared.types.numbers.Round.{Round}
use Rattle.simplex_round.specs.declared.round.Certification.{Certification}
use Rattle.simplex_round.specs.declared.round.Certification.TheVariants as certification
use Rattle.simplex_round.specs.Round.{RoundFacts, new_round, is_aborted, is_certified, signs_as, token_of}
use Rattle.simplex_voter.specs.Certification.{waits_for}
use Rattle.simplex_voter.specs.Facts.{StateFacts, Elect, round_at, round_of, round_number, is_tracked}
use Rattle.simplex_voter.specs.Parents.{has_valid_parent_span}
use Rattle.simplex_voter.specs.Payloads.{is_elected_early}
use Rattle.simplex_voter.specs.Refusals.{is_started}
use Rattle.simplex_voter.specs.Rules.{required_certification_parent}
use Rattle.simplex_voter.specs.Windows.{is_term_start, min_active}
use Rattle.simplex_voter.proofs.Gaps.{and_parts, and_both, or_right, cases_option}
use Rattle.simplex_record.specs.Events as event
use Rattle.simplex_record.specs.Events.{Event, IsEvent, after_event, finalized_by_event, is_prune}
use Rattle.simplex_member.specs.OutstandingWork.{is_among}
use Rattle.laws_history.specs.HistoryFacts.{verdict_of}
use Rattle.laws_history.specs.HistoryFolds.{or_new, brings_notarization, brings_finalization, verdict_of_event, sets_genesis}
use Rattle.laws_history.specs.OwnWork.{first_certificate_by, hears_of, owns, decides_notarize}
use Rattle.laws_history.specs.WorkRequests.{is_at, wakes, names, names_by, sets_certification}
use Rattle.laws_history.proofs.EventFacts.{FollowsEvent, left_from}
use Rattle.laws_history.proofs.EventsWorked.{event_works}
use Rattle.laws_history.proofs.ReplayEvents.{event_follows}
use Rattle.laws_history.proofs.UnchangedHistories.{Known}
use Rattle.laws_history.proofs.Worked.{Worked, WorkFollows}
use Rattle.laws_progress.proofs.runs.Brought.{new_or_old, some_still, some_brought}
use Rattle.laws_meetings.proofs.LedViews.{certified_so, verdict_so, kept_so, taken_parts}

-- ---- options and tests

pub some_one : {A : Type 0} (a b : A) → ◌≡◌ {A = Option A} (Some a) (Some b) → a ≡ b
some_one a b is = ap (λ o. unwrap_or o a) is

pub none_before : {A : Type 0} (old new : Option A) → or_new old new ≡ None → (old ≡ None) × (new ≡ None)
none_before old None is = (is, refl)
none_before None (Some b) is = absurd (true≢false (ap is_some is))
none_before (Some c) (Some b) is = absurd (true≢false (ap is_some is))

pub some_so : {A : Type 0} (o : Option A) → is_some o ≡ true → (a : A) × (o ≡ Some a)
some_so None is = absurd (false≢true is)
some_so (Some a) is = (a, refl)

pub none_so : {A : Type 0} (o : Option A) → is_some o ≡ false → o ≡ None
none_so None is = refl
none_so (Some a) is = absurd (true≢false is)

some_or : {A : Type 0} (first rest : Option A) → is_some rest ≡ true → is_some (option_or first rest) ≡ true
some_or None rest is = is
some_or (Some a) rest is = refl

-- a view above another is not that one
apart : (u v : ℕ) → u < v → (v == u) ≡ false
apart u v below = ne_eqb v u (λ same. absurd (omega (arith, below, same)))

none_above : (u v : ℕ) → u < v → nat_le v u ≡ false
none_above u v below = grind (arith, nat_tests)

-- ---- rounds and states

-- a round of a view above the last finalized one: a notarization is of this view and of the stored proposal, and there
-- is no finalization
pub record IsConsistent {K D : Type 0} (v : ℕ) (r : RoundFacts K D) : Type 0 where
  pub notarized : (c : ProposalFacts D) → r.notarization ≡ Some c
      → (r.slot.held ≡ Some c.proposal) × (c.proposal.round.view ≡ v)
  pub unfinalized : r.finalization ≡ None
  pub unaborted : is_aborted r.certification ≡ false

module _ {K D : Type 0} where
  -- the event replays a verdict, or offers all views that wait
  abbrev pub replays_verdict : Event K D → Bool
  replays_verdict (event.Replay (Verdict round success)) = true
  replays_verdict _ = false

  abbrev pub clears : Event K D → Bool
  clears event.CertifyCandidates = true
  clears _ = false

module _ {K L D : Type 0} where
  -- a verdict is on a notarized view
  abbrev pub IsNotarizedIfJudged : StateFacts K L D → ℕ → Type 0
  IsNotarizedIfJudged x v =
      is_some (verdict_of (round_of x v).certification) ≡ true → is_some (round_of x v).notarization ≡ true

  -- genesis is known, or the finalization and the proposal of the last finalized view
  abbrev pub IsBased : StateFacts K L D → Type 0
  IsBased x =
      ((x.finalized ≡ 0) × (is_some x.genesis ≡ true))
      ⊎ ((0 < x.finalized) × (is_some (round_of x x.finalized).finalization ≡ true)
      × (is_some (round_of x x.finalized).slot.held ≡ true))

module _ {K L D : Type 0} (elect : Elect L) where
  -- the proposal of a view requires that the view before is certified, and it is not
  pub record NeedsParent (x : StateFacts K L D) (v : ℕ) (p : Proposal D) : Type 0 where
    pub parent : ℕ
    pub required : required_certification_parent elect x v p ≡ Some parent
    pub next : v ≡ parent + 1
    pub above : x.finalized < parent
    pub uncertified : is_certified (round_of x parent).certification ≡ false

  -- so the stored proposal is not ready to be certified; or it can't have its parent
  pub record IsUnready (x : StateFacts K L D) (v : ℕ) : Type 0 where
    pub proposal : Proposal D
    pub held : (round_of x v).slot.held ≡ Some proposal
    pub because : (has_valid_parent_span x v proposal.parent ≡ false) ⊎ NeedsParent x v proposal

-- a true verdict is replayed on the view that the proposal of a view requires then
pub record ReplaysParent {K L D : Type 0} (elect : Elect L) (y : StateFacts K L D) (e : Event K D) (v : ℕ)
    (p : Proposal D) : Type 0 where
  pub round : Round
  pub replays : e ≡ event.Replay (Verdict round true)
  pub required : required_certification_parent elect y v p ≡ Some round.view
  pub next : v ≡ round.view + 1

-- ---- what an event says of a view above all that it finalizes

module _ {K L D : Type 0} (x : StateFacts K L D) (v : ℕ) where
  none_final : (e : Event K D) → finalized_by_event e < v → brings_finalization v e ≡ None
  none_final (event.AddFinalization c now) below =
      ap (λ b. if b then Some c else None) (apart c.proposal.round.view v below)
  none_final (event.SetFloor (FinalizedFloor c) now) below =
      ap (λ b. if b then Some c else None) (apart c.proposal.round.view v below)
  none_final _ below = refl

  -- it brings no notarization, and settles no proposal; or it adds a notarization of the view
  brings : (e : Event K D) → finalized_by_event e < v
      → ((brings_notarization v e ≡ None) × (first_certificate_by v x e ≡ None))
      ⊎ ((c : ProposalFacts D) × (e ≡ event.AddNotarization c) × (v ≡ c.proposal.round.view))
  brings (event.AddNotarization c) below = elim (cases_eq v c.proposal.round.view) [
    | inl here ↦ inr (c, refl, here)
    | inr other ↦ inl (
      ap (λ b. if b then Some c else None) (ne_eqb v c.proposal.round.view other),
      ap (λ b. if b && is_none (round_of x c.proposal.round.view).notarization then Some c.proposal else None)
          (ne_eqb v c.proposal.round.view other),
    )
  ]
  brings (event.AddFinalization c now) below = inl (
    refl,
    ap (λ b. if b && is_none (round_of x c.proposal.round.view).finalization then Some c.proposal else None)
        (apart c.proposal.round.view v below),
  )
  brings (event.SetFloor (FinalizedFloor c) now) below = inl (
    refl,
    ap (λ b. if b && is_none (round_of x c.proposal.round.view).finalization then Some c.proposal else None)
        (apart c.proposal.round.view v below),
  )
  brings _ below = inl (refl, refl)

  -- a verdict is passed or replayed
  abbrev Judges : Bool → Event K D → Type 0
  Judges success e =
      ((now : ℕ) × (e ≡ event.Certified v success now) × (is_tracked x v ≡ true))
      ⊎ ((round : Round) × (e ≡ event.Replay (Verdict round success)) × (v ≡ round.view))

  judges : (success : Bool) (e : Event K D) → verdict_of_event (is_tracked x) v e ≡ Some success → Judges success e
  judges success (event.Certified w given now) is = by_test (v == w) refl (is_tracked x w) refl is
    where
      by_test : (a : Bool) → (v == w) ≡ a → (b : Bool) → is_tracked x w ≡ b
          → (if a && b then Some given else None) ≡ Some success → Judges success (event.Certified w given now)
      by_test true here true tracked one =
          let at : w ≡ v = sym (eqb-true v w here) in
          let same : given ≡ success = some_one given success one in
          inl (now, λ i. event.Certified (at i) (same i) now, subst (λ u. is_tracked x u ≡ true) at tracked)
      by_test true here false tracked one = absurd (false≢true (ap is_some one))
      by_test false here b tracked one = absurd (false≢true (ap is_some one))
  judges success (event.Replay (Verdict round given)) is = by_test (v == round.view) refl is
    where
      by_test : (a : Bool) → (v == round.view) ≡ a → (if a then Some given else None) ≡ Some success
          → Judges success (event.Replay (Verdict round given))
      by_test true here one =
          inr (round, λ i. event.Replay (Verdict round (some_one given success one i)), eqb-true v round.view here)
      by_test false here one = absurd (false≢true (ap is_some one))
  judges success _ is = absurd (false≢true (ap is_some is))

  -- no certification is aborted
  unaborted : (e : Event K D) → finalized_by_event e < v → (c : Certification) → is_aborted c ≡ false
      → is_aborted (unwrap_or (sets_certification v x e) c) ≡ false
  unaborted e below c denied = by_event e below
    where
      either : (b : Bool) (d : Certification) → is_aborted d ≡ false
          → is_aborted (unwrap_or (if b then Some d else None) c) ≡ false
      either true d none = none
      either false d none = denied

      ended : (a b : Bool) (u : ℕ) → u < v
          → is_aborted (unwrap_or (if a && nat_le v u && b then Some certification.Aborted else None) c) ≡ false
      ended true b u low = rw (none_above u v low) denied
      ended false b u low = denied

      by_event : (f : Event K D) → finalized_by_event f < v
          → is_aborted (unwrap_or (sets_certification v x f) c) ≡ false
      by_event (event.SetFloor (FinalizedFloor d) now) low =
          ended (nat_lt x.finalized d.proposal.round.view) (is_some (token_of (round_of x v).certification))
          d.proposal.round.view low
      by_event (event.AddFinalization d now) low =
          ended (nat_lt x.finalized d.proposal.round.view) (is_some (token_of (round_of x v).certification))
          d.proposal.round.view low
      by_event (event.Certified w success now) low = either (is_at x v w) (certification.Judged success) refl
      by_event (event.SetCertifyHandle w token) low = either (is_at x v w) (certification.Outstanding token) refl
      by_event (event.Replay (Verdict round success)) low = either (v == round.view) (certification.Judged success) refl
      by_event _ low = denied

  -- a certification that is under way was so, or begins
  abbrev Begins : Event K D → Type 0
  Begins e = (token : ℕ) × (e ≡ event.SetCertifyHandle v token)

  pub under_way : (e : Event K D) (c : Certification)
      → is_some (token_of (unwrap_or (sets_certification v x e) c)) ≡ true → (is_some (token_of c) ≡ true) ⊎ Begins e
  under_way e c is = by_event e is
    where
      by_flag : {P : Type 0} (b : Bool) (d : Certification) → is_some (token_of d) ≡ false
          → is_some (token_of (unwrap_or (if b then Some d else None) c)) ≡ true → (is_some (token_of c) ≡ true) ⊎ P
      by_flag true d none there = absurd (false≢true (sym none ∙ there))
      by_flag false d none there = inl there

      by_event : (f : Event K D) → is_some (token_of (unwrap_or (sets_certification v x f) c)) ≡ true
          → (is_some (token_of c) ≡ true) ⊎ Begins f
      by_event (event.SetFloor (FinalizedFloor d) now) there =
          by_flag (nat_lt x.finalized d.proposal.round.view && nat_le v d.proposal.round.view
          && is_some (token_of (round_of x v).certification)) certification.Aborted refl there
      by_event (event.AddFinalization d now) there =
          by_flag (nat_lt x.finalized d.proposal.round.view && nat_le v d.proposal.round.view
          && is_some (token_of (round_of x v).certification)) certification.Aborted refl there
      by_event (event.Certified w success now) there = by_flag (is_at x v w) (certification.Judged success) refl there
      by_event (event.SetCertifyHandle w token) there = by_view (cases_eq v w)
        where
          by_view : ((v ≡ w) ⊎ (v ≡ w → ⊥)) → (is_some (token_of c) ≡ true) ⊎ Begins (event.SetCertifyHandle w token)
          by_view (inl here) = inr (token, ap (λ u. event.SetCertifyHandle u token) (sym here))
          by_view (inr other) = inl (subst (λ b. is_some (token_of (unwrap_or
              (if b && is_tracked x w then Some (certification.Outstanding token) else None) c)) ≡ true)
              (ne_eqb v w other) there)
      by_event (event.Replay (Verdict round success)) there =
          by_flag (v == round.view) (certification.Judged success) refl there
      by_event _ there = inl there

-- ---- the views that wait

module _ {K L D : Type 0} (elect : Elect L) (x : StateFacts K L D) (v : ℕ) where
  -- a view that waits does so still
  pub named_still : (e : Event K D) → clears e ≡ false → finalized_by_event e < v
      → unwrap_or (names elect v x e) true ≡ true
  named_still e plain below = by_event e plain below
    where
      one_name : (b : Bool) → unwrap_or (if b then Some true else None) true ≡ true
      one_name true = refl
      one_name false = refl

      final_names : (a b : Bool) (u : ℕ) → u < v
          → unwrap_or (if a then Some true else (if b && nat_le v u then Some false else None)) true ≡ true
      final_names true b u low = refl
      final_names false true u low = rw (none_above u v low) refl
      final_names false false u low = refl

      by_event : (f : Event K D) → clears f ≡ false → finalized_by_event f < v
          → unwrap_or (names elect v x f) true ≡ true
      by_event (event.SetFloor (FinalizedFloor c) now) denied low =
          final_names (is_none (round_of x c.proposal.round.view).finalization
          && wakes elect x (max x.finalized c.proposal.round.view) c.proposal.round.view v)
          (nat_lt x.finalized c.proposal.round.view) c.proposal.round.view low
      by_event (event.AddFinalization c now) denied low =
          final_names (is_none (round_of x c.proposal.round.view).finalization
          && wakes elect x (max x.finalized c.proposal.round.view) c.proposal.round.view v)
          (nat_lt x.finalized c.proposal.round.view) c.proposal.round.view low
      by_event (event.AddNotarization c) denied low =
          one_name ((v == c.proposal.round.view) && is_none (round_of x c.proposal.round.view).notarization
          && nat_lt x.finalized c.proposal.round.view)
      by_event (event.Certified w true now) denied low = one_name (is_tracked x w && wakes elect x x.finalized w v)
      by_event event.CertifyCandidates denied low = absurd (true≢false denied)
      by_event _ denied low = refl

  -- a notarized view whose proposal requires the one before waits for it
  pub waits_so : (p : Proposal D) (q : ℕ) → is_some (round_of x v).notarization ≡ true
      → (round_of x v).slot.held ≡ Some p → v ≡ q + 1 → required_certification_parent elect x v p ≡ Some q
      → waits_for elect x q (round_of x v) ≡ true
  waits_so p q notarized held next required =
      and_both (is_some (round_of x v).notarization) _ notarized
      (ap (λ o. option_map_or (λ h. option_map_or (λ t. t == q) (required_certification_parent elect x (q + 1) h)
      false) o false) held
      ∙ (ap (λ o. option_map_or (λ t. t == q) o false)
      (subst (λ w. required_certification_parent elect x w p ≡ Some q) next required)
      ∙ eq-eqb q q refl))

  pub wakes_so : (finalized q : ℕ) → v ≡ q + 1 → finalized < v → waits_for elect x q (round_of x v) ≡ true
      → wakes elect x finalized q v ≡ true
  wakes_so finalized q next below waits =
      and_both ((v == q + 1) && nat_lt finalized v) _
      (and_both (v == q + 1) (nat_lt finalized v) (eq-eqb v (q + 1) next) (lt-ltb finalized v below)) waits

  -- the first finalization of the view before names it
  final_names_it : (c : ProposalFacts D) (q : ℕ) → c.proposal.round.view ≡ q → v ≡ q + 1 → x.finalized < q
      → (round_of x q).finalization ≡ None → waits_for elect x q (round_of x v) ≡ true
      → names_by elect x v c ≡ Some true
  final_names_it c q is next below none waits =
      ap (λ b. if b then Some true
      else (if nat_lt x.finalized c.proposal.round.view && nat_le v c.proposal.round.view then Some false else None))
      (subst (λ u. (is_none (round_of x u).finalization && wakes elect x (max x.finalized u) u v) ≡ true) (sym is)
      (and_both (is_none (round_of x q).finalization) _ (ap is_none none)
      (wakes_so (max x.finalized q) q next (omega (arith, below, next)) waits)))

  final_event : (e : Event K D) (q : ℕ) → finalized_by_event e ≡ q → v ≡ q + 1 → x.finalized < q
      → (round_of x q).finalization ≡ None → waits_for elect x q (round_of x v) ≡ true
      → names elect v x e ≡ Some true
  final_event e q is next below none waits = by_event e is
    where
      by_event : (f : Event K D) → finalized_by_event f ≡ q → names elect v x f ≡ Some true
      by_event (event.AddFinalization c now) at = final_names_it c q at next below none waits
      by_event (event.SetFloor (FinalizedFloor c) now) at = final_names_it c q at next below none waits
      by_event _ at = absurd (omega (arith, at, below))

-- ---- what a proposal requires

-- one more vote to notarize requires no less
handed : (start on early was now : Bool) (m n q : ℕ) → (was ≡ true → now ≡ true)
    → (if start then (if on && (early && was) then Some m else None) else Some n) ≡ Some q
    → (if start then (if on && (early && now) then Some m else None) else Some n) ≡ Some q
handed false on early was now m n q later is = is
handed true true true true now m n q later is = rw (later refl) is
handed true true true false now m n q later is = absurd (false≢true (ap is_some is))
handed true true false was now m n q later is = absurd (false≢true (ap is_some is))
handed true false early was now m n q later is = absurd (false≢true (ap is_some is))

-- it requires the view before
before : (start on early : Bool) (m v q : ℕ) → (on ≡ true → m + 1 ≡ v) → 0 < v
    → (if start then (if on && early then Some m else None) else Some (v - 1)) ≡ Some q → v ≡ q + 1
before false on early m v q joins some is = let one : v - 1 ≡ q = some_one (v - 1) q is in omega (arith, one, some)
before true true true m v q joins some is =
    let one : m ≡ q = some_one m q is in
    let at : m + 1 ≡ v = joins refl in
    omega (arith, one, at)
before true true false m v q joins some is = absurd (false≢true (ap is_some is))
before true false early m v q joins some is = absurd (false≢true (ap is_some is))

pub required_before : {K L D : Type 0} (elect : Elect L) (x : StateFacts K L D) (v : ℕ) (p : Proposal D) (q : ℕ)
    → 0 < v → required_certification_parent elect x v p ≡ Some q → v ≡ q + 1
unfolding required_certification_parent
required_before elect x v p q some is =
    before (is_term_start x v) (p.parent + 1 == v)
    (is_elected_early elect x v && (round_of x v).notarize_decided) p.parent v q
    (λ on. eqb-true (p.parent + 1) v on) some is

-- ---- an event

module _ {K L D : Type 0} (same : D → D → Bool) (decides : (d e : D) → same d e ≡ true → d ≡ e) (elect : Elect L)
    (x : StateFacts K L D) (e : Event K D) (takes : IsEvent x e) where
  abbrev after : StateFacts K L D
  after = after_event same elect x e

  pub goes : FollowsEvent same elect e x after
  goes = event_follows same decides elect x e takes

  pub works : WorkFollows same elect e x after
  works = event_works same elect x e

  low : left_from x e ≤ x.finalized
  low = by_prune (is_prune e)
    where
      by_prune : (b : Bool) → (if b then min_active x else 0) ≤ x.finalized
      by_prune true = omega arith
      by_prune false = omega arith

  pub rises : x.finalized ≤ after.finalized
  rises = let is = goes.finalized in omega (arith, is)

  module _ (v : ℕ) (kept : left_from x e ≤ v) where
    pub notarization_is : (round_of after v).notarization ≡ or_new (round_of x v).notarization (brings_notarization v e)
    notarization_is = ap (λ (k : Known D). k.notarization) (goes.rounds v kept)

    finalization_is : (round_of after v).finalization ≡ or_new (round_of x v).finalization (brings_finalization v e)
    finalization_is = ap (λ (k : Known D). k.finalization) (goes.rounds v kept)

    held_is : (round_of after v).slot.held
        ≡ option_or (first_certificate_by v x e)
        (or_new (round_of x v).slot.held (option_or (hears_of v x e) (owns same elect v x e)))
    held_is = ap (λ (k : Known D). k.held) (goes.rounds v kept)

    pub verdict_is : verdict_of (round_of after v).certification
        ≡ or_new (verdict_of (round_of x v).certification) (verdict_of_event (is_tracked x) v e)
    verdict_is = ap (λ (k : Known D). k.verdict) (goes.rounds v kept)

    pub certification_is : (round_of after v).certification
        ≡ unwrap_or (sets_certification v x e) (round_of x v).certification
    certification_is = ap (λ (k : Worked K D). k.certification) (works.work v kept)

    decided_still : (round_of x v).notarize_decided ≡ true → (round_of after v).notarize_decided ≡ true
    decided_still is =
        ap (λ (k : Known D). k.notarize_decided) (goes.rounds v kept)
        ∙ or_right (decides_notarize same elect v x e) (round_of x v).notarize_decided is

    -- a notarization and a stored proposal stay
    pub still_notarized : is_some (round_of x v).notarization ≡ true → is_some (round_of after v).notarization ≡ true
    still_notarized is = ap is_some notarization_is ∙ some_still (round_of x v).notarization _ is

    still_held : is_some (round_of x v).slot.held ≡ true → is_some (round_of after v).slot.held ≡ true
    still_held is =
        ap is_some held_is ∙ some_or (first_certificate_by v x e) _ (some_still (round_of x v).slot.held _ is)

  -- the view is above all that is finalized then
  module _ (v : ℕ) (above : after.finalized < v) where
    pub old : x.finalized < v
    old = let up = rises in omega (arith, up, above)

    pub kept : left_from x e ≤ v
    kept = let down = low in let under = old in omega (arith, down, under)

    pub below : finalized_by_event e < v
    below = let is = goes.finalized in omega (arith, is, above)

    -- of a notarized view
    module _ (c : ProposalFacts D) (was : IsConsistent v (round_of x v)) (is : (round_of x v).notarization ≡ Some c)
      where
        notarization_stays : (round_of after v).notarization ≡ Some c
        notarization_stays = notarization_is v kept ∙ kept_so (round_of x v).notarization (brings_notarization v e) c is

        none_settled : first_certificate_by v x e ≡ None
        none_settled = elim (brings x v e below) [
          | inl (none, unsettled) ↦ unsettled
          | inr (d, is_event, here) ↦
              (let noted : is_none (round_of x d.proposal.round.view).notarization ≡ false =
              ap is_none (ap (λ w. (round_of x w).notarization) (sym here) ∙ is) in
              ap (first_certificate_by v x) is_event ∙ rw (eq-eqb v d.proposal.round.view here, noted) refl)
        ]

        held_stays : (round_of after v).slot.held ≡ (round_of x v).slot.held
        held_stays =
            let held = (was.notarized c is).0 in
            held_is v kept ∙ ap (λ o. option_or o (or_new (round_of x v).slot.held
            (option_or (hears_of v x e) (owns same elect v x e)))) none_settled
            ∙ kept_so (round_of x v).slot.held _ c.proposal held ∙ sym held

    -- of one that is notarized now
    pub fresh : (c : ProposalFacts D) → (round_of x v).notarization ≡ None → (round_of after v).notarization ≡ Some c
        → (e ≡ event.AddNotarization c) × (v ≡ c.proposal.round.view)
    fresh c none is =
        let brought : brings_notarization v e ≡ Some c = by_old
        (new_or_old (round_of x v).notarization (brings_notarization v e) c (sym (notarization_is v kept) ∙ is)) in
        elim (brings x v e below) [
          | inl (silent, unsettled) ↦ absurd (false≢true (ap is_some (sym silent ∙ brought)))
          | inr (d, is_event, here) ↦
              (let one : d ≡ c = some_one d c
              (sym (ap (brings_notarization v) is_event ∙ ap (λ b. if b then Some d else None)
              (eq-eqb v d.proposal.round.view here)) ∙ brought) in (
                is_event ∙ ap (λ f. event.AddNotarization f) one,
                here ∙ ap (λ (f : ProposalFacts D). f.proposal.round.view) one,
              ))
        ]
      where
        by_old : ((round_of x v).notarization ≡ Some c) ⊎ (brings_notarization v e ≡ Some c)
            → brings_notarization v e ≡ Some c
        by_old (inl before) = absurd (false≢true (ap is_some (sym none ∙ before)))
        by_old (inr now) = now

    pub consistent_after : IsConsistent v (round_of x v) → IsConsistent v (round_of after v)
    consistent_after was = record {
      notarized = λ c is. by_old c is (cases_option (round_of x v).notarization);
      unfinalized = finalization_is v kept ∙ rw (was.unfinalized, none_final x v e below) refl;
      unaborted = ap is_aborted (certification_is v kept)
          ∙ unaborted x v e below (round_of x v).certification was.unaborted;
    }
      where
        by_old : (c : ProposalFacts D) → (round_of after v).notarization ≡ Some c
            → ((round_of x v).notarization ≡ None)
            ⊎ ((d : ProposalFacts D) × ((round_of x v).notarization ≡ Some d))
            → ((round_of after v).slot.held ≡ Some c.proposal) × (c.proposal.round.view ≡ v)
        by_old c is (inl none) =
            let new = fresh c none is in
            let unnoted : is_none (round_of x c.proposal.round.view).notarization ≡ true =
            ap is_none (ap (λ w. (round_of x w).notarization) (sym new.1) ∙ none) in
            let settled : first_certificate_by v x (event.AddNotarization c) ≡ Some c.proposal =
            rw (eq-eqb v c.proposal.round.view new.1, unnoted) refl in (
              held_is v kept ∙ ap (λ o. option_or o (or_new (round_of x v).slot.held
                  (option_or (hears_of v x e) (owns same elect v x e))))
                  (ap (first_certificate_by v x) new.0 ∙ settled),
              sym new.1,
            )
        by_old c is (inr (d, noted)) =
            let one : d ≡ c = some_one d c (sym (notarization_stays d was noted) ∙ is) in
            let before = was.notarized c (noted ∙ ap (λ f. Some f) one) in
            (held_stays d was noted ∙ before.0, before.1)

    -- a verdict is on a notarized view, where none is replayed
    pub notarized_if_judged_after : replays_verdict e ≡ false → IsNotarizedIfJudged x v → IsNotarizedIfJudged after v
    notarized_if_judged_after plain was is = still_notarized v kept
        (elim (cases_option (verdict_of (round_of x v).certification)) [
          | inr (success, judged) ↦ was (ap is_some judged)
          | inl none ↦
              (let found = some_so (verdict_of_event (is_tracked x) v e)
              (sym (ap is_some (verdict_is v kept ∙ rw none (only_new (verdict_of_event (is_tracked x) v e)))) ∙ is) in
              elim (judges x v found.0 e found.1) [
                | inl (now, is_event, tracked) ↦ judged_notarized found.0 now is_event tracked
                | inr (round, is_event, here) ↦ absurd (true≢false (sym (ap replays_verdict is_event) ∙ plain))
              ])
        ])
      where
        only_new : {A : Type 0} (o : Option A) → or_new None o ≡ o
        only_new None = refl
        only_new (Some a) = refl

        judged_notarized : (success : Bool) (now : ℕ) → e ≡ event.Certified v success now → is_tracked x v ≡ true
            → is_some (round_of x v).notarization ≡ true
        judged_notarized success now is_event tracked =
            let given : IsEvent {K = K} x (event.Certified v success now) = subst (IsEvent x) is_event takes in
            (taken_parts success (new_round x.me x.members (round_number x v)) (round_at x v) tracked
            (and_parts (is_started x) _ given).1).0

  -- ---- what was based is so

  final_by : (f : Event K D) → 0 < finalized_by_event f
      → (c : ProposalFacts D) × (brings_finalization (finalized_by_event f) f ≡ Some c)
      × ((round_of x (finalized_by_event f)).finalization ≡ None
      → first_certificate_by (finalized_by_event f) x f ≡ Some c.proposal)
  final_by (event.AddFinalization c now) some = (
    c,
    ap (λ b. if b then Some c else None) (eq-eqb c.proposal.round.view c.proposal.round.view refl),
    λ none. rw (eq-eqb c.proposal.round.view c.proposal.round.view refl, none) refl,
  )
  final_by (event.SetFloor (FinalizedFloor c) now) some = (
    c,
    ap (λ b. if b then Some c else None) (eq-eqb c.proposal.round.view c.proposal.round.view refl),
    λ none. rw (eq-eqb c.proposal.round.view c.proposal.round.view refl, none) refl,
  )
  final_by _ some = absurd (omega (arith, some))

  -- an event that finalizes a view bases the state on it
  pub raised_based : x.finalized < finalized_by_event e
      → IsConsistent (finalized_by_event e) (round_of x (finalized_by_event e)) → IsBased after
  raised_based above consistent =
      let u = finalized_by_event e in
      let final = goes.finalized in
      let down = low in
      let here : after.finalized ≡ u = omega (arith, final, above) in
      let kept : left_from x e ≤ u = omega (arith, down, above) in
      let by = final_by e (omega (arith, above)) in
      inr (
        omega (arith, here, above),
        subst (λ w. is_some (round_of after w).finalization ≡ true) (sym here)
            (ap is_some (finalization_is u kept ∙ ap (or_new (round_of x u).finalization) by.1)
            ∙ some_brought (round_of x u).finalization by.0),
        subst (λ w. is_some (round_of after w).slot.held ≡ true) (sym here)
            (ap is_some (held_is u kept ∙ ap (λ o. option_or o (or_new (round_of x u).slot.held
            (option_or (hears_of u x e) (owns same elect u x e)))) (by.2 consistent.unfinalized))),
      )

  pub based_after : (x.finalized < finalized_by_event e
      → IsConsistent (finalized_by_event e) (round_of x (finalized_by_event e))) → IsBased x → IsBased after
  based_after consistent was = elim (cases_lt x.finalized (finalized_by_event e)) [
    | inl raises ↦ raised_based raises (consistent raises)
    | inr stays ↦
        (let final = goes.finalized in
        let one : after.finalized ≡ x.finalized = omega (arith, final, stays) in
        stayed one was)
  ]
    where
      stayed : after.finalized ≡ x.finalized → IsBased x → IsBased after
      stayed one (inl (none, genesis)) =
          inl (one ∙ none, ap is_some goes.genesis ∙ some_or (sets_genesis e) x.genesis genesis)
      stayed one (inr (some, final, held)) =
          inr (
            omega (arith, one, some),
            subst (λ w. is_some (round_of after w).finalization ≡ true) (sym one)
                (ap is_some (finalization_is x.finalized low)
                ∙ some_still (round_of x x.finalized).finalization _ final),
            subst (λ w. is_some (round_of after w).slot.held ≡ true) (sym one) (still_held x.finalized low held),
          )

  -- ---- what is not ready stays so, or waits again

  span_still : (v p : ℕ) → has_valid_parent_span x v p ≡ false → has_valid_parent_span after v p ≡ false
  unfolding has_valid_parent_span
  span_still v p denied = by_test (has_valid_parent_span after v p) refl
    where
      valid : has_valid_parent_span after v p ≡ true → has_valid_parent_span x v p ≡ true
      valid is =
          let two = and_parts (nat_lt p v && nat_le after.finalized p) (p + 1 == v || is_term_start after v) is in
          let one = and_parts (nat_lt p v) (nat_le after.finalized p) two.0 in
          let up = rises in
          let under = leb-true after.finalized p one.1 in
          and_both (nat_lt p v && nat_le x.finalized p) (p + 1 == v || is_term_start x v)
          (and_both (nat_lt p v) (nat_le x.finalized p) one.0 (le-leb x.finalized p (omega (arith, up, under))))
          (subst (λ t. (p + 1 == v || v == term_start t.term_length v) ≡ true) goes.terms two.1)

      by_test : (b : Bool) → has_valid_parent_span after v p ≡ b → b ≡ false
      by_test true is = absurd (true≢false (sym (valid is) ∙ denied))
      by_test false is = refl

  required_still : (v : ℕ) (p : Proposal D) (q : ℕ) → left_from x e ≤ v
      → required_certification_parent elect x v p ≡ Some q → required_certification_parent elect after v p ≡ Some q
  unfolding required_certification_parent
  required_still v p q kept is =
      let moved : required_certification_parent elect after v p
      ≡ (if is_term_start x v
      then (if p.parent + 1 == v && (is_elected_early elect x v && (round_of after v).notarize_decided)
      then Some p.parent else None)
      else Some (v - 1)) =
      λ i. if (v == term_start ((goes.terms i).term_length) v)
      then (if p.parent + 1 == v && (early i && (round_of after v).notarize_decided) then Some p.parent else None)
      else Some (v - 1) in
      moved
      ∙ handed (is_term_start x v) (p.parent + 1 == v) (is_elected_early elect x v) (round_of x v).notarize_decided
      (round_of after v).notarize_decided p.parent (v - 1) q (decided_still v kept) is
    where
      early : is_elected_early elect after v ≡ is_elected_early elect x v
      early = λ i. (v == term_start ((goes.terms i).term_length) v) && works.elects_early i
          && signs_as (works.me i) (elect (works.elector i) (record { epoch = (goes.settings i).epoch; view = v }) None)

  module _ (v : ℕ) (above : after.finalized < v) where
    -- the view before it stays uncertified, or names it once it is certified or finalized; a replayed verdict does not
    -- name it
    parent_after : (p : Proposal D) → is_some (round_of x v).notarization ≡ true → (round_of x v).slot.held ≡ Some p
        → (needs : NeedsParent elect x v p) → (round_of x needs.parent).finalization ≡ None
        → ((after.finalized < needs.parent) × (is_certified (round_of after needs.parent).certification ≡ false))
        ⊎ (is_among v after.named ≡ true)
        ⊎ ((round : Round) × (e ≡ event.Replay (Verdict round true)) × (needs.parent ≡ round.view))
    parent_after p notarized held needs unfinalized = elim (cases_lt after.finalized q) [
      | inl under ↦ by_certified under (is_certified (round_of after q).certification) refl
      | inr over ↦
          (let final = goes.finalized in
          let first = needs.above in
          let next = needs.next in
          let is_parent : finalized_by_event e ≡ q = omega (arith, final, over, first, next, above) in
          inr (inl (named_by (final_event elect x v e q is_parent needs.next needs.above unfinalized waits))))
    ]
      where
        q : ℕ
        q = needs.parent

        waits : waits_for elect x q (round_of x v) ≡ true
        waits = waits_so elect x v p q notarized held needs.next needs.required

        named_by : names elect v x e ≡ Some true → is_among v after.named ≡ true
        named_by is = works.named v ∙ ap (λ o. unwrap_or o (is_among v x.named)) is

        kept_parent : left_from x e ≤ q
        kept_parent = let down = low in let first = needs.above in omega (arith, down, first)

        certifies : is_certified (round_of after q).certification ≡ true
            → verdict_of_event (is_tracked x) q e ≡ Some true
        certifies is = elim (new_or_old (verdict_of (round_of x q).certification) (verdict_of_event (is_tracked x) q e)
            true (sym (verdict_is q kept_parent) ∙ verdict_so (round_of after q).certification is)) [
              | inl before ↦
                  absurd (true≢false (sym (certified_so (round_of x q).certification before) ∙ needs.uncertified))
              | inr now ↦ now
            ]

        by_certified : after.finalized < q → (b : Bool) → is_certified (round_of after q).certification ≡ b
            → ((after.finalized < q) × (is_certified (round_of after q).certification ≡ false))
            ⊎ (is_among v after.named ≡ true)
            ⊎ ((round : Round) × (e ≡ event.Replay (Verdict round true)) × (q ≡ round.view))
        by_certified under false is = inl (under, is)
        by_certified under true is = elim (judges x q true e (certifies is)) [
          | inl (now, is_event, tracked) ↦
              (let first = needs.above in
              let next = needs.next in
              inr (inl (named_by (ap (names elect v x) is_event
              ∙ ap (λ b. if b then Some true else None) (and_both (is_tracked x q) _ tracked
              (wakes_so elect x v x.finalized q needs.next (omega (arith, first, next)) waits))))))
          | inr (round, is_event, here) ↦ inr (inr (round, is_event, here))
        ]

    -- the same of its proposal
    pub unready_after : (c : ProposalFacts D) → (round_of x v).notarization ≡ Some c → IsConsistent v (round_of x v)
        → ((q : ℕ) → x.finalized < q → (round_of x q).finalization ≡ None) → IsUnready elect x v
        → IsUnready elect after v ⊎ (is_among v after.named ≡ true) ⊎ ReplaysParent elect after e v c.proposal
    unready_after c notarized was unfinalized unready = by_cause unready.because
      where
        held : (round_of after v).slot.held ≡ Some unready.proposal
        held = held_stays v above c was notarized ∙ unready.held

        by_cause : (has_valid_parent_span x v unready.proposal.parent ≡ false)
            ⊎ NeedsParent elect x v unready.proposal
            → IsUnready elect after v ⊎ (is_among v after.named ≡ true) ⊎ ReplaysParent elect after e v c.proposal
        by_cause (inl denied) = inl (record {
          proposal = unready.proposal;
          held = held;
          because = inl (span_still v unready.proposal.parent denied);
        })
        by_cause (inr needs) =
            let still = required_still v unready.proposal needs.parent (kept v above) needs.required in
            elim (parent_after unready.proposal (ap is_some notarized) unready.held needs
            (unfinalized needs.parent needs.above)) [
              | inl (under, uncertified) ↦ inl (record {
                proposal = unready.proposal;
                held = held;
                because = inr (record {
                  parent = needs.parent;
                  required = still;
                  next = needs.next;
                  above = under;
                  uncertified = uncertified;
                });
              })
              | inr (inl named) ↦ inr (inl named)
              | inr (inr (round, is_event, here)) ↦ inr (inr (record {
                round = round;
                replays = is_event;
                required = subst (λ w. required_certification_parent elect after v c.proposal ≡ Some w) here
                    (subst (λ p. required_certification_parent elect after v p ≡ Some needs.parent)
                    (some_one unready.proposal c.proposal (sym unready.held ∙ (was.notarized c notarized).0)) still);
                next = needs.next ∙ ap (λ w. w + 1) here;
              }))
            ]
