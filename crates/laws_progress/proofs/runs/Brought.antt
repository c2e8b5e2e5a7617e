-- What each event brings to a state: what its rounds hold was accepted or certified, and what it enters was led to.
use Rattle.std.proofs.Common.{◌≡◌, refl, ap, sym, ◌∙◌, subst, ◌⊎◌, inl, inr, ℕ, ◌+◌, ◌<◌, ◌≤◌, max, Bool, true, false, ◌&&◌, ◌||◌, if◌then◌else◌, nat_le, List, Contains, Option, Some, None, is_some, unwrap_or, cond, arith}
use Rattle.std.specs.Prelude.{◌==◌, is_none}
use Rattle.std.specs.Option.{option_or}
use Rattle.std.proofs.lemmas.Bool.{false≢true, true≢false, eq-eqb, eqb-true, cases_lt}
use Rattle.std.proofs.lemmas.Bool.Decides.{nat_tests}
use Rattle.simplex_types.specs.Certificates.{ProposalFacts, NullificationFacts}
use Rattle.simplex_types.specs.Config.{Genesis, Finalized}
use Rattle.simplex_types.specs.declared.types.messages.Proposal.{Proposal}
use Rattle.simplex_types.specs.declared.types.messages.Subject.TheVariants as subject
use Rattle.simplex_types.specs.declared.types.numbers.Round.{Round}
use Rattle.simplex_round.specs.Round.{RoundFacts, new_round}
use Rattle.simplex_voter.specs.Facts.{StateFacts, Elect, round_at, round_of, round_number, is_tracked}
use Rattle.simplex_voter.specs.Refusals.{takes_round, is_started}
use Rattle.simplex_voter.specs.Windows.{min_active}
use Rattle.simplex_voter.proofs.Gaps.{and_parts}
use Rattle.simplex_record.proofs.Steps.{notarization_by, nullification_by, finalization_by}
use Rattle.laws_safety.specs.Traces.{TraceEvent, Accepts}
use Rattle.simplex_record.specs.Events as event
use Rattle.simplex_record.specs.Events.{Event, IsEvent, after_event, finalized_by_event, is_prune}
use Rattle.laws_history.specs.OwnWork.{first_certificate_by, hears_of, owns}
use Rattle.laws_history.specs.HistoryFacts.{verdict_of}
use Rattle.laws_history.specs.HistoryFolds.{or_new, brings_notarization, brings_finalization, verdict_of_event, entered_by, sets_genesis}
use Rattle.laws_safety.proofs.frames.EachRound.{pruned_view, prune_alone}
use Rattle.laws_history.proofs.EventFacts.{FollowsEvent, left_from}
use Rattle.laws_history.proofs.ReplayEvents.{event_follows}
use Rattle.laws_progress.specs.ViewCauses.{IsInEpoch, IsLedTo, First, PastFinalized, PastCertified, PastNullified, HasJudged}

module _ {K L D : Type 0} (epoch : ℕ) (trace : List (TraceEvent D)) (verdicts : List (Bool × Proposal D))
    (x : StateFacts K L D) where
  -- what an event brings was accepted or certified
  pub record BringsAccepted (e : Event K D) : Type 0 where
    pub notarized : (c : ProposalFacts D) → notarization_by e ≡ Some c
        → Contains trace (Accepts (subject.Notarize c.proposal))
    pub nullified : (c : NullificationFacts) → nullification_by e ≡ Some c
        → Contains trace (Accepts (subject.Nullify c.round))
    pub finalized : (c : ProposalFacts D) → finalization_by e ≡ Some c
        → Contains trace (Accepts (subject.Finalize c.proposal))
    pub judged : (v : ℕ) (success : Bool) → verdict_of_event (is_tracked x) v e ≡ Some success
        → HasJudged success epoch verdicts v

  -- what the rounds hold was, and each with a certificate holds a proposal
  pub record RoundsLed : Type 0 where
    pub notarized : (v : ℕ) (c : ProposalFacts D) → (round_of x v).notarization ≡ Some c
        → IsInEpoch epoch v c.proposal.round × Contains trace (Accepts (subject.Notarize c.proposal))
    pub finalized : (v : ℕ) (c : ProposalFacts D) → (round_of x v).finalization ≡ Some c
        → IsInEpoch epoch v c.proposal.round × Contains trace (Accepts (subject.Finalize c.proposal))
    pub judged : (v : ℕ) (success : Bool) → verdict_of (round_of x v).certification ≡ Some success
        → HasJudged success epoch verdicts v
    pub held : (v : ℕ) → (is_some (round_of x v).notarization || is_some (round_of x v).finalization) ≡ true
        → is_some (round_of x v).slot.held ≡ true

  -- an event that brings nothing
  pub brings_nothing : (e : Event K D) → notarization_by e ≡ None → nullification_by e ≡ None → finalization_by e ≡ None
      → ((v : ℕ) → verdict_of_event (is_tracked x) v e ≡ None) → BringsAccepted e
  brings_nothing e notarization nullification finalization verdict = record {
    notarized = λ c is. absurd (cc);
    nullified = λ c is. absurd (cc);
    finalized = λ c is. absurd (cc);
    judged = λ v success is. absurd (false≢true (ap is_some (sym (verdict v) ∙ is)));
  }

-- what was there and what is new

pub new_or_old : {A : Type 0} (old new : Option A) (a : A) → or_new old new ≡ Some a → (old ≡ Some a) ⊎ (new ≡ Some a)
new_or_old old None a is = inl is
new_or_old None (Some b) a is = inr is
new_or_old (Some c) (Some b) a is = inl is

pub some_still : {A : Type 0} (old new : Option A) → is_some old ≡ true → is_some (or_new old new) ≡ true
some_still old None is = is
some_still None (Some b) is = refl
some_still (Some c) (Some b) is = refl

pub some_brought : {A : Type 0} (old : Option A) (a : A) → is_some (or_new old (Some a)) ≡ true
some_brought None a = refl
some_brought (Some c) a = refl

some_or : {A : Type 0} (first rest : Option A) → is_some rest ≡ true → is_some (option_or first rest) ≡ true
some_or None rest is = is
some_or (Some a) rest is = refl

some_first : {A : Type 0} (first rest : Option A) → is_some first ≡ true → is_some (option_or first rest) ≡ true
some_first None rest is = absurd (false≢true is)
some_first (Some a) rest is = refl

none_of : {A : Type 0} (o : Option A) → is_some o ≡ false → o ≡ None
none_of None is = refl
none_of (Some a) is = absurd (true≢false is)

none_both : {A B : Type 0} (o : Option A) (p : Option B) → (is_some o || is_some p) ≡ false → (o ≡ None) × (p ≡ None)
none_both None p is = (refl, none_of p is)
none_both (Some a) p is = absurd (true≢false is)

-- what an event passes in of a view

at_its_view : {D : Type 0} (v : ℕ) (d c : ProposalFacts D) (b : Bool) → (v == d.proposal.round.view) ≡ b
    → (if b then Some d else None) ≡ Some c → (Some d ≡ Some c) × (c.proposal.round.view ≡ v)
at_its_view {D} v d c true at is = let one : d ≡ c = cc in
    (is, ap (λ (f : ProposalFacts D). f.proposal.round.view) (sym one) ∙ sym (eqb-true v d.proposal.round.view at))
at_its_view v d c false at is = absurd (cc)

module _ {K D : Type 0} (v : ℕ) where
  pub notarizes_by : (e : Event K D) (c : ProposalFacts D) → brings_notarization v e ≡ Some c
      → (notarization_by e ≡ Some c) × (c.proposal.round.view ≡ v)
  notarizes_by (event.AddNotarization d) c is = at_its_view v d c (v == d.proposal.round.view) refl is
  notarizes_by _ c is = absurd (false≢true (ap is_some is))

  pub finalizes_by : (e : Event K D) (c : ProposalFacts D) → brings_finalization v e ≡ Some c
      → (finalization_by e ≡ Some c) × (c.proposal.round.view ≡ v)
  finalizes_by (event.AddFinalization d now) c is = at_its_view v d c (v == d.proposal.round.view) refl is
  finalizes_by (event.SetFloor (Finalized d) now) c is = at_its_view v d c (v == d.proposal.round.view) refl is
  finalizes_by _ c is = absurd (false≢true (ap is_some is))

-- what an event brings is of the state's epoch

module _ {K L D : Type 0} (x : StateFacts K L D) where
  pub in_epoch : (r : Round) → takes_round x r ≡ true → r.epoch ≡ x.settings.epoch
  in_epoch r takes = eqb-true r.epoch x.settings.epoch
      (and_parts (is_started x) _ (and_parts (is_started x && (r.epoch == x.settings.epoch)) _ takes).0).1

  notarized_in_epoch : (e : Event K D) (c : ProposalFacts D) → IsEvent x e → notarization_by e ≡ Some c
      → c.proposal.round.epoch ≡ x.settings.epoch
  notarized_in_epoch (event.AddNotarization d) c takes is = let one : d ≡ c = cc in
      subst (λ (f : ProposalFacts D). f.proposal.round.epoch ≡ x.settings.epoch) one (in_epoch d.proposal.round takes)
  notarized_in_epoch _ c takes is = absurd (false≢true (ap is_some is))

  floor_in_epoch : (d : ProposalFacts D) → ((x.current == 0) && (d.proposal.round.epoch == x.settings.epoch) && nat_le 1
      d.proposal.round.view) ≡ true → d.proposal.round.epoch ≡ x.settings.epoch
  floor_in_epoch d takes = eqb-true d.proposal.round.epoch x.settings.epoch
      (and_parts (x.current == 0) _
      (and_parts ((x.current == 0) && (d.proposal.round.epoch == x.settings.epoch)) _ takes).0).1

  finalized_in_epoch : (e : Event K D) (c : ProposalFacts D) → IsEvent x e → finalization_by e ≡ Some c
      → c.proposal.round.epoch ≡ x.settings.epoch
  finalized_in_epoch (event.AddFinalization d now) c takes is = let one : d ≡ c = cc in
      subst (λ (f : ProposalFacts D). f.proposal.round.epoch ≡ x.settings.epoch) one (in_epoch d.proposal.round takes)
  finalized_in_epoch (event.SetFloor (Finalized d) now) c takes is = let one : d ≡ c = cc in
      subst (λ (f : ProposalFacts D). f.proposal.round.epoch ≡ x.settings.epoch) one (floor_in_epoch d takes)
  finalized_in_epoch _ c takes is = absurd (false≢true (ap is_some is))

  settles : (v : ℕ) (c : ProposalFacts D) → (round_of x v).finalization ≡ None → (b : Bool)
      → (v == c.proposal.round.view) ≡ b → is_some (if b then Some c else None) ≡ true
      → is_some (if b && is_none (round_of x c.proposal.round.view).finalization then Some c.proposal else None) ≡ true
  settles v c no_finalization true at is = rw
      (subst (λ w. is_none (round_of x w).finalization ≡ true) (eqb-true v c.proposal.round.view at)
      (ap is_none no_finalization)) refl
  settles v c no_finalization false at is = absurd (false≢true is)

  -- the first certificate of a view settles what it holds
  first_held : (v : ℕ) (e : Event K D) → (round_of x v).notarization ≡ None → (round_of x v).finalization ≡ None
      → (is_some (brings_notarization v e) || is_some (brings_finalization v e)) ≡ true
      → is_some (first_certificate_by v x e) ≡ true
  first_held v (event.AddNotarization c) no_notarization no_finalization is =
      by_test (v == c.proposal.round.view) refl is
    where
      by_test : (b : Bool) → (v == c.proposal.round.view) ≡ b → (is_some (if b then Some c else None) || false) ≡ true
          → is_some (if b && is_none (round_of x c.proposal.round.view).notarization then Some c.proposal else None)
          ≡ true
      by_test true at is = rw (subst (λ w. is_none (round_of x w).notarization ≡ true)
          (eqb-true v c.proposal.round.view at) (ap is_none no_notarization)) refl
      by_test false at is = absurd (false≢true is)
  first_held v (event.AddFinalization c now) no_notarization no_finalization is =
      settles v c no_finalization (v == c.proposal.round.view) refl is
  first_held v (event.SetFloor (Finalized c) now) no_notarization no_finalization is =
      settles v c no_finalization (v == c.proposal.round.view) refl is
  first_held v _ no_notarization no_finalization is = absurd (false≢true is)

module _ {K L D : Type 0} (same : D → D → Bool) (decides : (d e : D) → same d e ≡ true → d ≡ e) (elect : Elect L)
    (trace : List (TraceEvent D)) (verdicts : List (Bool × Proposal D)) (x : StateFacts K L D) (e : Event K D)
    (allowed : IsEvent x e) (brings : BringsAccepted x.settings.epoch trace verdicts x e) where
  abbrev y : StateFacts K L D
  y = after_event same elect x e

  follows : FollowsEvent same elect e x y
  follows = event_follows same decides elect x e allowed

  -- a view that is dropped
  gone : (v : ℕ) → v < left_from x e → round_at y v ≡ None
  gone v below = by_prune (is_prune e) refl below
    where
      by_prune : (b : Bool) → is_prune e ≡ b → v < (if b then min_active x else 0) → round_at y v ≡ None
      by_prune true prunes low = subst (λ z. round_at z v ≡ None) (sym (prune_alone same elect x e prunes))
          (pruned_view x v ∙ ap (λ b. cond b (round_at x v) None) (not_kept low))
        where
          not_kept : v < min_active x → nat_le (min_active x) v ≡ false
          not_kept low = grind (arith, nat_tests)
      by_prune false prunes low = absurd (omega (arith, low))

  fresh_there : (v : ℕ) → v < left_from x e → round_of y v ≡ new_round y.me y.members (round_number y v)
  fresh_there v below = ap (λ o. unwrap_or o (new_round y.me y.members (round_number y v))) (gone v below)

  module _ (led : RoundsLed x.settings.epoch trace verdicts x) where
    notarized_after : (v : ℕ) (c : ProposalFacts D) → (round_of y v).notarization ≡ Some c
        → IsInEpoch x.settings.epoch v c.proposal.round × Contains trace (Accepts (subject.Notarize c.proposal))
    notarized_after v c is = elim (cases_lt v (left_from x e)) [
      | inl below ↦ absurd
          (false≢true (ap is_some (sym (ap (λ (r : RoundFacts K D). r.notarization) (fresh_there v below)) ∙ is)))
      | inr kept ↦ elim (new_or_old (round_of x v).notarization (brings_notarization v e) c
          (sym (ap (λ k. k.notarization) (follows.rounds v kept)) ∙ is)) [
            | inl old ↦ led.notarized v c old
            | inr new ↦ (let by = notarizes_by v e c new in
                ((by.1, notarized_in_epoch x e c allowed by.0), brings.notarized c by.0))
          ]
    ]

    finalized_after : (v : ℕ) (c : ProposalFacts D) → (round_of y v).finalization ≡ Some c
        → IsInEpoch x.settings.epoch v c.proposal.round × Contains trace (Accepts (subject.Finalize c.proposal))
    finalized_after v c is = elim (cases_lt v (left_from x e)) [
      | inl below ↦ absurd
          (false≢true (ap is_some (sym (ap (λ (r : RoundFacts K D). r.finalization) (fresh_there v below)) ∙ is)))
      | inr kept ↦ elim (new_or_old (round_of x v).finalization (brings_finalization v e) c
          (sym (ap (λ k. k.finalization) (follows.rounds v kept)) ∙ is)) [
            | inl old ↦ led.finalized v c old
            | inr new ↦ (let by = finalizes_by v e c new in
                ((by.1, finalized_in_epoch x e c allowed by.0), brings.finalized c by.0))
          ]
    ]

    judged_after : (v : ℕ) (success : Bool) → verdict_of (round_of y v).certification ≡ Some success
        → HasJudged success x.settings.epoch verdicts v
    judged_after v success is = elim (cases_lt v (left_from x e)) [
      | inl below ↦ absurd (false≢true
          (ap is_some (sym (ap (λ (r : RoundFacts K D). verdict_of r.certification) (fresh_there v below)) ∙ is)))
      | inr kept ↦ elim (new_or_old (verdict_of (round_of x v).certification) (verdict_of_event (is_tracked x) v e)
          success (sym (ap (λ k. k.verdict) (follows.rounds v kept)) ∙ is)) [
            | inl old ↦ led.judged v success old
            | inr new ↦ brings.judged v success new
          ]
    ]

    held_kept : (v : ℕ) → left_from x e ≤ v →
        (is_some (round_of y v).notarization || is_some (round_of y v).finalization) ≡ true
        → is_some (round_of y v).slot.held ≡ true
    held_kept v kept is = by_old (is_some (round_of x v).notarization || is_some (round_of x v).finalization) refl
      where
        now_held : is_some (option_or (first_certificate_by v x e)
            (or_new (round_of x v).slot.held (option_or (hears_of v x e) (owns same elect v x e)))) ≡ true
            → is_some (round_of y v).slot.held ≡ true
        now_held some = ap (λ k. is_some k.held) (follows.rounds v kept) ∙ some

        by_old : (b : Bool) → (is_some (round_of x v).notarization || is_some (round_of x v).finalization) ≡ b
            → is_some (round_of y v).slot.held ≡ true
        by_old true there =
            now_held (some_or (first_certificate_by v x e) _ (some_still (round_of x v).slot.held _ (led.held v there)))
        by_old false none =
            let neither = none_both (round_of x v).notarization (round_of x v).finalization none in
            let replied : (is_some (or_new (round_of x v).notarization (brings_notarization v e)) || is_some
            (or_new (round_of x v).finalization (brings_finalization v e))) ≡ true =
            (λ i. is_some (sym (follows.rounds v kept) i).notarization || is_some
            (sym (follows.rounds v kept) i).finalization) ∙ is in
            now_held (some_first (first_certificate_by v x e) _
            (first_held x v e neither.0 neither.1
            (by_new (brings_notarization v e) (brings_finalization v e)
            ((λ i. is_some (or_new (sym neither.0 i) (brings_notarization v e)) || is_some
            (or_new (sym neither.1 i) (brings_finalization v e))) ∙ replied))))
          where
            by_new : (n f : Option (ProposalFacts D)) → (is_some (or_new None n) || is_some (or_new None f)) ≡ true
                → (is_some n || is_some f) ≡ true
            by_new None None is = is
            by_new None (Some f) is = refl
            by_new (Some n) f is = refl

    held_after : (v : ℕ) → (is_some (round_of y v).notarization || is_some (round_of y v).finalization) ≡ true
        → is_some (round_of y v).slot.held ≡ true
    held_after v is = elim (cases_lt v (left_from x e)) [
      | inl below ↦ absurd (false≢true (ap (λ (r : RoundFacts K D). is_some r.notarization || is_some r.finalization)
          (sym (fresh_there v below)) ∙ is))
      | inr kept ↦ held_kept v kept is
    ]

    pub rounds_led : RoundsLed x.settings.epoch trace verdicts y
    rounds_led =
        record { notarized = notarized_after; finalized = finalized_after; judged = judged_after; held = held_after }

  -- the last finalized view's round holds its finalization
  pub final_after : (x.finalized ≡ 0) ⊎ (is_some (round_of x x.finalized).finalization ≡ true)
      → (y.finalized ≡ 0) ⊎ (is_some (round_of y y.finalized).finalization ≡ true)
  final_after before = elim (cases_lt x.finalized (finalized_by_event e)) [
    | inl raised ↦ inr (subst (λ v. is_some (round_of y v).finalization ≡ true)
        (sym (follows.finalized ∙ higher raised)) (brought raised))
    | inr stays ↦ elim before [
      | inl none ↦ inl (follows.finalized ∙ omega (arith, stays, none))
      | inr there ↦ inr (subst (λ v. is_some (round_of y v).finalization ≡ true) (sym (follows.finalized ∙ lower stays))
          (ap (λ k. is_some k.finalization) (follows.rounds x.finalized (kept x.finalized (omega arith)))
          ∙ some_still (round_of x x.finalized).finalization (brings_finalization x.finalized e) there))
    ]
  ]
    where
      higher : x.finalized < finalized_by_event e → max x.finalized (finalized_by_event e) ≡ finalized_by_event e
      higher raised = omega (arith, raised)

      lower : finalized_by_event e ≤ x.finalized → max x.finalized (finalized_by_event e) ≡ x.finalized
      lower stays = omega (arith, stays)

      kept : (v : ℕ) → x.finalized ≤ v → left_from x e ≤ v
      kept v above = by_prune (is_prune e)
        where
          by_prune : (b : Bool) → (if b then min_active x else 0) ≤ v
          by_prune true = omega (arith, above)
          by_prune false = omega arith

      certificate_call : (f : Event K D) → 0 < finalized_by_event f
          → (c : ProposalFacts D) × (brings_finalization (finalized_by_event f) f ≡ Some c)
      certificate_call (event.AddFinalization c now) some =
          (c, rw (eq-eqb c.proposal.round.view c.proposal.round.view refl) refl)
      certificate_call (event.SetFloor (Finalized c) now) some =
          (c, rw (eq-eqb c.proposal.round.view c.proposal.round.view refl) refl)
      certificate_call _ some = absurd (omega (arith, some))

      brought : x.finalized < finalized_by_event e → is_some (round_of y (finalized_by_event e)).finalization ≡ true
      brought raised =
          let w = finalized_by_event e in
          let new = certificate_call e (omega (arith, raised)) in
          ap (λ k. is_some k.finalization) (follows.rounds w (kept w (omega (arith, raised))))
          ∙ (ap (λ o. is_some (or_new (round_of x w).finalization o)) new.1
          ∙ some_brought (round_of x w).finalization new.0)

  pub genesis_still : is_some x.genesis ≡ true → is_some y.genesis ≡ true
  genesis_still is = ap is_some follows.genesis ∙ some_or (sets_genesis e) x.genesis is

  -- what an event enters was led to
  module _ (term_length : ℕ) where
    entered_led : 0 < entered_by term_length (is_tracked x) e
        → IsLedTo term_length x.settings.epoch trace verdicts (entered_by term_length (is_tracked x) e)
    entered_led some = by_event e allowed brings some
      where
        by_tracked : (v now : ℕ) → ((w : ℕ) (success : Bool)
            → verdict_of_event {K = K} {D = D} (is_tracked x) w (event.Certified v true now) ≡ Some success
            → HasJudged success x.settings.epoch verdicts w) → (b : Bool) → is_tracked x v ≡ b
            → 0 < (if b then v + 1 else 0) → IsLedTo term_length x.settings.epoch trace verdicts
            (if b then v + 1 else 0)
        by_tracked v now judged true tracked some =
            PastCertified v (judged v true (rw (eq-eqb v v refl, tracked) refl)) refl
        by_tracked v now judged false tracked some = absurd (omega (arith, some))

        by_event : (f : Event K D) → IsEvent x f → BringsAccepted x.settings.epoch trace verdicts x f
            → 0 < entered_by term_length (is_tracked x) f
            → IsLedTo term_length x.settings.epoch trace verdicts (entered_by term_length (is_tracked x) f)
        by_event (event.SetFloor (Genesis payload) now) takes gets some = First refl
        by_event (event.SetFloor (Finalized c) now) takes gets some =
            PastFinalized c.proposal.round.view (c.proposal, gets.finalized c refl, (refl, floor_in_epoch x c takes))
            refl
        by_event (event.AddFinalization c now) takes gets some =
            PastFinalized c.proposal.round.view
            (c.proposal, gets.finalized c refl, (refl, in_epoch x c.proposal.round takes)) refl
        by_event (event.AddNullification c now) takes gets some =
            PastNullified c.round.view (c.round, gets.nullified c refl, (refl, in_epoch x c.round takes)) refl
        by_event (event.Certified v true now) takes gets some = by_tracked v now gets.judged (is_tracked x v) refl some
        by_event (event.Certified v false now) takes gets some = absurd (omega (arith, some))
        by_event _ takes gets some = absurd (omega (arith, some))

    pub reached_after : x.terms.term_length ≡ term_length
        → (x.current < y.current) ⊎ IsLedTo term_length x.settings.epoch trace verdicts x.current
        → IsLedTo term_length x.settings.epoch trace verdicts y.current
    reached_after terms before = elim (cases_lt x.current (entered_by term_length (is_tracked x) e)) [
      | inl above ↦ subst (IsLedTo term_length x.settings.epoch trace verdicts) (sym (now_is ∙ higher above))
          (entered_led (omega (arith, above)))
      | inr stays ↦ elim before [
        | inl raised ↦ absurd (omega (arith, raised, now_is, lower stays))
        | inr led ↦ subst (IsLedTo term_length x.settings.epoch trace verdicts) (sym (now_is ∙ lower stays)) led
      ]
    ]
      where
        now_is : y.current ≡ max x.current (entered_by term_length (is_tracked x) e)
        now_is = follows.current ∙ ap (λ n. max x.current (entered_by n (is_tracked x) e)) terms

        higher : x.current < entered_by term_length (is_tracked x) e
            → max x.current (entered_by term_length (is_tracked x) e) ≡ entered_by term_length (is_tracked x) e
        higher above = omega (arith, above)

        lower : entered_by term_length (is_tracked x) e ≤ x.current
            → max x.current (entered_by term_length (is_tracked x) e) ≡ x.current
        lower stays = omega (arith, stays)
