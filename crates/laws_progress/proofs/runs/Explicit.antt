-- What a proposal may be built on, by what the state was led to.
use Rattle.std.proofs.Common.{◌≡◌, refl, ap, sym, ◌∙◌, subst, ◌⊎◌, inl, inr, ℕ, ◌+◌, ◌<◌, ◌≤◌, Bool, true, false, ◌||◌, List, [], ◌∷◌, Option, Some, None, is_some, unwrap_or, if◌then◌else◌, arith}
use Rattle.std.specs.Prelude.{option_and_then, option_map, is_none, MatchOption, ◌==◌}
use Rattle.std.specs.List.{list_any}
use Rattle.std.proofs.lemmas.Bool.{false≢true, true≢false, eqb-true, cases_eq, cases_lt}
use Rattle.simplex_types.specs.Certificates.{ProposalFacts}
use Rattle.simplex_types.specs.Terms.{covers, next_term_start}
use Rattle.simplex_types.specs.declared.types.messages.Proposal.{Proposal}
use Rattle.simplex_types.specs.declared.types.numbers.Round.{Round}
use Rattle.simplex_round.specs.declared.round.Certification.{Certification}
use Rattle.simplex_round.specs.declared.round.Certification.TheVariants as certification
use Rattle.simplex_round.specs.Round.{RoundFacts, new_round, is_certified, is_judged}
use Rattle.simplex_voter.specs.Facts.{StateFacts, round_at, round_of, round_number}
use Rattle.simplex_voter.specs.Gaps.{IsGapless, IsFirstGap, is_gapless, first_unnullified_view}
use Rattle.simplex_voter.specs.Payloads.{certified_payload, explicit_ancestry_payload}
use Rattle.simplex_voter.proofs.Gaps.{first_unnullified_view-is, or_right}
use Rattle.simplex_member.specs.OutstandingWork.{is_among}
use Rattle.laws_safety.specs.Traces.{TraceEvent}
use Rattle.laws_history.specs.HistoryFacts.{verdict_of}
use Rattle.laws_safety.proofs.lives.ViewTimeouts.{TimesOut}
use Rattle.laws_safety.proofs.votes.ShownVotes.{ShowsVotesInLife}
use Rattle.laws_progress.specs.ViewCauses.{HasFinalized, HasCertified, HasJudged}
use Rattle.laws_progress.specs.ViewPositions.{StandsBefore}
use Rattle.laws_progress.proofs.runs.Arrivals.{Came}
use Rattle.laws_progress.proofs.runs.Led.{Led}
use Rattle.laws_progress.proofs.states.BeforeTermStart.{explicit_by}

good_judged : (c : Certification) → verdict_of c ≡ Some true → is_certified c ≡ true
good_judged certification.Ready is = absurd (false≢true (ap is_some is))
good_judged (certification.Outstanding t) is = absurd (false≢true (ap is_some is))
good_judged (certification.Judged true) is = refl
good_judged (certification.Judged false) is = absurd (false≢true (ap (λ o. unwrap_or o true) is))
good_judged certification.Aborted is = absurd (false≢true (ap is_some is))

verdict_stands : (c : Certification) (success : Bool) → is_judged success c ≡ true → verdict_of c ≡ Some success
verdict_stands certification.Ready success is = absurd (false≢true is)
verdict_stands (certification.Outstanding t) success is = absurd (false≢true is)
verdict_stands (certification.Judged true) true is = refl
verdict_stands (certification.Judged true) false is = absurd (false≢true is)
verdict_stands (certification.Judged false) true is = absurd (false≢true is)
verdict_stands (certification.Judged false) false is = refl
verdict_stands certification.Aborted success is = absurd (false≢true is)

some_at : {A : Type 0} (o : Option A) → is_some o ≡ true → (a : A) × (o ≡ Some a)
some_at None is = absurd (false≢true is)
some_at (Some a) is = (a, refl)

module _ {K L D : Type 0} (term_length : ℕ) (trace : List (TraceEvent D)) (verdicts : List (Bool × Proposal D))
    (x : StateFacts K L D) (led : Led term_length trace verdicts x) where
  -- each explicit view but genesis was finalized or certified
  pub explicit_led : (v : ℕ) (payload : D) → 0 < v → explicit_ancestry_payload x v ≡ Some payload
      → HasFinalized x.settings.epoch trace v ⊎ HasCertified x.settings.epoch verdicts v
  explicit_led v payload some is = by_round (round_at x v) refl (sym (explicit_by x v some) ∙ is)
    where
      by_parts : (r : RoundFacts K D) → round_of x v ≡ r → (f : Option (ProposalFacts D)) → r.finalization ≡ f
          → (b : Bool) → is_certified r.certification ≡ b
          → option_map (λ (p : Proposal D). p.payload) (if is_some f || b then r.slot.held else None) ≡ Some payload
          → HasFinalized x.settings.epoch trace v ⊎ HasCertified x.settings.epoch verdicts v
      by_parts r here (Some c) final b certifies is =
          inl (let h = led.rounds.finalized v c (ap (λ (s : RoundFacts K D). s.finalization) here ∙ final) in
          (c.proposal, h.1, h.0))
      by_parts r here None final true certifies is =
          inr (led.rounds.judged v true (verdict_stands (round_of x v).certification true
          (ap (λ (s : RoundFacts K D). is_certified s.certification) here ∙ certifies)))
      by_parts r here None final false certifies is = absurd (false≢true (ap is_some is))

      by_round : (o : Option (RoundFacts K D)) → round_at x v ≡ o → option_and_then certified_payload o ≡ Some payload
          → HasFinalized x.settings.epoch trace v ⊎ HasCertified x.settings.epoch verdicts v
      by_round None at is = absurd (false≢true (ap is_some is))
      by_round (Some r) at is = by_parts r (ap (λ o. unwrap_or o (new_round x.me x.members (round_number x v))) at)
          r.finalization refl (is_certified r.certification) refl is

  -- each stored verdict was received
  pub verdict_led : (v : ℕ) (success : Bool) → is_judged success (round_of x v).certification ≡ true
      → HasJudged success x.settings.epoch verdicts v
  verdict_led v success is = led.rounds.judged v success (verdict_stands (round_of x v).certification success is)

  -- a view with a certificate that is finalized or certified is explicit
  held_explicit : (v : ℕ) → 0 < v → (is_some (round_of x v).finalization || is_certified (round_of x v).certification)
      ≡ true → (is_some (round_of x v).notarization || is_some (round_of x v).finalization) ≡ true
      → (payload : D) × (explicit_ancestry_payload x v ≡ Some payload)
  held_explicit v some good noted = by_round (round_at x v) refl
    where
      held : is_some (round_of x v).slot.held ≡ true
      held = led.rounds.held v noted

      by_round : (o : Option (RoundFacts K D)) → round_at x v ≡ o
          → (payload : D) × (explicit_ancestry_payload x v ≡ Some payload)
      by_round None at = absurd (false≢true
          (ap (λ o. is_some (unwrap_or o (new_round x.me x.members (round_number x v))).slot.held) (sym at) ∙ held))
      by_round (Some r) at =
          let here : round_of x v ≡ r = ap (λ o. unwrap_or o (new_round x.me x.members (round_number x v))) at in
          let proposal = some_at r.slot.held (ap (λ (s : RoundFacts K D). is_some s.slot.held) (sym here) ∙ held) in
          let tests : (is_some r.finalization || is_certified r.certification) ≡ true =
          ap (λ (s : RoundFacts K D). is_some s.finalization || is_certified s.certification) (sym here) ∙ good in
          let payload_is : certified_payload r ≡ Some proposal.0.payload =
          rw tests (ap (option_map (λ (p : Proposal D). p.payload)) proposal.1) in
          (proposal.0.payload, explicit_by x v some ∙ (ap (option_and_then certified_payload) at ∙ payload_is))

  -- so is the last finalized one, and genesis
  pub finalized_explicit : (payload : D) × (explicit_ancestry_payload x x.finalized ≡ Some payload)
  unfolding explicit_ancestry_payload
  finalized_explicit = elim (cases_eq x.finalized 0) [
    | inl none ↦ subst (λ v. (payload : D) × (explicit_ancestry_payload x v ≡ Some payload)) (sym none)
        (genesis_explicit (by_base none led.based))
    | inr some ↦ held_explicit x.finalized (omega (arith, some)) (first_of_two (there some led.final))
        (or_right (is_some (round_of x x.finalized).notarization) _ (there some led.final))
  ]
    where
      genesis_explicit : is_some x.genesis ≡ true → (payload : D) × (explicit_ancestry_payload x 0 ≡ Some payload)
      genesis_explicit is = some_at x.genesis is

      by_base : x.finalized ≡ 0 → (is_some x.genesis ≡ true) ⊎ (0 < x.finalized) → is_some x.genesis ≡ true
      by_base none (inl is) = is
      by_base none (inr some) = absurd (omega (arith, none, some))

      there : (x.finalized ≡ 0 → ⊥) → (x.finalized ≡ 0) ⊎ (is_some (round_of x x.finalized).finalization ≡ true)
          → is_some (round_of x x.finalized).finalization ≡ true
      there some (inl none) = absurd (some none)
      there some (inr is) = is

      first_of_two : is_some (round_of x x.finalized).finalization ≡ true
          → (is_some (round_of x x.finalized).finalization || is_certified (round_of x x.finalized).certification)
          ≡ true
      first_of_two is = rw is refl

  pub certified_explicit : (v : ℕ) → 0 < v → verdict_of (round_of x v).certification ≡ Some true
      → is_some (round_of x v).notarization ≡ true → (payload : D) × (explicit_ancestry_payload x v ≡ Some payload)
  certified_explicit v some good noted = held_explicit v some
      (or_right (is_some (round_of x v).finalization) _ (good_judged (round_of x v).certification good)) (rw noted refl)

-- what is explicit lies below the current view

pub explicit_passed : {K L D : Type 0} {term_length : ℕ} {trace : List (TraceEvent D)} {x : StateFacts K L D}
    → ShowsVotesInLife term_length trace x → TimesOut x → (v : ℕ) (payload : D) → 0 < v
    → explicit_ancestry_payload x v ≡ Some payload → v < x.current
explicit_passed {K} {L} {D} {term_length} {trace} {x} stays times_out v payload some is =
    elim (cases_lt v x.current)
    [ inl below ↦ below | inr from ↦ absurd (by_round from (round_at x v) refl (sym (explicit_by x v some) ∙ is)) ]
  where
    by_parts : x.current ≤ v → (r : RoundFacts K D) → round_of x v ≡ r → (f : Option (ProposalFacts D))
        → r.finalization ≡ f → (b : Bool) → is_certified r.certification ≡ b
        → option_map (λ (p : Proposal D). p.payload) (if is_some f || b then r.slot.held else None) ≡ Some payload → ⊥
    by_parts from r here (Some c) final b certifies is =
        false≢true
        (ap is_some (sym (times_out.unfinalized v from) ∙ (ap (λ (s : RoundFacts K D). s.finalization) here ∙ final)))
    by_parts from r here None final true certifies is =
        (let low = (stays.stands.rounds v).entered
        (ap (λ (s : RoundFacts K D). is_certified s.certification) here ∙ certifies) in omega (arith, low, from))
    by_parts from r here None final false certifies is = false≢true (ap is_some is)

    by_round : x.current ≤ v → (o : Option (RoundFacts K D)) → round_at x v ≡ o
        → option_and_then certified_payload o ≡ Some payload → ⊥
    by_round from None at is = false≢true (ap is_some is)
    by_round from (Some r) at is = by_parts from r
        (ap (λ o. unwrap_or o (new_round x.me x.members (round_number x v))) at) r.finalization refl
        (is_certified r.certification) refl is

-- nullifications that are known

any_known : (test : ℕ → Bool) (us : List ℕ) (u : ℕ) → is_among u us ≡ true → test u ≡ true → list_any test us ≡ true
any_known test [] u known is = absurd (false≢true known)
any_known test (w ∷ us) u known is = by_view (λ h. any_known test us u h is) (u == w) refl known
  where
    by_view : (is_among u us ≡ true → list_any test us ≡ true) → (b : Bool) → (u == w) ≡ b → (b || is_among u us) ≡ true
        → (test w || list_any test us) ≡ true
    by_view behind true at known = rw (ap test (sym (eqb-true u w at)) ∙ is) refl
    by_view behind false apart known = or_right (test w) _ (behind known)

gapless_test : {K L D : Type 0} (x : StateFacts K L D) (p v : ℕ) → 0 < x.terms.term_length → IsGapless x p v
    → is_gapless x p v ≡ true
gapless_test x p v some gapless = by_gap (first_unnullified_view x p v) (first_unnullified_view-is x p v some)
  where
    by_gap : (o : Option ℕ) → MatchOption o (IsGapless x p v) (IsFirstGap x p v) → is_none o ≡ true
    by_gap None none = refl
    by_gap (Some w) gap = absurd (true≢false (sym (gapless w gap.above gap.below) ∙ gap.uncovered))

module _ {K L D : Type 0} (term_length epoch count me : ℕ) (elector : L) (parent view start : ℕ)
    (some : 0 < term_length) (given : Round → Type 0) (trace : List (TraceEvent D))
    (verdicts : List (Bool × Proposal D)) (x : StateFacts K L D)
    (came : Came term_length epoch count me elector parent view start given x)
    (led : Led term_length trace verdicts x) where
  -- the member is at the view on the parent, if that is the highest view that was finalized or certified
  pub came_stands : ((v : ℕ) (payload : D) → 0 < v → explicit_ancestry_payload x v ≡ Some payload → v < x.current)
      → ((v : ℕ) → v < view → HasFinalized epoch trace v → v ≤ parent)
      → ((v : ℕ) → v < view → HasCertified epoch verdicts v → v ≤ parent)
      → ((v : ℕ) → parent < v → v < view → (r : Round) × given r × (covers term_length r.view v ≡ true))
      → (view ≡ parent + 1) ⊎ ((r : Round) × given r × (next_term_start term_length r.view ≡ view))
      → StandsBefore parent view start x
  came_stands passed finals certs covering skips_to = record {
    current = current_is;
    stands = record {
      below = omega (arith, came.above, came.reached);
      not_passed = came.low;
      payload = stands_on.0;
      explicit = stands_on.1;
      gapless = gapless_test x parent view (subst (λ n. 0 < n) (sym came.terms) some)
          (λ w up down. (let r = covering w up down in
          any_known (λ u. covers x.terms.term_length u w) x.nullified r.0.view (came.known r.0 r.1).0
          (ap (λ n. covers n r.0.view w) came.terms ∙ r.2)));
    };
    untouched = came.untouched;
    highest = λ v up. none_above v up (explicit_ancestry_payload x v) refl;
  }
    where
      current_is : x.current ≡ view
      current_is = elim skips_to [
        | inl just ↦ omega (arith, came.above, came.reached, just)
        | inr (r, h, at) ↦ (let reach = (came.known r h).1 in omega (arith, reach, at, came.reached))
      ]

      stands_on : (payload : D) × (explicit_ancestry_payload x parent ≡ Some payload)
      stands_on = elim came.stands [
        | inl final ↦ subst (λ v. (payload : D) × (explicit_ancestry_payload x v ≡ Some payload)) final
            (finalized_explicit term_length trace verdicts x led)
        | inr (good, noted) ↦ elim (cases_eq parent 0) [
          | inl genesis ↦ (let final : x.finalized ≡ parent = omega (arith, came.low, genesis) in
              subst (λ v. (payload : D) × (explicit_ancestry_payload x v ≡ Some payload)) final
              (finalized_explicit term_length trace verdicts x led))
          | inr higher ↦ certified_explicit term_length trace verdicts x led parent (omega (arith, higher)) good noted
        ]
      ]

      none_above : (v : ℕ) → parent < v → (o : Option D) → explicit_ancestry_payload x v ≡ o
          → explicit_ancestry_payload x v ≡ None
      none_above v up None is = is
      none_above v up (Some payload) is =
          elim (explicit_led term_length trace verdicts x led v payload (omega (arith, up)) is) [
            | inl final ↦
                absurd (let low = finals v (omega (arith, passed v payload (omega (arith, up)) is, came.reached))
                (subst (λ n. HasFinalized n trace v) came.set.of_epoch final) in omega (arith, low, up))
            | inr good ↦
                absurd (let low = certs v (omega (arith, passed v payload (omega (arith, up)) is, came.reached))
                (subst (λ n. HasCertified n verdicts v) came.set.of_epoch good) in omega (arith, low, up))
          ]
