-- No event lets the current view or the last finalized one fall, or changes how a state was set up.
use Rattle.std.proofs.Common.{◌≡◌, refl, ap, ℕ, ◌≤◌, Bool, true, false, nat_lt, max, arith}
use Rattle.std.proofs.lemmas.Bool.Decides.{nat_tests}
use Rattle.simplex_types.specs.Certificates.{ProposalFacts}
use Rattle.simplex_voter.specs.Facts.{StateFacts, Elect}
use Rattle.simplex_voter.specs.Windows.{min_active}
use Rattle.simplex_voter.specs.ViewEntry.{at_moment}
use Rattle.simplex_voter.specs.Certification.{with_finalized_view}
use Rattle.simplex_voter.specs.Acceptance.{after_add_finalization}
use Rattle.simplex_member.specs.Calls.{CallFacts}
use Rattle.simplex_member.specs.CallSemantics.{after_call}
use Rattle.simplex_member.specs.OutstandingWork.{OutstandingWork}
use Rattle.simplex_record.specs.Events.{Event, AddFinalization, after_event, finalized_by_event}
use Rattle.laws_safety.specs.LifetimeLaws.{NeverFalls}
use Rattle.simplex_member.proofs.EventsMake.{call_by_any}
use Rattle.simplex_record.proofs.Paths.{event_path, asked_of_all, from_raised}
use Rattle.simplex_record.proofs.Steps.{Step, Path, Reaches, Raises, Still, along}

-- the set-up is as it was, and neither the current view nor the last finalized one is lower
pub record UnchangedOrHigher {K L D : Type 0} (x y : StateFacts K L D) : Type 0 where
  pub failed : y.failed ≡ x.failed
  pub settings : y.settings ≡ x.settings
  pub me : y.me ≡ x.me
  pub members : y.members ≡ x.members
  pub elector : y.elector ≡ x.elector
  pub terms : y.terms ≡ x.terms
  pub elects_early : y.elects_early ≡ x.elects_early
  pub current : x.current ≤ y.current
  pub finalized : x.finalized ≤ y.finalized

module _ {K L D : Type 0} where
  pub goes_still : (x : StateFacts K L D) → UnchangedOrHigher x x
  goes_still x = record {
    failed = refl;
    settings = refl;
    me = refl;
    members = refl;
    elector = refl;
    terms = refl;
    elects_early = refl;
    current = omega arith;
    finalized = omega arith;
  }

  pub never_fell : (x : StateFacts K L D) → NeverFalls x x
  never_fell x = record { current = omega arith; finalized = omega arith }

  pub falls_never : (x y z : StateFacts K L D) → NeverFalls x y → NeverFalls y z → NeverFalls x z
  falls_never x y z p q =
      record { current = omega (arith, p.current, q.current); finalized = omega (arith, p.finalized, q.finalized) }

  pub never_falls : (x y : StateFacts K L D) → UnchangedOrHigher x y → NeverFalls x y
  never_falls x y goes = record { current = goes.current; finalized = goes.finalized }

  -- the lowest retained view never falls
  pub floor_goes : (x y : StateFacts K L D) → UnchangedOrHigher x y → min_active x ≤ min_active y
  floor_goes x y goes =
      let retention = ap (λ s. s.view_retention) goes.settings in
      omega (arith, goes.finalized, retention)

module _ {K L D : Type 0} (same : D → D → Bool) (elect : Elect L) (begun : StateFacts K L D) (e : Event K D)
    (low : ℕ) where
  pub step_goes : (x y z : StateFacts K L D) → Step same elect begun e low y z → UnchangedOrHigher x y
      → UnchangedOrHigher x z
  step_goes x y z (Reaches v above timed) p =
      record {
        failed = p.failed;
        settings = p.settings;
        me = p.me;
        members = p.members;
        elector = p.elector;
        terms = p.terms;
        elects_early = p.elects_early;
        current = omega (arith, p.current);
        finalized = p.finalized;
      }
  step_goes x y z (Raises v says above) p =
      record {
        failed = p.failed;
        settings = p.settings;
        me = p.me;
        members = p.members;
        elector = p.elector;
        terms = p.terms;
        elects_early = p.elects_early;
        current = p.current;
        finalized = omega (arith, p.finalized);
      }
  step_goes x y z _ p = record {
    failed = p.failed;
    settings = p.settings;
    me = p.me;
    members = p.members;
    elector = p.elector;
    terms = p.terms;
    elects_early = p.elects_early;
    current = p.current;
    finalized = p.finalized;
  }

  pub goes_along : (x y : StateFacts K L D) → Path same elect begun e low x y → UnchangedOrHigher x y
  goes_along x y path = along same elect begun e low (UnchangedOrHigher x) (step_goes x) x y path (goes_still x)

module _ {K L D : Type 0} (same : D → D → Bool) (elect : Elect L) (x : StateFacts K L D) where
  pub event_goes : (e : Event K D) → UnchangedOrHigher x (after_event same elect x e)
  event_goes e = goes_along same elect x e 0 x (after_event same elect x e)
      (event_path same elect 0 x e (omega arith) (asked_of_all x e))

  -- the last finalized view is the one before or the event's
  pub event_finalizes : (e : Event K D) → (after_event same elect x e).finalized ≤ max x.finalized
      (finalized_by_event e)
  event_finalizes e = along same elect x e 0 (λ y. y.finalized ≤ max x.finalized (finalized_by_event e)) keeps x
      (after_event same elect x e) (event_path same elect 0 x e (omega arith) (asked_of_all x e)) (omega arith)
    where
      keeps : (y z : StateFacts K L D) → Step same elect x e 0 y z
          → y.finalized ≤ max x.finalized (finalized_by_event e) → z.finalized ≤ max x.finalized (finalized_by_event e)
      keeps y z (Raises v says above) p = omega (arith, says)
      keeps y z _ p = p

module _ {K L D : Type 0} (same : D → D → Bool) (elect : Elect L) (x : StateFacts K L D) where
  pub call_goes : (o : OutstandingWork K D) (call : CallFacts D) → UnchangedOrHigher x (after_call same elect x o call)
  call_goes o call = call_by_any same elect x o (UnchangedOrHigher x) (goes_still x) (λ e. event_goes same elect x e)
      call

-- finalizations

raised_reaches : {K L D : Type 0} (x : StateFacts K L D) (v : ℕ) → v ≤ (with_finalized_view x v).finalized
raised_reaches x v = raises (nat_lt x.finalized v) refl
  where
    raises : (b : Bool) → nat_lt x.finalized v ≡ b → v ≤ (with_finalized_view x v).finalized
    raises true is = rw is (omega arith)
    raises false is = rw is (grind (arith, nat_tests))

module _ {K L D : Type 0} (same : D → D → Bool) (elect : Elect L) (x : StateFacts K L D) (now : ℕ) where
  -- a finalization is no higher than the finalized view then
  pub finalization_passes : (c : ProposalFacts D)
      → c.proposal.round.view ≤ (after_add_finalization same elect x c now).finalized
  finalization_passes c =
      let e : Event K D = AddFinalization c now in
      omega (
        arith,
        (goes_along same elect x e 0 _ _ (from_raised c now refl (omega arith) Still)).finalized,
        raised_reaches (at_moment x now) c.proposal.round.view,
      )
