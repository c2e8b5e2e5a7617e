-- What no event changes of a state: whether it has failed, its settings, its terms and its member; and that a floor
-- starts it.
use Rattle.std.proofs.Common.{◌≡◌, refl, ◌∙◌, ℕ, ◌+◌, ◌≤◌, Bool, true, false, nat_lt, Some, arith}
use Rattle.std.proofs.lemmas.Bool.Decides.{nat_tests}
use Rattle.simplex_types.specs.Config.{FloorFacts, Genesis, Finalized}
use Rattle.simplex_voter.specs.Facts.{StateFacts, Elect}
use Rattle.simplex_voter.specs.Refusals.{is_started, has_late_deadline}
use Rattle.simplex_voter.specs.ViewEntry.{at_moment, with_view_entered}
use Rattle.simplex_voter.specs.Certification.{with_finalized_view}
use Rattle.simplex_voter.specs.Acceptance.{after_set_floor}
use Rattle.simplex_record.specs.Events.{Event, SetFloor, after_event}
use Rattle.simplex_record.proofs.Steps.{Step, Path, Reaches, Still, along}
use Rattle.simplex_record.proofs.Paths.{event_path, asked_of_all, from_first_entry, from_entry}

-- all of this is unchanged, and a state that has started stays started
pub record UnchangedSettings {K L D : Type 0} (x y : StateFacts K L D) : Type 0 where
  pub failed : y.failed ≡ x.failed
  pub settings : y.settings ≡ x.settings
  pub terms : y.terms ≡ x.terms
  pub me : y.me ≡ x.me
  pub started : is_started x ≡ true → is_started y ≡ true

module _ {K L D : Type 0} where
  pub stays : (x : StateFacts K L D) → UnchangedSettings x x
  stays x = record { failed = refl; settings = refl; terms = refl; me = refl; started = λ h. h }

  pub joined : (x y z : StateFacts K L D) → UnchangedSettings x y → UnchangedSettings y z → UnchangedSettings x z
  joined x y z p q = record {
    failed = q.failed ∙ p.failed;
    settings = q.settings ∙ p.settings;
    terms = q.terms ∙ p.terms;
    me = q.me ∙ p.me;
    started = λ h. q.started (p.started h);
  }

  -- its deadlines are no later
  pub still_in_time : (x y : StateFacts K L D) (now : ℕ) → UnchangedSettings x y → has_late_deadline x now ≡ false
      → has_late_deadline y now ≡ false
  still_in_time x y now goes in_time = rw (goes.settings, goes.terms) in_time

  -- a view that is no genesis is reached
  reached : (x : StateFacts K L D) (v now : ℕ) → 1 ≤ v → is_started (with_view_entered x v now) ≡ true
  reached x v now h = enters (nat_lt x.current v) refl
    where
      enters : (b : Bool) → nat_lt x.current v ≡ b → is_started (with_view_entered x v now) ≡ true
      enters true is = rw is (grind (arith, nat_tests))
      enters false is = rw is (grind (arith, nat_tests))

module _ {K L D : Type 0} (same : D → D → Bool) (elect : Elect L) (begun : StateFacts K L D) (e : Event K D) where
  step_goes : (x y z : StateFacts K L D) → Step same elect begun e 0 y z → UnchangedSettings x y → UnchangedSettings x z
  step_goes x y z (Reaches v above timed) p =
      record {
        failed = p.failed;
        settings = p.settings;
        terms = p.terms;
        me = p.me;
        started = λ h. grind (arith, nat_tests);
      }
  step_goes x y z _ p =
      record { failed = p.failed; settings = p.settings; terms = p.terms; me = p.me; started = p.started }

  goes_along : (x y : StateFacts K L D) → Path same elect begun e 0 x y → UnchangedSettings x y
  goes_along x y path = along same elect begun e 0 (UnchangedSettings x) (step_goes x) x y path (stays x)

module _ {K L D : Type 0} (same : D → D → Bool) (elect : Elect L) (x : StateFacts K L D) where
  pub event_goes : (e : Event K D) → UnchangedSettings x (after_event same elect x e)
  event_goes e = goes_along same elect x e x (after_event same elect x e)
      (event_path same elect 0 x e (omega arith) (asked_of_all x e))

  floor_starts : (floor : FloorFacts D) (now : ℕ) → is_started (after_set_floor same elect x floor now) ≡ true
  floor_starts (Genesis payload) now =
      (goes_along same elect x (SetFloor (Genesis payload) now) _ _
      (from_first_entry payload now (omega arith) Still)).started
      (reached (record (at_moment x now) { genesis = Some payload }) 1 now (omega arith))
  floor_starts (Finalized c) now =
      let v = c.proposal.round.view in
      (goes_along same elect x (SetFloor (Finalized c) now) _ _ (from_entry c now refl (omega arith) Still)).started
      (reached (with_finalized_view (at_moment x now) v) (v + 1) now (omega arith))

  -- a floor is set
  pub floor_goes : (floor : FloorFacts D) (now : ℕ) → x.failed ≡ false
      → ((after_set_floor same elect x floor now).failed ≡ false)
      × (is_started (after_set_floor same elect x floor now) ≡ true)
  floor_goes floor now going = ((event_goes (SetFloor floor now)).failed ∙ going, floor_starts floor now)
