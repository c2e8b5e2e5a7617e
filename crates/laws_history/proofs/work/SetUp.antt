-- How a state was set up stays while it works on its views.
use Rattle.std.proofs.Common.{◌≡◌, refl, ap, ◌∙◌, ℕ, ◌+◌, Bool, true, false, if◌then◌else◌, nat_lt, List, [], Option, None}
use Rattle.std.specs.Option.{option_map_or}
use Rattle.simplex_voter.specs.Facts.{StateFacts, Elect, round_at}
use Rattle.simplex_voter.specs.ViewEntry.{with_view_entered}
use Rattle.simplex_voter.specs.Leaders.{with_elected_leader, with_window_leaders}
use Rattle.simplex_voter.specs.Certification.{named_also, with_finalized_view, waits_for, with_waiting_candidate}
use Rattle.laws_history.proofs.work.Windows.{slid_only}
use Rattle.laws_history.proofs.work.Wakings.{SetUpAlike}
use Rattle.laws_history.proofs.work.Leaders.{OnlyRounds, elected_only}

-- the facts without what certificates change
abbrev pub set_up_facts : {K L D : Type 0} → StateFacts K L D → StateFacts K L D
set_up_facts x =
    record x { genesis = None; current = 0; finalized = 0; moment = 0; named = []; nullified = []; rounds = [] }

-- these two were set up alike
abbrev pub UnchangedSetUp : {K L D : Type 0} → StateFacts K L D → StateFacts K L D → Type 0
UnchangedSetUp x y = set_up_facts y ≡ set_up_facts x

module _ {K L D : Type 0} where
  pub steady_joined : (x y z : StateFacts K L D) → UnchangedSetUp x y → UnchangedSetUp y z → UnchangedSetUp x z
  steady_joined x y z p q = q ∙ p

  pub steady_where : (x : StateFacts K L D) (b : Bool) (y z : StateFacts K L D) → UnchangedSetUp x y
      → UnchangedSetUp x z → UnchangedSetUp x (if b then y else z)
  steady_where x true y z p q = p
  steady_where x false y z p q = q

  only_steady : (x y : StateFacts K L D) → OnlyRounds x y → UnchangedSetUp x y
  only_steady x y only = ap set_up_facts only

  pub entered_steady : (x : StateFacts K L D) (v now : ℕ) → UnchangedSetUp x (with_view_entered x v now)
  entered_steady x v now = steady_where x (nat_lt x.current v) _ x refl refl

  pub raised_steady : (x : StateFacts K L D) (v : ℕ) → UnchangedSetUp x (with_finalized_view x v)
  raised_steady x v = steady_where x (nat_lt x.finalized v) _ x refl refl

  pub named_steady : (x : StateFacts K L D) (v : ℕ) → UnchangedSetUp x (named_also x v)
  named_steady x v = steady_where x (nat_lt x.finalized v) _ x refl refl

  pub slid_steady : (x : StateFacts K L D) (v : ℕ) → UnchangedSetUp x (with_window_leaders x v)
  slid_steady x v = only_steady x (with_window_leaders x v) (slid_only x v)

  -- whether a view waits hangs on no more of the set-up
  pub wakings_steady : (x y : StateFacts K L D) → UnchangedSetUp x y → SetUpAlike x y
  wakings_steady x y s = record {
    settings = ap (λ (z : StateFacts K L D). z.settings) s;
    me = ap (λ (z : StateFacts K L D). z.me) s;
    elector = ap (λ (z : StateFacts K L D). z.elector) s;
    terms = ap (λ (z : StateFacts K L D). z.terms) s;
    elects_early = ap (λ (z : StateFacts K L D). z.elects_early) s;
  }

module _ {K L D : Type 0} (elect : Elect L) where
  pub elected_steady : (x : StateFacts K L D) (v : ℕ) (seed : Option (List ℕ))
      → UnchangedSetUp x (with_elected_leader elect x v seed)
  elected_steady x v seed = only_steady x (with_elected_leader elect x v seed) (elected_only elect x v seed)

  pub woken_steady : (x : StateFacts K L D) (v : ℕ) → UnchangedSetUp x (with_waiting_candidate elect x v)
  woken_steady x v = steady_where x (option_map_or (waits_for elect x v) (round_at x (v + 1)) false)
      (named_also x (v + 1)) x (named_steady x (v + 1)) refl
