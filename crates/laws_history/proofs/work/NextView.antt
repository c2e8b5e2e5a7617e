-- What readying the next view changes of the work on a view.
use Rattle.std.proofs.Common.{◌≡◌, ◌⊎◌, subst, refl, ap, sym, ◌∙◌, ℕ, ◌+◌, Bool, true, false, ◌&&◌, ◌||◌, cond, eqb, nat_lt, nat_le, if◌then◌else◌, List, [], ◌∷◌, Option, Some, None, is_some, unwrap_or, inl, inr}
use Rattle.std.specs.List.{list_any}
use Rattle.std.specs.Option.{option_map_or}
use Rattle.std.specs.Ordering.{nat_cmp, is_eq, match_ordering}
use Rattle.std.specs.declared.cmp.Ordering.{Ordering}
use Rattle.std.specs.declared.cmp.Ordering.TheVariants.{Less, Equal, Greater}
use Rattle.std.specs.FinMap.Entries.{find, put}
use Rattle.std.proofs.lemmas.Bool.{cases_eq, eq-eqb, ne_eqb}
use Rattle.simplex_types.specs.Window.{issuance_floor}
use Rattle.simplex_round.specs.declared.round.Leader.{Leader}
use Rattle.simplex_round.specs.Round.{RoundFacts, leader_at, new_round}
use Rattle.simplex_voter.specs.Facts.{StateFacts, Elect, round_of, round_number, with_round}
use Rattle.simplex_voter.specs.Leaders.{has_leader, with_leader_at, with_leader_of, with_elected_leader, with_next_view_ready}
use Rattle.simplex_voter.specs.Payloads.{is_elected_early}
use Rattle.simplex_voter.specs.Windows.{is_notarized, is_open, in_issuance_window}
use Rattle.laws_history.specs.LeaderHistory.{same_member, elected_leader, leads_after, tracks_after}
use Rattle.std.proofs.Math.Bool.{and-true, and-false}
use Rattle.simplex_record.proofs.RoundChanges.{round_of-put, round_of-same}
use Rattle.laws_safety.proofs.votes.NullifyVotes.{tied}
use Rattle.laws_history.proofs.Worked.{work_of}
use Rattle.laws_history.proofs.work.Leaders.{OnlyRounds, only_where, with_leader, inherited_only, inherited_work, elected_only, elected_work}

-- a list of views passes a test with a value as it did with one that is tested alike

module _ {V : Type 0} (test : ℕ × V → Bool) (w : ℕ) (empty : V) (fails : test (w, empty) ≡ false) where
  twice : (a b : Bool) → (a || (a || b)) ≡ (a || b)
  twice true b = refl
  twice false b = refl

  -- what changes nothing after a test changes nothing before it
  behind : (a b c : Bool) → (a || c) ≡ c → (a || (b || c)) ≡ (b || c)
  behind true true c is = refl
  behind true false c is = is
  behind false b c is = refl

  -- what is found at the view passes only with the list
  found_passes : (es : List (ℕ × V)) → (test (w, unwrap_or (find nat_cmp w es) empty) || list_any test es) ≡ list_any
      test es
  found_passes [] = rw fails refl
  found_passes (e ∷ es) = by_view (nat_cmp w e.0) refl (found_passes es)
    where
      by_view : (o : Ordering) → nat_cmp w e.0 ≡ o
          → (test (w, unwrap_or (find nat_cmp w es) empty) || list_any test es) ≡ list_any test es
          → (test (w, unwrap_or (cond (is_eq o) (Some e.1) (find nat_cmp w es)) empty) || (test e || list_any test es))
          ≡ (test e || list_any test es)
      by_view Less is rest = behind _ (test e) (list_any test es) rest
      by_view Equal is rest = rw (tied w e.0 is) (twice (test e) (list_any test es))
      by_view Greater is rest = behind _ (test e) (list_any test es) rest

  any_put : (r : V) (es : List (ℕ × V)) → test (w, r) ≡ test (w, unwrap_or (find nat_cmp w es) empty)
      → list_any test (put nat_cmp w r es) ≡ list_any test es
  any_put r [] alike = rw (alike, fails) refl
  any_put r (e ∷ es) alike = by_view (nat_cmp w e.0) alike refl (any_put r es)
    where
      by_view : (o : Ordering) → test (w, r) ≡ test (w, unwrap_or (cond (is_eq o) (Some e.1) (find nat_cmp w es)) empty)
          → nat_cmp w e.0 ≡ o → (test (w, r) ≡ test (w, unwrap_or (find nat_cmp w es) empty)
          → list_any test (put nat_cmp w r es) ≡ list_any test es)
          → list_any test (match_ordering o ((w, r) ∷ e ∷ es) ((e.0, r) ∷ es) (e ∷ put nat_cmp w r es))
          ≡ (test e || list_any test es)
      by_view Less alike is rest = ap (λ b. b || (test e || list_any test es)) alike
          ∙ behind _ (test e) (list_any test es) (found_passes es)
      by_view Equal alike is rest = ap (λ b. b || list_any test es)
          (subst (λ u. test (u, r) ≡ test (u, e.1)) (tied w e.0 is) alike)
      by_view Greater alike is rest = ap (λ b. test e || b) (rest alike)

module _ {K L D : Type 0} where
  -- a window stays where a view's round is put that is notarized or finalized as before

  open_put : (x : StateFacts K L D) (w : ℕ) (r : RoundFacts K D) → is_notarized r ≡ is_notarized (round_of x w)
      → (v : ℕ) (floor : Option ℕ) → is_open (with_round x w r) v floor ≡ is_open x v floor
  open_put x w r alike v None = refl
  open_put x w r alike v (Some floor) =
      let empty : RoundFacts K D = new_round x.me x.members (round_number x w) in
      ap (λ b. eqb floor 0 || b)
      (any_put (λ e. nat_le floor e.0 && nat_lt e.0 v && is_notarized e.1) w empty (fails (nat_le floor w) (nat_lt w v))
      r x.rounds (ap (λ b. nat_le floor w && nat_lt w v && b) alike))
    where
      fails : (a b : Bool) → (a && b && false) ≡ false
      fails true true = refl
      fails true false = refl
      fails false b = refl

  pub window_put : (x : StateFacts K L D) (w : ℕ) (r : RoundFacts K D) → is_notarized r ≡ is_notarized (round_of x w)
      → (v : ℕ) → in_issuance_window (with_round x w r) v ≡ in_issuance_window x v
  unfolding in_issuance_window
  window_put x w r alike v = open_put x w r alike v (issuance_floor x.terms.term_length x.terms.optimistic_views v)

-- of each view nothing but its leader changes
abbrev pub OnlyLeaders : {K L D : Type 0} → StateFacts K L D → StateFacts K L D → Type 0
OnlyLeaders x y = (w : ℕ) → round_of y w ≡ record (round_of x w) { leader = (round_of y w).leader }

leaders_where : {K L D : Type 0} (x : StateFacts K L D) (b : Bool) (y z : StateFacts K L D) → OnlyLeaders x y
    → OnlyLeaders x z → OnlyLeaders x (if b then y else z)
leaders_where x true y z p q = p
leaders_where x false y z p q = q

module _ {K L D : Type 0} where
  led_leaders : (x : StateFacts K L D) (v member : ℕ) → OnlyLeaders x (with_leader_at x v member)
  led_leaders x v member = leaders_where x (has_leader x v) x (with_round x v r) (λ w. refl) (λ w. put w (cases_eq w v))
    where
      r : RoundFacts K D
      r = record (round_of x v) { leader = leader_at x.members member }

      put : (w : ℕ) → ((w ≡ v) ⊎ (w ≡ v → ⊥))
          → round_of (with_round x v r) w ≡ record (round_of x w) { leader = (round_of (with_round x v r) w).leader }
      put w (inl here) = rw (round_of-put x w v r, here, eq-eqb v v refl) refl
      put w (inr apart) = rw (round_of-put x w v r, ne_eqb w v apart) refl

  inherited_leaders : (x : StateFacts K L D) (from to : ℕ) → OnlyLeaders x (with_leader_of x from to)
  inherited_leaders x from to = by_leader (round_of x from).leader
    where
      by_leader : (leader : Option (Leader K)) → OnlyLeaders x (option_map_or (λ l. with_leader_at x to l.idx) leader x)
      by_leader None = λ w. refl
      by_leader (Some l) = led_leaders x to l.idx

module _ {K L D : Type 0} (elect : Elect L) (x : StateFacts K L D) (w : ℕ) where
  pub prepared_only : OnlyRounds x (with_next_view_ready elect x w)
  prepared_only =
      only_where x (in_issuance_window x (w + 1)) (with_leader_of x w (w + 1)) _ (inherited_only x w (w + 1))
      (only_where x ((round_of x w).notarize_decided && is_elected_early elect x (w + 1))
      (with_elected_leader elect x (w + 1) None) x (elected_only elect x (w + 1) None) refl)

  pub prepared_leaders : OnlyLeaders x (with_next_view_ready elect x w)
  prepared_leaders =
      leaders_where x (in_issuance_window x (w + 1)) (with_leader_of x w (w + 1)) _ (inherited_leaders x w (w + 1))
      (leaders_where x ((round_of x w).notarize_decided && is_elected_early elect x (w + 1))
      (with_elected_leader elect x (w + 1) None) x
      (led_leaders x (w + 1) (elect x.elector (round_number x (w + 1)) None)) (λ v. refl))

  -- the view above takes the leader, or the elector's choice

  pub prepared_work : (v : ℕ) → work_of (with_next_view_ready elect x w) v ≡ with_leader
      (tracks_after elect x (round_of x w).notarize_decided w v)
      (leads_after elect x (round_of x w).notarize_decided w v) (work_of x v)
  prepared_work v = by_window (in_issuance_window x (w + 1))
    where
      own : Bool
      own = (round_of x w).notarize_decided && is_elected_early elect x (w + 1)

      by_own : (b : Bool) → work_of (if b then with_elected_leader elect x (w + 1) None else x) v ≡ with_leader
          (eqb v (w + 1) && b) (if b then elected_leader elect x v (w + 1) None else None) (work_of x v)
      by_own true = elected_work elect x (w + 1) None v
          ∙ ap (λ tracks. with_leader tracks (elected_leader elect x v (w + 1) None) (work_of x v))
          (sym (and-true (eqb v (w + 1))))
      by_own false = ap (λ tracks. with_leader tracks None (work_of x v)) (sym (and-false (eqb v (w + 1))))

      by_window : (b : Bool) → work_of (if b then with_leader_of x w (w + 1)
          else (if own then with_elected_leader elect x (w + 1) None else x)) v ≡ with_leader
          (eqb v (w + 1) && (if b then is_some (round_of x w).leader else own))
          (if b then (if eqb v (w + 1) then same_member x (round_of x w).leader else None)
          else (if own then elected_leader elect x v (w + 1) None else None)) (work_of x v)
      by_window true = inherited_work x w (w + 1) v
      by_window false = by_own own

-- this member's vote leaves whether its view is certified, and who leads it
module _ {K L D : Type 0} (elect : Elect L) (x : StateFacts K L D) (w : ℕ) (r : RoundFacts K D)
    (certified : is_notarized r ≡ is_notarized (round_of x w)) (led_by : r.leader ≡ (round_of x w).leader) where
  leads_put : (v : ℕ) → leads_after elect (with_round x w r) true w v ≡ leads_after elect x true w v
  leads_put v = rw (window_put x w r certified (w + 1), round_of-same x w r, led_by) refl

  tracks_put : (v : ℕ) → tracks_after elect (with_round x w r) true w v ≡ tracks_after elect x true w v
  tracks_put v = rw (window_put x w r certified (w + 1), round_of-same x w r, led_by) refl

  -- so after the vote the view above is readied as it would be before
  pub readied_work : r.notarize_decided ≡ true → (v : ℕ)
      → work_of (with_next_view_ready elect (with_round x w r) w) v ≡ with_leader (tracks_after elect x true w v)
      (leads_after elect x true w v) (work_of (with_round x w r) v)
  readied_work voted v =
      let z = with_round x w r in
      prepared_work elect z w v
      ∙ ap (λ b. with_leader (tracks_after elect z b w v) (leads_after elect z b w v) (work_of z v))
      (ap (λ s. s.notarize_decided) (round_of-same x w r) ∙ voted)
      ∙ (λ i. with_leader (tracks_put v i) (leads_put v i) (work_of z v))
