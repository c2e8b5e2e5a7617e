-- What the windows that a certificate opens change of the work on a view: its leader.
use Rattle.std.proofs.Common.{◌≡◌, ◌⊎◌, inl, inr, refl, ap, sym, subst, ◌∙◌, ℕ, zero, suc, ◌+◌, ◌-◌, ◌<◌, ◌≤◌, min, Bool, true, false, ◌&&◌, eqb, if◌then◌else◌, List, [], ◌∷◌, Option, Some, None, is_some, arith}
use Rattle.std.specs.List.{fold, range_with_len}
use Rattle.std.specs.Option.{option_or}
use Rattle.std.proofs.lemmas.Bool.{cases_eq, cases_lt, eq-eqb, ne_eqb, true≢false}
use Rattle.simplex_types.specs.Terms.{term_end}
use Rattle.simplex_round.specs.declared.round.Leader.{Leader}
use Rattle.simplex_voter.specs.Facts.{StateFacts, round_of}
use Rattle.simplex_voter.specs.Leaders.{with_leader_of, opened_views, with_window_leaders}
use Rattle.simplex_member.specs.OutstandingWork.{is_among}
use Rattle.laws_history.specs.LeaderHistory.{same_member, nearest_leader, window_leader}
use Rattle.laws_history.specs.HistoryFolds.{or_new}
use Rattle.laws_history.proofs.Worked.{Worked, work_of}
use Rattle.laws_history.proofs.work.Leaders.{OnlyRounds, only_joined, with_leader, inherited_only, inherited_work}

-- what follows reads of the facts the leaders, the members and the terms
pub record SameLeaders {K L D : Type 0} (x y : StateFacts K L D) : Type 0 where
  pub members : y.members ≡ x.members
  pub terms : y.terms ≡ x.terms
  pub leader : (v : ℕ) → (round_of y v).leader ≡ (round_of x v).leader

-- a range of views has none below its first
range_below : (first n v : ℕ) → v < first → is_among v (range_with_len first n) ≡ false
range_below first zero v below = refl
range_below first (suc n) v below =
    let behind : is_among v (range_with_len (first + 1) n) ≡ false = range_below (first + 1) n v (omega arith) in
    rw (ne_eqb v first (omega arith), behind) refl

range_from : (first n v : ℕ) → is_among v (range_with_len first n) ≡ true → first ≤ v
range_from first n v among = elim (cases_lt v first) [
  | inl below ↦ absurd (true≢false (sym among ∙ range_below first n v below))
  | inr from ↦ from
]

or_new_or : {A : Type 0} (o a : Option A) → or_new o a ≡ option_or o a
or_new_or None None = refl
or_new_or (Some b) None = refl
or_new_or o (Some a) = refl

module _ {K L D : Type 0} where
  nearest_alike : (x y : StateFacts K L D) → SameLeaders x y → (u k : ℕ) → nearest_leader y u k ≡ nearest_leader x u k
  nearest_alike x y s u zero = s.leader u
  nearest_alike x y s u (suc k) =
      let behind : nearest_leader y u k ≡ nearest_leader x u k = nearest_alike x y s u k in
      rw (s.leader (u + suc k), s.members, behind) refl

  pub window_alike : (x y : StateFacts K L D) → SameLeaders x y → (u v : ℕ) → window_leader y u v ≡ window_leader x u v
  window_alike x y s u v = rw (s.terms, nearest_alike x y s u (v - 1 - u)) refl

  -- the nearest leader, where the view is one of the n views above u
  abbrev reached : StateFacts K L D → ℕ → ℕ → ℕ → Option (Leader K)
  reached x u n v = if is_among v (range_with_len (u + 1) n) then nearest_leader x u (v - 1 - u) else None

  -- after the first of them took its leader

  leader_next : (x : StateFacts K L D) (u v : ℕ) → (v ≡ u + 1 → ⊥)
      → work_of (with_leader_of x u (u + 1)) v ≡ work_of x v
  leader_next x u v apart = inherited_work x u (u + 1) v ∙ rw (ne_eqb v (u + 1) apart) refl

  members_next : (x : StateFacts K L D) (u : ℕ) → (with_leader_of x u (u + 1)).members ≡ x.members
  members_next x u = ap (λ (y : StateFacts K L D). y.members) (inherited_only x u (u + 1))

  nearest_next : (x : StateFacts K L D) (u k : ℕ)
      → nearest_leader (with_leader_of x u (u + 1)) (u + 1) k ≡ nearest_leader x u (suc k)
  nearest_next x u zero =
      ap (λ (k : Worked K D). k.leader) (inherited_work x u (u + 1) (u + 1))
      ∙ rw (eq-eqb (u + 1) (u + 1) refl) (or_new_or (round_of x (u + 1)).leader (same_member x (round_of x u).leader))
  nearest_next x u (suc k) =
      let y : StateFacts K L D = with_leader_of x u (u + 1) in
      let behind : nearest_leader y (u + 1) k ≡ nearest_leader x u (suc k) = nearest_next x u k in
      let further : u + 1 + suc k ≡ u + suc (suc k) = omega arith in
      let own : (round_of y (u + 1 + suc k)).leader ≡ (round_of x (u + suc (suc k))).leader =
      ap (λ (k : Worked K D). k.leader) (leader_next x u (u + 1 + suc k) (λ same. omega (arith, same)))
      ∙ ap (λ w. (round_of x w).leader) further in
      rw (own, members_next x u, behind) refl

  -- each of the views in turn takes the leader of the one before
  abbrev over : StateFacts K L D → List ℕ → StateFacts K L D
  over x views = fold (λ y w. with_leader_of y (w - 1) w) x views

  -- the nearest leader continues to a view, unless one is set there
  abbrev reaches : StateFacts K L D → Option (Leader K) → Worked K D → Worked K D
  reaches x leader k = with_leader (is_some leader) (same_member x leader) k

  reached_next : (x : StateFacts K L D) (u n v : ℕ)
      → reaches (with_leader_of x u (u + 1)) (reached (with_leader_of x u (u + 1)) (u + 1) n v)
      (work_of (with_leader_of x u (u + 1)) v) ≡ reaches x (reached x u (suc n) v) (work_of x v)
  reached_next x u n v = by_view (cases_eq v (u + 1))
    where
      y : StateFacts K L D
      y = with_leader_of x u (u + 1)

      Next : ℕ → Type 0
      Next w = reaches y (reached y (u + 1) n w) (work_of y w) ≡ reaches x (reached x u (suc n) w) (work_of x w)

      there : (w : ℕ) → (w ≡ u + 1 → ⊥) → (b : Bool) → is_among w (range_with_len (u + 1 + 1) n) ≡ b → Next w
      there w apart true among =
          let above : u + 1 + 1 ≤ w = range_from (u + 1 + 1) n w among in
          let steps : w - 1 - u ≡ suc (w - 1 - (u + 1)) = omega arith in
          ap (reaches y (reached y (u + 1) n w)) (leader_next x u w apart)
          ∙ rw (ne_eqb w (u + 1) apart, among, members_next x u, nearest_next x u (w - 1 - (u + 1)), steps) refl
      there w apart false among =
          ap (reaches y (reached y (u + 1) n w)) (leader_next x u w apart)
          ∙ rw (ne_eqb w (u + 1) apart, among) refl

      -- the first of the views takes the leader of u
      taken : work_of y (u + 1) ≡ reaches x (round_of x u).leader (work_of x (u + 1))
      taken =
          let leader = (round_of x u).leader in
          inherited_work x u (u + 1) (u + 1)
          ∙ ap (λ b. with_leader (b && is_some leader) (if b then same_member x leader else None) (work_of x (u + 1)))
          (eq-eqb (u + 1) (u + 1) refl)

      by_view : ((v ≡ u + 1) ⊎ (v ≡ u + 1 → ⊥)) → Next v
      by_view (inl here) =
          let none : u + 1 - 1 - u ≡ 0 = omega arith in
          rw (here, eq-eqb (u + 1) (u + 1) refl, range_below (u + 1 + 1) n (u + 1) (omega arith), none) taken
      by_view (inr apart) = there v apart (is_among v (range_with_len (u + 1 + 1) n)) refl

  over_work : (n u : ℕ) (x : StateFacts K L D) (v : ℕ)
      → work_of (over x (range_with_len (u + 1) n)) v ≡ reaches x (reached x u n v) (work_of x v)
  over_work zero u x v = refl
  over_work (suc n) u x v =
      let y : StateFacts K L D = with_leader_of x u (u + 1) in
      let back : u + 1 - 1 ≡ u = omega arith in
      let behind : work_of (over y (range_with_len (u + 1 + 1) n)) v ≡ reaches y (reached y (u + 1) n v) (work_of y v) =
      over_work n (u + 1) y v in
      subst (λ w. work_of (over (with_leader_of x w (u + 1)) (range_with_len (u + 1 + 1) n)) v ≡ reaches x
      (reached x u (suc n) v) (work_of x v)) (sym back) (behind ∙ reached_next x u n v)

  over_only : (views : List ℕ) (x : StateFacts K L D) → OnlyRounds x (over x views)
  over_only [] x = refl
  over_only (w ∷ views) x =
      let y : StateFacts K L D = with_leader_of x (w - 1) w in
      only_joined x y (over y views) (inherited_only x (w - 1) w) (over_only views y)

  pub slid_only : (x : StateFacts K L D) (u : ℕ) → OnlyRounds x (with_window_leaders x u)
  slid_only x u = over_only (opened_views x u) x

  -- a view whose window opens takes the nearest leader, unless one is set there
  pub slid_work : (x : StateFacts K L D) (u v : ℕ)
      → work_of (with_window_leaders x u) v ≡ with_leader (is_some (window_leader x u v))
      (same_member x (window_leader x u v)) (work_of x v)
  slid_work x u v = elim (eqb x.terms.optimistic_views 0) as
      (λ b. work_of (over x (if b then [] else views)) v ≡ reaches x
      (if is_among v (if b then [] else views) then nearest_leader x u (v - 1 - u) else None) (work_of x v)) [
        | true ↦ refl
        | false ↦ over_work (min (term_end x.terms.term_length u) (u + x.terms.optimistic_views + 1) - u) u x v
      ]
    where
      views : List ℕ
      views = range_with_len (u + 1) (min (term_end x.terms.term_length u) (u + x.terms.optimistic_views + 1) - u)
