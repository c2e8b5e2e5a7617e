-- Rounds of views that change, and their invariant.
use Rattle.std.proofs.Common.{Bor, ◌≡◌, ◌≢◌, ℕ, ◌<◌, ◌≤◌, ◌^◌, Bool, true, false, cond, List, [], ◌∷◌, length, Option, Some, None, is_some, unwrap_or, refl, ap, sym, subst, ◌∙◌, inl, inr, leb, arith}
use Rattle.std.specs.Prelude.{IfSome, OnSome, slice_get, option_map, option_and_then}
use Rattle.std.specs.Option.{option_copied}
use Rattle.std.specs.Cmp.{nat_cmp_is}
use Rattle.std.specs.declared.cmp.Ordering.{Ordering}
use Rattle.std.specs.declared.cmp.Ordering.TheVariants.{Less, Equal, Greater}
use Rattle.std.specs.Ordering.{nat_cmp}
use Rattle.std.specs.Cmp.{nat_cmp_total}
use Rattle.std.specs.FinMap as map
use Rattle.std.specs.FinMap.Entries.{find, put, by_order, find-put}
use Rattle.std.proofs.lemmas.Bool.{cases_eq, eq-eqb, ne_eqb, false≢true}
use Rattle.simplex_view_maps.proofs.Maps.{is_eq-nat_cmp, get-kept}
use Rattle.simplex_view_maps.specs.Tracked.{at_or_above}
use Rattle.simplex_round.specs.Round.{RoundFacts, new_round, leader_at, token_of, with_recovered, with_notarization, can_finalize}
use Rattle.simplex_types.specs.declared.types.messages.Proposal.{Proposal}
use Rattle.simplex_types.specs.Certificates.{ProposalFacts}
use Rattle.simplex_round.specs.declared.round.Leader.{Leader}
use Rattle.simplex_voter.specs.Rounds.{RoundsFacts, find_round, round_in, round_id, has_round, put_round, with_change, with_change_in_place, largest_tracked, is_explicit, IsRoundKept, AreKept, IsQuietBelow, IsWider}
use Rattle.simplex_voter.specs.declared.voter.rounds.Bounds.{Bounds}
use Rattle.simplex_voter.proofs.Containers.{entries-insert}
use Rattle.simplex_voter.proofs.RoundsKept.{find_entries, insert-same}
use Rattle.simplex_voter.proofs.RoundChanges.{IsAlike}

module _ {V : Type 0} where
  found_put : (v : ℕ) (x : V) (es : List (ℕ × V)) → find nat_cmp v (put nat_cmp v x es) ≡ Some x
  found_put v x es = find-put nat_cmp nat_cmp_total v v x es ∙ rw (is_eq-nat_cmp v v, eq-eqb v v refl) refl

  found_other : (v w : ℕ) → v ≢ w → (x : V) (es : List (ℕ × V))
      → find nat_cmp v (put nat_cmp w x es) ≡ find nat_cmp v es
  found_other v w apart x es = find-put nat_cmp nat_cmp_total v w x es
      ∙ ap (λ b. cond b (Some x) (find nat_cmp v es)) (is_eq-nat_cmp v w ∙ ne_eqb v w apart)

  put_on : (o : Ordering) (v : ℕ) (x y : V) (e : ℕ × V) (es : List (ℕ × V)) → nat_cmp v e.0 ≡ o
      → put nat_cmp v y (put nat_cmp v x es) ≡ put nat_cmp v y es
      → put nat_cmp v y (by_order o ((v, x) ∷ e ∷ es) ((e.0, x) ∷ es) (e ∷ put nat_cmp v x es)) ≡ by_order o
      ((v, y) ∷ e ∷ es) ((e.0, y) ∷ es) (e ∷ put nat_cmp v y es)
  put_on Less v x y e es is rest = let level : nat_cmp v v ≡ Equal = sym (nat_cmp_is v v Equal refl) in rw level refl
  put_on Equal v x y e es is rest = rw is refl
  put_on Greater v x y e es is rest = rw is (ap (λ fs. e ∷ fs) rest)

  -- a value stored in place of another
  pub put-put : (v : ℕ) (x y : V) (es : List (ℕ × V)) → put nat_cmp v y (put nat_cmp v x es) ≡ put nat_cmp v y es
  put-put v x y [] = let level : nat_cmp v v ≡ Equal = sym (nat_cmp_is v v Equal refl) in rw level refl
  put-put v x y (e ∷ es) = put_on (nat_cmp v e.0) v x y e es refl (put-put v x y es)

  pub some_is : (x y : V) → Some x ≡ Some y → x ≡ y
  some_is x y same = ap (λ o. unwrap_or o x) same

module _ {K D : Type 0} (x : RoundsFacts K D) where
  module _ (m : map.FinMap nat_cmp (RoundFacts K D)) (shown : x.by_view ≡ map.entries m) where
    -- the map and the facts have the same round of a view
    pub found_at : (v : ℕ) → find_round x v ≡ map.get m v
    found_at v = ap (find nat_cmp v) shown ∙ find_entries m v

    pub put_shown : (v : ℕ) (r : RoundFacts K D)
        → record x { by_view = map.entries (map.insert m v r) } ≡ put_round x v r
    put_shown v r = ap (λ es. record x { by_view = es }) (entries-insert m v r ∙ ap (put nat_cmp v r) (sym shown))

    -- what is lent from the map is the view's round
    pub lent : (v : ℕ) (r : RoundFacts K D) → Some r ≡ map.get m v → r ≡ round_in x v
    lent v r here = ap (λ found. unwrap_or found (new_round x.me x.members (round_id x v))) (here ∙ sym (found_at v))

    pub is_there : (v : ℕ) (r : RoundFacts K D) → Some r ≡ map.get m v → has_round x v ≡ true
    is_there v r here = ap is_some (found_at v ∙ sym here)

    -- a view that is tracked already stays as it is, and another goes in with nothing known
    pub stays : (v : ℕ) → is_some (map.get m v) ≡ true → x ≡ put_round x v (round_in x v)
    stays v some = by_found (map.get m v) refl some
      where
        by_found : (o : Option (RoundFacts K D)) → map.get m v ≡ o → is_some o ≡ true → x ≡ put_round x v (round_in x v)
        by_found None is some = absurd (false≢true some)
        by_found (Some r) is some =
            ap (λ es. record x { by_view = es }) (shown ∙ ap map.entries (sym (insert-same m v r is)))
            ∙ put_shown v r ∙ ap (put_round x v) (lent v r (sym is))

    pub goes_in : (v : ℕ) (new : map.FinMap nat_cmp (RoundFacts K D)) (fresh : RoundFacts K D)
        → is_some (map.get m v) ≡ false → new ≡ map.insert m v fresh → fresh ≡ new_round x.me x.members (round_id x v)
        → record x { by_view = map.entries new } ≡ put_round x v (round_in x v)
    goes_in v new fresh none is nothing =
        ap (λ n. record x { by_view = map.entries n }) is ∙ put_shown v fresh
        ∙ ap (put_round x v) (nothing ∙ by_found (map.get m v) refl none)
      where
        by_found : (o : Option (RoundFacts K D)) → map.get m v ≡ o → is_some o ≡ false
            → new_round x.me x.members (round_id x v) ≡ round_in x v
        by_found None is none =
            sym (ap (λ found. unwrap_or found (new_round x.me x.members (round_id x v))) (found_at v ∙ is))
        by_found (Some r) is none = absurd (false≢true (sym none))

    -- a change of a tracked round, and none of another
    pub changed_there : (v : ℕ) (r s : RoundFacts K D) (change : RoundFacts K D → RoundFacts K D) → Some r ≡ map.get m v
        → s ≡ change r → record x { by_view = map.entries (map.insert m v s) } ≡ with_change_in_place x v change
    changed_there v r s change here is =
        put_shown v s ∙ ap (put_round x v) (is ∙ ap change (lent v r here))
        ∙ sym (ap (λ b. cond b (with_change x v change) x) (is_there v r here))

    pub untouched : (v : ℕ) (change : RoundFacts K D → RoundFacts K D) → None ≡ map.get m v
        → x ≡ with_change_in_place x v change
    untouched v change none = sym (ap (λ b. cond b (with_change x v change) x) (ap is_some (found_at v ∙ sym none)))

  -- the invariant of each round, within bounds
  pub kept_put : {h : Bounds} → AreKept h x → (v : ℕ) (r : RoundFacts K D) → IsRoundKept h x v r
      → AreKept h (put_round x v r)
  kept_put {h} kept v r here q s found = elim (cases_eq q v) [
    | inl at ↦
        let same : r ≡ s = some_is r s (sym (rw at (found_put v r x.by_view)) ∙ found) in
        on (rw (at, ← same) here)
    | inr other ↦ on (kept q s (sym (found_other q v other r x.by_view) ∙ found))
  ]
    where
      on : IsRoundKept h x q s → IsRoundKept h (put_round x v r) q s
      on k = record {
        me = k.me;
        members = k.members;
        round = k.round;
        in_range = k.in_range;
        notarized = k.notarized;
        leader = k.leader;
        explicit = k.explicit;
        under_way = k.under_way;
        refused = k.refused;
      }

  pub alike_kept : {h : Bounds} (v : ℕ) (r s : RoundFacts K D) → IsRoundKept h x v r → IsAlike h v r s
      → IsRoundKept h x v s
  alike_kept v r s k alike = record {
    me = alike.me ∙ k.me;
    members = alike.members ∙ k.members;
    round = alike.round ∙ k.round;
    in_range = k.in_range;
    notarized = λ some. k.notarized (ap is_some (sym alike.notarization) ∙ some);
    leader = subst (λ l. IfSome l (λ l. l.idx < length x.members)) (sym alike.leader) k.leader;
    explicit = λ is. elim (alike.explicit is) [
      | inl was ↦ k.explicit was
      | inr may ↦ may
    ];
    under_way = λ is. elim (alike.under_way is) [
      | inl was ↦ k.under_way was
      | inr may ↦ may
    ];
    refused = λ is. elim (alike.refused is) [
      | inl was ↦ k.refused was
      | inr may ↦ may
    ];
  }

  -- wider bounds allow no less
  pub wider_kept : {h wide : Bounds} → IsWider h wide → AreKept h x → AreKept wide x
  wider_kept wider kept v r found =
      let k = kept v r found in
      record {
        me = k.me;
        members = k.members;
        round = k.round;
        in_range = k.in_range;
        notarized = k.notarized;
        leader = k.leader;
        explicit = λ is. omega (arith, k.explicit is, wider.explicit);
        under_way = λ is. omega (arith, k.under_way is, wider.under_way);
        refused = λ is. wider.refused v (k.refused is);
      }

  pub none_explicit_above : {h : Bounds} → AreKept h x → (v : ℕ) (r : RoundFacts K D) → h.explicit < v
      → find_round x v ≡ Some r → is_explicit r ≡ false
  none_explicit_above {h} kept v r above found = by_test (is_explicit r) refl
    where
      by_test : (b : Bool) → is_explicit r ≡ b → b ≡ false
      by_test true is = absurd (omega (arith, (kept v r found).explicit is, above))
      by_test false is = refl

  pub fresh_kept : {h : Bounds} (v : ℕ) → v ≤ largest_tracked
      → IsRoundKept h x v (new_round x.me x.members (round_id x v))
  fresh_kept v within = record {
    me = refl;
    members = refl;
    round = refl;
    in_range = within;
    notarized = λ some. absurd (false≢true some);
    leader = tt;
    explicit = λ some. absurd (false≢true some);
    under_way = λ some. absurd (false≢true some);
    refused = λ some. absurd (false≢true some);
  }

  -- a leader is a member
  pub leader_member : {h : Bounds} → AreKept h x → (v : ℕ) (r : RoundFacts K D) (l : Leader K) → Some r ≡ find_round x v
      → Some l ≡ r.leader → l.idx < length x.members
  leader_member kept v r l here is = subst (λ o. IfSome o (λ l. l.idx < length x.members)) (sym is)
      (kept v r (sym here)).leader

  module _ (m : map.FinMap nat_cmp (RoundFacts K D)) (shown : x.by_view ≡ map.entries m) {h : Bounds}
      (kept : AreKept h x) where
    pub in_range_at : (v : ℕ) (found : Option (Bor (RoundFacts K D))) → option_copied found ≡ map.get m v
        → OnSome found (v ≤ largest_tracked)
    in_range_at v None is = tt
    in_range_at v (Some r) is = (kept v r.now (found_at m shown v ∙ sym is)).in_range

    pub kept_at : (v : ℕ) (r : RoundFacts K D) → Some r ≡ map.get m v → IsRoundKept h x v r
    kept_at v r here = kept v r (found_at m shown v ∙ sym here)

    pub kept_insert : (v : ℕ) (s : RoundFacts K D) → IsRoundKept h x v s
        → AreKept h (record x { by_view = map.entries (map.insert m v s) })
    kept_insert v s here = subst (AreKept h) (sym (put_shown m shown v s)) (kept_put kept v s here)

    -- a notarization of a view that one may be of, and a leader that is a member
    pub kept_notarized : (same : Proposal D → Proposal D → Bool) (v : ℕ) (r s : RoundFacts K D) (c : ProposalFacts D)
        → v < 2 ^ 63 → Some r ≡ map.get m v → s ≡ with_notarization same r c
        → AreKept h (record x { by_view = map.entries (map.insert m v s) })
    kept_notarized same v r s c votable here is = kept_insert v s (rw is (by_kept (is_some r.notarization)))
      where
        by_kept : (b : Bool) → IsRoundKept h x v
            (cond b r (record (with_recovered same r c.proposal) { notarization = Some c }))
        by_kept true = kept_at v r here
        by_kept false = let k = kept_at v r here in
            record {
              me = k.me;
              members = k.members;
              round = k.round;
              in_range = k.in_range;
              notarized = λ some. votable;
              leader = k.leader;
              explicit = k.explicit;
              under_way = k.under_way;
              refused = k.refused;
            }

    pub kept_led : (v member : ℕ) (r s : RoundFacts K D) → member < length x.members → Some r ≡ map.get m v
        → s ≡ record r { leader = leader_at r.members member }
        → AreKept h (record x { by_view = map.entries (map.insert m v s) })
    kept_led v member r s within here is =
        let k = kept_at v r here in
        kept_insert v s (rw is (record {
          me = k.me;
          members = k.members;
          round = k.round;
          in_range = k.in_range;
          notarized = k.notarized;
          leader = by_key (slice_get r.members member);
          explicit = k.explicit;
          under_way = k.under_way;
          refused = k.refused;
        }))
      where
        by_key : (key : Option K) → IfSome (option_map (λ k. record { idx = member; key = k }) key)
            (λ (l : Leader K). l.idx < length x.members)
        by_key None = tt
        by_key (Some k) = within

    pub kept_in : (v : ℕ) (new : map.FinMap nat_cmp (RoundFacts K D)) (fresh : RoundFacts K D) → v ≤ largest_tracked
        → new ≡ map.insert m v fresh → fresh ≡ new_round x.me x.members (round_id x v)
        → AreKept h (record x { by_view = map.entries new })
    kept_in v new fresh within is nothing =
        subst (λ n. AreKept h (record x { by_view = map.entries n })) (sym is)
        (kept_insert v fresh (rw nothing (fresh_kept v within)))

    -- a tracked round is changed
    pub kept_changed : (v : ℕ) (r s : RoundFacts K D) → Some r ≡ map.get m v → IsAlike h v r s
        → AreKept h (record x { by_view = map.entries (map.insert m v s) })
    kept_changed v r s here alike = kept_insert v s (alike_kept v r s (kept_at v r here) alike)

    -- below the bound no certification is under way
    pub quiet_below : IsQuietBelow m h.under_way
    quiet_below v r found below = by_test (is_some (token_of r.certification)) refl
      where
        by_test : (b : Bool) → is_some (token_of r.certification) ≡ b → b ≡ false
        by_test true is = absurd (omega (arith, (kept_at v r (sym found)).under_way is, below))
        by_test false is = refl

-- after a view is tracked: y is what is known then
module _ {K D : Type 0} (x y : RoundsFacts K D) (v : ℕ) (tracked : y ≡ put_round x v (round_in x v))
    (m : map.FinMap nat_cmp (RoundFacts K D)) (shown : y.by_view ≡ map.entries m) where
  found_tracked : map.get m v ≡ Some (round_in x v)
  found_tracked = sym (found_at y m shown v) ∙ ap (λ z. find_round z v) tracked ∙ found_put v (round_in x v) x.by_view

  pub never_none : None ≡ map.get m v → ⊥
  never_none none = let bad : None ≡ Some (round_in x v) = none ∙ found_tracked in cc

  pub lent_tracked : (r : RoundFacts K D) → Some r ≡ map.get m v → r ≡ round_in x v
  lent_tracked r here = some_is _ _ (here ∙ found_tracked)

  pub changed_tracked : (r s : RoundFacts K D) (change : RoundFacts K D → RoundFacts K D) → Some r ≡ map.get m v
      → s ≡ change r → record y { by_view = map.entries (map.insert m v s) } ≡ with_change x v change
  changed_tracked r s change here is =
      put_shown y m shown v s ∙ ap (λ z. put_round z v s) tracked
      ∙ ap (λ es. record x { by_view = es }) (put-put v (round_in x v) s x.by_view)
      ∙ ap (put_round x v) (is ∙ ap change (lent_tracked r here))

-- no round is known
pub none_kept : {K D : Type 0} {h : Bounds} (x : RoundsFacts K D) → x.by_view ≡ [] → AreKept h x
none_kept x none v r found = let bad : None ≡ Some r = sym (ap (find nat_cmp v) none) ∙ found in cc

-- a view with a notarization is tracked
pub notarized_there : {K D : Type 0} (x : RoundsFacts K D) (m : map.FinMap nat_cmp (RoundFacts K D))
    → x.by_view ≡ map.entries m → (v : ℕ) → is_some
    (option_and_then (λ (r : RoundFacts K D). r.notarization) (find_round x v)) ≡ true → None ≡ map.get m v → ⊥
notarized_there x m shown v notarized none =
    false≢true (ap (λ (found : Option (RoundFacts _ _)).
    is_some (option_and_then (λ (r : RoundFacts _ _). r.notarization) found)) (none ∙ sym (found_at x m shown v))
    ∙ notarized)

-- and below 2 ^ 63
pub notarized_small : {K D : Type 0} (x : RoundsFacts K D) (h : Bounds) → AreKept h x → (v : ℕ)
    → is_some (option_and_then (λ (r : RoundFacts K D). r.notarization) (find_round x v)) ≡ true → v < 2 ^ 63
notarized_small {K} {D} x h kept v notarized = by_value (find_round x v) refl notarized
  where
    by_value : (o : Option (RoundFacts K D)) → find_round x v ≡ o
        → is_some (option_and_then (λ (r : RoundFacts K D). r.notarization) o) ≡ true → v < 2 ^ 63
    by_value None is some = absurd (false≢true some)
    by_value (Some r) is some = (kept v r is).notarized some

-- a view that can be finalized is tracked
pub finalizable_there : {K D : Type 0} (x : RoundsFacts K D) (m : map.FinMap nat_cmp (RoundFacts K D))
    → x.by_view ≡ map.entries m → (v : ℕ) → can_finalize (round_in x v) ≡ true → None ≡ map.get m v → ⊥
finalizable_there x m shown v can none = false≢true
    (ap (λ found. can_finalize (unwrap_or found (new_round x.me x.members (round_id x v))))
    (none ∙ sym (found_at x m shown v)) ∙ can)

-- the round of a tracked view is changed; y is what the fields represent
pub changed_there_always : {K D : Type 0} (x y : RoundsFacts K D) → y ≡ x → (m : map.FinMap nat_cmp (RoundFacts K D))
    → y.by_view ≡ map.entries m → (v : ℕ) (r s : RoundFacts K D) (change : RoundFacts K D → RoundFacts K D)
    → Some r ≡ map.get m v → s ≡ change r → record y { by_view = map.entries (map.insert m v s) } ≡ with_change x v
    change
changed_there_always x y is m shown v r s change here same =
    put_shown y m shown v s ∙ ap (put_round y v) (same ∙ ap change (lent y m shown v r here))
    ∙ ap (λ z. with_change z v change) is

-- the invariant of the remaining rounds
pub left_kept : {K D : Type 0} {h : Bounds} (x : RoundsFacts K D) (m : map.FinMap nat_cmp (RoundFacts K D))
    → x.by_view ≡ map.entries m → (v : ℕ) (n : map.FinMap nat_cmp (RoundFacts K D)) → n ≡ at_or_above m v
    → (left : Bounds) → left ≡ record h { refused = at_or_above h.refused v } → AreKept h x
    → AreKept left (record x { by_view = map.entries n })
left_kept {K} {D} {h} x m shown v n is left are kept q r found =
    on (by_test (leb v q) refl
    (sym (get-kept m (λ u. leb v u) q) ∙ ap (λ k. map.get k q) (sym is) ∙ sym (find_entries n q) ∙ found))
  where
    on : (leb v q ≡ true) × IsRoundKept h x q r → IsRoundKept left (record x { by_view = map.entries n }) q r
    on (within, k) = record {
      me = k.me;
      members = k.members;
      round = k.round;
      in_range = k.in_range;
      notarized = k.notarized;
      leader = k.leader;
      explicit = λ is. rw are (k.explicit is);
      under_way = λ is. rw are (k.under_way is);
      refused = λ is. rw are (ap is_some (get-kept h.refused (λ u. leb v u) q) ∙ rw within (k.refused is));
    }

    by_test : (b : Bool) → leb v q ≡ b → cond b (map.get m q) None ≡ Some r → (leb v q ≡ true) × IsRoundKept h x q r
    by_test true within here = (within, kept q r (found_at x m shown q ∙ here))
    by_test false outside here = let bad : None ≡ Some r = here in cc
