-- Changes of the rounds, as changes of a state's facts.
use Rattle.std.proofs.Common.{◌≡◌, ℕ, Bool, true, false, cond, ltb, leb, filter, Option, Some, None, Result, Ok, Err, OnOk, inl, inr, arith, ap, sym, length, ◌∙◌}
use Rattle.std.specs.Ordering.{nat_cmp, is_le}
use Rattle.std.proofs.lemmas.Bool.{cases_lt, lt-ltb}
use Rattle.std.proofs.lemmas.Bool.Decides.{nat_tests}
use Rattle.std.specs.FinMap as map
use Rattle.simplex_round.specs.Round.{RoundFacts}
use Rattle.std.specs.Prelude.{IfErr}
use Rattle.std.specs.Option.{option_map_or}
use Rattle.simplex_voter.specs.Setup.{HasSameSetup, deadlines_at}
use Rattle.simplex_round.specs.declared.round.Leader.{Leader}
use Rattle.simplex_voter.specs.Rounds.{RoundsFacts, HasSameOrigin, put_round, with_change, with_entry}
use Rattle.simplex_voter.specs.ViewEntry.{with_view_entered}
use Rattle.simplex_voter.specs.declared.voter.rounds.Deadlines.{Deadlines}
use Rattle.simplex_types.specs.declared.types.window.Terms.{Terms}
use Rattle.simplex_voter.specs.declared.voter.state.State.TheInside.{Inside}
use Rattle.simplex_voter.specs.StateView.{IsStateKept}
use Rattle.simplex_voter.specs.Facts as facts
use Rattle.simplex_voter.specs.Facts.{StateFacts}
use Rattle.simplex_voter.specs.StateAnswers.{after_prune}
use Rattle.simplex_voter.specs.Acceptance.{nullified_also}
use Rattle.simplex_view_maps.specs.ByTerm.{ByTermFacts}
use Rattle.std.specs.BTreeSet.{insert_key}
use Rattle.simplex_voter.proofs.RoundsKept.{keys-kept}
use Rattle.simplex_voter.proofs.Containers.{keys-insert}
use Rattle.simplex_view_maps.specs.Tracked.{at_or_above, below}
use Rattle.simplex_voter.specs.Windows.{min_active}

-- a view that is not at or below another is above it
pub not_le : (v w : ℕ) → false ≡ is_le (nat_cmp v w) → ltb w v ≡ true
not_le v w refused = elim (cases_lt w v) [
  | inl above ↦ lt-ltb w v above
  | inr below ↦ grind (arith, nat_tests)
]

pub on_ok : {A E P Q : Type 0} (r : Result A E) → (P → Q) → OnOk r P → OnOk r Q
on_ok (Ok a) f p = f p
on_ok (Err e) f p = p

pub on_err : {A E : Type 0} {P Q : E → Type 0} (r : Result A E) → ((e : E) → P e → Q e) → IfErr r P → IfErr r Q
on_err (Ok a) f p = p
on_err (Err e) f p = f e p

-- the facts of a state whose rounds are these
module _ {K L D : Type 0} where
  abbrev pub with_rounds : StateFacts K L D → RoundsFacts K D → StateFacts K L D
  with_rounds y r = record y
      { settings = record (y.settings) { epoch = r.epoch }; me = r.me; members = r.members; rounds = r.by_view }

  pub by_rounds : (y x : StateFacts K L D) → y ≡ x → (r s : RoundsFacts K D) → r ≡ s → with_rounds y r ≡ with_rounds y s
  by_rounds y x is r s same = ap (with_rounds y) same

  -- a change that depends on a test, where else nothing changes
  pub where_true : (y x : StateFacts K L D) → y ≡ x → (b : Bool) (r s t : RoundsFacts K D) → r ≡ cond b s t
      → with_rounds y t ≡ y → with_rounds y r ≡ cond b (with_rounds y s) y
  where_true y x is true r s t same stays = ap (with_rounds y) same
  where_true y x is false r s t same stays = ap (with_rounds y) same ∙ stays

  pub where_false : (y x : StateFacts K L D) → y ≡ x → (b : Bool) (r s t : RoundsFacts K D) → r ≡ cond b t s
      → with_rounds y t ≡ y → with_rounds y r ≡ cond b y (with_rounds y s)
  where_false y x is true r s t same stays = ap (with_rounds y) same ∙ stays
  where_false y x is false r s t same stays = ap (with_rounds y) same

  -- a view above the current one is entered
  pub entered_by : (y x : StateFacts K L D) → y ≡ x → (v now : ℕ) (d : Deadlines) (r t : RoundsFacts K D)
      → r ≡ with_change t v (λ s. with_entry s now d) → d ≡ deadlines_at y now → ltb y.current v ≡ true
      → ((e : Deadlines) → with_rounds y (with_change t v (λ s. with_entry s now e)) ≡ facts.with_round y v
      (with_entry (facts.round_of y v) now e)) → record (with_rounds y r) { current = v } ≡ with_view_entered y v now
  entered_by y x is v now d r t same deadlines above tie =
      rw above (
      ap (λ s. record (with_rounds y s) { current = v }) same
      ∙ ap (λ (z : StateFacts K L D). record z { current = v }) (tie d)
      ∙ ap (λ e. record (facts.with_round y v (with_entry (facts.round_of y v) now e)) { current = v }) deadlines)

  -- a leader carries over to a view that has none
  pub handed_on : (y x : StateFacts K L D) → y ≡ x
      → (leader : Option (Leader K)) (b : Bool) (lead : ℕ → RoundFacts K D) (v : ℕ) (r t : RoundsFacts K D)
      → r ≡ option_map_or (λ (l : Leader K). cond b t (put_round t v (lead l.idx))) leader t → with_rounds y t ≡ y
      → with_rounds y r ≡ option_map_or (λ (l : Leader K). cond b y (with_rounds y (put_round t v (lead l.idx)))) leader
      y
  handed_on y x is None b lead v r t same stays = ap (with_rounds y) same ∙ stays
  handed_on y x is (Some l) b lead v r t same stays = where_false y x is b r (put_round t v (lead l.idx)) t same stays

  abbrev rounds_of : StateFacts K L D → RoundsFacts K D
  rounds_of y = record { me = y.me; members = y.members; epoch = y.settings.epoch; by_view = y.rounds }

  -- rounds of the same origin leave how the state was set up
  pub same_setup : (y x : StateFacts K L D) → y ≡ x → (r : RoundsFacts K D) → HasSameOrigin (rounds_of y) r
      → HasSameSetup x (with_rounds y r)
  same_setup y x is r origin = record {
    failed = ap (λ z. z.failed) is;
    settings = ap (λ e. record (y.settings) { epoch = e }) origin.epoch ∙ ap (λ z. z.settings) is;
    me = origin.me ∙ ap (λ z. z.me) is;
    members = origin.members ∙ ap (λ z. z.members) is;
    elector = ap (λ z. z.elector) is;
    terms = ap (λ z. z.terms) is;
    elects_early = ap (λ z. z.elects_early) is;
  }

-- the members of a state are those of its rounds
pub kept_with_rounds : {S L D K G C : Type 0} {terms : L → Terms} {count : L → ℕ} {s : Inside S L D K G C}
    {r : RoundsFacts K D} → IsStateKept terms count s → HasSameOrigin s.rounds r
    → IsStateKept terms count (record s { rounds = r })
kept_with_rounds kept origin = record {
  in_range = kept.in_range;
  nullified = kept.nullified;
  nullify_votes = kept.nullify_votes;
  elector = kept.elector ∙ ap length (sym origin.members);
}

module _ {K L D : Type 0} where
  pub nullified_shown : (x : StateFacts K L D) (m new : ByTermFacts (Unit {0})) (v : ℕ)
      → x.nullified ≡ map.keys m.by_view → new ≡ record m { by_view = map.insert m.by_view v tt }
      → record x { nullified = map.keys new.by_view } ≡ nullified_also x v
  nullified_shown x m new v shown is =
      ap (λ ks. record x { nullified = ks }) (ap (λ (n : ByTermFacts (Unit {0})). map.keys n.by_view) is
      ∙ keys-insert m.by_view v tt ∙ ap (λ ks. insert_key nat_cmp ks v) (sym shown))

  pub nullify_vote_shown : (x : StateFacts K L D) (m new : ByTermFacts (Unit {0})) (v : ℕ)
      → x.nullify_votes ≡ map.keys m.by_view → new ≡ record m { by_view = map.insert m.by_view v tt }
      → record x { nullify_votes = map.keys new.by_view } ≡ record x
      { nullify_votes = insert_key nat_cmp x.nullify_votes v }
  nullify_vote_shown x m new v shown is =
      ap (λ ks. record x { nullify_votes = ks })
      (ap (λ (n : ByTermFacts (Unit {0})). map.keys n.by_view) is ∙ keys-insert m.by_view v tt
      ∙ ap (λ ks. insert_key nat_cmp ks v) (sym shown))

  -- the state after pruning
  pub pruned_shown : (x : StateFacts K L D) (n k : map.FinMap nat_cmp (Unit {0})) (v : ℕ) → x.nullified ≡ map.keys n
      → x.nullify_votes ≡ map.keys k → v ≡ min_active x
      → record x {
        rounds = filter (λ (e : ℕ × RoundFacts K D). leb v e.0) x.rounds;
        nullified = map.keys (at_or_above n v);
        nullify_votes = map.keys (at_or_above k v);
      } ≡ after_prune x
  pruned_shown x n k v nullified votes floor =
      let b = keys-kept n v ∙ ap (filter (λ u. leb v u)) (sym nullified) in
      let c = keys-kept k v ∙ ap (filter (λ u. leb v u)) (sym votes) in
      (λ i. record x
      { rounds = filter (λ (e : ℕ × RoundFacts K D). leb v e.0) x.rounds; nullified = b i; nullify_votes = c i })
      ∙ ap (λ w. record x {
        rounds = filter (λ (e : ℕ × RoundFacts K D). leb w e.0) x.rounds;
        nullified = filter (λ u. leb w u) x.nullified;
        nullify_votes = filter (λ u. leb w u) x.nullify_votes;
      }) floor
