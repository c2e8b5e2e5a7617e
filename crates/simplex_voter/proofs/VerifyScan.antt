-- The scan for a proposal to verify, step by step.
use Rattle.std.proofs.Common.{◌≡◌, ◌≢◌, ℕ, ◌+◌, ◌<◌, ◌≤◌, Bool, true, false, ◌&&◌, not, ◌||◌, ◌⊎◌, ◌-◌, ◌^◌, ltb, leb, eqb, cond, List, filter, Option, Some, None, slice_get, is_some, unwrap_or, T, refl, ap, sym, ◌∙◌, subst, inl, inr, arith}
use Rattle.std.specs.Prelude.{max, min, map as map_list, option_map, option_and_then}
use Rattle.std.specs.Option.{option_map_or}
use Rattle.std.specs.List.{list_any}
use Rattle.std.specs.Ordering.{nat_cmp}
use Rattle.std.specs.Cmp.{nat_cmp_total}
use Rattle.std.specs.FinMap as map
use Rattle.std.specs.FinMap.Entries.{find, put, find-put, is_sorted}
use Rattle.std.proofs.lemmas.Bool.{cases_eq, cases_lt, cases_order, eq-eqb, ne_eqb, lt-ltb, le-ltb, lt-leb, false≢true}
use Rattle.std.proofs.lemmas.Bool.Decides.{nat_tests}
use Rattle.simplex_view_maps.proofs.RisingEntries.{Rises, rises}
use Rattle.simplex_view_maps.proofs.Maps.{is_eq-nat_cmp, same_maps}
use Rattle.simplex_types.specs.Terms.{next_term_start, term_end}
use Rattle.simplex_types.specs.declared.types.messages.Proposal.{Proposal}
use Rattle.simplex_round.specs.declared.round.Leader.{Leader}
use Rattle.simplex_round.specs.Round.{RoundFacts, new_round, pending_proposal}
use Rattle.simplex_voter.specs.declared.voter.verify.Standing.{Standing}
use Rattle.simplex_voter.specs.declared.voter.verify.Standing.TheVariants.{NothingToDo, Invalid, Lacks, Ready}
use Rattle.simplex_voter.specs.declared.voter.verify.Verify.{Verify}
use Rattle.simplex_voter.specs.declared.voter.verify.Verify.TheVariants as verify
use Rattle.simplex_types.specs.declared.reasons.Kind.{Kind}
use Rattle.simplex_voter.specs.Facts.{StateFacts, Elect, round_at, round_of, round_number, with_round, with_tracked}
use Rattle.simplex_voter.specs.Windows.{is_admitted}
use Rattle.simplex_voter.specs.ProposalRequests.{views_within, views_ahead}
use Rattle.simplex_voter.specs.Verification.{with_request, verifying_round, round_left, is_answered, answer_at, left_at, parent_standing, standing, answer_in, verify_answer, was_scanned, scan_left, after_try_verify}
use Rattle.simplex_voter.proofs.Gaps.{cases_bool}
use Rattle.simplex_voter.proofs.Walked.{first_of, none_of, find-changed, sorted-changed}
use Rattle.simplex_voter.proofs.Containers.{entries-insert}
use Rattle.simplex_voter.proofs.Found.{found_each, rises-filtered, find-filtered, any_there, any_nowhere, nothing_given, first_given, any-through}
use Rattle.simplex_voter.proofs.Undecided.{undecided, undecided_rounds, open_facts, open_standing}

true_of : (b : Bool) → T b → b ≡ true
true_of true t = refl
true_of false t = absurd t

within : (low high q : ℕ) → (leb low q && leb q high) ≡ true → (low ≤ q) × (q ≤ high)
within low high q h = grind (arith, nat_tests)

in_reach : (low high q : ℕ) → low ≤ q → q ≤ high → (leb low q && leb q high) ≡ true
in_reach low high q above below = grind (arith, nat_tests)

not_below : (low high q : ℕ) → q < low → (leb low q && leb q high) ≡ false
not_below low high q h = grind (arith, nat_tests)

not_beyond : (low high q : ℕ) → high < q → (leb low q && leb q high) ≡ false
not_beyond low high q h = grind (arith, nat_tests)

nowhere : (c q : ℕ) → (leb c q && ltb q c) ≡ false
nowhere c q = grind (arith, nat_tests)

outside : (c q m : ℕ) → q < c → (leb c q && ltb q m) ≡ false
outside c q m low = grind (arith, nat_tests)

beyond : (c q v : ℕ) → v < q → (leb c q && ltb q (v + 1)) ≡ false
beyond c q v past = grind (arith, nat_tests)

beyond_to : (c q m : ℕ) → m ≤ q → (leb c q && ltb q m) ≡ false
beyond_to c q m past = grind (arith, nat_tests)

spanned : (c q v : ℕ) → c ≤ q → q ≤ v → (leb c q && ltb q (v + 1)) ≡ true
spanned c q v over up = grind (arith, nat_tests)

spanned_to : (c q m : ℕ) → c ≤ q → q < m → (leb c q && ltb q m) ≡ true
spanned_to c q m over low = grind (arith, nat_tests)

never : (b : Bool) → (b && false) ≡ false
never true = refl
never false = refl

module _ {V : Type 0} where
  made : (es : List (ℕ × V)) → is_sorted nat_cmp es ≡ true → T (is_sorted nat_cmp es)
  made es ordered = subst T (sym ordered) tt

  -- sorted lists with the same values at each key are the same
  lists_alike : (es fs : List (ℕ × V)) → is_sorted nat_cmp es ≡ true → is_sorted nat_cmp fs ≡ true
      → ((q : ℕ) → find nat_cmp q es ≡ find nat_cmp q fs) → es ≡ fs
  lists_alike es fs oe of each =
      let same : map.from_sorted es ≡ map.from_sorted fs =
      same_maps _ _ (λ q. map.get-from_sorted nat_cmp es q (made es oe) ∙ each q
      ∙ sym (map.get-from_sorted nat_cmp fs q (made fs of))) in
      sym (map.entries-from_sorted nat_cmp es (made es oe)) ∙ ap map.entries same
      ∙ map.entries-from_sorted nat_cmp fs (made fs of)

  sorted-put : (es : List (ℕ × V)) (v : ℕ) (r : V) → is_sorted nat_cmp es ≡ true
      → is_sorted nat_cmp (put nat_cmp v r es) ≡ true
  sorted-put es v r ordered =
      let m : map.FinMap nat_cmp V = map.from_sorted es in
      let is : put nat_cmp v r es ≡ map.entries (map.insert m v r) =
      ap (put nat_cmp v r) (sym (map.entries-from_sorted nat_cmp es (made es ordered)))
      ∙ sym (entries-insert m v r) in
      ap (is_sorted nat_cmp) is ∙ true_of _ (map.entries_sorted (map.insert m v r))

  some_here : (b : Bool) (o : Option V) (r : V) → cond b o None ≡ Some r → (b ≡ true) × (o ≡ Some r)
  some_here true o r is = (refl, is)
  some_here false o r is = absurd (false≢true (ap is_some is))

  -- the first of the entries within: it is there, and nothing before it
  pub first_there : (es : List (ℕ × V)) (low high v : ℕ) → is_sorted nat_cmp es ≡ true
      → Some v ≡ option_map (λ e. e.0) (slice_get (filter (λ e. leb low e.0 && leb e.0 high) es) 0)
      → (r : V) × (find nat_cmp v es ≡ Some r) × (low ≤ v) × (v ≤ high)
      × ((q : ℕ) → low ≤ q → q < v → find nat_cmp q es ≡ None)
  first_there es low high v ordered is = by_first (slice_get (filter (λ e. leb low e.0 && leb e.0 high) es) 0) refl is
    where
      absent : (q : ℕ) → low ≤ q → q ≤ high → find nat_cmp q (filter (λ e. leb low e.0 && leb e.0 high) es) ≡ None
          → find nat_cmp q es ≡ None
      absent q above below none = sym (find-filtered (λ k. leb low k && leb k high) q es
          ∙ ap (λ b. cond b (find nat_cmp q es) None) (in_reach low high q above below)) ∙ none

      by_first : (o : Option (ℕ × V)) → slice_get (filter (λ e. leb low e.0 && leb e.0 high) es) 0 ≡ o
          → Some v ≡ option_map (λ e. e.0) o → (r : V) × (find nat_cmp v es ≡ Some r) × (low ≤ v) × (v ≤ high)
          × ((q : ℕ) → low ≤ q → q < v → find nat_cmp q es ≡ None)
      by_first None read is = absurd (false≢true (ap is_some (sym is)))
      by_first (Some e) read is =
          let at : v ≡ e.0 = ap (λ o. unwrap_or o v) is in
          let first = first_of (filter (λ e. leb low e.0 && leb e.0 high) es) (rises-filtered _ es (rises es ordered)) e
          (sym read) in
          let here = some_here _ _ _ (sym (find-filtered (λ k. leb low k && leb k high) e.0 es) ∙ first.0) in
          let reach = within low high e.0 here.0 in (
            e.1,
            ap (λ k. find nat_cmp k es) at ∙ here.1,
            omega (arith, at, reach.0),
            omega (arith, at, reach.1),
            λ q above below. absent q above (omega (arith, below, at, reach.1))
                (first.1 q (omega (arith, below, at))),
          )

  -- nothing is within
  pub none_there : (es : List (ℕ × V)) (low high : ℕ)
      → None ≡ option_map (λ e. e.0) (slice_get (filter (λ e. leb low e.0 && leb e.0 high) es) 0) → (q : ℕ) → low ≤ q
      → q ≤ high → find nat_cmp q es ≡ None
  none_there es low high is q above below =
      sym (find-filtered (λ k. leb low k && leb k high) q es
      ∙ ap (λ b. cond b (find nat_cmp q es) None) (in_reach low high q above below))
      ∙ none_of (filter (λ e. leb low e.0 && leb e.0 high) es)
      (by_first (slice_get (filter (λ e. leb low e.0 && leb e.0 high) es) 0) is) q
    where
      by_first : (o : Option (ℕ × V)) → None ≡ option_map (λ e. e.0) o → None ≡ o
      by_first None is = refl
      by_first (Some e) is = absurd (false≢true (ap is_some is))

none_admits : (a c d e : Bool) → ((a && false) || (c && d && false) || (false && e)) ≡ false
none_admits true true true true = refl
none_admits true true true false = refl
none_admits true true false true = refl
none_admits true true false false = refl
none_admits true false d true = refl
none_admits true false d false = refl
none_admits false true true true = refl
none_admits false true true false = refl
none_admits false true false true = refl
none_admits false true false false = refl
none_admits false false d true = refl
none_admits false false d false = refl

-- from a view the scan continues there, or past the near views at the last
pub onward_cases : (near next last from : ℕ) → from ≡ cond (ltb near next && ltb next last) last next
    → (from ≡ next) ⊎ ((near < next) × (next < last) × (from ≡ last))
onward_cases near next last from is = elim (cases_lt near next) [
  | inl past ↦ elim (cases_lt next last) [
    | inl short ↦ inr (past, short, rw (lt-ltb near next past, lt-ltb next last short) at is)
    | inr over ↦ inl (rw (lt-ltb near next past, le-ltb next last over) at is)
  ]
  | inr near' ↦ inl (rw (le-ltb near next near') at is)
]

pub onward_within : (near next last from v : ℕ) → from ≡ cond (ltb near next && ltb next last) last next → next ≡ v + 1
    → v ≤ last → (next ≤ from) × (from ≤ last + 1)
onward_within near next last from v is after within = elim (onward_cases near next last from is) [
  | inl same ↦ (omega (arith, same), omega (arith, same, after, within))
  | inr skips ↦ (omega (arith, skips.1, skips.2), omega (arith, skips.2))
]

either : {A : Type 0} (b : Bool) (a : A) → cond b a a ≡ a
either true a = refl
either false a = refl

module _ {K L D : Type 0} (same : D → D → Bool) (elect : Elect L) where
  -- where nothing is to be verified, nothing is left to do
  pub passed_by : (x : StateFacts K L D) (v : ℕ) (r : RoundFacts K D) → Some r ≡ round_at x v
      → None ≡ pending_proposal r → x ≡ left_at x (v, round_of x v) (standing same elect x (v, round_of x v))
  unfolding standing
  passed_by x v r here none =
      let at : round_of x v ≡ r = ap (λ o. unwrap_or o (new_round x.me x.members (round_number x v))) (sym here) in
      let passes : standing same elect x (v, r) ≡ NothingToDo =
      ap (λ o. cond (is_admitted x v) (option_map_or
      (λ (found : Leader K × Proposal D). parent_standing same elect x v r found.1.parent) o NothingToDo)
      NothingToDo) (sym none) ∙ either (is_admitted x v) NothingToDo in
      sym (ap (λ s. left_at x (v, s) (standing same elect x (v, s))) at ∙ ap (left_at x (v, r)) passes)

  -- a tracked view changes by its standing
  module _ (x : StateFacts K L D) (v : ℕ) (r : RoundFacts K D) (here : Some r ≡ round_at x v) (s : Standing D)
      (so : s ≡ standing same elect x (v, r)) (y : StateFacts K L D) where
    round_there : round_of x v ≡ r
    round_there = ap (λ o. unwrap_or o (new_round x.me x.members (round_number x v))) (sym here)

    left_there : left_at x (v, r) s ≡ left_at x (v, round_of x v) (standing same elect x (v, round_of x v))
    left_there = ap (left_at x (v, r)) so ∙ sym (ap (λ q. left_at x (v, q) (standing same elect x (v, q))) round_there)

    in_place : (change : RoundFacts K D → RoundFacts K D) → y ≡ with_tracked x v (change (round_of x v))
        → y ≡ with_round x v (change r)
    in_place change is =
        is ∙ ap (λ b. cond b (with_round x v (change (round_of x v))) x) (sym (ap is_some here))
        ∙ ap (λ q. with_round x v (change q)) round_there

    pub left_lacks : (w : ℕ) (kind : Kind) → s ≡ Lacks w kind → y ≡ with_tracked x v (with_request (round_of x v) w)
        → y ≡ left_at x (v, round_of x v) (standing same elect x (v, round_of x v))
    left_lacks w kind is requests = in_place (λ q. with_request q w) requests ∙ ap (left_at x (v, r)) (sym is)
        ∙ left_there

    pub left_ready : (d : D) → s ≡ Ready d → y ≡ with_tracked x v (verifying_round (round_of x v) d)
        → y ≡ left_at x (v, round_of x v) (standing same elect x (v, round_of x v))
    left_ready d is gives = in_place (λ q. verifying_round q d) gives ∙ ap (left_at x (v, r)) (sym is) ∙ left_there

  module _ (x : StateFacts K L D) where
    abbrev stands : ℕ → RoundFacts K D → Standing D
    stands q r = standing same elect x (q, r)

    -- a view with no answer
    silent_none : (e : ℕ × RoundFacts K D) → is_answered (standing same elect x e) ≡ false
        → answer_in same elect x e ≡ None
    silent_none e silent = by_standing (standing same elect x e) silent (pending_proposal e.1)
      where
        by_standing : (s : Standing D) → is_answered s ≡ false → (o : Option (Leader K × Proposal D))
            → option_and_then (answer_at e.0 s) o ≡ None
        by_standing s silent None = refl
        by_standing NothingToDo silent (Some found) = refl
        by_standing Invalid silent (Some found) = refl
        by_standing (Lacks w kind) silent (Some found) = absurd (false≢true (sym silent))
        by_standing (Ready d) silent (Some found) = absurd (false≢true (sym silent))

    answered_some : (e : ℕ × RoundFacts K D) → is_answered (standing same elect x e) ≡ true
        → is_some (answer_in same elect x e) ≡ true
    unfolding standing
    answered_some e answered = by_admitted (is_admitted x e.0) (pending_proposal e.1) answered
      where
        by_standing : (s : Standing D) (found : Leader K × Proposal D) → is_answered s ≡ true
            → is_some (answer_at e.0 s found) ≡ true
        by_standing NothingToDo found answered = absurd (false≢true answered)
        by_standing Invalid found answered = absurd (false≢true answered)
        by_standing (Lacks w kind) found answered = refl
        by_standing (Ready d) found answered = refl

        by_admitted : (b : Bool) (o : Option (Leader K × Proposal D))
            → is_answered (cond b (option_map_or (λ found. parent_standing same elect x e.0 e.1 found.1.parent) o
            NothingToDo) NothingToDo) ≡ true → is_some
            (option_and_then (answer_at e.0 (cond b
            (option_map_or (λ found. parent_standing same elect x e.0 e.1 found.1.parent) o NothingToDo) NothingToDo))
            o) ≡ true
        by_admitted true None answered = absurd (false≢true answered)
        by_admitted true (Some found) answered =
            by_standing (parent_standing same elect x e.0 e.1 found.1.parent) found answered
        by_admitted false o answered = absurd (false≢true answered)

    pub answered_by : (e : ℕ × RoundFacts K D)
        → is_some (answer_in same elect x e) ≡ is_answered (standing same elect x e)
    answered_by e = elim (cases_bool (is_answered (standing same elect x e))) [
      | inl answered ↦ answered_some e answered ∙ sym answered
      | inr silent ↦ ap is_some (silent_none e silent) ∙ sym silent
    ]

    -- the rounds below n have changed by their standings
    abbrev left_until : ℕ → ℕ → RoundFacts K D → RoundFacts K D
    left_until n q r = cond (leb x.current q && ltb q n) (round_left r x.moment (stands q r)) r

    -- the scan has passed the views below n, and none had an answer
    pub record IsScanned (y : StateFacts K L D) (n : ℕ) : Type 0 where
      pub others : record y { rounds = x.rounds } ≡ x
      pub each : (q : ℕ) → round_at y q ≡ option_map (left_until n q) (round_at x q)
      pub silent : (q : ℕ) (r : RoundFacts K D) → x.current ≤ q → q < n → round_at x q ≡ Some r
          → is_answered (stands q r) ≡ false

    pub scan_starts : IsScanned x x.current
    scan_starts = record {
      others = refl;
      each = λ q. by_value q (leb x.current q && ltb q x.current) (nowhere x.current q) (round_at x q);
      silent = λ q r above below here. absurd (omega (arith, above, below));
    }
      where
        by_value : (q : ℕ) (b : Bool) → b ≡ false → (o : Option (RoundFacts K D))
            → o ≡ option_map (λ r. cond b (round_left r x.moment (stands q r)) r) o
        by_value q b none None = refl
        by_value q b none (Some r) = rw none refl

    -- past the views near the current one none is admitted up to the next term's start
    pub far_off : (near q : ℕ) → near ≡ min (x.current + x.terms.optimistic_views) (2 ^ 64 - 1) → near < q → q < 2 ^ 64
        → q < next_term_start x.terms.term_length x.current → is_admitted x q ≡ false
    unfolding is_admitted
    far_off near q is past room short =
        let over : x.current < q = grind (arith, is, past, room) in
        let wide : x.terms.optimistic_views < q - x.current = grind (arith, is, past, room) in
        rw (
          lt-leb q x.current over,
          lt-leb (q - x.current) x.terms.optimistic_views wide,
          ne_eqb q (next_term_start x.terms.term_length x.current) (omega (arith, short)),
        )
        (none_admits (leb 1 q) (ltb x.current q) (leb q (term_end x.terms.term_length x.current))
        (leb (q - x.current) (max 1 x.terms.optimistic_views)))

    -- views where this member may not work are passed
    pub passes_on : (y : StateFacts K L D) (n m : ℕ) → n ≤ m → IsScanned y n
        → ((q : ℕ) → n ≤ q → q < m → is_admitted x q ≡ false) → IsScanned y m
    unfolding standing
    passes_on y n m up passed far = record {
      others = passed.others;
      each = λ q. passed.each q ∙ by_value q (round_at x q);
      silent = λ q r above below here. elim (cases_lt q n) [
        | inl early ↦ passed.silent q r above early here
        | inr late ↦ ap is_answered (passes q r (far q late below))
      ];
    }
      where
        passes : (q : ℕ) (r : RoundFacts K D) → is_admitted x q ≡ false → stands q r ≡ NothingToDo
        passes q r not_admitted = rw not_admitted refl

        left_alike : (q : ℕ) (r : RoundFacts K D) → left_until n q r ≡ left_until m q r
        left_alike q r = elim (cases_lt q n) [
          | inl early ↦ rw (lt-ltb q n early, lt-ltb q m (omega (arith, early, up))) refl
          | inr late ↦ elim (cases_lt q m) [
            | inl below ↦ rw (passes q r (far q late below))
                (either (leb x.current q && ltb q n) r ∙ sym (either (leb x.current q && ltb q m) r))
            | inr beyond ↦ rw (le-ltb q n late, le-ltb q m beyond) refl
          ]
        ]

        by_value : (q : ℕ) (o : Option (RoundFacts K D)) → option_map (left_until n q) o ≡ option_map (left_until m q) o
        by_value q None = refl
        by_value q (Some r) = ap Some (left_alike q r)

    -- the scan continues where it may
    pub goes_onward : (y : StateFacts K L D) (next near last from : ℕ)
        → near ≡ min (x.current + x.terms.optimistic_views) (2 ^ 64 - 1)
        → last ≡ next_term_start x.terms.term_length x.current → last < 2 ^ 64
        → from ≡ cond (ltb near next && ltb next last) last next → IsScanned y next → IsScanned y from
    goes_onward y next near last from is top room on passed = elim (onward_cases near next last from on) [
      | inl same ↦ subst (IsScanned y) (sym same) passed
      | inr skips ↦ subst (IsScanned y) (sym skips.2)
          (passes_on y next last (omega (arith, skips.1)) passed
          (λ q late short. far_off near q is (omega (arith, skips.0, late)) (omega (arith, short, room))
          (omega (arith, short, top))))
    ]

    -- which views the scan comes to
    module _ (ordered : is_sorted nat_cmp x.rounds ≡ true) where
      abbrev reach : ℕ → Bool
      reach q = leb x.current q && leb q (next_term_start x.terms.term_length x.current)

      ahead_rises : Rises (views_ahead x)
      ahead_rises = rises-filtered _ x.rounds (rises x.rounds ordered)

      find_ahead : (q : ℕ) → find nat_cmp q (views_ahead x) ≡ cond (reach q) (round_at x q) None
      find_ahead q = find-filtered reach q x.rounds

      abbrev answered_below : ℕ → ℕ × RoundFacts K D → Bool
      answered_below q d = ltb d.0 q && is_answered (standing same elect x d)

      scanned_is : (q : ℕ) → was_scanned same elect x
          q ≡ (is_some (cond (reach q) (round_at x q) None) && not (list_any (answered_below q) (views_ahead x)))
      scanned_is q = any-through (λ e. is_answered (standing same elect x e)) q (views_ahead x) ahead_rises
          ∙ ap (λ o. is_some o && not (list_any (answered_below q) (views_ahead x))) (find_ahead q)

      reached : (q : ℕ) (t : RoundFacts K D) → round_at x q ≡ Some t → reach q ≡ true
          → ((p : ℕ) (u : RoundFacts K D) → x.current ≤ p → p < q → round_at x p ≡ Some u
          → is_answered (stands p u) ≡ false) → was_scanned same elect x q ≡ true
      reached q t here inside silent =
          let none : list_any (answered_below q) (views_ahead x) ≡ false =
          any_nowhere (answered_below q) (views_ahead x) (views_ahead x) (found_each (views_ahead x) ahead_rises)
          each in
          scanned_is q ∙ (λ i. is_some (cond (inside i) (here i) None) && not (none i))
        where
          each : (p : ℕ) (u : RoundFacts K D) → find nat_cmp p (views_ahead x) ≡ Some u
              → answered_below q (p, u) ≡ false
          each p u at =
              let parts = some_here _ _ _ (sym (find_ahead p) ∙ at) in
              let span = within x.current (next_term_start x.terms.term_length x.current) p parts.0 in
              elim (cases_lt p q) [
                | inl low ↦ ap (λ b. ltb p q && b) (silent p u span.0 low parts.1) ∙ never (ltb p q)
                | inr high ↦ ap (λ b. b && is_answered (stands p u)) (le-ltb p q high)
              ]

      unreached : (q : ℕ) → reach q ≡ false → was_scanned same elect x q ≡ false
      unreached q outside = scanned_is q
          ∙ (λ i. is_some (cond (outside i) (round_at x q) None) && not (list_any (answered_below q) (views_ahead x)))

      ended : (v : ℕ) (r : RoundFacts K D) (q : ℕ) → round_at x v ≡ Some r → reach v ≡ true
          → is_answered (stands v r) ≡ true → v < q → was_scanned same elect x q ≡ false
      ended v r q here inside answered below =
          let at : find nat_cmp v (views_ahead x) ≡ Some r = find_ahead v ∙ (λ i. cond (inside i) (here i) None) in
          let some : list_any (answered_below q) (views_ahead x) ≡ true =
          any_there (answered_below q) (views_ahead x) v r at (λ i. lt-ltb v q below i && answered i) in
          scanned_is q ∙ ap (λ b. is_some (cond (reach q) (round_at x q) None) && not b) some ∙ never _

      -- the facts after the scan, view by view
      all_left : (z : StateFacts K L D) (n : ℕ) → record z { rounds = x.rounds } ≡ x → is_sorted nat_cmp z.rounds ≡ true
          → ((q : ℕ) → round_at z q ≡ option_map (left_until n q) (round_at x q))
          → ((q : ℕ) (t : RoundFacts K D) → round_at x q ≡ Some t
          → (leb x.current q && ltb q n) ≡ was_scanned same elect x q) → z ≡ after_try_verify same elect x
      all_left z n others kept each alike =
          let rounds : z.rounds ≡ map_list (λ e. (e.0, scan_left same elect x e.0 e.1)) x.rounds =
          lists_alike z.rounds _ kept (sorted-changed (scan_left same elect x) x.rounds ∙ ordered)
          (λ q. each q ∙ by_value q (round_at x q) refl ∙ sym (find-changed (scan_left same elect x) q x.rounds)) in
          ap (λ (w : StateFacts K L D). record w { rounds = z.rounds }) others
          ∙ ap (λ es. record x { rounds = es }) rounds
        where
          by_value : (q : ℕ) (o : Option (RoundFacts K D)) → round_at x q ≡ o
              → option_map (left_until n q) o ≡ option_map (scan_left same elect x q) o
          by_value q None here = refl
          by_value q (Some t) here = ap (λ b. Some (cond b (round_left t x.moment (stands q t)) t)) (alike q t here)

    -- where the scan has come, proposals have the standings that they had
    module _ (ordered : is_sorted nat_cmp x.rounds ≡ true) (y : StateFacts K L D) (n : ℕ) (passed : IsScanned y n)
        (kept : is_sorted nat_cmp y.rounds ≡ true) where
      undecided_left : (s : Standing D) (r : RoundFacts K D) (now : ℕ) → is_answered s ≡ false
          → undecided (round_left r now s) ≡ undecided r
      undecided_left NothingToDo r now silent = refl
      undecided_left Invalid r now silent = refl
      undecided_left (Lacks w kind) r now silent = absurd (false≢true (sym silent))
      undecided_left (Ready d) r now silent = absurd (false≢true (sym silent))

      in_span : (c q m : ℕ) → (leb c q && ltb q m) ≡ true → (c ≤ q) × (q < m)
      in_span c q m h = grind (arith, nat_tests)

      undecided_until : (q : ℕ) (r : RoundFacts K D) → round_at x q ≡ Some r
          → undecided (left_until n q r) ≡ undecided r
      undecided_until q r here = elim (cases_bool (leb x.current q && ltb q n)) [
        | inl inside ↦
            let span = in_span x.current q n inside in
            rw inside (undecided_left (stands q r) r x.moment (passed.silent q r span.0 span.1 here))
        | inr outside ↦ rw outside refl
      ]

      undecided_each : (q : ℕ) → option_map undecided (round_at y q) ≡ option_map undecided (round_at x q)
      undecided_each q = ap (option_map undecided) (passed.each q) ∙ by_value (round_at x q) refl
        where
          by_value : (o : Option (RoundFacts K D)) → round_at x q ≡ o
              → option_map undecided (option_map (left_until n q) o) ≡ option_map undecided o
          by_value None here = refl
          by_value (Some r) here = ap Some (undecided_until q r here)

      undecided_same : undecided_rounds y.rounds ≡ undecided_rounds x.rounds
      undecided_same = lists_alike (undecided_rounds y.rounds) (undecided_rounds x.rounds)
          (sorted-changed (λ u r. undecided r) y.rounds ∙ kept) (sorted-changed (λ u r. undecided r) x.rounds ∙ ordered)
          (λ q. find-changed (λ u r. undecided r) q y.rounds ∙ undecided_each q
          ∙ sym (find-changed (λ u r. undecided r) q x.rounds))

      open_same : open_facts y ≡ open_facts x
      open_same = ap (λ (z : StateFacts K L D). record z { rounds = undecided_rounds y.rounds }) passed.others
          ∙ ap (λ es. record x { rounds = es }) undecided_same

      pub stands_same : (e : ℕ × RoundFacts K D) → standing same elect y e ≡ standing same elect x e
      stands_same e = sym (open_standing same elect y e)
          ∙ ap (λ (z : StateFacts K L D). standing same elect z e) open_same ∙ open_standing same elect x e

      pub answer_same : (e : ℕ × RoundFacts K D) → answer_in same elect y e ≡ answer_in same elect x e
      answer_same e = ap (λ s. option_and_then (answer_at e.0 s) (pending_proposal e.1)) (stands_same e)

      -- the scan comes to the next view
      module _ (v : ℕ) (r : RoundFacts K D) (here : find nat_cmp v y.rounds ≡ Some r) (up : n ≤ v)
          (above : x.current ≤ n) (none : (q : ℕ) → n ≤ q → q < v → find nat_cmp q y.rounds ≡ None) where
        abbrev next : StateFacts K L D
        next = left_at y (v, r) (standing same elect y (v, r))

        unmapped : {A B : Type 0} (f : A → B) (o : Option A) → option_map f o ≡ None → o ≡ None
        unmapped f None is = refl
        unmapped f (Some a) is = absurd (false≢true (sym (ap is_some is)))

        -- it has the standing that it had before the scan
        pub there : round_at x v ≡ Some r
        there = by_value (round_at x v) (leb x.current v && ltb v n) (late x.current v n up)
            (sym (passed.each v) ∙ here)
          where
            late : (c q m : ℕ) → m ≤ q → (leb c q && ltb q m) ≡ false
            late c q m up = grind (arith, nat_tests)

            by_value : (o : Option (RoundFacts K D)) (b : Bool) → b ≡ false
                → option_map (λ t. cond b (round_left t x.moment (stands v t)) t) o ≡ Some r → o ≡ Some r
            by_value None b outside is = absurd (false≢true (ap is_some is))
            by_value (Some t) b outside is =
                sym (ap (λ c. Some (cond c (round_left t x.moment (stands v t)) t)) outside) ∙ is

        pub silent_before : (q : ℕ) (t : RoundFacts K D) → x.current ≤ q → q < v → round_at x q ≡ Some t
            → is_answered (stands q t) ≡ false
        silent_before q t over below at = elim (cases_lt q n) [
          | inl early ↦ passed.silent q t over early at
          | inr late ↦
              let gone = unmapped (left_until n q) (round_at x q) (sym (passed.each q) ∙ none q late below) in
              absurd (false≢true (ap is_some (sym gone ∙ at)))
        ]

        moment_same : y.moment ≡ x.moment
        moment_same = ap (λ (z : StateFacts K L D). z.moment) passed.others

        left_others : (s : Standing D) → record (left_at y (v, r) s) { rounds = x.rounds } ≡ x
        left_others NothingToDo = passed.others
        left_others Invalid = passed.others
        left_others (Lacks w kind) = passed.others
        left_others (Ready d) = passed.others

        left_sorted : (s : Standing D) → is_sorted nat_cmp (left_at y (v, r) s).rounds ≡ true
        left_sorted NothingToDo = kept
        left_sorted Invalid = sorted-put y.rounds v _ kept
        left_sorted (Lacks w kind) = sorted-put y.rounds v _ kept
        left_sorted (Ready d) = sorted-put y.rounds v _ kept

        put_each : (t : RoundFacts K D) (q : ℕ)
            → find nat_cmp q (put nat_cmp v t y.rounds) ≡ cond (eqb q v) (Some t) (round_at y q)
        put_each t q = find-put nat_cmp nat_cmp_total q v t y.rounds
            ∙ ap (λ b. cond b (Some t) (round_at y q)) (is_eq-nat_cmp q v)

        left_each : (s : Standing D) (q : ℕ) → round_at (left_at y (v, r) s) q ≡ cond (eqb q v)
            (Some (round_left r y.moment s)) (round_at y q)
        left_each NothingToDo q = elim (cases_eq q v) [
          | inl at ↦ ap (λ k. find nat_cmp k y.rounds) at ∙ here
              ∙ sym (ap (λ b. cond b (Some r) (round_at y q)) (eq-eqb q v at))
          | inr apart ↦ sym (ap (λ b. cond b (Some r) (round_at y q)) (ne_eqb q v apart))
        ]
        left_each Invalid q = put_each _ q
        left_each (Lacks w kind) q = put_each _ q
        left_each (Ready d) q = put_each _ q

        at_view : round_at next v ≡ option_map (left_until (v + 1) v) (round_at x v)
        at_view =
            left_each (standing same elect y (v, r)) v
            ∙ ap (λ b. cond b (Some (round_left r y.moment (standing same elect y (v, r)))) (round_at y v))
            (eq-eqb v v refl)
            ∙ (λ i. Some (round_left r (moment_same i) (stands_same (v, r) i)))
            ∙ sym (ap (option_map (left_until (v + 1) v)) there
            ∙ ap (λ b. Some (cond b (round_left r x.moment (stands v r)) r))
            (at_next x.current v (omega (arith, up, above))))
          where
            at_next : (c q : ℕ) → c ≤ q → (leb c q && ltb q (q + 1)) ≡ true
            at_next c q over = grind (arith, nat_tests)

        elsewhere : (q : ℕ) → q ≢ v → (t : RoundFacts K D) → round_at x q ≡ Some t
            → (leb x.current q && ltb q n) ≡ (leb x.current q && ltb q (v + 1))
        elsewhere q apart t at = elim (cases_order q v) [
          | inl is ↦ absurd (apart is)
          | inr (inl low) ↦ elim (cases_lt q n) [
            | inl early ↦ ap (λ b. leb x.current q && b)
                (lt-ltb q n early ∙ sym (lt-ltb q (v + 1) (omega (arith, low))))
            | inr late ↦
                let gone = unmapped (left_until n q) (round_at x q) (sym (passed.each q) ∙ none q late low) in
                absurd (false≢true (ap is_some (sym gone ∙ at)))
          ]
          | inr (inr high) ↦ ap (λ b. leb x.current q && b)
              (le-ltb q n (omega (arith, high, up)) ∙ sym (le-ltb q (v + 1) (omega (arith, high))))
        ]

        next_each : (q : ℕ) → round_at next q ≡ option_map (left_until (v + 1) q) (round_at x q)
        next_each q = elim (cases_eq q v) [
          | inl at ↦ subst (λ k. round_at next k ≡ option_map (left_until (v + 1) k) (round_at x k)) (sym at) at_view
          | inr apart ↦
              left_each (standing same elect y (v, r)) q
              ∙ ap (λ b. cond b (Some (round_left r y.moment (standing same elect y (v, r)))) (round_at y q))
              (ne_eqb q v apart)
              ∙ passed.each q ∙ by_value q apart (round_at x q) refl
        ]
          where
            by_value : (q : ℕ) → q ≢ v → (o : Option (RoundFacts K D)) → round_at x q ≡ o
                → option_map (left_until n q) o ≡ option_map (left_until (v + 1) q) o
            by_value q apart None at = refl
            by_value q apart (Some t) at = ap (λ b. Some (cond b (round_left t x.moment (stands q t)) t))
                (elsewhere q apart t at)

        -- a view without an answer is passed
        pub continues : None ≡ answer_in same elect y (v, r) → IsScanned next (v + 1)
        continues unanswered =
            let quiet : is_answered (stands v r) ≡ false = sym (answered_by (v, r))
            ∙ ap is_some (sym (answer_same (v, r)) ∙ sym unanswered) in
            record {
              others = left_others (standing same elect y (v, r));
              each = next_each;
              silent = λ q t over below at. elim (cases_lt q v) [
                | inl low ↦ silent_before q t over low at
                | inr high ↦
                    let is : q ≡ v = omega (arith, below, high) in
                    let same_round : t ≡ r = ap (λ o. unwrap_or o r) (sym at ∙ ap (λ k. round_at x k) is ∙ there) in
                    (λ i. is_answered (stands (is i) (same_round i))) ∙ quiet
              ];
            }

        -- at the first view with an answer the scan ends
        module _ (below : v ≤ next_term_start x.terms.term_length x.current) (a : Verify D K)
            (is : Some a ≡ answer_in same elect y (v, r)) where
          inside : reach ordered v ≡ true
          inside = in_reach x.current (next_term_start x.terms.term_length x.current) v (omega (arith, up, above)) below

          told : is_answered (stands v r) ≡ true
          told = sym (answered_by (v, r)) ∙ ap is_some (sym (answer_same (v, r)) ∙ sym is)

          pub ends_after : next ≡ after_try_verify same elect x
          ends_after = all_left ordered next (v + 1) (left_others (standing same elect y (v, r)))
              (left_sorted (standing same elect y (v, r))) next_each alike
            where
              alike : (q : ℕ) (t : RoundFacts K D) → round_at x q ≡ Some t
                  → (leb x.current q && ltb q (v + 1)) ≡ was_scanned same elect x q
              alike q t at = elim (cases_lt q x.current) [
                | inl low ↦ outside x.current q (v + 1) low
                    ∙ sym
                    (unreached ordered q (not_below x.current (next_term_start x.terms.term_length x.current) q low))
                | inr over ↦ elim (cases_lt v q) [
                  | inl past ↦ beyond x.current q v past ∙ sym (ended ordered v r q there inside told past)
                  | inr up_to ↦
                      spanned x.current q v over up_to
                      ∙ sym (reached ordered q t at (in_reach x.current (next_term_start x.terms.term_length x.current)
                      q over (omega (arith, up_to, below)))
                      (λ p u from low here'. silent_before p u from (omega (arith, low, up_to)) here'))
                ]
              ]

          pub ends_answer : a ≡ verify_answer same elect x
          ends_answer =
              let at : find nat_cmp v (views_ahead x) ≡ Some r = find_ahead ordered v
              ∙ (λ i. cond (inside i) (there i) None) in
              let answer = is ∙ answer_same (v, r) in
              let first = first_given (answer_in same elect x) (views_ahead x) v r (ahead_rises ordered) at
              (ap is_some (sym answer)) (λ q t low found.
              let parts = some_here _ _ _ (sym (find_ahead ordered q) ∙ found) in
              let span = within x.current (next_term_start x.terms.term_length x.current) q parts.0 in
              silent_none (q, t) (silent_before q t span.0 low parts.1)) in
              sym (ap (λ o. option_map_or (λ f. f) o verify.Wait) (first ∙ sym answer))

      -- no view is left
      module _ (above : x.current ≤ n) (limit : n ≤ next_term_start x.terms.term_length x.current + 1)
          (none : (q : ℕ) → n ≤ q → q ≤ next_term_start x.terms.term_length x.current
          → find nat_cmp q y.rounds ≡ None) where
        nothing : (q : ℕ) → n ≤ q → q ≤ next_term_start x.terms.term_length x.current → round_at x q ≡ None
        nothing q late low = by_value (round_at x q) (sym (passed.each q) ∙ none q late low)
          where
            by_value : (o : Option (RoundFacts K D)) → option_map (left_until n q) o ≡ None → o ≡ None
            by_value None is = refl
            by_value (Some t) is = absurd (false≢true (sym (ap is_some is)))

        pub rests_after : y ≡ after_try_verify same elect x
        rests_after = all_left ordered y n passed.others kept passed.each alike
          where
            alike : (q : ℕ) (t : RoundFacts K D) → round_at x q ≡ Some t
                → (leb x.current q && ltb q n) ≡ was_scanned same elect x q
            alike q t at = elim (cases_lt q x.current) [
              | inl low ↦ outside x.current q n low
                  ∙ sym
                  (unreached ordered q (not_below x.current (next_term_start x.terms.term_length x.current) q low))
              | inr over ↦ elim (cases_lt q n) [
                | inl early ↦
                    spanned_to x.current q n over early
                    ∙ sym (reached ordered q t at (in_reach x.current (next_term_start x.terms.term_length x.current) q
                    over (omega (arith, early, limit)))
                    (λ p u from low here'. passed.silent p u from (omega (arith, low, early)) here'))
                | inr late ↦ elim (cases_lt (next_term_start x.terms.term_length x.current) q) [
                  | inl past ↦ beyond_to x.current q n late
                      ∙ sym (unreached ordered q
                      (not_beyond x.current (next_term_start x.terms.term_length x.current) q past))
                  | inr short ↦ absurd (false≢true (ap is_some (sym (nothing q late short) ∙ at)))
                ]
              ]
            ]

        pub rests_answer : verify.Wait ≡ verify_answer same elect x
        rests_answer =
            sym (ap (λ o. option_map_or (λ f. f) o verify.Wait)
            (nothing_given (answer_in same elect x) (views_ahead x) (views_ahead x)
            (found_each (views_ahead x) (ahead_rises ordered)) (λ q t found.
            let parts = some_here _ _ _ (sym (find_ahead ordered q) ∙ found) in
            let span = within x.current (next_term_start x.terms.term_length x.current) q parts.0 in
            silent_none (q, t) (elim (cases_lt q n) [
              | inl early ↦ passed.silent q t span.0 early parts.1
              | inr late ↦ absurd (false≢true (ap is_some (sym (nothing q late span.1) ∙ parts.1)))
            ]))))

    -- the same, by the views as they are looked up
    module _ (ordered : is_sorted nat_cmp x.rounds ≡ true) (y : StateFacts K L D) (n : ℕ) (passed : IsScanned y n)
        (kept : is_sorted nat_cmp y.rounds ≡ true) (above : x.current ≤ n) (high : ℕ)
        (top : high ≡ next_term_start x.terms.term_length x.current) where
      module _ (v : ℕ) (found : Some v ≡ option_map (λ e. e.0) (slice_get (views_within y n high) 0)) where
        abbrev at : (r : RoundFacts K D) × (find nat_cmp v y.rounds ≡ Some r) × (n ≤ v) × (v ≤ high)
            × ((q : ℕ) → n ≤ q → q < v → find nat_cmp q y.rounds ≡ None)
        at = first_there y.rounds n high v kept found

        round_is : round_of y v ≡ at.0
        round_is = ap (λ o. unwrap_or o (new_round y.me y.members (round_number y v))) at.1

        left_is : (z : StateFacts K L D) → z ≡ left_at y (v, round_of y v) (standing same elect y (v, round_of y v))
            → z ≡ left_at y (v, at.0) (standing same elect y (v, at.0))
        left_is z left = left ∙ ap (λ r. left_at y (v, r) (standing same elect y (v, r))) round_is

        pub visited_on : (z : StateFacts K L D)
            → z ≡ left_at y (v, round_of y v) (standing same elect y (v, round_of y v))
            → None ≡ answer_in same elect y (v, round_of y v) → IsScanned z (v + 1)
        visited_on z left none =
            subst (λ w. IsScanned w (v + 1)) (sym (left_is z left))
            (continues ordered y n passed kept v at.0 at.1 at.2 above at.4
            (none ∙ ap (λ r. answer_in same elect y (v, r)) round_is))

        pub visited_after : (z : StateFacts K L D) (a : Verify D K)
            → z ≡ left_at y (v, round_of y v) (standing same elect y (v, round_of y v))
            → Some a ≡ answer_in same elect y (v, round_of y v) → z ≡ after_try_verify same elect x
        visited_after z a left is =
            left_is z left
            ∙ ends_after ordered y n passed kept v at.0 at.1 at.2 above at.4 (omega (arith, at.3, top)) a
            (is ∙ ap (λ r. answer_in same elect y (v, r)) round_is)

        pub visited_answer : (a : Verify D K) → Some a ≡ answer_in same elect y (v, round_of y v)
            → a ≡ verify_answer same elect x
        visited_answer a is = ends_answer ordered y n passed kept v at.0 at.1 at.2 above at.4 (omega (arith, at.3, top))
            a (is ∙ ap (λ r. answer_in same elect y (v, r)) round_is)

      module _ (limit : n ≤ high + 1) (none : None ≡ option_map (λ e. e.0) (slice_get (views_within y n high) 0)) where
        empty : (q : ℕ) → n ≤ q → q ≤ next_term_start x.terms.term_length x.current → find nat_cmp q y.rounds ≡ None
        empty q late low = none_there y.rounds n high none q late (omega (arith, low, top))

        pub ended_after : y ≡ after_try_verify same elect x
        ended_after = rests_after ordered y n passed kept above (omega (arith, limit, top)) empty

        pub ended_answer : verify.Wait ≡ verify_answer same elect x
        ended_answer = rests_answer ordered y n passed kept above (omega (arith, limit, top)) empty
