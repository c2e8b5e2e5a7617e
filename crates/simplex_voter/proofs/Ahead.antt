-- A search for what to build visits the views near the current one, and then only the next term's start.
use Rattle.std.proofs.Common.{◌≡◌, ℕ, ◌+◌, ◌-◌, ◌<◌, ◌≤◌, ◌^◌, Bool, true, false, cond, ◌&&◌, leb, List, [], ◌∷◌, ◌++◌, filter, Option, Some, None, slice_get, is_some, refl, ap, sym, ◌∙◌, inl, inr, arith}
use Rattle.std.specs.Prelude.{min, option_and_then}
use Rattle.std.specs.List.{filter_map, cons_option}
use Rattle.std.specs.Ordering.{nat_cmp}
use Rattle.std.specs.FinMap.Entries.{is_sorted}
use Rattle.std.proofs.lemmas.Bool.{cases_lt, cases_eq, lt-leb, le-leb, false≢true}
use Rattle.simplex_view_maps.proofs.RisingEntries.{AllAbove, Rises, rises}
use Rattle.simplex_types.specs.Terms.{next_term_start}
use Rattle.simplex_round.specs.Round.{RoundFacts, should_propose}
use Rattle.simplex_voter.specs.declared.voter.propose.ProposalRequest.{ProposalRequest}
use Rattle.simplex_voter.specs.Facts.{StateFacts, Elect}
use Rattle.simplex_voter.specs.Windows.{is_admitted}
use Rattle.simplex_voter.specs.Parents.{find_parent}
use Rattle.simplex_voter.specs.ProposalRequests.{views_within, request_on, request_in, propose_answer}
use Rattle.simplex_voter.proofs.VerifyScan.{far_off}

within_is : (low high v : ℕ) → low ≤ v → v ≤ high → (leb low v && leb v high) ≡ true
within_is low high v above below = rw (le-leb low v above, le-leb v high below) refl

under_is : (low high v : ℕ) → v < low → (leb low v && leb v high) ≡ false
under_is low high v under = rw (lt-leb low v under) (none_then (leb v high))
  where
    none_then : (b : Bool) → (false && b) ≡ false
    none_then true = refl
    none_then false = refl

over_is : (low high v : ℕ) → high < v → (leb low v && leb v high) ≡ false
over_is low high v over = rw (lt-leb v high over) (then_none (leb low v))
  where
    then_none : (b : Bool) → (b && false) ≡ false
    then_none true = refl
    then_none false = refl

module _ {V B : Type 0} (h : ℕ × V → Option B) where
  abbrev span : ℕ → ℕ → List (ℕ × V) → List (ℕ × V)
  span low high es = filter (λ e. leb low e.0 && leb e.0 high) es

  none_within : (low high x : ℕ) (es : List (ℕ × V)) → high ≤ x → AllAbove x es → span low high es ≡ []
  none_within low high x [] up above = refl
  none_within low high x (e ∷ es) up above =
      rw (over_is low high e.0 (omega (arith, up, above.0))) (none_within low high x es up above.1)

  onto : (o : Option B) (bs cs : List B) → cons_option o (bs ++ cs) ≡ cons_option o bs ++ cs
  onto None bs cs = refl
  onto (Some b) bs cs = refl

  -- the views between give nothing
  in_two : (low near last : ℕ) → low ≤ near → near < last → (es : List (ℕ × V)) → Rises es
      → ((v : ℕ) (r : V) → near < v → v < last → h (v, r) ≡ None)
      → filter_map h (span low last es) ≡ filter_map h (span low near es) ++ filter_map h (span last last es)
  in_two low near last up short [] rises none = refl
  in_two low near last up short (e ∷ es) rises none =
      let rest = in_two low near last up short es rises.1 none in
      elim (cases_lt e.0 low) [
        | inl under ↦ rw (
          under_is low last e.0 under,
          under_is low near e.0 under,
          under_is last last e.0 (omega (arith, under, up, short)),
        ) rest
        | inr over ↦ elim (cases_lt near e.0) [
          | inr near' ↦
              rw (
                within_is low last e.0 over (omega (arith, near', short)),
                within_is low near e.0 over near',
                under_is last last e.0 (omega (arith, near', short)),
              )
              (ap (cons_option (h e)) rest ∙ onto (h e) (filter_map h (span low near es))
              (filter_map h (span last last es)))
          | inl past ↦ elim (cases_lt e.0 last) [
            | inl before ↦
                rw (
                  within_is low last e.0 over (omega (arith, before)),
                  over_is low near e.0 past,
                  under_is last last e.0 before,
                )
                (ap (λ o. cons_option o (filter_map h (span low last es))) (none e.0 e.1 past before) ∙ rest)
            | inr at_or_past ↦ elim (cases_eq e.0 last) [
              | inl at ↦
                  let empty : span low near es ≡ [] = none_within low near e.0 es (omega (arith, past)) rises.0 in
                  let others : filter_map h (span low last es) ≡ filter_map h (span last last es) = rest
                  ∙ ap (λ fs. filter_map h fs ++ filter_map h (span last last es)) empty in
                  rw (
                    within_is low last e.0 over (omega (arith, at)),
                    over_is low near e.0 past,
                    within_is last last e.0 (omega (arith, at)) (omega (arith, at)),
                    empty,
                  )
                  (ap (cons_option (h e)) others)
              | inr other ↦ rw (
                over_is low last e.0 (omega (arith, at_or_past, other)),
                over_is low near e.0 past,
                over_is last last e.0 (omega (arith, at_or_past, other)),
              ) rest
            ]
          ]
        ]
      ]

first_of_two : {B : Type 0} (bs cs : List B) → slice_get bs 0 ≡ None → slice_get (bs ++ cs) 0 ≡ slice_get cs 0
first_of_two [] cs none = refl
first_of_two (b ∷ bs) cs none = absurd (false≢true (sym (ap is_some none)))

first_of_first : {B : Type 0} (bs cs : List B) (b : B) → slice_get bs 0 ≡ Some b → slice_get (bs ++ cs) 0 ≡ Some b
first_of_first [] cs b is = absurd (false≢true (ap is_some is))
first_of_first (c ∷ bs) cs b is = is

module _ {K L D : Type 0} (same : D → D → Bool) (elect : Elect L) (x : StateFacts K L D) where
  no_request : (v : ℕ) (r : RoundFacts K D) → is_admitted x v ≡ false → request_in same elect x (v, r) ≡ None
  no_request v r not_admitted = rw not_admitted (by_test (should_propose r))
    where
      by_test : (b : Bool) → cond (false && b) (option_and_then (request_on same x v r) (find_parent same elect x v))
          None ≡ None
      by_test true = refl
      by_test false = refl

  module _ (ordered : is_sorted nat_cmp x.rounds ≡ true) (near last : ℕ)
      (near_is : near ≡ min (x.current + x.terms.optimistic_views) (2 ^ 64 - 1))
      (top : last ≡ next_term_start x.terms.term_length x.current) (room : last + 1 < 2 ^ 64)
      (short : near < last) where
    two : filter_map (request_in same elect x) (views_within x x.current last) ≡ filter_map (request_in same elect x)
        (views_within x x.current near) ++ filter_map (request_in same elect x) (views_within x last last)
    two = in_two (request_in same elect x) x.current near last (grind (arith, near_is, short, room)) short x.rounds
        (rises x.rounds ordered) (λ v r past before.
        no_request v r
        (far_off same elect x near v near_is past (omega (arith, before, room)) (omega (arith, before, top))))

    unfolded : slice_get (filter_map (request_in same elect x) (views_within x x.current last)) 0 ≡ propose_answer same
        elect x
    unfolding propose_answer
    unfolded = ap (λ t. slice_get (filter_map (request_in same elect x) (views_within x x.current t)) 0) top

    pub near_given : (request : ProposalRequest D K)
        → Some request ≡ slice_get (filter_map (request_in same elect x) (views_within x x.current near)) 0
        → Some request ≡ propose_answer same elect x
    near_given request is = sym (ap (λ bs. slice_get bs 0) two
        ∙ first_of_first _ (filter_map (request_in same elect x) (views_within x last last)) request (sym is))
        ∙ unfolded

    pub start_given : (answer : Option (ProposalRequest D K))
        → None ≡ slice_get (filter_map (request_in same elect x) (views_within x x.current near)) 0
        → answer ≡ slice_get (filter_map (request_in same elect x) (views_within x last last)) 0
        → answer ≡ propose_answer same elect x
    start_given answer none is = is ∙ sym (ap (λ bs. slice_get bs 0) two
        ∙ first_of_two _ (filter_map (request_in same elect x) (views_within x last last)) (sym none)) ∙ unfolded
