-- Changes of the views that wait for certification, as changes of a state's facts.
use Rattle.std.proofs.Common.{◌≡◌, ℕ, Bool, true, ltb, leb, List, [], ◌∷◌, Option, filter, refl, arith, ap, sym, ◌∙◌}
use Rattle.std.proofs.lemmas.Bool.Decides.{nat_tests}
use Rattle.std.specs.Ordering.{nat_cmp}
use Rattle.std.specs.FinMap as map
use Rattle.std.specs.Prelude.{map as map_list}
use Rattle.std.specs.List.{filter_map, cons_option}
use Rattle.std.specs.BTreeSet.{insert_key}
use Rattle.simplex_types.specs.declared.types.messages.Proposal.{Proposal}
use Rattle.simplex_voter.specs.declared.voter.candidates.CertificateFetch.{CertificateFetch}
use Rattle.simplex_voter.specs.Facts.{StateFacts, Elect}
use Rattle.simplex_view_maps.specs.Tracked.{at_or_above}
use Rattle.simplex_view_maps.proofs.Maps.{entries-retain_keys}
use Rattle.simplex_voter.specs.Certification.{named_also, offered_of, fetched_of, candidates_answer, after_candidates}
use Rattle.simplex_voter.proofs.Containers.{keys-insert}
use Rattle.simplex_voter.proofs.RoundsKept.{keys_empty}

any_view : (v : ℕ) → leb 0 v ≡ true
any_view v = grind (arith, nat_tests)

over_views : {V B : Type 0} (h : ℕ → Option B) (es : List (ℕ × V))
    → filter_map (λ e. h e.0) (filter (λ e. leb 0 e.0) es) ≡ filter_map h (map_list (λ e. e.0) es)
over_views h [] = refl
over_views h (e ∷ es) = rw (any_view e.0) (ap (cons_option (h e.0)) (over_views h es))

-- the values of a set's views, by its entries
each_view : {V B : Type 0} (m : map.FinMap nat_cmp V) (views : List ℕ) (h : ℕ → Option B) → views ≡ map.keys m
    → filter_map (λ e. h e.0) (map.entries (at_or_above m 0)) ≡ filter_map h views
each_view m views h shown =
    ap (filter_map (λ e. h e.0)) (entries-retain_keys m (λ u. leb 0 u)) ∙ over_views h (map.entries m)
    ∙ ap (filter_map h) (sym shown)

module _ {K L D : Type 0} where
  pub named_shown : (x : StateFacts K L D) (m new : map.FinMap nat_cmp (Unit {0})) (v : ℕ) → x.named ≡ map.keys m
      → ltb x.finalized v ≡ true → new ≡ map.insert m v tt → record x { named = map.keys new } ≡ named_also x v
  named_shown x m new v shown above is =
      rw above (ap (λ ks. record x { named = ks })
      (ap map.keys is ∙ keys-insert m v tt ∙ ap (λ ks. insert_key nat_cmp ks v) (sym shown)))

  pub forgotten_shown : (x : StateFacts K L D) (m new : map.FinMap nat_cmp (Unit {0})) → x.named ≡ map.keys m
      → new ≡ map.empty → record x { named = map.keys new } ≡ after_candidates x
  forgotten_shown x m new shown is = ap (λ ks. record x { named = ks }) (keys_empty new is)

  module _ (same : D → D → Bool) (elect : Elect L) where
    pub candidates_shown : (x : StateFacts K L D) (m : map.FinMap nat_cmp (Unit {0})) (v : ℕ) (es : List (ℕ × Unit {0}))
        (offers : List (Proposal D)) (fetches : List CertificateFetch) → x.named ≡ map.keys m → v ≡ 0
        → es ≡ map.entries (at_or_above m v) → offers ≡ filter_map (λ e. offered_of same elect x e.0) es
        → fetches ≡ filter_map (λ e. fetched_of elect x e.0) es → (offers, fetches) ≡ candidates_answer same elect x
    candidates_shown x m v es offers fetches shown zero is offered fetched =
        let all : es ≡ map.entries (at_or_above m 0) = is ∙ ap (λ w. map.entries (at_or_above m w)) zero in
        let o = offered ∙ ap (filter_map (λ e. offered_of same elect x e.0)) all
        ∙ each_view m x.named (offered_of same elect x) shown in
        let f = fetched ∙ ap (filter_map (λ e. fetched_of elect x e.0)) all
        ∙ each_view m x.named (fetched_of elect x) shown in
        λ i. (o i, f i)
