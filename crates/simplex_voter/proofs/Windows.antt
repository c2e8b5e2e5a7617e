-- The tests of the windows are those of the views.
use Rattle.std.proofs.Common.{◌≡◌, ◌⊎◌, ℕ, ◌-◌, ◌<◌, ◌≤◌, true, ◌&&◌, ◌||◌, ltb, leb, eqb, arith}
use Rattle.std.specs.Prelude.{◌↔◌, max}
use Rattle.std.proofs.lemmas.Bool.Decides.{nat_tests}
use Rattle.simplex_types.specs.Terms.{term_end, next_term_start}
use Rattle.simplex_types.specs.Window.{AdmitsOutbound, AdmitsCertificate, AdmitsVote}
use Rattle.simplex_voter.specs.Facts.{StateFacts}
use Rattle.simplex_voter.specs.Windows.{admits_outbound, admits_certificate, admits_vote, viewport, min_active}

outbound_by : (last next optimistic most current view : ℕ)
    → ((leb 1 view && leb view current || ltb current view && leb view last && leb (view - current) optimistic || eqb
    view next && leb (view - current) most) ≡ true)
    → ((1 ≤ view) × (view ≤ current)) ⊎ ((current < view) × (view ≤ last) × (view - current ≤ optimistic))
    ⊎ ((view ≡ next) × (view - current ≤ most))
outbound_by last next optimistic most current view h = grind (arith, nat_tests)

outbound_to : (last next optimistic most current view : ℕ)
    → ((1 ≤ view) × (view ≤ current)) ⊎ ((current < view) × (view ≤ last) × (view - current ≤ optimistic))
    ⊎ ((view ≡ next) × (view - current ≤ most))
    → ((leb 1 view && leb view current || ltb current view && leb view last && leb (view - current) optimistic || eqb
    view next && leb (view - current) most) ≡ true)
outbound_to last next optimistic most current view h = grind (arith, nat_tests)

pub outbound_agrees : (length optimistic current view : ℕ)
    → (admits_outbound length optimistic current view ≡ true) ↔ AdmitsOutbound length optimistic current view
outbound_agrees length optimistic current view = (
  outbound_by (term_end length current) (next_term_start length current) optimistic (max 1 optimistic) current view,
  outbound_to (term_end length current) (next_term_start length current) optimistic (max 1 optimistic) current view,
)

certificate_by : (low view : ℕ) → (leb 1 view && leb low view) ≡ true → (1 ≤ view) × (low ≤ view)
certificate_by low view h = grind (arith, nat_tests)

certificate_to : (low view : ℕ) → (1 ≤ view) × (low ≤ view) → (leb 1 view && leb low view) ≡ true
certificate_to low view h = grind (arith, nat_tests)

vote_by : (low last view : ℕ) → (leb 1 view && leb low view && leb view last) ≡ true
    → ((1 ≤ view) × (low ≤ view)) × (view ≤ last)
vote_by low last view h = grind (arith, nat_tests)

vote_to : (low last view : ℕ) → ((1 ≤ view) × (low ≤ view)) × (view ≤ last)
    → (leb 1 view && leb low view && leb view last) ≡ true
vote_to low last view h = grind (arith, nat_tests)

module _ {K L D : Type 0} (x : StateFacts K L D) (v : ℕ) where
  pub certificate_agrees : (admits_certificate x v ≡ true) ↔ AdmitsCertificate (viewport x) v
  certificate_agrees = (certificate_by (min_active x) v, certificate_to (min_active x) v)

  pub vote_agrees : (admits_vote x v ≡ true) ↔ AdmitsVote (viewport x) v
  vote_agrees =
      let last = next_term_start x.terms.term_length x.current in
      (vote_by (min_active x) last v, vote_to (min_active x) last v)
