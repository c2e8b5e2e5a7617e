-- No network is stuck: its honest members meet below a start, abandon term after term, and finalize the start.
use Rattle.std.proofs.Common.{◌≡◌, sym, inl, inr, ℕ, zero, suc, ◌+◌, ◌<◌, ◌≤◌, Bool, true, arith}
use Rattle.std.proofs.lemmas.Bool.{cases_eq}
use Rattle.simplex_types.specs.Terms.{term_start, next_term_start}
use Rattle.simplex_view_maps.proofs.Gaps.{next_above}
use Rattle.simplex_voter.specs.Facts.{Elect}
use Rattle.laws_progress.specs.NotStuck.{NoNetworkIsStuck}
use Rattle.laws_progress.specs.SharedView.{terms_on}
use Rattle.laws_progress.proofs.networks.CommonViews.{who_meets_goes_on}
use Rattle.laws_progress.proofs.networks.Met.{next_before, have_met, some}

-- the start is some terms on
pub terms_to : (length : ℕ) → 0 < length → (bound view start : ℕ) → start < view + bound → 1 ≤ view → view < start
    → start ≡ term_start length start → (terms : ℕ) × (start ≡ terms_on length (suc terms) view)
terms_to length some zero view start near one below is_term_start = absurd (omega (arith, near, below))
terms_to length some (suc bound) view start near one below is_term_start =
    elim (cases_eq (next_term_start length view) start) [
      | inl here ↦ (0, sym here)
      | inr apart ↦
          (let next = next_above length view some one in
          let up_to = next_before length view start one below is_term_start in
          let rest = terms_to length some bound (next_term_start length view) start (omega (arith, near, next))
          (omega (arith, next)) (omega (arith, up_to, apart)) is_term_start in
          (suc rest.0, rest.1))
    ]

pub no_network_is_stuck : {L D : Type 0} (K : Type 0) (same : D → D → Bool)
    (decides : (d e : D) → same d e ≡ true → d ≡ e) (reflexive : (d : D) → same d d ≡ true) (elect : Elect L)
    → NoNetworkIsStuck K same elect
no_network_is_stuck K same decides reflexive elect term_length epoch leader start elector network payload good may =
    let met = have_met same decides elect term_length epoch leader start elector network good may in
    let terms = terms_to term_length (some same decides elect term_length epoch leader start elector network good may)
    start met.view start (omega (arith, met.above)) met.above met.below may.is_term_start in
    let on = who_meets_goes_on K same decides reflexive elect term_length epoch leader met.parent met.view start terms.0
    elector network met.later payload good may.few_faulty met.meets terms.1 may.is_term_start may.small may.elected
    may.honest_leader in
    (on.0, met.parent, on.1)
