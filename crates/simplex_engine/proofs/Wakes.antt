-- The moment at which an engine wakes is one, and before it neither the timeout nor a fetch is due.
use Rattle.std.proofs.Common.{◌≡◌, ◌∙◌, sym, ap, refl, ℕ, ◌≤◌, ◌<◌, min, List, [], ◌∷◌, length, get_or, Option, Some, None, arith}
use Rattle.std.specs.Prelude.{All, nat_le}
use Rattle.std.specs.Option.{option_map_or}
use Rattle.std.proofs.lemmas.Bool.{leb-true}
use Rattle.std.proofs.lemmas.List.Quantifiers.{position-Some}
use Rattle.engine_fetches.specs.declared.fetches.Fetch.{Fetch}
use Rattle.engine_fetches.specs.Fetches.{IsEarliest, due_at}
use Rattle.engine_planner.specs.PlanStates.{IsWake}

-- fetches have one earliest moment
earliest_once : (wanted : List Fetch) (one other : Option ℕ) → IsEarliest wanted one → IsEarliest wanted other
    → one ≡ other
earliest_once wanted None None none empty = refl
earliest_once wanted None (Some b) none (any, each) = absurd (omega (arith, any.2, ap length none))
earliest_once wanted (Some a) None (any, each) none = absurd (omega (arith, any.2, ap length none))
earliest_once wanted (Some a) (Some b) (any, each) (again, all) =
    let below : a ≤ b = omega (arith, each again.0 again.1 again.2, ap (λ (f : Fetch). f.moment) again.3, again.4) in
    let above : b ≤ a = omega (arith, all any.0 any.1 any.2, ap (λ (f : Fetch). f.moment) any.3, any.4) in
    let one : a ≡ b = omega (arith, below, above) in
    ap Some one

pub wake_once : (wanted : List Fetch) (timeout one other : ℕ) → IsWake wanted timeout one
    → IsWake wanted timeout other → one ≡ other
wake_once wanted timeout one other (at, earliest, is) (again, least, so) =
    is ∙ ap (λ asking. option_map_or (λ moment. min moment timeout) asking timeout)
    (earliest_once wanted at again earliest least) ∙ sym so

-- none is due before a moment where all are due then or later
none_due : (now moment : ℕ) (wanted : List Fetch) → now < moment → All (λ fetch. moment ≤ fetch.moment) wanted
    → due_at now wanted ≡ None
none_due now moment [] before all = refl
none_due now moment (first ∷ rest) before all = by_place (due_at now (first ∷ rest)) refl
  where
    by_place : (place : Option ℕ) → due_at now (first ∷ rest) ≡ place → place ≡ None
    by_place None is = refl
    by_place (Some at) is =
        let found = position-Some (λ (fetch : Fetch). nat_le fetch.moment now) (first ∷ rest) at first is in
        let due : (get_or (first ∷ rest) at first).moment ≤ now = leb-true _ now found.1 in
        absurd (omega (arith, all at first found.0, due, before))

-- before the wake the timeout lies ahead, and no fetch is due
pub none_due_before : (now timeout wake : ℕ) (wanted : List Fetch) → IsWake wanted timeout wake → now < wake
    → (now < timeout) × (due_at now wanted ≡ None)
none_due_before now timeout wake wanted (None, earliest, is) before =
    (omega (arith, is, before), ap (due_at now) earliest)
none_due_before now timeout wake wanted (Some at, earliest, is) before =
    (omega (arith, is, before), none_due now at wanted (omega (arith, is, before)) earliest.1)
