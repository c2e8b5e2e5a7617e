-- The laws of covering, by division: the views of one term have one index.
use Rattle.std.proofs.Common.{◌≡◌, ℕ, ◌+◌, ◌*◌, ◌/◌, ◌-◌, ◌<◌, ◌≤◌, true, refl, ap, sym, ◌∙◌, arith}
use Rattle.std.proofs.Math.Nat.{div-mul-le_self, lt-div-mul-add}
use Rattle.std.proofs.lemmas.Bool.{and_parts, le-leb, lt-leb, leb-true, eq-eqb, eqb-true}
use Rattle.simplex_types.specs.Terms.{term_start, term_end, next_term_start, covers}
use Rattle.simplex_types.specs.CoveringLaws.{CoveringLaws}
use Rattle.std.proofs.lemmas.Nat.{div-mul-add}

-- views of one term have one start
pub same_index : (T a m : ℕ) → a * T ≤ m → m < a * T + T → m / T ≡ a
same_index T a m low high =
    let e : m ≡ a * T + (m - a * T) = omega arith in
    let b : m - a * T < T = omega arith in
    ap (λ n. n / T) e ∙ div-mul-add a T (m - a * T) b

pub same_start : (T c w : ℕ) → 1 ≤ c → c ≤ w → w < next_term_start T c → term_start T w ≡ term_start T c
same_start T c w one up below =
    let d : (c - 1) / T * T ≤ c - 1 = div-mul-le_self (c - 1) T in
    ap (λ n. n * T + 1) (same_index T ((c - 1) / T) (w - 1) (omega arith) (omega arith))

-- a term starts at or below each of its views
pub start_below : (length view : ℕ) → 1 ≤ view → term_start length view ≤ view
start_below length view one = omega (arith, div-mul-le_self (view - 1) length)

-- a term ends at or above each of its views
pub end_above : (length view : ℕ) → 0 < length → 1 ≤ view → view ≤ term_end length view
end_above length view some one =
    let below : view - 1 < (view - 1) / length * length + length = lt-div-mul-add some in omega (arith, below)

-- a view between the start of another's term and that other is in its term
pub same_start_back : (length u view : ℕ) → 0 < length → 1 ≤ u → 1 ≤ view → term_start length view ≤ u → u ≤ view
    → term_start length u ≡ term_start length view
same_start_back length u view some one one' start up =
    let below : view - 1 < (view - 1) / length * length + length = lt-div-mul-add some in
    ap (λ n. n * length + 1)
    (same_index length ((view - 1) / length) (u - 1) (omega (arith, start)) (omega (arith, below, up)))

pub covers_from : (length u view : ℕ) → u ≤ view → term_start length u ≡ term_start length view
    → covers length u view ≡ true
covers_from length u view up same = rw (le-leb u view up, eq-eqb (term_start length u) (term_start length view) same)
    refl

pub covers_parts : (length u view : ℕ) → covers length u view ≡ true
    → (u ≤ view) × (term_start length u ≡ term_start length view)
covers_parts length u view h = let p = and_parts _ _ h in
    (leb-true u view p.0, eqb-true (term_start length u) (term_start length view) p.1)

pub ahead_from : (length u view : ℕ) → 0 < length → 1 ≤ u → covers length u view ≡ true
    → (u ≤ view) × (view ≤ term_end length u)
ahead_from length u view some one h =
    let p = covers_parts length u view h in
    (p.0, omega (arith, p.1, end_above length view some (omega (arith, p.0))))

pub from_ahead : (length u view : ℕ) → 1 ≤ u → u ≤ view → view ≤ term_end length u → 0 < length
    → covers length u view ≡ true
from_ahead length u view one up end some =
    covers_from length u view up (sym (same_start length u view one up (omega (arith, end))))

pub behind_from : (length u view : ℕ) → 1 ≤ u → covers length u view ≡ true → (term_start length view ≤ u) × (u ≤ view)
behind_from length u view one h =
    let p = covers_parts length u view h in (omega (arith, p.1, start_below length u one), p.0)

pub covering_laws : CoveringLaws
covering_laws = record {
  ahead = λ length u view some one. (ahead_from length u view some one, λ p. from_ahead length u view one p.0 p.1 some);
  behind = λ length u view some one one'. (
    behind_from length u view one,
    λ p. covers_from length u view p.1 (same_start_back length u view some one one' p.0 p.1),
  );
  genesis = λ length u one. rw (lt-leb u 0 (omega arith)) refl;
  onward = λ length u view later some one h up end.
      let p = covers_parts length u view h in
      let same : term_start length later ≡ term_start length view =
      same_start length view later (omega (arith, p.0)) up (omega (arith, end)) in
      covers_from length u later (omega (arith, p.0, up)) (p.1 ∙ sym same);
}
