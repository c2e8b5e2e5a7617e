-- The views that this member may work in are near the current one.
use Rattle.std.proofs.Common.{◌≡◌, ℕ, ◌+◌, ◌^◌, ◌<◌, ◌≤◌, true, inl, inr, arith}
use Rattle.simplex_types.specs.Terms.{next_term_start}
use Rattle.simplex_types.proofs.Covers.{start_below, end_above}
use Rattle.simplex_voter.specs.Facts.{StateFacts}
use Rattle.simplex_voter.specs.Windows.{is_admitted}
use Rattle.simplex_voter.proofs.Windows.{outbound_agrees}

pub next_near : (length current : ℕ) → 0 < length → length < 2 ^ 32 → 1 ≤ current → current ≤ 2 ^ 63 + 2 ^ 32
    → (current ≤ next_term_start length current) × (next_term_start length current < 2 ^ 63 + 2 ^ 33)
next_near length current some short started near =
    let start = start_below length current started in
    let end = end_above length current some started in
    (omega (arith, end), omega (arith, start, short, near))

pub admitted_near : {K L D : Type 0} (x : StateFacts K L D) (v : ℕ) → is_admitted x v ≡ true → 0 < x.terms.term_length
    → x.terms.term_length < 2 ^ 32 → 1 ≤ x.current → x.current ≤ 2 ^ 63 + 2 ^ 32 → v < 2 ^ 63 + 2 ^ 33
unfolding is_admitted
admitted_near x v admitted some short started near =
    let next = next_near x.terms.term_length x.current some short started near in
    elim ((outbound_agrees x.terms.term_length x.terms.optimistic_views x.current v).0 admitted) [
      | inl below ↦ omega (arith, below.1, near)
      | inr (inl within) ↦ omega (arith, within.1, next.1)
      | inr (inr at) ↦ omega (arith, at.0, next.1)
    ]
