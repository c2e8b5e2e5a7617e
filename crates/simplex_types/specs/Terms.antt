-- The terms of views: views from 1 on are in terms of `length` views; view 0, genesis, is in none.
use Rattle.std.specs.Prelude.{ℕ, ◌+◌, ◌-◌, ◌*◌, ◌/◌, ◌<◌, ◌≤◌, ◌^◌, Bool, ◌&&◌, ◌==◌, nat_le}

-- the number of the term of a view
abbrev pub term_index : ℕ → ℕ → ℕ
term_index length view = (view - 1) / length

-- the first view of a view's term
abbrev pub term_start : ℕ → ℕ → ℕ
term_start length view = term_index length view * length + 1

-- the last view of a view's term
abbrev pub term_end : ℕ → ℕ → ℕ
term_end length view = term_start length view + length - 1

-- the first view of the term after a view's term
abbrev pub next_term_start : ℕ → ℕ → ℕ
next_term_start length view = term_end length view + 1

-- the view is not genesis, and its term's end and the next start are numbers of 64 bits
abbrev pub HasTerm : ℕ → Type 0
HasTerm view = (1 ≤ view) × (view ≤ 2 ^ 64 - 2 ^ 33)

-- a view that a certificate may have
abbrev pub IsVotable : ℕ → Type 0
IsVotable view = (1 ≤ view) × (view < 2 ^ 63)

-- whether a nullification of the view `u` covers a view: it is not above, and in the same term
abbrev pub covers : ℕ → ℕ → ℕ → Bool
covers length u view = nat_le u view && (term_start length u == term_start length view)
