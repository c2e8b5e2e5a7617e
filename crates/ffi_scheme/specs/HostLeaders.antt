-- Leaders by a table, or drawn by the host.
use Rattle.std.specs.Prelude.{ℕ, List, Option, Some, None, Bool, true, false, ◌≡◌, ◌<◌, ◌%◌, length, take, nat_lt, if◌then◌else◌, slice_index_or}
use Rattle.std.specs.Int.{w32, from_be_bytes}
use Rattle.std.proofs.Common.{ap, sym, ◌∙◌}
use Rattle.std.proofs.Math.Nat.{mod-lt}
use Rattle.simplex_types.specs.declared.types.window.Terms.{Terms}
use Rattle.simplex_types.specs.Terms.{term_index}
use Rattle.ffi_scheme.specs.declared.elector.HostElector.{HostElector}

-- how many members there are, how views are divided into terms, and the table
abbrev pub host_members : HostElector → ℕ
host_members e = e.count

abbrev pub host_terms : HostElector → Terms
host_terms e = e.terms

abbrev pub table_of : HostElector → List ℕ
table_of e = e.leaders.items

-- leaders are known before any certificate: only by the table
abbrev pub is_early : HostElector → Bool
is_early e = e.early

-- the table's entry for a view: its members lead round-robin, a term each
abbrev pub in_table : HostElector → ℕ → ℕ
in_table e view = slice_index_or e.leaders.items (term_index e.terms.term_length view % length e.leaders.items) 0

-- the number in the first four bytes, big-endian; `None` if there are fewer
abbrev pub number_in : List ℕ → Option ℕ
number_in bytes = if nat_lt (length bytes) 4 then None else Some (from_be_bytes w32 (take 4 bytes))

-- the number that a certificate names, if leaders are drawn
abbrev pub named_by : Bool → Option (List ℕ) → Option ℕ
named_by true seed = None
named_by false None = None
named_by false (Some bytes) = number_in bytes

-- the named number, or else the table's
abbrev pub or_entry : Option ℕ → ℕ → ℕ
or_entry (Some number) entry = number
or_entry None entry = entry

-- the leader of a view, after a certificate of these bytes
abbrev pub leader_after : HostElector → ℕ → Option (List ℕ) → ℕ
leader_after e view seed = or_entry (named_by e.early seed) (in_table e view) % e.count

pub elected_below : (e : HostElector) (view : ℕ) (seed : Option (List ℕ)) → leader_after e view seed < host_members e
elected_below e view seed = mod-lt (or_entry (named_by e.early seed) (in_table e view)) e.has_members

pub early_alike : (e : HostElector) (view : ℕ) (seed : Option (List ℕ)) → is_early e ≡ true
    → leader_after e view seed ≡ leader_after e view None
early_alike e view seed early =
    let with_seed = ap (λ b. or_entry (named_by b seed) (in_table e view) % e.count) early in
    let without = ap (λ b. or_entry (named_by b None) (in_table e view) % e.count) early in
    with_seed ∙ sym without
