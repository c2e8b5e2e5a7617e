-- The value behind a handle.
use Rattle.std.specs.Prelude.{◌≡◌, Option, Some, None}
use Rattle.std.specs.Coded.{Coded, coded_option}
use base.Fml.{Fml, ftrue, fex, fsep}
use base.Fraction.{full_share}
use denote.RawPtr.{Ptr, block_ptr, null_ptr, Testable, in_block, lies_at}
use Rattle.std.specs.Global.{Global}
use Rattle.std_alloc.specs.Box.Ownership.{box_owns}
use Rattle.std_heap.specs.contracts.impls.GlobalAllocator.TheImpl as global
use Rattle.ffi_member.specs.declared.held.Held.{Held}
use Rattle.ffi_member.specs.contracts.held.Held as held
use Rattle.ffi_member.specs.declared.resolver_calls.HeldResolver.{HeldResolver}
use Rattle.ffi_member.specs.contracts.resolver_calls.HeldResolver as resolver
use Rattle.ffi_engine.specs.declared.held.HeldEngine.{HeldEngine}
use Rattle.ffi_engine.specs.contracts.held.HeldEngine as engine

-- a fact, as a formula
abbrev pub fact_formula : Type 0 → Fml
fact_formula P = fex P (λ _. ftrue)

-- a handle: null; or the member is at the pointer, and C may not touch it, and the pointer can be compared with null
abbrev pub held_at : Ptr → Held → Fml
held_at null_ptr now = ftrue
held_at (block_ptr b o) now =
    fsep (fact_formula (Testable (block_ptr b o))) (lies_at held.the_row full_share (block_ptr b o) now)

-- some member is behind the handle of which this is true; or the handle is null, and this is returned
abbrev pub member_left_at : Ptr → Type 0 → (Held → Type 0) → Fml
member_left_at null_ptr answered P = fact_formula answered
member_left_at (block_ptr b o) answered P = fex Held (λ now. fsep (fact_formula (P now)) (held_at (block_ptr b o) now))

-- a handle: null; or the member is at the pointer, with the right to free its block
abbrev pub owned_at : Global → Ptr → Held → Fml
owned_at alloc null_ptr now = ftrue
owned_at alloc (block_ptr b o) now =
    fsep (fact_formula (Testable (block_ptr b o)))
    (box_owns (global.ghosts.dealloc_token alloc) held.the_row (block_ptr b o) now)

-- the allocator of the program: it has no bytes, and there is one
abbrev pub heap : Global
heap = record { memory = record { seal = tt } }

-- what a start has written: nothing yet, and there may be anything; or a handle that is not null
abbrev pub passed_at : Ptr → Option Held → Fml
passed_at at None = ftrue
passed_at at (Some now) = in_block at (owned_at heap at now)

-- how a place of a handle stores the value behind it
abbrev pub coded_held : Coded (Option Held)
coded_held = coded_option held.the_row.coded

-- the same for a resolver
abbrev pub resolver_at : Ptr → HeldResolver → Fml
resolver_at null_ptr now = ftrue
resolver_at (block_ptr b o) now =
    fsep (fact_formula (Testable (block_ptr b o))) (lies_at resolver.the_row full_share (block_ptr b o) now)

abbrev pub resolver_left_at : Ptr → Type 0 → (HeldResolver → Type 0) → Fml
resolver_left_at null_ptr answered P = fact_formula answered
resolver_left_at (block_ptr b o) answered P =
    fex HeldResolver (λ now. fsep (fact_formula (P now)) (resolver_at (block_ptr b o) now))

abbrev pub resolver_owned_at : Global → Ptr → HeldResolver → Fml
resolver_owned_at alloc null_ptr now = ftrue
resolver_owned_at alloc (block_ptr b o) now =
    fsep (fact_formula (Testable (block_ptr b o)))
    (box_owns (global.ghosts.dealloc_token alloc) resolver.the_row (block_ptr b o) now)

abbrev pub resolver_passed_at : Ptr → Option HeldResolver → Fml
resolver_passed_at at None = ftrue
resolver_passed_at at (Some now) = in_block at (resolver_owned_at heap at now)

abbrev pub coded_resolver : Coded (Option HeldResolver)
coded_resolver = coded_option resolver.the_row.coded

-- the same for an engine
abbrev pub engine_at : Ptr → HeldEngine → Fml
engine_at null_ptr now = ftrue
engine_at (block_ptr b o) now =
    fsep (fact_formula (Testable (block_ptr b o))) (lies_at engine.the_row full_share (block_ptr b o) now)

abbrev pub engine_left_at : Ptr → Type 0 → (HeldEngine → Type 0) → Fml
engine_left_at null_ptr answered P = fact_formula answered
engine_left_at (block_ptr b o) answered P =
    fex HeldEngine (λ now. fsep (fact_formula (P now)) (engine_at (block_ptr b o) now))

abbrev pub engine_owned_at : Global → Ptr → HeldEngine → Fml
engine_owned_at alloc null_ptr now = ftrue
engine_owned_at alloc (block_ptr b o) now =
    fsep (fact_formula (Testable (block_ptr b o)))
    (box_owns (global.ghosts.dealloc_token alloc) engine.the_row (block_ptr b o) now)

abbrev pub engine_passed_at : Ptr → Option HeldEngine → Fml
engine_passed_at at None = ftrue
engine_passed_at at (Some now) = in_block at (engine_owned_at heap at now)

abbrev pub coded_engine : Coded (Option HeldEngine)
coded_engine = coded_option engine.the_row.coded

-- nothing was changed, and this was read
abbrev pub IsRead : {A : Type 0} → A → A → Type 0 → Type 0
IsRead old new is = (new ≡ old) × is
