-- The words of proofs about raw pointers, step by step, in one place.
pub use Rattle.std.proofs.Common.{◌≡◌, ℕ, ◌≤◌, ◌<◌, ◌^◌, length, List, [], ◌∷◌, ◌++◌, refl, sym, ap, ◌∙◌, subst, w32, w64, MutBor, arith}
pub use Rattle.std.proofs.raw_atomic.Walks.{proved}
pub use base.Fraction.{full_share}
pub use base.Logic.{id⊢}
pub use base.Fml.{Fml, Lft, ftrue, flft, fres, flent, fex, fsep}
pub use mir.Syntax.{named}
pub use mir.Val.{Val, vint, vptr}
pub use contract.Monad.{fact}
pub use contract.Running.{tables}
pub use types.Kit.{‵, raw, ◌⊛◌, some, later, prop, at_ret, ◌$◌, ◌∵◌, !, qed, done, move, keep, drop, use1, use2, use3, split, join, fsplit, fjoin, feq_l, fpack, pick, await, rewrite, regoal, suffices, frame, group}
pub use types.Tokens.{lft_new, lft_end}
pub use types.Run.{enter, of_opd, addr, stop, no_more, and_then, assigns, first, blocks, exec, returns}
pub use types.ByLocal.{alloc_all, pass_all, free_all, look_at, get, through, sets, sets_last, lands_as, env}
pub use denote.Builtin.{u64, u32, u8, RefOf, SliceRefOf}
pub use denote.Exit.{yes}
pub use denote.Laws.{Is, shows}
pub use denote.Lend.{lends_ref, ref_back}
pub use types.SemTy.{Body}
pub use denote.Memory.{mem}
pub use denote.Plain.{uint_Makes, uint_vals, uint_Tells}
pub use denote.RawPtr.{Ptr, RawPtr, block_ptr, lies_at, in_a_block, rawptr_vals, rawptr_Tells}
pub use denote.Ref.{MutRef, mut_vals, shr_vals, shr_Tells}
pub use denote.Slice.{shr_slice_vals, shr_slice_Tells}
pub use denote.RattleType.{owns}
pub use denote.Signature.{plain, types_at}
pub use denote.Steps.{nothing, owned, heard, only, peeks}
pub use denote.Triple.Call.{calls_at}
pub use denote.Triple.Clauses.{lasts, Lasts}
pub use denote.Triple.Entry.{on_entry}
pub use denote.Triple.Spec.{triple_of}
pub use denote.Triple.Table.{framed}
pub use denote.Triple.Walked.{Stays, walk_of, says, stay_dropped, Goes-dropped, ends_at}
pub use Rattle.std.proofs.Common.{inl, inr}
pub use lib.Dec.{lit<}
pub use types.Kit.{fpick}
pub use types.Run.{bin, lit, skips, branches, returns_within}
pub use denote.RawPtr.{null_ptr, Testable, tests_null}
pub use Rattle.ffi_exports.proofs.Nulls.{null_or_not}
