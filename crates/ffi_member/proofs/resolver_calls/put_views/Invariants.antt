-- The loop of `put_views`: the views so far and those that are left.
use Rattle.std.proofs.Common.{◌≡◌, ◌++◌, length}
use Rattle.ffi_member.specs.ResolverHandles.{view_bytes}
use Rattle.ffi_member.proofs.resolver_calls.put_views.Given as goal

abbrev pub invariant-loop-view : goal.invariant-loop-view
invariant-loop-view l = l.out.items ++ view_bytes l.rest ≡ l.initial.out.items ++ view_bytes l.views.keys

abbrev pub decreases-loop-view : goal.decreases-loop-view
decreases-loop-view l = length l.rest
