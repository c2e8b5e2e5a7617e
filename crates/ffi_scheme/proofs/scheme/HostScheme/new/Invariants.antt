-- The loop of `new`: the keys below the index.
use Rattle.std.proofs.Common.{◌≡◌}
use Rattle.ffi_scheme.specs.Host.{host_keys_in}
use Rattle.ffi_scheme.proofs.scheme.HostScheme.new.Given as goal

abbrev pub invariant-loop-index : goal.invariant-loop-index
invariant-loop-index l = l.keys.items ≡ host_keys_in l.namespace l.index
