-- How the contract of `new` follows: the keys are the numbers below the count, so the signer has one.
use Rattle.std.proofs.Common.{◌++◌, [], ◌∷◌, arith, ap, ◌∙◌, sym}
use Rattle.std.specs.Prelude.{length}
use Rattle.std.proofs.lemmas.List.FromFn.{map-range_with_len_more, length-map-range_with_len}
use Rattle.ffi_scheme.specs.Host.{host_key_in}
use Rattle.ffi_scheme.proofs.scheme.HostScheme.new.Goals as goal

pub loop-index-preserved : goal.loop-index-preserved
loop-index-preserved c =
    let key_of = host_key_in c.args.namespace in
    c.in_ok-push.ensures.items ∙ (ap (λ keys. keys ++ key_of c.loop-index.index ∷ []) c.loop-index.invariant
    ∙ sym (map-range_with_len_more key_of 0 c.loop-index.index c.loop-index.index (omega arith)))

pub invariant_of-result : goal.invariant_of-result
invariant_of-result c =
    let key_of = host_key_in c.args.namespace in
    let counted = ap length c.loop-index.invariant ∙ length-map-range_with_len key_of 0 c.loop-index.index in
    record { signer_is_member = λ m e. omega (arith, counted, c.requires m e, c.loop-index-test.false) }
