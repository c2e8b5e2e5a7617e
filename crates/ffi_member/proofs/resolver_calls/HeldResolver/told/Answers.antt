-- How the contract of `told` follows: the certificate of the flat numbers is passed, and its effects are stored.
use Rattle.std.proofs.Common.{◌≡◌, ◌<◌, ◌≤◌, inl, inr, refl, sym, arith}
use Rattle.std.proofs.lemmas.Grind.{common_steps}
use Rattle.simplex_types.specs.Certificates.{certificate_facts}
use Rattle.simplex_codec.specs.Digests.{bytes_in_digest}
use Rattle.ffi_scheme.specs.Host.{certificate_bytes}
use Rattle.simplex_resolver.specs.Steps.{highest_view, update}
use Rattle.ffi_member.specs.ResolverHandles.{IsFlatCertificate, highest_passed}
use Rattle.ffi_member.proofs.resolver_calls.HeldResolver.told.Goals as goal

pub returns-in-Ok-Some : goal.returns-in-Ok-Some
returns-in-Ok-Some c =
    let flat = c.args.flat.now in let is = c.in-Ok-Some.field-0-is in
    let handed = certificate_facts certificate_bytes c.in-Ok-Some.it in
    let kind : (0 < flat.kind) × (flat.kind < 4) = rw is at c.in-Ok-Some.ensures.kind in
    let view : 1 ≤ flat.proposal.round.view = grind (arith, common_steps, c.if-flat-eq0.false) in
    let made : IsFlatCertificate flat c.args.certificate.now handed = rw is at c.in-Ok-Some.ensures.made in
    let highest : highest_view c.in-Ok-Some.it ≡ highest_passed flat = rw is at c.in-Ok-Some.ensures.highest in
    inr (
      (kind.0, omega (arith, kind.1), c.in-Some.ensures.1, view),
      (update (bytes_in_digest {n = 32}) handed, inl (handed, made, refl), rw (sym highest) c.updated.ensures),
    )
