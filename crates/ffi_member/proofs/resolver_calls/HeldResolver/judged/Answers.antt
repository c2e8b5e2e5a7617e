-- How the contract of `judged` follows: the verdict is passed for the notarization's own view.
use Rattle.std.proofs.Common.{inr, refl}
use Rattle.simplex_types.specs.Certificates.{notarization_facts}
use Rattle.simplex_codec.specs.Digests.{bytes_in_digest}
use Rattle.ffi_scheme.specs.Host.{certificate_bytes}
use Rattle.simplex_resolver.specs.Steps.{verdict}
use Rattle.ffi_member.proofs.FlatVerdicts.{is_received_verdict, highest_of_verdict}
use Rattle.ffi_member.proofs.resolver_calls.HeldResolver.judged.Goals as goal

pub returns-in-Ok : goal.returns-in-Ok
returns-in-Ok c =
    let notarization = notarization_facts certificate_bytes c.in-Ok.it in
    inr (
      is_received_verdict c.args.flat.now c.requires.kind c.requires.fits c.requires.view,
      (
        verdict (bytes_in_digest {n = 32}) notarization c.args.success,
        inr (
          c.requires.kind,
          record {
            notarization = notarization;
            success = c.args.success;
            proposal = c.in-Ok.ensures.proposal;
            own = c.in-Ok.ensures.bytes;
            flag = c.requires.success;
            received = refl;
          },
        ),
        rw (highest_of_verdict c.args.flat.now c.in-Ok.it.proposal c.requires.kind c.in-Ok.ensures.proposal)
            c.certified.ensures,
      ),
    )
