-- How the contract of `put_proposal_certificate` follows: the kind, the proposal and the certificate come one after
-- another.
use Rattle.std.proofs.Common.{ap, ◌∙◌, ◌++◌, ◌∷◌, []}
use Rattle.simplex_types.specs.Encoding.{proposal_bytes}
use Rattle.simplex_codec.proofs.Appended.{appended}
use Rattle.simplex_codec.proofs.fields.put_proposal_certificate.Goals as goal

pub returns : goal.returns
returns g c =
    let front = proposal_bytes g.D.Digest.bytes c.args.proposal.now in
    let own = g.S.CertificateScheme.certificate_bytes c.args.certificate.now in
    appended c.args.out.now.items c.put_u8.new.self.items c.put_slice.new.self.items (c.args.kind ∷ []) (front ++ own)
    c.in_ok-put_u8.ensures.ok
    (appended c.put_u8.new.self.items c.put_proposal.new.out.items c.put_slice.new.self.items front own
    c.in_ok-put_proposal.ensures.written
    (c.in_ok-put_slice.ensures.ok ∙ ap (λ bytes. c.put_proposal.new.out.items ++ bytes) c.certificate_bytes.ensures))
