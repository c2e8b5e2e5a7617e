-- How the contract of `put_round_certificate` follows: the kind, the round and the certificate come one after another.
use Rattle.std.proofs.Common.{ap, ◌∙◌, ◌++◌, ◌∷◌, []}
use Rattle.simplex_types.specs.Encoding.{round_bytes}
use Rattle.simplex_codec.proofs.Appended.{appended}
use Rattle.simplex_codec.proofs.fields.put_round_certificate.Goals as goal

pub returns : goal.returns
returns g c =
    let front = round_bytes c.args.round in
    let own = g.S.CertificateScheme.certificate_bytes c.args.certificate.now in
    appended c.args.out.now.items c.put_u8.new.self.items c.put_slice.new.self.items (c.args.kind ∷ []) (front ++ own)
    c.in_ok-put_u8.ensures.ok
    (appended c.put_u8.new.self.items c.put_round.new.out.items c.put_slice.new.self.items front own
    c.in_ok-put_round.ensures.written
    (c.in_ok-put_slice.ensures.ok ∙ ap (λ bytes. c.put_round.new.out.items ++ bytes) c.certificate_bytes.ensures))
