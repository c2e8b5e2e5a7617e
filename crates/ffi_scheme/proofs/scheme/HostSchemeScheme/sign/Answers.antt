-- How the contract of `sign` follows: the signer is a member, so its key is read within the keys.
use Rattle.std.proofs.Common.{◌∙◌, ap, refl, get_or, arith}
use Rattle.std.proofs.lemmas.Option.{slice_get_read}
use Rattle.ffi_scheme.proofs.scheme.HostSchemeScheme.sign.Goals as goal

pub index-key-requires : goal.index-key-requires
index-key-requires g c =
    let self = c.args.self.now in
    omega (arith, self.signer_is_member c.in-Some.signer c.in-Some.is, c.get.ensures, self.keys.ok)

pub returns-clause-signed : goal.returns-clause-signed
returns-clause-signed g c =
    let self = c.args.self.now in
    let keys = self.keys.items in
    let signer = c.in-Some.signer in
    let key = c.index-key.result.now in
    let at_signer = c.index-key.ensures ∙ ap (λ place. get_or keys place key) c.get.ensures in
    record {
      signer = signer;
      is_me = c.in-Some.is;
      key = key;
      is_key = slice_get_read keys _ signer key refl (self.signer_is_member signer c.in-Some.is) at_signer;
      good = c.in_ok-new.ensures;
    }
