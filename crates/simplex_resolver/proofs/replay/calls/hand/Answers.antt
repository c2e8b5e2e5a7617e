-- How the contract of `hand` follows: the call of the entry is made, and a vote has none.
use Rattle.std.proofs.Common.{◌≡◌, OnOk, sym, subst}
use Rattle.simplex_types.specs.Certificates.{Nullified, Finalized, artifact_facts}
use Rattle.simplex_resolver.specs.Steps.{after, update}
use Rattle.simplex_resolver.specs.RecordCalls.{newest_first, entry_calls, all_after}
use Rattle.simplex_resolver.proofs.replay.calls.hand.Goals as goal

pub returns-in_ok-copy-in-Nullification-clause-after :
    goal.returns-in_ok-copy-in-Nullification-clause-after
returns-in_ok-copy-in-Nullification-clause-after g c =
    let bytes_of = g.S.CertificateScheme.certificate_bytes in
    let made = c.pass_certificate-in-Nullification in
    subst (λ a. OnOk made.result (made.new.state ≡ all_after c.args.state.now
    (entry_calls g.D.Digest.bytes (newest_first bytes_of c.args.before.now) (artifact_facts bytes_of a))))
    (sym c.in-Nullification.is)
    (subst (λ n. OnOk made.result (made.new.state ≡ after c.args.state.now (update g.D.Digest.bytes (Nullified n))))
    c.in_ok-copy-in-Nullification.ensures.same made.ensures.after)

pub returns-in_ok-copy-in-Finalization-clause-after :
    goal.returns-in_ok-copy-in-Finalization-clause-after
returns-in_ok-copy-in-Finalization-clause-after g c =
    let bytes_of = g.S.CertificateScheme.certificate_bytes in
    let made = c.pass_certificate-in-Finalization in
    subst (λ a. OnOk made.result (made.new.state ≡ all_after c.args.state.now
    (entry_calls g.D.Digest.bytes (newest_first bytes_of c.args.before.now) (artifact_facts bytes_of a))))
    (sym c.in-Finalization.is)
    (subst (λ f. OnOk made.result (made.new.state ≡ after c.args.state.now (update g.D.Digest.bytes (Finalized f))))
    c.in_ok-copy-in-Finalization.ensures.same made.ensures.after)
