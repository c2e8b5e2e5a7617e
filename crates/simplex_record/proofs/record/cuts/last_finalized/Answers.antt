-- How the contract of `last_finalized` follows: the highest view so far and the rest's highest are the record's.
use Rattle.std.proofs.Common.{◌≡◌, ◌∙◌, ap, max}
use Rattle.simplex_types.specs.Certificates.{artifact_facts}
use Rattle.simplex_record.specs.Cuts.{finalized_by}
use Rattle.simplex_record.proofs.Cuts.{ord_max_is, finalized_next}
use Rattle.simplex_record.proofs.record.cuts.last_finalized.Goals as goal

pub loop-artifact-preserved : goal.loop-artifact-preserved
loop-artifact-preserved g c =
    let bytes_of = g.S.CertificateScheme.certificate_bytes in
    let higher : c.max-highest.result ≡ max c.loop-artifact.highest
    (finalized_by (artifact_facts bytes_of c.artifact-item.result)) =
    c.max-highest.ensures ∙ ord_max_is c.loop-artifact.highest c.finalized_by.result
    ∙ ap (max c.loop-artifact.highest) c.finalized_by.ensures in
    rw higher (finalized_next bytes_of c.args.entries.now c.loop-artifact.artifact-index c.artifact-item.result
    c.loop-artifact.highest c.artifact-item.is c.loop-artifact-test.true)
    ∙ c.loop-artifact.invariant
