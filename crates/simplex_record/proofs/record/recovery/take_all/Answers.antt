-- How the contract of `take_all` follows: the entries that are left lead from the state of now to the one of all.
use Rattle.std.proofs.Common.{drop, ◌+◌}
use Rattle.simplex_record.proofs.EntrySuffixes.{taking_next, taking_at}
use Rattle.simplex_record.proofs.record.recovery.take_all.Goals as goal

pub loop-artifact-preserved : goal.loop-artifact-preserved
loop-artifact-preserved g c =
    let bytes_of = g.S.CertificateScheme.certificate_bytes in
    let same = g.D.PartialEq.eq in
    let elect = g.L.Elector.elect in
    let entries = c.args.entries.now in
    let i = c.loop-artifact.artifact-index in
    let a = c.artifact-item.result in
    rw c.in_ok-take_kept.ensures.after
    (taking_next bytes_of same elect c.args.state.now entries c.args.now c.loop-artifact.state a (drop (i + 1) entries)
    (taking_at bytes_of same elect c.args.state.now entries c.args.now c.loop-artifact.state i a c.artifact-item.is
    c.loop-artifact-test.true c.loop-artifact.invariant))
