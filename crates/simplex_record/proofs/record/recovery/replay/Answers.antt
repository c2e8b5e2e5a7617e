-- How the contract of `replay` follows: the state restores of an artifact what is replayed of its entry.
use Rattle.simplex_record.proofs.Recovery.{replayed_entry}
use Rattle.simplex_record.proofs.record.recovery.replay.Goals as goal

pub returns-clause-after : goal.returns-clause-after
returns-clause-after g c =
    rw (← replayed_entry g.S.CertificateScheme.certificate_bytes g.D.PartialEq.eq g.L.Elector.elect c.args.state.now
    c.args.artifact.now) c.replay.ensures.after
