use Rattle.std.proofs.Common.{true, refl}
use Rattle.engine_outbox.proofs.Finalizations.{tells_none}
use Rattle.engine_outbox.proofs.TracedOutputs.{traced_end}
use Rattle.engine_outbox.proofs.Continuity.{does_nothing}
use Rattle.engine_outbox.proofs.Kept.{does_no_more, ended}
use Rattle.engine_outbox.proofs.Queued.{queues_none}
use Rattle.engine_outbox.proofs.Signatures.{same_stayed}
use Rattle.engine_outbox.proofs.journaled.Journaled.fail.Goals as goal

pub returns-clause-signed : goal.returns-clause-signed
returns-clause-signed g c = same_stayed g.S.Scheme.IsSignature c.args.self.now
    (record c.args.self.now { failed = true }) refl (refl, refl, refl)

pub returns-clause-continues : goal.returns-clause-continues
returns-clause-continues g c =
    let old = c.args.self.now in
    let new = record old { failed = true } in
    let keeps = ended g.S.CertificateScheme.certificate_bytes old new refl (λ reaches. reaches) (λ given lawful. lawful)
    (λ last. last) in
    does_no_more old new refl keeps
    (traced_end g.D.PartialEq.eq g.L.Elector.elect g.S.CertificateScheme.certificate_bytes old new refl keeps
    (does_nothing old.member.facts) (λ all signed. signed) (tells_none old.outbox old.outbox refl refl))
    (returns-clause-signed g c)
    (tells_none old.outbox old.outbox refl refl) (queues_none old.outbox)
