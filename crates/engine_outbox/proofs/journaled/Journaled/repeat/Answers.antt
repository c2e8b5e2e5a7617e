use Rattle.std.proofs.Common.{refl}
use Rattle.engine_outbox.proofs.Finalizations.{stayed_tells}
use Rattle.engine_outbox.proofs.TracedOutputs.{traced_repeated, traced_stayed}
use Rattle.engine_outbox.proofs.Kept.{does_no_more, repeated, repeated_tells, kept_as_it_was}
use Rattle.engine_outbox.proofs.Lawfully.{by_answer}
use Rattle.engine_outbox.proofs.Signatures.{same_repeated, same_stayed}
use Rattle.engine_outbox.proofs.journaled.Journaled.repeat.Goals as goal

pub returns-clause-signed : goal.returns-clause-signed
returns-clause-signed g c =
    let old = c.args.self.now in
    let new = record old { outbox = c.repeat.new.self } in
    by_answer c.repeat.result c.repeat.ensures.queued c.repeat.ensures.kept
    (same_repeated g.S.Scheme.IsSignature old new refl c.args.view)
    (same_stayed g.S.Scheme.IsSignature old new refl)

pub returns-clause-continues : goal.returns-clause-continues
returns-clause-continues g c =
    let bytes_of = g.S.CertificateScheme.certificate_bytes in
    let old = c.args.self.now in
    let new = record old { outbox = c.repeat.new.self } in
    does_no_more old new refl
    (by_answer c.repeat.result c.repeat.ensures.queued c.repeat.ensures.kept
    (repeated bytes_of old new refl refl refl refl c.repeat.ensures.continues c.args.view)
    (kept_as_it_was bytes_of old new refl refl refl refl c.repeat.ensures.continues))
    (by_answer c.repeat.result c.repeat.ensures.queued c.repeat.ensures.kept
    (λ sent is. traced_repeated g.D.PartialEq.eq g.L.Elector.elect g.S.CertificateScheme.certificate_bytes old new refl
    refl (repeated bytes_of old new refl refl refl refl c.repeat.ensures.continues c.args.view sent is) refl
    c.args.view sent is)
    (λ is. traced_stayed g.D.PartialEq.eq g.L.Elector.elect g.S.CertificateScheme.certificate_bytes old new refl refl
    (kept_as_it_was bytes_of old new refl refl refl refl c.repeat.ensures.continues is) refl is))
    (returns-clause-signed g c)
    (by_answer c.repeat.result c.repeat.ensures.queued c.repeat.ensures.kept
    (repeated_tells bytes_of old new c.args.view)
    (stayed_tells old.outbox new.outbox)) c.repeat.ensures.grown
