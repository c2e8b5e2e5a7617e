use Rattle.std.proofs.Common.{refl, [], ◌∷◌}
use Rattle.engine_outbox.specs.declared.output.Output.TheVariants as output
use Rattle.engine_outbox.proofs.Finalizations.{become_tells, stayed_tells}
use Rattle.engine_outbox.proofs.TracedOutputs.{traced_pushed, traced_stayed}
use Rattle.engine_outbox.proofs.Kept.{does_no_more, pushed, kept_as_it_was}
use Rattle.engine_outbox.proofs.Lawfully.{by_result}
use Rattle.engine_outbox.proofs.Signatures.{same_plain, same_stayed}
use Rattle.engine_outbox.proofs.journaled.Journaled.push.Goals as goal

pub returns-clause-signed : goal.returns-clause-signed
returns-clause-signed g c =
    let old = c.args.self.now in
    let new = record old { outbox = c.push.new.self } in
    by_result c.push.result c.push.ensures.queued c.push.ensures.kept
    (λ is. same_plain g.S.Scheme.IsSignature old new refl (output.Work c.args.work) refl is.queue)
    (same_stayed g.S.Scheme.IsSignature old new refl)

pub returns-clause-continues : goal.returns-clause-continues
returns-clause-continues g c =
    let bytes_of = g.S.CertificateScheme.certificate_bytes in
    let old = c.args.self.now in
    let new = record old { outbox = c.push.new.self } in
    does_no_more old new refl
    (by_result c.push.result c.push.ensures.queued c.push.ensures.kept
    (pushed bytes_of old new refl refl refl refl c.push.ensures.continues c.args.work)
    (kept_as_it_was bytes_of old new refl refl refl refl c.push.ensures.continues))
    (by_result c.push.result c.push.ensures.queued c.push.ensures.kept
    (λ is. traced_pushed g.D.PartialEq.eq g.L.Elector.elect g.S.CertificateScheme.certificate_bytes old new refl refl
    (pushed bytes_of old new refl refl refl refl c.push.ensures.continues c.args.work is) refl c.args.work is)
    (λ is. traced_stayed g.D.PartialEq.eq g.L.Elector.elect g.S.CertificateScheme.certificate_bytes old new refl refl
    (kept_as_it_was bytes_of old new refl refl refl refl c.push.ensures.continues is) refl is))
    (returns-clause-signed g c)
    (by_result c.push.result c.push.ensures.queued c.push.ensures.kept
    (become_tells (output.Work c.args.work ∷ []) old.outbox.repeat old.outbox new.outbox refl)
    (stayed_tells old.outbox new.outbox)) c.push.ensures.grown
