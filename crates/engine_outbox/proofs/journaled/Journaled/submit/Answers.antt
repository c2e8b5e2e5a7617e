-- That room is made before the member is called.
use Rattle.std.proofs.Common.{◌∙◌, refl}
use Rattle.engine_outbox.proofs.Finalizations.{stayed_tells}
use Rattle.engine_outbox.proofs.TracedOutputs.{traced_stayed}
use Rattle.engine_outbox.proofs.Continuity.{goes_further}
use Rattle.engine_outbox.proofs.Kept.{does_no_more, kept_as_it_was}
use Rattle.engine_outbox.proofs.QueuedOutputs.{stayed_no_work}
use Rattle.engine_outbox.proofs.Signatures.{same_stayed}
use Rattle.engine_outbox.proofs.journaled.Journaled.submit.Goals as goal

pub returns-in-Ok-clause-signed : goal.returns-in-Ok-clause-signed
returns-in-Ok-clause-signed g c i key given is =
    let old = c.args.self.now in
    c.take.ensures.signed i key given (same_stayed g.S.Scheme.IsSignature old
    (record old { outbox = c.make_room.new.self }) refl c.make_room.ensures.kept i key given is)

pub returns-in-Err-clause-signed : goal.returns-in-Err-clause-signed
returns-in-Err-clause-signed g c =
    let old = c.args.self.now in
    same_stayed g.S.Scheme.IsSignature old (record old { outbox = c.make_room.new.self }) refl c.make_room.ensures.kept

pub returns-in-Ok-clause-continues : goal.returns-in-Ok-clause-continues
returns-in-Ok-clause-continues g c =
    let bytes_of = g.S.CertificateScheme.certificate_bytes in
    let old = c.args.self.now in
    let ready = record old { outbox = c.make_room.new.self } in
    goes_further {c = c.take.new.self}
    (does_no_more old ready refl
    (kept_as_it_was bytes_of old ready refl refl refl refl c.make_room.ensures.continues c.make_room.ensures.kept)
    (traced_stayed g.D.PartialEq.eq g.L.Elector.elect g.S.CertificateScheme.certificate_bytes old ready refl refl
    (kept_as_it_was bytes_of old ready refl refl refl refl c.make_room.ensures.continues c.make_room.ensures.kept)
    refl c.make_room.ensures.kept)
    (same_stayed g.S.Scheme.IsSignature old ready refl c.make_room.ensures.kept)
    (stayed_tells old.outbox ready.outbox c.make_room.ensures.kept) c.make_room.ensures.grown) c.take.ensures.continues

pub returns-in-Err-clause-continues : goal.returns-in-Err-clause-continues
returns-in-Err-clause-continues g c =
    let bytes_of = g.S.CertificateScheme.certificate_bytes in
    let old = c.args.self.now in
    let ready = record old { outbox = c.make_room.new.self } in
    does_no_more old ready refl
    (kept_as_it_was bytes_of old ready refl refl refl refl c.make_room.ensures.continues c.make_room.ensures.kept)
    (traced_stayed g.D.PartialEq.eq g.L.Elector.elect g.S.CertificateScheme.certificate_bytes old ready refl refl
    (kept_as_it_was bytes_of old ready refl refl refl refl c.make_room.ensures.continues c.make_room.ensures.kept)
    refl c.make_room.ensures.kept)
    (same_stayed g.S.Scheme.IsSignature old ready refl c.make_room.ensures.kept)
    (stayed_tells old.outbox ready.outbox c.make_room.ensures.kept) c.make_room.ensures.grown

pub returns-in-Ok-clause-no_work : goal.returns-in-Ok-clause-no_work
returns-in-Ok-clause-no_work g c = c.take.ensures.no_work
    ∙ stayed_no_work c.args.self.now.outbox c.make_room.new.self c.make_room.ensures.kept

pub returns-in-Err-clause-no_work : goal.returns-in-Err-clause-no_work
returns-in-Err-clause-no_work g c = stayed_no_work c.args.self.now.outbox c.make_room.new.self c.make_room.ensures.kept
