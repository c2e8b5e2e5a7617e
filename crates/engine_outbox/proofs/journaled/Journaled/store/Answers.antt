use Rattle.std.proofs.Common.{◌++◌, ◌∙◌, refl, ap, length, arith}
use Rattle.engine_outbox.proofs.Finalizations.{stayed_tells}
use Rattle.engine_outbox.proofs.TracedOutputs.{traced_stored, traced_stayed}
use Rattle.engine_outbox.proofs.Continuity.{stays}
use Rattle.engine_outbox.proofs.Kept.{does_no_more, stored, stored_tells, kept_as_it_was, counted}
use Rattle.engine_outbox.specs.Journals.{journal_of}
use Rattle.engine_outbox.specs.RecordReach.{lowest_of}
use Rattle.engine_outbox.proofs.Journals.{is_record}
use Rattle.engine_outbox.proofs.RecordReach.{reaches_all}
use Rattle.engine_outbox.proofs.QueuedOutputs.{stayed_no_work, stored_no_work}
use Rattle.engine_outbox.proofs.Signatures.{same_stored, same_stayed}
use Rattle.engine_outbox.proofs.journaled.Journaled.store.Goals as goal

pub returns-clause-signed : goal.returns-clause-signed
returns-clause-signed g c =
    let old = c.args.self.now in
    let new = record old
    { outbox = c.store.new.self; stored = length c.record-count.result.now; reach = c.lowest_of-reach.result } in
    same_stored g.S.Scheme.IsSignature old new refl g.S.CertificateScheme.certificate_bytes c.record_since-2.result.now
    c.record_since-2.ensures.votes c.in_ok-store.ensures.queued

pub returns-in_err-store-clause-signed : goal.returns-in_err-store-clause-signed
returns-in_err-store-clause-signed g c =
    let old = c.args.self.now in
    same_stayed g.S.Scheme.IsSignature old (record old { outbox = c.store.new.self }) refl c.in_err-store.ensures.kept

pub returns-then-count-self-clause-signed : goal.returns-then-count-self-clause-signed
returns-then-count-self-clause-signed g c i key given is = is

pub returns-clause-continues : goal.returns-clause-continues
returns-clause-continues g c =
    let bytes_of = g.S.CertificateScheme.certificate_bytes in
    let old = c.args.self.now in
    let all = c.record-count in
    let fresh = c.record_since-2 in
    let new = record old { outbox = c.store.new.self; stored = length all.result.now; reach = c.lowest_of-reach.result }
    in
    let keeps = stored bytes_of old new refl refl
    (λ reaches. reaches_all old.reach c.lowest_of-reach.result old.stored (length all.result.now)
    old.member.facts.entries reaches
    (counted bytes_of all.result.now old.member.facts.entries all.ensures.entries)
    (c.lowest_of-reach.ensures ∙ ap (lowest_of old.reach) c.record_since.ensures.entries))
    c.store.ensures.continues all.result.now fresh.result.now refl all.ensures.entries all.ensures.votes
    fresh.ensures.entries fresh.ensures.votes c.in_ok-store.ensures.queued in
    does_no_more old new refl keeps
    (traced_stored g.D.PartialEq.eq g.L.Elector.elect g.S.CertificateScheme.certificate_bytes old new refl refl keeps
    all.result.now fresh.result.now refl all.ensures.entries all.ensures.votes fresh.ensures.entries
    fresh.ensures.votes c.in_ok-store.ensures.queued)
    (returns-clause-signed g c)
    (stored_tells bytes_of old new fresh.result.now c.in_ok-store.ensures.queued) c.store.ensures.grown

pub returns-in_err-store-clause-continues : goal.returns-in_err-store-clause-continues
returns-in_err-store-clause-continues g c =
    let old = c.args.self.now in
    let new = record old { outbox = c.store.new.self } in
    does_no_more old new refl (kept_as_it_was g.S.CertificateScheme.certificate_bytes old new refl refl refl refl
    c.store.ensures.continues c.in_err-store.ensures.kept)
    (traced_stayed g.D.PartialEq.eq g.L.Elector.elect g.S.CertificateScheme.certificate_bytes old new refl refl
    (kept_as_it_was g.S.CertificateScheme.certificate_bytes old new refl refl refl refl c.store.ensures.continues
    c.in_err-store.ensures.kept) refl c.in_err-store.ensures.kept)
    (returns-in_err-store-clause-signed g c)
    (stayed_tells old.outbox new.outbox c.in_err-store.ensures.kept) c.store.ensures.grown

pub returns-then-count-self-clause-continues : goal.returns-then-count-self-clause-continues
returns-then-count-self-clause-continues g c = stays c.args.self.now

pub returns-clause-whole : goal.returns-clause-whole
returns-clause-whole g c =
    let same_length = counted g.S.CertificateScheme.certificate_bytes c.record-count.result.now
    c.args.self.now.member.facts.entries c.record-count.ensures.entries in
    omega (arith, same_length)

pub returns-then-count-self-clause-whole : goal.returns-then-count-self-clause-whole
returns-then-count-self-clause-whole g c =
    let same_length = counted g.S.CertificateScheme.certificate_bytes c.record-count.result.now
    c.args.self.now.member.facts.entries c.record-count.ensures.entries in
    omega (arith, same_length)

pub returns-clause-holds : goal.returns-clause-holds
returns-clause-holds g c given kept lives =
    let bytes_of = g.S.CertificateScheme.certificate_bytes in
    let all = c.record-count in
    let same_length = counted bytes_of all.result.now c.args.self.now.member.facts.entries all.ensures.entries in
    is_record bytes_of c.args.self.now.member (length all.result.now)
    (journal_of (given ++ c.store.new.self.queue.items)) (kept.stored lives) all.result.now all.ensures.entries
    all.ensures.votes (omega (arith, same_length))

pub returns-then-count-self-clause-holds : goal.returns-then-count-self-clause-holds
returns-then-count-self-clause-holds g c given kept lives =
    let it = c.args.self.now in
    let bytes_of = g.S.CertificateScheme.certificate_bytes in
    let same_length = counted bytes_of c.record-count.result.now it.member.facts.entries c.record-count.ensures.entries
    in
    is_record bytes_of it.member it.stored (journal_of (given ++ it.outbox.queue.items)) (kept.stored lives)
    c.record-count.result.now c.record-count.ensures.entries c.record-count.ensures.votes
    (omega (arith, same_length))

pub returns-clause-no_work : goal.returns-clause-no_work
returns-clause-no_work g c =
    stored_no_work g.S.CertificateScheme.certificate_bytes c.record_since-2.result.now c.args.self.now.outbox
    c.store.new.self c.in_ok-store.ensures.queued

pub returns-in_err-store-clause-no_work : goal.returns-in_err-store-clause-no_work
returns-in_err-store-clause-no_work g c =
    stayed_no_work c.args.self.now.outbox c.store.new.self c.in_err-store.ensures.kept
