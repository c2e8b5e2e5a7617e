use Rattle.std.proofs.Common.{◌≡◌, ℕ, List, Option, Some, None, [], ◌++◌, subst, sym, ap, ◌∙◌}
use Rattle.std.specs.Prelude.{Contains, IfSome}
use Rattle.simplex_types.specs.declared.types.messages.Proposal.{Proposal}
use Rattle.simplex_voter.specs.Facts.{StateFacts}
use Rattle.engine_outbox.specs.Finalizations.{finals_in, EndsAt}
use Rattle.engine_outbox.proofs.Finalizations.{finalized_in-append}
use Rattle.engine_outbox.specs.Journals.{journal_of}
use Rattle.engine_outbox.proofs.Journals.{is_record}
use Rattle.engine_outbox.proofs.Behind.{stored_in-append, votes_in-append}
use Rattle.std.proofs.lemmas.List.Elements.{Contains-append_left}
use Rattle.engine_outbox.specs.Entries.{votes_of_entries}
use Rattle.engine_outbox.specs.Outputs.{stored_in}
use Rattle.engine_outbox.proofs.HostStops.{lawful_stops, left_stored}
use Rattle.engine_outbox.proofs.journaled.Journaled.keeps_the_laws.Goals as goal

-- the last one that was reported is of the last finalized view
ends_last : {K L D : Type 0} (finals : List (Proposal D)) (life : Option (StateFacts K L D)) (reported : ℕ)
    → IfSome life (λ x. reported ≡ x.finalized) → EndsAt reported finals
    → IfSome life (λ x. EndsAt x.finalized finals)
ends_last finals None reported last ends = tt
ends_last finals (Some x) reported last ends = subst (λ v. EndsAt v finals) last ends

pub returns-clause-stored : goal.returns-clause-stored
returns-clause-stored g c given kept lives whole =
    let it = c.args.self.now in
    is_record g.S.CertificateScheme.certificate_bytes it.member it.stored (journal_of (given ++ it.outbox.queue.items))
    (kept.stored lives) c.record-record.result.now c.record-record.ensures.entries c.record-record.ensures.votes
    whole

pub returns-clause-last : goal.returns-clause-last
returns-clause-last g c given kept =
    let it = c.args.self.now in
    ends_last (finals_in (given ++ it.outbox.queue.items)) it.member.facts.life it.outbox.reported kept.reported
    kept.lawful.reported

pub returns-clause-emitted : goal.returns-clause-emitted
returns-clause-emitted g c given kept lives = kept.emitted lives

-- a host may stop anywhere
pub returns-clause-stops : goal.returns-clause-stops
returns-clause-stops g c term_length i earlier given all is lives =
    let it = c.args.self.now in
    lawful_stops g.D.PartialEq.eq g.L.Elector.elect g.S.CertificateScheme.certificate_bytes term_length i earlier all
    (given ++ it.outbox.queue.items) is.kept.lawful.behind (is.stops lives)

pub returns-clause-finals : goal.returns-clause-finals
returns-clause-finals g c term_length i earlier given all is p has =
    let queue = c.args.self.now.outbox.queue.items in
    is.finals p (subst (λ ps. Contains ps p) (sym (finalized_in-append given queue))
    (Contains-append_left (finals_in given) (finals_in queue) p has))

pub returns-clause-signed : goal.returns-clause-signed
returns-clause-signed g c i key given vote is behind has =
    let it = c.args.self.now in
    is.stored vote (subst (λ votes. Contains votes vote)
    (sym (ap votes_of_entries (stored_in-append given it.outbox.queue.items)
    ∙ votes_in-append (stored_in given) (stored_in it.outbox.queue.items)))
    (Contains-append_left (votes_of_entries (stored_in given)) (votes_of_entries (stored_in it.outbox.queue.items)) vote
    (left_stored [] given behind vote has)))
