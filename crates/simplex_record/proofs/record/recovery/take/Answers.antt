-- How the contract of `take` follows: after each part the state has not failed and is in time, so the next one takes
-- the entry.
use Rattle.std.proofs.Common.{◌≡◌, false, OnOk, sym, subst, ap, ◌∙◌}
use Rattle.simplex_types.specs.Certificates.{artifact_facts}
use Rattle.simplex_voter.specs.Facts.{StateFacts}
use Rattle.simplex_voter.specs.Refusals.{has_late_deadline}
use Rattle.simplex_record.specs.Recovery.{after_adding, after_replaying, after_verdict_of, GivesVerdict}
use Rattle.simplex_record.proofs.UnchangedSettings.{event_goes, still_in_time}
use Rattle.simplex_record.specs.Events.{Replay}
use Rattle.simplex_record.proofs.Recovery.{added_goes}
use Rattle.simplex_record.proofs.record.recovery.take.Goals as goal

pub replay-requires-clause-resumption : goal.replay-requires-clause-resumption
replay-requires-clause-resumption g c =
    let e = artifact_facts g.S.CertificateScheme.certificate_bytes c.args.artifact.now in
    let goes = added_goes g.D.PartialEq.eq g.L.Elector.elect c.args.state.now c.args.now e in
    subst (λ (y : StateFacts _ _ _). y.failed ≡ false) (sym c.in_ok-add.ensures.after)
    (goes.failed ∙ c.requires.resumption)

pub give-requires-clause-resumption : goal.give-requires-clause-resumption
give-requires-clause-resumption g c =
    let e = artifact_facts g.S.CertificateScheme.certificate_bytes c.args.artifact.now in
    let same = g.D.PartialEq.eq in
    let elect = g.L.Elector.elect in
    let goes = added_goes same elect c.args.state.now c.args.now e in
    let next = event_goes same elect (after_adding same elect c.args.state.now c.args.now e) (Replay e) in
    let is = c.in_ok-replay.ensures.after ∙ ap (λ (y : StateFacts _ _ _). after_replaying same elect y e)
    c.in_ok-add.ensures.after in
    subst (λ (y : StateFacts _ _ _). y.failed ≡ false) (sym is) (next.failed ∙ goes.failed ∙ c.requires.resumption)

pub give-requires-clause-in_time : goal.give-requires-clause-in_time
give-requires-clause-in_time g c =
    let e = artifact_facts g.S.CertificateScheme.certificate_bytes c.args.artifact.now in
    let same = g.D.PartialEq.eq in
    let elect = g.L.Elector.elect in
    let y = after_adding same elect c.args.state.now c.args.now e in
    let is = c.in_ok-replay.ensures.after ∙ ap (λ (y : StateFacts _ _ _). after_replaying same elect y e)
    c.in_ok-add.ensures.after in
    subst (λ (y : StateFacts _ _ _). has_late_deadline y c.args.now ≡ false) (sym is)
    (still_in_time y (after_replaying same elect y e) c.args.now (event_goes same elect y (Replay e))
    (still_in_time c.args.state.now y c.args.now (added_goes same elect c.args.state.now c.args.now e)
    c.requires.in_time))

pub give-requires-clause-allowed : goal.give-requires-clause-allowed
give-requires-clause-allowed g c =
    let e = artifact_facts g.S.CertificateScheme.certificate_bytes c.args.artifact.now in
    let is = c.in_ok-replay.ensures.after ∙ ap
    (λ (y : StateFacts _ _ _). after_replaying g.D.PartialEq.eq g.L.Elector.elect y e) c.in_ok-add.ensures.after in
    subst (λ (y : StateFacts _ _ _). GivesVerdict y e) (sym is) c.requires.taken.gives

pub returns-clause-after : goal.returns-clause-after
returns-clause-after g c =
    let e = artifact_facts g.S.CertificateScheme.certificate_bytes c.args.artifact.now in
    let is = c.in_ok-replay.ensures.after ∙ ap
    (λ (y : StateFacts _ _ _). after_replaying g.D.PartialEq.eq g.L.Elector.elect y e) c.in_ok-add.ensures.after in
    subst (λ (y : StateFacts _ _ _). OnOk c.give.result
    (c.give.new.state ≡ after_verdict_of g.L.Elector.elect y c.args.now e)) is c.give.ensures.after
