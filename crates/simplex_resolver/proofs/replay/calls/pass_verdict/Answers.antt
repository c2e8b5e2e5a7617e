-- How the contract of `pass_verdict` follows: a sound record has a notarization before the verdict, and the places find
-- it.
use Rattle.std.proofs.Common.{◌≡◌, ◌<◌, ◌≤◌, ◌^◌, Some, ap, sym, subst, ◌∙◌}
use Rattle.std.specs.Option.{option_map, option_copied}
use Rattle.std.proofs.lemmas.Result.{err_from_is_err_and}
use Rattle.simplex_types.specs.Certificates.{notarization_facts}
use Rattle.simplex_resolver.specs.Steps.{after, verdict, highest_named}
use Rattle.simplex_resolver.specs.RecordCalls.{newest_first, newest_notarization, verdict_on, all_after}
use Rattle.simplex_resolver.proofs.Sound.{sound_found, only_memory}
use Rattle.simplex_resolver.proofs.replay.calls.pass_verdict.Goals as goal

pub certified-requires : goal.certified-requires
certified-requires g c =
    let bytes_of = g.S.CertificateScheme.certificate_bytes in
    let before = newest_first bytes_of c.args.before.now in
    let n = notarization_facts bytes_of c.in-Some.notarization.now in
    let found : Some n ≡ newest_notarization c.args.view before =
    sym (ap (λ o. option_map (notarization_facts bytes_of) (option_copied o)) c.in-Some.is)
    ∙ c.last_notarization.ensures in
    subst (λ m. 1 ≤ m.proposal.round.view) (sym c.in_ok-copy.ensures.same)
    (sound_found c.args.view before n c.requires.sound (sym found)).0

pub returns-in_err-_effects-clause-refused : goal.returns-in_err-_effects-clause-refused
returns-in_err-_effects-clause-refused g c =
    let bytes_of = g.S.CertificateScheme.certificate_bytes in
    let before = newest_first bytes_of c.args.before.now in
    let n = notarization_facts bytes_of c.in-Some.notarization.now in
    let found : Some n ≡ newest_notarization c.args.view before =
    sym (ap (λ o. option_map (notarization_facts bytes_of) (option_copied o)) c.in-Some.is)
    ∙ c.last_notarization.ensures in
    let small = subst (λ m. highest_named m.proposal < 2 ^ 63) (sym c.in_ok-copy.ensures.same)
    (sound_found c.args.view before n c.requires.sound (sym found)).1 in
    let p = err_from_is_err_and c.from_residual-in_err-_effects.result c.from_residual-in_err-_effects.ensures.1 in
    rw (p.1, p.2) (only_memory c.args.state.now c.certified.new.self (highest_named c.in_ok-copy.copy.proposal)
    c.in_err-_effects.field-0.0 c.requires.resumption small c.in_err-_effects.ensures.refused)

pub returns-in_ok-_effects-clause-after : goal.returns-in_ok-_effects-clause-after
returns-in_ok-_effects-clause-after g c =
    let bytes_of = g.S.CertificateScheme.certificate_bytes in
    let payload_bytes = g.D.Digest.bytes in
    let before = newest_first bytes_of c.args.before.now in
    let n = notarization_facts bytes_of c.in-Some.notarization.now in
    let found : Some n ≡ newest_notarization c.args.view before =
    sym (ap (λ o. option_map (notarization_facts bytes_of) (option_copied o)) c.in-Some.is)
    ∙ c.last_notarization.ensures in
    c.in_ok-_effects.ensures.after
    ∙ ap (λ m. after c.args.state.now (verdict payload_bytes m c.args.success)) c.in_ok-copy.ensures.same
    ∙ ap (λ o. all_after c.args.state.now (verdict_on payload_bytes o c.args.success)) found
