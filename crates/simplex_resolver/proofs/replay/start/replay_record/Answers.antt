-- How the contract of `replay_record` follows: the facts are those after the record's calls from none, and the last
-- scan fetches what is needed.
use Rattle.std.proofs.Common.{ap, sym, ◌∙◌}
use Rattle.simplex_resolver.specs.Steps.{Replayed, effects}
use Rattle.simplex_resolver.specs.Repair.{is_outstanding}
use Rattle.simplex_resolver.specs.RecordCalls.{newest_first, calls_of, replay_calls, all_after}
use Rattle.simplex_resolver.proofs.CallLists.{from_empty}
use Rattle.simplex_resolver.proofs.Replayed.{calls_name_views, calls_go_on, end_fetches_wanted}
use Rattle.simplex_resolver.proofs.replay.start.replay_record.Goals as goal

pub returns-in-Ok-clause-state : goal.returns-in-Ok-clause-state
returns-in-Ok-clause-state g c =
    let calls = replay_calls g.D.Digest.bytes g.S.CertificateScheme.certificate_bytes c.args.entries.now in
    c.in-Ok.ensures.after ∙ ap (λ x. all_after x calls) c.new-state.ensures ∙ sym (from_empty c.args.term_length calls)

pub returns-in-Ok-clause-effects : goal.returns-in-Ok-clause-effects
returns-in-Ok-clause-effects g c =
    let calls = calls_of g.D.Digest.bytes (newest_first g.S.CertificateScheme.certificate_bytes c.args.entries.now) in
    c.in-Ok.ensures.effects
    ∙ ap (λ x. effects x Replayed)
    (ap (λ x. all_after x calls) c.new-state.ensures ∙ sym (from_empty c.args.term_length calls))

pub returns-in-Ok-clause-named : goal.returns-in-Ok-clause-named
returns-in-Ok-clause-named g c = (
  tt,
  calls_name_views g.D.Digest.bytes (newest_first g.S.CertificateScheme.certificate_bytes c.args.entries.now)
      c.in_ok-check_entries.ensures.kept,
)

pub returns-in-Ok-clause-wanted : goal.returns-in-Ok-clause-wanted
returns-in-Ok-clause-wanted g c v =
    let entries = newest_first g.S.CertificateScheme.certificate_bytes c.args.entries.now in
    let calls = calls_of g.D.Digest.bytes entries in
    ap (λ es. is_outstanding es v) (
    c.in-Ok.ensures.effects ∙ ap (λ x. effects x Replayed)
    (ap (λ x. all_after x calls) c.new-state.ensures ∙ sym (from_empty c.args.term_length calls))
    )
    ∙ end_fetches_wanted c.args.term_length calls c.get-positive.ensures.positive
    (calls_name_views g.D.Digest.bytes entries c.in_ok-check_entries.ensures.kept)
    (calls_go_on g.D.Digest.bytes entries) v
