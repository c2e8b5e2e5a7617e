-- How the contract of `last_notarization` follows: the first one from the end that is the view's is the last of all.
use Rattle.std.proofs.Common.{refl, ap, sym, ◌∙◌}
use Rattle.std.specs.Option.{option_copied}
use Rattle.simplex_types.specs.Certificates.{notarization_facts}
use Rattle.simplex_resolver.specs.RecordCalls.{newest_first, newest_notarization}
use Rattle.simplex_resolver.proofs.Noted.{same_some}
use Rattle.simplex_resolver.proofs.Newest.{passed_by, stopped_at, none_left}
use Rattle.simplex_resolver.proofs.replay.places.last_notarization.Goals as goal

pub loop-artifact-init : goal.loop-artifact-init
loop-artifact-init g c = record {
  can_next = tt;
  finite = tt;
  rest = rw (
    c.into_iter-artifact-iterator.ensures.into_iter_gives,
    c.rev-artifact-items.ensures.source,
    c.iter.ensures.rest,
  ) refl;
}

pub returns-then-is_some : goal.returns-then-is_some
returns-then-is_some g c =
    let bytes_of = g.S.CertificateScheme.certificate_bytes in
    let found = option_copied c.notarization_at-found.result in
    stopped_at bytes_of c.args.view c.next.new.self.iter.rest.now c.in-Some.artifact.now _
    c.notarization_at-found.ensures
    (same_some (notarization_facts bytes_of) found ∙ same_some (λ n. n.now) c.notarization_at-found.result
    ∙ sym c.if-is_some.ensures)
    ∙ sym (c.loop-artifact.invariant.rest ∙ ap (λ es. newest_notarization c.args.view (newest_first bytes_of es))
    c.in-Some.ensures.steps)

pub loop-artifact-preserved : goal.loop-artifact-preserved
loop-artifact-preserved g c =
    let bytes_of = g.S.CertificateScheme.certificate_bytes in
    let found = option_copied c.notarization_at-found.result in
    record {
      can_next = tt;
      finite = tt;
      rest =
          c.loop-artifact.invariant.rest ∙ ap (λ es. newest_notarization c.args.view (newest_first bytes_of es))
          c.in-Some.ensures.steps
          ∙ passed_by bytes_of c.args.view c.next.new.self.iter.rest.now c.in-Some.artifact.now _
          c.notarization_at-found.ensures
          (same_some (notarization_facts bytes_of) found ∙ same_some (λ n. n.now) c.notarization_at-found.result
          ∙ sym c.if-is_some.ensures);
    }

pub returns : goal.returns
returns g c =
    none_left g.S.CertificateScheme.certificate_bytes c.args.view c.loop-artifact.artifact-iterator.iter.rest.now
    c.in-None.ensures.steps.0
    ∙ sym c.loop-artifact.invariant.rest
