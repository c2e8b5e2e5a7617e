-- How the contract of `check_next` follows: the entry breaks a rule by itself, or one against what was seen of its
-- view.
use Rattle.std.proofs.Common.{◌≡◌, ap, ◌∙◌, sym, nat_lt, false}
use Rattle.std.proofs.lemmas.Result.{err_from_is_err_and}
use Rattle.simplex_view_maps.proofs.Maps.{is_lt-nat_cmp}
use Rattle.simplex_types.specs.Certificates.{artifact_facts}
use Rattle.simplex_record.specs.Entries.{entry_view}
use Rattle.simplex_record.specs.CheckState.{turned_to}
use Rattle.simplex_record.proofs.CheckState.{view_of_entry, breaks_alone, breaks_beside}
use Rattle.simplex_record.proofs.record.check.check_next.Goals as goal

pub returns-in_err-check_alone-clause-broken : goal.returns-in_err-check_alone-clause-broken
returns-in_err-check_alone-clause-broken g c =
    let bytes_of = g.S.CertificateScheme.certificate_bytes in
    let view = c.view-view.ensures ∙ view_of_entry bytes_of c.args.artifact.now in
    let in_order : nat_lt (entry_view (artifact_facts bytes_of c.args.artifact.now)) c.args.seen.now.view ≡ false =
    rw (← view) (sym (is_lt-nat_cmp c.view-view.result c.args.seen.now.view) ∙ sym c.lt.ensures ∙ c.if-lt.false) in
    let p = err_from_is_err_and c.from_residual.result c.from_residual.ensures.1 in
    rw (p.1, p.2)
    (breaks_alone g.D.PartialEq.eq c.args.epoch (g.S.CertificateScheme.me c.args.scheme.now) c.args.seen.now _ _
    in_order
    (rw c.me.ensures at c.in_err-check_alone.ensures.broken))

pub returns-in_err-allows-clause-broken : goal.returns-in_err-allows-clause-broken
returns-in_err-allows-clause-broken g c =
    let bytes_of = g.S.CertificateScheme.certificate_bytes in
    let view = c.view-view.ensures ∙ view_of_entry bytes_of c.args.artifact.now in
    let in_order : nat_lt (entry_view (artifact_facts bytes_of c.args.artifact.now)) c.args.seen.now.view ≡ false =
    rw (← view) (sym (is_lt-nat_cmp c.view-view.result c.args.seen.now.view) ∙ sym c.lt.ensures ∙ c.if-lt.false) in
    let turned : c.turn_to.new.self ≡ turned_to c.args.seen.now
    (entry_view (artifact_facts bytes_of c.args.artifact.now)) =
    c.turn_to.ensures ∙ ap (turned_to c.args.seen.now) view in
    let p = err_from_is_err_and c.from_residual-in_err-allows.result c.from_residual-in_err-allows.ensures.1 in
    rw (p.1, p.2)
    (breaks_beside g.D.PartialEq.eq c.args.epoch (g.S.CertificateScheme.me c.args.scheme.now) c.args.seen.now _ _
    in_order
    (rw c.me.ensures at c.in_ok-check_alone.ensures.kept) (rw turned at c.in_err-allows.ensures.broken))
