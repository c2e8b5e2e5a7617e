-- How the contract of `check_entries` follows: the entries so far break no rule and their notarizations are noted,
-- which decides of the next one.
use Rattle.std.proofs.Common.{take, refl, ap, sym, ◌∙◌, subst}
use Rattle.std.specs.Option.{option_or}
use Rattle.std.proofs.lemmas.Result.{err_from_is_err_and}
use Rattle.simplex_types.specs.Certificates.{artifact_facts}
use Rattle.simplex_resolver.specs.RecordCalls.{newest_first}
use Rattle.simplex_resolver.specs.RecordRules.{entry_error, record_error}
use Rattle.simplex_resolver.specs.RecordPositions.{AreNoted}
use Rattle.simplex_resolver.proofs.Noted.{none_noted}
use Rattle.simplex_resolver.proofs.Sound.{broken_at, taken_at, newest_at}
use Rattle.simplex_resolver.proofs.replay.check.check_entries.Goals as goal

pub loop-place-init : goal.loop-place-init
loop-place-init g c = record {
  noted = none_noted g.S.CertificateScheme.certificate_bytes _ c.new-places.ensures.places c.new-places.ensures.noted;
  sound = refl;
}

pub loop-place-preserved : goal.loop-place-preserved
loop-place-preserved g c =
    let bytes_of = g.S.CertificateScheme.certificate_bytes in
    let xs = c.args.entries.now in
    let x = c.index-entries-place.result in
    let before = newest_first bytes_of (take c.loop-place.place xs) in
    record {
      noted = subst (AreNoted bytes_of c.note.new.self)
          (sym (taken_at bytes_of xs c.loop-place.place x c.index-entries-place.is c.loop-place-test.true))
          c.note.ensures;
      sound =
          ap record_error (newest_at bytes_of xs c.loop-place.place x c.index-entries-place.is c.loop-place-test.true)
          ∙ ap (λ o. option_or o (entry_error before (artifact_facts bytes_of x))) c.loop-place.invariant.sound
          ∙ c.in_ok-check_entry.ensures.kept;
    }

pub returns-in_err-check_entry-clause-broken : goal.returns-in_err-check_entry-clause-broken
returns-in_err-check_entry-clause-broken g c =
    let p = err_from_is_err_and c.from_residual.result c.from_residual.ensures.1 in
    rw (p.1, p.2) (broken_at g.S.CertificateScheme.certificate_bytes c.args.entries.now c.loop-place.place
    c.index-entries-place.result
    c.index-entries-place.is c.loop-place-test.true c.in_err-check_entry.field-0.0 c.loop-place.invariant.sound
    c.in_err-check_entry.ensures.broken)
