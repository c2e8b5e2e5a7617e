-- How the contract of `pass_every` follows: the facts are those after the calls of the entries so far, and none of
-- these fails the resolver.
use Rattle.std.proofs.Common.{take, refl, ap, sym, ◌∙◌, subst}
use Rattle.simplex_types.specs.Certificates.{artifact_facts}
use Rattle.simplex_resolver.specs.RecordCalls.{newest_first, entry_calls, calls_of, all_after}
use Rattle.simplex_resolver.specs.RecordPositions.{AreNoted}
use Rattle.simplex_resolver.proofs.Noted.{none_noted}
use Rattle.simplex_resolver.proofs.CallLists.{all_after-append, all_go_on}
use Rattle.simplex_resolver.proofs.Sound.{taken_at, newest_at, sound_at}
use Rattle.simplex_resolver.proofs.replay.calls.pass_every.Goals as goal

pub hand-requires-clause-resumption : goal.hand-requires-clause-resumption
hand-requires-clause-resumption g c =
    ap (λ x. x.is_failed) c.loop-place.invariant.after
    ∙ all_go_on c.args.state.now (calls_of g.D.Digest.bytes
    (newest_first g.S.CertificateScheme.certificate_bytes (take c.loop-place.place c.args.entries.now)))
    ∙ c.requires.resumption

pub hand-requires-clause-sound : goal.hand-requires-clause-sound
hand-requires-clause-sound g c =
    sound_at g.S.CertificateScheme.certificate_bytes c.args.entries.now c.loop-place.place c.index-entries-place.result
    c.index-entries-place.is c.loop-place-test.true c.requires.sound

pub loop-place-init : goal.loop-place-init
loop-place-init g c = record {
  noted = none_noted g.S.CertificateScheme.certificate_bytes _ c.new-places.ensures.places c.new-places.ensures.noted;
  after = refl;
}

pub loop-place-preserved : goal.loop-place-preserved
loop-place-preserved g c =
    let bytes_of = g.S.CertificateScheme.certificate_bytes in
    let payload_bytes = g.D.Digest.bytes in
    let x = c.args.state.now in
    let before = newest_first bytes_of (take c.loop-place.place c.args.entries.now) in
    let entry = artifact_facts bytes_of c.index-entries-place.result in
    record {
      noted = subst (AreNoted bytes_of c.note.new.self)
          (sym (taken_at bytes_of c.args.entries.now c.loop-place.place c.index-entries-place.result
          c.index-entries-place.is c.loop-place-test.true)) c.note.ensures;
      after =
          c.in_ok-hand.ensures.after
          ∙ ap (λ y. all_after y (entry_calls payload_bytes before entry)) c.loop-place.invariant.after
          ∙ sym (all_after-append x (entry_calls payload_bytes before entry) (calls_of payload_bytes before))
          ∙ ap (λ es. all_after x (calls_of payload_bytes es))
          (sym (newest_at bytes_of c.args.entries.now c.loop-place.place c.index-entries-place.result
          c.index-entries-place.is c.loop-place-test.true));
    }
