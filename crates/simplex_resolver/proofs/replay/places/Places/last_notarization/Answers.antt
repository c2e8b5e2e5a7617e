-- How the contract of `last_notarization` follows: a notarization after the places, else the one at the noted place, is
-- the last of its view.
use Rattle.std.proofs.Common.{◌≡◌, ◌<◌, length, Some, None, refl, ap, sym, ◌∙◌, arith}
use Rattle.std.specs.Option.{option_and_then, option_copied}
use Rattle.std.proofs.lemmas.Option.{slice_get_read}
use Rattle.std.specs.FinMap as map
use Rattle.simplex_types.specs.Certificates.{notarization_facts}
use Rattle.simplex_resolver.proofs.Noted.{found_behind, found_at_place, read_place, at_place, same_some}
use Rattle.simplex_resolver.proofs.replay.places.Places.last_notarization.Goals as goal

pub returns-then-is_some : goal.returns-then-is_some
returns-then-is_some g c =
    let bytes_of = g.S.CertificateScheme.certificate_bytes in
    found_behind bytes_of c.args.self.now c.args.entries.now c.requires c.args.view _ c.last_notarization-behind.ensures
    (same_some (notarization_facts bytes_of) (option_copied c.last_notarization-behind.result)
    ∙ same_some (λ n. n.now) c.last_notarization-behind.result ∙ sym c.if-is_some.ensures)

pub returns-in_default : goal.returns-in_default
returns-in_default g c =
    let bytes_of = g.S.CertificateScheme.certificate_bytes in
    let none : map.get c.args.self.now.by_view c.args.view ≡ None = sym c.get.ensures ∙ sym c.copied.ensures
    ∙ c.in_default.is in
    sym (ap (option_and_then (at_place bytes_of c.args.entries.now c.args.view)) none)
    ∙ found_at_place bytes_of c.args.self.now c.args.entries.now c.requires c.args.view _
    c.last_notarization-behind.ensures
    (same_some (notarization_facts bytes_of) (option_copied c.last_notarization-behind.result)
    ∙ same_some (λ n. n.now) c.last_notarization-behind.result ∙ sym c.if-is_some.ensures)

pub offset_bounds-entries-place : goal.offset_bounds-entries-place
offset_bounds-entries-place g c =
    let low = c.requires.within c.args.view c.in-Some.place (sym c.get.ensures ∙ sym c.copied.ensures ∙ c.in-Some.is) in
    let count = c.requires.count in omega (arith, low, count)

pub bounds-entries-place : goal.bounds-entries-place
bounds-entries-place g c =
    let low = c.requires.within c.args.view c.in-Some.place (sym c.get.ensures ∙ sym c.copied.ensures ∙ c.in-Some.is) in
    let count = c.requires.count in omega (arith, low, count)

pub returns : goal.returns
returns g c =
    let bytes_of = g.S.CertificateScheme.certificate_bytes in
    let is : map.get c.args.self.now.by_view c.args.view ≡ Some c.in-Some.place = sym c.get.ensures
    ∙ sym c.copied.ensures ∙ c.in-Some.is in
    let low = c.requires.within c.args.view c.in-Some.place is in
    let count = c.requires.count in
    let within : c.in-Some.place < length c.args.entries.now = omega (arith, low, count) in
    c.notarization_at.ensures
    ∙ read_place bytes_of c.args.self.now c.args.entries.now c.requires c.args.view c.in-Some.place
    c.index-entries-place.result
    (slice_get_read c.args.entries.now _ c.in-Some.place c.index-entries-place.result refl within
    c.index-entries-place.is) is
    ∙ found_at_place bytes_of c.args.self.now c.args.entries.now c.requires c.args.view _
    c.last_notarization-behind.ensures
    (same_some (notarization_facts bytes_of) (option_copied c.last_notarization-behind.result)
    ∙ same_some (λ n. n.now) c.last_notarization-behind.result ∙ sym c.if-is_some.ensures)
