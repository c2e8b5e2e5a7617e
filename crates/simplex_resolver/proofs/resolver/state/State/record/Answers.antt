-- How the contract of `record` follows: by the certificate's kind: what it settles, followed by what the scan fetches.
use Rattle.std.proofs.Common.{◌≡◌, List, ◌++◌, ap, ◌∙◌}
use Rattle.simplex_resolver.specs.Steps.{after_scan, scan_fetches}
use Rattle.simplex_resolver.proofs.resolver.state.State.record.Goals as goal
use Rattle.simplex_resolver.proofs.resolver.state.State.record.Goals.{in-Nullification+in_ok-record_nullification-in-Nullification, in-Notarization+in_ok-record_notarization-in-Notarization, in-Finalization+in_ok-record_finalization-in-Finalization}

-- what is settled, followed by what a scan fetches
both : {A B : Type 0} (scanned : B → List A) (xs ys : List A) (x y : B) → xs ≡ ys → x ≡ y
    → xs ++ scanned x ≡ ys ++ scanned y
both scanned xs ys x y same alike = ap (λ l. l ++ scanned x) same ∙ ap (λ z. ys ++ scanned z) alike

pub returns-clause-after : goal.returns-clause-after
returns-clause-after g c = c.in_ok-fetch_missing.ensures.after ∙ elim c.match-certificate.branch [
  | in-Nullification+in_ok-record_nullification-in-Nullification w ↦
      rw w.in-Nullification.is (ap after_scan
      (w.self-is ∙ (rw (c.view-view.ensures, w.in-Nullification.is) at
      w.in_ok-record_nullification-in-Nullification.ensures.after)))
  | in-Notarization+in_ok-record_notarization-in-Notarization w ↦
      rw w.in-Notarization.is (ap after_scan (w.self-is
      ∙ (rw (c.view-view.ensures, w.in-Notarization.is) at
      w.in_ok-record_notarization-in-Notarization.ensures.after)))
  | in-Finalization+in_ok-record_finalization-in-Finalization w ↦
      rw w.in-Finalization.is (ap after_scan (w.self-is
      ∙ (rw (c.view-view.ensures, w.in-Finalization.is) at
      w.in_ok-record_finalization-in-Finalization.ensures.after)))
]

pub returns-clause-effects : goal.returns-clause-effects
returns-clause-effects g c = c.in_ok-fetch_missing.ensures.fetched ∙ elim c.match-certificate.branch [
  | in-Nullification+in_ok-record_nullification-in-Nullification w ↦
      let settled = ap (λ es. es.items) w.effects-is
      ∙ (rw c.new-effects.ensures.items at w.in_ok-record_nullification-in-Nullification.ensures.settled) in
      let kept = w.self-is ∙ w.in_ok-record_nullification-in-Nullification.ensures.after in
      rw (c.view-view.ensures, w.in-Nullification.is)
      (rw (c.view-view.ensures, w.in-Nullification.is) at
      (both (λ x. scan_fetches x c.view-view.result) _ _ _ _ settled kept))
  | in-Notarization+in_ok-record_notarization-in-Notarization w ↦
      let settled = ap (λ es. es.items) w.effects-is
      ∙ (rw c.new-effects.ensures.items at w.in_ok-record_notarization-in-Notarization.ensures.settled) in
      let kept = w.self-is ∙ w.in_ok-record_notarization-in-Notarization.ensures.after in
      rw (c.view-view.ensures, w.in-Notarization.is)
      (rw (c.view-view.ensures, w.in-Notarization.is) at
      (both (λ x. scan_fetches x c.view-view.result) _ _ _ _ settled kept))
  | in-Finalization+in_ok-record_finalization-in-Finalization w ↦
      let settled = ap (λ es. es.items) w.effects-is
      ∙ (rw c.new-effects.ensures.items at w.in_ok-record_finalization-in-Finalization.ensures.settled) in
      let kept = w.self-is ∙ w.in_ok-record_finalization-in-Finalization.ensures.after in
      rw (c.view-view.ensures, w.in-Finalization.is)
      (rw (c.view-view.ensures, w.in-Finalization.is) at
      (both (λ x. scan_fetches x c.view-view.result) _ _ _ _ settled kept))
]
