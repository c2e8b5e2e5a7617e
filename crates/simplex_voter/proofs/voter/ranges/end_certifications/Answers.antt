-- How the contract of `end_certifications` follows: none is under way below where the walk begins, and each round that
-- it meets is ended.
use Rattle.std.proofs.Common.{◌≡◌, ◌<◌, ◌≤◌, ◌∙◌, refl, arith}
use Rattle.std.specs.FinMap as map
use Rattle.simplex_view_maps.proofs.Gaps.{gt_no, gt_yes}
use Rattle.simplex_voter.specs.Certification.{without_token}
use Rattle.simplex_voter.proofs.Walked.{at_first, at_none, walked_on, walked_step, walked_entries}
use Rattle.simplex_voter.proofs.RaisedFinal.{ends_begin}
use Rattle.simplex_voter.proofs.voter.ranges.end_certifications.Goals as goal

pub loop-entry-init : goal.loop-entry-init
loop-entry-init g c = record {
  in_range = grind (arith, c.min-next.ensures);
  ended = ends_begin _ c.args.from _ c.requires.quiet (grind (arith, c.min-next.ensures));
}

pub loop-entry-smaller : goal.loop-entry-smaller
loop-entry-smaller g c =
    let first = at_first _ _ _ c.in-Some.ensures in
    let lower : c.in-Some.entry.0 ≤ c.args.view = gt_no _ _ c.if-gt.ensures in
    let next = c.next-next.ensures in
    omega (arith, first.0, lower, next)

pub loop-entry-preserved : goal.loop-entry-preserved
loop-entry-preserved g c =
    let first = at_first _ _ _ c.in-Some.ensures in
    let lower : c.in-Some.entry.0 ≤ c.args.view = gt_no _ _ c.if-gt.ensures in
    let next = c.next-next.ensures in
    let ended : c.end_certification.new.rounds ≡ map.insert c.loop-entry.rounds c.in-Some.entry.0
    (without_token c.in-Some.entry.1.now) = c.end_certification.ensures ∙ rw first.1 refl in
    record {
      in_range = omega (arith, lower, next);
      ended = rw (ended, next) (walked_step _ _ without_token _ _ c.in-Some.ensures c.loop-entry.invariant.ended);
    }

pub returns-then-gt : goal.returns-then-gt
returns-then-gt g c =
    let first = at_first _ _ _ c.in-Some.ensures in
    let above : c.args.view < c.in-Some.entry.0 = gt_yes _ _ c.if-gt.ensures in
    walked_entries _ _ without_token c.args.view
    (walked_on _ _ without_token _ _ c.loop-entry.invariant.in_range
    (λ q within lower. first.2 q within (omega arith)) c.loop-entry.invariant.ended)

pub returns-in_default : goal.returns-in_default
returns-in_default g c =
    walked_entries _ _ without_token c.args.view
    (walked_on _ _ without_token _ _ c.loop-entry.invariant.in_range
    (λ q within lower. at_none _ _ c.in_default.ensures q within) c.loop-entry.invariant.ended)
