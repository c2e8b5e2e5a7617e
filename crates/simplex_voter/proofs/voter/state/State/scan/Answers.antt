-- How the contract of `scan` follows: the views below the next one are passed without an answer, so the first answer is
-- the scan's.
use Rattle.std.proofs.Common.{is_some, ap, sym, subst, arith}
use Rattle.simplex_voter.proofs.VerifyScan.{IsScanned, scan_starts, first_there, visited_on, visited_after, visited_answer, goes_onward, onward_within, ended_after, ended_answer}
use Rattle.simplex_voter.proofs.voter.state.State.scan.Goals as goal

pub loop-view-init : goal.loop-view-init
loop-view-init g c =
    let current = ap (λ x. x.current) c.self.view_is in
    record {
      above = omega (arith, current);
      within = omega (arith, current, c.last_ahead-last.ensures.room.0);
      room = c.last_ahead-last.ensures.room.1;
      last = c.last_ahead-last.ensures.last;
      near = c.last_near-near.ensures;
      ordered = c.views_within-ahead.ensures.ordered;
      passed =
          subst (IsScanned g.D.PartialEq.eq g.L.Elector.elect c.args.self.now c.args.self.now) (sym current)
          (scan_starts g.D.PartialEq.eq g.L.Elector.elect c.args.self.now);
    }

pub visit-requires : goal.visit-requires
visit-requires g c =
    let at = first_there c.loop-view.self.rounds _ _ _ c.in-Some.ensures.ordered c.in-Some.ensures.found in
    ap is_some at.1

pub returns-in-Some-visit-clause-answer : goal.returns-in-Some-visit-clause-answer
returns-in-Some-visit-clause-answer g c =
    visited_answer g.D.PartialEq.eq g.L.Elector.elect c.args.self.now c.loop-view.invariant.ordered c.loop-view.self
    c.loop-view.from c.loop-view.invariant.passed c.in-Some.ensures.ordered c.loop-view.invariant.above _
    c.loop-view.invariant.last c.in-Some.view c.in-Some.ensures.found c.in-Some-visit.answer
    c.in-Some-visit.ensures.answer

pub returns-in-Some-visit-clause-after : goal.returns-in-Some-visit-clause-after
returns-in-Some-visit-clause-after g c =
    visited_after g.D.PartialEq.eq g.L.Elector.elect c.args.self.now c.loop-view.invariant.ordered c.loop-view.self
    c.loop-view.from c.loop-view.invariant.passed c.in-Some.ensures.ordered c.loop-view.invariant.above _
    c.loop-view.invariant.last c.in-Some.view c.in-Some.ensures.found _ c.in-Some-visit.answer
    c.in-Some-visit.ensures.left c.in-Some-visit.ensures.answer

pub next-requires : goal.next-requires
next-requires g c =
    let at = first_there c.loop-view.self.rounds _ _ _ c.in-Some.ensures.ordered c.in-Some.ensures.found in
    omega (arith, at.3, c.loop-view.invariant.room)

pub loop-view-smaller : goal.loop-view-smaller
loop-view-smaller g c =
    let at = first_there c.loop-view.self.rounds _ _ _ c.in-Some.ensures.ordered c.in-Some.ensures.found in
    let on = onward_within _ _ _ _ _ c.next_scanned-from.ensures c.next.ensures at.3 in
    omega (arith, at.2, at.3, c.next.ensures, on.0)

pub loop-view-preserved : goal.loop-view-preserved
loop-view-preserved g c =
    let at = first_there c.loop-view.self.rounds _ _ _ c.in-Some.ensures.ordered c.in-Some.ensures.found in
    let on = onward_within _ _ _ _ _ c.next_scanned-from.ensures c.next.ensures at.3 in
    record {
      above = omega (arith, at.2, c.next.ensures, on.0, c.loop-view.invariant.above);
      within = on.1;
      room = c.loop-view.invariant.room;
      last = c.loop-view.invariant.last;
      near = c.loop-view.invariant.near;
      ordered = c.loop-view.invariant.ordered;
      passed =
          goes_onward g.D.PartialEq.eq g.L.Elector.elect c.args.self.now _ _ _ _ _ c.loop-view.invariant.near
          c.loop-view.invariant.last (omega (arith, c.loop-view.invariant.room)) c.next_scanned-from.ensures
          (rw c.next.ensures (visited_on g.D.PartialEq.eq g.L.Elector.elect c.args.self.now
          c.loop-view.invariant.ordered c.loop-view.self c.loop-view.from c.loop-view.invariant.passed
          c.in-Some.ensures.ordered c.loop-view.invariant.above _ c.loop-view.invariant.last c.in-Some.view
          c.in-Some.ensures.found _ c.in_default-visit.ensures.left c.in_default-visit.ensures.answer));
    }

pub returns-clause-answer : goal.returns-clause-answer
returns-clause-answer g c =
    ended_answer g.D.PartialEq.eq g.L.Elector.elect c.args.self.now c.loop-view.invariant.ordered c.loop-view.self
    c.loop-view.from c.loop-view.invariant.passed c.in_default.ensures.ordered c.loop-view.invariant.above _
    c.loop-view.invariant.last c.loop-view.invariant.within c.in_default.ensures.found

pub returns-clause-after : goal.returns-clause-after
returns-clause-after g c =
    ended_after g.D.PartialEq.eq g.L.Elector.elect c.args.self.now c.loop-view.invariant.ordered c.loop-view.self
    c.loop-view.from c.loop-view.invariant.passed c.in_default.ensures.ordered c.loop-view.invariant.above _
    c.loop-view.invariant.last c.loop-view.invariant.within c.in_default.ensures.found
