use Rattle.std.proofs.Common.{◌≡◌, arith, ap, sym, ◌∙◌, length}
use Rattle.engine_votes.specs.Polls.{signatures_on}
use Rattle.engine_votes.proofs.Polls.{more_yes, more_no}
use Rattle.engine_votes.proofs.batcher.poll.count_on.Goals as goal
use Rattle.engine_votes.proofs.batcher.poll.count_on.Goals.{then-is_on, else-is_on}

pub loop-member-preserved : goal.loop-member-preserved
loop-member-preserved g c =
    let same = g.D.PartialEq.eq in
    let subject = c.args.subject.now in
    let slots = c.args.slots.now in
    elim c.if-is_on.branch [
      | then-is_on w ↦ let more = more_yes same subject c.loop-member.member slots
          (sym c.is_on.ensures ∙ w.if-is_on.true) in
          record {
            counted = cc (more, w.count-is, c.loop-member.invariant.counted);
            few = omega (arith, w.count-is, c.loop-member.invariant.few);
          }
      | else-is_on w ↦ let more =
          ap length (more_no same subject c.loop-member.member slots (sym c.is_on.ensures ∙ w.if-is_on.false)) in
          record {
            counted = cc (more, w.count-is, c.loop-member.invariant.counted);
            few = omega (arith, w.count-is, c.loop-member.invariant.few);
          }
    ]

pub returns : goal.returns
returns g c =
    let end : c.loop-member.member ≡ c.args.members = omega arith in
    c.loop-member.invariant.counted
    ∙ ap (λ n. length (signatures_on g.D.PartialEq.eq c.args.subject.now n c.args.slots.now)) end
