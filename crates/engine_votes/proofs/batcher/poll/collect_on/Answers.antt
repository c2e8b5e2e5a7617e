use Rattle.std.proofs.Common.{◌≡◌, arith, ap, ◌∙◌, append-nil}
use Rattle.engine_votes.specs.Polls.{signatures_on, signed_by}
use Rattle.engine_votes.proofs.Polls.{more_on}
use Rattle.engine_votes.proofs.batcher.poll.collect_on.Goals as goal
use Rattle.engine_votes.proofs.batcher.poll.collect_on.Goals.{in-Some+in_ok-push, in_default}

pub loop-member-preserved : goal.loop-member-preserved
loop-member-preserved g c =
    let more = more_on g.D.PartialEq.eq c.args.subject.now c.loop-member.member c.args.slots.now in
    elim c.match-branch-2.branch [
      | in-Some+in_ok-push w ↦
          let same = ap (λ s. s.items) w.signatures-is in
          let own = ap (signed_by c.loop-member.member) w.in-Some.is in
          cc (more, same, own, w.in_ok-push.ensures.items, c.loop-member.invariant, c.in_ok-signature.ensures)
      | in_default w ↦
          let same = ap (λ s. s.items) w.signatures-is in
          let own = ap (signed_by c.loop-member.member) w.in_default.is in
          let none =
          append-nil (signatures_on g.D.PartialEq.eq c.args.subject.now c.loop-member.member c.args.slots.now) in
          cc (more, same, own, none, c.loop-member.invariant, c.in_ok-signature.ensures)
    ]

pub returns : goal.returns
returns g c =
    let end : c.loop-member.member ≡ c.args.members = omega arith in
    c.loop-member.invariant ∙ ap (λ n. signatures_on g.D.PartialEq.eq c.args.subject.now n c.args.slots.now) end
