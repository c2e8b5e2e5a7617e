use Rattle.std.proofs.Common.{◌<◌, length, arith, ap, ◌∙◌}
use Rattle.engine_votes.specs.Polls.{ballot_of}
use Rattle.engine_votes.proofs.VoteCounts.{put_adds, put_back}
use Rattle.engine_votes.proofs.batcher.poll.take.Goals as goal

pub returns-in-Ok-None-clause-counted : goal.returns-in-Ok-None-clause-counted
returns-in-Ok-None-clause-counted g c =
    let within : c.args.vote.signer < length c.args.slots.now.items =
    omega (arith, c.requires.room, c.args.slots.now.ok) in (
      put_adds c.args.slots.now.items c.args.vote c.get-member.result c.get-member.ensures within c.requires.first,
      rw (← c.deref.ensures.value) (rw c.in-Ok-None.field-0-is at c.in-Ok-None.ensures),
    )

pub returns-in-Ok-Some-clause-counted : goal.returns-in-Ok-Some-clause-counted
returns-in-Ok-Some-clause-counted g c =
    let within : c.args.vote.signer < length c.args.slots.now.items =
    omega (arith, c.requires.room, c.args.slots.now.ok) in
    let made = rw c.in-Ok-Some.field-0-is at c.in-Ok-Some.ensures in (
      put_adds c.args.slots.now.items c.args.vote c.get-member.result c.get-member.ensures within c.requires.first,
      rw (← c.deref.ensures.value) made.0,
      (c.in-Ok-Some.certificate, c.wrap.ensures, rw (← c.deref.ensures.value) made.1),
    )

pub returns-in-Err-clause-kept : goal.returns-in-Err-clause-kept
returns-in-Err-clause-kept g c = λ m. put_back c.args.slots.now.items c.get-member.result _
    (ap (ballot_of c.args.slots.now.items) c.get-member.ensures ∙ c.requires.first) m
