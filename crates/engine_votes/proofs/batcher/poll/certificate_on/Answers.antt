use Rattle.std.proofs.Common.{ap, sym, ◌∙◌, length}
use Rattle.simplex_types.specs.Quorums.{quorum_of}
use Rattle.engine_votes.proofs.Polls.{rising_on}
use Rattle.engine_votes.proofs.batcher.poll.certificate_on.Goals as goal

pub assemble-requires-clause-quorum : goal.assemble-requires-clause-quorum
assemble-requires-clause-quorum g c =
    ap length c.as_slice.ensures.value ∙ ap length c.in_ok-signatures.ensures ∙ sym c.count_on.ensures
    ∙ c.if-count_on-quorum.false ∙ c.quorum.ensures ∙ ap quorum_of (sym c.requires)

pub assemble-requires-clause-rising : goal.assemble-requires-clause-rising
assemble-requires-clause-rising g c =
    rw (c.requires, c.as_slice.ensures.value, c.in_ok-signatures.ensures)
    (rising_on g.D.PartialEq.eq c.args.subject.now c.args.members c.args.slots.now)
