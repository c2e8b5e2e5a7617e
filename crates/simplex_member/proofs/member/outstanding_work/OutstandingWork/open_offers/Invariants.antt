-- The loop of `open_offers`: the offers opened so far, together with the remaining proposals, are the result.
use Rattle.std.proofs.Common.{◌≡◌, drop}
use Rattle.std.specs.FinMap as map
use Rattle.simplex_member.specs.OutstandingWork.{with_offers, views_of}
use Rattle.simplex_member.proofs.member.outstanding_work.OutstandingWork.open_offers.Given as goal

abbrev pub invariant-loop-proposal : goal.invariant-loop-proposal
invariant-loop-proposal g l =
    let i = l.self-inside in
    with_offers (record {
      contexts = i.contexts.entries;
      verifying = views_of i.verifying.entries;
      offered = map.keys i.offered;
    }) (drop l.proposal-index l.fn.proposals)
    ≡ with_offers l.fn.self.open_now l.fn.proposals
