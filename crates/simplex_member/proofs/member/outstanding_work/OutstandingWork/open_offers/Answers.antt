-- How the contract of `open_offers` follows: each proposal that is offered puts its view among the offers.
use Rattle.std.proofs.Common.{sym, ap, ◌∙◌, ◌∷◌, ◌+◌, drop}
use Rattle.std.proofs.lemmas.List.{drop_more}
use Rattle.std.specs.FinMap as map
use Rattle.simplex_voter.proofs.Containers.{keys-insert}
use Rattle.simplex_voter.proofs.RoundsKept.{noted}
use Rattle.simplex_member.specs.OutstandingWork.{with_offers, views_of}
use Rattle.simplex_member.proofs.member.outstanding_work.OutstandingWork.open_offers.Goals as goal

pub loop-proposal-preserved : goal.loop-proposal-preserved
loop-proposal-preserved g c =
    let i = c.loop-proposal.self-inside in
    let at = c.loop-proposal.proposal-index in
    let all = c.args.proposals.now in
    let item = c.proposal-item.result in
    let next = drop_more all at item c.loop-proposal-test.true
    ∙ ap (λ p. p ∷ drop (at + 1) all) (sym c.proposal-item.is) in
    let offered = c.in_ok-insert.ensures.after ∙ noted i.offered item.round.view _ c.in_ok-insert.ensures.standing in
    rw (offered, keys-insert i.offered item.round.view tt)
    (ap (with_offers (record {
      contexts = i.contexts.entries;
      verifying = views_of i.verifying.entries;
      offered = map.keys i.offered;
    })) (sym next) ∙ c.loop-proposal.invariant)
