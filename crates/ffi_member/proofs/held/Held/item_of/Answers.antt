-- How the contract of `item_of` follows: a proposal to certify is shown as its numbers and its payload's bytes.
use Rattle.ffi_member.proofs.Items.{proposal_shown}
use Rattle.ffi_member.proofs.held.Held.item_of.Goals as goal

pub returns-in-Proposals : goal.returns-in-Proposals
returns-in-Proposals c = rw c.in-Proposals.is (proposal_shown c.proposal_at.result _ _ c.proposal_item.result
    c.proposal_at.ensures c.proposal_item.ensures.item c.proposal_item.ensures.status)
