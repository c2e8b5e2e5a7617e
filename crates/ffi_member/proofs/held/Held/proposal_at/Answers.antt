-- How the contract of `proposal_at` follows: the proposal at the index of the offers is shown flat.
use Rattle.ffi_member.proofs.held.Held.proposal_at.Goals as goal

pub returns : goal.returns
returns c = (c.in_ok-proposal.proposal.now, c.in_ok-proposal.ensures, c.flat_proposal.ensures)
