-- How the contract of `read_proposal_vote` follows: a signature that its scheme refuses is the cause, after a signer
-- and a proposal.
use Rattle.std.proofs.Common.{sym, ◌∙◌}
use Rattle.simplex_codec.proofs.artifact.read_proposal_vote.Goals as goal

pub returns-in-None-clause-refused : goal.returns-in-None-clause-refused
returns-in-None-clause-refused g c = record {
  signer = c.in-Some.signer;
  rest = c.in-Some.rest.now;
  fits = c.in-Some.ensures.fits;
  parts = c.in-Some.ensures.parts;
  refused = record {
    proposal = c.in_ok-proposal.proposal;
    own = c.in_ok-proposal.own.now;
    fits = c.in_ok-proposal.ensures.fits;
    parts = c.in_ok-proposal.ensures.parts;
    unreadable = sym c.in_ok-signature.ensures.read ∙ c.in-None.is;
  };
}
