-- How the contract of `put_subject` follows: after the byte of its kind comes the round or the proposal.
use Rattle.simplex_types.specs.Encoding.{round_bytes, proposal_bytes}
use Rattle.simplex_codec.proofs.Appended.{behind_kind}
use Rattle.simplex_codec.proofs.fields.put_subject.Goals as goal

pub returns-in_ok-put_u8-in-Notarize-clause-written : goal.returns-in_ok-put_u8-in-Notarize-clause-written
returns-in_ok-put_u8-in-Notarize-clause-written g c =
    rw c.in-Notarize.is
    (behind_kind c.put_proposal.result c.args.out.now.items c.put_u8.new.self.items c.put_proposal.new.out.items
    (proposal_bytes g.D.Digest.bytes c.in-Notarize.proposal) 0 c.in_ok-put_u8-in-Notarize.ensures.ok
    c.put_proposal.ensures.written)

pub returns-in_ok-put_u8-in-Nullify-clause-written : goal.returns-in_ok-put_u8-in-Nullify-clause-written
returns-in_ok-put_u8-in-Nullify-clause-written g c =
    rw c.in-Nullify.is (behind_kind c.put_round.result c.args.out.now.items c.put_u8-in-Nullify.new.self.items
    c.put_round.new.out.items
    (round_bytes c.in-Nullify.round) 1 c.in_ok-put_u8-in-Nullify.ensures.ok c.put_round.ensures.written)

pub returns-in_ok-put_u8-in-Finalize-clause-written : goal.returns-in_ok-put_u8-in-Finalize-clause-written
returns-in_ok-put_u8-in-Finalize-clause-written g c =
    rw c.in-Finalize.is (behind_kind c.put_proposal-in-Finalize.result c.args.out.now.items
    c.put_u8-in-Finalize.new.self.items c.put_proposal-in-Finalize.new.out.items
    (proposal_bytes g.D.Digest.bytes c.in-Finalize.proposal) 2 c.in_ok-put_u8-in-Finalize.ensures.ok
    c.put_proposal-in-Finalize.ensures.written)
