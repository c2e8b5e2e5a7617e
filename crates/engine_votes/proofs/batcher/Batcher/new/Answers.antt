use Rattle.engine_votes.specs.declared.batcher.Batcher.{Batcher}
use Rattle.engine_votes.proofs.StoredVotes.{nothing_held}
use Rattle.engine_votes.proofs.Given.{none_given}
use Rattle.engine_votes.proofs.batcher.Batcher.new.Goals as goal

pub returns-clause-nothing : goal.returns-clause-nothing
returns-clause-nothing g c =
    let made : Batcher g.row.S.Denot g.row.D.Denot g.row.S-PublicKey.Denot g.row.S-Signature.Denot
    g.row.S-Certificate.Denot =
    record {
      alloc = c.args.alloc;
      scheme = c.args.scheme;
      notarize = c.new.result;
      nullify = c.new-2.result;
      finalize = c.new-3.result;
    } in
    nothing_held made c.new.ensures c.new-2.ensures c.new-3.ensures

pub returns-clause-given : goal.returns-clause-given
returns-clause-given g c =
    let made : Batcher g.row.S.Denot g.row.D.Denot g.row.S-PublicKey.Denot g.row.S-Signature.Denot
    g.row.S-Certificate.Denot =
    record {
      alloc = c.args.alloc;
      scheme = c.args.scheme;
      notarize = c.new.result;
      nullify = c.new-2.result;
      finalize = c.new-3.result;
    } in
    none_given made (nothing_held made c.new.ensures c.new-2.ensures c.new-3.ensures)
