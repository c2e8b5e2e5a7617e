-- What a batcher stores was passed in, is valid where that is, and is of members and of views up to one.
use Rattle.std.proofs.Common.{length, [], ◌∷◌, ◌++◌}
use Rattle.engine_votes.proofs.Given.{count_given}
use Rattle.engine_votes.proofs.Good.{result_good}
use Rattle.engine_votes.proofs.Within.{count_within}
use Rattle.engine_votes.proofs.batcher.Batcher.count.Goals as goal

pub returns-clause-given : goal.returns-clause-given
returns-clause-given g c = λ given are.
    count_given given c.args.self.now c.count_vote.new.self are g.D.PartialEq.eq
    (g.S.Assembly.IsMadeOf c.args.self.now.scheme)
    (length (g.S.CertificateScheme.participants c.args.self.now.scheme)) c.args.is_admitted c.args.vote
    c.count_vote.result c.count_vote.ensures.counted c.count_vote.ensures.kept

pub returns-clause-good : goal.returns-clause-good
returns-clause-good g c = λ given are good.
    let scheme = c.args.self.now.scheme in
    let keys = g.S.CertificateScheme.participants scheme in
    result_good g.D.PartialEq.eq g.met.D.Digest.equal_is_same g.S.Scheme.IsSignature keys (g.S.Assembly.IsMadeOf scheme)
    (g.S.Scheme.accepts scheme)
    (g.met.S.Assembly.made_is_good scheme) c.args.is_admitted c.args.self.now c.count_vote.new.self c.args.vote
    (given ++ c.args.vote ∷ [])
    (count_given given c.args.self.now c.count_vote.new.self are g.D.PartialEq.eq (g.S.Assembly.IsMadeOf scheme)
    (length keys) c.args.is_admitted c.args.vote c.count_vote.result c.count_vote.ensures.counted
    c.count_vote.ensures.kept)
    good c.count_vote.result c.count_vote.ensures.counted

pub returns-clause-within : goal.returns-clause-within
returns-clause-within g c = λ highest admits within.
    count_within g.D.PartialEq.eq (g.S.Assembly.IsMadeOf c.args.self.now.scheme)
    (length (g.S.CertificateScheme.participants c.args.self.now.scheme)) c.args.is_admitted
    c.args.self.now c.count_vote.new.self c.args.vote highest admits within c.count_vote.result
    c.count_vote.ensures.counted c.count_vote.ensures.kept
