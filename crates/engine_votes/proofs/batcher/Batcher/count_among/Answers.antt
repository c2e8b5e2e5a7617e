use Rattle.std.proofs.Common.{ap}
use Rattle.simplex_types.specs.MessageViews.{subject_view}
use Rattle.engine_votes.specs.StoredVotes.{held, kind_of}
use Rattle.engine_votes.proofs.VoteCounts.{counted_as}
use Rattle.engine_votes.proofs.batcher.Batcher.count_among.Goals as goal

pub returns-in-Notarize-clause-counted : goal.returns-in-Notarize-clause-counted
returns-in-Notarize-clause-counted g c =
    let kind = ap kind_of c.in-Notarize.is in
    counted_as g.D.PartialEq.eq (g.S.Assembly.IsMadeOf c.args.self.now.scheme) c.args.members c.count_at.result
    c.args.vote _ _ _ _
    (ap (λ k. held c.args.self.now k (subject_view c.args.vote.subject)) kind)
    (ap (λ k. held (record c.args.self.now { notarize = c.count_at.new.polls }) k (subject_view c.args.vote.subject))
    kind)
    c.count_at.ensures.counted

pub returns-in-Nullify-clause-counted : goal.returns-in-Nullify-clause-counted
returns-in-Nullify-clause-counted g c =
    let kind = ap kind_of c.in-Nullify.is in
    counted_as g.D.PartialEq.eq (g.S.Assembly.IsMadeOf c.args.self.now.scheme) c.args.members
    c.count_at-in-Nullify.result c.args.vote _ _ _ _
    (ap (λ k. held c.args.self.now k (subject_view c.args.vote.subject)) kind)
    (ap (λ k. held (record c.args.self.now { nullify = c.count_at-in-Nullify.new.polls }) k
    (subject_view c.args.vote.subject)) kind)
    c.count_at-in-Nullify.ensures.counted

pub returns-in-Finalize-clause-counted : goal.returns-in-Finalize-clause-counted
returns-in-Finalize-clause-counted g c =
    let kind = ap kind_of c.in-Finalize.is in
    counted_as g.D.PartialEq.eq (g.S.Assembly.IsMadeOf c.args.self.now.scheme) c.args.members
    c.count_at-in-Finalize.result c.args.vote _ _ _ _
    (ap (λ k. held c.args.self.now k (subject_view c.args.vote.subject)) kind)
    (ap (λ k. held (record c.args.self.now { finalize = c.count_at-in-Finalize.new.polls }) k
    (subject_view c.args.vote.subject)) kind)
    c.count_at-in-Finalize.ensures.counted
