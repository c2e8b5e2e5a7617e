-- That nothing but what is planned changes.
use Rattle.std.proofs.Common.{ap, refl}
use Rattle.std.specs.Prelude.{not}
use Rattle.simplex_member.specs.Calls.{reply_facts}
use Rattle.engine_planner.proofs.PlannedWork.{among_both, among_further, among_still, plans_seen}
use Rattle.engine_planner.proofs.Consequences.{followed_plans}
use Rattle.simplex_engine.proofs.BuildBounds.{come_same}
use Rattle.engine_planner.specs.Tasks.{call_of}
use Rattle.engine_planner.proofs.GivenWork.{followed_by}
use Rattle.engine_planner.proofs.AskedSteps.{asks_over, asks_then, followed_asks}
use Rattle.simplex_engine.specs.Provenance.{is_final}
use Rattle.simplex_engine.proofs.engine.Engine.follow.Goals as goal

pub returns-in_err-update_views-clause-core : goal.returns-in_err-update_views-clause-core
returns-in_err-update_views-clause-core g c = c.update_views.ensures.core

pub returns-in_err-update_views-clause-batcher : goal.returns-in_err-update_views-clause-batcher
returns-in_err-update_views-clause-batcher g c = c.update_views.ensures.batcher

pub returns-in_err-follow-clause-core : goal.returns-in_err-follow-clause-core
returns-in_err-follow-clause-core g c = c.update_views.ensures.core

pub returns-in_err-follow-clause-batcher : goal.returns-in_err-follow-clause-batcher
returns-in_err-follow-clause-batcher g c = c.update_views.ensures.batcher

pub returns : goal.returns
returns g c =
    let bytes_of = g.S.CertificateScheme.certificate_bytes in
    let follows = followed_plans c.update_views.new.self.plan c.follow.new.self g.D.Digest.bytes bytes_of c.args.now
    c.args.task c.args.reply c.in_ok-follow.ensures.followed in
    record {
      core = c.update_views.ensures.core;
      batcher = c.update_views.ensures.batcher;
      of_use = ap not c.says_nothing-is_of_use.ensures;
      followed = record {
        seen = c.update_views.new.self.plan;
        sees = c.in_ok-update_views.ensures.sees;
        followed = c.in_ok-follow.ensures.followed;
      };
      planned = plans_seen c.args.self.now.plan c.update_views.new.self.plan c.follow.new.self c.args.task
          (reply_facts bytes_of c.args.reply) c.in_ok-update_views.ensures.planned follows;
      seen = come_same c.update_views.new.self (record (c.update_views.new.self) { plan = c.follow.new.self }) refl
          follows.reached c.in_ok-update_views.ensures.seen;
      causes = among_further
          (followed_by g.D.Digest.bytes bytes_of c.args.now c.args.task (call_of c.args.task c.args.now) c.args.reply
          c.update_views.new.self.plan c.follow.new.self c.in_ok-follow.ensures.followed)
          (among_both c.in_ok-update_views.ensures.causes (among_still _));
      asks = asks_then c.in_ok-update_views.ensures.asks
          (asks_over (λ kind view. is_final c.update_views.new.self.core.member.facts view)
          (followed_asks g.D.Digest.bytes bytes_of c.args.now c.args.task c.args.reply c.update_views.new.self.plan
          c.follow.new.self c.in_ok-follow.ensures.followed));
    }
