-- The effect of a vote follows from the result of counting it.
use Rattle.std.proofs.Common.{length}
use Rattle.simplex_engine.proofs.CertificateVotes.{backed_by_none}
use Rattle.simplex_engine.proofs.Bounds.{bounded_counted}
use Rattle.engine_outbox.proofs.Continuity.{stays}
use Rattle.engine_planner.proofs.PlanStates.{on_ok}
use Rattle.simplex_engine.proofs.InputResults.{taken_counted}
use Rattle.simplex_engine.proofs.Provenance.{comes_wider, counted_of}
use Rattle.simplex_engine.proofs.NoMissingCertificates.{vote_lacks_none}
use Rattle.simplex_engine.proofs.engine.Engine.count_admitted.Goals as goal

pub returns-in-Err : goal.returns-in-Err
returns-in-Err g c =
    let engine = c.args.self.now in
    let keys_of = g.S.CertificateScheme.participants in
    record {
      continues = stays engine.core;
      votes = record { are_given = c.count.ensures.given; scheme = c.count.ensures.scheme };
      held = tt;
      backed = backed_by_none (length (keys_of engine.batcher.scheme)) (stays engine.core);
      dropped = tt;
      unadmitted = λ _. tt;
      bounded = bounded_counted keys_of engine.core engine.batcher c.count.new.self c.args.vote.subject
          c.count.ensures.within c.count.ensures.scheme c.requires;
      acted = λ _. tt;
      due_work = tt;
      ignored = tt;
      provenance = tt;
    }

pub returns-in-Ok : goal.returns-in-Ok
returns-in-Ok g c =
    let engine = c.args.self.now in
    taken_counted g.D.PartialEq.eq g.L.Elector.elect g.D.Digest.bytes g.S.CertificateScheme.certificate_bytes
    g.S.Assembly.IsMadeOf g.S.CertificateScheme.participants c.args.now
    g.met.D.Digest.equal_is_same c.args.vote c.args.self.now c.follow_counted.new.self c.follow_counted.result
    c.count.new.self c.in-Ok.counted c.requires c.count.ensures.given
    c.count.ensures.within c.count.ensures.scheme c.in-Ok.ensures.counted c.follow_counted.ensures.continues
    c.follow_counted.ensures.batcher c.follow_counted.ensures.followed
    (on_ok c.follow_counted.result c.follow_counted.ensures.due_work
    (λ keeps. record {
      stays = keeps.stays;
      works = keeps.works;
      near = keeps.near;
      seen = keeps.seen;
      early = keeps.early;
      risen = keeps.risen;
      constants = keeps.constants;
      ignored = keeps.ignored;
    }))
    (on_ok c.follow_counted.result c.follow_counted.ensures.provenance (λ provenance.
    let it = comes_wider (counted_of g.D.PartialEq.eq (g.S.Assembly.IsMadeOf engine.batcher.scheme)
    g.S.CertificateScheme.certificate_bytes
    (length (g.S.CertificateScheme.participants engine.batcher.scheme)) engine.batcher c.count.new.self c.args.vote
    c.in-Ok.counted c.in-Ok.ensures.counted)
    (vote_lacks_none g.S.CertificateScheme.certificate_bytes engine.batcher c.args.vote) provenance in
    record { steps = it.steps; received = it.received; by_steps = it.by_steps; works = it.works; asked = it.asked }))
