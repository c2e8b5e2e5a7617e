-- That each answer is followed by what is for it.
use Rattle.std.proofs.Common.{subst}
use Rattle.engine_planner.specs.Consequences.{after_watch, IsConsequence, AreCertified}
use Rattle.engine_planner.proofs.Consequences.{followed, unjudged}
use Rattle.engine_planner.proofs.PlanStates.{on_ok}
use Rattle.engine_planner.proofs.plan.Plan.follow.Goals as goal

pub returns-in-Flag : goal.returns-in-Flag
returns-in-Flag g c = record {
  followed = followed g.D.Digest.bytes g.S.CertificateScheme.certificate_bytes c.args.now c.args.task c.args.self.now
      c.follow_flag.new.self c.in-Flag.is
      c.in_ok-follow_flag-in-Flag.ensures;
  refused = tt;
}

pub returns-in-Triggered : goal.returns-in-Triggered
returns-in-Triggered g c = record {
  followed = followed g.D.Digest.bytes g.S.CertificateScheme.certificate_bytes c.args.now c.args.task c.args.self.now
      c.follow_flag-in-Triggered.new.self c.in-Triggered.is
      c.in_ok-follow_flag-in-Triggered.ensures;
  refused = tt;
}

pub returns-in-Released : goal.returns-in-Released
returns-in-Released g c = record {
  followed = followed g.D.Digest.bytes g.S.CertificateScheme.certificate_bytes c.args.now c.args.task c.args.self.now
      c.follow_flag-in-Released.new.self c.in-Released.is
      c.in_ok-follow_flag-in-Released.ensures;
  refused = tt;
}

pub returns-in-Abandoned : goal.returns-in-Abandoned
returns-in-Abandoned g c = record {
  followed = followed g.D.Digest.bytes g.S.CertificateScheme.certificate_bytes c.args.now c.args.task c.args.self.now
      c.follow_watch.new.self c.in-Abandoned.is
      (subst (λ is. IsConsequence (after_watch c.args.task is) c.args.self.now c.follow_watch.new.self)
      c.is_some.ensures c.in_ok-follow_watch-in-Abandoned.ensures);
  refused = tt;
}

pub returns-in-Work : goal.returns-in-Work
returns-in-Work g c = record {
  followed = followed g.D.Digest.bytes g.S.CertificateScheme.certificate_bytes c.args.now c.args.task c.args.self.now
      c.follow_verify.new.self c.in-Work.is
      c.in_ok-follow_verify-in-Work.ensures;
  refused = tt;
}

pub returns-in-Request : goal.returns-in-Request
returns-in-Request g c = record {
  followed = followed g.D.Digest.bytes g.S.CertificateScheme.certificate_bytes c.args.now c.args.task c.args.self.now
      c.follow_request.new.self c.in-Request.is
      c.in_ok-follow_request-in-Request.ensures;
  refused = tt;
}

pub returns-in-Candidates : goal.returns-in-Candidates
returns-in-Candidates g c = record {
  followed = followed g.D.Digest.bytes g.S.CertificateScheme.certificate_bytes c.args.now c.args.task c.args.self.now
      c.follow_candidates.new.self c.in-Candidates.is
      (subst (λ proposals. AreCertified c.args.now proposals c.in-Candidates.fetches.items c.args.self.now
      c.follow_candidates.new.self)
      c.deref.ensures.value
      (subst
      (λ fetches. AreCertified c.args.now c.deref.result.now fetches c.args.self.now c.follow_candidates.new.self)
      c.deref-in-Candidates.ensures.value c.in_ok-follow_candidates-in-Candidates.ensures));
  refused = tt;
}

pub returns-in-Certified : goal.returns-in-Certified
returns-in-Certified g c = record {
  followed = on_ok c.follow_verdict.result c.follow_verdict.ensures.followed
      (followed g.D.Digest.bytes g.S.CertificateScheme.certificate_bytes c.args.now c.args.task c.args.self.now
      c.follow_verdict.new.self c.in-Certified.is);
  refused = unjudged c.args.self.now c.follow_verdict.new.self c.follow_verdict.result c.in-Certified.is
      c.follow_verdict.ensures.refused;
}

pub returns-in-Nullify : goal.returns-in-Nullify
returns-in-Nullify g c = record {
  followed = followed g.D.Digest.bytes g.S.CertificateScheme.certificate_bytes c.args.now c.args.task c.args.self.now
      c.follow_nullify.new.self c.in-Nullify.is
      c.in_ok-follow_nullify-in-Nullify.ensures;
  refused = tt;
}

pub returns-in-Certificate : goal.returns-in-Certificate
returns-in-Certificate g c = record {
  followed = followed g.D.Digest.bytes g.S.CertificateScheme.certificate_bytes c.args.now c.args.task c.args.self.now
      c.broadcast.new.self c.in-Certificate.is
      c.in_ok-broadcast-in-Certificate.ensures;
  refused = tt;
}

pub returns-in-Timeout : goal.returns-in-Timeout
returns-in-Timeout g c = record {
  followed = followed g.D.Digest.bytes g.S.CertificateScheme.certificate_bytes c.args.now c.args.task c.args.self.now
      c.follow_timeout.new.self c.in-Timeout.is
      c.in_ok-follow_timeout-in-Timeout.ensures;
  refused = tt;
}
