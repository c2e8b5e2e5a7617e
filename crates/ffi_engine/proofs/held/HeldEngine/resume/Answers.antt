-- How the contract of `resume` follows: the resumed engine has returned nothing, and one that is refused is so for what
-- was read.
use Rattle.std.proofs.Common.{refl, sym, subst}
use Rattle.simplex_codec.specs.Digests.{bytes_in_digest}
use Rattle.ffi_scheme.specs.HostLeaders.{host_terms}
use Rattle.ffi_scheme.specs.Host.{host_keys, host_signer}
use Rattle.simplex_engine.specs.EngineStart.{with_a_retry, HasStartedWith}
use Rattle.ffi_engine.specs.EngineStarts.{IsEngineNotResumed}
use Rattle.ffi_engine.proofs.Refused.{engine_refused, member_refused}
use Rattle.ffi_engine.proofs.held.HeldEngine.resume.Goals as goal

pub returns-in-Err-clause-refused : goal.returns-in-Err-clause-refused
returns-in-Err-clause-refused c =
    member_refused c.args.flat.now c.args.leaders.now c.args.certificate.now c.args.options.now c.args.now
    c.args.stored.now c.args.journal.now c.in-Err.error
    c.in-Err.ensures.refused

pub returns-in-Ok-resume-clause-resumed : goal.returns-in-Ok-resume-clause-resumed
returns-in-Ok-resume-clause-resumed c =
    let from = c.in-Ok.from in record {
      retry = c.if-options-eq0.false;
      start = from.start;
      stored = from.stored;
      entries = from.entries.items;
      from = c.in-Ok.ensures.from;
      whole = c.in-Ok.ensures.whole;
      resumed = rw c.new.ensures.engine c.in-Ok-resume.ensures.resumed;
      continues = rw c.new.ensures.engine c.in-Ok-resume.ensures.continues;
      votes = rw c.new.ensures.engine c.in-Ok-resume.ensures.votes;
      begun_by = rw c.new.ensures.engine
          (subst (λ options. HasStartedWith bytes_in_digest host_keys (host_keys from.start.settings.scheme)
          (host_signer from.start.settings.scheme)
          (host_terms from.start.settings.elector).term_length (with_a_retry options) c.in-Ok-resume.engine)
          c.options_in-options.ensures c.in-Ok-resume.ensures.begun);
      nothing = record {
        kept = λ _. rw c.new.ensures.engine c.in-Ok-resume.ensures.kept;
        traced = rw c.new.ensures.engine c.in-Ok-resume.ensures.traced;
        signed = rw c.new.ensures.engine c.in-Ok-resume.ensures.signed;
        whole = rw c.new.ensures.engine c.in-Ok-resume.ensures.whole;
        queued = rw c.new.ensures.engine c.in-Ok-resume.ensures.queued;
        reported = rw c.new.ensures.engine c.in-Ok-resume.ensures.reported;
        bounded = rw c.new.ensures.engine c.in-Ok-resume.ensures.bounded;
        due_work = rw c.new.ensures.engine c.in-Ok-resume.ensures.due_work;
        none_at_hand = rw c.new.ensures.engine c.in-Ok-resume.ensures.nothing;
        fetch_heights = rw c.new.ensures.engine c.in-Ok-resume.ensures.fetch_heights;
        namespace = c.new.ensures.namespace;
        draws = c.new.ensures.draws;
        fresh = c.new.ensures.fresh;
      };
    }

pub returns-in-Err-resume-clause-refused : goal.returns-in-Err-resume-clause-refused
returns-in-Err-resume-clause-refused c =
    let from = c.in-Ok.from in
    subst (IsEngineNotResumed c.args.flat.now c.args.leaders.now c.args.certificate.now c.args.options.now c.args.now
    c.args.stored.now c.args.journal.now)
    (sym c.engine_not_started.ensures)
    (engine_refused c.args.flat.now c.args.leaders.now c.args.certificate.now c.args.options.now c.args.now
    c.args.stored.now c.args.journal.now
    c.in-Err-resume.error (record {
      start = from.start;
      stored = from.stored;
      entries = from.entries.items;
      from = c.in-Ok.ensures.from;
      error = c.in-Err-resume.error;
      is_of = refl;
      refused = c.in-Err-resume.ensures.refused;
    }))
