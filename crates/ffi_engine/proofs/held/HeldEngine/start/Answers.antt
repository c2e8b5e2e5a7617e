-- How the contract of `start` follows: the engine that begins has given nothing out, and one that is refused had
-- settings of a member.
use Rattle.std.proofs.Common.{refl, sym, subst}
use Rattle.simplex_codec.specs.Digests.{bytes_in_digest}
use Rattle.ffi_scheme.specs.HostLeaders.{host_terms}
use Rattle.ffi_scheme.specs.Host.{host_keys, host_signer}
use Rattle.simplex_engine.specs.EngineStart.{with_a_retry, HasStartedWith}
use Rattle.ffi_engine.specs.EngineStarts.{IsEngineNotStarted}
use Rattle.ffi_engine.proofs.Refused.{start_refused}
use Rattle.ffi_engine.proofs.held.HeldEngine.start.Goals as goal

pub returns-in-Ok-start-clause-begun : goal.returns-in-Ok-start-clause-begun
returns-in-Ok-start-clause-begun c = record {
  retry = c.if-options-eq0.false;
  start = c.in-Ok.start;
  by = c.in-Ok.ensures.made;
  facts = rw c.new.ensures.engine c.in-Ok-start.ensures.started;
  votes = rw c.new.ensures.engine c.in-Ok-start.ensures.votes;
  begins = rw c.new.ensures.engine c.in-Ok-start.ensures.begins;
  begun_by = rw c.new.ensures.engine
      (subst (λ options. HasStartedWith bytes_in_digest host_keys (host_keys c.in-Ok.start.settings.scheme)
      (host_signer c.in-Ok.start.settings.scheme)
      (host_terms c.in-Ok.start.settings.elector).term_length (with_a_retry options) c.in-Ok-start.engine)
      c.options_in.ensures c.in-Ok-start.ensures.begun);
  nothing = record {
    kept = λ _. rw c.new.ensures.engine c.in-Ok-start.ensures.kept;
    traced = rw c.new.ensures.engine c.in-Ok-start.ensures.traced;
    signed = rw c.new.ensures.engine c.in-Ok-start.ensures.signed;
    whole = rw c.new.ensures.engine c.in-Ok-start.ensures.whole;
    queued = rw c.new.ensures.engine c.in-Ok-start.ensures.queued;
    reported = rw c.new.ensures.engine c.in-Ok-start.ensures.reported;
    bounded = rw c.new.ensures.engine c.in-Ok-start.ensures.bounded;
    due_work = rw c.new.ensures.engine c.in-Ok-start.ensures.due_work;
    none_at_hand = rw c.new.ensures.engine c.in-Ok-start.ensures.nothing;
    fetch_heights = rw c.new.ensures.engine c.in-Ok-start.ensures.fetch_heights;
    namespace = c.new.ensures.namespace;
    draws = c.new.ensures.draws;
    fresh = c.new.ensures.fresh;
  };
}

pub returns-in-Err-start-clause-refused : goal.returns-in-Err-start-clause-refused
returns-in-Err-start-clause-refused c =
    subst (IsEngineNotStarted c.args.flat.now c.args.leaders.now c.args.certificate.now c.args.options.now c.args.now)
    (sym c.engine_not_started.ensures)
    (start_refused c.args.flat.now c.args.leaders.now c.args.certificate.now c.args.options.now c.args.now
    c.in-Err-start.error (record {
      start = c.in-Ok.start;
      by = c.in-Ok.ensures.made;
      error = c.in-Err-start.error;
      is_of = refl;
      refused = c.in-Err-start.ensures.refused;
    }))
