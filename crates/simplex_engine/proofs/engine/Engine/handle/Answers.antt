-- That an engine which fails has done no more than its steps before, and holds no more.
use Rattle.std.proofs.Common.{length, refl, sym, subst, ap, ◌∙◌, if◌then◌else◌}
use Rattle.std.proofs.lemmas.Bool.{false≢true, true≢false}
use Rattle.simplex_types.specs.declared.types.fault.Fault.TheVariants.{OutOfMemory, Failed}
use Rattle.simplex_engine.specs.Admission.{ignoring}
use Rattle.engine_outbox.specs.Continuity.{has_failed}
use Rattle.simplex_engine.specs.InputResults.{IsInputTaken}
use Rattle.engine_outbox.proofs.Continuity.{stays, goes_further, goes_on_anyway}
use Rattle.simplex_engine.proofs.CertificateVotes.{input_backed_by_none, input_backed_then, takes_nothing, takes_anyway}
use Rattle.simplex_engine.proofs.AtRest.{turned_away_unsettled}
use Rattle.simplex_engine.proofs.Bounds.{bounded_still, bounded_further, bounded_same}
use Rattle.simplex_engine.proofs.NoMissingCertificates.{input_lacks_none}
use Rattle.simplex_engine.proofs.InputResults.{keeps_votes}
use Rattle.simplex_engine.proofs.fetch_heights.Engines.{no_higher}
use Rattle.simplex_engine.proofs.engine.Engine.handle.Goals as goal

pub returns-then-has_failed : goal.returns-then-has_failed
returns-then-has_failed g c =
    let engine = c.args.self.now in
    let keys_of = g.S.CertificateScheme.participants in
    record {
      continues = stays engine.core;
      votes = takes_anyway (takes_nothing engine.batcher);
      held = keeps_votes c.args.input engine.batcher engine.batcher refl;
      backed = input_backed_by_none (length (keys_of engine.batcher.scheme)) c.args.input engine.batcher engine.core
          engine.core (stays engine.core);
      dropped = tt;
      unadmitted = λ _. tt;
      bounded = bounded_same keys_of engine.core engine.core engine.batcher refl;
      acted = λ _. tt;
      due_work = tt;
      ignored = tt;
      to_settle = λ lives. absurd (true≢false (sym c.if-has_failed.true ∙ c.has_failed.ensures ∙ lives));
      failed = sym c.has_failed.ensures ∙ c.if-has_failed.true;
      error = ap (λ had_failed. if had_failed then Failed else OutOfMemory)
          (sym (sym c.has_failed.ensures ∙ c.if-has_failed.true));
      refused = λ _. (refl, refl);
      provenance = tt;
      fetch_heights = tt;
    }

pub returns-in-Ok : goal.returns-in-Ok
returns-in-Ok g c =
    let engine = c.args.self.now in
    let taken =
    subst (IsInputTaken g.D.PartialEq.eq g.L.Elector.elect g.D.Digest.bytes g.S.CertificateScheme.certificate_bytes
    g.S.Scheme.IsSignature g.S.Assembly.IsMadeOf g.S.CertificateScheme.participants c.args.now
    c.args.input engine (ignoring engine) c.take-taken.new.self) c.in-Ok.is c.take-taken.ensures
    in
    record {
      continues = taken.continues;
      votes = taken.votes;
      held = taken.held;
      backed = taken.backed;
      dropped = λ ignored. let is = taken.dropped ignored in record { member = is.member; votes = is.votes };
      unadmitted = λ un. (
        (taken.unadmitted un).0,
        turned_away_unsettled c.args.input (ignoring engine) c.take-taken.new.self (taken.unadmitted un).1,
      );
      bounded = taken.bounded;
      acted = taken.acted;
      due_work = let is = taken.due_work in record {
        stays = is.stays;
        works = is.works;
        near = is.near;
        seen = is.seen;
        early = is.early;
        constants = is.constants;
      };
      ignored = taken.ignored;
      to_settle = λ _. refl;
      failed = tt;
      error = tt;
      refused = λ failed. absurd (false≢true (sym c.if-has_failed.false ∙ c.has_failed.ensures ∙ failed));
      provenance = let is = taken.provenance in
          record {
            steps = is.steps;
            received = is.received;
            by_steps = is.by_steps;
            works = is.works;
            asked = is.asked;
          };
      fetch_heights = λ term_length i all done.
          no_higher g.D.PartialEq.eq g.met.D.Digest.equal_is_same g.met.D.Digest.same_is_equal g.L.Elector.elect
          g.D.Digest.bytes
          g.S.CertificateScheme.certificate_bytes c.args.now term_length i all done
          (input_lacks_none g.S.CertificateScheme.certificate_bytes engine.batcher c.args.input) taken.provenance;
    }

pub returns-in-Err : goal.returns-in-Err
returns-in-Err g c =
    let engine = c.args.self.now in
    let keys_of = g.S.CertificateScheme.participants in
    record {
      continues = goes_further c.take-taken.ensures.continues (goes_on_anyway c.fail.ensures.continues);
      votes = c.take-taken.ensures.votes;
      held = c.take-taken.ensures.held;
      backed = input_backed_then (length (keys_of engine.batcher.scheme)) c.args.input engine.batcher engine.core
          c.take-taken.new.self.core c.fail.new.self
          c.take-taken.ensures.backed c.fail.ensures.continues;
      dropped = tt;
      unadmitted = λ _. tt;
      bounded = bounded_further keys_of c.take-taken.ensures.bounded
          (bounded_still keys_of c.fail.ensures.continues (takes_nothing c.take-taken.new.self.batcher));
      acted = λ _. tt;
      due_work = tt;
      ignored = tt;
      to_settle = λ _. refl;
      failed = ap has_failed c.fail.ensures.failed;
      error = ap (λ had_failed. if had_failed then Failed else OutOfMemory)
          (sym (sym c.has_failed.ensures ∙ c.if-has_failed.false));
      refused = λ failed. absurd (false≢true (sym c.if-has_failed.false ∙ c.has_failed.ensures ∙ failed));
      provenance = tt;
      fetch_heights = tt;
    }
