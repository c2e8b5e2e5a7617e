-- That a vote whose round takes none changes nothing.
use Rattle.std.proofs.Common.{length, refl, sym, ◌∙◌, ap}
use Rattle.std.proofs.lemmas.Bool.{false≢true}
use Rattle.simplex_engine.specs.Admission.{admits_votes, is_so}
use Rattle.simplex_engine.proofs.CertificateVotes.{takes_nothing, takes_anyway, backed_by_none}
use Rattle.simplex_engine.proofs.Bounds.{bounded_same}
use Rattle.engine_outbox.proofs.Continuity.{stays}
use Rattle.engine_planner.proofs.PlannedWork.{among_still}
use Rattle.simplex_engine.specs.ApplicationWork.{work_ahead}
use Rattle.simplex_engine.proofs.BuildBounds.{early_anyway}
use Rattle.engine_planner.proofs.Causes.{among_last}
use Rattle.simplex_engine.specs.declared.input.Input.TheVariants as input
use Rattle.simplex_engine.specs.Provenance.{pending_causes, input_causes}
use Rattle.simplex_engine.proofs.Provenance.{comes_still}
use Rattle.simplex_engine.proofs.NoMissingCertificates.{vote_lacks_none}
use Rattle.simplex_engine.proofs.engine.Engine.count.Goals as goal

pub returns-then-not-admits_votes : goal.returns-then-not-admits_votes
returns-then-not-admits_votes g c =
    let engine = c.args.self.now in
    let keys_of = g.S.CertificateScheme.participants in
    record {
      continues = stays engine.core;
      votes = takes_anyway (takes_nothing engine.batcher);
      held = tt;
      backed = backed_by_none (length (keys_of engine.batcher.scheme)) (stays engine.core);
      dropped = λ no. record { member = refl; votes = λ kind view member. refl };
      unadmitted = λ no. (refl, refl);
      bounded = bounded_same keys_of engine.core engine.core engine.batcher refl;
      acted = λ is. absurd (false≢true
          (sym c.if-not-admits_votes.true ∙ c.admits_votes.ensures
          ∙ ap (λ round. is_so (λ x. admits_votes x round) engine.core.member.facts) c.round_of.ensures.round
          ∙ is));
      due_work = record {
        stays = λ work replied. replied;
        works = among_still (work_ahead engine);
        near = λ near. near;
        seen = λ come. come;
        early = λ come. early_anyway engine engine
            (among_still engine.plan.early.proposals.items);
        constants = refl;
      };
      ignored = refl;
      provenance = comes_still refl refl (vote_lacks_none g.S.CertificateScheme.certificate_bytes engine.batcher
          c.args.vote) (among_last (input_causes g.S.CertificateScheme.certificate_bytes engine.batcher
          (input.Vote c.args.vote)) (pending_causes engine));
    }

pub returns : goal.returns
returns g c = c.count_admitted.ensures
