-- What is left is of retained views, and what is asked for is missing.
use Rattle.std.proofs.Common.{◌≡◌, ◌∙◌, [], None, ap, sym, subst}
use Rattle.std.specs.Prelude.{IfSome}
use Rattle.simplex_voter.specs.Windows.{min_active}
use Rattle.simplex_engine.specs.OwnSteps.{ForgetsNoOther}
use Rattle.simplex_engine.specs.CertificateVotes.{TakesNone}
use Rattle.engine_votes.specs.StoredVotes.{HoldsFrom}
use Rattle.engine_outbox.specs.Continuity.{Continues}
use Rattle.engine_planner.specs.PlanStates.{IsIdle}
use Rattle.simplex_engine.proofs.OwnSteps.{alone_still, forgets_by, forgets_none}
use Rattle.simplex_engine.proofs.CertificateVotes.{takes_no_more, takes_same}
use Rattle.simplex_engine.proofs.Bounds.{kept_from}
use Rattle.engine_planner.proofs.PlanStates.{on_ok}
use Rattle.simplex_engine.proofs.UnfinishedWork.{tells_further, tells_planned}
use Rattle.engine_outbox.specs.Outputs.{work_in}
use Rattle.simplex_engine.proofs.Provenance.{comes_on, comes_same, hand_alone, risen_facts}
use Rattle.simplex_engine.proofs.NoMissingCertificates.{forgets_lowest}
use Rattle.simplex_engine.specs.Provenance.{forgettable, held_by, IsCaused}
use Rattle.simplex_engine.proofs.engine.Engine.drop_unretained.Goals as goal

pub returns-in_err-lowest-clause-alone : goal.returns-in_err-lowest-clause-alone
returns-in_err-lowest-clause-alone g c = forgets_none (alone_still c.args.self.now)

pub returns-in_err-lowest-clause-idle : goal.returns-in_err-lowest-clause-idle
returns-in_err-lowest-clause-idle g c = λ now idle. idle

pub returns-in_err-report_forgotten-clause-alone : goal.returns-in_err-report_forgotten-clause-alone
returns-in_err-report_forgotten-clause-alone g c = forgets_none c.report_forgotten.ensures.alone

pub returns-in_err-report_forgotten-clause-member : goal.returns-in_err-report_forgotten-clause-member
returns-in_err-report_forgotten-clause-member g c = c.report_forgotten.ensures.member

pub returns-in_err-report_forgotten-clause-idle : goal.returns-in_err-report_forgotten-clause-idle
returns-in_err-report_forgotten-clause-idle g c =
    λ now idle. subst (IsIdle now) (sym c.report_forgotten.ensures.plan) idle

pub returns-in_err-report_forgotten-clause-builds : goal.returns-in_err-report_forgotten-clause-builds
returns-in_err-report_forgotten-clause-builds g c =
    ap (λ plan. plan.builds.buildings.items) c.report_forgotten.ensures.plan

pub returns : goal.returns
returns g c =
    let core = c.report_forgotten.new.self.core in
    record {
      alone = record {
        continues = subst (Continues g.D.PartialEq.eq g.L.Elector.elect g.S.CertificateScheme.certificate_bytes
            g.S.Scheme.IsSignature None c.args.self.now.core) (sym c.drop_final_fetches.ensures.core)
            c.report_forgotten.ensures.alone.continues;
        votes = subst (TakesNone c.args.self.now.batcher) (sym c.drop_final_fetches.ensures.batcher)
            (takes_no_more (takes_same c.report_forgotten.ensures.alone.batcher)
            (record {
              are_given = c.forget.ensures.given;
              were_held = c.forget.ensures.fewer;
              scheme = c.forget.ensures.scheme;
            }));
        forgets = subst (λ held. ForgetsNoOther c.drop_final_fetches.new.self.core held
            c.drop_final_fetches.new.self.batcher) c.report_forgotten.ensures.alone.batcher
            (subst (ForgetsNoOther c.drop_final_fetches.new.self.core c.report_forgotten.new.self.batcher)
            (sym c.drop_final_fetches.ensures.batcher)
            (subst (λ now. ForgetsNoOther now c.report_forgotten.new.self.batcher c.forget.new.self)
            (sym c.drop_final_fetches.ensures.core)
            (forgets_by core.member.facts.life c.in_ok-lowest.lowest c.report_forgotten.new.self.batcher
            c.forget.new.self
            (subst (λ m. IfSome m.facts.life (λ x. min_active x ≡ c.in_ok-lowest.lowest))
            (sym c.report_forgotten.ensures.member) c.in_ok-lowest.ensures.lowest)
            c.forget.ensures.forgotten)));
      };
      member = ap (λ core. core.member) c.drop_final_fetches.ensures.core ∙ c.report_forgotten.ensures.member;
      idle = λ now idle. c.drop_final_fetches.ensures.idle now
          (subst (IsIdle now) (sym c.report_forgotten.ensures.plan) idle);
      builds = c.drop_final_fetches.ensures.builds
          ∙ ap (λ plan. plan.builds.buildings.items) c.report_forgotten.ensures.plan;
      timeout = on_ok c.drop_final_fetches.result c.drop_final_fetches.ensures.timeout
          (λ same. same ∙ ap (λ plan. plan.timeout) c.report_forgotten.ensures.plan);
      lowest = on_ok c.drop_final_fetches.result c.drop_final_fetches.ensures.lacking
          (λ _. subst (λ now. IfSome now.member.facts.life
          (λ x. HoldsFrom (min_active x) c.drop_final_fetches.new.self.batcher))
          (sym c.drop_final_fetches.ensures.core)
          (subst (λ batcher. IfSome core.member.facts.life (λ x. HoldsFrom (min_active x) batcher))
          (sym c.drop_final_fetches.ensures.batcher)
          (kept_from core.member.facts.life c.in_ok-lowest.lowest c.forget.new.self
          (subst (λ m. IfSome m.facts.life (λ x. min_active x ≡ c.in_ok-lowest.lowest))
          (sym c.report_forgotten.ensures.member) c.in_ok-lowest.ensures.lowest) c.forget.ensures.lowest)));
      lacking = c.drop_final_fetches.ensures.lacking;
      due_work = on_ok c.drop_final_fetches.result c.drop_final_fetches.ensures.lacking
          (λ _. tells_further c.in_ok-report_forgotten.ensures.due_work
          (let keeps = tells_planned (record (c.report_forgotten.new.self) { batcher = c.forget.new.self })
          c.drop_final_fetches.new.self
          c.drop_final_fetches.ensures.core c.drop_final_fetches.ensures.planned in
          record {
            stays = keeps.stays;
            works = keeps.works;
            near = keeps.near;
            seen = keeps.seen;
            early = keeps.early;
            risen = keeps.risen;
            constants = keeps.constants;
            ignored = keeps.ignored;
          }));
      provenance = on_ok c.drop_final_fetches.result c.drop_final_fetches.ensures.asks (λ asks now.
          subst (λ came. IsCaused g.D.PartialEq.eq g.L.Elector.elect g.D.Digest.bytes
          g.S.CertificateScheme.certificate_bytes now came [] (held_by c.drop_final_fetches.new.self)
          c.args.self.now c.drop_final_fetches.new.self)
          (forgets_lowest c.args.self.now.core.member.facts c.in_ok-lowest.lowest c.in_ok-lowest.ensures.alive
          ∙ ap (λ m. forgettable m.facts)
          (sym (ap (λ core. core.member) c.drop_final_fetches.ensures.core ∙ c.report_forgotten.ensures.member)))
          (comes_on (c.in_ok-report_forgotten.ensures.provenance now)
          (risen_facts (ap (λ core. core.member.facts) c.drop_final_fetches.ensures.core))
          (tells_planned (record (c.report_forgotten.new.self) { batcher = c.forget.new.self })
          c.drop_final_fetches.new.self c.drop_final_fetches.ensures.core
          c.drop_final_fetches.ensures.planned).works
          (comes_same (ap (λ core. core.member.facts) c.drop_final_fetches.ensures.core)
          (hand_alone (record (c.report_forgotten.new.self) { batcher = c.forget.new.self })
          c.drop_final_fetches.new.self
          (ap (λ core. work_in core.outbox.queue.items) c.drop_final_fetches.ensures.core)
          c.drop_final_fetches.ensures.causes) asks)));
    }
