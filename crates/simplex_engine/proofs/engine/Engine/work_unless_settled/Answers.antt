-- An engine that stays settled is unchanged, and any other has settled after its work.
use Rattle.std.proofs.Common.{refl, sym, ◌∙◌, inl, inr, [], Some}
use Rattle.std.proofs.lemmas.Bool.{true≢false}
use Rattle.engine_planner.proofs.Causes.{among_last}
use Rattle.engine_planner.proofs.PlannedWork.{among_further}
use Rattle.simplex_engine.specs.Provenance.{forgettable, pending_causes}
use Rattle.simplex_engine.proofs.AtRest.{settled_beside}
use Rattle.simplex_engine.proofs.NoMissingCertificates.{forgets_no_lack}
use Rattle.simplex_engine.proofs.OwnSteps.{alone_still, forgets_none}
use Rattle.simplex_engine.proofs.Provenance.{comes_still, hand_given}
use Rattle.simplex_engine.proofs.UnfinishedWork.{tells_still}
use Rattle.simplex_engine.proofs.engine.Engine.work_unless_settled.Goals as goal

pub returns-then-stays_settled : goal.returns-then-stays_settled
returns-then-stays_settled g c =
    let engine = c.args.self.now in
    let rests = c.stays_settled.ensures.0 c.if-stays_settled.true in
    record {
      alone = forgets_none (alone_still engine);
      rests = λ _. (refl, refl);
      settles = inl rests;
      short = λ given kept. inl rests;
      due_work = tells_still engine;
      provenance = comes_still refl refl (forgets_no_lack _ _ _ engine.core.member.facts)
          (among_further (hand_given engine engine [] refl refl)
          (among_last (forgettable engine.core.member.facts) (pending_causes engine)));
    }

pub returns-in_err-work-clause-alone : goal.returns-in_err-work-clause-alone
returns-in_err-work-clause-alone g c = c.work.ensures.alone

pub returns-in_err-work-clause-rests : goal.returns-in_err-work-clause-rests
returns-in_err-work-clause-rests g c rests =
    absurd (true≢false (sym (c.stays_settled.ensures.1 rests) ∙ c.if-stays_settled.false))

pub returns : goal.returns
returns g c =
    let worked = c.work.new.self in
    let alone = c.work.ensures.alone in
    let kept = c.in_ok-work.ensures.due_work in
    let caused = c.in_ok-work.ensures.provenance in
    record {
      alone = record { continues = alone.continues; votes = alone.votes; forgets = alone.forgets };
      rests = λ rests. absurd (true≢false (sym (c.stays_settled.ensures.1 rests) ∙ c.if-stays_settled.false));
      settles = inr (
        refl,
        settled_beside g.D.PartialEq.eq g.L.Elector.elect g.S.CertificateScheme.certificate_bytes c.args.now worked
            worked.core (Some c.args.now) refl refl c.in_ok-work.ensures.settled,
      );
      short = λ given kept. inr (c.in_ok-work.ensures.short given kept);
      due_work = record {
        stays = kept.stays;
        works = kept.works;
        near = kept.near;
        seen = kept.seen;
        early = kept.early;
        constants = kept.constants;
        risen = kept.risen;
        ignored = kept.ignored;
      };
      provenance = record {
        steps = caused.steps;
        received = caused.received;
        by_steps = caused.by_steps;
        works = caused.works;
        asked = caused.asked;
      };
    }
