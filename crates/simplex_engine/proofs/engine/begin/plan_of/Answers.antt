-- The resolver received the member's record, and what it has open is asked for.
use Rattle.std.proofs.Common.{◌≡◌, ◌∙◌, ◌∷◌, ap, sym, subst, reverse}
use Rattle.std.specs.Prelude.{IfSome}
use Rattle.simplex_resolver.specs.RecordCalls.{calls_of}
use Rattle.simplex_resolver.specs.Steps.{Replayed}
use Rattle.simplex_resolver.specs.CallHistory.{HasReceivedCalls}
use Rattle.engine_fetches.specs.OutstandingFetches.{wanting}
use Rattle.engine_planner.specs.declared.plan.Views.{Views}
use Rattle.simplex_engine.proofs.EngineStart.{is_repair_of}
use Rattle.simplex_engine.proofs.engine.begin.plan_of.Goals as goal

pub returns-clause-plan : goal.returns-clause-plan
returns-clause-plan g c =
    let resolver = c.in_ok-resolver.resolver in
    let term_length = c.args.company.now.term_length in
    let bytes = g.D.Digest.bytes in
    record {
      options_now = c.new-2.ensures.options.0;
      alone = c.new-2.ensures.options.1;
      views = subst (λ (views : Views). IfSome c.args.member.now.facts.life
          (λ x. (views.current ≡ x.current) × (views.last_finalized ≡ x.finalized)))
          (sym c.new-2.ensures.views) c.views_of.ensures;
      repair = is_repair_of bytes term_length c.args.member.now.facts.entries c.args.company.now.peers
          c.args.options.retry resolver c.in_ok-repair.repair
          c.new-2.result.repair c.new-2.ensures.repair
          (subst (λ entries. HasReceivedCalls term_length (Replayed ∷ calls_of bytes (reverse entries)) resolver)
          c.record.ensures.entries c.in_ok-resolver.ensures.received)
          c.in_ok-repair.ensures.resolver
          (c.in_ok-repair.ensures.fetches ∙ ap (wanting resolver.open_fetches) c.new-fetches.ensures.none)
          (c.in_ok-repair.ensures.same.0 ∙ c.new-fetches.ensures.parts.0)
          (c.in_ok-repair.ensures.same.1 ∙ c.new-fetches.ensures.parts.1)
          c.in_ok-repair.ensures.begun.1;
      nothing = c.new-2.ensures.nothing;
      due = c.new-2.ensures.due;
    }
