-- What is left is of retained views, and what is asked for is missing.
use Rattle.std.proofs.Common.{refl, sym, subst, ◌∙◌, ap, ◌≡◌, [], true, false}
use Rattle.std.specs.Prelude.{IfSome}
use Rattle.simplex_voter.specs.Windows.{min_active}
use Rattle.engine_votes.specs.StoredVotes.{HoldsFrom}
use Rattle.engine_fetches.specs.OutstandingFetches.{holds, FetchesTheMissing}
use Rattle.simplex_engine.proofs.OwnSteps.{forgets_then}
use Rattle.simplex_engine.proofs.UnfinishedWork.{tells_further, tells_beside}
use Rattle.engine_planner.specs.Causes.{planned_causes}
use Rattle.engine_planner.proofs.PlannedWork.{among_still}
use Rattle.simplex_engine.proofs.Provenance.{comes_still, comes_then, hand_alone, risen_facts}
use Rattle.std.specs.Option.{option_map_or}
use Rattle.simplex_engine.specs.Provenance.{forgettable, held_by, IsCaused}
use Rattle.simplex_engine.proofs.engine.Engine.settle.Goals as goal

pub returns-in_err-drop_unretained-clause-alone : goal.returns-in_err-drop_unretained-clause-alone
returns-in_err-drop_unretained-clause-alone g c = c.drop_unretained.ensures.alone

pub returns-in_err-drop_unretained-clause-member : goal.returns-in_err-drop_unretained-clause-member
returns-in_err-drop_unretained-clause-member g c = c.drop_unretained.ensures.member

pub returns-in_err-drop_unretained-clause-idle : goal.returns-in_err-drop_unretained-clause-idle
returns-in_err-drop_unretained-clause-idle g c = c.drop_unretained.ensures.idle

pub returns-in_err-store-clause-alone : goal.returns-in_err-store-clause-alone
returns-in_err-store-clause-alone g c = forgets_then c.drop_unretained.ensures.alone c.store.ensures.continues
    c.store.ensures.member refl

pub returns-in_err-store-clause-member : goal.returns-in_err-store-clause-member
returns-in_err-store-clause-member g c = c.store.ensures.member ∙ c.drop_unretained.ensures.member

pub returns-in_err-store-clause-idle : goal.returns-in_err-store-clause-idle
returns-in_err-store-clause-idle g c = c.drop_unretained.ensures.idle

pub returns-in_err-drop_unretained-clause-builds : goal.returns-in_err-drop_unretained-clause-builds
returns-in_err-drop_unretained-clause-builds g c = c.drop_unretained.ensures.builds

pub returns-in_err-store-clause-builds : goal.returns-in_err-store-clause-builds
returns-in_err-store-clause-builds g c = c.drop_unretained.ensures.builds

pub returns : goal.returns
returns g c =
    let repair = c.drop_unretained.new.self.plan.repair in
    record {
      alone = forgets_then c.drop_unretained.ensures.alone c.store.ensures.continues c.store.ensures.member refl;
      member = c.store.ensures.member ∙ c.drop_unretained.ensures.member;
      idle = c.drop_unretained.ensures.idle;
      builds = c.drop_unretained.ensures.builds;
      timeout = c.in_ok-drop_unretained.ensures.timeout;
      whole = c.in_ok-store.ensures.whole;
      lowest = subst (λ m. IfSome m.facts.life (λ x. HoldsFrom (min_active x) c.drop_unretained.new.self.batcher))
          (sym c.store.ensures.member) c.in_ok-drop_unretained.ensures.lowest;
      lacking = subst (λ m. IfSome m.facts.life
          (λ x. FetchesTheMissing repair.resolver.open_fetches x repair.fetches.wanted.items))
          (sym c.store.ensures.member)
          c.in_ok-drop_unretained.ensures.lacking;
      due_work = tells_further c.in_ok-drop_unretained.ensures.due_work
          (tells_beside c.drop_unretained.new.self (record (c.drop_unretained.new.self) { core = c.store.new.self })
          (ap (λ m. m.facts.outstanding_work) c.store.ensures.member)
          (ap (λ m. m.facts.life) c.store.ensures.member)
          c.store.ensures.continues refl);
      provenance = λ now. comes_then (subst (λ came.
          IsCaused g.D.PartialEq.eq g.L.Elector.elect g.D.Digest.bytes g.S.CertificateScheme.certificate_bytes now came
          [] (held_by c.drop_unretained.new.self) c.args.self.now c.drop_unretained.new.self)
          (ap (λ m. forgettable m.facts) (sym c.store.ensures.member)) (c.in_ok-drop_unretained.ensures.provenance now))
          (λ kind view un. subst (λ m. option_map_or (λ x. holds repair.resolver.open_fetches x kind view) m.facts.life
          true ≡ false) c.store.ensures.member un)
          (risen_facts (ap (λ m. m.facts) c.store.ensures.member))
          (tells_beside c.drop_unretained.new.self (record (c.drop_unretained.new.self) { core = c.store.new.self })
          (ap (λ m. m.facts.outstanding_work) c.store.ensures.member)
          (ap (λ m. m.facts.life) c.store.ensures.member) c.store.ensures.continues refl).works
          (comes_still (ap (λ m. m.facts) c.store.ensures.member) refl (λ kind view. refl)
          (hand_alone c.drop_unretained.new.self (record (c.drop_unretained.new.self) { core = c.store.new.self })
          c.store.ensures.no_work (among_still (planned_causes c.drop_unretained.new.self.plan))));
    }
