-- Plans in which a certificate was accepted.
use Rattle.std.proofs.Common.{◌≡◌, ℕ, List, ap, sym, subst}
use Rattle.simplex_types.specs.MessageViews.{certificate_view}
use Rattle.simplex_types.specs.declared.types.messages.Certificate.{Certificate}
use Rattle.engine_planner.specs.declared.plan.Plan.{Plan}
use Rattle.engine_planner.specs.Consequences.{IsResolverNotified, IsTakenIn}
use Rattle.engine_planner.specs.PlanStates.{HasPlanned, touching, watching}

module _ {S D K G C : Type 0} where
  -- the resolver receives it, and then the view is touched
  pub taken_in : (bytes : D → List ℕ) (bytes_of : C → List ℕ) (now : ℕ) (taken : Certificate S D K G C)
      (old notified new : Plan S D K G C)
      → notified ≡ record old { repair = notified.repair }
      → IsResolverNotified bytes bytes_of now taken old notified.repair
      → HasPlanned (touching (certificate_view taken)) (watching notified) new
      → IsTakenIn bytes bytes_of now taken old new
  taken_in bytes bytes_of now taken old notified new same hears planned =
      let kept = ap (λ (p : Plan S D K G C). p.repair) planned.same in
      record {
        notified = subst (IsResolverNotified bytes bytes_of now taken old) (sym kept) hears;
        planned =
            subst (λ r. HasPlanned (touching (certificate_view taken)) (watching (record old { repair = r })) new)
            (sym kept)
            (subst (λ p. HasPlanned (touching (certificate_view taken)) (watching p) new) same planned);
      }
