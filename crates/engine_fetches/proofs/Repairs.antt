-- A resolver that receives something, with the fetches that follow.
use Rattle.std.proofs.Common.{◌≡◌, ◌∙◌, ℕ, List, ap, subst}
use Rattle.simplex_resolver.specs.Steps.{Call}
use Rattle.simplex_resolver.specs.CallHistory.{IsMade}
use Rattle.simplex_resolver.specs.declared.resolver.effect.Effect.{Effect}
use Rattle.engine_fetches.specs.declared.repair.Repair.{Repair}
use Rattle.engine_fetches.specs.Repairs.{IsRepaired}
use Rattle.engine_fetches.specs.OutstandingFetches.{after_effects}

pub is_repaired : (moment : ℕ) (call : Call) (old new : Repair) (es : List Effect)
    → IsMade call old.resolver es new.resolver
    → new.fetches.wanted.items ≡ after_effects moment es old.fetches.wanted.items
    → (new.fetches.peers ≡ old.fetches.peers) × (new.fetches.retry ≡ old.fetches.retry) → new.passed ≡ old.passed
    → new.is_behind ≡ old.is_behind
    → IsRepaired moment call old new
is_repaired moment call old new es made fetched same passed behind = record {
  made = subst (λ all. IsMade call old.resolver all new.resolver) made.answered made;
  fetches_now = fetched ∙ ap (λ all. after_effects moment all old.fetches.wanted.items) made.answered;
  peers = same.0;
  retry = same.1;
  passed = passed;
  behind = behind;
}
