-- The effect of a call on a host's resolver: its state's call, and the application of its effects.
use Rattle.std.proofs.Common.{◌≡◌, ◌<◌, ◌^◌, ℕ, true, false, Result, Ok, Err, IfOk, IfErr, OnOk, OnErr, Vec, Global, ap, sym, subst, ◌∙◌}
use Rattle.simplex_types.specs.declared.types.fault.Fault.{Fault}
use Rattle.simplex_types.specs.declared.types.fault.Fault.TheVariants.{OutOfMemory}
use Rattle.simplex_resolver.specs.declared.resolver.effect.Effect.{Effect}
use Rattle.simplex_resolver.specs.Facts.{ResolverFacts, term_length}
use Rattle.simplex_resolver.specs.Steps.{Call, after, effects}
use Rattle.simplex_resolver.specs.ReceivedFacts.{NamesAView}
use Rattle.simplex_resolver.specs.Repair.{IsApplied}
use Rattle.simplex_resolver.specs.CallHistory.{LawfulResolverFacts, IsMade, ReceivesMore, IsBegun, IsLeftBy}
use Rattle.simplex_resolver.proofs.CallLists.{same_terms}
use Rattle.simplex_resolver.proofs.CallHistory.{still_received}

-- the state has made the call, and its effects are applied
pub made_of : (r : Result (Vec Effect Global) Fault) (es : Vec Effect Global) (call : Call)
    (old new : LawfulResolverFacts) (middle : ResolverFacts)
    → middle ≡ after old.state call → es.items ≡ effects old.state call
    → OnOk r (new.state ≡ middle) → IfOk r (λ answer. answer ≡ es)
    → OnOk r (IsApplied old.open_fetches es.items new.open_fetches)
    → IfOk r (λ answer. IsMade call old answer.items new)
made_of (Err fault) es call old new middle made effects_are kept same applied = tt
made_of (Ok answer) es call old new middle made effects_are kept same applied = record {
  state = kept ∙ made;
  answered = ap (λ a. a.items) same ∙ effects_are;
  applied = subst (λ a. IsApplied old.open_fetches a.items new.open_fetches) (sym same) applied;
}

pub received_of : (r : Result (Vec Effect Global) Fault) (call : Call) (old new : LawfulResolverFacts) → NamesAView call
    → IfOk r (λ answer. IsMade call old answer.items new) → OnOk r (ReceivesMore old call new)
received_of (Err fault) call old new names made = tt
received_of (Ok answer) call old new names made =
    λ t calls received. still_received t calls call old new answer.items received names made

-- the state has made the call, and there was no memory for its effects
pub left_of : (r : Result (Vec Effect Global) Fault) (es : Vec Effect Global) (v : ℕ) (call : Call)
    (old new : LawfulResolverFacts) (middle : ResolverFacts)
    → old.state.is_failed ≡ false → v < 2 ^ 63 → middle ≡ after old.state call → es.items ≡ effects old.state call
    → IfErr r (λ fault. fault ≡ OutOfMemory) → OnErr r (new.state ≡ record middle { is_failed = true })
    → OnErr r (IsBegun old.open_fetches es.items new.open_fetches)
    → IfErr r (λ fault. IsLeftBy old v call fault new)
left_of (Ok answer) es v call old new middle live small made effects_are memory failed begun = tt
left_of (Err fault) es v call old new middle live small made effects_are memory failed begun =
    subst (λ f. IsLeftBy old v call f new) (sym memory) (
      (
        live,
        small,
        ap (λ x. x.is_failed) failed,
        ap term_length failed ∙ ap term_length made ∙ same_terms old.state call,
      ),
      subst (λ items. IsBegun old.open_fetches items new.open_fetches) effects_are begun,
    )
