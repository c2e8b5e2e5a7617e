-- For `lifetimes_keep_order`.
-- A law of each call is one of each lifetime.
use Rattle.std.proofs.Common.{◌≡◌, refl, ap, ◌∙◌, ◌⊎◌, subst, Bool, true, false, List, [], ◌∷◌, Option, Some, None, inl, inr, sym}
use Rattle.simplex_types.specs.declared.types.fault.Fault.{Fault}
use Rattle.simplex_voter.specs.Facts.{StateFacts, Elect}
use Rattle.simplex_member.specs.CallConditions.{is_allowed, fault_of}
use Rattle.simplex_member.specs.Calls.{CallFacts, ReplyFacts, Refused, NotAllowed}
use Rattle.laws_safety.specs.LifetimeLaws.{IsLifetime, WhileAlive, NeverFalls}
use Rattle.simplex_member.specs.MemberFacts.{MemberFacts, IsCall, AnswersAlive, reply_of, left_of}
use Rattle.simplex_member.specs.CallSemantics.{answer, after_call}
use Rattle.simplex_member.specs.OutstandingWork.{OutstandingWork}
use Rattle.laws_safety.proofs.frames.NoLowerViews.{never_fell, falls_never, never_falls, call_goes}

module _ {K L D : Type 0} where
  -- of one state with itself
  pub alive_still : (Holds : StateFacts K L D → StateFacts K L D → Type 0) (life : Option (StateFacts K L D))
      → ((x : StateFacts K L D) → Holds x x) → WhileAlive Holds life life
  alive_still Holds None holds = tt
  alive_still Holds (Some x) holds = holds x

  -- one after another
  pub alive_joined : (P Q R : StateFacts K L D → StateFacts K L D → Type 0)
      (first middle last : Option (StateFacts K L D)) → ((x y z : StateFacts K L D) → P x y → Q y z → R x z)
      → WhileAlive P first middle → WhileAlive Q middle last → WhileAlive R first last
  alive_joined P Q R first middle None join p q = tt
  alive_joined P Q R first None (Some z) join p q = absurd q
  alive_joined P Q R None (Some y) (Some z) join p q = absurd p
  alive_joined P Q R (Some x) (Some y) (Some z) join p q = join x y z p q

module _ {K L D : Type 0} (same : D → D → Bool) (elect : Elect L) where
  -- a relation of each state to itself if a call is refused, and to the next one if it is answered
  module _ (Holds : CallFacts D → ReplyFacts K D → StateFacts K L D → StateFacts K L D → Type 0)
      (refused : (call : CallFacts D) (fault : Fault) (x : StateFacts K L D) → Holds call (Refused fault) x x)
      (not_allowed : (call : CallFacts D) (x : StateFacts K L D) → Holds call NotAllowed x x)
      (answered : (call : CallFacts D) (x : StateFacts K L D) (o : OutstandingWork K D) → is_allowed x o call ≡ true
      → Holds call (answer same elect x o call) x (after_call same elect x o call)) where
    -- the call is refused and leaves no state, or it leads from one state to another
    abbrev pub Outcome : MemberFacts K L D → CallFacts D → ReplyFacts K D → MemberFacts K L D → Type 0
    Outcome m call replied left =
        ((fault : Fault) × (replied ≡ Refused fault) × (left.life ≡ None))
        ⊎ ((x y : StateFacts K L D) × (m.life ≡ Some x) × (left.life ≡ Some y) × Holds call replied x y)

    living_call : (m : MemberFacts K L D) (call : CallFacts D) (x : StateFacts K L D) → m.life ≡ Some x
        → (y : StateFacts K L D) × ((left_of same elect x m call).life ≡ Some y)
        × Holds call (reply_of same elect x m.outstanding_work call) x y
    living_call m call x alive = by_allowed (is_allowed x m.outstanding_work call) refl
      where
        by_fault : (o : Option Fault) → fault_of x call ≡ o → is_allowed x m.outstanding_work call ≡ true
            → (y : StateFacts K L D) × ((left_of same elect x m call).life ≡ Some y)
            × Holds call (reply_of same elect x m.outstanding_work call) x y
        by_fault None no_fault allowed = rw (allowed, no_fault)
            (after_call same elect x m.outstanding_work call, refl, answered call x m.outstanding_work allowed)
        by_fault (Some f) due allowed = rw (allowed, due) (x, alive, refused call f x)

        by_allowed : (b : Bool) → is_allowed x m.outstanding_work call ≡ b
            → (y : StateFacts K L D) × ((left_of same elect x m call).life ≡ Some y)
            × Holds call (reply_of same elect x m.outstanding_work call) x y
        by_allowed true allowed = by_fault (fault_of x call) refl allowed
        by_allowed false refuses = rw refuses (x, alive, not_allowed call x)

    pub call_outcome : (m : MemberFacts K L D) (call : CallFacts D) (replied : ReplyFacts K D)
        (left : MemberFacts K L D)
        → IsCall same elect m call replied left → Outcome m call replied left
    unfolding IsCall
    call_outcome m call replied left is_call = by_life m.life refl is_call
      where
        by_life : (o : Option (StateFacts K L D)) → m.life ≡ o → AnswersAlive same elect o m call replied left
            → Outcome m call replied left
        by_life None dead (tells, leaves) = inl (_, tells, ap (λ n. n.life) leaves ∙ dead)
        by_life (Some x) alive (inl (tells, leaves)) =
            let goes = living_call m call x alive in
            inr (
              x,
              goes.0,
              alive,
              ap (λ n. n.life) leaves ∙ goes.1,
              subst (λ t. Holds call t x goes.0) (sym tells) goes.2,
            )
        by_life (Some x) alive (inr (_, tells, inl (_, leaves))) =
            inr
            (x, x, alive, ap (λ n. n.life) leaves ∙ alive, subst (λ t. Holds call t x x) (sym tells) (refused call _ x))
        by_life (Some x) alive (inr (_, tells, inr (_, _, leaves))) = inl (_, tells, ap (λ n. n.life) leaves)

    pub each_call : (m : MemberFacts K L D) (call : CallFacts D) (replied : ReplyFacts K D) (left : MemberFacts K L D)
        → IsCall same elect m call replied left → WhileAlive (Holds call replied) m.life left.life
    each_call m call replied left is_step = elim (call_outcome m call replied left is_step) [
      | inl (fault, tells, dies) ↦ rw dies tt
      | inr (x, y, alive, lives, holds) ↦ rw (alive, lives) holds
    ]

module _ {K L D : Type 0} (same : D → D → Bool) (elect : Elect L) where
  call_never_falls : (m : MemberFacts K L D) (call : CallFacts D) (replied : ReplyFacts K D) (left : MemberFacts K L D)
      → IsCall same elect m call replied left → WhileAlive NeverFalls m.life left.life
  call_never_falls =
      each_call same elect (λ call replied. NeverFalls)
      (λ call fault x. never_fell x) (λ call x. never_fell x)
      (λ call x o allowed. never_falls x _ (call_goes same elect x o call))

  pub life_never_falls : (m end : MemberFacts K L D) (calls : List (CallFacts D)) (replies : List (ReplyFacts K D))
      → IsLifetime same elect m calls replies end → WhileAlive NeverFalls m.life end.life
  life_never_falls m end [] [] life = subst (λ n. WhileAlive NeverFalls m.life n.life) life
      (alive_still NeverFalls m.life (λ x. never_fell x))
  life_never_falls m end [] (replied ∷ replies) life = absurd life
  life_never_falls m end (call ∷ calls) [] life = absurd life
  life_never_falls m end (call ∷ calls) (replied ∷ replies) (next, is_call, rest) =
      alive_joined NeverFalls NeverFalls NeverFalls m.life next.life end.life (λ x y z. falls_never x y z)
      (call_never_falls m call replied next is_call)
      (life_never_falls next end calls replies rest)
