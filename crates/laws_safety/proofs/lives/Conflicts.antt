-- For `runs_keep_order`.
-- A conflict of a view stays in a lifetime until the view is pruned.
use Rattle.std.proofs.Common.{◌≡◌, refl, subst, ℕ, ◌≤◌, inl, inr, Bool, true, List, [], ◌∷◌, arith}
use Rattle.std.proofs.lemmas.List.Elements.{Contains-append_left}
use Rattle.simplex_voter.specs.Facts.{StateFacts, Elect}
use Rattle.simplex_voter.specs.Windows.{min_active}
use Rattle.simplex_member.specs.CallConditions.{is_allowed}
use Rattle.simplex_member.specs.Calls.{CallFacts, ReplyFacts, Refused, NotAllowed}
use Rattle.laws_safety.specs.LifetimeLaws.{IsLifetime, WhileAlive, WasDropped, ConflictsStay}
use Rattle.simplex_member.specs.MemberFacts.{MemberFacts, IsCall}
use Rattle.simplex_member.specs.CallSemantics.{answer, after_call}
use Rattle.simplex_member.specs.OutstandingWork.{OutstandingWork}
use Rattle.laws_safety.proofs.lists.Splits.{Contains-cons_rest}
use Rattle.laws_safety.proofs.frames.NoLowerViews.{floor_goes, call_goes}
use Rattle.laws_safety.proofs.lives.RunOrder.{call_lasts}
use Rattle.simplex_record.proofs.Paths.{tracked_by}
use Rattle.laws_safety.proofs.lives.WithinLives.{alive_still, alive_joined, each_call}

-- conflicts stay, and the lowest retained view never falls
pub record ConflictsLast {K L D : Type 0} (replies : List (ReplyFacts K D)) (x y : StateFacts K L D) : Type 0 where
  pub floor : min_active x ≤ min_active y
  pub conflicts : ConflictsStay replies x y

module _ {K D : Type 0} where
  more_dropped : (replied : ReplyFacts K D) (replies : List (ReplyFacts K D)) (v : ℕ) → WasDropped replies v
      → WasDropped (replied ∷ replies) v
  more_dropped replied replies v (views, there, among) = (views, Contains-cons_rest replied replies _ there, among)

  first_dropped : (replied : ReplyFacts K D) (replies : List (ReplyFacts K D)) (v : ℕ) → WasDropped (replied ∷ []) v
      → WasDropped (replied ∷ replies) v
  first_dropped replied replies v (views, there, among) =
      (views, Contains-append_left (replied ∷ []) replies _ there, among)

module _ {K L D : Type 0} where
  pub keeps : (replies : List (ReplyFacts K D)) (x : StateFacts K L D) → ConflictsLast replies x x
  keeps replies x = record { floor = omega arith; conflicts = λ v is. inl is }

  pub keeps_on : (replied : ReplyFacts K D) (replies : List (ReplyFacts K D)) (x y z : StateFacts K L D)
      → ConflictsLast (replied ∷ []) x y → ConflictsLast replies y z → ConflictsLast (replied ∷ replies) x z
  keeps_on replied replies x y z p q = record { floor = omega (arith, p.floor, q.floor); conflicts = conflicts }
    where
      conflicts : ConflictsStay (replied ∷ replies) x z
      conflicts v is = elim (p.conflicts v is) [
        | inr pruned ↦ inr (record
            { dropped = first_dropped replied replies v pruned.dropped; below = omega (arith, pruned.below, q.floor) })
        | inl stays ↦ elim (q.conflicts v stays) [
          | inl still ↦ inl still
          | inr pruned ↦ inr (record { dropped = more_dropped replied replies v pruned.dropped; below = pruned.below })
        ]
      ]

module _ {K L D : Type 0} (same : D → D → Bool) (elect : Elect L) where
  call_keeps : (call : CallFacts D) (x : StateFacts K L D) (o : OutstandingWork K D) → is_allowed x o call ≡ true
      → ConflictsLast (answer same elect x o call ∷ []) x (after_call same elect x o call)
  call_keeps call x o allowed = record { floor = floor; conflicts = conflicts }
    where
      floor : min_active x ≤ min_active (after_call same elect x o call)
      floor = floor_goes x _ (call_goes same elect x o call)

      conflicts : ConflictsStay (answer same elect x o call ∷ []) x (after_call same elect x o call)
      conflicts v is = elim (call_lasts same elect x o call allowed v) [
        | inl lasts ↦ inl (lasts.conflict is)
        | inr drops ↦ inr (record {
          dropped = drops.dropped (tracked_by x v (λ r. r.slot.conflict) refl is);
          below = omega (arith, drops.gone.below, floor);
        })
      ]

  replied_keeps : (m : MemberFacts K L D) (call : CallFacts D) (replied : ReplyFacts K D) (left : MemberFacts K L D)
      → IsCall same elect m call replied left → WhileAlive (ConflictsLast (replied ∷ [])) m.life left.life
  replied_keeps =
      each_call same elect (λ call replied. ConflictsLast (replied ∷ []))
      (λ call fault x. keeps (Refused fault ∷ []) x) (λ call x. keeps (NotAllowed ∷ []) x)
      (λ call x o allowed. call_keeps call x o allowed)

  pub life_keeps : (m end : MemberFacts K L D) (calls : List (CallFacts D)) (replies : List (ReplyFacts K D))
      → IsLifetime same elect m calls replies end → WhileAlive (ConflictsLast replies) m.life end.life
  life_keeps m end [] [] life = subst (λ n. WhileAlive (ConflictsLast []) m.life n.life) life
      (alive_still (ConflictsLast []) m.life (λ x. keeps [] x))
  life_keeps m end [] (replied ∷ replies) life = absurd life
  life_keeps m end (call ∷ calls) [] life = absurd life
  life_keeps m end (call ∷ calls) (replied ∷ replies) (next, is_call, rest) =
      alive_joined (ConflictsLast (replied ∷ [])) (ConflictsLast replies)
      (ConflictsLast (replied ∷ replies)) m.life next.life
      end.life
      (λ x y z p q. keeps_on replied replies x y z p q)
      (replied_keeps m call replied next is_call)
      (life_keeps next end calls replies rest)
