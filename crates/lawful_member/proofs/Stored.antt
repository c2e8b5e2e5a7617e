-- For `LawfulMember::call`.
-- A call keeps what is stored beside a record.
use Rattle.std.proofs.Common.{◌≡◌, refl, ap, ◌∙◌, Bool, true, false, cond, inl, inr, Option, Some, None}
use Rattle.simplex_types.specs.declared.types.fault.Fault.{Fault}
use Rattle.simplex_voter.specs.Facts.{StateFacts, Elect}
use Rattle.simplex_member.specs.CallConditions.{is_allowed, fault_of}
use Rattle.simplex_member.specs.Calls.{CallFacts, ReplyFacts}
use Rattle.simplex_member.specs.Journal.{stored_of}
use Rattle.simplex_member.specs.MemberFacts.{MemberFacts, IsCall, AnswersAlive, unless_retained, with_call}

module _ {K L D : Type 0} (same : D → D → Bool) (elect : Elect L) (m left : MemberFacts K L D) (call : CallFacts D)
    (replied : ReplyFacts K D) where
  by_definition : (x : StateFacts K L D) (b : Bool) (due : Option Fault)
      → stored_of (cond b (unless_retained due m (with_call same elect x m call)) m) ≡ stored_of m
  by_definition x true None = refl
  by_definition x true (Some due) = refl
  by_definition x false due = refl

  by_life : (life : Option (StateFacts K L D)) → AnswersAlive same elect life m call replied left
      → stored_of left ≡ stored_of m
  by_life None (_, left_so) = ap stored_of left_so
  by_life (Some x) (inl (_, left_so)) = ap stored_of left_so
      ∙ by_definition x (is_allowed x m.outstanding_work call) (fault_of x call)
  by_life (Some x) (inr (_, _, inl (_, same_left))) = ap stored_of same_left
  by_life (Some x) (inr (_, _, inr (_, _, lost))) = ap stored_of lost

  pub stored_stays : IsCall same elect m call replied left → stored_of left ≡ stored_of m
  unfolding IsCall
  stored_stays made = by_life m.life made
