-- The reply to a call is of its kind; if it is an answer, it is by the definitions, and if it is a refusal, nothing is
-- lost.
use Rattle.std.proofs.Common.{◌≡◌, refl, ap, sym, ◌∙◌, Bool, true, false, cond, [], Option, Some, None, inl, inr}
use Rattle.std.proofs.lemmas.List.{append-nil}
use Rattle.simplex_types.specs.declared.types.fault.Fault.{Fault}
use Rattle.simplex_types.specs.declared.types.fault.Fault.TheVariants as fault
use Rattle.simplex_voter.specs.Facts.{StateFacts, Elect}
use Rattle.simplex_member.specs.CallConditions.{is_allowed, fault_of}
use Rattle.simplex_member.specs.Calls.{CallFacts, AddNotarization, AddNullification, AddFinalization, SetProposal, TryPropose, Proposed, SupersedeProposalRequest, PendingHandoffAbandonment, ReleaseProposalRequest, TryVerify, Verified, VerificationFailed, ConstructNotarize, CertifyCandidates, SetCertifyHandle, Certified, ConstructNullify, ConstructFinalize, BroadcastNotarization, BroadcastNullification, BroadcastFinalization, GetBestCertificate, TriggerTimeout, NextTimeout, Prune, ReplyFacts, Refused, NotAllowed}
use Rattle.simplex_member.specs.MemberFacts.{MemberFacts, HasGrown, with_call, unless_refused, unless_retained, Answers, AnswersAlive, IsCall}
use Rattle.simplex_member.specs.CallSemantics.{answer, recorded_by}
use Rattle.simplex_member.specs.OutstandingWork.{OutstandingWork}
use Rattle.simplex_member.specs.MethodContracts.{is_reply_to, IfAnswered, IfRefused, IsAnswered, UnchangedButLifetime}
use Rattle.simplex_member.specs.declared.member.refusal.Refusal.{Refusal}
use Rattle.simplex_member.specs.declared.member.refusal.Refusal.TheVariants as refusal

module _ {K D : Type 0} where
  -- a claim that holds
  so_answered : {A : Type 0} (replied : ReplyFacts K D) → A → IfAnswered replied A
  so_answered (Refused due) claim = tt
  so_answered NotAllowed claim = tt
  so_answered _ claim = claim

module _ {K L D : Type 0} where
  keeps_same : (m left : MemberFacts K L D) (refused : Refusal) → left ≡ m → UnchangedButLifetime m refused left
  keeps_same m left (refusal.Fault fault.OutOfMemory) same = inl same
  keeps_same m left (refusal.Fault fault.Failed) same = same
  keeps_same m left (refusal.Fault fault.ViewTooLarge) same = same
  keeps_same m left (refusal.Fault fault.TimeOverflow) same = same
  keeps_same m left refusal.NotAllowed same = same

  -- the record stays
  same_grown : (m left : MemberFacts K L D) → left ≡ m → HasGrown m left
  same_grown m left same = ([], ap (λ (n : MemberFacts K L D). n.entries) same ∙ sym (append-nil m.entries))

  keeps_grown : (m left : MemberFacts K L D) (refused : Refusal) → UnchangedButLifetime m refused left → HasGrown m left
  keeps_grown m left (refusal.Fault fault.OutOfMemory) (inl same) = same_grown m left same
  keeps_grown m left (refusal.Fault fault.OutOfMemory) (inr fell) =
      ([], ap (λ (n : MemberFacts K L D). n.entries) fell ∙ sym (append-nil m.entries))
  keeps_grown m left (refusal.Fault fault.Failed) same = same_grown m left same
  keeps_grown m left (refusal.Fault fault.ViewTooLarge) same = same_grown m left same
  keeps_grown m left (refusal.Fault fault.TimeOverflow) same = same_grown m left same
  keeps_grown m left refusal.NotAllowed same = same_grown m left same

module _ {K L D : Type 0} (same : D → D → Bool) (elect : Elect L) where
  -- an answer is of its call's kind, and is no refusal
  of_kind : (x : StateFacts K L D) (o : OutstandingWork K D) (call : CallFacts D)
      → (is_reply_to (answer same elect x o call) call ≡ true)
      × ((claim : Refusal → Type 0) → IfRefused (answer same elect x o call) claim)
  of_kind x o (AddNotarization _) = (refl, λ claim. tt)
  of_kind x o (AddNullification _ _) = (refl, λ claim. tt)
  of_kind x o (AddFinalization _ _) = (refl, λ claim. tt)
  of_kind x o (SetProposal _ _) = (refl, λ claim. tt)
  of_kind x o TryPropose = (refl, λ claim. tt)
  of_kind x o (Proposed _ _ _) = (refl, λ claim. tt)
  of_kind x o (SupersedeProposalRequest _) = (refl, λ claim. tt)
  of_kind x o (PendingHandoffAbandonment _) = (refl, λ claim. tt)
  of_kind x o (ReleaseProposalRequest _) = (refl, λ claim. tt)
  of_kind x o TryVerify = (refl, λ claim. tt)
  of_kind x o (Verified _) = (refl, λ claim. tt)
  of_kind x o (VerificationFailed _ _ _) = (refl, λ claim. tt)
  of_kind x o (ConstructNotarize _) = (refl, λ claim. tt)
  of_kind x o CertifyCandidates = (refl, λ claim. tt)
  of_kind x o (SetCertifyHandle _ _) = (refl, λ claim. tt)
  of_kind x o (Certified _ _ _) = (refl, λ claim. tt)
  of_kind x o (ConstructNullify _) = (refl, λ claim. tt)
  of_kind x o (ConstructFinalize _) = (refl, λ claim. tt)
  of_kind x o (BroadcastNotarization _) = (refl, λ claim. tt)
  of_kind x o (BroadcastNullification _) = (refl, λ claim. tt)
  of_kind x o (BroadcastFinalization _) = (refl, λ claim. tt)
  of_kind x o GetBestCertificate = (refl, λ claim. tt)
  of_kind x o (TriggerTimeout _ _ _) = (refl, λ claim. tt)
  of_kind x o (NextTimeout _) = (refl, λ claim. tt)
  of_kind x o Prune = (refl, λ claim. tt)

  module _ (m : MemberFacts K L D) (call : CallFacts D) where
    pub record Typed (replied : ReplyFacts K D) (left : MemberFacts K L D) : Type 0 where
      pub of_its_kind : is_reply_to replied call ≡ true
      pub answered : IfAnswered replied (IsAnswered same elect m call replied left)
      pub kept : IfRefused replied (λ refused. UnchangedButLifetime m refused left)
      pub grown : HasGrown m left

    refused_so : (due : Fault) (left : MemberFacts K L D) → UnchangedButLifetime m (refusal.Fault due) left
        → Typed (Refused due) left
    refused_so due left keeps =
        record { of_its_kind = refl; answered = tt; kept = keeps; grown = keeps_grown m left (refusal.Fault due) keeps }

    module _ (x : StateFacts K L D) (alive : m.life ≡ Some x) where
      by_definition : (b : Bool) → is_allowed x m.outstanding_work call ≡ b → (due : Option Fault)
          → fault_of x call ≡ due
          → Typed (cond b (unless_refused due (answer same elect x m.outstanding_work call)) NotAllowed)
          (cond b (unless_retained due m (with_call same elect x m call)) m)
      by_definition true allowed None not_due =
          let replied = answer same elect x m.outstanding_work call in
          record {
            of_its_kind = (of_kind x m.outstanding_work call).0;
            answered = so_answered replied (record
                { state = x; alive = alive; allowed = allowed; not_due = not_due; replied_so = refl; left_so = refl });
            kept = (of_kind x m.outstanding_work call).1
                (λ refused. UnchangedButLifetime m refused (with_call same elect x m call));
            grown = (recorded_by same elect x call, refl);
          }
      by_definition true allowed (Some due) is_due = refused_so due m (keeps_same m m (refusal.Fault due) refl)
      by_definition false forbidden due is_due =
          record { of_its_kind = refl; answered = tt; kept = refl; grown = same_grown m m refl }

      by_answers : (replied : ReplyFacts K D) (left : MemberFacts K L D) → Answers same elect x m call replied left
          → Typed replied left
      by_answers replied left (inl (replied_so, left_so)) =
          rw (replied_so, left_so) (by_definition (is_allowed x m.outstanding_work call) refl (fault_of x call) refl)
      by_answers replied left (inr (allowed, replied_so, inl (needs, same_left))) =
          rw replied_so (refused_so fault.OutOfMemory left (inl same_left))
      by_answers replied left (inr (allowed, replied_so, inr (not_due, falls, lost))) =
          rw replied_so (refused_so fault.OutOfMemory left (inr lost))

    by_life : (life : Option (StateFacts K L D)) → m.life ≡ life → (replied : ReplyFacts K D) (left : MemberFacts K L D)
        → AnswersAlive same elect life m call replied left → Typed replied left
    by_life None dead replied left (replied_so, left_so) = rw (replied_so, left_so) (refused_so fault.Failed m refl)
    by_life (Some x) alive replied left made = by_answers x alive replied left made

    pub typed : (replied : ReplyFacts K D) (left : MemberFacts K L D) → IsCall same elect m call replied left
        → Typed replied left
    unfolding IsCall
    typed replied left made = by_life m.life refl replied left made
