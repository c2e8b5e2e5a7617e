-- For the code of the engine.
-- The last finalized view of a member rises to that of each finalization that it accepts, and by nothing else.
use Rattle.std.proofs.Common.{◌≡◌, ◌∙◌, ◌≤◌, ◌⊎◌, inl, inr, refl, ap, sym, subst, ℕ, Bool, true, max, List, [], ◌∷◌, ◌++◌, Option, Some, None, append-nil, arith}
use Rattle.std.specs.Prelude.{IfSome, option_to_list}
use Rattle.simplex_types.specs.Certificates.{ArtifactFacts, NotarizeVote, NullifyVote, FinalizeVote, ProposalFacts}
use Rattle.simplex_types.specs.declared.types.messages.Context.{Context}
use Rattle.simplex_types.specs.declared.types.messages.Proposal.{Proposal}
use Rattle.simplex_voter.specs.Acceptance.{after_add_finalization}
use Rattle.simplex_voter.specs.Facts.{StateFacts, Elect}
use Rattle.simplex_record.specs.Events as event
use Rattle.simplex_record.specs.Events.{Event, finalized_by_event}
use Rattle.simplex_member.specs.CallConditions.{is_allowed}
use Rattle.simplex_member.specs.CallSemantics.{answer, after_call}
use Rattle.simplex_member.specs.Calls as calls
use Rattle.simplex_member.specs.Calls.{CallFacts, ReplyFacts, asked, reply_facts}
use Rattle.simplex_member.specs.Events.{in_context, events_of}
use Rattle.simplex_member.specs.MemberFacts.{MemberFacts, IsCall}
use Rattle.simplex_member.specs.OutstandingWork.{OutstandingWork, context_at}
use Rattle.simplex_member.specs.declared.member.calls.Call.{Call}
use Rattle.simplex_member.specs.declared.member.calls.Reply.{Reply}
use Rattle.simplex_member.specs.declared.member.calls.Reply.TheVariants as reply
use Rattle.laws_safety.proofs.executions.Shown.{made_shown}
use Rattle.laws_safety.proofs.frames.CallsMake.{call_by_event}
use Rattle.laws_safety.proofs.frames.NoLowerViews.{event_finalizes, event_goes, finalization_passes, call_goes}
use Rattle.laws_safety.proofs.lives.WithinLives.{each_call}
use Rattle.laws_safety.specs.LifetimeLaws.{WhileAlive}
use Rattle.laws_safety.specs.ObservedTraces.{votes_in, certificates_in, taken_by}
use Rattle.laws_safety.specs.Traces.{of_vote, passed_certificates, accepted_by, signed_in}
use Rattle.engine_outbox.specs.SubjectActions.{final_by}
use Rattle.engine_outbox.specs.Finalizations.{finals_by, raised_to}
use Rattle.engine_outbox.proofs.Finalizations.{finalized_by-append}

module _ {D : Type 0} where
  vote_none : (vote : ArtifactFacts D) → finals_by (of_vote vote) ≡ []
  vote_none (NotarizeVote _ _) = refl
  vote_none (NullifyVote _ _) = refl
  vote_none (FinalizeVote _ _) = refl
  vote_none _ = refl

  -- a call hands a finalization in, or none
  abbrev Hands : CallFacts D → Type 0
  Hands call = ((c : ProposalFacts D) × (now : ℕ) × (call ≡ calls.AddFinalization c now))
      ⊎ (finals_by (passed_certificates call) ≡ [])

  hands : (call : CallFacts D) → Hands call
  hands (calls.AddFinalization c now) = inl (c, now, refl)
  hands _ = inr refl

module _ {K D : Type 0} where
  -- a vote finalizes nothing
  signed_none : (t : ReplyFacts K D) → finals_by (signed_in t) ≡ []
  signed_none (calls.Nullify None) = refl
  signed_none (calls.Nullify (Some (retry, vote))) = vote_none vote
  signed_none (calls.Finalize None) = refl
  signed_none (calls.Finalize (Some vote)) = vote_none vote
  signed_none (calls.Notarize None) = refl
  signed_none (calls.Notarize (Some vote)) = vote_none vote
  signed_none _ = refl

  taken_none : (call : CallFacts D) (t : ReplyFacts K D) → finals_by (passed_certificates call) ≡ []
      → finals_by (accepted_by call t) ≡ []
  taken_none call (calls.Added _ _) none = none
  taken_none call (calls.AddedNullification _) none = none
  taken_none call _ none = refl

  -- a call that hands no finalization in
  done_none : (call : CallFacts D) (t : ReplyFacts K D) → finals_by (passed_certificates call) ≡ []
      → finals_by (accepted_by call t ++ signed_in t) ≡ []
  done_none call t none =
      finalized_by-append (accepted_by call t) (signed_in t)
      ∙ ap (λ ps. ps ++ finals_by (signed_in t)) (taken_none call t none) ∙ signed_none t

  -- the view that the event of a call finalizes
  abbrev view_in : List (Event K D) → ℕ
  view_in [] = 0
  view_in (e ∷ _) = finalized_by_event e

  in_context_none : (e : Context D K → Event K D) → ((c : Context D K) → finalized_by_event (e c) ≡ 0)
      → (context : Option (Context D K)) → view_in (in_context e context) ≡ 0
  in_context_none e none None = refl
  in_context_none e none (Some c) = none c

  event_none : (o : OutstandingWork K D) (call : CallFacts D) → finals_by (passed_certificates call) ≡ []
      → view_in (events_of o call) ≡ 0
  event_none o (calls.AddFinalization c now) none = cc
  event_none o (calls.Proposed v payload now) none =
      in_context_none (λ c. event.Proposed c payload now) (λ c. refl) (context_at o v)
  event_none o (calls.SupersedeProposalRequest v) none = in_context_none event.Supersede (λ c. refl) (context_at o v)
  event_none o _ none = refl

module _ {K L D : Type 0} where
  -- the last finalized view is the highest of the one before and of those that the call finalizes
  abbrev pub Finalizes : CallFacts D → ReplyFacts K D → StateFacts K L D → StateFacts K L D → Type 0
  Finalizes call t x y = y.finalized ≡ raised_to x.finalized (finals_by (accepted_by call t ++ signed_in t))

module _ {K L D : Type 0} (same : D → D → Bool) (elect : Elect L) where
  module _ (x : StateFacts K L D) (o : OutstandingWork K D) where
    unfinalized : (call : CallFacts D) → is_allowed x o call ≡ true → finals_by (passed_certificates call) ≡ []
        → (after_call same elect x o call).finalized ≡ x.finalized
    unfinalized call allowed none =
        let no_higher : (after_call same elect x o call).finalized ≤ max x.finalized (view_in (events_of o call)) =
        call_by_event same elect x o (λ es y. y.finalized ≤ max x.finalized (view_in es)) (omega arith)
        (λ e is not_floor. event_finalizes same elect x e) call allowed in
        let no_view = event_none o call none in
        let no_lower = (call_goes same elect x o call).finalized in
        omega (arith, no_higher, no_view, no_lower)

    finalizes : (c : ProposalFacts D) (now : ℕ)
        → (after_add_finalization same elect x c now).finalized ≡ max x.finalized c.proposal.round.view
    finalizes c now =
        let no_higher : (after_add_finalization same elect x c now).finalized ≤ max x.finalized c.proposal.round.view =
        event_finalizes same elect x (event.AddFinalization c now) in
        let no_lower : x.finalized ≤ (after_add_finalization same elect x c now).finalized =
        (event_goes same elect x (event.AddFinalization c now)).finalized in
        let passes = finalization_passes same elect x now c in
        omega (arith, no_higher, no_lower, passes)

    by_hands : (call : CallFacts D) → is_allowed x o call ≡ true → Hands call
        → Finalizes call (answer same elect x o call) x (after_call same elect x o call)
    by_hands call allowed (inl (c, now, is)) =
        subst (λ a. Finalizes a (answer same elect x o a) x (after_call same elect x o a)) (sym is) (finalizes c now)
    by_hands call allowed (inr none) = unfinalized call allowed none
        ∙ sym (ap (raised_to x.finalized) (done_none call (answer same elect x o call) none))

  call_finalizes : (m : MemberFacts K L D) (call : CallFacts D) (t : ReplyFacts K D) (left : MemberFacts K L D)
      → IsCall same elect m call t left → WhileAlive (Finalizes call t) m.life left.life
  call_finalizes = each_call same elect Finalizes (λ call fault x. refl) (λ call x. refl)
      (λ call x o allowed. by_hands x o call allowed (hands call))

  -- the highest view that was reported stays the last finalized one
  last_replied : (finals : List (Proposal D)) (life next : Option (StateFacts K L D)) (before after : ℕ)
      → IfSome life (λ x. before ≡ x.finalized)
      → WhileAlive (λ x y. y.finalized ≡ raised_to x.finalized finals) life next → after ≡ raised_to before finals
      → IfSome next (λ y. after ≡ y.finalized)
  last_replied finals life None before after reported goes is = tt
  last_replied finals None (Some y) before after reported goes is = absurd goes
  last_replied finals (Some x) (Some y) before after reported goes is = is ∙ ap (λ v. raised_to v finals) reported
      ∙ sym goes

  -- by a call
  pub replied_by_call : {S G C : Type 0} (bytes_of : C → List ℕ) (m left : MemberFacts K L D) (call : Call S D K G C)
      (r : Reply S D K G C)
      → IsCall same elect m (asked bytes_of call) (reply_facts bytes_of r) left → (before after : ℕ)
      → IfSome m.life (λ x. before ≡ x.finalized)
      → after ≡ raised_to before (finals_by (taken_by call r ++ votes_in r))
      → IfSome left.life (λ y. after ≡ y.finalized)
  replied_by_call bytes_of m left call r answered before after replied_before is =
      last_replied (finals_by
      (accepted_by (asked bytes_of call) (reply_facts bytes_of r) ++ signed_in (reply_facts bytes_of r))) m.life
      left.life before after replied_before
      (call_finalizes m (asked bytes_of call) (reply_facts bytes_of r) left answered)
      (is ∙ ap (λ events. raised_to before (finals_by events)) (sym (made_shown L bytes_of call r)))

module _ {S D K G C : Type 0} where
  -- what is final by an answer
  pub final_events : (call : Call S D K G C) (r : Reply S D K G C) (finalized : Option (Proposal D))
      → finals_by (certificates_in call) ≡ option_to_list finalized
      → finals_by (taken_by call r ++ votes_in r) ≡ option_to_list (final_by finalized r)
  final_events call (reply.Added _ _) finalized hands = ap finals_by (append-nil (certificates_in call)) ∙ hands
  final_events call (reply.AddedNullification _) finalized hands = ap finals_by (append-nil (certificates_in call))
      ∙ hands
  final_events call (reply.Notarize None) finalized hands = refl
  final_events call (reply.Notarize (Some vote)) finalized hands = refl
  final_events call (reply.Nullify None) finalized hands = refl
  final_events call (reply.Nullify (Some (retry, vote))) finalized hands = refl
  final_events call (reply.Finalize None) finalized hands = refl
  final_events call (reply.Finalize (Some vote)) finalized hands = refl
  final_events call _ finalized hands = refl

  -- nothing is, where no finalization is passed in
  pub final_none : (call : Call S D K G C) (r : Reply S D K G C) → finals_by (certificates_in call) ≡ []
      → finals_by (taken_by call r ++ votes_in r) ≡ []
  final_none call r none = final_events call r None none ∙ ap option_to_list (nothing r)
    where
      nothing : (a : Reply S D K G C) → final_by {D = D} None a ≡ None
      nothing (reply.Added _ _) = refl
      nothing (reply.AddedNullification _) = refl
      nothing _ = refl
