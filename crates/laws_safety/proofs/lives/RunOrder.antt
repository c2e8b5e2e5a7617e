-- For `runs_keep_order`.
-- What lasts of each round within a lifetime: a conflict, its certificates, and which of them were returned for
-- broadcast.
use Rattle.std.proofs.Common.{◌≡◌, refl, ap, sym, ◌∙◌, subst, ℕ, ◌<◌, ◌≤◌, ◌⊎◌, inl, inr, Bool, true, false, ◌||◌, not, if◌then◌else◌, nat_lt, cond, List, [], ◌∷◌, Contains, Option, Some, None, is_some, arith}
use Rattle.std.specs.Prelude.{option_map, ◌&&◌, map, filter}
use Rattle.std.specs.Option.{option_map_or}
use Rattle.std.proofs.lemmas.Bool.{true≢false, cases_eq, ne_eqb}
use Rattle.simplex_types.specs.Proposal.{same_proposal}
use Rattle.simplex_types.specs.Certificates.{ProposalFacts, NullificationFacts}
use Rattle.simplex_types.specs.declared.types.messages.Context.{Context}
use Rattle.simplex_types.specs.declared.types.messages.Proposal.{Proposal}
use Rattle.simplex_round.specs.Slot.{SlotFacts, holds_or_empty, after_own, after_vote, after_certificate}
use Rattle.simplex_round.specs.Round.{RoundFacts}
use Rattle.simplex_voter.specs.Facts.{StateFacts, Elect, round_of, is_tracked}
use Rattle.simplex_voter.specs.Windows.{min_active}
use Rattle.simplex_record.specs.Events as event
use Rattle.simplex_record.specs.Events.{Event, IsEvent, after_event, is_prune}
use Rattle.simplex_member.specs.Events.{in_context, events_of}
use Rattle.simplex_member.specs.CallConditions.{is_allowed}
use Rattle.simplex_member.specs.Calls.{CallFacts, Proposed, SupersedeProposalRequest, Prune, ReplyFacts}
use Rattle.simplex_member.specs.CallSemantics.{answer, after_call}
use Rattle.simplex_member.specs.OutstandingWork.{OutstandingWork, context_at}
use Rattle.simplex_voter.specs.StateAnswers.{prune_answer}
use Rattle.simplex_view_maps.proofs.Maps.{is_eq-nat_cmp}
use Rattle.std.specs.FinMap.Entries.{find}
use Rattle.std.specs.Ordering.{nat_cmp}
use Rattle.std.specs.List.{list_any}
use Rattle.std.proofs.lemmas.Bool.Decides.{nat_tests}
use Rattle.laws_safety.specs.LifetimeLaws.{KindOfCertificate, Notarization, Nullification, Finalization, WasDropped}
use Rattle.laws_safety.proofs.frames.CallsMake.{is_floor, call_by_event}
use Rattle.laws_safety.proofs.lists.Splits.{Contains-cons_rest}
use Rattle.laws_safety.proofs.frames.EachRound.{IsGone, rounds_or_gone}
use Rattle.simplex_record.proofs.Paths.{event_path, asked_of_all}
use Rattle.simplex_record.proofs.Steps as step
use Rattle.simplex_record.proofs.Steps.{RoundStep, notarization_by, nullification_by, finalization_by}
use Rattle.laws_safety.proofs.frames.Untracked.{kept_view}

module _ {K D : Type 0} where
  -- the certificate of this kind was returned, and is there
  abbrev pub is_handed : KindOfCertificate → RoundFacts K D → Bool
  is_handed Notarization r = r.notarization_broadcast
  is_handed Nullification r = r.nullification_broadcast
  is_handed Finalization r = r.finalization_broadcast

  -- the view of the one that is there
  abbrev pub standing_view : KindOfCertificate → RoundFacts K D → Option ℕ
  standing_view Notarization r = option_map (λ c. c.proposal.round.view) r.notarization
  standing_view Nullification r = option_map (λ c. c.round.view) r.nullification
  standing_view Finalization r = option_map (λ c. c.proposal.round.view) r.finalization

-- it is as before, or has come to its own view, which is retained
abbrev pub UnchangedOrOwnView : (low v : ℕ) (before after : Option ℕ) → Type 0
UnchangedOrOwnView low v before after = (after ≡ before) ⊎ ((low ≤ v) × (after ≡ Some v))

stands_on : (low v : ℕ) (a b c : Option ℕ) → UnchangedOrOwnView low v a b → UnchangedOrOwnView low v b c
    → UnchangedOrOwnView low v a c
stands_on low v a b c (inl p) (inl q) = inl (q ∙ p)
stands_on low v a b c (inr (kept, p)) (inl q) = inr (kept, q ∙ p)
stands_on low v a b c p (inr q) = inr q

-- a round of the view v becomes another, by an event before which the views from `low` on are retained
pub record RoundLasts {K D : Type 0} (low v : ℕ) (r s : RoundFacts K D) : Type 0 where
  pub conflict : r.slot.conflict ≡ true → s.slot.conflict ≡ true
  pub notarization_handed : r.notarization_broadcast ≡ true → s.notarization_broadcast ≡ true
  pub nullification_handed : r.nullification_broadcast ≡ true → s.nullification_broadcast ≡ true
  pub finalization_handed : r.finalization_broadcast ≡ true → s.finalization_broadcast ≡ true
  pub notarization : UnchangedOrOwnView low v (standing_view Notarization r) (standing_view Notarization s)
  pub nullification : UnchangedOrOwnView low v (standing_view Nullification r) (standing_view Nullification s)
  pub finalization : UnchangedOrOwnView low v (standing_view Finalization r) (standing_view Finalization s)

module _ {K D : Type 0} (low v : ℕ) where
  pub handed : (r s : RoundFacts K D) → RoundLasts low v r s → (kind : KindOfCertificate) → is_handed kind r ≡ true
      → is_handed kind s ≡ true
  handed r s lasts Notarization h = lasts.notarization_handed h
  handed r s lasts Nullification h = lasts.nullification_handed h
  handed r s lasts Finalization h = lasts.finalization_handed h

  pub certificates : (r s : RoundFacts K D) → RoundLasts low v r s → (kind : KindOfCertificate)
      → UnchangedOrOwnView low v (standing_view kind r) (standing_view kind s)
  certificates r s lasts Notarization = lasts.notarization
  certificates r s lasts Nullification = lasts.nullification
  certificates r s lasts Finalization = lasts.finalization

  -- none comes below the retained views
  pub none_comes : (r s : RoundFacts K D) → RoundLasts low v r s → (kind : KindOfCertificate) → v < low
      → standing_view kind r ≡ None → standing_view kind s ≡ None
  none_comes r s lasts kind below none = elim (certificates r s lasts kind)
      [ inl same ↦ same ∙ none | inr (kept, comes) ↦ absurd (omega arith) ]

  still : (r : RoundFacts K D) → RoundLasts low v r r
  still r = record {
    conflict = λ h. h;
    notarization_handed = λ h. h;
    nullification_handed = λ h. h;
    finalization_handed = λ h. h;
    notarization = inl refl;
    nullification = inl refl;
    finalization = inl refl;
  }

  round_joined : (r s t : RoundFacts K D) → RoundLasts low v r s → RoundLasts low v s t → RoundLasts low v r t
  round_joined r s t p q = record {
    conflict = λ h. q.conflict (p.conflict h);
    notarization_handed = λ h. q.notarization_handed (p.notarization_handed h);
    nullification_handed = λ h. q.nullification_handed (p.nullification_handed h);
    finalization_handed = λ h. q.finalization_handed (p.finalization_handed h);
    notarization = stands_on low v _ _ _ p.notarization q.notarization;
    nullification = stands_on low v _ _ _ p.nullification q.nullification;
    finalization = stands_on low v _ _ _ p.finalization q.finalization;
  }

-- no proposal settles a conflict

module _ {D : Type 0} (same : Proposal D → Proposal D → Bool) (s : SlotFacts D) (p : Proposal D)
    (h : s.conflict ≡ true) where
  certified_conflict : (after_certificate same s p).conflict ≡ true
  certified_conflict = by_held s.held
    where
      by_same : (b : Bool) → (if b then s else record {
        held = Some p;
        conflict = true;
        verified = false;
        build_requested = true;
        verify_requested = true;
      }).conflict ≡ true
      by_same true = h
      by_same false = refl

      by_held : (o : Option (Proposal D)) → (option_map_or
          (λ q. if same q p then s else record {
            held = Some p;
            conflict = true;
            verified = false;
            build_requested = true;
            verify_requested = true;
          }) o (record s { held = Some p })).conflict ≡ true
      by_held None = h
      by_held (Some q) = by_same (same q p)

  voted_conflict : (after_vote same s p).conflict ≡ true
  voted_conflict = by_held s.held
    where
      by_held : (o : Option (Proposal D)) → (option_map_or
          (λ (q : Proposal D). record s { conflict = s.conflict || not (same q p); verified = s.verified && same q p })
          o (record s { held = Some p })).conflict ≡ true
      by_held None = h
      by_held (Some q) = rw h refl

  own_conflict : (after_own same s p).conflict ≡ true
  own_conflict = by_test (holds_or_empty same s p)
    where
      by_test : (b : Bool) → (if b then record {
        held = Some p;
        conflict = s.conflict;
        verified = not s.conflict;
        build_requested = true;
        verify_requested = true;
      } else s).conflict ≡ true
      by_test true = h
      by_test false = h

-- the certificates that an event brings are of retained views
pub record BringsFrom {K D : Type 0} (low : ℕ) (e : Event K D) : Type 0 where
  pub notarization : (c : ProposalFacts D) → notarization_by e ≡ Some c → low ≤ c.proposal.round.view
  pub nullification : (c : NullificationFacts) → nullification_by e ≡ Some c → low ≤ c.round.view
  pub finalization : (c : ProposalFacts D) → finalization_by e ≡ Some c → low ≤ c.proposal.round.view

module _ {K L D : Type 0} (same : D → D → Bool) (elect : Elect L) (x : StateFacts K L D) (e : Event K D) (low : ℕ)
    (brings : BringsFrom low e) where
  change_lasts : (y : StateFacts K L D) (v : ℕ) (r s : RoundFacts K D) → RoundStep same elect x e y v r s
      → RoundLasts low v r s
  change_lasts y v r s (step.Notarized c says at none) = (let kept = brings.notarization c says in record {
    conflict = λ h. certified_conflict (same_proposal same) r.slot c.proposal h;
    notarization_handed = λ h. h;
    nullification_handed = λ h. h;
    finalization_handed = λ h. h;
    notarization = inr (omega (arith, kept, at), ap Some at);
    nullification = inl refl;
    finalization = inl refl;
  })
  change_lasts y v r s (step.Nullified c says at none) = (let kept = brings.nullification c says in record {
    conflict = λ h. h;
    notarization_handed = λ h. h;
    nullification_handed = λ h. h;
    finalization_handed = λ h. h;
    notarization = inl refl;
    nullification = inr (omega (arith, kept, at), ap Some at);
    finalization = inl refl;
  })
  change_lasts y v r s (step.Finalized c says at none) = (let kept = brings.finalization c says in record {
    conflict = λ h. certified_conflict (same_proposal same) r.slot c.proposal h;
    notarization_handed = λ h. h;
    nullification_handed = λ h. h;
    finalization_handed = λ h. h;
    notarization = inl refl;
    nullification = inl refl;
    finalization = inr (omega (arith, kept, at), ap Some at);
  })
  change_lasts y v r s step.HandedNotarization =
      record {
        conflict = λ h. h;
        notarization_handed = λ h. rw h refl;
        nullification_handed = λ h. h;
        finalization_handed = λ h. h;
        notarization = inl refl;
        nullification = inl refl;
        finalization = inl refl;
      }
  change_lasts y v r s step.HandedNullification =
      record {
        conflict = λ h. h;
        notarization_handed = λ h. h;
        nullification_handed = λ h. rw h refl;
        finalization_handed = λ h. h;
        notarization = inl refl;
        nullification = inl refl;
        finalization = inl refl;
      }
  change_lasts y v r s step.HandedFinalization =
      record {
        conflict = λ h. h;
        notarization_handed = λ h. h;
        nullification_handed = λ h. h;
        finalization_handed = λ h. rw h refl;
        notarization = inl refl;
        nullification = inl refl;
        finalization = inl refl;
      }
  change_lasts y v r s step.SentNotarization =
      record {
        conflict = λ h. h;
        notarization_handed = λ h. refl;
        nullification_handed = λ h. h;
        finalization_handed = λ h. h;
        notarization = inl refl;
        nullification = inl refl;
        finalization = inl refl;
      }
  change_lasts y v r s step.SentNullification =
      record {
        conflict = λ h. h;
        notarization_handed = λ h. h;
        nullification_handed = λ h. refl;
        finalization_handed = λ h. h;
        notarization = inl refl;
        nullification = inl refl;
        finalization = inl refl;
      }
  change_lasts y v r s step.SentFinalization =
      record {
        conflict = λ h. h;
        notarization_handed = λ h. h;
        nullification_handed = λ h. h;
        finalization_handed = λ h. refl;
        notarization = inl refl;
        nullification = inl refl;
        finalization = inl refl;
      }
  change_lasts y v r s (step.VotedAgain p binding says at is) =
      record {
        conflict = λ h. own_conflict (same_proposal same) r.slot p h;
        notarization_handed = λ h. h;
        nullification_handed = λ h. h;
        finalization_handed = λ h. h;
        notarization = inl refl;
        nullification = inl refl;
        finalization = inl refl;
      }
  change_lasts y v r s (step.Received p says free) =
      record {
        conflict = λ h. voted_conflict (same_proposal same) r.slot p h;
        notarization_handed = λ h. h;
        nullification_handed = λ h. h;
        finalization_handed = λ h. h;
        notarization = inl refl;
        nullification = inl refl;
        finalization = inl refl;
      }
  change_lasts y v r s (step.Built context payload now says is at) =
      record {
        conflict = λ h. own_conflict (same_proposal same) r.slot _ h;
        notarization_handed = λ h. h;
        nullification_handed = λ h. h;
        finalization_handed = λ h. h;
        notarization = inl refl;
        nullification = inl refl;
        finalization = inl refl;
      }
  change_lasts y v r s _ = record {
    conflict = λ h. h;
    notarization_handed = λ h. h;
    nullification_handed = λ h. h;
    finalization_handed = λ h. h;
    notarization = inl refl;
    nullification = inl refl;
    finalization = inl refl;
  }

  pub event_lasts : (v : ℕ) → RoundLasts low v (round_of x v) (round_of (after_event same elect x e) v)
      ⊎ ((is_prune e ≡ true) × IsGone x (after_event same elect x e) v)
  event_lasts = rounds_or_gone same elect x e 0 (RoundLasts low) (round_joined low) change_lasts
      (event_path same elect 0 x e (omega arith) (asked_of_all x e))

module _ {K L D : Type 0} (x : StateFacts K L D) where
  -- within a lifetime
  pub brings_kept : (e : Event K D) → IsEvent x e → is_floor e ≡ false → BringsFrom (min_active x) e
  brings_kept (event.SetFloor floor now) takes none = absurd (true≢false none)
  brings_kept (event.AddNotarization c) takes none =
      record {
        notarization = λ d is. (let e : c ≡ d = cc in
            subst (λ (h : ProposalFacts D). min_active x ≤ h.proposal.round.view) e
            (kept_view x c.proposal.round takes).1);
        nullification = λ d is. absurd (cc);
        finalization = λ d is. absurd (cc);
      }
  brings_kept (event.AddNullification c now) takes none =
      record {
        notarization = λ d is. absurd (cc);
        nullification = λ d is. (let e : c ≡ d = cc in
            subst (λ (h : NullificationFacts). min_active x ≤ h.round.view) e (kept_view x c.round takes).1);
        finalization = λ d is. absurd (cc);
      }
  brings_kept (event.AddFinalization c now) takes none =
      record {
        notarization = λ d is. absurd (cc);
        nullification = λ d is. absurd (cc);
        finalization = λ d is. (let e : c ≡ d = cc in
            subst (λ (h : ProposalFacts D). min_active x ≤ h.proposal.round.view) e
            (kept_view x c.proposal.round takes).1);
      }
  brings_kept _ takes none = record {
    notarization = λ d is. absurd (cc);
    nullification = λ d is. absurd (cc);
    finalization = λ d is. absurd (cc);
  }

-- each certificate is of some view
pub brings_any : {K D : Type 0} (e : Event K D) → BringsFrom 0 e
brings_any e = record {
  notarization = λ c is. omega arith;
  nullification = λ c is. omega arith;
  finalization = λ c is. omega arith;
}

-- calls

-- an entry found under a key that passes a test is among the keys that do
found_key : {V : Type 0} (test : ℕ → Bool) (v : ℕ) (es : List (ℕ × V)) → is_some (find nat_cmp v es) ≡ true
    → test v ≡ true → Contains (map (λ e. e.0) (filter (λ e. test e.0) es)) v
found_key test v [] there passes = absurd (cc)
found_key test v (e ∷ es) there passes = elim (cases_eq v e.0) [
  | inl here ↦ rw (sym (ap test here) ∙ passes) (0, omega arith, sym here)
  | inr apart ↦ (
      let later : is_some (find nat_cmp v es) ≡ true =
      ap (λ b. is_some (cond b (Some e.1) (find nat_cmp v es))) (sym (is_eq-nat_cmp v e.0 ∙ ne_eqb v e.0 apart))
      ∙ there in
      let rest = found_key test v es later passes in
      elim (test e.0) as
      (λ b. Contains (map (λ f. f.0) (if b then e ∷ filter (λ f. test f.0) es else filter (λ f. test f.0) es)) v) [
        | true ↦ Contains-cons_rest e.0 (map (λ f. f.0) (filter (λ f. test f.0) es)) v rest
        | false ↦ rest
      ])
]

-- a view below the retained ones isn't tracked after a call whose reply says that it was dropped
pub record Drops {K L D : Type 0} (x y : StateFacts K L D) (replied : ReplyFacts K D) (v : ℕ) : Type 0 where
  pub gone : IsGone x y v
  pub dropped : is_tracked x v ≡ true → WasDropped (replied ∷ []) v

-- of the events of a call
abbrev pub AllLast : {K L D : Type 0} → StateFacts K L D → List (Event K D) → StateFacts K L D → Type 0
AllLast x es y = (v : ℕ) → RoundLasts (min_active x) v (round_of x v) (round_of y v)
    ⊎ ((list_any is_prune es ≡ true) × IsGone x y v)

in_context_prunes : {K D : Type 0} (event : Context D K → Event K D) → ((c : Context D K) → is_prune (event c) ≡ false)
    → (context : Option (Context D K)) → list_any is_prune (in_context event context) ≡ false
in_context_prunes event none None = refl
in_context_prunes event none (Some c) = rw (none c) refl

none_lasts : {K L D : Type 0} (x : StateFacts K L D) → AllLast x [] x
none_lasts x v = inl (still (min_active x) v (round_of x v))

module _ {K L D : Type 0} (same : D → D → Bool) (elect : Elect L) (x : StateFacts K L D) where
  taken_lasts : (e : Event K D) → IsEvent x e → is_floor e ≡ false → AllLast x (e ∷ []) (after_event same elect x e)
  taken_lasts e takes none v = elim (event_lasts same elect x e (min_active x) (brings_kept x e takes none) v)
      [ inl lasts ↦ inl lasts | inr (prunes, gone) ↦ inr (rw prunes refl, gone) ]

  pub call_lasts : (o : OutstandingWork K D) (call : CallFacts D) → is_allowed x o call ≡ true → (v : ℕ)
      → RoundLasts (min_active x) v (round_of x v) (round_of (after_call same elect x o call) v)
      ⊎ Drops x (after_call same elect x o call) (answer same elect x o call) v
  call_lasts o call allowed v =
      elim (call_by_event same elect x o (AllLast x) (none_lasts x) taken_lasts call allowed v) [
        | inl lasts ↦ inl lasts
        | inr (prunes, gone) ↦ inr (record { gone = gone; dropped = λ tracked. replied call prunes gone.below tracked })
      ]
    where
      replied : (call : CallFacts D) → list_any is_prune (events_of o call) ≡ true → v < min_active x
          → is_tracked x v ≡ true → WasDropped (answer same elect x o call ∷ []) v
      replied Prune prunes below tracked = (let under : nat_lt v (min_active x) ≡ true = grind (arith, nat_tests) in
          (prune_answer x, (0, omega arith, refl), found_key (λ u. nat_lt u (min_active x)) v x.rounds tracked under))
      replied (Proposed w payload now) prunes below tracked =
          absurd
          (true≢false (sym prunes ∙ in_context_prunes (λ c. event.Proposed c payload now) (λ c. refl) (context_at o w)))
      replied (SupersedeProposalRequest w) prunes below tracked =
          absurd (true≢false (sym prunes ∙ in_context_prunes event.Supersede (λ c. refl) (context_at o w)))
      replied _ prunes below tracked = absurd (true≢false (sym prunes))
