-- For `runs_keep_order`.
-- Within a lifetime each certificate is returned for broadcast once.
use Rattle.std.proofs.Common.{◌≡◌, refl, ap, sym, ◌∙◌, subst, ℕ, ◌<◌, ◌||◌, ◌⊎◌, inl, inr, Bool, true, false, if◌then◌else◌, List, [], ◌∷◌, Option, Some, None, is_some, unwrap_or, arith}
use Rattle.std.specs.Prelude.{option_map, option_and_then, nat_eq}
use Rattle.std.specs.List.{IsDistinct, AllByRecursion}
use Rattle.std.proofs.lemmas.Bool.{false≢true, cases_eq, ne_eqb}
use Rattle.simplex_types.specs.Certificates.{ProposalFacts, NullificationFacts, CertificateFacts, Notarized, Nullified, Finalized}
use Rattle.simplex_types.specs.declared.types.fault.Fault.{Fault}
use Rattle.simplex_round.specs.Round.{RoundFacts, new_round, once}
use Rattle.simplex_voter.specs.Facts.{StateFacts, Elect, round_at, round_of, round_number, is_tracked, with_round}
use Rattle.simplex_voter.specs.Windows.{min_active}
use Rattle.simplex_voter.specs.StateAnswers.{broadcast_notarization_answer, after_broadcast_notarization, broadcast_nullification_answer, after_broadcast_nullification, broadcast_finalization_answer, after_broadcast_finalization, best_certificate}
use Rattle.simplex_member.specs.CallConditions.{is_allowed}
use Rattle.simplex_member.specs.Calls.{CallFacts, BroadcastNotarization, BroadcastNullification, BroadcastFinalization, GetBestCertificate, ReplyFacts, Returned, Refused}
use Rattle.laws_safety.specs.LifetimeLaws.{IsLifetime, KindOfCertificate, Notarization, Nullification, Finalization, asked_by, returned_by_call, returned_in, ReturnedOnce}
use Rattle.simplex_member.specs.MemberFacts.{MemberFacts, IsCall}
use Rattle.simplex_member.specs.CallSemantics.{answer, after_call}
use Rattle.simplex_member.specs.OutstandingWork.{OutstandingWork}
use Rattle.laws_safety.proofs.lives.RunOrder.{is_handed, standing_view, handed, none_comes, brings_kept, event_lasts}
use Rattle.laws_safety.proofs.frames.CallsMake.{is_floor, call_by_event}
use Rattle.laws_safety.proofs.frames.NoLowerViews.{floor_goes, event_goes}
use Rattle.laws_safety.proofs.frames.Sound.{nothing_stands}
use Rattle.simplex_record.specs.Events.{Event, IsEvent, after_event}
use Rattle.simplex_record.proofs.Rounds.{round_put}
use Rattle.laws_safety.proofs.lives.WithinLives.{call_outcome}

-- the view's certificate is not to be returned any more: it was, or there is none and none comes
abbrev pub IsSpent : {K L D : Type 0} → KindOfCertificate → ℕ → StateFacts K L D → Type 0
IsSpent kind v x =
    (is_handed kind (round_of x v) ≡ true) ⊎ ((v < min_active x) × (standing_view kind (round_of x v) ≡ None))

-- no view's certificate is returned, or one that was not spent, and is then
abbrev pub Hands : {K L D : Type 0} → KindOfCertificate → List ℕ → StateFacts K L D → StateFacts K L D → Type 0
Hands kind views x y = (views ≡ []) ⊎ ((v : ℕ) × (views ≡ v ∷ []) × (IsSpent kind v x → ⊥) × IsSpent kind v y)

pub record HandsOut {K L D : Type 0} (call : CallFacts D) (replied : ReplyFacts K D) (x y : StateFacts K L D) : Type
    0 where
  pub spent : (kind : KindOfCertificate) (v : ℕ) → IsSpent kind v x → IsSpent kind v y
  pub hands : (kind : KindOfCertificate) → Hands kind (returned_by_call kind call replied) x y

module _ {K L D C : Type 0} (flag : RoundFacts K D → Bool) (certificate : RoundFacts K D → Option C)
    (x : StateFacts K L D) (v : ℕ) where
  -- the returned certificate is there, and was not returned before
  pub record IsFirst (c : C) : Type 0 where
    pub fresh : flag (round_of x v) ≡ false
    pub stands : certificate (round_of x v) ≡ Some c
    pub tracked : is_tracked x v ≡ true

  pub asked : (option_and_then (λ r. once (flag r) (certificate r)) (round_at x v) ≡ None)
      ⊎ ((c : C) × (option_and_then (λ r. once (flag r) (certificate r)) (round_at x v) ≡ Some c) × IsFirst c)
  asked = by_found (round_at x v) refl
    where
      d : RoundFacts K D
      d = new_round x.me x.members (round_number x v)

      by_certificate : (r : RoundFacts K D) (o : Option C) → round_at x v ≡ Some r → flag r ≡ false → certificate r ≡ o
          → (option_and_then (λ s. once (flag s) (certificate s)) (round_at x v) ≡ None)
          ⊎ ((c : C) × (option_and_then (λ s. once (flag s) (certificate s)) (round_at x v) ≡ Some c) × IsFirst c)
      by_certificate r None found unsent none = inl (rw (found, unsent) none)
      by_certificate r (Some c) found unsent stands = inr (
        c,
        rw (found, unsent) stands,
        record {
          fresh = ap (λ o. flag (unwrap_or o d)) found ∙ unsent;
          stands = ap (λ o. certificate (unwrap_or o d)) found ∙ stands;
          tracked = ap is_some found;
        },
      )

      by_flag : (r : RoundFacts K D) (b : Bool) → round_at x v ≡ Some r → flag r ≡ b
          → (option_and_then (λ s. once (flag s) (certificate s)) (round_at x v) ≡ None)
          ⊎ ((c : C) × (option_and_then (λ s. once (flag s) (certificate s)) (round_at x v) ≡ Some c) × IsFirst c)
      by_flag r true found sent = inl (rw (found, sent) refl)
      by_flag r false found unsent = by_certificate r (certificate r) found unsent refl

      by_found : (o : Option (RoundFacts K D)) → round_at x v ≡ o
          → (option_and_then (λ s. once (flag s) (certificate s)) (round_at x v) ≡ None)
          ⊎ ((c : C) × (option_and_then (λ s. once (flag s) (certificate s)) (round_at x v) ≡ Some c) × IsFirst c)
      by_found None found = inl (ap (λ o. option_and_then (λ s. once (flag s) (certificate s)) o) found)
      by_found (Some r) found = by_flag r (flag r) found refl

or_some : {C : Type 0} (b : Bool) (o : Option C) (c : C) → o ≡ Some c → (b || is_some o) ≡ true
or_some true o c is = refl
or_some false o c is = ap is_some is

module _ {K L D : Type 0} where
  -- a view whose certificate is there and was not returned is not spent
  unspent : (kind : KindOfCertificate) (x : StateFacts K L D) (v : ℕ) → is_handed kind (round_of x v) ≡ false
      → is_some (standing_view kind (round_of x v)) ≡ true → IsSpent kind v x → ⊥
  unspent kind x v unsent stands (inl sent) = false≢true (sym unsent ∙ sent)
  unspent kind x v unsent stands (inr (below, none)) = false≢true (sym (ap is_some none) ∙ stands)

  -- a round that is stored at a tracked view and was returned
  now_spent : (kind : KindOfCertificate) (x : StateFacts K L D) (v : ℕ) (r : RoundFacts K D) → is_tracked x v ≡ true
      → is_handed kind r ≡ true → IsSpent kind v (if is_tracked x v then with_round x v r else x)
  now_spent kind x v r tracked sent =
      subst (λ b. IsSpent kind v (if b then with_round x v r else x)) (sym tracked)
      (inl (ap (is_handed kind) (round_put x v r) ∙ sent))

module _ {K L D : Type 0} where
  hands_notarization : (x : StateFacts K L D) (v : ℕ) (kind : KindOfCertificate)
      → Hands kind (returned_by_call {K = K} {D = D} kind (BroadcastNotarization v)
      (Returned (option_map Notarized (broadcast_notarization_answer x v)))) x (after_broadcast_notarization x v)
  hands_notarization x v kind = elim (asked (λ r. r.notarization_broadcast) (λ r. r.notarization) x v) [
    | inl none ↦ inl (ap
        (λ o. returned_by_call {K = K} {D = D} kind (BroadcastNotarization v) (Returned (option_map Notarized o))) none)
    | inr (c, some, first) ↦ rw some (by_kind kind c first)
  ]
    where
      by_kind : (k : KindOfCertificate) (c : ProposalFacts D)
          → IsFirst (λ r. r.notarization_broadcast) (λ r. r.notarization) x v c
          → Hands k (asked_by {D = D} k (BroadcastNotarization v)) x (after_broadcast_notarization x v)
      by_kind Notarization c first = inr (
        v,
        refl,
        unspent Notarization x v first.fresh
            (ap (λ o. is_some (option_map (λ d. d.proposal.round.view) o)) first.stands),
        now_spent Notarization x v _ first.tracked
            (or_some (round_of x v).notarization_broadcast (round_of x v).notarization c first.stands),
      )
      by_kind Nullification c first = inl refl
      by_kind Finalization c first = inl refl

  hands_nullification : (x : StateFacts K L D) (v : ℕ) (kind : KindOfCertificate)
      → Hands kind (returned_by_call {K = K} {D = D} kind (BroadcastNullification v)
      (Returned (option_map Nullified (broadcast_nullification_answer x v)))) x (after_broadcast_nullification x v)
  hands_nullification x v kind = elim (asked (λ r. r.nullification_broadcast) (λ r. r.nullification) x v) [
    | inl none ↦ inl (ap (λ o. returned_by_call {K = K} {D = D} kind (BroadcastNullification v)
        (Returned (option_map Nullified o))) none)
    | inr (c, some, first) ↦ rw some (by_kind kind c first)
  ]
    where
      by_kind : (k : KindOfCertificate) (c : NullificationFacts)
          → IsFirst (λ r. r.nullification_broadcast) (λ r. r.nullification) x v c
          → Hands k (asked_by {D = D} k (BroadcastNullification v)) x (after_broadcast_nullification x v)
      by_kind Notarization c first = inl refl
      by_kind Nullification c first = inr (
        v,
        refl,
        unspent Nullification x v first.fresh (ap (λ o. is_some (option_map (λ d. d.round.view) o)) first.stands),
        now_spent Nullification x v _ first.tracked
            (or_some (round_of x v).nullification_broadcast (round_of x v).nullification c first.stands),
      )
      by_kind Finalization c first = inl refl

  hands_finalization : (x : StateFacts K L D) (v : ℕ) (kind : KindOfCertificate)
      → Hands kind (returned_by_call {K = K} {D = D} kind (BroadcastFinalization v)
      (Returned (option_map Finalized (broadcast_finalization_answer x v)))) x (after_broadcast_finalization x v)
  hands_finalization x v kind = elim (asked (λ r. r.finalization_broadcast) (λ r. r.finalization) x v) [
    | inl none ↦ inl (ap
        (λ o. returned_by_call {K = K} {D = D} kind (BroadcastFinalization v) (Returned (option_map Finalized o))) none)
    | inr (c, some, first) ↦ rw some (by_kind kind c first)
  ]
    where
      by_kind : (k : KindOfCertificate) (c : ProposalFacts D)
          → IsFirst (λ r. r.finalization_broadcast) (λ r. r.finalization) x v c
          → Hands k (asked_by {D = D} k (BroadcastFinalization v)) x (after_broadcast_finalization x v)
      by_kind Notarization c first = inl refl
      by_kind Nullification c first = inl refl
      by_kind Finalization c first = inr (
        v,
        refl,
        unspent Finalization x v first.fresh
            (ap (λ o. is_some (option_map (λ d. d.proposal.round.view) o)) first.stands),
        now_spent Finalization x v _ first.tracked
            (or_some (round_of x v).finalization_broadcast (round_of x v).finalization c first.stands),
      )

best_unasked : (K : Type 0) {D : Type 0} (kind : KindOfCertificate) (best : Option (CertificateFacts D))
    → returned_by_call {K = K} {D = D} kind GetBestCertificate (Returned best) ≡ []
best_unasked K Notarization None = refl
best_unasked K Nullification None = refl
best_unasked K Finalization None = refl
best_unasked K Notarization (Some c) = refl
best_unasked K Nullification (Some c) = refl
best_unasked K Finalization (Some c) = refl

module _ {K L D : Type 0} (same : D → D → Bool) (elect : Elect L) where
  event_spends : (x : StateFacts K L D) → (e : Event K D) → IsEvent x e → is_floor e ≡ false
      → (kind : KindOfCertificate) (v : ℕ) → IsSpent kind v x → IsSpent kind v (after_event same elect x e)
  event_spends x e takes none kind v spent =
      let y = after_event same elect x e in
      let floor = floor_goes x y (event_goes same elect x e) in
      elim (event_lasts same elect x e (min_active x) (brings_kept x e takes none) v) [
        | inr (prunes, gone) ↦ inr (omega (arith, gone.below, floor), nothing_stands y v gone.untracked kind)
        | inl lasts ↦ elim spent [
          | inl sent ↦ inl (handed (min_active x) v (round_of x v) (round_of y v) lasts kind sent)
          | inr (below, nothing) ↦ inr (
            omega (arith, below, floor),
            none_comes (min_active x) v (round_of x v) (round_of y v) lasts kind below nothing,
          )
        ]
      ]

  call_spends : (x : StateFacts K L D) → (o : OutstandingWork K D) (call : CallFacts D) → is_allowed x o call ≡ true
      → (kind : KindOfCertificate) (v : ℕ) → IsSpent kind v x → IsSpent kind v (after_call same elect x o call)
  call_spends x o call allowed = call_by_event same elect x o
      (λ es y. (kind : KindOfCertificate) (v : ℕ) → IsSpent kind v x → IsSpent kind v y) (λ kind v spent. spent)
      (λ e. event_spends x e) call allowed

  call_hands : (x : StateFacts K L D) (o : OutstandingWork K D) (call : CallFacts D) (kind : KindOfCertificate)
      → Hands kind (returned_by_call kind call (answer same elect x o call)) x (after_call same elect x o call)
  call_hands x o (BroadcastNotarization v) kind = hands_notarization x v kind
  call_hands x o (BroadcastNullification v) kind = hands_nullification x v kind
  call_hands x o (BroadcastFinalization v) kind = hands_finalization x v kind
  call_hands x o GetBestCertificate kind = inl (best_unasked K kind (best_certificate x))
  call_hands x o _ kind = inl refl

  outcome : (m : MemberFacts K L D) (call : CallFacts D) (replied : ReplyFacts K D) (left : MemberFacts K L D)
      → IsCall same elect m call replied left → ((fault : Fault) × (replied ≡ Refused fault) × (left.life ≡ None))
      ⊎ ((x y : StateFacts K L D) × (m.life ≡ Some x) × (left.life ≡ Some y) × HandsOut call replied x y)
  outcome =
      call_outcome same elect HandsOut
      (λ call fault x. record { spent = λ kind v s. s; hands = λ kind. inl refl })
      (λ call x. record { spent = λ kind v s. s; hands = λ kind. inl refl })
      (λ call x o allowed. record { spent = call_spends x o call allowed; hands = call_hands x o call })

-- a member without a state hands nothing out
abbrev pub IsSpentIn : {K L D : Type 0} → KindOfCertificate → ℕ → Option (StateFacts K L D) → Type 0
IsSpentIn kind v None = Unit {0}
IsSpentIn kind v (Some x) = IsSpent kind v x

module _ {K L D : Type 0} (same : D → D → Bool) (elect : Elect L) (kind : KindOfCertificate) where
  -- a spent certificate is not returned any more
  never_again : (v : ℕ) (m end : MemberFacts K L D) (calls : List (CallFacts D)) (replies : List (ReplyFacts K D))
      → IsSpentIn kind v m.life → IsLifetime same elect m calls replies end
      → AllByRecursion (λ w. nat_eq v w ≡ false) (returned_in kind calls replies)
  never_again v m end [] [] spent life = tt
  never_again v m end [] (replied ∷ replies) spent life = absurd life
  never_again v m end (call ∷ calls) [] spent life = absurd life
  never_again v m end (call ∷ calls) (replied ∷ replies) spent (next, is_call, rest) =
      elim (outcome same elect m call replied next is_call) [
        | inl (fault, tells, dies) ↦
            rw tells (never_again v next end calls replies (subst (IsSpentIn kind v) (sym dies) tt) rest)
        | inr (x, y, alive, lives, out) ↦ (
            let here : IsSpent kind v x = subst (IsSpentIn kind v) alive spent in
            let later = never_again v next end calls replies
            (subst (IsSpentIn kind v) (sym lives) (out.spent kind v here))
            rest in
            elim (out.hands kind) [
              | inl none ↦ rw none later
              | inr (w, is, fresh, spends) ↦ rw is (
                elim (cases_eq v w)
                    [ inl at ↦ absurd (fresh (subst (λ u. IsSpent kind u x) at here)) | inr apart ↦ ne_eqb v w apart ],
                later,
              )
            ]
            )
      ]

  handed_once : (m end : MemberFacts K L D) (calls : List (CallFacts D)) (replies : List (ReplyFacts K D))
      → IsLifetime same elect m calls replies end → IsDistinct nat_eq (returned_in kind calls replies)
  unfolding IsDistinct
  handed_once m end [] [] life = tt
  handed_once m end [] (replied ∷ replies) life = absurd life
  handed_once m end (call ∷ calls) [] life = absurd life
  handed_once m end (call ∷ calls) (replied ∷ replies) (next, is_call, rest) =
      elim (outcome same elect m call replied next is_call) [
        | inl (fault, tells, dies) ↦ rw tells (handed_once next end calls replies rest)
        | inr (x, y, alive, lives, out) ↦ (
            let later = handed_once next end calls replies rest in
            elim (out.hands kind) [
              | inl none ↦ rw none later
              | inr (v, is, fresh, spends) ↦
                  rw is (never_again v next end calls replies (subst (IsSpentIn kind v) (sym lives) spends) rest, later)
            ]
            )
      ]

module _ {K L D : Type 0} (same : D → D → Bool) (elect : Elect L) where
  pub life_hands_once : (m end : MemberFacts K L D) (calls : List (CallFacts D)) (replies : List (ReplyFacts K D))
      → IsLifetime same elect m calls replies end → ReturnedOnce calls replies
  life_hands_once m end calls replies life kind = handed_once same elect kind m end calls replies life
