-- The certificates of a member's state after a call, and which of them the reply returns.
use Rattle.std.proofs.Common.{◌≡◌, refl, ap, sym, ◌∙◌, subst, ℕ, ◌⊎◌, inl, inr, Bool, true, false, if◌then◌else◌, List, [], ◌∷◌, Option, Some, None, is_some, unwrap_or}
use Rattle.std.specs.Prelude.{◌==◌, option_map, option_and_then}
use Rattle.std.proofs.lemmas.Bool.{false≢true, eqb-true}
use Rattle.simplex_types.specs.Certificates.{CertificateFacts, Notarized, Nullified, Finalized}
use Rattle.simplex_types.specs.declared.types.fault.Fault.{Fault}
use Rattle.simplex_types.specs.declared.types.messages.Context.{Context}
use Rattle.simplex_round.specs.Round.{RoundFacts, new_round, once}
use Rattle.simplex_voter.specs.Facts.{StateFacts, Elect, round_at, round_of, round_number}
use Rattle.simplex_voter.proofs.Gaps.{and_parts}
use Rattle.simplex_record.specs.Events.{Event, IsEvent, after_event, Proposed, Supersede}
use Rattle.simplex_member.specs.CallConditions.{is_allowed}
use Rattle.simplex_member.specs.Calls as calls
use Rattle.simplex_member.specs.Calls.{CallFacts, ReplyFacts, Returned, Refused}
use Rattle.simplex_member.specs.CallSemantics.{answer, after_call}
use Rattle.simplex_member.specs.Events.{in_context, events_of}
use Rattle.simplex_member.specs.MemberFacts.{MemberFacts, IsCall}
use Rattle.simplex_member.specs.OutstandingWork.{OutstandingWork, context_at}
use Rattle.laws_safety.specs.LifetimeLaws.{KindOfCertificate, Notarization, Nullification, Finalization}
use Rattle.laws_safety.proofs.frames.CallsMake.{is_floor, call_by_event}
use Rattle.laws_safety.proofs.frames.NoLowerViews.{event_goes}
use Rattle.laws_safety.proofs.lives.WithinLives.{call_outcome}
use Rattle.laws_meetings.specs.TrackedCertificates.{certificate_of, is_broadcast}
use Rattle.laws_meetings.proofs.EventCertificates.{returns, IsHere, broadcast_before, certificate_before}

module _ {K L D : Type 0} (x : StateFacts K L D) (kind : KindOfCertificate) (v : ℕ) where
  -- the reply returns the certificate of this kind that the state holds of the view
  abbrev pub IsReturned : ReplyFacts K D → Type 0
  IsReturned replied =
      (c : CertificateFacts D) × (certificate_of kind (round_of x v) ≡ Some c) × (replied ≡ Returned (Some c))

  -- the event returns it, if there is one
  abbrev AnyReturns : List (Event K D) → Type 0
  AnyReturns [] = ⊥
  AnyReturns (e ∷ rest) = returns kind v x e ≡ true

-- the certificates of `y` are those of `x` or of their own view and the epoch; and those that count as broadcast did so
-- before, or were returned
pub record KeepsCertificates {K L D : Type 0} (replied : ReplyFacts K D) (x y : StateFacts K L D) : Type 0 where
  pub settings : y.settings ≡ x.settings
  pub sent : (kind : KindOfCertificate) (v : ℕ) → is_broadcast kind (round_of y v) ≡ true
      → (is_broadcast kind (round_of x v) ≡ true) ⊎ IsReturned x kind v replied
  pub held : (kind : KindOfCertificate) (v : ℕ) (c : CertificateFacts D)
      → certificate_of kind (round_of y v) ≡ Some c
      → (certificate_of kind (round_of x v) ≡ Some c) ⊎ IsHere x kind v c

-- the same by events
record ByEvents {K L D : Type 0} (es : List (Event K D)) (x y : StateFacts K L D) : Type 0 where
  settings : y.settings ≡ x.settings
  sent : (kind : KindOfCertificate) (v : ℕ) → is_broadcast kind (round_of y v) ≡ true
      → (is_broadcast kind (round_of x v) ≡ true) ⊎ AnyReturns x kind v es
  held : (kind : KindOfCertificate) (v : ℕ) (c : CertificateFacts D)
      → certificate_of kind (round_of y v) ≡ Some c
      → (certificate_of kind (round_of x v) ≡ Some c) ⊎ IsHere x kind v c

module _ {K L D : Type 0} where
  kept_still : (replied : ReplyFacts K D) (x : StateFacts K L D) → KeepsCertificates replied x x
  kept_still replied x = record { settings = refl; sent = λ kind v is. inl is; held = λ kind v c is. inl is }

  events_still : (x : StateFacts K L D) → ByEvents [] x x
  events_still x = record { settings = refl; sent = λ kind v is. inl is; held = λ kind v c is. inl is }

module _ {K L D A : Type 0} (flag : RoundFacts K D → Bool) (certificate : RoundFacts K D → Option A)
    (x : StateFacts K L D) (w : ℕ) where
  abbrev unknown : RoundFacts K D
  unknown = new_round x.me x.members (round_number x w)

  -- a certificate that is there, and was not returned, is returned
  once_returned : certificate unknown ≡ None → is_some (certificate (round_of x w)) ≡ true
      → flag (round_of x w) ≡ false
      → (a : A) × (certificate (round_of x w) ≡ Some a)
      × (option_and_then (λ r. once (flag r) (certificate r)) (round_at x w) ≡ Some a)
  once_returned none = by_round (round_at x w)
    where
      by_certificate : (r : RoundFacts K D) (o : Option A) → certificate r ≡ o → is_some o ≡ true → flag r ≡ false
          → (a : A) × (certificate r ≡ Some a) × (once (flag r) (certificate r) ≡ Some a)
      by_certificate r None there is unsent = absurd (false≢true is)
      by_certificate r (Some a) there is unsent =
          (a, there, ap (λ b. if b then None else certificate r) unsent ∙ there)

      by_round : (o : Option (RoundFacts K D)) → is_some (certificate (unwrap_or o unknown)) ≡ true
          → flag (unwrap_or o unknown) ≡ false
          → (a : A) × (certificate (unwrap_or o unknown) ≡ Some a)
          × (option_and_then (λ r. once (flag r) (certificate r)) o ≡ Some a)
      by_round None is unsent = absurd (false≢true (sym (ap is_some none) ∙ is))
      by_round (Some r) is unsent = by_certificate r (certificate r) refl is unsent

module _ {K L D : Type 0} (same : D → D → Bool) (elect : Elect L) (x : StateFacts K L D) (o : OutstandingWork K D) where
  in_no_context : (kind : KindOfCertificate) (v : ℕ) (event : Context D K → Event K D)
      → ((context : Context D K) → returns kind v x (event context) ≡ false) → (context : Option (Context D K))
      → AnyReturns x kind v (in_context event context) → ⊥
  in_no_context kind v event none None is = is
  in_no_context kind v event none (Some context) is = false≢true (sym (none context) ∙ is)

  -- an event of a call that returns a certificate: the reply has it
  to_reply : (call : CallFacts D) (kind : KindOfCertificate) (v : ℕ) → AnyReturns x kind v (events_of o call)
      → is_broadcast kind (round_of x v) ≡ false → IsReturned x kind v (answer same elect x o call)
  to_reply (calls.BroadcastNotarization w) Notarization v is unsent =
      let both = and_parts (v == w) (is_some (round_of x w).notarization) is in
      let at : v ≡ w = eqb-true v w both.0 in
      let found = once_returned (λ r. r.notarization_broadcast) (λ r. r.notarization) x w refl both.1
      (subst (λ u. (round_of x u).notarization_broadcast ≡ false) at unsent) in (
        Notarized found.0,
        subst (λ u. option_map Notarized (round_of x u).notarization ≡ Some (Notarized found.0)) (sym at)
            (ap (option_map Notarized) found.1),
        ap (λ c. Returned (option_map Notarized c)) found.2,
      )
  to_reply (calls.BroadcastNullification w) Nullification v is unsent =
      let both = and_parts (v == w) (is_some (round_of x w).nullification) is in
      let at : v ≡ w = eqb-true v w both.0 in
      let found = once_returned (λ r. r.nullification_broadcast) (λ r. r.nullification) x w refl both.1
      (subst (λ u. (round_of x u).nullification_broadcast ≡ false) at unsent) in (
        Nullified found.0,
        subst (λ u. option_map {U = CertificateFacts D} Nullified (round_of x u).nullification
            ≡ Some (Nullified found.0)) (sym at)
            (ap (option_map {U = CertificateFacts D} Nullified) found.1),
        ap (λ c. Returned (option_map {U = CertificateFacts D} Nullified c)) found.2,
      )
  to_reply (calls.BroadcastFinalization w) Finalization v is unsent =
      let both = and_parts (v == w) (is_some (round_of x w).finalization) is in
      let at : v ≡ w = eqb-true v w both.0 in
      let found = once_returned (λ r. r.finalization_broadcast) (λ r. r.finalization) x w refl both.1
      (subst (λ u. (round_of x u).finalization_broadcast ≡ false) at unsent) in (
        Finalized found.0,
        subst (λ u. option_map Finalized (round_of x u).finalization ≡ Some (Finalized found.0)) (sym at)
            (ap (option_map Finalized) found.1),
        ap (λ c. Returned (option_map Finalized c)) found.2,
      )
  to_reply (calls.Proposed w payload now) Notarization v is unsent =
      absurd (in_no_context Notarization v (λ c. Proposed c payload now) (λ c. refl) (context_at o w) is)
  to_reply (calls.Proposed w payload now) Nullification v is unsent =
      absurd (in_no_context Nullification v (λ c. Proposed c payload now) (λ c. refl) (context_at o w) is)
  to_reply (calls.Proposed w payload now) Finalization v is unsent =
      absurd (in_no_context Finalization v (λ c. Proposed c payload now) (λ c. refl) (context_at o w) is)
  to_reply (calls.SupersedeProposalRequest w) Notarization v is unsent =
      absurd (in_no_context Notarization v Supersede (λ c. refl) (context_at o w) is)
  to_reply (calls.SupersedeProposalRequest w) Nullification v is unsent =
      absurd (in_no_context Nullification v Supersede (λ c. refl) (context_at o w) is)
  to_reply (calls.SupersedeProposalRequest w) Finalization v is unsent =
      absurd (in_no_context Finalization v Supersede (λ c. refl) (context_at o w) is)
  to_reply (calls.PendingHandoffAbandonment w) kind v is unsent = absurd is
  to_reply calls.GetBestCertificate kind v is unsent = absurd is
  to_reply _ Notarization v is unsent = absurd (false≢true is)
  to_reply _ Nullification v is unsent = absurd (false≢true is)
  to_reply _ Finalization v is unsent = absurd (false≢true is)

module _ {K L D : Type 0} (same : D → D → Bool) (decides : (d e : D) → same d e ≡ true → d ≡ e) (elect : Elect L) where
  by_event : (x : StateFacts K L D) (e : Event K D) → IsEvent x e → is_floor e ≡ false
      → ByEvents (e ∷ []) x (after_event same elect x e)
  by_event x e takes no_floor = record {
    settings = (event_goes same elect x e).settings;
    sent = broadcast_before same decides elect x e takes;
    held = certificate_before same decides elect x e takes no_floor;
  }

  answered : (call : CallFacts D) (x : StateFacts K L D) (o : OutstandingWork K D) → is_allowed x o call ≡ true
      → KeepsCertificates (answer same elect x o call) x (after_call same elect x o call)
  answered call x o allowed =
      let by = call_by_event same elect x o (λ es y. ByEvents es x y) (events_still x) (by_event x) call allowed in
      record {
        settings = by.settings;
        sent = λ kind v is. elim (by.sent kind v is) [
          | inl before ↦ inl before
          | inr one ↦ by_flag kind v (is_broadcast kind (round_of x v)) refl one
        ];
        held = by.held;
      }
    where
      by_flag : (kind : KindOfCertificate) (v : ℕ) (b : Bool) → is_broadcast kind (round_of x v) ≡ b
          → AnyReturns x kind v (events_of o call)
          → (is_broadcast kind (round_of x v) ≡ true) ⊎ IsReturned x kind v (answer same elect x o call)
      by_flag kind v true before one = inl before
      by_flag kind v false unsent one = inr (to_reply same elect x o call kind v one unsent)

  -- what a call leaves of a member's certificates, unless the member has failed
  pub call_keeps : (m : MemberFacts K L D) (call : CallFacts D) (replied : ReplyFacts K D) (left : MemberFacts K L D)
      → IsCall same elect m call replied left
      → ((fault : Fault) × (replied ≡ Refused fault) × (left.life ≡ None))
      ⊎ ((x y : StateFacts K L D) × (m.life ≡ Some x) × (left.life ≡ Some y) × KeepsCertificates replied x y)
  call_keeps =
      call_outcome same elect (λ call replied. KeepsCertificates replied)
      (λ call fault x. kept_still (Refused fault) x) (λ call x. kept_still calls.NotAllowed x) answered
