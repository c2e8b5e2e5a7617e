-- The certificates of a state after an event, and which of them count as broadcast.
use Rattle.std.proofs.Common.{◌≡◌, refl, ap, sym, ◌∙◌, subst, ℕ, ◌<◌, ◌≤◌, ◌⊎◌, inl, inr, Bool, true, false, ◌||◌, if◌then◌else◌, nat_le, cond, List, Option, Some, None, is_some, unwrap_or, arith}
use Rattle.std.specs.Prelude.{◌==◌, option_map}
use Rattle.std.proofs.lemmas.Bool.{false≢true, eqb-true, cases_lt, or_cases}
use Rattle.std.proofs.lemmas.Bool.Decides.{nat_tests}
use Rattle.simplex_types.specs.Certificates.{CertificateFacts, Notarized, Nullified, Finalized}
use Rattle.simplex_types.specs.declared.types.numbers.Round.{Round}
use Rattle.simplex_round.specs.Round.{RoundFacts, new_round}
use Rattle.simplex_voter.specs.Facts.{Settings, StateFacts, Elect, round_at, round_of, round_number}
use Rattle.simplex_voter.specs.Refusals.{takes_round}
use Rattle.simplex_voter.specs.Windows.{min_active}
use Rattle.simplex_record.specs.Entries.{certificate_round}
use Rattle.simplex_record.specs.Events as event
use Rattle.simplex_record.specs.Events.{Event, IsEvent, after_event, is_prune}
use Rattle.laws_safety.specs.LifetimeLaws.{KindOfCertificate, Notarization, Nullification, Finalization, kind_of_certificate}
use Rattle.laws_safety.proofs.frames.CallsMake.{is_floor}
use Rattle.laws_safety.proofs.frames.EachRound.{pruned_view, prune_alone}
use Rattle.laws_history.specs.HistoryFolds.{brings_notarization, brings_nullification, brings_finalization, or_new}
use Rattle.laws_history.specs.OwnWork.{returns_notarization, returns_nullification, returns_finalization}
use Rattle.laws_history.proofs.EventFacts.{FollowsEvent, left_from}
use Rattle.laws_history.proofs.ReplayEvents.{event_follows}
use Rattle.laws_history.proofs.UnchangedHistories.{Known}
use Rattle.laws_progress.proofs.runs.Brought.{in_epoch}
use Rattle.laws_meetings.specs.TrackedCertificates.{certificate_of, is_broadcast, IsOf}

-- the event returns the certificate of this kind and view
abbrev pub returns : {K L D : Type 0} → KindOfCertificate → ℕ → StateFacts K L D → Event K D → Bool
returns Notarization v x e = returns_notarization v x e
returns Nullification v x e = returns_nullification v x e
returns Finalization v x e = returns_finalization v x e

module _ {K D : Type 0} where
  -- of a view of which nothing is known
  none_held : (kind : KindOfCertificate) (r : RoundFacts K D) (me : Option ℕ) (members : List K) (round : Round)
      → r ≡ new_round me members round → certificate_of kind r ≡ None
  none_held Notarization r me members round is = ap (λ (s : RoundFacts K D). option_map Notarized s.notarization) is
  none_held Nullification r me members round is = ap (λ (s : RoundFacts K D). option_map Nullified s.nullification) is
  none_held Finalization r me members round is = ap (λ (s : RoundFacts K D). option_map Finalized s.finalization) is

  none_sent : (kind : KindOfCertificate) (r : RoundFacts K D) (me : Option ℕ) (members : List K) (round : Round)
      → r ≡ new_round me members round → is_broadcast kind r ≡ false
  none_sent Notarization r me members round is = ap (λ (s : RoundFacts K D). s.notarization_broadcast) is
  none_sent Nullification r me members round is = ap (λ (s : RoundFacts K D). s.nullification_broadcast) is
  none_sent Finalization r me members round is = ap (λ (s : RoundFacts K D). s.finalization_broadcast) is

-- ---- what an event brings

-- the thing, if it is of the view
at_view : {A : Type 0} (v w : ℕ) (d n : A) → (if v == w then Some d else None) ≡ Some n → (d ≡ n) × (v ≡ w)
at_view {A} v w d n is = by_test (v == w) refl is
  where
    by_test : (b : Bool) → (v == w) ≡ b → (if b then Some d else None) ≡ Some n → (d ≡ n) × (v ≡ w)
    by_test true at one = (cc, eqb-true v w at)
    by_test false at none = absurd (cc)

-- the view in the epoch of these settings
abbrev pub round_in : Settings → ℕ → Round
round_in settings view = record { epoch = settings.epoch; view = view }

round_is : (r : Round) (epoch view : ℕ) → r.epoch ≡ epoch → r.view ≡ view → r ≡ record { epoch = epoch; view = view }
round_is r epoch view p q = λ i. record { epoch = p i; view = q i }

mapped : {A B : Type 0} (f : A → B) (b : Bool) (a : A)
    → option_map f (if b then Some a else None) ≡ (if b then Some (f a) else None)
mapped f true a = refl
mapped f false a = refl

-- of two, the first or the second
from_two : {A B : Type 0} (f : A → B) (old new : Option A) (b : B) → option_map f (or_new old new) ≡ Some b
    → (option_map f old ≡ Some b) ⊎ (option_map f new ≡ Some b)
from_two f old None b is = inl is
from_two f None (Some a) b is = inr is
from_two f (Some c) (Some a) b is = inl is

module _ {K D : Type 0} where
  -- the certificate of this kind and view that an event passes
  abbrev brought : KindOfCertificate → ℕ → Event K D → Option (CertificateFacts D)
  brought Notarization v e = option_map Notarized (brings_notarization v e)
  brought Nullification v e = option_map Nullified (brings_nullification v e)
  brought Finalization v e = option_map Finalized (brings_finalization v e)

module _ {K L D : Type 0} where
  -- the certificate is of this kind and view, in the state's epoch
  abbrev pub IsHere : StateFacts K L D → KindOfCertificate → ℕ → CertificateFacts D → Type 0
  IsHere x kind v c = IsOf kind (round_number x v) c

  -- one that is taken is
  here : (x : StateFacts K L D) (kind : KindOfCertificate) (v : ℕ) (c d : CertificateFacts D)
      → kind_of_certificate d ≡ kind → takes_round x (certificate_round d) ≡ true
      → (if v == (certificate_round d).view then Some d else None) ≡ Some c → IsHere x kind v c
  here x kind v c d kind_is takes is =
      let one = at_view v (certificate_round d).view d c is in
      subst (IsHere x kind v) one.0
      (kind_is, round_is (certificate_round d) x.settings.epoch v (in_epoch x (certificate_round d) takes) (sym one.1))

  brought_here : (x : StateFacts K L D) (kind : KindOfCertificate) (v : ℕ) (c : CertificateFacts D) (e : Event K D)
      → IsEvent x e → is_floor e ≡ false → brought kind v e ≡ Some c → IsHere x kind v c
  brought_here x Notarization v c (event.AddNotarization d) takes no_floor is =
      here x Notarization v c (Notarized d) refl takes
      (sym (mapped Notarized (v == d.proposal.round.view) d) ∙ is)
  brought_here x Nullification v c (event.AddNullification d now) takes no_floor is =
      here x Nullification v c (Nullified d) refl takes (sym (mapped Nullified (v == d.round.view) d) ∙ is)
  brought_here x Finalization v c (event.AddFinalization d now) takes no_floor is =
      here x Finalization v c (Finalized d) refl takes
      (sym (mapped Finalized (v == d.proposal.round.view) d) ∙ is)
  brought_here x kind v c (event.SetFloor floor now) takes no_floor is = absurd (false≢true (sym no_floor))
  brought_here x Notarization v c e takes no_floor is = absurd (false≢true (ap is_some is))
  brought_here x Nullification v c e takes no_floor is = absurd (false≢true (ap is_some is))
  brought_here x Finalization v c e takes no_floor is = absurd (false≢true (ap is_some is))

module _ {K L D : Type 0} (same : D → D → Bool) (decides : (d e : D) → same d e ≡ true → d ≡ e) (elect : Elect L)
    (x : StateFacts K L D) (e : Event K D) (takes : IsEvent x e) where
  abbrev after : StateFacts K L D
  after = after_event same elect x e

  pub follows : FollowsEvent same elect e x after
  follows = event_follows same decides elect x e takes

  gone : (v : ℕ) → v < left_from x e → round_at after v ≡ None
  gone v below = by_prune (is_prune e) refl below
    where
      by_prune : (b : Bool) → is_prune e ≡ b → v < (if b then min_active x else 0) → round_at after v ≡ None
      by_prune true prunes low = subst (λ z. round_at z v ≡ None) (sym (prune_alone same elect x e prunes))
          (pruned_view x v ∙ ap (λ b. cond b (round_at x v) None) (not_kept low))
        where
          not_kept : v < min_active x → nat_le (min_active x) v ≡ false
          not_kept low = grind (arith, nat_tests)
      by_prune false prunes low = absurd (omega (arith, low))

  pub new_there : (v : ℕ) → v < left_from x e
      → round_of after v ≡ new_round after.me after.members (round_number after v)
  new_there v below = ap (λ o. unwrap_or o (new_round after.me after.members (round_number after v))) (gone v below)

  -- ---- what counts as broadcast

  flagged : (kind : KindOfCertificate) (v : ℕ) → left_from x e ≤ v
      → is_broadcast kind (round_of after v) ≡ (returns kind v x e || is_broadcast kind (round_of x v))
  flagged Notarization v kept = ap (λ (k : Known D). k.notarization_broadcast) (follows.rounds v kept)
  flagged Nullification v kept = ap (λ (k : Known D). k.nullification_broadcast) (follows.rounds v kept)
  flagged Finalization v kept = ap (λ (k : Known D). k.finalization_broadcast) (follows.rounds v kept)

  -- counted so before, or is returned by the event
  pub broadcast_before : (kind : KindOfCertificate) (v : ℕ) → is_broadcast kind (round_of after v) ≡ true
      → (is_broadcast kind (round_of x v) ≡ true) ⊎ (returns kind v x e ≡ true)
  broadcast_before kind v is = elim (cases_lt v (left_from x e)) [
    | inl below ↦ absurd (false≢true (sym (none_sent kind _ _ _ _ (new_there v below)) ∙ is))
    | inr kept ↦ elim (or_cases (returns kind v x e) (is_broadcast kind (round_of x v))
        (sym (flagged kind v kept) ∙ is))
        [ inl here ↦ inr here | inr before ↦ inl before ]
  ]

  -- ---- certificates

  held : (kind : KindOfCertificate) (v : ℕ) (c : CertificateFacts D) → left_from x e ≤ v
      → certificate_of kind (round_of after v) ≡ Some c
      → (certificate_of kind (round_of x v) ≡ Some c) ⊎ (brought kind v e ≡ Some c)
  held Notarization v c kept is =
      from_two Notarized (round_of x v).notarization (brings_notarization v e) c
      (sym (ap (λ (k : Known D). option_map Notarized k.notarization) (follows.rounds v kept)) ∙ is)
  held Nullification v c kept is =
      from_two Nullified (round_of x v).nullification (brings_nullification v e) c
      (sym (ap (λ (k : Known D). option_map Nullified k.nullification) (follows.rounds v kept)) ∙ is)
  held Finalization v c kept is =
      from_two Finalized (round_of x v).finalization (brings_finalization v e) c
      (sym (ap (λ (k : Known D). option_map Finalized k.finalization) (follows.rounds v kept)) ∙ is)

  -- held before, or brought by the event, of the view and of the state's epoch
  pub certificate_before : is_floor e ≡ false → (kind : KindOfCertificate) (v : ℕ) (c : CertificateFacts D)
      → certificate_of kind (round_of after v) ≡ Some c
      → (certificate_of kind (round_of x v) ≡ Some c) ⊎ IsHere x kind v c
  certificate_before no_floor kind v c is = elim (cases_lt v (left_from x e)) [
    | inl below ↦ absurd (let none = none_held kind _ _ _ _ (new_there v below) in
        false≢true (ap is_some (sym none ∙ is)))
    | inr kept ↦ elim (held kind v c kept is) [
      | inl before ↦ inl before
      | inr brought ↦ inr (brought_here x kind v c e takes no_floor brought)
    ]
  ]
