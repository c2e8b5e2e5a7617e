-- A member follows another one: it comes to the view to which a certificate had led that one, or something is in the
-- way.
use Rattle.std.proofs.Common.{◌≡◌, refl, ap, sym, ◌∙◌, subst, ℕ, ◌+◌, ◌<◌, ◌≤◌, ◌⊎◌, inl, inr, true, false, Option, Some, None, is_some, unwrap_or, arith}
use Rattle.std.specs.Prelude.{option_map, option_and_then}
use Rattle.std.proofs.lemmas.Bool.{false≢true, cases_lt, cases_Bool}
use Rattle.simplex_types.specs.Certificates.{ProposalFacts, CertificateFacts, Notarized, Nullified, Finalized}
use Rattle.simplex_types.specs.Terms.{next_term_start}
use Rattle.simplex_types.specs.declared.types.numbers.Round.{Round}
use Rattle.simplex_round.specs.Round.{RoundFacts, new_round}
use Rattle.simplex_voter.specs.Facts.{StateFacts, round_at, round_number}
use Rattle.simplex_voter.specs.StateAnswers.{notarization_of}
use Rattle.simplex_voter.specs.Windows.{min_active}
use Rattle.simplex_member.specs.OutstandingWork.{is_among}
use Rattle.laws_safety.specs.LifetimeLaws.{KindOfCertificate, Notarization, Nullification, Finalization}
use Rattle.laws_rounds.specs.Finality.{HasFinalized, HasLeft, HasNotarization}
use Rattle.laws_meetings.specs.Meetings.{next_view, Follows, Reaches, BeganWith, AwaitsVerdict}
use Rattle.laws_meetings.specs.TrackedCertificates.{tracks, has_had, has_certified, IsOf}
use Rattle.laws_meetings.proofs.LedViews.{IsLed, IsFirst, PastFinalized, PastCertified, PastNullified, IsLedAhead, IsUncovered}

-- a notarization that is tracked
tracked_so : {K L D : Type 0} (y : StateFacts K L D) (v : ℕ) → is_some (notarization_of y v) ≡ true
    → tracks Notarization y v ≡ true
tracked_so {K} {L} {D} y v = by_round (round_at y v)
  where
    by_certificate : (o : Option (ProposalFacts D)) → is_some o ≡ true → is_some (option_map Notarized o) ≡ true
    by_certificate None is = absurd (false≢true is)
    by_certificate (Some c) is = refl

    by_round : (o : Option (RoundFacts K D))
        → is_some (option_and_then (λ (r : RoundFacts K D). r.notarization) o) ≡ true
        → is_some (option_map Notarized (unwrap_or o (new_round y.me y.members (round_number y v))).notarization) ≡ true
    by_round None is = absurd (false≢true is)
    by_round (Some r) is = by_certificate r.notarization is

module _ {K L D : Type 0} (x y : StateFacts K L D) (same_epoch : x.settings.epoch ≡ y.settings.epoch) where
  -- what certificates of the view and the epoch of `x` show of `y`
  finalization_shows : (v : ℕ) (c : CertificateFacts D) → IsOf Finalization (round_number x v) c → HasFinalized c y
      → v ≤ y.finalized
  finalization_shows v (Finalized c) (kind, is) shows =
      let epoch = ap (λ (r : Round). r.epoch) is in
      let view = ap (λ (r : Round). r.view) is in
      let reached = shows (epoch ∙ same_epoch) in
      omega (arith, reached, view)
  finalization_shows v (Notarized c) (kind, is) shows = absurd (cc)
  finalization_shows v (Nullified c) (kind, is) shows = absurd (cc)

  nullification_shows : (v : ℕ) (c : CertificateFacts D) → IsOf Nullification (round_number x v) c → HasLeft c y
      → (v ≤ y.finalized) ⊎ (next_term_start y.terms.term_length v ≤ y.current)
  nullification_shows v (Nullified c) (kind, is) shows =
      let epoch = ap (λ (r : Round). r.epoch) is in
      let view = ap (λ (r : Round). r.view) is in
      subst (λ w. (w ≤ y.finalized) ⊎ (next_term_start y.terms.term_length w ≤ y.current)) view
      (shows (epoch ∙ same_epoch)).1
  nullification_shows v (Notarized c) (kind, is) shows = absurd (cc)
  nullification_shows v (Finalized c) (kind, is) shows = absurd (cc)

  notarization_shows : (v : ℕ) (c : CertificateFacts D) → IsOf Notarization (round_number x v) c → HasNotarization c y
      → 1 ≤ v → (v < min_active y) ⊎ (tracks Notarization y v ≡ true)
  notarization_shows v (Notarized c) (kind, is) shows some =
      let epoch = ap (λ (r : Round). r.epoch) is in
      let view = ap (λ (r : Round). r.view) is in
      elim (shows (epoch ∙ same_epoch) (omega (arith, some, view))) [
        | inl low ↦ inl (omega (arith, low, view))
        | inr tracked ↦ inr (tracked_so y v (subst (λ w. is_some (notarization_of y w) ≡ true) view tracked))
      ]
  notarization_shows v (Nullified c) (kind, is) shows some = absurd (cc)
  notarization_shows v (Finalized c) (kind, is) shows some = absurd (cc)

-- what a certificate that `x` tracks, from its last finalized view on, shows of `y`, unless the process began with it
-- and its host has not sent it
pub record ShowsAll {K L D : Type 0} (IsOut : KindOfCertificate → ℕ → Type 0) (x y : StateFacts K L D) : Type 0 where
  pub finalization : (v : ℕ) → x.finalized ≤ v → tracks Finalization x v ≡ true → IsOut Finalization v
      → (c : CertificateFacts D) × IsOf Finalization (round_number x v) c × HasFinalized c y
  pub nullification : (v : ℕ) → x.finalized ≤ v → tracks Nullification x v ≡ true → IsOut Nullification v
      → (c : CertificateFacts D) × IsOf Nullification (round_number x v) c × HasLeft c y
  pub notarization : (v : ℕ) → x.finalized ≤ v → tracks Notarization x v ≡ true → IsOut Notarization v
      → (c : CertificateFacts D) × IsOf Notarization (round_number x v) c × HasNotarization c y

module _ {K L D : Type 0} (sent : KindOfCertificate → ℕ → Type 0) (first x : StateFacts K L D) where
  -- the process did not begin with the certificate, or its host has sent it
  abbrev pub IsOut : KindOfCertificate → ℕ → Type 0
  IsOut kind v = (has_had kind first v ≡ false) ⊎ sent kind v

  out_or_not : ((kind : KindOfCertificate) (v : ℕ) → sent kind v ⊎ (sent kind v → ⊥)) → (kind : KindOfCertificate)
      (v : ℕ) → IsOut kind v ⊎ ((has_had kind first v ≡ true) × (sent kind v → ⊥))
  out_or_not either kind v = elim (cases_Bool (has_had kind first v)) [
    | inl had ↦ elim (either kind v) [ inl is ↦ inl (inr is) | inr unsent ↦ inr (had, unsent) ]
    | inr new ↦ inl (inl new)
  ]

module _ {K L D : Type 0} (sent : KindOfCertificate → ℕ → Type 0) (awaits : ℕ → Type 0)
    (either : (kind : KindOfCertificate) (v : ℕ) → sent kind v ⊎ (sent kind v → ⊥)) (first x y : StateFacts K L D)
    (same_epoch : x.settings.epoch ≡ y.settings.epoch) (same_terms : x.terms.term_length ≡ y.terms.term_length)
    (since : IsLedAhead x) (ahead : y.finalized < y.current)
    (certified_below : (v : ℕ) → has_certified y v ≡ true → v < y.current) (own : IsUncovered x x)
    (other : IsUncovered x y) (shows : ShowsAll (IsOut sent first x) x y)
    (lacks : (v : ℕ) → y.finalized < v → has_certified y v ≡ false → awaits v) where
  by_final : x.current ≡ x.finalized + 1 → tracks Finalization x x.finalized ≡ true → Follows sent awaits first x y
  by_final is there = elim (out_or_not sent first x either Finalization x.finalized) [
    | inl out ↦
        (let by = shows.finalization x.finalized (omega arith) there out in
        let reached = finalization_shows x y same_epoch x.finalized by.0 by.1 by.2 in
        Reaches (omega (arith, is, reached, ahead)))
    | inr (had, unsent) ↦ BeganWith Finalization x.finalized is (omega arith) there had unsent
  ]

  by_nullified : (v : ℕ) → 1 ≤ v → x.current ≡ next_view Nullification x v → tracks Nullification x v ≡ true
      → is_among v x.nullified ≡ true → Follows sent awaits first x y
  by_nullified v some is there known = elim (cases_lt v x.finalized) [
    | inl below ↦
        (let past = own v known some (omega (arith, below)) in
        let above = since.ahead in
        absurd (omega (arith, past, is, above)))
    | inr above ↦ elim (out_or_not sent first x either Nullification v) [
      | inl out ↦
          (let by = shows.nullification v above there out in
          elim (nullification_shows x y same_epoch v by.0 by.1 by.2) [
            | inl reached ↦ (let past = other v known some reached in Reaches (omega (arith, is, past, ahead)))
            | inr leaves ↦
                let left = subst (λ t. next_term_start t v ≤ y.current) (sym same_terms) leaves in
                Reaches (subst (λ w. w ≤ y.current) (sym is) left)
          ])
      | inr (had, unsent) ↦ BeganWith Nullification v is above there had unsent
    ]
  ]

  by_certified : (v : ℕ) → x.current ≡ v + 1 → tracks Notarization x v ≡ true → has_certified x v ≡ true
      → Follows sent awaits first x y
  by_certified v is there judged = by_view (cases_lt 0 v)
    where
      above : x.finalized ≤ v
      above = let up = since.ahead in omega (arith, is, up)

      by_verdict : tracks Notarization y v ≡ true → Follows sent awaits first x y
      by_verdict tracked = elim (cases_Bool (has_certified y v)) [
        | inl certified ↦ (let below = certified_below v certified in Reaches (omega (arith, is, below)))
        | inr not_yet ↦ elim (cases_lt y.finalized v) [
          | inl over ↦ AwaitsVerdict v is judged tracked not_yet (lacks v over not_yet)
          | inr final ↦ Reaches (omega (arith, is, final, ahead))
        ]
      ]

      by_view : (0 < v) ⊎ (v ≤ 0) → Follows sent awaits first x y
      by_view (inr none) = Reaches (omega (arith, is, none, ahead))
      by_view (inl some) = elim (out_or_not sent first x either Notarization v) [
        | inl out ↦
            (let by = shows.notarization v above there out in
            elim (notarization_shows x y same_epoch v by.0 by.1 by.2 (omega (arith, some))) [
              | inl low ↦ Reaches (omega (arith, is, low, ahead))
              | inr tracked ↦ by_verdict tracked
            ])
        | inr (had, unsent) ↦ BeganWith Notarization v is above there had unsent
      ]

  pub followed : Follows sent awaits first x y
  followed = by_led since.led
    where
      by_led : IsLed x → Follows sent awaits first x y
      by_led (IsFirst is) = Reaches (omega (arith, is, ahead))
      by_led (PastFinalized is there) = by_final is there
      by_led (PastCertified v is there judged) = by_certified v is there judged
      by_led (PastNullified v some is there known) = by_nullified v some is there known
