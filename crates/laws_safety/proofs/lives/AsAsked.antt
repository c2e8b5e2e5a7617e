-- For `runs_keep_order`.
-- A certificate that is returned for broadcast is the requested one, if each certificate is at its own view.
use Rattle.std.proofs.Common.{◌≡◌, refl, ap, sym, ◌∙◌, subst, ℕ, inl, inr, Bool, [], ◌∷◌, Option, Some, None}
use Rattle.std.specs.Prelude.{option_map}
use Rattle.simplex_types.specs.Certificates.{CertificateFacts, Notarized, Nullified, Finalized}
use Rattle.simplex_voter.specs.Facts.{StateFacts, Elect}
use Rattle.simplex_voter.specs.StateAnswers.{broadcast_notarization_answer, broadcast_nullification_answer, broadcast_finalization_answer}
use Rattle.simplex_member.specs.Calls.{CallFacts, BroadcastNotarization, BroadcastNullification, BroadcastFinalization, GetBestCertificate, ReplyFacts, Returned}
use Rattle.simplex_record.specs.Entries.{certificate_round}
use Rattle.simplex_member.specs.CallSemantics.{answer}
use Rattle.simplex_member.specs.OutstandingWork.{OutstandingWork}
use Rattle.laws_safety.specs.LifetimeLaws.{KindOfCertificate, Notarization, Nullification, Finalization, kind_of_certificate, IsAsAsked}
use Rattle.laws_safety.proofs.frames.Sound.{IsPlaced}
use Rattle.laws_safety.proofs.lives.ReturnedCertificates.{asked}

abbrev AskedRight : {D : Type 0} → KindOfCertificate → ℕ → CertificateFacts D → Type 0
AskedRight kind v c = (kind_of_certificate c ≡ kind) × ((certificate_round c).view ≡ v)

abbrev replied_it : (K : Type 0) {D : Type 0} → Option (CertificateFacts D) → ReplyFacts K D
replied_it K certificate = Returned certificate

same_view : (v w : ℕ) → v ∷ [] ≡ w ∷ [] → v ≡ w
same_view v w is = cc

module _ {K D : Type 0} where
  replied_right : (kind : KindOfCertificate) (v : ℕ) (c d : CertificateFacts D) → AskedRight kind v d
      → replied_it K (Some d) ≡ replied_it K (Some c) → AskedRight kind v c
  replied_right kind v c d right tells = let same : d ≡ c = cc in subst (AskedRight kind v) same right

module _ {K L D : Type 0} (x : StateFacts K L D) (placed : IsPlaced x) (v : ℕ) where
  notarization_right : IsAsAsked {K = K} {D = D} (BroadcastNotarization v)
      (replied_it K (option_map Notarized (broadcast_notarization_answer x v)))
  notarization_right Notarization w c asks tells =
      elim (asked (λ r. r.notarization_broadcast) (λ r. r.notarization) x v) [
        | inl none ↦ absurd (let clash : replied_it K {D = D} None ≡ replied_it K (Some c) =
            ap (λ o. replied_it K (option_map Notarized o)) (sym none) ∙ tells in cc)
        | inr (d, some, first) ↦ replied_right {K = K} Notarization w c (Notarized d) (
          refl,
          placed.views Notarization v d.proposal.round.view
              (ap (option_map (λ f. f.proposal.round.view)) first.stands) ∙ same_view v w asks,
        )
            (ap (λ o. replied_it K (option_map Notarized o)) (sym some) ∙ tells)
      ]
  notarization_right Nullification w c asks tells = absurd (cc)
  notarization_right Finalization w c asks tells = absurd (cc)

  nullification_right : IsAsAsked {K = K} {D = D} (BroadcastNullification v)
      (replied_it K (option_map Nullified (broadcast_nullification_answer x v)))
  nullification_right Notarization w c asks tells = absurd (cc)
  nullification_right Nullification w c asks tells =
      elim (asked (λ r. r.nullification_broadcast) (λ r. r.nullification) x v) [
        | inl none ↦ absurd (let clash : replied_it K {D = D} None ≡ replied_it K (Some c) =
            ap (λ o. replied_it K (option_map Nullified o)) (sym none) ∙ tells in cc)
        | inr (d, some, first) ↦ replied_right {K = K} Nullification w c (Nullified d) (
          refl,
          placed.views Nullification v d.round.view (ap (option_map (λ f. f.round.view)) first.stands)
              ∙ same_view v w asks,
        )
            (ap (λ o. replied_it K (option_map Nullified o)) (sym some) ∙ tells)
      ]
  nullification_right Finalization w c asks tells = absurd (cc)

  finalization_right : IsAsAsked {K = K} {D = D} (BroadcastFinalization v)
      (replied_it K (option_map Finalized (broadcast_finalization_answer x v)))
  finalization_right Notarization w c asks tells = absurd (cc)
  finalization_right Nullification w c asks tells = absurd (cc)
  finalization_right Finalization w c asks tells =
      elim (asked (λ r. r.finalization_broadcast) (λ r. r.finalization) x v) [
        | inl none ↦ absurd (let clash : replied_it K {D = D} None ≡ replied_it K (Some c) =
            ap (λ o. replied_it K (option_map Finalized o)) (sym none) ∙ tells in cc)
        | inr (d, some, first) ↦ replied_right {K = K} Finalization w c (Finalized d) (
          refl,
          placed.views Finalization v d.proposal.round.view
              (ap (option_map (λ f. f.proposal.round.view)) first.stands) ∙ same_view v w asks,
        )
            (ap (λ o. replied_it K (option_map Finalized o)) (sym some) ∙ tells)
      ]

nothing_asked : (K : Type 0) {D : Type 0} (replied : ReplyFacts K D) → IsAsAsked GetBestCertificate replied
nothing_asked K replied Notarization v c asks tells = absurd (cc)
nothing_asked K replied Nullification v c asks tells = absurd (cc)
nothing_asked K replied Finalization v c asks tells = absurd (cc)

module _ {K L D : Type 0} (same : D → D → Bool) (elect : Elect L) where
  pub call_as_asked : (x : StateFacts K L D) (o : OutstandingWork K D) (call : CallFacts D) → IsPlaced x
      → IsAsAsked call (answer same elect x o call)
  call_as_asked x o (BroadcastNotarization v) placed = notarization_right x placed v
  call_as_asked x o (BroadcastNullification v) placed = nullification_right x placed v
  call_as_asked x o (BroadcastFinalization v) placed = finalization_right x placed v
  call_as_asked x o GetBestCertificate placed = nothing_asked K _
  call_as_asked x o _ placed = λ kind v d asks tells. absurd (cc)
