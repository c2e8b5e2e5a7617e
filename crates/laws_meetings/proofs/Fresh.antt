-- A member that starts at genesis is at view 1, with no certificate and no verdict.
use Rattle.std.proofs.Common.{◌≡◌, refl, ap, sym, ◌∙◌, subst, ℕ, Bool, true, false, ◌||◌, None, is_some, arith}
use Rattle.std.specs.Prelude.{IfSome, option_map}
use Rattle.std.proofs.lemmas.Bool.{false≢true}
use Rattle.simplex_types.specs.Certificates.{CertificateFacts, Notarized, Nullified, Finalized}
use Rattle.simplex_types.specs.Config.{FloorFacts, Genesis}
use Rattle.simplex_round.specs.declared.round.Certification.{Certification}
use Rattle.simplex_round.specs.declared.round.Certification.TheVariants as certification
use Rattle.simplex_round.specs.Round.{is_certified}
use Rattle.simplex_voter.specs.Acceptance.{after_set_floor}
use Rattle.simplex_voter.specs.Facts.{StateFacts, Elect, round_of}
use Rattle.simplex_record.specs.Events as event
use Rattle.simplex_record.specs.Events.{Event}
use Rattle.simplex_record.specs.Start.{Setup, new_state}
use Rattle.simplex_member.specs.MemberFacts.{MemberFacts}
use Rattle.simplex_member.specs.Start.{started_member}
use Rattle.laws_safety.specs.LifetimeLaws.{KindOfCertificate, Notarization, Nullification, Finalization}
use Rattle.laws_history.specs.HistoryFacts.{verdict_of}
use Rattle.laws_history.proofs.EventFacts.{FollowsEvent}
use Rattle.laws_history.proofs.UnchangedHistories.{Known}
use Rattle.laws_meetings.specs.Meetings.{IsFresh}
use Rattle.laws_meetings.specs.TrackedCertificates.{has_had}
use Rattle.laws_meetings.proofs.EventCertificates.{follows}

unjudged : (c : Certification) → verdict_of c ≡ None → is_certified c ≡ false
unjudged certification.Ready is = refl
unjudged (certification.Outstanding token) is = refl
unjudged (certification.Judged success) is = absurd (false≢true (sym (ap is_some is)))
unjudged certification.Aborted is = refl

module _ {K L D : Type 0} (same : D → D → Bool) (decides : (d e : D) → same d e ≡ true → d ≡ e) (elect : Elect L)
    (setup : Setup K L) (payload : D) (now : ℕ) where
  abbrev new : StateFacts K L D
  new = new_state setup

  abbrev floor : Event K D
  floor = event.SetFloor (Genesis payload) now

  abbrev begun : StateFacts K L D
  begun = after_set_floor same elect new (Genesis payload) now

  goes : FollowsEvent same elect floor new begun
  goes = follows same decides elect new floor refl

  none_had : (kind : KindOfCertificate) (v : ℕ) → has_had kind begun v ≡ false
  none_had Notarization v = ap (λ (k : Known D). is_some (option_map Notarized k.notarization)
      || k.notarization_broadcast) (goes.rounds v (omega arith))
  none_had Nullification v = ap
      (λ (k : Known D). is_some (option_map {U = CertificateFacts D} Nullified k.nullification)
      || k.nullification_broadcast) (goes.rounds v (omega arith))
  none_had Finalization v = ap (λ (k : Known D). is_some (option_map Finalized k.finalization)
      || k.finalization_broadcast) (goes.rounds v (omega arith))

  pub genesis_fresh : IsFresh begun
  genesis_fresh = record {
    first_view = goes.current;
    none_had = none_had;
    none_certified = λ v. unjudged (round_of begun v).certification
        (ap (λ (k : Known D). k.verdict) (goes.rounds v (omega arith)));
  }

module _ {K L D : Type 0} (same : D → D → Bool) (decides : (d e : D) → same d e ≡ true → d ≡ e) (elect : Elect L)
    (setup : Setup K L) (now : ℕ) where
  -- a member that starts at genesis
  pub started_fresh : (m : MemberFacts K L D) (floor : FloorFacts D) (payload : D)
      → m ≡ started_member same elect (new_state setup) floor now → floor ≡ Genesis payload
      → IfSome m.life IsFresh
  started_fresh m from payload is genesis =
      subst (λ (n : MemberFacts K L D). IfSome n.life IsFresh)
      (ap (λ f. started_member same elect (new_state setup) f now) (sym genesis) ∙ sym is)
      (genesis_fresh same decides elect setup payload now)
