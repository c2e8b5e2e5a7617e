-- A certificate is returned for broadcast once: after that the view has none left.
use Rattle.std.proofs.Common.{◌≡◌, ℕ, Bool, true, false, cond, ◌||◌, Option, Some, None, refl, ap, ◌∙◌, eq-eqb}
use Rattle.std.specs.Cmp.{nat_cmp_total}
use Rattle.std.specs.FinMap.Entries.{find, find-put}
use Rattle.std.specs.Ordering.{nat_cmp}
use Rattle.std.specs.Prelude.{is_some, option_map, option_and_then, IsNone}
use Rattle.simplex_types.specs.Certificates.{CertificateFacts, Notarized, Nullified, Finalized}
use Rattle.simplex_view_maps.proofs.Maps.{is_eq-nat_cmp}
use Rattle.simplex_round.specs.Round.{RoundFacts, once}
use Rattle.simplex_voter.specs.Facts.{StateFacts, Elect, round_at, round_of, with_round, with_tracked}
use Rattle.simplex_voter.specs.StateAnswers.{broadcast_notarization_answer, after_broadcast_notarization, broadcast_nullification_answer, after_broadcast_nullification, broadcast_finalization_answer, after_broadcast_finalization}
use Rattle.simplex_member.specs.Calls.{BroadcastNotarization, BroadcastNullification, BroadcastFinalization, ReplyFacts, Returned}
use Rattle.simplex_member.specs.MemberFacts.{MemberFacts}
use Rattle.simplex_member.specs.MethodContracts.{IsAnswered, HasNoneLeft}
use Rattle.simplex_member.proofs.Voted.{at_life, from_life}

abbrev handed_replied : {K D : Type 0} → Option (CertificateFacts D) → ReplyFacts K D
handed_replied handed = Returned handed

once_sent : {C : Type 0} (sent : Bool) (certificate : Option C) → once (sent || is_some certificate) certificate ≡ None
once_sent true certificate = refl
once_sent false None = refl
once_sent false (Some c) = refl

round_at-same : {K L D : Type 0} (x : StateFacts K L D) (v : ℕ) (r : RoundFacts K D)
    → round_at (with_round x v r) v ≡ Some r
round_at-same x v r = find-put nat_cmp nat_cmp_total v v r x.rounds
    ∙ ap (λ b. cond b (Some r) (find nat_cmp v x.rounds)) (is_eq-nat_cmp v v ∙ eq-eqb v v refl)

-- a view after a change of its round, where it is tracked
module _ {K L D C : Type 0} (x : StateFacts K L D) (v : ℕ) (answer : RoundFacts K D → Option C)
    (change : RoundFacts K D → RoundFacts K D) (none : (r : RoundFacts K D) → answer (change r) ≡ None) where
  none_then : option_and_then answer (round_at (with_tracked x v (change (round_of x v))) v) ≡ None
  none_then = by_round (round_at x v) refl
    where
      by_round : (found : Option (RoundFacts K D)) → round_at x v ≡ found
          → option_and_then answer (round_at (with_tracked x v (change (round_of x v))) v) ≡ None
      by_round None is = rw (is, is) refl
      by_round (Some r) is = rw (is, round_at-same x v (change r)) (none r)

module _ {K L D : Type 0} (x : StateFacts K L D) (v : ℕ) where
  notarization_once : broadcast_notarization_answer (after_broadcast_notarization x v) v ≡ None
  notarization_once =
      none_then x v (λ r. once r.notarization_broadcast r.notarization)
      (λ r. record r { notarization_broadcast = r.notarization_broadcast || is_some r.notarization })
      (λ r. once_sent r.notarization_broadcast r.notarization)

  nullification_once : broadcast_nullification_answer (after_broadcast_nullification x v) v ≡ None
  nullification_once =
      none_then x v (λ r. once r.nullification_broadcast r.nullification)
      (λ r. record r { nullification_broadcast = r.nullification_broadcast || is_some r.nullification })
      (λ r. once_sent r.nullification_broadcast r.nullification)

  finalization_once : broadcast_finalization_answer (after_broadcast_finalization x v) v ≡ None
  finalization_once =
      none_then x v (λ r. once r.finalization_broadcast r.finalization)
      (λ r. record r { finalization_broadcast = r.finalization_broadcast || is_some r.finalization })
      (λ r. once_sent r.finalization_broadcast r.finalization)

module _ {K L D : Type 0} (same : D → D → Bool) (elect : Elect L) (m left : MemberFacts K L D) (v : ℕ)
    (handed : Option (CertificateFacts D)) where
  pub notarization_none_left : IsAnswered same elect m (BroadcastNotarization v) (Returned handed) left
      → HasNoneLeft broadcast_notarization_answer left v
  notarization_none_left is = at_life (λ (x : StateFacts K L D). broadcast_notarization_answer x v ≡ None) left.life
      (after_broadcast_notarization is.state v) (ap (λ (l : MemberFacts K L D). l.life) is.left_so)
      (notarization_once is.state v)

  pub nullification_none_left : IsAnswered same elect m (BroadcastNullification v) (Returned handed) left
      → HasNoneLeft broadcast_nullification_answer left v
  nullification_none_left is = at_life (λ (x : StateFacts K L D). broadcast_nullification_answer x v ≡ None) left.life
      (after_broadcast_nullification is.state v) (ap (λ (l : MemberFacts K L D). l.life) is.left_so)
      (nullification_once is.state v)

  pub finalization_none_left : IsAnswered same elect m (BroadcastFinalization v) (Returned handed) left
      → HasNoneLeft broadcast_finalization_answer left v
  finalization_none_left is = at_life (λ (x : StateFacts K L D). broadcast_finalization_answer x v ≡ None) left.life
      (after_broadcast_finalization is.state v) (ap (λ (l : MemberFacts K L D). l.life) is.left_so)
      (finalization_once is.state v)

-- if the view has none left, none is returned
none_handed : {K D C A : Type 0} (facts : C → CertificateFacts D) (wrap : A → CertificateFacts D)
    (certificate : Option C) (found : Option A) → found ≡ None
    → handed_replied {K = K} (option_map facts certificate) ≡ handed_replied (option_map wrap found)
    → IsNone certificate
none_handed facts wrap None found none is = refl
none_handed {K = K} facts wrap (Some c) found none is =
    let same : handed_replied {K = K} (Some (facts c)) ≡ handed_replied None = rw none at is in
    absurd (let no : ⊥ = cc in no)

module _ {K L D C : Type 0} (same : D → D → Bool) (elect : Elect L) (m left : MemberFacts K L D) (v : ℕ)
    (facts : C → CertificateFacts D) (certificate : Option C) where
  pub notarization_handed_once : HasNoneLeft broadcast_notarization_answer m v
      → IsAnswered same elect m (BroadcastNotarization v) (Returned (option_map facts certificate)) left
      → IsNone certificate
  notarization_handed_once was is = none_handed facts Notarized certificate (broadcast_notarization_answer is.state v)
      (from_life (λ (x : StateFacts K L D). broadcast_notarization_answer x v ≡ None) m.life is.state is.alive was)
      is.replied_so

  pub nullification_handed_once : HasNoneLeft broadcast_nullification_answer m v
      → IsAnswered same elect m (BroadcastNullification v) (Returned (option_map facts certificate)) left
      → IsNone certificate
  nullification_handed_once was is = none_handed facts Nullified certificate (broadcast_nullification_answer is.state v)
      (from_life (λ (x : StateFacts K L D). broadcast_nullification_answer x v ≡ None) m.life is.state is.alive was)
      is.replied_so

  pub finalization_handed_once : HasNoneLeft broadcast_finalization_answer m v
      → IsAnswered same elect m (BroadcastFinalization v) (Returned (option_map facts certificate)) left
      → IsNone certificate
  finalization_handed_once was is = none_handed facts Finalized certificate (broadcast_finalization_answer is.state v)
      (from_life (λ (x : StateFacts K L D). broadcast_finalization_answer x v ≡ None) m.life is.state is.alive was)
      is.replied_so
