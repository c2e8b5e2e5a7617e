-- Broadcasts among the work of replies: the tests that find them.
use Rattle.std.proofs.Common.{◌≡◌, refl, ap, sym, ◌∙◌, ℕ, ◌⊎◌, inl, inr, Bool, true, false, ◌&&◌, List, [], ◌∷◌, ◌++◌, Some, None}
use Rattle.std.specs.Prelude.{◌==◌}
use Rattle.std.specs.List.{list_any}
use Rattle.std.proofs.lemmas.Bool.{false≢true, eqb-true, eq-eqb, or_cases, or_left, or_right}
use Rattle.std.proofs.lemmas.List.Folds.{list_any-append}
use Rattle.simplex_types.specs.Certificates.{CertificateFacts, certificate_facts}
use Rattle.simplex_types.specs.declared.types.numbers.Round.{Round}
use Rattle.simplex_voter.proofs.Gaps.{and_parts, and_both}
use Rattle.simplex_record.specs.Entries.{certificate_round}
use Rattle.simplex_member.specs.Calls.{CallFacts, Returned, reply_facts}
use Rattle.simplex_member.specs.declared.member.calls.Reply.{Reply}
use Rattle.simplex_member.specs.declared.member.calls.Reply.TheVariants as reply
use Rattle.simplex_member.specs.declared.member.journal.Stored.{Stored}
use Rattle.laws_safety.specs.LifetimeLaws.{KindOfCertificate, Notarization, Nullification, Finalization, kind_of_certificate}
use Rattle.laws_safety.proofs.lists.Splits.{Contains-cons_rest}
use Rattle.engine_outbox.specs.Outputs.{work_in}
use Rattle.engine_outbox.specs.declared.output.Output.{Output}
use Rattle.engine_outbox.specs.declared.output.Output.TheVariants as output
use Rattle.engine_outbox.specs.declared.output.Work.{Work}
use Rattle.engine_outbox.specs.declared.output.Work.TheVariants as work
use Rattle.simplex_engine.specs.Provenance.{work_by_reply}
use Rattle.laws_hosts.proofs.CallTraces.{here}
use Rattle.laws_meetings.specs.Broadcasts.{IsSent}
use Rattle.laws_meetings.specs.TrackedCertificates.{IsOf}

-- ---- of lists

module _ {A : Type 0} (test : A → Bool) (xs ys : List A) where
  pub any_cases : list_any test (xs ++ ys) ≡ true → (list_any test xs ≡ true) ⊎ (list_any test ys ≡ true)
  any_cases any = or_cases (list_any test xs) (list_any test ys) (sym (list_any-append test xs ys) ∙ any)

  pub any_left : list_any test xs ≡ true → list_any test (xs ++ ys) ≡ true
  any_left any = list_any-append test xs ys ∙ or_left (list_any test xs) (list_any test ys) any

  pub any_right : list_any test ys ≡ true → list_any test (xs ++ ys) ≡ true
  any_right any = list_any-append test xs ys ∙ or_right (list_any test xs) (list_any test ys) any

-- ---- certificates of a kind and a round

pub same_kind : KindOfCertificate → KindOfCertificate → Bool
same_kind Notarization Notarization = true
same_kind Nullification Nullification = true
same_kind Finalization Finalization = true
same_kind kind other = false

same_kind_is : (kind other : KindOfCertificate) → same_kind kind other ≡ true → other ≡ kind
unfolding same_kind
same_kind_is Notarization Notarization is = refl
same_kind_is Nullification Nullification is = refl
same_kind_is Finalization Finalization is = refl
same_kind_is Notarization Nullification is = absurd (false≢true is)
same_kind_is Notarization Finalization is = absurd (false≢true is)
same_kind_is Nullification Notarization is = absurd (false≢true is)
same_kind_is Nullification Finalization is = absurd (false≢true is)
same_kind_is Finalization Notarization is = absurd (false≢true is)
same_kind_is Finalization Nullification is = absurd (false≢true is)

same_kind_so : (kind : KindOfCertificate) → same_kind kind kind ≡ true
unfolding same_kind
same_kind_so Notarization = refl
same_kind_so Nullification = refl
same_kind_so Finalization = refl

module _ {D : Type 0} (kind : KindOfCertificate) (round : Round) where
  abbrev is_of : CertificateFacts D → Bool
  is_of c =
      same_kind kind (kind_of_certificate c)
      && ((certificate_round c).epoch == round.epoch && (certificate_round c).view == round.view)

  of_true : (c : CertificateFacts D) → is_of c ≡ true → IsOf kind round c
  of_true c is =
      let parts = and_parts (same_kind kind (kind_of_certificate c)) _ is in
      let both = and_parts ((certificate_round c).epoch == round.epoch) _ parts.1 in
      let epoch = eqb-true (certificate_round c).epoch round.epoch both.0 in
      let view = eqb-true (certificate_round c).view round.view both.1 in
      (same_kind_is kind (kind_of_certificate c) parts.0, λ i. record { epoch = epoch i; view = view i })

  true_of : (c : CertificateFacts D) → IsOf kind round c → is_of c ≡ true
  true_of c is =
      and_both (same_kind kind (kind_of_certificate c)) _
      (ap (same_kind kind) is.0 ∙ same_kind_so kind)
      (and_both ((certificate_round c).epoch == round.epoch) _
      (eq-eqb (certificate_round c).epoch round.epoch (ap (λ (r : Round). r.epoch) is.1))
      (eq-eqb (certificate_round c).view round.view (ap (λ (r : Round). r.view) is.1)))

-- ---- work

module _ {S D K G C : Type 0} (bytes_of : C → List ℕ) (kind : KindOfCertificate) (round : Round) where
  -- the work is the broadcast of a certificate of this kind and round
  abbrev pub broadcasts : Work S D K G C → Bool
  broadcasts (work.Broadcast certificate) = is_of kind round (certificate_facts bytes_of certificate)
  broadcasts _ = false

  -- a reply that returns such a certificate asks for its broadcast
  pub broadcast_by : (replied : Reply S D K G C) (call : CallFacts D) (c : CertificateFacts D)
      → reply_facts bytes_of replied ≡ Returned (Some c) → IsOf kind round c
      → list_any broadcasts (work_by_reply replied call) ≡ true
  broadcast_by (reply.Certificate (Some certificate)) call c tells is =
      let one : certificate_facts bytes_of certificate ≡ c = cc in
      or_left (broadcasts (work.Broadcast certificate)) _ (ap (is_of kind round) one ∙ true_of kind round c is)
  broadcast_by (reply.Certificate None) call c tells is = absurd (cc)
  broadcast_by _ call c tells is = absurd (cc)

  behind : (out : Output S D Stored K G C) (outs : List (Output S D Stored K G C))
      → IsSent bytes_of outs kind round → IsSent bytes_of (out ∷ outs) kind round
  behind out outs is = record {
    certificate = is.certificate;
    is_of = is.is_of;
    sent = Contains-cons_rest out outs (output.Work (work.Broadcast is.certificate)) is.sent;
  }

  -- among outputs with such work is the broadcast
  pub sent_among : (outs : List (Output S D Stored K G C)) → list_any broadcasts (work_in outs) ≡ true
      → IsSent bytes_of outs kind round
  sent_among [] any = absurd (false≢true any)
  sent_among (output.Work item ∷ rest) any =
      elim (or_cases (broadcasts item) (list_any broadcasts (work_in rest)) any) [
        | inl first ↦ by_item item first
        | inr later ↦ behind (output.Work item) rest (sent_among rest later)
      ]
    where
      by_item : (item : Work S D K G C) → broadcasts item ≡ true
          → IsSent bytes_of (output.Work item ∷ rest) kind round
      by_item (work.Broadcast certificate) is = record {
        certificate = certificate;
        is_of = of_true kind round (certificate_facts bytes_of certificate) is;
        sent = here (output.Work (work.Broadcast certificate)) rest;
      }
      by_item _ is = absurd (false≢true is)
  sent_among (out ∷ rest) any = behind out rest (sent_among rest any)
