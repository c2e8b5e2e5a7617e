-- A certificate that a process at rest has sent reaches the other honest hosts by the next round.
use Rattle.std.proofs.Common.{◌≡◌, ◌⊎◌, inl, inr, refl, ap, sym, ◌∙◌, subst, ℕ, Bool, List, [], ◌∷◌, ◌++◌, Option, Some}
use Rattle.std.specs.Prelude.{◌≢◌, Contains, IfSome}
use Rattle.std.proofs.lemmas.Bool.{cases_eq}
use Rattle.std.proofs.lemmas.List.Elements.{Contains-append_left, Contains-append_right}
use Rattle.simplex_types.specs.Certificates.{CertificateFacts, certificate_facts}
use Rattle.simplex_types.specs.declared.types.messages.Subject.{Subject}
use Rattle.simplex_types.specs.declared.types.numbers.Round.{Round}
use Rattle.simplex_types.specs.declared.types.window.Terms.{Terms}
use Rattle.simplex_voter.specs.Facts.{StateFacts, Elect}
use Rattle.simplex_member.specs.declared.member.journal.Stored.{Stored}
use Rattle.simplex_record.specs.Entries.{certificate_round}
use Rattle.laws_safety.specs.LifetimeLaws.{KindOfCertificate, Notarization, Nullification, Finalization, kind_of_certificate}
use Rattle.laws_safety.proofs.lists.Splits.{Contains-cases, Contains-cons_rest}
use Rattle.engine_outbox.specs.declared.output.Output.{Output}
use Rattle.engine_outbox.specs.declared.output.Output.TheVariants as output
use Rattle.engine_outbox.specs.declared.output.Work.TheVariants as work
use Rattle.laws_hosts.specs.EngineCalls.{outputs_of}
use Rattle.laws_hosts.specs.HostNetworks.{Host, Honest, IsHostNetwork}
use Rattle.laws_hosts.specs.Processes.{Process, carried_by}
use Rattle.laws_hosts.proofs.CallTraces.{none_in, here}
use Rattle.laws_rounds.specs.Finality.{IsShownTo, SpreadsInRounds}
use Rattle.laws_rounds.specs.Rounds.{IsLastProcess, IsAtRest, IsRound}
use Rattle.laws_meetings.specs.Broadcasts.{IsSent, HasStates}
use Rattle.laws_meetings.specs.Meetings.{HasSentCertificate}
use Rattle.laws_meetings.specs.TrackedCertificates.{IsOf}

-- ---- whether a certificate was sent

same_kind : (a b : KindOfCertificate) → (a ≡ b) ⊎ (a ≡ b → ⊥)
same_kind Notarization Notarization = inl refl
same_kind Nullification Nullification = inl refl
same_kind Finalization Finalization = inl refl
same_kind Notarization Nullification = inr (λ (is : Notarization ≡ Nullification). absurd (cc))
same_kind Notarization Finalization = inr (λ (is : Notarization ≡ Finalization). absurd (cc))
same_kind Nullification Notarization = inr (λ (is : Nullification ≡ Notarization). absurd (cc))
same_kind Nullification Finalization = inr (λ (is : Nullification ≡ Finalization). absurd (cc))
same_kind Finalization Notarization = inr (λ (is : Finalization ≡ Notarization). absurd (cc))
same_kind Finalization Nullification = inr (λ (is : Finalization ≡ Nullification). absurd (cc))

same_round : (r s : Round) → (r ≡ s) ⊎ (r ≡ s → ⊥)
same_round r s = elim (cases_eq r.epoch s.epoch) [
  | inl epoch ↦ elim (cases_eq r.view s.view) [
    | inl view ↦ inl (λ i. record { epoch = epoch i; view = view i })
    | inr other ↦ inr (λ is. other (ap (λ (t : Round). t.view) is))
  ]
  | inr other ↦ inr (λ is. other (ap (λ (t : Round). t.epoch) is))
]

of_kind : {D : Type 0} (kind : KindOfCertificate) (round : Round) (c : CertificateFacts D)
    → IsOf kind round c ⊎ (IsOf kind round c → ⊥)
of_kind kind round c = elim (same_kind (kind_of_certificate c) kind) [
  | inl kind_is ↦ elim (same_round (certificate_round c) round) [
    | inl round_is ↦ inl (kind_is, round_is)
    | inr other ↦ inr (λ is. other is.1)
  ]
  | inr other ↦ inr (λ is. other is.0)
]

module _ {S D K G C : Type 0} (bytes_of : C → List ℕ) (kind : KindOfCertificate) (round : Round) where
  abbrev Sent : List (Output S D Stored K G C) → Type 0
  Sent outs = IsSent bytes_of outs kind round

  sent_later : (out : Output S D Stored K G C) (rest : List (Output S D Stored K G C)) → Sent rest → Sent (out ∷ rest)
  sent_later out rest sent = record {
    certificate = sent.certificate;
    is_of = sent.is_of;
    sent = Contains-cons_rest out rest (output.Work (work.Broadcast sent.certificate)) sent.sent;
  }

  first_or_later : (out : Output S D Stored K G C) (rest : List (Output S D Stored K G C)) → (Sent rest → ⊥)
      → (sent : Sent (out ∷ rest)) → out ≡ output.Work (work.Broadcast sent.certificate)
  first_or_later out rest none sent =
      elim (Contains-cases out rest (output.Work (work.Broadcast sent.certificate)) sent.sent) [
        | inl first ↦ first
        | inr later ↦ absurd
            (none (record { certificate = sent.certificate; is_of = sent.is_of; sent = later }))
      ]

  by_first : (out : Output S D Stored K G C) (rest : List (Output S D Stored K G C)) → (Sent rest → ⊥)
      → Sent (out ∷ rest) ⊎ (Sent (out ∷ rest) → ⊥)
  by_first (output.Work (work.Broadcast certificate)) rest none =
      let out = output.Work (work.Broadcast certificate) in
      elim (of_kind kind round (certificate_facts bytes_of certificate)) [
        | inl is ↦ inl (record { certificate = certificate; is_of = is; sent = here out rest })
        | inr other ↦ inr (λ sent. (
            let first = first_or_later out rest none sent in
            let same_certificate : sent.certificate ≡ certificate = cc in
            other (subst (λ c. IsOf kind round (certificate_facts bytes_of c)) same_certificate sent.is_of)))
      ]
  by_first out rest none = inr (λ sent. (let first = first_or_later out rest none sent in absurd (cc)))

  -- a certificate of this kind and round is among outputs, or none is
  pub sent_or_not : (outs : List (Output S D Stored K G C)) → Sent outs ⊎ (Sent outs → ⊥)
  sent_or_not [] = inr (λ sent. none_in (output.Work (work.Broadcast sent.certificate)) sent.sent)
  sent_or_not (out ∷ rest) =
      elim (sent_or_not rest) [ inl later ↦ inl (sent_later out rest later) | inr none ↦ by_first out rest none ]

-- ---- what the last process has carried out is among all that its host has

module _ {S L D K G C : Type 0} where
  last_carried : (before : List (Process S L D K G C)) (last : Process S L D K G C) (out : Output S D Stored K G C)
      → Contains last.carried out → Contains (carried_by (before ++ last ∷ [])) out
  last_carried [] last out has = Contains-append_left last.carried [] out has
  last_carried (process ∷ before) last out has =
      Contains-append_right process.carried (carried_by (before ++ last ∷ [])) out (last_carried before last out has)

module _ {S L D K G C : Type 0} (bytes_of : C → List ℕ) (hosts : List (Host S L D K G C)) (i : ℕ) where
  -- at rest, what was returned is sent
  pub sent_at_rest : (p : Process S L D K G C) → IsLastProcess hosts i p → IsAtRest p → (kind : KindOfCertificate)
      (round : Round) → IsSent bytes_of (outputs_of p.calls) kind round → HasSentCertificate bytes_of hosts i kind round
  sent_at_rest p (before, at) rest kind round sent =
      let out = output.Work (work.Broadcast sent.certificate) in
      let carried : Contains p.carried out = subst (λ outs. Contains outs out) (sym rest.carried) sent.sent in (
        before ++ p ∷ [],
        at,
        record { certificate = sent.certificate; is_of = sent.is_of; sent = last_carried before p out carried },
      )

  -- of an honest host it is known whether one was sent
  pub sent_by_or_not : (p : Process S L D K G C) → IsLastProcess hosts i p → (kind : KindOfCertificate)
      (round : Round)
      → HasSentCertificate bytes_of hosts i kind round ⊎ (HasSentCertificate bytes_of hosts i kind round → ⊥)
  sent_by_or_not p (before, at) kind round =
      elim (sent_or_not bytes_of kind round (carried_by (before ++ p ∷ []))) [
        | inl sent ↦ inl (before ++ p ∷ [], at, sent)
        | inr none ↦ inr (λ sent. none (subst (λ processes. IsSent bytes_of (carried_by processes) kind round)
            (honest_same sent.0 (before ++ p ∷ []) (sym sent.1 ∙ at)) sent.2))
      ]
    where
      honest_same : (xs ys : List (Process S L D K G C))
          → ◌≡◌ {A = Option (Host S L D K G C)} (Some (Honest xs)) (Some (Honest ys)) → xs ≡ ys
      honest_same xs ys is = cc

module _ {S L D K G C : Type 0} (same : D → D → Bool) (elect : Elect L) (bytes_of : C → List ℕ)
    (is_signature : K → Subject D → G → Type 0) (keys_of : S → List K) (me : S → Option ℕ) (terms : L → Terms)
    (term_length : ℕ) where
  -- what this shows of a certificate of this kind and round is so
  pub record IsShown (Shows : CertificateFacts D → StateFacts K L D → Type 0) (kind : KindOfCertificate) (round : Round)
      (y : StateFacts K L D) : Type 0 where
    pub facts : CertificateFacts D
    pub is_of : IsOf kind round facts
    pub shown : Shows facts y

  pub reaches : (Shows : CertificateFacts D → StateFacts K L D → Type 0)
      → SpreadsInRounds {C = C} same elect bytes_of is_signature keys_of me terms Shows
      → (next later : List (Host S L D K G C)) (i j : ℕ) (q : Process S L D K G C) (begun y : StateFacts K L D)
      → IsHostNetwork same elect bytes_of is_signature keys_of me terms term_length next
      → IsRound same elect bytes_of is_signature keys_of me terms term_length next later
      → i ≢ j → IsLastProcess later j q → HasStates q begun y
      → (kind : KindOfCertificate) (round : Round) → HasSentCertificate bytes_of next i kind round
      → IsShown Shows kind round y
  reaches Shows spreads next later i j q begun y network round_is apart is_last states kind round
      (processes, at, sent) =
      let certificate = sent.certificate in
      let spread : IsShownTo (Shows (certificate_facts bytes_of certificate)) q.last =
      spreads term_length next later later [] network (round_is, refl) i j certificate q
      (apart, (processes, at, sent.sent)) is_last in
      record {
        facts = certificate_facts bytes_of certificate;
        is_of = sent.is_of;
        shown = subst (λ life. IfSome life (Shows (certificate_facts bytes_of certificate))) states.lives
            (spread states.alive);
      }
