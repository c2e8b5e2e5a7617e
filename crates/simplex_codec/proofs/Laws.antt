-- The values read from encodings: no encoding is refused, and each has one certificate's facts.
use Rattle.std.proofs.Common.{◌≡◌, ℕ, List, ◌∷◌, ◌++◌, length, take, drop, Option, Some, None, Result, Ok, Err, refl, ap, sym, subst, ◌∙◌, append_assoc, length-append, arith}
use Rattle.std.specs.Prelude.{IfOk, IfErr}
use Rattle.std.specs.Int.{w64, to_be_bytes}
use Rattle.std.proofs.Math.Seq.{take-append_seam, drop-append_seam}
use Rattle.simplex_types.specs.declared.types.numbers.Round.{Round}
use Rattle.simplex_types.specs.declared.types.messages.Proposal.{Proposal}
use Rattle.simplex_types.specs.declared.types.messages.Certificate.{Certificate}
use Rattle.simplex_types.specs.declared.types.messages.Certificate.TheVariants as certificate
use Rattle.simplex_types.specs.Certificates.{ProposalFacts, NullificationFacts, CertificateFacts, Notarized, Nullified, Finalized, certificate_facts}
use Rattle.simplex_types.specs.Encoding.{round_bytes, proposal_bytes, encoding, IsEncodableRound, IsEncodable, EncodingTellsApart}
use Rattle.simplex_codec.specs.declared.error.DecodeError.{DecodeError}
use Rattle.simplex_codec.specs.declared.error.DecodeError.TheVariants.{OutOfMemory, TooShort, UnknownKind, UnreadablePayload, UnreadableCertificate, UnreadableSignature, UnknownVerdict, TrailingBytes}
use Rattle.simplex_codec.specs.Decoded.{NoneHas, ReadsBack}
use Rattle.simplex_codec.specs.Refusals.{IsEncodableProposal, IsPayloadRefusal, IsProposalRefusal, IsRoundRefusal, IsCertificateRefusal, ReadsCertificates}

pub none_read : {X : Type 0} (bytes_of : X → List ℕ) (bytes : List ℕ) (read : Option X) → ReadsBack bytes_of bytes read
    → read ≡ None → NoneHas bytes_of bytes
none_read bytes_of bytes None reads is = reads
none_read bytes_of bytes (Some x) reads is = absurd cc

-- the payload follows the numbers
pub payload_at : (before payload own : List ℕ) (n size : ℕ) → length before ≡ n → length payload ≡ size
    → take size (drop n ((before ++ payload) ++ own)) ≡ payload
payload_at before payload own n size long sized =
    let regrouped : drop (length before) ((before ++ payload) ++ own) ≡ payload ++ own =
    ap (λ l. drop (length before) l) (append_assoc before payload own) ∙ drop-append_seam before (payload ++ own) in
    let at : drop n ((before ++ payload) ++ own) ≡ payload ++ own =
    subst (λ k. drop k ((before ++ payload) ++ own) ≡ payload ++ own) long regrouped in
    ap (λ l. take size l) at ∙ subst (λ k. take k (payload ++ own) ≡ payload) sized (take-append_seam payload own)

-- the bytes after a certificate's parts
abbrev own_bytes : {D : Type 0} → CertificateFacts D → List ℕ
own_bytes (Notarized c) = c.bytes
own_bytes (Nullified c) = c.bytes
own_bytes (Finalized c) = c.bytes

module _ {D C : Type 0} (payload : D → List ℕ) (size : ℕ) (sized : (d : D) → length (payload d) ≡ size)
    (bytes_of : C → List ℕ) (apart : EncodingTellsApart payload) where
  abbrev pub numbers : Proposal D → List ℕ
  numbers p = round_bytes p.round ++ to_be_bytes w64 p.parent

  pub numbers_length : (p : Proposal D) → length (numbers p) ≡ 24
  numbers_length p = refl

  same_own : (c d : CertificateFacts D) → c ≡ d → own_bytes c ≡ own_bytes d
  same_own c d same = ap own_bytes same

  pub no_payload_refusal : (p : Proposal D) (own : List ℕ) (error : DecodeError)
      → IsPayloadRefusal payload 24 size (proposal_bytes payload p ++ own) error → ⊥
  no_payload_refusal p own TooShort refused =
      absurd (omega (
        arith,
        refused,
        length-append (proposal_bytes payload p) own,
        length-append (numbers p) (payload p.payload),
        sized p.payload,
        numbers_length p,
      ))
  no_payload_refusal p own UnreadablePayload refused =
      refused.1 p.payload
      (sym (payload_at (numbers p) (payload p.payload) own 24 size (numbers_length p) (sized p.payload)))
  no_payload_refusal p own OutOfMemory refused = refused
  no_payload_refusal p own UnreadableCertificate refused = refused
  no_payload_refusal p own (UnknownKind k) refused = refused
  no_payload_refusal p own UnreadableSignature refused = refused
  no_payload_refusal p own (UnknownVerdict v) refused = refused
  no_payload_refusal p own TrailingBytes refused = refused

  pub no_proposal_refusal : (p : Proposal D) (c : C) → IsEncodableProposal p → (error : DecodeError)
      → IsProposalRefusal payload size bytes_of (proposal_bytes payload p ++ bytes_of c) error → error ≡ OutOfMemory
  no_proposal_refusal p c fits OutOfMemory refused = refl
  no_proposal_refusal p c fits UnreadableCertificate refused =
      let known : ProposalFacts D = record { proposal = p; bytes = bytes_of c } in
      let other : ProposalFacts D = record { proposal = refused.proposal; bytes = refused.own } in
      let same = apart (Notarized known) (Notarized other) fits refused.fits (ap (λ l. 0 ∷ l) refused.parts) in
      absurd (refused.unreadable c (same_own (Notarized known) (Notarized other) same))
  no_proposal_refusal p c fits TooShort refused = absurd (no_payload_refusal p (bytes_of c) TooShort refused)
  no_proposal_refusal p c fits UnreadablePayload refused =
      absurd (no_payload_refusal p (bytes_of c) UnreadablePayload refused)
  no_proposal_refusal p c fits (UnknownKind k) refused = absurd refused
  no_proposal_refusal p c fits UnreadableSignature refused = absurd refused
  no_proposal_refusal p c fits (UnknownVerdict v) refused = absurd refused
  no_proposal_refusal p c fits TrailingBytes refused = absurd refused

  pub no_round_refusal : (r : Round) (c : C) → IsEncodableRound r → (error : DecodeError)
      → IsRoundRefusal bytes_of (round_bytes r ++ bytes_of c) error → error ≡ OutOfMemory
  no_round_refusal r c fits OutOfMemory refused = refl
  no_round_refusal r c fits UnreadableCertificate refused =
      let known : NullificationFacts = record { round = r; bytes = bytes_of c } in
      let other : NullificationFacts = record { round = refused.round; bytes = refused.own } in
      let same = apart (Nullified known) (Nullified other) fits refused.fits (ap (λ l. 1 ∷ l) refused.parts) in
      absurd (refused.unreadable c (same_own (Nullified known) (Nullified other) same))
  no_round_refusal r c fits TooShort refused = absurd (omega arith)
  no_round_refusal r c fits UnreadablePayload refused = absurd refused
  no_round_refusal r c fits (UnknownKind k) refused = absurd refused
  no_round_refusal r c fits UnreadableSignature refused = absurd refused
  no_round_refusal r c fits (UnknownVerdict v) refused = absurd refused
  no_round_refusal r c fits TrailingBytes refused = absurd refused

  module _ {S K G : Type 0} where
    facts : Certificate S D K G C → CertificateFacts D
    facts c = certificate_facts bytes_of c

    no_refusal : (c : Certificate S D K G C) → IsEncodable (certificate_facts bytes_of c) → (error : DecodeError)
        → IsCertificateRefusal payload size bytes_of (encoding payload (certificate_facts bytes_of c)) error
        → error ≡ OutOfMemory
    no_refusal (certificate.Notarization n) fits error refused =
        no_proposal_refusal n.proposal n.certificate fits error refused
    no_refusal (certificate.Nullification n) fits error refused =
        no_round_refusal n.round n.certificate fits error refused
    no_refusal (certificate.Finalization f) fits error refused =
        no_proposal_refusal f.proposal f.certificate fits error refused

    pub reads_certificates : (bytes : List ℕ) (result : Result (Certificate S D K G C) DecodeError)
        → IfOk result (λ c. encoding payload (certificate_facts bytes_of c) ≡ bytes)
        → IfOk result (λ c. IsEncodable (certificate_facts bytes_of c))
        → IfErr result (IsCertificateRefusal payload size bytes_of bytes)
        → ReadsCertificates payload bytes_of bytes result
    reads_certificates bytes (Ok d) decoded fits refused c fits' same =
        (apart (certificate_facts bytes_of d) (certificate_facts bytes_of c) fits fits' (decoded ∙ sym same), tt)
    reads_certificates bytes (Err error) decoded fits refused c fits' same = (
      tt,
      no_refusal c fits' error (subst (λ b. IsCertificateRefusal payload size bytes_of b error) (sym same) refused),
    )
