-- An artifact's encoding is read back: nothing is refused that is one, and one encoding has one artifact's facts.
use Rattle.std.proofs.Common.{◌≡◌, if◌then◌else◌, ℕ, ◌<◌, ◌≤◌, ◌^◌, Bool, true, false, List, [], ◌∷◌, ◌++◌, length, get_or, take, drop, Option, Some, None, Result, Ok, Err, refl, ap, sym, subst, ◌∙◌, length-append, arith}
use Rattle.std.specs.Prelude.{IfOk, IfErr}
use Rattle.std.specs.Int.{w32, w64, to_be_bytes, from_be_bytes}
use Rattle.std.proofs.lemmas.Nat.{from_be_bytes-to_be_bytes_4}
use Rattle.simplex_types.specs.declared.types.numbers.Round.{Round}
use Rattle.simplex_types.specs.declared.types.messages.Proposal.{Proposal}
use Rattle.simplex_types.specs.declared.types.messages.Artifact.{Artifact}
use Rattle.simplex_types.specs.declared.types.messages.Artifact.TheVariants as artifact
use Rattle.simplex_types.specs.Certificates.{ProposalFacts, NullificationFacts, CertificateFacts, Notarized, Nullified, Finalized, NotarizeVote, NullifyVote, FinalizeVote, Verdict, Accepted, artifact_facts, signature_in, notarization_facts, nullification_facts, finalization_facts}
use Rattle.simplex_types.specs.Encoding.{round_bytes, proposal_bytes, IsEncodableRound, EncodingTellsApart}
use Rattle.simplex_codec.specs.declared.error.DecodeError.{DecodeError}
use Rattle.simplex_codec.specs.declared.error.DecodeError.TheVariants.{OutOfMemory, TooShort, UnknownKind, UnreadablePayload, UnreadableCertificate, UnreadableSignature, UnknownVerdict, TrailingBytes}
use Rattle.simplex_codec.specs.Refusals.{IsEncodableProposal}
use Rattle.simplex_codec.specs.Artifacts.{artifact_bytes, IsEncodableArtifact, HasReadableSignature, IsProposalVoteRefusal, IsRoundVoteRefusal, IsVerdictRefusal, IsArtifactRefusal, ReadsArtifacts}
use Rattle.simplex_codec.proofs.Laws.{no_proposal_refusal, no_round_refusal, payload_at, numbers}

heads : (x y : ℕ) (xs ys : List ℕ) → x ∷ xs ≡ y ∷ ys → x ≡ y
heads x y xs ys same = ap (λ l. get_or l 0 x) same

pub signer_is : (m n : ℕ) (xs ys : List ℕ) → m < 2 ^ 32 → n < 2 ^ 32 → to_be_bytes w32 m ++ xs ≡ to_be_bytes w32 n ++ ys
    → m ≡ n
signer_is m n xs ys small small' same =
    let fronts : to_be_bytes w32 m ≡ to_be_bytes w32 n = ap (take 4) same in
    sym (from_be_bytes-to_be_bytes_4 m small) ∙ ap (from_be_bytes w32) fronts ∙ from_be_bytes-to_be_bytes_4 n small'

pub behind_signer : (m n : ℕ) (xs ys : List ℕ) → to_be_bytes w32 m ++ xs ≡ to_be_bytes w32 n ++ ys → xs ≡ ys
behind_signer m n xs ys same = ap (drop 4) same

abbrev verdict_byte : Bool → ℕ
verdict_byte b = if b then 1 else 0

same_verdict : (a b : Bool) → verdict_byte a ≡ verdict_byte b → a ≡ b
same_verdict true true same = refl
same_verdict true false same = absurd (omega (arith, same))
same_verdict false true same = absurd (omega (arith, same))
same_verdict false false same = refl

unread : {G : Type 0} (read : Option G) (s : G) → read ≡ Some s → read ≡ None → ⊥
unread read s some none = let crossed = sym some ∙ none in cc

read_alike : {G : Type 0} (s t : G) (read : List ℕ → Option G) (xs ys : List ℕ) → xs ≡ ys → read xs ≡ Some s
    → read ys ≡ Some t → s ≡ t
read_alike s t read xs ys same first second = let both = sym first ∙ ap read same ∙ second in cc

module _ {D C G : Type 0} (payload : D → List ℕ) (size : ℕ) (sized : (d : D) → length (payload d) ≡ size)
    (bytes_of : C → List ℕ) (apart : EncodingTellsApart payload) (signature_bytes : G → List ℕ)
    (signature_of : List ℕ → Option G) where
  -- a proposal and what follows it, separated as in a certificate
  replied_proposal : (p q : Proposal D) (xs ys : List ℕ) → IsEncodableProposal p → IsEncodableProposal q
      → proposal_bytes payload p ++ xs ≡ proposal_bytes payload q ++ ys → (p ≡ q) × (xs ≡ ys)
  replied_proposal p q xs ys fits fits' same =
      let one : ProposalFacts D = record { proposal = p; bytes = xs } in
      let other : ProposalFacts D = record { proposal = q; bytes = ys } in
      let replied : Notarized one ≡ Notarized other =
      apart (Notarized one) (Notarized other) fits fits' (ap (λ l. 0 ∷ l) same) in
      let facts : one ≡ other = cc in
      (ap (λ (f : ProposalFacts D). f.proposal) facts, ap (λ (f : ProposalFacts D). f.bytes) facts)

  replied_round : (r s : Round) (xs ys : List ℕ) → IsEncodableRound r → IsEncodableRound s
      → round_bytes r ++ xs ≡ round_bytes s ++ ys → (r ≡ s) × (xs ≡ ys)
  replied_round r s xs ys fits fits' same =
      let one : NullificationFacts = record { round = r; bytes = xs } in
      let other : NullificationFacts = record { round = s; bytes = ys } in
      let wrap : NullificationFacts → CertificateFacts D = λ f. Nullified f in
      let replied : wrap one ≡ wrap other = apart (Nullified one) (Nullified other) fits fits' (ap (λ l. 1 ∷ l) same) in
      let facts : one ≡ other = cc in
      (ap (λ (f : NullificationFacts). f.round) facts, ap (λ (f : NullificationFacts). f.bytes) facts)

  replied_proposal_vote : (m n : ℕ) (p q : Proposal D) (s t : G) → m < 2 ^ 32 → n < 2 ^ 32 → IsEncodableProposal p
      → IsEncodableProposal q → signature_of (signature_bytes s) ≡ Some s → signature_of (signature_bytes t) ≡ Some t
      → to_be_bytes w32 m ++ (proposal_bytes payload p ++ signature_bytes s) ≡ to_be_bytes w32 n
      ++ (proposal_bytes payload q ++ signature_bytes t) → (m ≡ n) × (p ≡ q) × (s ≡ t)
  replied_proposal_vote m n p q s t small small' fits fits' readable readable' same =
      let rest = behind_signer m n (proposal_bytes payload p ++ signature_bytes s)
      (proposal_bytes payload q ++ signature_bytes t) same in
      let replied = replied_proposal p q (signature_bytes s) (signature_bytes t) fits fits' rest in (
        signer_is m n (proposal_bytes payload p ++ signature_bytes s) (proposal_bytes payload q ++ signature_bytes t)
            small small' same,
        replied.0,
        read_alike s t signature_of (signature_bytes s) (signature_bytes t) replied.1 readable
            readable',
      )

  replied_round_vote : (m n : ℕ) (p q : Round) (s t : G) → m < 2 ^ 32 → n < 2 ^ 32 → IsEncodableRound p
      → IsEncodableRound q → signature_of (signature_bytes s) ≡ Some s → signature_of (signature_bytes t) ≡ Some t
      → to_be_bytes w32 m ++ (round_bytes p ++ signature_bytes s) ≡ to_be_bytes w32 n
      ++ (round_bytes q ++ signature_bytes t) → (m ≡ n) × (p ≡ q) × (s ≡ t)
  replied_round_vote m n p q s t small small' fits fits' readable readable' same =
      let rest = behind_signer m n (round_bytes p ++ signature_bytes s) (round_bytes q ++ signature_bytes t) same in
      let replied = replied_round p q (signature_bytes s) (signature_bytes t) fits fits' rest in (
        signer_is m n (round_bytes p ++ signature_bytes s) (round_bytes q ++ signature_bytes t) small small' same,
        replied.0,
        read_alike s t signature_of (signature_bytes s) (signature_bytes t) replied.1 readable readable',
      )

  no_proposal_vote_refusal : (signer : ℕ) (p : Proposal D) (s : G) → IsEncodableProposal p
      → signature_of (signature_bytes s) ≡ Some s → (error : DecodeError)
      → IsProposalVoteRefusal payload size signature_of
      (to_be_bytes w32 signer ++ (proposal_bytes payload p ++ signature_bytes s)) error → error ≡ OutOfMemory
  no_proposal_vote_refusal signer p s fits readable OutOfMemory refused = refl
  no_proposal_vote_refusal signer p s fits readable UnreadableSignature refused =
      let inner = refused.refused in
      let same = behind_signer signer refused.signer (proposal_bytes payload p ++ signature_bytes s) refused.rest
      refused.parts ∙ inner.parts in
      let replied = replied_proposal p inner.proposal (signature_bytes s) inner.own fits inner.fits same in
      absurd (unread (signature_of inner.own) s (ap signature_of (sym replied.1) ∙ readable) inner.unreadable)
  no_proposal_vote_refusal signer p s fits readable TooShort refused =
      absurd (omega (
        arith,
        refused,
        length-append (proposal_bytes payload p) (signature_bytes s),
        length-append (numbers payload size sized bytes_of apart p) (payload p.payload),
        sized p.payload,
      ))
  no_proposal_vote_refusal signer p s fits readable UnreadablePayload refused =
      absurd (refused.1 p.payload (sym (payload_at (round_bytes p.round ++ to_be_bytes w64 p.parent) (payload p.payload)
      (signature_bytes s) 24 size refl (sized p.payload))))
  no_proposal_vote_refusal signer p s fits readable UnreadableCertificate refused = absurd refused
  no_proposal_vote_refusal signer p s fits readable (UnknownKind k) refused = absurd refused
  no_proposal_vote_refusal signer p s fits readable (UnknownVerdict v) refused = absurd refused
  no_proposal_vote_refusal signer p s fits readable TrailingBytes refused = absurd refused

  no_round_vote_refusal : (signer : ℕ) (r : Round) (s : G) → IsEncodableRound r
      → signature_of (signature_bytes s) ≡ Some s → (error : DecodeError)
      → IsRoundVoteRefusal signature_of (to_be_bytes w32 signer ++ (round_bytes r ++ signature_bytes s)) error
      → error ≡ OutOfMemory
  no_round_vote_refusal signer r s fits readable OutOfMemory refused = refl
  no_round_vote_refusal signer r s fits readable UnreadableSignature refused =
      let inner = refused.refused in
      let same = behind_signer signer refused.signer (round_bytes r ++ signature_bytes s) refused.rest refused.parts
      ∙ inner.parts in
      let replied = replied_round r inner.round (signature_bytes s) inner.own fits inner.fits same in
      absurd (unread (signature_of inner.own) s (ap signature_of (sym replied.1) ∙ readable) inner.unreadable)
  no_round_vote_refusal signer r s fits readable TooShort refused = absurd (omega (arith, refused))
  no_round_vote_refusal signer r s fits readable UnreadablePayload refused = absurd refused
  no_round_vote_refusal signer r s fits readable UnreadableCertificate refused = absurd refused
  no_round_vote_refusal signer r s fits readable (UnknownKind k) refused = absurd refused
  no_round_vote_refusal signer r s fits readable (UnknownVerdict v) refused = absurd refused
  no_round_vote_refusal signer r s fits readable TrailingBytes refused = absurd refused

  small_verdict : (b : Bool) → verdict_byte b ≤ 1
  small_verdict true = omega arith
  small_verdict false = omega arith

  no_verdict_refusal : (r : Round) (b : Bool) (error : DecodeError)
      → IsVerdictRefusal (round_bytes r ++ (verdict_byte b ∷ [])) error → error ≡ OutOfMemory
  no_verdict_refusal r b OutOfMemory refused = refl
  no_verdict_refusal r b TooShort refused = absurd (omega (arith, refused))
  no_verdict_refusal r b (UnknownVerdict v) refused = absurd (omega (arith, refused.1, refused.2, small_verdict b))
  no_verdict_refusal r b TrailingBytes refused = absurd (omega (arith, refused.0))
  no_verdict_refusal r b UnreadablePayload refused = absurd refused
  no_verdict_refusal r b UnreadableCertificate refused = absurd refused
  no_verdict_refusal r b UnreadableSignature refused = absurd refused
  no_verdict_refusal r b (UnknownKind k) refused = absurd refused

  module _ {S K : Type 0} where
    abbrev spelling : Artifact S D K G C → List ℕ
    spelling a = artifact_bytes payload bytes_of signature_bytes a

    no_refusal : (a : Artifact S D K G C) → IsEncodableArtifact a → HasReadableSignature signature_bytes signature_of a
        → (error : DecodeError) → IsArtifactRefusal payload size bytes_of signature_of
        (artifact_bytes payload bytes_of signature_bytes a) error → error ≡ OutOfMemory
    no_refusal (artifact.Notarization n) fits readable error refused =
        no_proposal_refusal payload size sized bytes_of apart n.proposal n.certificate fits error refused
    no_refusal (artifact.Nullification n) fits readable error refused =
        no_round_refusal payload size sized bytes_of apart n.round n.certificate fits error refused
    no_refusal (artifact.Finalization f) fits readable error refused =
        no_proposal_refusal payload size sized bytes_of apart f.proposal f.certificate fits error refused
    no_refusal (artifact.Notarize vote) fits readable error refused =
        no_proposal_vote_refusal vote.signer vote.proposal vote.signature fits.0 readable error refused
    no_refusal (artifact.Nullify vote) fits readable error refused =
        no_round_vote_refusal vote.signer vote.round vote.signature fits.0 readable error refused
    no_refusal (artifact.Finalize vote) fits readable error refused =
        no_proposal_vote_refusal vote.signer vote.proposal vote.signature fits.0 readable error refused
    no_refusal (artifact.Certification round success) fits readable error refused =
        no_verdict_refusal round success error refused

    abbrev IsSame : Artifact S D K G C → Artifact S D K G C → Type 0
    IsSame b a = (artifact_facts bytes_of b ≡ artifact_facts bytes_of a) × (signature_in b ≡ signature_in a)

    replied : (b a : Artifact S D K G C) → IsEncodableArtifact b → IsEncodableArtifact a
        → HasReadableSignature signature_bytes signature_of b → HasReadableSignature signature_bytes signature_of a
        → artifact_bytes payload bytes_of signature_bytes b ≡ artifact_bytes payload bytes_of signature_bytes a
        → IsSame b a
    replied (artifact.Notarization n) (artifact.Notarization m) fits fits' readable readable' same = (
      ap Accepted (apart (Notarized (notarization_facts bytes_of n)) (Notarized (notarization_facts bytes_of m)) fits
          fits' same),
      refl,
    )
    replied (artifact.Notarization n) _ fits fits' readable readable' same = absurd (omega (arith, heads 0 _ _ _ same))
    replied (artifact.Nullification n) (artifact.Nullification m) fits fits' readable readable' same = (
      ap Accepted (apart (Nullified (nullification_facts bytes_of n)) (Nullified (nullification_facts bytes_of m))
          fits fits' same),
      refl,
    )
    replied (artifact.Nullification n) _ fits fits' readable readable' same = absurd (omega (arith, heads 1 _ _ _ same))
    replied (artifact.Finalization n) (artifact.Finalization m) fits fits' readable readable' same = (
      ap Accepted (apart (Finalized (finalization_facts bytes_of n)) (Finalized (finalization_facts bytes_of m)) fits
          fits' same),
      refl,
    )
    replied (artifact.Finalization n) _ fits fits' readable readable' same = absurd (omega (arith, heads 2 _ _ _ same))
    replied (artifact.Notarize v) (artifact.Notarize w) fits fits' readable readable' same =
        let t = replied_proposal_vote v.signer w.signer v.proposal w.proposal v.signature w.signature fits.1 fits'.1
        fits.0
        fits'.0 readable readable' (ap (drop 1) same) in
        (λ i. NotarizeVote (t.1 i) (t.0 i), ap Some t.2)
    replied (artifact.Notarize v) _ fits fits' readable readable' same = absurd (omega (arith, heads 3 _ _ _ same))
    replied (artifact.Nullify v) (artifact.Nullify w) fits fits' readable readable' same =
        let t = replied_round_vote v.signer w.signer v.round w.round v.signature w.signature fits.1 fits'.1 fits.0
        fits'.0
        readable readable' (ap (drop 1) same) in
        (λ i. NullifyVote (t.1 i) (t.0 i), ap Some t.2)
    replied (artifact.Nullify v) _ fits fits' readable readable' same = absurd (omega (arith, heads 4 _ _ _ same))
    replied (artifact.Finalize v) (artifact.Finalize w) fits fits' readable readable' same =
        let t = replied_proposal_vote v.signer w.signer v.proposal w.proposal v.signature w.signature fits.1 fits'.1
        fits.0
        fits'.0 readable readable' (ap (drop 1) same) in
        (λ i. FinalizeVote (t.1 i) (t.0 i), ap Some t.2)
    replied (artifact.Finalize v) _ fits fits' readable readable' same = absurd (omega (arith, heads 5 _ _ _ same))
    replied (artifact.Certification r b) (artifact.Certification s c) fits fits' readable readable' same =
        let t = replied_round r s (verdict_byte b ∷ []) (verdict_byte c ∷ []) fits fits' (ap (drop 1) same) in
        let verdicts = same_verdict b c (heads (verdict_byte b) (verdict_byte c) [] [] t.1) in
        (λ i. Verdict (t.0 i) (verdicts i), refl)
    replied (artifact.Certification r b) _ fits fits' readable readable' same = absurd
        (omega (arith, heads 6 _ _ _ same))

    pub reads_artifacts : (bytes : List ℕ) (result : Result (Artifact S D K G C) DecodeError)
        → IfOk result (λ b. artifact_bytes payload bytes_of signature_bytes b ≡ bytes) → IfOk result IsEncodableArtifact
        → IfOk result (HasReadableSignature signature_bytes signature_of)
        → IfErr result (IsArtifactRefusal payload size bytes_of signature_of bytes)
        → ReadsArtifacts payload bytes_of signature_bytes signature_of bytes result
    reads_artifacts bytes (Ok b) decoded fits readable refused a fits' readable' same =
        (replied b a fits fits' readable readable' (decoded ∙ sym same), tt)
    reads_artifacts bytes (Err error) decoded fits readable refused a fits' readable' same = (
      tt,
      no_refusal a fits' readable' error
          (subst (λ l. IsArtifactRefusal payload size bytes_of signature_of l error) (sym same) refused),
    )
