-- A plain signature is read back of its bytes.
use Rattle.std.proofs.Common.{◌≡◌, ℕ, ◌<◌, ◌^◌, false, if◌then◌else◌, List, [], ◌++◌, length, take, drop, Option, Some, None, refl, ap, ◌∙◌, arith}
use Rattle.std.specs.Prelude.{nat_lt, option_map}
use Rattle.std.proofs.lemmas.Bool.{le-ltb}
use Rattle.std.specs.Int.{w32, w64, to_be_bytes, from_be_bytes}
use native.Mathlib.Decide.{ℕ_discrete}
use Rattle.std.proofs.lemmas.Nat.{from_be_bytes-to_be_bytes_4, from_be_bytes-to_be_bytes_8}
use Rattle.simplex_types.specs.declared.types.numbers.Round.{Round}
use Rattle.simplex_types.specs.declared.types.messages.Proposal.{Proposal}
use Rattle.simplex_types.specs.declared.types.messages.Subject.{Subject}
use Rattle.simplex_types.specs.declared.types.messages.Subject.TheVariants as subject
use Rattle.simplex_types.specs.declared.types.plain.PlainDigest.{PlainDigest}
use Rattle.simplex_types.specs.declared.types.plain.PlainSignature.{PlainSignature}
use Rattle.simplex_types.specs.Encoding.{round_bytes, proposal_bytes, subject_bytes, IsEncodableRound}
use Rattle.simplex_types.specs.Plain.{digest_bytes, same_digest}
use Rattle.simplex_codec.specs.Decoded.{NoneHas}
use Rattle.simplex_codec.specs.Refusals.{IsEncodableProposal, IsEncodableSubject}
use Rattle.simplex_codec.specs.Plain.{plain_signature_bytes, digest_if, plain_digest_of, number_at, front_round, plain_round_of, plain_proposal_of, plain_subject_of, plain_signature_of}

round_at : (r : Round) (behind : List ℕ) → IsEncodableRound r → front_round (round_bytes r ++ behind) ≡ r
round_at r behind fits = λ i.
    record { epoch = from_be_bytes-to_be_bytes_8 r.epoch fits.0 i; view = from_be_bytes-to_be_bytes_8 r.view fits.1 i }

pub round_back : (r : Round) → IsEncodableRound r → plain_round_of (round_bytes r) ≡ Some r
round_back r fits = ap Some (round_at r [] fits)

sized_back : (d : PlainDigest) (test : Dec (length d.bytes ≡ 8)) → digest_if d.bytes test ≡ Some d
sized_back d (yes sized) = ap Some (same_digest (record { bytes = d.bytes; sized = sized }) d refl)
sized_back d (no other) = absurd (other d.sized)

unsized_none : (bytes : List ℕ) (test : Dec (length bytes ≡ 8)) → NoneHas digest_bytes bytes
    → digest_if bytes test ≡ None
unsized_none bytes (yes sized) none = absurd (none (record { bytes = bytes; sized = sized }) refl)
unsized_none bytes (no _) none = refl

digest_back : (d : PlainDigest) → plain_digest_of d.bytes ≡ Some d
digest_back d = sized_back d (ℕ_discrete (length d.bytes) 8)

digest_none : (bytes : List ℕ) → NoneHas digest_bytes bytes → plain_digest_of bytes ≡ None
digest_none bytes none = unsized_none bytes (ℕ_discrete (length bytes) 8) none

-- the proposal of these bytes and a payload
abbrev proposal_with : List ℕ → PlainDigest → Proposal PlainDigest
proposal_with bytes payload = record { round = front_round bytes; parent = number_at 16 bytes; payload = payload }

proposal_at : (p : Proposal PlainDigest) → IsEncodableProposal p
    → proposal_with (proposal_bytes digest_bytes p) p.payload ≡ p
proposal_at p fits = λ i. record {
  round = round_at p.round (to_be_bytes w64 p.parent ++ p.payload.bytes) fits.0 i;
  parent = from_be_bytes-to_be_bytes_8 p.parent fits.1 i;
  payload = p.payload;
}

pub proposal_back : (p : Proposal PlainDigest) → IsEncodableProposal p
    → plain_proposal_of (proposal_bytes digest_bytes p) ≡ Some p
proposal_back p fits = ap (option_map (proposal_with (proposal_bytes digest_bytes p))) (digest_back p.payload)
    ∙ ap Some (proposal_at p fits)

pub proposal_none : (bytes : List ℕ) → NoneHas digest_bytes (drop 24 bytes) → plain_proposal_of bytes ≡ None
proposal_none bytes none = ap (option_map (proposal_with bytes)) (digest_none (drop 24 bytes) none)

pub subject_back : (s : Subject PlainDigest) → IsEncodableSubject s
    → plain_subject_of (subject_bytes digest_bytes s) ≡ Some s
subject_back (subject.Notarize p) fits = ap (option_map (λ p. subject.Notarize p)) (proposal_back p fits)
subject_back (subject.Nullify r) fits = ap (option_map (λ r. subject.Nullify r)) (round_back r fits)
subject_back (subject.Finalize p) fits = ap (option_map (λ p. subject.Finalize p)) (proposal_back p fits)

abbrev read_signature : ℕ → Option (Subject PlainDigest) → Option PlainSignature
read_signature number read = option_map (λ s. record { key = record { 0 = number }; subject = s }) read

pub signature_back : (s : PlainSignature) → s.key.0 < 2 ^ 32 → IsEncodableSubject s.subject
    → plain_signature_of (plain_signature_bytes s) ≡ Some s
signature_back s small fits =
    let bytes = plain_signature_bytes s in
    let text = subject_bytes digest_bytes s.subject in
    let long : nat_lt (length bytes) 4 ≡ false = le-ltb (length bytes) 4 (omega arith) in
    ap (λ short. if short then None else read_signature (from_be_bytes w32 (take 4 bytes))
    (plain_subject_of (drop 4 bytes))) long
    ∙ ap (λ number. read_signature number (plain_subject_of text)) (from_be_bytes-to_be_bytes_4 s.key.0 small)
    ∙ ap (read_signature s.key.0) (subject_back s.subject fits)
