-- Certificates that are made of the signatures of a quorum, and why they are valid.
use Rattle.std.specs.Prelude.{◌≡◌, ℕ, ◌+◌, ◌&&◌, List, [], ◌∷◌, map, length, true, nat_le, nat_lt}
use Rattle.std.specs.Cmp.Derive.{both_true}
use Rattle.std.proofs.Common.{ap, refl, sym, ◌∙◌}
use Rattle.std.proofs.Math.Nat.{le_of_eq}
use Rattle.std.proofs.lemmas.Bool.{le-leb, lt-ltb}
use Rattle.std.proofs.lemmas.List.{length-map}
use Rattle.simplex_types.specs.declared.types.messages.Subject.{Subject}
use Rattle.simplex_types.specs.Quorums.{quorum_of, AreRising, IsSignedByQuorum}
use Rattle.example_engine.specs.declared.digest.BlockDigest.{BlockDigest}
use Rattle.example_engine.specs.declared.scheme.Signature.{Signature}
use Rattle.example_engine.specs.declared.scheme.Seal.{Seal}
use Rattle.example_engine.specs.declared.scheme.SealScheme.{SealScheme}
use Rattle.example_engine.specs.MemberIndexes.{are_members}
use Rattle.example_engine.specs.Seals.{seal_keys, seal_bytes, is_good, IsSignature}

-- the signers
abbrev pub signers_of : List (ℕ × Signature) → List ℕ
signers_of signatures = map (λ signed. signed.0) signatures

-- the certificate names exactly the signers
abbrev pub IsSealOf : List (ℕ × Signature) → Seal → Type 0
IsSealOf signatures seal = seal_bytes seal ≡ signers_of signatures

-- rising members pass the check of certificates
rising_members : (members lowest : ℕ) (signatures : List (ℕ × Signature)) → AreRising members lowest signatures
    → are_members members lowest (signers_of signatures) ≡ true
rising_members members lowest [] rising = refl
rising_members members lowest (signed ∷ rest) rising =
    both_true (both_true (le-leb lowest signed.0 rising.0) (lt-ltb signed.0 members rising.1))
    (rising_members members (signed.0 + 1) rest rising.2)

-- the signers of a quorum make a valid certificate
pub made_is_good : (s : SealScheme) (subject : Subject BlockDigest) (signatures : List (ℕ × Signature)) (seal : Seal)
    → IsSignedByQuorum IsSignature (seal_keys s) subject signatures → IsSealOf signatures seal → is_good s seal ≡ true
made_is_good s subject signatures seal signed made =
    let members = length (seal_keys s) in
    let some = lt-ltb 0 members s.has_members in
    let counted : length (signers_of signatures) ≡ quorum_of members =
    length-map signatures (λ one. one.0) ∙ signed.quorum in
    let enough = le-leb (quorum_of members) (length (signers_of signatures)) (le_of_eq (sym counted)) in
    ap (λ signers. nat_lt 0 members && nat_le (quorum_of members) (length signers) && are_members members 0 signers)
    made
    ∙ both_true (both_true some enough) (rising_members members 0 signatures signed.rising)
