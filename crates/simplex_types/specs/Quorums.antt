-- Signatures of different members on one subject, from which a certificate is made.
use Rattle.std.specs.Prelude.{◌≡◌, ℕ, ◌+◌, ◌-◌, ◌/◌, ◌<◌, ◌≤◌, List, [], ◌∷◌, length, slice_get, Some}
use Rattle.simplex_types.specs.declared.types.messages.Subject.{Subject}

-- all of this many members except the faulty ones, which are fewer than a third
abbrev pub quorum_of : ℕ → ℕ
quorum_of members = members - (members - 1) / 3

-- members by rising index, the first at or above `lowest`, each below the number of members
abbrev pub AreRising : {G : Type 0} → ℕ → ℕ → List (ℕ × G) → Type 0
AreRising members lowest [] = Unit {0}
AreRising members lowest (signed ∷ rest) =
    (lowest ≤ signed.0) × (signed.0 < members) × AreRising members (signed.0 + 1) rest

-- each is one on the subject under its member's key
abbrev pub AreSigned : {K D G : Type 0} → (K → Subject D → G → Type 0) → List K → Subject D → List (ℕ × G) → Type 0
AreSigned is_signature keys subject [] = Unit {0}
AreSigned {K} is_signature keys subject (signed ∷ rest) =
    ((key : K) × (slice_get keys signed.0 ≡ Some key) × is_signature key subject signed.1)
    × AreSigned is_signature keys subject rest

-- valid signatures of exactly a quorum of members on the subject
pub record IsSignedByQuorum {K D G : Type 0} (is_signature : K → Subject D → G → Type 0)
    (keys : List K) (subject : Subject D) (signatures : List (ℕ × G)) : Type 0 where
  pub quorum : length signatures ≡ quorum_of (length keys)
  pub rising : AreRising (length keys) 0 signatures
  pub signed : AreSigned is_signature keys subject signatures
