-- The certificates that a state tracks, and those that count as broadcast.
use Rattle.std.specs.Prelude.{◌≡◌, ℕ, Bool, ◌||◌, Option, is_some, option_map}
use Rattle.simplex_types.specs.Certificates.{CertificateFacts, Notarized, Nullified, Finalized}
use Rattle.simplex_types.specs.declared.types.numbers.Round.{Round}
use Rattle.simplex_round.specs.Round.{RoundFacts, is_certified}
use Rattle.simplex_voter.specs.Facts.{StateFacts, round_of}
use Rattle.simplex_record.specs.Entries.{certificate_round}
use Rattle.laws_safety.specs.LifetimeLaws.{KindOfCertificate, Notarization, Nullification, Finalization, kind_of_certificate}

module _ {K D : Type 0} where
  -- the certificate of a kind that a member holds of a view
  abbrev pub certificate_of : KindOfCertificate → RoundFacts K D → Option (CertificateFacts D)
  certificate_of Notarization r = option_map Notarized r.notarization
  certificate_of Nullification r = option_map Nullified r.nullification
  certificate_of Finalization r = option_map Finalized r.finalization

  -- it counts as broadcast
  abbrev pub is_broadcast : KindOfCertificate → RoundFacts K D → Bool
  is_broadcast Notarization r = r.notarization_broadcast
  is_broadcast Nullification r = r.nullification_broadcast
  is_broadcast Finalization r = r.finalization_broadcast

module _ {K L D : Type 0} where
  -- the state tracks a certificate of this kind and view
  abbrev pub tracks : KindOfCertificate → StateFacts K L D → ℕ → Bool
  tracks kind x v = is_some (certificate_of kind (round_of x v))

  -- it does, or one counts as broadcast
  abbrev pub has_had : KindOfCertificate → StateFacts K L D → ℕ → Bool
  has_had kind x v = tracks kind x v || is_broadcast kind (round_of x v)

  -- the view has a true verdict
  abbrev pub has_certified : StateFacts K L D → ℕ → Bool
  has_certified x v = is_certified (round_of x v).certification

-- the certificate is of this kind and round
abbrev pub IsOf : {D : Type 0} → KindOfCertificate → Round → CertificateFacts D → Type 0
IsOf kind round c = (kind_of_certificate c ≡ kind) × (certificate_round c ≡ round)
