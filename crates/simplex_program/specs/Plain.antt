-- How the plain parts compare payloads, elect and encode certificates, and the epoch of all lines.
use Rattle.std.specs.Prelude.{ℕ, Bool, List, [], ◌∷◌, Option, if◌then◌else◌}
use Rattle.std.specs.Str.{bytes_eq}
use Rattle.simplex_types.specs.declared.types.numbers.Round.{Round}
use Rattle.simplex_types.specs.declared.types.plain.PlainCertificate.{PlainCertificate}
use Rattle.simplex_types.specs.declared.types.plain.PlainDigest.{PlainDigest}
use Rattle.simplex_types.specs.declared.types.plain.PlainElector.{PlainElector}
use Rattle.simplex_types.specs.declared.types.plain.PlainKey.{PlainKey}
use Rattle.simplex_types.specs.Plain.{digest_bytes, leader_in_turn}
use Rattle.simplex_member.specs.Calls.{CallFacts}
use Rattle.simplex_member.specs.MemberFacts.{MemberFacts}

-- two payloads have the same bytes
abbrev pub same_payload : PlainDigest → PlainDigest → Bool
same_payload d e = bytes_eq (digest_bytes d) (digest_bytes e)

-- members lead round-robin, a term each
abbrev pub plain_leader : PlainElector → Round → Option (List ℕ) → ℕ
plain_leader e round seed = leader_in_turn e round.view

-- the one byte of a plain certificate
abbrev pub plain_bytes : PlainCertificate → List ℕ
plain_bytes c = (if c.good then 1 else 0) ∷ []

-- a view of epoch 1, as lines name it
abbrev pub round_in_epoch : ℕ → Round
round_in_epoch v = record { epoch = 1; view = v }

-- a member of plain parts
abbrev pub PlainMember : Type 0
PlainMember = MemberFacts PlainKey PlainElector PlainDigest

-- a call of one
abbrev pub PlainCall : Type 0
PlainCall = CallFacts PlainDigest
