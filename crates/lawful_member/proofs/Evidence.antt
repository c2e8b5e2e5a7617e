-- For `is_evidence`.
-- Who signed two votes that are evidence broke a rule.
use Rattle.std.proofs.Common.{ℕ, Option, Some, None}
use Rattle.simplex_types.specs.declared.types.messages.Subject.{Subject}
use Rattle.laws_safety.proofs.agreement.Accountability.{evidence_holds}
use Rattle.lawful_member.specs.Evidence.{AreEvidence, ShowsABrokenRule}

pub evidence_shows : {D : Type 0} (v w : Option (ℕ × Subject D)) → AreEvidence v w → ShowsABrokenRule v w
evidence_shows (Some a) (Some b) are = λ term_length trace has_a has_b lawful.
    evidence_holds term_length trace a.1 b.1 are.2 has_a has_b lawful
evidence_shows (Some a) None are = are
evidence_shows None w are = are
