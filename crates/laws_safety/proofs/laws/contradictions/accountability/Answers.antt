-- two quorums share n - 2f members
use Rattle.laws_safety.proofs.agreement.Accountability.{answered_for, traced_to_guilt, third_is_another, broken_rules, evidence_holds, nearest_is_evidence}
use Rattle.laws_safety.proofs.laws.contradictions.accountability.Goals as goal

pub returns-clause-answered : goal.returns-clause-answered
returns-clause-answered g c = answered_for g.D.PartialEq.eq g.met.D.Digest.equal_is_same g.met.D.Digest.same_is_equal

pub returns-clause-traced : goal.returns-clause-traced
returns-clause-traced g c = traced_to_guilt g.D.PartialEq.eq g.met.D.Digest.equal_is_same g.met.D.Digest.same_is_equal

pub returns-clause-broken : goal.returns-clause-broken
returns-clause-broken g c = broken_rules

pub returns-clause-evidence : goal.returns-clause-evidence
returns-clause-evidence g c = evidence_holds

pub returns-clause-nearest : goal.returns-clause-nearest
returns-clause-nearest g c = nearest_is_evidence

pub returns-clause-third : goal.returns-clause-third
returns-clause-third g c = third_is_another
