-- How the contract of `contradictions_need_faults` follows: both quorums of a contradiction have a member that broke a
-- rule, so it is faulty.
use Rattle.laws_safety.proofs.agreement.Accountability.{need_faults, traced_in_networks}
use Rattle.laws_safety.proofs.laws.contradictions.contradictions_need_faults.Goals as goal

pub returns : goal.returns
returns g c = record {
  faulty = need_faults g.D.PartialEq.eq g.met.D.Digest.equal_is_same g.met.D.Digest.same_is_equal g.L.Elector.elect;
  traced = traced_in_networks g.D.PartialEq.eq g.met.D.Digest.equal_is_same g.met.D.Digest.same_is_equal
      g.L.Elector.elect;
}
