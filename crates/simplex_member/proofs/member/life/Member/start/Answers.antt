-- How the contract of `start` follows: after a floor the state has started and not failed, and its finalization is the
-- record.
use Rattle.std.proofs.Common.{refl}
use Rattle.simplex_types.specs.Config.{floor_facts}
use Rattle.simplex_record.specs.Start.{set_up}
use Rattle.simplex_record.proofs.UnchangedSettings.{floor_goes}
use Rattle.simplex_member.proofs.member.life.Member.start.Goals as goal

pub invariant_of-result : goal.invariant_of-result
invariant_of-result g c =
    let x = set_up g.S.CertificateScheme.me g.S.CertificateScheme.participants g.L.Elector.terms
    g.L.Elector.elects_early c.args.start.settings in
    λ _. rw c.in_ok-state.ensures.begun (floor_goes g.D.PartialEq.eq g.L.Elector.elect x
    (floor_facts g.S.CertificateScheme.certificate_bytes c.args.start.floor) c.args.start.now refl)

pub returns-clause-started : goal.returns-clause-started
returns-clause-started g c =
    rw (
      c.in_ok-state.ensures.begun,
      c.retention_of-retention.ensures,
      c.in_ok-store_finalization.ensures.kept,
      c.in_ok-state.ensures.floor,
      c.new-artifacts.ensures.items,
      c.new.ensures,
    ) refl
