-- How the contract of `add` follows: a copy has the facts of the certificate, so its effect on the state is the same.
use Rattle.std.proofs.Common.{ap, ◌∙◌}
use Rattle.simplex_voter.specs.Acceptance.{after_add_notarization, after_add_nullification, after_add_finalization}
use Rattle.simplex_record.proofs.record.recovery.add.Goals as goal

pub returns-in-Ok-add_notarization-clause-after : goal.returns-in-Ok-add_notarization-clause-after
returns-in-Ok-add_notarization-clause-after g c =
    rw c.in-Notarization.is (c.in-Ok-add_notarization.ensures.after
    ∙ ap (after_add_notarization g.D.PartialEq.eq g.L.Elector.elect c.args.state.now) c.in-Ok.ensures.same)

pub returns-in-Ok-add_nullification-clause-after : goal.returns-in-Ok-add_nullification-clause-after
returns-in-Ok-add_nullification-clause-after g c =
    rw c.in-Nullification.is (c.in-Ok-add_nullification.ensures.after
    ∙ ap (λ n. after_add_nullification g.L.Elector.elect c.args.state.now n c.args.now) c.in-Ok-clone.ensures.same)

pub returns-in-Ok-add_finalization-clause-after : goal.returns-in-Ok-add_finalization-clause-after
returns-in-Ok-add_finalization-clause-after g c =
    rw c.in-Finalization.is (c.in-Ok-add_finalization.ensures.after
    ∙ ap (λ f. after_add_finalization g.D.PartialEq.eq g.L.Elector.elect c.args.state.now f c.args.now)
    c.in-Ok-clone-2.ensures.same)
