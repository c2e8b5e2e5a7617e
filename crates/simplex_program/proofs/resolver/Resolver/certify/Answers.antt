-- How the contract of `certify` follows: the verdict's call is of the proposal of the line's view.
use Rattle.std.proofs.Common.{◌∙◌}
use Rattle.simplex_program.proofs.Reported.{reported, same_verdict}
use Rattle.simplex_program.proofs.resolver.Resolver.certify.Goals as goal

pub returns-in-Ok : goal.returns-in-Ok
returns-in-Ok c =
    let at = c.in-Some.ensures.0 in
    reported c.apply.result _ _ _ _ _ _ _ _ at.above (same_verdict _ c.args.success _ _ at c.in-Some.ensures.1)
    c.in-Ok.ensures.accepted.0 c.in-Ok.ensures.effects (c.apply.ensures.state ∙ c.in-Ok.ensures.after)
    c.apply.ensures.answer c.apply.ensures.applied
