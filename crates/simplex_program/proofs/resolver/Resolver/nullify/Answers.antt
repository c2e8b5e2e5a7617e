-- How the contract of `nullify` follows: the nullification's call is of the line's view.
use Rattle.std.proofs.Common.{◌∙◌, rules}
use Rattle.simplex_program.proofs.Reported.{reported, same_nullification}
use Rattle.simplex_program.proofs.resolver.Resolver.nullify.Goals as goal

pub returns-in-Ok : goal.returns-in-Ok
returns-in-Ok c =
    reported c.apply.result _ _ _ _ c.args.view _ _ _ (search rules)
    (same_nullification c.args.view _ _ c.nullification_of.ensures.round c.nullification_of.ensures.good)
    c.in-Ok.ensures.accepted.0 c.in-Ok.ensures.effects (c.apply.ensures.state ∙ c.in-Ok.ensures.after)
    c.apply.ensures.answer c.apply.ensures.applied
