-- How the contract of `covering_nullification` follows: there is a covering entry exactly where the view is covered.
use Rattle.std.proofs.Common.{◌∙◌, ap, is_some}
use Rattle.simplex_resolver.proofs.Maps.{some_covering}
use Rattle.simplex_resolver.proofs.resolver.scan.covering_nullification.Goals as goal

pub returns-in-Some-clause-found : goal.returns-in-Some-clause-found
returns-in-Some-clause-found c = ap is_some c.in-Some.ensures ∙ some_covering c.args.nullifications.now c.args.view

pub returns-in-None-clause-found : goal.returns-in-None-clause-found
returns-in-None-clause-found c = ap is_some c.in-None.ensures ∙ some_covering c.args.nullifications.now c.args.view
