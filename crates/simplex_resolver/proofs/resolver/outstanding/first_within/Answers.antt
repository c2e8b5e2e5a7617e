-- How the contract of `first_within` follows: the first view that the range yields is the lowest one in it.
use Rattle.std.proofs.Common.{slice_get, ◌∙◌, ap}
use Rattle.std.proofs.lemmas.List.Elements.{filter_agree}
use Rattle.simplex_resolver.proofs.Ranges.{within, first_is}
use Rattle.simplex_resolver.proofs.resolver.outstanding.first_within.Goals as goal

pub returns : goal.returns
returns c =
    c.copied.ensures ∙ first_is c.next.result c.range.result c.next.new.self c.next.ensures.steps
    ∙ ap (λ vs. slice_get vs 0) (c.range.ensures.between c.new.ensures.exhausted
    ∙ rw (c.new.ensures.start, c.new.ensures.end)
    (filter_agree _ _ (within c.args.start c.args.end) c.args.views.now.keys))
