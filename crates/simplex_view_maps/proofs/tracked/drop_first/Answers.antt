-- How the contract of `drop_first` follows: one entry more is dropped each time.
use Rattle.std.proofs.Common.{◌∙◌, ap, drop}
use Rattle.std.proofs.lemmas.List.{drop-drop}
use Rattle.simplex_view_maps.proofs.tracked.drop_first.Goals as goal

pub loop-preserved : goal.loop-preserved
loop-preserved g c = c.drop_front.ensures ∙ ap (drop 1) c.loop.invariant ∙ drop-drop 1 c.loop.counter c.args.entries.now
