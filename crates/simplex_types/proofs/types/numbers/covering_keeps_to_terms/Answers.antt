-- How the contract of `covering_keeps_to_terms` follows: covering ends with the view's term, and begins with the view
-- itself.
use Rattle.simplex_types.proofs.Covers.{covering_laws}
use Rattle.simplex_types.proofs.types.numbers.covering_keeps_to_terms.Goals as goal

pub returns : goal.returns
returns c = covering_laws
