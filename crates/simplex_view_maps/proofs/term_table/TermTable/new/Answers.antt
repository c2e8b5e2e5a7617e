-- How the contract of `new` follows: no terms have no views.
use Rattle.simplex_view_maps.proofs.TermLists.{none_by_term, none_joined}
use Rattle.simplex_view_maps.proofs.Terms.{alike}
use Rattle.simplex_view_maps.proofs.term_table.TermTable.new.Goals as goal

pub invariant_of-result : goal.invariant_of-result
invariant_of-result g c = rw c.new.ensures (none_by_term _ c.args.term_length)

pub returns : goal.returns
returns g c = alike c.args.term_length (rw c.new.ensures none_joined)
