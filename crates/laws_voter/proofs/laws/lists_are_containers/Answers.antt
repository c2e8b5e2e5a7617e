-- a finite map by its entries
use Rattle.std.specs.FinMap as fin
use Rattle.simplex_voter.proofs.Containers.{entries-insert, entries-kept, keys-insert}
use Rattle.laws_voter.proofs.laws.lists_are_containers.Goals as goal

pub returns : goal.returns
returns g c = record { looked_up = fin.get-entries; put_in = entries-insert; kept = entries-kept; noted = keys-insert }
