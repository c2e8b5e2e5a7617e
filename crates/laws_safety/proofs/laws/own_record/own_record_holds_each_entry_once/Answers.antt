-- How the contract of `own_record_holds_each_entry_once` follows: the state shows each entry, and what it shows is not
-- recorded again.
use Rattle.laws_safety.proofs.own_records.OwnEntries.{own_entries_once}
use Rattle.laws_safety.proofs.laws.own_record.own_record_holds_each_entry_once.Goals as goal

pub returns : goal.returns
returns g c term_length start steps replies end begins fresh run =
    own_entries_once g.D.PartialEq.eq g.met.D.Digest.equal_is_same g.L.Elector.elect term_length start steps replies end
    begins fresh run
