-- How the contract of `resume` follows: its input is read from the journal, and fewer entries than were closed are lost
-- ones.
use Rattle.std.proofs.Common.{inr}
use Rattle.ffi_member.proofs.Items.{fewer_than_closed}
use Rattle.ffi_member.proofs.held.Held.resume.Goals as goal

pub returns-in-Ok-clause-resumed : goal.returns-in-Ok-clause-resumed
returns-in-Ok-clause-resumed c =
    let from = c.in_ok-from.from in record {
      start = from.start;
      stored = from.stored;
      entries = from.entries.items;
      from = c.in_ok-from.ensures.from;
      whole = c.in_ok-from.ensures.whole;
      resumed = rw c.new.ensures.member c.in-Ok.ensures.resumed;
      votes = rw c.new.ensures.member c.in-Ok.ensures.votes;
      fresh = c.new.ensures.fresh;
    }

pub returns-in-EntriesLost-clause-refused : goal.returns-in-EntriesLost-clause-refused
returns-in-EntriesLost-clause-refused c =
    let from = c.in_ok-from.from in record {
      entries = from.entries.items;
      read = c.in_ok-from.ensures.from.read;
      fewer = inr (fewer_than_closed _ from.stored _ c.in_ok-from.ensures.from.stored_so
          (rw c.in-EntriesLost.is at c.in-Err.ensures.refused));
    }

pub returns-clause-refused : goal.returns-clause-refused
returns-clause-refused c =
    let from = c.in_ok-from.from in record {
      start = from.start;
      stored = from.stored;
      entries = from.entries.items;
      from = c.in_ok-from.ensures.from;
      refused = rw c.in-Recover.is at c.in-Err.ensures.refused;
    }
