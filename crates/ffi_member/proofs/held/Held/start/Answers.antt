-- How the contract of `start` follows: the flat settings are those that the member starts by, or is refused for.
use Rattle.ffi_member.proofs.held.Held.start.Goals as goal

pub returns-in-Ok-start-clause-started : goal.returns-in-Ok-start-clause-started
returns-in-Ok-start-clause-started c = record {
  start = c.in-Ok.start;
  by = c.in-Ok.ensures.made;
  accepted = c.in-Ok-start.ensures.accepted;
  facts = rw c.new.ensures.member c.in-Ok-start.ensures.started;
  votes = rw c.new.ensures.member c.in-Ok-start.ensures.votes;
  fresh = c.new.ensures.fresh;
}

pub returns-in-Err-start-clause-refused : goal.returns-in-Err-start-clause-refused
returns-in-Err-start-clause-refused c = (c.in-Ok.start, c.in-Ok.ensures.made, c.in-Err-start.ensures.refused)
