-- How a member starts, with an empty record.
use Rattle.std.specs.Prelude.{ℕ, Bool, false, [], Some}
use Rattle.simplex_types.specs.Config.{FloorFacts}
use Rattle.simplex_voter.specs.Facts.{StateFacts, Elect}
use Rattle.simplex_voter.specs.Acceptance.{after_set_floor}
use Rattle.simplex_record.specs.Recovery.{with_floor}
use Rattle.simplex_member.specs.OutstandingWork.{no_outstanding_work}
use Rattle.simplex_member.specs.MemberFacts.{MemberFacts}

-- a member whose state sets the floor, and whose record is the floor's finalization
abbrev pub started_member : {K L D : Type 0} → (D → D → Bool) → Elect L → StateFacts K L D → FloorFacts D → ℕ
    → MemberFacts K L D
started_member same elect x floor now = record {
  life = Some (after_set_floor same elect x floor now);
  outstanding_work = no_outstanding_work;
  entries = with_floor [] floor;
  closed = 0;
  is_pruned = false;
  retention = x.settings.view_retention;
  least_retention = x.settings.view_retention;
}
