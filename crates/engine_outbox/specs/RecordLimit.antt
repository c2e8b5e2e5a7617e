-- When a record is so long that it is pruned.
use Rattle.std.specs.Prelude.{ℕ, Bool, false, ◌&&◌, nat_lt, length}
use Rattle.std.specs.Option.{option_map_or}
use Rattle.engine_outbox.specs.declared.journaled.Journaled.{Journaled}
use Rattle.engine_outbox.specs.RecordReach.{is_far_below, lowest_retained_after}

module _ {S L D K G C : Type 0} where
  -- the member has not failed, its record has more entries than this, and a pruning would drop more of its views than
  -- it retains
  abbrev pub is_record_too_long : ℕ → Journaled S L D K G C → Bool
  is_record_too_long long member =
      option_map_or
      (λ x. nat_lt long (length member.member.facts.entries)
      && is_far_below member.reach (lowest_retained_after member.member.facts x) x.current)
      member.member.facts.life false
