-- For `Journaled::is_record_too_long`.
-- Where a record is not overgrown, it is short.
use Rattle.std.proofs.Common.{◌≡◌, ◌≤◌, ◌<◌, ℕ, true, false, ◌&&◌, nat_lt, length, Some, ap, arith}
use Rattle.std.proofs.lemmas.Bool.Decides.{nat_tests}
use Rattle.std.specs.Option.{option_map_or}
use Rattle.simplex_voter.specs.Facts.{StateFacts}
use Rattle.engine_outbox.specs.declared.journaled.Journaled.{Journaled}
use Rattle.engine_outbox.specs.RecordLimit.{is_record_too_long}
use Rattle.engine_outbox.specs.RecordReach.{ReachesTo, IsShort, is_far_below, lowest_retained_after}
use Rattle.engine_outbox.proofs.RecordReach.{short_by, while_alive}

pub passes : (a b : ℕ) → a < b → nat_lt a b ≡ true
passes a b less = grind (arith, nat_tests)

pub fails : (a b : ℕ) → b ≤ a → nat_lt a b ≡ false
fails a b most = grind (arith, nat_tests)

module _ {S L D K G C : Type 0} (long : ℕ) (member : Journaled S L D K G C) where
  pub overgrown_by : (x : StateFacts K L D) → Some x ≡ member.member.facts.life
      → (nat_lt long (length member.member.facts.entries) && is_far_below member.reach
      (lowest_retained_after member.member.facts x) x.current) ≡ is_record_too_long long member
  overgrown_by x alive =
      ap (λ life. option_map_or
      (λ (x : StateFacts K L D). nat_lt long (length member.member.facts.entries) && is_far_below member.reach
      (lowest_retained_after member.member.facts x) x.current) life false) alive

  pub short_where : is_record_too_long long member ≡ false
      → ReachesTo member.reach member.stored member.member.facts.entries
      → length member.member.facts.entries ≤ member.stored
      → IsShort long member.member.facts
  short_where is reaches whole =
      while_alive member.member.facts.life _ _
      (λ x. short_by long member.reach member.stored (lowest_retained_after member.member.facts x) x.current
      member.member.facts.entries reaches whole) is
