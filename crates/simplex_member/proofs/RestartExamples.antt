-- Restarts by the definitions, of member 0 of the recoveries' examples, whose lifetimes retain 10 views unless said.
use Rattle.std.proofs.Common.{◌≡◌, refl, ℕ, true, false, List, [], ◌∷◌, Some, None, nat_eq, is_some}
use Rattle.simplex_types.specs.Config.{Genesis}
use Rattle.simplex_voter.specs.Facts.{StateFacts, new_facts}
use Rattle.simplex_voter.specs.Windows.{min_active}
use Rattle.simplex_voter.specs.StateAnswers.{notarization_of, prune_answer, after_prune}
use Rattle.simplex_member.specs.OutstandingWork.{no_outstanding_work}
use Rattle.simplex_record.specs.Cuts.{may_drop, pruned_entries}
use Rattle.simplex_member.specs.Journal.{has_lost}
use Rattle.simplex_member.specs.MemberFacts.{MemberFacts}
use Rattle.simplex_record.specs.Recovery.{after_kept_entry, recovered_state}
use Rattle.simplex_member.specs.PrunedRecord.{pruned_member}
use Rattle.simplex_member.specs.Restarts.{retention_grows, cut_member}
use Rattle.simplex_record.proofs.Examples.{Entry, notarization, nullification, finalization, nullify}
use Rattle.simplex_record.proofs.RecoveryExamples.{in_turn, settings}

abbrev Member : Type 0
Member = MemberFacts ℕ ℕ ℕ

-- a member that failed, whose record was not pruned yet
abbrev member : List Entry → Member
member entries = record {
  life = None;
  outstanding_work = no_outstanding_work;
  entries = entries;
  closed = 0;
  is_pruned = false;
  retention = 10;
  least_retention = 10;
}

-- pruned entries are gone, and the rest is closed
behind_the_finalized_view : (cut_member (member (nullify 1 ∷ finalization 20 ∷ [])) 0 true).entries ≡ finalization 20
    ∷ []
unfolding may_drop pruned_entries
behind_the_finalized_view = refl

closed_now : (cut_member (member (nullify 1 ∷ finalization 20 ∷ [])) 0 true).closed ≡ 1
unfolding may_drop pruned_entries
closed_now = refl

-- no later drop takes it, only what was recorded since
not_dropped : (cut_member (record (member (finalization 20 ∷ [])) { closed = 1; is_pruned = true }) 9 true).entries
    ≡ finalization 20 ∷ []
unfolding may_drop pruned_entries
not_dropped = refl

dropped_since : (cut_member (record (member (finalization 20 ∷ nullification 10 ∷ [])) { closed = 1; is_pruned = true })
    1 false).entries ≡ finalization 20 ∷ []
unfolding may_drop
dropped_since = refl

-- the retention of the lifetime that ended counts, not that of the next one
kept_by_the_last_life : (cut_member (member (finalization 20 ∷ notarization 12 ∷ [])) 0 true).entries ≡ finalization 20
    ∷ notarization 12 ∷ []
unfolding may_drop pruned_entries
kept_by_the_last_life = refl

-- a lifetime that retains 5 views takes an entry below those again, until it prunes
abbrev narrow : StateFacts ℕ ℕ ℕ
narrow = new_facts (record settings { view_retention = 5 }) (Some 0) (0 ∷ 1 ∷ 2 ∷ 3 ∷ []) 1
    (record { term_length = 1; optimistic_views = 0; stall_timeout = None }) true

abbrev narrow_life : StateFacts ℕ ℕ ℕ
narrow_life = recovered_state nat_eq in_turn narrow (Genesis 0) 0 (notarization 12 ∷ finalization 20 ∷ [])

lowest_view : min_active narrow_life ≡ 15
unfolding recovered_state after_kept_entry
lowest_view = refl

still_there : is_some (notarization_of narrow_life 12) ≡ true
unfolding recovered_state after_kept_entry
still_there = refl

pruned_then : prune_answer narrow_life ≡ 1 ∷ 12 ∷ 13 ∷ []
unfolding recovered_state after_kept_entry
pruned_then = refl

-- within a lifetime an entry stays whose view the state still tracks; after the state's own prune it goes
abbrev within_life : Member
within_life = record (member (nullify 2 ∷ notarization 12 ∷ finalization 20 ∷ []))
    { life = Some narrow_life; retention = 5; least_retention = 5 }

stays_while_tracked : (pruned_member within_life).entries ≡ notarization 12 ∷ finalization 20 ∷ []
unfolding recovered_state after_kept_entry
stays_while_tracked = refl

goes_behind_prune : (pruned_member (record within_life { life = Some (after_prune narrow_life) })).entries
    ≡ finalization 20 ∷ []
unfolding recovered_state after_kept_entry
goes_behind_prune = refl

closed_within_life : (pruned_member within_life).closed ≡ 2
unfolding recovered_state after_kept_entry
closed_within_life = refl

counts_as_a_pruning : retention_grows (pruned_member within_life) false 6 ≡ true
counts_as_a_pruning = refl

-- no lifetime retains more views than an earlier one, once the record is pruned
may_keep_as_many : retention_grows (member []) true 10 ≡ false
may_keep_as_many = refl

more_with_a_pruning : retention_grows (member []) true 11 ≡ true
more_with_a_pruning = refl

more_after_a_pruning : retention_grows (record (member []) { is_pruned = true }) false 11 ≡ true
more_after_a_pruning = refl

less_after_a_pruning : retention_grows (record (member []) { is_pruned = true }) false 5 ≡ false
less_after_a_pruning = refl

more_without_a_pruning : retention_grows (member []) false 11 ≡ false
more_without_a_pruning = refl

-- the smallest retention of all lifetimes counts, and not only the last one
least_of_all_lives : retention_grows (record (member []) { is_pruned = true; least_retention = 5 }) false 7 ≡ true
least_of_all_lives = refl

-- a journal that holds fewer entries than were closed has lost some
lost : has_lost (record { closed = 2; is_pruned = true; retention = 10; least_retention = 10 })
    (finalization 20 ∷ []) ≡ true
lost = refl

not_lost : has_lost (record { closed = 1; is_pruned = true; retention = 10; least_retention = 10 })
    (finalization 20 ∷ []) ≡ false
not_lost = refl
