-- Pruning of the record within a lifetime.
use Rattle.std.specs.Prelude.{ℕ, ◌-◌, Bool, false, ◌||◌, nat_le, List, filter, Option}
use Rattle.std.specs.Option.{option_map_or}
use Rattle.simplex_voter.specs.Facts.{StateFacts, is_tracked}
use Rattle.simplex_record.specs.Cuts.{finalized_in}
use Rattle.simplex_record.specs.Entries.{entry_view}
use Rattle.simplex_record.specs.Votes.{SignedVote}
use Rattle.simplex_member.specs.MemberFacts.{MemberFacts}
use Rattle.simplex_member.specs.Restarts.{closed_at}

module _ {K L D : Type 0} where
  -- the state tracks the view; a member that has failed has none
  abbrev pub tracks : Option (StateFacts K L D) → ℕ → Bool
  tracks life v = option_map_or (λ x. is_tracked x v) life false

  -- an entry of the view stays: the state tracks the view, or it is not below the highest finalized view of the record
  -- by more than the retention. Why: the state may still accept a verdict on a view that it tracks, and a recorded
  -- verdict needs the notarization of its view before it in the record.
  abbrev pub stays_within : MemberFacts K L D → ℕ → Bool
  stays_within m v = tracks m.life v || nat_le (finalized_in m.entries - m.retention) v

  -- the record pruned within a lifetime, and closed; the lifetime continues unchanged
  abbrev pub pruned_member : MemberFacts K L D → MemberFacts K L D
  pruned_member m = closed_at m (filter (λ e. stays_within m (entry_view e)) m.entries)

  -- and the votes in it
  abbrev pub votes_within : {G : Type 0} → MemberFacts K L D → List (SignedVote D G) → List (SignedVote D G)
  votes_within m votes = filter (λ v. stays_within m (entry_view v.vote)) votes
