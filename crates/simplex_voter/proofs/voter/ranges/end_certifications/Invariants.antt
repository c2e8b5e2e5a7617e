-- The loop of `end_certifications`: the certifications below the next view are ended, and the others stay.
use Rattle.std.proofs.Common.{◌≡◌, ◌≤◌, ◌+◌, ◌-◌, ℕ, nat_lt, if◌then◌else◌}
use Rattle.std.specs.Option.{option_map}
use Rattle.std.specs.FinMap as map
use Rattle.simplex_voter.specs.Certification.{without_token}
use Rattle.simplex_voter.proofs.voter.ranges.end_certifications.Given as goal

abbrev pub invariant-loop-entry : goal.invariant-loop-entry
invariant-loop-entry g l = record {
  in_range : l.next ≤ l.view + 1;
  ended : (q : ℕ) → map.get l.rounds
      q ≡ (if nat_lt q l.next then option_map without_token (map.get l.fn.rounds q) else map.get l.fn.rounds q);
}

abbrev pub decreases-loop-entry : goal.decreases-loop-entry
decreases-loop-entry g l = l.view + 1 - l.next
