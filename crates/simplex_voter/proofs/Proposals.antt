-- Preparing the view above a proposal.
use Rattle.std.proofs.Common.{◌≡◌, ℕ, ◌+◌, Bool, true, false, cond, ◌&&◌, Option, Some, None, refl}
use Rattle.std.specs.Option.{option_map_or}
use Rattle.simplex_round.specs.declared.round.Leader.{Leader}
use Rattle.simplex_voter.specs.Facts.{StateFacts, Elect, round_of}
use Rattle.simplex_voter.specs.Windows.{in_issuance_window}
use Rattle.simplex_voter.specs.Payloads.{is_elected_early}
use Rattle.simplex_voter.specs.Leaders.{with_leader_at, with_leader_of, with_elected_leader, with_next_view_ready}
use Rattle.simplex_voter.proofs.Elsewhere.{round_of-led, round_of-elected, not_next}

-- preparing the view above keeps the round of a view
module _ {K L D : Type 0} (elect : Elect L) (x : StateFacts K L D) (v : ℕ) where
  pub round_of-prepared : round_of (with_next_view_ready elect x v) v ≡ round_of x v
  round_of-prepared = by_window (in_issuance_window x (v + 1))
    where
      by_leader : (leader : Option (Leader K))
          → round_of (option_map_or (λ l. with_leader_at x (v + 1) l.idx) leader x) v ≡ round_of x v
      by_leader None = refl
      by_leader (Some l) = round_of-led x v (v + 1) (not_next v) l.idx

      by_choice : (b : Bool) → round_of (cond b (with_elected_leader elect x (v + 1) None) x) v ≡ round_of x v
      by_choice true = round_of-elected x v (v + 1) (not_next v) elect None
      by_choice false = refl

      by_window : (b : Bool) → round_of (cond b (with_leader_of x v (v + 1))
          (cond ((round_of x v).notarize_decided && is_elected_early elect x (v + 1))
          (with_elected_leader elect x (v + 1) None) x)) v ≡ round_of x v
      by_window true = by_leader (round_of x v).leader
      by_window false = by_choice _
