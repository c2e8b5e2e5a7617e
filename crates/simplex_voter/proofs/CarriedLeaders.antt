-- Leaders that carry over from view to view, and rounds that changes of other views keep.
use Rattle.std.proofs.Common.{◌≡◌, ℕ, suc, ◌+◌, ◌-◌, ◌<◌, true, ap, sym, ◌∙◌, arith}
use Rattle.std.specs.List.{fold, range_with_len}
use Rattle.std.specs.Ordering.{nat_cmp, is_lt}
use Rattle.std.proofs.lemmas.Bool.{ltb-true}
use Rattle.simplex_view_maps.proofs.Maps.{is_lt-nat_cmp}
use Rattle.simplex_voter.specs.Facts.{StateFacts}
use Rattle.simplex_voter.specs.Setup.{HasSameSetup}
use Rattle.simplex_voter.specs.Leaders.{with_leader_of}

pub is_below : (v w : ℕ) → true ≡ is_lt (nat_cmp v w) → v < w
is_below v w below = ltb-true v w (sym (below ∙ is_lt-nat_cmp v w))

module _ {K L D : Type 0} where
  slid_step : (x y : StateFacts K L D) (from last : ℕ) → from < last → y ≡ with_leader_of x from (from + 1)
      → fold (λ (z : StateFacts K L D) w. with_leader_of z (w - 1) w) y
      (range_with_len (from + 1 + 1) (last - (from + 1))) ≡ fold
      (λ (z : StateFacts K L D) w. with_leader_of z (w - 1) w) x (range_with_len (from + 1) (last - from))
  slid_step x y from last below is =
      let left : last - from ≡ suc (last - (from + 1)) = omega arith in
      let before : from + 1 - 1 ≡ from = omega arith in
      let rest = range_with_len (from + 1 + 1) (last - (from + 1)) in
      ap (λ (z : StateFacts K L D). fold (λ (u : StateFacts K L D) w. with_leader_of u (w - 1) w) z rest) is
      ∙ ap (λ k. fold (λ (u : StateFacts K L D) w. with_leader_of u (w - 1) w) (with_leader_of x k (from + 1)) rest)
      (sym before)
      ∙ ap (λ n. fold (λ (u : StateFacts K L D) w. with_leader_of u (w - 1) w) x (range_with_len (from + 1) n))
      (sym left)

  -- one more view has taken the leader of the view before it
  pub slid_next : (x y : StateFacts K L D) (from next last : ℕ) → from < last → next ≡ from + 1
      → y ≡ with_leader_of x from next → fold (λ (z : StateFacts K L D) w. with_leader_of z (w - 1) w) y
      (range_with_len (next + 1) (last - next)) ≡ fold (λ (z : StateFacts K L D) w. with_leader_of z (w - 1) w) x
      (range_with_len (from + 1) (last - from))
  slid_next x y from next last below after is =
      ap (λ n. fold (λ (z : StateFacts K L D) w. with_leader_of z (w - 1) w) y (range_with_len (n + 1) (last - n)))
      after
      ∙ slid_step x y from last below (is ∙ ap (with_leader_of x from) after)

  pub same_setup_joins : (x y z : StateFacts K L D) → HasSameSetup x y → HasSameSetup y z → HasSameSetup x z
  same_setup_joins x y z a b = record {
    failed = b.failed ∙ a.failed;
    settings = b.settings ∙ a.settings;
    me = b.me ∙ a.me;
    members = b.members ∙ a.members;
    elector = b.elector ∙ a.elector;
    terms = b.terms ∙ a.terms;
    elects_early = b.elects_early ∙ a.elects_early;
  }
