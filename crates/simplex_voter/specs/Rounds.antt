-- The rounds of the tracked views. Each is of one member, its members and one epoch.
use Rattle.std.specs.Prelude.{◌≡◌, ◌<◌, ◌≤◌, ◌+◌, ◌^◌, ℕ, nat_lt, nat_le, Bool, true, false, ◌&&◌, ◌||◌, List, [], Option, Some, IfSome, is_some, unwrap_or, if◌then◌else◌, filter, length}
use Rattle.std.specs.Option.{option_map_or}
use Rattle.std.specs.FinMap.Entries.{find, put}
use Rattle.std.specs.Ordering.{nat_cmp}
use Rattle.std.specs.FinMap as map
use Rattle.simplex_types.specs.declared.types.numbers.Round.{Round}
use Rattle.simplex_types.specs.declared.types.messages.Artifact.{Artifact}
use Rattle.simplex_types.specs.declared.types.messages.Artifact.TheVariants as artifact
use Rattle.simplex_round.specs.Round.{RoundFacts, new_round, leader_at, with_deadlines, is_judged, is_certified, token_of}
use Rattle.simplex_voter.specs.declared.voter.rounds.Deadlines.{Deadlines}
use Rattle.simplex_voter.specs.declared.voter.rounds.Bounds.{Bounds}

-- no view above this one is ever tracked: a certificate names views below 2 ^ 63, it enters or elects for views at most
-- a term above that, and a vote is cast at most a term above the current view, and prepares the next one
abbrev pub largest_tracked : ℕ
largest_tracked = 2 ^ 63 + 2 ^ 33

-- a view may have been certified false
abbrev pub MayBeRefused : Bounds → ℕ → Type 0
MayBeRefused b v = map.contains_key b.refused v ≡ true

-- a view may have this verdict
pub record MayBeJudged (b : Bounds) (v : ℕ) (success : Bool) : Type 0 where
  pub explicit : success ≡ true → v ≤ b.explicit
  pub refused : success ≡ false → MayBeRefused b v

-- what the first bounds allow the second ones allow
pub record IsWider (b c : Bounds) : Type 0 where
  pub explicit : b.explicit ≤ c.explicit
  pub under_way : c.under_way ≤ b.under_way
  pub refused : (v : ℕ) → MayBeRefused b v → MayBeRefused c v

-- the rounds, as contracts see them
pub record RoundsFacts (K D : Type 0) : Type 0 where
  -- the index that this member signs as, all members' keys, and the epoch
  pub me : Option ℕ
  pub members : List K
  pub epoch : ℕ
  -- what is known of each tracked view, by rising view
  pub by_view : List (ℕ × RoundFacts K D)

module _ {K D : Type 0} where
  -- no view is tracked
  abbrev pub no_rounds : Option ℕ → List K → ℕ → RoundsFacts K D
  no_rounds me members epoch = record { me = me; members = members; epoch = epoch; by_view = [] }

  -- the round of a tracked view
  abbrev pub find_round : RoundsFacts K D → ℕ → Option (RoundFacts K D)
  find_round x v = find nat_cmp v x.by_view

  -- something is known of the view
  abbrev pub has_round : RoundsFacts K D → ℕ → Bool
  has_round x v = is_some (find_round x v)

  -- the view in this epoch
  abbrev pub round_id : RoundsFacts K D → ℕ → Round
  round_id x v = record { epoch = x.epoch; view = v }

  -- what is known of a view: nothing, if it isn't tracked
  abbrev pub round_in : RoundsFacts K D → ℕ → RoundFacts K D
  round_in x v = unwrap_or (find_round x v) (new_round x.me x.members (round_id x v))

  -- the rounds with another one at a view, which is tracked from then on
  abbrev pub put_round : RoundsFacts K D → ℕ → RoundFacts K D → RoundsFacts K D
  put_round x v r = record x { by_view = put nat_cmp v r x.by_view }

  -- the round of a view after a change, tracked from then on
  abbrev pub with_change : RoundsFacts K D → ℕ → (RoundFacts K D → RoundFacts K D) → RoundsFacts K D
  with_change x v change = put_round x v (change (round_in x v))

  -- the same of a view that is tracked; otherwise nothing changes
  abbrev pub with_change_in_place : RoundsFacts K D → ℕ → (RoundFacts K D → RoundFacts K D) → RoundsFacts K D
  with_change_in_place x v change = if has_round x v then with_change x v change else x

  -- the member leads the view, unless a leader is set
  abbrev pub rounds_with_leader : RoundsFacts K D → ℕ → ℕ → RoundsFacts K D
  rounds_with_leader x v member =
      if is_some (round_in x v).leader then x
      else with_change x v (λ r. record r { leader = leader_at x.members member })

  -- the leader of one view leads another too
  abbrev pub rounds_with_leader_of : RoundsFacts K D → ℕ → ℕ → RoundsFacts K D
  rounds_with_leader_of x from to = option_map_or (λ l. rounds_with_leader x to l.idx) (round_in x from).leader x

  -- they are of the same member, members and epoch
  pub record HasSameOrigin (before after : RoundsFacts K D) : Type 0 where
    pub me : after.me ≡ before.me
    pub members : after.members ≡ before.members
    pub epoch : after.epoch ≡ before.epoch

  -- the view is finalized, or was certified true: its payload is explicit
  abbrev pub is_explicit : RoundFacts K D → Bool
  is_explicit r = is_some r.finalization || is_certified r.certification

  -- the round of a tracked view is this member's, among its members and in its epoch; only a view that a certificate
  -- may name is notarized; its leader is a member; and it is explicit, under certification or certified false only if
  -- the bounds allow it
  pub record IsRoundKept (bounds : Bounds) (x : RoundsFacts K D) (v : ℕ) (r : RoundFacts K D) : Type 0 where
    pub me : r.me ≡ x.me
    pub members : r.members ≡ x.members
    pub round : r.round ≡ round_id x v
    pub in_range : v ≤ largest_tracked
    pub notarized : is_some r.notarization ≡ true → v < 2 ^ 63
    pub leader : IfSome r.leader (λ l. l.idx < length x.members)
    pub explicit : is_explicit r ≡ true → v ≤ bounds.explicit
    pub under_way : is_some (token_of r.certification) ≡ true → bounds.under_way ≤ v
    pub refused : is_judged false r.certification ≡ true → MayBeRefused bounds v

  -- this holds for each tracked round
  abbrev pub AreKept : Bounds → RoundsFacts K D → Type 0
  AreKept bounds x = (v : ℕ) (r : RoundFacts K D) → find_round x v ≡ Some r → IsRoundKept bounds x v r

  -- no certification is under way below a view
  abbrev pub IsQuietBelow : map.FinMap nat_cmp (RoundFacts K D) → ℕ → Type 0
  IsQuietBelow m v = (q : ℕ) (r : RoundFacts K D) → map.get m q ≡ Some r → q < v
      → is_some (token_of r.certification) ≡ false

  -- the tracked views below v, with their rounds, except some above genesis that are not explicit
  pub record AreDownFrom (x : RoundsFacts K D) (v : ℕ) (es : List (ℕ × RoundFacts K D)) : Type 0 where
    pub end : ℕ
    pub entries : es ≡ filter (λ e. nat_lt e.0 end) x.by_view
    pub not_above : end ≤ v
    pub above : (w : ℕ) → end ≤ w → w < v → 0 < w
    pub rest : (w : ℕ) (r : RoundFacts K D) → end ≤ w → w < v → find_round x w ≡ Some r → is_explicit r ≡ false

-- a view may have the verdict in the entry of the record, if it is one
abbrev pub MayBeRecalled : {S D P G C : Type 0} → Bounds → ℕ → Artifact S D P G C → Type 0
MayBeRecalled b v (artifact.Certification _ success) = MayBeJudged b v success
MayBeRecalled b v (artifact.Notarize _) = Unit {0}
MayBeRecalled b v (artifact.Notarization _) = Unit {0}
MayBeRecalled b v (artifact.Nullify _) = Unit {0}
MayBeRecalled b v (artifact.Nullification _) = Unit {0}
MayBeRecalled b v (artifact.Finalize _) = Unit {0}
MayBeRecalled b v (artifact.Finalization _) = Unit {0}

-- the first entry of a view is recorded, and its deadlines count
abbrev pub with_entry : {K D : Type 0} → RoundFacts K D → ℕ → Deadlines → RoundFacts K D
with_entry r now deadlines =
    with_deadlines (record r { entered_at = Some (unwrap_or r.entered_at now) }) deadlines.leader
    deadlines.certification deadlines.stall

-- the view is above another, and tracked with a round that was certified false
abbrev pub is_refused_above : {K D : Type 0} → map.FinMap nat_cmp (RoundFacts K D) → (above v : ℕ) → Bool
is_refused_above m above v = nat_lt above v && option_map_or (λ r. is_judged false r.certification) (map.get m v) false

-- a view above `above`, from `from` on and up to `last`, was certified false
abbrev pub is_refused_between : {K D : Type 0} → (above from last : ℕ) → ℕ × RoundFacts K D → Bool
is_refused_between above from last e =
    nat_lt above e.0 && nat_le from e.0 && nat_le e.0 last && is_judged false e.1.certification
