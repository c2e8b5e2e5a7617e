-- What leaders, entries and wakings change of the work on a view.
use Rattle.std.proofs.Common.{◌≡◌, ◌⊎◌, refl, ap, sym, ◌∙◌, ℕ, ◌+◌, Bool, true, false, ◌&&◌, ◌||◌, eqb, nat_lt, if◌then◌else◌, List, Option, Some, None, is_some, option_map, unwrap_or, inl, inr}
use Rattle.std.specs.Option.{option_map_or}
use Rattle.std.proofs.lemmas.Bool.{cases_eq, eq-eqb, ne_eqb, true≢false}
use Rattle.simplex_round.specs.declared.round.Leader.{Leader}
use Rattle.simplex_round.specs.declared.round.Decision.{Decision}
use Rattle.simplex_round.specs.declared.round.Decision.TheVariants.{Pending, Nullify, Finalize}
use Rattle.simplex_round.specs.Round.{RoundFacts, leader_at, new_round, with_decision_deadlines}
use Rattle.simplex_voter.specs.Facts.{Settings, StateFacts, Elect, round_at, round_of, round_number, is_tracked, with_round}
use Rattle.simplex_voter.specs.ViewEntry.{with_view_entered, entered_round}
use Rattle.simplex_voter.specs.Leaders.{has_leader, with_leader_at, with_leader_of, with_elected_leader}
use Rattle.laws_history.specs.LeaderHistory.{same_member, elected_leader}
use Rattle.laws_history.specs.HistoryFolds.{or_new}
use Rattle.laws_history.proofs.Worked.{Worked, work_in, work_of, timed, work_put, work_elsewhere, untimed}

-- nothing but the rounds changes
abbrev pub OnlyRounds : {K L D : Type 0} → StateFacts K L D → StateFacts K L D → Type 0
OnlyRounds x y = y ≡ record x { rounds = y.rounds }

pub only_joined : {K L D : Type 0} (x y z : StateFacts K L D) → OnlyRounds x y → OnlyRounds y z → OnlyRounds x z
only_joined {K} {L} {D} x y z p q = q ∙ ap (λ (a : StateFacts K L D). record a { rounds = z.rounds }) p

pub only_where : {K L D : Type 0} (x : StateFacts K L D) (b : Bool) (y z : StateFacts K L D) → OnlyRounds x y
    → OnlyRounds x z → OnlyRounds x (if b then y else z)
only_where x true y z p q = p
only_where x false y z p q = q

-- with a leader, where none is set
abbrev pub with_leader : {K D : Type 0} → Bool → Option (Leader K) → Worked K D → Worked K D
with_leader tracks leader k = record k { tracked = tracks || k.tracked; leader = or_new k.leader leader }

-- with an entry at a moment
abbrev pub work_entered_at : {K L D : Type 0} → StateFacts K L D → Option ℕ → Worked K D → Worked K D
work_entered_at x entry k = record k {
  tracked = is_some entry || k.tracked;
  entered_at = or_new k.entered_at entry;
  decision = timed x.settings entry None None k.decision;
  stall_deadline = unwrap_or (option_map (λ at. option_map (λ time. at + time) x.terms.stall_timeout) entry)
      k.stall_deadline;
}

-- the moment of an entry at a view: the view is entered, and lies above the current one
abbrev pub entry_at : {K L D : Type 0} → StateFacts K L D → ℕ → ℕ → ℕ → Option ℕ
entry_at x v now w = if eqb w v && nat_lt x.current w then Some now else None

armed_timed : (settings : Settings) (now : ℕ) (d : Decision)
    → with_decision_deadlines d (now + settings.leader_timeout) (now + settings.certification_timeout) ≡ timed settings
    (Some now) None None d
armed_timed s now (Pending leader certification first) = refl
armed_timed s now (Nullify again) = refl
armed_timed s now Finalize = refl

first_or_new : {A : Type 0} (o : Option A) (a : A) → Some (unwrap_or o a) ≡ or_new o (Some a)
first_or_new None a = refl
first_or_new (Some b) a = refl

module _ {K L D : Type 0} where
  -- a view with a leader is tracked
  pub leader_tracked : (x : StateFacts K L D) (v : ℕ) → has_leader x v ≡ true → is_tracked x v ≡ true
  leader_tracked x v has = by_round (round_at x v) refl
    where
      by_round : (o : Option (RoundFacts K D)) → round_at x v ≡ o → is_tracked x v ≡ true
      by_round None none = absurd (true≢false
          (sym has ∙ ap (λ o. is_some (unwrap_or o (new_round x.me x.members (round_number x v))).leader) none))
      by_round (Some r) found = ap is_some found

  pub led_only : (x : StateFacts K L D) (v member : ℕ) → OnlyRounds x (with_leader_at x v member)
  led_only x v member = only_where x (has_leader x v) x
      (with_round x v (record (round_of x v) { leader = leader_at x.members member })) refl refl

  pub led_work : (x : StateFacts K L D) (v member w : ℕ)
      → work_of (with_leader_at x v member) w ≡ with_leader (eqb w v)
      (if eqb w v then leader_at x.members member else None) (work_of x w)
  led_work x v member w = by_leader (has_leader x v) refl (cases_eq w v)
    where
      kept : (o : Option (Leader K)) → is_some o ≡ true → o ≡ or_new o (leader_at x.members member)
      kept None has = absurd (true≢false (sym has))
      kept (Some l) has = by_found (leader_at x.members member)
        where
          by_found : (found : Option (Leader K)) → Some l ≡ or_new (Some l) found
          by_found None = refl
          by_found (Some m) = refl

      first : (o : Option (Leader K)) → is_some o ≡ false
          → leader_at x.members member ≡ or_new o (leader_at x.members member)
      first None has = by_found (leader_at x.members member)
        where
          by_found : (found : Option (Leader K)) → found ≡ or_new None found
          by_found None = refl
          by_found (Some m) = refl
      first (Some l) has = absurd (true≢false has)

      by_leader : (b : Bool) → has_leader x v ≡ b → ((w ≡ v) ⊎ (w ≡ v → ⊥))
          → work_of (with_leader_at x v member) w ≡ with_leader (eqb w v)
          (if eqb w v then leader_at x.members member else None) (work_of x w)
      by_leader b has (inr apart) = rw (ne_eqb w v apart) (elsewhere b has)
        where
          elsewhere : (b : Bool) → has_leader x v ≡ b → work_of (with_leader_at x v member) w ≡ work_of x w
          elsewhere true is = rw is refl
          elsewhere false is = rw is
              (work_elsewhere x v w (record (round_of x v) { leader = leader_at x.members member }) (ne_eqb w v apart))
      by_leader true has (inl here) = rw (has, here, eq-eqb v v refl)
          (λ i. record (work_of x v) { tracked = leader_tracked x v has i; leader = kept (round_of x v).leader has i })
      by_leader false has (inl here) =
          let r = record (round_of x v) { leader = leader_at x.members member } in
          rw (has, here, eq-eqb v v refl) (work_put x v r
          ∙ (λ i. record (work_in true (round_of x v)) { leader = first (round_of x v).leader has i }))

  -- the leader of one view goes to another
  pub inherited_only : (x : StateFacts K L D) (from to : ℕ) → OnlyRounds x (with_leader_of x from to)
  inherited_only x from to = by_leader (round_of x from).leader
    where
      by_leader : (leader : Option (Leader K)) → OnlyRounds x (option_map_or (λ l. with_leader_at x to l.idx) leader x)
      by_leader None = refl
      by_leader (Some l) = led_only x to l.idx

  pub inherited_work : (x : StateFacts K L D) (from to w : ℕ)
      → work_of (with_leader_of x from to) w ≡ with_leader (eqb w to && is_some (round_of x from).leader)
      (if eqb w to then same_member x (round_of x from).leader else None) (work_of x w)
  inherited_work x from to w = by_leader (round_of x from).leader
    where
      no_leader : (b : Bool) → work_of x w ≡ with_leader (b && false) (if b then None else None) (work_of x w)
      no_leader true = refl
      no_leader false = refl

      with_own : (b : Bool) (l : Leader K) → with_leader b (if b then leader_at x.members l.idx else None)
          (work_of x w) ≡ with_leader (b && true) (if b then leader_at x.members l.idx else None) (work_of x w)
      with_own true l = refl
      with_own false l = refl

      by_leader : (leader : Option (Leader K))
          → work_of (option_map_or (λ l. with_leader_at x to l.idx) leader x) w ≡ with_leader
          (eqb w to && is_some leader) (if eqb w to then same_member x leader else None) (work_of x w)
      by_leader None = no_leader (eqb w to)
      by_leader (Some l) = led_work x to l.idx w ∙ with_own (eqb w to) l

  -- entries
  pub entered_work : (x : StateFacts K L D) (v now w : ℕ)
      → work_of (with_view_entered x v now) w ≡ work_entered_at x (entry_at x v now w) (work_of x w)
  entered_work x v now w = by_view (cases_eq w v)
    where
      r : RoundFacts K D
      r = entered_round x (round_of x v) now

      quiet : work_of x w ≡ work_entered_at x None (work_of x w)
      quiet = λ i. record (work_of x w) { decision = sym (untimed x.settings (round_of x w).decision) i }

      elsewhere : eqb w v ≡ false → (b : Bool) → nat_lt x.current v ≡ b
          → work_of (with_view_entered x v now) w ≡ work_of x w
      elsewhere apart true is = rw is (work_elsewhere x v w r apart)
      elsewhere apart false is = rw is refl

      at_view : (b : Bool) → nat_lt x.current v ≡ b
          → work_of (with_view_entered x v now) v ≡ work_entered_at x (if nat_lt x.current v then Some now else None)
          (work_of x v)
      at_view true is = rw is (work_put x v r ∙ (λ i. record (work_in true r) {
        entered_at = first_or_new (round_of x v).entered_at now i;
        decision = armed_timed x.settings now (round_of x v).decision i;
      }))
      at_view false is =
          rw is (λ i. record (work_of x v) { decision = sym (untimed x.settings (round_of x v).decision) i })

      by_view : ((w ≡ v) ⊎ (w ≡ v → ⊥)) → work_of (with_view_entered x v now) w ≡ work_entered_at x (entry_at x v now w)
          (work_of x w)
      by_view (inl here) = rw (here, eq-eqb v v refl) (at_view (nat_lt x.current v) refl)
      by_view (inr apart) = rw (ne_eqb w v apart) (elsewhere (ne_eqb w v apart) (nat_lt x.current v) refl ∙ quiet)

module _ {K L D : Type 0} (elect : Elect L) where
  pub elected_only : (x : StateFacts K L D) (v : ℕ) (seed : Option (List ℕ))
      → OnlyRounds x (with_elected_leader elect x v seed)
  elected_only x v seed = led_only x v (elect x.elector (round_number x v) seed)

  pub elected_work : (x : StateFacts K L D) (v : ℕ) (seed : Option (List ℕ)) (w : ℕ)
      → work_of (with_elected_leader elect x v seed) w ≡ with_leader (eqb w v) (elected_leader elect x w v seed)
      (work_of x w)
  elected_work x v seed w = led_work x v (elect x.elector (round_number x v) seed) w
