-- Members of a network that live, and what their states know.
use Rattle.std.specs.Prelude.{◌≡◌, ℕ, Bool, false, List, length, Some}
use Rattle.simplex_voter.specs.Facts.{StateFacts, Elect}
use Rattle.simplex_voter.specs.Refusals.{has_late_deadline}
use Rattle.simplex_member.specs.MemberFacts.{MemberFacts}
use Rattle.simplex_member.specs.Runs.{IsRun}
use Rattle.laws_safety.specs.Continuations.{EachHonest}
use Rattle.laws_safety.specs.Replicas.{Replica}
use Rattle.laws_safety.specs.Executions.{new_member, Execution}

module _ {K L D : Type 0} where
  -- the member's lifetime is set up as this one of the network's, and a view that is entered at moment 0 has deadlines
  -- in time
  pub record IsSetUpAs (epoch count : ℕ) (elector : L) (i : ℕ) (x : StateFacts K L D) : Type 0 where
    pub signs : x.me ≡ Some i
    pub of_epoch : x.settings.epoch ≡ epoch
    pub elects_by : x.elector ≡ elector
    pub members : length x.members ≡ count
    pub on_time : has_late_deadline x 0 ≡ false

module _ {K L D : Type 0} (same : D → D → Bool) (elect : Elect L) where
  -- the execution leads to a member that has not failed, and this is what its state knows
  abbrev pub RunsWith : Execution K L D → StateFacts K L D → Type 0
  RunsWith s x =
      (m : MemberFacts K L D)
      × IsRun same elect (new_member same elect s.start) s.steps s.replies m
      × (m.life ≡ Some x)

  -- each honest member of the network has such a state
  abbrev pub EachRuns : List (Replica K L D) → (ℕ → StateFacts K L D → Type 0) → Type 0
  EachRuns network P = EachHonest network (λ i s. (x : StateFacts K L D) × RunsWith s x × P i x)
