-- The calls that let a member leave its current view.
use Rattle.std.specs.Prelude.{◌≡◌, ℕ, ◌<◌, Bool, true, false, None, is_some}
use Rattle.simplex_types.specs.Certificates.{ProposalFacts, NullificationFacts}
use Rattle.simplex_round.specs.Round.{is_judged}
use Rattle.simplex_voter.specs.Facts.{StateFacts, Elect, round_number, round_of}
use Rattle.simplex_voter.specs.Refusals.{has_late_deadline, is_too_large, names_too_large}
use Rattle.simplex_member.specs.CallConditions.{is_allowed, fault_of}
use Rattle.simplex_member.specs.Calls.{CallFacts, AddNullification, AddFinalization, Certified}
use Rattle.simplex_member.specs.CallSemantics.{after_call}
use Rattle.simplex_member.specs.OutstandingWork.{OutstandingWork}

module _ {K L D : Type 0} (same : D → D → Bool) (elect : Elect L) where
  -- the call may be made, returns no fault, and moves the current view up
  pub record GoesPast (x : StateFacts K L D) (o : OutstandingWork K D) (call : CallFacts D) : Type 0 where
    pub allowed : is_allowed x o call ≡ true
    pub no_fault : fault_of x call ≡ None
    pub past : x.current < (after_call same elect x o call).current

  -- each certificate that ends the current view does so, at this moment
  pub record CallsGoPast (x : StateFacts K L D) (o : OutstandingWork K D) (now : ℕ) : Type 0 where
    pub nullification : (c : NullificationFacts) → c.round ≡ round_number x x.current
        → GoesPast x o (AddNullification c now)
    pub finalization : (c : ProposalFacts D) → c.proposal.round ≡ round_number x x.current
        → names_too_large c.proposal ≡ false
        → GoesPast x o (AddFinalization c now)
    -- a notarization does so with a true verdict, unless a false one was given
    pub verdict : is_some (round_of x x.current).notarization ≡ true
        → is_judged false (round_of x x.current).certification ≡ false
        → GoesPast x o (Certified x.current true now)

  -- while the view is below 2^63, and the deadlines of the view to be entered fit in 64 bits
  abbrev pub CanBeLeft : StateFacts K L D → Type 0
  CanBeLeft x = (o : OutstandingWork K D) (now : ℕ) → is_too_large x.current ≡ false → has_late_deadline x now ≡ false
      → CallsGoPast x o now
