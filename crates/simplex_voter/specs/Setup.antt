-- What no call changes, and the deadlines that follow from it.
use Rattle.std.specs.Prelude.{◌≡◌, ℕ, ◌+◌, option_map}
use Rattle.simplex_voter.specs.declared.voter.rounds.Deadlines.{Deadlines}
use Rattle.simplex_voter.specs.Facts.{StateFacts}

module _ {K L D : Type 0} where
  -- the setup of the state stays
  pub record HasSameSetup (before after : StateFacts K L D) : Type 0 where
    pub failed : after.failed ≡ before.failed
    pub settings : after.settings ≡ before.settings
    pub me : after.me ≡ before.me
    pub members : after.members ≡ before.members
    pub elector : after.elector ≡ before.elector
    pub terms : after.terms ≡ before.terms
    pub elects_early : after.elects_early ≡ before.elects_early

  -- the deadlines of a view that is entered at a moment
  abbrev pub deadlines_at : StateFacts K L D → ℕ → Deadlines
  deadlines_at x now = record {
    leader = now + x.settings.leader_timeout;
    certification = now + x.settings.certification_timeout;
    stall = option_map (λ time. now + time) x.terms.stall_timeout;
  }
