-- How a state's fields represent its facts, and its invariant.
use Rattle.std.specs.Prelude.{◌≡◌, ◌≤◌, ◌+◌, ◌^◌, ℕ, Bool, length}
use Rattle.std.specs.FinMap.{keys}
use Rattle.simplex_types.specs.declared.types.window.Terms.{Terms}
use Rattle.simplex_voter.specs.declared.voter.state.Config.{Config}
use Rattle.simplex_voter.specs.declared.voter.state.State.TheInside.{Inside}
use Rattle.simplex_voter.specs.Facts.{Settings, StateFacts}

-- the facts that a state's fields represent
abbrev pub state_view : {S L D K G C : Type 0} → (L → Terms) → (L → Bool) → Inside S L D K G C → StateFacts K L D
state_view terms elects_early s =
    record {
      settings = record {
        epoch = s.rounds.epoch;
        view_retention = s.view_retention;
        leader_timeout = s.leader_timeout;
        certification_timeout = s.certification_timeout;
        timeout_retry = s.timeout_retry;
        skip_budget = s.skip_budget;
      };
      me = s.rounds.me;
      members = s.rounds.members;
      elector = s.elector;
      terms = terms s.elector;
      elects_early = elects_early s.elector;
      genesis = s.genesis;
      current = s.current;
      finalized = s.finalized;
      moment = s.last_moment;
      named = keys s.candidates;
      nullified = keys s.nullified.by_view;
      nullify_votes = keys s.nullify_votes.by_view;
      rounds = s.rounds.by_view;
      failed = s.failed;
    }

-- a nullification of the greatest view that it may name enters a view at or below this one; other certificates and
-- verdicts enter views below it
abbrev pub largest_current : ℕ
largest_current = 2 ^ 63 + 2 ^ 32

-- the invariant of each state: a bound of the current view, sets of views by its terms, and an elector of its members
pub record IsStateKept {S L D K G C : Type 0} (terms : L → Terms) (count : L → ℕ)
    (s : Inside S L D K G C) : Type 0 where
  pub in_range : s.current ≤ largest_current
  pub nullified : s.nullified.term_length ≡ (terms s.elector).term_length
  pub nullify_votes : s.nullify_votes.term_length ≡ (terms s.elector).term_length
  pub elector : count s.elector ≡ length s.rounds.members

-- the settings that a configuration gives a state
abbrev pub settings_of : {S L K G C : Type 0} → Config S L K G C → Settings
settings_of c =
    record {
      epoch = c.epoch;
      view_retention = c.view_retention;
      leader_timeout = c.leader_timeout;
      certification_timeout = c.certification_timeout;
      timeout_retry = c.timeout_retry;
      skip_budget = c.skip_budget;
    }
