-- For `conflicts_are_left`, `gaps_are_closed`, `nullified_handoffs_are_left`, `views_ahead_are_agreed_on`.
-- Members of the networks in which leaders take turns: an execution whose replies are computed.
use Rattle.std.proofs.Common.{◌≡◌, refl, ℕ, inl, ◌<◌, [], List, None, nat_eq}
use Rattle.simplex_member.specs.Calls.{ReplyFacts}
use Rattle.simplex_record.specs.Recovery.{recover_error}
use Rattle.simplex_record.specs.Start.{new_state}
use Rattle.laws_safety.specs.Executions.{new_member, Execution, BeginsAs, IsExecution}
use Rattle.laws_safety.specs.ScenarioSteps.{in_turn, begin_at}
use Rattle.laws_safety.proofs.networks.ComputedRuns.{replies_from, FindsRisingRecords, fits_run_from, AllBegin, each_begins}

pub begins : (term_length me : ℕ) → 0 < term_length → BeginsAs term_length me (begin_at term_length me).setup
begins term_length me some = record { terms = record { terms = refl; some = some }; signs_as = inl refl }

-- the replies to the steps of an execution by the definitions
abbrev pub replied_in : Execution ℕ ℕ ℕ → List (ReplyFacts ℕ ℕ)
replied_in s = replies_from nat_eq in_turn (new_member nat_eq in_turn s.start) s.steps

abbrev pub FitsIn : Execution ℕ ℕ ℕ → Type 0
FitsIn s = FindsRisingRecords nat_eq in_turn (new_member nat_eq in_turn s.start) s.steps

pub ran_as_replied : (term_length me : ℕ) (s : Execution ℕ ℕ ℕ) → BeginsAs term_length me s.start.setup
    → AllBegin term_length me s.steps → recover_error nat_eq (new_state s.start.setup) s.start.floor s.start.now
    [] ≡ None → FitsIn s → replied_in s ≡ s.replies → IsExecution nat_eq in_turn term_length me s
ran_as_replied term_length me s first later accepted fits replied = record {
  lives = record { first = first; later = each_begins term_length me s.steps later };
  run = fits_run_from nat_eq in_turn s accepted fits replied;
}
