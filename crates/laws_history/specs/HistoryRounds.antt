-- What a history says of a view, whole.
use Rattle.std.specs.Prelude.{ℕ, ◌+◌, Bool, false, None, unwrap_or, option_map, option_and_then}
use Rattle.simplex_round.specs.declared.round.Certification.TheVariants.{Ready}
use Rattle.simplex_round.specs.Round.{RoundFacts}
use Rattle.simplex_voter.specs.Facts.{Elect, round_number}
use Rattle.laws_history.specs.History.{History}
use Rattle.laws_history.specs.LeaderHistory.{leader_by_event}
use Rattle.laws_history.specs.OwnWork.{was_done, first_said, last_said, held_in, conflict_in, returns_notarization, returns_nullification, returns_finalization, decides_notarize}
use Rattle.laws_history.specs.WorkRequests.{sets_verified, asks_to_build, asks_to_verify, asks_for, binds, sets_certification}
use Rattle.laws_history.specs.HistoryFolds.{notarization_in, nullification_in, finalization_in}
use Rattle.laws_history.specs.Moments.{enters, proposes, decision_in}

module _ {K L D : Type 0} (same : D → D → Bool) (elect : Elect L) where
  -- the whole round of a view, as the history says
  abbrev pub round_in : History K L D → ℕ → RoundFacts K D
  round_in history v =
      let fresh = history.fresh in
      let events = history.events in
      let entry = last_said same elect (enters v) fresh events in
      record {
        me = fresh.me;
        members = fresh.members;
        round = round_number fresh v;
        entered_at = first_said same elect (enters v) fresh events;
        proposed_at = last_said same elect (proposes same elect v) fresh events;
        leader = first_said same elect (leader_by_event same elect v) fresh events;
        slot = record {
          held = held_in same elect v fresh events;
          conflict = conflict_in same elect v fresh events;
          verified = unwrap_or (last_said same elect (sets_verified same elect v) fresh events) false;
          build_requested = unwrap_or (last_said same elect (asks_to_build same elect v) fresh events) false;
          verify_requested = was_done same elect (asks_to_verify same elect v) fresh events;
        };
        decision = decision_in same elect v fresh events;
        stall_deadline = option_and_then (λ at. option_map (λ time. at + time) fresh.terms.stall_timeout) entry;
        notarize_decided = was_done same elect (decides_notarize same elect v) fresh events;
        notarization = notarization_in v events;
        notarization_broadcast = was_done same elect (returns_notarization v) fresh events;
        nullification = nullification_in v events;
        nullification_broadcast = was_done same elect (returns_nullification v) fresh events;
        finalization = finalization_in v events;
        finalization_broadcast = was_done same elect (returns_finalization v) fresh events;
        certification = unwrap_or (last_said same elect (sets_certification v) fresh events) Ready;
        last_request = last_said same elect (asks_for same elect v) fresh events;
        binding = unwrap_or (last_said same elect (binds same elect v) fresh events) None;
      }
