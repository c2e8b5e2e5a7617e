-- If all can come to one view, the network can finalize a later start.
use Rattle.std.proofs.Common.{◌≡◌, ◌≤◌, Bool, true, length, arith}
use Rattle.simplex_voter.specs.Facts.{Elect}
use Rattle.laws_safety.specs.Replicas.{faults, max_faults}
use Rattle.laws_progress.specs.CommonViews.{MembersThatMeetContinue}
use Rattle.laws_progress.specs.ViewPositions.{proposal_in}
use Rattle.laws_progress.proofs.networks.Joined.{joined}
use Rattle.laws_progress.proofs.networks.Replicas.{same_length, same_faults, honest_still}
use Rattle.laws_progress.proofs.networks.Passed.{together_they_go_on}

pub who_meets_goes_on : {L D : Type 0} (K : Type 0) (same : D → D → Bool)
    (decides : (d e : D) → same d e ≡ true → d ≡ e) (reflexive : (d : D) → same d d ≡ true) (elect : Elect L)
    → MembersThatMeetContinue K same elect
who_meets_goes_on K same decides reflexive elect term_length epoch leader parent view start terms elector network
    between payload good few meets far is_term_start small elected (s, leads) =
    let long = same_length network between meets.continues in
    let many = same_faults network between meets.continues in
    let still_few : faults between ≤ max_faults (length between) = omega (arith, few, long, many) in
    let on = together_they_go_on K same decides reflexive elect term_length epoch leader parent view start terms elector
    between payload meets.runs still_few far is_term_start small elected
    (honest_still network between leader s meets.continues leads) meets.stands in (
      on.0,
      joined same elect term_length network between on.0 (proposal_in epoch start parent payload) good meets.runs
          meets.continues meets.certificates meets.proposals on.1,
    )
