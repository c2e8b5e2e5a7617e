-- Rounds that take an entry of the record, as changes of a state's facts.
use Rattle.std.proofs.Common.{◌≡◌, ℕ, Bool, Option, Result, Ok, Err, OnOk, ap, ◌∙◌}
use Rattle.simplex_types.specs.Proposal.{same_proposal}
use Rattle.simplex_types.specs.MessageViews.{artifact_view}
use Rattle.std.specs.Prelude.{option_and_then}
use Rattle.simplex_types.specs.declared.types.messages.Proposal.{Proposal}
use Rattle.simplex_types.specs.declared.types.messages.Artifact.{Artifact}
use Rattle.simplex_round.specs.Round.{after_replay}
use Rattle.simplex_voter.specs.Facts.{StateFacts, round_of, with_round}
use Rattle.simplex_voter.specs.Replay.{bound_again, restored_binding, replayed_round, voted_proposal}

-- an entry of the record at its view, with its binding
pub restored_shown : {K L D S G C : Type 0} (same : D → D → Bool) (x : StateFacts K L D) (a : Artifact S D K G C)
    (v : ℕ) (binding : Option (Proposal D × D)) → v ≡ artifact_view a
    → binding ≡ option_and_then (restored_binding x) (voted_proposal a)
    → with_round x v (bound_again (after_replay (same_proposal same) (round_of x v) a) binding) ≡ with_round x
    (artifact_view a) (replayed_round same x a)
restored_shown same x a v binding at bound =
    ap (λ u. with_round x u (bound_again (after_replay (same_proposal same) (round_of x u) a) binding)) at
    ∙ ap (λ b. with_round x (artifact_view a)
    (bound_again (after_replay (same_proposal same) (round_of x (artifact_view a)) a) b)) bound

-- the same of a call that may find no memory
pub restored_on_ok : {A E K L D S G C : Type 0} (r : Result A E) (same : D → D → Bool) (x y : StateFacts K L D)
    (a : Artifact S D K G C) (v : ℕ) (binding : Option (Proposal D × D)) → v ≡ artifact_view a
    → binding ≡ option_and_then (restored_binding x) (voted_proposal a)
    → OnOk r (y ≡ with_round x v (bound_again (after_replay (same_proposal same) (round_of x v) a) binding))
    → OnOk r (y ≡ with_round x (artifact_view a) (replayed_round same x a))
restored_on_ok (Ok t) same x y a v binding at bound left = left ∙ restored_shown same x a v binding at bound
restored_on_ok (Err e) same x y a v binding at bound left = left
