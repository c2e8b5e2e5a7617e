-- What a scan for proposals to verify says of the work on a view.
use Rattle.std.proofs.Common.{◌≡◌, refl, sym, ℕ, Bool, true, false, ◌||◌, if◌then◌else◌, Option, Some, None, unwrap_or}
use Rattle.std.specs.Option.{option_or}
use Rattle.simplex_types.specs.declared.types.messages.Proposal.{Proposal}
use Rattle.simplex_types.specs.declared.reasons.TimeoutReason.TheVariants.{InvalidProposal}
use Rattle.simplex_round.specs.Round.{RoundFacts}
use Rattle.simplex_voter.specs.declared.voter.verify.Standing.{Standing}
use Rattle.simplex_voter.specs.declared.voter.verify.Standing.TheVariants.{NothingToDo, Invalid, Lacks, Ready}
use Rattle.simplex_voter.specs.Facts.{Settings, StateFacts, Elect, round_of, is_tracked}
use Rattle.simplex_voter.specs.Verification.{round_left, standing, was_scanned, after_try_verify}
use Rattle.simplex_record.specs.Events.{Event, TryVerify}
use Rattle.laws_safety.specs.ProposalStandings.{is_given_out, is_invalid, lacked_view}
use Rattle.laws_history.specs.WorkRequests.{bound_by}
use Rattle.laws_safety.proofs.votes.Scanned.{round_scanned, tracked_scanned}
use Rattle.laws_history.proofs.Worked.{Worked, work_in, work_of, timed, adds_work, WorkFollows, untimed}
use Rattle.laws_history.proofs.work.Puts.{unentered, shared_follows}
use Rattle.laws_history.proofs.work.Timeouts.{latched_timed}

-- the work on a view, with what a scan makes of it where the view's proposal is in this state
abbrev stood : {K D : Type 0} → Settings → (moment : ℕ) → (held : Option (Proposal D)) → Standing D → Worked K D
    → Worked K D
stood settings moment held s k = record k {
  verify_requested = is_given_out s || k.verify_requested;
  decision = timed settings None (if is_invalid s then Some (moment, InvalidProposal) else None) None k.decision;
  last_request = option_or (lacked_view s) k.last_request;
  binding = unwrap_or (bound_by held s) k.binding;
}

module _ {K D : Type 0} (settings : Settings) (moment : ℕ) (tracked : Bool) (r : RoundFacts K D) where
  round_stood : (b : Bool) (s : Standing D)
      → work_in tracked (if b then round_left r moment s else r) ≡ stood settings moment r.slot.held
      (if b then s else NothingToDo) (work_in tracked r)
  round_stood true Invalid = rw (sym (latched_timed settings r.decision (moment, InvalidProposal))) refl
  round_stood false s = rw (untimed settings r.decision) refl
  round_stood true NothingToDo = rw (untimed settings r.decision) refl
  round_stood true (Lacks w kind) = rw (untimed settings r.decision) refl
  round_stood true (Ready d) = rw (untimed settings r.decision) refl

module _ {K L D : Type 0} (same : D → D → Bool) (elect : Elect L) (x : StateFacts K L D) where
  pub try_verify_works : WorkFollows same elect TryVerify x (after_try_verify same elect x)
  try_verify_works = shared_follows same elect x e (λ v. refl) (after_try_verify same elect x) refl (λ v _. by_scan v)
    where
      e : Event K D
      e = TryVerify

      by_scan : (v : ℕ) → work_of (after_try_verify same elect x) v ≡ adds_work same elect x e v (work_of x v)
      by_scan v =
          rw (tracked_scanned same elect x v, round_scanned same elect x v, unentered x e v refl)
          (round_stood x.settings x.moment (is_tracked x v) (round_of x v) (was_scanned same elect x v)
          (standing same elect x (v, round_of x v)))
