-- The entries of its view that a round shows: each certificate that is there, the verdict, and the votes that are
-- decided. Each event keeps
-- what is shown, unless a prune drops the view, and a call's new entries are shown after it.
use Rattle.std.proofs.Common.{◌≡◌, refl, ap, sym, ◌∙◌, ℕ, ◌⊎◌, Bool, true, false, not, ◌||◌, Some, None, is_some, arith}
use Rattle.std.proofs.lemmas.Bool.{false≢true}
use Rattle.simplex_types.specs.Certificates.{Notarized, Nullified, Finalized, ArtifactFacts, NotarizeVote, NullifyVote, FinalizeVote, Verdict, Accepted}
use Rattle.simplex_types.specs.declared.reasons.TimeoutReason.{TimeoutReason}
use Rattle.simplex_round.specs.declared.round.Certification.{Certification}
use Rattle.simplex_round.specs.declared.round.Certification.TheVariants as certification
use Rattle.simplex_round.specs.declared.round.Decision.{Decision}
use Rattle.simplex_round.specs.declared.round.Decision.TheVariants as decision
use Rattle.simplex_round.specs.Round.{RoundFacts, is_pending, is_judged, after_abort, with_decision_deadlines, with_first_timeout}
use Rattle.simplex_voter.specs.Facts.{StateFacts, Elect, round_of}
use Rattle.simplex_record.specs.Events as event
use Rattle.simplex_record.specs.Events.{Event, IsEvent, after_event, is_prune}
use Rattle.simplex_record.proofs.Paths.{event_path, asked_of_all}
use Rattle.simplex_record.proofs.Steps as step
use Rattle.simplex_record.proofs.Steps.{RoundStep, Path}
use Rattle.laws_safety.proofs.frames.EachRound.{IsGone, rounds_along, rounds_or_gone}

-- there is some verdict
abbrev pub has_verdict : Certification → Bool
has_verdict c = is_judged true c || is_judged false c

-- the round shows an entry of its view
abbrev pub has_entry : {K D : Type 0} → RoundFacts K D → ArtifactFacts D → Bool
has_entry r (NotarizeVote _ _) = r.notarize_decided
has_entry r (NullifyVote _ _) = not (is_pending r.decision)
has_entry r (FinalizeVote _ _) = not (is_pending r.decision)
has_entry r (Verdict _ _) = has_verdict r.certification
has_entry r (Accepted (Notarized _)) = is_some r.notarization
has_entry r (Accepted (Nullified _)) = is_some r.nullification
has_entry r (Accepted (Finalized _)) = is_some r.finalization

-- the second round shows what the first does
pub record Retains {K D : Type 0} (r s : RoundFacts K D) : Type 0 where
  pub voted : r.notarize_decided ≡ true → s.notarize_decided ≡ true
  pub decided : not (is_pending r.decision) ≡ true → not (is_pending s.decision) ≡ true
  pub judged : has_verdict r.certification ≡ true → has_verdict s.certification ≡ true
  pub notarization : is_some r.notarization ≡ true → is_some s.notarization ≡ true
  pub nullification : is_some r.nullification ≡ true → is_some s.nullification ≡ true
  pub finalization : is_some r.finalization ≡ true → is_some s.finalization ≡ true

module _ {K D : Type 0} where
  pub entry_retained : (r s : RoundFacts K D) (a : ArtifactFacts D) → Retains r s → has_entry r a ≡ true
      → has_entry s a ≡ true
  entry_retained r s (NotarizeVote _ _) retains = retains.voted
  entry_retained r s (NullifyVote _ _) retains = retains.decided
  entry_retained r s (FinalizeVote _ _) retains = retains.decided
  entry_retained r s (Verdict _ _) retains = retains.judged
  entry_retained r s (Accepted (Notarized _)) retains = retains.notarization
  entry_retained r s (Accepted (Nullified _)) retains = retains.nullification
  entry_retained r s (Accepted (Finalized _)) retains = retains.finalization

  retained_on : (v : ℕ) (r s t : RoundFacts K D) → Retains r s → Retains s t → Retains r t
  retained_on v r s t p q = record {
    voted = λ h. q.voted (p.voted h);
    decided = λ h. q.decided (p.decided h);
    judged = λ h. q.judged (p.judged h);
    notarization = λ h. q.notarization (p.notarization h);
    nullification = λ h. q.nullification (p.nullification h);
    finalization = λ h. q.finalization (p.finalization h);
  }

pub judged_verdict : (success : Bool) → has_verdict (certification.Judged success) ≡ true
judged_verdict true = refl
judged_verdict false = refl

pub judged_some : (success : Bool) (c : Certification) → is_judged success c ≡ true → has_verdict c ≡ true
judged_some true c is = rw is refl
judged_some false c is = by_true (is_judged true c)
  where
    by_true : (b : Bool) → (b || is_judged false c) ≡ true
    by_true true = refl
    by_true false = is

ended_verdict : (c : Certification) → has_verdict c ≡ true → has_verdict (after_abort c) ≡ true
ended_verdict certification.Ready is = absurd (false≢true is)
ended_verdict (certification.Outstanding _) is = absurd (false≢true is)
ended_verdict (certification.Judged _) is = is
ended_verdict certification.Aborted is = absurd (false≢true is)

armed_decided : (d : Decision) (leader certified : ℕ) → not (is_pending d) ≡ true
    → not (is_pending (with_decision_deadlines d leader certified)) ≡ true
armed_decided (decision.Pending _ _ _) leader certified is = is
armed_decided (decision.Nullify _) leader certified is = is
armed_decided decision.Finalize leader certified is = is

latched_decided : (d : Decision) (timeout : ℕ × TimeoutReason) → not (is_pending d) ≡ true
    → not (is_pending (with_first_timeout d timeout)) ≡ true
latched_decided (decision.Pending _ _ None) timeout is = is
latched_decided (decision.Pending _ _ (Some _)) timeout is = is
latched_decided (decision.Nullify _) timeout is = is
latched_decided decision.Finalize timeout is = is

module _ {K L D : Type 0} (same : D → D → Bool) (elect : Elect L) (x : StateFacts K L D) (e : Event K D)
    (handles : (v token : ℕ) → e ≡ event.SetCertifyHandle v token → IsEvent x e) where
  change_retains : (y : StateFacts K L D) (v : ℕ) (r s : RoundFacts K D) → RoundStep same elect x e y v r s
      → Retains r s
  change_retains y v r s (step.Entered now) =
      record {
        voted = λ h. h;
        decided = armed_decided r.decision _ _;
        judged = λ h. h;
        notarization = λ h. h;
        nullification = λ h. h;
        finalization = λ h. h;
      }
  change_retains y v r s (step.Latched now reason) =
      record {
        voted = λ h. h;
        decided = latched_decided r.decision (now, reason);
        judged = λ h. h;
        notarization = λ h. h;
        nullification = λ h. h;
        finalization = λ h. h;
      }
  change_retains y v r s (step.Notarized c says at none) =
      record {
        voted = λ h. h;
        decided = λ h. h;
        judged = λ h. h;
        notarization = λ h. refl;
        nullification = λ h. h;
        finalization = λ h. h;
      }
  change_retains y v r s (step.Nullified c says at none) =
      record {
        voted = λ h. h;
        decided = λ h. h;
        judged = λ h. h;
        notarization = λ h. h;
        nullification = λ h. refl;
        finalization = λ h. h;
      }
  change_retains y v r s (step.Finalized c says at none) =
      record {
        voted = λ h. h;
        decided = λ h. h;
        judged = λ h. h;
        notarization = λ h. h;
        nullification = λ h. h;
        finalization = λ h. refl;
      }
  change_retains y v r s (step.Judged success says fits) =
      record {
        voted = λ h. h;
        decided = λ h. h;
        judged = λ h. judged_verdict success;
        notarization = λ h. h;
        nullification = λ h. h;
        finalization = λ h. h;
      }
  change_retains y v r s (step.Certifying token says fits) = record {
    voted = λ h. h;
    decided = λ h. h;
    judged = λ h. absurd (let none = fits (handles v token says) in
        false≢true (sym (ap (λ b. b || is_judged false r.certification) (none true) ∙ none false) ∙ h));
    notarization = λ h. h;
    nullification = λ h. h;
    finalization = λ h. h;
  }
  change_retains y v r s (step.Ended under_way) =
      record {
        voted = λ h. h;
        decided = λ h. h;
        judged = ended_verdict r.certification;
        notarization = λ h. h;
        nullification = λ h. h;
        finalization = λ h. h;
      }
  change_retains y v r s (step.NullifyDecided says unless_finalized) =
      record {
        voted = λ h. h;
        decided = λ h. refl;
        judged = λ h. h;
        notarization = λ h. h;
        nullification = λ h. h;
        finalization = λ h. h;
      }
  change_retains y v r s (step.FinalizeDecided says unless_nullified) =
      record {
        voted = λ h. h;
        decided = λ h. refl;
        judged = λ h. h;
        notarization = λ h. h;
        nullification = λ h. h;
        finalization = λ h. h;
      }
  change_retains y v r s (step.NotarizeDecided says may) =
      record {
        voted = λ h. refl;
        decided = λ h. h;
        judged = λ h. h;
        notarization = λ h. h;
        nullification = λ h. h;
        finalization = λ h. h;
      }
  change_retains y v r s (step.VotedAgain p binding says at is) =
      record {
        voted = λ h. refl;
        decided = λ h. h;
        judged = λ h. h;
        notarization = λ h. h;
        nullification = λ h. h;
        finalization = λ h. h;
      }
  change_retains y v r s (step.Retried now interval says awaits) =
      record {
        voted = λ h. h;
        decided = λ h. refl;
        judged = λ h. h;
        notarization = λ h. h;
        nullification = λ h. h;
        finalization = λ h. h;
      }
  change_retains y v r s _ = record {
    voted = λ h. h;
    decided = λ h. h;
    judged = λ h. h;
    notarization = λ h. h;
    nullification = λ h. h;
    finalization = λ h. h;
  }

  -- each event keeps what a round shows, or a prune drops the view
  pub event_retains : (v : ℕ) → Retains (round_of x v) (round_of (after_event same elect x e) v)
      ⊎ ((is_prune e ≡ true) × IsGone x (after_event same elect x e) v)
  event_retains = rounds_or_gone same elect x e 0 (λ v r s. Retains r s) retained_on change_retains
      (event_path same elect 0 x e (omega arith) (asked_of_all x e))

  pub path_retains : is_prune e ≡ false → (y z : StateFacts K L D) → Path same elect x e 0 y z → (v : ℕ)
      → Retains (round_of y v) (round_of z v)
  path_retains = rounds_along same elect x e 0 (λ v r s. Retains r s) retained_on change_retains
