-- The certificates, votes and moments of a round are those of the list of its calls.
use Rattle.std.proofs.Common.{◌≡◌, refl, sym, ap, ◌∙◌, ℕ, Bool, true, false, List, ◌∷◌, Option, Some, None, unwrap_or}
use Rattle.std.specs.Option.{option_map_or}
use Rattle.simplex_types.specs.declared.types.messages.Proposal.{Proposal}
use Rattle.simplex_types.specs.declared.types.messages.Artifact.{Artifact}
use Rattle.simplex_types.specs.declared.types.messages.Artifact.TheVariants as artifact
use Rattle.simplex_types.specs.declared.reasons.TimeoutReason.{TimeoutReason}
use Rattle.simplex_types.specs.Certificates.{ProposalFacts, NullificationFacts}
use Rattle.simplex_round.specs.declared.round.Decision.{Decision}
use Rattle.simplex_round.specs.declared.round.Decision.TheVariants.{Pending, Nullify, Finalize}
use Rattle.simplex_round.specs.Slot.{SlotFacts}
use Rattle.simplex_round.specs.Round.{RoundFacts, with_notarization, with_nullification, with_finalization, is_finalize, is_nullify, after_nullify, can_finalize, with_deadlines, with_latch, with_retry, TakesArtifact, after_replay}
use Rattle.simplex_round.specs.RoundHistory.{RoundCall, Notarized, Nullified, Finalized, NullifyVote, FinalizeVote, Entered, Proposed, Armed, TimedOut, Polled, Vote, ToNullify, ToFinalize, first_notarization, first_nullification, first_finalization, leader_deadline, certification_deadline, first_timeout, retry_moment, first_vote, decision_by, decision_of, DeterminesRound, after_artifact, ShowsEachCall}

-- the decision reads four things off the list, besides the vote
by_parts : {D : Type 0} (v : Option Vote) (cs ds : List (RoundCall D)) → leader_deadline cs ≡ leader_deadline ds
    → certification_deadline cs ≡ certification_deadline ds → first_timeout cs ≡ first_timeout ds
    → retry_moment cs ≡ retry_moment ds → decision_by v cs ≡ decision_by v ds
by_parts None cs ds l c t m = rw (l, c, t) refl
by_parts (Some ToNullify) cs ds l c t m = rw m refl
by_parts (Some ToFinalize) cs ds l c t m = refl

-- the decision, once the vote is known
voted : {K D : Type 0} (calls : List (RoundCall D)) (r : RoundFacts K D) (v : Option Vote) → DeterminesRound calls r
    → first_vote calls ≡ v → r.decision ≡ decision_by v calls
voted calls r v shown ev = shown.decision ∙ ap (λ w. decision_by w calls) ev

shows_notarization : {K D : Type 0} (same : Proposal D → Proposal D → Bool) (calls : List (RoundCall D))
    (r : RoundFacts K D) (c : ProposalFacts D) → DeterminesRound calls r
    → DeterminesRound (Notarized c ∷ calls) (with_notarization same r c)
shows_notarization {D = D} same calls r c shown = by (first_notarization calls) refl shown.notarization
  where
    unvoted : decision_of calls ≡ decision_of (Notarized c ∷ calls)
    unvoted = by_parts (first_vote calls) calls (Notarized c ∷ calls) refl refl refl refl

    by : (n : Option (ProposalFacts D)) → first_notarization calls ≡ n → r.notarization ≡ first_notarization calls
        → DeterminesRound (Notarized c ∷ calls) (with_notarization same r c)
    by None en from = let is : r.notarization ≡ None = from ∙ en in record {
      notarization = rw (is, en) refl;
      nullification = rw is shown.nullification;
      finalization = rw is shown.finalization;
      decision = rw is (shown.decision ∙ unvoted);
      stall_deadline = rw is shown.stall_deadline;
      entered_at = rw is shown.entered_at;
      proposed_at = rw is shown.proposed_at;
    }
    by (Some first) en from = let is : r.notarization ≡ Some first = from ∙ en in record {
      notarization = rw (is, en) refl;
      nullification = rw is shown.nullification;
      finalization = rw is shown.finalization;
      decision = rw is (shown.decision ∙ unvoted);
      stall_deadline = rw is shown.stall_deadline;
      entered_at = rw is shown.entered_at;
      proposed_at = rw is shown.proposed_at;
    }

shows_nullification : {K D : Type 0} (calls : List (RoundCall D)) (r : RoundFacts K D) (c : NullificationFacts)
    → DeterminesRound calls r → DeterminesRound (Nullified c ∷ calls) (with_nullification r c)
shows_nullification {D = D} calls r c shown = by (first_nullification calls) refl shown.nullification
  where
    unvoted : decision_of calls ≡ decision_of (Nullified c ∷ calls)
    unvoted = by_parts (first_vote calls) calls (Nullified c ∷ calls) refl refl refl refl

    by : (n : Option (NullificationFacts)) → first_nullification calls ≡ n → r.nullification ≡ first_nullification calls
        → DeterminesRound (Nullified c ∷ calls) (with_nullification r c)
    by None en from = let is : r.nullification ≡ None = from ∙ en in record {
      notarization = rw is shown.notarization;
      nullification = rw (is, en) refl;
      finalization = rw is shown.finalization;
      decision = rw is (shown.decision ∙ unvoted);
      stall_deadline = rw is shown.stall_deadline;
      entered_at = rw is shown.entered_at;
      proposed_at = rw is shown.proposed_at;
    }
    by (Some first) en from = let is : r.nullification ≡ Some first = from ∙ en in record {
      notarization = rw is shown.notarization;
      nullification = rw (is, en) refl;
      finalization = rw is shown.finalization;
      decision = rw is (shown.decision ∙ unvoted);
      stall_deadline = rw is shown.stall_deadline;
      entered_at = rw is shown.entered_at;
      proposed_at = rw is shown.proposed_at;
    }

shows_finalization : {K D : Type 0} (same : Proposal D → Proposal D → Bool) (calls : List (RoundCall D))
    (r : RoundFacts K D) (c : ProposalFacts D) → DeterminesRound calls r
    → DeterminesRound (Finalized c ∷ calls) (with_finalization same r c)
shows_finalization {D = D} same calls r c shown = by (first_finalization calls) refl shown.finalization
  where
    unvoted : decision_of calls ≡ decision_of (Finalized c ∷ calls)
    unvoted = by_parts (first_vote calls) calls (Finalized c ∷ calls) refl refl refl refl

    by : (n : Option (ProposalFacts D)) → first_finalization calls ≡ n → r.finalization ≡ first_finalization calls
        → DeterminesRound (Finalized c ∷ calls) (with_finalization same r c)
    by None en from = let is : r.finalization ≡ None = from ∙ en in record {
      notarization = rw is shown.notarization;
      nullification = rw is shown.nullification;
      finalization = rw (is, en) refl;
      decision = rw is (shown.decision ∙ unvoted);
      stall_deadline = rw is shown.stall_deadline;
      entered_at = rw is shown.entered_at;
      proposed_at = rw is shown.proposed_at;
    }
    by (Some first) en from = let is : r.finalization ≡ Some first = from ∙ en in record {
      notarization = rw is shown.notarization;
      nullification = rw is shown.nullification;
      finalization = rw (is, en) refl;
      decision = rw is (shown.decision ∙ unvoted);
      stall_deadline = rw is shown.stall_deadline;
      entered_at = rw is shown.entered_at;
      proposed_at = rw is shown.proposed_at;
    }

shows_nullify : {K D : Type 0} (calls : List (RoundCall D)) (r : RoundFacts K D) → DeterminesRound calls r
    → DeterminesRound (NullifyVote ∷ calls) (after_nullify r)
shows_nullify calls r shown = by (first_vote calls) refl
  where
    by : (v : Option Vote) → first_vote calls ≡ v → DeterminesRound (NullifyVote ∷ calls) (after_nullify r)
    by None ev = let d = voted calls r None shown ev in record {
      notarization = rw d shown.notarization;
      nullification = rw d shown.nullification;
      finalization = rw d shown.finalization;
      decision = rw (d, ev) refl;
      stall_deadline = rw d shown.stall_deadline;
      entered_at = rw d shown.entered_at;
      proposed_at = rw d shown.proposed_at;
    }
    by (Some ToNullify) ev = let d = voted calls r (Some ToNullify) shown ev in record {
      notarization = rw d shown.notarization;
      nullification = rw d shown.nullification;
      finalization = rw d shown.finalization;
      decision = rw (d, ev) refl;
      stall_deadline = rw d shown.stall_deadline;
      entered_at = rw d shown.entered_at;
      proposed_at = rw d shown.proposed_at;
    }
    by (Some ToFinalize) ev = let d = voted calls r (Some ToFinalize) shown ev in record {
      notarization = rw d shown.notarization;
      nullification = rw d shown.nullification;
      finalization = rw d shown.finalization;
      decision = rw (d, ev) refl;
      stall_deadline = rw d shown.stall_deadline;
      entered_at = rw d shown.entered_at;
      proposed_at = rw d shown.proposed_at;
    }

-- a vote to finalize that no vote to nullify came before
finalized : {K D : Type 0} (calls : List (RoundCall D)) (r : RoundFacts K D) → is_nullify r.decision ≡ false
    → DeterminesRound calls r → DeterminesRound (FinalizeVote ∷ calls) (record r { decision = Finalize })
finalized calls r free shown = by (first_vote calls) refl
  where
    by : (v : Option Vote) → first_vote calls ≡ v
        → DeterminesRound (FinalizeVote ∷ calls) (record r { decision = Finalize })
    by None ev = record {
      notarization = shown.notarization;
      nullification = shown.nullification;
      finalization = shown.finalization;
      decision = rw ev refl;
      stall_deadline = shown.stall_deadline;
      entered_at = shown.entered_at;
      proposed_at = shown.proposed_at;
    }
    by (Some ToNullify) ev =
        let d = voted calls r (Some ToNullify) shown ev in
        let bad : true ≡ false = rw d at free in
        absurd (cc)
    by (Some ToFinalize) ev = record {
      notarization = shown.notarization;
      nullification = shown.nullification;
      finalization = shown.finalization;
      decision = rw ev refl;
      stall_deadline = shown.stall_deadline;
      entered_at = shown.entered_at;
      proposed_at = shown.proposed_at;
    }

shows_finalize : {K D : Type 0} (calls : List (RoundCall D)) (r : RoundFacts K D) → can_finalize r ≡ true
    → DeterminesRound calls r → DeterminesRound (FinalizeVote ∷ calls) (record r { decision = Finalize })
shows_finalize calls r can shown = finalized calls r (by r.decision refl) shown
  where
    by : (d : Decision) → r.decision ≡ d → is_nullify r.decision ≡ false
    by (Pending _ _ _) e = rw e refl
    by (Nullify _) e =
        let bad : false ≡ true = rw e at can in
        absurd (cc)
    by Finalize e = rw e refl

-- a vote to nullify that no vote to finalize came before
nullified : {K D : Type 0} (calls : List (RoundCall D)) (r : RoundFacts K D) → is_finalize r.decision ≡ false
    → DeterminesRound calls r → DeterminesRound (NullifyVote ∷ calls) (record r { decision = Nullify None })
nullified calls r free shown = by (first_vote calls) refl
  where
    by : (v : Option Vote) → first_vote calls ≡ v
        → DeterminesRound (NullifyVote ∷ calls) (record r { decision = Nullify None })
    by None ev = record {
      notarization = shown.notarization;
      nullification = shown.nullification;
      finalization = shown.finalization;
      decision = rw ev refl;
      stall_deadline = shown.stall_deadline;
      entered_at = shown.entered_at;
      proposed_at = shown.proposed_at;
    }
    by (Some ToNullify) ev = record {
      notarization = shown.notarization;
      nullification = shown.nullification;
      finalization = shown.finalization;
      decision = rw ev refl;
      stall_deadline = shown.stall_deadline;
      entered_at = shown.entered_at;
      proposed_at = shown.proposed_at;
    }
    by (Some ToFinalize) ev =
        let d = voted calls r (Some ToFinalize) shown ev in
        let bad : true ≡ false = rw d at free in
        absurd (cc)

shows_replay : {S D K G C : Type 0} (same : Proposal D → Proposal D → Bool) (calls : List (RoundCall D))
    (r : RoundFacts K D) (a : Artifact S D K G C) → TakesArtifact r a → DeterminesRound calls r
    → DeterminesRound (after_artifact a calls) (after_replay same r a)
shows_replay same calls r (artifact.Notarize _) takes shown = record {
  notarization = shown.notarization;
  nullification = shown.nullification;
  finalization = shown.finalization;
  decision = shown.decision;
  stall_deadline = shown.stall_deadline;
  entered_at = shown.entered_at;
  proposed_at = shown.proposed_at;
}
shows_replay same calls r (artifact.Notarization _) takes shown = record {
  notarization = shown.notarization;
  nullification = shown.nullification;
  finalization = shown.finalization;
  decision = shown.decision;
  stall_deadline = shown.stall_deadline;
  entered_at = shown.entered_at;
  proposed_at = shown.proposed_at;
}
shows_replay same calls r (artifact.Nullification _) takes shown = record {
  notarization = shown.notarization;
  nullification = shown.nullification;
  finalization = shown.finalization;
  decision = shown.decision;
  stall_deadline = shown.stall_deadline;
  entered_at = shown.entered_at;
  proposed_at = shown.proposed_at;
}
shows_replay same calls r (artifact.Finalization _) takes shown = record {
  notarization = shown.notarization;
  nullification = shown.nullification;
  finalization = shown.finalization;
  decision = shown.decision;
  stall_deadline = shown.stall_deadline;
  entered_at = shown.entered_at;
  proposed_at = shown.proposed_at;
}
shows_replay same calls r (artifact.Certification _ _) takes shown = record {
  notarization = shown.notarization;
  nullification = shown.nullification;
  finalization = shown.finalization;
  decision = shown.decision;
  stall_deadline = shown.stall_deadline;
  entered_at = shown.entered_at;
  proposed_at = shown.proposed_at;
}
shows_replay same calls r (artifact.Nullify _) takes shown = nullified calls r takes.1 shown
shows_replay same calls r (artifact.Finalize _) takes shown = finalized calls r takes.1 shown

shows_entry : {K D : Type 0} (calls : List (RoundCall D)) (r : RoundFacts K D) (now : ℕ) → DeterminesRound calls r
    → DeterminesRound (Entered now ∷ calls) (record r { entered_at = Some (unwrap_or r.entered_at now) })
shows_entry calls r now shown = record {
  notarization = shown.notarization;
  nullification = shown.nullification;
  finalization = shown.finalization;
  decision = shown.decision ∙ by_parts (first_vote calls) calls (Entered now ∷ calls) refl refl refl refl;
  stall_deadline = shown.stall_deadline;
  entered_at = rw shown.entered_at refl;
  proposed_at = shown.proposed_at;
}

shows_proposed : {K D : Type 0} (calls : List (RoundCall D)) (r : RoundFacts K D) (now : ℕ) (slot : SlotFacts D)
    → DeterminesRound calls r → DeterminesRound (Proposed now ∷ calls)
    (record r { slot = slot; proposed_at = Some now })
shows_proposed calls r now slot shown = record {
  notarization = shown.notarization;
  nullification = shown.nullification;
  finalization = shown.finalization;
  decision = shown.decision ∙ by_parts (first_vote calls) calls (Proposed now ∷ calls) refl refl refl refl;
  stall_deadline = shown.stall_deadline;
  entered_at = shown.entered_at;
  proposed_at = refl;
}

shows_deadlines : {K D : Type 0} (calls : List (RoundCall D)) (r : RoundFacts K D) (leader certification : ℕ)
    (stall : Option ℕ) → DeterminesRound calls r
    → DeterminesRound (Armed leader certification stall ∷ calls) (with_deadlines r leader certification stall)
shows_deadlines calls r leader certification stall shown = record {
  notarization = shown.notarization;
  nullification = shown.nullification;
  finalization = shown.finalization;
  decision = by (first_vote calls) refl;
  stall_deadline = refl;
  entered_at = shown.entered_at;
  proposed_at = shown.proposed_at;
}
  where
    by : (v : Option Vote) → first_vote calls ≡ v
        → (with_deadlines r leader certification stall).decision ≡ decision_of
        (Armed leader certification stall ∷ calls)
    by None ev = let d = voted calls r None shown ev in rw (d, ev) refl
    by (Some ToNullify) ev = let d = voted calls r (Some ToNullify) shown ev in rw (d, ev) refl
    by (Some ToFinalize) ev = let d = voted calls r (Some ToFinalize) shown ev in rw (d, ev) refl

shows_timeout : {K D : Type 0} (calls : List (RoundCall D)) (r : RoundFacts K D) (now : ℕ) (reason : TimeoutReason)
    → DeterminesRound calls r → DeterminesRound (TimedOut now reason ∷ calls) (with_latch r now reason)
shows_timeout calls r now reason shown = record {
  notarization = shown.notarization;
  nullification = shown.nullification;
  finalization = shown.finalization;
  decision = by (first_vote calls) (first_timeout calls) refl refl;
  stall_deadline = shown.stall_deadline;
  entered_at = shown.entered_at;
  proposed_at = shown.proposed_at;
}
  where
    by : (v : Option Vote) (t : Option (ℕ × TimeoutReason)) → first_vote calls ≡ v → first_timeout calls ≡ t
        → (with_latch r now reason).decision ≡ decision_of (TimedOut now reason ∷ calls)
    by None None ev et = let d = voted calls r None shown ev in rw (d, ev, et) refl
    by None (Some first) ev et = let d = voted calls r None shown ev in rw (d, ev, et) refl
    by (Some ToNullify) t ev et = let d = voted calls r (Some ToNullify) shown ev in rw (d, ev) refl
    by (Some ToFinalize) t ev et = let d = voted calls r (Some ToFinalize) shown ev in rw (d, ev) refl

or_none : (m : Option ℕ) → m ≡ option_map_or (λ first. Some first) m None
or_none None = refl
or_none (Some moment) = refl

shows_poll : {K D : Type 0} (calls : List (RoundCall D)) (r : RoundFacts K D) (now interval : ℕ)
    → DeterminesRound calls r → DeterminesRound (Polled now interval ∷ calls) (with_retry r now interval)
shows_poll {D = D} calls r now interval shown =
    by (first_finalization calls) (first_vote calls) (retry_moment calls) refl refl refl
  where
    by : (f : Option (ProposalFacts D)) (v : Option Vote) (m : Option ℕ) → first_finalization calls ≡ f
        → first_vote calls ≡ v → retry_moment calls ≡ m
        → DeterminesRound (Polled now interval ∷ calls) (with_retry r now interval)
    by (Some c) v m ef ev em =
        let fin : r.finalization ≡ Some c = shown.finalization ∙ ef in
        let vain : retry_moment calls ≡ retry_moment (Polled now interval ∷ calls) =
        rw ef (or_none (retry_moment calls)) in
        record {
          notarization = rw fin shown.notarization;
          nullification = rw fin shown.nullification;
          finalization = rw fin (sym ef);
          decision = rw fin
              (shown.decision ∙ by_parts (first_vote calls) calls (Polled now interval ∷ calls) refl refl refl vain);
          stall_deadline = rw fin shown.stall_deadline;
          entered_at = rw fin shown.entered_at;
          proposed_at = rw fin shown.proposed_at;
        }
    by None None m ef ev em =
        let fin : r.finalization ≡ None = shown.finalization ∙ ef in
        let d = voted calls r None shown ev in
        record {
          notarization = rw (fin, d) shown.notarization;
          nullification = rw (fin, d) shown.nullification;
          finalization = rw (fin, d) (sym ef);
          decision = rw (fin, d, ev) refl;
          stall_deadline = rw (fin, d) shown.stall_deadline;
          entered_at = rw (fin, d) shown.entered_at;
          proposed_at = rw (fin, d) shown.proposed_at;
        }
    by None (Some ToFinalize) m ef ev em =
        let fin : r.finalization ≡ None = shown.finalization ∙ ef in
        let d = voted calls r (Some ToFinalize) shown ev in
        record {
          notarization = rw (fin, d) shown.notarization;
          nullification = rw (fin, d) shown.nullification;
          finalization = rw (fin, d) (sym ef);
          decision = rw (fin, d, ev) refl;
          stall_deadline = rw (fin, d) shown.stall_deadline;
          entered_at = rw (fin, d) shown.entered_at;
          proposed_at = rw (fin, d) shown.proposed_at;
        }
    by None (Some ToNullify) None ef ev em =
        let fin : r.finalization ≡ None = shown.finalization ∙ ef in
        let d = voted calls r (Some ToNullify) shown ev in
        record {
          notarization = rw (fin, d, em) shown.notarization;
          nullification = rw (fin, d, em) shown.nullification;
          finalization = rw (fin, d, em) (sym ef);
          decision = rw (fin, d, em, ev, em, ef) refl;
          stall_deadline = rw (fin, d, em) shown.stall_deadline;
          entered_at = rw (fin, d, em) shown.entered_at;
          proposed_at = rw (fin, d, em) shown.proposed_at;
        }
    by None (Some ToNullify) (Some moment) ef ev em =
        let fin : r.finalization ≡ None = shown.finalization ∙ ef in
        let d = voted calls r (Some ToNullify) shown ev in
        record {
          notarization = rw (fin, d, em) shown.notarization;
          nullification = rw (fin, d, em) shown.nullification;
          finalization = rw (fin, d, em) (sym ef);
          decision = rw (fin, d, em, ev, em) refl;
          stall_deadline = rw (fin, d, em) shown.stall_deadline;
          entered_at = rw (fin, d, em) shown.entered_at;
          proposed_at = rw (fin, d, em) shown.proposed_at;
        }

pub shows_each_call : {S D K G C : Type 0} (same : Proposal D → Proposal D → Bool) → ShowsEachCall S D K G C same
shows_each_call same =
    record {
      start = λ me members round. record {
        notarization = refl;
        nullification = refl;
        finalization = refl;
        decision = refl;
        stall_deadline = refl;
        entered_at = refl;
        proposed_at = refl;
      };
      notarization = shows_notarization same;
      nullification = shows_nullification;
      finalization = shows_finalization same;
      nullify = shows_nullify;
      finalize = shows_finalize;
      replay = shows_replay same;
      entry = shows_entry;
      proposed = shows_proposed;
      deadlines = shows_deadlines;
      timeout = shows_timeout;
      poll = shows_poll;
    }
