-- Changes of a round that keep its member, its notarization and its leader, and mostly make nothing of it that is
-- searched for.
use Rattle.std.proofs.Common.{◌≡◌, ℕ, ◌+◌, ◌≤◌, Bool, true, false, cond, Option, Some, None, Result, Ok, Err, OnOk, OnErr, is_some, ◌||◌, ◌⊎◌, inl, inr, refl}
use Rattle.std.proofs.lemmas.Bool.{false≢true}
use Rattle.simplex_types.specs.Proposal.{same_proposal}
use Rattle.simplex_types.specs.declared.types.messages.Proposal.{Proposal}
use Rattle.simplex_types.specs.declared.types.messages.Artifact.{Artifact}
use Rattle.simplex_types.specs.declared.types.messages.Artifact.TheVariants as artifact
use Rattle.simplex_types.specs.Certificates.{ProposalFacts, NullificationFacts}
use Rattle.simplex_round.specs.declared.round.Decision.TheVariants.{Nullify}
use Rattle.simplex_round.specs.declared.round.Certification.{Certification}
use Rattle.simplex_round.specs.declared.round.Certification.TheVariants.{Ready, Outstanding, Judged, Aborted}
use Rattle.simplex_round.specs.Slot.{after_vote}
use Rattle.simplex_round.specs.Round.{RoundFacts, is_judged, is_certified, token_of, certified_round, is_finalize, is_nullify, after_abort, awaits_retry, with_recovered, with_nullification, with_finalization, after_nullify, with_retry, after_replay}
use Rattle.simplex_voter.specs.declared.voter.rounds.Deadlines.{Deadlines}
use Rattle.simplex_voter.specs.declared.voter.rounds.Bounds.{Bounds}
use Rattle.simplex_voter.specs.Rounds.{with_entry, is_explicit, MayBeRefused, MayBeJudged, MayBeRecalled}
use Rattle.simplex_voter.specs.Certification.{without_token}
use Rattle.simplex_voter.specs.Replay.{bound_again}
use Rattle.simplex_voter.specs.Verification.{with_proposal}

abort_explicit : (b : Bool) (c : Certification) → (b || is_certified (after_abort c)) ≡ true
    → (b || is_certified c) ≡ true
abort_explicit true c is = refl
abort_explicit false Ready is = is
abort_explicit false (Outstanding token) is = is
abort_explicit false (Judged verdict) is = is
abort_explicit false Aborted is = is

asked_explicit : (b c : Bool) → (b || false) ≡ true → (b || c) ≡ true
asked_explicit true c is = refl
asked_explicit false c is = absurd (false≢true is)

abort_under_way : (c : Certification) → is_some (token_of (after_abort c)) ≡ true → is_some (token_of c) ≡ true
abort_under_way Ready is = is
abort_under_way (Outstanding token) is = refl
abort_under_way (Judged verdict) is = is
abort_under_way Aborted is = is

abort_refused : (c : Certification) → is_judged false (after_abort c) ≡ true → is_judged false c ≡ true
abort_refused Ready is = is
abort_refused (Outstanding token) is = is
abort_refused (Judged verdict) is = is
abort_refused Aborted is = is

-- an abandoned certification is not under way
pub none_after_abort : (c : Certification) → is_some (token_of (after_abort c)) ≡ false
none_after_abort Ready = refl
none_after_abort (Outstanding token) = refl
none_after_abort (Judged verdict) = refl
none_after_abort Aborted = refl

module _ (h : Bounds) (v : ℕ) where
  verdict_explicit : (b c success : Bool) → MayBeJudged h v success → (b || is_judged true (Judged success)) ≡ true
      → ((b || c) ≡ true) ⊎ (v ≤ h.explicit)
  verdict_explicit true c success may is = inl refl
  verdict_explicit false c true may is = inr (may.explicit refl)
  verdict_explicit false c false may is = absurd (false≢true is)

  verdict_refused : (was : Bool) (success : Bool) → MayBeJudged h v success → is_judged false (Judged success) ≡ true
      → (was ≡ true) ⊎ MayBeRefused h v
  verdict_refused was true may is = absurd (false≢true is)
  verdict_refused was false may is = inr (may.refused refl)

module _ {K D : Type 0} where
  -- it is explicit, under certification or certified false only if it was so before, or if the bounds allow it
  pub record IsAlike (h : Bounds) (v : ℕ) (r s : RoundFacts K D) : Type 0 where
    pub me : s.me ≡ r.me
    pub members : s.members ≡ r.members
    pub round : s.round ≡ r.round
    pub notarization : s.notarization ≡ r.notarization
    pub leader : s.leader ≡ r.leader
    pub explicit : is_explicit s ≡ true → (is_explicit r ≡ true) ⊎ (v ≤ h.explicit)
    pub under_way : is_some (token_of s.certification) ≡ true
        → (is_some (token_of r.certification) ≡ true) ⊎ (h.under_way ≤ v)
    pub refused : is_judged false s.certification ≡ true → (is_judged false r.certification ≡ true) ⊎ MayBeRefused h v

module _ {K D : Type 0} {h : Bounds} {v : ℕ} where
  pub unchanged : (r : RoundFacts K D) → IsAlike h v r r
  unchanged r = record {
    me = refl;
    members = refl;
    round = refl;
    notarization = refl;
    leader = refl;
    explicit = inl;
    under_way = inl;
    refused = inl;
  }

  pub alike_same : (r s : RoundFacts K D) → s ≡ r → IsAlike h v r s
  alike_same r s same = rw same (unchanged r)

  -- a call that is refused changes nothing
  pub handed_out_alike : {A E : Type 0} (result : Result A E) (r s t : RoundFacts K D) → IsAlike h v r t
      → OnErr result (s ≡ r) → OnOk result (s ≡ t) → IsAlike h v r s
  handed_out_alike (Ok a) r s t alike err ok = rw ok alike
  handed_out_alike (Err e) r s t alike err ok = alike_same r s err

  pub nullified_alike : (r s : RoundFacts K D) (c : NullificationFacts) → s ≡ with_nullification r c → IsAlike h v r s
  nullified_alike r s c is = rw is (by_kept _)
    where
      by_kept : (b : Bool) → IsAlike h v r (cond b r (record r { nullification = Some c }))
      by_kept true = unchanged r
      by_kept false = record {
        me = refl;
        members = refl;
        round = refl;
        notarization = refl;
        leader = refl;
        explicit = inl;
        under_way = inl;
        refused = inl;
      }

  pub finalized_alike : (same : Proposal D → Proposal D → Bool) (r s : RoundFacts K D) (c : ProposalFacts D)
      → v ≤ h.explicit → s ≡ with_finalization same r c → IsAlike h v r s
  finalized_alike same r s c may is = rw is (by_kept _)
    where
      by_kept : (b : Bool)
          → IsAlike h v r (cond b r (record (with_recovered same r c.proposal) { finalization = Some c }))
      by_kept true = unchanged r
      by_kept false = record {
        me = refl;
        members = refl;
        round = refl;
        notarization = refl;
        leader = refl;
        explicit = λ _. inr may;
        under_way = inl;
        refused = inl;
      }

  pub entered_alike : (r s : RoundFacts K D) (now : ℕ) (deadlines : Deadlines) → s ≡ with_entry r now deadlines
      → IsAlike h v r s
  entered_alike r s now deadlines is = rw is
      (record {
        me = refl;
        members = refl;
        round = refl;
        notarization = refl;
        leader = refl;
        explicit = inl;
        under_way = inl;
        refused = inl;
      })

  pub decided_alike : (r s : RoundFacts K D) → s ≡ after_nullify r → IsAlike h v r s
  decided_alike r s is = rw is (by_decision (is_finalize r.decision))
    where
      by_decision : (b : Bool) → IsAlike h v r (cond b r (record r { decision = Nullify None }))
      by_decision true = unchanged r
      by_decision false = record {
        me = refl;
        members = refl;
        round = refl;
        notarization = refl;
        leader = refl;
        explicit = inl;
        under_way = inl;
        refused = inl;
      }

  pub polled_alike : {A E : Type 0} (result : Result A E) (r s : RoundFacts K D) (now retry : ℕ) → OnErr result (s ≡ r)
      → OnOk result (s ≡ with_retry r now retry) → IsAlike h v r s
  polled_alike result r s now retry err ok =
      handed_out_alike result r s (with_retry r now retry) (by_test (awaits_retry r)) err ok
    where
      by_test : (b : Bool) → IsAlike h v r (cond b (record r { decision = Nullify (Some (now + retry)) }) r)
      by_test true = record {
        me = refl;
        members = refl;
        round = refl;
        notarization = refl;
        leader = refl;
        explicit = inl;
        under_way = inl;
        refused = inl;
      }
      by_test false = unchanged r

  pub proposed_alike : (same : D → D → Bool) (r s : RoundFacts K D) (p : Proposal D) → s ≡ with_proposal same r p
      → IsAlike h v r s
  proposed_alike same r s p is = rw is (by_decision (is_nullify r.decision))
    where
      by_decision : (b : Bool) → IsAlike h v r (cond b r (record r { slot = after_vote (same_proposal same) r.slot p }))
      by_decision true = unchanged r
      by_decision false = record {
        me = refl;
        members = refl;
        round = refl;
        notarization = refl;
        leader = refl;
        explicit = inl;
        under_way = inl;
        refused = inl;
      }

  pub token_alike : (r : RoundFacts K D) → IsAlike h v r (without_token r)
  token_alike r = by_test _
    where
      by_test : (b : Bool) → IsAlike h v r (cond b (record r { certification = after_abort r.certification }) r)
      by_test true = record {
        me = refl;
        members = refl;
        round = refl;
        notarization = refl;
        leader = refl;
        explicit = λ is. inl (abort_explicit (is_some r.finalization) r.certification is);
        under_way = λ is. inl (abort_under_way r.certification is);
        refused = λ is. inl (abort_refused r.certification is);
      }
      by_test false = unchanged r

  -- a certification that is asked for
  pub asked_alike : (r s : RoundFacts K D) (token : ℕ) → h.under_way ≤ v
      → s ≡ record r { certification = Outstanding token } → IsAlike h v r s
  asked_alike r s token may is = rw is (record {
    me = refl;
    members = refl;
    round = refl;
    notarization = refl;
    leader = refl;
    explicit = λ is. inl (asked_explicit (is_some r.finalization) (is_certified r.certification) is);
    under_way = λ _. inr may;
    refused = λ never. absurd (false≢true never);
  })

  -- a verdict, which makes the payload explicit where it is true
  pub judged_alike : (r s : RoundFacts K D) (success : Bool) → MayBeJudged h v success → s ≡ certified_round r success
      → IsAlike h v r s
  judged_alike r s success may is = rw is (record {
    me = refl;
    members = refl;
    round = refl;
    notarization = refl;
    leader = refl;
    explicit = verdict_explicit h v (is_some r.finalization) (is_certified r.certification) success may;
    under_way = λ never. absurd (false≢true never);
    refused = verdict_refused h v _ success may;
  })

  bound_alike : (r s : RoundFacts K D) (binding : Option (Proposal D × D)) → IsAlike h v r s
      → IsAlike h v r (bound_again s binding)
  bound_alike r s None alike = alike
  bound_alike r s (Some bound) alike = record {
    me = alike.me;
    members = alike.members;
    round = alike.round;
    notarization = alike.notarization;
    leader = alike.leader;
    explicit = alike.explicit;
    under_way = alike.under_way;
    refused = alike.refused;
  }

  module _ {S G C : Type 0} (same : Proposal D → Proposal D → Bool) where
    kept_alike : (r : RoundFacts K D) (a : Artifact S D K G C) → MayBeRecalled h v a
        → IsAlike h v r (after_replay same r a)
    kept_alike r (artifact.Notarize vote) may =
        record {
          me = refl;
          members = refl;
          round = refl;
          notarization = refl;
          leader = refl;
          explicit = inl;
          under_way = inl;
          refused = inl;
        }
    kept_alike r (artifact.Notarization n) may =
        record {
          me = refl;
          members = refl;
          round = refl;
          notarization = refl;
          leader = refl;
          explicit = inl;
          under_way = inl;
          refused = inl;
        }
    kept_alike r (artifact.Certification round success) may = judged_alike r _ success may refl
    kept_alike r (artifact.Nullify vote) may =
        record {
          me = refl;
          members = refl;
          round = refl;
          notarization = refl;
          leader = refl;
          explicit = inl;
          under_way = inl;
          refused = inl;
        }
    kept_alike r (artifact.Nullification n) may =
        record {
          me = refl;
          members = refl;
          round = refl;
          notarization = refl;
          leader = refl;
          explicit = inl;
          under_way = inl;
          refused = inl;
        }
    kept_alike r (artifact.Finalize vote) may =
        record {
          me = refl;
          members = refl;
          round = refl;
          notarization = refl;
          leader = refl;
          explicit = inl;
          under_way = inl;
          refused = inl;
        }
    kept_alike r (artifact.Finalization f) may =
        record {
          me = refl;
          members = refl;
          round = refl;
          notarization = refl;
          leader = refl;
          explicit = inl;
          under_way = inl;
          refused = inl;
        }

    pub recalled_alike : (r s : RoundFacts K D) (a : Artifact S D K G C) (binding : Option (Proposal D × D))
        → MayBeRecalled h v a → s ≡ bound_again (after_replay same r a) binding → IsAlike h v r s
    recalled_alike r s a binding may is = rw is (bound_alike r (after_replay same r a) binding (kept_alike r a may))
