-- For `votes_are_lawful`.
-- Each entry that is taken again keeps the state's votes, and the current view does not fall.
use Rattle.std.proofs.Common.{◌≡◌, refl, ap, sym, ◌∙◌, subst, ℕ, ◌<◌, ◌≤◌, inl, inr, Bool, true, false, if◌then◌else◌, nat_lt, List, [], ◌∷◌, ◌++◌, None, arith}
use Rattle.std.specs.Ordering.{nat_cmp}
use Rattle.std.specs.BTreeSet.{insert_key}
use Rattle.std.proofs.lemmas.Bool.{ltb-true}
use Rattle.std.proofs.lemmas.List.{append-nil}
use Rattle.simplex_types.specs.Certificates.{CertificateFacts, Notarized, Nullified, Finalized, ArtifactFacts, NotarizeVote, NullifyVote, FinalizeVote, Verdict, Accepted}
use Rattle.simplex_types.specs.declared.types.messages.Subject.TheVariants as subject
use Rattle.simplex_types.specs.declared.types.numbers.Round.{Round}
use Rattle.simplex_round.specs.declared.round.Decision.TheVariants as decision
use Rattle.simplex_round.specs.Round.{RoundFacts, is_nullify, is_finalize, certified_round}
use Rattle.simplex_voter.specs.Facts.{StateFacts, Elect, round_of, with_round}
use Rattle.simplex_voter.specs.Windows.{min_active}
use Rattle.simplex_voter.specs.Certification.{after_certified}
use Rattle.simplex_record.specs.Entries.{entry_view}
use Rattle.simplex_record.specs.Recovery.{after_entry, after_kept_entry}
use Rattle.laws_safety.specs.Traces.{TraceEvent, Accepts}
use Rattle.simplex_record.specs.Events as event
use Rattle.simplex_record.specs.Events.{Event, after_event}
use Rattle.laws_safety.proofs.frames.CallsMake.{retaken_keeps}
use Rattle.laws_safety.proofs.votes.NullifyVotes.{noted_new}
use Rattle.laws_safety.proofs.records.EntryTraces.{entry_trace, MayRetake, notarize_cast_stays, nullify_cast_stays, finalize_cast_stays, passed_over}
use Rattle.laws_safety.proofs.frames.NoLowerViews.{event_goes}
use Rattle.simplex_record.proofs.Rounds.{round_put, tracked_put}
use Rattle.laws_safety.proofs.votes.ShownVotes.{ShowsVotesInLife, stands_later}
use Rattle.laws_safety.proofs.votes.ShownVotesByCalls.{certified_passes, certified_suits, notarization_stays, nullification_stays, finalization_stays}
use Rattle.laws_safety.proofs.votes.ShownVotesBySteps.{Suits, plain_suits, event_stands, event_stays, stays_on}

module _ {K L D : Type 0} (same : D → D → Bool) (elect : Elect L) (x : StateFacts K L D) (now : ℕ) where
  -- neither the current view nor the finalized one falls

  pub taken_if : (P : StateFacts K L D → Type 0) (e : ArtifactFacts D) → P x → P (after_entry same elect x now e)
      → P (after_kept_entry same elect x now e)
  unfolding after_kept_entry
  taken_if P e still again = elim (nat_lt (entry_view e) (min_active x)) as
      (λ b. P (if b then x else after_entry same elect x now e)) [ true ↦ still | false ↦ again ]

  pub taken_keeps : (P : StateFacts K L D → Type 0)
      → ((y : StateFacts K L D) (e : Event K D) → P y → P (after_event same elect y e)) → (e : ArtifactFacts D) → P x
      → P (after_kept_entry same elect x now e)
  taken_keeps P keeps e holds = taken_if P e holds (retaken_keeps same elect P keeps now x e holds)

  pub taken_rises : (e : ArtifactFacts D) → x.current ≤ (after_kept_entry same elect x now e).current
  taken_rises e = taken_keeps (λ y. x.current ≤ y.current)
      (λ y f p. omega (arith, p, (event_goes same elect y f).current)) e (omega arith)

module _ {K L D : Type 0} (same : D → D → Bool) (decides : (d e : D) → same d e ≡ true → d ≡ e) (elect : Elect L)
    (term_length : ℕ) (trace : List (TraceEvent D)) (x : StateFacts K L D) (now : ℕ) where
  -- a verdict that is taken again is given after it is replayed

  abbrev again : ℕ → Bool → StateFacts K L D
  again v success = with_round x v (certified_round (round_of x v) success)

  verdict_again_passes : (v : ℕ) → v < (after_certified elect (again v true) v true now).current
  verdict_again_passes v = certified_passes same elect (again v true) v now true
      (tracked_put x v (certified_round (round_of x v) true)) refl

  module _ (stays : ShowsVotesInLife term_length trace x) where
    verdict_again_stays : (round : Round) (success : Bool)
        → ShowsVotesInLife term_length trace (after_certified elect (again round.view success) round.view success now)
    verdict_again_stays round success =
        let v = round.view in
        let replay : Event K D = event.Replay (Verdict round success) in
        let given : Event K D = event.Certified v success now in
        let y = again v success in
        let z = after_certified elect y v success now in
        let suits = certified_suits same elect y v now trace success
        (tracked_put x v (certified_round (round_of x v) success)) in
        let before : Suits trace z.current x replay =
        plain_suits trace z.current x replay refl refl refl refl (λ w says. suits.enters w says) in
        let later = stands_later term_length trace x.current z.current x (event_goes same elect y given).current
        stays.stands in
        event_stays same decides elect term_length trace y given suits (inl stays.ahead)
        (event_stands same decides elect term_length trace z.current x replay before later) stays.final

    -- a certificate is added before it is replayed

    replayed_stays : (a : List (TraceEvent D)) (c : CertificateFacts D) (y : StateFacts K L D)
        → ShowsVotesInLife term_length a y → ShowsVotesInLife term_length a
        (after_event same elect y (event.Replay (Accepted c)))
    replayed_stays a c y keeps = stays_on same decides elect term_length a y (event.Replay (Accepted c))
        (plain_suits a _ y (event.Replay (Accepted c)) refl refl refl refl (λ w says. absurd (cc))) keeps

    retaken_stays : (e : ArtifactFacts D) → MayRetake trace x.current e
        → ShowsVotesInLife term_length (trace ++ entry_trace e) (after_entry same elect x now e)
    retaken_stays (NotarizeVote p m) may =
        let e : Event K D = event.Replay (NotarizeVote p m) in
        notarize_cast_stays term_length trace (after_event same elect x e)
        (stays_on same decides elect term_length trace x e
        (plain_suits trace _ x e refl refl refl refl (λ w says. absurd (cc))) stays) p m
    retaken_stays (NullifyVote round m) may =
        let v = round.view in
        let e : Event K D = event.Replay (NullifyVote round m) in
        let y : StateFacts K L D = record x { nullify_votes = insert_key nat_cmp x.nullify_votes v } in
        let r : RoundFacts K D = record (round_of y v) { decision = decision.Nullify None } in
        let z = with_round y v r in
        let suits : Suits trace z.current x e = record {
          notarized = λ c says. absurd (cc);
          finalized = inl refl;
          enters = λ w says. absurd (cc);
          leaves = λ w says. absurd (cc);
          nullifies = λ w says. inr (λ p h at. (let here : v ≡ w = cc in may.1 p h (here ∙ at)));
          finalizes = λ w says. absurd (cc);
        } in
        let decided : is_nullify (round_of z v).decision ≡ true =
        ap (λ (s : RoundFacts K D). is_nullify s.decision) (round_put y v r) in
        nullify_cast_stays term_length trace z (stays_on same decides elect term_length trace x e suits stays) round m
        may.0 (inl (noted_new v x.nullify_votes)) (inl decided)
    retaken_stays (FinalizeVote p m) may =
        let v = p.round.view in
        let e : Event K D = event.Replay (FinalizeVote p m) in
        let r : RoundFacts K D = record (round_of x v) { decision = decision.Finalize } in
        let z = with_round x v r in
        let suits : Suits trace z.current x e = record {
          notarized = λ c says. absurd (cc);
          finalized = inl refl;
          enters = λ w says. absurd (cc);
          leaves = λ w says. (let here : v ≡ w = cc in omega (arith, may.0, here));
          nullifies = λ w says. absurd (cc);
          finalizes = λ w says. inr (λ round h at. (let here : v ≡ w = cc in may.1 round h (at ∙ sym here)));
        } in
        finalize_cast_stays term_length trace z (stays_on same decides elect term_length trace x e suits stays) p m
        may.0 (inl (ap (λ s. is_finalize s.decision) (round_put x v r)))
    retaken_stays (Verdict round success) may =
        subst (λ a. ShowsVotesInLife term_length a (after_entry same elect x now (Verdict round success)))
        (sym (append-nil trace)) (verdict_again_stays round success)
    retaken_stays (Accepted (Notarized c)) may =
        let e : Event K D = event.AddNotarization c in
        replayed_stays (trace ++ Accepts (subject.Notarize c.proposal) ∷ []) (Notarized c) (after_event same elect x e)
        (notarization_stays same decides elect term_length trace x stays c)
    retaken_stays (Accepted (Nullified c)) may =
        let e : Event K D = event.AddNullification c now in
        replayed_stays (trace ++ Accepts (subject.Nullify c.round) ∷ []) (Nullified c) (after_event same elect x e)
        (nullification_stays same decides elect term_length trace x stays c now)
    retaken_stays (Accepted (Finalized c)) may =
        let e : Event K D = event.AddFinalization c now in
        replayed_stays (trace ++ Accepts (subject.Finalize c.proposal) ∷ []) (Finalized c) (after_event same elect x e)
        (finalization_stays same decides elect term_length trace x stays c now)

    -- an entry is taken again, or skipped
    pub taken_stays : (e : ArtifactFacts D) → MayRetake trace x.current e
        → ShowsVotesInLife term_length (trace ++ entry_trace e) (after_kept_entry same elect x now e)
    unfolding after_kept_entry
    taken_stays e may = by_view (nat_lt (entry_view e) (min_active x)) refl
      where
        by_view : (b : Bool) → nat_lt (entry_view e) (min_active x) ≡ b
            → ShowsVotesInLife term_length (trace ++ entry_trace e)
            (if nat_lt (entry_view e) (min_active x) then x else after_entry same elect x now e)
        by_view true is = rw is
            (passed_over term_length trace x stays e (omega (arith, ltb-true (entry_view e) (min_active x) is)) may)
        by_view false is = rw is (retaken_stays e may)

  pub taken_passes : (e : ArtifactFacts D) (round : Round) → e ≡ Verdict round true → x.finalized < x.current
      → round.view < (after_kept_entry same elect x now e).current
  unfolding after_kept_entry
  taken_passes e round is ahead = rw is (by_view (nat_lt round.view (min_active x)) refl)
    where
      by_view : (b : Bool) → nat_lt round.view (min_active x) ≡ b
          → round.view < (if nat_lt round.view (min_active x) then x else after_certified elect
          (with_round x round.view (certified_round (round_of x round.view) true)) round.view true now).current
      by_view true below = rw below (omega (arith, ltb-true round.view (min_active x) below, ahead))
      by_view false kept = rw kept (verdict_again_passes round.view)
