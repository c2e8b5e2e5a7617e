-- The notarizations and verdicts of its record that a state's facts show, call by call.
use Rattle.std.proofs.Common.{◌≡◌, refl, ap, sym, ◌∙◌, subst, ℕ, inl, inr, Bool, true, false, not, ◌&&◌, List, [], ◌∷◌, ◌++◌, Contains, Option, Some, None, is_some, unwrap_or, arith}
use Rattle.std.specs.Prelude.{option_map, option_and_then}
use Rattle.std.specs.Option.{option_map_or}
use Rattle.std.proofs.lemmas.Bool.{false≢true, true≢false}
use Rattle.std.proofs.lemmas.List.Elements.{Contains-append_left, Contains-append_right, Contains-append_cases}
use Rattle.simplex_types.specs.Certificates.{ProposalFacts, Notarized, Nullified, Finalized, ArtifactFacts, NullifyVote, FinalizeVote, Verdict, Accepted}
use Rattle.simplex_types.specs.declared.types.messages.Proposal.{Proposal}
use Rattle.simplex_types.specs.declared.types.numbers.Round.{Round}
use Rattle.simplex_round.specs.Round.{RoundFacts, new_round, is_judged}
use Rattle.simplex_voter.specs.Facts.{StateFacts, Elect, round_at, round_of, round_number, is_tracked}
use Rattle.simplex_voter.specs.Refusals.{is_started}
use Rattle.simplex_voter.specs.ViewEntry.{at_moment}
use Rattle.simplex_voter.specs.Certification.{after_certified, takes_verdict, is_first_verdict}
use Rattle.simplex_voter.specs.Acceptance.{notarization_added, nullification_added, finalization_added, after_add_notarization, takes_proposal_certificate}
use Rattle.simplex_voter.specs.Votes.{nullify_answer, finalize_answer}
use Rattle.simplex_voter.proofs.Gaps.{and_parts, not_true}
use Rattle.simplex_member.specs.Calls.{CallFacts, AddNotarization, AddNullification, AddFinalization, Certified, ConstructNullify, ConstructFinalize, BroadcastNotarization, BroadcastNullification, BroadcastFinalization, GetBestCertificate, Prune}
use Rattle.simplex_member.specs.CallConditions.{is_allowed}
use Rattle.simplex_member.specs.CallSemantics.{nullify_vote, finalize_vote, if_new, unrepeated_vote, vote_entry, answer, after_call, recorded_by}
use Rattle.simplex_member.specs.OutstandingWork.{OutstandingWork}
use Rattle.laws_safety.specs.Traces.{TraceEvent, trace_of_call}
use Rattle.laws_safety.proofs.own_records.Recorded.{OwnRecord, AreQuiet, quiet_none, quiet_newly, HasNoVerdict, no_verdict, own_quiet, own_verdict}
use Rattle.laws_safety.proofs.frames.CallsOnWork.{is_work}
use Rattle.simplex_record.specs.Events as event
use Rattle.simplex_record.specs.Events.{Event, IsEvent, after_event}
use Rattle.laws_safety.proofs.lives.RunOrder.{brings_kept}
use Rattle.simplex_record.proofs.Steps.{notarization_by, verdict_by}
use Rattle.laws_safety.proofs.own_records.Verdicts.{ShowsVerdicts, given_so, event_shows, verdict_stands}
use Rattle.laws_safety.proofs.lists.Splits.{only_one}

module _ {K L D : Type 0} (entries : List (ArtifactFacts D)) where
  pub shows_more : (new : List (ArtifactFacts D)) (x : StateFacts K L D) → HasNoVerdict new → ShowsVerdicts entries x
      → ShowsVerdicts (entries ++ new) x
  shows_more new x silent shows = record {
    notarized = λ v is.
        (let c = shows.notarized v is in (c.0, Contains-append_left entries new (Accepted (Notarized c.0)) c.1, c.2));
    judged = λ round success h known. elim (Contains-append_cases entries new (Verdict round success) h) [
      | inl old ↦ shows.judged round success old known
      | inr late ↦ absurd (silent round success late)
    ];
  }

-- the requirements of a verdict that is recorded

module _ {K L D : Type 0} (x : StateFacts K L D) (v : ℕ) (success : Bool) where
  taken_beside : is_tracked x v ≡ true → takes_verdict x v success ≡ true
      → (is_some (round_of x v).notarization ≡ true) × (is_judged (not success) (round_of x v).certification ≡ false)
  taken_beside tracked takes = by_round (round_at x v) tracked (and_parts (is_started x) _ takes).1
    where
      by_round : (o : Option (RoundFacts K D)) → is_some o ≡ true
          → option_map_or (λ r. is_some r.notarization && not (is_judged (not success) r.certification)) o true ≡ true
          → (is_some (unwrap_or o (new_round x.me x.members (round_number x v))).notarization ≡ true)
          × (is_judged (not success) (unwrap_or o (new_round x.me x.members (round_number x v))).certification ≡ false)
      by_round None some holds = absurd (false≢true some)
      by_round (Some r) some holds = (let parts =
          and_parts (is_some r.notarization) (not (is_judged (not success) r.certification)) holds in
          (parts.0, not_true (is_judged (not success) r.certification) parts.1))

  untracked_later : is_tracked x v ≡ false → is_first_verdict x v ≡ false
  untracked_later untracked = by_round (round_at x v) untracked
    where
      by_round : (o : Option (RoundFacts K D)) → is_some o ≡ false
          → option_map_or (λ r. not (is_judged true r.certification) && not (is_judged false r.certification)) o
          false ≡ false
      by_round None none = refl
      by_round (Some r) none = absurd (false≢true (sym none))

-- the record's verdicts stay in order, and the state shows them
pub record TellsVerdicts {K L D : Type 0} (trace : List (TraceEvent D)) (entries : List (ArtifactFacts D))
    (x : StateFacts K L D) : Type 0 where
  pub own : OwnRecord trace entries
  pub shows : ShowsVerdicts entries x

module _ {K L D : Type 0} (same : D → D → Bool) (elect : Elect L) (trace : List (TraceEvent D))
    (entries : List (ArtifactFacts D)) (x : StateFacts K L D) (tells : TellsVerdicts trace entries x) where
  -- an event that brings neither notarization nor verdict, where none is recorded
  pub quiet_shows : (new : List (ArtifactFacts D)) (e : Event K D) → IsEvent x e → notarization_by e ≡ None
      → verdict_by e ≡ None → HasNoVerdict new → ShowsVerdicts (entries ++ new) (after_event same elect x e)
  quiet_shows new e takes no_notarization no_judgement silent =
      event_shows same elect x e (λ v token is. takes) entries (entries ++ new) (λ c is. absurd (cc))
      (λ round given success h is. absurd (cc)) (λ a h. Contains-append_left entries new a h)
      (λ c is none. absurd (cc))
      (λ round success h. elim (Contains-append_cases entries new (Verdict round success) h)
      [ inl old ↦ inl old | inr late ↦ absurd (silent round success late) ]) tells.shows

  pub quiet_replied : (more : List (TraceEvent D)) (new : List (ArtifactFacts D)) (e : Event K D) → IsEvent x e
      → notarization_by e ≡ None → verdict_by e ≡ None → AreQuiet new
      → TellsVerdicts (trace ++ more) (entries ++ new) (after_event same elect x e)
  quiet_replied more new e takes no_notarization no_judgement quiet =
      record {
        own = own_quiet trace entries tells.own more new quiet;
        shows = quiet_shows new e takes no_notarization no_judgement (no_verdict new quiet);
      }

  notarization_replied : (more : List (TraceEvent D)) (c : ProposalFacts D) → takes_proposal_certificate x c ≡ true
      → TellsVerdicts (trace ++ more) (entries ++ if_new (notarization_added same elect x c).0 (Accepted (Notarized c)))
      (after_add_notarization same elect x c)
  notarization_replied more c takes =
      let is_new = (notarization_added same elect x c).0 in
      let entry : ArtifactFacts D = Accepted (Notarized c) in
      let e : Event K D = event.AddNotarization c in
      let quiet = quiet_newly is_new entry refl in
      record {
        own = own_quiet trace entries tells.own more (if_new is_new entry) quiet;
        shows = event_shows same elect x e (λ v token is. takes) entries (entries ++ if_new is_new entry)
            (brings_kept x e takes refl).notarization (λ round given success h is. absurd (cc))
            (λ a h. Contains-append_left entries (if_new is_new entry) a h)
            (λ d is none. (let alike : c ≡ d = cc in
            subst (λ (f : ProposalFacts D). Contains (entries ++ if_new is_new entry) (Accepted (Notarized f)))
            alike (let here : is_some (round_of x c.proposal.round.view).notarization ≡ false =
            subst (λ (f : ProposalFacts D). is_some (round_of x f.proposal.round.view).notarization ≡ false)
            (sym alike) none in rw here (Contains-append_right entries (entry ∷ []) entry (0, omega arith, refl)))))
            (λ round success h. elim (Contains-append_cases entries (if_new is_new entry) (Verdict round success) h)
            [ inl old ↦ inl old | inr late ↦ absurd (no_verdict (if_new is_new entry) quiet round success late) ])
            tells.shows;
      }

  verdict_replied : (more : List (TraceEvent D)) (v : ℕ) (success : Bool) (now : ℕ) → takes_verdict x v success ≡ true
      → TellsVerdicts (trace ++ more) (entries ++ if_new (is_first_verdict x v) (Verdict (round_number x v) success))
      (after_certified elect x v success now)
  verdict_replied more v success now takes = by_tracked (is_tracked x v) refl
    where
      entry : ArtifactFacts D
      entry = Verdict (round_number x v) success

      e : Event K D
      e = event.Certified v success now

      agree : is_tracked x v ≡ true → (round : Round) (given : Bool) → Contains entries (Verdict round given)
          → round.view ≡ v → given ≡ success
      agree tracked round given h at =
          let beside = taken_beside x v success tracked takes in
          let stood = tells.shows.judged round given h
          (inr (subst (λ u. is_some (round_of x u).notarization ≡ true) (sym at) beside.0)) in
          given_so success given (round_of x v).certification beside.1
          (subst (λ u. is_judged given (round_of x u).certification ≡ true) at stood)

      same_verdict_as : (round : Round) (given : Bool) → Contains (entry ∷ []) (Verdict round given)
          → (round_number x v ≡ round) × (success ≡ given)
      same_verdict_as round given h = let e = only_one entry (Verdict round given) h in (cc, cc)

      shown : is_tracked x v ≡ true → (new : List (ArtifactFacts D))
          → ((round : Round) (given : Bool) → Contains new (Verdict round given)
          → (round_number x v ≡ round) × (success ≡ given))
          → ShowsVerdicts (entries ++ new) (after_certified elect x v success now)
      shown tracked new only =
          event_shows same elect x e (λ w token is. takes) entries (entries ++ new) (λ c is. absurd (cc))
          (λ round given other h says. (let pair : (v, success) ≡ (round.view, other) = cc in
          agree tracked round given h (ap (λ (p : ℕ × Bool). p.0) (sym pair)) ∙ ap (λ (p : ℕ × Bool). p.1) pair))
          (λ a h. Contains-append_left entries new a h) (λ c is none. absurd (cc))
          (λ round given h. elim (Contains-append_cases entries new (Verdict round given) h) [
            | inl old ↦ inl old
            | inr late ↦ inr (
                let one = only round given late in
                let at : v ≡ round.view = ap (λ (r : Round). r.view) one.0 in
                subst (λ u. is_judged given (round_of (after_certified elect x v success now) u).certification ≡ true)
                at
                (subst (λ b. is_judged b (round_of (after_certified elect x v success now) v).certification ≡ true)
                one.1 (verdict_stands same elect x v success now tracked)))
          ]) tells.shows

      by_first : is_tracked x v ≡ true → (b : Bool)
          → TellsVerdicts (trace ++ more) (entries ++ if_new b entry) (after_certified elect x v success now)
      by_first tracked false = record {
        own = own_quiet trace entries tells.own more [] quiet_none;
        shows = shown tracked [] (λ round given h. absurd (omega (arith, h.1)));
      }
      by_first tracked true =
          let c = tells.shows.notarized v (taken_beside x v success tracked takes).0 in
          record {
            own = own_verdict trace entries tells.own more (round_number x v) success c (agree tracked);
            shows = shown tracked (entry ∷ []) same_verdict_as;
          }

      by_tracked : (b : Bool) → is_tracked x v ≡ b
          → TellsVerdicts (trace ++ more) (entries ++ if_new (is_first_verdict x v) entry)
          (after_certified elect x v success now)
      by_tracked true tracked = by_first tracked (is_first_verdict x v)
      by_tracked false untracked =
          let later = untracked_later x v success untracked in
          rw (later, untracked) (record {
            own = own_quiet trace entries tells.own more [] quiet_none;
            shows = shows_more entries [] (at_moment x now) (no_verdict [] quiet_none)
                (record { notarized = tells.shows.notarized; judged = tells.shows.judged });
          })

module _ {K L D : Type 0} (same : D → D → Bool) (elect : Elect L) (trace : List (TraceEvent D))
    (entries : List (ArtifactFacts D)) (x : StateFacts K L D) (tells : TellsVerdicts trace entries x) where
  quiet_nullify : (v : ℕ) → AreQuiet (unrepeated_vote (nullify_vote x v))
  quiet_nullify v = by_key x.me (nullify_answer x v)
    where
      by_key : (o : Option ℕ) (a : Option Bool)
          → AreQuiet {D = D} (unrepeated_vote
          (option_and_then (λ m. option_map (λ repeat. (repeat, NullifyVote (round_number x v) m)) a) o))
      by_key None a = quiet_none
      by_key (Some m) None = quiet_none
      by_key (Some m) (Some true) = quiet_none
      by_key (Some m) (Some false) = quiet_newly true (NullifyVote (round_number x v) m) refl

  quiet_finalize : (v : ℕ) → AreQuiet (vote_entry (finalize_vote elect x v))
  quiet_finalize v = by_key x.me (finalize_answer elect x v)
    where
      by_key : (o : Option ℕ) (a : Option (Proposal D))
          → AreQuiet (vote_entry (option_and_then (λ m. option_map (λ p. FinalizeVote p m) a) o))
      by_key None a = quiet_none
      by_key (Some m) None = quiet_none
      by_key (Some m) (Some p) = quiet_newly true (FinalizeVote p m) refl

  replied : (more : List (TraceEvent D)) (new : List (ArtifactFacts D)) (e : Event K D) → IsEvent x e
      → notarization_by e ≡ None → verdict_by e ≡ None → AreQuiet new
      → TellsVerdicts (trace ++ more) (entries ++ new) (after_event same elect x e)
  replied = quiet_replied same elect trace entries x tells

  -- each call that is allowed and not refused, and not on the work of a view
  pub plain_replied : (o : OutstandingWork K D) (call : CallFacts D) → is_work call ≡ false → is_allowed x o call ≡ true
      → TellsVerdicts (trace ++ trace_of_call call (answer same elect x o call))
      (entries ++ recorded_by same elect x call) (after_call same elect x o call)
  plain_replied o (AddNotarization c) plain allowed = notarization_replied same elect trace entries x tells _ c allowed
  plain_replied o (AddNullification c now) plain allowed =
      replied _ _ (event.AddNullification c now) allowed refl refl
      (quiet_newly (nullification_added x c) (Accepted (Nullified c)) refl)
  plain_replied o (AddFinalization c now) plain allowed =
      replied _ _ (event.AddFinalization c now) allowed refl refl
      (quiet_newly (finalization_added same elect x c).0 (Accepted (Finalized c)) refl)
  plain_replied o (Certified v success now) plain allowed =
      verdict_replied same elect trace entries x tells _ v success now allowed
  plain_replied o (ConstructNullify v) plain allowed = replied _ _ (event.ConstructNullify v) tt refl refl
      (quiet_nullify v)
  plain_replied o (ConstructFinalize v) plain allowed =
      replied _ _ (event.ConstructFinalize v) tt refl refl (quiet_finalize v)
  plain_replied o (BroadcastNotarization v) plain allowed =
      replied _ [] (event.BroadcastNotarization v) tt refl refl quiet_none
  plain_replied o (BroadcastNullification v) plain allowed =
      replied _ [] (event.BroadcastNullification v) tt refl refl quiet_none
  plain_replied o (BroadcastFinalization v) plain allowed =
      replied _ [] (event.BroadcastFinalization v) tt refl refl quiet_none
  plain_replied o GetBestCertificate plain allowed =
      record {
        own = own_quiet trace entries tells.own [] [] quiet_none;
        shows = shows_more entries [] x (no_verdict [] quiet_none) tells.shows;
      }
  plain_replied o Prune plain allowed = replied _ [] event.Prune tt refl refl quiet_none
  plain_replied o _ plain allowed = absurd (true≢false plain)
