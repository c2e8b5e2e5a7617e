-- For `votes_are_lawful`.
-- The record after each call of a lifetime remembers it.
use Rattle.std.proofs.Common.{◌≡◌, refl, ap, sym, ◌∙◌, subst, ℕ, Bool, true, false, ◌&&◌, not, List, [], ◌∷◌, ◌++◌, Contains, Option, Some, None, is_some, unwrap_or, arith}
use Rattle.std.specs.Option.{option_map_or}
use Rattle.std.proofs.lemmas.Bool.{false≢true, true≢false}
use Rattle.std.proofs.lemmas.List.Elements.{Contains-append_left, Contains-append_right}
use Rattle.simplex_types.specs.Certificates.{CertificateFacts, Notarized, Nullified, Finalized, ArtifactFacts, NullifyVote, FinalizeVote, Verdict, Accepted}
use Rattle.simplex_types.specs.declared.types.messages.Proposal.{Proposal}
use Rattle.simplex_types.specs.declared.types.messages.Subject.TheVariants as subject
use Rattle.simplex_types.specs.declared.types.numbers.Round.{Round}
use Rattle.simplex_types.specs.Encoding.{certificate_subject}
use Rattle.simplex_round.specs.Round.{RoundFacts, new_round, is_judged, is_certified, is_nullify}
use Rattle.simplex_voter.specs.Facts.{StateFacts, Elect, round_at, round_of, round_number, is_tracked}
use Rattle.simplex_voter.specs.Refusals.{is_started}
use Rattle.simplex_voter.specs.Rules.{may_nullify, may_finalize}
use Rattle.simplex_voter.specs.ViewEntry.{at_moment}
use Rattle.simplex_voter.specs.Certification.{after_certified, takes_verdict, is_first_verdict}
use Rattle.simplex_voter.specs.Votes.{after_construct_nullify, after_construct_finalize}
use Rattle.simplex_voter.specs.Acceptance.{notarization_added, nullification_added, finalization_added}
use Rattle.simplex_voter.proofs.Gaps.{and_parts}
use Rattle.simplex_voter.proofs.Rules.{nullify_parts, finalize_parts}
use Rattle.simplex_member.specs.Calls.{CallFacts, AddNotarization, AddNullification, AddFinalization, Certified, ConstructNullify, ConstructFinalize, BroadcastNotarization, BroadcastNullification, BroadcastFinalization, GetBestCertificate, Prune, Nullify, Finalize}
use Rattle.simplex_member.specs.CallConditions.{is_allowed}
use Rattle.simplex_member.specs.CallSemantics.{nullify_vote, finalize_vote, if_new, unrepeated_vote, vote_entry, answer, after_call, recorded_by}
use Rattle.simplex_member.specs.OutstandingWork.{OutstandingWork}
use Rattle.laws_safety.specs.Traces.{TraceEvent, Accepts, Signs, trace_of_call}
use Rattle.laws_safety.proofs.votes.ShownVotes.{ShowsVotesInLife}
use Rattle.laws_safety.proofs.frames.CallsOnWork.{is_work}
use Rattle.laws_safety.proofs.votes.ShownVotesByVotes.{held_notarized}
use Rattle.laws_safety.proofs.votes.LifeCalls.{nullify_silent, nullify_replied, finalize_silent, finalize_replied, no_key, no_rule}
use Rattle.laws_safety.proofs.records.TracesShown.{Remembers}
use Rattle.laws_safety.proofs.records.RecordedVotes.{Marked, marked_more, event_marked, quiet_marked}
use Rattle.simplex_record.proofs.Steps.{verdict_by, nullify_by}
use Rattle.simplex_record.specs.Events as event
use Rattle.simplex_record.specs.Events.{Event, after_event}
use Rattle.laws_safety.proofs.records.RememberedVotes.{remembers_more, grows_nothing, grows_verdict, grows_certificate, grows_again, grows_nullify, grows_finalize}

-- the record remembers the trace, and what the state's facts show
pub record RemembersAndShows {K L D : Type 0} (trace : List (TraceEvent D)) (kept : ℕ)
    (entries : List (ArtifactFacts D)) (x : StateFacts K L D) : Type 0 where
  pub remembers : Remembers trace kept entries
  pub marked : Marked entries x

-- a view that was judged, and not to be false, was judged to be true
judged_true : (a b : Bool) → not b ≡ true → (not a && not b) ≡ false → a ≡ true
judged_true true b no_other no_first = refl
judged_true false true no_other no_first = absurd (false≢true no_other)
judged_true false false no_other no_first = absurd (false≢true (sym no_first))

module _ {K L D : Type 0} (x : StateFacts K L D) (v : ℕ) where
  standing_verdict : is_tracked x v ≡ true → takes_verdict x v true ≡ true → is_first_verdict x v ≡ false
      → is_certified (round_of x v).certification ≡ true
  standing_verdict tracked takes no_first =
      by_round (round_at x v) tracked (and_parts (is_started x) _ takes).1 no_first
    where
      by_round : (o : Option (RoundFacts K D)) → is_some o ≡ true
          → option_map_or (λ r. is_some r.notarization && not (is_judged (not true) r.certification)) o true ≡ true
          → option_map_or (λ r. not (is_judged true r.certification) && not (is_judged false r.certification)) o
          false ≡ false → is_certified (unwrap_or o (new_round x.me x.members (round_number x v))).certification ≡ true
      by_round None some takes no_first = absurd (false≢true some)
      by_round (Some r) some takes no_first =
          judged_true (is_judged true r.certification) (is_judged false r.certification)
          (and_parts (is_some r.notarization) (not (is_judged false r.certification)) takes).1 no_first

module _ {K L D : Type 0} (same : D → D → Bool) (elect : Elect L) (term_length : ℕ) (trace : List (TraceEvent D))
    (kept : ℕ) (entries : List (ArtifactFacts D)) (x : StateFacts K L D) (stays : ShowsVotesInLife term_length trace x)
    (follows : RemembersAndShows trace kept entries x) where
  nothing_follows : (y : StateFacts K L D) → Marked entries y → RemembersAndShows (trace ++ []) kept (entries ++ []) y
  nothing_follows y marked = record {
    remembers =
        remembers_more trace entries kept [] [] (grows_nothing trace entries) follows.remembers;
    marked = marked_more entries [] y marked;
  }

  -- an event that gives no verdict and decides no vote to nullify shows no more

  quiet_on : (e : Event K D) → verdict_by e ≡ None → nullify_by e ≡ None → Marked entries (after_event same elect x e)
  quiet_on e verdict nullify = quiet_marked same elect x e entries verdict nullify follows.marked

  quiet_follows : (e : Event K D) → verdict_by e ≡ None → nullify_by e ≡ None
      → RemembersAndShows (trace ++ []) kept (entries ++ []) (after_event same elect x e)
  quiet_follows e verdict nullify = nothing_follows (after_event same elect x e) (quiet_on e verdict nullify)

  certificate_follows : (is_new : Bool) (c : CertificateFacts D) (e : Event K D) → verdict_by e ≡ None
      → nullify_by e ≡ None → RemembersAndShows (trace ++ Accepts (certificate_subject c) ∷ []) kept
      (entries ++ if_new is_new (Accepted c)) (after_event same elect x e)
  certificate_follows is_new c e verdict nullify = record {
    remembers = remembers_more trace entries kept (Accepts (certificate_subject c) ∷ []) (if_new is_new (Accepted c))
        (grows_certificate trace entries is_new c) follows.remembers;
    marked = marked_more entries (if_new is_new (Accepted c)) (after_event same elect x e) (quiet_on e verdict nullify);
  }

  -- verdicts

  certified_follows : (v : ℕ) (success : Bool) (now : ℕ) → takes_verdict x v success ≡ true
      → RemembersAndShows (trace ++ []) kept (entries ++ if_new (is_first_verdict x v)
      (Verdict (round_number x v) success)) (after_certified elect x v success now)
  certified_follows v success now takes = record {
    remembers = remembers_more trace entries kept [] new
        (grows_verdict trace entries (is_first_verdict x v) (round_number x v) success) follows.remembers;
    marked = event_marked same elect x given entries (entries ++ new) (λ a h. Contains-append_left entries new a h)
        (λ w says before after. shown w says before after) (λ w says before after key. absurd (cc)) follows.marked;
  }
    where
      new : List (ArtifactFacts D)
      new = if_new (is_first_verdict x v) (Verdict (round_number x v) success)

      given : Event K D
      given = event.Certified v success now

      verdict : is_tracked x v ≡ true → success ≡ true → (b : Bool) → is_first_verdict x v ≡ b
          → (round : Round) × Contains (entries ++ if_new (is_first_verdict x v) (Verdict (round_number x v) success))
          (Verdict round true) × (round.view ≡ v)
      verdict tracked is true first = rw (first, is) (
        round_number x v,
        Contains-append_right entries (Verdict (round_number x v) true ∷ [])
            (Verdict (round_number x v) true) (0, omega arith, refl),
        refl,
      )
      verdict tracked is false later =
          let e = follows.marked.certified v
          (standing_verdict x v tracked (subst (λ s. takes_verdict x v s ≡ true) is takes) later) in (
            e.0,
            Contains-append_left entries (if_new (is_first_verdict x v) (Verdict (round_number x v) success))
                (Verdict e.0 true) e.1,
            e.2,
          )

      by_tracked : (w : ℕ) → v ≡ w → success ≡ true → is_certified (round_of x w).certification ≡ false
          → is_certified (round_of (after_certified elect x v success now) w).certification ≡ true → (b : Bool)
          → is_tracked x v ≡ b → (round : Round) × Contains (entries ++ new) (Verdict round true) × (round.view ≡ w)
      by_tracked w at is before after true tracked =
          (let e = verdict tracked is (is_first_verdict x v) refl in (e.0, e.1, e.2 ∙ at))
      by_tracked w at is before after false gone =
          let unmoved : after_certified elect x v success now ≡ at_moment x now = rw gone refl in
          absurd (false≢true (sym before ∙ subst (λ y. is_certified (round_of y w).certification ≡ true) unmoved after))

      shown : (w : ℕ) → verdict_by given ≡ Some (w, true) → is_certified (round_of x w).certification ≡ false
          → is_certified (round_of (after_certified elect x v success now) w).certification ≡ true
          → (round : Round) × Contains (entries ++ new) (Verdict round true) × (round.view ≡ w)
      shown w says before after =
          let pair : (v, success) ≡ (w, true) = cc in
          by_tracked w (ap (λ (p : ℕ × Bool). p.0) pair) (ap (λ (p : ℕ × Bool). p.1) pair) before after (is_tracked x v)
          refl

  -- a vote to nullify is recorded, unless it was before

  nullify_marked : (v : ℕ) (new : List (ArtifactFacts D))
      → (may_nullify x v ≡ true → is_nullify (round_of x v).decision ≡ false → is_some x.me ≡ true
      → (m : ℕ) × Contains (entries ++ new) (NullifyVote (round_number x v) m))
      → Marked (entries ++ new) (after_construct_nullify x v)
  nullify_marked v new vote = event_marked same elect x decides entries (entries ++ new)
      (λ a h. Contains-append_left entries new a h) (λ w says before after. absurd (cc))
      (λ w says before after key. shown w says before after key (may_nullify x v) refl) follows.marked
    where
      decides : Event K D
      decides = event.ConstructNullify v

      shown : (w : ℕ) → nullify_by decides ≡ Some w → is_nullify (round_of x w).decision ≡ false
          → is_nullify (round_of (after_construct_nullify x v) w).decision ≡ true → is_some x.me ≡ true → (b : Bool)
          → may_nullify x v ≡ b → (m : ℕ) × Contains (entries ++ new) (NullifyVote (round_number x w) m)
      shown w says before after key true may =
          let at : v ≡ w = cc in
          subst (λ u. (m : ℕ) × Contains (entries ++ new) (NullifyVote (round_number x u) m)) at
          (vote may (subst (λ u. is_nullify (round_of x u).decision ≡ false) (sym at) before) key)
      shown w says before after key false barred =
          let unmoved : after_construct_nullify x v ≡ x = rw barred refl in
          absurd (false≢true (sym before ∙ subst (λ y. is_nullify (round_of y w).decision ≡ true) unmoved after))

  nullify_follows : (v : ℕ) → RemembersAndShows
      (trace ++ trace_of_call {K = K} (ConstructNullify v) (Nullify (nullify_vote x v))) kept
      (entries ++ unrepeated_vote (nullify_vote x v)) (after_construct_nullify x v)
  nullify_follows v = by_rule (may_nullify x v) refl
    where
      round : Round
      round = round_number x v

      unreplied : nullify_vote x v ≡ None → (may_nullify x v ≡ true → is_some x.me ≡ true → ⊥)
          → RemembersAndShows (trace ++ trace_of_call {K = K} (ConstructNullify v) (Nullify (nullify_vote x v))) kept
          (entries ++ unrepeated_vote (nullify_vote x v)) (after_construct_nullify x v)
      unreplied silent barred =
          let y = after_construct_nullify x v in
          let marked = nullify_marked v [] (λ may undecided key. absurd (barred may key)) in
          subst (λ o. RemembersAndShows (trace ++ trace_of_call {K = K} (ConstructNullify v) (Nullify o)) kept
          (entries ++ unrepeated_vote o) y) (sym silent)
          (record {
            remembers = remembers_more trace entries kept [] [] (grows_nothing trace entries) follows.remembers;
            marked = marked;
          })

      by_retry : (m : ℕ) (b : Bool) → is_nullify (round_of x v).decision ≡ b → x.me ≡ Some m → may_nullify x v ≡ true
          → RemembersAndShows (trace ++ Signs m (subject.Nullify (round_number x v)) ∷ []) kept
          (entries ++ unrepeated_vote (Some (b, NullifyVote (round_number x v) m))) (after_construct_nullify x v)
      by_retry m true decided me may =
          let e = follows.marked.nullified v decided (ap is_some me) in
          record {
            remembers = remembers_more trace entries kept (Signs m (subject.Nullify round) ∷ []) []
                (grows_again trace entries round m e.0 (omega (arith, (nullify_parts x v may).current, stays.ahead))
                e.1) follows.remembers;
            marked = nullify_marked v [] (λ _ undecided key. absurd (false≢true (sym undecided ∙ decided)));
          }
      by_retry m false undecided me may =
          let new : List (ArtifactFacts D) = NullifyVote round m ∷ [] in
          record {
            remembers = remembers_more trace entries kept (Signs m (subject.Nullify round) ∷ []) new
                (grows_nullify trace entries round m (omega (arith, (nullify_parts x v may).current, stays.ahead)))
                follows.remembers;
            marked = nullify_marked v new
                (λ _ _ key. (m, Contains-append_right entries new (NullifyVote round m) (0, omega arith, refl)));
          }

      by_key : (o : Option ℕ) → x.me ≡ o → may_nullify x v ≡ true
          → RemembersAndShows (trace ++ trace_of_call {K = K} (ConstructNullify v) (Nullify (nullify_vote x v))) kept
          (entries ++ unrepeated_vote (nullify_vote x v)) (after_construct_nullify x v)
      by_key None me may =
          let keyless : is_some x.me ≡ false = ap is_some me in
          unreplied (nullify_silent elect x v (no_key (may_nullify x v) x.me me))
          (λ _ key. false≢true (sym keyless ∙ key))
      by_key (Some m) me may =
          subst (λ o. RemembersAndShows (trace ++ trace_of_call {K = K} (ConstructNullify v) (Nullify o)) kept
          (entries ++ unrepeated_vote o) (after_construct_nullify x v)) (sym (nullify_replied elect x v m me may))
          (by_retry m (is_nullify (round_of x v).decision) refl me may)

      by_rule : (b : Bool) → may_nullify x v ≡ b
          → RemembersAndShows (trace ++ trace_of_call {K = K} (ConstructNullify v) (Nullify (nullify_vote x v))) kept
          (entries ++ unrepeated_vote (nullify_vote x v)) (after_construct_nullify x v)
      by_rule true may = by_key x.me refl may
      by_rule false barred = unreplied (nullify_silent elect x v (no_rule (may_nullify x v) x.me barred))
          (λ may key. false≢true (sym barred ∙ may))

  -- a vote to finalize is recorded

  finalize_follows : (v : ℕ) → RemembersAndShows
      (trace ++ trace_of_call {K = K} (ConstructFinalize v) (Finalize (finalize_vote elect x v))) kept
      (entries ++ vote_entry (finalize_vote elect x v)) (after_construct_finalize elect x v)
  finalize_follows v = by_rule (may_finalize elect x v) refl
    where
      marked : Marked entries (after_construct_finalize elect x v)
      marked = quiet_on (event.ConstructFinalize v) refl refl

      unreplied : finalize_vote elect x v ≡ None
          → RemembersAndShows (trace ++ trace_of_call {K = K} (ConstructFinalize v)
          (Finalize (finalize_vote elect x v))) kept (entries ++ vote_entry (finalize_vote elect x v))
          (after_construct_finalize elect x v)
      unreplied silent = subst
          (λ o. RemembersAndShows (trace ++ trace_of_call {K = K} (ConstructFinalize v) (Finalize o))
          kept (entries ++ vote_entry o) (after_construct_finalize elect x v)) (sym silent)
          (nothing_follows (after_construct_finalize elect x v) marked)

      by_held : (m : ℕ) (o : Option (Proposal D)) → (round_of x v).slot.held ≡ o → x.me ≡ Some m
          → may_finalize elect x v ≡ true → RemembersAndShows
          (trace ++ trace_of_call {K = K} (ConstructFinalize v) (Finalize (finalize_vote elect x v))) kept
          (entries ++ vote_entry (finalize_vote elect x v)) (after_construct_finalize elect x v)
      by_held m None holds me may =
          let alone = (and_parts (is_some (round_of x v).slot.held) _ (finalize_parts elect x v may).unequivocated).0 in
          absurd (false≢true (sym (ap is_some holds) ∙ alone))
      by_held m (Some h) holds me may =
          let rule = finalize_parts elect x v may in
          let replied = finalize_replied elect x v m h me may holds in
          let named = held_notarized trace x.current x.finalized v (round_of x v) (stays.stands.rounds v) h
          rule.unequivocated rule.notarized holds in
          let verdict = follows.marked.certified v rule.certified in
          let new : List (ArtifactFacts D) = FinalizeVote h m ∷ [] in
          let next : RemembersAndShows (trace ++ Signs m (subject.Finalize h) ∷ []) kept (entries ++ new)
          (after_construct_finalize elect x v) = record {
            remembers = remembers_more trace entries kept (Signs m (subject.Finalize h) ∷ []) new
                (grows_finalize trace entries h m verdict.0 verdict.1 (verdict.2 ∙ sym named.0)) follows.remembers;
            marked = marked_more entries new (after_construct_finalize elect x v) marked;
          } in
          subst (λ o. RemembersAndShows (trace ++ trace_of_call {K = K} (ConstructFinalize v) (Finalize o)) kept
          (entries ++ vote_entry o) (after_construct_finalize elect x v)) (sym replied) next

      by_key : (o : Option ℕ) → x.me ≡ o → may_finalize elect x v ≡ true
          → RemembersAndShows (trace ++ trace_of_call {K = K} (ConstructFinalize v)
          (Finalize (finalize_vote elect x v))) kept (entries ++ vote_entry (finalize_vote elect x v))
          (after_construct_finalize elect x v)
      by_key None me may = unreplied (finalize_silent elect x v (no_key (may_finalize elect x v) x.me me))
      by_key (Some m) me may = by_held m (round_of x v).slot.held refl me may

      by_rule : (b : Bool) → may_finalize elect x v ≡ b
          → RemembersAndShows (trace ++ trace_of_call {K = K} (ConstructFinalize v)
          (Finalize (finalize_vote elect x v))) kept (entries ++ vote_entry (finalize_vote elect x v))
          (after_construct_finalize elect x v)
      by_rule true may = by_key x.me refl may
      by_rule false barred = unreplied (finalize_silent elect x v (no_rule (may_finalize elect x v) x.me barred))

  -- each call that is allowed and not refused, and not on the work of a view
  pub call_follows : (o : OutstandingWork K D) (call : CallFacts D) → is_work call ≡ false → is_allowed x o call ≡ true
      → RemembersAndShows (trace ++ trace_of_call call (answer same elect x o call)) kept
      (entries ++ recorded_by same elect x call) (after_call same elect x o call)
  call_follows o (AddNotarization c) plain allowed =
      certificate_follows (notarization_added same elect x c).0 (Notarized c) (event.AddNotarization c) refl refl
  call_follows o (AddNullification c now) plain allowed =
      certificate_follows (nullification_added x c) (Nullified c) (event.AddNullification c now) refl refl
  call_follows o (AddFinalization c now) plain allowed =
      certificate_follows (finalization_added same elect x c).0 (Finalized c) (event.AddFinalization c now) refl refl
  call_follows o (Certified v success now) plain allowed = certified_follows v success now allowed
  call_follows o (ConstructNullify v) plain allowed = nullify_follows v
  call_follows o (ConstructFinalize v) plain allowed = finalize_follows v
  call_follows o (BroadcastNotarization v) plain allowed = quiet_follows (event.BroadcastNotarization v) refl refl
  call_follows o (BroadcastNullification v) plain allowed = quiet_follows (event.BroadcastNullification v) refl refl
  call_follows o (BroadcastFinalization v) plain allowed = quiet_follows (event.BroadcastFinalization v) refl refl
  call_follows o GetBestCertificate plain allowed = nothing_follows x follows.marked
  call_follows o Prune plain allowed = quiet_follows event.Prune refl refl
  call_follows o _ plain allowed = absurd (true≢false plain)
