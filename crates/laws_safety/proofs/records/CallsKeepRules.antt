-- For `votes_are_lawful`.
-- Each call keeps the voting rules, and the record after it remembers it.
use Rattle.std.proofs.Common.{◌≡◌, refl, ap, sym, ◌∙◌, subst, ℕ, ◌<◌, Bool, true, false, not, List, [], ◌∷◌, ◌++◌, Option, Some, None, is_some, arith}
use Rattle.std.proofs.lemmas.Bool.{false≢true}
use Rattle.std.proofs.lemmas.List.{append-nil}
use Rattle.simplex_types.specs.Certificates.{ArtifactFacts, NotarizeVote, NullifyVote, FinalizeVote, Accepted}
use Rattle.simplex_types.specs.declared.types.messages.Proposal.{Proposal}
use Rattle.simplex_types.specs.declared.types.messages.Subject.TheVariants as subject
use Rattle.simplex_round.specs.Slot.{is_unequivocated}
use Rattle.simplex_voter.specs.Facts.{StateFacts, Elect, round_of}
use Rattle.simplex_voter.specs.Rules.{may_notarize}
use Rattle.simplex_voter.specs.Votes.{after_construct_notarize}
use Rattle.simplex_voter.proofs.Gaps.{and_parts}
use Rattle.simplex_voter.proofs.Rules.{notarize_parts}
use Rattle.simplex_member.specs.CallConditions.{is_allowed}
use Rattle.simplex_member.specs.Calls.{CallFacts, AddNotarization, AddNullification, AddFinalization, ConstructNotarize, Certified, ConstructNullify, ConstructFinalize, BroadcastNotarization, BroadcastNullification, BroadcastFinalization, GetBestCertificate, Prune, Notarize}
use Rattle.simplex_member.specs.OutstandingWork.{OutstandingWork}
use Rattle.simplex_member.specs.CallSemantics.{notarize_vote, vote_entry, answer, after_call, outstanding_work_after, recorded_by}
use Rattle.laws_safety.specs.Traces.{TraceEvent, Signs, signed_in, trace_of_call}
use Rattle.laws_safety.proofs.lists.Signed.{only_signed}
use Rattle.laws_safety.proofs.agreement.Lawful.{lawful_push}
use Rattle.laws_safety.proofs.votes.LifeCalls.{no_key, no_rule}
use Rattle.laws_safety.proofs.records.RecordedVotes.{Marked, marked_more, quiet_marked}
use Rattle.laws_safety.proofs.frames.CallsMake.{AreSilent, work_silent, call_by_event}
use Rattle.laws_safety.proofs.votes.ShownVotes.{ShowsVotesInLife}
use Rattle.laws_safety.proofs.votes.ShownVotesBySteps.{silent_suits, stays_on}
use Rattle.laws_safety.proofs.records.RememberedVotes.{RecordGrows, remembers_more, single_split}
use Rattle.laws_safety.proofs.records.EntryTraces.{notarize_cast_stays}
use Rattle.laws_safety.proofs.frames.InOrder.{order_call}
use Rattle.laws_safety.proofs.votes.NotarizeVotesShown.{NotesStand}
use Rattle.laws_safety.proofs.records.NotarizeVotesRemembered.{notes_cast}
use Rattle.laws_safety.proofs.votes.NotarizeVotesByWork.{work_notes, decided_notes}
use Rattle.laws_safety.proofs.frames.CallsOnWork.{is_work, is_silent, silent_work}
use Rattle.laws_safety.proofs.votes.NotarizeVotes.{notarize_silent, notarize_replied, notarize_allowed, notarize_noted, voted_tracked}
use Rattle.laws_safety.proofs.records.NewLives.{Living, high_more, within_more, plain_lives}
use Rattle.laws_safety.proofs.lists.Splits.{only_one}

-- a vote to notarize is recorded
grows_notarize : {D : Type 0} (trace : List (TraceEvent D)) (entries : List (ArtifactFacts D)) (p : Proposal D) (m : ℕ)
    → RecordGrows trace (Signs m (subject.Notarize p) ∷ []) entries (NotarizeVote p m ∷ [])
grows_notarize trace entries p m = record {
  accepted = λ c h. absurd (let e = only_one (NotarizeVote p m) (Accepted c) h in cc);
  nullify_cast = λ r n h. absurd (let e = only_one (NotarizeVote p m) (NullifyVote r n) h in cc);
  finalize_cast = λ q n h. absurd (let e = only_one (NotarizeVote p m) (FinalizeVote q n) h in cc);
  nullify_kept = λ r h. absurd (let e = only_signed (Signs m (subject.Notarize p)) (subject.Nullify r) h in cc);
  finalize_kept = λ q h. absurd (let e = only_signed (Signs m (subject.Notarize p)) (subject.Finalize q) h in cc);
  judged = λ before after q n split. absurd
      (let e = single_split before after (NotarizeVote p m) (FinalizeVote q n) split in cc);
}

module _ {K L D : Type 0} (same : D → D → Bool) (elect : Elect L) (x : StateFacts K L D) (o : OutstandingWork K D) where
  -- a call on the work of a view that is no vote to notarize is no event of the trace, and records nothing
  pub silent_trace : (call : CallFacts D) → is_silent call ≡ true → trace_of_call call (answer same elect x o call) ≡ []
  silent_trace (ConstructNotarize v) silent = absurd (false≢true silent)
  silent_trace (AddNotarization c) silent = absurd (false≢true silent)
  silent_trace (AddNullification c now) silent = absurd (false≢true silent)
  silent_trace (AddFinalization c now) silent = absurd (false≢true silent)
  silent_trace (Certified v success now) silent = absurd (false≢true silent)
  silent_trace (ConstructNullify v) silent = absurd (false≢true silent)
  silent_trace (ConstructFinalize v) silent = absurd (false≢true silent)
  silent_trace (BroadcastNotarization v) silent = absurd (false≢true silent)
  silent_trace (BroadcastNullification v) silent = absurd (false≢true silent)
  silent_trace (BroadcastFinalization v) silent = absurd (false≢true silent)
  silent_trace GetBestCertificate silent = absurd (false≢true silent)
  silent_trace Prune silent = absurd (false≢true silent)
  silent_trace _ silent = refl

  pub silent_record : (call : CallFacts D) → is_silent call ≡ true → recorded_by same elect x call ≡ []
  silent_record (ConstructNotarize v) silent = absurd (false≢true silent)
  silent_record (AddNotarization c) silent = absurd (false≢true silent)
  silent_record (AddNullification c now) silent = absurd (false≢true silent)
  silent_record (AddFinalization c now) silent = absurd (false≢true silent)
  silent_record (Certified v success now) silent = absurd (false≢true silent)
  silent_record (ConstructNullify v) silent = absurd (false≢true silent)
  silent_record (ConstructFinalize v) silent = absurd (false≢true silent)
  silent_record (BroadcastNotarization v) silent = absurd (false≢true silent)
  silent_record (BroadcastNullification v) silent = absurd (false≢true silent)
  silent_record (BroadcastFinalization v) silent = absurd (false≢true silent)
  silent_record GetBestCertificate silent = absurd (false≢true silent)
  silent_record Prune silent = absurd (false≢true silent)
  silent_record _ silent = refl

module _ {K L D : Type 0} (same : D → D → Bool) (decides : (d e : D) → same d e ≡ true → d ≡ e) (elect : Elect L)
    (term_length : ℕ) (some : 0 < term_length) (trace : List (TraceEvent D)) (closed kept : ℕ)
    (entries : List (ArtifactFacts D)) (o : OutstandingWork K D) (x : StateFacts K L D)
    (living : Living term_length trace closed kept entries o x) where
  -- with no event and nothing recorded
  nothing_done : (next : OutstandingWork K D) (y : StateFacts K L D)
      → Living term_length trace closed kept entries next y
      → Living term_length (trace ++ []) closed kept (entries ++ []) next y
  nothing_done next y lives = subst (λ a. Living term_length a closed kept (entries ++ []) next y)
      (sym (append-nil trace))
      (subst (λ es. Living term_length trace closed kept es next y) (sym (append-nil entries)) lives)

  -- the votes and what the record shows, after a call on the work of a view

  stays_worked : (call : CallFacts D) → is_work call ≡ true → is_allowed x o call ≡ true
      → ShowsVotesInLife term_length trace (after_call same elect x o call)
  stays_worked call work allowed =
      call_by_event same elect x o (λ es y. AreSilent es → ShowsVotesInLife term_length trace y)
      (λ silent. living.keeps.stays)
      (λ e takes floor silent. stays_on same decides elect term_length trace x e (silent_suits trace _ x e silent.0)
      living.keeps.stays) call allowed (work_silent o call work)

  marked_worked : (call : CallFacts D) → is_work call ≡ true → is_allowed x o call ≡ true
      → Marked entries (after_call same elect x o call)
  marked_worked call work allowed =
      call_by_event same elect x o (λ es y. AreSilent es → Marked entries y) (λ silent. living.follows.marked)
      (λ e takes floor silent. quiet_marked same elect x e entries silent.0.verdict silent.0.nullify
      living.follows.marked) call allowed (work_silent o call work)

  silent_lives : (call : CallFacts D) → is_allowed x o call ≡ true → is_silent call ≡ true
      → Living term_length trace closed kept entries (outstanding_work_after same elect x o call)
      (after_call same elect x o call)
  silent_lives call allowed silent =
      let noted = living.noted in
      record {
        keeps = record { lawful = living.keeps.lawful; stays = stays_worked call (silent_work call silent) allowed };
        follows = record {
          remembers = living.follows.remembers;
          marked = marked_worked call (silent_work call silent) allowed;
        };
        in_order = order_call same elect x o living.in_order call;
        notes = living.notes;
        noted = (
          noted.0,
          noted.1,
          work_notes same decides elect noted.0 noted.1 trace o x noted.2 call living.in_order
              allowed silent,
        );
        high = living.high;
        within = living.within;
      }

  -- a vote to notarize

  decided_lives : (v : ℕ) → (base low : ℕ) → NotesStand base low trace o (after_construct_notarize same elect x v)
      → Living term_length trace closed kept entries o (after_construct_notarize same elect x v)
  decided_lives v base low noted =
      let y = after_construct_notarize same elect x v in
      record {
        keeps = record { lawful = living.keeps.lawful; stays = stays_worked (ConstructNotarize v) refl refl };
        follows =
            record { remembers = living.follows.remembers; marked = marked_worked (ConstructNotarize v) refl refl };
        in_order = order_call same elect x o living.in_order (ConstructNotarize v);
        notes = living.notes;
        noted = (base, low, noted);
        high = living.high;
        within = living.within;
      }

  cast_lives : (v m : ℕ) (h : Proposal D) → may_notarize same elect x v ≡ true → (round_of x v).slot.held ≡ Some h
      → Living term_length (trace ++ Signs m (subject.Notarize h) ∷ []) closed kept (entries ++ NotarizeVote h m ∷ []) o
      (after_construct_notarize same elect x v)
  cast_lives v m h may holds =
      let y = after_construct_notarize same elect x v in
      let vote : ArtifactFacts D = NotarizeVote h m in
      let noted = living.noted in
      let positive : 0 < x.terms.term_length = omega (arith, some, living.keeps.stays.stands.terms) in
      let terms = living.keeps.stays.stands.terms in
      record {
        keeps = record {
          lawful = lawful_push term_length trace (Signs m (subject.Notarize h)) living.keeps.lawful
              (notarize_allowed same decides elect term_length noted.0 noted.1 trace o x positive terms noted.2 v may h
              holds);
          stays = notarize_cast_stays term_length trace y (stays_worked (ConstructNotarize v) refl refl) h m;
        };
        follows = record {
          remembers = remembers_more trace entries kept (Signs m (subject.Notarize h) ∷ []) (vote ∷ [])
              (grows_notarize trace entries h m) living.follows.remembers;
          marked = marked_more entries (vote ∷ []) y (marked_worked (ConstructNotarize v) refl refl);
        };
        in_order = order_call same elect x o living.in_order (ConstructNotarize v);
        notes = notes_cast trace kept entries h m living.notes;
        noted = (
          noted.0,
          noted.1,
          rw may (notarize_noted same decides elect term_length noted.0 noted.1 trace o x
              positive terms noted.2 v may h m holds),
        );
        high = high_more closed kept entries (vote ∷ []) living.high;
        within = within_more closed entries (vote ∷ []) living.within;
      }

  abbrev pub RepliedLives : ℕ → Option (ArtifactFacts D) → Type 0
  RepliedLives v vote = Living term_length (trace ++ signed_in {K = K} (Notarize vote)) closed kept
      (entries ++ vote_entry vote) o (after_construct_notarize same elect x v)

  notarize_lives : (v : ℕ) → RepliedLives v (notarize_vote same elect x v)
  notarize_lives v = by_rule (may_notarize same elect x v) refl
    where
      unreplied : (base low : ℕ) → NotesStand base low trace o (after_construct_notarize same elect x v)
          → notarize_vote same elect x v ≡ None → RepliedLives v (notarize_vote same elect x v)
      unreplied base low noted silent = subst (RepliedLives v) (sym silent)
          (nothing_done o (after_construct_notarize same elect x v) (decided_lives v base low noted))

      by_held : (m : ℕ) (q : Option (Proposal D)) → (round_of x v).slot.held ≡ q → x.me ≡ Some m
          → may_notarize same elect x v ≡ true → RepliedLives v (notarize_vote same elect x v)
      by_held m None holds me may =
          let verified = (notarize_parts same elect x v may).verified in
          let slot = (and_parts (is_unequivocated (round_of x v).slot) (round_of x v).slot.verified verified).0 in
          absurd (false≢true (sym (ap is_some holds)
          ∙ (and_parts (is_some (round_of x v).slot.held) (not (round_of x v).slot.conflict) slot).0))
      by_held m (Some h) holds me may = subst (RepliedLives v) (sym (notarize_replied same elect x v m h me may holds))
          (cast_lives v m h may holds)

      by_key : (k : Option ℕ) → x.me ≡ k → may_notarize same elect x v ≡ true
          → RepliedLives v (notarize_vote same elect x v)
      by_key None me may =
          let noted = living.noted in
          let positive : 0 < x.terms.term_length = omega (arith, some, living.keeps.stays.stands.terms) in
          let tracked = voted_tracked same decides elect term_length noted.0 noted.1 trace o x positive
          living.keeps.stays.stands.terms noted.2 v may in
          unreplied noted.0 noted.1 (rw may (decided_notes same decides elect noted.0 noted.1 trace o x noted.2 v may
          tracked)) (notarize_silent same elect x v (no_key (may_notarize same elect x v) x.me me))
      by_key (Some m) me may = by_held m (round_of x v).slot.held refl me may

      by_rule : (b : Bool) → may_notarize same elect x v ≡ b → RepliedLives v (notarize_vote same elect x v)
      by_rule true may = by_key x.me refl may
      by_rule false may = (let noted = living.noted in
          unreplied noted.0 noted.1 (rw may noted.2)
          (notarize_silent same elect x v (no_rule (may_notarize same elect x v) x.me may)))

  -- a call that is allowed and not refused
  abbrev pub CallLives : CallFacts D → Type 0
  CallLives call = Living term_length (trace ++ trace_of_call call (answer same elect x o call)) closed kept
      (entries ++ recorded_by same elect x call) (outstanding_work_after same elect x o call)
      (after_call same elect x o call)

  silent_call : (call : CallFacts D) → is_allowed x o call ≡ true → is_silent call ≡ true → CallLives call
  silent_call call allowed silent =
      let next = outstanding_work_after same elect x o call in
      let y = after_call same elect x o call in
      subst (λ a. Living term_length (trace ++ a) closed kept (entries ++ recorded_by same elect x call) next y)
      (sym (silent_trace same elect x o call silent))
      (subst (λ es. Living term_length (trace ++ []) closed kept (entries ++ es) next y)
      (sym (silent_record same elect x o call silent))
      (nothing_done next y (silent_lives call allowed silent)))

  pub call_lives : (call : CallFacts D) → is_allowed x o call ≡ true → CallLives call
  call_lives call allowed = by_kind call (is_silent call) (is_work call) refl refl allowed
    where
      by_kind : (w : CallFacts D) (silent work : Bool) → is_silent w ≡ silent → is_work w ≡ work
          → is_allowed x o w ≡ true → CallLives w
      by_kind w true work silent is may = silent_call w may silent
      by_kind w false false loud plain may = plain_lives same decides elect term_length trace closed kept entries x o w
          some plain may living
      by_kind (ConstructNotarize v) false true loud work may = notarize_lives v
      by_kind _ false true loud work may = absurd (cc)
