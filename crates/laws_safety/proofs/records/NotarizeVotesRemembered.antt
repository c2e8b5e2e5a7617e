-- For `votes_are_lawful`.
-- A record keeps remembering the votes to notarize: after each event, after a copy of the record, and after a cut.
use Rattle.std.proofs.Common.{◌≡◌, refl, sym, subst, ℕ, ◌≤◌, inl, inr, Bool, true, false, max, if◌then◌else◌, List, [], ◌∷◌, ◌++◌, Contains, filter, Option, Some, None, arith}
use Rattle.std.specs.Prelude.{◌==◌, option_map, option_and_then}
use Rattle.std.proofs.lemmas.Bool.{cases_Bool, false≢true, true≢false}
use Rattle.std.proofs.lemmas.List.{append-nil}
use Rattle.std.proofs.lemmas.List.Elements.{Contains-append_left, Contains-append_right, Contains-append_cases}
use Rattle.simplex_types.specs.Certificates.{Notarized, Nullified, Finalized, ArtifactFacts, NotarizeVote, NullifyVote, FinalizeVote, Verdict, Accepted}
use Rattle.simplex_types.specs.Config.{FloorFacts, Genesis, Finalized as FinalizedFloor}
use Rattle.simplex_types.specs.declared.types.messages.Proposal.{Proposal}
use Rattle.simplex_types.specs.declared.types.messages.Subject.{Subject}
use Rattle.simplex_types.specs.declared.types.messages.Subject.TheVariants as subject
use Rattle.simplex_types.specs.declared.types.numbers.Round.{Round}
use Rattle.simplex_voter.specs.Facts.{StateFacts, Elect, round_number}
use Rattle.simplex_voter.specs.Votes.{nullify_answer, finalize_answer}
use Rattle.simplex_voter.specs.Acceptance.{notarization_added, nullification_added, finalization_added}
use Rattle.simplex_voter.specs.Certification.{is_first_verdict}
use Rattle.simplex_member.specs.Calls.{CallFacts, AddNotarization, AddNullification, AddFinalization, ConstructNotarize, Certified, ConstructNullify, ConstructFinalize, Nullify, Finalize}
use Rattle.simplex_member.specs.CallSemantics.{if_new, unrepeated_vote, vote_entry, answer, recorded_by}
use Rattle.simplex_member.specs.OutstandingWork.{OutstandingWork}
use Rattle.simplex_record.specs.Check.{stands}
use Rattle.simplex_record.specs.Cuts.{is_vote}
use Rattle.simplex_record.specs.Entries.{entry_view}
use Rattle.simplex_record.specs.Recovery.{is_finalization_entry, with_floor}
use Rattle.laws_safety.specs.Traces.{TraceEvent, Accepts, Signs, of_floor, trace_of_call}
use Rattle.laws_safety.specs.Lawful.{HasSigned}
use Rattle.laws_safety.proofs.lists.Signed.{signed_none, signed_left, signed_cases, signed_last, only_signed}
use Rattle.laws_safety.proofs.lists.Filters.{Contains-filter, Contains-filtered, same_entries}
use Rattle.laws_safety.proofs.votes.NotarizeVotesShown.{RemembersNotes, CastsNone}
use Rattle.laws_safety.proofs.frames.CallsOnWork.{is_work}
use Rattle.laws_safety.proofs.records.CutsRemembered.{falls_below}
use Rattle.laws_safety.proofs.lists.Splits.{only_one}

-- no entry of them is a vote to notarize
abbrev pub NotesNone : {D : Type 0} → List (ArtifactFacts D) → Type 0
NotesNone {D} entries = (p : Proposal D) (m : ℕ) → Contains entries (NotarizeVote p m) → ⊥

pub nothing_noted : {D : Type 0} → RemembersNotes {D = D} [] 0 []
nothing_noted =
    record { cast = λ p m h. absurd (omega (arith, h.1)); noted = λ p h. absurd (signed_none (subject.Notarize p) h) }

module _ {D : Type 0} where
  -- events and entries that are no votes to notarize
  pub notes_grow : (trace more : List (TraceEvent D)) (kept : ℕ) (entries new : List (ArtifactFacts D)) → CastsNone more
      → NotesNone new → RemembersNotes trace kept entries → RemembersNotes (trace ++ more) kept (entries ++ new)
  notes_grow trace more kept entries new casts notes remembers = record {
    cast = λ p m h. elim (Contains-append_cases entries new (NotarizeVote p m) h) [
      | inl old ↦ signed_left trace more (subject.Notarize p) (remembers.cast p m old)
      | inr there ↦ absurd (notes p m there)
    ];
    noted = λ p h. elim (signed_cases trace more (subject.Notarize p) h) [
      | inl old ↦ elim (remembers.noted p old) [
        | inl e ↦ inl (e.0, Contains-append_left entries new (NotarizeVote p e.0) e.1)
        | inr below ↦ inr below
      ]
      | inr there ↦ absurd (casts p there)
    ];
  }

  -- a vote to notarize that is recorded
  pub notes_cast : (trace : List (TraceEvent D)) (kept : ℕ) (entries : List (ArtifactFacts D)) (p : Proposal D) (m : ℕ)
      → RemembersNotes trace kept entries → RemembersNotes (trace ++ Signs m (subject.Notarize p) ∷ []) kept
      (entries ++ NotarizeVote p m ∷ [])
  notes_cast trace kept entries p m remembers = record {
    cast = λ q n h. elim (Contains-append_cases entries (NotarizeVote p m ∷ []) (NotarizeVote q n) h) [
      | inl old ↦ signed_left trace (Signs m (subject.Notarize p) ∷ []) (subject.Notarize q) (remembers.cast q n old)
      | inr there ↦
          (let e = only_one (NotarizeVote p m) (NotarizeVote q n) there in
          let same : p ≡ q = cc in
          subst (λ (t : Proposal D). HasSigned (trace ++ Signs m (subject.Notarize p) ∷ []) (subject.Notarize t)) same
          (signed_last trace m (subject.Notarize p)))
    ];
    noted = λ q h. elim (signed_cases trace (Signs m (subject.Notarize p) ∷ []) (subject.Notarize q) h) [
      | inl old ↦ elim (remembers.noted q old) [
        | inl e ↦ inl (e.0, Contains-append_left entries (NotarizeVote p m ∷ []) (NotarizeVote q e.0) e.1)
        | inr below ↦ inr below
      ]
      | inr there ↦
          (let e = only_signed (Signs m (subject.Notarize p)) (subject.Notarize q) there in
          let same : p ≡ q = cc in
          inl (
            m,
            subst (λ (t : Proposal D). Contains (entries ++ NotarizeVote p m ∷ []) (NotarizeVote t m)) same
                (Contains-append_right entries (NotarizeVote p m ∷ []) (NotarizeVote p m) (0, omega arith, refl)),
          ))
    ];
  }

module _ {D : Type 0} (trace : List (TraceEvent D)) (kept : ℕ) (entries : List (ArtifactFacts D))
    (remembers : RemembersNotes trace kept entries) where
  -- entries of each view in the same order
  pub notes_copied : (copy : List (ArtifactFacts D))
      → ((v : ℕ) → filter (λ e. entry_view e == v) copy ≡ filter (λ e. entry_view e == v) entries)
      → RemembersNotes trace kept copy
  notes_copied copy of_each_view = record {
    cast = λ p m h. remembers.cast p m (same_entries copy entries of_each_view (NotarizeVote p m) h);
    noted = λ p h. elim (remembers.noted p h) [
      | inl e ↦ inl (e.0, same_entries entries copy (λ v. sym (of_each_view v)) (NotarizeVote p e.0) e.1)
      | inr below ↦ inr below
    ];
  }

  -- without last entries that are no votes
  pub notes_left : (left tail : List (ArtifactFacts D)) → entries ≡ left ++ tail
      → ((e : ArtifactFacts D) → Contains tail e → is_vote e ≡ false) → RemembersNotes trace kept left
  notes_left left tail split no_votes = record {
    cast = λ p m h. remembers.cast p m (subst (λ es. Contains es (NotarizeVote p m)) (sym split)
        (Contains-append_left left tail (NotarizeVote p m) h));
    noted = λ p h. elim (remembers.noted p h) [ inl e ↦ inl (e.0, voted p e.0 e.1) | inr below ↦ inr below ];
  }
    where
      voted : (p : Proposal D) (m : ℕ) → Contains entries (NotarizeVote p m) → Contains left (NotarizeVote p m)
      voted p m h = elim (Contains-append_cases left tail (NotarizeVote p m)
          (subst (λ es. Contains es (NotarizeVote p m)) split h)) [
            | inl old ↦ old
            | inr dropped ↦ absurd (false≢true (sym (no_votes (NotarizeVote p m) dropped)))
          ]

  -- without entries of some views, all below a bound
  pub notes_bounded : (stays : ℕ → Bool) (bound : ℕ) → ((v : ℕ) → bound ≤ v → stays v ≡ true)
      → RemembersNotes trace (max kept bound) (filter (λ e. stays (entry_view e)) entries)
  notes_bounded stays bound above = record {
    cast = λ p m h. remembers.cast p m (Contains-filtered test entries (NotarizeVote p m) h);
    noted = λ p h. elim (remembers.noted p h) [
      | inr below ↦ inr (omega arith)
      | inl e ↦ elim (cases_Bool (stays p.round.view)) [
        | inl there ↦ inl (e.0, Contains-filter test entries (NotarizeVote p e.0) e.1 there)
        | inr falls ↦ inr (omega (arith, falls_below stays bound above p.round.view falls))
      ]
    ];
  }
    where
      test : ArtifactFacts D → Bool
      test e = stays (entry_view e)

-- certificates, verdicts and votes to nullify and to finalize

module _ {D : Type 0} where
  casts_nothing : CastsNone {D = D} []
  casts_nothing p h = absurd (signed_none (subject.Notarize p) h)

  casts_accepted : (s : Subject D) → CastsNone (Accepts s ∷ [])
  casts_accepted s p h = absurd (let e = only_signed (Accepts s) (subject.Notarize p) h in cc)

  pub floor_casts_none : (floor : FloorFacts D) → CastsNone (of_floor floor)
  floor_casts_none (Genesis _) = casts_nothing
  floor_casts_none (FinalizedFloor c) = casts_accepted (subject.Finalize c.proposal)

module _ {D : Type 0} where
  notes_nothing : NotesNone {D = D} []
  notes_nothing p m h = absurd (omega (arith, h.1))

  notes_if : (b : Bool) (new old : List (ArtifactFacts D)) → NotesNone new → NotesNone old
      → NotesNone (if b then new else old)
  notes_if true new old f g = f
  notes_if false new old f g = g

  notes_accepted : (e : ArtifactFacts D) → ((p : Proposal D) (m : ℕ) → e ≡ NotarizeVote p m → ⊥) → NotesNone (e ∷ [])
  notes_accepted e other p m h = other p m (only_one e (NotarizeVote p m) h)

  notes_newly : (b : Bool) (e : ArtifactFacts D) → ((p : Proposal D) (m : ℕ) → e ≡ NotarizeVote p m → ⊥)
      → NotesNone (if_new b e)
  notes_newly b e other = notes_if b (e ∷ []) [] (notes_accepted e other) notes_nothing

  -- with the floor's finalization
  pub notes_floored : (trace : List (TraceEvent D)) (kept : ℕ) (entries : List (ArtifactFacts D)) (floor : FloorFacts D)
      → RemembersNotes trace kept entries → RemembersNotes (trace ++ of_floor floor) kept (with_floor entries floor)
  notes_floored trace kept entries (Genesis _) remembers =
      subst (λ a. RemembersNotes a kept entries) (sym (append-nil trace)) remembers
  notes_floored trace kept entries (FinalizedFloor c) remembers =
      by_record (stands c.proposal.round.view is_finalization_entry entries) refl
    where
      casts : CastsNone (Accepts (subject.Finalize c.proposal) ∷ [])
      casts = casts_accepted (subject.Finalize c.proposal)

      by_record : (b : Bool) → stands c.proposal.round.view is_finalization_entry entries ≡ b
          → RemembersNotes (trace ++ Accepts (subject.Finalize c.proposal) ∷ []) kept
          (with_floor entries (FinalizedFloor c))
      by_record true is = rw is (subst (λ es.
          RemembersNotes (trace ++ Accepts (subject.Finalize c.proposal) ∷ []) kept es) (append-nil entries)
          (notes_grow trace (Accepts (subject.Finalize c.proposal) ∷ []) kept entries [] casts notes_nothing remembers))
      by_record false is = rw is (notes_grow trace (Accepts (subject.Finalize c.proposal) ∷ []) kept entries
          (Accepted (Finalized c) ∷ []) casts (notes_accepted (Accepted (Finalized c)) (λ p m e. absurd (cc)))
          remembers)

module _ {D : Type 0} (round : Round) where
  -- a vote to nullify, if the reply has one

  nullify_casts_none : (K : Type 0) (v : ℕ) (me : Option ℕ) (a : Option Bool)
      → CastsNone (trace_of_call {K = K} {D = D} (ConstructNullify v)
      (Nullify (option_and_then (λ m. option_map (λ retry. (retry, NullifyVote round m)) a) me)))
  nullify_casts_none K v None a = casts_nothing
  nullify_casts_none K v (Some m) None = casts_nothing
  nullify_casts_none K v (Some m) (Some retry) =
      λ p h. absurd (let e = only_signed (Signs m (subject.Nullify round)) (subject.Notarize p) h in cc)

  nullify_notes_none : (me : Option ℕ) (a : Option Bool)
      → NotesNone {D = D}
      (unrepeated_vote (option_and_then (λ m. option_map (λ retry. (retry, NullifyVote round m)) a) me))
  nullify_notes_none None a = notes_nothing
  nullify_notes_none (Some m) None = notes_nothing
  nullify_notes_none (Some m) (Some true) = notes_nothing
  nullify_notes_none (Some m) (Some false) = notes_accepted (NullifyVote round m) (λ p n e. absurd (cc))

module _ {D : Type 0} where
  -- a vote to finalize

  finalize_casts_none : (K : Type 0) (v : ℕ) (me : Option ℕ) (a : Option (Proposal D))
      → CastsNone (trace_of_call {K = K} {D = D} (ConstructFinalize v)
      (Finalize (option_and_then (λ m. option_map (λ p. FinalizeVote p m) a) me)))
  finalize_casts_none K v None a = casts_nothing
  finalize_casts_none K v (Some m) None = casts_nothing
  finalize_casts_none K v (Some m) (Some q) =
      λ p h. absurd (let e = only_signed (Signs m (subject.Finalize q)) (subject.Notarize p) h in cc)

  finalize_notes_none : (me : Option ℕ) (a : Option (Proposal D))
      → NotesNone {D = D} (vote_entry (option_and_then (λ m. option_map (λ p. FinalizeVote p m) a) me))
  finalize_notes_none None a = notes_nothing
  finalize_notes_none (Some m) None = notes_nothing
  finalize_notes_none (Some m) (Some q) = notes_accepted (FinalizeVote q m) (λ p n e. absurd (cc))

module _ {K L D : Type 0} (same : D → D → Bool) (elect : Elect L) (x : StateFacts K L D) (o : OutstandingWork K D) where
  -- no call but those on the work of a view casts a vote to notarize, or records one

  pub calls_cast_none : (call : CallFacts D) → is_work call ≡ false
      → CastsNone (trace_of_call call (answer same elect x o call))
  calls_cast_none (AddNotarization c) plain = casts_accepted (subject.Notarize c.proposal)
  calls_cast_none (AddNullification c now) plain = casts_accepted (subject.Nullify c.round)
  calls_cast_none (AddFinalization c now) plain = casts_accepted (subject.Finalize c.proposal)
  calls_cast_none (ConstructNullify v) plain = nullify_casts_none (round_number x v) K v x.me (nullify_answer x v)
  calls_cast_none (ConstructFinalize v) plain = finalize_casts_none K v x.me (finalize_answer elect x v)
  calls_cast_none (ConstructNotarize v) plain = absurd (true≢false plain)
  calls_cast_none _ plain = casts_nothing

  pub calls_record_none : (call : CallFacts D) → is_work call ≡ false → NotesNone (recorded_by same elect x call)
  calls_record_none (AddNotarization c) plain =
      notes_newly (notarization_added same elect x c).0 (Accepted (Notarized c)) (λ p m e. absurd (cc))
  calls_record_none (AddNullification c now) plain =
      notes_newly (nullification_added x c) (Accepted (Nullified c)) (λ p m e. absurd (cc))
  calls_record_none (AddFinalization c now) plain =
      notes_newly (finalization_added same elect x c).0 (Accepted (Finalized c)) (λ p m e. absurd (cc))
  calls_record_none (Certified v success now) plain =
      notes_newly (is_first_verdict x v) (Verdict (round_number x v) success) (λ p m e. absurd (cc))
  calls_record_none (ConstructNullify v) plain = nullify_notes_none (round_number x v) x.me (nullify_answer x v)
  calls_record_none (ConstructFinalize v) plain = finalize_notes_none x.me (finalize_answer elect x v)
  calls_record_none (ConstructNotarize v) plain = absurd (true≢false plain)
  calls_record_none _ plain = notes_nothing

  pub notes_called : (trace : List (TraceEvent D)) (kept : ℕ) (entries : List (ArtifactFacts D)) (call : CallFacts D)
      → is_work call ≡ false → RemembersNotes trace kept entries
      → RemembersNotes (trace ++ trace_of_call call (answer same elect x o call)) kept
      (entries ++ recorded_by same elect x call)
  notes_called trace kept entries call plain =
      notes_grow trace (trace_of_call call (answer same elect x o call)) kept entries (recorded_by same elect x call)
      (calls_cast_none call plain) (calls_record_none call plain)
