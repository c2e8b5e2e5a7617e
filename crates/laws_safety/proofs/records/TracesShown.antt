-- For `votes_are_lawful`.
-- A state that is made again from a member's record shows the trace of all earlier lifetimes.
use Rattle.std.proofs.Common.{◌≡◌, refl, ap, sym, ◌∙◌, subst, ℕ, ◌<◌, ◌≤◌, ◌⊎◌, inl, inr, Bool, true, List, [], ◌∷◌, ◌++◌, append_assoc, Contains, arith}
use Rattle.std.proofs.lemmas.List.{append-nil}
use Rattle.std.proofs.lemmas.List.Elements.{Contains-append_left, Contains-append_right, Contains-append_cases, Contains-push_cases}
use Rattle.simplex_types.specs.Certificates.{CertificateFacts, ArtifactFacts, NotarizeVote, NullifyVote, FinalizeVote, Verdict, Accepted}
use Rattle.simplex_types.specs.declared.types.messages.Proposal.{Proposal}
use Rattle.simplex_types.specs.declared.types.messages.Subject.{Subject}
use Rattle.simplex_types.specs.declared.types.messages.Subject.TheVariants as subject
use Rattle.simplex_types.specs.declared.types.numbers.Round.{Round}
use Rattle.simplex_types.specs.Encoding.{certificate_subject}
use Rattle.simplex_voter.specs.Facts.{StateFacts, Elect}
use Rattle.simplex_record.specs.Recovery.{after_kept_entry, after_entries}
use Rattle.laws_safety.specs.Traces.{TraceEvent, Accepts, Signs}
use Rattle.laws_safety.specs.Lawful.{HasSigned, IsLawful}
use Rattle.laws_safety.proofs.lists.Signed.{signed_none, signed_cases, only_signed}
use Rattle.laws_safety.proofs.lists.Splits.{Contains-cases, Contains-cons_rest, only_one}
use Rattle.laws_safety.proofs.votes.ShownVotes.{ShowsVotesInLife}
use Rattle.laws_safety.proofs.records.EntryTraces.{entry_trace, MayRetake}
use Rattle.laws_safety.proofs.records.ShownVotesByEntries.{taken_stays, taken_rises, taken_passes}

-- what a record has of a member's trace; it may lack votes of views below `kept`
pub record Remembers {D : Type 0} (trace : List (TraceEvent D)) (kept : ℕ) (entries : List (ArtifactFacts D)) : Type
    0 where
  -- each certificate was accepted, and each vote was cast
  pub accepted : (c : CertificateFacts D) → Contains entries (Accepted c)
      → Contains trace (Accepts (certificate_subject c))
  pub nullify_cast : (round : Round) (m : ℕ) → Contains entries (NullifyVote round m)
      → HasSigned trace (subject.Nullify round)
  pub finalize_cast : (p : Proposal D) (m : ℕ) → Contains entries (FinalizeVote p m)
      → HasSigned trace (subject.Finalize p)
  -- each vote that was cast is recorded, or lies below the retained views
  pub nullify_kept : (round : Round) → HasSigned trace (subject.Nullify round)
      → ((m : ℕ) × Contains entries (NullifyVote round m)) ⊎ (round.view < kept)
  pub finalize_kept : (p : Proposal D) → HasSigned trace (subject.Finalize p)
      → ((m : ℕ) × Contains entries (FinalizeVote p m)) ⊎ (p.round.view < kept)
  -- no vote to nullify is of genesis
  pub above_genesis : (round : Round) → HasSigned trace (subject.Nullify round) → 1 ≤ round.view
  -- before each vote to finalize there is a true verdict of its view
  pub judged : (before after : List (ArtifactFacts D)) (p : Proposal D) (m : ℕ)
      → entries ≡ before ++ FinalizeVote p m ∷ after
      → (round : Round) × Contains before (Verdict round true) × (round.view ≡ p.round.view)

-- the trace that entries record, in order
abbrev pub entries_trace : {D : Type 0} → List (ArtifactFacts D) → List (TraceEvent D)
entries_trace [] = []
entries_trace (e ∷ rest) = entry_trace e ++ entries_trace rest

module _ {D : Type 0} where
  -- an entry's event shows the entry

  of_nullify : (e : ArtifactFacts D) (round : Round) → HasSigned (entry_trace e) (subject.Nullify round)
      → (m : ℕ) × (e ≡ NullifyVote round m)
  of_nullify (NotarizeVote p m) round h = absurd
      (let e = only_signed (Signs m (subject.Notarize p)) (subject.Nullify round) h in cc)
  of_nullify (NullifyVote r m) round h =
      let e = only_signed (Signs m (subject.Nullify r)) (subject.Nullify round) h in
      let same : r ≡ round = cc in
      (m, ap (λ (s : Round). NullifyVote s m) same)
  of_nullify (FinalizeVote p m) round h = absurd
      (let e = only_signed (Signs m (subject.Finalize p)) (subject.Nullify round) h in cc)
  of_nullify (Verdict _ _) round h = absurd (signed_none (subject.Nullify round) h)
  of_nullify (Accepted c) round h =
      absurd (let e = only_signed (Accepts (certificate_subject c)) (subject.Nullify round) h in cc)

  of_finalize : (e : ArtifactFacts D) (p : Proposal D) → HasSigned (entry_trace e) (subject.Finalize p)
      → (m : ℕ) × (e ≡ FinalizeVote p m)
  of_finalize (NotarizeVote q m) p h = absurd
      (let e = only_signed (Signs m (subject.Notarize q)) (subject.Finalize p) h in cc)
  of_finalize (NullifyVote r m) p h = absurd
      (let e = only_signed (Signs m (subject.Nullify r)) (subject.Finalize p) h in cc)
  of_finalize (FinalizeVote q m) p h =
      let e = only_signed (Signs m (subject.Finalize q)) (subject.Finalize p) h in
      let same : q ≡ p = cc in
      (m, ap (λ (s : Proposal D). FinalizeVote s m) same)
  of_finalize (Verdict _ _) p h = absurd (signed_none (subject.Finalize p) h)
  of_finalize (Accepted c) p h =
      absurd (let e = only_signed (Accepts (certificate_subject c)) (subject.Finalize p) h in cc)

  pub of_accept : (e : ArtifactFacts D) (s : Subject D) → Contains (entry_trace e) (Accepts s)
      → (c : CertificateFacts D) × (e ≡ Accepted c) × (certificate_subject c ≡ s)
  of_accept (NotarizeVote p _) s h = absurd (let e = only_one _ _ h in cc)
  of_accept (NullifyVote _ _) s h = absurd (let e = only_one _ _ h in cc)
  of_accept (FinalizeVote p _) s h = absurd (let e = only_one _ _ h in cc)
  of_accept (Verdict _ _) s h = absurd (omega (arith, h.1))
  of_accept (Accepted c) s h = (c, refl, (let e = only_one (Accepts (certificate_subject c)) (Accepts s) h in cc))

  -- the trace of a list's entries has the events of the entries in it

  pub entry_of : (entries : List (ArtifactFacts D)) (trace_event : TraceEvent D)
      → Contains (entries_trace entries) trace_event
      → (e : ArtifactFacts D) × Contains entries e × Contains (entry_trace e) trace_event
  entry_of [] trace_event h = absurd (omega (arith, h.1))
  entry_of (e ∷ rest) trace_event h = elim (Contains-append_cases (entry_trace e) (entries_trace rest) trace_event h) [
    | inl here ↦ (e, (0, omega arith, refl), here)
    | inr later ↦
        (let found = entry_of rest trace_event later in (found.0, Contains-cons_rest e rest found.0 found.1, found.2))
  ]

  pub trace_event_of : (entries : List (ArtifactFacts D)) (e : ArtifactFacts D) (trace_event : TraceEvent D)
      → Contains entries e → Contains (entry_trace e) trace_event → Contains (entries_trace entries) trace_event
  trace_event_of [] e trace_event h shows = absurd (omega (arith, h.1))
  trace_event_of (f ∷ rest) e trace_event h shows = elim (Contains-cases f rest e h) [
    | inl here ↦ Contains-append_left (entry_trace f) (entries_trace rest) trace_event
        (subst (λ g. Contains (entry_trace g) trace_event) (sym here) shows)
    | inr later ↦ Contains-append_right (entry_trace f) (entries_trace rest) trace_event
        (trace_event_of rest e trace_event later shows)
  ]

module _ {K L D : Type 0} (term_length : ℕ) (a b : List (TraceEvent D)) (x : StateFacts K L D) where
  -- the same facts show another trace, with no more votes above the finalized view and no fewer certificates
  pub stays_over : ((s : Subject D) → Contains a (Accepts s) → Contains b (Accepts s))
      → ((round : Round) → HasSigned b (subject.Nullify round)
      → (1 ≤ round.view) × (HasSigned a (subject.Nullify round) ⊎ (round.view ≤ x.finalized)))
      → ((p : Proposal D) → HasSigned b (subject.Finalize p)
      → HasSigned a (subject.Finalize p) ⊎ (p.round.view ≤ x.finalized)) → ShowsVotesInLife term_length a x
      → ShowsVotesInLife term_length b x
  stays_over accepts nullifies finalizes stays = record {
    stands = record {
      terms = stays.stands.terms;
      rounds = λ v. (let old = stays.stands.rounds v in
          record {
            notarized = λ c is. ((old.notarized c is).0, accepts (subject.Notarize c.proposal) (old.notarized c is).1);
            held = old.held;
            entered = old.entered;
            left = old.left;
            nullify_decided = λ round h at. elim (nullifies round h).1
                [ inl there ↦ old.nullify_decided round there at | inr below ↦ inr (omega arith) ];
            finalize_decided = λ p h at. elim (finalizes p h)
                [ inl there ↦ old.finalize_decided p there at | inr below ↦ inr (omega arith) ];
          });
      passed = λ p h.
          elim (finalizes p h) [ inl there ↦ stays.stands.passed p there | inr below ↦ omega (arith, stays.ahead) ];
      noted = λ round h. (
        (nullifies round h).0,
        elim (nullifies round h).1 [ inl there ↦ (stays.stands.noted round there).1 | inr below ↦ inr below ],
      );
    };
    ahead = stays.ahead;
    final = elim stays.final
        [ inl genesis ↦ inl genesis | inr final ↦ inr (final.0, accepts (subject.Finalize final.0) final.1, final.2) ];
  }

-- the votes of one trace are in the other
abbrev pub AreRecorded : {D : Type 0} → List (TraceEvent D) → List (TraceEvent D) → Type 0
AreRecorded {D} trace a =
    ((round : Round) → HasSigned a (subject.Nullify round) → HasSigned trace (subject.Nullify round))
    × ((p : Proposal D) → HasSigned a (subject.Finalize p) → HasSigned trace (subject.Finalize p))

module _ {D : Type 0} (term_length : ℕ) (trace : List (TraceEvent D)) (lawful : IsLawful term_length trace) (kept : ℕ)
    (copy : List (ArtifactFacts D)) (remembers : Remembers trace kept copy) where
  may_retake : (a : List (TraceEvent D)) (before rest : List (ArtifactFacts D)) (e : ArtifactFacts D) (current : ℕ)
      → copy ≡ before ++ e ∷ rest → AreRecorded trace a
      → ((round : Round) → Contains before (Verdict round true) → round.view < current) → MayRetake a current e
  may_retake a before rest (NotarizeVote _ _) current split recorded passed = tt
  may_retake a before rest (NullifyVote round m) current split recorded passed =
      let entry : Contains copy (NullifyVote round m) =
      subst (λ es. Contains es (NullifyVote round m)) (sym split)
      (Contains-append_right before (NullifyVote round m ∷ rest) (NullifyVote round m) (0, omega arith, refl)) in
      let cast = remembers.nullify_cast round m entry in
      (remembers.above_genesis round cast, λ p h. lawful.not_both round p cast (recorded.1 p h))
  may_retake a before rest (FinalizeVote p m) current split recorded passed =
      let entry : Contains copy (FinalizeVote p m) =
      subst (λ es. Contains es (FinalizeVote p m)) (sym split)
      (Contains-append_right before (FinalizeVote p m ∷ rest) (FinalizeVote p m) (0, omega arith, refl)) in
      let cast = remembers.finalize_cast p m entry in
      let verdict = remembers.judged before rest p m split in (
        omega (arith, passed verdict.0 verdict.1, verdict.2),
        λ round h. lawful.not_both round p (recorded.0 round h) cast,
      )
  may_retake a before rest (Verdict _ _) current split recorded passed = tt
  may_retake a before rest (Accepted _) current split recorded passed = tt

  -- the votes of one more entry are recorded too
  recorded_also : (a : List (TraceEvent D)) (e : ArtifactFacts D) → Contains copy e → AreRecorded trace a
      → AreRecorded trace (a ++ entry_trace e)
  recorded_also a e here recorded = (
    λ round h. elim (signed_cases a (entry_trace e) (subject.Nullify round) h) [
      | inl old ↦ recorded.0 round old
      | inr new ↦ (let is = of_nullify e round new in
          remembers.nullify_cast round is.0 (subst (λ f. Contains copy f) is.1 here))
    ],
    λ p h. elim (signed_cases a (entry_trace e) (subject.Finalize p) h) [
      | inl old ↦ recorded.1 p old
      | inr new ↦
          (let is = of_finalize e p new in remembers.finalize_cast p is.0 (subst (λ f. Contains copy f) is.1 here))
    ],
  )

module _ {K L D : Type 0} (same : D → D → Bool) (decides : (d e : D) → same d e ≡ true → d ≡ e) (elect : Elect L)
    (term_length : ℕ) (trace : List (TraceEvent D)) (lawful : IsLawful term_length trace) (kept : ℕ)
    (copy : List (ArtifactFacts D)) (remembers : Remembers trace kept copy) (now : ℕ) where
  pub all_stay : (rest before : List (ArtifactFacts D)) (a : List (TraceEvent D)) (x : StateFacts K L D)
      → copy ≡ before ++ rest → AreRecorded trace a
      → ((round : Round) → Contains before (Verdict round true) → round.view < x.current)
      → ShowsVotesInLife term_length a x → ShowsVotesInLife term_length (a ++ entries_trace rest)
      (after_entries same elect x now rest)
  all_stay [] before a x split recorded passed stays =
      subst (λ b. ShowsVotesInLife term_length b x) (sym (append-nil a)) stays
  all_stay (e ∷ rest) before a x split recorded passed stays =
      let y = after_kept_entry same elect x now e in
      let further : List (ArtifactFacts D) = before ++ e ∷ [] in
      let here : Contains copy e = subst (λ es. Contains es e) (sym split)
      (Contains-append_right before (e ∷ rest) e (0, omega arith, refl)) in
      let next : copy ≡ further ++ rest = split ∙ sym (append_assoc before (e ∷ []) rest) in
      let took = taken_stays same decides elect term_length a x now stays e
      (may_retake term_length trace lawful kept copy remembers a before rest e x.current split recorded passed) in
      let up : x.current ≤ y.current = taken_rises same elect x now e in
      let passes : (round : Round) → Contains further (Verdict round true) → round.view < y.current =
      λ round h. elim (Contains-push_cases before e (Verdict round true) h) [
        | inl old ↦ omega (arith, passed round old)
        | inr new ↦ taken_passes same decides elect term_length a x now e round new stays.ahead
      ] in
      subst (λ b. ShowsVotesInLife term_length b (after_entries same elect y now rest))
      (append_assoc a (entry_trace e) (entries_trace rest))
      (all_stay rest further (a ++ entry_trace e) y next
      (recorded_also term_length trace lawful kept copy remembers a e here recorded) passes took)
