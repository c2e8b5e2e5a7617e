-- For `votes_are_lawful`.
-- A copy of a record by view, a record without its last entries, and a pruned one remember the trace.
use Rattle.std.proofs.Common.{◌≡◌, refl, ap, sym, ◌∙◌, subst, ℕ, ◌<◌, ◌≤◌, inl, inr, Bool, true, false, max, List, [], ◌∷◌, ◌++◌, append_assoc, Contains, filter, arith}
use Rattle.std.specs.Prelude.{◌==◌}
use Rattle.std.proofs.lemmas.Bool.{cases_Bool, cases_lt, false≢true, eq-eqb}
use Rattle.std.proofs.lemmas.List.{append-nil}
use Rattle.std.proofs.lemmas.List.Elements.{Contains-append_left, Contains-append_cases}
use Rattle.simplex_types.specs.Certificates.{Finalized, ArtifactFacts, NullifyVote, FinalizeVote, Verdict, Accepted}
use Rattle.simplex_types.specs.Config.{FloorFacts, Genesis, Finalized as FinalizedFloor}
use Rattle.simplex_types.specs.declared.types.messages.Proposal.{Proposal}
use Rattle.simplex_types.specs.declared.types.messages.Subject.TheVariants as subject
use Rattle.simplex_types.specs.declared.types.numbers.Round.{Round}
use Rattle.simplex_record.specs.Check.{stands}
use Rattle.simplex_record.specs.Cuts.{is_vote}
use Rattle.simplex_record.specs.Entries.{entry_view}
use Rattle.simplex_record.specs.Recovery.{is_finalization_entry, with_floor}
use Rattle.laws_safety.specs.Traces.{TraceEvent, Accepts, of_floor}
use Rattle.laws_safety.proofs.agreement.VoteOrder.{Contains-middle}
use Rattle.laws_safety.proofs.lists.Filters.{filter_split, filter_middle, Contains-filter, Contains-filtered, filtered_passes, same_entries}
use Rattle.laws_safety.proofs.records.TracesShown.{Remembers}
use Rattle.laws_safety.proofs.records.RememberedVotes.{remembers_more, grows_certificate}

-- a view whose entries don't stay is below the bound
pub falls_below : (stays : ℕ → Bool) (bound : ℕ) → ((v : ℕ) → bound ≤ v → stays v ≡ true) → (v : ℕ) → stays v ≡ false
    → v < bound
falls_below stays bound above v falls = elim (cases_lt v bound) [
  | inl below ↦ below
  | inr high ↦ absurd (false≢true (sym falls ∙ above v (omega arith)))
]

module _ {D : Type 0} (trace : List (TraceEvent D)) (kept : ℕ) (entries : List (ArtifactFacts D))
    (remembers : Remembers trace kept entries) where
  -- entries of each view in the same order

  module _ (copy : List (ArtifactFacts D))
      (of_each_view : (v : ℕ) → filter (λ e. entry_view e == v) copy ≡ filter (λ e. entry_view e == v) entries) where
    copy_judged : (before after : List (ArtifactFacts D)) (p : Proposal D) (m : ℕ)
        → copy ≡ before ++ FinalizeVote p m ∷ after
        → (round : Round) × Contains before (Verdict round true) × (round.view ≡ p.round.view)
    copy_judged before after p m split =
        let v = p.round.view in
        let test : ArtifactFacts D → Bool = λ f. entry_view f == v in
        let vote : ArtifactFacts D = FinalizeVote p m in
        let same : filter test entries ≡ filter test before ++ vote ∷ filter test after = sym (of_each_view v)
        ∙ (ap (filter test) split ∙ filter_middle test before after vote (eq-eqb v v refl)) in
        let whole = filter_split test entries (filter test before) (filter test after) vote same in
        let verdict = remembers.judged whole.0 whole.1 p m whole.2 in
        let kept_there : Contains (filter test whole.0) (Verdict verdict.0 true) =
        Contains-filter test whole.0 (Verdict verdict.0 true) verdict.1 (eq-eqb verdict.0.view v verdict.2) in (
          verdict.0,
          Contains-filtered test before (Verdict verdict.0 true)
              (subst (λ es. Contains es (Verdict verdict.0 true)) (sym whole.3) kept_there),
          verdict.2,
        )

    pub copy_remembers : Remembers trace kept copy
    copy_remembers = record {
      accepted = λ c h. remembers.accepted c (same_entries copy entries of_each_view (Accepted c) h);
      nullify_cast = λ round m h. remembers.nullify_cast round m
          (same_entries copy entries of_each_view (NullifyVote round m) h);
      finalize_cast = λ p m h. remembers.finalize_cast p m
          (same_entries copy entries of_each_view (FinalizeVote p m) h);
      nullify_kept = λ round h. elim (remembers.nullify_kept round h) [
        | inl e ↦ inl (e.0, same_entries entries copy (λ v. sym (of_each_view v)) (NullifyVote round e.0) e.1)
        | inr below ↦ inr below
      ];
      finalize_kept = λ p h. elim (remembers.finalize_kept p h) [
        | inl e ↦ inl (e.0, same_entries entries copy (λ v. sym (of_each_view v)) (FinalizeVote p e.0) e.1)
        | inr below ↦ inr below
      ];
      above_genesis = remembers.above_genesis;
      judged = copy_judged;
    }

  -- without last entries that are no votes

  pub left_remembers : (left tail : List (ArtifactFacts D)) → entries ≡ left ++ tail
      → ((e : ArtifactFacts D) → Contains tail e → is_vote e ≡ false) → Remembers trace kept left
  left_remembers left tail split no_votes = record {
    accepted = λ c h. remembers.accepted c (there (Accepted c) h);
    nullify_cast = λ round m h. remembers.nullify_cast round m (there (NullifyVote round m) h);
    finalize_cast = λ p m h. remembers.finalize_cast p m (there (FinalizeVote p m) h);
    nullify_kept = λ round h. elim (remembers.nullify_kept round h)
        [ inl e ↦ inl (e.0, voted (NullifyVote round e.0) refl e.1) | inr below ↦ inr below ];
    finalize_kept = λ p h. elim (remembers.finalize_kept p h)
        [ inl e ↦ inl (e.0, voted (FinalizeVote p e.0) refl e.1) | inr below ↦ inr below ];
    above_genesis = remembers.above_genesis;
    judged = λ before after p m is. remembers.judged before (after ++ tail) p m
        (split ∙ (ap (λ es. es ++ tail) is ∙ append_assoc before (FinalizeVote p m ∷ after) tail));
  }
    where
      there : (e : ArtifactFacts D) → Contains left e → Contains entries e
      there e h = subst (λ es. Contains es e) (sym split) (Contains-append_left left tail e h)

      voted : (e : ArtifactFacts D) → is_vote e ≡ true → Contains entries e → Contains left e
      voted e vote h = elim (Contains-append_cases left tail e (subst (λ es. Contains es e) split h)) [
        | inl old ↦ old
        | inr dropped ↦ absurd (false≢true (sym (no_votes e dropped) ∙ vote))
      ]

  -- without entries of some views, all below a bound

  pub bounded_remembers : (stays : ℕ → Bool) (bound : ℕ) → ((v : ℕ) → bound ≤ v → stays v ≡ true)
      → Remembers trace (max kept bound) (filter (λ e. stays (entry_view e)) entries)
  bounded_remembers stays bound above = record {
    accepted = λ c h. remembers.accepted c (Contains-filtered test entries (Accepted c) h);
    nullify_cast = λ round m h. remembers.nullify_cast round m (Contains-filtered test entries (NullifyVote round m) h);
    finalize_cast = λ p m h. remembers.finalize_cast p m (Contains-filtered test entries (FinalizeVote p m) h);
    nullify_kept = λ round h. elim (remembers.nullify_kept round h) [
      | inr below ↦ inr (omega arith)
      | inl e ↦ elim (cases_Bool (stays round.view)) [
        | inl there ↦ inl (e.0, Contains-filter test entries (NullifyVote round e.0) e.1 there)
        | inr falls ↦ inr (omega (arith, falls_below stays bound above round.view falls))
      ]
    ];
    finalize_kept = λ p h. elim (remembers.finalize_kept p h) [
      | inr below ↦ inr (omega arith)
      | inl e ↦ elim (cases_Bool (stays p.round.view)) [
        | inl there ↦ inl (e.0, Contains-filter test entries (FinalizeVote p e.0) e.1 there)
        | inr falls ↦ inr (omega (arith, falls_below stays bound above p.round.view falls))
      ]
    ];
    above_genesis = remembers.above_genesis;
    judged = λ before after p m split.
        (let whole = filter_split test entries before after (FinalizeVote p m) split in
        let verdict = remembers.judged whole.0 whole.1 p m whole.2 in
        let here : Contains (filter test entries) (FinalizeVote p m) =
        subst (λ es. Contains es (FinalizeVote p m)) (sym split) (Contains-middle before after (FinalizeVote p m))
        in
        let passes : stays p.round.view ≡ true = filtered_passes test entries (FinalizeVote p m) here in
        let there : stays verdict.0.view ≡ true = ap stays verdict.2 ∙ passes in (
          verdict.0,
          subst (λ es. Contains es (Verdict verdict.0 true)) (sym whole.3)
              (Contains-filter test whole.0 (Verdict verdict.0 true) verdict.1 there),
          verdict.2,
        ));
  }
    where
      test : ArtifactFacts D → Bool
      test e = stays (entry_view e)

  -- with the floor's finalization

  pub floor_remembers : (floor : FloorFacts D) → Remembers (trace ++ of_floor floor) kept (with_floor entries floor)
  floor_remembers (Genesis _) = subst (λ a. Remembers a kept entries) (sym (append-nil trace)) remembers
  floor_remembers (FinalizedFloor c) = by_record (stands c.proposal.round.view is_finalization_entry entries) refl
    where
      by_record : (b : Bool) → stands c.proposal.round.view is_finalization_entry entries ≡ b
          → Remembers (trace ++ Accepts (subject.Finalize c.proposal) ∷ []) kept (with_floor entries (FinalizedFloor c))
      by_record true is = rw is (subst (λ es. Remembers (trace ++ Accepts (subject.Finalize c.proposal) ∷ []) kept es)
          (append-nil entries) (remembers_more trace entries kept (Accepts (subject.Finalize c.proposal) ∷ []) []
          (grows_certificate trace entries false (Finalized c)) remembers))
      by_record false is = rw is (remembers_more trace entries kept (Accepts (subject.Finalize c.proposal) ∷ [])
          (Accepted (Finalized c) ∷ []) (grows_certificate trace entries true (Finalized c)) remembers)
