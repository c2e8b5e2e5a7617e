-- The invariant of the verdicts and votes that a member records: drops, prunes, copies by view and growth keep it.
use Rattle.std.proofs.Common.{◌≡◌, refl, ap, sym, ◌∙◌, subst, ℕ, inl, inr, Bool, true, false, List, [], ◌∷◌, ◌++◌, append_assoc, Contains, filter, arith}
use Rattle.std.specs.Prelude.{◌==◌}
use Rattle.std.proofs.lemmas.Bool.{false≢true, eq-eqb}
use Rattle.std.proofs.lemmas.List.Elements.{Contains-append_left, Contains-append_cases}
use Rattle.simplex_types.specs.Certificates.{ProposalFacts, Notarized, Finalized, ArtifactFacts, NotarizeVote, NullifyVote, FinalizeVote, Verdict, Accepted}
use Rattle.simplex_types.specs.Config.{FloorFacts, Genesis, Finalized as FinalizedFloor}
use Rattle.simplex_types.specs.declared.types.messages.Proposal.{Proposal}
use Rattle.simplex_types.specs.declared.types.messages.Subject.{Subject}
use Rattle.simplex_types.specs.declared.types.messages.Subject.TheVariants as subject
use Rattle.simplex_types.specs.declared.types.numbers.Round.{Round}
use Rattle.simplex_member.specs.CallSemantics.{if_new}
use Rattle.simplex_record.specs.Check.{stands}
use Rattle.simplex_record.specs.Entries.{entry_view}
use Rattle.simplex_record.specs.Recovery.{is_finalization_entry, with_floor}
use Rattle.laws_safety.specs.Traces.{TraceEvent}
use Rattle.laws_safety.specs.Lawful.{HasSigned, SignsAfter, IsLawful}
use Rattle.laws_safety.proofs.lists.Signed.{signed_left}
use Rattle.laws_safety.proofs.lists.Filters.{filter_split, filter_middle, Contains-filter, Contains-filtered, filtered_passes, same_entries}
use Rattle.laws_safety.proofs.records.TracesShown.{Remembers}
use Rattle.laws_safety.proofs.records.RememberedVotes.{append_split, none_split}
use Rattle.laws_safety.proofs.own_records.EntriesFit.{HoldTogether}
use Rattle.laws_safety.proofs.agreement.VoteOrder.{Order, Same, First, Second, in_order, Contains-middle}
use Rattle.laws_safety.proofs.lists.Splits.{only_one}

-- before each verdict there is a notarization of its view, a view's verdicts agree, and each vote to notarize was cast
pub record OwnRecord {D : Type 0} (trace : List (TraceEvent D)) (entries : List (ArtifactFacts D)) : Type 0 where
  pub notarized : (before after : List (ArtifactFacts D)) (round : Round) (success : Bool)
      → entries ≡ before ++ Verdict round success ∷ after
      → (c : ProposalFacts D) × Contains before (Accepted (Notarized c)) × (c.proposal.round.view ≡ round.view)
  pub one_verdict : (round other : Round) (success given : Bool) → Contains entries (Verdict round success)
      → Contains entries (Verdict other given) → round.view ≡ other.view → success ≡ given
  pub notarize_cast : (p : Proposal D) (m : ℕ) → Contains entries (NotarizeVote p m)
      → HasSigned trace (subject.Notarize p)

-- two votes of one kind are one, or the later one is for another view
one_of : {D : Type 0} (trace : List (TraceEvent D)) (vote : Proposal D → Subject D) (p q : Proposal D)
    → ((before : List (TraceEvent D)) (r s : Proposal D) → SignsAfter trace before (vote r) → HasSigned before (vote s)
    → s.round.view ≡ r.round.view → ⊥) → (vote p ≡ vote q → p ≡ q) → Order trace (vote p) (vote q)
    → p.round.view ≡ q.round.view → p ≡ q
one_of trace vote p q apart one (Same is) at = one is
one_of trace vote p q apart one (First before cast old) at = absurd (apart before q p cast old at)
one_of trace vote p q apart one (Second before cast old) at = absurd (apart before p q cast old (sym at))

module _ {D : Type 0} (term_length : ℕ) (trace : List (TraceEvent D)) (kept : ℕ)
    (entries : List (ArtifactFacts D)) where
  -- such a record of a lawful trace holds together
  pub own_together : IsLawful term_length trace → Remembers trace kept entries → OwnRecord trace entries
      → HoldTogether entries
  own_together lawful remembers own = record {
    notarized = own.notarized;
    one_verdict = own.one_verdict;
    one_notarize = λ p q m n there here. one_of trace subject.Notarize p q lawful.one_notarize (λ is. cc)
        (in_order trace (subject.Notarize p) (subject.Notarize q) (own.notarize_cast p m there)
        (own.notarize_cast q n here));
    one_finalize = λ p q m n there here. one_of trace subject.Finalize p q lawful.one_finalize (λ is. cc)
        (in_order trace (subject.Finalize p) (subject.Finalize q) (remembers.finalize_cast p m there)
        (remembers.finalize_cast q n here));
    not_both = λ round p m n there here. lawful.not_both round p (remembers.nullify_cast round m there)
        (remembers.finalize_cast p n here);
    judged = remembers.judged;
  }

-- an entry of which such a record says something
abbrev pub is_weighed : {D : Type 0} → ArtifactFacts D → Bool
is_weighed (NotarizeVote _ _) = true
is_weighed (NullifyVote _ _) = false
is_weighed (FinalizeVote _ _) = false
is_weighed (Verdict _ _) = true
is_weighed (Accepted _) = false

-- none of the entries is a verdict or a vote to notarize
abbrev pub AreQuiet : {D : Type 0} → List (ArtifactFacts D) → Type 0
AreQuiet {D} new = (e : ArtifactFacts D) → Contains new e → is_weighed e ≡ false

module _ {D : Type 0} where
  pub quiet_none : AreQuiet {D = D} []
  quiet_none e h = absurd (omega (arith, h.1))

  pub quiet_one : (f : ArtifactFacts D) → is_weighed f ≡ false → AreQuiet (f ∷ [])
  quiet_one f is e h = ap is_weighed (sym (only_one f e h)) ∙ is

  pub quiet_newly : (is_new : Bool) (f : ArtifactFacts D) → is_weighed f ≡ false → AreQuiet (if_new is_new f)
  quiet_newly true f is = quiet_one f is
  quiet_newly false f is = quiet_none

  none_weighed : (new : List (ArtifactFacts D)) (e : ArtifactFacts D) → AreQuiet new → is_weighed e ≡ true
      → Contains new e → ⊥
  none_weighed new e quiet weighed h = false≢true (sym (quiet e h) ∙ weighed)

-- none of the entries is a verdict
abbrev pub HasNoVerdict : {D : Type 0} → List (ArtifactFacts D) → Type 0
HasNoVerdict new = (round : Round) (success : Bool) → Contains new (Verdict round success) → ⊥

pub no_verdict : {D : Type 0} (new : List (ArtifactFacts D)) → AreQuiet new → HasNoVerdict new
no_verdict new quiet round success h = none_weighed new (Verdict round success) quiet refl h

-- nothing was done and nothing is recorded
pub own_nothing : {D : Type 0} → OwnRecord {D = D} [] []
own_nothing = record {
  notarized = λ before after round success split. absurd (none_split before after (Verdict round success) split);
  one_verdict = λ round other success given h. absurd (omega (arith, h.1));
  notarize_cast = λ p m h. absurd (omega (arith, h.1));
}

module _ {D : Type 0} (trace : List (TraceEvent D)) (entries : List (ArtifactFacts D))
    (own : OwnRecord trace entries) where
  -- growth

  -- no verdict, and votes to notarize that were cast
  pub own_silent : (more : List (TraceEvent D)) (new : List (ArtifactFacts D)) → HasNoVerdict new
      → ((p : Proposal D) (m : ℕ) → Contains new (NotarizeVote p m) → HasSigned (trace ++ more) (subject.Notarize p))
      → OwnRecord (trace ++ more) (entries ++ new)
  own_silent more new silent cast = record {
    notarized = λ before after round success split.
        elim (append_split entries new before after (Verdict round success) split) [
          | inl old ↦ own.notarized before old.0 round success old.1
          | inr late ↦ absurd (silent round success
              (subst (λ es. Contains es (Verdict round success)) (sym late.2)
              (Contains-middle late.0 after (Verdict round success))))
        ];
    one_verdict = λ round other success given h k.
        own.one_verdict round other success given (old_verdict round success h) (old_verdict other given k);
    notarize_cast = λ p m h. elim (Contains-append_cases entries new (NotarizeVote p m) h) [
      | inl old ↦ signed_left trace more (subject.Notarize p) (own.notarize_cast p m old)
      | inr late ↦ cast p m late
    ];
  }
    where
      old_verdict : (round : Round) (success : Bool) → Contains (entries ++ new) (Verdict round success)
          → Contains entries (Verdict round success)
      old_verdict round success h = elim (Contains-append_cases entries new (Verdict round success) h) [
        | inl old ↦ old
        | inr late ↦ absurd (silent round success late)
      ]

  pub own_quiet : (more : List (TraceEvent D)) (new : List (ArtifactFacts D)) → AreQuiet new
      → OwnRecord (trace ++ more) (entries ++ new)
  own_quiet more new quiet = own_silent more new (no_verdict new quiet)
      (λ p m h. absurd (none_weighed new (NotarizeVote p m) quiet refl h))

  -- a verdict of a view that has its notarization, and no other verdict
  pub own_verdict : (more : List (TraceEvent D)) (round : Round) (success : Bool)
      → (c : ProposalFacts D) × Contains entries (Accepted (Notarized c)) × (c.proposal.round.view ≡ round.view)
      → ((other : Round) (given : Bool) → Contains entries (Verdict other given) → other.view ≡ round.view
      → given ≡ success) → OwnRecord (trace ++ more) (entries ++ Verdict round success ∷ [])
  own_verdict more round success notarization agree = record {
    notarized = λ before after other given split.
        elim (append_split entries new before after (Verdict other given) split) [
          | inl old ↦ own.notarized before old.0 other given old.1
          | inr late ↦
              (let c = notarization in
              let is = one other given (subst (λ es. Contains es (Verdict other given)) (sym late.2)
              (Contains-middle late.0 after (Verdict other given))) in (
                c.0,
                subst (λ es. Contains es (Accepted (Notarized c.0))) (sym late.1)
                    (Contains-append_left entries late.0 (Accepted (Notarized c.0)) c.1),
                c.2 ∙ ap (λ (r : Round). r.view) is.0,
              ))
        ];
    one_verdict = λ r q s t h k at. elim (Contains-append_cases entries new (Verdict r s) h) [
      | inl old ↦ elim (Contains-append_cases entries new (Verdict q t) k) [
        | inl older ↦ own.one_verdict r q s t old older at
        | inr now ↦ (let is = one q t now in agree r s old (at ∙ ap (λ (u : Round). u.view) (sym is.0)) ∙ is.1)
      ]
      | inr late ↦ elim (Contains-append_cases entries new (Verdict q t) k) [
        | inl older ↦
            (let is = one r s late in sym is.1 ∙ sym (agree q t older (sym at ∙ ap (λ (u : Round). u.view) (sym is.0))))
        | inr now ↦ sym (one r s late).1 ∙ (one q t now).1
      ]
    ];
    notarize_cast = λ p m h. elim (Contains-append_cases entries new (NotarizeVote p m) h) [
      | inl old ↦ signed_left trace more (subject.Notarize p) (own.notarize_cast p m old)
      | inr late ↦ absurd (let e = only_one (Verdict round success) (NotarizeVote p m) late in cc)
    ];
  }
    where
      new : List (ArtifactFacts D)
      new = Verdict round success ∷ []

      verdict : Round → Bool → ArtifactFacts D
      verdict r s = Verdict r s

      one : (other : Round) (given : Bool) → Contains (verdict round success ∷ []) (verdict other given)
          → (round ≡ other) × (success ≡ given)
      one other given h = let e : Verdict round success ≡ verdict other given =
          only_one (verdict round success) (verdict other given) h in (cc, cc)

  -- with the floor's finalization
  pub own_floor : (more : List (TraceEvent D)) (floor : FloorFacts D)
      → OwnRecord (trace ++ more) (with_floor entries floor)
  own_floor more (Genesis payload) = wider
    where
      wider : OwnRecord (trace ++ more) entries
      wider = record {
        notarized = own.notarized;
        one_verdict = own.one_verdict;
        notarize_cast = λ p m h. signed_left trace more (subject.Notarize p) (own.notarize_cast p m h);
      }
  own_floor more (FinalizedFloor c) = by_record (stands c.proposal.round.view is_finalization_entry entries) refl
    where
      by_record : (b : Bool) → stands c.proposal.round.view is_finalization_entry entries ≡ b
          → OwnRecord (trace ++ more) (with_floor entries (FinalizedFloor c))
      by_record true is = rw is (record {
        notarized = own.notarized;
        one_verdict = own.one_verdict;
        notarize_cast = λ p m h. signed_left trace more (subject.Notarize p) (own.notarize_cast p m h);
      })
      by_record false is =
          rw is (own_quiet more (Accepted (Finalized c) ∷ []) (quiet_one (Accepted (Finalized c)) refl))

  -- without last entries
  pub own_left : (left tail : List (ArtifactFacts D)) → entries ≡ left ++ tail → OwnRecord trace left
  own_left left tail split = record {
    notarized = λ before after round success is.
        own.notarized before (after ++ tail) round success
        (split ∙ (ap (λ es. es ++ tail) is ∙ append_assoc before (Verdict round success ∷ after) tail));
    one_verdict = λ round other success given h k.
        own.one_verdict round other success given (there (Verdict round success) h) (there (Verdict other given) k);
    notarize_cast = λ p m h. own.notarize_cast p m (there (NotarizeVote p m) h);
  }
    where
      there : (e : ArtifactFacts D) → Contains left e → Contains entries e
      there e h = subst (λ es. Contains es e) (sym split) (Contains-append_left left tail e h)

  -- without the entries of some views
  pub own_bounded : (stays : ℕ → Bool) → OwnRecord trace (filter (λ e. stays (entry_view e)) entries)
  own_bounded stays = record {
    notarized = λ before after round success split.
        (let whole = filter_split test entries before after (Verdict round success) split in
        let c = own.notarized whole.0 whole.1 round success whole.2 in
        let here : Contains (filter test entries) (Verdict round success) =
        subst (λ es. Contains es (Verdict round success)) (sym split)
        (Contains-middle before after (Verdict round success)) in
        let passes : stays round.view ≡ true = filtered_passes test entries (Verdict round success) here in
        let there : stays c.0.proposal.round.view ≡ true = ap stays c.2 ∙ passes in (
          c.0,
          subst (λ es. Contains es (Accepted (Notarized c.0))) (sym whole.3)
              (Contains-filter test whole.0 (Accepted (Notarized c.0)) c.1 there),
          c.2,
        ));
    one_verdict = λ round other success given h k.
        own.one_verdict round other success given (Contains-filtered test entries (Verdict round success) h)
        (Contains-filtered test entries (Verdict other given) k);
    notarize_cast = λ p m h. own.notarize_cast p m (Contains-filtered test entries (NotarizeVote p m) h);
  }
    where
      test : ArtifactFacts D → Bool
      test e = stays (entry_view e)

  -- a copy with the entries of each view in their order
  pub own_copy : (copy : List (ArtifactFacts D))
      → ((v : ℕ) → filter (λ e. entry_view e == v) copy ≡ filter (λ e. entry_view e == v) entries)
      → OwnRecord trace copy
  own_copy copy of_each_view = record {
    notarized = λ before after round success split.
        (let v = round.view in
        let test : ArtifactFacts D → Bool = λ f. entry_view f == v in
        let verdict : ArtifactFacts D = Verdict round success in
        let same : filter test entries ≡ filter test before ++ verdict ∷ filter test after = sym (of_each_view v)
        ∙ (ap (filter test) split ∙ filter_middle test before after verdict (eq-eqb v v refl)) in
        let whole = filter_split test entries (filter test before) (filter test after) verdict same in
        let c = own.notarized whole.0 whole.1 round success whole.2 in
        let kept_there : Contains (filter test whole.0) (Accepted (Notarized c.0)) =
        Contains-filter test whole.0 (Accepted (Notarized c.0)) c.1 (eq-eqb c.0.proposal.round.view v c.2) in (
          c.0,
          Contains-filtered test before (Accepted (Notarized c.0))
              (subst (λ es. Contains es (Accepted (Notarized c.0))) (sym whole.3) kept_there),
          c.2,
        ));
    one_verdict = λ round other success given h k.
        own.one_verdict round other success given (there (Verdict round success) h) (there (Verdict other given) k);
    notarize_cast = λ p m h. own.notarize_cast p m (there (NotarizeVote p m) h);
  }
    where
      there : (e : ArtifactFacts D) → Contains copy e → Contains entries e
      there = same_entries copy entries of_each_view
