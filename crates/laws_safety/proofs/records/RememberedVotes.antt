-- For `votes_are_lawful`.
-- A record that grows with each event of the trace remembers it.
use Rattle.std.proofs.Common.{◌≡◌, refl, ap, sym, ◌∙◌, subst, ℕ, ◌≤◌, ◌⊎◌, inl, inr, Bool, true, false, List, [], ◌∷◌, ◌++◌, Contains, arith}
use Rattle.std.proofs.lemmas.List.Elements.{Contains-append_left, Contains-append_right, Contains-append_cases}
use Rattle.simplex_types.specs.Certificates.{CertificateFacts, ArtifactFacts, NullifyVote, FinalizeVote, Verdict, Accepted}
use Rattle.simplex_types.specs.declared.types.messages.Proposal.{Proposal}
use Rattle.simplex_types.specs.declared.types.messages.Subject.TheVariants as subject
use Rattle.simplex_types.specs.declared.types.numbers.Round.{Round}
use Rattle.simplex_types.specs.Encoding.{certificate_subject}
use Rattle.simplex_member.specs.CallSemantics.{if_new}
use Rattle.laws_safety.specs.Traces.{TraceEvent, Accepts, Signs}
use Rattle.laws_safety.specs.Lawful.{HasSigned}
use Rattle.laws_safety.proofs.lists.Signed.{signed_none, signed_left, signed_cases, signed_last, only_signed}
use Rattle.laws_safety.proofs.records.TracesShown.{Remembers}
use Rattle.laws_safety.proofs.lists.Splits.{only_one}

-- an element of two lists joined is in the first one or after it
pub append_split : {X : Type 0} (xs ys before after : List X) (x : X) → xs ++ ys ≡ before ++ x ∷ after
    → ((rest : List X) × (xs ≡ before ++ x ∷ rest))
    ⊎ ((front : List X) × (before ≡ xs ++ front) × (ys ≡ front ++ x ∷ after))
append_split [] ys before after x e = inr (before, refl, e)
append_split {X} (a ∷ xs) ys [] after x e =
    let head : a ≡ x = cc in
    inl (xs, ap (λ (z : X). z ∷ xs) head)
append_split {X} (a ∷ xs) ys (b ∷ before) after x e =
    let head : a ≡ b = cc in
    let rest : xs ++ ys ≡ before ++ x ∷ after = cc in
    elim (append_split xs ys before after x rest) [
      | inl h ↦ inl (h.0, cc)
      | inr h ↦ inr (h.0, cc, h.2)
    ]

pub none_split : {X : Type 0} (before after : List X) (x : X) → [] ≡ before ++ x ∷ after → ⊥
none_split [] after x e = absurd (cc)
none_split (b ∷ before) after x e = absurd (cc)

pub single_split : {X : Type 0} (before after : List X) (y x : X) → y ∷ [] ≡ before ++ x ∷ after → y ≡ x
single_split [] after y x e = cc
single_split (b ∷ []) after y x e = absurd (cc)
single_split (b ∷ (c ∷ before)) after y x e = absurd (cc)

-- what must be known of new entries and events
pub record RecordGrows {D : Type 0} (trace more : List (TraceEvent D)) (entries new : List (ArtifactFacts D)) : Type
    0 where
  pub accepted : (c : CertificateFacts D) → Contains new (Accepted c)
      → Contains (trace ++ more) (Accepts (certificate_subject c))
  pub nullify_cast : (round : Round) (m : ℕ) → Contains new (NullifyVote round m)
      → HasSigned (trace ++ more) (subject.Nullify round)
  pub finalize_cast : (p : Proposal D) (m : ℕ) → Contains new (FinalizeVote p m)
      → HasSigned (trace ++ more) (subject.Finalize p)
  pub nullify_kept : (round : Round) → HasSigned more (subject.Nullify round)
      → (1 ≤ round.view) × ((m : ℕ) × Contains (entries ++ new) (NullifyVote round m))
  pub finalize_kept : (p : Proposal D) → HasSigned more (subject.Finalize p)
      → (m : ℕ) × Contains (entries ++ new) (FinalizeVote p m)
  pub judged : (before after : List (ArtifactFacts D)) (p : Proposal D) (m : ℕ)
      → new ≡ before ++ FinalizeVote p m ∷ after
      → (round : Round) × Contains entries (Verdict round true) × (round.view ≡ p.round.view)

module _ {D : Type 0} (trace : List (TraceEvent D)) (entries : List (ArtifactFacts D)) where
  pub remembers_more : (kept : ℕ) (more : List (TraceEvent D)) (new : List (ArtifactFacts D))
      → RecordGrows trace more entries new → Remembers trace kept entries
      → Remembers (trace ++ more) kept (entries ++ new)
  remembers_more kept more new grows remembers = record {
    accepted = λ c h. elim (Contains-append_cases entries new (Accepted c) h) [
      | inl old ↦ Contains-append_left trace more (Accepts (certificate_subject c)) (remembers.accepted c old)
      | inr late ↦ grows.accepted c late
    ];
    nullify_cast = λ round m h. elim (Contains-append_cases entries new (NullifyVote round m) h) [
      | inl old ↦ signed_left trace more (subject.Nullify round) (remembers.nullify_cast round m old)
      | inr late ↦ grows.nullify_cast round m late
    ];
    finalize_cast = λ p m h. elim (Contains-append_cases entries new (FinalizeVote p m) h) [
      | inl old ↦ signed_left trace more (subject.Finalize p) (remembers.finalize_cast p m old)
      | inr late ↦ grows.finalize_cast p m late
    ];
    nullify_kept = λ round h. elim (signed_cases trace more (subject.Nullify round) h) [
      | inl old ↦ elim (remembers.nullify_kept round old) [
        | inl e ↦ inl (e.0, Contains-append_left entries new (NullifyVote round e.0) e.1)
        | inr below ↦ inr below
      ]
      | inr late ↦ inl (grows.nullify_kept round late).1
    ];
    finalize_kept = λ p h. elim (signed_cases trace more (subject.Finalize p) h) [
      | inl old ↦ elim (remembers.finalize_kept p old) [
        | inl e ↦ inl (e.0, Contains-append_left entries new (FinalizeVote p e.0) e.1)
        | inr below ↦ inr below
      ]
      | inr late ↦ inl (grows.finalize_kept p late)
    ];
    above_genesis = λ round h. elim (signed_cases trace more (subject.Nullify round) h) [
      | inl old ↦ remembers.above_genesis round old
      | inr late ↦ (grows.nullify_kept round late).0
    ];
    judged = λ before after p m split. elim (append_split entries new before after (FinalizeVote p m) split) [
      | inl old ↦ remembers.judged before old.0 p m old.1
      | inr late ↦
          (let verdict = grows.judged late.0 after p m late.2 in (
            verdict.0,
            subst (λ es. Contains es (Verdict verdict.0 true)) (sym late.1)
                (Contains-append_left entries late.0 (Verdict verdict.0 true) verdict.1),
            verdict.2,
          ))
    ];
  }

  -- no event and no entry
  pub grows_nothing : RecordGrows trace [] entries []
  grows_nothing = record {
    accepted = λ c h. absurd (omega (arith, h.1));
    nullify_cast = λ round m h. absurd (omega (arith, h.1));
    finalize_cast = λ p m h. absurd (omega (arith, h.1));
    nullify_kept = λ round h. absurd (signed_none (subject.Nullify round) h);
    finalize_kept = λ p h. absurd (signed_none (subject.Finalize p) h);
    judged = λ before after p m split. absurd (none_split before after (FinalizeVote p m) split);
  }

  -- a verdict is no event of the trace
  pub grows_verdict : (is_new : Bool) (round : Round) (success : Bool)
      → RecordGrows trace [] entries (if_new is_new (Verdict round success))
  grows_verdict false round success = grows_nothing
  grows_verdict true round success = record {
    accepted = λ c h. absurd (let e = only_one (Verdict round success) (Accepted c) h in cc);
    nullify_cast = λ r m h. absurd (let e = only_one (Verdict round success) (NullifyVote r m) h in cc);
    finalize_cast = λ p m h. absurd (let e = only_one (Verdict round success) (FinalizeVote p m) h in cc);
    nullify_kept = λ r h. absurd (signed_none (subject.Nullify r) h);
    finalize_kept = λ p h. absurd (signed_none (subject.Finalize p) h);
    judged = λ before after p m split. absurd
        (let e = single_split before after (Verdict round success) (FinalizeVote p m) split in cc);
  }

  -- a certificate is accepted, whether it is recorded or not
  pub grows_certificate : (is_new : Bool) (c : CertificateFacts D)
      → RecordGrows trace (Accepts (certificate_subject c) ∷ []) entries (if_new is_new (Accepted c))
  grows_certificate false c = record {
    accepted = λ d h. absurd (omega (arith, h.1));
    nullify_cast = λ round m h. absurd (omega (arith, h.1));
    finalize_cast = λ p m h. absurd (omega (arith, h.1));
    nullify_kept =
        λ round h. absurd (let e = only_signed (Accepts (certificate_subject c)) (subject.Nullify round) h in cc);
    finalize_kept = λ p h. absurd (let e = only_signed (Accepts (certificate_subject c)) (subject.Finalize p) h in cc);
    judged = λ before after p m split. absurd (none_split before after (FinalizeVote p m) split);
  }
  grows_certificate true c = record {
    accepted = λ d h.
        (let e = only_one (Accepted c) (Accepted d) h in
        let same : c ≡ d = cc in
        subst (λ (b : CertificateFacts D). Contains (trace ++ Accepts (certificate_subject c) ∷ [])
        (Accepts (certificate_subject b))) same
        (Contains-append_right trace (Accepts (certificate_subject c) ∷ []) (Accepts (certificate_subject c))
        (0, omega arith, refl)));
    nullify_cast = λ round m h. absurd (let e = only_one (Accepted c) (NullifyVote round m) h in cc);
    finalize_cast = λ p m h. absurd (let e = only_one (Accepted c) (FinalizeVote p m) h in cc);
    nullify_kept =
        λ round h. absurd (let e = only_signed (Accepts (certificate_subject c)) (subject.Nullify round) h in cc);
    finalize_kept = λ p h. absurd (let e = only_signed (Accepts (certificate_subject c)) (subject.Finalize p) h in cc);
    judged = λ before after p m split. absurd
        (let e = single_split before after (Accepted c) (FinalizeVote p m) split in cc);
  }

  -- a vote to nullify that was recorded before
  pub grows_again : (round : Round) (m n : ℕ) → 1 ≤ round.view → Contains entries (NullifyVote round n)
      → RecordGrows trace (Signs m (subject.Nullify round) ∷ []) entries []
  grows_again round m n one there = record {
    accepted = λ d h. absurd (omega (arith, h.1));
    nullify_cast = λ r k h. absurd (omega (arith, h.1));
    finalize_cast = λ p k h. absurd (omega (arith, h.1));
    nullify_kept = λ r h.
        (let e = only_signed (Signs m (subject.Nullify round)) (subject.Nullify r) h in
        let same : round ≡ r = cc in
        subst (λ (s : Round). (1 ≤ s.view) × ((m : ℕ) × Contains (entries ++ []) (NullifyVote s m))) same
        (one, (n, Contains-append_left entries [] (NullifyVote round n) there)));
    finalize_kept = λ p h. absurd (let e = only_signed (Signs m (subject.Nullify round)) (subject.Finalize p) h in cc);
    judged = λ before after p k split. absurd (none_split before after (FinalizeVote p k) split);
  }

  -- a vote to nullify that is recorded now
  pub grows_nullify : (round : Round) (m : ℕ) → 1 ≤ round.view
      → RecordGrows trace (Signs m (subject.Nullify round) ∷ []) entries (NullifyVote round m ∷ [])
  grows_nullify round m one = record {
    accepted = λ c h. absurd (let e = only_one (NullifyVote round m) (Accepted c) h in cc);
    nullify_cast = λ r n h.
        (let e = only_one (NullifyVote round m) (NullifyVote r n) h in
        let same : round ≡ r = cc in
        subst (λ (q : Round). HasSigned (trace ++ Signs m (subject.Nullify round) ∷ []) (subject.Nullify q)) same
        (signed_last trace m (subject.Nullify round)));
    finalize_cast = λ p n h. absurd (let e = only_one (NullifyVote round m) (FinalizeVote p n) h in cc);
    nullify_kept = λ r h.
        (let e = only_signed (Signs m (subject.Nullify round)) (subject.Nullify r) h in
        let same : round ≡ r = cc in
        subst (λ (s : Round). (1 ≤ s.view) × ((n : ℕ)
        × Contains (entries ++ NullifyVote round m ∷ []) (NullifyVote s n))) same (
          one,
          (
            m,
            Contains-append_right entries (NullifyVote round m ∷ []) (NullifyVote round m)
                (0, omega arith, refl),
          ),
        ));
    finalize_kept = λ p h. absurd (let e = only_signed (Signs m (subject.Nullify round)) (subject.Finalize p) h in cc);
    judged = λ before after p n split. absurd
        (let e = single_split before after (NullifyVote round m) (FinalizeVote p n) split in cc);
  }

  -- a vote to finalize, of a view with a true verdict
  pub grows_finalize : (p : Proposal D) (m : ℕ) (round : Round) → Contains entries (Verdict round true)
      → round.view ≡ p.round.view → RecordGrows trace (Signs m (subject.Finalize p) ∷ []) entries
      (FinalizeVote p m ∷ [])
  grows_finalize p m round verdict at = record {
    accepted = λ c h. absurd (let e = only_one (FinalizeVote p m) (Accepted c) h in cc);
    nullify_cast = λ r n h. absurd (let e = only_one (FinalizeVote p m) (NullifyVote r n) h in cc);
    finalize_cast = λ q n h.
        (let e = only_one (FinalizeVote p m) (FinalizeVote q n) h in
        let same : p ≡ q = cc in
        subst (λ (t : Proposal D). HasSigned (trace ++ Signs m (subject.Finalize p) ∷ []) (subject.Finalize t)) same
        (signed_last trace m (subject.Finalize p)));
    nullify_kept = λ r h. absurd (let e = only_signed (Signs m (subject.Finalize p)) (subject.Nullify r) h in cc);
    finalize_kept = λ q h.
        (let e = only_signed (Signs m (subject.Finalize p)) (subject.Finalize q) h in
        let same : p ≡ q = cc in
        subst (λ (t : Proposal D). (n : ℕ) × Contains (entries ++ FinalizeVote p m ∷ []) (FinalizeVote t n)) same
        (m, Contains-append_right entries (FinalizeVote p m ∷ []) (FinalizeVote p m) (0, omega arith, refl)));
    judged = λ before after q n split.
        (let e = single_split before after (FinalizeVote p m) (FinalizeVote q n) split in
        let same : p ≡ q = cc in
        (round, verdict, at ∙ ap (λ (t : Proposal D). t.round.view) same));
  }
