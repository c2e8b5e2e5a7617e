-- For `accountability`, `contradictions_need_faults`.
-- Two quorums share n - 2f members. One that gave both votes broke a rule or accepted a nearer contradiction; so by
-- induction on
-- the distance there is a contradiction at which each of these broke a rule.
use Rattle.std.proofs.Common.{◌≡◌, ℕ, zero, suc, ◌+◌, ◌-◌, ◌*◌, ◌<◌, ◌≤◌, ◌⊎◌, inl, inr, Bool, true, false, List, [], ◌∷◌, map, length, slice_get, Contains, Option, Some, None, is_some, unwrap_or, option_map, not, cond, arith, refl, ap, sym, ◌∙◌, subst}
use Rattle.std.proofs.lemmas.Bool.{false≢true, cases_Bool, cases_eq, cases_lt}
use Rattle.std.proofs.lemmas.List.{length-map}
use Rattle.std.proofs.lemmas.List.Sums.{sum_by-cons}
use Rattle.std.proofs.lemmas.Option.{slice_get-map}
use Rattle.simplex_types.specs.declared.types.messages.Proposal.{Proposal}
use Rattle.simplex_types.specs.declared.types.messages.Subject.{Subject}
use Rattle.simplex_types.specs.declared.types.messages.Subject.TheVariants as subject
use Rattle.simplex_types.specs.declared.types.numbers.Round.{Round}
use Rattle.simplex_types.specs.Proposal.{same_proposal}
use Rattle.simplex_types.specs.Terms.{covers}
use Rattle.simplex_types.proofs.Covers.{covers_parts}
use Rattle.simplex_types.proofs.Proposal.{same_proposal-true, same_proposal-refl}
use Rattle.simplex_voter.specs.Facts.{Elect}
use Rattle.laws_safety.specs.Accountability.{AreRivals, Contradicts, distance, BreaksBy, BreaksByFinal, BreaksByNullify, HasAcceptedNearer, MayHaveVoted, MayBeCertified, AcceptCertified, IsResponsibleFor, IsGuilty, IsSuspect, unknowns, IsTraced, known_of, IsBackedNetwork, ContradictionsHaveFaultyMembers, ContradictionsAreTraced, BrokenRulesAreRules, EvidenceHolds, NearestIsEvidence, ThirdIsAnother, ContradictionsNeedFaults, ContradictionsAreTracedInNetworks}
use Rattle.laws_safety.specs.Traces.{TraceEvent, Accepts, Signs}
use Rattle.laws_safety.specs.Lawful.{HasSigned, HasCover, HasFinalizedBetween, IsLawful}
use Rattle.laws_safety.specs.Replicas.{Replica, Faulty, Honest, faults, AtLeastFrom, MayHaveSigned, Backed, max_faults, quorum}
use Rattle.laws_safety.specs.Executions.{Execution, trace_of}
use Rattle.laws_safety.proofs.lists.Splits.{Contains-cons_rest, Contains-cases}
use Rattle.laws_safety.proofs.agreement.TwoVotes.{covers_between, one_notarized, one_finalized}
use Rattle.laws_safety.proofs.agreement.Quorums.{AtLeastFrom-both, AtLeastFrom-map, shared_member}
use Rattle.laws_safety.proofs.agreement.VoteOrder.{Same, First, Second, in_order, voted, earlier}
use Rattle.laws_safety.proofs.records.RunsLawful.{execution_lawful}

-- an accepted certificate can be looked up

abbrev Decided : Type 0 → Type 0
Decided P = P ⊎ (P → ⊥)

-- some element of a list has P, or none has
look_up : {X : Type 0} (P : X → Type 0) → ((x : X) → Decided (P x)) → (xs : List X)
    → ((x : X) × Contains xs x × P x) ⊎ ((x : X) → Contains xs x → P x → ⊥)
look_up P decide [] = inr (λ x h p. absurd (omega (arith, h.1)))
look_up P decide (y ∷ xs) = elim (decide y) [
  | inl here ↦ inl (y, (0, omega arith, refl), here)
  | inr not_here ↦ elim (look_up P decide xs) [
    | inl found ↦ inl (found.0, Contains-cons_rest y xs found.0 found.1, found.2)
    | inr none ↦ inr (λ x h p. elim (Contains-cases y xs x h)
        [ inl same ↦ not_here (subst P (sym same) p) | inr later ↦ none x later p ])
  ]
]

is_true : (b : Bool) → Decided (b ≡ true)
is_true true = inl refl
is_true false = inr false≢true

is_between : (low high view : ℕ) → Decided ((low ≤ view) × (view < high))
is_between low high view = elim (cases_lt view low) [
  | inl under ↦ inr (λ h. let from = h.0 in omega (arith, from, under))
  | inr from ↦ elim (cases_lt view high)
      [ inl below ↦ inl (from, below) | inr over ↦ inr (λ h. let below = h.1 in omega (arith, below, over)) ]
]

module _ {D : Type 0} where
  -- a nullification that covers a view

  abbrev Covering : ℕ → ℕ → TraceEvent D → Type 0
  Covering term_length view (Accepts (subject.Nullify round)) = covers term_length round.view view ≡ true
  Covering term_length view _ = ⊥

  covering : (term_length view : ℕ) (trace_event : TraceEvent D) → Decided (Covering term_length view trace_event)
  covering term_length view (Accepts (subject.Nullify round)) = is_true (covers term_length round.view view)
  covering term_length view (Accepts (subject.Notarize p)) = inr (λ h. h)
  covering term_length view (Accepts (subject.Finalize p)) = inr (λ h. h)
  covering term_length view (Signs signer vote) = inr (λ h. h)

  covered : (term_length view : ℕ) (trace : List (TraceEvent D)) (trace_event : TraceEvent D)
      → Contains trace trace_event → Covering term_length view trace_event → HasCover term_length trace view
  covered term_length view trace (Accepts (subject.Nullify round)) h is = (round, h, is)
  covered term_length view trace (Accepts (subject.Notarize p)) h is = absurd is
  covered term_length view trace (Accepts (subject.Finalize p)) h is = absurd is
  covered term_length view trace (Signs signer vote) h is = absurd is

  uncovered : (term_length view : ℕ) (trace : List (TraceEvent D))
      → ((trace_event : TraceEvent D) → Contains trace trace_event → Covering term_length view trace_event → ⊥)
      → HasCover term_length trace view → ⊥
  uncovered term_length view trace none (round, h, is) = none (Accepts (subject.Nullify round)) h is

  has_cover : (term_length view : ℕ) (trace : List (TraceEvent D)) → Decided (HasCover term_length trace view)
  has_cover term_length view trace = elim (look_up (Covering term_length view) (covering term_length view) trace) [
    | inl found ↦ inl (covered term_length view trace found.0 found.1 found.2)
    | inr none ↦ inr (uncovered term_length view trace none)
  ]

  -- a finalization of a view between two others

  abbrev FinalBetween : ℕ → ℕ → TraceEvent D → Type 0
  FinalBetween low high (Accepts (subject.Finalize final)) = (low ≤ final.round.view) × (final.round.view < high)
  FinalBetween low high _ = ⊥

  final_between : (low high : ℕ) (trace_event : TraceEvent D) → Decided (FinalBetween low high trace_event)
  final_between low high (Accepts (subject.Finalize final)) = is_between low high final.round.view
  final_between low high (Accepts (subject.Notarize p)) = inr (λ h. h)
  final_between low high (Accepts (subject.Nullify round)) = inr (λ h. h)
  final_between low high (Signs signer vote) = inr (λ h. h)

  finalized : (low high : ℕ) (trace : List (TraceEvent D)) (trace_event : TraceEvent D) → Contains trace trace_event
      → FinalBetween low high trace_event → HasFinalizedBetween trace low high
  finalized low high trace (Accepts (subject.Finalize final)) h is = (final, h, is.0, is.1)
  finalized low high trace (Accepts (subject.Notarize p)) h is = absurd is
  finalized low high trace (Accepts (subject.Nullify round)) h is = absurd is
  finalized low high trace (Signs signer vote) h is = absurd is

  unfinalized : (low high : ℕ) (trace : List (TraceEvent D))
      → ((trace_event : TraceEvent D) → Contains trace trace_event → FinalBetween low high trace_event → ⊥)
      → HasFinalizedBetween trace low high → ⊥
  unfinalized low high trace none (final, h, from, below) = none (Accepts (subject.Finalize final)) h (from, below)

  has_final_between : (low high : ℕ) (trace : List (TraceEvent D)) → Decided (HasFinalizedBetween trace low high)
  has_final_between low high trace = elim (look_up (FinalBetween low high) (final_between low high) trace) [
    | inl found ↦ inl (finalized low high trace found.0 found.1 found.2)
    | inr none ↦ inr (unfinalized low high trace none)
  ]

module _ {D : Type 0} (same : D → D → Bool) (decides : (d e : D) → same d e ≡ true → d ≡ e)
    (itself : (d : D) → same d d ≡ true) where
  -- a notarization of a proposal

  same_or_not : (p q : Proposal D) → Decided (p ≡ q)
  same_or_not p q = elim (cases_Bool (same_proposal same p q)) [
    | inl alike ↦ inl (same_proposal-true same decides p q alike)
    | inr other ↦ inr (λ (e : p ≡ q). false≢true
        (sym other ∙ subst (λ r. same_proposal same p r ≡ true) e (same_proposal-refl same itself p)))
  ]

  of_proposal : (p q : Proposal D) → Decided (Accepts (subject.Notarize q) ≡ Accepts (subject.Notarize p))
  of_proposal p q = elim (same_or_not q p) [
    | inl same_one ↦ inl (ap (λ (r : Proposal D). Accepts (subject.Notarize r)) same_one)
    | inr other ↦ inr (λ (e : Accepts (subject.Notarize q) ≡ Accepts (subject.Notarize p)). other (cc))
  ]

  notarizes : (p : Proposal D) (trace_event : TraceEvent D) → Decided (trace_event ≡ Accepts (subject.Notarize p))
  notarizes p (Accepts (subject.Notarize q)) = of_proposal p q
  notarizes p (Accepts (subject.Nullify round)) =
      inr (λ (e : Accepts (subject.Nullify round) ≡ Accepts (subject.Notarize p)). absurd (cc))
  notarizes p (Accepts (subject.Finalize q)) =
      inr (λ (e : Accepts (subject.Finalize q) ≡ Accepts (subject.Notarize p)). absurd (cc))
  notarizes p (Signs signer vote) = inr (λ (e : Signs signer vote ≡ Accepts (subject.Notarize p)). absurd (cc))

  has_notarization : (p : Proposal D) (trace : List (TraceEvent D))
      → Decided (Contains trace (Accepts (subject.Notarize p)))
  has_notarization p trace =
      elim (look_up (λ trace_event. trace_event ≡ Accepts (subject.Notarize p)) (notarizes p) trace) [
        | inl found ↦ inl (subst (Contains trace) found.2 found.1)
        | inr none ↦ inr (λ h. none (Accepts (subject.Notarize p)) h refl)
      ]

-- a member that signed both votes broke a rule by these, or accepted a nearer contradiction

module _ {D : Type 0} (same : D → D → Bool) (decides : (d e : D) → same d e ≡ true → d ≡ e)
    (itself : (d : D) → same d d ≡ true) (term_length : ℕ) (trace : List (TraceEvent D)) where
  abbrev Answered : Subject D → Subject D → Type 0
  Answered a b = BreaksBy term_length trace a b ⊎ HasAcceptedNearer term_length a b trace

  -- it finalized a proposal and notarized its rival
  by_rival : (p final : Proposal D) → HasSigned trace (subject.Finalize final) → AreRivals p final
      → Answered (subject.Notarize p) (subject.Finalize final)
  by_rival p final has_final rivals =
      let signs = voted trace (subject.Finalize final) has_final in
      elim (has_notarization same decides itself final signs.0) [
        | inr none ↦ inl (inl (signs.0, signs.1, none))
        | inl notarized ↦ inr (record {
          third = subject.Notarize final;
          before = signs.0;
          signs = inr signs.1;
          accepted = notarized;
          nearer = inl ((sym rivals.0, λ one. rivals.1 (sym one)), omega arith);
        })
      ]

  -- it voted past a finalized view
  by_skip : (p final : Proposal D) → HasSigned trace (subject.Notarize p) → p.parent < final.round.view
      → final.round.view < p.round.view → Answered (subject.Notarize p) (subject.Finalize final)
  by_skip p final has_p low high =
      let signs = voted trace (subject.Notarize p) has_p in
      elim (has_cover term_length final.round.view signs.0) [
        | inr none ↦ inl (inr (signs.0, signs.1, low, high, none))
        | inl cover ↦ inr (record {
          third = subject.Nullify cover.0;
          before = signs.0;
          signs = inl signs.1;
          accepted = cover.1;
          nearer = inr (cover.2, omega arith);
        })
      ]

  notarized_finalized : (p final : Proposal D) → HasSigned trace (subject.Notarize p)
      → HasSigned trace (subject.Finalize final) → Contradicts term_length (subject.Notarize p) (subject.Finalize final)
      → Answered (subject.Notarize p) (subject.Finalize final)
  notarized_finalized p final has_p has_final (inl rivals) = by_rival p final has_final rivals
  notarized_finalized p final has_p has_final (inr past) = by_skip p final has_p past.0 past.1

  -- it nullified a view and finalized it or a later one of its term
  nullified_finalized : (round : Round) (final : Proposal D) → HasSigned trace (subject.Nullify round)
      → HasSigned trace (subject.Finalize final) → covers term_length round.view final.round.view ≡ true
      → Answered (subject.Nullify round) (subject.Finalize final)
  nullified_finalized round final has_null has_fin covering_it =
      elim (in_order trace (subject.Nullify round) (subject.Finalize final) has_null has_fin) [
        | Same e ↦ absurd (cc)
        | Second before at h ↦ inl (inr (inl (before, at, h, covering_it)))
        | First before at h ↦ elim (cases_eq round.view final.round.view) [
          | inl here ↦ inl (inl here)
          | inr apart ↦
              (let not_after = (covers_parts term_length round.view final.round.view covering_it).0 in
              elim (has_final_between round.view final.round.view before) [
                | inr none ↦ inl (inr (inr (before, at, h, omega arith, covering_it, none)))
                | inl between ↦
                    (let low = between.2 in
                    let high = between.3 in
                    inr (record {
                      third = subject.Finalize between.0;
                      before = before;
                      signs = inr at;
                      accepted = between.1;
                      nearer = inl (
                        covers_between term_length round.view between.0.round.view final.round.view
                            covering_it low (omega (arith, high)),
                        omega (arith, low, high),
                      );
                    }))
              ])
        ]
      ]

  -- the two in the other order

  turned : (a b : Subject D) → distance a b ≡ distance b a → HasAcceptedNearer term_length a b trace
      → HasAcceptedNearer term_length b a trace
  turned a b as_far nearer = record {
    third = nearer.third;
    before = nearer.before;
    signs = elim nearer.signs [ inl by_a ↦ inr by_a | inr by_b ↦ inl by_b ];
    accepted = nearer.accepted;
    nearer = elim nearer.nearer [
      | inl h ↦ (let less = h.1 in inr (h.0, omega (arith, less, as_far)))
      | inr h ↦ (let less = h.1 in inl (h.0, omega (arith, less, as_far)))
    ];
  }

  final_first : (p final : Proposal D) → Answered (subject.Notarize p) (subject.Finalize final)
      → Answered (subject.Finalize final) (subject.Notarize p)
  final_first p final (inl breaks) = inl breaks
  final_first p final (inr nearer) = inr (turned (subject.Notarize p) (subject.Finalize final) refl nearer)

  nullify_last : (round : Round) (final : Proposal D) → Answered (subject.Nullify round) (subject.Finalize final)
      → Answered (subject.Finalize final) (subject.Nullify round)
  nullify_last round final (inl breaks) = inl breaks
  nullify_last round final (inr nearer) = inr (turned (subject.Nullify round) (subject.Finalize final) refl nearer)

  both_signed : (a b : Subject D) → Contradicts term_length a b → HasSigned trace a → HasSigned trace b → Answered a b
  both_signed (subject.Notarize p) (subject.Notarize q) against has_a has_b = inl against
  both_signed (subject.Notarize p) (subject.Nullify round) against has_a has_b = absurd against
  both_signed (subject.Notarize p) (subject.Finalize final) against has_a has_b =
      notarized_finalized p final has_a has_b against
  both_signed (subject.Nullify round) (subject.Notarize p) against has_a has_b = absurd against
  both_signed (subject.Nullify round) (subject.Nullify other) against has_a has_b = absurd against
  both_signed (subject.Nullify round) (subject.Finalize final) against has_a has_b =
      nullified_finalized round final has_a has_b against
  both_signed (subject.Finalize final) (subject.Notarize p) against has_a has_b =
      final_first p final (notarized_finalized p final has_b has_a against)
  both_signed (subject.Finalize final) (subject.Nullify round) against has_a has_b =
      nullify_last round final (nullified_finalized round final has_b has_a against)
  both_signed (subject.Finalize p) (subject.Finalize q) against has_a has_b = inl against

-- broken rules are rules

module _ {D : Type 0} (term_length : ℕ) (trace : List (TraceEvent D)) (lawful : IsLawful term_length trace) where
  none_by_final : (p final : Proposal D) → BreaksByFinal term_length trace p final → ⊥
  none_by_final p final (inl (before, at, none)) = none (lawful.finalizes_notarized before final at)
  none_by_final p final (inr (before, at, low, high, none)) =
      none (lawful.gapless before p final.round.view at low high)

  none_by_nullify : (round : Round) (final : Proposal D) → HasSigned trace (subject.Nullify round)
      → HasSigned trace (subject.Finalize final) → BreaksByNullify term_length trace round final → ⊥
  none_by_nullify round final has_null has_fin (inl here) = lawful.not_both round final has_null has_fin here
  none_by_nullify round final has_null has_fin (inr (inl (before, at, h, covering_it))) =
      false≢true (sym (lawful.nullifies_ahead before round final at h) ∙ covering_it)
  none_by_nullify round final has_null has_fin (inr (inr (before, at, h, above, covering_it, none))) =
      none (lawful.finalizes_past_nullify before final round at h above covering_it)

pub broken_rules : {D : Type 0} → BrokenRulesAreRules D
broken_rules term_length trace (subject.Notarize p) (subject.Notarize q) breaks has_a has_b lawful =
    breaks.1 (one_notarized term_length trace p q lawful has_a has_b breaks.0)
broken_rules term_length trace (subject.Notarize p) (subject.Nullify round) breaks has_a has_b lawful = breaks
broken_rules term_length trace (subject.Notarize p) (subject.Finalize final) breaks has_a has_b lawful =
    none_by_final term_length trace lawful p final breaks
broken_rules term_length trace (subject.Nullify round) (subject.Notarize p) breaks has_a has_b lawful = breaks
broken_rules term_length trace (subject.Nullify round) (subject.Nullify other) breaks has_a has_b lawful = breaks
broken_rules term_length trace (subject.Nullify round) (subject.Finalize final) breaks has_a has_b lawful =
    none_by_nullify term_length trace lawful round final has_a has_b breaks
broken_rules term_length trace (subject.Finalize final) (subject.Notarize p) breaks has_a has_b lawful =
    none_by_final term_length trace lawful p final breaks
broken_rules term_length trace (subject.Finalize final) (subject.Nullify round) breaks has_a has_b lawful =
    none_by_nullify term_length trace lawful round final has_b has_a breaks
broken_rules term_length trace (subject.Finalize p) (subject.Finalize q) breaks has_a has_b lawful =
    breaks.1 (one_finalized term_length trace p q lawful has_a has_b breaks.0)

pub evidence_holds : {D : Type 0} → EvidenceHolds D
evidence_holds term_length trace (subject.Notarize p) (subject.Notarize q) shows has_a has_b lawful =
    shows.1 (one_notarized term_length trace p q lawful has_a has_b shows.0)
evidence_holds term_length trace (subject.Notarize p) (subject.Nullify round) shows has_a has_b lawful = shows
evidence_holds term_length trace (subject.Notarize p) (subject.Finalize final) shows has_a has_b lawful = shows
evidence_holds term_length trace (subject.Nullify round) (subject.Notarize p) shows has_a has_b lawful = shows
evidence_holds term_length trace (subject.Nullify round) (subject.Nullify other) shows has_a has_b lawful = shows
evidence_holds term_length trace (subject.Nullify round) (subject.Finalize final) shows has_a has_b lawful =
    lawful.not_both round final has_a has_b shows
evidence_holds term_length trace (subject.Finalize final) (subject.Notarize p) shows has_a has_b lawful = shows
evidence_holds term_length trace (subject.Finalize final) (subject.Nullify round) shows has_a has_b lawful =
    lawful.not_both round final has_b has_a shows
evidence_holds term_length trace (subject.Finalize p) (subject.Finalize q) shows has_a has_b lawful =
    shows.1 (one_finalized term_length trace p q lawful has_a has_b shows.0)

pub nearest_is_evidence : {D : Type 0} → NearestIsEvidence D
nearest_is_evidence term_length (subject.Notarize p) (subject.Notarize q) against none = against
nearest_is_evidence term_length (subject.Notarize p) (subject.Nullify round) against none = against
nearest_is_evidence term_length (subject.Notarize p) (subject.Finalize final) against none = absurd (omega arith)
nearest_is_evidence term_length (subject.Nullify round) (subject.Notarize p) against none = against
nearest_is_evidence term_length (subject.Nullify round) (subject.Nullify other) against none = against
nearest_is_evidence term_length (subject.Nullify round) (subject.Finalize final) against none =
    (let up = (covers_parts term_length round.view final.round.view against).0 in omega arith)
nearest_is_evidence term_length (subject.Finalize final) (subject.Notarize p) against none = absurd (omega arith)
nearest_is_evidence term_length (subject.Finalize final) (subject.Nullify round) against none =
    (let up = (covers_parts term_length round.view final.round.view against).0 in omega arith)
nearest_is_evidence term_length (subject.Finalize p) (subject.Finalize q) against none = against

-- nothing contradicts itself, and the distance is of the two

module _ {D : Type 0} where
  not_itself : (term_length : ℕ) (a : Subject D) → Contradicts term_length a a → ⊥
  not_itself term_length (subject.Notarize p) against = against.1 refl
  not_itself term_length (subject.Nullify round) against = against
  not_itself term_length (subject.Finalize p) against = against.1 refl

  as_far_back : (a b : Subject D) → distance a b ≡ distance b a
  as_far_back (subject.Notarize p) (subject.Notarize q) = refl
  as_far_back (subject.Notarize p) (subject.Nullify round) = refl
  as_far_back (subject.Notarize p) (subject.Finalize final) = refl
  as_far_back (subject.Nullify round) (subject.Notarize p) = refl
  as_far_back (subject.Nullify round) (subject.Nullify other) = refl
  as_far_back (subject.Nullify round) (subject.Finalize final) = refl
  as_far_back (subject.Finalize final) (subject.Notarize p) = refl
  as_far_back (subject.Finalize final) (subject.Nullify round) = refl
  as_far_back (subject.Finalize p) (subject.Finalize q) = refl

  abbrev Nearer : ℕ → Subject D → Subject D → Subject D → Type 0
  Nearer term_length a b c = (Contradicts term_length c a × (distance c a < distance a b))
      ⊎ (Contradicts term_length c b × (distance c b < distance a b))

  not_first : (term_length : ℕ) (a b : Subject D) → Nearer term_length a b a → ⊥
  not_first term_length a b (inl h) = not_itself term_length a h.0
  not_first term_length a b (inr h) = (let less = h.1 in omega (arith, less))

  not_second : (term_length : ℕ) (a b : Subject D) → Nearer term_length a b b → ⊥
  not_second term_length a b (inl h) = (let less = h.1 in omega (arith, less, as_far_back a b))
  not_second term_length a b (inr h) = not_itself term_length b h.0

pub third_is_another : {D : Type 0} → ThirdIsAnother D
third_is_another {D} term_length trace a b nearer = (
  λ (first : nearer.third ≡ a). not_first term_length a b (subst (Nearer term_length a b) first nearer.nearer),
  λ (second : nearer.third ≡ b). not_second term_length a b (subst (Nearer term_length a b) second nearer.nearer),
)

-- counting

module _ {X : Type 0} where
  -- of those that have P each has Q, or one has R
  all_or_one : (P Q : ℕ → X → Type 0) (R : X → Type 0) → ((j : ℕ) (x : X) → P j x → Q j x ⊎ R x)
      → (i count : ℕ) (xs : List X) → AtLeastFrom i count P xs
      → AtLeastFrom i count Q xs ⊎ ((k : ℕ) × (x : X) × (slice_get xs k ≡ Some x) × R x)
  all_or_one P Q R split i zero xs h = inl tt
  all_or_one P Q R split i (suc count) [] h = absurd h
  all_or_one P Q R split i (suc count) (x ∷ xs) (inl h) = elim (split i x h.0) [
    | inr r ↦ inr (0, x, refl, r)
    | inl q ↦ elim (all_or_one P Q R split (suc i) count xs h.1) [
      | inl all ↦ inl (inl (q, all))
      | inr found ↦ inr (suc found.0, found.1, found.2, found.3)
    ]
  ]
  all_or_one P Q R split i (suc count) (x ∷ xs) (inr h) = elim (all_or_one P Q R split (suc i) (suc count) xs h) [
    | inl all ↦ inl (inr all)
    | inr found ↦ inr (suc found.0, found.1, found.2, found.3)
  ]

module _ {D : Type 0} (term_length : ℕ) (a b : Subject D) where
  one_more_unknown : (m : Option (List (TraceEvent D))) (members : List (Option (List (TraceEvent D))))
      → unknowns (m ∷ members) ≡ cond (not (is_some m)) 1 0 + unknowns members
  one_more_unknown m members = sum_by-cons (λ (n : Option (List (TraceEvent D))). cond (not (is_some n)) 1 0) m members

  -- of the suspects those that are known are guilty
  known_guilty : (i count fewer : ℕ) (members : List (Option (List (TraceEvent D)))) → fewer + unknowns members ≤ count
      → AtLeastFrom i count (IsSuspect term_length a b) members → AtLeastFrom i fewer (IsGuilty term_length a b) members
  known_guilty i count zero members less h = tt
  known_guilty i zero (suc fewer) members less h = absurd (omega arith)
  known_guilty i (suc count) (suc fewer) [] less h = absurd h
  known_guilty i (suc count) (suc fewer) (None ∷ members) less (inl h) =
      inr (known_guilty (suc i) count (suc fewer) members (omega (arith, one_more_unknown None members)) h.1)
  known_guilty i (suc count) (suc fewer) (None ∷ members) less (inr h) =
      inr (known_guilty (suc i) (suc count) (suc fewer) members (omega (arith, one_more_unknown None members)) h)
  known_guilty i (suc count) (suc fewer) (Some trace ∷ members) less (inl h) =
      inl (h.0, known_guilty (suc i) count fewer members (omega (arith, one_more_unknown (Some trace) members)) h.1)
  known_guilty i (suc count) (suc fewer) (Some trace ∷ members) less (inr h) =
      inr
      (known_guilty (suc i) (suc count) (suc fewer) members (omega (arith, one_more_unknown (Some trace) members)) h)

-- the two laws

module _ {D : Type 0} (same : D → D → Bool) (decides : (d e : D) → same d e ≡ true → d ≡ e)
    (itself : (d : D) → same d d ≡ true) where
  answers : (term_length : ℕ) (a b : Subject D) → Contradicts term_length a b
      → (i : ℕ) (member : Option (List (TraceEvent D))) → MayHaveVoted a i member × MayHaveVoted b i member
      → IsResponsibleFor term_length a b i member
  answers term_length a b against i None both = tt
  answers term_length a b against i (Some trace) both =
      (both.0, both.1, both_signed same decides itself term_length trace a b against (i, both.0) (i, both.1))

  pub answered_for : ContradictionsHaveFaultyMembers D
  answered_for term_length members a b against has_a has_b =
      let n = length members in
      let both = AtLeastFrom-both (MayHaveVoted a) (MayHaveVoted b) 0 (quorum n) (quorum n) (n - 2 * max_faults n)
      members (omega arith) has_a has_b in
      AtLeastFrom-map (λ j m. MayHaveVoted a j m × MayHaveVoted b j m) (IsResponsibleFor term_length a b) 0
      (n - 2 * max_faults n) members (answers term_length a b against) both

  -- who accepted a nearer contradiction
  abbrev Misled : ℕ → Subject D → Subject D → Option (List (TraceEvent D)) → Type 0
  Misled term_length a b None = ⊥
  Misled term_length a b (Some trace) = HasAcceptedNearer term_length a b trace

  guilty_or_misled : (term_length : ℕ) (a b : Subject D) (i : ℕ) (member : Option (List (TraceEvent D)))
      → IsResponsibleFor term_length a b i member → IsSuspect term_length a b i member ⊎ Misled term_length a b member
  guilty_or_misled term_length a b i None answer = inl tt
  guilty_or_misled term_length a b i (Some trace) (has_a, has_b, inl breaks) = inl (has_a, has_b, breaks)
  guilty_or_misled term_length a b i (Some trace) (has_a, has_b, inr nearer) = inr nearer

  module _ (term_length : ℕ) (members : List (Option (List (TraceEvent D)))) (accept : AcceptCertified members) where
    third_certified : (a b : Subject D) (trace : List (TraceEvent D)) (k : ℕ) → slice_get members k ≡ Some (Some trace)
        → (nearer : HasAcceptedNearer term_length a b trace) → MayBeCertified members nearer.third
    third_certified a b trace k at nearer = accept k trace nearer.third at (elim nearer.signs [
      | inl by_a ↦ earlier trace nearer.before a (Accepts nearer.third) by_a nearer.accepted
      | inr by_b ↦ earlier trace nearer.before b (Accepts nearer.third) by_b nearer.accepted
    ])

    guilty_of : (a b : Subject D) → AtLeastFrom 0 (length members - 2 * max_faults (length members))
        (IsSuspect term_length a b) members → AtLeastFrom 0
        (length members - 2 * max_faults (length members) - unknowns members) (IsGuilty term_length a b) members
    guilty_of a b suspects =
        let count = length members - 2 * max_faults (length members) in
        elim (cases_lt count (unknowns members)) [
          | inr enough ↦ known_guilty term_length a b 0 count (count - unknowns members) members (omega (arith, enough))
              suspects
          | inl fewer ↦ (let none : count - unknowns members ≡ 0 = omega (arith, fewer) in
              subst (λ c. AtLeastFrom 0 c (IsGuilty term_length a b) members) (sym none) tt)
        ]

    farther : (a b c d : Subject D) → distance c d ≤ distance a b → IsTraced term_length members c d
        → IsTraced term_length members a b
    farther a b c d less traced = record {
      first = traced.first;
      second = traced.second;
      contradict = traced.contradict;
      near = (let near = traced.near in omega (arith, near, less));
      first_certified = traced.first_certified;
      second_certified = traced.second_certified;
      suspects = traced.suspects;
      guilty = traced.guilty;
    }

    abbrev Traces : ℕ → Type 0
    Traces bound = (a b : Subject D) → distance a b < bound → Contradicts term_length a b → MayBeCertified members a
        → MayBeCertified members b → IsTraced term_length members a b

    -- from one that a member accepted on
    from_third : (bound : ℕ) → Traces bound → (a b : Subject D) → distance a b < suc bound → MayBeCertified members a
        → MayBeCertified members b → (trace : List (TraceEvent D)) (k : ℕ) → slice_get members k ≡ Some (Some trace)
        → HasAcceptedNearer term_length a b trace → IsTraced term_length members a b
    from_third bound traces a b less has_a has_b trace k at nearer =
        let third = third_certified a b trace k at nearer in
        elim nearer.nearer [
          | inl h ↦ (let closer = h.1 in farther a b nearer.third a (omega (arith, closer))
              (traces nearer.third a (omega (arith, closer, less)) h.0 third has_a))
          | inr h ↦ (let closer = h.1 in farther a b nearer.third b (omega (arith, closer))
              (traces nearer.third b (omega (arith, closer, less)) h.0 third has_b))
        ]

    from_misled : (bound : ℕ) → Traces bound → (a b : Subject D) → distance a b < suc bound → MayBeCertified members a
        → MayBeCertified members b → (k : ℕ) (member : Option (List (TraceEvent D))) → slice_get members k ≡ Some member
        → Misled term_length a b member → IsTraced term_length members a b
    from_misled bound traces a b less has_a has_b k None at misled = absurd misled
    from_misled bound traces a b less has_a has_b k (Some trace) at misled =
        from_third bound traces a b less has_a has_b trace k at misled

    trace : (bound : ℕ) → Traces bound
    trace zero a b less against has_a has_b = absurd (omega arith)
    trace (suc bound) a b less against has_a has_b =
        let n = length members in
        elim (all_or_one (IsResponsibleFor term_length a b) (IsSuspect term_length a b) (Misled term_length a b)
        (guilty_or_misled term_length a b) 0 (n - 2 * max_faults n) members
        (answered_for term_length members a b against has_a has_b)) [
          | inl suspects ↦ record {
            first = a;
            second = b;
            contradict = against;
            near = omega arith;
            first_certified = has_a;
            second_certified = has_b;
            suspects = suspects;
            guilty = guilty_of a b suspects;
          }
          | inr found ↦ from_misled bound (trace bound) a b less has_a has_b found.0 found.1 found.2 found.3
        ]

  pub traced_to_guilt : ContradictionsAreTraced D
  traced_to_guilt term_length members a b accept against has_a has_b =
      trace term_length members accept (suc (distance a b)) a b (omega arith) against has_a has_b

-- members that keep the rules are accountable for none, so the others are as many as two quorums share

module _ {K L D : Type 0} (same : D → D → Bool) (decides : (d e : D) → same d e ≡ true → d ≡ e)
    (itself : (d : D) → same d d ≡ true) (elect : Elect L) (term_length : ℕ) (network : List (Replica K L D))
    (good : IsBackedNetwork same elect term_length network)
    (few : faults network < length network - 2 * max_faults (length network)) where
  third_backed : (a b : Subject D) (k : ℕ) (s : Execution K L D) → slice_get network k ≡ Some (Honest s)
      → (nearer : HasAcceptedNearer term_length a b (trace_of s)) → Backed network nearer.third
  third_backed a b k s at nearer = good.backed k s nearer.third at (elim nearer.signs [
    | inl by_a ↦ earlier (trace_of s) nearer.before a (Accepts nearer.third) by_a nearer.accepted
    | inr by_b ↦ earlier (trace_of s) nearer.before b (Accepts nearer.third) by_b nearer.accepted
  ])

  abbrev NoneWithin : ℕ → Type 0
  NoneWithin bound = (a b : Subject D) → distance a b < bound → Contradicts term_length a b → Backed network a
      → Backed network b → ⊥

  none_by : (bound : ℕ) → NoneWithin bound → (a b : Subject D) → distance a b < suc bound → Contradicts term_length a b
      → Backed network a → Backed network b → (k : ℕ) (s : Execution K L D) → slice_get network k ≡ Some (Honest s)
      → HasSigned (trace_of s) a → HasSigned (trace_of s) b → ⊥
  none_by bound none a b less against has_a has_b k s at by_a by_b =
      let lawful = execution_lawful same decides elect term_length k s (good.honest k s at) in
      elim (both_signed same decides itself term_length (trace_of s) a b against by_a by_b) [
        | inl breaks ↦ broken_rules term_length (trace_of s) a b breaks by_a by_b lawful
        | inr nearer ↦
            (let third = third_backed a b k s at nearer in
            elim nearer.nearer [
              | inl h ↦ (let closer = h.1 in none nearer.third a (omega (arith, closer, less)) h.0 third has_a)
              | inr h ↦ (let closer = h.1 in none nearer.third b (omega (arith, closer, less)) h.0 third has_b)
            ])
      ]

  none_contradict : (bound : ℕ) → NoneWithin bound
  none_contradict zero a b less against has_a has_b = absurd (omega arith)
  none_contradict (suc bound) a b less against has_a has_b =
      let m = shared_member network a b (inr few) has_a has_b in
      none_by bound (none_contradict bound) a b less against has_a has_b m.0 m.1 m.2 m.3 m.4

module _ {K L D : Type 0} (same : D → D → Bool) (decides : (d e : D) → same d e ≡ true → d ≡ e)
    (itself : (d : D) → same d d ≡ true) (elect : Elect L) where
  pub need_faults : ContradictionsNeedFaults K same elect
  need_faults term_length network a b good against has_a has_b =
      elim (cases_lt (faults network) (length network - 2 * max_faults (length network))) [
        | inl few ↦ absurd (none_contradict same decides itself elect term_length network good few (suc (distance a b))
            a b (omega arith) against has_a has_b)
        | inr enough ↦ enough
      ]

-- in a network the members of which are known as far as they are honest, each accepted certificate is backed

module _ {K L D : Type 0} where
  known_signed : (vote : Subject D) (network : List (Replica K L D)) (i count : ℕ)
      → AtLeastFrom i count (MayHaveSigned vote) network
      → AtLeastFrom i count (MayHaveVoted vote) (map known_of network)
  known_signed vote network i zero h = tt
  known_signed vote [] i (suc count) h = absurd h
  known_signed vote (Faulty ∷ network) i (suc count) (inl h) = inl (tt, known_signed vote network (suc i) count h.1)
  known_signed vote (Honest s ∷ network) i (suc count) (inl h) = inl (h.0, known_signed vote network (suc i) count h.1)
  known_signed vote (replica ∷ network) i (suc count) (inr h) = inr (known_signed vote network (suc i) (suc count) h)

  backed_certified : (vote : Subject D) (network : List (Replica K L D)) → Backed network vote
      → MayBeCertified (map known_of network) vote
  backed_certified vote network backed = rw (length-map network known_of)
      (known_signed vote network 0 (quorum (length network)) backed)

  known_honest : (replica : Option (Replica K L D)) (trace : List (TraceEvent D))
      → option_map known_of replica ≡ Some (Some trace)
      → (s : Execution K L D) × (replica ≡ Some (Honest s)) × (trace_of s ≡ trace)
  known_honest None trace is = absurd (let no : ⊥ = cc in no)
  known_honest (Some Faulty) trace is = absurd (let no : ⊥ = cc in no)
  known_honest (Some (Honest s)) trace is = (s, refl, ap (λ o. unwrap_or (unwrap_or o None) trace) is)

module _ {K L D : Type 0} (same : D → D → Bool) (elect : Elect L) where
  accept_certified : (term_length : ℕ) (network : List (Replica K L D)) → IsBackedNetwork same elect term_length network
      → AcceptCertified (map known_of network)
  accept_certified term_length network good i trace certificate at accepted =
      let found = known_honest (slice_get network i) trace (sym (slice_get-map known_of network i) ∙ at) in
      backed_certified certificate network (good.backed i found.0 certificate found.1
      (subst (λ d. Contains d (Accepts certificate)) (sym found.2) accepted))

module _ {K L D : Type 0} (same : D → D → Bool) (decides : (d e : D) → same d e ≡ true → d ≡ e)
    (itself : (d : D) → same d d ≡ true) (elect : Elect L) where
  pub traced_in_networks : ContradictionsAreTracedInNetworks K same elect
  traced_in_networks term_length network a b good against has_a has_b =
      traced_to_guilt same decides itself term_length (map known_of network) a b
      (accept_certified same elect term_length network good) against (backed_certified a network has_a)
      (backed_certified b network has_b)
