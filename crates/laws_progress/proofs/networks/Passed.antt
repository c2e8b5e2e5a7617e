-- From one view, on one parent, the honest members continue together to a later term's start, and finalize it.
use Rattle.std.proofs.Common.{◌≡◌, refl, ap, sym, ◌∙◌, subst, inl, inr, ℕ, zero, suc, ◌<◌, Bool, true, false, List, [], ◌∷◌, length, slice_get, map, Contains, Option, Some, None, is_some, arith}
use Rattle.std.specs.Prelude.{◌==◌, option_map, MatchOption, is_none}
use Rattle.std.proofs.lemmas.Bool.{cases_eq, eq-eqb, ne_eqb, false≢true, true≢false}
use Rattle.std.proofs.lemmas.List.Elements.{Contains-append_cases, Contains-append_right}
use Rattle.simplex_types.specs.Terms.{term_start, next_term_start}
use Rattle.simplex_types.specs.declared.types.messages.Proposal.{Proposal}
use Rattle.simplex_types.specs.declared.types.messages.Subject.{Subject}
use Rattle.simplex_types.specs.declared.types.messages.Subject.TheVariants.{Notarize, Nullify, Finalize}
use Rattle.simplex_round.specs.declared.round.Leader.{Leader}
use Rattle.simplex_round.specs.Round.{RoundFacts, leader_at, signs_as}
use Rattle.simplex_voter.specs.Facts.{StateFacts, Elect, round_at}
use Rattle.simplex_voter.specs.Gaps.{IsGapless, IsFirstGap, is_gapless, first_unnullified_view}
use Rattle.simplex_voter.specs.Refusals.{is_too_large}
use Rattle.simplex_voter.proofs.Gaps.{first_unnullified_view-is}
use Rattle.simplex_member.specs.Calls.{CallFacts, SetProposal, Proposed, ConstructNullify, AddNullification}
use Rattle.simplex_member.specs.Runs.{StepFacts, Calls}
use Rattle.laws_safety.specs.Traces.{TraceEvent, Accepts, Signs}
use Rattle.laws_safety.specs.Replicas.{Replica as Member, Honest, Backed, IsNetworkOf}
use Rattle.laws_safety.specs.Executions.{Execution, IsExecution}
use Rattle.laws_safety.proofs.agreement.Quorums.{shared_member}
use Rattle.laws_safety.proofs.lists.Splits.{Contains-cases, Contains-cons_rest}
use Rattle.laws_progress.specs.NetworkStates.{IsSetUpAs, RunsWith, EachRuns}
use Rattle.laws_progress.specs.ViewPositions.{proposal_in, StandsBefore}
use Rattle.laws_progress.specs.SharedView.{terms_on, MembersOfOneViewContinue}
use Rattle.laws_progress.proofs.states.AtTermStart.{StandingMember}
use Rattle.laws_progress.proofs.states.Highest.{highest_at}
use Rattle.laws_progress.proofs.runs.Members.{AllHave, one_has, HearsOnly, follower_hears, leader_hears}
use Rattle.laws_progress.proofs.runs.Onward.{execution_on}
use Rattle.laws_progress.proofs.states.AbandonedTerms.{null_cert, skip_calls, skip_trace, on_from, Elects, IsReady, passes, skip_sequence, skip_calls_are, skip_trace_is}
use Rattle.laws_progress.proofs.runs.Ends.{Shown, end_shown, none_decided}
use Rattle.laws_progress.proofs.states.Sequences.{Does, Sequence, calls_in, whole_trace, does_of, trace_done, follower_sequence, leader_sequence, follower_done, leader_done}
use Rattle.laws_progress.proofs.runs.Starts.{replica_of}
use Rattle.laws_progress.proofs.networks.Together.{AreEnough, ContinuesBy, goes_on_to_finalize}
use Rattle.laws_progress.proofs.states.BeforeTermStart.{Waits}

same_subject : {D : Type 0} (a c : Subject D) → Accepts a ≡ Accepts c → a ≡ c
same_subject a c e = cc

two_before : {X : Type 0} (a b : X) (xs : List X) (x : X) → Contains xs x → Contains (a ∷ b ∷ xs) x
two_before a b xs x h = Contains-cons_rest a (b ∷ xs) x (Contains-cons_rest b xs x h)

-- what is done in the abandoned views adds its own, and preserves the rest

module _ (K L : Type 0) {D : Type 0} (epoch length : ℕ) (p : Proposal D) where
  pub skip_hears : (count view : ℕ) (calls : List (CallFacts D))
      → AllHave (HearsOnly {K = K} {L = L} p) (map Calls calls)
      → AllHave (HearsOnly {K = K} {L = L} p) (map Calls (skip_calls epoch length count view calls))
  skip_hears zero view calls all = all
  skip_hears (suc count) view calls all =
      (λ v o e. absurd (cc), (λ v o e. absurd (cc), skip_hears count (next_term_start length view) calls all))

  pub skip_holds : (count view : ℕ) (calls : List (CallFacts D)) (step : StepFacts K L D)
      → Contains (map Calls calls) step → Contains (map Calls (skip_calls epoch length count view calls)) step
  skip_holds zero view calls step h = h
  skip_holds (suc count) view calls step h =
      two_before (Calls (ConstructNullify view)) (Calls (AddNullification (null_cert epoch view) 0))
      (map Calls (skip_calls epoch length count (next_term_start length view) calls)) step
      (skip_holds count (next_term_start length view) calls step h)

module _ {D : Type 0} (epoch length : ℕ) where
  -- the vote to nullify a view
  abbrev gives : ℕ → Subject D
  gives view = Nullify (record { epoch = epoch; view = view })

  skip_does : (me count view : ℕ) (rest : List (TraceEvent D)) (d : TraceEvent D) → Contains rest d
      → Contains (skip_trace epoch length me count view rest) d
  skip_does me zero view rest d h = h
  skip_does me (suc count) view rest d h = two_before (Signs me (gives view)) (Accepts (gives view))
      (skip_trace epoch length me count (next_term_start length view) rest) d
      (skip_does me count (next_term_start length view) rest d h)

  -- each signs what one accepts
  skip_alone : (i j count view : ℕ) (mine theirs : List (TraceEvent D)) (c : Subject D)
      → (Contains mine (Accepts c) → Contains theirs (Signs j c))
      → Contains (skip_trace epoch length i count view mine) (Accepts c)
      → Contains (skip_trace epoch length j count view theirs) (Signs j c)
  skip_alone i j zero view mine theirs c alone h = alone h
  skip_alone i j (suc count) view mine theirs c alone h =
      let next = next_term_start length view in
      elim (Contains-cases (Signs i (gives view)) (Accepts (gives view) ∷ skip_trace epoch length i count next mine)
      (Accepts c) h) [
        | inl a ↦ absurd (cc)
        | inr rest ↦
            elim (Contains-cases (Accepts (gives view)) (skip_trace epoch length i count next mine) (Accepts c) rest) [
              | inl b ↦ (0, omega arith, ap (Signs j) (same_subject (gives view) c b))
              | inr later ↦ two_before (Signs j (gives view)) (Accepts (gives view))
                  (skip_trace epoch length j count next theirs) (Signs j c)
                  (skip_alone i j count next mine theirs c alone later)
            ]
      ]

module _ {D : Type 0} (p : Proposal D) where
  abbrev last : ℕ → List (TraceEvent D)
  last i = trace_done (replica_of p.round.epoch p.round.view p.parent p.payload i) p.payload

  abbrev SignedBy : ℕ → TraceEvent D → Type 0
  SignedBy j d = (c : Subject D) → d ≡ Accepts c → Contains (last j) (Signs j c)

  last_alone : (i j : ℕ) (c : Subject D) → Contains (last i) (Accepts c) → Contains (last j) (Signs j c)
  last_alone i j c h = one_has (SignedBy j) (last i) (Accepts c) (
    λ c e. absurd (cc),
    (
      λ c e. (0, omega arith, ap (Signs j) (same_subject (Notarize p) c e)),
      (
        λ c e. absurd (cc),
        (
          λ c e. (2, omega arith, ap (Signs j) (same_subject (Finalize p) c e)),
          tt,
        ),
      ),
    ),
  ) h c refl

  pub enough : (length count view : ℕ) → AreEnough p (λ i. skip_trace p.round.epoch length i count view (last i))
  enough length count view = record {
    alone = λ i c h j. skip_alone p.round.epoch length i j count view (last i) (last j) c (last_alone i j c) h;
    notarize = λ i. skip_does p.round.epoch length i count view (last i) (Signs i (Notarize p)) (0, omega arith, refl);
    finalize = λ i. skip_does p.round.epoch length i count view (last i) (Signs i (Finalize p)) (2, omega arith, refl);
    accepts = λ i. skip_does p.round.epoch length i count view (last i) (Accepts (Finalize p)) (3, omega arith, refl);
  }

pub there : {X : Type 0} (xs : List X) (i : ℕ) → i < length xs → (x : X) × (slice_get xs i ≡ Some x)
there [] i less = absurd (omega (arith, less))
there (x ∷ xs) zero less = (x, refl)
there (x ∷ xs) (suc i) less = there xs i (omega (arith, less))

pub within : {X : Type 0} (xs : List X) (i : ℕ) (x : X) → slice_get xs i ≡ Some x → i < length xs
within [] i x is = absurd (cc)
within (y ∷ xs) zero x is = omega arith
within (y ∷ xs) (suc i) x is = let rest = within xs i x is in omega (arith, rest)

module _ {K L D : Type 0} (x : StateFacts K L D) (p v : ℕ) (some : 0 < x.terms.term_length) where
  gapless_each : is_gapless x p v ≡ true → IsGapless x p v
  gapless_each is = by_gap (first_unnullified_view x p v) (first_unnullified_view-is x p v some) is
    where
      by_gap : (o : Option ℕ) → MatchOption o (IsGapless x p v) (IsFirstGap x p v) → is_none o ≡ true → IsGapless x p v
      by_gap None none is = none
      by_gap (Some w) gap is = absurd (false≢true is)

-- of one member

module _ {K L D : Type 0} (same : D → D → Bool) (decides : (d e : D) → same d e ≡ true → d ≡ e)
    (reflexive : (d : D) → same d d ≡ true) (elect : Elect L)
    (term_length epoch count leader parent view start terms i : ℕ) (elector : L) (q : D) (s : Execution K L D)
    (ran : IsExecution same elect term_length i s)
    (far : start ≡ terms_on term_length (suc terms) view) (is_term_start : start ≡ term_start term_length start)
    (small : is_too_large start ≡ false)
    (elected : (bytes : List ℕ) → elect elector (record { epoch = epoch; view = start }) (Some bytes) ≡ leader)
    (one_of_them : leader < count)
    (x : StateFacts K L D) (lives : RunsWith same elect s x) (set : IsSetUpAs epoch count elector i x)
    (before : StandsBefore parent view start x) where
  abbrev p : Proposal D
  p = proposal_in epoch start parent q

  abbrev l : StandingMember D
  l = replica_of epoch start parent before.stands.payload i

  abbrev done : List (TraceEvent D)
  done = skip_trace epoch term_length i (suc terms) view (trace_done l q)

  some : 0 < term_length
  some = ran.lives.first.terms.some

  shown : Shown term_length s lives.0 x
  shown = end_shown same decides elect term_length i s ran x lives

  waits : Waits term_length l None view view x
  waits = record {
    here = by_found (round_at x start) before.untouched;
    ordered = shown.living.in_order;
    alive = shown.owns.alive;
    me = set.signs;
    epoch = set.of_epoch;
    terms = shown.living.keeps.stays.stands.terms;
    current = before.current;
    start = is_term_start;
    low = before.stands.below;
    high = (let on = on_from term_length some (suc terms) view (omega (arith, before.stands.below)) in
        omega (arith, on, far));
    above = before.stands.not_passed;
    explicit = before.stands.explicit;
    gapless = gapless_each x parent view (subst (λ n. 0 < n) (sym shown.living.keeps.stays.stands.terms) some)
        before.stands.gapless;
    undecided = λ v from. none_decided same decides elect term_length i s ran x lives v
        (omega (arith, from, before.current));
    highest = before.highest;
    on_time = set.on_time;
    small = small;
  }
    where
      by_found : (o : Option (RoundFacts K D)) → is_some o ≡ false → o ≡ None
      by_found None is = refl
      by_found (Some r) is = absurd (true≢false is)

  elects : Elects elect l leader x
  elects =
      let key = there x.members leader (omega (arith, one_of_them, set.members)) in
      (λ j. option_map (λ (o : Leader K). o.idx)
      (leader_at x.members ((ap (λ (e : L). elect e (record { epoch = epoch; view = start }) (Some []))
      set.elects_by ∙ elected []) j)))
      ∙ ap (λ o. option_map (λ (f : Leader K). f.idx) (option_map (λ k. record { idx = leader; key = k }) o)) key.1

  goes_by : (last : List (CallFacts D × List (TraceEvent D))) → whole_trace last ≡ trace_done l q
      → AllHave (HearsOnly {K = K} {L = L} p) (map Calls (calls_in last))
      → Sequence same elect lives.0 (skip_sequence epoch term_length i (suc terms) view last)
      → (i ≡ leader → Contains {X = StepFacts K L D} (map Calls (calls_in last)) (Calls (Proposed start q 0)))
      → (t : Execution K L D) × ContinuesBy same elect term_length leader p
      (λ k. skip_trace epoch term_length k (suc terms) view (trace_done (replica_of epoch start parent q k) q)) i s
      t
  goes_by last ends hears traced built =
      let calls = calls_in last in
      let all = skip_calls epoch term_length (suc terms) view calls in
      let does = does_of same elect (skip_sequence epoch term_length i (suc terms) view last) lives.0 traced in
      let done_so : whole_trace (skip_sequence epoch term_length i (suc terms) view last) ≡ done =
      skip_trace_is epoch term_length i (suc terms) view last
      ∙ ap (skip_trace epoch term_length i (suc terms) view) ends in
      let passed : Does same elect lives.0 (map Calls all) done =
      subst (λ cs. Does same elect lives.0 (map Calls cs) done)
      (skip_calls_are epoch term_length i (suc terms) view last)
      (subst (Does same elect lives.0
      (map Calls (calls_in (skip_sequence epoch term_length i (suc terms) view last)))) done_so does) in
      let on = execution_on same elect term_length i s lives.0 all done ran lives.1 passed in (
        on.execution,
        record {
          continues = on.continues;
          ran = on.ran;
          trace = on.trace;
          received = λ v o h. elim (Contains-append_cases s.steps (map Calls all) (Calls (SetProposal v o))
              (subst (λ ss. Contains ss (Calls (SetProposal v o))) on.steps h)) [
                | inl old ↦ inl old
                | inr new ↦ inr (one_has (HearsOnly {K = K} {L = L} p) (map Calls all) (Calls (SetProposal v o))
                    (skip_hears K L epoch term_length p (suc terms) view calls hears) new v o refl)
              ];
          builds = λ is. subst (λ ss. Contains ss (Calls (Proposed start q 0))) (sym on.steps)
              (Contains-append_right s.steps (map Calls all) (Calls (Proposed start q 0))
              (skip_holds K L epoch term_length p (suc terms) view calls (Calls (Proposed start q 0)) (built is)));
        },
      )

  signs : (y : StateFacts K L D) (r : IsReady l leader y) → signs_as r.round.me r.lead.idx ≡ (i == leader)
  signs y r = λ j. signs_as (r.me j) (r.index j)

  -- what it calls: it builds the proposal, or verifies it
  pub leader_traced : i ≡ leader → Sequence same elect lives.0
      (skip_sequence epoch term_length i (suc terms) view (leader_sequence l q [] []))
  leader_traced leads = passes same elect term_length some l leader (leader_sequence l q [] []) terms view lives.0 x
      lives.2 waits (sym far) elects
      (λ n y alive r. leader_done same elect reflexive l q [] [] r.round r.pending r.none r.lead r.leads n y alive
      r.stands (signs y r ∙ eq-eqb i leader leads)
      (highest_at y l.parent l.view l.payload r.stands.below r.stands.explicit r.highest r.stands.ordered))

  pub follower_traced : (i ≡ leader → ⊥) → Sequence same elect lives.0
      (skip_sequence epoch term_length i (suc terms) view (follower_sequence l q [] []))
  follower_traced other = passes same elect term_length some l leader (follower_sequence l q [] []) terms view lives.0 x
      lives.2 waits (sym far) elects
      (λ n y alive r. follower_done same elect reflexive l q [] [] r.round r.pending r.none r.lead r.leads n y alive
      r.stands (signs y r ∙ ne_eqb i leader other))

  pub member_goes : (t : Execution K L D) × ContinuesBy same elect term_length leader p
      (λ k. skip_trace epoch term_length k (suc terms) view (trace_done (replica_of epoch start parent q k) q)) i s t
  member_goes = elim (cases_eq i leader) [
    | inl leads ↦ goes_by (leader_sequence l q [] []) refl (leader_hears p) (leader_traced leads)
        (λ is. (1, omega arith, refl))
    | inr other ↦ goes_by (follower_sequence l q [] []) refl (follower_hears p) (follower_traced other)
        (λ is. absurd (other is))
  ]

-- of the network

-- no view from the start on was finalized
pub none_above : {K L D : Type 0} (same : D → D → Bool) (decides : (d e : D) → same d e ≡ true → d ≡ e)
    (elect : Elect L) (term_length epoch parent view start terms : ℕ) (elector : L) (network : List (Member K L D))
    → IsNetworkOf same elect term_length network → start ≡ terms_on term_length (suc terms) view
    → EachRuns same elect network
    (λ i x. IsSetUpAs epoch (length network) elector i x × StandsBefore parent view start x)
    → (o : Proposal D) → Backed network (Finalize o) → o.round.view < start
none_above same decides elect term_length epoch parent view start terms elector network good far each o backs =
    let one = shared_member network (Finalize o) (Finalize o) good.few_faulty backs backs in
    let alive = each one.0 one.1 one.2 in
    let ran = good.honest one.0 one.1 one.2 in
    let shown = end_shown same decides elect term_length one.0 one.1 ran alive.0 alive.1 in
    let on = on_from term_length ran.lives.first.terms.some (suc terms) view (omega (arith, alive.2.1.stands.below)) in
    omega (arith, shown.living.keeps.stays.stands.passed o one.3, alive.2.1.current, far, on)

pub together_they_go_on : {L D : Type 0} (K : Type 0) (same : D → D → Bool)
    (decides : (d e : D) → same d e ≡ true → d ≡ e) (reflexive : (d : D) → same d d ≡ true) (elect : Elect L)
    → MembersOfOneViewContinue K same elect
together_they_go_on {L} {D} K same decides reflexive elect term_length epoch leader parent view start terms elector
    network q good few far is_term_start small elected leads each = (
      _,
      goes_on_to_finalize same elect term_length leader p done (enough p term_length (suc terms) view) network good
          few leads goes
          (none_above same decides elect term_length epoch parent view start terms elector network good far each),
    )
  where
    p : Proposal D
    p = proposal_in epoch start parent q

    done : ℕ → List (TraceEvent D)
    done = λ k. skip_trace epoch term_length k (suc terms) view (trace_done (replica_of epoch start parent q k) q)

    goes : (i : ℕ) (s : Execution K L D) → slice_get network i ≡ Some (Honest s)
        → (t : Execution K L D) × ContinuesBy same elect term_length leader (proposal_in epoch start parent q)
        (λ k. skip_trace epoch term_length k (suc terms) view (trace_done (replica_of epoch start parent q k) q)) i s t
    goes i s at =
        let alive = each i s at in
        member_goes same decides reflexive elect term_length epoch (length network) leader parent view start terms i
        elector q s (good.honest i s at) far is_term_start small elected
        (within network leader (Honest leads.0) leads.1) alive.0 alive.1 alive.2.0 alive.2.1
