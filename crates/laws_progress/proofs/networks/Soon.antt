-- How many exchanges of messages it takes: one to meet and to abandon the view, one for each term further, and four.
use Rattle.std.proofs.Common.{◌≡◌, refl, ap, sym, ◌∙◌, subst, inl, inr, ℕ, zero, suc, ◌+◌, ◌-◌, ◌*◌, ◌/◌, ◌<◌, ◌≤◌, Bool, true, false, if◌then◌else◌, List, [], ◌∷◌, ◌++◌, length, map, slice_get, Contains, Some, arith}
use Rattle.std.specs.Prelude.{◌==◌}
use Rattle.std.proofs.lemmas.Bool.{cases_eq, eq-eqb, ne_eqb}
use Rattle.std.proofs.Math.Nat.{le_trans, div-mul-le_self, le-div_iff_mul-le}
use Rattle.std.proofs.lemmas.Nat.{div-mul-add}
use Rattle.std.proofs.lemmas.List.Elements.{Contains-append_cases, Contains-append_right}
use Rattle.simplex_types.specs.Terms.{term_index, term_start, next_term_start}
use Rattle.simplex_types.specs.declared.types.messages.Proposal.{Proposal}
use Rattle.simplex_types.specs.declared.types.messages.Subject.TheVariants.{Nullify}
use Rattle.simplex_view_maps.proofs.Gaps.{next_above}
use Rattle.simplex_voter.specs.Facts.{StateFacts, Elect}
use Rattle.simplex_voter.specs.Refusals.{is_too_large}
use Rattle.simplex_member.specs.Calls.{CallFacts, SetProposal, Proposed, ConstructNullify}
use Rattle.simplex_member.specs.Runs.{StepFacts, Calls}
use Rattle.laws_safety.specs.Continuations.{ContinuesToFinalize}
use Rattle.laws_safety.specs.Traces.{TraceEvent, Accepts}
use Rattle.laws_safety.specs.Replicas.{Replica, Honest, faults, max_faults, IsNetworkOf}
use Rattle.laws_safety.specs.Executions.{Execution, trace_of}
use Rattle.laws_progress.specs.NotStuck.{MayContinue}
use Rattle.laws_progress.specs.NetworkStates.{IsSetUpAs, RunsWith, EachRuns}
use Rattle.laws_progress.specs.MessageExchanges.{IsExchange, Exchanges, IsFinalizedSoon}
use Rattle.laws_progress.specs.ViewPositions.{StandsBefore, proposal_in}
use Rattle.laws_progress.specs.SharedView.{terms_on}
use Rattle.laws_progress.proofs.networks.Followed.{ReplicasFollow, all_follow, follows_so, replicas_follow, was_there}
use Rattle.laws_progress.proofs.networks.Continuations.{terms_to}
use Rattle.laws_progress.proofs.networks.Joined.{joined}
use Rattle.laws_progress.proofs.networks.Replicas.{replicas_same, replicas_joined, same_length, same_faults, honest_still}
use Rattle.laws_progress.proofs.networks.Met.{HaveMet, have_met, some}
use Rattle.laws_progress.proofs.networks.Parts.{called, Part, at_member, parts_of, Along, plan_done}
use Rattle.laws_progress.proofs.networks.Passed.{skip_hears, skip_holds, within, leader_traced, follower_traced, enough, none_above}
use Rattle.laws_progress.proofs.networks.Plan.{only_signs, plan_from, plan_is_whole, plan_long, plan_fits, last_sequence_of, last_trace}
use Rattle.laws_progress.proofs.networks.Together.{ContinuesBy, followed_to_finalize}
use Rattle.laws_progress.proofs.runs.Members.{AllHave, one_has, HearsOnly, follower_hears, leader_hears}
use Rattle.laws_progress.proofs.runs.Onward.{and_calls, calls_go_on, calls_run, calls_ran, calls_trace}
use Rattle.laws_progress.proofs.runs.Starts.{replica_of}
use Rattle.laws_progress.proofs.states.AbandonedTerms.{gives_up_now, skip_sequence, skip_calls, skip_trace, skip_calls_are, skip_trace_is}
use Rattle.laws_progress.proofs.states.Sequences.{Sequence, parted, calls_in, whole_trace, trace_done, leader_sequence, follower_sequence}

-- of members that are at one view

module _ {K L D : Type 0} (same : D → D → Bool) (decides : (d e : D) → same d e ≡ true → d ≡ e)
    (reflexive : (d : D) → same d d ≡ true) (elect : Elect L)
    (term_length epoch leader parent view start terms : ℕ) (elector : L) (q : D) (network : List (Replica K L D))
    (good : IsNetworkOf same elect term_length network) (few : faults network ≤ max_faults (length network))
    (far : start ≡ terms_on term_length (suc terms) view) (is_term_start : start ≡ term_start term_length start)
    (small : is_too_large start ≡ false)
    (elected : (bytes : List ℕ) → elect elector (record { epoch = epoch; view = start }) (Some bytes) ≡ leader)
    (leads : (s : Execution K L D) × (slice_get network leader ≡ Some (Honest s)))
    (each : EachRuns same elect network
    (λ i x. IsSetUpAs epoch (length network) elector i x × StandsBefore parent view start x)) where
  abbrev p : Proposal D
  p = proposal_in epoch start parent q

  abbrev last : ℕ → List (CallFacts D × List (TraceEvent D))
  last i = last_sequence_of epoch term_length leader start parent q q i

  abbrev plan : List (Part D)
  plan = plan_from epoch term_length leader start parent q q terms view

  -- what each calls first, and then
  abbrev first : ℕ → CallFacts D × List (TraceEvent D)
  first i = gives_up_now epoch term_length i view

  abbrev done : ℕ → List (TraceEvent D)
  done i = skip_trace epoch term_length i (suc terms) view (trace_done (replica_of epoch start parent q i) q)

  traced : (i : ℕ) (s : Execution K L D) → slice_get network i ≡ Some (Honest s)
      → (x : StateFacts K L D) × (lives : RunsWith same elect s x)
      × Sequence same elect lives.0 (skip_sequence epoch term_length i (suc terms) view (last i))
  traced i s at =
      let alive = each i s at in
      let one_of_them = within network leader (Honest leads.0) leads.1 in (
        alive.0,
        alive.1,
        elim (cases_eq i leader) [
          | inl is ↦ subst (λ b. Sequence same elect alive.1.0
              (skip_sequence epoch term_length i (suc terms) view
              (if b then leader_sequence (replica_of epoch start parent q i) q [] [] else follower_sequence
              (replica_of epoch start parent q i) q [] []))) (sym (eq-eqb i leader is))
              (leader_traced same decides reflexive elect term_length epoch (length network) leader parent view start
              terms i elector q s (good.honest i s at) far is_term_start small elected one_of_them alive.0 alive.1
              alive.2.0 alive.2.1 is)
          | inr other ↦ subst (λ b. Sequence same elect alive.1.0
              (skip_sequence epoch term_length i (suc terms) view
              (if b then leader_sequence (replica_of epoch start parent q i) q [] [] else follower_sequence
              (replica_of epoch start parent q i) q [] []))) (sym (ne_eqb i leader other))
              (follower_traced same decides reflexive elect term_length epoch (length network) leader parent view start
              terms i elector q s (good.honest i s at) far is_term_start small elected one_of_them alive.0 alive.1
              alive.2.0 alive.2.1 other)
        ],
      )

  abbrev pub Gave : ℕ → Execution K L D → Execution K L D → Type 0
  Gave = Along same elect term_length (λ i. whole_trace (first i ∷ [])) (λ i. calls_in (first i ∷ [])) (at_member plan)

  gives : (i : ℕ) (s : Execution K L D) → slice_get network i ≡ Some (Honest s) → (t : Execution K L D) × Gave i s t
  gives i s at =
      let there = traced i s at in
      let m = there.1.0 in
      let one = parted same elect (first i ∷ []) (at_member plan i) m
      (subst (λ rest. Sequence same elect m (first i ∷ rest))
      (sym (plan_is_whole epoch term_length leader start parent q q terms view i)) there.2) in
      let run = there.1.1 in (
        and_calls same elect s (calls_in (first i ∷ [])) one.replies,
        record {
          continues = calls_go_on same elect term_length i s m one.end (calls_in (first i ∷ [])) one.replies run
              one.run;
          ran = calls_ran same elect term_length i s m one.end (calls_in (first i ∷ [])) one.replies run one.run
              (good.honest i s at);
          steps = refl;
          trace = calls_trace same elect term_length i s m one.end (calls_in (first i ∷ [])) one.replies run one.run
              ∙ ap (λ ds. trace_of s ++ ds) one.does;
          member = one.end;
          run = calls_run same elect term_length i s m one.end (calls_in (first i ∷ [])) one.replies run one.run;
          ready = one.rest;
        },
      )

  pub all_gave : (given : List (Replica K L D)) × ReplicasFollow Gave 0 network given
  all_gave = all_follow Gave 0 network (λ i j s at is.
      (let here : i ≡ j = omega (arith, is) in gives j s (subst (λ n. slice_get network n ≡ Some (Honest s)) here at)))

  abbrev End : ℕ → Execution K L D → Execution K L D → Type 0
  End = Along same elect term_length (λ i. whole_trace (first i ∷ []) ++ whole_trace (at_member plan i))
      (λ i. calls_in (first i ∷ []) ++ calls_in (at_member plan i)) (λ i. [])

  pub rest_done : (later : List (Replica K L D)) × Exchanges (parts_of plan) all_gave.0 later
      × ReplicasFollow End 0 network later
  rest_done = plan_done same elect term_length leader p network few leads plan (λ i. whole_trace (first i ∷ []))
      (λ i. calls_in (first i ∷ []))
      (plan_fits epoch term_length leader start parent q q terms view (λ i. whole_trace (first i ∷ []))
      (λ i. calls_in (first i ∷ [])) (λ j. (0, omega arith, refl))) all_gave.0 all_gave.1

  trace_is : (i : ℕ) → whole_trace (first i ∷ []) ++ whole_trace (at_member plan i) ≡ done i
  trace_is i =
      ap (λ sequence. whole_trace (first i ∷ sequence))
      (plan_is_whole epoch term_length leader start parent q q terms view i)
      ∙ (skip_trace_is epoch term_length i (suc terms) view (last i)
      ∙ ap (skip_trace epoch term_length i (suc terms) view)
      (last_trace epoch term_length leader start parent q q i))

  calls_are : (i : ℕ) → calls_in (first i ∷ []) ++ calls_in (at_member plan i) ≡ skip_calls epoch term_length
      (suc terms) view (calls_in (last i))
  calls_are i = ap (λ sequence. calls_in (first i ∷ sequence))
      (plan_is_whole epoch term_length leader start parent q q terms view i)
      ∙ skip_calls_are epoch term_length i (suc terms) view (last i)

  last_hears : (i : ℕ) → AllHave (HearsOnly {K = K} {L = L} p) (map Calls (calls_in (last i)))
  last_hears i = by_leader (i == leader)
    where
      by_leader : (b : Bool) → AllHave (HearsOnly {K = K} {L = L} p)
          (map Calls (calls_in (if b then leader_sequence (replica_of epoch start parent q i) q [] []
          else follower_sequence (replica_of epoch start parent q i) q [] [])))
      by_leader true = leader_hears p
      by_leader false = follower_hears p

  last_builds : (i : ℕ) → i ≡ leader → Contains {X = StepFacts K L D} (map Calls (calls_in (last i)))
      (Calls (Proposed start q 0))
  last_builds i is = subst (λ b. Contains {X = StepFacts K L D}
      (map Calls (calls_in (if b then leader_sequence (replica_of epoch start parent q i) q [] [] else follower_sequence
      (replica_of epoch start parent q i) q [] []))) (Calls (Proposed start q 0))) (sym (eq-eqb i leader is))
      (1, omega arith, refl)

  goes_by : (i : ℕ) (s t : Execution K L D) → End i s t → ContinuesBy same elect term_length leader p done i s t
  goes_by i s t end =
      let all = skip_calls epoch term_length (suc terms) view (calls_in (last i)) in
      let steps : t.steps ≡ s.steps ++ map Calls all = end.steps ∙ ap (λ cs. s.steps ++ map Calls cs) (calls_are i) in
      record {
        continues = end.continues;
        ran = end.ran;
        trace = end.trace ∙ ap (λ ds. trace_of s ++ ds) (trace_is i);
        received = λ v o h. elim (Contains-append_cases s.steps (map Calls all) (Calls (SetProposal v o))
            (subst (λ ss. Contains ss (Calls (SetProposal v o))) steps h)) [
              | inl old ↦ inl old
              | inr new ↦ inr (one_has (HearsOnly {K = K} {L = L} p) (map Calls all) (Calls (SetProposal v o))
                  (skip_hears K L epoch term_length p (suc terms) view (calls_in (last i)) (last_hears i)) new v o refl)
            ];
        builds = λ is. subst (λ ss. Contains ss (Calls (Proposed start q 0))) (sym steps)
            (Contains-append_right s.steps (map Calls all) (Calls (Proposed start q 0))
            (skip_holds K L epoch term_length p (suc terms) view (calls_in (last i)) (Calls (Proposed start q 0))
            (last_builds i is)));
      }

  abbrev pub later : List (Replica K L D)
  later = rest_done.0

  pub exchanged : Exchanges (terms + 4) all_gave.0 later
  exchanged = subst (λ n. Exchanges n all_gave.0 later) (plan_long epoch term_length leader start parent q q terms view)
      rest_done.1

  pub ends : ContinuesToFinalize same elect term_length network later p
  ends = followed_to_finalize same elect term_length leader p done (enough p term_length (suc terms) view) network good
      few leads later
      (follows_so End (ContinuesBy same elect term_length leader p done) goes_by 0 network later rest_done.2)
      (none_above same decides elect term_length epoch parent view start terms elector network good far each)

-- the terms of views

module _ (length : ℕ) (some : 0 < length) where
  -- the next term is the next in number
  next_index : (view : ℕ) → 1 ≤ view → term_index length (next_term_start length view) ≡ term_index length view + 1
  next_index view one =
      let e : next_term_start length view - 1 ≡ ((view - 1) / length + 1) * length + 0 = omega arith in
      ap (λ n. n / length) e ∙ div-mul-add ((view - 1) / length + 1) length 0 some

  pub index_on : (count view : ℕ) → 1 ≤ view
      → term_index length (terms_on length count view) ≡ term_index length view + count
  index_on zero view one = omega arith
  index_on (suc count) view one =
      let above = next_above length view some one in
      let rest = index_on count (next_term_start length view) (omega (arith, above)) in
      omega (arith, rest, next_index view one)

  pub index_up : (low high : ℕ) → low ≤ high → term_index length low ≤ term_index length high
  index_up low high up = (le-div_iff_mul-le some).1 (le_trans (div-mul-le_self (low - 1) length) (omega (arith, up)))

-- nothing happens in some exchanges

module _ {K L D : Type 0} where
  no_exchange : (network : List (Replica K L D)) → IsExchange network network
  no_exchange network = record {
    continues = replicas_same network;
    certificates = λ i s at c h. inl (i, s, at, h);
    proposals = λ i s at v p h. inl (i, s, at, h);
  }

  and_more : (extra count : ℕ) (a b : List (Replica K L D)) → Exchanges count a b → Exchanges (extra + count) a b
  and_more zero count a b taken = subst (λ n. Exchanges n a b) {x = count} {y = zero + count} (omega arith) taken
  and_more (suc extra) count a b taken =
      let one_more : Exchanges (suc (extra + count)) a b = (a, no_exchange a, and_more extra count a b taken) in
      subst (λ n. Exchanges n a b) {x = suc (extra + count)} {y = suc extra + count} (omega arith) one_more

-- of each network

module _ {K L D : Type 0} (same : D → D → Bool) (decides : (d e : D) → same d e ≡ true → d ≡ e)
    (reflexive : (d : D) → same d d ≡ true) (elect : Elect L)
    (term_length epoch leader start terms count : ℕ) (elector : L) (network : List (Replica K L D)) (q : D)
    (good : IsNetworkOf same elect term_length network)
    (may : MayContinue same elect term_length network epoch elector leader start)
    (met : HaveMet same elect term_length network epoch elector start)
    (far : start ≡ terms_on term_length (suc terms) met.view) (fits : suc terms ≤ count) where
  few : faults met.later ≤ max_faults (length met.later)
  few = omega (
    arith,
    may.few_faulty,
    same_length network met.later met.meets.continues,
    same_faults network met.later met.meets.continues,
  )

  leads : (s : Execution K L D) × (slice_get met.later leader ≡ Some (Honest s))
  leads = honest_still network met.later leader may.honest_leader.0 met.meets.continues may.honest_leader.1

  abbrev Gives : ℕ → Execution K L D → Execution K L D → Type 0
  Gives = Gave same decides reflexive elect term_length epoch leader met.parent met.view start terms elector q met.later
      met.meets.runs few far may.is_term_start may.small may.elected leads met.meets.stands

  abbrev given : (given : List (Replica K L D)) × ReplicasFollow Gives 0 met.later given
  given = all_gave same decides reflexive elect term_length epoch leader met.parent met.view start terms elector q
      met.later met.meets.runs few far may.is_term_start may.small may.elected leads met.meets.stands

  first_exchange : IsExchange network given.0
  first_exchange = record {
    continues = replicas_joined network met.later given.0 met.meets.continues
        (replicas_follow Gives (λ i s t by. by.continues) 0 met.later given.0 given.1);
    certificates = λ i u at c h.
        (let was = was_there Gives 0 met.later given.0 given.1 i i u at (omega arith) in
        elim (Contains-append_cases (trace_of was.0) (whole_trace (gives_up_now epoch term_length i met.view ∷ []))
        (Accepts c) (subst (λ ds. Contains ds (Accepts c)) was.2.trace h)) [
          | inl old ↦ inl (met.by_old i was.0 was.1 c old)
          | inr new ↦ absurd (only_signs epoch term_length leader start met.parent q q i
              (Nullify (record { epoch = epoch; view = met.view })) c new)
        ]);
    proposals = λ i u at v o h.
        (let was = was_there Gives 0 met.later given.0 given.1 i i u at (omega arith) in
        elim (Contains-append_cases was.0.steps (map Calls (calls_in (gives_up_now epoch term_length i met.view ∷ [])))
        (Calls (SetProposal v o)) (subst (λ ss. Contains ss (Calls (SetProposal v o))) was.2.steps h)) [
          | inl old ↦ inl (met.meets.proposals i was.0 was.1 v o old)
          | inr new ↦ absurd (no_proposal v o (called K L (ConstructNullify met.view ∷ []) (SetProposal v o) new))
        ]);
  }
    where
      no_proposal : (v : ℕ) (o : Proposal D) → Contains {X = CallFacts D} (ConstructNullify met.view ∷ [])
          (SetProposal v o) → ⊥
      no_proposal v o h = one_has (λ call. call ≡ SetProposal v o → ⊥) (ConstructNullify met.view ∷ [])
          (SetProposal v o) ((λ e. cc), tt) h refl

  abbrev end : List (Replica K L D)
  end = later same decides reflexive elect term_length epoch leader met.parent met.view start terms elector q met.later
      met.meets.runs few far may.is_term_start may.small may.elected leads met.meets.stands

  exchanges : Exchanges (count + 4) network end
  exchanges =
      let more : Exchanges (terms + 4) given.0 end =
      exchanged same decides reflexive elect term_length epoch leader met.parent met.view start terms elector q
      met.later met.meets.runs few far may.is_term_start may.small may.elected leads met.meets.stands in
      subst (λ n. Exchanges n network end) (omega (arith, fits))
      (and_more (count - suc terms) (suc (terms + 4)) network end (given.0, first_exchange, more))

  finalizes : ContinuesToFinalize same elect term_length network end (proposal_in epoch start met.parent q)
  finalizes = joined same elect term_length network met.later end (proposal_in epoch start met.parent q) good
      met.meets.runs met.meets.continues met.meets.certificates met.meets.proposals
      (ends same decides reflexive elect term_length epoch leader met.parent met.view start terms elector q met.later
      met.meets.runs few far may.is_term_start may.small may.elected leads met.meets.stands)

  pub met_then : (later : List (Replica K L D)) × (parent : ℕ) × Exchanges (count + 4) network later
      × ContinuesToFinalize same elect term_length network later (proposal_in epoch start parent q)
  met_then = (end, met.parent, exchanges, finalizes)

pub starts_are_finalized_soon : {L D : Type 0} (K : Type 0) (same : D → D → Bool)
    (decides : (d e : D) → same d e ≡ true → d ≡ e) (reflexive : (d : D) → same d d ≡ true) (elect : Elect L)
    → IsFinalizedSoon K same elect
starts_are_finalized_soon K same decides reflexive elect term_length epoch leader start count elector network q good may
    (i, s, at, near) =
    let length_some = some same decides elect term_length epoch leader start elector network good may in
    let met = have_met same decides elect term_length epoch leader start elector network good may in
    let terms = terms_to term_length length_some start met.view start (omega (arith, met.above)) met.above met.below
    may.is_term_start in
    let here = met.no_higher i s at in
    let far : term_index term_length start ≡ term_index term_length met.view + suc terms.0 =
    ap (term_index term_length) terms.1 ∙ index_on term_length length_some (suc terms.0) met.view met.above in
    let up = index_up term_length length_some here.0.current met.view here.2 in
    let close = near here.0 here.1 in
    met_then same decides reflexive elect term_length epoch leader start terms.0 count elector network q good may met
    terms.1 (omega (arith, far, up, close))
