-- All honest members can come to one view, on one parent, by what some of them accepted and certified.
use Rattle.std.proofs.Common.{◌≡◌, refl, ap, sym, ◌∙◌, subst, ◌⊎◌, inl, inr, ℕ, suc, ◌+◌, ◌<◌, ◌≤◌, max, Bool, true, false, List, [], ◌++◌, length, slice_get, map, Contains, Option, Some, None, is_some, unwrap_or, arith}
use Rattle.std.proofs.lemmas.Bool.{cases_lt, cases_eq, false≢true, true≢false}
use Rattle.std.proofs.lemmas.List.Elements.{Contains-append_cases, Contains-append_left}
use Rattle.simplex_types.specs.Certificates.{ProposalFacts}
use Rattle.simplex_types.specs.Terms.{covers, next_term_start, term_start}
use Rattle.simplex_types.specs.declared.types.messages.Proposal.{Proposal}
use Rattle.simplex_types.specs.declared.types.messages.Subject.{Subject}
use Rattle.simplex_types.specs.declared.types.messages.Subject.TheVariants as subject
use Rattle.simplex_types.specs.declared.types.numbers.Round.{Round}
use Rattle.simplex_view_maps.proofs.Gaps.{next_above}
use Rattle.simplex_types.proofs.Covers.{covers_from, same_start, start_below}
use Rattle.simplex_round.specs.declared.round.Certification.{Certification}
use Rattle.simplex_round.specs.declared.round.Certification.TheVariants as certification
use Rattle.simplex_round.specs.Round.{is_judged}
use Rattle.simplex_voter.specs.Facts.{StateFacts, Elect, round_of, is_tracked}
use Rattle.simplex_member.specs.Calls.{SetProposal}
use Rattle.simplex_member.specs.MemberFacts.{MemberFacts}
use Rattle.simplex_member.specs.Runs.{Calls}
use Rattle.laws_safety.specs.Continuations.{ExecutionContinues, EachHonest, SomeHonest, HasAccepted, HasReceived}
use Rattle.laws_safety.specs.Traces.{TraceEvent, Accepts, trace_of_steps}
use Rattle.laws_safety.specs.Replicas.{Replica, Honest, faults, FewFaulty, quorum, AtLeastFrom, MayHaveSigned, IsNetworkOf}
use Rattle.laws_history.specs.HistoryFacts.{verdict_of}
use Rattle.laws_safety.specs.Executions.{Execution, trace_of, IsExecution}
use Rattle.laws_safety.proofs.agreement.Claims.{finalized_uncovered, parent_before}
use Rattle.laws_progress.specs.NotStuck.{MayContinue, NetworksMeet}
use Rattle.laws_progress.specs.NetworkStates.{IsSetUpAs, RunsWith, EachRuns}
use Rattle.laws_progress.specs.CommonViews.{Meets}
use Rattle.laws_progress.specs.ViewCauses.{IsInEpoch, HasFinalized, HasCertified, IsLedTo, First, PastFinalized, PastCertified, PastNullified, judged_in, judged_of}
use Rattle.laws_progress.specs.ViewPositions.{StandsBefore}
use Rattle.laws_progress.proofs.networks.Chosen.{HighestCurrent, highest_current}
use Rattle.laws_progress.proofs.networks.Covers.{Skips, Covered, covered}
use Rattle.laws_progress.proofs.networks.Followed.{ReplicasFollow, all_follow, replicas_follow, same_many, was_there, backed_still}
use Rattle.laws_progress.proofs.networks.Tops.{Highest, either_highest, over_honest, finalized_highest, certified_highest}
use Rattle.laws_progress.proofs.runs.Arrivals.{Attains, Came, SkipsUpTo, pass_every, stays_there, takes_final, takes_certified}
use Rattle.laws_progress.proofs.runs.Ends.{Shown, end_shown}
use Rattle.laws_progress.proofs.runs.Explicit.{came_stands, explicit_passed}
use Rattle.laws_progress.proofs.runs.Led.{Led}
use Rattle.laws_progress.proofs.runs.LedLives.{state_led, judged_are_notarized}
use Rattle.laws_progress.proofs.runs.LedEvents.{Nears}
use Rattle.laws_progress.proofs.runs.Onward.{judged_joined, and_calls, calls_go_on, calls_run, calls_ran, calls_trace}

-- a term start above a view is no lower than the next one
pub next_before : (length view start : ℕ) → 1 ≤ view → view < start → start ≡ term_start length start
    → next_term_start length view ≤ start
next_before length view start some below is_term_start = elim (cases_lt start (next_term_start length view)) [
  | inr behind ↦ behind
  | inl within ↦ absurd (
      let same = same_start length view start some (omega (arith, below)) within in
      let low = start_below length view some in
      omega (arith, below, is_term_start, same, low))
]

not_false : (c : Certification) → is_judged false c ≡ false → verdict_of c ≡ Some false → ⊥
not_false (certification.Judged false) good is = true≢false good
not_false (certification.Judged true) good is = true≢false (ap (λ o. unwrap_or o false) is)
not_false certification.Ready good is = false≢true (ap is_some is)
not_false (certification.Outstanding t) good is = false≢true (ap is_some is)
not_false certification.Aborted good is = false≢true (ap is_some is)

-- where they meet: by what was accepted before alone, and no lower than the highest stood
pub record HaveMet {K L D : Type 0} (same : D → D → Bool) (elect : Elect L) (term_length : ℕ)
    (network : List (Replica K L D)) (epoch : ℕ) (elector : L) (start : ℕ) : Type 0 where
  pub later : List (Replica K L D)
  pub parent : ℕ
  pub view : ℕ
  pub above : 1 ≤ view
  pub below : view < start
  pub meets : Meets same elect term_length epoch elector network later parent view start
  pub by_old : EachHonest later (λ i s. (c : Subject D) → HasAccepted c i s → SomeHonest network (HasAccepted c))
  pub no_higher : EachRuns same elect network (λ i x. x.current ≤ view)

module _ {K L D : Type 0} (same : D → D → Bool) (decides : (d e : D) → same d e ≡ true → d ≡ e) (elect : Elect L)
    (term_length epoch leader start : ℕ) (elector : L) (network : List (Replica K L D))
    (good : IsNetworkOf same elect term_length network)
    (may : MayContinue same elect term_length network epoch elector leader start) where
  pub some : 0 < term_length
  some = (good.honest leader may.honest_leader.0 may.honest_leader.1).lives.first.terms.some

  -- the parent: the highest view that an honest member finalized or certified

  abbrev Finals : ℕ → Type 0
  Finals v = SomeHonest network (λ i s. HasFinalized epoch (trace_of s) v × (v + 1 < start))

  abbrev Certs : ℕ → Type 0
  Certs v = SomeHonest network (λ i s. HasCertified epoch (judged_of s) v × (v + 1 < start))

  pub parents : Highest (λ v. Finals v ⊎ Certs v)
  parents = either_highest Finals Certs
      (over_honest network (λ i s v. HasFinalized epoch (trace_of s) v × (v + 1 < start))
      (λ i s at. finalized_highest epoch start (trace_of s)))
      (over_honest network (λ i s v. HasCertified epoch (judged_of s) v × (v + 1 < start))
      (λ i s at. certified_highest epoch start (judged_of s)))

  abbrev parent : ℕ
  parent = parents.top

  -- the view: the highest that an honest member is at, or the one above the parent

  abbrev Lives : ℕ → StateFacts K L D → Type 0
  Lives i x = IsSetUpAs epoch (length network) elector i x × (is_tracked x start ≡ false) × (x.current < start)

  pub currents : HighestCurrent same elect network Lives
  currents = highest_current same elect network Lives may.alive

  abbrev view : ℕ
  view = max (parent + 1) currents.top

  -- all lies below the start

  first_far : 1 < start
  first_far =
      let x = may.alive leader may.honest_leader.0 may.honest_leader.1 in
      let shown = end_shown same decides elect term_length leader may.honest_leader.0
      (good.honest leader may.honest_leader.0 may.honest_leader.1) x.0 x.1 in
      omega (arith, x.2.2, shown.living.keeps.stays.ahead)

  parent_far : parent + 1 < start
  parent_far = elim parents.has [
    | inl genesis ↦ omega (arith, first_far, genesis)
    | inr (inl (i, s, at, final)) ↦ final.1
    | inr (inr (i, s, at, cert)) ↦ cert.1
  ]

  view_far : view < start
  view_far = elim currents.has [
    | inl none ↦ omega (arith, parent_far, none)
    | inr (i, s, at, (x, lives, p, is)) ↦ omega (arith, parent_far, p.2, is)
  ]

  -- nullifications that cover all between

  finals_below : (v : ℕ) → v < view → SomeHonest network (λ i s. HasFinalized epoch (trace_of s) v) → v < parent + 1
  finals_below v less (i, s, at, h) =
      (let m = parents.most v (inl (i, s, at, (h, omega (arith, less, view_far)))) in omega (arith, m))

  certs_below : (v : ℕ) → v < view → SomeHonest network (λ i s. HasCertified epoch (judged_of s) v) → v < parent + 1
  certs_below v less (i, s, at, h) =
      (let m = parents.most v (inr (i, s, at, (h, omega (arith, less, view_far)))) in omega (arith, m))

  pub record Road : Type 0 where
    rounds : List Round
    each : (r : Round) → Contains rounds r → Skips term_length epoch network (parent + 1) view r
    covering : (v : ℕ) → parent < v → v < view → (r : Round) × Contains rounds r × (covers term_length r.view v ≡ true)
    skips_to : (view ≡ parent + 1) ⊎ ((r : Round) × Contains rounds r × (next_term_start term_length r.view ≡ view))

  road_by : Covered term_length epoch network (parent + 1) view view → Road
  road_by c = record {
    rounds = c.rounds;
    each = c.each;
    covering = λ v up down. c.covering v (omega (arith, up)) down;
    skips_to = inr c.skips_to;
  }

  no_road : view ≡ parent + 1 → Road
  no_road is = record {
    rounds = [];
    each = λ r h. absurd (omega (arith, h.1));
    covering = λ v up down. absurd (omega (arith, up, down, is));
    skips_to = inl is;
  }

  -- by what led to the highest current view
  by_led : parent + 1 < currents.top → (i : ℕ) (s : Execution K L D) → slice_get network i ≡ Some (Honest s)
      → IsLedTo term_length epoch (trace_of s) (judged_of s) currents.top → Road
  by_led up i s at (First is) = absurd (omega (arith, up, is))
  by_led up i s at (PastFinalized below h is) =
      absurd (let low = finals_below below (omega (arith, up, is)) (i, s, at, h) in omega (arith, low, up, is))
  by_led up i s at (PastCertified below h is) =
      absurd (let low = certs_below below (omega (arith, up, is)) (i, s, at, h) in omega (arith, low, up, is))
  by_led up i s at (PastNullified below (r, h, (view_is, of_epoch)) is) =
      let starts : next_term_start term_length r.view ≡ currents.top = ap (next_term_start term_length) view_is
      ∙ sym is in
      let top : currents.top ≡ view = omega (arith, up) in
      road_by (subst (λ n. Covered term_length epoch network (parent + 1) view n) (starts ∙ top)
      (covered same decides elect term_length epoch some network good (parent + 1) view (omega arith) finals_below
      certs_below (suc r.view) r (omega arith) (i, s, at, h) of_epoch (omega (arith, up, starts))
      (omega (arith, starts, top))))

  road : Road
  road = elim (cases_lt (parent + 1) currents.top) [
    | inr low ↦ no_road (omega (arith, low))
    | inl up ↦ elim currents.has [
      | inl none ↦ absurd (omega (arith, up, none))
      | inr (i, s, at, (x, lives, p, is)) ↦
          (let led = (state_led same decides elect term_length i s (good.honest i s at) x lives).reached in
          by_led up i s at (subst (IsLedTo term_length epoch (trace_of s) (judged_of s)) is
          (subst (λ n. IsLedTo term_length n (trace_of s) (judged_of s) x.current) p.0.of_epoch led)))
    ]
  ]

  -- one member

  abbrev Q : Subject D → Type 0
  Q c = SomeHonest network (HasAccepted c)

  abbrev R : Proposal D → Type 0
  R p = p.round.view ≤ parent

  abbrev given : Round → Type 0
  given r = Contains road.rounds r ⊎ ⊥

  module _ (i : ℕ) (s : Execution K L D) (at : slice_get network i ≡ Some (Honest s)) (x : StateFacts K L D)
      (lives : RunsWith same elect s x) (alive : Lives i x) (below : x.current ≤ currents.top) where
    ran : IsExecution same elect term_length i s
    ran = good.honest i s at

    led : Led term_length (trace_of s) (judged_of s) x
    led = state_led same decides elect term_length i s ran x lives

    shown : Shown term_length s lives.0 x
    shown = end_shown same decides elect term_length i s ran x lives

    epoch_is : x.settings.epoch ≡ epoch
    epoch_is = alive.0.of_epoch

    -- its last finalized view, and that no nullification on the road covers it
    own_final : (x.finalized ≡ 0)
        ⊎ ((p : Proposal D) × HasAccepted (subject.Finalize p) i s × IsInEpoch epoch x.finalized p.round)
    own_final = elim led.final [
      | inl none ↦ inl none
      | inr there ↦ inr (by_certificate (round_of x x.finalized).finalization refl there)
    ]
      where
        by_certificate : (o : Option (ProposalFacts D)) → (round_of x x.finalized).finalization ≡ o → is_some o ≡ true
            → (p : Proposal D) × HasAccepted (subject.Finalize p) i s × IsInEpoch epoch x.finalized p.round
        by_certificate None is some = absurd (false≢true some)
        by_certificate (Some c) is some = (let known = led.rounds.finalized x.finalized c is in
            (c.proposal, known.1, (known.0.0, known.0.1 ∙ epoch_is)))

    final_low : x.finalized ≤ parent
    final_low = elim own_final [
      | inl none ↦ omega (arith, none)
      | inr (p, h, is_in) ↦ parents.most x.finalized
          (inl (i, s, at, ((p, h, is_in), omega (arith, shown.living.keeps.stays.ahead, alive.2))))
    ]

    above_final : (r : Round) → Skips term_length epoch network (parent + 1) view r → x.finalized ≤ r.view
    above_final r skips = elim (cases_lt r.view x.finalized) [
      | inr above ↦ above
      | inl less ↦ elim own_final [
        | inl none ↦ absurd (omega (arith, none, less))
        | inr (p, h, is_in) ↦ absurd (
            let nullified = good.backed skips.accepted.0 skips.accepted.1 (subject.Nullify r) skips.accepted.2
            skips.accepted.3 in
            let uncovered = finalized_uncovered same decides elect term_length network good p r
            (good.backed i s (subject.Finalize p) at h) nullified in
            let within : p.round.view < next_term_start term_length r.view =
            omega (arith, is_in.0, final_low, skips.above) in
            let covering = covers_from term_length r.view p.round.view (omega (arith, less, is_in.0))
            (sym (same_start term_length r.view p.round.view skips.some (omega (arith, less, is_in.0)) within)) in
            false≢true (sym uncovered ∙ covering))
      ]
    ]

    abbrev verdict : Option Bool
    verdict = verdict_of (round_of x parent).certification

    near : Nears term_length epoch (length network) i elector parent view start x.finalized verdict (λ r. ⊥) x
    near = record {
      alive = shown.owns.alive;
      set = alive.0;
      terms = led.terms;
      ahead = shown.living.keeps.stays.ahead;
      passed = refl;
      reached = omega (arith, below);
      untouched = alive.1;
      judged = refl;
      placed = λ c is. (led.rounds.notarized parent c is).0.0;
      known = λ r none. absurd none;
    }

    fits : (r : Round) → Contains road.rounds r → SkipsUpTo Q term_length epoch view start x.finalized r
    fits r h =
        let skips = road.each r h in
        let next = next_above term_length r.view some skips.some in
        record {
          accepted = skips.accepted;
          in_epoch = skips.in_epoch;
          some = skips.some;
          above = above_final r skips;
          low = omega (arith, next, skips.below, view_far);
          next = skips.below;
        }

    abbrev Arrived : StateFacts K L D → Type 0
    Arrived y = Came term_length epoch (length network) i elector parent view start given y

    -- once the nullifications are known
    finishes : (m : MemberFacts K L D) (y : StateFacts K L D) → m.life ≡ Some y
        → Nears term_length epoch (length network) i elector parent view start x.finalized verdict given y
        → Attains same elect Q R Arrived m
    finishes m y there close = elim (cases_eq x.finalized parent) [
      | inl final ↦ stays_there same decides elect Q R term_length epoch (length network) i elector parent view start
          view_far may.small x.finalized verdict given final m y there close
      | inr apart ↦ elim parents.has [
        | inl genesis ↦ absurd (omega (arith, apart, final_low, genesis))
        | inr (inl (j, t, from, ((q, h, (view_is, of_epoch)), low))) ↦
            (let before = parent_before same decides elect term_length network good q
            (inr (good.backed j t (subject.Finalize q) from h)) in
            takes_final same decides elect Q R term_length epoch (length network) i elector parent view start view_far
            may.small q view_is of_epoch before (omega (arith, apart, final_low)) (omega arith)
            (next_before term_length parent start (omega (arith, apart, final_low)) (omega (arith, parent_far))
            may.is_term_start) x.finalized verdict given m y there close final_low (j, t, from, h))
        | inr (inr (j, t, from, ((q, h, (view_is, of_epoch)), low))) ↦
            (let noted = judged_are_notarized same decides elect term_length j t (good.honest j t from) true q h in
            let before = parent_before same decides elect term_length network good q
            (inl (good.backed j t (subject.Notarize q) from noted)) in
            let fine = may.consistent j t from i s at x parent (q, h, (view_is, of_epoch)) lives
            (omega (arith, apart, final_low)) in
            takes_certified same decides elect Q R term_length epoch (length network) i elector parent view start
            view_far may.small q view_is of_epoch before (omega (arith, apart, final_low)) (omega arith)
            (next_before term_length parent start (omega (arith, apart, final_low)) (omega (arith, parent_far))
            may.is_term_start) x.finalized verdict given m y there close final_low
            (not_false (round_of x parent).certification fine) (j, t, from, noted) (λ p is. omega (arith, is)))
      ]
    ]

    comes : Attains same elect Q R Arrived lives.0
    comes = pass_every same decides elect Q R term_length epoch (length network) i elector parent view start view_far
        may.small Arrived x.finalized verdict road.rounds (λ r. ⊥) fits lives.0 x lives.2 near finishes

    abbrev t : Execution K L D
    t = and_calls same elect s comes.calls comes.replies

    t_lives : RunsWith same elect t comes.state
    t_lives = (
      comes.end,
      calls_run same elect term_length i s lives.0 comes.end comes.calls comes.replies lives.1
          comes.run,
      comes.lives,
    )

    t_ran : IsExecution same elect term_length i t
    t_ran = calls_ran same elect term_length i s lives.0 comes.end comes.calls comes.replies lives.1 comes.run ran

    t_trace : trace_of t ≡ trace_of s ++ trace_of_steps {L = L} (map Calls comes.calls) comes.replies
    t_trace = calls_trace same elect term_length i s lives.0 comes.end comes.calls comes.replies lives.1 comes.run

    accepts_only : (c : Subject D) → HasAccepted c i t → Q c
    accepts_only c h = elim (Contains-append_cases (trace_of s)
        (trace_of_steps {L = L} (map Calls comes.calls) comes.replies) (Accepts c)
        (subst (λ ds. Contains ds (Accepts c)) t_trace h)) [ inl old ↦ (i, s, at, old) | inr new ↦ comes.accepts c new ]

    t_finals : (v : ℕ) → v < view → HasFinalized epoch (trace_of t) v → v ≤ parent
    t_finals v less (p, h, is_in) = (let q = accepts_only (subject.Finalize p) h in
        parents.most v (inl (q.0, q.1, q.2, ((p, q.3, is_in), omega (arith, less, view_far)))))

    t_certs : (v : ℕ) → v < view → HasCertified epoch (judged_of t) v → v ≤ parent
    t_certs v less (p, h, is_in) = elim (Contains-append_cases (judged_of s) (judged_in comes.replies) (true, p)
        (subst (λ ps. Contains ps (true, p)) (judged_joined s.replies comes.replies) h)) [
          | inl old ↦ parents.most v (inr (i, s, at, ((p, old, is_in), omega (arith, less, view_far))))
          | inr new ↦ (let low = comes.certifies p new in omega (arith, low, is_in.0))
        ]

    t_shown : Shown term_length t t_lives.0 comes.state
    t_shown = end_shown same decides elect term_length i t t_ran comes.state t_lives

    t_stands : StandsBefore parent view start comes.state
    t_stands = came_stands term_length epoch (length network) i elector parent view start some given (trace_of t)
        (judged_of t) comes.state comes.holds (state_led same decides elect term_length i t t_ran comes.state t_lives)
        (explicit_passed t_shown.living.keeps.stays t_shown.times_out) t_finals t_certs
        (λ v up down. (let r = road.covering v up down in (r.0, inl r.1, r.2)))
        (elim road.skips_to [ inl just ↦ inl just | inr (r, h, is) ↦ inr (r, inl h, is) ])

  -- the member comes to be there
  pub record Joins (i : ℕ) (s t : Execution K L D) : Type 0 where
    continues : ExecutionContinues s t
    ran : IsExecution same elect term_length i t
    accepts : (c : Subject D) → HasAccepted c i t → SomeHonest network (HasAccepted c)
    hears : (v : ℕ) (p : Proposal D) → HasReceived v p t → HasReceived v p s
    trace_stays : (d : TraceEvent D) → Contains (trace_of s) d → Contains (trace_of t) d
    stands : (x : StateFacts K L D) × RunsWith same elect t x
        × (IsSetUpAs epoch (length network) elector i x × StandsBefore parent view start x)

  joins : (i : ℕ) (s : Execution K L D) → slice_get network i ≡ Some (Honest s) → (u : Execution K L D) × Joins i s u
  joins i s at =
      let here = currents.each i s at in
      let x = here.0 in
      let lives = here.1 in
      let alive = here.2.0 in
      let below = here.2.1 in
      let on = comes i s at x lives alive below in (
        t i s at x lives alive below,
        record {
          continues = calls_go_on same elect term_length i s lives.0 on.end on.calls on.replies lives.1 on.run;
          ran = t_ran i s at x lives alive below;
          accepts = accepts_only i s at x lives alive below;
          hears = λ v p h. elim (Contains-append_cases s.steps (map Calls on.calls) (Calls (SetProposal v p)) h)
              [ inl old ↦ old | inr new ↦ absurd (on.hears v p new) ];
          trace_stays = λ d h. subst (λ ds. Contains ds d) (sym (t_trace i s at x lives alive below))
              (Contains-append_left (trace_of s) (trace_of_steps {L = L} (map Calls on.calls) on.replies) d h);
          stands = (on.state, t_lives i s at x lives alive below, (on.holds.set, t_stands i s at x lives alive below));
        },
      )

  -- the network

  pub following : (later : List (Replica K L D)) × ReplicasFollow Joins 0 network later
  following = all_follow Joins 0 network (λ i j s at is.
      (let here : i ≡ j = omega (arith, is) in joins j s (subst (λ n. slice_get network n ≡ Some (Honest s)) here at)))

  abbrev later : List (Replica K L D)
  later = following.0

  many : (length later ≡ length network) × (faults later ≡ faults network)
  many = same_many Joins 0 network later following.1

  before : (i : ℕ) (u : Execution K L D) → slice_get later i ≡ Some (Honest u)
      → (s : Execution K L D) × (slice_get network i ≡ Some (Honest s)) × Joins i s u
  before i u at = was_there Joins 0 network later following.1 i i u at (omega arith)

  still_few : FewFaulty network → FewFaulty later
  still_few (inl (one, bound)) = inl (omega (arith, one, many.0), omega (arith, bound, many.0, many.1))
  still_few (inr fewer) = inr (omega (arith, fewer, many.0, many.1))

  runs_on : IsNetworkOf same elect term_length later
  runs_on = record {
    few_faulty = still_few good.few_faulty;
    honest = λ i u at. (before i u at).2.ran;
    backed = λ i u c at h.
        (let q = (before i u at).2.accepts c h in
        subst (λ n. AtLeastFrom 0 (quorum n) (MayHaveSigned c) later) (sym many.0)
        (backed_still Joins (λ k s v d on. on.trace_stays d) c 0 (quorum (length network)) network later following.1
        (good.backed q.0 q.1 c q.2 q.3)));
  }

  pub meets : Meets same elect term_length epoch elector network later parent view start
  meets = record {
    continues = replicas_follow Joins (λ i s u on. on.continues) 0 network later following.1;
    runs = runs_on;
    certificates = λ i u at c h. inl ((before i u at).2.accepts c h);
    proposals = λ i u at v p h. (let was = before i u at in (i, was.0, was.1, was.2.hears v p h));
    stands = λ i u at. (let was = before i u at in let there = was.2.stands in
        (there.0, there.1, (subst (λ n. IsSetUpAs epoch n elector i there.0) (sym many.0) there.2.0, there.2.1)));
  }

  pub have_met : HaveMet same elect term_length network epoch elector start
  have_met = record {
    later = later;
    parent = parent;
    view = view;
    above = omega arith;
    below = view_far;
    meets = meets;
    by_old = λ i u at c h. (before i u at).2.accepts c h;
    no_higher = λ i s at. (let here = currents.each i s at in (here.0, here.1, omega (arith, here.2.1)));
  }

pub networks_meet : {L D : Type 0} (K : Type 0) (same : D → D → Bool) (decides : (d e : D) → same d e ≡ true → d ≡ e)
    (elect : Elect L) → NetworksMeet K same elect
networks_meet K same decides elect term_length epoch leader start elector network good may =
    let met = have_met same decides elect term_length epoch leader start elector network good may in
    (met.later, met.parent, met.view, met.below, met.meets)
