-- What one member does from an untouched term start on, until the view is finalized.
use Rattle.std.proofs.Common.{◌≡◌, refl, ap, sym, ◌∙◌, subst, inl, ℕ, Bool, true, false, ◌||◌, List, [], ◌∷◌, ◌++◌, append_assoc, map, Some, None}
use Rattle.std.proofs.lemmas.Bool.{eq-eqb}
use Rattle.std.proofs.lemmas.List.{append-nil}
use Rattle.simplex_types.specs.Certificates.{ProposalFacts}
use Rattle.simplex_types.specs.declared.types.messages.Subject.TheVariants as subject
use Rattle.simplex_round.specs.declared.round.Leader.{Leader}
use Rattle.simplex_round.specs.Round.{RoundFacts, is_pending, signs_as}
use Rattle.simplex_voter.specs.Facts.{StateFacts, Elect}
use Rattle.simplex_voter.specs.Parents.{highest_explicit}
use Rattle.simplex_member.specs.CallConditions.{is_allowed, fault_of}
use Rattle.simplex_member.specs.Calls.{CallFacts, ReplyFacts, Added, Requested, Standing, Answered, Judged, SetProposal, TryPropose, Proposed, TryVerify, Verified, ConstructNotarize, AddNotarization, Certified, ConstructFinalize, AddFinalization}
use Rattle.simplex_member.specs.MemberFacts.{MemberFacts, AnswersAlive, IsCall, with_call}
use Rattle.simplex_member.specs.CallSemantics.{answer, after_call, outstanding_work_after}
use Rattle.simplex_member.specs.OutstandingWork.{is_among, is_verifying}
use Rattle.simplex_member.specs.Runs.{StepFacts, Calls, IsRun}
use Rattle.laws_safety.specs.Traces.{TraceEvent, Accepts, Signs, trace_of_call, trace_of_steps}
use Rattle.laws_safety.proofs.votes.OutstandingWork.{among_noted}
use Rattle.laws_progress.proofs.states.AtTermStart.{StandingMember, StandsAtView}
use Rattle.laws_progress.proofs.states.Words.{built_on}
use Rattle.laws_progress.proofs.states.Calls.{with_work, nothing_done, verified, sets_proposal, is_verified, votes, vote_replied, is_notarized, notarization_replied, is_certified, ends, end_replied, takes_finalization, finalization_replied}
use Rattle.laws_progress.proofs.states.Scan.{verify_replied, tries_verify}
use Rattle.laws_progress.proofs.states.LeaderCalls.{built_at, tries_propose, opens, builds_it}

module _ {K L D : Type 0} (same : D → D → Bool) (elect : Elect L) where
  -- the steps run, and this is their trace
  pub record Does (m : MemberFacts K L D) (steps : List (StepFacts K L D)) (trace : List (TraceEvent D)) : Type 0 where
    pub replies : List (ReplyFacts K D)
    pub end : MemberFacts K L D
    pub run : IsRun same elect m steps replies end
    pub does : trace_of_steps steps replies ≡ trace

  -- a living member answers a call that is allowed and not refused
  pub answered : (m : MemberFacts K L D) (x : StateFacts K L D) (call : CallFacts D) → m.life ≡ Some x
      → is_allowed x m.outstanding_work call ≡ true → fault_of x call ≡ None
      → IsCall same elect m call (answer same elect x m.outstanding_work call) (with_call same elect x m call)
  unfolding IsCall
  answered m x call alive allowed none = subst
      (λ life. AnswersAlive same elect life m call (answer same elect x m.outstanding_work call)
      (with_call same elect x m call)) (sym alive) (inl (rw (allowed, none) refl, rw (allowed, none) refl))

  -- calls run one after another, each with its trace
  unfoldable pub Sequence : MemberFacts K L D → List (CallFacts D × List (TraceEvent D)) → Type 0
  Sequence m [] = Unit {0}
  Sequence m (e ∷ rest) = (replied : ReplyFacts K D) × (next : MemberFacts K L D) × IsCall same elect m e.0 replied next
      × (trace_of_call e.0 replied ≡ e.1) × Sequence next rest

  pub ends_there : (m : MemberFacts K L D) → Sequence m []
  unfolding Sequence
  ends_there m = tt

  pub call_then : (m : MemberFacts K L D) (x : StateFacts K L D) (call : CallFacts D) (replied : ReplyFacts K D)
      (rest : List (CallFacts D × List (TraceEvent D))) → m.life ≡ Some x → is_allowed x m.outstanding_work call ≡ true
      → fault_of x call ≡ None → answer same elect x m.outstanding_work call ≡ replied
      → Sequence (with_call same elect x m call) rest → Sequence m ((call, trace_of_call call replied) ∷ rest)
  unfolding Sequence
  call_then m x call replied rest alive allowed none says behind = (
    replied,
    with_call same elect x m call,
    subst (λ t. IsCall same elect m call t (with_call same elect x m call)) says
        (answered m x call alive allowed none),
    refl,
    behind,
  )

-- what a trace calls, and does
module _ {D : Type 0} where
  abbrev pub calls_in : List (CallFacts D × List (TraceEvent D)) → List (CallFacts D)
  calls_in sequence = map (λ e. e.0) sequence

  abbrev pub whole_trace : List (CallFacts D × List (TraceEvent D)) → List (TraceEvent D)
  whole_trace [] = []
  whole_trace (e ∷ rest) = e.1 ++ whole_trace rest

  pub calls_joined : (a b : List (CallFacts D × List (TraceEvent D))) → calls_in (a ++ b) ≡ calls_in a ++ calls_in b
  calls_joined [] b = refl
  calls_joined (e ∷ a) b = ap (λ cs. e.0 ∷ cs) (calls_joined a b)

  pub traces_together : (a b : List (CallFacts D × List (TraceEvent D)))
      → whole_trace (a ++ b) ≡ whole_trace a ++ whole_trace b
  traces_together [] b = refl
  traces_together (e ∷ a) b = ap (λ ds. e.1 ++ ds) (traces_together a b)
      ∙ sym (append_assoc e.1 (whole_trace a) (whole_trace b))

module _ {K L D : Type 0} (same : D → D → Bool) (elect : Elect L) where
  -- the first of two traces runs, and leaves the second
  pub record Parted (m : MemberFacts K L D) (a b : List (CallFacts D × List (TraceEvent D))) : Type 0 where
    pub replies : List (ReplyFacts K D)
    pub end : MemberFacts K L D
    pub run : IsRun same elect m (map Calls (calls_in a)) replies end
    pub does : trace_of_steps {L = L} (map Calls (calls_in a)) replies ≡ whole_trace a
    pub rest : Sequence same elect end b

  pub parted : (a b : List (CallFacts D × List (TraceEvent D))) (m : MemberFacts K L D) → Sequence same elect m (a ++ b)
      → Parted m a b
  unfolding Sequence
  parted [] b m sequence = record { replies = []; end = m; run = refl; does = refl; rest = sequence }
  parted (e ∷ a) b m (replied, next, is_call, done, sequence) =
      let more = parted a b next sequence in
      record {
        replies = replied ∷ more.replies;
        end = more.end;
        run = (next, is_call, more.run);
        does = λ i. done i ++ more.does i;
        rest = more.rest;
      }

  pub does_of : (a : List (CallFacts D × List (TraceEvent D))) (m : MemberFacts K L D) → Sequence same elect m a
      → Does same elect m (map Calls (calls_in a)) (whole_trace a)
  does_of a m sequence =
      let whole = parted a [] m (subst (Sequence same elect m) (sym (append-nil a)) sequence) in
      record { replies = whole.replies; end = whole.end; run = whole.run; does = whole.does }

module _ {D : Type 0} (l : StandingMember D) (q : D) (notarization finalization : List ℕ) where
  -- it votes
  abbrev pub votes_now : List (CallFacts D × List (TraceEvent D))
  votes_now = (ConstructNotarize l.view, Signs l.me (subject.Notarize (built_on l q)) ∷ []) ∷ []

  -- the notarization comes and is certified, and it votes to finalize
  abbrev pub certifies_now : List (CallFacts D × List (TraceEvent D))
  certifies_now = (
    AddNotarization (record { proposal = built_on l q; bytes = notarization }),
    Accepts (subject.Notarize (built_on l q)) ∷ [],
  )
      ∷ (Certified l.view true 0, [])
      ∷ (ConstructFinalize l.view, Signs l.me (subject.Finalize (built_on l q)) ∷ [])
      ∷ []

  -- the finalization comes
  abbrev pub finalizes_now : List (CallFacts D × List (TraceEvent D))
  finalizes_now = (
    AddFinalization (record { proposal = built_on l q; bytes = finalization }) 0,
    Accepts (subject.Finalize (built_on l q)) ∷ [],
  ) ∷ []

  -- a member that does not lead verifies the proposal, and the leader builds it
  abbrev pub verifies_now : List (CallFacts D × List (TraceEvent D))
  verifies_now = (SetProposal l.view (built_on l q), []) ∷ (TryVerify, []) ∷ (Verified l.view, []) ∷ votes_now

  abbrev pub builds_now : List (CallFacts D × List (TraceEvent D))
  builds_now = (TryPropose, []) ∷ (Proposed l.view q 0, []) ∷ votes_now

  -- once the proposal is verified or built
  abbrev pub last_sequence : List (CallFacts D × List (TraceEvent D))
  last_sequence = votes_now ++ certifies_now ++ finalizes_now

  abbrev pub follower_sequence : List (CallFacts D × List (TraceEvent D))
  follower_sequence = verifies_now ++ certifies_now ++ finalizes_now

  abbrev pub leader_sequence : List (CallFacts D × List (TraceEvent D))
  leader_sequence = builds_now ++ certifies_now ++ finalizes_now

-- what it does
abbrev pub trace_done : {D : Type 0} → StandingMember D → D → List (TraceEvent D)
trace_done l q =
    Signs l.me (subject.Notarize (built_on l q))
    ∷ Accepts (subject.Notarize (built_on l q))
    ∷ Signs l.me (subject.Finalize (built_on l q))
    ∷ Accepts (subject.Finalize (built_on l q))
    ∷ []

module _ {K L D : Type 0} (same : D → D → Bool) (elect : Elect L) (reflexive : (d : D) → same d d ≡ true)
    (l : StandingMember D) (q : D) (notarization finalization : List ℕ) where
  module _ (r : RoundFacts K D) (pending : is_pending r.decision ≡ true) (none : r.finalization ≡ None)
      (built : Bool) where
    last_done : (m : MemberFacts K L D) (x : StateFacts K L D) → m.life ≡ Some x
        → StandsAtView l (with_work r (verified built (built_on l q) l.payload)) l.view x
        → Sequence same elect m (last_sequence l q notarization finalization)
    last_done m x alive s =
        let c : ProposalFacts D = record { proposal = built_on l q; bytes = notarization } in
        let o1 = m.outstanding_work in
        let vote = votes same elect reflexive l q r pending x o1 built s in
        let x2 : StateFacts K L D = after_call same elect x o1 (ConstructNotarize l.view) in
        let note = is_notarized same elect reflexive l q r pending x2 o1 built notarization vote.leaves in
        let note_replied = notarization_replied same elect reflexive l q r pending x2 o1 notarization in
        let x3 : StateFacts K L D = after_call same elect x2 o1 (AddNotarization c) in
        let verdict = is_certified same elect reflexive l q r pending x3 o1 built c note.leaves in
        let x4 : StateFacts K L D = after_call same elect x3 o1 (Certified l.view true 0) in
        let o4 = outstanding_work_after same elect x3 o1 (Certified l.view true 0) in
        let last = ends same elect reflexive l q r pending x4 o4 built c none verdict.leaves in
        let x5 : StateFacts K L D = after_call same elect x4 o4 (ConstructFinalize l.view) in
        let final = takes_finalization same elect reflexive l q r pending x5 o4 _ finalization last.leaves in
        let final_replied = finalization_replied same elect reflexive l q r pending x5 o4 finalization in
        call_then same elect m x _ _ _ alive vote.allowed vote.no_fault
        (vote_replied same elect reflexive l q r pending x o1 built s)
        (call_then same elect _ x2 _
        (Added note_replied.0 note_replied.1) _ refl note.allowed note.no_fault note_replied.2
        (call_then same elect _ x3 _ (Judged true _) _ refl verdict.allowed verdict.no_fault refl
        (call_then same elect _ x4 _ _ _ refl last.allowed last.no_fault
        (end_replied same elect reflexive l q r pending x4 o4 built c none verdict.leaves)
        (call_then same elect _ x5 _ (Added final_replied.0 final_replied.1) _ refl final.0 final.1 final_replied.2
        (ends_there same elect _)))))

  module _ (r : RoundFacts K D) (pending : is_pending r.decision ≡ true) (none : r.finalization ≡ None)
      (lead : Leader K) (leads : r.leader ≡ Some lead)
      (m : MemberFacts K L D) (x : StateFacts K L D) (alive : m.life ≡ Some x)
      (s : StandsAtView l (with_work r nothing_done) l.view x) where
    -- a member that does not lead verifies the proposal
    pub follower_done : signs_as r.me lead.idx ≡ false
        → Sequence same elect m (follower_sequence l q notarization finalization)
    follower_done other =
        let p = built_on l q in
        let o = m.outstanding_work in
        let hears = sets_proposal same elect reflexive l q r pending x o s in
        let x1 : StateFacts K L D = after_call same elect x o (SetProposal l.view p) in
        let tries = tries_verify same elect reflexive l q r pending lead leads other x1 hears.leaves o in
        let x2 : StateFacts K L D = after_call same elect x1 o TryVerify in
        let o2 = outstanding_work_after same elect x1 o TryVerify in
        let opened : is_verifying o2 l.view ≡ true =
        rw (verify_replied same elect reflexive l q r pending lead leads other x1 hears.leaves)
        (among_noted l.view l.view o.verifying
        ∙ ap (λ b. b || is_among l.view o.verifying) (eq-eqb l.view l.view refl)) in
        let finds = is_verified same elect reflexive l q r pending x2 o2 opened tries.leaves in
        call_then same elect m x _ (Answered _) _ alive hears.allowed hears.no_fault refl
        (call_then same elect _ x1 _ (Standing _) _ refl tries.allowed tries.no_fault refl
        (call_then same elect _ x2 _ (Answered _) _ refl finds.allowed finds.no_fault refl
        (last_done r pending none false _ _ refl finds.leaves)))

    -- the leader builds it
    pub leader_done : signs_as r.me lead.idx ≡ true → highest_explicit x l.view ≡ Some (l.parent, l.payload)
        → Sequence same elect m (leader_sequence l q notarization finalization)
    leader_done own builds =
        let o = m.outstanding_work in
        let asks = tries_propose same elect reflexive l q r pending lead leads own x s builds o in
        let x1 : StateFacts K L D = after_call same elect x o TryPropose in
        let o1 = outstanding_work_after same elect x o TryPropose in
        let makes = builds_it same elect reflexive l q r pending lead leads own x1 asks.leaves o1
        (opens same elect reflexive l q r pending lead leads own x s builds o) in
        call_then same elect m x _ (Requested _) _ alive asks.allowed asks.no_fault refl
        (call_then same elect _ x1 _ (Answered _) _ refl makes.allowed makes.no_fault refl
        (last_done (built_at r 0) pending none true _ _ refl makes.leaves))
