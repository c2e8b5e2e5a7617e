-- The execution of a host's member, lifetime by lifetime.
use Rattle.std.proofs.Common.{◌≡◌, ◌⊎◌, inl, inr, ℕ, Bool, List, [], ◌∷◌, ◌++◌, Option, Some, None, Ok, refl, ap, sym, subst, ◌∙◌, append_assoc, append-nil, arith}
use Rattle.std.specs.Prelude.{Contains}
use Rattle.std.proofs.lemmas.List.Elements.{Contains-append_left, Contains-append_right, Contains-append_cases}
use Rattle.simplex_types.specs.declared.types.messages.Subject.{Subject}
use Rattle.simplex_types.specs.declared.types.window.Terms.{Terms}
use Rattle.simplex_voter.specs.Facts.{Elect}
use Rattle.simplex_record.specs.Entries.{entries_of}
use Rattle.simplex_record.specs.Recovery.{recover_error}
use Rattle.simplex_record.specs.Start.{StartFacts, start_facts, new_state}
use Rattle.simplex_member.specs.Calls.{ReplyFacts, Restarted}
use Rattle.simplex_member.specs.Journal.{stored_of, whole_restart}
use Rattle.simplex_member.specs.MemberFacts.{MemberFacts}
use Rattle.simplex_member.specs.Restarts.{RestartFacts}
use Rattle.simplex_member.specs.Runs.{StepFacts, Restarts, IsRun}
use Rattle.simplex_member.specs.declared.member.journal.Stored.{Stored}
use Rattle.laws_safety.specs.Executions.{new_member, Execution, trace_of, BeginsAs}
use Rattle.laws_safety.specs.MemberHistory.{new_execution, HasExecution}
use Rattle.laws_safety.specs.ObservedTraces.{floor_in, StartsAs}
use Rattle.laws_safety.specs.Traces.{TraceEvent, Accepts, Signs, of_floor, trace_of_steps}
use Rattle.laws_safety.proofs.executions.ExecutionSteps.{begin_execution}
use Rattle.laws_safety.proofs.executions.Shown.{begins_as, start_shown}
use Rattle.laws_safety.proofs.lists.Splits.{Contains-cons_rest, only_one}
use Rattle.laws_safety.proofs.records.Resumes.{resumed_restart}
use Rattle.laws_progress.proofs.runs.Onward.{run_joined, traces_joined}
use Rattle.laws_chains.specs.Offers.{IsRunOnOffers}
use Rattle.laws_chains.specs.Parents.{EachLifetime}
use Rattle.engine_votes.specs.declared.votes.Vote.{Vote}
use Rattle.engine_outbox.specs.Journals.{journal_of}
use Rattle.engine_outbox.specs.declared.output.Output.{Output}
use Rattle.engine_outbox.specs.declared.output.Output.TheVariants as output
use Rattle.laws_hosts.specs.Processes.{Process, carried_by}
use Rattle.laws_hosts.proofs.CallTraces.{none_in, here, AcceptsGood, good_both}
use Rattle.laws_finals.specs.HostMembers.{IsSetUpByOne}
use Rattle.laws_finals.specs.HostLifetimes.{Lifetime, trace_in, BeginsFrom, IsLifetime, StopsWithinLifetimes}

-- runs on offers

module _ {K L D : Type 0} (same : D → D → Bool) (elect : Elect L) where
  pub run_of : (m end : MemberFacts K L D) (steps : List (StepFacts K L D)) (replies : List (ReplyFacts K D))
      → IsRunOnOffers same elect m steps replies end → IsRun same elect m steps replies end
  run_of m end [] [] run = run
  run_of m end [] (replied ∷ replies) run = absurd run
  run_of m end (step ∷ steps) [] run = absurd run
  run_of m end (step ∷ steps) (replied ∷ replies) (on_offer, next, is_step, run) =
      (next, is_step, run_of next end steps replies run)

  offers_joined : (first middle last : MemberFacts K L D) (steps more : List (StepFacts K L D))
      (replies others : List (ReplyFacts K D)) → IsRunOnOffers same elect first steps replies middle
      → IsRunOnOffers same elect middle more others last
      → IsRunOnOffers same elect first (steps ++ more) (replies ++ others) last
  offers_joined first middle last [] more [] others is later =
      subst (λ m. IsRunOnOffers same elect m more others last) (sym is) later
  offers_joined first middle last [] more (reply ∷ replies) others is later = absurd is
  offers_joined first middle last (step ∷ steps) more [] others is later = absurd is
  offers_joined first middle last (step ∷ steps) more (reply ∷ replies) others (on_offer, next, is_step, run) later =
      (on_offer, next, is_step, offers_joined next middle last steps more replies others run later)

module _ {S L D K G C : Type 0} (same : D → D → Bool) (elect : Elect L) (bytes_of : C → List ℕ) (keys_of : S → List K)
    (me : S → Option ℕ) (terms : L → Terms) (elects_early : L → Bool) (MayExist : Subject D → Type 0)
    (term_length i : ℕ) (all : List (Process S L D K G C)) where
  abbrev start_of : Process S L D K G C → StartFacts K L D
  start_of process = start_facts me keys_of terms elects_early bytes_of process.start

  abbrev restart_of : Process S L D K G C → RestartFacts K L D
  restart_of process = whole_restart (start_of process)

  -- an execution that leads to this member: each lifetime is set up as one of the processes, each verdict is on an
  -- offer, and each certificate that was accepted may exist
  pub record IsMadeOf (m : MemberFacts K L D) (s : Execution K L D) : Type 0 where
    pub has : HasExecution same elect term_length i s m
    pub on_offers : IsRunOnOffers same elect (new_member same elect s.start) s.steps s.replies m
    pub set_up : EachLifetime (IsSetUpByOne keys_of me terms elects_early all) s
    pub good : AcceptsGood MayExist (trace_of s)

  abbrev with_more : Execution K L D → List (StepFacts K L D) → List (ReplyFacts K D) → Execution K L D
  with_more s steps replies = record s { steps = s.steps ++ steps; replies = s.replies ++ replies }

  trace_grows : (m : MemberFacts K L D) (s : Execution K L D) (steps : List (StepFacts K L D))
      (replies : List (ReplyFacts K D)) → IsMadeOf m s
      → trace_of (with_more s steps replies) ≡ trace_of s ++ trace_of_steps steps replies
  trace_grows m s steps replies is =
      ap (λ ds. of_floor s.start.floor ++ ds)
      (traces_joined same elect s.steps steps s.replies replies (new_member same elect s.start) m is.has.run)
      ∙ sym (append_assoc (of_floor s.start.floor) (trace_of_steps s.steps s.replies) (trace_of_steps steps replies))

  -- a restart among these steps begins as one of the processes
  abbrev RestartsAsOne : List (StepFacts K L D) → Type 0
  RestartsAsOne steps = (r : RestartFacts K L D) → Contains steps (Restarts r)
      → BeginsAs term_length i r.start.setup × IsSetUpByOne keys_of me terms elects_early all r.start.setup

  more_made : (m end : MemberFacts K L D) (s : Execution K L D) (steps : List (StepFacts K L D))
      (replies : List (ReplyFacts K D)) → IsMadeOf m s → IsRunOnOffers same elect m steps replies end
      → RestartsAsOne steps → AcceptsGood MayExist (trace_of_steps steps replies)
      → IsMadeOf end (with_more s steps replies)
  more_made m end s steps replies is run restarts good = record {
    has = record {
      lives = record {
        first = is.has.lives.first;
        later = λ r h. elim (Contains-append_cases s.steps steps (Restarts r) h)
            [ inl old ↦ is.has.lives.later r old | inr new ↦ (restarts r new).0 ];
      };
      accepted = is.has.accepted;
      run = run_joined same elect s.steps steps s.replies replies (new_member same elect s.start) m end is.has.run
          (run_of same elect m end steps replies run);
    };
    on_offers = offers_joined same elect (new_member same elect s.start) m end s.steps steps s.replies replies
        is.on_offers run;
    set_up = record {
      first = is.set_up.first;
      later = λ r h. elim (Contains-append_cases s.steps steps (Restarts r) h)
          [ inl old ↦ is.set_up.later r old | inr new ↦ (restarts r new).1 ];
    };
    good = subst (AcceptsGood MayExist) (sym (trace_grows m s steps replies is))
        (good_both MayExist (trace_of s) (trace_of_steps steps replies) is.good good);
  }

  -- the votes of these outputs were signed
  abbrev AreSignedIn : List (Output S D Stored K G C) → List (TraceEvent D) → Type 0
  AreSignedIn carried trace = (vote : Vote D G) → Contains carried (output.Vote vote)
      → Contains trace (Signs vote.signer vote.subject)

  -- an execution that signed the votes of these outputs, and did `earlier`
  pub record IsAt (earlier : List (TraceEvent D)) (before : List (Output S D Stored K G C)) (m : MemberFacts K L D)
      : Type 0 where
    pub s : Execution K L D
    pub made : IsMadeOf m s
    pub did : (d : TraceEvent D) → Contains earlier d → Contains (trace_of s) d
    pub votes : AreSignedIn before (trace_of s)

  -- besides, the journal that the outputs have written holds the member's record
  pub record IsStopped (earlier : List (TraceEvent D)) (before : List (Output S D Stored K G C)) : Type 0 where
    pub m : MemberFacts K L D
    pub at : IsAt earlier before m
    pub entries : entries_of bytes_of (journal_of before).entries ≡ m.entries
    pub beside : (journal_of before).beside ≡ Some (stored_of m)

  -- nothing was carried out, or the journal holds such a record
  abbrev IsBetween : List (TraceEvent D) → List (Output S D Stored K G C) → Type 0
  IsBetween earlier before = ((earlier ≡ []) × (before ≡ [])) ⊎ IsStopped earlier before

  -- what is known of a process
  pub record IsKnown (process : Process S L D K G C) : Type 0 where
    pub among : Contains all process
    pub starts : StartsAs me terms term_length i process.start
    pub floor : AcceptsGood MayExist (floor_in process.start.floor)

  floor_good : (process : Process S L D K G C) → IsKnown process
      → AcceptsGood MayExist (of_floor (start_of process).floor)
  floor_good process known =
      subst (AcceptsGood MayExist) (sym (start_shown me keys_of terms elects_early bytes_of process.start)) known.floor

  begins : (process : Process S L D K G C) → IsKnown process → BeginsAs term_length i (start_of process).setup
  begins process known = begins_as me keys_of terms elects_early bytes_of term_length i process.start known.starts

  -- a process begins

  -- nothing is in two empty lists
  emptied : (trace : List (TraceEvent D)) → AcceptsGood MayExist trace → AcceptsGood MayExist (trace ++ [])
  emptied trace good = subst (AcceptsGood MayExist) (sym (append-nil trace)) good

  newly : (earlier : List (TraceEvent D)) (before : List (Output S D Stored K G C)) (process : Process S L D K G C)
      (m : MemberFacts K L D) → IsKnown process → earlier ≡ [] → before ≡ []
      → recover_error same (new_state (start_of process).setup) (start_of process).floor (start_of process).now []
      ≡ None
      → m ≡ new_member same elect (start_of process) → IsAt earlier before m
  newly earlier before process m known no_trace no_outputs accepted is = record {
    s = new_execution (start_of process);
    made = record {
      has = begin_execution same elect term_length i (start_of process) m (begins process known) accepted is;
      on_offers = sym is;
      set_up = record { first = (process, known.among, refl); later = λ r h. absurd (omega (arith, h.1)) };
      good = emptied (of_floor (start_of process).floor) (floor_good process known);
    };
    did = λ d h. none_in d (subst (λ ds. Contains ds d) no_trace h);
    votes = λ vote h. none_in (output.Vote vote) (subst (λ outs. Contains outs (output.Vote vote)) no_outputs h);
  }

  again : (earlier : List (TraceEvent D)) (before : List (Output S D Stored K G C)) (process : Process S L D K G C)
      (m : MemberFacts K L D) (stop : IsStopped earlier before) → IsKnown process
      → BeginsFrom same elect bytes_of (Some (stored_of stop.m)) (journal_of before).entries (start_of process) m
      → IsAt earlier before m
  again earlier before process m stop known resumed =
      let s = stop.at.s in
      let steps : List (StepFacts K L D) = Restarts (restart_of process) ∷ [] in
      let replies : List (ReplyFacts K D) = Restarted ∷ [] in
      let restarts = resumed_restart same elect (start_of process) (stored_of stop.m)
      (entries_of bytes_of (journal_of before).entries) stop.m m refl (sym stop.entries) resumed in
      let whole = trace_grows stop.m s steps replies stop.at.made in
      let kept : (d : TraceEvent D) → Contains (trace_of s) d → Contains (trace_of (with_more s steps replies)) d =
      λ d h. subst (λ ds. Contains ds d) (sym whole)
      (Contains-append_left (trace_of s) (trace_of_steps steps replies) d h) in
      let floor = of_floor (start_of process).floor in
      record {
        s = with_more s steps replies;
        made = more_made stop.m m s steps replies stop.at.made (tt, m, (Ok tt, restarts, refl), refl)
            (λ r h. as_one (restart_of process) r (only_one (Restarts (restart_of process)) (Restarts r) h)
            (begins process known, (process, known.among, refl)))
            (emptied (floor ++ []) (emptied floor (floor_good process known)));
        did = λ d h. kept d (stop.at.did d h);
        votes = λ vote h. kept (Signs vote.signer vote.subject) (stop.at.votes vote h);
      }
    where
      as_one : (q r : RestartFacts K L D) → Restarts q ≡ Restarts r
          → BeginsAs term_length i q.start.setup × IsSetUpByOne keys_of me terms elects_early all q.start.setup
          → BeginsAs term_length i r.start.setup × IsSetUpByOne keys_of me terms elects_early all r.start.setup
      as_one q r is holds =
          let one : q ≡ r = cc in
          subst (λ (p : RestartFacts K L D). BeginsAs term_length i p.start.setup
          × IsSetUpByOne keys_of me terms elects_early all p.start.setup) one holds

  begun : (earlier : List (TraceEvent D)) (before : List (Output S D Stored K G C)) (process : Process S L D K G C)
      → IsKnown process
      → BeginsFrom same elect bytes_of (journal_of before).beside (journal_of before).entries (start_of process)
      process.first.core.member.facts
      → IsBetween earlier before → IsAt earlier before process.first.core.member.facts
  begun earlier before process known from (inl (no_trace, no_outputs)) =
      let m = process.first.core.member.facts in
      let new = subst (λ outs. BeginsFrom same elect bytes_of (journal_of outs).beside (journal_of outs).entries
      (start_of process) m) no_outputs from in
      newly earlier before process m known no_trace no_outputs new.0 new.1
  begun earlier before process known from (inr stop) =
      let m = process.first.core.member.facts in
      again earlier before process m stop known
      (subst (λ beside. BeginsFrom same elect bytes_of beside (journal_of before).entries (start_of process) m)
      stop.beside from)

  -- a host stops within the lifetime
  lived : (earlier : List (TraceEvent D)) (before : List (Output S D Stored K G C)) (process : Process S L D K G C)
      (life : Lifetime K L D) → IsAt earlier before process.first.core.member.facts
      → IsLifetime same elect bytes_of MayExist earlier before process life
      → IsStopped (earlier ++ trace_in life) (before ++ process.carried)
  lived earlier before process life at is =
      let m = process.first.core.member.facts in
      let s = at.s in
      let whole = trace_grows m s life.steps life.replies at.made in
      let kept : (d : TraceEvent D) → Contains (trace_of s) d
      → Contains (trace_of (with_more s life.steps life.replies)) d =
      λ d h. subst (λ ds. Contains ds d) (sym whole) (Contains-append_left (trace_of s) (trace_in life) d h) in
      let added : (d : TraceEvent D) → Contains (trace_in life) d
      → Contains (trace_of (with_more s life.steps life.replies)) d =
      λ d h. subst (λ ds. Contains ds d) (sym whole) (Contains-append_right (trace_of s) (trace_in life) d h) in
      let did : (d : TraceEvent D) → Contains (earlier ++ trace_in life) d
      → Contains (trace_of (with_more s life.steps life.replies)) d =
      λ d h. elim (Contains-append_cases earlier (trace_in life) d h)
      [ inl old ↦ kept d (at.did d old) | inr new ↦ added d new ] in
      record {
        m = life.left;
        at = record {
          s = with_more s life.steps life.replies;
          made = more_made m life.left s life.steps life.replies at.made is.run (λ r h. absurd (is.one r h))
              is.certificates;
          did = did;
          votes = λ vote h. elim (Contains-append_cases before process.carried (output.Vote vote) h) [
            | inl old ↦ kept (Signs vote.signer vote.subject) (at.votes vote old)
            | inr new ↦ did (Signs vote.signer vote.subject) (is.votes vote new)
          ];
        };
        entries = is.entries;
        beside = is.beside;
      }

  -- after all processes

  pub record HasLived (carried : List (Output S D Stored K G C)) : Type 0 where
    pub m : MemberFacts K L D
    pub s : Execution K L D
    pub made : IsMadeOf m s
    pub votes : AreSignedIn carried (trace_of s)

  abbrev has_lived : (earlier : List (TraceEvent D)) (before : List (Output S D Stored K G C)) (m : MemberFacts K L D)
      → IsAt earlier before m → HasLived before
  has_lived earlier before m at = record { m = m; s = at.s; made = at.made; votes = at.votes }

  nothing_more : (before carried : List (Output S D Stored K G C)) → carried ≡ [] → before ≡ before ++ carried
  nothing_more before carried none = sym (ap (λ outs. before ++ outs) none ∙ append-nil before)

  pub all_lived : (process : Process S L D K G C) (rest : List (Process S L D K G C)) (earlier : List (TraceEvent D))
      (before : List (Output S D Stored K G C))
      → ((p : Process S L D K G C) → Contains (process ∷ rest) p → IsKnown p)
      → StopsWithinLifetimes same elect bytes_of keys_of me terms elects_early MayExist earlier before (process ∷ rest)
      → IsBetween earlier before → HasLived (before ++ carried_by (process ∷ rest))
  all_lived process [] earlier before known (from, inl (none, rest_lives)) between =
      let at = begun earlier before process (known process (here process [])) from between in
      subst HasLived (nothing_more before (process.carried ++ []) (append-nil process.carried ∙ none))
      (has_lived earlier before process.first.core.member.facts at)
  all_lived process (next ∷ rest) earlier before known (from, inl (none, rest_lives)) between =
      let later = all_lived next rest earlier before
      (λ p h. known p (Contains-cons_rest process (next ∷ rest) p h)) rest_lives between in
      subst HasLived (ap (λ outs. before ++ (outs ++ carried_by (next ∷ rest))) (sym none)) later
  all_lived process [] earlier before known (from, inr (life, is, rest_lives)) between =
      let at = begun earlier before process (known process (here process [])) from between in
      let stop = lived earlier before process life at is in
      subst HasLived (ap (λ outs. before ++ outs) (sym (append-nil process.carried)))
      (has_lived (earlier ++ trace_in life) (before ++ process.carried) stop.m stop.at)
  all_lived process (next ∷ rest) earlier before known (from, inr (life, is, rest_lives)) between =
      let at = begun earlier before process (known process (here process (next ∷ rest))) from between in
      let stop = lived earlier before process life at is in
      subst HasLived (append_assoc before process.carried (carried_by (next ∷ rest)))
      (all_lived next rest (earlier ++ trace_in life) (before ++ process.carried)
      (λ p h. known p (Contains-cons_rest process (next ∷ rest) p h)) rest_lives (inr stop))
