-- All that an honest host's member has done, over all its processes.
use Rattle.std.proofs.Common.{◌≡◌, ◌⊎◌, inl, inr, ℕ, Bool, true, List, [], ◌∷◌, ◌++◌, length, Option, refl, ap, sym, subst, ◌∙◌, append_assoc, append-nil}
use Rattle.std.specs.Prelude.{Contains}
use Rattle.std.proofs.lemmas.List.Elements.{Contains-append_left, Contains-append_cases}
use Rattle.simplex_types.specs.declared.types.messages.Proposal.{Proposal}
use Rattle.simplex_types.specs.declared.types.messages.Subject.{Subject}
use Rattle.simplex_types.specs.declared.types.messages.Subject.TheVariants as subject
use Rattle.simplex_types.specs.declared.types.window.Terms.{Terms}
use Rattle.simplex_voter.specs.Facts.{Elect}
use Rattle.simplex_member.specs.MemberFacts.{MemberFacts, SignedMember}
use Rattle.simplex_member.specs.declared.member.journal.Stored.{Stored}
use Rattle.laws_safety.specs.MemberHistory.{HasHistory}
use Rattle.laws_safety.specs.ObservedTraces.{floor_in, StartsAs}
use Rattle.laws_safety.specs.Traces.{TraceEvent, Accepts, Signs}
use Rattle.laws_safety.proofs.executions.ExecutionSteps.{done_lawful}
use Rattle.laws_safety.proofs.lists.Splits.{Contains-cons_rest}
use Rattle.engine_votes.specs.declared.votes.Vote.{Vote}
use Rattle.engine_outbox.specs.Finalizations.{finals_in}
use Rattle.engine_outbox.specs.HostStops.{votes_recorded, WereSigned, EachStopIsLawful}
use Rattle.engine_outbox.specs.Journals.{journal_of, IsRecordOf}
use Rattle.engine_outbox.specs.declared.output.Output.{Output}
use Rattle.engine_outbox.specs.declared.output.Output.TheVariants as output
use Rattle.engine_outbox.proofs.EmittedVotes.{all_signed, was_stored}
use Rattle.engine_outbox.proofs.Finalizations.{finalized_in-append}
use Rattle.engine_outbox.proofs.HostStops.{lawful_stops, signed_still}
use Rattle.laws_hosts.specs.EngineCalls.{outputs_of}
use Rattle.laws_hosts.specs.HostVotes.{EachHostKeepsRules}
use Rattle.laws_hosts.specs.Processes.{Process, carried_by, MemberBegins, IsProcess, AreProcesses}
use Rattle.laws_hosts.proofs.CallTraces.{none_in, here, AcceptsGood, good_both, QuorumsAreGood, PassesGood, called}
use Rattle.laws_hosts.proofs.Stops.{final_returned, among_finals, HasStopped, stopped}

module _ {S D K G C : Type 0} (IsGood : Subject D → Type 0) where
  -- each proposal that was carried out as final has a good certificate
  abbrev pub FinalsAreGood : List (Output S D Stored K G C) → Type 0
  FinalsAreGood carried = (p : Proposal D) → Contains carried (output.Finalized p) → IsGood (subject.Finalize p)

module _ {S L D K G C : Type 0} (same : D → D → Bool) (elect : Elect L) (bytes_of : C → List ℕ)
    (IsGood : Subject D → Type 0) (term_length i : ℕ) where
  -- a member that has done all this, of a host that has carried these outputs out: it has signed each vote among them,
  -- and each certificate
  -- that it accepted is good
  pub record HasDone (carried : List (Output S D Stored K G C)) (all : List (TraceEvent D))
      (facts : MemberFacts K L D) : Type 0 where
    pub done : HasHistory same elect term_length i all facts
    pub votes : (vote : Vote D G) → Contains carried (output.Vote vote) → Contains all (Signs vote.signer vote.subject)
    pub good : AcceptsGood IsGood all

  -- the journal that the outputs have written is the record of such a member
  pub record IsStored (carried : List (Output S D Stored K G C)) : Type 0 where
    pub member : SignedMember K L D G
    pub all : List (TraceEvent D)
    pub has : HasDone carried all member.facts
    pub holds : IsRecordOf bytes_of member (journal_of carried)
    pub recorded : WereSigned all (votes_recorded member.votes)

  -- nothing was carried out, or a record was stored
  abbrev pub IsStoredIfAny : List (Output S D Stored K G C) → Type 0
  IsStoredIfAny carried = (carried ≡ []) ⊎ IsStored carried

  -- after at least one process
  pub record HasRun (carried : List (Output S D Stored K G C)) : Type 0 where
    pub all : List (TraceEvent D)
    pub facts : MemberFacts K L D
    pub has : HasDone carried all facts
    pub stored : IsStoredIfAny carried
    pub finals : FinalsAreGood IsGood carried

  -- a member begins that has done all this
  pub record HasBegun (before : List (Output S D Stored K G C)) (member : SignedMember K L D G) : Type 0 where
    pub all : List (TraceEvent D)
    pub has : HasDone before all member.facts
    pub recorded : WereSigned all (votes_recorded member.votes)

module _ {S L D K G C : Type 0} (bytes_of : C → List ℕ) (IsSent : Vote D G → Type 0) (IsGood : Subject D → Type 0) where
  -- what a host passed in a process was sent, or is good, also the floor
  pub record PassesAllGood (process : Process S L D K G C) : Type 0 where
    pub calls : PassesGood bytes_of IsSent IsGood process.calls
    pub floor : AcceptsGood IsGood (floor_in process.start.floor)

module _ {S L D K G C : Type 0} (same : D → D → Bool) (elect : Elect L) (bytes_of : C → List ℕ)
    (is_signature : K → Subject D → G → Type 0)
    (keys_of : S → List K) (me : S → Option ℕ) (terms : L → Terms) (members : ℕ) (IsSent : Vote D G → Type 0)
    (IsGood : Subject D → Type 0) (term_length i : ℕ) where
  begun : (before : List (Output S D Stored K G C)) (process : Process S L D K G C)
      → StartsAs me terms term_length i process.start → AcceptsGood IsGood (floor_in process.start.floor)
      → MemberBegins same elect bytes_of keys_of me terms (journal_of before).beside (journal_of before).entries
      process.start process.first.core.member
      → IsStoredIfAny same elect bytes_of IsGood term_length i before
      → HasBegun same elect bytes_of IsGood term_length i before process.first.core.member
  begun before process starts good begins (inl none) =
      let member = process.first.core.member in
      let started = subst (λ outs. MemberBegins same elect bytes_of keys_of me terms (journal_of outs).beside
      (journal_of outs).entries process.start member) none begins in
      record {
        all = floor_in process.start.floor;
        has = record {
          done = started.0 term_length i starts;
          votes = λ vote has. none_in (output.Vote vote) (subst (λ outs. Contains outs (output.Vote vote)) none has);
          good = good;
        };
        recorded = λ vote has. none_in vote (subst (λ vs. Contains (votes_recorded vs) vote) started.1 has);
      }
  begun before process starts good begins (inr stored) =
      let member = process.first.core.member in
      let floor = floor_in process.start.floor in
      let entries = (journal_of before).entries in
      let resumed = subst (λ b. MemberBegins same elect bytes_of keys_of me terms b entries process.start member)
      stored.holds.beside begins in
      record {
        all = stored.all ++ floor;
        has = record {
          done = resumed.0 stored.member.facts refl (sym stored.holds.entries) term_length i stored.all starts
              stored.has.done;
          votes = λ vote has. Contains-append_left stored.all floor (Signs vote.signer vote.subject)
              (stored.has.votes vote has);
          good = good_both IsGood stored.all floor stored.has.good good;
        };
        recorded = signed_still stored.all floor (votes_recorded member.votes)
            (subst (λ vs. WereSigned stored.all (votes_recorded vs)) (sym (resumed.1 ∙ stored.holds.votes))
            stored.recorded);
      }

  -- nothing was carried out in a process
  unchanged : (before carried : List (Output S D Stored K G C)) (member : SignedMember K L D G) → carried ≡ []
      → HasBegun same elect bytes_of IsGood term_length i before member → FinalsAreGood IsGood before
      → IsStoredIfAny same elect bytes_of IsGood term_length i before
      → HasRun same elect bytes_of IsGood term_length i (before ++ carried)
  unchanged before carried member none from finals stored =
      let nothing : before ≡ before ++ carried = sym (ap (λ outs. before ++ outs) none ∙ append-nil before) in
      subst (HasRun same elect bytes_of IsGood term_length i) nothing
      (record { all = from.all; facts = member.facts; has = from.has; stored = stored; finals = finals })

  finals_both : (before carried : List (Output S D Stored K G C)) → FinalsAreGood IsGood before
      → FinalsAreGood IsGood carried → FinalsAreGood IsGood (before ++ carried)
  finals_both before carried first second p has =
      elim (Contains-append_cases before carried (output.Finalized p) has)
      [ inl one ↦ first p one | inr other ↦ second p other ]

  -- a host stopped after it carried something out
  changed : (before carried : List (Output S D Stored K G C)) (earlier all : List (TraceEvent D))
      → ((vote : Vote D G) → Contains before (output.Vote vote) → Contains earlier (Signs vote.signer vote.subject))
      → AcceptsGood IsGood all → FinalsAreGood IsGood (before ++ carried)
      → HasStopped same elect bytes_of term_length i earlier all carried
      → HasRun same elect bytes_of IsGood term_length i (before ++ carried)
  changed before carried earlier all votes good finals stop =
      let may = stop.lawful.may in
      let done = earlier ++ may.since in
      let journal : journal_of (before ++ carried) ≡ journal_of carried = stop.fresh before in
      let has : HasDone same elect bytes_of IsGood term_length i (before ++ carried) done may.member.facts = record {
        done = may.done;
        votes = λ vote among. elim (Contains-append_cases before carried (output.Vote vote) among) [
          | inl old ↦ Contains-append_left earlier may.since (Signs vote.signer vote.subject) (votes vote old)
          | inr new ↦ stop.lawful.votes vote new
        ];
        good = λ c among. good c (subst (λ xs. Contains xs (Accepts c)) (sym may.is_all)
            (Contains-append_left done may.later (Accepts c) among));
      } in
      record {
        all = done;
        facts = may.member.facts;
        has = has;
        stored = inr (record {
          member = may.member;
          all = done;
          has = has;
          holds = subst (IsRecordOf bytes_of may.member) (sym journal) may.holds;
          recorded = λ vote among. may.signed vote (was_stored carried vote
              (subst (λ vs. Contains vs vote)
              (ap votes_recorded (sym may.holds.votes) ∙ sym (all_signed (journal_of carried).entries)) among));
        });
        finals = finals;
      }

  -- over one process
  processed : QuorumsAreGood members IsSent IsGood
      → (before : List (Output S D Stored K G C)) (process : Process S L D K G C)
      → IsProcess same elect bytes_of is_signature keys_of me terms term_length i members (journal_of before) process
      → PassesAllGood bytes_of IsSent IsGood process → FinalsAreGood IsGood before
      → IsStoredIfAny same elect bytes_of IsGood term_length i before
      → HasRun same elect bytes_of IsGood term_length i (before ++ process.carried)
  processed quorums before process is passes finals stored =
      let member = process.first.core.member in
      let from : HasBegun same elect bytes_of IsGood term_length i before member =
      begun before process is.starts passes.floor is.begins.member stored in
      let at = called same elect bytes_of is_signature keys_of members IsSent IsGood term_length i from.all quorums
      process.calls [] process.first process.last passes.calls is.runs (record {
        all = from.all;
        traced = is.begins.traced term_length i from.all from.has.done from.recorded;
        good = from.has.good;
        votes = [];
        are_given = is.begins.votes;
        are_sent = λ vote has. none_in vote has;
        members_are = ap length is.begins.keys ∙ is.members_are;
      }) in
      let outs = outputs_of process.calls in
      let queue = process.last.core.outbox.queue.items in
      let each : EachStopIsLawful same elect bytes_of term_length i from.all at.all (outs ++ queue) =
      lawful_stops same elect bytes_of term_length i from.all at.all (outs ++ queue) at.traced.kept.lawful.behind
      (at.traced.stops is.alive) in
      let reported : FinalsAreGood IsGood process.carried = λ p has. at.good (subject.Finalize p) (at.traced.finals p
      (subst (λ ps. Contains ps p) (sym (finalized_in-append outs queue))
      (Contains-append_left (finals_in outs) (finals_in queue) p
      (among_finals outs p (final_returned outs process.carried p is.carries_out has))))) in
      elim (stopped same elect bytes_of term_length i from.all at.all outs queue process.carried each is.carries_out) [
        | inl none ↦ unchanged before process.carried member none from finals stored
        | inr stop ↦ changed before process.carried from.all at.all from.has.votes at.good
            (finals_both before process.carried finals reported) stop
      ]

  -- over all
  pub all_processed : QuorumsAreGood members IsSent IsGood
      → (process : Process S L D K G C) (rest : List (Process S L D K G C)) (before : List (Output S D Stored K G C))
      → AreProcesses same elect bytes_of is_signature keys_of me terms term_length i members before (process ∷ rest)
      → ((p : Process S L D K G C) → Contains (process ∷ rest) p → PassesAllGood bytes_of IsSent IsGood p)
      → FinalsAreGood IsGood before → IsStoredIfAny same elect bytes_of IsGood term_length i before
      → HasRun same elect bytes_of IsGood term_length i (before ++ carried_by (process ∷ rest))
  all_processed quorums process [] before are passes finals stored =
      subst (HasRun same elect bytes_of IsGood term_length i)
      (ap (λ outs. before ++ outs) (sym (append-nil process.carried)))
      (processed quorums before process are.0 (passes process (here process [])) finals stored)
  all_processed quorums process (next ∷ rest) before are passes finals stored =
      let one = processed quorums before process are.0 (passes process (here process (next ∷ rest))) finals stored in
      subst (HasRun same elect bytes_of IsGood term_length i)
      (append_assoc before process.carried (carried_by (next ∷ rest)))
      (all_processed quorums next rest (before ++ process.carried) are.1
      (λ p has. passes p (Contains-cons_rest process (next ∷ rest) p has)) one.finals one.stored)

module _ {S L D K G C : Type 0} (same : D → D → Bool) (elect : Elect L) (bytes_of : C → List ℕ)
    (is_signature : K → Subject D → G → Type 0)
    (keys_of : S → List K) (me : S → Option ℕ) (terms : L → Terms) (decides : (d e : D) → same d e ≡ true → d ≡ e) where
  -- whatever came in
  pub votes_keep_rules : EachHostKeepsRules {C = C} same elect bytes_of is_signature keys_of me terms
  votes_keep_rules term_length i members [] some runs = absurd (some refl)
  votes_keep_rules term_length i members (process ∷ rest) some runs =
      let ran = all_processed same elect bytes_of is_signature keys_of me terms members (λ vote. Unit {0})
      (λ c. Unit {0}) term_length i (λ votes c sent has. tt)
      process rest [] runs
      (λ p has. record {
        calls = record { votes = λ vote among. tt; certificates = λ certificate among. tt };
        floor = λ c among. tt;
      }) (λ p has. tt) (inl refl) in
      record {
        all = ran.all;
        lawful = done_lawful same elect term_length i decides ran.all ran.facts ran.has.done;
        votes = ran.has.votes;
      }
