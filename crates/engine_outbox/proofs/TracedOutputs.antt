-- For the code of the engine.
-- How each step of a member with its outbox changes what is known of all that was returned.
use Rattle.std.proofs.Common.{◌≡◌, ◌∙◌, refl, ap, sym, subst, ℕ, zero, Bool, true, false, List, [], ◌∷◌, ◌++◌, drop, filter, length, Option, Some, None, append_assoc, append-nil, arith}
use Rattle.std.specs.Prelude.{Contains}
use Rattle.std.proofs.lemmas.Bool.{true≢false}
use Rattle.std.proofs.lemmas.List.Elements.{Contains-append_right}
use Rattle.simplex_types.specs.declared.types.messages.Artifact.{Artifact}
use Rattle.simplex_types.specs.declared.types.messages.Proposal.{Proposal}
use Rattle.simplex_voter.specs.Facts.{Elect}
use Rattle.simplex_record.specs.Entries.{entries_of}
use Rattle.simplex_record.specs.Votes.{SignedVote, votes_of}
use Rattle.simplex_member.specs.Journal.{stored_of, votes_since}
use Rattle.simplex_member.specs.ReplySignatures.{signed_reply}
use Rattle.simplex_member.specs.declared.member.calls.Call.{Call}
use Rattle.simplex_member.specs.declared.member.calls.Reply.{Reply}
use Rattle.simplex_member.specs.declared.member.calls.Reply.TheVariants as reply
use Rattle.simplex_member.specs.declared.member.journal.Stored.{Stored}
use Rattle.laws_safety.specs.MemberHistory.{HasHistory, ExtendsHistory}
use Rattle.laws_safety.specs.ObservedTraces.{votes_in, taken_by}
use Rattle.laws_safety.specs.Traces.{TraceEvent, Signs}
use Rattle.laws_safety.proofs.lists.Splits.{only_one}
use Rattle.engine_votes.specs.declared.votes.Vote.{Vote}
use Rattle.engine_outbox.specs.declared.journaled.Journaled.{Journaled}
use Rattle.engine_outbox.specs.declared.output.Output.{Output}
use Rattle.engine_outbox.specs.declared.output.Output.TheVariants as output
use Rattle.engine_outbox.specs.declared.output.Work.{Work}
use Rattle.engine_outbox.specs.Finalizations.{finals_in, finals_by, WereAccepted, ReportsRising}
use Rattle.engine_outbox.specs.Continuity.{IsTraced, StaysTraced}
use Rattle.engine_outbox.specs.Journals.{Journal, journal_of, written, IsRecordOf}
use Rattle.engine_outbox.specs.Outboxes.{HasBecome, HasStayed, IsStored, IsReplaced, IsRepeated, IsReported}
use Rattle.engine_outbox.specs.Outputs.{entries_in, stored_in, storing}
use Rattle.engine_outbox.specs.HostStops.{votes_recorded, WereSigned, MayStopAfterEach, MayStopAmid}
use Rattle.engine_outbox.proofs.Behind.{stored_in-append}
use Rattle.engine_outbox.proofs.Finalizations.{accepted_rising, become_tells, stayed_tells, storing_tells_none}
use Rattle.engine_outbox.proofs.Journals.{behind_others, copied_votes, stored_too, is_record}
use Rattle.engine_outbox.proofs.Kept.{Keeps, counted}
use Rattle.engine_outbox.proofs.EmittedVotes.{all_signed}
use Rattle.engine_outbox.proofs.HostStops.{signed_still, signed_both, signed_left, recorded_more, stop_last, stops_still, stops_plain, stops_stored, stops_replaced, stops_replied}
use Rattle.engine_outbox.proofs.Torn.{GrowsByOne, WritesAlike, among_last, amid_alike, amid_called, amid_none, amid_store, same_queue, replied_alike}

module _ {D G : Type 0} where
  -- the one vote of an answer was signed by it
  one_signed : (signed : Vote D G) → WereSigned (Signs signed.signer signed.subject ∷ []) (signed ∷ [])
  one_signed signed vote has = subst (λ v. Contains (Signs signed.signer signed.subject ∷ [])
      (Signs v.signer v.subject)) (only_one signed vote has) (zero, omega arith, refl)

  none_signed : (all : List (TraceEvent D)) → WereSigned {G = G} all []
  none_signed all vote has = absurd (omega (arith, has.1))

  signed_later : (all more : List (TraceEvent D)) (votes : List (Vote D G)) → WereSigned more votes
      → WereSigned (all ++ more) votes
  signed_later all more votes signed vote has =
      Contains-append_right all more (Signs vote.signer vote.subject) (signed vote has)

-- a vote that is returned was signed
pub reply_signed : {S D K G C : Type 0} (call : Call S D K G C) (r : Reply S D K G C)
    → WereSigned (taken_by call r ++ votes_in r) (votes_recorded (signed_reply r))
reply_signed call (reply.Notarize None) = none_signed []
reply_signed call (reply.Notarize (Some vote)) = one_signed _
reply_signed call (reply.Nullify None) = none_signed []
reply_signed call (reply.Nullify (Some (true, vote))) = none_signed (votes_in (reply.Nullify (Some (true, vote))))
reply_signed call (reply.Nullify (Some (false, vote))) = one_signed _
reply_signed call (reply.Finalize None) = none_signed []
reply_signed call (reply.Finalize (Some vote)) = one_signed _
reply_signed call (reply.Added newly leader) = none_signed (taken_by call (reply.Added newly leader) ++ [])
reply_signed call (reply.AddedNullification newly) = none_signed (taken_by call (reply.AddedNullification newly) ++ [])
reply_signed call _ = none_signed []

module _ {S L D K G C : Type 0} (same : D → D → Bool) (elect : Elect L) (bytes_of : C → List ℕ)
    (old new : Journaled S L D K G C) where
  abbrev pub Traces : Type 0
  Traces = StaysTraced same elect bytes_of [] old new

  queued : (given more : List (Output S D Stored K G C)) (repeat : Option (Vote D G))
      → HasBecome more repeat old.outbox new.outbox
      → (given ++ old.outbox.queue.items) ++ more ≡ given ++ new.outbox.queue.items
  queued given more repeat become = append_assoc given old.outbox.queue.items more
      ∙ ap (λ q. given ++ q) (sym become.queue)

  -- a call, and what it reports as final
  pub traced_call : (more : List (TraceEvent D)) → new.failed ≡ old.failed → new.stored ≡ old.stored
      → Keeps bytes_of old new → ExtendsHistory same elect old.member.facts more new.member.facts
      → (olds : List (Artifact S D K G C)) → entries_of bytes_of olds ≡ old.member.facts.entries
      → votes_of olds ≡ old.member.votes
      → GrowsByOne old.member.facts new.member.facts → stored_of new.member.facts ≡ stored_of old.member.facts
      → (votes : List (SignedVote D G)) → new.member.votes ≡ old.member.votes ++ votes
      → WereSigned more (votes_recorded votes)
      → (finalized : Option (Proposal D)) → IsReported finalized old.outbox new.outbox
      → ReportsRising (finals_by more) old.outbox new.outbox → StaysTraced same elect bytes_of more old new
  traced_call more same_failed same_stored keeps done olds olds_entries olds_votes grown beside votes voted signed
      finalized tells rising term_length i earlier given all is =
      let before = given ++ old.outbox.queue.items in
      let now_signed : WereSigned (all ++ more) (votes_recorded new.member.votes) =
      subst (WereSigned (all ++ more)) (sym (ap votes_recorded voted ∙ recorded_more old.member.votes votes))
      (signed_both (all ++ more) (votes_recorded old.member.votes) (votes_recorded votes)
      (signed_still all more (votes_recorded old.member.votes) is.signed)
      (signed_later all more (votes_recorded votes) signed)) in
      let still : old.failed ≡ false → MayStopAfterEach same elect bytes_of term_length i earlier (all ++ more) before =
      λ lived.
      stops_still same elect bytes_of term_length i earlier all more before (is.stops lived) in
      let alike = replied_alike given old.outbox new.outbox finalized tells in
      record {
        kept = keeps given is.kept;
        done = done term_length i all is.done;
        signed = now_signed;
        finals = accepted_rising given old.outbox new.outbox all more rising is.finals;
        stops = λ lives. stops_replied same elect bytes_of term_length i earlier
            (all ++ more) given old.outbox new.outbox
            finalized tells (still (sym same_failed ∙ lives));
        amid = λ lives.
            let lived = sym same_failed ∙ lives in
            subst (MayStopAmid same elect bytes_of term_length i earlier (all ++ more) (given ++ new.outbox.queue.items)
            new.member) (sym same_stored)
            (amid_alike same elect bytes_of term_length i earlier (all ++ more) before (given ++ new.outbox.queue.items)
            new.member old.stored alike.0 alike.1
            (amid_called same elect bytes_of term_length i earlier all more before old.member new.member old.stored
            (is.kept.stored lived) olds olds_entries olds_votes grown votes voted beside
            (done term_length i all is.done) now_signed
            (stop_last same elect bytes_of term_length i earlier (all ++ more) before (still lived))
            (is.amid lived)));
      }

  -- nothing more is returned
  pub traced_end : new.failed ≡ true → Keeps bytes_of old new
      → ExtendsHistory same elect old.member.facts [] new.member.facts
      → ((all : List (TraceEvent D)) → WereSigned all (votes_recorded old.member.votes)
      → WereSigned all (votes_recorded new.member.votes)) → ReportsRising [] old.outbox new.outbox → Traces
  traced_end failed keeps done signed tells term_length i earlier given all is = record {
    kept = keeps given is.kept;
    done = done term_length i all is.done;
    signed = signed_still all [] (votes_recorded new.member.votes) (signed all is.signed);
    finals = accepted_rising given old.outbox new.outbox all [] tells is.finals;
    stops = λ lives. cc;
    amid = λ lives. absurd (true≢false (sym failed ∙ lives));
  }

  -- a whole record was queued in place of all
  pub traced_replaced : new.failed ≡ old.failed → Keeps bytes_of old new
      → ExtendsHistory same elect old.member.facts [] new.member.facts
      → (stays : SignedVote D G → Bool) → new.member.votes ≡ filter stays old.member.votes
      → (all : List (Artifact S D K G C)) → new.stored ≡ length all → entries_of bytes_of all ≡ new.member.facts.entries
      → votes_of all ≡ new.member.votes
      → IsReplaced bytes_of all (stored_of new.member.facts) old.outbox new.outbox
      → ReportsRising [] old.outbox new.outbox → Traces
  traced_replaced same_failed keeps done stays left artifacts stored_now all_entries all_votes is_replaced tells
      term_length i earlier given all is =
      let signed : WereSigned (all ++ []) (votes_recorded new.member.votes) =
      signed_still all [] (votes_recorded new.member.votes)
      (subst (λ vs. WereSigned all (votes_recorded vs)) (sym left)
      (signed_left all stays old.member.votes is.signed)) in
      let copies = is_replaced.0 in
      let stops : new.failed ≡ false → MayStopAfterEach same elect bytes_of term_length i earlier (all ++ [])
      (given ++ new.outbox.queue.items) = λ lives.
      subst (MayStopAfterEach same elect bytes_of term_length i earlier (all ++ []))
      (queued given (output.Replace copies (stored_of new.member.facts) ∷ []) _ is_replaced.2)
      (stops_replaced same elect bytes_of term_length i earlier (all ++ []) copies new.member
      (done term_length i all is.done) signed (is_replaced.1.0 ∙ all_entries)
      (copied_votes bytes_of artifacts copies.items is_replaced.1 ∙ all_votes)
      (given ++ old.outbox.queue.items) (stops_still same elect bytes_of term_length i earlier all []
      (given ++ old.outbox.queue.items) (is.stops (sym same_failed ∙ lives)))) in
      let whole = counted bytes_of artifacts new.member.facts.entries all_entries in
      record {
        kept = keeps given is.kept;
        done = done term_length i all is.done;
        signed = signed;
        finals = accepted_rising given old.outbox new.outbox all [] tells is.finals;
        stops = stops;
        amid = λ lives. amid_none same elect bytes_of term_length i earlier (all ++ [])
            (given ++ new.outbox.queue.items) new.member new.stored (omega (arith, whole, stored_now))
            (stop_last same elect bytes_of term_length i earlier (all ++ []) (given ++ new.outbox.queue.items)
            (stops lives));
      }

  module _ (same_member : new.member ≡ old.member) (same_failed : new.failed ≡ old.failed)
      (keeps : Keeps bytes_of old new) where
    -- the member is as it was
    with_queue : ReportsRising [] old.outbox new.outbox
        → ((term_length i : ℕ) (earlier : List (TraceEvent D)) (given : List (Output S D Stored K G C))
        (all : List (TraceEvent D)) → IsTraced same elect bytes_of term_length i earlier given all old
        → old.failed ≡ false → MayStopAfterEach same elect bytes_of term_length i earlier all
        (given ++ new.outbox.queue.items))
        → ((term_length i : ℕ) (earlier : List (TraceEvent D)) (given : List (Output S D Stored K G C))
        (all : List (TraceEvent D)) → IsTraced same elect bytes_of term_length i earlier given all old
        → old.failed ≡ false → MayStopAmid same elect bytes_of term_length i earlier all
        (given ++ new.outbox.queue.items) old.member new.stored) → Traces
    with_queue tells stops amid term_length i earlier given all is =
        subst (λ xs. IsTraced same elect bytes_of term_length i earlier given xs new) (sym (append-nil all)) (record {
          kept = keeps given is.kept;
          done = subst (λ m. HasHistory same elect term_length i all m.facts) (sym same_member) is.done;
          signed = subst (λ m. WereSigned all (votes_recorded m.votes)) (sym same_member) is.signed;
          finals = subst (λ xs. WereAccepted xs (finals_in (given ++ new.outbox.queue.items))) (append-nil all)
              (accepted_rising given old.outbox new.outbox all [] tells is.finals);
          stops = λ lives. stops term_length i earlier given all is (sym same_failed ∙ lives);
          amid = λ lives. subst (λ m. MayStopAmid same elect bytes_of term_length i earlier all
              (given ++ new.outbox.queue.items) m new.stored) (sym same_member)
              (amid term_length i earlier given all is (sym same_failed ∙ lives));
        })

    module _ (same_stored : new.stored ≡ old.stored) where
      -- nothing is written besides
      amid_besides : ((given : List (Output S D Stored K G C)) → WritesAlike given old.outbox new.outbox)
          → (term_length i : ℕ) (earlier : List (TraceEvent D)) (given : List (Output S D Stored K G C))
          (all : List (TraceEvent D))
          → IsTraced same elect bytes_of term_length i earlier given all old → old.failed ≡ false
          → MayStopAmid same elect bytes_of term_length i earlier all (given ++ new.outbox.queue.items) old.member
          new.stored
      amid_besides alike term_length i earlier given all is lives =
          subst (MayStopAmid same elect bytes_of term_length i earlier all (given ++ new.outbox.queue.items) old.member)
          (sym same_stored)
          (amid_alike same elect bytes_of term_length i earlier all (given ++ old.outbox.queue.items)
          (given ++ new.outbox.queue.items) old.member old.stored (alike given).0 (alike given).1 (is.amid lives))

      -- nothing was queued
      pub traced_stayed : HasStayed old.outbox new.outbox → Traces
      traced_stayed stayed = with_queue (stayed_tells old.outbox new.outbox stayed)
          (λ term_length i earlier given all is lives.
          subst (λ q. MayStopAfterEach same elect bytes_of term_length i earlier all (given ++ q)) (sym stayed.0)
          (is.stops lives))
          (amid_besides (λ given. same_queue given old.outbox new.outbox stayed.0))

      -- one output that stores nothing was
      pub traced_plain : (out : Output S D Stored K G C) (repeat : Option (Vote D G)) → entries_in out ≡ []
          → finals_in (out ∷ []) ≡ [] → ((journal : Journal S D Stored K G C) → written journal out ≡ journal)
          → HasBecome (out ∷ []) repeat old.outbox new.outbox → Traces
      traced_plain out repeat none unreplied unwritten become =
          with_queue (become_tells (out ∷ []) repeat old.outbox new.outbox unreplied become)
          (λ term_length i earlier given all is lives.
          let before = given ++ old.outbox.queue.items in
          subst (MayStopAfterEach same elect bytes_of term_length i earlier all) (queued given (out ∷ []) repeat become)
          (stops_plain same elect bytes_of term_length i earlier all before out none (unwritten (journal_of before))
          (is.stops lives)))
          (amid_besides (λ given. (
          let before = given ++ old.outbox.queue.items in
          let now = queued given (out ∷ []) repeat become in (
            sym (ap journal_of (sym now) ∙ behind_others before (out ∷ []) ∙ unwritten (journal_of before)),
            sym (ap stored_in (sym now) ∙ stored_in-append before (out ∷ [])
                ∙ ap (λ es. stored_in before ++ (es ++ [])) none ∙ append-nil (stored_in before)),
          ))))

      pub traced_pushed : (work : Work S D K G C)
          → HasBecome (output.Work work ∷ []) old.outbox.repeat old.outbox new.outbox → Traces
      traced_pushed work become = traced_plain (output.Work work) old.outbox.repeat refl refl (λ journal. refl) become

      repeated_by : (view : ℕ) (repeat : Option (Vote D G)) (sent : Bool)
          → IsRepeated view repeat sent old.outbox new.outbox → Traces
      repeated_by view (Some vote) true repeated =
          traced_plain (output.Vote vote) old.outbox.repeat refl refl (λ journal. refl) repeated.1
      repeated_by view (Some vote) false repeated = traced_stayed repeated.1
      repeated_by view None sent repeated = traced_stayed repeated.1

      pub traced_repeated : (view : ℕ) (sent : Bool) → IsRepeated view old.outbox.repeat sent old.outbox new.outbox
          → Traces
      traced_repeated view sent repeated = repeated_by view old.outbox.repeat sent repeated

    -- what the record has grown by was
    pub traced_stored : (all fresh : List (Artifact S D K G C)) → new.stored ≡ length all
        → entries_of bytes_of all ≡ old.member.facts.entries → votes_of all ≡ old.member.votes
        → entries_of bytes_of fresh ≡ drop old.stored old.member.facts.entries
        → votes_of fresh ≡ votes_since old.stored old.member → IsStored bytes_of fresh old.outbox new.outbox
        → Traces
    traced_stored artifacts fresh stored_now all_entries all_votes fresh_entries fresh_votes is_stored =
        with_queue (become_tells (storing is_stored.0) _ old.outbox new.outbox (storing_tells_none Stored is_stored.0)
        is_stored.2) stops
        (λ term_length i earlier given all is lives. (
        let whole = counted bytes_of artifacts old.member.facts.entries all_entries in
        amid_none same elect bytes_of term_length i earlier all (given ++ new.outbox.queue.items) old.member new.stored
        (omega (arith, whole, stored_now))
        (stop_last same elect bytes_of term_length i earlier all (given ++ new.outbox.queue.items)
        (stops term_length i earlier given all is lives))))
      where
        stops : (term_length i : ℕ) (earlier : List (TraceEvent D)) (given : List (Output S D Stored K G C))
            (all : List (TraceEvent D)) → IsTraced same elect bytes_of term_length i earlier given all old
            → old.failed ≡ false → MayStopAfterEach same elect bytes_of term_length i earlier all
            (given ++ new.outbox.queue.items)
        stops term_length i earlier given all is lives =
            let before = given ++ old.outbox.queue.items in
            let copies = is_stored.0 in
            let voted = copied_votes bytes_of fresh copies.items is_stored.1 ∙ fresh_votes in
            let same_length : length old.member.facts.entries ≡ length artifacts =
            counted bytes_of artifacts old.member.facts.entries all_entries in
            let holds : IsRecordOf bytes_of old.member
            (record
            { entries = (journal_of before).entries ++ copies.items; beside = (journal_of before).beside }) =
            is_record bytes_of old.member (length artifacts)
            (record { entries = (journal_of before).entries ++ copies.items; beside = (journal_of before).beside })
            (stored_too bytes_of old.member old.stored (journal_of before) (is.kept.stored lives) artifacts all_entries
            all_votes copies.items (is_stored.1.0 ∙ fresh_entries) voted)
            artifacts all_entries all_votes (omega (arith, same_length)) in
            subst (MayStopAfterEach same elect bytes_of term_length i earlier all)
            (queued given (storing copies) _ is_stored.2)
            (stops_stored same elect bytes_of term_length i earlier all before copies old.member is.done
            (subst (IsRecordOf bytes_of old.member) (sym (behind_others before (output.Store copies ∷ []))) holds)
            (λ vote has. is.signed vote (among_last old.member.votes _ vote
            (subst (λ vs. Contains vs vote) (all_signed copies.items ∙ ap votes_recorded voted) has)))
            (amid_store same elect bytes_of term_length i earlier all before old.member old.stored copies
            (is_stored.1.0 ∙ fresh_entries) voted (is.amid lives))
            (is.stops lives))
