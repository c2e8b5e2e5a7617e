-- For the code of the engine.
-- That a host may stop amid what a record has grown by, step by step.
use Rattle.std.proofs.Common.{◌≡◌, ◌∙◌, refl, ap, sym, subst, ℕ, zero, suc, ◌≤◌, Bool, true, false, cond, nat_lt, inl, inr, List, [], ◌∷◌, ◌++◌, drop, filter, length, Option, Some, None, Vec, append_assoc, append-nil, arith, length-append}
use Rattle.std.specs.Prelude.{Contains}
use Rattle.std.specs.declared.alloc.Global.{Global}
use Rattle.std.proofs.lemmas.Grind.{flat_map-append}
use Rattle.std.proofs.lemmas.List.{length-map, drop_all}
use Rattle.std.proofs.lemmas.List.Elements.{Contains-append_right}
use Rattle.simplex_types.specs.Certificates.{ArtifactFacts, artifact_facts}
use Rattle.simplex_types.specs.declared.types.fault.Fault.{Fault}
use Rattle.simplex_types.specs.declared.types.messages.Artifact.{Artifact}
use Rattle.simplex_types.specs.declared.types.messages.Proposal.{Proposal}
use Rattle.simplex_voter.specs.Acceptance.{notarization_added, nullification_added, finalization_added}
use Rattle.simplex_voter.specs.Certification.{is_first_verdict}
use Rattle.simplex_voter.specs.Facts.{StateFacts, Elect}
use Rattle.simplex_record.specs.Cuts.{is_vote}
use Rattle.simplex_record.specs.Entries.{entries_of}
use Rattle.simplex_record.specs.Votes.{SignedVote, signed_vote, votes_of}
use Rattle.simplex_member.specs.CallConditions.{is_allowed, fault_of}
use Rattle.simplex_member.specs.Calls.{CallFacts, AddNotarization, AddNullification, AddFinalization, ConstructNotarize, Certified, ConstructNullify, ConstructFinalize, ReplyFacts}
use Rattle.simplex_member.specs.CallSemantics.{recorded_by, if_new, vote_entry, unrepeated_vote, notarize_vote, nullify_vote, finalize_vote}
use Rattle.simplex_member.specs.Journal.{stored_of, votes_since}
use Rattle.simplex_member.specs.MemberFacts.{MemberFacts, SignedMember, IsCall, AnswersAlive, unless_retained, with_call}
use Rattle.simplex_member.specs.declared.member.journal.Stored.{Stored}
use Rattle.laws_safety.specs.MemberHistory.{HasHistory}
use Rattle.laws_safety.specs.Traces.{TraceEvent}
use Rattle.engine_votes.specs.declared.votes.Vote.{Vote}
use Rattle.engine_outbox.specs.declared.outbox.Outbox.{Outbox}
use Rattle.engine_outbox.specs.declared.output.Output.{Output}
use Rattle.engine_outbox.specs.declared.output.Output.TheVariants as output
use Rattle.engine_outbox.specs.Entries.{votes_of_entries}
use Rattle.engine_outbox.specs.Journals.{Journal, journal_of, IsRecordOf, IsBeginningOf}
use Rattle.engine_outbox.specs.Outboxes.{IsReported, IsPassedIf}
use Rattle.engine_outbox.specs.Outputs.{stored_in}
use Rattle.engine_outbox.specs.HostStops.{vote_as, votes_recorded, WereSigned, MayStopAfter, MayStopAmid}
use Rattle.engine_outbox.proofs.Behind.{stored_in-append}
use Rattle.engine_outbox.proofs.Journals.{behind_others, entries_left, still_begun, votes_behind, votes_behind_counted, votes_counted, with_all_behind}
use Rattle.engine_outbox.proofs.EmittedVotes.{all_signed}
use Rattle.engine_outbox.proofs.HostStops.{StopsIn, stop_alike_then, stop_anew, stop_empty, stop_still}

-- ---- a call records one entry at most

module _ {D : Type 0} where
  new_few : (is_new : Bool) (e : ArtifactFacts D) → length (if_new is_new e) ≤ 1
  new_few true e = omega arith
  new_few false e = omega arith

  vote_few : (vote : Option (ArtifactFacts D)) → length (vote_entry vote) ≤ 1
  vote_few None = omega arith
  vote_few (Some vote) = omega arith

  unrepeated_few : (vote : Option (Bool × ArtifactFacts D)) → length (unrepeated_vote vote) ≤ 1
  unrepeated_few None = omega arith
  unrepeated_few (Some (true, vote)) = omega arith
  unrepeated_few (Some (false, vote)) = omega arith

-- the record has grown by one entry at most
abbrev pub GrowsByOne : {K L D : Type 0} → MemberFacts K L D → MemberFacts K L D → Type 0
GrowsByOne {D = D} m left = (more : List (ArtifactFacts D)) × (left.entries ≡ m.entries ++ more) × (length more ≤ 1)

module _ {K L D : Type 0} (same : D → D → Bool) (elect : Elect L) where
  recorded_few : (x : StateFacts K L D) (call : CallFacts D) → length (recorded_by same elect x call) ≤ 1
  recorded_few x (AddNotarization c) = new_few (notarization_added same elect x c).0 _
  recorded_few x (AddNullification c now) = new_few (nullification_added x c) _
  recorded_few x (AddFinalization c now) = new_few (finalization_added same elect x c).0 _
  recorded_few x (ConstructNotarize v) = vote_few (notarize_vote same elect x v)
  recorded_few x (Certified v success now) = new_few (is_first_verdict x v) _
  recorded_few x (ConstructNullify v) = unrepeated_few (nullify_vote x v)
  recorded_few x (ConstructFinalize v) = vote_few (finalize_vote elect x v)
  recorded_few x _ = omega arith

  grows_not : (m left : MemberFacts K L D) → left.entries ≡ m.entries → GrowsByOne m left
  grows_not m left is = ([], is ∙ sym (append-nil m.entries), omega arith)

  pub call_grows : (m left : MemberFacts K L D) (call : CallFacts D) (replied : ReplyFacts K D)
      → IsCall same elect m call replied left → GrowsByOne m left
  unfolding IsCall
  call_grows m left call replied is_call = by_life m.life is_call
    where
      entries_now : (n : MemberFacts K L D) → left ≡ n → left.entries ≡ n.entries
      entries_now n is = ap (λ (k : MemberFacts K L D). k.entries) is

      by_test : (x : StateFacts K L D) (b : Bool) (due : Option Fault)
          → left ≡ cond b (unless_retained due m (with_call same elect x m call)) m → GrowsByOne m left
      by_test x false due leaves = grows_not m left (entries_now m leaves)
      by_test x true (Some due) leaves = grows_not m left (entries_now m leaves)
      by_test x true None leaves =
          (recorded_by same elect x call, entries_now (with_call same elect x m call) leaves, recorded_few x call)

      by_life : (life : Option (StateFacts K L D)) → AnswersAlive same elect life m call replied left
          → GrowsByOne m left
      by_life None (tells, leaves) = grows_not m left (entries_now m leaves)
      by_life (Some x) (inl (tells, leaves)) = by_test x (is_allowed x m.outstanding_work call) (fault_of x call) leaves
      by_life (Some x) (inr (allowed, tells, inl (room, leaves))) = grows_not m left (entries_now m leaves)
      by_life (Some x) (inr (allowed, tells, inr (fault, falls, leaves))) =
          grows_not m left (ap (λ (k : MemberFacts K L D). k.entries) leaves)

-- ---- parts of lists

-- a part that leaves something after it is within all but the last
before_last : {X : Type 0} (part : List X) (b : X) (bs front tail : List X) → part ++ b ∷ bs ≡ front ++ tail
    → length tail ≤ 1 → (rest : List X) × (front ≡ part ++ rest)
before_last [] b bs front tail is few = (front, refl)
before_last (p ∷ part) b bs [] tail is few =
    let long : suc (length (part ++ b ∷ bs)) ≡ length tail = ap length is in
    absurd (omega (arith, long, few, length-append part (b ∷ bs)))
before_last {X} (p ∷ part) b bs (f ∷ front) tail is few =
    let head : p ≡ f = cc in
    let later : part ++ b ∷ bs ≡ front ++ tail = cc in
    let it = before_last part b bs front tail later few in
    (it.0, ap (λ (xs : List X). f ∷ xs) it.1 ∙ ap (λ (x : X). x ∷ (part ++ it.0)) (sym head))

-- of equal lists the fronts of one length are equal
equal_front : {X : Type 0} (xs ys us vs : List X) → xs ++ ys ≡ us ++ vs → length xs ≡ length us → xs ≡ us
equal_front [] ys [] vs is long = refl
equal_front [] ys (u ∷ us) vs is long = absurd (omega (arith, long))
equal_front (x ∷ xs) ys [] vs is long = absurd (omega (arith, long))
equal_front {X} (x ∷ xs) ys (u ∷ us) vs is long =
    let head : x ≡ u = cc in
    let later : xs ++ ys ≡ us ++ vs = cc in
    let shorter : length xs ≡ length us = omega (arith, long) in
    ap (λ (w : X). w ∷ xs) head ∙ ap (λ (ws : List X). u ∷ ws) (equal_front xs ys us vs later shorter)

module _ {S D K G C : Type 0} (bytes_of : C → List ℕ) where
  -- the artifacts of a front of the entries
  split_items : (items : List (Artifact S D K G C)) (before after : List (ArtifactFacts D))
      → entries_of bytes_of items ≡ before ++ after
      → (front : List (Artifact S D K G C)) × (tail : List (Artifact S D K G C)) × (items ≡ front ++ tail)
      × (entries_of bytes_of front ≡ before) × (entries_of bytes_of tail ≡ after)
  split_items items [] after is = ([], items, refl, refl, is)
  split_items [] (e ∷ before) after is = absurd (cc)
  split_items (a ∷ items) (e ∷ before) after is =
      let head : artifact_facts bytes_of a ≡ e = cc in
      let later : entries_of bytes_of items ≡ before ++ after = cc in
      let it = split_items items before after later in (
        a ∷ it.0,
        it.1,
        ap (λ (xs : List (Artifact S D K G C)). a ∷ xs) it.2,
        ap (λ (x : ArtifactFacts D). x ∷ entries_of bytes_of it.0) head
            ∙ ap (λ (xs : List (ArtifactFacts D)). e ∷ xs) it.3,
        it.4,
      )

  no_items : (items rest : List (Artifact S D K G C)) → entries_of bytes_of (items ++ rest) ≡ [] → items ≡ []
  no_items [] rest is = refl
  no_items (a ∷ items) rest is = absurd (cc)

module _ {D G : Type 0} where
  -- the votes after this number of first entries of a record are among all
  pub among_last : (votes : List (SignedVote D G)) (count : ℕ) (vote : Vote D G)
      → Contains (votes_recorded (drop count votes)) vote → Contains (votes_recorded votes) vote
  among_last [] zero vote has = has
  among_last [] (suc count) vote has = has
  among_last (v ∷ votes) zero vote has = has
  among_last (v ∷ votes) (suc count) vote has =
      Contains-append_right (vote_as v.vote v.signature) (votes_recorded votes) vote (among_last votes count vote has)

-- ---- what is reported as final writes nothing

module _ {S D J K G C : Type 0} (given : List (Output S D J K G C)) (old new : Outbox S D J K G C) where
  abbrev pub WritesAlike : Type 0
  WritesAlike = (journal_of (given ++ old.queue.items) ≡ journal_of (given ++ new.queue.items))
      × (stored_in (given ++ old.queue.items) ≡ stored_in (given ++ new.queue.items))

  pub same_queue : new.queue.items ≡ old.queue.items → WritesAlike
  same_queue is = (ap (λ q. journal_of (given ++ q)) (sym is), ap (λ q. stored_in (given ++ q)) (sym is))

  replied_where : (p : Proposal D) (is_above : Bool) → IsPassedIf is_above p old new → WritesAlike
  replied_where p true is =
      let more : List (Output S D J K G C) = output.Finalized p ∷ [] in
      let queued : given ++ new.queue.items ≡ (given ++ old.queue.items) ++ more = ap (λ q. given ++ q) is.0
      ∙ sym (append_assoc given old.queue.items more) in (
        sym (ap journal_of queued ∙ behind_others (given ++ old.queue.items) more),
        sym (ap stored_in queued ∙ stored_in-append (given ++ old.queue.items) more
            ∙ append-nil (stored_in (given ++ old.queue.items))),
      )
  replied_where p false is = same_queue is.0

  pub replied_alike : (finalized : Option (Proposal D)) → IsReported finalized old new → WritesAlike
  replied_alike None is = same_queue is.0
  replied_alike (Some p) is = replied_where p (nat_lt old.reported p.round.view) is

-- ---- amid what the record has grown by

module _ {S L D K G C : Type 0} (same : D → D → Bool) (elect : Elect L) (bytes_of : C → List ℕ) (term_length i : ℕ)
    (earlier : List (TraceEvent D)) where
  -- after other outputs that write the same
  pub amid_alike : (all : List (TraceEvent D)) (outs others : List (Output S D Stored K G C))
      (member : SignedMember K L D G) (count : ℕ) → journal_of outs ≡ journal_of others
      → stored_in outs ≡ stored_in others
      → MayStopAmid same elect bytes_of term_length i earlier all outs member count
      → MayStopAmid same elect bytes_of term_length i earlier all others member count
  amid_alike all outs others member count same_journal same_stored amid part rest entries votes =
      stop_alike_then same elect bytes_of term_length i earlier all outs others (output.Store part) same_journal
      same_stored (amid part rest entries votes)

  -- where all of the record is queued
  pub amid_none : (all : List (TraceEvent D)) (outs : List (Output S D Stored K G C)) (member : SignedMember K L D G)
      (count : ℕ) → length member.facts.entries ≤ count
      → MayStopAfter same elect bytes_of term_length i earlier all outs
      → MayStopAmid same elect bytes_of term_length i earlier all outs member count
  amid_none all outs member count whole may part rest entries votes =
      stop_empty same elect bytes_of term_length i earlier all outs part
      (no_items bytes_of part.items rest (entries ∙ drop_all count member.facts.entries whole)) may

  -- amid the `Store` of what it has grown by
  pub amid_store : (all : List (TraceEvent D)) (outs : List (Output S D Stored K G C)) (member : SignedMember K L D G)
      (count : ℕ) (copies : Vec (Artifact S D K G C) Global)
      → entries_of bytes_of copies.items ≡ drop count member.facts.entries
      → votes_of copies.items ≡ votes_since count member
      → MayStopAmid same elect bytes_of term_length i earlier all outs member count
      → StopsIn same elect bytes_of term_length i earlier all outs (output.Store copies)
  amid_store all outs member count copies copied voted amid entries part rest is parted =
      let vecs : copies ≡ entries = cc in
      let items : part.items ++ rest ≡ copies.items = sym parted
      ∙ ap (λ (v : Vec (Artifact S D K G C) Global). v.items) (sym vecs) in
      amid part rest (ap (entries_of bytes_of) items ∙ copied) (ap votes_of items ∙ voted)

  -- a call
  module _ (all more : List (TraceEvent D)) (outs : List (Output S D Stored K G C)) (old new : SignedMember K L D G)
      (count : ℕ) (begun : IsBeginningOf bytes_of old count (journal_of outs))
      (olds : List (Artifact S D K G C)) (olds_entries : entries_of bytes_of olds ≡ old.facts.entries)
      (olds_votes : votes_of olds ≡ old.votes)
      (grown : GrowsByOne old.facts new.facts) (votes : List (SignedVote D G)) (voted : new.votes ≡ old.votes ++ votes)
      (beside : stored_of new.facts ≡ stored_of old.facts)
      (done : HasHistory same elect term_length i (all ++ more) new.facts)
      (signed : WereSigned (all ++ more) (votes_recorded new.votes))
      (stop : MayStopAfter same elect bytes_of term_length i earlier (all ++ more) outs)
      (amid : MayStopAmid same elect bytes_of term_length i earlier all outs old count) where
    abbrev begun_now : IsBeginningOf bytes_of new count (journal_of outs)
    begun_now = still_begun bytes_of old count (journal_of outs) begun new grown.0 votes grown.1 voted beside

    -- all of it
    amid_all : (part : Vec (Artifact S D K G C) Global) → entries_of bytes_of part.items ≡ drop count new.facts.entries
        → votes_of part.items ≡ votes_since count new
        → MayStopAfter same elect bytes_of term_length i earlier (all ++ more) (outs ++ output.Store part ∷ [])
    amid_all part entries_are votes_are =
        stop_anew same elect bytes_of term_length i earlier (all ++ more) outs (output.Store part) new stop done
        (subst (IsRecordOf bytes_of new) (sym (behind_others outs (output.Store part ∷ [])))
        (with_all_behind bytes_of new count (journal_of outs) begun_now part.items entries_are votes_are))
        (λ vote has. signed vote (among_last new.votes _ vote
        (subst (λ vs. Contains vs vote) (all_signed part.items ∙ ap votes_recorded votes_are) has)))

    -- or what was there before the call
    amid_before : (part : Vec (Artifact S D K G C) Global) (b : Artifact S D K G C) (bs : List (Artifact S D K G C))
        → entries_of bytes_of (part.items ++ b ∷ bs) ≡ drop count new.facts.entries
        → votes_of (part.items ++ b ∷ bs) ≡ votes_since count new
        → MayStopAfter same elect bytes_of term_length i earlier (all ++ more) (outs ++ output.Store part ∷ [])
    amid_before part b bs entries_are votes_are =
        let split = split_items bytes_of (part.items ++ b ∷ bs) begun.rest grown.0
        (entries_are ∙ entries_left bytes_of new count (journal_of outs) begun_now) in
        let long = length-map split.1 (artifact_facts bytes_of) in
        let short = ap length split.4 in
        let few = grown.2 in
        let within = before_last part.items b bs split.0 split.1 split.2 (omega (arith, long, short, few)) in
        let joined : votes_of split.0 ++ votes_of split.1 ≡ begun.votes_left ++ votes =
        sym (flat_map-append signed_vote split.0 split.1) ∙ ap votes_of (sym split.2) ∙ votes_are
        ∙ votes_behind bytes_of new count (journal_of outs) begun_now in
        let front_votes : votes_of split.0 ≡ begun.votes_left =
        equal_front (votes_of split.0) (votes_of split.1) begun.votes_left votes joined
        (sym (votes_counted bytes_of split.0) ∙ ap (λ es. length (filter is_vote es)) split.3
        ∙ votes_behind_counted bytes_of old count (journal_of outs) begun olds olds_entries olds_votes) in
        stop_still same elect bytes_of term_length i earlier all more (outs ++ output.Store part ∷ [])
        (amid part within.0 (ap (entries_of bytes_of) (sym within.1) ∙ split.3
        ∙ sym (entries_left bytes_of old count (journal_of outs) begun))
        (ap votes_of (sym within.1) ∙ front_votes ∙ sym (votes_behind bytes_of old count (journal_of outs) begun)))

    pub amid_called : MayStopAmid same elect bytes_of term_length i earlier (all ++ more) outs new count
    amid_called part [] entries_are votes_are =
        let items = sym (append-nil part.items) in
        amid_all part (ap (entries_of bytes_of) items ∙ entries_are) (ap votes_of items ∙ votes_are)
    amid_called part (b ∷ bs) entries_are votes_are = amid_before part b bs entries_are votes_are
