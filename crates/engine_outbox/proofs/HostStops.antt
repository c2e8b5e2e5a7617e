-- For the code of the engine. A host may stop after each output that is queued, one after the other, and amid each
-- `Store`.
use Rattle.std.proofs.Common.{◌≡◌, ◌∙◌, ◌⊎◌, inl, inr, refl, ap, sym, subst, ℕ, Bool, true, false, nat_lt, List, [], ◌∷◌, ◌++◌, map, filter, Option, Some, None, Vec, append_assoc, append-nil, arith}
use Rattle.std.specs.Prelude.{Contains}
use Rattle.std.specs.declared.alloc.Global.{Global}
use Rattle.std.proofs.lemmas.List.Elements.{Contains-append_left, Contains-append_cases}
use Rattle.simplex_types.specs.declared.types.messages.Artifact.{Artifact}
use Rattle.simplex_types.specs.declared.types.messages.Proposal.{Proposal}
use Rattle.simplex_voter.specs.Facts.{Elect}
use Rattle.simplex_record.specs.Entries.{entries_of}
use Rattle.simplex_record.specs.Votes.{SignedVote, votes_of}
use Rattle.simplex_member.specs.Journal.{stored_of}
use Rattle.simplex_member.specs.MemberFacts.{SignedMember}
use Rattle.simplex_member.specs.declared.member.journal.Stored.{Stored}
use Rattle.laws_safety.specs.Traces.{TraceEvent, Signs}
use Rattle.laws_safety.specs.MemberHistory.{HasHistory}
use Rattle.laws_safety.proofs.lists.Splits.{Contains-cases}
use Rattle.engine_votes.specs.declared.votes.Vote.{Vote}
use Rattle.engine_outbox.specs.declared.outbox.Outbox.{Outbox}
use Rattle.engine_outbox.specs.declared.output.Output.{Output}
use Rattle.engine_outbox.specs.declared.output.Output.TheVariants as output
use Rattle.engine_outbox.specs.Entries.{votes_of_entries}
use Rattle.engine_outbox.specs.Journals.{journal_of, written, IsRecordOf}
use Rattle.engine_outbox.specs.Outboxes.{IsReported, IsPassedIf}
use Rattle.engine_outbox.specs.Outputs.{entries_in, stored_in, storing, IsBehind, AreBehind}
use Rattle.engine_outbox.specs.HostStops.{votes_recorded, WereSigned, IsTorn, MayBeCarriedOut, MayStopAfter, MayStopAfterEach, MayStopAmid, EachStopIsLawful}
use Rattle.engine_outbox.proofs.Behind.{votes_in-append, stored_in-append, beginning, joined}
use Rattle.engine_outbox.proofs.Journals.{behind_others}
use Rattle.engine_outbox.proofs.EmittedVotes.{all_signed, among_all, flat_append}

-- a list that grew by one element begins with a part of what it was, or with all that it is
pub one_longer : {X : Type 0} (xs front back : List X) (x : X) → xs ++ x ∷ [] ≡ front ++ back
    → ((rest : List X) × (xs ≡ front ++ rest)) ⊎ (front ≡ xs ++ x ∷ [])
one_longer xs [] back x e = inl (xs, refl)
one_longer [] (f ∷ []) back x e = inr (cc)
one_longer [] (f ∷ (g ∷ front)) back x e = absurd (cc)
one_longer {X} (y ∷ xs) (f ∷ front) back x e =
    let head : y ≡ f = cc in
    let tail : xs ++ x ∷ [] ≡ front ++ back = cc in
    elim (one_longer xs front back x tail) [
      | inl is ↦ inl (is.0, cc)
      | inr is ↦ inr (cc)
    ]

-- an element of a list that grew by one is of what it was, or is the new one
one_inside : {X : Type 0} (xs front back : List X) (x y : X) → xs ++ x ∷ [] ≡ front ++ y ∷ back
    → ((rest : List X) × (xs ≡ front ++ y ∷ rest)) ⊎ ((xs ≡ front) × (x ≡ y))
one_inside [] [] back x y e = inr (refl, cc)
one_inside [] (f ∷ []) back x y e = absurd (cc)
one_inside [] (f ∷ (g ∷ front)) back x y e = absurd (cc)
one_inside (z ∷ xs) [] back x y e = let head : z ≡ y = cc in inl (xs, ap (λ w. w ∷ xs) head)
one_inside {X} (z ∷ xs) (f ∷ front) back x y e =
    let head : z ≡ f = cc in
    let tail : xs ++ x ∷ [] ≡ front ++ y ∷ back = cc in
    elim (one_inside xs front back x y tail) [
      | inl is ↦ inl (is.0, cc)
      | inr is ↦ inr (cc, is.1)
    ]

no_front : {X : Type 0} (xs ys : List X) → xs ++ ys ≡ [] → xs ≡ []
no_front [] ys e = refl
no_front (x ∷ xs) ys e = absurd (cc)

module _ {D G : Type 0} where
  -- what was signed stays signed
  pub signed_still : (all more : List (TraceEvent D)) (votes : List (Vote D G)) → WereSigned all votes
      → WereSigned (all ++ more) votes
  signed_still all more votes signed vote has =
      Contains-append_left all more (Signs vote.signer vote.subject) (signed vote has)

  pub signed_both : (all : List (TraceEvent D)) (votes others : List (Vote D G)) → WereSigned all votes
      → WereSigned all others → WereSigned all (votes ++ others)
  signed_both all votes others first second vote has =
      elim (Contains-append_cases votes others vote has) [ inl one ↦ first vote one | inr other ↦ second vote other ]

  -- so are the votes that a pruning leaves
  pub signed_left : (all : List (TraceEvent D)) (stays : SignedVote D G → Bool) (votes : List (SignedVote D G))
      → WereSigned all (votes_recorded votes) → WereSigned all (votes_recorded (filter stays votes))
  signed_left all stays votes signed vote has = signed vote (among_all stays votes vote has)

  pub recorded_more : (votes more : List (SignedVote D G))
      → votes_recorded (votes ++ more) ≡ votes_recorded votes ++ votes_recorded more
  recorded_more votes more = flat_append votes more

module _ {S D J K G C : Type 0} where
  -- each vote that leaves was stored
  pub left_stored : (stored : List (Artifact S D K G C)) (outs : List (Output S D J K G C)) → AreBehind stored outs
      → (vote : Vote D G)
      → Contains outs (output.Vote vote) → Contains (votes_of_entries (stored ++ stored_in outs)) vote
  left_stored stored [] behind vote has = absurd (omega (arith, has.1))
  left_stored stored (out ∷ rest) behind vote has = elim (Contains-cases out rest (output.Vote vote) has) [
    | inl same ↦ subst (λ votes. Contains votes vote) (sym (votes_in-append stored (entries_in out ++ stored_in rest)))
        (Contains-append_left (votes_of_entries stored) (votes_of_entries (entries_in out ++ stored_in rest)) vote
        (subst (IsBehind stored) same behind.0))
    | inr later ↦ subst (λ es. Contains (votes_of_entries es) vote)
        (append_assoc stored (entries_in out) (stored_in rest))
        (left_stored (stored ++ entries_in out) rest behind.1 vote later)
  ]

module _ {S L D K G C : Type 0} (same : D → D → Bool) (elect : Elect L) (bytes_of : C → List ℕ) (term_length i : ℕ)
    (earlier : List (TraceEvent D)) where
  -- the member does more
  pub stop_still : (all more : List (TraceEvent D)) (outs : List (Output S D Stored K G C))
      → MayStopAfter same elect bytes_of term_length i earlier all outs
      → MayStopAfter same elect bytes_of term_length i earlier (all ++ more) outs
  stop_still all more outs may = record {
    member = may.member;
    since = may.since;
    later = may.later ++ more;
    is_all = ap (λ xs. xs ++ more) may.is_all ∙ append_assoc (earlier ++ may.since) may.later more;
    done = may.done;
    holds = may.holds;
    signed = may.signed;
  }

  pub stops_still : (all more : List (TraceEvent D)) (outs : List (Output S D Stored K G C))
      → MayStopAfterEach same elect bytes_of term_length i earlier all outs
      → MayStopAfterEach same elect bytes_of term_length i earlier (all ++ more) outs
  stops_still all more [] may = absurd may
  stops_still all more (first ∷ rest) may = λ carried was. stop_still all more (first ∷ carried) (may carried was)

  -- with another list of outputs that write the same
  pub stop_alike : (all : List (TraceEvent D)) (outs others : List (Output S D Stored K G C))
      → journal_of outs ≡ journal_of others → stored_in outs ≡ stored_in others
      → MayStopAfter same elect bytes_of term_length i earlier all outs
      → MayStopAfter same elect bytes_of term_length i earlier all others
  stop_alike all outs others same_journal same_stored may = record {
    member = may.member;
    since = may.since;
    later = may.later;
    is_all = may.is_all;
    done = may.done;
    holds = subst (IsRecordOf bytes_of may.member) same_journal may.holds;
    signed = subst (λ es. WereSigned (earlier ++ may.since) (votes_of_entries es)) same_stored may.signed;
  }

  -- the same with one more after these
  pub stop_alike_then : (all : List (TraceEvent D)) (outs others : List (Output S D Stored K G C))
      (out : Output S D Stored K G C) → journal_of outs ≡ journal_of others
      → stored_in outs ≡ stored_in others → MayStopAfter same elect bytes_of term_length i earlier all
      (outs ++ out ∷ []) → MayStopAfter same elect bytes_of term_length i earlier all (others ++ out ∷ [])
  stop_alike_then all outs others out same_journal same_stored =
      stop_alike all (outs ++ out ∷ []) (others ++ out ∷ [])
      (behind_others outs (out ∷ []) ∙ ap (λ j. written j out) same_journal ∙ sym (behind_others others (out ∷ [])))
      (stored_in-append outs (out ∷ []) ∙ ap (λ es. es ++ (entries_in out ++ [])) same_stored
      ∙ sym (stored_in-append others (out ∷ [])))

  module _ (all : List (TraceEvent D)) where
    -- after all of them
    pub stop_last : (outs : List (Output S D Stored K G C))
        → MayStopAfterEach same elect bytes_of term_length i earlier all outs
        → MayStopAfter same elect bytes_of term_length i earlier all outs
    stop_last [] may = absurd may
    stop_last (first ∷ rest) may = may rest (inl ([], sym (append-nil rest)))

    -- amid one more, if it is a `Store`
    abbrev pub StopsIn : List (Output S D Stored K G C) → Output S D Stored K G C → Type 0
    StopsIn outs out =
        (entries part : Vec (Artifact S D K G C) Global) (rest : List (Artifact S D K G C)) → out ≡ output.Store entries
        → entries.items ≡ part.items ++ rest
        → MayStopAfter same elect bytes_of term_length i earlier all (outs ++ output.Store part ∷ [])

    -- after one more
    pub stops_further : (outs : List (Output S D Stored K G C)) (out : Output S D Stored K G C)
        → MayStopAfterEach same elect bytes_of term_length i earlier all outs
        → MayStopAfter same elect bytes_of term_length i earlier all (outs ++ out ∷ []) → StopsIn outs out
        → MayStopAfterEach same elect bytes_of term_length i earlier all (outs ++ out ∷ [])
    stops_further [] out before may within = absurd before
    stops_further (first ∷ rest) out before may within = by_cut
      where
        by_cut : (carried : List (Output S D Stored K G C)) → MayBeCarriedOut (rest ++ out ∷ []) carried
            → MayStopAfter same elect bytes_of term_length i earlier all (first ∷ carried)
        by_cut carried (inl (back, is)) = elim (one_longer rest carried back out is) [
          | inl part ↦ before carried (inl part)
          | inr whole ↦ subst (λ outs. MayStopAfter same elect bytes_of term_length i earlier all (first ∷ outs))
              (sym whole) may
        ]
        by_cut carried (inr torn) =
            elim (one_inside rest torn.front torn.back out (output.Store torn.entries) torn.outs_are) [
              | inl inside ↦ before carried (inr (record {
                front = torn.front;
                back = inside.0;
                entries = torn.entries;
                part = torn.part;
                rest = torn.rest;
                outs_are = inside.1;
                entries_are = torn.entries_are;
                carried_is = torn.carried_is;
              }))
              | inr last ↦
                  subst (λ outs. MayStopAfter same elect bytes_of term_length i earlier all (first ∷ outs))
                  (ap (λ outs. outs ++ output.Store torn.part ∷ []) last.0 ∙ sym torn.carried_is)
                  (within torn.entries torn.part torn.rest last.1 torn.entries_are)
            ]

    -- one that stores nothing
    stop_plain : (outs : List (Output S D Stored K G C)) (out : Output S D Stored K G C) → entries_in out ≡ []
        → written (journal_of outs) out ≡ journal_of outs
        → MayStopAfter same elect bytes_of term_length i earlier all outs
        → MayStopAfter same elect bytes_of term_length i earlier all (outs ++ out ∷ [])
    stop_plain outs out none unwritten may = record {
      member = may.member;
      since = may.since;
      later = may.later;
      is_all = may.is_all;
      done = may.done;
      holds = subst (IsRecordOf bytes_of may.member) (sym (behind_others outs (out ∷ []) ∙ unwritten)) may.holds;
      signed = subst (λ es. WereSigned (earlier ++ may.since) (votes_of_entries es))
          (sym (stored_in-append outs (out ∷ []) ∙ ap (λ es. stored_in outs ++ (es ++ [])) none
          ∙ append-nil (stored_in outs))) may.signed;
    }

    -- a `Store` of nothing
    pub stop_empty : (outs : List (Output S D Stored K G C)) (part : Vec (Artifact S D K G C) Global) → part.items ≡ []
        → MayStopAfter same elect bytes_of term_length i earlier all outs
        → MayStopAfter same elect bytes_of term_length i earlier all (outs ++ output.Store part ∷ [])
    stop_empty outs part none may =
        stop_plain outs (output.Store part) none
        (ap (λ es. record (journal_of outs) { entries = (journal_of outs).entries ++ es }) none
        ∙ ap (λ es. record (journal_of outs) { entries = es }) (append-nil (journal_of outs).entries)) may

    pub stops_plain : (outs : List (Output S D Stored K G C)) (out : Output S D Stored K G C) → entries_in out ≡ []
        → written (journal_of outs) out ≡ journal_of outs
        → MayStopAfterEach same elect bytes_of term_length i earlier all outs
        → MayStopAfterEach same elect bytes_of term_length i earlier all (outs ++ out ∷ [])
    stops_plain outs out none unwritten before =
        stops_further outs out before (stop_plain outs out none unwritten (stop_last outs before))
        (λ entries part rest is parted. stop_empty outs part
        (no_front part.items rest (sym parted ∙ sym (ap (λ o. entries_in o) is) ∙ none)) (stop_last outs before))

    -- votes
    stops_votes : (votes : List (Vote D G)) (outs : List (Output S D Stored K G C))
        → MayStopAfterEach same elect bytes_of term_length i earlier all outs
        → MayStopAfterEach same elect bytes_of term_length i earlier all (outs ++ map output.Vote votes)
    stops_votes [] outs before = subst (MayStopAfterEach same elect bytes_of term_length i earlier all)
        (sym (append-nil outs)) before
    stops_votes (v ∷ vs) outs before =
        subst (MayStopAfterEach same elect bytes_of term_length i earlier all)
        (append_assoc outs (output.Vote v ∷ []) (map output.Vote vs))
        (stops_votes vs (outs ++ output.Vote v ∷ []) (stops_plain outs (output.Vote v) refl refl before))

    -- one that makes the journal the record of the member as it is
    stop_now : (since : List (TraceEvent D)) → all ≡ earlier ++ since
        → (outs : List (Output S D Stored K G C)) (out : Output S D Stored K G C) (member : SignedMember K L D G)
        → HasHistory same elect term_length i all member.facts
        → IsRecordOf bytes_of member (journal_of (outs ++ out ∷ []))
        → WereSigned all (votes_of_entries (stored_in outs)) → WereSigned all (votes_of_entries (entries_in out))
        → MayStopAfter same elect bytes_of term_length i earlier all (outs ++ out ∷ [])
    stop_now since is outs out member done holds before new = record {
      member = member;
      since = since;
      later = [];
      is_all = is ∙ sym (append-nil (earlier ++ since));
      done = subst (λ xs. HasHistory same elect term_length i xs member.facts) is done;
      holds = holds;
      signed = subst (λ xs. WereSigned xs (votes_of_entries (stored_in (outs ++ out ∷ [])))) is (subst (WereSigned all)
          (sym (ap votes_of_entries (stored_in-append outs (out ∷ [])
          ∙ ap (λ es. stored_in outs ++ es) (append-nil (entries_in out)))
          ∙ votes_in-append (stored_in outs) (entries_in out)))
          (signed_both all (votes_of_entries (stored_in outs)) (votes_of_entries (entries_in out)) before new));
    }

    -- it does so after others that one may stop after
    pub stop_anew : (outs : List (Output S D Stored K G C)) (out : Output S D Stored K G C)
        (member : SignedMember K L D G) → MayStopAfter same elect bytes_of term_length i earlier all outs
        → HasHistory same elect term_length i all member.facts
        → IsRecordOf bytes_of member (journal_of (outs ++ out ∷ []))
        → WereSigned all (votes_of_entries (entries_in out))
        → MayStopAfter same elect bytes_of term_length i earlier all (outs ++ out ∷ [])
    stop_anew outs out member may done holds new =
        stop_now (may.since ++ may.later) (may.is_all ∙ append_assoc earlier may.since may.later) outs out member done
        holds
        (subst (λ xs. WereSigned xs (votes_of_entries (stored_in outs))) (sym may.is_all)
        (signed_still (earlier ++ may.since) may.later (votes_of_entries (stored_in outs)) may.signed)) new

    -- what the record has grown by is stored, and the votes in it leave
    pub stops_stored : (outs : List (Output S D Stored K G C)) (entries : Vec (Artifact S D K G C) Global)
        (member : SignedMember K L D G)
        → HasHistory same elect term_length i all member.facts
        → IsRecordOf bytes_of member (journal_of (outs ++ output.Store entries ∷ []))
        → WereSigned all (votes_of_entries entries.items)
        → StopsIn outs (output.Store entries) → MayStopAfterEach same elect bytes_of term_length i earlier all outs
        → MayStopAfterEach same elect bytes_of term_length i earlier all (outs ++ storing entries)
    stops_stored outs entries member done holds signed within before =
        subst (MayStopAfterEach same elect bytes_of term_length i earlier all)
        (append_assoc outs (output.Store entries ∷ []) (map output.Vote (votes_of_entries entries.items)))
        (stops_votes (votes_of_entries entries.items) (outs ++ output.Store entries ∷ [])
        (stops_further outs (output.Store entries) before
        (stop_anew outs (output.Store entries) member (stop_last outs before) done holds signed) within))

    -- a record is stored in place of all
    module _ (entries : Vec (Artifact S D K G C) Global) (member : SignedMember K L D G)
        (done : HasHistory same elect term_length i all member.facts)
        (signed : WereSigned all (votes_recorded member.votes))
        (same_entries : entries_of bytes_of entries.items ≡ member.facts.entries)
        (same_votes : votes_of entries.items ≡ member.votes) where
      pub signed_in_all : WereSigned all (votes_of_entries entries.items)
      signed_in_all = subst (WereSigned all) (sym (all_signed entries.items ∙ ap votes_recorded same_votes)) signed

      replaced_now : (outs : List (Output S D Stored K G C))
          → IsRecordOf bytes_of member (journal_of (outs ++ output.Replace entries (stored_of member.facts) ∷ []))
      replaced_now outs =
          subst (IsRecordOf bytes_of member)
          (sym (behind_others outs (output.Replace entries (stored_of member.facts) ∷ [])))
          (record { entries = same_entries; votes = same_votes; beside = refl })

      pub stops_replaced : (outs : List (Output S D Stored K G C))
          → MayStopAfterEach same elect bytes_of term_length i earlier all outs
          → MayStopAfterEach same elect bytes_of term_length i earlier all
          (outs ++ output.Replace entries (stored_of member.facts) ∷ [])
      stops_replaced outs before =
          stops_further outs (output.Replace entries (stored_of member.facts)) before
          (stop_anew outs (output.Replace entries (stored_of member.facts)) member (stop_last outs before) done
          (replaced_now outs) signed_in_all)
          (λ others part rest is parted. absurd (cc))

    -- a proposal is reported as final, or nothing is
    replied_where : (given : List (Output S D Stored K G C)) (old new : Outbox S D Stored K G C) (p : Proposal D)
        (is_above : Bool) → IsPassedIf is_above p old new
        → MayStopAfterEach same elect bytes_of term_length i earlier all (given ++ old.queue.items)
        → MayStopAfterEach same elect bytes_of term_length i earlier all (given ++ new.queue.items)
    replied_where given old new p true is before =
        subst (MayStopAfterEach same elect bytes_of term_length i earlier all)
        (append_assoc given old.queue.items (output.Finalized p ∷ []) ∙ ap (λ q. given ++ q) (sym is.0))
        (stops_plain (given ++ old.queue.items) (output.Finalized p) refl refl before)
    replied_where given old new p false is before =
        subst (λ q. MayStopAfterEach same elect bytes_of term_length i earlier all (given ++ q)) (sym is.0) before

    pub stops_replied : (given : List (Output S D Stored K G C)) (old new : Outbox S D Stored K G C)
        (finalized : Option (Proposal D)) → IsReported finalized old new
        → MayStopAfterEach same elect bytes_of term_length i earlier all (given ++ old.queue.items)
        → MayStopAfterEach same elect bytes_of term_length i earlier all (given ++ new.queue.items)
    stops_replied given old new None is before =
        subst (λ q. MayStopAfterEach same elect bytes_of term_length i earlier all (given ++ q)) (sym is.0) before
    stops_replied given old new (Some p) is before = replied_where given old new p
        (nat_lt old.reported p.round.view) is before

    stops_within : (outs : List (Output S D Stored K G C))
        → MayStopAfterEach same elect bytes_of term_length i earlier all outs
        → (first : Output S D Stored K G C) (rest carried : List (Output S D Stored K G C)) → outs ≡ first ∷ rest
        → MayBeCarriedOut rest carried
        → MayStopAfter same elect bytes_of term_length i earlier all (first ∷ carried)
    stops_within [] may first rest carried is was = absurd may
    stops_within (out ∷ others) may first rest carried is was =
        let head : out ≡ first = cc in
        let tail : others ≡ rest = cc in
        subst (λ o. MayStopAfter same elect bytes_of term_length i earlier all (o ∷ carried)) head
        (may carried (subst (λ outs. MayBeCarriedOut outs carried) (sym tail) was))

    -- what was carried out comes after what stores it
    carried_behind : (first : Output S D Stored K G C) (rest carried : List (Output S D Stored K G C))
        → AreBehind [] (first ∷ rest) → MayBeCarriedOut rest carried → AreBehind [] (first ∷ carried)
    carried_behind first rest carried behind (inl (back, is)) =
        beginning [] (first ∷ carried) back (subst (λ outs. AreBehind [] (first ∷ outs)) is behind)
    carried_behind first rest carried behind (inr torn) =
        subst (λ outs. AreBehind [] (first ∷ outs)) (sym torn.carried_is)
        (joined [] (first ∷ torn.front) (output.Store torn.part ∷ [])
        (beginning [] (first ∷ torn.front) (output.Store torn.entries ∷ torn.back)
        (subst (λ outs. AreBehind [] (first ∷ outs)) torn.outs_are behind)) (tt, tt))

    pub lawful_stops : (outs : List (Output S D Stored K G C)) → AreBehind [] outs
        → MayStopAfterEach same elect bytes_of term_length i earlier all outs
        → EachStopIsLawful same elect bytes_of term_length i earlier all outs
    lawful_stops outs behind may first rest carried is was =
        let stop = stops_within outs may first rest carried is was in
        record {
          may = stop;
          votes = λ vote has. stop.signed vote (left_stored [] (first ∷ carried)
              (carried_behind first rest carried (subst (AreBehind []) is behind) was) vote has);
        }

-- a lifetime begins with a whole record
module _ {S L D K G C : Type 0} (same : D → D → Bool) (elect : Elect L) (bytes_of : C → List ℕ) (term_length i : ℕ)
    (earlier : List (TraceEvent D)) where
  pub stops_begun : (entries : Vec (Artifact S D K G C) Global) (member : SignedMember K L D G)
      → HasHistory same elect term_length i earlier member.facts → WereSigned earlier (votes_recorded member.votes)
      → entries_of bytes_of entries.items ≡ member.facts.entries → votes_of entries.items ≡ member.votes
      → MayStopAfterEach same elect bytes_of term_length i earlier earlier
      (output.Replace entries (stored_of member.facts) ∷ [])
  stops_begun entries member done signed same_entries same_votes = λ carried was.
      subst (λ outs. MayStopAfter same elect bytes_of term_length i earlier earlier
      (output.Replace entries (stored_of member.facts) ∷ outs)) (sym (none_carried carried was))
      (stop_now same elect bytes_of term_length i earlier earlier [] (sym (append-nil earlier)) []
      (output.Replace entries (stored_of member.facts)) member done
      (replaced_now same elect bytes_of term_length i earlier earlier entries member done signed same_entries same_votes
      []) (λ vote has. none vote has)
      (signed_in_all same elect bytes_of term_length i earlier earlier entries member done signed same_entries
      same_votes))
    where
      none_carried : (carried : List (Output S D Stored K G C)) → MayBeCarriedOut [] carried → carried ≡ []
      none_carried carried (inl (back, is)) = no_front carried back (sym is)
      none_carried carried (inr torn) = by_front torn.front torn.outs_are
        where
          by_front : (front : List (Output S D Stored K G C)) → [] ≡ front ++ output.Store torn.entries ∷ torn.back
              → carried ≡ []
          by_front [] is = absurd (cc)
          by_front (f ∷ front) is = absurd (cc)

      none : {P : Type 0} (vote : Vote D G) → Contains [] vote → P
      none vote has = absurd (omega (arith, has.1))
