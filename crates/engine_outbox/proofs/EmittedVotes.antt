-- For the code of the engine. Each stored vote leaves, by one output after the other.
use Rattle.std.proofs.Common.{◌≡◌, ◌⊎◌, inl, inr, Bool, true, false, cond, nat_lt, List, [], ◌∷◌, ◌++◌, map, filter, Option, Some, None, Vec, zero, suc, refl, ap, sym, subst, ◌∙◌, append_assoc, append-nil, arith}
use Rattle.std.specs.Prelude.{Contains, option_to_list}
use Rattle.std.specs.List.{flat_map}
use Rattle.std.specs.declared.alloc.Global.{Global}
use Rattle.std.proofs.lemmas.List.Elements.{Contains-append_left, Contains-append_right, Contains-append_cases}
use Rattle.simplex_types.specs.declared.types.messages.Artifact.{Artifact}
use Rattle.simplex_types.specs.declared.types.messages.Artifact.TheVariants as artifact
use Rattle.simplex_types.specs.declared.types.messages.Proposal.{Proposal}
use Rattle.simplex_record.specs.Votes.{SignedVote, signed_vote, votes_of}
use Rattle.engine_votes.specs.declared.votes.Vote.{Vote}
use Rattle.laws_safety.proofs.lists.Splits.{Contains-cases}
use Rattle.engine_outbox.specs.declared.outbox.Outbox.{Outbox}
use Rattle.engine_outbox.specs.declared.output.Output.{Output}
use Rattle.engine_outbox.specs.declared.output.Output.TheVariants as output
use Rattle.engine_outbox.specs.Entries.{vote_in, votes_of_entries}
use Rattle.engine_outbox.specs.Journals.{Journal, empty_journal, written_all, journal_of}
use Rattle.engine_outbox.specs.EmittedVotes.{AllAreReturned}
use Rattle.engine_outbox.specs.Outboxes.{IsPassedIf, IsReported}
use Rattle.engine_outbox.specs.Outputs.{entries_in, stored_in, storing}
use Rattle.engine_outbox.specs.HostStops.{vote_as}
use Rattle.engine_outbox.proofs.Behind.{votes_in-append, stored_in-append, stored_by}

none_in : {X P : Type 0} (x : X) → Contains [] x → P
none_in x has = absurd (omega (arith, has.1))

in_front : {X : Type 0} (y : X) (xs : List X) (x : X) → y ≡ x → Contains (y ∷ xs) x
in_front y xs x same = (zero, omega arith, same)

one_later : {X : Type 0} (y : X) (xs : List X) (x : X) → Contains xs x → Contains (y ∷ xs) x
one_later y xs x (k, less, same) = (suc k, omega (arith, less), same)

-- ---- votes by their entries and signatures

module _ {D G : Type 0} where
  -- the vote that an entry is, with its signature
  abbrev pub to_vote : SignedVote D G → List (Vote D G)
  to_vote signed = vote_as signed.vote signed.signature

  -- fewer votes are among all
  pub among_all : (test : SignedVote D G → Bool) (all : List (SignedVote D G)) (vote : Vote D G)
      → Contains (flat_map to_vote (filter test all)) vote → Contains (flat_map to_vote all) vote
  among_all test [] vote has = has
  among_all test (signed ∷ rest) vote has =
      (elim (test signed) as (λ b. Contains (flat_map to_vote (cond b (signed ∷ filter test rest) (filter test rest)))
      vote → Contains (flat_map to_vote (signed ∷ rest)) vote) [
        | true ↦ λ has. elim (Contains-append_cases (to_vote signed) (flat_map to_vote (filter test rest)) vote has) [
          | inl here ↦ Contains-append_left (to_vote signed) (flat_map to_vote rest) vote here
          | inr later ↦ Contains-append_right (to_vote signed) (flat_map to_vote rest) vote
              (among_all test rest vote later)
        ]
        | false ↦ λ has. Contains-append_right (to_vote signed) (flat_map to_vote rest) vote
            (among_all test rest vote has)
      ]) has

  pub flat_append : (xs ys : List (SignedVote D G))
      → flat_map to_vote (xs ++ ys) ≡ flat_map to_vote xs ++ flat_map to_vote ys
  flat_append [] ys = refl
  flat_append (x ∷ xs) ys = ap (λ vs. to_vote x ++ vs) (flat_append xs ys)
      ∙ sym (append_assoc (to_vote x) (flat_map to_vote xs) (flat_map to_vote ys))

module _ {S D K G C : Type 0} where
  one_signed : (a : Artifact S D K G C) → option_to_list (vote_in a) ≡ flat_map to_vote (signed_vote a)
  one_signed (artifact.Notarize v) = refl
  one_signed (artifact.Nullify v) = refl
  one_signed (artifact.Finalize v) = refl
  one_signed (artifact.Notarization n) = refl
  one_signed (artifact.Nullification n) = refl
  one_signed (artifact.Finalization f) = refl
  one_signed (artifact.Certification round success) = refl

  pub all_signed : (entries : List (Artifact S D K G C))
      → votes_of_entries entries ≡ flat_map to_vote (votes_of entries)
  all_signed [] = refl
  all_signed (e ∷ rest) =
      ap (λ vs. vs ++ votes_of_entries rest) (one_signed e)
      ∙ ap (λ vs. flat_map to_vote (signed_vote e) ++ vs) (all_signed rest)
      ∙ sym (flat_append (signed_vote e) (votes_of rest))

  -- of a record that is pruned no vote is new
  pub none_is_new : (test : SignedVote D G → Bool) (old new : List (Artifact S D K G C))
      → votes_of new ≡ filter test (votes_of old)
      → (vote : Vote D G) → Contains (votes_of_entries new) vote → Contains (votes_of_entries old) vote
  none_is_new test old new left vote has =
      subst (λ vs. Contains vs vote) (sym (all_signed old))
      (among_all test (votes_of old) vote
      (subst (λ vs. Contains vs vote) (all_signed new ∙ ap (flat_map to_vote) left) has))

-- ---- what a journal holds was stored

module _ {S D J K G C : Type 0} where
  among_written : (journal : Journal S D J K G C) (outs : List (Output S D J K G C)) (vote : Vote D G)
      → Contains (votes_of_entries (written_all journal outs).entries) vote
      → Contains (votes_of_entries (journal.entries ++ stored_in outs)) vote
  among_written journal [] vote has = subst (λ es. Contains (votes_of_entries es) vote)
      (sym (append-nil journal.entries)) has
  among_written journal (output.Store entries ∷ rest) vote has =
      subst (λ es. Contains (votes_of_entries es) vote) (append_assoc journal.entries entries.items (stored_in rest))
      (among_written (record journal { entries = journal.entries ++ entries.items }) rest vote has)
  among_written journal (output.Replace entries beside ∷ rest) vote has =
      let later = entries.items ++ stored_in rest in
      subst (λ vs. Contains vs vote) (sym (votes_in-append journal.entries later))
      (Contains-append_right (votes_of_entries journal.entries) (votes_of_entries later) vote
      (among_written (record { entries = entries.items; beside = Some beside }) rest vote has))
  among_written journal (output.Vote v ∷ rest) vote has = among_written journal rest vote has
  among_written journal (output.Work w ∷ rest) vote has = among_written journal rest vote has
  among_written journal (output.Finalized p ∷ rest) vote has = among_written journal rest vote has

  pub was_stored : (outs : List (Output S D J K G C)) (vote : Vote D G)
      → Contains (votes_of_entries (journal_of outs).entries) vote → Contains (votes_of_entries (stored_in outs)) vote
  was_stored outs vote has = among_written empty_journal outs vote has

-- ---- one output after the other

module _ {S D J K G C : Type 0} where
  -- after others, where each vote that these outputs store leaves among them, or was stored before
  pub leave_behind : (outs more : List (Output S D J K G C))
      → ((vote : Vote D G) → Contains (votes_of_entries (stored_in more)) vote
      → Contains (votes_of_entries (stored_in outs)) vote ⊎ Contains more (output.Vote vote))
      → AllAreReturned more → AllAreReturned outs → AllAreReturned (outs ++ more)
  leave_behind [] more each alone before = alone
  leave_behind (first ∷ rest) more each alone before = λ vote has.
      elim (Contains-append_cases (votes_of_entries (stored_in rest)) (votes_of_entries (stored_in more)) vote
      (subst (λ vs. Contains vs vote)
      (ap votes_of_entries (stored_in-append rest more) ∙ votes_in-append (stored_in rest) (stored_in more)) has)) [
        | inl early ↦ settled vote (before vote early)
        | inr late ↦ elim (each vote late) [
          | inl stored ↦
              elim (Contains-append_cases (votes_of_entries (entries_in first)) (votes_of_entries (stored_in rest)) vote
              (subst (λ vs. Contains vs vote) (votes_in-append (entries_in first) (stored_in rest)) stored)) [
                | inl begun ↦ inl begun
                | inr early ↦ settled vote (before vote early)
              ]
          | inr leaves ↦ inr (Contains-append_right rest more (output.Vote vote) leaves)
        ]
      ]
    where
      settled : (vote : Vote D G) → Contains (votes_of_entries (entries_in first)) vote
          ⊎ Contains rest (output.Vote vote)
          → Contains (votes_of_entries (entries_in first)) vote ⊎ Contains (rest ++ more) (output.Vote vote)
      settled vote (inl begun) = inl begun
      settled vote (inr leaves) = inr (Contains-append_left rest more (output.Vote vote) leaves)

  -- one output that stores nothing
  pub leave_plain : (outs : List (Output S D J K G C)) (out : Output S D J K G C) → entries_in out ≡ []
      → AllAreReturned outs → AllAreReturned (outs ++ out ∷ [])
  leave_plain outs out plain before =
      leave_behind outs (out ∷ []) (λ vote has.
      none_in vote (subst (λ es. Contains (votes_of_entries es) vote) (append-nil (entries_in out) ∙ plain) has))
      (λ vote has. none_in vote has) before

  -- entries, and after them the votes among them
  pub leave_stored : (outs : List (Output S D J K G C)) (entries : Vec (Artifact S D K G C) Global)
      → AllAreReturned outs → AllAreReturned (outs ++ storing entries)
  leave_stored outs entries before =
      leave_behind outs (storing entries)
      (λ vote has. inr (later vote (still_mapped (votes_of_entries entries.items) vote
      (subst (λ es. Contains (votes_of_entries es) vote) (stored_by J entries) has))))
      (λ vote has. none_in vote
      (subst (λ es. Contains (votes_of_entries es) vote) (none_stored (votes_of_entries entries.items)) has)) before
    where
      none_stored : (votes : List (Vote D G)) → stored_in {S = S} {J = J} {K = K} {C = C} (map output.Vote votes) ≡ []
      none_stored [] = refl
      none_stored (v ∷ vs) = none_stored vs

      still_mapped : (votes : List (Vote D G)) (vote : Vote D G) → Contains votes vote
          → Contains {X = Output S D J K G C} (map output.Vote votes) (output.Vote vote)
      still_mapped [] vote has = none_in vote has
      still_mapped (v ∷ vs) vote has = elim (Contains-cases v vs vote has) [
        | inl here ↦ in_front (output.Vote v) (map output.Vote vs) (output.Vote vote) (ap output.Vote here)
        | inr rest ↦ one_later (output.Vote v) (map output.Vote vs) (output.Vote vote) (still_mapped vs vote rest)
      ]

      later : (vote : Vote D G) → Contains {X = Output S D J K G C} (map output.Vote (votes_of_entries entries.items))
          (output.Vote vote) → Contains {X = Output S D J K G C} (storing entries) (output.Vote vote)
      later vote has = one_later (output.Store entries) (map output.Vote (votes_of_entries entries.items))
          (output.Vote vote) has

  -- a record, in place of all entries, none of whose votes is new
  pub leave_replaced : (outs : List (Output S D J K G C)) (entries : Vec (Artifact S D K G C) Global) (beside : J)
      → ((vote : Vote D G) → Contains (votes_of_entries entries.items) vote
      → Contains (votes_of_entries (stored_in outs)) vote)
      → AllAreReturned outs → AllAreReturned (outs ++ output.Replace entries beside ∷ [])
  leave_replaced outs entries beside old before =
      leave_behind outs (output.Replace entries beside ∷ [])
      (λ vote has.
      inl (old vote (subst (λ es. Contains (votes_of_entries es) vote) (append-nil entries.items) has)))
      (λ vote has. none_in vote has) before

  -- a lifetime begins with one
  pub leave_begun : (entries : Vec (Artifact S D K G C) Global) (beside : J)
      → AllAreReturned {S = S} {K = K} (output.Replace entries beside ∷ [])
  leave_begun entries beside = λ vote has. none_in vote has

  leave_replied_where : (given : List (Output S D J K G C)) (old new : Outbox S D J K G C) (p : Proposal D)
      (is_above : Bool) → IsPassedIf is_above p old new
      → AllAreReturned (given ++ old.queue.items) → AllAreReturned (given ++ new.queue.items)
  leave_replied_where given old new p true is before =
      subst AllAreReturned
      (sym (ap (λ q. given ++ q) is.0 ∙ sym (append_assoc given old.queue.items (output.Finalized p ∷ []))))
      (leave_plain (given ++ old.queue.items) (output.Finalized p) refl before)
  leave_replied_where given old new p false is before = subst (λ q. AllAreReturned (given ++ q)) (sym is.0) before

  -- a proposal that is final, where one is reported
  pub leave_replied : (given : List (Output S D J K G C)) (old new : Outbox S D J K G C)
      (finalized : Option (Proposal D))
      → IsReported finalized old new
      → AllAreReturned (given ++ old.queue.items) → AllAreReturned (given ++ new.queue.items)
  leave_replied given old new None is before = subst (λ q. AllAreReturned (given ++ q)) (sym is.0) before
  leave_replied given old new (Some p) is before =
      leave_replied_where given old new p (nat_lt old.reported p.round.view) is before
