-- For the code of the engine.
-- What a journal holds that carries outputs out.
use Rattle.std.proofs.Common.{◌≡◌, ◌≤◌, ℕ, ◌+◌, suc, List, [], ◌∷◌, ◌++◌, map, length, take, drop, filter, Option, Some, Vec, refl, ap, sym, ◌∙◌, append_assoc, append-nil, arith, length-append}
use Rattle.std.specs.declared.alloc.Global.{Global}
use Rattle.std.proofs.Math.Seq.{take-append_seam, drop-append_seam}
use Rattle.std.proofs.lemmas.Grind.{flat_map-append}
use Rattle.std.proofs.lemmas.List.{map-append, length-map, drop_all}
use Rattle.std.proofs.lemmas.List.Elements.{filter-append}
use Rattle.simplex_types.specs.Certificates.{ArtifactFacts, NotarizeVote, NullifyVote, FinalizeVote, artifact_facts, signature_in}
use Rattle.simplex_types.specs.declared.types.messages.Artifact.{Artifact}
use Rattle.simplex_types.specs.declared.types.messages.Artifact.TheVariants as artifact
use Rattle.simplex_record.specs.Cuts.{is_vote}
use Rattle.simplex_record.specs.Entries.{entries_of}
use Rattle.simplex_record.specs.Votes.{SignedVote, signed_vote, votes_of}
use Rattle.simplex_member.specs.Journal.{stored_of, votes_since}
use Rattle.simplex_member.specs.MemberFacts.{SignedMember}
use Rattle.simplex_member.specs.declared.member.journal.Stored.{Stored}
use Rattle.engine_outbox.specs.declared.output.Output.{Output}
use Rattle.engine_outbox.specs.declared.output.Output.TheVariants as output
use Rattle.engine_votes.specs.declared.votes.Vote.{Vote}
use Rattle.engine_outbox.specs.Entries.{votes_of_entries, AreCopies}
use Rattle.engine_outbox.specs.Outputs.{storing}
use Rattle.engine_outbox.specs.Journals.{Journal, empty_journal, written, written_all, journal_of, IsRecordOf, IsBeginningOf}

module _ {S D J K G C : Type 0} where
  written-append : (journal : Journal S D J K G C) (xs ys : List (Output S D J K G C))
      → written_all journal (xs ++ ys) ≡ written_all (written_all journal xs) ys
  written-append journal [] ys = refl
  written-append journal (x ∷ xs) ys = written-append (written journal x) xs ys

  -- a journal takes no votes
  votes_unwritten : (journal : Journal S D J K G C) (votes : List (Vote D G))
      → written_all journal (map output.Vote votes) ≡ journal
  votes_unwritten journal [] = refl
  votes_unwritten journal (v ∷ vs) = votes_unwritten journal vs

  -- after others
  pub behind_others : (outs more : List (Output S D J K G C))
      → journal_of (outs ++ more) ≡ written_all (journal_of outs) more
  behind_others outs more = written-append empty_journal outs more

  pub stored_behind : (outs : List (Output S D J K G C)) (entries : Vec (Artifact S D K G C) Global)
      → journal_of (outs ++ storing entries) ≡ record
      { entries = (journal_of outs).entries ++ entries.items; beside = (journal_of outs).beside }
  stored_behind outs entries =
      behind_others outs (storing entries)
      ∙ votes_unwritten (written (journal_of outs) (output.Store entries)) (votes_of_entries entries.items)

-- the vote of an entry with its signature
signed_as : {D G : Type 0} → ArtifactFacts D → Option G → List (SignedVote D G)
signed_as (NotarizeVote p signer) (Some g) = record { vote = NotarizeVote p signer; signature = g } ∷ []
signed_as (NullifyVote round signer) (Some g) = record { vote = NullifyVote round signer; signature = g } ∷ []
signed_as (FinalizeVote p signer) (Some g) = record { vote = FinalizeVote p signer; signature = g } ∷ []
signed_as _ _ = []

module _ {S D K G C : Type 0} (bytes_of : C → List ℕ) where
  signed_so : (a : Artifact S D K G C) → signed_vote a ≡ signed_as (artifact_facts bytes_of a) (signature_in a)
  unfolding signed_as
  signed_so (artifact.Notarize v) = refl
  signed_so (artifact.Nullify v) = refl
  signed_so (artifact.Finalize v) = refl
  signed_so (artifact.Notarization n) = refl
  signed_so (artifact.Nullification n) = refl
  signed_so (artifact.Finalization f) = refl
  signed_so (artifact.Certification round success) = refl

  -- copies have the same votes
  pub copied_votes : (entries copies : List (Artifact S D K G C)) → AreCopies bytes_of entries copies
      → votes_of copies ≡ votes_of entries
  copied_votes [] [] are = refl
  copied_votes [] (c ∷ cs) are = cc
  copied_votes (e ∷ es) [] are = cc
  copied_votes (e ∷ es) (c ∷ cs) are =
      let same_facts : artifact_facts bytes_of c ≡ artifact_facts bytes_of e = cc in
      let same_signature : signature_in c ≡ signature_in e = cc in
      let rest_facts : map (artifact_facts bytes_of) cs ≡ map (artifact_facts bytes_of) es = cc in
      let rest_signatures : map signature_in cs ≡ map signature_in es = cc in
      let head : signed_vote c ≡ signed_vote e = signed_so c ∙ ap (λ f. signed_as f (signature_in c)) same_facts
      ∙ ap (λ g. signed_as (artifact_facts bytes_of e) g) same_signature ∙ sym (signed_so e) in
      ap (λ v. v ++ votes_of cs) head ∙ ap (λ vs. signed_vote e ++ vs)
      (copied_votes es cs (rest_facts, rest_signatures))

  -- as many entries are votes
  pub votes_counted : (items : List (Artifact S D K G C))
      → length (filter is_vote (entries_of bytes_of items)) ≡ length (votes_of items)
  votes_counted [] = refl
  votes_counted (artifact.Notarize v ∷ items) = ap suc (votes_counted items)
  votes_counted (artifact.Nullify v ∷ items) = ap suc (votes_counted items)
  votes_counted (artifact.Finalize v ∷ items) = ap suc (votes_counted items)
  votes_counted (artifact.Notarization n ∷ items) = votes_counted items
  votes_counted (artifact.Nullification n ∷ items) = votes_counted items
  votes_counted (artifact.Finalization f ∷ items) = votes_counted items
  votes_counted (artifact.Certification round success ∷ items) = votes_counted items

module _ {S L D K G C : Type 0} (bytes_of : C → List ℕ) (m : SignedMember K L D G) (count : ℕ)
    (journal : Journal S D Stored K G C) (begun : IsBeginningOf bytes_of m count journal) where
  abbrev held : List (ArtifactFacts D)
  held = entries_of bytes_of journal.entries

  -- a member whose record has grown
  abbrev pub still_begun : (next : SignedMember K L D G) (more : List (ArtifactFacts D)) (votes : List (SignedVote D G))
      → next.facts.entries ≡ m.facts.entries ++ more → next.votes ≡ m.votes ++ votes
      → stored_of next.facts ≡ stored_of m.facts → IsBeginningOf bytes_of next count journal
  still_begun next more votes grown voted same = record {
    rest = begun.rest ++ more;
    votes_left = begun.votes_left ++ votes;
    entries = grown ∙ ap (λ es. es ++ more) begun.entries ∙ append_assoc held begun.rest more;
    votes = voted ∙ ap (λ vs. vs ++ votes) begun.votes ∙ append_assoc (votes_of journal.entries) begun.votes_left votes;
    count_is = begun.count_is;
    beside = begun.beside ∙ ap Some (sym same);
  }

  same_count : count ≡ length held
  same_count = sym begun.count_is ∙ sym (length-map journal.entries (artifact_facts bytes_of))

  pub entries_left : drop count m.facts.entries ≡ begun.rest
  entries_left = ap (λ n. drop n m.facts.entries) same_count ∙ ap (drop (length held)) begun.entries
      ∙ drop-append_seam held begun.rest

  pub entries_held : take count m.facts.entries ≡ held
  entries_held = ap (λ n. take n m.facts.entries) same_count ∙ ap (take (length held)) begun.entries
      ∙ take-append_seam held begun.rest

  pub votes_behind : votes_since count m ≡ begun.votes_left
  votes_behind =
      ap (λ es. drop (length (filter is_vote es)) m.votes) entries_held
      ∙ ap (λ n. drop n m.votes) (votes_counted bytes_of journal.entries)
      ∙ ap (drop (length (votes_of journal.entries))) begun.votes
      ∙ drop-append_seam (votes_of journal.entries) begun.votes_left

  -- with all that is after it is the record
  pub with_all_behind : (copies : List (Artifact S D K G C)) → entries_of bytes_of copies ≡ drop count m.facts.entries
      → votes_of copies ≡ votes_since count m
      → IsRecordOf bytes_of m (record { entries = journal.entries ++ copies; beside = journal.beside })
  with_all_behind copies copied voted = record {
    entries = map-append (artifact_facts bytes_of) journal.entries copies
        ∙ ap (λ es. held ++ es) (copied ∙ entries_left) ∙ sym begun.entries;
    votes = flat_map-append signed_vote journal.entries copies
        ∙ ap (λ vs. votes_of journal.entries ++ vs) (voted ∙ votes_behind) ∙ sym begun.votes;
    beside = begun.beside;
  }

  module _ (all : List (Artifact S D K G C)) (all_entries : entries_of bytes_of all ≡ m.facts.entries)
      (all_votes : votes_of all ≡ m.votes) where
    -- as many of the later ones are votes
    pub votes_behind_counted : length (filter is_vote begun.rest) ≡ length begun.votes_left
    votes_behind_counted =
        let held_votes = votes_counted bytes_of journal.entries in
        let all_counted : length (filter is_vote held) + length (filter is_vote begun.rest) ≡ length
        (votes_of journal.entries) + length begun.votes_left =
        sym (length-append (filter is_vote held) (filter is_vote begun.rest))
        ∙ ap length (sym (filter-append is_vote held begun.rest))
        ∙ ap (λ es. length (filter is_vote es)) (sym begun.entries ∙ sym all_entries)
        ∙ votes_counted bytes_of all ∙ ap length (all_votes ∙ begun.votes)
        ∙ length-append (votes_of journal.entries) begun.votes_left in
        omega (arith, held_votes, all_counted)

    -- the later ones were stored too
    pub stored_too : (copies : List (Artifact S D K G C)) → entries_of bytes_of copies ≡ drop count m.facts.entries
        → votes_of copies ≡ votes_since count m
        → IsBeginningOf bytes_of m (length all)
        (record { entries = journal.entries ++ copies; beside = journal.beside })
    stored_too copies copied voted =
        let entries : m.facts.entries ≡ entries_of bytes_of (journal.entries ++ copies) =
        begun.entries ∙ ap (λ es. held ++ es) (sym (copied ∙ entries_left))
        ∙ sym (map-append (artifact_facts bytes_of) journal.entries copies) in
        record {
          rest = [];
          votes_left = [];
          entries = entries ∙ sym (append-nil (entries_of bytes_of (journal.entries ++ copies)));
          votes =
              begun.votes ∙ ap (λ vs. votes_of journal.entries ++ vs) (sym (voted ∙ votes_behind))
              ∙ sym (flat_map-append signed_vote journal.entries copies)
              ∙ sym (append-nil (votes_of (journal.entries ++ copies)));
          count_is =
              sym (length-map (journal.entries ++ copies) (artifact_facts bytes_of))
              ∙ ap length (sym (all_entries ∙ entries)) ∙ length-map all (artifact_facts bytes_of);
          beside = begun.beside;
        }

    -- nothing comes after
    pub is_record : length m.facts.entries ≤ count → IsRecordOf bytes_of m journal
    is_record whole =
        let no_rest : begun.rest ≡ [] = sym entries_left ∙ drop_all count m.facts.entries whole in
        let entries : held ≡ m.facts.entries = sym (begun.entries ∙ ap (λ es. held ++ es) no_rest ∙ append-nil held) in
        let counted : length m.votes ≡ length (votes_of journal.entries) =
        ap length (sym all_votes) ∙ sym (votes_counted bytes_of all)
        ∙ ap (λ es. length (filter is_vote es)) (all_entries ∙ sym entries)
        ∙ votes_counted bytes_of journal.entries in
        let no_votes : begun.votes_left ≡ [] = empty_behind (votes_of journal.entries) begun.votes_left
        (ap length (sym begun.votes) ∙ counted) in
        record {
          entries = entries;
          votes = sym (begun.votes ∙ ap (λ vs. votes_of journal.entries ++ vs) no_votes
              ∙ append-nil (votes_of journal.entries));
          beside = begun.beside;
        }
      where
        empty_behind : (xs ys : List (SignedVote D G)) → length (xs ++ ys) ≡ length xs → ys ≡ []
        empty_behind xs [] e = refl
        empty_behind xs (y ∷ ys) e = absurd (omega (arith, length-append xs (y ∷ ys), e))

-- a record that is stored whole
pub stored_whole : {S L D K G C : Type 0} (bytes_of : C → List ℕ) (m : SignedMember K L D G)
    (all copies : List (Artifact S D K G C)) → entries_of bytes_of all ≡ m.facts.entries → votes_of all ≡ m.votes
    → AreCopies bytes_of all copies
    → IsBeginningOf bytes_of m (length all) (record { entries = copies; beside = Some (stored_of m.facts) })
stored_whole bytes_of m all copies all_entries all_votes are =
    record {
      rest = [];
      votes_left = [];
      entries = sym (are.0 ∙ all_entries) ∙ sym (append-nil (entries_of bytes_of copies));
      votes = sym (copied_votes bytes_of all copies are ∙ all_votes) ∙ sym (append-nil (votes_of copies));
      count_is = sym (length-map copies (artifact_facts bytes_of)) ∙ ap length are.0
          ∙ length-map all (artifact_facts bytes_of);
      beside = refl;
    }
