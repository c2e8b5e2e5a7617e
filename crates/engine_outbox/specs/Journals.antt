-- The contents of a journal that carried outputs out, and that it is a member's record.
use Rattle.std.specs.Prelude.{◌≡◌, ℕ, List, [], ◌∷◌, ◌++◌, length, Option, Some, None, Vec}
use Rattle.std.specs.declared.alloc.Global.{Global}
use Rattle.simplex_types.specs.Certificates.{ArtifactFacts}
use Rattle.simplex_types.specs.declared.types.messages.Artifact.{Artifact}
use Rattle.simplex_record.specs.Entries.{entries_of}
use Rattle.simplex_record.specs.Votes.{SignedVote, votes_of}
use Rattle.simplex_member.specs.Journal.{stored_of}
use Rattle.simplex_member.specs.MemberFacts.{SignedMember}
use Rattle.simplex_member.specs.declared.member.journal.Stored.{Stored}
use Rattle.engine_outbox.specs.declared.output.Output.{Output}
use Rattle.engine_outbox.specs.declared.output.Output.TheVariants.{Store, Replace}

-- the contents of a journal: its entries, oldest first, and what is stored beside them, once something was
pub record Journal (S D J K G C : Type 0) : Type 0 where
  pub entries : List (Artifact S D K G C)
  pub beside : Option J

module _ {S D J K G C : Type 0} where
  -- nothing was stored yet
  abbrev pub empty_journal : Journal S D J K G C
  empty_journal = record { entries = []; beside = None }

  -- an output is carried out
  abbrev pub written : Journal S D J K G C → Output S D J K G C → Journal S D J K G C
  written journal (Store entries) = record journal { entries = journal.entries ++ entries.items }
  written journal (Replace entries beside) = record { entries = entries.items; beside = Some beside }
  written journal _ = journal

  -- outputs are carried out in order
  abbrev pub written_all : Journal S D J K G C → List (Output S D J K G C) → Journal S D J K G C
  written_all journal [] = journal
  written_all journal (out ∷ rest) = written_all (written journal out) rest

  -- the journal after all outputs since the beginning
  abbrev pub journal_of : List (Output S D J K G C) → Journal S D J K G C
  journal_of outs = written_all empty_journal outs

module _ {S L D K G C : Type 0} (bytes_of : C → List ℕ) where
  -- a journal holds a member's record: its entries, its votes with their signatures, and what is stored beside them
  pub record IsRecordOf (member : SignedMember K L D G) (journal : Journal S D Stored K G C) : Type 0 where
    pub entries : entries_of bytes_of journal.entries ≡ member.facts.entries
    pub votes : votes_of journal.entries ≡ member.votes
    pub beside : journal.beside ≡ Some (stored_of member.facts)

  -- there is one output, which stores a member's record in place of all that is stored
  pub record BeginsWith (member : SignedMember K L D G) (outs : List (Output S D Stored K G C)) : Type 0 where
    pub copies : Vec (Artifact S D K G C) Global
    pub outs_are : outs ≡ Replace copies (stored_of member.facts) ∷ []
    pub entries : entries_of bytes_of copies.items ≡ member.facts.entries
    pub votes : votes_of copies.items ≡ member.votes

  -- a journal holds this number of first entries of a member's record
  pub record IsBeginningOf (member : SignedMember K L D G) (count : ℕ)
      (journal : Journal S D Stored K G C) : Type 0 where
    pub rest : List (ArtifactFacts D)
    pub votes_left : List (SignedVote D G)
    pub entries : member.facts.entries ≡ entries_of bytes_of journal.entries ++ rest
    pub votes : member.votes ≡ votes_of journal.entries ++ votes_left
    pub count_is : length journal.entries ≡ count
    pub beside : journal.beside ≡ Some (stored_of member.facts)
