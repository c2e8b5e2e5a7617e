-- When a host stops between two outputs, or amid a `Store`: the journal that was written so far is the record of a
-- member.
use Rattle.std.specs.Prelude.{◌≡◌, ◌⊎◌, ℕ, Bool, List, [], ◌∷◌, ◌++◌, drop, Contains, Vec}
use Rattle.std.specs.List.{flat_map}
use Rattle.std.specs.declared.alloc.Global.{Global}
use Rattle.simplex_types.specs.Certificates.{ArtifactFacts, NotarizeVote, NullifyVote, FinalizeVote}
use Rattle.simplex_types.specs.declared.types.messages.Subject.TheVariants as subject
use Rattle.simplex_types.specs.declared.types.messages.Artifact.{Artifact}
use Rattle.simplex_record.specs.Entries.{entries_of}
use Rattle.simplex_record.specs.Votes.{SignedVote, votes_of}
use Rattle.simplex_voter.specs.Facts.{Elect}
use Rattle.simplex_member.specs.Journal.{votes_since}
use Rattle.simplex_member.specs.MemberFacts.{SignedMember}
use Rattle.simplex_member.specs.declared.member.journal.Stored.{Stored}
use Rattle.laws_safety.specs.Traces.{TraceEvent, Signs}
use Rattle.laws_safety.specs.MemberHistory.{HasHistory}
use Rattle.engine_votes.specs.declared.votes.Vote.{Vote}
use Rattle.engine_outbox.specs.declared.output.Output.{Output}
use Rattle.engine_outbox.specs.declared.output.Output.TheVariants as output
use Rattle.engine_outbox.specs.Entries.{votes_of_entries}
use Rattle.engine_outbox.specs.Journals.{journal_of, IsRecordOf}
use Rattle.engine_outbox.specs.Outputs.{stored_in}

module _ {D G : Type 0} where
  -- the vote that these facts are, with its signature
  abbrev pub vote_as : ArtifactFacts D → G → List (Vote D G)
  vote_as (NotarizeVote p signer) signature =
      record { subject = subject.Notarize p; signer = signer; signature = signature } ∷ []
  vote_as (NullifyVote round signer) signature =
      record { subject = subject.Nullify round; signer = signer; signature = signature } ∷ []
  vote_as (FinalizeVote p signer) signature =
      record { subject = subject.Finalize p; signer = signer; signature = signature } ∷ []
  vote_as _ signature = []

  -- the votes of a record
  abbrev pub votes_recorded : List (SignedVote D G) → List (Vote D G)
  votes_recorded votes = flat_map (λ v. vote_as v.vote v.signature) votes

-- each of these votes was signed
abbrev pub WereSigned : {D G : Type 0} → List (TraceEvent D) → List (Vote D G) → Type 0
WereSigned {D} {G} all votes = (vote : Vote D G) → Contains votes vote → Contains all (Signs vote.signer vote.subject)

module _ {S D J K G C : Type 0} where
  -- of these outputs the first ones were carried out, and of the `Store` after them the first entries
  pub record IsTorn (outs carried : List (Output S D J K G C)) : Type 0 where
    pub front : List (Output S D J K G C)
    pub back : List (Output S D J K G C)
    pub entries : Vec (Artifact S D K G C) Global
    pub part : Vec (Artifact S D K G C) Global
    pub rest : List (Artifact S D K G C)
    pub outs_are : outs ≡ front ++ output.Store entries ∷ back
    pub entries_are : entries.items ≡ part.items ++ rest
    pub carried_is : carried ≡ front ++ output.Store part ∷ []

  -- a host that stops may have carried these out of the outputs: the first ones, or besides a part of a `Store`
  abbrev pub MayBeCarriedOut : List (Output S D J K G C) → List (Output S D J K G C) → Type 0
  MayBeCarriedOut outs carried = ((back : List (Output S D J K G C)) × (outs ≡ carried ++ back)) ⊎ IsTorn outs carried

module _ {S L D K G C : Type 0} (same : D → D → Bool) (elect : Elect L) (bytes_of : C → List ℕ)
    (term_length i : ℕ) (earlier : List (TraceEvent D)) where
  -- a host may stop after these outputs, of a lifetime that began when the member had done `earlier`, and in which it
  -- has done `all` so far: the journal that they write is the record of the member at some moment of this lifetime, and
  -- each vote that they store was signed by then
  pub record MayStopAfter (all : List (TraceEvent D)) (outs : List (Output S D Stored K G C)) : Type 0 where
    pub member : SignedMember K L D G
    pub since : List (TraceEvent D)
    pub later : List (TraceEvent D)
    pub is_all : all ≡ (earlier ++ since) ++ later
    pub done : HasHistory same elect term_length i (earlier ++ since) member.facts
    pub holds : IsRecordOf bytes_of member (journal_of outs)
    pub signed : WereSigned (earlier ++ since) (votes_of_entries (stored_in outs))

  -- it may after each of these outputs, and amid each `Store`; before the first output of a lifetime nothing of it was
  -- written
  abbrev pub MayStopAfterEach : List (TraceEvent D) → List (Output S D Stored K G C) → Type 0
  MayStopAfterEach all [] = ⊥
  MayStopAfterEach all (first ∷ rest) =
      (carried : List (Output S D Stored K G C)) → MayBeCarriedOut rest carried → MayStopAfter all (first ∷ carried)

  -- it may after these outputs and the first entries by which the record has grown since it had this number, however
  -- many of them
  abbrev pub MayStopAmid : List (TraceEvent D) → List (Output S D Stored K G C) → SignedMember K L D G → ℕ → Type 0
  MayStopAmid all outs member count =
      (part : Vec (Artifact S D K G C) Global) (rest : List (Artifact S D K G C))
      → entries_of bytes_of (part.items ++ rest) ≡ drop count member.facts.entries
      → votes_of (part.items ++ rest) ≡ votes_since count member
      → MayStopAfter all (outs ++ output.Store part ∷ [])

  -- a host that stops after these outputs: besides, each vote that it carried out was signed by then
  pub record IsLawfulStop (all : List (TraceEvent D)) (outs : List (Output S D Stored K G C)) : Type 0 where
    pub may : MayStopAfter all outs
    pub votes : (vote : Vote D G) → Contains outs (output.Vote vote)
        → Contains (earlier ++ may.since) (Signs vote.signer vote.subject)

  -- each stop is lawful, once the first of these outputs was carried out
  abbrev pub EachStopIsLawful : List (TraceEvent D) → List (Output S D Stored K G C) → Type 0
  EachStopIsLawful all outs =
      (first : Output S D Stored K G C) (rest carried : List (Output S D Stored K G C)) → outs ≡ first ∷ rest
      → MayBeCarriedOut rest carried
      → IsLawfulStop all (first ∷ carried)
