-- The votes that entries of a record record.
use Rattle.std.specs.Prelude.{◌≡◌, ℕ, List, [], ◌∷◌, ◌++◌, map, Option, Some, None, option_to_list}
use Rattle.std.specs.Option.{option_map_or}
use Rattle.simplex_types.specs.Certificates.{artifact_facts, signature_in}
use Rattle.simplex_types.specs.declared.types.messages.Artifact.{Artifact}
use Rattle.simplex_types.specs.declared.types.messages.Artifact.TheVariants as artifact
use Rattle.simplex_types.specs.declared.types.messages.Subject.TheVariants as subject
use Rattle.engine_votes.specs.declared.votes.Vote.{Vote}

module _ {S D K G C : Type 0} where
  -- the vote that an entry records, with its signature
  abbrev pub vote_in : Artifact S D K G C → Option (Vote D G)
  vote_in (artifact.Notarize v) =
      Some (record { subject = subject.Notarize v.proposal; signer = v.signer; signature = v.signature })
  vote_in (artifact.Nullify v) =
      Some (record { subject = subject.Nullify v.round; signer = v.signer; signature = v.signature })
  vote_in (artifact.Finalize v) =
      Some (record { subject = subject.Finalize v.proposal; signer = v.signer; signature = v.signature })
  vote_in _ = None

  -- the votes that entries record, in order
  abbrev pub votes_of_entries : List (Artifact S D K G C) → List (Vote D G)
  votes_of_entries [] = []
  votes_of_entries (entry ∷ rest) = option_to_list (vote_in entry) ++ votes_of_entries rest

  -- the vote to nullify that an entry records
  abbrev pub nullify_in : Artifact S D K G C → Option (Vote D G)
  nullify_in (artifact.Nullify v) = vote_in (artifact.Nullify v)
  nullify_in _ = None

  -- the newest vote to nullify that entries record, or else the one before
  abbrev pub newest_from : Option (Vote D G) → List (Artifact S D K G C) → Option (Vote D G)
  newest_from before [] = before
  newest_from before (entry ∷ rest) = newest_from (option_map_or Some (nullify_in entry) before) rest

  -- entries with the same facts, and votes with equal signatures
  abbrev pub AreCopies : (C → List ℕ) → List (Artifact S D K G C) → List (Artifact S D K G C) → Type 0
  AreCopies bytes_of entries copies =
      (map (artifact_facts bytes_of) copies ≡ map (artifact_facts bytes_of) entries)
      × (map signature_in copies ≡ map signature_in entries)
