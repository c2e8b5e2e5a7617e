-- The calls of a resolver for a member's record. Entries come newest first, and so do the calls.
use Rattle.std.specs.Prelude.{ℕ, Bool, ◌==◌, if◌then◌else◌, List, [], ◌∷◌, ◌++◌, Option, Some, None, map, reverse}
use Rattle.std.specs.Option.{option_or}
use Rattle.simplex_types.specs.Certificates.{ProposalFacts, Notarized, ArtifactFacts, Verdict, Accepted, artifact_facts}
use Rattle.simplex_types.specs.declared.types.messages.Artifact.{Artifact}
use Rattle.simplex_resolver.specs.Facts.{ResolverFacts}
use Rattle.simplex_resolver.specs.Steps.{Call, Replayed, update, verdict, after}

-- the entries of a record, the newest first
abbrev pub newest_first : {S D K G C : Type 0} → (C → List ℕ) → List (Artifact S D K G C) → List (ArtifactFacts D)
newest_first bytes_of artifacts = reverse (map (artifact_facts bytes_of) artifacts)

module _ {D : Type 0} where
  -- the notarization in an entry, if it is one of the view
  abbrev pub notarization_at : ℕ → ArtifactFacts D → Option (ProposalFacts D)
  notarization_at v (Accepted (Notarized n)) = if n.proposal.round.view == v then Some n else None
  notarization_at v _ = None

  -- the newest notarization of the view
  abbrev pub newest_notarization : ℕ → List (ArtifactFacts D) → Option (ProposalFacts D)
  newest_notarization v [] = None
  newest_notarization v (e ∷ before) = option_or (notarization_at v e) (newest_notarization v before)

module _ {D : Type 0} (payload_bytes : D → List ℕ) where
  -- a verdict on a notarization, if there is one
  abbrev pub verdict_on : Option (ProposalFacts D) → Bool → List Call
  verdict_on None success = []
  verdict_on (Some n) success = verdict payload_bytes n success ∷ []

  -- the call of an entry, given the entries before it: a certificate is passed in, a verdict with the newest
  -- notarization of its view; a vote makes no call
  abbrev pub entry_calls : List (ArtifactFacts D) → ArtifactFacts D → List Call
  entry_calls before (Accepted c) = update payload_bytes c ∷ []
  entry_calls before (Verdict round success) = verdict_on (newest_notarization round.view before) success
  entry_calls before _ = []

  -- the calls of all entries
  abbrev pub calls_of : List (ArtifactFacts D) → List Call
  calls_of [] = []
  calls_of (e ∷ before) = entry_calls before e ++ calls_of before

-- the calls for a record
abbrev pub record_calls : {S D K G C : Type 0} → (D → List ℕ) → (C → List ℕ) → List (Artifact S D K G C) → List Call
record_calls payload_bytes bytes_of artifacts = calls_of payload_bytes (newest_first bytes_of artifacts)

-- the calls of its replay: these, and then the end of the replay
abbrev pub replay_calls : {S D K G C : Type 0} → (D → List ℕ) → (C → List ℕ) → List (Artifact S D K G C) → List Call
replay_calls payload_bytes bytes_of artifacts = Replayed ∷ record_calls payload_bytes bytes_of artifacts

-- the facts after some calls, the last one first. No public clause names it
abbrev pub all_after : ResolverFacts → List Call → ResolverFacts
all_after x [] = x
all_after x (call ∷ earlier) = after (all_after x earlier) call
