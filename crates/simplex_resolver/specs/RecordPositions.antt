-- The place of each view's newest notarization in a record. No public clause names it.
use Rattle.std.specs.Prelude.{◌≡◌, ℕ, ◌<◌, ◌≤◌, List, Some, length, take, slice_get}
use Rattle.std.specs.Option.{option_and_then}
use Rattle.std.specs.Ordering.{nat_cmp}
use Rattle.std.specs.FinMap as map
use Rattle.simplex_types.specs.Certificates.{Notarized, ArtifactFacts, Accepted, artifact_facts}
use Rattle.simplex_types.specs.declared.types.messages.Artifact.{Artifact}
use Rattle.simplex_resolver.specs.declared.replay.places.Places.{Places}
use Rattle.simplex_resolver.specs.RecordCalls.{newest_first, notarization_at, newest_notarization}

-- the places with that of one more entry, if it is a notarization
abbrev pub with_place : {D : Type 0} → map.FinMap nat_cmp ℕ → ArtifactFacts D → ℕ → map.FinMap nat_cmp ℕ
with_place m (Accepted (Notarized n)) place = map.insert m n.proposal.round.view place
with_place m _ place = m

module _ {S D K G C : Type 0} (bytes_of : C → List ℕ) where
  -- for the first entries, as many as are noted, the places are those of the newest notarizations of their
  -- views
  pub record AreNoted (p : Places) (entries : List (Artifact S D K G C)) : Type 0 where
    pub count : p.noted ≤ length entries
    pub within : (v i : ℕ) → map.get p.by_view v ≡ Some i → i < p.noted
    pub found : (v : ℕ)
        → option_and_then (λ i. option_and_then (λ a. notarization_at v (artifact_facts bytes_of a))
        (slice_get entries i)) (map.get p.by_view v)
        ≡ newest_notarization v (newest_first bytes_of (take p.noted entries))
