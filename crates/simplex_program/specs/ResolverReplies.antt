-- What a resolver that lines call replies to each line, and its facts and the views with an open fetch then.
use Rattle.std.specs.Prelude.{◌≡◌, ◌≢◌, ℕ, ◌-◌, ◌≤◌, Bool, false, ◌&&◌, if◌then◌else◌, List, [], ◌∷◌}
use Rattle.std.specs.FinMap as map
use Rattle.std.specs.Int.{w64, to_be_bytes}
use Rattle.simplex_types.specs.declared.types.messages.Proposal.{Proposal}
use Rattle.simplex_types.specs.declared.types.fault.Fault.TheVariants.{OutOfMemory, Failed}
use Rattle.simplex_types.specs.declared.reasons.Kind.TheVariants.{Nullification as OfNullification, Notarization as OfNotarization}
use Rattle.simplex_types.specs.declared.types.plain.PlainDigest.{PlainDigest}
use Rattle.simplex_types.specs.Plain.{digest_bytes}
use Rattle.simplex_types.specs.Certificates.{ProposalFacts, NullificationFacts, Notarized, Nullified, Finalized}
use Rattle.simplex_resolver.specs.Facts.{ResolverFacts}
use Rattle.simplex_resolver.specs.Steps.{Call, Replayed as EndOfReplay, update, verdict, after, effects, Refused}
use Rattle.simplex_resolver.specs.Served.{is_settled, served_encoding}
use Rattle.simplex_resolver.specs.Repair.{IsApplied}
use Rattle.simplex_program.specs.declared.resolver_line.ResolverLine.{ResolverLine}
use Rattle.simplex_program.specs.declared.resolver_line.ResolverLine.TheVariants.{Notarization, Nullification, Finalization, Certified, Replayed, Settled, KeySettled, Uncertifiable, Produce, Outstanding}
use Rattle.simplex_program.specs.declared.resolver.Answer.{Answer}
use Rattle.simplex_program.specs.declared.resolver.Answer.TheVariants as answer
use Rattle.simplex_program.specs.Plain.{round_in_epoch}

-- the certificates that lines name: valid ones of epoch 1, whose proposal follows the view before, with payload 0

-- the certificate for any proposal of a view
abbrev pub proposed_at : ℕ → ProposalFacts (List ℕ)
proposed_at v = record {
  proposal = record { round = round_in_epoch v; parent = v - 1; payload = to_be_bytes w64 0 };
  bytes = 1 ∷ [];
}

-- the nullification of a view
abbrev pub nullified_at : ℕ → NullificationFacts
nullified_at v = record { round = round_in_epoch v; bytes = 1 ∷ [] }

-- a proposal is the one that a line names
pub record IsProposedAt (v : ℕ) (p : Proposal PlainDigest) : Type 0 where
  pub above : 1 ≤ v
  pub round : p.round ≡ round_in_epoch v
  pub parent : p.parent ≡ v - 1
  pub payload : digest_bytes p.payload ≡ to_be_bytes w64 0

-- a line's calls of the resolver, by the bytes of the payload

-- the resolver's call for a line on a notarization
abbrev pub notarization_call : ℕ → Call
notarization_call v = update {D = List ℕ} (λ payload. payload) (Notarized (proposed_at v))

-- on a nullification
abbrev pub nullification_call : ℕ → Call
nullification_call v = update {D = List ℕ} (λ payload. payload) (Nullified (nullified_at v))

-- on a finalization
abbrev pub finalization_call : ℕ → Call
finalization_call v = update {D = List ℕ} (λ payload. payload) (Finalized (proposed_at v))

-- on a verdict
abbrev pub verdict_call : ℕ → Bool → Call
verdict_call v success = verdict {D = List ℕ} (λ payload. payload) (proposed_at v) success

-- nothing changes
abbrev pub IsUnchanged : {F : Type 0} → F → List ℕ → F → List ℕ → Type 0
IsUnchanged x fetching y left = (y ≡ x) × (left ≡ fetching)

-- a call returns its effects, which are applied to the open fetches, or is refused
abbrev pub Calls : ResolverFacts → List ℕ → ℕ → Call → Answer → ResolverFacts → List ℕ → Type 0
Calls x fetching v call (answer.Effects replied) y left =
    (x.is_failed ≡ false) × (replied.items ≡ effects x call) × (y ≡ after x call)
    × IsApplied fetching replied.items left
Calls x fetching v call (answer.Fault fault) y left = (fault ≢ OutOfMemory) × Refused x v fault y × (left ≡ fetching)
Calls _ _ _ _ _ _ _ = ⊥

-- a report of view 0 is not allowed, any other is a call
abbrev pub Reports : ResolverFacts → List ℕ → ℕ → Call → Answer → ResolverFacts → List ℕ → Type 0
Reports x fetching v call a y left =
    (v ≡ 0 → (a ≡ answer.NotAllowed) × IsUnchanged x fetching y left) × (1 ≤ v → Calls x fetching v call a y left)

-- the views with an open fetch are the reply
abbrev pub Lists : List ℕ → Answer → Type 0
Lists fetching (answer.Outstanding views) = views.items ≡ fetching
Lists _ _ = ⊥

-- the reply to a line, and the facts and open fetches after it
abbrev pub ResolverAnswers : ResolverFacts → List ℕ → ResolverLine → Answer → ResolverFacts → List ℕ → Type 0
ResolverAnswers x fetching (Notarization v) a y left = Reports x fetching v (notarization_call v) a y left
ResolverAnswers x fetching (Nullification v) a y left = Reports x fetching v (nullification_call v) a y left
ResolverAnswers x fetching (Finalization v) a y left = Reports x fetching v (finalization_call v) a y left
ResolverAnswers x fetching (Certified v success) a y left = Reports x fetching v (verdict_call v success) a y left
ResolverAnswers x fetching Replayed a y left = Calls x fetching 0 EndOfReplay a y left
ResolverAnswers x fetching (Settled v kind) a y left =
    (a ≡ answer.Flag (is_settled x v kind)) × IsUnchanged x fetching y left
ResolverAnswers x fetching (KeySettled v) a y left =
    (a ≡ answer.Flag (is_settled x v OfNullification && is_settled x v OfNotarization)) × IsUnchanged x fetching y left
ResolverAnswers x fetching (Uncertifiable v) a y left =
    (a ≡ answer.Flag (map.contains_key x.uncertifiable v)) × IsUnchanged x fetching y left
ResolverAnswers x fetching (Produce v) a y left =
    (a ≡ (if x.is_failed then answer.Fault Failed else answer.Encoding (served_encoding x v)))
    × IsUnchanged x fetching y left
ResolverAnswers x fetching Outstanding a y left = Lists fetching a × IsUnchanged x fetching y left
