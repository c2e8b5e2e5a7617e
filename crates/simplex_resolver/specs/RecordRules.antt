-- Why a record is refused.
use Rattle.std.specs.Prelude.{ℕ, ◌^◌, ◌==◌, nat_le, if◌then◌else◌, List, [], ◌∷◌, Option, Some, None, is_some}
use Rattle.std.specs.Option.{option_or}
use Rattle.simplex_types.specs.Certificates.{CertificateFacts, Notarized, Nullified, Finalized, ArtifactFacts, Verdict, Accepted}
use Rattle.simplex_types.specs.declared.types.messages.Proposal.{Proposal}
use Rattle.simplex_resolver.specs.Steps.{highest_named}
use Rattle.simplex_resolver.specs.declared.replay.error.ReplayError.{ReplayError}
use Rattle.simplex_resolver.specs.declared.replay.error.ReplayError.TheVariants as error
use Rattle.simplex_resolver.specs.RecordCalls.{newest_notarization}

-- why a certificate of the view is refused, by the highest view that it names: it is genesis, or names one
-- above 2^63 - 1
abbrev pub view_error : ℕ → ℕ → Option ReplayError
view_error v highest =
    if v == 0 then Some error.ZeroView
    else (if nat_le (2 ^ 63) highest then Some error.ViewTooLarge else None)

module _ {D : Type 0} where
  -- why a certificate on the proposal is refused
  abbrev pub proposal_error : Proposal D → Option ReplayError
  proposal_error p = view_error p.round.view (highest_named p)

  -- why a certificate is refused
  abbrev pub certificate_error : CertificateFacts D → Option ReplayError
  certificate_error (Notarized n) = proposal_error n.proposal
  certificate_error (Nullified n) = view_error n.round.view n.round.view
  certificate_error (Finalized f) = proposal_error f.proposal

  -- why an entry cannot be passed in after those before it, the newest first
  abbrev pub entry_error : List (ArtifactFacts D) → ArtifactFacts D → Option ReplayError
  entry_error before (Accepted c) = certificate_error c
  entry_error before (Verdict round _) =
      if is_some (newest_notarization round.view before) then None else Some error.VerdictWithoutNotarization
  entry_error before _ = None

  -- the error of the oldest entry that has one; the entries come newest first
  abbrev pub record_error : List (ArtifactFacts D) → Option ReplayError
  record_error [] = None
  record_error (e ∷ before) = option_or (record_error before) (entry_error before e)
