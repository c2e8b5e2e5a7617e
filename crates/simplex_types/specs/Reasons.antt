-- The texts of reasons, kinds and requests, and the two requests.
use Rattle.std.specs.Prelude.{ℕ, List, ◌++◌, codes}
use Rattle.simplex_types.specs.declared.reasons.TimeoutReason.{TimeoutReason}
use Rattle.simplex_types.specs.declared.reasons.TimeoutReason.TheVariants as timeout
use Rattle.simplex_types.specs.declared.reasons.HandoffAbandonedReason.{HandoffAbandonedReason}
use Rattle.simplex_types.specs.declared.reasons.HandoffAbandonedReason.TheVariants as abandoned
use Rattle.simplex_types.specs.declared.reasons.FetchReason.{FetchReason}
use Rattle.simplex_types.specs.declared.reasons.FetchReason.TheVariants as fetch
use Rattle.simplex_types.specs.declared.reasons.Kind.{Kind}
use Rattle.simplex_types.specs.declared.reasons.Kind.TheVariants as kind
use Rattle.simplex_types.specs.declared.reasons.Until.{Until}
use Rattle.simplex_types.specs.declared.reasons.Until.TheVariants as until
use Rattle.simplex_types.specs.declared.reasons.Ask.{Ask}

-- why a view times out
abbrev pub timeout_reason_text : TimeoutReason → List ℕ
timeout_reason_text timeout.Retry = codes "Retry"
timeout_reason_text timeout.Inactivity = codes "Inactivity"
timeout_reason_text timeout.LeaderNullify = codes "LeaderNullify"
timeout_reason_text timeout.LeaderTimeout = codes "LeaderTimeout"
timeout_reason_text timeout.CertificationTimeout = codes "CertificationTimeout"
timeout_reason_text timeout.StallTimeout = codes "StallTimeout"
timeout_reason_text timeout.MissingProposal = codes "MissingProposal"
timeout_reason_text timeout.IgnoredProposal = codes "IgnoredProposal"
timeout_reason_text timeout.InvalidProposal = codes "InvalidProposal"
timeout_reason_text timeout.FailedCertification = codes "FailedCertification"

-- why a handoff is abandoned
abbrev pub handoff_abandoned_reason_text : HandoffAbandonedReason → List ℕ
handoff_abandoned_reason_text abandoned.ViewExit = codes "ViewExit"
handoff_abandoned_reason_text abandoned.AncestrySuperseded = codes "AncestrySuperseded"
handoff_abandoned_reason_text abandoned.AncestryInvalidated = codes "AncestryInvalidated"
handoff_abandoned_reason_text abandoned.ParentNullify = codes "ParentNullify"
handoff_abandoned_reason_text abandoned.ViewNullify = codes "ViewNullify"
handoff_abandoned_reason_text abandoned.ResponseClosed = codes "ResponseClosed"
handoff_abandoned_reason_text abandoned.IneligibleAtRecording = codes "IneligibleAtRecording"

-- why something is fetched
abbrev pub fetch_reason_text : FetchReason → List ℕ
fetch_reason_text fetch.MissingNullification = codes "missing_nullification"
fetch_reason_text fetch.CertificationFailed = codes "certification_failed"

-- which certificate is fetched
abbrev pub kind_text : Kind → List ℕ
kind_text kind.Nullification = codes "nullification"
kind_text kind.Notarization = codes "notarization"

-- when a request ends
abbrev pub until_text : Until → List ℕ
until_text until.Floor = codes "floor"
until_text until.Finalization = codes "finalization"

-- what is requested, and what ends the request
abbrev pub ask_text : Ask → List ℕ
ask_text ask = kind_text ask.kind ++ codes " until " ++ until_text ask.until

-- a nullification, until the floor has passed
abbrev pub backfill_ask : Ask
backfill_ask = record { kind = kind.Nullification; until = until.Floor }

-- a certificate of a kind, until a finalization has passed
abbrev pub ancestry_ask : Kind → Ask
ancestry_ask k = record { kind = k; until = until.Finalization }
