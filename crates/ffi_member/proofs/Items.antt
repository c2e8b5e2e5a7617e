-- What is shown, and what is lost.
use Rattle.std.proofs.Common.{◌≡◌, ◌<◌, ◌≤◌, ℕ, List, [], length, refl, true, Option, Some, None, MatchOption, inl, inr, sym, subst, arith}
use Rattle.std.proofs.lemmas.Grind.{common_steps}
use Rattle.simplex_types.specs.declared.types.messages.Proposal.{Proposal}
use Rattle.simplex_codec.specs.declared.digest.BytesDigest.{BytesDigest}
use Rattle.ffi_scheme.specs.Host.{certificate_bytes}
use Rattle.simplex_member.specs.Journal.{has_lost}
use Rattle.simplex_member.specs.declared.member.journal.Stored.{Stored}
use Rattle.simplex_record.specs.Entries.{entries_of}
use Rattle.ffi_member.specs.declared.flat.FlatProposal.{FlatProposal}
use Rattle.ffi_member.specs.declared.journal.NotWritten.{NotWritten}
use Rattle.ffi_member.specs.declared.journal.NotWritten.TheVariants as not_written
use Rattle.ffi_member.specs.declared.view_types.FlatEntries.{FlatEntries}
use Rattle.ffi_member.specs.declared.view_types.FlatItem.{FlatItem}
use Rattle.ffi_member.specs.declared.view_types.FlatStored.{FlatStored}
use Rattle.ffi_member.specs.Journals.{HostArtifact, IsNotWritten}
use Rattle.ffi_member.specs.Resumption.{IsFlatStored}
use Rattle.ffi_member.specs.MemberHandles.{IsProposalAt}
use Rattle.ffi_member.specs.ShownFacts.{AreShown, IsItemOr}
use Rattle.ffi_member.specs.Statuses.{not_written_number}

-- the item of a proposal that is there or not
pub proposal_shown : (o : Option FlatProposal) (proposals : List (Proposal (BytesDigest 32))) (index : ℕ) (r : FlatItem)
    → MatchOption o (length proposals ≤ index) (IsProposalAt proposals index)
    → MatchOption o (r.has ≡ 0) (λ it. (r.has ≡ 1) × (r.proposal ≡ it)) → r.status ≡ 0
    → IsItemOr r (length proposals ≤ index) (IsProposalAt proposals index r.proposal)
proposal_shown None proposals index r at item status = (status, inl (item, at))
proposal_shown (Some f) proposals index r at item status =
    (status, inr (item.0, subst (IsProposalAt proposals index) (sym item.1) at))

-- where entries are lost, there are fewer than were closed
pub fewer_than_closed : (beside : FlatStored) (stored : Stored) (entries : List HostArtifact)
    → IsFlatStored beside stored
    → has_lost stored (entries_of certificate_bytes entries) ≡ true → length entries < beside.closed
fewer_than_closed beside stored entries so lost = grind (arith, common_steps, so.closed, lost)

-- nothing is shown of entries that are not written
pub not_shown : (entries : List HostArtifact) (error : NotWritten) (r : FlatEntries) (shown : List ℕ)
    → IsNotWritten entries error
    → r.status ≡ not_written_number error → shown ≡ [] → AreShown entries r shown
not_shown entries not_written.OutOfMemory r shown long status none = inr (inl (status, none))
not_shown entries not_written.TooLong r shown long status none = inr (inr (status, long refl, none))
