-- Why a member withholds a vote, as a number.
use Rattle.std.specs.Prelude.{◌≡◌, ◌⊎◌, ℕ, Option, Some, None, MatchOption}
use Rattle.simplex_voter.specs.declared.voter.withheld.Withheld.{Withheld}
use Rattle.simplex_voter.specs.declared.voter.withheld.Withheld.TheVariants as withheld
use Rattle.simplex_voter.specs.Withheld.{finalize_withheld, notarize_withheld, nullify_withheld}
use Rattle.ffi_member.specs.declared.kinds.VoteKind.{VoteKind}
use Rattle.ffi_member.specs.declared.kinds.VoteKind.TheVariants as vote
use Rattle.ffi_member.specs.declared.view_types.FlatWithheld.{FlatWithheld}
use Rattle.ffi_member.specs.Numbers.{IsNoKind, vote_number}
use Rattle.ffi_member.specs.MemberHandles.{host_leader, same_host_payload}
use Rattle.ffi_member.specs.ShownFacts.{HostFacts, HostState}

-- the number of a reason; 0 if the vote is not withheld
abbrev pub withheld_number : Option Withheld → ℕ
withheld_number None = 0
withheld_number (Some withheld.NoKey) = 1
withheld_number (Some withheld.NotAdmitted) = 2
withheld_number (Some withheld.AlreadyVoted) = 3
withheld_number (Some withheld.VotedToNullify) = 4
withheld_number (Some withheld.VotedToFinalize) = 5
withheld_number (Some withheld.NoProposal) = 6
withheld_number (Some withheld.Equivocated) = 7
withheld_number (Some withheld.NotVerified) = 8
withheld_number (Some withheld.AncestryNotReady) = 9
withheld_number (Some withheld.BindingChanged) = 10
withheld_number (Some withheld.NotCurrent) = 11
withheld_number (Some withheld.AlreadyFinalized) = 12
withheld_number (Some withheld.ConflictingNullify) = 13
withheld_number (Some withheld.ParentNotCertified) = 14
withheld_number (Some withheld.NotNotarized) = 15
withheld_number (Some withheld.CertificationFailed) = 16
withheld_number (Some withheld.NotCertified) = 17

-- why a vote of a kind is withheld in a state
abbrev pub withheld_of_vote : VoteKind → HostState → ℕ → Option Withheld
withheld_of_vote vote.Notarize x view = notarize_withheld same_host_payload host_leader x view
withheld_of_vote vote.Nullify x view = nullify_withheld x view
withheld_of_vote vote.Finalize x view = finalize_withheld host_leader x view

-- no vote has the kind; or the member has failed; or this is why a vote of the kind is withheld
abbrev pub IsWithheldIn : Option HostState → ℕ → ℕ → FlatWithheld → Type 0
IsWithheldIn state number view r =
    ((r.status ≡ 6) × IsNoKind number)
    ⊎ ((kind : VoteKind)
    × (vote_number kind ≡ number)
    × MatchOption state (r.status ≡ 2)
    (λ x. (r.status ≡ 0) × (r.reason ≡ withheld_number (withheld_of_vote kind x view))))

-- why a member withholds a vote
abbrev pub IsWithheld : HostFacts → ℕ → ℕ → FlatWithheld → Type 0
IsWithheld m kind view r = IsWithheldIn m.life kind view r
