-- A network of four in terms of two views, whose members have different electors. In view 2 two members vote for a
-- proposal each. Each leads view 3 early by its own elector, and builds the same proposal on what it voted for. Then it
-- restarts with another elector, by which it does not lead view 3.
use Rattle.std.specs.Prelude.{ℕ, ◌+◌, false, true, List, [], ◌∷◌, ◌++◌, Some, None}
use Rattle.simplex_types.specs.declared.types.messages.Proposal.{Proposal}
use Rattle.simplex_voter.specs.declared.voter.propose.ProposalRequest.TheVariants.{Prepare}
use Rattle.simplex_record.specs.Start.{StartFacts}
use Rattle.simplex_member.specs.Calls.{TryPropose, Proposed, ConstructNotarize, Requested, Answered, Restarted}
use Rattle.simplex_member.specs.Runs.{Calls, Restarts}
use Rattle.laws_safety.specs.AheadNetwork.{three}
use Rattle.laws_safety.specs.Executions.{Execution}
use Rattle.laws_safety.specs.Replicas.{Replica, Faulty, Honest}
use Rattle.laws_safety.specs.ScenarioSteps.{round, one, begin_at, execution_from, notarize_reply, hears, verifies, certifies, votes_for}
use Rattle.laws_chains.specs.Parents.{HasCertifiedProposal}

-- a start by this elector; one view is voted for ahead
abbrev pub elects_by : ℕ → ℕ → StartFacts ℕ ℕ ℕ
elects_by elector me = record (begin_at 2 me) {
  setup = record (begin_at 2 me).setup {
    elector = elector;
    terms = record { term_length = 2; optimistic_views = 1; stall_timeout = None };
  };
}

-- the proposal of view 2 that a member receives
abbrev pub second_of : ℕ → Proposal ℕ
second_of me = record { round = round 2; parent = 1; payload = 20 + me }

-- it builds view 3 on that, votes for it, restarts with another elector, certifies it and votes to finalize it
abbrev pub leading_early : ℕ → ℕ → Execution ℕ ℕ ℕ
leading_early elector me = execution_from (elects_by elector me) (
    hears one true
    ∷ verifies me 3 one
    ++ certifies one
    ++ hears (second_of me) true
    ∷ verifies me 3 (second_of me)
    ++ (Calls TryPropose, Requested (Some (Prepare (record { round = round 3; leader = me; parent = (2, 20 + me) }))))
    ∷ (Calls (Proposed 3 3 0), Answered true)
    ∷ (Calls (ConstructNotarize 3), notarize_reply me three)
    ∷ (Restarts (record { drop = 0; prune = false; start = elects_by 7 me }), Restarted)
    ∷ certifies three
    ++ votes_for me three
    ∷ [])

-- a member that does nothing
abbrev pub idle : Execution ℕ ℕ ℕ
idle = execution_from (elects_by 2 2) []

-- four members, of which the first leader is faulty
abbrev pub both_lead_early : List (Replica ℕ ℕ ℕ)
both_lead_early = Honest (leading_early 2 0) ∷ Honest (leading_early 1 1) ∷ Honest idle ∷ Faulty ∷ []

-- view 3 has no parent
abbrev pub HasNoParent : Type 0
HasNoParent = HasCertifiedProposal both_lead_early three.parent → ⊥
