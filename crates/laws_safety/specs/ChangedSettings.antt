-- A member that refuses much, and one whose lifetimes differ, step by step.
use Rattle.std.specs.Prelude.{ℕ, ◌-◌, ◌^◌, true, false, List, [], ◌∷◌, ◌++◌, Some, None}
use Rattle.simplex_types.specs.Config.{Genesis, Finalized}
use Rattle.simplex_types.specs.declared.types.fault.Fault.TheVariants.{Failed, ViewTooLarge, TimeOverflow}
use Rattle.simplex_types.specs.declared.types.messages.Proposal.{Proposal}
use Rattle.simplex_voter.specs.declared.voter.verify.Verify.TheVariants.{Ready}
use Rattle.simplex_record.specs.declared.record.error.RecoverError.{RecoverError}
use Rattle.simplex_record.specs.declared.record.error.RecoverError.TheVariants as error
use Rattle.simplex_record.specs.Start.{StartFacts}
use Rattle.simplex_member.specs.Calls.{AddNotarization, AddNullification, AddFinalization, TryVerify, Verified, ConstructNotarize, Certified, ConstructNullify, ReplyFacts, Standing, Answered, Judged, Notarize, Nullify, Refused, NotAllowed, NotRestarted}
use Rattle.simplex_member.specs.Runs.{StepFacts, Calls, Restarts}
use Rattle.laws_safety.specs.Replicas.{Replica, Faulty, Honest}
use Rattle.laws_safety.specs.Scripts.{start_at, restarts, votes_through, patient}
use Rattle.laws_safety.specs.Executions.{Execution}
use Rattle.laws_safety.specs.ScenarioSteps.{settings, set_up_as, context_of, proposal, certificate, nullification, one, two, execution_from, hears, verifies, accepts_notarization, accepts, votes_for, may_not_finalize, accepts_finalization, votes_against, skips}

-- a restart that is refused by this error
abbrev pub not_restarted : StartFacts ℕ ℕ ℕ → RecoverError → StepFacts ℕ ℕ ℕ × ReplyFacts ℕ ℕ
not_restarted start why = (Restarts (record { drop = 0; prune = false; start = start }), NotRestarted why)

-- a start that retains more views than the lifetimes before
abbrev pub wider_start : StartFacts ℕ ℕ ℕ
wider_start = record {
  setup = record (set_up_as 5 1) { settings = record settings { view_retention = 2 } };
  floor = Finalized (certificate (proposal 4 3));
  now = 0;
}

-- a proposal of view 3 in another epoch
abbrev pub foreign : Proposal ℕ
foreign = record { round = record { epoch = 2; view = 3 }; parent = 2; payload = 3 }

-- certificates that are refused: two name views that are too large, one comes too late, and one is of another epoch
abbrev pub refuses_certificates : List (StepFacts ℕ ℕ ℕ × ReplyFacts ℕ ℕ)
refuses_certificates =
    (Calls (AddNotarization (certificate (proposal (2 ^ 63) 2))), Refused ViewTooLarge)
    ∷ (Calls (AddNullification (nullification (2 ^ 63)) 0), Refused ViewTooLarge)
    ∷ (Calls (AddFinalization (certificate (proposal 3 2)) (2 ^ 64 - 1)), Refused TimeOverflow)
    ∷ (Calls (AddFinalization (certificate foreign) 0), NotAllowed)
    ∷ []

-- a member refuses certificates, and a restart that would retain more views of its pruned record, which changes
-- nothing; a restart at a floor of another epoch ends its lifetime, and it refuses all until it restarts
abbrev pub refusing : Execution ℕ ℕ ℕ
refusing = execution_from (start_at 5 (Genesis 0) 1) (
    accepts one
    ++ votes_for 1 one
    ∷ accepts_finalization one
    ∷ refuses_certificates
    ++ restarts 0 true (start_at 5 (Genesis 0) 1)
    ∷ not_restarted wider_start error.RetentionGrown
    ∷ accepts_notarization two
    ∷ not_restarted (start_at 5 (Finalized (certificate foreign)) 1) error.OtherEpoch
    ∷ (Calls (AddFinalization (certificate two) 0), Refused Failed)
    ∷ restarts 0 false (start_at 5 (Genesis 0) 1)
    ∷ (Calls (Certified 2 true 0), Judged true (Some (certificate two)))
    ∷ votes_for 1 two
    ∷ [])

-- a start without a key
abbrev pub keyless_start : StartFacts ℕ ℕ ℕ
keyless_start = record (start_at 5 (Genesis 0) 1) { setup = record (set_up_as 5 1) { me = None } }

-- a start with a key at a finalized floor, with other times, views ahead and a stall timeout
abbrev pub other_start : StartFacts ℕ ℕ ℕ
other_start = record {
  setup = record (set_up_as 5 1) {
    settings = record {
      epoch = 1;
      view_retention = 3;
      leader_timeout = 300;
      certification_timeout = 700;
      timeout_retry = 50;
      skip_budget = 1;
    };
    terms = record { term_length = 5; optimistic_views = 2; stall_timeout = Some 900 };
  };
  floor = Finalized (certificate one);
  now = 7;
}

-- without a key it verifies and certifies as before, and is asked for votes in vain
abbrev pub signs_nothing : List (StepFacts ℕ ℕ ℕ × ReplyFacts ℕ ℕ)
signs_nothing =
    hears one true
    ∷ (Calls TryVerify, Standing (Ready (context_of 3 one) one))
    ∷ (Calls (Verified 1), Answered true)
    ∷ (Calls (ConstructNotarize 1), Notarize None)
    ∷ accepts one
    ++ may_not_finalize 1
    ∷ (Calls (ConstructNullify 2), Nullify None)
    ∷ []

-- a member without a key restarts with one, with other settings and at another floor; it certifies view 2 false, and
-- votes to nullify it. Then its record has votes, so that it does not restart without a key, but with the first setup
-- and the key it does
abbrev pub changing : Execution ℕ ℕ ℕ
changing = execution_from keyless_start (
    signs_nothing
    ++ restarts 0 false other_start
    ∷ votes_against 1 2
    ∷ accepts_notarization two
    ∷ (Calls (Certified 2 false 9), Judged false (Some (certificate two)))
    ∷ may_not_finalize 2
    ∷ skips 2
    ∷ not_restarted keyless_start error.ForeignSigner
    ∷ restarts 0 false (start_at 5 (Genesis 0) 1)
    ∷ may_not_finalize 2
    ∷ votes_against 1 6
    ∷ [])

-- four members, of which the first leader is faulty, and two others vote through views 1 and 2
abbrev pub with_refusing : List (Replica ℕ ℕ ℕ)
with_refusing = Honest (patient 0) ∷ Honest refusing ∷ Honest (patient 2) ∷ Faulty ∷ []

-- a member votes for views 1 and 2, and votes to nullify the second one
abbrev pub abandoning : Execution ℕ ℕ ℕ
abandoning = execution_from (start_at 5 (Genesis 0) 0)
    (votes_through 0 one ++ hears two true ∷ verifies 0 3 two ++ votes_against 0 2 ∷ [])

-- four members, of which the first leader is faulty; one votes to nullify view 2, and another one votes through both
-- views
abbrev pub with_changing : List (Replica ℕ ℕ ℕ)
with_changing = Honest abandoning ∷ Honest changing ∷ Honest (patient 2) ∷ Faulty ∷ []
