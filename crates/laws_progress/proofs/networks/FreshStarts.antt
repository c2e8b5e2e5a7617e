-- A term start that nobody touched, at which all honest members are on one parent, is finalized.
use Rattle.std.proofs.Common.{◌≡◌, subst, ℕ, ◌<◌, Bool, true, List, length, slice_get, Some, arith}
use Rattle.simplex_types.specs.declared.types.messages.Proposal.{Proposal}
use Rattle.simplex_types.specs.declared.types.messages.Subject.TheVariants.{Finalize}
use Rattle.simplex_voter.specs.Facts.{Elect}
use Rattle.laws_safety.specs.Traces.{TraceEvent}
use Rattle.laws_safety.specs.Replicas.{Honest, Backed}
use Rattle.laws_safety.specs.Executions.{Execution}
use Rattle.laws_safety.proofs.agreement.Quorums.{shared_member}
use Rattle.laws_progress.specs.FreshStarts.{FreshStartsAreFinalized}
use Rattle.laws_progress.specs.ViewPositions.{BuildsOn, proposal_in}
use Rattle.laws_progress.proofs.networks.Passed.{enough}
use Rattle.laws_progress.proofs.networks.Together.{ContinuesBy, goes_on_to_finalize}
use Rattle.laws_progress.proofs.runs.Ends.{end_shown}
use Rattle.laws_progress.proofs.runs.Members.{member_finalizes}
use Rattle.laws_progress.proofs.runs.Starts.{replica_of}
use Rattle.laws_progress.proofs.states.Sequences.{trace_done}

pub fresh_starts_are_finalized : {L D : Type 0} (K : Type 0) (same : D → D → Bool)
    (decides : (d e : D) → same d e ≡ true → d ≡ e) (reflexive : (d : D) → same d d ≡ true) (elect : Elect L)
    → FreshStartsAreFinalized K same elect
fresh_starts_are_finalized {L} {D} K same decides reflexive elect term_length epoch leader parent start elector network
    q good few small leads each builds = (
      _,
      goes_on_to_finalize same elect term_length leader p done (enough p term_length 0 start) network good few leads
          goes all_below,
    )
  where
    p : Proposal D
    p = proposal_in epoch start parent q

    done : ℕ → List (TraceEvent D)
    done = λ k. trace_done (replica_of epoch start parent q k) q

    goes : (i : ℕ) (s : Execution K L D) → slice_get network i ≡ Some (Honest s)
        → (t : Execution K L D) × ContinuesBy same elect term_length leader (proposal_in epoch start parent q)
        (λ k. trace_done (replica_of epoch start parent q k) q) i s t
    goes i s at =
        let lives = each i s at in
        let built : i ≡ leader → BuildsOn parent start lives.0 =
        λ e. builds s (subst (λ n. slice_get network n ≡ Some (Honest s)) e at) lives.0 lives.1 in
        let on = member_finalizes same decides reflexive elect term_length epoch (length network) leader start parent i
        elector q s (good.honest i s at) small lives.0 lives.1 lives.2.0 lives.2.1 lives.2.2 built in (
          on.0,
          record {
            continues = on.1.continues;
            ran = on.1.ran;
            trace = on.1.trace;
            received = on.1.received;
            builds = on.1.builds;
          },
        )

    -- each view that votes may finalize before lies below
    all_below : (o : Proposal D) → Backed network (Finalize o) → o.round.view < start
    all_below o backs =
        let one = shared_member network (Finalize o) (Finalize o) good.few_faulty backs backs in
        let lives = each one.0 one.1 one.2 in
        let shown = end_shown same decides elect term_length one.0 one.1 (good.honest one.0 one.1 one.2) lives.0 lives.1
        in
        omega (arith, shown.living.keeps.stays.stands.passed o one.3, lives.2.1.current)
