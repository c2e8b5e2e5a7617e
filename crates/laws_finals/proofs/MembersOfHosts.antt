-- Each network of hosts has members: the engine's contract gives each honest host's member an execution.
use Rattle.std.proofs.Common.{◌≡◌, inl, ℕ, suc, ◌+◌, Bool, List, [], ◌∷◌, length, slice_get, Option, Some, refl, sym, subst, arith}
use Rattle.std.specs.Prelude.{Contains}
use Rattle.std.proofs.lemmas.List.Elements.{All-contains}
use Rattle.simplex_types.specs.Quorums.{AreRising}
use Rattle.simplex_types.specs.declared.types.messages.Proposal.{Proposal}
use Rattle.simplex_types.specs.declared.types.messages.Subject.{Subject}
use Rattle.simplex_types.specs.declared.types.messages.Subject.TheVariants as subject
use Rattle.simplex_types.specs.declared.types.window.Terms.{Terms}
use Rattle.simplex_voter.specs.Facts.{Elect}
use Rattle.laws_safety.specs.Replicas.{Replica, AtLeastFrom}
use Rattle.laws_safety.specs.Replicas as replica
use Rattle.laws_safety.specs.Traces.{Accepts, Signs}
use Rattle.laws_safety.proofs.executions.ExecutionSteps.{done_ran}
use Rattle.engine_votes.specs.declared.votes.Vote.{Vote}
use Rattle.engine_outbox.specs.declared.output.Output.TheVariants as output
use Rattle.laws_hosts.specs.Processes.{Process, carried_by}
use Rattle.laws_hosts.specs.HostAgreement.{IsReportedFinal}
use Rattle.laws_hosts.specs.HostNetworks.{Host, Faulty, Honest, MayHaveSent, IsCertifiable, IsHonestHost, IsHostNetwork}
use Rattle.laws_hosts.proofs.CallTraces.{none_in, QuorumsAreGood}
use Rattle.laws_hosts.proofs.QuorumVotes.{at_least, ArePairs, paired}
use Rattle.laws_hosts.proofs.Hosts.{HasRun, all_processed}
use Rattle.laws_finals.specs.HostMembers.{IsMember, AreMembersFrom, HaveMembers}

module _ {S L D K G C : Type 0} (same : D → D → Bool) (elect : Elect L) (term_length : ℕ)
    (all : List (Host S L D K G C)) where
  -- members are pairs with their hosts
  pub pairs_of : (i : ℕ) (hosts : List (Host S L D K G C)) (members : List (Replica K L D))
      → AreMembersFrom same elect term_length all i hosts members
      → ArePairs (IsMember same elect term_length all) i hosts members
  pairs_of i [] [] are = tt
  pairs_of i [] (member ∷ members) are = absurd are
  pairs_of i (host ∷ hosts) [] are = absurd are
  pairs_of i (host ∷ hosts) (member ∷ members) are = (are.0, pairs_of (suc i) hosts members are.1)

  from_pairs : (i : ℕ) (hosts : List (Host S L D K G C)) (members : List (Replica K L D))
      → ArePairs (IsMember same elect term_length all) i hosts members
      → AreMembersFrom same elect term_length all i hosts members
  from_pairs i [] [] are = tt
  from_pairs i [] (member ∷ members) are = absurd are
  from_pairs i (host ∷ hosts) [] are = absurd are
  from_pairs i (host ∷ hosts) (member ∷ members) are = (are.0, from_pairs (suc i) hosts members are.1)

module _ {S L D K G C : Type 0} (same : D → D → Bool) (elect : Elect L) (bytes_of : C → List ℕ)
    (is_signature : K → Subject D → G → Type 0)
    (keys_of : S → List K) (me : S → Option ℕ) (terms : L → Terms) (term_length : ℕ) (hosts : List (Host S L D K G C))
    (network : IsHostNetwork same elect bytes_of is_signature keys_of me terms term_length hosts) where
  -- the signer's host is faulty or carried the vote out
  abbrev IsSent : Vote D G → Type 0
  IsSent vote = (host : Host S L D K G C) → slice_get hosts vote.signer ≡ Some host
      → MayHaveSent vote.subject vote.signer host

  quorums_good : QuorumsAreGood (length hosts) IsSent (IsCertifiable hosts)
  quorums_good votes vote_subject sent has =
      let from_zero : length hosts ≡ 0 + length hosts = omega arith in
      subst (λ count. AtLeastFrom 0 count (MayHaveSent vote_subject) hosts) has.quorum
      (at_least (MayHaveSent vote_subject) hosts 0 0 has.signed (omega arith)
      (subst (λ n. AreRising n 0 has.signed) from_zero has.rising) (λ s among k host at is. (
      let index : k ≡ s.0 = omega (arith, is) in
      sent (record { subject = vote_subject; signer = s.0; signature = s.1 })
      (All-contains (λ t. Contains votes (record { subject = vote_subject; signer = t.0; signature = t.1 })) has.signed
      s has.are_given among)
      host (subst (λ j. slice_get hosts j ≡ Some host) index at))))

  run : (i : ℕ) (processes : List (Process S L D K G C))
      → IsHonestHost same elect bytes_of is_signature keys_of me terms term_length i hosts processes
      → HasRun same elect bytes_of (IsCertifiable hosts) term_length i (carried_by processes)
  run i [] honest = absurd (honest.some refl)
  run i (process ∷ rest) honest =
      all_processed same elect bytes_of is_signature keys_of me terms (length hosts) IsSent (IsCertifiable hosts)
      term_length i quorums_good process rest [] honest.runs
      (λ p has. record {
        calls = record {
          votes = λ vote among host at. honest.votes p vote host has among at;
          certificates = λ certificate among. honest.certificates p certificate has among;
        };
        floor = λ c among. honest.floors p c has among;
      })
      (λ p has. none_in (output.Finalized p) has) (inl refl)

  member_of : (i : ℕ) (host : Host S L D K G C) → slice_get hosts i ≡ Some host
      → (r : Replica K L D) × IsMember same elect term_length hosts i host r
  member_of i Faulty at = (replica.Faulty, tt)
  member_of i (Honest processes) at =
      let ran = run i processes (network.honest i processes at) in
      let found = done_ran same elect term_length i ran.all ran.facts ran.has.done in (
        replica.Honest found.0,
        record {
          runs = found.1;
          votes = λ vote sent. subst (λ xs. Contains xs (Signs i vote)) (sym found.2)
              (ran.has.votes (record { subject = vote; signer = i; signature = sent.0 }) sent.1);
          certificates = λ c among. ran.has.good c (subst (λ xs. Contains xs (Accepts c)) found.2 among);
        },
      )

  pub have_members : HaveMembers same elect term_length hosts
  have_members =
      let found = paired (IsMember same elect term_length hosts) hosts 0 (λ k host at. (
      let index : k ≡ 0 + k = omega arith in
      let one = member_of k host at in
      (one.0, subst (λ j. IsMember same elect term_length hosts j host one.0) index one.1))) in
      (found.0, from_pairs same elect term_length hosts 0 hosts found.0 found.1)

  -- what an honest host reported as final has a certificate
  pub reported : (p : Proposal D) → IsReportedFinal hosts p → IsCertifiable hosts (subject.Finalize p)
  reported p (i, processes, at, has) = (run i processes (network.honest i processes at)).finals p has
