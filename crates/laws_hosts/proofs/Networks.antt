-- A network of hosts is a network of members of `agreement`: each honest host's member has an execution that signed the
-- votes which the host
-- carried out.
use Rattle.std.proofs.Common.{◌≡◌, ◌⊎◌, inl, inr, ℕ, ◌+◌, ◌-◌, ◌*◌, ◌<◌, ◌≤◌, Bool, List, [], ◌∷◌, length, slice_get, Option, Some, refl, sym, subst, arith}
use Rattle.std.specs.Prelude.{Contains}
use Rattle.std.proofs.lemmas.List.Elements.{All-contains}
use Rattle.simplex_types.specs.Quorums.{AreRising}
use Rattle.simplex_types.specs.declared.types.messages.Proposal.{Proposal}
use Rattle.simplex_types.specs.declared.types.messages.Subject.{Subject}
use Rattle.simplex_types.specs.declared.types.messages.Subject.TheVariants as subject
use Rattle.simplex_types.specs.declared.types.window.Terms.{Terms}
use Rattle.simplex_voter.specs.Facts.{Elect}
use Rattle.laws_safety.specs.Agreement.{OneProposal, FinalizedUncovered, Chain, ChainHoldsFinalized}
use Rattle.laws_safety.specs.Executions.{Execution, trace_of, IsExecution}
use Rattle.laws_safety.specs.Replicas.{Replica, FewFaulty, is_faulty, faults, max_faults, quorum, AtLeastFrom, MayHaveSigned, Backed, IsNetworkOf, OfEachNetwork}
use Rattle.laws_safety.specs.Replicas as replica
use Rattle.laws_safety.specs.Traces.{Accepts, Signs}
use Rattle.laws_safety.proofs.executions.ExecutionSteps.{done_ran}
use Rattle.engine_votes.specs.declared.votes.Vote.{Vote}
use Rattle.engine_outbox.specs.declared.output.Output.TheVariants as output
use Rattle.laws_hosts.specs.Processes.{Process, carried_by}
use Rattle.laws_hosts.specs.HostNetworks.{Host, Faulty, Honest, is_faulty_host, MayHaveSent, IsCertifiable, IsHonestHost, IsHostNetwork, OfEachHostNetwork}
use Rattle.laws_hosts.specs.HostAgreement.{IsReportedFinal, OneFinalOfEachView, FinalsUncovered, NotarizedChain, ChainsHoldFinals}
use Rattle.laws_hosts.proofs.CallTraces.{none_in, QuorumsAreGood}
use Rattle.laws_hosts.proofs.QuorumVotes.{at_least, ArePairs, paired, same_length, pair_at, as_many, same_count}
use Rattle.laws_hosts.proofs.Hosts.{HasRun, all_processed}

module _ {S L D K G C : Type 0} (same : D → D → Bool) (elect : Elect L) (bytes_of : C → List ℕ)
    (is_signature : K → Subject D → G → Type 0)
    (keys_of : S → List K) (me : S → Option ℕ) (terms : L → Terms) (term_length : ℕ) (hosts : List (Host S L D K G C))
    (network : IsHostNetwork same elect bytes_of is_signature keys_of me terms term_length hosts) where
  -- the signer's host is faulty or carried the vote out
  abbrev IsSent : Vote D G → Type 0
  IsSent vote = (host : Host S L D K G C) → slice_get hosts vote.signer ≡ Some host
      → MayHaveSent vote.subject vote.signer host

  quorums_good : QuorumsAreGood (length hosts) IsSent (IsCertifiable hosts)
  quorums_good votes vote_subject sent has =
      let from_zero : length hosts ≡ 0 + length hosts = omega arith in
      subst (λ count. AtLeastFrom 0 count (MayHaveSent vote_subject) hosts) has.quorum
      (at_least (MayHaveSent vote_subject) hosts 0 0 has.signed (omega arith)
      (subst (λ n. AreRising n 0 has.signed) from_zero has.rising) (λ s among k host at is. (
      let index : k ≡ s.0 = omega (arith, is) in
      sent (record { subject = vote_subject; signer = s.0; signature = s.1 })
      (All-contains (λ t. Contains votes (record { subject = vote_subject; signer = t.0; signature = t.1 })) has.signed
      s has.are_given among)
      host (subst (λ j. slice_get hosts j ≡ Some host) index at))))

  run : (i : ℕ) (processes : List (Process S L D K G C))
      → IsHonestHost same elect bytes_of is_signature keys_of me terms term_length i hosts processes
      → HasRun same elect bytes_of (IsCertifiable hosts) term_length i (carried_by processes)
  run i [] honest = absurd (honest.some refl)
  run i (process ∷ rest) honest =
      all_processed same elect bytes_of is_signature keys_of me terms (length hosts) IsSent (IsCertifiable hosts)
      term_length i quorums_good process rest [] honest.runs
      (λ p has. record {
        calls = record {
          votes = λ vote among host at. honest.votes p vote host has among at;
          certificates = λ certificate among. honest.certificates p certificate has among;
        };
        floor = λ c among. honest.floors p c has among;
      })
      (λ p has. none_in (output.Finalized p) has) (inl refl)

  -- a host as a member of a network
  abbrev IsMember : ℕ → Host S L D K G C → Replica K L D → Type 0
  IsMember i Faulty replica.Faulty = Unit {0}
  IsMember i (Honest processes) (replica.Honest s) =
      IsExecution same elect term_length i s
      × ((vote : Subject D) → MayHaveSent vote i (Honest processes) → Contains (trace_of s) (Signs i vote))
      × ((c : Subject D) → Contains (trace_of s) (Accepts c) → IsCertifiable hosts c)
  IsMember i _ _ = ⊥

  member_of : (i : ℕ) (host : Host S L D K G C) → slice_get hosts i ≡ Some host
      → (r : Replica K L D) × IsMember i host r
  member_of i Faulty at = (replica.Faulty, tt)
  member_of i (Honest processes) at =
      let ran = run i processes (network.honest i processes at) in
      let found = done_ran same elect term_length i ran.all ran.facts ran.has.done in (
        replica.Honest found.0,
        (
          found.1,
          (λ vote sent. subst (λ xs. Contains xs (Signs i vote)) (sym found.2)
              (ran.has.votes (record { subject = vote; signer = i; signature = sent.0 }) sent.1)),
          (λ c among. ran.has.good c (subst (λ xs. Contains xs (Accepts c)) found.2 among)),
        ),
      )

  pub made : (members : List (Replica K L D)) × ArePairs IsMember 0 hosts members
  made = paired IsMember hosts 0 (λ k host at. (
      let index : k ≡ 0 + k = omega arith in
      let found = member_of k host at in
      (found.0, subst (λ j. IsMember j host found.0) index found.1)))

  abbrev pub members_are : List (Replica K L D)
  members_are = made.0

  count_is : length members_are ≡ length hosts
  count_is = same_length IsMember hosts members_are 0 made.1

  faulty_alike : (i : ℕ) (host : Host S L D K G C) (r : Replica K L D) → IsMember i host r
      → is_faulty r ≡ is_faulty_host host
  faulty_alike i Faulty replica.Faulty is = refl
  faulty_alike i Faulty (replica.Honest s) is = absurd is
  faulty_alike i (Honest processes) replica.Faulty is = absurd is
  faulty_alike i (Honest processes) (replica.Honest s) is = refl

  signed_if_sent : (vote : Subject D) (i : ℕ) (host : Host S L D K G C) (r : Replica K L D) → IsMember i host r
      → MayHaveSent vote i host → MayHaveSigned vote i r
  signed_if_sent vote i Faulty replica.Faulty is sent = tt
  signed_if_sent vote i Faulty (replica.Honest s) is sent = absurd is
  signed_if_sent vote i (Honest processes) replica.Faulty is sent = absurd is
  signed_if_sent vote i (Honest processes) (replica.Honest s) is sent = is.1 vote sent

  backed : (c : Subject D) → IsCertifiable hosts c → Backed members_are c
  backed c may =
      subst (λ n. AtLeastFrom 0 (quorum n) (MayHaveSigned c) members_are) (sym count_is)
      (as_many IsMember (MayHaveSent c) (MayHaveSigned c) (signed_if_sent c) hosts members_are 0 (quorum (length hosts))
      made.1 may)

  execution_at : (i : ℕ) (host : Host S L D K G C) (s : Execution K L D) → IsMember i host (replica.Honest s)
      → IsExecution same elect term_length i s
      × ((c : Subject D) → Contains (trace_of s) (Accepts c) → IsCertifiable hosts c)
  execution_at i Faulty s is = absurd is
  execution_at i (Honest processes) s is = (is.0, is.2)

  few : FewFaulty members_are
  few =
      subst (λ n. ((1 ≤ n) × (faults members_are ≤ max_faults n)) ⊎ (faults members_are < n - 2 * max_faults n))
      (sym count_is)
      (subst (λ f. ((1 ≤ length hosts) × (f ≤ max_faults (length hosts)))
      ⊎ (f < length hosts - 2 * max_faults (length hosts)))
      (sym (same_count IsMember is_faulty_host is_faulty faulty_alike hosts members_are 0 made.1)) network.few_faulty)

  pub is_network : IsNetworkOf same elect term_length members_are
  is_network = record {
    few_faulty = few;
    honest = λ i s at. (
        let found = pair_at IsMember hosts members_are 0 i (replica.Honest s) made.1 at in
        (execution_at i found.0 s (subst (λ j. IsMember j found.0 (replica.Honest s))
        (let index : 0 + i ≡ i = omega arith in index) found.2)).0);
    backed = λ i s c at among. (
        let found = pair_at IsMember hosts members_are 0 i (replica.Honest s) made.1 at in
        backed c ((execution_at i found.0 s (subst (λ j. IsMember j found.0 (replica.Honest s))
        (let index : 0 + i ≡ i = omega arith in index) found.2)).1 c among));
  }

  -- what an honest host reported as final has a certificate
  finalized : (p : Proposal D) → IsReportedFinal hosts p → Backed members_are (subject.Finalize p)
  finalized p (i, processes, at, has) = backed (subject.Finalize p)
      ((run i processes (network.honest i processes at)).finals p has)

  pub one_final : OneProposal members_are → OneFinalOfEachView hosts
  one_final agree p q has_p has_q = agree p q (inr (finalized p has_p)) (inr (finalized q has_q))

  pub uncovered : FinalizedUncovered members_are term_length → FinalsUncovered hosts term_length
  uncovered agree final round has may = agree final round (finalized final has) (backed (subject.Nullify round) may)

  chain : (ps : List (Proposal D)) → NotarizedChain hosts ps → Chain members_are ps
  chain [] is = tt
  chain (p ∷ []) is = backed (subject.Notarize p) is
  chain (p ∷ (q ∷ rest)) is = (backed (subject.Notarize p) is.0, is.1, chain (q ∷ rest) is.2)

  pub chains_hold : ChainHoldsFinalized members_are → ChainsHoldFinals hosts
  chains_hold agree final high low ps has is = agree final high low ps (finalized final has) (chain ps is)

module _ {S L D K G C : Type 0} (same : D → D → Bool) (elect : Elect L) (bytes_of : C → List ℕ)
    (is_signature : K → Subject D → G → Type 0)
    (keys_of : S → List K) (me : S → Option ℕ) (terms : L → Terms) where
  pub each_one_final : OfEachNetwork K same elect (λ term_length. OneProposal)
      → OfEachHostNetwork {C = C} same elect bytes_of is_signature keys_of me terms (λ term_length. OneFinalOfEachView)
  each_one_final agree term_length hosts network =
      one_final same elect bytes_of is_signature keys_of me terms term_length hosts network
      (agree term_length (members_are same elect bytes_of is_signature keys_of me terms term_length hosts network)
      (is_network same elect bytes_of is_signature keys_of me terms term_length hosts network))

  pub each_uncovered : OfEachNetwork K same elect (λ term_length network. FinalizedUncovered network term_length)
      → OfEachHostNetwork {C = C} same elect bytes_of is_signature keys_of me terms
      (λ term_length hosts. FinalsUncovered hosts term_length)
  each_uncovered agree term_length hosts network =
      uncovered same elect bytes_of is_signature keys_of me terms term_length hosts network
      (agree term_length (members_are same elect bytes_of is_signature keys_of me terms term_length hosts network)
      (is_network same elect bytes_of is_signature keys_of me terms term_length hosts network))

  pub each_chain_holds : OfEachNetwork K same elect (λ term_length. ChainHoldsFinalized)
      → OfEachHostNetwork {C = C} same elect bytes_of is_signature keys_of me terms (λ term_length. ChainsHoldFinals)
  each_chain_holds agree term_length hosts network =
      chains_hold same elect bytes_of is_signature keys_of me terms term_length hosts network
      (agree term_length (members_are same elect bytes_of is_signature keys_of me terms term_length hosts network)
      (is_network same elect bytes_of is_signature keys_of me terms term_length hosts network))
