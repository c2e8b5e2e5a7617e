-- The members of a network of hosts are a network, in which each certificate of the hosts is one of the members.
use Rattle.std.proofs.Common.{◌≡◌, ◌⊎◌, inl, inr, ℕ, ◌+◌, ◌-◌, ◌*◌, ◌<◌, ◌≤◌, Bool, true, List, [], ◌∷◌, length, slice_get, Some, refl, sym, subst, arith}
use Rattle.std.specs.Prelude.{Contains}
use Rattle.std.specs.List.{count_by}
use Rattle.simplex_types.specs.declared.types.messages.Proposal.{Proposal}
use Rattle.simplex_types.specs.declared.types.messages.Subject.{Subject}
use Rattle.simplex_types.specs.declared.types.messages.Subject.TheVariants as subject
use Rattle.simplex_voter.specs.Facts.{Elect}
use Rattle.laws_safety.specs.Agreement.{Chain}
use Rattle.laws_safety.specs.Executions.{Execution, trace_of}
use Rattle.laws_safety.specs.Replicas.{Replica, FewFaulty, is_faulty, faults, max_faults, quorum, AtLeastFrom, MayHaveSigned, Backed, IsNetworkOf}
use Rattle.laws_safety.specs.Replicas as replica
use Rattle.laws_safety.specs.Traces.{Accepts}
use Rattle.laws_safety.proofs.agreement.Quorums.{shared_member}
use Rattle.laws_safety.proofs.agreement.VoteOrder.{voted, earlier}
use Rattle.laws_safety.proofs.records.RunsLawful.{execution_lawful}
use Rattle.laws_progress.proofs.runs.LedLives.{judged_are_notarized}
use Rattle.laws_hosts.specs.Processes.{Process}
use Rattle.laws_hosts.specs.HostAgreement.{NotarizedChain}
use Rattle.laws_hosts.specs.HostNetworks.{Host, Faulty, Honest, is_faulty_host, FewFaultyHosts, MayHaveSent, IsCertifiable}
use Rattle.laws_hosts.proofs.QuorumVotes.{ArePairs, same_length, pair_at, as_many, same_count}
use Rattle.laws_finals.specs.HostMembers.{IsMemberOf, IsMember, AreMembers}
use Rattle.laws_finals.proofs.CertifiedParents.{IsFinalOrCertified}
use Rattle.laws_finals.proofs.MembersOfHosts.{pairs_of}

module _ {S L D K G C : Type 0} (same : D → D → Bool) (elect : Elect L) (term_length : ℕ)
    (hosts : List (Host S L D K G C)) (members : List (Replica K L D))
    (are : AreMembers same elect term_length hosts members) where
  pairs : ArePairs (IsMember same elect term_length hosts) 0 hosts members
  pairs = pairs_of same elect term_length hosts 0 hosts members are

  -- the host of an honest member
  pub honest_at : (i : ℕ) (s : Execution K L D) → slice_get members i ≡ Some (replica.Honest s)
      → (processes : List (Process S L D K G C)) × (slice_get hosts i ≡ Some (Honest processes))
      × IsMemberOf same elect term_length hosts i processes s
  honest_at i s at =
      let found = pair_at (IsMember same elect term_length hosts) hosts members 0 i (replica.Honest s) pairs at in
      let index : 0 + i ≡ i = omega arith in
      by_host found.0 found.1
      (subst (λ j. IsMember same elect term_length hosts j found.0 (replica.Honest s)) index found.2)
    where
      by_host : (host : Host S L D K G C) → slice_get hosts i ≡ Some host
          → IsMember same elect term_length hosts i host (replica.Honest s)
          → (processes : List (Process S L D K G C)) × (slice_get hosts i ≡ Some (Honest processes))
          × IsMemberOf same elect term_length hosts i processes s
      by_host Faulty there is = absurd is
      by_host (Honest processes) there is = (processes, there, is)

  pub count_is : length members ≡ length hosts
  count_is = same_length (IsMember same elect term_length hosts) hosts members 0 pairs

  faulty_alike : (i : ℕ) (host : Host S L D K G C) (r : Replica K L D)
      → IsMember same elect term_length hosts i host r → is_faulty r ≡ is_faulty_host host
  faulty_alike i Faulty replica.Faulty is = refl
  faulty_alike i Faulty (replica.Honest s) is = absurd is
  faulty_alike i (Honest processes) replica.Faulty is = absurd is
  faulty_alike i (Honest processes) (replica.Honest s) is = refl

  pub faults_are : faults members ≡ count_by is_faulty_host hosts
  faults_are = same_count (IsMember same elect term_length hosts) is_faulty_host is_faulty faulty_alike hosts members 0
      pairs

  signed_if_sent : (vote : Subject D) (i : ℕ) (host : Host S L D K G C) (r : Replica K L D)
      → IsMember same elect term_length hosts i host r → MayHaveSent vote i host → MayHaveSigned vote i r
  signed_if_sent vote i Faulty replica.Faulty is sent = tt
  signed_if_sent vote i Faulty (replica.Honest s) is sent = absurd is
  signed_if_sent vote i (Honest processes) replica.Faulty is sent = absurd is
  signed_if_sent vote i (Honest processes) (replica.Honest s) is sent = is.votes vote sent

  pub backed : (c : Subject D) → IsCertifiable hosts c → Backed members c
  backed c may =
      subst (λ n. AtLeastFrom 0 (quorum n) (MayHaveSigned c) members) (sym count_is)
      (as_many (IsMember same elect term_length hosts) (MayHaveSent c) (MayHaveSigned c) (signed_if_sent c) hosts
      members 0 (quorum (length hosts)) pairs may)

  -- a certificate that an honest member accepted may exist
  pub accepted_may_exist : (i : ℕ) (s : Execution K L D) → slice_get members i ≡ Some (replica.Honest s)
      → (c : Subject D) → Contains (trace_of s) (Accepts c) → IsCertifiable hosts c
  accepted_may_exist i s at c among = (honest_at i s at).2.certificates c among

  few : FewFaultyHosts hosts → FewFaulty members
  few few_hosts =
      subst (λ n. ((1 ≤ n) × (faults members ≤ max_faults n)) ⊎ (faults members < n - 2 * max_faults n)) (sym count_is)
      (subst (λ f. ((1 ≤ length hosts) × (f ≤ max_faults (length hosts)))
      ⊎ (f < length hosts - 2 * max_faults (length hosts))) (sym faults_are) few_hosts)

  pub is_network : FewFaultyHosts hosts → IsNetworkOf same elect term_length members
  is_network few_hosts = record {
    few_faulty = few few_hosts;
    honest = λ i s at. (honest_at i s at).2.runs;
    backed = λ i s c at among. backed c (accepted_may_exist i s at c among);
  }

  pub chain_of : (ps : List (Proposal D)) → NotarizedChain hosts ps → Chain members ps
  chain_of [] is = tt
  chain_of (p ∷ []) is = backed (subject.Notarize p) is
  chain_of (p ∷ (q ∷ rest)) is = (backed (subject.Notarize p) is.0, is.1, chain_of (q ∷ rest) is.2)

  -- a finalized proposal has a notarization that an honest member accepted, and so has a certified one
  pub notarized : (decides : (d e : D) → same d e ≡ true → d ≡ e) → FewFaultyHosts hosts → (q : Proposal D)
      → IsFinalOrCertified members q → IsCertifiable hosts (subject.Notarize q)
  notarized decides few_hosts q (inl finalized) =
      let good = is_network few_hosts in
      let m = shared_member members (subject.Finalize q) (subject.Finalize q) good.few_faulty finalized finalized in
      let signs = voted (trace_of m.1) (subject.Finalize q) m.3 in
      let keeps = execution_lawful same decides elect term_length m.0 m.1 (good.honest m.0 m.1 m.2) in
      accepted_may_exist m.0 m.1 m.2 (subject.Notarize q)
      (earlier (trace_of m.1) signs.0 (subject.Finalize q) (Accepts (subject.Notarize q)) signs.1
      (keeps.finalizes_notarized signs.0 q signs.1))
  notarized decides few_hosts q (inr (has, (i, s, at, judged))) =
      accepted_may_exist i s at (subject.Notarize q)
      (judged_are_notarized same decides elect term_length i s ((is_network few_hosts).honest i s at) true q judged)
