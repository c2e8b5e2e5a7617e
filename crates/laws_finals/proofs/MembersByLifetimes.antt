-- The members of hosts that stop within lifetimes: each lifetime is a process, and each verdict is on an offer.
use Rattle.std.proofs.Common.{◌≡◌, inl, inr, ℕ, suc, ◌+◌, Bool, List, [], ◌∷◌, ◌++◌, length, slice_get, Option, Some, refl, sym, subst, ◌∙◌, arith}
use Rattle.std.specs.Prelude.{Contains}
use Rattle.simplex_types.specs.declared.types.messages.Subject.{Subject}
use Rattle.simplex_types.specs.declared.types.window.Terms.{Terms}
use Rattle.simplex_voter.specs.Facts.{Elect}
use Rattle.simplex_member.specs.declared.member.journal.Stored.{Stored}
use Rattle.laws_safety.specs.Continuations.{EachHonest}
use Rattle.laws_safety.specs.Executions.{Execution}
use Rattle.laws_safety.specs.ObservedTraces.{StartsAs}
use Rattle.laws_safety.specs.Replicas.{Replica}
use Rattle.laws_safety.specs.Replicas as replica
use Rattle.laws_safety.proofs.executions.ExecutionSteps.{execution_ran}
use Rattle.laws_safety.proofs.lists.Splits.{Contains-cases}
use Rattle.laws_chains.specs.Offers.{RunsOnOffers}
use Rattle.laws_chains.specs.Parents.{EachLifetime}
use Rattle.engine_outbox.specs.declared.output.Output.{Output}
use Rattle.laws_hosts.specs.Processes.{Process, carried_by, AreProcesses}
use Rattle.laws_hosts.specs.HostNetworks.{Host, Faulty, Honest, IsCertifiable, IsHostNetwork}
use Rattle.laws_hosts.proofs.CallTraces.{none_in}
use Rattle.laws_hosts.proofs.QuorumVotes.{ArePairs, paired, pair_at}
use Rattle.laws_finals.specs.HostMembers.{IsMemberOf, IsMember, AreMembersFrom, AreMembers, IsSetUpByOne, LifetimesAreProcesses}
use Rattle.laws_finals.specs.HostLifetimes.{HostsStopWithinLifetimes}
use Rattle.laws_finals.proofs.Lifetimes.{HasLived, all_lived}

module _ {S L D K G C : Type 0} (same : D → D → Bool) (elect : Elect L) (bytes_of : C → List ℕ)
    (is_signature : K → Subject D → G → Type 0)
    (keys_of : S → List K) (me : S → Option ℕ) (terms : L → Terms) (elects_early : L → Bool) (term_length : ℕ)
    (hosts : List (Host S L D K G C))
    (network : IsHostNetwork same elect bytes_of is_signature keys_of me terms term_length hosts)
    (stop : HostsStopWithinLifetimes same elect bytes_of keys_of me terms elects_early hosts) where
  starts_of : (i count : ℕ) (before : List (Output S D Stored K G C)) (processes : List (Process S L D K G C))
      → AreProcesses same elect bytes_of is_signature keys_of me terms term_length i count before processes
      → (p : Process S L D K G C) → Contains processes p → StartsAs me terms term_length i p.start
  starts_of i count before [] are p h = none_in p h
  starts_of i count before (process ∷ rest) are p h = elim (Contains-cases process rest p h) [
    | inl one ↦ subst (λ (q : Process S L D K G C). StartsAs me terms term_length i q.start) one are.0.starts
    | inr later ↦ starts_of i count (before ++ process.carried) rest are.1 p later
  ]

  has_lived : (i : ℕ) (processes : List (Process S L D K G C)) → slice_get hosts i ≡ Some (Honest processes)
      → HasLived same elect bytes_of keys_of me terms elects_early (IsCertifiable hosts) term_length i processes
      (carried_by processes)
  has_lived i [] at = absurd ((network.honest i [] at).some refl)
  has_lived i (process ∷ rest) at =
      let honest = network.honest i (process ∷ rest) at in
      all_lived same elect bytes_of keys_of me terms elects_early (IsCertifiable hosts) term_length i (process ∷ rest)
      process rest [] []
      (λ p h. record {
        among = h;
        starts = starts_of i (length hosts) [] (process ∷ rest) honest.runs p h;
        floor = λ c among. honest.floors p c h among;
      }) (stop i (process ∷ rest) at) (inl (refl, refl))

  -- a host's member, whose lifetimes are its processes
  abbrev IsLived : ℕ → Host S L D K G C → Replica K L D → Type 0
  IsLived i Faulty replica.Faulty = Unit {0}
  IsLived i (Honest processes) (replica.Honest s) =
      IsMemberOf same elect term_length hosts i processes s
      × EachLifetime (IsSetUpByOne keys_of me terms elects_early processes) s
      × RunsOnOffers same elect s
  IsLived i _ _ = ⊥

  member_of : (i : ℕ) (host : Host S L D K G C) → slice_get hosts i ≡ Some host
      → (r : Replica K L D) × IsLived i host r
  member_of i Faulty at = (replica.Faulty, tt)
  member_of i (Honest processes) at =
      let has = has_lived i processes at in (
        replica.Honest has.s,
        (
          record {
            runs = execution_ran same elect term_length i has.s has.m has.made.has;
            votes = λ vote sent. has.votes (record { subject = vote; signer = i; signature = sent.0 }) sent.1;
            certificates = has.made.good;
          },
          has.made.set_up,
          (has.m, has.made.on_offers),
        ),
      )

  pub lived : (members : List (Replica K L D)) × ArePairs IsLived 0 hosts members
  lived = paired IsLived hosts 0 (λ k host at. (
      let index : k ≡ 0 + k = omega arith in
      let found = member_of k host at in
      (found.0, subst (λ j. IsLived j host found.0) index found.1)))

  abbrev pub members_are : List (Replica K L D)
  members_are = lived.0

  as_member : (i : ℕ) (host : Host S L D K G C) (r : Replica K L D) → IsLived i host r
      → IsMember same elect term_length hosts i host r
  as_member i Faulty replica.Faulty is = tt
  as_member i Faulty (replica.Honest s) is = absurd is
  as_member i (Honest processes) replica.Faulty is = absurd is
  as_member i (Honest processes) (replica.Honest s) is = is.0

  as_members : (i : ℕ) (rest : List (Host S L D K G C)) (members : List (Replica K L D))
      → ArePairs IsLived i rest members → AreMembersFrom same elect term_length hosts i rest members
  as_members i [] [] are = tt
  as_members i [] (member ∷ members) are = absurd are
  as_members i (host ∷ rest) [] are = absurd are
  as_members i (host ∷ rest) (member ∷ members) are =
      (as_member i host member are.0, as_members (suc i) rest members are.1)

  pub are_members : AreMembers same elect term_length hosts members_are
  are_members = as_members 0 hosts members_are lived.1

  -- the host of an honest member
  lived_at : (i : ℕ) (s : Execution K L D) → slice_get members_are i ≡ Some (replica.Honest s)
      → (processes : List (Process S L D K G C)) × (slice_get hosts i ≡ Some (Honest processes))
      × IsLived i (Honest processes) (replica.Honest s)
  lived_at i s at =
      let found = pair_at IsLived hosts members_are 0 i (replica.Honest s) lived.1 at in
      let index : 0 + i ≡ i = omega arith in
      by_host found.0 found.1 (subst (λ j. IsLived j found.0 (replica.Honest s)) index found.2)
    where
      by_host : (host : Host S L D K G C) → slice_get hosts i ≡ Some host → IsLived i host (replica.Honest s)
          → (processes : List (Process S L D K G C)) × (slice_get hosts i ≡ Some (Honest processes))
          × IsLived i (Honest processes) (replica.Honest s)
      by_host Faulty there is = absurd is
      by_host (Honest processes) there is = (processes, there, is)

  same_processes : (processes others : List (Process S L D K G C))
      → ◌≡◌ {A = Option (Host S L D K G C)} (Some (Honest processes)) (Some (Honest others)) → processes ≡ others
  same_processes processes others is = cc

  pub are_processes : LifetimesAreProcesses keys_of me terms elects_early hosts members_are
  are_processes i processes s there at =
      let found = lived_at i s at in
      subst (λ ps. EachLifetime (IsSetUpByOne keys_of me terms elects_early ps) s)
      (same_processes found.0 processes (sym found.1 ∙ there)) found.2.1

  pub on_offers : EachHonest members_are (λ i s. RunsOnOffers same elect s)
  on_offers i s at = (lived_at i s at).2.2
