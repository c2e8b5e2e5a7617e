-- Each certificate that the member of an honest host's last engine has accepted may exist, and no nullification that
-- may exist covers a view of which a finalization may.
use Rattle.std.proofs.Common.{◌≡◌, inl, inr, refl, ap, sym, ◌∙◌, subst, ℕ, ◌+◌, Bool, false, List, [], ◌∷◌, ◌++◌, append-nil, length, slice_get, Option, Some, arith}
use Rattle.std.specs.Prelude.{Contains}
use Rattle.std.proofs.lemmas.List.Elements.{All-contains}
use Rattle.simplex_types.specs.Quorums.{AreRising}
use Rattle.simplex_types.specs.Terms.{covers}
use Rattle.simplex_types.specs.declared.types.messages.Proposal.{Proposal}
use Rattle.simplex_types.specs.declared.types.messages.Subject.{Subject}
use Rattle.simplex_types.specs.declared.types.messages.Subject.TheVariants as subject
use Rattle.simplex_types.specs.declared.types.numbers.Round.{Round}
use Rattle.simplex_types.specs.declared.types.window.Terms.{Terms}
use Rattle.simplex_voter.specs.Facts.{Elect}
use Rattle.simplex_member.specs.MemberFacts.{MemberFacts}
use Rattle.simplex_member.specs.declared.member.journal.Stored.{Stored}
use Rattle.laws_safety.specs.Agreement.{FinalizedUncovered}
use Rattle.laws_safety.specs.Executions.{Execution, trace_of}
use Rattle.laws_safety.specs.MemberHistory.{HasHistory}
use Rattle.laws_safety.specs.ObservedTraces.{floor_in}
use Rattle.laws_safety.specs.Replicas.{Replica, AtLeastFrom, Backed, MayHaveSigned, OfEachNetwork, quorum}
use Rattle.laws_safety.specs.Replicas as replica
use Rattle.laws_safety.specs.Traces.{TraceEvent, Signs}
use Rattle.laws_safety.proofs.lists.Splits.{Contains-cons_rest, only_one}
use Rattle.engine_votes.specs.declared.votes.Vote.{Vote}
use Rattle.engine_outbox.specs.HostStops.{votes_recorded, WereSigned}
use Rattle.engine_outbox.specs.Journals.{journal_of}
use Rattle.engine_outbox.specs.declared.output.Output.{Output}
use Rattle.engine_outbox.specs.declared.output.Output.TheVariants as output
use Rattle.engine_outbox.proofs.HostStops.{signed_still}
use Rattle.laws_hosts.specs.HostNetworks.{Host, Faulty, Honest, MayHaveSent, IsCertifiable, IsHostNetwork}
use Rattle.laws_hosts.specs.Processes.{Process, MemberBegins, IsProcess, AreProcesses}
use Rattle.laws_hosts.proofs.CallTraces.{none_in, here, AcceptsGood, good_both, QuorumsAreGood, called}
use Rattle.laws_hosts.proofs.Hosts.{FinalsAreGood, HasRun, IsStoredIfAny, PassesAllGood, all_processed}
use Rattle.laws_hosts.proofs.Networks.{made, members_are, is_network}
use Rattle.laws_hosts.proofs.QuorumVotes.{ArePairs, at_least, same_length, as_many}
use Rattle.laws_host_steps.specs.HostSteps.{AreNetworkSteps}
use Rattle.laws_host_steps.proofs.HostSteps.{certifiable_still, have, one_step}
use Rattle.laws_rounds.specs.Rounds.{IsLastProcess}

-- ---- hosts as members of a network

module _ {S L D K G C : Type 0} (R : ℕ → Host S L D K G C → Replica K L D → Type 0)
    (none_honest : (i : ℕ) (s : Execution K L D) → R i Faulty (replica.Honest s) → ⊥)
    (signs : (i : ℕ) (processes : List (Process S L D K G C)) (s : Execution K L D)
    → R i (Honest processes) (replica.Honest s) → (vote : Subject D) → MayHaveSent vote i (Honest processes)
    → Contains (trace_of s) (Signs i vote)) where
  -- a member has signed what its host has carried out
  signed_if_sent : (vote : Subject D) (i : ℕ) (host : Host S L D K G C) (r : Replica K L D) → R i host r
      → MayHaveSent vote i host → MayHaveSigned vote i r
  signed_if_sent vote i host replica.Faulty is sent = tt
  signed_if_sent vote i Faulty (replica.Honest s) is sent = absurd (none_honest i s is)
  signed_if_sent vote i (Honest processes) (replica.Honest s) is sent = signs i processes s is vote sent

  -- a certificate that may exist has its votes
  backed_by : (hosts : List (Host S L D K G C)) (members : List (Replica K L D)) → ArePairs R 0 hosts members
      → (c : Subject D) → IsCertifiable hosts c → Backed members c
  backed_by hosts members are c may =
      subst (λ n. AtLeastFrom 0 (quorum n) (MayHaveSigned c) members) (sym (same_length R hosts members 0 are))
      (as_many R (MayHaveSent c) (MayHaveSigned c) (signed_if_sent c) hosts members 0 (quorum (length hosts)) are may)

module _ {S L D K G C : Type 0} (same : D → D → Bool) (elect : Elect L) (bytes_of : C → List ℕ)
    (is_signature : K → Subject D → G → Type 0) (keys_of : S → List K) (me : S → Option ℕ) (terms : L → Terms)
    (term_length : ℕ) (hosts : List (Host S L D K G C))
    (network : IsHostNetwork same elect bytes_of is_signature keys_of me terms term_length hosts) where
  backed : (c : Subject D) → IsCertifiable hosts c
      → Backed (members_are same elect bytes_of is_signature keys_of me terms term_length hosts network) c
  backed = backed_by _ (λ i s is. is) (λ i processes s is. is.1) hosts
      (members_are same elect bytes_of is_signature keys_of me terms term_length hosts network)
      (made same elect bytes_of is_signature keys_of me terms term_length hosts network).1

  pub uncovered : OfEachNetwork K same elect (λ length members. FinalizedUncovered members length)
      → (final : Proposal D) (round : Round) → IsCertifiable hosts (subject.Finalize final)
      → IsCertifiable hosts (subject.Nullify round) → covers term_length round.view final.round.view ≡ false
  uncovered agree final round is_final is_nullified =
      agree term_length (members_are same elect bytes_of is_signature keys_of me terms term_length hosts network)
      (is_network same elect bytes_of is_signature keys_of me terms term_length hosts network) final round
      (backed (subject.Finalize final) is_final) (backed (subject.Nullify round) is_nullified)

  -- ---- the last process of a host

  -- the signer's host is faulty or carried the vote out
  abbrev IsSent : Vote D G → Type 0
  IsSent vote = (host : Host S L D K G C) → slice_get hosts vote.signer ≡ Some host
      → MayHaveSent vote.subject vote.signer host

  abbrev IsGood : Subject D → Type 0
  IsGood = IsCertifiable hosts

  quorums_good : QuorumsAreGood (length hosts) IsSent IsGood
  quorums_good votes vote_subject sent has =
      let from_zero : length hosts ≡ 0 + length hosts = omega arith in
      subst (λ count. AtLeastFrom 0 count (MayHaveSent vote_subject) hosts) has.quorum
      (at_least (MayHaveSent vote_subject) hosts 0 0 has.signed (omega arith)
      (subst (λ n. AreRising n 0 has.signed) from_zero has.rising) (λ s among k host at is. (
      let index : k ≡ s.0 = omega (arith, is) in
      sent (record { subject = vote_subject; signer = s.0; signature = s.1 })
      (All-contains (λ t. Contains votes (record { subject = vote_subject; signer = t.0; signature = t.1 })) has.signed
      s has.are_given among)
      host (subst (λ j. slice_get hosts j ≡ Some host) index at))))

  module _ (i : ℕ) where
    abbrev PassesGood : Process S L D K G C → Type 0
    PassesGood = PassesAllGood bytes_of IsSent IsGood

    -- this is all that a member has done, and each certificate that it accepted may exist
    pub record HasGoodHistory (trace : List (TraceEvent D)) (m : MemberFacts K L D) : Type 0 where
      pub done : HasHistory same elect term_length i trace m
      pub good : AcceptsGood IsGood trace

    -- besides, it has signed each vote of its record
    record HasBegun (process : Process S L D K G C) : Type 0 where
      trace : List (TraceEvent D)
      has : HasGoodHistory trace process.first.core.member.facts
      recorded : WereSigned trace (votes_recorded process.first.core.member.votes)

    begun : (earlier : List (Output S D Stored K G C)) (process : Process S L D K G C)
        → IsProcess same elect bytes_of is_signature keys_of me terms term_length i (length hosts) (journal_of earlier)
        process
        → AcceptsGood IsGood (floor_in process.start.floor)
        → IsStoredIfAny same elect bytes_of IsGood term_length i earlier → HasBegun process
    begun earlier process is good (inl none) =
        let started = subst (λ outs. MemberBegins same elect bytes_of keys_of me terms (journal_of outs).beside
        (journal_of outs).entries process.start process.first.core.member) none is.begins.member in
        record {
          trace = floor_in process.start.floor;
          has = record { done = started.0 term_length i is.starts; good = good };
          recorded = λ vote has. none_in vote (subst (λ vs. Contains (votes_recorded vs) vote) started.1 has);
        }
    begun earlier process is good (inr stored) =
        let floor = floor_in process.start.floor in
        let resumed = subst (λ b. MemberBegins same elect bytes_of keys_of me terms b (journal_of earlier).entries
        process.start process.first.core.member) stored.holds.beside is.begins.member in
        record {
          trace = stored.all ++ floor;
          has = record {
            done = resumed.0 stored.member.facts refl (sym stored.holds.entries) term_length i stored.all is.starts
                stored.has.done;
            good = good_both IsGood stored.all floor stored.has.good good;
          };
          recorded = signed_still stored.all floor (votes_recorded process.first.core.member.votes)
              (subst (λ vs. WereSigned stored.all (votes_recorded vs)) (sym (resumed.1 ∙ stored.holds.votes))
              stored.recorded);
        }

    abbrev IsGoodLast : Process S L D K G C → Type 0
    IsGoodLast process = (trace : List (TraceEvent D)) × HasGoodHistory trace process.last.core.member.facts

    called_last : (process : Process S L D K G C) (earlier : List (Output S D Stored K G C))
        → IsProcess same elect bytes_of is_signature keys_of me terms term_length i (length hosts) (journal_of earlier)
        process
        → PassesGood process → HasBegun process → IsGoodLast process
    called_last process earlier is passes from =
        let at = called same elect bytes_of is_signature keys_of (length hosts) IsSent IsGood term_length i from.trace
        quorums_good process.calls [] process.first process.last passes.calls is.runs (record {
          all = from.trace;
          traced = is.begins.traced term_length i from.trace from.has.done from.recorded;
          good = from.has.good;
          votes = [];
          are_given = is.begins.votes;
          are_sent = λ vote has. none_in vote has;
          members_are = ap length is.begins.keys ∙ is.members_are;
        }) in
        (at.all, record { done = at.traced.done; good = at.good })

    -- the member of a process, after those before it
    last_of : (before : List (Process S L D K G C)) (last : Process S L D K G C)
        (earlier : List (Output S D Stored K G C))
        → AreProcesses same elect bytes_of is_signature keys_of me terms term_length i (length hosts) earlier
        (before ++ last ∷ [])
        → ((p : Process S L D K G C) → Contains (before ++ last ∷ []) p → PassesGood p)
        → FinalsAreGood IsGood earlier → IsStoredIfAny same elect bytes_of IsGood term_length i earlier
        → IsGoodLast last
    last_of [] last earlier are passes finals stored =
        let passed = passes last (here last []) in
        called_last last earlier are.0 passed (begun earlier last are.0 passed.floor stored)
    last_of (process ∷ before) last earlier are passes finals stored =
        let alone = all_processed same elect bytes_of is_signature keys_of me terms (length hosts) IsSent IsGood
        term_length i quorums_good process [] earlier (are.0, tt)
        (λ p has. subst PassesGood (only_one process p has) (passes process (here process (before ++ last ∷ []))))
        finals stored in
        let ran : HasRun same elect bytes_of IsGood term_length i (earlier ++ process.carried) =
        subst (λ outs. HasRun same elect bytes_of IsGood term_length i (earlier ++ outs)) (append-nil process.carried)
        alone in
        last_of before last (earlier ++ process.carried) are.1
        (λ p has. passes p (Contains-cons_rest process (before ++ last ∷ []) p has)) ran.finals ran.stored

    pub good_last : (process : Process S L D K G C) → IsLastProcess hosts i process
        → (trace : List (TraceEvent D)) × HasGoodHistory trace process.last.core.member.facts
    good_last process (before, at) =
        let honest = network.honest i (before ++ process ∷ []) at in
        last_of before process [] honest.runs
        (λ p has. record {
          calls = record {
            votes = λ vote among host is_at. honest.votes p vote host has among is_at;
            certificates = λ certificate among. honest.certificates p certificate has among;
          };
          floor = λ c among. honest.floors p c has among;
        })
        (λ p has. none_in (output.Finalized p) has) (inl refl)

-- ---- steps of a network

module _ {S L D K G C : Type 0} (same : D → D → Bool) (elect : Elect L) (bytes_of : C → List ℕ)
    (is_signature : K → Subject D → G → Type 0) (keys_of : S → List K) (me : S → Option ℕ) (terms : L → Terms)
    (term_length : ℕ) where
  -- a certificate that may exist still may
  pub steps_certifiable : (stages : List (List (Host S L D K G C))) (hosts later : List (Host S L D K G C))
      → IsHostNetwork same elect bytes_of is_signature keys_of me terms term_length hosts
      → AreNetworkSteps same elect bytes_of is_signature keys_of me terms term_length stages hosts later
      → (c : Subject D) → IsCertifiable hosts c → IsCertifiable later c
  steps_certifiable [] hosts later network are c may = subst (λ now. IsCertifiable now c) (sym are) may
  steps_certifiable (next ∷ stages) hosts later network are c may =
      steps_certifiable stages next later
      (one_step same elect bytes_of is_signature keys_of me terms term_length hosts next network are.0) are.1 c
      (certifiable_still hosts next
      (have same elect bytes_of is_signature keys_of me terms term_length hosts next network are.0) c may)
