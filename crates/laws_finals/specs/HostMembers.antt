-- The members of a network of hosts: of each honest host an execution over all its processes.
use Rattle.std.specs.Prelude.{◌≡◌, ℕ, suc, Bool, List, [], ◌∷◌, slice_get, Contains, Option, Some}
use Rattle.simplex_types.specs.declared.types.messages.Subject.{Subject}
use Rattle.simplex_types.specs.declared.types.window.Terms.{Terms}
use Rattle.simplex_voter.specs.Facts.{Elect}
use Rattle.simplex_record.specs.Start.{Setup, setup_of}
use Rattle.laws_safety.specs.Executions.{Execution, trace_of, IsExecution}
use Rattle.laws_safety.specs.Replicas.{Replica}
use Rattle.laws_safety.specs.Replicas as replica
use Rattle.laws_safety.specs.Traces.{Accepts, Signs}
use Rattle.laws_chains.specs.Parents.{EachLifetime}
use Rattle.laws_hosts.specs.HostNetworks.{Host, Faulty, Honest, MayHaveSent, IsCertifiable}
use Rattle.laws_hosts.specs.Processes.{Process}

module _ {S L D K G C : Type 0} (same : D → D → Bool) (elect : Elect L) (term_length : ℕ)
    (hosts : List (Host S L D K G C)) where
  -- an execution of member `i`, of a host with these processes: it signed each vote that the host carried out, and
  -- accepted only certificates that may exist
  pub record IsMemberOf (i : ℕ) (processes : List (Process S L D K G C)) (s : Execution K L D) : Type 0 where
    pub runs : IsExecution same elect term_length i s
    pub votes : (vote : Subject D) → MayHaveSent vote i (Honest processes) → Contains (trace_of s) (Signs i vote)
    pub certificates : (certificate : Subject D) → Contains (trace_of s) (Accepts certificate)
        → IsCertifiable hosts certificate

  -- the member of a faulty host is faulty, and that of an honest host has such an execution
  abbrev pub IsMember : ℕ → Host S L D K G C → Replica K L D → Type 0
  IsMember i Faulty replica.Faulty = Unit {0}
  IsMember i (Honest processes) (replica.Honest s) = IsMemberOf i processes s
  IsMember i _ _ = ⊥

  -- these are the members of these hosts, one by one, the first of which is member `i`
  abbrev pub AreMembersFrom : ℕ → List (Host S L D K G C) → List (Replica K L D) → Type 0
  AreMembersFrom i [] [] = Unit {0}
  AreMembersFrom i (host ∷ rest) (member ∷ members) = IsMember i host member × AreMembersFrom (suc i) rest members
  AreMembersFrom i _ _ = ⊥

  -- the same for all hosts
  abbrev pub AreMembers : List (Replica K L D) → Type 0
  AreMembers members = AreMembersFrom 0 hosts members

  -- there are such members
  abbrev pub HaveMembers : Type 0
  HaveMembers = (members : List (Replica K L D)) × AreMembers members

module _ {S L D K G C : Type 0} (keys_of : S → List K) (me : S → Option ℕ) (terms : L → Terms)
    (elects_early : L → Bool) where
  -- a lifetime with this setup begins as one of these processes does
  abbrev pub IsSetUpByOne : List (Process S L D K G C) → Setup K L → Type 0
  IsSetUpByOne processes setup =
      (process : Process S L D K G C) × Contains processes process
      × (setup ≡ setup_of me keys_of terms elects_early process.start.settings)

  -- so does each lifetime of each honest member, as one of its host's processes
  abbrev pub LifetimesAreProcesses : List (Host S L D K G C) → List (Replica K L D) → Type 0
  LifetimesAreProcesses hosts members =
      (i : ℕ) (processes : List (Process S L D K G C)) (s : Execution K L D)
      → slice_get hosts i ≡ Some (Honest processes) → slice_get members i ≡ Some (replica.Honest s)
      → EachLifetime (IsSetUpByOne processes) s
