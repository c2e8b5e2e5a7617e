-- The lifetimes of a host's member: what it did in each process until the host stopped.
use Rattle.std.specs.Prelude.{◌≡◌, ◌⊎◌, ℕ, Bool, List, [], ◌∷◌, ◌++◌, slice_get, Contains, Option, Some, None}
use Rattle.simplex_types.specs.declared.types.messages.Artifact.{Artifact}
use Rattle.simplex_types.specs.declared.types.messages.Subject.{Subject}
use Rattle.simplex_types.specs.declared.types.window.Terms.{Terms}
use Rattle.simplex_voter.specs.Facts.{Elect}
use Rattle.simplex_record.specs.Entries.{entries_of}
use Rattle.simplex_record.specs.Recovery.{recover_error}
use Rattle.simplex_record.specs.Start.{StartFacts, start_facts, new_state}
use Rattle.simplex_member.specs.Calls.{ReplyFacts}
use Rattle.simplex_member.specs.Journal.{stored_of, IsResumed}
use Rattle.simplex_member.specs.MemberFacts.{MemberFacts}
use Rattle.simplex_member.specs.Runs.{StepFacts, Restarts}
use Rattle.simplex_member.specs.declared.member.journal.Stored.{Stored}
use Rattle.laws_safety.specs.Executions.{new_member}
use Rattle.laws_safety.specs.Traces.{TraceEvent, Accepts, Signs, trace_of_steps}
use Rattle.laws_chains.specs.Offers.{IsRunOnOffers}
use Rattle.engine_votes.specs.declared.votes.Vote.{Vote}
use Rattle.engine_outbox.specs.Journals.{journal_of}
use Rattle.engine_outbox.specs.declared.output.Output.{Output}
use Rattle.engine_outbox.specs.declared.output.Output.TheVariants as output
use Rattle.laws_hosts.specs.HostNetworks.{Host, Honest, IsCertifiable}
use Rattle.laws_hosts.specs.Processes.{Process}

-- the steps of a member in a lifetime, each with its reply, and the member after them
pub record Lifetime (K L D : Type 0) : Type 0 where
  pub steps : List (StepFacts K L D)
  pub replies : List (ReplyFacts K D)
  pub left : MemberFacts K L D

-- what a member accepted and signed in a lifetime
abbrev pub trace_in : {K L D : Type 0} → Lifetime K L D → List (TraceEvent D)
trace_in life = trace_of_steps life.steps life.replies

module _ {S L D K G C : Type 0} (same : D → D → Bool) (elect : Elect L) (bytes_of : C → List ℕ) where
  -- the member with which a process begins: a new one if nothing was stored, by a start that is not refused (clause
  -- `started` of `Engine::start`), and otherwise the stored one, resumed (clause `resumed` of `Engine::resume`)
  abbrev pub BeginsFrom : Option Stored → List (Artifact S D K G C) → StartFacts K L D → MemberFacts K L D → Type 0
  BeginsFrom None entries start m =
      (recover_error same (new_state start.setup) start.floor start.now [] ≡ None) × (m ≡ new_member same elect start)
  BeginsFrom (Some stored) entries start m = IsResumed same elect stored (entries_of bytes_of entries) start m

  -- a host stopped when its member had made these steps in the process: no restart, and verdicts on offers alone. The
  -- journal holds the member's record then. The member had signed each vote that was carried out, at the latest then,
  -- and each certificate that it accepted may exist
  pub record IsLifetime (MayExist : Subject D → Type 0) (earlier : List (TraceEvent D))
      (before : List (Output S D Stored K G C)) (process : Process S L D K G C) (life : Lifetime K L D) : Type 0 where
    pub run : IsRunOnOffers same elect process.first.core.member.facts life.steps life.replies life.left
    pub one : (r : _) → Contains life.steps (Restarts r) → ⊥
    pub entries : entries_of bytes_of (journal_of (before ++ process.carried)).entries ≡ life.left.entries
    pub beside : (journal_of (before ++ process.carried)).beside ≡ Some (stored_of life.left)
    pub votes : (vote : Vote D G) → Contains process.carried (output.Vote vote)
        → Contains (earlier ++ trace_in life) (Signs vote.signer vote.subject)
    pub certificates : (certificate : Subject D) → Contains (trace_in life) (Accepts certificate)
        → MayExist certificate

module _ {S L D K G C : Type 0} (same : D → D → Bool) (elect : Elect L) (bytes_of : C → List ℕ)
    (keys_of : S → List K) (me : S → Option ℕ) (terms : L → Terms) (elects_early : L → Bool) where
  -- a host runs these processes after others, in which its member did `earlier`: each begins from the journal, and the
  -- host stops within the lifetime, or before it carries anything out
  abbrev pub StopsWithinLifetimes : (Subject D → Type 0) → List (TraceEvent D) → List (Output S D Stored K G C)
      → List (Process S L D K G C) → Type 0
  StopsWithinLifetimes MayExist earlier before [] = Unit {0}
  StopsWithinLifetimes MayExist earlier before (process ∷ rest) =
      BeginsFrom same elect bytes_of (journal_of before).beside (journal_of before).entries
      (start_facts me keys_of terms elects_early bytes_of process.start) process.first.core.member.facts
      × (((process.carried ≡ []) × StopsWithinLifetimes MayExist earlier before rest)
      ⊎ ((life : Lifetime K L D) × IsLifetime same elect bytes_of MayExist earlier before process life
      × StopsWithinLifetimes MayExist (earlier ++ trace_in life) (before ++ process.carried) rest))

  -- each honest host stops within lifetimes, or before it carries anything out
  abbrev pub HostsStopWithinLifetimes : List (Host S L D K G C) → Type 0
  HostsStopWithinLifetimes hosts =
      (i : ℕ) (processes : List (Process S L D K G C)) → slice_get hosts i ≡ Some (Honest processes)
      → StopsWithinLifetimes (IsCertifiable hosts) [] [] processes
