-- A network of hosts: which are faulty, the processes of the others, and the certificates that the votes which they
-- carried out make.
use Rattle.std.specs.Prelude.{◌≡◌, ◌≢◌, ◌⊎◌, ℕ, ◌-◌, ◌*◌, ◌≤◌, ◌<◌, Bool, true, false, List, [], length, slice_get, Contains, Option, Some}
use Rattle.std.specs.List.{count_by}
use Rattle.simplex_types.specs.Certificates.{certificate_facts}
use Rattle.simplex_types.specs.Encoding.{certificate_subject}
use Rattle.simplex_types.specs.declared.types.messages.Certificate.{Certificate}
use Rattle.simplex_types.specs.declared.types.messages.Subject.{Subject}
use Rattle.simplex_types.specs.declared.types.window.Terms.{Terms}
use Rattle.simplex_voter.specs.Facts.{Elect}
use Rattle.laws_safety.specs.ObservedTraces.{floor_in}
use Rattle.laws_safety.specs.Replicas.{max_faults, quorum, AtLeastFrom}
use Rattle.laws_safety.specs.Traces.{Accepts}
use Rattle.engine_votes.specs.declared.votes.Vote.{Vote}
use Rattle.engine_outbox.specs.declared.output.Output.TheVariants as output
use Rattle.simplex_engine.specs.declared.input.Input.TheVariants as input
use Rattle.laws_hosts.specs.EngineCalls.{Handled}
use Rattle.laws_hosts.specs.Processes.{Process, carried_by, AreProcesses}

-- the host of a member: a faulty one may send anything; an honest one has run these processes, oldest first
pub data Host (S L D K G C : Type 0) : Type 0 where
  Faulty : Host S L D K G C
  Honest : List (Process S L D K G C) → Host S L D K G C

module _ {S L D K G C : Type 0} where
  -- the host is faulty
  abbrev pub is_faulty_host : Host S L D K G C → Bool
  is_faulty_host Faulty = true
  is_faulty_host (Honest processes) = false

  -- at most f of the n hosts are faulty, or fewer than n - 2f
  abbrev pub FewFaultyHosts : List (Host S L D K G C) → Type 0
  FewFaultyHosts hosts =
      ((1 ≤ length hosts) × (count_by is_faulty_host hosts ≤ max_faults (length hosts)))
      ⊎ (count_by is_faulty_host hosts < length hosts - 2 * max_faults (length hosts))

  -- the host of member `i` is faulty, or carried out a vote of this member on the subject
  abbrev pub MayHaveSent : Subject D → ℕ → Host S L D K G C → Type 0
  MayHaveSent subject i Faulty = Unit {0}
  MayHaveSent subject i (Honest processes) =
      (signature : G)
      × Contains (carried_by processes) (output.Vote (record { subject = subject; signer = i; signature = signature }))

  -- this is true of n - f hosts: a certificate on the subject may exist
  abbrev pub IsCertifiable : List (Host S L D K G C) → Subject D → Type 0
  IsCertifiable hosts subject = AtLeastFrom 0 (quorum (length hosts)) (MayHaveSent subject) hosts

module _ {S L D K G C : Type 0} (same : D → D → Bool) (elect : Elect L) (bytes_of : C → List ℕ)
    (is_signature : K → Subject D → G → Type 0) (keys_of : S → List K) (me : S → Option ℕ) (terms : L → Terms) where
  -- member `i` has run these processes: at least one; each vote that it passed to an engine was carried out by its
  -- signer's host, unless that is faulty; and each certificate that it passed, or that was the floor of an engine, may
  -- exist
  pub record IsHonestHost (term_length i : ℕ) (hosts : List (Host S L D K G C)) (processes : List (Process S L D K G C))
      : Type 0 where
    pub some : processes ≢ []
    pub runs : AreProcesses same elect bytes_of is_signature keys_of me terms term_length i (length hosts) [] processes
    pub votes : (process : Process S L D K G C) (vote : Vote D G) (host : Host S L D K G C)
        → Contains processes process → Contains process.calls (Handled (input.Vote vote))
        → slice_get hosts vote.signer ≡ Some host → MayHaveSent vote.subject vote.signer host
    pub certificates : (process : Process S L D K G C) (certificate : Certificate S D K G C)
        → Contains processes process → Contains process.calls (Handled (input.Certificate certificate))
        → IsCertifiable hosts (certificate_subject (certificate_facts bytes_of certificate))
    pub floors : (process : Process S L D K G C) (subject : Subject D)
        → Contains processes process → Contains (floor_in process.start.floor) (Accepts subject)
        → IsCertifiable hosts subject

  -- few hosts are faulty, and the others are honest
  pub record IsHostNetwork (term_length : ℕ) (hosts : List (Host S L D K G C)) : Type 0 where
    pub few_faulty : FewFaultyHosts hosts
    pub honest : (i : ℕ) (processes : List (Process S L D K G C)) → slice_get hosts i ≡ Some (Honest processes)
        → IsHonestHost term_length i hosts processes

  -- of each such network, in terms of whatever length
  abbrev pub OfEachHostNetwork : (ℕ → List (Host S L D K G C) → Type 0) → Type 0
  OfEachHostNetwork Holds =
      (term_length : ℕ) (hosts : List (Host S L D K G C)) → IsHostNetwork term_length hosts → Holds term_length hosts
