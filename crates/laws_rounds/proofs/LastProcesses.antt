-- The last process of an honest host: its engine began with a member that has a history.
use Rattle.std.proofs.Common.{inl, inr, ℕ, Bool, List, [], ◌∷◌, ◌++◌, length, Option, refl, sym, subst, append_assoc, append-nil}
use Rattle.simplex_types.specs.declared.types.messages.Subject.{Subject}
use Rattle.simplex_types.specs.declared.types.window.Terms.{Terms}
use Rattle.simplex_voter.specs.Facts.{Elect}
use Rattle.simplex_member.specs.declared.member.journal.Stored.{Stored}
use Rattle.laws_safety.specs.ObservedTraces.{floor_in}
use Rattle.engine_outbox.specs.Journals.{journal_of}
use Rattle.engine_outbox.specs.declared.output.Output.{Output}
use Rattle.laws_hosts.specs.HostNetworks.{Host, IsHostNetwork}
use Rattle.laws_hosts.specs.Processes.{Process, carried_by, MemberBegins, IsProcess, AreProcesses}
use Rattle.laws_hosts.proofs.Hosts.{IsStoredIfAny, all_processed}
use Rattle.laws_rounds.specs.Rounds.{IsLastProcess}
use Rattle.laws_rounds.proofs.LifetimeCalls.{IsMember}

module _ {S L D K G C : Type 0} (same : D → D → Bool) (elect : Elect L) (bytes_of : C → List ℕ)
    (is_signature : K → Subject D → G → Type 0) (keys_of : S → List K) (me : S → Option ℕ) (terms : L → Terms)
    (term_length i members : ℕ) where
  -- the last process begins from what those before it have written
  parts : (before : List (Process S L D K G C)) (earlier : List (Output S D Stored K G C))
      (last : Process S L D K G C)
      → AreProcesses same elect bytes_of is_signature keys_of me terms term_length i members earlier
      (before ++ last ∷ [])
      → AreProcesses same elect bytes_of is_signature keys_of me terms term_length i members earlier before
      × IsProcess same elect bytes_of is_signature keys_of me terms term_length i members
      (journal_of (earlier ++ carried_by before)) last
  parts [] earlier last are = (
    tt,
    subst (λ outs. IsProcess same elect bytes_of is_signature keys_of me terms term_length i members
        (journal_of outs) last) (sym (append-nil earlier)) are.0,
  )
  parts (process ∷ before) earlier last are =
      let rest = parts before (earlier ++ process.carried) last are.1 in (
        (are.0, rest.0),
        subst (λ outs. IsProcess same elect bytes_of is_signature keys_of me terms term_length i members
            (journal_of outs) last) (append_assoc earlier process.carried (carried_by before)) rest.1,
      )

  -- those have stored nothing, or the record of a member
  stored : (before : List (Process S L D K G C))
      → AreProcesses same elect bytes_of is_signature keys_of me terms term_length i members [] before
      → IsStoredIfAny same elect bytes_of (λ c. Unit {0}) term_length i (carried_by before)
  stored [] are = inl refl
  stored (process ∷ rest) are =
      (all_processed same elect bytes_of is_signature keys_of me terms members (λ vote. Unit {0})
      (λ c. Unit {0}) term_length i (λ votes c sent has. tt) process rest [] are
      (λ p has. record {
        calls = record { votes = λ vote among. tt; certificates = λ certificate among. tt };
        floor = λ c among. tt;
      }) (λ p has. tt) (inl refl)).stored

  member_begins : (before : List (Output S D Stored K G C)) (process : Process S L D K G C)
      → IsProcess same elect bytes_of is_signature keys_of me terms term_length i members (journal_of before) process
      → IsStoredIfAny same elect bytes_of (λ c. Unit {0}) term_length i before
      → IsMember same elect bytes_of is_signature keys_of term_length i process.first.core.member.facts
  member_begins before process is (inl none) =
      let started = subst (λ outs. MemberBegins same elect bytes_of keys_of me terms (journal_of outs).beside
      (journal_of outs).entries process.start process.first.core.member) none is.begins.member in
      (floor_in process.start.floor, started.0 term_length i is.starts)
  member_begins before process is (inr record_of) =
      let resumed = subst (λ b. MemberBegins same elect bytes_of keys_of me terms b (journal_of before).entries
      process.start process.first.core.member) record_of.holds.beside is.begins.member in (
        record_of.all ++ floor_in process.start.floor,
        resumed.0 record_of.member.facts refl (sym record_of.holds.entries) term_length i record_of.all is.starts
            record_of.has.done,
      )

module _ {S L D K G C : Type 0} (same : D → D → Bool) (elect : Elect L) (bytes_of : C → List ℕ)
    (is_signature : K → Subject D → G → Type 0) (keys_of : S → List K) (me : S → Option ℕ) (terms : L → Terms)
    (term_length : ℕ) where
  pub last_begins : (hosts : List (Host S L D K G C)) (i : ℕ) (last : Process S L D K G C)
      → IsHostNetwork same elect bytes_of is_signature keys_of me terms term_length hosts
      → IsLastProcess hosts i last
      → IsMember same elect bytes_of is_signature keys_of term_length i last.first.core.member.facts
  last_begins hosts i last network (before, at) =
      let honest = network.honest i (before ++ last ∷ []) at in
      let are = parts same elect bytes_of is_signature keys_of me terms term_length i (length hosts) before [] last
      honest.runs in
      member_begins same elect bytes_of is_signature keys_of me terms term_length i (length hosts) (carried_by before)
      last are.1
      (stored same elect bytes_of is_signature keys_of me terms term_length i (length hosts) before are.0)
