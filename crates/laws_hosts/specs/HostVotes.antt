-- The votes that one host has carried out, over all its processes.
use Rattle.std.specs.Prelude.{◌≢◌, ℕ, Bool, List, [], Contains, Option}
use Rattle.simplex_types.specs.declared.types.messages.Subject.{Subject}
use Rattle.simplex_types.specs.declared.types.window.Terms.{Terms}
use Rattle.simplex_voter.specs.Facts.{Elect}
use Rattle.simplex_member.specs.declared.member.journal.Stored.{Stored}
use Rattle.laws_safety.specs.Lawful.{IsLawful}
use Rattle.laws_safety.specs.Traces.{TraceEvent, Signs}
use Rattle.engine_votes.specs.declared.votes.Vote.{Vote}
use Rattle.engine_outbox.specs.declared.output.Output.{Output}
use Rattle.engine_outbox.specs.declared.output.Output.TheVariants as output
use Rattle.laws_hosts.specs.Processes.{Process, carried_by, AreProcesses}

-- the votes that were carried out are among all that one member accepted and signed, and that keeps the voting rules
pub record VotesKeepRules {S D K G C : Type 0} (term_length : ℕ) (carried : List (Output S D Stored K G C))
    : Type 0 where
  pub all : List (TraceEvent D)
  pub lawful : IsLawful term_length all
  pub votes : (vote : Vote D G) → Contains carried (output.Vote vote) → Contains all (Signs vote.signer vote.subject)

module _ {S L D K G C : Type 0} (same : D → D → Bool) (elect : Elect L) (bytes_of : C → List ℕ)
    (is_signature : K → Subject D → G → Type 0) (keys_of : S → List K) (me : S → Option ℕ) (terms : L → Terms) where
  -- so are those of each host, whatever it passed to its engines
  abbrev pub EachHostKeepsRules : Type 0
  EachHostKeepsRules =
      (term_length i members : ℕ) (processes : List (Process S L D K G C)) → processes ≢ []
      → AreProcesses same elect bytes_of is_signature keys_of me terms term_length i members [] processes
      → VotesKeepRules term_length (carried_by processes)
