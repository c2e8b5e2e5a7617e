-- Rounds are steps: a network is one after them, and what was sent before them stays sent.
use Rattle.std.proofs.Common.{◌≡◌, sym, subst, ℕ, Bool, List, [], ◌∷◌, slice_get, Option, Some}
use Rattle.std.specs.Prelude.{Contains}
use Rattle.std.proofs.lemmas.List.Elements.{Contains-append_left}
use Rattle.simplex_types.specs.declared.types.messages.Subject.{Subject}
use Rattle.simplex_types.specs.declared.types.window.Terms.{Terms}
use Rattle.simplex_voter.specs.Facts.{Elect}
use Rattle.simplex_member.specs.declared.member.journal.Stored.{Stored}
use Rattle.engine_outbox.specs.declared.output.Output.{Output}
use Rattle.engine_outbox.specs.declared.output.Output.TheVariants as output
use Rattle.engine_outbox.specs.declared.output.Work.TheVariants as work
use Rattle.simplex_engine.specs.declared.input.Input.{Input}
use Rattle.simplex_engine.specs.declared.input.Input.TheVariants as input
use Rattle.laws_hosts.specs.HostNetworks.{Host, Faulty, Honest, IsHostNetwork}
use Rattle.laws_hosts.specs.Processes.{carried_by}
use Rattle.laws_host_steps.specs.HostSteps.{AreNetworkSteps, StepsKeepNetworks}
use Rattle.laws_host_steps.proofs.HostSteps.{item_at, HasCarriedMore, HaveCarriedMore, have, one_step}
use Rattle.laws_rounds.specs.Rounds.{HasCarriedOut, HasSent, AreRounds}

module _ {S L D K G C : Type 0} (hosts later : List (Host S L D K G C)) (more : HaveCarriedMore hosts later) where
  carried_still : (i : ℕ) (out : Output S D Stored K G C) → HasCarriedOut hosts i out → HasCarriedOut later i out
  carried_still i out (processes, at, has) =
      let found = item_at later hosts i (Honest processes) (sym more.as_many) at in
      by_host found.0 found.1 (more.each i (Honest processes) found.0 at found.1)
    where
      by_host : (host : Host S L D K G C) → slice_get later i ≡ Some host → HasCarriedMore i (Honest processes) host
          → HasCarriedOut later i out
      by_host Faulty there grown = absurd grown
      by_host (Honest new) there grown = (
        new,
        there,
        subst (λ outs. Contains outs out) (sym grown.1)
            (Contains-append_left (carried_by processes) grown.0 out has),
      )

  sent_still : (i j : ℕ) (passed : Input S D K G C) → HasSent hosts i j passed → HasSent later i j passed
  sent_still i j (input.Vote vote) sent = carried_still i (output.Vote vote) sent
  sent_still i j (input.Certificate certificate) sent =
      (sent.0, carried_still i (output.Work (work.Broadcast certificate)) sent.1)
  sent_still i j (input.Proposal from proposal) sent = absurd sent
  sent_still i j (input.Verified view is_valid) sent = absurd sent
  sent_still i j (input.Built context payload) sent = absurd sent
  sent_still i j (input.Certified view success) sent = absurd sent
  sent_still i j (input.GivenUp view reason) sent = absurd sent

module _ {S L D K G C : Type 0} (same : D → D → Bool) (elect : Elect L) (bytes_of : C → List ℕ)
    (is_signature : K → Subject D → G → Type 0) (keys_of : S → List K) (me : S → Option ℕ) (terms : L → Terms)
    (term_length : ℕ) where
  pub steps_sent : (stages : List (List (Host S L D K G C))) (hosts later : List (Host S L D K G C))
      → IsHostNetwork same elect bytes_of is_signature keys_of me terms term_length hosts
      → AreNetworkSteps same elect bytes_of is_signature keys_of me terms term_length stages hosts later
      → (i j : ℕ) (passed : Input S D K G C) → HasSent hosts i j passed → HasSent later i j passed
  steps_sent [] hosts later network are i j passed sent =
      subst (λ now. HasSent now i j passed) (sym are) sent
  steps_sent (next ∷ stages) hosts later network are i j passed sent =
      steps_sent stages next later
      (one_step same elect bytes_of is_signature keys_of me terms term_length hosts next network are.0) are.1 i j passed
      (sent_still hosts next
      (have same elect bytes_of is_signature keys_of me terms term_length hosts next network are.0) i j passed sent)

module _ {S L D K G C : Type 0} (same : D → D → Bool) (elect : Elect L) (bytes_of : C → List ℕ)
    (is_signature : K → Subject D → G → Type 0) (keys_of : S → List K) (me : S → Option ℕ) (terms : L → Terms)
    (steps_keep : StepsKeepNetworks {C = C} same elect bytes_of is_signature keys_of me terms) where
  pub rounds_keep : (term_length : ℕ) (rounds : List (List (Host S L D K G C))) (hosts later : List (Host S L D K G C))
      → IsHostNetwork same elect bytes_of is_signature keys_of me terms term_length hosts
      → AreRounds same elect bytes_of is_signature keys_of me terms term_length rounds hosts later
      → IsHostNetwork same elect bytes_of is_signature keys_of me terms term_length later
  rounds_keep term_length [] hosts later network are =
      subst (IsHostNetwork same elect bytes_of is_signature keys_of me terms term_length) (sym are) network
  rounds_keep term_length (next ∷ rest) hosts later network are =
      rounds_keep term_length rest next later
      (steps_keep term_length are.0.stages hosts next network are.0.steps) are.1
