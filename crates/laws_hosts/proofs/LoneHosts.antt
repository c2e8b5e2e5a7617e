-- A lone host whose processes passed nothing is a network.
use Rattle.std.proofs.Common.{◌≡◌, ◌≢◌, inl, ℕ, zero, suc, ◌||◌, Bool, true, false, List, [], ◌∷◌, length, slice_get, Option, Some, Result, Ok, Err, refl, sym, subst, arith}
use Rattle.std.specs.Prelude.{Contains, IfOk, is_none}
use Rattle.simplex_types.specs.declared.types.messages.Subject.{Subject}
use Rattle.simplex_types.specs.declared.types.window.Terms.{Terms}
use Rattle.simplex_voter.specs.Facts.{Elect}
use Rattle.simplex_record.specs.declared.record.start.Start.{Start}
use Rattle.laws_safety.specs.ObservedTraces.{floor_in, StartsAs}
use Rattle.laws_safety.specs.Traces.{Accepts}
use Rattle.laws_safety.proofs.lists.Splits.{only_one}
use Rattle.engine_outbox.specs.Continuity.{has_failed}
use Rattle.engine_outbox.specs.Journals.{empty_journal}
use Rattle.simplex_engine.specs.declared.engine.Engine.{Engine}
use Rattle.simplex_engine.specs.declared.input.Input.{Input}
use Rattle.simplex_engine.specs.declared.input.Input.TheVariants as input
use Rattle.laws_hosts.specs.EngineCalls.{Handled}
use Rattle.laws_hosts.specs.HostInstances.{process_without_calls, lone_host}
use Rattle.laws_hosts.specs.Processes.{Process, EngineBegins, AreProcesses}
use Rattle.laws_hosts.specs.HostNetworks.{Honest, IsHonestHost, IsHostNetwork}
use Rattle.laws_hosts.proofs.CallTraces.{none_in}

-- what failed neither way did not fail the first way
pub not_first : (a b : Bool) → (a || b) ≡ false → a ≡ false
not_first true b is = absurd (cc)
not_first false b is = refl

module _ {S L D K G C : Type 0} where
  -- a process passed nothing, and began at genesis
  pub record PassesNothing (process : Process S L D K G C) : Type 0 where
    pub calls : (passed : Input S D K G C) → Contains process.calls (Handled passed) → ⊥
    pub genesis : floor_in process.start.floor ≡ []

module _ {S L D K G C : Type 0} (same : D → D → Bool) (elect : Elect L) (bytes_of : C → List ℕ)
    (is_signature : K → Subject D → G → Type 0)
    (keys_of : S → List K) (me : S → Option ℕ) (terms : L → Terms) (term_length : ℕ) where
  pub lone : (processes : List (Process S L D K G C)) → processes ≢ []
      → AreProcesses same elect bytes_of is_signature keys_of me terms term_length 0 1 [] processes
      → ((p : Process S L D K G C) → Contains processes p → PassesNothing p)
      → IsHostNetwork same elect bytes_of is_signature keys_of me terms term_length (Honest processes ∷ [])
  lone processes some runs passes = record {
    few_faulty = inl (omega arith, omega arith);
    honest = honest;
  }
    where
      host : (i : ℕ) → i ≡ 0 → IsHonestHost same elect bytes_of is_signature keys_of me terms term_length i
          (Honest processes ∷ []) processes
      host i first = record {
        some = some;
        runs = subst (λ j. AreProcesses same elect bytes_of is_signature keys_of me terms term_length j 1 [] processes)
            (sym first) runs;
        votes = λ p vote other has among at. absurd ((passes p has).calls (input.Vote vote) among);
        certificates = λ p certificate has among. absurd ((passes p has).calls (input.Certificate certificate) among);
        floors = λ p c has among. none_in (Accepts c)
            (subst (λ xs. Contains xs (Accepts c)) (passes p has).genesis among);
      }

      honest : (i : ℕ) (others : List (Process S L D K G C))
          → slice_get (Honest processes ∷ []) i ≡ Some (Honest others)
          → IsHonestHost same elect bytes_of is_signature keys_of me terms term_length i (Honest processes ∷ []) others
      honest zero others at =
          let same_processes : processes ≡ others = cc in
          subst (IsHonestHost same elect bytes_of is_signature keys_of me terms term_length 0 (Honest processes ∷ []))
          same_processes (host 0 refl)
      honest (suc k) others at = absurd (cc)

  -- also a host that has begun an engine and made no call
  pub begun_alone : {E : Type 0} (start : Start S L D K G C) (result : Result (Engine S L D K G C) E)
      → length (keys_of start.settings.scheme) ≡ 1
      → floor_in start.floor ≡ [] → IfOk result (EngineBegins same elect bytes_of keys_of me terms empty_journal start)
      → IfOk result (λ engine. StartsAs me terms term_length 0 start → has_failed engine.core ≡ false
      → IsHostNetwork same elect bytes_of is_signature keys_of me terms term_length (lone_host start engine))
  begun_alone start (Ok engine) one genesis begins = λ starts lives.
      lone (process_without_calls start engine ∷ []) some_process (
        (record {
          starts = starts;
          members_are = one;
          begins = begins;
          runs = refl;
          alive = not_first engine.core.failed (is_none engine.core.member.facts.life) lives;
          carries_out = inl ([], refl);
        }),
        tt,
      ) (λ p has. subst PassesNothing (only_one (process_without_calls start engine) p has)
      (record { calls = λ passed among. none_in (Handled passed) among; genesis = genesis }))
    where
      some_process : process_without_calls start engine ∷ [] ≢ []
      some_process is = cc
  begun_alone start (Err error) one genesis begins = tt
