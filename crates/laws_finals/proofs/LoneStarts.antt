-- A host that has carried nothing out stops before it does.
use Rattle.std.proofs.Common.{◌≡◌, inl, ℕ, zero, suc, Bool, false, List, [], ◌∷◌, slice_get, Option, Some, None, Result, Ok, Err, refl, subst, sym}
use Rattle.std.specs.Prelude.{Contains, IfOk}
use Rattle.simplex_types.specs.Config.{floor_facts}
use Rattle.simplex_types.specs.declared.types.window.Terms.{Terms}
use Rattle.simplex_voter.specs.Facts.{Elect}
use Rattle.simplex_record.specs.Recovery.{recover_error}
use Rattle.simplex_record.specs.Start.{set_up}
use Rattle.simplex_record.specs.declared.record.start.Start.{Start}
use Rattle.simplex_member.specs.Start.{started_member}
use Rattle.simplex_engine.specs.declared.engine.Engine.{Engine}
use Rattle.laws_safety.proofs.lists.Splits.{only_one}
use Rattle.laws_hosts.specs.HostInstances.{process_without_calls, lone_host}
use Rattle.laws_hosts.specs.HostNetworks.{Honest, IsCertifiable}
use Rattle.laws_hosts.specs.Processes.{Process}
use Rattle.laws_finals.specs.HostLifetimes.{StopsWithinLifetimes, HostsStopWithinLifetimes}
use Rattle.laws_finals.specs.HostStarts.{NoHostElectsEarly}
use Rattle.laws_finals.specs.LoneStarts.{KeepsPremises}

module _ {S L D K G C : Type 0} (same : D → D → Bool) (elect : Elect L) (bytes_of : C → List ℕ)
    (keys_of : S → List K) (me : S → Option ℕ) (terms : L → Terms) (elects_early : L → Bool)
    (start : Start S L D K G C) where
  only_processes : (engine : Engine S L D K G C) (i : ℕ) (processes : List (Process S L D K G C))
      → slice_get (lone_host start engine) i ≡ Some (Honest processes)
      → process_without_calls start engine ∷ [] ≡ processes
  only_processes engine zero processes at = cc
  only_processes engine (suc i) processes at = absurd (cc)

  none_early : (engine : Engine S L D K G C) → elects_early start.settings.elector ≡ false
      → NoHostElectsEarly (lone_host start engine) elects_early
  none_early engine late i processes process at among =
      subst (λ (p : Process S L D K G C). elects_early p.start.settings.elector ≡ false)
      (only_one (process_without_calls start engine) process
      (subst (λ ps. Contains ps process) (sym (only_processes engine i processes at)) among)) late

  stops : (engine : Engine S L D K G C)
      → recover_error same (set_up me keys_of terms elects_early start.settings) (floor_facts bytes_of start.floor)
      start.now [] ≡ None
      → engine.core.member.facts ≡ started_member same elect (set_up me keys_of terms elects_early start.settings)
      (floor_facts bytes_of start.floor) start.now
      → HostsStopWithinLifetimes same elect bytes_of keys_of me terms elects_early (lone_host start engine)
  stops engine accepted started i processes at =
      subst (StopsWithinLifetimes same elect bytes_of keys_of me terms elects_early
      (IsCertifiable (lone_host start engine)) [] []) (only_processes engine i processes at)
      ((accepted, started), inl (refl, tt))

  pub keeps_premises : {E : Type 0} (result : Result (Engine S L D K G C) E)
      → elects_early start.settings.elector ≡ false
      → recover_error same (set_up me keys_of terms elects_early start.settings) (floor_facts bytes_of start.floor)
      start.now [] ≡ None
      → IfOk result (λ engine. engine.core.member.facts ≡ started_member same elect
      (set_up me keys_of terms elects_early start.settings) (floor_facts bytes_of start.floor) start.now)
      → IfOk result (KeepsPremises same elect bytes_of keys_of me terms elects_early start)
  keeps_premises (Ok engine) late accepted started = (stops engine accepted started, inl (none_early engine late))
  keeps_premises (Err error) late accepted started = tt
