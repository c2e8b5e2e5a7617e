-- How the honest hosts of a network start their engines.
use Rattle.std.specs.Prelude.{◌≡◌, ◌⊎◌, ℕ, ◌+◌, ◌≤◌, Bool, false, List, length, slice_get, Contains, Some}
use Rattle.std.specs.List.{count_by}
use Rattle.simplex_types.specs.declared.types.window.Terms.{Terms}
use Rattle.simplex_record.specs.declared.record.start.Start.{Start}
use Rattle.laws_safety.specs.Replicas.{quorum}
use Rattle.laws_hosts.specs.HostNetworks.{Host, Honest, is_faulty_host}
use Rattle.laws_hosts.specs.Processes.{Process}

module _ {S L D K G C : Type 0} (hosts : List (Host S L D K G C)) where
  -- the start of each process of each honest host has a property
  abbrev pub EachStart : (Start S L D K G C → Type 0) → Type 0
  EachStart IsSo =
      (i : ℕ) (processes : List (Process S L D K G C)) (process : Process S L D K G C)
      → slice_get hosts i ≡ Some (Honest processes) → Contains processes process → IsSo process.start

  -- no honest host elects a leader before the parent is certified
  abbrev pub NoHostElectsEarly : (L → Bool) → Type 0
  NoHostElectsEarly elects_early = EachStart (λ start. elects_early start.settings.elector ≡ false)

  -- all processes of honest hosts have one elector and one epoch
  abbrev pub HostsHaveOneElector : Type 0
  HostsHaveOneElector =
      (elector : L) × (epoch : ℕ)
      × EachStart (λ start. (start.settings.elector ≡ elector) × (start.settings.epoch ≡ epoch))

  -- each quorum has two honest hosts
  abbrev pub TwoHonestHosts : Type 0
  TwoHonestHosts = count_by is_faulty_host hosts + 2 ≤ quorum (length hosts)

  -- no leader proposes early, or each quorum has an honest host that is not that leader
  abbrev pub HostHandoffsAreWitnessed : (L → Bool) → Type 0
  HostHandoffsAreWitnessed elects_early = NoHostElectsEarly elects_early ⊎ (HostsHaveOneElector × TwoHonestHosts)

  -- no honest host votes ahead
  abbrev pub NoHostVotesAhead : (L → Terms) → Type 0
  NoHostVotesAhead terms = EachStart (λ start. (terms start.settings.elector).optimistic_views ≡ 0)
