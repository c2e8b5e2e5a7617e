-- What the starts of honest hosts' processes have in common, each lifetime of their members has.
use Rattle.std.proofs.Common.{◌≡◌, inl, inr, ℕ, ◌+◌, ◌≤◌, Bool, false, List, length, slice_get, Option, Some, sym, subst}
use Rattle.std.specs.Prelude.{Contains}
use Rattle.simplex_types.specs.declared.types.window.Terms.{Terms}
use Rattle.simplex_voter.specs.Facts.{Elect}
use Rattle.simplex_record.specs.Start.{Setup, setup_of}
use Rattle.laws_safety.specs.Continuations.{EachHonest}
use Rattle.laws_safety.specs.Replicas.{Replica, faults, quorum}
use Rattle.laws_chains.specs.Parents.{EachLifetime, HandoffsAreWitnessed}
use Rattle.laws_chains.specs.Chains.{NoneVotesAhead}
use Rattle.laws_hosts.specs.Processes.{Process}
use Rattle.laws_hosts.specs.HostNetworks.{Host, Honest}
use Rattle.laws_finals.specs.HostMembers.{AreMembers, IsSetUpByOne, LifetimesAreProcesses}
use Rattle.laws_finals.specs.HostStarts.{NoHostVotesAhead, HostHandoffsAreWitnessed}
use Rattle.laws_finals.proofs.NetworkOfMembers.{honest_at, count_is, faults_are}

module _ {S L D K G C : Type 0} (same : D → D → Bool) (elect : Elect L) (keys_of : S → List K) (me : S → Option ℕ)
    (terms : L → Terms) (elects_early : L → Bool) (term_length : ℕ)
    (hosts : List (Host S L D K G C)) (members : List (Replica K L D))
    (are : AreMembers same elect term_length hosts members)
    (lives : LifetimesAreProcesses keys_of me terms elects_early hosts members) where
  each_lifetime : (P : Setup K L → Type 0)
      → ((i : ℕ) (processes : List (Process S L D K G C)) (process : Process S L D K G C)
      → slice_get hosts i ≡ Some (Honest processes) → Contains processes process
      → P (setup_of me keys_of terms elects_early process.start.settings))
      → EachHonest members (λ i s. EachLifetime P s)
  each_lifetime P each i s at =
      let host = honest_at same elect term_length hosts members are i s at in
      let begun = lives i host.0 s host.1 at in
      let by_start : (setup : Setup K L) → IsSetUpByOne keys_of me terms elects_early host.0 setup → P setup =
      λ setup found. subst P (sym found.2) (each i host.0 found.0 host.1 found.1) in
      record {
        first = by_start s.start.setup begun.first;
        later = λ r among. by_start r.start.setup (begun.later r among);
      }

  pub handoffs : HostHandoffsAreWitnessed hosts elects_early → HandoffsAreWitnessed members
  handoffs (inl never) =
      inl (each_lifetime (λ setup. setup.elects_early ≡ false)
      (λ i processes process at among. never i processes process at among))
  handoffs (inr ((elector, epoch, alike), two)) =
      let others : faults members + 2 ≤ quorum (length members) =
      subst (λ n. faults members + 2 ≤ quorum n) (sym (count_is same elect term_length hosts members are))
      (subst (λ f. f + 2 ≤ quorum (length hosts)) (sym (faults_are same elect term_length hosts members are)) two) in
      inr (
        (
          elector,
          epoch,
          each_lifetime (λ setup. (setup.elector ≡ elector) × (setup.settings.epoch ≡ epoch))
              (λ i processes process at among. alike i processes process at among),
        ),
        others,
      )

  pub none_ahead : NoHostVotesAhead hosts terms → NoneVotesAhead members
  none_ahead never =
      each_lifetime (λ setup. setup.terms.optimistic_views ≡ 0)
      (λ i processes process at among. never i processes process at among)
