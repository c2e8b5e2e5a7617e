-- The premises of the law of chains, of a host that has started one engine and made no call.
use Rattle.std.specs.Prelude.{ℕ, Bool, List, Option}
use Rattle.simplex_types.specs.declared.types.window.Terms.{Terms}
use Rattle.simplex_voter.specs.Facts.{Elect}
use Rattle.simplex_record.specs.declared.record.start.Start.{Start}
use Rattle.simplex_engine.specs.declared.engine.Engine.{Engine}
use Rattle.laws_hosts.specs.HostInstances.{lone_host}
use Rattle.laws_finals.specs.HostLifetimes.{HostsStopWithinLifetimes}
use Rattle.laws_finals.specs.HostStarts.{HostHandoffsAreWitnessed}

module _ {S L D K G C : Type 0} (same : D → D → Bool) (elect : Elect L) (bytes_of : C → List ℕ)
    (keys_of : S → List K) (me : S → Option ℕ) (terms : L → Terms) (elects_early : L → Bool) where
  -- the host keeps both premises
  abbrev pub KeepsPremises : Start S L D K G C → Engine S L D K G C → Type 0
  KeepsPremises start engine =
      HostsStopWithinLifetimes same elect bytes_of keys_of me terms elects_early (lone_host start engine)
      × HostHandoffsAreWitnessed (lone_host start engine) elects_early
