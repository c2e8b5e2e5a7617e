-- A resumed engine begins from the journal that its entries and what is stored beside them are.
use Rattle.std.proofs.Common.{◌≡◌, ℕ, Bool, List, Option, Some, Result, Ok, Err}
use Rattle.std.specs.Prelude.{IfOk}
use Rattle.simplex_types.specs.declared.types.messages.Artifact.{Artifact}
use Rattle.simplex_types.specs.declared.types.window.Terms.{Terms}
use Rattle.simplex_voter.specs.Facts.{Elect}
use Rattle.simplex_record.specs.Entries.{entries_of}
use Rattle.simplex_record.specs.Votes.{votes_of}
use Rattle.simplex_record.specs.declared.record.start.Start.{Start}
use Rattle.simplex_member.specs.declared.member.journal.Stored.{Stored}
use Rattle.laws_safety.specs.MemberHistory.{HasContinued}
use Rattle.engine_outbox.specs.Continuity.{BeginsTraced}
use Rattle.engine_planner.specs.declared.plan.Options.{Options}
use Rattle.simplex_engine.specs.EngineStart.{HasStartedWith}
use Rattle.simplex_engine.specs.declared.engine.Engine.{Engine}
use Rattle.laws_hosts.specs.Processes.{EngineBegins}
use Rattle.laws_hosts.proofs.calls.resume_engine.Goals as goal

module _ {S L D K G C E : Type 0} (same : D → D → Bool) (elect : Elect L) (bytes_of : C → List ℕ) (keys_of : S → List K)
    (me : S → Option ℕ)
    (terms : L → Terms) (bytes : D → List ℕ) where
  begins : (stored : Stored) (entries : List (Artifact S D K G C)) (start : Start S L D K G C) (term_length : ℕ)
      (options : Options)
      (result : Result (Engine S L D K G C) E)
      → IfOk result (λ engine. BeginsTraced same elect bytes_of engine.core.member engine.core)
      → IfOk result
      (HasStartedWith bytes keys_of (keys_of start.settings.scheme) (me start.settings.scheme) term_length options)
      → IfOk result (λ engine. engine.core.member.votes ≡ votes_of entries)
      → IfOk result (λ engine. HasContinued same elect me terms stored (entries_of bytes_of entries) start
      engine.core.member.facts)
      → IfOk result
      (EngineBegins same elect bytes_of keys_of me terms (record { entries = entries; beside = Some stored }) start)
  begins stored entries start term_length options (Ok engine) traced begun votes continues = record {
    member = (continues, votes);
    traced = traced;
    votes = begun.votes;
    keys = begun.keys_now;
  }
  begins stored entries start term_length options (Err error) traced begun votes continues = tt

pub returns : goal.returns
returns g c =
    begins g.D.PartialEq.eq g.L.Elector.elect g.S.CertificateScheme.certificate_bytes g.S.CertificateScheme.participants
    g.S.CertificateScheme.me g.L.Elector.terms
    g.D.Digest.bytes c.args.stored c.args.entries.items c.args.start _ _ c.resume.result c.resume.ensures.traced
    c.resume.ensures.begun
    c.resume.ensures.votes c.resume.ensures.continues
