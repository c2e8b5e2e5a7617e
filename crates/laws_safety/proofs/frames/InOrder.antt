-- A state's tracked views are in order, and stay so with each event.
use Rattle.std.proofs.Common.{sym, subst, ℕ, Bool, if◌then◌else◌, nat_le, List, Option, arith}
use Rattle.std.specs.Prelude.{T}
use Rattle.std.specs.Ordering.{nat_cmp}
use Rattle.std.specs.Cmp.{nat_cmp_total}
use Rattle.std.specs.FinMap.Entries.{is_sorted, is_sorted-put, is_sorted-where_key}
use Rattle.simplex_types.specs.Certificates.{ArtifactFacts}
use Rattle.simplex_types.specs.Config.{FloorFacts}
use Rattle.simplex_types.specs.declared.types.window.Terms.{Terms}
use Rattle.simplex_voter.specs.Facts.{Settings, StateFacts, Elect, new_facts}
use Rattle.simplex_voter.specs.Windows.{min_active}
use Rattle.simplex_voter.specs.Certification.{without_token}
use Rattle.simplex_voter.specs.Verification.{scan_left}
use Rattle.simplex_voter.proofs.Walked.{sorted-changed}
use Rattle.simplex_member.specs.Calls.{CallFacts}
use Rattle.simplex_member.specs.CallSemantics.{after_call}
use Rattle.simplex_member.specs.OutstandingWork.{OutstandingWork}
use Rattle.simplex_record.specs.Recovery.{recovered_state}
use Rattle.simplex_record.specs.Events.{Event, after_event}
use Rattle.simplex_member.proofs.EventsMake.{call_by_any}
use Rattle.laws_safety.proofs.frames.CallsMake.{recovered_keeps}
use Rattle.simplex_record.proofs.Paths.{event_path, asked_of_all}
use Rattle.simplex_record.proofs.Steps.{Step, Puts, Raises, Scans, Prunes, along}

-- the tracked views rise
abbrev pub InOrder : {K L D : Type 0} → StateFacts K L D → Type 0
InOrder x = T (is_sorted nat_cmp x.rounds)

module _ {K L D : Type 0} (same : D → D → Bool) (elect : Elect L) where
  step_in_order : (x : StateFacts K L D) (e : Event K D) (y z : StateFacts K L D) → Step same elect x e 0 y z
      → InOrder y → InOrder z
  step_in_order x e y z (Puts v r may s) ordered = is_sorted-put nat_cmp nat_cmp_total v r y.rounds ordered
  step_in_order x e y z (Raises v says above) ordered =
      subst T (sym (sorted-changed (λ u r. if nat_le u v then without_token r else r) y.rounds)) ordered
  step_in_order x e y z (Scans is) ordered = subst T (sym (sorted-changed (scan_left same elect x) y.rounds)) ordered
  step_in_order x e y z (Prunes is) ordered =
      is_sorted-where_key nat_cmp (λ u. nat_le (min_active y) u) y.rounds ordered
  step_in_order x e y z _ ordered = ordered

  pub event_in_order : (x : StateFacts K L D) (e : Event K D) → InOrder x → InOrder (after_event same elect x e)
  event_in_order x e ordered = along same elect x e 0 InOrder (step_in_order x e) x (after_event same elect x e)
      (event_path same elect 0 x e (omega arith) (asked_of_all x e)) ordered

module _ {K L D : Type 0} (same : D → D → Bool) (elect : Elect L) (x : StateFacts K L D) (o : OutstandingWork K D)
    (ordered : InOrder x) where
  pub order_call : (call : CallFacts D) → InOrder (after_call same elect x o call)
  order_call call = call_by_any same elect x o InOrder ordered (λ e. event_in_order same elect x e ordered) call

module _ {K L D : Type 0} (same : D → D → Bool) (elect : Elect L) (settings : Settings) (me : Option ℕ)
    (members : List K) (elector : L) (terms : Terms) (early : Bool) where
  pub order_recovered : (floor : FloorFacts D) (now : ℕ) (copy : List (ArtifactFacts D))
      → InOrder (recovered_state same elect (new_facts settings me members elector terms early) floor now copy)
  order_recovered floor now copy = recovered_keeps same elect InOrder (λ x e. event_in_order same elect x e) now
      (new_facts settings me members elector terms early) floor copy tt
