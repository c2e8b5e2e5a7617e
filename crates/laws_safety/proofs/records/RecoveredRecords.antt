-- For `votes_are_lawful`.
-- What a state that is made from a record shows of it is in it.
use Rattle.std.proofs.Common.{◌≡◌, refl, ap, sym, ◌∙◌, subst, ℕ, Bool, true, List, [], ◌∷◌, Contains, Option, Some, None, arith}
use Rattle.std.proofs.lemmas.Bool.{false≢true}
use Rattle.simplex_types.specs.Certificates.{Notarized, Nullified, Finalized, ArtifactFacts, NotarizeVote, NullifyVote, FinalizeVote, Verdict, Accepted}
use Rattle.simplex_types.specs.Config.{FloorFacts}
use Rattle.simplex_types.specs.declared.types.numbers.Round.{Round}
use Rattle.simplex_types.specs.declared.types.window.Terms.{Terms}
use Rattle.simplex_voter.specs.Facts.{Settings, StateFacts, Elect, new_facts, round_number}
use Rattle.simplex_record.specs.Entries.{entry_round}
use Rattle.simplex_record.specs.Recovery.{after_entry, after_kept_entry, after_entries, recovered_state}
use Rattle.simplex_record.specs.Events as event
use Rattle.simplex_record.specs.Events.{Event, after_event}
use Rattle.laws_safety.proofs.records.RecordedVotes.{Marked, event_marked, quiet_marked}
use Rattle.laws_safety.proofs.records.ShownVotesByEntries.{taken_if, taken_keeps}
use Rattle.laws_safety.proofs.frames.NoLowerViews.{event_goes}
use Rattle.laws_safety.proofs.lists.Splits.{Contains-cons_rest}
use Rattle.simplex_record.proofs.Steps.{verdict_by, nullify_by}

module _ {K L D : Type 0} (same : D → D → Bool) (elect : Elect L) (entries : List (ArtifactFacts D)) (now : ℕ) where
  quiet_on : (x : StateFacts K L D) (e : Event K D) → verdict_by e ≡ None → nullify_by e ≡ None → Marked entries x
      → Marked entries (after_event same elect x e)
  quiet_on x e verdict nullify marked = quiet_marked same elect x e entries verdict nullify marked

  -- a verdict that is in the record
  verdict_on : (x : StateFacts K L D) (e : Event K D) (round : Round) (success : Bool)
      → verdict_by e ≡ Some (round.view, success) → nullify_by e ≡ None → Contains entries (Verdict round success)
      → Marked entries x → Marked entries (after_event same elect x e)
  verdict_on x e round success gives nullify here marked =
      event_marked same elect x e entries entries (λ a h. h)
      (λ v says before after.
      (let pair : (round.view, success) ≡ (v, true) = cc in (
        round,
        subst (λ b. Contains entries (Verdict round b)) (ap (λ (p : ℕ × Bool). p.1) pair) here,
        ap (λ (p : ℕ × Bool). p.0) pair,
      )))
      (λ v says before after key. absurd (cc)) marked

  retaken_marked : (x : StateFacts K L D) (e : ArtifactFacts D) → Contains entries e
      → (entry_round e).epoch ≡ x.settings.epoch → Marked entries x → Marked entries (after_entry same elect x now e)
  retaken_marked x (NotarizeVote p m) here epoch marked = quiet_on x (event.Replay (NotarizeVote p m)) refl refl marked
  retaken_marked x (NullifyVote round m) here epoch marked =
      event_marked same elect x (event.Replay (NullifyVote round m)) entries entries (λ a h. h)
      (λ v says before after. absurd (cc))
      (λ v says before after key.
      (let at : round.view ≡ v = cc in
      let same_round : round ≡ round_number x v = (λ i. record { epoch = epoch i; view = at i }) in
      (m, subst (λ (s : Round). Contains entries (NullifyVote s m)) same_round here))) marked
  retaken_marked x (FinalizeVote p m) here epoch marked = quiet_on x (event.Replay (FinalizeVote p m)) refl refl marked
  retaken_marked x (Verdict round success) here epoch marked =
      let replay : Event K D = event.Replay (Verdict round success) in
      let given : Event K D = event.Certified round.view success now in
      verdict_on (after_event same elect x replay) given round success refl refl here
      (verdict_on x replay round success refl refl here marked)
  retaken_marked x (Accepted (Notarized c)) here epoch marked =
      let added : Event K D = event.AddNotarization c in
      quiet_on (after_event same elect x added) (event.Replay (Accepted (Notarized c))) refl refl
      (quiet_on x added refl refl marked)
  retaken_marked x (Accepted (Nullified c)) here epoch marked =
      let added : Event K D = event.AddNullification c now in
      quiet_on (after_event same elect x added) (event.Replay (Accepted (Nullified c))) refl refl
      (quiet_on x added refl refl marked)
  retaken_marked x (Accepted (Finalized c)) here epoch marked =
      let added : Event K D = event.AddFinalization c now in
      quiet_on (after_event same elect x added) (event.Replay (Accepted (Finalized c))) refl refl
      (quiet_on x added refl refl marked)

  -- the rest of a record whose entries are all of this epoch
  all_marked : (x : StateFacts K L D) (rest : List (ArtifactFacts D))
      → ((e : ArtifactFacts D) → Contains rest e → Contains entries e × ((entry_round e).epoch ≡ x.settings.epoch))
      → Marked entries x → Marked entries (after_entries same elect x now rest)
  all_marked x [] all marked = marked
  all_marked x (e ∷ rest) all marked =
      let here = all e (0, omega arith, refl) in
      let y = after_kept_entry same elect x now e in
      let set_up : y.settings ≡ x.settings = taken_keeps same elect x now (λ z. z.settings ≡ x.settings)
      (λ z f is. (event_goes same elect z f).settings ∙ is) e refl in
      all_marked y rest (λ f h. (let known = all f (Contains-cons_rest e rest f h) in
      (known.0, known.1 ∙ ap (λ (s : Settings). s.epoch) (sym set_up))))
      (taken_if same elect x now (Marked entries) e marked (retaken_marked x e here.0 here.1 marked))

module _ {K L D : Type 0} (same : D → D → Bool) (elect : Elect L) (settings : Settings) (me : Option ℕ)
    (members : List K) (elector : L) (terms : Terms) (early : Bool) where
  -- a state that is made from a record, whose entries are of the settings' epoch, shows nothing that the record doesn't
  -- hold
  pub recovered_marked : (copy : List (ArtifactFacts D)) (floor : FloorFacts D) (now : ℕ)
      → ((e : ArtifactFacts D) → Contains copy e → (entry_round e).epoch ≡ settings.epoch)
      → Marked copy (recovered_state same elect (new_facts settings me members elector terms early) floor now copy)
  unfolding recovered_state
  recovered_marked copy floor now epochs =
      let fresh : StateFacts K L D = new_facts settings me members elector terms early in
      let floored : Event K D = event.SetFloor floor now in
      let goes = event_goes same elect fresh floored in
      let none : Marked copy fresh =
      record { certified = λ v is. absurd (false≢true is); nullified = λ v is key. absurd (false≢true is) } in
      all_marked same elect copy now (after_event same elect fresh floored) copy
      (λ e h. (h, epochs e h ∙ ap (λ (s : Settings). s.epoch) (sym goes.settings)))
      (quiet_on same elect copy now fresh floored refl refl none)
