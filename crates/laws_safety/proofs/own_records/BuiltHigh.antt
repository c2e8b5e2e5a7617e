-- A proposal of a view that is too large is held only where this member built it: a call hands none in, and a record
-- that is
-- taken again has none.
use Rattle.std.proofs.Common.{◌≡◌, refl, ap, sym, ◌∙◌, subst, ℕ, Bool, true, false, nat_lt, if◌then◌else◌, List, [], ◌∷◌, ◌++◌, Contains, Option, Some, None, arith}
use Rattle.std.proofs.lemmas.Bool.{false≢true, or_parts}
use Rattle.std.proofs.lemmas.List.Elements.{Contains-append_left, Contains-append_right}
use Rattle.simplex_types.specs.Certificates.{ProposalFacts, Notarized, Nullified, Finalized, ArtifactFacts, NotarizeVote, NullifyVote, FinalizeVote, Verdict, Accepted}
use Rattle.simplex_types.specs.Config.{FloorFacts, Genesis, Finalized as FinalizedFloor}
use Rattle.simplex_types.specs.declared.types.messages.Context.{Context}
use Rattle.simplex_types.specs.declared.types.messages.Proposal.{Proposal}
use Rattle.simplex_voter.specs.Facts.{StateFacts, Elect}
use Rattle.simplex_voter.specs.Refusals.{is_too_large, names_too_large, has_late_deadline}
use Rattle.simplex_voter.specs.Windows.{min_active}
use Rattle.simplex_voter.specs.Acceptance.{after_set_floor}
use Rattle.simplex_record.specs.declared.record.error.RecoverError.{RecoverError}
use Rattle.simplex_record.specs.declared.record.error.RecoverError.TheVariants as error
use Rattle.simplex_member.specs.CallConditions.{is_allowed, fault_of}
use Rattle.simplex_member.specs.Calls as calls
use Rattle.simplex_member.specs.Calls.{CallFacts}
use Rattle.simplex_record.specs.Check.{first_error, beside_rules, own_rules, recovery_floor_rules, entry_rules, first_broken_after, first_recover_error}
use Rattle.simplex_record.specs.Entries.{entry_view}
use Rattle.simplex_member.specs.CallSemantics.{after_call}
use Rattle.simplex_member.specs.OutstandingWork.{OutstandingWork, context_at}
use Rattle.simplex_record.specs.Recovery.{recover_error, after_replaying, after_entry, after_kept_entry, after_entries, recovered_state}
use Rattle.simplex_member.specs.Runs.{StepFacts, Calls}
use Rattle.simplex_record.specs.Start.{Setup, new_state}
use Rattle.simplex_record.specs.Events.{Event, after_event, SetFloor, AddNotarization, AddNullification, AddFinalization, Certified, Proposed, Supersede, Replay}
use Rattle.simplex_member.specs.Events.{in_context, events_of}
use Rattle.laws_safety.specs.RecordRefusals.{HasBuiltIn, is_floor_too_large}
use Rattle.laws_safety.proofs.frames.BuiltProposals.{BringsProposals, AllHeld, event_held}
use Rattle.laws_safety.proofs.frames.CallsMake.{call_by_event}
use Rattle.laws_safety.proofs.own_records.HighViews.{entry_too_large}
use Rattle.laws_safety.proofs.records.NewLives.{first_none}
use Rattle.laws_safety.proofs.votes.OutstandingWork.{ArePlaced}
use Rattle.laws_safety.proofs.own_records.SmallViews.{no_fault}
use Rattle.simplex_record.proofs.Steps.{notarization_by, finalization_by, proposal_by, note_by}

module _ {K L D : Type 0} where
  -- where its view is too large, the proposal was built in these steps
  abbrev pub WasBuilt : List (StepFacts K L D) → Proposal D → Type 0
  WasBuilt steps p = is_too_large p.round.view ≡ true → HasBuiltIn steps p

  pub built_still : (steps more : List (StepFacts K L D)) (p : Proposal D) → WasBuilt steps p
      → WasBuilt (steps ++ more) p
  built_still steps more p built large = let was = built large in
      (was.0, Contains-append_left steps more (Calls (calls.Proposed p.round.view p.payload was.0)) was.1)

  small_view : (steps : List (StepFacts K L D)) (p : Proposal D) → names_too_large p ≡ false → WasBuilt steps p
  small_view steps p small large =
      absurd (false≢true (sym (or_parts (is_too_large p.round.view) (is_too_large p.parent) small).0 ∙ large))

module _ {K D : Type 0} (Q : Proposal D → Type 0) where
  -- an event that brings no proposal
  brings_nothing : {e : Event K D} → notarization_by e ≡ None → finalization_by e ≡ None → proposal_by e ≡ None
      → note_by e ≡ None → ((context : Context D K) (payload : D) (now : ℕ) → e ≡ Proposed context payload now → ⊥)
      → BringsProposals Q e
  brings_nothing no_notarization no_finalization no_proposal no_note not_built = record {
    notarized = λ c says. absurd (let clash = sym no_notarization ∙ says in cc);
    finalized = λ c says. absurd (let clash = sym no_finalization ∙ says in cc);
    received = λ v p says. absurd (let clash = sym no_proposal ∙ says in cc);
    noted = λ p says. absurd (let clash = sym no_note ∙ says in cc);
    built = λ context payload now says. absurd (not_built context payload now says);
  }

  -- so has each that some events bring
  abbrev AllBringProposals : List (Event K D) → Type 0
  AllBringProposals [] = Unit {0}
  AllBringProposals (e ∷ events) = BringsProposals Q e × AllBringProposals events

-- calls

module _ {K L D : Type 0} (past : List (StepFacts K L D)) (x : StateFacts K L D) (o : OutstandingWork K D)
    (placed : ArePlaced o) where
  abbrev now_past : CallFacts D → List (StepFacts K L D)
  now_past call = past ++ Calls call ∷ []

  brings_proposed : (v : ℕ) (payload : D) (now : ℕ) (context : Option (Context D K)) → context_at o v ≡ context
      → AllBringProposals (WasBuilt (now_past (calls.Proposed v payload now)))
      (in_context (λ c. Proposed c payload now) context)
  brings_proposed v payload now None is = tt
  brings_proposed v payload now (Some c) is = (
    record {
      notarized = λ d says. absurd (cc);
      finalized = λ d says. absurd (cc);
      received = λ w p says. absurd (cc);
      noted = λ p says. absurd (cc);
      built = λ d other moment says large.
          (let here : c ≡ d = cc in
          let same : payload ≡ other = cc in
          let at : v ≡ d.round.view = sym (placed v c is) ∙ ap (λ k. k.round.view) here in
          let own = Contains-append_right past (Calls (calls.Proposed v payload now) ∷ [])
          (Calls (calls.Proposed v payload now)) (0, omega arith, refl) in (
            now,
            subst (λ w. Contains (now_past (calls.Proposed v payload now)) (Calls (calls.Proposed w other now))) at
                (subst (λ q. Contains (now_past (calls.Proposed v payload now)) (Calls (calls.Proposed v q now))) same
                own),
          ));
    },
    tt,
  )

  brings_superseded : (Q : Proposal D → Type 0) (context : Option (Context D K))
      → AllBringProposals {K = K} Q (in_context Supersede context)
  brings_superseded Q None = tt
  brings_superseded Q (Some c) = (brings_nothing Q refl refl refl refl (λ d other moment says. absurd (cc)), tt)

  call_brings : (call : CallFacts D) → fault_of x call ≡ None
      → AllBringProposals (WasBuilt (now_past call)) (events_of o call)
  call_brings (calls.AddNotarization c) none = (
    record {
      notarized = λ d says. (let same : c ≡ d = cc in
          subst (λ (k : ProposalFacts D). WasBuilt (now_past (calls.AddNotarization c)) k.proposal) same
          (small_view (now_past (calls.AddNotarization c)) c.proposal
          (no_fault x.failed (names_too_large c.proposal) false none)));
      finalized = λ d says. absurd (cc);
      received = λ w p says. absurd (cc);
      noted = λ p says. absurd (cc);
      built = λ d other moment says. absurd (cc);
    },
    tt,
  )
  call_brings (calls.AddFinalization c now) none = (
    record {
      notarized = λ d says. absurd (cc);
      finalized = λ d says. (let same : c ≡ d = cc in
          subst (λ (k : ProposalFacts D). WasBuilt (now_past (calls.AddFinalization c now)) k.proposal) same
          (small_view (now_past (calls.AddFinalization c now)) c.proposal
          (no_fault x.failed (names_too_large c.proposal) _ none)));
      received = λ w p says. absurd (cc);
      noted = λ p says. absurd (cc);
      built = λ d other moment says. absurd (cc);
    },
    tt,
  )
  call_brings (calls.SetProposal v p) none = (
    record {
      notarized = λ d says. absurd (cc);
      finalized = λ d says. absurd (cc);
      received = λ w q says. (let pair : ◌≡◌ {A = ℕ × Proposal D} (v, p) (w, q) = cc in
          let same : p ≡ q = ap (λ t. t.1) pair in
          subst (WasBuilt (now_past (calls.SetProposal v p))) same
          (small_view (now_past (calls.SetProposal v p)) p (no_fault x.failed (names_too_large p) false none)));
      noted = λ q says. absurd (cc);
      built = λ d other moment says. absurd (cc);
    },
    tt,
  )
  call_brings (calls.Proposed v payload now) none = brings_proposed v payload now (context_at o v) refl
  call_brings (calls.SupersedeProposalRequest v) none =
      brings_superseded (WasBuilt (now_past (calls.SupersedeProposalRequest v))) (context_at o v)
  call_brings (calls.PendingHandoffAbandonment v) none = tt
  call_brings calls.GetBestCertificate none = tt
  call_brings _ none =
      (brings_nothing (WasBuilt (now_past _)) refl refl refl refl (λ d other moment says. absurd (cc)), tt)

module _ {K L D : Type 0} (same : D → D → Bool) (decides : (d e : D) → same d e ≡ true → d ≡ e) (elect : Elect L) where
  pub call_held : (past : List (StepFacts K L D)) (x : StateFacts K L D) (o : OutstandingWork K D) (call : CallFacts D)
      → ArePlaced o → is_allowed x o call ≡ true → fault_of x call ≡ None → AllHeld (WasBuilt past) x
      → AllHeld (WasBuilt (past ++ Calls call ∷ [])) (after_call same elect x o call)
  call_held past x o call placed allowed none all =
      let Q : Proposal D → Type 0 = WasBuilt (past ++ Calls call ∷ []) in
      let before : AllHeld Q x = λ v p is. built_still past (Calls call ∷ []) p (all v p is) in
      call_by_event same elect x o (λ events y. AllBringProposals Q events → AllHeld Q y) (λ brings. before)
      (λ e takes ordinary brings. event_held same decides elect Q x e brings.0 before) call allowed
      (call_brings past x o placed call none)

-- records that are taken again

-- none of the rules is broken
abbrev NoneBroken : List (Bool × RecoverError) → Type 0
NoneBroken [] = Unit {0}
NoneBroken (rule ∷ rules) = (rule.0 ≡ false) × NoneBroken rules

none_broken : (rules : List (Bool × RecoverError)) → first_error rules ≡ None → NoneBroken rules
none_broken [] is = tt
none_broken ((true, e) ∷ rules) is = absurd (cc)
none_broken ((false, e) ∷ rules) is = (refl, none_broken rules is)

none_first : (xs ys : List (Bool × RecoverError)) → NoneBroken (xs ++ ys) → NoneBroken xs
none_first [] ys none = tt
none_first (x ∷ xs) ys none = (none.0, none_first xs ys none.1)

module _ {D : Type 0} where
  entry_fine : (epoch : ℕ) (me : Option ℕ) (e : ArtifactFacts D) → NoneBroken (own_rules epoch me e)
      → entry_too_large e ≡ false
  entry_fine epoch me (NotarizeVote p m) none = none.1.1.0
  entry_fine epoch me (NullifyVote round m) none = (or_parts (is_too_large round.view) false none.1.1.0).0
  entry_fine epoch me (FinalizeVote p m) none = none.1.1.0
  entry_fine epoch me (Verdict round success) none = (or_parts (is_too_large round.view) false none.1.1.0).0
  entry_fine epoch me (Accepted (Notarized c)) none = none.1.1.0
  entry_fine epoch me (Accepted (Nullified c)) none = (or_parts (is_too_large c.round.view) false none.1.1.0).0
  entry_fine epoch me (Accepted (Finalized c)) none = none.1.1.0

  -- no entry names a view that is too large
  abbrev pub AllSmall : List (ArtifactFacts D) → Type 0
  AllSmall [] = Unit {0}
  AllSmall (e ∷ rest) = (entry_too_large e ≡ false) × AllSmall rest

  pub entries_small : (same : D → D → Bool) (epoch : ℕ) (me : Option ℕ) (before entries : List (ArtifactFacts D))
      → first_broken_after same epoch me before entries ≡ None → AllSmall entries
  entries_small same epoch me before [] none = tt
  entries_small same epoch me before (e ∷ rest) none =
      let parts = first_none (first_error (entry_rules same epoch me before e))
      (first_broken_after same epoch me (e ∷ before) rest) none in
      let own = none_first (own_rules epoch me e) (beside_rules same before e)
      (none_broken (entry_rules same epoch me before e) parts.0).1 in
      (entry_fine epoch me e own, entries_small same epoch me (e ∷ before) rest parts.1)

module _ {D : Type 0} where
  floor_fine : (epoch : ℕ) (floor : FloorFacts D) → first_error (recovery_floor_rules epoch floor) ≡ None
      → is_floor_too_large floor ≡ false
  floor_fine epoch (Genesis payload) none = refl
  floor_fine epoch (FinalizedFloor c) none = (none_broken (recovery_floor_rules epoch (FinalizedFloor c)) none).1.1.0

module _ {K L D : Type 0} (same : D → D → Bool) where
  -- a floor and a record that are taken name no view that is too large
  pub taken_small : (x : StateFacts K L D) (floor : FloorFacts D) (now : ℕ) (entries : List (ArtifactFacts D))
      → recover_error same x floor now entries ≡ None → (is_floor_too_large floor ≡ false) × AllSmall entries
  unfolding first_recover_error
  taken_small x floor now entries none =
      let whole = (first_none (first_recover_error same x.settings.epoch x.me floor entries)
      (if has_late_deadline x now then Some error.TimeOverflow else None) none).0 in
      let parts = first_none (first_error (recovery_floor_rules x.settings.epoch floor))
      (first_broken_after same x.settings.epoch x.me [] entries) whole in
      (floor_fine x.settings.epoch floor parts.0, entries_small same x.settings.epoch x.me [] entries parts.1)

module _ {K L D : Type 0} (same : D → D → Bool) (decides : (d e : D) → same d e ≡ true → d ≡ e) (elect : Elect L)
    (past : List (StepFacts K L D)) (now : ℕ) where
  abbrev Q : Proposal D → Type 0
  Q = WasBuilt past

  by_event : (x : StateFacts K L D) (e : Event K D) → BringsProposals Q e → AllHeld Q x
      → AllHeld Q (after_event same elect x e)
  by_event x e brings all = event_held same decides elect Q x e brings all

  floor_held : (x : StateFacts K L D) (floor : FloorFacts D) → is_floor_too_large floor ≡ false → AllHeld Q x
      → AllHeld Q (after_set_floor same elect x floor now)
  floor_held x (Genesis payload) small all =
      by_event x (SetFloor (Genesis payload) now)
      (brings_nothing Q refl refl refl refl (λ d other moment says. absurd (cc))) all
  floor_held x (FinalizedFloor c) small all = by_event x (SetFloor (FinalizedFloor c) now) (record {
    notarized = λ d says. absurd (cc);
    finalized = λ d says. (let here : c ≡ d = cc in
        subst (λ (k : ProposalFacts D). Q k.proposal) here (small_view past c.proposal small));
    received = λ w p says. absurd (cc);
    noted = λ p says. absurd (cc);
    built = λ d other moment says. absurd (cc);
  }) all

  replayed_held : (x : StateFacts K L D) (e : ArtifactFacts D) → entry_too_large e ≡ false → AllHeld Q x
      → AllHeld Q (after_replaying same elect x e)
  replayed_held x (NotarizeVote p m) small all = by_event x (Replay (NotarizeVote p m)) (record {
    notarized = λ d says. absurd (cc);
    finalized = λ d says. absurd (cc);
    received = λ w q says. absurd (cc);
    noted = λ q says. (let here : p ≡ q = cc in subst Q here (small_view past p small));
    built = λ d other moment says. absurd (cc);
  }) all
  replayed_held x (NullifyVote round m) small all =
      by_event x (Replay (NullifyVote round m))
      (brings_nothing Q refl refl refl refl (λ d other moment says. absurd (cc))) all
  replayed_held x (FinalizeVote p m) small all =
      by_event x (Replay (FinalizeVote p m)) (brings_nothing Q refl refl refl refl (λ d other moment says. absurd (cc)))
      all
  replayed_held x (Verdict round success) small all =
      by_event x (Replay (Verdict round success))
      (brings_nothing Q refl refl refl refl (λ d other moment says. absurd (cc))) all
  replayed_held x (Accepted c) small all = by_event x (Replay (Accepted c))
      (brings_nothing Q refl refl refl refl (λ d other moment says. absurd (cc))) all

  retaken_held : (x : StateFacts K L D) (e : ArtifactFacts D) → entry_too_large e ≡ false → AllHeld Q x
      → AllHeld Q (after_entry same elect x now e)
  retaken_held x (NotarizeVote p m) small all = replayed_held x (NotarizeVote p m) small all
  retaken_held x (NullifyVote round m) small all = replayed_held x (NullifyVote round m) small all
  retaken_held x (FinalizeVote p m) small all = replayed_held x (FinalizeVote p m) small all
  retaken_held x (Verdict round success) small all =
      by_event (after_replaying same elect x (Verdict round success)) (Certified round.view success now)
      (brings_nothing Q refl refl refl refl (λ d other moment says. absurd (cc)))
      (replayed_held x (Verdict round success) small all)
  retaken_held x (Accepted (Notarized c)) small all =
      replayed_held (after_event same elect x (AddNotarization c)) (Accepted (Notarized c)) small
      (by_event x (AddNotarization c) (record {
        notarized = λ d says. (let here : c ≡ d = cc in
            subst (λ (k : ProposalFacts D). Q k.proposal) here (small_view past c.proposal small));
        finalized = λ d says. absurd (cc);
        received = λ w p says. absurd (cc);
        noted = λ p says. absurd (cc);
        built = λ d other moment says. absurd (cc);
      }) all)
  retaken_held x (Accepted (Nullified c)) small all =
      replayed_held (after_event same elect x (AddNullification c now)) (Accepted (Nullified c)) small
      (by_event x (AddNullification c now)
      (brings_nothing Q refl refl refl refl (λ d other moment says. absurd (cc))) all)
  retaken_held x (Accepted (Finalized c)) small all =
      replayed_held (after_event same elect x (AddFinalization c now)) (Accepted (Finalized c)) small
      (by_event x (AddFinalization c now) (record {
        notarized = λ d says. absurd (cc);
        finalized = λ d says. (let here : c ≡ d = cc in
            subst (λ (k : ProposalFacts D). Q k.proposal) here (small_view past c.proposal small));
        received = λ w p says. absurd (cc);
        noted = λ p says. absurd (cc);
        built = λ d other moment says. absurd (cc);
      }) all)

  all_taken_held : (x : StateFacts K L D) (entries : List (ArtifactFacts D)) → AllSmall entries → AllHeld Q x
      → AllHeld Q (after_entries same elect x now entries)
  unfolding after_kept_entry
  all_taken_held x [] small all = all
  all_taken_held x (e ∷ rest) small all =
      all_taken_held (after_kept_entry same elect x now e) rest small.1
      (elim (nat_lt (entry_view e) (min_active x)) as
      (λ b. AllHeld Q (if b then x else after_entry same elect x now e))
      [ true ↦ all | false ↦ retaken_held x e small.0 all ])

  -- a new lifetime holds no such proposal
  pub recovered_held : (setup : Setup K L) (floor : FloorFacts D) (entries : List (ArtifactFacts D))
      → is_floor_too_large floor ≡ false → AllSmall entries
      → AllHeld Q (recovered_state same elect (new_state setup) floor now entries)
  unfolding recovered_state
  recovered_held setup floor entries fine small =
      all_taken_held (after_set_floor same elect (new_state setup) floor now) entries small
      (floor_held (new_state setup) floor fine (λ v p is. absurd (cc)))
