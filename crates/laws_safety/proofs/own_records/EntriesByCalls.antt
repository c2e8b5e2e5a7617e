-- A call records only what its state did not show, and then shows it: so the record has no two entries of one kind and
-- one view.
use Rattle.std.proofs.Common.{◌≡◌, refl, ap, sym, ◌∙◌, subst, ℕ, ◌<◌, ◌≤◌, inl, inr, Bool, true, false, not, ◌&&◌, if◌then◌else◌, List, [], ◌∷◌, ◌++◌, Contains, Option, Some, None, is_some, unwrap_or, arith}
use Rattle.std.specs.Prelude.{◌==◌, option_map, option_and_then}
use Rattle.std.specs.Option.{option_map_or}
use Rattle.std.proofs.lemmas.Bool.{cases_Bool, cases_lt, false≢true, true≢false, eqb-true}
use Rattle.std.proofs.lemmas.List.{append-nil}
use Rattle.std.proofs.lemmas.List.Elements.{Contains-push_cases}
use Rattle.simplex_types.specs.Certificates.{Notarized, Nullified, Finalized, ArtifactFacts, NotarizeVote, NullifyVote, FinalizeVote, Verdict, Accepted}
use Rattle.simplex_types.specs.declared.types.messages.Proposal.{Proposal}
use Rattle.simplex_round.specs.declared.round.Decision.{Decision}
use Rattle.simplex_round.specs.declared.round.Decision.TheVariants as decision
use Rattle.simplex_round.specs.Round.{RoundFacts, new_round, is_pending, is_nullify, is_finalize, is_judged, is_verified_slot}
use Rattle.simplex_voter.specs.Facts.{StateFacts, Elect, round_at, round_of, round_number, is_tracked}
use Rattle.simplex_voter.specs.Windows.{min_active}
use Rattle.simplex_voter.specs.Certification.{is_first_verdict, after_certified}
use Rattle.simplex_voter.specs.Acceptance.{notarization_added, nullification_added, finalization_added, after_add_notarization, after_add_nullification, after_add_finalization}
use Rattle.simplex_voter.specs.Rules.{may_notarize, may_nullify, may_finalize}
use Rattle.simplex_voter.specs.Votes.{notarize_answer, nullify_answer, finalize_answer}
use Rattle.simplex_voter.proofs.Elsewhere.{first_added}
use Rattle.simplex_voter.proofs.Gaps.{and_parts, not_true}
use Rattle.simplex_voter.proofs.Rules.{notarize_parts, nullify_parts, finalize_parts}
use Rattle.simplex_record.specs.Entries.{entry_view}
use Rattle.simplex_record.specs.Events.{Event, IsEvent, after_event, is_prune}
use Rattle.simplex_record.proofs.Paths.{tracked_by}
use Rattle.simplex_member.specs.CallConditions.{is_allowed}
use Rattle.simplex_member.specs.Calls.{CallFacts, AddNotarization, AddNullification, AddFinalization, ConstructNotarize, Certified, ConstructNullify, ConstructFinalize}
use Rattle.simplex_member.specs.CallSemantics.{nullify_vote, notarize_vote, finalize_vote, if_new, unrepeated_vote, vote_entry, after_call, recorded_by}
use Rattle.simplex_member.specs.OutstandingWork.{OutstandingWork}
use Rattle.laws_safety.specs.RecordsOnce.{are_of_one_kind, are_alike, RecordsOnce}
use Rattle.laws_safety.proofs.frames.CallsMake.{call_by_event}
use Rattle.laws_safety.proofs.frames.NoLowerViews.{event_goes, floor_goes}
use Rattle.laws_safety.proofs.frames.Sound.{IsAhead}
use Rattle.laws_safety.proofs.frames.Untracked.{IsClear, kept_view, event_clear, event_dropped}
use Rattle.laws_safety.proofs.own_records.Distinct.{distinct_push}
use Rattle.laws_safety.proofs.own_records.ShownEntries.{has_verdict, has_entry, entry_retained, event_retains, judged_some}
use Rattle.laws_safety.proofs.own_records.EntriesStand.{notarization_shown, nullification_shown, finalization_shown, nullify_shown, finalize_shown, notarize_shown}
use Rattle.laws_safety.proofs.own_records.RecoveredEntries.{is_shown, event_still}
use Rattle.laws_safety.proofs.own_records.Verdicts.{verdict_stands}

-- no view below some bound is tracked, and from the bound on the state shows each entry of the record
pub record ShowsEntries {K L D : Type 0} (low : ℕ) (entries : List (ArtifactFacts D)) (x : StateFacts K L D) : Type
    0 where
  pub under : low ≤ min_active x
  pub clear : IsClear low x
  pub shown : (a : ArtifactFacts D) → Contains entries a → low ≤ entry_view a → is_shown x a ≡ true

-- the new entries: none, or one from the bound on that was not shown, and is then
abbrev pub IsNewlyShown : {K L D : Type 0} → ℕ → StateFacts K L D → StateFacts K L D → List (ArtifactFacts D) → Type 0
IsNewlyShown low x y [] = Unit {0}
IsNewlyShown low x y (e ∷ rest) = (low ≤ entry_view e) × (is_shown x e ≡ false) × (is_shown y e ≡ true) × (rest ≡ [])

module _ {K D : Type 0} where
  -- a round shows both entries of one kind, or neither
  alike_shown : (r : RoundFacts K D) (a e : ArtifactFacts D) → are_of_one_kind a e ≡ true
      → has_entry r a ≡ has_entry r e
  alike_shown r (NotarizeVote _ _) (NotarizeVote _ _) is = refl
  alike_shown r (NullifyVote _ _) (NullifyVote _ _) is = refl
  alike_shown r (FinalizeVote _ _) (FinalizeVote _ _) is = refl
  alike_shown r (Verdict _ _) (Verdict _ _) is = refl
  alike_shown r (Accepted (Notarized _)) (Accepted (Notarized _)) is = refl
  alike_shown r (Accepted (Nullified _)) (Accepted (Nullified _)) is = refl
  alike_shown r (Accepted (Finalized _)) (Accepted (Finalized _)) is = refl
  alike_shown r _ _ is = absurd (false≢true is)

module _ {K L D : Type 0} (low high : ℕ) (entries : List (ArtifactFacts D)) (x y : StateFacts K L D) where
  -- none that is shown is like one that isn't
  unlike : ShowsEntries low entries x → (e : ArtifactFacts D) → low ≤ entry_view e → is_shown x e ≡ false
      → (a : ArtifactFacts D) → Contains entries a → are_alike a e ≡ false
  unlike shows e over none a h = elim (cases_Bool (are_alike a e)) [
    | inr is ↦ is
    | inl is ↦ absurd (
        let parts = and_parts (entry_view a == entry_view e) (are_of_one_kind a e) is in
        let at : entry_view a ≡ entry_view e = eqb-true (entry_view a) (entry_view e) parts.0 in
        let stood = shows.shown a h (omega (arith, over, at)) in
        let there : has_entry (round_of x (entry_view e)) a ≡ true =
        subst (λ v. has_entry (round_of x v) a ≡ true) at stood in
        false≢true (sym none ∙ (sym (alike_shown (round_of x (entry_view e)) a e parts.1) ∙ there)))
  ]

  -- a record that grows by newly shown entries
  pub grows_once : (new : List (ArtifactFacts D)) → ShowsEntries low entries x → ShowsEntries high entries y
      → IsNewlyShown low x y new → RecordsOnce entries
      → RecordsOnce (entries ++ new) × ShowsEntries high (entries ++ new) y
  grows_once [] shows later newly once = rw (append-nil entries) (once, later)
  grows_once (e ∷ rest) shows later (over, none, stands, last) once =
      rw last (
        distinct_push are_alike entries e (unlike shows e over none) once,
        record {
          under = later.under;
          clear = later.clear;
          shown = λ a h from. elim (Contains-push_cases entries e a h) [
            | inl old ↦ later.shown a old from
            | inr here ↦ subst (λ f. is_shown y f ≡ true) here stands
          ];
        },
      )

module _ {K L D : Type 0} (same : D → D → Bool) (elect : Elect L) (low : ℕ) (entries : List (ArtifactFacts D))
    (x : StateFacts K L D) (some : 0 < x.terms.term_length) (ahead : IsAhead x)
    (shows : ShowsEntries low entries x) where
  -- an event keeps what is shown, or drops all below the retained views
  event_shows : (e : Event K D) → IsEvent x e → (high : ℕ) × ShowsEntries high entries (after_event same elect x e)
  event_shows e takes = by_prune (is_prune e) refl
    where
      y : StateFacts K L D
      y = after_event same elect x e

      floor : min_active x ≤ min_active y
      floor = floor_goes x y (event_goes same elect x e)

      by_prune : (b : Bool) → is_prune e ≡ b → (high : ℕ) × ShowsEntries high entries y
      by_prune false no_prune = (
        low,
        record {
          under = omega (arith, shows.under, floor);
          clear = event_clear same elect low x shows.under (omega (arith, shows.under, ahead)) some shows.clear e takes;
          shown = λ a h over. event_still same elect x e (λ w token is. takes) no_prune a (shows.shown a h over);
        },
      )
      by_prune true prunes = (
        min_active x,
        record {
          under = floor;
          clear = record { views = λ v below. event_dropped same elect x e v (rw prunes below) };
          shown = λ a h over. elim (event_retains same elect x e (λ w token is. takes) (entry_view a)) [
            | inl retains ↦ entry_retained (round_of x (entry_view a)) (round_of y (entry_view a)) a retains
                (shows.shown a h (omega (arith, shows.under, over)))
            | inr gone ↦ absurd (let below = gone.1.below in omega (arith, below, over))
          ];
        },
      )

  pub call_shows : (o : OutstandingWork K D) (call : CallFacts D) → is_allowed x o call ≡ true
      → (high : ℕ) × ShowsEntries high entries (after_call same elect x o call)
  call_shows o call allowed = call_by_event same elect x o (λ es y. (high : ℕ) × ShowsEntries high entries y)
      (low, shows) (λ e takes none. event_shows e takes) call allowed

-- the recorded entries

module _ {K L D : Type 0} (low : ℕ) (x y : StateFacts K L D) where
  newly_if : (b : Bool) (e : ArtifactFacts D)
      → (b ≡ true → (low ≤ entry_view e) × (is_shown x e ≡ false) × (is_shown y e ≡ true))
      → IsNewlyShown low x y (if_new b e)
  newly_if true e holds = let h = holds refl in (h.0, h.1, h.2, refl)
  newly_if false e holds = tt

  newly_voted : (vote : Option (ArtifactFacts D))
      → ((e : ArtifactFacts D) → vote ≡ Some e → (low ≤ entry_view e) × (is_shown x e ≡ false) × (is_shown y e ≡ true))
      → IsNewlyShown low x y (vote_entry vote)
  newly_voted None holds = tt
  newly_voted (Some e) holds = let h = holds e refl in (h.0, h.1, h.2, refl)

  newly_unrepeated : (vote : Option (Bool × ArtifactFacts D))
      → ((e : ArtifactFacts D) → vote ≡ Some (false, e)
      → (low ≤ entry_view e) × (is_shown x e ≡ false) × (is_shown y e ≡ true))
      → IsNewlyShown low x y (unrepeated_vote vote)
  newly_unrepeated None holds = tt
  newly_unrepeated (Some (true, e)) holds = tt
  newly_unrepeated (Some (false, e)) holds = let h = holds e refl in (h.0, h.1, h.2, refl)

answered_where : {A : Type 0} (b : Bool) (o : Option A) (a : A) → (if b then o else None) ≡ Some a
    → (b ≡ true) × (o ≡ Some a)
answered_where true o a is = (refl, is)
answered_where false o a is = absurd (false≢true (ap is_some is))

signed_with : {A B : Type 0} (key : Option ℕ) (answer : Option A) (vote : ℕ → A → B) (e : B)
    → option_and_then (λ m. option_map (vote m) answer) key ≡ Some e
    → (m : ℕ) × (a : A) × (answer ≡ Some a) × (vote m a ≡ e)
signed_with None answer vote e is = absurd (false≢true (ap is_some is))
signed_with (Some m) None vote e is = absurd (false≢true (ap is_some is))
signed_with (Some m) (Some a) vote e is = (m, a, refl, ap (λ o. unwrap_or o (vote m a)) is)

pending_decision : (d : Decision) → is_nullify d ≡ false → is_finalize d ≡ false → not (is_pending d) ≡ false
pending_decision (decision.Pending _ _ _) no_nullify no_finalize = refl
pending_decision (decision.Nullify _) no_nullify no_finalize = absurd (true≢false no_nullify)
pending_decision decision.Finalize no_nullify no_finalize = absurd (true≢false no_finalize)

module _ {K L D : Type 0} (x : StateFacts K L D) (v : ℕ) where
  -- a first verdict is of a tracked view without one
  first_verdict : is_first_verdict x v ≡ true
      → (is_tracked x v ≡ true) × (has_verdict (round_of x v).certification ≡ false)
  first_verdict first = by_round (round_at x v) first
    where
      by_round : (o : Option (RoundFacts K D))
          → option_map_or (λ r. not (is_judged true r.certification) && not (is_judged false r.certification)) o
          false ≡ true → (is_some o ≡ true)
          × (has_verdict (unwrap_or o (new_round x.me x.members (round_number x v))).certification ≡ false)
      by_round None is = absurd (false≢true is)
      by_round (Some r) is =
          let parts = and_parts (not (is_judged true r.certification)) (not (is_judged false r.certification)) is in (
            refl,
            rw (not_true (is_judged true r.certification) parts.0)
                (not_true (is_judged false r.certification) parts.1),
          )

module _ {K L D : Type 0} (same : D → D → Bool) (elect : Elect L) (low : ℕ) (x : StateFacts K L D)
    (under : low ≤ min_active x) (clear : IsClear low x) (ahead : IsAhead x)
    (placed : (v : ℕ) (p : Proposal D) → (round_of x v).slot.held ≡ Some p → p.round.view ≡ v) where
  tracked_high : (v : ℕ) → is_tracked x v ≡ true → low ≤ v
  tracked_high v tracked = elim (cases_lt v low)
      [ inl below ↦ absurd (true≢false (sym tracked ∙ clear.views v below)) | inr over ↦ over ]

  notarize_recorded : (v : ℕ) (o : OutstandingWork K D)
      → IsNewlyShown low x (after_call same elect x o (ConstructNotarize v)) (vote_entry (notarize_vote same elect x v))
  notarize_recorded v o = newly_voted low x (after_call same elect x o (ConstructNotarize v))
      (notarize_vote same elect x v) voted
    where
      y : StateFacts K L D
      y = after_call same elect x o (ConstructNotarize v)

      voted : (e : ArtifactFacts D) → notarize_vote same elect x v ≡ Some e
          → (low ≤ entry_view e) × (is_shown x e ≡ false) × (is_shown y e ≡ true)
      voted e is =
          let signed = signed_with x.me (notarize_answer same elect x v) (λ m p. NotarizeVote p m) e is in
          let p = signed.1 in
          let asked = answered_where (is_some x.me && may_notarize same elect x v) (round_of x v).slot.held p signed.2
          in
          let may = (and_parts (is_some x.me) (may_notarize same elect x v) asked.0).1 in
          let rule = notarize_parts same elect x v may in
          let at : p.round.view ≡ v = placed v p asked.1 in
          let high = tracked_high v (tracked_by x v (λ r. is_verified_slot r.slot) refl rule.verified) in
          subst (λ f. (low ≤ entry_view f) × (is_shown x f ≡ false) × (is_shown y f ≡ true)) signed.3 (
            omega (arith, high, at),
            subst (λ u. (round_of x u).notarize_decided ≡ false) (sym at) rule.first_vote,
            subst (λ u. (round_of y u).notarize_decided ≡ true) (sym at) (notarize_shown same elect x v may),
          )

  finalize_recorded : (v : ℕ) (o : OutstandingWork K D)
      → IsNewlyShown low x (after_call same elect x o (ConstructFinalize v)) (vote_entry (finalize_vote elect x v))
  finalize_recorded v o = newly_voted low x (after_call same elect x o (ConstructFinalize v)) (finalize_vote elect x v)
      voted
    where
      y : StateFacts K L D
      y = after_call same elect x o (ConstructFinalize v)

      voted : (e : ArtifactFacts D) → finalize_vote elect x v ≡ Some e
          → (low ≤ entry_view e) × (is_shown x e ≡ false) × (is_shown y e ≡ true)
      voted e is =
          let signed = signed_with x.me (finalize_answer elect x v) (λ m p. FinalizeVote p m) e is in
          let p = signed.1 in
          let asked = answered_where (is_some x.me && may_finalize elect x v) (round_of x v).slot.held p signed.2 in
          let may = (and_parts (is_some x.me) (may_finalize elect x v) asked.0).1 in
          let rule = finalize_parts elect x v may in
          let at : p.round.view ≡ v = placed v p asked.1 in
          let above = rule.above_finalized in
          subst (λ f. (low ≤ entry_view f) × (is_shown x f ≡ false) × (is_shown y f ≡ true)) signed.3 (
            omega (arith, under, above, at),
            subst (λ u. not (is_pending (round_of x u).decision) ≡ false) (sym at) (ap not rule.undecided),
            subst (λ u. not (is_pending (round_of y u).decision) ≡ true) (sym at) (finalize_shown same elect x v may),
          )

  nullify_recorded : (v : ℕ) (o : OutstandingWork K D)
      → IsNewlyShown low x (after_call same elect x o (ConstructNullify v)) (unrepeated_vote (nullify_vote x v))
  nullify_recorded v o = newly_unrepeated low x (after_call same elect x o (ConstructNullify v)) (nullify_vote x v)
      voted
    where
      y : StateFacts K L D
      y = after_call same elect x o (ConstructNullify v)

      voted : (e : ArtifactFacts D) → nullify_vote x v ≡ Some (false, e)
          → (low ≤ entry_view e) × (is_shown x e ≡ false) × (is_shown y e ≡ true)
      voted e is =
          let signed = signed_with x.me (nullify_answer x v) (λ m retry. (retry, NullifyVote (round_number x v) m))
          (false, e) is in
          let asked = answered_where (is_some x.me && may_nullify x v) (Some (is_nullify (round_of x v).decision))
          signed.1 signed.2 in
          let may = (and_parts (is_some x.me) (may_nullify x v) asked.0).1 in
          let rule = nullify_parts x v may in
          let first : is_nullify (round_of x v).decision ≡ false = ap (λ o. unwrap_or o false) asked.1
          ∙ ap (λ (t : Bool × ArtifactFacts D). t.0) signed.3 in
          let current = rule.current in
          subst (λ f. (low ≤ entry_view f) × (is_shown x f ≡ false) × (is_shown y f ≡ true))
          (ap (λ (t : Bool × ArtifactFacts D). t.1) signed.3) (
            omega (arith, under, ahead, current),
            pending_decision (round_of x v).decision first rule.no_finalize,
            nullify_shown same elect x v may,
          )

  -- the entries that each allowed call records
  pub newly_recorded : (o : OutstandingWork K D) (call : CallFacts D) → is_allowed x o call ≡ true
      → IsNewlyShown low x (after_call same elect x o call) (recorded_by same elect x call)
  newly_recorded o (AddNotarization c) allowed =
      let standing = (round_of x c.proposal.round.view).notarization in
      newly_if low x (after_add_notarization same elect x c) (notarization_added same elect x c).0
      (Accepted (Notarized c)) (λ new. (
        (let kept = (kept_view x c.proposal.round allowed).1 in omega (arith, kept, under)),
        not_true (is_some standing) (sym (first_added same standing (round_of x c.proposal.round.view) c) ∙ new),
        notarization_shown same elect x c,
      ))
  newly_recorded o (AddNullification c now) allowed =
      newly_if low x (after_add_nullification elect x c now) (nullification_added x c) (Accepted (Nullified c))
      (λ new. (
        (let kept = (kept_view x c.round allowed).1 in omega (arith, kept, under)),
        not_true (is_some (round_of x c.round.view).nullification) new,
        nullification_shown same elect x c now,
      ))
  newly_recorded o (AddFinalization c now) allowed =
      let standing = (round_of x c.proposal.round.view).finalization in
      newly_if low x (after_add_finalization same elect x c now) (finalization_added same elect x c).0
      (Accepted (Finalized c)) (λ new. (
        (let kept = (kept_view x c.proposal.round allowed).1 in omega (arith, kept, under)),
        not_true (is_some standing) (sym (first_added same standing (round_of x c.proposal.round.view) c) ∙ new),
        finalization_shown same elect x c now,
      ))
  newly_recorded o (Certified v success now) allowed =
      newly_if low x (after_certified elect x v success now) (is_first_verdict x v) (Verdict (round_number x v) success)
      (λ first. (
      let is = first_verdict x v first in (
        tracked_high v is.0,
        is.1,
        judged_some success (round_of (after_certified elect x v success now) v).certification
            (verdict_stands same elect x v success now is.0),
      )))
  newly_recorded o (ConstructNotarize v) allowed = notarize_recorded v o
  newly_recorded o (ConstructNullify v) allowed = nullify_recorded v o
  newly_recorded o (ConstructFinalize v) allowed = finalize_recorded v o
  newly_recorded o _ allowed = tt
