-- Each call of a lifetime keeps what its facts show of the votes to notarize.
use Rattle.std.proofs.Common.{◌≡◌, refl, ap, sym, ◌∙◌, subst, ℕ, ◌≤◌, ◌<◌, Bool, true, false, ◌&&◌, ◌==◌, cond, nat_le, List, [], ◌∷◌, ◌++◌, Contains, Some, None, is_some, unwrap_or, arith}
use Rattle.std.specs.Ordering.{nat_cmp}
use Rattle.std.specs.FinMap.Entries.{find, find-where_key}
use Rattle.std.proofs.lemmas.Bool.{false≢true, true≢false, eqb-true, le-leb}
use Rattle.std.proofs.lemmas.Bool.Decides.{nat_tests}
use Rattle.std.proofs.lemmas.List.Elements.{Contains-append_right}
use Rattle.simplex_view_maps.proofs.Gaps.{next_above}
use Rattle.simplex_types.specs.declared.types.messages.Proposal.{Proposal}
use Rattle.simplex_types.specs.declared.types.messages.Subject.TheVariants as subject
use Rattle.simplex_types.specs.declared.types.numbers.Round.{Round}
use Rattle.simplex_round.specs.Round.{RoundFacts, new_round}
use Rattle.simplex_voter.specs.Facts.{StateFacts, Elect, round_of, round_number, is_tracked}
use Rattle.simplex_voter.specs.Windows.{min_active}
use Rattle.simplex_voter.specs.Refusals.{is_started, takes_round}
use Rattle.simplex_voter.specs.StateAnswers.{after_prune}
use Rattle.simplex_voter.proofs.Gaps.{and_parts}
use Rattle.simplex_member.specs.Calls.{CallFacts, AddNotarization, AddNullification, AddFinalization, Certified, ConstructNullify, ConstructFinalize, BroadcastNotarization, BroadcastNullification, BroadcastFinalization, GetBestCertificate, Prune}
use Rattle.simplex_member.specs.CallConditions.{is_allowed}
use Rattle.simplex_member.specs.CallSemantics.{answer, after_call, outstanding_work_after}
use Rattle.simplex_member.specs.OutstandingWork.{OutstandingWork, is_verifying, context_at, without_offer}
use Rattle.laws_safety.specs.Traces.{TraceEvent, Accepts, trace_of_call}
use Rattle.laws_safety.proofs.lists.Signed.{signed_none}
use Rattle.laws_safety.proofs.lists.Filters.{Contains-filtered}
use Rattle.laws_safety.proofs.votes.NullifyVotes.{tied}
use Rattle.laws_safety.proofs.votes.UnchangedProposals.{UnchangedProposalsFrom, calm_along, event_calm, leaves}
use Rattle.simplex_record.proofs.Steps.{Still}
use Rattle.simplex_record.specs.Events as event
use Rattle.simplex_record.specs.Events.{Event, covers_from}
use Rattle.laws_safety.proofs.votes.Proposals.{Tidy}
use Rattle.laws_safety.proofs.frames.CallsOnWork.{is_work}
use Rattle.laws_safety.proofs.votes.NotarizeVotesShown.{NotesStand, notes_acted, notes_calm}
use Rattle.laws_safety.proofs.records.NotarizeVotesRemembered.{calls_cast_none}

-- a view among those and one more
-- an offer has no effect on votes to notarize
other_offers : {K L D : Type 0} (base low : ℕ) (trace : List (TraceEvent D)) (o : OutstandingWork K D) (v : ℕ)
    (y : StateFacts K L D) → NotesStand base low trace o y → NotesStand base low trace (without_offer o v) y
other_offers base low trace o v y notes = record {
  above = notes.above;
  active = notes.active;
  reached = notes.reached;
  tidy = λ v over. notes.tidy v over;
  placed = notes.placed;
  worked = notes.worked;
  verifying_low = λ v is. notes.verifying_low v is;
  context_low = λ v is. notes.context_low v is;
  contexts_placed = notes.contexts_placed;
  voted = notes.voted;
  covered = notes.covered;
}

module _ {K L D : Type 0} (same : D → D → Bool) (elect : Elect L) (base low : ℕ) (trace : List (TraceEvent D))
    (o : OutstandingWork K D) (x : StateFacts K L D) (notes : NotesStand base low trace o x) where
  -- the trace of the call, and an event that keeps the work on each view
  acted : (call : CallFacts D) (e : Event K D) → is_work call ≡ false
      → UnchangedProposalsFrom base e x (after_call same elect x o call)
      → ((u : ℕ) → covers_from u e ≡ true → (round : Round)
      × Contains (trace ++ trace_of_call {K = K} call (answer same elect x o call)) (Accepts (subject.Nullify round))
      × (round.view ≡ u)) → NotesStand base low (trace ++ trace_of_call {K = K} call (answer same elect x o call)) o
      (after_call same elect x o call)
  acted call e plain left accepted =
      let more = trace_of_call {K = K} call (answer same elect x o call) in
      notes_calm base low (trace ++ more) e o o x (after_call same elect x o call) left accepted (λ v is. is)
      (λ v c is. is) (notes_acted base low trace more o x (calls_cast_none same elect x o call plain) notes)

  active_view : (round : Round) → takes_round x round ≡ true → (1 ≤ round.view) × (base ≤ round.view)
  active_view round takes =
      let admitted = (and_parts (is_started x && round.epoch == x.settings.epoch) _ takes).1 in
      let parts = and_parts (nat_le 1 round.view) (nat_le (min_active x) round.view) admitted in (
        grind (arith, nat_tests, parts.0),
        (let over : min_active x ≤ round.view = grind (arith, nat_tests, parts.1) in
            omega (arith, over, notes.active)),
      )

  -- a prune: the rest begins with the lowest retained view
  pruned_notes : NotesStand (min_active x) low trace o (after_prune x)
  pruned_notes = record {
    above = λ v tracked. kept_above v (nat_le (min_active x) v) refl tracked;
    active = omega arith;
    reached = notes.reached;
    tidy = λ v over. subst (λ r. Tidy (is_verifying o v) (is_some (context_at o v)) r) (sym (kept_round v over))
        (notes.tidy v (omega (arith, over, notes.active)));
    placed = λ v p is. placed_still v p (nat_le (min_active x) v) refl is;
    worked = λ v is un. worked_still v (nat_le (min_active x) v) refl is un;
    verifying_low = notes.verifying_low;
    context_low = notes.context_low;
    contexts_placed = notes.contexts_placed;
    voted = λ p h above over. subst (λ (r : RoundFacts K D). r.notarize_decided ≡ true)
        (sym (kept_round p.round.view over)) (notes.voted p h above (omega (arith, over, notes.active)));
    covered = λ u h. notes.covered u (Contains-filtered _ x.nullified u h);
  }
    where
      found : (v : ℕ) → find nat_cmp v (after_prune x).rounds ≡ cond (nat_le (min_active x) v) (find nat_cmp v x.rounds)
          None
      found v = find-where_key nat_cmp (λ u. nat_le (min_active x) u) v
          (λ u same_place. ap (nat_le (min_active x)) (sym (tied v u same_place))) x.rounds

      round_by : (v : ℕ) (b : Bool) → nat_le (min_active x) v ≡ b
          → round_of (after_prune x) v ≡ unwrap_or (cond b (find nat_cmp v x.rounds) None)
          (new_round x.me x.members (round_number x v))
      round_by v b is = ap (λ f. unwrap_or f (new_round x.me x.members (round_number x v)))
          (found v ∙ ap (λ c. cond c (find nat_cmp v x.rounds) None) is)

      kept_round : (v : ℕ) → min_active x ≤ v → round_of (after_prune x) v ≡ round_of x v
      kept_round v over = round_by v true (le-leb (min_active x) v over)

      kept_above : (v : ℕ) (b : Bool) → nat_le (min_active x) v ≡ b → is_tracked (after_prune x) v ≡ true
          → min_active x ≤ v
      kept_above v true is tracked = grind (arith, nat_tests, is)
      kept_above v false is tracked = absurd
          (false≢true (sym (ap is_some (found v ∙ ap (λ c. cond c (find nat_cmp v x.rounds) None) is)) ∙ tracked))

      placed_still : (v : ℕ) (p : Proposal D) (b : Bool) → nat_le (min_active x) v ≡ b
          → (round_of (after_prune x) v).slot.held ≡ Some p → p.round.view ≡ v
      placed_still v p true is held_there = notes.placed v p
          (sym (ap (λ (r : RoundFacts K D). r.slot.held) (round_by v true is)) ∙ held_there)
      placed_still v p false is held_there = absurd
          (false≢true (ap is_some (sym (ap (λ (r : RoundFacts K D). r.slot.held) (round_by v false is)) ∙ held_there)))

      worked_still : (v : ℕ) (b : Bool) → nat_le (min_active x) v ≡ b
          → (round_of (after_prune x) v).slot.verified ≡ true → (round_of (after_prune x) v).notarize_decided ≡ false
          → low ≤ v
      worked_still v true is verified un = notes.worked v
          (sym (ap (λ (r : RoundFacts K D). r.slot.verified) (round_by v true is)) ∙ verified)
          (sym (ap (λ (r : RoundFacts K D). r.notarize_decided) (round_by v true is)) ∙ un)
      worked_still v false is verified un = absurd
          (false≢true (sym (ap (λ (r : RoundFacts K D). r.slot.verified) (round_by v false is)) ∙ verified))

  -- a call that is allowed, and not on the work of a view
  pub call_notes : (call : CallFacts D) → is_work call ≡ false → 0 < x.terms.term_length → x.finalized < x.current
      → is_allowed x o call ≡ true → (b : ℕ) × NotesStand b low
      (trace ++ trace_of_call {K = K} call (answer same elect x o call)) (outstanding_work_after same elect x o call)
      (after_call same elect x o call)
  call_notes (AddNotarization c) plain some ahead allowed = (
    base,
    acted (AddNotarization c) (event.AddNotarization c) refl
        (event_calm same elect base x (event.AddNotarization c) (leaves refl) (omega (arith, notes.active, ahead))
        (active_view c.proposal.round allowed).1) (λ u is. absurd cc),
  )
  call_notes (AddNullification c now) plain some ahead allowed =
      let view = active_view c.round allowed in
      let next = next_above x.terms.term_length c.round.view some view.0 in (
        base,
        acted (AddNullification c now) (event.AddNullification c now) refl
            (event_calm same elect base x (event.AddNullification c now) (leaves refl)
            (omega (arith, notes.active, ahead)) (view.1, omega (arith, next, view.1)))
            (λ u is. (
              c.round,
              Contains-append_right trace (Accepts (subject.Nullify c.round) ∷ [])
                  (Accepts (subject.Nullify c.round)) (0, omega arith, refl),
              sym (eqb-true u c.round.view is),
            )),
      )
  call_notes (AddFinalization c now) plain some ahead allowed = (
    base,
    acted (AddFinalization c now) (event.AddFinalization c now) refl
        (event_calm same elect base x (event.AddFinalization c now) (leaves refl) (omega (arith, notes.active, ahead))
        (active_view c.proposal.round allowed).1) (λ u is. absurd cc),
  )
  call_notes (Certified v success now) plain some ahead allowed = (
    base,
    other_offers base low (trace ++ []) o v _
        (acted (Certified v success now) (event.Certified v success now) refl
        (event_calm same elect base x (event.Certified v success now) (leaves refl) (omega (arith, notes.active, ahead))
        tt) (λ u is. absurd cc)),
  )
  call_notes (ConstructNullify v) plain some ahead allowed = (
    base,
    acted (ConstructNullify v) (event.ConstructNullify v) refl
        (event_calm same elect base x (event.ConstructNullify v) (leaves refl) (omega (arith, notes.active, ahead)) tt)
        (λ u is. absurd cc),
  )
  call_notes (ConstructFinalize v) plain some ahead allowed = (
    base,
    acted (ConstructFinalize v) (event.ConstructFinalize v) refl
        (event_calm same elect base x (event.ConstructFinalize v) (leaves refl) (omega (arith, notes.active, ahead)) tt)
        (λ u is. absurd cc),
  )
  call_notes (BroadcastNotarization v) plain some ahead allowed = (
    base,
    acted (BroadcastNotarization v) (event.BroadcastNotarization v) refl
        (event_calm same elect base x (event.BroadcastNotarization v) (leaves refl) (omega (arith, notes.active, ahead))
        tt) (λ u is. absurd cc),
  )
  call_notes (BroadcastNullification v) plain some ahead allowed = (
    base,
    acted (BroadcastNullification v) (event.BroadcastNullification v) refl
        (event_calm same elect base x (event.BroadcastNullification v) (leaves refl)
        (omega (arith, notes.active, ahead))
        tt) (λ u is. absurd cc),
  )
  call_notes (BroadcastFinalization v) plain some ahead allowed = (
    base,
    acted (BroadcastFinalization v) (event.BroadcastFinalization v) refl
        (event_calm same elect base x (event.BroadcastFinalization v) (leaves refl) (omega (arith, notes.active, ahead))
        tt) (λ u is. absurd cc),
  )
  call_notes GetBestCertificate plain some ahead allowed = (
    base,
    acted GetBestCertificate event.CertifyCandidates refl
        (calm_along same elect x event.CertifyCandidates base (leaves refl) x x Still) (λ u is. absurd cc),
  )
  call_notes Prune plain some ahead allowed = (min_active x, notes_nothing)
    where
      notes_nothing : NotesStand (min_active x) low (trace ++ []) o (after_prune x)
      notes_nothing = notes_acted (min_active x) low trace [] o (after_prune x)
          (λ p h. absurd (signed_none (subject.Notarize p) h)) pruned_notes
  call_notes _ plain some ahead allowed = absurd (true≢false plain)
