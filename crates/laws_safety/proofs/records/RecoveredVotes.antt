-- For `votes_are_lawful`.
-- A new lifetime from a member's record starts with what all earlier lifetimes did.
use Rattle.std.proofs.Common.{◌≡◌, refl, subst, ℕ, ◌≤◌, ◌⊎◌, inl, inr, Bool, true, false, if◌then◌else◌, nat_lt, List, [], ◌∷◌, ◌++◌, Contains, Option, arith}
use Rattle.std.proofs.lemmas.Bool.{ltb-true}
use Rattle.std.proofs.lemmas.List.Elements.{Contains-append_left, Contains-append_right, Contains-append_cases}
use Rattle.simplex_types.specs.Certificates.{ProposalFacts, Finalized, ArtifactFacts, NullifyVote, FinalizeVote, Accepted}
use Rattle.simplex_types.specs.Config.{FloorFacts}
use Rattle.simplex_types.specs.declared.types.messages.Subject.{Subject}
use Rattle.simplex_types.specs.declared.types.messages.Subject.TheVariants as subject
use Rattle.simplex_types.specs.declared.types.window.Terms.{Terms}
use Rattle.simplex_voter.specs.Facts.{Settings, StateFacts, Elect, new_facts}
use Rattle.simplex_voter.specs.Windows.{min_active}
use Rattle.simplex_voter.specs.Acceptance.{after_add_finalization, after_set_floor}
use Rattle.simplex_record.specs.Recovery.{after_entry, after_kept_entry, after_entries, recovered_state}
use Rattle.laws_safety.specs.Traces.{TraceEvent, Accepts, Signs, of_floor}
use Rattle.laws_safety.specs.Lawful.{IsLawful}
use Rattle.laws_safety.proofs.lists.Signed.{signed_right, signed_cases}
use Rattle.laws_safety.proofs.lists.Splits.{Contains-cases}
use Rattle.laws_safety.proofs.votes.ShownVotes.{ShowsVotesInLife}
use Rattle.laws_safety.proofs.votes.ShownVotesAtStart.{start_stays, floor_unsigned}
use Rattle.laws_safety.proofs.frames.CallsMake.{all_keep}
use Rattle.laws_safety.proofs.frames.NoLowerViews.{event_goes, finalization_passes}
use Rattle.simplex_record.specs.Events as event
use Rattle.laws_safety.proofs.records.TracesShown.{Remembers, AreRecorded, entries_trace, entry_of, trace_event_of, of_accept, all_stay, stays_over}

module _ {K L D : Type 0} (same : D → D → Bool) (elect : Elect L) (x : StateFacts K L D) (now : ℕ) where
  taken_finalizes : (e : ArtifactFacts D) (c : ProposalFacts D) → e ≡ Accepted (Finalized c)
      → c.proposal.round.view ≤ (after_kept_entry same elect x now e).finalized
  unfolding after_kept_entry
  taken_finalizes e c is = rw is (by_view (nat_lt c.proposal.round.view (min_active x)) refl)
    where
      by_view : (b : Bool) → nat_lt c.proposal.round.view (min_active x) ≡ b
          → c.proposal.round.view ≤ (if nat_lt c.proposal.round.view (min_active x) then x else after_entry same elect x
          now (Accepted (Finalized c))).finalized
      by_view true below = rw below (omega (arith, ltb-true c.proposal.round.view (min_active x) below))
      by_view false kept = rw kept (omega (
        arith,
        finalization_passes same elect x now c,
        (event_goes same elect (after_add_finalization same elect x c now)
            (event.Replay (Accepted (Finalized c)))).finalized,
      ))

module _ {K L D : Type 0} (same : D → D → Bool) (elect : Elect L) (now : ℕ) where
  all_final : (x : StateFacts K L D) (entries : List (ArtifactFacts D))
      → x.finalized ≤ (after_entries same elect x now entries).finalized
  all_final x entries = all_keep same elect (λ y. x.finalized ≤ y.finalized)
      (λ y e p. omega (arith, p, (event_goes same elect y e).finalized)) now x entries (omega arith)

  -- each recorded finalization is no higher
  pub all_finalizes : (x : StateFacts K L D) (entries : List (ArtifactFacts D)) (c : ProposalFacts D)
      → Contains entries (Accepted (Finalized c))
      → c.proposal.round.view ≤ (after_entries same elect x now entries).finalized
  all_finalizes x [] c h = absurd (omega (arith, h.1))
  all_finalizes x (e ∷ rest) c h = elim (Contains-cases e rest (Accepted (Finalized c)) h) [
    | inl here ↦
        omega (arith, taken_finalizes same elect x now e c here, all_final (after_kept_entry same elect x now e) rest)
    | inr later ↦ all_finalizes (after_kept_entry same elect x now e) rest c later
  ]

module _ {K L D : Type 0} (same : D → D → Bool) (decides : (d e : D) → same d e ≡ true → d ≡ e) (elect : Elect L)
    (settings : Settings) (me : Option ℕ) (members : List K) (elector : L) (terms : Terms) (early : Bool) where
  -- a state made from a record of the whole earlier trace shows it, and also the floor's finalization; for views whose
  -- votes the record may
  -- lack, a view no lower is finalized in it
  pub recovered_stays : (trace : List (TraceEvent D)) (kept : ℕ) (copy : List (ArtifactFacts D)) (floor : FloorFacts D)
      (now : ℕ) → IsLawful terms.term_length trace → Remembers trace kept copy
      → (kept ≡ 0) ⊎ ((c : ProposalFacts D) × Contains copy (Accepted (Finalized c)) × (kept ≤ c.proposal.round.view))
      → ShowsVotesInLife terms.term_length (trace ++ of_floor floor)
      (recovered_state same elect (new_facts settings me members elector terms early) floor now copy)
  unfolding recovered_state
  recovered_stays trace kept copy floor now lawful remembers final =
      let x = after_set_floor same elect (new_facts settings me members elector terms early) floor now in
      let z = after_entries same elect x now copy in
      let t = terms.term_length in
      let a = of_floor floor ++ entries_trace copy in
      let b = trace ++ of_floor floor in
      let none : AreRecorded trace (of_floor floor) = (
        λ round h. absurd (floor_unsigned floor (subject.Nullify round) h),
        λ p h. absurd (floor_unsigned floor (subject.Finalize p) h),
      ) in
      let stays : ShowsVotesInLife t a z = all_stay same decides elect t trace lawful kept copy remembers now copy []
      (of_floor floor) x refl none (λ round h. absurd (omega (arith, h.1)))
      (start_stays same decides elect settings me members elector terms early floor now) in
      let high : kept ≤ z.finalized = elim final
      [ inl nothing ↦ omega arith | inr c ↦ omega (arith, all_finalizes same elect now x copy c.0 c.1, c.2) ] in
      stays_over t a b z
      (λ s h. elim (Contains-append_cases (of_floor floor) (entries_trace copy) (Accepts s) h) [
        | inl from_floor ↦ Contains-append_right trace (of_floor floor) (Accepts s) from_floor
        | inr from_copy ↦
            (let e = entry_of copy (Accepts s) from_copy in
            let c = of_accept e.0 s e.2 in
            let entry : Contains copy (Accepted c.0) = subst (λ f. Contains copy f) c.1 e.1 in
            Contains-append_left trace (of_floor floor) (Accepts s)
            (subst (λ (q : Subject D). Contains trace (Accepts q)) c.2 (remembers.accepted c.0 entry)))
      ])
      (λ round h. elim (signed_cases trace (of_floor floor) (subject.Nullify round) h) [
        | inr from_floor ↦ absurd (floor_unsigned floor (subject.Nullify round) from_floor)
        | inl old ↦ (
          remembers.above_genesis round old,
          elim (remembers.nullify_kept round old) [
            | inl e ↦ inl (signed_right (of_floor floor) (entries_trace copy) (subject.Nullify round) (
              e.0,
              trace_event_of copy (NullifyVote round e.0) (Signs e.0 (subject.Nullify round)) e.1
                  (0, omega arith, refl),
            ))
            | inr below ↦ inr (omega arith)
          ],
        )
      ])
      (λ p h. elim (signed_cases trace (of_floor floor) (subject.Finalize p) h) [
        | inr from_floor ↦ absurd (floor_unsigned floor (subject.Finalize p) from_floor)
        | inl old ↦ elim (remembers.finalize_kept p old) [
          | inl e ↦ inl (signed_right (of_floor floor) (entries_trace copy) (subject.Finalize p) (
            e.0,
            trace_event_of copy (FinalizeVote p e.0) (Signs e.0 (subject.Finalize p)) e.1
                (0, omega arith, refl),
          ))
          | inr below ↦ inr (omega arith)
        ]
      ])
      stays
