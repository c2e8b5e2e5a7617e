-- For `votes_are_lawful`.
-- The invariant of a member between its lifetimes, which drops, prunes, new lifetimes and calls keep.
use Rattle.std.proofs.Common.{◌≡◌, refl, ap, sym, ◌∙◌, subst, ℕ, zero, suc, ◌+◌, ◌-◌, ◌<◌, ◌≤◌, ◌⊎◌, inl, inr, Bool, true, false, nat_lt, nat_le, max, List, [], ◌∷◌, ◌++◌, append_assoc, length, Contains, take, filter, Option, Some, None, slice_get, arith}
use Rattle.std.specs.Option.{option_map_or}
use Rattle.std.proofs.lemmas.Bool.{cases_Bool, cases_lt, false≢true, le-leb, ltb-true}
use Rattle.std.proofs.lemmas.List.{append-nil, length-append}
use Rattle.std.proofs.lemmas.List.Elements.{Contains-push_cases}
use Rattle.simplex_types.specs.Certificates.{ProposalFacts, Finalized, ArtifactFacts, Accepted}
use Rattle.simplex_voter.proofs.Gaps.{and_parts, not_true}
use Rattle.simplex_record.specs.Cuts.{is_vote, may_drop, without_last, finalized_by, finalized_in, pruned_entries}
use Rattle.simplex_record.specs.Entries.{entry_view}
use Rattle.simplex_record.proofs.Cuts.{none_dropped}
use Rattle.laws_safety.specs.Traces.{TraceEvent}
use Rattle.laws_safety.specs.Lawful.{IsLawful}
use Rattle.laws_safety.proofs.lists.Splits.{Contains-cases, Contains-cons_rest}
use Rattle.laws_safety.proofs.agreement.VoteOrder.{Contains-split, Contains-middle}
use Rattle.laws_safety.proofs.lists.Filters.{Contains-filter}
use Rattle.laws_safety.proofs.records.TracesShown.{Remembers}
use Rattle.laws_safety.proofs.records.RememberedVotes.{append_split}
use Rattle.laws_safety.proofs.records.CutsRemembered.{left_remembers, bounded_remembers}
use Rattle.laws_safety.proofs.votes.NotarizeVotesShown.{RemembersNotes}
use Rattle.laws_safety.proofs.records.NotarizeVotesRemembered.{notes_left, notes_bounded}

-- a closed entry, which no drop takes, is a finalization no lower than the retained views
abbrev pub IsHigh : {D : Type 0} → ℕ → ℕ → List (ArtifactFacts D) → Type 0
IsHigh {D} closed kept entries =
    (kept ≡ 0)
    ⊎ ((c : ProposalFacts D) × (front back : List (ArtifactFacts D))
    × (entries ≡ front ++ Accepted (Finalized c) ∷ back) × (length front < closed) × (kept ≤ c.proposal.round.view))

-- between lifetimes: the trace is lawful, and the record remembers it except for views below `kept`
pub record Between {D : Type 0} (term_length : ℕ) (trace : List (TraceEvent D)) (closed kept : ℕ)
    (entries : List (ArtifactFacts D)) : Type 0 where
  pub lawful : IsLawful term_length trace
  pub remembers : Remembers trace kept entries
  pub notes : RemembersNotes trace kept entries
  pub high : IsHigh closed kept entries
  pub within : closed ≤ length entries

last_at : {X : Type 0} (es : List X) (n : ℕ) (x : X) → length es ≡ suc n → slice_get es n ≡ Some x
    → es ≡ take n es ++ x ∷ []
last_at [] n x long last = absurd (omega arith)
last_at {X} (e ∷ []) zero x long last = let same : e ≡ x = cc in ap (λ (y : X). y ∷ []) same
last_at (e ∷ (f ∷ es)) zero x long last = absurd (omega arith)
last_at (e ∷ es) (suc n) x long last = ap (λ fs. e ∷ fs) (last_at es n x (omega arith) last)

module _ {D : Type 0} where
  -- the last entry that may be dropped

  last_open : (closed : ℕ) (entries : List (ArtifactFacts D)) → may_drop closed entries ≡ true
      → (closed < length entries)
      × ((e : ArtifactFacts D) × (entries ≡ take (length entries - 1) entries ++ e ∷ []) × (is_vote e ≡ false))
  unfolding may_drop
  last_open closed entries may =
      let parts = and_parts (nat_lt closed (length entries)) _ may in
      let more : closed < length entries = ltb-true closed (length entries) parts.0 in
      (more, by_last (slice_get entries (length entries - 1)) refl (not_true _ parts.1) more)
    where
      by_last : (o : Option (ArtifactFacts D)) → slice_get entries (length entries - 1) ≡ o
          → option_map_or is_vote o true ≡ false → closed < length entries
          → (e : ArtifactFacts D) × (entries ≡ take (length entries - 1) entries ++ e ∷ []) × (is_vote e ≡ false)
      by_last None is no_vote more = absurd (false≢true (sym no_vote))
      by_last (Some e) is no_vote more = (e, last_at entries (length entries - 1) e (omega arith) is, no_vote)

  drops : (closed n : ℕ) (entries : List (ArtifactFacts D)) → closed ≤ length entries
      → (tail : List (ArtifactFacts D)) × (entries ≡ without_last closed n entries ++ tail)
      × ((e : ArtifactFacts D) → Contains tail e → is_vote e ≡ false)
      × (closed ≤ length (without_last closed n entries))
  drops closed zero entries within = ([], sym (append-nil entries), λ e h. absurd (omega (arith, h.1)), within)
  drops closed (suc n) entries within = elim (cases_Bool (may_drop closed entries)) [
    | inr stays ↦ rw (none_dropped closed (suc n) entries stays)
        ([], sym (append-nil entries), λ e h. absurd (omega (arith, h.1)), within)
    | inl falls ↦
        (let open_last = last_open closed entries falls in
        let last = open_last.1.0 in
        let shorter = take (length entries - 1) entries in
        let long : length entries ≡ length shorter + 1 = ap length open_last.1.1 ∙ length-append shorter (last ∷ []) in
        let more = open_last.0 in
        let rest = drops closed n shorter (omega arith) in
        let joined : entries ≡ without_last closed n shorter ++ (rest.0 ++ last ∷ []) = open_last.1.1
        ∙ (ap (λ es. es ++ last ∷ []) rest.1 ∙ append_assoc (without_last closed n shorter) rest.0 (last ∷ [])) in
        let no_votes : (e : ArtifactFacts D) → Contains (rest.0 ++ last ∷ []) e → is_vote e ≡ false =
        λ e h. elim (Contains-push_cases rest.0 last e h)
        [ inl old ↦ rest.2 e old | inr new ↦ ap is_vote (sym new) ∙ open_last.1.2 ] in
        let fewer : without_last closed n shorter ≡ without_last closed (suc n) entries = rw falls refl in
        subst (λ left. (tail : List (ArtifactFacts D)) × (entries ≡ left ++ tail)
        × ((e : ArtifactFacts D) → Contains tail e → is_vote e ≡ false) × (closed ≤ length left)) fewer
        (rest.0 ++ last ∷ [], joined, no_votes, rest.3))
  ]

  high_left : (closed kept : ℕ) (entries left tail : List (ArtifactFacts D)) → entries ≡ left ++ tail
      → closed ≤ length left → IsHigh closed kept entries → IsHigh closed kept left
  high_left closed kept entries left tail split within (inl none) = inl none
  high_left closed kept entries left tail split within (inr (c, front, back, is, early, above)) =
      elim (append_split left tail front back (Accepted (Finalized c)) (sym split ∙ is)) [
        | inl here ↦ inr (c, front, here.0, here.1, early, above)
        | inr late ↦ absurd (let long = ap length late.1 ∙ length-append left late.0 in omega arith)
      ]

  -- the highest finalized view

  by_kind : (e : ArtifactFacts D) → (finalized_by e ≡ 0)
      ⊎ ((c : ProposalFacts D) × (e ≡ Accepted (Finalized c)) × (c.proposal.round.view ≡ finalized_by e))
  by_kind (Accepted (Finalized c)) = inr (c, refl, refl)
  by_kind (Accepted _) = inl refl
  by_kind _ = inl refl

  pub is_highest : (entries : List (ArtifactFacts D)) (c : ProposalFacts D) → Contains entries (Accepted (Finalized c))
      → c.proposal.round.view ≤ finalized_in entries
  is_highest [] c h = absurd (omega (arith, h.1))
  is_highest (e ∷ rest) c h = elim (Contains-cases e rest (Accepted (Finalized c)) h) [
    | inl here ↦ (let same : finalized_by e ≡ c.proposal.round.view = ap finalized_by here in omega arith)
    | inr later ↦ (let below = is_highest rest c later in omega arith)
  ]

  pub has_highest : (entries : List (ArtifactFacts D))
      → (finalized_in entries ≡ 0) ⊎ ((c : ProposalFacts D) × Contains entries (Accepted (Finalized c))
      × (c.proposal.round.view ≡ finalized_in entries))
  has_highest [] = inl refl
  has_highest (e ∷ rest) = elim (cases_lt (finalized_in rest) (finalized_by e)) [
    | inl first ↦ elim (by_kind e) [
      | inl none ↦ absurd (omega arith)
      | inr c ↦ inr (c.0, (0, omega arith, c.1), omega (arith, c.2))
    ]
    | inr later ↦ elim (has_highest rest) [
      | inl none ↦ inl (omega arith)
      | inr c ↦ inr (c.0, Contains-cons_rest e rest (Accepted (Finalized c.0)) c.1, omega (arith, c.2))
    ]
  ]

  high_below : (closed kept : ℕ) (entries : List (ArtifactFacts D)) → IsHigh closed kept entries
      → kept ≤ finalized_in entries
  high_below closed kept entries (inl none) = omega arith
  high_below closed kept entries (inr (c, front, back, is, early, above)) =
      let here = is_highest entries c (subst (λ es. Contains es (Accepted (Finalized c))) (sym is)
      (Contains-middle front back (Accepted (Finalized c)))) in
      omega arith

  pub high_known : (closed kept : ℕ) (entries : List (ArtifactFacts D)) → IsHigh closed kept entries
      → (kept ≡ 0)
      ⊎ ((c : ProposalFacts D) × Contains entries (Accepted (Finalized c)) × (kept ≤ c.proposal.round.view))
  high_known closed kept entries (inl none) = inl none
  high_known closed kept entries (inr (c, front, back, is, early, above)) =
      inr (
        c,
        subst (λ es. Contains es (Accepted (Finalized c))) (sym is)
            (Contains-middle front back (Accepted (Finalized c))),
        above,
      )

module _ {D : Type 0} (term_length : ℕ) (trace : List (TraceEvent D)) (closed kept : ℕ)
    (entries : List (ArtifactFacts D)) (between : Between term_length trace closed kept entries) where
  -- a drop
  pub dropped_between : (n : ℕ) → Between term_length trace closed kept (without_last closed n entries)
  dropped_between n =
      let left = without_last closed n entries in
      let falls = drops closed n entries between.within in
      record {
        lawful = between.lawful;
        remembers = left_remembers trace kept entries between.remembers left falls.0 falls.1 falls.2;
        notes = notes_left trace kept entries between.notes left falls.0 falls.1 falls.2;
        high = high_left closed kept entries left falls.0 falls.1 falls.3 between.high;
        within = falls.3;
      }

  -- entries of some views are taken, all below a bound that is no higher than the highest finalized view, and the rest
  -- is closed
  pub bounded_between : (stays : ℕ → Bool) (bound : ℕ) → ((v : ℕ) → bound ≤ v → stays v ≡ true)
      → bound ≤ finalized_in entries → Between term_length trace (length (filter (λ e. stays (entry_view e)) entries))
      (max kept bound) (filter (λ e. stays (entry_view e)) entries)
  bounded_between stays bound above low =
      let left = filter (λ e. stays (entry_view e)) entries in
      let most : kept ≤ finalized_in entries = high_below closed kept entries between.high in
      record {
        lawful = between.lawful;
        remembers = bounded_remembers trace kept entries between.remembers stays bound above;
        notes = notes_bounded trace kept entries between.notes stays bound above;
        high = elim (has_highest entries) [
          | inl none ↦ inl (omega arith)
          | inr c ↦
              (let passes : stays c.0.proposal.round.view ≡ true = above c.0.proposal.round.view (omega (arith, c.2)) in
              let parts = Contains-split left (Accepted (Finalized c.0))
              (Contains-filter (λ e. stays (entry_view e)) entries (Accepted (Finalized c.0)) c.1 passes) in
              let long = ap length parts.2 ∙ length-append parts.0 (Accepted (Finalized c.0) ∷ parts.1) in
              inr (c.0, parts.0, parts.1, parts.2, omega (arith, long), omega (arith, c.2)))
        ];
        within = omega arith;
      }

  -- a prune, which closes the remaining entries
  pub pruned_between : (retention : ℕ) → Between term_length trace (length (pruned_entries retention entries))
      (max kept (finalized_in entries - retention)) (pruned_entries retention entries)
  unfolding pruned_entries
  pruned_between retention =
      let bound = finalized_in entries - retention in
      bounded_between (nat_le bound) bound (λ v above. le-leb bound v above) (omega arith)
