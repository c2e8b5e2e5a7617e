-- A record by view, and the finalization that is recorded.
use Rattle.std.proofs.Common.{◌≡◌, refl, sym, ap, ◌∙◌, ℕ, ◌+◌, ◌<◌, drop, Bool, true, false, ◌&&◌, not, List, [], ◌∷◌, ◌++◌, filter, length, Option, Some, None, option_map, arith, get_or, ◌⊎◌, inl, inr}
use Rattle.std.specs.Prelude.{◌==◌, min, Result, Ok, Err, IfOk, IfErr, OnOk}
use Rattle.std.specs.List.Sorted.{IsNonDecreasingBy, IsStableByKey, ties}
use Rattle.std.specs.Ordering.{is_lt, nat_cmp}
use Rattle.std.proofs.lemmas.Bool.Decides.{nat_tests}
use Rattle.std.proofs.lemmas.List.{get_or-map, length-map}
use Rattle.simplex_types.specs.MessageViews.{artifact_view}
use Rattle.simplex_types.specs.Certificates.{ArtifactFacts, Accepted, Finalized, artifact_facts, finalization_facts}
use Rattle.simplex_types.specs.declared.types.messages.Artifact.{Artifact}
use Rattle.simplex_types.specs.declared.types.messages.Artifact.TheVariants as artifact
use Rattle.simplex_types.specs.declared.types.messages.Finalization.{Finalization}
use Rattle.simplex_record.specs.declared.record.error.RecoverError.{RecoverError}
use Rattle.simplex_record.specs.declared.record.error.RecoverError.TheVariants as error
use Rattle.simplex_record.specs.Check.{stands}
use Rattle.simplex_record.specs.Entries.{entries_of, entry_view}
use Rattle.simplex_voter.specs.Facts.{StateFacts, Elect}
use Rattle.simplex_member.specs.OutstandingWork.{no_outstanding_work}
use Rattle.simplex_member.specs.MemberFacts.{MemberFacts, without_lifetime}
use Rattle.simplex_member.specs.RestartedStates.{IsRefusedBy, IsRemadeBy}
use Rattle.simplex_record.specs.Recovery.{recover_error, is_finalization_entry, with_finalization_entry, with_floor}
use Rattle.simplex_member.specs.Restarts.{IsByView, RecoversByView}
use Rattle.simplex_record.specs.Start.{StartFacts, IsErrorDue, new_state}
use Rattle.simplex_record.proofs.CheckState.{entries_from, view_of_entry}

view_ties : (v w : ℕ) → (not (is_lt (nat_cmp v w)) && not (is_lt (nat_cmp w v))) ≡ (w == v)
view_ties v w = grind (arith, nat_tests)

-- an artifact of a view, to compare others with
abbrev of_view : {S D K G C : Type 0} → ℕ → Artifact S D K G C
of_view v = artifact.Certification (record { epoch = 0; view = v }) true

module _ {S D K G C : Type 0} (bytes_of : C → List ℕ) where
  -- the entries of a view are its artifacts'
  at_view : (v : ℕ) (items : List (Artifact S D K G C))
      → filter (λ e. entry_view e == v) (entries_of bytes_of items) ≡ entries_of bytes_of
      (filter (ties (λ x y. is_lt (nat_cmp (artifact_view x) (artifact_view y))) (of_view v)) items)
  at_view v [] = refl
  at_view v (a ∷ items) = passes (at_view v items) _ refl
    where
      passes : filter (λ e. entry_view e == v) (entries_of bytes_of items) ≡ entries_of bytes_of
          (filter (ties (λ x y. is_lt (nat_cmp (artifact_view x) (artifact_view y))) (of_view v)) items)
          → (b : Bool) → (artifact_view a == v) ≡ b
          → filter (λ e. entry_view e == v) (entries_of bytes_of (a ∷ items)) ≡ entries_of bytes_of
          (filter (ties (λ x y. is_lt (nat_cmp (artifact_view x) (artifact_view y))) (of_view v)) (a ∷ items))
      passes rest true is = rw (← view_of_entry bytes_of a, view_ties v (artifact_view a), is, rest) refl
      passes rest false is = rw (← view_of_entry bytes_of a, view_ties v (artifact_view a), is, rest) refl

  -- views that rise in the artifacts rise in the entries
  rising_entries : (items : List (Artifact S D K G C)) → IsNonDecreasingBy artifact_view items
      → IsNonDecreasingBy entry_view (entries_of bytes_of items)
  rising_entries items rising i j d low within =
      let most : length (entries_of bytes_of items) ≡ length items = length-map items (artifact_facts bytes_of) in
      let some = of_view 0 in
      let at_i : entry_view (get_or (entries_of bytes_of items) i d) ≡ artifact_view (get_or items i some) =
      ap entry_view (get_or-map (artifact_facts bytes_of) items i some d (omega (arith, most)))
      ∙ sym (view_of_entry bytes_of (get_or items i some)) in
      let at_j : entry_view (get_or (entries_of bytes_of items) j d) ≡ artifact_view (get_or items j some) =
      ap entry_view (get_or-map (artifact_facts bytes_of) items j some d (omega (arith, most)))
      ∙ sym (view_of_entry bytes_of (get_or items j some)) in
      rw (at_i, at_j) (rising i j some low (omega (arith, most)))

  -- a stable sort of a copy by view
  pub sorted_copy : (items copy sorted : List (Artifact S D K G C))
      → entries_of bytes_of copy ≡ entries_of bytes_of items → IsNonDecreasingBy artifact_view sorted
      → IsStableByKey artifact_view nat_cmp copy sorted
      → IsByView (entries_of bytes_of items) (entries_of bytes_of sorted)
  sorted_copy items copy sorted copied rising stable = record {
    rising = rising_entries sorted rising;
    of_each_view = λ v. at_view v sorted ∙ ap (entries_of bytes_of) (stable (of_view v)) ∙ sym (at_view v copy)
        ∙ ap (filter (λ e. entry_view e == v)) copied;
  }

  -- whether there is a finalization of a view from a place on: it is the next artifact, or else a later one
  pub stands_here : (v : ℕ) (items : List (Artifact S D K G C)) (i : ℕ) (a : Artifact S D K G C) → a ≡ get_or items i a
      → i < length items
      → (entry_view (artifact_facts bytes_of a) == v && is_finalization_entry (artifact_facts bytes_of a)) ≡ true
      → stands v is_finalization_entry (entries_of bytes_of (drop i items)) ≡ true
  stands_here v items i a is within here = rw (entries_from bytes_of items i a is within, here) refl

  pub stands_behind : (v : ℕ) (items : List (Artifact S D K G C)) (i : ℕ) (a : Artifact S D K G C)
      → a ≡ get_or items i a → i < length items
      → (entry_view (artifact_facts bytes_of a) == v && is_finalization_entry (artifact_facts bytes_of a)) ≡ false
      → stands v is_finalization_entry (entries_of bytes_of (drop i items)) ≡ stands v is_finalization_entry
      (entries_of bytes_of (drop (i + 1) items))
  stands_behind v items i a is within other = rw (entries_from bytes_of items i a is within, other) refl

  -- a finalization whose view is finalized in the record
  pub recorded_before : (entries : List (ArtifactFacts D)) (o : Option (Finalization S D K G C))
      (f : Finalization S D K G C) → o ≡ Some f → stands f.proposal.round.view is_finalization_entry entries ≡ true
      → entries ≡ with_finalization_entry entries (option_map (finalization_facts bytes_of) o)
  recorded_before entries o f is found = rw (is, found) refl

  pub recorded_now : (entries : List (ArtifactFacts D)) (o : Option (Finalization S D K G C))
      (f : Finalization S D K G C) → o ≡ Some f → stands f.proposal.round.view is_finalization_entry entries ≡ false
      → entries ++ Accepted (Finalized (finalization_facts bytes_of f)) ∷ [] ≡ with_finalization_entry entries
      (option_map (finalization_facts bytes_of) o)
  recorded_now entries o f is none = rw (is, none) refl

-- an error for a copy of the record by view, or out of memory
pub refused_by : {K L D : Type 0} (same : D → D → Bool) (start : StartFacts K L D)
    (entries copy : List (ArtifactFacts D)) (found : RecoverError) → IsByView entries copy
    → IsErrorDue (recover_error same (new_state start.setup) start.floor start.now copy) found
    → (found ≡ error.OutOfMemory) ⊎ IsRefusedBy same start entries found
refused_by same start entries copy found by_view due =
    replied (recover_error same (new_state start.setup) start.floor start.now copy) refl due
  where
    replied : (due : Option RecoverError) → recover_error same (new_state start.setup) start.floor start.now copy ≡ due
        → IsErrorDue due found → (found ≡ error.OutOfMemory) ⊎ IsRefusedBy same start entries found
    replied None is memory = inl memory
    replied (Some e) is same_error = inr (copy, by_view, is ∙ ap Some (sym same_error))

module _ {K L D : Type 0} (same : D → D → Bool) (elect : Elect L) (m : MemberFacts K L D)
    (start : StartFacts K L D) where
  -- a member whose new state is refused
  pub not_gone_on : (found : RecoverError) → (found ≡ error.OutOfMemory) ⊎ IsRefusedBy same start m.entries found
      → RecoversByView same elect m start (Err found) (without_lifetime m)
  not_gone_on found (inl memory) = inl (ap Err memory, refl)
  not_gone_on found (inr (copy, by_view, due)) = inr (copy, by_view, rw due (refl, refl))

  -- one whose new state is made
  pub gone_on : (x : StateFacts K L D) (entries : List (ArtifactFacts D)) → IsRemadeBy same elect start m.entries x
      → entries ≡ with_floor m.entries start.floor
      → RecoversByView same elect m start (Ok tt)
      (record m {
        life = Some x;
        outstanding_work = no_outstanding_work;
        entries = entries;
        retention = start.setup.settings.view_retention;
        least_retention = min m.least_retention start.setup.settings.view_retention;
      })
  gone_on x entries (copy, by_view, accepted, is) kept = inr (copy, by_view, rw (accepted, is, kept) (refl, refl))

-- a claim about a value that is there, besides what holds if there is one
pub of_value : {T E A : Type 0} (P Q : T → Type 0) (r : Result T E) → IfOk r P → OnOk r A → ((t : T) → P t → A → Q t)
    → IfOk r Q
of_value P Q (Ok t) is holds so = so t is holds
of_value P Q (Err e) is holds so = tt

pub of_error : {T E : Type 0} (P Q : E → Type 0) (r : Result T E) → IfErr r P → ((e : E) → P e → Q e) → IfErr r Q
of_error P Q (Ok t) is so = tt
of_error P Q (Err e) is so = so e is
