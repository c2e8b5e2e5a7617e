-- Polls of views: what is stored after one is opened or changed.
use Rattle.std.proofs.Common.{◌≡◌, ◌≢◌, ℕ, Bool, true, false, cond, eqb, List, [], Option, Some, None, Ok, is_some, Vec, refl, ap, sym, ◌∙◌}
use Rattle.std.specs.Ordering.{nat_cmp}
use Rattle.std.specs.Cmp.{nat_cmp_total}
use Rattle.std.specs.FinMap as map
use Rattle.std.specs.Option.{option_map_or}
use Rattle.std.specs.declared.alloc.Global.{Global}
use Rattle.std.proofs.lemmas.Bool.{eq-eqb, ne_eqb, eqb-true, false≢true}
use Rattle.simplex_view_maps.proofs.Maps.{is_eq-nat_cmp}
use Rattle.simplex_view_maps.specs.Tracked.{after_insert}
use Rattle.engine_votes.specs.declared.batcher.poll.Ballot.{Ballot}
use Rattle.engine_votes.specs.Polls.{slots_at}
use Rattle.engine_votes.specs.declared.batcher.Batcher.{Batcher}
use Rattle.engine_votes.specs.StoredVotes.{Notarizes, Nullifies, Finalizes, HoldsNothing}

module _ {V : Type 0} (m : map.FinMap nat_cmp V) (view : ℕ) (x : V) where
  -- what was put in is found
  pub found_there : map.get (map.insert m view x) view ≡ Some x
  found_there = map.get-insert nat_cmp_total m view x view
      ∙ ap (λ b. cond b (Some x) (map.get m view)) (is_eq-nat_cmp view view ∙ eq-eqb view view refl)

  -- and elsewhere what was there
  pub found_elsewhere : (other : ℕ) → other ≢ view → map.get (map.insert m view x) other ≡ map.get m other
  found_elsewhere other apart = map.get-insert nat_cmp_total m view x other
      ∙ ap (λ b. cond b (Some x) (map.get m other)) (is_eq-nat_cmp other view ∙ ne_eqb other view apart)

module _ {D G : Type 0} (polls : map.FinMap nat_cmp (Vec (Option (Ballot D G)) Global)) (view : ℕ)
    (slots : Vec (Option (Ballot D G)) Global) where
  abbrev items_of : Option (Vec (Option (Ballot D G)) Global) → List (Option (Ballot D G))
  items_of found = option_map_or (λ s. s.items) found []

  -- the poll that is put in
  pub slots_there : slots_at (map.insert polls view slots) view ≡ slots.items
  slots_there = ap items_of (found_there polls view slots)

  -- those of other views
  pub slots_elsewhere : (other : ℕ) → other ≢ view → slots_at (map.insert polls view slots) other ≡ slots_at polls other
  slots_elsewhere other apart = ap items_of (found_elsewhere polls view slots other apart)

  -- the poll that is lent
  pub slots_lent : Some slots ≡ map.get polls view → slots.items ≡ slots_at polls view
  slots_lent lent = ap items_of lent

  none_from : (o : Option (Vec (Option (Ballot D G)) Global)) → is_some o ≡ false → items_of o ≡ []
  none_from None e = refl
  none_from (Some s) e = absurd (false≢true (sym e))

  same_by : (other : ℕ) → slots.items ≡ [] → map.contains_key polls view ≡ false → (t : Bool) → eqb other view ≡ t
      → slots_at (map.insert polls view slots) other ≡ slots_at polls other
  same_by other fresh none true e =
      let there = eqb-true other view e in
      ap (slots_at (map.insert polls view slots)) there ∙ slots_there ∙ fresh
      ∙ sym (none_from (map.get polls view) none) ∙ ap (slots_at polls) (sym there)
  same_by other fresh none false e = slots_elsewhere other (λ there. false≢true (sym e ∙ eq-eqb other view there))

  opened_by : (b : Bool) → map.contains_key polls view ≡ b → slots.items ≡ []
      → (back : Option (Vec (Option (Ballot D G)) Global)) → back ≡ cond b (Some slots) None
      → (new : map.FinMap nat_cmp (Vec (Option (Ballot D G)) Global)) → new ≡ after_insert polls view slots (Ok back)
      → (map.contains_key new view ≡ true) × ((other : ℕ) → slots_at new other ≡ slots_at polls other)
  opened_by true has fresh back is new after =
      let same = after ∙ ap (λ b. after_insert polls view slots (Ok b)) is in
      (ap (λ n. map.contains_key n view) same ∙ has, λ other. ap (λ n. slots_at n other) same)
  opened_by false has fresh back is new after =
      let same = after ∙ ap (λ b. after_insert polls view slots (Ok b)) is in (
        ap (λ n. map.contains_key n view) same ∙ ap is_some (found_there polls view slots),
        λ other. ap (λ n. slots_at n other) same ∙ same_by other fresh has (eqb other view) refl,
      )

  -- a poll that is opened
  pub opened : slots.items ≡ [] → (back : Option (Vec (Option (Ballot D G)) Global))
      → back ≡ cond (map.contains_key polls view) (Some slots) None
      → (new : map.FinMap nat_cmp (Vec (Option (Ballot D G)) Global)) → new ≡ after_insert polls view slots (Ok back)
      → (map.contains_key new view ≡ true) × ((other : ℕ) → slots_at new other ≡ slots_at polls other)
  opened fresh back is new after = opened_by (map.contains_key polls view) refl fresh back is new after

-- what is there is not none
pub stands : {V : Type 0} (m : map.FinMap nat_cmp V) (view : ℕ) → map.contains_key m view ≡ true → None ≡ map.get m view
    → ⊥
stands m view has none = false≢true (ap is_some none ∙ has)

module _ {S D K G C : Type 0} (batcher : Batcher S D K G C) where
  none_at : (view : ℕ) → slots_at {D = D} {G = G} map.empty view ≡ []
  none_at view = ap (λ found. option_map_or (λ slots. slots.items) found []) (map.get-empty nat_cmp view)

  -- a batcher without polls holds nothing
  pub nothing_held : batcher.notarize ≡ map.empty → batcher.nullify ≡ map.empty → batcher.finalize ≡ map.empty
      → HoldsNothing batcher
  nothing_held one two three Notarizes view = ap (λ polls. slots_at polls view) one ∙ none_at view
  nothing_held one two three Nullifies view = ap (λ polls. slots_at polls view) two ∙ none_at view
  nothing_held one two three Finalizes view = ap (λ polls. slots_at polls view) three ∙ none_at view
