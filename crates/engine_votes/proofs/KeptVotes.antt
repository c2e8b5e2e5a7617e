-- Votes that are left once some are forgotten.
use Rattle.std.proofs.Common.{◌≡◌, ℕ, ◌≤◌, Bool, true, false, cond, leb, [], Option, Some, None, Vec, refl, ap, sym, ◌∙◌}
use Rattle.std.specs.FinMap as map
use Rattle.std.specs.Option.{option_map_or}
use Rattle.std.specs.Ordering.{nat_cmp}
use Rattle.std.specs.declared.alloc.Global.{Global}
use Rattle.std.proofs.lemmas.Bool.{leb-true}
use Rattle.simplex_view_maps.proofs.Maps.{get-kept}
use Rattle.simplex_view_maps.specs.Tracked.{at_or_above}
use Rattle.engine_votes.specs.declared.batcher.Batcher.{Batcher}
use Rattle.engine_votes.specs.declared.batcher.poll.Ballot.{Ballot}
use Rattle.engine_votes.specs.Polls.{ballot_of, slots_at}
use Rattle.engine_votes.specs.StoredVotes.{Kind, Notarizes, Nullifies, Finalizes, held, HoldsFrom, HoldsNoOther, IsForgotten}

-- what is left is of views that are not below, and was stored
left_from : {D G : Type 0} (polls : map.FinMap nat_cmp (Vec (Option (Ballot D G)) Global)) (lowest view member : ℕ)
    (ballot : Ballot D G)
    → ballot_of (slots_at (at_or_above polls lowest) view) member ≡ Some ballot
    → (lowest ≤ view) × (ballot_of (slots_at polls view) member ≡ Some ballot)
left_from {D} {G} polls lowest view member ballot is = by_test (leb lowest view) refl
  where
    found : (t : Bool) → leb lowest view ≡ t
        → ballot_of (option_map_or (λ slots. slots.items) (cond t (map.get polls view) None) []) member ≡ Some ballot
    found t e =
        sym (ap (λ found. ballot_of (option_map_or (λ slots. slots.items) found []) member)
        (get-kept polls (leb lowest) view ∙ ap (λ b. cond b (map.get polls view) None) e)) ∙ is

    none_is : ballot_of {D = D} {G = G} [] member ≡ Some ballot → ⊥
    none_is e = cc

    by_test : (t : Bool) → leb lowest view ≡ t
        → (lowest ≤ view) × (ballot_of (slots_at polls view) member ≡ Some ballot)
    by_test true e = (leb-true lowest view e, found true e)
    by_test false e = absurd (none_is (found false e))

module _ {S D K G C : Type 0} (old new : Batcher S D K G C) (lowest : ℕ) (gone : IsForgotten lowest old new) where
  left : (kind : Kind) (view member : ℕ) (ballot : Ballot D G) → ballot_of (held new kind view) member ≡ Some ballot
      → (lowest ≤ view) × (ballot_of (held old kind view) member ≡ Some ballot)
  left Notarizes view member ballot is = left_from old.notarize lowest view member ballot
      (ap (λ polls. ballot_of (slots_at polls view) member) (sym gone.0) ∙ is)
  left Nullifies view member ballot is = left_from old.nullify lowest view member ballot
      (ap (λ polls. ballot_of (slots_at polls view) member) (sym gone.1) ∙ is)
  left Finalizes view member ballot is = left_from old.finalize lowest view member ballot
      (ap (λ polls. ballot_of (slots_at polls view) member) (sym gone.2) ∙ is)

  -- once some are forgotten
  pub forgotten_other : HoldsNoOther old new
  forgotten_other kind view member ballot is = (left kind view member ballot is).1

  pub forgotten_from : HoldsFrom lowest new
  forgotten_from kind view member ballot is = (left kind view member ballot is).0
