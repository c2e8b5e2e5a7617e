-- The standing of a proposal doesn't depend on what was decided on the tracked views, nor on their timeouts.
use Rattle.std.proofs.Common.{◌≡◌, ℕ, zero, suc, ◌+◌, Bool, ◌||◌, cond, List, [], ◌∷◌, length, Option, Some, None, refl, ap, ◌∙◌}
use Rattle.std.specs.Prelude.{map as map_list, option_map, option_and_then, ◌==◌}
use Rattle.std.specs.Option.{option_map_or}
use Rattle.std.specs.List.{list_any}
use Rattle.simplex_types.specs.Window.{issuance_floor}
use Rattle.simplex_types.specs.declared.types.messages.Proposal.{Proposal}
use Rattle.simplex_round.specs.declared.round.Decision.TheVariants.{Pending}
use Rattle.simplex_round.specs.declared.round.Leader.{Leader}
use Rattle.simplex_round.specs.Round.{RoundFacts, pending_proposal}
use Rattle.simplex_types.specs.declared.reasons.Kind.TheVariants.{Nullification}
use Rattle.simplex_voter.specs.declared.voter.verify.Standing.TheVariants.{NothingToDo, Invalid}
use Rattle.simplex_voter.specs.Facts.{StateFacts, Elect, round_at}
use Rattle.simplex_voter.specs.Gaps.{first_unnullified_view}
use Rattle.simplex_voter.specs.Windows.{is_open, in_issuance_window, is_admitted}
use Rattle.simplex_voter.specs.Payloads.{certified_payload, has_failed_optimistic_ancestry, explicit_ancestry_payload, is_handoff_parent, is_voted_ancestor, can_chain_on, voted_payload, served_payload, payload_by, payload_within, optimistic_ancestry_payload}
use Rattle.simplex_voter.specs.Parents.{has_valid_parent_span, ancestry_payload_for_child}
use Rattle.simplex_voter.specs.Verification.{fetch_once, payload_standing, parent_standing, standing}
use Rattle.simplex_voter.proofs.Walked.{find-changed}

module _ {K D : Type 0} where
  -- a round without its decision and its timeouts
  abbrev pub undecided : RoundFacts K D → RoundFacts K D
  undecided r = record r { decision = Pending None None None }

  abbrev pub undecided_rounds : List (ℕ × RoundFacts K D) → List (ℕ × RoundFacts K D)
  undecided_rounds es = map_list (λ e. (e.0, undecided e.1)) es

  any_undecided : (test : ℕ × RoundFacts K D → Bool) → ((e : ℕ × RoundFacts K D) → test (e.0, undecided e.1) ≡ test e)
      → (es : List (ℕ × RoundFacts K D)) → list_any test (undecided_rounds es) ≡ list_any test es
  any_undecided test alike [] = refl
  any_undecided test alike (e ∷ es) = rw (alike e, any_undecided test alike es) refl

  length-undecided : (es : List (ℕ × RoundFacts K D)) → length (undecided_rounds es) ≡ length es
  length-undecided [] = refl
  length-undecided (e ∷ es) = ap suc (length-undecided es)

module _ {K L D : Type 0} (x : StateFacts K L D) where
  -- the facts without what was decided
  abbrev pub open_facts : StateFacts K L D
  open_facts = record x { rounds = undecided_rounds x.rounds }

  open_window : (v : ℕ) → in_issuance_window open_facts v ≡ in_issuance_window x v
  unfolding in_issuance_window
  open_window v = by_floor (issuance_floor x.terms.term_length x.terms.optimistic_views v)
    where
      by_floor : (o : Option ℕ) → is_open open_facts v o ≡ is_open x v o
      by_floor None = refl
      by_floor (Some floor) = ap (λ b. (floor == 0) || b) (any_undecided _ (λ e. refl) x.rounds)

  open_failed : (v : ℕ) → has_failed_optimistic_ancestry open_facts v ≡ has_failed_optimistic_ancestry x v
  open_failed v = any_undecided _ (λ e. refl) x.rounds

  open_found : (v : ℕ) → round_at open_facts v ≡ option_map undecided (round_at x v)
  open_found v = find-changed (λ u r. undecided r) v x.rounds

  open_explicit : (v : ℕ) → explicit_ancestry_payload open_facts v ≡ explicit_ancestry_payload x v
  unfolding explicit_ancestry_payload
  open_explicit v = rw (open_found v) (ap (cond (v == 0) x.genesis) (by_found (round_at x v)))
    where
      by_found : (o : Option (RoundFacts K D))
          → option_and_then certified_payload (option_map undecided o) ≡ option_and_then certified_payload o
      by_found None = refl
      by_found (Some r) = refl

  module _ (elect : Elect L) where
    open_handoff : (v : ℕ) → is_handoff_parent elect open_facts v ≡ is_handoff_parent elect x v
    unfolding is_handoff_parent
    open_handoff v = refl

    open_serves : (v : ℕ) (r : RoundFacts K D)
        → is_voted_ancestor elect open_facts v (undecided r) ≡ is_voted_ancestor elect x v r
    unfolding is_voted_ancestor
    open_serves v r = rw (open_window (v + 1), open_handoff v) refl

  open_follows : (v p : ℕ) → can_chain_on open_facts v p ≡ can_chain_on x v p
  unfolding can_chain_on first_unnullified_view
  open_follows v p = refl

module _ {K L D : Type 0} (same : D → D → Bool) (elect : Elect L) (x : StateFacts K L D) where
  module _ (f g : ℕ → Option D) (alike : (p : ℕ) → f p ≡ g p) where
    open_voted : (v : ℕ) (r : RoundFacts K D) (p : Proposal D)
        → voted_payload same elect (open_facts x) f v (undecided r) p ≡ voted_payload same elect x g v r p
    open_voted v r p = rw (open_follows x v p.parent, alike p.parent) refl

    open_held : (v : ℕ) (r : RoundFacts K D) (held : Option (Proposal D))
        → option_and_then (voted_payload same elect (open_facts x) f v (undecided r)) held ≡ option_and_then
        (voted_payload same elect x g v r) held
    open_held v r None = refl
    open_held v r (Some p) = open_voted v r p

    open_served : (v : ℕ) (r : RoundFacts K D)
        → served_payload same elect (open_facts x) f v (undecided r) ≡ served_payload same elect x g v r
    open_served v r = rw (open_failed x v, open_serves x elect v r, open_held v r r.slot.held) refl

    open_by : (v : ℕ) → payload_by same elect (open_facts x) f v ≡ payload_by same elect x g v
    open_by v = rw (open_found x v) (ap (cond (v == 0) x.genesis) (by_found (round_at x v)))
      where
        by_found : (o : Option (RoundFacts K D))
            → option_and_then (served_payload same elect (open_facts x) f v) (option_map undecided o) ≡ option_and_then
            (served_payload same elect x g v) o
        by_found None = refl
        by_found (Some r) = open_served v r

  open_within : (steps v : ℕ) → payload_within same elect (open_facts x) steps v ≡ payload_within same elect x steps v
  open_within zero v = refl
  open_within (suc steps) v = open_by (payload_within same elect (open_facts x) steps)
      (payload_within same elect x steps) (open_within steps) v

  open_payload : (v : ℕ) → optimistic_ancestry_payload same elect (open_facts x) v ≡ optimistic_ancestry_payload same
      elect x v
  unfolding optimistic_ancestry_payload
  open_payload v = ap (λ n. payload_within same elect (open_facts x) (suc n) v) (length-undecided x.rounds)
      ∙ open_within (suc (length x.rounds)) v

  open_payload_for : (v p : ℕ) → ancestry_payload_for_child same elect (open_facts x) v p ≡ ancestry_payload_for_child
      same elect x v p
  unfolding ancestry_payload_for_child
  open_payload_for v p = rw (open_window x v, open_payload p, open_explicit x p) refl

  open_payload_standing : (v : ℕ) (r : RoundFacts K D) (p : ℕ)
      → payload_standing same elect (open_facts x) v r p ≡ payload_standing same elect x v r p
  open_payload_standing v r p = rw (open_payload_for v p, open_window x v) refl

  open_parent_standing : (v : ℕ) (r : RoundFacts K D) (p : ℕ)
      → parent_standing same elect (open_facts x) v r p ≡ parent_standing same elect x v r p
  unfolding has_valid_parent_span first_unnullified_view
  open_parent_standing v r p = ap (λ s. cond (has_valid_parent_span x v p)
      (option_map_or (λ w. fetch_once r w Nullification) (first_unnullified_view x p v) s) Invalid)
      (open_payload_standing v r p)

  -- the standing of a proposal is the same without what was decided
  pub open_standing : (e : ℕ × RoundFacts K D) → standing same elect (open_facts x) e ≡ standing same elect x e
  unfolding standing is_admitted
  open_standing e = ap (λ s. cond (is_admitted x e.0) s NothingToDo) (by_pending (pending_proposal e.1))
    where
      by_pending : (o : Option (Leader K × Proposal D))
          → option_map_or (λ found. parent_standing same elect (open_facts x) e.0 e.1 found.1.parent) o
          NothingToDo ≡ option_map_or (λ found. parent_standing same elect x e.0 e.1 found.1.parent) o NothingToDo
      by_pending None = refl
      by_pending (Some found) = open_parent_standing e.0 e.1 found.1.parent
