-- The views in which a member may work now.
use Rattle.std.specs.Prelude.{ℕ, ◌-◌, Bool, false, ◌&&◌, ◌||◌, ◌==◌, nat_le, nat_lt, max, Option, Some, None, is_some}
use Rattle.std.specs.List.{list_any}
use Rattle.simplex_types.specs.Terms.{term_start, term_end, next_term_start}
use Rattle.simplex_types.specs.Window.{issuance_floor}
use Rattle.simplex_types.specs.declared.types.window.Viewport.{Viewport}
use Rattle.simplex_round.specs.Round.{RoundFacts, signs_as}
use Rattle.simplex_voter.specs.Facts.{StateFacts}

-- not above the current view; or near it in its term; or near it at the next term's start
abbrev pub admits_outbound : (length optimistic current view : ℕ) → Bool
admits_outbound length optimistic current view =
    (nat_le 1 view && nat_le view current)
    || (nat_lt current view && nat_le view (term_end length current) && nat_le (view - current) optimistic)
    || (view == next_term_start length current && nat_le (view - current) (max 1 optimistic))

-- the view has a certificate of a proposal
abbrev pub is_notarized : {K D : Type 0} → RoundFacts K D → Bool
is_notarized r = is_some r.notarization || is_some r.finalization

module _ {K L D : Type 0} where
  -- the scheme signs as this member
  abbrev pub is_me : StateFacts K L D → ℕ → Bool
  is_me x member = signs_as x.me member

  -- the view starts a term
  abbrev pub is_term_start : StateFacts K L D → ℕ → Bool
  is_term_start x v = v == term_start x.terms.term_length v

  -- this member may send a vote for the view
  unfoldable pub is_admitted : StateFacts K L D → ℕ → Bool
  is_admitted x v = admits_outbound x.terms.term_length x.terms.optimistic_views x.current v

  -- from the floor on and below the view, there is genesis or a notarized or finalized view
  abbrev pub is_open : StateFacts K L D → ℕ → Option ℕ → Bool
  is_open x v None = false
  is_open x v (Some floor) = floor == 0 || list_any (λ e. nat_le floor e.0 && nat_lt e.0 v && is_notarized e.1) x.rounds

  -- the view may build on a parent that is not certified yet, since one not far below it in its term is notarized
  unfoldable pub in_issuance_window : StateFacts K L D → ℕ → Bool
  in_issuance_window x v = is_open x v (issuance_floor x.terms.term_length x.terms.optimistic_views v)

  -- the retained views
  abbrev pub viewport : StateFacts K L D → Viewport
  viewport x = record {
    finalized = x.finalized;
    current = x.current;
    view_retention = x.settings.view_retention;
    lookahead = record { term_length = x.terms.term_length; optimistic_views = x.terms.optimistic_views };
  }

  -- the lowest retained view
  abbrev pub min_active : StateFacts K L D → ℕ
  min_active x = x.finalized - x.settings.view_retention

  -- a certificate of the view is accepted
  abbrev pub admits_certificate : StateFacts K L D → ℕ → Bool
  admits_certificate x v = nat_le 1 v && nat_le (min_active x) v

  -- a vote is accepted too, up to the first view of the next term
  abbrev pub admits_vote : StateFacts K L D → ℕ → Bool
  admits_vote x v = admits_certificate x v && nat_le v (next_term_start x.terms.term_length x.current)
