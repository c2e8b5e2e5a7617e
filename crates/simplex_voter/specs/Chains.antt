-- The ground of a view's payload, before the view is certified.
use Rattle.std.specs.Prelude.{ℕ, ◌==◌, Option, Some, None, option_map, option_and_then, if◌then◌else◌}
use Rattle.simplex_types.specs.declared.types.messages.Proposal.{Proposal}
use Rattle.simplex_round.specs.Round.{RoundFacts, certificate_payload}
use Rattle.simplex_voter.specs.declared.voter.chains.Basis.{Basis}
use Rattle.simplex_voter.specs.declared.voter.chains.Basis.TheVariants.{Certain, Vote}
use Rattle.simplex_voter.specs.Facts.{StateFacts, Elect, round_at}
use Rattle.simplex_voter.specs.Windows.{is_notarized}
use Rattle.simplex_voter.specs.Payloads.{has_failed_optimistic_ancestry, is_voted_ancestor, can_chain_on}

-- the payload that is offered, if all that it rests on holds
abbrev pub payload_of : {D : Type 0} → Basis D → D
payload_of (Certain d) = d
payload_of (Vote p bound) = p.payload

-- the payload of the view's certificate, unless its term has a rejection up to it
abbrev pub unrefused_payload : {K L D : Type 0} → StateFacts K L D → ℕ → RoundFacts K D → Option D
unrefused_payload x v r = if has_failed_optimistic_ancestry x v then None else certificate_payload r

module _ {K L D : Type 0} (elect : Elect L) where
  -- the proposal that was voted for, if it may serve and builds on its parent
  abbrev pub served_proposal : StateFacts K L D → ℕ → RoundFacts K D → Option (Proposal D)
  served_proposal x v r =
      if is_voted_ancestor elect x v r
      then option_and_then (λ p. if can_chain_on x v p.parent then Some p else None) r.slot.held else None

  -- the ground of a tracked view's payload: its certificate, or the vote for its proposal with the payload that was
  -- bound
  abbrev pub basis_of : StateFacts K L D → ℕ → RoundFacts K D → Option (Basis D)
  basis_of x v r =
      if is_notarized r
      then option_map (λ d. Certain d) (unrefused_payload x v r)
      else option_map (λ p. Vote p (option_map (λ bound. bound.1) r.binding)) (served_proposal x v r)

  -- genesis' payload or that of a certificate, or the vote that the view's payload rests on
  abbrev pub basis_at : StateFacts K L D → ℕ → Option (Basis D)
  basis_at x v =
      if v == 0 then option_map (λ d. Certain d) x.genesis else option_and_then (basis_of x v) (round_at x v)
