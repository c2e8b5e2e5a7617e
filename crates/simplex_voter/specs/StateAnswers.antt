-- The certificates that a state returns, its getters, and what it drops.
use Rattle.std.specs.Prelude.{ℕ, ◌-◌, Bool, false, ◌||◌, ◌==◌, nat_lt, nat_le, List, Option, None, is_some, option_map, option_and_then, if◌then◌else◌, map, filter}
use Rattle.std.specs.List.{last_or}
use Rattle.std.specs.Option.{option_or, option_map_or}
use Rattle.simplex_types.specs.Terms.{covers}
use Rattle.simplex_types.specs.Certificates.{ProposalFacts, NullificationFacts, CertificateFacts, Notarized, Nullified, Finalized}
use Rattle.simplex_types.specs.declared.types.messages.Proposal.{Proposal}
use Rattle.simplex_round.specs.Round.{once, forwardable, start_of, elapsed, token_of, is_aborted}
use Rattle.simplex_voter.specs.Facts.{StateFacts, round_at, round_of, with_tracked}
use Rattle.simplex_voter.specs.Windows.{is_term_start, min_active}

module _ {K L D : Type 0} where
  -- the plain getters, of a view that is tracked

  -- the notarization of a view
  abbrev pub notarization_of : StateFacts K L D → ℕ → Option (ProposalFacts D)
  notarization_of x v = option_and_then (λ r. r.notarization) (round_at x v)

  -- its nullification
  abbrev pub nullification_of : StateFacts K L D → ℕ → Option NullificationFacts
  nullification_of x v = option_and_then (λ r. r.nullification) (round_at x v)

  -- its finalization
  abbrev pub finalization_of : StateFacts K L D → ℕ → Option (ProposalFacts D)
  finalization_of x v = option_and_then (λ r. r.finalization) (round_at x v)

  -- its leader's index
  abbrev pub leader_of : StateFacts K L D → ℕ → Option ℕ
  leader_of x v = option_and_then (λ r. option_map (λ l. l.idx) r.leader) (round_at x v)

  -- its proposal, if it may be forwarded to others
  abbrev pub forwardable_of : StateFacts K L D → ℕ → Option (Proposal D)
  forwardable_of x v = option_and_then forwardable (round_at x v)

  -- the token of a certification that is under way
  abbrev pub certify_token_of : StateFacts K L D → ℕ → Option ℕ
  certify_token_of x v = option_and_then (λ r. token_of r.certification) (round_at x v)

  -- its certification was abandoned
  abbrev pub is_certify_aborted : StateFacts K L D → ℕ → Bool
  is_certify_aborted x v = option_map_or (λ r. is_aborted r.certification) (round_at x v) false

  -- in milliseconds, 0 if the moment lies before
  abbrev pub elapsed_since_start : StateFacts K L D → ℕ → ℕ → Option ℕ
  elapsed_since_start x v now = option_and_then (λ r. elapsed now (start_of r)) (round_at x v)

  -- the milliseconds since it was entered
  abbrev pub elapsed_since_entry : StateFacts K L D → ℕ → ℕ → Option ℕ
  elapsed_since_entry x v now = option_and_then (λ r. elapsed now r.entered_at) (round_at x v)

  -- each certificate is returned for broadcast once

  -- `broadcast_notarization`
  abbrev pub broadcast_notarization_answer : StateFacts K L D → ℕ → Option (ProposalFacts D)
  broadcast_notarization_answer x v = option_and_then (λ r. once r.notarization_broadcast r.notarization) (round_at x v)

  -- the notarization of the view, if there is one, counts as broadcast
  abbrev pub after_broadcast_notarization : StateFacts K L D → ℕ → StateFacts K L D
  after_broadcast_notarization x v =
      let r = round_of x v in
      with_tracked x v (record r { notarization_broadcast = r.notarization_broadcast || is_some r.notarization })

  -- `broadcast_nullification`
  abbrev pub broadcast_nullification_answer : StateFacts K L D → ℕ → Option NullificationFacts
  broadcast_nullification_answer x v =
      option_and_then (λ r. once r.nullification_broadcast r.nullification) (round_at x v)

  -- the nullification
  abbrev pub after_broadcast_nullification : StateFacts K L D → ℕ → StateFacts K L D
  after_broadcast_nullification x v =
      let r = round_of x v in
      with_tracked x v (record r { nullification_broadcast = r.nullification_broadcast || is_some r.nullification })

  -- `broadcast_finalization`
  abbrev pub broadcast_finalization_answer : StateFacts K L D → ℕ → Option (ProposalFacts D)
  broadcast_finalization_answer x v = option_and_then (λ r. once r.finalization_broadcast r.finalization) (round_at x v)

  -- the finalization
  abbrev pub after_broadcast_finalization : StateFacts K L D → ℕ → StateFacts K L D
  after_broadcast_finalization x v =
      let r = round_of x v in
      with_tracked x v (record r { finalization_broadcast = r.finalization_broadcast || is_some r.finalization })

  -- the highest nullified view that covers a view
  abbrev pub highest_nullification_in_term : StateFacts K L D → ℕ → Option ℕ
  highest_nullification_in_term x v = last_or None (filter (λ u. covers x.terms.term_length u v) x.nullified)

  -- the nullification held there, if the current view starts a term
  abbrev pub entry_nullification : StateFacts K L D → ℕ → Option NullificationFacts
  entry_nullification x v =
      if is_term_start x x.current
      then option_and_then (nullification_of x) (highest_nullification_in_term x v) else None

  -- of a view the finalization, else, if a term begins above it, that term's nullification, else the notarization
  abbrev pub entry_certificate : StateFacts K L D → ℕ → Option (CertificateFacts D)
  entry_certificate x v =
      option_or
      (option_map Finalized (finalization_of x v))
      (option_or (option_map Nullified (entry_nullification x v)) (option_map Notarized (notarization_of x v)))

  -- `get_best_certificate`: the certificate that helps others into the current view
  abbrev pub best_certificate : StateFacts K L D → Option (CertificateFacts D)
  best_certificate x = if x.current == 1 then None else entry_certificate x (x.current - 1)

  -- `prune`: the views that are dropped, rising
  abbrev pub prune_answer : StateFacts K L D → List ℕ
  prune_answer x = map (λ e. e.0) (filter (λ e. nat_lt e.0 (min_active x)) x.rounds)

  -- nothing is known of the views below the retained ones
  abbrev pub after_prune : StateFacts K L D → StateFacts K L D
  after_prune x =
      record x {
        rounds = filter (λ e. nat_le (min_active x) e.0) x.rounds;
        nullified = filter (λ u. nat_le (min_active x) u) x.nullified;
        nullify_votes = filter (λ u. nat_le (min_active x) u) x.nullify_votes;
      }
