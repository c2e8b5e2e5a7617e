-- A change of one view's round leaves the rounds of the others.
use Rattle.std.proofs.Common.{◌≡◌, ℕ, ◌+◌, ◌≢◌, Bool, true, false, cond, ltb, not, List, Option, Some, None, is_some, unwrap_or, refl, ap, ◌∙◌, arith}
use Rattle.std.specs.Ordering.{nat_cmp}
use Rattle.std.specs.Cmp.{nat_cmp_total}
use Rattle.std.specs.FinMap.Entries.{find, put, find-put}
use Rattle.std.proofs.lemmas.Bool.{ne_eqb}
use Rattle.simplex_view_maps.proofs.Maps.{is_eq-nat_cmp}
use Rattle.simplex_types.specs.Certificates.{ProposalFacts}
use Rattle.simplex_round.specs.Round.{RoundFacts, leader_at, new_round}
use Rattle.simplex_voter.specs.Facts.{StateFacts, Elect, round_of, round_number, with_round}
use Rattle.simplex_voter.specs.ViewEntry.{with_view_entered, entered_round}
use Rattle.simplex_voter.specs.Leaders.{has_leader, with_leader_at, with_elected_leader}
use Rattle.simplex_voter.specs.Acceptance.{added_answer}

module _ {K L D : Type 0} (x : StateFacts K L D) (v w : ℕ) (apart : v ≢ w) where
  found_alike : (r : RoundFacts K D) → find nat_cmp v (put nat_cmp w r x.rounds) ≡ find nat_cmp v x.rounds
  found_alike r = find-put nat_cmp nat_cmp_total v w r x.rounds
      ∙ ap (λ b. cond b (Some r) (find nat_cmp v x.rounds)) (is_eq-nat_cmp v w ∙ ne_eqb v w apart)

  pub round_of-with_round : (r : RoundFacts K D) → round_of (with_round x w r) v ≡ round_of x v
  round_of-with_round r = ap (λ found. unwrap_or found (new_round x.me x.members (round_number x v))) (found_alike r)

  pub round_of-led : (member : ℕ) → round_of (with_leader_at x w member) v ≡ round_of x v
  round_of-led member = elim (has_leader x w) as
      (λ b. round_of (cond b x (with_round x w (record (round_of x w) { leader = leader_at x.members member })))
      v ≡ round_of x v) [
        | true ↦ refl
        | false ↦ round_of-with_round _
      ]

  pub round_of-entered : (now : ℕ) → round_of (with_view_entered x w now) v ≡ round_of x v
  round_of-entered now = elim (ltb x.current w) as
      (λ b. round_of (cond b (record (with_round x w (entered_round x (round_of x w) now)) { current = w }) x)
      v ≡ round_of x v) [
        | true ↦ round_of-with_round _
        | false ↦ refl
      ]

  pub round_of-elected : (elect : Elect L) (seed : Option (List ℕ))
      → round_of (with_elected_leader elect x w seed) v ≡ round_of x v
  round_of-elected elect seed = round_of-led _

pub not_next : (v : ℕ) → v ≢ v + 1
not_next v is = absurd (omega arith)

-- whether a certificate is added shows whether there was one
pub first_added : {K D : Type 0} (same : D → D → Bool) (standing : Option (ProposalFacts D)) (r : RoundFacts K D)
    (c : ProposalFacts D) → (added_answer same standing r c.proposal).0 ≡ not (is_some standing)
first_added same None r c = refl
first_added same (Some d) r c = refl
