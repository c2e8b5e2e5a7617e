-- A member of a network that is at an untouched term start: what its run shows of it, and that it continues.
use Rattle.std.proofs.Common.{◌≡◌, refl, ap, sym, ◌∙◌, subst, ℕ, ◌<◌, Bool, true, false, ◌&&◌, nat_lt, ltb-true, List, [], ◌∷◌, Option, Some, None, is_some, unwrap_or, arith}
use Rattle.std.specs.Prelude.{option_map, if◌then◌else◌}
use Rattle.std.specs.List.{filter_map, cons_option, last_or, list_any}
use Rattle.std.proofs.lemmas.Bool.{false≢true}
use Rattle.simplex_types.specs.Terms.{term_start, covers}
use Rattle.simplex_types.proofs.Covers.{behind_from}
use Rattle.simplex_round.specs.declared.round.Leader.{Leader}
use Rattle.simplex_round.specs.Round.{RoundFacts, new_round}
use Rattle.simplex_voter.specs.Facts.{StateFacts, round_of, round_number}
use Rattle.simplex_voter.specs.Parents.{at_view, explicit_below, highest_explicit}
use Rattle.simplex_voter.specs.Payloads.{explicit_ancestry_payload}
use Rattle.simplex_voter.specs.Refusals.{is_too_large}
use Rattle.simplex_voter.specs.Rules.{has_conflicting_nullify}
use Rattle.simplex_member.specs.MemberFacts.{MemberFacts}
use Rattle.laws_safety.specs.Executions.{Execution}
use Rattle.laws_progress.specs.ViewPositions.{IsFreshStart, CanStandOn}
use Rattle.laws_progress.specs.NetworkStates.{IsSetUpAs}
use Rattle.laws_progress.proofs.states.AtTermStart.{StandingMember, StandsAtView}
use Rattle.laws_progress.proofs.states.Calls.{with_work, nothing_done}
use Rattle.laws_progress.proofs.runs.Ends.{Shown}

-- the gate: no view below is of the term that the view starts

module _ (length finalized v : ℕ) (start : v ≡ term_start length v) where
  lets_pass : (u : ℕ) → (nat_lt u v && covers length u v && nat_lt finalized u) ≡ false
  lets_pass u = by_tests (nat_lt u v) (covers length u v) (nat_lt finalized u) refl refl refl
    where
      by_tests : (a b c : Bool) → nat_lt u v ≡ a → covers length u v ≡ b → nat_lt finalized u ≡ c
          → (a && b && c) ≡ false
      by_tests false b c less covered above = refl
      by_tests true false c less covered above = refl
      by_tests true true false less covered above = refl
      by_tests true true true less covered above =
          let low : u < v = ltb-true u v less in
          let high : finalized < u = ltb-true finalized u above in
          let behind = behind_from length u v (omega arith) covered in
          absurd (omega (arith, behind.0, low, start))

  let_pass : (us : List ℕ) → list_any (λ u. nat_lt u v && covers length u v && nat_lt finalized u) us ≡ false
  let_pass [] = refl
  let_pass (u ∷ us) = rw (lets_pass u) (let_pass us)

pub no_gate : {K L D : Type 0} (x : StateFacts K L D) (v : ℕ) → v ≡ term_start x.terms.term_length v
    → has_conflicting_nullify x v ≡ false
unfolding has_conflicting_nullify
no_gate x v start = let_pass x.terms.term_length x.finalized v start x.nullify_votes

-- what is built on is explicit

module _ {A B : Type 0} (P : A → Type 0) where
  last_has : (o : Option A) → ((a : A) → o ≡ Some a → P a) → (f : B → Option A) (bs : List B)
      → ((b : B) (a : A) → f b ≡ Some a → P a) → (a : A) → last_or o (filter_map f bs) ≡ Some a → P a
  last_has o first f [] each a is = first a is
  last_has o first f (b ∷ bs) each a is = by_value (λ p says. last_has p says f bs each a) (f b) refl is
    where
      by_value : ((p : Option A) → ((c : A) → p ≡ Some c → P c) → last_or p (filter_map f bs) ≡ Some a → P a)
          → (q : Option A) → f b ≡ q → last_or o (cons_option q (filter_map f bs)) ≡ Some a → P a
      by_value behind None none is = behind o first is
      by_value behind (Some c) here is = behind (Some c) (λ d e. each b d (here ∙ e)) is

module _ {K L D : Type 0} (x : StateFacts K L D) where
  abbrev IsExplicit : ℕ × D → Type 0
  IsExplicit a = explicit_ancestry_payload x a.0 ≡ Some a.1

  at_explicit : (v : ℕ) (o : Option D) (a : ℕ × D) → explicit_ancestry_payload x v ≡ o → at_view v o ≡ Some a
      → IsExplicit a
  at_explicit v None a is at = absurd (cc)
  at_explicit v (Some d) a is at =
      let same : (v, d) ≡ a = ap (λ o. unwrap_or o a) at in
      subst IsExplicit same is

  genesis_explicit : explicit_ancestry_payload x 0 ≡ x.genesis
  unfolding explicit_ancestry_payload
  genesis_explicit = refl

  pub highest_is : (v : ℕ) (a : ℕ × D) → highest_explicit x v ≡ Some a → IsExplicit a
  highest_is v a is = last_has IsExplicit (at_view 0 x.genesis) (λ b at. at_explicit 0 x.genesis b genesis_explicit at)
      (explicit_below x v) x.rounds each a is
    where
      each : (e : ℕ × RoundFacts K D) (b : ℕ × D) → explicit_below x v e ≡ Some b → IsExplicit b
      each e b at = by_test (nat_lt e.0 v) at
        where
          by_test : (low : Bool) → (if low then at_view e.0 (explicit_ancestry_payload x e.0) else None) ≡ Some b
              → IsExplicit b
          by_test true here = at_explicit e.0 (explicit_ancestry_payload x e.0) b refl here
          by_test false here = absurd (cc)

-- the replica of a member
abbrev pub replica_of : {D : Type 0} → ℕ → ℕ → ℕ → D → ℕ → StandingMember D
replica_of epoch start parent payload i =
    record { me = i; epoch = epoch; view = start; parent = parent; payload = payload }

module _ {K L D : Type 0} (term_length epoch count leader start parent i : ℕ) (elector : L) (s : Execution K L D)
    (m : MemberFacts K L D) (x : StateFacts K L D) (shown : Shown term_length s m x)
    (set : IsSetUpAs epoch count elector i x) (fresh : IsFreshStart leader start x)
    (can : CanStandOn parent start x) where
  pub stands_there : is_too_large start ≡ false
      → StandsAtView (replica_of epoch start parent can.payload i) (with_work fresh.round nothing_done) start x
  stands_there small = record {
    here = fresh.tracked ∙ (λ j. Some (record (fresh.round) {
      slot = fresh.no_proposal j;
      notarize_decided = fresh.no_vote j;
      notarization = fresh.no_notarization j;
      certification = fresh.no_verdict j;
      binding = fresh.unbound j;
    }));
    ordered = shown.living.in_order;
    alive = shown.owns.alive;
    me = set.signs;
    epoch = set.of_epoch;
    current = fresh.current;
    start = fresh.start;
    below = can.below;
    above = can.not_passed;
    explicit = can.explicit;
    gapless = can.gapless;
    ungated = no_gate x start fresh.start;
    on_time = set.on_time;
    small = small;
  }

  pub signs_there : fresh.round.me ≡ Some i
  signs_there =
      let round : round_of x start ≡ fresh.round =
      ap (λ o. unwrap_or o (new_round x.me x.members (round_number x start))) fresh.tracked in
      ap (λ (r : RoundFacts K D). r.me) (sym round) ∙ shown.owns.mine start ∙ set.signs

  pub leader_there : (lead : Leader K) × (fresh.round.leader ≡ Some lead) × (lead.idx ≡ leader)
  leader_there = by_leader fresh.round.leader refl fresh.leads
    where
      by_leader : (o : Option (Leader K)) → fresh.round.leader ≡ o → option_map (λ l. l.idx) o ≡ Some leader
          → (lead : Leader K) × (fresh.round.leader ≡ Some lead) × (lead.idx ≡ leader)
      by_leader None is leads = absurd (false≢true (ap is_some leads))
      by_leader (Some lead) is leads = (lead, is, ap (λ o. unwrap_or o leader) leads)
