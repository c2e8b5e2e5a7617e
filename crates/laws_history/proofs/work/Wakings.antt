-- Which views wait for certification after another one is named or woken.
use Rattle.std.proofs.Common.{◌≡◌, ◌⊎◌, refl, sym, subst, ◌∙◌, ℕ, ◌+◌, ◌-◌, Bool, true, false, ◌&&◌, ◌||◌, eqb, nat_lt, if◌then◌else◌, Option, Some, None, is_some, unwrap_or, inl, inr}
use Rattle.std.specs.Option.{option_map_or}
use Rattle.std.proofs.Math.Bool.{and-true}
use Rattle.std.proofs.lemmas.Bool.{cases_eq, ne_eqb}
use Rattle.simplex_types.specs.Terms.{term_start}
use Rattle.simplex_round.specs.Round.{RoundFacts, new_round, signs_as}
use Rattle.simplex_voter.specs.Certification.{named_also, waits_for, with_waiting_candidate}
use Rattle.simplex_voter.specs.Facts.{StateFacts, Elect, round_at, round_of, round_number}
use Rattle.simplex_voter.specs.Payloads.{is_elected_early}
use Rattle.simplex_voter.specs.Rules.{required_certification_parent}
use Rattle.simplex_member.specs.OutstandingWork.{is_among}
use Rattle.laws_history.specs.WorkRequests.{wakes}
use Rattle.laws_safety.proofs.votes.OutstandingWork.{among_noted}
use Rattle.laws_history.proofs.UnchangedHistories.{UnchangedKnown}

-- these two are set up alike
pub record SetUpAlike {K L D : Type 0} (x y : StateFacts K L D) : Type 0 where
  pub settings : y.settings ≡ x.settings
  pub me : y.me ≡ x.me
  pub elector : y.elector ≡ x.elector
  pub terms : y.terms ≡ x.terms
  pub elects_early : y.elects_early ≡ x.elects_early

module _ {K L D : Type 0} where
  -- one more view is named, if it lies above the finalized one
  pub named_among : (x : StateFacts K L D) (v w : ℕ)
      → is_among w (named_also x v).named ≡ unwrap_or (if eqb w v && nat_lt x.finalized v then Some true else None)
      (is_among w x.named)
  named_among x v w = by_above (nat_lt x.finalized v) refl
    where
      either : (b : Bool) → (b || is_among w x.named) ≡ unwrap_or (if b && true then Some true else None)
          (is_among w x.named)
      either true = refl
      either false = refl

      neither : (b : Bool) → is_among w x.named ≡ unwrap_or (if b && false then Some true else None)
          (is_among w x.named)
      neither true = refl
      neither false = refl

      by_above : (b : Bool) → nat_lt x.finalized v ≡ b
          → is_among w (named_also x v).named ≡ unwrap_or (if eqb w v && nat_lt x.finalized v then Some true else None)
          (is_among w x.named)
      by_above true is = rw is (among_noted v w x.named ∙ either (eqb w v))
      by_above false is = rw is (neither (eqb w v))

module _ {K L D : Type 0} (elect : Elect L) where
  -- whether a view waits hangs on how the state is set up, and on what is known of that view
  pub waits_alike : (x y : StateFacts K L D) (p : ℕ) → SetUpAlike x y
      → UnchangedKnown (round_of x (p + 1)) (round_of y (p + 1))
      → waits_for elect y p (round_of y (p + 1)) ≡ waits_for elect x p (round_of x (p + 1))
  unfolding required_certification_parent
  waits_alike x y p s alike = λ i. is_some (alike i).notarization && option_map_or
      (λ h. option_map_or (λ q. eqb q p) (parent i h) false) (alike i).held false
    where
      early : is_elected_early elect y (p + 1) ≡ is_elected_early elect x (p + 1)
      early = λ i. eqb (p + 1) (term_start (s.terms i).term_length (p + 1)) && s.elects_early i && signs_as (s.me i)
          (elect (s.elector i) (record { epoch = (s.settings i).epoch; view = p + 1 }) None)

      parent : required_certification_parent elect y (p + 1) ≡ required_certification_parent elect x (p + 1)
      parent = λ i h. if eqb (p + 1) (term_start (s.terms i).term_length (p + 1))
          then (if eqb (h.parent + 1) (p + 1) && (early i && (alike i).notarize_decided) then Some h.parent else None)
          else Some (p + 1 - 1)

  -- a view that isn't tracked waits for none
  tracked_waits : (x : StateFacts K L D) (p : ℕ)
      → option_map_or (waits_for elect x p) (round_at x (p + 1)) false ≡ waits_for elect x p (round_of x (p + 1))
  tracked_waits x p = by_round (round_at x (p + 1))
    where
      by_round : (o : Option (RoundFacts K D))
          → option_map_or (waits_for elect x p) o false ≡ waits_for elect x p
          (unwrap_or o (new_round x.me x.members (round_number x (p + 1))))
      by_round None = refl
      by_round (Some r) = refl

  -- the view above is named where it waits
  pub woken_among : (x : StateFacts K L D) (p w : ℕ)
      → is_among w (with_waiting_candidate elect x p).named ≡ unwrap_or
      (if wakes elect x x.finalized p w then Some true else None) (is_among w x.named)
  woken_among x p w = by_waiting (waits_for elect x p (round_of x (p + 1))) refl (cases_eq w (p + 1))
    where
      Named : Bool → ℕ → Type 0
      Named b u = is_among u (if b then named_also x (p + 1) else x).named ≡ unwrap_or
          (if wakes elect x x.finalized p u then Some true else None) (is_among u x.named)

      elsewhere : eqb w (p + 1) ≡ false → (b : Bool) → Named b w
      elsewhere apart true = named_among x (p + 1) w ∙ (rw apart refl)
      elsewhere apart false = rw apart refl

      here : (b : Bool) → waits_for elect x p (round_of x (p + 1)) ≡ b → Named b (p + 1)
      here true is = rw (is, and-true (eqb (p + 1) (p + 1) && nat_lt x.finalized (p + 1)))
          (named_among x (p + 1) (p + 1))
      here false is = rw is (unnamed (eqb (p + 1) (p + 1)) (nat_lt x.finalized (p + 1)))
        where
          unnamed : (a b : Bool) → is_among (p + 1) x.named ≡ unwrap_or (if (a && b) && false then Some true else None)
              (is_among (p + 1) x.named)
          unnamed true true = refl
          unnamed true false = refl
          unnamed false true = refl
          unnamed false false = refl

      by_waiting : (b : Bool) → waits_for elect x p (round_of x (p + 1)) ≡ b → ((w ≡ p + 1) ⊎ (w ≡ p + 1 → ⊥))
          → Named (option_map_or (waits_for elect x p) (round_at x (p + 1)) false) w
      by_waiting b is (inl at) = subst (λ c. Named c w) (sym (tracked_waits x p ∙ is))
          (subst (Named b) (sym at) (here b is))
      by_waiting b is (inr apart) = subst (λ c. Named c w) (sym (tracked_waits x p ∙ is))
          (elsewhere (ne_eqb w (p + 1) apart) b)
