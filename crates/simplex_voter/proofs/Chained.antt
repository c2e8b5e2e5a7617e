-- The payload that a view offers, as a walk down the chain of votes finds it.
use Rattle.std.proofs.Common.{◌≡◌, ℕ, ◌+◌, ◌≤◌, Bool, true, false, cond, Option, Some, None, refl, ap, sym, ◌∙◌, arith}
use Rattle.std.specs.Prelude.{◌==◌, is_some, option_map, option_and_then}
use Rattle.std.specs.Option.{option_map_or}
use Rattle.simplex_types.specs.declared.types.messages.Proposal.{Proposal}
use Rattle.simplex_round.specs.Round.{RoundFacts}
use Rattle.simplex_voter.specs.declared.voter.chains.Basis.{Basis}
use Rattle.simplex_voter.specs.declared.voter.chains.Basis.TheVariants.{Certain, Vote}
use Rattle.simplex_voter.specs.Facts.{StateFacts, Elect, round_at}
use Rattle.simplex_voter.specs.Windows.{is_notarized}
use Rattle.simplex_voter.specs.Payloads.{is_voted_ancestor, can_chain_on, is_bound_to, voted_payload, served_payload, optimistic_ancestry_payload}
use Rattle.simplex_voter.specs.Chains.{payload_of, unrefused_payload, basis_of, basis_at}
use Rattle.simplex_voter.proofs.Payloads.{can_chain_on-below, optimistic_ancestry_payload-is}

-- a vote that was bound to this payload of its parent, if to one, holds for another
abbrev pub holds : {D : Type 0} → (D → D → Bool) → Option D → D → Bool
holds same bound d = option_map_or (λ b. same d b) bound true

-- how high a view may lie that is looked at next
abbrev pub reach : {D : Type 0} → Basis D → ℕ
reach (Certain d) = 0
reach (Vote p bound) = p.parent + 1

module _ {K L D : Type 0} (elect : Elect L) (x : StateFacts K L D) (v : ℕ) (b : Basis D) where
  -- each step leads to a lower view
  pub reach-below : Some b ≡ basis_at elect x v → reach b ≤ v
  reach-below is = by_zero (v == 0) is
    where
      certain : (o : Option D) → Some b ≡ option_map (λ d. Certain d) o → reach b ≤ v
      certain None same_one = let bad : Some b ≡ None = same_one in cc
      certain (Some d) same_one =
          let at : b ≡ Certain d = cc in
          rw at (omega arith)

      by_test : (r : RoundFacts K D) (p : Proposal D) (t : Bool) → can_chain_on x v p.parent ≡ t
          → Some b ≡ option_map (λ q. Vote q (option_map (λ bound. bound.1) r.binding)) (cond t (Some p) None)
          → reach b ≤ v
      by_test r p true test same_one =
          let at : b ≡ Vote p (option_map (λ bound. bound.1) r.binding) = cc in
          let low = can_chain_on-below x v p.parent test in
          rw at (omega (arith, low))
      by_test r p false test same_one = let bad : Some b ≡ None = same_one in cc

      by_service : (r : RoundFacts K D) (t : Bool) (held : Option (Proposal D))
          → Some b ≡ option_map (λ q. Vote q (option_map (λ bound. bound.1) r.binding))
          (cond t (option_and_then (λ p. cond (can_chain_on x v p.parent) (Some p) None) held) None) → reach b ≤ v
      by_service r true None same_one = let bad : Some b ≡ None = same_one in cc
      by_service r true (Some p) same_one = by_test r p (can_chain_on x v p.parent) refl same_one
      by_service r false held same_one = let bad : Some b ≡ None = same_one in cc

      by_notarized : (r : RoundFacts K D) (t : Bool)
          → Some b ≡ cond t (option_map (λ d. Certain d) (unrefused_payload x v r))
          (option_map (λ q. Vote q (option_map (λ bound. bound.1) r.binding))
          (cond (is_voted_ancestor elect x v r)
          (option_and_then (λ p. cond (can_chain_on x v p.parent) (Some p) None) r.slot.held) None)) → reach b ≤ v
      by_notarized r true same_one = certain _ same_one
      by_notarized r false same_one = by_service r (is_voted_ancestor elect x v r) r.slot.held same_one

      by_round : (o : Option (RoundFacts K D)) → Some b ≡ option_and_then (basis_of elect x v) o → reach b ≤ v
      by_round None same_one = let bad : Some b ≡ None = same_one in cc
      by_round (Some r) same_one = by_notarized r (is_notarized r) same_one

      by_zero : (t : Bool) → Some b ≡ cond t (option_map (λ d. Certain d) x.genesis)
          (option_and_then (basis_of elect x v) (round_at x v)) → reach b ≤ v
      by_zero true same_one = certain x.genesis same_one
      by_zero false same_one = by_round (round_at x v) same_one

module _ {K L D : Type 0} (same : D → D → Bool) (elect : Elect L) (x : StateFacts K L D) where
  abbrev offers : ℕ → Option D
  offers = optimistic_ancestry_payload same elect x

  -- the payload that a view offers on this ground
  abbrev pub rests : Basis D → Option D
  rests (Certain d) = Some d
  rests (Vote p bound) = option_and_then (λ d. cond (holds same bound d) (Some p.payload) None) (offers p.parent)

  offers-rests : (v : ℕ) → offers v ≡ option_and_then rests (basis_at elect x v)
  offers-rests v = optimistic_ancestry_payload-is same elect x v ∙ by_zero (v == 0)
    where
      certain : (o : Option D) → o ≡ option_and_then rests (option_map (λ d. Certain d) o)
      certain None = refl
      certain (Some d) = refl

      by_binding : (p : Proposal D) (binding : Option (Proposal D × D))
          → option_and_then (λ d. cond (is_bound_to same binding d) (Some p.payload) None) (offers p.parent) ≡ rests
          (Vote p (option_map (λ bound. bound.1) binding))
      by_binding p None = refl
      by_binding p (Some bound) = refl

      by_test : (r : RoundFacts K D) (p : Proposal D) (t : Bool)
          → cond t (option_and_then (λ d. cond (is_bound_to same r.binding d) (Some p.payload) None) (offers p.parent))
          None ≡ option_and_then rests
          (option_map (λ q. Vote q (option_map (λ bound. bound.1) r.binding)) (cond t (Some p) None))
      by_test r p true = by_binding p r.binding
      by_test r p false = refl

      by_service : (r : RoundFacts K D) (t : Bool) (held : Option (Proposal D))
          → cond t (option_and_then (voted_payload same elect x offers v r) held) None ≡ option_and_then rests
          (option_map (λ q. Vote q (option_map (λ bound. bound.1) r.binding))
          (cond t (option_and_then (λ p. cond (can_chain_on x v p.parent) (Some p) None) held) None))
      by_service r true None = refl
      by_service r true (Some p) = by_test r p (can_chain_on x v p.parent)
      by_service r false held = refl

      by_notarized : (r : RoundFacts K D) (t : Bool)
          → cond t (unrefused_payload x v r) (cond (is_voted_ancestor elect x v r)
          (option_and_then (voted_payload same elect x offers v r) r.slot.held) None) ≡ option_and_then rests
          (cond t (option_map (λ d. Certain d) (unrefused_payload x v r))
          (option_map (λ q. Vote q (option_map (λ bound. bound.1) r.binding))
          (cond (is_voted_ancestor elect x v r)
          (option_and_then (λ p. cond (can_chain_on x v p.parent) (Some p) None) r.slot.held) None)))
      by_notarized r true = certain (unrefused_payload x v r)
      by_notarized r false = by_service r (is_voted_ancestor elect x v r) r.slot.held

      by_round : (o : Option (RoundFacts K D))
          → option_and_then (served_payload same elect x offers v) o ≡ option_and_then rests
          (option_and_then (basis_of elect x v) o)
      by_round None = refl
      by_round (Some r) = by_notarized r (is_notarized r)

      by_zero : (t : Bool) → cond t x.genesis
          (option_and_then (served_payload same elect x offers v) (round_at x v)) ≡ option_and_then rests
          (cond t (option_map (λ d. Certain d) x.genesis) (option_and_then (basis_of elect x v) (round_at x v)))
      by_zero true = certain x.genesis
      by_zero false = by_round (round_at x v)

  -- a view offers the payload of its ground, or nothing
  rests-one : (b : Basis D) → rests b ≡ cond (is_some (rests b)) (Some (payload_of b)) None
  rests-one (Certain d) = refl
  rests-one (Vote p bound) = by_below (offers p.parent)
    where
      by_test : (t : Bool) → cond t (Some p.payload) None ≡ cond (is_some (cond t (Some p.payload) None))
          (Some p.payload) None
      by_test true = refl
      by_test false = refl

      by_below : (o : Option D) → option_and_then (λ d. cond (holds same bound d) (Some p.payload) None) o ≡ cond
          (is_some (option_and_then (λ d. cond (holds same bound d) (Some p.payload) None) o)) (Some p.payload) None
      by_below None = refl
      by_below (Some d) = by_test (holds same bound d)

  -- the walk from v has reached this ground, and what v offers is decided there
  abbrev pub WalkHasReached : ℕ → Basis D → Basis D → Type 0
  WalkHasReached v top b = optimistic_ancestry_payload same elect x v ≡ cond (is_some (rests b)) (Some (payload_of top))
      None

  pub nothing : (v : ℕ) → None ≡ basis_at elect x v → None ≡ offers v
  nothing v none = sym (offers-rests v ∙ ap (option_and_then rests) (sym none))

  pub begins : (v : ℕ) (b : Basis D) → Some b ≡ basis_at elect x v → WalkHasReached v b b
  begins v b is = offers-rests v ∙ ap (option_and_then rests) (sym is) ∙ rests-one b

  module _ (v : ℕ) (top : Basis D) (p : Proposal D) (bound : Option D)
      (stands : WalkHasReached v top (Vote p bound)) where
    -- the payload that v offers, given the parent's
    abbrev above : Option D → Option D
    above o = cond (is_some (option_and_then (λ d. cond (holds same bound d) (Some p.payload) None) o))
        (Some (payload_of top)) None

    pub none_below : None ≡ basis_at elect x p.parent → None ≡ offers v
    none_below none = sym (stands ∙ ap above (sym (nothing p.parent none)))

    above-is : (t : Bool) (d : D) (h : Bool) → holds same bound d ≡ h
        → above (cond t (Some d) None) ≡ cond (cond t h false) (Some (payload_of top)) None
    above-is true d true is = ap (λ b. cond (is_some (cond b (Some p.payload) None)) (Some (payload_of top)) None) is
    above-is true d false is = ap (λ b. cond (is_some (cond b (Some p.payload) None)) (Some (payload_of top)) None) is
    above-is false d h is = refl

    module _ (b : Basis D) (below : Some b ≡ basis_at elect x p.parent) where
      by_hold : (h : Bool) → holds same bound (payload_of b) ≡ h
          → offers v ≡ cond (cond (is_some (rests b)) h false) (Some (payload_of top)) None
      by_hold h is = stands ∙ ap above (begins p.parent b below) ∙ above-is (is_some (rests b)) (payload_of b) h is

      pub unbound : (d : D) → d ≡ payload_of b → false ≡ holds same bound d → None ≡ offers v
      unbound d is test = sym (by_hold false (ap (holds same bound) (sym is) ∙ sym test)
          ∙ ap (λ t. cond t (Some (payload_of top)) None) (never (is_some (rests b))))
        where
          never : (t : Bool) → cond t false false ≡ false
          never true = refl
          never false = refl

      pub continues : (d : D) → d ≡ payload_of b → true ≡ holds same bound d → WalkHasReached v top b
      continues d is test = by_hold true (ap (holds same bound) (sym is) ∙ sym test)
          ∙ ap (λ t. cond t (Some (payload_of top)) None) (itself (is_some (rests b)))
        where
          itself : (t : Bool) → cond t true false ≡ t
          itself true = refl
          itself false = refl

  pub ends : (v : ℕ) (top : Basis D) (d : D) → WalkHasReached v top (Certain d) → Some (payload_of top) ≡ offers v
  ends v top d stands = sym stands
