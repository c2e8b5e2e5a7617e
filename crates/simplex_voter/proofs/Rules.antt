-- How the rules of votes come apart into their parts, and back.
use Rattle.std.proofs.Common.{◌≡◌, ℕ, ◌+◌, ◌-◌, ◌<◌, Bool, true, false, ◌&&◌, ◌||◌, not, ltb, cond, Some, None, refl, ap, sym, inl, inr, arith, eq-eqb}
use Rattle.std.specs.Prelude.{is_some, unwrap_or, ◌==◌}
use Rattle.std.proofs.lemmas.Bool.{eqb-true, false≢true, lt-ltb}
use Rattle.std.proofs.lemmas.Bool.Decides.{nat_tests}
use Rattle.simplex_types.specs.declared.types.messages.Proposal.{Proposal}
use Rattle.simplex_round.specs.Round.{is_pending, is_nullify, can_notarize, can_finalize}
use Rattle.simplex_round.specs.Slot.{is_unequivocated}
use Rattle.simplex_voter.specs.Facts.{StateFacts, Elect, round_of}
use Rattle.simplex_voter.specs.Windows.{is_term_start, is_admitted, in_issuance_window}
use Rattle.simplex_voter.specs.Rules.{may_notarize, may_nullify, may_finalize, has_conflicting_nullify, has_required_parent, required_certification_parent, has_ancestry, NotarizeRule, NullifyRule, FinalizeRule}
use Rattle.simplex_voter.proofs.Gaps.{cases_bool, and_parts, and_both, not_true}

not_false : (b : Bool) → b ≡ false → not b ≡ true
not_false true h = absurd (false≢true (sym h))
not_false false h = refl

or_if : (b c : Bool) → (not b || c) ≡ true → b ≡ true → c ≡ true
or_if true c h here = h
or_if false c h here = absurd (false≢true here)

if_or : (b c : Bool) → (b ≡ true → c ≡ true) → (not b || c) ≡ true
if_or true c h = h refl
if_or false c h = refl

some_same : (a b : ℕ) → Some a ≡ Some b → a ≡ b
some_same a b e = ap (λ o. unwrap_or o a) e

module _ {K L D : Type 0} (x : StateFacts K L D) (v : ℕ) where
  pub nullify_parts : may_nullify x v ≡ true → NullifyRule x v
  unfolding may_nullify
  nullify_parts h =
      let parts = and_parts (v == x.current) _ h in
      record { current = eqb-true v x.current parts.0; no_finalize = not_true _ parts.1 }

  pub nullify_whole : NullifyRule x v → may_nullify x v ≡ true
  unfolding may_nullify
  nullify_whole rule = and_both (v == x.current) _ (eq-eqb v x.current rule.current) (not_false _ rule.no_finalize)

module _ {K L D : Type 0} (elect : Elect L) (x : StateFacts K L D) (v : ℕ) where
  pub finalize_parts : may_finalize elect x v ≡ true → FinalizeRule elect x v
  unfolding may_finalize
  finalize_parts h =
      let r = round_of x v in
      let a = and_parts (ltb x.finalized v && is_admitted x v && not (has_conflicting_nullify x v)
      && has_required_parent elect x v) _ h in
      let b = and_parts (ltb x.finalized v && is_admitted x v && not (has_conflicting_nullify x v)) _ a.0 in
      let c = and_parts (ltb x.finalized v && is_admitted x v) _ b.0 in
      let d = and_parts (ltb x.finalized v) _ c.0 in
      let e = and_parts (is_pending r.decision && is_unequivocated r.slot && is_some r.notarization) _ a.1 in
      let f = and_parts (is_pending r.decision && is_unequivocated r.slot) _ e.0 in
      let g = and_parts (is_pending r.decision) _ f.0 in
      record {
        above_finalized = grind (arith, nat_tests);
        admitted = d.1;
        not_gated = not_true _ c.1;
        parent = b.1;
        undecided = g.0;
        unequivocated = g.1;
        notarized = f.1;
        certified = e.1;
      }

  -- the rule's part about the view's own round
  pub finalize_round : may_finalize elect x v ≡ true → can_finalize (round_of x v) ≡ true
  unfolding may_finalize
  finalize_round h = (and_parts (ltb x.finalized v && is_admitted x v && not (has_conflicting_nullify x v)
      && has_required_parent elect x v) _ h).1

  pub finalize_whole : FinalizeRule elect x v → may_finalize elect x v ≡ true
  unfolding may_finalize
  finalize_whole rule =
      rw (
        lt-ltb x.finalized v rule.above_finalized,
        rule.admitted,
        rule.not_gated,
        rule.parent,
        rule.undecided,
        rule.unequivocated,
        rule.notarized,
        rule.certified,
      ) refl

module _ {K L D : Type 0} (same : D → D → Bool) (elect : Elect L) (x : StateFacts K L D) (v : ℕ) where
  -- the rule's part about the view's own round
  pub notarize_round : may_notarize same elect x v ≡ true → can_notarize (round_of x v) ≡ true
  unfolding may_notarize
  notarize_round h =
      let bound = and_parts (is_admitted x v && can_notarize (round_of x v) && has_ancestry same elect x v) _ h in
      let built = and_parts (is_admitted x v && can_notarize (round_of x v)) _ bound.0 in
      (and_parts (is_admitted x v) _ built.0).1

  pub notarize_parts : may_notarize same elect x v ≡ true → NotarizeRule same elect x v
  unfolding may_notarize
  notarize_parts h =
      let r = round_of x v in
      let a = and_parts (is_admitted x v && can_notarize r && has_ancestry same elect x v) _ h in
      let b = and_parts (is_admitted x v && can_notarize r) _ a.0 in
      let c = and_parts (is_admitted x v) _ b.0 in
      let d = and_parts (not r.notarize_decided && not (is_nullify r.decision)) _ c.1 in
      let e = and_parts (not r.notarize_decided) _ d.0 in
      record {
        admitted = c.0;
        first_vote = not_true _ e.0;
        no_nullify = not_true _ e.1;
        verified = d.1;
        ancestry = or_if (in_issuance_window x v) _ b.1;
        bound = a.1;
      }

  pub notarize_whole : NotarizeRule same elect x v → may_notarize same elect x v ≡ true
  unfolding may_notarize
  notarize_whole rule =
      let ancestry : has_ancestry same elect x v ≡ true = if_or (in_issuance_window x v) _ rule.ancestry in
      and_both _ _ (and_both _ _
      (and_both _ _ rule.admitted (rw (rule.first_vote, rule.no_nullify, rule.verified) refl)) ancestry) rule.bound

if_some : (b : Bool) (p q : ℕ) → cond b (Some p) None ≡ Some q → (b ≡ true) × (p ≡ q)
if_some true p q e = (refl, some_same p q e)
if_some false p q e = absurd (false≢true (ap is_some e))

just_below : (p v q : ℕ) (b : Bool) → cond (p + 1 == v && b) (Some p) None ≡ Some q → q + 1 ≡ v
just_below p v q b e =
    let parts = if_some (p + 1 == v && b) p q e in
    let before : p + 1 ≡ v = eqb-true (p + 1) v (and_parts (p + 1 == v) b parts.0).0 in
    omega arith

pub required_before : {K L D : Type 0} (elect : Elect L) (x : StateFacts K L D) (v q : ℕ) (p : Proposal D) → 0 < v
    → required_certification_parent elect x v p ≡ Some q → q + 1 ≡ v
unfolding required_certification_parent
required_before elect x v q p some e = elim (cases_bool (is_term_start x v)) [
  | inl start ↦ just_below p.parent v q _ (rw start at e)
  | inr inside ↦
      let same_view : v - 1 ≡ q = some_same _ _ (rw inside at e) in
      omega arith
]
