-- What a lifetime keeps of one view's proposal, its verification and its binding.
use Rattle.std.proofs.Common.{◌≡◌, refl, ap, sym, ◌∙◌, ℕ, Bool, true, false, Option, Some, None, is_some}
use Rattle.std.specs.Option.{option_map_or}
use Rattle.std.proofs.lemmas.Bool.{false≢true}
use Rattle.simplex_types.specs.declared.types.messages.Proposal.{Proposal}
use Rattle.simplex_round.specs.declared.round.Leader.{Leader}
use Rattle.simplex_round.specs.Round.{RoundFacts, signs_as}
use Rattle.laws_safety.proofs.votes.UnchangedRounds.{leads_round, Grown, UnchangedProposal}

-- the held proposal is bound to a payload of its parent
abbrev pub IsBound : {K D : Type 0} → RoundFacts K D → Type 0
IsBound {K} {D} r = (p : Proposal D) × (d : D) × (r.slot.held ≡ Some p) × (r.binding ≡ Some (p, d))

-- by whether the view's proposal is being verified, and whether a context of the view is open
pub record Tidy {K D : Type 0} (verifying opened : Bool) (r : RoundFacts K D) : Type 0 where
  -- a verified proposal that was not voted for is bound, and so is one that is being verified
  pub bound : r.slot.verified ≡ true → r.slot.conflict ≡ false → r.notarize_decided ≡ false → IsBound r
  pub verifying_bound : verifying ≡ true → r.slot.conflict ≡ false → r.notarize_decided ≡ false → IsBound r
  -- one that is being verified is of another leader, was asked for, and is not verified yet
  pub verifying_other : verifying ≡ true → (leads_round r ≡ false) × (is_some r.leader ≡ true)
      × (r.slot.verify_requested ≡ true)
  pub verifying_unmarked : verifying ≡ true → r.notarize_decided ≡ false → r.slot.verified ≡ false
  pub verified_requested : r.slot.verified ≡ true → r.slot.verify_requested ≡ true
  pub verified_held : r.slot.held ≡ None → (r.slot.verified ≡ false) × (verifying ≡ false)
  -- this member leads the views that it was asked to build for
  pub opened_led : opened ≡ true → leads_round r ≡ true

pub contrary : (a b : Bool) → (b ≡ true → a ≡ true) → a ≡ false → b ≡ false
contrary a false says is = refl
contrary a true says is = absurd (false≢true (sym is ∙ says refl))

pub opposite : (a : Bool) → a ≡ true → a ≡ false → ⊥
opposite a is isnt = false≢true (sym isnt ∙ is)

module _ {K D : Type 0} (v : ℕ) (verifying opened verifying' opened' : Bool) (r s : RoundFacts K D) (g : Grown v r s)
    (closes : opened' ≡ true → opened ≡ true) (tidy : Tidy verifying opened r) where
  undecided : s.notarize_decided ≡ false → r.notarize_decided ≡ false
  undecided un = contrary s.notarize_decided r.notarize_decided g.decided un

  leads_alike : s.leader ≡ r.leader → leads_round s ≡ leads_round r
  leads_alike same = λ i. option_map_or (λ (l : Leader K). signs_as (g.me i) l.idx) (same i) false

  led_leader : leads_round r ≡ true → is_some r.leader ≡ true
  led_leader led = by_leader r.leader led
    where
      by_leader : (o : Option (Leader K)) → option_map_or (λ (l : Leader K). signs_as r.me l.idx) o false ≡ true
          → is_some o ≡ true
      by_leader None is = absurd (false≢true is)
      by_leader (Some l) is = refl

  led_still : opened' ≡ true → leads_round s ≡ true
  led_still is = let led = tidy.opened_led (closes is) in leads_alike (g.leader (led_leader led)) ∙ led

  other_still : verifying ≡ true → (leads_round s ≡ false) × (is_some s.leader ≡ true)
      × (s.slot.verify_requested ≡ true)
  other_still is = let f = tidy.verifying_other is in let l = g.leader f.1 in
      (leads_alike l ∙ f.0, ap is_some l ∙ f.1, g.requested f.2)

  -- nothing is verified or bound
  pub still : (s.slot.verified ≡ true → r.slot.verified ≡ true) → s.binding ≡ r.binding
      → (verifying' ≡ true → verifying ≡ true) → Tidy verifying' opened' s
  still m b w = record {
    bound = λ is clear un.
        (let f = tidy.bound (m is) (g.clear clear) (undecided un) in (f.0, f.1, g.holding f.0 f.2 clear, b ∙ f.3));
    verifying_bound = λ is clear un. (let f = tidy.verifying_bound (w is) (g.clear clear) (undecided un) in
        (f.0, f.1, g.holding f.0 f.2 clear, b ∙ f.3));
    verifying_other = λ is. other_still (w is);
    verifying_unmarked = λ is un. contrary r.slot.verified s.slot.verified m
        (tidy.verifying_unmarked (w is) (undecided un));
    verified_requested = λ is. g.requested (tidy.verified_requested (m is));
    verified_held = λ none. (let f = tidy.verified_held (g.empty none) in
        (contrary r.slot.verified s.slot.verified m f.0, contrary verifying verifying' w f.1));
    opened_led = led_still;
  }

  -- an open verification is answered, and only then verified, as it is bound
  pub answered : (s.slot.verified ≡ true → s.notarize_decided ≡ false → s.binding ≡ r.binding) → verifying ≡ true
      → verifying' ≡ false → Tidy verifying' opened' s
  answered b was now = record {
    bound = λ is clear un. (let f = tidy.verifying_bound was (g.clear clear) (undecided un) in
        (f.0, f.1, g.holding f.0 f.2 clear, b is un ∙ f.3));
    verifying_bound = λ is. absurd (opposite verifying' is now);
    verifying_other = λ is. absurd (opposite verifying' is now);
    verifying_unmarked = λ is. absurd (opposite verifying' is now);
    verified_requested = λ is. g.requested (tidy.verifying_other was).2;
    verified_held = λ none. absurd (opposite verifying was (tidy.verified_held (g.empty none)).1);
    opened_led = led_still;
  }

  -- the held proposal is returned for verification
  pub returned_outputs : (p : Proposal D) (d : D) → (s.slot.verified ≡ true → r.slot.verified ≡ true)
      → s.binding ≡ Some (p, d) → r.slot.held ≡ Some p → r.slot.verify_requested ≡ false
      → s.slot.verify_requested ≡ true → leads_round r ≡ false → is_some r.leader ≡ true → Tidy verifying' opened' s
  returned_outputs p d m b holds unrequested requested other led = record {
    bound = λ is. absurd (opposite r.slot.verify_requested (tidy.verified_requested (m is)) unrequested);
    verifying_bound = λ is clear un. (p, d, g.holding p holds clear, b);
    verifying_other = λ is. (let l = g.leader led in (leads_alike l ∙ other, ap is_some l ∙ led, requested));
    verifying_unmarked = λ is un. contrary r.slot.verified s.slot.verified m
        (contrary r.slot.verify_requested r.slot.verified tidy.verified_requested unrequested);
    verified_requested = λ is. requested;
    verified_held = λ none. absurd (let e = sym (g.empty none) ∙ holds in cc);
    opened_led = led_still;
  }

  -- this member's own proposal is recorded
  pub proposes : (p : Proposal D) (d : D) → s.binding ≡ Some (p, d) → s.slot.held ≡ Some p
      → s.slot.verify_requested ≡ true → opened ≡ true → (verifying' ≡ true → verifying ≡ true)
      → Tidy verifying' opened' s
  proposes p d b holds requested mine w = record {
    bound = λ is clear un. (p, d, holds, b);
    verifying_bound = λ is. absurd (not_verifying is);
    verifying_other = λ is. absurd (not_verifying is);
    verifying_unmarked = λ is. absurd (not_verifying is);
    verified_requested = λ is. requested;
    verified_held = λ none. absurd (let e = sym none ∙ holds in cc);
    opened_led = led_still;
  }
    where
      not_verifying : verifying' ≡ true → ⊥
      not_verifying is = opposite (leads_round r) (tidy.opened_led mine) (tidy.verifying_other (w is)).0

pub tidy_calm : {K D : Type 0} (v : ℕ) (verifying opened verifying' opened' : Bool) (r s : RoundFacts K D)
    → UnchangedProposal v r s → (verifying' ≡ true → verifying ≡ true) → (opened' ≡ true → opened ≡ true)
    → Tidy verifying opened r → Tidy verifying' opened' s
tidy_calm v verifying opened verifying' opened' r s same w closes tidy =
    still v verifying opened verifying' opened' r s same.grown closes tidy same.verified same.binding w

-- a context is opened of a view that this member leads
pub reopened : {K D : Type 0} (verifying opened opened' : Bool) (r : RoundFacts K D)
    → (opened' ≡ true → leads_round r ≡ true) → Tidy verifying opened r → Tidy verifying opened' r
reopened verifying opened opened' r led tidy = record {
  bound = tidy.bound;
  verifying_bound = tidy.verifying_bound;
  verifying_other = tidy.verifying_other;
  verifying_unmarked = tidy.verifying_unmarked;
  verified_requested = tidy.verified_requested;
  verified_held = tidy.verified_held;
  opened_led = led;
}
