-- Changes of a view's round that leave a proposal's verification and binding as they are.
use Rattle.std.proofs.Common.{◌≡◌, refl, ap, sym, ◌∙◌, subst, ℕ, ◌⊎◌, inl, inr, Bool, true, false, ◌&&◌, ◌||◌, not, if◌then◌else◌, Option, Some, None, is_some}
use Rattle.std.specs.Option.{option_map_or}
use Rattle.std.proofs.lemmas.Bool.{false≢true}
use Rattle.simplex_types.specs.Proposal.{same_proposal}
use Rattle.simplex_types.specs.declared.types.messages.Proposal.{Proposal}
use Rattle.simplex_round.specs.declared.round.Leader.{Leader}
use Rattle.simplex_round.specs.Slot.{SlotFacts, after_vote, after_certificate}
use Rattle.simplex_round.specs.Round.{RoundFacts, signs_as}

-- this member leads the view
abbrev pub leads_round : {K D : Type 0} → RoundFacts K D → Bool
leads_round r = option_map_or (λ l. signs_as r.me l.idx) r.leader false

-- what each change of a round keeps: the held proposal, unless another one is seen, the vote to notarize, the request
-- for verification, and
-- the leader; a newly held one is of the round's view
pub record Grown {K D : Type 0} (v : ℕ) (r s : RoundFacts K D) : Type 0 where
  pub me : s.me ≡ r.me
  pub holding : (p : Proposal D) → r.slot.held ≡ Some p → s.slot.conflict ≡ false → s.slot.held ≡ Some p
  pub empty : s.slot.held ≡ None → r.slot.held ≡ None
  pub placed : (p : Proposal D) → s.slot.held ≡ Some p → (r.slot.held ≡ Some p) ⊎ (p.round.view ≡ v)
  pub clear : s.slot.conflict ≡ false → r.slot.conflict ≡ false
  pub decided : r.notarize_decided ≡ true → s.notarize_decided ≡ true
  pub requested : r.slot.verify_requested ≡ true → s.slot.verify_requested ≡ true
  pub leader : is_some r.leader ≡ true → s.leader ≡ r.leader

-- the round has grown, and nothing of it was verified or bound
pub record UnchangedProposal {K D : Type 0} (v : ℕ) (r s : RoundFacts K D) : Type 0 where
  pub grown : Grown v r s
  pub verified : s.slot.verified ≡ true → r.slot.verified ≡ true
  pub binding : s.binding ≡ r.binding

module _ {K D : Type 0} (v : ℕ) where
  pub grown_joined : (r s t : RoundFacts K D) → Grown v r s → Grown v s t → Grown v r t
  grown_joined r s t p q = record {
    me = q.me ∙ p.me;
    holding = λ h is clear. q.holding h (p.holding h is (q.clear clear)) clear;
    empty = λ none. p.empty (q.empty none);
    placed = λ h is. elim (q.placed h is) [ inl before ↦ p.placed h before | inr here ↦ inr here ];
    clear = λ clear. p.clear (q.clear clear);
    decided = λ is. q.decided (p.decided is);
    requested = λ is. q.requested (p.requested is);
    leader = λ is. q.leader (ap is_some (p.leader is) ∙ is) ∙ p.leader is;
  }

  pub calm_joined : (r s t : RoundFacts K D) → UnchangedProposal v r s → UnchangedProposal v s t
      → UnchangedProposal v r t
  calm_joined r s t p q = record {
    grown = grown_joined r s t p.grown q.grown;
    verified = λ is. p.verified (q.verified is);
    binding = q.binding ∙ p.binding;
  }

  -- what a proposal's work rests on is the same
  pub calm_alike : (r s : RoundFacts K D) → s.me ≡ r.me → s.slot ≡ r.slot → s.notarize_decided ≡ r.notarize_decided
      → s.leader ≡ r.leader → s.binding ≡ r.binding → UnchangedProposal v r s
  calm_alike r s me slot decided leader binding = record {
    grown = record {
      me = me;
      holding = λ p is clear. ap (λ (t : SlotFacts D). t.held) slot ∙ is;
      empty = λ none. sym (ap (λ (t : SlotFacts D). t.held) slot) ∙ none;
      placed = λ p is. inl (sym (ap (λ (t : SlotFacts D). t.held) slot) ∙ is);
      clear = λ clear. sym (ap (λ (t : SlotFacts D). t.conflict) slot) ∙ clear;
      decided = λ is. decided ∙ is;
      requested = λ is. ap (λ (t : SlotFacts D). t.verify_requested) slot ∙ is;
      leader = λ is. leader;
    };
    verified = λ is. sym (ap (λ (t : SlotFacts D). t.verified) slot) ∙ is;
    binding = binding;
  }

  pub calm : (r : RoundFacts K D) → UnchangedProposal v r r
  calm r = calm_alike r r refl refl refl refl refl

  -- the first leader
  pub calm_led : (r : RoundFacts K D) (leader : Option (Leader K)) → is_some r.leader ≡ false
      → UnchangedProposal v r (record r { leader = leader })
  calm_led r leader none = record {
    grown = record {
      me = refl;
      holding = λ p is clear. is;
      empty = λ is. is;
      placed = λ p is. inl is;
      clear = λ is. is;
      decided = λ is. is;
      requested = λ is. is;
      leader = λ is. absurd (false≢true (sym none ∙ is));
    };
    verified = λ is. is;
    binding = refl;
  }

  -- the vote to notarize is decided
  pub calm_decided : (r : RoundFacts K D) → UnchangedProposal v r (record r { notarize_decided = true })
  calm_decided r = record {
    grown = record {
      me = refl;
      holding = λ p is clear. is;
      empty = λ is. is;
      placed = λ p is. inl is;
      clear = λ is. is;
      decided = λ is. refl;
      requested = λ is. is;
      leader = λ is. refl;
    };
    verified = λ is. is;
    binding = refl;
  }

-- the same of a slot alone
pub record UnchangedSlot {D : Type 0} (v : ℕ) (s t : SlotFacts D) : Type 0 where
  pub holding : (p : Proposal D) → s.held ≡ Some p → t.conflict ≡ false → t.held ≡ Some p
  pub empty : t.held ≡ None → s.held ≡ None
  pub placed : (p : Proposal D) → t.held ≡ Some p → (s.held ≡ Some p) ⊎ (p.round.view ≡ v)
  pub clear : t.conflict ≡ false → s.conflict ≡ false
  pub requested : s.verify_requested ≡ true → t.verify_requested ≡ true
  pub verified : t.verified ≡ true → s.verified ≡ true

left_of_or : (a b : Bool) → (a || b) ≡ false → a ≡ false
left_of_or true b is = absurd (false≢true (sym is))
left_of_or false b is = refl

left_of_and : (a b : Bool) → (a && b) ≡ true → a ≡ true
left_of_and true b is = refl
left_of_and false b is = absurd (false≢true is)

module _ {D : Type 0} (v : ℕ) where
  pub slot_calm : (s : SlotFacts D) → UnchangedSlot v s s
  slot_calm s = record {
    holding = λ p is clear. is;
    empty = λ is. is;
    placed = λ p is. inl is;
    clear = λ is. is;
    requested = λ is. is;
    verified = λ is. is;
  }

  pub slot_in_round : {K : Type 0} (r : RoundFacts K D) (s : SlotFacts D) → UnchangedSlot v r.slot s
      → UnchangedProposal v r (record r { slot = s })
  slot_in_round r s same = record {
    grown = record {
      me = refl;
      holding = same.holding;
      empty = same.empty;
      placed = same.placed;
      clear = same.clear;
      decided = λ is. is;
      requested = same.requested;
      leader = λ is. refl;
    };
    verified = same.verified;
    binding = refl;
  }

  module _ (same : D → D → Bool) where
    -- a proposal of the view in a vote
    pub voted_calm : (s : SlotFacts D) (p : Proposal D) → p.round.view ≡ v
        → UnchangedSlot v s (after_vote (same_proposal same) s p)
    voted_calm s p at = by_held s.held refl
      where
        by_held : (o : Option (Proposal D)) → s.held ≡ o
            → UnchangedSlot v s (option_map_or (λ h.
            record s {
              conflict = s.conflict || not (same_proposal same h p);
              verified = s.verified && same_proposal same h p;
            }) o (record s { held = Some p }))
        by_held None none = record {
          holding = λ q is clear. absurd (let e = sym none ∙ is in cc);
          empty = λ is. none;
          placed = λ q is. inr (let e : p ≡ q = cc in subst (λ (h : Proposal D). h.round.view ≡ v) e at);
          clear = λ is. is;
          requested = λ is. is;
          verified = λ is. is;
        }
        by_held (Some h) some = record {
          holding = λ q is clear. is;
          empty = λ is. is;
          placed = λ q is. inl is;
          clear = λ is. left_of_or s.conflict _ is;
          requested = λ is. is;
          verified = λ is. left_of_and s.verified _ is;
        }

    -- one in a certificate
    pub certificate_calm : (s : SlotFacts D) (p : Proposal D) → p.round.view ≡ v
        → UnchangedSlot v s (after_certificate (same_proposal same) s p)
    certificate_calm s p at = by_held s.held refl
      where
        other : (b : Bool) (h : Proposal D) → s.held ≡ Some h
            → UnchangedSlot v s (if b then s else record
            { held = Some p; conflict = true; verified = false; build_requested = true; verify_requested = true })
        other true h some = slot_calm s
        other false h some = record {
          holding = λ q is clear. absurd (false≢true (sym clear));
          empty = λ is. absurd (cc);
          placed = λ q is. inr (let e : p ≡ q = cc in subst (λ (g : Proposal D). g.round.view ≡ v) e at);
          clear = λ is. absurd (false≢true (sym is));
          requested = λ is. refl;
          verified = λ is. absurd (false≢true is);
        }

        by_held : (o : Option (Proposal D)) → s.held ≡ o
            → UnchangedSlot v s (option_map_or (λ h.
            if same_proposal same h p then s else record
            { held = Some p; conflict = true; verified = false; build_requested = true; verify_requested = true }) o
            (record s { held = Some p }))
        by_held None none = record {
          holding = λ q is clear. absurd (let e = sym none ∙ is in cc);
          empty = λ is. none;
          placed = λ q is. inr (let e : p ≡ q = cc in subst (λ (h : Proposal D). h.round.view ≡ v) e at);
          clear = λ is. is;
          requested = λ is. is;
          verified = λ is. is;
        }
        by_held (Some h) some = other (same_proposal same h p) h some
