-- The proposal that a slot holds once a certificate settles it, or its own or another is received.
use Rattle.std.proofs.Common.{◌≡◌, refl, ap, sym, ◌∙◌, Bool, true, false, ◌&&◌, ◌||◌, not, if◌then◌else◌, Option, Some, None}
use Rattle.std.specs.Option.{option_or, option_map_or}
use Rattle.simplex_types.specs.Proposal.{same_proposal}
use Rattle.simplex_types.specs.declared.types.messages.Proposal.{Proposal}
use Rattle.simplex_types.proofs.Proposal.{same_proposal-true}
use Rattle.simplex_round.specs.Slot.{SlotFacts, after_certificate, after_own, after_vote}

module _ {D : Type 0} (same : D → D → Bool) (decides : (d e : D) → same d e ≡ true → d ≡ e) (s : SlotFacts D)
    (p : Proposal D) where
  pub settled_held : (after_certificate (same_proposal same) s p).held ≡ Some p
  settled_held = by_held s.held refl
    where
      by_same : (h : Proposal D) (b : Bool) → same_proposal same h p ≡ b → s.held ≡ Some h
          → (if b then s else record {
            held = Some p;
            conflict = true;
            verified = false;
            build_requested = true;
            verify_requested = true;
          }).held ≡ Some p
      by_same h true is held_is = held_is ∙ ap (λ q. Some q) (same_proposal-true same decides h p is)
      by_same h false is held_is = refl

      by_held : (o : Option (Proposal D)) → s.held ≡ o → (after_certificate (same_proposal same) s p).held ≡ Some p
      by_held None is = rw is refl
      by_held (Some h) is = ap (λ o. (option_map_or
          (λ q. if same_proposal same q p then s
          else record {
            held = Some p;
            conflict = true;
            verified = false;
            build_requested = true;
            verify_requested = true;
          }) o (record s { held = Some p })).held) is
          ∙ by_same h (same_proposal same h p) refl is

module _ {D : Type 0} (same : D → D → Bool) (s : SlotFacts D) (p : Proposal D) where
  -- a proposal of one's own is held where none was
  pub own_held : ((d e : D) → same d e ≡ true → d ≡ e)
      → (after_own (same_proposal same) s p).held ≡ option_or s.held (Some p)
  own_held decides = by_held s.held refl
    where
      own : SlotFacts D
      own = record {
        held = Some p;
        conflict = s.conflict;
        verified = not s.conflict;
        build_requested = true;
        verify_requested = true;
      }

      by_same : (h : Proposal D) (b : Bool) → same_proposal same h p ≡ b → s.held ≡ Some h
          → (if b then own else s).held ≡ Some h
      by_same h true is held_is = ap (λ q. Some q) (sym (same_proposal-true same decides h p is))
      by_same h false is held_is = held_is

      by_held : (o : Option (Proposal D)) → s.held ≡ o
          → (after_own (same_proposal same) s p).held ≡ option_or s.held (Some p)
      by_held None is = ap (λ q. (if option_map_or (λ h. same_proposal same h p) q true then own else s).held) is
          ∙ sym (ap (λ q. option_or q (Some p)) is)
      by_held (Some h) is = ap (λ q. (if option_map_or (λ g. same_proposal same g p) q true then own else s).held) is
          ∙ by_same h (same_proposal same h p) refl is ∙ sym (ap (λ q. option_or q (Some p)) is)

  -- and so is one that is received
  pub received_held : (after_vote (same_proposal same) s p).held ≡ option_or s.held (Some p)
  received_held = by_held s.held refl
    where
      by_held : (o : Option (Proposal D)) → s.held ≡ o
          → (option_map_or (λ h. record s {
            conflict = s.conflict || not (same_proposal same h p);
            verified = s.verified && same_proposal same h p;
          }) o (record s { held = Some p })).held ≡ option_or o (Some p)
      by_held None is = refl
      by_held (Some h) is = is
