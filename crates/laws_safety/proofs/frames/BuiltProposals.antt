-- Where each proposal that comes to a state has a property, each one that it holds has it.
use Rattle.std.proofs.Common.{◌≡◌, ap, sym, ◌∙◌, subst, ℕ, ◌⊎◌, inl, inr, Bool, true, Option, Some, None, unwrap_or, arith}
use Rattle.simplex_types.specs.Certificates.{ProposalFacts}
use Rattle.simplex_types.specs.declared.types.messages.Context.{Context}
use Rattle.simplex_types.specs.declared.types.messages.Proposal.{Proposal}
use Rattle.simplex_round.specs.Round.{RoundFacts, new_round}
use Rattle.simplex_voter.specs.Facts.{StateFacts, Elect, round_of, round_number}
use Rattle.simplex_voter.specs.ProposalRequests.{proposal_of}
use Rattle.simplex_record.specs.Events.{Event, after_event, Proposed}
use Rattle.std.specs.Option.{option_or}
use Rattle.laws_safety.proofs.frames.EachRound.{rounds_or_gone}
use Rattle.laws_safety.proofs.votes.HeldProposals.{settled_held, own_held, received_held}
use Rattle.simplex_record.proofs.Paths.{event_path, asked_of_all}
use Rattle.simplex_record.proofs.Steps as step
use Rattle.simplex_record.proofs.Steps.{RoundStep, notarization_by, finalization_by, proposal_by, note_by}

module _ {K D : Type 0} (Q : Proposal D → Type 0) where
  -- each proposal that an event brings has the property
  pub record BringsProposals (e : Event K D) : Type 0 where
    pub notarized : (c : ProposalFacts D) → notarization_by e ≡ Some c → Q c.proposal
    pub finalized : (c : ProposalFacts D) → finalization_by e ≡ Some c → Q c.proposal
    pub received : (v : ℕ) (p : Proposal D) → proposal_by e ≡ Some (v, p) → Q p
    pub noted : (p : Proposal D) → note_by e ≡ Some p → Q p
    pub built : (context : Context D K) (payload : D) (now : ℕ) → e ≡ Proposed context payload now
        → Q (proposal_of context payload)

  -- the proposal that a round holds has it
  abbrev pub HoldsOf : RoundFacts K D → Type 0
  HoldsOf r = (p : Proposal D) → r.slot.held ≡ Some p → Q p

-- each proposal that a state holds has it
abbrev pub AllHeld : {K L D : Type 0} → (Proposal D → Type 0) → StateFacts K L D → Type 0
AllHeld Q x = (v : ℕ) → HoldsOf Q (round_of x v)

held_or_brought : {D : Type 0} (o : Option (Proposal D)) (p q : Proposal D) → option_or o (Some p) ≡ Some q
    → (o ≡ Some q) ⊎ (p ≡ q)
held_or_brought None p q is = inr (let same : p ≡ q = cc in same)
held_or_brought (Some h) p q is = inl is

module _ {K L D : Type 0} (same : D → D → Bool) (decides : (d e : D) → same d e ≡ true → d ≡ e) (elect : Elect L)
    (Q : Proposal D → Type 0) (x : StateFacts K L D) (e : Event K D) (brings : BringsProposals Q e) where
  one_of : (o : Option (Proposal D)) (p q : Proposal D) → ((r : Proposal D) → o ≡ Some r → Q r) → Q p
      → option_or o (Some p) ≡ Some q → Q q
  one_of o p q old new is = elim (held_or_brought o p q is) [ inl before ↦ old q before | inr here ↦ subst Q here new ]

  the_one : (p q : Proposal D) → Q p → Some p ≡ Some q → Q q
  the_one p q new is = let here : p ≡ q = cc in subst Q here new

  change_held : (y : StateFacts K L D) (v : ℕ) (r s : RoundFacts K D) → RoundStep same elect x e y v r s → HoldsOf Q r
      → HoldsOf Q s
  change_held y v r s (step.Notarized c says at none) holds q is =
      the_one c.proposal q (brings.notarized c says) (sym (settled_held same decides r.slot c.proposal) ∙ is)
  change_held y v r s (step.Finalized c says at none) holds q is =
      the_one c.proposal q (brings.finalized c says) (sym (settled_held same decides r.slot c.proposal) ∙ is)
  change_held y v r s (step.VotedAgain p binding says at bound) holds q is =
      one_of r.slot.held p q holds (brings.noted p says) (sym (own_held same r.slot p decides) ∙ is)
  change_held y v r s (step.Received p says undecided) holds q is =
      one_of r.slot.held p q holds (brings.received v p says) (sym (received_held same r.slot p) ∙ is)
  change_held y v r s (step.Built context payload now says answered at) holds q is =
      one_of r.slot.held (proposal_of context payload) q holds (brings.built context payload now says)
      (sym (own_held same r.slot (proposal_of context payload) decides) ∙ is)
  change_held y v r s _ holds q is = holds q is

  pub event_held : AllHeld Q x → AllHeld Q (after_event same elect x e)
  event_held all v = elim (rounds_or_gone same elect x e 0 (λ w r s. HoldsOf Q r → HoldsOf Q s)
      (λ w r s t first second holds. second (first holds)) change_held
      (event_path same elect 0 x e (omega arith) (asked_of_all x e)) v) [
        | inl changes ↦ changes (all v)
        | inr (prunes, gone) ↦
            (let y = after_event same elect x e in
            λ p is.
            absurd (let none = sym (ap (λ o. (unwrap_or o (new_round y.me y.members (round_number y v))).slot.held)
            gone.untracked) ∙ is in cc))
      ]
