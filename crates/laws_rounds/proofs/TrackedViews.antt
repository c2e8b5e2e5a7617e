-- A view whose notarization a state tracks keeps it until it lies below the retained ones.
use Rattle.std.proofs.Common.{◌≡◌, refl, ap, sym, ◌∙◌, ℕ, ◌<◌, ◌≤◌, ◌⊎◌, inl, inr, Bool, true, Option, Some, None, is_some, unwrap_or, arith}
use Rattle.std.specs.Prelude.{◌+◌, option_and_then}
use Rattle.simplex_types.specs.Certificates.{ProposalFacts}
use Rattle.simplex_types.specs.Proposal.{same_proposal}
use Rattle.simplex_round.specs.Round.{RoundFacts, new_round, with_notarization}
use Rattle.simplex_voter.specs.Acceptance.{with_notarization_at, after_add_notarization}
use Rattle.simplex_voter.specs.Facts.{StateFacts, Elect, round_at, round_of, round_number}
use Rattle.simplex_voter.specs.Leaders.{with_elected_leader}
use Rattle.simplex_voter.specs.StateAnswers.{notarization_of}
use Rattle.simplex_voter.specs.Windows.{min_active}
use Rattle.simplex_record.specs.Events as event
use Rattle.simplex_record.specs.Events.{Event, after_event}
use Rattle.simplex_record.proofs.Paths.{event_path, asked_of_all, from_notarized}
use Rattle.simplex_record.proofs.RoundChanges.{round_of-same, notarization_stands}
use Rattle.simplex_record.proofs.Steps as step
use Rattle.simplex_record.proofs.Steps.{RoundStep, Still}
use Rattle.simplex_member.specs.Calls.{CallFacts}
use Rattle.simplex_member.specs.CallSemantics.{after_call}
use Rattle.simplex_member.specs.OutstandingWork.{OutstandingWork}
use Rattle.simplex_member.proofs.EventsMake.{call_by_any}
use Rattle.laws_safety.proofs.frames.EachRound.{rounds_along, rounds_or_gone}
use Rattle.laws_safety.proofs.frames.NoLowerViews.{event_goes, floor_goes}

-- the notarization of a view is tracked
abbrev pub Tracks : {K L D : Type 0} → StateFacts K L D → ℕ → Type 0
Tracks x v = is_some (notarization_of x v) ≡ true

-- where the first state tracks it, so does the last, or the view lies below its retained ones
abbrev pub KeepsTracked : {K L D : Type 0} → StateFacts K L D → StateFacts K L D → Type 0
KeepsTracked x y = (v : ℕ) → Tracks x v → (v < min_active y) ⊎ Tracks y v

module _ {K L D : Type 0} where
  in_round : (x : StateFacts K L D) (v : ℕ) → is_some (notarization_of x v) ≡ is_some (round_of x v).notarization
  in_round x v = by_round (round_at x v)
    where
      by_round : (o : Option (RoundFacts K D))
          → is_some (option_and_then (λ (r : RoundFacts K D). r.notarization) o)
          ≡ is_some (unwrap_or o (new_round x.me x.members (round_number x v))).notarization
      by_round None = refl
      by_round (Some r) = refl

  pub tracked_still : (x : StateFacts K L D) → KeepsTracked x x
  tracked_still x v has = inr has

  pub tracked_both : (x y z : StateFacts K L D) → min_active y ≤ min_active z → KeepsTracked x y → KeepsTracked y z
      → KeepsTracked x z
  tracked_both x y z rises p q v has = elim (p v has) [
    | inl below ↦ inl (omega (arith, below, rises))
    | inr stays ↦ q v stays
  ]

-- ---- an event

-- a round keeps its notarization
abbrev KeepsIt : {K D : Type 0} → ℕ → RoundFacts K D → RoundFacts K D → Type 0
KeepsIt v r s = is_some r.notarization ≡ true → is_some s.notarization ≡ true

module _ {K L D : Type 0} (same : D → D → Bool) (elect : Elect L) (x : StateFacts K L D) (e : Event K D) where
  keeps_on : (v : ℕ) (r s t : RoundFacts K D) → KeepsIt v r s → KeepsIt v s t → KeepsIt v r t
  keeps_on v r s t p q = λ has. q (p has)

  change_keeps : (y : StateFacts K L D) (v : ℕ) (r s : RoundFacts K D) → RoundStep same elect x e y v r s
      → KeepsIt v r s
  change_keeps y v r s (step.Notarized c says at none) = λ has. refl
  change_keeps y v r s _ = λ has. has

  event_keeps : KeepsTracked x (after_event same elect x e)
  event_keeps v has =
      let y = after_event same elect x e in
      elim (rounds_or_gone same elect x e 0 KeepsIt keeps_on change_keeps
      (event_path same elect 0 x e (omega arith) (asked_of_all x e)) v) [
        | inl keeps ↦ inr (in_round y v ∙ keeps (sym (in_round x v) ∙ has))
        | inr gone ↦
            let low = gone.1.below in
            let rises = floor_goes x y (event_goes same elect x e) in
            inl (omega (arith, low, rises))
      ]

module _ {K L D : Type 0} (same : D → D → Bool) (elect : Elect L) (x : StateFacts K L D) where
  pub call_keeps : (o : OutstandingWork K D) (call : CallFacts D) → KeepsTracked x (after_call same elect x o call)
  call_keeps o call =
      call_by_any same elect x o (KeepsTracked x) (tracked_still x) (λ e. event_keeps same elect x e) call

  -- one that is added is tracked
  pub added_tracked : (c : ProposalFacts D) → Tracks (after_add_notarization same elect x c) c.proposal.round.view
  added_tracked c =
      let v = c.proposal.round.view in
      let led = with_elected_leader elect x (v + 1) (Some c.bytes) in
      let y = with_notarization_at same elect led c in
      let z = after_add_notarization same elect x c in
      let e : Event K D = event.AddNotarization c in
      let there : is_some (round_of y v).notarization ≡ true =
      ap (λ (r : RoundFacts K D). is_some r.notarization)
      (round_of-same led v (with_notarization (same_proposal same) (round_of led v) c))
      ∙ notarization_stands (same_proposal same) (round_of led v) c in
      in_round z v
      ∙ rounds_along same elect x e 0 KeepsIt (keeps_on same elect x e) (change_keeps same elect x e) refl y z
      (from_notarized c (omega arith) Still) v there
