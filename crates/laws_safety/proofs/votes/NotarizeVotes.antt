-- A vote to notarize keeps the voting rules, and what the facts show of such votes.
use Rattle.std.proofs.Common.{◌≡◌, refl, ap, sym, ◌∙◌, subst, ℕ, ◌<◌, inl, inr, Bool, true, false, ◌&&◌, not, List, [], ◌∷◌, ◌++◌, Option, Some, None, is_some, unwrap_or, arith}
use Rattle.std.specs.Prelude.{option_map, option_and_then}
use Rattle.std.proofs.lemmas.Bool.{false≢true}
use Rattle.std.proofs.lemmas.Bool.Decides.{nat_tests}
use Rattle.std.proofs.lemmas.List.Elements.{Contains-append_left}
use Rattle.simplex_types.specs.Terms.{covers}
use Rattle.simplex_types.specs.Certificates.{NotarizeVote}
use Rattle.simplex_types.specs.declared.types.messages.Proposal.{Proposal}
use Rattle.simplex_types.specs.declared.types.messages.Subject.TheVariants as subject
use Rattle.simplex_round.specs.Slot.{is_unequivocated}
use Rattle.simplex_round.specs.Round.{RoundFacts, new_round}
use Rattle.simplex_voter.specs.Facts.{StateFacts, Elect, round_at, round_of, round_number, is_tracked, with_round}
use Rattle.simplex_voter.specs.Windows.{is_admitted}
use Rattle.simplex_voter.specs.Leaders.{with_next_view_ready}
use Rattle.simplex_voter.specs.Rules.{may_notarize, NotarizeRule}
use Rattle.simplex_voter.specs.Votes.{notarize_answer}
use Rattle.simplex_voter.specs.Gaps.{IsGapless}
use Rattle.simplex_voter.proofs.Gaps.{and_parts, not_true}
use Rattle.simplex_voter.proofs.Rules.{notarize_parts}
use Rattle.simplex_member.specs.OutstandingWork.{OutstandingWork}
use Rattle.simplex_member.specs.CallSemantics.{notarize_vote}
use Rattle.laws_safety.specs.Traces.{TraceEvent, Accepts, Signs}
use Rattle.laws_safety.proofs.lists.Signed.{signed_push}
use Rattle.laws_safety.proofs.votes.LifeCalls.{none_follows}
use Rattle.laws_safety.proofs.agreement.Lawful.{AllowsNotarize}
use Rattle.laws_safety.proofs.votes.UnchangedProposals.{calm_along, leaves}
use Rattle.simplex_record.specs.Events as event
use Rattle.simplex_record.proofs.Steps.{Still}
use Rattle.simplex_record.proofs.Paths.{to_prepared}
use Rattle.laws_safety.proofs.votes.Proposals.{opposite}
use Rattle.laws_safety.proofs.votes.NotarizeVotesShown.{NotesStand}
use Rattle.laws_safety.proofs.votes.VotedParents.{any_of, bound_reaches}
use Rattle.simplex_record.proofs.Rounds.{round_put}
use Rattle.laws_safety.proofs.votes.NotarizeVotesByWork.{decided_notes}

-- the vote in a reply
module _ {K L D : Type 0} (same : D → D → Bool) (elect : Elect L) (x : StateFacts K L D) (v : ℕ) where
  pub notarize_silent : (is_some x.me && may_notarize same elect x v) ≡ false → notarize_vote same elect x v ≡ None
  notarize_silent no_vote = none_follows _ x.me (λ m. rw no_vote refl)

  pub notarize_replied : (m : ℕ) (h : Proposal D) → x.me ≡ Some m → may_notarize same elect x v ≡ true
      → (round_of x v).slot.held ≡ Some h → notarize_vote same elect x v ≡ Some (NotarizeVote h m)
  notarize_replied m h me may holds =
      let votes : (is_some x.me && may_notarize same elect x v) ≡ true =
      ap (λ b. b && may_notarize same elect x v) (ap is_some me) ∙ may in
      let answered : notarize_answer same elect x v ≡ Some h = rw votes holds in
      ap (option_and_then (λ n. option_map (λ p. NotarizeVote p n) (notarize_answer same elect x v))) me
      ∙ ap (option_map (λ p. NotarizeVote p m)) answered

-- a view that holds a proposal is tracked
pub tracked_held : {K L D : Type 0} (x : StateFacts K L D) (v : ℕ) → is_some (round_of x v).slot.held ≡ true
    → is_tracked x v ≡ true
tracked_held {K} {L} {D} x v holds = by_round (round_at x v) holds
  where
    by_round : (o : Option (RoundFacts K D))
        → is_some (unwrap_or o (new_round x.me x.members (round_number x v))).slot.held ≡ true → is_some o ≡ true
    by_round None holds = absurd (false≢true holds)
    by_round (Some r) holds = refl

admitted_above : {K L D : Type 0} (x : StateFacts K L D) (v : ℕ) → is_admitted x v ≡ true → 0 < v
unfolding is_admitted
admitted_above x v is = grind (arith, nat_tests)

module _ {K L D : Type 0} (same : D → D → Bool) (decides : (d e : D) → same d e ≡ true → d ≡ e) (elect : Elect L)
    (term_length base low : ℕ) (trace : List (TraceEvent D)) (o : OutstandingWork K D) (x : StateFacts K L D)
    (some : 0 < x.terms.term_length) (terms : x.terms.term_length ≡ term_length) (notes : NotesStand base low trace o x)
    (v : ℕ) (may : may_notarize same elect x v ≡ true) where
  rule : NotarizeRule same elect x v
  rule = notarize_parts same elect x v may

  slot_parts : (is_unequivocated (round_of x v).slot ≡ true) × ((round_of x v).slot.verified ≡ true)
  slot_parts = and_parts (is_unequivocated (round_of x v).slot) (round_of x v).slot.verified rule.verified

  held_parts : (is_some (round_of x v).slot.held ≡ true) × ((round_of x v).slot.conflict ≡ false)
  held_parts =
      let parts = and_parts (is_some (round_of x v).slot.held) (not (round_of x v).slot.conflict) slot_parts.0 in
      (parts.0, not_true (round_of x v).slot.conflict parts.1)

  pub voted_tracked : is_tracked x v ≡ true
  voted_tracked = tracked_held x v held_parts.0

  -- the parent lies below, and the state knows nullifications that cover each view between
  pub held_reaches : (p : Proposal D) → (round_of x v).slot.held ≡ Some p → (p.parent < v) × IsGapless x p.parent v
  held_reaches p holds =
      let bound = (notes.tidy v (notes.above v voted_tracked)).bound slot_parts.1 held_parts.1 rule.first_vote in
      let one : bound.0 ≡ p = ap (λ f. unwrap_or f p) (sym bound.2 ∙ holds) in
      let binding : (round_of x v).binding ≡ Some (p, bound.1) =
      subst (λ q. (round_of x v).binding ≡ Some (q, bound.1)) one bound.3 in
      bound_reaches same decides elect x v some (admitted_above x v rule.admitted) rule.bound p bound.1 holds binding

  -- the rules allow it
  pub notarize_allowed : (p : Proposal D) → (round_of x v).slot.held ≡ Some p → AllowsNotarize term_length trace p
  notarize_allowed p holds =
      let over = notes.above v voted_tracked in
      let at : p.round.view ≡ v = notes.placed v p holds in
      let reaches = held_reaches p holds in
      record {
        only = λ q h is.
            (let here : q.round.view ≡ v = is ∙ at in
            let decided = notes.voted q h (omega (arith, here, notes.worked v slot_parts.1 rule.first_vote))
            (omega (arith, here, over)) in
            opposite (round_of x v).notarize_decided (subst (λ u. (round_of x u).notarize_decided ≡ true) here decided)
            rule.first_vote);
        parent_before = omega (arith, at, reaches.0);
        gapless = λ skipped above below.
            (let found = any_of (λ u. covers x.terms.term_length u skipped) x.nullified
            (reaches.1 skipped above (omega (arith, at, below))) in
            let accepted = notes.covered found.0 found.1 in
            let cover : covers x.terms.term_length accepted.0.view skipped ≡ true =
            subst (λ u. covers x.terms.term_length u skipped ≡ true) (sym accepted.2) found.2 in
            (accepted.0, accepted.1, subst (λ t. covers t accepted.0.view skipped ≡ true) terms cover));
      }

  -- and it is decided then
  pub notarize_noted : (p : Proposal D) (m : ℕ) → (round_of x v).slot.held ≡ Some p
      → NotesStand base low (trace ++ Signs m (subject.Notarize p) ∷ []) o
      (with_next_view_ready elect (with_round x v (record (round_of x v) { notarize_decided = true })) v)
  notarize_noted p m holds =
      let y = with_round x v (record (round_of x v) { notarize_decided = true }) in
      let z = with_next_view_ready elect y v in
      let kept = decided_notes same decides elect base low trace o x notes v may voted_tracked in
      let at : p.round.view ≡ v = notes.placed v p holds in
      let decided : (round_of z v).notarize_decided ≡ true =
      ((calm_along same elect y event.CertifyCandidates base (leaves refl) y _
      (to_prepared v (notes.above v voted_tracked) Still)).rounds v).grown.decided
      (ap (λ (r : RoundFacts K D). r.notarize_decided)
      (round_put x v (record (round_of x v) { notarize_decided = true }))) in
      record {
        above = kept.above;
        active = kept.active;
        reached = kept.reached;
        tidy = kept.tidy;
        placed = kept.placed;
        worked = kept.worked;
        verifying_low = kept.verifying_low;
        context_low = kept.context_low;
        contexts_placed = kept.contexts_placed;
        voted = λ q h above over. elim (signed_push trace (Signs m (subject.Notarize p)) (subject.Notarize q) h) [
          | inl old ↦ kept.voted q old above over
          | inr new ↦ (let one : p ≡ q = cc in subst (λ u. (round_of z u).notarize_decided ≡ true)
              (sym at ∙ ap (λ (k : Proposal D). k.round.view) one) decided)
        ];
        covered = λ u h. (let c = kept.covered u h in (
          c.0,
          Contains-append_left trace (Signs m (subject.Notarize p) ∷ []) (Accepts (subject.Nullify c.0)) c.1,
          c.2,
        ));
      }
