-- What the facts show of the votes holds after each event: by the changes of one round.
use Rattle.std.proofs.Common.{◌≡◌, ◌≢◌, refl, ap, sym, ◌∙◌, subst, ℕ, ◌+◌, ◌<◌, ◌≤◌, ◌⊎◌, inl, inr, Bool, true, false, nat_le, List, Contains, Some, None, unwrap_or, arith}
use Rattle.std.proofs.lemmas.Bool.{cases_Bool, false≢true, leb-false}
use Rattle.simplex_types.specs.Proposal.{same_proposal}
use Rattle.simplex_types.specs.Certificates.{ProposalFacts}
use Rattle.simplex_types.specs.declared.types.messages.Proposal.{Proposal}
use Rattle.simplex_types.specs.declared.types.messages.Subject.TheVariants as subject
use Rattle.simplex_types.specs.declared.types.numbers.Round.{Round}
use Rattle.simplex_round.specs.Slot.{after_certificate}
use Rattle.simplex_round.specs.Round.{RoundFacts, new_round, is_nullify, is_finalize}
use Rattle.simplex_voter.specs.Facts.{StateFacts, Elect, round_of, round_number}
use Rattle.simplex_voter.specs.Windows.{min_active}
use Rattle.simplex_voter.specs.ProposalRequests.{proposal_of}
use Rattle.simplex_record.specs.Events as event
use Rattle.simplex_record.specs.Events.{Event, IsEvent, after_event, is_prune, finalized_by_event}
use Rattle.laws_safety.specs.Traces.{TraceEvent, Accepts}
use Rattle.laws_safety.specs.Lawful.{HasSigned}
use Rattle.laws_safety.proofs.frames.EachRound.{step_round, pruned_round}
use Rattle.simplex_record.proofs.Rounds.{armed_nullify, armed_finalize, latched_nullify, latched_finalize, aborted_certified, awaited_nullify}
use Rattle.laws_safety.proofs.votes.NullifyVotes.{noted_old, noted_kept}
use Rattle.simplex_record.proofs.Paths.{event_path, asked_of_all}
use Rattle.laws_safety.proofs.votes.ShownVotes.{RoundShowsVotes, ShowsVotes, HasFinal, ShowsVotesInLife, round_later, stands_later, stands_put}
use Rattle.laws_safety.proofs.votes.ShownVotesInRounds.{HoldsUncontested, holds_new, holds_old, holds_own, holds_voted, fresh_stands}
use Rattle.laws_safety.proofs.frames.CallsMake.{is_floor}
use Rattle.laws_safety.proofs.frames.NoLowerViews.{event_goes}
use Rattle.laws_safety.proofs.frames.Sound.{IsAhead, event_ahead}
use Rattle.simplex_record.proofs.Steps as step
use Rattle.simplex_record.proofs.Steps.{RoundStep, Step, Puts, Notes, Raises, Scans, Prunes, along, IsSilent, notarization_by, verdict_by, nullify_by, finalize_by}

-- what must be known of an event: what it brings was accepted, a view that it judges to be true or decides to finalize
-- is passed, and a
-- vote that it decides is allowed, or meets no vote of the other kind
pub record Suits {K L D : Type 0} (trace : List (TraceEvent D)) (reached : ℕ) (x : StateFacts K L D)
    (e : Event K D) : Type 0 where
  pub notarized : (c : ProposalFacts D) → notarization_by e ≡ Some c
      → Contains trace (Accepts (subject.Notarize c.proposal))
  pub finalized : HasFinal trace (finalized_by_event e)
  pub enters : (v : ℕ) → verdict_by e ≡ Some (v, true) → v < reached
  pub leaves : (v : ℕ) → finalize_by e ≡ Some v → v < reached
  pub nullifies : (v : ℕ) → nullify_by e ≡ Some v
      → IsEvent x e ⊎ ((p : Proposal D) → HasSigned trace (subject.Finalize p) → v ≢ p.round.view)
  pub finalizes : (v : ℕ) → finalize_by e ≡ Some v
      → IsEvent x e ⊎ ((round : Round) → HasSigned trace (subject.Nullify round) → round.view ≢ v)

module _ {K L D : Type 0} (trace : List (TraceEvent D)) (reached : ℕ) (x : StateFacts K L D) (e : Event K D) where
  -- an event that brings no notarization and no finalization and decides no vote
  pub plain_suits : notarization_by e ≡ None → finalized_by_event e ≡ 0 → nullify_by e ≡ None → finalize_by e ≡ None
      → ((v : ℕ) → verdict_by e ≡ Some (v, true) → v < reached) → Suits trace reached x e
  plain_suits notarization final nullify finalize enters = record {
    notarized = λ c says. absurd (cc);
    finalized = inl final;
    enters = enters;
    leaves = λ v says. absurd (cc);
    nullifies = λ v says. absurd (cc);
    finalizes = λ v says. absurd (cc);
  }

  pub silent_suits : IsSilent e → Suits trace reached x e
  silent_suits silent = plain_suits silent.notarization silent.final silent.nullify silent.finalize
      (λ v says. absurd (let none = silent.verdict in cc))

prune_finalizes_none : {K D : Type 0} (e : Event K D) → is_prune e ≡ true → finalized_by_event e ≡ 0
prune_finalizes_none event.Prune is = refl
prune_finalizes_none _ is = absurd (false≢true is)

-- a decision of another kind keeps a finalization
passed_by : (a : Bool) (P : Type 0) → a ≡ false → (a ≡ true) ⊎ P → (b : Bool) → (b ≡ true) ⊎ P
passed_by a P isnt (inl is) b = absurd (false≢true (sym isnt ∙ is))
passed_by a P isnt (inr p) b = inr p

module _ {K L D : Type 0} (same : D → D → Bool) (decides : (d e : D) → same d e ≡ true → d ≡ e) (elect : Elect L)
    (term_length : ℕ) (trace : List (TraceEvent D)) (reached : ℕ) (x : StateFacts K L D) (e : Event K D)
    (suits : Suits trace reached x e) where
  change_stands : (finalized : ℕ) (y : StateFacts K L D) (v : ℕ) (r s : RoundFacts K D)
      → RoundStep same elect x e y v r s → RoundShowsVotes trace reached finalized v r
      → RoundShowsVotes trace reached finalized v s
  change_stands finalized y v r s (step.Notarized c says at none) p = record {
    notarized = λ d is. (let alike : c ≡ d = cc in
        subst (λ (f : ProposalFacts D). (f.proposal.round.view ≡ v)
        × Contains trace (Accepts (subject.Notarize f.proposal))) alike (at, suits.notarized c says));
    held = λ d is. (let alike : c ≡ d = cc in
        subst (λ (f : ProposalFacts D). HoldsUncontested (after_certificate (same_proposal same) r.slot c.proposal)
        f.proposal) alike (holds_new same decides r.slot c.proposal));
    entered = p.entered;
    left = p.left;
    nullify_decided = p.nullify_decided;
    finalize_decided = p.finalize_decided;
  }
  change_stands finalized y v r s (step.Finalized c says at none) p =
      record {
        notarized = p.notarized;
        held =
            λ d is. holds_old same decides r.slot c.proposal d.proposal (p.held d is);
        entered = p.entered;
        left = p.left;
        nullify_decided = p.nullify_decided;
        finalize_decided = p.finalize_decided;
      }
  change_stands finalized y v r s (step.Judged true says fits) p =
      record {
        notarized = p.notarized;
        held = p.held;
        entered = λ is. suits.enters v says;
        left = p.left;
        nullify_decided = p.nullify_decided;
        finalize_decided = p.finalize_decided;
      }
  change_stands finalized y v r s (step.Judged false says fits) p =
      record {
        notarized = p.notarized;
        held = p.held;
        entered = λ is. absurd (false≢true is);
        left = p.left;
        nullify_decided = p.nullify_decided;
        finalize_decided = p.finalize_decided;
      }
  change_stands finalized y v r s (step.Certifying token says fits) p =
      record {
        notarized = p.notarized;
        held = p.held;
        entered = λ is. absurd (false≢true is);
        left = p.left;
        nullify_decided = p.nullify_decided;
        finalize_decided = p.finalize_decided;
      }
  change_stands finalized y v r s (step.Ended under_way) p =
      record {
        notarized = p.notarized;
        held = p.held;
        entered = λ is. p.entered (sym (aborted_certified r.certification) ∙ is);
        left = p.left;
        nullify_decided = p.nullify_decided;
        finalize_decided = p.finalize_decided;
      }
  change_stands finalized y v r s (step.NullifyDecided says fits) p =
      record {
        notarized = p.notarized;
        held = p.held;
        entered = p.entered;
        left = λ is. absurd (false≢true is);
        nullify_decided = λ round h at. inl refl;
        finalize_decided = λ q h at. elim (suits.nullifies v says) [
          | inl takes ↦ passed_by (is_finalize r.decision) (v ≤ finalized) (fits takes) (p.finalize_decided q h at)
              false
          | inr apart ↦ absurd (apart q h (sym at))
        ];
      }
  change_stands finalized y v r s (step.FinalizeDecided says fits) p =
      record {
        notarized = p.notarized;
        held = p.held;
        entered = p.entered;
        left = λ is. suits.leaves v says;
        nullify_decided = λ round h at. elim (suits.finalizes v says) [
          | inl takes ↦ passed_by (is_nullify r.decision) (v ≤ finalized) (fits takes) (p.nullify_decided round h at)
              false
          | inr apart ↦ absurd (apart round h at)
        ];
        finalize_decided = λ q h at. inl refl;
      }
  change_stands finalized y v r s (step.Entered now) p =
      record {
        notarized = p.notarized;
        held = p.held;
        entered = p.entered;
        left = λ is. p.left (sym (armed_finalize r.decision (now + y.settings.leader_timeout)
            (now + y.settings.certification_timeout)) ∙ is);
        nullify_decided = λ round h at. elim (p.nullify_decided round h at)
            [ inl is ↦ inl (armed_nullify r.decision _ _ ∙ is) | inr below ↦ inr below ];
        finalize_decided = λ q h at. elim (p.finalize_decided q h at)
            [ inl is ↦ inl (armed_finalize r.decision _ _ ∙ is) | inr below ↦ inr below ];
      }
  change_stands finalized y v r s (step.Latched now reason) p =
      record {
        notarized = p.notarized;
        held = p.held;
        entered = p.entered;
        left = λ is. p.left (sym (latched_finalize r.decision (now, reason)) ∙ is);
        nullify_decided = λ round h at. elim (p.nullify_decided round h at)
            [ inl is ↦ inl (latched_nullify r.decision (now, reason) ∙ is) | inr below ↦ inr below ];
        finalize_decided = λ q h at. elim (p.finalize_decided q h at)
            [ inl is ↦ inl (latched_finalize r.decision (now, reason) ∙ is) | inr below ↦ inr below ];
      }
  change_stands finalized y v r s (step.Retried now interval says awaits) p =
      record {
        notarized = p.notarized;
        held = p.held;
        entered = p.entered;
        left = λ is. absurd (false≢true is);
        nullify_decided = λ round h at. inl refl;
        finalize_decided = λ q h at. passed_by (is_finalize r.decision) (v ≤ finalized) (awaited_nullify r awaits).1
            (p.finalize_decided q h at) false;
      }
  change_stands finalized y v r s (step.Received q says free) p =
      record {
        notarized = p.notarized;
        held = λ d is. holds_voted same r.slot q d.proposal (p.held d is);
        entered = p.entered;
        left = p.left;
        nullify_decided = p.nullify_decided;
        finalize_decided = p.finalize_decided;
      }
  change_stands finalized y v r s (step.Built context payload now says is at) p =
      record {
        notarized = p.notarized;
        held =
            λ d is. holds_own same decides r.slot (proposal_of context payload) d.proposal (p.held d is);
        entered = p.entered;
        left = p.left;
        nullify_decided = p.nullify_decided;
        finalize_decided = p.finalize_decided;
      }
  change_stands finalized y v r s (step.VotedAgain q binding says at is) p =
      record {
        notarized = p.notarized;
        held = λ d is. holds_own same decides r.slot q d.proposal (p.held d is);
        entered = p.entered;
        left = p.left;
        nullify_decided = p.nullify_decided;
        finalize_decided = p.finalize_decided;
      }
  change_stands finalized y v r s _ p = record {
    notarized = p.notarized;
    held = p.held;
    entered = p.entered;
    left = p.left;
    nullify_decided = p.nullify_decided;
    finalize_decided = p.finalize_decided;
  }

  step_stands : (y z : StateFacts K L D) → Step same elect x e 0 y z → ShowsVotes term_length trace reached y
      → ShowsVotes term_length trace reached z
  step_stands y z (Puts v r may change) p =
      stands_put term_length trace reached y v r (change_stands y.finalized y v (round_of y v) r change (p.rounds v)) p
  step_stands y z (Raises v says above) p = record {
    terms = p.terms;
    rounds = λ w. elim (step_round same elect x e 0 y _ (Raises v says above) w) [
      | inl change ↦ change_stands v y w (round_of y w) _ change
          (round_later trace reached reached y.finalized v w (round_of y w) (omega arith) (omega arith) (p.rounds w))
      | inr prunes ↦ absurd (let none = prune_finalizes_none e prunes.0 in omega (arith, none, says, above))
    ];
    passed = p.passed;
    noted = λ round h. (
      (p.noted round h).0,
      elim (p.noted round h).1 [ inl noted ↦ inl noted | inr below ↦ inr (omega (arith, below, above)) ],
    );
  }
  step_stands y z (Scans is) p = record {
    terms = p.terms;
    rounds = λ w. elim (step_round same elect x e 0 y _ (Scans is) w) [
      | inl change ↦ change_stands y.finalized y w (round_of y w) _ change (p.rounds w)
      | inr prunes ↦ absurd (false≢true (ap is_prune (sym is) ∙ prunes.0))
    ];
    passed = p.passed;
    noted = p.noted;
  }
  step_stands y z (Notes u says) p = record {
    terms = p.terms;
    rounds = p.rounds;
    passed = p.passed;
    noted = λ round h. (
      (p.noted round h).0,
      elim (p.noted round h).1
          [ inl noted ↦ inl (noted_old u round.view y.nullify_votes noted) | inr below ↦ inr below ],
    );
  }
  step_stands y z (Prunes is) p = record {
    terms = p.terms;
    rounds = λ w. elim (pruned_round y w) [
      | inl kept ↦ subst (RoundShowsVotes trace reached y.finalized w) (sym kept) (p.rounds w)
      | inr gone ↦ subst (λ o. RoundShowsVotes trace reached y.finalized w
          (unwrap_or o (new_round y.me y.members (round_number y w)))) (sym gone.untracked)
          (fresh_stands trace reached y.finalized w y.me y.members (round_number y w)
          (let below = gone.below in omega (arith, below)))
    ];
    passed = p.passed;
    noted = λ round h. (
      (p.noted round h).0,
      elim (p.noted round h).1 [
        | inr below ↦ inr below
        | inl noted ↦ elim (cases_Bool (nat_le (min_active y) round.view)) [
          | inl kept ↦ inl (noted_kept (λ u. nat_le (min_active y) u) round.view y.nullify_votes kept noted)
          | inr dropped ↦ inr (omega (arith, leb-false (min_active y) round.view dropped))
        ]
      ],
    );
  }
  step_stands y z _ p = record { terms = p.terms; rounds = p.rounds; passed = p.passed; noted = p.noted }

  pub event_stands : ShowsVotes term_length trace reached x
      → ShowsVotes term_length trace reached (after_event same elect x e)
  event_stands p = along same elect x e 0 (ShowsVotes term_length trace reached) step_stands x
      (after_event same elect x e) (event_path same elect 0 x e (omega arith) (asked_of_all x e)) p

  step_final : (y z : StateFacts K L D) → Step same elect x e 0 y z → HasFinal trace y.finalized
      → HasFinal trace z.finalized
  step_final y z (Raises v says above) p = subst (λ n. HasFinal trace n) says suits.finalized
  step_final y z _ p = p

  pub event_final : HasFinal trace x.finalized → HasFinal trace (after_event same elect x e).finalized
  event_final p = along same elect x e 0 (λ y. HasFinal trace y.finalized) step_final x (after_event same elect x e)
      (event_path same elect 0 x e (omega arith) (asked_of_all x e)) p

module _ {K L D : Type 0} (same : D → D → Bool) (decides : (d e : D) → same d e ≡ true → d ≡ e) (elect : Elect L)
    (term_length : ℕ) (trace : List (TraceEvent D)) (x : StateFacts K L D) (e : Event K D)
    (suits : Suits trace (after_event same elect x e).current x e) where
  -- an event, also the floor of a new state
  pub event_stays : IsAhead x ⊎ ((x.finalized ≡ 0) × (is_floor e ≡ true))
      → ShowsVotes term_length trace (after_event same elect x e).current x → HasFinal trace x.finalized
      → ShowsVotesInLife term_length trace (after_event same elect x e)
  event_stays ahead stands final = record {
    stands = event_stands same decides elect term_length trace (after_event same elect x e).current x e suits stands;
    ahead = event_ahead same elect x e ahead;
    final = event_final same decides elect term_length trace (after_event same elect x e).current x e suits final;
  }

  -- an event of a lifetime
  pub stays_on : ShowsVotesInLife term_length trace x → ShowsVotesInLife term_length trace (after_event same elect x e)
  stays_on stays = event_stays (inl stays.ahead)
      (stands_later term_length trace x.current (after_event same elect x e).current x
      (event_goes same elect x e).current stays.stands) stays.final
