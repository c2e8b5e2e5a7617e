-- Which inputs an engine admits, by what its member's state knows.
use Rattle.std.specs.Prelude.{◌≡◌, ◌+◌, ◌-◌, ◌^◌, ℕ, List, [], ◌∷◌, ◌++◌, length, min, Bool, true, false, not, ◌&&◌, ◌==◌, is_none, if◌then◌else◌}
use Rattle.std.specs.Option.{option_map_or}
use Rattle.simplex_types.specs.Certificates.{CertificateFacts, Notarized, Nullified, Finalized, certificate_facts}
use Rattle.simplex_types.specs.declared.types.messages.Proposal.{Proposal}
use Rattle.simplex_types.specs.declared.types.numbers.Round.{Round}
use Rattle.simplex_voter.specs.Facts.{StateFacts}
use Rattle.simplex_voter.specs.Refusals.{is_started, takes_round}
use Rattle.simplex_voter.specs.StateAnswers.{leader_of, notarization_of, nullification_of, finalization_of}
use Rattle.simplex_voter.specs.Windows.{admits_vote, is_me}
use Rattle.simplex_member.specs.MemberFacts.{MemberFacts}
use Rattle.simplex_member.specs.OutstandingWork.{is_offered}
use Rattle.simplex_engine.specs.declared.engine.Engine.{Engine}
use Rattle.simplex_engine.specs.declared.input.Input.{Input}
use Rattle.simplex_engine.specs.declared.input.Input.TheVariants as input
use Rattle.engine_votes.specs.Subjects.{subject_round}
use Rattle.engine_planner.specs.PlanStates.{may_keep}

-- a number that stops at 2^64 - 1, and one more
abbrev pub one_more : ℕ → ℕ
one_more count = min (count + 1) (2 ^ 64 - 1)

module _ {K L D : Type 0} where
  -- the round is of this epoch
  abbrev pub is_of_epoch : StateFacts K L D → Round → Bool
  is_of_epoch x round = round.epoch == x.settings.epoch

  -- the state admits votes of the round: of this epoch, and of a view that takes votes
  abbrev pub admits_votes : StateFacts K L D → Round → Bool
  admits_votes x round = is_of_epoch x round && (is_started x && admits_vote x round.view)

  -- the state admits a proposal of the round by this member: it leads the view, votes of the round are admitted, and it
  -- is not the engine's own
  abbrev pub admits_proposal : StateFacts K L D → ℕ → Round → Bool
  admits_proposal x from round =
      admits_votes x round && option_map_or (λ leader. leader == from) (leader_of x round.view) false
      && not (is_me x from)

  -- the state admits a certificate: of this epoch and of a retained view, which has none of its kind yet
  abbrev pub admits : StateFacts K L D → CertificateFacts D → Bool
  admits x (Notarized c) = takes_round x c.proposal.round && is_none (notarization_of x c.proposal.round.view)
  admits x (Nullified c) = takes_round x c.round && is_none (nullification_of x c.round.view)
  admits x (Finalized c) = takes_round x c.proposal.round && is_none (finalization_of x c.proposal.round.view)

  -- the member has not failed, and its state passes this test
  abbrev pub is_so : (StateFacts K L D → Bool) → MemberFacts K L D → Bool
  is_so test m = option_map_or test m.life false

module _ {S L D K G C : Type 0} where
  -- the engine admits an input: a proposal, a vote or a certificate by the state; a verdict on a proposal that was
  -- offered and has none; anything else always
  abbrev pub is_input_admitted : (C → List ℕ) → MemberFacts K L D → Input S D K G C → Bool
  is_input_admitted bytes_of m (input.Proposal from proposal) = is_so (λ x. admits_proposal x from proposal.round) m
  is_input_admitted bytes_of m (input.Vote vote) = is_so (λ x. admits_votes x (subject_round vote.subject)) m
  is_input_admitted bytes_of m (input.Certificate certificate) =
      is_so (λ x. admits x (certificate_facts bytes_of certificate)) m
  is_input_admitted bytes_of m (input.Certified view success) = is_offered m.outstanding_work view
  is_input_admitted bytes_of m _ = true

  -- one more input was ignored
  abbrev pub ignoring : Engine S L D K G C → Engine S L D K G C
  ignoring engine = record engine { plan = record (engine.plan) { ignored = one_more engine.plan.ignored } }

  -- a proposal that is not admitted is stored if it is of this epoch, and of one of the eight views after the current
  -- one, while fewer than eight are stored
  abbrev pub stores_early : Engine S L D K G C → Proposal D → Bool
  stores_early engine proposal =
      is_so (λ x. is_of_epoch x proposal.round) engine.core.member.facts
      && may_keep engine.plan.views.current proposal.round.view (length engine.plan.early.proposals.items)

  -- it is then appended, or no proposal is; and nothing else changes
  pub record IsStoredEarly (from : ℕ) (proposal : Proposal D) (old new : Engine S L D K G C) : Type 0 where
    pub kept : let early = old.plan.early.proposals.items in new.plan.early.proposals.items
        ≡ (if stores_early old proposal then early
        ++ record { from = from; view = proposal.round.view; proposal = proposal } ∷ [] else early)
    pub same : new ≡ record old { plan = record (old.plan) { early = new.plan.early } }

  -- an input that is not admitted changes nothing, except that an early proposal is stored
  abbrev pub IsTurnedAway : Input S D K G C → Engine S L D K G C → Engine S L D K G C → Type 0
  IsTurnedAway (input.Proposal from proposal) old new = IsStoredEarly from proposal old new
  IsTurnedAway _ old new = new ≡ old
