-- The voting rules that a member keeps in all its actions.
use Rattle.std.specs.Prelude.{◌≡◌, ◌≢◌, ℕ, ◌≤◌, ◌<◌, true, false, List, ◌∷◌, ◌++◌, Contains}
use Rattle.simplex_types.specs.Terms.{covers}
use Rattle.simplex_types.specs.declared.types.messages.Proposal.{Proposal}
use Rattle.simplex_types.specs.declared.types.messages.Subject.{Subject}
use Rattle.simplex_types.specs.declared.types.messages.Subject.TheVariants as subject
use Rattle.simplex_types.specs.declared.types.numbers.Round.{Round}
use Rattle.laws_safety.specs.Traces.{TraceEvent, Accepts, Signs}

module _ {D : Type 0} where
  -- this vote was signed, by any signer
  abbrev pub HasSigned : List (TraceEvent D) → Subject D → Type 0
  HasSigned trace vote = (signer : ℕ) × Contains trace (Signs signer vote)

  -- this vote was signed at some moment, and this is the trace before that
  abbrev pub SignsAfter : List (TraceEvent D) → List (TraceEvent D) → Subject D → Type 0
  SignsAfter trace before vote =
      (signer : ℕ) × (after : List (TraceEvent D)) × (trace ≡ before ++ Signs signer vote ∷ after)

  -- an accepted nullification covers the view
  abbrev pub HasCover : ℕ → List (TraceEvent D) → ℕ → Type 0
  HasCover term_length trace view =
      (round : Round) × Contains trace (Accepts (subject.Nullify round)) × (covers term_length round.view view ≡ true)

  -- a finalization of one of the views from `low` up to, not with, `high` was accepted
  abbrev pub HasFinalizedBetween : List (TraceEvent D) → ℕ → ℕ → Type 0
  HasFinalizedBetween trace low high =
      (final : Proposal D)
      × Contains trace (Accepts (subject.Finalize final))
      × (low ≤ final.round.view)
      × (final.round.view < high)

-- the voting rules, over the whole trace of an honest member, the oldest event first
pub record IsLawful {D : Type 0} (term_length : ℕ) (trace : List (TraceEvent D)) : Type 0 where
  -- at most one vote to notarize a view
  pub one_notarize : (before : List (TraceEvent D)) (p q : Proposal D) → SignsAfter trace before (subject.Notarize p)
      → HasSigned before (subject.Notarize q) → q.round.view ≢ p.round.view
  -- at most one vote to finalize a view
  pub one_finalize : (before : List (TraceEvent D)) (p q : Proposal D) → SignsAfter trace before (subject.Finalize p)
      → HasSigned before (subject.Finalize q) → q.round.view ≢ p.round.view
  -- never a vote to nullify and one to finalize the same view
  pub not_both : (round : Round) (p : Proposal D) → HasSigned trace (subject.Nullify round)
      → HasSigned trace (subject.Finalize p) → round.view ≢ p.round.view
  -- a vote to finalize names a proposal whose notarization was accepted
  pub finalizes_notarized : (before : List (TraceEvent D)) (p : Proposal D)
      → SignsAfter trace before (subject.Finalize p)
      → Contains before (Accepts (subject.Notarize p))
  -- a vote to finalize after one to nullify an earlier view of the term: a view from that one on was finalized
  pub finalizes_past_nullify : (before : List (TraceEvent D)) (p : Proposal D) (round : Round)
      → SignsAfter trace before (subject.Finalize p)
      → HasSigned before (subject.Nullify round) → round.view < p.round.view
      → covers term_length round.view p.round.view ≡ true
      → HasFinalizedBetween before round.view p.round.view
  -- a vote to nullify never follows one to finalize a view that it would cover
  pub nullifies_ahead : (before : List (TraceEvent D)) (round : Round) (p : Proposal D)
      → SignsAfter trace before (subject.Nullify round)
      → HasSigned before (subject.Finalize p) → covers term_length round.view p.round.view ≡ false
  -- a proposal that was voted for names an earlier view as its parent, and accepted nullifications cover each view
  -- between
  pub parent_before : (before : List (TraceEvent D)) (p : Proposal D) → SignsAfter trace before (subject.Notarize p)
      → p.parent < p.round.view
  pub gapless : (before : List (TraceEvent D)) (p : Proposal D) (skipped : ℕ)
      → SignsAfter trace before (subject.Notarize p) → p.parent < skipped
      → skipped < p.round.view → HasCover term_length before skipped
