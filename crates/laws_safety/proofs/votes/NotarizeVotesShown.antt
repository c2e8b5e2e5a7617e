-- What a state's facts show of the votes to notarize that led to it, and what a record remembers of them.
use Rattle.std.proofs.Common.{◌≡◌, ap, ℕ, ◌≤◌, ◌<◌, ◌⊎◌, inl, inr, true, false, List, ◌++◌, Contains, Some, is_some, arith}
use Rattle.std.proofs.lemmas.List.Elements.{Contains-append_left}
use Rattle.simplex_types.specs.Certificates.{ArtifactFacts, NotarizeVote}
use Rattle.simplex_types.specs.declared.types.messages.Proposal.{Proposal}
use Rattle.simplex_types.specs.declared.types.messages.Subject.TheVariants as subject
use Rattle.simplex_types.specs.declared.types.numbers.Round.{Round}
use Rattle.simplex_voter.specs.Facts.{Settings, StateFacts, round_of}
use Rattle.simplex_voter.specs.Windows.{min_active}
use Rattle.simplex_member.specs.OutstandingWork.{OutstandingWork, is_verifying, context_at}
use Rattle.laws_safety.specs.Traces.{TraceEvent, Accepts}
use Rattle.simplex_record.specs.Events.{Event, covers_from}
use Rattle.laws_safety.specs.Lawful.{HasSigned}
use Rattle.laws_safety.proofs.lists.Signed.{signed_cases}
use Rattle.laws_safety.proofs.votes.OutstandingWork.{ArePlaced, NoMoreContexts, some_still}
use Rattle.laws_safety.proofs.votes.UnchangedProposals.{Above, UnchangedProposalsFrom}
use Rattle.laws_safety.proofs.votes.Proposals.{Tidy, contrary, tidy_calm}

-- views below `base` were pruned; work on views below `low` ended with the earlier lifetimes
pub record NotesStand {K L D : Type 0} (base low : ℕ) (trace : List (TraceEvent D)) (o : OutstandingWork K D)
    (x : StateFacts K L D) : Type 0 where
  pub above : Above base x
  pub active : base ≤ min_active x
  pub reached : low ≤ x.current
  pub tidy : (v : ℕ) → base ≤ v → Tidy (is_verifying o v) (is_some (context_at o v)) (round_of x v)
  -- the proposal held at a view is of it
  pub placed : (v : ℕ) (p : Proposal D) → (round_of x v).slot.held ≡ Some p → p.round.view ≡ v
  -- a view whose proposal is verified and not voted for is of this lifetime's work, and so are the open requests
  pub worked : (v : ℕ) → (round_of x v).slot.verified ≡ true → (round_of x v).notarize_decided ≡ false → low ≤ v
  pub verifying_low : (v : ℕ) → is_verifying o v ≡ true → low ≤ v
  pub context_low : (v : ℕ) → is_some (context_at o v) ≡ true → low ≤ v
  pub contexts_placed : ArePlaced o
  -- each vote that was cast is decided
  pub voted : (p : Proposal D) → HasSigned trace (subject.Notarize p) → low ≤ p.round.view → base ≤ p.round.view
      → (round_of x p.round.view).notarize_decided ≡ true
  -- each nullified view's nullification was accepted
  pub covered : (u : ℕ) → Contains x.nullified u
      → (round : Round) × Contains trace (Accepts (subject.Nullify round)) × (round.view ≡ u)

-- what a record has of the votes to notarize; it may lack those of views below `kept`
pub record RemembersNotes {D : Type 0} (trace : List (TraceEvent D)) (kept : ℕ)
    (entries : List (ArtifactFacts D)) : Type 0 where
  pub cast : (p : Proposal D) (m : ℕ) → Contains entries (NotarizeVote p m) → HasSigned trace (subject.Notarize p)
  pub noted : (p : Proposal D) → HasSigned trace (subject.Notarize p)
      → ((m : ℕ) × Contains entries (NotarizeVote p m)) ⊎ (p.round.view < kept)

-- no event of them is a vote to notarize
abbrev pub CastsNone : {D : Type 0} → List (TraceEvent D) → Type 0
CastsNone {D} trace = (p : Proposal D) → HasSigned trace (subject.Notarize p) → ⊥

module _ {K L D : Type 0} (base low : ℕ) (trace : List (TraceEvent D)) where
  -- events that are no votes to notarize
  pub notes_acted : (more : List (TraceEvent D)) (o : OutstandingWork K D) (x : StateFacts K L D) → CastsNone more
      → NotesStand base low trace o x → NotesStand base low (trace ++ more) o x
  notes_acted more o x none notes = record {
    above = notes.above;
    active = notes.active;
    reached = notes.reached;
    tidy = notes.tidy;
    placed = notes.placed;
    worked = notes.worked;
    verifying_low = notes.verifying_low;
    context_low = notes.context_low;
    contexts_placed = notes.contexts_placed;
    voted = λ p h. elim (signed_cases trace more (subject.Notarize p) h)
        [ inl old ↦ notes.voted p old | inr new ↦ absurd (none p new) ];
    covered = λ u h.
        (let c = notes.covered u h in (c.0, Contains-append_left trace more (Accepts (subject.Nullify c.0)) c.1, c.2));
  }

  -- a change that keeps the work on each view, with no more open requests
  pub notes_calm : (e : Event K D) (o o' : OutstandingWork K D) (x y : StateFacts K L D)
      → UnchangedProposalsFrom base e x y → ((u : ℕ) → covers_from u e ≡ true
      → (round : Round) × Contains trace (Accepts (subject.Nullify round)) × (round.view ≡ u))
      → ((v : ℕ) → is_verifying o' v ≡ true → is_verifying o v ≡ true) → NoMoreContexts o o'
      → NotesStand base low trace o x → NotesStand base low trace o' y
  notes_calm e o o' x y left accepted verifying opened notes = record {
    above = left.above notes.above;
    active =
        omega (arith, notes.active, left.goes.finalized, ap (λ (s : Settings). s.view_retention) left.goes.settings);
    reached = omega (arith, notes.reached, left.goes.current);
    tidy = λ v over. tidy_calm v (is_verifying o v) (is_some (context_at o v)) (is_verifying o' v)
        (is_some (context_at o' v)) (round_of x v) (round_of y v) (left.rounds v) (verifying v)
        (some_still (context_at o' v) (context_at o v) (opened v)) (notes.tidy v over);
    placed = λ v p is. elim ((left.rounds v).grown.placed p is)
        [ inl before ↦ notes.placed v p before | inr here ↦ here ];
    worked = λ v is un. notes.worked v ((left.rounds v).verified is)
        (contrary (round_of y v).notarize_decided (round_of x v).notarize_decided (left.rounds v).grown.decided un);
    verifying_low = λ v is. notes.verifying_low v (verifying v is);
    context_low = λ v is. notes.context_low v (some_still (context_at o' v) (context_at o v) (opened v) is);
    contexts_placed = λ v c is. notes.contexts_placed v c (opened v c is);
    voted = λ p h above over. (left.rounds p.round.view).grown.decided (notes.voted p h above over);
    covered = λ u h. elim (left.covered u h) [ inl new ↦ accepted u new | inr old ↦ notes.covered u old ];
  }
