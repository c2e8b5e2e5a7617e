-- What a state's facts show of the trace that led to it, also while the trace grows.
use Rattle.std.proofs.Common.{◌≡◌, refl, sym, subst, ℕ, ◌≤◌, ◌<◌, ◌⊎◌, inl, inr, true, List, [], ◌∷◌, ◌++◌, Contains, Some, arith}
use Rattle.std.proofs.lemmas.Bool.{cases_eq}
use Rattle.std.proofs.lemmas.List.Elements.{Contains-append_left, Contains-append_right}
use Rattle.simplex_types.specs.Certificates.{ProposalFacts}
use Rattle.simplex_types.specs.declared.types.messages.Proposal.{Proposal}
use Rattle.simplex_types.specs.declared.types.messages.Subject.{Subject}
use Rattle.simplex_types.specs.declared.types.messages.Subject.TheVariants as subject
use Rattle.simplex_types.specs.declared.types.numbers.Round.{Round}
use Rattle.simplex_round.specs.Round.{RoundFacts, is_nullify, is_finalize, is_certified}
use Rattle.simplex_voter.specs.Facts.{StateFacts, round_of, with_round}
use Rattle.simplex_voter.proofs.Elsewhere.{round_of-with_round}
use Rattle.laws_safety.specs.Traces.{TraceEvent, Accepts}
use Rattle.laws_safety.specs.Lawful.{HasSigned}
use Rattle.laws_safety.proofs.lists.Signed.{signed_push}
use Rattle.simplex_record.proofs.Rounds.{round_put}

-- a round of view v, where the current view is to be `reached`
pub record RoundShowsVotes {K D : Type 0} (trace : List (TraceEvent D)) (reached finalized v : ℕ)
    (r : RoundFacts K D) : Type 0 where
  -- its notarization was accepted, and is of this view
  pub notarized : (c : ProposalFacts D) → r.notarization ≡ Some c
      → (c.proposal.round.view ≡ v) × Contains trace (Accepts (subject.Notarize c.proposal))
  -- it is of the held proposal, unless another was seen
  pub held : (c : ProposalFacts D) → r.notarization ≡ Some c
      → (r.slot.conflict ≡ true) ⊎ (r.slot.held ≡ Some c.proposal)
  -- a true verdict enters a later view, and only a view below the current one is decided to be finalized
  pub entered : is_certified r.certification ≡ true → v < reached
  pub left : is_finalize r.decision ≡ true → v < reached
  -- each vote of the view that was cast is decided, or a finalization is no lower
  pub nullify_decided : (round : Round) → HasSigned trace (subject.Nullify round) → round.view ≡ v
      → (is_nullify r.decision ≡ true) ⊎ (v ≤ finalized)
  pub finalize_decided : (p : Proposal D) → HasSigned trace (subject.Finalize p) → p.round.view ≡ v
      → (is_finalize r.decision ≡ true) ⊎ (v ≤ finalized)

-- the rounds show the votes and certificates of the trace, where the current view is to be `reached`
pub record ShowsVotes {K L D : Type 0} (term_length : ℕ) (trace : List (TraceEvent D)) (reached : ℕ)
    (x : StateFacts K L D) : Type 0 where
  pub terms : x.terms.term_length ≡ term_length
  pub rounds : (v : ℕ) → RoundShowsVotes trace reached x.finalized v (round_of x v)
  -- each view that was voted to be finalized is passed
  pub passed : (p : Proposal D) → HasSigned trace (subject.Finalize p) → p.round.view < reached
  -- each vote to nullify is noted for the gate, or a finalization is no lower
  pub noted : (round : Round) → HasSigned trace (subject.Nullify round)
      → (1 ≤ round.view) × (Contains x.nullify_votes round.view ⊎ (round.view ≤ x.finalized))

-- a view is genesis, or its finalization was accepted
abbrev pub HasFinal : {D : Type 0} → List (TraceEvent D) → ℕ → Type 0
HasFinal {D} trace v = (v ≡ 0)
    ⊎ ((final : Proposal D) × Contains trace (Accepts (subject.Finalize final)) × (final.round.view ≡ v))

-- the invariant of a state's facts in a lifetime, with each call
pub record ShowsVotesInLife {K L D : Type 0} (term_length : ℕ) (trace : List (TraceEvent D))
    (x : StateFacts K L D) : Type 0 where
  pub stands : ShowsVotes term_length trace x.current x
  pub ahead : x.finalized < x.current
  pub final : HasFinal trace x.finalized

pub not_vote : {D : Type 0} (trace : List (TraceEvent D)) (certificate vote : Subject D)
    → HasSigned (trace ++ Accepts certificate ∷ []) vote → HasSigned trace vote
not_vote trace certificate vote h = elim (signed_push trace (Accepts certificate) vote h)
    [ inl old ↦ old | inr new ↦ absurd (cc) ]

pub still : {D : Type 0} (trace : List (TraceEvent D)) (new trace_event : TraceEvent D) → Contains trace trace_event
    → Contains (trace ++ new ∷ []) trace_event
still trace new trace_event h = Contains-append_left trace (new ∷ []) trace_event h

pub latest : {D : Type 0} (trace : List (TraceEvent D)) (new : TraceEvent D) → Contains (trace ++ new ∷ []) new
latest trace new = Contains-append_right trace (new ∷ []) new (0, omega arith, refl)

pub final_still : {D : Type 0} (trace : List (TraceEvent D)) (new : TraceEvent D) (v : ℕ) → HasFinal trace v
    → HasFinal (trace ++ new ∷ []) v
final_still trace new v (inl genesis) = inl genesis
final_still trace new v (inr (p, h, at)) = inr (p, still trace new (Accepts (subject.Finalize p)) h, at)

module _ {K D : Type 0} (trace : List (TraceEvent D)) where
  pub round_later : (reached further finalized higher v : ℕ) (r : RoundFacts K D) → reached ≤ further
      → finalized ≤ higher → RoundShowsVotes trace reached finalized v r → RoundShowsVotes trace further higher v r
  round_later reached further finalized higher v r later raised stands = record {
    notarized = stands.notarized;
    held = stands.held;
    entered = λ is. omega (arith, stands.entered is);
    left = λ is. omega (arith, stands.left is);
    nullify_decided = λ round h at. elim (stands.nullify_decided round h at)
        [ inl is ↦ inl is | inr below ↦ inr (omega arith) ];
    finalize_decided = λ p h at. elim (stands.finalize_decided p h at)
        [ inl is ↦ inl is | inr below ↦ inr (omega arith) ];
  }

  pub round_accepted : (certificate : Subject D) (reached finalized v : ℕ) (r : RoundFacts K D)
      → RoundShowsVotes trace reached finalized v r
      → RoundShowsVotes (trace ++ Accepts certificate ∷ []) reached finalized v r
  round_accepted certificate reached finalized v r stands = record {
    notarized = λ c is. (
      (stands.notarized c is).0,
      still trace (Accepts certificate) (Accepts (subject.Notarize c.proposal)) (stands.notarized c is).1,
    );
    held = stands.held;
    entered = stands.entered;
    left = stands.left;
    nullify_decided = λ round h. stands.nullify_decided round (not_vote trace certificate (subject.Nullify round) h);
    finalize_decided = λ p h. stands.finalize_decided p (not_vote trace certificate (subject.Finalize p) h);
  }

module _ {K L D : Type 0} (term_length : ℕ) (trace : List (TraceEvent D)) where
  pub stands_later : (reached further : ℕ) (x : StateFacts K L D) → reached ≤ further
      → ShowsVotes term_length trace reached x → ShowsVotes term_length trace further x
  stands_later reached further x later stands = record {
    terms = stands.terms;
    rounds = λ v. round_later trace reached further x.finalized x.finalized v (round_of x v) later (omega arith)
        (stands.rounds v);
    passed = λ p h. omega (arith, stands.passed p h);
    noted = stands.noted;
  }

  pub stands_put : (reached : ℕ) (x : StateFacts K L D) (v : ℕ) (r : RoundFacts K D)
      → RoundShowsVotes trace reached x.finalized v r → ShowsVotes term_length trace reached x
      → ShowsVotes term_length trace reached (with_round x v r)
  stands_put reached x v r here stands =
      record { terms = stands.terms; rounds = rounds; passed = stands.passed; noted = stands.noted }
    where
      rounds : (w : ℕ) → RoundShowsVotes trace reached x.finalized w (round_of (with_round x v r) w)
      rounds w = elim (cases_eq w v) [
        | inl at ↦ subst (λ u. RoundShowsVotes trace reached x.finalized u (round_of (with_round x v r) u)) (sym at)
            (subst (λ s. RoundShowsVotes trace reached x.finalized v s) (sym (round_put x v r)) here)
        | inr apart ↦ subst (λ s. RoundShowsVotes trace reached x.finalized w s)
            (sym (round_of-with_round x w v apart r)) (stands.rounds w)
      ]

  pub stands_accepted : (certificate : Subject D) (reached : ℕ) (x : StateFacts K L D)
      → ShowsVotes term_length trace reached x → ShowsVotes term_length (trace ++ Accepts certificate ∷ []) reached x
  stands_accepted certificate reached x stands = record {
    terms = stands.terms;
    rounds = λ v. round_accepted trace certificate reached x.finalized v (round_of x v) (stands.rounds v);
    passed = λ p h. stands.passed p (not_vote trace certificate (subject.Finalize p) h);
    noted = λ round h. stands.noted round (not_vote trace certificate (subject.Nullify round) h);
  }

  pub stays_accepted : (certificate : Subject D) (x : StateFacts K L D) → ShowsVotesInLife term_length trace x
      → ShowsVotesInLife term_length (trace ++ Accepts certificate ∷ []) x
  stays_accepted certificate x keeps = record {
    stands = stands_accepted certificate x.current x keeps.stands;
    ahead = keeps.ahead;
    final = final_still trace (Accepts certificate) x.finalized keeps.final;
  }
