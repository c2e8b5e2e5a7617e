-- For `votes_are_lawful`.
-- The event of a record's entry, and what holds once that vote is signed.
use Rattle.std.proofs.Common.{◌≡◌, ◌≢◌, sym, subst, ℕ, ◌<◌, ◌≤◌, ◌⊎◌, inl, inr, true, List, [], ◌∷◌, ◌++◌, Contains, arith}
use Rattle.std.specs.Prelude.{⊤}
use Rattle.std.proofs.lemmas.List.{append-nil}
use Rattle.simplex_types.specs.Certificates.{Notarized, Nullified, Finalized, ArtifactFacts, NotarizeVote, NullifyVote, FinalizeVote, Verdict, Accepted}
use Rattle.simplex_types.specs.declared.types.messages.Proposal.{Proposal}
use Rattle.simplex_types.specs.declared.types.messages.Subject.TheVariants as subject
use Rattle.simplex_types.specs.declared.types.numbers.Round.{Round}
use Rattle.simplex_types.specs.Encoding.{certificate_subject}
use Rattle.simplex_round.specs.Round.{is_nullify, is_finalize}
use Rattle.simplex_voter.specs.Facts.{StateFacts, round_of}
use Rattle.simplex_record.specs.Entries.{entry_view}
use Rattle.laws_safety.specs.Traces.{TraceEvent, Accepts, Signs}
use Rattle.laws_safety.specs.Lawful.{HasSigned}
use Rattle.laws_safety.proofs.lists.Signed.{signed_push}
use Rattle.laws_safety.proofs.votes.ShownVotes.{ShowsVotesInLife, still, final_still, stays_accepted}
use Rattle.laws_safety.proofs.votes.ShownVotesByVotes.{nullify_cast_stands, finalize_cast_stands}

-- the event that an entry records
abbrev pub entry_trace : {D : Type 0} → ArtifactFacts D → List (TraceEvent D)
entry_trace (NotarizeVote p m) = Signs m (subject.Notarize p) ∷ []
entry_trace (NullifyVote round m) = Signs m (subject.Nullify round) ∷ []
entry_trace (FinalizeVote p m) = Signs m (subject.Finalize p) ∷ []
entry_trace (Verdict _ _) = []
entry_trace (Accepted c) = Accepts (certificate_subject c) ∷ []

-- a vote may be taken again: no other vote of its view was, and a finalize vote's view is passed
abbrev pub MayRetake : {D : Type 0} → List (TraceEvent D) → ℕ → ArtifactFacts D → Type 0
MayRetake {D} trace current (NullifyVote round _) = (1 ≤ round.view)
    × ((p : Proposal D) → HasSigned trace (subject.Finalize p) → round.view ≢ p.round.view)
MayRetake trace current (FinalizeVote p _) = (p.round.view < current)
    × ((round : Round) → HasSigned trace (subject.Nullify round) → round.view ≢ p.round.view)
MayRetake trace current _ = ⊤

module _ {K L D : Type 0} (term_length : ℕ) (trace : List (TraceEvent D)) (x : StateFacts K L D)
    (stays : ShowsVotesInLife term_length trace x) where
  -- a vote to notarize is cast
  pub notarize_cast_stays : (p : Proposal D) (m : ℕ)
      → ShowsVotesInLife term_length (trace ++ Signs m (subject.Notarize p) ∷ []) x
  notarize_cast_stays p m =
      let new = Signs m (subject.Notarize p) in
      record {
        stands = record {
          terms = stays.stands.terms;
          rounds = λ v. (let old = stays.stands.rounds v in
              record {
                notarized = λ c is. (
                  (old.notarized c is).0,
                  still trace new (Accepts (subject.Notarize c.proposal)) (old.notarized c is).1,
                );
                held = old.held;
                entered = old.entered;
                left = old.left;
                nullify_decided = λ round h at. elim (signed_push trace new (subject.Nullify round) h)
                    [ inl before ↦ old.nullify_decided round before at | inr now ↦ absurd (cc) ];
                finalize_decided = λ q h at. elim (signed_push trace new (subject.Finalize q) h)
                    [ inl before ↦ old.finalize_decided q before at | inr now ↦ absurd (cc) ];
              });
          passed = λ q h. elim (signed_push trace new (subject.Finalize q) h)
              [ inl before ↦ stays.stands.passed q before | inr now ↦ absurd (cc) ];
          noted = λ round h. elim (signed_push trace new (subject.Nullify round) h)
              [ inl before ↦ stays.stands.noted round before | inr now ↦ absurd (cc) ];
        };
        ahead = stays.ahead;
        final = final_still trace new x.finalized stays.final;
      }

  pub nullify_cast_stays : (round : Round) (m : ℕ) → 1 ≤ round.view
      → Contains x.nullify_votes round.view ⊎ (round.view ≤ x.finalized)
      → (is_nullify (round_of x round.view).decision ≡ true) ⊎ (round.view ≤ x.finalized)
      → ShowsVotesInLife term_length (trace ++ Signs m (subject.Nullify round) ∷ []) x
  nullify_cast_stays round m one noted decided = record {
    stands = nullify_cast_stands term_length trace x.current x round m one noted decided stays.stands;
    ahead = stays.ahead;
    final = final_still trace (Signs m (subject.Nullify round)) x.finalized stays.final;
  }

  pub finalize_cast_stays : (p : Proposal D) (m : ℕ) → p.round.view < x.current
      → (is_finalize (round_of x p.round.view).decision ≡ true) ⊎ (p.round.view ≤ x.finalized)
      → ShowsVotesInLife term_length (trace ++ Signs m (subject.Finalize p) ∷ []) x
  finalize_cast_stays p m passed decided = record {
    stands = finalize_cast_stands term_length trace x.current x p m passed decided stays.stands;
    ahead = stays.ahead;
    final = final_still trace (Signs m (subject.Finalize p)) x.finalized stays.final;
  }

  pub nothing_stays : ShowsVotesInLife term_length (trace ++ []) x
  nothing_stays = subst (λ a. ShowsVotesInLife term_length a x) (sym (append-nil trace)) stays

  -- an entry that is skipped lies below the retained views
  pub passed_over : (e : ArtifactFacts D) → entry_view e ≤ x.finalized → MayRetake trace x.current e
      → ShowsVotesInLife term_length (trace ++ entry_trace e) x
  passed_over (NotarizeVote p m) below may = notarize_cast_stays p m
  passed_over (NullifyVote round m) below may = nullify_cast_stays round m may.0 (inr below) (inr below)
  passed_over (FinalizeVote p m) below may = finalize_cast_stays p m (omega (arith, stays.ahead)) (inr below)
  passed_over (Verdict _ _) below may = nothing_stays
  passed_over (Accepted (Notarized c)) below may =
      stays_accepted term_length trace (subject.Notarize c.proposal) x stays
  passed_over (Accepted (Nullified c)) below may = stays_accepted term_length trace (subject.Nullify c.round) x stays
  passed_over (Accepted (Finalized c)) below may =
      stays_accepted term_length trace (subject.Finalize c.proposal) x stays
