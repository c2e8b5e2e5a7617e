-- Certificates that votes complete are backed by them.
use Rattle.std.proofs.Common.{◌≡◌, ℕ, zero, suc, Bool, true, false, cond, List, [], ◌∷◌, ◌++◌, Option, Some, None, length, refl, sym, subst, inl, inr, ◌∙◌}
use Rattle.std.specs.Prelude.{All, Contains, ◌⊎◌}
use Rattle.std.proofs.lemmas.List.Elements.{All-append, All-cons, All-nil}
use Rattle.simplex_types.specs.declared.types.messages.Subject.{Subject}
use Rattle.simplex_types.specs.MessageViews.{subject_view}
use Rattle.simplex_voter.specs.Facts.{Elect}
use Rattle.engine_votes.specs.declared.batcher.Batcher.{Batcher}
use Rattle.engine_votes.specs.declared.batcher.Counted.TheVariants.{Certified}
use Rattle.engine_votes.specs.declared.batcher.poll.Ballot.{Ballot}
use Rattle.engine_outbox.specs.declared.journaled.Journaled.{Journaled}
use Rattle.engine_votes.specs.declared.votes.Vote.{Vote}
use Rattle.engine_votes.specs.Subjects.{same_subject}
use Rattle.engine_votes.specs.Polls.{ballot_of, signature_on, signatures_on}
use Rattle.simplex_types.specs.Quorums.{quorum_of}
use Rattle.engine_votes.specs.StoredVotes.{kind_of, held, AreGiven, IsCounted}
use Rattle.simplex_engine.specs.CertificateVotes.{HasQuorum, TakesVotes, TakesNone, IsBacked, IsBackedInput}
use Rattle.simplex_engine.specs.declared.input.Input.{Input}
use Rattle.simplex_engine.specs.declared.input.Input.TheVariants as input
use Rattle.engine_outbox.specs.Continuity.{Continues}
use Rattle.engine_votes.proofs.Contains.{contains_left}
use Rattle.engine_outbox.proofs.Continuity.{goes_further}
use Rattle.engine_votes.proofs.Good.{same_subject-true}
use Rattle.engine_votes.proofs.Polls.{rising_on}

module _ {S D K G C : Type 0} where
  -- votes that were passed in are among these and others
  widened : (given more : List (Vote D G)) (batcher : Batcher S D K G C) → AreGiven given batcher
      → AreGiven (given ++ more) batcher
  widened given more batcher are kind view member ballot is =
      contains_left given more (record { subject = ballot.subject; signer = member; signature = ballot.signature })
      (are kind view member ballot is)

  pub takes_nothing : (a : Batcher S D K G C) → TakesNone a a
  takes_nothing a = record { are_given = λ given are. are; were_held = λ kind view member ballot is. is; scheme = refl }

  -- where the same votes are stored
  pub takes_same : {a b : Batcher S D K G C} → b ≡ a → TakesNone a b
  takes_same {a = a} held = subst (TakesNone a) (sym held) (takes_nothing a)

  pub takes_no_more : {a b c : Batcher S D K G C} → TakesNone a b → TakesNone b c → TakesNone a c
  takes_no_more first second = record {
    are_given = λ given are. second.are_given given (first.are_given given are);
    were_held = λ kind view member ballot is.
        first.were_held kind view member ballot (second.were_held kind view member ballot is);
    scheme = second.scheme ∙ first.scheme;
  }

  pub takes_anyway : {more : List (Vote D G)} {a b : Batcher S D K G C} → TakesNone a b → TakesVotes more a b
  takes_anyway {more = more} {b = b} none =
      record { are_given = λ given are. widened given more b (none.are_given given are); scheme = none.scheme }

  pub takes_then : {more : List (Vote D G)} {a b c : Batcher S D K G C} → TakesVotes more a b → TakesNone b c
      → TakesVotes more a c
  takes_then {more = more} taken none = record {
    are_given = λ given are. none.are_given (given ++ more) (taken.are_given given are);
    scheme = none.scheme ∙ taken.scheme;
  }

module _ {S L D K G C : Type 0} {same : D → D → Bool} {elect : Elect L} {bytes_of : C → List ℕ}
    {is_signature : K → Subject D → G → Type 0} (members : ℕ) where
  pub backed_by_none : {more : List (Vote D G)} {subject : Subject D} {batcher : Batcher S D K G C}
      {old new : Journaled S L D K G C}
      → Continues same elect bytes_of is_signature None old new
      → IsBacked same elect bytes_of is_signature members more subject batcher old new
  backed_by_none went = record { backed = λ given are. inl went }

  -- whatever came in
  pub input_backed_by_none : (what : Input S D K G C) (batcher : Batcher S D K G C) (old new : Journaled S L D K G C)
      → Continues same elect bytes_of is_signature None old new
      → IsBackedInput same elect bytes_of is_signature members what batcher old new
  input_backed_by_none (input.Vote vote) batcher old new went = backed_by_none went
  input_backed_by_none (input.Proposal _ _) batcher old new went = tt
  input_backed_by_none (input.Certificate _) batcher old new went = tt
  input_backed_by_none (input.Verified _ _) batcher old new went = tt
  input_backed_by_none (input.Built _ _) batcher old new went = tt
  input_backed_by_none (input.Certified _ _) batcher old new went = tt
  input_backed_by_none (input.GivenUp _ _) batcher old new went = tt

  -- and then no certificate is accepted
  pub input_backed_then : (what : Input S D K G C) (batcher : Batcher S D K G C) (old mid new : Journaled S L D K G C)
      → IsBackedInput same elect bytes_of is_signature members what batcher old mid
      → Continues same elect bytes_of is_signature None mid new
      → IsBackedInput same elect bytes_of is_signature members what batcher old new
  input_backed_then (input.Vote vote) batcher old mid new backed went =
      record {
        backed = λ given are. elim (backed.backed given are) as
            (λ _. Continues same elect bytes_of is_signature None old new
            ⊎ HasQuorum members (given ++ vote ∷ []) vote.subject)
            [ inl first ↦ inl (goes_further first went) | inr quorum ↦ inr quorum ];
      }
  input_backed_then (input.Proposal _ _) batcher old mid new backed went = tt
  input_backed_then (input.Certificate _) batcher old mid new backed went = tt
  input_backed_then (input.Verified _ _) batcher old mid new backed went = tt
  input_backed_then (input.Built _ _) batcher old mid new backed went = tt
  input_backed_then (input.Certified _ _) batcher old mid new backed went = tt
  input_backed_then (input.GivenUp _ _) batcher old mid new backed went = tt

module _ {D G : Type 0} (same : D → D → Bool) (law : (d e : D) → same d e ≡ true → d ≡ e) (given : List (Vote D G))
    (on : Subject D) where
  abbrev IsAmong : ℕ × G → Type 0
  IsAmong s = Contains given (record { subject = on; signer = s.0; signature = s.1 })

  -- the stored vote of a member was passed in
  abbrev IsGivenOf : ℕ → Option (Ballot D G) → Type 0
  IsGivenOf member held = (ballot : Ballot D G) → held ≡ Some ballot
      → Contains given (record { subject = ballot.subject; signer = member; signature = ballot.signature })

  one_given : (member : ℕ) (held : Option (Ballot D G)) → IsGivenOf member held
      → All IsAmong (signature_on same on member held)
  one_given member None are = All-nil IsAmong
  one_given member (Some ballot) are = by_test (same_subject same ballot.subject on) refl
    where
      by_test : (t : Bool) → same_subject same ballot.subject on ≡ t
          → All IsAmong (cond t ((member, ballot.signature) ∷ []) [])
      by_test false e = All-nil IsAmong
      by_test true e =
          All-cons IsAmong (member, ballot.signature) []
          (subst (λ s. Contains given (record { subject = s; signer = member; signature = ballot.signature }))
          (same_subject-true same law ballot.subject on e) (are ballot refl))
          (All-nil IsAmong)

  given_on : (member : ℕ) (slots : List (Option (Ballot D G))) → ((m : ℕ) → IsGivenOf m (ballot_of slots m))
      → All IsAmong (signatures_on same on member slots)
  given_on zero slots are = All-nil IsAmong
  given_on (suc member) slots are =
      All-append IsAmong (signatures_on same on member slots) (signature_on same on member (ballot_of slots member))
      (given_on member slots are) (one_given member (ballot_of slots member) (are member))

  -- a quorum of the stored votes
  pub quorum_given : (members : ℕ) (slots : List (Option (Ballot D G))) → ((m : ℕ) → IsGivenOf m (ballot_of slots m))
      → length (signatures_on same on members slots) ≡ quorum_of members → HasQuorum members given on
  quorum_given members slots are quorum =
      record {
        signed = signatures_on same on members slots;
        quorum = quorum;
        rising = rising_on same on members slots;
        are_given = given_on members slots are;
      }

-- a certificate is made of a quorum
pub certified_given : {S D K G C : Type 0} (same : D → D → Bool) (law : (d e : D) → same d e ≡ true → d ≡ e)
    (IsMadeOf : Subject D → List (ℕ × G) → C → Type 0)
    (members : ℕ) (is_admitted : Bool) (old new : Batcher S D K G C) (vote : Vote D G) (given : List (Vote D G))
    → AreGiven given new
    → (made : _) → IsCounted same IsMadeOf members is_admitted old vote new (Certified made)
    → HasQuorum members given vote.subject
certified_given same law IsMadeOf members is_admitted old new vote given are made counted =
    quorum_given same law given vote.subject members (held new (kind_of vote.subject) (subject_view vote.subject))
    (are (kind_of vote.subject) (subject_view vote.subject)) counted.counted.1
