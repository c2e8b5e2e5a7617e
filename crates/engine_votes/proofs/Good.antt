-- Certificates of good votes.
use Rattle.std.proofs.Common.{◌≡◌, ℕ, zero, suc, Bool, true, false, ◌&&◌, ◌==◌, cond, List, [], ◌∷◌, ◌++◌, Option, Some, None, Result, Ok, Err, length, refl, ap, ◌∙◌, subst}
use Rattle.std.specs.Prelude.{IfOk, slice_get}
use Rattle.std.proofs.lemmas.Bool.{eqb-true, false≢true}
use Rattle.simplex_types.specs.declared.types.numbers.Round.{Round}
use Rattle.simplex_types.specs.declared.types.messages.Subject.{Subject}
use Rattle.simplex_types.specs.declared.types.messages.Subject.TheVariants as subject
use Rattle.simplex_types.specs.Proposal.{same_round}
use Rattle.simplex_types.specs.MessageViews.{subject_view}
use Rattle.simplex_types.proofs.Proposal.{same_proposal-true}
use Rattle.engine_votes.specs.declared.batcher.Batcher.{Batcher}
use Rattle.engine_votes.specs.declared.batcher.Counted.{Counted}
use Rattle.engine_votes.specs.declared.batcher.Counted.TheVariants.{Refused, Known, Taken, Certified, Equivocated}
use Rattle.engine_votes.specs.declared.batcher.poll.Ballot.{Ballot}
use Rattle.engine_votes.specs.declared.votes.Vote.{Vote}
use Rattle.engine_votes.specs.Subjects.{same_subject}
use Rattle.engine_votes.specs.Polls.{ballot_of, signature_on, signatures_on}
use Rattle.simplex_types.specs.Quorums.{quorum_of, AreSigned, IsSignedByQuorum}
use Rattle.engine_votes.specs.VoteCounts.{certificate_of}
use Rattle.engine_votes.specs.StoredVotes.{kind_of, held, AreGiven, AreGood, is_found_good, IsGoodIfCertified, IsCounted}
use Rattle.engine_votes.proofs.Polls.{rising_on}

both : (a b : Bool) → (a && b) ≡ true → (a ≡ true) × (b ≡ true)
both true b h = (refl, h)
both false b h = absurd (false≢true h)

same_round-true : (r s : Round) → same_round r s ≡ true → r ≡ s
same_round-true r s is =
    let parts = both (r.epoch == s.epoch) (r.view == s.view) is in
    let made : ℕ → ℕ → Round = λ e v. record { epoch = e; view = v } in
    ap (λ e. made e r.view) (eqb-true r.epoch s.epoch parts.0) ∙ ap (made s.epoch) (eqb-true r.view s.view parts.1)

module _ {D : Type 0} (same : D → D → Bool) (law : (d e : D) → same d e ≡ true → d ≡ e) where
  pub same_subject-true : (a b : Subject D) → same_subject same a b ≡ true → a ≡ b
  same_subject-true (subject.Notarize p) (subject.Notarize q) is =
      ap subject.Notarize (same_proposal-true same law p q is)
  same_subject-true (subject.Nullify r) (subject.Nullify s) is = ap subject.Nullify (same_round-true r s is)
  same_subject-true (subject.Finalize p) (subject.Finalize q) is =
      ap subject.Finalize (same_proposal-true same law p q is)
  same_subject-true _ _ is = absurd (false≢true is)

  module _ {K G : Type 0} (is_signature : K → Subject D → G → Type 0) (keys : List K) (on : Subject D) where
    signed_behind : (xs ys : List (ℕ × G)) → AreSigned is_signature keys on xs → AreSigned is_signature keys on ys
        → AreSigned is_signature keys on (xs ++ ys)
    signed_behind [] ys front back = back
    signed_behind (x ∷ xs) ys front back = (front.0, signed_behind xs ys front.1 back)

    -- the stored vote of a member is valid
    abbrev IsGoodOf : ℕ → Option (Ballot D G) → Type 0
    IsGoodOf member held = (ballot : Ballot D G) → held ≡ Some ballot
        → (key : K) × (slice_get keys member ≡ Some key) × is_signature key ballot.subject ballot.signature

    one_signed : (member : ℕ) (held : Option (Ballot D G)) → IsGoodOf member held
        → AreSigned is_signature keys on (signature_on same on member held)
    one_signed member None good = tt
    one_signed member (Some ballot) good = by_test (same_subject same ballot.subject on) refl
      where
        by_test : (t : Bool) → same_subject same ballot.subject on ≡ t
            → AreSigned is_signature keys on (cond t ((member, ballot.signature) ∷ []) [])
        by_test false e = tt
        by_test true e =
            let found = good ballot refl in (
              (
                found.0,
                found.1,
                subst (λ s. is_signature found.0 s ballot.signature)
                    (same_subject-true ballot.subject on e) found.2,
              ),
              tt,
            )

    signed_on : (member : ℕ) (slots : List (Option (Ballot D G))) → ((m : ℕ) → IsGoodOf m (ballot_of slots m))
        → AreSigned is_signature keys on (signatures_on same on member slots)
    signed_on zero slots good = tt
    signed_on (suc member) slots good = signed_behind (signatures_on same on member slots)
        (signature_on same on member (ballot_of slots member)) (signed_on member slots good)
        (one_signed member (ballot_of slots member) (good member))

    -- exactly a quorum of the stored votes, each of which is valid
    pub quorum_signed : (slots : List (Option (Ballot D G))) → ((m : ℕ) → IsGoodOf m (ballot_of slots m))
        → length (signatures_on same on (length keys) slots) ≡ quorum_of (length keys)
        → IsSignedByQuorum is_signature keys on (signatures_on same on (length keys) slots)
    quorum_signed slots good quorum = record
        { quorum = quorum; rising = rising_on same on (length keys) slots; signed = signed_on (length keys) slots good }

module _ (S K G : Type 0) {D C : Type 0} (accepts : Subject D → C → Bool) where
  found_good : (on : Subject D) (c : C) → accepts on c ≡ true
      → is_found_good {S = S} {K = K} {G = G} accepts (certificate_of on c) ≡ true
  found_good (subject.Notarize p) c good = good
  found_good (subject.Nullify round) c good = good
  found_good (subject.Finalize p) c good = good

module _ {S D K G C : Type 0} (same : D → D → Bool) (law : (d e : D) → same d e ≡ true → d ≡ e)
    (is_signature : K → Subject D → G → Type 0) (keys : List K) (IsMadeOf : Subject D → List (ℕ × G) → C → Type 0)
    (accepts : Subject D → C → Bool)
    (made_is_good : (on : Subject D) (signatures : List (ℕ × G)) (c : C)
    → IsSignedByQuorum is_signature keys on signatures → IsMadeOf on signatures c → accepts on c ≡ true)
    (is_admitted : Bool) (old new : Batcher S D K G C) (vote : Vote D G) (given : List (Vote D G))
    (are : AreGiven given new) (good : AreGood is_signature keys given) where
  held_good : (member : ℕ) (ballot : Ballot D G)
      → ballot_of (held new (kind_of vote.subject) (subject_view vote.subject)) member ≡ Some ballot
      → (key : K) × (slice_get keys member ≡ Some key) × is_signature key ballot.subject ballot.signature
  held_good member ballot is = good (record { subject = ballot.subject; signer = member; signature = ballot.signature })
      (are (kind_of vote.subject) (subject_view vote.subject) member ballot is)

  answer_good : (r : Counted S D K G C) → IsCounted same IsMadeOf (length keys) is_admitted old vote new r
      → IsGoodIfCertified accepts r
  answer_good Refused counted = tt
  answer_good Known counted = tt
  answer_good Taken counted = tt
  answer_good (Equivocated first second) counted = tt
  answer_good (Certified made) counted =
      let slots = held new (kind_of vote.subject) (subject_view vote.subject) in
      let is = counted.counted in
      let signed = quorum_signed same law is_signature keys vote.subject slots held_good is.1 in
      ap (is_found_good accepts) is.2.1 ∙ found_good S K G accepts vote.subject is.2.0
      (made_is_good vote.subject (signatures_on same vote.subject (length keys) slots) is.2.0 signed is.2.2)

  pub result_good : {E : Type 0} (r : Result (Counted S D K G C) E)
      → IfOk r (IsCounted same IsMadeOf (length keys) is_admitted old vote new) → IfOk r (IsGoodIfCertified accepts)
  result_good (Ok answer) counted = answer_good answer counted
  result_good (Err refused) counted = tt
