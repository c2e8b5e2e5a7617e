-- Stored votes, one member after another.
use Rattle.std.proofs.Common.{◌≡◌, ℕ, zero, suc, ◌+◌, ◌≤◌, Bool, true, false, cond, List, [], ◌∷◌, ◌++◌, Option, Some, None, length, refl, ap, ◌∙◌, get_or, arith, add-one, length-append, append-nil}
use Rattle.simplex_types.specs.declared.types.messages.Subject.{Subject}
use Rattle.engine_votes.specs.declared.batcher.poll.Ballot.{Ballot}
use Rattle.engine_votes.specs.Polls.{ballot_of, is_on, signature_on, signatures_on}
use Rattle.simplex_types.specs.Quorums.{AreRising}
use Rattle.engine_votes.specs.Subjects.{same_subject}

-- an empty slot after the others stores nothing
pub held_more : {X : Type 0} (slots : List (Option X)) (member : ℕ)
    → get_or (slots ++ None ∷ []) member None ≡ get_or slots member None
held_more [] zero = refl
held_more [] (suc member) = refl
held_more (x ∷ xs) zero = refl
held_more (x ∷ xs) (suc member) = held_more xs member

module _ {D G : Type 0} (same : D → D → Bool) (subject : Subject D) where
  -- a vote on the subject has one signature
  pub one_on : (member : ℕ) (ballot : Option (Ballot D G)) → is_on same subject ballot ≡ true
      → length (signature_on same subject member ballot) ≡ 1
  one_on member None on = cc
  one_on member (Some b) on = rw on refl

  -- any other has none
  pub none_on : (member : ℕ) (ballot : Option (Ballot D G)) → is_on same subject ballot ≡ false
      → signature_on same subject member ballot ≡ []
  none_on member None on = refl
  none_on member (Some b) on = rw on refl

  -- one more member
  pub more_on : (member : ℕ) (slots : List (Option (Ballot D G)))
      → signatures_on same subject (member + 1) slots ≡ signatures_on same subject member slots ++ signature_on same
      subject member (ballot_of slots member)
  more_on member slots = rw add-one refl

  -- who voted for it
  pub more_yes : (member : ℕ) (slots : List (Option (Ballot D G))) → is_on same subject (ballot_of slots member) ≡ true
      → length (signatures_on same subject (member + 1) slots) ≡ length (signatures_on same subject member slots) + 1
  more_yes member slots on = ap length (more_on member slots)
      ∙ length-append (signatures_on same subject member slots)
      (signature_on same subject member (ballot_of slots member))
      ∙ ap (λ n. length (signatures_on same subject member slots) + n) (one_on member (ballot_of slots member) on)

  -- who did not
  pub more_no : (member : ℕ) (slots : List (Option (Ballot D G))) → is_on same subject (ballot_of slots member) ≡ false
      → signatures_on same subject (member + 1) slots ≡ signatures_on same subject member slots
  more_no member slots on = more_on member slots
      ∙ ap (λ xs. signatures_on same subject member slots ++ xs) (none_on member (ballot_of slots member) on)
      ∙ append-nil (signatures_on same subject member slots)

  -- the members rise
  behind : (low member : ℕ) (signature : G) (xs : List (ℕ × G)) → low ≤ member → AreRising member low xs
      → AreRising (suc member) low (xs ++ (member, signature) ∷ [])
  behind low member signature [] at rising = (at, omega arith, tt)
  behind low member signature (x ∷ xs) at rising =
      (rising.0, omega (arith, rising.1), behind (x.0 + 1) member signature xs (omega (arith, rising.1)) rising.2)

  wider : (low member : ℕ) (xs : List (ℕ × G)) → AreRising member low xs → AreRising (suc member) low xs
  wider low member [] rising = tt
  wider low member (x ∷ xs) rising = (rising.0, omega (arith, rising.1), wider (x.0 + 1) member xs rising.2)

  grown : (member : ℕ) (ballot : Option (Ballot D G)) (xs : List (ℕ × G)) → AreRising member 0 xs
      → AreRising (suc member) 0 (xs ++ signature_on same subject member ballot)
  grown member None xs rising = rw append-nil (wider 0 member xs rising)
  grown member (Some b) xs rising =
      elim (same_subject same b.subject subject) as
      (λ v. AreRising (suc member) 0 (xs ++ cond v ((member, b.signature) ∷ []) [])) [
        | true ↦ behind 0 member b.signature xs (omega arith) rising
        | false ↦ rw append-nil (wider 0 member xs rising)
      ]

  pub rising_on : (member : ℕ) (slots : List (Option (Ballot D G)))
      → AreRising member 0 (signatures_on same subject member slots)
  rising_on zero slots = tt
  rising_on (suc member) slots = grown member (ballot_of slots member) (signatures_on same subject member slots)
      (rising_on member slots)
