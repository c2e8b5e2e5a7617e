-- Cases of the definitions of votes that are counted, computed: of four members, whose payloads and signatures are
-- numbers.
use Rattle.std.proofs.Common.{◌≡◌, refl, ℕ, Bool, true, false, List, [], ◌∷◌, map, nat_eq, Option, Some, None}
use Rattle.simplex_types.specs.declared.types.messages.Subject.{Subject}
use Rattle.simplex_types.specs.declared.types.messages.Subject.TheVariants.{Notarize, Nullify, Finalize}
use Rattle.simplex_types.specs.Quorums.{quorum_of}
use Rattle.engine_votes.specs.declared.batcher.poll.Ballot.{Ballot}
use Rattle.engine_votes.specs.Polls.{ballot_of, signatures_on}
use Rattle.engine_votes.specs.Subjects.{same_subject}
use Rattle.simplex_record.proofs.Examples.{proposal, round}

-- of three f and one members all but f make a quorum
quorums : map quorum_of (1 ∷ 3 ∷ 4 ∷ 6 ∷ 7 ∷ 10 ∷ []) ≡ 1 ∷ 3 ∷ 3 ∷ 5 ∷ 5 ∷ 7 ∷ []
quorums = refl

-- what votes are on: a kind, and a proposal with its parent, or a round
abbrev on_same : Subject ℕ → List (Subject ℕ) → List Bool
on_same subject others = map (same_subject nat_eq subject) others

proposals :
    on_same (Notarize (proposal 3 2 7)) (Notarize (proposal 3 2 7) ∷ Notarize (proposal 3 2 8) ∷ Notarize
    (proposal 3 1 7) ∷ Finalize (proposal 3 2 7) ∷ Nullify (round 3) ∷ [])
    ≡ true ∷ false ∷ false ∷ false ∷ false ∷ []
proposals = refl

rounds : on_same (Nullify (round 3))
    (Nullify (round 3) ∷ Nullify (round 4) ∷ Nullify (record { epoch = 2; view = 3 }) ∷ []) ≡ true ∷ false ∷ false ∷ []
rounds = refl

-- members 0 and 3 voted for one proposal of view 3, member 1 for another, member 2 for none so far
abbrev vote : ℕ → ℕ → Option (Ballot ℕ ℕ)
vote payload signature =
    Some (record { subject = Notarize (proposal 3 2 payload); signature = signature; is_contradicted = false })

abbrev votes : List (Option (Ballot ℕ ℕ))
votes = vote 7 100 ∷ vote 8 101 ∷ None ∷ vote 7 103 ∷ []

-- the certificate is made of their signatures alone, by rising member
signed : signatures_on nat_eq (Notarize (proposal 3 2 7)) 4 votes ≡ (0, 100) ∷ (3, 103) ∷ []
signed = refl

-- who is no member signs nothing
signed_by_members : signatures_on nat_eq (Notarize (proposal 3 2 7)) 3 votes ≡ (0, 100) ∷ []
signed_by_members = refl

-- nothing is stored of a member that has not voted
no_vote : map (ballot_of votes) (2 ∷ 4 ∷ []) ≡ None ∷ None ∷ []
no_vote = refl
