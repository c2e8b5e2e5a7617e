-- The stored votes of one kind and view, by member.
use Rattle.std.specs.Prelude.{◌≡◌, ℕ, zero, suc, Bool, false, List, [], ◌∷◌, ◌++◌, Option, Some, None, if◌then◌else◌, slice_index_or, Vec}
use Rattle.std.specs.Option.{option_map_or}
use Rattle.std.specs.FinMap as map
use Rattle.std.specs.Ordering.{nat_cmp}
use Rattle.std.specs.declared.alloc.Global.{Global}
use Rattle.simplex_types.specs.declared.types.messages.Subject.{Subject}
use Rattle.engine_votes.specs.declared.batcher.poll.Ballot.{Ballot}
use Rattle.engine_votes.specs.Subjects.{same_subject}

module _ {D G : Type 0} where
  -- the stored vote of a member
  abbrev pub ballot_of : List (Option (Ballot D G)) → ℕ → Option (Ballot D G)
  ballot_of slots member = slice_index_or slots member None

  -- the stored votes of a view
  abbrev pub slots_at : map.FinMap nat_cmp (Vec (Option (Ballot D G)) Global) → ℕ → List (Option (Ballot D G))
  slots_at polls view = option_map_or (λ slots. slots.items) (map.get polls view) []

  -- the same votes are stored
  abbrev pub HoldsTheSame : List (Option (Ballot D G)) → List (Option (Ballot D G)) → Type 0
  HoldsTheSame old new = (member : ℕ) → ballot_of new member ≡ ballot_of old member

-- a member's signature, if there is one
abbrev pub signed_by : {G : Type 0} → ℕ → Option G → List (ℕ × G)
signed_by member None = []
signed_by member (Some signature) = (member, signature) ∷ []

module _ {D G : Type 0} (same : D → D → Bool) (subject : Subject D) where
  -- the vote is on the subject
  abbrev pub is_on : Option (Ballot D G) → Bool
  is_on None = false
  is_on (Some ballot) = same_subject same ballot.subject subject

  -- the member's signature, if its vote is on the subject
  abbrev pub signature_on : ℕ → Option (Ballot D G) → List (ℕ × G)
  signature_on member None = []
  signature_on member (Some ballot) =
      if same_subject same ballot.subject subject then (member, ballot.signature) ∷ [] else []

  -- the stored signatures on the subject of this number of first members, by rising member
  abbrev pub signatures_on : ℕ → List (Option (Ballot D G)) → List (ℕ × G)
  signatures_on zero slots = []
  signatures_on (suc member) slots = signatures_on member slots ++ signature_on member (ballot_of slots member)
