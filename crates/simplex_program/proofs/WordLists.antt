-- Lines by how many words they have.
use Rattle.std.proofs.Common.{◌≡◌, refl, ap, sym, ℕ, ◌≤◌, Bool, true, false, List, [], ◌∷◌, length, Option, Some, None, arith}
use Rattle.std.specs.List.{position_or_len, slice_split, onto_first}
use Rattle.simplex_program.specs.declared.resolver_line.ResolverLine.{ResolverLine}
use Rattle.simplex_program.specs.declared.resolver_line.ResolverLine.TheVariants as asked
use Rattle.simplex_program.specs.declared.voter_line.VoterLine.{VoterLine}
use Rattle.simplex_program.specs.declared.voter_line.VoterLine.TheVariants as line
use Rattle.simplex_program.specs.ResolverLine as resolver
use Rattle.simplex_program.specs.VoterLine.{voter_words, ReadsVoterLine, ReadsVoterLineOf}

-- the words of a line are as many as the line has
pub of_count : (words : List (List ℕ)) (r : Option VoterLine) → ReadsVoterLineOf (length words) words r
    → ReadsVoterLine words r
of_count words None none = λ line small is. none line (ap length (sym is)) small is
of_count words (Some line) is = is

pub resolver_of_count : (words : List (List ℕ)) (r : Option ResolverLine) → resolver.ReadsLineOf (length words) words r
    → resolver.ReadsLine words r
resolver_of_count words None none = λ line small is. none line (ap length (sym is)) small is
resolver_of_count words (Some line) is = is

-- none has more than five
pub five_at_most : (line : VoterLine) → length (voter_words line) ≤ 5
five_at_most (line.Notarization a b c) = omega arith
five_at_most (line.Nullification a b) = omega arith
five_at_most (line.Finalization a b c d) = omega arith
five_at_most (line.Verdict a b c) = omega arith
five_at_most (line.Notarize a) = omega arith
five_at_most (line.Nullify a) = omega arith
five_at_most (line.Finalize a) = omega arith
five_at_most (line.Broadcast a b) = omega arith
five_at_most line.Best = omega arith
five_at_most line.Prune = omega arith
five_at_most (line.Proposal a b c) = omega arith
five_at_most (line.Release a) = omega arith
five_at_most line.Propose = omega arith
five_at_most (line.Proposed a b c) = omega arith
five_at_most (line.Supersede a) = omega arith
five_at_most (line.Abandon a) = omega arith
five_at_most line.Verify = omega arith
five_at_most (line.Verified a) = omega arith
five_at_most (line.Rejected a b) = omega arith
five_at_most line.Candidates = omega arith
five_at_most (line.Token a b) = omega arith
five_at_most (line.Trigger a b c) = omega arith
five_at_most (line.Timeout a) = omega arith
five_at_most (line.Restart a b) = omega arith
five_at_most (line.RestartPruned a b) = omega arith
five_at_most line.Record = omega arith
five_at_most line.Views = omega arith

-- and none of a resolver more than three
pub three_at_most : (line : ResolverLine) → length (resolver.line_words line) ≤ 3
three_at_most (asked.Notarization a) = omega arith
three_at_most (asked.Nullification a) = omega arith
three_at_most (asked.Finalization a) = omega arith
three_at_most (asked.Certified a b) = omega arith
three_at_most asked.Replayed = omega arith
three_at_most (asked.Settled a b) = omega arith
three_at_most (asked.KeySettled a) = omega arith
three_at_most (asked.Uncertifiable a) = omega arith
three_at_most (asked.Produce a) = omega arith
three_at_most asked.Outstanding = omega arith

-- a list in which nothing passes is one part
pub one_part : {X : Type 0} (p : X → Bool) (xs : List X) → position_or_len p xs ≡ length xs → slice_split p xs ≡ xs ∷ []
one_part p [] is = refl
one_part {X} p (x ∷ xs) is = by_test (one_part p xs) (p x) refl
  where
    by_test : (position_or_len p xs ≡ length xs → slice_split p xs ≡ xs ∷ []) → (b : Bool) → p x ≡ b
        → slice_split p (x ∷ xs) ≡ (x ∷ xs) ∷ []
    by_test rest true here = absurd (let none = rw here at is in omega (arith, none))
    by_test rest false here = let more = rw here at is in rw here (ap (onto_first x) (rest (omega (arith, more))))
