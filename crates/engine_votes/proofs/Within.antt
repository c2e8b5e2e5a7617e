-- Votes that are stored once one is counted are of the views and members that they were of, or this one's.
use Rattle.std.proofs.Common.{◌≡◌, ℕ, ◌≤◌, ◌<◌, Bool, true, List, Some, Result, Ok, Err, ap, sym, ◌∙◌, subst, inl, inr}
use Rattle.std.specs.Prelude.{IfOk, OnErr}
use Rattle.simplex_types.specs.declared.types.messages.Subject.{Subject}
use Rattle.simplex_types.specs.MessageViews.{subject_view}
use Rattle.engine_votes.specs.declared.batcher.Batcher.{Batcher}
use Rattle.engine_votes.specs.declared.batcher.Counted.{Counted}
use Rattle.engine_votes.specs.declared.batcher.Counted.TheVariants.{Refused, Known, Taken, Certified, Equivocated}
use Rattle.engine_votes.specs.declared.batcher.poll.Ballot.{Ballot}
use Rattle.engine_votes.specs.declared.votes.Vote.{Vote}
use Rattle.engine_votes.specs.Polls.{ballot_of}
use Rattle.engine_votes.specs.StoredVotes.{Kind, kind_of, held, EachVote, HoldsUpTo, HoldsAllTheSame, KeepsOthers, IsCounted, IsCountedAmong}
use Rattle.engine_votes.proofs.Given.{where_else, IsOldOr, counted_by}

module _ {S D K G C : Type 0} (Holds : ℕ → ℕ → Type 0) (old new : Batcher S D K G C) (each : EachVote Holds old) where
  each_same : HoldsAllTheSame old new → EachVote Holds new
  each_same same kind view member ballot is = each kind view member ballot (sym (same kind view member) ∙ is)

  module _ (vote : Vote D G) (this : Holds (subject_view vote.subject) vote.signer)
      (others : KeepsOthers vote.subject old new)
      (here : (member : ℕ) (ballot : Ballot D G)
      → ballot_of (held new (kind_of vote.subject) (subject_view vote.subject)) member ≡ Some ballot
      → IsOldOr (held old (kind_of vote.subject) (subject_view vote.subject)) vote member ballot) where
    there : (kind : Kind) (view member : ℕ) (ballot : Ballot D G) → held new kind view ≡ held old kind view
        → ballot_of (held new kind view) member ≡ Some ballot → Holds view member
    there kind view member ballot same is = each kind view member ballot
        (ap (λ slots. ballot_of slots member) (sym same) ∙ is)

    either : (member : ℕ) (ballot : Ballot D G)
        → IsOldOr (held old (kind_of vote.subject) (subject_view vote.subject)) vote member ballot
        → Holds (subject_view vote.subject) member
    either member ballot (inl (was, is, same)) = each (kind_of vote.subject) (subject_view vote.subject) member was is
    either member ballot (inr is) = subst (Holds (subject_view vote.subject)) (ap (λ v. v.signer) (sym is)) this

    each_or_this : EachVote Holds new
    each_or_this =
        where_else vote.subject (λ kind view. (member : ℕ) (ballot : Ballot D G)
        → ballot_of (held new kind view) member ≡ Some ballot → Holds view member)
        (λ member ballot is. either member ballot (here member ballot is))
        (λ kind view apart member ballot. there kind view member ballot (others kind view apart))

module _ {S D K G C : Type 0} (same : D → D → Bool) (IsMadeOf : Subject D → List (ℕ × G) → C → Type 0) (members : ℕ)
    (is_admitted : Bool)
    (old new : Batcher S D K G C) (vote : Vote D G) (highest : ℕ)
    (admits : is_admitted ≡ true → (1 ≤ subject_view vote.subject) × (subject_view vote.subject ≤ highest))
    (within : HoldsUpTo members highest old) where
  abbrev Holds : ℕ → ℕ → Type 0
  Holds view member = (1 ≤ view) × (view ≤ highest) × (member < members)

  among_within : (r : Counted S D K G C) → IsCountedAmong same IsMadeOf members is_admitted old vote new r
      → HoldsUpTo members highest new
  among_within r among =
      let at = admits among.may.admitted in
      each_or_this Holds old new within vote (at.0, at.1, among.may.of_a_member) among.others
      (counted_by {S = S} {K = K} same IsMadeOf members (held old (kind_of vote.subject) (subject_view vote.subject))
      (held new (kind_of vote.subject) (subject_view vote.subject)) vote r among.counted)

  counted_within : (r : Counted S D K G C) → IsCounted same IsMadeOf members is_admitted old vote new r
      → HoldsUpTo members highest new
  counted_within Refused counted = each_same Holds old new within counted.1
  counted_within Known counted = among_within Known counted
  counted_within (Equivocated first second) counted = among_within (Equivocated first second) counted
  counted_within Taken counted = among_within Taken counted
  counted_within (Certified made) counted = among_within (Certified made) counted

  -- once a vote is counted
  pub count_within : {E : Type 0} (r : Result (Counted S D K G C) E)
      → IfOk r (IsCounted same IsMadeOf members is_admitted old vote new) → OnErr r (HoldsAllTheSame old new)
      → HoldsUpTo members highest new
  count_within (Ok answer) counted kept = counted_within answer counted
  count_within (Err refused) counted kept = each_same Holds old new within kept
