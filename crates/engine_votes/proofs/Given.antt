-- What is stored was passed in.
use Rattle.std.proofs.Common.{◌≡◌, ◌≢◌, ◌⊎◌, ℕ, Bool, true, false, cond, eqb, List, [], ◌∷◌, ◌++◌, Option, Some, None, Result, Ok, Err, refl, ap, sym, ◌∙◌, subst, inl, inr, leb}
use Rattle.std.specs.Prelude.{Contains, IfOk, OnErr}
use Rattle.std.specs.FinMap as map
use Rattle.std.specs.Option.{option_map, option_map_or}
use Rattle.std.specs.Ordering.{nat_cmp}
use Rattle.std.proofs.lemmas.Bool.{eq-eqb, eqb-true, false≢true}
use Rattle.simplex_view_maps.proofs.Maps.{get-kept}
use Rattle.simplex_view_maps.specs.Tracked.{at_or_above}
use Rattle.simplex_types.specs.declared.types.messages.Subject.{Subject}
use Rattle.simplex_types.specs.MessageViews.{subject_view}
use Rattle.engine_votes.specs.declared.batcher.Batcher.{Batcher}
use Rattle.engine_votes.specs.declared.batcher.Counted.{Counted}
use Rattle.engine_votes.specs.declared.batcher.Counted.TheVariants.{Refused, Known, Taken, Certified, Equivocated}
use Rattle.engine_votes.specs.declared.batcher.poll.Ballot.{Ballot}
use Rattle.engine_votes.specs.declared.votes.Vote.{Vote}
use Rattle.engine_votes.specs.Polls.{ballot_of, slots_at}
use Rattle.engine_votes.specs.VoteCounts.{cast_by, contradicted, IsAdded, IsCountedIn, IsMarked}
use Rattle.engine_votes.specs.StoredVotes.{Kind, Notarizes, Nullifies, Finalizes, kind_of, held, AreGiven, HoldsNothing, HoldsAllTheSame, KeepsOthers, IsForgotten, IsCounted, IsCountedAmong}
use Rattle.engine_votes.proofs.Contains.{contains_left, contains_seam}

pub same_or_not : (k l : Kind) → (k ≡ l) ⊎ (k ≡ l → ⊥)
same_or_not Notarizes Notarizes = inl refl
same_or_not Notarizes Nullifies = inr (λ e. cc)
same_or_not Notarizes Finalizes = inr (λ e. cc)
same_or_not Nullifies Notarizes = inr (λ e. cc)
same_or_not Nullifies Nullifies = inl refl
same_or_not Nullifies Finalizes = inr (λ e. cc)
same_or_not Finalizes Notarizes = inr (λ e. cc)
same_or_not Finalizes Nullifies = inr (λ e. cc)
same_or_not Finalizes Finalizes = inl refl

-- what holds of the kind and view of a subject, and of all others, holds of each
pub where_else : {D : Type 0} (on : Subject D) (P : Kind → ℕ → Type 0) → P (kind_of on) (subject_view on)
    → ((kind : Kind) (view : ℕ) → (kind ≡ kind_of on → view ≢ subject_view on) → P kind view) → (kind : Kind) (view : ℕ)
    → P kind view
where_else on P here there kind view = by_kind (same_or_not kind (kind_of on))
  where
    by_view : kind ≡ kind_of on → (t : Bool) → eqb view (subject_view on) ≡ t → P kind view
    by_view e true t = subst (P kind) (sym (eqb-true view (subject_view on) t))
        (subst (λ k. P k (subject_view on)) (sym e) here)
    by_view e false t = there kind view (λ _ same. false≢true (sym t ∙ eq-eqb view (subject_view on) same))

    by_kind : (kind ≡ kind_of on) ⊎ (kind ≡ kind_of on → ⊥) → P kind view
    by_kind (inl e) = by_view e (eqb view (subject_view on)) refl
    by_kind (inr apart) = there kind view (λ e. absurd (apart e))

module _ {D G : Type 0} where
  -- the vote of a member that a ballot is
  abbrev pub vote_by : ℕ → Ballot D G → Vote D G
  vote_by member ballot = record { subject = ballot.subject; signer = member; signature = ballot.signature }

  -- it was stored before, contradicted or not, or is this one
  abbrev pub IsOldOr : List (Option (Ballot D G)) → Vote D G → ℕ → Ballot D G → Type 0
  IsOldOr old vote member ballot =
      ((was : Ballot D G) × (ballot_of old member ≡ Some was) × (vote_by member was ≡ vote_by member ballot))
      ⊎ (vote_by member ballot ≡ vote)

  -- nothing has changed
  was_held : (old : List (Option (Ballot D G))) (vote : Vote D G) (member : ℕ) (ballot : Ballot D G)
      → ballot_of old member ≡ Some ballot → IsOldOr old vote member ballot
  was_held old vote member ballot is = inl (ballot, is, refl)

  some_is : (x y : Ballot D G) → Some x ≡ Some y → x ≡ y
  some_is x y same = ap (λ o. option_map_or (λ b. b) o x) same

  added_by : (old new : List (Option (Ballot D G))) (vote : Vote D G) → IsAdded old vote new
      → (member : ℕ) (ballot : Ballot D G) → ballot_of new member ≡ Some ballot → (t : Bool)
      → eqb member vote.signer ≡ t → IsOldOr old vote member ballot
  added_by old new vote added member ballot is true e =
      let here = some_is ballot (cast_by vote)
      (sym is ∙ added.held member ∙ ap (λ t. cond t (Some (cast_by vote)) (ballot_of old member)) e) in
      inr (ap (vote_by member) here ∙ ap (λ m. vote_by m (cast_by vote)) (eqb-true member vote.signer e))
  added_by old new vote added member ballot is false e =
      was_held old vote member ballot
      (sym (added.held member ∙ ap (λ t. cond t (Some (cast_by vote)) (ballot_of old member)) e) ∙ is)

  -- a mark leaves the vote
  unmarked : (old : List (Option (Ballot D G))) (vote : Vote D G) (member : ℕ) (ballot : Ballot D G)
      (held : Option (Ballot D G)) → ballot_of old member ≡ held
      → option_map contradicted held ≡ Some ballot → IsOldOr old vote member ballot
  unmarked old vote member ballot None at is = absurd (none_is is)
    where
      none_is : None ≡ Some ballot → ⊥
      none_is e = cc
  unmarked old vote member ballot (Some was) at is =
      inl (was, at, ap (vote_by member) (some_is (contradicted was) ballot is))

  marked_by : (old new : List (Option (Ballot D G))) (vote : Vote D G) → IsMarked old vote.signer new
      → (member : ℕ) (ballot : Ballot D G) → ballot_of new member ≡ Some ballot
      → (t : Bool) → eqb member vote.signer ≡ t → IsOldOr old vote member ballot
  marked_by old new vote marked member ballot is true e =
      unmarked old vote member ballot (ballot_of old member) refl
      (sym (marked member ∙ ap (λ t. cond t (option_map contradicted (ballot_of old member)) (ballot_of old member)) e)
      ∙ is)
  marked_by old new vote marked member ballot is false e =
      was_held old vote member ballot (sym (marked member
      ∙ ap (λ t. cond t (option_map contradicted (ballot_of old member)) (ballot_of old member)) e) ∙ is)

module _ {S D K G C : Type 0} (same : D → D → Bool) (IsMadeOf : Subject D → List (ℕ × G) → C → Type 0)
    (members : ℕ) where
  pub counted_by : (old new : List (Option (Ballot D G))) (vote : Vote D G) (r : Counted S D K G C)
      → IsCountedIn same IsMadeOf members old vote new r → (member : ℕ) (ballot : Ballot D G)
      → ballot_of new member ≡ Some ballot → IsOldOr old vote member ballot
  counted_by old new vote Refused h member ballot is = absurd h
  counted_by old new vote Known h member ballot is = was_held old vote member ballot (sym (h.1 member) ∙ is)
  counted_by old new vote (Equivocated first second) h member ballot is =
      marked_by old new vote h.1 member ballot is (eqb member vote.signer) refl
  counted_by old new vote Taken h member ballot is =
      added_by old new vote h.0 member ballot is (eqb member vote.signer) refl
  counted_by old new vote (Certified made) h member ballot is =
      added_by old new vote h.0 member ballot is (eqb member vote.signer) refl

module _ {S D K G C : Type 0} (given : List (Vote D G)) (old new : Batcher S D K G C) (are : AreGiven given old) where
  pub same_given : HoldsAllTheSame old new → AreGiven given new
  same_given same kind view member ballot is = are kind view member ballot (sym (same kind view member) ∙ is)

  pub wider_given : (vote : Vote D G) → AreGiven given new → AreGiven (given ++ vote ∷ []) new
  wider_given vote all kind view member ballot is =
      contains_left given (vote ∷ []) (vote_by member ballot) (all kind view member ballot is)

  module _ (vote : Vote D G) (others : KeepsOthers vote.subject old new)
      (here : (member : ℕ) (ballot : Ballot D G)
      → ballot_of (held new (kind_of vote.subject) (subject_view vote.subject)) member ≡ Some ballot
      → IsOldOr (held old (kind_of vote.subject) (subject_view vote.subject)) vote member ballot) where
    there : (kind : Kind) (view member : ℕ) (ballot : Ballot D G) → held new kind view ≡ held old kind view
        → ballot_of (held new kind view) member ≡ Some ballot → Contains (given ++ vote ∷ []) (vote_by member ballot)
    there kind view member ballot same is = contains_left given (vote ∷ []) (vote_by member ballot)
        (are kind view member ballot (ap (λ slots. ballot_of slots member) (sym same) ∙ is))

    either : (member : ℕ) (ballot : Ballot D G)
        → IsOldOr (held old (kind_of vote.subject) (subject_view vote.subject)) vote member ballot
        → Contains (given ++ vote ∷ []) (vote_by member ballot)
    either member ballot (inl (was, is, same)) =
        subst (Contains (given ++ vote ∷ [])) same
        (contains_left given (vote ∷ []) (vote_by member was)
        (are (kind_of vote.subject) (subject_view vote.subject) member was is))
    either member ballot (inr is) = subst (Contains (given ++ vote ∷ [])) (sym is) (contains_seam given vote [])

    pub among_given : AreGiven (given ++ vote ∷ []) new
    among_given =
        where_else vote.subject
        (λ kind view. (member : ℕ) (ballot : Ballot D G) → ballot_of (held new kind view) member ≡ Some ballot
        → Contains (given ++ vote ∷ []) (vote_by member ballot))
        (λ member ballot is. either member ballot (here member ballot is))
        (λ kind view apart member ballot. there kind view member ballot (others kind view apart))

  module _ (same : D → D → Bool) (IsMadeOf : Subject D → List (ℕ × G) → C → Type 0) (members : ℕ) (is_admitted : Bool)
      (vote : Vote D G) where
    counted_among : (r : Counted S D K G C) → IsCountedAmong same IsMadeOf members is_admitted old vote new r
        → AreGiven (given ++ vote ∷ []) new
    counted_among r among = among_given vote among.others
        (counted_by same IsMadeOf members (held old (kind_of vote.subject) (subject_view vote.subject))
        (held new (kind_of vote.subject) (subject_view vote.subject)) vote r among.counted)

    counted_given : (r : Counted S D K G C) → IsCounted same IsMadeOf members is_admitted old vote new r
        → AreGiven (given ++ vote ∷ []) new
    counted_given Refused counted = wider_given vote (same_given counted.1)
    counted_given Known counted = counted_among Known counted
    counted_given (Equivocated first second) counted = counted_among (Equivocated first second) counted
    counted_given Taken counted = counted_among Taken counted
    counted_given (Certified made) counted = counted_among (Certified made) counted

    pub count_given : {E : Type 0} (r : Result (Counted S D K G C) E)
        → IfOk r (IsCounted same IsMadeOf members is_admitted old vote new) → OnErr r (HoldsAllTheSame old new)
        → AreGiven (given ++ vote ∷ []) new
    count_given (Ok answer) counted kept = counted_given answer counted
    count_given (Err refused) counted kept = wider_given vote (same_given kept)

  left_by : (polls : map.FinMap nat_cmp _) (lowest view member : ℕ) (ballot : Ballot D G)
      → ballot_of (slots_at (at_or_above polls lowest) view) member ≡ Some ballot → (t : Bool) → leb lowest view ≡ t
      → ballot_of (slots_at polls view) member ≡ Some ballot
  left_by polls lowest view member ballot is true t =
      sym (ap (λ found. ballot_of (option_map_or (λ slots. slots.items) found []) member)
      (get-kept polls (leb lowest) view ∙ ap (λ b. cond b (map.get polls view) None) t)) ∙ is
  left_by polls lowest view member ballot is false t =
      absurd (none_is (sym (ap (λ found. ballot_of (option_map_or (λ slots. slots.items) found []) member)
      (get-kept polls (leb lowest) view ∙ ap (λ b. cond b (map.get polls view) None) t)) ∙ is))
    where
      none_is : ballot_of {D = D} {G = G} [] member ≡ Some ballot → ⊥
      none_is e = cc

  pub forgotten_given : (lowest : ℕ) → IsForgotten lowest old new → AreGiven given new
  forgotten_given lowest gone Notarizes view member ballot is =
      are Notarizes view member ballot (left_by old.notarize lowest view member ballot
      (ap (λ polls. ballot_of (slots_at polls view) member) (sym gone.0) ∙ is) (leb lowest view) refl)
  forgotten_given lowest gone Nullifies view member ballot is =
      are Nullifies view member ballot (left_by old.nullify lowest view member ballot
      (ap (λ polls. ballot_of (slots_at polls view) member) (sym gone.1) ∙ is) (leb lowest view) refl)
  forgotten_given lowest gone Finalizes view member ballot is =
      are Finalizes view member ballot (left_by old.finalize lowest view member ballot
      (ap (λ polls. ballot_of (slots_at polls view) member) (sym gone.2) ∙ is) (leb lowest view) refl)

module _ {S D K G C : Type 0} (old new : Batcher S D K G C) where
  -- the same are stored of the kind and view of a vote, and of all others
  pub all_the_same : (on : Subject D) → KeepsOthers on old new
      → ((member : ℕ) → ballot_of (held new (kind_of on) (subject_view on)) member ≡ ballot_of
      (held old (kind_of on) (subject_view on)) member) → HoldsAllTheSame old new
  all_the_same on others here =
      where_else on (λ kind view. (member : ℕ)
      → ballot_of (held new kind view) member ≡ ballot_of (held old kind view) member) here
      (λ kind view apart member. ap (λ slots. ballot_of slots member) (others kind view apart))

module _ {S D K G C : Type 0} where
  -- nothing is stored
  pub none_given : (batcher : Batcher S D K G C) → HoldsNothing batcher → AreGiven [] batcher
  none_given batcher nothing kind view member ballot is =
      absurd (none_is (ap (λ slots. ballot_of slots member) (sym (nothing kind view)) ∙ is))
    where
      none_is : ballot_of {D = D} {G = G} [] member ≡ Some ballot → ⊥
      none_is e = cc
