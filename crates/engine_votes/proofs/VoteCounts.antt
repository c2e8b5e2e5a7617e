-- What a vote leaves of the stored ones.
use Rattle.std.proofs.Common.{◌≡◌, ◌≢◌, ℕ, ◌<◌, Bool, true, false, cond, eqb, zero, suc, List, [], ◌∷◌, Option, Some, None, Result, Ok, Err, length, refl, sym, ◌∙◌, ap, subst, get_or, set}
use Rattle.std.specs.Prelude.{IfOk, OnErr}
use Rattle.std.proofs.lemmas.Bool.{eq-eqb, eqb-true, false≢true}
use Rattle.std.proofs.lemmas.List.{get_or-set_same, get_or-set_other}
use Rattle.simplex_types.specs.declared.types.messages.Subject.{Subject}
use Rattle.engine_votes.specs.declared.batcher.Counted.{Counted}
use Rattle.engine_votes.specs.declared.batcher.Counted.TheVariants.{Refused, Known, Taken, Certified, Equivocated}
use Rattle.engine_votes.specs.declared.batcher.poll.Ballot.{Ballot}
use Rattle.engine_votes.specs.declared.votes.Vote.{Vote}
use Rattle.engine_votes.specs.Polls.{ballot_of, HoldsTheSame}
use Rattle.engine_votes.specs.VoteCounts.{cast_by, contradicted, is_pair, IsAdded, IsCountedIn, IsMarked, ShowsBoth}
use Rattle.std.specs.Option.{option_map}

pub if_ok_on : {X E : Type 0} (r : Result X E) {P Q : X → Type 0} → ((x : X) → P x → Q x) → IfOk r P → IfOk r Q
if_ok_on (Ok x) on h = on x h
if_ok_on (Err e) on h = tt

module _ {X : Type 0} (xs : List X) (i : ℕ) (y d : X) (within : i < length xs) (m : ℕ) where
  by_test : (b : Bool) → eqb m i ≡ b → get_or (set xs i y) m d ≡ cond b y (get_or xs m d)
  by_test true e = rw (eqb-true m i e) (get_or-set_same xs i y d within)
  by_test false e = get_or-set_other xs i m y d (λ same. false≢true (sym e ∙ eq-eqb m i same))

  -- what is read after a write
  pub written : get_or (set xs i y) m d ≡ cond (eqb m i) y (get_or xs m d)
  written = by_test (eqb m i) refl

-- a place that was emptied
get_or-set_own : {X : Type 0} (xs : List (Option X)) (i : ℕ) → get_or (set xs i None) i None ≡ None
get_or-set_own [] zero = refl
get_or-set_own [] (suc i) = refl
get_or-set_own (x ∷ xs) zero = refl
get_or-set_own (x ∷ xs) (suc i) = get_or-set_own xs i

module _ {D G : Type 0} where
  -- nothing else has changed since
  pub added : (old mid : List (Option (Ballot D G))) → HoldsTheSame old mid
      → (vote : Vote D G) (new : List (Option (Ballot D G))) → IsAdded mid vote new → IsAdded old vote new
  added old mid kept vote new h = record {
    first = sym (kept vote.signer) ∙ h.first;
    held = λ m. h.held m ∙ ap (λ b. cond (eqb m vote.signer) (Some (cast_by vote)) b) (kept m);
  }

  pub marked : (old mid : List (Option (Ballot D G))) → HoldsTheSame old mid
      → (member : ℕ) (new : List (Option (Ballot D G))) → IsMarked mid member new → IsMarked old member new
  marked old mid kept member new h = λ m. h m ∙ ap (λ b. cond (eqb m member) (option_map contradicted b) b) (kept m)

  -- a first vote is added
  pub put_adds : (slots : List (Option (Ballot D G))) (vote : Vote D G) (i : ℕ) → i ≡ vote.signer
      → vote.signer < length slots → ballot_of slots vote.signer ≡ None
      → IsAdded slots vote (set slots i (Some (cast_by vote)))
  put_adds slots vote i e within none =
      record { first = none; held = λ m. rw e (written slots vote.signer (Some (cast_by vote)) None within m) }

  -- and taken back
  module _ (slots : List (Option (Ballot D G))) (i : ℕ) (b : Option (Ballot D G)) (none : ballot_of slots i ≡ None)
      (m : ℕ) where
    back_by : (t : Bool) → eqb m i ≡ t → ballot_of (set (set slots i b) i None) m ≡ ballot_of slots m
    back_by true e = rw (eqb-true m i e) (get_or-set_own (set slots i b) i ∙ sym none)
    back_by false e =
        let other : m ≢ i = λ same. false≢true (sym e ∙ eq-eqb m i same) in
        get_or-set_other (set slots i b) i m None None other ∙ get_or-set_other slots i m b None other

    pub put_back : ballot_of (set (set slots i b) i None) m ≡ ballot_of slots m
    put_back = back_by (eqb m i) refl

module _ {S D K G C : Type 0} (same : D → D → Bool) (IsMadeOf : Subject D → List (ℕ × G) → C → Type 0)
    (members : ℕ) where
  -- what was stored before is what counts
  pub counted_since : (old mid : List (Option (Ballot D G))) → HoldsTheSame old mid
      → (vote : Vote D G) (new : List (Option (Ballot D G))) (r : Counted S D K G C)
      → IsCountedIn same IsMadeOf members mid vote new r → IsCountedIn same IsMadeOf members old vote new r
  counted_since old mid kept vote new Refused h = h
  counted_since old mid kept vote new Known h = ((h.0.0, sym (kept vote.signer) ∙ h.0.1, h.0.2), λ m. h.1 m ∙ kept m)
  counted_since old mid kept vote new (Equivocated first second) h =
      ((sym (kept first.signer) ∙ h.0.0, h.0.1, h.0.2, h.0.3), marked old mid kept vote.signer new h.1)
  counted_since old mid kept vote new Taken h = (added old mid kept vote new h.0, h.1)
  counted_since old mid kept vote new (Certified made) h = (added old mid kept vote new h.0, h.1, h.2)

  -- a further vote of a member: a mark where a pair is returned, and else nothing
  pub counted_again : (slots new : List (Option (Ballot D G))) (ballot : Ballot D G) (vote : Vote D G)
      (r : Counted S D K G C) → ballot_of slots vote.signer ≡ Some ballot
      → ShowsBoth ballot vote r → (is_pair r ≡ true → IsMarked slots vote.signer new)
      → (is_pair r ≡ false → new ≡ slots) → IsCountedIn same IsMadeOf members slots vote new r
  counted_again slots new ballot vote Refused held h marked left = h
  counted_again slots new ballot vote Known held h marked left =
      ((ballot, held, h), λ m. ap (λ s. ballot_of s m) (left refl))
  counted_again slots new ballot vote (Equivocated first second) held h marked left = (
    (ap (ballot_of slots) h.1 ∙ held ∙ ap Some (sym h.0), h.1, (λ e. h.2 (sym (ap (λ b. b.subject) h.0) ∙ e)), h.3),
    marked refl,
  )
  counted_again slots new ballot vote Taken held h marked left = absurd h
  counted_again slots new ballot vote (Certified made) held h marked left = absurd h

  -- the same by equal lists
  pub counted_as : {E : Type 0} (r : Result (Counted S D K G C) E) (vote : Vote D G)
      (old old' new new' : List (Option (Ballot D G))) → old ≡ old' → new ≡ new'
      → IfOk r (IsCountedIn same IsMadeOf members old' vote new')
      → IfOk r (IsCountedIn same IsMadeOf members old vote new)
  counted_as r vote old old' new new' p q h =
      let P : List (Option (Ballot D G)) → List (Option (Ballot D G))
      → Type 0 = λ o n. IfOk r (IsCountedIn same IsMadeOf members o vote n) in
      subst (λ o. P o new) (sym p) (subst (λ n. P old' n) (sym q) h)

pub kept_as : {X E D G : Type 0} (r : Result X E) (old old' new new' : List (Option (Ballot D G))) → old ≡ old'
    → new ≡ new' → OnErr r (HoldsTheSame old' new') → OnErr r (HoldsTheSame old new)
kept_as {D = D} {G = G} r old old' new new' p q h =
    let P : List (Option (Ballot D G)) → List (Option (Ballot D G)) → Type 0 = λ o n. OnErr r (HoldsTheSame o n) in
    subst (λ o. P o new) (sym p) (subst (λ n. P old' n) (sym q) h)
