-- Entries that hold together fit one after another, in any order of their views that does not fall.
use Rattle.std.proofs.Common.{◌≡◌, refl, ap, sym, ◌∙◌, subst, ℕ, suc, ◌≤◌, inl, inr, Bool, true, false, not, ◌&&◌, ◌||◌, ◌==◌, List, [], ◌∷◌, ◌++◌, append_assoc, Contains, arith}
use Rattle.std.specs.List.Sorted.{IsNonDecreasingBy}
use Rattle.std.proofs.lemmas.Bool.{cases_Bool, eq-eqb, eqb-true}
use Rattle.std.proofs.lemmas.Bool.Decides.{nat_tests}
use Rattle.std.proofs.lemmas.List.Elements.{Contains-append_left, Contains-push_cases}
use Rattle.simplex_types.proofs.Proposal.{same_proposal-refl}
use Rattle.simplex_types.specs.Proposal.{same_proposal}
use Rattle.simplex_types.specs.Certificates.{ProposalFacts, Notarized, ArtifactFacts, NotarizeVote, NullifyVote, FinalizeVote, Verdict, Accepted}
use Rattle.simplex_types.specs.declared.types.messages.Proposal.{Proposal}
use Rattle.simplex_types.specs.declared.types.numbers.Round.{Round}
use Rattle.simplex_record.specs.Check.{stands, agrees, is_notarization, is_verdict, is_nullify_vote, is_finalize_vote, last_view, notarizes_other, finalizes_other, lacks_notarization, contradicts_verdict, meets_opposite, contradicts_vote, lacks_true_verdict}
use Rattle.simplex_record.specs.Entries.{entry_view}
use Rattle.laws_safety.proofs.own_records.Outside.{EntryFits, Fit}
use Rattle.laws_safety.proofs.lists.Splits.{Contains-cases, Contains-cons_rest}
use Rattle.laws_safety.proofs.agreement.VoteOrder.{Contains-middle}

-- the relations between the entries of a record, each by its view
pub record HoldTogether {D : Type 0} (entries : List (ArtifactFacts D)) : Type 0 where
  -- before each verdict there is a notarization of its view, and a view's verdicts agree
  pub notarized : (before after : List (ArtifactFacts D)) (round : Round) (success : Bool)
      → entries ≡ before ++ Verdict round success ∷ after
      → (c : ProposalFacts D) × Contains before (Accepted (Notarized c)) × (c.proposal.round.view ≡ round.view)
  pub one_verdict : (round other : Round) (success given : Bool) → Contains entries (Verdict round success)
      → Contains entries (Verdict other given) → round.view ≡ other.view → success ≡ given
  -- the votes of one kind and view are for one proposal, and none to nullify is beside one to finalize
  pub one_notarize : (p q : Proposal D) (m n : ℕ) → Contains entries (NotarizeVote p m)
      → Contains entries (NotarizeVote q n) → p.round.view ≡ q.round.view → p ≡ q
  pub one_finalize : (p q : Proposal D) (m n : ℕ) → Contains entries (FinalizeVote p m)
      → Contains entries (FinalizeVote q n) → p.round.view ≡ q.round.view → p ≡ q
  pub not_both : (round : Round) (p : Proposal D) (m n : ℕ) → Contains entries (NullifyVote round m)
      → Contains entries (FinalizeVote p n) → round.view ≡ p.round.view → ⊥
  -- before each vote to finalize there is a true verdict of its view
  pub judged : (before after : List (ArtifactFacts D)) (p : Proposal D) (m : ℕ)
      → entries ≡ before ++ FinalizeVote p m ∷ after
      → (round : Round) × Contains before (Verdict round true) × (round.view ≡ p.round.view)

and_is : (a b : Bool) → a ≡ true → b ≡ true → (a && b) ≡ true
and_is true b p q = q
and_is false b p q = p

module _ {D : Type 0} (v : ℕ) (is_kind : ArtifactFacts D → Bool) where
  -- there is an entry of the view among those that hold it, and none if none is held

  pub stands_of : (entries : List (ArtifactFacts D)) (e : ArtifactFacts D) → Contains entries e → entry_view e ≡ v
      → is_kind e ≡ true → stands v is_kind entries ≡ true
  stands_of [] e h at kind = absurd (omega (arith, h.1))
  stands_of (f ∷ entries) e h at kind = elim (Contains-cases f entries e h) [
    | inl here ↦ (let first : (entry_view f == v && is_kind f) ≡ true =
        and_is (entry_view f == v) (is_kind f) (eq-eqb (entry_view f) v (ap entry_view here ∙ at))
        (ap is_kind here ∙ kind) in rw first refl)
    | inr later ↦ (let behind = stands_of entries e later at kind in either (entry_view f == v && is_kind f) behind)
  ]
    where
      either : (b : Bool) → stands v is_kind entries ≡ true → (b || stands v is_kind entries) ≡ true
      either true is = refl
      either false is = is

  pub none_stands : (entries : List (ArtifactFacts D))
      → ((e : ArtifactFacts D) → Contains entries e → entry_view e ≡ v → is_kind e ≡ false)
      → stands v is_kind entries ≡ false
  none_stands [] none = refl
  none_stands (f ∷ entries) none =
      let behind = none_stands entries (λ e h at. none e (Contains-cons_rest f entries e h) at) in
      elim (cases_Bool (entry_view f == v)) [
        | inl here ↦ (let other : is_kind f ≡ false = none f (0, omega arith, refl) (eqb-true (entry_view f) v here) in
            rw (here, other, behind) refl)
        | inr apart ↦ rw (apart, behind) refl
      ]

agreeing : (success : Bool) → agrees (not success) success ≡ false
agreeing true = refl
agreeing false = refl

module _ {D : Type 0} where
  -- an entry that is none of these is not of their kind

  no_nullify : (e : ArtifactFacts D) → ((round : Round) (m : ℕ) → e ≡ NullifyVote round m → ⊥)
      → is_nullify_vote e ≡ false
  no_nullify (NotarizeVote _ _) none = refl
  no_nullify (NullifyVote round m) none = absurd (none round m refl)
  no_nullify (FinalizeVote _ _) none = refl
  no_nullify (Verdict _ _) none = refl
  no_nullify (Accepted _) none = refl

  no_finalize : (e : ArtifactFacts D) → ((p : Proposal D) (m : ℕ) → e ≡ FinalizeVote p m → ⊥)
      → is_finalize_vote e ≡ false
  no_finalize (NotarizeVote _ _) none = refl
  no_finalize (NullifyVote _ _) none = refl
  no_finalize (FinalizeVote p m) none = absurd (none p m refl)
  no_finalize (Verdict _ _) none = refl
  no_finalize (Accepted _) none = refl

  no_contrary : (success : Bool) (e : ArtifactFacts D)
      → ((round : Round) (given : Bool) → e ≡ Verdict round given → given ≡ success)
      → is_verdict (not success) e ≡ false
  no_contrary success (NotarizeVote _ _) one = refl
  no_contrary success (NullifyVote _ _) one = refl
  no_contrary success (FinalizeVote _ _) one = refl
  no_contrary success (Verdict round given) one = ap (agrees (not success)) (one round given refl) ∙ agreeing success
  no_contrary success (Accepted _) one = refl

is_one : {D : Type 0} (same : D → D → Bool) (itself : (d : D) → same d d ≡ true) (p q : Proposal D) → q ≡ p
    → not (same_proposal same q p) ≡ false
is_one same itself p q one = let found : same_proposal same q p ≡ true = ap (λ r. same_proposal same r p) one
    ∙ same_proposal-refl same itself p in rw found refl

module _ {D : Type 0} (same : D → D → Bool) (itself : (d : D) → same d d ≡ true) where
  no_other_notarize : (p : Proposal D) (e : ArtifactFacts D) → ((q : Proposal D) (m : ℕ) → e ≡ NotarizeVote q m → q ≡ p)
      → notarizes_other same p e ≡ false
  no_other_notarize p (NotarizeVote q m) one = is_one same itself p q (one q m refl)
  no_other_notarize p (NullifyVote _ _) one = refl
  no_other_notarize p (FinalizeVote _ _) one = refl
  no_other_notarize p (Verdict _ _) one = refl
  no_other_notarize p (Accepted _) one = refl

  no_other_finalize : (p : Proposal D) (e : ArtifactFacts D) → ((q : Proposal D) (m : ℕ) → e ≡ FinalizeVote q m → q ≡ p)
      → finalizes_other same p e ≡ false
  no_other_finalize p (NotarizeVote _ _) one = refl
  no_other_finalize p (NullifyVote _ _) one = refl
  no_other_finalize p (FinalizeVote q m) one = is_one same itself p q (one q m refl)
  no_other_finalize p (Verdict _ _) one = refl
  no_other_finalize p (Accepted _) one = refl

-- the entries before, turned round: the same ones
abbrev pub IsTurned : {X : Type 0} → List X → List X → Type 0
IsTurned {X} front before = ((x : X) → Contains before x → Contains front x)
    × ((x : X) → Contains front x → Contains before x)

-- views do not fall from this one on
abbrev pub RisesFrom : {D : Type 0} → ℕ → List (ArtifactFacts D) → Type 0
RisesFrom low [] = Unit {0}
RisesFrom low (e ∷ rest) = (low ≤ entry_view e) × RisesFrom (entry_view e) rest

module _ {D : Type 0} where
  rest_rises : (e : ArtifactFacts D) (rest : List (ArtifactFacts D)) → IsNonDecreasingBy entry_view (e ∷ rest)
      → IsNonDecreasingBy entry_view rest
  rest_rises e rest rising i j d low within = rising (suc i) (suc j) d (omega arith) (omega arith)

  pub rises_from : (low : ℕ) (entries : List (ArtifactFacts D)) → IsNonDecreasingBy entry_view entries
      → ((e : ArtifactFacts D) → Contains entries e → low ≤ entry_view e) → RisesFrom low entries
  rises_from low [] rising above = tt
  rises_from low (e ∷ rest) rising above = (
    above e (0, omega arith, refl),
    rises_from (entry_view e) rest (rest_rises e rest rising)
        (λ f h. subst (λ (g : ArtifactFacts D). entry_view e ≤ entry_view g) h.2
        (rising 0 (suc h.0) f (omega arith) (omega (arith, h.1)))),
  )

module _ {D : Type 0} (same : D → D → Bool) (itself : (d : D) → same d d ≡ true) (entries : List (ArtifactFacts D))
    (together : HoldTogether entries) where
  -- an entry fits after those before it

  fits : (front before rest : List (ArtifactFacts D)) (e : ArtifactFacts D) → entries ≡ front ++ e ∷ rest
      → IsTurned front before → last_view before ≤ entry_view e → EntryFits same before e
  fits front before rest e split turned rises = record {
    in_order = grind (arith, nat_tests);
    notarized = notarized e split;
    one_verdict = one_verdict e here there;
    not_both = not_both e here there;
    one_vote = one_vote e here there;
    judged = judged e split;
  }
    where
      here : Contains entries e
      here = subst (λ es. Contains es e) (sym split) (Contains-middle front rest e)

      there : (f : ArtifactFacts D) → Contains before f → Contains entries f
      there f h = subst (λ es. Contains es f) (sym split) (Contains-append_left front (e ∷ rest) f (turned.0 f h))

      notarized : (f : ArtifactFacts D) → entries ≡ front ++ f ∷ rest → lacks_notarization before f ≡ false
      notarized (NotarizeVote _ _) is = refl
      notarized (NullifyVote _ _) is = refl
      notarized (FinalizeVote _ _) is = refl
      notarized (Verdict round success) is =
          let c = together.notarized front rest round success is in
          let found : stands round.view is_notarization before ≡ true =
          stands_of round.view is_notarization before (Accepted (Notarized c.0))
          (turned.1 (Accepted (Notarized c.0)) c.1) c.2 refl in
          rw found refl
      notarized (Accepted _) is = refl

      one_verdict : (f : ArtifactFacts D) → Contains entries f
          → ((g : ArtifactFacts D) → Contains before g → Contains entries g) → contradicts_verdict before f ≡ false
      one_verdict (NotarizeVote _ _) now old = refl
      one_verdict (NullifyVote _ _) now old = refl
      one_verdict (FinalizeVote _ _) now old = refl
      one_verdict (Verdict round success) now old =
          none_stands round.view (is_verdict (not success)) before
          (λ g h at. no_contrary success g (λ other given is.
          together.one_verdict other round given success (subst (λ k. Contains entries k) is (old g h)) now
          (sym (ap entry_view is) ∙ at)))
      one_verdict (Accepted _) now old = refl

      not_both : (f : ArtifactFacts D) → Contains entries f
          → ((g : ArtifactFacts D) → Contains before g → Contains entries g) → meets_opposite before f ≡ false
      not_both (NotarizeVote _ _) now old = refl
      not_both (NullifyVote round m) now old =
          none_stands round.view is_finalize_vote before
          (λ f h at. no_finalize f (λ p n is. together.not_both round p m n now
          (subst (λ x. Contains entries x) is (old f h)) (sym at ∙ ap entry_view is)))
      not_both (FinalizeVote p m) now old = none_stands p.round.view is_nullify_vote before
          (λ f h at. no_nullify f (λ round n is.
          together.not_both round p n m (subst (λ x. Contains entries x) is (old f h)) now
          (sym (ap entry_view is) ∙ at)))
      not_both (Verdict _ _) now old = refl
      not_both (Accepted _) now old = refl

      one_vote : (f : ArtifactFacts D) → Contains entries f
          → ((g : ArtifactFacts D) → Contains before g → Contains entries g) → contradicts_vote same before f ≡ false
      one_vote (NotarizeVote p m) now old = none_stands p.round.view (notarizes_other same p) before
          (λ f h at. no_other_notarize same itself p f
          (λ q n is. together.one_notarize q p n m (subst (λ x. Contains entries x) is (old f h)) now
          (sym (ap entry_view is) ∙ at)))
      one_vote (NullifyVote _ _) now old = refl
      one_vote (FinalizeVote p m) now old = none_stands p.round.view (finalizes_other same p) before
          (λ f h at. no_other_finalize same itself p f
          (λ q n is. together.one_finalize q p n m (subst (λ x. Contains entries x) is (old f h)) now
          (sym (ap entry_view is) ∙ at)))
      one_vote (Verdict _ _) now old = refl
      one_vote (Accepted _) now old = refl

      judged : (f : ArtifactFacts D) → entries ≡ front ++ f ∷ rest → lacks_true_verdict before f ≡ false
      judged (NotarizeVote _ _) is = refl
      judged (NullifyVote _ _) is = refl
      judged (FinalizeVote p m) is =
          let verdict = together.judged front rest p m is in
          let found : stands p.round.view (is_verdict true) before ≡ true =
          stands_of p.round.view (is_verdict true) before (Verdict verdict.0 true)
          (turned.1 (Verdict verdict.0 true) verdict.1) verdict.2 refl in
          rw found refl
      judged (Verdict _ _) is = refl
      judged (Accepted _) is = refl

  -- so do all, one after another
  all_fit : (front before rest : List (ArtifactFacts D)) → entries ≡ front ++ rest → IsTurned front before
      → RisesFrom (last_view before) rest → Fit same before rest
  all_fit front before [] split turned rises = tt
  all_fit front before (e ∷ rest) split turned rises = (
    fits front before rest e split turned rises.0,
    all_fit (front ++ e ∷ []) (e ∷ before) rest (split ∙ sym (append_assoc front (e ∷ []) rest)) (
      λ f h. elim (Contains-cases e before f h) [
        | inl now ↦ subst (λ g. Contains (front ++ e ∷ []) g) now (Contains-middle front [] e)
        | inr old ↦ Contains-append_left front (e ∷ []) f (turned.0 f old)
      ],
      λ f h. elim (Contains-push_cases front e f h) [
        | inl old ↦ Contains-cons_rest e before f (turned.1 f old)
        | inr now ↦ (0, omega arith, now)
      ],
    )
        rises.1,
  )

  pub record_fits : IsNonDecreasingBy entry_view entries → Fit same [] entries
  record_fits rising = all_fit [] [] entries refl (λ f h. h, λ f h. h)
      (rises_from 0 entries rising (λ e h. omega arith))
