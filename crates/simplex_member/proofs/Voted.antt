-- A returned vote is decided: its kind is returned once in a view, and a contradicting one never.
use Rattle.std.proofs.Common.{◌≡◌, ℕ, Bool, true, false, cond, ◌&&◌, Option, Some, None, refl, sym, subst, ap, ◌∙◌}
use Rattle.std.specs.Prelude.{is_some, option_map, option_and_then, IfSome, IsNone}
use Rattle.std.proofs.lemmas.Bool.{false_from_ne_true, false≢true}
use Rattle.simplex_types.specs.Certificates.{ArtifactFacts, NotarizeVote, NullifyVote, FinalizeVote}
use Rattle.simplex_types.specs.declared.types.messages.Proposal.{Proposal}
use Rattle.simplex_round.specs.declared.round.Decision.{Decision}
use Rattle.simplex_round.specs.declared.round.Decision.TheVariants as decision
use Rattle.simplex_round.specs.Round.{RoundFacts, after_nullify, is_pending, is_nullify, is_finalize, can_notarize}
use Rattle.simplex_voter.specs.Facts.{StateFacts, Elect, round_of, round_number, with_round}
use Rattle.simplex_voter.specs.Rules.{may_notarize, may_nullify, may_finalize}
use Rattle.simplex_voter.specs.Votes.{nullify_cast, notarize_cast, after_construct_nullify, after_construct_notarize, after_construct_finalize}
use Rattle.simplex_voter.proofs.Rules.{nullify_parts, notarize_round, finalize_parts}
use Rattle.simplex_voter.proofs.Proposals.{round_of-prepared}
use Rattle.simplex_member.specs.Calls.{ConstructNotarize, ConstructNullify, ConstructFinalize, ReplyFacts, Notarize, Nullify, Finalize}
use Rattle.simplex_member.specs.MemberFacts.{MemberFacts}
use Rattle.simplex_member.specs.CallSemantics.{nullify_vote, notarize_vote, finalize_vote}
use Rattle.simplex_member.specs.MethodContracts.{IsAnswered, HasNotarizeVote, HasNullifyVote, HasFinalizeVote}
use Rattle.simplex_record.proofs.RoundChanges.{round_of-same}

-- equal replies have equal votes
module _ {K D : Type 0} where
  abbrev notarize_replied : Option (ArtifactFacts D) → ReplyFacts K D
  notarize_replied vote = Notarize vote

  abbrev nullify_replied : Option (Bool × ArtifactFacts D) → ReplyFacts K D
  nullify_replied vote = Nullify vote

  abbrev finalize_replied : Option (ArtifactFacts D) → ReplyFacts K D
  finalize_replied vote = Finalize vote

  notarize_same : (a b : Option (ArtifactFacts D)) → notarize_replied a ≡ notarize_replied b → a ≡ b
  notarize_same a b is = cc

  nullify_same : (a b : Option (Bool × ArtifactFacts D)) → nullify_replied a ≡ nullify_replied b → a ≡ b
  nullify_same a b is = cc

  finalize_same : (a b : Option (ArtifactFacts D)) → finalize_replied a ≡ finalize_replied b → a ≡ b
  finalize_same a b is = cc

-- a state that is known
pub at_life : {A : Type 0} (P : A → Type 0) (life : Option A) (x : A) → life ≡ Some x → P x → IfSome life P
at_life P (Some y) x is holds = subst P (sym (some_same y x is)) holds
  where
    some_same : {B : Type 0} (a b : B) → Some a ≡ Some b → a ≡ b
    some_same a b e = cc
at_life P None x is holds = tt

pub from_life : {A : Type 0} (P : A → Type 0) (life : Option A) (x : A) → life ≡ Some x → IfSome life P → P x
from_life P life x is holds = rw is at holds

-- a returned vote had its rule, and if the rule forbids it, there is none
module _ {K L D : Type 0} (x : StateFacts K L D) (v : ℕ) where
  none_to_nullify : may_nullify x v ≡ false → nullify_vote x v ≡ None
  none_to_nullify forbidden = by_key x.me (is_some x.me) (may_nullify x v) forbidden
    where
      by_key : (me : Option ℕ) (key may : Bool) → may ≡ false
          → option_and_then {U = Bool × ArtifactFacts D}
          (λ m. option_map (λ retry. (retry, NullifyVote (round_number x v) m))
          (cond (key && may) (Some (is_nullify (round_of x v).decision)) None)) me ≡ None
      by_key None key may forbids = refl
      by_key (Some m) true may forbids = rw forbids refl
      by_key (Some m) false may forbids = refl

  -- the round of the view, once the vote to nullify it is decided
  round_nullified : may_nullify x v ≡ true → is_nullify (round_of (after_construct_nullify x v) v).decision ≡ true
  round_nullified may =
      let r = after_nullify (round_of x v) in
      rw may (ap (λ (s : RoundFacts K D). is_nullify s.decision) (round_cast (with_round x v r) ∙ round_of-same x v r)
      ∙ decided (round_of x v) (nullify_parts x v may).no_finalize)
    where
      decided : (r : RoundFacts K D) → is_finalize r.decision ≡ false → is_nullify (after_nullify r).decision ≡ true
      decided r undecided = rw undecided refl

      round_cast : (y : StateFacts K L D) → round_of (nullify_cast y v) v ≡ round_of y v
      round_cast y = by_key (is_some y.me)
        where
          by_key : (b : Bool) → round_of (cond b
              (record y { nullify_votes = (nullify_cast (record y { me = Some 0 }) v).nullify_votes }) y) v ≡ round_of y
              v
          by_key true = refl
          by_key false = refl

module _ {K L D : Type 0} (elect : Elect L) (x : StateFacts K L D) (v : ℕ) where
  none_to_finalize : may_finalize elect x v ≡ false → finalize_vote elect x v ≡ None
  none_to_finalize forbidden = by_key x.me (is_some x.me) (may_finalize elect x v) (round_of x v).slot.held forbidden
    where
      by_key : (me : Option ℕ) (key may : Bool) (held : Option (Proposal D)) → may ≡ false
          → option_and_then {U = ArtifactFacts D}
          (λ m. option_map (λ p. FinalizeVote p m) (cond (key && may) held None)) me ≡ None
      by_key None key may held forbids = refl
      by_key (Some m) true may held forbids = rw forbids refl
      by_key (Some m) false may held forbids = refl

  round_finalized : may_finalize elect x v ≡ true
      → is_finalize (round_of (after_construct_finalize elect x v) v).decision ≡ true
  round_finalized may = rw may (ap (λ (s : RoundFacts K D). is_finalize s.decision) (round_of-same x v _))

module _ {K L D : Type 0} (same : D → D → Bool) (elect : Elect L) (x : StateFacts K L D) (v : ℕ) where
  none_to_notarize : may_notarize same elect x v ≡ false → notarize_vote same elect x v ≡ None
  none_to_notarize forbidden = by_key x.me (is_some x.me) (may_notarize same elect x v) (round_of x v).slot.held
      forbidden
    where
      by_key : (me : Option ℕ) (key may : Bool) (held : Option (Proposal D)) → may ≡ false
          → option_and_then {U = ArtifactFacts D}
          (λ m. option_map (λ p. NotarizeVote p m) (cond (key && may) held None)) me ≡ None
      by_key None key may held forbids = refl
      by_key (Some m) true may held forbids = rw forbids refl
      by_key (Some m) false may held forbids = refl

  round_notarized : may_notarize same elect x v ≡ true
      → (round_of (after_construct_notarize same elect x v) v).notarize_decided ≡ true
  round_notarized may =
      rw may (ap (λ (s : RoundFacts K D). s.notarize_decided)
      (round_of-prepared elect (notarize_cast x v) v ∙ round_of-same x v _))

-- a value that is there was allowed
was_allowed : {A : Type 0} (may : Bool) (vote : Option A) (a : A) → (may ≡ false → vote ≡ None) → Some a ≡ vote
    → may ≡ true
was_allowed true vote a forbids is = refl
was_allowed false vote a forbids is = absurd (nothing (is ∙ forbids refl))
  where
    nothing : Some a ≡ None → ⊥
    nothing gone = cc

-- and the content of none is none
none_replied : {A B : Type 0} (f : A → B) (vote : Option A) → option_map f vote ≡ None → IsNone vote
none_replied f None is = refl
none_replied f (Some a) is = cc

not_both : (b : Bool) → b ≡ true → b ≡ false → ⊥
not_both b is isnt = false≢true (sym isnt ∙ is)

-- one decision is no other
module _ {K D : Type 0} (r : RoundFacts K D) where
  nullified_is_decided : is_nullify r.decision ≡ true → is_pending r.decision ≡ true → ⊥
  nullified_is_decided = by_decision r.decision
    where
      by_decision : (d : Decision) → is_nullify d ≡ true → is_pending d ≡ true → ⊥
      by_decision (decision.Pending _ _ _) is pending = false≢true is
      by_decision (decision.Nullify _) is pending = false≢true pending
      by_decision decision.Finalize is pending = false≢true is

  finalized_is_decided : is_finalize r.decision ≡ true → is_pending r.decision ≡ true → ⊥
  finalized_is_decided = by_decision r.decision
    where
      by_decision : (d : Decision) → is_finalize d ≡ true → is_pending d ≡ true → ⊥
      by_decision (decision.Pending _ _ _) is pending = false≢true is
      by_decision (decision.Nullify _) is pending = false≢true is
      by_decision decision.Finalize is pending = false≢true pending

  decided_once : r.notarize_decided ≡ true → can_notarize r ≡ false
  decided_once is = rw is refl

module _ {K L D : Type 0} (same : D → D → Bool) (elect : Elect L) (m left : MemberFacts K L D) (v : ℕ) where
  -- a vote to nullify, as the reply has it
  module _ (replied : Option (Bool × ArtifactFacts D))
      (is : IsAnswered same elect m (ConstructNullify v) (Nullify replied) left) where
    nullify_is : replied ≡ nullify_vote is.state v
    nullify_is = nullify_same {K = K} replied (nullify_vote is.state v) is.replied_so

    pub nullify_decided : {A : Type 0} (f : A → Bool × ArtifactFacts D) (vote : Option A) → replied ≡ option_map f vote
        → IfSome vote (λ _. HasNullifyVote left v)
    nullify_decided f None so = tt
    nullify_decided f (Some a) so = has (was_allowed (may_nullify is.state v) (nullify_vote is.state v) (f a)
        (none_to_nullify is.state v) (sym so ∙ nullify_is))
      where
        has : may_nullify is.state v ≡ true → HasNullifyVote left v
        has may =
            at_life (λ (x : StateFacts K L D). is_nullify (round_of x v).decision ≡ true) left.life
            (after_construct_nullify is.state v)
            (ap (λ (l : MemberFacts K L D). l.life) is.left_so) (round_nullified is.state v may)

    pub nullify_barred : HasFinalizeVote m v → {A : Type 0} (f : A → Bool × ArtifactFacts D) (vote : Option A)
        → replied ≡ option_map f vote → IsNone vote
    nullify_barred was f vote so =
        let finalized = from_life (λ (x : StateFacts K L D). is_finalize (round_of x v).decision ≡ true) m.life is.state
        is.alive was in
        none_replied f vote (sym so ∙ nullify_is ∙ none_to_nullify is.state v
        (false_from_ne_true _ (λ may. not_both _ finalized (nullify_parts is.state v may).no_finalize)))

  -- a vote to finalize
  module _ (replied : Option (ArtifactFacts D))
      (is : IsAnswered same elect m (ConstructFinalize v) (Finalize replied) left) where
    finalize_is : replied ≡ finalize_vote elect is.state v
    finalize_is = finalize_same {K = K} replied (finalize_vote elect is.state v) is.replied_so

    pub finalize_decided : {A : Type 0} (f : A → ArtifactFacts D) (vote : Option A) → replied ≡ option_map f vote
        → IfSome vote (λ _. HasFinalizeVote left v)
    finalize_decided f None so = tt
    finalize_decided f (Some a) so = has (was_allowed (may_finalize elect is.state v) (finalize_vote elect is.state v)
        (f a) (none_to_finalize elect is.state v) (sym so ∙ finalize_is))
      where
        has : may_finalize elect is.state v ≡ true → HasFinalizeVote left v
        has may =
            at_life (λ (x : StateFacts K L D). is_finalize (round_of x v).decision ≡ true) left.life
            (after_construct_finalize elect is.state v)
            (ap (λ (l : MemberFacts K L D). l.life) is.left_so) (round_finalized elect is.state v may)

    -- if another decision was made
    not_pending : (is_pending (round_of is.state v).decision ≡ true → ⊥)
        → {A : Type 0} (f : A → ArtifactFacts D) (vote : Option A) → replied ≡ option_map f vote → IsNone vote
    not_pending decided f vote so =
        none_replied f vote (sym so ∙ finalize_is ∙ none_to_finalize elect is.state v
        (false_from_ne_true _ (λ may. decided (finalize_parts elect is.state v may).undecided)))

    pub finalize_once : HasFinalizeVote m v → {A : Type 0} (f : A → ArtifactFacts D) (vote : Option A)
        → replied ≡ option_map f vote → IsNone vote
    finalize_once was =
        not_pending (finalized_is_decided (round_of is.state v)
        (from_life (λ (x : StateFacts K L D). is_finalize (round_of x v).decision ≡ true) m.life is.state is.alive
        was))

    pub finalize_barred : HasNullifyVote m v → {A : Type 0} (f : A → ArtifactFacts D) (vote : Option A)
        → replied ≡ option_map f vote → IsNone vote
    finalize_barred was =
        not_pending (nullified_is_decided (round_of is.state v)
        (from_life (λ (x : StateFacts K L D). is_nullify (round_of x v).decision ≡ true) m.life is.state is.alive
        was))

  -- a vote to notarize
  module _ (replied : Option (ArtifactFacts D))
      (is : IsAnswered same elect m (ConstructNotarize v) (Notarize replied) left) where
    notarize_is : replied ≡ notarize_vote same elect is.state v
    notarize_is = notarize_same {K = K} replied (notarize_vote same elect is.state v) is.replied_so

    pub notarize_decided : {A : Type 0} (f : A → ArtifactFacts D) (vote : Option A) → replied ≡ option_map f vote
        → IfSome vote (λ _. HasNotarizeVote left v)
    notarize_decided f None so = tt
    notarize_decided f (Some a) so = has (was_allowed (may_notarize same elect is.state v)
        (notarize_vote same elect is.state v) (f a) (none_to_notarize same elect is.state v) (sym so ∙ notarize_is))
      where
        has : may_notarize same elect is.state v ≡ true → HasNotarizeVote left v
        has may =
            at_life (λ (x : StateFacts K L D). (round_of x v).notarize_decided ≡ true) left.life
            (after_construct_notarize same elect is.state v)
            (ap (λ (l : MemberFacts K L D). l.life) is.left_so) (round_notarized same elect is.state v may)

    pub notarize_once : HasNotarizeVote m v → {A : Type 0} (f : A → ArtifactFacts D) (vote : Option A)
        → replied ≡ option_map f vote → IsNone vote
    notarize_once was f vote so =
        let decided = from_life (λ (x : StateFacts K L D). (round_of x v).notarize_decided ≡ true) m.life is.state
        is.alive was in
        none_replied f vote (sym so ∙ notarize_is ∙ none_to_notarize same elect is.state v
        (false_from_ne_true _ (λ may. not_both _ (notarize_round same elect is.state v may)
        (decided_once (round_of is.state v) decided))))
