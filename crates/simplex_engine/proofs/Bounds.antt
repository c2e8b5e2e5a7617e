-- What is stored is bounded: votes stay those of members, and of admitted views; what is left is of retained views.
use Rattle.std.proofs.Common.{◌≡◌, ℕ, ◌≤◌, ◌<◌, Bool, true, false, List, [], length, Option, Some, None, refl, sym, subst, arith}
use Rattle.std.specs.Prelude.{IfSome, IsTrue, Contains, ◌&&◌, ◌==◌, nat_le}
use Rattle.std.specs.Option.{option_map_or}
use Rattle.std.proofs.lemmas.Bool.{le-leb, leb-true, and_parts}
use Rattle.simplex_types.specs.Terms.{next_term_start}
use Rattle.simplex_view_maps.proofs.Terms.{start_monotone}
use Rattle.simplex_types.specs.declared.types.messages.Subject.{Subject}
use Rattle.simplex_types.specs.declared.types.messages.Subject.TheVariants as subject
use Rattle.simplex_types.specs.MessageViews.{subject_view}
use Rattle.simplex_voter.specs.Facts.{Elect, StateFacts}
use Rattle.simplex_voter.specs.Refusals.{is_started}
use Rattle.simplex_voter.specs.Windows.{min_active, admits_vote}
use Rattle.laws_safety.specs.LifetimeLaws.{WhileAlive}
use Rattle.engine_votes.specs.declared.batcher.Batcher.{Batcher}
use Rattle.engine_outbox.specs.declared.journaled.Journaled.{Journaled}
use Rattle.simplex_engine.specs.Admission.{admits_votes, is_so}
use Rattle.engine_votes.specs.Subjects.{subject_round}
use Rattle.engine_votes.specs.StoredVotes.{held, AreGiven, EachVote, HoldsUpTo, HoldsFrom}
use Rattle.simplex_engine.specs.CertificateVotes.{TakesNone}
use Rattle.simplex_engine.specs.Bounds.{HoldsFromKept, HoldsNoneAhead, StaysBounded, HoldsAdmitted}
use Rattle.engine_outbox.specs.Continuity.{Continues, HasRisen}

module _ {L S D K G C : Type 0} where
  -- where none is below the lowest retained view
  pub kept_from : (life : Option (StateFacts K L D)) (lowest : ℕ) (batcher : Batcher S D K G C)
      → IfSome life (λ x. min_active x ≡ lowest) → HoldsFrom lowest batcher
      → IfSome life (λ x. HoldsFrom (min_active x) batcher)
  kept_from None lowest batcher is from = tt
  kept_from (Some x) lowest batcher is from = subst (λ v. HoldsFrom v batcher) (sym is) from

module _ {S D K G C : Type 0} where
  -- up to a higher view
  up_further : {a b : Batcher S D K G C} (members highest higher : ℕ) → highest ≤ higher → TakesNone a b
      → HoldsUpTo members highest a → HoldsUpTo members higher b
  up_further members highest higher up none within kind view member ballot is =
      let old = within kind view member ballot (none.were_held kind view member ballot is) in
      (old.0, omega (arith, old.1, up), old.2)

  -- where no vote was passed in, none is stored
  pub none_held : (members highest : ℕ) (batcher : Batcher S D K G C) → AreGiven [] batcher
      → HoldsUpTo members highest batcher
  none_held members highest batcher none kind view member ballot is =
      absurd (no_member (none kind view member ballot is))
    where
      no_member : {A : Type 0} {x : A} → Contains [] x → ⊥
      no_member there = omega (arith, there.1)

-- the view of a vote that is taken
parts_of : {K L D : Type 0} (x : StateFacts K L D) (v : ℕ) → admits_vote x v ≡ true
    → (1 ≤ v) × (v ≤ next_term_start x.terms.term_length x.current)
parts_of x v is =
    let both = and_parts (nat_le 1 v && nat_le (min_active x) v)
    (nat_le v (next_term_start x.terms.term_length x.current)) is in (
      leb-true 1 v (and_parts (nat_le 1 v) (nat_le (min_active x) v) both.0).0,
      leb-true v (next_term_start x.terms.term_length x.current) both.1,
    )

-- the round that a vote is of has its view
view_of : {D : Type 0} (on : Subject D) → (subject_round on).view ≡ subject_view on
view_of (subject.Notarize p) = refl
view_of (subject.Nullify round) = refl
view_of (subject.Finalize p) = refl

-- a round whose votes are admitted is of a view that takes them
admitted_on : {K L D : Type 0} (x : StateFacts K L D) (on : Subject D) → admits_votes x (subject_round on) ≡ true
    → admits_vote x (subject_view on) ≡ true
admitted_on x on is =
    let round = subject_round on in
    subst (λ v. admits_vote x v ≡ true) (view_of on)
    (and_parts (is_started x) (admits_vote x round.view)
    (and_parts (round.epoch == x.settings.epoch) (is_started x && admits_vote x round.view) is).1).1

pub next_monotone : (length v w : ℕ) → v ≤ w → next_term_start length v ≤ next_term_start length w
next_monotone length v w up = omega (arith, start_monotone length v w up)

-- the first view of the next term does not fall
pub next_rises : {K L D : Type 0} (x y : StateFacts K L D) → HasRisen x y
    → next_term_start x.terms.term_length x.current ≤ next_term_start y.terms.term_length y.current
next_rises x y risen =
    subst (λ t. next_term_start x.terms.term_length x.current ≤ next_term_start t.term_length y.current)
    (sym risen.terms)
    (next_monotone x.terms.term_length x.current y.current risen.views.current)

module _ {S L D K G C : Type 0} (keys_of : S → List K) where
  within_still : (old new : Option (StateFacts K L D)) → WhileAlive HasRisen old new → (held left : Batcher S D K G C)
      → TakesNone held left
      → IfSome old (λ x. HoldsUpTo (length (keys_of held.scheme)) (next_term_start x.terms.term_length x.current) held)
      → IfSome new (λ x. HoldsUpTo (length (keys_of left.scheme)) (next_term_start x.terms.term_length x.current) left)
  within_still old None risen held left none within = tt
  within_still None (Some y) risen held left none within = absurd risen
  within_still (Some x) (Some y) risen held left none within =
      subst (λ scheme. HoldsUpTo (length (keys_of scheme)) (next_term_start y.terms.term_length y.current) left)
      (sym none.scheme)
      (up_further (length (keys_of held.scheme)) (next_term_start x.terms.term_length x.current)
      (next_term_start y.terms.term_length y.current)
      (next_rises x y risen) none within)

  -- where no vote is taken
  pub bounded_still : {same : D → D → Bool} {elect : Elect L} {bytes_of : C → List ℕ}
      {is_signature : K → Subject D → G → Type 0} {taken : Option (Subject D)} {a b : Journaled S L D K G C}
      {c d : Batcher S D K G C}
      → Continues same elect bytes_of is_signature taken a b → TakesNone c d → StaysBounded keys_of a c b d
  bounded_still {a = a} {b = b} {c = c} {d = d} went none =
      record { stays = within_still a.member.facts.life b.member.facts.life went.risen c d none }

  -- one after the other
  pub bounded_further : {a b c : Journaled S L D K G C} {d e f : Batcher S D K G C} → StaysBounded keys_of a d b e
      → StaysBounded keys_of b e c f → StaysBounded keys_of a d c f
  bounded_further first second = record { stays = λ within. second.stays (first.stays within) }

  -- where nothing has changed
  pub bounded_same : (a b : Journaled S L D K G C) (c : Batcher S D K G C) → b.member ≡ a.member
      → StaysBounded keys_of a c b c
  bounded_same a b c is = record {
    stays = λ within.
        subst (λ m. IfSome m.facts.life
        (λ x. HoldsUpTo (length (keys_of c.scheme)) (next_term_start x.terms.term_length x.current) c)) (sym is) within;
  }

  -- where none is stored
  pub bounded_empty : (core : Journaled S L D K G C) (batcher : Batcher S D K G C) → AreGiven [] batcher
      → HoldsNoneAhead keys_of core batcher
  bounded_empty core batcher none = by_life core.member.facts.life
    where
      by_life : (life : Option (StateFacts K L D))
          → IfSome life
          (λ x. HoldsUpTo (length (keys_of batcher.scheme)) (next_term_start x.terms.term_length x.current) batcher)
      by_life None = tt
      by_life (Some x) = none_held (length (keys_of batcher.scheme)) (next_term_start x.terms.term_length x.current)
          batcher none

  -- a vote that is counted, where votes of its round are admitted
  pub bounded_counted : (core : Journaled S L D K G C) (old new : Batcher S D K G C) (on : Subject D)
      → ((highest : ℕ) → (true ≡ true → (1 ≤ subject_view on) × (subject_view on ≤ highest))
      → HoldsUpTo (length (keys_of old.scheme)) highest old → HoldsUpTo (length (keys_of old.scheme)) highest new)
      → new.scheme ≡ old.scheme
      → IsTrue (is_so (λ x. admits_votes x (subject_round on)) core.member.facts)
      → StaysBounded keys_of core old core new
  bounded_counted core old new on counts same admits = record { stays = by_life core.member.facts.life admits }
    where
      by_life : (life : Option (StateFacts K L D))
          → option_map_or (λ x. admits_votes x (subject_round on)) life false ≡ true
          → IfSome life
          (λ x. HoldsUpTo (length (keys_of old.scheme)) (next_term_start x.terms.term_length x.current) old)
          → IfSome life
          (λ x. HoldsUpTo (length (keys_of new.scheme)) (next_term_start x.terms.term_length x.current) new)
      by_life None admits within = tt
      by_life (Some x) admits within =
          subst (λ scheme. HoldsUpTo (length (keys_of scheme)) (next_term_start x.terms.term_length x.current) new)
          (sym same)
          (counts (next_term_start x.terms.term_length x.current)
          (λ _. parts_of x (subject_view on) (admitted_on x on admits)) within)

  -- where besides none is stored of a view below, each is of an admitted one
  pub bounded_admitted : (core : Journaled S L D K G C) (batcher : Batcher S D K G C)
      → HoldsNoneAhead keys_of core batcher → HoldsFromKept core batcher → HoldsAdmitted keys_of core batcher
  bounded_admitted core batcher = by_life core.member.facts.life
    where
      by_life : (life : Option (StateFacts K L D))
          → IfSome life
          (λ x. HoldsUpTo (length (keys_of batcher.scheme)) (next_term_start x.terms.term_length x.current) batcher)
          → IfSome life (λ x. HoldsFrom (min_active x) batcher)
          → IfSome life (λ x. EachVote
          (λ view member. (admits_vote x view ≡ true) × (member < length (keys_of batcher.scheme))) batcher)
      by_life None within kept = tt
      by_life (Some x) within kept = λ kind view member ballot is.
          let up = within kind view member ballot is in
          let low = kept kind view member ballot is in (
            rw (
              le-leb 1 view up.0,
              le-leb (min_active x) view low,
              le-leb view (next_term_start x.terms.term_length x.current) up.1,
            ) refl,
            up.2,
          )
