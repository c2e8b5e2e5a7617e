-- What histories say of the work on each view, where another round is put at a tracked one.
use Rattle.std.proofs.Common.{◌≡◌, refl, ap, sym, ◌∙◌, ℕ, ◌≤◌, Bool, true, false, ◌&&◌, eqb, if◌then◌else◌, nat_lt, List, Option, None, arith, inl, inr}
use Rattle.std.proofs.Math.Bool.{and-false}
use Rattle.std.proofs.lemmas.Bool.{cases_eq, eq-eqb, ne_eqb}
use Rattle.std.proofs.lemmas.Bool.Decides.{nat_tests}
use Rattle.simplex_round.specs.Round.{RoundFacts}
use Rattle.simplex_voter.specs.Facts.{StateFacts, Elect, round_of, is_tracked, with_round, with_tracked}
use Rattle.simplex_voter.specs.ViewEntry.{at_moment}
use Rattle.simplex_member.specs.OutstandingWork.{is_among}
use Rattle.simplex_record.specs.Events.{Event}
use Rattle.laws_history.specs.WorkRequests.{names, is_at}
use Rattle.laws_history.specs.HistoryFolds.{entered_by}
use Rattle.laws_history.specs.Moments.{enters}
use Rattle.laws_history.proofs.EventFacts.{left_from}
use Rattle.laws_history.proofs.Worked.{work_in, work_of, adds_work, WorkFollows, SaysNoWork, work_put, work_elsewhere}

-- what the work on all views shares
pub record Shared (K L : Type 0) : Type 0 where
  pub me : Option ℕ
  pub members : List K
  pub elector : L
  pub elects_early : Bool
  pub failed : Bool
  pub named : List ℕ

abbrev pub shared_of : {K L D : Type 0} → StateFacts K L D → Shared K L
shared_of x = record {
  me = x.me;
  members = x.members;
  elector = x.elector;
  elects_early = x.elects_early;
  failed = x.failed;
  named = x.named;
}

module _ {K L D : Type 0} (x : StateFacts K L D) where
  -- an event that enters no view
  pub unentered : (e : Event K D) (v : ℕ) → entered_by x.terms.term_length (is_tracked x) e ≡ 0 → enters v x e ≡ None
  unentered e v none =
      let low : (eqb v 0 && nat_lt x.current v) ≡ false = grind (arith, nat_tests) in
      rw (none, low) refl

module _ {K L D : Type 0} (x : StateFacts K L D) where
  shared_tracked : (v : ℕ) (r : RoundFacts K D) → shared_of (with_tracked x v r) ≡ shared_of x
  shared_tracked v r = either (is_tracked x v)
    where
      either : (b : Bool) → shared_of (if b then with_round x v r else x) ≡ shared_of x
      either true = refl
      either false = refl

  -- the work on each view where another round is to be put at one
  work_tracked : (v w : ℕ) (r : RoundFacts K D)
      → work_of (with_tracked x v r) w ≡ (if is_at x w v then work_in true r else work_of x w)
  work_tracked v w r = by_tracked (is_tracked x v)
    where
      by_tracked : (b : Bool) → work_of (if b then with_round x v r else x)
          w ≡ (if eqb w v && b then work_in true r else work_of x w)
      by_tracked true = elim (cases_eq w v) [
        | inl here ↦ rw (here, eq-eqb v v refl) (work_put x v r)
        | inr apart ↦ rw (ne_eqb w v apart) (work_elsewhere x v w r (ne_eqb w v apart))
      ]
      by_tracked false = rw (and-false (eqb w v)) refl

module _ {K L D : Type 0} (same : D → D → Bool) (elect : Elect L) (x : StateFacts K L D) (e : Event K D)
    (unnamed : (v : ℕ) → names elect v x e ≡ None) where
  -- an event that changes nothing that all views share
  pub shared_follows : (y : StateFacts K L D) → shared_of y ≡ shared_of x
      → ((v : ℕ) → left_from x e ≤ v → work_of y v ≡ adds_work same elect x e v (work_of x v))
      → WorkFollows same elect e x y
  shared_follows y shared work = record {
    me = ap (λ s. s.me) shared;
    members = ap (λ s. s.members) shared;
    elector = ap (λ s. s.elector) shared;
    elects_early = ap (λ s. s.elects_early) shared;
    failed = ap (λ s. s.failed) shared;
    named = λ v. rw (unnamed v) (ap (λ s. is_among v s.named) shared);
    work = work;
  }

  -- an event that says nothing of the work
  pub idle_follows : (y : StateFacts K L D) → shared_of y ≡ shared_of x
      → ((v : ℕ) → left_from x e ≤ v → work_of y v ≡ work_of x v) → ((v : ℕ) → SaysNoWork same elect x e v)
      → WorkFollows same elect e x y
  idle_follows y shared stays idle = shared_follows y shared (λ v left. stays v left ∙ sym (idle v (work_of x v)))

  -- an event of one view, which puts another round there where the view is tracked
  pub tracked_follows : (now v : ℕ) (r : RoundFacts K D)
      → (is_tracked x v ≡ true → work_in true r ≡ adds_work same elect x e v (work_in true (round_of x v)))
      → ((w : ℕ) → is_at x w v ≡ false → SaysNoWork same elect x e w)
      → WorkFollows same elect e x (with_tracked (at_moment x now) v r)
  tracked_follows now v r said idle = shared_follows (with_tracked a v r) (shared_tracked a v r)
      (λ w _. work_tracked a v w r ∙ by_tracked w (is_tracked x v) refl)
    where
      a : StateFacts K L D
      a = at_moment x now

      -- of the view it says what the round has, of others nothing
      silent : (w : ℕ) → is_at x w v ≡ false → (if is_at x w v then work_in true r else work_of x w) ≡ adds_work same
          elect x e w (work_of x w)
      silent w apart = rw apart (sym (idle w apart (work_of x w)))

      by_tracked : (w : ℕ) (b : Bool) → is_tracked x v ≡ b
          → (if is_at x w v then work_in true r else work_of x w) ≡ adds_work same elect x e w (work_of x w)
      by_tracked w true tracked = elim (cases_eq w v) [
        | inl here ↦ rw (here, eq-eqb v v refl, tracked) (said tracked)
        | inr apart ↦ silent w (rw (ne_eqb w v apart) refl)
      ]
      by_tracked w false untracked = silent w (rw untracked (and-false (eqb w v)))
