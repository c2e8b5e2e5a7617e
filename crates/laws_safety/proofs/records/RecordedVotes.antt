-- For `votes_are_lawful`.
-- What a state's facts show of its record is in it: a true verdict, and a vote to nullify.
use Rattle.std.proofs.Common.{◌≡◌, ap, sym, ◌∙◌, subst, ℕ, ◌⊎◌, inl, inr, Bool, true, false, List, ◌++◌, Contains, Some, None, is_some, unwrap_or, arith}
use Rattle.std.proofs.lemmas.Bool.{cases_Bool, false≢true}
use Rattle.std.proofs.lemmas.List.Elements.{Contains-append_left}
use Rattle.simplex_types.specs.Certificates.{ArtifactFacts, NullifyVote, Verdict}
use Rattle.simplex_types.specs.declared.types.numbers.Round.{Round}
use Rattle.simplex_round.specs.Round.{RoundFacts, new_round, is_nullify, is_certified}
use Rattle.simplex_voter.specs.Facts.{StateFacts, Elect, round_at, round_of, round_number}
use Rattle.simplex_record.specs.Events.{Event, after_event, is_prune}
use Rattle.laws_safety.proofs.frames.EachRound.{IsGone, rounds_or_gone}
use Rattle.simplex_record.proofs.Paths.{event_path, asked_of_all}
use Rattle.laws_safety.proofs.frames.NoLowerViews.{event_goes}
use Rattle.simplex_record.proofs.Rounds.{armed_nullify, latched_nullify, aborted_certified, awaited_nullify}
use Rattle.simplex_record.proofs.Steps as step
use Rattle.simplex_record.proofs.Steps.{RoundStep, verdict_by, nullify_by}

-- what is shown is recorded; a vote to nullify, if there is a key
pub record Marked {K L D : Type 0} (entries : List (ArtifactFacts D)) (x : StateFacts K L D) : Type 0 where
  pub certified : (v : ℕ) → is_certified (round_of x v).certification ≡ true
      → (round : Round) × Contains entries (Verdict round true) × (round.view ≡ v)
  pub nullified : (v : ℕ) → is_nullify (round_of x v).decision ≡ true → is_some x.me ≡ true
      → (m : ℕ) × Contains entries (NullifyVote (round_number x v) m)

-- a true verdict and a vote to nullify are old or the event's
pub record Marks {K D : Type 0} (e : Event K D) (v : ℕ) (r s : RoundFacts K D) : Type 0 where
  pub certified : is_certified s.certification ≡ true
      → (is_certified r.certification ≡ true) ⊎ (verdict_by e ≡ Some (v, true))
  pub nullified : is_nullify s.decision ≡ true → (is_nullify r.decision ≡ true) ⊎ (nullify_by e ≡ Some v)

module _ {K L D : Type 0} (same : D → D → Bool) (elect : Elect L) (x : StateFacts K L D) (e : Event K D) where
  marks_on : (v : ℕ) (r s t : RoundFacts K D) → Marks e v r s → Marks e v s t → Marks e v r t
  marks_on v r s t p q = record {
    certified = λ is. elim (q.certified is) [ inl before ↦ p.certified before | inr new ↦ inr new ];
    nullified = λ is. elim (q.nullified is) [ inl before ↦ p.nullified before | inr new ↦ inr new ];
  }

  marks : (y : StateFacts K L D) (v : ℕ) (r s : RoundFacts K D) → RoundStep same elect x e y v r s → Marks e v r s
  marks y v r s (step.Judged true says fits) = record { certified = λ is. inr says; nullified = λ is. inl is }
  marks y v r s (step.Judged false says fits) =
      record { certified = λ is. absurd (false≢true is); nullified = λ is. inl is }
  marks y v r s (step.Certifying token says fits) =
      record { certified = λ is. absurd (false≢true is); nullified = λ is. inl is }
  marks y v r s (step.Ended under_way) =
      record { certified = λ is. inl (sym (aborted_certified r.certification) ∙ is); nullified = λ is. inl is }
  marks y v r s (step.NullifyDecided says fits) = record { certified = λ is. inl is; nullified = λ is. inr says }
  marks y v r s (step.FinalizeDecided says fits) =
      record { certified = λ is. inl is; nullified = λ is. absurd (false≢true is) }
  marks y v r s (step.Entered now) =
      record { certified = λ is. inl is; nullified = λ is. inl (sym (armed_nullify r.decision _ _) ∙ is) }
  marks y v r s (step.Latched now reason) =
      record { certified = λ is. inl is; nullified = λ is. inl (sym (latched_nullify r.decision (now, reason)) ∙ is) }
  marks y v r s (step.Retried now interval says awaits) =
      record { certified = λ is. inl is; nullified = λ is. inl (awaited_nullify r awaits).0 }
  marks y v r s _ = record { certified = λ is. inl is; nullified = λ is. inl is }

  event_marks : (v : ℕ) → Marks e v (round_of x v) (round_of (after_event same elect x e) v)
      ⊎ ((is_prune e ≡ true) × IsGone x (after_event same elect x e) v)
  event_marks = rounds_or_gone same elect x e 0 (Marks e) marks_on marks
      (event_path same elect 0 x e (omega arith) (asked_of_all x e))

  -- a record that has what the event newly shows
  pub event_marked : (entries more : List (ArtifactFacts D))
      → ((a : ArtifactFacts D) → Contains entries a → Contains more a)
      → ((v : ℕ) → verdict_by e ≡ Some (v, true) → is_certified (round_of x v).certification ≡ false
      → is_certified (round_of (after_event same elect x e) v).certification ≡ true
      → (round : Round) × Contains more (Verdict round true) × (round.view ≡ v))
      → ((v : ℕ) → nullify_by e ≡ Some v → is_nullify (round_of x v).decision ≡ false
      → is_nullify (round_of (after_event same elect x e) v).decision ≡ true → is_some x.me ≡ true
      → (m : ℕ) × Contains more (NullifyVote (round_number x v) m)) → Marked entries x
      → Marked more (after_event same elect x e)
  event_marked entries more keeps verdict vote marked = record { certified = certified; nullified = nullified }
    where
      y : StateFacts K L D
      y = after_event same elect x e

      no_verdict : (v : ℕ) → round_at y v ≡ None → is_certified (round_of y v).certification ≡ false
      no_verdict v untracked =
          ap (λ o. is_certified (unwrap_or o (new_round y.me y.members (round_number y v))).certification) untracked

      no_vote : (v : ℕ) → round_at y v ≡ None → is_nullify (round_of y v).decision ≡ false
      no_vote v untracked = ap (λ o. is_nullify (unwrap_or o (new_round y.me y.members (round_number y v))).decision)
          untracked

      certified : (v : ℕ) → is_certified (round_of y v).certification ≡ true
          → (round : Round) × Contains more (Verdict round true) × (round.view ≡ v)
      certified v is = elim (event_marks v) [
        | inr (prunes, gone) ↦ absurd (false≢true (sym (no_verdict v gone.untracked) ∙ is))
        | inl change ↦ elim (cases_Bool (is_certified (round_of x v).certification)) [
          | inl before ↦ (let c = marked.certified v before in (c.0, keeps (Verdict c.0 true) c.1, c.2))
          | inr none ↦ elim (change.certified is)
              [ inl before ↦ absurd (false≢true (sym none ∙ before)) | inr says ↦ verdict v says none is ]
        ]
      ]

      as_set_up : (v : ℕ) → (m : ℕ) × Contains more (NullifyVote (round_number x v) m)
          → (m : ℕ) × Contains more (NullifyVote (round_number y v) m)
      as_set_up v (m, h) = (
        m,
        subst (λ settings.
            Contains more (NullifyVote (record { epoch = settings.epoch; view = v }) m))
            (sym (event_goes same elect x e).settings) h,
      )

      nullified : (v : ℕ) → is_nullify (round_of y v).decision ≡ true → is_some y.me ≡ true
          → (m : ℕ) × Contains more (NullifyVote (round_number y v) m)
      nullified v is key = elim (event_marks v) [
        | inr (prunes, gone) ↦ absurd (false≢true (sym (no_vote v gone.untracked) ∙ is))
        | inl change ↦ (
            let keyed : is_some x.me ≡ true = ap is_some (sym (event_goes same elect x e).me) ∙ key in
            as_set_up v (elim (cases_Bool (is_nullify (round_of x v).decision)) [
              | inl before ↦
                  (let c = marked.nullified v before keyed in (c.0, keeps (NullifyVote (round_number x v) c.0) c.1))
              | inr none ↦ elim (change.nullified is)
                  [ inl before ↦ absurd (false≢true (sym none ∙ before)) | inr says ↦ vote v says none is keyed ]
            ]))
      ]

  -- an event that gives no verdict and decides no vote to nullify
  pub quiet_marked : (entries : List (ArtifactFacts D)) → verdict_by e ≡ None → nullify_by e ≡ None → Marked entries x
      → Marked entries (after_event same elect x e)
  quiet_marked entries verdict nullify marked =
      event_marked entries entries (λ a h. h) (λ v says before after. absurd (cc))
      (λ v says before after key. absurd (cc)) marked

-- marks and the record

module _ {K L D : Type 0} where
  pub marked_more : (entries more : List (ArtifactFacts D)) (x : StateFacts K L D) → Marked entries x
      → Marked (entries ++ more) x
  marked_more entries more x marked = record {
    certified =
        λ v is. (let e = marked.certified v is in (e.0, Contains-append_left entries more (Verdict e.0 true) e.1, e.2));
    nullified = λ v is key. (let e = marked.nullified v is key in
        (e.0, Contains-append_left entries more (NullifyVote (round_number x v) e.0) e.1));
  }
