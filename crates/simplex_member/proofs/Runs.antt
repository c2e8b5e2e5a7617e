-- A run continues by a step, and ends by a refused one.
use Rattle.std.proofs.Common.{◌≡◌, refl, sym, ◌∙◌, ℕ, ◌+◌, ◌<◌, Bool, false, List, [], ◌∷◌, ◌++◌, map, take, drop, length, get_or, ap, Option, Some, None, inl, inr, ◌⊎◌}
use Rattle.std.proofs.lemmas.List.{take-append-drop, drop_more}
use Rattle.simplex_voter.specs.Facts.{Elect}
use Rattle.simplex_record.specs.declared.record.error.RecoverError.{RecoverError}
use Rattle.simplex_record.specs.declared.record.error.RecoverError.TheVariants as error
use Rattle.simplex_member.specs.declared.member.runs.Step.{Step}
use Rattle.simplex_member.specs.declared.member.calls.Reply.{Reply}
use Rattle.simplex_member.specs.declared.member.calls.Reply.TheVariants as reply
use Rattle.simplex_member.specs.Calls.{ReplyFacts, reply_facts}
use Rattle.simplex_member.specs.MemberFacts.{MemberFacts}
use Rattle.simplex_record.specs.Recovery.{recover_error}
use Rattle.simplex_record.specs.Start.{StartFacts, IsErrorDue, new_state}
use Rattle.simplex_member.specs.Start.{started_member}
use Rattle.simplex_member.specs.Runs.{IsSetUp, AreSetUp, StepFacts, is_refusal, IsStep, IsRun, IsRefused, EndsRun, IsRunFrom, EndsRunFrom}

-- no reply says that a restart was refused
pub replies_answer : {S D K G C : Type 0} (bytes_of : C → List ℕ) (r : Reply S D K G C)
    → is_refusal (reply_facts bytes_of r) ≡ false
replies_answer bytes_of reply.Unit = refl
replies_answer bytes_of (reply.Flag taken) = refl
replies_answer bytes_of (reply.Added newly leader) = refl
replies_answer bytes_of (reply.AddedNullification newly) = refl
replies_answer bytes_of (reply.Request request) = refl
replies_answer bytes_of (reply.Work verify) = refl
replies_answer bytes_of (reply.Candidates proposals fetches) = refl
replies_answer bytes_of (reply.Certified success notarization) = refl
replies_answer bytes_of (reply.Notarize vote) = refl
replies_answer bytes_of (reply.Nullify vote) = refl
replies_answer bytes_of (reply.Finalize vote) = refl
replies_answer bytes_of (reply.Certificate certificate) = refl
replies_answer bytes_of (reply.Timeout at reason) = refl
replies_answer bytes_of (reply.Views views) = refl
replies_answer bytes_of (reply.Released was_open) = refl
replies_answer bytes_of (reply.Triggered latched) = refl
replies_answer bytes_of (reply.Abandoned reason) = refl
replies_answer bytes_of reply.Restarted = refl
replies_answer bytes_of (reply.Fault fault) = refl
replies_answer bytes_of reply.NotAllowed = refl

module _ {K L D : Type 0} (same : D → D → Bool) (elect : Elect L) where
  -- one more step
  pub run_extends : (m : MemberFacts K L D) (steps : List (StepFacts K L D)) (replies : List (ReplyFacts K D))
      (e : MemberFacts K L D) (step : StepFacts K L D) (replied : ReplyFacts K D) (next : MemberFacts K L D)
      → IsRun same elect m steps replies e → IsStep same elect e step replied next
      → IsRun same elect m (steps ++ step ∷ []) (replies ++ replied ∷ []) next
  run_extends m [] [] e step replied next is taken = (next, rw is taken, refl)
  run_extends m [] (r ∷ replies) e step replied next is taken = absurd is
  run_extends m (s ∷ steps) [] e step replied next is taken = absurd is
  run_extends m (s ∷ steps) (r ∷ replies) e step replied next is taken =
      (is.0, is.1, run_extends is.0 steps replies e step replied next is.2 taken)

  -- a refused step after those that had replies, whatever comes after it
  pub run_ends : {R : Type 0} (result_facts : R → ReplyFacts K D) (m : MemberFacts K L D)
      (steps : List (StepFacts K L D))
      (replies : List R) (e : MemberFacts K L D) (step : StepFacts K L D) (rest : List (StepFacts K L D))
      (found : RecoverError)
      → ((r : R) → is_refusal (result_facts r) ≡ false) → IsRun same elect m steps (map result_facts replies) e
      → IsRefused same elect e step found → EndsRun same elect m (steps ++ step ∷ rest) found
  run_ends result_facts m [] [] e step rest found answers is refused = inl (rw is refused)
  run_ends result_facts m [] (r ∷ replies) e step rest found answers is refused = absurd is
  run_ends result_facts m (s ∷ steps) [] e step rest found answers is refused = absurd is
  run_ends result_facts m (s ∷ steps) (r ∷ replies) e step rest found answers is refused =
      inr (
        result_facts r,
        is.0,
        is.1,
        answers r,
        run_ends result_facts is.0 steps replies e step rest found answers
            is.2 refused,
      )

  module _ (start : StartFacts K L D) (steps : List (StepFacts K L D)) where
    -- a member that started, and took all steps
    pub run_from : (m : MemberFacts K L D) (replies : List (ReplyFacts K D)) (e : MemberFacts K L D)
        → m ≡ started_member same elect (new_state start.setup) start.floor start.now
        → recover_error same (new_state start.setup) start.floor start.now [] ≡ None
        → IsRun same elect m steps replies e → IsRunFrom same elect start steps replies
    unfolding IsRunFrom
    run_from m replies e begun accepted is = (accepted, e, rw begun at is)

    -- a run whose later lifetime was refused
    pub ends_later : (m : MemberFacts K L D) (found : RecoverError)
        → m ≡ started_member same elect (new_state start.setup) start.floor start.now
        → (found ≡ error.OutOfMemory) ⊎ EndsRun same elect m steps found → EndsRunFrom same elect start steps found
    unfolding EndsRunFrom
    ends_later m found begun (inl memory) = inl memory
    ends_later m found begun (inr is) = inr (inr (rw begun at is))

    -- one that could not start
    pub ends_at_once : (due : Option RecoverError) (found : RecoverError)
        → recover_error same (new_state start.setup) start.floor start.now [] ≡ due → IsErrorDue due found
        → EndsRunFrom same elect start steps found
    unfolding EndsRunFrom
    ends_at_once None found is memory = inl memory
    ends_at_once (Some e) found is refused = inr (inl (is ∙ ap Some (sym refused)))

-- the elements that a loop over a list has met, and the one that it meets next
pub met_next : {A : Type 0} (items met : List A) (x : A) → met ≡ take (length met) items → length met < length items
    → x ≡ get_or items (length met) x → items ≡ met ++ x ∷ drop (length met + 1) items
met_next items met x is within at =
    sym (take-append-drop (length met) items) ∙ rw (← is, drop_more items (length met) x within, ← at) refl

module _ {S L D K G C : Type 0} (participants : S → List K) (members : L → ℕ) where
  -- one of the steps
  pub set_up_at : (steps met : List (Step S L D K G C)) (x : Step S L D K G C) (rest : List (Step S L D K G C))
      → steps ≡ met ++ x ∷ rest → AreSetUp participants members steps → IsSetUp participants members x
  set_up_at steps met x rest is all = behind met (rw is at all)
    where
      behind : (ys : List (Step S L D K G C)) → AreSetUp participants members (ys ++ x ∷ rest)
          → IsSetUp participants members x
      behind [] all_of = all_of.0
      behind (y ∷ ys) all_of = behind ys all_of.1
