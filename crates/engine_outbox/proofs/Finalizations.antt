-- For the code of the engine. Proposals that are reported as final, by what was done.
use Rattle.std.proofs.Common.{◌≡◌, ◌∙◌, ◌<◌, inl, inr, refl, ap, sym, subst, ℕ, zero, Bool, true, false, cond, max, nat_lt, List, [], ◌∷◌, ◌++◌, map, Option, Some, None, Vec, append_assoc, append-nil, arith}
use Rattle.std.specs.Prelude.{All, Contains, option_to_list}
use Rattle.std.specs.declared.alloc.Global.{Global}
use Rattle.std.proofs.lemmas.Bool.Decides.{nat_tests}
use Rattle.std.proofs.lemmas.List.Elements.{All-head, All-tail, Contains-append_left, Contains-append_right, Contains-append_cases}
use Rattle.simplex_types.specs.declared.types.messages.Artifact.{Artifact}
use Rattle.simplex_types.specs.declared.types.messages.Proposal.{Proposal}
use Rattle.simplex_types.specs.declared.types.messages.Subject.TheVariants as subject
use Rattle.laws_safety.specs.Traces.{TraceEvent, Accepts, Signs}
use Rattle.laws_safety.proofs.lists.Splits.{Contains-cases, Contains-cons_rest}
use Rattle.engine_outbox.specs.declared.outbox.Outbox.{Outbox}
use Rattle.engine_outbox.specs.declared.output.Output.{Output}
use Rattle.engine_outbox.specs.declared.output.Output.TheVariants as output
use Rattle.engine_votes.specs.declared.votes.Vote.{Vote}
use Rattle.engine_outbox.specs.SubjectActions.{IsActionOn}
use Rattle.engine_outbox.specs.Entries.{votes_of_entries}
use Rattle.engine_outbox.specs.Finalizations.{finals_in, finals_by, RiseByView, EndsAt, WereAccepted, rising_above, raised_to, ReportsRising, ReportsNoMore}
use Rattle.engine_outbox.specs.Outboxes.{HasBecome, HasStayed, IsPassedIf, IsReported}
use Rattle.engine_outbox.specs.Outputs.{storing}

module _ {S D J K G C : Type 0} where
  pub finalized_in-append : (xs ys : List (Output S D J K G C)) → finals_in (xs ++ ys) ≡ finals_in xs ++ finals_in ys
  finalized_in-append [] ys = refl
  finalized_in-append (output.Finalized p ∷ xs) ys = ap (λ ps. p ∷ ps) (finalized_in-append xs ys)
  finalized_in-append (output.Store entries ∷ xs) ys = finalized_in-append xs ys
  finalized_in-append (output.Replace entries beside ∷ xs) ys = finalized_in-append xs ys
  finalized_in-append (output.Vote vote ∷ xs) ys = finalized_in-append xs ys
  finalized_in-append (output.Work work ∷ xs) ys = finalized_in-append xs ys

module _ (S J K C : Type 0) {D G : Type 0} where
  votes_tell_none : (votes : List (Vote D G)) → finals_in {S = S} {J = J} {K = K} {C = C} (map output.Vote votes) ≡ []
  votes_tell_none [] = refl
  votes_tell_none (v ∷ vs) = votes_tell_none vs

-- entries, and the votes after them
pub storing_tells_none : {S D K G C : Type 0} (J : Type 0) (entries : Vec (Artifact S D K G C) Global)
    → finals_in {J = J} (storing entries) ≡ []
storing_tells_none {S = S} {K = K} {C = C} J entries = votes_tell_none S J K C (votes_of_entries entries.items)

max_above : (m n : ℕ) → nat_lt m n ≡ true → max m n ≡ n
max_above m n e = grind (arith, nat_tests, e)

max_below : (m n : ℕ) → nat_lt m n ≡ false → max m n ≡ m
max_below m n e = grind (arith, nat_tests, e)

module _ {D : Type 0} where
  pub finalized_by-append : (xs ys : List (TraceEvent D)) → finals_by (xs ++ ys) ≡ finals_by xs ++ finals_by ys
  finalized_by-append [] ys = refl
  finalized_by-append (Accepts (subject.Finalize p) ∷ xs) ys = ap (λ ps. p ∷ ps) (finalized_by-append xs ys)
  finalized_by-append (Accepts (subject.Notarize p) ∷ xs) ys = finalized_by-append xs ys
  finalized_by-append (Accepts (subject.Nullify round) ∷ xs) ys = finalized_by-append xs ys
  finalized_by-append (Signs signer vote ∷ xs) ys = finalized_by-append xs ys

  -- where no certificate is accepted
  pub none_finalized : (events : List (TraceEvent D)) → All (IsActionOn None) events → finals_by events ≡ []
  none_finalized [] none = refl
  none_finalized (Accepts certificate ∷ rest) none = absurd (All-head (IsActionOn None) (Accepts certificate) rest none)
  none_finalized (Signs signer vote ∷ rest) none =
      none_finalized rest (All-tail (IsActionOn None) (Signs signer vote) rest none)

  -- each proposal that is final by what was done was accepted
  by_accepting : (events : List (TraceEvent D)) → WereAccepted events (finals_by events)
  by_accepting [] p has = absurd (omega (arith, has.1))
  by_accepting (Accepts (subject.Finalize q) ∷ rest) p has = elim (Contains-cases q (finals_by rest) p has) [
    | inl first ↦ (zero, omega arith, ap (λ r. Accepts (subject.Finalize r)) first)
    | inr later ↦ Contains-cons_rest (Accepts (subject.Finalize q)) rest (Accepts (subject.Finalize p))
        (by_accepting rest p later)
  ]
  by_accepting (Accepts (subject.Notarize q) ∷ rest) p has =
      Contains-cons_rest (Accepts (subject.Notarize q)) rest (Accepts (subject.Finalize p)) (by_accepting rest p has)
  by_accepting (Accepts (subject.Nullify round) ∷ rest) p has =
      Contains-cons_rest (Accepts (subject.Nullify round)) rest (Accepts (subject.Finalize p)) (by_accepting rest p has)
  by_accepting (Signs signer vote ∷ rest) p has =
      Contains-cons_rest (Signs signer vote) rest (Accepts (subject.Finalize p)) (by_accepting rest p has)

  -- those that are reported are among them
  rising_within : (view : ℕ) (finals : List (Proposal D)) (p : Proposal D) → Contains (rising_above view finals) p
      → Contains finals p
  rising_within view [] p has = has
  rising_within view (q ∷ rest) p has = by_test (λ v. rising_within v rest p) (nat_lt view q.round.view) has
    where
      by_test : ((v : ℕ) → Contains (rising_above v rest) p → Contains rest p) → (t : Bool)
          → Contains (cond t (q ∷ rising_above q.round.view rest) (rising_above view rest)) p → Contains (q ∷ rest) p
      by_test within true here = elim (Contains-cases q (rising_above q.round.view rest) p here) [
        | inl first ↦ (zero, omega arith, first)
        | inr later ↦ Contains-cons_rest q rest p (within q.round.view later)
      ]
      by_test within false here = Contains-cons_rest q rest p (within view here)

  -- one more, above all
  pub rising_further : (view : ℕ) (xs : List (Proposal D)) (p : Proposal D) → RiseByView xs → EndsAt view xs
      → view < p.round.view → RiseByView (xs ++ p ∷ [])
  rising_further view [] p rise ends above = tt
  rising_further view (x ∷ []) p rise ends above = (rw ends above, tt)
  rising_further view (x ∷ y ∷ rest) p rise ends above = (rise.0, rising_further view (y ∷ rest) p rise.1 ends above)

  pub ends_with : (xs : List (Proposal D)) (p : Proposal D) → EndsAt p.round.view (xs ++ p ∷ [])
  ends_with [] p = refl
  ends_with (x ∷ []) p = refl
  ends_with (x ∷ y ∷ rest) p = ends_with (y ∷ rest) p

  -- the first of those that rise
  pub rising_first : (xs ys : List (Proposal D)) → RiseByView (xs ++ ys) → RiseByView xs
  rising_first [] ys rise = tt
  rising_first (x ∷ []) ys rise = tt
  rising_first (x ∷ y ∷ rest) ys rise = (rise.0, rising_first (y ∷ rest) ys rise.1)

  pub highest-append : (view : ℕ) (xs ys : List (Proposal D))
      → raised_to view (xs ++ ys) ≡ raised_to (raised_to view xs) ys
  highest-append view [] ys = refl
  highest-append view (x ∷ xs) ys = highest-append (max view x.round.view) xs ys

  pub rising_above-append : (view : ℕ) (xs ys : List (Proposal D))
      → rising_above view (xs ++ ys) ≡ rising_above view xs ++ rising_above (raised_to view xs) ys
  rising_above-append view [] ys = refl
  rising_above-append view (x ∷ xs) ys = by_test (λ v. rising_above-append v xs ys) (nat_lt view x.round.view) refl
    where
      by_test : ((v : ℕ) → rising_above v (xs ++ ys) ≡ rising_above v xs ++ rising_above (raised_to v xs) ys)
          → (t : Bool) → nat_lt view x.round.view ≡ t
          → cond t (x ∷ rising_above x.round.view (xs ++ ys)) (rising_above view (xs ++ ys))
          ≡ cond t (x ∷ rising_above x.round.view xs) (rising_above view xs) ++ rising_above
          (raised_to (max view x.round.view) xs) ys
      by_test rest true e = ap (λ ps. x ∷ ps)
          (rest x.round.view ∙ ap (λ v. rising_above x.round.view xs ++ rising_above (raised_to v xs) ys)
          (sym (max_above view x.round.view e)))
      by_test rest false e = rest view ∙ ap (λ v. rising_above view xs ++ rising_above (raised_to v xs) ys)
          (sym (max_below view x.round.view e))

module _ {S D J K G C : Type 0} where
  -- nothing is reported
  pub tells_none : (old new : Outbox S D J K G C) → finals_in new.queue.items ≡ finals_in old.queue.items
      → new.reported ≡ old.reported → ReportsRising [] old new
  tells_none old new queued reported =
      record { queued = queued ∙ sym (append-nil (finals_in old.queue.items)); reported = reported }

  pub stayed_tells : (old new : Outbox S D J K G C) → HasStayed old new → ReportsRising [] old new
  stayed_tells old new stayed = tells_none old new (ap finals_in stayed.0) stayed.2

  pub become_tells : (more : List (Output S D J K G C)) (repeat : Option (Vote D G)) (old new : Outbox S D J K G C)
      → finals_in more ≡ [] → HasBecome more repeat old new → ReportsRising [] old new
  become_tells more repeat old new none become = record {
    queued = ap finals_in become.queue ∙ finalized_in-append old.queue.items more
        ∙ ap (λ ps. finals_in old.queue.items ++ ps) none;
    reported = become.reported_is;
  }

  -- where each was accepted, and those are reported that are accepted besides, each still was
  pub accepted_rising : (given : List (Output S D J K G C)) (old new : Outbox S D J K G C)
      (all more : List (TraceEvent D)) → ReportsRising (finals_by more) old new
      → WereAccepted all (finals_in (given ++ old.queue.items))
      → WereAccepted (all ++ more) (finals_in (given ++ new.queue.items))
  accepted_rising given old new all more tells accepted p has =
      let fresh = rising_above old.reported (finals_by more) in
      let split : finals_in (given ++ new.queue.items) ≡ finals_in (given ++ old.queue.items) ++ fresh =
      finalized_in-append given new.queue.items ∙ ap (λ ps. finals_in given ++ ps) tells.queued
      ∙ sym (append_assoc (finals_in given) (finals_in old.queue.items) fresh)
      ∙ ap (λ ps. ps ++ fresh) (sym (finalized_in-append given old.queue.items)) in
      elim (Contains-append_cases (finals_in (given ++ old.queue.items)) fresh p
      (subst (λ ps. Contains ps p) split has)) [
        | inl before ↦ Contains-append_left all more (Accepts (subject.Finalize p)) (accepted p before)
        | inr here ↦ Contains-append_right all more (Accepts (subject.Finalize p))
            (by_accepting more p (rising_within old.reported (finals_by more) p here))
      ]

  -- and then others are
  pub tells_further : (xs ys : List (Proposal D)) (a b c : Outbox S D J K G C) → ReportsRising xs a b
      → ReportsRising ys b c → ReportsRising (xs ++ ys) a c
  tells_further xs ys a b c first second = record {
    queued =
        second.queued
        ∙ ap (λ ps. ps ++ rising_above b.reported ys) first.queued
        ∙ append_assoc (finals_in a.queue.items) (rising_above a.reported xs) (rising_above b.reported ys)
        ∙ ap (λ ps. finals_in a.queue.items ++ ps)
        (ap (λ v. rising_above a.reported xs ++ rising_above v ys) first.reported
        ∙ sym (rising_above-append a.reported xs ys));
    reported = second.reported ∙ ap (λ v. raised_to v ys) first.reported ∙ sym (highest-append a.reported xs ys);
  }

  replied_where : (p : Proposal D) (old new : Outbox S D J K G C) (t : Bool) → nat_lt old.reported p.round.view ≡ t
      → IsPassedIf t p old new → ReportsRising (p ∷ []) old new
  replied_where p old new true e is = record {
    queued =
        ap finals_in is.0 ∙ finalized_in-append old.queue.items (output.Finalized p ∷ [])
        ∙ sym (ap (λ t. finals_in old.queue.items ++ cond t (p ∷ []) []) e);
    reported = is.2 ∙ sym (max_above old.reported p.round.view e);
  }
  replied_where p old new false e is = record {
    queued =
        ap finals_in is.0 ∙ sym (append-nil (finals_in old.queue.items))
        ∙ sym (ap (λ t. finals_in old.queue.items ++ cond t (p ∷ []) []) e);
    reported = is.2 ∙ sym (max_below old.reported p.round.view e);
  }

  -- one is reported, or none
  pub replied_tells : (finalized : Option (Proposal D)) (old new : Outbox S D J K G C) → IsReported finalized old new
      → ReportsRising (option_to_list finalized) old new
  replied_tells None old new is = stayed_tells old new is
  replied_tells (Some p) old new is = replied_where p old new (nat_lt old.reported p.round.view) refl is

  -- nothing is returned, and then this is
  pub tells_no_more : (finals : List (Proposal D)) (out : List (Output S D J K G C)) (a b c : Outbox S D J K G C)
      → finals ≡ [] → ReportsRising finals a b → ReportsNoMore out b c → ReportsNoMore out a c
  tells_no_more finals out a b c none first second =
      let nothing : ReportsRising [] a b = subst (λ ps. ReportsRising ps a b) none first in
      record {
        queued = sym (nothing.queued ∙ append-nil (finals_in a.queue.items)) ∙ second.queued;
        reported = second.reported ∙ nothing.reported;
      }

  pub tells_nothing : (finals : List (Proposal D)) (a b : Outbox S D J K G C) → finals ≡ [] → ReportsRising finals a b
      → ReportsNoMore [] a b
  tells_nothing finals a b none first = tells_no_more finals [] a b b none first
      (record { queued = refl; reported = refl })

  -- after nothing was returned
  pub tells_still : (out : List (Output S D J K G C)) (a b c : Outbox S D J K G C) → ReportsNoMore [] a b
      → ReportsNoMore out b c → ReportsNoMore out a c
  tells_still out a b c first second = record
      { queued = first.queued ∙ second.queued; reported = second.reported ∙ first.reported }
