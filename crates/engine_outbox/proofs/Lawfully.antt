-- Calls of an outbox keep its law.
use Rattle.std.proofs.Common.{◌≡◌, ◌<◌, ℕ, Bool, true, false, nat_lt, List, [], ◌∷◌, ◌++◌, Option, Some, None, Result, Ok, Err, refl, ap, sym, ◌∙◌, subst, append_assoc, append-nil, arith}
use Rattle.std.specs.Prelude.{Contains, IfSome, IfOk, OnOk, OnErr, option_to_list}
use Rattle.std.proofs.lemmas.Bool.Decides.{nat_tests}
use Rattle.simplex_types.specs.declared.types.messages.Artifact.{Artifact}
use Rattle.simplex_types.specs.declared.types.messages.Proposal.{Proposal}
use Rattle.engine_outbox.specs.declared.output.Output.{Output}
use Rattle.engine_outbox.specs.declared.output.Output.TheVariants as output
use Rattle.engine_outbox.specs.declared.output.Work.{Work}
use Rattle.engine_outbox.specs.declared.outbox.Outbox.{Outbox}
use Rattle.engine_votes.specs.declared.votes.Vote.{Vote}
use Rattle.engine_outbox.specs.Entries.{votes_of_entries, newest_from}
use Rattle.engine_outbox.specs.Finalizations.{finals_in, RiseByView, EndsAt}
use Rattle.engine_outbox.specs.Outputs.{stored_in, storing, AreBehind}
use Rattle.engine_outbox.specs.Outboxes.{IsLawfulOutbox, HasBecome, HasStayed, IsStored, IsReplaced, IsRepeated, IsPassedIf, IsReported}
use Rattle.engine_outbox.proofs.Behind.{votes_in-append, newest_recorded, stored_in-append, joined, storing_behind, stored_by}
use Rattle.engine_votes.proofs.Contains.{contains_left}
use Rattle.engine_outbox.proofs.Finalizations.{finalized_in-append, storing_tells_none, rising_further, ends_with}

pub by_result : {X E : Type 0} (r : Result X E) {P Q R : Type 0} → OnOk r P → OnErr r Q → (P → R) → (Q → R) → R
by_result (Ok x) ok err one other = one ok
by_result (Err e) ok err one other = other err

pub by_answer : {X E : Type 0} (r : Result X E) {P : X → Type 0} {Q R : Type 0} → IfOk r P → OnErr r Q
    → ((x : X) → P x → R) → (Q → R) → R
by_answer (Ok x) ok err one other = one x ok
by_answer (Err e) ok err one other = other err

module _ {S D J K G C : Type 0} (given : List (Output S D J K G C)) (old new : Outbox S D J K G C)
    (lawful : IsLawfulOutbox given old) where
  abbrev before : List (Output S D J K G C)
  before = given ++ old.queue.items

  abbrev MayRepeat : List (Output S D J K G C) → Option (Vote D G) → Type 0
  MayRepeat outs repeat = IfSome repeat (λ vote. Contains (votes_of_entries (stored_in outs)) vote)

  -- what is recorded once more is queued
  seen : (more : List (Output S D J K G C))
      → votes_of_entries (stored_in (before ++ more)) ≡ votes_of_entries (stored_in before) ++ votes_of_entries
      (stored_in more)
  seen more = ap votes_of_entries (stored_in-append before more) ∙ votes_in-append (stored_in before) (stored_in more)

  seam : (more : List (Output S D J K G C)) → new.queue.items ≡ old.queue.items ++ more
      → given ++ new.queue.items ≡ before ++ more
  seam more is = ap (λ q. given ++ q) is ∙ sym (append_assoc given old.queue.items more)

  more_lawful : (more : List (Output S D J K G C)) (repeat : Option (Vote D G)) → HasBecome more repeat old new
      → AreBehind (stored_in before) more → MayRepeat (before ++ more) repeat → finals_in more ≡ []
      → IsLawfulOutbox given new
  more_lawful more repeat become behind may none =
      let same = seam more become.queue in
      let finals : finals_in (given ++ new.queue.items) ≡ finals_in before =
      ap finals_in same ∙ finalized_in-append before more ∙ ap (λ ps. finals_in before ++ ps) none
      ∙ append-nil (finals_in before) in
      record {
        behind = subst (AreBehind []) (sym same) (joined [] before more lawful.behind behind);
        repeat = subst (λ outs. MayRepeat outs new.repeat) (sym same)
            (subst (MayRepeat (before ++ more)) (sym become.repeat_is) may);
        rising = subst RiseByView (sym finals) lawful.rising;
        reported = subst (λ ps. EndsAt new.reported ps) (sym finals)
            (subst (λ v. EndsAt v (finals_in before)) (sym become.reported_is) lawful.reported);
      }

  wider : (more : List (Output S D J K G C)) (repeat : Option (Vote D G)) → MayRepeat before repeat
      → MayRepeat (before ++ more) repeat
  wider more None may = tt
  wider more (Some vote) may = subst (λ votes. Contains votes vote) (sym (seen more))
      (contains_left (votes_of_entries (stored_in before)) (votes_of_entries (stored_in more)) vote may)

  recorded : (more : List (Output S D J K G C)) (entries : List (Artifact S D K G C)) → stored_in more ≡ entries
      → MayRepeat (before ++ more) (newest_from old.repeat entries)
  recorded more entries are =
      subst (λ votes. IfSome (newest_from old.repeat entries) (λ vote. Contains votes vote))
      (sym (seen more ∙ ap (λ es. votes_of_entries (stored_in before) ++ votes_of_entries es) are))
      (newest_recorded old.repeat entries (votes_of_entries (stored_in before)) lawful.repeat)

  pub stayed_lawful : HasStayed old new → IsLawfulOutbox given new
  stayed_lawful stayed = record {
    behind = subst (λ q. AreBehind [] (given ++ q)) (sym stayed.0) lawful.behind;
    repeat = subst (λ q. MayRepeat (given ++ q) new.repeat) (sym stayed.0)
        (subst (MayRepeat before) (sym stayed.1) lawful.repeat);
    rising = subst (λ q. RiseByView (finals_in (given ++ q))) (sym stayed.0) lawful.rising;
    reported =
        subst (λ q. EndsAt new.reported (finals_in (given ++ q))) (sym stayed.0)
        (subst (λ v. EndsAt v (finals_in before)) (sym stayed.2) lawful.reported);
  }

  pub stored_lawful : (bytes_of : C → List ℕ) (fresh : List (Artifact S D K G C)) → IsStored bytes_of fresh old new
      → IsLawfulOutbox given new
  stored_lawful bytes_of fresh stored = more_lawful (storing stored.0) (newest_from old.repeat stored.0.items) stored.2
      (storing_behind J (stored_in before) stored.0) (recorded (storing stored.0) stored.0.items (stored_by J stored.0))
      (storing_tells_none J stored.0)

  pub replaced_lawful : (bytes_of : C → List ℕ) (all : List (Artifact S D K G C)) (beside : J)
      → IsReplaced bytes_of all beside old new → IsLawfulOutbox given new
  replaced_lawful bytes_of all beside replaced =
      more_lawful (output.Replace replaced.0 beside ∷ []) (newest_from old.repeat replaced.0.items) replaced.2 (tt, tt)
      (recorded (output.Replace replaced.0 beside ∷ []) replaced.0.items (append-nil replaced.0.items)) refl

  repeated_by : (view : ℕ) (o : Option (Vote D G)) → old.repeat ≡ o → (sent : Bool) → IsRepeated view o sent old new
      → IsLawfulOutbox given new
  repeated_by view None is sent repeated = stayed_lawful repeated.1
  repeated_by view (Some vote) is false repeated = stayed_lawful repeated.1
  repeated_by view (Some vote) is true repeated =
      more_lawful (output.Vote vote ∷ []) old.repeat repeated.1 (subst (MayRepeat before) is lawful.repeat, tt)
      (wider (output.Vote vote ∷ []) old.repeat lawful.repeat) refl

  pub repeated_lawful : (view : ℕ) (sent : Bool) → IsRepeated view old.repeat sent old new → IsLawfulOutbox given new
  repeated_lawful view sent repeated = repeated_by view old.repeat refl sent repeated

  pub pushed_lawful : (work : Work S D K G C) → HasBecome (output.Work work ∷ []) old.repeat old new
      → IsLawfulOutbox given new
  pushed_lawful work become = more_lawful (output.Work work ∷ []) old.repeat become (tt, tt)
      (wider (output.Work work ∷ []) old.repeat lawful.repeat) refl

  replied_where : (p : Proposal D) (t : Bool) → nat_lt old.reported p.round.view ≡ t → IsPassedIf t p old new
      → IsLawfulOutbox given new
  replied_where p false e is = stayed_lawful is
  replied_where p true e is =
      let tells = output.Finalized p ∷ [] in
      let same = seam tells is.0 in
      let finals : finals_in (given ++ new.queue.items) ≡ finals_in before ++ p ∷ [] = ap finals_in same
      ∙ finalized_in-append before tells in
      let above : old.reported < p.round.view = grind (arith, nat_tests, e) in
      record {
        behind = subst (AreBehind []) (sym same) (joined [] before tells lawful.behind (tt, tt));
        repeat = subst (λ outs. MayRepeat outs new.repeat) (sym same)
            (subst (MayRepeat (before ++ tells)) (sym is.1) (wider tells old.repeat lawful.repeat));
        rising = subst RiseByView (sym finals)
            (rising_further old.reported (finals_in before) p lawful.rising lawful.reported above);
        reported = subst (λ ps. EndsAt new.reported ps) (sym finals)
            (subst (λ v. EndsAt v (finals_in before ++ p ∷ [])) (sym is.2) (ends_with (finals_in before) p));
      }

  pub replied_lawful : (finalized : Option (Proposal D)) → IsReported finalized old new → IsLawfulOutbox given new
  replied_lawful None is = stayed_lawful is
  replied_lawful (Some p) is = replied_where p (nat_lt old.reported p.round.view) refl is

  -- what is returned
  pub given_lawful : (out : Option (Output S D J K G C)) → old.queue.items ≡ option_to_list out ++ new.queue.items
      → new.repeat ≡ old.repeat → new.reported ≡ old.reported → IsLawfulOutbox (given ++ option_to_list out) new
  given_lawful out front same same_replied =
      let outs : before ≡ (given ++ option_to_list out) ++ new.queue.items = ap (λ q. given ++ q) front
      ∙ sym (append_assoc given (option_to_list out) new.queue.items) in
      record {
        behind = subst (AreBehind []) outs lawful.behind;
        repeat = subst (λ all. MayRepeat all new.repeat) outs (subst (MayRepeat before) (sym same) lawful.repeat);
        rising = subst (λ all. RiseByView (finals_in all)) outs lawful.rising;
        reported = subst (λ all. EndsAt new.reported (finals_in all)) outs
            (subst (λ v. EndsAt v (finals_in before)) (sym same_replied) lawful.reported);
      }
