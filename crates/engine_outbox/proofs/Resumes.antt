-- For the code of the engine. A host that stops between any two outputs continues lawfully.
use Rattle.std.proofs.Common.{◌≡◌, ◌∙◌, ap, sym, subst, ℕ, Bool, List, ◌++◌, append_assoc, Option, Some}
use Rattle.std.specs.Prelude.{Contains}
use Rattle.std.proofs.lemmas.List.Elements.{Contains-append_left}
use Rattle.simplex_types.specs.declared.types.messages.Subject.{Subject}
use Rattle.simplex_types.specs.declared.types.window.Terms.{Terms}
use Rattle.simplex_voter.specs.Facts.{Elect}
use Rattle.simplex_record.specs.Entries.{entries_of}
use Rattle.simplex_member.specs.declared.member.journal.Stored.{Stored}
use Rattle.laws_safety.specs.MemberHistory.{HasHistory}
use Rattle.laws_safety.specs.ObservedTraces.{floor_in}
use Rattle.laws_safety.specs.Traces.{Signs}
use Rattle.engine_outbox.specs.Entries.{votes_of_entries}
use Rattle.engine_outbox.specs.Journals.{Journal}
use Rattle.engine_outbox.specs.Resumes.{EachResumeContinues}
use Rattle.engine_outbox.specs.HostStops.{votes_recorded, WereSigned}
use Rattle.engine_outbox.proofs.EmittedVotes.{all_signed, was_stored}

some_so : {X : Type 0} (x y : X) → Some x ≡ Some y → x ≡ y
some_so x y e = cc

module _ {S K L D G C : Type 0} (same : D → D → Bool) (elect : Elect L) (is_signature : K → Subject D → G → Type 0)
    (bytes_of : C → List ℕ) where
  pub each_goes_on : (me : S → Option ℕ) (terms : L → Terms)
      → EachResumeContinues same elect is_signature bytes_of me terms
  each_goes_on me terms term_length i earlier all outs stored entries start member stops written goes votes starts =
      let may = stops.may in
      let before = earlier ++ may.since in
      let floor = floor_in start.floor in
      let now : before ++ floor ≡ earlier ++ (may.since ++ floor) = append_assoc earlier may.since floor in
      let begun : HasHistory same elect term_length i (before ++ floor) member.facts =
      goes may.member.facts
      (sym (some_so stored _ (ap (λ (j : Journal S D Stored K G C). j.beside) (sym written) ∙ may.holds.beside)))
      (sym may.holds.entries ∙ ap (λ (j : Journal S D Stored K G C). entries_of bytes_of j.entries) written) term_length
      i before starts may.done in
      let stored_then : WereSigned before (votes_of_entries entries) = λ vote has.
      may.signed vote (was_stored outs vote
      (subst (λ (j : Journal S D Stored K G C). Contains (votes_of_entries j.entries) vote) (sym written) has)) in
      record {
        since = may.since ++ floor;
        done = subst (λ xs. HasHistory same elect term_length i xs member.facts) now begun;
        recorded = λ vote has. subst (λ xs. Contains xs (Signs vote.signer vote.subject)) now
            (Contains-append_left before floor (Signs vote.signer vote.subject) (stored_then vote
            (subst (λ vs. Contains vs vote) (ap votes_recorded votes ∙ sym (all_signed entries)) has)));
        votes = λ vote has. subst (λ xs. Contains xs (Signs vote.signer vote.subject)) now
            (Contains-append_left before floor (Signs vote.signer vote.subject) (stops.votes vote has));
        signed = λ key signed vote has.
            signed vote (was_stored outs vote
            (subst (λ (j : Journal S D Stored K G C). Contains (votes_of_entries j.entries) vote) (sym written)
            (subst (λ vs. Contains vs vote) (ap votes_recorded votes ∙ sym (all_signed entries)) has)));
      }
