-- For `Journaled::begin`. A lifetime begins with its whole record queued.
use Rattle.std.proofs.Common.{◌≡◌, ◌∙◌, ◌-◌, ◌^◌, arith, ℕ, true, false, List, [], ◌∷◌, ◌++◌, length, refl, ap, sym, subst}
use Rattle.std.specs.Prelude.{IfSome}
use Rattle.simplex_types.specs.declared.types.messages.Artifact.{Artifact}
use Rattle.simplex_record.specs.Entries.{entries_of}
use Rattle.simplex_record.specs.Votes.{votes_of}
use Rattle.simplex_member.specs.Journal.{stored_of}
use Rattle.simplex_member.specs.MemberFacts.{SignedMember}
use Rattle.simplex_member.specs.declared.member.journal.Stored.{Stored}
use Rattle.engine_outbox.specs.declared.journaled.Journaled.{Journaled}
use Rattle.engine_outbox.specs.declared.outbox.Outbox.{Outbox}
use Rattle.engine_outbox.specs.declared.output.Output.{Output}
use Rattle.engine_outbox.specs.Outboxes.{IsLawfulOutbox, IsReplaced}
use Rattle.engine_outbox.specs.declared.output.Output.TheVariants as output
use Rattle.engine_outbox.specs.Continuity.{IsJournaled}
use Rattle.engine_outbox.specs.EmittedVotes.{AllAreReturned}
use Rattle.engine_outbox.specs.RecordReach.{ReachesTo}
use Rattle.engine_outbox.proofs.Kept.{replaced, replied_last_still}
use Rattle.engine_outbox.proofs.EmittedVotes.{leave_begun}

module _ {S L D K G C : Type 0} (bytes_of : C → List ℕ) (member : SignedMember K L D G)
    (old new : Outbox S D Stored K G C) (count reach : ℕ) where
  abbrev pub before : Journaled S L D K G C
  before = record { member = member; outbox = old; stored = 0; reach = 2 ^ 64 - 1; failed = true }

  abbrev pub after : Journaled S L D K G C
  after = record { member = member; outbox = new; stored = count; reach = reach; failed = false }

  pub begun : IsLawfulOutbox [] old → old.queue.items ≡ [] → new.reported ≡ old.reported
      → IfSome member.facts.life (λ x. old.reported ≡ x.finalized)
      → ((given : List (Output S D Stored K G C)) → IsLawfulOutbox given old → IsLawfulOutbox given new)
      → (all : List (Artifact S D K G C)) → count ≡ length all → entries_of bytes_of all ≡ member.facts.entries
      → votes_of all ≡ member.votes
      → IsReplaced bytes_of all (stored_of member.facts) old new → ReachesTo reach count member.facts.entries
      → IsJournaled bytes_of [] after
  begun begins empty same_replied last lawful all counted all_entries all_votes is reaches =
      replaced bytes_of before after [] lawful all counted all_entries all_votes is
      (λ lives. subst AllAreReturned (sym (is.2.queue
      ∙ ap (λ q. q ++ output.Replace is.0 (stored_of member.facts) ∷ []) empty))
      (leave_begun is.0 (stored_of member.facts)))
      (replied_last_still before after refl same_replied) reaches
      (record {
        lawful = begins;
        stored = λ lives. cc;
        emitted = λ lives. cc;
        reported = last;
        reaching = record { counted = omega arith; lowest = refl };
      })
