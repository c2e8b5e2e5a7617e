-- The open fetches of a host's resolver, after one more call and over all that it received.
use Rattle.std.proofs.Common.{◌≡◌, ℕ, ◌<◌, ◌≤◌, true, false, ◌==◌, ◌||◌, not, List, [], ◌∷◌, ◌++◌, refl, ap, sym, subst, ◌∙◌, arith}
use Rattle.std.specs.List.{list_any, AllByRecursion}
use Rattle.std.proofs.lemmas.Bool.Decides.{nat_tests}
use Rattle.simplex_types.specs.Certificates.{certificate_facts}
use Rattle.simplex_types.specs.MessageViews.{certificate_view}
use Rattle.simplex_types.specs.declared.types.messages.Certificate.{Certificate}
use Rattle.simplex_types.specs.declared.types.messages.Certificate.TheVariants.{Notarization, Nullification, Finalization}
use Rattle.simplex_resolver.specs.declared.resolver.effect.Effect.{Effect}
use Rattle.simplex_resolver.specs.Answers.{AnswersFit}
use Rattle.simplex_resolver.specs.Steps.{Call, update, after, effects}
use Rattle.simplex_resolver.specs.ReceivedFacts.{NamesAView, is_replayed, is_needed}
use Rattle.simplex_resolver.specs.Repair.{has, fetches, is_outstanding, facts_of, effects_of, IsApplied}
use Rattle.simplex_resolver.proofs.Again.{recorded_again}
use Rattle.simplex_resolver.proofs.AnswersLaw.{answers_are_of_the_received}
use Rattle.simplex_resolver.proofs.RepairLaw.{all_fetched, stands, outstanding_is_wanted}
use Rattle.simplex_resolver.proofs.Views.{keeps_outstanding}
use Rattle.simplex_resolver.specs.CallHistory.{LawfulResolverFacts, HasReceivedCalls, IsMade, OpensTheOutstanding, OpensNone, OpensNoneAgain, AnswersTheReceived}

-- a certificate of a view above genesis is passed in by a call that names a view
pub update_names : {S D K G C : Type 0} (payload_bytes : D → List ℕ) (bytes_of : C → List ℕ)
    (certificate : Certificate S D K G C)
    → 1 ≤ certificate_view certificate → NamesAView (update payload_bytes (certificate_facts bytes_of certificate))
update_names payload_bytes bytes_of (Notarization n) h = h
update_names payload_bytes bytes_of (Nullification n) h = h
update_names payload_bytes bytes_of (Finalization f) h = h

-- ---- what it received

-- a record, whose last effects open the fetches that it needs
pub received_by_record : (t : ℕ) (calls : List Call) (r : LawfulResolverFacts) (es : List Effect)
    → 0 < t → AllByRecursion NamesAView calls → list_any is_replayed calls ≡ true → r.state ≡ facts_of t calls
    → ((v : ℕ) → is_outstanding es v ≡ is_needed t calls v) → IsApplied [] es r.open_fetches
    → HasReceivedCalls t calls r
received_by_record t calls r es long named replayed state wanted applied = record {
  long = long;
  named = named;
  state = state;
  open_fetches = λ v. applied v ∙ wanted v ∙ sym (outstanding_is_wanted t calls long named replayed v);
}

-- one more call
pub still_received : (t : ℕ) (calls : List Call) (call : Call) (old new : LawfulResolverFacts) (es : List Effect)
    → HasReceivedCalls t calls old → NamesAView call → IsMade call old es new → HasReceivedCalls t (call ∷ calls) new
still_received t calls call old new es received names made = record {
  long = received.long;
  named = (names, received.named);
  state = made.state ∙ ap (λ x. after x call) received.state;
  open_fetches = λ v.
      keeps_outstanding old.open_fetches new.open_fetches es made.applied (effects_of t calls) received.open_fetches v
      ∙ ap (λ e. is_outstanding (effects_of t calls ++ e) v) (made.answered ∙ ap (λ x. effects x call) received.state);
}

-- ---- the laws

pub opens_the_wanted : (r : LawfulResolverFacts) (t : ℕ) (calls : List Call) → HasReceivedCalls t calls r
    → OpensTheOutstanding r t calls
opens_the_wanted r t calls received replayed v = received.open_fetches v
    ∙ outstanding_is_wanted t calls received.long received.named replayed v

none_there : (vs : List ℕ) → ((v : ℕ) → has vs v ≡ false) → vs ≡ []
none_there [] none = refl
none_there (u ∷ us) none = absurd (let here : (u == u || has us u) ≡ false = none u in grind (arith, nat_tests, here))

pub opens_none : (r : LawfulResolverFacts) (t : ℕ) (calls : List Call) → HasReceivedCalls t calls r
    → OpensNone r t calls
opens_none r t calls received none =
    let replaying : (facts_of t calls).replaying ≡ true = (stands t calls received.long received.named).replaying
    ∙ ap not none in
    none_there r.open_fetches
    (λ v. received.open_fetches v ∙ ((all_fetched t calls received.long received.named).at_rest replaying).1 v)

pub opens_none_again : (r : LawfulResolverFacts) (t : ℕ) (calls : List Call) → HasReceivedCalls t calls r
    → OpensNoneAgain r t calls
opens_none_again r t calls received call before v =
    ap (λ x. list_any (fetches v) (effects x call)) received.state
    ∙ recorded_again t calls call received.long received.named before v

pub answers_the_received : (r : LawfulResolverFacts) (t : ℕ) (calls : List Call) → HasReceivedCalls t calls r
    → AnswersTheReceived r t calls
answers_the_received r t calls received =
    subst (AnswersFit t calls) (sym received.state) (answers_are_of_the_received t calls received.long received.named)
