-- For `Engine::handle` and what it calls. The effect of an input follows from what the member is asked for it, and from
-- the stored votes.
use Rattle.std.proofs.Common.{◌≡◌, ◌≢◌, ℕ, ◌≤◌, Bool, true, false, cond, List, [], ◌∷◌, ◌++◌, length, Some, Result, Ok, Err, refl, ap, sym, subst, ◌∙◌, inl, inr}
use Rattle.std.specs.Prelude.{IfOk, OnOk, IsTrue, IsFalse}
use Rattle.std.specs.List.{list_any}
use Rattle.std.proofs.lemmas.Bool.{false≢true, not-false}
use Rattle.std.proofs.lemmas.Result.{IfOk-weaker}
use Rattle.simplex_types.specs.Certificates.{certificate_facts}
use Rattle.simplex_types.specs.Encoding.{certificate_subject}
use Rattle.simplex_types.specs.MessageViews.{subject_view}
use Rattle.simplex_types.specs.declared.types.messages.Certificate.{Certificate}
use Rattle.simplex_types.specs.declared.types.messages.Subject.{Subject}
use Rattle.simplex_voter.specs.Facts.{Elect}
use Rattle.simplex_member.specs.MemberFacts.{MemberFacts}
use Rattle.engine_votes.specs.declared.batcher.Batcher.{Batcher}
use Rattle.engine_votes.specs.declared.batcher.Counted.{Counted}
use Rattle.engine_votes.specs.declared.batcher.Counted.TheVariants.{Refused, Known, Taken, Certified, Equivocated}
use Rattle.simplex_engine.specs.declared.engine.Engine.{Engine}
use Rattle.engine_planner.specs.declared.plan.Step.{Step}
use Rattle.engine_planner.specs.declared.task.Task.{Task}
use Rattle.engine_planner.specs.declared.task.Task.TheVariants as task
use Rattle.simplex_engine.specs.declared.input.Input.{Input}
use Rattle.simplex_engine.specs.declared.input.Input.TheVariants as input
use Rattle.engine_outbox.specs.declared.journaled.Journaled.{Journaled}
use Rattle.engine_votes.specs.declared.votes.Vote.{Vote}
use Rattle.simplex_engine.specs.InputEffects.{verification_of, HasDoneTask, IsBlockTaken, IsSubmitted, IsCountFollowed, IsActedOn}
use Rattle.engine_outbox.specs.CertificateCalls.{certificate_call}
use Rattle.simplex_engine.specs.Admission.{admits_votes, is_so, is_input_admitted, one_more, IsTurnedAway, ignoring}
use Rattle.simplex_engine.specs.CertificateVotes.{votes_of_input, TakesVotes, IsBacked, IsBackedInput, KeepsVotes}
use Rattle.engine_votes.specs.StoredVotes.{AreGiven, HoldsAllTheSame, HoldsUpTo, held, IsCounted}
use Rattle.simplex_engine.specs.Bounds.{StaysBounded}
use Rattle.engine_planner.specs.Blocks.{is_asked_in}
use Rattle.simplex_engine.specs.DroppedInputs.{IsLeftByInput}
use Rattle.engine_outbox.specs.Refusals.{is_refused, says_nothing, IsLeftByCall}
use Rattle.simplex_engine.specs.ApplicationWork.{KeepsApplicationWork}
use Rattle.engine_outbox.specs.Continuity.{Continues}
use Rattle.simplex_engine.specs.Inputs.{subject_in, subject_made}
use Rattle.engine_votes.specs.Polls.{ballot_of}
use Rattle.engine_votes.specs.Subjects.{subject_round}
use Rattle.simplex_engine.specs.InputResults.{IsInputTaken}
use Rattle.simplex_engine.specs.Provenance.{input_causes, IsCausedWith}
use Rattle.simplex_engine.proofs.Provenance.{both_ok}
use Rattle.engine_planner.specs.Tasks.{call_of}
use Rattle.engine_planner.proofs.PlanStates.{on_ok}
use Rattle.simplex_engine.proofs.CertificateVotes.{takes_same, takes_anyway, takes_then, backed_by_none, certified_given}
use Rattle.simplex_engine.proofs.Bounds.{bounded_still, bounded_further, bounded_counted}
use Rattle.engine_outbox.proofs.IgnoredCalls.{refused_left, dropped_left}
use Rattle.engine_votes.proofs.Given.{all_the_same}
use Rattle.engine_outbox.proofs.Continuity.{goes_on_anyway, made_on}

always_ok : {X E : Type 0} (r : Result X E) {P : X → Type 0} → ((x : X) → P x) → IfOk r P
always_ok (Ok x) holds = holds x
always_ok (Err e) holds = tt

module _ {S D K G C : Type 0} (a b : Batcher S D K G C) where
  held_same : b ≡ a → HoldsAllTheSame a b
  held_same is kind view member = ap (λ (batcher : Batcher S D K G C). ballot_of (held batcher kind view) member) is

module _ {K L D : Type 0} (same : D → D → Bool) (elect : Elect L) (now : ℕ) where
  -- an ignored task
  asked_left : (asked : Task D) (m left : MemberFacts K L D) (is_of_use : Bool)
      → HasDoneTask same elect asked now m left is_of_use → IsFalse is_of_use → IsLeftByCall (call_of asked now) m left
  asked_left asked m left is_of_use done vain =
      dropped_left same elect m left (call_of asked now) done.answer done.answered
      (not-false (says_nothing done.answer) (sym done.useful ∙ vain))

  verified_left : (is_valid : Bool) (view : ℕ) (m left : MemberFacts K L D) (is_of_use : Bool)
      → HasDoneTask same elect (verification_of is_valid view) now m left is_of_use → IsFalse is_of_use → left ≡ m
  verified_left true view = asked_left (task.Verified view)
  verified_left false view = asked_left (task.VerificationFailed view)

  block_left : (is_asked : Bool) (view : ℕ) (payload : D) (m left : MemberFacts K L D) (is_of_use : Bool)
      → IsBlockTaken same elect is_asked view payload now m left is_of_use → IsFalse is_of_use → left ≡ m
  block_left true view payload m left is_of_use done vain =
      asked_left (task.Proposed view payload) m left is_of_use done vain
  block_left false view payload m left is_of_use taken vain = taken.1

module _ {S L D K G C : Type 0} (same : D → D → Bool) (elect : Elect L) (bytes_of : C → List ℕ) (now : ℕ) where
  -- an ignored certificate
  handed_left : (certificate : Certificate S D K G C) (m left : MemberFacts K L D) (is_of_use : Bool)
      → IsSubmitted same elect bytes_of now certificate m left is_of_use → IsFalse is_of_use → left ≡ m
  handed_left certificate m left is_of_use handed vain =
      refused_left same elect m left (certificate_call (certificate_facts bytes_of certificate) now) handed.answer
      handed.answered
      (not-false (is_refused handed.answer) (sym handed.useful ∙ vain))

  -- an ignored vote
  counted_left : (counted : Counted S D K G C) (queued : List (Step S D K G C)) (m : MemberFacts K L D)
      (steps : List (Step S D K G C)) (left : MemberFacts K L D) (is_of_use : Bool)
      → IsCountFollowed same elect bytes_of now counted queued m steps left is_of_use → IsFalse is_of_use → left ≡ m
  counted_left (Certified made) queued m steps left is_of_use followed vain =
      absurd (false≢true (sym vain ∙ followed.0))
  counted_left (Equivocated first second) queued m steps left is_of_use followed vain = followed.1
  counted_left Taken queued m steps left is_of_use followed vain = followed.1
  counted_left Known queued m steps left is_of_use followed vain = followed.1
  counted_left Refused queued m steps left is_of_use followed vain = followed.1

  -- what it leaves of the stored ones
  counted_same : (IsMadeOf : Subject D → List (ℕ × G) → C → Type 0) (members : ℕ) (old new : Batcher S D K G C)
      (vote : Vote D G) (counted : Counted S D K G C)
      (queued : List (Step S D K G C)) (m : MemberFacts K L D) (steps : List (Step S D K G C))
      (left : MemberFacts K L D) (is_of_use : Bool)
      → IsCounted same IsMadeOf members true old vote new counted
      → IsCountFollowed same elect bytes_of now counted queued m steps left is_of_use → IsFalse is_of_use
      → HoldsAllTheSame old new
  counted_same IsMadeOf members old new vote Refused queued m steps left is_of_use counts followed vain = counts.1
  counted_same IsMadeOf members old new vote Known queued m steps left is_of_use counts followed vain =
      all_the_same old new vote.subject counts.others counts.counted.1
  counted_same IsMadeOf members old new vote Taken queued m steps left is_of_use counts followed vain =
      absurd (false≢true (sym vain ∙ followed.0))
  counted_same IsMadeOf members old new vote (Certified made) queued m steps left is_of_use counts followed vain =
      absurd (false≢true (sym vain ∙ followed.0))
  counted_same IsMadeOf members old new vote (Equivocated first second) queued m steps left is_of_use counts followed
      vain = absurd (false≢true (sym vain ∙ followed.0))

-- what a vote comes to

module _ {S L D K G C : Type 0} {same : D → D → Bool} {elect : Elect L} {bytes_of : C → List ℕ}
    {is_signature : K → Subject D → G → Type 0} (IsMadeOf : Subject D → List (ℕ × G) → C → Type 0) (members : ℕ)
    (old new : Batcher S D K G C) (vote : Vote D G) (a b : Journaled S L D K G C) where
  -- a certificate is made on its subject
  goes_counted : (counted : Counted S D K G C) → IsCounted same IsMadeOf members true old vote new counted
      → Continues same elect bytes_of is_signature (subject_made bytes_of counted) a b
      → Continues same elect bytes_of is_signature (Some vote.subject) a b
  goes_counted (Certified made) counts went =
      let certificate = counts.counted.2 in
      subst (λ on. Continues same elect bytes_of is_signature (Some on) a b)
      (ap (λ (m : Certificate S D K G C). certificate_subject (certificate_facts bytes_of m)) certificate.1
      ∙ made_on S K G bytes_of vote.subject certificate.0) went
  goes_counted (Equivocated first second) counts went = goes_on_anyway went
  goes_counted Taken counts went = goes_on_anyway went
  goes_counted Known counts went = goes_on_anyway went
  goes_counted Refused counts went = goes_on_anyway went

  -- by a quorum
  backed_counted : (law : (d e : D) → same d e ≡ true → d ≡ e)
      → ((given : List (Vote D G)) → AreGiven given old → AreGiven (given ++ vote ∷ []) new)
      → (counted : Counted S D K G C) → IsCounted same IsMadeOf members true old vote new counted
      → Continues same elect bytes_of is_signature (subject_made bytes_of counted) a b
      → IsBacked same elect bytes_of is_signature members (vote ∷ []) vote.subject old a b
  backed_counted law reply_causes (Certified made) counts went =
      record {
        backed = λ given are. inr (certified_given same law IsMadeOf members true old new vote
            (given ++ vote ∷ []) (reply_causes given are) made counts);
      }
  backed_counted law reply_causes (Equivocated first second) counts went = backed_by_none members went
  backed_counted law reply_causes Taken counts went = backed_by_none members went
  backed_counted law reply_causes Known counts went = backed_by_none members went
  backed_counted law reply_causes Refused counts went = backed_by_none members went

-- all inputs

module _ {S D K G C : Type 0} where
  -- except for a vote, the same votes are stored
  pub keeps_votes : (what : Input S D K G C) (old new : Batcher S D K G C) → new ≡ old → KeepsVotes what old new
  keeps_votes (input.Proposal from proposal) old new same = same
  keeps_votes (input.Vote vote) old new same = tt
  keeps_votes (input.Certificate certificate) old new same = same
  keeps_votes (input.Verified view is_valid) old new same = same
  keeps_votes (input.Built context payload) old new same = same
  keeps_votes (input.Certified view success) old new same = same
  keeps_votes (input.GivenUp view reason) old new same = same

module _ {S L D K G C : Type 0} (same : D → D → Bool) (elect : Elect L) (bytes : D → List ℕ) (bytes_of : C → List ℕ)
    (IsMadeOf : S → Subject D → List (ℕ × G) → C → Type 0) (keys_of : S → List K) (now : ℕ) where
  abbrev facts_of : Engine S L D K G C → MemberFacts K L D
  facts_of engine = engine.core.member.facts

  -- one that was acted on, and was ignored
  acted_left : (what : Input S D K G C) (old : Engine S L D K G C) (left : MemberFacts K L D)
      (batcher : Batcher S D K G C) (steps : List (Step S D K G C)) (is_of_use : Bool)
      → IsActedOn same elect bytes_of IsMadeOf keys_of now what old left batcher steps is_of_use → IsFalse is_of_use
      → IsLeftByInput now what (facts_of old) left
  acted_left (input.Proposal from proposal) old left batcher steps is_of_use acted vain =
      asked_left same elect now (task.SetProposal proposal.round.view proposal) (facts_of old) left is_of_use acted vain
  acted_left (input.Vote vote) old left batcher steps is_of_use acted vain =
      counted_left same elect bytes_of now acted.counted old.plan.steps.items (facts_of old) steps left is_of_use
      acted.followed vain
  acted_left (input.Certificate certificate) old left batcher steps is_of_use acted vain =
      handed_left same elect bytes_of now certificate (facts_of old) left is_of_use acted vain
  acted_left (input.Verified view is_valid) old left batcher steps is_of_use acted vain =
      verified_left same elect now is_valid view (facts_of old) left is_of_use acted vain
  acted_left (input.Built context payload) old left batcher steps is_of_use acted vain =
      block_left same elect now (list_any (is_asked_in same context) old.plan.builds.buildings.items) context.round.view
      payload (facts_of old) left is_of_use acted vain
  acted_left (input.Certified view success) old left batcher steps is_of_use acted vain =
      asked_left same elect now (task.Certified view success) (facts_of old) left is_of_use acted vain
  acted_left (input.GivenUp view reason) old left batcher steps is_of_use acted vain =
      asked_left same elect now (task.TriggerTimeout view reason) (facts_of old) left is_of_use acted vain

  -- one that was turned away
  turned_left : (what : Input S D K G C) (old new : Engine S L D K G C) → IsTurnedAway what old new
      → IsLeftByInput now what (facts_of old) (facts_of new)
  turned_left (input.Proposal from proposal) old new turned = ap facts_of turned.same
  turned_left (input.Vote vote) old new turned = ap facts_of turned
  turned_left (input.Certificate certificate) old new turned = ap facts_of turned
  turned_left (input.Verified view is_valid) old new turned = ap facts_of turned
  turned_left (input.Built context payload) old new turned = ap facts_of turned
  turned_left (input.Certified view success) old new turned = inl (ap facts_of turned)
  turned_left (input.GivenUp view reason) old new turned = inl (ap facts_of turned)

  -- what it leaves follows from how it was acted on
  taken : {E : Type 0} {is_signature : K → Subject D → G → Type 0} (what : Input S D K G C)
      (old new : Engine S L D K G C) (answer : Result Bool E)
      → Continues same elect bytes_of is_signature (subject_in bytes_of what) old.core new.core
      → TakesVotes (votes_of_input what) old.batcher new.batcher → KeepsVotes what old.batcher new.batcher
      → IsBackedInput same elect bytes_of is_signature (length (keys_of old.batcher.scheme)) what old.batcher old.core
      new.core
      → StaysBounded keys_of old.core old.batcher new.core new.batcher
      → IfOk answer (λ is_of_use. IsFalse is_of_use → HoldsAllTheSame old.batcher new.batcher)
      → OnOk answer (KeepsApplicationWork old new)
      → OnOk answer (IsCausedWith same elect bytes bytes_of now (input_causes bytes_of old.batcher what) old new)
      → (IsFalse (is_input_admitted bytes_of (facts_of old) what)
      → IfOk answer (λ is_of_use. IsFalse is_of_use × IsTurnedAway what old new))
      → (IsTrue (is_input_admitted bytes_of (facts_of old) what)
      → IfOk answer
      (IsActedOn same elect bytes_of IsMadeOf keys_of now what old (facts_of new) new.batcher new.plan.steps.items))
      → IsInputTaken same elect bytes bytes_of is_signature IsMadeOf keys_of now what old old new answer
  taken what old new answer went votes held backed bounded kept due_work provenance unadmitted acted = record {
    continues = went;
    votes = votes;
    held = held;
    backed = backed;
    dropped = both_ok answer (by_test (is_input_admitted bytes_of (facts_of old) what) refl) kept
        (λ is_of_use left same_votes vain. record { member = left vain; votes = same_votes vain });
    unadmitted = unadmitted;
    bounded = bounded;
    acted = acted;
    due_work = on_ok answer due_work (λ keeps.
        record {
          stays = keeps.stays;
          works = keeps.works;
          near = keeps.near;
          seen = keeps.seen;
          early = keeps.early;
          constants = keeps.constants;
        });
    ignored = not_counted answer due_work;
    provenance = provenance;
  }
    where
      not_counted : {E : Type 0} (r : Result Bool E) → OnOk r (KeepsApplicationWork old new)
          → IfOk r (λ is_of_use. new.plan.ignored ≡ cond is_of_use old.plan.ignored old.plan.ignored)
      not_counted (Ok true) keeps = keeps.ignored
      not_counted (Ok false) keeps = keeps.ignored
      not_counted (Err e) keeps = tt

      by_test : (b : Bool) → is_input_admitted bytes_of (facts_of old) what ≡ b
          → IfOk answer (λ is_of_use. IsFalse is_of_use → IsLeftByInput now what (facts_of old) (facts_of new))
      by_test true is = IfOk-weaker answer _ _
          (λ is_of_use did. acted_left what old (facts_of new) new.batcher new.plan.steps.items is_of_use did)
          (acted is)
      by_test false is = IfOk-weaker answer _ _ (λ is_of_use turned vain. turned_left what old new turned.1)
          (unadmitted is)

  -- an input of which no vote is taken
  pub taken_alone : {E : Type 0} {is_signature : K → Subject D → G → Type 0} (replied what : Input S D K G C)
      (old new : Engine S L D K G C) (answer : Result Bool E) → replied ≡ what
      → Continues same elect bytes_of is_signature (subject_in bytes_of what) old.core new.core
      → new.batcher ≡ old.batcher
      → IsBackedInput same elect bytes_of is_signature (length (keys_of old.batcher.scheme)) what old.batcher old.core
      new.core → OnOk answer (KeepsApplicationWork old new)
      → OnOk answer (IsCausedWith same elect bytes bytes_of now (input_causes bytes_of old.batcher what) old new)
      → (IsFalse (is_input_admitted bytes_of (facts_of old) what)
      → IfOk answer (λ is_of_use. IsFalse is_of_use × IsTurnedAway what old new))
      → (IsTrue (is_input_admitted bytes_of (facts_of old) what)
      → IfOk answer
      (IsActedOn same elect bytes_of IsMadeOf keys_of now what old (facts_of new) new.batcher new.plan.steps.items))
      → IsInputTaken same elect bytes bytes_of is_signature IsMadeOf keys_of now replied old old new answer
  taken_alone {is_signature = is_signature} replied what old new answer is went kept backed due_work provenance
      unadmitted
      acted =
      subst (λ input. IsInputTaken same elect bytes bytes_of is_signature IsMadeOf keys_of now input old old new answer)
      (sym is)
      (taken what old new answer went (takes_anyway (takes_same kept)) (keeps_votes what old.batcher new.batcher kept)
      backed (bounded_still keys_of went (takes_same kept))
      (always_ok answer (λ is_of_use vain. held_same old.batcher new.batcher kept)) due_work provenance unadmitted
      acted)

  -- a vote that is counted
  pub taken_counted : {E : Type 0} {is_signature : K → Subject D → G → Type 0}
      (law : (d e : D) → same d e ≡ true → d ≡ e) (vote : Vote D G) (old new : Engine S L D K G C)
      (answer : Result Bool E)
      (batcher : Batcher S D K G C) (counted : Counted S D K G C)
      → IsTrue (is_so (λ x. admits_votes x (subject_round vote.subject)) (facts_of old))
      → ((given : List (Vote D G)) → AreGiven given old.batcher → AreGiven (given ++ vote ∷ []) batcher)
      → ((highest : ℕ) → (true ≡ true → (1 ≤ subject_view vote.subject) × (subject_view vote.subject ≤ highest))
      → HoldsUpTo (length (keys_of old.batcher.scheme)) highest old.batcher
      → HoldsUpTo (length (keys_of old.batcher.scheme)) highest batcher)
      → batcher.scheme ≡ old.batcher.scheme
      → IsCounted same (IsMadeOf old.batcher.scheme) (length (keys_of old.batcher.scheme)) true old.batcher vote batcher
      counted
      → Continues same elect bytes_of is_signature (subject_made bytes_of counted) old.core new.core
      → new.batcher ≡ batcher
      → IfOk answer (IsCountFollowed same elect bytes_of now counted old.plan.steps.items (facts_of old)
      new.plan.steps.items (facts_of new))
      → OnOk answer (KeepsApplicationWork old new)
      → OnOk answer
      (IsCausedWith same elect bytes bytes_of now (input_causes bytes_of old.batcher (input.Vote vote)) old new)
      → IsInputTaken same elect bytes bytes_of is_signature IsMadeOf keys_of now (input.Vote vote) old old new answer
  taken_counted law vote old new answer batcher counted admits reply_causes within scheme counts went kept followed
      due_work provenance =
      let made = IsMadeOf old.batcher.scheme in
      let members = length (keys_of old.batcher.scheme) in
      taken (input.Vote vote) old new answer
      (goes_counted made members old.batcher batcher vote old.core new.core counted counts went)
      (takes_then (record { are_given = reply_causes; scheme = scheme }) (takes_same kept)) tt
      (backed_counted made members old.batcher batcher vote old.core new.core law reply_causes counted counts went)
      (bounded_further keys_of (bounded_counted keys_of old.core old.batcher batcher vote.subject within scheme admits)
      (bounded_still keys_of went (takes_same kept)))
      (IfOk-weaker answer _ _ (λ is_of_use follows vain. subst (HoldsAllTheSame old.batcher) (sym kept)
      (counted_same same elect bytes_of now made members old.batcher batcher vote counted old.plan.steps.items
      (facts_of old) new.plan.steps.items (facts_of new) is_of_use counts follows vain)) followed) due_work
      provenance
      (λ vain. absurd (false≢true (sym vain ∙ admits)))
      (λ _. IfOk-weaker answer _ _ (λ is_of_use follows. record {
        counted = counted;
        counts = subst (λ b. IsCounted same made members true old.batcher vote b counted) (sym kept) counts;
        followed = follows;
      }) followed)

  -- where it is not ignored, it was admitted
  pub taken_otherwise : {E : Type 0} {is_signature : K → Subject D → G → Type 0} (what : Input S D K G C)
      (old passed new : Engine S L D K G C) (answer : Result Bool E) → answer ≢ Ok false
      → IsInputTaken same elect bytes bytes_of is_signature IsMadeOf keys_of now what old old new answer
      → IsInputTaken same elect bytes bytes_of is_signature IsMadeOf keys_of now what old passed new answer
  taken_otherwise what old passed new answer otherwise turns = record {
    continues = turns.continues;
    votes = turns.votes;
    held = turns.held;
    backed = turns.backed;
    dropped = turns.dropped;
    unadmitted = λ vain. never _ _ answer otherwise (turns.unadmitted vain);
    bounded = turns.bounded;
    acted = turns.acted;
    due_work = turns.due_work;
    ignored = as_counted answer otherwise turns.ignored;
    provenance = turns.provenance;
  }
    where
      as_counted : {E : Type 0} (r : Result Bool E) → r ≢ Ok false
          → IfOk r (λ is_of_use. new.plan.ignored ≡ cond is_of_use old.plan.ignored old.plan.ignored)
          → IfOk r (λ is_of_use. new.plan.ignored ≡ cond is_of_use old.plan.ignored passed.plan.ignored)
      as_counted (Ok true) otherwise same = same
      as_counted (Ok false) otherwise same = absurd (otherwise refl)
      as_counted (Err e) otherwise same = tt

      never : {E : Type 0} (P Q : Bool → Type 0) (r : Result Bool E) → r ≢ Ok false
          → IfOk r (λ is_of_use. IsFalse is_of_use × P is_of_use) → IfOk r Q
      never P Q (Ok true) otherwise both = absurd (false≢true (sym both.0))
      never P Q (Ok false) otherwise both = absurd (otherwise refl)
      never P Q (Err e) otherwise both = tt

  turned_ignored : (what : Input S D K G C) (old new : Engine S L D K G C) → IsTurnedAway what old new
      → IsTurnedAway what (ignoring old) (ignoring new)
  turned_ignored (input.Proposal from proposal) old new turned =
      record { kept = turned.kept; same = ap ignoring turned.same }
  turned_ignored (input.Vote vote) old new turned = ap ignoring turned
  turned_ignored (input.Certificate certificate) old new turned = ap ignoring turned
  turned_ignored (input.Verified view is_valid) old new turned = ap ignoring turned
  turned_ignored (input.Built context payload) old new turned = ap ignoring turned
  turned_ignored (input.Certified view success) old new turned = ap ignoring turned
  turned_ignored (input.GivenUp view reason) old new turned = ap ignoring turned

  -- that it was not, which is counted
  pub taken_of_no_use : {E : Type 0} {is_signature : K → Subject D → G → Type 0} (what : Input S D K G C)
      (old mid new : Engine S L D K G C) (answer : Result Bool E) → answer ≡ Ok false → new ≡ ignoring mid
      → IsInputTaken same elect bytes bytes_of is_signature IsMadeOf keys_of now what old old mid answer
      → IsInputTaken {E = E} same elect bytes bytes_of is_signature IsMadeOf keys_of now what old (ignoring old) new
      (Ok false)
  taken_of_no_use {E = E} {is_signature = is_signature} what old mid new answer is ignored was =
      let taken = subst (IsInputTaken same elect bytes bytes_of is_signature IsMadeOf keys_of now what old old mid) is
      was in
      subst (λ engine. IsInputTaken {E = E} same elect bytes bytes_of is_signature IsMadeOf keys_of now what old
      (ignoring old) engine (Ok false)) (sym ignored)
      (record {
        continues = taken.continues;
        votes = taken.votes;
        held = taken.held;
        backed = taken.backed;
        dropped = λ vain. record { member = (taken.dropped vain).member; votes = (taken.dropped vain).votes };
        unadmitted = λ vain. (refl, turned_ignored what old mid (taken.unadmitted vain).1);
        bounded = taken.bounded;
        acted = taken.acted;
        due_work = record {
          stays = λ work replied.
              (let is = taken.due_work.stays work replied in
              record { verified = is.verified; certified = is.certified; built = is.built });
          works = taken.due_work.works;
          near = taken.due_work.near;
          seen = taken.due_work.seen;
          early = taken.due_work.early;
          constants = taken.due_work.constants;
        };
        ignored = ap one_more taken.ignored;
        provenance = record {
          steps = taken.provenance.steps;
          received = taken.provenance.received;
          by_steps = taken.provenance.by_steps;
          works = taken.provenance.works;
          asked = taken.provenance.asked;
        };
      })
