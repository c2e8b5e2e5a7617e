-- What a call does to what was led to: its event, what the record grows by, and the vote that it answers.
use Rattle.std.proofs.Common.{◌≡◌, refl, ap, sym, ◌∙◌, subst, ℕ, Bool, true, false, ◌&&◌, not, if◌then◌else◌, List, [], ◌∷◌, ◌++◌, Contains, Option, Some, None, is_some, unwrap_or, arith}
use Rattle.std.specs.Prelude.{◌==◌, option_and_then, option_map}
use Rattle.std.specs.Option.{option_map_or}
use Rattle.std.proofs.lemmas.Bool.{false≢true, eqb-true}
use Rattle.std.proofs.lemmas.List.Elements.{Contains-append_right}
use Rattle.simplex_types.specs.Certificates.{ProposalFacts, ArtifactFacts, NotarizeVote, NullifyVote, FinalizeVote, Verdict}
use Rattle.simplex_types.specs.declared.types.messages.Context.{Context}
use Rattle.simplex_types.specs.declared.types.messages.Proposal.{Proposal}
use Rattle.simplex_types.specs.declared.types.messages.Subject.{Subject}
use Rattle.simplex_types.specs.declared.types.messages.Subject.TheVariants as subject
use Rattle.simplex_types.specs.declared.types.numbers.Round.{Round}
use Rattle.simplex_round.specs.Round.{RoundFacts, new_round, is_judged}
use Rattle.simplex_voter.specs.Certification.{takes_verdict, is_first_verdict, certified_answer}
use Rattle.simplex_voter.specs.Facts.{StateFacts, Elect, round_at, round_of, round_number, is_tracked}
use Rattle.simplex_voter.specs.Refusals.{is_started}
use Rattle.simplex_voter.specs.Rules.{may_nullify}
use Rattle.simplex_voter.specs.Votes.{notarize_answer, finalize_answer}
use Rattle.simplex_voter.proofs.Gaps.{and_parts}
use Rattle.simplex_voter.proofs.Rules.{nullify_parts}
use Rattle.simplex_member.specs.CallConditions.{is_allowed}
use Rattle.simplex_member.specs.Calls as calls
use Rattle.simplex_member.specs.Calls.{CallFacts, Notarize, Nullify, Finalize, Judged}
use Rattle.simplex_member.specs.CallSemantics.{answer, after_call, recorded_by, if_new, vote_entry, unrepeated_vote, nullify_vote}
use Rattle.simplex_member.specs.OutstandingWork.{OutstandingWork, context_at}
use Rattle.laws_safety.specs.Traces.{TraceEvent, Accepts, Signs, signed_in, trace_of_call}
use Rattle.simplex_record.specs.Events as event
use Rattle.simplex_record.specs.Events.{Event}
use Rattle.simplex_member.specs.Events.{in_context, events_of}
use Rattle.laws_safety.specs.Lawful.{HasSigned}
use Rattle.laws_safety.proofs.frames.CallsMake.{call_by_event}
use Rattle.laws_safety.proofs.lists.Signed.{signed_none, only_signed}
use Rattle.laws_safety.proofs.votes.LifeCalls.{nullify_silent, nullify_replied, no_key, no_rule}
use Rattle.laws_safety.proofs.lists.Splits.{only_one}
use Rattle.laws_progress.specs.ViewCauses.{IsLedTo, judged_by, HasJudged}
use Rattle.laws_progress.proofs.runs.Brought.{BringsAccepted, brings_nothing}
use Rattle.laws_progress.proofs.runs.Led.{Led, event_led, state_more}

-- no vote is an entry of a verdict, and none but one to nullify signs that

module _ {D : Type 0} (success : Bool) (round : Round) where
  no_verdict_noted : (o : Option ℕ) (a : Option (Proposal D))
      → Contains (vote_entry (option_and_then (λ m. option_map (λ p. NotarizeVote p m) a) o)) (Verdict round success)
      → ⊥
  no_verdict_noted None a h = omega (arith, h.1)
  no_verdict_noted (Some m) None h = omega (arith, h.1)
  no_verdict_noted (Some m) (Some p) h = let e = only_one _ _ h in cc

  no_verdict_finalized : (o : Option ℕ) (a : Option (Proposal D))
      → Contains (vote_entry (option_and_then (λ m. option_map (λ p. FinalizeVote p m) a) o)) (Verdict round success)
      → ⊥
  no_verdict_finalized None a h = omega (arith, h.1)
  no_verdict_finalized (Some m) None h = omega (arith, h.1)
  no_verdict_finalized (Some m) (Some p) h = let e = only_one _ _ h in cc

  no_verdict_nullified : (o : Option ℕ) (r : Round) (a : Option Bool)
      → Contains (unrepeated_vote (option_and_then {U = Bool × ArtifactFacts D}
      (λ m. option_map (λ retry. (retry, NullifyVote r m)) a) o)) (Verdict round success) → ⊥
  no_verdict_nullified None r a h = omega (arith, h.1)
  no_verdict_nullified (Some m) r None h = omega (arith, h.1)
  no_verdict_nullified (Some m) r (Some true) h = omega (arith, h.1)
  no_verdict_nullified (Some m) r (Some false) h = let e = only_one _ _ h in cc

  no_certificate_verdict : (b : Bool) (a : ArtifactFacts D) → (a ≡ Verdict round success → ⊥)
      → Contains (if_new b a) (Verdict round success) → ⊥
  no_certificate_verdict true a apart h = apart (only_one _ _ h)
  no_certificate_verdict false a apart h = omega (arith, h.1)

module _ {D : Type 0} (round : Round) where
  no_nullify_noted : (K : Type 0) (o : Option ℕ) (a : Option (Proposal D))
      → HasSigned (signed_in {K = K} (Notarize (option_and_then (λ m. option_map (λ p. NotarizeVote p m) a) o)))
      (subject.Nullify round) → ⊥
  no_nullify_noted K None a h = signed_none (subject.Nullify round) h
  no_nullify_noted K (Some m) None h = signed_none (subject.Nullify round) h
  no_nullify_noted K (Some m) (Some p) h = let e =
      only_signed (Signs m (subject.Notarize p)) (subject.Nullify round) h in cc

  no_nullify_finalized : (K : Type 0) (o : Option ℕ) (a : Option (Proposal D))
      → HasSigned (signed_in {K = K} (Finalize (option_and_then (λ m. option_map (λ p. FinalizeVote p m) a) o)))
      (subject.Nullify round) → ⊥
  no_nullify_finalized K None a h = signed_none (subject.Nullify round) h
  no_nullify_finalized K (Some m) None h = signed_none (subject.Nullify round) h
  no_nullify_finalized K (Some m) (Some p) h = let e =
      only_signed (Signs m (subject.Finalize p)) (subject.Nullify round) h in cc

module _ {K L D : Type 0} (same : D → D → Bool) (decides : (d e : D) → same d e ≡ true → d ≡ e) (elect : Elect L)
    (term_length : ℕ) (trace : List (TraceEvent D)) (verdicts : List (Bool × Proposal D)) (x : StateFacts K L D)
    (led : Led term_length trace verdicts x) (o : OutstandingWork K D) where
  abbrev more : CallFacts D → List (TraceEvent D)
  more call = trace ++ trace_of_call call (answer same elect x o call)

  abbrev others : CallFacts D → List (Bool × Proposal D)
  others call = verdicts ++ judged_by (answer same elect x o call)

  epoch : ℕ
  epoch = x.settings.epoch

  -- a verdict is received with the notarization that was stored
  judged_replied : (v now : ℕ) (success : Bool) → takes_verdict x v success ≡ true → is_tracked x v ≡ true
      → HasJudged success x.settings.epoch (others (calls.Certified v success now)) v
  judged_replied v now success takes tracked = by_round (round_at x v) refl (and_parts (is_started x) _ takes).1 tracked
    where
      by_notarization : (r : RoundFacts K D) (n : Option (ProposalFacts D)) → round_at x v ≡ Some r → r.notarization ≡ n
          → is_some n ≡ true → HasJudged success x.settings.epoch (others (calls.Certified v success now)) v
      by_notarization r None at is some = absurd (false≢true some)
      by_notarization r (Some c) at is some =
          let replied : certified_answer x v ≡ Some c = ap (option_and_then (λ (q : RoundFacts K D). q.notarization)) at
          ∙ is in
          let there : (round_of x v).notarization ≡ Some c =
          ap (λ f. (unwrap_or f (new_round x.me x.members (round_number x v))).notarization) at ∙ is in (
            c.proposal,
            subst (λ a. Contains (verdicts ++ judged_by {K = K} (Judged success a)) (success, c.proposal)) (sym replied)
                (Contains-append_right verdicts ((success, c.proposal) ∷ []) (success, c.proposal)
                (0, omega arith, refl)),
            (led.rounds.notarized v c there).0,
          )

      by_round : (f : Option (RoundFacts K D)) → round_at x v ≡ f
          → option_map_or (λ r. is_some r.notarization && not (is_judged (not success) r.certification)) f true ≡ true
          → is_some f ≡ true → HasJudged success x.settings.epoch (others (calls.Certified v success now)) v
      by_round None at takes some = absurd (false≢true some)
      by_round (Some r) at takes some = by_notarization r r.notarization at refl
          (and_parts (is_some r.notarization) _ takes).0

  -- its event

  abbrev AllBringAccepted : CallFacts D → List (Event K D) → Type 0
  AllBringAccepted call [] = Unit {0}
  AllBringAccepted call (e ∷ rest) = BringsAccepted x.settings.epoch (more call) (others call) x e

  in_context_brings : (call : CallFacts D) (f : Context D K → Event K D)
      → ((c : Context D K) → BringsAccepted x.settings.epoch (more call) (others call) x (f c))
      → (c : Option (Context D K)) → AllBringAccepted call (in_context f c)
  in_context_brings call f each None = tt
  in_context_brings call f each (Some c) = each c

  call_brings : (call : CallFacts D) → is_allowed x o call ≡ true → AllBringAccepted call (events_of o call)
  call_brings (calls.AddNotarization c) allowed = record {
    notarized = λ d is. (let one : c ≡ d = cc in
        subst (λ (f : ProposalFacts D). Contains (more (calls.AddNotarization c))
        (Accepts (subject.Notarize f.proposal))) one (Contains-append_right trace _ _ (0, omega arith, refl)));
    nullified = λ d is. absurd (cc);
    finalized = λ d is. absurd (cc);
    judged = λ v success is. absurd (false≢true (ap is_some is));
  }
  call_brings (calls.AddNullification c now) allowed = record {
    notarized = λ d is. absurd (cc);
    nullified = λ d is. (let one : c ≡ d = cc in
        subst (λ f. Contains (more (calls.AddNullification c now)) (Accepts (subject.Nullify f.round))) one
        (Contains-append_right trace _ _ (0, omega arith, refl)));
    finalized = λ d is. absurd (cc);
    judged = λ v success is. absurd (false≢true (ap is_some is));
  }
  call_brings (calls.AddFinalization c now) allowed = record {
    notarized = λ d is. absurd (cc);
    nullified = λ d is. absurd (cc);
    finalized = λ d is. (let one : c ≡ d = cc in
        subst (λ (f : ProposalFacts D). Contains (more (calls.AddFinalization c now))
        (Accepts (subject.Finalize f.proposal))) one (Contains-append_right trace _ _ (0, omega arith, refl)));
    judged = λ v success is. absurd (false≢true (ap is_some is));
  }
  call_brings (calls.Certified v success now) allowed = record {
    notarized = λ d is. absurd (cc);
    nullified = λ d is. absurd (cc);
    finalized = λ d is. absurd (cc);
    judged = λ w replied is. by_view w replied (w == v) refl (is_tracked x v) refl is;
  }
    where
      by_view : (w : ℕ) (replied : Bool) (a : Bool) → (w == v) ≡ a → (b : Bool) → is_tracked x v ≡ b
          → (if a && b then Some success else None) ≡ Some replied
          → HasJudged replied x.settings.epoch (others (calls.Certified v success now)) w
      by_view w replied true at true tracked is =
          let one : success ≡ replied = ap (λ f. unwrap_or f replied) is in
          subst (λ s. HasJudged s x.settings.epoch (others (calls.Certified v success now)) w) one
          (subst (HasJudged success x.settings.epoch (others (calls.Certified v success now)))
          (sym (eqb-true w v at)) (judged_replied v now success allowed tracked))
      by_view w replied true at false tracked is = absurd (false≢true (ap is_some is))
      by_view w replied false at b tracked is = absurd (false≢true (ap is_some is))
  call_brings (calls.Proposed v payload now) allowed =
      in_context_brings (calls.Proposed v payload now) (λ c. event.Proposed c payload now)
      (λ c. brings_nothing _ _ _ x (event.Proposed c payload now) refl refl refl (λ w. refl)) (context_at o v)
  call_brings (calls.SupersedeProposalRequest v) allowed =
      in_context_brings (calls.SupersedeProposalRequest v) event.Supersede
      (λ c. brings_nothing _ _ _ x (event.Supersede c) refl refl refl (λ w. refl)) (context_at o v)
  call_brings (calls.PendingHandoffAbandonment v) allowed = tt
  call_brings calls.GetBestCertificate allowed = tt
  call_brings call allowed = brings_nothing _ _ _ x _ refl refl refl (λ w. refl)

  pub call_led : (call : CallFacts D) → is_allowed x o call ≡ true
      → Led term_length (more call) (others call) (after_call same elect x o call)
  call_led call allowed =
      let here = state_more trace _ verdicts _ term_length x led in
      call_by_event same elect x o (λ es y. AllBringAccepted call es → Led term_length (more call) (others call) y)
      (λ none. here) (λ e is_event not_floor brings.
      event_led same decides elect term_length (more call) (others call) x e is_event brings here) call allowed
      (call_brings call allowed)

  -- what the record grows by

  first_tracked : (v : ℕ) → is_first_verdict x v ≡ true → is_tracked x v ≡ true
  first_tracked v is = by_round (round_at x v) is
    where
      by_round : (f : Option (RoundFacts K D))
          → option_map_or (λ r. not (is_judged true r.certification) && not (is_judged false r.certification)) f
          false ≡ true → is_some f ≡ true
      by_round None is = absurd (false≢true is)
      by_round (Some r) is = refl

  pub recorded_verdict : (call : CallFacts D) → is_allowed x o call ≡ true → (success : Bool) (round : Round)
      → Contains (recorded_by same elect x call) (Verdict round success)
      → HasJudged success round.epoch (others call) round.view
  recorded_verdict (calls.Certified v given now) allowed success round h = by_first (is_first_verdict x v) refl h
    where
      by_first : (b : Bool) → is_first_verdict x v ≡ b
          → Contains (if_new {D = D} b (Verdict (round_number x v) given)) (Verdict round success)
          → HasJudged success round.epoch (others (calls.Certified v given now)) round.view
      by_first true first h =
          let e : Verdict (round_number x v) given ≡ Verdict round success = only_one _ _ h in
          let same_round : round_number x v ≡ round = cc in
          let same_verdict : given ≡ success = cc in
          subst (λ s. HasJudged s round.epoch (others (calls.Certified v given now)) round.view) same_verdict
          (subst (λ (r : Round). HasJudged given r.epoch (others (calls.Certified v given now)) r.view) same_round
          (judged_replied v now given allowed (first_tracked v first)))
      by_first false later h = absurd (omega (arith, h.1))
  recorded_verdict (calls.AddNotarization c) allowed success round h =
      absurd (no_certificate_verdict success round _ _ (λ e. cc) h)
  recorded_verdict (calls.AddNullification c now) allowed success round h =
      absurd (no_certificate_verdict success round _ _ (λ e. cc) h)
  recorded_verdict (calls.AddFinalization c now) allowed success round h =
      absurd (no_certificate_verdict success round _ _ (λ e. cc) h)
  recorded_verdict (calls.ConstructNotarize v) allowed success round h =
      absurd (no_verdict_noted success round x.me (notarize_answer same elect x v) h)
  recorded_verdict (calls.ConstructNullify v) allowed success round h =
      absurd (no_verdict_nullified success round x.me (round_number x v) _ h)
  recorded_verdict (calls.ConstructFinalize v) allowed success round h =
      absurd (no_verdict_finalized success round x.me (finalize_answer elect x v) h)
  recorded_verdict _ allowed success round h = absurd (omega (arith, h.1))

  -- the vote that it answers

  nullified_current : (v : ℕ) (round : Round)
      → HasSigned (signed_in {K = K} (Nullify (nullify_vote x v))) (subject.Nullify round)
      → IsLedTo term_length round.epoch trace verdicts round.view
  nullified_current v round h = by_rule (may_nullify x v) refl
    where
      silent : nullify_vote x v ≡ None → IsLedTo term_length round.epoch trace verdicts round.view
      silent none = absurd (signed_none (subject.Nullify round)
          (subst (λ (a : Option (Bool × ArtifactFacts D)).
          HasSigned (signed_in {K = K} (Nullify a)) (subject.Nullify round)) none h))

      by_key : (m : Option ℕ) → x.me ≡ m → may_nullify x v ≡ true
          → IsLedTo term_length round.epoch trace verdicts round.view
      by_key None me may = silent (nullify_silent elect x v (no_key (may_nullify x v) x.me me))
      by_key (Some m) me may =
          let signs = subst (λ (a : Option (Bool × ArtifactFacts D)).
          HasSigned (signed_in {K = K} (Nullify a)) (subject.Nullify round)) (nullify_replied elect x v m me may) h in
          let e = only_signed (Signs m (subject.Nullify (round_number x v))) (subject.Nullify round) signs in
          let same_round : round_number x v ≡ round = cc in
          subst (λ (r : Round). IsLedTo term_length r.epoch trace verdicts r.view) same_round
          (subst (IsLedTo term_length x.settings.epoch trace verdicts) (sym (nullify_parts x v may).current)
          led.reached)

      by_rule : (b : Bool) → may_nullify x v ≡ b → IsLedTo term_length round.epoch trace verdicts round.view
      by_rule true may = by_key x.me refl may
      by_rule false barred = silent (nullify_silent elect x v (no_rule (may_nullify x v) x.me barred))

  accepts_none : (c : Subject D) (round : Round) → HasSigned (Accepts c ∷ []) (subject.Nullify round) → ⊥
  accepts_none c round h = let e = only_signed (Accepts c) (subject.Nullify round) h in cc

  pub answered_vote : (call : CallFacts D) (round : Round)
      → HasSigned (trace_of_call call (answer same elect x o call)) (subject.Nullify round)
      → IsLedTo term_length round.epoch trace verdicts round.view
  answered_vote (calls.ConstructNullify v) round h = nullified_current v round h
  answered_vote (calls.ConstructNotarize v) round h =
      absurd (no_nullify_noted round K x.me (notarize_answer same elect x v) h)
  answered_vote (calls.ConstructFinalize v) round h =
      absurd (no_nullify_finalized round K x.me (finalize_answer elect x v) h)
  answered_vote (calls.AddNotarization c) round h = absurd (accepts_none _ round h)
  answered_vote (calls.AddNullification c now) round h = absurd (accepts_none _ round h)
  answered_vote (calls.AddFinalization c now) round h = absurd (accepts_none _ round h)
  answered_vote _ round h = absurd (signed_none (subject.Nullify round) h)

  -- what it judges was notarized
  replied_notarized : (v : ℕ) (given success : Bool) (p : Proposal D)
      → Contains (judged_by {K = K} (Judged given (certified_answer x v))) (success, p)
      → Contains trace (Accepts (subject.Notarize p))
  replied_notarized v given success p h = by_round (round_at x v) refl h
    where
      by_notarization : (r : RoundFacts K D) (n : Option (ProposalFacts D)) → round_at x v ≡ Some r → r.notarization ≡ n
          → Contains (judged_by {K = K} (Judged given n)) (success, p) → Contains trace (Accepts (subject.Notarize p))
      by_notarization r None at is h = absurd (omega (arith, h.1))
      by_notarization r (Some c) at is h =
          let there : (round_of x v).notarization ≡ Some c =
          ap (λ f. (unwrap_or f (new_round x.me x.members (round_number x v))).notarization) at ∙ is in
          subst (λ q. Contains trace (Accepts (subject.Notarize q)))
          (ap (λ (e : Bool × Proposal D). e.1) (only_one _ _ h)) (led.rounds.notarized v c there).1

      by_round : (f : Option (RoundFacts K D)) → round_at x v ≡ f
          → Contains (judged_by {K = K} (Judged given (option_and_then (λ (q : RoundFacts K D). q.notarization) f)))
          (success, p) → Contains trace (Accepts (subject.Notarize p))
      by_round None at h = absurd (omega (arith, h.1))
      by_round (Some r) at h = by_notarization r r.notarization at refl h

  pub judged_notarized : (call : CallFacts D) (success : Bool) (p : Proposal D)
      → Contains (judged_by (answer same elect x o call)) (success, p) → Contains trace (Accepts (subject.Notarize p))
  judged_notarized (calls.Certified v given now) success p h = replied_notarized v given success p h
  judged_notarized _ success p h = absurd (omega (arith, h.1))
