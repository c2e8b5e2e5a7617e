-- Each call of a lifetime keeps the voting rules, with the trace that it shows.
use Rattle.std.proofs.Common.{◌≡◌, refl, ap, sym, ◌∙◌, subst, ℕ, Bool, true, false, ◌&&◌, List, [], ◌∷◌, ◌++◌, Option, Some, None, is_some}
use Rattle.std.specs.Prelude.{option_map, option_and_then}
use Rattle.std.proofs.lemmas.Bool.{false≢true, true≢false}
use Rattle.std.proofs.lemmas.List.{append-nil}
use Rattle.simplex_types.specs.Certificates.{NullifyVote, FinalizeVote}
use Rattle.simplex_types.specs.declared.types.messages.Proposal.{Proposal}
use Rattle.simplex_types.specs.declared.types.messages.Subject.{Subject}
use Rattle.simplex_types.specs.declared.types.messages.Subject.TheVariants as subject
use Rattle.simplex_round.specs.Round.{is_nullify}
use Rattle.simplex_voter.specs.Facts.{StateFacts, Elect, round_of, round_number}
use Rattle.simplex_voter.specs.Rules.{may_nullify, may_finalize}
use Rattle.simplex_voter.specs.Votes.{nullify_answer, after_construct_nullify, finalize_answer, after_construct_finalize}
use Rattle.simplex_voter.proofs.Gaps.{and_parts}
use Rattle.simplex_voter.proofs.Rules.{nullify_parts, finalize_parts}
use Rattle.simplex_member.specs.Calls.{CallFacts, AddNotarization, AddNullification, AddFinalization, Certified, ConstructNullify, ConstructFinalize, BroadcastNotarization, BroadcastNullification, BroadcastFinalization, GetBestCertificate, Prune, Nullify, Finalize}
use Rattle.simplex_member.specs.CallSemantics.{nullify_vote, finalize_vote, answer, after_call}
use Rattle.simplex_member.specs.OutstandingWork.{OutstandingWork}
use Rattle.laws_safety.specs.Traces.{TraceEvent, Accepts, Signs, trace_of_call}
use Rattle.laws_safety.specs.Lawful.{IsLawful}
use Rattle.laws_safety.proofs.votes.ShownVotes.{ShowsVotesInLife}
use Rattle.laws_safety.proofs.frames.CallsOnWork.{is_work}
use Rattle.laws_safety.proofs.agreement.Lawful.{lawful_push}
use Rattle.laws_safety.proofs.votes.ShownVotesByCalls.{certified_stays, notarization_stays, nullification_stays, finalization_stays}
use Rattle.laws_safety.proofs.votes.ShownVotesBySteps.{plain_suits, stays_on}
use Rattle.simplex_record.proofs.Steps.{notarization_by, verdict_by, nullify_by, finalize_by}
use Rattle.simplex_record.specs.Events as event
use Rattle.simplex_record.specs.Events.{Event, after_event, finalized_by_event}
use Rattle.laws_safety.proofs.votes.ShownVotesByVotes.{nullify_allowed, nullify_decided, nullify_voted, finalize_allowed, finalize_decided, finalize_voted}

-- the invariant of each call of a lifetime: its trace is lawful, and its facts show it
pub record IsLawfulAndShown {K L D : Type 0} (term_length : ℕ) (trace : List (TraceEvent D))
    (x : StateFacts K L D) : Type 0 where
  pub lawful : IsLawful term_length trace
  pub stays : ShowsVotesInLife term_length trace x

pub none_follows : {A B : Type 0} (f : A → Option B) (o : Option A) → ((a : A) → f a ≡ None)
    → option_and_then f o ≡ None
none_follows f None no_value = refl
none_follows f (Some a) no_value = no_value a

module _ {K L D : Type 0} (elect : Elect L) (x : StateFacts K L D) (v : ℕ) where
  -- the vote in a reply

  pub nullify_silent : (is_some x.me && may_nullify x v) ≡ false → nullify_vote x v ≡ None
  nullify_silent no_vote = none_follows _ x.me (λ m. rw no_vote refl)

  pub nullify_replied : (m : ℕ) → x.me ≡ Some m → may_nullify x v ≡ true
      → nullify_vote x v ≡ Some (is_nullify (round_of x v).decision, NullifyVote (round_number x v) m)
  nullify_replied m me may =
      let votes : (is_some x.me && may_nullify x v) ≡ true = ap (λ b. b && may_nullify x v) (ap is_some me) ∙ may in
      ap (option_and_then (λ n. option_map (λ retry. (retry, NullifyVote (round_number x v) n)) (nullify_answer x v)))
      me
      ∙ rw votes refl

  pub finalize_silent : (is_some x.me && may_finalize elect x v) ≡ false → finalize_vote elect x v ≡ None
  finalize_silent no_vote = none_follows _ x.me (λ m. rw no_vote refl)

  pub finalize_replied : (m : ℕ) (h : Proposal D) → x.me ≡ Some m → may_finalize elect x v ≡ true
      → (round_of x v).slot.held ≡ Some h → finalize_vote elect x v ≡ Some (FinalizeVote h m)
  finalize_replied m h me may holds =
      let votes : (is_some x.me && may_finalize elect x v) ≡ true =
      ap (λ b. b && may_finalize elect x v) (ap is_some me) ∙ may in
      let answered : finalize_answer elect x v ≡ Some h = rw votes holds in
      ap (option_and_then (λ n. option_map (λ p. FinalizeVote p n) (finalize_answer elect x v))) me
      ∙ ap (option_map (λ p. FinalizeVote p m)) answered

pub no_key : (b : Bool) (o : Option ℕ) → o ≡ None → (is_some o && b) ≡ false
no_key b o none = rw none refl

pub no_rule : (b : Bool) (o : Option ℕ) → b ≡ false → (is_some o && b) ≡ false
no_rule b None no_vote = refl
no_rule b (Some m) no_vote = no_vote

module _ {K L D : Type 0} (elect : Elect L) (term_length : ℕ) (trace : List (TraceEvent D)) where
  -- the rules are kept with one more call that shows no event
  nothing_shown : (y : StateFacts K L D) → IsLawful term_length trace → ShowsVotesInLife term_length trace y
      → IsLawfulAndShown term_length (trace ++ []) y
  nothing_shown y lawful stays = subst (λ a. IsLawfulAndShown term_length a y) (sym (append-nil trace))
      (record { lawful = lawful; stays = stays })

  nullify_keeps : (x : StateFacts K L D) (v : ℕ) → IsLawfulAndShown term_length trace x
      → IsLawfulAndShown term_length (trace ++ trace_of_call {K = K} (ConstructNullify v) (Nullify (nullify_vote x v)))
      (after_construct_nullify x v)
  nullify_keeps x v keeps = by_rule (may_nullify x v) refl
    where
      by_key : (o : Option ℕ) → x.me ≡ o → may_nullify x v ≡ true
          → IsLawfulAndShown term_length (trace ++ trace_of_call {K = K} (ConstructNullify v)
          (Nullify (nullify_vote x v))) (after_construct_nullify x v)
      by_key None me may =
          let silent = nullify_silent elect x v (no_key (may_nullify x v) x.me me) in
          let keyless : is_some x.me ≡ false = ap is_some me in
          subst (λ o. IsLawfulAndShown term_length (trace ++ trace_of_call {K = K} (ConstructNullify v) (Nullify o))
          (after_construct_nullify x v)) (sym silent)
          (rw (may, keyless) (nothing_shown _ keeps.lawful
          (nullify_decided term_length trace x v keeps.stays (nullify_parts x v may))))
      by_key (Some m) me may =
          let replied = nullify_replied elect x v m me may in
          let keyed : is_some x.me ≡ true = ap is_some me in
          subst (λ o. IsLawfulAndShown term_length (trace ++ trace_of_call {K = K} (ConstructNullify v) (Nullify o))
          (after_construct_nullify x v)) (sym replied)
          (rw (may, keyed) (record {
            lawful = lawful_push term_length trace (Signs m (subject.Nullify (round_number x v))) keeps.lawful
                (nullify_allowed term_length trace x v keeps.stays (nullify_parts x v may));
            stays = nullify_voted term_length trace x v keeps.stays m (nullify_parts x v may);
          }))

      by_rule : (b : Bool) → may_nullify x v ≡ b
          → IsLawfulAndShown term_length (trace ++ trace_of_call {K = K} (ConstructNullify v)
          (Nullify (nullify_vote x v))) (after_construct_nullify x v)
      by_rule true may = by_key x.me refl may
      by_rule false may =
          let silent = nullify_silent elect x v (no_rule (may_nullify x v) x.me may) in
          subst (λ o. IsLawfulAndShown term_length (trace ++ trace_of_call {K = K} (ConstructNullify v) (Nullify o))
          (after_construct_nullify x v)) (sym silent)
          (rw may (nothing_shown x keeps.lawful keeps.stays))

  finalize_keeps : (x : StateFacts K L D) (v : ℕ) → IsLawfulAndShown term_length trace x
      → IsLawfulAndShown term_length (trace ++ trace_of_call {K = K} (ConstructFinalize v)
      (Finalize (finalize_vote elect x v))) (after_construct_finalize elect x v)
  finalize_keeps x v keeps = by_rule (may_finalize elect x v) refl
    where
      by_held : (m : ℕ) (o : Option (Proposal D)) → (round_of x v).slot.held ≡ o → x.me ≡ Some m
          → may_finalize elect x v ≡ true → IsLawfulAndShown term_length
          (trace ++ trace_of_call {K = K} (ConstructFinalize v) (Finalize (finalize_vote elect x v)))
          (after_construct_finalize elect x v)
      by_held m None holds me may =
          let alone = (and_parts (is_some (round_of x v).slot.held) _ (finalize_parts elect x v may).unequivocated).0 in
          absurd (false≢true (sym (ap is_some holds) ∙ alone))
      by_held m (Some h) holds me may =
          let replied = finalize_replied elect x v m h me may holds in
          subst (λ o. IsLawfulAndShown term_length (trace ++ trace_of_call {K = K} (ConstructFinalize v) (Finalize o))
          (after_construct_finalize elect x v)) (sym replied)
          (rw may (record {
            lawful = lawful_push term_length trace (Signs m (subject.Finalize h)) keeps.lawful
                (finalize_allowed term_length trace x v keeps.stays elect h (finalize_parts elect x v may) holds);
            stays = finalize_voted term_length trace x v keeps.stays elect h m (finalize_parts elect x v may) holds;
          }))

      by_key : (o : Option ℕ) → x.me ≡ o → may_finalize elect x v ≡ true
          → IsLawfulAndShown term_length (trace ++ trace_of_call {K = K} (ConstructFinalize v)
          (Finalize (finalize_vote elect x v))) (after_construct_finalize elect x v)
      by_key None me may =
          let silent = finalize_silent elect x v (no_key (may_finalize elect x v) x.me me) in
          subst (λ o. IsLawfulAndShown term_length (trace ++ trace_of_call {K = K} (ConstructFinalize v) (Finalize o))
          (after_construct_finalize elect x v)) (sym silent)
          (rw may (nothing_shown _ keeps.lawful
          (finalize_decided term_length trace x v keeps.stays elect (finalize_parts elect x v may))))
      by_key (Some m) me may = by_held m (round_of x v).slot.held refl me may

      by_rule : (b : Bool) → may_finalize elect x v ≡ b
          → IsLawfulAndShown term_length (trace ++ trace_of_call {K = K} (ConstructFinalize v)
          (Finalize (finalize_vote elect x v))) (after_construct_finalize elect x v)
      by_rule true may = by_key x.me refl may
      by_rule false may =
          let silent = finalize_silent elect x v (no_rule (may_finalize elect x v) x.me may) in
          subst (λ o. IsLawfulAndShown term_length (trace ++ trace_of_call {K = K} (ConstructFinalize v) (Finalize o))
          (after_construct_finalize elect x v)) (sym silent)
          (rw may (nothing_shown x keeps.lawful keeps.stays))

module _ {K L D : Type 0} (same : D → D → Bool) (decides : (d e : D) → same d e ≡ true → d ≡ e) (elect : Elect L)
    (term_length : ℕ) (trace : List (TraceEvent D)) (x : StateFacts K L D)
    (keeps : IsLawfulAndShown term_length trace x) where
  accepts : (certificate : Subject D) → IsLawful term_length (trace ++ Accepts certificate ∷ [])
  accepts certificate = lawful_push term_length trace (Accepts certificate) keeps.lawful tt

  shows_nothing : (y : StateFacts K L D) → ShowsVotesInLife term_length trace y
      → IsLawfulAndShown term_length (trace ++ []) y
  shows_nothing y stays = nothing_shown elect term_length trace y keeps.lawful stays

  -- an event with no certificate, no verdict and no vote
  quiet : (e : Event K D) → notarization_by e ≡ None → finalized_by_event e ≡ 0 → verdict_by e ≡ None
      → nullify_by e ≡ None → finalize_by e ≡ None
      → IsLawfulAndShown term_length (trace ++ []) (after_event same elect x e)
  quiet e notarization final verdict nullify finalize =
      shows_nothing (after_event same elect x e)
      (stays_on same decides elect term_length trace x e
      (plain_suits trace _ x e notarization final nullify finalize (λ v says. absurd (cc))) keeps.stays)

  -- a call that is allowed and not refused, and not on the work of a view
  pub call_keeps : (o : OutstandingWork K D) (call : CallFacts D) → is_work call ≡ false
      → IsLawfulAndShown term_length (trace ++ trace_of_call call (answer same elect x o call))
      (after_call same elect x o call)
  call_keeps o (AddNotarization c) plain = record {
    lawful = accepts (subject.Notarize c.proposal);
    stays = notarization_stays same decides elect term_length trace x keeps.stays c;
  }
  call_keeps o (AddNullification c now) plain =
      record {
        lawful = accepts (subject.Nullify c.round);
        stays = nullification_stays same decides elect term_length trace x keeps.stays c now;
      }
  call_keeps o (AddFinalization c now) plain =
      record {
        lawful = accepts (subject.Finalize c.proposal);
        stays = finalization_stays same decides elect term_length trace x keeps.stays c now;
      }
  call_keeps o (Certified v success now) plain =
      shows_nothing _ (certified_stays same decides elect term_length trace x keeps.stays v success now)
  call_keeps o (ConstructNullify v) plain = nullify_keeps elect term_length trace x v keeps
  call_keeps o (ConstructFinalize v) plain = finalize_keeps elect term_length trace x v keeps
  call_keeps o (BroadcastNotarization v) plain = quiet (event.BroadcastNotarization v) refl refl refl refl refl
  call_keeps o (BroadcastNullification v) plain = quiet (event.BroadcastNullification v) refl refl refl refl refl
  call_keeps o (BroadcastFinalization v) plain = quiet (event.BroadcastFinalization v) refl refl refl refl refl
  call_keeps o GetBestCertificate plain = shows_nothing x keeps.stays
  call_keeps o Prune plain = quiet event.Prune refl refl refl refl refl
  call_keeps o _ plain = absurd (true≢false plain)
