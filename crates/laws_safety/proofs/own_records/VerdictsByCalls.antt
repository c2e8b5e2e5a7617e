-- The notarizations and verdicts of its record that a state's facts show, also after calls on the work of a view, which
-- keep the verdicts
-- and record none.
use Rattle.std.proofs.Common.{unwrap_or, ◌++◌, ◌≡◌, refl, ap, sym, subst, ℕ, List, [], ◌∷◌, Bool, true, false, Option, Some, None, is_some}
use Rattle.std.proofs.lemmas.Bool.{false≢true}
use Rattle.simplex_types.specs.declared.types.messages.Proposal.{Proposal}
use Rattle.simplex_voter.specs.Facts.{StateFacts, Elect}
use Rattle.std.specs.Prelude.{option_map, option_and_then}
use Rattle.simplex_types.specs.Certificates.{ArtifactFacts, NotarizeVote, Verdict}
use Rattle.simplex_types.specs.declared.types.messages.Subject.TheVariants as subject
use Rattle.simplex_voter.specs.Votes.{notarize_answer}
use Rattle.simplex_member.specs.CallConditions.{is_allowed}
use Rattle.simplex_member.specs.Calls.{CallFacts, ConstructNotarize, Notarize}
use Rattle.simplex_member.specs.OutstandingWork.{OutstandingWork}
use Rattle.simplex_member.specs.CallSemantics.{notarize_vote, vote_entry, answer, after_call, recorded_by}
use Rattle.laws_safety.specs.Traces.{TraceEvent, Signs, signed_in, trace_of_call}
use Rattle.laws_safety.specs.Lawful.{HasSigned}
use Rattle.laws_safety.proofs.lists.Signed.{signed_last}
use Rattle.laws_safety.proofs.frames.CallsOnWork.{is_work, is_silent}
use Rattle.laws_safety.proofs.records.CallsKeepRules.{silent_trace, silent_record}
use Rattle.laws_safety.proofs.own_records.Recorded.{HasNoVerdict, quiet_none, no_verdict, own_quiet, own_silent}
use Rattle.laws_safety.proofs.frames.CallsMake.{AreSilent, work_silent, call_by_event}
use Rattle.laws_safety.proofs.own_records.ShownVerdicts.{TellsVerdicts, shows_more, quiet_shows, plain_replied}
use Rattle.laws_safety.proofs.own_records.Verdicts.{ShowsVerdicts}
use Rattle.laws_safety.proofs.lists.Splits.{only_one}

module _ {K L D : Type 0} (same : D → D → Bool) (elect : Elect L) (trace : List (TraceEvent D))
    (entries : List (ArtifactFacts D)) (x : StateFacts K L D) (o : OutstandingWork K D)
    (tells : TellsVerdicts trace entries x) where
  -- what is shown after a call, whatever it records except a verdict
  abbrev pub Left : StateFacts K L D → Type 0
  Left y = (new : List (ArtifactFacts D)) → HasNoVerdict new → ShowsVerdicts (entries ++ new) y

  work_left : (call : CallFacts D) → is_work call ≡ true → is_allowed x o call ≡ true
      → Left (after_call same elect x o call)
  work_left call work allowed =
      call_by_event same elect x o (λ es y. AreSilent es → Left y)
      (λ silent new none. shows_more entries new x none tells.shows)
      (λ e takes none silent new nothing. quiet_shows same elect trace entries x tells new e takes silent.0.notarization
      silent.0.verdict nothing) call allowed (work_silent o call work)

  -- a vote to notarize that is recorded is cast
  notarize_replied : (call : CallFacts D) (vote : Option (ArtifactFacts D)) → Left (after_call same elect x o call)
      → ((e : ArtifactFacts D) → vote ≡ Some e → (p : Proposal D) × (m : ℕ) × (e ≡ NotarizeVote p m))
      → TellsVerdicts (trace ++ signed_in {K = K} (Notarize vote)) (entries ++ vote_entry vote)
      (after_call same elect x o call)
  notarize_replied call None left is = record {
    own = own_quiet trace entries tells.own [] [] quiet_none;
    shows = left [] (no_verdict [] quiet_none);
  }
  notarize_replied call (Some e) left is =
      let one = is e refl in
      subst (λ f. TellsVerdicts (trace ++ signed_in {K = K} (Notarize (Some f))) (entries ++ f ∷ [])
      (after_call same elect x o call)) (sym one.2) (recorded one.0 one.1)
    where
      recorded : (p : Proposal D) (m : ℕ) → TellsVerdicts (trace ++ Signs m (subject.Notarize p) ∷ [])
          (entries ++ NotarizeVote p m ∷ []) (after_call same elect x o call)
      recorded p m =
          let new : List (ArtifactFacts D) = NotarizeVote p m ∷ [] in
          let silent : HasNoVerdict new = λ round success h.
          (let f = only_one (NotarizeVote p m) (Verdict round success) h in cc) in
          record {
            own = own_silent trace entries tells.own (Signs m (subject.Notarize p) ∷ []) new silent (λ q n h.
                (let f = only_one (NotarizeVote p m) (NotarizeVote q n) h in
                let same_proposal_cast : p ≡ q = cc in
                subst (λ (k : Proposal D). HasSigned (trace ++ Signs m (subject.Notarize p) ∷ []) (subject.Notarize k))
                same_proposal_cast (signed_last trace m (subject.Notarize p))));
            shows = left new silent;
          }

  is_notarize : (v : ℕ) (e : ArtifactFacts D) → notarize_vote same elect x v ≡ Some e
      → (p : Proposal D) × (m : ℕ) × (e ≡ NotarizeVote p m)
  is_notarize v e is = by_key x.me (notarize_answer same elect x v) is
    where
      by_key : (k : Option ℕ) (a : Option (Proposal D))
          → option_and_then (λ m. option_map (λ p. NotarizeVote p m) a) k ≡ Some e
          → (p : Proposal D) × (m : ℕ) × (e ≡ NotarizeVote p m)
      by_key None a none = absurd (false≢true (ap is_some none))
      by_key (Some m) None none = absurd (false≢true (ap is_some none))
      by_key (Some m) (Some p) replied = (p, m, sym (ap (λ f. unwrap_or f e) replied))

  abbrev pub CallTells : CallFacts D → Type 0
  CallTells call = TellsVerdicts (trace ++ trace_of_call call (answer same elect x o call))
      (entries ++ recorded_by same elect x call) (after_call same elect x o call)

  -- each call that is allowed and not refused
  pub call_replied : (call : CallFacts D) → is_allowed x o call ≡ true → CallTells call
  call_replied call allowed = by_kind (is_work call) refl
    where
      by_silence : (w : CallFacts D) (b : Bool) → is_silent w ≡ b → is_work w ≡ true
          → Left (after_call same elect x o w) → CallTells w
      by_silence w true silent work left =
          let y = after_call same elect x o w in
          subst (λ a. TellsVerdicts (trace ++ a) (entries ++ recorded_by same elect x w) y)
          (sym (silent_trace same elect x o w silent))
          (subst (λ es. TellsVerdicts (trace ++ []) (entries ++ es) y) (sym (silent_record same elect x o w silent))
          (record
          { own = own_quiet trace entries tells.own [] [] quiet_none; shows = left [] (no_verdict [] quiet_none) }))
      by_silence (ConstructNotarize v) false loud work left =
          notarize_replied (ConstructNotarize v) (notarize_vote same elect x v) left (is_notarize v)
      by_silence _ false loud work left = absurd (cc)

      by_kind : (b : Bool) → is_work call ≡ b → CallTells call
      by_kind true work = by_silence call (is_silent call) refl work (work_left call work allowed)
      by_kind false plain = plain_replied same elect trace entries x tells o call plain allowed
