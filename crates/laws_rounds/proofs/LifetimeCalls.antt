-- Calls of an engine within a lifetime: one that has not failed at the end never had, and its views did not fall.
use Rattle.std.proofs.Common.{◌≡◌, refl, ap, sym, ◌∙◌, subst, ℕ, Bool, true, false, List, [], ◌∷◌, ◌++◌, Option, Some, None, Result, Ok, Err, arith}
use Rattle.std.specs.Prelude.{OnOk, OnErr}
use Rattle.std.proofs.lemmas.Bool.{true≢false}
use Rattle.simplex_types.specs.declared.types.messages.Subject.{Subject}
use Rattle.simplex_voter.specs.Facts.{StateFacts, Elect}
use Rattle.simplex_member.specs.Calls.{CallFacts, ReplyFacts, reply_facts}
use Rattle.simplex_member.specs.MemberFacts.{MemberFacts, IsCall}
use Rattle.simplex_member.specs.Runs.{StepFacts, Calls, Prunes, Restarts}
use Rattle.simplex_member.specs.declared.member.calls.Reply.{Reply}
use Rattle.laws_safety.specs.LifetimeLaws.{WhileAlive}
use Rattle.laws_safety.specs.MemberHistory.{HasHistory}
use Rattle.laws_safety.specs.Traces.{TraceEvent}
use Rattle.laws_safety.proofs.frames.NoLowerViews.{never_fell, falls_never, never_falls, call_goes}
use Rattle.laws_safety.proofs.lives.WithinLives.{alive_still, alive_joined, each_call}
use Rattle.engine_fetches.specs.declared.fetches.FetchKind.{FetchKind}
use Rattle.engine_planner.specs.Causes.{Cause}
use Rattle.engine_outbox.specs.Continuity.{has_failed}
use Rattle.engine_outbox.specs.declared.output.Work.{Work}
use Rattle.simplex_engine.specs.Provenance.{IsCausedBy, IsCaused}
use Rattle.simplex_engine.specs.declared.engine.Engine.{Engine}
use Rattle.laws_hosts.specs.EngineCalls.{EngineCall, Handled, Polled, IsEngineCall}
use Rattle.laws_rounds.specs.Deliveries.{IsLater, IsLifetimeCall, AreLifetimeCalls}
use Rattle.laws_rounds.proofs.TrackedViews.{tracked_still, tracked_both, call_keeps}

module _ {K L D : Type 0} where
  later_still : (x : StateFacts K L D) → IsLater x x
  later_still x = record {
    settings = refl;
    terms = refl;
    views = never_fell x;
    notarized = tracked_still x;
  }

  later_both : (x y z : StateFacts K L D) → IsLater x y → IsLater y z → IsLater x z
  later_both x y z p q =
      let retention = ap (λ s. s.view_retention) q.settings in
      let rises = q.views.finalized in
      record {
        settings = q.settings ∙ p.settings;
        terms = q.terms ∙ p.terms;
        views = falls_never x y z p.views q.views;
        notarized = tracked_both x y z (omega (arith, retention, rises)) p.notarized q.notarized;
      }

  abbrev pub LivesOn : MemberFacts K L D → MemberFacts K L D → Type 0
  LivesOn m left = WhileAlive IsLater m.life left.life

  pub lives_still : (m : MemberFacts K L D) → LivesOn m m
  lives_still m = alive_still IsLater m.life later_still

  pub lives_both : (m next end : MemberFacts K L D) → LivesOn m next → LivesOn next end → LivesOn m end
  lives_both m next end p q = alive_joined IsLater IsLater IsLater m.life next.life end.life later_both p q

-- what is so of two states, of a member that has not failed
pub alive_anyway : {K L D : Type 0} {P Q : StateFacts K L D → StateFacts K L D → Type 0}
    (first last : Option (StateFacts K L D)) → WhileAlive P first last
    → ((x y : StateFacts K L D) → P x y → Q x y) → WhileAlive Q first last
alive_anyway first None is each = tt
alive_anyway None (Some y) is each = absurd is
alive_anyway (Some x) (Some y) is each = each x y is

module _ {K L D : Type 0} (same : D → D → Bool) (elect : Elect L) where
  pub call_lives : (m : MemberFacts K L D) (call : CallFacts D) (replied : ReplyFacts K D) (left : MemberFacts K L D)
      → IsCall same elect m call replied left → LivesOn m left
  call_lives =
      each_call same elect (λ call replied. IsLater)
      (λ call fault x. later_still x) (λ call x. later_still x)
      (λ call x o allowed. (let goes = call_goes same elect x o call in
      record {
        settings = goes.settings;
        terms = goes.terms;
        views = never_falls x _ goes;
        notarized = call_keeps same elect x o call;
      }))

module _ {S L D K G C : Type 0} (same : D → D → Bool) (elect : Elect L) (bytes_of : C → List ℕ) (now : ℕ)
    (asks_now is_over : FetchKind → ℕ → Bool) where
  -- steps that are caused hold no restart
  caused_lives : (steps : List (StepFacts K L D × Reply S D K G C)) (causes : List (Cause S D K G C))
      (asked : FetchKind → ℕ → Bool) (m : MemberFacts K L D) (left : List (Cause S D K G C)) (end : MemberFacts K L D)
      → IsCausedBy same elect bytes_of now asks_now is_over steps causes asked m left end → LivesOn m end
  caused_lives [] causes asked m left end is = subst (LivesOn m) (sym is.1) (lives_still m)
  caused_lives ((Calls call, reply) ∷ rest) causes asked m left end is =
      lives_both m is.1 end (call_lives same elect m call (reply_facts bytes_of reply) is.1 is.2)
      (caused_lives rest _ _ is.1 left end is.3)
  caused_lives ((Prunes, reply) ∷ rest) causes asked m left end is =
      lives_both m is.1 end (subst (LivesOn m) (sym is.2.1) (lives_still m))
      (caused_lives rest _ _ is.1 left end is.3)
  caused_lives ((Restarts restart, reply) ∷ rest) causes asked m left end is = absurd is.0

module _ {S L D K G C A E : Type 0} (same : D → D → Bool) (elect : Elect L) (bytes : D → List ℕ)
    (bytes_of : C → List ℕ) (now : ℕ) where
  -- a call that is caused, by its result
  pub result_lives : (came : List (Cause S D K G C)) (out : List (Work S D K G C)) (held : FetchKind → ℕ → Bool)
      (old new : Engine S L D K G C) (result : Result A E)
      → OnOk result (IsCaused same elect bytes bytes_of now came out held old new)
      → OnErr result (has_failed new.core ≡ true) → has_failed new.core ≡ false
      → LivesOn old.core.member.facts new.core.member.facts
  result_lives came out held old new (Ok answer) caused fails alive =
      caused_lives same elect bytes_of now _ _ caused.steps _ _ old.core.member.facts _ new.core.member.facts
      caused.by_steps
  result_lives came out held old new (Err error) caused fails alive = absurd (true≢false (sym fails ∙ alive))

module _ {S L D K G C : Type 0} (same : D → D → Bool) (elect : Elect L) (bytes_of : C → List ℕ)
    (is_signature : K → Subject D → G → Type 0) (keys_of : S → List K) where
  -- before a call that leaves an engine alive, it was
  pub was_alive : (call : EngineCall S D K G C) (old new : Engine S L D K G C)
      → IsLifetimeCall same elect bytes_of is_signature keys_of call old new → has_failed new.core ≡ false
      → has_failed old.core ≡ false
  was_alive call old new is alive = by_test (has_failed old.core) refl
    where
      by_test : (b : Bool) → has_failed old.core ≡ b → b ≡ false
      by_test true failed = absurd (true≢false (sym failed
          ∙ (ap (λ (e : Engine S L D K G C). has_failed e.core) (sym (is.stays failed)) ∙ alive)))
      by_test false failed = refl

  pub calls_live : (calls : List (EngineCall S D K G C)) (first last : Engine S L D K G C)
      → AreLifetimeCalls same elect bytes_of is_signature keys_of calls first last → has_failed last.core ≡ false
      → (has_failed first.core ≡ false) × LivesOn first.core.member.facts last.core.member.facts
  calls_live [] first last are alive = (
    subst (λ (e : Engine S L D K G C). has_failed e.core ≡ false) are alive,
    subst (λ (e : Engine S L D K G C). LivesOn first.core.member.facts e.core.member.facts) (sym are)
        (lives_still first.core.member.facts),
  )
  calls_live (call ∷ rest) first last (next, is, are) alive =
      let later = calls_live rest next last are alive in (
        was_alive call first next is later.0,
        lives_both first.core.member.facts next.core.member.facts last.core.member.facts (is.lives later.0) later.1,
      )

  module _ (term_length i : ℕ) where
    -- a member with a history has one
    abbrev pub IsMember : MemberFacts K L D → Type 0
    IsMember m = (all : List (TraceEvent D)) × HasHistory same elect term_length i all m

    call_member : (call : EngineCall S D K G C) (old new : Engine S L D K G C)
        → IsEngineCall same elect bytes_of is_signature keys_of call old new
        → IsMember old.core.member.facts → IsMember new.core.member.facts
    call_member (Handled passed) old new is (all, has) =
        (all ++ is.continues.more, is.continues.done term_length i all has)
    call_member (Polled outs) old new is (all, has) = (all ++ is.traced.more, is.traced.done term_length i all has)

    pub calls_member : (calls : List (EngineCall S D K G C)) (first last : Engine S L D K G C)
        → AreLifetimeCalls same elect bytes_of is_signature keys_of calls first last
        → IsMember first.core.member.facts → IsMember last.core.member.facts
    calls_member [] first last are has =
        subst (λ (e : Engine S L D K G C). IsMember e.core.member.facts) (sym are) has
    calls_member (call ∷ rest) first last (next, is, are) has =
        calls_member rest next last are (call_member call first next is.made has)
