-- That an engine waits for its member's next timeout.
use Rattle.std.specs.Prelude.{◌≡◌, ◌<◌, ℕ, nat_lt, Bool, true, Some}
use Rattle.simplex_voter.specs.Facts.{Elect}
use Rattle.simplex_member.specs.Calls.{NextTimeout, ReplyFacts, TimesOut}
use Rattle.simplex_member.specs.MemberFacts.{MemberFacts, IsCall}
use Rattle.engine_fetches.specs.declared.fetches.Fetches.{Fetches}
use Rattle.simplex_engine.specs.declared.engine.Engine.{Engine}

module _ {K D : Type 0} where
  -- the engine stores the moment of the next timeout that the member names, if it names one
  abbrev pub IsStored : (timeout : ℕ) → ReplyFacts K D → Type 0
  IsStored timeout (TimesOut (Some (moment, reason))) = timeout ≡ moment
  IsStored timeout _ = Unit {0}

  -- the member names no timeout up to this moment
  abbrev pub is_later : (now : ℕ) → ReplyFacts K D → Bool
  is_later now (TimesOut (Some (moment, reason))) = nat_lt now moment
  is_later now _ = true

  -- the timeout that the member names lies after this moment, and the engine stores it. A member names none only where
  -- its current view has none, which never happens (`times_out` of `Engine::keeps_the_laws`), or where its next repeat
  -- passes the numbers of 64 bits
  abbrev pub IsAwaited : (now timeout : ℕ) → ReplyFacts K D → Type 0
  IsAwaited now timeout (TimesOut (Some (moment, reason))) = (timeout ≡ moment) × (now < moment)
  IsAwaited now timeout _ = Unit {0}

-- asked for its next timeout at this moment, the member names one that the engine waits for
pub record IsTimed {K L D : Type 0} (same : D → D → Bool) (elect : Elect L) (now timeout : ℕ)
    (before after : MemberFacts K L D) : Type 0 where
  pub answer : ReplyFacts K D
  pub answered : IsCall same elect before (NextTimeout now) answer after
  pub awaited : IsAwaited now timeout answer

module _ {S L D K G C : Type 0} where
  -- the moment that `Engine::timeout` returns
  abbrev pub timeout_of : Engine S L D K G C → ℕ
  timeout_of engine = engine.plan.timeout

  -- what `Engine::fetches` returns
  abbrev pub fetches_of : Engine S L D K G C → Fetches
  fetches_of engine = engine.plan.repair.fetches

  -- the last call of the engine's member was for its next timeout at this moment, and the engine waits for that one
  abbrev pub WaitsForTimeout : (D → D → Bool) → Elect L → ℕ → Engine S L D K G C → Type 0
  WaitsForTimeout same elect now engine =
      (before : MemberFacts K L D) × IsTimed same elect now (timeout_of engine) before engine.core.member.facts
