-- For `runs_keep_order`.
-- The lifetimes of a run from a start, and the laws of each.
use Rattle.std.proofs.Common.{◌≡◌, refl, sym, ◌∙◌, subst, ℕ, ◌<◌, ◌≤◌, inl, inr, Bool, true, List, [], ◌∷◌, ◌++◌, length, map, Option, Some, None, arith}
use Rattle.std.proofs.lemmas.List.{length-map}
use Rattle.simplex_types.specs.declared.types.fault.Fault.{Fault}
use Rattle.simplex_voter.specs.Facts.{StateFacts, Elect}
use Rattle.simplex_voter.specs.Windows.{min_active}
use Rattle.simplex_member.specs.CallConditions.{is_allowed}
use Rattle.simplex_member.specs.Calls.{CallFacts, ReplyFacts, Dropped, Refused, NotAllowed}
use Rattle.laws_safety.specs.Executions.{new_member}
use Rattle.laws_safety.specs.LifetimeLaws.{IsLifetime, IsLifetimeOfRun, WhileAlive, WasDropped, ConflictsStay, DroppedForGood, ReturnedOnce, IsAsAsked, ReturnedAsRequested}
use Rattle.simplex_member.specs.MemberFacts.{MemberFacts, IsCall}
use Rattle.simplex_member.specs.CallSemantics.{answer, after_call}
use Rattle.simplex_member.specs.OutstandingWork.{OutstandingWork}
use Rattle.simplex_member.specs.Runs.{StepFacts, Calls, IsRun, IsRunFrom}
use Rattle.simplex_record.specs.Start.{StartFacts}
use Rattle.laws_safety.specs.TermLengths.{HasTerms, KeepTerms}
use Rattle.laws_safety.proofs.lives.Conflicts.{ConflictsLast, life_keeps}
use Rattle.laws_safety.proofs.lives.ReturnedCertificates.{life_hands_once}
use Rattle.laws_safety.proofs.lives.AsAsked.{call_as_asked}
use Rattle.laws_safety.proofs.lists.Splits.{Contains-cases, only_one}
use Rattle.laws_safety.proofs.frames.Untracked.{IsClear, call_clear, call_drops}
use Rattle.simplex_member.proofs.EventsMake.{call_by_any}
use Rattle.laws_safety.proofs.frames.NoLowerViews.{floor_goes, call_goes}
use Rattle.laws_safety.proofs.frames.Sound.{IsSound, event_sound, floor_sound}
use Rattle.laws_safety.proofs.frames.RunsKeep.{HoldsIn, run_induction}
use Rattle.laws_safety.proofs.lives.WithinLives.{alive_still, alive_joined, each_call, call_outcome}

-- if no view below a retained one is tracked none becomes so, also if views are dropped on the way
pub record Away {K L D : Type 0} (replies : List (ReplyFacts K D)) (x y : StateFacts K L D) : Type 0 where
  pub floor : min_active x ≤ min_active y
  pub clear : (low : ℕ) → low ≤ min_active x → IsClear low x → IsClear low y
  pub dropped : (v : ℕ) → WasDropped replies v → (low : ℕ) × (v < low) × (low ≤ min_active y) × IsClear low y

-- from a sound state on
abbrev pub SoundlyAway : {K L D : Type 0} → ℕ → List (ReplyFacts K D) → StateFacts K L D → StateFacts K L D → Type 0
SoundlyAway term_length replies x y = IsSound term_length x → IsSound term_length y × Away replies x y

module _ {K L D : Type 0} where
  nothing_away : (replied : ReplyFacts K D) (x : StateFacts K L D) → ((views : List ℕ) → replied ≡ Dropped views → ⊥)
      → Away (replied ∷ []) x x
  nothing_away replied x none = record {
    floor = omega arith;
    clear = λ low under clear. clear;
    dropped = λ v is. absurd (none is.0 (only_one replied (Dropped is.0) is.1));
  }

  away_still : (x : StateFacts K L D) → Away [] x x
  away_still x =
      record { floor = omega arith; clear = λ low under clear. clear; dropped = λ v is. absurd (omega (arith, is.1.1)) }

  away_on : (replied : ReplyFacts K D) (replies : List (ReplyFacts K D)) (x y z : StateFacts K L D)
      → Away (replied ∷ []) x y
      → Away replies y z → Away (replied ∷ replies) x z
  away_on replied replies x y z p q = record {
    floor = omega (arith, p.floor, q.floor);
    clear = λ low under clear. q.clear low (omega (arith, under, p.floor)) (p.clear low under clear);
    dropped = dropped;
  }
    where
      dropped : (v : ℕ) → WasDropped (replied ∷ replies) v → (low : ℕ) × (v < low) × (low ≤ min_active z)
          × IsClear low z
      dropped v (views, there, among) = elim (Contains-cases replied replies (Dropped views) there) [
        | inl here ↦ (let gone = p.dropped v (views, (0, omega arith, here), among) in
            (gone.0, gone.1, omega (arith, gone.2, q.floor), q.clear gone.0 gone.2 gone.3))
        | inr later ↦ q.dropped v (views, later, among)
      ]

module _ {K L D : Type 0} (same : D → D → Bool) (elect : Elect L) (term_length : ℕ) where
  call_sound : (call : CallFacts D) (x : StateFacts K L D) (o : OutstandingWork K D) → IsSound term_length x
      → IsSound term_length (after_call same elect x o call)
  call_sound call x o sound = call_by_any same elect x o (IsSound term_length) sound
      (λ e. event_sound same elect term_length x e sound) call

  call_away : 0 < term_length → (call : CallFacts D) (x : StateFacts K L D) (o : OutstandingWork K D)
      → is_allowed x o call ≡ true → SoundlyAway term_length (answer same elect x o call ∷ []) x
      (after_call same elect x o call)
  call_away some call x o allowed sound =
      let floor = floor_goes x _ (call_goes same elect x o call) in (
        call_sound call x o sound,
        record {
          floor = floor;
          clear = λ low under clear. call_clear same elect low x under (omega (arith, under, sound.ahead))
              (omega (arith, some, sound.terms)) clear o call allowed;
          dropped = λ v is. (
              let gone = call_drops same elect x o call is.0 v
              (only_one (answer same elect x o call) (Dropped is.0) is.1) is.2 in
              (min_active x, gone.0, floor, gone.1)
              );
        },
      )

  replied_away : 0 < term_length → (m : MemberFacts K L D) (call : CallFacts D) (replied : ReplyFacts K D)
      (left : MemberFacts K L D) → IsCall same elect m call replied left
      → WhileAlive (SoundlyAway term_length (replied ∷ [])) m.life left.life
  replied_away some =
      each_call same elect (λ call replied. SoundlyAway term_length (replied ∷ []))
      (λ call fault x sound. (sound, nothing_away (Refused fault) x (λ views is. absurd (cc))))
      (λ call x sound. (sound, nothing_away NotAllowed x (λ views is. absurd (cc))))
      (λ call x o allowed. call_away some call x o allowed)

  life_away : 0 < term_length → (m end : MemberFacts K L D) (calls : List (CallFacts D))
      (replies : List (ReplyFacts K D)) → IsLifetime same elect m calls replies end
      → WhileAlive (SoundlyAway term_length replies) m.life end.life
  life_away some m end [] [] life = subst (λ n. WhileAlive (SoundlyAway term_length []) m.life n.life) life
      (alive_still (SoundlyAway term_length []) m.life (λ x sound. (sound, away_still x)))
  life_away some m end [] (replied ∷ replies) life = absurd life
  life_away some m end (call ∷ calls) [] life = absurd life
  life_away some m end (call ∷ calls) (replied ∷ replies) (next, is_call, rest) =
      alive_joined (SoundlyAway term_length (replied ∷ [])) (SoundlyAway term_length replies)
      (SoundlyAway term_length (replied ∷ replies)) m.life next.life end.life
      (λ x y z p q sound.
      (let first = p sound in let second = q first.0 in (second.0, away_on replied replies x y z first.1 second.1)))
      (replied_away some m call replied next is_call)
      (life_away some next end calls replies rest)

-- while it has not failed
abbrev pub IsSoundIn : {K L D : Type 0} → ℕ → Option (StateFacts K L D) → Type 0
IsSoundIn term_length life = HoldsIn (IsSound term_length) life

module _ {K L D : Type 0} (same : D → D → Bool) (elect : Elect L) (term_length : ℕ) where
  -- a lifetime of a run begins with a sound state
  pub life_sound : (start : StartFacts K L D) (steps : List (StepFacts K L D)) (replied : List (ReplyFacts K D))
      (m end : MemberFacts K L D) (calls : List (CallFacts D)) (replies : List (ReplyFacts K D))
      → HasTerms term_length start.setup → KeepTerms term_length steps
      → IsLifetimeOfRun same elect start steps replied m calls replies end → IsSoundIn term_length m.life
  life_sound start steps replied m end calls replies begins fresh of_run =
      run_induction same elect term_length (IsSound term_length)
      (λ x floor now new. floor_sound same elect term_length x floor now new)
      (λ x e sound. event_sound same elect term_length x e sound) start steps replied m begins fresh of_run.reached

  for_good : (replies : List (ReplyFacts K D)) (first last : Option (StateFacts K L D)) → IsSoundIn term_length first
      → WhileAlive (SoundlyAway term_length replies) first last → WhileAlive (DroppedForGood replies) first last
  for_good replies first None sound away = tt
  for_good replies None (Some y) sound away = absurd away
  for_good replies (Some x) (Some y) sound away =
      λ v is. (let gone = (away sound).1.dropped v is in gone.3.views v gone.1)

  pub life_drops_for_good : (start : StartFacts K L D) (steps : List (StepFacts K L D))
      (replied : List (ReplyFacts K D))
      (m end : MemberFacts K L D) (calls : List (CallFacts D)) (replies : List (ReplyFacts K D))
      → HasTerms term_length start.setup → KeepTerms term_length steps
      → IsLifetimeOfRun same elect start steps replied m calls replies end
      → WhileAlive (DroppedForGood replies) m.life end.life
  life_drops_for_good start steps replied m end calls replies begins fresh of_run =
      for_good replies m.life end.life (life_sound start steps replied m end calls replies begins fresh of_run)
      (life_away same elect term_length begins.some m end calls replies of_run.life)

  stay_in : (replies : List (ReplyFacts K D)) (first last : Option (StateFacts K L D))
      → WhileAlive (ConflictsLast replies) first last → WhileAlive (ConflictsStay replies) first last
  stay_in replies first None keeps = tt
  stay_in replies None (Some y) keeps = absurd keeps
  stay_in replies (Some x) (Some y) keeps = keeps.conflicts

  pub life_conflicts : (start : StartFacts K L D) (steps : List (StepFacts K L D)) (replied : List (ReplyFacts K D))
      (m end : MemberFacts K L D) (calls : List (CallFacts D)) (replies : List (ReplyFacts K D))
      → HasTerms term_length start.setup → KeepTerms term_length steps
      → IsLifetimeOfRun same elect start steps replied m calls replies end
      → WhileAlive (ConflictsStay replies) m.life end.life
  life_conflicts start steps replied m end calls replies begins fresh of_run =
      stay_in replies m.life end.life (life_keeps same elect m end calls replies of_run.life)

  pub life_hands_out_once : (start : StartFacts K L D) (steps : List (StepFacts K L D))
      (replied : List (ReplyFacts K D))
      (m end : MemberFacts K L D) (calls : List (CallFacts D)) (replies : List (ReplyFacts K D))
      → HasTerms term_length start.setup → KeepTerms term_length steps
      → IsLifetimeOfRun same elect start steps replied m calls replies end → ReturnedOnce calls replies
  life_hands_out_once start steps replied m end calls replies begins fresh of_run =
      life_hands_once same elect m end calls replies of_run.life

module _ (K : Type 0) {D : Type 0} where
  -- the reply to a refused call is as requested
  refused_rightly : (call : CallFacts D) (fault : Fault) → IsAsAsked {K = K} call (Refused fault)
  refused_rightly call fault = λ kind v d asks tells. absurd (cc)

  not_allowed_rightly : (call : CallFacts D) → IsAsAsked {K = K} call NotAllowed
  not_allowed_rightly call = λ kind v d asks tells. absurd (cc)

module _ {K L D : Type 0} (same : D → D → Bool) (elect : Elect L) (term_length : ℕ) where
  -- so it is of each call from a sound state on
  replied_as_asked : (m : MemberFacts K L D) (call : CallFacts D) (replied : ReplyFacts K D) (left : MemberFacts K L D)
      → IsCall same elect m call replied left → IsSoundIn term_length m.life
      → IsAsAsked call replied × IsSoundIn term_length left.life
  replied_as_asked m call replied left is_call sound =
      elim (call_outcome same elect (λ c t x y. IsSound term_length x → IsAsAsked c t × IsSound term_length y)
      (λ c f x s. (refused_rightly K c f, s)) (λ c x s. (not_allowed_rightly K c, s))
      (λ c x o allowed s. (call_as_asked same elect x o c s.placed, call_sound same elect term_length c x o s)) m call
      replied left is_call) [
        | inl (fault, refuses, dies) ↦ (
          subst (IsAsAsked call) (sym refuses) (refused_rightly K call fault),
          subst (IsSoundIn term_length) (sym dies) tt,
        )
        | inr (x, y, alive, lives, keeps) ↦ (let kept = keeps (subst (IsSoundIn term_length) alive sound) in
            (kept.0, subst (IsSoundIn term_length) (sym lives) kept.1))
      ]

  life_as_asked : (m end : MemberFacts K L D) (calls : List (CallFacts D)) (replies : List (ReplyFacts K D))
      → IsSoundIn term_length m.life → IsLifetime same elect m calls replies end → ReturnedAsRequested calls replies
  life_as_asked m end [] [] sound life = tt
  life_as_asked m end [] (replied ∷ replies) sound life = absurd life
  life_as_asked m end (call ∷ calls) [] sound life = absurd life
  life_as_asked m end (call ∷ calls) (replied ∷ replies) sound (next, is_call, rest) =
      let first = replied_as_asked m call replied next is_call sound in
      (first.0, life_as_asked next end calls replies first.1 rest)

  pub life_hands_as_asked : (start : StartFacts K L D) (steps : List (StepFacts K L D))
      (replied : List (ReplyFacts K D))
      (m end : MemberFacts K L D) (calls : List (CallFacts D)) (replies : List (ReplyFacts K D))
      → HasTerms term_length start.setup → KeepTerms term_length steps
      → IsLifetimeOfRun same elect start steps replied m calls replies end → ReturnedAsRequested calls replies
  life_hands_as_asked start steps replied m end calls replies begins fresh of_run =
      life_as_asked m end calls replies
      (life_sound same elect term_length start steps replied m end calls replies begins fresh of_run) of_run.life

module _ {K L D : Type 0} (same : D → D → Bool) (elect : Elect L) where
  -- a run comes apart between its steps
  run_apart : (steps after : List (StepFacts K L D)) (replied rest : List (ReplyFacts K D)) (m end : MemberFacts K L D)
      → length steps ≡ length replied → IsRun same elect m (steps ++ after) (replied ++ rest) end
      → (middle : MemberFacts K L D) × IsRun same elect m steps replied middle × IsRun same elect middle after rest end
  run_apart [] after [] rest m end as_many run = (m, refl, run)
  run_apart [] after (reply ∷ replied) rest m end as_many run = absurd (omega (arith, as_many))
  run_apart (step ∷ steps) after [] rest m end as_many run = absurd (omega (arith, as_many))
  run_apart (step ∷ steps) after (reply ∷ replied) rest m end as_many (next, is_step, run) =
      let parts = run_apart steps after replied rest next end (omega (arith, as_many)) run in
      (parts.0, (next, is_step, parts.1), parts.2)

  -- the beginning of a run from a start is one
  pub run_from_before : (start : StartFacts K L D) (steps after : List (StepFacts K L D))
      (replied rest : List (ReplyFacts K D)) → length steps ≡ length replied
      → IsRunFrom same elect start (steps ++ after) (replied ++ rest) → IsRunFrom same elect start steps replied
  unfolding IsRunFrom
  run_from_before start steps after replied rest as_many (accepted, last, run) =
      let first = run_apart steps after replied rest (new_member same elect start) last as_many run in
      (accepted, first.0, first.1)

  -- calls of a run without a restart among them continue from a member that the run leads to
  pub stretch_is_life : (start : StartFacts K L D) (steps after : List (StepFacts K L D)) (calls : List (CallFacts D))
      (replied replies rest : List (ReplyFacts K D)) → length steps ≡ length replied → length calls ≡ length replies
      → IsRunFrom same elect start (steps ++ (map Calls calls ++ after)) (replied ++ (replies ++ rest))
      → (m end : MemberFacts K L D) × IsLifetimeOfRun same elect start steps replied m calls replies end
  unfolding IsRunFrom
  stretch_is_life start steps after calls replied replies rest as_many as_replied (accepted, last, run) =
      let first = run_apart steps (map Calls calls ++ after) replied (replies ++ rest)
      (new_member same elect start) last
      as_many run in
      let step_of : CallFacts D → StepFacts K L D = λ call. Calls call in
      let second = run_apart (map Calls calls) after replies rest first.0 last (length-map calls step_of ∙ as_replied)
      first.2 in
      (first.0, second.0, record { accepted = accepted; reached = first.1; life = second.1 })
