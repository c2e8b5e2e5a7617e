-- A lone host that polls its engine until it returns nothing makes a round.
use Rattle.std.proofs.Common.{◌≡◌, refl, ap, sym, ◌∙◌, subst, ℕ, zero, suc, inl, inr, Bool, true, false, List, [], ◌∷◌, ◌++◌, append_assoc, append-nil, length, slice_get, Option, Some}
use Rattle.std.specs.Prelude.{Contains, is_none}
use Rattle.std.proofs.lemmas.Bool.{false≢true, true≢false}
use Rattle.simplex_types.specs.declared.types.messages.Subject.{Subject}
use Rattle.simplex_types.specs.declared.types.window.Terms.{Terms}
use Rattle.simplex_voter.specs.Facts.{Elect}
use Rattle.simplex_record.specs.declared.record.start.Start.{Start}
use Rattle.simplex_member.specs.declared.member.journal.Stored.{Stored}
use Rattle.engine_outbox.specs.Continuity.{has_failed}
use Rattle.engine_outbox.specs.declared.output.Output.{Output}
use Rattle.engine_outbox.specs.declared.output.Output.TheVariants as output
use Rattle.engine_outbox.specs.declared.output.Work.TheVariants as work
use Rattle.simplex_engine.specs.declared.engine.Engine.{Engine}
use Rattle.simplex_engine.specs.declared.input.Input.{Input}
use Rattle.simplex_engine.specs.declared.input.Input.TheVariants as input
use Rattle.laws_hosts.specs.EngineCalls.{EngineCall, Handled, Polled, outputs_of}
use Rattle.laws_hosts.specs.HostInstances.{lone_host}
use Rattle.laws_hosts.specs.HostNetworks.{Host, Honest}
use Rattle.laws_hosts.specs.Processes.{Process, carried_by}
use Rattle.laws_hosts.proofs.CallTraces.{none_in}
use Rattle.laws_hosts.proofs.LoneHosts.{not_first}
use Rattle.laws_host_steps.specs.HostSteps.{ChangesLast, IsNetworkStep, AreNetworkSteps}
use Rattle.laws_host_steps.proofs.HostSteps.{last_there}
use Rattle.laws_rounds.specs.Deliveries.{IsLifetimeCall, AreLifetimeCalls}
use Rattle.laws_rounds.specs.Rounds.{HasCarriedOut, HasSent, IsLastProcess, IsAtRest, IsRound}
use Rattle.laws_rounds.proofs.LifetimeCalls.{calls_live}
use Rattle.laws_meetings.specs.RoundInstances.{ArePolls, process_with_calls, IsPolledOnce, IsPolledToEnd, MakesLoneRound}

-- ---- calls

-- one more
pub polls_then : {S D K G C : Type 0} (calls : List (EngineCall S D K G C)) (outs : List (Output S D Stored K G C))
    → ArePolls calls → ArePolls (calls ++ Polled outs ∷ [])
polls_then [] outs are = tt
polls_then (Handled passed ∷ rest) outs are = absurd are
polls_then (Polled some ∷ rest) outs are = polls_then rest outs are

module _ {S L D K G C : Type 0} (same : D → D → Bool) (elect : Elect L) (bytes_of : C → List ℕ)
    (is_signature : K → Subject D → G → Type 0) (keys_of : S → List K) where
  pub calls_then : (calls : List (EngineCall S D K G C)) (call : EngineCall S D K G C)
      (first last next : Engine S L D K G C)
      → AreLifetimeCalls same elect bytes_of is_signature keys_of calls first last
      → IsLifetimeCall same elect bytes_of is_signature keys_of call last next
      → AreLifetimeCalls same elect bytes_of is_signature keys_of (calls ++ call ∷ []) first next
  calls_then [] call first last next are is =
      (next, subst (λ e. IsLifetimeCall same elect bytes_of is_signature keys_of call e next) are is, refl)
  calls_then (one ∷ rest) call first last next (between, first_is, are) is =
      (between, first_is, calls_then rest call between last next are is)

  -- an engine before and after polls
  abbrev pub HasPolled : Engine S L D K G C → Engine S L D K G C → Type 0
  HasPolled first last =
      (calls : List (EngineCall S D K G C)) × ArePolls calls
      × AreLifetimeCalls same elect bytes_of is_signature keys_of calls first last

  pub polled_none : (engine : Engine S L D K G C) → HasPolled engine engine
  polled_none engine = ([], tt, refl)

  -- one more poll
  pub polled_then : (first last next : Engine S L D K G C) (outs : List (Output S D Stored K G C))
      → HasPolled first last → IsLifetimeCall same elect bytes_of is_signature keys_of (Polled outs) last next
      → HasPolled first next
  polled_then first last next outs (calls, polls, are) is =
      (calls ++ Polled outs ∷ [], polls_then calls outs polls, calls_then calls (Polled outs) first last next are is)

-- ---- hosts

-- the one item of a list
pub only_item : {X : Type 0} (p last : X) (before : List X) → p ∷ [] ≡ before ++ last ∷ [] → p ≡ last
only_item p last [] is = cc
only_item p last (one ∷ before) is = let none : before ++ last ∷ [] ≡ [] = cc in absurd (last_there before last none)

module _ {S L D K G C : Type 0} where
  -- one host by itself
  abbrev alone : Process S L D K G C → List (Host S L D K G C)
  alone process = Honest (process ∷ []) ∷ []

  -- all others stay, since there are none
  others_stay : (p q : Process S L D K G C) (j : ℕ) → (j ≡ 0 → ⊥) → slice_get (alone q) j ≡ slice_get (alone p) j
  others_stay p q zero apart = absurd (apart refl)
  others_stay p q (suc k) apart = refl

  last_alone : (p last : Process S L D K G C) (i : ℕ) → IsLastProcess (alone p) i last → p ≡ last
  last_alone p last zero (before, at) = let are : p ∷ [] ≡ before ++ last ∷ [] = cc in only_item p last before are
  last_alone p last (suc k) (before, at) = absurd (cc)

  none_begun_alone : (p q : Process S L D K G C) (i : ℕ) (old new : List (Process S L D K G C))
      → slice_get (alone p) i ≡ Some (Honest old) → slice_get (alone q) i ≡ Some (Honest new)
      → length new ≡ length old
  none_begun_alone p q zero old new was is =
      let olds : p ∷ [] ≡ old = cc in
      let news : q ∷ [] ≡ new = cc in
      sym (ap (λ (ps : List (Process S L D K G C)). length ps) news)
      ∙ ap (λ (ps : List (Process S L D K G C)). length ps) olds
  none_begun_alone p q (suc k) old new was is = absurd (cc)

  none_carried : (p : Process S L D K G C) (i : ℕ) (out : Output S D Stored K G C) → p.carried ≡ []
      → HasCarriedOut (alone p) i out → ⊥
  none_carried p zero out none (processes, at, has) =
      let are : p ∷ [] ≡ processes = cc in
      none_in out (subst (λ outs. Contains (outs ++ []) out) none
      (subst (λ ps. Contains (carried_by ps) out) (sym are) has))
  none_carried p (suc k) out none (processes, at, has) = absurd (cc)

  none_sent : (p : Process S L D K G C) (i j : ℕ) (passed : Input S D K G C) → p.carried ≡ []
      → HasSent (alone p) i j passed → ⊥
  none_sent p i j (input.Vote vote) none sent = none_carried p i (output.Vote vote) none sent
  none_sent p i j (input.Certificate certificate) none sent =
      none_carried p i (output.Work (work.Broadcast certificate)) none sent.1
  none_sent p i j (input.Proposal from proposal) none sent = sent
  none_sent p i j (input.Verified view is_valid) none sent = sent
  none_sent p i j (input.Built context payload) none sent = sent
  none_sent p i j (input.Certified view success) none sent = sent
  none_sent p i j (input.GivenUp view reason) none sent = sent

module _ {S L D K G C : Type 0} (same : D → D → Bool) (elect : Elect L) (bytes_of : C → List ℕ)
    (is_signature : K → Subject D → G → Type 0) (keys_of : S → List K) (me : S → Option ℕ) (terms : L → Terms)
    (term_length : ℕ) (start : Start S L D K G C) (old new : Engine S L D K G C) (alive : has_failed new.core ≡ false)
  where
    -- after some calls, with nothing carried out
    abbrev after : List (EngineCall S D K G C) → Engine S L D K G C → Process S L D K G C
    after calls engine = record { start = start; first = old; calls = calls; last = engine; carried = [] }

    abbrev Steps : List (List (Host S L D K G C)) → List (Host S L D K G C) → List (Host S L D K G C) → Type 0
    Steps stages hosts later =
        AreNetworkSteps same elect bytes_of is_signature keys_of me terms term_length stages hosts later

    abbrev OneStep : List (Host S L D K G C) → List (Host S L D K G C) → Type 0
    OneStep hosts later = IsNetworkStep same elect bytes_of is_signature keys_of me terms term_length hosts later

    changes : (p q : Process S L D K G C)
        → ChangesLast same elect bytes_of is_signature keys_of me terms (alone p) (p ∷ []) (q ∷ [])
        → OneStep (alone p) (alone q)
    changes p q is = record {
      i = 0;
      old = p ∷ [];
      new = q ∷ [];
      old_at = refl;
      new_at = refl;
      step = inl is;
      as_many = refl;
      others = others_stay p q;
    }

    poll_step : (done : List (EngineCall S D K G C)) (outs : List (Output S D Stored K G C))
        (engine next : Engine S L D K G C)
        → IsLifetimeCall same elect bytes_of is_signature keys_of (Polled outs) engine next
        → has_failed next.core ≡ false
        → OneStep (alone (after done engine)) (alone (after (done ++ Polled outs ∷ []) next))
    poll_step done outs engine next is lives = changes _ _ (record {
      before = [];
      last = after done engine;
      next = after (done ++ Polled outs ∷ []) next;
      old_is = refl;
      new_is = refl;
      changes = inl (record {
        call = Polled outs;
        next = next;
        made = is.made;
        may = tt;
        alive = not_first next.core.failed (is_none next.core.member.facts.life) lives;
        new_is = refl;
      });
    })

    carry_step : (done : List (EngineCall S D K G C)) (engine : Engine S L D K G C)
        → OneStep (alone (after done engine)) (alone (process_with_calls start done old engine))
    carry_step done engine = changes _ _ (record {
      before = [];
      last = after done engine;
      next = process_with_calls start done old engine;
      old_is = refl;
      new_is = refl;
      changes = inr (record {
        more = outputs_of done;
        may = inl ([], sym (append-nil (outputs_of done)));
        new_is = refl;
      });
    })

    -- the steps of polls, and of all that they returned
    steps : (rest done : List (EngineCall S D K G C)) (engine : Engine S L D K G C) → ArePolls rest
        → AreLifetimeCalls same elect bytes_of is_signature keys_of rest engine new
        → (stages : List (List (Host S L D K G C)))
        × Steps stages (alone (after done engine)) (alone (process_with_calls start (done ++ rest) old new))
    steps [] done engine polls are =
        let last = alone (process_with_calls start (done ++ []) old new) in (
          last ∷ [],
          (
            subst (λ e. OneStep (alone (after done engine)) (alone (process_with_calls start (done ++ []) old e)))
                (sym are) (subst (λ calls. OneStep (alone (after done engine))
                (alone (process_with_calls start calls old engine))) (sym (append-nil done)) (carry_step done engine)),
            refl,
          ),
        )
    steps (Handled passed ∷ rest) done engine polls are = absurd polls
    steps (Polled outs ∷ rest) done engine polls (next, is, are) =
        let lives = (calls_live same elect bytes_of is_signature keys_of rest next new are alive).0 in
        let more = steps rest (done ++ Polled outs ∷ []) next polls are in (
          alone (after (done ++ Polled outs ∷ []) next) ∷ more.0,
          (
            poll_step done outs engine next is lives,
            subst (λ calls. Steps more.0 (alone (after (done ++ Polled outs ∷ []) next))
                (alone (process_with_calls start calls old new))) (append_assoc done (Polled outs ∷ []) rest) more.1,
          ),
        )

    pub lone_round : (calls : List (EngineCall S D K G C)) → ArePolls calls
        → AreLifetimeCalls same elect bytes_of is_signature keys_of (calls ++ Polled [] ∷ []) old new
        → IsRound same elect bytes_of is_signature keys_of me terms term_length (lone_host start old)
        (alone (process_with_calls start (calls ++ Polled [] ∷ []) old new))
    lone_round calls polls are =
        let all = calls ++ Polled [] ∷ [] in
        let taken = steps all [] old (polls_then calls [] polls) are in
        let process = process_with_calls start all old new in
        record {
          stages = taken.0;
          steps = taken.1;
          none_begun = none_begun_alone (after [] old) process;
          delivered = λ i j passed last sent is_last. absurd (none_sent (after [] old) i j passed refl sent);
          at_rest = λ i last is_last. subst IsAtRest (last_alone process last i is_last)
              (record { before = calls; calls_are = refl; carried = refl });
        }

module _ {S L D K G C : Type 0} (same : D → D → Bool) (elect : Elect L) (bytes_of : C → List ℕ)
    (is_signature : K → Subject D → G → Type 0) (keys_of : S → List K) where
  pub lone_made : (me : S → Option ℕ) (terms : L → Terms) (old new : Engine S L D K G C)
      → IsPolledToEnd same elect bytes_of is_signature keys_of old new
      → MakesLoneRound same elect bytes_of is_signature keys_of me terms old new
  lone_made me terms old new (calls, polls, are) term_length start alive = (
    calls ++ Polled [] ∷ [],
    lone_round same elect bytes_of is_signature keys_of me terms term_length start old new alive calls polls are,
  )

  module _ (first last next : Engine S L D K G C) where
    -- the last poll returned nothing
    pub polled_to_end : (is_done : Bool) → is_done ≡ true
        → IsPolledOnce same elect bytes_of is_signature keys_of is_done last next
        → HasPolled same elect bytes_of is_signature keys_of first last
        → IsPolledToEnd same elect bytes_of is_signature keys_of first next
    polled_to_end true so is (calls, polls, are) = (
      calls,
      polls,
      calls_then same elect bytes_of is_signature keys_of calls (Polled []) first last next are is,
    )
    polled_to_end false so is polled = absurd (false≢true so)

    -- it returned something
    pub polled_more : (is_done : Bool) → is_done ≡ false
        → IsPolledOnce same elect bytes_of is_signature keys_of is_done last next
        → HasPolled same elect bytes_of is_signature keys_of first last
        → HasPolled same elect bytes_of is_signature keys_of first next
    polled_more true so is polled = absurd (true≢false so)
    polled_more false so (out, is) polled =
        polled_then same elect bytes_of is_signature keys_of first last next (out ∷ []) polled is
