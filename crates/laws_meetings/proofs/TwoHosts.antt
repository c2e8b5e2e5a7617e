-- Two hosts make a round, in which a vote that the first one had carried out is delivered to both.
use Rattle.std.proofs.Common.{◌≡◌, refl, ap, sym, ◌∙◌, subst, ℕ, zero, suc, inl, inr, Bool, false, List, [], ◌∷◌, ◌++◌, append_assoc, append-nil, length, slice_get, Option, Some}
use Rattle.std.specs.Prelude.{Contains, is_none}
use Rattle.std.proofs.lemmas.List.Elements.{Contains-append_left}
use Rattle.simplex_types.specs.declared.types.messages.Subject.{Subject}
use Rattle.simplex_types.specs.declared.types.window.Terms.{Terms}
use Rattle.simplex_voter.specs.Facts.{Elect}
use Rattle.simplex_record.specs.declared.record.start.Start.{Start}
use Rattle.simplex_member.specs.declared.member.journal.Stored.{Stored}
use Rattle.engine_votes.specs.declared.votes.Vote.{Vote}
use Rattle.engine_outbox.specs.Continuity.{has_failed}
use Rattle.engine_outbox.specs.declared.output.Output.{Output}
use Rattle.engine_outbox.specs.declared.output.Output.TheVariants as output
use Rattle.engine_outbox.specs.declared.output.Work.TheVariants as work
use Rattle.simplex_engine.specs.declared.engine.Engine.{Engine}
use Rattle.simplex_engine.specs.declared.input.Input.{Input}
use Rattle.simplex_engine.specs.declared.input.Input.TheVariants as input
use Rattle.laws_hosts.specs.EngineCalls.{EngineCall, Handled, Polled, outputs_of}
use Rattle.laws_hosts.specs.HostNetworks.{Host, Honest, MayHaveSent}
use Rattle.laws_hosts.specs.Processes.{Process, carried_by}
use Rattle.laws_hosts.proofs.CallTraces.{none_in}
use Rattle.laws_hosts.proofs.LoneHosts.{not_first}
use Rattle.laws_host_steps.specs.HostSteps.{MayBePassed, ChangesLast, AreNetworkSteps}
use Rattle.laws_host_steps.proofs.HostSteps.{outputs-append}
use Rattle.laws_rounds.specs.Deliveries.{IsLifetimeCall, AreLifetimeCalls, IsDelivered}
use Rattle.laws_rounds.specs.Rounds.{HasCarriedOut, HasSent, IsLastProcess, IsAtRest, IsRound}
use Rattle.laws_rounds.proofs.LifetimeCalls.{calls_live}
use Rattle.laws_meetings.specs.RoundInstances.{ArePolls, process_with_calls, IsSettledAfter, SendsOnly, two_hosts, MakesRoundOfTwo}
use Rattle.laws_meetings.proofs.LoneRounds.{polls_then, only_item}

-- ---- the steps of one host, among others that stay

module _ {S L D K G C : Type 0} where
  -- hosts of which that of member `i` has run one process
  record IsPlace (i : ℕ) (at : Process S L D K G C → List (Host S L D K G C)) : Type 0 where
    there : (p : Process S L D K G C) → slice_get (at p) i ≡ Some (Honest (p ∷ []))
    as_many : (p q : Process S L D K G C) → length (at q) ≡ length (at p)
    others : (p q : Process S L D K G C) (j : ℕ) → (j ≡ i → ⊥) → slice_get (at q) j ≡ slice_get (at p) j

  first_place : (q : Process S L D K G C) → IsPlace 0 (λ p. two_hosts p q)
  first_place q = record { there = λ p. refl; as_many = λ p o. refl; others = others }
    where
      others : (p o : Process S L D K G C) (j : ℕ) → (j ≡ 0 → ⊥)
          → slice_get (two_hosts o q) j ≡ slice_get (two_hosts p q) j
      others p o zero apart = absurd (apart refl)
      others p o (suc k) apart = refl

  second_place : (p : Process S L D K G C) → IsPlace 1 (λ q. two_hosts p q)
  second_place p = record { there = λ q. refl; as_many = λ q o. refl; others = others }
    where
      others : (q o : Process S L D K G C) (j : ℕ) → (j ≡ 1 → ⊥)
          → slice_get (two_hosts p o) j ≡ slice_get (two_hosts p q) j
      others q o zero apart = refl
      others q o (suc zero) apart = absurd (apart refl)
      others q o (suc (suc k)) apart = refl

module _ {S L D K G C : Type 0} (same : D → D → Bool) (elect : Elect L) (bytes_of : C → List ℕ)
    (is_signature : K → Subject D → G → Type 0) (keys_of : S → List K) (me : S → Option ℕ) (terms : L → Terms)
    (term_length : ℕ) where
  abbrev Steps : List (List (Host S L D K G C)) → List (Host S L D K G C) → List (Host S L D K G C) → Type 0
  Steps stages hosts later =
      AreNetworkSteps same elect bytes_of is_signature keys_of me terms term_length stages hosts later

  abbrev HasSteps : List (Host S L D K G C) → List (Host S L D K G C) → Type 0
  HasSteps hosts later = (stages : List (List (Host S L D K G C))) × Steps stages hosts later

  steps_joined : (stages more : List (List (Host S L D K G C))) (hosts next later : List (Host S L D K G C))
      → Steps stages hosts next → Steps more next later → Steps (stages ++ more) hosts later
  steps_joined [] more hosts next later are then = subst (λ now. Steps more now later) are then
  steps_joined (one ∷ stages) more hosts next later are then =
      (are.0, steps_joined stages more one next later are.1 then)

  joined : (hosts next later : List (Host S L D K G C)) → HasSteps hosts next → HasSteps next later
      → HasSteps hosts later
  joined hosts next later first second =
      (first.0 ++ second.0, steps_joined first.0 second.0 hosts next later first.1 second.1)

  module _ (i : ℕ) (at : Process S L D K G C → List (Host S L D K G C)) (place : IsPlace i at)
      (start : Start S L D K G C) (begun : Engine S L D K G C) (sent : List (EngineCall S D K G C)) where
    -- after some calls, when what the first of them returned is carried out
    abbrev after : List (EngineCall S D K G C) → Engine S L D K G C → Process S L D K G C
    after calls engine =
        record { start = start; first = begun; calls = calls; last = engine; carried = outputs_of sent }

    one_step : (p q : Process S L D K G C)
        → ChangesLast same elect bytes_of is_signature keys_of me terms (at p) (p ∷ []) (q ∷ [])
        → HasSteps (at p) (at q)
    one_step p q is = (
      at q ∷ [],
      (
        record {
          i = i;
          old = p ∷ [];
          new = q ∷ [];
          old_at = place.there p;
          new_at = place.there q;
          step = inl is;
          as_many = place.as_many p q;
          others = place.others p q;
        },
        refl,
      ),
    )

    call_step : (done : List (EngineCall S D K G C)) (call : EngineCall S D K G C) (engine next : Engine S L D K G C)
        → IsLifetimeCall same elect bytes_of is_signature keys_of call engine next
        → MayBePassed bytes_of (at (after done engine)) call → has_failed next.core ≡ false
        → HasSteps (at (after done engine)) (at (after (done ++ call ∷ []) next))
    call_step done call engine next is may lives = one_step _ _ (record {
      before = [];
      last = after done engine;
      next = after (done ++ call ∷ []) next;
      old_is = refl;
      new_is = refl;
      changes = inl (record {
        call = call;
        next = next;
        made = is.made;
        may = may;
        alive = not_first next.core.failed (is_none next.core.member.facts.life) lives;
        new_is = refl;
      });
    })

    poll_steps : (polls done : List (EngineCall S D K G C)) (engine last : Engine S L D K G C) → ArePolls polls
        → AreLifetimeCalls same elect bytes_of is_signature keys_of polls engine last → has_failed last.core ≡ false
        → HasSteps (at (after done engine)) (at (after (done ++ polls) last))
    poll_steps [] done engine last polls are alive =
        ([], ap (λ calls. at (after calls last)) (append-nil done) ∙ ap (λ e. at (after done e)) are)
    poll_steps (Handled passed ∷ rest) done engine last polls are alive = absurd polls
    poll_steps (Polled outs ∷ rest) done engine last polls (next, is, are) alive =
        let lives = (calls_live same elect bytes_of is_signature keys_of rest next last are alive).0 in
        let more = poll_steps rest (done ++ Polled outs ∷ []) next last polls are alive in
        joined _ _ _ (call_step done (Polled outs) engine next is tt lives)
        (subst (λ calls. HasSteps (at (after (done ++ Polled outs ∷ []) next)) (at (after calls last)))
        (append_assoc done (Polled outs ∷ []) rest) more)

    -- all that was returned since is carried out
    carry_step : (more : List (EngineCall S D K G C)) (engine : Engine S L D K G C)
        → HasSteps (at (after (sent ++ more) engine)) (at (process_with_calls start (sent ++ more) begun engine))
    carry_step more engine = one_step _ _ (record {
      before = [];
      last = after (sent ++ more) engine;
      next = process_with_calls start (sent ++ more) begun engine;
      old_is = refl;
      new_is = refl;
      changes = inr (record {
        more = outputs_of more;
        may = inl ([], outputs-append sent more ∙ sym (append-nil (outputs_of sent ++ outputs_of more)));
        new_is = ap (λ outs. record {
          start = start;
          first = begun;
          calls = sent ++ more;
          last = engine;
          carried = outs;
        }) (outputs-append sent more);
      });
    })

    -- an input is delivered, and then the engine is polled
    host_steps : (passed : Input S D K G C) (old new : Engine S L D K G C)
        → (settled : IsSettledAfter same elect bytes_of is_signature keys_of passed old new)
        → MayBePassed bytes_of (at (after sent old)) (Handled passed) → has_failed new.core ≡ false
        → HasSteps (at (after sent old))
        (at (process_with_calls start (sent ++ Handled passed ∷ (settled.polls.0 ++ Polled [] ∷ [])) begun new))
    host_steps passed old new settled may alive =
        let polls = settled.polls.0 ++ Polled [] ∷ [] in
        let are = settled.polls.2 in
        let lives = (calls_live same elect bytes_of is_signature keys_of polls settled.between new are alive).0 in
        let made = poll_steps polls (sent ++ Handled passed ∷ []) settled.between new
        (polls_then settled.polls.0 [] settled.polls.1) are alive in
        joined _ _ _ (call_step sent (Handled passed) old settled.between settled.call may lives)
        (joined _ _ _ (subst (λ calls. HasSteps (at (after (sent ++ Handled passed ∷ []) settled.between))
        (at (after calls new))) (append_assoc sent (Handled passed ∷ []) polls) made)
        (carry_step (Handled passed ∷ polls) new))

  -- ---- what was sent, and to whom it is delivered

  may_pass : (p q : Process S L D K G C) (vote : Vote D G) → Contains p.carried (output.Vote vote) → vote.signer ≡ 0
      → MayBePassed bytes_of (two_hosts p q) (Handled (input.Vote vote))
  may_pass p q vote has first host at =
      let found : slice_get (two_hosts p q) 0 ≡ Some host =
      subst (λ k. slice_get (two_hosts p q) k ≡ Some host) first at in
      let is : Honest (p ∷ []) ≡ host = cc in
      subst (MayHaveSent vote.subject vote.signer) is
      (vote.signature, Contains-append_left p.carried [] (output.Vote vote) has)

  module _ (p q : Process S L D K G C) (vote : Vote D G) (only : SendsOnly vote p.carried) (none : q.carried ≡ [])
    where
      carried_out : (i : ℕ) (out : Output S D Stored K G C) → HasCarriedOut (two_hosts p q) i out
          → Contains p.carried out
      carried_out zero out (processes, at, has) =
          let are : p ∷ [] ≡ processes = cc in
          subst (λ outs. Contains outs out) (append-nil p.carried)
          (subst (λ ps. Contains (carried_by ps) out) (sym are) has)
      carried_out (suc zero) out (processes, at, has) =
          let are : q ∷ [] ≡ processes = cc in
          none_in out (subst (λ outs. Contains (outs ++ []) out) none
          (subst (λ ps. Contains (carried_by ps) out) (sym are) has))
      carried_out (suc (suc k)) out (processes, at, has) = absurd (cc)

      sent_is : (i j : ℕ) (passed : Input S D K G C) → HasSent (two_hosts p q) i j passed → passed ≡ input.Vote vote
      sent_is i j (input.Vote other) sent =
          ap (λ (v : Vote D G). input.Vote v) (only.only other (carried_out i (output.Vote other) sent))
      sent_is i j (input.Certificate certificate) sent =
          absurd (only.no_certificate certificate (carried_out i (output.Work (work.Broadcast certificate)) sent.1))
      sent_is i j (input.Proposal from proposal) sent = absurd sent
      sent_is i j (input.Verified view is_valid) sent = absurd sent
      sent_is i j (input.Built context payload) sent = absurd sent
      sent_is i j (input.Certified view success) sent = absurd sent
      sent_is i j (input.GivenUp view reason) sent = absurd sent

  none_begun : (p q o r : Process S L D K G C) (i : ℕ) (old new : List (Process S L D K G C))
      → slice_get (two_hosts p q) i ≡ Some (Honest old) → slice_get (two_hosts o r) i ≡ Some (Honest new)
      → length new ≡ length old
  none_begun p q o r zero old new was is =
      let olds : p ∷ [] ≡ old = cc in
      let news : o ∷ [] ≡ new = cc in
      sym (ap (λ (ps : List (Process S L D K G C)). length ps) news)
      ∙ ap (λ (ps : List (Process S L D K G C)). length ps) olds
  none_begun p q o r (suc zero) old new was is =
      let olds : q ∷ [] ≡ old = cc in
      let news : r ∷ [] ≡ new = cc in
      sym (ap (λ (ps : List (Process S L D K G C)). length ps) news)
      ∙ ap (λ (ps : List (Process S L D K G C)). length ps) olds
  none_begun p q o r (suc (suc k)) old new was is = absurd (cc)

  -- what is so of both processes is so of each last one
  of_both : (P : Process S L D K G C → Type 0) (o r : Process S L D K G C) → P o → P r → (i : ℕ)
      (last : Process S L D K G C) → IsLastProcess (two_hosts o r) i last → P last
  of_both P o r first second zero last (before, at) =
      let are : o ∷ [] ≡ before ++ last ∷ [] = cc in subst P (only_item o last before are) first
  of_both P o r first second (suc zero) last (before, at) =
      let are : r ∷ [] ≡ before ++ last ∷ [] = cc in subst P (only_item r last before are) second
  of_both P o r first second (suc (suc k)) last (before, at) = absurd (cc)

  module _ (start : Start S L D K G C) (begun old new : Engine S L D K G C) (sent : List (EngineCall S D K G C))
      (passed : Input S D K G C) (settled : IsSettledAfter same elect bytes_of is_signature keys_of passed old new)
    where
      abbrev more : List (EngineCall S D K G C)
      more = Handled passed ∷ settled.polls.0 ++ Polled [] ∷ []

      abbrev process : Process S L D K G C
      process = process_with_calls start (sent ++ more) begun new

      rests : IsAtRest process
      rests = record {
        before = sent ++ Handled passed ∷ settled.polls.0;
        calls_are = sym (append_assoc sent (Handled passed ∷ settled.polls.0) (Polled [] ∷ []));
        carried = refl;
      }

  -- a vote that was passed is delivered
  delivered : (start : Start S L D K G C) (begun old new : Engine S L D K G C) (sent : List (EngineCall S D K G C))
      (vote : Vote D G)
      (settled : IsSettledAfter same elect bytes_of is_signature keys_of (input.Vote vote) old new)
      → AreLifetimeCalls same elect bytes_of is_signature keys_of sent begun old
      → IsDelivered same elect bytes_of is_signature keys_of (input.Vote vote)
      (process start begun old new sent (input.Vote vote) settled)
  delivered start begun old new sent vote settled earlier = record {
    before = sent;
    after = settled.polls.0 ++ Polled [] ∷ [];
    old = old;
    new = settled.between;
    calls_are = refl;
    earlier = earlier;
    call = settled.call;
    taken = tt;
    later = settled.polls.2;
  }

  -- ---- the round

  abbrev Settles : Input S D K G C → Engine S L D K G C → Engine S L D K G C → Type 0
  Settles passed old new = IsSettledAfter same elect bytes_of is_signature keys_of passed old new

  module _ (vote : Vote D G) (start other : Start S L D K G C)
      (begun first second first_new second_new : Engine S L D K G C) (calls : List (EngineCall S D K G C))
      (earlier : AreLifetimeCalls same elect bytes_of is_signature keys_of calls begun first)
      (only : SendsOnly vote (outputs_of calls)) (signs : vote.signer ≡ 0)
      (settled : Settles (input.Vote vote) first first_new)
      (other_settled : Settles (input.Vote vote) second second_new)
      (alive : has_failed first_new.core ≡ false) (other_alive : has_failed second_new.core ≡ false) where
    abbrev p : Process S L D K G C
    p = process_with_calls start calls begun first

    abbrev q : Process S L D K G C
    q = process_with_calls other [] second second

    abbrev p_new : Process S L D K G C
    p_new = process start begun first first_new calls (input.Vote vote) settled

    abbrev q_new : Process S L D K G C
    q_new = process other second second second_new [] (input.Vote vote) other_settled

    still : Contains p_new.carried (output.Vote vote)
    still =
        let ours = more start begun first first_new calls (input.Vote vote) settled in
        subst (λ outs. Contains outs (output.Vote vote)) (sym (outputs-append calls ours))
        (Contains-append_left (outputs_of calls) (outputs_of ours) (output.Vote vote) only.sent)

    both_steps : HasSteps (two_hosts p q) (two_hosts p_new q_new)
    both_steps =
        joined (two_hosts p q) (two_hosts p_new q) (two_hosts p_new q_new)
        (host_steps 0 (λ o. two_hosts o q) (first_place q) start begun calls (input.Vote vote) first first_new settled
        (may_pass p q vote only.sent signs) alive)
        (host_steps 1 (λ o. two_hosts p_new o) (second_place p_new) other second [] (input.Vote vote) second second_new
        other_settled (may_pass p_new q vote still signs) other_alive)

    all_delivered : (i j : ℕ) (passed : Input S D K G C) (last : Process S L D K G C)
        → HasSent (two_hosts p q) i j passed → IsLastProcess (two_hosts p_new q_new) j last
        → IsDelivered same elect bytes_of is_signature keys_of passed last
    all_delivered i j passed last sent is_last =
        subst (λ it. IsDelivered same elect bytes_of is_signature keys_of it last)
        (sym (sent_is p q vote only refl i j passed sent))
        (of_both (IsDelivered same elect bytes_of is_signature keys_of (input.Vote vote)) p_new q_new
        (delivered start begun first first_new calls vote settled earlier)
        (delivered other second second second_new [] vote other_settled refl) j last is_last)

    vote_round : IsRound same elect bytes_of is_signature keys_of me terms term_length (two_hosts p q)
        (two_hosts p_new q_new)
    vote_round = record {
      stages = both_steps.0;
      steps = both_steps.1;
      none_begun = none_begun p q p_new q_new;
      delivered = all_delivered;
      at_rest = of_both IsAtRest p_new q_new (rests start begun first first_new calls (input.Vote vote) settled)
          (rests other second second second_new [] (input.Vote vote) other_settled);
    }

module _ {S L D K G C : Type 0} (same : D → D → Bool) (elect : Elect L) (bytes_of : C → List ℕ)
    (is_signature : K → Subject D → G → Type 0) (keys_of : S → List K) (me : S → Option ℕ) (terms : L → Terms) where
  -- both engines have settled after their inputs
  pub two_settled : (to_first to_second : Input S D K G C) (first second first_new second_new : Engine S L D K G C)
      → IsSettledAfter same elect bytes_of is_signature keys_of to_first first first_new
      → IsSettledAfter same elect bytes_of is_signature keys_of to_second second second_new
      → MakesRoundOfTwo same elect bytes_of is_signature keys_of me terms to_first to_second first second first_new
      second_new
  two_settled to_first to_second first second first_new second_new settled other_settled term_length vote start other
      begun calls earlier only signs is other_is alive other_alive =
      let ours = subst (λ passed. IsSettledAfter same elect bytes_of is_signature keys_of passed first first_new) is
      settled in
      let theirs = subst (λ passed. IsSettledAfter same elect bytes_of is_signature keys_of passed second second_new)
      other_is other_settled in (
        Handled (input.Vote vote) ∷ (ours.polls.0 ++ Polled [] ∷ []),
        Handled (input.Vote vote) ∷ (theirs.polls.0 ++ Polled [] ∷ []),
        vote_round same elect bytes_of is_signature keys_of me terms term_length vote start other begun first second
            first_new second_new calls earlier only signs ours theirs alive other_alive,
      )
