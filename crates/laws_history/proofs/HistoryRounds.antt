-- What a history says of a view, whole, grows by what its latest event says.
use Rattle.std.proofs.Common.{◌≡◌, ap, sym, ◌∙◌, ℕ, ◌+◌, Bool, false, ◌||◌, if◌then◌else◌, Option, None, unwrap_or, option_map}
use Rattle.std.specs.Prelude.{option_and_then}
use Rattle.std.specs.Option.{option_or}
use Rattle.simplex_types.specs.declared.types.messages.Proposal.{Proposal}
use Rattle.simplex_round.specs.declared.round.Certification.TheVariants.{Ready}
use Rattle.simplex_round.specs.declared.round.Decision.TheVariants.{Nullify, Finalize}
use Rattle.simplex_round.specs.Round.{RoundFacts, is_finalize}
use Rattle.simplex_voter.specs.Facts.{StateFacts, Elect, round_of}
use Rattle.simplex_record.specs.Events.{Event}
use Rattle.laws_history.specs.History.{History, with_event}
use Rattle.laws_history.specs.LeaderHistory.{leader_by_event}
use Rattle.laws_history.specs.OwnWork.{facts_after, was_done, first_said, last_said, held_in, conflict_in, contradicts, first_certificate_by, hears_of, owns, returns_notarization, returns_nullification, returns_finalization, decides_notarize, decides_nullify, decides_finalize}
use Rattle.laws_history.specs.WorkRequests.{sets_verified, asks_to_build, asks_to_verify, asks_for, binds, sets_certification}
use Rattle.laws_history.specs.HistoryRounds.{round_in}
use Rattle.laws_history.specs.HistoryFolds.{or_new, brings_notarization, brings_nullification, brings_finalization}
use Rattle.laws_history.specs.Moments.{enters, proposes, latches, retries, retry_in, decision_in}
use Rattle.laws_history.proofs.EventFacts.{adds}
use Rattle.laws_history.proofs.UnchangedHistories.{known_of_round}
use Rattle.laws_history.proofs.ShownWork.{reply_finalize, decided_further, stalled_further, done_further, first_further, last_further, known_further}
use Rattle.laws_history.proofs.Worked.{work_of, timed, decides, adds_work}

module _ {K L D : Type 0} (same : D → D → Bool) (elect : Elect L) (history : History K L D) (x : StateFacts K L D)
    (facts : x ≡ facts_after same elect history.fresh history.events) (settings : x.settings ≡ history.fresh.settings)
    (terms : x.terms ≡ history.fresh.terms) (e : Event K D) (y : StateFacts K L D) (v : ℕ)
    (earlier : round_of x v ≡ round_in same elect history v)
    (known : known_of_round (round_of y v) ≡ adds same elect x e v (known_of_round (round_of x v)))
    (work : work_of y v ≡ adds_work same elect x e v (work_of x v)) where
  abbrev pub later : History K L D
  later = with_event history e

  -- the decision, and the deadlines that go with it
  decision_further : (round_of y v).decision ≡ decision_in same elect v history.fresh later.events
  decision_further =
      let fresh = history.fresh in
      let events = history.events in
      let z = facts_after same elect fresh events in
      let said : (round_of y v).decision ≡ decides same elect z e v (decision_in same elect v fresh events) =
      ap (λ k. k.decision) work
      ∙ ap (λ (r : RoundFacts K D). decides same elect x e v r.decision) earlier
      ∙ ap (λ (a : StateFacts K L D). decides same elect a e v (decision_in same elect v fresh events)) facts in
      let finalized : is_finalize (round_of x v).decision ≡ was_done same elect (decides_finalize same elect v) fresh
      events =
      ap (λ (r : RoundFacts K D). is_finalize r.decision) earlier
      ∙ reply_finalize fresh.settings
      (was_done same elect (decides_finalize same elect v) fresh events)
      (was_done same elect (decides_nullify v) fresh events)
      (last_said same elect (enters v) fresh events)
      (first_said same elect (latches same elect v) fresh events)
      (retry_in same elect v fresh events) in
      let set_up : z.settings ≡ fresh.settings = ap (λ (a : StateFacts K L D). a.settings) (sym facts) ∙ settings in
      let replied : (round_of y v).decision ≡ (if decides_finalize same elect v z e then Finalize
      else (if decides_nullify v z e then Nullify None else timed fresh.settings (enters v z e)
      (latches same elect v z e) (retries v z e) (decision_in same elect v fresh events))) =
      said ∙ ap (λ s. if decides_finalize same elect v z e then Finalize
      else (if decides_nullify v z e then Nullify None else timed s (enters v z e) (latches same elect v z e)
      (retries v z e) (decision_in same elect v fresh events))) set_up in
      decided_further
      fresh.settings
      (decides_finalize same elect v z e)
      (was_done same elect (decides_finalize same elect v) fresh events)
      (decides_nullify v z e)
      (was_done same elect (decides_nullify v) fresh events)
      (enters v z e)
      (last_said same elect (enters v) fresh events)
      (latches same elect v z e)
      (first_said same elect (latches same elect v) fresh events)
      (retries v z e)
      (retry_in same elect v fresh events)
      (round_of y v).decision
      replied
      (ap (λ k. k.finalize_decided) known ∙ done_further same elect history x facts e (decides_finalize same elect v)
      (is_finalize (round_of x v).decision) finalized)

  pub round_further : round_of y v ≡ round_in same elect later v
  round_further =
      let fresh = history.fresh in
      let events = history.events in
      λ i. record {
        me = (ap (λ k. k.me) work ∙ ap (λ r. r.me) earlier) i;
        members = (ap (λ k. k.members) work ∙ ap (λ r. r.members) earlier) i;
        round = (ap (λ k. k.round) work ∙ ap (λ r. r.round) earlier) i;
        entered_at = (ap (λ k. k.entered_at) work
            ∙ first_further same elect history x facts e (enters v) (round_of x v).entered_at
            (ap (λ r. r.entered_at) earlier)) i;
        proposed_at = (ap (λ k. k.proposed_at) work
            ∙ last_further same elect history x facts e (proposes same elect v) (round_of x v).proposed_at
            (ap (λ r. r.proposed_at) earlier)) i;
        leader = (ap (λ k. k.leader) work ∙ first_further same elect history x facts e (leader_by_event same elect v)
            (round_of x v).leader (ap (λ r. r.leader) earlier)) i;
        slot = record {
          held = held_further i;
          conflict = conflict_further i;
          verified = (ap (λ k. k.verified) work ∙ known_further same elect history x facts e
              (sets_verified same elect v) false (round_of x v).slot.verified (ap (λ r. r.slot.verified) earlier)) i;
          build_requested = (ap (λ k. k.build_requested) work
              ∙ known_further same elect history x facts e (asks_to_build same elect v) false
              (round_of x v).slot.build_requested (ap (λ r. r.slot.build_requested) earlier)) i;
          verify_requested = (ap (λ k. k.verify_requested) work
              ∙ done_further same elect history x facts e (asks_to_verify same elect v)
              (round_of x v).slot.verify_requested (ap (λ r. r.slot.verify_requested) earlier)) i;
        };
        decision = decision_further i;
        stall_deadline = stall_further i;
        notarize_decided = (ap (λ k. k.notarize_decided) known
            ∙ done_further same elect history x facts e (decides_notarize same elect v) (round_of x v).notarize_decided
            (ap (λ r. r.notarize_decided) earlier)) i;
        notarization =
            (ap (λ k. k.notarization) known ∙ ap (λ r. or_new r.notarization (brings_notarization v e)) earlier) i;
        notarization_broadcast = (ap (λ k. k.notarization_broadcast) known
            ∙ done_further same elect history x facts e (returns_notarization v) (round_of x v).notarization_broadcast
            (ap (λ r. r.notarization_broadcast) earlier)) i;
        nullification =
            (ap (λ k. k.nullification) known ∙ ap (λ r. or_new r.nullification (brings_nullification v e)) earlier) i;
        nullification_broadcast = (ap (λ k. k.nullification_broadcast) known
            ∙ done_further same elect history x facts e (returns_nullification v) (round_of x v).nullification_broadcast
            (ap (λ r. r.nullification_broadcast) earlier)) i;
        finalization =
            (ap (λ k. k.finalization) known ∙ ap (λ r. or_new r.finalization (brings_finalization v e)) earlier) i;
        finalization_broadcast = (ap (λ k. k.finalization_broadcast) known
            ∙ done_further same elect history x facts e (returns_finalization v) (round_of x v).finalization_broadcast
            (ap (λ r. r.finalization_broadcast) earlier)) i;
        certification = (ap (λ k. k.certification) work
            ∙ known_further same elect history x facts e (sets_certification v) Ready (round_of x v).certification
            (ap (λ r. r.certification) earlier)) i;
        last_request = (ap (λ k. k.last_request) work
            ∙ last_further same elect history x facts e (asks_for same elect v) (round_of x v).last_request
            (ap (λ r. r.last_request) earlier)) i;
        binding = (ap (λ k. k.binding) work ∙ known_further same elect history x facts e (binds same elect v) None
            (round_of x v).binding (ap (λ r. r.binding) earlier)) i;
      }
    where
      z : StateFacts K L D
      z = facts_after same elect history.fresh history.events

      said_held : Option (Proposal D)
      said_held = held_in same elect v history.fresh history.events

      held_further : (round_of y v).slot.held ≡ held_in same elect v history.fresh later.events
      held_further =
          ap (λ k. k.held) known
          ∙ ap (λ (r : RoundFacts K D). option_or (first_certificate_by v x e)
          (or_new r.slot.held (option_or (hears_of v x e) (owns same elect v x e)))) earlier
          ∙ ap (λ (a : StateFacts K L D). option_or (first_certificate_by v a e)
          (or_new said_held (option_or (hears_of v a e) (owns same elect v a e)))) facts

      conflict_further : (round_of y v).slot.conflict ≡ conflict_in same elect v history.fresh later.events
      conflict_further =
          ap (λ k. k.conflict) known
          ∙ ap (λ (r : RoundFacts K D). contradicts same r.slot.held
          (option_or (first_certificate_by v x e) (hears_of v x e)) || r.slot.conflict) earlier
          ∙ ap (λ (a : StateFacts K L D). contradicts same said_held
          (option_or (first_certificate_by v a e) (hears_of v a e)) || conflict_in same elect v history.fresh
          history.events) facts

      stall_further : (round_of y v).stall_deadline ≡ option_and_then
          (λ at. option_map (λ time. at + time) history.fresh.terms.stall_timeout)
          (last_said same elect (enters v) history.fresh later.events)
      stall_further =
          let last = last_said same elect (enters v) history.fresh history.events in
          ap (λ k. k.stall_deadline) work
          ∙ ap (λ (r : RoundFacts K D). unwrap_or
          (option_map (λ at. option_map (λ time. at + time) x.terms.stall_timeout) (enters v x e)) r.stall_deadline)
          earlier
          ∙ ap (λ t. unwrap_or (option_map (λ at. option_map (λ time. at + time) t.stall_timeout) (enters v x e))
          (option_and_then (λ at. option_map (λ time. at + time) history.fresh.terms.stall_timeout) last)) terms
          ∙ stalled_further history.fresh.terms.stall_timeout (enters v x e) last
          ∙ ap (λ (a : StateFacts K L D). option_and_then
          (λ at. option_map (λ time. at + time) history.fresh.terms.stall_timeout) (option_or (enters v a e) last))
          facts
