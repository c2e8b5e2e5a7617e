-- Views are followed within two rounds: two members meet, or one of them enters a view.
use Rattle.std.proofs.Common.{◌≡◌, refl, sym, ◌∙◌, subst, ℕ, ◌≤◌, ◌⊎◌, inl, inr, Bool, true, false, List, [], ◌∷◌, Option, arith}
use Rattle.std.specs.Prelude.{◌≢◌}
use Rattle.std.proofs.lemmas.Bool.{false≢true, cases_lt}
use Rattle.simplex_types.specs.Certificates.{CertificateFacts}
use Rattle.simplex_types.specs.declared.types.messages.Subject.{Subject}
use Rattle.simplex_types.specs.declared.types.messages.Subject.TheVariants as subject
use Rattle.simplex_types.specs.declared.types.window.Terms.{Terms}
use Rattle.simplex_voter.specs.Facts.{StateFacts, Elect, round_number}
use Rattle.laws_safety.specs.Agreement.{FinalizedUncovered}
use Rattle.laws_safety.specs.LifetimeLaws.{KindOfCertificate, Notarization, Nullification, Finalization}
use Rattle.laws_safety.specs.Replicas.{OfEachNetwork}
use Rattle.laws_safety.specs.Traces.{TraceEvent}
use Rattle.laws_safety.proofs.frames.RunsKeep.{HoldsIn}
use Rattle.laws_hosts.specs.HostNetworks.{Host, IsCertifiable, IsHostNetwork}
use Rattle.laws_hosts.proofs.CallTraces.{AcceptsGood}
use Rattle.laws_rounds.specs.Finality.{HasFinalized, HasLeft, HasNotarization, SpreadsInRounds}
use Rattle.laws_rounds.specs.Rounds.{IsAtRest, IsRound, RoundsKeepNetworks}
use Rattle.laws_meetings.specs.AwaitedVerdicts.{AwaitsVerdictOn, VerdictsAreAwaited}
use Rattle.laws_meetings.specs.Broadcasts.{SendsAllAtRest}
use Rattle.laws_meetings.specs.Meetings.{Follows, Reaches, BeganWith, AwaitsVerdict, HasSentCertificate, CertifiesAlike, IsStateOf, ViewsAreFollowed, ViewsMeet}
use Rattle.laws_meetings.specs.TrackedCertificates.{tracks, has_had, IsOf}
use Rattle.laws_meetings.proofs.FollowedViews.{followed}
use Rattle.laws_meetings.proofs.HostCertificates.{uncovered, good_last, steps_certifiable}
use Rattle.laws_meetings.proofs.LedRuns.{ShowsTrace, not_covered, history_led}
use Rattle.laws_meetings.proofs.LedViews.{IsLedAhead, IsUncovered}
use Rattle.laws_meetings.proofs.SentByHosts.{sent_at_rest, sent_by_or_not, reaches}

-- nothing is in the way, where the host has sent what its process began with, and the verdicts agree
reached_so : {K L D : Type 0} (sent : KindOfCertificate → ℕ → Type 0) (awaits : ℕ → Type 0)
    (first x y : StateFacts K L D)
    → ((kind : KindOfCertificate) (view : ℕ) → x.finalized ≤ view → has_had kind first view ≡ true → sent kind view)
    → CertifiesAlike x y → Follows sent awaits first x y → x.current ≤ y.current
reached_so sent awaits first x y all_sent alike (Reaches is) = is
reached_so sent awaits first x y all_sent alike (BeganWith kind view is above there had unsent) =
    absurd (unsent (all_sent kind view above had))
reached_so sent awaits first x y all_sent alike (AwaitsVerdict view is judged tracked not_yet lacking) =
    absurd (false≢true (sym not_yet ∙ alike view judged tracked))

module _ {S L D K G C : Type 0} (same : D → D → Bool) (decides : (d e : D) → same d e ≡ true → d ≡ e)
    (elect : Elect L) (bytes : D → List ℕ) (bytes_of : C → List ℕ) (is_signature : K → Subject D → G → Type 0)
    (keys_of : S → List K) (me : S → Option ℕ) (terms : L → Terms)
    (keep : RoundsKeepNetworks {C = C} same elect bytes_of is_signature keys_of me terms)
    (finality : SpreadsInRounds {C = C} same elect bytes_of is_signature keys_of me terms HasFinalized)
    (nullifications : SpreadsInRounds {C = C} same elect bytes_of is_signature keys_of me terms HasLeft)
    (notarizations : SpreadsInRounds {C = C} same elect bytes_of is_signature keys_of me terms HasNotarization)
    (sends : SendsAllAtRest {C = C} same elect bytes bytes_of is_signature keys_of)
    (verdicts : VerdictsAreAwaited {C = C} same elect bytes bytes_of is_signature keys_of me terms)
    (agree : OfEachNetwork K same elect (λ length members. FinalizedUncovered members length)) where
  abbrev IsNetwork : ℕ → List (Host S L D K G C) → Type 0
  IsNetwork term_length hosts = IsHostNetwork same elect bytes_of is_signature keys_of me terms term_length hosts

  abbrev Rounds : ℕ → List (Host S L D K G C) → List (Host S L D K G C) → Type 0
  Rounds term_length hosts later = IsRound same elect bytes_of is_signature keys_of me terms term_length hosts later

  abbrev HasState : List (Host S L D K G C) → ℕ → StateFacts K L D → StateFacts K L D → Type 0
  HasState hosts i first last = IsStateOf same elect bytes bytes_of is_signature keys_of hosts i first last

  module _ (term_length : ℕ) (hosts : List (Host S L D K G C)) (i : ℕ) (first last : StateFacts K L D)
      (network : IsNetwork term_length hosts) (at : HasState hosts i first last) where
    -- all that the member has done, by certificates that may exist
    record HasTrace : Type 0 where
      trace : List (TraceEvent D)
      good : AcceptsGood (IsCertifiable hosts) trace
      shows : ShowsTrace term_length trace last
      led : IsLedAhead last

    traced : HasTrace
    traced =
        let member = at.process.last.core.member.facts in
        let found = good_last same elect bytes_of is_signature keys_of me terms term_length hosts network i at.process
        at.is_last in
        let history = history_led same decides elect term_length i found.0 member found.1.done
        (λ final round is_final is_nullified. uncovered same elect bytes_of is_signature keys_of me terms term_length
        hosts network agree final round (found.1.good (subject.Finalize final) is_final)
        (found.1.good (subject.Nullify round) is_nullified)) in
        record {
          trace = found.0;
          good = found.1.good;
          shows = subst (HoldsIn (ShowsTrace term_length found.0)) at.states.lives history.0;
          led = subst (HoldsIn IsLedAhead) at.states.lives history.1;
        }

  -- of two states, of a network and of a later one: no nullification of the first covers the second's finalized view
  module _ (term_length : ℕ) (hosts later : List (Host S L D K G C)) (i j : ℕ) (first x begun y : StateFacts K L D)
      (network : IsNetwork term_length hosts) (later_network : IsNetwork term_length later)
      (still : (c : Subject D) → IsCertifiable hosts c → IsCertifiable later c)
      (at_i : HasState hosts i first x) (at_j : HasState later j begun y) where
    none_covered : IsUncovered x y
    none_covered =
        let traced_i = traced term_length hosts i first x network at_i in
        let traced_j = traced term_length later j begun y later_network at_j in
        not_covered term_length traced_i.trace traced_j.trace x y
        (λ final round is_final is_nullified. uncovered same elect bytes_of is_signature keys_of me terms term_length
        later later_network agree final round (traced_j.good (subject.Finalize final) is_final)
        (still (subject.Nullify round) (traced_i.good (subject.Nullify round) is_nullified))) traced_i.shows
        traced_j.shows

  pub views_follow : ViewsAreFollowed {C = C} same elect bytes bytes_of is_signature keys_of me terms
  views_follow term_length hosts next later network first_round second_round i j first last begun state apart at_i at_j
      same_epoch =
      let traced_i = traced term_length next i first last next_network at_i in
      let traced_j = traced term_length later j begun state later_network at_j in
      followed (λ kind v. HasSentCertificate bytes_of next i kind (round_number last v))
      (AwaitsVerdictOn elect at_j.process state)
      (λ kind v. sent_by_or_not bytes_of next i at_i.process at_i.is_last kind (round_number last v)) first last state
      same_epoch (traced_i.shows.terms ∙ sym traced_j.shows.terms) traced_i.led traced_j.led.ahead
      traced_j.shows.certified
      (none_covered term_length next next i i first last first last next_network next_network (λ c may. may) at_i at_i)
      (none_covered term_length next later i j first last begun state next_network later_network
      (steps_certifiable same elect bytes_of is_signature keys_of me terms term_length second_round.stages next later
      next_network second_round.steps) at_i at_j)
      (record {
        finalization = λ v above there out. shown HasFinalized finality Finalization v above there out;
        nullification = λ v above there out. shown HasLeft nullifications Nullification v above there out;
        notarization = λ v above there out. shown HasNotarization notarizations Notarization v above there out;
      })
      (verdicts term_length later later_network j at_j.process begun state at_j.is_last at_j.runs
      (second_round.at_rest j at_j.process at_j.is_last) at_j.states)
    where
      next_network : IsNetwork term_length next
      next_network = keep term_length (next ∷ []) hosts next network (first_round, refl)

      later_network : IsNetwork term_length later
      later_network = keep term_length (later ∷ []) next later next_network (second_round, refl)

      rest : IsAtRest at_i.process
      rest = first_round.at_rest i at_i.process at_i.is_last

      shown : (Shows : CertificateFacts D → StateFacts K L D → Type 0)
          → SpreadsInRounds {C = C} same elect bytes_of is_signature keys_of me terms Shows
          → (kind : KindOfCertificate) (v : ℕ) → last.finalized ≤ v → tracks kind last v ≡ true
          → (has_had kind first v ≡ false) ⊎ HasSentCertificate bytes_of next i kind (round_number last v)
          → (c : CertificateFacts D) × IsOf kind (round_number last v) c × Shows c state
      shown Shows spreads kind v above there out =
          let sent : HasSentCertificate bytes_of next i kind (round_number last v) = elim out [
            | inl new ↦ sent_at_rest bytes_of next i at_i.process at_i.is_last rest kind (round_number last v)
                (sends at_i.process first last at_i.runs rest at_i.states kind v above there new)
            | inr before ↦ before
          ] in
          let by = reaches same elect bytes_of is_signature keys_of me terms term_length Shows spreads next later i j
          at_j.process begun state next_network second_round apart at_j.is_last at_j.states kind (round_number last v)
          sent in
          (by.facts, by.is_of, by.shown)

  -- one member comes to where the other one was
  comes : (term_length : ℕ) (hosts next later : List (Host S L D K G C)) → IsNetwork term_length hosts
      → Rounds term_length hosts next → Rounds term_length next later → (i j : ℕ) (first x begun y : StateFacts K L D)
      → i ≢ j → HasState next i first x → HasState later j begun y
      → ((kind : KindOfCertificate) (view : ℕ) → x.finalized ≤ view → has_had kind first view ≡ true
      → HasSentCertificate bytes_of next i kind (round_number x view))
      → x.settings.epoch ≡ y.settings.epoch → CertifiesAlike x y → x.current ≤ y.current
  comes term_length hosts next later network first_round second_round i j first x begun y apart at_i at_j all_sent
      same_epoch alike =
      reached_so (λ kind view. HasSentCertificate bytes_of next i kind (round_number x view))
      (AwaitsVerdictOn elect at_j.process y) first x y all_sent alike
      (views_follow term_length hosts next later network first_round second_round i j first x begun y apart at_i at_j
      same_epoch)

  pub views_meet : ViewsMeet {C = C} same elect bytes bytes_of is_signature keys_of me terms
  views_meet term_length hosts next later network first_round second_round i j x x_now y y_now apart seen_i seen_j
      forth_epoch back_epoch forth_alike back_alike =
      let forth = comes term_length hosts next later network first_round second_round i j seen_i.first x seen_j.begun
      y_now apart seen_i.was seen_j.is seen_i.sent forth_epoch forth_alike in
      let back = comes term_length hosts next later network first_round second_round j i seen_j.first y seen_i.begun
      x_now (λ same_one. apart (sym same_one)) seen_j.was seen_i.is seen_j.sent back_epoch back_alike in
      elim (cases_lt x.current x_now.current) [
        | inl first_enters ↦ inl first_enters
        | inr first_stays ↦ elim (cases_lt y.current y_now.current) [
          | inl second_enters ↦ inr (inl second_enters)
          | inr second_stays ↦ inr (inr (omega (arith, forth, back, first_stays, second_stays)))
        ]
      ]
