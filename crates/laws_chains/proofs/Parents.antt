-- The parent of a finalized proposal, and of a notarized one that starts a term.
use Rattle.std.proofs.Common.{◌≡◌, ◌≢◌, refl, sym, ◌∙◌, subst, ℕ, ◌-◌, ◌<◌, ◌⊎◌, inl, inr, Bool, true, false, ◌&&◌, ◌==◌, List, length, Contains, slice_get, Option, Some, None, is_some, arith}
use Rattle.std.specs.Option.{option_map_or}
use Rattle.std.proofs.lemmas.Bool.{false≢true, true≢false, eqb-true, eq-eqb, ne_eqb, cases_Bool}
use Rattle.simplex_types.specs.Terms.{term_start}
use Rattle.simplex_types.specs.declared.types.messages.Proposal.{Proposal}
use Rattle.simplex_types.specs.declared.types.messages.Subject.{Subject}
use Rattle.simplex_types.specs.declared.types.messages.Subject.TheVariants as subject
use Rattle.simplex_voter.specs.Facts.{StateFacts, Elect, round_number}
use Rattle.simplex_voter.specs.Payloads.{explicit_ancestry_payload, is_elected_early}
use Rattle.simplex_voter.specs.Windows.{is_term_start, is_me}
use Rattle.simplex_voter.proofs.Gaps.{and_parts}
use Rattle.laws_safety.specs.Traces.{Signs}
use Rattle.laws_safety.specs.Replicas.{Replica, Honest, MayHaveSigned, Backed, IsNetworkOf, quorum}
use Rattle.laws_safety.specs.Executions.{Execution, trace_of}
use Rattle.laws_safety.proofs.agreement.Claims.{finalized_notarized}
use Rattle.laws_safety.proofs.agreement.Quorums.{shared_member}
use Rattle.laws_progress.specs.ViewCauses.{judged_of}
use Rattle.laws_progress.proofs.runs.Ends.{end_shown}
use Rattle.laws_progress.proofs.runs.Explicit.{explicit_led}
use Rattle.laws_progress.proofs.runs.LedLives.{state_led, judged_are_notarized}
use Rattle.laws_chains.specs.Parents.{NoneElectsEarly, HandoffsAreWitnessed, HasCertifiedProposal, FinalizedHaveParents, NotarizedStartsHaveParents}
use Rattle.laws_chains.proofs.Setups.{state_kept, early_kept, alike_kept}
use Rattle.laws_chains.proofs.StatesAtVotes.{IsRuled, StateWhere, StateAtVote, state_at_vote}
use Rattle.laws_chains.proofs.ParentsOfVotes.{IsAhead, notarized_on, finalized_on}
use Rattle.laws_chains.proofs.Quorums.{HonestFrom, two_from}

some_at : {A : Type 0} (o : Option A) → is_some o ≡ true → (a : A) × (o ≡ Some a)
some_at None is = absurd (false≢true is)
some_at (Some a) is = (a, refl)

-- a member that is elected early is the one that the elector names
elected_is : {K L D : Type 0} (elect : Elect L) (x : StateFacts K L D) (v j : ℕ) (elector : L) (epoch : ℕ)
    → x.me ≡ Some j → (x.elector ≡ elector) × (x.settings.epoch ≡ epoch) → is_elected_early elect x v ≡ true
    → j ≡ elect elector (record { epoch = epoch; view = v }) None
elected_is {K} {L} {D} elect x v j elector epoch me (by, of) early =
    let mine : is_me x (elect x.elector (round_number x v) None) ≡ true =
    (and_parts (is_term_start x v && x.elects_early) _ early).1 in
    let named : j ≡ elect x.elector (round_number x v) None =
    eqb-true j _ (subst
    (λ (o : Option ℕ). option_map_or (λ m. m == elect x.elector (round_number x v) None) o false ≡ true) me mine) in
    named ∙ (λ t. elect (by t) (record { epoch = of t; view = v }) None)

module _ {K L D : Type 0} (same : D → D → Bool) (decides : (d e : D) → same d e ≡ true → d ≡ e) (elect : Elect L)
    (term_length : ℕ) (network : List (Replica K L D)) (good : IsNetworkOf same elect term_length network) where
  -- what an honest member has explicit on its way found
  module _ (i : ℕ) (s : Execution K L D) (at : slice_get network i ≡ Some (Honest s))
      (Holds : StateFacts K L D → Type 0) (cast : StateWhere same elect term_length i s Holds) where
    abbrev pub earlier : Execution K L D
    earlier = record s { steps = cast.steps; replies = cast.replies }

    pub explicit_certified : (u : ℕ) → 0 < u → is_some (explicit_ancestry_payload cast.x u) ≡ true
        → HasCertifiedProposal network u
    explicit_certified u some is =
        let payload = some_at (explicit_ancestry_payload cast.x u) is in
        let led = state_led same decides elect term_length i earlier cast.ran cast.x cast.lives in
        elim (explicit_led term_length (trace_of earlier) (judged_of earlier) cast.x led u payload.0 some payload.1) [
          | inl (q, h, of) ↦ (q, of.0, inl (good.backed i s (subject.Finalize q) at (cast.trace_within _ h)))
          | inr (q, h, of) ↦ (
            q,
            of.0,
            inr (
              good.backed i s (subject.Notarize q) at
                  (cast.trace_within _
                  (judged_are_notarized same decides elect term_length i earlier cast.ran true q h)),
              (i, s, at, cast.judged_within _ h),
            ),
          )
        ]

    pub terms_are : cast.x.terms.term_length ≡ term_length
    terms_are =
        (end_shown same decides elect term_length i earlier cast.ran cast.x cast.lives).living.keeps.stays.stands.terms

  -- the parent of a proposal that an honest member voted for found, or the member voted ahead

  module _ (i : ℕ) (s : Execution K L D) (at : slice_get network i ≡ Some (Honest s)) (j : ℕ) (p : Proposal D)
      (cast : StateAtVote same elect term_length i s j (subject.Notarize p)) where
    pub voted_on : 0 < p.parent → HasCertifiedProposal network p.parent ⊎ IsAhead elect cast.x p.round.view p.parent
    voted_on some =
        let rule = cast.holds.0 in
        let shown = end_shown same decides elect term_length i
        (earlier i s at (λ x. IsRuled same elect x j (subject.Notarize p)) cast) cast.ran cast.x cast.lives in
        let noted = shown.living.noted in
        let on = notarized_on same elect cast.x rule.0 noted.0 noted.1
        (trace_of (earlier i s at (λ x. IsRuled same elect x j (subject.Notarize p)) cast)) _ noted.2 rule.1 p
        rule.2 some in
        elim on.1 [
          | inl is ↦
              inl (explicit_certified i s at (λ x. IsRuled same elect x j (subject.Notarize p)) cast p.parent some is)
          | inr ahead ↦ inr (subst (λ v. IsAhead elect cast.x v p.parent) (sym on.0) ahead)
        ]

  pub votes_of : (i : ℕ) (s : Execution K L D) → slice_get network i ≡ Some (Honest s) → (j : ℕ) (vote : Subject D)
      → Contains (trace_of s) (Signs j vote) → StateAtVote same elect term_length i s j vote
  votes_of i s at j vote h = state_at_vote same elect term_length i s (good.honest i s at) j vote h

  -- at a term's start

  module _ (p : Proposal D) (some : 0 < p.parent) (start : p.round.view ≡ term_start term_length p.round.view) where
    starts : (x : StateFacts K L D) → x.terms.term_length ≡ term_length → is_term_start x p.round.view ≡ true
    starts x terms = eq-eqb p.round.view (term_start x.terms.term_length p.round.view)
        (subst (λ n. p.round.view ≡ term_start n p.round.view) (sym terms) start)

    early_or : (i : ℕ) (s : Execution K L D) (at : slice_get network i ≡ Some (Honest s)) (j : ℕ)
        (cast : StateAtVote same elect term_length i s j (subject.Notarize p))
        → HasCertifiedProposal network p.parent ⊎ (is_elected_early elect cast.x p.round.view ≡ true)
    early_or i s at j cast = elim (voted_on i s at j p cast some) [
      | inl found ↦ inl found
      | inr (below, inl (inside, within)) ↦ absurd
          (true≢false
          (sym (starts cast.x (terms_are i s at (λ x. IsRuled same elect x j (subject.Notarize p)) cast)) ∙ inside))
      | inr (below, inr early) ↦ inr early
    ]

    none_early : NoneElectsEarly network → Backed network (subject.Notarize p) → HasCertifiedProposal network p.parent
    none_early never notarized =
        let m = shared_member network (subject.Notarize p) (subject.Notarize p) good.few_faulty notarized notarized in
        let cast = votes_of m.0 m.1 m.2 m.3.0 (subject.Notarize p) m.3.1 in
        elim (early_or m.0 m.1 m.2 m.3.0 cast) [
          | inl found ↦ found
          | inr early ↦
              (let lives = never m.0 m.1 m.2 in
              let late = state_kept same elect (λ x. x.elects_early ≡ false) (λ x e. early_kept same elect x e)
              (earlier m.0 m.1 m.2 (λ x. IsRuled same elect x m.3.0 (subject.Notarize p)) cast) cast.x cast.lives
              lives.first (λ r h. lives.later r (cast.restarts_within r h)) in
              let does = (and_parts (is_term_start cast.x p.round.view) cast.x.elects_early
              (and_parts (is_term_start cast.x p.round.view && cast.x.elects_early) _ early).0).1 in
              absurd (true≢false (sym does ∙ late)))
        ]

    pub start_parent : Backed network (subject.Notarize p) → HandoffsAreWitnessed network
        → HasCertifiedProposal network p.parent
    start_parent notarized (inl never) = none_early never notarized
    start_parent notarized (inr ((elector, epoch, alike), two_honest)) =
        let two = two_from (MayHaveSigned (subject.Notarize p)) 0 (quorum (length network)) network notarized two_honest
        in
        elim (voter_alike two.one) [
          | inl found ↦ found
          | inr first ↦ elim (voter_alike two.two) [
            | inl found ↦ found
            | inr second ↦ absurd (omega (arith, two.apart, first, second))
          ]
        ]
      where
        voter_alike : (h : HonestFrom (MayHaveSigned (subject.Notarize p)) 0 network)
            → HasCertifiedProposal network p.parent
            ⊎ (h.index ≡ elect elector (record { epoch = epoch; view = p.round.view }) None)
        voter_alike h =
            let cast = votes_of h.place h.s h.at h.index (subject.Notarize p) h.has in
            elim (early_or h.place h.s h.at h.index cast) [
              | inl found ↦ inl found
              | inr early ↦
                  (let lives = alike h.place h.s h.at in
                  let so = state_kept same elect (λ x. (x.elector ≡ elector) × (x.settings.epoch ≡ epoch))
                  (λ x e. alike_kept same elect x e elector epoch)
                  (earlier h.place h.s h.at (λ x. IsRuled same elect x h.index (subject.Notarize p)) cast) cast.x
                  cast.lives lives.first (λ r g. lives.later r (cast.restarts_within r g)) in
                  inr (elected_is elect cast.x p.round.view h.index elector epoch cast.holds.1 so early))
            ]

  pub notarized_starts : NotarizedStartsHaveParents term_length network
  notarized_starts p notarized some start seen = start_parent p some start notarized seen

  -- inside a term

  inside_parent : (final : Proposal D) → Backed network (subject.Finalize final) → 0 < final.parent
      → final.round.view ≢ term_start term_length final.round.view → HasCertifiedProposal network final.parent
  inside_parent final finalized some inside =
      let m = shared_member network (subject.Notarize final) (subject.Finalize final) good.few_faulty
      (finalized_notarized same decides elect term_length network good final finalized) finalized in
      let noted = votes_of m.0 m.1 m.2 m.3.0 (subject.Notarize final) m.3.1 in
      let cast = votes_of m.0 m.1 m.2 m.4.0 (subject.Finalize final) m.4.1 in
      let rule = cast.holds.0 in
      let shown = end_shown same decides elect term_length m.0
      (earlier m.0 m.1 m.2 (λ x. IsRuled same elect x m.4.0 (subject.Finalize final)) cast) cast.ran cast.x
      cast.lives in
      let placed : final.round.view ≡ rule.0 = shown.living.noted.2.placed rule.0 final rule.2 in
      let within : is_term_start cast.x rule.0 ≡ false =
      subst (λ v. is_term_start cast.x v ≡ false) placed
      (ne_eqb final.round.view (term_start cast.x.terms.term_length final.round.view)
      (λ is. inside (subst (λ n. final.round.view ≡ term_start n final.round.view)
      (terms_are m.0 m.1 m.2 (λ x. IsRuled same elect x m.4.0 (subject.Finalize final)) cast) is))) in
      elim (voted_on m.0 m.1 m.2 m.3.0 final noted some) [
        | inl found ↦ found
        | inr (below, ahead) ↦
            (let before : rule.0 - 1 ≡ final.parent = omega (arith, below, placed) in
            explicit_certified m.0 m.1 m.2 (λ x. IsRuled same elect x m.4.0 (subject.Finalize final)) cast final.parent
            some (subst (λ u. is_some (explicit_ancestry_payload cast.x u) ≡ true) before
            (finalized_on elect cast.x rule.0 rule.1 final rule.2 within)))
      ]

  pub finalized_parents : FinalizedHaveParents term_length network
  finalized_parents final finalized some how =
      elim (cases_Bool (final.round.view == term_start term_length final.round.view)) [
        | inr apart ↦ inside_parent final finalized some
            (λ is.
            absurd (true≢false (sym (eq-eqb final.round.view (term_start term_length final.round.view) is) ∙ apart)))
        | inl is ↦ elim how [
          | inl inside ↦ absurd (inside (eqb-true final.round.view (term_start term_length final.round.view) is))
          | inr seen ↦ start_parent final some (eqb-true final.round.view (term_start term_length final.round.view) is)
              (finalized_notarized same decides elect term_length network good final finalized) seen
        ]
      ]
