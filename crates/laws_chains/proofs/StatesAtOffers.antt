-- The state of a member where it offered a proposal to be certified.
use Rattle.std.proofs.Common.{◌≡◌, refl, ap, sym, ◌∙◌, subst, ℕ, ◌-◌, inl, inr, Bool, true, false, ◌&&◌, ◌+◌, ◌==◌, nat_lt, if◌then◌else◌, List, [], ◌∷◌, ◌++◌, Contains, Option, Some, None, is_some, unwrap_or, Ok, Err, arith}
use Rattle.std.specs.Prelude.{option_and_then}
use Rattle.std.specs.List.{filter_map, cons_option}
use Rattle.std.specs.Option.{option_map_or}
use Rattle.std.proofs.lemmas.Bool.{false≢true, true≢false}
use Rattle.simplex_types.specs.Proposal.{same_proposal}
use Rattle.simplex_types.specs.Certificates.{ProposalFacts}
use Rattle.simplex_types.specs.declared.types.fault.Fault.{Fault}
use Rattle.simplex_types.specs.declared.types.messages.Proposal.{Proposal}
use Rattle.simplex_round.specs.Round.{is_ready}
use Rattle.simplex_voter.specs.Facts.{StateFacts, Elect, round_of}
use Rattle.simplex_voter.specs.Windows.{is_term_start}
use Rattle.simplex_voter.specs.Parents.{has_valid_parent_span}
use Rattle.simplex_voter.specs.Payloads.{explicit_ancestry_payload}
use Rattle.simplex_voter.specs.Rules.{required_certification_parent, was_handed_over}
use Rattle.simplex_voter.specs.Certification.{certification_parent_ready, offered_of}
use Rattle.simplex_voter.proofs.Gaps.{and_parts}
use Rattle.simplex_member.specs.CallConditions.{is_allowed, fault_of}
use Rattle.simplex_member.specs.Calls.{CallFacts, CertifyCandidates, ReplyFacts, Candidates, NotAllowed}
use Rattle.simplex_member.specs.CallSemantics.{answer}
use Rattle.simplex_member.specs.MemberFacts.{MemberFacts, IsCall, AnswersAlive, reply_of, unless_refused}
use Rattle.simplex_member.specs.OutstandingWork.{OutstandingWork}
use Rattle.simplex_member.specs.Runs.{StepFacts, Calls, Prunes, Restarts, IsStep, IsRun, IsRunFrom}
use Rattle.laws_safety.specs.ExactVotes.{proposal_at}
use Rattle.laws_safety.specs.Executions.{new_member, Execution, IsExecution}
use Rattle.laws_safety.proofs.lists.Splits.{Contains-cases}
use Rattle.laws_chains.specs.Chains.{WasOffered}
use Rattle.laws_chains.proofs.StatesAtVotes.{StateWhere, state_where}

-- what a reply offers
abbrev offers_in : {K D : Type 0} → ReplyFacts K D → List (Proposal D)
offers_in (Candidates offers fetches) = offers
offers_in _ = []

none_in : {X : Type 0} (x : X) → Contains [] x → ⊥
none_in x h = absurd (omega (arith, h.1))

module _ {K L D : Type 0} (same : D → D → Bool) (elect : Elect L) (q : Proposal D) where
  -- the state offers the proposal of a view
  abbrev pub Offers : StateFacts K L D → Type 0
  Offers x = (v : ℕ) × (offered_of same elect x v ≡ Some q)

  among : (x : StateFacts K L D) (vs : List ℕ) → Contains (filter_map (offered_of same elect x) vs) q → Offers x
  among x [] h = absurd (none_in q h)
  among x (v ∷ vs) h = elim (offered_of same elect x v) as
      (λ o. offered_of same elect x v ≡ o → Contains (cons_option o (filter_map (offered_of same elect x) vs)) q
      → Offers x) [
        | None ↦ λ none there. among x vs there
        | Some p ↦ λ offered there. elim (Contains-cases p (filter_map (offered_of same elect x) vs) q there) [
          | inl here ↦ (v, offered ∙ ap (λ (r : Proposal D). Some r) here)
          | inr later ↦ among x vs later
        ]
      ] refl h

  answer_offers : (x : StateFacts K L D) (o : OutstandingWork K D) (call : CallFacts D)
      → Contains (offers_in (answer same elect x o call)) q → Offers x
  answer_offers x o CertifyCandidates h = among x x.named h
  answer_offers x o _ h = absurd (none_in q h)

  reply_offers : (x : StateFacts K L D) (o : OutstandingWork K D) (call : CallFacts D)
      → Contains (offers_in (reply_of same elect x o call)) q → Offers x
  reply_offers x o call h = by_allowed (is_allowed x o call) (fault_of x call) h
    where
      by_allowed : (b : Bool) (f : Option Fault)
          → Contains (offers_in (if b then unless_refused f (answer same elect x o call) else NotAllowed)) q → Offers x
      by_allowed false f h = absurd (none_in q h)
      by_allowed true (Some fault) h = absurd (none_in q h)
      by_allowed true None h = answer_offers x o call h

  abbrev IsOffering : Option (StateFacts K L D) → Type 0
  IsOffering life = (x : StateFacts K L D) × (life ≡ Some x) × Offers x

  call_offers : (m next : MemberFacts K L D) (call : CallFacts D) (replied : ReplyFacts K D)
      → IsCall same elect m call replied next → Contains (offers_in replied) q → IsOffering m.life
  unfolding IsCall
  call_offers m next call replied is_call h = by_life m.life is_call h
    where
      by_life : (o : Option (StateFacts K L D)) → AnswersAlive same elect o m call replied next
          → Contains (offers_in replied) q → IsOffering o
      by_life None (tells, leaves) h = absurd
          (none_in q (subst (λ (t : ReplyFacts K D). Contains (offers_in t) q) tells h))
      by_life (Some x) (inl (tells, leaves)) h = (
        x,
        refl,
        reply_offers x m.outstanding_work call
            (subst (λ (t : ReplyFacts K D). Contains (offers_in t) q) tells h),
      )
      by_life (Some x) (inr (allowed, tells, leaves)) h =
          absurd (none_in q (subst (λ (t : ReplyFacts K D). Contains (offers_in t) q) tells h))

  step_offers : (m next : MemberFacts K L D) (step : StepFacts K L D) (replied : ReplyFacts K D)
      → IsStep same elect m step replied next → Contains (offers_in replied) q → IsOffering m.life
  step_offers m next (Calls call) replied is_step h = call_offers m next call replied is_step h
  step_offers m next Prunes replied is_step h =
      absurd (none_in q (subst (λ (t : ReplyFacts K D). Contains (offers_in t) q) is_step.0 h))
  step_offers m next (Restarts r) replied (Ok done, restarts, is) h =
      absurd (none_in q (subst (λ (t : ReplyFacts K D). Contains (offers_in t) q) is h))
  step_offers m next (Restarts r) replied (Err error, restarts, is) h =
      absurd (none_in q (subst (λ (t : ReplyFacts K D). Contains (offers_in t) q) is h))

  -- the step that offers it
  record OfferedIn (m : MemberFacts K L D) (steps : List (StepFacts K L D)) (replies : List (ReplyFacts K D)) : Type
      0 where
    first : List (StepFacts K L D)
    replied : List (ReplyFacts K D)
    more : List (StepFacts K L D)
    rest : List (ReplyFacts K D)
    steps_are : steps ≡ first ++ more
    replies_are : replies ≡ replied ++ rest
    middle : MemberFacts K L D
    run : IsRun same elect m first replied middle
    offering : IsOffering middle.life

  offered_at : (steps : List (StepFacts K L D)) (replies : List (ReplyFacts K D)) (m end : MemberFacts K L D)
      → IsRun same elect m steps replies end → (wanted : ReplyFacts K D) → Contains replies wanted
      → Contains (offers_in wanted) q → OfferedIn m steps replies
  offered_at [] [] m end run wanted h among = absurd (none_in wanted h)
  offered_at [] (reply ∷ replies) m end run wanted h among = absurd run
  offered_at (step ∷ steps) [] m end run wanted h among = absurd run
  offered_at (step ∷ steps) (reply ∷ replies) m end (next, is_step, run) wanted h among =
      elim (Contains-cases reply replies wanted h) [
        | inl here ↦ record {
          first = [];
          replied = [];
          more = step ∷ steps;
          rest = reply ∷ replies;
          steps_are = refl;
          replies_are = refl;
          middle = m;
          run = refl;
          offering = step_offers m next step reply is_step
              (subst (λ (t : ReplyFacts K D). Contains (offers_in t) q) (sym here) among);
        }
        | inr later ↦ (
            let v = offered_at steps replies next end run wanted later among in
            record {
              first = step ∷ v.first;
              replied = reply ∷ v.replied;
              more = v.more;
              rest = v.rest;
              steps_are = ap (λ (ss : List (StepFacts K L D)). step ∷ ss) v.steps_are;
              replies_are = ap (λ (rs : List (ReplyFacts K D)). reply ∷ rs) v.replies_are;
              middle = v.middle;
              run = (next, is_step, v.run);
              offering = v.offering;
            })
      ]

  pub state_at_offer : (term_length member : ℕ) (s : Execution K L D) → IsExecution same elect term_length member s
      → WasOffered q s → StateWhere same elect term_length member s Offers
  unfolding IsRunFrom
  state_at_offer term_length member s ran (offers, fetches, h, among) =
      let v = offered_at s.steps s.replies (new_member same elect s.start) ran.run.1 ran.run.2
      (Candidates offers fetches) h among in
      state_where same elect term_length member s ran Offers v.first v.more v.replied v.rest v.middle v.steps_are
      v.replies_are v.run v.offering.0 v.offering.1 v.offering.2

-- a proposal that is offered inside a term has an explicit view as its parent

module _ {K L D : Type 0} (same : D → D → Bool) (elect : Elect L) (x : StateFacts K L D) (v : ℕ) (q : Proposal D) where
  pub offered_held : offered_of same elect x v ≡ Some q
      → (proposal_at x v ≡ Some q) × (certification_parent_ready elect x v q ≡ true)
  offered_held is = by_ready (is_ready (round_of x v).certification) is
    where
      by_test : (p : Proposal D) (b : Bool) → (nat_lt p.parent v && certification_parent_ready elect x v p) ≡ b
          → (if b then Some p else None) ≡ Some q → (p ≡ q) × (certification_parent_ready elect x v q ≡ true)
      by_test p true good is =
          let one : p ≡ q = ap (λ o. unwrap_or o q) is in (
            one,
            subst (λ (k : Proposal D). certification_parent_ready elect x v k ≡ true) one
                (and_parts (nat_lt p.parent v) (certification_parent_ready elect x v p) good).1,
          )
      by_test p false bad is = absurd (false≢true (ap is_some is))

      by_same : (h : Proposal D) → (round_of x v).slot.held ≡ Some h → (b : Bool)
          → option_and_then (λ p. if nat_lt p.parent v && certification_parent_ready elect x v p then Some p else None)
          (if b then Some h else None) ≡ Some q → (proposal_at x v ≡ Some q)
          × (certification_parent_ready elect x v q ≡ true)
      by_same h holds true is = (let found = by_test h (nat_lt h.parent v && certification_parent_ready elect x v h)
          refl is in (holds ∙ ap (λ (k : Proposal D). Some k) found.0, found.1))
      by_same h holds false is = absurd (false≢true (ap is_some is))

      by_held : (c : ProposalFacts D) (o : Option (Proposal D)) → (round_of x v).slot.held ≡ o
          → option_and_then (λ p. if nat_lt p.parent v && certification_parent_ready elect x v p then Some p else None)
          (option_and_then (λ h. if same_proposal same h c.proposal then Some h else None) o) ≡ Some q
          → (proposal_at x v ≡ Some q) × (certification_parent_ready elect x v q ≡ true)
      by_held c None holds is = absurd (false≢true (ap is_some is))
      by_held c (Some h) holds is = by_same h holds (same_proposal same h c.proposal) is

      by_notarization : (n : Option (ProposalFacts D))
          → option_and_then (λ p. if nat_lt p.parent v && certification_parent_ready elect x v p then Some p else None)
          (option_and_then (λ (c : ProposalFacts D).
          option_and_then (λ h. if same_proposal same h c.proposal then Some h else None) (round_of x v).slot.held) n)
          ≡ Some q → (proposal_at x v ≡ Some q) × (certification_parent_ready elect x v q ≡ true)
      by_notarization None is = absurd (false≢true (ap is_some is))
      by_notarization (Some c) is = by_held c (round_of x v).slot.held refl is

      by_ready : (b : Bool) → option_and_then
          (λ p. if nat_lt p.parent v && certification_parent_ready elect x v p then Some p else None)
          (if b then option_and_then (λ (c : ProposalFacts D).
          option_and_then (λ h. if same_proposal same h c.proposal then Some h else None) (round_of x v).slot.held)
          (round_of x v).notarization else None) ≡ Some q
          → (proposal_at x v ≡ Some q) × (certification_parent_ready elect x v q ≡ true)
      by_ready true is = by_notarization (round_of x v).notarization is
      by_ready false is = absurd (false≢true (ap is_some is))

module _ {K L D : Type 0} (elect : Elect L) (x : StateFacts K L D) (v : ℕ) (q : Proposal D) where
  pub offered_on : certification_parent_ready elect x v q ≡ true → is_term_start x v ≡ false
      → is_some (explicit_ancestry_payload x (v - 1)) ≡ true
  unfolding required_certification_parent
  offered_on ready inside = by_start (is_term_start x v) inside ready
    where
      by_start : (b : Bool) → b ≡ false → option_map_or
          (λ u. has_valid_parent_span x v q.parent && is_some (explicit_ancestry_payload x u))
          (if b then (if q.parent + 1 == v && was_handed_over elect x v then Some q.parent else None) else Some (v - 1))
          true ≡ true → is_some (explicit_ancestry_payload x (v - 1)) ≡ true
      by_start true start is = absurd (true≢false start)
      by_start false within is =
          (and_parts (has_valid_parent_span x v q.parent) (is_some (explicit_ancestry_payload x (v - 1))) is).1
