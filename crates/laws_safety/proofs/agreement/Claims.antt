-- For `agreement`.
-- The claims of `agreement`, from the voting rules of each honest member.
use Rattle.std.specs.Prelude.{Bool, true}
use Rattle.std.proofs.Common.{◌≡◌, ◌≢◌, ℕ, zero, suc, ◌<◌, ◌≤◌, inl, inr, List, [], ◌∷◌, Contains, Some, slice_get, arith, refl, sym, ap, ◌∙◌}
use Rattle.std.proofs.lemmas.Bool.{cases_lt, cases_Bool, false≢true}
use Rattle.simplex_types.specs.declared.types.messages.Proposal.{Proposal}
use Rattle.simplex_types.specs.declared.types.numbers.Round.{Round}
use Rattle.simplex_types.specs.declared.types.messages.Subject.{Subject}
use Rattle.simplex_types.specs.declared.types.messages.Subject.TheVariants as subject
use Rattle.simplex_types.specs.Terms.{covers}
use Rattle.simplex_types.proofs.Covers.{covers_parts}
use Rattle.simplex_voter.specs.Facts.{Elect}
use Rattle.laws_safety.specs.Agreement.{Certified, OneProposal, FinalizedUncovered, ParentBefore, ParentNotBelow, FinalizedNotarized, Chain, ChainHoldsFinalized}
use Rattle.laws_safety.specs.Traces.{TraceEvent, Accepts}
use Rattle.laws_safety.specs.Lawful.{SignsAfter, IsLawful}
use Rattle.laws_safety.specs.Replicas.{Replica, Honest, Backed, IsNetworkOf}
use Rattle.laws_safety.specs.Executions.{Execution, trace_of}
use Rattle.laws_safety.proofs.agreement.Quorums.{shared_member}
use Rattle.laws_safety.proofs.records.RunsLawful.{execution_lawful}
use Rattle.laws_safety.proofs.lists.Splits.{Contains-cons_rest, Contains-cases, only_one}
use Rattle.laws_safety.proofs.agreement.TwoVotes.{covers_between, one_notarized}
use Rattle.laws_safety.proofs.agreement.VoteOrder.{Same, First, Second, in_order, voted, earlier}

-- the rest holds it where the first one is in another view
in_rest : {D : Type 0} (y : Proposal D) (xs : List (Proposal D)) (x : Proposal D) → Contains (y ∷ xs) x
    → y.round.view ≢ x.round.view → Contains xs x
in_rest y xs x h apart = elim (Contains-cases y xs x h)
    [ inl same ↦ absurd (apart (ap (λ p. p.round.view) same)) | inr rest ↦ rest ]

module _ {K L D : Type 0} (same : D → D → Bool) (decides : (d e : D) → same d e ≡ true → d ≡ e) (elect : Elect L)
    (term_length : ℕ) (network : List (Replica K L D)) (good : IsNetworkOf same elect term_length network) where
  lawful : (k : ℕ) (s : Execution K L D) → slice_get network k ≡ Some (Honest s) → IsLawful term_length (trace_of s)
  lawful k s at = execution_lawful same decides elect term_length k s (good.honest k s at)

  -- a certificate that an honest member accepted before a vote is backed
  backed_before : (k : ℕ) (s : Execution K L D) (before : List (TraceEvent D)) (vote certificate : Subject D)
      → slice_get network k ≡ Some (Honest s) → SignsAfter (trace_of s) before vote
      → Contains before (Accepts certificate) → Backed network certificate
  backed_before k s before vote certificate at signs accepted =
      good.backed k s certificate at (earlier (trace_of s) before vote (Accepts certificate) signs accepted)

  -- a backed finalization's proposal has a backed notarization
  pub finalized_notarized : FinalizedNotarized network
  finalized_notarized final finalized =
      let m = shared_member network (subject.Finalize final) (subject.Finalize final) good.few_faulty finalized
      finalized in
      let signs = voted (trace_of m.1) (subject.Finalize final) m.3 in
      backed_before m.0 m.1 signs.0 (subject.Finalize final) (subject.Notarize final) m.2 signs.1
      ((lawful m.0 m.1 m.2).finalizes_notarized signs.0 final signs.1)

  certified_notarized : (p : Proposal D) → Certified network p → Backed network (subject.Notarize p)
  certified_notarized p (inl h) = h
  certified_notarized p (inr h) = finalized_notarized p h

  pub one_proposal : OneProposal network
  one_proposal p q has_p has_q at =
      let m = shared_member network (subject.Notarize p) (subject.Notarize q) good.few_faulty
      (certified_notarized p has_p) (certified_notarized q has_q) in
      one_notarized term_length (trace_of m.1) p q (lawful m.0 m.1 m.2) m.3 m.4 at

  -- no nullification covers a finalized view below a bound
  uncovered_below : (bound : ℕ) (final : Proposal D) (round : Round) → final.round.view < bound
      → Backed network (subject.Finalize final) → Backed network (subject.Nullify round)
      → covers term_length round.view final.round.view ≡ true → ⊥
  uncovered_below zero final round less finalized nullified covering = absurd (omega arith)
  uncovered_below (suc bound) final round less finalized nullified covering =
      let m = shared_member network (subject.Nullify round) (subject.Finalize final) good.few_faulty nullified finalized
      in
      let trace : List (TraceEvent D) = trace_of m.1 in
      let keeps : IsLawful term_length trace = lawful m.0 m.1 m.2 in
      elim (in_order trace (subject.Nullify round) (subject.Finalize final) m.3 m.4) [
        | Same e ↦ absurd (cc)
        | First before at h ↦
            (let apart : round.view ≢ final.round.view = keeps.not_both round final m.3 m.4 in
            let not_after = (covers_parts term_length round.view final.round.view covering).0 in
            let w = keeps.finalizes_past_nullify before final round at h (omega arith) covering in
            uncovered_below bound w.0 round (omega arith)
            (backed_before m.0 m.1 before (subject.Finalize final) (subject.Finalize w.0) m.2 at w.1) nullified
            (covers_between term_length round.view w.0.round.view final.round.view covering w.2 (omega arith)))
        | Second before at h ↦ false≢true (sym (keeps.nullifies_ahead before round final at h) ∙ covering)
      ]

  pub finalized_uncovered : FinalizedUncovered network term_length
  finalized_uncovered final round finalized nullified =
      elim (cases_Bool (covers term_length round.view final.round.view)) [
        | inl covering ↦
            absurd (uncovered_below (suc final.round.view) final round (omega arith) finalized nullified covering)
        | inr not_covering ↦ not_covering
      ]

  -- a backed notarization's parent is an earlier view
  parent_earlier : (p : Proposal D) → Backed network (subject.Notarize p) → p.parent < p.round.view
  parent_earlier p notarized =
      let m = shared_member network (subject.Notarize p) (subject.Notarize p) good.few_faulty notarized notarized in
      let signs = voted (trace_of m.1) (subject.Notarize p) m.3 in
      (lawful m.0 m.1 m.2).parent_before signs.0 p signs.1

  pub parent_before : ParentBefore network
  parent_before p certified = parent_earlier p (certified_notarized p certified)

  -- a backed notarization skips no finalized view
  not_skipped : (final p : Proposal D) → Backed network (subject.Finalize final) → Backed network (subject.Notarize p)
      → p.parent < final.round.view → final.round.view < p.round.view → ⊥
  not_skipped final p finalized notarized low high =
      let m = shared_member network (subject.Notarize p) (subject.Notarize p) good.few_faulty notarized notarized in
      let signs = voted (trace_of m.1) (subject.Notarize p) m.3 in
      let cover = (lawful m.0 m.1 m.2).gapless signs.0 p final.round.view signs.1 low high in
      let nullified = backed_before m.0 m.1 signs.0 (subject.Notarize p) (subject.Nullify cover.0) m.2 signs.1 cover.1
      in
      false≢true (sym (finalized_uncovered final cover.0 finalized nullified) ∙ cover.2)

  pub parent_not_below : ParentNotBelow network
  parent_not_below final p finalized notarized high =
      elim (cases_lt p.parent final.round.view) [
        | inl low ↦ absurd (not_skipped final p finalized notarized low high)
        | inr h ↦ h
      ]

  chain_head : (p q : Proposal D) (rest : List (Proposal D)) → Chain network (q ∷ rest)
      → Backed network (subject.Notarize q)
  chain_head p q [] chain = chain
  chain_head p q (r ∷ rest) chain = chain.0

  -- the step of a chain over the finalized view
  meets_finalized : (final p q : Proposal D) → Backed network (subject.Finalize final)
      → Backed network (subject.Notarize p) → Backed network (subject.Notarize q) → p.parent ≡ q.round.view
      → final.round.view < p.round.view → q.round.view ≤ final.round.view → q ≡ final
  meets_finalized final p q finalized has_p has_q named above below =
      let low = parent_not_below final p finalized has_p above in
      one_proposal q final (inl has_q) (inr finalized) (omega arith)

  pub chain_holds_finalized : ChainHoldsFinalized network
  chain_holds_finalized final high low [] finalized chain has_high has_low above below =
      absurd (omega (arith, has_high.1))
  chain_holds_finalized final high low (p ∷ []) finalized chain has_high has_low above below =
      let top = ap (λ x. x.round.view) (only_one p high has_high) in
      let bottom = ap (λ x. x.round.view) (only_one p low has_low) in
      absurd (omega arith)
  chain_holds_finalized final high low (p ∷ (q ∷ rest)) finalized chain has_high has_low above below =
      let later = chain_head p q rest chain.2 in
      let down = parent_earlier p chain.0 in
      let named = chain.1 in
      elim (cases_lt final.round.view p.round.view) [
        | inl over ↦
            (let low_rest : Contains (q ∷ rest) low = in_rest p (q ∷ rest) low has_low (omega arith) in
            elim (cases_lt final.round.view q.round.view) [
              | inl still ↦ Contains-cons_rest p (q ∷ rest) final
                  (chain_holds_finalized final q low (q ∷ rest) finalized chain.2 (0, omega arith, refl) low_rest still
                  below)
              | inr under ↦ Contains-cons_rest p (q ∷ rest) final
                  (0, omega arith, meets_finalized final p q finalized chain.0 later named over under)
            ])
        | inr under ↦
            Contains-cons_rest p (q ∷ rest) final
            (chain_holds_finalized final high q (q ∷ rest) finalized chain.2
            (in_rest p (q ∷ rest) high has_high (omega arith)) (0, omega arith, refl) above (omega arith))
      ]
