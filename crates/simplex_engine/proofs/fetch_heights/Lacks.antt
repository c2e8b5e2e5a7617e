-- What a member names as missing is of no view above those that it may work in, or that wait for certification.
use Rattle.std.proofs.Common.{◌≡◌, refl, ap, subst, ℕ, ◌-◌, ◌<◌, ◌≤◌, Bool, true, false, List, [], ◌∷◌, map, nat_le, nat_lt, Option, Some, None, arith, unwrap_or, ◌+◌}
use Rattle.std.proofs.lemmas.Bool.Decides.{nat_tests}
use Rattle.std.proofs.lemmas.Bool.{or_right, eq-eqb, eqb-true}
use Rattle.std.specs.List.{list_any, filter_map, cons_option}
use Rattle.std.specs.Prelude.{option_and_then, ◌==◌, ◌&&◌, if◌then◌else◌, slice_get, is_some, is_none, MatchOption}
use Rattle.std.specs.Option.{option_map_or}
use Rattle.simplex_types.specs.Terms.{next_term_start}
use Rattle.simplex_types.specs.declared.reasons.Kind.{Kind}
use Rattle.simplex_types.specs.declared.reasons.Kind.TheVariants.{Nullification as OfNullifications, Notarization as OfNotarizations}
use Rattle.simplex_types.specs.declared.types.messages.Proposal.{Proposal}
use Rattle.simplex_round.specs.Round.{RoundFacts, pending_proposal, is_last_request}
use Rattle.simplex_round.specs.declared.round.Leader.{Leader}
use Rattle.simplex_voter.specs.Facts.{StateFacts, Elect, round_of}
use Rattle.simplex_voter.specs.declared.voter.candidates.CertificateFetch.{CertificateFetch}
use Rattle.simplex_voter.specs.declared.voter.verify.Verify.{Verify}
use Rattle.simplex_voter.specs.declared.voter.verify.Verify.TheVariants as verify
use Rattle.simplex_voter.specs.ProposalRequests.{views_ahead}
use Rattle.simplex_voter.proofs.Gaps.{and_parts, first_unnullified_view-is}
use Rattle.simplex_voter.specs.declared.voter.verify.Standing.{Standing}
use Rattle.simplex_voter.specs.declared.voter.verify.Standing.TheVariants.{NothingToDo, Invalid, Lacks, Ready}
use Rattle.simplex_voter.specs.Gaps.{IsGapless, IsFirstGap, first_unnullified_view}
use Rattle.simplex_voter.specs.Parents.{has_valid_parent_span, ancestry_payload_for_child}
use Rattle.simplex_voter.specs.Payloads.{explicit_ancestry_payload}
use Rattle.simplex_voter.specs.Rules.{required_certification_parent, was_handed_over}
use Rattle.simplex_voter.specs.Windows.{in_issuance_window, is_admitted, is_term_start}
use Rattle.simplex_voter.specs.Certification.{certification_fetch, fetched_of}
use Rattle.simplex_voter.specs.Verification.{answer_at, answer_in, fetch_once, parent_standing, payload_standing, standing, verify_answer}
use Rattle.simplex_resolver.specs.ReceivedFacts.{greatest}
use Rattle.laws_safety.proofs.votes.Requests.{ahead_now}
use Rattle.laws_safety.proofs.votes.Scanned.{among_through, first_through}

-- an answer to a scan for proposals to verify

module _ {K L D : Type 0} (same : D → D → Bool) (elect : Elect L) (x : StateFacts K L D) where
  once_of : (r : RoundFacts K D) (w : ℕ) (asked kind : Kind) (u : ℕ) → fetch_once r w asked ≡ Lacks u kind → u ≡ w
  once_of r w asked kind u is = by_last (is_last_request r w) is
    where
      by_last : (b : Bool) → ◌≡◌ {A = Standing D} (if b then NothingToDo else Lacks w asked) (Lacks u kind) → u ≡ w
      by_last true is = absurd (cc)
      by_last false is = cc

  span_below : (v p : ℕ) → has_valid_parent_span x v p ≡ true → p < v
  unfolding has_valid_parent_span
  span_below v p is =
      let lower =
      (and_parts (nat_lt p v) (nat_le x.finalized p) (and_parts (nat_lt p v && nat_le x.finalized p) _ is).0).0 in
      grind (arith, nat_tests, lower)

  payload_lacks : (v : ℕ) (r : RoundFacts K D) (p u : ℕ) (kind : Kind)
      → payload_standing same elect x v r p ≡ Lacks u kind → u ≡ p
  payload_lacks v r p u kind is = by_payload (ancestry_payload_for_child same elect x v p) is
    where
      by_window : (b : Bool) → (if b then NothingToDo else fetch_once r p OfNotarizations) ≡ Lacks u kind → u ≡ p
      by_window true is = absurd (cc)
      by_window false is = once_of r p OfNotarizations kind u is

      by_payload : (o : Option D) → option_map_or Ready o
          (if in_issuance_window x v then NothingToDo else fetch_once r p OfNotarizations) ≡ Lacks u kind → u ≡ p
      by_payload None is = by_window (in_issuance_window x v) is
      by_payload (Some d) is = absurd (cc)

  module _ (some : 0 < x.terms.term_length) where
    parent_lacks : (v : ℕ) (r : RoundFacts K D) (p u : ℕ) (kind : Kind)
        → parent_standing same elect x v r p ≡ Lacks u kind → u < v
    parent_lacks v r p u kind is = by_span (has_valid_parent_span x v p) refl is
      where
        by_gap : (o : Option ℕ) → p < v → MatchOption o (IsGapless x p v) (IsFirstGap x p v)
            → option_map_or (λ w. fetch_once r w OfNullifications) o (payload_standing same elect x v r p) ≡ Lacks u
            kind → u < v
        by_gap None below gapless is = (let at = payload_lacks v r p u kind is in omega (arith, at, below))
        by_gap (Some w) below gap is =
            (let at = once_of r w OfNullifications kind u is in let under = gap.below in omega (arith, at, under))

        by_span : (b : Bool) → has_valid_parent_span x v p ≡ b
            → (if b then option_map_or (λ w. fetch_once r w OfNullifications) (first_unnullified_view x p v)
            (payload_standing same elect x v r p) else Invalid) ≡ Lacks u kind → u < v
        by_span true valid is = by_gap (first_unnullified_view x p v) (span_below v p valid)
            (first_unnullified_view-is x p v some) is
        by_span false invalid is = absurd (cc)

    standing_lacks : (e : ℕ × RoundFacts K D) (u : ℕ) (kind : Kind) → standing same elect x e ≡ Lacks u kind → u < e.0
    unfolding standing
    standing_lacks e u kind is = by_admitted (is_admitted x e.0) is
      where
        by_proposal : (o : Option (Leader K × Proposal D))
            → option_map_or (λ found. parent_standing same elect x e.0 e.1 found.1.parent) o NothingToDo ≡ Lacks u kind
            → u < e.0
        by_proposal None is = absurd (cc)
        by_proposal (Some found) is = parent_lacks e.0 e.1 found.1.parent u kind is

        by_admitted : (b : Bool) → (if b then option_map_or
            (λ found. parent_standing same elect x e.0 e.1 found.1.parent) (pending_proposal e.1) NothingToDo
            else NothingToDo) ≡ Lacks u kind → u < e.0
        by_admitted true is = by_proposal (pending_proposal e.1) is
        by_admitted false is = absurd (cc)

    answer_lacks : (e : ℕ × RoundFacts K D) (proposal view : ℕ) (kind : Kind) (leader : K)
        → answer_in same elect x e ≡ Some (verify.Resolve proposal view kind leader) → view < e.0
    answer_lacks e proposal view kind leader is = by_proposal (pending_proposal e.1) is
      where
        by_standing : (s : Standing D) → standing same elect x e ≡ s → (found : Leader K × Proposal D)
            → answer_at e.0 s found ≡ Some (verify.Resolve proposal view kind leader) → view < e.0
        by_standing NothingToDo stands found is = absurd (cc)
        by_standing Invalid stands found is = absurd (cc)
        by_standing (Ready d) stands found is = absurd (cc)
        by_standing (Lacks w of) stands found is =
            (let at : w ≡ view = cc in let below = standing_lacks e w of stands in omega (arith, at, below))

        by_proposal : (o : Option (Leader K × Proposal D))
            → option_and_then (answer_at e.0 (standing same elect x e)) o ≡ Some
            (verify.Resolve proposal view kind leader) → view < e.0
        by_proposal None is = absurd (cc)
        by_proposal (Some found) is = by_standing (standing same elect x e) refl found is

    pub lacks_ahead : (proposal view : ℕ) (kind : Kind) (leader : K)
        → verify_answer same elect x ≡ verify.Resolve proposal view kind leader
        → view ≤ next_term_start x.terms.term_length x.current
    lacks_ahead proposal view kind leader is =
        let found = first_through (answer_in same elect x) (λ e. is_some (answer_in same elect x e)) (λ e. refl)
        (views_ahead x) (verify.Resolve proposal view kind leader)
        (by_first (slice_get (filter_map (answer_in same elect x) (views_ahead x)) 0) is) in
        let e = found.0 in
        let ahead =
        (ahead_now x e (among_through (λ e. is_some (answer_in same elect x e)) (views_ahead x) e found.1)).1 in
        let below : view < e.0 = answer_lacks e proposal view kind leader found.2 in
        omega (arith, ahead, below)
      where
        by_first : (o : Option (Verify D K)) → option_map_or (λ found. found) o verify.Wait ≡ verify.Resolve proposal
            view kind leader → o ≡ Some (verify.Resolve proposal view kind leader)
        by_first None is = absurd (cc)
        by_first (Some found) is = ap Some is

  -- a notarization that a candidate waits for is of the view before

  required_below : (v : ℕ) (p : Proposal D) (q : ℕ) → required_certification_parent elect x v p ≡ Some q → q ≤ v
  unfolding required_certification_parent
  required_below v p q is = by_start (is_term_start x v) is
    where
      by_handoff : (b : Bool) → (p.parent + 1 == v && was_handed_over elect x v) ≡ b
          → (if b then Some p.parent else None) ≡ Some q → q ≤ v
      by_handoff true so is =
          (let next = eqb-true (p.parent + 1) v (and_parts (p.parent + 1 == v) (was_handed_over elect x v) so).0 in
          let at : p.parent ≡ q = ap (λ o. unwrap_or o q) is in omega (arith, next, at))
      by_handoff false so is = absurd (cc)

      by_start : (b : Bool) → (if b then (if p.parent + 1 == v && was_handed_over elect x v then Some p.parent
          else None) else Some (v - 1)) ≡ Some q → q ≤ v
      by_start true is = by_handoff (p.parent + 1 == v && was_handed_over elect x v) refl is
      by_start false is = (let at : v - 1 ≡ q = ap (λ o. unwrap_or o q) is in omega (arith, at))

  fetched_below : (v : ℕ) (it : CertificateFetch) → fetched_of elect x v ≡ Some it → it.view ≤ v
  fetched_below v it is = by_held (round_of x v).slot.held is
    where
      by_lacking : (b : Bool) (p : Proposal D) (q : ℕ) → q ≤ v
          → (if b then Some (record { proposal = p.round.view; view = q }) else None) ≡ Some it → it.view ≤ v
      by_lacking true p q below is = subst (λ n. n ≤ v) (ap (λ (o : Option CertificateFetch). (unwrap_or o it).view) is)
          below
      by_lacking false p q below is = absurd (cc)

      by_required : (p : Proposal D) (o : Option ℕ) → required_certification_parent elect x v p ≡ o
          → option_and_then (λ q. if has_valid_parent_span x v p.parent && is_none (explicit_ancestry_payload x q)
          && is_none (round_of x q).notarization
          then Some (record { proposal = p.round.view; view = q }) else None) o ≡ Some it → it.view ≤ v
      by_required p None none is = absurd (cc)
      by_required p (Some q) required is = by_lacking
          (has_valid_parent_span x v p.parent && is_none (explicit_ancestry_payload x q) && is_none
          (round_of x q).notarization) p q (required_below v p q required) is

      by_held : (o : Option (Proposal D)) → option_and_then (certification_fetch elect x v) o ≡ Some it → it.view ≤ v
      by_held None is = absurd (cc)
      by_held (Some p) is = by_required p (required_certification_parent elect x v p) refl is

  pub fetches_within : (u : ℕ) (views : List ℕ) → ((v : ℕ) → list_any (λ w. v == w) views ≡ true → v ≤ u)
      → greatest (map (λ (it : CertificateFetch). it.view) (filter_map (fetched_of elect x) views)) ≤ u
  fetches_within u [] low = omega arith
  fetches_within u (v ∷ rest) low =
      by_fetch (fetched_of elect x v) refl
      (fetches_within u rest (λ w among. low w (or_right (w == v) (list_any (λ z. w == z) rest) among)))
    where
      here : v ≤ u
      here = low v (rw (eq-eqb v v refl) refl)

      by_fetch : (o : Option CertificateFetch) → fetched_of elect x v ≡ o
          → greatest (map (λ (it : CertificateFetch). it.view) (filter_map (fetched_of elect x) rest)) ≤ u
          → greatest (map (λ (it : CertificateFetch). it.view) (cons_option o (filter_map (fetched_of elect x) rest)))
          ≤ u
      by_fetch None none later = later
      by_fetch (Some it) is later =
          (let below = fetched_below v it is in let first = here in omega (arith, below, first, later))
