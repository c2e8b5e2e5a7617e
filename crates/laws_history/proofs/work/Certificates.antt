-- What certificates, and a higher last finalized view, change of the work on a view.
use Rattle.std.proofs.Common.{◌≡◌, ◌⊎◌, inl, inr, refl, ap, sym, ◌∙◌, ℕ, Bool, true, false, ◌&&◌, ◌||◌, not, eqb, nat_lt, nat_le, if◌then◌else◌, Option, Some, None, is_some, unwrap_or, arith}
use Rattle.std.specs.Prelude.{is_none, option_map}
use Rattle.std.specs.Option.{option_map_or}
use Rattle.std.proofs.lemmas.Bool.{cases_eq, eq-eqb, ne_eqb, eqb-true}
use Rattle.std.proofs.lemmas.Bool.Decides.{nat_tests}
use Rattle.std.proofs.lemmas.Map.Views.{any-filter_same}
use Rattle.simplex_types.specs.Proposal.{same_proposal}
use Rattle.simplex_types.specs.Certificates.{ProposalFacts, NullificationFacts}
use Rattle.simplex_types.specs.declared.types.messages.Proposal.{Proposal}
use Rattle.simplex_round.specs.declared.round.Certification.{Certification}
use Rattle.simplex_round.specs.declared.round.Certification.TheVariants.{Ready, Outstanding, Judged, Aborted}
use Rattle.simplex_round.specs.Round.{RoundFacts, new_round, token_of, after_abort, with_recovered, with_notarization, with_nullification, with_finalization}
use Rattle.simplex_voter.specs.Facts.{StateFacts, Elect, round_at, round_of, round_number, is_tracked, with_round}
use Rattle.simplex_voter.specs.Acceptance.{with_notarization_at, with_nullification_at, with_finalization_at}
use Rattle.simplex_voter.specs.Certification.{without_token, with_finalized_view}
use Rattle.simplex_voter.proofs.Walked.{find-changed}
use Rattle.simplex_member.specs.OutstandingWork.{is_among}
use Rattle.laws_history.specs.OwnWork.{contradicts}
use Rattle.laws_history.specs.WorkRequests.{ends_certification}
use Rattle.laws_history.proofs.Worked.{Worked, work_in, work_of, work_put, work_elsewhere}

-- with a certificate of the view, which overrules what was stored or not
abbrev pub with_settled : {K D : Type 0} → Bool → Bool → Worked K D → Worked K D
with_settled here overruled k = record k {
  tracked = here || k.tracked;
  verified = not overruled && k.verified;
  build_requested = overruled || k.build_requested;
  verify_requested = overruled || k.verify_requested;
}

-- the proposal of a certificate that is the first of its kind
abbrev pub settled_by : {D : Type 0} → ProposalFacts D → Bool → ℕ → Option (Proposal D)
settled_by c first v = if eqb v c.proposal.round.view && first then Some c.proposal else None

-- with a certification that continues from then
abbrev pub with_certification : {K D : Type 0} → Option Certification → Worked K D → Worked K D
with_certification from k = record k { certification = unwrap_or from k.certification }

module _ {K D : Type 0} (same : D → D → Bool) (tracked : Bool) (r : RoundFacts K D) where
  recovered_work : (p : Proposal D) → work_in true (with_recovered (same_proposal same) r p) ≡ with_settled true
      (contradicts same r.slot.held (Some p)) (work_in tracked r)
  recovered_work p = by_held r.slot.held
    where
      by_same : (b : Bool) → work_in true (record r {
        slot = if b then r.slot else record {
          held = Some p;
          conflict = true;
          verified = false;
          build_requested = true;
          verify_requested = true;
        };
      }) ≡ with_settled true (not b) (work_in tracked r)
      by_same true = refl
      by_same false = refl

      by_held : (o : Option (Proposal D)) → work_in true
          (record r {
            slot = option_map_or (λ h.
                if same_proposal same h p then r.slot else record
                { held = Some p; conflict = true; verified = false; build_requested = true; verify_requested = true }) o
                (record r.slot { held = Some p });
          }) ≡ with_settled true (contradicts same o (Some p)) (work_in tracked r)
      by_held None = refl
      by_held (Some h) = by_same (same_proposal same h p)

  -- the first certificate of its kind is the one that counts

  notarization_work : (c : ProposalFacts D)
      → work_in true (with_notarization (same_proposal same) r c) ≡ with_settled true
      (contradicts same r.slot.held (if is_none r.notarization then Some c.proposal else None)) (work_in tracked r)
  notarization_work c = first r.notarization
    where
      first : (o : Option (ProposalFacts D)) → work_in true
          (if is_some o then r else record (with_recovered (same_proposal same) r c.proposal) { notarization = Some c })
          ≡ with_settled true (contradicts same r.slot.held (if is_none o then Some c.proposal else None))
          (work_in tracked r)
      first None = recovered_work c.proposal
      first (Some d) = refl

  finalization_work : (c : ProposalFacts D)
      → work_in true (with_finalization (same_proposal same) r c) ≡ with_settled true
      (contradicts same r.slot.held (if is_none r.finalization then Some c.proposal else None)) (work_in tracked r)
  finalization_work c = first r.finalization
    where
      first : (o : Option (ProposalFacts D)) → work_in true
          (if is_some o then r else record (with_recovered (same_proposal same) r c.proposal) { finalization = Some c })
          ≡ with_settled true (contradicts same r.slot.held (if is_none o then Some c.proposal else None))
          (work_in tracked r)
      first None = recovered_work c.proposal
      first (Some d) = refl

module _ {K L D : Type 0} (same : D → D → Bool) (x : StateFacts K L D) where
  -- another round of a view that a certificate settles
  settled_put : (u : ℕ) (r : RoundFacts K D) (p : Proposal D) (first : Bool)
      → work_in true r ≡ with_settled true (contradicts same (round_of x u).slot.held (if first then Some p else None))
      (work_of x u) → (v : ℕ) → work_of (with_round x u r) v ≡ with_settled (eqb v u)
      (contradicts same (round_of x v).slot.held (if eqb v u && first then Some p else None)) (work_of x v)
  settled_put u r p first settled v = by_view (cases_eq v u)
    where
      by_view : ((v ≡ u) ⊎ (v ≡ u → ⊥)) → work_of (with_round x u r) v ≡ with_settled (eqb v u)
          (contradicts same (round_of x v).slot.held (if eqb v u && first then Some p else None)) (work_of x v)
      by_view (inl here) = rw (here, eq-eqb u u refl) (work_put x u r ∙ settled)
      by_view (inr apart) = rw (ne_eqb v u apart) (work_elsewhere x u v r (ne_eqb v u apart))

module _ {K L D : Type 0} (same : D → D → Bool) (elect : Elect L) (x : StateFacts K L D) (c : ProposalFacts D)
    (v : ℕ) where
  pub notarized_work : work_of (with_notarization_at same elect x c) v ≡ with_settled (eqb v c.proposal.round.view)
      (contradicts same (round_of x v).slot.held
      (settled_by c (is_none (round_of x c.proposal.round.view).notarization) v)) (work_of x v)
  notarized_work =
      let u = c.proposal.round.view in
      settled_put same x u (with_notarization (same_proposal same) (round_of x u) c) c.proposal
      (is_none (round_of x u).notarization) (notarization_work same (is_tracked x u) (round_of x u) c) v

  pub finalized_work : work_of (with_finalization_at same elect x c) v ≡ with_settled (eqb v c.proposal.round.view)
      (contradicts same (round_of x v).slot.held
      (settled_by c (is_none (round_of x c.proposal.round.view).finalization) v)) (work_of x v)
  finalized_work =
      let u = c.proposal.round.view in
      settled_put same x u (with_finalization (same_proposal same) (round_of x u) c) c.proposal
      (is_none (round_of x u).finalization) (finalization_work same (is_tracked x u) (round_of x u) c) v

nullification_work : {K D : Type 0} (tracked : Bool) (r : RoundFacts K D) (c : NullificationFacts)
    → work_in true (with_nullification r c) ≡ with_settled true false (work_in tracked r)
nullification_work tracked r c = first r.nullification
  where
    first : (o : Option NullificationFacts) → work_in true
        (if is_some o then r else record r { nullification = Some c }) ≡ with_settled true false (work_in tracked r)
    first None = refl
    first (Some d) = refl

module _ {K L D : Type 0} (x : StateFacts K L D) where
  pub nullified_work : (c : NullificationFacts) (v : ℕ)
      → work_of (with_nullification_at x c) v ≡ with_settled (eqb v c.round.view) false (work_of x v)
  nullified_work c v = by_view (cases_eq v c.round.view)
    where
      u : ℕ
      u = c.round.view

      by_view : ((v ≡ u) ⊎ (v ≡ u → ⊥)) → work_of (with_nullification_at x c) v ≡ with_settled (eqb v u) false
          (work_of x v)
      by_view (inl here) = rw (here, eq-eqb u u refl)
          (work_put x u (with_nullification (round_of x u) c) ∙ nullification_work (is_tracked x u) (round_of x u) c)
      by_view (inr apart) = rw (ne_eqb v u apart)
          (work_elsewhere x u v (with_nullification (round_of x u) c) (ne_eqb v u apart))

-- a certification that is under way ends
token_work : {K D : Type 0} (tracked : Bool) (r : RoundFacts K D)
    → work_in tracked (without_token r) ≡ with_certification
    (if is_some (token_of r.certification) then Some Aborted else None) (work_in tracked r)
token_work tracked r = by_certification r.certification
  where
    by_certification : (at : Certification) → work_in tracked
        (if is_some (token_of at) then record r { certification = after_abort at } else record r { certification = at })
        ≡ with_certification (if is_some (token_of at) then Some Aborted else None)
        (work_in tracked (record r { certification = at }))
    by_certification Ready = refl
    by_certification (Outstanding token) = refl
    by_certification (Judged success) = refl
    by_certification Aborted = refl

module _ {K L D : Type 0} (x : StateFacts K L D) (u : ℕ) where
  pub raised_work : (v : ℕ) → work_of (with_finalized_view x u) v ≡ with_certification (ends_certification v x u)
      (work_of x v)
  raised_work v = by_above (nat_lt x.finalized u) refl
    where
      -- what is found of a view, as if it were this
      found : Option (RoundFacts K D) → Worked K D
      found o = work_in (is_some o) (unwrap_or o (new_round x.me x.members (round_number x v)))

      ended : (o : Option (RoundFacts K D)) (b : Bool)
          → found (option_map (λ r. if b then without_token r else r) o) ≡ with_certification
          (if b && is_some (token_of (unwrap_or o (new_round x.me x.members (round_number x v))).certification)
          then Some Aborted else None) (found o)
      ended None true = refl
      ended None false = refl
      ended (Some r) true = token_work true r
      ended (Some r) false = refl

      by_above : (b : Bool) → nat_lt x.finalized u ≡ b
          → work_of (with_finalized_view x u) v ≡ with_certification (ends_certification v x u) (work_of x v)
      by_above true is = rw is (ap found (find-changed (λ w r. if nat_le w u then without_token r else r) v x.rounds)
          ∙ ended (round_at x v) (nat_le v u))
      by_above false is = rw is refl

  -- nothing up to it waits
  pub raised_among : (v : ℕ) → is_among v (with_finalized_view x u).named ≡ unwrap_or
      (if nat_lt x.finalized u && nat_le v u then Some false else None) (is_among v x.named)
  raised_among v = by_above (nat_lt x.finalized u) refl
    where
      kept : nat_lt u v ≡ not (nat_le v u)
      kept = grind (arith, nat_tests)

      below : (b : Bool) → (not b && is_among v x.named) ≡ unwrap_or (if b then Some false else None)
          (is_among v x.named)
      below true = refl
      below false = refl

      by_above : (b : Bool) → nat_lt x.finalized u ≡ b
          → is_among v (with_finalized_view x u).named ≡ unwrap_or
          (if nat_lt x.finalized u && nat_le v u then Some false else None) (is_among v x.named)
      by_above true is = rw is (any-filter_same (λ w. eqb v w) (λ w. nat_lt u w) (nat_lt u v)
          (λ w at. ap (nat_lt u) (sym (eqb-true v w at))) x.named ∙ ap (λ b. b && is_among v x.named) kept
          ∙ below (nat_le v u))
      by_above false is = rw is refl
