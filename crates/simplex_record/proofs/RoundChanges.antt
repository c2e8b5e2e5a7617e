-- What a round keeps while its state changes: a notarization, the verdict, and the kind of the decision.
use Rattle.std.proofs.Common.{◌≡◌, refl, sym, ap, ◌∙◌, ℕ, ◌+◌, Bool, true, false, cond, eqb, if◌then◌else◌, Some, is_some, unwrap_or, inl, inr}
use Rattle.std.specs.Prelude.{nat_le, map as map_list}
use Rattle.std.specs.Ordering.{nat_cmp}
use Rattle.std.specs.Cmp.{nat_cmp_total}
use Rattle.std.specs.FinMap.Entries.{find, find-put}
use Rattle.std.proofs.lemmas.Bool.{cases_eq, eq-eqb, ne_eqb}
use Rattle.simplex_view_maps.proofs.Maps.{is_eq-nat_cmp}
use Rattle.simplex_types.specs.declared.types.messages.Proposal.{Proposal}
use Rattle.simplex_types.specs.declared.reasons.TimeoutReason.{TimeoutReason}
use Rattle.simplex_types.specs.Certificates.{ProposalFacts}
use Rattle.simplex_round.specs.declared.round.Decision.TheVariants.{Nullify}
use Rattle.simplex_round.specs.declared.round.Certification.{Certification}
use Rattle.simplex_round.specs.declared.round.Certification.TheVariants.{Ready, Outstanding, Judged, Aborted}
use Rattle.simplex_round.specs.Round.{RoundFacts, new_round, is_judged, is_nullify, is_finalize, with_latch, after_abort, awaits_retry, token_of, with_notarization}
use Rattle.simplex_voter.specs.Facts.{StateFacts, round_of, round_number, with_round}
use Rattle.simplex_voter.specs.ViewEntry.{entered_round}
use Rattle.simplex_voter.specs.Certification.{without_token}
use Rattle.simplex_record.proofs.Rounds.{armed_nullify, armed_finalize, latched_nullify, latched_finalize, awaited_nullify, round_changed}

module _ {K D : Type 0} where
  -- the verdict and the kind of the decision stay, a notarization stays
  pub record RoundGrows (r s : RoundFacts K D) : Type 0 where
    pub me : s.me ≡ r.me
    pub notarized : is_some r.notarization ≡ true → is_some s.notarization ≡ true
    pub judged : (b : Bool) → is_judged b s.certification ≡ is_judged b r.certification
    pub nullified : is_nullify s.decision ≡ is_nullify r.decision
    pub finalized : is_finalize s.decision ≡ is_finalize r.decision

  pub alike : (r : RoundFacts K D) → RoundGrows r r
  alike r = record { me = refl; notarized = λ h. h; judged = λ b. refl; nullified = refl; finalized = refl }

  pub grown_on : (r s t : RoundFacts K D) → RoundGrows r s → RoundGrows s t → RoundGrows r t
  grown_on r s t p q = record {
    me = q.me ∙ p.me;
    notarized = λ h. q.notarized (p.notarized h);
    judged = λ b. q.judged b ∙ p.judged b;
    nullified = q.nullified ∙ p.nullified;
    finalized = q.finalized ∙ p.finalized;
  }

  grows_where : (r : RoundFacts K D) (b : Bool) (s t : RoundFacts K D) → RoundGrows r s → RoundGrows r t
      → RoundGrows r (if b then s else t)
  grows_where r true s t p q = p
  grows_where r false s t p q = q

-- a verdict is not taken back, and none comes, where a certification ends
aborted_judged : (c : Certification) (b : Bool) → is_judged b (after_abort c) ≡ is_judged b c
aborted_judged Ready b = refl
aborted_judged (Outstanding _) b = refl
aborted_judged (Judged _) b = refl
aborted_judged Aborted b = refl

module _ {K D : Type 0} where
  pub latch_grows : (r : RoundFacts K D) (now : ℕ) (reason : TimeoutReason) → RoundGrows r (with_latch r now reason)
  latch_grows r now reason = record {
    me = refl;
    notarized = λ h. h;
    judged = λ b. refl;
    nullified = latched_nullify r.decision (now, reason);
    finalized = latched_finalize r.decision (now, reason);
  }

  pub ended_grows : (r : RoundFacts K D) → RoundGrows r (record r { certification = after_abort r.certification })
  ended_grows r = record {
    me = refl;
    notarized = λ h. h;
    judged = aborted_judged r.certification;
    nullified = refl;
    finalized = refl;
  }

  token_grows : (r : RoundFacts K D) → RoundGrows r (without_token r)
  token_grows r = grows_where r (is_some (token_of r.certification)) _ r (ended_grows r) (alike r)

  module _ (same : Proposal D → Proposal D → Bool) where
    -- a notarization that is added is there
    pub notarization_stands : (r : RoundFacts K D) (c : ProposalFacts D)
        → is_some (with_notarization same r c).notarization ≡ true
    notarization_stands r c = stands (is_some r.notarization) refl
      where
        stands : (b : Bool) → is_some r.notarization ≡ b → is_some (with_notarization same r c).notarization ≡ true
        stands true is = rw is is
        stands false is = rw is refl

module _ {K L D : Type 0} where
  -- the round of a view after another one was stored
  pub round_of-put : (x : StateFacts K L D) (v w : ℕ) (r : RoundFacts K D)
      → round_of (with_round x w r) v ≡ cond (eqb v w) r (round_of x v)
  round_of-put x v w r =
      ap (λ found. unwrap_or found (new_round x.me x.members (round_number x v)))
      (find-put nat_cmp nat_cmp_total v w r x.rounds
      ∙ ap (λ b. cond b (Some r) (find nat_cmp v x.rounds)) (is_eq-nat_cmp v w))
      ∙ chosen (eqb v w)
    where
      chosen : (b : Bool) → unwrap_or (cond b (Some r) (find nat_cmp v x.rounds))
          (new_round x.me x.members (round_number x v)) ≡ cond b r (round_of x v)
      chosen true = refl
      chosen false = refl

  pub round_of-same : (x : StateFacts K L D) (w : ℕ) (r : RoundFacts K D) → round_of (with_round x w r) w ≡ r
  round_of-same x w r = rw (round_of-put x w w r, eq-eqb w w refl) refl

  -- another round of a view that grows
  pub put_grows : (x : StateFacts K L D) (w : ℕ) (r : RoundFacts K D) → RoundGrows (round_of x w) r → (v : ℕ)
      → RoundGrows (round_of x v) (round_of (with_round x w r) v)
  put_grows x w r grows v = elim (cases_eq v w) [
    | inl at ↦ rw (at, round_of-same x w r) grows
    | inr apart ↦ rw (round_of-put x v w r, ne_eqb v w apart) (alike (round_of x v))
  ]

  -- each round changed by one that grows
  pub ended_grow : (x : StateFacts K L D) (u v : ℕ)
      → RoundGrows (round_of x v) (round_of
      (record x { rounds = map_list (λ e. (e.0, if nat_le e.0 u then without_token e.1 else e.1)) x.rounds }) v)
  ended_grow x u v = round_changed (λ w r. if nat_le w u then without_token r else r) x v RoundGrows alike
      (λ r. grows_where r (nat_le v u) (without_token r) r (token_grows r) (alike r))

  pub entered_grows : (x : StateFacts K L D) (r : RoundFacts K D) (now : ℕ) → RoundGrows r (entered_round x r now)
  entered_grows x r now =
      let l = now + x.settings.leader_timeout in
      let c = now + x.settings.certification_timeout in
      record {
        me = refl;
        notarized = λ h. h;
        judged = λ b. refl;
        nullified = armed_nullify r.decision l c;
        finalized = armed_finalize r.decision l c;
      }

module _ {K D : Type 0} where
  pub retry_grows : (r : RoundFacts K D) (until : ℕ) → awaits_retry r ≡ true
      → RoundGrows r (record r { decision = Nullify (Some until) })
  retry_grows r until awaits = let kind = awaited_nullify r awaits in
      record { me = refl; notarized = λ h. h; judged = λ b. refl; nullified = sym kind.0; finalized = sym kind.1 }
