-- Changes of a state's facts that leave what histories say of it: certificates, verdicts, votes and proposals.
use Rattle.std.proofs.Common.{T, ◌≡◌, refl, ◌∙◌, ℕ, ◌+◌, ◌-◌, max, Bool, true, false, ◌&&◌, not, if◌then◌else◌, nat_lt, nat_le, List, [], ◌∷◌, Option, Some, None, is_some, arith, inl, inr}
use Rattle.std.specs.List.{fold}
use Rattle.std.specs.Option.{option_map_or}
use Rattle.std.proofs.lemmas.Bool.{cases_eq, ne_eqb}
use Rattle.std.proofs.lemmas.Bool.Decides.{nat_tests}
use Rattle.simplex_types.specs.Certificates.{ProposalFacts, NullificationFacts}
use Rattle.simplex_types.specs.declared.types.messages.Proposal.{Proposal}
use Rattle.simplex_types.specs.declared.reasons.TimeoutReason.{TimeoutReason}
use Rattle.simplex_round.specs.declared.round.Leader.{Leader}
use Rattle.simplex_round.specs.declared.round.Decision.{Decision}
use Rattle.simplex_round.specs.declared.round.Certification.{Certification}
use Rattle.simplex_round.specs.declared.round.Certification.TheVariants as certification
use Rattle.simplex_round.specs.Round.{RoundFacts, leader_at, with_latch, is_nullify, is_finalize, token_of, after_abort}
use Rattle.simplex_voter.specs.Facts.{StateFacts, Elect, round_at, round_of, round_number, is_tracked, with_round, with_tracked}
use Rattle.simplex_voter.specs.Windows.{in_issuance_window}
use Rattle.simplex_voter.specs.Payloads.{is_elected_early}
use Rattle.simplex_voter.specs.ViewEntry.{at_moment, with_view_entered, entered_round}
use Rattle.simplex_voter.specs.Leaders.{has_leader, with_leader_at, with_leader_of, opened_views, with_window_leaders, with_elected_leader, with_next_view_ready}
use Rattle.simplex_voter.specs.Timeouts.{with_timeout, is_contradicted}
use Rattle.simplex_voter.specs.Certification.{named_also, waits_for, with_waiting_candidate, without_token, with_finalized_view}
use Rattle.laws_history.specs.HistoryFacts.{verdict_of}
use Rattle.simplex_record.proofs.RoundChanges.{round_of-put, round_of-same}
use Rattle.simplex_record.proofs.Rounds.{armed_nullify, armed_finalize, latched_nullify, latched_finalize, round_changed}

-- what histories say of a view
pub record Known (D : Type 0) : Type 0 where
  pub notarization : Option (ProposalFacts D)
  pub nullification : Option NullificationFacts
  pub finalization : Option (ProposalFacts D)
  pub verdict : Option Bool
  pub notarization_broadcast : Bool
  pub nullification_broadcast : Bool
  pub finalization_broadcast : Bool
  pub notarize_decided : Bool
  pub nullify_decided : Bool
  pub finalize_decided : Bool
  pub held : Option (Proposal D)
  pub conflict : Bool

abbrev pub known_of_round : {K D : Type 0} → RoundFacts K D → Known D
known_of_round r = record {
  notarization = r.notarization;
  nullification = r.nullification;
  finalization = r.finalization;
  verdict = verdict_of r.certification;
  notarization_broadcast = r.notarization_broadcast;
  nullification_broadcast = r.nullification_broadcast;
  finalization_broadcast = r.finalization_broadcast;
  notarize_decided = r.notarize_decided;
  nullify_decided = is_nullify r.decision;
  finalize_decided = is_finalize r.decision;
  held = r.slot.held;
  conflict = r.slot.conflict;
}

-- of another round the same is known
abbrev pub UnchangedKnown : {K D : Type 0} → RoundFacts K D → RoundFacts K D → Type 0
UnchangedKnown r s = known_of_round s ≡ known_of_round r

-- of each view the same is known, and the numbers are these
pub record UnchangedButNumbers {K L D : Type 0} (moment current finalized : ℕ) (x y : StateFacts K L D) : Type 0 where
  pub settings : y.settings ≡ x.settings
  pub terms : y.terms ≡ x.terms
  pub genesis : y.genesis ≡ x.genesis
  pub nullified : y.nullified ≡ x.nullified
  pub nullify_votes : y.nullify_votes ≡ x.nullify_votes
  pub moment_is : y.moment ≡ moment
  pub current_is : y.current ≡ current
  pub finalized_is : y.finalized ≡ finalized
  pub rounds : (v : ℕ) → UnchangedKnown (round_of x v) (round_of y v)

-- the numbers stay too
abbrev pub UnchangedHistory : {K L D : Type 0} → StateFacts K L D → StateFacts K L D → Type 0
UnchangedHistory x y = UnchangedButNumbers x.moment x.current x.finalized x y

pub aborted_verdict : (c : Certification) → verdict_of (after_abort c) ≡ verdict_of c
aborted_verdict certification.Ready = refl
aborted_verdict (certification.Outstanding _) = refl
aborted_verdict (certification.Judged _) = refl
aborted_verdict certification.Aborted = refl

pub from_T : (b : Bool) → T b → b ≡ true
from_T true is = refl
from_T false is = absurd is

module _ {K D : Type 0} where
  pub alike : (r : RoundFacts K D) → UnchangedKnown r r
  alike r = refl

  pub alike_joined : (r s t : RoundFacts K D) → UnchangedKnown r s → UnchangedKnown s t → UnchangedKnown r t
  alike_joined r s t p q = q ∙ p

  -- another decision of the same kind
  pub decided_alike : (r : RoundFacts K D) (d : Decision) → is_nullify d ≡ is_nullify r.decision
      → is_finalize d ≡ is_finalize r.decision → UnchangedKnown r (record r { decision = d })
  decided_alike r d nullify finalize = λ i.
      record (known_of_round r) { nullify_decided = nullify i; finalize_decided = finalize i }

  pub alike_where : (r : RoundFacts K D) (b : Bool) (s t : RoundFacts K D) → UnchangedKnown r s → UnchangedKnown r t
      → UnchangedKnown r (if b then s else t)
  alike_where r true s t p q = p
  alike_where r false s t p q = q

  token_alike : (r : RoundFacts K D) → UnchangedKnown r (without_token r)
  token_alike r =
      alike_where r (is_some (token_of r.certification)) (record r { certification = after_abort r.certification }) r
      (λ i. record (known_of_round r) { verdict = aborted_verdict r.certification i })
      (alike r)

  pub latch_alike : (r : RoundFacts K D) (now : ℕ) (reason : TimeoutReason) → UnchangedKnown r (with_latch r now reason)
  latch_alike r now reason = decided_alike r _ (latched_nullify r.decision (now, reason))
      (latched_finalize r.decision (now, reason))

module _ {K L D : Type 0} where
  pub quiet : (x : StateFacts K L D) → UnchangedHistory x x
  quiet x = record {
    settings = refl;
    terms = refl;
    genesis = refl;
    nullified = refl;
    nullify_votes = refl;
    moment_is = refl;
    current_is = refl;
    finalized_is = refl;
    rounds = λ v. alike (round_of x v);
  }

  -- two changes, one after another
  pub leaves_joined : (moment current finalized later further higher : ℕ) (x y z : StateFacts K L D)
      → UnchangedButNumbers moment current finalized x y → UnchangedButNumbers later further higher y z
      → UnchangedButNumbers later further higher x z
  leaves_joined moment current finalized later further higher x y z p q = record {
    settings = q.settings ∙ p.settings;
    terms = q.terms ∙ p.terms;
    genesis = q.genesis ∙ p.genesis;
    nullified = q.nullified ∙ p.nullified;
    nullify_votes = q.nullify_votes ∙ p.nullify_votes;
    moment_is = q.moment_is;
    current_is = q.current_is;
    finalized_is = q.finalized_is;
    rounds = λ v. alike_joined (round_of x v) (round_of y v) (round_of z v) (p.rounds v) (q.rounds v);
  }

  -- a change, and one that leaves the numbers
  pub then_quiet : (moment current finalized : ℕ) (x y z : StateFacts K L D)
      → UnchangedButNumbers moment current finalized x y → UnchangedHistory y z
      → UnchangedButNumbers moment current finalized x z
  then_quiet moment current finalized x y z p q = record {
    settings = q.settings ∙ p.settings;
    terms = q.terms ∙ p.terms;
    genesis = q.genesis ∙ p.genesis;
    nullified = q.nullified ∙ p.nullified;
    nullify_votes = q.nullify_votes ∙ p.nullify_votes;
    moment_is = q.moment_is ∙ p.moment_is;
    current_is = q.current_is ∙ p.current_is;
    finalized_is = q.finalized_is ∙ p.finalized_is;
    rounds = λ v. alike_joined (round_of x v) (round_of y v) (round_of z v) (p.rounds v) (q.rounds v);
  }

  pub both_quiet : (x y z : StateFacts K L D) → UnchangedHistory x y → UnchangedHistory y z → UnchangedHistory x z
  both_quiet x y z p q = then_quiet x.moment x.current x.finalized x y z p q

  pub quiet_where : (x : StateFacts K L D) (b : Bool) (y z : StateFacts K L D) → UnchangedHistory x y
      → UnchangedHistory x z → UnchangedHistory x (if b then y else z)
  quiet_where x true y z p q = p
  quiet_where x false y z p q = q

  pub rounds_alike : (x : StateFacts K L D) (v : ℕ) (r : RoundFacts K D) → UnchangedKnown (round_of x v) r → (w : ℕ)
      → UnchangedKnown (round_of x w) (round_of (with_round x v r) w)
  rounds_alike x v r same w = elim (cases_eq w v) [
    | inl here ↦ rw (here, round_of-same x v r) same
    | inr apart ↦ rw (round_of-put x w v r, ne_eqb w v apart) (alike (round_of x w))
  ]

  pub put_quiet : (x : StateFacts K L D) (v : ℕ) (r : RoundFacts K D) → UnchangedKnown (round_of x v) r
      → UnchangedHistory x (with_round x v r)
  put_quiet x v r same = record {
    settings = refl;
    terms = refl;
    genesis = refl;
    nullified = refl;
    nullify_votes = refl;
    moment_is = refl;
    current_is = refl;
    finalized_is = refl;
    rounds = rounds_alike x v r same;
  }

  pub tracked_quiet : (x : StateFacts K L D) (v : ℕ) (r : RoundFacts K D) → UnchangedKnown (round_of x v) r
      → UnchangedHistory x (with_tracked x v r)
  tracked_quiet x v r same = quiet_where x (is_tracked x v) (with_round x v r) x (put_quiet x v r same) (quiet x)

  -- the numbers

  pub moment_leaves : (x : StateFacts K L D) (now : ℕ)
      → UnchangedButNumbers now x.current x.finalized x (at_moment x now)
  moment_leaves x now = record {
    settings = refl;
    terms = refl;
    genesis = refl;
    nullified = refl;
    nullify_votes = refl;
    moment_is = refl;
    current_is = refl;
    finalized_is = refl;
    rounds = λ v. alike (round_of x v);
  }

  entry_alike : (x : StateFacts K L D) (r : RoundFacts K D) (now : ℕ) → UnchangedKnown r (entered_round x r now)
  entry_alike x r now = decided_alike r _ (armed_nullify r.decision (now + x.settings.leader_timeout)
      (now + x.settings.certification_timeout))
      (armed_finalize r.decision (now + x.settings.leader_timeout) (now + x.settings.certification_timeout))

  pub entered_leaves : (x : StateFacts K L D) (v now : ℕ)
      → UnchangedButNumbers x.moment (max x.current v) x.finalized x (with_view_entered x v now)
  entered_leaves x v now = enters (nat_lt x.current v) refl
    where
      r : RoundFacts K D
      r = entered_round x (round_of x v) now

      enters : (b : Bool) → nat_lt x.current v ≡ b
          → UnchangedButNumbers x.moment (max x.current v) x.finalized x (with_view_entered x v now)
      enters true is = rw is (record {
        settings = refl;
        terms = refl;
        genesis = refl;
        nullified = refl;
        nullify_votes = refl;
        moment_is = refl;
        current_is = grind (arith, nat_tests);
        finalized_is = refl;
        rounds = λ w. rounds_alike x v r (entry_alike x (round_of x v) now) w;
      })
      enters false is = rw is (record {
        settings = refl;
        terms = refl;
        genesis = refl;
        nullified = refl;
        nullify_votes = refl;
        moment_is = refl;
        current_is = grind (arith, nat_tests);
        finalized_is = refl;
        rounds = λ w. alike (round_of x w);
      })

  pub raised_leaves : (x : StateFacts K L D) (v : ℕ)
      → UnchangedButNumbers x.moment x.current (max x.finalized v) x (with_finalized_view x v)
  raised_leaves x v = raises (nat_lt x.finalized v) refl
    where
      raises : (b : Bool) → nat_lt x.finalized v ≡ b
          → UnchangedButNumbers x.moment x.current (max x.finalized v) x (with_finalized_view x v)
      raises true is = rw is (record {
        settings = refl;
        terms = refl;
        genesis = refl;
        nullified = refl;
        nullify_votes = refl;
        moment_is = refl;
        current_is = refl;
        finalized_is = grind (arith, nat_tests);
        rounds = λ w. round_changed (λ u r. if nat_le u v then without_token r else r) x w UnchangedKnown alike
            (λ r. alike_where r (nat_le w v) (without_token r) r (token_alike r) (alike r));
      })
      raises false is = rw is (record {
        settings = refl;
        terms = refl;
        genesis = refl;
        nullified = refl;
        nullify_votes = refl;
        moment_is = refl;
        current_is = refl;
        finalized_is = grind (arith, nat_tests);
        rounds = λ w. alike (round_of x w);
      })

  -- candidates for certification

  pub named_quiet : (x : StateFacts K L D) (v : ℕ) → UnchangedHistory x (named_also x v)
  named_quiet x v = quiet_where x (nat_lt x.finalized v) _ x
      (record {
        settings = refl;
        terms = refl;
        genesis = refl;
        nullified = refl;
        nullify_votes = refl;
        moment_is = refl;
        current_is = refl;
        finalized_is = refl;
        rounds = λ w. alike (round_of x w);
      }) (quiet x)

  -- leaders

  pub led_quiet : (x : StateFacts K L D) (v member : ℕ) → UnchangedHistory x (with_leader_at x v member)
  led_quiet x v member = quiet_where x (has_leader x v) x _ (quiet x)
      (put_quiet x v (record (round_of x v) { leader = leader_at x.members member }) refl)

  pub inherited_quiet : (x : StateFacts K L D) (from to : ℕ) → UnchangedHistory x (with_leader_of x from to)
  inherited_quiet x from to = inherits (round_of x from).leader
    where
      inherits : (leader : Option (Leader K))
          → UnchangedHistory x (option_map_or (λ l. with_leader_at x to l.idx) leader x)
      inherits None = quiet x
      inherits (Some l) = led_quiet x to l.idx

  slides : (views : List ℕ) (x : StateFacts K L D)
      → UnchangedHistory x (fold (λ y w. with_leader_of y (w - 1) w) x views)
  slides [] x = quiet x
  slides (w ∷ views) x = both_quiet x (with_leader_of x (w - 1) w)
      (fold (λ y w. with_leader_of y (w - 1) w) (with_leader_of x (w - 1) w) views) (inherited_quiet x (w - 1) w)
      (slides views (with_leader_of x (w - 1) w))

  pub slid_quiet : (x : StateFacts K L D) (v : ℕ) → UnchangedHistory x (with_window_leaders x v)
  slid_quiet x v = slides (opened_views x v) x

  -- timeouts

  pub triggered_quiet : (x : StateFacts K L D) (v : ℕ) (reason : TimeoutReason) (now : ℕ)
      → UnchangedHistory x (with_timeout x v reason now)
  triggered_quiet x v reason now =
      quiet_where x (nat_le x.current v && is_tracked x v && not (is_contradicted reason (round_of x v)))
      (with_round x v (with_latch (round_of x v) now reason)) x
      (put_quiet x v (with_latch (round_of x v) now reason) (latch_alike (round_of x v) now reason)) (quiet x)

module _ {K L D : Type 0} (elect : Elect L) where
  pub elected_quiet : (x : StateFacts K L D) (v : ℕ) (seed : Option (List ℕ))
      → UnchangedHistory x (with_elected_leader elect x v seed)
  elected_quiet x v seed = led_quiet x v (elect x.elector (round_number x v) seed)

  pub prepared_quiet : (x : StateFacts K L D) (v : ℕ) → UnchangedHistory x (with_next_view_ready elect x v)
  prepared_quiet x v =
      let later = with_elected_leader elect x (v + 1) None in
      quiet_where x (in_issuance_window x (v + 1)) (with_leader_of x v (v + 1)) _ (inherited_quiet x v (v + 1))
      (quiet_where x ((round_of x v).notarize_decided && is_elected_early elect x (v + 1)) later x
      (elected_quiet x (v + 1) None) (quiet x))

  pub woken_quiet : (x : StateFacts K L D) (p : ℕ) → UnchangedHistory x (with_waiting_candidate elect x p)
  woken_quiet x p = quiet_where x (option_map_or (waits_for elect x p) (round_at x (p + 1)) false)
      (named_also x (p + 1)) x (named_quiet x (p + 1)) (quiet x)
