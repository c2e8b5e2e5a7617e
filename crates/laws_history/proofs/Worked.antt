-- What histories say of the work on a view, and what an event adds to it.
use Rattle.std.proofs.Common.{◌≡◌, refl, ap, ◌∙◌, ℕ, ◌+◌, ◌≤◌, Bool, true, false, ◌||◌, eqb, cond, if◌then◌else◌, List, Option, Some, None, is_some, unwrap_or, option_map}
use Rattle.std.specs.Option.{option_or}
use Rattle.std.specs.Ordering.{nat_cmp}
use Rattle.std.specs.Cmp.{nat_cmp_total}
use Rattle.std.specs.FinMap.Entries.{find, find-put}
use Rattle.std.proofs.lemmas.Bool.{eq-eqb}
use Rattle.simplex_types.specs.declared.types.numbers.Round.{Round}
use Rattle.simplex_types.specs.declared.types.messages.Proposal.{Proposal}
use Rattle.simplex_types.specs.declared.reasons.TimeoutReason.{TimeoutReason}
use Rattle.simplex_view_maps.proofs.Maps.{is_eq-nat_cmp}
use Rattle.simplex_round.specs.declared.round.Leader.{Leader}
use Rattle.simplex_round.specs.declared.round.Decision.{Decision}
use Rattle.simplex_round.specs.declared.round.Decision.TheVariants.{Pending, Nullify, Finalize}
use Rattle.simplex_round.specs.declared.round.Certification.{Certification}
use Rattle.simplex_round.specs.Round.{RoundFacts}
use Rattle.simplex_voter.specs.Facts.{Settings, StateFacts, Elect, round_of, is_tracked, with_round}
use Rattle.simplex_member.specs.OutstandingWork.{is_among}
use Rattle.simplex_record.specs.Events.{Event}
use Rattle.laws_history.specs.LeaderHistory.{leader_by_event, comes_to_track}
use Rattle.laws_history.specs.OwnWork.{decides_nullify, decides_finalize}
use Rattle.laws_history.specs.WorkRequests.{names, sets_certification, sets_verified, asks_to_build, asks_to_verify, asks_for, binds}
use Rattle.laws_history.specs.HistoryFolds.{or_new}
use Rattle.laws_history.specs.Moments.{enters, proposes, latches, retries}
use Rattle.laws_history.proofs.EventFacts.{left_from}
use Rattle.simplex_record.proofs.RoundChanges.{round_of-put, round_of-same}

-- what histories say of the work on a view
pub record Worked (K D : Type 0) : Type 0 where
  pub tracked : Bool
  pub me : Option ℕ
  pub members : List K
  pub round : Round
  pub entered_at : Option ℕ
  pub proposed_at : Option ℕ
  pub leader : Option (Leader K)
  pub verified : Bool
  pub build_requested : Bool
  pub verify_requested : Bool
  pub decision : Decision
  pub stall_deadline : Option ℕ
  pub certification : Certification
  pub last_request : Option ℕ
  pub binding : Option (Proposal D × D)

abbrev pub work_in : {K D : Type 0} → Bool → RoundFacts K D → Worked K D
work_in tracked r = record {
  tracked = tracked;
  me = r.me;
  members = r.members;
  round = r.round;
  entered_at = r.entered_at;
  proposed_at = r.proposed_at;
  leader = r.leader;
  verified = r.slot.verified;
  build_requested = r.slot.build_requested;
  verify_requested = r.slot.verify_requested;
  decision = r.decision;
  stall_deadline = r.stall_deadline;
  certification = r.certification;
  last_request = r.last_request;
  binding = r.binding;
}

abbrev pub work_of : {K L D : Type 0} → StateFacts K L D → ℕ → Worked K D
work_of x v = work_in (is_tracked x v) (round_of x v)

-- a decision with a vote, or else with an entry, an explicit timeout and the moment of a repeat
abbrev pub timed : Settings → Option ℕ → Option (ℕ × TimeoutReason) → Option ℕ → Decision → Decision
timed settings entry latch retry (Pending leader certification first) =
    Pending
    (option_or (option_map (λ at. at + settings.leader_timeout) entry) leader)
    (option_or (option_map (λ at. at + settings.certification_timeout) entry) certification)
    (or_new first latch)
timed settings entry latch retry (Nullify again) = Nullify (option_or retry again)
timed settings entry latch retry Finalize = Finalize

-- a decision of which nothing is said
pub untimed : (settings : Settings) (d : Decision) → timed settings None None None d ≡ d
untimed settings (Pending leader certification first) = refl
untimed settings (Nullify again) = refl
untimed settings Finalize = refl

module _ {K L D : Type 0} (same : D → D → Bool) (elect : Elect L) where
  abbrev pub decides : StateFacts K L D → Event K D → ℕ → Decision → Decision
  decides x e v d =
      if decides_finalize same elect v x e
      then Finalize
      else (if decides_nullify v x e then Nullify None else timed x.settings (enters v x e) (latches same elect v x e)
      (retries v x e) d)

  -- what is known of the work on a view, with what an event says of it
  abbrev pub adds_work : StateFacts K L D → Event K D → ℕ → Worked K D → Worked K D
  adds_work x e v k = record k {
    tracked = is_some (enters v x e) || (comes_to_track same elect v x e || k.tracked);
    entered_at = or_new k.entered_at (enters v x e);
    proposed_at = option_or (proposes same elect v x e) k.proposed_at;
    leader = or_new k.leader (leader_by_event same elect v x e);
    verified = unwrap_or (sets_verified same elect v x e) k.verified;
    build_requested = unwrap_or (asks_to_build same elect v x e) k.build_requested;
    verify_requested = asks_to_verify same elect v x e || k.verify_requested;
    decision = decides x e v k.decision;
    stall_deadline = unwrap_or (option_map (λ at. option_map (λ time. at + time) x.terms.stall_timeout) (enters v x e))
        k.stall_deadline;
    certification = unwrap_or (sets_certification v x e) k.certification;
    last_request = option_or (asks_for same elect v x e) k.last_request;
    binding = unwrap_or (binds same elect v x e) k.binding;
  }

  -- the facts after an event are those before with what it says
  pub record WorkFollows (e : Event K D) (x y : StateFacts K L D) : Type 0 where
    pub me : y.me ≡ x.me
    pub members : y.members ≡ x.members
    pub elector : y.elector ≡ x.elector
    pub elects_early : y.elects_early ≡ x.elects_early
    pub failed : y.failed ≡ x.failed
    pub named : (v : ℕ) → is_among v y.named ≡ unwrap_or (names elect v x e) (is_among v x.named)
    pub work : (v : ℕ) → left_from x e ≤ v → work_of y v ≡ adds_work x e v (work_of x v)

  -- an event says nothing of the work on a view
  abbrev pub SaysNoWork : StateFacts K L D → Event K D → ℕ → Type 0
  SaysNoWork x e v = (k : Worked K D) → adds_work x e v k ≡ k

module _ {K L D : Type 0} where
  pub is_tracked-put : (x : StateFacts K L D) (v w : ℕ) (r : RoundFacts K D)
      → is_tracked (with_round x w r) v ≡ (eqb v w || is_tracked x v)
  is_tracked-put x v w r =
      ap is_some (find-put nat_cmp nat_cmp_total v w r x.rounds
      ∙ ap (λ b. cond b (Some r) (find nat_cmp v x.rounds)) (is_eq-nat_cmp v w))
      ∙ either (eqb v w)
    where
      either : (b : Bool) → is_some (cond b (Some r) (find nat_cmp v x.rounds)) ≡ (b || is_tracked x v)
      either true = refl
      either false = refl

  -- the work on a view after another round is put there, and elsewhere
  pub work_put : (x : StateFacts K L D) (v : ℕ) (r : RoundFacts K D) → work_of (with_round x v r) v ≡ work_in true r
  work_put x v r = rw (is_tracked-put x v v r, eq-eqb v v refl, round_of-same x v r) refl

  pub work_elsewhere : (x : StateFacts K L D) (v w : ℕ) (r : RoundFacts K D) → eqb w v ≡ false
      → work_of (with_round x v r) w ≡ work_of x w
  work_elsewhere x v w r apart = rw (is_tracked-put x w v r, round_of-put x w v r, apart) refl
