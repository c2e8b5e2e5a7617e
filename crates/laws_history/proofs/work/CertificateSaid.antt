-- What a certificate that is passed in says of the work on a view, in one shape for all of them.
use Rattle.std.proofs.Common.{◌≡◌, refl, ap, sym, ◌∙◌, ℕ, ◌+◌, Bool, true, false, ◌&&◌, ◌||◌, not, if◌then◌else◌, Option, Some, None, is_some, unwrap_or, option_map}
use Rattle.std.specs.Option.{option_or}
use Rattle.simplex_round.specs.declared.round.Leader.{Leader}
use Rattle.simplex_round.specs.declared.round.Decision.TheVariants.{Nullify, Finalize}
use Rattle.simplex_round.specs.declared.round.Certification.{Certification}
use Rattle.simplex_voter.specs.Facts.{StateFacts, Elect}
use Rattle.simplex_member.specs.OutstandingWork.{is_among}
use Rattle.simplex_record.specs.Events.{Event}
use Rattle.laws_history.specs.LeaderHistory.{leader_by_event, comes_to_track}
use Rattle.laws_history.specs.OwnWork.{decides_nullify, decides_finalize}
use Rattle.laws_history.specs.WorkRequests.{names, sets_certification, sets_verified, asks_to_build, asks_to_verify, asks_for, binds}
use Rattle.laws_history.specs.HistoryFolds.{or_new}
use Rattle.laws_history.specs.Moments.{enters, proposes, latches, retries}
use Rattle.laws_history.proofs.work.Certificates.{with_settled, with_certification}
use Rattle.laws_history.proofs.work.SetUp.{UnchangedSetUp}
use Rattle.laws_history.proofs.work.Leaders.{with_leader, work_entered_at}
use Rattle.laws_history.proofs.Worked.{Worked, work_of, timed, adds_work, WorkFollows}

-- what a certificate says of a view
pub record SaidOfView (K : Type 0) : Type 0 where
  -- the view is the certificate's own, the one after it, or one that it opens
  pub here : Bool
  pub next : Bool
  pub opened : Bool
  -- it contradicts what was stored
  pub overruled : Bool
  pub entry : Option ℕ
  pub from : Option Certification
  -- the leader that is elected, and the one that comes from a view below
  pub chosen : Option (Leader K)
  pub inherited : Option (Leader K)

abbrev pub with_said : {K L D : Type 0} → StateFacts K L D → SaidOfView K → Worked K D → Worked K D
with_said x s k = with_leader s.opened s.inherited
    (with_settled s.here s.overruled
    (with_leader s.next s.chosen (work_entered_at x s.entry (with_certification s.from k))))

-- this is what the event says of the view
pub record Says {K L D : Type 0} (same : D → D → Bool) (elect : Elect L) (x : StateFacts K L D) (e : Event K D) (v : ℕ)
    (s : SaidOfView K) : Type 0 where
  pub entered : enters v x e ≡ s.entry
  pub tracked : comes_to_track same elect v x e ≡ (s.here || s.next || s.opened)
  pub led : leader_by_event same elect v x e ≡ option_or s.chosen s.inherited
  pub verified : sets_verified same elect v x e ≡ (if s.overruled then Some false else None)
  pub build : asks_to_build same elect v x e ≡ (if s.overruled then Some true else None)
  pub verify : asks_to_verify same elect v x e ≡ s.overruled
  pub certified : sets_certification v x e ≡ s.from
  pub proposed : proposes same elect v x e ≡ None
  pub latched : latches same elect v x e ≡ None
  pub retried : retries v x e ≡ None
  pub no_finalize : decides_finalize same elect v x e ≡ false
  pub no_nullify : decides_nullify v x e ≡ false
  pub asked : asks_for same elect v x e ≡ None
  pub bound : binds same elect v x e ≡ None

tracks_joined : (opened here next entry tracked : Bool)
    → (opened || (here || (next || (entry || tracked)))) ≡ (entry || ((here || next || opened) || tracked))
tracks_joined true true next true tracked = refl
tracks_joined true true next false tracked = refl
tracks_joined true false true true tracked = refl
tracks_joined true false true false tracked = refl
tracks_joined true false false true tracked = refl
tracks_joined true false false false tracked = refl
tracks_joined false true next true tracked = refl
tracks_joined false true next false tracked = refl
tracks_joined false false true true tracked = refl
tracks_joined false false true false tracked = refl
tracks_joined false false false entry tracked = refl

leaders_joined : {A : Type 0} (old first later : Option A)
    → or_new (or_new old first) later ≡ or_new old (option_or first later)
leaders_joined old None later = refl
leaders_joined None (Some a) None = refl
leaders_joined None (Some a) (Some b) = refl
leaders_joined (Some c) (Some a) None = refl
leaders_joined (Some c) (Some a) (Some b) = refl

false_or : (b old : Bool) → unwrap_or (if b then Some false else None) old ≡ (not b && old)
false_or true old = refl
false_or false old = refl

true_or : (b old : Bool) → unwrap_or (if b then Some true else None) old ≡ (b || old)
true_or true old = refl
true_or false old = refl

module _ {K L D : Type 0} (same : D → D → Bool) (elect : Elect L) (x : StateFacts K L D) (e : Event K D) where
  said_added : (v : ℕ) (s : SaidOfView K) → Says same elect x e v s → (k : Worked K D)
      → with_said x s k ≡ adds_work same elect x e v k
  said_added v s a k = sym ((λ i. record k {
    tracked = is_some (a.entered i) || (a.tracked i || k.tracked);
    entered_at = or_new k.entered_at (a.entered i);
    proposed_at = option_or (a.proposed i) k.proposed_at;
    leader = or_new k.leader (a.led i);
    verified = unwrap_or (a.verified i) k.verified;
    build_requested = unwrap_or (a.build i) k.build_requested;
    verify_requested = a.verify i || k.verify_requested;
    decision = if a.no_finalize i then Finalize
        else (if a.no_nullify i then Nullify None else timed x.settings (a.entered i) (a.latched i) (a.retried i)
        k.decision);
    stall_deadline = unwrap_or (option_map (λ at. option_map (λ time. at + time) x.terms.stall_timeout) (a.entered i))
        k.stall_deadline;
    certification = unwrap_or (a.certified i) k.certification;
    last_request = option_or (a.asked i) k.last_request;
    binding = unwrap_or (a.bound i) k.binding;
  }) ∙ (λ i. record (with_said x s k) {
    tracked = sym (tracks_joined s.opened s.here s.next (is_some s.entry) k.tracked) i;
    leader = sym (leaders_joined k.leader s.chosen s.inherited) i;
    verified = false_or s.overruled k.verified i;
    build_requested = true_or s.overruled k.build_requested i;
  }))

  pub said_follows : (y : StateFacts K L D) (said : ℕ → SaidOfView K) → UnchangedSetUp x y
      → ((v : ℕ) → is_among v y.named ≡ unwrap_or (names elect v x e) (is_among v x.named))
      → ((v : ℕ) → Says same elect x e v (said v)) → ((v : ℕ) → work_of y v ≡ with_said x (said v) (work_of x v))
      → WorkFollows same elect e x y
  said_follows y said steady named says work = record {
    me = ap (λ (a : StateFacts K L D). a.me) steady;
    members = ap (λ (a : StateFacts K L D). a.members) steady;
    elector = ap (λ (a : StateFacts K L D). a.elector) steady;
    elects_early = ap (λ (a : StateFacts K L D). a.elects_early) steady;
    failed = ap (λ (a : StateFacts K L D). a.failed) steady;
    named = named;
    work = λ v _. work v ∙ said_added v (said v) (says v) (work_of x v);
  }
