-- What an election changes of the work on a view, with the entry before it and the windows after it.
use Rattle.std.proofs.Common.{◌≡◌, refl, ap, sym, ◌∙◌, ℕ, ◌+◌, Bool, true, false, ◌&&◌, eqb, nat_lt, if◌then◌else◌, List, Option, Some, None, is_some}
use Rattle.std.specs.Prelude.{is_none, option_and_then}
use Rattle.std.specs.Option.{option_map_or}
use Rattle.simplex_types.specs.Certificates.{ProposalFacts}
use Rattle.simplex_round.specs.declared.round.Certification.{Certification}
use Rattle.simplex_round.specs.declared.round.Leader.{Leader}
use Rattle.simplex_round.specs.Round.{leader_at}
use Rattle.simplex_voter.specs.Facts.{StateFacts, Elect, round_at, round_of}
use Rattle.simplex_voter.specs.Leaders.{with_elected_leader, with_window_leaders}
use Rattle.simplex_voter.specs.ViewEntry.{with_view_entered}
use Rattle.simplex_voter.specs.Certification.{named_also, waits_for, with_waiting_candidate}
use Rattle.laws_history.specs.LeaderHistory.{same_member, window_leader, opens, elected_leader}
use Rattle.laws_history.specs.OwnWork.{contradicts}
use Rattle.laws_history.proofs.work.Certificates.{with_settled, with_certification, settled_by}
use Rattle.laws_history.proofs.work.Windows.{SameLeaders, window_alike, slid_work}
use Rattle.laws_history.proofs.work.CertificateSaid.{SaidOfView, with_said}
use Rattle.laws_history.proofs.work.SetUp.{UnchangedSetUp, entered_steady, elected_steady}
use Rattle.laws_history.proofs.work.Leaders.{with_leader, work_entered_at, entry_at, elected_work, entered_work}
use Rattle.laws_history.proofs.Worked.{Worked, work_of, untimed}

module _ {K L D : Type 0} where
  pub without_entry : (x : StateFacts K L D) (k : Worked K D) → k ≡ work_entered_at x None k
  without_entry x k = λ i. record k { decision = sym (untimed x.settings k.decision) i }

  -- the first certificate of its kind opens windows; d is what the leaders were taken from
  opened_work : {A : Type 0} (x d z a : StateFacts K L D) (u v : ℕ) (standing : Option A) → a.members ≡ x.members
      → SameLeaders d a → work_of a v ≡ work_of z v
      → work_of (if is_some standing then z else with_window_leaders a u) v ≡ with_leader
      (is_none standing && is_some (window_leader d u v))
      (if is_none standing then same_member x (window_leader d u v) else None) (work_of z v)
  opened_work x d z a u v None members leaders same_work =
      let window : window_leader a u v ≡ window_leader d u v = window_alike d a leaders u v in
      slid_work a u v ∙ (λ i. with_leader (is_some (window i))
      (option_and_then (λ l. leader_at (members i) l.idx) (window i)) (same_work i))
  opened_work x d z a u v (Some standing) members leaders same_work = refl

  pub named_work : (x : StateFacts K L D) (u v : ℕ) → work_of (named_also x u) v ≡ work_of x v
  named_work x u v = either (nat_lt x.finalized u) _ refl
    where
      either : (b : Bool) (y : StateFacts K L D) → work_of y v ≡ work_of x v
          → work_of (if b then y else x) v ≡ work_of x v
      either true y same_work = same_work
      either false y same_work = refl

  pub woken_work : (elect : Elect L) (x : StateFacts K L D) (u v : ℕ)
      → work_of (with_waiting_candidate elect x u) v ≡ work_of x v
  woken_work elect x u v = either (option_map_or (waits_for elect x u) (round_at x (u + 1)) false)
    where
      either : (b : Bool) → work_of (if b then named_also x (u + 1) else x) v ≡ work_of x v
      either true = named_work x (u + 1) v
      either false = refl

  -- an entry of the view w, where nothing that it depends on has changed
  pub entered_said : (x b : StateFacts K L D) (w now v : ℕ) → UnchangedSetUp x b → b.current ≡ x.current
      → work_of (with_view_entered b w now) v ≡ work_entered_at x (entry_at x w now v) (work_of b v)
  entered_said x b w now v steady current = entered_work b w now v
      ∙ (λ i. work_entered_at (steady i) (if eqb v w && nat_lt (current i) v then Some now else None) (work_of b v))

  pub entered_named : (x : StateFacts K L D) (w now : ℕ) → (with_view_entered x w now).named ≡ x.named
  entered_named x w now = either (nat_lt x.current w) _ refl
    where
      either : (b : Bool) (y : StateFacts K L D) → y.named ≡ x.named → (if b then y else x).named ≡ x.named
      either true y named = named
      either false y named = refl

module _ {K L D : Type 0} (same : D → D → Bool) (elect : Elect L) (x : StateFacts K L D) (c : ProposalFacts D) where
  -- what a certificate of a proposal says, where it enters a view and ends certifications like this
  abbrev pub proposal_said : Bool → Option ℕ → Option Certification → ℕ → SaidOfView K
  proposal_said first entry from v = record {
    here = eqb v c.proposal.round.view;
    next = eqb v (c.proposal.round.view + 1);
    opened = first && is_some (opens elect x v c);
    overruled = contradicts same (round_of x v).slot.held (settled_by c first v);
    entry = entry;
    from = from;
    chosen = elected_leader elect x v (c.proposal.round.view + 1) (Some c.bytes);
    inherited = if first then same_member x (opens elect x v c) else None;
  }

  -- e is what it makes of the facts before it elects

  module _ (e : StateFacts K L D) (entry : ℕ → Option ℕ) (from : ℕ → Option Certification) (steady : UnchangedSetUp x e)
      (before : (v : ℕ) → work_of e v ≡ work_entered_at x (entry v) (with_certification (from v) (work_of x v))) where
    elected_said : (v : ℕ) → work_of (with_elected_leader elect e (c.proposal.round.view + 1) (Some c.bytes))
        v ≡ with_leader (eqb v (c.proposal.round.view + 1))
        (elected_leader elect x v (c.proposal.round.view + 1) (Some c.bytes))
        (work_entered_at x (entry v) (with_certification (from v) (work_of x v)))
    elected_said v =
        let next = c.proposal.round.view + 1 in
        elected_work elect e next (Some c.bytes) v
        ∙ (λ i. with_leader (eqb v next) (elected_leader elect (steady i) v next (Some c.bytes)) (before v i))

    pub proposal_work : (standing : Option (ProposalFacts D)) (z a : StateFacts K L D) → UnchangedSetUp x a
        → ((v : ℕ) → work_of z v ≡ with_settled (eqb v c.proposal.round.view)
        (contradicts same (round_of x v).slot.held (settled_by c (is_none standing) v))
        (work_of (with_elected_leader elect e (c.proposal.round.view + 1) (Some c.bytes)) v))
        → ((v : ℕ) → work_of a v ≡ work_of z v) → (v : ℕ)
        → work_of (if is_some standing then z else with_window_leaders a c.proposal.round.view) v ≡ with_said x
        (proposal_said (is_none standing) (entry v) (from v) v) (work_of x v)
    proposal_work standing z a stays settled same_work v =
        opened_work x d z a u v standing (ap (λ (y : StateFacts K L D). y.members) stays) leaders (same_work v)
        ∙ ap (with_leader (is_none standing && is_some (window_leader d u v))
        (if is_none standing then same_member x (window_leader d u v) else None))
        (settled v ∙ ap (with_settled (eqb v u)
        (contradicts same (round_of x v).slot.held (settled_by c (is_none standing) v))) (elected_said v))
      where
        u : ℕ
        u = c.proposal.round.view

        d : StateFacts K L D
        d = with_elected_leader elect x (u + 1) (Some c.bytes)

        leader_of : Worked K D → Option (Leader K)
        leader_of k = k.leader

        as_elected : UnchangedSetUp d a
        as_elected = stays ∙ sym (elected_steady elect x (u + 1) (Some c.bytes))

        leaders : SameLeaders d a
        leaders = record {
          members = ap (λ (y : StateFacts K L D). y.members) as_elected;
          terms = ap (λ (y : StateFacts K L D). y.terms) as_elected;
          leader = λ w. ap leader_of (same_work w ∙ settled w) ∙ ap leader_of (elected_said w)
              ∙ sym (ap leader_of (elected_work elect x (u + 1) (Some c.bytes) w));
        }

module _ {K L D : Type 0} (elect : Elect L) (x : StateFacts K L D) where
  -- what an election says that follows an entry of the view
  abbrev pub entry_said : Bool → ℕ → ℕ → Option (List ℕ) → ℕ → SaidOfView K
  entry_said here w now seed v = record {
    here = here;
    next = eqb v w;
    opened = false;
    overruled = false;
    entry = entry_at x w now v;
    from = None;
    chosen = elected_leader elect x v w seed;
    inherited = None;
  }

  pub entry_work : (a : StateFacts K L D) (w now : ℕ) (seed : Option (List ℕ)) (v : ℕ) → UnchangedSetUp x a
      → a.current ≡ x.current → work_of a v ≡ work_of x v
      → work_of (with_elected_leader elect (with_view_entered a w now) w seed) v ≡ with_said x
      (entry_said false w now seed v) (work_of x v)
  entry_work a w now seed v steady current same_work =
      let e = with_view_entered a w now in
      let stays : UnchangedSetUp x e = entered_steady a w now ∙ steady in
      elected_work elect e w seed v
      ∙ (λ i. with_leader (eqb v w) (elected_leader elect (stays i) v w seed)
      ((entered_said x a w now v steady current ∙ ap (work_entered_at x (entry_at x w now v)) same_work) i))
