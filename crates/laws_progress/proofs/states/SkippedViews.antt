-- The current view is abandoned: the vote to nullify it, and its nullification.
use Rattle.std.proofs.Common.{◌≡◌, refl, ap, sym, ◌∙◌, subst, ℕ, ◌<◌, ◌≤◌, Bool, true, false, ◌&&◌, nat_lt, nat_le, List, Option, Some, None, is_some, unwrap_or, arith}
use Rattle.std.specs.Prelude.{◌==◌, if◌then◌else◌, option_map, option_and_then}
use Rattle.std.specs.Ordering.{nat_cmp}
use Rattle.std.specs.BTreeSet.{insert_key}
use Rattle.std.proofs.Math.Bool.{and-false}
use Rattle.std.proofs.lemmas.Bool.{eq-eqb, lt-ltb, le-leb}
use Rattle.std.proofs.lemmas.Bool.Decides.{nat_tests}
use Rattle.simplex_types.specs.Terms.{next_term_start}
use Rattle.simplex_types.specs.Certificates.{NullificationFacts, ArtifactFacts, NullifyVote}
use Rattle.simplex_types.specs.declared.types.numbers.Round.{Round}
use Rattle.simplex_round.specs.Round.{RoundFacts, new_round, leader_at, is_finalize, is_nullify, after_nullify, with_nullification}
use Rattle.simplex_view_maps.proofs.Gaps.{next_above}
use Rattle.simplex_voter.specs.Acceptance.{with_nullification_at}
use Rattle.simplex_voter.specs.ViewEntry.{at_moment, with_view_entered, entered_round}
use Rattle.simplex_voter.specs.Facts.{StateFacts, Elect, round_at, round_of, round_number, with_round}
use Rattle.simplex_voter.specs.Leaders.{has_leader, with_elected_leader}
use Rattle.simplex_voter.specs.Payloads.{certified_payload}
use Rattle.simplex_voter.specs.Refusals.{is_too_large, has_late_deadline, is_started}
use Rattle.simplex_voter.specs.Rules.{may_nullify}
use Rattle.simplex_voter.specs.Windows.{admits_certificate, min_active}
use Rattle.simplex_voter.proofs.Gaps.{and_both}
use Rattle.simplex_voter.proofs.Rules.{nullify_whole}
use Rattle.simplex_member.specs.CallConditions.{is_allowed, fault_of}
use Rattle.simplex_member.specs.Calls.{Nullify, ConstructNullify, AddNullification}
use Rattle.simplex_member.specs.CallSemantics.{answer, after_call}
use Rattle.simplex_member.specs.OutstandingWork.{OutstandingWork}
use Rattle.simplex_record.proofs.Rounds.{armed_finalize, round_put}
use Rattle.laws_progress.proofs.states.AtTermStart.{StandingMember, round_kept, round_here}
use Rattle.laws_progress.proofs.states.BeforeTermStart.{Waits, unexplicit_round, put_waits, reached, covered_on, known_as, at_its_own, either_waits}
use Rattle.laws_safety.proofs.lives.Progress.{no_fault_due}

given_up : {K D : Type 0} (r : RoundFacts K D) → is_finalize r.decision ≡ false
    → (is_finalize (after_nullify r).decision ≡ false) × (certified_payload (after_nullify r) ≡ certified_payload r)
given_up r is = rw is (refl, refl)

kept_then : {K D : Type 0} (r : RoundFacts K D) (c : NullificationFacts)
    → certified_payload (with_nullification r c) ≡ certified_payload r
kept_then r c = by_test (is_some r.nullification)
  where
    by_test : (b : Bool) → certified_payload (if b then r else record r { nullification = Some c }) ≡ certified_payload
        r
    by_test true = refl
    by_test false = refl

replied_by : {D : Type 0} (m : Option ℕ) (me : ℕ) (may b : Bool) (r : Round) → m ≡ Some me → may ≡ true
    → option_and_then {U = Bool × ArtifactFacts D}
    (λ i. option_map (λ retry. (retry, NullifyVote r i)) (if is_some m && may then Some b else None)) m ≡ Some
    (b, NullifyVote r me)
replied_by m me may b r e f = rw (e, f) refl

pub small_under : (p v : ℕ) → p ≤ v → is_too_large v ≡ false → is_too_large p ≡ false
small_under p v low small = grind (arith, nat_tests)

module _ {K L D : Type 0} (same : D → D → Bool) (elect : Elect L) (length : ℕ) (some : 0 < length)
    (l : StandingMember D) (h : Option (RoundFacts K D)) (x : StateFacts K L D) (o : OutstandingWork K D) (c g : ℕ)
    (w : Waits length l h c g x) where
  may_give_up : may_nullify x c ≡ true
  may_give_up = nullify_whole x c (record { current = sym w.current; no_finalize = w.undecided c (omega arith) })

  -- the vote to nullify the current view
  pub abandons : c < l.view → Waits length l h c g (after_call same elect x o (ConstructNullify c))
  abandons less =
      let r = round_of x c in
      let y : StateFacts K L D = with_round x c (after_nullify r) in
      let after = given_up r (w.undecided c (omega arith)) in
      let put = put_waits length l h c g c (after_nullify r) x w w.low (λ _. after.0)
      (after.1 ∙ unexplicit_round x c (omega (arith, w.low)) (w.highest c w.low)) in
      let still = known_as length l _ h c g y put
      (round_kept x c l.view (after_nullify r) (λ at. absurd (omega (arith, at, less))) ∙ w.here) in
      let cast : Waits length l h y.current g (record y { nullify_votes = insert_key nat_cmp y.nullify_votes c }) =
      reached length l h y.current y.current g y.moment (insert_key nat_cmp y.nullify_votes c) y
      (at_its_own length l h c g y still) (omega arith) (omega (arith, w.high, w.current)) in
      subst (λ n. Waits length l h n g (after_call same elect x o (ConstructNullify c))) w.current
      (rw (may_give_up, ap is_some w.me) cast)

  pub give_up_replied : (b : Bool) × (answer same elect x o (ConstructNullify c) ≡ Nullify
      (Some (b, NullifyVote (record { epoch = l.epoch; view = c }) l.me)))
  give_up_replied = (
    is_nullify (round_of x c).decision,
    ap Nullify (replied_by x.me l.me (may_nullify x c) (is_nullify (round_of x c).decision) (round_number x c) w.me
        may_give_up ∙ ap (λ (n : ℕ).
        Some (is_nullify (round_of x c).decision, NullifyVote (record { epoch = n; view = c }) l.me)) w.epoch),
  )

module _ {K L D : Type 0} (same : D → D → Bool) (elect : Elect L) (length : ℕ) (some : 0 < length)
    (l : StandingMember D) (h : Option (RoundFacts K D)) (x : StateFacts K L D) (o : OutstandingWork K D) (c : ℕ)
    (bytes : List ℕ) (w : Waits length l h c c x) (less : c < l.view) where
  abbrev cert : NullificationFacts
  cert = record { round = record { epoch = l.epoch; view = c }; bytes = bytes }

  abbrev next : ℕ
  next = next_term_start x.terms.term_length c

  pub next_is : next ≡ next_term_start length c
  next_is = ap (λ n. next_term_start n c) w.terms

  above : c < next
  above = subst (λ n. c < n) (sym next_is) (next_above length c some (omega (arith, w.low)))

  pub takes_it : is_allowed x o (AddNullification cert 0) ≡ true
  takes_it =
      and_both (is_started x && (l.epoch == x.settings.epoch)) (admits_certificate x c)
      (and_both (is_started x) (l.epoch == x.settings.epoch) (lt-ltb 0 x.current (omega (arith, w.low, w.current)))
      (eq-eqb l.epoch x.settings.epoch (sym w.epoch)))
      (and_both (nat_le 1 c) (nat_le (min_active x) c) (le-leb 1 c (omega (arith, w.low)))
      (le-leb (min_active x) c (omega (arith, w.above, w.low))))

  pub no_fault_then : fault_of x (AddNullification cert 0) ≡ None
  no_fault_then = no_fault_due x.failed (is_too_large c) (nat_lt x.current next && has_late_deadline x 0) w.alive
      (small_under c l.view w.high w.small)
      (ap (λ b. nat_lt x.current next && b) w.on_time ∙ and-false (nat_lt x.current next))

  abbrev a : StateFacts K L D
  a = at_moment x 0

  abbrev e : StateFacts K L D
  e = with_view_entered a next 0

  abbrev d : StateFacts K L D
  d = with_elected_leader elect e next (Some bytes)

  module _ (up_to : next ≤ l.view) where
    a_waits : Waits length l h x.current c a
    a_waits = reached length l h x.current x.current c 0 x.nullify_votes x (at_its_own length l h c c x w) (omega arith)
        (omega (arith, w.high, w.current))

    e_waits : Waits length l (round_at e l.view) next c e
    e_waits =
        let higher : nat_lt x.current next ≡ true = lt-ltb x.current next (omega (arith, above, w.current)) in
        let r = entered_round a (round_of a next) 0 in
        let up : l.parent < next = omega (arith, w.low, above) in
        let put = put_waits length l h x.current c next r a a_waits up
        (λ from. armed_finalize (round_of a next).decision _ _ ∙ a_waits.undecided next from)
        (unexplicit_round a next (omega (arith, up)) (a_waits.highest next up)) in
        rw higher (reached length l _ x.current next c 0 x.nullify_votes (with_round a next r) put
        (omega (arith, above, w.current)) up_to)

    d_waits : Waits length l (round_at d l.view) next c d
    d_waits =
        let up : l.parent < next = omega (arith, w.low, above) in
        either_waits length l next c (has_leader e next) e _ e_waits
        (put_waits length l _ next c next _ e e_waits up (λ from. e_waits.undecided next from)
        (unexplicit_round e next (omega (arith, up)) (e_waits.highest next up)))

    pub skips : Waits length l (round_at (after_call same elect x o (AddNullification cert 0)) l.view) next
        (next_term_start length c) (after_call same elect x o (AddNullification cert 0))
    skips =
        let put = put_waits length l _ next c c (with_nullification (round_of d c) cert) d d_waits w.low
        (λ from. absurd (omega (arith, from, above)))
        (kept_then (round_of d c) cert ∙ unexplicit_round d c (omega (arith, w.low)) (d_waits.highest c w.low)) in
        covered_on length l _ next c (with_nullification_at d cert) (omega (arith, w.low)) put

  higher : nat_lt x.current next ≡ true
  higher = lt-ltb x.current next (omega (arith, above, w.current))

  -- a view that is passed over, or lies above what is entered, is left alone
  pub elsewhere : next < l.view → round_at (after_call same elect x o (AddNullification cert 0)) l.view ≡ h
  elsewhere under =
      let from_c : l.view ≡ c → ⊥ = λ at. absurd (omega (arith, at, less)) in
      let from_next : l.view ≡ next → ⊥ = λ at. absurd (omega (arith, at, under)) in
      let entering : round_at e l.view ≡ h = rw higher
      (round_kept a next l.view (entered_round a (round_of a next) 0) from_next ∙ w.here) in
      let leading : round_at d l.view ≡ h = by_leader (has_leader e next) from_next entering in
      round_kept d c l.view (with_nullification (round_of d c) cert) from_c ∙ leading
    where
      by_leader : (b : Bool) → (l.view ≡ next → ⊥) → round_at e l.view ≡ h
          → round_at (if b then e else with_round e next
          (record (round_of e next)
          { leader = leader_at e.members (elect e.elector (round_number e next) (Some bytes)) })) l.view ≡ h
      by_leader true apart is = is
      by_leader false apart is = round_kept e next l.view _ apart ∙ is

  -- what is known of a view that was entered and elected for, and nothing else
  abbrev pub first_round : ℕ → RoundFacts K D
  first_round v = record (entered_round x (new_round x.me x.members (round_number x v)) 0)
      { leader = leader_at x.members (elect x.elector (round_number x v) (Some bytes)) }

  pub entered_first : round_at x next ≡ None
      → round_at (after_call same elect x o (AddNullification cert 0)) next ≡ Some (first_round next)
  entered_first untracked =
      let from_c : next ≡ c → ⊥ = λ at. absurd (omega (arith, at, above)) in
      let fresh : round_of a next ≡ new_round x.me x.members (round_number x next) =
      ap (λ f. unwrap_or f (new_round x.me x.members (round_number x next))) untracked in
      let entering : round_of f next ≡ entered_round x (new_round x.me x.members (round_number x next)) 0 =
      round_put a next (entered_round a (round_of a next) 0) ∙ ap (λ q. entered_round a q 0) fresh in
      let no_leader : has_leader f next ≡ false = ap (λ (q : RoundFacts K D). is_some q.leader) entering in
      let leading : round_at d next ≡ Some (first_round next) =
      rw (higher, no_leader) (round_here f next
      (record (round_of f next) {
        leader = leader_at x.members (elect x.elector (round_number x next) (Some bytes));
      }) ∙ ap (λ (q : RoundFacts K D). Some
      (record q { leader = leader_at x.members (elect x.elector (round_number x next) (Some bytes)) })) entering) in
      round_kept d c next (with_nullification (round_of d c) cert) from_c ∙ leading
    where
      f : StateFacts K L D
      f = record (with_round a next (entered_round a (round_of a next) 0)) { current = next }
