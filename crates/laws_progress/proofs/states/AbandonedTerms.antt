-- A member abandons one term after another, up to the untouched term start.
use Rattle.std.proofs.Common.{◌≡◌, refl, ap, sym, ◌∙◌, subst, ℕ, zero, suc, ◌<◌, ◌≤◌, Bool, true, false, List, [], ◌∷◌, Option, Some, None, is_some, unwrap_or, arith}
use Rattle.std.specs.Prelude.{option_map}
use Rattle.std.proofs.lemmas.Bool.{false≢true}
use Rattle.simplex_types.specs.Certificates.{NullificationFacts}
use Rattle.simplex_types.specs.Terms.{next_term_start}
use Rattle.simplex_types.specs.declared.types.messages.Subject.TheVariants as subject
use Rattle.simplex_view_maps.proofs.Gaps.{next_above}
use Rattle.simplex_round.specs.declared.round.Leader.{Leader}
use Rattle.simplex_round.specs.Round.{RoundFacts, leader_at, is_pending}
use Rattle.simplex_voter.specs.Facts.{StateFacts, Elect, round_at}
use Rattle.simplex_voter.specs.Payloads.{explicit_ancestry_payload}
use Rattle.simplex_member.specs.Calls.{CallFacts, AddedNullification, ConstructNullify, AddNullification}
use Rattle.simplex_member.specs.MemberFacts.{MemberFacts, with_call}
use Rattle.simplex_member.specs.CallSemantics.{after_call}
use Rattle.simplex_member.specs.OutstandingWork.{OutstandingWork}
use Rattle.laws_safety.specs.Traces.{TraceEvent, Accepts, Signs}
use Rattle.laws_safety.proofs.frames.NoLowerViews.{call_goes}
use Rattle.laws_safety.proofs.lives.Progress.{no_fault_due}
use Rattle.laws_progress.specs.SharedView.{terms_on}
use Rattle.laws_progress.proofs.states.Calls.{with_work, nothing_done}
use Rattle.laws_progress.proofs.states.AtTermStart.{StandingMember, StandsAtView}
use Rattle.laws_progress.proofs.states.Sequences.{Sequence, call_then, calls_in, whole_trace}
use Rattle.laws_progress.proofs.states.SkippedViews.{abandons, give_up_replied, next_is, takes_it, no_fault_then, skips, elsewhere, first_round, entered_first}
use Rattle.laws_progress.proofs.states.BeforeTermStart.{Waits, known_as, stands_now}

-- the nullification of a view, of no bytes
abbrev pub null_cert : ℕ → ℕ → NullificationFacts
null_cert epoch c = record { round = record { epoch = epoch; view = c }; bytes = [] }

pub on_from : (length : ℕ) → 0 < length → (count view : ℕ) → 1 ≤ view → view ≤ terms_on length count view
on_from length some zero view one = omega arith
on_from length some (suc count) view one =
    let above = next_above length view some one in
    let rest = on_from length some count (next_term_start length view) (omega (arith, above)) in
    omega (arith, above, rest)

module _ {D : Type 0} (epoch length : ℕ) where
  -- a view is voted to be nullified
  abbrev pub gives_up_now : ℕ → ℕ → CallFacts D × List (TraceEvent D)
  gives_up_now me view =
      (ConstructNullify view, Signs me (subject.Nullify (record { epoch = epoch; view = view })) ∷ [])

  -- and its nullification comes
  abbrev pub skips_now : ℕ → CallFacts D × List (TraceEvent D)
  skips_now view = (
    AddNullification (record { round = record { epoch = epoch; view = view }; bytes = [] }) 0,
    Accepts (subject.Nullify (record { epoch = epoch; view = view })) ∷ [],
  )

  -- this number of terms later, and then the rest
  abbrev pub skip_sequence : ℕ → ℕ → ℕ → List (CallFacts D × List (TraceEvent D))
      → List (CallFacts D × List (TraceEvent D))
  skip_sequence me zero view rest = rest
  skip_sequence me (suc count) view rest = gives_up_now me view ∷ skips_now view ∷ skip_sequence me count
      (next_term_start length view) rest

  -- what it calls, and does
  abbrev pub skip_calls : ℕ → ℕ → List (CallFacts D) → List (CallFacts D)
  skip_calls zero view rest = rest
  skip_calls (suc count) view rest = ConstructNullify view ∷ AddNullification
      (record { round = record { epoch = epoch; view = view }; bytes = [] }) 0 ∷ skip_calls count
      (next_term_start length view) rest

  abbrev pub skip_trace : ℕ → ℕ → ℕ → List (TraceEvent D) → List (TraceEvent D)
  skip_trace me zero view rest = rest
  skip_trace me (suc count) view rest =
      Signs me (subject.Nullify (record { epoch = epoch; view = view }))
      ∷ Accepts (subject.Nullify (record { epoch = epoch; view = view }))
      ∷ skip_trace me count (next_term_start length view) rest

  pub skip_calls_are : (me count view : ℕ) (rest : List (CallFacts D × List (TraceEvent D)))
      → calls_in (skip_sequence me count view rest) ≡ skip_calls count view (calls_in rest)
  skip_calls_are me zero view rest = refl
  skip_calls_are me (suc count) view rest =
      ap (λ cs. ConstructNullify view ∷ AddNullification
      (record { round = record { epoch = epoch; view = view }; bytes = [] }) 0 ∷ cs)
      (skip_calls_are me count (next_term_start length view) rest)

  pub skip_trace_is : (me count view : ℕ) (rest : List (CallFacts D × List (TraceEvent D)))
      → whole_trace (skip_sequence me count view rest) ≡ skip_trace me count view (whole_trace rest)
  skip_trace_is me zero view rest = refl
  skip_trace_is me (suc count) view rest = ap
      (λ ds. Signs me (subject.Nullify (record { epoch = epoch; view = view })) ∷ Accepts
      (subject.Nullify (record { epoch = epoch; view = view })) ∷ ds)
      (skip_trace_is me count (next_term_start length view) rest)

module _ {K L D : Type 0} where
  -- a member that is at the start, which nobody touched
  pub record IsReady (l : StandingMember D) (leader : ℕ) (x : StateFacts K L D) : Type 0 where
    pub round : RoundFacts K D
    pub stands : StandsAtView l (with_work round nothing_done) l.view x
    pub pending : is_pending round.decision ≡ true
    pub none : round.finalization ≡ None
    pub me : round.me ≡ Some l.me
    pub lead : Leader K
    pub leads : round.leader ≡ Some lead
    pub index : lead.idx ≡ leader
    pub highest : (v : ℕ) → l.parent < v → explicit_ancestry_payload x v ≡ None

  -- whom the state would elect for the view
  abbrev pub Elects : Elect L → StandingMember D → ℕ → StateFacts K L D → Type 0
  Elects elect l leader x = option_map (λ (o : Leader K). o.idx)
      (leader_at x.members (elect x.elector (record { epoch = l.epoch; view = l.view }) (Some []))) ≡ Some leader

module _ {K L D : Type 0} (same : D → D → Bool) (elect : Elect L) (length : ℕ) (some : 0 < length)
    (l : StandingMember D) (leader : ℕ) (last : List (CallFacts D × List (TraceEvent D))) where
  elects_still : (x : StateFacts K L D) (o : OutstandingWork K D) (call : CallFacts D) → Elects elect l leader x
      → Elects elect l leader (after_call same elect x o call)
  elects_still x o call is =
      let goes = call_goes same elect x o call in
      (λ j. option_map (λ (f : Leader K). f.idx)
      (leader_at (goes.members j) (elect (goes.elector j) (record { epoch = l.epoch; view = l.view }) (Some []))))
      ∙ is

  module _ (h : Option (RoundFacts K D)) (c : ℕ) (m : MemberFacts K L D) (x : StateFacts K L D)
      (alive : m.life ≡ Some x) (w : Waits length l h c c x) (less : c < l.view) where
    abbrev given : StateFacts K L D
    given = after_call same elect x m.outstanding_work (ConstructNullify c)

    abbrev gone : StateFacts K L D
    gone = after_call same elect given m.outstanding_work (AddNullification (null_cert l.epoch c) 0)

    abbrev left : MemberFacts K L D
    left = with_call same elect given (with_call same elect x m (ConstructNullify c))
        (AddNullification (null_cert l.epoch c) 0)

    given_waits : Waits length l h c c given
    given_waits = abandons same elect length some l h x m.outstanding_work c c w less

    two_calls : (rest : List (CallFacts D × List (TraceEvent D))) → Sequence same elect left rest
        → Sequence same elect m (gives_up_now l.epoch length l.me c ∷ skips_now l.epoch length c ∷ rest)
    two_calls rest behind =
        let replied = give_up_replied same elect length some l h x m.outstanding_work c c w in
        call_then same elect m x (ConstructNullify c) _ _ alive refl
        (no_fault_due x.failed false false w.alive refl refl) replied.1
        (call_then same elect _ given (AddNullification (null_cert l.epoch c) 0) (AddedNullification _) rest refl
        (takes_it same elect length some l h given m.outstanding_work c [] given_waits less)
        (no_fault_then same elect length some l h given m.outstanding_work c [] given_waits less) refl behind)

    next_same : next_term_start given.terms.term_length c ≡ next_term_start length c
    next_same = next_is same elect length some l h given m.outstanding_work c [] given_waits less

    gone_waits : next_term_start length c ≤ l.view
        → Waits length l (round_at gone l.view) (next_term_start length c) (next_term_start length c) gone
    gone_waits up_to = subst (λ n. Waits length l (round_at gone l.view) n (next_term_start length c) gone) next_same
        (skips same elect length some l h given m.outstanding_work c [] given_waits less
        (omega (arith, up_to, next_same)))

    untouched : next_term_start length c < l.view → round_at gone l.view ≡ h
    untouched under = elsewhere same elect length some l h given m.outstanding_work c [] given_waits less
        (omega (arith, under, next_same))

    abbrev first : RoundFacts K D
    first = first_round same elect length some l h given m.outstanding_work c [] given_waits less l.view

    entered : h ≡ None → next_term_start length c ≡ l.view → round_at gone l.view ≡ Some first
    entered none far =
        let next = next_same ∙ far in
        let untracked : round_at given (next_term_start given.terms.term_length c) ≡ None =
        subst (λ v. round_at given v ≡ None) (sym next) (given_waits.here ∙ none) in
        subst (λ v. round_at gone v ≡ Some (first_round same elect length some l h given m.outstanding_work c []
        given_waits less v)) next
        (entered_first same elect length some l h given m.outstanding_work c [] given_waits less untracked)

  leader_of : (o : Option (Leader K)) → option_map (λ (f : Leader K). f.idx) o ≡ Some leader
      → (lead : Leader K) × (o ≡ Some lead) × (lead.idx ≡ leader)
  leader_of None is = absurd (false≢true (ap is_some is))
  leader_of (Some lead) is = (lead, refl, ap (λ o. unwrap_or o leader) is)

  ready : (c : ℕ) (m : MemberFacts K L D) (x : StateFacts K L D) (alive : m.life ≡ Some x)
      (w : Waits length l None c c x) (less : c < l.view) → next_term_start length c ≡ l.view → Elects elect l leader x
      → IsReady l leader (gone None c m x alive w less)
  ready c m x alive w less far elects =
      let y = given None c m x alive w less in
      let z = gone None c m x alive w less in
      let r = first None c m x alive w less in
      let waits = known_as length l _ (Some r) _ _ z (gone_waits None c m x alive w less (omega (arith, far)))
      (entered None c m x alive w less refl far) in
      let at_start = subst (λ n. Waits length l (Some r) n n z) far waits in
      let before = given_waits None c m x alive w less in
      let elected = elects_still x m.outstanding_work (ConstructNullify c) elects in
      let leads : option_map (λ (f : Leader K). f.idx) r.leader ≡ Some leader =
      (λ j. option_map (λ (f : Leader K). f.idx)
      (leader_at y.members (elect y.elector (record { epoch = before.epoch j; view = l.view }) (Some []))))
      ∙ elected in
      let lead = leader_of r.leader leads in
      record {
        round = r;
        stands = stands_now length l r z some at_start;
        pending = refl;
        none = refl;
        me = before.me;
        lead = lead.0;
        leads = lead.1;
        index = lead.2;
        highest = at_start.highest;
      }

  -- what is done once it is ready follows
  pub passes : (count c : ℕ) (m : MemberFacts K L D) (x : StateFacts K L D) → m.life ≡ Some x
      → Waits length l None c c x → terms_on length (suc count) c ≡ l.view → Elects elect l leader x
      → ((n : MemberFacts K L D) (y : StateFacts K L D) → n.life ≡ Some y → IsReady l leader y
      → Sequence same elect n last)
      → Sequence same elect m (skip_sequence l.epoch length l.me (suc count) c last)
  passes zero c m x alive w far elects rest =
      let less : c < l.view = omega (arith, far, next_above length c some (omega (arith, w.low))) in
      two_calls None c m x alive w less _ (rest (left None c m x alive w less) (gone None c m x alive w less) refl
      (ready c m x alive w less far elects))
  passes (suc count) c m x alive w far elects rest =
      let one = next_above length c some (omega (arith, w.low)) in
      let two = next_above length (next_term_start length c) some (omega (arith, one)) in
      let after = on_from length some count (next_term_start length (next_term_start length c))
      (omega (arith, one, two)) in
      let under : next_term_start length c < l.view = omega (arith, far, two, after) in
      let less : c < l.view = omega (arith, one, under) in
      let y = given None c m x alive w less in
      let z = gone None c m x alive w less in
      let waits = known_as length l _ None _ _ z (gone_waits None c m x alive w less (omega (arith, under)))
      (untouched None c m x alive w less under) in
      two_calls None c m x alive w less _
      (passes count (next_term_start length c) (left None c m x alive w less) z refl waits far
      (elects_still y m.outstanding_work (AddNullification (null_cert l.epoch c) 0)
      (elects_still x m.outstanding_work (ConstructNullify c) elects)) rest)
