-- What the application must receive is not lost.
use Rattle.std.proofs.Common.{◌≡◌, ◌∙◌, ap, sym, subst, ℕ, ◌⊎◌, inl, inr, Bool, true, false, ◌==◌, cond, List, [], ◌∷◌, ◌++◌, map, Option, Some, None}
use Rattle.std.specs.BTreeSet.{insert_key}
use Rattle.std.specs.List.{fold, list_any}
use Rattle.std.specs.Ordering.{nat_cmp}
use Rattle.std.proofs.lemmas.Bool.{or_left, or_right, eq-eqb}
use Rattle.simplex_types.specs.declared.types.fault.Fault.{Fault}
use Rattle.simplex_types.specs.declared.types.messages.Proposal.{Proposal}
use Rattle.std.specs.Option.{option_map_or}
use Rattle.std.specs.Prelude.{IfSome}
use Rattle.simplex_voter.specs.Certification.{candidates_answer}
use Rattle.simplex_voter.specs.Facts.{StateFacts, Elect}
use Rattle.simplex_voter.specs.ProposalRequests.{propose_answer, supersede_answer}
use Rattle.simplex_voter.specs.Verification.{verify_answer}
use Rattle.simplex_voter.specs.declared.voter.propose.ProposalRequest.{ProposalRequest}
use Rattle.simplex_voter.specs.declared.voter.verify.Verify.{Verify}
use Rattle.simplex_voter.specs.declared.voter.verify.Verify.TheVariants as verify
use Rattle.simplex_member.specs.CallConditions.{is_allowed, fault_of}
use Rattle.simplex_member.specs.Calls as call
use Rattle.simplex_member.specs.Calls.{CallFacts, ReplyFacts}
use Rattle.simplex_member.specs.CallSemantics.{answer, outstanding_work_after}
use Rattle.simplex_member.specs.MemberFacts.{MemberFacts, SignedMember, AnswersAlive, IsCall, unless_refused, unless_retained, with_call}
use Rattle.simplex_member.specs.OutstandingWork.{OutstandingWork, no_outstanding_work, context_at, is_among, is_offered, is_verifying, with_offers, with_open_request, with_verification, without_context, without_offer, without_verification}
use Rattle.laws_safety.proofs.votes.OutstandingWork.{among_others, now_among}
use Rattle.engine_outbox.specs.declared.output.Work.{Work}
use Rattle.engine_outbox.specs.declared.output.Work.TheVariants as work
use Rattle.simplex_engine.specs.declared.engine.Engine.{Engine}
use Rattle.simplex_engine.specs.BuildBounds.{BuildsAhead}
use Rattle.simplex_engine.specs.ApplicationWork.{is_verify_of, is_certify_of, IsReportedIn}
use Rattle.engine_planner.specs.Blocks.{builds_from}
use Rattle.engine_planner.specs.declared.plan.builds.PendingBuild.{PendingBuild}
use Rattle.engine_planner.specs.declared.plan.Options.{Options}
use Rattle.engine_outbox.specs.RecordReach.{IsShort}
use Rattle.engine_planner.specs.PlannedWork.{AreAmong, Beside, awaits, has_block, is_build_of, work_of}
use Rattle.engine_planner.proofs.PlannedWork.{any_either, any_left, any_right, among_more, has_further}

module _ {S D K G C : Type 0} where
  -- in another order
  pub among_swapped : (these those : List (Work S D K G C)) → AreAmong (these ++ those) (those ++ these)
  among_swapped these those = record {
    found = λ test some. elim (any_either test these those some) [
      | inl this ↦ any_right test those these this
      | inr that ↦ any_left test those these that
    ];
  }

  -- after others
  pub among_behind : (these those : List (Work S D K G C)) → AreAmong those (these ++ those)
  among_behind these those = record { found = λ test. any_right test these those }

  -- each proposal that waits for the application is among this work
  abbrev pub IsWorkIn : List (Work S D K G C) → OutstandingWork K D → Type 0
  IsWorkIn works waiting =
      ((view : ℕ) → is_verifying waiting view ≡ true → list_any (is_verify_of view) works ≡ true)
      × ((view : ℕ) → is_offered waiting view ≡ true → list_any (is_certify_of view) works ≡ true)

  -- among more
  pub work_among : {these those : List (Work S D K G C)} (waiting : OutstandingWork K D) → AreAmong these those
      → IsWorkIn these waiting → IsWorkIn those waiting
  work_among waiting among is = (
    λ view waits. among.found (is_verify_of view) (is.0 view waits),
    λ view waits. among.found (is_certify_of view) (is.1 view waits),
  )

  -- a block that was asked for still is, and one that waited was planned or waits
  pub block_further : {works planned those : List (Work S D K G C)} (was is : Beside K D) (view : ℕ)
      → AreAmong works those → AreAmong planned those
      → (awaits was view ≡ true → has_block planned is view ≡ true) → has_block works was view ≡ true
      → has_block those is view ≡ true
  block_further {those = those} was is view among behind waiting =
      has_further was is view among (λ waits.
      has_further is is view behind (or_right (list_any (is_build_of view) those) (awaits is view)) (waiting waits))

  -- what was asked for still is, with what is planned
  pub replied_by : {works planned those : List (Work S D K G C)} {was is : Beside K D} {waiting : OutstandingWork K D}
      → AreAmong works those → AreAmong planned those
      → ((view : ℕ) → awaits was view ≡ true → has_block planned is view ≡ true) → IsReportedIn works was waiting
      → IsReportedIn those is waiting
  replied_by {was = was} {is = is} {waiting = waiting} among behind building replied =
      let more = work_among waiting among (replied.verified, replied.certified) in
      record {
        verified = more.0;
        certified = more.1;
        built = λ view waits. block_further was is view among behind (building view) (replied.built view waits);
      }

  -- among more
  pub replied_among : {these those : List (Work S D K G C)} {beside : Beside K D} {waiting : OutstandingWork K D}
      → AreAmong these those → IsReportedIn these beside waiting → IsReportedIn those beside waiting
  replied_among {these = these} {beside = beside} among replied =
      replied_by among among (λ view. or_right (list_any (is_build_of view) these) (awaits beside view)) replied

  pub replied_none : (works : List (Work S D K G C)) (beside : Beside K D)
      → IsReportedIn works beside no_outstanding_work
  replied_none works beside =
      record { verified = λ view waits. cc; certified = λ view waits. cc; built = λ view waits. cc }

-- an answer and what it opens

module _ (S K G C : Type 0) {D : Type 0} where
  -- the offers of some proposals
  offered_by : (view : ℕ) (proposals : List (Proposal D)) (views : List ℕ)
      → is_among view (fold (λ vs (p : Proposal D). insert_key nat_cmp vs p.round.view) views proposals) ≡ true
      → (is_among view views ≡ true)
      ⊎ (list_any (is_certify_of {S = S} {D = D} {K = K} {G = G} {C = C} view) (map work.Certify proposals) ≡ true)
  offered_by view [] views is = inl is
  offered_by view (p ∷ rest) views is = elim (offered_by view rest (insert_key nat_cmp views p.round.view) is) [
    | inr later ↦ inr (or_right (p.round.view == view) _ later)
    | inl before ↦ (elim (now_among p.round.view view views before) [
      | inl now ↦ inr (or_left (p.round.view == view) _ (eq-eqb p.round.view view (sym now)))
      | inr there ↦ inl there
    ])
  ]

module _ {S L D K G C : Type 0} (same : D → D → Bool) (elect : Elect L) (works : List (Work S D K G C)) where
  abbrev HasWorkOf : ReplyFacts K D → OutstandingWork K D → Type 0
  HasWorkOf replied waiting = IsWorkIn (works ++ work_of {S = S} {D = D} {K = K} {G = G} {C = C} replied) waiting

  work_anyway : (replied : ReplyFacts K D) (waiting : OutstandingWork K D) → IsWorkIn works waiting
      → HasWorkOf replied waiting
  work_anyway replied waiting is = work_among waiting (among_more works (work_of replied)) is

  work_verify : (waiting : OutstandingWork K D) (answer : Verify D K) → IsWorkIn works waiting
      → HasWorkOf (call.Standing answer) (with_verification waiting answer)
  work_verify waiting verify.Wait is = work_anyway (call.Standing verify.Wait) waiting is
  work_verify waiting (verify.Resolve proposal view kind target) is =
      work_anyway (call.Standing (verify.Resolve proposal view kind target)) waiting is
  work_verify waiting (verify.Ready context p) is =
      let more = work.Verify context p ∷ [] in (
        λ view waits. elim (now_among p.round.view view waiting.verifying waits) [
          | inl now ↦ any_right (is_verify_of view) works more
              (or_left (p.round.view == view) false (eq-eqb p.round.view view (sym now)))
          | inr there ↦ any_left (is_verify_of view) works more (is.0 view there)
        ],
        λ view waits. any_left (is_certify_of view) works more (is.1 view waits),
      )

  work_offers : (waiting : OutstandingWork K D) (proposals : List (Proposal D)) → IsWorkIn works waiting
      → IsWorkIn (works ++ map work.Certify proposals) (with_offers waiting proposals)
  work_offers waiting proposals is =
      let more : List (Work S D K G C) = map work.Certify proposals in (
        λ view waits. any_left (is_verify_of view) works more (is.0 view waits),
        λ view waits. elim (offered_by S K G C view proposals waiting.offered waits) [
          | inl there ↦ any_left (is_certify_of view) works more (is.1 view there)
          | inr now ↦ any_right (is_certify_of view) works more now
        ],
      )

  work_less : (view : ℕ) (waiting : OutstandingWork K D) → IsWorkIn works waiting
      → IsWorkIn works (without_verification waiting view)
  work_less view waiting is = (λ other waits. is.0 other (among_others view other waiting.verifying waits).0, is.1)

  work_fewer : (view : ℕ) (waiting : OutstandingWork K D) → IsWorkIn works waiting
      → IsWorkIn works (without_offer waiting view)
  work_fewer view waiting is = (is.0, λ other waits. is.1 other (among_others view other waiting.offered waits).0)

  work_request : (waiting : OutstandingWork K D) (request : Option (ProposalRequest D K)) → IsWorkIn works waiting
      → IsWorkIn works (with_open_request waiting request)
  work_request waiting None is = is
  work_request waiting (Some request) is = is

  work_superseded : (is_replaced : Bool) (view : ℕ) (waiting : OutstandingWork K D) → IsWorkIn works waiting
      → IsWorkIn works (cond is_replaced (without_context waiting view) waiting)
  work_superseded true view waiting is = is
  work_superseded false view waiting is = is

  -- what a call opens that returns
  work_by_answer : (x : StateFacts K L D) (waiting : OutstandingWork K D) (asked : CallFacts D) → IsWorkIn works waiting
      → HasWorkOf (answer same elect x waiting asked) (outstanding_work_after same elect x waiting asked)
  work_by_answer x o call.TryVerify is = work_verify o (verify_answer same elect x) is
  work_by_answer x o call.CertifyCandidates is = work_offers o (candidates_answer same elect x).0 is
  work_by_answer x o (call.Verified v) is =
      work_anyway (answer same elect x o (call.Verified v)) (without_verification o v) (work_less v o is)
  work_by_answer x o (call.VerificationFailed v reason now) is =
      work_anyway (answer same elect x o (call.VerificationFailed v reason now)) (without_verification o v)
      (work_less v o is)
  work_by_answer x o (call.Certified v success now) is =
      work_anyway (answer same elect x o (call.Certified v success now)) (without_offer o v) (work_fewer v o is)
  work_by_answer x o call.TryPropose is =
      let request = propose_answer same elect x in
      work_anyway (call.Requested request) (with_open_request o request) (work_request o request is)
  work_by_answer x o (call.SupersedeProposalRequest v) is =
      let replaced = option_map_or (λ context. supersede_answer same elect x context) (context_at o v) false in
      work_anyway (answer same elect x o (call.SupersedeProposalRequest v)) (cond replaced (without_context o v) o)
      (work_superseded replaced v o is)
  work_by_answer x o (call.Proposed v payload now) is =
      work_anyway (answer same elect x o (call.Proposed v payload now)) o is
  work_by_answer x o (call.ReleaseProposalRequest v) is =
      work_anyway (answer same elect x o (call.ReleaseProposalRequest v)) o is
  work_by_answer x o (call.AddNotarization c) is = work_anyway (answer same elect x o (call.AddNotarization c)) o is
  work_by_answer x o (call.AddNullification c now) is =
      work_anyway (answer same elect x o (call.AddNullification c now)) o is
  work_by_answer x o (call.AddFinalization c now) is =
      work_anyway (answer same elect x o (call.AddFinalization c now)) o is
  work_by_answer x o (call.SetProposal v p) is = work_anyway (answer same elect x o (call.SetProposal v p)) o is
  work_by_answer x o (call.PendingHandoffAbandonment v) is =
      work_anyway (answer same elect x o (call.PendingHandoffAbandonment v)) o is
  work_by_answer x o (call.ConstructNotarize v) is = work_anyway (answer same elect x o (call.ConstructNotarize v)) o is
  work_by_answer x o (call.SetCertifyHandle v token) is =
      work_anyway (answer same elect x o (call.SetCertifyHandle v token)) o is
  work_by_answer x o (call.ConstructNullify v) is = work_anyway (answer same elect x o (call.ConstructNullify v)) o is
  work_by_answer x o (call.ConstructFinalize v) is = work_anyway (answer same elect x o (call.ConstructFinalize v)) o is
  work_by_answer x o (call.BroadcastNotarization v) is =
      work_anyway (answer same elect x o (call.BroadcastNotarization v)) o is
  work_by_answer x o (call.BroadcastNullification v) is =
      work_anyway (answer same elect x o (call.BroadcastNullification v)) o is
  work_by_answer x o (call.BroadcastFinalization v) is =
      work_anyway (answer same elect x o (call.BroadcastFinalization v)) o is
  work_by_answer x o call.GetBestCertificate is = work_anyway (answer same elect x o call.GetBestCertificate) o is
  work_by_answer x o (call.TriggerTimeout v reason now) is =
      work_anyway (answer same elect x o (call.TriggerTimeout v reason now)) o is
  work_by_answer x o (call.NextTimeout now) is = work_anyway (answer same elect x o (call.NextTimeout now)) o is
  work_by_answer x o call.Prune is = work_anyway (answer same elect x o call.Prune) o is

  -- a call of the member
  pub work_by_call : (m left : MemberFacts K L D) (asked : CallFacts D) (replied : ReplyFacts K D)
      → IsCall same elect m asked replied left → IsWorkIn works m.outstanding_work
      → HasWorkOf replied left.outstanding_work
  unfolding IsCall
  work_by_call m left asked replied is_call is = by_life m.life is_call
    where
      unchanged : left ≡ m → HasWorkOf replied left.outstanding_work
      unchanged leaves = work_anyway replied left.outstanding_work
          (subst (λ (n : MemberFacts K L D). IsWorkIn works n.outstanding_work) (sym leaves) is)

      by_test : (x : StateFacts K L D) (b : Bool) (due : Option Fault)
          → replied ≡ cond b (unless_refused due (answer same elect x m.outstanding_work asked)) call.NotAllowed
          → left ≡ cond b (unless_retained due m (with_call same elect x m asked)) m
          → HasWorkOf replied left.outstanding_work
      by_test x false due tells leaves = unchanged leaves
      by_test x true (Some due) tells leaves = unchanged leaves
      by_test x true None tells leaves =
          subst (λ t. HasWorkOf t left.outstanding_work) (sym tells)
          (subst (λ (n : MemberFacts K L D). HasWorkOf (answer same elect x m.outstanding_work asked)
          n.outstanding_work) (sym leaves) (work_by_answer x m.outstanding_work asked is))

      by_life : (life : Option (StateFacts K L D)) → AnswersAlive same elect life m asked replied left
          → HasWorkOf replied left.outstanding_work
      by_life None (tells, leaves) = unchanged leaves
      by_life (Some x) (inl (tells, leaves)) =
          by_test x (is_allowed x m.outstanding_work asked) (fault_of x asked) tells leaves
      by_life (Some x) (inr (_, tells, inl (_, leaves))) = unchanged leaves
      by_life (Some x) (inr (_, tells, inr (_, _, leaves))) =
          work_anyway replied left.outstanding_work
          (subst (λ (n : MemberFacts K L D). IsWorkIn works n.outstanding_work) (sym leaves)
          (λ view waits. cc, λ view waits. cc))

module _ {L D K : Type 0} (same : D → D → Bool) (elect : Elect L) where
  -- a call that opens nothing and closes nothing leaves what is open, or nothing once the member has failed
  pub waits_as_before : (m left : MemberFacts K L D) (asked : CallFacts D) (replied : ReplyFacts K D)
      → ((x : StateFacts K L D) (o : OutstandingWork K D) → outstanding_work_after same elect x o asked ≡ o)
      → IsCall same elect m asked replied left → (left.outstanding_work ≡ m.outstanding_work)
      ⊎ (left.outstanding_work ≡ no_outstanding_work)
  unfolding IsCall
  waits_as_before m left asked replied plain is_call = by_life m.life is_call
    where
      open_in : MemberFacts K L D → OutstandingWork K D
      open_in n = n.outstanding_work

      by_test : (x : StateFacts K L D) (b : Bool) (due : Option Fault)
          → left ≡ cond b (unless_retained due m (with_call same elect x m asked)) m
          → left.outstanding_work ≡ m.outstanding_work
      by_test x false due leaves = ap open_in leaves
      by_test x true (Some due) leaves = ap open_in leaves
      by_test x true None leaves = ap open_in leaves ∙ plain x m.outstanding_work

      by_life : (life : Option (StateFacts K L D)) → AnswersAlive same elect life m asked replied left
          → (left.outstanding_work ≡ m.outstanding_work) ⊎ (left.outstanding_work ≡ no_outstanding_work)
      by_life None (tells, leaves) = inl (ap open_in leaves)
      by_life (Some x) (inl (tells, leaves)) =
          inl (by_test x (is_allowed x m.outstanding_work asked) (fault_of x asked) leaves)
      by_life (Some x) (inr (_, tells, inl (_, leaves))) = inl (ap open_in leaves)
      by_life (Some x) (inr (_, tells, inr (_, _, leaves))) = inr (ap open_in leaves)

-- the blocks that are to be built, beside a member that is the same
pub ahead_still : {S L D K G C : Type 0} (a b : Engine S L D K G C) → b.core.member ≡ a.core.member
    → b.plan.builds.buildings.items ≡ a.plan.builds.buildings.items
    → BuildsAhead a.core a.plan → BuildsAhead b.core b.plan
ahead_still {D = D} {K = K} {G = G} a b member builds is =
    subst (λ (builds : List (PendingBuild D K)). IfSome b.core.member.facts.life
    (λ x. builds_from x.current builds ≡ true))
    (sym builds)
    (subst (λ (m : SignedMember K _ D G). IfSome m.facts.life
    (λ x. builds_from x.current a.plan.builds.buildings.items ≡ true)) (sym member) is)

-- the record, beside a member and options that are the same
pub short_still : {S L D K G C : Type 0} (a b : Engine S L D K G C) → b.plan.options ≡ a.plan.options
    → b.core.member ≡ a.core.member
    → IsShort a.plan.options.long_record a.core.member.facts → IsShort b.plan.options.long_record b.core.member.facts
short_still {D = D} {K = K} {G = G} a b options member is =
    subst (λ (o : Options). IsShort o.long_record b.core.member.facts) (sym options)
    (subst (λ (m : SignedMember K _ D G). IsShort a.plan.options.long_record m.facts) (sym member) is)
