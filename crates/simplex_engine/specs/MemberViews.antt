-- An engine knows its member's views, and stores the proposals that came before theirs.
use Rattle.std.specs.Prelude.{◌≡◌, IfSome, filter}
use Rattle.simplex_member.specs.MemberFacts.{MemberFacts}
use Rattle.engine_planner.specs.declared.plan.Plan.{Plan}
use Rattle.engine_planner.specs.PlannedWork.{AreAmong, is_early}

-- its plan has the member's current view and last finalized one: by these it stores early proposals, and drops past
-- ones
abbrev pub TracksViews : {S L D K G C : Type 0} → MemberFacts K L D → Plan S D K G C → Type 0
TracksViews member plan =
    IfSome member.life (λ x. (plan.views.current ≡ x.current) × (plan.views.last_finalized ≡ x.finalized))

-- each stored early proposal, of a view above the member's current one, stays stored
abbrev pub StaysStoredEarly : {S L D K G C : Type 0} → Plan S D K G C → MemberFacts K L D → Plan S D K G C → Type 0
StaysStoredEarly old member new =
    IfSome member.life (λ x. AreAmong (filter (is_early x.current) old.early.proposals.items) new.early.proposals.items)
