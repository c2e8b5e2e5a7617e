-- A returned output comes after all that were returned before.
use Rattle.std.proofs.Common.{◌≡◌, ℕ, List, [], ◌∷◌, ◌++◌, None, false, inl, inr, sym, subst, ◌∙◌, Result, Err}
use Rattle.std.specs.Prelude.{option_to_list}
use Rattle.std.proofs.lemmas.Bool.{false≢true}
use Rattle.simplex_codec.specs.Digests.{bytes_in_digest}
use Rattle.ffi_scheme.specs.Host.{certificate_bytes, IsOrder}
use Rattle.engine_planner.specs.PlannedWork.{AreAmong}
use Rattle.engine_outbox.specs.Outputs.{work_in}
use Rattle.simplex_engine.specs.Provenance.{forgettable, held_by, IsCaused}
use Rattle.simplex_engine.specs.ApplicationWork.{work_ahead, HasReportedAll}
use Rattle.engine_outbox.specs.Finalizations.{ReportsNoMore}
use Rattle.engine_outbox.specs.Continuity.{EmitsOn, HasReturned, IsJournaled}
use Rattle.ffi_member.specs.MemberHandles.{host_leader, same_host_payload}
use Rattle.ffi_member.specs.declared.view_types.FlatStored.{FlatStored}
use Rattle.ffi_engine.specs.declared.held.HeldEngine.{HeldEngine}
use Rattle.ffi_engine.specs.declared.flat.FlatOutput.{FlatOutput}
use Rattle.ffi_engine.specs.EngineHandles.{IsAllReturned, IsReturned}
use Rattle.ffi_engine.specs.Outputs.{HostOutput}

-- an error that is returned is one
pub same_error : {X E : Type 0} {r : Result X E} {a b : E} → r ≡ Err a → r ≡ Err b → a ≡ b
same_error first second = cc

-- an output that was written, or else nothing more is said
pub all_given : (out : HostOutput) (before : FlatStored) (r : FlatOutput) (old new : HeldEngine) → old.is_lost ≡ false
    → HasReturned certificate_bytes (out ∷ []) old.engine.core new.engine.core → IsReturned out before r new
    → (given : List HostOutput) → IsAllReturned given old → IsAllReturned (given ++ option_to_list new.last) new
all_given out before r old new going gives (inl it) given all alive =
    subst (λ last. IsJournaled certificate_bytes (given ++ option_to_list last) new.engine.core) (sym it.0.last)
    (gives given (all going))
all_given out before r old new going gives (inr it) given all alive = absurd (false≢true (sym alive ∙ it.0))

-- no other proposal is queued to be reported as final
pub tells_no_more : (out : HostOutput) (before : FlatStored) (r : FlatOutput) (old new : HeldEngine)
    → ReportsNoMore (out ∷ []) old.engine.core.outbox new.engine.core.outbox
    → IsReturned out before r new → new.is_lost ≡ false
    → ReportsNoMore (option_to_list new.last) old.engine.core.outbox new.engine.core.outbox
tells_no_more out before r old new tells (inl it) alive =
    subst (λ last. ReportsNoMore (option_to_list last) old.engine.core.outbox new.engine.core.outbox) (sym it.0.last)
    tells
tells_no_more out before r old new tells (inr it) alive = absurd (false≢true (sym alive ∙ it.0))

-- what the member has done traces what is returned
pub traced_given : (out : HostOutput) (before : FlatStored) (r : FlatOutput) (old new : HeldEngine)
    → EmitsOn same_host_payload host_leader certificate_bytes (IsOrder bytes_in_digest) None (out ∷ []) old.engine.core
    new.engine.core → IsReturned out before r new
    → new.is_lost ≡ false → EmitsOn same_host_payload host_leader certificate_bytes (IsOrder bytes_in_digest) None
    (option_to_list new.last) old.engine.core new.engine.core
traced_given out before r old new traced (inl it) alive =
    subst (λ last. EmitsOn same_host_payload host_leader certificate_bytes (IsOrder bytes_in_digest) None
    (option_to_list last) old.engine.core new.engine.core) (sym it.0.last) traced
traced_given out before r old new traced (inr it) alive = absurd (false≢true (sym alive ∙ it.0))

-- what the member waits for is not lost
pub has_replied : (out : HostOutput) (before : FlatStored) (r : FlatOutput) (old new : HeldEngine)
    → ((given : List HostOutput) → HasReportedAll given old.engine → HasReportedAll (given ++ out ∷ []) new.engine)
    → IsReturned out before r new
    → new.is_lost ≡ false → (given : List HostOutput) → HasReportedAll given old.engine
    → HasReportedAll (given ++ option_to_list new.last) new.engine
has_replied out before r old new tells (inl it) alive given reported =
    subst (λ last. HasReportedAll (given ++ option_to_list last) new.engine) (sym it.0.last) (tells given reported)
has_replied out before r old new tells (inr it) alive given reported = absurd (false≢true (sym alive ∙ it.0))

-- and no work is lost
pub works_given : (out : HostOutput) (before : FlatStored) (r : FlatOutput) (old new : HeldEngine)
    → AreAmong (work_ahead old.engine) (work_in (out ∷ []) ++ work_ahead new.engine) → IsReturned out before r new
    → new.is_lost ≡ false → AreAmong (work_ahead old.engine)
    (work_in (option_to_list new.last) ++ work_ahead new.engine)
works_given out before r old new works (inl it) alive =
    subst (λ last. AreAmong (work_ahead old.engine) (work_in (option_to_list last) ++ work_ahead new.engine))
    (sym it.0.last) works
works_given out before r old new works (inr it) alive = absurd (false≢true (sym alive ∙ it.0))

-- and what was at hand causes everything
pub comes_given : (now : ℕ) (out : HostOutput) (before : FlatStored) (r : FlatOutput) (old new : HeldEngine)
    → IsCaused same_host_payload host_leader bytes_in_digest certificate_bytes now
    (forgettable new.engine.core.member.facts) (work_in (out ∷ [])) (held_by new.engine) old.engine new.engine
    → IsReturned out before r new → new.is_lost ≡ false
    → IsCaused same_host_payload host_leader bytes_in_digest certificate_bytes now
    (forgettable new.engine.core.member.facts) (work_in (option_to_list new.last)) (held_by new.engine) old.engine
    new.engine
comes_given now out before r old new provenance (inl it) alive =
    subst (λ last. IsCaused same_host_payload host_leader bytes_in_digest certificate_bytes now
    (forgettable new.engine.core.member.facts) (work_in (option_to_list last)) (held_by new.engine) old.engine
    new.engine) (sym it.0.last) provenance
comes_given now out before r old new provenance (inr it) alive = absurd (false≢true (sym alive ∙ it.0))
