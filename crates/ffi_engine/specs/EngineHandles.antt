-- The inputs and outputs of an engine behind a handle.
use Rattle.std.specs.Prelude.{◌≡◌, ◌⊎◌, ◌+◌, ◌-◌, ◌^◌, ◌++◌, min, ℕ, Bool, true, false, List, [], length, Option, Some, None, option_to_list, Result, Ok, Err, OnErr, OnOk, IfErr, IfOk, IsFalse, IsTrue, if◌then◌else◌}
use Rattle.simplex_types.specs.declared.types.fault.Fault.{Fault}
use Rattle.simplex_types.specs.declared.types.fault.Fault.TheVariants.{Failed}
use Rattle.simplex_types.specs.declared.types.messages.Subject.{Subject}
use Rattle.simplex_codec.specs.Digests.{bytes_in_digest}
use Rattle.simplex_codec.specs.declared.digest.BytesDigest.{BytesDigest}
use Rattle.ffi_scheme.specs.declared.scheme.HostCertificate.{HostCertificate}
use Rattle.ffi_scheme.specs.declared.scheme.HostScheme.{HostScheme}
use Rattle.ffi_scheme.specs.declared.scheme.Order.{Order}
use Rattle.ffi_scheme.specs.HostCertificates.{signed_bytes}
use Rattle.ffi_scheme.specs.Host.{certificate_bytes, host_keys, IsOrder}
use Rattle.simplex_engine.specs.InputEffects.{IsActedOn}
use Rattle.engine_outbox.specs.declared.output.Output.TheVariants as output
use Rattle.simplex_engine.specs.Admission.{IsTurnedAway, ignoring, is_input_admitted, one_more}
use Rattle.simplex_engine.specs.OwnSteps.{ForgetsNoOther}
use Rattle.simplex_engine.specs.CertificateVotes.{IsBackedInput, KeepsVotes, TakesNone, TakesVotes, votes_of_input}
use Rattle.simplex_engine.specs.Bounds.{HoldsAdmitted, HoldsNoneAhead, StaysBounded}
use Rattle.simplex_engine.specs.FetchHeights.{FetchesNoHigher}
use Rattle.simplex_engine.specs.Provenance.{input_causes, forgettable, held_by, IsCaused, IsCausedWith}
use Rattle.simplex_engine.specs.DroppedInputs.{IsDropped}
use Rattle.engine_outbox.specs.Outputs.{work_in}
use Rattle.simplex_engine.specs.ApplicationWork.{AllIsReturned, HasReportedAll, KeepsReports, work_ahead}
use Rattle.engine_outbox.specs.Finalizations.{ReportsNoMore}
use Rattle.engine_outbox.specs.Continuity.{ExtendsHistoryOn, EmitsOn, Continues, IsJournaled, IsWhole, has_failed}
use Rattle.simplex_engine.specs.Inputs.{subject_in}
use Rattle.engine_outbox.specs.Journals.{IsRecordOf, journal_of}
use Rattle.engine_outbox.specs.RecordReach.{IsShort}
use Rattle.engine_planner.specs.PlannedWork.{AreAmong, constants_of}
use Rattle.simplex_engine.specs.AtRest.{HasSettled, IsSettledAsStored, IsStillAtRest, IsUnsettled, ReturnsFirst, StaysAtRest, StaysSettled, unsettled}
use Rattle.simplex_engine.specs.BuildBounds.{BuildsNear}
use Rattle.simplex_engine.specs.MemberViews.{TracksViews, StaysStoredEarly}
use Rattle.simplex_engine.specs.Failures.{IsFailure}
use Rattle.ffi_member.specs.declared.journal.NotWritten.{NotWritten}
use Rattle.ffi_member.specs.declared.view_types.FlatStored.{FlatStored}
use Rattle.ffi_member.specs.Journals.{framed}
use Rattle.ffi_member.specs.Numbers.{fault_status, flag_number}
use Rattle.ffi_member.specs.Resumption.{IsFlatStored}
use Rattle.ffi_member.specs.MemberHandles.{host_leader, same_host_payload}
use Rattle.ffi_member.specs.Statuses.{not_written_number}
use Rattle.ffi_engine.specs.declared.held.HeldEngine.{HeldEngine}
use Rattle.ffi_engine.specs.declared.flat.FlatInput.{FlatInput}
use Rattle.ffi_engine.specs.declared.flat.FlatOutput.{FlatOutput}
use Rattle.ffi_engine.specs.declared.flat.FlatTaken.{FlatTaken}
use Rattle.ffi_engine.specs.declared.input_kind.InputKind.TheVariants as of
use Rattle.ffi_engine.specs.declared.output_kind.OutputKind.TheVariants as output_kind
use Rattle.ffi_engine.specs.Inputs.{PassesBytes, HasInputNumbers, HostInput, IsNoInput, IsPassedAs, input_number}
use Rattle.ffi_engine.specs.Outputs.{HasOutputOf, HostEngine, HostOutput, other_signature, output_number, first_bytes_in}

-- nothing was returned or loaded yet, and nothing is lost
pub record HasShownNothing (held : HeldEngine) : Type 0 where
  pub nothing : held.last ≡ None
  pub lost : held.is_lost ≡ false
  pub shown : held.shown.items ≡ []

-- whether it was ignored, or why the engine has failed
abbrev pub IsAnswer : Result Bool Fault → FlatTaken → Type 0
IsAnswer (Ok is_of_use) r = (r.status ≡ 0) × (r.is_of_use ≡ flag_number is_of_use)
IsAnswer (Err fault) r = r.status ≡ fault_status fault

-- a certificate of the host is the signatures that it is made of
abbrev pub AreTheSignatures : HostScheme → Subject (BytesDigest 32) → List (ℕ × Order) → HostCertificate → Type 0
AreTheSignatures _ _ signatures certificate = certificate_bytes certificate ≡ signed_bytes signatures

-- the engine takes an input at a moment, as its contract says, and nothing else changes
pub record IsTaken (now : ℕ) (input : HostInput) (old : HeldEngine) (r : FlatTaken) (new : HeldEngine) : Type 0 where
  pub going : old.is_lost ≡ false
  pub answer : Result Bool Fault
  pub tells : IsAnswer answer r
  -- after an error the engine has failed; one that had failed returns only that, and is unchanged; any other returns
  -- out of memory
  pub failed : OnErr answer (has_failed new.engine.core ≡ true)
  pub error : IfErr answer (IsFailure (has_failed old.engine.core))
  pub refused : has_failed old.engine.core ≡ true → (answer ≡ Err Failed) × (new.engine ≡ old.engine)
  -- an ignored input is dropped: the member has done nothing, and no vote is taken; an input that is not admitted is
  -- ignored
  pub dropped : IfOk answer (λ is_of_use. IsFalse is_of_use → IsDropped now input old.engine new.engine)
  pub unadmitted : IsFalse (is_input_admitted certificate_bytes old.engine.core.member.facts input)
      → IfOk answer (λ is_of_use. IsFalse is_of_use
      × IsTurnedAway input (unsettled (ignoring old.engine)) new.engine)
  -- the next poll looks for what is due, also at the moment of the last one
  pub to_settle : has_failed old.engine.core ≡ false → IsUnsettled new.engine
  -- an admitted input is acted on
  pub acted : IsTrue (is_input_admitted certificate_bytes old.engine.core.member.facts input) → IfOk answer
      (IsActedOn same_host_payload host_leader certificate_bytes AreTheSignatures host_keys now input old.engine
      new.engine.core.member.facts new.engine.batcher new.engine.plan.steps.items)
  pub continues : Continues same_host_payload host_leader certificate_bytes (IsOrder bytes_in_digest)
      (subject_in certificate_bytes input)
      old.engine.core new.engine.core
  pub votes : TakesVotes (votes_of_input input) old.engine.batcher new.engine.batcher
  -- except for a vote, the same votes are stored
  pub held : KeepsVotes input old.engine.batcher new.engine.batcher
  pub backed : IsBackedInput same_host_payload host_leader certificate_bytes (IsOrder bytes_in_digest)
      (length (host_keys old.engine.batcher.scheme))
      input old.engine.batcher old.engine.core new.engine.core
  pub bounded : StaysBounded host_keys old.engine.core old.engine.batcher new.engine.core new.engine.batcher
  -- no proposal and no block that the application must receive is lost
  pub due_work : OnOk answer (KeepsReports old.engine new.engine)
  -- the input and what was at hand cause each call of the member, and what is at hand then; what was asked of peers
  -- still is
  pub provenance : OnOk answer
      (IsCausedWith same_host_payload host_leader bytes_in_digest certificate_bytes now
      (input_causes certificate_bytes old.engine.batcher input)
      old.engine new.engine)
  -- no certificate of a view above those that the member has heard of becomes asked for
  pub fetch_heights : OnOk answer (FetchesNoHigher same_host_payload host_leader old.engine new.engine)
  -- ignored inputs are counted, and nothing else
  pub ignored : IfOk answer
      (λ is_of_use. new.engine.plan.ignored ≡
      (if is_of_use then old.engine.plan.ignored else one_more old.engine.plan.ignored))
  pub rest : new ≡ record old { engine = new.engine }

-- or an output was lost before, and it takes nothing
abbrev pub HasLost : HeldEngine → ℕ → HeldEngine → Type 0
HasLost old status new = (old.is_lost ≡ true) × (status ≡ 2) × (new ≡ old)

abbrev pub Takes : ℕ → HostInput → HeldEngine → FlatTaken → HeldEngine → Type 0
Takes now input old r new = HasLost old r.status new ⊎ IsTaken now input old r new

-- nothing was passed to the engine, and everything is unchanged: one of the numbers is not valid, a vote would make a
-- certificate from which leaders are drawn, or there was no memory for its bytes
abbrev pub IsInputNotPassed : HeldEngine → FlatInput → FlatTaken → HeldEngine → Type 0
IsInputNotPassed old f r new =
    (new ≡ old) × (((r.status ≡ 6) × (IsNoInput f ⊎ ((old.draws ≡ 1) × (f.kind ≡ input_number of.Vote))))
    ⊎ ((r.status ≡ 7) × PassesBytes f))

-- the input that the flat one represents was passed to the engine, at a moment
pub record IsInputPassed (now : ℕ) (old : HeldEngine) (f : FlatInput) (bytes : List ℕ) (r : FlatTaken)
    (new : HeldEngine) : Type 0 where
  pub input : HostInput
  pub numbers : HasInputNumbers f
  pub is_reported : IsPassedAs old.namespace f bytes input
  pub taken : Takes now input old r new

-- the input was passed to the engine, or nothing was
abbrev pub IsHandled : ℕ → HeldEngine → FlatInput → List ℕ → FlatTaken → HeldEngine → Type 0
IsHandled now old f bytes r new = IsInputNotPassed old f r new ⊎ IsInputPassed now old f bytes r new

-- the bytes of an output: its entries as these frames, the text to sign, a certificate, or the first signature of two
abbrev pub bytes_in : List ℕ → Option HostOutput → List ℕ
bytes_in frames (Some (output.Store _)) = frames
bytes_in frames (Some (output.Replace _ _)) = frames
bytes_in frames (Some out) = first_bytes_in out
bytes_in frames None = []

-- the same of the last output
abbrev pub first_bytes : HeldEngine → List ℕ
first_bytes held = bytes_in held.frames.items held.last

-- the second signature of two
abbrev pub second_bytes_in : Option HostOutput → List ℕ
second_bytes_in (Some out) = other_signature out
second_bytes_in None = []

abbrev pub second_bytes : HeldEngine → List ℕ
second_bytes held = second_bytes_in held.last

-- entries to store are written as frames, and what is stored beside them counts them
abbrev pub AreFramed : HostOutput → FlatStored → List ℕ → FlatStored → Type 0
AreFramed (output.Store entries) before frames after =
    (frames ≡ framed entries.items)
    × (after ≡ record before { entries = min (before.entries + length entries.items) (2 ^ 64 - 1) })
AreFramed (output.Replace entries beside) before frames after =
    (frames ≡ framed entries.items) × (after.entries ≡ length entries.items) × IsFlatStored after beside
AreFramed _ before frames after = after ≡ before

-- a flat output represents an output, whose bytes are read behind the handle
pub record IsReadAs (out : HostOutput) (r : FlatOutput) (new : HeldEngine) : Type 0 where
  pub status : r.status ≡ 0
  pub tells : HasOutputOf out r
  pub last : new.last ≡ Some out
  pub bytes : r.bytes ≡ length (first_bytes new)
  pub others : r.other_bytes ≡ length (second_bytes new)
  pub stored : r.stored ≡ new.stored

-- nothing is returned, for this status
pub record IsNothing (status : ℕ) (r : FlatOutput) (new : HeldEngine) : Type 0 where
  pub status_is : r.status ≡ status
  pub nothing : r.kind ≡ output_number output_kind.Nothing
  pub last : new.last ≡ None

-- an output is returned, its entries written; or they could not be, because memory ran out or no frame holds one, and
-- everything is lost
abbrev pub IsReturned : HostOutput → FlatStored → FlatOutput → HeldEngine → Type 0
IsReturned out before r new =
    (IsReadAs out r new × AreFramed out before new.frames.items new.stored × (new.is_lost ≡ false))
    ⊎ ((new.is_lost ≡ true) × ((error : NotWritten) × IsNothing (not_written_number error) r new))

-- all outputs since the lifetime began, until something is lost
abbrev pub IsAllReturned : List HostOutput → HeldEngine → Type 0
IsAllReturned given held = held.is_lost ≡ false → IsJournaled certificate_bytes given held.engine.core

-- if nothing is queued and all of the record was returned, a journal that carries out all returned outputs holds the
-- record
abbrev pub HoldsRecord : List HostOutput → HeldEngine → Type 0
HoldsRecord given held =
    held.engine.core.failed ≡ false → held.engine.core.outbox.queue.items ≡ []
    → IsWhole certificate_bytes held.engine.core
    → IsRecordOf certificate_bytes held.engine.core.member (journal_of given)

-- an engine is at rest at a moment, with a short record; if each proposal to verify or certify and each block to build
-- was returned, queued or planned, it was returned, or a lone member waits for the block's view; if no stored vote was
-- above those that are taken, each stored vote is a member's, and of a view whose votes are taken
pub record IsAtRest (now : ℕ) (old new : HostEngine) : Type 0 where
  pub rest : IsStillAtRest same_host_payload host_leader certificate_bytes now new
  pub short : (given : List HostOutput) → IsJournaled certificate_bytes given old.core
      → IsShort new.plan.options.long_record new.core.member.facts
  pub waiting : (given : List HostOutput) → HasReportedAll given old → AllIsReturned given new
  pub admitted : HoldsNoneAhead host_keys old.core old.batcher → HoldsAdmitted host_keys new.core new.batcher

-- the moment that an engine stores as that at which it settled is one, as it is from the start on
abbrev pub SettledAsStored : HostEngine → Type 0
SettledAsStored engine = IsSettledAsStored same_host_payload host_leader certificate_bytes engine

-- what a poll at a moment returns, by what the engine returned: an output; nothing, and the engine is at rest; or the
-- engine has failed
abbrev pub IsOutcome : ℕ → Result (Option HostOutput) Fault → HostEngine → FlatStored → FlatOutput → HeldEngine → Type 0
IsOutcome now (Ok (Some out)) engine stored r new = IsReturned out stored r new
IsOutcome now (Ok None) engine stored r new =
    IsNothing 0 r new × (SettledAsStored engine → IsAtRest now engine new.engine)
IsOutcome now (Err fault) engine stored r new =
    IsFailure (has_failed engine.core) fault × IsNothing (fault_status fault) r new
    × (has_failed new.engine.core ≡ true)

-- an engine that has lost nothing is polled at a moment
pub record IsAsked (now : ℕ) (old : HeldEngine) (r : FlatOutput) (new : HeldEngine) : Type 0 where
  -- what the engine returned: first what is queued, in order; then all that is due is done, once; then what that
  -- queued, and nothing more before the wake
  pub answer : Result (Option HostOutput) Fault
  pub outcome : IsOutcome now answer old.engine old.stored r new
  pub front : has_failed old.engine.core ≡ false
      → ReturnsFirst old.engine.core.outbox.queue.items answer old.engine new.engine
  pub settles : old.engine.core.outbox.queue.items ≡ []
      → OnOk answer (StaysSettled now old.engine ⊎ HasSettled now new.engine)
  pub stays : has_failed old.engine.core ≡ false → old.engine.core.outbox.queue.items ≡ []
      → StaysSettled now old.engine → StaysAtRest answer old.engine new.engine
  pub settled : (given : List HostOutput) → IsJournaled certificate_bytes given old.engine.core
      → SettledAsStored old.engine → OnOk answer (SettledAsStored new.engine)
  -- the output is appended to all that were returned
  pub given : (given : List HostOutput) → IsAllReturned given old → IsAllReturned (given ++ option_to_list new.last) new
  -- no other proposal is queued to be reported as final
  pub reported : new.is_lost ≡ false
      → ReportsNoMore (option_to_list new.last) old.engine.core.outbox new.engine.core.outbox
  -- what the member has done traces the output
  pub traced : new.is_lost ≡ false
      → EmitsOn same_host_payload host_leader certificate_bytes (IsOrder bytes_in_digest) None (option_to_list new.last)
      old.engine.core new.engine.core
  -- no certificate is accepted, and no vote is taken
  pub does : ExtendsHistoryOn same_host_payload host_leader None old.engine.core.member.facts
      new.engine.core.member.facts
  pub votes : TakesNone old.engine.batcher new.engine.batcher
  -- exactly those of views below the lowest retained one are forgotten, or none is
  pub held : ForgetsNoOther new.engine.core old.engine.batcher new.engine.batcher
  pub bounded : StaysBounded host_keys old.engine.core old.engine.batcher new.engine.core new.engine.batcher
  -- no proposal and no block that the application must receive is lost
  pub due_work : has_failed new.engine.core ≡ false → new.is_lost ≡ false → (given : List HostOutput)
      → HasReportedAll given old.engine
      → HasReportedAll (given ++ option_to_list new.last) new.engine
  -- no work is lost: what was queued or planned is returned, or still is queued or planned
  pub works : has_failed new.engine.core ≡ false → new.is_lost ≡ false
      → AreAmong (work_ahead old.engine) (work_in (option_to_list new.last) ++ work_ahead new.engine)
  -- what was at hand causes each call of the member, each output and what is at hand then, except that views may be
  -- forgotten below the lowest one that it retains; and what was asked of peers still is
  pub provenance : has_failed new.engine.core ≡ false → new.is_lost ≡ false
      → IsCaused same_host_payload host_leader bytes_in_digest certificate_bytes now
      (forgettable new.engine.core.member.facts)
      (work_in (option_to_list new.last)) (held_by new.engine) old.engine new.engine
  -- no certificate of a view above those that the member has heard of becomes asked for
  pub fetch_heights : has_failed new.engine.core ≡ false
      → FetchesNoHigher same_host_payload host_leader old.engine new.engine
  -- no block above the first view of the next term is added
  pub near : has_failed new.engine.core ≡ false → BuildsNear old.engine.core old.engine.plan
      → BuildsNear new.engine.core new.engine.plan
  -- the plan's views stay the member's
  pub seen : has_failed new.engine.core ≡ false → TracksViews old.engine.core.member.facts old.engine.plan
      → TracksViews new.engine.core.member.facts new.engine.plan
  -- no early proposal is lost until its view is entered
  pub early : has_failed new.engine.core ≡ false → TracksViews old.engine.core.member.facts old.engine.plan
      → StaysStoredEarly old.engine.plan new.engine.core.member.facts new.engine.plan
  -- no input is counted as ignored
  pub ignored : has_failed new.engine.core ≡ false → new.engine.plan.ignored ≡ old.engine.plan.ignored
  -- the options stay, and so does whether there are other members
  pub constants : has_failed new.engine.core ≡ false → constants_of new.engine.plan ≡ constants_of old.engine.plan
  -- an engine that had failed returns only that, and is unchanged
  pub refused : has_failed old.engine.core ≡ true → IsNothing 2 r new × (new.engine ≡ old.engine)

-- an engine is polled at a moment; one that has lost something has failed
abbrev pub IsPolled : ℕ → HeldEngine → FlatOutput → HeldEngine → Type 0
IsPolled now old r new =
    (((old.is_lost ≡ true) × IsNothing 2 r new × (new.engine ≡ old.engine))
    ⊎ ((old.is_lost ≡ false) × IsAsked now old r new))
    × (new.namespace ≡ old.namespace) × (new.draws ≡ old.draws) × (new.shown ≡ old.shown)
