-- Each call of a member is one event or none, and an entry that is taken again one or two; so the invariants of each
-- event hold after each
-- call and in each new lifetime.
use Rattle.std.proofs.Common.{◌≡◌, refl, sym, subst, ℕ, Bool, true, false, if◌then◌else◌, nat_lt, List, [], ◌∷◌, Option, Some, None}
use Rattle.std.proofs.lemmas.Bool.{false≢true}
use Rattle.simplex_types.specs.Certificates.{Notarized, Nullified, Finalized, ArtifactFacts, NotarizeVote, NullifyVote, FinalizeVote, Verdict, Accepted}
use Rattle.simplex_types.specs.Config.{FloorFacts}
use Rattle.simplex_types.specs.declared.types.messages.Context.{Context}
use Rattle.simplex_voter.specs.Facts.{StateFacts, Elect}
use Rattle.simplex_voter.specs.Windows.{min_active}
use Rattle.simplex_voter.specs.Certification.{takes_certify_handle}
use Rattle.simplex_voter.specs.Acceptance.{after_set_floor}
use Rattle.simplex_voter.proofs.Gaps.{and_parts}
use Rattle.simplex_member.specs.Calls as calls
use Rattle.simplex_member.specs.CallConditions.{is_allowed}
use Rattle.simplex_member.specs.Calls.{CallFacts}
use Rattle.simplex_record.specs.Entries.{entry_view}
use Rattle.simplex_member.specs.CallSemantics.{after_call}
use Rattle.simplex_member.specs.OutstandingWork.{OutstandingWork, context_at, is_offered}
use Rattle.simplex_record.specs.Recovery.{after_replaying, after_entry, after_kept_entry, after_entries, recovered_state}
use Rattle.simplex_record.specs.Events.{Event, IsEvent, after_event, SetFloor, AddNotarization, AddNullification, AddFinalization, Certified, Proposed, Supersede, Replay}
use Rattle.simplex_member.specs.Events.{in_context, events_of}
use Rattle.simplex_record.proofs.Steps.{IsSilent}
use Rattle.simplex_member.proofs.EventsMake.{after_one, call_is}
use Rattle.laws_safety.proofs.frames.CallsOnWork.{is_work}

-- the first event of a lifetime
abbrev pub is_floor : {K D : Type 0} → Event K D → Bool
is_floor (SetFloor _ _) = true
is_floor _ = false

module _ {K L D : Type 0} (same : D → D → Bool) (elect : Elect L) (x : StateFacts K L D) where
  abbrev pub IsOneTaken : List (Event K D) → Type 0
  IsOneTaken [] = Unit {0}
  IsOneTaken (e ∷ rest) = IsEvent x e × (is_floor e ≡ false) × (rest ≡ [])

  by_one : (P : List (Event K D) → StateFacts K L D → Type 0) → P [] x
      → ((e : Event K D) → IsEvent x e → is_floor e ≡ false → P (e ∷ []) (after_event same elect x e))
      → (es : List (Event K D)) → IsOneTaken es → P es (after_one same elect x es)
  by_one P still each [] taken = still
  by_one P still each (e ∷ rest) taken = subst (λ es. P (e ∷ es) (after_event same elect x e)) (sym taken.2)
      (each e taken.0 taken.1)

  in_context_taken : (event : Context D K → Event K D)
      → ((c : Context D K) → IsEvent x (event c) × (is_floor (event c) ≡ false)) → (context : Option (Context D K))
      → IsOneTaken (in_context event context)
  in_context_taken event taken None = tt
  in_context_taken event taken (Some c) = ((taken c).0, (taken c).1, refl)

  call_taken : (o : OutstandingWork K D) (call : CallFacts D) → is_allowed x o call ≡ true
      → IsOneTaken (events_of o call)
  call_taken o (calls.AddNotarization c) is = (is, refl, refl)
  call_taken o (calls.AddNullification c now) is = (is, refl, refl)
  call_taken o (calls.AddFinalization c now) is = (is, refl, refl)
  call_taken o (calls.SetProposal v p) is = (is, refl, refl)
  call_taken o (calls.Proposed v payload now) is =
      in_context_taken (λ c. Proposed c payload now) (λ c. (tt, refl)) (context_at o v)
  call_taken o (calls.SupersedeProposalRequest v) is = in_context_taken Supersede (λ c. (tt, refl)) (context_at o v)
  call_taken o (calls.PendingHandoffAbandonment v) is = tt
  call_taken o (calls.SetCertifyHandle v token) is =
      ((and_parts (is_offered o v) (takes_certify_handle x v) is).1, refl, refl)
  call_taken o (calls.Certified v success now) is = (is, refl, refl)
  call_taken o calls.GetBestCertificate is = tt
  call_taken o _ is = (tt, refl, refl)

  -- a claim that holds of no change and of each accepted event holds of an allowed call
  pub call_by_event : (o : OutstandingWork K D) (P : List (Event K D) → StateFacts K L D → Type 0) → P [] x
      → ((e : Event K D) → IsEvent x e → is_floor e ≡ false → P (e ∷ []) (after_event same elect x e))
      → (call : CallFacts D) → is_allowed x o call ≡ true → P (events_of o call) (after_call same elect x o call)
  call_by_event o P still each call allowed =
      subst (P (events_of o call)) (sym (call_is same elect x o call))
      (by_one P still each (events_of o call) (call_taken o call allowed))

-- calls on the work of a view are silent

module _ {K D : Type 0} where
  abbrev pub AreSilent : List (Event K D) → Type 0
  AreSilent [] = Unit {0}
  AreSilent (e ∷ rest) = IsSilent e × AreSilent rest

  in_context_silent : (event : Context D K → Event K D) → ((c : Context D K) → IsSilent (event c))
      → (context : Option (Context D K)) → AreSilent (in_context event context)
  in_context_silent event silent None = tt
  in_context_silent event silent (Some c) = (silent c, tt)

  pub work_silent : (o : OutstandingWork K D) (call : CallFacts D) → is_work call ≡ true → AreSilent (events_of o call)
  work_silent o (calls.Proposed v payload now) work =
      in_context_silent (λ c. Proposed c payload now)
      (λ c. record {
        notarization = refl;
        nullification = refl;
        finalization = refl;
        verdict = refl;
        note = refl;
        nullify = refl;
        finalize = refl;
        final = refl;
        prune = refl;
      }) (context_at o v)
  work_silent o (calls.SupersedeProposalRequest v) work =
      in_context_silent Supersede (λ c. record {
        notarization = refl;
        nullification = refl;
        finalization = refl;
        verdict = refl;
        note = refl;
        nullify = refl;
        finalize = refl;
        final = refl;
        prune = refl;
      }) (context_at o v)
  work_silent o (calls.PendingHandoffAbandonment v) work = tt
  work_silent o (calls.AddNotarization c) work = absurd (false≢true work)
  work_silent o (calls.AddNullification c now) work = absurd (false≢true work)
  work_silent o (calls.AddFinalization c now) work = absurd (false≢true work)
  work_silent o (calls.Certified v success now) work = absurd (false≢true work)
  work_silent o (calls.ConstructNullify v) work = absurd (false≢true work)
  work_silent o (calls.ConstructFinalize v) work = absurd (false≢true work)
  work_silent o (calls.BroadcastNotarization v) work = absurd (false≢true work)
  work_silent o (calls.BroadcastNullification v) work = absurd (false≢true work)
  work_silent o (calls.BroadcastFinalization v) work = absurd (false≢true work)
  work_silent o calls.GetBestCertificate work = absurd (false≢true work)
  work_silent o calls.Prune work = absurd (false≢true work)
  work_silent o _ work = (
    record {
      notarization = refl;
      nullification = refl;
      finalization = refl;
      verdict = refl;
      note = refl;
      nullify = refl;
      finalize = refl;
      final = refl;
      prune = refl;
    },
    tt,
  )

-- an invariant of each event, accepted or not, holds of each new lifetime

module _ {K L D : Type 0} (same : D → D → Bool) (elect : Elect L) (P : StateFacts K L D → Type 0)
    (keeps : (x : StateFacts K L D) (e : Event K D) → P x → P (after_event same elect x e)) (now : ℕ) where
  pub retaken_keeps : (x : StateFacts K L D) (e : ArtifactFacts D) → P x → P (after_entry same elect x now e)
  retaken_keeps x (NotarizeVote p m) holds = keeps x (Replay (NotarizeVote p m)) holds
  retaken_keeps x (NullifyVote round m) holds = keeps x (Replay (NullifyVote round m)) holds
  retaken_keeps x (FinalizeVote p m) holds = keeps x (Replay (FinalizeVote p m)) holds
  retaken_keeps x (Verdict round success) holds =
      keeps (after_replaying same elect x (Verdict round success)) (Certified round.view success now)
      (keeps x (Replay (Verdict round success)) holds)
  retaken_keeps x (Accepted (Notarized c)) holds =
      keeps _ (Replay (Accepted (Notarized c))) (keeps x (AddNotarization c) holds)
  retaken_keeps x (Accepted (Nullified c)) holds =
      keeps _ (Replay (Accepted (Nullified c))) (keeps x (AddNullification c now) holds)
  retaken_keeps x (Accepted (Finalized c)) holds =
      keeps _ (Replay (Accepted (Finalized c))) (keeps x (AddFinalization c now) holds)

  pub all_keep : (x : StateFacts K L D) (entries : List (ArtifactFacts D)) → P x
      → P (after_entries same elect x now entries)
  unfolding after_kept_entry
  all_keep x [] holds = holds
  all_keep x (e ∷ rest) holds = all_keep (after_kept_entry same elect x now e) rest
      (elim (nat_lt (entry_view e) (min_active x)) as (λ b. P (if b then x else after_entry same elect x now e))
      [ true ↦ holds | false ↦ retaken_keeps x e holds ])

  pub floor_then_all_keep : (x : StateFacts K L D) (floor : FloorFacts D) (entries : List (ArtifactFacts D))
      → P (after_set_floor same elect x floor now) → P (recovered_state same elect x floor now entries)
  unfolding recovered_state
  floor_then_all_keep x floor entries holds = all_keep _ entries holds

  pub recovered_keeps : (x : StateFacts K L D) (floor : FloorFacts D) (entries : List (ArtifactFacts D)) → P x
      → P (recovered_state same elect x floor now entries)
  recovered_keeps x floor entries holds = floor_then_all_keep x floor entries (keeps x (SetFloor floor now) holds)
