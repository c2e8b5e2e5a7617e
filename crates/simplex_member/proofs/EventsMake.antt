-- A call of a member is one event or none.
use Rattle.std.proofs.Common.{◌≡◌, refl, sym, subst, List, [], ◌∷◌, Option, Some, None, Bool}
use Rattle.std.specs.Option.{option_map_or}
use Rattle.simplex_types.specs.declared.types.messages.Context.{Context}
use Rattle.simplex_voter.specs.Facts.{StateFacts, Elect}
use Rattle.simplex_record.specs.Events.{Event, Proposed, Supersede, after_event}
use Rattle.simplex_member.specs.Calls as calls
use Rattle.simplex_member.specs.Calls.{CallFacts}
use Rattle.simplex_member.specs.Events.{in_context, events_of}
use Rattle.simplex_member.specs.CallSemantics.{after_call}
use Rattle.simplex_member.specs.OutstandingWork.{OutstandingWork, context_at}

module _ {K L D : Type 0} (same : D → D → Bool) (elect : Elect L) (x : StateFacts K L D) where
  -- a call is at most one event
  abbrev pub after_one : List (Event K D) → StateFacts K L D
  after_one [] = x
  after_one (e ∷ _) = after_event same elect x e

  by_any : (P : StateFacts K L D → Type 0) → P x → ((e : Event K D) → P (after_event same elect x e))
      → (es : List (Event K D)) → P (after_one es)
  by_any P still each [] = still
  by_any P still each (e ∷ rest) = each e

  in_context_is : (f : Context D K → StateFacts K L D) (event : Context D K → Event K D)
      → ((c : Context D K) → f c ≡ after_event same elect x (event c)) → (context : Option (Context D K))
      → option_map_or f context x ≡ after_one (in_context event context)
  in_context_is f event is None = refl
  in_context_is f event is (Some c) = is c

  pub call_is : (o : OutstandingWork K D) (call : CallFacts D)
      → after_call same elect x o call ≡ after_one (events_of o call)
  call_is o (calls.Proposed v payload now) = in_context_is _ (λ c. Proposed c payload now) (λ c. refl) (context_at o v)
  call_is o (calls.SupersedeProposalRequest v) = in_context_is _ Supersede (λ c. refl) (context_at o v)
  call_is o _ = refl

  -- a claim that holds of each event in any case, for each call
  pub call_by_any : (o : OutstandingWork K D) (P : StateFacts K L D → Type 0) → P x
      → ((e : Event K D) → P (after_event same elect x e)) → (call : CallFacts D) → P (after_call same elect x o call)
  call_by_any o P still each call = subst P (sym (call_is o call)) (by_any P still each (events_of o call))
