-- The certificates that a plan asks for, or is to ask for, and until when.
use Rattle.std.specs.Prelude.{◌≡◌, ℕ, nat_le, Bool, true, false, ◌&&◌, ◌||◌, ◌==◌, List, [], ◌∷◌, Some, if◌then◌else◌}
use Rattle.std.specs.List.{list_any}
use Rattle.simplex_resolver.specs.Facts.{ResolverFacts}
use Rattle.simplex_resolver.specs.Steps.{Call, after, effects, update, verdict}
use Rattle.simplex_resolver.specs.Steps as call
use Rattle.simplex_resolver.specs.CallHistory.{LawfulResolverFacts, IsMade}
use Rattle.simplex_resolver.specs.declared.resolver.effect.Effect.{Effect}
use Rattle.simplex_resolver.specs.declared.resolver.effect.Effect.TheVariants as effect
use Rattle.simplex_types.specs.Certificates.{Notarized, Nullified, Finalized, notarization_facts}
use Rattle.simplex_member.specs.Calls.{CallFacts, AddNotarization, AddNullification, AddFinalization}
use Rattle.simplex_member.specs.declared.member.calls.Reply.{Reply}
use Rattle.simplex_member.specs.declared.member.calls.Reply.TheVariants as reply
use Rattle.engine_fetches.specs.declared.fetches.Ask.{Ask}
use Rattle.engine_fetches.specs.declared.fetches.FetchKind.{FetchKind}
use Rattle.engine_fetches.specs.declared.fetches.FetchKind.TheVariants.{Notarization, Nullification}
use Rattle.engine_fetches.specs.Fetches.{fetch_kind, is_fetch_open, same_kind}
use Rattle.engine_planner.specs.declared.plan.Plan.{Plan}
use Rattle.engine_planner.specs.declared.plan.Step.{Step}
use Rattle.engine_planner.specs.declared.plan.Step.TheVariants.{Resolve}
use Rattle.engine_planner.specs.AskedFetches.{AsksNoPeer}
use Rattle.engine_planner.specs.Causes.{Cause, MissingCertificate, is_request}

-- an effect of a resolver ends the fetch of this kind and view
abbrev pub ends_fetch : FetchKind → ℕ → Effect → Bool
ends_fetch kind view (effect.Fetch _ _ _) = false
ends_fetch kind view (effect.Settled of start end) =
    same_kind (fetch_kind of) kind && nat_le start view && nat_le view end
ends_fetch kind view (effect.Finalized u) = nat_le view u
ends_fetch kind view (effect.Raised u) = same_kind Nullification kind && nat_le view u

-- a notarization of the view is passed in
abbrev pub is_notarized : FetchKind → ℕ → Call → Bool
is_notarized kind view (call.Notarization v) = same_kind Notarization kind && v == view
is_notarized kind view _ = false

-- one of these calls of a resolver ends the fetch of this kind and view
abbrev pub ended_by : ResolverFacts → List Call → FetchKind → ℕ → Bool
ended_by x [] kind view = false
ended_by x (it ∷ rest) kind view =
    is_notarized kind view it || list_any (ends_fetch kind view) (effects x it) || ended_by (after x it) rest kind view

-- a resolver receives these calls, one after the other
abbrev pub AreMade : LawfulResolverFacts → List Call → LawfulResolverFacts → Type 0
AreMade r [] left = left ≡ r
AreMade r (it ∷ rest) left =
    (next : LawfulResolverFacts) × IsMade it r (effects r.state it) next × AreMade next rest left

module _ {S D K G C : Type 0} where
  -- a step is to ask for the certificate, unless it arrives soon
  abbrev pub is_resolve : FetchKind → ℕ → Step S D K G C → Bool
  is_resolve kind view (Resolve k v _) = same_kind k kind && v == view
  is_resolve kind view _ = false

  -- it is asked for, or is to be
  abbrev pub asks : Plan S D K G C → FetchKind → ℕ → Bool
  asks plan kind view = is_fetch_open kind view plan.repair.fetches.wanted.items
      || list_any (is_resolve kind view) plan.steps.items

  -- it is named as missing
  abbrev pub is_missing_certificate : FetchKind → ℕ → Cause S D K G C → Bool
  is_missing_certificate kind view (MissingCertificate k v) = same_kind k kind && v == view
  is_missing_certificate kind view _ = false

  -- one of these causes names the certificate as missing, or it is asked for already
  abbrev pub with_missing_certificate : (FetchKind → ℕ → Bool) → List (Cause S D K G C) → FetchKind → ℕ → Bool
  with_missing_certificate asked given kind view = asked kind view || list_any (is_missing_certificate kind view) given

-- a reply to a passed certificate: it names none as missing, and is no verdict's
abbrev pub is_plain : {S D K G C : Type 0} → Reply S D K G C → Bool
is_plain (reply.Work _) = false
is_plain (reply.Request _) = false
is_plain (reply.Candidates _ _) = false
is_plain (reply.Certificate _) = false
is_plain (reply.Timeout _ _) = false
is_plain (reply.Certified _ _) = false
is_plain _ = true

-- nothing is over
abbrev pub never : FetchKind → ℕ → Bool
never kind view = false

-- what is asked for is so still, unless it is over
abbrev pub IsStill : (FetchKind → ℕ → Bool) → (FetchKind → ℕ → Bool) → (FetchKind → ℕ → Bool) → Type 0
IsStill asked over now =
    (kind : FetchKind) (view : ℕ) → asked kind view ≡ true → over kind view ≡ false → now kind view ≡ true

-- a resolver receives this, unless the view is genesis
abbrev pub above_genesis : ℕ → Call → List Call
above_genesis view it = if view == 0 then [] else it ∷ []

-- the resolver's calls for a new certificate
abbrev pub views_received : {D : Type 0} → (D → List ℕ) → CallFacts D → List Call
views_received bytes (AddNotarization c) = above_genesis c.proposal.round.view (update bytes (Notarized c))
views_received bytes (AddNullification c _) = above_genesis c.round.view (update bytes (Nullified c))
views_received bytes (AddFinalization c _) = above_genesis c.proposal.round.view (update bytes (Finalized c))
views_received bytes _ = []

-- the resolver's calls after the reply to a call: for a new certificate, or for a verdict on a notarization
abbrev pub received_by : {S D K G C : Type 0} → (D → List ℕ) → (C → List ℕ) → Reply S D K G C → CallFacts D → List Call
received_by bytes bytes_of (reply.Added is_new _) asked = if is_new then views_received bytes asked else []
received_by bytes bytes_of (reply.AddedNullification is_new) asked = if is_new then views_received bytes asked else []
received_by bytes bytes_of (reply.Certified is_success (Some n)) asked =
    above_genesis n.proposal.round.view (verdict bytes (notarization_facts bytes_of n) is_success)
received_by bytes bytes_of _ asked = []

-- why a peer is asked for a certificate
pub data IsSought {S D K G C : Type 0} (causes : List (Cause S D K G C)) (asks_now over : FetchKind → ℕ → Bool)
    (ask : Ask) : Type 0 where
  -- these ask for it
  WasAsked : list_any (is_request ask) causes ≡ true → IsSought causes asks_now over ask
  -- these name it as missing
  IsNamed : list_any (is_missing_certificate ask.kind ask.view) causes ≡ true → IsSought causes asks_now over ask
  -- it is a nullification, which is asked for now, unless that is over
  IsWanted : same_kind ask.kind Nullification ≡ true
      → (over ask.kind ask.view ≡ false → asks_now ask.kind ask.view ≡ true) → IsSought causes asks_now over ask

-- a plan still asks for what it asked for, and asks for what was named as missing, unless that is over; and its
-- resolver, which received exactly these calls, received none that ends it; no peer is asked
pub record KeepsFetching {S D K G C : Type 0} (given : List (Cause S D K G C)) (over : FetchKind → ℕ → Bool)
    (calls : List Call) (old new : Plan S D K G C)
    : Type 0 where
  pub received : AreMade old.repair.resolver calls new.repair.resolver
  pub still : IsStill (with_missing_certificate (asks old) given)
      (λ kind view. over kind view || ended_by old.repair.resolver.state calls kind view) (asks new)
  pub unasked : AsksNoPeer (λ kind view. over kind view || ended_by old.repair.resolver.state calls kind view)
      old.repair.fetches new.repair.fetches
