-- Which views a resolver receives by a reply, and which the reply names as missing.
use Rattle.std.proofs.Common.{◌≡◌, refl, ◌∙◌, ℕ, ◌≤◌, Bool, true, false, List, [], ◌∷◌, map, nat_le, nat_lt, Some, None, arith}
use Rattle.std.proofs.lemmas.Bool.Decides.{nat_tests}
use Rattle.std.proofs.lemmas.List.Folds.{list_any-append}
use Rattle.std.specs.List.{list_any, AllByRecursion}
use Rattle.std.specs.Prelude.{◌==◌, if◌then◌else◌}
use Rattle.simplex_types.specs.Certificates.{Notarized, Nullified, Finalized, notarization_facts}
use Rattle.simplex_voter.specs.declared.voter.candidates.CertificateFetch.{CertificateFetch}
use Rattle.simplex_voter.specs.declared.voter.verify.Verify.TheVariants as verify
use Rattle.simplex_resolver.specs.ReceivedFacts.{greatest, is_replayed}
use Rattle.simplex_resolver.specs.Steps.{Call, update, verdict}
use Rattle.simplex_member.specs.Calls.{CallFacts, AddNotarization, AddNullification, AddFinalization, ReplyFacts, Added, AddedNullification, Judged, Standing as RepliedStanding, Candidates, reply_facts}
use Rattle.simplex_member.specs.declared.member.calls.Reply.{Reply}
use Rattle.simplex_member.specs.declared.member.calls.Reply.TheVariants as reply
use Rattle.engine_fetches.specs.declared.fetches.FetchKind.TheVariants.{Notarization as FetchOfNotarization}
use Rattle.engine_outbox.specs.declared.output.Work.{Work}
use Rattle.engine_outbox.specs.declared.output.Work.TheVariants as work
use Rattle.engine_planner.specs.FetchRequests.{above_genesis, views_received, received_by}
use Rattle.engine_planner.specs.Causes.{WorkItem, MissingCertificate, reply_causes, shown_by, Expiry}
use Rattle.simplex_engine.proofs.fetch_heights.AtHand.{lacks_above}
use Rattle.simplex_engine.proofs.fetch_heights.Resolvers.{view_replied}

-- it receives no view above this one, and no replay ends
pub record IsLow (top : ℕ) (call : Call) : Type 0 where
  pub lives : is_replayed call ≡ false
  pub view : view_replied call ≤ top

-- the view of the certificate that a call passes
abbrev pub handed_view : {D : Type 0} → CallFacts D → ℕ
handed_view (AddNotarization c) = c.proposal.round.view
handed_view (AddNullification c _) = c.round.view
handed_view (AddFinalization c _) = c.proposal.round.view
handed_view _ = 0

-- the highest view that a reply passes to a resolver, or names as missing
abbrev pub highest_passed : {K D : Type 0} → ReplyFacts K D → CallFacts D → ℕ
highest_passed (Added is_new _) call = if is_new then handed_view call else 0
highest_passed (AddedNullification is_new) call = if is_new then handed_view call else 0
highest_passed (Judged _ (Some n)) call = n.proposal.round.view
highest_passed (RepliedStanding (verify.Resolve _ view _ _)) call = view
highest_passed (Candidates _ fetches) call = greatest (map (λ (it : CertificateFetch). it.view) fetches)
highest_passed _ call = 0

not_above : (top view : ℕ) → view ≤ top → nat_lt top view ≡ false
not_above top view low = grind (arith, nat_tests, low)

module _ (top : ℕ) where
  replied_of : (v : ℕ) (call : Call) → is_replayed call ≡ false → view_replied call ≡ v → v ≤ top
      → AllByRecursion (IsLow top) (above_genesis v call)
  replied_of v call lives is low = by_genesis (v == 0)
    where
      by_genesis : (b : Bool) → AllByRecursion (IsLow top) (if b then [] else call ∷ [])
      by_genesis true = tt
      by_genesis false = (record { lives = lives; view = omega (arith, is, low) }, tt)

  received_of_low : {D : Type 0} (bytes : D → List ℕ) (call : CallFacts D) → handed_view call ≤ top
      → AllByRecursion (IsLow top) (views_received bytes call)
  received_of_low bytes (AddNotarization c) low = replied_of c.proposal.round.view
      (update bytes (Notarized c)) refl refl low
  received_of_low bytes (AddNullification c now) low = replied_of c.round.view
      (update bytes (Nullified c)) refl refl low
  received_of_low bytes (AddFinalization c now) low =
      replied_of c.proposal.round.view (update bytes (Finalized c)) refl refl low
  received_of_low bytes _ low = tt

  received_where : {D : Type 0} (bytes : D → List ℕ) (call : CallFacts D) (is_new : Bool)
      → (if is_new then handed_view call else 0) ≤ top
      → AllByRecursion (IsLow top) (if is_new then views_received bytes call else [])
  received_where bytes call true low = received_of_low bytes call low
  received_where bytes call false low = tt

  -- by the reply
  pub received_low : {S D K G C : Type 0} (bytes : D → List ℕ) (bytes_of : C → List ℕ) (answer : Reply S D K G C)
      (call : CallFacts D)
      → highest_passed (reply_facts bytes_of answer) call ≤ top
      → AllByRecursion (IsLow top) (received_by bytes bytes_of answer call)
  received_low bytes bytes_of (reply.Added is_new equivocator) call low = received_where bytes call is_new low
  received_low bytes bytes_of (reply.AddedNullification is_new) call low = received_where bytes call is_new low
  received_low bytes bytes_of (reply.Certified success (Some n)) call low =
      replied_of n.proposal.round.view (verdict bytes (notarization_facts bytes_of n) success) refl refl low
  received_low bytes bytes_of (reply.Certified success None) call low = tt
  received_low bytes bytes_of _ call low = tt

  module _ (S D K G C : Type 0) where
    fetches_low : (fetches : List CertificateFetch) → greatest (map (λ (it : CertificateFetch). it.view) fetches) ≤ top
        → list_any (lacks_above {S = S} {D = D} {K = K} {G = G} {C = C} top)
        (map (λ (it : CertificateFetch). MissingCertificate FetchOfNotarization it.view) fetches) ≡ false
    fetches_low [] low = refl
    fetches_low (it ∷ rest) low = rw (not_above top it.view (omega (arith, low)))
        (fetches_low rest (omega (arith, low)))

    duties_low : {A : Type 0} (make : A → Work S D K G C) (items : List A)
        → list_any (lacks_above {S = S} {D = D} {K = K} {G = G} {C = C} top)
        (map (λ it. WorkItem (make it)) items) ≡ false
    duties_low make [] = refl
    duties_low make (it ∷ rest) = duties_low make rest

    shown_low : (call : CallFacts D) (leader : K)
        → list_any (lacks_above {S = S} {D = D} {K = K} {G = G} {C = C} top) (shown_by call leader) ≡ false
    shown_low (AddNotarization c) leader = refl
    shown_low (AddNullification c now) leader = refl
    shown_low (AddFinalization c now) leader = refl
    shown_low _ leader = refl

    expiry_low : (b : Bool) → list_any (lacks_above {S = S} {D = D} {K = K} {G = G} {C = C} top)
        (if b then Expiry ∷ [] else []) ≡ false
    expiry_low true = refl
    expiry_low false = refl

    pub given_low : (bytes_of : C → List ℕ) (now : ℕ) (answer : Reply S D K G C) (call : CallFacts D)
        → highest_passed (reply_facts bytes_of answer) call ≤ top
        → list_any (lacks_above top) (reply_causes now answer call) ≡ false
    given_low bytes_of now (reply.Work (verify.Ready context proposal)) call low = refl
    given_low bytes_of now (reply.Work (verify.Resolve proposal view kind leader)) call low =
        rw (not_above top view low) refl
    given_low bytes_of now (reply.Work verify.Wait) call low = refl
    given_low bytes_of now (reply.Request (Some request)) call low = refl
    given_low bytes_of now (reply.Request None) call low = refl
    given_low bytes_of now (reply.Candidates proposals wanted) call low =
        list_any-append (lacks_above {S = S} {D = D} {K = K} {G = G} {C = C} top)
        (map (λ proposal. WorkItem (work.Certify proposal)) proposals.items)
        (map (λ (it : CertificateFetch). MissingCertificate FetchOfNotarization it.view) wanted.items)
        ∙ rw (duties_low work.Certify proposals.items) (fetches_low wanted.items low)
    given_low bytes_of now (reply.Certificate (Some certificate)) call low = refl
    given_low bytes_of now (reply.Certificate None) call low = refl
    given_low bytes_of now (reply.Added is_new (Some leader)) call low = shown_low call leader
    given_low bytes_of now (reply.Added is_new None) call low = refl
    given_low bytes_of now (reply.Timeout moment reason) call low = expiry_low (nat_le moment now)
    given_low bytes_of now _ call low = refl
