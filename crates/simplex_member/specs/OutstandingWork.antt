-- The open requests of a member's state: they are stored beside the state, and each lifetime begins with none.
use Rattle.std.specs.Prelude.{ℕ, Bool, ◌==◌, not, List, [], map, filter, Option, Some, None}
use Rattle.std.specs.BTreeSet.{insert_key}
use Rattle.std.specs.FinMap.Entries.{find, put}
use Rattle.std.specs.List.{fold, list_any}
use Rattle.std.specs.Ordering.{nat_cmp}
use Rattle.simplex_types.specs.declared.types.messages.Context.{Context}
use Rattle.simplex_types.specs.declared.types.messages.Proposal.{Proposal}
use Rattle.simplex_voter.specs.declared.voter.propose.ProposalRequest.{ProposalRequest}
use Rattle.simplex_voter.specs.declared.voter.verify.Verify.{Verify}
use Rattle.simplex_voter.specs.declared.voter.verify.Verify.TheVariants.{Ready, Resolve, Wait}
use Rattle.simplex_voter.specs.ProposalRequests.{request_context}

-- what is open
pub record OutstandingWork (K D : Type 0) : Type 0 where
  -- by rising view, the context of the last request to build
  pub contexts : List (ℕ × Context D K)
  -- the views whose proposal is being verified, rising
  pub verifying : List ℕ
  -- the views whose proposal was offered for certification, and that have no verdict yet, rising
  pub offered : List ℕ

-- the views of these
abbrev pub views_of : {V : Type 0} → List (ℕ × V) → List ℕ
views_of entries = map (λ e. e.0) entries

-- the open requests, as a member stores them
pub record KeptWork (K D : Type 0) : Type 0 where
  pub open_now : OutstandingWork K D
  -- one more request and one more verification take no memory
  pub has_room : Bool

-- nothing is open
abbrev pub no_outstanding_work : {K D : Type 0} → OutstandingWork K D
no_outstanding_work = record { contexts = []; verifying = []; offered = [] }

-- the other views
abbrev pub all_but : ℕ → List ℕ → List ℕ
all_but v views = filter (λ u. not (u == v)) views

-- the view is one of these
abbrev pub is_among : ℕ → List ℕ → Bool
is_among v views = list_any (λ u. v == u) views

module _ {K D : Type 0} where
  -- contexts

  -- the context that is open for a view
  abbrev pub context_at : OutstandingWork K D → ℕ → Option (Context D K)
  context_at o v = find nat_cmp v o.contexts

  -- it is closed
  abbrev pub without_context : OutstandingWork K D → ℕ → OutstandingWork K D
  without_context o v = record o { contexts = filter (λ (e : ℕ × Context D K). not (e.0 == v)) o.contexts }

  -- a context is opened, in place of one of the same view
  abbrev pub with_context : OutstandingWork K D → Context D K → OutstandingWork K D
  with_context o context = record o { contexts = put nat_cmp context.round.view context o.contexts }

  -- a request opens its context
  abbrev pub with_open_request : OutstandingWork K D → Option (ProposalRequest D K) → OutstandingWork K D
  with_open_request o None = o
  with_open_request o (Some request) = with_context o (request_context request)

  -- proposals to verify

  -- the view's proposal is being verified
  abbrev pub is_verifying : OutstandingWork K D → ℕ → Bool
  is_verifying o v = is_among v o.verifying

  -- the verification is closed
  abbrev pub without_verification : OutstandingWork K D → ℕ → OutstandingWork K D
  without_verification o v = record o { verifying = all_but v o.verifying }

  -- a result of the scan opens its verification
  abbrev pub with_verification : OutstandingWork K D → Verify D K → OutstandingWork K D
  with_verification o (Ready context p) = record o { verifying = insert_key nat_cmp o.verifying p.round.view }
  with_verification o (Resolve proposal view kind target) = o
  with_verification o Wait = o

  -- offers

  -- the view's proposal was offered and has no verdict
  abbrev pub is_offered : OutstandingWork K D → ℕ → Bool
  is_offered o v = is_among v o.offered

  -- the offer is closed
  abbrev pub without_offer : OutstandingWork K D → ℕ → OutstandingWork K D
  without_offer o v = record o { offered = all_but v o.offered }

  -- offers are opened
  abbrev pub with_offers : OutstandingWork K D → List (Proposal D) → OutstandingWork K D
  with_offers o proposals =
      record o { offered = fold (λ views (p : Proposal D). insert_key nat_cmp views p.round.view) o.offered proposals }
