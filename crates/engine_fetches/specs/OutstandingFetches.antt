-- What is asked of peers: how a resolver's effects change the open fetches, and that these are exactly of missing
-- certificates.
use Rattle.std.specs.Prelude.{◌≡◌, ℕ, ◌<◌, Bool, true, false, not, ◌&&◌, nat_lt, List, [], ◌∷◌, All, is_some}
use Rattle.simplex_resolver.specs.Repair.{has}
use Rattle.simplex_resolver.specs.declared.resolver.effect.Effect.{Effect}
use Rattle.simplex_resolver.specs.declared.resolver.effect.Effect.TheVariants as effect
use Rattle.simplex_voter.specs.declared.voter.candidates.CertificateFetch.{CertificateFetch}
use Rattle.simplex_voter.specs.Facts.{StateFacts}
use Rattle.simplex_voter.specs.StateAnswers.{notarization_of, nullification_of}
use Rattle.engine_fetches.specs.declared.fetches.Fetch.{Fetch}
use Rattle.engine_fetches.specs.declared.fetches.FetchKind.{FetchKind}
use Rattle.engine_fetches.specs.declared.fetches.FetchKind.TheVariants.{Notarization, Nullification, Decision}
use Rattle.engine_fetches.specs.Fetches.{fetch_kind, is_fetch_open, opened, passed, same_kind, settled}

-- the open fetches after an effect; a missing certificate is asked for from this moment on
abbrev pub after_effect : ℕ → Effect → List Fetch → List Fetch
after_effect moment (effect.Fetch view _ _) fetches = opened Nullification view 0 moment fetches
after_effect moment (effect.Settled kind start end) fetches = settled (fetch_kind kind) start end fetches
after_effect moment (effect.Finalized view) fetches = passed view fetches
after_effect moment (effect.Raised view) fetches = settled Nullification 0 view fetches

-- the open fetches after effects, in order
abbrev pub after_effects : ℕ → List Effect → List Fetch → List Fetch
after_effects moment [] fetches = fetches
after_effects moment (first ∷ rest) fetches = after_effects moment rest (after_effect moment first fetches)

-- notarizations that certifications wait for are due at once
abbrev pub fetching : ℕ → List CertificateFetch → List Fetch → List Fetch
fetching now [] fetches = fetches
fetching now (first ∷ rest) fetches = fetching now rest (opened Notarization first.view 0 now fetches)

-- nullifications of these views are due at once
abbrev pub wanting : List ℕ → List Fetch → List Fetch
wanting [] fetches = fetches
wanting (first ∷ rest) fetches = wanting rest (opened Nullification first 0 0 fetches)

-- the resolver wants the certificate: a nullification of a view that it has open
abbrev pub wants : List ℕ → FetchKind → ℕ → Bool
wants wanted kind view = same_kind kind Nullification && has wanted view

-- each open fetch that the resolver does not want was open and not wanted before
abbrev pub OpensNoOther : List ℕ → List Fetch → List ℕ → List Fetch → Type 0
OpensNoOther wanted_before before wanted now =
    (kind : FetchKind) (view : ℕ) → is_fetch_open kind view now ≡ true → wants wanted kind view ≡ false
    → (is_fetch_open kind view before ≡ true) × (wants wanted_before kind view ≡ false)

-- a nullification is asked for of each view above the last finalized one that the resolver has open
abbrev pub FetchesTheOutstanding : ℕ → List ℕ → List Fetch → Type 0
FetchesTheOutstanding finalized wanted fetches =
    (v : ℕ) → has wanted v ≡ true → finalized < v → is_fetch_open Nullification v fetches ≡ true

module _ {K L D : Type 0} where
  -- the state has the certificate; a nullification of a view that the resolver has open is missing all the same
  abbrev pub holds : List ℕ → StateFacts K L D → FetchKind → ℕ → Bool
  holds wanted x Notarization view = is_some (notarization_of x view)
  holds wanted x Nullification view = not (has wanted view) && is_some (nullification_of x view)
  holds wanted x Decision view = false

  -- the same for a fetch
  abbrev pub is_held : List ℕ → StateFacts K L D → Fetch → Bool
  is_held wanted x fetch = holds wanted x fetch.kind fetch.view

  -- a fetch is of a view above the last finalized one, and of a missing certificate
  abbrev pub is_missing : List ℕ → StateFacts K L D → Fetch → Bool
  is_missing wanted x fetch = nat_lt x.finalized fetch.view && not (is_held wanted x fetch)

  -- exactly the missing certificates are asked for: each fetch is of a view above the last finalized one, and of a
  -- certificate that the state does not have; and nothing that the resolver has open is left out
  pub record FetchesTheMissing (wanted : List ℕ) (x : StateFacts K L D) (fetches : List Fetch) : Type 0 where
    pub ahead : All (λ fetch. x.finalized < fetch.view) fetches
    pub lacking : All (λ fetch. is_held wanted x fetch ≡ false) fetches
    pub wanted_all : FetchesTheOutstanding x.finalized wanted fetches
