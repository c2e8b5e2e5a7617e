-- Fetches that are asked of peers, each by an output.
use Rattle.std.specs.Prelude.{◌≡◌, ◌≤◌, ◌⊎◌, ℕ, Bool, true, false, ◌&&◌, ◌==◌, List, Option, Some, None, Contains}
use Rattle.std.specs.List.{list_any}
use Rattle.engine_fetches.specs.declared.fetches.Ask.{Ask}
use Rattle.engine_fetches.specs.declared.fetches.Fetch.{Fetch}
use Rattle.engine_fetches.specs.declared.fetches.FetchKind.{FetchKind}
use Rattle.engine_fetches.specs.declared.fetches.Fetches.{Fetches}
use Rattle.engine_fetches.specs.Fetches.{asked_again, is_fetch_open, same_kind}
use Rattle.engine_fetches.specs.Requests.{ask_of}
use Rattle.engine_outbox.specs.declared.output.Work.{Work}
use Rattle.engine_outbox.specs.declared.output.Work.TheVariants as work

-- the same member, or none
abbrev pub same_member : Option ℕ → Option ℕ → Bool
same_member None None = true
same_member (Some i) (Some j) = i == j
same_member _ _ = false

-- the same peer is asked for the same certificate
abbrev pub same_ask : Ask → Ask → Bool
same_ask a b = same_kind a.kind b.kind && a.view == b.view && same_member a.of b.of

module _ {S D K G C : Type 0} where
  -- the work asks this peer for this certificate
  abbrev pub is_ask : Ask → Work S D K G C → Bool
  is_ask ask (work.Fetch it) = same_ask it ask
  is_ask ask _ = false

-- the fetch was opened since: it was never asked for, and was not outstanding, unless that was over
abbrev pub IsOpened : (FetchKind → ℕ → Bool) → List Fetch → Fetch → Type 0
IsOpened over old fetch =
    (fetch.count ≡ 0) × (over fetch.kind fetch.view ≡ false → is_fetch_open fetch.kind fetch.view old ≡ false)

-- what is outstanding stays so, unless it is over
abbrev pub StayOpen : (FetchKind → ℕ → Bool) → List Fetch → List Fetch → Type 0
StayOpen over old new =
    (kind : FetchKind) (view : ℕ) → is_fetch_open kind view old ≡ true → over kind view ≡ false
    → is_fetch_open kind view new ≡ true

-- no fetch is asked for: each stays outstanding, unless it is over, and is unchanged or was opened since
pub record AreUnasked (over : FetchKind → ℕ → Bool) (old new : List Fetch) : Type 0 where
  pub stay : StayOpen over old new
  pub unasked : (fetch : Fetch) → Contains new fetch → Contains old fetch ⊎ IsOpened over old fetch

-- no peer is asked, and they and the interval are the same
pub record AsksNoPeer (over : FetchKind → ℕ → Bool) (old new : Fetches) : Type 0 where
  pub peers : new.peers ≡ old.peers
  pub retry : new.retry ≡ old.retry
  pub fetches : AreUnasked over old.wanted.items new.wanted.items

-- a fetch is unchanged; or it was opened since; or it was due at this moment, counts as asked once more, and some of
-- this work asks for it: of its kind and view, and of the peer whose turn it was
pub data IsAccountedFor {S D K G C : Type 0} (now : ℕ) (over : FetchKind → ℕ → Bool) (works : List (Work S D K G C))
    (old : Fetches) : Fetch → Type 0 where
  Unchanged : (fetch : Fetch) → Contains old.wanted.items fetch → IsAccountedFor now over works old fetch
  Opened : (fetch : Fetch) → IsOpened over old.wanted.items fetch → IsAccountedFor now over works old fetch
  Asked : (due : Fetch) → IsAccountedFor now over works old due → due.moment ≤ now
      → list_any (is_ask (ask_of old due)) works ≡ true
      → IsAccountedFor now over works old (asked_again now old.retry due)

-- each fetch stays outstanding, unless it is over, and each is accounted for; the peers and the interval are the same
pub record AsksWhoseTurn {S D K G C : Type 0} (now : ℕ) (over : FetchKind → ℕ → Bool) (works : List (Work S D K G C))
    (old new : Fetches) : Type 0 where
  pub peers : new.peers ≡ old.peers
  pub retry : new.retry ≡ old.retry
  pub stay : StayOpen over old.wanted.items new.wanted.items
  pub asked : (fetch : Fetch) → Contains new.wanted.items fetch → IsAccountedFor now over works old fetch
