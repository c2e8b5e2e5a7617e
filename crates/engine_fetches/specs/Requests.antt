-- The next asking, and the open fetches after it.
use Rattle.std.specs.Prelude.{◌≡◌, ℕ, Option, Some, None, MatchOption, slice_get, slice_set}
use Rattle.engine_fetches.specs.declared.fetches.Ask.{Ask}
use Rattle.engine_fetches.specs.declared.fetches.Fetch.{Fetch}
use Rattle.engine_fetches.specs.declared.fetches.Fetches.{Fetches}
use Rattle.engine_fetches.specs.Fetches.{asked_again, due_at, whose_turn}

-- a fetch, with the peer whose turn it is
abbrev pub ask_of : Fetches → Fetch → Ask
ask_of old fetch = record { kind = fetch.kind; view = fetch.view; of = whose_turn old.peers fetch.first fetch.count }

-- the first fetch that is due is asked for, and no other changes; if none is due, nothing changes
abbrev pub IsAsking : ℕ → Fetches → Option Ask → Fetches → Type 0
IsAsking now old ask new =
    MatchOption (due_at now old.wanted.items)
    ((ask ≡ None) × (new ≡ old))
    (λ place. (fetch : Fetch) × (slice_get old.wanted.items place ≡ Some fetch) × (ask ≡ Some (ask_of old fetch))
    × (new.wanted.items ≡ slice_set old.wanted.items place (asked_again now old.retry fetch)) × (new.peers ≡ old.peers)
    × (new.retry ≡ old.retry))
