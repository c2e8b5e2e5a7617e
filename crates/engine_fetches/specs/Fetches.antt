-- Open fetches, and the peers that are asked.
use Rattle.std.specs.Prelude.{◌≡◌, ℕ, ◌≤◌, ◌+◌, ◌-◌, ◌%◌, ◌^◌, Bool, true, false, ◌&&◌, ◌==◌, nat_le, nat_lt, min, List, [], ◌∷◌, ◌++◌, not, All, Any, Option, Some, None, MatchOption, if◌then◌else◌, position, filter}
use Rattle.std.specs.List.{list_any}
use Rattle.simplex_types.specs.declared.reasons.Kind.{Kind}
use Rattle.simplex_types.specs.declared.reasons.Kind.TheVariants as kind
use Rattle.engine_fetches.specs.declared.fetches.Fetch.{Fetch}
use Rattle.engine_fetches.specs.declared.fetches.FetchKind.{FetchKind}
use Rattle.engine_fetches.specs.declared.fetches.FetchKind.TheVariants.{Notarization, Nullification, Decision}
use Rattle.engine_fetches.specs.declared.fetches.Peers.{Peers}

-- the kind of certificate to ask for
abbrev pub fetch_kind : Kind → FetchKind
fetch_kind kind.Notarization = Notarization
fetch_kind kind.Nullification = Nullification

-- the same kind of certificate
abbrev pub same_kind : FetchKind → FetchKind → Bool
same_kind Notarization Notarization = true
same_kind Nullification Nullification = true
same_kind Decision Decision = true
same_kind _ _ = false

-- the fetch of this kind and view
abbrev pub is_of : FetchKind → ℕ → Fetch → Bool
is_of kind view fetch = same_kind fetch.kind kind && fetch.view == view

-- a fetch of this kind, of a view from one to another
abbrev pub is_within : FetchKind → ℕ → ℕ → Fetch → Bool
is_within kind first last fetch = same_kind fetch.kind kind && nat_le first fetch.view && nat_le fetch.view last

-- it is open
abbrev pub is_fetch_open : FetchKind → ℕ → List Fetch → Bool
is_fetch_open kind view fetches = list_any (is_of kind view) fetches

-- each is open once: none is of the kind and view of another
abbrev pub each_once : List Fetch → Bool
each_once [] = true
each_once (fetch ∷ rest) = not (is_fetch_open fetch.kind fetch.view rest) && each_once rest

-- a fetch that was never asked for, and is due at once
abbrev pub fresh : FetchKind → ℕ → ℕ → ℕ → Fetch
fresh kind view first now = record { kind = kind; view = view; first = first; count = 0; moment = now }

-- a fetch is opened, if it is not open
abbrev pub opened : FetchKind → ℕ → ℕ → ℕ → List Fetch → List Fetch
opened kind view first moment fetches =
    if is_fetch_open kind view fetches then fetches else fetches ++ fresh kind view first moment ∷ []

-- it is closed
abbrev pub closed : FetchKind → ℕ → List Fetch → List Fetch
closed kind view fetches = filter (λ fetch. not (is_of kind view fetch)) fetches

-- those of the views up to this one are
abbrev pub passed : ℕ → List Fetch → List Fetch
passed finalized fetches = filter (λ (fetch : Fetch). nat_lt finalized fetch.view) fetches

-- those of this kind are, of the views from one to another
abbrev pub settled : FetchKind → ℕ → ℕ → List Fetch → List Fetch
settled kind first last fetches = filter (λ fetch. not (is_within kind first last fetch)) fetches

-- a fetch that was asked for once more, and is due again after the retry interval; both numbers stop at 2^64 - 1
abbrev pub asked_again : ℕ → ℕ → Fetch → Fetch
asked_again now retry fetch =
    record fetch { count = min (fetch.count + 1) (2 ^ 64 - 1); moment = min (now + retry) (2 ^ 64 - 1) }

-- the place of the first one whose moment has come
abbrev pub due_at : ℕ → List Fetch → Option ℕ
due_at now fetches = position (λ fetch. nat_le fetch.moment now) fetches

-- all of this number of members but this one
abbrev pub peers_of : ℕ → Option ℕ → Peers
peers_of members None = record { others = members; me = members }
peers_of members (Some me) =
    if nat_lt me members then record { others = members - 1; me = me } else record { others = members; me = members }

-- the place of a member among the others; the first place, if none is named
abbrev pub place_of : Peers → Option ℕ → ℕ
place_of peers None = 0
place_of peers (Some member) = if nat_lt member peers.me then member else member - 1

-- the member at a place among the others
abbrev pub member_at : Peers → ℕ → ℕ
member_at peers place = if nat_lt place peers.me then place else place + 1

-- the peer to ask after this number of askings, if the first went to this place
abbrev pub whose_turn : Peers → ℕ → ℕ → Option ℕ
whose_turn peers first count =
    if peers.others == 0 then None else Some (member_at peers ((first + count % peers.others) % peers.others))

-- the earlier of two moments
abbrev pub first_of : Option ℕ → ℕ → ℕ
first_of None moment = moment
first_of (Some before) moment = min before moment

-- the moment of one of them, and of none before; none if there is none
abbrev pub IsEarliest : List Fetch → Option ℕ → Type 0
IsEarliest fetches earliest =
    MatchOption earliest (fetches ≡ [])
    (λ moment. Any (λ fetch. fetch.moment ≡ moment) fetches × All (λ fetch. moment ≤ fetch.moment) fetches)
