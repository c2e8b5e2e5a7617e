-- Cases of what an engine asks of peers: which output asks for what, when a fetch counts as asked, why a peer is asked.
-- Keys, payloads, signatures and certificates are numbers.
use Rattle.std.proofs.Common.{◌≡◌, ◌∙◌, refl, sym, subst, ℕ, ◌≤◌, ◌⊎◌, inl, inr, Bool, true, false, List, [], ◌∷◌, map, Option, Some, None, Contains}
use Rattle.std.specs.List.{list_any}
use Rattle.std.proofs.lemmas.Bool.{false≢true}
use Rattle.laws_safety.proofs.lists.Splits.{only_one}
use Rattle.engine_fetches.specs.declared.fetches.Ask.{Ask}
use Rattle.engine_fetches.specs.declared.fetches.Fetch.{Fetch}
use Rattle.engine_fetches.specs.declared.fetches.Fetches.{Fetches}
use Rattle.engine_fetches.specs.declared.fetches.FetchKind.{FetchKind}
use Rattle.engine_fetches.specs.declared.fetches.FetchKind.TheVariants.{Notarization, Nullification, Decision}
use Rattle.engine_fetches.specs.Fetches.{fresh, is_fetch_open, same_kind}
use Rattle.engine_fetches.specs.Requests.{ask_of}
use Rattle.engine_outbox.specs.declared.output.Work.{Work}
use Rattle.engine_outbox.specs.declared.output.Work.TheVariants.{Forget, StopBuilding, Fetch as AskPeer}
use Rattle.engine_planner.specs.AskedFetches.{is_ask, AreUnasked, IsAccountedFor, Unchanged, Opened, Asked}
use Rattle.engine_planner.specs.Causes.{Cause, MissingCertificate, Request, WorkItem, of_works, unrequested}
use Rattle.engine_planner.specs.FetchRequests.{never, IsNamed, IsSought, IsWanted, WasAsked}

abbrev Output : Type 0
Output = Work ℕ ℕ ℕ ℕ ℕ

abbrev AtHand : Type 0
AtHand = List (Cause ℕ ℕ ℕ ℕ ℕ)

abbrev request : FetchKind → ℕ → Option ℕ → Ask
request kind view of = record { kind = kind; view = view; of = of }

-- ---- outputs

abbrev asks : Ask → List Output → List Bool
asks ask outputs = map (is_ask ask) outputs

-- an output asks one member for one kind of certificate of one view
asked_of_one : asks (request Notarization 3 (Some 2))
    (AskPeer (request Notarization 3 (Some 2)) ∷ AskPeer (request Nullification 3 (Some 2))
    ∷ AskPeer (request Notarization 4 (Some 2)) ∷ AskPeer (request Notarization 3 (Some 0))
    ∷ AskPeer (request Notarization 3 None) ∷ []) ≡ true ∷ false ∷ false ∷ false ∷ false ∷ []
asked_of_one = refl

-- or nobody, if there are no others
asked_of_nobody : asks (request Decision 3 None)
    (AskPeer (request Decision 3 None) ∷ AskPeer (request Decision 3 (Some 0)) ∷ []) ≡ true ∷ false ∷ []
asked_of_nobody = refl

-- outputs of other kinds ask no one
other_outputs : asks (request Notarization 3 (Some 2)) (Forget 3 ∷ StopBuilding 3 ∷ []) ≡ false ∷ false ∷ []
other_outputs = refl

-- ---- a fetch that counts as asked

abbrev waiting : ℕ → Fetch
waiting moment = fresh Notarization 3 0 moment

-- a fetch that was outstanding is as it was, or was due and some output asks for it
was_due : (old : Fetches) (moment : ℕ) → old.wanted.items ≡ waiting moment ∷ [] → (works : List Output) (fetch : Fetch)
    → IsAccountedFor 10 never works old fetch → fetch.kind ≡ Notarization → fetch.view ≡ 3
    → (fetch ≡ waiting moment)
    ⊎ ((moment ≤ 10) × (list_any (is_ask (ask_of old (waiting moment))) works ≡ true))
was_due old moment is works _ (Unchanged fetch has) kind view =
    inl (sym (only_one (waiting moment) fetch (subst (λ xs. Contains xs fetch) is has)))
was_due old moment is works _ (Opened fetch since) kind view =
    absurd (false≢true (sym (since.1 refl) ∙ opened_before fetch.kind fetch.view kind view))
  where
    opened_before : (kind : FetchKind) (view : ℕ) → kind ≡ Notarization → view ≡ 3
        → is_fetch_open kind view old.wanted.items ≡ true
    opened_before kind view of_kind of_view =
        subst (λ xs. is_fetch_open kind view xs ≡ true) (sym is)
        (subst (λ v. is_fetch_open kind v (waiting moment ∷ []) ≡ true) (sym of_view)
        (subst (λ k. is_fetch_open k 3 (waiting moment ∷ []) ≡ true) (sym of_kind) refl))
was_due old moment is works _ (Asked due before at found) kind view =
    elim (was_due old moment is works due before kind view) [
      | inl same ↦ inr (
        subst (λ (f : Fetch). f.moment ≤ 10) same at,
        subst (λ (f : Fetch). list_any (is_ask (ask_of old f)) works ≡ true) same found,
      )
      | inr both ↦ inr both
    ]

-- what is outstanding, and not over, does not disappear
not_lost : AreUnasked never (waiting 10 ∷ []) [] → ⊥
not_lost is = false≢true (is.stay Notarization 3 refl refl)

-- ---- why a peer is asked

-- what is asked of peers is work with a reason of its own
causes_of_outputs : of_works {S = ℕ} {D = ℕ} {K = ℕ} {G = ℕ} {C = ℕ}
    (AskPeer (request Decision 3 None) ∷ Forget 3 ∷ []) ≡ Request (request Decision 3 None) ∷ WorkItem (Forget 3) ∷ []
causes_of_outputs = refl

other_causes : unrequested {S = ℕ} {D = ℕ} {K = ℕ} {G = ℕ} {C = ℕ}
    (Request (request Decision 3 None) ∷ WorkItem (Forget 3) ∷ MissingCertificate Decision 4 ∷ [])
    ≡ WorkItem (Forget 3) ∷ MissingCertificate Decision 4 ∷ []
other_causes = refl

-- with nothing at hand a peer is asked only for a nullification that is still asked for
sought_for_nothing : (asks_now : FetchKind → ℕ → Bool) (ask : Ask)
    → IsSought {S = ℕ} {D = ℕ} {K = ℕ} {G = ℕ} {C = ℕ} [] asks_now never ask
    → (same_kind ask.kind Nullification ≡ true) × (asks_now ask.kind ask.view ≡ true)
sought_for_nothing asks_now ask (WasAsked some) = absurd (false≢true some)
sought_for_nothing asks_now ask (IsNamed some) = absurd (false≢true some)
sought_for_nothing asks_now ask (IsWanted kind asks) = (kind, asks refl)
