-- That a plan asks for each due fetch by an output, and for no other.
use Rattle.std.proofs.Common.{◌≡◌, ◌∙◌, refl, ap, sym, subst, ℕ, zero, suc, ◌≤◌, ◌⊎◌, inl, inr, Bool, true, false, not, ◌&&◌, ◌||◌, ◌==◌, cond, List, [], ◌∷◌, ◌++◌, filter, Contains, Option, Some, None, arith}
use Rattle.std.specs.Prelude.{nat_le, nat_lt, option_to_list, MatchOption, slice_get, slice_set}
use Rattle.std.specs.List.{list_any}
use Rattle.std.proofs.lemmas.Bool.{false≢true, and_from, eq-eqb, leb-true, or_left}
use Rattle.std.proofs.lemmas.List.Elements.{Contains-append_cases}
use Rattle.std.proofs.lemmas.List.Quantifiers.{position-Some}
use Rattle.std.proofs.lemmas.Option.{get_or_from_slice_get}
use Rattle.laws_safety.proofs.lists.Splits.{only_one, Contains-cases, Contains-cons_rest}
use Rattle.simplex_types.specs.declared.types.messages.Certificate.{Certificate}
use Rattle.simplex_types.specs.declared.types.messages.Certificate.TheVariants as certificate
use Rattle.simplex_resolver.specs.declared.resolver.effect.Effect.{Effect}
use Rattle.simplex_resolver.specs.declared.resolver.effect.Effect.TheVariants as effect
use Rattle.simplex_voter.specs.declared.voter.candidates.CertificateFetch.{CertificateFetch}
use Rattle.engine_fetches.specs.declared.fetches.Ask.{Ask}
use Rattle.engine_fetches.specs.declared.fetches.Fetch.{Fetch}
use Rattle.engine_fetches.specs.declared.fetches.Fetches.{Fetches}
use Rattle.engine_fetches.specs.declared.fetches.FetchKind.{FetchKind}
use Rattle.engine_fetches.specs.declared.fetches.FetchKind.TheVariants as fetch
use Rattle.engine_fetches.specs.declared.fetches.Peers.{Peers}
use Rattle.engine_fetches.specs.declared.repair.Repair.{Repair}
use Rattle.engine_fetches.specs.Fetches.{asked_again, due_at, fetch_kind, fresh, is_fetch_open, is_of, is_within, opened, same_kind, whose_turn}
use Rattle.engine_fetches.specs.OutstandingFetches.{after_effect, after_effects, fetching}
use Rattle.engine_fetches.specs.Repairs.{HasPassed}
use Rattle.engine_fetches.specs.Requests.{ask_of, IsAsking}
use Rattle.engine_outbox.specs.declared.output.Work.{Work}
use Rattle.engine_planner.specs.declared.plan.Plan.{Plan}
use Rattle.engine_planner.specs.declared.plan.Step.{Step}
use Rattle.engine_planner.specs.AskedFetches.{is_ask, same_member, AreUnasked, AsksNoPeer, AsksWhoseTurn, IsAccountedFor, IsOpened, Unchanged, Opened, Asked}
use Rattle.engine_planner.specs.Consequences.{without}
use Rattle.engine_planner.specs.PlanStates.{HasPlanned}
use Rattle.engine_planner.specs.PlannedWork.{AreAmong, work_planned}
use Rattle.engine_planner.specs.StepSelection.{fetching_one, watching_where, AreWatched, HasTaken, IsFetchAsked, IsPruneAsked, IsReady, IsTimeoutAsked}
use Rattle.engine_fetches.proofs.OpenedFetches.{open_asked}
use Rattle.engine_planner.specs.FetchRequests.{ends_fetch, never}
use Rattle.engine_planner.proofs.Causes.{among_last}
use Rattle.engine_planner.proofs.FetchRequests.{open_further, open_kept, open_past}
use Rattle.engine_planner.proofs.PlannedWork.{among_all, among_further, planned-append}
use Rattle.engine_planner.proofs.StepSelection.{taken_none}

-- ---- lists of fetches

in_front : (first : Fetch) (rest : List Fetch) (it : Fetch) → first ≡ it → Contains (first ∷ rest) it
in_front first rest it same = (zero, omega arith, same)

-- a fetch that is retained was there
kept_in : (keep : Fetch → Bool) (xs : List Fetch) (it : Fetch) → Contains (filter keep xs) it → Contains xs it
kept_in keep [] it has = has
kept_in keep (x ∷ xs) it has = by_test (kept_in keep xs it) (keep x) has
  where
    by_test : (Contains (filter keep xs) it → Contains xs it) → (b : Bool)
        → Contains (cond b (x ∷ filter keep xs) (filter keep xs)) it → Contains (x ∷ xs) it
    by_test rest true has = elim (Contains-cases x (filter keep xs) it has) [
      | inl this ↦ in_front x xs it this
      | inr later ↦ Contains-cons_rest x xs it (rest later)
    ]
    by_test rest false has = Contains-cons_rest x xs it (rest has)

-- the fetch that is opened, if there is none of its kind and view
opened_in : (over : FetchKind → ℕ → Bool) (kind : FetchKind) (view first moment : ℕ) (xs : List Fetch) (it : Fetch)
    → Contains (opened kind view first moment xs) it → Contains xs it ⊎ IsOpened over xs it
opened_in over kind view first moment xs it has = by_test (is_fetch_open kind view xs) refl has
  where
    one : Fetch
    one = fresh kind view first moment

    by_test : (b : Bool) → is_fetch_open kind view xs ≡ b → Contains (cond b xs (xs ++ one ∷ [])) it
        → Contains xs it ⊎ IsOpened over xs it
    by_test true is has = inl has
    by_test false is has = elim (Contains-append_cases xs (one ∷ []) it has) [
      | inl before ↦ inl before
      | inr this ↦ inr (
        ap (λ (f : Fetch). f.count) (sym (only_one one it this)),
        λ un. subst (λ (f : Fetch). is_fetch_open f.kind f.view xs ≡ false) (only_one one it this) is,
      )
    ]

-- where b follows of a, and is false, a is
not_before : (a b : Bool) → (a ≡ true → b ≡ true) → b ≡ false → a ≡ false
not_before true b up none = absurd (false≢true (sym none ∙ up refl))
not_before false b up none = refl

module _ {over : FetchKind → ℕ → Bool} where
  pub unasked_still : (xs : List Fetch) → AreUnasked over xs xs
  unasked_still xs = record { stay = λ kind view is un. is; unasked = λ it has. inl has }

  pub unasked_on : {xs ys zs : List Fetch} → AreUnasked over xs ys → AreUnasked over ys zs → AreUnasked over xs zs
  unasked_on {xs = xs} {ys = ys} first second = record {
    stay = λ kind view is un. second.stay kind view (first.stay kind view is un) un;
    unasked = λ it has. elim (second.unasked it has) [
      | inl between ↦ first.unasked it between
      | inr since ↦ inr (
        since.0,
        λ un. not_before (is_fetch_open it.kind it.view xs) (is_fetch_open it.kind it.view ys)
            (λ is. first.stay it.kind it.view is un) (since.1 un),
      )
    ];
  }

  -- more is over
  pub unasked_wider : {wider : FetchKind → ℕ → Bool} {xs ys : List Fetch}
      → ((kind : FetchKind) (view : ℕ) → wider kind view ≡ false → over kind view ≡ false)
      → AreUnasked over xs ys → AreUnasked wider xs ys
  unasked_wider {wider = wider} {xs = xs} within is = record {
    stay = λ kind view before un. is.stay kind view before (within kind view un);
    unasked = λ it has. elim (is.unasked it has) [
      | inl before ↦ inl before
      | inr since ↦ inr (since.0, λ un. since.1 (within it.kind it.view un))
    ];
  }

  pub unasked_kept : (keep : Fetch → Bool) (xs : List Fetch)
      → ((kind : FetchKind) (view : ℕ) → over kind view ≡ false → (f : Fetch) → is_of kind view f ≡ true
      → keep f ≡ true)
      → AreUnasked over xs (filter keep xs)
  unasked_kept keep xs kept = record {
    stay = λ kind view is un. open_kept kind view keep (kept kind view un) xs is;
    unasked = λ it has. inl (kept_in keep xs it has);
  }

  pub unasked_opened : (kind : FetchKind) (view first moment : ℕ) (xs : List Fetch)
      → AreUnasked over xs (opened kind view first moment xs)
  unasked_opened kind view first moment xs = record {
    stay = λ k v is un. open_further k v kind view first moment xs is;
    unasked = opened_in over kind view first moment xs;
  }

  pub unasked_fetching : (now : ℕ) (wanted : List CertificateFetch) (xs : List Fetch)
      → AreUnasked over xs (fetching now wanted xs)
  unasked_fetching now [] xs = unasked_still xs
  unasked_fetching now (it ∷ wanted) xs =
      unasked_on (unasked_opened fetch.Notarization it.view 0 now xs)
      (unasked_fetching now wanted (opened fetch.Notarization it.view 0 now xs))

unasked_effect : (moment : ℕ) (e : Effect) (xs : List Fetch)
    → AreUnasked (λ kind view. ends_fetch kind view e) xs (after_effect moment e xs)
unasked_effect moment e xs = record {
  stay = λ kind view is un. open_past kind view moment e xs is un;
  unasked = since e;
}
  where
    since : (e : Effect) (it : Fetch) → Contains (after_effect moment e xs) it
        → Contains xs it ⊎ IsOpened (λ kind view. ends_fetch kind view e) xs it
    since (effect.Fetch view cause reason) it has =
        opened_in (λ k v. ends_fetch k v (effect.Fetch view cause reason)) fetch.Nullification view 0 moment xs it has
    since (effect.Settled kind start end) it has =
        inl (kept_in (λ f. not (is_within (fetch_kind kind) start end f)) xs it has)
    since (effect.Finalized view) it has = inl (kept_in (λ (f : Fetch). nat_lt view f.view) xs it has)
    since (effect.Raised view) it has =
        inl (kept_in (λ f. not (is_within fetch.Nullification 0 view f)) xs it has)

pub unasked_effects : (moment : ℕ) (es : List Effect) (xs : List Fetch)
    → AreUnasked (λ kind view. list_any (ends_fetch kind view) es) xs (after_effects moment es xs)
unasked_effects moment [] xs = unasked_still xs
unasked_effects moment (e ∷ es) xs =
    unasked_on (unasked_wider (λ kind view un. (not_or (ends_fetch kind view e) _ un).0) (unasked_effect moment e xs))
    (unasked_wider (λ kind view un. (not_or (ends_fetch kind view e) _ un).1)
    (unasked_effects moment es (after_effect moment e xs)))
  where
    not_or : (a b : Bool) → (a || b) ≡ false → (a ≡ false) × (b ≡ false)
    not_or true b is = absurd (false≢true (sym is))
    not_or false b is = (refl, is)

-- a notarization is no longer asked for
pub without_in : {S D K G C : Type 0} (replied : Certificate S D K G C) (xs : List Fetch) (it : Fetch)
    → Contains (without replied xs) it → Contains xs it
without_in (certificate.Nullification n) xs it has = has
without_in (certificate.Finalization f) xs it has = has
without_in (certificate.Notarization n) xs it has =
    kept_in (λ f. not (is_of fetch.Notarization n.proposal.round.view f)) xs it has

-- ---- no peer is asked

module _ {over : FetchKind → ℕ → Bool} where
  pub asks_none_as : {old new : Fetches} {xs : List Fetch} → new.peers ≡ old.peers → new.retry ≡ old.retry
      → new.wanted.items ≡ xs → AreUnasked over old.wanted.items xs → AsksNoPeer over old new
  asks_none_as {old = old} peers retry are un = record {
    peers = peers;
    retry = retry;
    fetches = subst (λ ys. AreUnasked over old.wanted.items ys) (sym are) un;
  }

  pub asks_none_in : {view : ℕ} {xs : List Fetch} {old new : Repair} → HasPassed view xs old new
      → AreUnasked over old.fetches.wanted.items xs → AsksNoPeer over old.fetches new.fetches
  asks_none_in passes un = asks_none_as passes.peers passes.retry passes.fetches_now un

  pub asks_none_still : {old new : Fetches} → new ≡ old → AsksNoPeer over old new
  asks_none_still {old = old} is =
      asks_none_as (ap (λ (f : Fetches). f.peers) is) (ap (λ (f : Fetches). f.retry) is)
      (ap (λ (f : Fetches). f.wanted.items) is) (unasked_still old.wanted.items)

  -- more is over
  pub asks_none_wider : {wider : FetchKind → ℕ → Bool} {old new : Fetches}
      → ((kind : FetchKind) (view : ℕ) → wider kind view ≡ false → over kind view ≡ false)
      → AsksNoPeer over old new → AsksNoPeer wider old new
  asks_none_wider within is =
      record { peers = is.peers; retry = is.retry; fetches = unasked_wider within is.fetches }

  pub asks_none_on : {a b c : Fetches} → AsksNoPeer over a b → AsksNoPeer over b c → AsksNoPeer over a c
  asks_none_on first second = record {
    peers = second.peers ∙ first.peers;
    retry = second.retry ∙ first.retry;
    fetches = unasked_on first.fetches second.fetches;
  }

-- ---- each is asked by an output

kinds_alike : (kind : FetchKind) → same_kind kind kind ≡ true
kinds_alike fetch.Notarization = refl
kinds_alike fetch.Nullification = refl
kinds_alike fetch.Decision = refl

members_alike : (of : Option ℕ) → same_member of of ≡ true
members_alike None = refl
members_alike (Some i) = eq-eqb i i refl

-- what is asked is asked by itself
self_ask : (ask : Ask)
    → (same_kind ask.kind ask.kind && ask.view == ask.view && same_member ask.of ask.of) ≡ true
self_ask ask =
    and_from (same_kind ask.kind ask.kind && ask.view == ask.view) (same_member ask.of ask.of)
    (and_from (same_kind ask.kind ask.kind) (ask.view == ask.view) (kinds_alike ask.kind)
    (eq-eqb ask.view ask.view refl)) (members_alike ask.of)

-- what is in a place
has_at : (xs : List Fetch) (place : ℕ) (it : Fetch) → slice_get xs place ≡ Some it → Contains xs it
has_at [] place it at = absurd (cc)
has_at (x ∷ xs) zero it at = in_front x xs it (cc)
has_at (x ∷ xs) (suc place) it at = Contains-cons_rest x xs it (has_at xs place it at)

-- one is in place of another
set_in : (xs : List Fetch) (place : ℕ) (y it : Fetch) → Contains (slice_set xs place y) it
    → Contains xs it ⊎ (y ≡ it)
set_in [] place y it has = inl has
set_in (x ∷ xs) zero y it has = elim (Contains-cases y xs it has) [
  | inl this ↦ inr this
  | inr later ↦ inl (Contains-cons_rest x xs it later)
]
set_in (x ∷ xs) (suc place) y it has = elim (Contains-cases x (slice_set xs place y) it has) [
  | inl this ↦ inl (in_front x xs it this)
  | inr later ↦ (elim (set_in xs place y it later) [
    | inl before ↦ inl (Contains-cons_rest x xs it before)
    | inr now ↦ inr now
  ])
]

module _ {S D K G C : Type 0} {now : ℕ} where
  pub asked_none : {works : List (Work S D K G C)} {over wider : FetchKind → ℕ → Bool} {old new : Fetches}
      → ((kind : FetchKind) (view : ℕ) → wider kind view ≡ false → over kind view ≡ false)
      → AsksNoPeer over old new → AsksWhoseTurn now wider works old new
  asked_none within is = record {
    peers = is.peers;
    retry = is.retry;
    stay = λ kind view before un. is.fetches.stay kind view before (within kind view un);
    asked = λ it has. elim (is.fetches.unasked it has) [
      | inl before ↦ Unchanged it before
      | inr since ↦ Opened it (since.0, λ un. since.1 (within it.kind it.view un))
    ];
  }

  -- among more work, where more is over
  accounted_more : {these those : List (Work S D K G C)} {over wider : FetchKind → ℕ → Bool} {old : Fetches}
      → ((kind : FetchKind) (view : ℕ) → wider kind view ≡ false → over kind view ≡ false) → AreAmong these those
      → (it : Fetch) → IsAccountedFor now over these old it → IsAccountedFor now wider those old it
  accounted_more within among _ (Unchanged it before) = Unchanged it before
  accounted_more within among _ (Opened it since) = Opened it (since.0, λ un. since.1 (within it.kind it.view un))
  accounted_more {old = old} within among _ (Asked due is at found) =
      Asked due (accounted_more within among due is) at (among.found (is_ask (ask_of old due)) found)

  pub asked_among : {these those : List (Work S D K G C)} {over : FetchKind → ℕ → Bool} {old new : Fetches}
      → AreAmong these those → AsksWhoseTurn now over these old new → AsksWhoseTurn now over those old new
  asked_among among is = record {
    peers = is.peers;
    retry = is.retry;
    stay = is.stay;
    asked = λ it has. accounted_more (λ kind view un. un) among it (is.asked it has);
  }

  -- work after other work
  pub asked_on : {works more : List (Work S D K G C)} {over later wider : FetchKind → ℕ → Bool} {a b c : Fetches}
      → ((kind : FetchKind) (view : ℕ) → wider kind view ≡ false → over kind view ≡ false)
      → ((kind : FetchKind) (view : ℕ) → wider kind view ≡ false → later kind view ≡ false)
      → AreAmong works more → AsksWhoseTurn now over works a b → AsksWhoseTurn now later more b c
      → AsksWhoseTurn now wider more a c
  asked_on {more = more} {later = later} {wider = wider} {a = a} {b = b} within after among first second = record {
    peers = second.peers ∙ first.peers;
    retry = second.retry ∙ first.retry;
    stay = λ kind view is un. second.stay kind view (first.stay kind view is (within kind view un))
        (after kind view un);
    asked = λ it has. in_both it (second.asked it has);
  }
    where
      in_both : (it : Fetch) → IsAccountedFor now later more b it → IsAccountedFor now wider more a it
      in_both _ (Unchanged it between) = accounted_more within among it (first.asked it between)
      in_both _ (Opened it since) = Opened it (
        since.0,
        λ un. not_before (is_fetch_open it.kind it.view a.wanted.items) (is_fetch_open it.kind it.view b.wanted.items)
            (λ is. first.stay it.kind it.view is (within it.kind it.view un)) (since.1 (after it.kind it.view un)),
      )
      in_both _ (Asked due is at found) =
          subst (λ retry. IsAccountedFor now wider more a (asked_again now retry due)) (sym first.retry)
          (Asked due (in_both due is) at
          (subst (λ (p : Peers). list_any (is_ask
          (record { kind = due.kind; view = due.view; of = whose_turn p due.first due.count })) more ≡ true)
          first.peers found))

  -- by no work no peer is asked
  pub asked_by_none : {works : List (Work S D K G C)} {over : FetchKind → ℕ → Bool} {old new : Fetches} → works ≡ []
      → AsksWhoseTurn now over works old new → AsksNoPeer over old new
  asked_by_none {works = works} {over = over} {old = old} none is = record {
    peers = is.peers;
    retry = is.retry;
    fetches = record { stay = is.stay; unasked = λ it has. of_two it (is.asked it has) };
  }
    where
      of_two : (it : Fetch) → IsAccountedFor now over works old it
          → Contains old.wanted.items it ⊎ IsOpened over old.wanted.items it
      of_two _ (Unchanged it before) = inl before
      of_two _ (Opened it since) = inr since
      of_two _ (Asked due is at found) =
          absurd (false≢true (ap (list_any (is_ask (ask_of old due))) (sym none) ∙ found))

module _ {S D K G C : Type 0} (now : ℕ) where
  -- the first fetch that is due is asked for
  asked_one : (old new : Fetches) (ask : Option Ask) → IsAsking now old ask new
      → AsksWhoseTurn now never (work_planned {S = S} {D = D} {K = K} {G = G} {C = C} (fetching_one ask)) old new
  asked_one old new ask asking = by_place (due_at now old.wanted.items) refl asking
    where
      works : List (Work S D K G C)
      works = work_planned (fetching_one ask)

      is_due : (place : ℕ) (it : Fetch) → due_at now old.wanted.items ≡ Some place
          → slice_get old.wanted.items place ≡ Some it → it.moment ≤ now
      is_due place it first at =
          leb-true it.moment now
          (ap (λ (f : Fetch). nat_le f.moment now) (sym (get_or_from_slice_get old.wanted.items place it it at))
          ∙ (position-Some (λ (f : Fetch). nat_le f.moment now) old.wanted.items place it first).1)

      asks : (it : Fetch) → ask ≡ Some (ask_of old it) → list_any (is_ask (ask_of old it)) works ≡ true
      asks it is =
          ap (λ asked. list_any (is_ask (ask_of old it))
          (work_planned {S = S} {D = D} {K = K} {G = G} {C = C} (fetching_one asked))) is
          ∙ or_left _ false (self_ask (ask_of old it))

      by_place : (at : Option ℕ) → due_at now old.wanted.items ≡ at
          → MatchOption at ((ask ≡ None) × (new ≡ old))
          (λ place. (due : Fetch) × (slice_get old.wanted.items place ≡ Some due) × (ask ≡ Some (ask_of old due))
          × (new.wanted.items ≡ slice_set old.wanted.items place (asked_again now old.retry due))
          × (new.peers ≡ old.peers) × (new.retry ≡ old.retry))
          → AsksWhoseTurn now never works old new
      by_place None first (_, same) = asked_none {over = never} (λ kind view un. un) (asks_none_still same)
      by_place (Some place) first (due, at, is, items, peers, retry) = record {
        peers = peers;
        retry = retry;
        stay = λ kind view before un. open_asked now old new ask asking kind view ∙ before;
        asked = λ it has. elim (set_in old.wanted.items place (asked_again now old.retry due) it
            (subst (λ xs. Contains xs it) items has)) [
              | inl before ↦ Unchanged it before
              | inr this ↦ subst (λ (f : Fetch). IsAccountedFor now never works old f) this
                  (Asked due (Unchanged due (has_at old.wanted.items place due at)) (is_due place due first at)
                  (asks due is))
            ];
      }

  -- ---- the next step

  asked_planned : {more : List (Step S D K G C)} {old new : Plan S D K G C} → HasPlanned more old new
      → AsksWhoseTurn now never (work_planned new.steps.items) old.repair.fetches new.repair.fetches
  asked_planned is = asked_none {over = never} (λ kind view un. un)
      (asks_none_still (ap (λ (p : Plan S D K G C). p.repair.fetches) is.same))

  asked_fetch : (old new : Plan S D K G C) → IsFetchAsked now old new
      → AsksWhoseTurn now never (work_planned new.steps.items) old.repair.fetches new.repair.fetches
  asked_fetch old new is =
      asked_among (among_further (among_last (work_planned old.steps.items) (work_planned (fetching_one is.ask)))
      (among_all (sym (ap work_planned is.planned.steps ∙ planned-append old.steps.items (fetching_one is.ask)))))
      (asked_one old.repair.fetches new.repair.fetches is.ask is.asked)

  asked_prune : (b : Bool) (old new : Plan S D K G C) → IsPruneAsked b now old new
      → AsksWhoseTurn now never (work_planned new.steps.items) old.repair.fetches new.repair.fetches
  asked_prune true old new is = asked_planned {old = record old { is_prune_due = false }} is
  asked_prune false old new is = asked_fetch old new is

  asked_timeout : (b : Bool) (old new : Plan S D K G C) → IsTimeoutAsked b now old new
      → AsksWhoseTurn now never (work_planned new.steps.items) old.repair.fetches new.repair.fetches
  asked_timeout true old new is = asked_planned {old = record old { is_timeout_due = false }} is
  asked_timeout false old new is = asked_prune old.is_prune_due old new is

  asked_watched : (steps : List (Step S D K G C)) (old new : Plan S D K G C) → AreWatched steps now old new
      → AsksWhoseTurn now never (work_planned new.steps.items) old.repair.fetches new.repair.fetches
  asked_watched [] old new is = asked_timeout old.is_timeout_due old new is
  asked_watched (step ∷ steps) old new is = asked_planned is

  asked_ready : (steps : List (Step S D K G C)) (old ready : Plan S D K G C) → IsReady steps now old ready
      → AsksWhoseTurn now never (work_planned ready.steps.items) old.repair.fetches ready.repair.fetches
  asked_ready [] old ready is =
      asked_watched (watching_where old.is_watch_due old.views.current old.builds.buildings.items)
      (record old { is_watch_due = false }) ready is
  asked_ready (step ∷ steps) old ready is =
      asked_none {over = never} (λ kind view un. un)
      (asks_none_still (ap (λ (p : Plan S D K G C). p.repair.fetches) is))

  -- the step that is taken, or one that is left, asks
  pub asked_taken : (step : Option (Step S D K G C)) (old new : Plan S D K G C) → HasTaken now step old new
      → AsksWhoseTurn now never (work_planned (option_to_list step ++ new.steps.items)) old.repair.fetches
      new.repair.fetches
  asked_taken step old new taken =
      subst (λ (p : Plan S D K G C). AsksWhoseTurn now never (work_planned (option_to_list step ++ new.steps.items))
      old.repair.fetches p.repair.fetches) (sym taken.same)
      (subst (λ steps. AsksWhoseTurn now never (work_planned steps) old.repair.fetches taken.ready.repair.fetches)
      taken.taken (asked_ready old.steps.items old taken.ready taken.is_ready))

  pub taken_asks_none : (old new : Plan S D K G C) → HasTaken now None old new
      → AsksNoPeer never old.repair.fetches new.repair.fetches
  taken_asks_none old new taken =
      asked_by_none (ap work_planned (taken_none now None old new taken refl).steps) (asked_taken None old new taken)
