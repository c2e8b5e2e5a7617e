-- A state that is made from a record shows the record's notarizations and verdicts.
use Rattle.std.proofs.Common.{◌≡◌, refl, ap, sym, ◌∙◌, subst, ℕ, ◌<◌, ◌≤◌, ◌⊎◌, inl, inr, Bool, true, false, nat_lt, nat_le, max, List, [], ◌∷◌, ◌++◌, append_assoc, Contains, filter, Option, None, is_some, arith}
use Rattle.std.specs.List.Sorted.{IsNonDecreasingBy}
use Rattle.std.proofs.lemmas.Bool.{cases_Bool, false≢true, leb-true, leb-false, le-leb, ltb-true}
use Rattle.std.proofs.lemmas.Bool.Decides.{nat_tests}
use Rattle.std.proofs.lemmas.List.{append-nil}
use Rattle.std.proofs.lemmas.List.Elements.{Contains-append_left, Contains-append_right, Contains-append_cases, Contains-push_cases}
use Rattle.simplex_types.specs.Certificates.{ProposalFacts, Notarized, Nullified, Finalized, ArtifactFacts, NotarizeVote, NullifyVote, FinalizeVote, Verdict, Accepted}
use Rattle.simplex_types.specs.Config.{FloorFacts}
use Rattle.simplex_types.specs.declared.types.numbers.Round.{Round}
use Rattle.simplex_types.specs.declared.types.window.Terms.{Terms}
use Rattle.simplex_round.specs.Round.{RoundFacts, certified_round, is_judged}
use Rattle.simplex_voter.specs.Facts.{Settings, StateFacts, Elect, new_facts, round_of}
use Rattle.simplex_voter.specs.Windows.{min_active}
use Rattle.simplex_voter.specs.Acceptance.{after_add_notarization, after_add_nullification, after_add_finalization, after_set_floor}
use Rattle.simplex_record.specs.Entries.{entry_view}
use Rattle.simplex_record.specs.Recovery.{after_replaying, after_entry, after_kept_entry, after_entries, recovered_state}
use Rattle.laws_safety.proofs.lists.Filters.{Contains-filter, Contains-filtered, filtered_passes}
use Rattle.laws_safety.proofs.own_records.Recorded.{HasNoVerdict}
use Rattle.laws_safety.proofs.lists.Splits.{Contains-cons_rest, only_one}
use Rattle.laws_safety.proofs.own_records.EntriesFit.{RisesFrom, rises_from}
use Rattle.simplex_record.specs.Events as event
use Rattle.simplex_record.specs.Events.{Event, IsEvent, after_event, finalized_by_event}
use Rattle.simplex_record.proofs.Rounds.{round_put}
use Rattle.laws_safety.proofs.frames.NoLowerViews.{event_goes, event_finalizes}
use Rattle.simplex_record.proofs.Steps.{notarization_by, verdict_by}
use Rattle.laws_safety.proofs.own_records.Verdicts.{ShowsVerdicts, judged_so, event_shows}

-- in the middle of a recovery: the state shows the entries that were taken, and the retained views begin at the base,
-- or else no higher
-- than the last entry
pub record Recovers {K L D : Type 0} (base top : ℕ) (done : List (ArtifactFacts D)) (x : StateFacts K L D) : Type
    0 where
  pub shows : ShowsVerdicts done x
  pub reached : base ≤ min_active x
  pub within : min_active x ≤ max base top

module _ {K L D : Type 0} (same : D → D → Bool) (elect : Elect L) (base top : ℕ) (done : List (ArtifactFacts D))
    (x : StateFacts K L D) (recovers : Recovers base top done x) (e : Event K D) (v : ℕ) (over : top ≤ v)
    (within : finalized_by_event e ≤ v)
    (handles : (v token : ℕ) → e ≡ event.SetCertifyHandle v token → IsEvent x e) where
  -- an event of a view that is no lower
  pub more_recovers : (more : List (ArtifactFacts D)) → ShowsVerdicts more (after_event same elect x e)
      → Recovers base v more (after_event same elect x e)
  more_recovers more shows =
      let goes = event_goes same elect x e in
      let finalizes = event_finalizes same elect x e in
      let retention = ap (λ s. s.view_retention) goes.settings in
      record {
        shows = shows;
        reached = omega (arith, retention, goes.finalized, recovers.reached);
        within = omega (arith, retention, finalizes, recovers.within, over, within);
      }

  -- of an entry that is no verdict, or of none
  pub quiet_recovers : (new : List (ArtifactFacts D)) → HasNoVerdict new → notarization_by e ≡ None
      → verdict_by e ≡ None → Recovers base v (done ++ new) (after_event same elect x e)
  quiet_recovers new silent no_notarization no_judgement =
      more_recovers (done ++ new)
      (event_shows same elect x e handles done (done ++ new) (λ c is. absurd (cc))
      (λ round given success h is. absurd (cc)) (λ a h. Contains-append_left done new a h)
      (λ c is none. absurd (cc))
      (λ round success h. elim (Contains-append_cases done new (Verdict round success) h)
      [ inl old ↦ inl old | inr late ↦ absurd (silent round success late) ]) recovers.shows)

  pub still_recovers : notarization_by e ≡ None → verdict_by e ≡ None
      → Recovers base v done (after_event same elect x e)
  still_recovers no_notarization no_judgement =
      more_recovers done
      (event_shows same elect x e handles done done (λ c is. absurd (cc)) (λ round given success h is. absurd (cc))
      (λ a h. h) (λ c is none. absurd (cc)) (λ round success h. inl h) recovers.shows)

module _ {K L D : Type 0} (same : D → D → Bool) (elect : Elect L) (now base top : ℕ) (done : List (ArtifactFacts D))
    (x : StateFacts K L D) (recovers : Recovers base top done x) where
  -- an entry that is taken again; those of its verdict's view agree with it
  retaken_recovers : (e : ArtifactFacts D) → top ≤ entry_view e → min_active x ≤ entry_view e
      → ((round other : Round) (success given : Bool) → e ≡ Verdict round success → Contains done (Verdict other given)
      → other.view ≡ round.view → given ≡ success)
      → Recovers base (entry_view e) (done ++ e ∷ []) (after_entry same elect x now e)
  retaken_recovers (NotarizeVote p m) over kept agree =
      let a : ArtifactFacts D = NotarizeVote p m in
      quiet_recovers same elect base top done x recovers (event.Replay a) p.round.view over (omega arith)
      (λ v token is. absurd (cc)) (a ∷ []) (λ round success h. (let e = only_one a (Verdict round success) h in cc))
      refl refl
  retaken_recovers (NullifyVote round m) over kept agree =
      let a : ArtifactFacts D = NullifyVote round m in
      quiet_recovers same elect base top done x recovers (event.Replay a) round.view over (omega arith)
      (λ v token is. absurd (cc)) (a ∷ []) (λ other success h. (let e = only_one a (Verdict other success) h in cc))
      refl refl
  retaken_recovers (FinalizeVote p m) over kept agree =
      let a : ArtifactFacts D = FinalizeVote p m in
      quiet_recovers same elect base top done x recovers (event.Replay a) p.round.view over (omega arith)
      (λ v token is. absurd (cc)) (a ∷ []) (λ round success h. (let e = only_one a (Verdict round success) h in cc))
      refl refl
  retaken_recovers (Verdict round success) over kept agree =
      let v = round.view in
      let a : ArtifactFacts D = Verdict round success in
      let whole = done ++ a ∷ [] in
      let replay : Event K D = event.Replay a in
      let give : Event K D = event.Certified v success now in
      let j = after_replaying same elect x a in
      let agreed : (other : Round) (given : Bool) → Contains whole (Verdict other given) → other.view ≡ v
      → given ≡ success = λ other given h at. elim (Contains-push_cases done a (Verdict other given) h) [
        | inl old ↦ agree round other success given refl old at
        | inr new ↦ cc
      ] in
      let stands : is_judged success (round_of j v).certification ≡ true =
      ap (λ (r : RoundFacts K D). is_judged success r.certification)
      (round_put x v (certified_round (round_of x v) success)) ∙ judged_so success in
      let first = more_recovers same elect base top done x recovers replay v over (omega arith)
      (λ w token is. absurd (cc)) whole
      (event_shows same elect x replay (λ w token is. absurd (cc)) done whole (λ c is. absurd (cc))
      (λ other given taken h says. (let pair : (v, success) ≡ (other.view, taken) = cc in
      agree round other success given refl h (sym (ap (λ (p : ℕ × Bool). p.0) pair))
      ∙ ap (λ (p : ℕ × Bool). p.1) pair))
      (λ b h. Contains-append_left done (a ∷ []) b h) (λ c is none. absurd (cc))
      (λ other given h. elim (Contains-push_cases done a (Verdict other given) h) [
        | inl old ↦ inl old
        | inr new ↦ inr (let is : round ≡ other = cc in let same_given : success ≡ given = cc in
            subst (λ (r : Round). is_judged given (round_of j r.view).certification ≡ true) is
            (subst (λ b. is_judged b (round_of j v).certification ≡ true) same_given stands))
      ]) recovers.shows) in
      more_recovers same elect base v whole j first give v (omega arith) (omega arith) (λ w token is. absurd (cc)) whole
      (event_shows same elect j give (λ w token is. absurd (cc)) whole whole (λ c is. absurd (cc))
      (λ other given taken h says. (let pair : (v, success) ≡ (other.view, taken) = cc in
      agreed other given h (sym (ap (λ (p : ℕ × Bool). p.0) pair)) ∙ ap (λ (p : ℕ × Bool). p.1) pair))
      (λ b h. h) (λ c is none. absurd (cc)) (λ other given h. inl h) first.shows)
  retaken_recovers (Accepted (Notarized c)) over kept agree =
      let v = c.proposal.round.view in
      let a : ArtifactFacts D = Accepted (Notarized c) in
      let add : Event K D = event.AddNotarization c in
      let whole = done ++ a ∷ [] in
      let silent : HasNoVerdict (a ∷ []) = λ round success h. (let e = only_one a (Verdict round success) h in cc) in
      let first = more_recovers same elect base top done x recovers add v over (omega arith) (λ w token is. absurd (cc))
      whole
      (event_shows same elect x add (λ w token is. absurd (cc)) done whole
      (λ d is.
      (let alike : c ≡ d = cc in subst (λ (f : ProposalFacts D). min_active x ≤ f.proposal.round.view) alike kept))
      (λ round given success h is. absurd (cc)) (λ b h. Contains-append_left done (a ∷ []) b h)
      (λ d is none. (let alike : c ≡ d = cc in
      subst (λ (f : ProposalFacts D). Contains whole (Accepted (Notarized f))) alike
      (Contains-append_right done (a ∷ []) a (0, omega arith, refl))))
      (λ round success h. elim (Contains-append_cases done (a ∷ []) (Verdict round success) h)
      [ inl old ↦ inl old | inr late ↦ absurd (silent round success late) ]) recovers.shows) in
      still_recovers same elect base v whole (after_add_notarization same elect x c) first (event.Replay a) v
      (omega arith) (omega arith) (λ w token is. absurd (cc)) refl refl
  retaken_recovers (Accepted (Nullified c)) over kept agree =
      let v = c.round.view in
      let a : ArtifactFacts D = Accepted (Nullified c) in
      let first = quiet_recovers same elect base top done x recovers (event.AddNullification c now) v over (omega arith)
      (λ w token is. absurd (cc)) (a ∷ []) (λ round success h. (let e = only_one a (Verdict round success) h in cc))
      refl refl in
      still_recovers same elect base v (done ++ a ∷ []) (after_add_nullification elect x c now) first (event.Replay a) v
      (omega arith) (omega arith) (λ w token is. absurd (cc)) refl refl
  retaken_recovers (Accepted (Finalized c)) over kept agree =
      let v = c.proposal.round.view in
      let a : ArtifactFacts D = Accepted (Finalized c) in
      let first = quiet_recovers same elect base top done x recovers (event.AddFinalization c now) v over (omega arith)
      (λ w token is. absurd (cc)) (a ∷ []) (λ round success h. (let e = only_one a (Verdict round success) h in cc))
      refl refl in
      still_recovers same elect base v (done ++ a ∷ []) (after_add_finalization same elect x c now) first
      (event.Replay a) v (omega arith) (omega arith) (λ w token is. absurd (cc)) refl refl

-- the views of a record from the base on
abbrev pub entries_not_below : {D : Type 0} → ℕ → List (ArtifactFacts D) → List (ArtifactFacts D)
entries_not_below base entries = filter (λ e. nat_le base (entry_view e)) entries

-- at the end of a recovery: the state shows the entries, and the retained views begin no lower than the base
pub record Recovered {K L D : Type 0} (base : ℕ) (entries : List (ArtifactFacts D)) (x : StateFacts K L D) : Type
    0 where
  pub shows : ShowsVerdicts entries x
  pub reached : base ≤ min_active x

module _ {K L D : Type 0} (same : D → D → Bool) (elect : Elect L) (now base : ℕ) (copy : List (ArtifactFacts D))
    (one_verdict : (round other : Round) (success given : Bool) → Contains copy (Verdict round success)
    → Contains copy (Verdict other given) → round.view ≡ other.view → success ≡ given) where
  passed_over : (x : StateFacts K L D) (e : ArtifactFacts D) → nat_lt (entry_view e) (min_active x) ≡ true
      → after_kept_entry same elect x now e ≡ x
  unfolding after_kept_entry
  passed_over x e is = rw is refl

  taken_again : (x : StateFacts K L D) (e : ArtifactFacts D) → nat_lt (entry_view e) (min_active x) ≡ false
      → after_kept_entry same elect x now e ≡ after_entry same elect x now e
  unfolding after_kept_entry
  taken_again x e is = rw is refl

  -- the rest of a record by rising views
  all_recover : (rest done : List (ArtifactFacts D)) (top : ℕ) (x : StateFacts K L D) → Recovers base top done x
      → RisesFrom top rest → ((e : ArtifactFacts D) → Contains done e → Contains copy e)
      → ((e : ArtifactFacts D) → Contains rest e → Contains copy e)
      → Recovered base (done ++ entries_not_below base rest) (after_entries same elect x now rest)
  all_recover [] done top x recovers rises known coming =
      record {
        shows = subst (λ es. ShowsVerdicts es x) (sym (append-nil done)) recovers.shows;
        reached = recovers.reached;
      }
  all_recover (e ∷ rest) done top x recovers rises known coming =
      elim (cases_Bool (nat_lt (entry_view e) (min_active x))) [
        | inl passed ↦
            (let below : entry_view e < min_active x = ltb-true (entry_view e) (min_active x) passed in
            let out : nat_le base (entry_view e) ≡ false = grind (arith, nat_tests, below, recovers.within, rises.0) in
            rw (passed_over x e passed, out) (all_recover rest done (entry_view e) x
            (record {
              shows = recovers.shows;
              reached = recovers.reached;
              within = omega (arith, recovers.within, rises.0);
            }) rises.1 known
            (λ f h. coming f (Contains-cons_rest e rest f h))))
        | inr kept ↦
            (let over : min_active x ≤ entry_view e = grind (arith, nat_tests) in
            let stays : nat_le base (entry_view e) ≡ true =
            le-leb base (entry_view e) (omega (arith, over, recovers.reached)) in
            let here : Contains copy e = coming e (0, omega arith, refl) in
            let next = retaken_recovers same elect now base top done x recovers e rises.0 over
            (λ round other success given is h at.
            one_verdict other round given success (known (Verdict other given) h) (subst (λ f. Contains copy f) is here)
            at) in
            let ends = all_recover rest (done ++ e ∷ []) (entry_view e) (after_entry same elect x now e) next rises.1
            (λ f h. elim (Contains-push_cases done e f h)
            [ inl old ↦ known f old | inr new ↦ subst (λ g. Contains copy g) new here ])
            (λ f h. coming f (Contains-cons_rest e rest f h)) in
            rw (taken_again x e kept, stays) (subst
            (λ es. Recovered base es (after_entries same elect (after_entry same elect x now e) now rest))
            (append_assoc done (e ∷ []) (entries_not_below base rest)) ends))
      ]

module _ {K L D : Type 0} (base : ℕ) (copy : List (ArtifactFacts D)) (x : StateFacts K L D) where
  -- an entry below the base is neither retained nor held notarized
  whole_shown : Recovered base (entries_not_below base copy) x → ShowsVerdicts copy x
  whole_shown ends = record {
    notarized = λ v is. (let c = ends.shows.notarized v is in
        (c.0, Contains-filtered (λ e. nat_le base (entry_view e)) copy (Accepted (Notarized c.0)) c.1, c.2));
    judged = λ round success h known. elim (cases_Bool (nat_le base round.view)) [
      | inl stays ↦ ends.shows.judged round success
          (Contains-filter (λ e. nat_le base (entry_view e)) copy (Verdict round success) h stays) known
      | inr out ↦ absurd (unknown round.view (leb-false base round.view out) known)
    ];
  }
    where
      unknown : (v : ℕ) → v < base → (min_active x ≤ v) ⊎ (is_some (round_of x v).notarization ≡ true) → ⊥
      unknown v below (inl kept) = absurd (omega (arith, below, kept, ends.reached))
      unknown v below (inr is) =
          let c = ends.shows.notarized v is in
          let stays = leb-true base c.0.proposal.round.view
          (filtered_passes (λ e. nat_le base (entry_view e)) copy (Accepted (Notarized c.0)) c.1) in
          absurd (omega (arith, below, stays, c.2))

module _ {K L D : Type 0} (same : D → D → Bool) (elect : Elect L) (settings : Settings) (me : Option ℕ)
    (members : List K) (elector : L) (terms : Terms) (early : Bool) where
  abbrev pub fresh : StateFacts K L D
  fresh = new_facts settings me members elector terms early

  pub recovered_shows : (copy : List (ArtifactFacts D)) (floor : FloorFacts D) (now : ℕ)
      → IsNonDecreasingBy entry_view copy → ((round other : Round) (success given : Bool)
      → Contains copy (Verdict round success) → Contains copy (Verdict other given) → round.view ≡ other.view
      → success ≡ given) → ShowsVerdicts copy (recovered_state same elect fresh floor now copy)
  unfolding recovered_state
  recovered_shows copy floor now rising one_verdict =
      let x = after_set_floor same elect fresh floor now in
      let e : Event K D = event.SetFloor floor now in
      let base = min_active x in
      let start : Recovers base 0 [] x = record {
        shows = event_shows same elect fresh e (λ w token is. absurd (cc)) [] [] (λ c is. absurd (cc))
            (λ round given success h is. absurd (cc)) (λ a h. h) (λ c is none. absurd (cc)) (λ round success h. inl h)
            (record {
              notarized = λ v is. absurd (false≢true is);
              judged = λ round success h. absurd (omega (arith, h.1));
            });
        reached = omega arith;
        within = omega arith;
      } in
      let ends = all_recover same elect now base copy one_verdict copy [] 0 x start
      (rises_from 0 copy rising (λ e h. omega arith)) (λ e h. absurd (omega (arith, h.1))) (λ e h. h) in
      whole_shown base copy (after_entries same elect x now copy) ends
