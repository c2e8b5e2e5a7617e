-- A state that is made from a record shows each entry of the record from the lowest view on that it retained once its
-- floor was set, and
-- tracks no view below that one.
use Rattle.std.proofs.Common.{◌≡◌, refl, ap, sym, ◌∙◌, subst, ℕ, zero, suc, ◌<◌, ◌≤◌, inl, inr, Bool, true, false, if◌then◌else◌, nat_lt, max, List, [], ◌∷◌, Contains, Option, Some, arith}
use Rattle.std.specs.List.Sorted.{IsNonDecreasingBy}
use Rattle.std.proofs.lemmas.Bool.{cases_Bool, true≢false, ltb-true}
use Rattle.std.proofs.lemmas.Bool.Decides.{nat_tests}
use Rattle.simplex_view_maps.proofs.Gaps.{next_above}
use Rattle.simplex_types.specs.Terms.{next_term_start}
use Rattle.simplex_types.specs.Certificates.{ProposalFacts, Notarized, Nullified, Finalized, ArtifactFacts, NotarizeVote, NullifyVote, FinalizeVote, Verdict, Accepted}
use Rattle.simplex_types.specs.Config.{FloorFacts, Genesis, Finalized as FinalizedFloor}
use Rattle.simplex_types.specs.declared.types.window.Terms.{Terms}
use Rattle.simplex_voter.specs.Facts.{Settings, StateFacts, Elect, new_facts, round_of, is_tracked}
use Rattle.simplex_voter.specs.Windows.{min_active}
use Rattle.simplex_voter.specs.ViewEntry.{at_moment}
use Rattle.simplex_voter.specs.Certification.{with_finalized_view}
use Rattle.simplex_voter.specs.Acceptance.{after_add_finalization, after_set_floor, floor_answer}
use Rattle.simplex_record.specs.Entries.{entry_view}
use Rattle.simplex_record.specs.Recovery.{after_replaying, after_entry, after_kept_entry, after_entries, recovered_state}
use Rattle.simplex_record.specs.Events as event
use Rattle.simplex_record.specs.Events.{Event, IsEvent, after_event, finalized_by_event, is_prune}
use Rattle.simplex_record.proofs.Paths.{AskedFrom, from_raised, put}
use Rattle.simplex_record.proofs.Steps as step
use Rattle.simplex_record.proofs.Steps.{Path, Still, along}
use Rattle.laws_safety.proofs.frames.Fresh.{IsNewState}
use Rattle.laws_safety.proofs.frames.NoLowerViews.{event_goes, event_finalizes}
use Rattle.laws_safety.proofs.frames.Sound.{IsSound, event_sound, floor_sound}
use Rattle.laws_safety.proofs.frames.Untracked.{IsClear, step_out, clear_along}
use Rattle.laws_safety.proofs.lists.Splits.{Contains-cases}
use Rattle.laws_safety.proofs.own_records.EntriesFit.{RisesFrom, rises_from}
use Rattle.laws_safety.proofs.own_records.ShownEntries.{has_entry, entry_retained, event_retains}
use Rattle.laws_safety.proofs.own_records.EntriesStand.{notarization_shown, nullification_shown, finalization_shown, floor_shown, replayed_shown}

module _ {K L D : Type 0} where
  -- the state shows the entry
  abbrev pub is_shown : StateFacts K L D → ArtifactFacts D → Bool
  is_shown x a = has_entry (round_of x (entry_view a)) a

  -- the second state shows what the first does
  abbrev pub ShowsStill : StateFacts K L D → StateFacts K L D → Type 0
  ShowsStill x y = (a : ArtifactFacts D) → is_shown x a ≡ true → is_shown y a ≡ true

-- in the middle of a recovery: the retained views begin at the base, or else no higher than at the views that were
-- taken, and nothing below
-- the base is tracked
record InRecovery {K L D : Type 0} (term_length base top : ℕ) (x : StateFacts K L D) : Type 0 where
  sound : IsSound term_length x
  reached : base ≤ min_active x
  within : min_active x ≤ max base top
  clear : IsClear base x

-- an entry was taken again
record Retaken {K L D : Type 0} (term_length base : ℕ) (x y : StateFacts K L D) (e : ArtifactFacts D) : Type 0 where
  recovers : InRecovery term_length base (entry_view e) y
  still : ShowsStill x y
  shown : is_shown y e ≡ true

module _ {K L D : Type 0} (same : D → D → Bool) (elect : Elect L) (x : StateFacts K L D) (e : Event K D) where
  -- an event other than a prune keeps what is shown
  pub event_still : ((v token : ℕ) → e ≡ event.SetCertifyHandle v token → IsEvent x e) → is_prune e ≡ false
      → ShowsStill x (after_event same elect x e)
  event_still handles no_prune a is = elim (event_retains same elect x e handles (entry_view a)) [
    | inl retains ↦ entry_retained (round_of x (entry_view a)) (round_of (after_event same elect x e) (entry_view a)) a
        retains is
    | inr gone ↦ absurd (true≢false (sym gone.0 ∙ no_prune))
  ]

  -- one of a view that is no lower than those that were taken
  event_recovers : (term_length base top v : ℕ) → top ≤ v → finalized_by_event e ≤ v → AskedFrom base x e
      → InRecovery term_length base top x → InRecovery term_length base v (after_event same elect x e)
  event_recovers term_length base top v over within asked recovers =
      let goes = event_goes same elect x e in
      let finalizes = event_finalizes same elect x e in
      let retention = ap (λ s. s.view_retention) goes.settings in
      record {
        sound = event_sound same elect term_length x e recovers.sound;
        reached = omega (arith, retention, goes.finalized, recovers.reached);
        within = omega (arith, retention, finalizes, recovers.within, over, within);
        clear = clear_along same elect base x e
            (let ahead = recovers.sound.ahead in let reached = recovers.reached in omega (arith, ahead, reached)) asked
            recovers.clear;
      }

next_over : (T v base : ℕ) → 0 < T → base ≤ v → base ≤ next_term_start T v
next_over T zero base some under = omega arith
next_over T (suc v) base some under =
    (let above = next_above T (suc v) some (omega arith) in omega (arith, above, under))

module _ {K L D : Type 0} (same : D → D → Bool) (elect : Elect L) (now term_length base top : ℕ)
    (some : 0 < term_length) (x : StateFacts K L D) (recovers : InRecovery term_length base top x) where
  -- an entry that is only replayed
  replayed : (e : ArtifactFacts D) → top ≤ entry_view e → base ≤ entry_view e
      → InRecovery term_length base (entry_view e) (after_replaying same elect x e)
  replayed e over kept = event_recovers same elect x (event.Replay e) term_length base top (entry_view e) over
      (omega arith) kept recovers

  replay_still : (e : ArtifactFacts D) → ShowsStill x (after_replaying same elect x e)
  replay_still e = event_still same elect x (event.Replay e) (λ w token is. absurd (cc)) refl

module _ {K L D : Type 0} (same : D → D → Bool) (elect : Elect L) (now term_length base top : ℕ)
    (some : 0 < term_length) (x : StateFacts K L D) (recovers : InRecovery term_length base top x) where
  -- a certificate is added, and then replayed
  added : (e : ArtifactFacts D) (add : Event K D) → top ≤ entry_view e → base ≤ entry_view e
      → finalized_by_event add ≤ entry_view e → AskedFrom base x add
      → ((v token : ℕ) → add ≡ event.SetCertifyHandle v token → IsEvent x add) → is_prune add ≡ false
      → is_shown (after_event same elect x add) e ≡ true
      → Retaken term_length base x (after_replaying same elect (after_event same elect x add) e) e
  added e add over kept within asked handles no_prune stands =
      let y = after_event same elect x add in
      let first = event_recovers same elect x add term_length base top (entry_view e) over within asked recovers in
      record {
        recovers = replayed same elect now term_length base (entry_view e) some y first e (omega arith) kept;
        still = λ a is. replay_still same elect now term_length base (entry_view e) some y first e a
            (event_still same elect x add handles no_prune a is);
        shown = replay_still same elect now term_length base (entry_view e) some y first e e stands;
      }

  retaken : (e : ArtifactFacts D) → top ≤ entry_view e → base ≤ entry_view e
      → Retaken term_length base x (after_entry same elect x now e) e
  retaken (NotarizeVote p m) over kept = (let e : ArtifactFacts D = NotarizeVote p m in
      record {
        recovers = replayed same elect now term_length base top some x recovers e over kept;
        still = replay_still same elect now term_length base top some x recovers e;
        shown = replayed_shown same elect x e refl;
      })
  retaken (NullifyVote round m) over kept =
      (let e : ArtifactFacts D = NullifyVote round m in
      record {
        recovers = replayed same elect now term_length base top some x recovers e over kept;
        still = replay_still same elect now term_length base top some x recovers e;
        shown = replayed_shown same elect x e refl;
      })
  retaken (FinalizeVote p m) over kept = (let e : ArtifactFacts D = FinalizeVote p m in
      record {
        recovers = replayed same elect now term_length base top some x recovers e over kept;
        still = replay_still same elect now term_length base top some x recovers e;
        shown = replayed_shown same elect x e refl;
      })
  retaken (Verdict round success) over kept =
      let e : ArtifactFacts D = Verdict round success in
      let give : Event K D = event.Certified round.view success now in
      let y = after_replaying same elect x e in
      let first = replayed same elect now term_length base top some x recovers e over kept in
      let given = event_still same elect y give (λ w token is. absurd (cc)) refl in
      record {
        recovers = event_recovers same elect y give term_length base round.view round.view (omega arith) (omega arith)
            tt first;
        still = λ a is. given a (replay_still same elect now term_length base top some x recovers e a is);
        shown = given e (replayed_shown same elect x e refl);
      }
  retaken (Accepted (Notarized c)) over kept =
      added (Accepted (Notarized c)) (event.AddNotarization c) over kept (omega arith) kept (λ w token is. absurd (cc))
      refl (notarization_shown same elect x c)
  retaken (Accepted (Nullified c)) over kept =
      let terms = recovers.sound.terms in
      added (Accepted (Nullified c)) (event.AddNullification c now) over kept (omega arith)
      (kept, next_over x.terms.term_length c.round.view base (omega (arith, some, terms)) kept)
      (λ w token is. absurd (cc)) refl (nullification_shown same elect x c now)
  retaken (Accepted (Finalized c)) over kept =
      added (Accepted (Finalized c)) (event.AddFinalization c now) over kept (omega arith) kept
      (λ w token is. absurd (cc)) refl (finalization_shown same elect x c now)

-- where a recovery ends: the state shows the entries from the base on, and tracks no view below it
pub record Recovered {K L D : Type 0} (base : ℕ) (entries : List (ArtifactFacts D)) (x y : StateFacts K L D) : Type
    0 where
  pub reached : base ≤ min_active y
  pub clear : IsClear base y
  pub still : ShowsStill x y
  pub shown : (a : ArtifactFacts D) → Contains entries a → base ≤ entry_view a → is_shown y a ≡ true

module _ {K L D : Type 0} (same : D → D → Bool) (elect : Elect L) (now term_length base : ℕ)
    (some : 0 < term_length) where
  passed_over : (x : StateFacts K L D) (e : ArtifactFacts D) → nat_lt (entry_view e) (min_active x) ≡ true
      → after_kept_entry same elect x now e ≡ x
  unfolding after_kept_entry
  passed_over x e is = rw is refl

  taken_again : (x : StateFacts K L D) (e : ArtifactFacts D) → nat_lt (entry_view e) (min_active x) ≡ false
      → after_kept_entry same elect x now e ≡ after_entry same elect x now e
  unfolding after_kept_entry
  taken_again x e is = rw is refl

  -- entries by rising views
  all_recover : (entries : List (ArtifactFacts D)) (top : ℕ) (x : StateFacts K L D) → InRecovery term_length base top x
      → RisesFrom top entries → Recovered base entries x (after_entries same elect x now entries)
  all_recover [] top x recovers rises = record {
    reached = recovers.reached;
    clear = recovers.clear;
    still = λ a is. is;
    shown = λ a h. absurd (omega (arith, h.1));
  }
  all_recover (e ∷ rest) top x recovers rises = elim (cases_Bool (nat_lt (entry_view e) (min_active x))) [
    | inl passed ↦
        (let below : entry_view e < min_active x = ltb-true (entry_view e) (min_active x) passed in
        let under : entry_view e < base = omega (arith, below, recovers.within, rises.0) in
        let ends = all_recover rest (entry_view e) x
        (record {
          sound = recovers.sound;
          reached = recovers.reached;
          within = omega (arith, recovers.within, rises.0);
          clear = recovers.clear;
        }) rises.1 in
        rw (passed_over x e passed) (record {
          reached = ends.reached;
          clear = ends.clear;
          still = ends.still;
          shown = λ a h over. elim (Contains-cases e rest a h) [
            | inl here ↦
                absurd (let at : entry_view e ≡ entry_view a = ap entry_view here in omega (arith, under, over, at))
            | inr later ↦ ends.shown a later over
          ];
        }))
    | inr kept ↦
        (let over : min_active x ≤ entry_view e = grind (arith, nat_tests, kept) in
        let next = retaken same elect now term_length base top some x recovers e rises.0
        (omega (arith, over, recovers.reached)) in
        let ends = all_recover rest (entry_view e) (after_entry same elect x now e) next.recovers rises.1 in
        rw (taken_again x e kept) (record {
          reached = ends.reached;
          clear = ends.clear;
          still = λ a is. ends.still a (next.still a is);
          shown = λ a h from. elim (Contains-cases e rest a h) [
            | inl here ↦ ends.still a (subst (λ f. is_shown (after_entry same elect x now e) f ≡ true) here next.shown)
            | inr later ↦ ends.shown a later from
          ];
        }))
  ]

-- a new state that sets a floor

module _ {K L D : Type 0} (same : D → D → Bool) (elect : Elect L) (settings : Settings) (me : Option ℕ)
    (members : List K) (elector : L) (terms : Terms) (early : Bool) (now : ℕ) where
  abbrev fresh : StateFacts K L D
  fresh = new_facts settings me members elector terms early

  finalized_clear : (c : ProposalFacts D) (base : ℕ) → base ≤ c.proposal.round.view
      → IsClear base (after_set_floor same elect fresh (FinalizedFloor c) now)
  finalized_clear c base under =
      let v = c.proposal.round.view in
      let e : Event K D = event.SetFloor (FinalizedFloor c) now in
      let z = with_finalized_view (at_moment fresh now) v in
      let raised : Path same elect fresh e base z (after_add_finalization same elect fresh c now) =
      from_raised c now refl under Still in
      along same elect fresh e base (IsClear base)
      (λ y z s clear. record {
        views = λ w below.
            step_out same elect base fresh e y z s w below (clear.views w below);
      }) z
      (after_set_floor same elect fresh (FinalizedFloor c) now)
      (put v _ (inl under) step.SentFinalization raised) (record { views = λ w below. none w (nat_lt 0 v) })
    where
      none : (w : ℕ) (b : Bool) → is_tracked (if b then record (at_moment fresh now)
          { finalized = c.proposal.round.view; named = []; rounds = [] } else at_moment fresh now) w ≡ false
      none w true = refl
      none w false = refl

  floor_clear : (floor : FloorFacts D) → IsClear (min_active (after_set_floor same elect fresh floor now))
      (after_set_floor same elect fresh floor now)
  floor_clear (Genesis payload) =
      let finalizes = event_finalizes same elect fresh (event.SetFloor (Genesis payload) now) in
      record { views = λ v below. absurd (omega (arith, finalizes, below)) }
  floor_clear (FinalizedFloor c) =
      let finalizes = event_finalizes same elect fresh (event.SetFloor (FinalizedFloor c) now) in
      finalized_clear c (min_active (after_set_floor same elect fresh (FinalizedFloor c) now))
      (omega (arith, finalizes))

  pub floor_stands : (floor : FloorFacts D) (c : ProposalFacts D) → floor_answer floor ≡ Some c
      → is_shown (after_set_floor same elect fresh floor now) (Accepted (Finalized c)) ≡ true
  floor_stands (Genesis payload) c is = absurd (cc)
  floor_stands (FinalizedFloor d) c is = (let one : d ≡ c = cc in
      subst (λ (f : ProposalFacts D). is_shown (after_set_floor same elect fresh (FinalizedFloor d) now)
      (Accepted (Finalized f)) ≡ true) one (floor_shown same elect fresh d now))

  -- and takes a record by rising views
  pub entries_recover : (term_length : ℕ) (floor : FloorFacts D) (copy : List (ArtifactFacts D))
      → IsNewState term_length fresh → IsNonDecreasingBy entry_view copy
      → (base : ℕ) × Recovered base copy (after_set_floor same elect fresh floor now)
      (recovered_state same elect fresh floor now copy)
  unfolding recovered_state
  entries_recover term_length floor copy new rising =
      let x = after_set_floor same elect fresh floor now in
      let start : InRecovery term_length (min_active x) 0 x =
      record {
        sound = floor_sound same elect term_length fresh floor now new;
        reached = omega arith;
        within = omega arith;
        clear = floor_clear floor;
      } in (
        min_active x,
        all_recover same elect now term_length (min_active x) new.some copy 0 x start
            (rises_from 0 copy rising (λ e h. omega arith)),
      )
