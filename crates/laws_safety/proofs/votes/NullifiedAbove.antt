-- For `nullify_votes_are_decided`.
-- No nullification and no vote to nullify is of genesis.
use Rattle.std.proofs.Common.{◌≡◌, refl, sym, ap, subst, ℕ, ◌≤◌, ◌⊎◌, inl, inr, Bool, true, false, ◌&&◌, ◌==◌, nat_le, if◌then◌else◌, List, [], ◌∷◌, Some, is_some, arith}
use Rattle.std.specs.List.{All}
use Rattle.std.specs.Ordering.{nat_cmp}
use Rattle.std.specs.BTreeSet.{insert_key}
use Rattle.std.proofs.lemmas.Bool.{false≢true, eqb-true}
use Rattle.std.proofs.lemmas.Bool.Decides.{nat_tests}
use Rattle.std.proofs.lemmas.List.Elements.{All-filter}
use Rattle.std.proofs.lemmas.Map.Views.{All-insert_key}
use Rattle.simplex_types.specs.Certificates.{NullifyVote, Accepted, Nullified}
use Rattle.simplex_types.specs.Config.{FloorFacts}
use Rattle.simplex_types.specs.declared.types.numbers.Round.{Round}
use Rattle.simplex_voter.specs.Acceptance.{after_set_floor}
use Rattle.simplex_voter.specs.Facts.{StateFacts, Elect, round_of, with_round}
use Rattle.simplex_round.specs.Round.{after_nullify}
use Rattle.simplex_voter.specs.Refusals.{is_started, takes_round}
use Rattle.simplex_voter.specs.Rules.{may_nullify}
use Rattle.simplex_voter.specs.Votes.{after_construct_nullify, nullify_cast}
use Rattle.simplex_voter.specs.Windows.{min_active}
use Rattle.simplex_voter.proofs.Gaps.{and_parts}
use Rattle.simplex_voter.proofs.Rules.{nullify_parts}
use Rattle.simplex_record.specs.Events as event
use Rattle.simplex_record.specs.Events.{Event, IsEvent, after_event, covers_from}
use Rattle.simplex_record.specs.Start.{Setup, new_state}
use Rattle.simplex_record.proofs.Paths.{event_path, asked_of_all}
use Rattle.simplex_record.proofs.Steps.{Step, Covers, Notes, Prunes, along, nullify_by}
use Rattle.laws_safety.specs.StateLaws.{after_events, AllowsEach, AboveGenesis}
use Rattle.laws_safety.proofs.frames.Sound.{IsAhead, event_ahead}
use Rattle.laws_safety.proofs.lives.ViewTimeouts.{new_times_out}

module _ {K L D : Type 0} (x : StateFacts K L D) where
  -- a round that is taken lies above genesis
  taken_above : (round : Round) → takes_round x round ≡ true → 1 ≤ round.view
  taken_above round is =
      let view = (and_parts (is_started x && round.epoch == x.settings.epoch)
      (nat_le 1 round.view && nat_le (min_active x) round.view) is).1 in
      let above = (and_parts (nat_le 1 round.view) (nat_le (min_active x) round.view) view).0 in
      grind (arith, nat_tests)

  -- so does each view that an event nullifies
  covered_above : (e : Event K D) → IsEvent x e → (u : ℕ) → covers_from u e ≡ true → 1 ≤ u
  covered_above (event.AddNullification c now) allowed u is =
      subst (λ v. 1 ≤ v) (sym (eqb-true u c.round.view is)) (taken_above c.round allowed)
  covered_above (event.Replay (Accepted (Nullified c))) allowed u is =
      subst (λ v. 1 ≤ v) (sym (eqb-true u c.round.view is)) (taken_above c.round allowed.kept)
  covered_above _ allowed u is = absurd (false≢true is)

-- an event builds a vote to nullify, or replays one, or does neither
vote_above : {K L D : Type 0} (x : StateFacts K L D) (e : Event K D) → IsEvent x e
    → ((v : ℕ) × (e ≡ event.ConstructNullify v)) ⊎ ((u : ℕ) → nullify_by e ≡ Some u → 1 ≤ u)
vote_above x (event.ConstructNullify v) allowed = inl (v, refl)
vote_above x (event.Replay (NullifyVote round m)) allowed =
    inr (λ u says. (let at : round.view ≡ u = cc in subst (λ v. 1 ≤ v) at (taken_above x round allowed.kept)))
vote_above x _ allowed = inr (λ u says. absurd (false≢true (ap is_some says)))

module _ {K L D : Type 0} (same : D → D → Bool) (elect : Elect L) where
  constructed_above : (x : StateFacts K L D) (v : ℕ) → IsAhead x → AboveGenesis x
      → AboveGenesis (after_construct_nullify x v)
  constructed_above x v ahead kept = by_rule (may_nullify x v) refl
    where
      by_key : 1 ≤ v → (b : Bool) → All (λ u. 1 ≤ u)
          (if b then insert_key nat_cmp x.nullify_votes v else x.nullify_votes)
      by_key above true = All-insert_key nat_cmp v (λ u. 1 ≤ u) x.nullify_votes kept.nullify_votes above
      by_key above false = kept.nullify_votes

      by_rule : (b : Bool) → may_nullify x v ≡ b → AboveGenesis (after_construct_nullify x v)
      by_rule false may = rw may kept
      by_rule true may =
          let current = (nullify_parts x v may).current in
          rw may (noted (is_some x.me) refl (by_key (omega (arith, current, ahead))))
        where
          noted : (b : Bool) → is_some x.me ≡ b →
              ((c : Bool) → All (λ u. 1 ≤ u) (if c then insert_key nat_cmp x.nullify_votes v else x.nullify_votes))
              → AboveGenesis (nullify_cast (with_round x v (after_nullify (round_of x v))) v)
          noted true keyed votes = rw keyed (record { nullified = kept.nullified; nullify_votes = votes true })
          noted false keyless votes = rw keyless (record { nullified = kept.nullified; nullify_votes = votes false })

  event_above : (x : StateFacts K L D) (e : Event K D) → IsEvent x e → IsAhead x → AboveGenesis x
      → AboveGenesis (after_event same elect x e)
  event_above x e allowed ahead kept = elim (vote_above x e allowed) [
    | inl (v, at) ↦ subst (λ (f : Event K D). AboveGenesis (after_event same elect x f)) (sym at)
        (constructed_above x v ahead kept)
    | inr above ↦ along same elect x e 0 AboveGenesis (keeps above) x (after_event same elect x e)
        (event_path same elect 0 x e (omega arith) (asked_of_all x e)) kept
  ]
    where
      keeps : ((u : ℕ) → nullify_by e ≡ Some u → 1 ≤ u) → (y z : StateFacts K L D) → Step same elect x e 0 y z
          → AboveGenesis y → AboveGenesis z
      keeps above y z (Covers u covers) p = record {
        nullified = All-insert_key nat_cmp u (λ w. 1 ≤ w) y.nullified p.nullified
            (covered_above x e allowed u covers);
        nullify_votes = p.nullify_votes;
      }
      keeps above y z (Notes u says) p = record {
        nullified = p.nullified;
        nullify_votes =
            All-insert_key nat_cmp u (λ w. 1 ≤ w) y.nullify_votes p.nullify_votes (above u says);
      }
      keeps above y z (Prunes is) p = record {
        nullified = All-filter _ (λ w. 1 ≤ w) y.nullified p.nullified;
        nullify_votes = All-filter _ (λ w. 1 ≤ w) y.nullify_votes p.nullify_votes;
      }
      keeps above y z _ p = record { nullified = p.nullified; nullify_votes = p.nullify_votes }

  all_above : (x : StateFacts K L D) (events : List (Event K D)) → AllowsEach same elect x events → IsAhead x
      → AboveGenesis x → AboveGenesis (after_events same elect x events)
  all_above x [] allowed ahead kept = kept
  all_above x (e ∷ rest) allowed ahead kept =
      all_above (after_event same elect x e) rest allowed.1 (event_ahead same elect x e (inl ahead))
      (event_above x e allowed.0 ahead kept)

  -- setting a floor nullifies nothing
  floor_above : (setup : Setup K L) (floor : FloorFacts D) (now : ℕ)
      → AboveGenesis (after_set_floor same elect (new_state setup) floor now)
  floor_above setup floor now =
      let x : StateFacts K L D = new_state setup in
      let e : Event K D = event.SetFloor floor now in
      along same elect x e 0 AboveGenesis keeps x (after_event same elect x e)
      (event_path same elect 0 x e (omega arith) (asked_of_all x e))
      (record {
        nullified = λ k d within. absurd (omega (arith, within));
        nullify_votes = λ k d within. absurd (omega (arith, within));
      })
    where
      keeps : (y z : StateFacts K L D) → Step same elect (new_state setup) (event.SetFloor floor now) 0 y z
          → AboveGenesis y → AboveGenesis z
      keeps y z (Covers u covers) p = absurd (false≢true covers)
      keeps y z (Notes u says) p = absurd (false≢true (ap is_some says))
      keeps y z (Prunes is) p = absurd (false≢true is)
      keeps y z _ p = record { nullified = p.nullified; nullify_votes = p.nullify_votes }

  pub nullifies_above : (setup : Setup K L) (floor : FloorFacts D) (now : ℕ) (events : List (Event K D))
      → AllowsEach same elect (after_set_floor same elect (new_state setup) floor now) events
      → AboveGenesis (after_events same elect (after_set_floor same elect (new_state setup) floor now) events)
  nullifies_above setup floor now events allowed =
      all_above (after_set_floor same elect (new_state setup) floor now) events allowed
      (new_times_out same elect setup.settings setup.me setup.members setup.elector setup.terms setup.elects_early floor
      now).ahead (floor_above setup floor now)
