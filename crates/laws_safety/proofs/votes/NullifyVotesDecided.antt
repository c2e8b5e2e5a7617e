-- For `nullify_votes_are_decided`.
-- A state of a member with a key reports its vote to nullify a view exactly if the view's round has decided it.
use Rattle.std.proofs.Common.{◌≡◌, refl, ap, sym, ◌∙◌, subst, ℕ, ◌⊎◌, inl, inr, Bool, true, false, ◌&&◌, ◌||◌, cond, eqb, nat_le, if◌then◌else◌, List, [], ◌∷◌, None, is_some, unwrap_or, arith}
use Rattle.std.specs.List.{list_any}
use Rattle.std.specs.Ordering.{nat_cmp}
use Rattle.std.specs.BTreeSet.{insert_key}
use Rattle.std.proofs.lemmas.Bool.{cases_eq, eq-eqb, ne_eqb, eqb-true, false≢true}
use Rattle.std.proofs.lemmas.Map.Views.{any-filter_same}
use Rattle.simplex_types.specs.Certificates.{ArtifactFacts, NullifyVote}
use Rattle.simplex_types.specs.Config.{FloorFacts}
use Rattle.simplex_types.specs.declared.types.numbers.Round.{Round}
use Rattle.simplex_round.specs.Round.{RoundFacts, new_round, after_nullify, is_nullify}
use Rattle.simplex_round.specs.declared.round.Decision.TheVariants.{Nullify}
use Rattle.simplex_voter.specs.Facts.{StateFacts, Elect, round_at, round_of, round_number, with_round}
use Rattle.simplex_voter.specs.ProposalRequests.{voted_nullify}
use Rattle.simplex_voter.specs.Rules.{may_nullify}
use Rattle.simplex_voter.specs.StateAnswers.{after_prune}
use Rattle.simplex_voter.specs.Votes.{after_construct_nullify}
use Rattle.simplex_voter.specs.Windows.{min_active}
use Rattle.simplex_voter.proofs.Elsewhere.{round_of-with_round}
use Rattle.simplex_voter.proofs.Rules.{nullify_parts}
use Rattle.simplex_member.specs.OutstandingWork.{is_among}
use Rattle.simplex_record.specs.Events as event
use Rattle.simplex_record.specs.Events.{Event, IsEvent, after_event, is_prune}
use Rattle.simplex_record.specs.Start.{Setup, new_state}
use Rattle.simplex_record.proofs.Paths.{event_path, asked_of_all}
use Rattle.simplex_record.proofs.Rounds.{round_put, armed_nullify, latched_nullify, awaited_nullify}
use Rattle.simplex_record.proofs.Steps as step
use Rattle.simplex_record.proofs.Steps.{RoundStep, Step, Path, Notes, Prunes, along, nullify_by}
use Rattle.laws_safety.specs.StateLaws.{after_events, AllowsEach}
use Rattle.laws_safety.proofs.frames.EachRound.{rounds_along, pruned_round, pruned_view, prune_alone}
use Rattle.laws_safety.proofs.frames.NoLowerViews.{event_goes}
use Rattle.laws_safety.proofs.votes.OutstandingWork.{among_noted}

-- the two ways round of looking a view up
eqb_turned : (u v : ℕ) → eqb u v ≡ eqb v u
eqb_turned u v = elim (cases_eq u v) [
  | inl same ↦ eq-eqb u v same ∙ sym (eq-eqb v u (sym same))
  | inr other ↦ ne_eqb u v other ∙ sym (ne_eqb v u (λ at. other (sym at)))
]

turned : (v : ℕ) (views : List ℕ) → list_any (λ u. eqb u v) views ≡ is_among v views
turned v [] = refl
turned v (u ∷ views) = rw (eqb_turned u v, turned v views) refl

and_false : (b : Bool) → false ≡ (b && false)
and_false true = refl
and_false false = refl

-- each vote is reported if it is decided
pub record IsReplied {K L D : Type 0} (x : StateFacts K L D) : Type 0 where
  pub me : (v : ℕ) → (round_of x v).me ≡ x.me
  pub replied : (v : ℕ) → is_among v x.nullify_votes ≡ (is_some x.me && is_nullify (round_of x v).decision)

-- a round after an event: its member stays, and its vote to nullify unless the event decides it
record LeavesVote {K D : Type 0} (e : Event K D) (v : ℕ) (r s : RoundFacts K D) : Type 0 where
  me : s.me ≡ r.me
  decided : (is_nullify s.decision ≡ is_nullify r.decision) ⊎ (is_some (nullify_by e) ≡ true)

module _ {K L D : Type 0} (same : D → D → Bool) (elect : Elect L) (x : StateFacts K L D) (e : Event K D)
    (allowed : IsEvent x e) where
  abbrev after : StateFacts K L D
  after = after_event same elect x e

  path : Path same elect x e 0 x after
  path = event_path same elect 0 x e (omega arith) (asked_of_all x e)

  leaves_on : (v : ℕ) (r s t : RoundFacts K D) → LeavesVote e v r s → LeavesVote e v s t → LeavesVote e v r t
  leaves_on v r s t p q = record {
    me = q.me ∙ p.me;
    decided = elim q.decided [
      | inl still ↦ elim p.decided [ inl before ↦ inl (still ∙ before) | inr says ↦ inr says ]
      | inr says ↦ inr says
    ];
  }

  change_leaves : (y : StateFacts K L D) (v : ℕ) (r s : RoundFacts K D) → RoundStep same elect x e y v r s
      → LeavesVote e v r s
  change_leaves y v r s (step.NullifyDecided says fits) = record { me = refl; decided = inr (ap is_some says) }
  change_leaves y v r s (step.FinalizeDecided says fits) = record { me = refl; decided = inl (sym (fits allowed)) }
  change_leaves y v r s (step.Retried now interval says awaits) =
      record { me = refl; decided = inl (sym (awaited_nullify r awaits).0) }
  change_leaves y v r s (step.Entered now) = record { me = refl; decided = inl (armed_nullify r.decision _ _) }
  change_leaves y v r s (step.Latched now reason) =
      record { me = refl; decided = inl (latched_nullify r.decision (now, reason)) }
  change_leaves y v r s _ = record { me = refl; decided = inl refl }

  rounds_leave : is_prune e ≡ false → (v : ℕ) → LeavesVote e v (round_of x v) (round_of after v)
  rounds_leave no_prune v = rounds_along same elect x e 0 (LeavesVote e) leaves_on change_leaves no_prune x after path v

  abbrev NotesOnly : StateFacts K L D → Type 0
  NotesOnly y = (y.nullify_votes ≡ x.nullify_votes) ⊎ (is_some (nullify_by e) ≡ true)

  votes_stay : is_prune e ≡ false → NotesOnly after
  votes_stay no_prune = along same elect x e 0 NotesOnly keeps x after path (inl refl)
    where
      keeps : (y z : StateFacts K L D) → Step same elect x e 0 y z → NotesOnly y → NotesOnly z
      keeps y z (Notes u says) p = inr (ap is_some says)
      keeps y z (Prunes is) p = absurd (false≢true (sym no_prune ∙ is))
      keeps y z _ p = p

  -- an event that decides no vote to nullify
  silent_replied : is_prune e ≡ false → is_some (nullify_by e) ≡ false → IsReplied x → IsReplied after
  silent_replied no_prune silent is_replied = record {
    me = λ v. (rounds_leave no_prune v).me ∙ is_replied.me v ∙ sym (event_goes same elect x e).me;
    replied = λ v. among v (votes_stay no_prune) (rounds_leave no_prune v).decided;
  }
    where
      among : (v : ℕ) → NotesOnly after → (is_nullify (round_of after v).decision ≡ is_nullify (round_of x v).decision)
          ⊎ (is_some (nullify_by e) ≡ true) → is_among v
          after.nullify_votes ≡ (is_some after.me && is_nullify (round_of after v).decision)
      among v (inl votes) (inl decision) =
          ap (is_among v) votes ∙ is_replied.replied v
          ∙ sym (λ k. is_some ((event_goes same elect x e).me k) && decision k)
      among v (inr says) _ = absurd (false≢true (sym silent ∙ says))
      among v _ (inr says) = absurd (false≢true (sym silent ∙ says))

module _ {K L D : Type 0} (x : StateFacts K L D) (u : ℕ) (r : RoundFacts K D) (mine : r.me ≡ x.me)
    (decided : is_nullify r.decision ≡ true) (is_replied : IsReplied x) where
  abbrev noted : StateFacts K L D
  noted = record (with_round x u r) { nullify_votes = insert_key nat_cmp x.nullify_votes u }

  put_me : (v : ℕ) → (round_of (with_round x u r) v).me ≡ x.me
  put_me v = elim (cases_eq v u) [
    | inl at ↦ subst (λ w. (round_of (with_round x u r) w).me ≡ x.me) (sym at)
        (ap (λ (s : RoundFacts K D). s.me) (round_put x u r) ∙ mine)
    | inr apart ↦ ap (λ (s : RoundFacts K D). s.me) (round_of-with_round x v u apart r) ∙ is_replied.me v
  ]

  -- a vote that is decided and noted, by a member with a key
  noted_replied : is_some x.me ≡ true → IsReplied noted
  noted_replied keyed = record
      { me = put_me; replied = λ v. among_noted u v x.nullify_votes ∙ at_view v (cases_eq v u) }
    where
      at_view : (v : ℕ) → (v ≡ u) ⊎ ((v ≡ u) → ⊥)
          → (eqb v u || is_among v x.nullify_votes)
          ≡ (is_some x.me && is_nullify (round_of (with_round x u r) v).decision)
      at_view v (inl at) = rw (eq-eqb v u at, keyed)
          (sym (subst (λ w. is_nullify (round_of (with_round x u r) w).decision ≡ true) (sym at)
          (ap (λ (s : RoundFacts K D). is_nullify s.decision) (round_put x u r) ∙ decided)))
      at_view v (inr apart) = rw (ne_eqb v u apart, round_of-with_round x v u apart r) (is_replied.replied v)

  -- without a key the vote is decided and not cast
  unnoted_replied : is_some x.me ≡ false → IsReplied (with_round x u r)
  unnoted_replied keyless = record { me = put_me; replied = λ v. is_replied.replied v ∙ rw keyless refl }

module _ {K L D : Type 0} (same : D → D → Bool) (elect : Elect L) (x : StateFacts K L D) where
  constructed_replied : (v : ℕ) → IsReplied x → IsReplied (after_construct_nullify x v)
  constructed_replied v is_replied = by_rule (may_nullify x v) refl
    where
      decided : may_nullify x v ≡ true → is_nullify (after_nullify (round_of x v)).decision ≡ true
      decided may = rw (nullify_parts x v may).no_finalize refl

      mine : may_nullify x v ≡ true → (after_nullify (round_of x v)).me ≡ x.me
      mine may = rw (nullify_parts x v may).no_finalize (is_replied.me v)

      by_key : may_nullify x v ≡ true → (b : Bool) → is_some x.me ≡ b
          → IsReplied (if b then record (with_round x v (after_nullify (round_of x v)))
          { nullify_votes = insert_key nat_cmp x.nullify_votes v } else with_round x v (after_nullify (round_of x v)))
      by_key may true keyed = noted_replied x v (after_nullify (round_of x v)) (mine may) (decided may) is_replied keyed
      by_key may false keyless = unnoted_replied x v (after_nullify (round_of x v)) (mine may) (decided may) is_replied
          keyless

      by_rule : (b : Bool) → may_nullify x v ≡ b → IsReplied (after_construct_nullify x v)
      by_rule true may = rw may (by_key may (is_some x.me) refl)
      by_rule false may = rw may is_replied

  pruned_replied : IsReplied x → IsReplied (after_prune x)
  pruned_replied is_replied = record { me = mine; replied = λ v. kept v (nat_le (min_active x) v) refl }
    where
      mine : (v : ℕ) → (round_of (after_prune x) v).me ≡ x.me
      mine v = elim (pruned_round x v) [
        | inl stays ↦ ap (λ (r : RoundFacts K D). r.me) stays ∙ is_replied.me v
        | inr gone ↦ ap (λ o. (unwrap_or o (new_round x.me x.members (round_number x v))).me) gone.untracked
      ]

      kept : (v : ℕ) (b : Bool) → nat_le (min_active x) v ≡ b
          → is_among v (after_prune x).nullify_votes
          ≡ (is_some x.me && is_nullify (round_of (after_prune x) v).decision)
      kept v b is =
          any-filter_same (λ u. eqb v u) (λ u. nat_le (min_active x) u) b
          (λ u at. ap (nat_le (min_active x)) (sym (eqb-true v u at)) ∙ is) x.nullify_votes
          ∙ by_view b (pruned_view x v ∙ ap (λ c. cond c (round_at x v) None) is)
        where
          by_view : (b : Bool) → round_at (after_prune x) v ≡ cond b (round_at x v) None
              → (b && is_among v x.nullify_votes) ≡ (is_some x.me && is_nullify (round_of (after_prune x) v).decision)
          by_view true stays = is_replied.replied v ∙ sym
              (ap (λ o. is_some x.me && is_nullify (unwrap_or o (new_round x.me x.members (round_number x v))).decision)
              stays)
          by_view false gone = and_false (is_some x.me)
              ∙ sym (ap (λ o. is_some x.me && is_nullify
              (unwrap_or o (new_round x.me x.members (round_number x v))).decision) gone)

  abbrev replay_of : ArtifactFacts D → Event K D
  replay_of a = event.Replay a

  replayed_replied : (round : Round) (m : ℕ) → IsEvent x (replay_of (NullifyVote round m)) → IsReplied x
      → IsReplied (after_event same elect x (event.Replay (NullifyVote round m)))
  replayed_replied round m allowed is_replied =
      let mine = is_replied.me round.view in
      noted_replied x round.view (record (round_of x round.view) { decision = Nullify None }) mine refl is_replied
      (ap is_some (sym mine ∙ allowed.taken.0))

-- which events decide a vote to nullify
nullify_kind : {K D : Type 0} (e : Event K D) → is_some (nullify_by e) ≡ true
    → ((v : ℕ) × (e ≡ event.ConstructNullify v))
    ⊎ ((round : Round) × (m : ℕ) × (e ≡ event.Replay (NullifyVote round m)))
nullify_kind (event.ConstructNullify v) is = inl (v, refl)
nullify_kind (event.Replay (NullifyVote round m)) is = inr (round, m, refl)
nullify_kind _ is = absurd (false≢true is)

module _ {K L D : Type 0} (same : D → D → Bool) (elect : Elect L) where
  event_replied : (x : StateFacts K L D) (e : Event K D) → IsEvent x e → IsReplied x
      → IsReplied (after_event same elect x e)
  event_replied x e allowed is_replied = by_prune (is_prune e) refl
    where
      by_kind : ((v : ℕ) × (e ≡ event.ConstructNullify v))
          ⊎ ((round : Round) × (m : ℕ) × (e ≡ event.Replay (NullifyVote round m)))
          → IsReplied (after_event same elect x e)
      by_kind (inl (v, at)) = subst (λ (f : Event K D). IsReplied (after_event same elect x f)) (sym at)
          (constructed_replied same elect x v is_replied)
      by_kind (inr (round, m, at)) = subst (λ (f : Event K D). IsReplied (after_event same elect x f)) (sym at)
          (replayed_replied same elect x round m (subst (IsEvent x) at allowed) is_replied)

      by_vote : is_prune e ≡ false → (b : Bool) → is_some (nullify_by e) ≡ b → IsReplied (after_event same elect x e)
      by_vote no_prune true says = by_kind (nullify_kind e says)
      by_vote no_prune false silent = silent_replied same elect x e allowed no_prune silent is_replied

      by_prune : (b : Bool) → is_prune e ≡ b → IsReplied (after_event same elect x e)
      by_prune true prunes = subst IsReplied (sym (prune_alone same elect x e prunes))
          (pruned_replied same elect x is_replied)
      by_prune false no_prune = by_vote no_prune (is_some (nullify_by e)) refl

  all_replied : (x : StateFacts K L D) (events : List (Event K D)) → AllowsEach same elect x events → IsReplied x
      → IsReplied (after_events same elect x events)
  all_replied x [] allowed is_replied = is_replied
  all_replied x (e ∷ rest) allowed is_replied = all_replied (after_event same elect x e) rest allowed.1
      (event_replied x e allowed.0 is_replied)

  same_member : (x : StateFacts K L D) (events : List (Event K D)) → (after_events same elect x events).me ≡ x.me
  same_member x [] = refl
  same_member x (e ∷ rest) = same_member (after_event same elect x e) rest ∙ (event_goes same elect x e).me

  new_replied : (setup : Setup K L) → IsReplied {D = D} (new_state setup)
  new_replied setup = record { me = λ v. refl; replied = λ v. and_false (is_some setup.me) }

  pub votes_are_decided : (setup : Setup K L) (floor : FloorFacts D) (now : ℕ) (events : List (Event K D)) (v : ℕ)
      → AllowsEach same elect (new_state setup) (event.SetFloor floor now ∷ events)
      → voted_nullify (after_events same elect (new_state setup) (event.SetFloor floor now ∷ events)) v
      ≡ (is_some setup.me && is_nullify
      (round_of (after_events same elect (new_state setup) (event.SetFloor floor now ∷ events)) v).decision)
  votes_are_decided setup floor now events v allowed =
      let all : List (Event K D) = event.SetFloor floor now ∷ events in
      let y = after_events same elect (new_state setup) all in
      turned v y.nullify_votes ∙ (all_replied (new_state setup) all allowed (new_replied setup)).replied v
      ∙ ap (λ o. is_some o && is_nullify (round_of y v).decision) (same_member (new_state setup) all)
