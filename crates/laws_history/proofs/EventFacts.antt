-- What an event says is what it adds to a state's facts.
use Rattle.std.proofs.Common.{◌≡◌, ◌⊎◌, refl, ap, sym, ◌∙◌, ℕ, ◌≤◌, max, Bool, false, ◌||◌, eqb, if◌then◌else◌, Option, Some, None, is_some, unwrap_or, arith, inl, inr}
use Rattle.std.specs.Option.{option_or}
use Rattle.std.proofs.lemmas.Bool.{cases_eq, ne_eqb}
use Rattle.simplex_round.specs.Round.{RoundFacts, new_round}
use Rattle.simplex_voter.specs.Facts.{StateFacts, Elect, round_at, round_of, round_number, is_tracked, with_round}
use Rattle.simplex_voter.specs.Windows.{min_active}
use Rattle.simplex_member.specs.OutstandingWork.{is_among}
use Rattle.simplex_record.specs.Events.{Event, covers_from, finalized_by_event, is_prune}
use Rattle.laws_history.specs.HistoryFolds.{brings_notarization, brings_nullification, brings_finalization, verdict_of_event, sets_genesis, entered_by, moment_by, or_new}
use Rattle.laws_history.specs.OwnWork.{contradicts, returns_notarization, returns_nullification, returns_finalization, decides_nullify, casts_nullify, first_certificate_by, hears_of, decides_finalize, decides_notarize, owns}
use Rattle.simplex_record.proofs.RoundChanges.{round_of-put, round_of-same}
use Rattle.laws_history.proofs.UnchangedHistories.{Known, known_of_round, UnchangedKnown, UnchangedButNumbers, UnchangedHistory, quiet}

-- the lowest view that an event leaves
abbrev pub left_from : {K L D : Type 0} → StateFacts K L D → Event K D → ℕ
left_from x e = if is_prune e then min_active x else 0

module _ {K L D : Type 0} (same : D → D → Bool) (elect : Elect L) where
  -- what is known of a view, with what an event says of it
  abbrev pub adds : StateFacts K L D → Event K D → ℕ → Known D → Known D
  adds x e v k = record {
    notarization = or_new k.notarization (brings_notarization v e);
    nullification = or_new k.nullification (brings_nullification v e);
    finalization = or_new k.finalization (brings_finalization v e);
    verdict = or_new k.verdict (verdict_of_event (is_tracked x) v e);
    notarization_broadcast = returns_notarization v x e || k.notarization_broadcast;
    nullification_broadcast = returns_nullification v x e || k.nullification_broadcast;
    finalization_broadcast = returns_finalization v x e || k.finalization_broadcast;
    notarize_decided = decides_notarize same elect v x e || k.notarize_decided;
    nullify_decided = decides_nullify v x e || k.nullify_decided;
    finalize_decided = decides_finalize same elect v x e || k.finalize_decided;
    held = option_or (first_certificate_by v x e) (or_new k.held (option_or (hears_of v x e) (owns same elect v x e)));
    conflict = contradicts same k.held (option_or (first_certificate_by v x e) (hears_of v x e)) || k.conflict;
  }

  -- an event says nothing of a view
  abbrev pub IsElsewhere : StateFacts K L D → Event K D → ℕ → Type 0
  IsElsewhere x e v = (k : Known D) → adds x e v k ≡ k

  -- the facts after an event are those before with what it says
  pub record FollowsEvent (e : Event K D) (x y : StateFacts K L D) : Type 0 where
    pub settings : y.settings ≡ x.settings
    pub terms : y.terms ≡ x.terms
    pub genesis : y.genesis ≡ option_or (sets_genesis e) x.genesis
    pub moment : y.moment ≡ unwrap_or (moment_by e) x.moment
    pub current : y.current ≡ max x.current (entered_by x.terms.term_length (is_tracked x) e)
    pub finalized : y.finalized ≡ max x.finalized (finalized_by_event e)
    pub nullified : (v : ℕ) → left_from x e ≤ v → is_among v y.nullified ≡ (covers_from v e || is_among v x.nullified)
    pub nullify_votes : (v : ℕ) → left_from x e ≤ v
        → is_among v y.nullify_votes ≡ (casts_nullify v x e || is_among v x.nullify_votes)
    pub rounds : (v : ℕ) → left_from x e ≤ v
        → known_of_round (round_of y v) ≡ adds x e v (known_of_round (round_of x v))

-- what an event says beside rounds and moments
pub record Said (D : Type 0) : Type 0 where
  pub genesis : Option D
  pub entered : ℕ
  pub finalized : ℕ
  pub nullified : ℕ → Bool
  pub nullify_voted : ℕ → Bool

module _ {K L D : Type 0} where
  -- an event says nothing but of rounds
  abbrev pub IsOfRounds : StateFacts K L D → Event K D → Type 0
  IsOfRounds x e =
      ◌≡◌ {A = Said D}
      (record {
        genesis = sets_genesis e;
        entered = entered_by x.terms.term_length (is_tracked x) e;
        finalized = finalized_by_event e;
        nullified = λ v. covers_from v e;
        nullify_voted = λ v. casts_nullify v x e;
      })
      (record { genesis = None; entered = 0; finalized = 0; nullified = λ v. false; nullify_voted = λ v. false })

module _ {K L D : Type 0} (same : D → D → Bool) (elect : Elect L) (x : StateFacts K L D) (e : Event K D) where
  -- between changes that leave a round alike
  pub added_between : (v : ℕ) (q r s t : RoundFacts K D) → UnchangedKnown q r
      → known_of_round s ≡ adds same elect x e v (known_of_round r) → UnchangedKnown s t
      → known_of_round t ≡ adds same elect x e v (known_of_round q)
  added_between v q r s t before added after = after ∙ added ∙ ap (adds same elect x e v) before

  pub nothing_added : (v : ℕ) → IsElsewhere same elect x e v → (r s : RoundFacts K D) → UnchangedKnown r s
      → known_of_round s ≡ adds same elect x e v (known_of_round r)
  nothing_added v silent r s alike = alike ∙ sym (silent (known_of_round r))

  -- what is put at the one view that an event speaks of, between changes that leave the rounds alike
  pub put_between : (y z : StateFacts K L D) (v : ℕ) (r : RoundFacts K D)
      → ((w : ℕ) → UnchangedKnown (round_of x w) (round_of y w))
      → known_of_round r ≡ adds same elect x e v (known_of_round (round_of y v))
      → ((w : ℕ) → eqb w v ≡ false → IsElsewhere same elect x e w)
      → ((w : ℕ) → UnchangedKnown (round_of (with_round y v r) w) (round_of z w)) → (w : ℕ)
      → known_of_round (round_of z w) ≡ adds same elect x e w (known_of_round (round_of x w))
  put_between y z v r before added elsewhere after w =
      added_between w (round_of x w) (round_of y w) (round_of (with_round y v r) w) (round_of z w) (before w)
      (put (cases_eq w v)) (after w)
    where
      put : ((w ≡ v) ⊎ (w ≡ v → ⊥)) → known_of_round (round_of (with_round y v r) w) ≡ adds same elect x e w
          (known_of_round (round_of y w))
      put (inl here) = rw (here, round_of-same y v r) added
      put (inr apart) = rw (round_of-put y w v r, ne_eqb w v apart)
          (sym (elsewhere w (ne_eqb w v apart) (known_of_round (round_of y w))))

  -- the same, where nothing else changes
  pub put_alone : (v : ℕ) (r : RoundFacts K D)
      → known_of_round r ≡ adds same elect x e v (known_of_round (round_of x v))
      → ((w : ℕ) → eqb w v ≡ false → IsElsewhere same elect x e w) → (w : ℕ)
      → known_of_round (round_of (with_round x v r) w) ≡ adds same elect x e w (known_of_round (round_of x w))
  put_alone v r added elsewhere w = put_between x (with_round x v r) v r (λ u. refl) added elsewhere (λ u. refl) w

module _ {K L D : Type 0} (same : D → D → Bool) (elect : Elect L) (x : StateFacts K L D) (e : Event K D)
    (only : IsOfRounds x e) where
  no_genesis : sets_genesis e ≡ None
  no_genesis = ap (λ (s : Said D). s.genesis) only

  none_entered : entered_by x.terms.term_length (is_tracked x) e ≡ 0
  none_entered = ap (λ (s : Said D). s.entered) only

  none_finalized : finalized_by_event e ≡ 0
  none_finalized = ap (λ (s : Said D). s.finalized) only

  none_nullified : (w : ℕ) → covers_from w e ≡ false
  none_nullified w = ap (λ (s : Said D). s.nullified w) only

  no_nullify_vote : (w : ℕ) → casts_nullify w x e ≡ false
  no_nullify_vote w = ap (λ (s : Said D). s.nullify_voted w) only

  -- the one view that the event speaks of has its round put, between changes that leave the rounds alike
  pub put_follows : (y z : StateFacts K L D) (v : ℕ) (r : RoundFacts K D)
      → UnchangedButNumbers (unwrap_or (moment_by e) x.moment) x.current x.finalized x y
      → known_of_round r ≡ adds same elect x e v (known_of_round (round_of y v))
      → ((w : ℕ) → eqb w v ≡ false → IsElsewhere same elect x e w) → UnchangedHistory (with_round y v r) z
      → FollowsEvent same elect e x z
  put_follows y z v r before added elsewhere after = record {
    settings = after.settings ∙ before.settings;
    terms = after.terms ∙ before.terms;
    genesis = after.genesis ∙ before.genesis ∙ sym (ap (λ o. option_or o x.genesis) no_genesis);
    moment = after.moment_is ∙ before.moment_is;
    current = after.current_is ∙ before.current_is ∙ omega (arith, none_entered);
    finalized = after.finalized_is ∙ before.finalized_is ∙ omega (arith, none_finalized);
    nullified = λ w _. ap (λ views. is_among w views) (after.nullified ∙ before.nullified)
        ∙ sym (ap (λ b. b || is_among w x.nullified) (none_nullified w));
    nullify_votes = λ w _. ap (λ views. is_among w views) (after.nullify_votes ∙ before.nullify_votes)
        ∙ sym (ap (λ b. b || is_among w x.nullify_votes) (no_nullify_vote w));
    rounds = λ w _. put_between same elect x e y z v r before.rounds added elsewhere after.rounds w;
  }

  -- the same, where nothing else changes
  pub round_follows : (v : ℕ) (r : RoundFacts K D) → moment_by e ≡ None
      → known_of_round r ≡ adds same elect x e v (known_of_round (round_of x v))
      → ((w : ℕ) → eqb w v ≡ false → IsElsewhere same elect x e w) → FollowsEvent same elect e x (with_round x v r)
  round_follows v r timeless added elsewhere =
      put_follows x (with_round x v r) v r (rw timeless (quiet x)) added elsewhere (quiet (with_round x v r))

  -- it says nothing of rounds either
  pub silent_follows : (y : StateFacts K L D) → ((v : ℕ) → IsElsewhere same elect x e v)
      → UnchangedButNumbers (unwrap_or (moment_by e) x.moment) x.current x.finalized x y → FollowsEvent same elect e x y
  silent_follows y silent leaves = record {
    settings = leaves.settings;
    terms = leaves.terms;
    genesis = leaves.genesis ∙ sym (ap (λ o. option_or o x.genesis) no_genesis);
    moment = leaves.moment_is;
    current = leaves.current_is ∙ omega (arith, none_entered);
    finalized = leaves.finalized_is ∙ omega (arith, none_finalized);
    nullified = λ v _. ap (λ views. is_among v views) leaves.nullified
        ∙ sym (ap (λ b. b || is_among v x.nullified) (none_nullified v));
    nullify_votes = λ v _. ap (λ views. is_among v views) leaves.nullify_votes
        ∙ sym (ap (λ b. b || is_among v x.nullify_votes) (no_nullify_vote v));
    rounds = λ v _. nothing_added same elect x e v (silent v) (round_of x v) (round_of y v) (leaves.rounds v);
  }

  -- a certificate is returned where its view is tracked; where it isn't, there is none
  pub handed_follows : (v : ℕ) (r : RoundFacts K D) → moment_by e ≡ None
      → known_of_round r ≡ adds same elect x e v (known_of_round (round_of x v))
      → ((w : ℕ) → eqb w v ≡ false → IsElsewhere same elect x e w)
      → (round_of x v ≡ new_round x.me x.members (round_number x v) → (w : ℕ) → IsElsewhere same elect x e w)
      → FollowsEvent same elect e x (if is_tracked x v then with_round x v r else x)
  handed_follows v r timeless added elsewhere never = by_round (round_at x v) refl
    where
      by_round : (o : Option (RoundFacts K D)) → round_at x v ≡ o
          → FollowsEvent same elect e x (if is_some o then with_round x v r else x)
      by_round (Some _) found = round_follows v r timeless added elsewhere
      by_round None none = silent_follows x
          (never (ap (λ o. unwrap_or o (new_round x.me x.members (round_number x v))) none)) (rw timeless (quiet x))
