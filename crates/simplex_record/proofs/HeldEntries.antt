-- What a state holds of its views is in the entries that it took, and their notarizations are in the state.
use Rattle.std.proofs.Common.{◌≡◌, ◌⊎◌, refl, sym, ◌∙◌, ℕ, ◌+◌, ◌≤◌, Bool, true, false, ◌&&◌, ◌==◌, cond, List, ◌∷◌, Option, Some, None, is_some, arith, inl, inr}
use Rattle.std.proofs.lemmas.Bool.{cases_eq, eq-eqb, ne_eqb, eqb-true, or_cases, or_right}
use Rattle.simplex_types.specs.Proposal.{same_proposal}
use Rattle.simplex_types.specs.Certificates.{ArtifactFacts, NotarizeVote, NullifyVote, FinalizeVote, Verdict, Accepted, Notarized, Nullified, Finalized}
use Rattle.simplex_types.specs.declared.types.numbers.Round.{Round}
use Rattle.simplex_round.specs.Round.{RoundFacts, certified_round, is_judged, is_nullify, is_finalize}
use Rattle.simplex_round.specs.declared.round.Decision.TheVariants.{Nullify, Finalize}
use Rattle.simplex_voter.specs.Facts.{StateFacts, Elect, round_of, is_tracked, with_round}
use Rattle.simplex_voter.specs.Windows.{min_active}
use Rattle.simplex_voter.specs.ViewEntry.{at_moment}
use Rattle.simplex_voter.specs.Leaders.{with_elected_leader}
use Rattle.simplex_voter.specs.Certification.{with_verdict, verdict_taken}
use Rattle.simplex_voter.specs.Acceptance.{with_notarization_at}
use Rattle.simplex_voter.specs.Replay.{replayed_sets}
use Rattle.simplex_record.specs.Entries.{entry_view}
use Rattle.simplex_record.specs.Check.{stands, is_notarization, is_verdict, is_nullify_vote as nullifies, is_finalize_vote as finalizes}
use Rattle.simplex_record.specs.Recovery.{as_artifact, after_adding, after_replaying, after_verdict_of}
use Rattle.simplex_record.proofs.RoundChanges.{RoundGrows, round_of-put, round_of-same, notarization_stands}
use Rattle.simplex_record.proofs.StateChanges.{GrowsUpTo, kept_along, event_kept, added_kept}
use Rattle.simplex_record.specs.Events.{TryPropose, Replay}
use Rattle.simplex_record.proofs.Steps.{Still}
use Rattle.simplex_record.proofs.Paths.{from_notarized, from_judged}

both_true : (a b : Bool) → (a && b) ≡ true → (a ≡ true) × (b ≡ true)
both_true true b h = (refl, h)
both_true false b h = absurd cc

module _ {D : Type 0} where
  -- there is an entry of a kind from then on
  stands_here : (k : ArtifactFacts D → Bool) (e : ArtifactFacts D) (before : List (ArtifactFacts D)) → k e ≡ true
      → stands (entry_view e) k (e ∷ before) ≡ true
  stands_here k e before is = rw (eq-eqb (entry_view e) (entry_view e) refl, is) refl

  stands_on : (v : ℕ) (k : ArtifactFacts D → Bool) (e : ArtifactFacts D) (before : List (ArtifactFacts D))
      → stands v k before ≡ true → stands v k (e ∷ before) ≡ true
  stands_on v k e before there = or_right (entry_view e == v && k e) (stands v k before) there

  -- it is the newest, or was there before
  stands_where : (v : ℕ) (k : ArtifactFacts D → Bool) (e : ArtifactFacts D) (before : List (ArtifactFacts D))
      → stands v k (e ∷ before) ≡ true → ((v ≡ entry_view e) × (k e ≡ true)) ⊎ (stands v k before ≡ true)
  stands_where v k e before there = elim (or_cases (entry_view e == v && k e) (stands v k before) there) [
    | inl here ↦ let both = both_true (entry_view e == v) (k e) here in
        inl (sym (eqb-true (entry_view e) v both.0), both.1)
    | inr behind ↦ inr behind
  ]

module _ {K D : Type 0} where
  -- a view's round and the entries of that view; a notarization may be missing if the view is no longer retained
  pub record Bears (signs : Option ℕ) (lowest : ℕ) (before : List (ArtifactFacts D)) (v : ℕ) (r : RoundFacts K D) : Type
      0 where
    pub me : r.me ≡ signs
    pub notarized : lowest ≤ v → stands v is_notarization before ≡ true → is_some r.notarization ≡ true
    pub judged : (b : Bool) → is_judged b r.certification ≡ true → stands v (is_verdict b) before ≡ true
    pub nullified : is_nullify r.decision ≡ true → stands v nullifies before ≡ true
    pub finalized : is_finalize r.decision ≡ true → stands v finalizes before ≡ true

  bears_grown : (signs : Option ℕ) (lowest : ℕ) (before : List (ArtifactFacts D)) (v : ℕ) (r s : RoundFacts K D)
      → RoundGrows r s → Bears signs lowest before v r → Bears signs lowest before v s
  bears_grown signs lowest before v r s g b = record {
    me = g.me ∙ b.me;
    notarized = λ low there. g.notarized (b.notarized low there);
    judged = λ success is. b.judged success (sym (g.judged success) ∙ is);
    nullified = λ is. b.nullified (sym g.nullified ∙ is);
    finalized = λ is. b.finalized (sym g.finalized ∙ is);
  }

module _ {K L D : Type 0} where
  -- of every view
  abbrev pub BearsAll : List (ArtifactFacts D) → StateFacts K L D → Type 0
  BearsAll before x = (v : ℕ) → Bears x.me (min_active x) before v (round_of x v)

  -- unchanged parts of a state match the same entries
  pub bears_kept : (u : ℕ) (before : List (ArtifactFacts D)) (x y : StateFacts K L D) → GrowsUpTo u x y
      → BearsAll before x → BearsAll before y
  bears_kept u before x y k bears v =
      let b = bears_grown x.me (min_active x) before v (round_of x v) (round_of y v) (k.rounds v) (bears v) in
      record {
        me = b.me ∙ sym k.me;
        notarized = λ low there. b.notarized (omega (arith, k.rises)) there;
        judged = b.judged;
        nullified = b.nullified;
        finalized = b.finalized;
      }

  -- another round at a view
  bears_put : (before : List (ArtifactFacts D)) (x : StateFacts K L D) (w : ℕ) (r : RoundFacts K D) → BearsAll before x
      → Bears x.me (min_active x) before w r → BearsAll before (with_round x w r)
  bears_put before x w r bears b v = elim (cases_eq v w) [
    | inl at ↦ rw (at, round_of-same x w r) b
    | inr apart ↦ rw (round_of-put x v w r, ne_eqb v w apart) (bears v)
  ]

  -- an entry that is skipped, or no notarization
  pub bears_on : (before : List (ArtifactFacts D)) (e : ArtifactFacts D) (x : StateFacts K L D)
      → (min_active x ≤ entry_view e → is_notarization e ≡ true
      → is_some (round_of x (entry_view e)).notarization ≡ true) → BearsAll before x → BearsAll (e ∷ before) x
  bears_on before e x here bears v =
      let b = bears v in
      record {
        me = b.me;
        notarized = λ low there. elim (stands_where v is_notarization e before there) [
          | inl newest ↦ rw newest.0 (here (rw newest.0 at low) newest.1)
          | inr behind ↦ b.notarized low behind
        ];
        judged = λ success is. stands_on v (is_verdict success) e before (b.judged success is);
        nullified = λ is. stands_on v nullifies e before (b.nullified is);
        finalized = λ is. stands_on v finalizes e before (b.finalized is);
      }

module _ {K D : Type 0} (signs : Option ℕ) (lowest : ℕ) (before : List (ArtifactFacts D)) (round : Round)
    (success : Bool) where
  -- the verdict of the newest entry
  verdict_borne : (r : RoundFacts K D) → Bears signs lowest (Verdict round success ∷ before) round.view r
      → Bears signs lowest (Verdict round success ∷ before) round.view (certified_round r success)
  verdict_borne r b = record {
    me = b.me;
    notarized = b.notarized;
    judged = λ given. is_this success given;
    nullified = b.nullified;
    finalized = b.finalized;
  }
    where
      is_this : (success given : Bool) → is_judged given (certified_round r success).certification ≡ true
          → stands round.view (is_verdict given) (Verdict round success ∷ before) ≡ true
      is_this true true is = stands_here (is_verdict true) (Verdict round true) before refl
      is_this true false is = absurd cc
      is_this false true is = absurd cc
      is_this false false is = stands_here (is_verdict false) (Verdict round false) before refl

module _ {K L D : Type 0} (same : D → D → Bool) (elect : Elect L) where
  -- a notarization that is added is there
  added_notarized : (x : StateFacts K L D) (now : ℕ) (e : ArtifactFacts D) → is_notarization e ≡ true
      → is_some (round_of (after_adding same elect x now e) (entry_view e)).notarization ≡ true
  added_notarized x now (Accepted (Notarized c)) is =
      let v = c.proposal.round.view in
      let y = with_elected_leader elect x (v + 1) (Some c.bytes) in
      let z = with_notarization_at same elect y c in
      let here : is_some (round_of z v).notarization ≡ true =
      rw (round_of-same y v _) (notarization_stands (same_proposal same) (round_of y v) c) in
      ((kept_along v same elect x TryPropose (record { verdict = refl; nullify = refl; finalize = refl; other = refl })
      (omega arith) z _ (from_notarized c (omega arith) Still)).rounds v).notarized here
  added_notarized x now (Accepted (Nullified c)) is = absurd cc
  added_notarized x now (Accepted (Finalized c)) is = absurd cc
  added_notarized x now (NotarizeVote p m) is = absurd cc
  added_notarized x now (NullifyVote r m) is = absurd cc
  added_notarized x now (FinalizeVote p m) is = absurd cc
  added_notarized x now (Verdict r success) is = absurd cc

  pub added_bears : (before : List (ArtifactFacts D)) (x : StateFacts K L D) (now : ℕ) (e : ArtifactFacts D)
      → BearsAll before x → BearsAll (e ∷ before) (after_adding same elect x now e)
  added_bears before x now e bears =
      bears_on before e (after_adding same elect x now e) (λ _. added_notarized x now e)
      (bears_kept (entry_view e) before x (after_adding same elect x now e) (added_kept same elect x now e) bears)

  pub replayed_bears : (before : List (ArtifactFacts D)) (x : StateFacts K L D) (e : ArtifactFacts D)
      → BearsAll (e ∷ before) x → BearsAll (e ∷ before) (after_replaying same elect x e)
  replayed_bears before x (NotarizeVote p m) bears =
      let v = p.round.view in
      bears_kept v (NotarizeVote p m ∷ before) x _
      (event_kept same elect v x (Replay (NotarizeVote p m))
      (record { verdict = refl; nullify = refl; finalize = refl; other = refl }) (omega arith)) bears
  replayed_bears before x (NullifyVote r m) bears =
      let e : ArtifactFacts D = NullifyVote r m in
      let b = bears r.view in
      bears_put (e ∷ before) (replayed_sets x (as_artifact {K = K} e)) r.view
      (record (round_of x r.view) { decision = Nullify None }) bears
      (record {
        me = b.me;
        notarized = b.notarized;
        judged = b.judged;
        nullified = λ _. stands_here nullifies e before refl;
        finalized = λ is. absurd cc;
      })
  replayed_bears before x (FinalizeVote p m) bears =
      let e : ArtifactFacts D = FinalizeVote p m in
      let b = bears p.round.view in
      bears_put (e ∷ before) x p.round.view (record (round_of x p.round.view) { decision = Finalize }) bears
      (record {
        me = b.me;
        notarized = b.notarized;
        judged = b.judged;
        nullified = λ is. absurd cc;
        finalized = λ _. stands_here finalizes e before refl;
      })
  replayed_bears before x (Verdict r success) bears =
      bears_put (Verdict r success ∷ before) x r.view (certified_round (round_of x r.view) success) bears
      (verdict_borne x.me (min_active x) before r success (round_of x r.view) (bears r.view))
  replayed_bears before x (Accepted (Notarized c)) bears =
      let b = bears c.proposal.round.view in
      bears_put (Accepted (Notarized c) ∷ before) x c.proposal.round.view _ bears
      (record
      { me = b.me; notarized = b.notarized; judged = b.judged; nullified = b.nullified; finalized = b.finalized })
  replayed_bears before x (Accepted (Nullified c)) bears =
      let e : ArtifactFacts D = Accepted (Nullified c) in
      let b = bears c.round.view in
      bears_put (e ∷ before) (replayed_sets x (as_artifact {K = K} e)) c.round.view _ bears
      (record
      { me = b.me; notarized = b.notarized; judged = b.judged; nullified = b.nullified; finalized = b.finalized })
  replayed_bears before x (Accepted (Finalized c)) bears =
      let b = bears c.proposal.round.view in
      bears_put (Accepted (Finalized c) ∷ before) x c.proposal.round.view _ bears
      (record
      { me = b.me; notarized = b.notarized; judged = b.judged; nullified = b.nullified; finalized = b.finalized })

module _ {K L D : Type 0} (same : D → D → Bool) (elect : Elect L) where
  given_verdict : (before : List (ArtifactFacts D)) (x : StateFacts K L D) (now : ℕ) (r : Round) (success : Bool)
      → BearsAll (Verdict r success ∷ before) (with_verdict (at_moment x now) r.view success)
      → BearsAll (Verdict r success ∷ before) (verdict_taken elect (at_moment x now) r.view success now)
  given_verdict before x now r success bears =
      bears_kept r.view (Verdict r success ∷ before) _ _
      (kept_along r.view same elect x TryPropose
      (record { verdict = refl; nullify = refl; finalize = refl; other = refl }) (omega arith) _ _
      (from_judged r.view success now)) bears

  pub given_bears : (before : List (ArtifactFacts D)) (x : StateFacts K L D) (now : ℕ) (e : ArtifactFacts D)
      → BearsAll (e ∷ before) x → BearsAll (e ∷ before) (after_verdict_of elect x now e)
  given_bears before x now (Verdict r success) bears =
      elim (is_tracked x r.view) as (λ t. BearsAll (Verdict r success ∷ before)
      (cond t (verdict_taken elect (at_moment x now) r.view success now) (at_moment x now))) [
        | true ↦ given_verdict before x now r success
            (bears_put (Verdict r success ∷ before) (at_moment x now) r.view
            (certified_round (round_of x r.view) success)
            bears (verdict_borne x.me (min_active x) before r success (round_of x r.view) (bears r.view)))
        | false ↦ bears
      ]
  given_bears before x now (NotarizeVote p m) bears = bears
  given_bears before x now (NullifyVote r m) bears = bears
  given_bears before x now (FinalizeVote p m) bears = bears
  given_bears before x now (Accepted c) bears = bears
