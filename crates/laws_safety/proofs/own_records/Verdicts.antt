-- The notarizations and verdicts of a record, and those in the state after each event.
use Rattle.std.proofs.Common.{◌≡◌, refl, ap, sym, ◌∙◌, subst, ℕ, ◌≤◌, ◌⊎◌, inl, inr, Bool, true, false, not, if◌then◌else◌, List, Contains, Some, None, is_some, unwrap_or, arith}
use Rattle.std.proofs.lemmas.Bool.{cases_Bool, false≢true}
use Rattle.simplex_types.specs.Certificates.{ProposalFacts, Notarized, ArtifactFacts, Verdict, Accepted}
use Rattle.simplex_types.specs.declared.types.numbers.Round.{Round}
use Rattle.simplex_round.specs.declared.round.Certification.{Certification}
use Rattle.simplex_round.specs.declared.round.Certification.TheVariants as certification
use Rattle.simplex_round.specs.Round.{RoundFacts, new_round, is_judged, after_abort}
use Rattle.simplex_voter.specs.Facts.{StateFacts, Elect, round_at, round_of, round_number, is_tracked}
use Rattle.simplex_voter.specs.Windows.{min_active}
use Rattle.simplex_voter.specs.ViewEntry.{at_moment}
use Rattle.simplex_voter.specs.Certification.{with_verdict, verdict_taken, after_certified}
use Rattle.simplex_record.specs.Events as event
use Rattle.simplex_record.specs.Events.{Event, IsEvent, after_event, is_prune}
use Rattle.laws_safety.proofs.frames.EachRound.{IsGone, rounds_along, rounds_or_gone}
use Rattle.simplex_record.proofs.Rounds.{round_put}
use Rattle.simplex_record.proofs.Paths.{event_path, asked_of_all, from_judged}
use Rattle.laws_safety.proofs.frames.NoLowerViews.{event_goes, floor_goes}
use Rattle.simplex_record.proofs.Steps as step
use Rattle.simplex_record.proofs.Steps.{RoundStep, notarization_by, verdict_by}

-- a notarization that is held is in the record, and a verdict in the record is in each view that is retained or holds
-- its notarization
pub record ShowsVerdicts {K L D : Type 0} (entries : List (ArtifactFacts D)) (x : StateFacts K L D) : Type 0 where
  pub notarized : (v : ℕ) → is_some (round_of x v).notarization ≡ true
      → (c : ProposalFacts D) × Contains entries (Accepted (Notarized c)) × (c.proposal.round.view ≡ v)
  pub judged : (round : Round) (success : Bool) → Contains entries (Verdict round success)
      → (min_active x ≤ round.view) ⊎ (is_some (round_of x round.view).notarization ≡ true)
      → is_judged success (round_of x round.view).certification ≡ true

pub judged_so : (success : Bool) → is_judged success (certification.Judged success) ≡ true
judged_so true = refl
judged_so false = refl

-- there is no other verdict
pub given_so : (success given : Bool) (c : Certification) → is_judged (not success) c ≡ false → is_judged given c ≡ true
    → given ≡ success
given_so true true c other is = refl
given_so true false c other is = absurd (false≢true (sym other ∙ is))
given_so false true c other is = absurd (false≢true (sym other ∙ is))
given_so false false c other is = refl

aborted_judged : (success : Bool) (c : Certification) → is_judged success c ≡ true
    → is_judged success (after_abort c) ≡ true
aborted_judged success certification.Ready is = absurd (false≢true is)
aborted_judged success (certification.Outstanding _) is = absurd (false≢true is)
aborted_judged success (certification.Judged _) is = is
aborted_judged success certification.Aborted is = absurd (false≢true is)

-- a notarization is old or the event's, and a verdict stays or is replaced by the event's
pub record Weighs {K D : Type 0} (e : Event K D) (v : ℕ) (r s : RoundFacts K D) : Type 0 where
  pub notarized : is_some s.notarization ≡ true
      → (is_some r.notarization ≡ true)
      ⊎ ((c : ProposalFacts D) × (notarization_by e ≡ Some c) × (c.proposal.round.view ≡ v))
  pub judged : (given : Bool) → is_judged given r.certification ≡ true
      → (is_judged given s.certification ≡ true)
      ⊎ ((success : Bool) × (verdict_by e ≡ Some (v, success)) × (is_judged success s.certification ≡ true))

module _ {K L D : Type 0} (same : D → D → Bool) (elect : Elect L) (x : StateFacts K L D) (e : Event K D)
    (handles : (v token : ℕ) → e ≡ event.SetCertifyHandle v token → IsEvent x e) where
  weighs_on : (v : ℕ) (r s t : RoundFacts K D) → Weighs e v r s → Weighs e v s t → Weighs e v r t
  weighs_on v r s t p q = record {
    notarized = λ is. elim (q.notarized is) [ inl before ↦ p.notarized before | inr new ↦ inr new ];
    judged = λ given is. elim (p.judged given is) [
      | inl stays ↦ q.judged given stays
      | inr (success, says, stands) ↦ elim (q.judged success stands)
          [ inl stays ↦ inr (success, says, stays) | inr new ↦ inr new ]
    ];
  }

  weighs : (y : StateFacts K L D) (v : ℕ) (r s : RoundFacts K D) → RoundStep same elect x e y v r s → Weighs e v r s
  weighs y v r s (step.Notarized c says at none) =
      record { notarized = λ is. inr (c, says, at); judged = λ given is. inl is }
  weighs y v r s (step.Judged success says fits) =
      record { notarized = λ is. inl is; judged = λ given is. inr (success, says, judged_so success) }
  weighs y v r s (step.Certifying token says fits) =
      record {
        notarized = λ is. inl is;
        judged =
            λ given is. absurd (false≢true (sym (fits (handles v token says) given) ∙ is));
      }
  weighs y v r s (step.Ended under_way) =
      record { notarized = λ is. inl is; judged = λ given is. inl (aborted_judged given r.certification is) }
  weighs y v r s _ = record { notarized = λ is. inl is; judged = λ given is. inl is }

  event_weighs : (v : ℕ) → Weighs e v (round_of x v) (round_of (after_event same elect x e) v)
      ⊎ ((is_prune e ≡ true) × IsGone x (after_event same elect x e) v)
  event_weighs = rounds_or_gone same elect x e 0 (Weighs e) weighs_on weighs
      (event_path same elect 0 x e (omega arith) (asked_of_all x e))

  -- a record that has the event's notarization, and whose new verdicts are in the state
  pub event_shows : (entries more : List (ArtifactFacts D))
      → ((c : ProposalFacts D) → notarization_by e ≡ Some c → min_active x ≤ c.proposal.round.view)
      → ((round : Round) (given success : Bool) → Contains entries (Verdict round given)
      → verdict_by e ≡ Some (round.view, success) → given ≡ success)
      → ((a : ArtifactFacts D) → Contains entries a → Contains more a)
      → ((c : ProposalFacts D) → notarization_by e ≡ Some c
      → is_some (round_of x c.proposal.round.view).notarization ≡ false → Contains more (Accepted (Notarized c)))
      → ((round : Round) (success : Bool) → Contains more (Verdict round success)
      → Contains entries (Verdict round success)
      ⊎ (is_judged success (round_of (after_event same elect x e) round.view).certification ≡ true))
      → ShowsVerdicts entries x → ShowsVerdicts more (after_event same elect x e)
  event_shows entries more kept agree keeps noted given shows = record { notarized = notarized; judged = judged }
    where
      y : StateFacts K L D
      y = after_event same elect x e

      nothing : (v : ℕ) → round_at y v ≡ None → is_some (round_of y v).notarization ≡ false
      nothing v untracked = ap (λ o. is_some (unwrap_or o (new_round y.me y.members (round_number y v))).notarization)
          untracked

      old : (v : ℕ) → is_some (round_of x v).notarization ≡ true
          → (c : ProposalFacts D) × Contains more (Accepted (Notarized c)) × (c.proposal.round.view ≡ v)
      old v is = (let c = shows.notarized v is in (c.0, keeps (Accepted (Notarized c.0)) c.1, c.2))

      notarized : (v : ℕ) → is_some (round_of y v).notarization ≡ true
          → (c : ProposalFacts D) × Contains more (Accepted (Notarized c)) × (c.proposal.round.view ≡ v)
      notarized v is = elim (event_weighs v) [
        | inr (prunes, gone) ↦ absurd (false≢true (sym (nothing v gone.untracked) ∙ is))
        | inl change ↦ elim (change.notarized is) [
          | inl before ↦ old v before
          | inr (c, says, at) ↦ elim (cases_Bool (is_some (round_of x v).notarization)) [
            | inl before ↦ old v before
            | inr none ↦ (c, noted c says (subst (λ u. is_some (round_of x u).notarization ≡ false) (sym at) none), at)
          ]
        ]
      ]

      stays : (round : Round) (success : Bool) → Contains entries (Verdict round success)
          → (min_active y ≤ round.view) ⊎ (is_some (round_of y round.view).notarization ≡ true)
          → is_judged success (round_of y round.view).certification ≡ true
      stays round success h known = elim (event_weighs round.view) [
        | inr (prunes, gone) ↦ elim known [
          | inl above ↦
              absurd (let floor = floor_goes x y (event_goes same elect x e) in omega (arith, gone.below, floor, above))
          | inr is ↦ absurd (false≢true (sym (nothing round.view gone.untracked) ∙ is))
        ]
        | inl change ↦ (
            let before : (min_active x ≤ round.view) ⊎ (is_some (round_of x round.view).notarization ≡ true) =
            elim known [
              | inl above ↦ inl (let floor = floor_goes x y (event_goes same elect x e) in omega (arith, floor, above))
              | inr is ↦ elim (change.notarized is)
                  [ inl held ↦ inr held | inr (c, says, at) ↦ inl (let over = kept c says in omega (arith, over, at)) ]
            ] in
            elim (change.judged success (shows.judged round success h before)) [
              | inl stands ↦ stands
              | inr (new, says, stands) ↦ subst (λ b. is_judged b (round_of y round.view).certification ≡ true)
                  (sym (agree round success new h says)) stands
            ])
      ]

      judged : (round : Round) (success : Bool) → Contains more (Verdict round success)
          → (min_active y ≤ round.view) ⊎ (is_some (round_of y round.view).notarization ≡ true)
          → is_judged success (round_of y round.view).certification ≡ true
      judged round success h known = elim (given round success h)
          [ inl before ↦ stays round success before known | inr stands ↦ stands ]

module _ {K L D : Type 0} (same : D → D → Bool) (elect : Elect L) (x : StateFacts K L D) where
  -- a verdict that is given for a tracked view is there afterwards
  pub verdict_stands : (v : ℕ) (success : Bool) (now : ℕ) → is_tracked x v ≡ true
      → is_judged success (round_of (after_certified elect x v success now) v).certification ≡ true
  verdict_stands v success now tracked =
      let m = at_moment x now in
      let j = with_verdict m v success in
      let e : Event K D = event.Certified v success now in
      let handles : (w token : ℕ) → e ≡ event.SetCertifyHandle w token → IsEvent x e = λ w token is. absurd (cc) in
      let change = rounds_along same elect x e 0 (Weighs e) (weighs_on same elect x e handles)
      (weighs same elect x e handles) refl j (verdict_taken elect m v success now) (from_judged v success now) v in
      let given : is_judged success (round_of j v).certification ≡ true =
      ap (λ (r : RoundFacts K D). is_judged success r.certification) (round_put m v _) ∙ judged_so success in
      subst (λ b. is_judged success (round_of (if b then verdict_taken elect m v success now else m) v).certification
      ≡ true) (sym tracked)
      (elim (change.judged success given) [
        | inl stands ↦ stands
        | inr (other, says, stands) ↦ (let pair : (v, success) ≡ (v, other) = cc in
            let is : success ≡ other = ap (λ (p : ℕ × Bool). p.1) pair in
            subst (λ b. is_judged b (round_of (verdict_taken elect m v success now) v).certification ≡ true) (sym is)
            stands)
      ])
