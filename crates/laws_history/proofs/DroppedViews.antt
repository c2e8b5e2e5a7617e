-- No event notes a view again, as nullified or as voted to nullify, that a prune dropped.
use Rattle.std.proofs.Common.{◌≡◌, refl, ap, sym, ◌∙◌, ℕ, ◌<◌, ◌≤◌, Bool, true, false, ◌&&◌, eqb, if◌then◌else◌, nat_le, List, filter, is_some, arith}
use Rattle.std.proofs.lemmas.Bool.{eqb-true, ne_eqb}
use Rattle.std.proofs.lemmas.Bool.Decides.{nat_tests}
use Rattle.std.proofs.lemmas.Map.Views.{any-filter_same}
use Rattle.simplex_types.specs.Certificates.{ArtifactFacts, NotarizeVote, NullifyVote, FinalizeVote, Verdict, Accepted, Notarized, Nullified, Finalized}
use Rattle.simplex_types.specs.declared.types.numbers.Round.{Round}
use Rattle.simplex_voter.specs.Facts.{StateFacts, Elect}
use Rattle.simplex_voter.specs.Windows.{min_active}
use Rattle.simplex_voter.specs.Refusals.{takes_round}
use Rattle.simplex_voter.specs.Rules.{may_nullify}
use Rattle.simplex_voter.specs.Replay.{TakesReplay}
use Rattle.simplex_voter.proofs.Gaps.{and_parts}
use Rattle.simplex_voter.proofs.Rules.{nullify_parts}
use Rattle.simplex_member.specs.OutstandingWork.{is_among}
use Rattle.simplex_record.specs.Recovery.{as_artifact}
use Rattle.simplex_record.specs.Events.{Event, IsEvent, after_event, AddNullification, ConstructNullify, Prune, Replay, covers_from, is_prune}
use Rattle.laws_history.specs.OwnWork.{casts_nullify}
use Rattle.std.proofs.Math.Bool.{and-false}

module _ {K L D : Type 0} (low : ℕ) (x : StateFacts K L D) (active : low ≤ min_active x) where
  apart_from : (r : Round) (v : ℕ) → takes_round x r ≡ true → v < low → eqb v r.view ≡ false
  apart_from r v takes below =
      let up : min_active x ≤ r.view = let h =
      (and_parts (nat_le 1 r.view) (nat_le (min_active x) r.view) (and_parts _ _ takes).1).1 in
      grind (arith, nat_tests, h) in
      ne_eqb v r.view (λ same. absurd (omega (arith, same, up, active, below)))

module _ {K L D : Type 0} (x : StateFacts K L D) where
  left_none : (views : List ℕ) (v : ℕ) → v < min_active x
      → is_among v (filter (λ u. nat_le (min_active x) u) views) ≡ false
  left_none views v below = any-filter_same (λ u. eqb v u) (λ u. nat_le (min_active x) u) false
      (λ u here. ap (nat_le (min_active x)) (sym (eqb-true v u here)) ∙ test) views
    where
      test : nat_le (min_active x) v ≡ false
      test = grind (arith, nat_tests)

module _ {K L D : Type 0} (low : ℕ) (x : StateFacts K L D) (active : low ≤ min_active x)
    (reached : low ≤ x.current) where
  -- no event notes a view below the bound

  pub covers_above : (e : Event K D) → IsEvent x e → (v : ℕ) → v < low → covers_from v e ≡ false
  covers_above (AddNullification c now) takes v below = apart_from low x active c.round v takes below
  covers_above (Replay e) takes v below = replays e takes
    where
      replays : (a : ArtifactFacts D) → TakesReplay x (as_artifact {K = K} a) → covers_from {K = K} v (Replay a) ≡ false
      replays (Accepted (Nullified c)) t = apart_from low x active c.round v t.kept below
      replays (Accepted (Notarized c)) t = refl
      replays (Accepted (Finalized c)) t = refl
      replays (NotarizeVote p signer) t = refl
      replays (NullifyVote round signer) t = refl
      replays (FinalizeVote p signer) t = refl
      replays (Verdict round success) t = refl
  covers_above _ takes v below = refl

  pub casts_above : (e : Event K D) → IsEvent x e → (v : ℕ) → v < low → casts_nullify v x e ≡ false
  casts_above (ConstructNullify w) takes v below = by_rule (may_nullify x w) refl
    where
      by_rule : (b : Bool) → may_nullify x w ≡ b → (may_nullify x w && is_some x.me && eqb v w) ≡ false
      by_rule false barred = rw barred refl
      by_rule true may = rw (ne_eqb v w (λ same.
          absurd (omega (arith, same, (nullify_parts x w may).current, reached, below))))
          (and-false (may_nullify x w && is_some x.me))
  casts_above (Replay e) takes v below = replays e takes
    where
      replays : (a : ArtifactFacts D) → TakesReplay x (as_artifact {K = K} a) → casts_nullify v x (Replay a) ≡ false
      replays (NullifyVote round signer) t = apart_from low x active round v t.kept below
      replays (NotarizeVote p signer) t = refl
      replays (FinalizeVote p signer) t = refl
      replays (Verdict round success) t = refl
      replays (Accepted c) t = refl
  casts_above _ takes v below = refl

module _ {K L D : Type 0} (same : D → D → Bool) (elect : Elect L) (x : StateFacts K L D) where
  -- what a prune takes out of them

  pub nullified_dropped : (e : Event K D) (v : ℕ) → v < (if is_prune e then min_active x else 0)
      → is_among v (after_event same elect x e).nullified ≡ false
  nullified_dropped Prune v below = left_none x x.nullified v below
  nullified_dropped _ v below = absurd (omega (arith, below))

  pub votes_dropped : (e : Event K D) (v : ℕ) → v < (if is_prune e then min_active x else 0)
      → is_among v (after_event same elect x e).nullify_votes ≡ false
  votes_dropped Prune v below = left_none x x.nullify_votes v below
  votes_dropped _ v below = absurd (omega (arith, below))
