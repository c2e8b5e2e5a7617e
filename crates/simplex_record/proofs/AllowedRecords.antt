-- A record that breaks no rule is taken, entry by entry, by a state that knows nothing else.
use Rattle.std.proofs.Common.{◌≡◌, refl, ◌∙◌, ℕ, ◌≤◌, Bool, true, false, not, ◌&&◌, ◌==◌, nat_lt, nat_le, List, [], ◌∷◌, Option, Some, None, is_some, arith}
use Rattle.std.specs.Option.{option_map_or}
use Rattle.std.proofs.lemmas.Bool.{cond_both}
use Rattle.std.proofs.lemmas.Bool.Decides.{nat_tests}
use Rattle.simplex_types.specs.Certificates.{ArtifactFacts, NotarizeVote, NullifyVote, FinalizeVote, Verdict, Accepted, artifact_facts}
use Rattle.simplex_types.specs.declared.types.messages.Artifact.{Artifact}
use Rattle.simplex_types.specs.declared.types.messages.Artifact.TheVariants as artifact
use Rattle.simplex_types.specs.declared.types.numbers.Round.{Round}
use Rattle.simplex_types.specs.declared.types.window.Terms.{Terms}
use Rattle.simplex_round.specs.Round.{RoundFacts, certified_round, is_judged, is_nullify, is_finalize, TakesArtifact}
use Rattle.simplex_voter.specs.Facts.{Settings, StateFacts, Elect, new_facts, round_at, round_of, with_round}
use Rattle.simplex_voter.specs.Windows.{min_active}
use Rattle.simplex_voter.specs.Refusals.{is_started, takes_round}
use Rattle.simplex_voter.specs.Certification.{takes_verdict}
use Rattle.simplex_record.specs.Entries.{entries_of, entry_round, entry_view}
use Rattle.simplex_record.specs.Check.{stands, is_notarization, is_verdict, is_nullify_vote as nullifies, is_finalize_vote as finalizes, first_error, entry_rules, first_broken_after}
use Rattle.simplex_record.specs.Recovery.{after_adding, after_replaying, after_entry, after_kept_entry, GivesVerdict, TakesEntry, TakesNext, TakesEntries}
use Rattle.simplex_record.proofs.Recovery.{added_goes}
use Rattle.simplex_record.proofs.EntrySuffixes.{taken_goes}
use Rattle.simplex_record.proofs.CheckState.{view_of_entry, from_not_false, none_left}
use Rattle.simplex_record.proofs.RoundChanges.{round_of-same}
use Rattle.simplex_record.proofs.StateChanges.{added_kept}
use Rattle.simplex_record.proofs.EntryRules.{GoodRound, Allowed, entry_parent, allowed, round_of_entry, small_entry, none_first}
use Rattle.simplex_record.proofs.HeldEntries.{Bears, BearsAll, bears_kept, bears_on, added_bears, replayed_bears, given_bears}

-- what is not in the entries is not in the round
not_there : (held standing : Bool) → (held ≡ true → standing ≡ true) → standing ≡ false → held ≡ false
not_there false standing shows none = refl
not_there true standing shows none = absurd (let so = shows refl in cc)

all_four : (a b c d : Bool) → a ≡ true → b ≡ true → c ≡ true → d ≡ true → (a && b && (c && d)) ≡ true
all_four a b c d h k l m = rw (h, k, l, m) refl

not_below : (v lowest : ℕ) → nat_lt v lowest ≡ false → lowest ≤ v
not_below v lowest is = grind (arith, nat_tests)

left_out : (v lowest : ℕ) → nat_lt v lowest ≡ true → lowest ≤ v → ⊥
left_out v lowest is kept = grind (arith, nat_tests)

both_so : (a b : Bool) → a ≡ true → b ≡ false → (a && not b) ≡ true
both_so a b h k = rw (h, k) refl

module _ {K L D : Type 0} where
  -- a round of this epoch, of a retained view
  round_taken : (x : StateFacts K L D) (round : Round) (parent : Option ℕ) → is_started x ≡ true
      → GoodRound x.settings.epoch round parent → min_active x ≤ round.view → takes_round x round ≡ true
  round_taken x round parent started good kept =
      let above = good.above in
      all_four (is_started x) (round.epoch == x.settings.epoch) (nat_le 1 round.view) (nat_le (min_active x) round.view)
      started good.of_epoch (grind (arith, nat_tests)) (grind (arith, nat_tests))

  -- a verdict of a notarized view that has no other
  takes_it : (x : StateFacts K L D) (v : ℕ) (success : Bool) → is_started x ≡ true
      → is_some (round_of x v).notarization ≡ true → is_judged (not success) (round_of x v).certification ≡ false
      → takes_verdict x v success ≡ true
  takes_it x v success started notarized none = rw started (by_round (round_at x v) refl)
    where
      by_round : (found : Option (RoundFacts K D)) → round_at x v ≡ found
          → option_map_or (λ r. is_some r.notarization && not (is_judged (not success) r.certification)) (round_at x v)
          true ≡ true
      by_round None is = rw is refl
      by_round (Some r) is = rw is (both_so (is_some r.notarization) (is_judged (not success) r.certification)
          (rw is at notarized) (rw is at none))

module _ {S K D G C : Type 0} (bytes_of : C → List ℕ) (same : D → D → Bool) (epoch : ℕ) (signs : Option ℕ) (lowest : ℕ)
    (before : List (ArtifactFacts D)) where
  -- the round of its view takes an entry that is allowed
  round_takes : (a : Artifact S D K G C) (r : RoundFacts K D)
      → Allowed same epoch signs before (artifact_facts bytes_of a)
      → Bears signs lowest before (entry_view (artifact_facts bytes_of a)) r → TakesArtifact r a
  round_takes (artifact.Notarize vote) r ok b = b.me ∙ ok.own
  round_takes (artifact.Nullify vote) r ok b =
      (b.me ∙ ok.own, not_there (is_finalize r.decision) (stands vote.round.view finalizes before) b.finalized ok.votes)
  round_takes (artifact.Finalize vote) r ok b = (
    b.me ∙ ok.own,
    not_there (is_nullify r.decision) (stands vote.proposal.round.view nullifies before) b.nullified
        ok.votes,
  )
  round_takes (artifact.Certification round success) r ok b =
      not_there (is_judged (not success) r.certification) (stands round.view (is_verdict (not success)) before)
      (b.judged (not success)) ok.verdict
  round_takes (artifact.Notarization _) r ok b = tt
  round_takes (artifact.Nullification _) r ok b = tt
  round_takes (artifact.Finalization _) r ok b = tt

module _ {K L D : Type 0} (same : D → D → Bool) (elect : Elect L) (now : ℕ) where
  -- a verdict may be given once it is restored
  may_give : (before : List (ArtifactFacts D)) (x : StateFacts K L D) (e : ArtifactFacts D) → is_started x ≡ true
      → min_active x ≤ entry_view e → BearsAll before x → Allowed same x.settings.epoch x.me before e
      → GivesVerdict (after_replaying same elect (after_adding same elect x now e) e) e
  may_give before x (Verdict r success) started kept bears ok =
      let v = r.view in
      let b = bears v in
      let z = with_round x v (certified_round (round_of x v) success) in
      takes_it z v success started
      (rw (round_of-same x v (certified_round (round_of x v) success))
      (b.notarized kept (from_not_false (stands v is_notarization before) ok.notarized)))
      (rw (round_of-same x v (certified_round (round_of x v) success)) (no_other success))
    where
      no_other : (success : Bool) → is_judged (not success)
          (certified_round (round_of x r.view) success).certification ≡ false
      no_other true = refl
      no_other false = refl
  may_give before x (NotarizeVote p m) started kept bears ok = tt
  may_give before x (NullifyVote r m) started kept bears ok = tt
  may_give before x (FinalizeVote p m) started kept bears ok = tt
  may_give before x (Accepted c) started kept bears ok = tt

module _ {S K L D G C : Type 0} (bytes_of : C → List ℕ) (same : D → D → Bool) (elect : Elect L) (now : ℕ) where
  -- an allowed entry of a retained view
  takes_entry : (before : List (ArtifactFacts D)) (x : StateFacts K L D) (a : Artifact S D K G C) → is_started x ≡ true
      → min_active x ≤ entry_view (artifact_facts bytes_of a) → BearsAll before x
      → Allowed same x.settings.epoch x.me before (artifact_facts bytes_of a) → TakesEntry bytes_of same elect x now a
  takes_entry before x a started kept bears ok =
      let e = artifact_facts bytes_of a in
      let y = after_adding same elect x now e in
      let goes = added_goes same elect x now e in
      let keeps = added_kept same elect x now e in
      let mine : Allowed same x.settings.epoch y.me before e = rw keeps.me ok in
      let good : GoodRound y.settings.epoch (entry_round e) (entry_parent e) = rw goes.settings ok.good in
      record {
        kept = rw (round_of_entry bytes_of a) (round_taken x (entry_round e) (entry_parent e) started ok.good kept);
        replays = record {
          kept = rw (round_of_entry bytes_of a)
              (round_taken y (entry_round e) (entry_parent e) (goes.started started) good (keeps.kept kept));
          taken = rw (view_of_entry bytes_of a) (round_takes bytes_of same x.settings.epoch y.me (min_active y) before a
              (round_of y (entry_view e)) mine (bears_kept (entry_view e) before x y keeps bears (entry_view e)));
        };
        gives = may_give same elect now before x e started kept bears ok;
      }

  takes_next : (before : List (ArtifactFacts D)) (x : StateFacts K L D) (a : Artifact S D K G C) → is_started x ≡ true
      → BearsAll before x → Allowed same x.settings.epoch x.me before (artifact_facts bytes_of a)
      → TakesNext bytes_of same elect x now a
  takes_next before x a started bears ok = record {
    small = small_entry bytes_of x.settings.epoch a ok.good;
    taken = λ above. takes_entry before x a started
        (not_below (entry_view (artifact_facts bytes_of a)) (min_active x) (rw (view_of_entry bytes_of a) at above))
        bears ok;
  }

module _ {K L D : Type 0} (same : D → D → Bool) (elect : Elect L) where
  -- after an entry was taken, or skipped
  taken_bears : (before : List (ArtifactFacts D)) (x : StateFacts K L D) (now : ℕ) (e : ArtifactFacts D)
      → BearsAll before x → BearsAll (e ∷ before) (after_kept_entry same elect x now e)
  unfolding after_kept_entry
  taken_bears before x now e bears =
      cond_both (nat_lt (entry_view e) (min_active x)) x (after_entry same elect x now e) (BearsAll (e ∷ before))
      (λ below. bears_on before e x (λ kept _. absurd (left_out (entry_view e) (min_active x) below kept)) bears)
      (λ _. let y = after_adding same elect x now e in
      given_bears same elect before (after_replaying same elect y e) now e
      (replayed_bears same elect before y e (added_bears same elect before x now e bears)))

module _ {S K L D G C : Type 0} (bytes_of : C → List ℕ) (same : D → D → Bool) (elect : Elect L) (now : ℕ) where
  -- entries that break no rule after those that were taken
  pub takes_entries : (entries : List (Artifact S D K G C)) (before : List (ArtifactFacts D)) (x : StateFacts K L D)
      → is_started x ≡ true → BearsAll before x
      → first_broken_after same x.settings.epoch x.me before (entries_of bytes_of entries) ≡ None
      → TakesEntries bytes_of same elect x now entries
  takes_entries [] before x started bears unbroken = tt
  takes_entries (a ∷ rest) before x started bears unbroken =
      let e = artifact_facts bytes_of a in
      let y = after_kept_entry same elect x now e in
      let goes = taken_goes same elect x now e in
      let first = first_error (entry_rules same x.settings.epoch x.me before e) in
      let others = first_broken_after same x.settings.epoch x.me (e ∷ before) (entries_of bytes_of rest) in
      let next : first_broken_after same y.settings.epoch y.me (e ∷ before) (entries_of bytes_of rest) ≡ None =
      rw (goes.settings, goes.me) (none_left first others unbroken) in (
        takes_next bytes_of same elect now before x a started bears
            (allowed same x.settings.epoch x.me before e (none_first first others unbroken)),
        takes_entries rest (e ∷ before) y (goes.started started) (taken_bears same elect before x now e bears) next,
      )

-- a new state
pub new_bears : {K L D : Type 0} (settings : Settings) (me : Option ℕ) (members : List K) (elector : L) (terms : Terms)
    (early : Bool) → BearsAll [] (new_facts {D = D} settings me members elector terms early)
new_bears settings me members elector terms early v = record {
  me = refl;
  notarized = λ low is. absurd cc;
  judged = λ b is. absurd cc;
  nullified = λ is. absurd cc;
  finalized = λ is. absurd cc;
}
