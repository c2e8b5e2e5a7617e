-- For `votes_are_lawful`.
-- A pruning of the record within a lifetime keeps all that the state's facts show: what it tracks stays in the record.
use Rattle.std.proofs.Common.{◌≡◌, refl, sym, ◌∙◌, subst, ℕ, ◌-◌, ◌≤◌, Bool, true, false, ◌||◌, nat_le, max, List, Contains, filter, Option, Some, None, is_some, unwrap_or, arith}
use Rattle.std.proofs.lemmas.Bool.{false≢true, le-leb}
use Rattle.simplex_types.specs.Certificates.{ArtifactFacts, NullifyVote, Verdict}
use Rattle.simplex_round.specs.Round.{RoundFacts, new_round, is_nullify, is_certified}
use Rattle.simplex_voter.specs.Facts.{StateFacts, round_at, round_of, round_number, is_tracked}
use Rattle.simplex_record.specs.Cuts.{finalized_in}
use Rattle.simplex_record.specs.Entries.{entry_view}
use Rattle.simplex_member.specs.MemberFacts.{MemberFacts}
use Rattle.simplex_member.specs.PrunedRecord.{tracks, stays_within, pruned_member}
use Rattle.laws_safety.specs.Traces.{TraceEvent}
use Rattle.laws_safety.proofs.lists.Filters.{Contains-filter}
use Rattle.laws_safety.proofs.records.Lifetimes.{Between, bounded_between}
use Rattle.laws_safety.proofs.records.NewLives.{Living, living_between}
use Rattle.laws_safety.proofs.records.RecordedVotes.{Marked}

-- the entries that a pruning may take are below the bound
pub high_stay : (tracked : ℕ → Bool) (bound v : ℕ) → bound ≤ v → (tracked v || nat_le bound v) ≡ true
high_stay tracked bound v above = by_test (tracked v)
  where
    by_test : (b : Bool) → (b || nat_le bound v) ≡ true
    by_test true = refl
    by_test false = le-leb bound v above

module _ {K L D : Type 0} (x : StateFacts K L D) (v : ℕ) where
  -- of an untracked view nothing is shown that a new round doesn't show
  pub shown_tracked : (shows : RoundFacts K D → Bool) → shows (new_round x.me x.members (round_number x v)) ≡ false
      → shows (round_of x v) ≡ true → is_tracked x v ≡ true
  shown_tracked shows fresh is = by_round (round_at x v) is
    where
      by_round : (o : Option (RoundFacts K D))
          → shows (unwrap_or o (new_round x.me x.members (round_number x v))) ≡ true → is_some o ≡ true
      by_round None shown = absurd (false≢true (sym fresh ∙ shown))
      by_round (Some r) shown = refl

module _ {K L D : Type 0} (entries : List (ArtifactFacts D)) (x : StateFacts K L D) (bound : ℕ) where
  abbrev pub test : ArtifactFacts D → Bool
  test e = is_tracked x (entry_view e) || nat_le bound (entry_view e)

  -- an entry of a tracked view stays
  pub tracked_stays : (e : ArtifactFacts D) → Contains entries e → is_tracked x (entry_view e) ≡ true
      → Contains (filter test entries) e
  tracked_stays e h tracked = Contains-filter test entries e h (rw tracked refl)

  marked_still : Marked entries x → Marked (filter test entries) x
  marked_still marked = record {
    certified = λ v is.
        (let e = marked.certified v is in
        let tracked = shown_tracked x v (λ r. is_certified r.certification) refl is in
        (e.0, tracked_stays (Verdict e.0 true) e.1 (subst (λ u. is_tracked x u ≡ true) (sym e.2) tracked), e.2));
    nullified = λ v is key.
        (let e = marked.nullified v is key in (
          e.0,
          tracked_stays (NullifyVote (round_number x v) e.0) e.1
              (shown_tracked x v (λ r. is_nullify r.decision) refl is),
        ));
  }

module _ {K L D : Type 0} (term_length : ℕ) (trace : List (TraceEvent D)) (m : MemberFacts K L D) (kept : ℕ) where
  abbrev pub bound : ℕ
  bound = finalized_in m.entries - m.retention

  -- between lifetimes, and in a lifetime
  pub pruned_ended : Between term_length trace m.closed kept m.entries
      → Between term_length trace (pruned_member m).closed (max kept bound) (pruned_member m).entries
  pruned_ended between = bounded_between term_length trace m.closed kept m.entries between (stays_within m) bound
      (λ v above. high_stay (tracks m.life) bound v above) (omega arith)

  pub pruned_living : (x : StateFacts K L D) → m.life ≡ Some x
      → Living term_length trace m.closed kept m.entries m.outstanding_work x
      → Living term_length trace (pruned_member m).closed (max kept bound) (pruned_member m).entries m.outstanding_work
      x
  pruned_living x alive living =
      let between = bounded_between term_length trace m.closed kept m.entries
      (living_between term_length trace m.closed kept m.entries m.outstanding_work x living) (stays_within m) bound
      (λ v above. high_stay (tracks m.life) bound v above) (omega arith) in
      record {
        keeps = living.keeps;
        follows = record {
          remembers = between.remembers;
          marked = rw alive (marked_still m.entries x bound living.follows.marked);
        };
        in_order = living.in_order;
        notes = between.notes;
        noted = living.noted;
        high = between.high;
        within = between.within;
      }
