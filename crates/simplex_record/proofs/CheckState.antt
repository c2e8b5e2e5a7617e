-- What was seen of a view represents the entries before.
use Rattle.std.proofs.Common.{◌≡◌, refl, sym, ap, ◌∙◌, ℕ, ◌<◌, Bool, true, false, not, ◌&&◌, ◌||◌, ◌==◌, nat_lt, List, [], ◌∷◌, ◌++◌, Option, Some, None, is_some, arith, length, drop, get_or, ◌+◌}
use Rattle.std.proofs.lemmas.Bool.Decides.{nat_tests}
use Rattle.std.specs.List.{list_any}
use Rattle.std.specs.Option.{option_or}
use Rattle.simplex_types.specs.Certificates.{Notarized, Nullified, Finalized, ArtifactFacts, NotarizeVote, NullifyVote, FinalizeVote, Verdict, Accepted, artifact_facts}
use Rattle.simplex_types.specs.MessageViews.{artifact_view}
use Rattle.simplex_types.specs.declared.types.messages.Artifact.{Artifact}
use Rattle.simplex_types.specs.declared.types.messages.Artifact.TheVariants as artifact
use Rattle.simplex_types.specs.Proposal.{same_proposal}
use Rattle.simplex_types.proofs.Proposal.{same_proposal-true}
use Rattle.simplex_types.specs.declared.types.messages.Proposal.{Proposal}
use Rattle.simplex_record.specs.declared.record.error.RecoverError.{RecoverError}
use Rattle.simplex_record.specs.declared.record.error.RecoverError.TheVariants as error
use Rattle.simplex_record.specs.declared.record.seen.Seen.{Seen}
use Rattle.std.proofs.lemmas.List.{drop_more}
use Rattle.simplex_record.specs.Entries.{entry_view, entries_of}
use Rattle.simplex_record.specs.Check.{first_error, last_view, stands, agrees, is_notarization, is_verdict, is_nullify_vote, is_finalize_vote, notarizes_other, finalizes_other, beside_rules, own_rules, entry_rules, first_broken_after}
use Rattle.simplex_record.specs.CheckState.{is_given, is_other, nothing_seen, turned_to, seen_with, seen_rules, next_rules}

left_false : (a b : Bool) → (a || b) ≡ false → a ≡ false
left_false false b h = refl
left_false true b h = h

right_false : (a b : Bool) → (a || b) ≡ false → b ≡ false
right_false false b h = h
right_false true b h = absurd cc

not_above : (n v w : ℕ) (b : Bool) → n < v → nat_lt n w ≡ false → (w == v && b) ≡ false
not_above n v w b above most = let other : (w == v) ≡ false = grind (arith, nat_tests) in rw other refl

module _ {D : Type 0} where
  -- no entry is above the view
  abbrev pub AtMost : ℕ → List (ArtifactFacts D) → Type 0
  AtMost n before = list_any (λ e. nat_lt n (entry_view e)) before ≡ false

  none_above : (n v : ℕ) (is_kind : ArtifactFacts D → Bool) → n < v → (before : List (ArtifactFacts D))
      → AtMost n before → stands v is_kind before ≡ false
  none_above n v is_kind above [] most = refl
  none_above n v is_kind above (e ∷ before) most =
      rw (
        not_above n v (entry_view e) (is_kind e) above
            (left_false (nat_lt n (entry_view e)) (list_any (λ b. nat_lt n (entry_view b)) before) most),
        none_above n v is_kind above before (right_false (nat_lt n (entry_view e)) _ most),
      ) refl

  at_most_above : (n v : ℕ) → n < v → (before : List (ArtifactFacts D)) → AtMost n before → AtMost v before
  at_most_above n v above [] most = refl
  at_most_above n v above (e ∷ before) most =
      let first : nat_lt v (entry_view e) ≡ false =
      grind (arith, nat_tests, left_false (nat_lt n (entry_view e)) _ most) in
      rw (
        first,
        at_most_above n v above before
            (right_false (nat_lt n (entry_view e)) (list_any (λ b. nat_lt n (entry_view b)) before) most),
      ) refl

  -- the newest entry is of the view
  first_at : (e : ArtifactFacts D) (v : ℕ) → entry_view e ≡ v → (entry_view e == v) ≡ true
  first_at e v at = grind (arith, nat_tests)

module _ {D : Type 0} where
  level : (k : ArtifactFacts D → Bool) (before : List (ArtifactFacts D)) (v w : ℕ) → v ≡ w
      → stands v k before ≡ stands w k before
  level k before v w at = ap (λ u. stands u k before) at

  more : (k : ArtifactFacts D → Bool) (e : ArtifactFacts D) (v : ℕ) (before : List (ArtifactFacts D)) → entry_view e ≡ v
      → stands v k (e ∷ before) ≡ (k e || stands v k before)
  more k e v before at = rw (first_at e v at) refl

  at_most_more : (e : ArtifactFacts D) (v : ℕ) (before : List (ArtifactFacts D)) → entry_view e ≡ v → AtMost v before
      → AtMost v (e ∷ before)
  at_most_more e v before at most = let level : nat_lt v (entry_view e) ≡ false = grind (arith, nat_tests) in
      rw (level, most) refl

or_false : (b : Bool) → (b || false) ≡ b
or_false true = refl
or_false false = refl

or_itself : (b : Bool) → (b || b) ≡ b
or_itself true = refl
or_itself false = refl

pub from_not_false : (b : Bool) → not b ≡ false → b ≡ true
from_not_false true h = refl
from_not_false false h = absurd cc

-- if no rule of a list is broken, the first one is not
pub unbroken : (b : Bool) (e : RecoverError) (rest : List (Bool × RecoverError)) → first_error ((b, e) ∷ rest) ≡ None
    → b ≡ false
unbroken false e rest h = refl
unbroken true e rest h = absurd cc

pub rest_unbroken : (b : Bool) (e : RecoverError) (rest : List (Bool × RecoverError))
    → first_error ((b, e) ∷ rest) ≡ None → first_error rest ≡ None
rest_unbroken false e rest h = h
rest_unbroken true e rest h = absurd cc

-- one more verdict, which is no other
one_verdict : (seen : Option Bool) (success b : Bool) → is_given (not success) seen ≡ false
    → (agrees b success || is_given b seen) ≡ agrees b success
one_verdict None success b one = or_false (agrees b success)
one_verdict (Some true) true b one = or_itself (agrees b true)
one_verdict (Some false) false b one = or_itself (agrees b false)
one_verdict (Some true) false b one = absurd cc
one_verdict (Some false) true b one = absurd cc

module _ {D : Type 0} (same : D → D → Bool) (alike : (d e : D) → same d e ≡ true → d ≡ e) where
  -- one more proposal, which is no other
  one_more : (seen : Option (Proposal D)) (p q : Proposal D) → is_other same seen p ≡ false
      → (not (same_proposal same p q) || is_other same seen q) ≡ not (same_proposal same p q)
  one_more None p q one = or_false (not (same_proposal same p q))
  one_more (Some r) p q one =
      let they : r ≡ p = same_proposal-true same alike r p (from_not_false _ one) in
      rw they (or_itself (not (same_proposal same p q)))

module _ {D : Type 0} (same : D → D → Bool) where
  pub record ShowsBefore (before : List (ArtifactFacts D)) (s : Seen D) : Type 0 where
    pub at_most : AtMost s.view before
    pub notarized : stands s.view is_notarization before ≡ s.notarized
    pub verdict : (success : Bool) → stands s.view (is_verdict success) before ≡ is_given success s.verdict
    pub nullified : stands s.view is_nullify_vote before ≡ s.nullified
    pub finalized : stands s.view is_finalize_vote before ≡ is_some s.finalize
    pub notarize : (p : Proposal D) → stands s.view (notarizes_other same p) before ≡ is_other same s.notarize p
    pub finalize : (p : Proposal D) → stands s.view (finalizes_other same p) before ≡ is_other same s.finalize p

  -- a view that begins
  pub shows_turned : (before : List (ArtifactFacts D)) (s : Seen D) (v : ℕ) → ShowsBefore before s
      → ShowsBefore before (turned_to s v)
  shows_turned before s v shows = turned _ refl
    where
      turned : (b : Bool) → nat_lt s.view v ≡ b → ShowsBefore before (turned_to s v)
      turned false kept = rw kept shows
      turned true above =
          let up : s.view < v = grind (arith, nat_tests) in
          rw above (record {
            at_most = at_most_above s.view v up before shows.at_most;
            notarized = none_above s.view v _ up before shows.at_most;
            verdict = λ success. none_above s.view v _ up before shows.at_most;
            nullified = none_above s.view v _ up before shows.at_most;
            finalized = none_above s.view v _ up before shows.at_most;
            notarize = λ p. none_above s.view v _ up before shows.at_most;
            finalize = λ p. none_above s.view v _ up before shows.at_most;
          })

module _ {D : Type 0} (same : D → D → Bool) (alike : (d e : D) → same d e ≡ true → d ≡ e) where
  -- an entry that the rules allow
  pub shows_entry : (before : List (ArtifactFacts D)) (s : Seen D) (e : ArtifactFacts D) → entry_view e ≡ s.view
      → ShowsBefore same before s → first_error (seen_rules same s e) ≡ None
      → ShowsBefore same (e ∷ before) (seen_with s e)
  shows_entry before s (NotarizeVote p m) at shows allowed =
      let e : ArtifactFacts D = NotarizeVote p m in
      record {
        at_most = at_most_more e s.view before at shows.at_most;
        notarized = more is_notarization e s.view before at ∙ shows.notarized;
        verdict = λ success. more (is_verdict success) e s.view before at ∙ shows.verdict success;
        nullified = more is_nullify_vote e s.view before at ∙ shows.nullified;
        finalized = more is_finalize_vote e s.view before at ∙ shows.finalized;
        notarize = λ q.
            more (notarizes_other same q) e s.view before at
            ∙ rw (shows.notarize q) (one_more same alike s.notarize p q
            (unbroken (is_other same s.notarize p) error.ContradictingVotes [] allowed));
        finalize = λ q. more (finalizes_other same q) e s.view before at ∙ shows.finalize q;
      }
  shows_entry before s (NullifyVote r m) at shows allowed =
      let e : ArtifactFacts D = NullifyVote r m in
      record {
        at_most = at_most_more e s.view before at shows.at_most;
        notarized = more is_notarization e s.view before at ∙ shows.notarized;
        verdict = λ success. more (is_verdict success) e s.view before at ∙ shows.verdict success;
        nullified = more is_nullify_vote e s.view before at;
        finalized = more is_finalize_vote e s.view before at ∙ shows.finalized;
        notarize = λ q. more (notarizes_other same q) e s.view before at ∙ shows.notarize q;
        finalize = λ q. more (finalizes_other same q) e s.view before at ∙ shows.finalize q;
      }
  shows_entry before s (FinalizeVote p m) at shows allowed =
      let e : ArtifactFacts D = FinalizeVote p m in
      record {
        at_most = at_most_more e s.view before at shows.at_most;
        notarized = more is_notarization e s.view before at ∙ shows.notarized;
        verdict = λ success. more (is_verdict success) e s.view before at ∙ shows.verdict success;
        nullified = more is_nullify_vote e s.view before at ∙ shows.nullified;
        finalized = more is_finalize_vote e s.view before at;
        notarize = λ q. more (notarizes_other same q) e s.view before at ∙ shows.notarize q;
        finalize = λ q.
            more (finalizes_other same q) e s.view before at
            ∙ rw (shows.finalize q) (one_more same alike s.finalize p q
            (unbroken (is_other same s.finalize p) error.ContradictingVotes
            ((not (is_given true s.verdict), error.FinalizeWithoutVerdict) ∷ [])
            (rest_unbroken s.nullified error.NullifyBesideFinalize
            ((is_other same s.finalize p, error.ContradictingVotes)
            ∷ (not (is_given true s.verdict), error.FinalizeWithoutVerdict) ∷ []) allowed)));
      }
  shows_entry before s (Verdict r success) at shows allowed =
      let e : ArtifactFacts D = Verdict r success in
      record {
        at_most = at_most_more e s.view before at shows.at_most;
        notarized = more is_notarization e s.view before at ∙ shows.notarized;
        verdict = λ b.
            more (is_verdict b) e s.view before at
            ∙ rw (shows.verdict b) (one_verdict s.verdict success b
            (unbroken (is_given (not success) s.verdict) error.ContradictingVerdicts []
            (rest_unbroken (not s.notarized) error.VerdictWithoutNotarization
            ((is_given (not success) s.verdict, error.ContradictingVerdicts) ∷ []) allowed)));
        nullified = more is_nullify_vote e s.view before at ∙ shows.nullified;
        finalized = more is_finalize_vote e s.view before at ∙ shows.finalized;
        notarize = λ q. more (notarizes_other same q) e s.view before at ∙ shows.notarize q;
        finalize = λ q. more (finalizes_other same q) e s.view before at ∙ shows.finalize q;
      }
  shows_entry before s (Accepted (Notarized c)) at shows allowed =
      let e : ArtifactFacts D = Accepted (Notarized c) in
      record {
        at_most = at_most_more e s.view before at shows.at_most;
        notarized = more is_notarization e s.view before at;
        verdict = λ success. more (is_verdict success) e s.view before at ∙ shows.verdict success;
        nullified = more is_nullify_vote e s.view before at ∙ shows.nullified;
        finalized = more is_finalize_vote e s.view before at ∙ shows.finalized;
        notarize = λ q. more (notarizes_other same q) e s.view before at ∙ shows.notarize q;
        finalize = λ q. more (finalizes_other same q) e s.view before at ∙ shows.finalize q;
      }
  shows_entry before s (Accepted (Nullified c)) at shows allowed =
      let e : ArtifactFacts D = Accepted (Nullified c) in
      record {
        at_most = at_most_more e s.view before at shows.at_most;
        notarized = more is_notarization e s.view before at ∙ shows.notarized;
        verdict = λ success. more (is_verdict success) e s.view before at ∙ shows.verdict success;
        nullified = more is_nullify_vote e s.view before at ∙ shows.nullified;
        finalized = more is_finalize_vote e s.view before at ∙ shows.finalized;
        notarize = λ q. more (notarizes_other same q) e s.view before at ∙ shows.notarize q;
        finalize = λ q. more (finalizes_other same q) e s.view before at ∙ shows.finalize q;
      }
  shows_entry before s (Accepted (Finalized c)) at shows allowed =
      let e : ArtifactFacts D = Accepted (Finalized c) in
      record {
        at_most = at_most_more e s.view before at shows.at_most;
        notarized = more is_notarization e s.view before at ∙ shows.notarized;
        verdict = λ success. more (is_verdict success) e s.view before at ∙ shows.verdict success;
        nullified = more is_nullify_vote e s.view before at ∙ shows.nullified;
        finalized = more is_finalize_vote e s.view before at ∙ shows.finalized;
        notarize = λ q. more (notarizes_other same q) e s.view before at ∙ shows.notarize q;
        finalize = λ q. more (finalizes_other same q) e s.view before at ∙ shows.finalize q;
      }

module _ {D : Type 0} (same : D → D → Bool) where
  -- the rules that an entry breaks follow from what was seen of its view
  pub beside_seen : (before : List (ArtifactFacts D)) (s : Seen D) (e : ArtifactFacts D) → entry_view e ≡ s.view
      → ShowsBefore same before s → first_error (beside_rules same before e) ≡ first_error (seen_rules same s e)
  beside_seen before s (NotarizeVote p m) at shows =
      rw (level (notarizes_other same p) before _ _ at ∙ shows.notarize p) refl
  beside_seen before s (NullifyVote r m) at shows = rw (level is_finalize_vote before _ _ at ∙ shows.finalized) refl
  beside_seen before s (FinalizeVote p m) at shows =
      rw (
        level is_nullify_vote before _ _ at ∙ shows.nullified,
        level (finalizes_other same p) before _ _ at ∙ shows.finalize p,
        level (is_verdict true) before _ _ at ∙ shows.verdict true,
      ) refl
  beside_seen before s (Verdict r success) at shows =
      rw (
        level is_notarization before _ _ at ∙ shows.notarized,
        level (is_verdict (not success)) before _ _ at ∙ shows.verdict (not success),
      ) refl
  beside_seen before s (Accepted (Notarized c)) at shows = refl
  beside_seen before s (Accepted (Nullified c)) at shows = refl
  beside_seen before s (Accepted (Finalized c)) at shows = refl

pub option_or_none : {A : Type 0} (o : Option A) → option_or o None ≡ o
option_or_none None = refl
option_or_none (Some a) = refl

pub first_error-append : (xs ys : List (Bool × RecoverError))
    → first_error (xs ++ ys) ≡ option_or (first_error xs) (first_error ys)
first_error-append [] ys = refl
first_error-append ((true, e) ∷ xs) ys = refl
first_error-append ((false, e) ∷ xs) ys = first_error-append xs ys

module _ {D : Type 0} where
  with_entry_view : (s : Seen D) (e : ArtifactFacts D) → (seen_with s e).view ≡ s.view
  with_entry_view s (Accepted (Notarized c)) = refl
  with_entry_view s _ = refl

  -- the view of what was seen
  turned_view : (s : Seen D) (v : ℕ) → nat_lt v s.view ≡ false → v ≡ (turned_to s v).view
  turned_view s v in_order = turned _ refl
    where
      turned : (b : Bool) → nat_lt s.view v ≡ b → v ≡ (turned_to s v).view
      turned true above = rw above refl
      turned false kept = rw kept (grind (arith, nat_tests))

module _ {D : Type 0} (same : D → D → Bool) (epoch : ℕ) (me : Option ℕ) where
  -- of all entries the rest is to be tested, by what was seen
  pub record Tested (all rest : List (ArtifactFacts D)) (s : Seen D) : Type 0 where
    pub before : List (ArtifactFacts D)
    pub shows : ShowsBefore same before s
    pub last : last_view before ≡ s.view
    pub left : first_broken_after same epoch me before rest ≡ first_broken_after same epoch me [] all

  pub tested_none : (all : List (ArtifactFacts D)) → Tested all all (nothing_seen 0)
  tested_none all = record {
    before = [];
    shows = record {
      at_most = refl;
      notarized = refl;
      verdict = λ success. refl;
      nullified = refl;
      finalized = refl;
      notarize = λ p. refl;
      finalize = λ p. refl;
    };
    last = refl;
    left = refl;
  }

  -- the rules that an entry breaks by all before it are those that it breaks by what was seen
  rules_seen : (all rest : List (ArtifactFacts D)) (s : Seen D) (e : ArtifactFacts D) (tested : Tested all (e ∷ rest) s)
      → first_error (entry_rules same epoch me tested.before e) ≡ first_error (next_rules same epoch me s e)
  rules_seen all rest s e tested = ordered _ refl
    where
      ordered : (b : Bool) → nat_lt (entry_view e) s.view ≡ b
          → first_error (entry_rules same epoch me tested.before e) ≡ first_error (next_rules same epoch me s e)
      ordered true late = rw (tested.last, late) refl
      ordered false in_order =
          let shows = shows_turned same tested.before s (entry_view e) tested.shows in
          let beside = beside_seen same tested.before (turned_to s (entry_view e)) e
          (turned_view s (entry_view e) in_order) shows in
          rw (
            tested.last,
            in_order,
            first_error-append (own_rules epoch me e) (beside_rules same tested.before e),
            first_error-append (own_rules epoch me e) (seen_rules same (turned_to s (entry_view e)) e),
            beside,
          ) refl

  -- an entry that breaks a rule
  pub stopped : (all rest : List (ArtifactFacts D)) (s : Seen D) (e : ArtifactFacts D) (x : RecoverError)
      → Tested all (e ∷ rest) s → first_error (next_rules same epoch me s e) ≡ Some x
      → first_broken_after same epoch me [] all ≡ Some x
  stopped all rest s e x tested broken = sym tested.left ∙ rw (rules_seen all rest s e tested, broken) refl

pub none_left : (a b : Option RecoverError) → option_or a b ≡ None → b ≡ None
none_left None b h = h
none_left (Some x) b h = absurd cc

module _ {D : Type 0} (same : D → D → Bool) (alike : (d e : D) → same d e ≡ true → d ≡ e) (epoch : ℕ)
    (me : Option ℕ) where
  -- an entry that breaks none
  pub tested_next : (all rest : List (ArtifactFacts D)) (s : Seen D) (e : ArtifactFacts D)
      → Tested same epoch me all (e ∷ rest) s → first_error (next_rules same epoch me s e) ≡ None
      → Tested same epoch me all rest (seen_with (turned_to s (entry_view e)) e)
  tested_next all rest s e tested allowed =
      let beside = seen_rules same (turned_to s (entry_view e)) e in
      let at = turned_view s (entry_view e)
      (unbroken (nat_lt (entry_view e) s.view) error.OutOfOrder (own_rules epoch me e ++ beside) allowed) in
      let behind = rest_unbroken (nat_lt (entry_view e) s.view) error.OutOfOrder (own_rules epoch me e ++ beside)
      allowed in
      let none : first_error beside ≡ None = none_left (first_error (own_rules epoch me e)) (first_error beside)
      (sym (first_error-append (own_rules epoch me e) beside) ∙ behind) in
      record {
        before = e ∷ tested.before;
        shows = shows_entry same alike tested.before (turned_to s (entry_view e)) e at
            (shows_turned same tested.before s (entry_view e) tested.shows) none;
        last = at ∙ sym (with_entry_view (turned_to s (entry_view e)) e);
        left = rw (← tested.left, rules_seen same epoch me all rest s e tested, allowed) refl;
      }

-- an artifact's view is its entry's
pub view_of_entry : {S D K G C : Type 0} (bytes_of : C → List ℕ) (a : Artifact S D K G C)
    → artifact_view a ≡ entry_view (artifact_facts bytes_of a)
view_of_entry bytes_of (artifact.Notarize _) = refl
view_of_entry bytes_of (artifact.Notarization _) = refl
view_of_entry bytes_of (artifact.Certification _ _) = refl
view_of_entry bytes_of (artifact.Nullify _) = refl
view_of_entry bytes_of (artifact.Nullification _) = refl
view_of_entry bytes_of (artifact.Finalize _) = refl
view_of_entry bytes_of (artifact.Finalization _) = refl

module _ {D : Type 0} (same : D → D → Bool) (epoch : ℕ) (me : Option ℕ) (s : Seen D) (e : ArtifactFacts D)
    (x : RecoverError) where
  pub breaks_alone : nat_lt (entry_view e) s.view ≡ false → first_error (own_rules epoch me e) ≡ Some x
      → first_error (next_rules same epoch me s e) ≡ Some x
  breaks_alone in_order broken = rw (
    in_order,
    first_error-append (own_rules epoch me e) (seen_rules same (turned_to s (entry_view e)) e),
    broken,
  ) refl

  pub breaks_beside : nat_lt (entry_view e) s.view ≡ false → first_error (own_rules epoch me e) ≡ None
      → first_error (seen_rules same (turned_to s (entry_view e)) e) ≡ Some x
      → first_error (next_rules same epoch me s e) ≡ Some x
  breaks_beside in_order kept broken = rw (
    in_order,
    first_error-append (own_rules epoch me e) (seen_rules same (turned_to s (entry_view e)) e),
    kept,
    broken,
  ) refl

-- the entries from a place on
pub entries_from : {S D K G C : Type 0} (bytes_of : C → List ℕ) (items : List (Artifact S D K G C)) (i : ℕ)
    (a : Artifact S D K G C) → a ≡ get_or items i a → i < length items
    → entries_of bytes_of (drop i items) ≡ artifact_facts bytes_of a ∷ entries_of bytes_of (drop (i + 1) items)
entries_from bytes_of items i a is within = ap (entries_of bytes_of) (drop_more items i a within)
    ∙ ap (λ b. artifact_facts bytes_of b ∷ entries_of bytes_of (drop (i + 1) items)) (sym is)

pub ruleset first_errors = (first_error-append)
