-- The first poll after a vote to nullify sets the moment of its repeat.
use Rattle.std.proofs.Common.{◌≡◌, ◌≤◌, ℕ, ◌+◌, ◌^◌, Bool, true, false, cond, ◌&&◌, Option, Some, None, Result, Ok, Err, OnErr, unwrap_or, refl, ap, sym, ◌∙◌, inl, inr, arith}
use Rattle.std.specs.Prelude.{◌↔◌, IfOk, IfErr, IsOkUnless, is_err, option_and_then}
use Rattle.std.specs.FinMap as map
use Rattle.std.specs.Ordering.{nat_cmp}
use Rattle.std.proofs.lemmas.Bool.{cases_lt, le-leb}
use Rattle.std.proofs.lemmas.Bool.Decides.{nat_tests}
use Rattle.simplex_types.specs.declared.types.fault.Fault.{Fault}
use Rattle.simplex_types.specs.declared.types.fault.Fault.TheVariants.{TimeOverflow}
use Rattle.simplex_round.specs.Round.{RoundFacts, new_round, awaits_retry, with_retry, round_timeout, RetryOverflows}
use Rattle.simplex_voter.specs.Facts as facts
use Rattle.simplex_voter.specs.Facts.{StateFacts, with_tracked}
use Rattle.simplex_voter.specs.ViewEntry.{at_moment}
use Rattle.simplex_voter.specs.Refusals.{is_past_u64}
use Rattle.simplex_voter.specs.Rounds.{RoundsFacts, find_round, round_in, round_id}
use Rattle.simplex_voter.proofs.RoundsKept.{insert-same}
use Rattle.simplex_voter.proofs.Gaps.{cases_bool}

-- an answer that is equal to one is equal to another
pub answered : {A E : Type 0} (result : Result A E) (a b : A) → a ≡ b → IfOk result (λ answer. answer ≡ a)
    → IfOk result (λ answer. answer ≡ b)
answered (Ok answer) a b same is = is ∙ same
answered (Err e) a b same is = tt

past_not : (n : ℕ) → n + 1 ≤ 2 ^ 64 → is_past_u64 n ≡ false
past_not n below = grind (arith, nat_tests)

module _ {K D A : Type 0} where
  -- a poll is too late exactly where it would set the moment of a repeat, and that is past 64 bits
  pub late_is : (result : Result A Fault) (r : RoundFacts K D) (now retry : ℕ)
      → ((result ≡ Err TimeOverflow) ↔ RetryOverflows r now retry) → IsOkUnless result TimeOverflow
      → is_err result ≡ (awaits_retry r && is_past_u64 (now + retry))
  late_is (Ok a) r now retry overflow unless = elim (cases_bool (awaits_retry r)) [
    | inr set ↦ rw set refl
    | inl waits ↦ elim (cases_lt (now + retry) (2 ^ 64)) [
      | inl below ↦ rw (waits, past_not (now + retry) (omega (arith, below))) refl
      | inr above ↦ let bad : Ok a ≡ Err TimeOverflow = overflow.1 (waits, above) in cc
    ]
  ]
  late_is (Err e) r now retry overflow unless =
      let both = overflow.0 (ap Err unless) in
      rw (both.0, le-leb (2 ^ 64) (now + retry) both.1) refl

  -- where no moment is set, nothing changes
  pub poll_refused : (result : Result A Fault) (x : RoundsFacts K D) (m : map.FinMap nat_cmp (RoundFacts K D))
      → x.by_view ≡ map.entries m → (v : ℕ) (r s : RoundFacts K D) → Some r ≡ map.get m v
      → IsOkUnless result TimeOverflow → OnErr result (s ≡ r)
      → IfErr result (λ fault. (fault ≡ TimeOverflow) × (record x { by_view = map.entries (map.insert m v s) } ≡ x))
  poll_refused (Ok a) x m shown v r s here late same = tt
  poll_refused (Err e) x m shown v r s here late same = (
    late,
    ap (λ n. record x { by_view = map.entries n }) (ap (map.insert m v) same ∙ insert-same m v r (sym here))
        ∙ ap (λ es. record x { by_view = es }) (sym shown),
  )

pub late_untracked : {K D : Type 0} (x : RoundsFacts K D) (v now retry : ℕ) → None ≡ find_round x v
    → false ≡ (awaits_retry (round_in x v) && is_past_u64 (now + retry))
late_untracked x v now retry none = ap (λ found.
    awaits_retry (unwrap_or found (new_round x.me x.members (round_id x v))) && is_past_u64 (now + retry)) none

-- the result of a poll, given the round of the view
pub answer_shown : {K D : Type 0} (found : Option (RoundFacts K D)) (fresh : RoundFacts K D)
    → fresh ≡ new_round fresh.me fresh.members fresh.round → (now retry : ℕ) (allow : Bool)
    → option_and_then (λ (r : RoundFacts K D). round_timeout (with_retry r now retry) allow) found ≡ round_timeout
    (with_retry (unwrap_or found fresh) now retry) allow
answer_shown None fresh is now retry true = rw is refl
answer_shown None fresh is now retry false = rw is refl
answer_shown (Some r) fresh is now retry allow = refl

-- a moment that is noted after the poll of a tracked view
pub noted_after : {K L D : Type 0} (x y m : StateFacts K L D) (v now : ℕ) (r : RoundFacts K D) → y ≡ with_tracked x v r
    → m ≡ at_moment y now → m ≡ with_tracked (at_moment x now) v r
noted_after x y m v now r polls notes = notes ∙ ap (λ w. at_moment w now) polls ∙ by_test (facts.is_tracked x v)
  where
    by_test : (b : Bool) → at_moment (cond b (facts.with_round x v r) x) now ≡ cond b
        (facts.with_round (at_moment x now) v r) (at_moment x now)
    by_test true = refl
    by_test false = refl
