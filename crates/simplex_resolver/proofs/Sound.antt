-- Facts about entries without an error, and which entry has the first error.
use Rattle.std.proofs.Common.{◌≡◌, ℕ, ◌+◌, ◌<◌, ◌≤◌, ◌^◌, Bool, true, false, ◌==◌, nat_le, cond, List, [], ◌∷◌, ◌++◌, map, reverse, take, drop, get_or, length, arith, Option, Some, None, Result, Ok, Err, IfErr, refl, ap, sym, ◌∙◌, subst}
use Rattle.std.specs.Option.{option_or}
use Rattle.std.proofs.lemmas.Bool.Decides.{nat_tests}
use Rattle.std.proofs.lemmas.List.{map-append, reverse-append, take_more, take-append-drop}
use Rattle.simplex_types.specs.Certificates.{ProposalFacts, Notarized, Nullified, Finalized, ArtifactFacts, NotarizeVote, NullifyVote, FinalizeVote, Verdict, Accepted, artifact_facts}
use Rattle.simplex_types.specs.declared.types.messages.Artifact.{Artifact}
use Rattle.simplex_types.specs.declared.types.fault.Fault.{Fault}
use Rattle.simplex_types.specs.declared.types.fault.Fault.TheVariants.{OutOfMemory, Failed, ViewTooLarge, TimeOverflow}
use Rattle.simplex_resolver.specs.Facts.{ResolverFacts}
use Rattle.simplex_resolver.specs.Steps.{Refused, highest_named}
use Rattle.simplex_resolver.specs.declared.replay.error.ReplayError.{ReplayError}
use Rattle.simplex_resolver.specs.declared.replay.error.ReplayError.TheVariants as error
use Rattle.simplex_resolver.specs.RecordCalls.{newest_first, notarization_at, newest_notarization}
use Rattle.simplex_resolver.specs.RecordRules.{view_error, proposal_error, entry_error, record_error}
use Rattle.simplex_resolver.proofs.Newest.{newest_more}

-- ---- the first error

neither : {T : Type 0} (o p : Option T) → option_or o p ≡ None → (o ≡ None) × (p ≡ None)
neither None p none = (refl, none)
neither (Some x) p none = absurd (cc)

module _ {D : Type 0} where
  pub none_of_both : (e : ArtifactFacts D) (before : List (ArtifactFacts D)) → record_error (e ∷ before) ≡ None
      → (record_error before ≡ None) × (entry_error before e ≡ None)
  none_of_both e before none = neither (record_error before) (entry_error before e) none

  -- later entries take no error away
  stays : (later before : List (ArtifactFacts D)) (why : ReplayError) → record_error before ≡ Some why
      → record_error (later ++ before) ≡ Some why
  stays [] before why is = is
  stays (e ∷ later) before why is = ap (λ o. option_or o (entry_error (later ++ before) e)) (stays later before why is)

  earlier : (later before : List (ArtifactFacts D)) → record_error (later ++ before) ≡ None → record_error before ≡ None
  earlier [] before none = none
  earlier (e ∷ later) before none = earlier later before (none_of_both e (later ++ before) none).0

-- ---- entries by their places

module _ {S D K G C : Type 0} (bytes_of : C → List ℕ) (xs : List (Artifact S D K G C)) (i : ℕ) (x : Artifact S D K G C)
    (is : x ≡ get_or xs i x) (within : i < length xs) where
  pub taken_at : take (i + 1) xs ≡ take i xs ++ x ∷ []
  taken_at = take_more xs i x within ∙ ap (λ y. take i xs ++ y ∷ []) (sym is)

  pub newest_at : newest_first bytes_of (take (i + 1) xs) ≡ artifact_facts bytes_of x ∷ newest_first bytes_of
      (take i xs)
  newest_at = ap (newest_first bytes_of) taken_at ∙ newest_more bytes_of (take i xs) x

  split : newest_first bytes_of xs ≡ newest_first bytes_of (drop (i + 1) xs) ++ artifact_facts bytes_of x ∷ newest_first
      bytes_of (take i xs)
  split =
      ap (newest_first bytes_of) (sym (take-append-drop (i + 1) xs))
      ∙ ap reverse (map-append (artifact_facts bytes_of) (take (i + 1) xs) (drop (i + 1) xs))
      ∙ reverse-append (map (artifact_facts bytes_of) (take (i + 1) xs))
      (map (artifact_facts bytes_of) (drop (i + 1) xs))
      ∙ ap (λ es. newest_first bytes_of (drop (i + 1) xs) ++ es) newest_at

  -- the first entry that has an error decides
  pub broken_at : (why : ReplayError) → record_error (newest_first bytes_of (take i xs)) ≡ None
      → entry_error (newest_first bytes_of (take i xs)) (artifact_facts bytes_of x) ≡ Some why
      → record_error (newest_first bytes_of xs) ≡ Some why
  broken_at why none here =
      ap record_error split
      ∙ stays (newest_first bytes_of (drop (i + 1) xs)) (artifact_facts bytes_of x ∷ newest_first bytes_of (take i xs))
      why
      (ap (λ o. option_or o (entry_error (newest_first bytes_of (take i xs)) (artifact_facts bytes_of x))) none ∙ here)

  pub sound_at : record_error (newest_first bytes_of xs) ≡ None
      → record_error (artifact_facts bytes_of x ∷ newest_first bytes_of (take i xs)) ≡ None
  sound_at none =
      earlier (newest_first bytes_of (drop (i + 1) xs)) (artifact_facts bytes_of x ∷ newest_first bytes_of (take i xs))
      (ap record_error (sym split) ∙ none)

-- ---- views

views_by : (zero_view too_large : Bool) → cond zero_view (Some error.ZeroView)
    (cond too_large (Some error.ViewTooLarge) None) ≡ None → (zero_view ≡ false) × (too_large ≡ false)
views_by true b none = absurd (cc)
views_by false true none = absurd (cc)
views_by false false none = (refl, refl)

-- a view that is not refused is above genesis, and no view that its certificate names is too large
pub sound_views : (v highest : ℕ) → view_error v highest ≡ None → (1 ≤ v) × (highest < 2 ^ 63)
sound_views v highest none =
    let tests = views_by (v == 0) (nat_le (2 ^ 63) highest) none in
    let above = tests.0 in
    let small = tests.1 in (grind (arith, nat_tests, above), grind (arith, nat_tests, small))

module _ {D : Type 0} where
  same_some : (n m : ProposalFacts D) → Some n ≡ Some m → n ≡ m
  same_some n m is = cc

  at_by : (b : Bool) (found n : ProposalFacts D) → proposal_error found.proposal ≡ None
      → cond b (Some found) None ≡ Some n → proposal_error n.proposal ≡ None
  at_by true found n sound is = subst (λ m. proposal_error m.proposal ≡ None) (same_some found n is) sound
  at_by false found n sound is = absurd (cc)

  found_at : (v : ℕ) (e : ArtifactFacts D) (before : List (ArtifactFacts D)) (n : ProposalFacts D)
      → entry_error before e ≡ None → notarization_at v e ≡ Some n → proposal_error n.proposal ≡ None
  found_at v (Accepted (Notarized m)) before n sound is = at_by (m.proposal.round.view == v) m n sound is
  found_at v (Accepted (Nullified m)) before n sound is = absurd (cc)
  found_at v (Accepted (Finalized m)) before n sound is = absurd (cc)
  found_at v (NotarizeVote p signer) before n sound is = absurd (cc)
  found_at v (NullifyVote round signer) before n sound is = absurd (cc)
  found_at v (FinalizeVote p signer) before n sound is = absurd (cc)
  found_at v (Verdict round success) before n sound is = absurd (cc)

  either : (o p : Option (ProposalFacts D)) (n : ProposalFacts D) (P : Type 0) → (o ≡ Some n → P) → (p ≡ Some n → P)
      → option_or o p ≡ Some n → P
  either None p n P here there is = there is
  either (Some m) p n P here there is = here is

  -- what is found among entries without an error has none
  found_sound : (v : ℕ) (before : List (ArtifactFacts D)) (n : ProposalFacts D) → record_error before ≡ None
      → newest_notarization v before ≡ Some n → proposal_error n.proposal ≡ None
  found_sound v [] n none is = absurd (cc)
  found_sound v (e ∷ before) n none is =
      let both = none_of_both e before none in
      either (notarization_at v e) (newest_notarization v before) n (proposal_error n.proposal ≡ None)
      (found_at v e before n both.1) (found_sound v before n both.0) is

  pub sound_found : (v : ℕ) (before : List (ArtifactFacts D)) (n : ProposalFacts D) → record_error before ≡ None
      → newest_notarization v before ≡ Some n
      → (1 ≤ n.proposal.round.view) × (highest_named n.proposal < 2 ^ 63)
  sound_found v before n none is = sound_views n.proposal.round.view (highest_named n.proposal)
      (found_sound v before n none is)

-- ---- refusals

-- on a resolver that has not failed, a call that names no view that is too large is refused only when out of memory
pub only_memory : (old new : ResolverFacts) (v : ℕ) (fault : Fault) → old.is_failed ≡ false → v < 2 ^ 63
    → Refused old v fault new → fault ≡ OutOfMemory
only_memory old new v OutOfMemory live small refused = refl
only_memory old new v Failed live small refused = let failed = refused.0 in absurd (cc)
only_memory old new v ViewTooLarge live small refused = let large = refused.1 in absurd (omega (arith, small, large))
only_memory old new v TimeOverflow live small refused = absurd refused

-- a call that names no view at all
pub refused_alike : {T : Type 0} (r : Result T Fault) (old new : ResolverFacts) → old.is_failed ≡ false
    → IfErr r (λ fault. Refused old 0 fault new) → IfErr r (λ fault. fault ≡ OutOfMemory)
refused_alike (Ok x) old new live refused = tt
refused_alike (Err fault) old new live refused = only_memory old new 0 fault live (omega arith) refused
