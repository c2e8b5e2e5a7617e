-- The facts after the calls of a tested record.
use Rattle.std.proofs.Common.{◌≡◌, ℕ, ◌<◌, Bool, true, false, ◌&&◌, ◌||◌, not, List, [], ◌∷◌, ◌++◌, Option, Some, None, refl, ap, ◌∙◌, arith}
use Rattle.std.specs.List.{list_any, AllByRecursion}
use Rattle.std.proofs.lemmas.List.Folds.{list_any-append}
use Rattle.simplex_types.specs.Certificates.{ProposalFacts, Notarized, Nullified, Finalized, ArtifactFacts, NotarizeVote, NullifyVote, FinalizeVote, Verdict, Accepted}
use Rattle.simplex_resolver.specs.Steps.{Call, Replayed, effects, highest_named}
use Rattle.simplex_resolver.specs.ReceivedFacts.{NamesAView, is_replayed, is_needed}
use Rattle.simplex_resolver.specs.Repair.{settles, is_outstanding, facts_of, effects_of}
use Rattle.simplex_resolver.proofs.RepairLaw.{all_fetched, stands, outstanding_is_wanted}
use Rattle.simplex_resolver.proofs.Views.{is_outstanding-append}
use Rattle.simplex_resolver.specs.RecordCalls.{newest_notarization, verdict_on, entry_calls, calls_of}
use Rattle.simplex_resolver.specs.RecordRules.{entry_error, record_error}
use Rattle.simplex_resolver.proofs.Sound.{none_of_both, sound_views, sound_found}

-- ---- each call names a view

all_of_both : {A : Type 0} (P : A → Type 0) (xs ys : List A) → AllByRecursion P xs → AllByRecursion P ys
    → AllByRecursion P (xs ++ ys)
all_of_both P [] ys h k = k
all_of_both P (x ∷ xs) ys h k = (h.0, all_of_both P xs ys h.1 k)

module _ {D : Type 0} (payload_bytes : D → List ℕ) where
  verdict_named : (v : ℕ) (before : List (ArtifactFacts D)) (success : Bool) (o : Option (ProposalFacts D))
      → record_error before ≡ None → newest_notarization v before ≡ o
      → AllByRecursion NamesAView (verdict_on payload_bytes o success)
  verdict_named v before success None none is = tt
  verdict_named v before success (Some n) none is = ((sound_found v before n none is).0, tt)

  entry_named : (before : List (ArtifactFacts D)) (e : ArtifactFacts D) → record_error before ≡ None
      → entry_error before e ≡ None → AllByRecursion NamesAView (entry_calls payload_bytes before e)
  entry_named before (Accepted (Notarized n)) none sound =
      ((sound_views n.proposal.round.view (highest_named n.proposal) sound).0, tt)
  entry_named before (Accepted (Nullified n)) none sound = ((sound_views n.round.view n.round.view sound).0, tt)
  entry_named before (Accepted (Finalized f)) none sound =
      ((sound_views f.proposal.round.view (highest_named f.proposal) sound).0, tt)
  entry_named before (Verdict round success) none sound =
      verdict_named round.view before success (newest_notarization round.view before) none refl
  entry_named before (NotarizeVote p signer) none sound = tt
  entry_named before (NullifyVote round signer) none sound = tt
  entry_named before (FinalizeVote p signer) none sound = tt

  pub calls_name_views : (entries : List (ArtifactFacts D)) → record_error entries ≡ None
      → AllByRecursion NamesAView (calls_of payload_bytes entries)
  calls_name_views [] none = tt
  calls_name_views (e ∷ before) none =
      let both = none_of_both e before none in
      all_of_both NamesAView (entry_calls payload_bytes before e) (calls_of payload_bytes before)
      (entry_named before e both.0 both.1) (calls_name_views before both.0)

  -- ---- no entry ends the replay

  verdict_goes_on : (o : Option (ProposalFacts D)) (success : Bool)
      → list_any is_replayed (verdict_on payload_bytes o success) ≡ false
  verdict_goes_on None success = refl
  verdict_goes_on (Some n) success = refl

  entry_goes_on : (before : List (ArtifactFacts D)) (e : ArtifactFacts D)
      → list_any is_replayed (entry_calls payload_bytes before e) ≡ false
  entry_goes_on before (Accepted (Notarized n)) = refl
  entry_goes_on before (Accepted (Nullified n)) = refl
  entry_goes_on before (Accepted (Finalized f)) = refl
  entry_goes_on before (Verdict round success) = verdict_goes_on (newest_notarization round.view before) success
  entry_goes_on before (NotarizeVote p signer) = refl
  entry_goes_on before (NullifyVote round signer) = refl
  entry_goes_on before (FinalizeVote p signer) = refl

  pub calls_go_on : (entries : List (ArtifactFacts D)) → list_any is_replayed (calls_of payload_bytes entries) ≡ false
  calls_go_on [] = refl
  calls_go_on (e ∷ before) =
      let both = list_any-append is_replayed (entry_calls payload_bytes before e) (calls_of payload_bytes before) in
      both ∙ ap (λ b. b || list_any is_replayed (calls_of payload_bytes before)) (entry_goes_on before e)
      ∙ calls_go_on before

-- ---- what the end of a replay fetches

only_last : (all before settled last : Bool) → all ≡ ((before && not settled) || last) → before ≡ false → last ≡ all
only_last all before settled last is none = grind (arith, is, none)

-- nothing is outstanding before the end of the replay, so the end fetches all that must be fetched
pub end_fetches_wanted : (t : ℕ) (calls : List Call) → 0 < t → AllByRecursion NamesAView calls
    → list_any is_replayed calls ≡ false
    → (v : ℕ) → is_outstanding (effects (facts_of t calls) Replayed) v ≡ is_needed t (Replayed ∷ calls) v
end_fetches_wanted t calls long named none v =
    let x = facts_of t calls in
    let replaying : x.replaying ≡ true = (stands t calls long named).replaying ∙ ap not none in
    only_last (is_outstanding (effects_of t (Replayed ∷ calls)) v) (is_outstanding (effects_of t calls) v)
    (list_any (settles v) (effects x Replayed)) (is_outstanding (effects x Replayed) v)
    (is_outstanding-append (effects_of t calls) (effects x Replayed) v)
    (((all_fetched t calls long named).at_rest replaying).1 v)
    ∙ outstanding_is_wanted t (Replayed ∷ calls) long (tt, named) refl v
