-- Some calls of a resolver, in terms of five views; the last call comes first.
use Rattle.std.proofs.Common.{◌≡◌, refl, ℕ, true, false, List, [], ◌∷◌, filter, Some, None}
use Rattle.std.specs.Option.{option_map}
use Rattle.simplex_types.specs.Certificates.{ArtifactFacts, Notarized, Verdict as Judged, Accepted}
use Rattle.simplex_resolver.specs.declared.resolver.effect.Effect.TheVariants.{Settled}
use Rattle.simplex_resolver.specs.declared.replay.error.ReplayError.TheVariants as error
use Rattle.simplex_types.specs.declared.reasons.Kind.TheVariants.{Notarization as OfNotarization}
use Rattle.simplex_resolver.specs.Facts.{empty}
use Rattle.simplex_resolver.specs.Answers.{OfFinalization, OfCertified, OfNullified, source}
use Rattle.simplex_resolver.specs.ReceivedFacts.{is_needed}
use Rattle.simplex_resolver.specs.RecordCalls.{newest_notarization}
use Rattle.simplex_resolver.specs.RecordRules.{record_error}
use Rattle.simplex_resolver.specs.Repair.{facts_of}
use Rattle.simplex_resolver.specs.Steps.{Call, Nullification, Notarization, Finalization, Verdict, settle_effects}
use Rattle.simplex_resolver.proofs.Maps.{contains-empty, contains-insert_new}

-- a view that is certified and covered is served its notarization, and one that is covered alone the highest
-- nullification
abbrev certified_and_covered : List Call
certified_and_covered = Nullification 3 (9 ∷ []) ∷ Verdict 3 (8 ∷ []) true ∷ Nullification 2 (7 ∷ []) ∷ []

certified_first : source 5 certified_and_covered 3 ≡ Some (OfCertified 3)
certified_first = refl

highest_cover : source 5 certified_and_covered 4 ≡ Some (OfNullified 3)
highest_cover = refl

-- a finalization is served before both, for each view up to its own
finalized_first : source 5 (Finalization 4 (6 ∷ []) ∷ certified_and_covered) 3 ≡ Some (OfFinalization 4)
finalized_first = refl

-- below the certified floor its notarization is served where nothing else is, and above it nothing is
served_by_the_floor : source 5 certified_and_covered 1 ≡ Some (OfCertified 3)
served_by_the_floor = refl

nothing_to_serve : source 5 certified_and_covered 6 ≡ None
nothing_to_serve = refl

-- a notarization that a verdict has failed settles nothing when it comes again
abbrev failed : List Call
failed = Verdict 3 (8 ∷ []) false ∷ Notarization 3 ∷ []

failed_again : settle_effects (facts_of 5 failed) (Notarization 3) ≡ []
failed_again = rw (contains-insert_new (empty 5).uncertifiable 3 tt 3) refl

-- one that no verdict has failed settles fetches of notarizations of its view again
notarized_again : settle_effects (facts_of 5 (Notarization 3 ∷ [])) (Notarization 3) ≡ Settled OfNotarization 3 3 ∷ []
notarized_again = rw (contains-empty (Unit {0}) 3) refl

-- above the floor the first view and each term's start must be fetched, up to the highest certificate, unless they are
-- covered
abbrev certified_two : List Call
certified_two = Notarization 17 ∷ Nullification 13 (9 ∷ []) ∷ Nullification 6 (9 ∷ []) ∷ Verdict 2 (8 ∷ []) true ∷ []

wanted : filter (is_needed 5 certified_two) (1 ∷ 2 ∷ 3 ∷ 4 ∷ 6 ∷ 7 ∷ 11 ∷ 12 ∷ 16 ∷ 17 ∷ 21 ∷ []) ≡ 3 ∷ 11 ∷ 16 ∷ []
wanted = refl

-- so are views that a verdict failed, unless they are covered or at the floor
wanted_by_failure : filter (is_needed 5 (Verdict 14 (8 ∷ []) false ∷ Verdict 8 (8 ∷ []) false ∷ Verdict 4 (8 ∷ []) false
    ∷ certified_two)) (4 ∷ 8 ∷ 14 ∷ []) ≡ 4 ∷ []
wanted_by_failure = refl

-- a verdict of a record is on the newest notarization of its view
abbrev notarized : ℕ → ArtifactFacts ℕ
notarized payload = Accepted (Notarized (record
    { proposal = record { round = record { epoch = 1; view = 3 }; parent = 2; payload = payload }; bytes = [] }))

newest : option_map (λ n. n.proposal.payload) (newest_notarization 3 (notarized 8 ∷ notarized 7 ∷ [])) ≡ Some 8
newest = refl

-- and is refused where there is none before it
without_notarization : record_error (notarized 7 ∷ Judged (record { epoch = 1; view = 3 }) true ∷ []) ≡ Some
    error.VerdictWithoutNotarization
without_notarization = refl

after_its_notarization : record_error (Judged (record { epoch = 1; view = 3 }) true ∷ notarized 7 ∷ []) ≡ None
after_its_notarization = refl
