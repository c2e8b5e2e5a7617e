-- Votes after what stores them.
use Rattle.std.proofs.Common.{◌≡◌, List, [], ◌∷◌, ◌++◌, map, Option, Some, None, Vec, refl, ap, sym, ◌∙◌, append_assoc, append-nil}
use Rattle.std.specs.Prelude.{Contains, IfSome, option_to_list}
use Rattle.std.specs.Option.{option_map_or}
use Rattle.std.specs.declared.alloc.Global.{Global}
use Rattle.simplex_types.specs.declared.types.messages.Artifact.{Artifact}
use Rattle.simplex_types.specs.declared.types.messages.Artifact.TheVariants as artifact
use Rattle.engine_outbox.specs.declared.output.Output.{Output}
use Rattle.engine_outbox.specs.declared.output.Output.TheVariants as output
use Rattle.engine_votes.specs.declared.votes.Vote.{Vote}
use Rattle.engine_outbox.specs.Entries.{vote_in, votes_of_entries, nullify_in, newest_from}
use Rattle.engine_votes.proofs.Contains.{contains_left, contains_seam}
use Rattle.engine_outbox.specs.Outputs.{entries_in, stored_in, storing, AreBehind}

or_assoc : {V : Type 0} (n o b : Option V)
    → option_map_or Some n (option_map_or Some o b) ≡ option_map_or Some
    (option_map_or Some n (option_map_or Some o None)) b
or_assoc None None b = refl
or_assoc None (Some w) b = refl
or_assoc (Some v) o b = refl

module _ {S D K G C : Type 0} where
  pub votes_in-append : (xs ys : List (Artifact S D K G C))
      → votes_of_entries (xs ++ ys) ≡ votes_of_entries xs ++ votes_of_entries ys
  votes_in-append [] ys = refl
  votes_in-append (x ∷ xs) ys = ap (λ vs. option_to_list (vote_in x) ++ vs) (votes_in-append xs ys)
      ∙ sym (append_assoc (option_to_list (vote_in x)) (votes_of_entries xs) (votes_of_entries ys))

  -- the newest of the entries, or else the one before
  pub newest_or : (before : Option (Vote D G)) (entries : List (Artifact S D K G C))
      → newest_from before entries ≡ option_map_or Some (newest_from None entries) before
  newest_or before [] = refl
  newest_or before (entry ∷ rest) =
      newest_or (option_map_or Some (nullify_in entry) before) rest
      ∙ or_assoc (newest_from None rest) (nullify_in entry) before
      ∙ sym (ap (λ v. option_map_or Some v before) (newest_or (option_map_or Some (nullify_in entry) None) rest))

  -- what may be repeated is recorded
  pub newest_recorded : (before : Option (Vote D G)) (entries : List (Artifact S D K G C)) (all : List (Vote D G))
      → IfSome before (Contains all) → IfSome (newest_from before entries) (Contains (all ++ votes_of_entries entries))
  newest_recorded None [] all has = tt
  newest_recorded (Some v) [] all has = contains_left all [] v has
  newest_recorded before (entry ∷ rest) all has =
      rw (← append_assoc all (option_to_list (vote_in entry)) (votes_of_entries rest))
      (newest_recorded (option_map_or Some (nullify_in entry) before) rest (all ++ option_to_list (vote_in entry))
      (kept entry before has))
    where
      wider : (o : Option (Vote D G)) (more : List (Vote D G)) → IfSome o (Contains all)
          → IfSome o (Contains (all ++ more))
      wider None more h = tt
      wider (Some v) more h = contains_left all more v h

      kept : (e : Artifact S D K G C) (o : Option (Vote D G)) → IfSome o (Contains all)
          → IfSome (option_map_or Some (nullify_in e) o) (Contains (all ++ option_to_list (vote_in e)))
      kept (artifact.Nullify v) o h = contains_seam all _ []
      kept (artifact.Notarize v) o h = wider o _ h
      kept (artifact.Finalize v) o h = wider o _ h
      kept (artifact.Notarization v) o h = wider o _ h
      kept (artifact.Nullification v) o h = wider o _ h
      kept (artifact.Finalization v) o h = wider o _ h
      kept (artifact.Certification r b) o h = wider o _ h

module _ {S D J K G C : Type 0} where
  pub stored_in-append : (xs ys : List (Output S D J K G C)) → stored_in (xs ++ ys) ≡ stored_in xs ++ stored_in ys
  stored_in-append [] ys = refl
  stored_in-append (x ∷ xs) ys = ap (λ es. entries_in x ++ es) (stored_in-append xs ys)
      ∙ sym (append_assoc (entries_in x) (stored_in xs) (stored_in ys))

  -- one list of outputs after another
  pub joined : (stored : List (Artifact S D K G C)) (xs ys : List (Output S D J K G C)) → AreBehind stored xs
      → AreBehind (stored ++ stored_in xs) ys → AreBehind stored (xs ++ ys)
  joined stored [] ys front back = rw append-nil at back
  joined stored (x ∷ xs) ys front back = (
    front.0,
    joined (stored ++ entries_in x) xs ys front.1 (rw (append_assoc stored (entries_in x) (stored_in xs)) back),
  )

  -- and its beginning
  pub beginning : (stored : List (Artifact S D K G C)) (xs ys : List (Output S D J K G C)) → AreBehind stored (xs ++ ys)
      → AreBehind stored xs
  beginning stored [] ys all = tt
  beginning stored (x ∷ xs) ys all = (all.0, beginning (stored ++ entries_in x) xs ys all.1)

module _ {S D K G C : Type 0} (J : Type 0) where
  votes_follow : (before votes : List (Vote D G)) (stored : List (Artifact S D K G C))
      → votes_of_entries stored ≡ before ++ votes → AreBehind {J = J} stored (map output.Vote votes)
  votes_follow before [] stored are = tt
  votes_follow before (v ∷ vs) stored are = (
    rw are (contains_seam before v vs),
    rw append-nil
        (votes_follow (before ++ v ∷ []) vs stored (are ∙ sym (append_assoc before (v ∷ []) vs))),
  )

  -- entries, and after them the votes among them
  pub storing_behind : (stored : List (Artifact S D K G C)) (entries : Vec (Artifact S D K G C) Global)
      → AreBehind {J = J} stored (storing entries)
  storing_behind stored entries = (
    tt,
    votes_follow (votes_of_entries stored) (votes_of_entries entries.items)
        (stored ++ entries.items) (votes_in-append stored entries.items),
  )

  nothing_stored : (votes : List (Vote D G)) → stored_in {S = S} {J = J} {K = K} {C = C} (map output.Vote votes) ≡ []
  nothing_stored [] = refl
  nothing_stored (v ∷ vs) = nothing_stored vs

  pub stored_by : (entries : Vec (Artifact S D K G C) Global) → stored_in {J = J} (storing entries) ≡ entries.items
  stored_by entries = ap (λ es. entries.items ++ es) (nothing_stored (votes_of_entries entries.items))
      ∙ append-nil entries.items
