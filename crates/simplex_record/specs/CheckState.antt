-- How the test of a record stores what it has seen. No public clause names these.
use Rattle.std.specs.Prelude.{ℕ, Bool, true, false, not, nat_lt, if◌then◌else◌, List, [], ◌∷◌, ◌++◌, Option, Some, None, is_some}
use Rattle.std.specs.Option.{option_map_or}
use Rattle.simplex_types.specs.Proposal.{same_proposal}
use Rattle.simplex_types.specs.Certificates.{Notarized, Nullified, Finalized, ArtifactFacts, NotarizeVote, NullifyVote, FinalizeVote, Verdict, Accepted}
use Rattle.simplex_types.specs.declared.types.messages.Proposal.{Proposal}
use Rattle.simplex_record.specs.declared.record.error.RecoverError.{RecoverError}
use Rattle.simplex_record.specs.declared.record.error.RecoverError.TheVariants as error
use Rattle.simplex_record.specs.Entries.{entry_view}
use Rattle.simplex_record.specs.Check.{agrees, own_rules}
use Rattle.simplex_record.specs.declared.record.seen.Seen.{Seen}

-- the verdict was given
abbrev pub is_given : Bool → Option Bool → Bool
is_given success seen = option_map_or (agrees success) seen false

-- another proposal was voted for
abbrev pub is_other : {D : Type 0} → (D → D → Bool) → Option (Proposal D) → Proposal D → Bool
is_other same seen p = option_map_or (λ q. not (same_proposal same q p)) seen false

-- nothing was seen of the view
abbrev pub nothing_seen : {D : Type 0} → ℕ → Seen D
nothing_seen v = record {
  view = v;
  notarized = false;
  verdict = None;
  nullified = false;
  notarize = None;
  finalize = None;
}

-- of a view above the last one nothing was seen
abbrev pub turned_to : {D : Type 0} → Seen D → ℕ → Seen D
turned_to s v = if nat_lt s.view v then nothing_seen v else s

module _ {D : Type 0} where
  -- with an entry of the view
  abbrev pub seen_with : Seen D → ArtifactFacts D → Seen D
  seen_with s (NotarizeVote p _) = record s { notarize = Some p }
  seen_with s (NullifyVote _ _) = record s { nullified = true }
  seen_with s (FinalizeVote p _) = record s { finalize = Some p }
  seen_with s (Verdict _ success) = record s { verdict = Some success }
  seen_with s (Accepted (Notarized _)) = record s { notarized = true }
  seen_with s (Accepted (Nullified _)) = s
  seen_with s (Accepted (Finalized _)) = s

module _ {D : Type 0} (same : D → D → Bool) where
  -- the rules that a vote to finalize breaks, by what was seen of its view
  abbrev pub finalize_rules : Seen D → Proposal D → List (Bool × RecoverError)
  finalize_rules s p =
      (s.nullified, error.NullifyBesideFinalize)
      ∷ (is_other same s.finalize p, error.ContradictingVotes)
      ∷ (not (is_given true s.verdict), error.FinalizeWithoutVerdict)
      ∷ []

-- the rules that a verdict breaks
abbrev pub verdict_rules : {D : Type 0} → Seen D → Bool → List (Bool × RecoverError)
verdict_rules s success =
    (not s.notarized, error.VerdictWithoutNotarization)
    ∷ (is_given (not success) s.verdict, error.ContradictingVerdicts)
    ∷ []

module _ {D : Type 0} (same : D → D → Bool) where
  -- the rules that an entry breaks
  abbrev pub seen_rules : Seen D → ArtifactFacts D → List (Bool × RecoverError)
  seen_rules s (NotarizeVote p _) = (is_other same s.notarize p, error.ContradictingVotes) ∷ []
  seen_rules s (NullifyVote _ _) = (is_some s.finalize, error.NullifyBesideFinalize) ∷ []
  seen_rules s (FinalizeVote p _) = finalize_rules same s p
  seen_rules s (Verdict _ success) = verdict_rules s success
  seen_rules s (Accepted _) = []

module _ {D : Type 0} (same : D → D → Bool) (epoch : ℕ) (me : Option ℕ) where
  -- all rules that the next entry breaks
  abbrev pub next_rules : Seen D → ArtifactFacts D → List (Bool × RecoverError)
  next_rules s e =
      (nat_lt (entry_view e) s.view, error.OutOfOrder) ∷ own_rules epoch me e
      ++ seen_rules same (turned_to s (entry_view e)) e
