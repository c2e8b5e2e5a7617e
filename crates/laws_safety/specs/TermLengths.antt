-- The one length of terms that all lifetimes of all members share.
use Rattle.std.specs.Prelude.{◌≡◌, ◌<◌, ℕ, List, [], ◌∷◌}
use Rattle.simplex_member.specs.Runs.{StepFacts, Calls, Prunes, Restarts}
use Rattle.simplex_record.specs.Start.{Setup}

-- a state's setup has terms of this length, which have views
pub record HasTerms {K L : Type 0} (term_length : ℕ) (setup : Setup K L) : Type 0 where
  pub terms : setup.terms.term_length ≡ term_length
  pub some : 0 < term_length

module _ {K L D : Type 0} where
  -- the same at each restart: the length of terms stays, and all else may change
  abbrev pub KeepTerms : ℕ → List (StepFacts K L D) → Type 0
  KeepTerms term_length [] = Unit {0}
  KeepTerms term_length (Calls call ∷ steps) = KeepTerms term_length steps
  KeepTerms term_length (Prunes ∷ steps) = KeepTerms term_length steps
  KeepTerms term_length (Restarts r ∷ steps) = HasTerms term_length r.start.setup × KeepTerms term_length steps
