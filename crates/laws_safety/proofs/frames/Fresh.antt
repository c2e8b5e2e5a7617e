-- The state that a lifetime begins with.
use Rattle.std.proofs.Common.{◌≡◌, ◌<◌, ℕ, refl}
use Rattle.simplex_voter.specs.Facts.{StateFacts, new_facts}
use Rattle.simplex_record.specs.Start.{Setup, new_state}
use Rattle.laws_safety.specs.TermLengths.{HasTerms}

module _ {K L D : Type 0} where
  -- a state that knows nothing but how it was set up, with terms of this length, which have views
  pub record IsNewState (term_length : ℕ) (x : StateFacts K L D) : Type 0 where
    pub fresh : x ≡ new_facts x.settings x.me x.members x.elector x.terms x.elects_early
    pub terms : x.terms.term_length ≡ term_length
    pub some : 0 < term_length

  -- so is each that a start begins with
  pub fresh_state : (term_length : ℕ) (setup : Setup K L) → HasTerms term_length setup
      → IsNewState term_length (new_state setup)
  fresh_state term_length setup has = record { fresh = refl; terms = has.terms; some = has.some }
