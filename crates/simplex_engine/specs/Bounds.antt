-- What an engine stores is bounded.
use Rattle.std.specs.Prelude.{◌≡◌, ◌<◌, true, List, length, IfSome}
use Rattle.simplex_types.specs.Terms.{next_term_start}
use Rattle.simplex_voter.specs.Windows.{min_active, admits_vote}
use Rattle.engine_votes.specs.declared.batcher.Batcher.{Batcher}
use Rattle.engine_outbox.specs.declared.journaled.Journaled.{Journaled}
use Rattle.engine_votes.specs.StoredVotes.{EachVote, HoldsUpTo, HoldsFrom}

module _ {S L D K G C : Type 0} (keys_of : S → List K) where
  -- each stored vote is a member's, and of a view that is not above those whose votes the member's state takes
  abbrev pub HoldsNoneAhead : Journaled S L D K G C → Batcher S D K G C → Type 0
  HoldsNoneAhead core batcher =
      IfSome core.member.facts.life
      (λ x. HoldsUpTo (length (keys_of batcher.scheme)) (next_term_start x.terms.term_length x.current) batcher)

  -- if each stored vote was a member's, and of no view above those whose votes are taken, each one still is
  pub record StaysBounded (old : Journaled S L D K G C) (held : Batcher S D K G C) (new : Journaled S L D K G C)
      (left : Batcher S D K G C) : Type 0 where
    pub stays : HoldsNoneAhead old held → HoldsNoneAhead new left

  -- each stored vote is a member's, and of a view whose votes the state takes: so at most three of each member in a
  -- view
  abbrev pub HoldsAdmitted : Journaled S L D K G C → Batcher S D K G C → Type 0
  HoldsAdmitted core batcher =
      IfSome core.member.facts.life
      (λ x. EachVote (λ view member. (admits_vote x view ≡ true) × (member < length (keys_of batcher.scheme))) batcher)

module _ {S L D K G C : Type 0} where
  -- no stored vote is of a view below the lowest one that the member's state retains
  abbrev pub HoldsFromKept : Journaled S L D K G C → Batcher S D K G C → Type 0
  HoldsFromKept core batcher = IfSome core.member.facts.life (λ x. HoldsFrom (min_active x) batcher)
