-- Polls of an engine, with no input in between, come to `None`, and return nothing more while it rests.
use Rattle.std.specs.Prelude.{◌≡◌, ◌⊎◌, ℕ, List, [], ◌∷◌, length, drop, map, All, Option, Some, None, Ok}
use Rattle.simplex_types.specs.declared.types.fault.Fault.{Fault}
use Rattle.simplex_member.specs.declared.member.journal.Stored.{Stored}
use Rattle.engine_outbox.specs.declared.output.Output.{Output}
use Rattle.simplex_engine.specs.declared.engine.Engine.{Engine}
use Rattle.simplex_engine.specs.AtRest.{HasSettled, RestLasts, ReturnsFirst, StaysAtRest, StaysSettled}

-- the moment of a poll that returned `Ok`, and what it returned
pub record Poll (S D K G C : Type 0) : Type 0 where
  pub now : ℕ
  pub out : Option (Output S D Stored K G C)

module _ {S L D K G C : Type 0} where
  -- an engine before and after a poll at a moment that returned `Ok`, by the clauses `front`, `settles` and `stays` of
  -- `Engine::poll`
  pub record IsPoll (now : ℕ) (out : Option (Output S D Stored K G C)) (old new : Engine S L D K G C) : Type 0 where
    pub front : ReturnsFirst {E = Fault} old.core.outbox.queue.items (Ok out) old new
    pub settles : old.core.outbox.queue.items ≡ [] → StaysSettled now old ⊎ HasSettled now new
    pub stays : old.core.outbox.queue.items ≡ [] → StaysSettled now old → StaysAtRest {E = Fault} (Ok out) old new

  -- polls, one after another
  abbrev pub ArePolls : List (Poll S D K G C) → Engine S L D K G C → Engine S L D K G C → Type 0
  ArePolls [] first last = last ≡ first
  ArePolls (poll ∷ rest) first last =
      (next : Engine S L D K G C) × IsPoll poll.now poll.out first next × ArePolls rest next last

module _ {A : Type 0} where
  -- the first of a list
  abbrev pub first_of : List A → Option A
  first_of [] = None
  first_of (x ∷ xs) = Some x

  -- polls return the outputs of this queue in order, and then nothing each time
  abbrev pub ReturnQueue : List A → List (Option A) → Type 0
  ReturnQueue queue [] = Unit {0}
  ReturnQueue queue (out ∷ rest) = (out ≡ first_of queue) × ReturnQueue (drop 1 queue) rest

-- once an engine has settled, polls return what is queued, in order, and then nothing each time, at all moments for
-- which it stays settled
abbrev pub SettledPollsEnd : (S L D K G C : Type 0) → Type 0
SettledPollsEnd S L D K G C =
    (polls : List (Poll S D K G C)) (first last : Engine S L D K G C)
    → All (λ poll. StaysSettled poll.now first) polls
    → ArePolls polls first last
    → ReturnQueue first.core.outbox.queue.items (map (λ poll. poll.out) polls)

-- after as many polls as outputs were queued, one more poll settles the engine for its moment
abbrev pub PollsSettle : (S L D K G C : Type 0) → Type 0
PollsSettle S L D K G C =
    (polls : List (Poll S D K G C)) (now : ℕ) (out : Option (Output S D Stored K G C))
    (first next last : Engine S L D K G C) → ArePolls polls first next
    → length polls ≡ length first.core.outbox.queue.items → IsPoll now out next last
    → StaysSettled now last

-- once a poll has returned nothing, polls at its moment, or at later ones before the wake, return nothing, and nothing
-- changes
abbrev pub EnginesRest : (S L D K G C : Type 0) → Type 0
EnginesRest S L D K G C =
    (now : ℕ) (before first last : Engine S L D K G C) (polls : List (Poll S D K G C))
    → IsPoll now None before first
    → All (λ poll. RestLasts now poll.now first) polls
    → ArePolls polls first last
    → All (λ poll. poll.out ≡ None) polls × StaysAtRest {E = Fault} (Ok None) first last
