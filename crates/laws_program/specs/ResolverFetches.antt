-- What a resolver's transcript says of its fetches: the calls of its lines.
use Rattle.std.specs.Prelude.{◌≡◌, ◌⊎◌, ℕ, ◌+◌, ⊤, List, [], ◌∷◌, ◌++◌, length, Option, Result, Err}
use Rattle.std.specs.Io.KnownBytes.{Keeps, Appends}
use Rattle.simplex_resolver.specs.Steps.{Call, Replayed as EndOfReplay}
use Rattle.simplex_resolver.specs.CallHistory.{LawfulResolverFacts, HasReceivedCalls, OpensTheOutstanding, OpensNone, OpensNoneAgain, AnswersTheReceived}
use Rattle.simplex_program.specs.declared.mode.Mode.TheVariants.{Resolver}
use Rattle.simplex_program.specs.declared.serve_error.ServeError.{ServeError}
use Rattle.simplex_program.specs.declared.serve_error.ServeError.TheVariants.{OutOfMemory}
use Rattle.simplex_program.specs.declared.resolver.Answer.{Answer}
use Rattle.simplex_program.specs.declared.resolver.Answer.TheVariants as answer
use Rattle.simplex_program.specs.declared.resolver_line.ResolverLine.{ResolverLine}
use Rattle.simplex_program.specs.declared.resolver_line.ResolverLine.TheVariants.{Notarization, Nullification, Finalization, Certified, Replayed}
use Rattle.simplex_program.specs.ResolverReplies.{notarization_call, nullification_call, finalization_call, verdict_call}
use Rattle.simplex_program.specs.Line.{without_feed}
use Rattle.simplex_program.specs.Mode.{IsServed}
use Rattle.simplex_program.specs.ResolverLine.{line_words}
use Rattle.simplex_program.specs.ResolverText.{resolver_reply_text}
use Rattle.simplex_program.specs.Transcript.{Resolver as Asks, Point, EndsServing, Transcribes, reply_line}
use Rattle.simplex_program.specs.Words.{words_in}

-- a line with its reply
pub record ResolverTurn : Type 0 where
  pub line : ResolverLine
  pub answer : Answer

-- the call of the resolver that a line makes, if it makes one
abbrev pub call_in : ResolverLine → List Call
call_in (Notarization v) = notarization_call v ∷ []
call_in (Nullification v) = nullification_call v ∷ []
call_in (Finalization v) = finalization_call v ∷ []
call_in (Certified v success) = verdict_call v success ∷ []
call_in Replayed = EndOfReplay ∷ []
call_in _ = []

-- calls are made if the reply is effects
abbrev pub answered_by : Answer → List Call → List Call
answered_by (answer.Effects _) calls = calls
answered_by _ calls = []

-- the calls of the resolver that a line made, by its reply
abbrev pub made_in : ResolverLine → Answer → List Call
made_in line answer = answered_by answer (call_in line)

-- the calls that were made, the last one first
abbrev pub made_by : List ResolverTurn → List Call
made_by [] = []
made_by (turn ∷ turns) = made_by turns ++ made_in turn.line turn.answer

-- the bytes of each line have the words of its turn
abbrev pub AreResolverLines : List (List ℕ) → List ResolverTurn → Type 0
AreResolverLines [] [] = ⊤
AreResolverLines (bytes ∷ lines) (turn ∷ turns) =
    (words_in (without_feed bytes) ≡ line_words turn.line) × AreResolverLines lines turns
AreResolverLines _ _ = ⊥

-- the replies as they are written
abbrev pub resolver_replies : List ResolverTurn → List ℕ
resolver_replies [] = []
resolver_replies (turn ∷ turns) = reply_line (resolver_reply_text turn.answer) ++ resolver_replies turns

-- the laws of all calls that a resolver received
pub record KeepsFetches (term_length : ℕ) (calls : List Call) (r : LawfulResolverFacts) : Type 0 where
  pub wanted : OpensTheOutstanding r term_length calls
  pub none : OpensNone r term_length calls
  pub again : OpensNoneAgain r term_length calls
  pub answers : AnswersTheReceived r term_length calls

-- the lines, and the replies that a writer has besides, make these calls of a resolver, and leave it in this state
pub record IsResolverTranscribed (term_length : ℕ) (lines : List (List ℕ)) (old new : Option (List ℕ))
    (r : LawfulResolverFacts) : Type 0 where
  pub turns : List ResolverTurn
  pub spelled : AreResolverLines lines turns
  pub written : Appends old new (resolver_replies turns)
  pub received : HasReceivedCalls term_length (made_by turns) r
  pub laws : KeepsFetches term_length (made_by turns) r

-- a resolver replied to lines from its start on, and then serving ended; this is its state then
pub record IsServedBy (term_length : ℕ) (held : Option (List ℕ)) (r : Result (Unit {0}) ServeError)
    (after : Option (List ℕ))
    (left : LawfulResolverFacts) : Type 0 where
  pub lines : List (List ℕ)
  pub last : Point
  pub asked : last.asked ≡ Asks left.state left.open_fetches
  pub transcribed : IsResolverTranscribed term_length lines held last.held left
  pub ended : EndsServing last (length lines + 1) r after

-- whatever a resolver's lines are, and however serving ends
abbrev pub ResolverTranscriptsKeepFetches : Type 0
ResolverTranscriptsKeepFetches =
    (term_length : ℕ) (left held : Option (List ℕ)) (r : Result (Unit {0}) ServeError) (after : Option (List ℕ))
    → IsServed (Resolver term_length)
    → Transcribes (Resolver term_length) left held r after
    → ((r ≡ Err OutOfMemory) × Keeps held after)
    ⊎ ((resolver : LawfulResolverFacts) × IsServedBy term_length held r after resolver)
