-- What a voter's transcript says of its member: the steps of its lines, and their replies.
use Rattle.std.specs.Prelude.{◌≡◌, ◌⊎◌, ℕ, ◌+◌, ⊤, Bool, true, false, List, [], ◌∷◌, ◌++◌, length, Option, Some, None, MatchOption, Result, Err}
use Rattle.std.specs.Io.KnownBytes.{Keeps, Appends}
use Rattle.simplex_types.specs.declared.types.plain.PlainDigest.{PlainDigest}
use Rattle.simplex_types.specs.declared.types.plain.PlainElector.{PlainElector}
use Rattle.simplex_types.specs.declared.types.plain.PlainKey.{PlainKey}
use Rattle.simplex_member.specs.Calls.{ReplyFacts, reply_facts}
use Rattle.simplex_member.specs.Restarts.{RestartFacts}
use Rattle.simplex_member.specs.Runs.{StepFacts, Calls, Prunes, Restarts, restart_reply}
use Rattle.laws_safety.specs.Lawful.{IsLawful}
use Rattle.laws_safety.specs.Executions.{trace_of, IsExecution}
use Rattle.laws_safety.specs.PlainNetwork.{PlainExecution}
use Rattle.simplex_program.specs.declared.mode.Mode.TheVariants.{Voter}
use Rattle.simplex_program.specs.declared.network.Network.{Network}
use Rattle.simplex_program.specs.declared.serve_error.ServeError.{ServeError}
use Rattle.simplex_program.specs.declared.serve_error.ServeError.TheVariants.{OutOfMemory}
use Rattle.simplex_program.specs.declared.voter_line.VoterLine.{VoterLine}
use Rattle.simplex_program.specs.declared.voter_line.VoterLine.TheVariants.{Restart, RestartPruned, Record, Views}
use Rattle.simplex_program.specs.declared.voter.VoterAnswer.{VoterAnswer}
use Rattle.simplex_program.specs.declared.voter.VoterAnswer.TheVariants as answer
use Rattle.simplex_program.specs.Line.{without_feed}
use Rattle.simplex_program.specs.Mode.{IsServed}
use Rattle.simplex_program.specs.Plain.{same_payload, plain_leader, plain_bytes}
use Rattle.simplex_program.specs.Setup.{IsGenesisStart}
use Rattle.simplex_program.specs.Texts.{text_of}
use Rattle.simplex_program.specs.Transcript.{Point, EndsServing, IsNamed, Transcribes, reply_line}
use Rattle.simplex_program.specs.Voter.{DenotesCall}
use Rattle.simplex_program.specs.VoterLine.{voter_words}
use Rattle.simplex_program.specs.VoterText.{voter_reply_words}
use Rattle.simplex_program.specs.Words.{words_in}

-- the parts of an execution, of a member of plain parts

-- a step of a plain member
abbrev pub PlainStep : Type 0
PlainStep = StepFacts PlainKey PlainElector PlainDigest

-- the reply to it
abbrev pub PlainReplyFacts : Type 0
PlainReplyFacts = ReplyFacts PlainKey PlainDigest

-- a line with its reply
pub record VoterTurn : Type 0 where
  pub line : VoterLine
  pub answer : VoterAnswer

-- what a line that asks for a restart says: how many entries are dropped, the moment, and whether the record is pruned
abbrev pub restart_in : VoterLine → Option (ℕ × ℕ × Bool)
restart_in (Restart drop now) = Some (drop, now, false)
restart_in (RestartPruned drop now) = Some (drop, now, true)
restart_in _ = None

-- a restart of the network's member at genesis, as a line asks for it
abbrev pub IsRestartAsked : Network → VoterLine → RestartFacts PlainKey PlainElector PlainDigest → Type 0
IsRestartAsked n line r =
    MatchOption (restart_in line) ⊥
    (λ asked. IsGenesisStart n asked.1 r.start × (r.drop ≡ asked.0) × (r.prune ≡ asked.2))

-- the step of a line; no line prunes the record within a lifetime
abbrev pub IsStepOf : Network → VoterLine → PlainStep → Type 0
IsStepOf n line (Calls call) = DenotesCall line call
IsStepOf n line Prunes = ⊥
IsStepOf n line (Restarts r) = IsRestartAsked n line r

-- the step's reply is the line's
abbrev pub TellsAnswer : VoterAnswer → PlainReplyFacts → Type 0
TellsAnswer (answer.Reply reply) t = t ≡ reply_facts plain_bytes reply
TellsAnswer (answer.Restarted result) t = t ≡ restart_reply result
TellsAnswer _ t = ⊥

-- a line that only shows something is no step
abbrev pub only_shows : VoterLine → Bool
only_shows Record = true
only_shows Views = true
only_shows _ = false

-- the steps of the lines in order, and their replies
abbrev pub AreSteps : Network → List VoterTurn → List PlainStep → List PlainReplyFacts → Type 0
AreSteps n [] steps replies = (steps ≡ []) × (replies ≡ [])
AreSteps n (turn ∷ turns) steps replies =
    ((only_shows turn.line ≡ true) × AreSteps n turns steps replies)
    ⊎ ((step : PlainStep) × (t : PlainReplyFacts) × (rest : List PlainStep) × (others : List PlainReplyFacts)
    × (steps ≡ step ∷ rest) × (replies ≡ t ∷ others)
    × IsStepOf n turn.line step × TellsAnswer turn.answer t × AreSteps n turns rest others)

-- the bytes of each line have the words of its turn
abbrev pub AreVoterLines : List (List ℕ) → List VoterTurn → Type 0
AreVoterLines [] [] = ⊤
AreVoterLines (bytes ∷ lines) (turn ∷ turns) =
    (words_in (without_feed bytes) ≡ voter_words turn.line) × AreVoterLines lines turns
AreVoterLines _ _ = ⊥

-- the replies as they are written
abbrev pub voter_replies : List VoterTurn → List ℕ
voter_replies [] = []
voter_replies (turn ∷ turns) = reply_line (text_of (voter_reply_words turn.answer)) ++ voter_replies turns

-- the lines, and the replies that a writer has besides, are this execution of the network's member
pub record IsTranscribed (n : Network) (lines : List (List ℕ)) (old new : Option (List ℕ))
    (s : PlainExecution) : Type 0 where
  pub start : IsGenesisStart n 0 s.start
  pub turns : List VoterTurn
  pub spelled : AreVoterLines lines turns
  pub written : Appends old new (voter_replies turns)
  pub steps : AreSteps n turns s.steps s.replies

-- whichever member of a network it signs as, it is what that member does; and its trace keeps the voting rules
pub record IsLawfulOf (n : Network) (s : PlainExecution) : Type 0 where
  pub ran : (i : ℕ) → (n.me ≡ Some i) ⊎ (n.me ≡ None) → IsExecution same_payload plain_leader n.term_length i s
  pub lawful : IsLawful n.term_length (trace_of s)

-- a network's member replied to lines as this execution, from its start on, and then serving ended
pub record IsServedAs (n : Network) (held : Option (List ℕ)) (r : Result (Unit {0}) ServeError)
    (after : Option (List ℕ)) (s : PlainExecution) : Type 0 where
  pub lines : List (List ℕ)
  pub last : Point
  pub transcribed : IsTranscribed n lines held last.held s
  pub ended : EndsServing last (length lines + 1) r after

-- whatever a voter's lines are, and however serving ends: unless memory runs out at the start, there is a lawful
-- execution
abbrev pub VoterTranscriptsAreLawful : Type 0
VoterTranscriptsAreLawful =
    (members : ℕ) (me : Option ℕ) (term_length optimistic : ℕ) (left held : Option (List ℕ))
    (r : Result (Unit {0}) ServeError) (after : Option (List ℕ))
    → IsServed (Voter members me term_length optimistic)
    → Transcribes (Voter members me term_length optimistic) left held r after
    → ((r ≡ Err OutOfMemory) × Keeps held after)
    ⊎ ((n : Network) × (s : PlainExecution) × IsNamed members me term_length optimistic n × IsServedAs n held r after s
    × IsLawfulOf n s)
