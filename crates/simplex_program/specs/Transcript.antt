-- What serving writes, line by line, and how it ends.
use Rattle.std.specs.Prelude.{◌≡◌, ◌≢◌, ℕ, ◌+◌, ◌-◌, ◌^◌, ◌<◌, ◌⊎◌, List, [], ◌∷◌, ◌++◌, length, Bool, true, false, Option, Result, Ok, Err}
use Rattle.std.specs.Io.KnownBytes.{Keeps, Appends, IsAtEnd}
use Rattle.std.specs.Str.{IsUtf8}
use Rattle.simplex_resolver.specs.Facts.{ResolverFacts, empty}
use Rattle.simplex_program.specs.declared.mode.Mode.{Mode}
use Rattle.simplex_program.specs.declared.mode.Mode.TheVariants as mode
use Rattle.simplex_program.specs.declared.network.Network.{Network}
use Rattle.simplex_program.specs.declared.serve_error.ServeError.{ServeError}
use Rattle.simplex_program.specs.declared.serve_error.ServeError.TheVariants.{NotACall, OutOfMemory, Read, Write}
use Rattle.simplex_program.specs.declared.resolver.Answer.{Answer}
use Rattle.simplex_program.specs.declared.resolver_line.ResolverLine.{ResolverLine}
use Rattle.simplex_program.specs.declared.voter.VoterAnswer.{VoterAnswer}
use Rattle.simplex_program.specs.declared.voter_line.VoterLine.{VoterLine}
use Rattle.simplex_program.specs.ResolverReplies.{ResolverAnswers}
use Rattle.simplex_program.specs.Line.{without_feed, IsNextLine}
use Rattle.simplex_program.specs.Plain.{PlainMember}
use Rattle.simplex_program.specs.ResolverLine.{HasSmallView, line_words}
use Rattle.simplex_program.specs.ResolverText.{resolver_reply_text}
use Rattle.simplex_program.specs.Setup.{StartsAtGenesis}
use Rattle.simplex_program.specs.Texts.{text_of}
use Rattle.simplex_program.specs.Voter.{VoterAnswers}
use Rattle.simplex_program.specs.VoterLine.{HasSmallNumbers, voter_words}
use Rattle.simplex_program.specs.VoterText.{voter_reply_words}
use Rattle.simplex_program.specs.Words.{words_in}

-- what lines call: a member of a network, or a resolver and the views with an open fetch
pub data Asked : Type 0 where
  Member : Network → PlainMember → Asked
  Resolver : ResolverFacts → List ℕ → Asked

-- the network that the arguments name
abbrev pub IsNamed : ℕ → Option ℕ → ℕ → ℕ → Network → Type 0
IsNamed members me term_length optimistic n =
    (n.members ≡ members) × (n.me ≡ me) × (n.term_length ≡ term_length) × (n.optimistic ≡ optimistic)

-- how what lines call begins
abbrev pub Begins : Mode → Asked → Type 0
Begins (mode.Voter members me term_length optimistic) (Member n m) =
    IsNamed members me term_length optimistic n × StartsAtGenesis n m
Begins (mode.Resolver term_length) (Resolver x fetching) = (x ≡ empty term_length) × (fetching ≡ [])
Begins _ _ = ⊥

-- a reply as it is written, with its line feed
abbrev pub reply_line : List ℕ → List ℕ
reply_line text = text ++ 10 ∷ []

-- the text asks for a line, which has a reply; the reply, and what lines call after it
abbrev pub Replies : Asked → List ℕ → List ℕ → Asked → Type 0
Replies (Member n m) text reply (Member o left) =
    (line : VoterLine) × (answer : VoterAnswer) × (words_in text ≡ voter_words line)
    × VoterAnswers n m line answer left × (o ≡ n) × (reply ≡ reply_line (text_of (voter_reply_words answer)))
Replies (Resolver x fetching) text reply (Resolver y left) =
    (line : ResolverLine) × (answer : Answer) × (words_in text ≡ line_words line)
    × ResolverAnswers x fetching line answer y left × (reply ≡ reply_line (resolver_reply_text answer))
Replies _ _ _ _ = ⊥

-- the words of a text are those of no line
abbrev pub IsOfNoLine : Asked → List ℕ → Type 0
IsOfNoLine (Member _ _) text = (line : VoterLine) → HasSmallNumbers line → words_in text ≢ voter_words line
IsOfNoLine (Resolver _ _) text = (line : ResolverLine) → HasSmallView line → words_in text ≢ line_words line

-- a line is no call: it is longer than 200 bytes, not UTF-8, or no line of the program
abbrev pub IsNoCall : Asked → List ℕ → Type 0
IsNoCall asked line = (200 < length (without_feed line))
    ⊎ (¬ (IsUtf8 (without_feed line)) ⊎ IsOfNoLine asked (without_feed line))

-- the state of serving: what the next line calls, the bytes that the reader has left and those that the writer has, if
-- they are known
pub record Point : Type 0 where
  pub asked : Asked
  pub left : Option (List ℕ)
  pub held : Option (List ℕ)

-- the next line is a call, with this reply; no byte of it is written yet
abbrev pub IsCalled : Point → List ℕ → List ℕ → Asked → Option (List ℕ) → Type 0
IsCalled p line reply asked left = IsNextLine p.left line left × Replies p.asked (without_feed line) reply asked

-- a line is replied to, and its reply is written
abbrev pub IsLineAnswered : Point → List ℕ → Point → Type 0
IsLineAnswered p line q = (reply : List ℕ) × IsCalled p line reply q.asked q.left × Appends p.held q.held reply

-- lines are replied to one by one
abbrev pub AreAnswered : Point → List (List ℕ) → Point → Type 0
AreAnswered p [] q = p ≡ q
AreAnswered p (line ∷ lines) q = (r : Point) × IsLineAnswered p line r × AreAnswered r lines q

-- a prefix of the bytes is written
abbrev pub AppendsFront : Option (List ℕ) → Option (List ℕ) → List ℕ → Type 0
AppendsFront old new bytes = (front : List ℕ) × (others : List ℕ) × (bytes ≡ front ++ others) × Appends old new front

-- how serving ends before line k, and what the writer has then: because no byte is left, or after 2^64 - 2 lines; at a
-- line that is no call; because a read or a write failed; or because memory ran out. No byte of a reply is written,
-- unless a write failed
abbrev pub EndsServing : Point → ℕ → Result (Unit {0}) ServeError → Option (List ℕ) → Type 0
EndsServing p k (Ok _) held = (IsAtEnd p.left ⊎ (k ≡ 2 ^ 64 - 1)) × Keeps p.held held
EndsServing p k (Err (NotACall n)) held =
    (n ≡ k) × Keeps p.held held
    × ((line : List ℕ) × (rest : Option (List ℕ)) × IsNextLine p.left line rest × IsNoCall p.asked line)
EndsServing p k (Err OutOfMemory) held = Keeps p.held held
EndsServing p k (Err Read) held = Keeps p.held held
EndsServing p k (Err Write) held =
    (line : List ℕ) × (reply : List ℕ) × (asked : Asked) × (left : Option (List ℕ)) × IsCalled p line reply asked left
    × AppendsFront p.held held reply

-- one turn of serving, before line k: a line is replied to; or no byte is left; or serving ends
abbrev pub Advances : Point → ℕ → Result Bool ServeError → Point → Type 0
Advances p k (Ok true) q = (line : List ℕ) × IsLineAnswered p line q
Advances p k (Ok false) q = IsAtEnd p.left × Keeps p.held q.held
Advances p k (Err e) q = EndsServing p k (Err e) q.held

-- from some point on: lines are replied to, and then serving ends
abbrev pub Continues : Point → Result (Unit {0}) ServeError → Option (List ℕ) → Type 0
Continues p r held = (lines : List (List ℕ)) × (q : Point) × AreAnswered p lines q
    × EndsServing q (length lines + 1) r held

-- serving in a mode: what the reader has left and what the writer has before, how it ends, and what the writer has then
abbrev pub Transcribes : Mode → Option (List ℕ) → Option (List ℕ) → Result (Unit {0}) ServeError
    → Option (List ℕ) → Type 0
Transcribes mode left held r after =
    ((r ≡ Err OutOfMemory) × Keeps held after)
    ⊎ ((asked : Asked) × Begins mode asked × Continues (record { asked = asked; left = left; held = held }) r after)
