-- A session, as what lines call.
use Rattle.std.specs.Prelude.{◌≡◌, ℕ, List, ⊤}
use Rattle.simplex_program.specs.declared.serve_error.ServeError.{ServeError}
use Rattle.simplex_program.specs.declared.serve_error.ServeError.TheVariants.{NotACall, OutOfMemory, Read, Write}
use Rattle.simplex_program.specs.declared.session.Session.{Session}
use Rattle.simplex_program.specs.declared.session.Session.TheVariants as session
use Rattle.simplex_program.specs.Transcript.{Asked, Member, Resolver, IsOfNoLine}

-- what lines call: of a voter its network and its member, of a resolver its state and the views with an open fetch
abbrev pub asked_of : Session → Asked
asked_of (session.Voter v) = Member v.network v.member.facts
asked_of (session.Resolver r) = Resolver r.state r.outstanding.keys

-- why the text of line k has no reply: it is no call, or there is no memory
abbrev pub IsNotReplied : ℕ → Asked → List ℕ → ServeError → Type 0
IsNotReplied k asked text (NotACall n) = (n ≡ k) × IsOfNoLine asked text
IsNotReplied k asked text OutOfMemory = ⊤
IsNotReplied k asked text Read = ⊥
IsNotReplied k asked text Write = ⊥
