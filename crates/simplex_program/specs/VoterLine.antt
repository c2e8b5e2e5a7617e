-- The lines that call a voter, by their words.
use Rattle.std.specs.Prelude.{◌≡◌, ◌≢◌, ℕ, ◌^◌, ◌<◌, List, [], ◌∷◌, length, decimal, codes, Option, MatchOption, ⊤}
use Rattle.simplex_types.specs.Reasons.{timeout_reason_text}
use Rattle.simplex_program.specs.Words.{flag_word, ReadsWord}
use Rattle.simplex_program.specs.declared.voter_line.CertificateKind.{CertificateKind}
use Rattle.simplex_program.specs.declared.voter_line.CertificateKind.TheVariants as kind
use Rattle.simplex_program.specs.declared.voter_line.VoterLine.{VoterLine}
use Rattle.simplex_program.specs.declared.voter_line.VoterLine.TheVariants.{Notarization, Nullification, Finalization, Verdict, Notarize, Nullify, Finalize, Broadcast, Best, Prune, Proposal, Release, Propose, Proposed, Supersede, Abandon, Verify, Verified, Rejected, Candidates, Token, Trigger, Timeout, Restart, RestartPruned, Record, Views}

-- a certificate's kind, as lines name it
abbrev pub kind_word : CertificateKind → List ℕ
kind_word kind.Notarization = codes "notarization"
kind_word kind.Nullification = codes "nullification"
kind_word kind.Finalization = codes "finalization"

-- the word names a kind of certificate
abbrev pub ReadsCertificateKind : List ℕ → Option CertificateKind → Type 0
ReadsCertificateKind = ReadsWord kind_word

-- the words of a line
abbrev pub voter_words : VoterLine → List (List ℕ)
voter_words (Notarization view parent payload) = codes "notarization" ∷ decimal view ∷ decimal parent ∷ decimal payload ∷ []
voter_words (Nullification view now) = codes "nullification" ∷ decimal view ∷ decimal now ∷ []
voter_words (Finalization view parent payload now) = codes "finalization" ∷ decimal view ∷ decimal parent ∷ decimal payload ∷ decimal now ∷ []
voter_words (Verdict view success now) = codes "verdict" ∷ decimal view ∷ flag_word success ∷ decimal now ∷ []
voter_words (Notarize view) = codes "notarize" ∷ decimal view ∷ []
voter_words (Nullify view) = codes "nullify" ∷ decimal view ∷ []
voter_words (Finalize view) = codes "finalize" ∷ decimal view ∷ []
voter_words (Broadcast kind view) = codes "broadcast" ∷ kind_word kind ∷ decimal view ∷ []
voter_words Best = codes "best" ∷ []
voter_words Prune = codes "prune" ∷ []
voter_words (Proposal view parent payload) = codes "proposal" ∷ decimal view ∷ decimal parent ∷ decimal payload ∷ []
voter_words (Release view) = codes "release" ∷ decimal view ∷ []
voter_words Propose = codes "propose" ∷ []
voter_words (Proposed view payload now) = codes "proposed" ∷ decimal view ∷ decimal payload ∷ decimal now ∷ []
voter_words (Supersede view) = codes "supersede" ∷ decimal view ∷ []
voter_words (Abandon view) = codes "abandon" ∷ decimal view ∷ []
voter_words Verify = codes "verify" ∷ []
voter_words (Verified view) = codes "verified" ∷ decimal view ∷ []
voter_words (Rejected view now) = codes "rejected" ∷ decimal view ∷ decimal now ∷ []
voter_words Candidates = codes "candidates" ∷ []
voter_words (Token view token) = codes "token" ∷ decimal view ∷ decimal token ∷ []
voter_words (Trigger view reason now) = codes "trigger" ∷ decimal view ∷ timeout_reason_text reason ∷ decimal now ∷ []
voter_words (Timeout now) = codes "timeout" ∷ decimal now ∷ []
voter_words (Restart drop now) = codes "restart" ∷ decimal drop ∷ decimal now ∷ []
voter_words (RestartPruned drop now) = codes "restart-pruned" ∷ decimal drop ∷ decimal now ∷ []
voter_words Record = codes "record" ∷ []
voter_words Views = codes "view" ∷ []

-- its numbers have 64 bits
abbrev pub HasSmallNumbers : VoterLine → Type 0
HasSmallNumbers (Notarization view parent payload) = (view < 2 ^ 64) × (parent < 2 ^ 64) × (payload < 2 ^ 64)
HasSmallNumbers (Nullification view now) = (view < 2 ^ 64) × (now < 2 ^ 64)
HasSmallNumbers (Finalization view parent payload now) =
    (view < 2 ^ 64) × (parent < 2 ^ 64) × (payload < 2 ^ 64) × (now < 2 ^ 64)
HasSmallNumbers (Verdict view success now) = (view < 2 ^ 64) × (now < 2 ^ 64)
HasSmallNumbers (Notarize view) = view < 2 ^ 64
HasSmallNumbers (Nullify view) = view < 2 ^ 64
HasSmallNumbers (Finalize view) = view < 2 ^ 64
HasSmallNumbers (Broadcast kind view) = view < 2 ^ 64
HasSmallNumbers Best = ⊤
HasSmallNumbers Prune = ⊤
HasSmallNumbers (Proposal view parent payload) = (view < 2 ^ 64) × (parent < 2 ^ 64) × (payload < 2 ^ 64)
HasSmallNumbers (Release view) = view < 2 ^ 64
HasSmallNumbers Propose = ⊤
HasSmallNumbers (Proposed view payload now) = (view < 2 ^ 64) × (payload < 2 ^ 64) × (now < 2 ^ 64)
HasSmallNumbers (Supersede view) = view < 2 ^ 64
HasSmallNumbers (Abandon view) = view < 2 ^ 64
HasSmallNumbers Verify = ⊤
HasSmallNumbers (Verified view) = view < 2 ^ 64
HasSmallNumbers (Rejected view now) = (view < 2 ^ 64) × (now < 2 ^ 64)
HasSmallNumbers Candidates = ⊤
HasSmallNumbers (Token view token) = (view < 2 ^ 64) × (token < 2 ^ 64)
HasSmallNumbers (Trigger view reason now) = (view < 2 ^ 64) × (now < 2 ^ 64)
HasSmallNumbers (Timeout now) = now < 2 ^ 64
HasSmallNumbers (Restart drop now) = (drop < 2 ^ 64) × (now < 2 ^ 64)
HasSmallNumbers (RestartPruned drop now) = (drop < 2 ^ 64) × (now < 2 ^ 64)
HasSmallNumbers Record = ⊤
HasSmallNumbers Views = ⊤

-- the line has this number of words
abbrev pub HasVoterWords : ℕ → VoterLine → Type 0
HasVoterWords count line = length (voter_words line) ≡ count

-- the line that the words ask for, and none if they ask for none with this number of words
abbrev pub ReadsVoterLineOf : ℕ → List (List ℕ) → Option VoterLine → Type 0
ReadsVoterLineOf count words r = MatchOption r
    ((line : VoterLine) → HasVoterWords count line → HasSmallNumbers line → words ≢ voter_words line)
    (λ line. words ≡ voter_words line)

-- the line that the words ask for, and none if they ask for none
abbrev pub ReadsVoterLine : List (List ℕ) → Option VoterLine → Type 0
ReadsVoterLine words r = MatchOption r
    ((line : VoterLine) → HasSmallNumbers line → words ≢ voter_words line)
    (λ line. words ≡ voter_words line)
