-- The certificates that a member accepts and the votes that it signs, read off the code's own steps and replies.
use Rattle.std.specs.Prelude.{◌≡◌, ◌⊎◌, ◌<◌, ℕ, List, [], ◌∷◌, ◌++◌, Contains, Option, Some, None, Result, Ok, Err}
use Rattle.simplex_types.specs.declared.config.Floor.{Floor}
use Rattle.simplex_types.specs.declared.config.Floor.TheVariants as floor
use Rattle.simplex_types.specs.declared.types.messages.Subject.TheVariants as subject
use Rattle.simplex_types.specs.declared.types.window.Terms.{Terms}
use Rattle.simplex_member.specs.declared.member.calls.Call.{Call}
use Rattle.simplex_member.specs.declared.member.calls.Call.TheVariants as call
use Rattle.simplex_member.specs.declared.member.calls.Reply.{Reply}
use Rattle.simplex_member.specs.declared.member.calls.Reply.TheVariants as reply
use Rattle.simplex_member.specs.declared.member.runs.Step.{Step}
use Rattle.simplex_member.specs.declared.member.runs.Step.TheVariants as step
use Rattle.simplex_record.specs.declared.record.start.Start.{Start}
use Rattle.laws_safety.specs.Traces.{TraceEvent, Accepts, Signs}

module _ {S D K G C : Type 0} where
  -- the vote of a reply
  abbrev pub votes_in : Reply S D K G C → List (TraceEvent D)
  votes_in (reply.Notarize (Some vote)) = Signs vote.signer (subject.Notarize vote.proposal) ∷ []
  votes_in (reply.Nullify (Some (_, vote))) = Signs vote.signer (subject.Nullify vote.round) ∷ []
  votes_in (reply.Finalize (Some vote)) = Signs vote.signer (subject.Finalize vote.proposal) ∷ []
  votes_in _ = []

  -- the certificate of a call
  abbrev pub certificates_in : Call S D K G C → List (TraceEvent D)
  certificates_in (call.AddNotarization c) = Accepts (subject.Notarize c.proposal) ∷ []
  certificates_in (call.AddNullification c _) = Accepts (subject.Nullify c.round) ∷ []
  certificates_in (call.AddFinalization c _) = Accepts (subject.Finalize c.proposal) ∷ []
  certificates_in _ = []

  -- it is accepted if the reply says whether it is new
  abbrev pub taken_by : Call S D K G C → Reply S D K G C → List (TraceEvent D)
  taken_by call (reply.Added _ _) = certificates_in call
  taken_by call (reply.AddedNullification _) = certificates_in call
  taken_by call _ = []

  -- the finalization of a floor is accepted
  abbrev pub floor_in : Floor S D K G C → List (TraceEvent D)
  floor_in (floor.Genesis _) = []
  floor_in (floor.Finalized c) = Accepts (subject.Finalize c.proposal) ∷ []

module _ {S L D K G C : Type 0} where
  -- a restart that succeeds accepts its floor's finalization
  abbrev pub taken_in : Step S L D K G C → Reply S D K G C → List (TraceEvent D)
  taken_in (step.Call call) reply = taken_by call reply
  taken_in (step.Restart restart) reply.Restarted = floor_in restart.start.floor
  taken_in _ _ = []

  -- a start accepts it, unless it is refused
  abbrev pub begun_by : {E : Type 0} → Start S L D K G C → Result (Unit {0}) E → List (TraceEvent D)
  begun_by start (Ok _) = floor_in start.floor
  begun_by start (Err _) = []

  -- what the steps and their replies show, in order
  abbrev pub shown_by : List (Step S L D K G C) → List (Reply S D K G C) → List (TraceEvent D)
  shown_by (step ∷ steps) (reply ∷ replies) = (taken_in step reply ++ votes_in reply) ++ shown_by steps replies
  shown_by _ _ = []

  -- all, from the start on
  abbrev pub shown_trace : Start S L D K G C → List (Step S L D K G C) → List (Reply S D K G C) → List (TraceEvent D)
  shown_trace start steps replies = floor_in start.floor ++ shown_by steps replies

module _ {S L D K G C : Type 0} (me : S → Option ℕ) (terms : L → Terms) where
  -- a start has a setup for terms of this many views, not 0, and signs as this member or not at all
  pub record StartsAs (term_length i : ℕ) (start : Start S L D K G C) : Type 0 where
    pub terms_of : (terms start.settings.elector).term_length ≡ term_length
    pub some : 0 < term_length
    pub signs_as : (me start.settings.scheme ≡ Some i) ⊎ (me start.settings.scheme ≡ None)

  -- the same for a start, and for that of each restart
  pub record AllStartAs (term_length i : ℕ) (start : Start S L D K G C) (steps : List (Step S L D K G C)) : Type 0 where
    pub first : StartsAs term_length i start
    pub later : (r : _) → Contains steps (step.Restart r) → StartsAs term_length i r.start
