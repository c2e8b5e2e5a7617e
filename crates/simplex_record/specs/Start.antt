-- The setup and the start of a state, and the error that ends a start.
use Rattle.std.specs.Prelude.{◌≡◌, ℕ, Bool, List, Option, MatchOption}
use Rattle.simplex_types.specs.Config.{FloorFacts, floor_facts}
use Rattle.simplex_types.specs.declared.types.fault.Fault.{Fault}
use Rattle.simplex_types.specs.declared.types.fault.Fault.TheVariants as fault
use Rattle.simplex_types.specs.declared.types.window.Terms.{Terms}
use Rattle.simplex_voter.specs.declared.voter.state.Config.{Config}
use Rattle.simplex_voter.specs.Facts.{StateFacts, Settings, new_facts}
use Rattle.simplex_voter.specs.StateView.{settings_of}
use Rattle.simplex_record.specs.declared.record.error.RecoverError.{RecoverError}
use Rattle.simplex_record.specs.declared.record.error.RecoverError.TheVariants as error
use Rattle.simplex_record.specs.declared.record.start.Start.{Start}

-- the setup of a state
pub record Setup (K L : Type 0) : Type 0 where
  pub settings : Settings
  pub me : Option ℕ
  pub members : List K
  pub elector : L
  pub terms : Terms
  pub elects_early : Bool

-- the setup of these settings, as plain data
abbrev pub setup_of : {S L K G C : Type 0} → (S → Option ℕ) → (S → List K) → (L → Terms) → (L → Bool)
    → Config S L K G C → Setup K L
setup_of me members terms elects_early c = record {
  settings = settings_of c;
  me = me c.scheme;
  members = members c.scheme;
  elector = c.elector;
  terms = terms c.elector;
  elects_early = elects_early c.elector;
}

-- what a new state knows: only its setup
abbrev pub new_state : {K L D : Type 0} → Setup K L → StateFacts K L D
new_state s = new_facts s.settings s.me s.members s.elector s.terms s.elects_early

-- what a new state of these settings knows
abbrev pub set_up : {S L D K G C : Type 0} → (S → Option ℕ) → (S → List K) → (L → Terms) → (L → Bool) → Config S L K G C
    → StateFacts K L D
set_up me members terms elects_early c = new_state (setup_of me members terms elects_early c)

-- the start of a member: the setup of its state, the floor, and the moment in milliseconds
pub record StartFacts (K L D : Type 0) : Type 0 where
  pub setup : Setup K L
  pub floor : FloorFacts D
  pub now : ℕ

-- a start, as plain data
abbrev pub start_facts : {S L D K G C : Type 0} → (S → Option ℕ) → (S → List K) → (L → Terms) → (L → Bool)
    → (C → List ℕ) → Start S L D K G C → StartFacts K L D
start_facts me members terms elects_early bytes_of start = record {
  setup = setup_of me members terms elects_early start.settings;
  floor = floor_facts bytes_of start.floor;
  now = start.now;
}

-- the error that applies, and if none does, out of memory
abbrev pub IsErrorDue : Option RecoverError → RecoverError → Type 0
IsErrorDue due found = MatchOption due (found ≡ error.OutOfMemory) (λ e. found ≡ e)

-- the error of a start for a fault in setting a good floor
abbrev pub error_of : Fault → RecoverError
error_of fault.TimeOverflow = error.TimeOverflow
error_of _ = error.OutOfMemory
