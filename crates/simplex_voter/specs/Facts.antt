-- What a state knows, as plain data. Each result of its calls is a function of it.
use Rattle.std.specs.Prelude.{ℕ, Bool, false, List, [], Option, None, is_some, unwrap_or, if◌then◌else◌}
use Rattle.std.specs.Ordering.{nat_cmp}
use Rattle.std.specs.FinMap.Entries.{find, put}
use Rattle.simplex_types.specs.declared.types.numbers.Round.{Round}
use Rattle.simplex_types.specs.declared.types.window.Terms.{Terms}
use Rattle.simplex_round.specs.Round.{RoundFacts, new_round}

-- the setup of a member; times are in milliseconds
pub record Settings : Type 0 where
  pub epoch : ℕ
  -- how many views below the last finalized one are retained
  pub view_retention : ℕ
  -- from the entry of a view to its deadlines
  pub leader_timeout : ℕ
  pub certification_timeout : ℕ
  -- from the first poll after a nullify vote to its repeat
  pub timeout_retry : ℕ
  -- a latched timeout counts while fewer terms than this were skipped
  pub skip_budget : ℕ

-- all that later results depend on; K are the members' keys, L the elector, D the payloads
pub record StateFacts (K L D : Type 0) : Type 0 where
  pub settings : Settings
  -- this member's index, if it can sign
  pub me : Option ℕ
  pub members : List K
  pub elector : L
  -- how the elector divides the views into terms, and whether it elects before any certificate
  pub terms : Terms
  pub elects_early : Bool
  pub genesis : Option D
  pub current : ℕ
  pub finalized : ℕ
  -- the moment of the last call that carried one
  pub moment : ℕ
  -- the views that wait for certification, rising
  pub named : List ℕ
  -- the views with a nullification, and those that this member voted to nullify, rising
  pub nullified : List ℕ
  pub nullify_votes : List ℕ
  -- the tracked views with what is known of each, rising
  pub rounds : List (ℕ × RoundFacts K D)
  -- a call ran out of memory
  pub failed : Bool

-- the leader of a round, after a certificate of these bytes
abbrev pub Elect : Type 0 → Type 0
Elect L = L → Round → Option (List ℕ) → ℕ

module _ {K L D : Type 0} where
  -- what a new state knows: its setup
  abbrev pub new_facts : Settings → Option ℕ → List K → L → Terms → Bool → StateFacts K L D
  new_facts settings me members elector terms elects_early = record {
    settings = settings;
    me = me;
    members = members;
    elector = elector;
    terms = terms;
    elects_early = elects_early;
    genesis = None;
    current = 0;
    finalized = 0;
    moment = 0;
    named = [];
    nullified = [];
    nullify_votes = [];
    rounds = [];
    failed = false;
  }

  -- the round of a tracked view
  abbrev pub round_at : StateFacts K L D → ℕ → Option (RoundFacts K D)
  round_at x v = find nat_cmp v x.rounds

  -- something is known of the view
  abbrev pub is_tracked : StateFacts K L D → ℕ → Bool
  is_tracked x v = is_some (round_at x v)

  -- the view in this epoch
  abbrev pub round_number : StateFacts K L D → ℕ → Round
  round_number x v = record { epoch = x.settings.epoch; view = v }

  -- what is known of a view: nothing, if it isn't tracked
  abbrev pub round_of : StateFacts K L D → ℕ → RoundFacts K D
  round_of x v = unwrap_or (round_at x v) (new_round x.me x.members (round_number x v))

  -- the facts with another round at a view, which is tracked from then on
  abbrev pub with_round : StateFacts K L D → ℕ → RoundFacts K D → StateFacts K L D
  with_round x v r = record x { rounds = put nat_cmp v r x.rounds }

  -- the same, if the view is tracked already
  abbrev pub with_tracked : StateFacts K L D → ℕ → RoundFacts K D → StateFacts K L D
  with_tracked x v r = if is_tracked x v then with_round x v r else x
