-- How a member of a network is set up, and how it starts at genesis.
use Rattle.std.specs.Prelude.{◌≡◌, ℕ, true, None}
use Rattle.std.specs.Int.{w64, to_be_bytes}
use Rattle.simplex_types.specs.declared.types.plain.PlainCertificate.{PlainCertificate}
use Rattle.simplex_types.specs.declared.types.plain.PlainDigest.{PlainDigest}
use Rattle.simplex_types.specs.declared.types.plain.PlainElector.{PlainElector}
use Rattle.simplex_types.specs.declared.types.plain.PlainKey.{PlainKey}
use Rattle.simplex_types.specs.declared.types.plain.PlainScheme.{PlainScheme}
use Rattle.simplex_types.specs.declared.types.plain.PlainSignature.{PlainSignature}
use Rattle.simplex_types.specs.declared.types.window.Terms.{Terms}
use Rattle.simplex_types.specs.Config.{Genesis}
use Rattle.simplex_types.specs.Plain.{digest_bytes, members_of, terms_of, keys_below, signer_of, keys_of}
use Rattle.simplex_voter.specs.Facts.{Settings}
use Rattle.simplex_voter.specs.StateView.{settings_of}
use Rattle.simplex_voter.specs.declared.voter.state.Config.{Config}
use Rattle.simplex_record.specs.declared.record.start.Start.{Start}
use Rattle.simplex_record.specs.Start.{StartFacts, start_facts, new_state}
use Rattle.simplex_member.specs.Start.{started_member}
use Rattle.simplex_program.specs.declared.network.Network.{Network}
use Rattle.simplex_program.specs.Plain.{PlainMember, same_payload, plain_leader, plain_bytes}

-- epoch 1, retention 10, timeouts 1000 and 2000, retry 500, and a skip budget of as many terms as members
abbrev pub network_settings : Network → Settings
network_settings n = record {
  epoch = 1;
  view_retention = 10;
  leader_timeout = 1000;
  certification_timeout = 2000;
  timeout_retry = 500;
  skip_budget = n.members;
}

-- terms without a stall timeout
abbrev pub network_terms : Network → Terms
network_terms n = record { term_length = n.term_length; optimistic_views = n.optimistic; stall_timeout = None }

-- a configuration of a member of the network
pub record IsNetworkConfig {C G : Type 0} (n : Network)
    (c : Config PlainScheme PlainElector PlainKey C G) : Type 0 where
  pub count : members_of c.elector ≡ n.members
  pub terms : terms_of c.elector ≡ network_terms n
  pub signer : signer_of c.scheme ≡ n.me
  pub keys : keys_of c.scheme ≡ keys_below n.members
  pub settings : settings_of c ≡ network_settings n

-- an elector of the network, and the payload of genesis, 0
pub record IsGenesis (n : Network) (e : PlainElector) (d : PlainDigest) : Type 0 where
  pub count : members_of e ≡ n.members
  pub terms : terms_of e ≡ network_terms n
  pub payload : digest_bytes d ≡ to_be_bytes w64 0

-- how a member of the network starts at genesis
abbrev pub genesis_start : Network → PlainElector → PlainDigest → ℕ → StartFacts PlainKey PlainElector PlainDigest
genesis_start n e payload now = record {
  setup = record {
    settings = network_settings n;
    me = n.me;
    members = keys_below n.members;
    elector = e;
    terms = terms_of e;
    elects_early = true;
  };
  floor = Genesis payload;
  now = now;
}

-- a start at genesis of the network, at this moment
abbrev pub IsGenesisStart : Network → ℕ → StartFacts PlainKey PlainElector PlainDigest → Type 0
IsGenesisStart n now start =
    (e : PlainElector) × (payload : PlainDigest) × IsGenesis n e payload × (start ≡ genesis_start n e payload now)

-- a start of plain parts, as facts
abbrev pub plain_start : Start PlainScheme PlainElector PlainDigest PlainKey PlainSignature PlainCertificate
    → StartFacts PlainKey PlainElector PlainDigest
plain_start start = start_facts signer_of keys_of terms_of (λ _. true) plain_bytes start

-- a member that has started at genesis of the network, at moment 0
abbrev pub StartsAtGenesis : Network → PlainMember → Type 0
StartsAtGenesis n m =
    (start : StartFacts PlainKey PlainElector PlainDigest)
    × IsGenesisStart n 0 start
    × (m ≡ started_member same_payload plain_leader (new_state start.setup) start.floor start.now)
