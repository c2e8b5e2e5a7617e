-- How a member of a network starts: as many keys as members, and the facts of its start.
use Rattle.std.proofs.Common.{◌≡◌, ℕ, true, List, Option, length, refl}
use Rattle.std.proofs.lemmas.List.FromFn.{length-map-range_with_len}
use Rattle.simplex_types.specs.Config.{Genesis}
use Rattle.simplex_types.specs.Plain.{keys_below, terms_of}
use Rattle.simplex_types.specs.declared.types.plain.PlainDigest.{PlainDigest}
use Rattle.simplex_types.specs.declared.types.plain.PlainElector.{PlainElector}
use Rattle.simplex_types.specs.declared.types.plain.PlainKey.{PlainKey}
use Rattle.simplex_voter.specs.Facts.{Settings}
use Rattle.simplex_record.specs.Start.{StartFacts}

pub count_of_keys : (n : ℕ) → length (keys_below n) ≡ n
count_of_keys n = length-map-range_with_len _ 0 n

-- a start at genesis
abbrev pub at_genesis : Settings → Option ℕ → List PlainKey → PlainElector → PlainDigest → ℕ
    → StartFacts PlainKey PlainElector PlainDigest
at_genesis settings me keys e payload now = record {
  setup = record { settings = settings; me = me; members = keys; elector = e; terms = terms_of e; elects_early = true };
  floor = Genesis payload;
  now = now;
}

pub set_up_alike : (s t : Settings) (me you : Option ℕ) (keys others : List PlainKey) (e : PlainElector)
    (payload : PlainDigest) (now : ℕ) → s ≡ t → me ≡ you → keys ≡ others
    → at_genesis s me keys e payload now ≡ at_genesis t you others e payload now
set_up_alike s t me you keys others e payload now a b c = rw (a, b, c) refl
