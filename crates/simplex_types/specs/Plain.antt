-- The plain parts as contracts see them: a digest's bytes, a scheme's signer and keys, an elector's members and terms.
use Rattle.std.specs.Prelude.{◌≡◌, ℕ, List, map, true, length, Option, ◌<◌, ◌%◌}
use Rattle.std.specs.List.{range_with_len}
use Rattle.std.specs.Str.{bytes_eq}
use Rattle.std.proofs.Common.{ap, refl}
use Rattle.std.proofs.lemmas.Slice.Eq.{bytes_eq-Decides}
use mathlib.Core.HLevel.{Σ_prop_path, hedberg}
use Rattle.std.proofs.Math.Nat.{mod-lt}
use native.Mathlib.Decide.{ℕ_discrete}
use Rattle.simplex_types.specs.declared.types.window.Terms.{Terms}
use Rattle.simplex_types.specs.declared.types.plain.PlainDigest.{PlainDigest}
use Rattle.simplex_types.specs.declared.types.plain.PlainKey.{PlainKey}
use Rattle.simplex_types.specs.declared.types.messages.Subject.{Subject}
use Rattle.simplex_types.specs.declared.types.plain.PlainScheme.{PlainScheme}
use Rattle.simplex_types.specs.declared.types.plain.PlainSignature.{PlainSignature}
use Rattle.simplex_types.specs.declared.types.plain.PlainElector.{PlainElector}
use Rattle.simplex_types.specs.Terms.{term_index}

-- the bytes of a digest
abbrev pub digest_bytes : PlainDigest → List ℕ
digest_bytes d = d.bytes

-- the member that a scheme signs for, if it has a key
abbrev pub signer_of : PlainScheme → Option ℕ
signer_of s = s.signer

-- the keys of all members
abbrev pub keys_of : PlainScheme → List PlainKey
keys_of s = s.keys.items

-- the signature is made with this key, on exactly this subject
abbrev pub IsPlainSignature : PlainKey → Subject PlainDigest → PlainSignature → Type 0
IsPlainSignature key subject signature = (signature.key ≡ key) × (signature.subject ≡ subject)

-- the keys of the members below a number, in order
abbrev pub keys_below : ℕ → List PlainKey
keys_below n = map (λ i. record { 0 = i }) (range_with_len 0 n)

-- how many members the elector chooses among
abbrev pub members_of : PlainElector → ℕ
members_of e = e.count

-- its terms
abbrev pub terms_of : PlainElector → Terms
terms_of e = e.terms

-- the members lead round-robin, a term each
abbrev pub leader_in_turn : PlainElector → ℕ → ℕ
leader_in_turn e view = term_index e.terms.term_length view % e.count

pub same_digest : (d e : PlainDigest) → d.bytes ≡ e.bytes → d ≡ e
same_digest d e same =
    ap (λ (t : (bs : List ℕ) × (length bs ≡ 8)). let made : PlainDigest = record { bytes = t.0; sized = t.1 } in made)
    (Σ_prop_path (λ bs. hedberg ℕ_discrete (length bs) 8) same)

pub digest_from_eq : (d e : PlainDigest) → bytes_eq d.bytes e.bytes ≡ true → d ≡ e
digest_from_eq d e h = same_digest d e ((bytes_eq-Decides d.bytes e.bytes).0 h)

pub digest_eq_self : (d : PlainDigest) → bytes_eq d.bytes d.bytes ≡ true
digest_eq_self d = (bytes_eq-Decides d.bytes d.bytes).1 refl

pub elected_below : (e : PlainElector) (view : ℕ) → leader_in_turn e view < members_of e
elected_below e view = mod-lt (term_index e.terms.term_length view) e.has_members
