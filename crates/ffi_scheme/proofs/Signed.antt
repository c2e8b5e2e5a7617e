-- Bytes that are written after others, and signatures that are written one by one.
use Rattle.std.proofs.Common.{◌≡◌, ◌<◌, ◌+◌, ℕ, suc, List, [], ◌∷◌, ◌++◌, length, take, get_or, arith, ap, sym, subst, ◌∙◌}
use Rattle.std.specs.List.{flat_map}
use Rattle.std.proofs.Math.Seq.{take-suc}
use Rattle.std.proofs.lemmas.Grind.{common_steps, flat_map-append}
use Rattle.ffi_scheme.specs.declared.scheme.Order.{Order}
use Rattle.ffi_scheme.specs.HostCertificates.{signature_bytes, signed_bytes}

-- three parts, one after another
pub three_behind : (old one two three first second : List ℕ) → first ≡ old ++ one → second ≡ first ++ two
    → second ++ three ≡ old ++ (one ++ (two ++ three))
three_behind old one two three first second put more = grind (arith, common_steps, put, more)

-- one signature more
more_taken : (signatures : List (ℕ × Order)) (i : ℕ) (signed : ℕ × Order) → i < length signatures
    → get_or signatures i signed ≡ signed
    → take (i + 1) signatures ≡ take i signatures ++ (signed ∷ [])
more_taken signatures i signed low is =
    let next : suc i ≡ i + 1 = omega arith in
    subst (λ n. take n signatures ≡ take i signatures ++ (signed ∷ [])) next
    (take-suc signatures i signed low ∙ ap (λ s. take i signatures ++ (s ∷ [])) is)

one_signed : (signed : ℕ × Order) → signed_bytes (signed ∷ []) ≡ signature_bytes signed.0 signed.1
one_signed signed = grind (arith, common_steps)

-- comes after those before it
pub signed_more : (signatures : List (ℕ × Order)) (i : ℕ) (signed : ℕ × Order) (out new : List ℕ)
    → i < length signatures
    → get_or signatures i signed ≡ signed → out ≡ signed_bytes (take i signatures)
    → new ≡ out ++ signature_bytes signed.0 signed.1
    → new ≡ signed_bytes (take (i + 1) signatures)
signed_more signatures i signed out new low is so put =
    put ∙ (ap (λ o. o ++ signature_bytes signed.0 signed.1) so
    ∙ (ap (λ b. signed_bytes (take i signatures) ++ b) (sym (one_signed signed))
    ∙ (sym (flat_map-append (λ s. signature_bytes s.0 s.1) (take i signatures) (signed ∷ []))
    ∙ ap signed_bytes (sym (more_taken signatures i signed low is)))))
