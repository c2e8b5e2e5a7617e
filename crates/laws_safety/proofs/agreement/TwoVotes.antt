-- For `agreement`.
-- Two votes of one member that cannot both exist, and covering of the views between.
use Rattle.std.proofs.Common.{◌≡◌, ℕ, zero, suc, ◌-◌, ◌/◌, ◌≤◌, List, arith, sym, div-mul-le_self}
use Rattle.std.specs.Prelude.{true}
use Rattle.std.proofs.Math.Nat.{div-zero, mul-le-mul_right}
use Rattle.std.proofs.lemmas.Nat.{le-div}
use Rattle.simplex_types.specs.declared.types.messages.Proposal.{Proposal}
use Rattle.simplex_types.specs.declared.types.messages.Subject.TheVariants as subject
use Rattle.simplex_types.specs.Terms.{covers}
use Rattle.simplex_types.proofs.Covers.{covers_parts, covers_from}
use Rattle.laws_safety.specs.Traces.{TraceEvent}
use Rattle.laws_safety.specs.Lawful.{HasSigned, IsLawful}
use Rattle.laws_safety.proofs.agreement.VoteOrder.{Same, First, Second, in_order}

-- a later view is in no earlier term
div_mono : (a b k : ℕ) → a ≤ b → a / k ≤ b / k
div_mono a b zero h = omega (arith, div-zero a, div-zero b)
div_mono a b (suc k) h = le-div (a / suc k) b (suc k) (omega arith) (omega (arith, div-mul-le_self a (suc k)))

-- what covers a view covers each view from there to that one
pub covers_between : (term_length u w v : ℕ) → covers term_length u v ≡ true → u ≤ w → w ≤ v
    → covers term_length u w ≡ true
covers_between term_length u w v covering low high =
    let parts = covers_parts term_length u v covering in
    let below = mul-le-mul_right term_length (div_mono (u - 1) (w - 1) term_length (omega arith)) in
    let above = mul-le-mul_right term_length (div_mono (w - 1) (v - 1) term_length (omega arith)) in
    covers_from term_length u w low (omega (arith, parts.1, below, above))

notarize_same : {D : Type 0} (p q : Proposal D) → subject.Notarize p ≡ subject.Notarize q → p ≡ q
notarize_same p q e = cc

-- two notarize votes of one member in one view have one proposal
pub one_notarized : {D : Type 0} (term_length : ℕ) (trace : List (TraceEvent D)) (p q : Proposal D)
    → IsLawful term_length trace → HasSigned trace (subject.Notarize p) → HasSigned trace (subject.Notarize q)
    → p.round.view ≡ q.round.view → p ≡ q
one_notarized term_length trace p q lawful has_p has_q same =
    elim (in_order trace (subject.Notarize p) (subject.Notarize q) has_p has_q) [
      | Same e ↦ notarize_same p q e
      | First before at h ↦ absurd (lawful.one_notarize before q p at h same)
      | Second before at h ↦ absurd (lawful.one_notarize before p q at h (sym same))
    ]

finalize_same : {D : Type 0} (p q : Proposal D) → subject.Finalize p ≡ subject.Finalize q → p ≡ q
finalize_same p q e = cc

-- two votes of one member to finalize a view have one proposal
pub one_finalized : {D : Type 0} (term_length : ℕ) (trace : List (TraceEvent D)) (p q : Proposal D)
    → IsLawful term_length trace → HasSigned trace (subject.Finalize p) → HasSigned trace (subject.Finalize q)
    → p.round.view ≡ q.round.view → p ≡ q
one_finalized term_length trace p q lawful has_p has_q same =
    elim (in_order trace (subject.Finalize p) (subject.Finalize q) has_p has_q) [
      | Same e ↦ finalize_same p q e
      | First before at h ↦ absurd (lawful.one_finalize before q p at h same)
      | Second before at h ↦ absurd (lawful.one_finalize before p q at h (sym same))
    ]
