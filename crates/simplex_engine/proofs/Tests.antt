-- Tests of which one or the other holds.
use Rattle.std.proofs.Common.{◌≡◌, refl, sym, Bool, true, false, ◌||◌}
use Rattle.std.proofs.lemmas.Bool.{false≢true}

pub or_none : (t : Bool) → (t || false) ≡ t
or_none true = refl
or_none false = refl

pub or_nothing : (a : Bool) → (a || false) ≡ true → a ≡ true
or_nothing true is = refl
or_nothing false is = is

pub not_or : (a b : Bool) → (a || b) ≡ false → (a ≡ false) × (b ≡ false)
not_or true b is = absurd (false≢true (sym is))
not_or false b is = (refl, is)
