-- A pointer is null, or one into a block.
use Rattle.std.proofs.Common.{◌≡◌, ◌⊎◌, ℕ, inl, inr, refl}
use denote.RawPtr.{Ptr, block_ptr, null_ptr}

pub null_or_not : (p : Ptr) → (p ≡ null_ptr) ⊎ ((b : ℕ) × (o : ℕ) × (p ≡ block_ptr b o))
null_or_not null_ptr = inl refl
null_or_not (block_ptr b o) = inr (b, o, refl)
