-- Who signed what.
use Rattle.std.specs.Prelude.{◌≡◌, ℕ, List, Option, Some, slice_get}
use Rattle.simplex_types.specs.declared.types.messages.Subject.{Subject}

-- the signature is one on exactly this subject, under the key of this member
pub record IsSignedAs {K G D : Type 0} (is_signature : K → Subject D → G → Type 0) (me : Option ℕ) (members : List K)
    (subject : Subject D) (signature : G) : Type 0 where
  pub signer : ℕ
  pub is_me : me ≡ Some signer
  pub key : K
  pub is_key : slice_get members signer ≡ Some key
  pub good : is_signature key subject signature
