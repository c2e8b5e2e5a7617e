-- The call by which a certificate is passed in.
use Rattle.std.specs.Prelude.{ℕ}
use Rattle.simplex_types.specs.Certificates.{CertificateFacts, Notarized, Nullified, Finalized}
use Rattle.simplex_member.specs.Calls.{CallFacts, AddNotarization, AddNullification, AddFinalization}

-- the call that passes a certificate, at a moment
abbrev pub certificate_call : {D : Type 0} → CertificateFacts D → ℕ → CallFacts D
certificate_call (Notarized c) now = AddNotarization c
certificate_call (Nullified c) now = AddNullification c now
certificate_call (Finalized c) now = AddFinalization c now
