-- A record's entries in the bytes of a journal.
use Rattle.std.specs.Prelude.{◌≡◌, ◌⊎◌, ◌<◌, ◌≤◌, ◌+◌, ◌^◌, ℕ, zero, suc, List, ◌++◌, length}
use Rattle.std.specs.List.{flat_map, Contains}
use Rattle.simplex_types.specs.declared.types.messages.Artifact.{Artifact}
use Rattle.simplex_codec.specs.declared.digest.BytesDigest.{BytesDigest}
use Rattle.simplex_codec.specs.Artifacts.{artifact_bytes, IsArtifactRefusal}
use Rattle.simplex_codec.specs.Digests.{bytes_in_digest}
use Rattle.simplex_codec.specs.Frames.{frame, HasNoFrame, IsCut}
use Rattle.ffi_scheme.specs.declared.scheme.HostCertificate.{HostCertificate}
use Rattle.ffi_scheme.specs.declared.scheme.HostKey.{HostKey}
use Rattle.ffi_scheme.specs.declared.scheme.HostScheme.{HostScheme}
use Rattle.ffi_scheme.specs.declared.scheme.Order.{Order}
use Rattle.ffi_scheme.specs.Host.{certificate_bytes, order_bytes, order_of}
use Rattle.ffi_member.specs.declared.journal.NotRead.{NotRead}
use Rattle.ffi_member.specs.declared.journal.NotRead.TheVariants as not_read
use Rattle.ffi_member.specs.declared.journal.NotWritten.{NotWritten}
use Rattle.ffi_member.specs.declared.journal.NotWritten.TheVariants as not_written
use Rattle.ffi_member.specs.declared.view_types.FlatScan.{FlatScan}

-- an entry of a record of a member of the host
abbrev pub HostArtifact : Type 0
HostArtifact = Artifact HostScheme (BytesDigest 32) HostKey Order HostCertificate

-- the bytes of an entry
abbrev pub entry_bytes : HostArtifact → List ℕ
entry_bytes a = artifact_bytes bytes_in_digest certificate_bytes order_bytes a

-- entries as frames, one after the other
abbrev pub framed : List HostArtifact → List ℕ
framed entries = flat_map (λ a. frame (entry_bytes a)) entries

-- a frame holds the entry: it has fewer than 2^32 bytes
abbrev pub FitsFrame : HostArtifact → Type 0
FitsFrame a = length (entry_bytes a) < 2 ^ 32

-- no frame holds one of them
abbrev pub HasTooLong : List HostArtifact → Type 0
HasTooLong entries = (a : HostArtifact) × Contains entries a × (2 ^ 32 ≤ length (entry_bytes a))

-- why entries are not written; out of memory says nothing about them
abbrev pub IsNotWritten : List HostArtifact → NotWritten → Type 0
IsNotWritten entries error = error ≡ not_written.TooLong → HasTooLong entries

-- whole entries, and after them bytes that begin with no frame
pub record IsDamagedAt (journal : List ℕ) (at : ℕ) : Type 0 where
  pub entries : List HostArtifact
  pub rest : List ℕ
  pub parts : journal ≡ framed entries ++ rest
  pub place : at ≡ length (framed entries)
  pub some : 0 < length rest
  pub no_frame : HasNoFrame rest

-- whole entries, and after them a frame whose bytes are refused for this reason
pub record IsNoEntryAt (journal : List ℕ) (at : ℕ) (is_refusal : List ℕ → Type 0) : Type 0 where
  pub entries : List HostArtifact
  pub entry : List ℕ
  pub rest : List ℕ
  pub parts : journal ≡ framed entries ++ (frame entry ++ rest)
  pub place : at ≡ length (framed entries)
  pub refused : is_refusal entry

-- why bytes are not read; out of memory says nothing about them
abbrev pub IsNotRead : List ℕ → NotRead → Type 0
IsNotRead journal not_read.OutOfMemory = Unit {0}
IsNotRead journal (not_read.Damaged at) = IsDamagedAt journal at
IsNotRead journal (not_read.NoEntry at e) =
    IsNoEntryAt journal at (λ entry. IsArtifactRefusal (bytes_in_digest {n = 32}) 32 certificate_bytes order_of entry e)

-- there are no bytes, or no frame is at their front
abbrev pub StandsAlone : List ℕ → Type 0
StandsAlone bytes = (length bytes ≡ 0) ⊎ ((0 < length bytes) × HasNoFrame bytes)

-- a frame comes before the rest
abbrev pub BeginsWithFrame : List ℕ → List ℕ → Type 0
BeginsWithFrame bytes rest = (entry : List ℕ) × (bytes ≡ frame entry ++ rest)

-- how a journal ends: with its last frame, cut within one, or in a damaged one
abbrev pub IsEnding : List ℕ → ℕ → Type 0
IsEnding rest zero = length rest ≡ 0
IsEnding rest (suc zero) = (0 < length rest) × HasNoFrame rest × IsCut rest
IsEnding rest (suc (suc zero)) = (0 < length rest) × HasNoFrame rest × ¬ (IsCut rest)
IsEnding rest _ = ⊥

-- this number of whole frames come before the rest
pub record HasScanned (journal : List ℕ) (count : ℕ) (rest : List ℕ) : Type 0 where
  pub frames : List (List ℕ)
  pub parts : journal ≡ flat_map frame frames ++ rest
  pub counted : count ≡ length frames

-- the whole frames at the front of a journal, and how it ends after them
pub record IsScan (journal : List ℕ) (r : FlatScan) : Type 0 where
  pub rest : List ℕ
  pub scanned : HasScanned journal r.entries rest
  pub bytes : r.bytes + length rest ≡ length journal
  pub ending : IsEnding rest r.ending
