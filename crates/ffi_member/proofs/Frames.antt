-- Frames that are read one by one.
use Rattle.std.proofs.Common.{sym, subst, ◌∙◌, ◌≡◌, ◌≤◌, ◌<◌, ◌+◌, ℕ, suc, List, [], ◌∷◌, ◌++◌, length, arith, ap, length-append}
use Rattle.std.specs.List.{flat_map}
use Rattle.std.specs.List.{All}
use Rattle.std.proofs.Common.{get_or, take}
use Rattle.std.proofs.Math.Seq.{take-suc}
use Rattle.std.proofs.lemmas.Grind.{common_steps}
use Rattle.std.proofs.lemmas.List.Elements.{All-push}
use Rattle.simplex_codec.specs.Frames.{frame}
use Rattle.ffi_member.specs.Journals.{BeginsWithFrame, FitsFrame, HasScanned, HostArtifact, entry_bytes, framed}

some_frame : (entry : List ℕ) → 1 ≤ length (frame entry)
some_frame entry = omega arith

-- each frame has a byte
frames_least : (frames : List (List ℕ)) → length frames ≤ length (flat_map frame frames)
frames_least [] = omega arith
frames_least (entry ∷ frames) =
    omega (arith, length-append (frame entry) (flat_map frame frames), some_frame entry, frames_least frames)

-- so there are no more frames than bytes
pub scanned_least : (journal : List ℕ) (count : ℕ) (rest : List ℕ) → HasScanned journal count rest
    → count ≤ length journal
scanned_least journal count rest scanned =
    omega (
      arith,
      scanned.counted,
      ap length scanned.parts,
      length-append (flat_map frame scanned.frames) rest,
      frames_least scanned.frames,
    )

-- one frame more
pub scanned_more : (journal : List ℕ) (count : ℕ) (left behind : List ℕ) → HasScanned journal count left
    → BeginsWithFrame left behind → HasScanned journal (count + 1) behind
scanned_more journal count left behind scanned (entry, is) = record {
  frames = scanned.frames ++ (entry ∷ []);
  parts = grind (arith, common_steps, scanned.parts, is);
  counted = omega (arith, scanned.counted, length-append scanned.frames (entry ∷ []));
}

-- one entry more
more_taken : (entries : List HostArtifact) (i : ℕ) (entry : HostArtifact) → i < length entries
    → get_or entries i entry ≡ entry
    → take (i + 1) entries ≡ take i entries ++ (entry ∷ [])
more_taken entries i entry low is =
    let next : suc i ≡ i + 1 = omega arith in
    subst (λ n. take n entries ≡ take i entries ++ (entry ∷ [])) next
    (take-suc entries i entry low ∙ ap (λ e. take i entries ++ (e ∷ [])) is)

-- it fits a frame
pub fit_more : (entries : List HostArtifact) (i : ℕ) (entry : HostArtifact) → i < length entries
    → get_or entries i entry ≡ entry
    → All FitsFrame (take i entries) → FitsFrame entry → All FitsFrame (take (i + 1) entries)
fit_more entries i entry low is fit fits =
    subst (All FitsFrame) (sym (more_taken entries i entry low is)) (All-push FitsFrame (take i entries) entry fit fits)

-- and its frame comes after those of the others
pub framed_more : (entries : List HostArtifact) (i : ℕ) (entry : HostArtifact) (before out new : List ℕ)
    → i < length entries
    → get_or entries i entry ≡ entry → out ≡ before ++ framed (take i entries) → new ≡ out ++ frame (entry_bytes entry)
    → new ≡ before ++ framed (take (i + 1) entries)
framed_more entries i entry before out new low is so written =
    grind (arith, common_steps, more_taken entries i entry low is, so, written)
