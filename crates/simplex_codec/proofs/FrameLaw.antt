-- A frame at the front of bytes is found, and where its parts do not fit none is there, nor do the bytes end within
-- one.
use Rattle.std.proofs.Common.{◌≡◌, ◌≢◌, ℕ, zero, suc, ◌<◌, ◌≤◌, ◌+◌, ◌-◌, ◌^◌, Bool, true, false, List, [], ◌∷◌, ◌++◌, length, get_or, take, drop, refl, ap, sym, ◌∙◌, append_assoc, append-nil, length-append, inl, inr, arith}
use Rattle.std.specs.Prelude.{replicate}
use Rattle.std.specs.Int.{w32, to_be_bytes, from_be_bytes}
use Rattle.std.specs.Str.{bytes_eq}
use Rattle.std.proofs.lemmas.Bool.{cases_lt, true≢false}
use Rattle.std.proofs.lemmas.List.{take-append-drop, take-append-le, length-replicate, get_or_past, length-drop, nil_from_length}
use Rattle.std.proofs.lemmas.Nat.{be_bytes_4}
use Rattle.std.proofs.lemmas.Slice.Eq.{bytes_eq-Decides}
use Rattle.std.proofs.Math.Seq.{take-append_seam, drop-append_seam}
use Rattle.simplex_codec.specs.declared.frame.NoFrame.{NoFrame}
use Rattle.simplex_codec.specs.declared.frame.NoFrame.TheVariants.{Cut, Damaged}
use Rattle.simplex_codec.specs.Frames.{header, EndsWithin, PartsFrom, IsOff, IsOffHeader}
use Rattle.simplex_codec.proofs.ArtifactLaw.{signer_is, behind_signer}
use Rattle.simplex_codec.proofs.Numbers.{IsBytes}

-- one header is at the front of bytes
header_is : (m n : ℕ) (xs ys : List ℕ) → m < 2 ^ 32 → n < 2 ^ 32 → header m ++ xs ≡ header n ++ ys → m ≡ n
header_is m n xs ys small small' same =
    signer_is m n (to_be_bytes w32 (2 ^ 32 - 1 - m) ++ xs) (to_be_bytes w32 (2 ^ 32 - 1 - n) ++ ys) small small' same

behind_header : (m n : ℕ) (xs ys : List ℕ) → header m ++ xs ≡ header n ++ ys → xs ≡ ys
behind_header m n xs ys same = ap (drop 8) same

four_bytes : (a b c d : ℕ) → a < 256 → b < 256 → c < 256 → d < 256 → IsBytes (a ∷ b ∷ c ∷ d ∷ [])
four_bytes a b c d a' b' c' d' zero = a'
four_bytes a b c d a' b' c' d' (suc zero) = b'
four_bytes a b c d a' b' c' d' (suc (suc zero)) = c'
four_bytes a b c d a' b' c' d' (suc (suc (suc zero))) = d'
four_bytes a b c d a' b' c' d' (suc (suc (suc (suc i)))) = omega arith

-- each four bytes are a length's
named : (a b c d : ℕ) → a < 256 → b < 256 → c < 256 → d < 256
    → (n : ℕ) × (n < 2 ^ 32) × (header n ≡ a ∷ b ∷ c ∷ d ∷ to_be_bytes w32 (2 ^ 32 - 1 - n))
named a b c d a' b' c' d' =
    let bytes = a ∷ b ∷ c ∷ d ∷ [] in
    let n = from_be_bytes w32 bytes in (
      n,
      omega (arith, a', b', c', d'),
      ap (λ l. l ++ to_be_bytes w32 (2 ^ 32 - 1 - n))
          (be_bytes_4 bytes n refl (four_bytes a b c d a' b' c' d') refl),
    )

-- so fewer are the first of a header
pub short_header : (bytes : List ℕ) → IsBytes bytes → length bytes < 4
    → (n : ℕ) × (n < 2 ^ 32) × EndsWithin bytes (header n)
short_header [] fits few = (0, omega arith, (header 0, omega arith, refl))
short_header (a ∷ []) fits few =
    let it = named a 0 0 0 (fits 0) (omega arith) (omega arith) (omega arith) in
    (it.0, it.1, (0 ∷ 0 ∷ 0 ∷ to_be_bytes w32 (2 ^ 32 - 1 - it.0), omega arith, it.2))
short_header (a ∷ b ∷ []) fits few =
    let it = named a b 0 0 (fits 0) (fits 1) (omega arith) (omega arith) in
    (it.0, it.1, (0 ∷ 0 ∷ to_be_bytes w32 (2 ^ 32 - 1 - it.0), omega arith, it.2))
short_header (a ∷ b ∷ c ∷ []) fits few =
    let it = named a b c 0 (fits 0) (fits 1) (fits 2) (omega arith) in
    (it.0, it.1, (0 ∷ to_be_bytes w32 (2 ^ 32 - 1 - it.0), omega arith, it.2))
short_header (a ∷ b ∷ c ∷ d ∷ more) fits few = absurd (omega (arith, few))

-- a length, followed by bytes that are not the other half
pub off_check : (bytes rest : List ℕ) (n : ℕ) → n < 2 ^ 32 → bytes ≡ to_be_bytes w32 n ++ rest → (e : NoFrame)
    → IsOff rest (to_be_bytes w32 (2 ^ 32 - 1 - n)) e → IsOffHeader bytes e
off_check bytes rest n small parts Cut (more, some, is) =
    (n, small, (more, some, ap (λ l. to_be_bytes w32 n ++ l) is ∙ ap (λ l. l ++ more) (sym parts)))
off_check bytes rest n small parts Damaged off = λ m small' more left same.
    let both : to_be_bytes w32 n ++ (rest ++ more) ≡ to_be_bytes w32 m ++ (to_be_bytes w32 (2 ^ 32 - 1 - m) ++ left) =
    ap (λ l. l ++ more) (sym parts) ∙ same in
    let is : n ≡ m = signer_is n m (rest ++ more) (to_be_bytes w32 (2 ^ 32 - 1 - m) ++ left) small small' both in
    off more left (behind_signer n m (rest ++ more) (to_be_bytes w32 (2 ^ 32 - 1 - m) ++ left) both
    ∙ ap (λ k. to_be_bytes w32 (2 ^ 32 - 1 - k) ++ left) (sym is))

-- bytes that do not begin with a front end within it where it begins with them, and else part from it
module _ (bytes front : List ℕ) (other : (rest : List ℕ) → bytes ≢ front ++ rest) where
  pub ends_within : front ≡ bytes ++ drop (length bytes) front → EndsWithin bytes front
  ends_within is =
      elim (cases_lt 0 (length (drop (length bytes) front))) [
        | inl some ↦ (drop (length bytes) front, some, is)
        | inr none ↦
            let empty : drop (length bytes) front ≡ [] =
            nil_from_length (drop (length bytes) front) (omega (arith, none)) in
            let same : front ≡ bytes = is ∙ ap (λ l. bytes ++ l) empty ∙ append-nil bytes in
            absurd (other [] (sym same ∙ sym (append-nil front)))
      ]

  pub parts_from : ((rest : List ℕ) → front ≢ bytes ++ rest) → PartsFrom bytes front
  parts_from differs more rest same =
      elim (cases_lt (length front) (length bytes)) [
        | inl longer ↦
            let starts : take (length front) bytes ≡ front =
            sym (take-append-le (length front) bytes more (omega (arith, longer))) ∙ ap (take (length front)) same
            ∙ take-append_seam front rest in
            other (drop (length front) bytes)
            (sym (take-append-drop (length front) bytes) ∙ ap (λ l. l ++ drop (length front) bytes) starts)
        | inr shorter ↦
            let starts : take (length bytes) front ≡ bytes =
            sym (take-append-le (length bytes) front rest shorter) ∙ ap (take (length bytes)) (sym same)
            ∙ take-append_seam bytes more in
            differs (drop (length bytes) front)
            (sym (take-append-drop (length bytes) front) ∙ ap (λ l. l ++ drop (length bytes) front) starts)
      ]

module _ (digest : List ℕ → List ℕ) where
  -- a frame, by any digest
  abbrev pub framed : List ℕ → List ℕ
  framed entry = header (length entry) ++ (entry ++ digest entry)

  -- no frame is at the front, nor do the bytes end within one
  abbrev pub MeetsNone : List ℕ → Type 0
  MeetsNone bytes = (entry more rest : List ℕ) → length entry < 2 ^ 32 → bytes ++ more ≡ framed entry ++ rest → ⊥

  abbrev pub ends : List ℕ → Type 0
  ends bytes = (entry : List ℕ) × (length entry < 2 ^ 32) × EndsWithin bytes (framed entry)

  abbrev pub none : List ℕ → Type 0
  none bytes = (entry rest : List ℕ) → length entry < 2 ^ 32 → bytes ≡ framed entry ++ rest → ⊥

  abbrev pub refusal : List ℕ → NoFrame → Type 0
  refusal bytes Cut = ends bytes
  refusal bytes Damaged = ¬ (ends bytes)

  parted : (entry rest : List ℕ) → framed entry ++ rest ≡ header (length entry) ++ (entry ++ (digest entry ++ rest))
  parted entry rest = append_assoc (header (length entry)) (entry ++ digest entry) rest
      ∙ ap (λ l. header (length entry) ++ l) (append_assoc entry (digest entry) rest)

  pub replied_frames : (entry other rest left : List ℕ) → length entry < 2 ^ 32 → length other < 2 ^ 32
      → framed entry ++ rest ≡ framed other ++ left → (entry ≡ other) × (rest ≡ left)
  replied_frames entry other rest left small small' same =
      let whole = sym (parted entry rest) ∙ same ∙ parted other left in
      let count : length entry ≡ length other =
      header_is (length entry) (length other) (entry ++ (digest entry ++ rest)) (other ++ (digest other ++ left))
      small small' whole in
      let both : entry ++ (digest entry ++ rest) ≡ other ++ (digest other ++ left) =
      behind_header (length entry) (length other) (entry ++ (digest entry ++ rest))
      (other ++ (digest other ++ left)) whole in
      let entries : entry ≡ other = sym (take-append_seam entry (digest entry ++ rest))
      ∙ ap (λ k. take k (entry ++ (digest entry ++ rest))) count ∙ ap (λ l. take (length other) l) both
      ∙ take-append_seam other (digest other ++ left) in
      let afters : digest entry ++ rest ≡ digest other ++ left = sym (drop-append_seam entry (digest entry ++ rest))
      ∙ ap (λ k. drop k (entry ++ (digest entry ++ rest))) count ∙ ap (λ l. drop (length other) l) both
      ∙ drop-append_seam other (digest other ++ left) in
      let digests : length (digest entry) ≡ length (digest other) = ap (λ l. length (digest l)) entries in (
        entries,
        sym (drop-append_seam (digest entry) rest) ∙ ap (λ k. drop k (digest entry ++ rest)) digests
            ∙ ap (λ l. drop (length (digest other)) l) afters ∙ drop-append_seam (digest other) left,
      )

  -- no frame is at the front of bytes that end within one
  ends_alone : (bytes : List ℕ) → ends bytes → none bytes
  ends_alone bytes (entry, small, (more, some, is)) other rest small' stands =
      let both : framed entry ++ [] ≡ framed other ++ (rest ++ more) = append-nil (framed entry) ∙ is
      ∙ ap (λ l. l ++ more) stands ∙ append_assoc (framed other) rest more in
      let replied = replied_frames entry other [] (rest ++ more) small small' both in
      absurd (omega (arith, some, ap length replied.1, length-append rest more))

  meets_no_cut : (bytes : List ℕ) → MeetsNone bytes → ¬ (ends bytes)
  meets_no_cut bytes meets (entry, small, (more, some, is)) =
      meets entry more [] small (sym is ∙ sym (append-nil (framed entry)))

  meets_no_frame : (bytes : List ℕ) → MeetsNone bytes → none bytes
  meets_no_frame bytes meets entry rest small stands = meets entry [] rest small (append-nil bytes ∙ stands)

  -- what is refused for its header
  header_meets : (bytes : List ℕ) → IsOffHeader bytes Damaged → MeetsNone bytes
  header_meets bytes off entry more rest small same =
      off (length entry) small more (entry ++ (digest entry ++ rest)) (same ∙ parted entry rest)

  header_ends : (bytes : List ℕ) → IsOffHeader bytes Cut → ends bytes
  header_ends bytes (n, small, (more, some, is)) =
      let entry = replicate n 0 in
      let long : length entry ≡ n = length-replicate {A = ℕ} n 0 in
      let whole : framed entry ≡ bytes ++ (more ++ (entry ++ digest entry)) =
      ap (λ k. header k ++ (entry ++ digest entry)) long ∙ ap (λ l. l ++ (entry ++ digest entry)) is
      ∙ append_assoc bytes more (entry ++ digest entry) in (
        entry,
        omega (arith, small, long),
        (more ++ (entry ++ digest entry), omega (arith, some, length-append more (entry ++ digest entry)), whole),
      )

  pub off_header : (bytes : List ℕ) (e : NoFrame) → IsOffHeader bytes e → refusal bytes e
  off_header bytes Cut off = header_ends bytes off
  off_header bytes Damaged off = meets_no_cut bytes (header_meets bytes off)

  pub off_header_none : (bytes : List ℕ) (e : NoFrame) → IsOffHeader bytes e → none bytes
  off_header_none bytes Cut off = ends_alone bytes (header_ends bytes off)
  off_header_none bytes Damaged off = meets_no_frame bytes (header_meets bytes off)

  -- fewer bytes after a header than it names
  pub fewer : (bytes held : List ℕ) (n : ℕ) → n < 2 ^ 32 → bytes ≡ header n ++ held → length held < n → ends bytes
  fewer bytes held n small parts few =
      let zeros = replicate (n - length held) 0 in
      let entry = held ++ zeros in
      let long : length entry ≡ n =
      omega (arith, few, length-append held zeros, length-replicate {A = ℕ} (n - length held) 0) in
      let whole : framed entry ≡ bytes ++ (zeros ++ digest entry) =
      ap (λ k. header k ++ (entry ++ digest entry)) long
      ∙ ap (λ l. header n ++ l) (append_assoc held zeros (digest entry))
      ∙ sym (append_assoc (header n) held (zeros ++ digest entry))
      ∙ ap (λ l. l ++ (zeros ++ digest entry)) (sym parts) in (
        entry,
        omega (arith, small, long),
        (
          zeros ++ digest entry,
          omega (arith, few, length-replicate {A = ℕ} (n - length held) 0, length-append zeros (digest entry)),
          whole,
        ),
      )

  pub fewer_none : (bytes held : List ℕ) (n : ℕ) → n < 2 ^ 32 → bytes ≡ header n ++ held → length held < n → none bytes
  fewer_none bytes held n small parts few = ends_alone bytes (fewer bytes held n small parts few)

  -- an entry after its header, and what follows it
  module _ (bytes held entry after : List ℕ) (n : ℕ) (small : n < 2 ^ 32) (parts : bytes ≡ header n ++ held)
      (front : entry ≡ take n held) (back : after ≡ drop n held) (long : length entry ≡ n) where
    whole_held : held ≡ entry ++ after
    whole_held = sym (take-append-drop n held) ∙ ap (λ l. take n held ++ l) (sym back)
        ∙ ap (λ l. l ++ after) (sym front)

    stands_as : bytes ≡ header (length entry) ++ (entry ++ after)
    stands_as = parts ∙ ap (λ l. header n ++ l) whole_held ∙ ap (λ k. header k ++ (entry ++ after)) (sym long)

    digest_ends : EndsWithin after (digest entry) → ends bytes
    digest_ends (more, some, is) = (
      entry,
      omega (arith, small, long),
      (
        more,
        some,
        ap (λ l. header (length entry) ++ (entry ++ l)) is
            ∙ sym (ap (λ l. header (length entry) ++ l) (append_assoc entry after more))
            ∙ sym (append_assoc (header (length entry)) (entry ++ after) more) ∙ ap (λ l. l ++ more) (sym stands_as),
      ),
    )

    digest_meets : PartsFrom after (digest entry) → MeetsNone bytes
    digest_meets parted_from other more rest small' same =
        let ours : bytes ++ more ≡ header (length entry) ++ (entry ++ (after ++ more)) =
        ap (λ l. l ++ more) stands_as ∙ append_assoc (header (length entry)) (entry ++ after) more
        ∙ ap (λ l. header (length entry) ++ l) (append_assoc entry after more) in
        let whole = sym ours ∙ same ∙ parted other rest in
        let count : length entry ≡ length other =
        header_is (length entry) (length other) (entry ++ (after ++ more)) (other ++ (digest other ++ rest))
        (omega (arith, small, long)) small' whole in
        let both : entry ++ (after ++ more) ≡ other ++ (digest other ++ rest) =
        behind_header (length entry) (length other) (entry ++ (after ++ more)) (other ++ (digest other ++ rest))
        whole in
        let entries : entry ≡ other = sym (take-append_seam entry (after ++ more))
        ∙ ap (λ k. take k (entry ++ (after ++ more))) count ∙ ap (λ l. take (length other) l) both
        ∙ take-append_seam other (digest other ++ rest) in
        let afters : after ++ more ≡ digest other ++ rest = sym (drop-append_seam entry (after ++ more))
        ∙ ap (λ k. drop k (entry ++ (after ++ more))) count ∙ ap (λ l. drop (length other) l) both
        ∙ drop-append_seam other (digest other ++ rest) in
        parted_from more rest (afters ∙ ap (λ l. digest l ++ rest) (sym entries))

    pub off_digest : (e : NoFrame) → IsOff after (digest entry) e → refusal bytes e
    off_digest Cut off = digest_ends off
    off_digest Damaged off = meets_no_cut bytes (digest_meets off)

    pub off_digest_none : (e : NoFrame) → IsOff after (digest entry) e → none bytes
    off_digest_none Cut off = ends_alone bytes (digest_ends off)
    off_digest_none Damaged off = meets_no_frame bytes (digest_meets off)

  -- which bytes are cut
  pub cut_ends : (entry : List ℕ) (left : ℕ) → length entry < 2 ^ 32 → left < length (framed entry)
      → ends (take left (framed entry))
  cut_ends entry left small few = (
    entry,
    small,
    (
      drop left (framed entry),
      omega (arith, few, length-drop left (framed entry)),
      sym (take-append-drop left (framed entry)),
    ),
  )

  pub body_ends_not : (sized : (l : List ℕ) → length (digest l) ≡ 32) (n : ℕ) (body behind : List ℕ) → n < 2 ^ 32
      → length body ≡ n + 32 → ¬ (ends (header n ++ (body ++ behind)))
  body_ends_not sized n body behind small long (entry, small', (more, some, is)) =
      let whole : header (length entry) ++ (entry ++ digest entry) ≡ header n ++ ((body ++ behind) ++ more) = is
      ∙ append_assoc (header n) (body ++ behind) more in
      let count : length entry ≡ n = header_is (length entry) n (entry ++ digest entry) ((body ++ behind) ++ more)
      small' small whole in
      let both : entry ++ digest entry ≡ (body ++ behind) ++ more =
      behind_header (length entry) n (entry ++ digest entry) ((body ++ behind) ++ more) whole in
      absurd (omega (
        arith,
        some,
        long,
        count,
        sized entry,
        ap length both,
        length-append entry (digest entry),
        length-append (body ++ behind) more,
        length-append body behind,
      ))

  pub header_ends_not : (n check : ℕ) (behind : List ℕ) → n < 2 ^ 32 → check < 2 ^ 32 → n + check ≢ 2 ^ 32 - 1
      → ¬ (ends (to_be_bytes w32 n ++ (to_be_bytes w32 check ++ behind)))
  header_ends_not n check behind small small' differs (entry, fits, (more, some, is)) =
      let whole : to_be_bytes w32 (length entry)
      ++ (to_be_bytes w32 (2 ^ 32 - 1 - length entry) ++ (entry ++ digest entry)) ≡ to_be_bytes w32 n
      ++ (to_be_bytes w32 check ++ (behind ++ more)) = is in
      let count : length entry ≡ n = signer_is (length entry) n
      (to_be_bytes w32 (2 ^ 32 - 1 - length entry) ++ (entry ++ digest entry))
      (to_be_bytes w32 check ++ (behind ++ more)) fits small whole in
      let second : 2 ^ 32 - 1 - length entry ≡ check =
      signer_is (2 ^ 32 - 1 - length entry) check (entry ++ digest entry) (behind ++ more) (omega arith) small'
      (behind_signer (length entry) n (to_be_bytes w32 (2 ^ 32 - 1 - length entry) ++ (entry ++ digest entry))
      (to_be_bytes w32 check ++ (behind ++ more)) whole) in
      differs (omega (arith, count, second, fits))
