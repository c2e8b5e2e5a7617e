-- An encoding is read back part by part: each part has a fixed length, and the scheme's bytes are the rest.
use Rattle.std.proofs.Common.{◌≡◌, ℕ, ◌<◌, ◌^◌, List, [], ◌∷◌, ◌++◌, length, get_or, drop, refl, ap, sym, ◌∙◌, arith, Result, Ok, Err, OnOk}
use Rattle.std.specs.Int.{w64, to_be_bytes, from_be_bytes}
use Rattle.std.proofs.lemmas.List.{append_assoc}
use Rattle.std.proofs.lemmas.Nat.{from_be_bytes-to_be_bytes_8}
use Rattle.simplex_types.specs.declared.types.numbers.Round.{Round}
use Rattle.simplex_types.specs.declared.types.messages.Proposal.{Proposal}
use Rattle.simplex_types.specs.Certificates.{ProposalFacts, NullificationFacts, Notarized, Nullified, Finalized}
use Rattle.simplex_types.specs.Encoding.{round_bytes, proposal_bytes, IsEncodableRound, EncodingTellsApart}

tails : (x y : ℕ) (xs ys : List ℕ) → x ∷ xs ≡ y ∷ ys → xs ≡ ys
tails x y xs ys same = ap (drop 1) same

heads : (x y : ℕ) (xs ys : List ℕ) → x ∷ xs ≡ y ∷ ys → x ≡ y
heads x y xs ys same = ap (λ l. get_or l 0 x) same

-- two lists that begin with parts of one length
front : (xs zs ys ws : List ℕ) → length xs ≡ length zs → xs ++ ys ≡ zs ++ ws → xs ≡ zs
front [] [] ys ws len same = refl
front [] (z ∷ zs) ys ws len same = absurd (omega (arith, len))
front (x ∷ xs) [] ys ws len same = absurd (omega (arith, len))
front (x ∷ xs) (z ∷ zs) ys ws len same =
    let first = heads x z (xs ++ ys) (zs ++ ws) same in
    let rest = front xs zs ys ws (omega (arith, len)) (tails x z (xs ++ ys) (zs ++ ws) same) in
    rw (first, rest) refl

rest : (xs zs ys ws : List ℕ) → length xs ≡ length zs → xs ++ ys ≡ zs ++ ws → ys ≡ ws
rest [] [] ys ws len same = same
rest [] (z ∷ zs) ys ws len same = absurd (omega (arith, len))
rest (x ∷ xs) [] ys ws len same = absurd (omega (arith, len))
rest (x ∷ xs) (z ∷ zs) ys ws len same = rest xs zs ys ws (omega (arith, len)) (tails x z (xs ++ ys) (zs ++ ws) same)

-- two parts that are appended one after the other
pub appended : (start middle end xs ys : List ℕ) → middle ≡ start ++ xs → end ≡ middle ++ ys → end ≡ start ++ (xs ++ ys)
appended start middle end xs ys first second = second ∙ ap (λ l. l ++ ys) first ∙ append_assoc start xs ys

-- a part after the byte of its kind
pub behind_kind : {E : Type 0} (result : Result (Unit {0}) E) (start middle end rest : List ℕ) (kind : ℕ) →
    middle ≡ start ++ kind ∷ [] → OnOk result (end ≡ middle ++ rest) → OnOk result (end ≡ start ++ kind ∷ rest)
behind_kind (Ok _) start middle end rest kind first second = appended start middle end (kind ∷ []) rest first second
behind_kind (Err _) start middle end rest kind first second = tt

same_number : (m n : ℕ) → m < 2 ^ 64 → n < 2 ^ 64 → to_be_bytes w64 m ≡ to_be_bytes w64 n → m ≡ n
same_number m n small small' same =
    sym (from_be_bytes-to_be_bytes_8 m small) ∙ ap (from_be_bytes w64) same ∙ from_be_bytes-to_be_bytes_8 n small'

same_length : (m n : ℕ) → length (to_be_bytes w64 m) ≡ length (to_be_bytes w64 n)
same_length m n = refl

same_rounds : (r s : Round) → IsEncodableRound r → IsEncodableRound s → round_bytes r ≡ round_bytes s → r ≡ s
same_rounds r s fits fits' same =
    let epochs = same_number r.epoch s.epoch fits.0 fits'.0
    (front (to_be_bytes w64 r.epoch) (to_be_bytes w64 s.epoch) (to_be_bytes w64 r.view) (to_be_bytes w64 s.view)
    (same_length r.epoch s.epoch) same) in
    let views = same_number r.view s.view fits.1 fits'.1
    (rest (to_be_bytes w64 r.epoch) (to_be_bytes w64 s.epoch) (to_be_bytes w64 r.view) (to_be_bytes w64 s.view)
    (same_length r.epoch s.epoch) same) in
    λ i. record { epoch = epochs i; view = views i }

module _ {D : Type 0} (payload : D → List ℕ) (size : ℕ) (sized : (d : D) → length (payload d) ≡ size)
    (injective : (d e : D) → payload d ≡ payload e → d ≡ e) where
  -- what comes before the payload
  before : Proposal D → List ℕ
  before p = round_bytes p.round ++ to_be_bytes w64 p.parent

  parts : (p : Proposal D) (bytes : List ℕ)
      → proposal_bytes payload p ++ bytes ≡ (round_bytes p.round ++ to_be_bytes w64 p.parent)
      ++ (payload p.payload ++ bytes)
  parts p bytes = append_assoc (round_bytes p.round ++ to_be_bytes w64 p.parent) (payload p.payload) bytes

  same_certificates : (c d : ProposalFacts D) → IsEncodableRound c.proposal.round → c.proposal.parent < 2 ^ 64
      → IsEncodableRound d.proposal.round → d.proposal.parent < 2 ^ 64
      → proposal_bytes payload c.proposal ++ c.bytes ≡ proposal_bytes payload d.proposal ++ d.bytes → c ≡ d
  same_certificates c d fits parent fits' parent' same =
      let p = c.proposal in
      let q = d.proposal in
      let whole = sym (parts p c.bytes) ∙ same ∙ parts q d.bytes in
      let front_p = round_bytes p.round ++ to_be_bytes w64 p.parent in
      let front_q = round_bytes q.round ++ to_be_bytes w64 q.parent in
      let fronts : front_p ≡ front_q = front front_p front_q (payload p.payload ++ c.bytes)
      (payload q.payload ++ d.bytes) refl whole in
      let ends : payload p.payload ++ c.bytes ≡ payload q.payload ++ d.bytes =
      rest front_p front_q (payload p.payload ++ c.bytes) (payload q.payload ++ d.bytes) refl whole in
      let rounds = same_rounds p.round q.round fits fits'
      (front (round_bytes p.round) (round_bytes q.round) (to_be_bytes w64 p.parent) (to_be_bytes w64 q.parent) refl
      fronts) in
      let parents = same_number p.parent q.parent parent parent'
      (rest (round_bytes p.round) (round_bytes q.round) (to_be_bytes w64 p.parent) (to_be_bytes w64 q.parent) refl
      fronts) in
      let sizes = sized p.payload ∙ sym (sized q.payload) in
      let payloads = injective p.payload q.payload
      (front (payload p.payload) (payload q.payload) c.bytes d.bytes sizes ends) in
      let bytes = rest (payload p.payload) (payload q.payload) c.bytes d.bytes sizes ends in
      λ i. record { proposal = record { round = rounds i; parent = parents i; payload = payloads i }; bytes = bytes i }

  same_nullifications : (c d : NullificationFacts) → IsEncodableRound c.round → IsEncodableRound d.round
      → round_bytes c.round ++ c.bytes ≡ round_bytes d.round ++ d.bytes → c ≡ d
  same_nullifications c d fits fits' same =
      let rounds = same_rounds c.round d.round fits fits'
      (front (round_bytes c.round) (round_bytes d.round) c.bytes d.bytes refl same) in
      let bytes = rest (round_bytes c.round) (round_bytes d.round) c.bytes d.bytes refl same in
      λ i. record { round = rounds i; bytes = bytes i }

  pub tells_apart : EncodingTellsApart payload
  tells_apart (Notarized c) (Notarized d) fits fits' same =
      ap Notarized (same_certificates c d fits.0 fits.1 fits'.0 fits'.1 (tails 0 0 _ _ same))
  tells_apart (Notarized c) (Nullified d) fits fits' same = absurd (omega (arith, heads 0 1 _ _ same))
  tells_apart (Notarized c) (Finalized d) fits fits' same = absurd (omega (arith, heads 0 2 _ _ same))
  tells_apart (Nullified c) (Notarized d) fits fits' same = absurd (omega (arith, heads 1 0 _ _ same))
  tells_apart (Nullified c) (Nullified d) fits fits' same =
      ap Nullified (same_nullifications c d fits fits' (tails 1 1 _ _ same))
  tells_apart (Nullified c) (Finalized d) fits fits' same = absurd (omega (arith, heads 1 2 _ _ same))
  tells_apart (Finalized c) (Notarized d) fits fits' same = absurd (omega (arith, heads 2 0 _ _ same))
  tells_apart (Finalized c) (Nullified d) fits fits' same = absurd (omega (arith, heads 2 1 _ _ same))
  tells_apart (Finalized c) (Finalized d) fits fits' same =
      ap Finalized (same_certificates c d fits.0 fits.1 fits'.0 fits'.1 (tails 2 2 _ _ same))
