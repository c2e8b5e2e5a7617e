-- Replies that are written, and lines that are answered one by one.
use Rattle.std.proofs.Common.{◌≡◌, ℕ, eqb, true, false, List, [], ◌∷◌, ◌++◌, Option, Some, None, IfSome, length, take, drop, refl, sym, ap, subst, ◌∙◌, append_assoc, append-nil, arith}
use Rattle.std.proofs.lemmas.Bool.{ne_eqb}
use Rattle.std.proofs.lemmas.List.{take-append-drop}
use Rattle.std.specs.Fmt.{AppendsText, with_newline}
use Rattle.std.specs.Io.KnownBytes.{Keeps, Appends}
use Rattle.simplex_program.specs.Transcript.{Point, IsLineAnswered, AreAnswered, AppendsFront, reply_line}

pub keeps_self : (a : Option (List ℕ)) → Keeps a a
keeps_self None = tt
keeps_self (Some a) = refl

pub nothing_appended : (a : Option (List ℕ)) → Appends a a []
nothing_appended None = tt
nothing_appended (Some a) = sym (append-nil a)

pub appended : (a b c : Option (List ℕ)) (xs ys : List ℕ) → Appends a b xs → Appends b c ys → Appends a c (xs ++ ys)
appended None b c xs ys p q = tt
appended (Some a) None c xs ys p q = absurd p
appended (Some a) (Some b) None xs ys p q = absurd q
appended (Some a) (Some b) (Some c) xs ys p q = q ∙ (ap (λ (front : List ℕ). front ++ ys) p ∙ append_assoc a xs ys)

pub appended_kept : (a b c : Option (List ℕ)) (xs : List ℕ) → Appends a b xs → Keeps b c → Appends a c xs
appended_kept None b c xs p q = tt
appended_kept (Some a) None c xs p q = absurd p
appended_kept (Some a) (Some b) None xs p q = absurd q
appended_kept (Some a) (Some b) (Some c) xs p q = q ∙ p

-- a front of the bytes is written, and the rest is left
abbrev pub IsWritten : Option (List ℕ) → Option (List ℕ) → List ℕ → List ℕ → Type 0
IsWritten old new bytes rest = (front : List ℕ) × (bytes ≡ front ++ rest) × Appends old new front

pub more_written : (a b c : Option (List ℕ)) (bytes rest left : List ℕ) (n : ℕ) → IsWritten a b bytes rest
    → Appends b c (take n rest) → left ≡ drop n rest → IsWritten a c bytes left
more_written a b c bytes rest left n before now is =
    let whole : bytes ≡ (before.0 ++ take n rest) ++ drop n rest =
    before.1 ∙ (ap (λ (others : List ℕ). before.0 ++ others) (sym (take-append-drop n rest))
    ∙ sym (append_assoc before.0 (take n rest) (drop n rest))) in
    rw is (before.0 ++ take n rest, whole, appended a b c before.0 (take n rest) before.2 now)

pub as_much_written : (a b c : Option (List ℕ)) (bytes rest left : List ℕ) → IsWritten a b bytes rest → Keeps b c
    → left ≡ rest → IsWritten a c bytes left
as_much_written a b c bytes rest left before now is =
    rw is (before.0, before.1, appended_kept a b c before.0 before.2 now)

pub front_written : (a b c : Option (List ℕ)) (bytes rest : List ℕ) → IsWritten a b bytes rest → Keeps b c
    → AppendsFront a c bytes
front_written a b c bytes rest before now = (before.0, rest, before.1, appended_kept a b c before.0 before.2 now)

pub front_and_more_written : (a b c : Option (List ℕ)) (bytes rest : List ℕ) (n : ℕ) → IsWritten a b bytes rest
    → Appends b c (take n rest) → AppendsFront a c bytes
front_and_more_written a b c bytes rest n before now =
    let all = more_written a b c bytes rest (drop n rest) n before now refl in (all.0, drop n rest, all.1, all.2)

pub all_written : (a b c : Option (List ℕ)) (bytes rest : List ℕ) → true ≡ eqb (length rest) 0
    → IsWritten a b bytes rest → Keeps b c → Appends a c bytes
all_written a b c bytes [] empty before now =
    let whole : bytes ≡ before.0 = before.1 ∙ append-nil before.0 in
    rw whole (appended_kept a b c before.0 before.2 now)
all_written a b c bytes (x ∷ rest) empty before now =
    let full : eqb (length (x ∷ rest)) 0 ≡ false =
    ne_eqb (length (x ∷ rest)) 0 (λ (zero : length (x ∷ rest) ≡ 0). absurd (omega (arith, zero))) in
    absurd (cc (empty, full))

-- a text and a line feed in place of what stood there
pub line_written : (o : Option (List ℕ)) (old new : List ℕ) → old ≡ [] → AppendsText old new (with_newline o)
    → IfSome o (λ text. new ≡ reply_line text)
line_written None old new empty written = tt
line_written (Some text) old new empty written = written ∙ ap (λ (front : List ℕ). front ++ (text ++ 10 ∷ [])) empty

pub one_more : (p : Point) (lines : List (List ℕ)) (q : Point) (line : List ℕ) (r : Point) → AreAnswered p lines q
    → IsLineAnswered q line r → AreAnswered p (lines ++ line ∷ []) r
one_more p [] q line r before now = (r, subst (λ (x : Point). IsLineAnswered x line r) (sym before) now, refl)
one_more p (first ∷ lines) q line r before now = (before.0, before.1, one_more before.0 lines q line r before.2 now)
