-- One turn of serving after another.
use Rattle.std.proofs.Common.{◌≡◌, ℕ, ◌+◌, ◌-◌, ◌^◌, inl, inr, true, false, List, [], ◌∷◌, ◌++◌, Option, Some, None, Ok, Err, length, refl, sym, subst, ◌∙◌, arith}
use Rattle.std.proofs.lemmas.List.{length-append}
use Rattle.std.specs.Io.Buffered.{reader_remaining, reader_inner, reader_buffer, reader_capacity}
use Rattle.std.specs.Io.KnownBytes.{prepend_known}
use Rattle.std.specs.declared.io.buffered.BufReader.{BufReader}
use Rattle.simplex_program.specs.declared.serve_error.ServeError.{ServeError}
use Rattle.simplex_program.specs.declared.serve_error.ServeError.TheVariants.{NotACall, OutOfMemory, Read, Write}
use Rattle.simplex_program.specs.Line.{without_feed, ReadsText, IsNextLine}
use Rattle.simplex_program.specs.Session.{IsNotReplied}
use Rattle.simplex_program.specs.Transcript.{Asked, Point, AreAnswered, IsNoCall, EndsServing, Advances, Continues}
use Rattle.simplex_program.proofs.ServedLines.{keeps_self, one_more}

-- lines were answered from a point on, and the next one has this number
abbrev pub HasServed : Point → Point → ℕ → Type 0
HasServed before now number = (lines : List (List ℕ)) × AreAnswered before lines now × (number ≡ length lines + 1)

pub serves_none : (p : Point) → HasServed p p 1
serves_none p = ([], refl, refl)

pub serves_one_more : (p q r : Point) (number next : ℕ) → HasServed p q number → Advances q number (Ok true) r
    → next ≡ number + 1 → HasServed p r next
serves_one_more p q r number next before now is = (
  before.0 ++ now.0 ∷ [],
  one_more p before.0 q now.0 r before.1 now.1,
  omega (arith, is, before.2, length-append before.0 (now.0 ∷ [])),
)

pub serves_all : (p q r : Point) (number : ℕ) → HasServed p q number → Advances q number (Ok false) r
    → Continues p (Ok tt) r.held
serves_all p q r number before now = (before.0, q, before.1, (inl now.0, now.1))

pub serves_most : (p q : Point) (number : ℕ) → HasServed p q number → number ≡ 2 ^ 64 - 1 → Continues p (Ok tt) q.held
serves_most p q number before most = (before.0, q, before.1, (inr (sym before.2 ∙ most), keeps_self q.held))

pub serving_ends : (p q r : Point) (number : ℕ) (e : ServeError) → HasServed p q number → Advances q number (Err e) r
    → Continues p (Err e) r.held
serving_ends p q r number e before now =
    (before.0, q, before.1, subst (λ (k : ℕ). EndsServing q k (Err e) r.held) before.2 now)

pub no_room : (p : Point) → Continues p (Err OutOfMemory) p.held
no_room p = ([], p, refl, keeps_self p.held)

-- why a line has no reply
pub is_not_replied : (p : Point) (k : ℕ) (line text : List ℕ) (rest : Option (List ℕ)) (e : ServeError)
    → IsNextLine p.left line rest → text ≡ without_feed line → IsNotReplied k p.asked text e
    → EndsServing p k (Err e) p.held
is_not_replied p k line text rest (NotACall n) next is not =
    (not.0, keeps_self p.held, (line, rest, next, inr (inr (rw is at not.1))))
is_not_replied p k line text rest OutOfMemory next is not = keeps_self p.held
is_not_replied p k line text rest Read next is not = absurd not
is_not_replied p k line text rest Write next is not = absurd not

-- a line without a text is no call
pub has_no_text : (asked : Asked) (line : List ℕ) → ReadsText line None → IsNoCall asked line
has_no_text asked line (inl long) = inl long
has_no_text asked line (inr other) = inr (inl other)

nothing_ahead : (o : Option (List ℕ)) → prepend_known [] o ≡ o
nothing_ahead None = refl
nothing_ahead (Some bytes) = refl

-- a buffer that is empty has nothing ahead of its reader
pub reader_begins : {T A : Type 0} (remaining : T → Option (List ℕ)) (r : BufReader T A) (inner : T)
    → reader_inner r ≡ inner → reader_buffer r ≡ [] → reader_capacity r ≡ 8192
    → reader_remaining remaining r ≡ remaining inner
reader_begins remaining r inner is empty room = rw (room, empty, is) (nothing_ahead (remaining inner))
