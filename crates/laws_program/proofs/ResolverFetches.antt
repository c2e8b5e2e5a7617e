-- What a resolver that lines call received, line by line.
use Rattle.std.proofs.Common.{◌≡◌, inl, inr, refl, sym, subst, ℕ, ◌<◌, ◌≤◌, zero, suc, List, [], ◌∷◌, ◌++◌, append_assoc, arith}
use Rattle.std.proofs.lemmas.List.{append-nil}
use Rattle.std.specs.Io.KnownBytes.{Appends}
use Rattle.simplex_types.specs.declared.types.fault.Fault.{Fault}
use Rattle.simplex_types.specs.declared.types.fault.Fault.TheVariants as fault
use Rattle.simplex_resolver.specs.Facts.{ResolverFacts, empty}
use Rattle.simplex_resolver.specs.ReceivedFacts.{NamesAView}
use Rattle.simplex_resolver.specs.Steps.{Call, Replayed as EndOfReplay, Refused}
use Rattle.simplex_resolver.specs.CallHistory.{LawfulResolverFacts, HasReceivedCalls}
use Rattle.simplex_resolver.proofs.CallHistory.{still_received, opens_the_wanted, opens_none, opens_none_again, answers_the_received}
use Rattle.simplex_program.specs.declared.resolver.Answer.{Answer}
use Rattle.simplex_program.specs.declared.resolver.Answer.TheVariants as answer
use Rattle.simplex_program.specs.declared.resolver_line.ResolverLine.{ResolverLine}
use Rattle.simplex_program.specs.declared.resolver_line.ResolverLine.TheVariants.{Notarization, Nullification, Finalization, Certified, Replayed, Settled, KeySettled, Uncertifiable, Produce, Outstanding}
use Rattle.simplex_program.specs.ResolverReplies.{ResolverAnswers, Calls, Reports, IsUnchanged, notarization_call, nullification_call, finalization_call, verdict_call}
use Rattle.simplex_program.specs.Line.{without_feed}
use Rattle.simplex_program.specs.ResolverLine.{line_words}
use Rattle.simplex_program.specs.ResolverText.{resolver_reply_text}
use Rattle.simplex_program.specs.Transcript.{Asked, Member, Resolver, Point, AreAnswered, Replies, reply_line}
use Rattle.simplex_program.specs.Words.{words_in}
use Rattle.simplex_program.proofs.ServedLines.{nothing_appended, appended}
use Rattle.laws_program.specs.ResolverFetches.{ResolverTurn, answered_by, made_in, made_by, AreResolverLines, resolver_replies, ResolverTranscriptsKeepFetches}

abbrev of_parts : ResolverFacts → List ℕ → LawfulResolverFacts
of_parts x fetching = record { state = x; open_fetches = fetching }

-- ---- a line

module _ (t : ℕ) (calls : List Call) (x y : ResolverFacts) (fetching left : List ℕ)
    (received : HasReceivedCalls t calls (of_parts x fetching)) where
  -- nothing is received, and nothing changes
  kept : IsUnchanged x fetching y left → HasReceivedCalls t calls (of_parts y left)
  kept (same, same_left) = subst (λ z. HasReceivedCalls t calls (of_parts z left)) (sym same)
      (subst (λ views. HasReceivedCalls t calls (of_parts x views)) (sym same_left) received)

  -- a call that is refused with memory at hand changes nothing
  refused : (v : ℕ) (f : Fault) → (f ≡ fault.OutOfMemory → ⊥) → Refused x v f y → y ≡ x
  refused v fault.OutOfMemory other is = absurd (other refl)
  refused v fault.Failed other is = is.1
  refused v fault.ViewTooLarge other is = is.2
  refused v fault.TimeOverflow other is = absurd is

  -- a call that returns effects is received
  called : (v : ℕ) (call : Call) (a : Answer) → NamesAView call → Calls x fetching v call a y left
      → HasReceivedCalls t (answered_by a (call ∷ []) ++ calls) (of_parts y left)
  called v call (answer.Effects es) names (live, effects, after, applied) =
      still_received t calls call (of_parts x fetching) (of_parts y left) es.items received names
      (record { state = after; answered = effects; applied = applied })
  called v call (answer.Fault f) names (other, is, same_left) = kept (refused v f other is, same_left)
  called v call (answer.Flag flag) names is = absurd is
  called v call (answer.Encoding bytes) names is = absurd is
  called v call (answer.Outstanding views) names is = absurd is
  called v call answer.NotAllowed names is = absurd is

  -- a report of view 0 is not received
  reported : (v : ℕ) (call : Call) (a : Answer) → (1 ≤ v → NamesAView call) → Reports x fetching v call a y left
      → HasReceivedCalls t (answered_by a (call ∷ []) ++ calls) (of_parts y left)
  reported zero call a names (below, above) =
      subst (λ b. HasReceivedCalls t (answered_by b (call ∷ []) ++ calls) (of_parts y left)) (sym (below refl).0)
      (kept (below refl).1)
  reported (suc v) call a names (below, above) = called (suc v) call a (names (omega arith)) (above (omega arith))

  -- a line that passes nothing makes no call
  shown : (a : Answer) → IsUnchanged x fetching y left
      → HasReceivedCalls t (answered_by a [] ++ calls) (of_parts y left)
  shown (answer.Effects es) is = kept is
  shown (answer.Fault f) is = kept is
  shown (answer.Flag flag) is = kept is
  shown (answer.Encoding bytes) is = kept is
  shown (answer.Outstanding views) is = kept is
  shown answer.NotAllowed is = kept is

  of_line : (line : ResolverLine) (a : Answer) → ResolverAnswers x fetching line a y left
      → HasReceivedCalls t (made_in line a ++ calls) (of_parts y left)
  of_line (Notarization v) a is = reported v (notarization_call v) a (λ above. above) is
  of_line (Nullification v) a is = reported v (nullification_call v) a (λ above. above) is
  of_line (Finalization v) a is = reported v (finalization_call v) a (λ above. above) is
  of_line (Certified v success) a is = reported v (verdict_call v success) a (λ above. above) is
  of_line Replayed a is = called 0 EndOfReplay a tt is
  of_line (Settled v kind) a is = shown a is.1
  of_line (KeySettled v) a is = shown a is.1
  of_line (Uncertifiable v) a is = shown a is.1
  of_line (Produce v) a is = shown a is.1
  of_line Outstanding a is = shown a is.1

-- ---- the lines in order

-- the lines between two points, sent to a resolver that received these calls
record FetchesFrom (t : ℕ) (calls : List Call) (lines : List (List ℕ)) (p q : Point) : Type 0 where
  pub turns : List ResolverTurn
  pub end : ResolverFacts
  pub fetching : List ℕ
  pub left : q.asked ≡ Resolver end fetching
  pub spelled : AreResolverLines lines turns
  pub written : Appends p.held q.held (resolver_replies turns)
  pub received : HasReceivedCalls t (made_by turns ++ calls) (of_parts end fetching)

one_more : (t : ℕ) (calls : List Call) (line : List ℕ) (lines : List (List ℕ)) (p r q : Point) (turn : ResolverTurn)
    → words_in (without_feed line) ≡ line_words turn.line
    → Appends p.held r.held (reply_line (resolver_reply_text turn.answer))
    → FetchesFrom t (made_in turn.line turn.answer ++ calls) lines r q
    → FetchesFrom t calls (line ∷ lines) p q
one_more t calls line lines p r q turn words extended s = record {
  turns = turn ∷ s.turns;
  end = s.end;
  fetching = s.fetching;
  left = s.left;
  spelled = (words, s.spelled);
  written = appended p.held r.held q.held (reply_line (resolver_reply_text turn.answer)) (resolver_replies s.turns)
      extended s.written;
  received = subst (λ (all : List Call). HasReceivedCalls t all (of_parts s.end s.fetching))
      (sym (append_assoc (made_by s.turns) (made_in turn.line turn.answer) calls)) s.received;
}

fetches_from : (t : ℕ) (calls : List Call) (lines : List (List ℕ)) (p q : Point) (x : ResolverFacts) (fetching : List ℕ)
    → p.asked ≡ Resolver x fetching → HasReceivedCalls t calls (of_parts x fetching) → AreAnswered p lines q
    → FetchesFrom t calls lines p q
fetches_from t calls [] p q x fetching asked received same = record {
  turns = [];
  end = x;
  fetching = fetching;
  left = subst (λ (r : Point). r.asked ≡ Resolver x fetching) same asked;
  spelled = tt;
  written = subst (λ (r : Point). Appends p.held r.held []) same (nothing_appended p.held);
  received = received;
}
fetches_from t calls (line ∷ lines) p q x fetching asked received (r, (reply, (next, replied), extended), rest) =
    by_asked r.asked refl (λ more y left is received_so. fetches_from t more lines r q y left is received_so rest)
  where
    given : (a : Asked) → r.asked ≡ a → Replies (Resolver x fetching) (without_feed line) reply a
    given a is = subst (λ b. Replies b (without_feed line) reply a) asked
        (subst (λ b. Replies p.asked (without_feed line) reply b) is replied)

    by_parts : (y : ResolverFacts) (left : List ℕ) → r.asked ≡ Resolver y left
        → Replies (Resolver x fetching) (without_feed line) reply (Resolver y left)
        → ((more : List Call) (z : ResolverFacts) (views : List ℕ) → r.asked ≡ Resolver z views
        → HasReceivedCalls t more (of_parts z views) → FetchesFrom t more lines r q)
        → FetchesFrom t calls (line ∷ lines) p q
    by_parts y left is (rline, a, words, answers, text) later =
        one_more t calls line lines p r q (record { line = rline; answer = a }) words
        (subst (λ bytes. Appends p.held r.held bytes) text extended)
        (later (made_in rline a ++ calls) y left is (of_line t calls x y fetching left received rline a answers))

    by_asked : (a : Asked) → r.asked ≡ a → ((more : List Call) (z : ResolverFacts) (views : List ℕ)
        → r.asked ≡ Resolver z views → HasReceivedCalls t more (of_parts z views) → FetchesFrom t more lines r q)
        → FetchesFrom t calls (line ∷ lines) p q
    by_asked (Member n m) is later = absurd (given (Member n m) is)
    by_asked (Resolver y left) is later = by_parts y left is (given (Resolver y left) is) later

-- ---- from the start on

nothing_received : (t : ℕ) → 0 < t → HasReceivedCalls t [] (of_parts (empty t) [])
nothing_received t some = record { long = some; named = tt; state = refl; open_fetches = λ v. refl }

pub resolver_transcripts_keep_fetches : ResolverTranscriptsKeepFetches
resolver_transcripts_keep_fetches t left held r after served (inl none) = inl none
resolver_transcripts_keep_fetches t left held r after served (inr (Member n m, begins, _)) = absurd begins
resolver_transcripts_keep_fetches t left held r after served
    (inr (Resolver x fetching, (new, none), (lines, q, answered, ended))) =
    let p : Point = record { asked = Resolver x fetching; left = left; held = held } in
    let start : HasReceivedCalls t [] (of_parts x fetching) =
    rw (new, none) (nothing_received t (omega (arith, served.0))) in
    let s = fetches_from t [] lines p q x fetching refl start answered in
    let received : HasReceivedCalls t (made_by s.turns) (of_parts s.end s.fetching) =
    subst (λ (all : List Call). HasReceivedCalls t all (of_parts s.end s.fetching)) (append-nil (made_by s.turns))
    s.received in
    let left_so = of_parts s.end s.fetching in
    inr (
      left_so,
      record {
        lines = lines;
        last = q;
        asked = s.left;
        ended = ended;
        transcribed = record {
          turns = s.turns;
          spelled = s.spelled;
          written = s.written;
          received = received;
          laws = record {
            wanted = opens_the_wanted left_so t (made_by s.turns) received;
            none = opens_none left_so t (made_by s.turns) received;
            again = opens_none_again left_so t (made_by s.turns) received;
            answers = answers_the_received left_so t (made_by s.turns) received;
          };
        };
      },
    )
