-- Where a host stopped: the outputs that it carried out are those of a lawful stop, and they begin with a `Replace`.
use Rattle.std.proofs.Common.{◌≡◌, ◌⊎◌, inl, inr, ℕ, Bool, List, [], ◌∷◌, ◌++◌, Some, Vec, refl, ap, sym, subst, ◌∙◌, append_assoc}
use Rattle.std.specs.Prelude.{Contains}
use Rattle.std.specs.declared.alloc.Global.{Global}
use Rattle.std.proofs.lemmas.List.Elements.{Contains-append_left, Contains-append_cases}
use Rattle.simplex_types.specs.declared.types.messages.Artifact.{Artifact}
use Rattle.simplex_types.specs.declared.types.messages.Proposal.{Proposal}
use Rattle.simplex_voter.specs.Facts.{Elect}
use Rattle.simplex_member.specs.declared.member.journal.Stored.{Stored}
use Rattle.laws_safety.specs.Traces.{TraceEvent}
use Rattle.laws_safety.proofs.lists.Splits.{Contains-cases, Contains-cons_rest, only_one}
use Rattle.engine_outbox.specs.Finalizations.{finals_in}
use Rattle.engine_outbox.specs.HostStops.{MayBeCarriedOut, IsLawfulStop, EachStopIsLawful}
use Rattle.engine_outbox.specs.Journals.{Journal, empty_journal, written, written_all, journal_of}
use Rattle.engine_outbox.specs.declared.output.Output.{Output}
use Rattle.engine_outbox.specs.declared.output.Output.TheVariants as output
use Rattle.engine_outbox.proofs.Journals.{behind_others}
use Rattle.laws_hosts.proofs.CallTraces.{none_in, here}

module _ {S D J K G C : Type 0} where
  -- an output after which something is stored beside the entries does not depend on what was stored
  replaces : (out : Output S D J K G C) (beside : J) → (written empty_journal out).beside ≡ Some beside
      → (journal : Journal S D J K G C) → written journal out ≡ written empty_journal out
  replaces (output.Store entries) beside is journal = absurd (cc)
  replaces (output.Replace entries stored) beside is journal = refl
  replaces (output.Vote vote) beside is journal = absurd (cc)
  replaces (output.Finalized p) beside is journal = absurd (cc)
  replaces (output.Work work) beside is journal = absurd (cc)

  no_store : (out : Output S D J K G C) (beside : J) → (written empty_journal out).beside ≡ Some beside
      → (entries : Vec (Artifact S D K G C) Global) → out ≡ output.Store entries → ⊥
  no_store (output.Store old) beside is entries same = absurd (cc)
  no_store (output.Replace old stored) beside is entries same = absurd (cc)
  no_store (output.Vote vote) beside is entries same = absurd (cc)
  no_store (output.Finalized p) beside is entries same = absurd (cc)
  no_store (output.Work work) beside is entries same = absurd (cc)

  none_carried : (carried : List (Output S D J K G C)) → MayBeCarriedOut [] carried → carried ≡ []
  none_carried [] was = refl
  none_carried (x ∷ carried) (inl (back, is)) = absurd (cc)
  none_carried (x ∷ carried) (inr torn) = by_front torn.front torn.outs_are
    where
      by_front : (front : List (Output S D J K G C)) → [] ≡ front ++ output.Store torn.entries ∷ torn.back
          → x ∷ carried ≡ []
      by_front [] is = absurd (cc)
      by_front (f ∷ front) is = absurd (cc)

  -- after a first output that is no `Store`
  after_first : (first : Output S D J K G C) (rest carried : List (Output S D J K G C))
      → ((entries : Vec (Artifact S D K G C) Global) → first ≡ output.Store entries → ⊥)
      → MayBeCarriedOut (first ∷ rest) carried
      → (carried ≡ [])
      ⊎ ((others : List (Output S D J K G C)) × (carried ≡ first ∷ others) × MayBeCarriedOut rest others)
  after_first first rest [] none was = inl refl
  after_first first rest (x ∷ others) none (inl (back, is)) =
      let head : x ≡ first = cc in
      let tail : rest ≡ others ++ back = cc in
      inr (others, ap (λ y. y ∷ others) head, inl (back, tail))
  after_first first rest (x ∷ others) none (inr torn) = by_front torn.front torn.outs_are torn.carried_is
    where
      by_front : (front : List (Output S D J K G C)) → first ∷ rest ≡ front ++ output.Store torn.entries ∷ torn.back
          → x ∷ others ≡ front ++ output.Store torn.part ∷ []
          → (x ∷ others ≡ [])
          ⊎ ((more : List (Output S D J K G C)) × (x ∷ others ≡ first ∷ more) × MayBeCarriedOut rest more)
      by_front [] outs_are carried_is = absurd (none torn.entries (cc))
      by_front (f ∷ front) outs_are carried_is =
          let head : x ≡ first = cc in
          let tail : rest ≡ front ++ output.Store torn.entries ∷ torn.back = cc in
          let carried_tail : others ≡ front ++ output.Store torn.part ∷ [] = cc in
          inr (
            others,
            ap (λ y. y ∷ others) head,
            inr (record {
              front = front;
              back = torn.back;
              entries = torn.entries;
              part = torn.part;
              rest = torn.rest;
              outs_are = tail;
              entries_are = torn.entries_are;
              carried_is = carried_tail;
            }),
          )

  -- also of longer outputs
  of_more : (outs more carried : List (Output S D J K G C)) → MayBeCarriedOut outs carried
      → MayBeCarriedOut (outs ++ more) carried
  of_more outs more carried (inl (back, is)) =
      inl (back ++ more, ap (λ xs. xs ++ more) is ∙ append_assoc carried back more)
  of_more outs more carried (inr torn) = inr (record {
    front = torn.front;
    back = torn.back ++ more;
    entries = torn.entries;
    part = torn.part;
    rest = torn.rest;
    outs_are = ap (λ xs. xs ++ more) torn.outs_are
        ∙ append_assoc torn.front (output.Store torn.entries ∷ torn.back) more;
    entries_are = torn.entries_are;
    carried_is = torn.carried_is;
  })

  -- each proposal that was carried out as final was returned
  pub final_returned : (outs carried : List (Output S D J K G C)) (p : Proposal D) → MayBeCarriedOut outs carried
      → Contains carried (output.Finalized p) → Contains outs (output.Finalized p)
  final_returned outs carried p (inl (back, is)) has =
      subst (λ xs. Contains xs (output.Finalized p)) (sym is)
      (Contains-append_left carried back (output.Finalized p) has)
  final_returned outs carried p (inr torn) has =
      elim (Contains-append_cases torn.front (output.Store torn.part ∷ []) (output.Finalized p)
      (subst (λ xs. Contains xs (output.Finalized p)) torn.carried_is has)) [
        | inl front ↦ subst (λ xs. Contains xs (output.Finalized p)) (sym torn.outs_are)
            (Contains-append_left torn.front (output.Store torn.entries ∷ torn.back) (output.Finalized p) front)
        | inr last ↦ absurd (no_final (output.Store torn.part) torn.part p refl
            (only_one (output.Store torn.part) (output.Finalized p) last))
      ]
    where
      no_final : (out : Output S D J K G C) (part : Vec (Artifact S D K G C) Global) (q : Proposal D)
          → out ≡ output.Store part → out ≡ output.Finalized q → ⊥
      no_final out part q store final = absurd (cc)

  pub among_finals : (outs : List (Output S D J K G C)) (p : Proposal D) → Contains outs (output.Finalized p)
      → Contains (finals_in outs) p
  among_finals [] p has = none_in (output.Finalized p) has
  among_finals (out ∷ rest) p has = elim (Contains-cases out rest (output.Finalized p) has) [
    | inl same_output ↦ subst (λ o. Contains (finals_in (o ∷ rest)) p) (sym same_output) (here p (finals_in rest))
    | inr later ↦ behind out (among_finals rest p later)
  ]
    where
      behind : (o : Output S D J K G C) → Contains (finals_in rest) p → Contains (finals_in (o ∷ rest)) p
      behind (output.Finalized q) found = Contains-cons_rest q (finals_in rest) p found
      behind (output.Store entries) found = found
      behind (output.Replace entries stored) found = found
      behind (output.Vote vote) found = found
      behind (output.Work work) found = found

module _ {S L D K G C : Type 0} (same : D → D → Bool) (elect : Elect L) (bytes_of : C → List ℕ) (term_length i : ℕ)
    (earlier all : List (TraceEvent D)) where
  -- a lawful stop, after which the journal does not depend on what was stored before
  pub record HasStopped (carried : List (Output S D Stored K G C)) : Type 0 where
    pub lawful : IsLawfulStop same elect bytes_of term_length i earlier all carried
    pub fresh : (before : List (Output S D Stored K G C)) → journal_of (before ++ carried) ≡ journal_of carried

  pub stopped : (outs queue carried : List (Output S D Stored K G C))
      → EachStopIsLawful same elect bytes_of term_length i earlier all (outs ++ queue)
      → MayBeCarriedOut outs carried → (carried ≡ []) ⊎ HasStopped carried
  stopped [] queue carried each was = inl (none_carried carried was)
  stopped (first ∷ rest) queue carried each was =
      let begins = (each first (rest ++ queue) [] refl (inl (rest ++ queue, refl))).may in
      elim (after_first first rest carried (no_store first _ begins.holds.beside) was) [
        | inl none ↦ inl none
        | inr (others, is, more) ↦ inr (subst HasStopped (sym is) (record {
          lawful = each first (rest ++ queue) others refl (of_more rest queue others more);
          fresh = λ before. behind_others before (first ∷ others)
              ∙ ap (λ j. written_all j others) (replaces first _ begins.holds.beside (journal_of before));
        }))
      ]
