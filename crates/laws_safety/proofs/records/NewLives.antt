-- For `votes_are_lawful`.
-- A new lifetime from a record, and each call in it, keep the voting rules, and the record after them remembers them.
use Rattle.std.proofs.Common.{◌≡◌, refl, ap, sym, ◌∙◌, subst, ℕ, ◌+◌, ◌<◌, ◌≤◌, ◌⊎◌, inl, inr, Bool, true, false, not, List, [], ◌∷◌, ◌++◌, append_assoc, length, Contains, filter, Option, Some, None, arith}
use Rattle.std.specs.Prelude.{◌==◌}
use Rattle.std.specs.Option.{option_or}
use Rattle.std.proofs.lemmas.Bool.{false≢true, eqb-true, cases_Bool}
use Rattle.std.proofs.lemmas.List.{append-nil, length-append}
use Rattle.std.proofs.lemmas.List.Elements.{Contains-append_left}
use Rattle.simplex_types.specs.Certificates.{ProposalFacts, Nullified, Finalized, ArtifactFacts, NotarizeVote, NullifyVote, FinalizeVote, Verdict, Accepted}
use Rattle.simplex_types.specs.Config.{FloorFacts, Genesis, Finalized as FinalizedFloor}
use Rattle.simplex_types.specs.declared.types.messages.Subject.TheVariants as subject
use Rattle.simplex_types.specs.declared.types.window.Terms.{Terms}
use Rattle.simplex_voter.specs.Facts.{Settings, StateFacts, Elect, new_facts, round_number}
use Rattle.simplex_record.specs.declared.record.error.RecoverError.{RecoverError}
use Rattle.simplex_member.specs.CallConditions.{is_allowed}
use Rattle.simplex_member.specs.Calls.{CallFacts}
use Rattle.simplex_member.specs.CallSemantics.{answer, after_call, outstanding_work_after, recorded_by}
use Rattle.simplex_record.specs.Check.{first_error, entry_rules, first_broken_after, stands}
use Rattle.simplex_record.specs.Entries.{entry_round, entry_view}
use Rattle.simplex_record.specs.Recovery.{recovered_state, with_floor, is_finalization_entry}
use Rattle.laws_safety.specs.Traces.{TraceEvent, Accepts, of_floor, trace_of_call}
use Rattle.laws_safety.specs.Lawful.{IsLawful}
use Rattle.laws_safety.proofs.agreement.Lawful.{lawful_push}
use Rattle.laws_safety.proofs.lists.Splits.{Contains-cases}
use Rattle.laws_safety.proofs.frames.CallsOnWork.{is_work}
use Rattle.laws_safety.proofs.votes.LifeCalls.{IsLawfulAndShown, call_keeps}
use Rattle.laws_safety.proofs.records.RecoveredVotes.{recovered_stays}
use Rattle.laws_safety.proofs.records.RecoveredRecords.{recovered_marked}
use Rattle.laws_safety.proofs.records.RecordedVotes.{Marked}
use Rattle.laws_safety.proofs.records.CallsRemembered.{RemembersAndShows, call_follows}
use Rattle.laws_safety.proofs.records.CutsRemembered.{copy_remembers, floor_remembers}
use Rattle.laws_safety.proofs.frames.InOrder.{InOrder, order_call, order_recovered}
use Rattle.simplex_member.specs.OutstandingWork.{OutstandingWork, no_outstanding_work}
use Rattle.laws_safety.proofs.votes.NotarizeVotesShown.{NotesStand, RemembersNotes, notes_acted}
use Rattle.laws_safety.proofs.records.NotarizeVotesRemembered.{notes_copied, notes_floored, notes_called, floor_casts_none}
use Rattle.laws_safety.proofs.records.RecoveredNotarizeVotes.{recovered_notes}
use Rattle.laws_safety.proofs.votes.NotarizeVotesByCalls.{call_notes}
use Rattle.laws_safety.proofs.records.Lifetimes.{IsHigh, Between, high_known}
use Rattle.laws_safety.proofs.lists.Filters.{same_entries}

-- a member that has not failed: its state keeps the rules, and its record follows them
pub record Living {K L D : Type 0} (term_length : ℕ) (trace : List (TraceEvent D)) (closed kept : ℕ)
    (entries : List (ArtifactFacts D)) (o : OutstandingWork K D) (x : StateFacts K L D) : Type 0 where
  pub keeps : IsLawfulAndShown term_length trace x
  pub follows : RemembersAndShows trace kept entries x
  pub in_order : InOrder x
  pub notes : RemembersNotes trace kept entries
  pub noted : (base : ℕ) × (low : ℕ) × NotesStand base low trace o x
  pub high : IsHigh closed kept entries
  pub within : closed ≤ length entries

-- the record remains when a lifetime ends
pub living_between : {K L D : Type 0} (term_length : ℕ) (trace : List (TraceEvent D)) (closed kept : ℕ)
    (entries : List (ArtifactFacts D)) (o : OutstandingWork K D) (x : StateFacts K L D)
    → Living term_length trace closed kept entries o x → Between term_length trace closed kept entries
living_between term_length trace closed kept entries o x living =
    record {
      lawful = living.keeps.lawful;
      remembers = living.follows.remembers;
      notes = living.notes;
      high = living.high;
      within = living.within;
    }

abbrev pub second_broken : List (Bool × RecoverError) → Bool
second_broken [] = false
second_broken (a ∷ []) = false
second_broken (a ∷ (b ∷ rest)) = b.0

second_rule : (rules : List (Bool × RecoverError)) → first_error rules ≡ None → second_broken rules ≡ false
second_rule [] is = refl
second_rule (a ∷ []) is = refl
second_rule ((true, e) ∷ (b ∷ rest)) is = absurd (cc)
second_rule ((false, e) ∷ ((true, f) ∷ rest)) is = absurd (cc)
second_rule ((false, e) ∷ ((false, f) ∷ rest)) is = refl

pub first_none : (o p : Option RecoverError) → option_or o p ≡ None → (o ≡ None) × (p ≡ None)
first_none None p is = (refl, is)
first_none (Some e) p is = absurd (cc)

same_epoch : (a b : ℕ) → not (a == b) ≡ false → a ≡ b
same_epoch a b is = elim (cases_Bool (a == b)) [
  | inl same ↦ eqb-true a b same
  | inr other ↦ absurd (let e : not (a == b) ≡ true = rw other refl in false≢true (sym is ∙ e))
]

module _ {D : Type 0} (same : D → D → Bool) (epoch : ℕ) (me : Option ℕ) where
  of_epoch : (before : List (ArtifactFacts D)) (e : ArtifactFacts D)
      → first_error (entry_rules same epoch me before e) ≡ None → (entry_round e).epoch ≡ epoch
  of_epoch before (NotarizeVote p signer) is =
      same_epoch p.round.epoch epoch (second_rule (entry_rules same epoch me before (NotarizeVote p signer)) is)
  of_epoch before (NullifyVote round signer) is =
      same_epoch round.epoch epoch (second_rule (entry_rules same epoch me before (NullifyVote round signer)) is)
  of_epoch before (FinalizeVote p signer) is =
      same_epoch p.round.epoch epoch (second_rule (entry_rules same epoch me before (FinalizeVote p signer)) is)
  of_epoch before (Verdict round success) is =
      same_epoch round.epoch epoch (second_rule (entry_rules same epoch me before (Verdict round success)) is)
  of_epoch before (Accepted c) is = same_epoch (entry_round (Accepted c)).epoch epoch
      (second_rule (entry_rules same epoch me before (Accepted c)) is)

  -- the entries of a record that breaks no rule are of this epoch
  pub all_of_epoch : (before entries : List (ArtifactFacts D)) → first_broken_after same epoch me before entries ≡ None
      → (e : ArtifactFacts D) → Contains entries e → (entry_round e).epoch ≡ epoch
  all_of_epoch before [] unbroken e h = absurd (omega (arith, h.1))
  all_of_epoch before (f ∷ rest) unbroken e h =
      let parts = first_none (first_error (entry_rules same epoch me before f))
      (first_broken_after same epoch me (f ∷ before) rest) unbroken in
      elim (Contains-cases f rest e h) [
        | inl here ↦ ap (λ (g : ArtifactFacts D). (entry_round g).epoch) (sym here) ∙ of_epoch before f parts.0
        | inr later ↦ all_of_epoch (f ∷ before) rest parts.1 e later
      ]

module _ {D : Type 0} where
  floor_split : (entries : List (ArtifactFacts D)) (floor : FloorFacts D)
      → (more : List (ArtifactFacts D)) × (with_floor entries floor ≡ entries ++ more)
  floor_split entries (Genesis payload) = ([], sym (append-nil entries))
  floor_split entries (FinalizedFloor c) = by_record (stands c.proposal.round.view is_finalization_entry entries) refl
    where
      by_record : (b : Bool) → stands c.proposal.round.view is_finalization_entry entries ≡ b
          → (more : List (ArtifactFacts D)) × (with_floor entries (FinalizedFloor c) ≡ entries ++ more)
      by_record true is = rw is ([], sym (append-nil entries))
      by_record false is = rw is (Accepted (Finalized c) ∷ [], refl)

  pub high_more : (closed kept : ℕ) (entries more : List (ArtifactFacts D)) → IsHigh closed kept entries
      → IsHigh closed kept (entries ++ more)
  high_more closed kept entries more (inl none) = inl none
  high_more closed kept entries more (inr (c, front, back, is, early, above)) =
      inr (
        c,
        front,
        back ++ more,
        ap (λ es. es ++ more) is ∙ append_assoc front (Accepted (Finalized c) ∷ back) more,
        early,
        above,
      )

  pub within_more : (closed : ℕ) (entries more : List (ArtifactFacts D)) → closed ≤ length entries
      → closed ≤ length (entries ++ more)
  within_more closed entries more within = omega (arith, length-append entries more)

module _ {K L D : Type 0} where
  marked_in : (a b : List (ArtifactFacts D)) (x : StateFacts K L D)
      → ((e : ArtifactFacts D) → Contains a e → Contains b e) → Marked a x → Marked b x
  marked_in a b x there marked = record {
    certified = λ v is. (let e = marked.certified v is in (e.0, there (Verdict e.0 true) e.1, e.2));
    nullified =
        λ v is key. (let e = marked.nullified v is key in (e.0, there (NullifyVote (round_number x v) e.0) e.1));
  }

floor_lawful : {D : Type 0} (term_length : ℕ) (trace : List (TraceEvent D)) (floor : FloorFacts D)
    → IsLawful term_length trace → IsLawful term_length (trace ++ of_floor floor)
floor_lawful term_length trace (Genesis payload) lawful = subst (IsLawful term_length) (sym (append-nil trace)) lawful
floor_lawful term_length trace (FinalizedFloor c) lawful =
    lawful_push term_length trace (Accepts (subject.Finalize c.proposal)) lawful tt

module _ {K L D : Type 0} (same : D → D → Bool) (decides : (d e : D) → same d e ≡ true → d ≡ e) (elect : Elect L)
    (settings : Settings) (me : Option ℕ) (members : List K) (elector : L) (terms : Terms) (early : Bool) where
  -- a new lifetime from a copy of the record by view
  pub new_life_lives : (trace : List (TraceEvent D)) (closed kept : ℕ) (entries copy : List (ArtifactFacts D))
      (floor : FloorFacts D) (now : ℕ) → Between terms.term_length trace closed kept entries
      → ((v : ℕ) → filter (λ e. entry_view e == v) copy ≡ filter (λ e. entry_view e == v) entries)
      → ((e : ArtifactFacts D) → Contains copy e → (entry_round e).epoch ≡ settings.epoch)
      → Living terms.term_length (trace ++ of_floor floor) closed kept (with_floor entries floor) no_outstanding_work
      (recovered_state same elect (new_facts settings me members elector terms early) floor now copy)
  new_life_lives trace closed kept entries copy floor now between by_view epochs =
      let t = terms.term_length in
      let x = recovered_state same elect (new_facts settings me members elector terms early) floor now copy in
      let remembers = copy_remembers trace kept entries between.remembers copy by_view in
      let into_copy = same_entries entries copy (λ v. sym (by_view v)) in
      let into_record = same_entries copy entries by_view in
      let final : (kept ≡ 0) ⊎ ((c : ProposalFacts D) × Contains copy (Accepted (Finalized c))
      × (kept ≤ c.proposal.round.view)) = elim (high_known closed kept entries between.high)
      [ inl none ↦ inl none | inr c ↦ inr (c.0, into_copy (Accepted (Finalized c.0)) c.1, c.2) ] in
      let stays = recovered_stays same decides elect settings me members elector terms early trace kept copy floor now
      between.lawful remembers final in
      let copied = notes_copied trace kept entries between.notes copy by_view in
      let noted = recovered_notes same elect settings me members elector terms early trace kept copy floor now copied
      (λ c h. remembers.accepted (Nullified c) h) final stays.ahead in
      let more = floor_split entries floor in
      let there : (e : ArtifactFacts D) → Contains copy e → Contains (with_floor entries floor) e =
      λ e h. subst (λ es. Contains es e) (sym more.1) (Contains-append_left entries more.0 e (into_record e h)) in
      record {
        keeps = record {
          lawful = floor_lawful t trace floor between.lawful;
          stays = stays;
        };
        follows = record {
          remembers = floor_remembers trace kept entries between.remembers floor;
          marked = marked_in copy (with_floor entries floor) x there
              (recovered_marked same elect settings me members elector terms early copy floor now epochs);
        };
        in_order = order_recovered same elect settings me members elector terms early floor now copy;
        notes = notes_floored trace kept entries floor between.notes;
        noted = (
          0,
          x.finalized + 1,
          notes_acted 0 (x.finalized + 1) trace (of_floor floor) no_outstanding_work x
              (floor_casts_none floor) noted,
        );
        high = subst (λ es. IsHigh closed kept es) (sym more.1) (high_more closed kept entries more.0 between.high);
        within = subst (λ es. closed ≤ length es) (sym more.1) (within_more closed entries more.0 between.within);
      }

module _ {K L D : Type 0} (same : D → D → Bool) (decides : (d e : D) → same d e ≡ true → d ≡ e) (elect : Elect L)
    (term_length : ℕ) (trace : List (TraceEvent D)) (closed kept : ℕ) (entries : List (ArtifactFacts D))
    (x : StateFacts K L D) where
  -- a call that is allowed and not refused, and not on the work of a view
  pub plain_lives : (o : OutstandingWork K D) (call : CallFacts D) → 0 < term_length → is_work call ≡ false
      → is_allowed x o call ≡ true → Living term_length trace closed kept entries o x
      → Living term_length (trace ++ trace_of_call call (answer same elect x o call)) closed kept
      (entries ++ recorded_by same elect x call) (outstanding_work_after same elect x o call)
      (after_call same elect x o call)
  plain_lives o call some plain allowed living = record {
    keeps = call_keeps same decides elect term_length trace x living.keeps o call plain;
    follows = call_follows same elect term_length trace kept entries x living.keeps.stays living.follows o call plain
        allowed;
    in_order = order_call same elect x o living.in_order call;
    notes = notes_called same elect x o trace kept entries call plain living.notes;
    noted =
        (let noted = living.noted in
        let left = call_notes same elect noted.0 noted.1 trace o x noted.2 call plain
        (omega (arith, some, living.keeps.stays.stands.terms)) living.keeps.stays.ahead allowed in
        (left.0, noted.1, left.1));
    high = high_more closed kept entries (recorded_by same elect x call) living.high;
    within = within_more closed entries (recorded_by same elect x call) living.within;
  }
