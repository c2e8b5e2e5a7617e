-- A host's step keeps what is asked of it, and what the others passed may still have been sent.
use Rattle.std.proofs.Common.{◌≡◌, ◌≢◌, ◌⊎◌, inl, inr, ℕ, zero, suc, ◌+◌, ◌-◌, ◌*◌, ◌<◌, ◌≤◌, Bool, false, List, [], ◌∷◌, ◌++◌, length, slice_get, Option, Some, refl, ap, sym, subst, ◌∙◌, append_assoc, append-nil, arith}
use Rattle.std.specs.Prelude.{Contains}
use Rattle.std.specs.List.{count_by}
use Rattle.std.proofs.lemmas.Bool.{cases_eq}
use Rattle.std.proofs.lemmas.List.Elements.{Contains-append_left, Contains-append_right, Contains-append_cases}
use Rattle.simplex_types.specs.Certificates.{certificate_facts}
use Rattle.simplex_types.specs.Encoding.{certificate_subject}
use Rattle.simplex_types.specs.declared.types.messages.Subject.{Subject}
use Rattle.simplex_types.specs.declared.types.window.Terms.{Terms}
use Rattle.simplex_voter.specs.Facts.{Elect}
use Rattle.simplex_member.specs.declared.member.journal.Stored.{Stored}
use Rattle.laws_safety.specs.ObservedTraces.{floor_in}
use Rattle.laws_safety.specs.Replicas.{max_faults, quorum, AtLeastFrom}
use Rattle.laws_safety.specs.Traces.{Accepts}
use Rattle.laws_safety.proofs.lists.Splits.{only_one}
use Rattle.engine_votes.specs.declared.votes.Vote.{Vote}
use Rattle.engine_outbox.specs.declared.output.Output.{Output}
use Rattle.engine_outbox.specs.declared.output.Output.TheVariants as output
use Rattle.engine_outbox.specs.HostStops.{MayBeCarriedOut}
use Rattle.engine_outbox.specs.Journals.{Journal, journal_of}
use Rattle.simplex_engine.specs.declared.engine.Engine.{Engine}
use Rattle.simplex_engine.specs.declared.input.Input.TheVariants as input
use Rattle.laws_hosts.specs.EngineCalls.{EngineCall, Handled, Polled, outputs_of, IsEngineCall, AreEngineCalls}
use Rattle.laws_hosts.specs.HostNetworks.{Host, Faulty, Honest, is_faulty_host, FewFaultyHosts, MayHaveSent, IsCertifiable, IsHonestHost, IsHostNetwork}
use Rattle.laws_hosts.specs.Processes.{Process, carried_by, IsProcess, AreProcesses}
use Rattle.laws_hosts.proofs.CallTraces.{none_in}
use Rattle.laws_hosts.proofs.QuorumVotes.{ArePairs, as_many, same_count}
use Rattle.laws_host_steps.specs.HostSteps.{with_call, with_carried, CarriesOut, MayBePassed, MakesCall, BeginsProcess, ChangesLast, IsHostStep, IsNetworkStep, AreNetworkSteps, HaveBegun}

-- ---- lists

-- the last item is there
pub last_there : {X : Type 0} (xs : List X) (x : X) → xs ++ x ∷ [] ≢ []
last_there [] x is = absurd (cc)
last_there (y ∷ xs) x is = absurd (cc)

-- lists of the same length whose items belong together, place by place
pub pairs_of : {X : Type 0} (R : ℕ → X → X → Type 0) (xs ys : List X) (i : ℕ) → length ys ≡ length xs
    → ((k : ℕ) (x y : X) → slice_get xs k ≡ Some x → slice_get ys k ≡ Some y → R (i + k) x y) → ArePairs R i xs ys
pairs_of R [] [] i same each = tt
pairs_of R [] (y ∷ ys) i same each = absurd (omega (arith, same))
pairs_of R (x ∷ xs) [] i same each = absurd (omega (arith, same))
pairs_of R (x ∷ xs) (y ∷ ys) i same each =
    let here : i + 0 ≡ i = omega arith in (
      subst (λ j. R j x y) here (each 0 x y refl refl),
      pairs_of R xs ys (suc i) (omega (arith, same)) (λ k z w is_z is_w. (
          let at : i + suc k ≡ suc i + k = omega arith in
          subst (λ j. R j z w) at (each (suc k) z w is_z is_w))),
    )

-- a list that is as long has an item where the other has one
pub item_at : {X : Type 0} (xs ys : List X) (k : ℕ) (y : X) → length ys ≡ length xs → slice_get ys k ≡ Some y
    → (x : X) × (slice_get xs k ≡ Some x)
item_at [] [] k y same at = absurd (cc)
item_at [] (z ∷ ys) k y same at = absurd (omega (arith, same))
item_at (x ∷ xs) [] k y same at = absurd (omega (arith, same))
item_at (x ∷ xs) (z ∷ ys) zero y same at = (x, refl)
item_at (x ∷ xs) (z ∷ ys) (suc k) y same at = item_at xs ys k y (omega (arith, same)) at

-- ---- outputs and calls

module _ {S L D K G C : Type 0} where
  pub carried-append : (xs ys : List (Process S L D K G C)) → carried_by (xs ++ ys) ≡ carried_by xs ++ carried_by ys
  carried-append [] ys = refl
  carried-append (x ∷ xs) ys =
      ap (λ outs. x.carried ++ outs) (carried-append xs ys)
      ∙ sym (append_assoc x.carried (carried_by xs) (carried_by ys))

module _ {S D K G C : Type 0} where
  pub outputs-append : (xs ys : List (EngineCall S D K G C)) → outputs_of (xs ++ ys) ≡ outputs_of xs ++ outputs_of ys
  outputs-append [] ys = refl
  outputs-append (Handled passed ∷ xs) ys = outputs-append xs ys
  outputs-append (Polled outs ∷ xs) ys =
      ap (λ more. outs ++ more) (outputs-append xs ys) ∙ sym (append_assoc outs (outputs_of xs) (outputs_of ys))

-- what may have been carried out of outputs may have been of more
pub of_longer : {S D J K G C : Type 0} (outs more carried : List (Output S D J K G C)) → MayBeCarriedOut outs carried
    → MayBeCarriedOut (outs ++ more) carried
of_longer outs more carried (inl (back, is)) =
    inl (back ++ more, ap (λ xs. xs ++ more) is ∙ append_assoc carried back more)
of_longer outs more carried (inr torn) = inr (record {
  front = torn.front;
  back = torn.back ++ more;
  entries = torn.entries;
  part = torn.part;
  rest = torn.rest;
  outs_are = ap (λ xs. xs ++ more) torn.outs_are
      ∙ append_assoc torn.front (output.Store torn.entries ∷ torn.back) more;
  entries_are = torn.entries_are;
  carried_is = torn.carried_is;
})

-- ---- a host that has carried out more

module _ {S L D K G C : Type 0} where
  -- a host stays faulty, or has carried out more
  abbrev pub HasCarriedMore : ℕ → Host S L D K G C → Host S L D K G C → Type 0
  HasCarriedMore i Faulty Faulty = Unit {0}
  HasCarriedMore i Faulty (Honest processes) = ⊥
  HasCarriedMore i (Honest old) Faulty = ⊥
  HasCarriedMore i (Honest old) (Honest new) =
      (more : List (Output S D Stored K G C)) × (carried_by new ≡ carried_by old ++ more)

  same_carried : (i : ℕ) (host : Host S L D K G C) → HasCarriedMore i host host
  same_carried i Faulty = tt
  same_carried i (Honest processes) = ([], sym (append-nil (carried_by processes)))

  same_kind : (i : ℕ) (old new : Host S L D K G C) → HasCarriedMore i old new
      → is_faulty_host new ≡ is_faulty_host old
  same_kind i Faulty Faulty has = refl
  same_kind i Faulty (Honest processes) has = absurd has
  same_kind i (Honest processes) Faulty has = absurd has
  same_kind i (Honest old) (Honest new) has = refl

  sent_still : (subject : Subject D) (i : ℕ) (old new : Host S L D K G C) → HasCarriedMore i old new
      → MayHaveSent subject i old → MayHaveSent subject i new
  sent_still subject i Faulty Faulty has sent = tt
  sent_still subject i Faulty (Honest processes) has sent = absurd has
  sent_still subject i (Honest processes) Faulty has sent = absurd has
  sent_still subject i (Honest old) (Honest new) has sent = (
    sent.0,
    subst (λ outs. Contains outs (output.Vote (record { subject = subject; signer = i; signature = sent.0 })))
        (sym has.1)
        (Contains-append_left (carried_by old) has.0
        (output.Vote (record { subject = subject; signer = i; signature = sent.0 })) sent.1),
  )

  -- hosts each of which has carried out more
  pub record HaveCarriedMore (hosts later : List (Host S L D K G C)) : Type 0 where
    pub as_many : length later ≡ length hosts
    pub each : (i : ℕ) (old new : Host S L D K G C) → slice_get hosts i ≡ Some old → slice_get later i ≡ Some new
        → HasCarriedMore i old new

  module _ (hosts later : List (Host S L D K G C)) (have : HaveCarriedMore hosts later) where
    pairs : ArePairs HasCarriedMore 0 hosts later
    pairs = pairs_of HasCarriedMore hosts later 0 have.as_many (λ k old new is_old is_new. (
        let at : k ≡ 0 + k = omega arith in
        subst (λ j. HasCarriedMore j old new) at (have.each k old new is_old is_new)))

    pub certifiable_still : (subject : Subject D) → IsCertifiable hosts subject → IsCertifiable later subject
    certifiable_still subject may =
        subst (λ n. AtLeastFrom 0 (quorum n) (MayHaveSent subject) later) (sym have.as_many)
        (as_many HasCarriedMore (MayHaveSent subject) (MayHaveSent subject) (sent_still subject) hosts later 0
        (quorum (length hosts)) pairs may)

    pub passed_still : (vote : Vote D G)
        → ((host : Host S L D K G C) → slice_get hosts vote.signer ≡ Some host
        → MayHaveSent vote.subject vote.signer host)
        → (host : Host S L D K G C) → slice_get later vote.signer ≡ Some host
        → MayHaveSent vote.subject vote.signer host
    passed_still vote sent host at =
        let found = item_at hosts later vote.signer host have.as_many at in
        sent_still vote.subject vote.signer found.0 host (have.each vote.signer found.0 host found.1 at)
        (sent found.0 found.1)

    pub few_still : FewFaultyHosts hosts → FewFaultyHosts later
    few_still few =
        subst (λ n. ((1 ≤ n) × (count_by is_faulty_host later ≤ max_faults n))
        ⊎ (count_by is_faulty_host later < n - 2 * max_faults n)) (sym have.as_many)
        (subst (λ f. ((1 ≤ length hosts) × (f ≤ max_faults (length hosts)))
        ⊎ (f < length hosts - 2 * max_faults (length hosts)))
        (sym (same_count HasCarriedMore is_faulty_host is_faulty_host same_kind hosts later 0 pairs)) few)

-- ---- an honest host

module _ {S L D K G C : Type 0} (same : D → D → Bool) (elect : Elect L) (bytes_of : C → List ℕ)
    (is_signature : K → Subject D → G → Type 0) (keys_of : S → List K) (me : S → Option ℕ) (terms : L → Terms)
    (term_length : ℕ) where
  -- it stays honest while others carry out more
  honest_still : (i : ℕ) (hosts later : List (Host S L D K G C)) (processes : List (Process S L D K G C))
      → HaveCarriedMore hosts later
      → IsHonestHost same elect bytes_of is_signature keys_of me terms term_length i hosts processes
      → IsHonestHost same elect bytes_of is_signature keys_of me terms term_length i later processes
  honest_still i hosts later processes have honest = record {
    some = honest.some;
    runs = subst (λ n. AreProcesses same elect bytes_of is_signature keys_of me terms term_length i n [] processes)
        (sym have.as_many) honest.runs;
    votes = λ process vote host has among at. passed_still hosts later have vote
        (λ other there. honest.votes process vote other has among there) host at;
    certificates = λ process certificate has among. certifiable_still hosts later have
        (certificate_subject (certificate_facts bytes_of certificate))
        (honest.certificates process certificate has among);
    floors = λ process subject has among. certifiable_still hosts later have subject
        (honest.floors process subject has among);
  }

  calls_more : (calls : List (EngineCall S D K G C)) (call : EngineCall S D K G C)
      (first last next : Engine S L D K G C)
      → AreEngineCalls same elect bytes_of is_signature keys_of calls first last
      → IsEngineCall same elect bytes_of is_signature keys_of call last next
      → AreEngineCalls same elect bytes_of is_signature keys_of (calls ++ call ∷ []) first next
  calls_more [] call first last next are is =
      (next, subst (λ e. IsEngineCall same elect bytes_of is_signature keys_of call e next) are is, refl)
  calls_more (one ∷ calls) call first last next are is =
      (are.0, are.1, calls_more calls call are.0 last next are.2 is)

  process_called : (i members : ℕ) (journal : Journal S D Stored K G C) (process : Process S L D K G C)
      (call : EngineCall S D K G C) (next : Engine S L D K G C)
      → IsEngineCall same elect bytes_of is_signature keys_of call process.last next → next.core.failed ≡ false
      → IsProcess same elect bytes_of is_signature keys_of me terms term_length i members journal process
      → IsProcess same elect bytes_of is_signature keys_of me terms term_length i members journal
      (with_call process call next)
  process_called i members journal process call next made alive is = record {
    starts = is.starts;
    members_are = is.members_are;
    begins = is.begins;
    runs = calls_more process.calls call process.first process.last next is.runs made;
    alive = alive;
    carries_out = subst (λ outs. MayBeCarriedOut outs process.carried)
        (sym (outputs-append process.calls (call ∷ [])))
        (of_longer (outputs_of process.calls) (outputs_of (call ∷ [])) process.carried is.carries_out);
  }

  process_carried : (i members : ℕ) (journal : Journal S D Stored K G C) (process : Process S L D K G C)
      (carried : List (Output S D Stored K G C)) → MayBeCarriedOut (outputs_of process.calls) carried
      → IsProcess same elect bytes_of is_signature keys_of me terms term_length i members journal process
      → IsProcess same elect bytes_of is_signature keys_of me terms term_length i members journal
      (with_carried process carried)
  process_carried i members journal process carried may is = record {
    starts = is.starts;
    members_are = is.members_are;
    begins = is.begins;
    runs = is.runs;
    alive = is.alive;
    carries_out = may;
  }

  -- another last process
  last_changed : (i members : ℕ) (before : List (Process S L D K G C)) (earlier : List (Output S D Stored K G C))
      (last next : Process S L D K G C)
      → ((journal : Journal S D Stored K G C)
      → IsProcess same elect bytes_of is_signature keys_of me terms term_length i members journal last
      → IsProcess same elect bytes_of is_signature keys_of me terms term_length i members journal next)
      → AreProcesses same elect bytes_of is_signature keys_of me terms term_length i members earlier
      (before ++ last ∷ [])
      → AreProcesses same elect bytes_of is_signature keys_of me terms term_length i members earlier
      (before ++ next ∷ [])
  last_changed i members [] earlier last next changed are = (changed (journal_of earlier) are.0, tt)
  last_changed i members (process ∷ before) earlier last next changed are =
      (are.0, last_changed i members before (earlier ++ process.carried) last next changed are.1)

  -- one process more
  one_more : (i members : ℕ) (processes : List (Process S L D K G C)) (earlier : List (Output S D Stored K G C))
      (next : Process S L D K G C)
      → IsProcess same elect bytes_of is_signature keys_of me terms term_length i members
      (journal_of (earlier ++ carried_by processes)) next
      → AreProcesses same elect bytes_of is_signature keys_of me terms term_length i members earlier processes
      → AreProcesses same elect bytes_of is_signature keys_of me terms term_length i members earlier
      (processes ++ next ∷ [])
  one_more i members [] earlier next is are = (
    subst (λ outs. IsProcess same elect bytes_of is_signature keys_of me terms term_length i members
        (journal_of outs) next) (append-nil earlier) is,
    tt,
  )
  one_more i members (process ∷ processes) earlier next is are = (
    are.0,
    one_more i members processes (earlier ++ process.carried) next
        (subst (λ outs. IsProcess same elect bytes_of is_signature keys_of me terms term_length i members
        (journal_of outs) next) (sym (append_assoc earlier process.carried (carried_by processes))) is) are.1,
  )

  -- a process that begins
  process_begun : (i : ℕ) (hosts : List (Host S L D K G C)) (processes : List (Process S L D K G C))
      (new : Process S L D K G C)
      → BeginsProcess same elect bytes_of is_signature keys_of me terms term_length i hosts processes new
      → IsProcess same elect bytes_of is_signature keys_of me terms term_length i (length hosts)
      (journal_of (carried_by processes)) new
  process_begun i hosts processes new is =
      subst (IsProcess same elect bytes_of is_signature keys_of me terms term_length i (length hosts)
      (journal_of (carried_by processes))) (sym is.new_is) (record {
        starts = is.starts;
        members_are = is.members_are;
        begins = is.begins;
        runs = refl;
        alive = is.alive;
        carries_out = inl ([], refl);
      })

  no_calls : (i : ℕ) (hosts : List (Host S L D K G C)) (processes : List (Process S L D K G C))
      (new : Process S L D K G C)
      → BeginsProcess same elect bytes_of is_signature keys_of me terms term_length i hosts processes new
      → (call : EngineCall S D K G C) → Contains new.calls call → ⊥
  no_calls i hosts processes new is call has =
      none_in call (subst (λ (p : Process S L D K G C). Contains p.calls call) is.new_is has)

  -- ---- a step

  -- what is passed by a changed process is passed by the old one, or may be passed
  passed_before : (hosts : List (Host S L D K G C)) (last next : Process S L D K G C)
      → MakesCall same elect bytes_of is_signature keys_of me terms hosts last next ⊎ CarriesOut last next
      → (call : EngineCall S D K G C) → Contains next.calls call
      → Contains last.calls call ⊎ MayBePassed bytes_of hosts call
  passed_before hosts last next (inl makes) call has =
      elim (Contains-append_cases last.calls (makes.call ∷ []) call
      (subst (λ (p : Process S L D K G C). Contains p.calls call) makes.new_is has)) [
        | inl old ↦ inl old
        | inr new ↦ inr (subst (MayBePassed bytes_of hosts) (only_one makes.call call new) makes.may)
      ]
  passed_before hosts last next (inr carries) call has =
      inl (subst (λ (p : Process S L D K G C). Contains p.calls call) carries.new_is has)

  same_start : (hosts : List (Host S L D K G C)) (last next : Process S L D K G C)
      → MakesCall same elect bytes_of is_signature keys_of me terms hosts last next ⊎ CarriesOut last next
      → next.start ≡ last.start
  same_start hosts last next (inl makes) = ap (λ (p : Process S L D K G C). p.start) makes.new_is
  same_start hosts last next (inr carries) = ap (λ (p : Process S L D K G C). p.start) carries.new_is

  still_process : (i members : ℕ) (hosts : List (Host S L D K G C)) (last next : Process S L D K G C)
      → MakesCall same elect bytes_of is_signature keys_of me terms hosts last next ⊎ CarriesOut last next
      → (journal : Journal S D Stored K G C)
      → IsProcess same elect bytes_of is_signature keys_of me terms term_length i members journal last
      → IsProcess same elect bytes_of is_signature keys_of me terms term_length i members journal next
  still_process i members hosts last next (inl makes) journal is =
      subst (IsProcess same elect bytes_of is_signature keys_of me terms term_length i members journal)
      (sym makes.new_is) (process_called i members journal last makes.call makes.next makes.made makes.alive is)
  still_process i members hosts last next (inr carries) journal is =
      subst (IsProcess same elect bytes_of is_signature keys_of me terms term_length i members journal)
      (sym carries.new_is) (process_carried i members journal last (last.carried ++ carries.more) carries.may is)

  more_carried : (hosts : List (Host S L D K G C)) (last next : Process S L D K G C)
      → MakesCall same elect bytes_of is_signature keys_of me terms hosts last next ⊎ CarriesOut last next
      → (more : List (Output S D Stored K G C)) × (next.carried ≡ last.carried ++ more)
  more_carried hosts last next (inl makes) =
      ([], ap (λ (p : Process S L D K G C). p.carried) makes.new_is ∙ sym (append-nil last.carried))
  more_carried hosts last next (inr carries) =
      (carries.more, ap (λ (p : Process S L D K G C). p.carried) carries.new_is)

  -- the host that takes the step has carried out more
  step_carries : (i : ℕ) (hosts : List (Host S L D K G C)) (old new : List (Process S L D K G C))
      → IsHostStep same elect bytes_of is_signature keys_of me terms term_length i hosts old new
      → (more : List (Output S D Stored K G C)) × (carried_by new ≡ carried_by old ++ more)
  step_carries i hosts old new (inl step) =
      let grown = more_carried hosts step.last step.next step.changes in
      let last = step.last.carried in (
        grown.0,
        ap carried_by step.new_is ∙ carried-append step.before (step.next ∷ [])
            ∙ ap (λ outs. carried_by step.before ++ outs) (append-nil step.next.carried ∙ grown.1)
            ∙ sym (append_assoc (carried_by step.before) last grown.0)
            ∙ ap (λ outs. outs ++ grown.0)
            (ap (λ outs. carried_by step.before ++ outs) (sym (append-nil last))
            ∙ sym (carried-append step.before (step.last ∷ [])) ∙ ap carried_by (sym step.old_is)),
      )
  step_carries i hosts old new (inr (process, new_is, begins)) =
      (carried_by (process ∷ []), ap carried_by new_is ∙ carried-append old (process ∷ []))

  module _ (hosts later : List (Host S L D K G C))
      (network : IsHostNetwork same elect bytes_of is_signature keys_of me terms term_length hosts)
      (step : IsNetworkStep same elect bytes_of is_signature keys_of me terms term_length hosts later) where
    at_both : (i : ℕ) (old new : Host S L D K G C) → slice_get hosts i ≡ Some old → slice_get later i ≡ Some new
        → HasCarriedMore i old new
    at_both i old new is_old is_new = elim (cases_eq i step.i) [
      | inl here ↦
          let old_is : Honest step.old ≡ old =
          some_same (sym step.old_at ∙ ap (slice_get hosts) (sym here) ∙ is_old) in
          let new_is : Honest step.new ≡ new =
          some_same (sym step.new_at ∙ ap (slice_get later) (sym here) ∙ is_new) in
          subst (λ h. HasCarriedMore i h new) old_is (subst (HasCarriedMore i (Honest step.old)) new_is
          (step_carries step.i hosts step.old step.new step.step))
      | inr apart ↦
          let same_host : old ≡ new = some_same (sym is_old ∙ sym (step.others i apart) ∙ is_new) in
          subst (HasCarriedMore i old) same_host (same_carried i old)
    ]
      where
        some_same : {x y : Host S L D K G C} → Some x ≡ Some y → x ≡ y
        some_same is = cc

    pub have : HaveCarriedMore hosts later
    have = record { as_many = step.as_many; each = at_both }

    abbrev HonestLater : ℕ → List (Process S L D K G C) → Type 0
    HonestLater i processes =
        IsHonestHost same elect bytes_of is_signature keys_of me terms term_length i later processes

    before_step : HonestLater step.i step.old
    before_step = honest_still step.i hosts later step.old have (network.honest step.i step.old step.old_at)

    -- the host whose last process changes
    changed : ChangesLast same elect bytes_of is_signature keys_of me terms hosts step.old step.new
        → HonestLater step.i step.new
    changed changes = subst (HonestLater step.i) (sym changes.new_is) (record {
      some = last_there changes.before changes.next;
      runs = last_changed step.i (length later) changes.before [] changes.last changes.next
          (still_process step.i (length later) hosts changes.last changes.next changes.changes) was.runs;
      votes = λ process vote host has among at.
          elim (Contains-append_cases changes.before (changes.next ∷ []) process has) [
            | inl earlier ↦ was.votes process vote host
                (Contains-append_left changes.before (changes.last ∷ []) process earlier) among at
            | inr newest ↦ elim (of_next process newest (Handled (input.Vote vote)) among) [
              | inl passed ↦ was.votes changes.last vote host last_in passed at
              | inr may ↦ passed_still hosts later have vote may host at
            ]
          ];
      certificates = λ process certificate has among.
          elim (Contains-append_cases changes.before (changes.next ∷ []) process has) [
            | inl earlier ↦ was.certificates process certificate
                (Contains-append_left changes.before (changes.last ∷ []) process earlier) among
            | inr newest ↦ elim (of_next process newest (Handled (input.Certificate certificate)) among) [
              | inl passed ↦ was.certificates changes.last certificate last_in passed
              | inr may ↦ certifiable_still hosts later have
                  (certificate_subject (certificate_facts bytes_of certificate)) may
            ]
          ];
      floors = λ process subject has among.
          elim (Contains-append_cases changes.before (changes.next ∷ []) process has) [
            | inl earlier ↦ was.floors process subject
                (Contains-append_left changes.before (changes.last ∷ []) process earlier) among
            | inr newest ↦ was.floors changes.last subject last_in (
                subst (λ start. Contains (floor_in start.floor) (Accepts subject))
                (ap (λ (p : Process S L D K G C). p.start) (sym (only_one changes.next process newest))
                ∙ same_start hosts changes.last changes.next changes.changes) among)
          ];
    })
      where
        was : HonestLater step.i (changes.before ++ changes.last ∷ [])
        was = subst (HonestLater step.i) changes.old_is before_step

        last_in : Contains (changes.before ++ changes.last ∷ []) changes.last
        last_in = Contains-append_right changes.before (changes.last ∷ []) changes.last (0, omega arith, refl)

        of_next : (process : Process S L D K G C) → Contains (changes.next ∷ []) process
            → (call : EngineCall S D K G C) → Contains process.calls call
            → Contains changes.last.calls call ⊎ MayBePassed bytes_of hosts call
        of_next process newest call among =
            passed_before hosts changes.last changes.next changes.changes call
            (subst (λ (p : Process S L D K G C). Contains p.calls call)
            (sym (only_one changes.next process newest)) among)

    -- the host that begins another process
    begun : (process : Process S L D K G C) → step.new ≡ step.old ++ process ∷ []
        → BeginsProcess same elect bytes_of is_signature keys_of me terms term_length step.i hosts step.old process
        → HonestLater step.i step.new
    begun new new_is begins = subst (HonestLater step.i) (sym new_is) (record {
      some = last_there step.old new;
      runs = one_more step.i (length later) step.old [] new
          (subst (λ n. IsProcess same elect bytes_of is_signature keys_of me terms term_length step.i n
          (journal_of (carried_by step.old)) new) (sym step.as_many)
          (process_begun step.i hosts step.old new begins)) before_step.runs;
      votes = λ process vote host has among at. elim (Contains-append_cases step.old (new ∷ []) process has) [
        | inl earlier ↦ before_step.votes process vote host earlier among at
        | inr newest ↦ absurd (none process newest (Handled (input.Vote vote)) among)
      ];
      certificates = λ process certificate has among.
          elim (Contains-append_cases step.old (new ∷ []) process has) [
            | inl earlier ↦ before_step.certificates process certificate earlier among
            | inr newest ↦ absurd (none process newest (Handled (input.Certificate certificate)) among)
          ];
      floors = λ process subject has among. elim (Contains-append_cases step.old (new ∷ []) process has) [
        | inl earlier ↦ before_step.floors process subject earlier among
        | inr newest ↦ certifiable_still hosts later have subject (begins.floor subject (
            subst (λ (p : Process S L D K G C). Contains (floor_in p.start.floor) (Accepts subject))
            (sym (only_one new process newest)) among))
      ];
    })
      where
        none : (process : Process S L D K G C) → Contains (new ∷ []) process
            → (call : EngineCall S D K G C) → Contains process.calls call → ⊥
        none process newest call among =
            no_calls step.i hosts step.old new begins call
            (subst (λ (p : Process S L D K G C). Contains p.calls call) (sym (only_one new process newest)) among)

    stepped : IsHostStep same elect bytes_of is_signature keys_of me terms term_length step.i hosts step.old step.new
        → HonestLater step.i step.new
    stepped (inl changes) = changed changes
    stepped (inr (process, new_is, begins)) = begun process new_is begins

    honest_later : (i : ℕ) (processes : List (Process S L D K G C)) → slice_get later i ≡ Some (Honest processes)
        → HonestLater i processes
    honest_later i processes at = elim (cases_eq i step.i) [
      | inl here ↦
          let new_is : step.new ≡ processes = honest_same (sym step.new_at ∙ ap (slice_get later) (sym here) ∙ at) in
          subst (λ j. HonestLater j processes) (sym here) (subst (HonestLater step.i) new_is (stepped step.step))
      | inr apart ↦ honest_still i hosts later processes have
          (network.honest i processes (sym (step.others i apart) ∙ at))
    ]
      where
        honest_same : {x y : List (Process S L D K G C)} → ◌≡◌ {A = Option (Host S L D K G C)} (Some (Honest x))
            (Some (Honest y)) → x ≡ y
        honest_same is = cc

    pub one_step : IsHostNetwork same elect bytes_of is_signature keys_of me terms term_length later
    one_step = record { few_faulty = few_still hosts later have network.few_faulty; honest = honest_later }

  pub all_steps : (stages : List (List (Host S L D K G C))) (hosts later : List (Host S L D K G C))
      → IsHostNetwork same elect bytes_of is_signature keys_of me terms term_length hosts
      → AreNetworkSteps same elect bytes_of is_signature keys_of me terms term_length stages hosts later
      → IsHostNetwork same elect bytes_of is_signature keys_of me terms term_length later
  all_steps [] hosts later network are =
      subst (IsHostNetwork same elect bytes_of is_signature keys_of me terms term_length) (sym are) network
  all_steps (next ∷ stages) hosts later network are =
      all_steps stages next later (one_step hosts next network are.0) are.1

  -- ---- the beginning

  pub begun_hosts : (hosts : List (Host S L D K G C))
      → HaveBegun same elect bytes_of is_signature keys_of me terms term_length hosts
      → IsHostNetwork same elect bytes_of is_signature keys_of me terms term_length hosts
  begun_hosts hosts have = record { few_faulty = have.few_faulty; honest = each }
    where
      alone : (i : ℕ) (process : Process S L D K G C)
          → BeginsProcess same elect bytes_of is_signature keys_of me terms term_length i hosts [] process
          → IsHonestHost same elect bytes_of is_signature keys_of me terms term_length i hosts (process ∷ [])
      alone i new begins = record {
        some = last_there [] new;
        runs = (process_begun i hosts [] new begins, tt);
        votes = λ process vote host has among at. absurd (none process has (Handled (input.Vote vote)) among);
        certificates = λ process certificate has among.
            absurd (none process has (Handled (input.Certificate certificate)) among);
        floors = λ process subject has among. begins.floor subject (
            subst (λ (p : Process S L D K G C). Contains (floor_in p.start.floor) (Accepts subject))
            (sym (only_one new process has)) among);
      }
        where
          none : (process : Process S L D K G C) → Contains (new ∷ []) process
              → (call : EngineCall S D K G C) → Contains process.calls call → ⊥
          none process has call among =
              no_calls i hosts [] new begins call
              (subst (λ (p : Process S L D K G C). Contains p.calls call) (sym (only_one new process has)) among)

      each : (i : ℕ) (processes : List (Process S L D K G C)) → slice_get hosts i ≡ Some (Honest processes)
          → IsHonestHost same elect bytes_of is_signature keys_of me terms term_length i hosts processes
      each i processes at =
          let found = have.honest i processes at in
          subst (IsHonestHost same elect bytes_of is_signature keys_of me terms term_length i hosts) (sym found.1)
          (alone i found.0 found.2)
