-- Who is accountable for two certificates that contradict each other: for any number of faulty members, by what is
-- known of each.
use Rattle.std.specs.Prelude.{◌≡◌, ◌≢◌, ℕ, ◌+◌, ◌-◌, ◌*◌, ◌<◌, ◌≤◌, ◌⊎◌, ⊤, Bool, true, List, map, length, slice_get, Option, Some, None, Contains, is_some, not}
use Rattle.std.specs.List.{count_by}
use Rattle.simplex_types.specs.Terms.{covers}
use Rattle.simplex_types.specs.declared.types.messages.Proposal.{Proposal}
use Rattle.simplex_types.specs.declared.types.messages.Subject.{Subject}
use Rattle.simplex_types.specs.declared.types.messages.Subject.TheVariants.{Notarize, Nullify, Finalize}
use Rattle.simplex_types.specs.declared.types.numbers.Round.{Round}
use Rattle.simplex_voter.specs.Facts.{Elect}
use Rattle.laws_safety.specs.Traces.{TraceEvent, Accepts, Signs}
use Rattle.laws_safety.specs.Lawful.{HasSigned, SignsAfter, HasCover, HasFinalizedBetween, IsLawful}
use Rattle.laws_safety.specs.Replicas.{AtLeastFrom, Replica, Faulty, Honest, faults, Backed, max_faults, quorum}
use Rattle.laws_safety.specs.Executions.{Execution, trace_of, IsExecution}

module _ {D : Type 0} where
  -- two proposals of one view
  abbrev pub AreRivals : Proposal D → Proposal D → Type 0
  AreRivals p q = (p.round.view ≡ q.round.view) × (p ≢ q)

  -- two certificates contradict: they are of two proposals of a view; or a proposal above a finalized view names a
  -- parent below that view; or a finalized view is covered by a nullification
  abbrev pub Contradicts : ℕ → Subject D → Subject D → Type 0
  Contradicts term_length (Notarize p) (Notarize q) = AreRivals p q
  Contradicts term_length (Notarize p) (Finalize final) =
      AreRivals p final ⊎ ((p.parent < final.round.view) × (final.round.view < p.round.view))
  Contradicts term_length (Notarize p) (Nullify round) = ⊥
  Contradicts term_length (Nullify round) (Notarize p) = ⊥
  Contradicts term_length (Nullify round) (Nullify other) = ⊥
  Contradicts term_length (Nullify round) (Finalize final) = covers term_length round.view final.round.view ≡ true
  Contradicts term_length (Finalize final) (Notarize p) =
      AreRivals p final ⊎ ((p.parent < final.round.view) × (final.round.view < p.round.view))
  Contradicts term_length (Finalize final) (Nullify round) = covers term_length round.view final.round.view ≡ true
  Contradicts term_length (Finalize p) (Finalize q) = AreRivals p q

  -- two votes of one member that alone show that it broke a rule: two votes to notarize a view or two to finalize it,
  -- on two proposals; or one to nullify a view and one to finalize it
  abbrev pub IsEvidence : Subject D → Subject D → Type 0
  IsEvidence (Notarize p) (Notarize q) = AreRivals p q
  IsEvidence (Finalize p) (Finalize q) = AreRivals p q
  IsEvidence (Nullify round) (Finalize p) = round.view ≡ p.round.view
  IsEvidence (Finalize p) (Nullify round) = round.view ≡ p.round.view
  IsEvidence a b = ⊥

  -- how far two certificates that contradict are from such evidence. A nullification and a finalization: the distance
  -- of the finalized view above the nullified one; a notarization and a finalization: farther than each nullification
  -- that covers the finalized view
  abbrev pub distance : Subject D → Subject D → ℕ
  distance (Notarize p) (Finalize final) = final.round.view + 1
  distance (Finalize final) (Notarize p) = final.round.view + 1
  distance (Nullify round) (Finalize final) = final.round.view - round.view
  distance (Finalize final) (Nullify round) = final.round.view - round.view
  distance a b = 0

  -- rules that a member breaks by a vote, each the negation of a rule of `IsLawful`

  -- it voted to finalize a proposal, and had accepted no notarization of it
  abbrev pub FinalizesUnnotarized : List (TraceEvent D) → Proposal D → Type 0
  FinalizesUnnotarized trace p =
      (before : List (TraceEvent D)) × SignsAfter trace before (Finalize p)
      × (Contains before (Accepts (Notarize p)) → ⊥)

  -- it voted for a proposal that skips a view, and had accepted no nullification that covers it
  abbrev pub SkipsUncovered : ℕ → List (TraceEvent D) → Proposal D → ℕ → Type 0
  SkipsUncovered term_length trace p skipped =
      (before : List (TraceEvent D))
      × SignsAfter trace before (Notarize p)
      × (p.parent < skipped)
      × (skipped < p.round.view)
      × (HasCover term_length before skipped → ⊥)

  -- it voted to nullify a view after it had voted to finalize one that this covers
  abbrev pub NullifiesFinalized : ℕ → List (TraceEvent D) → Round → Proposal D → Type 0
  NullifiesFinalized term_length trace round p =
      (before : List (TraceEvent D))
      × SignsAfter trace before (Nullify round)
      × HasSigned before (Finalize p)
      × (covers term_length round.view p.round.view ≡ true)

  -- it voted to finalize a view after it had voted to nullify an earlier one of the term, and had accepted no
  -- finalization of a view between
  abbrev pub FinalizesPastNullify : ℕ → List (TraceEvent D) → Round → Proposal D → Type 0
  FinalizesPastNullify term_length trace round p =
      (before : List (TraceEvent D))
      × SignsAfter trace before (Finalize p)
      × HasSigned before (Nullify round)
      × (round.view < p.round.view)
      × (covers term_length round.view p.round.view ≡ true)
      × (HasFinalizedBetween before round.view p.round.view → ⊥)

  -- the rule broken by a vote for a proposal and one to finalize another, and by a vote to nullify and one to finalize

  abbrev pub BreaksByFinal : ℕ → List (TraceEvent D) → Proposal D → Proposal D → Type 0
  BreaksByFinal term_length trace p final =
      FinalizesUnnotarized trace final ⊎ SkipsUncovered term_length trace p final.round.view

  abbrev pub BreaksByNullify : ℕ → List (TraceEvent D) → Round → Proposal D → Type 0
  BreaksByNullify term_length trace round final =
      (round.view ≡ final.round.view)
      ⊎ NullifiesFinalized term_length trace round final
      ⊎ FinalizesPastNullify term_length trace round final

  -- a member that signed the votes of both of two certificates that contradict broke a rule by these: as evidence
  -- shows, or by what it had done and accepted before one of them
  abbrev pub BreaksBy : ℕ → List (TraceEvent D) → Subject D → Subject D → Type 0
  BreaksBy term_length trace (Notarize p) (Finalize final) = BreaksByFinal term_length trace p final
  BreaksBy term_length trace (Finalize final) (Notarize p) = BreaksByFinal term_length trace p final
  BreaksBy term_length trace (Nullify round) (Finalize final) = BreaksByNullify term_length trace round final
  BreaksBy term_length trace (Finalize final) (Nullify round) = BreaksByNullify term_length trace round final
  BreaksBy term_length trace a b = IsEvidence a b

-- before it signed one of the two votes it accepted a third certificate, which contradicts one of the two and is nearer
-- to it than they are to each other
pub record HasAcceptedNearer {D : Type 0} (term_length : ℕ) (a b : Subject D)
    (trace : List (TraceEvent D)) : Type 0 where
  pub third : Subject D
  pub before : List (TraceEvent D)
  pub signs : SignsAfter trace before a ⊎ SignsAfter trace before b
  pub accepted : Contains before (Accepts third)
  pub nearer : (Contradicts term_length third a × (distance third a < distance a b))
      ⊎ (Contradicts term_length third b × (distance third b < distance a b))

module _ {D : Type 0} where
  -- of a member nothing is known, as of a faulty one; or its whole trace

  -- this vote may be of member `i`: nothing is known of it, or the vote is in its trace
  abbrev pub MayHaveVoted : Subject D → ℕ → Option (List (TraceEvent D)) → Type 0
  MayHaveVoted vote i None = ⊤
  MayHaveVoted vote i (Some trace) = Contains trace (Signs i vote)

  -- n - f members may have given the vote that it certifies
  abbrev pub MayBeCertified : List (Option (List (TraceEvent D))) → Subject D → Type 0
  MayBeCertified members vote = AtLeastFrom 0 (quorum (length members)) (MayHaveVoted vote) members

  -- this holds for each certificate accepted by a member of which something is known
  abbrev pub AcceptCertified : List (Option (List (TraceEvent D))) → Type 0
  AcceptCertified members =
      (i : ℕ) (trace : List (TraceEvent D)) (certificate : Subject D)
      → slice_get members i ≡ Some (Some trace)
      → Contains trace (Accepts certificate)
      → MayBeCertified members certificate

  -- member `i` is accountable for both: nothing is known of it; or it signed both votes, and broke a rule by these or
  -- was misled by a third certificate
  abbrev pub IsResponsibleFor : ℕ → Subject D → Subject D → ℕ → Option (List (TraceEvent D)) → Type 0
  IsResponsibleFor term_length a b i None = ⊤
  IsResponsibleFor term_length a b i (Some trace) =
      Contains trace (Signs i a)
      × Contains trace (Signs i b)
      × (BreaksBy term_length trace a b ⊎ HasAcceptedNearer term_length a b trace)

  -- member `i` signed both votes, and broke a rule by these
  abbrev pub IsGuilty : ℕ → Subject D → Subject D → ℕ → Option (List (TraceEvent D)) → Type 0
  IsGuilty term_length a b i None = ⊥
  IsGuilty term_length a b i (Some trace) =
      Contains trace (Signs i a) × Contains trace (Signs i b) × BreaksBy term_length trace a b

  -- it did, or nothing is known of it
  abbrev pub IsSuspect : ℕ → Subject D → Subject D → ℕ → Option (List (TraceEvent D)) → Type 0
  IsSuspect term_length a b i None = ⊤
  IsSuspect term_length a b i (Some trace) = IsGuilty term_length a b i (Some trace)

  -- the number of members of which nothing is known
  abbrev pub unknowns : List (Option (List (TraceEvent D))) → ℕ
  unknowns members = count_by (λ member. not (is_some member)) members

-- two certificates that contradict, no farther apart than two others, at which n - 2f members are unknown or broke a
-- rule: among those whose trace is known, n - 2f less the number of unknown ones
pub record IsTraced {D : Type 0} (term_length : ℕ) (members : List (Option (List (TraceEvent D))))
    (a b : Subject D) : Type 0 where
  pub first : Subject D
  pub second : Subject D
  pub contradict : Contradicts term_length first second
  pub near : distance first second ≤ distance a b
  pub first_certified : MayBeCertified members first
  pub second_certified : MayBeCertified members second
  pub suspects : AtLeastFrom 0 (length members - 2 * max_faults (length members))
      (IsSuspect term_length first second) members
  pub guilty : AtLeastFrom 0 (length members - 2 * max_faults (length members) - unknowns members)
      (IsGuilty term_length first second) members

-- the third certificate is none of the two
abbrev pub ThirdIsAnother : (D : Type 0) → Type 0
ThirdIsAnother D =
    (term_length : ℕ) (trace : List (TraceEvent D)) (a b : Subject D)
    → (nearer : HasAcceptedNearer term_length a b trace)
    → (nearer.third ≢ a) × (nearer.third ≢ b)

-- a member that signed both votes of such evidence has broken a rule
abbrev pub EvidenceHolds : (D : Type 0) → Type 0
EvidenceHolds D =
    (term_length : ℕ) (trace : List (TraceEvent D)) (a b : Subject D)
    → IsEvidence a b → HasSigned trace a → HasSigned trace b → IsLawful term_length trace → ⊥

-- certificates that contradict at no distance are evidence
abbrev pub NearestIsEvidence : (D : Type 0) → Type 0
NearestIsEvidence D = (term_length : ℕ) (a b : Subject D) → Contradicts term_length a b
    → distance a b ≡ 0 → IsEvidence a b

-- each broken rule is indeed one of the voting rules
abbrev pub BrokenRulesAreRules : (D : Type 0) → Type 0
BrokenRulesAreRules D =
    (term_length : ℕ) (trace : List (TraceEvent D)) (a b : Subject D)
    → BreaksBy term_length trace a b → HasSigned trace a → HasSigned trace b → IsLawful term_length trace → ⊥

-- n - 2f members are accountable for two certificates that contradict
abbrev pub ContradictionsHaveFaultyMembers : (D : Type 0) → Type 0
ContradictionsHaveFaultyMembers D =
    (term_length : ℕ) (members : List (Option (List (TraceEvent D)))) (a b : Subject D)
    → Contradicts term_length a b → MayBeCertified members a → MayBeCertified members b
    → AtLeastFrom 0 (length members - 2 * max_faults (length members)) (IsResponsibleFor term_length a b) members

-- and if each certificate that is known to be accepted may exist, broken rules are found
abbrev pub ContradictionsAreTraced : (D : Type 0) → Type 0
ContradictionsAreTraced D =
    (term_length : ℕ) (members : List (Option (List (TraceEvent D)))) (a b : Subject D)
    → AcceptCertified members → Contradicts term_length a b → MayBeCertified members a → MayBeCertified members b
    → IsTraced term_length members a b

module _ {K L D : Type 0} where
  -- what is known of a member: its whole trace, or of a faulty one nothing
  abbrev pub known_of : Replica K L D → Option (List (TraceEvent D))
  known_of Faulty = None
  known_of (Honest s) = Some (trace_of s)

module _ {K L D : Type 0} (same : D → D → Bool) (elect : Elect L) where
  -- for any number of faulty members: each other one runs as it says, and each certificate that one of these accepted
  -- is backed
  pub record IsBackedNetwork (term_length : ℕ) (network : List (Replica K L D)) : Type 0 where
    pub honest : (i : ℕ) (s : Execution K L D) → slice_get network i ≡ Some (Honest s)
        → IsExecution same elect term_length i s
    pub backed : (i : ℕ) (s : Execution K L D) (certificate : Subject D) → slice_get network i ≡ Some (Honest s)
        → Contains (trace_of s) (Accepts certificate) → Backed network certificate

module _ (K : Type 0) {L D : Type 0} (same : D → D → Bool) (elect : Elect L) where
  -- if two backed certificates contradict, n - 2f members are faulty
  abbrev pub ContradictionsNeedFaults : Type 0
  ContradictionsNeedFaults =
      (term_length : ℕ) (network : List (Replica K L D)) (a b : Subject D)
      → IsBackedNetwork same elect term_length network → Contradicts term_length a b → Backed network a
      → Backed network b
      → length network - 2 * max_faults (length network) ≤ faults network

  -- and two are found that contradict, no farther apart, with votes of n - 2f members that are faulty or broke a rule
  -- by these
  abbrev pub ContradictionsAreTracedInNetworks : Type 0
  ContradictionsAreTracedInNetworks =
      (term_length : ℕ) (network : List (Replica K L D)) (a b : Subject D)
      → IsBackedNetwork same elect term_length network → Contradicts term_length a b → Backed network a
      → Backed network b
      → IsTraced term_length (map known_of network) a b
