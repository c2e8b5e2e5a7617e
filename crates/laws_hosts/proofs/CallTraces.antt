-- What an engine's member has done, call by call, and that each certificate that it accepted is good.
use Rattle.std.proofs.Common.{◌≡◌, inl, inr, ℕ, Bool, List, [], ◌∷◌, ◌++◌, length, Option, Some, None, refl, ap, sym, subst, ◌∙◌, append_assoc, append-nil, arith}
use Rattle.std.specs.Prelude.{All, Contains}
use Rattle.std.proofs.lemmas.List.Elements.{All-contains, Contains-append_cases}
use Rattle.simplex_types.specs.Certificates.{certificate_facts}
use Rattle.simplex_types.specs.Encoding.{certificate_subject}
use Rattle.simplex_types.specs.declared.types.messages.Certificate.{Certificate}
use Rattle.simplex_types.specs.declared.types.messages.Subject.{Subject}
use Rattle.simplex_voter.specs.Facts.{Elect}
use Rattle.simplex_member.specs.declared.member.journal.Stored.{Stored}
use Rattle.laws_safety.specs.Traces.{TraceEvent, Accepts}
use Rattle.laws_safety.proofs.lists.Splits.{Contains-cons_rest, only_one}
use Rattle.engine_votes.specs.StoredVotes.{AreGiven}
use Rattle.engine_votes.specs.declared.votes.Vote.{Vote}
use Rattle.engine_outbox.specs.Continuity.{Continues, IsTraced}
use Rattle.engine_outbox.specs.SubjectActions.{IsActionOn}
use Rattle.engine_outbox.specs.declared.output.Output.{Output}
use Rattle.simplex_engine.specs.CertificateVotes.{TakesVotes, HasQuorum}
use Rattle.simplex_engine.specs.declared.engine.Engine.{Engine}
use Rattle.simplex_engine.specs.declared.input.Input.{Input}
use Rattle.simplex_engine.specs.declared.input.Input.TheVariants as input
use Rattle.laws_hosts.specs.EngineCalls.{EngineCall, Handled, Polled, outputs_of, IsHandled, IsPolled, AreEngineCalls}

-- nothing is in an empty list
pub none_in : {X P : Type 0} (x : X) → Contains [] x → P
none_in x has = absurd (omega (arith, has.1))

pub here : {X : Type 0} (x : X) (xs : List X) → Contains (x ∷ xs) x
here x xs = (0, omega arith, refl)

-- each certificate that was accepted is good
abbrev pub AcceptsGood : {D : Type 0} → (Subject D → Type 0) → List (TraceEvent D) → Type 0
AcceptsGood {D} IsGood all = (c : Subject D) → Contains all (Accepts c) → IsGood c

module _ {D : Type 0} (IsGood : Subject D → Type 0) where
  pub good_both : (all more : List (TraceEvent D)) → AcceptsGood IsGood all → AcceptsGood IsGood more
      → AcceptsGood IsGood (all ++ more)
  good_both all more first second c has =
      elim (Contains-append_cases all more (Accepts c) has) [ inl one ↦ first c one | inr other ↦ second c other ]

  pub good_none : (more : List (TraceEvent D)) → All (IsActionOn None) more → AcceptsGood IsGood more
  good_none more on_none c has = absurd (All-contains (IsActionOn None) more (Accepts c) on_none has)

  pub good_on : (more : List (TraceEvent D)) (subject : Subject D) → All (IsActionOn (Some subject)) more
      → IsGood subject → AcceptsGood IsGood more
  good_on more subject on_this good c has =
      let same : c ≡ subject = All-contains (IsActionOn (Some subject)) more (Accepts c) on_this has in
      subst IsGood (sym same) good

module _ {D G : Type 0} (members : ℕ) (IsSent : Vote D G → Type 0) (IsGood : Subject D → Type 0) where
  -- a quorum of votes that were sent makes a good certificate
  abbrev pub QuorumsAreGood : Type 0
  QuorumsAreGood = (votes : List (Vote D G)) (subject : Subject D)
      → ((vote : Vote D G) → Contains votes vote → IsSent vote) → HasQuorum members votes subject → IsGood subject

module _ {S D K G C : Type 0} (bytes_of : C → List ℕ) (IsSent : Vote D G → Type 0) (IsGood : Subject D → Type 0) where
  -- what was passed was sent, or is good
  pub record PassesGood (calls : List (EngineCall S D K G C)) : Type 0 where
    pub votes : (vote : Vote D G) → Contains calls (Handled (input.Vote vote)) → IsSent vote
    pub certificates : (certificate : Certificate S D K G C) → Contains calls (Handled (input.Certificate certificate))
        → IsGood (certificate_subject (certificate_facts bytes_of certificate))

  later_calls : (call : EngineCall S D K G C) (rest : List (EngineCall S D K G C)) → PassesGood (call ∷ rest)
      → PassesGood rest
  later_calls call rest passes = record {
    votes = λ vote has. passes.votes vote (Contains-cons_rest call rest (Handled (input.Vote vote)) has);
    certificates = λ certificate has. passes.certificates certificate
        (Contains-cons_rest call rest (Handled (input.Certificate certificate)) has);
  }

module _ {S L D K G C : Type 0} (same : D → D → Bool) (elect : Elect L) (bytes_of : C → List ℕ)
    (is_signature : K → Subject D → G → Type 0)
    (keys_of : S → List K) (members : ℕ) (IsSent : Vote D G → Type 0) (IsGood : Subject D → Type 0) where
  module _ (term_length i : ℕ) (earlier : List (TraceEvent D)) where
    -- what is known of an engine after its outputs so far
    pub record IsAt (given : List (Output S D Stored K G C)) (engine : Engine S L D K G C) : Type 0 where
      pub all : List (TraceEvent D)
      pub traced : IsTraced same elect bytes_of term_length i earlier given all engine.core
      pub good : AcceptsGood IsGood all
      pub votes : List (Vote D G)
      pub are_given : AreGiven votes engine.batcher
      pub are_sent : (vote : Vote D G) → Contains votes vote → IsSent vote
      pub members_are : length (keys_of engine.batcher.scheme) ≡ members

    sent_both : (votes more : List (Vote D G)) → ((vote : Vote D G) → Contains votes vote → IsSent vote)
        → ((vote : Vote D G) → Contains more vote → IsSent vote)
        → (vote : Vote D G) → Contains (votes ++ more) vote → IsSent vote
    sent_both votes more first second vote has =
        elim (Contains-append_cases votes more vote has) [ inl one ↦ first vote one | inr other ↦ second vote other ]

    stepped : (given : List (Output S D Stored K G C)) (old new : Engine S L D K G C) (taken : Option (Subject D))
        (more : List (Vote D G)) (at : IsAt given old)
        → (goes : Continues same elect bytes_of is_signature taken old.core new.core) → AcceptsGood IsGood goes.more
        → TakesVotes more old.batcher new.batcher → ((vote : Vote D G) → Contains more vote → IsSent vote)
        → IsAt given new
    stepped given old new taken more at goes good takes sent = record {
      all = at.all ++ goes.more;
      traced = goes.traced term_length i earlier given at.all at.traced;
      good = good_both IsGood at.all goes.more at.good good;
      votes = at.votes ++ more;
      are_given = takes.are_given at.votes at.are_given;
      are_sent = sent_both at.votes more at.are_sent sent;
      members_are = ap (λ s. length (keys_of s)) takes.scheme ∙ at.members_are;
    }

    handled : QuorumsAreGood members IsSent IsGood
        → (given : List (Output S D Stored K G C)) (passed : Input S D K G C) (rest : List (EngineCall S D K G C))
        (old new : Engine S L D K G C)
        → PassesGood bytes_of IsSent IsGood (Handled passed ∷ rest)
        → IsHandled same elect bytes_of is_signature keys_of passed old new → IsAt given old → IsAt given new
    handled quorums given (input.Vote vote) rest old new passes is at =
        let sent : (v : Vote D G) → Contains (vote ∷ []) v
        → IsSent v = λ v has. subst IsSent (only_one vote v has)
        (passes.votes vote (here (Handled (input.Vote vote)) rest)) in
        elim (is.backed.backed at.votes at.are_given) [
          | inl goes ↦ stepped given old new None (vote ∷ []) at goes (good_none IsGood goes.more goes.on_this) is.votes
              sent
          | inr quorum ↦ stepped given old new (Some vote.subject) (vote ∷ []) at is.continues
              (good_on IsGood is.continues.more vote.subject is.continues.on_this
              (quorums (at.votes ++ vote ∷ []) vote.subject (sent_both at.votes (vote ∷ []) at.are_sent sent)
              (subst (λ n. HasQuorum n (at.votes ++ vote ∷ []) vote.subject) at.members_are quorum))) is.votes sent
        ]
    handled quorums given (input.Certificate certificate) rest old new passes is at =
        let subject = certificate_subject (certificate_facts bytes_of certificate) in
        stepped given old new (Some subject) [] at is.continues
        (good_on IsGood is.continues.more subject is.continues.on_this
        (passes.certificates certificate (here (Handled (input.Certificate certificate)) rest))) is.votes
        (λ v has. none_in v has)
    handled quorums given (input.Proposal from proposal) rest old new passes is at =
        stepped given old new None [] at is.continues (good_none IsGood is.continues.more is.continues.on_this) is.votes
        (λ v has. none_in v has)
    handled quorums given (input.Verified view valid) rest old new passes is at =
        stepped given old new None [] at is.continues (good_none IsGood is.continues.more is.continues.on_this) is.votes
        (λ v has. none_in v has)
    handled quorums given (input.Built context payload) rest old new passes is at =
        stepped given old new None [] at is.continues (good_none IsGood is.continues.more is.continues.on_this) is.votes
        (λ v has. none_in v has)
    handled quorums given (input.Certified view success) rest old new passes is at =
        stepped given old new None [] at is.continues (good_none IsGood is.continues.more is.continues.on_this) is.votes
        (λ v has. none_in v has)
    handled quorums given (input.GivenUp view reason) rest old new passes is at =
        stepped given old new None [] at is.continues (good_none IsGood is.continues.more is.continues.on_this) is.votes
        (λ v has. none_in v has)

    polled : (given outs : List (Output S D Stored K G C)) (old new : Engine S L D K G C)
        → IsPolled same elect bytes_of is_signature keys_of outs old new → IsAt given old → IsAt (given ++ outs) new
    polled given outs old new is at = record {
      all = at.all ++ is.traced.more;
      traced = is.traced.traced term_length i earlier given at.all at.traced;
      good = good_both IsGood at.all is.traced.more at.good (good_none IsGood is.traced.more is.traced.on_this);
      votes = at.votes;
      are_given = is.votes.are_given at.votes at.are_given;
      are_sent = at.are_sent;
      members_are = ap (λ s. length (keys_of s)) is.votes.scheme ∙ at.members_are;
    }

    -- over all calls of a process
    pub called : QuorumsAreGood members IsSent IsGood
        → (calls : List (EngineCall S D K G C)) (given : List (Output S D Stored K G C))
        (first last : Engine S L D K G C)
        → PassesGood bytes_of IsSent IsGood calls
        → AreEngineCalls same elect bytes_of is_signature keys_of calls first last → IsAt given first
        → IsAt (given ++ outputs_of calls) last
    called quorums [] given first last passes same_engine at =
        subst (λ e. IsAt (given ++ []) e) (sym same_engine)
        (subst (λ outs. IsAt outs first) (sym (append-nil given)) at)
    called quorums (Handled passed ∷ rest) given first last passes (next, is, runs) at =
        called quorums rest given next last (later_calls bytes_of IsSent IsGood (Handled passed) rest passes) runs
        (handled quorums given passed rest first next passes is at)
    called quorums (Polled outs ∷ rest) given first last passes (next, is, runs) at =
        subst (λ o. IsAt o last) (append_assoc given outs (outputs_of rest))
        (called quorums rest (given ++ outs) next last (later_calls bytes_of IsSent IsGood (Polled outs) rest passes)
        runs (polled given outs first next is at))
