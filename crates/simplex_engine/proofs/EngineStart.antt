-- An engine that begins, and why none does.
use Rattle.std.proofs.Common.{◌≡◌, ◌∙◌, ap, sym, subst, inl, ℕ, ◌==◌, false, true≢false, List, [], ◌∷◌, length, reverse, Option, None, Result, Ok, Err}
use Rattle.std.specs.Prelude.{IfErr}
use Rattle.simplex_types.specs.Certificates.{ArtifactFacts}
use Rattle.simplex_resolver.specs.RecordCalls.{calls_of}
use Rattle.simplex_resolver.specs.Steps.{Replayed}
use Rattle.simplex_resolver.specs.CallHistory.{HasReceivedCalls, LawfulResolverFacts}
use Rattle.simplex_member.specs.MemberFacts.{MemberFacts}
use Rattle.simplex_member.specs.declared.member.resume.ResumeError.{ResumeError}
use Rattle.engine_votes.specs.StoredVotes.{AreGiven}
use Rattle.engine_fetches.specs.declared.fetches.Peers.{Peers}
use Rattle.engine_fetches.specs.declared.repair.Repair.{Repair}
use Rattle.engine_fetches.specs.OutstandingFetches.{wanting}
use Rattle.engine_planner.specs.declared.plan.Options.{Options}
use Rattle.simplex_engine.specs.declared.engine.Engine.{Engine}
use Rattle.simplex_engine.specs.declared.engine.begin.Company.{Company}
use Rattle.simplex_engine.specs.declared.engine.begin.StartError.{StartError}
use Rattle.simplex_engine.specs.declared.engine.begin.StartError.TheVariants.{RetryZero, Resume, Replay}
use Rattle.simplex_engine.specs.EngineStart.{others_of, IsRepairOf, IsPlanOf, IsCompanyOf, HasStartedWith, IsNotReplayed, IsStartRefusal}

-- the resolver and its fetches, once it received the record
pub is_repair_of : {D : Type 0} (bytes : D → List ℕ) (term_length : ℕ) (entries : List (ArtifactFacts D))
    (peers : Peers) (retry : ℕ) (resolver : LawfulResolverFacts)
    (made repair : Repair) → repair ≡ made → HasReceivedCalls term_length (Replayed ∷ calls_of bytes (reverse entries))
    resolver → made.resolver ≡ resolver
    → made.fetches.wanted.items ≡ wanting resolver.open_fetches [] → made.fetches.peers ≡ peers
    → made.fetches.retry ≡ retry → made.is_behind ≡ false
    → IsRepairOf bytes term_length entries peers retry repair
is_repair_of bytes term_length entries peers retry resolver made repair same received is fetched by after behind =
    subst (IsRepairOf bytes term_length entries peers retry) (sym same) (record {
      received = subst (HasReceivedCalls term_length (Replayed ∷ calls_of bytes (reverse entries))) (sym is) received;
      fetched = fetched ∙ ap (λ (r : LawfulResolverFacts). wanting r.open_fetches []) (sym is);
      peers_now = by;
      retry_now = after;
      behind = behind;
    })

-- the engine of a member has begun with its company
pub begun_with : {S L D K G C : Type 0} (bytes : D → List ℕ) (keys_of : S → List K) (keys : List K) (me : Option ℕ)
    (term_length : ℕ) (options : Options)
    (company : Company S D K G C) (member : MemberFacts K L D) (engine : Engine S L D K G C)
    → IsCompanyOf keys_of keys me term_length company
    → engine.batcher ≡ company.batcher
    → IsPlanOf bytes company.term_length company.peers company.is_alone options member engine.plan
    → engine.core.member.facts ≡ member → engine.forgotten ≡ 0 → engine.settled_at ≡ None
    → HasStartedWith bytes keys_of keys me term_length options engine
begun_with bytes keys_of keys me term_length options company member engine is batcher plan of forgotten settled_at =
    record {
      votes = subst (AreGiven []) (sym batcher) is.votes;
      keys_now = ap (λ b. keys_of b.scheme) batcher ∙ is.keys_now;
      plan = subst (λ m. IsPlanOf bytes term_length (others_of keys me) (length keys == 1) options m engine.plan)
          (sym of)
          (subst (λ t. IsPlanOf bytes t (others_of keys me) (length keys == 1) options member engine.plan) is.term
          (subst (λ p. IsPlanOf bytes company.term_length p (length keys == 1) options member engine.plan) is.peers
          (subst (λ b. IsPlanOf bytes company.term_length company.peers b options member engine.plan) is.alone plan)));
      forgotten = forgotten;
      settled_at = settled_at;
    }

-- none begins where the resolver refuses the record of a member that does, or is out of memory
pub engine_not_started : {K L D X : Type 0} (result : Result X StartError) (timeout_retry : ℕ)
    (IsRefused : ResumeError → Type 0) (Begins : MemberFacts K L D → Type 0)
    (m : MemberFacts K L D) → Begins m → IfErr result (IsNotReplayed m.entries)
    → IfErr result (IsStartRefusal timeout_retry IsRefused Begins)
engine_not_started (Ok x) timeout_retry IsRefused Begins m begins refused = tt
engine_not_started (Err RetryZero) timeout_retry IsRefused Begins m begins refused = absurd refused
engine_not_started (Err (Resume e)) timeout_retry IsRefused Begins m begins refused = inl refused
engine_not_started (Err (Replay e)) timeout_retry IsRefused Begins m begins refused = (m, begins, refused)

-- where a vote to nullify is repeated later, nothing is said of one that is repeated at once
pub has_retry : {X : Type 0} (result : Result X StartError) (timeout_retry : ℕ) → (timeout_retry == 0) ≡ false
    → timeout_retry ≡ 0 → result ≡ Err RetryZero
has_retry result timeout_retry later none = absurd (true≢false (sym (ap (λ n. n == 0) none) ∙ later))
