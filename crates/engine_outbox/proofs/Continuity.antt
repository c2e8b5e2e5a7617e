-- For the code of the engine. A member with its outbox continues, step by step.
use Rattle.std.proofs.Common.{◌≡◌, ◌∙◌, refl, ℕ, Bool, List, [], ◌++◌, sym, subst, append_assoc, append-nil, Option, None, Result, Ok, Err}
use Rattle.std.specs.Prelude.{IfOk}
use Rattle.std.proofs.lemmas.List.Elements.{All-append, All-nil}
use Rattle.simplex_types.specs.Certificates.{certificate_facts}
use Rattle.simplex_types.specs.Encoding.{certificate_subject}
use Rattle.simplex_types.specs.declared.types.messages.Subject.{Subject}
use Rattle.simplex_types.specs.declared.types.messages.Subject.TheVariants as subject
use Rattle.simplex_voter.specs.Facts.{Elect, StateFacts}
use Rattle.simplex_member.specs.Calls.{CallFacts, ReplyFacts}
use Rattle.simplex_member.specs.MemberFacts.{MemberFacts, IsCall}
use Rattle.simplex_member.specs.declared.member.journal.Stored.{Stored}
use Rattle.laws_safety.specs.LifetimeLaws.{WhileAlive}
use Rattle.laws_safety.proofs.frames.NoLowerViews.{never_fell, falls_never, never_falls, call_goes}
use Rattle.laws_safety.proofs.lives.WithinLives.{alive_still, alive_joined, each_call}
use Rattle.laws_safety.specs.Traces.{TraceEvent, Accepts, Signs}
use Rattle.laws_safety.specs.MemberHistory.{HasHistory, ExtendsHistory}
use Rattle.engine_outbox.specs.declared.journaled.Journaled.{Journaled}
use Rattle.engine_outbox.specs.SubjectActions.{IsActionOn}
use Rattle.engine_outbox.specs.Finalizations.{ReportsRising, ReportsNoMore, finals_by}
use Rattle.engine_outbox.specs.declared.output.Output.{Output}
use Rattle.engine_outbox.specs.Continuity.{IsJournaled, IsTraced, StaysTraced, EmitsTraced, EmitsOn, Continues, ExtendsHistoryOn, HasReturned, HasRisen}
use Rattle.engine_outbox.specs.Signatures.{EmitsSigned, IsSignedBy}
use Rattle.engine_outbox.proofs.Finalizations.{finalized_by-append, none_finalized, tells_none, tells_further, tells_no_more, tells_nothing}
use Rattle.engine_votes.specs.VoteCounts.{certificate_of}
use Rattle.engine_outbox.proofs.Queued.{queues_none, queues_further}

module _ {K L D : Type 0} {same : D → D → Bool} {elect : Elect L} where
  -- nothing is done
  pub does_nothing : (m : MemberFacts K L D) → ExtendsHistory same elect m [] m
  does_nothing m term_length i all done = subst (λ xs. HasHistory same elect term_length i xs m) (sym (append-nil all))
      done

module _ {K L D : Type 0} where
  stood : (x : StateFacts K L D) → HasRisen x x
  stood x = record { terms = refl; views = never_fell x }

  -- a member whose state has not changed
  pub risen_not : (m : MemberFacts K L D) → WhileAlive HasRisen m.life m.life
  risen_not m = alive_still HasRisen m.life stood

  risen_further : (a b c : MemberFacts K L D) → WhileAlive HasRisen a.life b.life → WhileAlive HasRisen b.life c.life
      → WhileAlive HasRisen a.life c.life
  risen_further a b c =
      alive_joined HasRisen HasRisen HasRisen a.life b.life c.life
      (λ x y z p q. record { terms = q.terms ∙ p.terms; views = falls_never x y z p.views q.views })

  -- a call
  pub call_risen : (same : D → D → Bool) (elect : Elect L) (m : MemberFacts K L D) (call : CallFacts D)
      (replied : ReplyFacts K D) (left : MemberFacts K L D) → IsCall same elect m call replied left
      → WhileAlive HasRisen m.life left.life
  call_risen same elect =
      each_call same elect (λ call replied. HasRisen) (λ call fault x. stood x) (λ call x. stood x)
      (λ call x o allowed. let goes = call_goes same elect x o call in
      record { terms = goes.terms; views = never_falls x _ goes })

traced_still : {S L D K G C : Type 0} (same : D → D → Bool) (elect : Elect L) (bytes_of : C → List ℕ)
    (a : Journaled S L D K G C) → StaysTraced same elect bytes_of [] a a
traced_still same elect bytes_of a term_length i earlier given all is =
    subst (λ xs. IsTraced same elect bytes_of term_length i earlier given xs a) (sym (append-nil all)) is

module _ {S L D K G C : Type 0} {same : D → D → Bool} {elect : Elect L} {bytes_of : C → List ℕ}
    {is_signature : K → Subject D → G → Type 0} {taken : Option (Subject D)} where
  -- nothing has changed
  pub stays : (a : Journaled S L D K G C) → Continues same elect bytes_of is_signature taken a a
  stays a = record {
    kept = λ given kept. kept;
    more = [];
    on_this = All-nil (IsActionOn taken);
    done = does_nothing a.member.facts;
    traced = traced_still same elect bytes_of a;
    signed = λ i key given is. is;
    reported = tells_none a.outbox a.outbox refl refl;
    queued = queues_none a.outbox;
    risen = risen_not a.member.facts;
  }

  -- from one moment to a later one, and on to one later still
  pub goes_further : {a b c : Journaled S L D K G C} → Continues same elect bytes_of is_signature taken a b
      → Continues same elect bytes_of is_signature taken b c → Continues same elect bytes_of is_signature taken a c
  goes_further {a = a} {b = b} {c = c} first second = record {
    kept = λ given kept. second.kept given (first.kept given kept);
    more = first.more ++ second.more;
    on_this = All-append (IsActionOn taken) first.more second.more first.on_this second.on_this;
    done = λ term_length i all done.
        subst (λ xs. HasHistory same elect term_length i xs c.member.facts) (append_assoc all first.more second.more)
        (second.done term_length i (all ++ first.more) (first.done term_length i all done));
    traced = λ term_length i earlier given all is.
        subst (λ xs. IsTraced same elect bytes_of term_length i earlier given xs c)
        (append_assoc all first.more second.more)
        (second.traced term_length i earlier given (all ++ first.more)
        (first.traced term_length i earlier given all is));
    signed = λ i key given is. second.signed i key given (first.signed i key given is);
    reported =
        subst (λ ps. ReportsRising ps a.outbox c.outbox) (sym (finalized_by-append first.more second.more))
        (tells_further (finals_by first.more) (finals_by second.more) a.outbox b.outbox c.outbox first.reported
        second.reported);
    queued = queues_further first.queued second.queued;
    risen = risen_further a.member.facts b.member.facts c.member.facts first.risen second.risen;
  }

  -- where no certificate is accepted
  pub goes_on_anyway : {a b : Journaled S L D K G C} → Continues same elect bytes_of is_signature None a b
      → Continues same elect bytes_of is_signature taken a b
  goes_on_anyway went = record {
    kept = went.kept;
    more = went.more;
    on_this = λ k d less. anyway _ (went.on_this k d less);
    done = went.done;
    traced = went.traced;
    signed = went.signed;
    reported = went.reported;
    queued = went.queued;
    risen = went.risen;
  }
    where
      anyway : (event : TraceEvent D) → IsActionOn None event → IsActionOn taken event
      anyway (Signs _ _) is = tt
      anyway (Accepts _) is = absurd is

-- what a member has done by a call
pub does_more : {S L D K G C : Type 0} {same : D → D → Bool} {elect : Elect L} {bytes_of : C → List ℕ}
    {is_signature : K → Subject D → G → Type 0} {taken : Option (Subject D)}
    (a b c : Journaled S L D K G C) → Continues same elect bytes_of is_signature taken a b → c.member ≡ b.member
    → ExtendsHistoryOn same elect taken a.member.facts c.member.facts
does_more {same = same} {elect = elect} {taken = taken} a b c went is =
    subst (λ member. ExtendsHistoryOn same elect taken a.member.facts member.facts) (sym is)
    (record { more = went.more; on_this = went.on_this; done = went.done })

-- where nothing is returned
pub gives_nothing : {S L D K G C : Type 0} {same : D → D → Bool} {elect : Elect L} {bytes_of : C → List ℕ}
    {is_signature : K → Subject D → G → Type 0} {taken : Option (Subject D)}
    {a b : Journaled S L D K G C} → Continues same elect bytes_of is_signature taken a b → HasReturned bytes_of [] a b
gives_nothing {bytes_of = bytes_of} {b = b} went given kept =
    subst (λ outs. IsJournaled bytes_of outs b) (sym (append-nil given)) (went.kept given kept)

-- nothing is done
pub does_nothing_more : {S L D K G C : Type 0} {same : D → D → Bool} {elect : Elect L} {taken : Option (Subject D)}
    (a b : Journaled S L D K G C) → b.member ≡ a.member
    → ExtendsHistoryOn same elect taken a.member.facts b.member.facts
does_nothing_more {same = same} {elect = elect} {taken = taken} a b is =
    subst (λ member. ExtendsHistoryOn same elect taken a.member.facts member.facts) (sym is)
    (record { more = []; on_this = All-nil (IsActionOn taken); done = does_nothing a.member.facts })

-- no more is reported as final than was queued, where no certificate is accepted
module _ {S L D K G C : Type 0} {same : D → D → Bool} {elect : Elect L} {bytes_of : C → List ℕ}
    {is_signature : K → Subject D → G → Type 0} (a b : Journaled S L D K G C)
    (went : Continues same elect bytes_of is_signature None a b) where
  pub tells_no_other : ReportsNoMore [] a.outbox b.outbox
  tells_no_other = tells_nothing (finals_by went.more) a.outbox b.outbox (none_finalized went.more went.on_this)
      went.reported

  pub tells_no_other_then : (c : Journaled S L D K G C) (out : List (Output S D Stored K G C))
      → ReportsNoMore out b.outbox c.outbox → ReportsNoMore out a.outbox c.outbox
  tells_no_other_then c out = tells_no_more (finals_by went.more) out a.outbox b.outbox c.outbox
      (none_finalized went.more went.on_this) went.reported

-- what holds of an answer
pub where_ok : {X E : Type 0} (r : Result X E) {P Q : X → Type 0} → IfOk r P → ((x : X) → P x → Q x) → IfOk r Q
where_ok (Ok x) holds more = more x holds
where_ok (Err e) holds more = tt

-- a certificate of a subject's kind is on the subject
pub made_on : (S K G : Type 0) {D C : Type 0} (bytes_of : C → List ℕ) (subject : Subject D) (c : C)
    → certificate_subject (certificate_facts bytes_of (certificate_of {S = S} {D = D} {K = K} {G = G} subject c))
    ≡ subject
made_on S K G bytes_of (subject.Notarize _) c = refl
made_on S K G bytes_of (subject.Nullify _) c = refl
made_on S K G bytes_of (subject.Finalize _) c = refl

module _ {S L D K G C : Type 0} {same : D → D → Bool} {elect : Elect L} {bytes_of : C → List ℕ}
    {is_signature : K → Subject D → G → Type 0} {taken : Option (Subject D)} where
  -- what it has done, and then what is returned
  pub gives_then : {a b : Journaled S L D K G C} (c : Journaled S L D K G C) (out : List (Output S D Stored K G C))
      → Continues same elect bytes_of is_signature taken a b
      → EmitsTraced same elect bytes_of out b c → EmitsSigned is_signature out b c → c.member ≡ b.member
      → EmitsOn same elect bytes_of is_signature taken out a c
  gives_then {a = a} c out went gives signs is = record {
    more = went.more;
    on_this = went.on_this;
    done = subst (λ member. ExtendsHistory same elect a.member.facts went.more member.facts) (sym is) went.done;
    traced = λ term_length i earlier given all traced.
        gives term_length i earlier given (all ++ went.more) (went.traced term_length i earlier given all traced);
    signed = λ i key given signed. signs i key given (went.signed i key given signed);
  }

  -- nothing is returned
  pub gives_none : {a b : Journaled S L D K G C} → Continues same elect bytes_of is_signature taken a b
      → EmitsOn same elect bytes_of is_signature taken [] a b
  gives_none {b = b} went = gives_then b [] went
      (λ term_length i earlier given all traced.
      subst (λ outs. IsTraced same elect bytes_of term_length i earlier outs all b) (sym (append-nil given)) traced)
      (λ i key given signed. subst (λ outs. IsSignedBy is_signature i key outs b) (sym (append-nil given)) signed) refl

  -- nothing more was queued, and so it continues
  pub gives_later : {a b c : Journaled S L D K G C} (out : List (Output S D Stored K G C))
      → EmitsTraced same elect bytes_of [] a b → EmitsSigned is_signature [] a b → b.member ≡ a.member
      → EmitsOn same elect bytes_of is_signature taken out b c → EmitsOn same elect bytes_of is_signature taken out a c
  gives_later {a = a} {b = b} {c = c} out none unsigned is gives = record {
    more = gives.more;
    on_this = gives.on_this;
    done = subst (λ member. ExtendsHistory same elect member.facts gives.more c.member.facts) is gives.done;
    traced = λ term_length i earlier given all traced. gives.traced term_length i earlier given all
        (subst (λ outs. IsTraced same elect bytes_of term_length i earlier outs all b) (append-nil given)
        (none term_length i earlier given all traced));
    signed = λ i key given signed. gives.signed i key given
        (subst (λ outs. IsSignedBy is_signature i key outs b) (append-nil given) (unsigned i key given signed));
  }
