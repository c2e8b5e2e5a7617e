-- For the code of the engine. Each stored vote is signed under one key, in one output after the other.
use Rattle.std.proofs.Common.{◌≡◌, ◌∙◌, refl, ap, sym, subst, inl, inr, ℕ, zero, Bool, true, false, nat_lt, List, [], ◌∷◌, ◌++◌, filter, Option, Some, None, append_assoc, append-nil, arith}
use Rattle.std.specs.Prelude.{Contains, IfSome, slice_get}
use Rattle.std.proofs.lemmas.List.Elements.{Contains-append_cases}
use Rattle.simplex_types.specs.Signatures.{IsSignedAs}
use Rattle.simplex_types.specs.declared.types.messages.Artifact.{Artifact}
use Rattle.simplex_types.specs.declared.types.messages.Proposal.{Proposal}
use Rattle.simplex_types.specs.declared.types.messages.Subject.{Subject}
use Rattle.simplex_voter.specs.Facts.{StateFacts, Elect}
use Rattle.simplex_record.specs.Votes.{SignedVote, votes_of}
use Rattle.simplex_member.specs.Calls.{CallFacts, ConstructNullify, ConstructFinalize, ConstructNotarize, ReplyFacts, Refused, reply_facts}
use Rattle.simplex_member.specs.Journal.{votes_since}
use Rattle.simplex_member.specs.MemberFacts.{MemberFacts, IsCall, AnswersAlive}
use Rattle.simplex_member.specs.ReplySignatures.{IsSignedReply, signed_reply}
use Rattle.simplex_member.specs.declared.member.calls.Reply.{Reply}
use Rattle.simplex_member.specs.declared.member.calls.Reply.TheVariants as reply
use Rattle.simplex_member.specs.declared.member.journal.Stored.{Stored}
use Rattle.laws_safety.specs.ExactVotes.{ExactAt, IsSignedFor}
use Rattle.laws_safety.specs.Traces.{Signs, signed_in}
use Rattle.simplex_member.specs.Runs.{Calls}
use Rattle.laws_safety.specs.LifetimeLaws.{WhileAlive}
use Rattle.laws_safety.proofs.frames.NoLowerViews.{call_goes}
use Rattle.laws_safety.proofs.lists.Splits.{only_one}
use Rattle.laws_safety.proofs.lives.WithinLives.{each_call}
use Rattle.engine_votes.specs.declared.votes.Vote.{Vote}
use Rattle.engine_outbox.specs.declared.journaled.Journaled.{Journaled}
use Rattle.engine_outbox.specs.declared.output.Output.{Output}
use Rattle.engine_outbox.specs.declared.output.Output.TheVariants as output
use Rattle.engine_outbox.specs.Entries.{votes_of_entries}
use Rattle.engine_outbox.specs.Outboxes.{HasStayed, IsRepeated, IsReplaced, IsStored, IsReported, IsPassedIf}
use Rattle.engine_outbox.specs.Outputs.{stored_in, storing}
use Rattle.engine_outbox.specs.Signatures.{SignsBy, AreSigned, StaysSigned}
use Rattle.engine_outbox.specs.HostStops.{votes_recorded}
use Rattle.engine_outbox.proofs.Behind.{votes_in-append, stored_in-append, stored_by}
use Rattle.engine_outbox.proofs.Torn.{among_last}
use Rattle.engine_outbox.proofs.Journals.{copied_votes}
use Rattle.engine_outbox.proofs.EmittedVotes.{all_signed, among_all}
use Rattle.engine_outbox.proofs.HostStops.{recorded_more}

module _ {K D G : Type 0} (is_signature : K → Subject D → G → Type 0) (i : ℕ) (key : K) where
  pub both_signed : (votes others : List (Vote D G)) → AreSigned is_signature i key votes
      → AreSigned is_signature i key others → AreSigned is_signature i key (votes ++ others)
  both_signed votes others first second vote has =
      elim (Contains-append_cases votes others vote has) [ inl one ↦ first vote one | inr other ↦ second vote other ]

  pub no_signed : AreSigned is_signature i key []
  no_signed vote has = absurd (omega (arith, has.1))

  one_signed : (v : Vote D G) → v.signer ≡ i → is_signature key v.subject v.signature
      → AreSigned is_signature i key (v ∷ [])
  one_signed v by good vote has = subst (λ (w : Vote D G). (w.signer ≡ i) × is_signature key w.subject w.signature)
      (only_one v vote has) (by, good)

  same_key : (me : Option ℕ) (members : List K) (subject : Subject D) (signature : G)
      → ((signer : ℕ) → me ≡ Some signer → (signer ≡ i) × (slice_get members signer ≡ Some key))
      → IsSignedAs is_signature me members subject signature → is_signature key subject signature
  same_key me members subject signature signs is =
      let same : is.key ≡ key = just (sym is.is_key ∙ (signs is.signer is.is_me).1) in
      subst (λ k. is_signature k subject signature) same is.good
    where
      just : {a b : K} → Some a ≡ Some b → a ≡ b
      just e = cc

  -- a vote that is returned
  pub answer_signed : {S L C : Type 0} (bytes_of : C → List ℕ) (r : Reply S D K G C) (x : StateFacts K L D)
      → ((signer : ℕ) → x.me ≡ Some signer → (signer ≡ i) × (slice_get x.members signer ≡ Some key))
      → ((m : ℕ) (v : Subject D) → Contains (signed_in (reply_facts bytes_of r)) (Signs m v) → x.me ≡ Some m)
      → IsSignedReply is_signature r x → AreSigned is_signature i key (votes_recorded (signed_reply r))
  answer_signed bytes_of (reply.Notarize None) x signs named is = no_signed
  answer_signed bytes_of (reply.Notarize (Some vote)) x signs named is =
      one_signed _ (signs vote.signer (named vote.signer _ (zero, omega arith, refl))).0
      (same_key x.me x.members _ _ signs is)
  answer_signed bytes_of (reply.Nullify None) x signs named is = no_signed
  answer_signed bytes_of (reply.Nullify (Some (true, vote))) x signs named is = no_signed
  answer_signed bytes_of (reply.Nullify (Some (false, vote))) x signs named is =
      one_signed _ (signs vote.signer (named vote.signer _ (zero, omega arith, refl))).0
      (same_key x.me x.members _ _ signs is)
  answer_signed bytes_of (reply.Finalize None) x signs named is = no_signed
  answer_signed bytes_of (reply.Finalize (Some vote)) x signs named is =
      one_signed _ (signs vote.signer (named vote.signer _ (zero, omega arith, refl))).0
      (same_key x.me x.members _ _ signs is)
  answer_signed bytes_of _ x signs named is = no_signed

  -- a member that has failed answers none
  pub none_answered : {S C : Type 0} (bytes_of : C → List ℕ) (r : Reply S D K G C) (f : _)
      → reply_facts bytes_of r ≡ Refused f
      → AreSigned is_signature i key (votes_recorded (signed_reply r))
  none_answered bytes_of (reply.Notarize vote) f is = absurd (cc)
  none_answered bytes_of (reply.Nullify vote) f is = absurd (cc)
  none_answered bytes_of (reply.Finalize vote) f is = absurd (cc)
  none_answered bytes_of _ f is = no_signed

module _ {K L D : Type 0} (same : D → D → Bool) (elect : Elect L) (x : StateFacts K L D) where
  named : (me : Option ℕ) (about : Option (Subject D)) (m : ℕ) (v : Subject D) → IsSignedFor me about (Signs m v)
      → me ≡ Some m
  named me about m v (j, w, is_me, is_about, e) =
      let so : m ≡ j = cc in
      is_me ∙ ap Some (sym so)

  -- a vote is signed by the state's member
  pub exact_signer : (call : CallFacts D) (t : ReplyFacts K D) → ExactAt same elect (Some x) (Calls call) t
      → (m : ℕ) (v : Subject D) → Contains (signed_in t) (Signs m v) → x.me ≡ Some m
  exact_signer (ConstructNullify w) t exact m v has = named _ _ m v (exact.only (Signs m v) has).1
  exact_signer (ConstructFinalize w) t exact m v has = named _ _ m v (exact.only (Signs m v) has).1
  exact_signer (ConstructNotarize w) t exact m v has = named _ _ m v (exact.only (Signs m v) has).1
  exact_signer _ t exact m v has = none (subst (λ ds. Contains ds (Signs m v)) exact has)
    where
      none : {P : Type 0} → Contains [] (Signs m v) → P
      none at = absurd (omega (arith, at.1))

-- the key stays
record SameKey {K L D : Type 0} (x y : StateFacts K L D) : Type 0 where
  me : y.me ≡ x.me
  members : y.members ≡ x.members

module _ {K L D : Type 0} (same : D → D → Bool) (elect : Elect L) where
  key_stays : (m : MemberFacts K L D) (call : CallFacts D) (replied : ReplyFacts K D) (left : MemberFacts K L D)
      → IsCall same elect m call replied left → WhileAlive SameKey m.life left.life
  key_stays = each_call same elect (λ call replied. SameKey) (λ call fault x. record { me = refl; members = refl })
      (λ call x. record { me = refl; members = refl })
      (λ call x o allowed. let goes = call_goes same elect x o call in record { me = goes.me; members = goes.members })

  signs_still : (i : ℕ) (key : K) (life next : Option (StateFacts K L D)) → WhileAlive SameKey life next
      → IfSome life (λ x. (signer : ℕ) → x.me ≡ Some signer → (signer ≡ i) × (slice_get x.members signer ≡ Some key))
      → IfSome next (λ x. (signer : ℕ) → x.me ≡ Some signer → (signer ≡ i) × (slice_get x.members signer ≡ Some key))
  signs_still i key life None stays signs = tt
  signs_still i key None (Some y) stays signs = absurd stays
  signs_still i key (Some x) (Some y) stays signs = λ signer me.
      let was = signs signer (sym stays.me ∙ me) in
      (was.0, ap (λ (ks : List K). slice_get ks signer) stays.members ∙ was.1)

  pub call_signs : (i : ℕ) (key : K) (m : MemberFacts K L D) (call : CallFacts D) (replied : ReplyFacts K D)
      (left : MemberFacts K L D) → IsCall same elect m call replied left → SignsBy i key m → SignsBy i key left
  call_signs i key m call replied left is = signs_still i key m.life left.life (key_stays m call replied left is)

  -- the vote of an answer
  pub call_signed : {S G C : Type 0} (is_signature : K → Subject D → G → Type 0) (i : ℕ) (key : K)
      (bytes_of : C → List ℕ) (m left : MemberFacts K L D) (call : CallFacts D) (r : Reply S D K G C)
      → IsCall same elect m call (reply_facts bytes_of r) left
      → ExactAt same elect m.life (Calls call) (reply_facts bytes_of r)
      → IfSome m.life (IsSignedReply is_signature r) → SignsBy i key m
      → AreSigned is_signature i key (votes_recorded (signed_reply r))
  unfolding IsCall
  call_signed is_signature i key bytes_of m left call r is exact good signs = by_life m.life is exact good signs
    where
      by_life : (life : Option (StateFacts K L D)) → AnswersAlive same elect life m call (reply_facts bytes_of r) left
          → ExactAt same elect life (Calls call) (reply_facts bytes_of r) → IfSome life (IsSignedReply is_signature r)
          → IfSome life (λ x. (signer : ℕ) → x.me ≡ Some signer
          → (signer ≡ i) × (slice_get x.members signer ≡ Some key))
          → AreSigned is_signature i key (votes_recorded (signed_reply r))
      by_life None answered exact good signs = none_answered is_signature i key bytes_of r _ answered.0
      by_life (Some x) answered exact good signs =
          answer_signed is_signature i key bytes_of r x signs
          (exact_signer same elect x call (reply_facts bytes_of r) exact)
          good

module _ {S L D K G C : Type 0} (is_signature : K → Subject D → G → Type 0) (old new : Journaled S L D K G C) where
  abbrev Recorded : ℕ → K → Journaled S L D K G C → Type 0
  Recorded i key j = AreSigned is_signature i key (votes_recorded j.member.votes)

  -- whatever was queued after, where it stores only votes of the record
  pub signed_on : (more : List (Output S D Stored K G C)) → new.outbox.queue.items ≡ old.outbox.queue.items ++ more
      → ((i : ℕ) (key : K) → SignsBy i key old.member.facts → SignsBy i key new.member.facts)
      → ((i : ℕ) (key : K) → SignsBy i key old.member.facts → Recorded i key old → Recorded i key new)
      → ((i : ℕ) (key : K) → Recorded i key old → AreSigned is_signature i key (votes_of_entries (stored_in more)))
      → StaysSigned is_signature old new
  signed_on more queue signs recorded stored i key given is =
      let before = given ++ old.outbox.queue.items in
      record {
        signs = signs i key is.signs;
        recorded = recorded i key is.signs is.recorded;
        stored = subst (AreSigned is_signature i key)
            (sym (ap (λ q. votes_of_entries (stored_in (given ++ q))) queue
            ∙ ap (λ outs. votes_of_entries (stored_in outs)) (sym (append_assoc given old.outbox.queue.items more))
            ∙ ap votes_of_entries (stored_in-append before more) ∙ votes_in-append (stored_in before) (stored_in more)))
            (both_signed is_signature i key (votes_of_entries (stored_in before)) (votes_of_entries (stored_in more))
            is.stored (stored i key is.recorded));
      }

  -- one that stores nothing
  pub signed_plain : (more : List (Output S D Stored K G C)) → stored_in more ≡ []
      → new.outbox.queue.items ≡ old.outbox.queue.items ++ more
      → ((i : ℕ) (key : K) → SignsBy i key old.member.facts → SignsBy i key new.member.facts)
      → ((i : ℕ) (key : K) → SignsBy i key old.member.facts → Recorded i key old → Recorded i key new)
      → StaysSigned is_signature old new
  signed_plain more none queue signs recorded = signed_on more queue signs recorded
      (λ i key _. subst (λ es. AreSigned is_signature i key (votes_of_entries es)) (sym none)
      (no_signed is_signature i key))

  module _ (signs : (i : ℕ) (key : K) → SignsBy i key old.member.facts → SignsBy i key new.member.facts)
      (recorded : (i : ℕ) (key : K) → SignsBy i key old.member.facts → Recorded i key old → Recorded i key new) where
    pub signed_stayed : HasStayed old.outbox new.outbox → StaysSigned is_signature old new
    signed_stayed stayed = signed_plain [] refl (stayed.0 ∙ sym (append-nil old.outbox.queue.items)) signs recorded

    replied_where : (p : Proposal D) (is_above : Bool) → IsPassedIf is_above p old.outbox new.outbox
        → StaysSigned is_signature old new
    replied_where p true is = signed_plain (output.Finalized p ∷ []) refl is.0 signs recorded
    replied_where p false is = signed_stayed is

    pub signed_replied : (finalized : Option (Proposal D)) → IsReported finalized old.outbox new.outbox
        → StaysSigned is_signature old new
    signed_replied None is = signed_stayed is
    signed_replied (Some p) is = replied_where p (nat_lt old.outbox.reported p.round.view) is

  module _ (same_member : new.member ≡ old.member) where
    signs_so : (i : ℕ) (key : K) → SignsBy i key old.member.facts → SignsBy i key new.member.facts
    signs_so i key = subst (λ m. SignsBy i key m.facts) (sym same_member)

    recorded_so : (i : ℕ) (key : K) → SignsBy i key old.member.facts → Recorded i key old → Recorded i key new
    recorded_so i key _ = subst (λ m. AreSigned is_signature i key (votes_recorded m.votes)) (sym same_member)

    pub same_stayed : HasStayed old.outbox new.outbox → StaysSigned is_signature old new
    same_stayed = signed_stayed signs_so recorded_so

    pub same_plain : (out : Output S D Stored K G C) → stored_in (out ∷ []) ≡ []
        → new.outbox.queue.items ≡ old.outbox.queue.items ++ out ∷ [] → StaysSigned is_signature old new
    same_plain out none queue = signed_plain (out ∷ []) none queue signs_so recorded_so

    repeated_by : (view : ℕ) (repeat : Option (Vote D G)) (sent : Bool)
        → IsRepeated view repeat sent old.outbox new.outbox → StaysSigned is_signature old new
    repeated_by view (Some vote) true is = same_plain (output.Vote vote) refl is.1.queue
    repeated_by view (Some vote) false is = same_stayed is.1
    repeated_by view None sent is = same_stayed is.1

    pub same_repeated : (view : ℕ) (sent : Bool) → IsRepeated view old.outbox.repeat sent old.outbox new.outbox
        → StaysSigned is_signature old new
    same_repeated view sent is = repeated_by view old.outbox.repeat sent is

    pub same_stored : (bytes_of : C → List ℕ) (fresh : List (Artifact S D K G C))
        → votes_of fresh ≡ votes_since old.stored old.member → IsStored bytes_of fresh old.outbox new.outbox
        → StaysSigned is_signature old new
    same_stored bytes_of fresh fresh_votes is =
        let copies = is.0 in
        let voted = copied_votes bytes_of fresh copies.items is.1 ∙ fresh_votes in
        signed_on (storing copies) is.2.queue signs_so recorded_so
        (λ i key recorded. subst (λ es. AreSigned is_signature i key (votes_of_entries es))
        (sym (stored_by Stored copies))
        (λ vote has. recorded vote (among_last old.member.votes _ vote
        (subst (λ vs. Contains vs vote) (all_signed copies.items ∙ ap votes_recorded voted) has))))

  -- votes of a record that is pruned
  pub pruned_signed : (stays : SignedVote D G → Bool) → new.member.votes ≡ filter stays old.member.votes
      → (i : ℕ) (key : K) → Recorded i key old → Recorded i key new
  pruned_signed stays left i key recorded =
      subst (λ vs. AreSigned is_signature i key (votes_recorded vs)) (sym left)
      (λ vote has. recorded vote (among_all stays old.member.votes vote has))

  pub pruned_replaced : (bytes_of : C → List ℕ) (stays : SignedVote D G → Bool)
      → new.member.votes ≡ filter stays old.member.votes
      → ((i : ℕ) (key : K) → SignsBy i key old.member.facts → SignsBy i key new.member.facts)
      → (all : List (Artifact S D K G C)) → votes_of all ≡ new.member.votes → (beside : Stored)
      → IsReplaced bytes_of all beside old.outbox new.outbox → StaysSigned is_signature old new
  pruned_replaced bytes_of stays left signs all all_votes beside is =
      let copies = is.0 in
      signed_on (output.Replace copies beside ∷ []) is.2.queue signs (λ i key _. pruned_signed stays left i key)
      (λ i key recorded. subst (λ es. AreSigned is_signature i key (votes_of_entries es))
      (sym (append-nil copies.items))
      (subst (AreSigned is_signature i key) (sym
      (all_signed copies.items ∙ ap votes_recorded (copied_votes bytes_of all copies.items is.1 ∙ all_votes)))
      (pruned_signed stays left i key recorded)))

  -- a call
  pub called_signed : (votes : List (SignedVote D G)) → new.member.votes ≡ old.member.votes ++ votes
      → ((i : ℕ) (key : K) → SignsBy i key old.member.facts → SignsBy i key new.member.facts)
      → ((i : ℕ) (key : K) → SignsBy i key old.member.facts → AreSigned is_signature i key (votes_recorded votes))
      → (finalized : Option (Proposal D)) → IsReported finalized old.outbox new.outbox
      → StaysSigned is_signature old new
  called_signed votes voted signs good finalized tells = signed_replied signs
      (λ i key by recorded. subst (AreSigned is_signature i key)
      (sym (ap votes_recorded voted ∙ recorded_more old.member.votes votes))
      (both_signed is_signature i key (votes_recorded old.member.votes) (votes_recorded votes) recorded
      (good i key by))) finalized tells
