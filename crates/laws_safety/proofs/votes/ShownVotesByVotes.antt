-- The votes that a member returns are allowed, and keep what the facts show of the votes.
use Rattle.std.proofs.Common.{◌≡◌, refl, ap, sym, ◌∙◌, subst, ℕ, ◌<◌, ◌≤◌, ◌⊎◌, inl, inr, true, false, not, List, [], ◌∷◌, ◌++◌, Contains, Option, Some, None, is_some, arith}
use Rattle.std.specs.Ordering.{nat_cmp}
use Rattle.std.specs.BTreeSet.{insert_key}
use Rattle.std.proofs.lemmas.Bool.{false≢true, lt-leb}
use Rattle.simplex_types.specs.Terms.{covers}
use Rattle.simplex_types.specs.Certificates.{ProposalFacts}
use Rattle.simplex_types.specs.declared.types.messages.Proposal.{Proposal}
use Rattle.simplex_types.specs.declared.types.messages.Subject.TheVariants as subject
use Rattle.simplex_types.specs.declared.types.numbers.Round.{Round}
use Rattle.simplex_round.specs.declared.round.Decision.{Decision}
use Rattle.simplex_round.specs.declared.round.Decision.TheVariants as decision
use Rattle.simplex_round.specs.Slot.{is_unequivocated}
use Rattle.simplex_round.specs.Round.{RoundFacts, is_pending, is_nullify, is_finalize, after_nullify}
use Rattle.simplex_voter.specs.Facts.{StateFacts, Elect, round_of, round_number, with_round}
use Rattle.simplex_voter.specs.Rules.{NullifyRule, FinalizeRule}
use Rattle.simplex_voter.proofs.Gaps.{and_parts, not_true}
use Rattle.laws_safety.specs.Traces.{TraceEvent, Accepts, Signs}
use Rattle.laws_safety.specs.Lawful.{HasSigned, HasFinalizedBetween}
use Rattle.laws_safety.proofs.lists.Signed.{signed_push}
use Rattle.laws_safety.proofs.agreement.Lawful.{AllowsNullify, AllowsFinalize}
use Rattle.simplex_record.proofs.Rounds.{round_put}
use Rattle.laws_safety.proofs.votes.ShownVotes.{RoundShowsVotes, ShowsVotes, ShowsVotesInLife, still, final_still, stands_put}
use Rattle.laws_safety.proofs.votes.NullifyVotes.{noted_old, noted_new, gate_passed}

pub not_nullified : (d : Decision) → is_pending d ≡ true → is_nullify d ≡ false
not_nullified (decision.Pending _ _ _) is = refl
not_nullified (decision.Nullify _) is = absurd (false≢true is)
not_nullified decision.Finalize is = refl

not_finalized : (d : Decision) → is_pending d ≡ true → is_finalize d ≡ false
not_finalized (decision.Pending _ _ _) is = refl
not_finalized (decision.Nullify _) is = refl
not_finalized decision.Finalize is = absurd (false≢true is)

-- no nullification covers a view below its own
uncovered : (length u view : ℕ) → view < u → covers length u view ≡ false
uncovered length u view below = rw (lt-leb u view below) refl

some_proposal : {D : Type 0} (p q : Proposal D) → Some p ≡ Some q → p ≡ q
some_proposal p q e = cc

module _ {K D : Type 0} (trace : List (TraceEvent D)) (reached finalized v : ℕ) (r : RoundFacts K D)
    (stands : RoundShowsVotes trace reached finalized v r) where
  nullify_round : is_finalize r.decision ≡ false → RoundShowsVotes trace reached finalized v (after_nullify r)
  nullify_round undecided = rw undecided
      (record {
        notarized = stands.notarized;
        held = stands.held;
        entered = stands.entered;
        left = λ is. absurd (false≢true is);
        nullify_decided = λ round h at. inl refl;
        finalize_decided = λ p h at. elim (stands.finalize_decided p h at)
            [ inl is ↦ absurd (false≢true (sym undecided ∙ is)) | inr below ↦ inr below ];
      })

  finalize_round : is_pending r.decision ≡ true → v < reached
      → RoundShowsVotes trace reached finalized v (record r { decision = decision.Finalize })
  finalize_round pending passed = record {
    notarized = stands.notarized;
    held = stands.held;
    entered = stands.entered;
    left = λ is. passed;
    nullify_decided = λ round h at. elim (stands.nullify_decided round h at)
        [ inl is ↦ absurd (false≢true (sym (not_nullified r.decision pending) ∙ is)) | inr below ↦ inr below ];
    finalize_decided = λ p h at. inl refl;
  }

  -- the proposal that is held without another was notarized
  pub held_notarized : (h : Proposal D) → is_unequivocated r.slot ≡ true → is_some r.notarization ≡ true
      → r.slot.held ≡ Some h → (h.round.view ≡ v) × Contains trace (Accepts (subject.Notarize h))
  held_notarized h alone notarized holds = by_certificate r.notarization refl notarized
    where
      by_certificate : (o : Option (ProposalFacts D)) → r.notarization ≡ o → is_some o ≡ true
          → (h.round.view ≡ v) × Contains trace (Accepts (subject.Notarize h))
      by_certificate None is some = absurd (false≢true some)
      by_certificate (Some c) is some = elim (stands.held c is) [
        | inl seen ↦ absurd (false≢true
            (sym (not_true r.slot.conflict (and_parts (is_some r.slot.held) (not r.slot.conflict) alone).1) ∙ seen))
        | inr here ↦ subst (λ p. (p.round.view ≡ v) × Contains trace (Accepts (subject.Notarize p)))
            (some_proposal c.proposal h (sym here ∙ holds)) (stands.notarized c is)
      ]

module _ {K L D : Type 0} (term_length : ℕ) (trace : List (TraceEvent D)) where
  -- a vote that is decided and noted is cast

  pub nullify_cast_stands : (reached : ℕ) (x : StateFacts K L D) (round : Round) (m : ℕ) → 1 ≤ round.view
      → Contains x.nullify_votes round.view ⊎ (round.view ≤ x.finalized)
      → (is_nullify (round_of x round.view).decision ≡ true) ⊎ (round.view ≤ x.finalized)
      → ShowsVotes term_length trace reached x
      → ShowsVotes term_length (trace ++ Signs m (subject.Nullify round) ∷ []) reached x
  nullify_cast_stands reached x round m one noted decided stands =
      let new = Signs m (subject.Nullify round) in
      record {
        terms = stands.terms;
        rounds = λ v. (let old = stands.rounds v in
            record {
              notarized = λ c is. (
                (old.notarized c is).0,
                still trace new (Accepts (subject.Notarize c.proposal)) (old.notarized c is).1,
              );
              held = old.held;
              entered = old.entered;
              left = old.left;
              nullify_decided = λ other h at. elim (signed_push trace new (subject.Nullify other) h) [
                | inl before ↦ old.nullify_decided other before at
                | inr now ↦ (let same : round ≡ other = cc in
                    subst (λ u. (is_nullify (round_of x u).decision ≡ true) ⊎ (u ≤ x.finalized))
                    (ap (λ (r : Round). r.view) same ∙ at) decided)
              ];
              finalize_decided = λ p h at. elim (signed_push trace new (subject.Finalize p) h) [
                | inl before ↦ old.finalize_decided p before at
                | inr now ↦ absurd (cc)
              ];
            });
        passed = λ p h. elim (signed_push trace new (subject.Finalize p) h)
            [ inl before ↦ stands.passed p before | inr now ↦ absurd (cc) ];
        noted = λ other h. elim (signed_push trace new (subject.Nullify other) h) [
          | inl before ↦ stands.noted other before
          | inr now ↦ (let same : round ≡ other = cc in
              subst (λ (r : Round). (1 ≤ r.view) × (Contains x.nullify_votes r.view ⊎ (r.view ≤ x.finalized))) same
              (one, noted))
        ];
      }

  pub finalize_cast_stands : (reached : ℕ) (x : StateFacts K L D) (p : Proposal D) (m : ℕ) → p.round.view < reached
      → (is_finalize (round_of x p.round.view).decision ≡ true) ⊎ (p.round.view ≤ x.finalized)
      → ShowsVotes term_length trace reached x
      → ShowsVotes term_length (trace ++ Signs m (subject.Finalize p) ∷ []) reached x
  finalize_cast_stands reached x p m passed decided stands =
      let new = Signs m (subject.Finalize p) in
      record {
        terms = stands.terms;
        rounds = λ v. (let old = stands.rounds v in
            record {
              notarized = λ c is. (
                (old.notarized c is).0,
                still trace new (Accepts (subject.Notarize c.proposal)) (old.notarized c is).1,
              );
              held = old.held;
              entered = old.entered;
              left = old.left;
              nullify_decided = λ other h at. elim (signed_push trace new (subject.Nullify other) h) [
                | inl before ↦ old.nullify_decided other before at
                | inr now ↦ absurd (cc)
              ];
              finalize_decided = λ q h at. elim (signed_push trace new (subject.Finalize q) h) [
                | inl before ↦ old.finalize_decided q before at
                | inr now ↦ (let same : p ≡ q = cc in
                    subst (λ u. (is_finalize (round_of x u).decision ≡ true) ⊎ (u ≤ x.finalized))
                    (ap (λ (r : Proposal D). r.round.view) same ∙ at) decided)
              ];
            });
        passed = λ q h. elim (signed_push trace new (subject.Finalize q) h) [
          | inl before ↦ stands.passed q before
          | inr now ↦ (let same : p ≡ q = cc in subst (λ (r : Proposal D). r.round.view < reached) same passed)
        ];
        noted = λ other h. elim (signed_push trace new (subject.Nullify other) h)
            [ inl before ↦ stands.noted other before | inr now ↦ absurd (cc) ];
      }

  pub noted_stands : (reached : ℕ) (x : StateFacts K L D) (v : ℕ) → ShowsVotes term_length trace reached x
      → ShowsVotes term_length trace reached (record x { nullify_votes = insert_key nat_cmp x.nullify_votes v })
  noted_stands reached x v stands = record {
    terms = stands.terms;
    rounds = λ w. stands.rounds w;
    passed = stands.passed;
    noted = λ round h. (
      (stands.noted round h).0,
      elim (stands.noted round h).1
          [ inl noted ↦ inl (noted_old v round.view x.nullify_votes noted) | inr below ↦ inr below ],
    );
  }

module _ {K L D : Type 0} (term_length : ℕ) (trace : List (TraceEvent D)) (x : StateFacts K L D) (v : ℕ)
    (keeps : ShowsVotesInLife term_length trace x) where
  -- a vote to nullify the current view follows no vote to finalize one from there on

  pub nullify_allowed : NullifyRule x v → AllowsNullify term_length trace (round_number x v)
  nullify_allowed rule = record {
    not_finalized = λ p h is. absurd (omega (arith, keeps.stands.passed p h, rule.current));
    ahead = λ p h. uncovered term_length v p.round.view (omega (arith, keeps.stands.passed p h, rule.current));
  }

  pub nullify_decided : NullifyRule x v → ShowsVotesInLife term_length trace
      (with_round x v (after_nullify (round_of x v)))
  nullify_decided rule = record {
    stands = stands_put term_length trace x.current x v (after_nullify (round_of x v))
        (nullify_round trace x.current x.finalized v (round_of x v) (keeps.stands.rounds v) rule.no_finalize)
        keeps.stands;
    ahead = keeps.ahead;
    final = keeps.final;
  }

  pub nullify_voted : (m : ℕ) → NullifyRule x v
      → ShowsVotesInLife term_length (trace ++ Signs m (subject.Nullify (round_number x v)) ∷ [])
      (record (with_round x v (after_nullify (round_of x v))) { nullify_votes = insert_key nat_cmp x.nullify_votes v })
  nullify_voted m rule =
      let y = with_round x v (after_nullify (round_of x v)) in
      let z : StateFacts K L D = record y { nullify_votes = insert_key nat_cmp x.nullify_votes v } in
      let decided : is_nullify (round_of z v).decision ≡ true =
      ap (λ r. is_nullify r.decision) (round_put x v (after_nullify (round_of x v))) ∙ rw (rule.no_finalize) refl in
      record {
        stands = nullify_cast_stands term_length trace x.current z (round_number x v) m
            (omega (arith, rule.current, keeps.ahead)) (inl (noted_new v x.nullify_votes)) (inl decided)
            (noted_stands term_length trace x.current y v (nullify_decided rule).stands);
        ahead = keeps.ahead;
        final = final_still trace (Signs m (subject.Nullify (round_number x v))) x.finalized keeps.final;
      }

  -- a vote to finalize

  past_nullify : (round : Round) (p : Proposal D) → x.finalized < v → p.round.view ≡ v
      → HasSigned trace (subject.Nullify round) → round.view ≤ x.finalized
      → HasFinalizedBetween trace round.view p.round.view
  past_nullify round p above at h below = elim keeps.final [
    | inl genesis ↦ absurd (omega (arith, (keeps.stands.noted round h).0))
    | inr final ↦ (final.0, final.1, omega (arith, final.2), omega (arith, final.2))
  ]

  pub finalize_allowed : (elect : Elect L) (h : Proposal D) → FinalizeRule elect x v → (round_of x v).slot.held ≡ Some h
      → AllowsFinalize term_length trace h
  finalize_allowed elect h rule holds =
      let r = round_of x v in
      let stands = keeps.stands.rounds v in
      let named = held_notarized trace x.current x.finalized v r stands h rule.unequivocated rule.notarized holds in
      let above = rule.above_finalized in
      record {
        only = λ q k same. elim (stands.finalize_decided q k (same ∙ named.0)) [
          | inl is ↦ false≢true (sym (not_finalized r.decision rule.undecided) ∙ is)
          | inr below ↦ absurd (omega arith)
        ];
        not_nullified = λ round k same. elim (stands.nullify_decided round k (same ∙ named.0)) [
          | inl is ↦ false≢true (sym (not_nullified r.decision rule.undecided) ∙ is)
          | inr below ↦ absurd (omega arith)
        ];
        notarized = named.1;
        past_nullify = λ round k below covering.
            (let covering_here : covers x.terms.term_length round.view v ≡ true =
            rw (keeps.stands.terms, ← named.0) covering in
            elim (keeps.stands.noted round k).1 [
              | inl noted ↦ past_nullify round h above named.0 k
                  (gate_passed x round.view v rule.not_gated noted (omega (arith, named.0)) covering_here)
              | inr passed ↦ past_nullify round h above named.0 k passed
            ]);
      }

  pub finalize_decided : (elect : Elect L) → FinalizeRule elect x v
      → ShowsVotesInLife term_length trace (with_round x v (record (round_of x v) { decision = decision.Finalize }))
  finalize_decided elect rule = record {
    stands = stands_put term_length trace x.current x v (record (round_of x v) { decision = decision.Finalize })
        (finalize_round trace x.current x.finalized v (round_of x v) (keeps.stands.rounds v) rule.undecided
        ((keeps.stands.rounds v).entered rule.certified)) keeps.stands;
    ahead = keeps.ahead;
    final = keeps.final;
  }

  pub finalize_voted : (elect : Elect L) (h : Proposal D) (m : ℕ) → FinalizeRule elect x v
      → (round_of x v).slot.held ≡ Some h → ShowsVotesInLife term_length (trace ++ Signs m (subject.Finalize h) ∷ [])
      (with_round x v (record (round_of x v) { decision = decision.Finalize }))
  finalize_voted elect h m rule holds =
      let s : RoundFacts K D = record (round_of x v) { decision = decision.Finalize } in
      let y = with_round x v s in
      let stands = keeps.stands.rounds v in
      let named = held_notarized trace x.current x.finalized v (round_of x v) stands h rule.unequivocated rule.notarized
      holds in
      let decided : is_finalize (round_of y v).decision ≡ true = ap (λ r. is_finalize r.decision) (round_put x v s) in
      record {
        stands = finalize_cast_stands term_length trace x.current y h m
            (omega (arith, named.0, stands.entered rule.certified))
            (inl (subst (λ u. is_finalize (round_of y u).decision ≡ true) (sym named.0) decided))
            (finalize_decided elect rule).stands;
        ahead = keeps.ahead;
        final = final_still trace (Signs m (subject.Finalize h)) x.finalized keeps.final;
      }
