-- What a certificate shows of each state after it spreads: where it is taken, and where the engine does not admit it.
use Rattle.std.proofs.Common.{◌≡◌, refl, ap, sym, ◌∙◌, subst, ℕ, Bool, true, false, not, List, [], ◌∷◌, Option, Some, None}
use Rattle.std.specs.Prelude.{IfSome}
use Rattle.std.specs.Option.{option_map_or}
use Rattle.std.proofs.lemmas.Bool.{true≢false}
use Rattle.simplex_types.specs.Certificates.{CertificateFacts, certificate_facts}
use Rattle.simplex_types.specs.declared.types.messages.Certificate.{Certificate}
use Rattle.simplex_types.specs.declared.types.messages.Subject.{Subject}
use Rattle.simplex_types.specs.declared.types.window.Terms.{Terms}
use Rattle.simplex_voter.specs.Facts.{StateFacts, Elect}
use Rattle.simplex_member.specs.Calls.{ReplyFacts}
use Rattle.simplex_member.specs.MemberFacts.{MemberFacts, IsCall}
use Rattle.laws_safety.specs.LifetimeLaws.{WhileAlive}
use Rattle.laws_safety.specs.MemberHistory.{HasHistory}
use Rattle.laws_safety.specs.Traces.{TraceEvent}
use Rattle.laws_safety.proofs.frames.RunsKeep.{HoldsIn}
use Rattle.engine_outbox.specs.CertificateCalls.{certificate_call}
use Rattle.simplex_engine.specs.Admission.{admits, is_input_admitted}
use Rattle.simplex_engine.specs.InputEffects.{HasAsked}
use Rattle.simplex_engine.specs.declared.engine.Engine.{Engine}
use Rattle.simplex_engine.specs.declared.input.Input.TheVariants as input
use Rattle.laws_hosts.specs.Processes.{Process}
use Rattle.laws_rounds.specs.Deliveries.{IsLater, is_declined, IsAnswered, IsDelivered}
use Rattle.laws_rounds.specs.Finality.{IsShownTo, SpreadsInRounds}
use Rattle.laws_rounds.specs.Rounds.{IsLastProcess, RoundsKeepNetworks}
use Rattle.laws_rounds.proofs.LastProcesses.{last_begins}
use Rattle.laws_rounds.proofs.LifetimeCalls.{IsMember, calls_live, calls_member}
use Rattle.laws_rounds.proofs.RoundSteps.{steps_sent}

not_true : (b : Bool) → true ≡ not b → b ≡ false
not_true true is = absurd (true≢false is)
not_true false is = refl

module _ {K L D : Type 0} (same : D → D → Bool) (elect : Elect L)
    (Shows : CertificateFacts D → StateFacts K L D → Type 0) (AtAll : StateFacts K L D → Type 0) where
  -- what a certificate shows of a state is so once it is added, or if it is not admitted by a state of a run, and lasts
  pub record IsShownByAll : Type 0 where
    pub at_all : (term_length i : ℕ) (all : List (TraceEvent D)) (m : MemberFacts K L D)
        → HasHistory same elect term_length i all m → HoldsIn AtAll m.life
    pub added : (c : CertificateFacts D) (now : ℕ) (m left : MemberFacts K L D) (replied : ReplyFacts K D)
        → HoldsIn AtAll m.life → IsCall same elect m (certificate_call c now) replied left
        → is_declined replied ≡ false → WhileAlive (λ x. Shows c) m.life left.life
    pub turned_away : (c : CertificateFacts D) (x : StateFacts K L D) → AtAll x → admits x c ≡ false → Shows c x
    pub lasts : (c : CertificateFacts D) (x y : StateFacts K L D) → IsLater x y → Shows c x → Shows c y

  module _ (shown : IsShownByAll) (c : CertificateFacts D) where
    -- by whether the state before admits it
    by_admission : (admitted : Bool) (m left : MemberFacts K L D) (x y : StateFacts K L D) → m.life ≡ Some x
        → left.life ≡ Some y → AtAll x → IsLater x y → admits x c ≡ admitted
        → (admitted ≡ true → (now : ℕ)
        × HasAsked same elect is_declined (certificate_call c now) m left true)
        → Shows c y
    by_admission false m left x y was is known goes away taken =
        shown.lasts c x y goes (shown.turned_away c x known away)
    by_admission true m left x y was is known goes admits_it taken =
        let asked = (taken refl).1 in
        subst (λ o. WhileAlive (λ z. Shows c) o (Some y)) was
        (subst (λ o. WhileAlive (λ z. Shows c) m.life o) is
        (shown.added c (taken refl).0 m left asked.answer (subst (HoldsIn AtAll) (sym was) known) asked.answered
        (not_true (is_declined asked.answer) asked.useful)))

module _ {S L D K G C : Type 0} (same : D → D → Bool) (elect : Elect L) (bytes_of : C → List ℕ)
    (is_signature : K → Subject D → G → Type 0) (keys_of : S → List K)
    (Shows : CertificateFacts D → StateFacts K L D → Type 0) (AtAll : StateFacts K L D → Type 0)
    (shown : IsShownByAll same elect Shows AtAll) where
  module _ (certificate : Certificate S D K G C) where
    abbrev facts : CertificateFacts D
    facts = certificate_facts bytes_of certificate

    by_lives : (old new : Engine S L D K G C) (a b z : Option (StateFacts K L D)) → old.core.member.facts.life ≡ a
        → new.core.member.facts.life ≡ b → HoldsIn AtAll a → WhileAlive IsLater a b → WhileAlive IsLater b z
        → IsAnswered same elect bytes_of is_signature keys_of true (input.Certificate certificate) old new
        → IfSome z (Shows facts)
    by_lives old new a b None was is known goes later taken = tt
    by_lives old new a None (Some z) was is known goes later taken = absurd later
    by_lives old new None (Some y) (Some z) was is known goes later taken = absurd goes
    by_lives old new (Some x) (Some y) (Some z) was is known goes later taken =
        let same_test : is_input_admitted bytes_of old.core.member.facts (input.Certificate certificate)
        ≡ admits x facts = ap (λ o. option_map_or (λ s. admits s facts) o false) was in
        shown.lasts facts y z later
        (by_admission same elect Shows AtAll shown facts (admits x facts) old.core.member.facts new.core.member.facts x
        y was is known goes refl (λ yes. taken (same_test ∙ yes)))

    delivered : (term_length i : ℕ) (process : Process S L D K G C)
        → IsMember same elect bytes_of is_signature keys_of term_length i process.first.core.member.facts
        → IsDelivered same elect bytes_of is_signature keys_of (input.Certificate certificate) process
        → IsShownTo (Shows facts) process.last
    delivered term_length i process begun is alive =
        let later = calls_live same elect bytes_of is_signature keys_of is.after is.new process.last is.later alive in
        let member = calls_member same elect bytes_of is_signature keys_of term_length i is.before process.first is.old
        is.earlier begun in
        by_lives is.old is.new is.old.core.member.facts.life is.new.core.member.facts.life
        process.last.core.member.facts.life refl refl
        (shown.at_all term_length i member.0 is.old.core.member.facts member.1) (is.call.lives later.0) later.1
        is.taken

  module _ (me : S → Option ℕ) (terms : L → Terms)
      (keep : RoundsKeepNetworks {C = C} same elect bytes_of is_signature keys_of me terms) where
    pub spreads : SpreadsInRounds {C = C} same elect bytes_of is_signature keys_of me terms Shows
    spreads term_length hosts next later [] network are i j certificate last sent at =
        let after = keep term_length (next ∷ []) hosts next network (are.0, refl) in
        let at_next = subst (λ now. IsLastProcess now j last) are.1 at in
        delivered certificate term_length j last
        (last_begins same elect bytes_of is_signature keys_of me terms term_length next j last after at_next)
        (are.0.delivered i j (input.Certificate certificate) last sent at_next)
    spreads term_length hosts next later (another ∷ rest) network are i j certificate last sent at =
        spreads term_length next another later rest (keep term_length (next ∷ []) hosts next network (are.0, refl))
        are.1 i j certificate last
        (steps_sent same elect bytes_of is_signature keys_of me terms term_length are.0.stages hosts next network
        are.0.steps i j (input.Certificate certificate) sent) at
