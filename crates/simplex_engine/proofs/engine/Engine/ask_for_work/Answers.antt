-- A member with no work continues by the calls that show it.
use Rattle.std.proofs.Common.{refl, [], inl}
use Rattle.std.proofs.lemmas.Bool.{and_parts}
use Rattle.simplex_member.specs.Calls.{reply_facts}
use Rattle.simplex_engine.proofs.OwnSteps.{alone_further, alone_with}
use Rattle.simplex_engine.proofs.UnfinishedWork.{tells_further}
use Rattle.engine_planner.specs.declared.task.Task.TheVariants as task
use Rattle.engine_planner.proofs.Causes.{among_none}
use Rattle.simplex_engine.proofs.Provenance.{comes_on}
use Rattle.simplex_engine.proofs.engine.Engine.ask_for_work.Goals as goal

pub returns-in_err-has_none-2-clause-alone : goal.returns-in_err-has_none-2-clause-alone
returns-in_err-has_none-2-clause-alone g c = alone_further c.ask_for.ensures.alone c.ask_for-2.ensures.alone

pub returns-in_err-has_none-3-clause-alone : goal.returns-in_err-has_none-3-clause-alone
returns-in_err-has_none-3-clause-alone g c =
    alone_further c.ask_for.ensures.alone (alone_further c.ask_for-2.ensures.alone c.ask_for-3.ensures.alone)

pub returns-in_err-ask-clause-alone : goal.returns-in_err-ask-clause-alone
returns-in_err-ask-clause-alone g c =
    alone_further c.ask_for.ensures.alone
    (alone_further c.ask_for-2.ensures.alone (alone_further c.ask_for-3.ensures.alone
    (alone_with c.ask_for-3.new.self c.ask.new.self c.ask.ensures.continues c.ask.ensures.batcher)))

pub returns-in_err-has_none-4-clause-alone : goal.returns-in_err-has_none-4-clause-alone
returns-in_err-has_none-4-clause-alone g c =
    alone_further c.ask_for.ensures.alone
    (alone_further c.ask_for-2.ensures.alone (alone_further c.ask_for-3.ensures.alone
    (alone_further (alone_with c.ask_for-3.new.self c.ask.new.self c.ask.ensures.continues c.ask.ensures.batcher)
    c.ask_timeout.ensures.alone)))

pub returns-clause-alone : goal.returns-clause-alone
returns-clause-alone g c =
    alone_further c.ask_for.ensures.alone
    (alone_further c.ask_for-2.ensures.alone (alone_further c.ask_for-3.ensures.alone
    (alone_further (alone_with c.ask_for-3.new.self c.ask.new.self c.ask.ensures.continues c.ask.ensures.batcher)
    c.ask_timeout.ensures.alone)))

pub returns-clause-quiet : goal.returns-clause-quiet
returns-clause-quiet g c = λ is.
    let i4 = and_parts _ _ is in
    let i3 = and_parts _ _ i4.0 in
    let i2 = and_parts _ _ i3.0 in
    record {
      between = c.ask_for-3.new.self.core.member.facts;
      asked = (
        c.ask_for.new.self.core.member.facts,
        c.in_ok-has_none.ensures.nothing i2.0,
        (
          c.ask_for-2.new.self.core.member.facts,
          c.in_ok-has_none-2.ensures.nothing i2.1,
          (c.ask_for-3.new.self.core.member.facts, c.in_ok-has_none-3.ensures.nothing i3.1, refl),
        ),
      );
      dropped = reply_facts g.S.CertificateScheme.certificate_bytes c.in_ok-ask.ensures.done.reply;
      left = c.ask.new.self.core.member.facts;
      drops = c.in_ok-ask.ensures.done.answered;
      timed = c.in_ok-has_none-4.ensures.timed i4.1;
    }

pub returns-clause-due_work : goal.returns-clause-due_work
returns-clause-due_work g c =
    tells_further c.in_ok-has_none.ensures.due_work
    (tells_further c.in_ok-has_none-2.ensures.due_work (tells_further c.in_ok-has_none-3.ensures.due_work
    (tells_further c.in_ok-ask.ensures.due_work c.in_ok-has_none-4.ensures.due_work)))

pub returns-clause-provenance : goal.returns-clause-provenance
returns-clause-provenance g c =
    comes_on
    (comes_on
    (comes_on
    (comes_on (c.in_ok-has_none.ensures.provenance [] (λ kind view. refl)
    (inl (task.TryVerify, refl, among_none _, tt))) c.in_ok-has_none-2.ensures.due_work.risen
    c.in_ok-has_none-2.ensures.due_work.works
    (c.in_ok-has_none-2.ensures.provenance [] (λ kind view. refl) (inl (task.TryPropose, refl, among_none _, tt))))
    c.in_ok-has_none-3.ensures.due_work.risen c.in_ok-has_none-3.ensures.due_work.works
    (c.in_ok-has_none-3.ensures.provenance [] (λ kind view. refl)
    (inl (task.CertifyCandidates, refl, among_none _, tt))))
    c.in_ok-ask.ensures.due_work.risen c.in_ok-ask.ensures.due_work.works
    (c.in_ok-ask.ensures.provenance [] (λ kind view. refl) (inl (task.Prune, refl, among_none _, tt))))
    c.in_ok-has_none-4.ensures.due_work.risen c.in_ok-has_none-4.ensures.due_work.works
    c.in_ok-has_none-4.ensures.provenance
