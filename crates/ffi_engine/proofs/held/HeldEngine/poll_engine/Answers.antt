-- How the contract of `poll_engine` follows where the engine gives something out, where it has nothing more to do, and
-- where it fails.
use Rattle.std.proofs.Common.{◌⊎◌, List, [], Some, None, Ok, Err, ap, inr, refl, sym, subst, ◌∙◌}
use Rattle.std.specs.Prelude.{◌++◌, IsOk, OnOk, option_to_list}
use Rattle.std.proofs.lemmas.Bool.{false≢true}
use Rattle.simplex_codec.specs.Digests.{bytes_in_digest}
use Rattle.ffi_scheme.specs.Host.{certificate_bytes, IsOrder}
use Rattle.engine_planner.specs.PlannedWork.{AreAmong}
use Rattle.engine_outbox.specs.Outputs.{work_in}
use Rattle.simplex_engine.specs.Provenance.{forgettable, held_by, IsCaused}
use Rattle.simplex_engine.specs.AtRest.{HasSettled, ReturnsFirst, StaysAtRest, StaysSettled}
use Rattle.simplex_engine.specs.ApplicationWork.{work_ahead, HasReportedAll}
use Rattle.engine_outbox.specs.Finalizations.{ReportsNoMore}
use Rattle.engine_outbox.specs.Continuity.{EmitsOn, IsJournaled}
use Rattle.ffi_member.specs.Numbers.{fault_status}
use Rattle.ffi_member.specs.MemberHandles.{host_leader, same_host_payload}
use Rattle.ffi_engine.specs.EngineHandles.{SettledAsStored}
use Rattle.ffi_engine.specs.Outputs.{HostOutput}
use Rattle.ffi_engine.proofs.Given.{all_given, comes_given, has_replied, same_error, tells_no_more, traced_given, works_given}
use Rattle.ffi_engine.proofs.held.HeldEngine.poll_engine.Goals as goal

pub returns-in-Ok-Some : goal.returns-in-Ok-Some
returns-in-Ok-Some c =
    let rest = c.give_out.ensures.rest in
    let going = c.if-self.false in
    let given = rw c.in-Ok-Some.field-0-is at c.in-Ok-Some.ensures.given in (
      inr (
        going,
        record {
          answer = Ok (Some c.in-Ok-Some.output);
          outcome = c.give_out.ensures.given;
          front = λ lives. subst (λ answer. ReturnsFirst c.args.self.now.engine.core.outbox.queue.items answer
              c.args.self.now.engine c.give_out.new.self.engine) (c.in-Ok-Some.is ∙ ap Ok c.in-Ok-Some.field-0-is)
              (rw rest.0 (c.poll.ensures.front lives));
          settles = λ empty. subst (λ answer. OnOk answer
              (StaysSettled c.args.now c.args.self.now.engine ⊎ HasSettled c.args.now c.give_out.new.self.engine))
              (c.in-Ok-Some.is ∙ ap Ok c.in-Ok-Some.field-0-is) (rw rest.0 (c.poll.ensures.settles empty));
          stays = λ lives empty at. subst (λ answer.
              StaysAtRest answer c.args.self.now.engine c.give_out.new.self.engine)
              (c.in-Ok-Some.is ∙ ap Ok c.in-Ok-Some.field-0-is) (rw rest.0 (c.poll.ensures.stays lives empty at));
          settled = λ before kept is. subst (λ answer. OnOk answer (SettledAsStored c.give_out.new.self.engine))
              (c.in-Ok-Some.is ∙ ap Ok c.in-Ok-Some.field-0-is) (rw rest.0 (c.poll.ensures.settled before kept is));
          given = all_given c.in-Ok-Some.output c.args.self.now.stored c.give_out.result c.args.self.now
              c.give_out.new.self going
              (rw rest.0 given) c.give_out.ensures.given;
          reported = tells_no_more c.in-Ok-Some.output c.args.self.now.stored c.give_out.result c.args.self.now
              c.give_out.new.self
              (rw rest.0 (rw c.in-Ok-Some.field-0-is at c.in-Ok-Some.ensures.reported)) c.give_out.ensures.given;
          traced = traced_given c.in-Ok-Some.output c.args.self.now.stored c.give_out.result c.args.self.now
              c.give_out.new.self
              (rw rest.0 (rw c.in-Ok-Some.field-0-is at c.in-Ok-Some.ensures.traced)) c.give_out.ensures.given;
          does = rw rest.0 c.in-Ok-Some.ensures.does;
          votes = rw rest.0 c.in-Ok-Some.ensures.votes;
          held = rw rest.0 c.in-Ok-Some.ensures.held;
          bounded = rw rest.0 c.in-Ok-Some.ensures.bounded;
          due_work = λ _. has_replied c.in-Ok-Some.output c.args.self.now.stored c.give_out.result c.args.self.now
              c.give_out.new.self
              (rw rest.0 (rw c.in-Ok-Some.field-0-is at c.in-Ok-Some.ensures.due_work)) c.give_out.ensures.given;
          works = λ _. works_given c.in-Ok-Some.output c.args.self.now.stored c.give_out.result c.args.self.now
              c.give_out.new.self
              (rw rest.0 (rw c.in-Ok-Some.field-0-is at c.in-Ok-Some.ensures.works)) c.give_out.ensures.given;
          provenance = λ _. comes_given c.args.now c.in-Ok-Some.output c.args.self.now.stored c.give_out.result
              c.args.self.now c.give_out.new.self
              (rw rest.0 (rw c.in-Ok-Some.field-0-is at c.in-Ok-Some.ensures.provenance)) c.give_out.ensures.given;
          fetch_heights = λ _. rw rest.0 c.in-Ok-Some.ensures.fetch_heights;
          near = λ _. rw rest.0 c.in-Ok-Some.ensures.near;
          seen = λ _. rw rest.0 c.in-Ok-Some.ensures.seen;
          early = λ _. rw rest.0 c.in-Ok-Some.ensures.early;
          ignored = λ _. rw rest.0 c.in-Ok-Some.ensures.ignored;
          constants = λ _. rw rest.0 c.in-Ok-Some.ensures.constants;
          refused = λ had. absurd (false≢true (subst IsOk (sym c.in-Ok-Some.is ∙ (c.poll.ensures.refused had).0) refl));
        },
      ),
      rest.1,
      rest.2,
      rest.3,
    )

pub returns-in-Ok-None : goal.returns-in-Ok-None
returns-in-Ok-None c =
    let going = c.if-self.false in
    let given = rw c.in-Ok-None.field-0-is at c.in-Ok-None.ensures.given in
    let none = c.in-Ok-None.field-0-is in
    let reported = c.no_output-in-Ok-None.ensures in (
      inr (
        going,
        record {
          answer = Ok None;
          outcome = (
            record { status_is = reported.status; nothing = reported.nothing.0; last = c.requires.last },
            λ settled. record {
              rest = (rw none at c.in-Ok-None.ensures.rest settled) refl;
              short = λ before kept. (rw none at c.in-Ok-None.ensures.short before kept settled) refl;
              waiting = (rw none at c.in-Ok-None.ensures.waiting settled) refl;
              admitted = λ before. (rw none at c.in-Ok-None.ensures.admitted settled before) refl;
            },
          );
          front = λ lives. subst (λ answer. ReturnsFirst c.args.self.now.engine.core.outbox.queue.items answer
              c.args.self.now.engine c.poll.new.self) (c.in-Ok-None.is ∙ ap Ok c.in-Ok-None.field-0-is)
              (c.poll.ensures.front lives);
          settles = λ empty. subst (λ answer. OnOk answer
              (StaysSettled c.args.now c.args.self.now.engine ⊎ HasSettled c.args.now c.poll.new.self))
              (c.in-Ok-None.is ∙ ap Ok c.in-Ok-None.field-0-is) (c.poll.ensures.settles empty);
          stays = λ lives empty at. subst (λ answer. StaysAtRest answer c.args.self.now.engine c.poll.new.self)
              (c.in-Ok-None.is ∙ ap Ok c.in-Ok-None.field-0-is) (c.poll.ensures.stays lives empty at);
          settled = λ before kept is. subst (λ answer. OnOk answer (SettledAsStored c.poll.new.self))
              (c.in-Ok-None.is ∙ ap Ok c.in-Ok-None.field-0-is) (c.poll.ensures.settled before kept is);
          given = λ before all alive.
              subst (λ last. IsJournaled certificate_bytes (before ++ option_to_list last) c.poll.new.self.core)
              (sym c.requires.last) (given before (all going));
          reported = λ alive. subst (λ last. ReportsNoMore (option_to_list last) c.args.self.now.engine.core.outbox
              c.poll.new.self.core.outbox)
              (sym c.requires.last) (rw none at c.in-Ok-None.ensures.reported);
          traced = λ alive. subst (λ last. EmitsOn same_host_payload host_leader certificate_bytes
              (IsOrder bytes_in_digest) None (option_to_list last) c.args.self.now.engine.core c.poll.new.self.core)
              (sym c.requires.last) (rw none at c.in-Ok-None.ensures.traced);
          does = c.in-Ok-None.ensures.does;
          votes = c.in-Ok-None.ensures.votes;
          held = c.in-Ok-None.ensures.held;
          bounded = c.in-Ok-None.ensures.bounded;
          due_work = λ _ alive. subst (λ last. (before : List HostOutput) → HasReportedAll before c.args.self.now.engine
              → HasReportedAll (before ++ option_to_list last) c.poll.new.self)
              (sym c.requires.last) (rw none at c.in-Ok-None.ensures.due_work);
          works = λ _ alive. subst (λ last. AreAmong (work_ahead c.args.self.now.engine)
              (work_in (option_to_list last) ++ work_ahead c.poll.new.self))
              (sym c.requires.last) (rw none at c.in-Ok-None.ensures.works);
          provenance = λ _ alive. subst (λ last.
              IsCaused same_host_payload host_leader bytes_in_digest certificate_bytes c.args.now
              (forgettable c.poll.new.self.core.member.facts) (work_in (option_to_list last)) (held_by c.poll.new.self)
              c.args.self.now.engine c.poll.new.self)
              (sym c.requires.last) (rw none at c.in-Ok-None.ensures.provenance);
          fetch_heights = λ _. c.in-Ok-None.ensures.fetch_heights;
          near = λ _. c.in-Ok-None.ensures.near;
          seen = λ _. c.in-Ok-None.ensures.seen;
          early = λ _. c.in-Ok-None.ensures.early;
          ignored = λ _. c.in-Ok-None.ensures.ignored;
          constants = λ _. c.in-Ok-None.ensures.constants;
          refused = λ had. absurd (false≢true (subst IsOk (sym c.in-Ok-None.is ∙ (c.poll.ensures.refused had).0) refl));
        },
      ),
      refl,
      refl,
      refl,
    )

pub returns-in-Err : goal.returns-in-Err
returns-in-Err c =
    let going = c.if-self.false in
    let reported = c.no_output-in-Err.ensures in
    let failed = c.in-Err.ensures.failed in (
      inr (
        going,
        record {
          answer = Err c.in-Err.fault;
          outcome = (
            c.in-Err.ensures.error,
            record {
              status_is = reported.status ∙ c.number_of_fault-in-Err.ensures;
              nothing = reported.nothing.0;
              last = c.requires.last;
            },
            failed,
          );
          front = λ lives. subst (λ answer. ReturnsFirst c.args.self.now.engine.core.outbox.queue.items answer
              c.args.self.now.engine c.poll.new.self) c.in-Err.is (c.poll.ensures.front lives);
          settles = λ empty. tt;
          stays = λ lives empty at. subst (λ answer. StaysAtRest answer c.args.self.now.engine c.poll.new.self)
              c.in-Err.is (c.poll.ensures.stays lives empty at);
          settled = λ before kept is. tt;
          given = λ before all alive.
              subst (λ last. IsJournaled certificate_bytes (before ++ option_to_list last) c.poll.new.self.core)
              (sym c.requires.last) (c.in-Err.ensures.given before (all going));
          reported = λ alive. subst (λ last. ReportsNoMore (option_to_list last) c.args.self.now.engine.core.outbox
              c.poll.new.self.core.outbox)
              (sym c.requires.last) c.in-Err.ensures.reported;
          traced = λ alive. subst (λ last. EmitsOn same_host_payload host_leader certificate_bytes
              (IsOrder bytes_in_digest) None (option_to_list last) c.args.self.now.engine.core c.poll.new.self.core)
              (sym c.requires.last) c.in-Err.ensures.traced;
          does = c.in-Err.ensures.does;
          votes = c.in-Err.ensures.votes;
          held = c.in-Err.ensures.held;
          bounded = c.in-Err.ensures.bounded;
          due_work = λ alive. absurd (false≢true (sym alive ∙ failed));
          works = λ alive. absurd (false≢true (sym alive ∙ failed));
          provenance = λ alive. absurd (false≢true (sym alive ∙ failed));
          fetch_heights = λ alive. absurd (false≢true (sym alive ∙ failed));
          near = λ alive. absurd (false≢true (sym alive ∙ failed));
          seen = λ alive. absurd (false≢true (sym alive ∙ failed));
          early = λ alive. absurd (false≢true (sym alive ∙ failed));
          ignored = λ alive. absurd (false≢true (sym alive ∙ failed));
          constants = λ alive. absurd (false≢true (sym alive ∙ failed));
          refused = λ had.
              let only = c.poll.ensures.refused had in (
                record {
                  status_is = reported.status ∙ c.number_of_fault-in-Err.ensures
                      ∙ ap fault_status (same_error c.in-Err.is only.0);
                  nothing = reported.nothing.0;
                  last = c.requires.last;
                },
                only.1,
              );
        },
      ),
      refl,
      refl,
      refl,
    )
