-- How the contract of `keeps_the_laws` follows: what the member has done is a run, and runs are lawful.
use Rattle.laws_safety.proofs.executions.ExecutionSteps.{done_lawful, done_ran}
use Rattle.laws_safety.proofs.own_records.OwnEntries.{done_entries_once}
use Rattle.lawful_member.proofs.lawful.member.LawfulMember.keeps_the_laws.Goals as goal

pub returns-clause-lawful : goal.returns-clause-lawful
returns-clause-lawful g c term_length i all done =
    done_lawful g.D.PartialEq.eq g.L.Elector.elect term_length i g.met.D.Digest.equal_is_same all c.args.self.now.facts
    done

pub returns-clause-ran : goal.returns-clause-ran
returns-clause-ran g c term_length i all done =
    done_ran g.D.PartialEq.eq g.L.Elector.elect term_length i all c.args.self.now.facts done

pub returns-clause-once : goal.returns-clause-once
returns-clause-once g c term_length i all done =
    done_entries_once g.D.PartialEq.eq g.met.D.Digest.equal_is_same g.L.Elector.elect term_length i all
    c.args.self.now.facts done
