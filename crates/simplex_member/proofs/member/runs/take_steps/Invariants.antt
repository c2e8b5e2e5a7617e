-- The loop of `take_steps`: the replies so far are those of the steps so far.
use Rattle.std.proofs.Common.{map}
use Rattle.simplex_member.specs.Calls.{reply_facts}
use Rattle.simplex_member.specs.Runs.{steps_of, IsRun}
use Rattle.simplex_member.proofs.member.runs.take_steps.Given as goal

abbrev pub invariant-loop-step : goal.invariant-loop-step
invariant-loop-step g l =
    let bytes_of = g.S.CertificateScheme.certificate_bytes in
    IsRun g.D.PartialEq.eq g.L.Elector.elect l.fn.member.facts
    (steps_of g.S.CertificateScheme.me g.S.CertificateScheme.participants g.L.Elector.terms g.L.Elector.elects_early
    bytes_of l.yielded) (map (reply_facts bytes_of) l.replies.items) l.member.facts
