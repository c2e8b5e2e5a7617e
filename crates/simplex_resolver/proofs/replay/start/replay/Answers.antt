-- How the contract of `replay` follows: no call fails the resolver, so an error is out of memory or a rule that its
-- entries break.
use Rattle.std.proofs.Common.{ap, ◌∙◌}
use Rattle.simplex_resolver.specs.RecordCalls.{newest_first, calls_of}
use Rattle.simplex_resolver.proofs.CallLists.{all_go_on}
use Rattle.simplex_resolver.proofs.Sound.{refused_alike}
use Rattle.simplex_resolver.proofs.replay.start.replay.Goals as goal

pub returns-clause-refused : goal.returns-clause-refused
returns-clause-refused g c =
    let calls = calls_of g.D.Digest.bytes (newest_first g.S.CertificateScheme.certificate_bytes c.args.entries.now) in
    let live = ap (λ x. x.is_failed) c.in_ok-pass_every.ensures.after ∙ all_go_on c.args.state.now calls
    ∙ c.requires.resumption in
    refused_alike c.replayed.result c.pass_every.new.state c.replayed.new.self live c.replayed.ensures.refused
