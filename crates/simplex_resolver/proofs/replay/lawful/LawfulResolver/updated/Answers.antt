-- from what the state's call and `apply` ensure
use Rattle.simplex_types.specs.Certificates.{certificate_facts}
use Rattle.simplex_resolver.specs.Steps.{update, highest_view}
use Rattle.simplex_resolver.specs.CallHistory.{LawfulResolverFacts}
use Rattle.simplex_resolver.proofs.CallHistory.{update_names}
use Rattle.simplex_resolver.proofs.Made.{made_of, received_of, left_of}
use Rattle.simplex_resolver.proofs.replay.lawful.LawfulResolver.updated.Goals as goal

pub returns-in-Ok-clause-made : goal.returns-in-Ok-clause-made
returns-in-Ok-clause-made g c =
    rw (← c.self.view_is)
    (made_of c.apply.result c.in-Ok.effects _ _ c.apply.new.self _ c.in-Ok.ensures.after c.in-Ok.ensures.effects
    c.apply.ensures.state c.apply.ensures.answered c.apply.ensures.applied)

pub returns-in-Ok-clause-received : goal.returns-in-Ok-clause-received
returns-in-Ok-clause-received g c = received_of c.apply.result _ c.args.self.now c.apply.new.self
    (update_names _ _ c.args.certificate.now c.requires) (returns-in-Ok-clause-made g c)

pub returns-in-Ok-clause-refused : goal.returns-in-Ok-clause-refused
returns-in-Ok-clause-refused g c =
    let old : LawfulResolverFacts = record { state = c.self.inside.state; open_fetches = c.self.inside.fetches.keys } in
    let call =
    update g.D.Digest.bytes (certificate_facts g.S.CertificateScheme.certificate_bytes c.args.certificate.now) in
    rw (← c.self.view_is)
    (left_of c.apply.result c.in-Ok.effects (highest_view c.args.certificate.now) call old c.apply.new.self _
    c.in-Ok.ensures.accepted.0 c.in-Ok.ensures.accepted.1 c.in-Ok.ensures.after c.in-Ok.ensures.effects
    c.apply.ensures.memory c.apply.ensures.failed c.apply.ensures.begun)
