-- from what the state's call and `apply` ensure
use Rattle.simplex_resolver.proofs.Made.{made_of, received_of}
use Rattle.simplex_resolver.proofs.replay.lawful.LawfulResolver.replayed.Goals as goal

pub returns-in-Ok-clause-made : goal.returns-in-Ok-clause-made
returns-in-Ok-clause-made c =
    rw (← c.self.view_is)
    (made_of c.apply.result c.in-Ok.effects _ _ c.apply.new.self _ c.in-Ok.ensures.after c.in-Ok.ensures.effects
    c.apply.ensures.state c.apply.ensures.answered c.apply.ensures.applied)

pub returns-in-Ok-clause-received : goal.returns-in-Ok-clause-received
returns-in-Ok-clause-received c = received_of c.apply.result _ c.args.self.now c.apply.new.self tt
    (returns-in-Ok-clause-made c)
