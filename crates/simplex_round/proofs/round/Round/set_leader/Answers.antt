-- How the contract of `set_leader` follows: the participants are the round's members, so the leader's key is read
-- within them.
use Rattle.std.proofs.Common.{◌<◌, ◌∙◌, ap, refl, get_or, length, arith}
use Rattle.std.proofs.lemmas.Option.{slice_get_read}
use Rattle.simplex_round.specs.Round.{RoundFacts, leader_at}
use Rattle.simplex_round.proofs.round.Round.set_leader.Goals as goal

pub bounds-participants-get : goal.bounds-participants-get
bounds-participants-get g c =
    omega
    (arith, c.get.ensures, c.requires, ap length c.participants.ensures, ap (λ r. length r.members) c.self.view_is)

pub returns : goal.returns
returns g c =
    let leader = c.args.leader in
    let key = c.index-participants-get.result in
    let members = c.participants.result.now in
    let at_leader = c.index-participants-get.is ∙ ap (λ place. get_or members place key) c.get.ensures in
    let within : leader < length members = omega
    (arith, c.requires, ap length c.participants.ensures, ap (λ r. length r.members) c.self.view_is) in
    let shown = slice_get_read members _ leader key refl within at_leader in
    let found = rw c.participants.ensures at shown in
    let led = ap (λ (r : RoundFacts g.row.S-PublicKey.Denot g.row.D.Denot).
    record r { leader = leader_at r.members leader }) c.self.view_is in
    rw found at led
