use Rattle.std.proofs.Common.{◌<◌, length, take, arith}
use Rattle.std.proofs.lemmas.List.{take_more}
use Rattle.engine_fetches.proofs.Earlier.{earlier}
use Rattle.engine_fetches.proofs.fetches.earliest.Goals as goal

pub loop-fetch-preserved : goal.loop-fetch-preserved
loop-fetch-preserved c =
    let within : c.loop-fetch.fetch-index < length c.args.fetches.now = omega arith in
    let more = take_more c.args.fetches.now c.loop-fetch.fetch-index c.fetch-item.result within in
    rw (c.first_of.ensures, more, ← c.fetch-item.is)
    (earlier (take c.loop-fetch.fetch-index c.args.fetches.now) c.fetch-item.result c.loop-fetch.earliest
    c.loop-fetch.invariant)
