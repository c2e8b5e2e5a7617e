-- an engine that had failed returns an error
use Rattle.std.proofs.Common.{◌≡◌, ◌⊎◌, refl, ℕ, Bool, true, false, [], Option, Result, Ok, Err}
use Rattle.std.specs.Prelude.{IfOk, OnOk}
use Rattle.simplex_types.specs.declared.types.fault.Fault.{Fault}
use Rattle.simplex_types.specs.declared.types.fault.Fault.TheVariants.{Failed}
use Rattle.simplex_member.specs.declared.member.journal.Stored.{Stored}
use Rattle.engine_outbox.specs.declared.output.Output.{Output}
use Rattle.engine_outbox.specs.Continuity.{has_failed}
use Rattle.simplex_engine.specs.declared.engine.Engine.{Engine}
use Rattle.simplex_engine.specs.AtRest.{HasSettled, ReturnsFirst, StaysAtRest, StaysSettled}
use Rattle.laws_engine.specs.Polls.{IsPoll}
use Rattle.laws_engine.proofs.polls.poll.Goals as goal

poll_by : {S L D K G C : Type 0} (now : ℕ) (result : Result (Option (Output S D Stored K G C)) Fault)
    (old new : Engine S L D K G C) (had_failed : Bool) → has_failed old.core ≡ had_failed
    → (has_failed old.core ≡ true → result ≡ Err Failed)
    → (has_failed old.core ≡ false → ReturnsFirst old.core.outbox.queue.items result old new)
    → (old.core.outbox.queue.items ≡ [] → OnOk result (StaysSettled now old ⊎ HasSettled now new))
    → (has_failed old.core ≡ false → old.core.outbox.queue.items ≡ [] → StaysSettled now old
    → StaysAtRest result old new)
    → IfOk result (λ out. IsPoll now out old new)
poll_by now (Err fault) old new had_failed is refused front settles stays = tt
poll_by now (Ok out) old new true is refused front settles stays = let no = refused is in absurd (cc)
poll_by now (Ok out) old new false is refused front settles stays =
    record { front = front is; settles = λ empty. settles empty; stays = stays is }

pub returns : goal.returns
returns g c =
    let is = c.poll.ensures in
    poll_by c.args.now c.poll.result c.args.engine.now c.poll.new.self (has_failed c.args.engine.now.core) refl
    (λ had. (is.refused had).0) is.front is.settles is.stays
