-- How the contract of `start_at` follows: the settings' scheme has a key for each member, so the start is the
-- network's.
use Rattle.std.proofs.Common.{◌∙◌, ap, sym, length}
use Rattle.simplex_program.proofs.Genesis.{count_of_keys, set_up_alike}
use Rattle.simplex_program.proofs.voter.start_at.Goals as goal

pub returns-clause-facts : goal.returns-clause-facts
returns-clause-facts c =
    let config = c.in_ok-settings.ensures in
    let elector = c.in_ok-settings.settings.elector in (
      elector,
      c.new.result,
      record { count = config.count; terms = config.terms; payload = c.new.ensures },
      set_up_alike _ _ _ _ _ _ elector c.new.result c.args.now config.settings config.signer config.keys,
    )

pub returns-clause-members : goal.returns-clause-members
returns-clause-members c =
    let config = c.in_ok-settings.ensures in
    config.count ∙ sym (ap length config.keys ∙ count_of_keys c.args.network.now.members)
