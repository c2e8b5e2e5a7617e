-- How the contract of `start_of` follows: the numbers' first rule comes before the engine's, and both are of the one
-- configuration that they make.
use Rattle.ffi_member.proofs.Tested.{both_kept, due_of, made_of, none_due}
use Rattle.ffi_member.proofs.settings.start_of.Goals as goal

pub returns-in-Ok-clause-made : goal.returns-in-Ok-clause-made
returns-in-Ok-clause-made c =
    let start = made_of _ _ c.in-Ok.start c.of.result c.of.ensures.tested c.in-Ok.is in
    let numbers = both_kept _ _ c.in_ok-config.ensures.accepted c.in_ok-elector.ensures.accepted in
    let engine = none_due _ _ c.in-Ok.start c.of.result c.of.ensures.tested c.in-Ok.is in (
      c.in_ok-config.config,
      c.in_ok-elector.elector,
      c.in_ok-config.ensures.config,
      c.in_ok-elector.ensures.elector,
      numbers,
      engine,
      start,
    )

pub returns-in-Err-clause-refused : goal.returns-in-Err-clause-refused
returns-in-Err-clause-refused c = record {
  config = c.in_ok-config.config;
  elector = c.in_ok-elector.elector;
  is_config = c.in_ok-config.ensures.config;
  is_elector = c.in_ok-elector.ensures.elector;
  numbers = both_kept _ _ c.in_ok-config.ensures.accepted c.in_ok-elector.ensures.accepted;
  first = due_of _ _ c.in-Err.error c.of.result c.of.ensures.tested c.in-Err.is;
}
