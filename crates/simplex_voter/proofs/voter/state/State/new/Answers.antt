-- How the contract of `new` follows: an empty state has no rounds, and its sets of views have the setup's terms.
use Rattle.std.proofs.Common.{ap, sym, length, ◌∙◌, refl, arith}
use Rattle.simplex_voter.proofs.RoundsKept.{keys_empty}
use Rattle.simplex_voter.proofs.voter.state.State.new.Goals as goal

pub invariant_of-result : goal.invariant_of-result
invariant_of-result g c = record {
  in_range = omega (arith, c.zero.ensures);
  nullified = ap (λ m. m.term_length) c.new-2.ensures ∙ ap (λ t. t.term_length) c.terms-term_length.ensures;
  nullify_votes = ap (λ m. m.term_length) c.new-3.ensures ∙ ap (λ t. t.term_length) c.terms-term_length.ensures;
  elector = c.requires ∙ ap (λ r. length r.members) (sym c.new-4.ensures);
}

pub returns : goal.returns
returns g c = rw (
  c.zero.ensures,
  c.zero-2.ensures,
  keys_empty _ c.new.ensures,
  keys_empty _ (ap (λ m. m.by_view) c.new-2.ensures),
  keys_empty _ (ap (λ m. m.by_view) c.new-3.ensures),
  c.new-4.ensures,
) refl
