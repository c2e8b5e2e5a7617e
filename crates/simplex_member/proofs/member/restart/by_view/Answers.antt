-- How the contract of `by_view` follows: a stable sort of a copy by view is the entries by rising view, in their order
-- within one.
use Rattle.std.proofs.Common.{rules}
use Rattle.std.proofs.lemmas.List.Sorted.{IsNonDecreasingBy-from_sort_by_key, answers_always}
use Rattle.simplex_types.specs.MessageViews.{artifact_view}
use Rattle.simplex_member.proofs.Restarts.{sorted_copy}
use Rattle.simplex_member.proofs.member.restart.by_view.Goals as goal

pub returns : goal.returns
returns g c =
    sorted_copy g.S.CertificateScheme.certificate_bytes c.args.artifacts.now c.in_ok-copy.copy.items
    c.sort_by_key.new.self.items
    c.in_ok-copy.ensures
    (IsNonDecreasingBy-from_sort_by_key artifact_view _ c.in_ok-sort_by_key.ensures.sorted (λ a r q k. search rules))
    (c.sort_by_key.ensures.stable artifact_view (answers_always _ _ _ (λ f a r h k. search rules)))
