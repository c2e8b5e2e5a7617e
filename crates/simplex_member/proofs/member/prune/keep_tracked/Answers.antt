-- How the contract of `keep_tracked` follows: a filter of the artifacts by view is one of their entries and of their
-- votes.
use Rattle.std.proofs.Common.{rules, leb, nat_le, ◌||◌, ap, ◌∙◌}
use Rattle.std.proofs.lemmas.Fn.{filter_same}
use Rattle.simplex_types.specs.MessageViews.{artifact_view}
use Rattle.simplex_voter.specs.Facts.{is_tracked}
use Rattle.simplex_record.specs.Entries.{entries_of}
use Rattle.simplex_record.specs.Votes.{votes_of}
use Rattle.simplex_record.proofs.Cuts.{entries_kept}
use Rattle.simplex_record.proofs.Votes.{votes_kept}
use Rattle.simplex_member.proofs.member.prune.keep_tracked.Goals as goal

pub returns-clause-left : goal.returns-clause-left
returns-clause-left g c =
    ap (entries_of g.S.CertificateScheme.certificate_bytes)
    (filter_same _ (λ a. is_tracked c.args.state.now (artifact_view a) || leb c.args.lowest (artifact_view a)) _
    (λ x b f' k. search rules) _ _ c.retain.ensures.filtered)
    ∙ entries_kept g.S.CertificateScheme.certificate_bytes
    (λ v. is_tracked c.args.state.now v || nat_le c.args.lowest v) c.args.entries.now.items

pub returns-clause-votes : goal.returns-clause-votes
returns-clause-votes g c =
    ap votes_of (filter_same _ (λ a. is_tracked c.args.state.now (artifact_view a) || leb c.args.lowest
    (artifact_view a)) _ (λ x b f' k. search rules) _ _ c.retain.ensures.filtered)
    ∙ votes_kept (λ v. is_tracked c.args.state.now v || nat_le c.args.lowest v) c.args.entries.now.items
