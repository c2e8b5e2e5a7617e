-- How the contract of `blocks_agree` follows: two backed finalize votes of one view are for one proposal, by agreement.
use Rattle.std.proofs.Common.{ap, ◌∙◌, inr}
use Rattle.example_calls.proofs.lawful.blocks_agree.Goals as goal

pub returns-clause-agreed : goal.returns-clause-agreed
returns-clause-agreed g c term_length network is backed_mine backed_theirs same =
    let mine = c.args.mine.now in
    let theirs = c.args.theirs.now in
    let one = c.agreement.ensures.one_proposal term_length network is mine theirs (inr backed_mine) (inr backed_theirs)
    same in
    c.eq.ensures ∙ ap (λ p. g.D.PartialEq.eq p.payload theirs.payload) one ∙ g.met.D.Digest.same_is_equal theirs.payload
