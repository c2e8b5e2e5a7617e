-- How the contract of `a_view_is_finalized_once` follows: what the member has done is lawful, so two finalize votes of
-- one view are for one proposal.
use Rattle.laws_safety.proofs.agreement.TwoVotes.{one_finalized}
use Rattle.example_calls.proofs.lawful.a_view_is_finalized_once.Goals as goal

pub returns : goal.returns
returns g c term_length i all done p q has_p has_q same =
    one_finalized term_length all p q (c.keeps_the_laws.ensures.lawful term_length i all done) has_p has_q same
