-- How the contract of `start` follows: the member of the network starts as its definition has it.
use Rattle.std.proofs.Common.{sym, ap, subst}
use Rattle.simplex_program.specs.declared.network.Network.{Network}
use Rattle.simplex_program.specs.Setup.{StartsAtGenesis}
use Rattle.simplex_program.proofs.session.Session.start.Goals as goal

pub returns-in_ok-start-in-Voter : goal.returns-in_ok-start-in-Voter
returns-in_ok-start-in-Voter c =
    let same = c.in_ok-start-in-Voter.ensures.network in
    let fresh = c.in_ok-start-in-Voter.ensures.member in
    let voter = c.in_ok-start-in-Voter.field-0 in
    rw c.in-Voter.is (
      (
        ap (λ (n : Network). n.members) same,
        ap (λ (n : Network). n.me) same,
        ap (λ (n : Network). n.term_length) same,
        ap (λ (n : Network). n.optimistic) same,
      ),
      subst (λ (n : Network). StartsAtGenesis n voter.member.facts) (sym same) fresh,
    )
