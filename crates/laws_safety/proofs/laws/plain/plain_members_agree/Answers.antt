-- How the contract of `plain_members_agree` follows: the network of plain members, and what is finalized in it, are
-- computed.
use Rattle.std.proofs.Common.{refl}
use Rattle.laws_safety.proofs.networks.PlainNetwork.{elector, payload, four_members, plain_network, plain_finalized}
use Rattle.laws_safety.proofs.laws.plain.plain_members_agree.Goals as goal

pub returns-clause-network : goal.returns-clause-network
returns-clause-network c = (elector, payload, four_members, plain_network, plain_finalized)

pub returns-clause-leads : goal.returns-clause-leads
returns-clause-leads c e p = refl

pub returns-clause-follows : goal.returns-clause-follows
returns-clause-follows c e p me = refl
