-- How the contract of `start_at_genesis` follows: view 1 is entered at the moment with the set-up's deadlines.
use Rattle.simplex_voter.proofs.ViewEntry.{genesis_setup, genesis_deadlines, genesis_started}
use Rattle.simplex_voter.proofs.CarriedLeaders.{same_setup_joins}
use Rattle.simplex_voter.proofs.voter.state.State.start_at_genesis.Goals as goal

pub enter_view-requires-clause-deadlines : goal.enter_view-requires-clause-deadlines
enter_view-requires-clause-deadlines g c ahead =
    genesis_deadlines c.args.self.now c.note_moment.new.self c.store_genesis.new.self c.args.payload c.args.now
    c.note_moment.ensures c.store_genesis.ensures c.args.deadlines.now c.requires

pub returns-in_err-enter_view-clause-setup : goal.returns-in_err-enter_view-clause-setup
returns-in_err-enter_view-clause-setup g c =
    same_setup_joins _ _ _ (genesis_setup c.args.self.now c.note_moment.new.self c.store_genesis.new.self c.args.payload
    c.args.now c.note_moment.ensures c.store_genesis.ensures) c.enter_view.ensures.setup

pub returns-clause-started : goal.returns-clause-started
returns-clause-started g c =
    genesis_started c.args.self.now c.note_moment.new.self c.store_genesis.new.self c.args.payload c.args.now
    c.note_moment.ensures c.store_genesis.ensures c.set_leader.result g.L.Elector.elect c.enter_view.new.self
    c.set_leader.new.self c.new-first.result c.early_leader-leader.result
    c.new-first.ensures c.in_ok-enter_view.ensures.entered c.early_leader-leader.ensures.leader c.set_leader.ensures.led

pub returns-clause-setup : goal.returns-clause-setup
returns-clause-setup g c =
    same_setup_joins _ _ _ (genesis_setup c.args.self.now c.note_moment.new.self c.store_genesis.new.self c.args.payload
    c.args.now c.note_moment.ensures c.store_genesis.ensures)
    (same_setup_joins _ _ _ c.enter_view.ensures.setup c.set_leader.ensures.setup)
