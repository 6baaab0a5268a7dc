use Rattle.ast_nodes.specs.Placed.{name_placed}
use Rattle.ast_nodes.proofs.Changes.{none_changed, one_more_changed, all_changed}
use Rattle.ast_nodes.proofs.place.place_each.Goals as goal

pub loop-name-init : goal.loop-name-init
loop-name-init c = none_changed (name_placed c.args.pos) c.args.names.now

pub loop-name-preserved : goal.loop-name-preserved
loop-name-preserved c = one_more_changed (name_placed c.args.pos) c.args.names.now c.loop-name.names c.loop-name.name-index c.name-item.result c.loop-name-test.true c.loop-name.invariant

pub returns : goal.returns
returns c = all_changed (name_placed c.args.pos) c.args.names.now c.loop-name.names c.loop-name.name-index c.loop-name-test.false c.loop-name.invariant
