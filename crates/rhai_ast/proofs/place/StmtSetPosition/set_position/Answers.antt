use Rattle.std.proofs.Common.{rules}
use Rattle.ast_nodes.proofs.Placing.{placing}
use Rattle.rhai_ast.proofs.place.StmtSetPosition.set_position.Goals as goal

pub returns-clause-node : goal.returns-clause-node
returns-clause-node c = search (rules, placing)

pub returns-clause-reading : goal.returns-clause-reading
returns-clause-reading c = search (rules, placing)
