use Rattle.std.proofs.Common.{rules}
use Rattle.ast_nodes.proofs.Entries.{insert_is}
use Rattle.run_steps.proofs.nodes.maps.insert.Goals as goal

pub returns : goal.returns
returns c = search (rules, insert_is)
