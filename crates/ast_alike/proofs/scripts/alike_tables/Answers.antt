use Rattle.ast_alike.specs.Scripts.{bare_table}
use Rattle.ast_alike.proofs.SameScripts.{by_key}
use Rattle.ast_alike.proofs.scripts.alike_tables.Goals as goal

pub returns : goal.returns
returns c = by_key (bare_table c.args.first.now) (bare_table c.args.second.now) c.are_keyed.result (c.in_ok-there.ensures c.if-not-there.false) c.are_keyed.ensures
