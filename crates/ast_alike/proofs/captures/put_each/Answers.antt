use Rattle.ast_types.specs.Reading.{expr_of}
use Rattle.ast_alike.proofs.Captured.{all_put}
use Rattle.ast_alike.proofs.captures.put_each.Goals as goal

pub returns : goal.returns
returns c = all_put c.args.name.now (expr_of c.args.value.now) c.loop-arg.made c.loop-arg.rest c.args.args c.in_default.ensures.0 c.loop-arg.invariant
