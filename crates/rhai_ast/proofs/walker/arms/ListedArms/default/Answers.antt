use Rattle.rhai_ast.specs.Standing.{sides_standing}
use Rattle.rhai_ast.proofs.Steps.{made-default}
use Rattle.rhai_ast.proofs.walker.arms.ListedArms.default.Goals as goal

pub returns : goal.returns
returns c = made-default sides_standing c.args.self.table.now _ c.in_ok-self.field-0 c.get.result c.in_ok-self.was c.as_slice.ensures c.get.ensures.lookup
