use Rattle.std.proofs.Common.{is_some, rules, ap, ◌∙◌}
use Rattle.ast_types.specs.Reading.{shapes}
use Rattle.rhai_base.specs.Reading.{kinds}
use Rattle.rhai_ast.proofs.Operations.{is_operator, is_symbol-of}
use Rattle.rhai_ast.proofs.faults.shape.is_symbol.Goals as goal

pub returns-in-Some : goal.returns-in-Some
returns-in-Some c = c.is_some.ensures ∙ ap is_some c.operands.ensures ∙ ap is_operator c.in-Some.ensures ∙ is_symbol-of c.args.name.now

pub returns-in-None : goal.returns-in-None
returns-in-None c = search (rules, shapes, kinds)
