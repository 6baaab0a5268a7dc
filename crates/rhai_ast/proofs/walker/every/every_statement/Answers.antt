use Rattle.std.proofs.Common.{ap, ◌∙◌}
use Rattle.theory_meaning.specs.Plain.{all_true}
use Rattle.rhai_ast.specs.Children.{over_children}
use Rattle.rhai_ast.proofs.EveryNode.{true-statements}
use Rattle.rhai_ast.proofs.walker.every.every_statement.Goals as goal

pub returns : goal.returns
returns g c =
    let holds = g.T.NodeTest.holds c.args.test.now in
    c.every_child.ensures ∙ ap (over_children (all_true holds)) c.of_statements.ensures.children ∙ true-statements holds c.args.statements.now
