use Rattle.std.proofs.Common.{List, length, ap, arith}
use borrow.Author.Tests.{ltb-true, ltb-false}
use Rattle.ast_types.specs.declared.expr.Expr.{Expr}
use Rattle.ast_nodes.proofs.LiteralLists.{named_value-few, named_value-many}
use Rattle.ast_nodes.proofs.literals.named_value.Goals as goal
use Rattle.ast_nodes.proofs.literals.named_value.Goals.{in_default-via-then-as_slice-lt1, in_default-via-else-as_slice-lt1+else-this-lt2+else-this-lt3}

pub returns-in_default : goal.returns-in_default
returns-in_default c =
    let args = c.args.call.now.args in
    let same = ap (λ (l : List Expr). length l) c.as_slice.ensures in
    elim c.in_default.branch [
      | in_default-via-then-as_slice-lt1 w ↦ named_value-few c.args.call.now.name args (omega (arith, ltb-true, same))
      | in_default-via-else-as_slice-lt1+else-this-lt2+else-this-lt3 w ↦ named_value-many c.args.call.now.name args (omega (arith, ltb-false, same))
    ]
