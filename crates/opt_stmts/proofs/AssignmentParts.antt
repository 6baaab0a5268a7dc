-- What the rules make of statements whose parts are reduced has parts that are.
use Rattle.std.proofs.Common.{List, [], Some, None}
use Rattle.rhai_base.specs.Operators.{Operator}
use Rattle.rhai_base.specs.Value.{Text}
use Rattle.theory_meaning.specs.Tree.{Callee, Expr, Variable, FnCall, no_exprs, expr, Assignment, Share}
use Rattle.theory_rewriting.specs.Steps.{KeepsStmtParts}

pub keeps_share : (xs ys : List Text) → KeepsStmtParts (Share xs) (Share ys)
keeps_share xs ys = record { parts = λ r h. (tt, (tt, tt)); clear = λ ks h. tt }

pub keeps_value : (op : Operator) (f : Callee) (x : Text) (e : Expr) → KeepsStmtParts (Assignment None (Variable [] x) (FnCall f (expr (Variable [] x) (expr e no_exprs)))) (Assignment (Some op) (Variable [] x) e)
keeps_value op f x e = record {
  parts = λ r h. let rhs = h.1.1.1.1.1 in (tt, (rhs.0.1.0, (h.1.1.0, rhs.1.1.0)));
  clear = λ ks h. tt;
}
