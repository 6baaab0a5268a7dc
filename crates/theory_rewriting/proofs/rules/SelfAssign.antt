-- The rule of an assignment of an operator over its own name: a lemma of the rule's name.
use Rattle.std.proofs.Common.{◌≡◌, Bool, true, false, [], Some, None, refl, arith}
use Rattle.rhai_base.specs.Value.{Text}
use Rattle.rhai_base.specs.Operators.{Operator}
use Rattle.theory_meaning.specs.Engine.{overrides_any, assigning}
use Rattle.theory_meaning.specs.Tree.{OfOperator, Callee, Expr, Variable, FnCall, no_exprs, expr, Assignment}
use Rattle.theory_rewriting.specs.Context.{Context}
use Rattle.theory_rewriting.specs.SelfAssign.{has_op_assignment, leaves_names}
use Rattle.theory_rewriting.proofs.rules.Lasting.{same_assignment}
use Rattle.theory_rewriting.proofs.rules.Obligation.{StmtObligation}

pub self_assign : {k : Context} {w : Bool} {op : Operator} {f : Callee} {x : Text} {e : Expr} → f.token ≡ OfOperator op → has_op_assignment op ≡ true → leaves_names e ≡ true → overrides_any k.engine.overrides (assigning op) ≡ false → StmtObligation k w (Assignment None (Variable [] x) (FnCall f (expr (Variable [] x) (expr e no_exprs)))) (Assignment (Some op) (Variable [] x) e)
self_assign {op = op} {f = f} {x = x} {e = e} q a h j = record {
  lighter = omega arith;
  keeps = λ P l lasts i. (lasts.again (same_assignment refl refl) i.0, (i.1.0, i.1.1.1.1.0));
}
