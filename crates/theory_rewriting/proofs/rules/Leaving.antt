-- The rules of lists that are left: a lemma each, of the rule's name.
use Rattle.std.proofs.Common.{◌≡◌, ◌≤◌, Bool, true, false, arith}
use Rattle.theory_meaning.specs.Queries.{is_control_flow_break}
use Rattle.theory_meaning.specs.Tree.{Expr, no_expr, an_expr, Stmt, Noop, ExprStmt, Return, Stmts, no_stmts, stmt}
use Rattle.theory_meaning.specs.Weight.{stmt_weight}
use Rattle.theory_rewriting.specs.Context.{Context, ListKind, Whole}
use Rattle.theory_rewriting.proofs.rules.Obligation.{ListObligation}

pub stmt_heavy : (s : Stmt) → 1 ≤ stmt_weight s
stmt_heavy Noop = omega arith
stmt_heavy (ExprStmt e) = omega arith
stmt_heavy _ = omega arith

pub after_leave : {k : Context} {m : ListKind} {u : Bool} {s t : Stmt} {ss : Stmts} → is_control_flow_break s ≡ true → ListObligation k m u (stmt s (stmt t ss)) (stmt s no_stmts)
after_leave {m = m} {s = s} {t = t} {ss = ss} h = record {
  lighter = omega (arith, stmt_heavy t);
  keeps = λ P l lasts j. (j.0, tt);
}

-- ---- a last `return`

pub last_return : {k : Context} {u exported : Bool} {e : Expr} → ListObligation k Whole u (stmt (Return false exported (an_expr e)) no_stmts) (stmt (ExprStmt e) no_stmts)
last_return {e = e} = record {
  lighter = omega arith;
  keeps = λ P l lasts j. ((lasts.expression e, j.0.1), tt);
}

pub last_return_goes : {k : Context} {exported : Bool} → ListObligation k Whole true (stmt (Return false exported no_expr) no_stmts) no_stmts
last_return_goes = record {
  lighter = omega arith;
  keeps = λ P l lasts j. tt;
}

pub last_return_noop : {k : Context} {u exported : Bool} → ListObligation k Whole u (stmt (Return false exported no_expr) no_stmts) (stmt Noop no_stmts)
last_return_noop = record {
  lighter = omega arith;
  keeps = λ P l lasts j. ((lasts.noop, tt), tt);
}
