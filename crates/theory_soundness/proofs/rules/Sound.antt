-- What each rule owes by what trees mean: the new one does what the old one does.
use Rattle.std.proofs.Common.{◌≡◌, Bool, true}
use Rattle.rhai_base.specs.Value.{Value, UnitV}
use Rattle.theory_meaning.specs.Desugar.{core_expr, core_stmt, core_stmts}
use Rattle.theory_meaning.specs.Meaning.{act, acts}
use Rattle.theory_meaning.specs.Tree.{Expr, Stmt, Stmts}
use Rattle.theory_rewriting.specs.Context.{Context, ListKind, wanted}
use Rattle.theory_soundness.proofs.simulation.Setting.{Setting, world}
use Rattle.theory_soundness.proofs.simulation.Simulation.{Simulates}
use Rattle.theory_soundness.proofs.simulation.Forms.{SimulatesStmt}
use Rattle.theory_soundness.proofs.simulation.Lists.{SimulatesList}

pub record ExprSound (k : Context) (e e' : Expr) : Type 1 where
  pub sound : (c : Setting k) → Simulates c (act (world c) (core_expr c.in_loop e)) (act (world c) (core_expr c.in_loop e'))

pub record StmtSound (k : Context) (w : Bool) (s s' : Stmt) : Type 1 where
  pub sound : (c : Setting k) → SimulatesStmt c w (core_stmt c.in_loop s) (core_stmt c.in_loop s')

-- u: whether the value before the list is unit
pub record ListSound (k : Context) (m : ListKind) (u : Bool) (ss ss' : Stmts) : Type 1 where
  pub sound : (c : Setting k) (v : Value) → (u ≡ true → v ≡ UnitV) → SimulatesList c m (acts (world c) (wanted m) (core_stmts c.in_loop ss) v) (acts (world c) (wanted m) (core_stmts c.in_loop ss') v)
