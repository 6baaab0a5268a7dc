-- The rules of lists that are left: a lemma each, of the rule's name.
use Rattle.std.proofs.Common.{◌≡◌, Bool, true, false, cond, refl, sym, ap, ◌∙◌}
use Rattle.rhai_base.specs.Value.{Value}
use Rattle.theory_meaning.specs.Act.{Returns, Gives, Leaves, Ended, Halted, Result, At, Stop, Acts, Only, and_then, returned, run, run_all}
use Rattle.theory_meaning.specs.ActForms.{give, each_value, value_then}
use Rattle.theory_meaning.specs.Core as core
use Rattle.theory_meaning.specs.Desugar.{core_expr, core_maybe, core_stmt, break_kind, return_kind}
use Rattle.theory_meaning.specs.Meaning.{exit, act, line}
use Rattle.theory_meaning.specs.Queries.{is_control_flow_break}
use Rattle.theory_meaning.specs.Tree.{Expr, no_expr, an_expr, Stmt, Noop, ExprStmt, BreakLoop, Return, Stmts, no_stmts, stmt}
use Rattle.theory_meaning.proofs.Sequencing.{line_leaves}
use Rattle.theory_rewriting.specs.Context.{Context, ListKind, Whole}
use Rattle.theory_soundness.proofs.simulation.Setting.{Setting, Start, world, run_from}
use Rattle.theory_soundness.proofs.simulation.Simulation.{SimulatesAll, all_equal}
use Rattle.theory_soundness.proofs.simulation.Lists.{list_of_all}
use Rattle.theory_soundness.proofs.rules.Sound.{ListSound}

-- what follows doesn't matter; b: whether the statement has a meaning
left_alone : {k : Context} (c : Setting k) (b : Bool) (x : core.ExitKind) (e : core.Expr) (f g : Value → Acts) → SimulatesAll c (line (world c) (core.Does (cond b (core.Leave x e) core.IllDeed)) f) (line (world c) (core.Does (cond b (core.Leave x e) core.IllDeed)) g)
left_alone c true x e f g = all_equal (λ n. line_leaves (world c) n.env (act (world c) e) (exit x) f n.store n.turns ∙ sym (line_leaves (world c) n.env (act (world c) e) (exit x) g n.store n.turns))
left_alone c false x e f g = all_equal (λ n. refl)

leaves_alone : {k : Context} (c : Setting k) (s : Stmt) → is_control_flow_break s ≡ true → (f g : Value → Acts) → SimulatesAll c (line (world c) (core_stmt c.in_loop s) f) (line (world c) (core_stmt c.in_loop s) g)
leaves_alone c (Return b o m) h f g = left_alone c true (return_kind b) (core_maybe c.in_loop m) f g
leaves_alone c (BreakLoop b o m) h f g = left_alone c c.in_loop (break_kind b) (core_maybe c.in_loop m) f g
leaves_alone c _ h f g = absurd (let z : false ≡ true = h in cc)

pub after_leave : {k : Context} {m : ListKind} {u : Bool} {s t : Stmt} {ss : Stmts} → is_control_flow_break s ≡ true → ListSound k m u (stmt s (stmt t ss)) (stmt s no_stmts)
after_leave {m = m} {s = s} {t = t} {ss = ss} h = record {
  sound = λ c v z. list_of_all m (leaves_alone c s h _ _);
}

-- ---- a last `return`

pub last_return : {k : Context} {u exported : Bool} {e : Expr} → ListSound k Whole u (stmt (Return false exported (an_expr e)) no_stmts) (stmt (ExprStmt e) no_stmts)
last_return {e = e} = record {
  sound = λ c v z. record { closed = all_equal (λ n. returned_value c n (run_from c n (act (world c) (core_expr c.in_loop e)))) };
} where
  returned_value : {k : Context} (c : Setting k) (n : Start k) (r : Result) → returned (and_then (and_then r (λ x. run (world c) n.env (value_then (λ v. Stop (Leaves (Returns v))) x))) (λ x. run_all (world c) n.env (each_value (λ u. Only (give u)) x))) ≡ returned (and_then r (λ x. run_all (world c) n.env (each_value (λ u. Only (give u)) x)))
  returned_value c n (At (Ended (Gives v)) s t) = refl
  returned_value c n (At (Ended (Leaves x)) s t) = refl
  returned_value c n (At (Halted f) s t) = refl

pub last_return_goes : {k : Context} {exported : Bool} → ListSound k Whole true (stmt (Return false exported no_expr) no_stmts) no_stmts
last_return_goes = record {
  sound = λ c v z. record { closed = all_equal (λ n. ap (λ u. At (Ended (Gives u)) n.store n.turns) (sym (z refl))) };
}

pub last_return_noop : {k : Context} {u exported : Bool} → ListSound k Whole u (stmt (Return false exported no_expr) no_stmts) (stmt Noop no_stmts)
last_return_noop = record {
  sound = λ c v z. record { closed = all_equal (λ n. refl) };
}
