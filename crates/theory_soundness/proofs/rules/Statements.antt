-- The rules of statements: a lemma each, of the rule's name.
use Rattle.std.proofs.Common.{◌≡◌, ℕ, Bool, true, false, Option, Some, None, refl, sym, ◌∙◌, subst}
use Rattle.rhai_base.specs.Value.{UnitV}
use Rattle.theory_meaning.specs.Act.{World, Store, Gives, WrongKind, Act, Scoped, Only, Env, run}
use Rattle.theory_meaning.specs.ActForms.{give, unit, ◌>>=◌, truth, branch, then_line}
use Rattle.theory_meaning.specs.Constants.{constant_value, constant_bool}
use Rattle.theory_meaning.specs.Core as core
use Rattle.theory_meaning.specs.Desugar.{core_expr, core_stmt, core_stmts}
use Rattle.theory_meaning.specs.Meaning.{act, deed, acts}
use Rattle.theory_meaning.specs.Queries.{is_block_dependent}
use Rattle.theory_meaning.specs.Relations.{here}
use Rattle.theory_meaning.specs.Tree.{Callee, Expr, BlockExpr, FnCall, Exprs, Stmt, Noop, If, Var, Block, ExprStmt, FnCallStmt, Stmts, no_stmts, stmt, Import, Export}
use Rattle.theory_meaning.proofs.Preserves.{preserves}
use Rattle.theory_meaning.proofs.Sequencing.{leave_same, SameRunAll, line_only, line_same, line_unit}
use Rattle.theory_rewriting.specs.Context.{Context}
use Rattle.theory_rewriting.specs.Rules as rule
use Rattle.theory_rewriting.specs.Rules.{block_or_noop, chosen, condition_alone, ExprRule, StmtRule}
use Rattle.theory_soundness.proofs.simulation.Setting.{Setting, world, run_from}
use Rattle.theory_soundness.proofs.simulation.Simulation.{OrStuck, equal, is_stuck, Simulates, simulates_trans, all_trans, simulates_equal, all_equal, all_refl, simulates_or_stuck, simulates_refl}
use Rattle.theory_soundness.proofs.simulation.Forms.{simulates_bind, all_line, SimulatesStmt, stmt_refl, stmt_trans, stmt_of_deed}
use Rattle.theory_soundness.proofs.rules.Blocks.{scoped_deed, scoped_list}
use Rattle.theory_soundness.proofs.simulation.Unwanted.{before_any}
use Rattle.theory_soundness.proofs.rules.Constants.{or_stuck, expr_given, branch_given}
use Rattle.theory_soundness.proofs.rules.Expressions.{expr_rule}
use Rattle.theory_soundness.proofs.rules.Control as control
use Rattle.theory_soundness.proofs.rules.SelfAssign as assign
use Rattle.theory_soundness.proofs.rules.Forgetting as forgetting
use Rattle.theory_soundness.proofs.rules.Tables as tables
use Rattle.theory_soundness.proofs.rules.Switches as switches
use Rattle.theory_soundness.proofs.rules.Sound.{StmtSound}

-- ---- an `if` whose blocks are empty: its condition, and then unit

module _ (w : World) (env : Env) where
  empty_blocks : (o : Option Bool) (s : Store) (t : ℕ) → OrStuck (run w env (branch o (Scoped (Only unit)) (Scoped (Only unit))) s t) (run w env unit s t)
  empty_blocks None s t = is_stuck WrongKind t here
  empty_blocks (Some true) s t = subst (λ r. OrStuck r (run w env unit s t)) (sym (leave_same s (Gives UnitV) t)) equal
  empty_blocks (Some false) s t = subst (λ r. OrStuck r (run w env unit s t)) (sym (leave_same s (Gives UnitV) t)) equal

  -- the condition, and then `Noop`
  noop_list : (a : Act) → SameRunAll w env (Only (a >>= λ v. unit)) (then_line a (λ v. then_line unit (λ u. Only (give u))))
  noop_list a s t = sym (line_only w env a (λ v. unit) s t) ∙ line_same w env a a (λ v. Only unit) _ (λ s1 t1. refl) (λ v s1 t1. sym (line_unit w env unit s1 t1)) s t

-- the condition, and then unit
abbrev alone : {k : Context} → Setting k → Expr → Act
alone c e = act (world c) (core_expr c.in_loop e) >>= λ v. unit

if_to_alone : {k : Context} (c : Setting k) (e : Expr) → Simulates c (deed (world c) (core.If (core_expr c.in_loop e) core.no_stmts core.no_stmts)) (alone c e)
if_to_alone c e = simulates_bind simulates_refl (λ v. simulates_or_stuck (λ m. empty_blocks (world c) m.env (truth v) m.store m.turns))

if_alone : {k : Context} (c : Setting k) (w : Bool) (e : Expr) → SimulatesStmt c w (core_stmt c.in_loop (If e no_stmts no_stmts)) (core_stmt c.in_loop (condition_alone w e))
if_alone c true e = stmt_of_deed (simulates_trans (if_to_alone c e)
    (simulates_equal (λ m. noop_list (world c) m.env (act (world c) (core_expr c.in_loop e)) m.store m.turns ∙ sym (scoped_list (world c) m.env c.in_loop m.adds (core_stmts c.in_loop (stmt (ExprStmt e) (stmt Noop no_stmts))) refl true UnitV m.store m.turns))))
if_alone c false e = record {
  before = λ p. all_trans (all_line (if_to_alone c e) (λ v. all_refl {p = p})) (all_equal (λ m. before_any (world c) m.env (act (world c) (core_expr c.in_loop e)) p m.store m.turns));
}

pub if_without_blocks : {k : Context} {w : Bool} {e : Expr} → StmtSound k w (If e no_stmts no_stmts) (condition_alone w e)
if_without_blocks {w = w} {e = e} = record {
  sound = λ c. if_alone c w e;
}

-- ---- blocks

pub block_empty : {k : Context} {w : Bool} → StmtSound k w (Block no_stmts) Noop
block_empty = record {
  sound = λ c. stmt_of_deed (simulates_equal (λ m. leave_same m.store (Gives UnitV) m.turns));
}

-- braces around one deed
braces_of_deed : {k : Context} (c : Setting k) (w : Bool) (d : core.Deed) → SimulatesStmt c w (core.Does (core.Block (core.stmt (core.Does d) core.no_stmts))) (core.Does d)
braces_of_deed c w d = stmt_of_deed (simulates_equal (λ m. scoped_deed (world c) m.env c.in_loop m.adds d m.store m.turns))

lone_statement : {k : Context} (c : Setting k) (w : Bool) (s : Stmt) → is_block_dependent s ≡ false → SimulatesStmt c w (core_stmt c.in_loop (Block (stmt s no_stmts))) (core_stmt c.in_loop s)
lone_statement c w (Var d n x e) q = absurd (let z : true ≡ false = q in cc)
lone_statement c w (Import e x) q = absurd (let z : true ≡ false = q in cc)
lone_statement c w (Export x y) q = absurd (let z : true ≡ false = q in cc)
lone_statement c w _ q = braces_of_deed c w _

pub block_of_statement : {k : Context} {w : Bool} {s : Stmt} → is_block_dependent s ≡ false → StmtSound k w (Block (stmt s no_stmts)) s
block_of_statement {w = w} {s = s} q = record {
  sound = λ c. lone_statement c w s q;
}

or_noop : {k : Context} (c : Setting k) (w : Bool) (ss : Stmts) → SimulatesStmt c w (core_stmt c.in_loop (Block ss)) (core_stmt c.in_loop (block_or_noop ss))
or_noop c w no_stmts = block_empty.sound c
or_noop c w (stmt s ss) = stmt_refl

branch_chosen : (w : World) (l t : Bool) (x y : Stmts) → branch (Some t) (Scoped (acts w true (core_stmts l x) UnitV)) (Scoped (acts w true (core_stmts l y) UnitV)) ≡ Scoped (acts w true (core_stmts l (chosen t x y)) UnitV)
branch_chosen w l true x y = refl
branch_chosen w l false x y = refl

if_to_block : {k : Context} (c : Setting k) (e : Expr) (t : Bool) (x y : Stmts) → constant_bool e ≡ Some t → Simulates c (deed (world c) (core.If (core_expr c.in_loop e) (core_stmts c.in_loop x) (core_stmts c.in_loop y))) (deed (world c) (core.Block (core_stmts c.in_loop (chosen t x y))))
if_to_block c e t x y h =
    let w = world c in
    let xs = Scoped (acts w true (core_stmts c.in_loop x) UnitV) in
    let ys = Scoped (acts w true (core_stmts c.in_loop y) UnitV) in
    subst (λ z. Simulates c (deed w (core.If (core_expr c.in_loop e) (core_stmts c.in_loop x) (core_stmts c.in_loop y))) z) (branch_chosen w c.in_loop t x y)
    (simulates_or_stuck {b = branch (Some t) xs ys} (λ m.
    or_stuck _ _ m.store m.turns (branch_given w m.env c.in_loop (constant_value e) (run_from c m (act w (core_expr c.in_loop e))) t m.store m.turns xs ys (expr_given w m.env c.in_loop e m.store m.turns) h) (preserves w m.env m.adds (branch (Some t) xs ys) m.store m.turns).calls))

pub if_decided : {k : Context} {w t : Bool} {e : Expr} {a b : Stmts} → constant_bool e ≡ Some t → StmtSound k w (If e a b) (block_or_noop (chosen t a b))
if_decided {w = w} {t = t} {e = e} {a = a} {b = b} q = record {
  sound = λ c. stmt_trans (stmt_of_deed (if_to_block c e t a b q)) (or_noop c w (chosen t a b));
}

-- ---- expression statements

pub statement_of_braces : {k : Context} {w : Bool} {ss : Stmts} → StmtSound k w (ExprStmt (BlockExpr ss)) (block_or_noop ss)
statement_of_braces {w = w} {ss = ss} = record {
  sound = λ c. record { before = λ rest. (or_noop c w ss).before rest };
}

pub statement_of_call : {k : Context} {w : Bool} {c : Callee} {es : Exprs} → StmtSound k w (ExprStmt (FnCall c es)) (FnCallStmt c es)
statement_of_call {c = c} {es = es} = record {
  sound = λ c. stmt_refl;
}

pub call_statement_folds : {k : Context} {w : Bool} {c : Callee} {es : Exprs} {e : Expr} → ExprRule k (FnCall c es) e → StmtSound k w (FnCallStmt c es) (ExprStmt e)
call_statement_folds {c = c} {es = es} {e = e} r = record {
  sound = λ s. stmt_of_deed ((expr_rule r).sound s);
}

-- ---- every rule

pub stmt_rule : {k : Context} {w : Bool} {s s' : Stmt} → StmtRule k w s s' → StmtSound k w s s'
stmt_rule rule.if_without_blocks = if_without_blocks
stmt_rule (rule.if_decided h) = if_decided h
stmt_rule rule.block_empty = block_empty
stmt_rule (rule.block_of_statement h) = block_of_statement h
stmt_rule rule.statement_of_braces = statement_of_braces
stmt_rule rule.statement_of_call = statement_of_call
stmt_rule (rule.call_statement_folds h) = call_statement_folds h
stmt_rule (rule.while_false h) = control.while_false h
stmt_rule (rule.while_true h) = control.while_true h
stmt_rule (rule.pure_try h) = control.pure_try h
stmt_rule (rule.switch_answers v j js h i q r x) = switches.switch_answers v j js h q r x
stmt_rule (rule.switch_is_if v j h i q r x) = switches.switch_is_if v j h q r x
stmt_rule (rule.switch_defaults v h i q) = switches.switch_defaults v h q
stmt_rule (rule.switch_forgets j h q x) = forgetting.switch_forgets j h q x
stmt_rule (rule.switch_narrows v h i n) = tables.switch_narrows v h i n
stmt_rule (rule.switch_shrinks d h) = tables.switch_shrinks d h
stmt_rule (rule.nested_if h) = control.nested_if
stmt_rule (rule.nested_if_joins {es = es} h) = control.nested_if_joins es
stmt_rule (rule.share_known h) = control.share_known h
stmt_rule rule.share_nothing = control.share_nothing
stmt_rule (rule.self_assign q a h j) = assign.self_assign q a h j
