-- The rules of statements: a lemma each, of the rule's name.
use Rattle.std.proofs.Common.{◌<◌, ◌≡◌, ◌+◌, ◌≤◌, ℕ, Bool, true, false, [], Some, None, if◌then◌else◌, refl, ap, arith}
use Rattle.rhai_base.specs.Value.{Value}
use Rattle.rhai_base.specs.Operators.{Operator, Computed, NoEntry, computed}
use Rattle.theory_meaning.specs.Constants.{computed_value, constant_bool}
use Rattle.theory_meaning.specs.Engine.{Engine, is_open}
use Rattle.theory_meaning.specs.Queries.{is_block_dependent}
use Rattle.theory_meaning.specs.Tree.{CallToken, NoToken, OfOperator, OfOther, Callee, Expr, UnitConstant, ArrayOf, BlockExpr, FnCall, Exprs, no_exprs, expr, Stmt, Noop, If, Block, ExprStmt, FnCallStmt, Stmts, no_stmts, stmt}
use Rattle.theory_meaning.specs.Walk.{Node, Around, whole, throughout, over_expr, over_stmt, over_stmts}
use Rattle.theory_rewriting.specs.Context.{Context}
use Rattle.theory_rewriting.specs.Folding.{folded_values, folded}
use Rattle.theory_rewriting.specs.Rules as rule
use Rattle.theory_rewriting.specs.Rules.{block_or_noop, chosen, condition_alone, ExprRule, StmtRule}
use Rattle.theory_meaning.specs.Weight.{expr_weight, exprs_weight, stmt_weight, weight}
use Rattle.theory_rewriting.proofs.Plain.{folded_plain}
use Rattle.theory_rewriting.proofs.rules.Expressions.{constant_light, expr_rule}
use Rattle.theory_rewriting.proofs.rules.Control as control
use Rattle.theory_rewriting.proofs.rules.SelfAssign as assign
use Rattle.theory_rewriting.proofs.rules.Forgetting as forgetting
use Rattle.theory_rewriting.proofs.rules.Tables as tables
use Rattle.theory_rewriting.proofs.rules.Switches as switches
use Rattle.theory_rewriting.proofs.rules.Lasting.{Lasting}
use Rattle.theory_rewriting.proofs.rules.Obligation.{StmtObligation}

condition_light : (w : Bool) (e : Expr) → stmt_weight (condition_alone w e) ≤ 5 + expr_weight e
condition_light true e = omega arith
condition_light false e = omega arith

condition_keeps : (P : Around → Node → Type 0) (l : Bool) → Lasting P l → (b : Bool) (e : Expr) → over_expr (throughout P) e (whole l) → over_stmt (throughout P) (condition_alone b e) (whole l)
condition_keeps P l lasts true e h = (lasts.block _, ((lasts.expression e, h), ((lasts.noop, tt), tt)))
condition_keeps P l lasts false e h = (lasts.expression e, h)

pub if_without_blocks : {k : Context} {w : Bool} {e : Expr} → StmtObligation k w (If e no_stmts no_stmts) (condition_alone w e)
if_without_blocks {w = w} {e = e} = record {
  lighter = omega (arith, condition_light w e);
  keeps = λ P l lasts h. condition_keeps P l lasts w e h.1.0;
}

-- ---- blocks

pub block_empty : {k : Context} {w : Bool} → StmtObligation k w (Block no_stmts) Noop
block_empty = record {
  lighter = omega arith;
  keeps = λ P l lasts h. (lasts.noop, tt);
}

pub block_of_statement : {k : Context} {w : Bool} {s : Stmt} → is_block_dependent s ≡ false → StmtObligation k w (Block (stmt s no_stmts)) s
block_of_statement {w = w} {s = s} q = record {
  lighter = omega arith;
  keeps = λ P l lasts h. h.1.0;
}

-- an empty block is a `Noop`
block_light : (ss : Stmts) → stmt_weight (block_or_noop ss) ≤ 3 + weight ss
block_light no_stmts = omega arith
block_light (stmt s ss) = omega arith

block_keeps : (P : Around → Node → Type 0) (l : Bool) → Lasting P l → (ss : Stmts) → over_stmts (throughout P) ss (whole l) → over_stmt (throughout P) (block_or_noop ss) (whole l)
block_keeps P l lasts no_stmts h = (lasts.noop, tt)
block_keeps P l lasts (stmt s ss) h = (lasts.block (stmt s ss), h)

-- ---- an `if` over a constant

chosen_light : (t : Bool) (a b : Stmts) → weight (chosen t a b) ≤ weight a + weight b
chosen_light true a b = omega arith
chosen_light false a b = omega arith

chosen_keeps : (P : Around → Node → Type 0) (l : Bool) (t : Bool) (a b : Stmts) → over_stmts (throughout P) a (whole l) → over_stmts (throughout P) b (whole l) → over_stmts (throughout P) (chosen t a b) (whole l)
chosen_keeps P l true a b h k = h
chosen_keeps P l false a b h k = k

pub if_decided : {k : Context} {w t : Bool} {e : Expr} {a b : Stmts} → constant_bool e ≡ Some t → StmtObligation k w (If e a b) (block_or_noop (chosen t a b))
if_decided {w = w} {t = t} {e = e} {a = a} {b = b} q = record {
  lighter = omega (arith, block_light (chosen t a b), chosen_light t a b);
  keeps = λ P l lasts h. block_keeps P l lasts (chosen t a b) (chosen_keeps P l t a b h.1.1.0 h.1.1.1);
}

-- ---- expression statements

pub statement_of_braces : {k : Context} {w : Bool} {ss : Stmts} → StmtObligation k w (ExprStmt (BlockExpr ss)) (block_or_noop ss)
statement_of_braces {w = w} {ss = ss} = record {
  lighter = omega (arith, block_light ss);
  keeps = λ P l lasts h. block_keeps P l lasts ss h.1.1;
}

pub statement_of_call : {k : Context} {w : Bool} {c : Callee} {es : Exprs} → StmtObligation k w (ExprStmt (FnCall c es)) (FnCallStmt c es)
statement_of_call {c = c} {es = es} = record {
  lighter = omega arith;
  keeps = λ P l lasts h. (lasts.call_statement c es h.1.0, h.1.1);
}

-- a call that folds has an operand
entry_value : (b : Bool) (c : Computed) → c ≡ NoEntry → computed_value (if b then c else NoEntry) ≡ None
entry_value true c h = ap computed_value h
entry_value false c h = refl

no_operands : (op : Operator) → computed op [] ≡ NoEntry
unfolding computed
no_operands op = refl

folded-no_exprs : (engine : Engine) (m : CallToken) → folded_values engine m (Some []) ≡ None
folded-no_exprs engine NoToken = refl
folded-no_exprs engine (OfOperator op) = entry_value (is_open engine op []) (computed op []) (no_operands op)
folded-no_exprs engine OfOther = refl

expr_heavy : (e : Expr) → 1 ≤ expr_weight e
expr_heavy UnitConstant = omega arith
expr_heavy (ArrayOf es) = omega arith
expr_heavy (BlockExpr ss) = omega arith
expr_heavy (FnCall c es) = omega arith
expr_heavy _ = omega arith

folded_heavy : (engine : Engine) (c : Callee) (es : Exprs) (v : Value) → folded engine c es ≡ Some v → 1 ≤ exprs_weight es
folded_heavy engine c no_exprs v h = let k = folded-no_exprs engine c.token in absurd cc
folded_heavy engine c (expr e es) v h = omega (arith, expr_heavy e)

abbrev is_call : Expr → Bool
is_call (FnCall c es) = true
is_call _ = false

abbrev args_weight : Expr → ℕ
args_weight (FnCall c es) = exprs_weight es
args_weight _ = 0

call_light : {k : Context} {x e : Expr} → ExprRule k x e → is_call x ≡ true → expr_weight e < 2 + args_weight x
call_light {k = k} (rule.operator_folds {c = c} {es = es} {v = v} q) h = omega (arith, constant_light v (folded_plain k.engine c es v q), folded_heavy k.engine c es v q)
call_light (rule.type_of_folds {e = e} v q) h = omega (arith, expr_heavy e)
call_light (rule.is_shared_folds {e = e} v q) h = omega (arith, expr_heavy e)
call_light (rule.fn_folds {e = e} f q n) h = omega (arith, expr_heavy e)
call_light (rule.curry_folds {e = e} f us vs q n) h = omega (arith, expr_heavy e)
call_light _ h = absurd cc

pub call_statement_folds : {k : Context} {w : Bool} {c : Callee} {es : Exprs} {e : Expr} → ExprRule k (FnCall c es) e → StmtObligation k w (FnCallStmt c es) (ExprStmt e)
call_statement_folds {c = c} {es = es} {e = e} r = record {
  lighter = omega (arith, call_light r refl);
  keeps = λ P l lasts h. (lasts.expression e, (expr_rule r).keeps P l lasts (lasts.call c es h.0, h.1));
}

-- ---- every rule

pub stmt_rule : {k : Context} {w : Bool} {s s' : Stmt} → StmtRule k w s s' → StmtObligation k w s s'
stmt_rule rule.if_without_blocks = if_without_blocks
stmt_rule (rule.if_decided h) = if_decided h
stmt_rule rule.block_empty = block_empty
stmt_rule (rule.block_of_statement h) = block_of_statement h
stmt_rule rule.statement_of_braces = statement_of_braces
stmt_rule rule.statement_of_call = statement_of_call
stmt_rule (rule.call_statement_folds h) = call_statement_folds h
stmt_rule (rule.while_false h) = control.while_false h
stmt_rule (rule.while_true h) = control.while_true h
stmt_rule (rule.pure_try h) = control.pure_try h
stmt_rule (rule.switch_answers v j js h i q r x) = switches.switch_answers v j js h q r x
stmt_rule (rule.switch_is_if v j h i q r x) = switches.switch_is_if v j h q r x
stmt_rule (rule.switch_defaults v h i q) = switches.switch_defaults v h q
stmt_rule (rule.switch_forgets j h q x) = forgetting.switch_forgets j h q x
stmt_rule (rule.switch_narrows v h i n) = tables.switch_narrows v h i n
stmt_rule (rule.switch_shrinks d h) = tables.switch_shrinks d h
stmt_rule (rule.nested_if h) = control.nested_if
stmt_rule (rule.nested_if_joins {es = es} h) = control.nested_if_joins es
stmt_rule (rule.share_known h) = control.share_known h
stmt_rule rule.share_nothing = control.share_nothing
stmt_rule (rule.self_assign q a h j) = assign.self_assign q a h j
