-- What rules make of nodes whose parts are reduced has parts that are.
use Rattle.std.proofs.Common.{◌≡◌, Bool, true, false, List, None, refl, sym, ◌∙◌}
use Rattle.rhai_base.specs.Value.{Value, UnitV, PointerV, no_values, item, is_unit}
use Rattle.theory_meaning.specs.Constants.{constant_for}
use Rattle.theory_meaning.specs.Desugar.{root_of}
use Rattle.theory_meaning.specs.Engine.{Engine}
use Rattle.theory_meaning.specs.Queries.{is_unit as is_unit_expr}
use Rattle.theory_meaning.specs.Tree.{Callee, Expr, UnitConstant, BlockExpr, FnCall, And, Or, Coalesce, Exprs, no_exprs, expr, Stmt, Noop, If, While, Block, ExprStmt, FnCallStmt, Stmts, no_stmts, stmt}
use Rattle.theory_meaning.specs.Walk.{OfExpr, over_stmts}
use Rattle.theory_rewriting.specs.Answering.{AnswersNothing, of_first}
use Rattle.theory_rewriting.specs.Clear.{IsClearExpr, HasClearParts, IsClear, AreClear}
use Rattle.theory_rewriting.specs.Known.{Known}
use Rattle.theory_rewriting.specs.Residue.{IsReducedExpr, AreReduced, StmtParts}
use Rattle.theory_rewriting.specs.Rules.{block_or_noop, chosen}
use Rattle.theory_rewriting.specs.Steps.{Place, Anywhere, AsBase, AsGuard, MayBecome, KeepsExprParts, KeepsStmtParts}
use Rattle.theory_rewriting.specs.Testing.{IsIrreducibleList}
use Rattle.theory_rewriting.specs.Parts.{constant_of}
use Rattle.theory_rewriting.proofs.Reducing.{root_for_value, unit_for_value, root_of_value, unit_of_value}

-- ---- constants

constant_reduced : (r : Engine) (v : Value) → IsReducedExpr r (constant_for v)
constant_reduced r (PointerV f no_values) = (refl, (tt, ((refl, tt), ((tt, (tt, (tt, tt))), tt))))
constant_reduced r (PointerV f (item v vs)) = (tt, (tt, (tt, tt)))
constant_reduced r _ = (tt, (tt, (tt, tt)))

constant_of_reduced : (r : Engine) (v : Value) → IsReducedExpr r (constant_of v)
constant_of_reduced r UnitV = (tt, (tt, (tt, tt)))
constant_of_reduced r _ = (tt, (tt, (tt, tt)))

constant_answers : (v : Value) → AnswersNothing (OfExpr (constant_for v))
constant_answers (PointerV f no_values) = refl
constant_answers (PointerV f (item v vs)) = refl
constant_answers _ = refl

constant_clear : (ks : List Known) (v : Value) → IsClearExpr ks (constant_for v)
constant_clear ks (PointerV f no_values) = tt
constant_clear ks (PointerV f (item v vs)) = tt
constant_clear ks _ = tt

clear_parts : (ks : List Known) (e : Expr) → IsClearExpr ks e → HasClearParts ks e
clear_parts ks (BlockExpr ss) h = h
clear_parts ks (And es) h = h
clear_parts ks (Or es) h = h
clear_parts ks (Coalesce es) h = h
clear_parts ks _ h = tt

pub keeps_constant : (e : Expr) (v : Value) → KeepsExprParts e (constant_for v)
keeps_constant e v = record { parts = λ r h. (constant_reduced r v).1; clear = λ ks h. clear_parts ks (constant_for v) (constant_clear ks v) }

-- a constant other than unit may stand for what is neither a place nor unit
pub may_be_constant : (p : Place) (e : Expr) (v : Value) → root_of e ≡ None → is_unit_expr e ≡ false → is_unit v ≡ false → MayBecome p e (constant_for v)
may_be_constant Anywhere e v h u i = tt
may_be_constant AsBase e v h u i = root_for_value v ∙ sym h
may_be_constant AsGuard e v h u i = unit_for_value v ∙ i ∙ sym u

-- ---- expressions

pub keeps_unit : (e : Expr) → KeepsExprParts e UnitConstant
keeps_unit e = record { parts = λ r h. (tt, (tt, tt)); clear = λ ks h. tt }

pub keeps_braced : (e : Expr) → KeepsExprParts (BlockExpr (stmt (ExprStmt e) no_stmts)) e
keeps_braced e = record { parts = λ r h. h.1.1.0.1.1.1.1; clear = λ ks h. clear_parts ks e h.0 }

pub keeps_braced_call : (c : Callee) (es : Exprs) → KeepsExprParts (BlockExpr (stmt (FnCallStmt c es) no_stmts)) (FnCall c es)
keeps_braced_call c es = record { parts = λ r h. h.1.1.0.1; clear = λ ks h. tt }

constant_of_parts : (ks : List Known) (v : Value) → HasClearParts ks (constant_of v)
constant_of_parts ks UnitV = tt
constant_of_parts ks _ = tt

pub keeps_constant_of : (e : Expr) (v : Value) → KeepsExprParts e (constant_of v)
keeps_constant_of e v = record { parts = λ r h. (constant_of_reduced r v).1; clear = λ ks h. constant_of_parts ks v }

pub may_be_constant_of : (p : Place) (e : Expr) (v : Value) → root_of e ≡ None → is_unit_expr e ≡ false → is_unit v ≡ false → MayBecome p e (constant_of v)
may_be_constant_of Anywhere e v h u i = tt
may_be_constant_of AsBase e v h u i = root_of_value v ∙ sym h
may_be_constant_of AsGuard e v h u i = unit_of_value v ∙ i ∙ sym u

pub keeps_and : (e : Expr) → KeepsExprParts (And (expr e no_exprs)) e
keeps_and e = record { parts = λ r h. h.1.1.0.1; clear = λ ks h. clear_parts ks e h.0 }

pub keeps_or : (e : Expr) → KeepsExprParts (Or (expr e no_exprs)) e
keeps_or e = record { parts = λ r h. h.1.1.0.1; clear = λ ks h. clear_parts ks e h.0 }

pub keeps_coalesce : (e : Expr) → KeepsExprParts (Coalesce (expr e no_exprs)) e
keeps_coalesce e = record { parts = λ r h. h.1.1.0.1; clear = λ ks h. clear_parts ks e h.0 }

-- ---- statements

pub keeps_loop : (e : Expr) (b : Stmts) → KeepsStmtParts (While e b) (While UnitConstant b)
keeps_loop e b = record { parts = λ r h. (h.0, ((refl, h.1.0.1), ((tt, (tt, (tt, tt))), h.1.1.1))); clear = λ ks h. tt }

-- no statement is an expression
pub no_first : (ss : Stmts) → over_stmts (of_first AnswersNothing) ss
no_first no_stmts = tt
no_first (stmt s ss) = (tt, no_first ss)

block_parts : (r : Engine) (ss : Stmts) → IsIrreducibleList ss → AreReduced r ss → StmtParts r (block_or_noop ss)
block_parts r no_stmts h p = (tt, (tt, tt))
block_parts r (stmt s ss) h p = (h, (no_first (stmt s ss), p))

block_clear : (ks : List Known) (ss : Stmts) → AreClear ks ss → IsClear ks (block_or_noop ss)
block_clear ks no_stmts h = tt
block_clear ks (stmt s ss) h = h

pub keeps_noop : (x : Stmt) → KeepsStmtParts x Noop
keeps_noop x = record { parts = λ r h. (tt, (tt, tt)); clear = λ ks h. tt }

pub keeps_condition : (e : Expr) → KeepsStmtParts (If e no_stmts no_stmts) (ExprStmt e)
keeps_condition e = record { parts = λ r h. (tt, (h.1.0.0, h.1.1.0)); clear = λ ks h. h.0 }

pub keeps_chosen : (t : Bool) (e : Expr) (a b : Stmts) → KeepsStmtParts (If e a b) (block_or_noop (chosen t a b))
keeps_chosen true e a b = record { parts = λ r h. block_parts r a h.0.0 h.1.1.1.0; clear = λ ks h. block_clear ks a h.1.0 }
keeps_chosen false e a b = record { parts = λ r h. block_parts r b h.0.1 h.1.1.1.1; clear = λ ks h. block_clear ks b h.1.1 }

pub keeps_only : (s : Stmt) → KeepsStmtParts (Block (stmt s no_stmts)) s
keeps_only s = record { parts = λ r h. h.1.1.0.1; clear = λ ks h. h.0 }

pub keeps_braces : (ss : Stmts) → KeepsStmtParts (ExprStmt (BlockExpr ss)) (block_or_noop ss)
keeps_braces ss = record { parts = λ r h. block_parts r ss h.1.1.1.0 h.1.1.1.1.1; clear = λ ks h. block_clear ks ss h }

pub keeps_call : (c : Callee) (es : Exprs) → KeepsStmtParts (ExprStmt (FnCall c es)) (FnCallStmt c es)
keeps_call c es = record { parts = λ r h. h.1.1.1; clear = λ ks h. tt }

pub keeps_value : (x : Stmt) (v : Value) → KeepsStmtParts x (ExprStmt (constant_for v))
keeps_value x v = record { parts = λ r h. (tt, (constant_answers v, constant_reduced r v)); clear = λ ks h. constant_clear ks v }
