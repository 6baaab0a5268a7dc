-- The rules of loops, `try` and nested `if`s: a lemma each, of the rule's name.
use Rattle.std.proofs.Common.{◌≡◌, ◌<◌, ◌+◌, Bool, true, false, List, [], length, Some, refl, arith}
use Rattle.rhai_base.specs.Value.{Text, UnitV}
use Rattle.theory_meaning.specs.ActForms.{branch}
use Rattle.theory_meaning.specs.Constants.{constant_bool}
use Rattle.theory_meaning.specs.Faults.{has_operands}
use Rattle.theory_meaning.specs.Queries.{are_internally_pure}
use Rattle.theory_meaning.specs.Tree.{Expr, UnitConstant, And, Exprs, no_exprs, expr, Stmt, Noop, If, While, TryCatch, Share, Stmts, no_stmts, stmt}
use Rattle.theory_meaning.specs.Walk.{Node, Around, whole, throughout, over_expr, over_exprs}
use Rattle.theory_meaning.specs.Weight.{expr_weight, exprs_weight}
use Rattle.theory_rewriting.specs.Context.{Context}
use Rattle.theory_rewriting.specs.Known.{unknown}
use Rattle.theory_rewriting.specs.Operands.{with_last}
use Rattle.theory_rewriting.proofs.rules.Given.{bool_heavy}
use Rattle.theory_rewriting.proofs.rules.Lasting.{same_while, same_share}
use Rattle.theory_rewriting.proofs.rules.Obligation.{StmtObligation}

pub while_false : {k : Context} {w : Bool} {e : Expr} {body : Stmts} → constant_bool e ≡ Some false → StmtObligation k w (While e body) Noop
while_false {e = e} {body = body} h = record {
  lighter = omega arith;
  keeps = λ P l lasts j. (lasts.noop, tt);
}

pub while_true : {k : Context} {w : Bool} {e : Expr} {body : Stmts} → constant_bool e ≡ Some true → StmtObligation k w (While e body) (While UnitConstant body)
while_true {e = e} {body = body} h = record {
  lighter = omega (arith, bool_heavy e true h);
  keeps = λ P l lasts j. (lasts.again same_while j.0, ((lasts.value UnitV, tt), j.1.1));
}

pub pure_try : {k : Context} {w : Bool} {x : Expr} {body branch : Stmts} → are_internally_pure body ≡ true → StmtObligation k w (TryCatch x body branch) Noop
pure_try {x = x} {body = body} {branch = branch} h = record {
  lighter = omega arith;
  keeps = λ P l lasts j. (lasts.noop, tt);
}

abbrev pub outer : Expr → Expr → Stmts → Stmt
outer a b ss = If a (stmt (If b ss no_stmts) no_stmts) no_stmts

abbrev pub joined_if : Expr → Expr → Stmts → Stmt
joined_if a b ss = If (And (expr a (expr b no_exprs))) ss no_stmts

pub nested_if : {k : Context} {w : Bool} {a b : Expr} {ss : Stmts} → StmtObligation k w (outer a b ss) (joined_if a b ss)
nested_if {w = w} {a = a} {b = b} {ss = ss} = record {
  lighter = omega arith;
  keeps = λ P l lasts h. (lasts.branching _ _ _, ((lasts.conjunction _ refl, (h.1.0, (h.1.1.0.0.1.0, tt))), (h.1.1.0.0.1.1.0, tt)));
}

last_weighs : (es : Exprs) (b : Expr) → exprs_weight (with_last es b) ≡ exprs_weight es + expr_weight b
last_weighs no_exprs b = omega arith
last_weighs (expr e es) b = omega (arith, last_weighs es b)

has_last : (es : Exprs) (b : Expr) → has_operands (with_last es b) ≡ true
has_last no_exprs b = refl
has_last (expr e es) b = refl

last_keeps : (P : Around → Node → Type 0) (a : Around) (es : Exprs) (b : Expr) → over_exprs (throughout P) es a → over_expr (throughout P) b a → over_exprs (throughout P) (with_last es b) a
last_keeps P a no_exprs b h i = (i, tt)
last_keeps P a (expr e es) b h i = (h.0, last_keeps P a es b h.1 i)

pub nested_if_joins : {k : Context} {w : Bool} (es : Exprs) {b : Expr} {ss : Stmts} → StmtObligation k w (outer (And es) b ss) (If (And (with_last es b)) ss no_stmts)
nested_if_joins es {b = b} {ss = ss} = record {
  lighter = omega (arith, last_weighs es b);
  keeps = λ P l lasts h. (lasts.branching _ _ _, ((lasts.conjunction _ (has_last es b), last_keeps P (whole l) es b h.1.0.1 h.1.1.0.0.1.0), (h.1.1.0.0.1.1.0, tt)));
}

-- ---- shared names, which have no meaning here

pub share_known : {k : Context} {w : Bool} {xs : List Text} → length (unknown k.known xs) < length xs → StmtObligation k w (Share xs) (Share (unknown k.known xs))
share_known h = record {
  lighter = omega (arith, h);
  keeps = λ P l lasts j. (lasts.again same_share j.0, tt);
}

pub share_nothing : {k : Context} {w : Bool} → StmtObligation k w (Share []) Noop
share_nothing = record {
  lighter = omega arith;
  keeps = λ P l lasts j. (lasts.noop, tt);
}
