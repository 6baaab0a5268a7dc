-- What the rules make of statements whose parts are reduced has parts that are.
use Rattle.std.proofs.Common.{◌≡◌, Bool, true, false, ◌||◌, List, None, refl, ap, ◌∙◌}
use Rattle.theory_meaning.specs.Constants.{constant_bool}
use Rattle.theory_meaning.specs.Engine.{Engine}
use Rattle.theory_meaning.specs.Tree.{Expr, And, Exprs, no_exprs, expr, If, Stmts, no_stmts, stmt}
use Rattle.theory_rewriting.specs.Answering.{is_that, is_always, follows_deciding}
use Rattle.theory_rewriting.specs.Clear.{IsClearExpr, AreClearExprs}
use Rattle.theory_rewriting.specs.Known.{Known}
use Rattle.theory_rewriting.specs.Operands.{with_last, ends_false}
use Rattle.theory_rewriting.specs.Residue.{IsReducedExpr, AreReducedExprs}
use Rattle.theory_rewriting.specs.Steps.{KeepsStmtParts, AnswersNone, AnswerNone}
use Rattle.theory_rewriting.proofs.Keeping.{no_first}

-- ---- an `if` alone in an `if`

pub keeps_nested : (a b : Expr) (ss : Stmts) → constant_bool a ≡ None → KeepsStmtParts (If a (stmt (If b ss no_stmts) no_stmts) no_stmts) (If (And (expr a (expr b no_exprs))) ss no_stmts)
keeps_nested a b ss n = record {
  parts = λ r h.
      let inner = h.1.1.1.0.0.1 in
      ((inner.0.0, h.0.1), ((refl, (no_first ss, tt)), ((ap (λ o. is_that false o || false) n, (tt, ((h.1.0.0, (inner.1.0.0, tt)), (h.1.1.0, (inner.1.1.0, tt))))), (inner.1.1.1.0, tt))));
  clear = λ ks h. let inner = h.1.0.0 in ((h.0, (inner.0, tt)), (inner.1.0, tt));
}

-- an operand more, behind one that does not decide
neither : (a b : Bool) → a || b ≡ false → (a ≡ false) × (b ≡ false)
neither true b h = absurd cc
neither false b h = (refl, h)

follows-last : (es : Exprs) (b : Expr) → follows_deciding false es ≡ false → ends_false es ≡ false → follows_deciding false (with_last es b) ≡ false
follows-last no_exprs b h i = refl
follows-last (expr e no_exprs) b h i = ap (λ x. x || false) i
follows-last (expr e (expr f es)) b h i =
    let both = neither (is_always false e) (follows_deciding false (expr f es)) h in
    ap (λ x. x || follows_deciding false (with_last (expr f es) b)) both.0 ∙ follows-last (expr f es) b both.1 i

answer-last : (es : Exprs) (b : Expr) → AnswerNone es → AnswersNone b → AnswerNone (with_last es b)
answer-last no_exprs b h i = (i, tt)
answer-last (expr e es) b h i = (h.0, answer-last es b h.1 i)

reduced-last : (r : Engine) (es : Exprs) (b : Expr) → AreReducedExprs r es → IsReducedExpr r b → AreReducedExprs r (with_last es b)
reduced-last r no_exprs b h i = (i, tt)
reduced-last r (expr e es) b h i = (h.0, reduced-last r es b h.1 i)

clear-last : (ks : List Known) (es : Exprs) (b : Expr) → AreClearExprs ks es → IsClearExpr ks b → AreClearExprs ks (with_last es b)
clear-last ks no_exprs b h i = (i, tt)
clear-last ks (expr e es) b h i = (h.0, clear-last ks es b h.1 i)

pub keeps_joined : (es : Exprs) (b : Expr) (ss : Stmts) → ends_false es ≡ false → KeepsStmtParts (If (And es) (stmt (If b ss no_stmts) no_stmts) no_stmts) (If (And (with_last es b)) ss no_stmts)
keeps_joined es b ss n = record {
  parts = λ r h.
      let inner = h.1.1.1.0.0.1 in
      let outer = h.1.1.0 in
      ((inner.0.0, h.0.1), ((refl, (no_first ss, tt)), ((follows-last es b outer.0 n, (tt, (answer-last es b outer.1.1.0 inner.1.0.0, reduced-last r es b outer.1.1.1 inner.1.1.0))), (inner.1.1.1.0, tt))));
  clear = λ ks h. let inner = h.1.0.0 in (clear-last ks es b h.0 inner.0, (inner.1.0, tt));
}
