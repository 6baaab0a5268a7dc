-- A node that is put somewhere else is read as the same tree, and stands there.
use Rattle.std.proofs.Common.{◌≡◌, List, [], ◌∷◌, map, Option, refl, sym, ap, ◌∙◌}
use Rattle.base_tokens.specs.declared.position.Position.{Position}
use Rattle.base_tokens.specs.declared.ident.Ident.{Ident}
use Rattle.std.specs.declared.num.NonZeroUsize.{NonZeroUsize}
use Rattle.ast_types.specs.Defaults.{nowhere}
use Rattle.ast_types.specs.declared.expr.Expr as declared_expr
use Rattle.ast_types.specs.declared.expr.Expr.TheOpen as open_one
use Rattle.ast_types.specs.declared.expr.Expr.TheViews as views
use Rattle.ast_types.specs.declared.expr.Expr.TheVariants as expr_kind
use Rattle.ast_types.specs.declared.stmt.Stmt.TheVariants as stmt_kind
use Rattle.ast_types.specs.declared.stmt.Stmt as declared_stmt
use Rattle.ast_types.specs.Positions as positions
use Rattle.ast_types.specs.Positions.{ExprLayer, StmtLayer, position_of}
use Rattle.ast_types.specs.Reading as reading
use Rattle.ast_types.specs.Reading.{expr_of, shared_names, stmt_of}
use Rattle.theory_meaning.specs.Tree.{ExprStmt, Share}
use Rattle.ast_nodes.specs.Placed.{placed, placed_in, stmt_placed, stmt_placed_in, with_span, name_placed}

-- ---- it is read as the same tree

same_in : (p : Position) (x : ExprLayer) → expr_of (placed_in p x) ≡ expr_of (views.roll-Expr x)
same_in p (open_one.DynamicConstant v q) = reading.expr_of-DynamicConstant v p ∙ sym (reading.expr_of-DynamicConstant v q) ∙ ap expr_of (sym (expr_kind.rolls-DynamicConstant v q))
same_in p (open_one.BoolConstant b q) = reading.expr_of-BoolConstant b p ∙ sym (reading.expr_of-BoolConstant b q) ∙ ap expr_of (sym (expr_kind.rolls-BoolConstant b q))
same_in p (open_one.IntegerConstant n q) = reading.expr_of-IntegerConstant n p ∙ sym (reading.expr_of-IntegerConstant n q) ∙ ap expr_of (sym (expr_kind.rolls-IntegerConstant n q))
same_in p (open_one.FloatConstant x q) = reading.expr_of-FloatConstant x p ∙ sym (reading.expr_of-FloatConstant x q) ∙ ap expr_of (sym (expr_kind.rolls-FloatConstant x q))
same_in p (open_one.CharConstant c q) = reading.expr_of-CharConstant c p ∙ sym (reading.expr_of-CharConstant c q) ∙ ap expr_of (sym (expr_kind.rolls-CharConstant c q))
same_in p (open_one.StringConstant t q) = reading.expr_of-StringConstant t p ∙ sym (reading.expr_of-StringConstant t q) ∙ ap expr_of (sym (expr_kind.rolls-StringConstant t q))
same_in p (open_one.InterpolatedString xs q) = reading.expr_of-InterpolatedString xs p ∙ sym (reading.expr_of-InterpolatedString xs q) ∙ ap expr_of (sym (expr_kind.rolls-InterpolatedString xs q))
same_in p (open_one.Array xs q) = reading.expr_of-Array xs p ∙ sym (reading.expr_of-Array xs q) ∙ ap expr_of (sym (expr_kind.rolls-Array xs q))
same_in p (open_one.Map m q) = reading.expr_of-Map m p ∙ sym (reading.expr_of-Map m q) ∙ ap expr_of (sym (expr_kind.rolls-Map m q))
same_in p (open_one.Unit q) = reading.expr_of-Unit p ∙ sym (reading.expr_of-Unit q) ∙ ap expr_of (sym (expr_kind.rolls-Unit q))
same_in p (open_one.Variable x short q) = reading.expr_of-Variable x short p ∙ sym (reading.expr_of-Variable x short q) ∙ ap expr_of (sym (expr_kind.rolls-Variable x short q))
same_in p (open_one.ThisPtr q) = reading.expr_of-ThisPtr p ∙ sym (reading.expr_of-ThisPtr q) ∙ ap expr_of (sym (expr_kind.rolls-ThisPtr q))
same_in p (open_one.Property x q) = reading.expr_of-Property x p ∙ sym (reading.expr_of-Property x q) ∙ ap expr_of (sym (expr_kind.rolls-Property x q))
same_in p (open_one.MethodCall c q) = reading.expr_of-MethodCall c p ∙ sym (reading.expr_of-MethodCall c q) ∙ ap expr_of (sym (expr_kind.rolls-MethodCall c q))
same_in p (open_one.Stmt b) = reading.expr_of-Stmt (with_span (record { start = p; end = nowhere }) b) ∙ sym (reading.expr_of-Stmt b) ∙ ap expr_of (sym (expr_kind.rolls-Stmt b))
same_in p (open_one.Expr::FnCall c q) = reading.expr_of-FnCall c p ∙ sym (reading.expr_of-FnCall c q) ∙ ap expr_of (sym (expr_kind.rolls-FnCall c q))
same_in p (open_one.Dot x k q) = reading.expr_of-Dot x k p ∙ sym (reading.expr_of-Dot x k q) ∙ ap expr_of (sym (expr_kind.rolls-Dot x k q))
same_in p (open_one.Index x k q) = reading.expr_of-Index x k p ∙ sym (reading.expr_of-Index x k q) ∙ ap expr_of (sym (expr_kind.rolls-Index x k q))
same_in p (open_one.And xs q) = reading.expr_of-And xs p ∙ sym (reading.expr_of-And xs q) ∙ ap expr_of (sym (expr_kind.rolls-And xs q))
same_in p (open_one.Or xs q) = reading.expr_of-Or xs p ∙ sym (reading.expr_of-Or xs q) ∙ ap expr_of (sym (expr_kind.rolls-Or xs q))
same_in p (open_one.Coalesce xs q) = reading.expr_of-Coalesce xs p ∙ sym (reading.expr_of-Coalesce xs q) ∙ ap expr_of (sym (expr_kind.rolls-Coalesce xs q))

pub same_expr : (p : Position) (e : declared_expr.Expr) → expr_of (placed p e) ≡ expr_of e
unfolding placed
same_expr p e = same_in p (views.out-Expr e) ∙ ap expr_of (views.roll-out-Expr e)

names_stay : (p : Position) (xs : List (Ident × Option NonZeroUsize)) → shared_names (map (name_placed p) xs) ≡ shared_names xs
names_stay p [] = refl
names_stay p (x ∷ xs) = ap (λ ns. x.0.name ∷ ns) (names_stay p xs)

same_stmt_in : (p : Position) (x : StmtLayer) → stmt_of (stmt_placed_in p x) ≡ stmt_of (views.roll-Stmt x)
same_stmt_in p (open_one.Noop q) = reading.stmt_of-Noop p ∙ sym (reading.stmt_of-Noop q) ∙ ap stmt_of (sym (stmt_kind.rolls-Noop q))
same_stmt_in p (open_one.If x q) = reading.stmt_of-If x p ∙ sym (reading.stmt_of-If x q) ∙ ap stmt_of (sym (stmt_kind.rolls-If x q))
same_stmt_in p (open_one.Switch x q) = reading.stmt_of-Switch x p ∙ sym (reading.stmt_of-Switch x q) ∙ ap stmt_of (sym (stmt_kind.rolls-Switch x q))
same_stmt_in p (open_one.While x q) = reading.stmt_of-While x p ∙ sym (reading.stmt_of-While x q) ∙ ap stmt_of (sym (stmt_kind.rolls-While x q))
same_stmt_in p (open_one.Do x k q) = reading.stmt_of-Do x k p ∙ sym (reading.stmt_of-Do x k q) ∙ ap stmt_of (sym (stmt_kind.rolls-Do x k q))
same_stmt_in p (open_one.For x q) = reading.stmt_of-For x p ∙ sym (reading.stmt_of-For x q) ∙ ap stmt_of (sym (stmt_kind.rolls-For x q))
same_stmt_in p (open_one.Var x k q) = reading.stmt_of-Var x k p ∙ sym (reading.stmt_of-Var x k q) ∙ ap stmt_of (sym (stmt_kind.rolls-Var x k q))
same_stmt_in p (open_one.Assignment x) = reading.stmt_of-Assignment (record x.0 { pos = p }, x.1) ∙ sym (reading.stmt_of-Assignment x) ∙ ap stmt_of (sym (stmt_kind.rolls-Assignment x))
same_stmt_in p (open_one.Stmt::FnCall c q) = reading.stmt_of-FnCall c p ∙ sym (reading.stmt_of-FnCall c q) ∙ ap stmt_of (sym (stmt_kind.rolls-FnCall c q))
same_stmt_in p (open_one.Block b) = reading.stmt_of-Block (with_span (record { start = p; end = b.span.end }) b) ∙ sym (reading.stmt_of-Block b) ∙ ap stmt_of (sym (stmt_kind.rolls-Block b))
same_stmt_in p (open_one.TryCatch x q) = reading.stmt_of-TryCatch x p ∙ sym (reading.stmt_of-TryCatch x q) ∙ ap stmt_of (sym (stmt_kind.rolls-TryCatch x q))
same_stmt_in p (open_one.Expr e) = reading.stmt_of-Expr (placed p e) ∙ ap ExprStmt (same_expr p e) ∙ sym (reading.stmt_of-Expr e) ∙ ap stmt_of (sym (stmt_kind.rolls-Expr e))
same_stmt_in p (open_one.BreakLoop e k q) = reading.stmt_of-BreakLoop e k p ∙ sym (reading.stmt_of-BreakLoop e k q) ∙ ap stmt_of (sym (stmt_kind.rolls-BreakLoop e k q))
same_stmt_in p (open_one.Return e k q) = reading.stmt_of-Return e k p ∙ sym (reading.stmt_of-Return e k q) ∙ ap stmt_of (sym (stmt_kind.rolls-Return e k q))
same_stmt_in p (open_one.Import x q) = reading.stmt_of-Import x p ∙ sym (reading.stmt_of-Import x q) ∙ ap stmt_of (sym (stmt_kind.rolls-Import x q))
same_stmt_in p (open_one.Export x q) = reading.stmt_of-Export x p ∙ sym (reading.stmt_of-Export x q) ∙ ap stmt_of (sym (stmt_kind.rolls-Export x q))
same_stmt_in p (open_one.Share xs) = reading.stmt_of-Share (map (name_placed p) xs) ∙ ap Share (names_stay p xs) ∙ sym (reading.stmt_of-Share xs) ∙ ap stmt_of (sym (stmt_kind.rolls-Share xs))

pub same_stmt : (p : Position) (s : declared_stmt.Stmt) → stmt_of (stmt_placed p s) ≡ stmt_of s
unfolding stmt_placed
same_stmt p s = same_stmt_in p (views.out-Stmt s) ∙ ap stmt_of (views.roll-out-Stmt s)

-- ---- it stands there

stands : (e : declared_expr.Expr) {x : ExprLayer} → views.out-Expr e ≡ x → position_of e ≡ positions.position_in x
stands e h = positions.position_of-is e ∙ ap positions.position_in h

there_in : (p : Position) (x : ExprLayer) → position_of (placed_in p x) ≡ p
there_in p (open_one.DynamicConstant v q) = stands _ (positions.opens-Expr-DynamicConstant v p)
there_in p (open_one.BoolConstant b q) = stands _ (positions.opens-Expr-BoolConstant b p)
there_in p (open_one.IntegerConstant n q) = stands _ (positions.opens-Expr-IntegerConstant n p)
there_in p (open_one.FloatConstant x q) = stands _ (positions.opens-Expr-FloatConstant x p)
there_in p (open_one.CharConstant c q) = stands _ (positions.opens-Expr-CharConstant c p)
there_in p (open_one.StringConstant t q) = stands _ (positions.opens-Expr-StringConstant t p)
there_in p (open_one.InterpolatedString xs q) = stands _ (positions.opens-Expr-InterpolatedString xs p)
there_in p (open_one.Array xs q) = stands _ (positions.opens-Expr-Array xs p)
there_in p (open_one.Map m q) = stands _ (positions.opens-Expr-Map m p)
there_in p (open_one.Unit q) = stands _ (positions.opens-Expr-Unit p)
there_in p (open_one.Variable x short q) = stands _ (positions.opens-Expr-Variable x short p)
there_in p (open_one.ThisPtr q) = stands _ (positions.opens-Expr-ThisPtr p)
there_in p (open_one.Property x q) = stands _ (positions.opens-Expr-Property x p)
there_in p (open_one.MethodCall c q) = stands _ (positions.opens-Expr-MethodCall c p)
there_in p (open_one.Stmt b) = stands _ (positions.opens-Expr-Stmt (with_span (record { start = p; end = nowhere }) b))
there_in p (open_one.Expr::FnCall c q) = stands _ (positions.opens-Expr-FnCall c p)
there_in p (open_one.Dot x k q) = stands _ (positions.opens-Expr-Dot x k p)
there_in p (open_one.Index x k q) = stands _ (positions.opens-Expr-Index x k p)
there_in p (open_one.And xs q) = stands _ (positions.opens-Expr-And xs p)
there_in p (open_one.Or xs q) = stands _ (positions.opens-Expr-Or xs p)
there_in p (open_one.Coalesce xs q) = stands _ (positions.opens-Expr-Coalesce xs p)

pub placed_there : (p : Position) (e : declared_expr.Expr) → position_of (placed p e) ≡ p
unfolding placed
placed_there p e = there_in p (views.out-Expr e)

pub ruleset placing = (same_expr, same_stmt, placed_there)
