-- What stands below a declared node is what the theory has below its tree.
use Rattle.std.proofs.Common.{◌≡◌, ℕ, zero, suc, List, [], ◌∷◌, ◌++◌, map, Option, Some, None, refl, sym, ap, ◌∙◌}
use Rattle.std.proofs.lemmas.List.{map-append}
use Rattle.base_tokens.specs.declared.ident.Ident.{Ident}
use Rattle.ast_types.specs.declared.expr.BinaryExpr.{BinaryExpr}
use Rattle.ast_types.specs.declared.expr.Expr as declared_expr
use Rattle.ast_types.specs.declared.stmt.Stmt as declared_stmt
use Rattle.theory_meaning.specs.Tree.{Expr, Stmt}
use Rattle.theory_meaning.specs.Walk.{OfExpr, OfStmt, LoopBody, arm_at, arms_at, listed, over_arms, over_exprs, over_maybe, over_pairs, over_stmts}
use Rattle.ast_types.specs.Reading.{arms_of, cases_of, expr_of, expressions_of, exprs_of, maybe_of, pairs_of, stmt_of, stmts_of, subject_of, table_of}
use Rattle.ast_types.proofs.Cases as cases
use Rattle.ast_types.proofs.Cases.{ExprCase, StmtCase, expr_cases, stmt_cases}
use Rattle.rhai_ast.specs.Children.{Child, anywhere, children, one_step, placed_at}
use Rattle.rhai_ast.specs.Left.{all_meant, meant}
use Rattle.rhai_ast.specs.Nodes.{node_of}
use Rattle.rhai_ast.specs.declared.walker.node.ASTNode.{ASTNode}
use Rattle.rhai_ast.specs.declared.walker.node.ASTNode.TheVariants as node
use Rattle.rhai_ast.specs.Standing as standing
use Rattle.rhai_ast.specs.Standing.{Declared, DeclaredExpr, DeclaredStmt, Standing, below, body_standing, declared_of, expr_below, expr_standing, exprs_standing, listed_standing, maybe_standing, members_standing, sides_standing, statements_standing, stmt_below, tree_of}

-- ---- lists

exprs_meant : (es : List declared_expr.Expr) → over_exprs one_step (exprs_of es) ≡ all_meant (exprs_standing es)
exprs_meant [] = refl
exprs_meant (e ∷ es) = ap (λ cs. anywhere (OfExpr (expr_of e)) ∷ cs) (exprs_meant es)

members_meant : (ms : List (Ident × declared_expr.Expr)) → over_pairs one_step (pairs_of ms) ≡ all_meant (members_standing ms)
members_meant [] = refl
members_meant (m ∷ ms) = ap (λ cs. anywhere (OfExpr (expr_of m.1)) ∷ cs) (members_meant ms)

pub statements_meant : (ss : List declared_stmt.Stmt) → over_stmts one_step (stmts_of ss) ≡ all_meant (statements_standing ss)
statements_meant [] = refl
statements_meant (s ∷ ss) = ap (λ cs. anywhere (OfStmt (stmt_of s)) ∷ cs) (statements_meant ss)

body_meant : (ss : List declared_stmt.Stmt) → map (placed_at LoopBody) (over_stmts one_step (stmts_of ss)) ≡ all_meant (body_standing ss)
body_meant [] = refl
body_meant (s ∷ ss) = ap (λ cs. placed_at LoopBody (anywhere (OfStmt (stmt_of s))) ∷ cs) (body_meant ss)

maybe_meant : (m : Option declared_expr.Expr) → over_maybe one_step (maybe_of m) ≡ all_meant (maybe_standing m)
maybe_meant None = refl
maybe_meant (Some e) = refl

two_meant : {as' bs : List Child} (ss ts : List Standing) → as' ≡ all_meant ss → bs ≡ all_meant ts → as' ++ bs ≡ all_meant (ss ++ ts)
two_meant {as'} {bs} ss ts p q = ap (λ (cs : List Child). cs ++ bs) p ∙ ap (λ (cs : List Child). all_meant ss ++ cs) q ∙ sym (map-append meant ss ts)

blocks_meant : (ss ts : List declared_stmt.Stmt) → over_stmts one_step (stmts_of ss) ++ over_stmts one_step (stmts_of ts) ≡ all_meant (statements_standing ss ++ statements_standing ts)
blocks_meant ss ts = two_meant (statements_standing ss) (statements_standing ts) (statements_meant ss) (statements_meant ts)

arm_meant : (bs : List BinaryExpr) (i : ℕ) → arm_at [] (over_arms one_step (arms_of bs)) i ≡ all_meant (arm_at [] (map sides_standing bs) i)
arm_meant [] i = refl
arm_meant (b ∷ bs) zero = refl
arm_meant (b ∷ bs) (suc i) = arm_meant bs i

listed_meant : (bs : List BinaryExpr) (is : List ℕ) → arms_at [] (λ cs ds. cs ++ ds) (over_arms one_step (arms_of bs)) is ≡ all_meant (listed_standing bs is)
listed_meant bs [] = refl
listed_meant bs (i ∷ is) = two_meant (arm_at [] (map sides_standing bs) i) (listed_standing bs is) (arm_meant bs i) (listed_meant bs is)

-- ---- nodes

by : {cs : List Child} {ss ts : List Standing} → ts ≡ ss → cs ≡ all_meant ss → cs ≡ all_meant ts
by {cs} {ss} {ts} e p = p ∙ ap all_meant (sym e)

expr_case : (e : declared_expr.Expr) (t : Expr) → ExprCase e t → children (OfExpr t) ≡ all_meant (expr_below e)
expr_case _ _ (cases.dynamic_constant_case v p) = by (standing.expr_below-DynamicConstant v p) refl
expr_case _ _ (cases.bool_constant_case b p) = by (standing.expr_below-BoolConstant b p) refl
expr_case _ _ (cases.integer_constant_case n p) = by (standing.expr_below-IntegerConstant n p) refl
expr_case _ _ (cases.float_constant_case x p) = by (standing.expr_below-FloatConstant x p) refl
expr_case _ _ (cases.char_constant_case c p) = by (standing.expr_below-CharConstant c p) refl
expr_case _ _ (cases.string_constant_case t p) = by (standing.expr_below-StringConstant t p) refl
expr_case _ _ (cases.interpolated_string_case xs p) = by (standing.expr_below-InterpolatedString xs p) (exprs_meant xs)
expr_case _ _ (cases.array_case xs p) = by (standing.expr_below-Array xs p) (exprs_meant xs)
expr_case _ _ (cases.map_case m p) = by (standing.expr_below-Map m p) (members_meant m.0)
expr_case _ _ (cases.unit_case p) = by (standing.expr_below-Unit p) refl
expr_case _ _ (cases.variable_case x short p) = by (standing.expr_below-Variable x short p) refl
expr_case _ _ (cases.this_ptr_case p) = by (standing.expr_below-ThisPtr p) refl
expr_case _ _ (cases.property_case x p) = by (standing.expr_below-Property x p) refl
expr_case _ _ (cases.method_call_case c p) = by (standing.expr_below-MethodCall c p) (exprs_meant c.args)
expr_case _ _ (cases.braces_case b) = by (standing.expr_below-Stmt b) (statements_meant b.block)
expr_case _ _ (cases.call_case c p) = by (standing.expr_below-FnCall c p) (exprs_meant c.args)
expr_case _ _ (cases.dot_case x k p) = by (standing.expr_below-Dot x k p) refl
expr_case _ _ (cases.index_case x k p) = by (standing.expr_below-Index x k p) refl
expr_case _ _ (cases.and_case xs p) = by (standing.expr_below-And xs p) (exprs_meant xs)
expr_case _ _ (cases.or_case xs p) = by (standing.expr_below-Or xs p) (exprs_meant xs)
expr_case _ _ (cases.coalesce_case xs p) = by (standing.expr_below-Coalesce xs p) (exprs_meant xs)

-- an expression, then what stands after it
first_meant : {cs : List Child} (e : declared_expr.Expr) (ss : List Standing) → cs ≡ all_meant ss → anywhere (OfExpr (expr_of e)) ∷ cs ≡ all_meant (expr_standing e ∷ ss)
first_meant e ss p = ap (λ cs. anywhere (OfExpr (expr_of e)) ∷ cs) p

stmt_case : (s : declared_stmt.Stmt) (t : Stmt) → StmtCase s t → children (OfStmt t) ≡ all_meant (stmt_below s)
stmt_case _ _ (cases.noop_case p) = by (standing.stmt_below-Noop p) refl
stmt_case _ _ (cases.if_case x p) = by (standing.stmt_below-If x p) (first_meant x.expr (statements_standing x.body.block ++ statements_standing x.branch.block) (blocks_meant x.body.block x.branch.block))
stmt_case _ _ (cases.switch_case x p) = by (standing.stmt_below-Switch x p) (first_meant (subject_of x) (listed_standing (expressions_of (cases_of x)) (listed (table_of (cases_of x)))) (listed_meant (expressions_of (cases_of x)) (listed (table_of (cases_of x)))))
stmt_case _ _ (cases.while_case x p) = by (standing.stmt_below-While x p) (first_meant x.expr (body_standing x.body.block) (body_meant x.body.block))
stmt_case _ _ (cases.do_case x k p) = by (standing.stmt_below-Do x k p) (first_meant x.expr (body_standing x.body.block) (body_meant x.body.block))
stmt_case _ _ (cases.for_case x p) = by (standing.stmt_below-For x p) (first_meant x.2.expr (body_standing x.2.body.block) (body_meant x.2.body.block))
stmt_case _ _ (cases.var_case x k p) = by (standing.stmt_below-Var x k p) refl
stmt_case _ _ (cases.assignment_case x) = by (standing.stmt_below-Assignment x) refl
stmt_case _ _ (cases.call_statement_case c p) = by (standing.stmt_below-FnCall c p) (exprs_meant c.args)
stmt_case _ _ (cases.block_case b) = by (standing.stmt_below-Block b) (statements_meant b.block)
stmt_case _ _ (cases.try_catch_case x p) = by (standing.stmt_below-TryCatch x p) (blocks_meant x.body.block x.branch.block)
stmt_case _ _ (cases.expression_case e) = by (standing.stmt_below-Expr e) refl
stmt_case _ _ (cases.break_loop_case m k p) = by (standing.stmt_below-BreakLoop m k p) (maybe_meant m)
stmt_case _ _ (cases.return_case m k p) = by (standing.stmt_below-Return m k p) (maybe_meant m)
stmt_case _ _ (cases.import_case x p) = by (standing.stmt_below-Import x p) refl
stmt_case _ _ (cases.export_case x p) = by (standing.stmt_below-Export x p) refl
stmt_case _ _ (cases.share_case xs) = by (standing.stmt_below-Share xs) refl

pub below_meant : (n : Declared) → children (tree_of n) ≡ all_meant (below n)
below_meant (DeclaredExpr e) = expr_case e (expr_of e) (expr_cases e)
below_meant (DeclaredStmt s) = stmt_case s (stmt_of s) (stmt_cases s)

-- ---- what is lent

pub tree_same : (n : ASTNode) → tree_of (declared_of n) ≡ node_of n
tree_same (node.Stmt s) = refl
tree_same (node.Expr e) = refl
