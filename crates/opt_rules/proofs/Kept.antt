-- Nodes at which no rule can fire, of whatever kind else.
use Rattle.std.proofs.Common.{◌≡◌, Bool, true, false, List, None, refl, sym, ◌∙◌}
use Rattle.ast_types.specs.declared.expr.Expr as declared_expr
use Rattle.ast_types.specs.declared.stmt.Stmt as declared_stmt
use Rattle.theory_meaning.specs.Engine.{Engine}
use Rattle.theory_meaning.specs.Tree.{Callee, Expr, InterpolatedString, ArrayOf, MapOf, Variable, BlockExpr, FnCall, Dot, Index, And, Or, Coalesce, Exprs, Stmt, If, Switch, While, Assignment, Block, TryCatch, ExprStmt, FnCallStmt, Share}
use Rattle.ast_types.proofs.Cases.{ExprCase, interpolated_string_case, array_case, map_case, variable_case, braces_case, call_case, dot_case, index_case, and_case, or_case, coalesce_case, StmtCase, if_case, switch_case, while_case, assignment_case, block_case, try_catch_case, expression_case, call_statement_case, share_case}
use Rattle.theory_rewriting.specs.Context.{Context}
use Rattle.theory_rewriting.specs.Known.{Known}
use Rattle.theory_rewriting.specs.Rules as rule
use Rattle.theory_rewriting.specs.Rules.{ExprRule, StmtRule}
use Rattle.theory_rewriting.specs.Steps.{Place, Anywhere, AsBase, AsGuard, Progress, NoExprRule, NoStmtRule, StmtKept}
use Rattle.opt_base.specs.NodeSteps.{ExprStep}
use Rattle.opt_base.specs.Standing.{may_stand}
use Rattle.ast_types.proofs.OtherKinds.{NoArray, NoBraces, NoCall, NoVariable, NoAnd, NoOr, NoCoalesce, NoDot, NoIndex, NoText, NoMap, NoIf, NoBlock, NoExpression, NoCallStatement, NoWhile, NoAssignment, NoTry, NoSwitch, NoShare}
use Rattle.opt_base.proofs.Stepping.{expr_stays, stmt_stays}
use Rattle.opt_rules.specs.Settled.{known_value, is_call_statement, is_settled, is_settled_in_braces}

pub others_stay : (p : Place) {x : declared_expr.Expr} {e : Expr} → ExprCase x e → NoBraces x → is_settled p e ≡ true
others_stay p (braces_case b) h = absurd (h b refl)
others_stay p _ h = refl

pub settled_in_braces : (p : Place) {x : declared_stmt.Stmt} {s : Stmt} → StmtCase x s → NoExpression x → NoCallStatement x → is_settled_in_braces p s ≡ true
settled_in_braces p (expression_case e) h i = absurd (h e refl)
settled_in_braces p (call_statement_case c q) h i = absurd (i c q refl)
settled_in_braces p _ h i = refl

pub no_call_statement : {x : declared_stmt.Stmt} {s : Stmt} → StmtCase x s → NoCallStatement x → is_call_statement s ≡ false
no_call_statement (call_statement_case c q) h = absurd (h c q refl)
no_call_statement _ h = refl

-- a call is neither a place nor a literal unit
pub call_stands : (p : Place) (c : Callee) (es : Exprs) → may_stand p (FnCall c es) ≡ true
call_stands Anywhere c es = refl
call_stands AsBase c es = refl
call_stands AsGuard c es = refl

-- the kinds that have a rule
abbrev has_expr_rules : Expr → Bool
has_expr_rules (InterpolatedString es) = true
has_expr_rules (ArrayOf es) = true
has_expr_rules (MapOf ps template) = true
has_expr_rules (Variable ns x) = true
has_expr_rules (BlockExpr ss) = true
has_expr_rules (FnCall c es) = true
has_expr_rules (Dot f l e) = true
has_expr_rules (Index f l e) = true
has_expr_rules (And es) = true
has_expr_rules (Or es) = true
has_expr_rules (Coalesce es) = true
has_expr_rules _ = false

expr_ruled : {k : Context} {e e' : Expr} → ExprRule k e e' → has_expr_rules e ≡ true
expr_ruled (rule.array_of_constants h) = refl
expr_ruled _ = refl

abbrev has_stmt_rules : Stmt → Bool
has_stmt_rules (If e a b) = true
has_stmt_rules (Switch e as' t) = true
has_stmt_rules (While e b) = true
has_stmt_rules (Assignment op l e) = true
has_stmt_rules (Block ss) = true
has_stmt_rules (TryCatch x a b) = true
has_stmt_rules (ExprStmt e) = true
has_stmt_rules (FnCallStmt c es) = true
has_stmt_rules (Share xs) = true
has_stmt_rules _ = false

stmt_ruled : {k : Context} {w : Bool} {x x' : Stmt} → StmtRule k w x x' → has_stmt_rules x ≡ true
stmt_ruled rule.if_without_blocks = refl
stmt_ruled _ = refl

no_expr_rule : {k : Context} (p : Place) (e : Expr) → has_expr_rules e ≡ false → NoExprRule k p e
no_expr_rule p e h = λ e' q m. let z : true ≡ false = sym (expr_ruled q) ∙ h in cc

no_stmt_rule : {k : Context} (x : Stmt) → has_stmt_rules x ≡ false → NoStmtRule k x
no_stmt_rule x h = λ w x' q. let z : true ≡ false = sym (stmt_ruled q) ∙ h in cc

-- a whole expression of none of these kinds
pub nothing_left : {r : Engine} {p : Place} {s : Progress} {x : declared_expr.Expr} {e : Expr} → ExprCase x e → NoCall x → NoVariable x → NoDot x → NoIndex x → NoAnd x → NoOr x → NoCoalesce x → NoBraces x → NoArray x → NoMap x → NoText x → ExprStep false r p s s e e
nothing_left (call_case c p) na nb nc nd ne nf ng nh ni nj nk = absurd (na c p refl)
nothing_left (variable_case v i p) na nb nc nd ne nf ng nh ni nj nk = absurd (nb v i p refl)
nothing_left (dot_case b k p) na nb nc nd ne nf ng nh ni nj nk = absurd (nc b k p refl)
nothing_left (index_case b k p) na nb nc nd ne nf ng nh ni nj nk = absurd (nd b k p refl)
nothing_left (and_case es p) na nb nc nd ne nf ng nh ni nj nk = absurd (ne es p refl)
nothing_left (or_case es p) na nb nc nd ne nf ng nh ni nj nk = absurd (nf es p refl)
nothing_left (coalesce_case es p) na nb nc nd ne nf ng nh ni nj nk = absurd (ng es p refl)
nothing_left (braces_case b) na nb nc nd ne nf ng nh ni nj nk = absurd (nh b refl)
nothing_left (array_case es p) na nb nc nd ne nf ng nh ni nj nk = absurd (ni es p refl)
nothing_left (map_case m p) na nb nc nd ne nf ng nh ni nj nk = absurd (nj m p refl)
nothing_left (interpolated_string_case es p) na nb nc nd ne nf ng nh ni nj nk = absurd (nk es p refl)
nothing_left {p = p} {e = e} _ na nb nc nd ne nf ng nh ni nj nk = expr_stays tt refl (λ i. refl) (λ n. no_expr_rule p e refl)

-- and a statement
pub no_rule : {r : Engine} {t : Progress} {x : declared_stmt.Stmt} {s : Stmt} → StmtCase x s → NoCallStatement x → NoIf x → NoWhile x → NoSwitch x → NoExpression x → NoBlock x → NoTry x → NoAssignment x → NoShare x → StmtKept r t t s s
no_rule (call_statement_case c p) na nb nc nd ne nf ng nh ni = absurd (na c p refl)
no_rule (if_case f p) na nb nc nd ne nf ng nh ni = absurd (nb f p refl)
no_rule (while_case f p) na nb nc nd ne nf ng nh ni = absurd (nc f p refl)
no_rule (switch_case b p) na nb nc nd ne nf ng nh ni = absurd (nd b p refl)
no_rule (expression_case e) na nb nc nd ne nf ng nh ni = absurd (ne e refl)
no_rule (block_case b) na nb nc nd ne nf ng nh ni = absurd (nf b refl)
no_rule (try_catch_case f p) na nb nc nd ne nf ng nh ni = absurd (ng f p refl)
no_rule (assignment_case v) na nb nc nd ne nf ng nh ni = absurd (nh v refl)
no_rule (share_case xs) na nb nc nd ne nf ng nh ni = absurd (ni xs refl)
no_rule {s = s} _ na nb nc nd ne nf ng nh ni = stmt_stays tt (no_stmt_rule s refl)
