-- What may be rewritten to what: the rules, in turn and inside trees. The two flags are the dirty flag before and after.
use Rattle.std.specs.Prelude.{◌≡◌, Bool, true, false, List, Option}
use Rattle.rhai_base.specs.Value.{Text}
use Rattle.rhai_base.specs.Operators.{Operator}
use Rattle.theory_meaning.specs.Desugar.{root_of}
use Rattle.theory_meaning.specs.Queries.{is_unit}
use Rattle.theory_meaning.specs.Shape.{catch_name}
use Rattle.theory_meaning.specs.Tree.{ChainFlags, SwitchTable, Callee, Expr, InterpolatedString, ArrayOf, MapOf, MethodCall, BlockExpr, FnCall, Dot, Index, And, Or, Coalesce, Exprs, no_exprs, expr, Pairs, no_pairs, pair, MaybeExpr, no_expr, an_expr, Arms, no_arms, arm, Stmt, If, Switch, While, Do, For, Var, Assignment, Block, TryCatch, ExprStmt, FnCallStmt, BreakLoop, Return, Import, Stmts, stmt}
use Rattle.theory_rewriting.specs.Context.{Context, behind, ListKind, Inside, wanted, wanted_before, naming, naming_some, naming_catch, open_list, ListContext}
use Rattle.theory_rewriting.specs.Rules.{ExprRule, StmtRule, ListRule}
use Rattle.theory_rewriting.specs.SurelyUnit.{is_surely_unit}

mutual
  pub data ExprTo : Context → Bool → Bool → Expr → Expr → Type 0 where
    same_expr : {k : Context} {d : Bool} {e : Expr} → ExprTo k d d e e
    then_expr : {k : Context} {d d1 d2 : Bool} {e e1 e2 : Expr} → ExprTo k d d1 e e1 → ExprTo k d1 d2 e1 e2 → ExprTo k d d2 e e2
    -- a rule sets the flag
    by_expr_rule : {k : Context} {d : Bool} {e e' : Expr} → ExprRule k e e' → ExprTo k d true e e'
    in_text : {k : Context} {d d' : Bool} {es es' : Exprs} → ExprsTo k d d' es es' → ExprTo k d d' (InterpolatedString es) (InterpolatedString es')
    in_array : {k : Context} {d d' : Bool} {es es' : Exprs} → ExprsTo k d d' es es' → ExprTo k d d' (ArrayOf es) (ArrayOf es')
    in_map : {k : Context} {d d' : Bool} {ps ps' : Pairs} {template : List Text} → PairsTo k d d' ps ps' → ExprTo k d d' (MapOf ps template) (MapOf ps' template)
    in_braces : {k : Context} {d d' : Bool} {ss ss' : Stmts} → RestTo (open_list k) (Inside true) true d d' ss ss' → ExprTo k d d' (BlockExpr ss) (BlockExpr ss')
    in_call : {k : Context} {d d' : Bool} {c : Callee} {es es' : Exprs} → ExprsTo k d d' es es' → ExprTo k d d' (FnCall c es) (FnCall c es')
    -- a method call that is no step of a chain has no meaning
    in_stray_method : {k : Context} {d d' : Bool} {c : Callee} {es es' : Exprs} → ExprsTo k d d' es es' → ExprTo k d d' (MethodCall c es) (MethodCall c es')
    in_chain : {k : Context} {d d' : Bool} {e e' : Expr} → ChainTo k d d' e e' → ExprTo k d d' e e'
    in_and : {k : Context} {d d' : Bool} {es es' : Exprs} → ExprsTo k d d' es es' → ExprTo k d d' (And es) (And es')
    in_or : {k : Context} {d d' : Bool} {es es' : Exprs} → ExprsTo k d d' es es' → ExprTo k d d' (Or es) (Or es')
    in_coalesce : {k : Context} {d d' : Bool} {es es' : Exprs} → ExprsTo k d d' es es' → ExprTo k d d' (Coalesce es) (Coalesce es')

  pub data ExprsTo : Context → Bool → Bool → Exprs → Exprs → Type 0 where
    exprs_none : {k : Context} {d : Bool} → ExprsTo k d d no_exprs no_exprs
    exprs_more : {k : Context} {d d1 d2 : Bool} {e e' : Expr} {es es' : Exprs} → ExprTo k d d1 e e' → ExprsTo k d1 d2 es es' → ExprsTo k d d2 (expr e es) (expr e' es')

  pub data PairsTo : Context → Bool → Bool → Pairs → Pairs → Type 0 where
    pairs_none : {k : Context} {d : Bool} → PairsTo k d d no_pairs no_pairs
    pairs_more : {k : Context} {d d1 d2 : Bool} {x : Text} {e e' : Expr} {ps ps' : Pairs} → ExprTo k d d1 e e' → PairsTo k d1 d2 ps ps' → PairsTo k d d2 (pair x e ps) (pair x e' ps')

  -- the parts of a chain, at its outermost node
  pub data ChainTo : Context → Bool → Bool → Expr → Expr → Type 0 where
    in_dot : {k : Context} {d d1 d2 : Bool} {f : ChainFlags} {l l' r r' : Expr} → BaseTo k d d1 l l' → StepsTo k true f.breaks d1 d2 r r' → ChainTo k d d2 (Dot f l r) (Dot f l' r')
    in_index : {k : Context} {d d1 d2 : Bool} {f : ChainFlags} {l l' r r' : Expr} → BaseTo k d d1 l l' → StepsTo k false f.breaks d1 d2 r r' → ChainTo k d d2 (Index f l r) (Index f l' r')

  -- a base: a place stays that place, and what is none doesn't become one
  pub data BaseTo : Context → Bool → Bool → Expr → Expr → Type 0 where
    base : {k : Context} {d d' : Bool} {e e' : Expr} → ExprTo k d d' e e' → root_of e' ≡ root_of e → BaseTo k d d' e e'

  -- the argument of a `Dot` (dot) or of an `Index`
  pub data ArgumentTo : Context → (dot : Bool) → Bool → Bool → Expr → Expr → Type 0 where
    same_argument : {k : Context} {dot d : Bool} {e : Expr} → ArgumentTo k dot d d e e
    in_method : {k : Context} {d d' : Bool} {c : Callee} {es es' : Exprs} → ExprsTo k d d' es es' → ArgumentTo k true d d' (MethodCall c es) (MethodCall c es')
    in_brackets : {k : Context} {d d' : Bool} {e e' : Expr} → ExprTo k d d' e e' → ArgumentTo k false d d' e e'

  -- the right side of a `Dot` (dot) or of an `Index`, where the chain ends (breaks) or goes on
  pub data StepsTo : Context → (dot breaks : Bool) → Bool → Bool → Expr → Expr → Type 0 where
    same_steps : {k : Context} {dot breaks d : Bool} {e : Expr} → StepsTo k dot breaks d d e e
    last_method : {k : Context} {breaks d d' : Bool} {c : Callee} {es es' : Exprs} → ExprsTo k d d' es es' → StepsTo k true breaks d d' (MethodCall c es) (MethodCall c es')
    last_index : {k : Context} {d d' : Bool} {e e' : Expr} → ExprTo k d d' e e' → StepsTo k false true d d' e e'
    more_dot : {k : Context} {dot d d1 d2 : Bool} {f : ChainFlags} {l l' r r' : Expr} → ArgumentTo k dot d d1 l l' → StepsTo k true f.breaks d1 d2 r r' → StepsTo k dot false d d2 (Dot f l r) (Dot f l' r')
    more_index : {k : Context} {dot d d1 d2 : Bool} {f : ChainFlags} {l l' r r' : Expr} → ArgumentTo k dot d d1 l l' → StepsTo k false f.breaks d1 d2 r r' → StepsTo k dot false d d2 (Index f l r) (Index f l' r')

  -- a left side stays what it is but for the arguments in it
  pub data TargetTo : Context → Bool → Bool → Expr → Expr → Type 0 where
    same_target : {k : Context} {d : Bool} {e : Expr} → TargetTo k d d e e
    in_target : {k : Context} {d d' : Bool} {e e' : Expr} → ChainTo k d d' e e' → TargetTo k d d' e e'

  -- a guard of a `while`: what is no literal unit doesn't become one
  pub data GuardTo : Context → Bool → Bool → Expr → Expr → Type 0 where
    guard : {k : Context} {d d' : Bool} {e e' : Expr} → ExprTo k d d' e e' → is_unit e' ≡ is_unit e → GuardTo k d d' e e'

  pub data MaybeTo : Context → Bool → Bool → MaybeExpr → MaybeExpr → Type 0 where
    maybe_none : {k : Context} {d : Bool} → MaybeTo k d d no_expr no_expr
    maybe_some : {k : Context} {d d' : Bool} {e e' : Expr} → ExprTo k d d' e e' → MaybeTo k d d' (an_expr e) (an_expr e')

  -- each arm's condition and answer
  pub data ArmsTo : Context → Bool → Bool → Arms → Arms → Type 0 where
    arms_none : {k : Context} {d : Bool} → ArmsTo k d d no_arms no_arms
    arms_more : {k : Context} {d d1 d2 d3 : Bool} {c c' a a' : Expr} {as' bs : Arms} → ExprTo k d d1 c c' → ExprTo k d1 d2 a a' → ArmsTo k d2 d3 as' bs → ArmsTo k d d3 (arm c a as') (arm c' a' bs)

  -- a statement; the first test is whether its value is wanted
  pub data StmtTo : Context → Bool → Bool → Bool → Stmt → Stmt → Type 0 where
    same_stmt : {k : Context} {w d : Bool} {s : Stmt} → StmtTo k w d d s s
    then_stmt : {k : Context} {w d d1 d2 : Bool} {s s1 s2 : Stmt} → StmtTo k w d d1 s s1 → StmtTo k w d1 d2 s1 s2 → StmtTo k w d d2 s s2
    by_stmt_rule : {k : Context} {w d : Bool} {s s' : Stmt} → StmtRule k w s s' → StmtTo k w d true s s'
    in_if : {k : Context} {w d d1 d2 d3 : Bool} {e e' : Expr} {a a' b b' : Stmts} → ExprTo k d d1 e e' → RestTo (open_list k) (Inside w) true d1 d2 a a' → RestTo (open_list k) (Inside w) true d2 d3 b b' → StmtTo k w d d3 (If e a b) (If e' a' b')
    in_switch : {k : Context} {w d d1 d2 : Bool} {e e' : Expr} {as' bs : Arms} {t : SwitchTable} → ExprTo k d d1 e e' → ArmsTo k d1 d2 as' bs → StmtTo k w d d2 (Switch e as' t) (Switch e' bs t)
    in_while : {k : Context} {w d d1 d2 : Bool} {e e' : Expr} {b b' : Stmts} → GuardTo k d d1 e e' → RestTo (open_list k) (Inside false) true d1 d2 b b' → StmtTo k w d d2 (While e b) (While e' b')
    in_do : {k : Context} {w d d1 d2 negated exported : Bool} {e e' : Expr} {b b' : Stmts} → ExprTo k d d1 e e' → RestTo (open_list k) (Inside false) true d1 d2 b b' → StmtTo k w d d2 (Do negated exported e b) (Do negated exported e' b')
    -- in its body the loop name and the counter's are variables
    in_for : {k : Context} {w d d1 d2 : Bool} {x : Text} {i : Option Text} {e e' : Expr} {b b' : Stmts} → ExprTo k d d1 e e' → RestTo (open_list (naming x (naming_some i k))) (Inside false) true d1 d2 b b' → StmtTo k w d d2 (For x i e b) (For x i e' b')
    in_var : {k : Context} {w d d' constant exported : Bool} {x : Text} {e e' : Expr} → ExprTo k d d' e e' → StmtTo k w d d' (Var constant exported x e) (Var constant exported x e')
    in_assignment : {k : Context} {w d d1 d2 : Bool} {op : Option Operator} {l l' e e' : Expr} → TargetTo k d d1 l l' → ExprTo k d1 d2 e e' → StmtTo k w d d2 (Assignment op l e) (Assignment op l' e')
    in_block : {k : Context} {w d d' : Bool} {ss ss' : Stmts} → RestTo (open_list k) (Inside w) true d d' ss ss' → StmtTo k w d d' (Block ss) (Block ss')
    -- in its branch the catch name is a variable
    in_try : {k : Context} {w d d1 d2 : Bool} {x : Expr} {a a' b b' : Stmts} → RestTo (open_list k) (Inside false) true d d1 a a' → RestTo (open_list (naming_catch (catch_name x) k)) (Inside false) true d1 d2 b b' → StmtTo k w d d2 (TryCatch x a b) (TryCatch x a' b')
    in_expression : {k : Context} {w d d' : Bool} {e e' : Expr} → ExprTo k d d' e e' → StmtTo k w d d' (ExprStmt e) (ExprStmt e')
    in_call_statement : {k : Context} {w d d' : Bool} {c : Callee} {es es' : Exprs} → ExprsTo k d d' es es' → StmtTo k w d d' (FnCallStmt c es) (FnCallStmt c es')
    in_break : {k : Context} {w d d' breaks exported : Bool} {m m' : MaybeExpr} → MaybeTo k d d' m m' → StmtTo k w d d' (BreakLoop breaks exported m) (BreakLoop breaks exported m')
    in_return : {k : Context} {w d d' throws exported : Bool} {m m' : MaybeExpr} → MaybeTo k d d' m m' → StmtTo k w d d' (Return throws exported m) (Return throws exported m')
    in_import : {k : Context} {w d d' : Bool} {x : Text} {e e' : Expr} → ExprTo k d d' e e' → StmtTo k w d d' (Import e x) (Import e' x)

  -- a list; the first test is whether what stands before it is surely unit, or nothing
  pub data RestTo : ListContext → ListKind → Bool → Bool → Bool → Stmts → Stmts → Type 0 where
    same_stmts : {k : ListContext} {m : ListKind} {u d : Bool} {ss : Stmts} → RestTo k m u d d ss ss
    then_stmts : {k : ListContext} {m : ListKind} {u d d1 d2 : Bool} {ss ss1 ss2 : Stmts} → RestTo k m u d d1 ss ss1 → RestTo k m u d1 d2 ss1 ss2 → RestTo k m u d d2 ss ss2
    by_list_rule : {k : ListContext} {m : ListKind} {u d : Bool} {ss ss' : Stmts} → ListRule k.context m u ss ss' → RestTo k m u d true ss ss'
    -- the first statement, and those after it, which know what it pushes, or behind a call of `eval` nothing
    in_head : {k : ListContext} {m : ListKind} {u d d' : Bool} {s s' : Stmt} {ss : Stmts} → StmtTo k.context (wanted_before (wanted m) ss) d d' s s' → RestTo k m u d d' (stmt s ss) (stmt s' ss)
    in_tail : {k : ListContext} {m : ListKind} {u d d' : Bool} {s : Stmt} {ss ss' : Stmts} → RestTo (behind s k) m (is_surely_unit s) d d' ss ss' → RestTo k m u d d' (stmt s ss) (stmt s ss')
    -- passes that began with a clear flag, where it was set before
    flag_forgotten : {k : ListContext} {m : ListKind} {u d d' : Bool} {ss ss' : Stmts} → RestTo k m u d d' ss ss' → RestTo k m u true true ss ss'

-- a list from its start
abbrev pub StmtsTo : Context → ListKind → Bool → Bool → Stmts → Stmts → Type 0
StmtsTo k m d d' ss ss' = RestTo (open_list k) m true d d' ss ss'
