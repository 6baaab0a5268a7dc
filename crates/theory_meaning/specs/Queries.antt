-- What may be asked of a tree.
use Rattle.std.specs.Prelude.{ℕ, Bool, true, false, ◌&&◌, ◌||◌, List, [], ◌∷◌, ◌++◌, Option, Some, None, codes}
use Rattle.base_tokens.specs.declared.token.Token.{Token}
use Rattle.base_tokens.specs.declared.token.Token.TheVariants as token
use Rattle.rhai_base.specs.Value.{same_text, same_bool}
use Rattle.theory_meaning.specs.Constants.{is_constant, are_constant}
use Rattle.theory_meaning.specs.Shape.{is_none}
use Rattle.theory_meaning.specs.Tree.{Callee, SwitchTable, Expr, BoolConstant, UnitConstant, InterpolatedString, ArrayOf, MapOf, Variable, Property, BlockExpr, FnCall, And, Or, Coalesce, Exprs, no_exprs, expr, Pairs, no_pairs, pair, Arms, no_arms, arm, Stmt, Noop, If, Switch, While, Do, For, Var, FnCallStmt, Block, TryCatch, ExprStmt, BreakLoop, Return, Import, Export, Stmts, no_stmts, stmt}
use Rattle.theory_meaning.specs.Plain.{all_true}
use Rattle.theory_meaning.specs.Walk.{Node, OfStmt, over_stmts, arms_of_cases, arms_of_ranges, arm_at}

-- ---- purity

-- a condition that is literally so
abbrev pub is_literally : Bool → Expr → Bool
is_literally b (BoolConstant c) = same_bool b c
is_literally b _ = false

-- of an arm: whether its condition is pure, and whether its answer is
abbrev pub ArmPurity : Type 0
ArmPurity = Bool × Bool

abbrev pub is_pure_arm : ArmPurity → Bool
is_pure_arm a = a.0 && a.1

-- an index past the table names no arm, and asks nothing
abbrev pub listed_arms_are_pure : List ArmPurity → List ℕ → Bool
listed_arms_are_pure as' [] = true
listed_arms_are_pure as' (i ∷ is) = is_pure_arm (arm_at (true, true) as' i) && listed_arms_are_pure as' is

-- the default names an arm, with a pure answer
abbrev pub answer_is_pure : List ArmPurity → ℕ → Bool
answer_is_pure as' i = (arm_at (false, false) as' i).1

abbrev pub default_is_pure : List ArmPurity → Option ℕ → Bool
default_is_pure as' None = false
default_is_pure as' (Some i) = answer_is_pure as' i

abbrev pub table_is_pure : List ArmPurity → SwitchTable → Bool
table_is_pure as' t = listed_arms_are_pure as' (arms_of_cases t.cases ++ arms_of_ranges t.ranges) && default_is_pure as' t.default

-- a run of it calls nothing, throws nothing and changes nothing
abbrev mutual
  pub is_pure_expr : Expr → Bool
  is_pure_expr (InterpolatedString es) = are_pure_exprs es
  is_pure_expr (ArrayOf es) = are_pure_exprs es
  is_pure_expr (MapOf ps template) = are_pure_pairs ps
  is_pure_expr (BlockExpr ss) = are_pure ss
  is_pure_expr (And es) = are_pure_exprs es
  is_pure_expr (Or es) = are_pure_exprs es
  is_pure_expr (Coalesce es) = are_pure_exprs es
  is_pure_expr e = is_constant e

  pub are_pure_exprs : Exprs → Bool
  are_pure_exprs no_exprs = true
  are_pure_exprs (expr e es) = is_pure_expr e && are_pure_exprs es

  pub are_pure_pairs : Pairs → Bool
  are_pure_pairs no_pairs = true
  are_pure_pairs (pair k e ps) = is_pure_expr e && are_pure_pairs ps

  pub arm_purities : Arms → List ArmPurity
  arm_purities no_arms = []
  arm_purities (arm c a as') = (is_pure_expr c, is_pure_expr a) ∷ arm_purities as'

  pub is_pure : Stmt → Bool
  is_pure Noop = true
  is_pure (If c a b) = is_pure_expr c && (are_pure a && are_pure b)
  is_pure (Switch e as' t) = is_pure_expr e && table_is_pure (arm_purities as') t
  is_pure (While e b) = is_literally false e
  is_pure (Do negated exported e b) = is_literally negated e && are_pure b
  is_pure (For x i e b) = is_pure_expr e && are_pure b
  is_pure (Block ss) = are_pure ss
  is_pure (TryCatch x a b) = is_pure_expr x && (are_pure a && are_pure b)
  is_pure (ExprStmt e) = is_pure_expr e
  is_pure _ = false

  pub are_pure : Stmts → Bool
  are_pure no_stmts = true
  are_pure (stmt s ss) = is_pure s && are_pure ss

-- pure but for what its list takes away
abbrev mutual
  pub is_internally_pure : Stmt → Bool
  is_internally_pure (Var constant exported x e) = is_pure_expr e
  is_internally_pure (ExprStmt e) = is_internally_pure_expr e
  is_internally_pure (Import e x) = is_pure_expr e
  is_internally_pure (Export x y) = true
  is_internally_pure s = is_pure s

  pub is_internally_pure_expr : Expr → Bool
  is_internally_pure_expr (BlockExpr ss) = are_internally_pure ss
  is_internally_pure_expr e = is_pure_expr e

  pub are_internally_pure : Stmts → Bool
  are_internally_pure no_stmts = true
  are_internally_pure (stmt s ss) = is_internally_pure s && are_internally_pure ss

-- no `export`, and no declaration that is exported
abbrev pub is_no_export : Node → Bool
is_no_export (OfStmt (Var constant true x e)) = false
is_no_export (OfStmt (Export x y)) = false
is_no_export n = true

-- at any depth
abbrev pub exports_nothing : Stmts → Bool
exports_nothing ss = over_stmts (all_true is_no_export) ss

-- ---- dependence on the list around

abbrev pub is_eval : Callee → Bool
is_eval c = is_none c.namespace && same_text c.name (codes "eval")

-- whether a statement belongs to the list in which it stands, as it may add to the scope there
abbrev mutual
  pub is_block_dependent : Stmt → Bool
  is_block_dependent (Var constant exported x e) = true
  is_block_dependent (Import e x) = true
  is_block_dependent (Export x y) = true
  is_block_dependent (FnCallStmt c es) = is_eval c
  is_block_dependent (ExprStmt e) = is_dependent_expr e
  is_block_dependent _ = false

  pub is_dependent_expr : Expr → Bool
  is_dependent_expr (BlockExpr ss) = are_all_dependent ss
  is_dependent_expr (FnCall c es) = is_eval c
  is_dependent_expr _ = false

  pub are_all_dependent : Stmts → Bool
  are_all_dependent no_stmts = true
  are_all_dependent (stmt s ss) = is_block_dependent s && are_all_dependent ss

abbrev pub is_any_dependent : Stmts → Bool
is_any_dependent no_stmts = false
is_any_dependent (stmt s ss) = is_block_dependent s || is_any_dependent ss

-- ---- kinds

abbrev pub returns_value : Stmt → Bool
returns_value (If c a b) = true
returns_value (Switch e as' t) = true
returns_value (Block ss) = true
returns_value (ExprStmt e) = true
returns_value (FnCallStmt c es) = true
returns_value _ = false

-- no semicolon has to follow
abbrev pub is_self_terminated : Stmt → Bool
is_self_terminated (If c a b) = true
is_self_terminated (Switch e as' t) = true
is_self_terminated (While e b) = true
is_self_terminated (For x i e b) = true
is_self_terminated (Block ss) = true
is_self_terminated (TryCatch x a b) = true
is_self_terminated _ = false

abbrev pub is_control_flow_break : Stmt → Bool
is_control_flow_break (Return throws exported m) = true
is_control_flow_break (BreakLoop breaks exported m) = true
is_control_flow_break _ = false

abbrev pub is_noop : Stmt → Bool
is_noop Noop = true
is_noop _ = false

abbrev pub is_unit : Expr → Bool
is_unit UnitConstant = true
is_unit _ = false

-- the tokens that may follow an expression
abbrev pub follows_name : Token → Bool
follows_name token.LeftParen = true
follows_name token.Unit = true
follows_name token.Bang = true
follows_name token.DoubleColon = true
follows_name _ = false

abbrev pub opens_call : Token → Bool
opens_call token.LeftParen = true
opens_call _ = false

abbrev pub goes_into : Token → Bool
goes_into token.Period = true
goes_into token.Elvis = true
goes_into token.LeftBracket = true
goes_into token.QuestionBracket = true
goes_into _ = false

abbrev pub may_follow : Token → Expr → Bool
may_follow t (Variable ns x) = follows_name t
may_follow t (Property p) = opens_call t
may_follow t _ = false

abbrev pub is_valid_postfix : Token → Expr → Bool
is_valid_postfix t e = goes_into t || may_follow t e

-- whether all arguments of a call are constant
abbrev pub constant_args : Exprs → Bool
constant_args es = are_constant es
