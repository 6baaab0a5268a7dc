-- Whether two trees are alike, by cases. Trees that are alike are equal, and only those.
use Rattle.std.specs.Prelude.{ℕ, ℤ, Bool, true, false, ◌&&◌, List, [], ◌∷◌, Option, Some, None, bytes_eq, ◌==◌}
use Rattle.rhai_base.specs.Value.{same, same_bool, same_int, same_text}
use Rattle.rhai_base.specs.Operators.{Operator, Plus, Minus, Multiply, Divide, Modulo, Power, ShiftLeft, ShiftRight, BitAnd, BitOr, BitXor, EqualTo, NotEqualTo, Less, Greater, LessOrEqual, GreaterOrEqual, UpTo, Through, Not, Negative, Positive}
use Rattle.theory_meaning.specs.Calls.{same_type}
use Rattle.theory_meaning.specs.Engine.{same_texts}
use Rattle.theory_meaning.specs.Tree.{CallToken, NoToken, OfOperator, OfOther, Callee, ChainFlags, PropertyNames, IntRange, ExclusiveInt, InclusiveInt, SwitchCase, SwitchRange, SwitchTable, Expr, DynamicConstant, BoolConstant, IntegerConstant, FloatConstant, CharConstant, StringConstant, UnitConstant, InterpolatedString, ArrayOf, MapOf, Variable, ThisPtr, Property, MethodCall, BlockExpr, FnCall, Dot, Index, And, Or, Coalesce, Exprs, no_exprs, expr, Pairs, no_pairs, pair, MaybeExpr, no_expr, an_expr, Arms, no_arms, arm, Stmt, Noop, If, Switch, While, Do, For, Var, Assignment, FnCallStmt, Block, TryCatch, ExprStmt, BreakLoop, Return, Import, Export, Share, Stmts, no_stmts, stmt, Function, Script}

-- ---- operators and tokens, each by a number of its own

abbrev pub number_of : Operator → ℕ
number_of Plus = 1
number_of Minus = 2
number_of Multiply = 3
number_of Divide = 4
number_of Modulo = 5
number_of Power = 6
number_of ShiftLeft = 7
number_of ShiftRight = 8
number_of BitAnd = 9
number_of BitOr = 10
number_of BitXor = 11
number_of EqualTo = 12
number_of NotEqualTo = 13
number_of Less = 14
number_of Greater = 15
number_of LessOrEqual = 16
number_of GreaterOrEqual = 17
number_of UpTo = 18
number_of Through = 19
number_of Not = 20
number_of Negative = 21
number_of Positive = 22

abbrev pub operator_number : Option Operator → ℕ
operator_number None = 0
operator_number (Some op) = number_of op

abbrev pub token_number : CallToken → ℕ
token_number OfOther = 0
token_number (OfOperator op) = number_of op
token_number NoToken = 23

-- ---- what is called, and how chains end

abbrev pub alike_callee : Callee → Callee → Bool
alike_callee a b = same_texts a.namespace b.namespace && same_text a.name b.name && same_bool a.captures b.captures && token_number a.token == token_number b.token

abbrev pub alike_flags : ChainFlags → ChainFlags → Bool
alike_flags a b = same_bool a.negated b.negated && same_bool a.breaks b.breaks && same_bool a.exported b.exported

abbrev pub alike_property : PropertyNames → PropertyNames → Bool
alike_property a b = same_text a.getter b.getter && same_text a.setter b.setter && same_text a.name b.name

-- ---- the table of a `switch`

-- whether a range has its end, and its ends
abbrev pub is_inclusive : IntRange → Bool
is_inclusive (ExclusiveInt a b) = false
is_inclusive (InclusiveInt a b) = true

abbrev pub start_of : IntRange → ℤ
start_of (ExclusiveInt a b) = a
start_of (InclusiveInt a b) = a

abbrev pub end_of : IntRange → ℤ
end_of (ExclusiveInt a b) = b
end_of (InclusiveInt a b) = b

abbrev pub alike_range : SwitchRange → SwitchRange → Bool
alike_range a b =
    same_bool (is_inclusive a.range) (is_inclusive b.range) && same_int (start_of a.range) (start_of b.range) && same_int (end_of a.range) (end_of b.range) && a.arm == b.arm

abbrev pub alike_ranges : List SwitchRange → List SwitchRange → Bool
alike_ranges [] [] = true
alike_ranges (a ∷ as') (b ∷ bs) = alike_range a b && alike_ranges as' bs
alike_ranges _ _ = false

abbrev pub alike_case : SwitchCase → SwitchCase → Bool
alike_case a b = same a.value b.value && bytes_eq a.arms b.arms

abbrev pub alike_cases : List SwitchCase → List SwitchCase → Bool
alike_cases [] [] = true
alike_cases (a ∷ as') (b ∷ bs) = alike_case a b && alike_cases as' bs
alike_cases _ _ = false

abbrev pub alike_default : Option ℕ → Option ℕ → Bool
alike_default None None = true
alike_default (Some a) (Some b) = a == b
alike_default _ _ = false

abbrev pub alike_table : SwitchTable → SwitchTable → Bool
alike_table a b = alike_cases a.cases b.cases && alike_ranges a.ranges b.ranges && alike_default a.default b.default

-- ---- nodes

abbrev mutual
  pub alike_expr : Expr → Expr → Bool
  alike_expr (DynamicConstant a) (DynamicConstant b) = same a b
  alike_expr (BoolConstant a) (BoolConstant b) = same_bool a b
  alike_expr (IntegerConstant a) (IntegerConstant b) = same_int a b
  alike_expr (FloatConstant a) (FloatConstant b) = a == b
  alike_expr (CharConstant a) (CharConstant b) = a == b
  alike_expr (StringConstant a) (StringConstant b) = same_text a b
  alike_expr UnitConstant UnitConstant = true
  alike_expr (InterpolatedString a) (InterpolatedString b) = alike_exprs a b
  alike_expr (ArrayOf a) (ArrayOf b) = alike_exprs a b
  alike_expr (MapOf a k) (MapOf b l) = alike_pairs a b && same_texts k l
  alike_expr (Variable m a) (Variable n b) = same_texts m n && same_text a b
  alike_expr ThisPtr ThisPtr = true
  alike_expr (Property a) (Property b) = alike_property a b
  alike_expr (MethodCall f a) (MethodCall g b) = alike_callee f g && alike_exprs a b
  alike_expr (BlockExpr a) (BlockExpr b) = alike_stmts a b
  alike_expr (FnCall f a) (FnCall g b) = alike_callee f g && alike_exprs a b
  alike_expr (Dot k a c) (Dot l b d) = alike_flags k l && alike_expr a b && alike_expr c d
  alike_expr (Index k a c) (Index l b d) = alike_flags k l && alike_expr a b && alike_expr c d
  alike_expr (And a) (And b) = alike_exprs a b
  alike_expr (Or a) (Or b) = alike_exprs a b
  alike_expr (Coalesce a) (Coalesce b) = alike_exprs a b
  alike_expr _ _ = false

  pub alike_exprs : Exprs → Exprs → Bool
  alike_exprs no_exprs no_exprs = true
  alike_exprs (expr a as') (expr b bs) = alike_expr a b && alike_exprs as' bs
  alike_exprs _ _ = false

  pub alike_pairs : Pairs → Pairs → Bool
  alike_pairs no_pairs no_pairs = true
  alike_pairs (pair x a as') (pair y b bs) = same_text x y && alike_expr a b && alike_pairs as' bs
  alike_pairs _ _ = false

  pub alike_maybe : MaybeExpr → MaybeExpr → Bool
  alike_maybe no_expr no_expr = true
  alike_maybe (an_expr a) (an_expr b) = alike_expr a b
  alike_maybe _ _ = false

  pub alike_arms : Arms → Arms → Bool
  alike_arms no_arms no_arms = true
  alike_arms (arm a c as') (arm b d bs) = alike_expr a b && alike_expr c d && alike_arms as' bs
  alike_arms _ _ = false

  pub alike_stmt : Stmt → Stmt → Bool
  alike_stmt Noop Noop = true
  alike_stmt (If a ss ts) (If b us vs) = alike_expr a b && alike_stmts ss us && alike_stmts ts vs
  alike_stmt (Switch a as' t) (Switch b bs u) = alike_expr a b && alike_arms as' bs && alike_table t u
  alike_stmt (While a ss) (While b us) = alike_expr a b && alike_stmts ss us
  alike_stmt (Do n x a ss) (Do m y b us) = same_bool n m && same_bool x y && alike_expr a b && alike_stmts ss us
  alike_stmt (For x i a ss) (For y j b us) = same_text x y && same_type i j && alike_expr a b && alike_stmts ss us
  alike_stmt (Var c x f a) (Var d y g b) = same_bool c d && same_bool x y && same_text f g && alike_expr a b
  alike_stmt (Assignment o a c) (Assignment p b d) = operator_number o == operator_number p && alike_expr a b && alike_expr c d
  alike_stmt (FnCallStmt f a) (FnCallStmt g b) = alike_callee f g && alike_exprs a b
  alike_stmt (Block ss) (Block us) = alike_stmts ss us
  alike_stmt (TryCatch a ss ts) (TryCatch b us vs) = alike_expr a b && alike_stmts ss us && alike_stmts ts vs
  alike_stmt (ExprStmt a) (ExprStmt b) = alike_expr a b
  alike_stmt (BreakLoop c x a) (BreakLoop d y b) = same_bool c d && same_bool x y && alike_maybe a b
  alike_stmt (Return c x a) (Return d y b) = same_bool c d && same_bool x y && alike_maybe a b
  alike_stmt (Import a x) (Import b y) = alike_expr a b && same_text x y
  alike_stmt (Export a x) (Export b y) = same_text a b && same_text x y
  alike_stmt (Share a) (Share b) = same_texts a b
  alike_stmt _ _ = false

  pub alike_stmts : Stmts → Stmts → Bool
  alike_stmts no_stmts no_stmts = true
  alike_stmts (stmt a ss) (stmt b us) = alike_stmt a b && alike_stmts ss us
  alike_stmts _ _ = false

-- ---- scripts

-- a function without its name
abbrev pub nameless : Function → Function
nameless f = record { name = []; this_type = f.this_type; params = f.params; body = f.body }

abbrev pub alike_but_name : Function → Function → Bool
alike_but_name a b = same_type a.this_type b.this_type && same_texts a.params b.params && alike_stmts a.body b.body

abbrev pub alike_function : Function → Function → Bool
alike_function a b = same_text a.name b.name && alike_but_name a b

abbrev pub alike_functions : List Function → List Function → Bool
alike_functions [] [] = true
alike_functions (a ∷ as') (b ∷ bs) = alike_function a b && alike_functions as' bs
alike_functions _ _ = false

abbrev pub alike_script : Script → Script → Bool
alike_script a b = alike_stmts a.statements b.statements && alike_functions a.functions b.functions
