-- How nodes are printed. Two trees may print alike.
use Rattle.std.specs.Prelude.{ℕ, Bool, List, [], ◌∷◌, ◌++◌, Option, Some, None, codes, if◌then◌else◌}
use Rattle.std.specs.Fmt.{decimal, signed_decimal}
use Rattle.rhai_base.specs.Value.{Text, UnitV, BoolV, IntV, FloatV, CharV, TextV, written}
use Rattle.rhai_base.specs.Operators.{Operator, symbol}
use Rattle.theory_meaning.specs.Desugar.{qualified}
use Rattle.theory_meaning.specs.Queries.{is_unit}
use Rattle.theory_meaning.specs.Tree.{Callee, ChainFlags, IntRange, ExclusiveInt, InclusiveInt, SwitchCase, SwitchRange, SwitchTable, Expr, DynamicConstant, BoolConstant, IntegerConstant, FloatConstant, CharConstant, StringConstant, UnitConstant, InterpolatedString, ArrayOf, MapOf, Variable, ThisPtr, Property, MethodCall, BlockExpr, FnCall, Dot, Index, And, Or, Coalesce, Exprs, no_exprs, expr, Pairs, no_pairs, pair, MaybeExpr, no_expr, an_expr, Arms, no_arms, arm, Stmt, Noop, If, Switch, While, Do, For, Var, Assignment, FnCallStmt, Block, TryCatch, ExprStmt, BreakLoop, Return, Import, Export, Share, Stmts, no_stmts, stmt}

-- texts with commas between them; the first has that text before it
abbrev pub names_text : Text → List Text → Text
names_text before [] = []
names_text before (x ∷ xs) = before ++ x ++ names_text (codes ", ") xs

-- what is called; an operator by its symbol
abbrev pub callee_text : Callee → Text
callee_text c = qualified c.namespace c.name ++ (if c.captures then codes "!" else [])

-- `?` for a chain that a unit ends, `!` for one that ends there
abbrev pub flags_text : ChainFlags → Text
flags_text f = (if f.negated then codes "?" else []) ++ (if f.breaks then codes "!" else [])

-- ---- the table of a `switch`: cases, ranges and default, with `|` between them

-- the numbers of arms
abbrev pub numbers_text : List ℕ → Text
numbers_text [] = []
numbers_text (n ∷ ns) = codes " " ++ decimal n ++ numbers_text ns

abbrev pub cases_text : Text → List SwitchCase → Text
cases_text before [] = []
cases_text before (c ∷ cs) = before ++ written c.value ++ codes ":" ++ numbers_text c.arms ++ cases_text (codes ", ") cs

abbrev pub range_text : IntRange → Text
range_text (ExclusiveInt a b) = signed_decimal a ++ codes ".." ++ signed_decimal b
range_text (InclusiveInt a b) = signed_decimal a ++ codes "..=" ++ signed_decimal b

abbrev pub ranges_text : Text → List SwitchRange → Text
ranges_text before [] = []
ranges_text before (r ∷ rs) = before ++ range_text r.range ++ codes ": " ++ decimal r.arm ++ ranges_text (codes ", ") rs

abbrev pub default_text : Option ℕ → Text
default_text None = codes "-"
default_text (Some n) = decimal n

abbrev pub table_text : SwitchTable → Text
table_text t = cases_text [] t.cases ++ codes " | " ++ ranges_text [] t.ranges ++ codes " | default " ++ default_text t.default

-- ---- statements without their parts

abbrev pub loop_names : Text → Option Text → Text
loop_names x None = x
loop_names x (Some i) = codes "(" ++ x ++ codes ", " ++ i ++ codes ")"

-- `export `, and `let` or `const`
abbrev pub declaration_text : Bool → Bool → Text
declaration_text constant exported = (if exported then codes "export " else []) ++ (if constant then codes "const " else codes "let ")

abbrev pub assigning_text : Option Operator → Text
assigning_text None = codes " = "
assigning_text (Some op) = codes " " ++ symbol op ++ codes "= "

-- the catch name, where there is one
abbrev pub catch_text : Expr → Text
catch_text (Variable [] x) = codes " catch " ++ x ++ codes " "
catch_text _ = codes " catch "

-- A list is printed with the text that goes before its first item. The other items have a separator before them.
abbrev mutual
  pub expr_text : Expr → Text
  expr_text (DynamicConstant v) = codes "<" ++ written v ++ codes ">"
  expr_text (BoolConstant b) = written (BoolV b)
  expr_text (IntegerConstant n) = written (IntV n)
  expr_text (FloatConstant x) = written (FloatV x)
  expr_text (CharConstant c) = written (CharV c)
  expr_text (StringConstant t) = written (TextV t)
  expr_text UnitConstant = written UnitV
  expr_text (InterpolatedString es) = codes "text(" ++ exprs_text [] es ++ codes ")"
  expr_text (ArrayOf es) = codes "[" ++ exprs_text [] es ++ codes "]"
  expr_text (MapOf ps template) = codes "#{" ++ pairs_text [] ps ++ codes "}"
  expr_text (Variable ms x) = qualified ms x
  expr_text ThisPtr = codes "this"
  expr_text (Property p) = p.name
  expr_text (MethodCall f es) = callee_text f ++ codes "(" ++ exprs_text [] es ++ codes ")"
  expr_text (BlockExpr ss) = block_text ss
  expr_text (FnCall f es) = callee_text f ++ codes "(" ++ exprs_text [] es ++ codes ")"
  expr_text (Dot f e d) = codes "Dot" ++ flags_text f ++ codes "(" ++ expr_text e ++ codes ", " ++ expr_text d ++ codes ")"
  expr_text (Index f e d) = codes "Index" ++ flags_text f ++ codes "(" ++ expr_text e ++ codes ", " ++ expr_text d ++ codes ")"
  expr_text (And es) = codes "and(" ++ exprs_text [] es ++ codes ")"
  expr_text (Or es) = codes "or(" ++ exprs_text [] es ++ codes ")"
  expr_text (Coalesce es) = codes "coalesce(" ++ exprs_text [] es ++ codes ")"

  pub exprs_text : Text → Exprs → Text
  exprs_text before no_exprs = []
  exprs_text before (expr e es) = before ++ expr_text e ++ exprs_text (codes ", ") es

  pub pairs_text : Text → Pairs → Text
  pairs_text before no_pairs = []
  pairs_text before (pair x e ps) = before ++ x ++ codes ": " ++ expr_text e ++ pairs_text (codes ", ") ps

  -- after a word
  pub after_word : MaybeExpr → Text
  after_word no_expr = []
  after_word (an_expr e) = codes " " ++ expr_text e

  pub arms_text : Text → Arms → Text
  arms_text before no_arms = []
  arms_text before (arm c a as') = before ++ expr_text c ++ codes " => " ++ expr_text a ++ arms_text (codes ", ") as'

  pub stmt_text : Stmt → Text
  stmt_text Noop = codes "noop"
  stmt_text (If e ss ts) = codes "if " ++ expr_text e ++ codes " " ++ block_text ss ++ codes " else " ++ block_text ts
  stmt_text (Switch e as' t) = codes "switch " ++ expr_text e ++ codes " { " ++ table_text t ++ codes " | " ++ arms_text [] as' ++ codes " }"
  stmt_text (While UnitConstant ss) = codes "loop " ++ block_text ss
  stmt_text (While e ss) = codes "while " ++ expr_text e ++ codes " " ++ block_text ss
  stmt_text (Do negated exported e ss) = codes "do " ++ block_text ss ++ (if negated then codes " until " else codes " while ") ++ expr_text e
  stmt_text (For x i e ss) = codes "for " ++ loop_names x i ++ codes " in " ++ expr_text e ++ codes " " ++ block_text ss
  stmt_text (Var constant exported x e) = declaration_text constant exported ++ x ++ codes " = " ++ expr_text e
  stmt_text (Assignment op l e) = expr_text l ++ assigning_text op ++ expr_text e
  stmt_text (FnCallStmt f es) = codes "call " ++ (callee_text f ++ codes "(" ++ exprs_text [] es ++ codes ")")
  stmt_text (Block ss) = codes "block " ++ block_text ss
  stmt_text (TryCatch x ss ts) = codes "try " ++ block_text ss ++ catch_text x ++ block_text ts
  stmt_text (ExprStmt e) = expr_text e
  stmt_text (BreakLoop breaks exported e) = (if breaks then codes "break" else codes "continue") ++ after_word e
  stmt_text (Return throws exported e) = (if throws then codes "throw" else codes "return") ++ after_word e
  stmt_text (Import e x) = codes "import " ++ expr_text e ++ codes " as " ++ x
  stmt_text (Export x y) = codes "export " ++ x ++ codes " as " ++ y
  stmt_text (Share xs) = codes "share " ++ names_text [] xs

  pub block_text : Stmts → Text
  block_text no_stmts = codes "{}"
  block_text (stmt s ss) = codes "{ " ++ stmt_text s ++ stmts_text (codes "; ") ss ++ codes " }"

  pub stmts_text : Text → Stmts → Text
  stmts_text before no_stmts = []
  stmts_text before (stmt s ss) = before ++ stmt_text s ++ stmts_text (codes "; ") ss

abbrev pub call_text : Callee → Exprs → Text
call_text f es = callee_text f ++ codes "(" ++ exprs_text [] es ++ codes ")"

-- the guard of a loop, with its word
abbrev pub guard_text : Expr → Text
guard_text e = if is_unit e then codes "loop " else codes "while " ++ expr_text e ++ codes " "
