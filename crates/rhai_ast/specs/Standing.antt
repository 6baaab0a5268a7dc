-- The declared nodes right below a declared node, in the walk's order, each with where it stands there.
use Rattle.std.specs.Prelude.{◌≡◌, ℕ, ℤ, Bool, true, false, List, [], ◌∷◌, ◌++◌, drop, map, Option, Some, None}
use Rattle.std.proofs.Common.{sym, ap, ◌∙◌}
use Rattle.std.specs.declared.num.NonZeroU8.{NonZeroU8}
use Rattle.std.specs.declared.num.NonZeroUsize.{NonZeroUsize}
use Rattle.base_tokens.specs.declared.op_assignment.OpAssignment.{OpAssignment}
use Rattle.base_tokens.specs.declared.position.Position.{Position}
use Rattle.base_tokens.specs.declared.flags.ASTFlags.{ASTFlags}
use Rattle.base_tokens.specs.declared.ident.Ident.{Ident}
use Rattle.base_tokens.specs.declared.namespace.Namespace.{Namespace}
use Rattle.rhai_base.specs.declared.dynamic.Dynamic.{Dynamic}
use Rattle.rhai_base.specs.declared.float_wrapper.FloatWrapper.{FloatWrapper}
use Rattle.rhai_base.specs.Value.{Text}
use Rattle.ast_types.specs.declared.block.StmtBlock.{StmtBlock}
use Rattle.ast_types.specs.declared.expr.BinaryExpr.{BinaryExpr}
use Rattle.ast_types.specs.declared.expr.Expr as declared_expr
use Rattle.ast_types.specs.declared.expr.Expr.TheOpen as open_one
use Rattle.ast_types.specs.declared.expr.Expr.TheVariants as expr_kind
use Rattle.ast_types.specs.declared.expr.Expr.TheViews as views
use Rattle.ast_types.specs.declared.expr.FnCallExpr.{FnCallExpr}
use Rattle.ast_types.specs.declared.stmt.FlowControl.{FlowControl}
use Rattle.ast_types.specs.declared.stmt.Stmt as declared_stmt
use Rattle.ast_types.specs.declared.stmt.Stmt.TheVariants as stmt_kind
use Rattle.ast_types.specs.declared.switch.SwitchBlock.{SwitchBlock}
use Rattle.ast_types.specs.declared.switch.SwitchCasesCollection.{SwitchCasesCollection}
use Rattle.theory_meaning.specs.Walk.{Node, OfExpr, OfStmt, Spot, LoopBody, LeftSide, RightSide, arms_at, listed}
use Rattle.ast_types.specs.Positions.{ExprLayer, StmtLayer, position_of, stmt_position_of}
use Rattle.ast_types.specs.Reading.{cases_of, chain_flags, expr_of, expressions_of, stmt_of, subject_of, table_of}
use Rattle.rhai_ast.specs.Arms.{default_of, places_left}
use Rattle.rhai_ast.specs.Nodes.{spot_of}
use Rattle.rhai_ast.specs.declared.walker.arms.ListedArms.{ListedArms}
use Rattle.rhai_ast.specs.declared.walker.children.Children.{Children}
use Rattle.rhai_ast.specs.declared.walker.node.ASTNode.{ASTNode}
use Rattle.rhai_ast.specs.declared.walker.node.ASTNode.TheVariants as node
use Rattle.rhai_ast.specs.declared.walker.node.Child.{Child}
use Rattle.rhai_ast.specs.declared.walker.parts.Parts.{Parts}
use Rattle.rhai_ast.specs.declared.walker.parts.Parts.TheVariants as parts

pub data Declared : Type 0 where
  DeclaredExpr : declared_expr.Expr → Declared
  DeclaredStmt : declared_stmt.Stmt → Declared

-- one right below another, and where it stands there, where that matters
pub record Standing : Type 0 where
  pub spot : Option Spot
  pub node : Declared

-- ---- one after another

abbrev pub standing_anywhere : Declared → Standing
standing_anywhere n = record { spot = None; node = n }

abbrev pub expr_standing : declared_expr.Expr → Standing
expr_standing e = standing_anywhere (DeclaredExpr e)

abbrev pub stmt_standing : declared_stmt.Stmt → Standing
stmt_standing s = standing_anywhere (DeclaredStmt s)

abbrev pub looped_standing : declared_stmt.Stmt → Standing
looped_standing s = record { spot = Some LoopBody; node = DeclaredStmt s }

abbrev pub exprs_standing : List declared_expr.Expr → List Standing
exprs_standing es = map expr_standing es

abbrev pub members_standing : List (Ident × declared_expr.Expr) → List Standing
members_standing ms = map (λ m. expr_standing m.1) ms

abbrev pub statements_standing : List declared_stmt.Stmt → List Standing
statements_standing ss = map stmt_standing ss

abbrev pub body_standing : List declared_stmt.Stmt → List Standing
body_standing ss = map looped_standing ss

abbrev pub maybe_standing : Option declared_expr.Expr → List Standing
maybe_standing None = []
maybe_standing (Some e) = expr_standing e ∷ []

abbrev pub sides_standing : BinaryExpr → List Standing
sides_standing b = expr_standing b.lhs ∷ expr_standing b.rhs ∷ []

-- the arms at these places
abbrev pub listed_standing : List BinaryExpr → List ℕ → List Standing
listed_standing bs is = arms_at [] (λ cs ds. cs ++ ds) (map sides_standing bs) is

-- the sides of a `.` or an index
abbrev pub left_standing : BinaryExpr → Standing
left_standing x = record { spot = Some LeftSide; node = DeclaredExpr x.lhs }

abbrev pub right_standing : Bool → BinaryExpr → ASTFlags → Standing
right_standing is_dot x k = record { spot = Some (RightSide is_dot (chain_flags k) (expr_of x.rhs)); node = DeclaredExpr x.rhs }

-- ---- below a node

abbrev expr_below_in : ExprLayer → List Standing
expr_below_in (open_one.InterpolatedString xs p) = exprs_standing xs
expr_below_in (open_one.Array xs p) = exprs_standing xs
expr_below_in (open_one.Map m p) = members_standing m.0
expr_below_in (open_one.MethodCall c p) = exprs_standing c.args
expr_below_in (open_one.Stmt b) = statements_standing b.block
expr_below_in (open_one.Expr::FnCall c p) = exprs_standing c.args
expr_below_in (open_one.Dot x k p) = left_standing x ∷ right_standing true x k ∷ []
expr_below_in (open_one.Index x k p) = left_standing x ∷ right_standing false x k ∷ []
expr_below_in (open_one.And xs p) = exprs_standing xs
expr_below_in (open_one.Or xs p) = exprs_standing xs
expr_below_in (open_one.Coalesce xs p) = exprs_standing xs
expr_below_in _ = []

abbrev stmt_below_in : StmtLayer → List Standing
stmt_below_in (open_one.If x p) = expr_standing x.expr ∷ (statements_standing x.body.block ++ statements_standing x.branch.block)
stmt_below_in (open_one.Switch x p) = expr_standing (subject_of x) ∷ listed_standing (expressions_of (cases_of x)) (listed (table_of (cases_of x)))
stmt_below_in (open_one.While x p) = expr_standing x.expr ∷ body_standing x.body.block
stmt_below_in (open_one.Do x k p) = expr_standing x.expr ∷ body_standing x.body.block
stmt_below_in (open_one.For x p) = expr_standing x.2.expr ∷ body_standing x.2.body.block
stmt_below_in (open_one.Var x k p) = expr_standing x.1 ∷ []
stmt_below_in (open_one.Assignment x) = sides_standing x.1
stmt_below_in (open_one.Stmt::FnCall c p) = exprs_standing c.args
stmt_below_in (open_one.Block b) = statements_standing b.block
stmt_below_in (open_one.TryCatch x p) = statements_standing x.body.block ++ statements_standing x.branch.block
stmt_below_in (open_one.Expr e) = expr_standing e ∷ []
stmt_below_in (open_one.BreakLoop e k p) = maybe_standing e
stmt_below_in (open_one.Return e k p) = maybe_standing e
stmt_below_in (open_one.Import x p) = expr_standing x.0 ∷ []
stmt_below_in _ = []

pub expr_below : declared_expr.Expr → List Standing
expr_below e = expr_below_in (views.out-Expr e)

pub stmt_below : declared_stmt.Stmt → List Standing
stmt_below s = stmt_below_in (views.out-Stmt s)

abbrev pub below : Declared → List Standing
below (DeclaredExpr e) = expr_below e
below (DeclaredStmt s) = stmt_below s

-- the abstract node
abbrev pub tree_of : Declared → Node
tree_of (DeclaredExpr e) = OfExpr (expr_of e)
tree_of (DeclaredStmt s) = OfStmt (stmt_of s)

-- where a node stands in its text
abbrev pub place_of : Declared → Position
place_of (DeclaredExpr e) = position_of e
place_of (DeclaredStmt s) = stmt_position_of s

-- ---- what is lent

abbrev pub declared_of : ASTNode → Declared
declared_of (node.Stmt s) = DeclaredStmt s.now
declared_of (node.Expr e) = DeclaredExpr e.now

abbrev pub standing_child : Child → Standing
standing_child c = record { spot = spot_of c.spot; node = declared_of c.node }

-- ---- what is still to come

abbrev pub arms_standing : ListedArms → List Standing
arms_standing l = listed_standing (expressions_of l.table.now) (places_left l)

abbrev pub default_standing : SwitchCasesCollection → List Standing
default_standing t = listed_standing (expressions_of t) (default_of t)

abbrev pub standing_of_parts : Parts → List Standing
standing_of_parts parts.Nothing = []
standing_of_parts (parts.Expr e) = expr_standing e.now ∷ []
standing_of_parts (parts.Sides sides) = sides_standing sides.now
standing_of_parts (parts.Dot sides options) = left_standing sides.now ∷ right_standing true sides.now options.now ∷ []
standing_of_parts (parts.RightOfDot sides options) = right_standing true sides.now options.now ∷ []
standing_of_parts (parts.Index sides options) = left_standing sides.now ∷ right_standing false sides.now options.now ∷ []
standing_of_parts (parts.RightOfIndex sides options) = right_standing false sides.now options.now ∷ []
standing_of_parts (parts.Exprs es) = exprs_standing es.now
standing_of_parts (parts.Members ms) = members_standing ms.now
standing_of_parts (parts.Statements ss) = statements_standing ss.now
standing_of_parts (parts.Choice flow) = expr_standing flow.now.expr ∷ (statements_standing flow.now.body.block ++ statements_standing flow.now.branch.block)
standing_of_parts (parts.Blocks body flow) = statements_standing body.now ++ statements_standing flow.now.branch.block
standing_of_parts (parts.Loop flow) = expr_standing flow.now.expr ∷ body_standing flow.now.body.block
standing_of_parts (parts.LoopBody ss) = body_standing ss.now
standing_of_parts (parts.Switch switch) = expr_standing (subject_of switch.now) ∷ listed_standing (expressions_of (cases_of switch.now)) (listed (table_of (cases_of switch.now)))
standing_of_parts (parts.Arms arms) = arms_standing arms
standing_of_parts (parts.Answers arms) = drop 1 (arms_standing arms)

abbrev pub standing_of : Children → List Standing
standing_of c = standing_of_parts c.parts

-- ---- what stands below each node

expr_below-roll : (x : ExprLayer) → expr_below (views.roll-Expr x) ≡ expr_below_in x
unfolding expr_below
expr_below-roll x = ap expr_below_in (views.out-roll-Expr x)

stmt_below-roll : (x : StmtLayer) → stmt_below (views.roll-Stmt x) ≡ stmt_below_in x
unfolding stmt_below
stmt_below-roll x = ap stmt_below_in (views.out-roll-Stmt x)

pub expr_below-DynamicConstant : (v : Dynamic) (p : Position) → expr_below (expr_kind.DynamicConstant v p) ≡ []
expr_below-DynamicConstant v p = ap expr_below (sym (expr_kind.rolls-DynamicConstant v p)) ∙ expr_below-roll (open_one.DynamicConstant v p)

pub expr_below-BoolConstant : (b : Bool) (p : Position) → expr_below (expr_kind.BoolConstant b p) ≡ []
expr_below-BoolConstant b p = ap expr_below (sym (expr_kind.rolls-BoolConstant b p)) ∙ expr_below-roll (open_one.BoolConstant b p)

pub expr_below-IntegerConstant : (n : ℤ) (p : Position) → expr_below (expr_kind.IntegerConstant n p) ≡ []
expr_below-IntegerConstant n p = ap expr_below (sym (expr_kind.rolls-IntegerConstant n p)) ∙ expr_below-roll (open_one.IntegerConstant n p)

pub expr_below-FloatConstant : (x : FloatWrapper) (p : Position) → expr_below (expr_kind.FloatConstant x p) ≡ []
expr_below-FloatConstant x p = ap expr_below (sym (expr_kind.rolls-FloatConstant x p)) ∙ expr_below-roll (open_one.FloatConstant x p)

pub expr_below-CharConstant : (c : ℕ) (p : Position) → expr_below (expr_kind.CharConstant c p) ≡ []
expr_below-CharConstant c p = ap expr_below (sym (expr_kind.rolls-CharConstant c p)) ∙ expr_below-roll (open_one.CharConstant c p)

pub expr_below-StringConstant : (t : Text) (p : Position) → expr_below (expr_kind.StringConstant t p) ≡ []
expr_below-StringConstant t p = ap expr_below (sym (expr_kind.rolls-StringConstant t p)) ∙ expr_below-roll (open_one.StringConstant t p)

pub expr_below-InterpolatedString : (xs : List declared_expr.Expr) (p : Position) → expr_below (expr_kind.InterpolatedString xs p) ≡ exprs_standing xs
expr_below-InterpolatedString xs p = ap expr_below (sym (expr_kind.rolls-InterpolatedString xs p)) ∙ expr_below-roll (open_one.InterpolatedString xs p)

pub expr_below-Array : (xs : List declared_expr.Expr) (p : Position) → expr_below (expr_kind.Array xs p) ≡ exprs_standing xs
expr_below-Array xs p = ap expr_below (sym (expr_kind.rolls-Array xs p)) ∙ expr_below-roll (open_one.Array xs p)

pub expr_below-Map : (m : List (Ident × declared_expr.Expr) × List (Text × Dynamic)) (p : Position) → expr_below (expr_kind.Map m p) ≡ members_standing m.0
expr_below-Map m p = ap expr_below (sym (expr_kind.rolls-Map m p)) ∙ expr_below-roll (open_one.Map m p)

pub expr_below-Unit : (p : Position) → expr_below (expr_kind.Unit p) ≡ []
expr_below-Unit p = ap expr_below (sym (expr_kind.rolls-Unit p)) ∙ expr_below-roll (open_one.Unit p)

pub expr_below-Variable : (x : Option NonZeroUsize × Text × Namespace) (short : Option NonZeroU8) (p : Position) → expr_below (expr_kind.Variable x short p) ≡ []
expr_below-Variable x short p = ap expr_below (sym (expr_kind.rolls-Variable x short p)) ∙ expr_below-roll (open_one.Variable x short p)

pub expr_below-ThisPtr : (p : Position) → expr_below (expr_kind.ThisPtr p) ≡ []
expr_below-ThisPtr p = ap expr_below (sym (expr_kind.rolls-ThisPtr p)) ∙ expr_below-roll (open_one.ThisPtr p)

pub expr_below-Property : (x : Text × Text × Text) (p : Position) → expr_below (expr_kind.Property x p) ≡ []
expr_below-Property x p = ap expr_below (sym (expr_kind.rolls-Property x p)) ∙ expr_below-roll (open_one.Property x p)

pub expr_below-MethodCall : (c : FnCallExpr) (p : Position) → expr_below (expr_kind.MethodCall c p) ≡ exprs_standing c.args
expr_below-MethodCall c p = ap expr_below (sym (expr_kind.rolls-MethodCall c p)) ∙ expr_below-roll (open_one.MethodCall c p)

pub expr_below-Stmt : (b : StmtBlock) → expr_below (expr_kind.Stmt b) ≡ statements_standing b.block
expr_below-Stmt b = ap expr_below (sym (expr_kind.rolls-Stmt b)) ∙ expr_below-roll (open_one.Stmt b)

pub expr_below-FnCall : (c : FnCallExpr) (p : Position) → expr_below (expr_kind.FnCall c p) ≡ exprs_standing c.args
expr_below-FnCall c p = ap expr_below (sym (expr_kind.rolls-FnCall c p)) ∙ expr_below-roll (open_one.Expr::FnCall c p)

pub expr_below-Dot : (x : BinaryExpr) (k : ASTFlags) (p : Position) → expr_below (expr_kind.Dot x k p) ≡ left_standing x ∷ right_standing true x k ∷ []
expr_below-Dot x k p = ap expr_below (sym (expr_kind.rolls-Dot x k p)) ∙ expr_below-roll (open_one.Dot x k p)

pub expr_below-Index : (x : BinaryExpr) (k : ASTFlags) (p : Position) → expr_below (expr_kind.Index x k p) ≡ left_standing x ∷ right_standing false x k ∷ []
expr_below-Index x k p = ap expr_below (sym (expr_kind.rolls-Index x k p)) ∙ expr_below-roll (open_one.Index x k p)

pub expr_below-And : (xs : List declared_expr.Expr) (p : Position) → expr_below (expr_kind.And xs p) ≡ exprs_standing xs
expr_below-And xs p = ap expr_below (sym (expr_kind.rolls-And xs p)) ∙ expr_below-roll (open_one.And xs p)

pub expr_below-Or : (xs : List declared_expr.Expr) (p : Position) → expr_below (expr_kind.Or xs p) ≡ exprs_standing xs
expr_below-Or xs p = ap expr_below (sym (expr_kind.rolls-Or xs p)) ∙ expr_below-roll (open_one.Or xs p)

pub expr_below-Coalesce : (xs : List declared_expr.Expr) (p : Position) → expr_below (expr_kind.Coalesce xs p) ≡ exprs_standing xs
expr_below-Coalesce xs p = ap expr_below (sym (expr_kind.rolls-Coalesce xs p)) ∙ expr_below-roll (open_one.Coalesce xs p)

pub stmt_below-Noop : (p : Position) → stmt_below (stmt_kind.Noop p) ≡ []
stmt_below-Noop p = ap stmt_below (sym (stmt_kind.rolls-Noop p)) ∙ stmt_below-roll (open_one.Noop p)

pub stmt_below-If : (x : FlowControl) (p : Position) → stmt_below (stmt_kind.If x p) ≡ expr_standing x.expr ∷ (statements_standing x.body.block ++ statements_standing x.branch.block)
stmt_below-If x p = ap stmt_below (sym (stmt_kind.rolls-If x p)) ∙ stmt_below-roll (open_one.If x p)

pub stmt_below-Switch : (x : SwitchBlock) (p : Position) → stmt_below (stmt_kind.Switch x p) ≡ expr_standing (subject_of x) ∷ listed_standing (expressions_of (cases_of x)) (listed (table_of (cases_of x)))
stmt_below-Switch x p = ap stmt_below (sym (stmt_kind.rolls-Switch x p)) ∙ stmt_below-roll (open_one.Switch x p)

pub stmt_below-While : (x : FlowControl) (p : Position) → stmt_below (stmt_kind.While x p) ≡ expr_standing x.expr ∷ body_standing x.body.block
stmt_below-While x p = ap stmt_below (sym (stmt_kind.rolls-While x p)) ∙ stmt_below-roll (open_one.While x p)

pub stmt_below-Do : (x : FlowControl) (k : ASTFlags) (p : Position) → stmt_below (stmt_kind.Do x k p) ≡ expr_standing x.expr ∷ body_standing x.body.block
stmt_below-Do x k p = ap stmt_below (sym (stmt_kind.rolls-Do x k p)) ∙ stmt_below-roll (open_one.Do x k p)

pub stmt_below-For : (x : Ident × Option Ident × FlowControl) (p : Position) → stmt_below (stmt_kind.For x p) ≡ expr_standing x.2.expr ∷ body_standing x.2.body.block
stmt_below-For x p = ap stmt_below (sym (stmt_kind.rolls-For x p)) ∙ stmt_below-roll (open_one.For x p)

pub stmt_below-Var : (x : Ident × declared_expr.Expr × Option NonZeroUsize) (k : ASTFlags) (p : Position) → stmt_below (stmt_kind.Var x k p) ≡ expr_standing x.1 ∷ []
stmt_below-Var x k p = ap stmt_below (sym (stmt_kind.rolls-Var x k p)) ∙ stmt_below-roll (open_one.Var x k p)

pub stmt_below-Assignment : (x : OpAssignment × BinaryExpr) → stmt_below (stmt_kind.Assignment x) ≡ sides_standing x.1
stmt_below-Assignment x = ap stmt_below (sym (stmt_kind.rolls-Assignment x)) ∙ stmt_below-roll (open_one.Assignment x)

pub stmt_below-FnCall : (c : FnCallExpr) (p : Position) → stmt_below (stmt_kind.FnCall c p) ≡ exprs_standing c.args
stmt_below-FnCall c p = ap stmt_below (sym (stmt_kind.rolls-FnCall c p)) ∙ stmt_below-roll (open_one.Stmt::FnCall c p)

pub stmt_below-Block : (b : StmtBlock) → stmt_below (stmt_kind.Block b) ≡ statements_standing b.block
stmt_below-Block b = ap stmt_below (sym (stmt_kind.rolls-Block b)) ∙ stmt_below-roll (open_one.Block b)

pub stmt_below-TryCatch : (x : FlowControl) (p : Position) → stmt_below (stmt_kind.TryCatch x p) ≡ statements_standing x.body.block ++ statements_standing x.branch.block
stmt_below-TryCatch x p = ap stmt_below (sym (stmt_kind.rolls-TryCatch x p)) ∙ stmt_below-roll (open_one.TryCatch x p)

pub stmt_below-Expr : (e : declared_expr.Expr) → stmt_below (stmt_kind.Expr e) ≡ expr_standing e ∷ []
stmt_below-Expr e = ap stmt_below (sym (stmt_kind.rolls-Expr e)) ∙ stmt_below-roll (open_one.Expr e)

pub stmt_below-BreakLoop : (e : Option declared_expr.Expr) (k : ASTFlags) (p : Position) → stmt_below (stmt_kind.BreakLoop e k p) ≡ maybe_standing e
stmt_below-BreakLoop e k p = ap stmt_below (sym (stmt_kind.rolls-BreakLoop e k p)) ∙ stmt_below-roll (open_one.BreakLoop e k p)

pub stmt_below-Return : (e : Option declared_expr.Expr) (k : ASTFlags) (p : Position) → stmt_below (stmt_kind.Return e k p) ≡ maybe_standing e
stmt_below-Return e k p = ap stmt_below (sym (stmt_kind.rolls-Return e k p)) ∙ stmt_below-roll (open_one.Return e k p)

pub stmt_below-Import : (x : declared_expr.Expr × Ident) (p : Position) → stmt_below (stmt_kind.Import x p) ≡ expr_standing x.0 ∷ []
stmt_below-Import x p = ap stmt_below (sym (stmt_kind.rolls-Import x p)) ∙ stmt_below-roll (open_one.Import x p)

pub stmt_below-Export : (x : Ident × Ident) (p : Position) → stmt_below (stmt_kind.Export x p) ≡ []
stmt_below-Export x p = ap stmt_below (sym (stmt_kind.rolls-Export x p)) ∙ stmt_below-roll (open_one.Export x p)

pub stmt_below-Share : (xs : List (Ident × Option NonZeroUsize)) → stmt_below (stmt_kind.Share xs) ≡ []
stmt_below-Share xs = ap stmt_below (sym (stmt_kind.rolls-Share xs)) ∙ stmt_below-roll (open_one.Share xs)

pub ruleset nodes_below = (
  expr_below-DynamicConstant,
  expr_below-BoolConstant,
  expr_below-IntegerConstant,
  expr_below-FloatConstant,
  expr_below-CharConstant,
  expr_below-StringConstant,
  expr_below-InterpolatedString,
  expr_below-Array,
  expr_below-Map,
  expr_below-Unit,
  expr_below-Variable,
  expr_below-ThisPtr,
  expr_below-Property,
  expr_below-MethodCall,
  expr_below-Stmt,
  expr_below-FnCall,
  expr_below-Dot,
  expr_below-Index,
  expr_below-And,
  expr_below-Or,
  expr_below-Coalesce,
  stmt_below-Noop,
  stmt_below-If,
  stmt_below-Switch,
  stmt_below-While,
  stmt_below-Do,
  stmt_below-For,
  stmt_below-Var,
  stmt_below-Assignment,
  stmt_below-FnCall,
  stmt_below-Block,
  stmt_below-TryCatch,
  stmt_below-Expr,
  stmt_below-BreakLoop,
  stmt_below-Return,
  stmt_below-Import,
  stmt_below-Export,
  stmt_below-Share,
)
