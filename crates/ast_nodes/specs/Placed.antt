-- Nodes put somewhere else.
use Rattle.std.specs.Prelude.{◌≡◌, ℕ, ℤ, Bool, List, map, Option}
use Rattle.std.proofs.Common.{sym, ap, ◌∙◌}
use Rattle.rhai_base.specs.declared.dynamic.Dynamic.{Dynamic}
use Rattle.rhai_base.specs.declared.float_wrapper.FloatWrapper.{FloatWrapper}
use Rattle.base_tokens.specs.declared.op_assignment.OpAssignment.{OpAssignment}
use Rattle.base_tokens.specs.declared.position.Position.{Position}
use Rattle.base_tokens.specs.declared.position.Span.{Span}
use Rattle.base_tokens.specs.declared.flags.ASTFlags.{ASTFlags}
use Rattle.base_tokens.specs.declared.ident.Ident.{Ident}
use Rattle.base_tokens.specs.declared.namespace.Namespace.{Namespace}
use Rattle.std.specs.declared.num.NonZeroU8.{NonZeroU8}
use Rattle.std.specs.declared.num.NonZeroUsize.{NonZeroUsize}
use Rattle.rhai_base.specs.Value.{Text}
use Rattle.ast_types.specs.Defaults.{nowhere}
use Rattle.ast_types.specs.declared.expr.Expr as declared_expr
use Rattle.ast_types.specs.declared.expr.Expr.TheOpen as open_one
use Rattle.ast_types.specs.declared.expr.Expr.TheViews as views
use Rattle.ast_types.specs.declared.expr.Expr.TheVariants as expr_kind
use Rattle.ast_types.specs.declared.stmt.Stmt.TheVariants as stmt_kind
use Rattle.ast_types.specs.declared.stmt.Stmt as declared_stmt
use Rattle.ast_types.specs.declared.block.StmtBlock.{StmtBlock}
use Rattle.ast_types.specs.declared.expr.BinaryExpr.{BinaryExpr}
use Rattle.ast_types.specs.declared.expr.FnCallExpr.{FnCallExpr}
use Rattle.ast_types.specs.declared.stmt.FlowControl.{FlowControl}
use Rattle.ast_types.specs.declared.switch.SwitchBlock.{SwitchBlock}
use Rattle.ast_types.specs.Positions.{ExprLayer, StmtLayer}

-- a block with other braces
abbrev pub with_span : Span → StmtBlock → StmtBlock
with_span s b = views.roll-StmtBlock (record { block = b.block; span = s })

-- an expression put there; of braces this is where they begin, and they end nowhere then
abbrev pub placed_in : Position → ExprLayer → declared_expr.Expr
placed_in p (open_one.DynamicConstant v q) = expr_kind.DynamicConstant v p
placed_in p (open_one.BoolConstant b q) = expr_kind.BoolConstant b p
placed_in p (open_one.IntegerConstant n q) = expr_kind.IntegerConstant n p
placed_in p (open_one.FloatConstant x q) = expr_kind.FloatConstant x p
placed_in p (open_one.CharConstant c q) = expr_kind.CharConstant c p
placed_in p (open_one.StringConstant t q) = expr_kind.StringConstant t p
placed_in p (open_one.InterpolatedString xs q) = expr_kind.InterpolatedString xs p
placed_in p (open_one.Array xs q) = expr_kind.Array xs p
placed_in p (open_one.Map m q) = expr_kind.Map m p
placed_in p (open_one.Unit q) = expr_kind.Unit p
placed_in p (open_one.Variable x short q) = expr_kind.Variable x short p
placed_in p (open_one.ThisPtr q) = expr_kind.ThisPtr p
placed_in p (open_one.Property x q) = expr_kind.Property x p
placed_in p (open_one.MethodCall c q) = expr_kind.MethodCall c p
placed_in p (open_one.Stmt b) = expr_kind.Stmt (with_span (record { start = p; end = nowhere }) b)
placed_in p (open_one.Expr::FnCall c q) = expr_kind.FnCall c p
placed_in p (open_one.Dot x k q) = expr_kind.Dot x k p
placed_in p (open_one.Index x k q) = expr_kind.Index x k p
placed_in p (open_one.And xs q) = expr_kind.And xs p
placed_in p (open_one.Or xs q) = expr_kind.Or xs p
placed_in p (open_one.Coalesce xs q) = expr_kind.Coalesce xs p

unfoldable pub placed : Position → declared_expr.Expr → declared_expr.Expr
placed p e = placed_in p (views.out-Expr e)

-- a shared name put there
abbrev pub name_placed : Position → Ident × Option NonZeroUsize → Ident × Option NonZeroUsize
name_placed p x = (record x.0 { pos = p }, x.1)

-- a statement put there: of an assignment its operator, of a block its beginning, of an expression statement the expression,
-- of what closures share each name
abbrev pub stmt_placed_in : Position → StmtLayer → declared_stmt.Stmt
stmt_placed_in p (open_one.Noop q) = stmt_kind.Noop p
stmt_placed_in p (open_one.If x q) = stmt_kind.If x p
stmt_placed_in p (open_one.Switch x q) = stmt_kind.Switch x p
stmt_placed_in p (open_one.While x q) = stmt_kind.While x p
stmt_placed_in p (open_one.Do x k q) = stmt_kind.Do x k p
stmt_placed_in p (open_one.For x q) = stmt_kind.For x p
stmt_placed_in p (open_one.Var x k q) = stmt_kind.Var x k p
stmt_placed_in p (open_one.Assignment x) = stmt_kind.Assignment (record x.0 { pos = p }, x.1)
stmt_placed_in p (open_one.Stmt::FnCall c q) = stmt_kind.FnCall c p
stmt_placed_in p (open_one.Block b) = stmt_kind.Block (with_span (record { start = p; end = b.span.end }) b)
stmt_placed_in p (open_one.TryCatch x q) = stmt_kind.TryCatch x p
stmt_placed_in p (open_one.Expr e) = stmt_kind.Expr (placed p e)
stmt_placed_in p (open_one.BreakLoop e k q) = stmt_kind.BreakLoop e k p
stmt_placed_in p (open_one.Return e k q) = stmt_kind.Return e k p
stmt_placed_in p (open_one.Import x q) = stmt_kind.Import x p
stmt_placed_in p (open_one.Export x q) = stmt_kind.Export x p
stmt_placed_in p (open_one.Share xs) = stmt_kind.Share (map (name_placed p) xs)

unfoldable pub stmt_placed : Position → declared_stmt.Stmt → declared_stmt.Stmt
stmt_placed p s = stmt_placed_in p (views.out-Stmt s)

-- ---- what they are at each node

placed-roll : (p : Position) (x : ExprLayer) → placed p (views.roll-Expr x) ≡ placed_in p x
unfolding placed
placed-roll p x = ap (placed_in p) (views.out-roll-Expr x)

stmt_placed-roll : (p : Position) (x : StmtLayer) → stmt_placed p (views.roll-Stmt x) ≡ stmt_placed_in p x
unfolding stmt_placed
stmt_placed-roll p x = ap (stmt_placed_in p) (views.out-roll-Stmt x)

pub placed-DynamicConstant : (p : Position) (v : Dynamic) (q : Position) → placed p (expr_kind.DynamicConstant v q) ≡ expr_kind.DynamicConstant v p
placed-DynamicConstant p v q = ap (placed p) (sym (expr_kind.rolls-DynamicConstant v q)) ∙ placed-roll p (open_one.DynamicConstant v q)

pub placed-BoolConstant : (p : Position) (b : Bool) (q : Position) → placed p (expr_kind.BoolConstant b q) ≡ expr_kind.BoolConstant b p
placed-BoolConstant p b q = ap (placed p) (sym (expr_kind.rolls-BoolConstant b q)) ∙ placed-roll p (open_one.BoolConstant b q)

pub placed-IntegerConstant : (p : Position) (n : ℤ) (q : Position) → placed p (expr_kind.IntegerConstant n q) ≡ expr_kind.IntegerConstant n p
placed-IntegerConstant p n q = ap (placed p) (sym (expr_kind.rolls-IntegerConstant n q)) ∙ placed-roll p (open_one.IntegerConstant n q)

pub placed-FloatConstant : (p : Position) (x : FloatWrapper) (q : Position) → placed p (expr_kind.FloatConstant x q) ≡ expr_kind.FloatConstant x p
placed-FloatConstant p x q = ap (placed p) (sym (expr_kind.rolls-FloatConstant x q)) ∙ placed-roll p (open_one.FloatConstant x q)

pub placed-CharConstant : (p : Position) (c : ℕ) (q : Position) → placed p (expr_kind.CharConstant c q) ≡ expr_kind.CharConstant c p
placed-CharConstant p c q = ap (placed p) (sym (expr_kind.rolls-CharConstant c q)) ∙ placed-roll p (open_one.CharConstant c q)

pub placed-StringConstant : (p : Position) (t : Text) (q : Position) → placed p (expr_kind.StringConstant t q) ≡ expr_kind.StringConstant t p
placed-StringConstant p t q = ap (placed p) (sym (expr_kind.rolls-StringConstant t q)) ∙ placed-roll p (open_one.StringConstant t q)

pub placed-InterpolatedString : (p : Position) (xs : List declared_expr.Expr) (q : Position) → placed p (expr_kind.InterpolatedString xs q) ≡ expr_kind.InterpolatedString xs p
placed-InterpolatedString p xs q = ap (placed p) (sym (expr_kind.rolls-InterpolatedString xs q)) ∙ placed-roll p (open_one.InterpolatedString xs q)

pub placed-Array : (p : Position) (xs : List declared_expr.Expr) (q : Position) → placed p (expr_kind.Array xs q) ≡ expr_kind.Array xs p
placed-Array p xs q = ap (placed p) (sym (expr_kind.rolls-Array xs q)) ∙ placed-roll p (open_one.Array xs q)

pub placed-Map : (p : Position) (m : List (Ident × declared_expr.Expr) × List (Text × Dynamic)) (q : Position) → placed p (expr_kind.Map m q) ≡ expr_kind.Map m p
placed-Map p m q = ap (placed p) (sym (expr_kind.rolls-Map m q)) ∙ placed-roll p (open_one.Map m q)

pub placed-Unit : (p : Position) (q : Position) → placed p (expr_kind.Unit q) ≡ expr_kind.Unit p
placed-Unit p q = ap (placed p) (sym (expr_kind.rolls-Unit q)) ∙ placed-roll p (open_one.Unit q)

pub placed-Variable : (p : Position) (x : Option NonZeroUsize × Text × Namespace) (short : Option NonZeroU8) (q : Position) → placed p (expr_kind.Variable x short q) ≡ expr_kind.Variable x short p
placed-Variable p x short q = ap (placed p) (sym (expr_kind.rolls-Variable x short q)) ∙ placed-roll p (open_one.Variable x short q)

pub placed-ThisPtr : (p : Position) (q : Position) → placed p (expr_kind.ThisPtr q) ≡ expr_kind.ThisPtr p
placed-ThisPtr p q = ap (placed p) (sym (expr_kind.rolls-ThisPtr q)) ∙ placed-roll p (open_one.ThisPtr q)

pub placed-Property : (p : Position) (x : Text × Text × Text) (q : Position) → placed p (expr_kind.Property x q) ≡ expr_kind.Property x p
placed-Property p x q = ap (placed p) (sym (expr_kind.rolls-Property x q)) ∙ placed-roll p (open_one.Property x q)

pub placed-MethodCall : (p : Position) (c : FnCallExpr) (q : Position) → placed p (expr_kind.MethodCall c q) ≡ expr_kind.MethodCall c p
placed-MethodCall p c q = ap (placed p) (sym (expr_kind.rolls-MethodCall c q)) ∙ placed-roll p (open_one.MethodCall c q)

pub placed-Stmt : (p : Position) (b : StmtBlock) → placed p (expr_kind.Stmt b) ≡ expr_kind.Stmt (with_span (record { start = p; end = nowhere }) b)
placed-Stmt p b = ap (placed p) (sym (expr_kind.rolls-Stmt b)) ∙ placed-roll p (open_one.Stmt b)

pub placed-FnCall : (p : Position) (c : FnCallExpr) (q : Position) → placed p (expr_kind.FnCall c q) ≡ expr_kind.FnCall c p
placed-FnCall p c q = ap (placed p) (sym (expr_kind.rolls-FnCall c q)) ∙ placed-roll p (open_one.Expr::FnCall c q)

pub placed-Dot : (p : Position) (x : BinaryExpr) (k : ASTFlags) (q : Position) → placed p (expr_kind.Dot x k q) ≡ expr_kind.Dot x k p
placed-Dot p x k q = ap (placed p) (sym (expr_kind.rolls-Dot x k q)) ∙ placed-roll p (open_one.Dot x k q)

pub placed-Index : (p : Position) (x : BinaryExpr) (k : ASTFlags) (q : Position) → placed p (expr_kind.Index x k q) ≡ expr_kind.Index x k p
placed-Index p x k q = ap (placed p) (sym (expr_kind.rolls-Index x k q)) ∙ placed-roll p (open_one.Index x k q)

pub placed-And : (p : Position) (xs : List declared_expr.Expr) (q : Position) → placed p (expr_kind.And xs q) ≡ expr_kind.And xs p
placed-And p xs q = ap (placed p) (sym (expr_kind.rolls-And xs q)) ∙ placed-roll p (open_one.And xs q)

pub placed-Or : (p : Position) (xs : List declared_expr.Expr) (q : Position) → placed p (expr_kind.Or xs q) ≡ expr_kind.Or xs p
placed-Or p xs q = ap (placed p) (sym (expr_kind.rolls-Or xs q)) ∙ placed-roll p (open_one.Or xs q)

pub placed-Coalesce : (p : Position) (xs : List declared_expr.Expr) (q : Position) → placed p (expr_kind.Coalesce xs q) ≡ expr_kind.Coalesce xs p
placed-Coalesce p xs q = ap (placed p) (sym (expr_kind.rolls-Coalesce xs q)) ∙ placed-roll p (open_one.Coalesce xs q)

pub stmt_placed-Noop : (p : Position) (q : Position) → stmt_placed p (stmt_kind.Noop q) ≡ stmt_kind.Noop p
stmt_placed-Noop p q = ap (stmt_placed p) (sym (stmt_kind.rolls-Noop q)) ∙ stmt_placed-roll p (open_one.Noop q)

pub stmt_placed-If : (p : Position) (x : FlowControl) (q : Position) → stmt_placed p (stmt_kind.If x q) ≡ stmt_kind.If x p
stmt_placed-If p x q = ap (stmt_placed p) (sym (stmt_kind.rolls-If x q)) ∙ stmt_placed-roll p (open_one.If x q)

pub stmt_placed-Switch : (p : Position) (x : SwitchBlock) (q : Position) → stmt_placed p (stmt_kind.Switch x q) ≡ stmt_kind.Switch x p
stmt_placed-Switch p x q = ap (stmt_placed p) (sym (stmt_kind.rolls-Switch x q)) ∙ stmt_placed-roll p (open_one.Switch x q)

pub stmt_placed-While : (p : Position) (x : FlowControl) (q : Position) → stmt_placed p (stmt_kind.While x q) ≡ stmt_kind.While x p
stmt_placed-While p x q = ap (stmt_placed p) (sym (stmt_kind.rolls-While x q)) ∙ stmt_placed-roll p (open_one.While x q)

pub stmt_placed-Do : (p : Position) (x : FlowControl) (k : ASTFlags) (q : Position) → stmt_placed p (stmt_kind.Do x k q) ≡ stmt_kind.Do x k p
stmt_placed-Do p x k q = ap (stmt_placed p) (sym (stmt_kind.rolls-Do x k q)) ∙ stmt_placed-roll p (open_one.Do x k q)

pub stmt_placed-For : (p : Position) (x : Ident × Option Ident × FlowControl) (q : Position) → stmt_placed p (stmt_kind.For x q) ≡ stmt_kind.For x p
stmt_placed-For p x q = ap (stmt_placed p) (sym (stmt_kind.rolls-For x q)) ∙ stmt_placed-roll p (open_one.For x q)

pub stmt_placed-Var : (p : Position) (x : Ident × declared_expr.Expr × Option NonZeroUsize) (k : ASTFlags) (q : Position) → stmt_placed p (stmt_kind.Var x k q) ≡ stmt_kind.Var x k p
stmt_placed-Var p x k q = ap (stmt_placed p) (sym (stmt_kind.rolls-Var x k q)) ∙ stmt_placed-roll p (open_one.Var x k q)

pub stmt_placed-Assignment : (p : Position) (x : OpAssignment × BinaryExpr) → stmt_placed p (stmt_kind.Assignment x) ≡ stmt_kind.Assignment (record x.0 { pos = p }, x.1)
stmt_placed-Assignment p x = ap (stmt_placed p) (sym (stmt_kind.rolls-Assignment x)) ∙ stmt_placed-roll p (open_one.Assignment x)

pub stmt_placed-FnCall : (p : Position) (c : FnCallExpr) (q : Position) → stmt_placed p (stmt_kind.FnCall c q) ≡ stmt_kind.FnCall c p
stmt_placed-FnCall p c q = ap (stmt_placed p) (sym (stmt_kind.rolls-FnCall c q)) ∙ stmt_placed-roll p (open_one.Stmt::FnCall c q)

pub stmt_placed-Block : (p : Position) (b : StmtBlock) → stmt_placed p (stmt_kind.Block b) ≡ stmt_kind.Block (with_span (record { start = p; end = b.span.end }) b)
stmt_placed-Block p b = ap (stmt_placed p) (sym (stmt_kind.rolls-Block b)) ∙ stmt_placed-roll p (open_one.Block b)

pub stmt_placed-TryCatch : (p : Position) (x : FlowControl) (q : Position) → stmt_placed p (stmt_kind.TryCatch x q) ≡ stmt_kind.TryCatch x p
stmt_placed-TryCatch p x q = ap (stmt_placed p) (sym (stmt_kind.rolls-TryCatch x q)) ∙ stmt_placed-roll p (open_one.TryCatch x q)

pub stmt_placed-Expr : (p : Position) (e : declared_expr.Expr) → stmt_placed p (stmt_kind.Expr e) ≡ stmt_kind.Expr (placed p e)
stmt_placed-Expr p e = ap (stmt_placed p) (sym (stmt_kind.rolls-Expr e)) ∙ stmt_placed-roll p (open_one.Expr e)

pub stmt_placed-BreakLoop : (p : Position) (e : Option declared_expr.Expr) (k : ASTFlags) (q : Position) → stmt_placed p (stmt_kind.BreakLoop e k q) ≡ stmt_kind.BreakLoop e k p
stmt_placed-BreakLoop p e k q = ap (stmt_placed p) (sym (stmt_kind.rolls-BreakLoop e k q)) ∙ stmt_placed-roll p (open_one.BreakLoop e k q)

pub stmt_placed-Return : (p : Position) (e : Option declared_expr.Expr) (k : ASTFlags) (q : Position) → stmt_placed p (stmt_kind.Return e k q) ≡ stmt_kind.Return e k p
stmt_placed-Return p e k q = ap (stmt_placed p) (sym (stmt_kind.rolls-Return e k q)) ∙ stmt_placed-roll p (open_one.Return e k q)

pub stmt_placed-Import : (p : Position) (x : declared_expr.Expr × Ident) (q : Position) → stmt_placed p (stmt_kind.Import x q) ≡ stmt_kind.Import x p
stmt_placed-Import p x q = ap (stmt_placed p) (sym (stmt_kind.rolls-Import x q)) ∙ stmt_placed-roll p (open_one.Import x q)

pub stmt_placed-Export : (p : Position) (x : Ident × Ident) (q : Position) → stmt_placed p (stmt_kind.Export x q) ≡ stmt_kind.Export x p
stmt_placed-Export p x q = ap (stmt_placed p) (sym (stmt_kind.rolls-Export x q)) ∙ stmt_placed-roll p (open_one.Export x q)

pub stmt_placed-Share : (p : Position) (xs : List (Ident × Option NonZeroUsize)) → stmt_placed p (stmt_kind.Share xs) ≡ stmt_kind.Share (map (name_placed p) xs)
stmt_placed-Share p xs = ap (stmt_placed p) (sym (stmt_kind.rolls-Share xs)) ∙ stmt_placed-roll p (open_one.Share xs)

pub ruleset placements = (
  placed-DynamicConstant,
  placed-BoolConstant,
  placed-IntegerConstant,
  placed-FloatConstant,
  placed-CharConstant,
  placed-StringConstant,
  placed-InterpolatedString,
  placed-Array,
  placed-Map,
  placed-Unit,
  placed-Variable,
  placed-ThisPtr,
  placed-Property,
  placed-MethodCall,
  placed-Stmt,
  placed-FnCall,
  placed-Dot,
  placed-Index,
  placed-And,
  placed-Or,
  placed-Coalesce,
  stmt_placed-Noop,
  stmt_placed-If,
  stmt_placed-Switch,
  stmt_placed-While,
  stmt_placed-Do,
  stmt_placed-For,
  stmt_placed-Var,
  stmt_placed-Assignment,
  stmt_placed-FnCall,
  stmt_placed-Block,
  stmt_placed-TryCatch,
  stmt_placed-Expr,
  stmt_placed-BreakLoop,
  stmt_placed-Return,
  stmt_placed-Import,
  stmt_placed-Export,
  stmt_placed-Share,
)
