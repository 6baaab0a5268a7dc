-- Where declared nodes stand, and the flags that are set on them.
use Rattle.std.specs.Prelude.{◌≡◌, ℕ, ℤ, Bool, List, [], ◌∷◌, map, Option}
use Rattle.std.proofs.Common.{refl, sym, ap, ◌∙◌}
use Rattle.rhai_base.specs.declared.dynamic.Dynamic.{Dynamic}
use Rattle.rhai_base.specs.declared.float_wrapper.FloatWrapper.{FloatWrapper}
use Rattle.base_tokens.specs.declared.op_assignment.OpAssignment.{OpAssignment}
use Rattle.base_tokens.specs.declared.position.Position.{Position}
use Rattle.base_tokens.specs.declared.flags.ASTFlags.{ASTFlags}
use Rattle.base_tokens.specs.declared.ident.Ident.{Ident}
use Rattle.base_tokens.specs.declared.namespace.Namespace.{Namespace}
use Rattle.std.specs.declared.num.NonZeroU8.{NonZeroU8}
use Rattle.std.specs.declared.num.NonZeroUsize.{NonZeroUsize}
use Rattle.rhai_base.specs.Value.{Text}
use Rattle.ast_types.specs.Defaults.{nowhere}
use Rattle.ast_types.specs.declared.expr.Expr as declared_expr
use Rattle.ast_types.specs.declared.expr.Expr.TheOpen as open_one
use Rattle.ast_types.specs.declared.expr.Expr.TheViews as views
use Rattle.ast_types.specs.declared.expr.Expr.TheFolds as folds
use Rattle.ast_types.specs.declared.expr.Expr.TheVariants as expr_kind
use Rattle.ast_types.specs.declared.stmt.Stmt.TheVariants as stmt_kind
use Rattle.ast_types.specs.declared.stmt.Stmt as declared_stmt
use Rattle.ast_types.specs.declared.block.StmtBlock.{StmtBlock}
use Rattle.ast_types.specs.declared.expr.BinaryExpr.{BinaryExpr}
use Rattle.ast_types.specs.declared.expr.FnCallExpr.{FnCallExpr}
use Rattle.ast_types.specs.declared.stmt.FlowControl.{FlowControl}
use Rattle.ast_types.specs.declared.switch.SwitchBlock.{SwitchBlock}
use Rattle.ast_types.specs.declared.switch.SwitchCasesCollection.{SwitchCasesCollection}

-- the first that stands there, or this one
abbrev pub first_or : Position → List Position → Position
first_or p [] = p
first_or p (q ∷ qs) = q

abbrev pub no_flags : ASTFlags
no_flags = record { 0 = 0 }

abbrev pub ExprLayer : Type 0
ExprLayer = open_one.Expr-F declared_expr.Expr declared_stmt.Stmt StmtBlock BinaryExpr FnCallExpr FlowControl SwitchBlock SwitchCasesCollection

abbrev pub StmtLayer : Type 0
StmtLayer = open_one.Stmt-F declared_expr.Expr declared_stmt.Stmt StmtBlock BinaryExpr FnCallExpr FlowControl SwitchBlock SwitchCasesCollection

-- where a node stands; braces stand where they begin
abbrev pub position_in : ExprLayer → Position
position_in (open_one.DynamicConstant v p) = p
position_in (open_one.BoolConstant b p) = p
position_in (open_one.IntegerConstant n p) = p
position_in (open_one.FloatConstant x p) = p
position_in (open_one.CharConstant c p) = p
position_in (open_one.StringConstant t p) = p
position_in (open_one.InterpolatedString xs p) = p
position_in (open_one.Array xs p) = p
position_in (open_one.Map m p) = p
position_in (open_one.Unit p) = p
position_in (open_one.Variable x short p) = p
position_in (open_one.ThisPtr p) = p
position_in (open_one.Property x p) = p
position_in (open_one.MethodCall c p) = p
position_in (open_one.Stmt b) = b.span.start
position_in (open_one.Expr::FnCall c p) = p
position_in (open_one.Dot x k p) = p
position_in (open_one.Index x k p) = p
position_in (open_one.And xs p) = p
position_in (open_one.Or xs p) = p
position_in (open_one.Coalesce xs p) = p

pub position_of : declared_expr.Expr → Position
position_of e = position_in (views.out-Expr e)

-- where the leftmost part stands, layer by layer: of a chain its base, of operands the first, of a name its namespace
abbrev first_name : Position → Namespace → Position
first_name p n = first_or p (map (λ i. i.pos) n.path)

abbrev start_step : open_one.Expr-F Position (Unit {0}) Position Position (Unit {0}) (Unit {0}) (Unit {0}) (Unit {0}) → Position
start_step (open_one.DynamicConstant v p) = p
start_step (open_one.BoolConstant b p) = p
start_step (open_one.IntegerConstant n p) = p
start_step (open_one.FloatConstant x p) = p
start_step (open_one.CharConstant c p) = p
start_step (open_one.StringConstant t p) = p
start_step (open_one.InterpolatedString xs p) = p
start_step (open_one.Array xs p) = p
start_step (open_one.Map m p) = p
start_step (open_one.Unit p) = p
start_step (open_one.Variable x short p) = first_name p x.2
start_step (open_one.ThisPtr p) = p
start_step (open_one.Property x p) = p
start_step (open_one.MethodCall c p) = p
start_step (open_one.Stmt b) = b
start_step (open_one.Expr::FnCall c p) = p
start_step (open_one.Dot x k p) = x
start_step (open_one.Index x k p) = x
start_step (open_one.And xs p) = first_or p xs
start_step (open_one.Or xs p) = first_or p xs
start_step (open_one.Coalesce xs p) = first_or p xs

pub start_of : declared_expr.Expr → Position
start_of = folds.fold-Expr Position (Unit {0}) Position Position (Unit {0}) (Unit {0}) (Unit {0}) (Unit {0}) start_step (λ s. tt) (λ b. b.span.start) (λ b. b.lhs) (λ c. tt) (λ f. tt) (λ s. tt) (λ t. tt)

abbrev fold_sides : BinaryExpr → Position
fold_sides = folds.fold-BinaryExpr Position (Unit {0}) Position Position (Unit {0}) (Unit {0}) (Unit {0}) (Unit {0}) start_step (λ s. tt) (λ b. b.span.start) (λ b. b.lhs) (λ c. tt) (λ f. tt) (λ s. tt) (λ t. tt)

abbrev fold_block : StmtBlock → Position
fold_block = folds.fold-StmtBlock Position (Unit {0}) Position Position (Unit {0}) (Unit {0}) (Unit {0}) (Unit {0}) start_step (λ s. tt) (λ b. b.span.start) (λ b. b.lhs) (λ c. tt) (λ f. tt) (λ s. tt) (λ t. tt)

sides_start : (b : BinaryExpr) → fold_sides b ≡ start_of b.lhs
unfolding start_of
sides_start b = folds.fold_out-BinaryExpr Position (Unit {0}) Position Position (Unit {0}) (Unit {0}) (Unit {0}) (Unit {0}) start_step (λ s. tt) (λ b. b.span.start) (λ b. b.lhs) (λ c. tt) (λ f. tt) (λ s. tt) (λ t. tt) b ∙ ap (λ (o : open_one.BinaryExpr-F declared_expr.Expr declared_stmt.Stmt StmtBlock BinaryExpr FnCallExpr FlowControl SwitchBlock SwitchCasesCollection). start_of o.lhs) (views.outs-struct-BinaryExpr b)

block_start : (b : StmtBlock) → fold_block b ≡ b.span.start
block_start b = folds.fold_out-StmtBlock Position (Unit {0}) Position Position (Unit {0}) (Unit {0}) (Unit {0}) (Unit {0}) start_step (λ s. tt) (λ b. b.span.start) (λ b. b.lhs) (λ c. tt) (λ f. tt) (λ s. tt) (λ t. tt) b ∙ ap (λ (o : open_one.StmtBlock-F declared_expr.Expr declared_stmt.Stmt StmtBlock BinaryExpr FnCallExpr FlowControl SwitchBlock SwitchCasesCollection). o.span.start) (views.outs-struct-StmtBlock b)

abbrev options_in : ExprLayer → ASTFlags
options_in (open_one.Dot x k p) = k
options_in (open_one.Index x k p) = k
options_in _ = no_flags

pub options_of : declared_expr.Expr → ASTFlags
options_of e = options_in (views.out-Expr e)

abbrev arguments_in : ExprLayer → List declared_expr.Expr
arguments_in (open_one.Expr::FnCall c p) = c.args
arguments_in _ = []

-- the arguments of a call, and none of another node
pub arguments_of : declared_expr.Expr → List declared_expr.Expr
arguments_of e = arguments_in (views.out-Expr e)

-- all of them stand there
abbrev pub AreAt : Position → List declared_expr.Expr → Type 0
AreAt p es = map position_of es ≡ map (λ e. p) es

-- where a statement stands
abbrev stmt_position_in : StmtLayer → Position
stmt_position_in (open_one.Noop p) = p
stmt_position_in (open_one.If x p) = p
stmt_position_in (open_one.Switch x p) = p
stmt_position_in (open_one.While x p) = p
stmt_position_in (open_one.Do x k p) = p
stmt_position_in (open_one.For x p) = p
stmt_position_in (open_one.Var x k p) = p
stmt_position_in (open_one.Assignment x) = x.0.pos
stmt_position_in (open_one.Stmt::FnCall c p) = p
stmt_position_in (open_one.Block b) = b.span.start
stmt_position_in (open_one.TryCatch x p) = p
stmt_position_in (open_one.Expr e) = start_of e
stmt_position_in (open_one.BreakLoop e k p) = p
stmt_position_in (open_one.Return e k p) = p
stmt_position_in (open_one.Import x p) = p
stmt_position_in (open_one.Export x p) = p
stmt_position_in (open_one.Share xs) = first_or nowhere (map (λ x. x.0.pos) xs)

pub stmt_position_of : declared_stmt.Stmt → Position
stmt_position_of s = stmt_position_in (views.out-Stmt s)

abbrev stmt_options_in : StmtLayer → ASTFlags
stmt_options_in (open_one.Do x k p) = k
stmt_options_in (open_one.Var x k p) = k
stmt_options_in (open_one.BreakLoop e k p) = k
stmt_options_in (open_one.Return e k p) = k
stmt_options_in _ = no_flags

pub stmt_options_of : declared_stmt.Stmt → ASTFlags
stmt_options_of s = stmt_options_in (views.out-Stmt s)

-- ---- what they are at each node

pub position_of-is : (e : declared_expr.Expr) → position_of e ≡ position_in (views.out-Expr e)
unfolding position_of
position_of-is e = refl

pub options_of-is : (e : declared_expr.Expr) → options_of e ≡ options_in (views.out-Expr e)
unfolding options_of
options_of-is e = refl

pub arguments_of-is : (e : declared_expr.Expr) → arguments_of e ≡ arguments_in (views.out-Expr e)
unfolding arguments_of
arguments_of-is e = refl

pub stmt_position_of-is : (s : declared_stmt.Stmt) → stmt_position_of s ≡ stmt_position_in (views.out-Stmt s)
unfolding stmt_position_of
stmt_position_of-is s = refl

pub stmt_options_of-is : (s : declared_stmt.Stmt) → stmt_options_of s ≡ stmt_options_in (views.out-Stmt s)
unfolding stmt_options_of
stmt_options_of-is s = refl

-- the layer of each kind of node

pub opens-Expr-DynamicConstant : (v : Dynamic) (p : Position) → views.out-Expr (expr_kind.DynamicConstant v p) ≡ open_one.DynamicConstant v p
opens-Expr-DynamicConstant v p = ap views.out-Expr (sym (expr_kind.rolls-DynamicConstant v p)) ∙ views.out-roll-Expr (open_one.DynamicConstant v p)

pub opens-Expr-BoolConstant : (b : Bool) (p : Position) → views.out-Expr (expr_kind.BoolConstant b p) ≡ open_one.BoolConstant b p
opens-Expr-BoolConstant b p = ap views.out-Expr (sym (expr_kind.rolls-BoolConstant b p)) ∙ views.out-roll-Expr (open_one.BoolConstant b p)

pub opens-Expr-IntegerConstant : (n : ℤ) (p : Position) → views.out-Expr (expr_kind.IntegerConstant n p) ≡ open_one.IntegerConstant n p
opens-Expr-IntegerConstant n p = ap views.out-Expr (sym (expr_kind.rolls-IntegerConstant n p)) ∙ views.out-roll-Expr (open_one.IntegerConstant n p)

pub opens-Expr-FloatConstant : (x : FloatWrapper) (p : Position) → views.out-Expr (expr_kind.FloatConstant x p) ≡ open_one.FloatConstant x p
opens-Expr-FloatConstant x p = ap views.out-Expr (sym (expr_kind.rolls-FloatConstant x p)) ∙ views.out-roll-Expr (open_one.FloatConstant x p)

pub opens-Expr-CharConstant : (c : ℕ) (p : Position) → views.out-Expr (expr_kind.CharConstant c p) ≡ open_one.CharConstant c p
opens-Expr-CharConstant c p = ap views.out-Expr (sym (expr_kind.rolls-CharConstant c p)) ∙ views.out-roll-Expr (open_one.CharConstant c p)

pub opens-Expr-StringConstant : (t : Text) (p : Position) → views.out-Expr (expr_kind.StringConstant t p) ≡ open_one.StringConstant t p
opens-Expr-StringConstant t p = ap views.out-Expr (sym (expr_kind.rolls-StringConstant t p)) ∙ views.out-roll-Expr (open_one.StringConstant t p)

pub opens-Expr-InterpolatedString : (xs : List declared_expr.Expr) (p : Position) → views.out-Expr (expr_kind.InterpolatedString xs p) ≡ open_one.InterpolatedString xs p
opens-Expr-InterpolatedString xs p = ap views.out-Expr (sym (expr_kind.rolls-InterpolatedString xs p)) ∙ views.out-roll-Expr (open_one.InterpolatedString xs p)

pub opens-Expr-Array : (xs : List declared_expr.Expr) (p : Position) → views.out-Expr (expr_kind.Array xs p) ≡ open_one.Array xs p
opens-Expr-Array xs p = ap views.out-Expr (sym (expr_kind.rolls-Array xs p)) ∙ views.out-roll-Expr (open_one.Array xs p)

pub opens-Expr-Map : (m : List (Ident × declared_expr.Expr) × List (Text × Dynamic)) (p : Position) → views.out-Expr (expr_kind.Map m p) ≡ open_one.Map m p
opens-Expr-Map m p = ap views.out-Expr (sym (expr_kind.rolls-Map m p)) ∙ views.out-roll-Expr (open_one.Map m p)

pub opens-Expr-Unit : (p : Position) → views.out-Expr (expr_kind.Unit p) ≡ open_one.Unit p
opens-Expr-Unit p = ap views.out-Expr (sym (expr_kind.rolls-Unit p)) ∙ views.out-roll-Expr (open_one.Unit p)

pub opens-Expr-Variable : (x : Option NonZeroUsize × Text × Namespace) (short : Option NonZeroU8) (p : Position) → views.out-Expr (expr_kind.Variable x short p) ≡ open_one.Variable x short p
opens-Expr-Variable x short p = ap views.out-Expr (sym (expr_kind.rolls-Variable x short p)) ∙ views.out-roll-Expr (open_one.Variable x short p)

pub opens-Expr-ThisPtr : (p : Position) → views.out-Expr (expr_kind.ThisPtr p) ≡ open_one.ThisPtr p
opens-Expr-ThisPtr p = ap views.out-Expr (sym (expr_kind.rolls-ThisPtr p)) ∙ views.out-roll-Expr (open_one.ThisPtr p)

pub opens-Expr-Property : (x : Text × Text × Text) (p : Position) → views.out-Expr (expr_kind.Property x p) ≡ open_one.Property x p
opens-Expr-Property x p = ap views.out-Expr (sym (expr_kind.rolls-Property x p)) ∙ views.out-roll-Expr (open_one.Property x p)

pub opens-Expr-MethodCall : (c : FnCallExpr) (p : Position) → views.out-Expr (expr_kind.MethodCall c p) ≡ open_one.MethodCall c p
opens-Expr-MethodCall c p = ap views.out-Expr (sym (expr_kind.rolls-MethodCall c p)) ∙ views.out-roll-Expr (open_one.MethodCall c p)

pub opens-Expr-Stmt : (b : StmtBlock) → views.out-Expr (expr_kind.Stmt b) ≡ open_one.Stmt b
opens-Expr-Stmt b = ap views.out-Expr (sym (expr_kind.rolls-Stmt b)) ∙ views.out-roll-Expr (open_one.Stmt b)

pub opens-Expr-FnCall : (c : FnCallExpr) (p : Position) → views.out-Expr (expr_kind.FnCall c p) ≡ open_one.Expr::FnCall c p
opens-Expr-FnCall c p = ap views.out-Expr (sym (expr_kind.rolls-FnCall c p)) ∙ views.out-roll-Expr (open_one.Expr::FnCall c p)

pub opens-Expr-Dot : (x : BinaryExpr) (k : ASTFlags) (p : Position) → views.out-Expr (expr_kind.Dot x k p) ≡ open_one.Dot x k p
opens-Expr-Dot x k p = ap views.out-Expr (sym (expr_kind.rolls-Dot x k p)) ∙ views.out-roll-Expr (open_one.Dot x k p)

pub opens-Expr-Index : (x : BinaryExpr) (k : ASTFlags) (p : Position) → views.out-Expr (expr_kind.Index x k p) ≡ open_one.Index x k p
opens-Expr-Index x k p = ap views.out-Expr (sym (expr_kind.rolls-Index x k p)) ∙ views.out-roll-Expr (open_one.Index x k p)

pub opens-Expr-And : (xs : List declared_expr.Expr) (p : Position) → views.out-Expr (expr_kind.And xs p) ≡ open_one.And xs p
opens-Expr-And xs p = ap views.out-Expr (sym (expr_kind.rolls-And xs p)) ∙ views.out-roll-Expr (open_one.And xs p)

pub opens-Expr-Or : (xs : List declared_expr.Expr) (p : Position) → views.out-Expr (expr_kind.Or xs p) ≡ open_one.Or xs p
opens-Expr-Or xs p = ap views.out-Expr (sym (expr_kind.rolls-Or xs p)) ∙ views.out-roll-Expr (open_one.Or xs p)

pub opens-Expr-Coalesce : (xs : List declared_expr.Expr) (p : Position) → views.out-Expr (expr_kind.Coalesce xs p) ≡ open_one.Coalesce xs p
opens-Expr-Coalesce xs p = ap views.out-Expr (sym (expr_kind.rolls-Coalesce xs p)) ∙ views.out-roll-Expr (open_one.Coalesce xs p)

pub opens-Stmt-Noop : (p : Position) → views.out-Stmt (stmt_kind.Noop p) ≡ open_one.Noop p
opens-Stmt-Noop p = ap views.out-Stmt (sym (stmt_kind.rolls-Noop p)) ∙ views.out-roll-Stmt (open_one.Noop p)

pub opens-Stmt-If : (x : FlowControl) (p : Position) → views.out-Stmt (stmt_kind.If x p) ≡ open_one.If x p
opens-Stmt-If x p = ap views.out-Stmt (sym (stmt_kind.rolls-If x p)) ∙ views.out-roll-Stmt (open_one.If x p)

pub opens-Stmt-Switch : (x : SwitchBlock) (p : Position) → views.out-Stmt (stmt_kind.Switch x p) ≡ open_one.Switch x p
opens-Stmt-Switch x p = ap views.out-Stmt (sym (stmt_kind.rolls-Switch x p)) ∙ views.out-roll-Stmt (open_one.Switch x p)

pub opens-Stmt-While : (x : FlowControl) (p : Position) → views.out-Stmt (stmt_kind.While x p) ≡ open_one.While x p
opens-Stmt-While x p = ap views.out-Stmt (sym (stmt_kind.rolls-While x p)) ∙ views.out-roll-Stmt (open_one.While x p)

pub opens-Stmt-Do : (x : FlowControl) (k : ASTFlags) (p : Position) → views.out-Stmt (stmt_kind.Do x k p) ≡ open_one.Do x k p
opens-Stmt-Do x k p = ap views.out-Stmt (sym (stmt_kind.rolls-Do x k p)) ∙ views.out-roll-Stmt (open_one.Do x k p)

pub opens-Stmt-For : (x : Ident × Option Ident × FlowControl) (p : Position) → views.out-Stmt (stmt_kind.For x p) ≡ open_one.For x p
opens-Stmt-For x p = ap views.out-Stmt (sym (stmt_kind.rolls-For x p)) ∙ views.out-roll-Stmt (open_one.For x p)

pub opens-Stmt-Var : (x : Ident × declared_expr.Expr × Option NonZeroUsize) (k : ASTFlags) (p : Position) → views.out-Stmt (stmt_kind.Var x k p) ≡ open_one.Var x k p
opens-Stmt-Var x k p = ap views.out-Stmt (sym (stmt_kind.rolls-Var x k p)) ∙ views.out-roll-Stmt (open_one.Var x k p)

pub opens-Stmt-Assignment : (x : OpAssignment × BinaryExpr) → views.out-Stmt (stmt_kind.Assignment x) ≡ open_one.Assignment x
opens-Stmt-Assignment x = ap views.out-Stmt (sym (stmt_kind.rolls-Assignment x)) ∙ views.out-roll-Stmt (open_one.Assignment x)

pub opens-Stmt-FnCall : (c : FnCallExpr) (p : Position) → views.out-Stmt (stmt_kind.FnCall c p) ≡ open_one.Stmt::FnCall c p
opens-Stmt-FnCall c p = ap views.out-Stmt (sym (stmt_kind.rolls-FnCall c p)) ∙ views.out-roll-Stmt (open_one.Stmt::FnCall c p)

pub opens-Stmt-Block : (b : StmtBlock) → views.out-Stmt (stmt_kind.Block b) ≡ open_one.Block b
opens-Stmt-Block b = ap views.out-Stmt (sym (stmt_kind.rolls-Block b)) ∙ views.out-roll-Stmt (open_one.Block b)

pub opens-Stmt-TryCatch : (x : FlowControl) (p : Position) → views.out-Stmt (stmt_kind.TryCatch x p) ≡ open_one.TryCatch x p
opens-Stmt-TryCatch x p = ap views.out-Stmt (sym (stmt_kind.rolls-TryCatch x p)) ∙ views.out-roll-Stmt (open_one.TryCatch x p)

pub opens-Stmt-Expr : (e : declared_expr.Expr) → views.out-Stmt (stmt_kind.Expr e) ≡ open_one.Expr e
opens-Stmt-Expr e = ap views.out-Stmt (sym (stmt_kind.rolls-Expr e)) ∙ views.out-roll-Stmt (open_one.Expr e)

pub opens-Stmt-BreakLoop : (e : Option declared_expr.Expr) (k : ASTFlags) (p : Position) → views.out-Stmt (stmt_kind.BreakLoop e k p) ≡ open_one.BreakLoop e k p
opens-Stmt-BreakLoop e k p = ap views.out-Stmt (sym (stmt_kind.rolls-BreakLoop e k p)) ∙ views.out-roll-Stmt (open_one.BreakLoop e k p)

pub opens-Stmt-Return : (e : Option declared_expr.Expr) (k : ASTFlags) (p : Position) → views.out-Stmt (stmt_kind.Return e k p) ≡ open_one.Return e k p
opens-Stmt-Return e k p = ap views.out-Stmt (sym (stmt_kind.rolls-Return e k p)) ∙ views.out-roll-Stmt (open_one.Return e k p)

pub opens-Stmt-Import : (x : declared_expr.Expr × Ident) (p : Position) → views.out-Stmt (stmt_kind.Import x p) ≡ open_one.Import x p
opens-Stmt-Import x p = ap views.out-Stmt (sym (stmt_kind.rolls-Import x p)) ∙ views.out-roll-Stmt (open_one.Import x p)

pub opens-Stmt-Export : (x : Ident × Ident) (p : Position) → views.out-Stmt (stmt_kind.Export x p) ≡ open_one.Export x p
opens-Stmt-Export x p = ap views.out-Stmt (sym (stmt_kind.rolls-Export x p)) ∙ views.out-roll-Stmt (open_one.Export x p)

pub opens-Stmt-Share : (xs : List (Ident × Option NonZeroUsize)) → views.out-Stmt (stmt_kind.Share xs) ≡ open_one.Share xs
opens-Stmt-Share xs = ap views.out-Stmt (sym (stmt_kind.rolls-Share xs)) ∙ views.out-roll-Stmt (open_one.Share xs)

start_of-roll : (x : ExprLayer) → start_of (views.roll-Expr x) ≡ start_step (folds.map-Expr _ _ _ _ _ _ _ _ _ _ _ _ _ _ _ _ start_of (folds.fold-Stmt Position (Unit {0}) Position Position (Unit {0}) (Unit {0}) (Unit {0}) (Unit {0}) start_step (λ s. tt) (λ b. b.span.start) (λ b. b.lhs) (λ c. tt) (λ f. tt) (λ s. tt) (λ t. tt)) (folds.fold-StmtBlock Position (Unit {0}) Position Position (Unit {0}) (Unit {0}) (Unit {0}) (Unit {0}) start_step (λ s. tt) (λ b. b.span.start) (λ b. b.lhs) (λ c. tt) (λ f. tt) (λ s. tt) (λ t. tt)) (folds.fold-BinaryExpr Position (Unit {0}) Position Position (Unit {0}) (Unit {0}) (Unit {0}) (Unit {0}) start_step (λ s. tt) (λ b. b.span.start) (λ b. b.lhs) (λ c. tt) (λ f. tt) (λ s. tt) (λ t. tt)) (folds.fold-FnCallExpr Position (Unit {0}) Position Position (Unit {0}) (Unit {0}) (Unit {0}) (Unit {0}) start_step (λ s. tt) (λ b. b.span.start) (λ b. b.lhs) (λ c. tt) (λ f. tt) (λ s. tt) (λ t. tt)) (folds.fold-FlowControl Position (Unit {0}) Position Position (Unit {0}) (Unit {0}) (Unit {0}) (Unit {0}) start_step (λ s. tt) (λ b. b.span.start) (λ b. b.lhs) (λ c. tt) (λ f. tt) (λ s. tt) (λ t. tt)) (folds.fold-SwitchBlock Position (Unit {0}) Position Position (Unit {0}) (Unit {0}) (Unit {0}) (Unit {0}) start_step (λ s. tt) (λ b. b.span.start) (λ b. b.lhs) (λ c. tt) (λ f. tt) (λ s. tt) (λ t. tt)) (folds.fold-SwitchCasesCollection Position (Unit {0}) Position Position (Unit {0}) (Unit {0}) (Unit {0}) (Unit {0}) start_step (λ s. tt) (λ b. b.span.start) (λ b. b.lhs) (λ c. tt) (λ f. tt) (λ s. tt) (λ t. tt)) x)
unfolding start_of
start_of-roll x = folds.fold-roll-Expr Position (Unit {0}) Position Position (Unit {0}) (Unit {0}) (Unit {0}) (Unit {0}) start_step (λ s. tt) (λ b. b.span.start) (λ b. b.lhs) (λ c. tt) (λ f. tt) (λ s. tt) (λ t. tt) x

pub start_of-DynamicConstant : (v : Dynamic) (p : Position) → start_of (expr_kind.DynamicConstant v p) ≡ p
start_of-DynamicConstant v p = ap start_of (sym (expr_kind.rolls-DynamicConstant v p)) ∙ start_of-roll (open_one.DynamicConstant v p)

pub start_of-BoolConstant : (b : Bool) (p : Position) → start_of (expr_kind.BoolConstant b p) ≡ p
start_of-BoolConstant b p = ap start_of (sym (expr_kind.rolls-BoolConstant b p)) ∙ start_of-roll (open_one.BoolConstant b p)

pub start_of-IntegerConstant : (n : ℤ) (p : Position) → start_of (expr_kind.IntegerConstant n p) ≡ p
start_of-IntegerConstant n p = ap start_of (sym (expr_kind.rolls-IntegerConstant n p)) ∙ start_of-roll (open_one.IntegerConstant n p)

pub start_of-FloatConstant : (x : FloatWrapper) (p : Position) → start_of (expr_kind.FloatConstant x p) ≡ p
start_of-FloatConstant x p = ap start_of (sym (expr_kind.rolls-FloatConstant x p)) ∙ start_of-roll (open_one.FloatConstant x p)

pub start_of-CharConstant : (c : ℕ) (p : Position) → start_of (expr_kind.CharConstant c p) ≡ p
start_of-CharConstant c p = ap start_of (sym (expr_kind.rolls-CharConstant c p)) ∙ start_of-roll (open_one.CharConstant c p)

pub start_of-StringConstant : (t : Text) (p : Position) → start_of (expr_kind.StringConstant t p) ≡ p
start_of-StringConstant t p = ap start_of (sym (expr_kind.rolls-StringConstant t p)) ∙ start_of-roll (open_one.StringConstant t p)

pub start_of-InterpolatedString : (xs : List declared_expr.Expr) (p : Position) → start_of (expr_kind.InterpolatedString xs p) ≡ p
start_of-InterpolatedString xs p = ap start_of (sym (expr_kind.rolls-InterpolatedString xs p)) ∙ start_of-roll (open_one.InterpolatedString xs p)

pub start_of-Array : (xs : List declared_expr.Expr) (p : Position) → start_of (expr_kind.Array xs p) ≡ p
start_of-Array xs p = ap start_of (sym (expr_kind.rolls-Array xs p)) ∙ start_of-roll (open_one.Array xs p)

pub start_of-Map : (m : List (Ident × declared_expr.Expr) × List (Text × Dynamic)) (p : Position) → start_of (expr_kind.Map m p) ≡ p
start_of-Map m p = ap start_of (sym (expr_kind.rolls-Map m p)) ∙ start_of-roll (open_one.Map m p)

pub start_of-Unit : (p : Position) → start_of (expr_kind.Unit p) ≡ p
start_of-Unit p = ap start_of (sym (expr_kind.rolls-Unit p)) ∙ start_of-roll (open_one.Unit p)

pub start_of-Variable : (x : Option NonZeroUsize × Text × Namespace) (short : Option NonZeroU8) (p : Position) → start_of (expr_kind.Variable x short p) ≡ first_name p x.2
start_of-Variable x short p = ap start_of (sym (expr_kind.rolls-Variable x short p)) ∙ start_of-roll (open_one.Variable x short p)

pub start_of-ThisPtr : (p : Position) → start_of (expr_kind.ThisPtr p) ≡ p
start_of-ThisPtr p = ap start_of (sym (expr_kind.rolls-ThisPtr p)) ∙ start_of-roll (open_one.ThisPtr p)

pub start_of-Property : (x : Text × Text × Text) (p : Position) → start_of (expr_kind.Property x p) ≡ p
start_of-Property x p = ap start_of (sym (expr_kind.rolls-Property x p)) ∙ start_of-roll (open_one.Property x p)

pub start_of-MethodCall : (c : FnCallExpr) (p : Position) → start_of (expr_kind.MethodCall c p) ≡ p
start_of-MethodCall c p = ap start_of (sym (expr_kind.rolls-MethodCall c p)) ∙ start_of-roll (open_one.MethodCall c p)

pub start_of-Stmt : (b : StmtBlock) → start_of (expr_kind.Stmt b) ≡ b.span.start
start_of-Stmt b = ap start_of (sym (expr_kind.rolls-Stmt b)) ∙ start_of-roll (open_one.Stmt b) ∙ block_start b

pub start_of-FnCall : (c : FnCallExpr) (p : Position) → start_of (expr_kind.FnCall c p) ≡ p
start_of-FnCall c p = ap start_of (sym (expr_kind.rolls-FnCall c p)) ∙ start_of-roll (open_one.Expr::FnCall c p)

pub start_of-Dot : (x : BinaryExpr) (k : ASTFlags) (p : Position) → start_of (expr_kind.Dot x k p) ≡ start_of x.lhs
start_of-Dot x k p = ap start_of (sym (expr_kind.rolls-Dot x k p)) ∙ start_of-roll (open_one.Dot x k p) ∙ sides_start x

pub start_of-Index : (x : BinaryExpr) (k : ASTFlags) (p : Position) → start_of (expr_kind.Index x k p) ≡ start_of x.lhs
start_of-Index x k p = ap start_of (sym (expr_kind.rolls-Index x k p)) ∙ start_of-roll (open_one.Index x k p) ∙ sides_start x

pub start_of-And : (xs : List declared_expr.Expr) (p : Position) → start_of (expr_kind.And xs p) ≡ first_or p (map start_of xs)
start_of-And xs p = ap start_of (sym (expr_kind.rolls-And xs p)) ∙ start_of-roll (open_one.And xs p)

pub start_of-Or : (xs : List declared_expr.Expr) (p : Position) → start_of (expr_kind.Or xs p) ≡ first_or p (map start_of xs)
start_of-Or xs p = ap start_of (sym (expr_kind.rolls-Or xs p)) ∙ start_of-roll (open_one.Or xs p)

pub start_of-Coalesce : (xs : List declared_expr.Expr) (p : Position) → start_of (expr_kind.Coalesce xs p) ≡ first_or p (map start_of xs)
start_of-Coalesce xs p = ap start_of (sym (expr_kind.rolls-Coalesce xs p)) ∙ start_of-roll (open_one.Coalesce xs p)

pub ruleset places = (
  position_of-is,
  options_of-is,
  arguments_of-is,
  stmt_position_of-is,
  stmt_options_of-is,
  opens-Expr-DynamicConstant,
  opens-Expr-BoolConstant,
  opens-Expr-IntegerConstant,
  opens-Expr-FloatConstant,
  opens-Expr-CharConstant,
  opens-Expr-StringConstant,
  opens-Expr-InterpolatedString,
  opens-Expr-Array,
  opens-Expr-Map,
  opens-Expr-Unit,
  opens-Expr-Variable,
  opens-Expr-ThisPtr,
  opens-Expr-Property,
  opens-Expr-MethodCall,
  opens-Expr-Stmt,
  opens-Expr-FnCall,
  opens-Expr-Dot,
  opens-Expr-Index,
  opens-Expr-And,
  opens-Expr-Or,
  opens-Expr-Coalesce,
  opens-Stmt-Noop,
  opens-Stmt-If,
  opens-Stmt-Switch,
  opens-Stmt-While,
  opens-Stmt-Do,
  opens-Stmt-For,
  opens-Stmt-Var,
  opens-Stmt-Assignment,
  opens-Stmt-FnCall,
  opens-Stmt-Block,
  opens-Stmt-TryCatch,
  opens-Stmt-Expr,
  opens-Stmt-BreakLoop,
  opens-Stmt-Return,
  opens-Stmt-Import,
  opens-Stmt-Export,
  opens-Stmt-Share,
  start_of-DynamicConstant,
  start_of-BoolConstant,
  start_of-IntegerConstant,
  start_of-FloatConstant,
  start_of-CharConstant,
  start_of-StringConstant,
  start_of-InterpolatedString,
  start_of-Array,
  start_of-Map,
  start_of-Unit,
  start_of-Variable,
  start_of-ThisPtr,
  start_of-Property,
  start_of-MethodCall,
  start_of-Stmt,
  start_of-FnCall,
  start_of-Dot,
  start_of-Index,
  start_of-And,
  start_of-Or,
  start_of-Coalesce,
)
