-- Declared nodes that are none of a kind.
use Rattle.std.specs.Prelude.{◌≡◌, ℤ, Bool, List, Option}
use Rattle.std.specs.declared.num.NonZeroU8.{NonZeroU8}
use Rattle.std.specs.declared.num.NonZeroUsize.{NonZeroUsize}
use Rattle.base_tokens.specs.declared.position.Position.{Position}
use Rattle.base_tokens.specs.declared.flags.ASTFlags.{ASTFlags}
use Rattle.base_tokens.specs.declared.ident.Ident.{Ident}
use Rattle.base_tokens.specs.declared.namespace.Namespace.{Namespace}
use Rattle.base_tokens.specs.declared.op_assignment.OpAssignment.{OpAssignment}
use Rattle.rhai_base.specs.Value.{Text}
use Rattle.rhai_base.specs.declared.dynamic.Dynamic.{Dynamic}
use Rattle.ast_types.specs.declared.block.StmtBlock.{StmtBlock}
use Rattle.ast_types.specs.declared.expr.BinaryExpr.{BinaryExpr}
use Rattle.ast_types.specs.declared.expr.Expr as declared_expr
use Rattle.ast_types.specs.declared.expr.Expr.TheVariants as expr_kind
use Rattle.ast_types.specs.declared.expr.FnCallExpr.{FnCallExpr}
use Rattle.ast_types.specs.declared.stmt.FlowControl.{FlowControl}
use Rattle.ast_types.specs.declared.stmt.Stmt as declared_stmt
use Rattle.ast_types.specs.declared.stmt.Stmt.TheVariants as stmt_kind
use Rattle.ast_types.specs.declared.switch.SwitchBlock.{SwitchBlock}

-- ---- expressions

abbrev pub NoArray : declared_expr.Expr → Type 0
NoArray x = (es : List declared_expr.Expr) (p : Position) → x ≡ expr_kind.Array es p → ⊥

abbrev pub NoBraces : declared_expr.Expr → Type 0
NoBraces x = (b : StmtBlock) → x ≡ expr_kind.Stmt b → ⊥

abbrev pub NoCall : declared_expr.Expr → Type 0
NoCall x = (c : FnCallExpr) (p : Position) → x ≡ expr_kind.FnCall c p → ⊥

abbrev pub NoVariable : declared_expr.Expr → Type 0
NoVariable x = (v : Option NonZeroUsize × Text × Namespace) (i : Option NonZeroU8) (p : Position) → x ≡ expr_kind.Variable v i p → ⊥

abbrev pub NoAnd : declared_expr.Expr → Type 0
NoAnd x = (es : List declared_expr.Expr) (p : Position) → x ≡ expr_kind.And es p → ⊥

abbrev pub NoOr : declared_expr.Expr → Type 0
NoOr x = (es : List declared_expr.Expr) (p : Position) → x ≡ expr_kind.Or es p → ⊥

abbrev pub NoCoalesce : declared_expr.Expr → Type 0
NoCoalesce x = (es : List declared_expr.Expr) (p : Position) → x ≡ expr_kind.Coalesce es p → ⊥

abbrev pub NoDot : declared_expr.Expr → Type 0
NoDot x = (b : BinaryExpr) (k : ASTFlags) (p : Position) → x ≡ expr_kind.Dot b k p → ⊥

abbrev pub NoIndex : declared_expr.Expr → Type 0
NoIndex x = (b : BinaryExpr) (k : ASTFlags) (p : Position) → x ≡ expr_kind.Index b k p → ⊥

abbrev pub NoThis : declared_expr.Expr → Type 0
NoThis x = (p : Position) → x ≡ expr_kind.ThisPtr p → ⊥

abbrev pub NoText : declared_expr.Expr → Type 0
NoText x = (xs : List declared_expr.Expr) (p : Position) → x ≡ expr_kind.InterpolatedString xs p → ⊥

abbrev pub NoMap : declared_expr.Expr → Type 0
NoMap x = (m : List (Ident × declared_expr.Expr) × List (Text × Dynamic)) (p : Position) → x ≡ expr_kind.Map m p → ⊥

abbrev pub NoMethod : declared_expr.Expr → Type 0
NoMethod x = (c : FnCallExpr) (p : Position) → x ≡ expr_kind.MethodCall c p → ⊥

abbrev pub NoDynamic : declared_expr.Expr → Type 0
NoDynamic x = (v : Dynamic) (p : Position) → x ≡ expr_kind.DynamicConstant v p → ⊥

abbrev pub NoUnit : declared_expr.Expr → Type 0
NoUnit x = (p : Position) → x ≡ expr_kind.Unit p → ⊥

abbrev pub NoBool : declared_expr.Expr → Type 0
NoBool x = (b : Bool) (p : Position) → x ≡ expr_kind.BoolConstant b p → ⊥

abbrev pub NoString : declared_expr.Expr → Type 0
NoString x = (t : Text) (p : Position) → x ≡ expr_kind.StringConstant t p → ⊥

abbrev pub NoInteger : declared_expr.Expr → Type 0
NoInteger x = (n : ℤ) (p : Position) → x ≡ expr_kind.IntegerConstant n p → ⊥

abbrev pub NoProperty : declared_expr.Expr → Type 0
NoProperty x = (y : Text × Text × Text) (p : Position) → x ≡ expr_kind.Property y p → ⊥

-- ---- statements

abbrev pub NoNoop : declared_stmt.Stmt → Type 0
NoNoop x = (p : Position) → x ≡ stmt_kind.Noop p → ⊥

abbrev pub NoIf : declared_stmt.Stmt → Type 0
NoIf x = (f : FlowControl) (p : Position) → x ≡ stmt_kind.If f p → ⊥

abbrev pub NoBlock : declared_stmt.Stmt → Type 0
NoBlock x = (b : StmtBlock) → x ≡ stmt_kind.Block b → ⊥

abbrev pub NoExpression : declared_stmt.Stmt → Type 0
NoExpression x = (e : declared_expr.Expr) → x ≡ stmt_kind.Expr e → ⊥

abbrev pub NoCallStatement : declared_stmt.Stmt → Type 0
NoCallStatement x = (c : FnCallExpr) (p : Position) → x ≡ stmt_kind.FnCall c p → ⊥

abbrev pub NoWhile : declared_stmt.Stmt → Type 0
NoWhile x = (f : FlowControl) (p : Position) → x ≡ stmt_kind.While f p → ⊥

abbrev pub NoDo : declared_stmt.Stmt → Type 0
NoDo x = (f : FlowControl) (k : ASTFlags) (p : Position) → x ≡ stmt_kind.Do f k p → ⊥

abbrev pub NoFor : declared_stmt.Stmt → Type 0
NoFor x = (v : Ident × Option Ident × FlowControl) (p : Position) → x ≡ stmt_kind.For v p → ⊥

abbrev pub NoVar : declared_stmt.Stmt → Type 0
NoVar x = (v : Ident × declared_expr.Expr × Option NonZeroUsize) (k : ASTFlags) (p : Position) → x ≡ stmt_kind.Var v k p → ⊥

abbrev pub NoAssignment : declared_stmt.Stmt → Type 0
NoAssignment x = (v : OpAssignment × BinaryExpr) → x ≡ stmt_kind.Assignment v → ⊥

abbrev pub NoTry : declared_stmt.Stmt → Type 0
NoTry x = (f : FlowControl) (p : Position) → x ≡ stmt_kind.TryCatch f p → ⊥

abbrev pub NoBreak : declared_stmt.Stmt → Type 0
NoBreak x = (e : Option declared_expr.Expr) (k : ASTFlags) (p : Position) → x ≡ stmt_kind.BreakLoop e k p → ⊥

abbrev pub NoReturn : declared_stmt.Stmt → Type 0
NoReturn x = (e : Option declared_expr.Expr) (k : ASTFlags) (p : Position) → x ≡ stmt_kind.Return e k p → ⊥

abbrev pub NoImport : declared_stmt.Stmt → Type 0
NoImport x = (v : declared_expr.Expr × Ident) (p : Position) → x ≡ stmt_kind.Import v p → ⊥

abbrev pub NoSwitch : declared_stmt.Stmt → Type 0
NoSwitch x = (b : SwitchBlock) (p : Position) → x ≡ stmt_kind.Switch b p → ⊥

abbrev pub NoExport : declared_stmt.Stmt → Type 0
NoExport x = (n : Ident × Ident) (p : Position) → x ≡ stmt_kind.Export n p → ⊥

abbrev pub NoShare : declared_stmt.Stmt → Type 0
NoShare x = (xs : List (Ident × Option NonZeroUsize)) → x ≡ stmt_kind.Share xs → ⊥
