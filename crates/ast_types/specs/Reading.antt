-- The tree that a declared tree stands for.
use Rattle.std.specs.Prelude.{[], ◌∷◌, ◌≡◌, ◌==◌, ℕ, ℤ, Bool, List, map, Option, Some, None, if◌then◌else◌}
use Rattle.std.specs.Int.RustNames.{bit_and}
use Rattle.std.specs.Option.{option_map}
use Rattle.std.specs.Range.{range_inclusive_start, range_inclusive_end, range_inclusive_exhausted}
use Rattle.std.proofs.Common.{sym, ap, ◌∙◌}
use Rattle.rhai_base.specs.declared.dynamic.Dynamic.{Dynamic}
use Rattle.rhai_base.specs.declared.float_wrapper.FloatWrapper.{FloatWrapper}
use Rattle.base_tokens.specs.declared.position.Position.{Position}
use Rattle.base_tokens.specs.declared.op_assignment.OpAssignment.{OpAssignment}
use Rattle.base_tokens.specs.declared.token.Token.{Token}
use Rattle.base_tokens.specs.declared.flags.ASTFlags.{ASTFlags}
use Rattle.base_tokens.specs.declared.ident.Ident.{Ident}
use Rattle.base_tokens.specs.declared.namespace.Namespace.{Namespace}
use Rattle.rhai_base.specs.declared.range_case.RangeCase.{RangeCase}
use Rattle.rhai_base.specs.declared.range_case.RangeCase.TheVariants as range_kind
use Rattle.std.specs.declared.num.NonZeroU8.{NonZeroU8}
use Rattle.std.specs.declared.num.NonZeroUsize.{NonZeroUsize}
use Rattle.rhai_base.specs.Value.{Text}
use Rattle.rhai_base.specs.Operators.{Operator}
use Rattle.rhai_base.specs.Reading.{value_of}
use Rattle.rhai_base.specs.Builtin.{operator_of}
use Rattle.ast_types.specs.declared.expr.Expr as declared_expr
use Rattle.ast_types.specs.declared.expr.Expr.TheOpen as open_one
use Rattle.ast_types.specs.declared.expr.Expr.TheViews as views
use Rattle.ast_types.specs.declared.expr.Expr.TheFolds as folds
use Rattle.ast_types.specs.declared.expr.Expr.TheVariants as expr_kind
use Rattle.ast_types.specs.declared.stmt.Stmt.TheVariants as stmt_kind
use Rattle.ast_types.specs.declared.stmt.Stmt as declared_stmt
use Rattle.ast_types.specs.declared.block.StmtBlock.{StmtBlock}
use Rattle.ast_types.specs.declared.expr.BinaryExpr.{BinaryExpr}
use Rattle.ast_types.specs.declared.expr.FnCallExpr.{FnCallExpr}
use Rattle.ast_types.specs.declared.stmt.FlowControl.{FlowControl}
use Rattle.rhai_base.specs.declared.cases.CaseBlocksList.{CaseBlocksList}
use Rattle.ast_types.specs.declared.switch.SwitchBlock.{SwitchBlock}
use Rattle.ast_types.specs.declared.switch.SwitchCasesCollection.{SwitchCasesCollection}
use Rattle.ast_types.specs.declared.script_fn.ScriptFuncDef.{ScriptFuncDef}
use Rattle.theory_meaning.specs.Tree.{CallToken, NoToken, OfOperator, OfOther, Callee, ChainFlags, PropertyNames, ExclusiveInt, InclusiveInt, SwitchCase, SwitchRange, SwitchTable, Expr, DynamicConstant, BoolConstant, IntegerConstant, FloatConstant, CharConstant, StringConstant, UnitConstant, InterpolatedString, ArrayOf, MapOf, Variable, ThisPtr, Property, MethodCall, BlockExpr, FnCall, Dot, Index, And, Or, Coalesce, Exprs, Pairs, no_pairs, pair, MaybeExpr, no_expr, an_expr, Arms, no_arms, arm, Stmt, Noop, If, Switch, While, Do, For, Var, Assignment, FnCallStmt, Block, TryCatch, ExprStmt, BreakLoop, Return, Import, Export, Share, Stmts, Function, exprs, stmts}

-- ---- flags, tokens, names

-- whether these bits are set
abbrev pub has_bits : ℕ → ASTFlags → Bool
has_bits n k = bit_and k.0 n == n

abbrev pub is_const : ASTFlags → Bool
is_const k = has_bits 1 k

abbrev pub is_exported : ASTFlags → Bool
is_exported k = has_bits 2 k

abbrev pub is_negated : ASTFlags → Bool
is_negated k = has_bits 4 k

abbrev pub breaks : ASTFlags → Bool
breaks k = has_bits 8 k

abbrev pub chain_flags : ASTFlags → ChainFlags
chain_flags k = record { negated = is_negated k; breaks = breaks k; exported = is_exported k }

abbrev pub mark_by : Option Operator → CallToken
mark_by (Some op) = OfOperator op
mark_by None = OfOther

abbrev pub mark_of : Option Token → CallToken
mark_of None = NoToken
mark_of (Some t) = mark_by (operator_of t)

abbrev pub path_of : Namespace → List Text
path_of n = map (λ i. i.name) n.path

abbrev pub property_names : Text × Text × Text → PropertyNames
property_names x = record { getter = x.0; setter = x.1; name = x.2 }

-- the counter of a `for`
abbrev pub counter_of : Option Ident → Option Text
counter_of i = option_map (λ j. j.name) i

abbrev pub shared_names : List (Ident × Option NonZeroUsize) → List Text
shared_names xs = map (λ x. x.0.name) xs

abbrev pub keys_of : List (Text × Dynamic) → List Text
keys_of es = map (λ e. e.0) es

-- ---- the table of a `switch`

abbrev pub case_of : Dynamic × CaseBlocksList → SwitchCase
case_of c = record { value = value_of c.0; arms = c.1.blocks }

-- a range that was iterated over to its end holds nothing
abbrev pub range_of : RangeCase → SwitchRange
range_of (range_kind.ExclusiveInt r i) = record { range = ExclusiveInt r.start r.end; arm = i }
range_of (range_kind.InclusiveInt r i) = record {
  range = if range_inclusive_exhausted r then ExclusiveInt (range_inclusive_end r) (range_inclusive_end r) else InclusiveInt (range_inclusive_start r) (range_inclusive_end r);
  arm = i;
}

abbrev pub table_by : List (Dynamic × CaseBlocksList) → List RangeCase → Option ℕ → SwitchTable
table_by cases ranges default = record { cases = map case_of cases; ranges = map range_of ranges; default = default }

abbrev pub expressions_of : SwitchCasesCollection → List BinaryExpr
expressions_of t = (views.out-SwitchCasesCollection t).expressions

abbrev pub table_of : SwitchCasesCollection → SwitchTable
table_of t = let o = views.out-SwitchCasesCollection t in table_by o.cases o.ranges o.def_case

abbrev pub subject_of : SwitchBlock → declared_expr.Expr
subject_of s = (views.out-SwitchBlock s).expr

abbrev pub cases_of : SwitchBlock → SwitchCasesCollection
cases_of s = (views.out-SwitchBlock s).cases

-- ---- the fold, a layer at a time

pub record SidesParts : Type 0 where
  pub lhs : Expr
  pub rhs : Expr

pub record CallParts : Type 0 where
  pub callee : Callee
  pub args : Exprs

pub record FlowParts : Type 0 where
  pub expr : Expr
  pub body : Stmts
  pub branch : Stmts

pub record TableParts : Type 0 where
  pub arms : Arms
  pub table : SwitchTable

pub record SwitchParts : Type 0 where
  pub subject : Expr
  pub arms : Arms
  pub table : SwitchTable

abbrev pub named : List (Ident × Expr) → Pairs
named [] = no_pairs
named (p ∷ ps) = pair p.0.name p.1 (named ps)

abbrev pub arms_by : List SidesParts → Arms
arms_by [] = no_arms
arms_by (s ∷ ss) = arm s.lhs s.rhs (arms_by ss)

abbrev pub maybe : Option Expr → MaybeExpr
maybe None = no_expr
maybe (Some e) = an_expr e

abbrev pub callee_of : FnCallExpr → Callee
callee_of c = record { namespace = path_of c.namespace; name = c.name; captures = c.capture_parent_scope; token = mark_of c.op_token }

abbrev ExprLayer : Type 0
ExprLayer = open_one.Expr-F Expr Stmt Stmts SidesParts CallParts FlowParts SwitchParts TableParts

abbrev StmtLayer : Type 0
StmtLayer = open_one.Stmt-F Expr Stmt Stmts SidesParts CallParts FlowParts SwitchParts TableParts

abbrev expr_step : ExprLayer → Expr
expr_step (open_one.DynamicConstant v p) = DynamicConstant (value_of v)
expr_step (open_one.BoolConstant b p) = BoolConstant b
expr_step (open_one.IntegerConstant n p) = IntegerConstant n
expr_step (open_one.FloatConstant x p) = FloatConstant x.bits
expr_step (open_one.CharConstant c p) = CharConstant c
expr_step (open_one.StringConstant t p) = StringConstant t
expr_step (open_one.InterpolatedString xs p) = InterpolatedString (exprs xs)
expr_step (open_one.Array xs p) = ArrayOf (exprs xs)
expr_step (open_one.Map m p) = MapOf (named m.0) (keys_of m.1)
expr_step (open_one.Unit p) = UnitConstant
expr_step (open_one.Variable x short p) = Variable (path_of x.2) x.1
expr_step (open_one.ThisPtr p) = ThisPtr
expr_step (open_one.Property x p) = Property (property_names x)
expr_step (open_one.MethodCall c p) = MethodCall c.callee c.args
expr_step (open_one.Stmt b) = BlockExpr b
expr_step (open_one.Expr::FnCall c p) = FnCall c.callee c.args
expr_step (open_one.Dot x k p) = Dot (chain_flags k) x.lhs x.rhs
expr_step (open_one.Index x k p) = Index (chain_flags k) x.lhs x.rhs
expr_step (open_one.And xs p) = And (exprs xs)
expr_step (open_one.Or xs p) = Or (exprs xs)
expr_step (open_one.Coalesce xs p) = Coalesce (exprs xs)

abbrev stmt_step : StmtLayer → Stmt
stmt_step (open_one.Noop p) = Noop
stmt_step (open_one.If x p) = If x.expr x.body x.branch
stmt_step (open_one.Switch x p) = Switch x.subject x.arms x.table
stmt_step (open_one.While x p) = While x.expr x.body
stmt_step (open_one.Do x k p) = Do (is_negated k) (is_exported k) x.expr x.body
stmt_step (open_one.For x p) = For x.0.name (counter_of x.1) x.2.expr x.2.body
stmt_step (open_one.Var x k p) = Var (is_const k) (is_exported k) x.0.name x.1
stmt_step (open_one.Assignment x) = Assignment (operator_of x.0.op) x.1.lhs x.1.rhs
stmt_step (open_one.Stmt::FnCall c p) = FnCallStmt c.callee c.args
stmt_step (open_one.Block b) = Block b
stmt_step (open_one.TryCatch x p) = TryCatch x.expr x.body x.branch
stmt_step (open_one.Expr e) = ExprStmt e
stmt_step (open_one.BreakLoop e k p) = BreakLoop (breaks k) (is_exported k) (maybe e)
stmt_step (open_one.Return e k p) = Return (breaks k) (is_exported k) (maybe e)
stmt_step (open_one.Import x p) = Import x.0 x.1.name
stmt_step (open_one.Export x p) = Export x.0.name x.1.name
stmt_step (open_one.Share xs) = Share (shared_names xs)

abbrev sides_step : open_one.BinaryExpr-F Expr Stmt Stmts SidesParts CallParts FlowParts SwitchParts TableParts → SidesParts
sides_step b = record { lhs = b.lhs; rhs = b.rhs }

abbrev call_step : open_one.FnCallExpr-F Expr Stmt Stmts SidesParts CallParts FlowParts SwitchParts TableParts → CallParts
call_step c = record { callee = record { namespace = path_of c.namespace; name = c.name; captures = c.capture_parent_scope; token = mark_of c.op_token }; args = exprs c.args }

abbrev flow_step : open_one.FlowControl-F Expr Stmt Stmts SidesParts CallParts FlowParts SwitchParts TableParts → FlowParts
flow_step f = record { expr = f.expr; body = f.body; branch = f.branch }

abbrev block_step : open_one.StmtBlock-F Expr Stmt Stmts SidesParts CallParts FlowParts SwitchParts TableParts → Stmts
block_step b = stmts b.block

abbrev switch_step : open_one.SwitchBlock-F Expr Stmt Stmts SidesParts CallParts FlowParts SwitchParts TableParts → SwitchParts
switch_step s = record { subject = s.expr; arms = s.cases.arms; table = s.cases.table }

abbrev table_step : open_one.SwitchCasesCollection-F Expr Stmt Stmts SidesParts CallParts FlowParts SwitchParts TableParts → TableParts
table_step t = record { arms = arms_by t.expressions; table = table_by t.cases t.ranges t.def_case }

pub expr_of : declared_expr.Expr → Expr
expr_of = folds.fold-Expr Expr Stmt Stmts SidesParts CallParts FlowParts SwitchParts TableParts expr_step stmt_step block_step sides_step call_step flow_step switch_step table_step

pub stmt_of : declared_stmt.Stmt → Stmt
stmt_of = folds.fold-Stmt Expr Stmt Stmts SidesParts CallParts FlowParts SwitchParts TableParts expr_step stmt_step block_step sides_step call_step flow_step switch_step table_step

abbrev pub exprs_of : List declared_expr.Expr → Exprs
exprs_of xs = exprs (map expr_of xs)

abbrev pub stmts_of : List declared_stmt.Stmt → Stmts
stmts_of xs = stmts (map stmt_of xs)

abbrev pub pairs_of : List (Ident × declared_expr.Expr) → Pairs
pairs_of ps = named (map (λ p. (p.0, expr_of p.1)) ps)

abbrev pub sides_of : BinaryExpr → SidesParts
sides_of b = record { lhs = expr_of b.lhs; rhs = expr_of b.rhs }

abbrev pub arms_of : List BinaryExpr → Arms
arms_of bs = arms_by (map sides_of bs)

abbrev pub maybe_of : Option declared_expr.Expr → MaybeExpr
maybe_of e = maybe (option_map expr_of e)

-- ---- the structs between the layers

abbrev fold_sides : BinaryExpr → SidesParts
fold_sides = folds.fold-BinaryExpr Expr Stmt Stmts SidesParts CallParts FlowParts SwitchParts TableParts expr_step stmt_step block_step sides_step call_step flow_step switch_step table_step

abbrev fold_call : FnCallExpr → CallParts
fold_call = folds.fold-FnCallExpr Expr Stmt Stmts SidesParts CallParts FlowParts SwitchParts TableParts expr_step stmt_step block_step sides_step call_step flow_step switch_step table_step

abbrev fold_flow : FlowControl → FlowParts
fold_flow = folds.fold-FlowControl Expr Stmt Stmts SidesParts CallParts FlowParts SwitchParts TableParts expr_step stmt_step block_step sides_step call_step flow_step switch_step table_step

abbrev fold_block : StmtBlock → Stmts
fold_block = folds.fold-StmtBlock Expr Stmt Stmts SidesParts CallParts FlowParts SwitchParts TableParts expr_step stmt_step block_step sides_step call_step flow_step switch_step table_step

abbrev fold_switch : SwitchBlock → SwitchParts
fold_switch = folds.fold-SwitchBlock Expr Stmt Stmts SidesParts CallParts FlowParts SwitchParts TableParts expr_step stmt_step block_step sides_step call_step flow_step switch_step table_step

abbrev fold_table : SwitchCasesCollection → TableParts
fold_table = folds.fold-SwitchCasesCollection Expr Stmt Stmts SidesParts CallParts FlowParts SwitchParts TableParts expr_step stmt_step block_step sides_step call_step flow_step switch_step table_step

block_is : (b : StmtBlock) → fold_block b ≡ stmts_of b.block
unfolding expr_of stmt_of
block_is b = folds.fold_out-StmtBlock Expr Stmt Stmts SidesParts CallParts FlowParts SwitchParts TableParts expr_step stmt_step block_step sides_step call_step flow_step switch_step table_step b ∙ ap (λ o. block_step (folds.map-StmtBlock _ _ _ _ _ _ _ _ _ _ _ _ _ _ _ _ expr_of stmt_of fold_block fold_sides fold_call fold_flow fold_switch fold_table o)) (views.outs-struct-StmtBlock b)

sides_are : (b : BinaryExpr) → fold_sides b ≡ sides_of b
unfolding expr_of stmt_of
sides_are b = folds.fold_out-BinaryExpr Expr Stmt Stmts SidesParts CallParts FlowParts SwitchParts TableParts expr_step stmt_step block_step sides_step call_step flow_step switch_step table_step b ∙ ap (λ o. sides_step (folds.map-BinaryExpr _ _ _ _ _ _ _ _ _ _ _ _ _ _ _ _ expr_of stmt_of fold_block fold_sides fold_call fold_flow fold_switch fold_table o)) (views.outs-struct-BinaryExpr b)

call_is : (c : FnCallExpr) → fold_call c ≡ record { callee = callee_of c; args = exprs_of c.args }
unfolding expr_of stmt_of
call_is c = folds.fold_out-FnCallExpr Expr Stmt Stmts SidesParts CallParts FlowParts SwitchParts TableParts expr_step stmt_step block_step sides_step call_step flow_step switch_step table_step c ∙ ap (λ o. call_step (folds.map-FnCallExpr _ _ _ _ _ _ _ _ _ _ _ _ _ _ _ _ expr_of stmt_of fold_block fold_sides fold_call fold_flow fold_switch fold_table o)) (views.outs-struct-FnCallExpr c)

flow_is : (f : FlowControl) → fold_flow f ≡ record { expr = expr_of f.expr; body = stmts_of f.body.block; branch = stmts_of f.branch.block }
unfolding expr_of stmt_of
flow_is f = folds.fold_out-FlowControl Expr Stmt Stmts SidesParts CallParts FlowParts SwitchParts TableParts expr_step stmt_step block_step sides_step call_step flow_step switch_step table_step f ∙ ap (λ o. flow_step (folds.map-FlowControl _ _ _ _ _ _ _ _ _ _ _ _ _ _ _ _ expr_of stmt_of fold_block fold_sides fold_call fold_flow fold_switch fold_table o)) (views.outs-struct-FlowControl f)
    ∙ ap (λ b. record { expr = expr_of f.expr; body = b; branch = fold_block f.branch }) (block_is f.body)
    ∙ ap (λ b. record { expr = expr_of f.expr; body = stmts_of f.body.block; branch = b }) (block_is f.branch)

table_is : (t : SwitchCasesCollection) → fold_table t ≡ record { arms = arms_of (expressions_of t); table = table_of t }
unfolding expr_of stmt_of
table_is t = folds.fold_out-SwitchCasesCollection Expr Stmt Stmts SidesParts CallParts FlowParts SwitchParts TableParts expr_step stmt_step block_step sides_step call_step flow_step switch_step table_step t ∙ ap (λ (f : BinaryExpr → SidesParts). record { arms = arms_by (map f (expressions_of t)); table = table_of t }) (λ i b. sides_are b i)

switch_is : (s : SwitchBlock) → fold_switch s ≡ record { subject = expr_of (subject_of s); arms = arms_of (expressions_of (cases_of s)); table = table_of (cases_of s) }
unfolding expr_of stmt_of
switch_is s = folds.fold_out-SwitchBlock Expr Stmt Stmts SidesParts CallParts FlowParts SwitchParts TableParts expr_step stmt_step block_step sides_step call_step flow_step switch_step table_step s ∙ ap (λ t. record { subject = expr_of (subject_of s); arms = t.arms; table = t.table }) (table_is (cases_of s))

-- ---- an expression of each kind

expr_rolled : (x : open_one.Expr-F declared_expr.Expr declared_stmt.Stmt StmtBlock BinaryExpr FnCallExpr FlowControl SwitchBlock SwitchCasesCollection) → expr_of (views.roll-Expr x) ≡ expr_step (folds.map-Expr _ _ _ _ _ _ _ _ _ _ _ _ _ _ _ _ expr_of stmt_of fold_block fold_sides fold_call fold_flow fold_switch fold_table x)
unfolding expr_of stmt_of
expr_rolled x = folds.fold-roll-Expr Expr Stmt Stmts SidesParts CallParts FlowParts SwitchParts TableParts expr_step stmt_step block_step sides_step call_step flow_step switch_step table_step x

stmt_rolled : (x : open_one.Stmt-F declared_expr.Expr declared_stmt.Stmt StmtBlock BinaryExpr FnCallExpr FlowControl SwitchBlock SwitchCasesCollection) → stmt_of (views.roll-Stmt x) ≡ stmt_step (folds.map-Stmt _ _ _ _ _ _ _ _ _ _ _ _ _ _ _ _ expr_of stmt_of fold_block fold_sides fold_call fold_flow fold_switch fold_table x)
unfolding expr_of stmt_of
stmt_rolled x = folds.fold-roll-Stmt Expr Stmt Stmts SidesParts CallParts FlowParts SwitchParts TableParts expr_step stmt_step block_step sides_step call_step flow_step switch_step table_step x

pub expr_of-DynamicConstant : (v : Dynamic) (p : Position) → expr_of (expr_kind.DynamicConstant v p) ≡ DynamicConstant (value_of v)
expr_of-DynamicConstant v p = ap expr_of (sym (expr_kind.rolls-DynamicConstant v p)) ∙ expr_rolled (open_one.DynamicConstant v p)

pub expr_of-BoolConstant : (b : Bool) (p : Position) → expr_of (expr_kind.BoolConstant b p) ≡ BoolConstant b
expr_of-BoolConstant b p = ap expr_of (sym (expr_kind.rolls-BoolConstant b p)) ∙ expr_rolled (open_one.BoolConstant b p)

pub expr_of-IntegerConstant : (n : ℤ) (p : Position) → expr_of (expr_kind.IntegerConstant n p) ≡ IntegerConstant n
expr_of-IntegerConstant n p = ap expr_of (sym (expr_kind.rolls-IntegerConstant n p)) ∙ expr_rolled (open_one.IntegerConstant n p)

pub expr_of-FloatConstant : (x : FloatWrapper) (p : Position) → expr_of (expr_kind.FloatConstant x p) ≡ FloatConstant x.bits
expr_of-FloatConstant x p = ap expr_of (sym (expr_kind.rolls-FloatConstant x p)) ∙ expr_rolled (open_one.FloatConstant x p)

pub expr_of-CharConstant : (c : ℕ) (p : Position) → expr_of (expr_kind.CharConstant c p) ≡ CharConstant c
expr_of-CharConstant c p = ap expr_of (sym (expr_kind.rolls-CharConstant c p)) ∙ expr_rolled (open_one.CharConstant c p)

pub expr_of-StringConstant : (t : Text) (p : Position) → expr_of (expr_kind.StringConstant t p) ≡ StringConstant t
expr_of-StringConstant t p = ap expr_of (sym (expr_kind.rolls-StringConstant t p)) ∙ expr_rolled (open_one.StringConstant t p)

pub expr_of-InterpolatedString : (xs : List declared_expr.Expr) (p : Position) → expr_of (expr_kind.InterpolatedString xs p) ≡ InterpolatedString (exprs_of xs)
expr_of-InterpolatedString xs p = ap expr_of (sym (expr_kind.rolls-InterpolatedString xs p)) ∙ expr_rolled (open_one.InterpolatedString xs p)

pub expr_of-Array : (xs : List declared_expr.Expr) (p : Position) → expr_of (expr_kind.Array xs p) ≡ ArrayOf (exprs_of xs)
expr_of-Array xs p = ap expr_of (sym (expr_kind.rolls-Array xs p)) ∙ expr_rolled (open_one.Array xs p)

pub expr_of-Map : (m : List (Ident × declared_expr.Expr) × List (Text × Dynamic)) (p : Position) → expr_of (expr_kind.Map m p) ≡ MapOf (pairs_of m.0) (keys_of m.1)
expr_of-Map m p = ap expr_of (sym (expr_kind.rolls-Map m p)) ∙ expr_rolled (open_one.Map m p)

pub expr_of-Unit : (p : Position) → expr_of (expr_kind.Unit p) ≡ UnitConstant
expr_of-Unit p = ap expr_of (sym (expr_kind.rolls-Unit p)) ∙ expr_rolled (open_one.Unit p)

pub expr_of-Variable : (x : Option NonZeroUsize × Text × Namespace) (short : Option NonZeroU8) (p : Position) → expr_of (expr_kind.Variable x short p) ≡ Variable (path_of x.2) x.1
expr_of-Variable x short p = ap expr_of (sym (expr_kind.rolls-Variable x short p)) ∙ expr_rolled (open_one.Variable x short p)

pub expr_of-ThisPtr : (p : Position) → expr_of (expr_kind.ThisPtr p) ≡ ThisPtr
expr_of-ThisPtr p = ap expr_of (sym (expr_kind.rolls-ThisPtr p)) ∙ expr_rolled (open_one.ThisPtr p)

pub expr_of-Property : (x : Text × Text × Text) (p : Position) → expr_of (expr_kind.Property x p) ≡ Property (property_names x)
expr_of-Property x p = ap expr_of (sym (expr_kind.rolls-Property x p)) ∙ expr_rolled (open_one.Property x p)

pub expr_of-MethodCall : (c : FnCallExpr) (p : Position) → expr_of (expr_kind.MethodCall c p) ≡ MethodCall (callee_of c) (exprs_of c.args)
expr_of-MethodCall c p = ap expr_of (sym (expr_kind.rolls-MethodCall c p)) ∙ expr_rolled (open_one.MethodCall c p) ∙ ap (λ d. MethodCall d.callee d.args) (call_is c)

pub expr_of-Stmt : (b : StmtBlock) → expr_of (expr_kind.Stmt b) ≡ BlockExpr (stmts_of b.block)
expr_of-Stmt b = ap expr_of (sym (expr_kind.rolls-Stmt b)) ∙ expr_rolled (open_one.Stmt b) ∙ ap BlockExpr (block_is b)

pub expr_of-FnCall : (c : FnCallExpr) (p : Position) → expr_of (expr_kind.FnCall c p) ≡ FnCall (callee_of c) (exprs_of c.args)
expr_of-FnCall c p = ap expr_of (sym (expr_kind.rolls-FnCall c p)) ∙ expr_rolled (open_one.Expr::FnCall c p) ∙ ap (λ d. FnCall d.callee d.args) (call_is c)

pub expr_of-Dot : (x : BinaryExpr) (k : ASTFlags) (p : Position) → expr_of (expr_kind.Dot x k p) ≡ Dot (chain_flags k) (expr_of x.lhs) (expr_of x.rhs)
expr_of-Dot x k p = ap expr_of (sym (expr_kind.rolls-Dot x k p)) ∙ expr_rolled (open_one.Dot x k p) ∙ ap (λ s. Dot (chain_flags k) s.lhs s.rhs) (sides_are x)

pub expr_of-Index : (x : BinaryExpr) (k : ASTFlags) (p : Position) → expr_of (expr_kind.Index x k p) ≡ Index (chain_flags k) (expr_of x.lhs) (expr_of x.rhs)
expr_of-Index x k p = ap expr_of (sym (expr_kind.rolls-Index x k p)) ∙ expr_rolled (open_one.Index x k p) ∙ ap (λ s. Index (chain_flags k) s.lhs s.rhs) (sides_are x)

pub expr_of-And : (xs : List declared_expr.Expr) (p : Position) → expr_of (expr_kind.And xs p) ≡ And (exprs_of xs)
expr_of-And xs p = ap expr_of (sym (expr_kind.rolls-And xs p)) ∙ expr_rolled (open_one.And xs p)

pub expr_of-Or : (xs : List declared_expr.Expr) (p : Position) → expr_of (expr_kind.Or xs p) ≡ Or (exprs_of xs)
expr_of-Or xs p = ap expr_of (sym (expr_kind.rolls-Or xs p)) ∙ expr_rolled (open_one.Or xs p)

pub expr_of-Coalesce : (xs : List declared_expr.Expr) (p : Position) → expr_of (expr_kind.Coalesce xs p) ≡ Coalesce (exprs_of xs)
expr_of-Coalesce xs p = ap expr_of (sym (expr_kind.rolls-Coalesce xs p)) ∙ expr_rolled (open_one.Coalesce xs p)

-- ---- a statement of each kind

pub stmt_of-Noop : (p : Position) → stmt_of (stmt_kind.Noop p) ≡ Noop
stmt_of-Noop p = ap stmt_of (sym (stmt_kind.rolls-Noop p)) ∙ stmt_rolled (open_one.Noop p)

pub stmt_of-If : (x : FlowControl) (p : Position) → stmt_of (stmt_kind.If x p) ≡ If (expr_of x.expr) (stmts_of x.body.block) (stmts_of x.branch.block)
stmt_of-If x p = ap stmt_of (sym (stmt_kind.rolls-If x p)) ∙ stmt_rolled (open_one.If x p) ∙ ap (λ f. If f.expr f.body f.branch) (flow_is x)

pub stmt_of-Switch : (x : SwitchBlock) (p : Position) → stmt_of (stmt_kind.Switch x p) ≡ Switch (expr_of (subject_of x)) (arms_of (expressions_of (cases_of x))) (table_of (cases_of x))
stmt_of-Switch x p = ap stmt_of (sym (stmt_kind.rolls-Switch x p)) ∙ stmt_rolled (open_one.Switch x p) ∙ ap (λ s. Switch s.subject s.arms s.table) (switch_is x)

pub stmt_of-While : (x : FlowControl) (p : Position) → stmt_of (stmt_kind.While x p) ≡ While (expr_of x.expr) (stmts_of x.body.block)
stmt_of-While x p = ap stmt_of (sym (stmt_kind.rolls-While x p)) ∙ stmt_rolled (open_one.While x p) ∙ ap (λ f. While f.expr f.body) (flow_is x)

pub stmt_of-Do : (x : FlowControl) (k : ASTFlags) (p : Position) → stmt_of (stmt_kind.Do x k p) ≡ Do (is_negated k) (is_exported k) (expr_of x.expr) (stmts_of x.body.block)
stmt_of-Do x k p = ap stmt_of (sym (stmt_kind.rolls-Do x k p)) ∙ stmt_rolled (open_one.Do x k p) ∙ ap (λ f. Do (is_negated k) (is_exported k) f.expr f.body) (flow_is x)

pub stmt_of-For : (x : Ident × Option Ident × FlowControl) (p : Position) → stmt_of (stmt_kind.For x p) ≡ For x.0.name (counter_of x.1) (expr_of x.2.expr) (stmts_of x.2.body.block)
stmt_of-For x p = ap stmt_of (sym (stmt_kind.rolls-For x p)) ∙ stmt_rolled (open_one.For x p) ∙ ap (λ f. For x.0.name (counter_of x.1) f.expr f.body) (flow_is x.2)

pub stmt_of-Var : (x : Ident × declared_expr.Expr × Option NonZeroUsize) (k : ASTFlags) (p : Position) → stmt_of (stmt_kind.Var x k p) ≡ Var (is_const k) (is_exported k) x.0.name (expr_of x.1)
stmt_of-Var x k p = ap stmt_of (sym (stmt_kind.rolls-Var x k p)) ∙ stmt_rolled (open_one.Var x k p)

pub stmt_of-Assignment : (x : OpAssignment × BinaryExpr) → stmt_of (stmt_kind.Assignment x) ≡ Assignment (operator_of x.0.op) (expr_of x.1.lhs) (expr_of x.1.rhs)
stmt_of-Assignment x = ap stmt_of (sym (stmt_kind.rolls-Assignment x)) ∙ stmt_rolled (open_one.Assignment x) ∙ ap (λ s. Assignment (operator_of x.0.op) s.lhs s.rhs) (sides_are x.1)

pub stmt_of-FnCall : (c : FnCallExpr) (p : Position) → stmt_of (stmt_kind.FnCall c p) ≡ FnCallStmt (callee_of c) (exprs_of c.args)
stmt_of-FnCall c p = ap stmt_of (sym (stmt_kind.rolls-FnCall c p)) ∙ stmt_rolled (open_one.Stmt::FnCall c p) ∙ ap (λ d. FnCallStmt d.callee d.args) (call_is c)

pub stmt_of-Block : (b : StmtBlock) → stmt_of (stmt_kind.Block b) ≡ Block (stmts_of b.block)
stmt_of-Block b = ap stmt_of (sym (stmt_kind.rolls-Block b)) ∙ stmt_rolled (open_one.Block b) ∙ ap Block (block_is b)

pub stmt_of-TryCatch : (x : FlowControl) (p : Position) → stmt_of (stmt_kind.TryCatch x p) ≡ TryCatch (expr_of x.expr) (stmts_of x.body.block) (stmts_of x.branch.block)
stmt_of-TryCatch x p = ap stmt_of (sym (stmt_kind.rolls-TryCatch x p)) ∙ stmt_rolled (open_one.TryCatch x p) ∙ ap (λ f. TryCatch f.expr f.body f.branch) (flow_is x)

pub stmt_of-Expr : (e : declared_expr.Expr) → stmt_of (stmt_kind.Expr e) ≡ ExprStmt (expr_of e)
stmt_of-Expr e = ap stmt_of (sym (stmt_kind.rolls-Expr e)) ∙ stmt_rolled (open_one.Expr e)

pub stmt_of-BreakLoop : (e : Option declared_expr.Expr) (k : ASTFlags) (p : Position) → stmt_of (stmt_kind.BreakLoop e k p) ≡ BreakLoop (breaks k) (is_exported k) (maybe_of e)
stmt_of-BreakLoop None k p = ap stmt_of (sym (stmt_kind.rolls-BreakLoop None k p)) ∙ stmt_rolled (open_one.BreakLoop None k p)
stmt_of-BreakLoop (Some e) k p = ap stmt_of (sym (stmt_kind.rolls-BreakLoop (Some e) k p)) ∙ stmt_rolled (open_one.BreakLoop (Some e) k p)

pub stmt_of-Return : (e : Option declared_expr.Expr) (k : ASTFlags) (p : Position) → stmt_of (stmt_kind.Return e k p) ≡ Return (breaks k) (is_exported k) (maybe_of e)
stmt_of-Return None k p = ap stmt_of (sym (stmt_kind.rolls-Return None k p)) ∙ stmt_rolled (open_one.Return None k p)
stmt_of-Return (Some e) k p = ap stmt_of (sym (stmt_kind.rolls-Return (Some e) k p)) ∙ stmt_rolled (open_one.Return (Some e) k p)

pub stmt_of-Import : (x : declared_expr.Expr × Ident) (p : Position) → stmt_of (stmt_kind.Import x p) ≡ Import (expr_of x.0) x.1.name
stmt_of-Import x p = ap stmt_of (sym (stmt_kind.rolls-Import x p)) ∙ stmt_rolled (open_one.Import x p)

pub stmt_of-Export : (x : Ident × Ident) (p : Position) → stmt_of (stmt_kind.Export x p) ≡ Export x.0.name x.1.name
stmt_of-Export x p = ap stmt_of (sym (stmt_kind.rolls-Export x p)) ∙ stmt_rolled (open_one.Export x p)

pub stmt_of-Share : (xs : List (Ident × Option NonZeroUsize)) → stmt_of (stmt_kind.Share xs) ≡ Share (shared_names xs)
stmt_of-Share xs = ap stmt_of (sym (stmt_kind.rolls-Share xs)) ∙ stmt_rolled (open_one.Share xs)

pub ruleset shapes = (
  expr_of-DynamicConstant,
  expr_of-BoolConstant,
  expr_of-IntegerConstant,
  expr_of-FloatConstant,
  expr_of-CharConstant,
  expr_of-StringConstant,
  expr_of-InterpolatedString,
  expr_of-Array,
  expr_of-Map,
  expr_of-Unit,
  expr_of-Variable,
  expr_of-ThisPtr,
  expr_of-Property,
  expr_of-MethodCall,
  expr_of-Stmt,
  expr_of-FnCall,
  expr_of-Dot,
  expr_of-Index,
  expr_of-And,
  expr_of-Or,
  expr_of-Coalesce,
  stmt_of-Noop,
  stmt_of-If,
  stmt_of-Switch,
  stmt_of-While,
  stmt_of-Do,
  stmt_of-For,
  stmt_of-Var,
  stmt_of-Assignment,
  stmt_of-FnCall,
  stmt_of-Block,
  stmt_of-TryCatch,
  stmt_of-Expr,
  stmt_of-BreakLoop,
  stmt_of-Return,
  stmt_of-Import,
  stmt_of-Export,
  stmt_of-Share,
)

-- ---- functions

abbrev pub function_of : ScriptFuncDef → Function
function_of f = record { name = f.name; this_type = f.this_type; params = f.params; body = stmts_of f.body.block }
