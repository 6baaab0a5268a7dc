-- Which trees are well-formed, and what is wrong with others: tests that run nothing.
use Rattle.std.specs.Prelude.{◌≡◌, ℕ, Bool, true, false, not, ◌&&◌, ◌||◌, List, [], ◌∷◌, Option, Some, None}
pub use Rattle.base_tokens.specs.declared.error.TreeFault.{TreeFault}
pub use Rattle.base_tokens.specs.declared.error.TreeFault.TheVariants.{DuplicateMapKey, MapTemplate, NoOperands, UnitConstant, BreakOutsideLoop, ReservedName, ChainShape, AssignTarget, OperatorName, CatchName, SwitchTable as SwitchFault}
use Rattle.rhai_base.specs.Value.{Text}
use Rattle.base_tokens.specs.Names.{is_among, reserved, symbols}
use Rattle.theory_meaning.specs.Engine.{or_else}
use Rattle.theory_meaning.specs.Shape.{is_unit, has_token, is_rest, is_table, is_left_side, catch_name, keys, are_distinct, are_among}
use Rattle.theory_meaning.specs.Tree.{Callee, Expr, DynamicConstant, MapOf, Property, MethodCall, FnCall, Dot, Index, And, Or, Coalesce, Exprs, no_exprs, expr, count_exprs, Stmt, Switch, Assignment, FnCallStmt, TryCatch, BreakLoop, Stmts, Function, Script}
use Rattle.theory_meaning.specs.Walk.{Node, OfExpr, OfStmt, Role, Member, Rest, Around, outermost, around_spot, around_parts, Walk, throughout, over_expr, over_exprs, over_stmt, over_stmts, arms_at, listed}

-- ---- the fault of one node

infixr 20 ◌then◌
abbrev pub ◌then◌ : Option TreeFault → Option TreeFault → Option TreeFault
a then b = or_else a b

abbrev pub unless : Bool → TreeFault → Option TreeFault
unless true f = None
unless false f = Some f

abbrev pub has_operands : Exprs → Bool
has_operands no_exprs = false
has_operands (expr e es) = true

abbrev pub is_catch : Option (Option Text) → Bool
is_catch None = false
is_catch (Some x) = true

abbrev pub call_fault : Callee → ℕ → Option TreeFault
call_fault c n = unless (has_token c n c.token) OperatorName

abbrev pub map_fault : List Text → List Text → Option TreeFault
map_fault ks template = unless (are_distinct ks) DuplicateMapKey then unless (are_among ks template && are_among template ks) MapTemplate

abbrev pub is_member_role : Role → Bool
is_member_role Member = true
is_member_role _ = false

-- a chain is tested at its outermost node
abbrev pub is_inside_chain : Role → Bool
is_inside_chain (Rest dot) = true
is_inside_chain _ = false

abbrev pub expr_fault : Around → Expr → Option TreeFault
expr_fault a (DynamicConstant v) = unless (not (is_unit v)) UnitConstant
expr_fault a (MapOf ps template) = map_fault (keys ps) template
expr_fault a (Property p) = unless (is_member_role a.role) ChainShape
expr_fault a (MethodCall c es) = unless (is_member_role a.role) ChainShape then call_fault c (count_exprs es)
expr_fault a (FnCall c es) = call_fault c (count_exprs es)
expr_fault a (Dot k l r) = unless (is_inside_chain a.role || is_rest true k.breaks r) ChainShape
expr_fault a (Index k l r) = unless (is_inside_chain a.role || is_rest false k.breaks r) ChainShape
expr_fault a (And es) = unless (has_operands es) NoOperands
expr_fault a (Or es) = unless (has_operands es) NoOperands
expr_fault a (Coalesce es) = unless (has_operands es) NoOperands
expr_fault a _ = None

abbrev pub stmt_fault : Around → Stmt → Option TreeFault
stmt_fault a (Switch e as' t) = unless (is_table as' t) SwitchFault
stmt_fault a (Assignment op l e) = unless (is_left_side l) AssignTarget
stmt_fault a (FnCallStmt c es) = call_fault c (count_exprs es)
stmt_fault a (TryCatch x b c) = unless (is_catch (catch_name x)) CatchName
stmt_fault a (BreakLoop breaks exported m) = unless a.in_loop BreakOutsideLoop
stmt_fault a _ = None

-- the smallest of a node
abbrev pub fault_of : Around → Node → Option TreeFault
fault_of a (OfExpr e) = expr_fault a e
fault_of a (OfStmt s) = stmt_fault a s

-- ---- trees

-- at no node stands a fault
abbrev pub IsFaultless : Around → Node → Type 0
IsFaultless a n = fault_of a n ≡ None

abbrev pub faultless : Walk (Around → Type 0)
faultless = throughout IsFaultless

abbrev pub IsWellFormedExpr : Around → Expr → Type 0
IsWellFormedExpr a e = over_expr faultless e a

abbrev pub AreWellFormedExprs : Around → Exprs → Type 0
AreWellFormedExprs a es = over_exprs faultless es a

abbrev pub IsWellFormed : Around → Stmt → Type 0
IsWellFormed a s = over_stmt faultless s a

abbrev pub AreWellFormed : Around → Stmts → Type 0
AreWellFormed a ss = over_stmts faultless ss a

-- a name that no function may have
abbrev pub is_reserved : Text → Bool
is_reserved f = is_among f reserved || is_among f symbols

abbrev pub AreWellFormedFunctions : List Function → Type 0
AreWellFormedFunctions [] = Unit {0}
AreWellFormedFunctions (f ∷ fs) = (is_reserved f.name ≡ false) × AreWellFormed outermost f.body × AreWellFormedFunctions fs

abbrev pub IsWellFormedScript : Script → Type 0
IsWellFormedScript p = AreWellFormed outermost p.statements × AreWellFormedFunctions p.functions

-- the first fault in the walk's order
abbrev pub finding : Walk (Around → Option TreeFault)
finding = record {
  none = λ a. None;
  both = λ p q a. p a then q a;
  node = λ n p a. fault_of a n then p (around_parts n a);
  within = λ s p a. p (around_spot s a);
  arms = λ t ps. arms_at (λ a. None) (λ p q a. p a then q a) ps (listed t);
}

-- a function's name before its body
abbrev pub functions_fault : List Function → Option TreeFault
functions_fault [] = None
functions_fault (f ∷ fs) = unless (not (is_reserved f.name)) ReservedName then (over_stmts finding f.body outermost then functions_fault fs)

abbrev pub script_fault : Script → Option TreeFault
script_fault p = over_stmts finding p.statements outermost then functions_fault p.functions
