-- For each rule on known names and of lists a small script, what it may be rewritten to, and what both do.
use Rattle.std.specs.Prelude.{◌≡◌, true, false, List, [], ◌∷◌, Some, None, codes, refl}
use Prim.Native.String.{String}
use native.Mathlib.Bridge.{le_by_compare, IsLe}
use Rattle.rhai_base.specs.Value.{Value, UnitV, ArrayV, MapV, PointerV, values, field, no_fields}
use Rattle.rhai_base.specs.Operators.{Plus, computed}
use Rattle.theory_meaning.specs.Act.{IsVariable, IsConstant, HostCall, ScopeEntry, WrongKind}
use Rattle.theory_meaning.specs.Run.{End, Report, WithValue, WithStuck}
use Rattle.theory_meaning.specs.Tree.{Expr, DynamicConstant, StringConstant, BoolConstant, UnitConstant, Variable, Dot, Index, And, no_expr, an_expr, Stmt, Noop, If, While, For, Var, Block, TryCatch, ExprStmt, Return, Share, exprs, stmts, Assignment, BlockExpr}
use Rattle.theory_meaning.specs.WorkedForms.{int, nothing_set, joining, ran, ends, i, op, call}
use Rattle.theory_rewriting.specs.Context.{Inside, noting, under, open_list}
use Rattle.theory_rewriting.specs.Rewriting.{RestTo, then_stmts, by_expr_rule, by_stmt_rule, by_list_rule, in_expression, in_block, in_head, in_tail}
use Rattle.theory_rewriting.specs.Rules.{StmtRule, known_name, known_property, known_entry, nested_if, nested_if_joins, share_known, share_nothing, after_leave, pure_goes, lone_goes, pure_inside_goes, last_return, last_return_goes, last_return_noop, last_unit_goes, last_unit_noop, self_assign, known_pointer, dot_rule, index_rule}
use Rattle.worked_rules.specs.WorkedNodes.{dot, index, property}
use Rattle.worked_rules.specs.WorkedRewrites.{Row, f, asks_f}

abbrev pub var : String → Expr
var x = Variable [] (codes x)

abbrev pub let' : String → Expr → Stmt
let' x e = Var false false (codes x) e

abbrev pub const : String → Expr → Stmt
const x e = Var true false (codes x) e

abbrev pub variable : String → Value → ScopeEntry
variable x v = record { name = codes x; kind = IsVariable; value = v }

abbrev pub constant : String → Value → ScopeEntry
constant x v = record { name = codes x; kind = IsConstant; value = v }

-- an end with these variables
abbrev pub ends_with : End → List ScopeEntry → List HostCall → Report
ends_with e vs cs = record { ended = e; variables = vs; exports = []; this = None; calls = cs; turns = 0 }

abbrev t : Expr
t = BoolConstant true

abbrev show : Expr → Stmt
show e = ExprStmt e

-- ---- names that are known

-- const x = 1; x
known_name_row : Row (const "x" (int 1) ∷ show (var "x") ∷ []) (const "x" (int 1) ∷ show (int 1) ∷ []) (ends_with (WithValue (i 1)) (constant "x" (i 1) ∷ []) [])
unfolding ran
known_name_row = (in_tail (in_head (in_expression (by_expr_rule (known_name (i 1) refl)))), refl, refl)

-- const p = Fn(f), a constant; p: the call that makes it, or the constant
known_pointer_row : Row (const "p" (DynamicConstant (PointerV (codes "f") (values []))) ∷ show (var "p") ∷ []) (const "p" (DynamicConstant (PointerV (codes "f") (values []))) ∷ show (call "Fn" (StringConstant (codes "f") ∷ [])) ∷ []) (ends_with (WithValue (PointerV (codes "f") (values []))) (constant "p" (PointerV (codes "f") (values [])) ∷ []) [])
unfolding ran
known_pointer_row = (in_tail (in_head (in_expression (by_expr_rule (known_pointer (codes "f") refl refl)))), refl, refl)

pointer_value_row : Row (const "p" (DynamicConstant (PointerV (codes "f") (values []))) ∷ show (var "p") ∷ []) (const "p" (DynamicConstant (PointerV (codes "f") (values []))) ∷ show (DynamicConstant (PointerV (codes "f") (values []))) ∷ []) (ends_with (WithValue (PointerV (codes "f") (values []))) (constant "p" (PointerV (codes "f") (values [])) ∷ []) [])
unfolding ran
pointer_value_row = (in_tail (in_head (in_expression (by_expr_rule (known_name (PointerV (codes "f") (values [])) refl)))), refl, refl)

-- const x = 1; { let y = 2; x }: a block knows it too
inner_name_row : Row (const "x" (int 1) ∷ Block (stmts (let' "y" (int 2) ∷ show (var "x") ∷ [])) ∷ []) (const "x" (int 1) ∷ Block (stmts (let' "y" (int 2) ∷ show (int 1) ∷ [])) ∷ []) (ends_with (WithValue (i 1)) (constant "x" (i 1) ∷ []) [])
unfolding ran
inner_name_row = (in_tail (in_head (in_block (in_tail (in_head (in_expression (by_expr_rule (known_name (i 1) refl))))))), refl, refl)

abbrev map : Expr
map = DynamicConstant (MapV (field (codes "a") (i 1) no_fields))

-- const m = #{a: 1}; m.a
known_property_row : Row (const "m" map ∷ show (Dot dot (var "m") (property "a")) ∷ []) (const "m" map ∷ show (int 1) ∷ []) (ends_with (WithValue (i 1)) (constant "m" (MapV (field (codes "a") (i 1) no_fields)) ∷ []) [])
unfolding ran
known_property_row = (in_tail (in_head (in_expression (by_expr_rule (dot_rule (known_property (field (codes "a") (i 1) no_fields) refl))))), refl, refl)

-- const m = #{a: 1}; m["b"]
known_entry_row : Row (const "m" map ∷ show (Index index (var "m") (StringConstant (codes "b"))) ∷ []) (const "m" map ∷ show UnitConstant ∷ []) (ends_with (WithValue UnitV) (constant "m" (MapV (field (codes "a") (i 1) no_fields)) ∷ []) [])
unfolding ran
known_entry_row = (in_tail (in_head (in_expression (by_expr_rule (index_rule (known_entry (field (codes "a") (i 1) no_fields) (codes "b") refl refl))))), refl, refl)

-- ---- statements

-- if true { if true { f() } }
nested_if_row : Row (If t (stmts (If t (stmts (f ∷ [])) (stmts []) ∷ [])) (stmts []) ∷ []) (If (And (exprs (t ∷ t ∷ []))) (stmts (f ∷ [])) (stmts []) ∷ []) (ends (WithValue UnitV) asks_f)
unfolding ran
nested_if_row = (in_head (by_stmt_rule (nested_if refl)), refl, refl)

-- if true && true { if true { f() } }: one `&&` of three
nested_if_joins_row : Row (If (And (exprs (t ∷ t ∷ []))) (stmts (If t (stmts (f ∷ [])) (stmts []) ∷ [])) (stmts []) ∷ []) (If (And (exprs (t ∷ t ∷ t ∷ []))) (stmts (f ∷ [])) (stmts []) ∷ []) (ends (WithValue UnitV) asks_f)
unfolding ran
nested_if_joins_row = (in_head (by_stmt_rule (nested_if_joins refl)), refl, refl)

-- if true { if true && true { f() } }: an inner `&&` is one operand
nested_if_inner_row : Row (If t (stmts (If (And (exprs (t ∷ t ∷ []))) (stmts (f ∷ [])) (stmts []) ∷ [])) (stmts []) ∷ []) (If (And (exprs (t ∷ And (exprs (t ∷ t ∷ [])) ∷ []))) (stmts (f ∷ [])) (stmts []) ∷ []) (ends (WithValue UnitV) asks_f)
unfolding ran
nested_if_inner_row = (in_head (by_stmt_rule (nested_if refl)), refl, refl)

-- let x = 1; x = x + 2; x
self_assign_row : Row (let' "x" (int 1) ∷ Assignment None (var "x") (op Plus (var "x" ∷ int 2 ∷ [])) ∷ show (var "x") ∷ []) (let' "x" (int 1) ∷ Assignment (Some Plus) (var "x") (int 2) ∷ show (var "x") ∷ []) (ends_with (WithValue (i 3)) (variable "x" (i 3) ∷ []) [])
unfolding ran computed
self_assign_row = (in_tail (in_head (by_stmt_rule (self_assign refl refl refl refl))), refl, refl)

-- x = x + { let x = 2; x }: what a block declares is its own
self_assign_block_row : Row (let' "x" (int 1) ∷ Assignment None (var "x") (op Plus (var "x" ∷ BlockExpr (stmts (let' "x" (int 2) ∷ show (var "x") ∷ [])) ∷ [])) ∷ []) (let' "x" (int 1) ∷ Assignment (Some Plus) (var "x") (BlockExpr (stmts (let' "x" (int 2) ∷ show (var "x") ∷ []))) ∷ []) (ends_with (WithValue UnitV) (variable "x" (i 3) ∷ []) [])
unfolding ran computed
self_assign_block_row = (in_tail (in_head (by_stmt_rule (self_assign refl refl refl refl))), refl, refl)

-- share x, y where x is known: neither has a meaning, and both are stuck
share_known_row : StmtRule (noting (codes "x") (Some (i 1)) (under nothing_set)) false (Share (codes "x" ∷ codes "y" ∷ [])) (Share (codes "y" ∷ []))
unfolding IsLe
share_known_row = share_known (le_by_compare 2 2 tt)

share_runs : (ran nothing_set joining (Share (codes "x" ∷ codes "y" ∷ []) ∷ []) ≡ ends (WithStuck WrongKind) []) × (ran nothing_set joining (Share (codes "y" ∷ []) ∷ []) ≡ ends (WithStuck WrongKind) [])
unfolding ran
share_runs = (refl, refl)

-- share nothing
share_nothing_row : StmtRule (under nothing_set) false (Share []) Noop
share_nothing_row = share_nothing

share_nothing_runs : (ran nothing_set joining (Share [] ∷ []) ≡ ends (WithStuck WrongKind) []) × (ran nothing_set joining (Noop ∷ []) ≡ ends (WithValue UnitV) [])
unfolding ran
share_nothing_runs = (refl, refl)

-- ---- lists

-- f(); return 1; f(); 2
after_leave_row : Row (f ∷ Return false false (an_expr (int 1)) ∷ f ∷ show (int 2) ∷ []) (f ∷ Return false false (an_expr (int 1)) ∷ []) (ends (WithValue (i 1)) asks_f)
unfolding ran
after_leave_row = (in_tail (by_list_rule (after_leave refl)), refl, refl)

-- 1; f(), and a `for` over nothing
pure_goes_row : Row (show (int 1) ∷ f ∷ []) (f ∷ []) (ends (WithValue UnitV) asks_f)
unfolding ran
pure_goes_row = (by_list_rule (pure_goes refl refl), refl, refl)

pure_loop_row : Row (For (codes "x") None (DynamicConstant (ArrayV (values []))) (stmts (show (int 1) ∷ [])) ∷ f ∷ []) (f ∷ []) (ends (WithValue UnitV) asks_f)
unfolding ran
pure_loop_row = (by_list_rule (pure_goes refl refl), refl, refl)

-- let x = 1; x; f()
lone_goes_row : Row (let' "x" (int 1) ∷ show (var "x") ∷ f ∷ []) (let' "x" (int 1) ∷ f ∷ []) (ends_with (WithValue UnitV) (variable "x" (i 1) ∷ []) asks_f)
unfolding ran
lone_goes_row = (in_tail (by_list_rule (lone_goes refl)), refl, refl)

-- { f(); let x = 1; let y = 2; 3 }: the declarations go, one by one
pure_inside_goes_row : Row (Block (stmts (f ∷ let' "x" (int 1) ∷ let' "y" (int 2) ∷ show (int 3) ∷ [])) ∷ []) (Block (stmts (f ∷ show (int 3) ∷ [])) ∷ []) (ends (WithValue (i 3)) asks_f)
unfolding ran
pure_inside_goes_row = (in_head (in_block (in_tail (then_stmts (by_list_rule (pure_inside_goes refl refl refl refl)) (by_list_rule (pure_inside_goes refl refl refl refl))))), refl, refl)

-- a body whose value nobody asks for: its last pure statement goes
unwanted_tail_row : RestTo (open_list (under nothing_set)) (Inside false) true false true (stmts (f ∷ show (int 3) ∷ [])) (stmts (f ∷ []))
unwanted_tail_row = in_tail (by_list_rule (pure_goes refl refl))

-- try { f(); 3 }, and try { f() }
unwanted_tail_runs : (ran nothing_set joining (TryCatch UnitConstant (stmts (f ∷ show (int 3) ∷ [])) (stmts []) ∷ []) ≡ ends (WithValue UnitV) asks_f) × (ran nothing_set joining (TryCatch UnitConstant (stmts (f ∷ [])) (stmts []) ∷ []) ≡ ends (WithValue UnitV) asks_f)
unfolding ran
unwanted_tail_runs = (refl, refl)

-- f(); return 42;
last_return_row : Row (f ∷ Return false false (an_expr (int 42)) ∷ []) (f ∷ show (int 42) ∷ []) (ends (WithValue (i 42)) asks_f)
unfolding ran
last_return_row = (in_tail (by_list_rule last_return), refl, refl)

-- let x = 1; return;
last_return_goes_row : Row (let' "x" (int 1) ∷ Return false false no_expr ∷ []) (let' "x" (int 1) ∷ []) (ends_with (WithValue UnitV) (variable "x" (i 1) ∷ []) [])
unfolding ran
last_return_goes_row = (in_tail (by_list_rule last_return_goes), refl, refl)

-- f(); return;
last_return_noop_row : Row (f ∷ Return false false no_expr ∷ []) (f ∷ Noop ∷ []) (ends (WithValue UnitV) asks_f)
unfolding ran
last_return_noop_row = (in_tail (by_list_rule last_return_noop), refl, refl)

-- let x = 1; while false { f() }
last_unit_goes_row : Row (let' "x" (int 1) ∷ While (BoolConstant false) (stmts (f ∷ [])) ∷ []) (let' "x" (int 1) ∷ []) (ends_with (WithValue UnitV) (variable "x" (i 1) ∷ []) [])
unfolding ran
last_unit_goes_row = (in_tail (by_list_rule (last_unit_goes refl refl)), refl, refl)

-- f(); try { 1 }
last_unit_noop_row : Row (f ∷ TryCatch UnitConstant (stmts (show (int 1) ∷ [])) (stmts []) ∷ []) (f ∷ Noop ∷ []) (ends (WithValue UnitV) asks_f)
unfolding ran
last_unit_noop_row = (in_tail (by_list_rule (last_unit_noop refl refl refl)), refl, refl)

-- { f(); let x = 1 }
last_declaration_row : Row (Block (stmts (f ∷ let' "x" (int 1) ∷ [])) ∷ []) (Block (stmts (f ∷ Noop ∷ [])) ∷ []) (ends (WithValue UnitV) asks_f)
unfolding ran
last_declaration_row = (in_head (in_block (in_tail (by_list_rule (last_unit_noop refl refl refl)))), refl, refl)
