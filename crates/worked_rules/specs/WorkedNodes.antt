-- For rules on operands, texts, maps, the language's own functions, chains, loops, `try` and `switch` a small script, what it
-- may be rewritten to, and what both do.
use Rattle.std.specs.Prelude.{◌≡◌, true, false, ℕ, List, [], ◌∷◌, Option, Some, None, pos, codes, refl}
use Prim.Native.String.{String}
use Rattle.rhai_base.specs.Value.{Value, UnitV, BoolV, TextV, ArrayV, MapV, PointerV, values, field, no_fields, text_of, CharV}
use Rattle.theory_meaning.specs.Elements.{character}
use Rattle.theory_meaning.specs.Act.{HostCall, WrongKind}
use Rattle.theory_meaning.specs.Control.{texts_joined}
use Rattle.theory_meaning.specs.Run.{WithValue, WithStuck}
use Rattle.theory_meaning.specs.Tree.{FnCallStmt, SwitchCase, SwitchTable, ChainFlags, PropertyNames, Expr, DynamicConstant, BoolConstant, StringConstant, UnitConstant, InterpolatedString, ArrayOf, MapOf, Property, MethodCall, FnCall, Dot, Index, And, Or, Coalesce, Noop, While, TryCatch, ExprStmt, BreakLoop, no_expr, exprs, pairs, arms, stmts, BlockExpr, If, Switch, Block, Var, SwitchRange, ExclusiveInt, Arms}
use Rattle.theory_meaning.specs.WorkedForms.{int, call, nothing_set, joining, ran, ran_with, ends, i}
use Rattle.theory_rewriting.specs.Context.{under}
use Rattle.theory_rewriting.specs.Operands.{passing_goes, after_deciding_go, pure_before_deciding_goes, in_other_operands, unit_goes, after_some_go, texts_join, empty_goes, in_other_parts}
use Rattle.theory_rewriting.specs.Parts.{named}
use Rattle.theory_rewriting.specs.Rewriting.{by_expr_rule, by_stmt_rule, in_expression, in_head}
use Rattle.theory_rewriting.specs.Rules.{StmtRule, call_statement_folds, and_changes, or_changes, coalesce_changes, and_of_one, or_of_one, coalesce_of_one, text_changes, text_folds, map_of_constants, type_of_folds, is_shared_folds, fn_folds, curry_folds, unit_ends, step_answers, chain_goes_on, property_of_constant, index_of_constant, element_of_array, property_of_map, entry_of_map, type_of_method, is_shared_method, while_false, while_true, pure_try, switch_answers, switch_is_if, switch_defaults, switch_narrows, switch_shrinks, switch_forgets, and_of_none, or_of_none, coalesce_of_none, dot_rule, index_rule}
use Rattle.worked_rules.specs.WorkedRewrites.{Row, f, asks_f}

-- one expression as a statement
abbrev ExprRow : Expr → Expr → Value → List HostCall → Type 0
ExprRow e e' v cs = Row (ExprStmt e ∷ []) (ExprStmt e' ∷ []) (ends (WithValue v) cs)

abbrev t : Expr
t = BoolConstant true

abbrev n : Expr
n = BoolConstant false

abbrev ask : Expr
ask = call "f" []

abbrev text : String → Expr
text x = StringConstant (codes x)

-- `.` and `?.`
abbrev pub dot : ChainFlags
dot = record { negated = false; breaks = false; exported = false }

abbrev pub safe : ChainFlags
safe = record { negated = true; breaks = false; exported = false }

-- the last index, `[` and `?[`
abbrev pub index : ChainFlags
index = record { negated = false; breaks = true; exported = false }

abbrev pub safe_index : ChainFlags
safe_index = record { negated = true; breaks = true; exported = false }

abbrev names_of : String → PropertyNames
names_of x = record { getter = codes "get"; setter = codes "set"; name = codes x }

abbrev pub property : String → Expr
property x = Property (names_of x)

-- ---- operands

-- true && false
passing_row : ExprRow (And (exprs (t ∷ n ∷ []))) (And (exprs (n ∷ []))) (BoolV false) []
unfolding ran
passing_row = (in_head (in_expression (by_expr_rule (and_changes (passing_goes refl) refl))), refl, refl)

-- true && false && f()
deciding_row : ExprRow (And (exprs (t ∷ n ∷ ask ∷ []))) (And (exprs (t ∷ n ∷ []))) (BoolV false) []
unfolding ran
deciding_row = (in_head (in_expression (by_expr_rule (and_changes (in_other_operands (after_deciding_go refl)) refl))), refl, refl)

-- (true && true) && false
pure_operand_row : ExprRow (And (exprs (And (exprs (t ∷ t ∷ [])) ∷ n ∷ []))) (And (exprs (n ∷ []))) (BoolV false) []
unfolding ran
pure_operand_row = (in_head (in_expression (by_expr_rule (and_changes (pure_before_deciding_goes refl refl) refl))), refl, refl)

-- false || true, and true || f()
or_passing_row : ExprRow (Or (exprs (n ∷ t ∷ []))) (Or (exprs (t ∷ []))) (BoolV true) []
unfolding ran
or_passing_row = (in_head (in_expression (by_expr_rule (or_changes (passing_goes refl) refl))), refl, refl)

or_deciding_row : ExprRow (Or (exprs (t ∷ ask ∷ []))) (Or (exprs (t ∷ []))) (BoolV true) []
unfolding ran
or_deciding_row = (in_head (in_expression (by_expr_rule (or_changes (after_deciding_go refl) refl))), refl, refl)

-- (true && true) || true
or_pure_operand_row : ExprRow (Or (exprs (And (exprs (t ∷ t ∷ [])) ∷ t ∷ []))) (Or (exprs (t ∷ []))) (BoolV true) []
unfolding ran
or_pure_operand_row = (in_head (in_expression (by_expr_rule (or_changes (pure_before_deciding_goes refl refl) refl))), refl, refl)

-- () ?? f(), and 1 ?? f()
unit_option_row : ExprRow (Coalesce (exprs (UnitConstant ∷ ask ∷ []))) (Coalesce (exprs (ask ∷ []))) UnitV asks_f
unfolding ran
unit_option_row = (in_head (in_expression (by_expr_rule (coalesce_changes (unit_goes refl) refl))), refl, refl)

some_option_row : ExprRow (Coalesce (exprs (int 1 ∷ ask ∷ []))) (Coalesce (exprs (int 1 ∷ []))) (i 1) []
unfolding ran
some_option_row = (in_head (in_expression (by_expr_rule (coalesce_changes (after_some_go (i 1) refl refl) refl))), refl, refl)

-- one operand
and_of_one_row : ExprRow (And (exprs (n ∷ []))) n (BoolV false) []
unfolding ran
and_of_one_row = (in_head (in_expression (by_expr_rule and_of_one)), refl, refl)

or_of_one_row : ExprRow (Or (exprs (n ∷ []))) n (BoolV false) []
unfolding ran
or_of_one_row = (in_head (in_expression (by_expr_rule or_of_one)), refl, refl)

coalesce_of_one_row : ExprRow (Coalesce (exprs (ask ∷ []))) ask UnitV asks_f
unfolding ran
coalesce_of_one_row = (in_head (in_expression (by_expr_rule coalesce_of_one)), refl, refl)

-- ---- texts and maps

-- `a${"b"}${f()}`
texts_join_row : ExprRow (InterpolatedString (exprs (text "a" ∷ text "b" ∷ ask ∷ []))) (InterpolatedString (exprs (text "ab" ∷ ask ∷ []))) (TextV (codes "ab")) asks_f
unfolding ran texts_joined text_of
texts_join_row = (in_head (in_expression (by_expr_rule (text_changes texts_join))), refl, refl)

-- `${f()}${()}`
empty_goes_row : ExprRow (InterpolatedString (exprs (ask ∷ UnitConstant ∷ []))) (InterpolatedString (exprs (ask ∷ []))) (TextV []) asks_f
unfolding ran texts_joined text_of
empty_goes_row = (in_head (in_expression (by_expr_rule (text_changes (in_other_parts (empty_goes UnitV refl refl refl))))), refl, refl)

-- `${f()}${""}`
empty_text_row : ExprRow (InterpolatedString (exprs (ask ∷ text "" ∷ []))) (InterpolatedString (exprs (ask ∷ []))) (TextV []) asks_f
unfolding ran texts_joined text_of
empty_text_row = (in_head (in_expression (by_expr_rule (text_changes (in_other_parts (empty_goes (TextV []) refl refl refl))))), refl, refl)

-- `a${true}`
text_folds_row : ExprRow (InterpolatedString (exprs (text "a" ∷ t ∷ []))) (StringConstant (codes "atrue")) (TextV (codes "atrue")) []
unfolding ran texts_joined text_of
text_folds_row = (in_head (in_expression (by_expr_rule (text_folds (TextV (codes "a") ∷ BoolV true ∷ []) refl))), refl, refl)

-- #{b: 2, a: 1}
map_row : ExprRow (MapOf (pairs ((codes "b", int 2) ∷ (codes "a", int 1) ∷ [])) (codes "a" ∷ codes "b" ∷ [])) (DynamicConstant (MapV (field (codes "a") (i 1) (field (codes "b") (i 2) no_fields)))) (MapV (field (codes "a") (i 1) (field (codes "b") (i 2) no_fields))) []
unfolding ran
map_row = (in_head (in_expression (by_expr_rule (map_of_constants ((codes "b", i 2) ∷ (codes "a", i 1) ∷ []) refl))), refl, refl)

-- ---- the language's own functions

type_of_row : ExprRow (FnCall (named (codes "type_of") false) (exprs (int 1 ∷ []))) (text "i64") (TextV (codes "i64")) []
unfolding ran
type_of_row = (in_head (in_expression (by_expr_rule (type_of_folds (i 1) refl))), refl, refl)

is_shared_row : ExprRow (FnCall (named (codes "is_shared") false) (exprs (int 1 ∷ []))) n (BoolV false) []
unfolding ran
is_shared_row = (in_head (in_expression (by_expr_rule (is_shared_folds (i 1) refl))), refl, refl)

fn_row : ExprRow (FnCall (named (codes "Fn") false) (exprs (text "f" ∷ []))) (DynamicConstant (PointerV (codes "f") (values []))) (PointerV (codes "f") (values [])) []
unfolding ran
fn_row = (in_head (in_expression (by_expr_rule (fn_folds (codes "f") refl refl))), refl, refl)

curry_row : ExprRow (FnCall (named (codes "curry") false) (exprs (DynamicConstant (PointerV (codes "f") (values [])) ∷ int 1 ∷ []))) (DynamicConstant (PointerV (codes "f") (values (i 1 ∷ [])))) (PointerV (codes "f") (values (i 1 ∷ []))) []
unfolding ran
curry_row = (in_head (in_expression (by_expr_rule (curry_folds (codes "f") (values []) (i 1 ∷ []) refl refl))), refl, refl)

-- the same as call statements
type_of_statement_row : Row (FnCallStmt (named (codes "type_of") false) (exprs (int 1 ∷ [])) ∷ []) (ExprStmt (text "i64") ∷ []) (ends (WithValue (TextV (codes "i64"))) [])
unfolding ran
type_of_statement_row = (in_head (by_stmt_rule (call_statement_folds (type_of_folds (i 1) refl))), refl, refl)

is_shared_statement_row : Row (FnCallStmt (named (codes "is_shared") false) (exprs (int 1 ∷ [])) ∷ []) (ExprStmt n ∷ []) (ends (WithValue (BoolV false)) [])
unfolding ran
is_shared_statement_row = (in_head (by_stmt_rule (call_statement_folds (is_shared_folds (i 1) refl))), refl, refl)

fn_statement_row : Row (FnCallStmt (named (codes "Fn") false) (exprs (text "f" ∷ [])) ∷ []) (ExprStmt (DynamicConstant (PointerV (codes "f") (values []))) ∷ []) (ends (WithValue (PointerV (codes "f") (values []))) [])
unfolding ran
fn_statement_row = (in_head (by_stmt_rule (call_statement_folds (fn_folds (codes "f") refl refl))), refl, refl)

curry_statement_row : Row (FnCallStmt (named (codes "curry") false) (exprs (DynamicConstant (PointerV (codes "f") (values [])) ∷ int 1 ∷ [])) ∷ []) (ExprStmt (DynamicConstant (PointerV (codes "f") (values (i 1 ∷ [])))) ∷ []) (ends (WithValue (PointerV (codes "f") (values (i 1 ∷ [])))) [])
unfolding ran
curry_statement_row = (in_head (by_stmt_rule (call_statement_folds (curry_folds (codes "f") (values []) (i 1 ∷ []) refl refl))), refl, refl)

-- ---- chains

-- ()?.a, ()?[f()]
unit_dot_row : ExprRow (Dot safe UnitConstant (property "a")) UnitConstant UnitV []
unfolding ran
unit_dot_row = (in_head (in_expression (by_expr_rule (dot_rule (unit_ends refl)))), refl, refl)

unit_index_row : ExprRow (Index safe_index UnitConstant ask) UnitConstant UnitV []
unfolding ran
unit_index_row = (in_head (in_expression (by_expr_rule (index_rule (unit_ends refl)))), refl, refl)

-- a constant map's entry, and one that is missing
property_row : ExprRow (Dot dot (DynamicConstant (MapV (field (codes "a") (i 1) no_fields))) (property "a")) (int 1) (i 1) []
unfolding ran
property_row = (in_head (in_expression (by_expr_rule (dot_rule (step_answers (property_of_constant (field (codes "a") (i 1) no_fields) refl))))), refl, refl)

missing_row : ExprRow (Dot dot (DynamicConstant (MapV (field (codes "a") (i 1) no_fields))) (property "b")) UnitConstant UnitV []
unfolding ran
missing_row = (in_head (in_expression (by_expr_rule (dot_rule (step_answers (property_of_constant (field (codes "a") (i 1) no_fields) refl))))), refl, refl)

-- a constant array's element, a bit, and a character
element_row : ExprRow (Index index (DynamicConstant (ArrayV (values (i 1 ∷ i 2 ∷ [])))) (int 1)) (int 2) (i 2) []
unfolding ran
element_row = (in_head (in_expression (by_expr_rule (index_rule (step_answers (index_of_constant (ArrayV (values (i 1 ∷ i 2 ∷ []))) (i 1) (i 2) refl refl refl))))), refl, refl)

bit_row : ExprRow (Index index (int 2) (int 1)) t (BoolV true) []
unfolding ran
bit_row = (in_head (in_expression (by_expr_rule (index_rule (step_answers (index_of_constant (i 2) (i 1) (BoolV true) refl refl refl))))), refl, refl)

-- [1, true && false][1]
array_row : ExprRow (Index index (ArrayOf (exprs (int 1 ∷ And (exprs (t ∷ n ∷ [])) ∷ []))) (int 1)) (And (exprs (t ∷ n ∷ []))) (BoolV false) []
unfolding ran
array_row = (in_head (in_expression (by_expr_rule (index_rule (step_answers (element_of_array (pos 1) 1 refl refl refl refl))))), refl, refl)

-- #{a: 1, b: 2}.b, #{a: 1}["c"]
map_property_row : ExprRow (Dot dot (MapOf (pairs ((codes "a", int 1) ∷ (codes "b", int 2) ∷ [])) (codes "a" ∷ codes "b" ∷ [])) (property "b")) (int 2) (i 2) []
unfolding ran
map_property_row = (in_head (in_expression (by_expr_rule (dot_rule (step_answers (property_of_map refl))))), refl, refl)

map_entry_row : ExprRow (Index index (MapOf (pairs ((codes "a", int 1) ∷ [])) (codes "a" ∷ [])) (text "c")) UnitConstant UnitV []
unfolding ran
map_entry_row = (in_head (in_expression (by_expr_rule (index_rule (step_answers (entry_of_map (codes "c") refl refl))))), refl, refl)

-- 1.type_of(), ().is_shared()
type_of_method_row : ExprRow (Dot dot (int 1) (MethodCall (named (codes "type_of") false) (exprs []))) (text "i64") (TextV (codes "i64")) []
unfolding ran
type_of_method_row = (in_head (in_expression (by_expr_rule (dot_rule (step_answers (type_of_method (i 1) refl refl))))), refl, refl)

is_shared_method_row : ExprRow (Dot dot UnitConstant (MethodCall (named (codes "is_shared") false) (exprs []))) n (BoolV false) []
unfolding ran
is_shared_method_row = (in_head (in_expression (by_expr_rule (dot_rule (step_answers (is_shared_method UnitV refl refl))))), refl, refl)

-- #{a: "xy"}.a[0]: the chain goes on from "xy"
property_first_row : ExprRow (Dot dot (DynamicConstant (MapV (field (codes "a") (TextV (codes "xy")) no_fields))) (Index index (property "a") (int 0))) (Index index (text "xy") (int 0)) (CharV 120) []
unfolding ran character
property_first_row = (in_head (in_expression (by_expr_rule (dot_rule (chain_goes_on false index (int 0) refl (property_of_constant (field (codes "a") (TextV (codes "xy")) no_fields) refl))))), refl, refl)

-- [5][0].is_shared()
index_first_row : ExprRow (Index dot (DynamicConstant (ArrayV (values (i 5 ∷ [])))) (Dot dot (int 0) (MethodCall (named (codes "is_shared") false) (exprs [])))) (Dot dot (int 5) (MethodCall (named (codes "is_shared") false) (exprs []))) (BoolV false) []
unfolding ran
index_first_row = (in_head (in_expression (by_expr_rule (index_rule (chain_goes_on true dot (MethodCall (named (codes "is_shared") false) (exprs [])) refl (index_of_constant (ArrayV (values (i 5 ∷ []))) (i 0) (i 5) refl refl refl))))), refl, refl)

-- 1.type_of().is_shared(), 1.is_shared().type_of()
type_of_first_row : ExprRow (Dot dot (int 1) (Dot dot (MethodCall (named (codes "type_of") false) (exprs [])) (MethodCall (named (codes "is_shared") false) (exprs [])))) (Dot dot (text "i64") (MethodCall (named (codes "is_shared") false) (exprs []))) (BoolV false) []
unfolding ran
type_of_first_row = (in_head (in_expression (by_expr_rule (dot_rule (chain_goes_on true dot (MethodCall (named (codes "is_shared") false) (exprs [])) refl (type_of_method (i 1) refl refl))))), refl, refl)

is_shared_first_row : ExprRow (Dot dot (int 1) (Dot dot (MethodCall (named (codes "is_shared") false) (exprs [])) (MethodCall (named (codes "type_of") false) (exprs [])))) (Dot dot n (MethodCall (named (codes "type_of") false) (exprs []))) (TextV (codes "bool")) []
unfolding ran
is_shared_first_row = (in_head (in_expression (by_expr_rule (dot_rule (chain_goes_on true dot (MethodCall (named (codes "type_of") false) (exprs [])) refl (is_shared_method (i 1) refl refl))))), refl, refl)

-- [#{a: true && false}, 2][0].a: from a literal whose parts are pure the chain goes on too
abbrev both : Expr
both = And (exprs (t ∷ n ∷ []))

abbrev map_of : String → Expr → Expr
map_of x e = MapOf (pairs ((codes x, e) ∷ [])) (codes x ∷ [])

array_first_row : ExprRow (Index dot (ArrayOf (exprs (map_of "a" both ∷ int 2 ∷ []))) (Dot dot (int 0) (property "a"))) (Dot dot (map_of "a" both) (property "a")) (BoolV false) []
unfolding ran
array_first_row = (in_head (in_expression (by_expr_rule (index_rule (chain_goes_on true dot (property "a") refl (element_of_array (pos 0) 0 refl refl refl refl))))), refl, refl)

-- #{a: [true && false]}.a[0]
map_property_first_row : ExprRow (Dot dot (map_of "a" (ArrayOf (exprs (both ∷ [])))) (Index index (property "a") (int 0))) (Index index (ArrayOf (exprs (both ∷ []))) (int 0)) (BoolV false) []
unfolding ran
map_property_first_row = (in_head (in_expression (by_expr_rule (dot_rule (chain_goes_on false index (int 0) refl (property_of_map refl))))), refl, refl)

-- #{a: 1}["b"]?.c: a missing entry is unit
map_entry_first_row : ExprRow (Index dot (map_of "a" (int 1)) (Dot safe (text "b") (property "c"))) (Dot safe UnitConstant (property "c")) UnitV []
unfolding ran
map_entry_first_row = (in_head (in_expression (by_expr_rule (index_rule (chain_goes_on true safe (property "c") refl (entry_of_map (codes "b") refl refl))))), refl, refl)

-- ---- loops and `try`

-- while false { f() }
while_false_row : Row (While n (stmts (f ∷ [])) ∷ []) (Noop ∷ []) (ends (WithValue UnitV) [])
unfolding ran
while_false_row = (in_head (by_stmt_rule (while_false refl)), refl, refl)

-- while true { break }, which takes a turn that is not there
while_true_row : StmtRule (under nothing_set) true (While t (stmts (BreakLoop true false no_expr ∷ []))) (While UnitConstant (stmts (BreakLoop true false no_expr ∷ [])))
while_true_row = while_true refl

while_true_runs : (ran_with nothing_set joining [] 1 (While t (stmts (BreakLoop true false no_expr ∷ [])) ∷ []) ≡ ends (WithValue UnitV) []) × (ran_with nothing_set joining [] 1 (While UnitConstant (stmts (BreakLoop true false no_expr ∷ [])) ∷ []) ≡ ends (WithValue UnitV) [])
unfolding ran_with
while_true_runs = (refl, refl)

-- try { 1 } catch { f() }
pure_try_row : Row (TryCatch UnitConstant (stmts (ExprStmt (int 1) ∷ [])) (stmts (f ∷ [])) ∷ []) (Noop ∷ []) (ends (WithValue UnitV) [])
unfolding ran
pure_try_row = (in_head (by_stmt_rule (pure_try refl)), refl, refl)

-- try { const a = 1; } catch { f() }: the body's names are its own
inner_try_row : Row (TryCatch UnitConstant (stmts (Var true false (codes "a") (int 1) ∷ [])) (stmts (f ∷ [])) ∷ []) (Noop ∷ []) (ends (WithValue UnitV) [])
unfolding ran
inner_try_row = (in_head (by_stmt_rule (pure_try refl)), refl, refl)

-- ---- `switch`

-- the table of one value and a default
abbrev cases : List SwitchCase → Option ℕ → SwitchTable
cases cs d = record { cases = cs; ranges = []; default = d }

abbrev on : ℕ → List ℕ → SwitchCase
on v is = record { value = i v; arms = is }

-- switch 1 { 1 => f(), _ => 2 }
switch_answers_row : Row (Switch (int 1) (arms ((t, ask) ∷ (t, int 2) ∷ [])) (cases (on 1 (0 ∷ []) ∷ []) (Some 1)) ∷ []) (ExprStmt ask ∷ []) (ends (WithValue UnitV) asks_f)
unfolding ran
switch_answers_row = (in_head (by_stmt_rule (switch_answers (i 1) 0 [] refl refl refl refl refl)), refl, refl)

-- switch 1 { 1 if false => 3, 1 if {true} => f(), _ => 2 }
switch_is_if_row : Row (Switch (int 1) (arms ((n, int 3) ∷ (BlockExpr (stmts (ExprStmt t ∷ [])), ask) ∷ (t, int 2) ∷ [])) (cases (on 1 (0 ∷ 1 ∷ []) ∷ []) (Some 2)) ∷ []) (If (BlockExpr (stmts (ExprStmt t ∷ []))) (stmts (ExprStmt ask ∷ [])) (stmts (ExprStmt (int 2) ∷ [])) ∷ []) (ends (WithValue UnitV) asks_f)
unfolding ran
switch_is_if_row = (in_head (by_stmt_rule (switch_is_if (i 1) 1 refl refl refl refl (λ h. absurd cc))), refl, refl)

-- switch 3 { 1 => f(), _ => 2 }, and without a default
switch_defaults_row : Row (Switch (int 3) (arms ((t, ask) ∷ (t, int 2) ∷ [])) (cases (on 1 (0 ∷ []) ∷ []) (Some 1)) ∷ []) (ExprStmt (int 2) ∷ []) (ends (WithValue (i 2)) [])
unfolding ran
switch_defaults_row = (in_head (by_stmt_rule (switch_defaults (i 3) refl refl refl)), refl, refl)

switch_nothing_row : Row (Switch (int 3) (arms ((t, ask) ∷ [])) (cases (on 1 (0 ∷ []) ∷ []) None) ∷ []) (Block (stmts []) ∷ []) (ends (WithValue UnitV) [])
unfolding ran
switch_nothing_row = (in_head (by_stmt_rule (switch_defaults (i 3) refl refl refl)), refl, refl)

-- switch 1 { 1 if false => 3, 1 if f() => 4, 1 => 5, 1 => 6 }: the false arm and the last go
switch_narrows_row : Row (Switch (int 1) (arms ((n, int 3) ∷ (ask, int 4) ∷ (t, int 5) ∷ (t, int 6) ∷ [])) (cases (on 1 (0 ∷ 1 ∷ 2 ∷ 3 ∷ []) ∷ on 2 (3 ∷ []) ∷ []) None) ∷ []) (Switch (int 1) (arms ((n, int 3) ∷ (ask, int 4) ∷ (t, int 5) ∷ (t, int 6) ∷ [])) (cases (on 1 (1 ∷ 2 ∷ []) ∷ []) None) ∷ []) (ends (WithStuck WrongKind) asks_f)
unfolding ran
switch_narrows_row = (in_head (by_stmt_rule (switch_narrows (i 1) refl refl refl)), refl, refl)

-- switch {1} { 1 if false => 3, 1 => 5, 1 => 6, 2 if false => 7 }: a false arm, one after a true one, and an empty list go
switch_shrinks_row : Row (Switch (BlockExpr (stmts (ExprStmt (int 1) ∷ []))) (arms ((n, int 3) ∷ (t, int 5) ∷ (t, int 6) ∷ (n, int 7) ∷ [])) (cases (on 1 (0 ∷ 1 ∷ 2 ∷ []) ∷ on 2 (3 ∷ []) ∷ []) None) ∷ []) (Switch (BlockExpr (stmts (ExprStmt (int 1) ∷ []))) (arms ((n, int 3) ∷ (t, int 5) ∷ (t, int 6) ∷ (n, int 7) ∷ [])) (cases (on 1 (1 ∷ []) ∷ []) None) ∷ []) (ends (WithValue (i 5)) [])
unfolding ran
switch_shrinks_row = (in_head (by_stmt_rule (switch_shrinks (refl, (refl, tt)) refl)), refl, refl)

-- switch {1} { 1 => 5 } with an arm that no list names
switch_forgets_row : Row (Switch (BlockExpr (stmts (ExprStmt (int 1) ∷ []))) (arms ((t, int 5) ∷ (n, ask) ∷ [])) (cases (on 1 (0 ∷ []) ∷ []) None) ∷ []) (Switch (BlockExpr (stmts (ExprStmt (int 1) ∷ []))) (arms ((t, int 5) ∷ (n, UnitConstant) ∷ [])) (cases (on 1 (0 ∷ []) ∷ []) None) ∷ []) (ends (WithValue (i 5)) [])
unfolding ran
switch_forgets_row = (in_head (by_stmt_rule (switch_forgets 1 refl refl refl)), refl, refl)

-- ---- `switch` with ranges

abbrev between : ℕ → ℕ → ℕ → SwitchRange
between a b j = record { range = ExclusiveInt (pos a) (pos b); arm = j }

-- the table of ranges and a default
abbrev ranges : List SwitchRange → Option ℕ → SwitchTable
ranges rs d = record { cases = []; ranges = rs; default = d }

-- switch 6 { 5..8 if f() => 1, _ => 2 }
range_is_if : Row (Switch (int 6) (arms ((ask, int 1) ∷ (t, int 2) ∷ [])) (ranges (between 5 8 0 ∷ []) (Some 1)) ∷ []) (If ask (stmts (ExprStmt (int 1) ∷ [])) (stmts (ExprStmt (int 2) ∷ [])) ∷ []) (ends (WithStuck WrongKind) asks_f)
unfolding ran
range_is_if = (in_head (by_stmt_rule (switch_is_if (i 6) 0 refl refl refl refl (λ h. absurd cc))), refl, refl)

-- switch 6 { 5..8 if f() => 1, 1..2 => 2, 6..7 => 3 }: the second doesn't hold 6
abbrev three_arms : Arms
three_arms = arms ((ask, int 1) ∷ (t, int 2) ∷ (t, int 3) ∷ [])

ranges_narrow : Row (Switch (int 6) three_arms (ranges (between 5 8 0 ∷ between 1 2 1 ∷ between 6 7 2 ∷ []) None) ∷ []) (Switch (int 6) three_arms (ranges (between 5 8 0 ∷ between 6 7 2 ∷ []) None) ∷ []) (ends (WithStuck WrongKind) asks_f)
unfolding ran
ranges_narrow = (in_head (by_stmt_rule (switch_narrows (i 6) refl refl refl)), refl, refl)

-- switch {6} { 5..8 if false => 1, 1..9 => 2 }: a false range goes, and the other stays
abbrev six : Expr
six = BlockExpr (stmts (ExprStmt (int 6) ∷ []))

false_range : Row (Switch six (arms ((n, int 1) ∷ (t, int 2) ∷ [])) (ranges (between 5 8 0 ∷ between 1 9 1 ∷ []) None) ∷ []) (Switch six (arms ((n, int 1) ∷ (t, int 2) ∷ [])) (ranges (between 1 9 1 ∷ []) None) ∷ []) (ends (WithValue (i 2)) [])
unfolding ran
false_range = (in_head (by_stmt_rule (switch_shrinks tt refl)), refl, refl)

-- ---- operands without any: no well-formed tree has them

and_of_none_row : ExprRow (And (exprs [])) t (BoolV true) []
unfolding ran
and_of_none_row = (in_head (in_expression (by_expr_rule and_of_none)), refl, refl)

or_of_none_row : ExprRow (Or (exprs [])) n (BoolV false) []
unfolding ran
or_of_none_row = (in_head (in_expression (by_expr_rule or_of_none)), refl, refl)

coalesce_of_none_row : ExprRow (Coalesce (exprs [])) UnitConstant UnitV []
unfolding ran
coalesce_of_none_row = (in_head (in_expression (by_expr_rule coalesce_of_none)), refl, refl)
