-- For places in which a rule may apply a derivation, most of them `{ 3 }` that becomes 3 there; what stays that place and what
-- becomes none; rules one after another; names; scripts. Arrays stand in `WorkedRewrites`, blocks in `WorkedLists`.
use Rattle.std.specs.Prelude.{◌≡◌, Bool, true, false, [], ◌∷◌, Some, None, codes, refl}
use Rattle.rhai_base.specs.Value.{Text, BoolV}
use Rattle.theory_meaning.specs.Act.{ScopeEntry, IsConstant}
use Rattle.theory_meaning.specs.Tree.{ChainFlags, Callee, NoToken, SwitchTable, Expr, BoolConstant, InterpolatedString, MapOf, Variable, MethodCall, BlockExpr, Dot, Index, And, Or, Coalesce, no_exprs, expr, exprs, no_pairs, pair, an_expr, no_arms, arm, If, Switch, While, Do, For, Var, Assignment, FnCallStmt, TryCatch, ExprStmt, BreakLoop, Return, no_stmts, stmts, Function, Script, FnCall, Import}
use Rattle.theory_meaning.specs.WorkedForms.{int, nothing_set, i}
use Rattle.theory_rewriting.specs.Context.{Context, under, noting, Whole}
use Rattle.theory_rewriting.specs.Rules.{braces_of_expression, known_name, statement_of_braces, block_of_statement}
use Rattle.theory_rewriting.specs.Rewriting.{ExprTo, same_expr, by_expr_rule, in_text, in_map, in_chain, in_and, in_or, in_coalesce, ExprsTo, exprs_none, exprs_more, pairs_none, pairs_more, in_dot, in_index, BaseTo, base, last_method, last_index, more_index, same_argument, in_target, GuardTo, guard, maybe_some, arms_none, arms_more, StmtTo, in_if, in_switch, in_while, in_do, in_for, in_var, in_assignment, in_try, in_expression, in_break, in_return, same_stmts, in_head, then_expr, in_braces, in_call, in_method, in_brackets, more_dot, then_stmt, by_stmt_rule, in_call_statement, in_import, StmtsTo, flag_forgotten}
use Rattle.theory_rewriting.specs.Scripts.{known_inside, is_place, no_functions, functions, MayKnow, none_capture, OptimisedTo}
use Rattle.theory_meaning.specs.Engine.{Engine}

abbrev k : Context
k = under nothing_set

-- { 3 }
abbrev braced : Expr
braced = BlockExpr (stmts (ExprStmt (int 3) ∷ []))

unbraced : {k : Context} {d : Bool} → ExprTo k d true braced (int 3)
unbraced = by_expr_rule braces_of_expression

abbrev a : Text
a = codes "a"

abbrev x : Expr
x = Variable [] (codes "x")

abbrev goes_on : ChainFlags
goes_on = record { negated = false; breaks = false; exported = false }

abbrev ends : ChainFlags
ends = record { negated = false; breaks = true; exported = false }

abbrev f : Callee
f = record { namespace = []; name = codes "f"; captures = false; token = NoToken }

alone : {k : Context} {d : Bool} → ExprsTo k d true (expr braced no_exprs) (expr (int 3) no_exprs)
alone = exprs_more unbraced exprs_none

-- ---- expressions

text_row : ExprTo k false true (InterpolatedString (expr braced no_exprs)) (InterpolatedString (expr (int 3) no_exprs))
text_row = in_text alone

map_row : ExprTo k false true (MapOf (pair a braced no_pairs) (a ∷ [])) (MapOf (pair a (int 3) no_pairs) (a ∷ []))
map_row = in_map (pairs_more unbraced pairs_none)

and_row : ExprTo k false true (And (expr braced no_exprs)) (And (expr (int 3) no_exprs))
and_row = in_and alone

or_row : ExprTo k false true (Or (expr braced no_exprs)) (Or (expr (int 3) no_exprs))
or_row = in_or alone

coalesce_row : ExprTo k false true (Coalesce (expr braced no_exprs)) (Coalesce (expr (int 3) no_exprs))
coalesce_row = in_coalesce alone

-- { { 3 }; x }, f({ 3 })
braces_row : ExprTo k false true (BlockExpr (stmts (ExprStmt braced ∷ ExprStmt x ∷ []))) (BlockExpr (stmts (ExprStmt (int 3) ∷ ExprStmt x ∷ [])))
braces_row = in_braces (in_head (in_expression unbraced))

call_row : ExprTo k false true (FnCall f (expr braced no_exprs)) (FnCall f (expr (int 3) no_exprs))
call_row = in_call alone

-- { 3 }.f({ 3 })
method_row : ExprTo k false true (Dot ends braced (MethodCall f (expr braced no_exprs))) (Dot ends (int 3) (MethodCall f (expr (int 3) no_exprs)))
method_row = in_chain (in_dot (base unbraced refl) (last_method alone))

-- x[{ 3 }], x[1][{ 3 }]
index_row : ExprTo k false true (Index ends x braced) (Index ends x (int 3))
index_row = in_chain (in_index (base same_expr refl) (last_index unbraced))

later_index_row : ExprTo k false true (Index goes_on x (Index ends (int 1) braced)) (Index goes_on x (Index ends (int 1) (int 3)))
later_index_row = in_chain (in_index (base same_expr refl) (more_index same_argument (last_index unbraced)))

-- x.f({ 3 }).f({ 3 }), x[{ 3 }].f({ 3 })
later_method_row : ExprTo k false true (Dot goes_on x (Dot ends (MethodCall f (expr braced no_exprs)) (MethodCall f (expr braced no_exprs)))) (Dot goes_on x (Dot ends (MethodCall f (expr (int 3) no_exprs)) (MethodCall f (expr (int 3) no_exprs))))
later_method_row = in_chain (in_dot (base same_expr refl) (more_dot (in_method alone) (last_method alone)))

first_index_row : ExprTo k false true (Index goes_on x (Dot ends braced (MethodCall f (expr braced no_exprs)))) (Index goes_on x (Dot ends (int 3) (MethodCall f (expr (int 3) no_exprs))))
first_index_row = in_chain (in_index (base same_expr refl) (more_dot (in_brackets unbraced) (last_method alone)))

-- a base doesn't become a name: { x }.f()
no_new_place : BaseTo k false true (BlockExpr (stmts (ExprStmt x ∷ []))) x → ⊥
no_new_place (base p h) = absurd cc

-- ---- statements

abbrev table : SwitchTable
table = record { cases = record { value = i 1; arms = 0 ∷ [] } ∷ []; ranges = []; default = None }

switch_row : StmtTo k true false true (Switch x (arm braced braced no_arms) table) (Switch x (arm (int 3) (int 3) no_arms) table)
switch_row = in_switch same_expr (arms_more unbraced unbraced arms_none)

-- while { 3 } { { 3 } }: the guard, and in the body
while_row : StmtTo k true false true (While braced (stmts (ExprStmt braced ∷ []))) (While (int 3) (stmts (ExprStmt (int 3) ∷ [])))
while_row = in_while (guard unbraced refl) (in_head (in_expression unbraced))

-- a guard doesn't become unit
no_new_loop : GuardTo k false true (BlockExpr no_stmts) Expr.UnitConstant → ⊥
no_new_loop (guard p h) = absurd cc

do_row : StmtTo k true false true (Do true false braced no_stmts) (Do true false (int 3) no_stmts)
do_row = in_do unbraced same_stmts

try_row : StmtTo k true false true (TryCatch x (stmts (ExprStmt braced ∷ [])) (stmts (ExprStmt braced ∷ []))) (TryCatch x (stmts (ExprStmt (int 3) ∷ [])) (stmts (ExprStmt (int 3) ∷ [])))
try_row = in_try (in_head (in_expression unbraced)) (in_head (in_expression unbraced))

var_row : StmtTo k true false true (Var true false (codes "x") braced) (Var true false (codes "x") (int 3))
var_row = in_var unbraced

-- x[{ 3 }] = { 3 }: in the arguments of a left side, which stays a place
assignment_row : StmtTo k true false true (Assignment None (Index ends x braced) braced) (Assignment None (Index ends x (int 3)) (int 3))
assignment_row = in_assignment (in_target (in_index (base same_expr refl) (last_index unbraced))) unbraced

is_still_place : is_place (Index ends x (int 3)) ≡ true
is_still_place = refl

is_no_place : is_place (Dot ends x (MethodCall f no_exprs)) ≡ false
is_no_place = refl

break_row : StmtTo k true false true (BreakLoop true false (an_expr braced)) (BreakLoop true false (an_expr (int 3)))
break_row = in_break (maybe_some unbraced)

return_row : StmtTo k true false true (Return true false (an_expr braced)) (Return true false (an_expr (int 3)))
return_row = in_return (maybe_some unbraced)

-- f({ 3 }) as a statement, import { 3 } as a
call_statement_row : StmtTo k true false true (FnCallStmt f (expr braced no_exprs)) (FnCallStmt f (expr (int 3) no_exprs))
call_statement_row = in_call_statement alone

import_row : StmtTo k true false true (Import braced a) (Import (int 3) a)
import_row = in_import unbraced

-- ---- one after another

-- { { 3 } }: the outer braces, then the inner
two_expressions_row : ExprTo k false true (BlockExpr (stmts (ExprStmt braced ∷ []))) (int 3)
two_expressions_row = then_expr (by_expr_rule braces_of_expression) unbraced

-- { 3 } as a statement: a block, then what is in it
two_statements_row : StmtTo k true false true (ExprStmt braced) (ExprStmt (int 3))
two_statements_row = then_stmt (by_stmt_rule statement_of_braces) (by_stmt_rule (block_of_statement refl))

-- a pass that began with a clear flag, and the same where the flag was set before
clear_flag_row : StmtsTo k Whole false true (stmts (ExprStmt braced ∷ [])) (stmts (ExprStmt (int 3) ∷ []))
clear_flag_row = in_head (in_expression unbraced)

forgotten_flag_row : StmtsTo k Whole true true (stmts (ExprStmt braced ∷ [])) (stmts (ExprStmt (int 3) ∷ []))
forgotten_flag_row = flag_forgotten clear_flag_row

-- ---- names

abbrev known : Context
known = noting (codes "x") (Some (BoolV true)) k

-- under `const x = true`: if x {}, and in a loop over y
known_row : StmtTo known true false true (If x no_stmts no_stmts) (If (BoolConstant true) no_stmts no_stmts)
known_row = in_if (by_expr_rule (known_name (BoolV true) refl)) same_stmts same_stmts

loop_row : StmtTo known true false true (For (codes "y") None x (stmts (ExprStmt x ∷ []))) (For (codes "y") None (BoolConstant true) (stmts (ExprStmt (BoolConstant true) ∷ [])))
loop_row = in_for (by_expr_rule (known_name (BoolV true) refl)) (in_head (in_expression (by_expr_rule (known_name (BoolV true) refl))))

-- ---- scripts

abbrev scope : ScopeEntry
scope = record { name = codes "x"; kind = IsConstant; value = BoolV true }

-- fn g(y) { x }, where no call captures, and fn g(x) { x }
abbrev function : Text → Expr → Function
function p e = record { name = codes "g"; this_type = None; params = p ∷ []; body = stmts (ExprStmt e ∷ []) }

abbrev script : Expr → Text → Expr → Script
script e p e' = record { statements = stmts (ExprStmt e ∷ []); functions = function p e' ∷ [] }

body_row : OptimisedTo nothing_set (scope ∷ []) (script x (codes "y") x) (script (BoolConstant true) (codes "y") (BoolConstant true))
body_row = record {
  statements = in_head (in_expression (by_expr_rule (known_name (BoolV true) refl)));
  functions = functions (record { name = refl; this_type = refl; params = refl; body = in_head (in_expression (by_expr_rule (known_name (BoolV true) refl))) }) no_functions;
}

parameter_row : OptimisedTo nothing_set (scope ∷ []) (script x (codes "x") x) (script (BoolConstant true) (codes "x") x)
parameter_row = record {
  statements = in_head (in_expression (by_expr_rule (known_name (BoolV true) refl)));
  functions = functions (record { name = refl; this_type = refl; params = refl; body = same_stmts }) no_functions;
}

-- what its bodies may know: what is known of the scope, as none of its calls captures
body_knows : MayKnow (script x (codes "y") x) (known_inside nothing_set (scope ∷ []) (script x (codes "y") x))
body_knows = none_capture refl

-- x; g!(1): a call that captures, so that nothing from outside is known in bodies
nothing_inside : known_inside nothing_set (scope ∷ []) (record { statements = stmts (FnCallStmt (record f { captures = true }) (exprs (int 1 ∷ [])) ∷ []); functions = function (codes "y") x ∷ [] }) ≡ []
nothing_inside = refl

-- in a body the record's constant goes before the scope's, at top level after it
abbrev knowing : Engine
knowing = record nothing_set { constants = record { name = codes "x"; value = BoolV false } ∷ [] }

record_first_row : OptimisedTo knowing (scope ∷ []) (script x (codes "y") x) (script (BoolConstant true) (codes "y") (BoolConstant false))
record_first_row = record {
  statements = in_head (in_expression (by_expr_rule (known_name (BoolV true) refl)));
  functions = functions (record { name = refl; this_type = refl; params = refl; body = in_head (in_expression (by_expr_rule (known_name (BoolV false) refl))) }) no_functions;
}
