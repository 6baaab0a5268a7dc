-- Worked answers on what rules ask: which names are known behind a statement, what surely is unit, what exports nothing, what
-- writes nothing, which operators have an assignment.
use Rattle.std.specs.Prelude.{◌≡◌, true, false, [], ◌∷◌, Some, None, codes, refl}
use Rattle.rhai_base.specs.Operators.{Plus, BitXor, EqualTo, UpTo, Not}
use Rattle.theory_meaning.specs.Engine.{overrides_any}
use Rattle.theory_meaning.specs.Tree.{UnitConstant, BoolConstant, ArrayOf, BlockExpr, Dot, MethodCall, no_expr, an_expr, Stmt, If, While, Do, For, Var, Assignment, Block, TryCatch, ExprStmt, BreakLoop, Import, Export, exprs, stmts, Stmts, no_stmts, stmt}
use Rattle.theory_meaning.specs.WorkedForms.{int, op, call, overriding, i, nothing_set}
use Rattle.theory_rewriting.specs.Context.{Whole, Inside, known_behind, open_list, ListContext, closed_list, under, behind}
use Rattle.theory_rewriting.specs.Exports.{exports_nothing}
use Rattle.theory_rewriting.specs.Known.{look, unknown}
use Rattle.theory_rewriting.specs.Parts.{named}
use Rattle.theory_rewriting.specs.Rules.{is_pure_in}
use Rattle.theory_rewriting.specs.SelfAssign.{has_op_assignment, leaves_names}
use Rattle.theory_rewriting.specs.SurelyUnit.{is_surely_unit}
use Rattle.worked_rules.specs.WorkedLists.{var, let', const}
use Rattle.worked_rules.specs.WorkedNodes.{dot}
use Rattle.worked_rules.specs.WorkedRewrites.{f}

-- ---- names behind a statement

constant_is_known : look (known_behind (const "x" (int 1)) []) (codes "x") ≡ Some (i 1)
constant_is_known = refl

call_is_unknown : look (known_behind (const "x" (call "f" [])) (known_behind (const "x" (int 1)) [])) (codes "x") ≡ None
call_is_unknown = refl

variable_is_unknown : look (known_behind (let' "x" (int 2)) (known_behind (const "x" (int 1)) [])) (codes "x") ≡ None
variable_is_unknown = refl

others_stay_known : look (known_behind f (known_behind (let' "y" (int 2)) (known_behind (const "x" (int 1)) []))) (codes "x") ≡ Some (i 1)
others_stay_known = refl

-- in a list behind a call of `eval` no name is, nor one that is declared there: const x = 1; eval(); const x = 2;
abbrev calling : Stmts → ListContext → ListContext
calling no_stmts l = l
calling (stmt s ss) l = calling ss (behind s l)

nothing_stays_known : calling (stmts (const "x" (int 1) ∷ ExprStmt (call "eval" []) ∷ const "x" (int 2) ∷ [])) (open_list (under nothing_set)) ≡ closed_list (under nothing_set)
nothing_stays_known = refl

-- a constant whose own value calls it, and a call in a list inside: const x = eval(); and { eval() }
own_call_hides : behind (const "x" (call "eval" [])) (open_list (under nothing_set)) ≡ closed_list (under nothing_set)
own_call_hides = refl

inner_call_hides_inside : look (calling (stmts (const "x" (int 1) ∷ Block (stmts (ExprStmt (call "eval" []) ∷ [])) ∷ [])) (open_list (under nothing_set))).context.known (codes "x") ≡ Some (i 1)
inner_call_hides_inside = refl

unknown_names : unknown (known_behind (const "x" (int 1)) []) (codes "x" ∷ codes "y" ∷ codes "x" ∷ []) ≡ codes "y" ∷ []
unknown_names = refl

-- ---- what surely is unit

abbrev breaks : Stmt
breaks = BreakLoop true false no_expr

abbrev breaks_with_value : Stmt
breaks_with_value = BreakLoop true false (an_expr (int 5))

declaration_is_unit : is_surely_unit (let' "x" (int 1)) ≡ true
declaration_is_unit = refl

assignment_is_unit : is_surely_unit (Assignment None (var "x") (int 1)) ≡ true
assignment_is_unit = refl

try_is_unit : is_surely_unit (TryCatch UnitConstant (stmts (ExprStmt (int 1) ∷ [])) (stmts [])) ≡ true
try_is_unit = refl

loop_is_unit : is_surely_unit (While UnitConstant (stmts (If (BoolConstant true) (stmts (breaks ∷ [])) (stmts []) ∷ []))) ≡ true
loop_is_unit = refl

broken_loop_isnt : is_surely_unit (Do true false (BoolConstant true) (stmts (breaks_with_value ∷ []))) ≡ false
broken_loop_isnt = refl

-- in an expression, at any depth
deeply_broken_isnt : is_surely_unit (For (codes "x") None (int 1) (stmts (ExprStmt (ArrayOf (exprs (BlockExpr (stmts (breaks_with_value ∷ [])) ∷ []))) ∷ []))) ≡ false
deeply_broken_isnt = refl

-- a `break` in the guard is that of the loop around
guard_may_break : is_surely_unit (While (BlockExpr (stmts (breaks_with_value ∷ []))) (stmts [])) ≡ true
guard_may_break = refl

if_isnt : is_surely_unit (If (BoolConstant true) (stmts []) (stmts [])) ≡ false
if_isnt = refl

call_isnt : is_surely_unit f ≡ false
call_isnt = refl

-- ---- what is pure in a list

declared_inside : is_pure_in (Inside true) (let' "x" (int 1)) ≡ true
declared_inside = refl

declared_outside : is_pure_in Whole (let' "x" (int 1)) ≡ false
declared_outside = refl

-- ---- what exports nothing

abbrev export_x : Stmt
export_x = Export (codes "x") (codes "y")

export_is_one : exports_nothing (stmts (let' "x" (int 1) ∷ export_x ∷ [])) ≡ false
export_is_one = refl

exported_declaration_is_one : exports_nothing (stmts (Var false true (codes "x") (int 1) ∷ [])) ≡ false
exported_declaration_is_one = refl

-- in braces, and in a loop that never goes round
inner_export_is_one : exports_nothing (stmts (ExprStmt (BlockExpr (stmts (export_x ∷ []))) ∷ [])) ≡ false
inner_export_is_one = refl

unreached_export_is_one : exports_nothing (stmts (While (BoolConstant false) (stmts (export_x ∷ [])) ∷ [])) ≡ false
unreached_export_is_one = refl

others_export_nothing : exports_nothing (stmts (let' "x" (int 1) ∷ Import (var "x") (codes "m") ∷ f ∷ [])) ≡ true
others_export_nothing = refl

-- ---- what writes nothing

operators_write_nothing : leaves_names (op Plus (var "y" ∷ BlockExpr (stmts (let' "x" (int 1) ∷ ExprStmt (var "x") ∷ [])) ∷ [])) ≡ true
operators_write_nothing = refl

assignments_write : leaves_names (BlockExpr (stmts (Assignment None (var "x") (int 1) ∷ []))) ≡ false
assignments_write = refl

methods_write : leaves_names (ArrayOf (exprs (Dot dot (var "y") (MethodCall (named (codes "f") false) (exprs [])) ∷ []))) ≡ false
methods_write = refl

calls_may_write : leaves_names (call "f" []) ≡ false
calls_may_write = refl

call_statements_may_write : leaves_names (BlockExpr (stmts (f ∷ []))) ≡ false
call_statements_may_write = refl

-- an override for any types
overridden_somewhere : overrides_any (overriding (codes "+=") (codes "string" ∷ []) false).overrides (codes "+=") ≡ true
overridden_somewhere = refl

another_is_overridden : overrides_any (overriding (codes "-=") (codes "string" ∷ []) false).overrides (codes "+=") ≡ false
another_is_overridden = refl

-- ---- which operators have an assignment

sum_assigns : has_op_assignment Plus ≡ true
sum_assigns = refl

exclusive_or_assigns : has_op_assignment BitXor ≡ true
exclusive_or_assigns = refl

equality_doesnt : has_op_assignment EqualTo ≡ false
equality_doesnt = refl

range_doesnt : has_op_assignment UpTo ≡ false
range_doesnt = refl

negation_doesnt : has_op_assignment Not ≡ false
negation_doesnt = refl
