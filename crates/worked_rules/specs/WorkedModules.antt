-- Imports and exports: small scripts, what they may be rewritten to, and what both do; and for conditions of the rules two
-- scripts that the rule without it would take for one.
use Rattle.std.specs.Prelude.{◌≡◌, true, false, List, [], ◌∷◌, None, codes, refl}
use Rattle.rhai_base.specs.Value.{Text, Value, UnitV}
use Rattle.rhai_base.specs.Operators.{Plus, computed}
use Rattle.theory_meaning.specs.Act.{ScopeEntry, HostCall, Host, Answers, Unbound}
use Rattle.theory_meaning.specs.Host.{host_of}
use Rattle.theory_meaning.specs.Queries.{is_pure, is_internally_pure}
use Rattle.theory_rewriting.specs.Exports.{exports_nothing}
use Rattle.theory_meaning.specs.Run.{End, Report, WithValue, WithStuck}
use Rattle.theory_meaning.specs.Tree.{Callee, OfOperator, Expr, StringConstant, Variable, BlockExpr, Stmt, Noop, Var, FnCallStmt, Block, ExprStmt, Import, Export, TryCatch, UnitConstant, exprs, stmts}
use Rattle.theory_meaning.specs.WorkedForms.{int, op, asked, nothing_set, ran, i}
use Rattle.theory_rewriting.specs.Context.{Whole, under}
use Rattle.theory_rewriting.specs.Rewriting.{StmtsTo, then_stmts, by_expr_rule, by_stmt_rule, by_list_rule, in_expression, in_import, in_block, in_head, in_tail}
use Rattle.theory_rewriting.specs.Rules.{braces_of_expression, known_name, statement_of_call, block_empty, pure_try, pure_goes, lone_goes, pure_inside_goes, last_unit_noop}
use Rattle.worked_rules.specs.WorkedLists.{var, let', variable, constant}
use Rattle.worked_rules.specs.WorkedRewrites.{f, asks_f}

-- the path m is that of module m, whose value v is 7
abbrev knows_m : Host
knows_m = record (host_of [] (record { name = codes "m::v"; value = i 7 } ∷ []) (record { path = codes "m"; name = codes "m" } ∷ [])) { answer = λ past c. Answers UnitV None }

abbrev run_of : List Stmt → Report
unfolding ran
run_of ss = ran nothing_set knows_m ss

abbrev says : End → List ScopeEntry → List (Text × Value) → List HostCall → Report
says e vs xs cs = record { ended = e; variables = vs; exports = xs; this = None; calls = cs; turns = 0 }

abbrev unbound : End
unbound = WithStuck Unbound

abbrev x_is_one : List ScopeEntry
x_is_one = variable "x" (i 1) ∷ []

abbrev x_exported : List (Text × Value)
x_exported = (codes "x", i 1) ∷ []

abbrev import_m : Stmt
import_m = Import (StringConstant (codes "m")) (codes "a")

abbrev export_x : Stmt
export_x = Export (codes "x") []

abbrev export_let : Stmt
export_let = Var false true (codes "x") (int 1)

-- a::v
abbrev value_of_m : Expr
value_of_m = Variable (codes "a" ∷ []) (codes "v")

abbrev show : Expr → Stmt
show e = ExprStmt e

-- the one is rewritten to the other, and this is what each does
abbrev Rewritten : List Stmt → List Stmt → Report → Type 0
Rewritten before after r = StmtsTo (under nothing_set) Whole false true (stmts before) (stmts after) × (run_of before ≡ r) × (run_of after ≡ r)

-- two scripts, and what each does
abbrev TheyDiffer : List Stmt → Report → List Stmt → Report → Type 0
TheyDiffer before r after r' = (run_of before ≡ r) × (run_of after ≡ r')

-- ---- rewritten

-- import "m" as a; export let x = a::v; x + 1
abbrev sum : Callee
sum = record { namespace = []; name = codes "+"; captures = false; token = OfOperator Plus }

import_script : Rewritten (import_m ∷ Var false true (codes "x") value_of_m ∷ show (op Plus (var "x" ∷ int 1 ∷ [])) ∷ []) (import_m ∷ Var false true (codes "x") value_of_m ∷ FnCallStmt sum (exprs (var "x" ∷ int 1 ∷ [])) ∷ []) (says (WithValue (i 8)) (variable "x" (i 7) ∷ []) ((codes "x", i 7) ∷ []) [])
unfolding ran computed
import_script = (in_tail (in_tail (in_head (by_stmt_rule statement_of_call))), refl, refl)

-- import { "m" } as a; a::v
path_is_rewritten : Rewritten (Import (BlockExpr (stmts (show (StringConstant (codes "m")) ∷ []))) (codes "a") ∷ show value_of_m ∷ []) (import_m ∷ show value_of_m ∷ []) (says (WithValue (i 7)) [] [] [])
unfolding ran
path_is_rewritten = (in_head (in_import (by_expr_rule braces_of_expression)), refl, refl)

-- { import "m" as a; a::v; } a::v: of the block nothing is left
import_of_a_block_goes : Rewritten (Block (stmts (import_m ∷ show value_of_m ∷ [])) ∷ show value_of_m ∷ []) (show value_of_m ∷ []) (says unbound [] [] [])
unfolding ran
import_of_a_block_goes = (then_stmts (in_head (in_block (in_tail (by_list_rule (lone_goes refl))))) (then_stmts (in_head (in_block (by_list_rule (pure_inside_goes refl refl refl refl)))) (then_stmts (in_head (by_stmt_rule block_empty)) (by_list_rule (pure_goes refl refl)))), refl, refl)

-- let x = 1; { export x; } x
export_of_a_block_goes : Rewritten (let' "x" (int 1) ∷ Block (stmts (export_x ∷ [])) ∷ show (var "x") ∷ []) (let' "x" (int 1) ∷ show (var "x") ∷ []) (says (WithValue (i 1)) x_is_one [] [])
unfolding ran
export_of_a_block_goes = (in_tail (then_stmts (in_head (in_block (by_list_rule (pure_inside_goes refl refl refl refl)))) (then_stmts (in_head (by_stmt_rule block_empty)) (by_list_rule (pure_goes refl refl)))), refl, refl)

-- { f(); let x = 1; export x; 5 }: the export goes, and then the declaration
export_before_another_goes : Rewritten (Block (stmts (f ∷ let' "x" (int 1) ∷ export_x ∷ show (int 5) ∷ [])) ∷ []) (Block (stmts (f ∷ show (int 5) ∷ [])) ∷ []) (says (WithValue (i 5)) [] [] asks_f)
unfolding ran
export_before_another_goes = (in_head (in_block (in_tail (then_stmts (in_tail (by_list_rule (pure_inside_goes refl refl refl refl))) (by_list_rule (pure_inside_goes refl refl refl refl))))), refl, refl)

-- try { import "m" as a; export let x = 1; export x; } catch { f() }
try_of_exports : Rewritten (TryCatch UnitConstant (stmts (import_m ∷ export_let ∷ export_x ∷ [])) (stmts (f ∷ [])) ∷ []) (Noop ∷ []) (says (WithValue UnitV) [] [] [])
unfolding ran
try_of_exports = (in_head (by_stmt_rule (pure_try refl)), refl, refl)

-- f(); { f(); export let x = 1; }: a last declaration inside
last_declaration : Rewritten (f ∷ Block (stmts (f ∷ export_let ∷ [])) ∷ []) (f ∷ Block (stmts (f ∷ Noop ∷ [])) ∷ []) (says (WithValue UnitV) [] [] (asked "f" [] ∷ asks_f))
unfolding ran
last_declaration = (in_tail (in_head (in_block (in_tail (by_list_rule (last_unit_noop refl refl refl))))), refl, refl)

-- ---- conditions

-- { let x = 1; export x; }: the declaration stays before an export that gives the value, or holds it
declaration_before_an_export : TheyDiffer (Block (stmts (let' "x" (int 1) ∷ export_x ∷ [])) ∷ []) (says (WithValue UnitV) [] [] []) (Block (stmts (export_x ∷ [])) ∷ []) (says unbound [] [] [])
unfolding ran
declaration_before_an_export = (refl, refl)

declaration_before_one_inside : TheyDiffer (Block (stmts (let' "x" (int 1) ∷ show (BlockExpr (stmts (export_x ∷ []))) ∷ [])) ∷ []) (says (WithValue UnitV) [] [] []) (Block (stmts (show (BlockExpr (stmts (export_x ∷ []))) ∷ [])) ∷ []) (says unbound [] [] [])
unfolding ran
declaration_before_one_inside = (refl, refl)

-- these are what the condition sees
exports_seen : exports_nothing (stmts (export_x ∷ [])) ∷ exports_nothing (stmts (show (BlockExpr (stmts (export_x ∷ []))) ∷ [])) ∷ exports_nothing (stmts (export_let ∷ [])) ∷ exports_nothing (stmts (import_m ∷ show (int 5) ∷ [])) ∷ [] ≡ false ∷ false ∷ false ∷ true ∷ []
exports_seen = refl

-- let x = 1; export x; x: an export of the script's own list stays, and so does a declaration with EXPORTED
export_stays : TheyDiffer (let' "x" (int 1) ∷ export_x ∷ show (var "x") ∷ []) (says (WithValue (i 1)) x_is_one x_exported []) (let' "x" (int 1) ∷ show (var "x") ∷ []) (says (WithValue (i 1)) x_is_one [] [])
unfolding ran
export_stays = (refl, refl)

last_export_stays : TheyDiffer (let' "x" (int 1) ∷ export_x ∷ []) (says (WithValue UnitV) x_is_one x_exported []) (let' "x" (int 1) ∷ []) (says (WithValue UnitV) x_is_one [] [])
unfolding ran
last_export_stays = (refl, refl)

exported_declaration_stays : TheyDiffer (export_let ∷ []) (says (WithValue UnitV) x_is_one x_exported []) (let' "x" (int 1) ∷ []) (says (WithValue UnitV) x_is_one [] [])
unfolding ran
exported_declaration_stays = (refl, refl)

-- they are pure inside a list alone
pure_inside_alone : is_pure export_x ∷ is_pure export_let ∷ is_pure import_m ∷ is_internally_pure export_x ∷ is_internally_pure export_let ∷ is_internally_pure import_m ∷ [] ≡ false ∷ false ∷ false ∷ true ∷ true ∷ true ∷ []
pure_inside_alone = refl

-- let x = 1; { export x; }: a block of a lone export stays a block
block_of_an_export : TheyDiffer (let' "x" (int 1) ∷ Block (stmts (export_x ∷ [])) ∷ []) (says (WithValue UnitV) x_is_one [] []) (let' "x" (int 1) ∷ export_x ∷ []) (says (WithValue UnitV) x_is_one x_exported [])
unfolding ran
block_of_an_export = (refl, refl)

-- { f(); export let x = 1; }: and so does one that holds such statements beside others
block_of_a_declaration : TheyDiffer (Block (stmts (f ∷ export_let ∷ [])) ∷ []) (says (WithValue UnitV) [] [] asks_f) (f ∷ export_let ∷ []) (says (WithValue UnitV) x_is_one x_exported asks_f)
unfolding ran
block_of_a_declaration = (refl, refl)

-- let x = 1; { export x; f() }
block_with_an_export : TheyDiffer (let' "x" (int 1) ∷ Block (stmts (export_x ∷ f ∷ [])) ∷ []) (says (WithValue UnitV) x_is_one [] asks_f) (let' "x" (int 1) ∷ export_x ∷ f ∷ []) (says (WithValue UnitV) x_is_one x_exported asks_f)
unfolding ran
block_with_an_export = (refl, refl)

-- { import "m" as a; } a::v
block_of_an_import : TheyDiffer (Block (stmts (import_m ∷ [])) ∷ show value_of_m ∷ []) (says unbound [] [] []) (import_m ∷ show value_of_m ∷ []) (says (WithValue (i 7)) [] [] [])
unfolding ran
block_of_an_import = (refl, refl)

-- { import "m" as a; a::v }: an import stays before what isn't pure
import_before_its_use : TheyDiffer (Block (stmts (import_m ∷ show value_of_m ∷ [])) ∷ []) (says (WithValue (i 7)) [] [] []) (Block (stmts (show value_of_m ∷ [])) ∷ []) (says unbound [] [] [])
unfolding ran
import_before_its_use = (refl, refl)

-- const x = 1; import "m" as x; x: an alias hides no constant that is known
known_past_an_alias : Rewritten (Var true false (codes "x") (int 1) ∷ Import (StringConstant (codes "m")) (codes "x") ∷ show (var "x") ∷ []) (Var true false (codes "x") (int 1) ∷ Import (StringConstant (codes "m")) (codes "x") ∷ show (int 1) ∷ []) (says (WithValue (i 1)) (constant "x" (i 1) ∷ []) [] [])
unfolding ran
known_past_an_alias = (in_tail (in_tail (in_head (in_expression (by_expr_rule (known_name (i 1) refl))))), refl, refl)

-- export const x = 1; x
known_when_exported : Rewritten (Var true true (codes "x") (int 1) ∷ show (var "x") ∷ []) (Var true true (codes "x") (int 1) ∷ show (int 1) ∷ []) (says (WithValue (i 1)) (constant "x" (i 1) ∷ []) x_exported [])
unfolding ran
known_when_exported = (in_tail (in_head (in_expression (by_expr_rule (known_name (i 1) refl)))), refl, refl)
