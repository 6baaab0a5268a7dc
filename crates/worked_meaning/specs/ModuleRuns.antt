-- Worked runs of imports, aliases and exports.
use Rattle.std.specs.Prelude.{◌≡◌, true, false, List, [], ◌∷◌, Some, None, codes, refl}
use Prim.Native.String.{String}
use Rattle.rhai_base.specs.Value.{Text, Value, UnitV, TextV}
use Rattle.rhai_base.specs.Operators.{Plus}
use Rattle.theory_meaning.specs.Act.{HostCall, ScopeEntry, IsAlias, IsExport, Unbound, WrongKind, WriteToConstant, UnknownModule, resolved, put, found}
use Rattle.theory_meaning.specs.Calls.{key}
use Rattle.theory_meaning.specs.Host.{host_of}
use Rattle.theory_meaning.specs.Run.{AtFunction, End, Report, WithThrown, WithStuck}
use Rattle.theory_meaning.specs.Tree.{FnCall, Function, Expr, Stmt, StringConstant, BoolConstant, UnitConstant, Variable, BlockExpr, Var, Assignment, ExprStmt, FnCallStmt, Block, If, Return, TryCatch, Import, Export, an_expr, no_stmts, stmts, exprs}
use Rattle.worked_meaning.specs.Terms.{i, run, World, int, var, op, fn, callee, let', nothing_set, asked, var_is, const_is, program_host}
use Rattle.worked_meaning.specs.Runs.{ran_in, gives}

-- ---- short forms

abbrev import' : Expr → String → Stmt
import' e a = Import e (codes a)

abbrev text : String → Expr
text t = StringConstant (codes t)

abbrev export' : String → Stmt
export' x = Export (codes x) []

abbrev export_let : String → Expr → Stmt
export_let x e = Var false true (codes x) e

-- a::x, and a::f(..)
abbrev in_module : String → String → Expr
in_module a x = Variable (codes a ∷ []) (codes x)

abbrev call_in : String → String → List Expr → Expr
call_in a f es = FnCall (record (callee f) { namespace = codes a ∷ [] }) (exprs es)

-- the host of the program: it knows the path m as module m, and another path; m::v is 7, k::v 8, m::b::v 9
abbrev program : World
program = record {
  engine = nothing_set;
  functions = [];
  host = record (host_of [] (record { name = codes "m::v"; value = i 7 } ∷ record { name = codes "k::v"; value = i 8 } ∷ record { name = codes "m::b::v"; value = i 9 } ∷ []) (record { path = codes "m"; name = codes "m" } ∷ record { path = codes "other"; name = codes "k" } ∷ [])) { answer = λ past c. program_host.answer past c };
}

abbrev with_functions : List Function → World
with_functions fs = record program { functions = fs }

abbrev says : End → List ScopeEntry → List (Text × Value) → List HostCall → Report
says e vs xs cs = record { ended = e; variables = vs; exports = xs; this = None; calls = cs; turns = 0 }

abbrev stuck_unbound : End
stuck_unbound = WithStuck Unbound

-- ---- the script `import`: import "m" as a; export let x = a::v; x + 1

import_script : ran_in program (import' (text "m") "a" ∷ export_let "x" (in_module "a" "v") ∷ ExprStmt (op Plus (var "x" ∷ int 1 ∷ [])) ∷ []) 0
    ≡ says (gives (i 8)) (var_is "x" (i 7) ∷ []) ((codes "x", i 7) ∷ []) []
unfolding ran_in
import_script = refl

-- ---- imports

-- { import "m" as a; a::v; } a::v
alias_of_a_block : ran_in program (Block (stmts (import' (text "m") "a" ∷ ExprStmt (in_module "a" "v") ∷ [])) ∷ ExprStmt (in_module "a" "v") ∷ []) 0 ≡ says stuck_unbound [] [] []
unfolding ran_in
alias_of_a_block = refl

-- import "q" as a
unknown_path : ran_in program (import' (text "q") "a" ∷ []) 0 ≡ says (WithStuck UnknownModule) [] [] []
unfolding ran_in
unknown_path = refl

-- import 5 as a
path_no_text : ran_in program (import' (int 5) "a" ∷ []) 0 ≡ says (WithStuck WrongKind) [] [] []
unfolding ran_in
path_no_text = refl

-- import f() as a: the path is evaluated first
path_first : ran_in program (import' (fn "f" []) "a" ∷ []) 0 ≡ says (WithStuck WrongKind) [] [] (asked "f" [] ∷ [])
unfolding ran_in
path_first = refl

-- import "m" as a
import_is_unit : ran_in program (import' (text "m") "a" ∷ []) 0 ≡ says (gives UnitV) [] [] []
unfolding ran_in
import_is_unit = refl

-- import "other"; other::v; and the module's own name needs no import
import_without_alias : ran_in program (Import (text "other") [] ∷ ExprStmt (in_module "other" "v") ∷ []) 0 ≡ says stuck_unbound [] [] []
unfolding ran_in
import_without_alias = refl

empty_name_is_no_alias : ran_in program (Import (text "m") [] ∷ ExprStmt (Variable ([] ∷ []) (codes "v")) ∷ []) 0 ≡ says stuck_unbound [] [] []
unfolding ran_in
empty_name_is_no_alias = refl

unknown_without_alias : ran_in program (Import (text "q") [] ∷ []) 0 ≡ says (WithStuck UnknownModule) [] [] []
unfolding ran_in
unknown_without_alias = refl

without_alias_is_unit : ran_in program (Import (text "m") [] ∷ []) 0 ≡ says (gives UnitV) [] [] []
unfolding ran_in
without_alias_is_unit = refl

own_name : ran_in program (ExprStmt (in_module "k" "v") ∷ []) 0 ≡ says (gives (i 8)) [] [] []
unfolding ran_in
own_name = refl

-- import "m" as a; import "other" as a; a::v
latest_alias : ran_in program (import' (text "m") "a" ∷ import' (text "other") "a" ∷ ExprStmt (in_module "a" "v") ∷ []) 0 ≡ says (gives (i 8)) [] [] []
unfolding ran_in
latest_alias = refl

-- import "m" as a; a::b::v: the first name alone is an alias
first_name : ran_in program (import' (text "m") "a" ∷ import' (text "other") "b" ∷ ExprStmt (Variable (codes "a" ∷ codes "b" ∷ []) (codes "v")) ∷ []) 0 ≡ says (gives (i 9)) [] [] []
unfolding ran_in
first_name = refl

-- import "m" as a; a::g(1): the call has the module's name; b::g(1) keeps its own
call_by_alias : ran_in program (import' (text "m") "a" ∷ ExprStmt (call_in "a" "g" (int 1 ∷ [])) ∷ FnCallStmt (record (callee "g") { namespace = codes "b" ∷ [] }) (exprs (int 2 ∷ [])) ∷ []) 0
    ≡ says (gives UnitV) [] [] (asked "m::g" (i 1 ∷ []) ∷ asked "b::g" (i 2 ∷ []) ∷ [])
unfolding ran_in
call_by_alias = refl

-- an alias is no name: import "m" as a; a, and let a = 1; import "m" as a; a = 2; a::v + a
alias_is_no_name : ran_in program (import' (text "m") "a" ∷ ExprStmt (var "a") ∷ []) 0 ≡ says stuck_unbound [] [] []
unfolding ran_in
alias_is_no_name = refl

alias_hides_no_name : ran_in program (let' "a" (int 1) ∷ import' (text "m") "a" ∷ Assignment None (var "a") (int 2) ∷ ExprStmt (op Plus (in_module "a" "v" ∷ var "a" ∷ [])) ∷ []) 0 ≡ says (gives (i 9)) (var_is "a" (i 2) ∷ []) [] []
unfolding ran_in
alias_hides_no_name = refl

-- import "m" as a; let a = 1; a::v: and a name hides no alias
name_hides_no_alias : ran_in program (import' (text "m") "a" ∷ let' "a" (int 1) ∷ ExprStmt (in_module "a" "v") ∷ []) 0 ≡ says (gives (i 7)) (var_is "a" (i 1) ∷ []) [] []
unfolding ran_in
name_hides_no_alias = refl

-- import "m" as a; { import "other" as a; } a::v
outer_alias_again : ran_in program (import' (text "m") "a" ∷ Block (stmts (import' (text "other") "a" ∷ [])) ∷ ExprStmt (in_module "a" "v") ∷ []) 0 ≡ says (gives (i 7)) [] [] []
unfolding ran_in
outer_alias_again = refl

-- ---- aliases and calls: fn g() { a::v }

abbrev reads_alias : Function
reads_alias = record { name = codes "g"; this_type = None; params = []; body = stmts (ExprStmt (in_module "a" "v") ∷ []) }

call_without_aliases : ran_in (with_functions (reads_alias ∷ [])) (import' (text "m") "a" ∷ ExprStmt (fn "g" []) ∷ []) 1 ≡ says stuck_unbound [] [] []
unfolding ran_in
call_without_aliases = refl

call_with_a_copy : ran_in (with_functions (reads_alias ∷ [])) (import' (text "m") "a" ∷ ExprStmt (FnCall (record (callee "g") { captures = true }) (exprs [])) ∷ []) 1 ≡ says (gives (i 7)) [] [] []
unfolding ran_in
call_with_a_copy = refl

-- fn g() { import "m" as a; export x; }: what a call adds stays with it
abbrev imports : Function
imports = record { name = codes "g"; this_type = None; params = codes "x" ∷ []; body = stmts (import' (text "m") "a" ∷ export' "x" ∷ []) }

call_keeps_its_aliases : ran_in (with_functions (imports ∷ [])) (ExprStmt (fn "g" (int 1 ∷ [])) ∷ ExprStmt (in_module "a" "v") ∷ []) 1 ≡ says stuck_unbound [] [] []
unfolding ran_in
call_keeps_its_aliases = refl

body_exports_nothing : ran_in (with_functions (imports ∷ [])) (ExprStmt (fn "g" (int 1 ∷ [])) ∷ []) 1 ≡ says (gives UnitV) [] [] []
unfolding ran_in
body_exports_nothing = refl

entry_exports_nothing : run (with_functions (imports ∷ [])) no_stmts (AtFunction (key (codes "g") 1 None) None (i 1 ∷ [])) [] 1 ≡ says (gives UnitV) [] [] []
unfolding ran_in
entry_exports_nothing = refl

-- ---- exports

-- let x = 1; { export x; } x, and without the last name
block_exports_nothing : ran_in program (let' "x" (int 1) ∷ Block (stmts (export' "x" ∷ [])) ∷ ExprStmt (var "x") ∷ []) 0 ≡ says (gives (i 1)) (var_is "x" (i 1) ∷ []) [] []
unfolding ran_in
block_exports_nothing = refl

block_of_an_export : ran_in program (let' "x" (int 1) ∷ Block (stmts (export' "x" ∷ [])) ∷ []) 0 ≡ says (gives UnitV) (var_is "x" (i 1) ∷ []) [] []
unfolding ran_in
block_of_an_export = refl

-- let x = 1; export x as y; x = 2; x
export_of_the_value : ran_in program (let' "x" (int 1) ∷ Export (codes "x") (codes "y") ∷ Assignment None (var "x") (int 2) ∷ ExprStmt (var "x") ∷ []) 0 ≡ says (gives (i 2)) (var_is "x" (i 2) ∷ []) ((codes "y", i 1) ∷ []) []
unfolding ran_in
export_of_the_value = refl

-- export x
export_unbound : ran_in program (export' "x" ∷ []) 0 ≡ says stuck_unbound [] [] []
unfolding ran_in
export_unbound = refl

block_export_unbound : ran_in program (Block (stmts (export' "x" ∷ [])) ∷ []) 0 ≡ says stuck_unbound [] [] []
unfolding ran_in
block_export_unbound = refl

-- a constant of the record
export_of_the_record : ran_in (record program { engine = record nothing_set { constants = record { name = codes "k"; value = i 5 } ∷ [] } }) (export' "k" ∷ []) 0 ≡ says (gives UnitV) [] ((codes "k", i 5) ∷ []) []
unfolding ran_in
export_of_the_record = refl

-- let x = 1; export x: it is unit; in order, and each time
exports_in_order : ran_in program (let' "x" (int 1) ∷ export' "x" ∷ Assignment None (var "x") (int 2) ∷ Export (codes "x") (codes "y") ∷ export' "x" ∷ []) 0 ≡ says (gives UnitV) (var_is "x" (i 2) ∷ []) ((codes "x", i 1) ∷ (codes "y", i 2) ∷ (codes "x", i 2) ∷ []) []
unfolding ran_in
exports_in_order = refl

-- let x = 1; export x as y; y: an export is no name
export_is_no_name : ran_in program (let' "x" (int 1) ∷ Export (codes "x") (codes "y") ∷ ExprStmt (var "y") ∷ []) 0 ≡ says stuck_unbound (var_is "x" (i 1) ∷ []) ((codes "y", i 1) ∷ []) []
unfolding ran_in
export_is_no_name = refl

-- import "m" as a; export a: nor does an export read an alias
alias_is_not_exported : ran_in program (import' (text "m") "a" ∷ export' "a" ∷ []) 0 ≡ says stuck_unbound [] [] []
unfolding ran_in
alias_is_not_exported = refl

-- let x = 1; export x; x = 2; throw 3: exports stay where a run ends otherwise
export_before_a_throw : ran_in program (let' "x" (int 1) ∷ export' "x" ∷ Return true false (an_expr (int 3)) ∷ []) 0 ≡ says (WithThrown (i 3)) (var_is "x" (i 1) ∷ []) ((codes "x", i 1) ∷ []) []
unfolding ran_in
export_before_a_throw = refl

export_before_a_stop : ran_in program (export_let "x" (int 1) ∷ Block (stmts (export_let "y" (int 2) ∷ ExprStmt (var "z") ∷ [])) ∷ []) 0 ≡ says stuck_unbound (var_is "x" (i 1) ∷ []) ((codes "x", i 1) ∷ []) []
unfolding ran_in
export_before_a_stop = refl

-- ---- declarations with EXPORTED

-- export const x = 1
exported_constant : ran_in program (Var true true (codes "x") (int 1) ∷ []) 0 ≡ says (gives UnitV) (const_is "x" (i 1) ∷ []) ((codes "x", i 1) ∷ []) []
unfolding ran_in
exported_constant = refl

-- export const x = 1; x = 2
exported_is_constant : ran_in program (Var true true (codes "x") (int 1) ∷ Assignment None (var "x") (int 2) ∷ []) 0 ≡ says (WithStuck WriteToConstant) (const_is "x" (i 1) ∷ []) ((codes "x", i 1) ∷ []) []
unfolding ran_in
exported_is_constant = refl

-- it does what the declaration and an export of its name do
declared_and_exported : ran_in program (export_let "x" (int 1) ∷ Assignment None (var "x") (int 2) ∷ ExprStmt (var "x") ∷ []) 0 ≡ ran_in program (let' "x" (int 1) ∷ export' "x" ∷ Assignment None (var "x") (int 2) ∷ ExprStmt (var "x") ∷ []) 0
unfolding ran_in
declared_and_exported = refl

-- { export let x = 1; x }, if true { export let x = 1; x }, try { export let x = 1; }
inner_declarations : ran_in program (ExprStmt (BlockExpr (stmts (export_let "x" (int 1) ∷ ExprStmt (var "x") ∷ []))) ∷ []) 0
    ∷ ran_in program (If (BoolConstant true) (stmts (export_let "x" (int 1) ∷ ExprStmt (var "x") ∷ [])) no_stmts ∷ []) 0
    ∷ ran_in program (TryCatch UnitConstant (stmts (export_let "x" (int 1) ∷ [])) no_stmts ∷ []) 0 ∷ []
    ≡ says (gives (i 1)) [] [] [] ∷ says (gives (i 1)) [] [] [] ∷ says (gives UnitV) [] [] [] ∷ []
unfolding ran_in
inner_declarations = refl

-- ---- the scope

-- an alias and an export under one name with a variable
abbrev mixed : List ScopeEntry
mixed = record { name = codes "x"; kind = IsExport; value = i 1 } ∷ record { name = codes "x"; kind = IsAlias; value = TextV (codes "m") } ∷ var_is "x" (i 2) ∷ []

found_past_others : found [] mixed (codes "x") ≡ Some (var_is "x" (i 2))
found_past_others = refl

put_past_others : put mixed (codes "x") (i 3) ≡ record { name = codes "x"; kind = IsExport; value = i 1 } ∷ record { name = codes "x"; kind = IsAlias; value = TextV (codes "m") } ∷ var_is "x" (i 3) ∷ []
put_past_others = refl

resolved_past_others : resolved mixed (codes "x") ∷ resolved mixed (codes "y") ∷ [] ≡ codes "m" ∷ codes "y" ∷ []
resolved_past_others = refl
