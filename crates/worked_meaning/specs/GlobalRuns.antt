-- Worked runs of the constants of the script's own list, which functions see as `global::x`.
use Rattle.std.specs.Prelude.{◌≡◌, true, List, [], ◌∷◌, Some, None, codes, refl}
use Prim.Native.String.{String}
use Rattle.rhai_base.specs.Value.{UnitV, ArrayV, values}
use Rattle.theory_meaning.specs.Act.{Unbound, WriteToConstant, NoPlace}
use Rattle.theory_meaning.specs.Calls.{key}
use Rattle.theory_meaning.specs.Run.{AtFunction, AtStatements, WithStuck}
use Rattle.theory_meaning.specs.Tree.{Expr, Function, Variable, Stmt, Var, ExprStmt, Assignment, Block, stmts}
use Rattle.worked_meaning.specs.Terms.{i, run, World, int, fn, let', const', array, at, dot, meth, asked, const_is, world_with}
use Rattle.worked_meaning.specs.Runs.{ran_in, report, gives}

-- ---- short forms

abbrev global : String → Expr
global x = Variable (codes "global" ∷ []) (codes x)

-- fn f() { .. }
abbrev does : String → List Stmt → Function
does f ss = record { name = codes f; this_type = None; params = []; body = stmts ss }

-- fn f() { global::x }
abbrev reads_x : World
reads_x = world_with (does "f" (ExprStmt (global "x") ∷ []) ∷ [])

abbrev calls_f : Stmt
calls_f = ExprStmt (fn "f" [])

-- ---- what is seen

-- const x = 1; f()
read_in_a_function : ran_in reads_x (const' "x" (int 1) ∷ calls_f ∷ []) 1 ≡ report (gives (i 1)) (const_is "x" (i 1) ∷ []) [] 0
unfolding ran_in
read_in_a_function = refl

-- export const x = 1; f()
read_of_an_export : (ran_in reads_x (Var true true (codes "x") (int 1) ∷ calls_f ∷ []) 1).ended ≡ gives (i 1)
unfolding ran_in
read_of_an_export = refl

-- f(); const x = 1
before_its_declaration : ran_in reads_x (calls_f ∷ const' "x" (int 1) ∷ []) 1 ≡ report (WithStuck Unbound) [] [] 0
unfolding ran_in
before_its_declaration = refl

-- let x = 1; f()
variable_is_not_seen : (ran_in reads_x (let' "x" (int 1) ∷ calls_f ∷ []) 1).ended ≡ WithStuck Unbound
unfolding ran_in
variable_is_not_seen = refl

-- { const x = 1; f() }
of_a_block_is_not_seen : (ran_in reads_x (Block (stmts (const' "x" (int 1) ∷ calls_f ∷ [])) ∷ []) 1).ended ≡ WithStuck Unbound
unfolding ran_in
of_a_block_is_not_seen = refl

-- const x = 1; { const x = 2; f() }
own_under_that_of_a_block : (ran_in reads_x (const' "x" (int 1) ∷ Block (stmts (const' "x" (int 2) ∷ calls_f ∷ [])) ∷ []) 1).ended ≡ gives (i 1)
unfolding ran_in
own_under_that_of_a_block = refl

-- { let y = 2; } const x = 1; f(): after a block the list is the script's own again
after_a_block : (ran_in reads_x (Block (stmts (let' "y" (int 2) ∷ [])) ∷ const' "x" (int 1) ∷ calls_f ∷ []) 1).ended ≡ gives (i 1)
unfolding ran_in
after_a_block = refl

-- const x = 1; const x = 2; f()
second_wins : (ran_in reads_x (const' "x" (int 1) ∷ const' "x" (int 2) ∷ calls_f ∷ []) 1).ended ≡ gives (i 2)
unfolding ran_in
second_wins = refl

-- const x = 1; let x = 2; global::x: in the list itself, past a variable of the name
read_in_the_list : (ran_in reads_x (const' "x" (int 1) ∷ let' "x" (int 2) ∷ ExprStmt (global "x") ∷ []) 0).ended ≡ gives (i 1)
unfolding ran_in
read_in_the_list = refl

-- the scope that a run starts from declares nothing
of_the_scope_is_not_seen : (run reads_x (stmts (calls_f ∷ [])) AtStatements (const_is "x" (i 1) ∷ []) 1).ended ≡ WithStuck Unbound
unfolding ran_in
of_the_scope_is_not_seen = refl

-- fn g() { f() } fn f() { global::x } const x = 1; g()
at_any_depth : ran_in (world_with (does "g" (calls_f ∷ []) ∷ does "f" (ExprStmt (global "x") ∷ []) ∷ [])) (const' "x" (int 1) ∷ ExprStmt (fn "g" []) ∷ []) 2 ≡ report (gives (i 1)) (const_is "x" (i 1) ∷ []) [] 0
unfolding ran_in
at_any_depth = refl

-- fn g() { const x = 1; f() } g()
of_a_body_is_not_seen : (ran_in (world_with (does "g" (const' "x" (int 1) ∷ calls_f ∷ []) ∷ does "f" (ExprStmt (global "x") ∷ []) ∷ [])) (ExprStmt (fn "g" []) ∷ []) 2).ended ≡ WithStuck Unbound
unfolding ran_in
of_a_body_is_not_seen = refl

-- f as entry
none_of_an_entry : (run reads_x (stmts (const' "x" (int 1) ∷ [])) (AtFunction (key (codes "f") 0 None) None []) [] 1).ended ≡ WithStuck Unbound
unfolding ran_in
none_of_an_entry = refl

-- const x = 1; global::a::x is a name of the host's modules
longer_path : (ran_in reads_x (const' "x" (int 1) ∷ ExprStmt (Variable (codes "global" ∷ codes "a" ∷ []) (codes "x")) ∷ []) 0).ended ≡ WithStuck Unbound
unfolding ran_in
longer_path = refl

-- ---- as the base of a chain

-- fn f() { .. } const x = [7]; f()
abbrev with_list : List Stmt → World
with_list ss = world_with (does "f" ss ∷ [])

abbrev list_then_f : List Stmt
list_then_f = const' "x" (array (int 7 ∷ [])) ∷ calls_f ∷ []

-- global::x[0]
element : (ran_in (with_list (ExprStmt (at (global "x") (int 0)) ∷ [])) list_then_f 1).ended ≡ gives (i 7)
unfolding ran_in
element = refl

-- global::x.push(1): the host's new receiver is another value
method_that_changes : (ran_in (with_list (ExprStmt (dot (global "x") (meth "push" (int 1 ∷ []))) ∷ [])) list_then_f 1).ended ≡ WithStuck WriteToConstant
unfolding ran_in
method_that_changes = refl

-- global::x.len(): the host changes nothing
method_that_changes_nothing : ran_in (with_list (ExprStmt (dot (global "x") (meth "len" [])) ∷ [])) list_then_f 1
    ≡ report (gives UnitV) (const_is "x" (ArrayV (values (i 7 ∷ []))) ∷ []) (record (asked "len" []) { receiver = Some (ArrayV (values (i 7 ∷ []))) } ∷ []) 0
unfolding ran_in
method_that_changes_nothing = refl

-- global::x.len() where there is no x
base_unbound : ran_in (with_list (ExprStmt (dot (global "x") (meth "len" [])) ∷ [])) (calls_f ∷ []) 1 ≡ report (WithStuck Unbound) [] [] 0
unfolding ran_in
base_unbound = refl

-- ---- as a left side

-- global::x = 1
not_assigned_to : (ran_in (with_list (Assignment None (global "x") (int 1) ∷ [])) list_then_f 1).ended ≡ WithStuck NoPlace
unfolding ran_in
not_assigned_to = refl

-- global::x[0] = 1
part_not_assigned_to : (ran_in (with_list (Assignment None (at (global "x") (int 0)) (int 1) ∷ [])) list_then_f 1).ended ≡ WithStuck WriteToConstant
unfolding ran_in
part_not_assigned_to = refl
