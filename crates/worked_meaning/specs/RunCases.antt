-- Runs for single cases of the definitions: places, receivers, left sides, loops and kinds.
use Rattle.std.specs.Prelude.{◌≡◌, ℕ, Bool, true, false, List, [], ◌∷◌, Option, Some, None, codes, refl}
use Rattle.rhai_base.specs.Value.{UnitV, BoolV, CharV, TextV, ArrayV, values, type_name}
use Rattle.rhai_base.specs.Operators.{Plus, Minus, UpTo, Through}
use Rattle.theory_meaning.specs.Calls.{key}
use Rattle.theory_meaning.specs.Act.{Unbound, WrongKind, WriteToConstant, NoPlace, CounterTooLarge, Answers, Acts, Only, Fail}
use Rattle.theory_meaning.specs.Control.{counted}
use Rattle.theory_meaning.specs.Run.{AtStatements, AtFunction, WithThrown, WithStuck, Report}
use Rattle.theory_meaning.specs.Tree.{Expr, BoolConstant, StringConstant, UnitConstant, MapOf, ThisPtr, BlockExpr, Dot, Index, And, Function, Stmt, Switch, While, Do, For, Assignment, TryCatch, ExprStmt, BreakLoop, Return, no_expr, an_expr, arms, pairs, no_stmts, no_exprs, stmts}
use Rattle.worked_meaning.specs.Terms.{i, run, World, int, var, op, fn, let', const', array, at, dot, prop, meth, program_host, nothing_set, world_with, asked, var_is, const_is}
use Rattle.worked_meaning.specs.Runs.{ran_in, ran, report, gives}

-- an entry of a map literal, and a missing one
abbrev two_entries : Expr
two_entries = MapOf (pairs ((codes "a", int 1) ∷ (codes "b", int 2) ∷ [])) (codes "a" ∷ codes "b" ∷ [])

entry_of_a_literal : (ran (ExprStmt (dot two_entries (prop "b")) ∷ []) 0).ended ∷ (ran (ExprStmt (dot two_entries (prop "c")) ∷ []) 0).ended ∷ [] ≡ gives (i 2) ∷ gives UnitV ∷ []
unfolding ran
entry_of_a_literal = refl

-- `"abc"[0 + 1]`
character_by_a_sum : ran (ExprStmt (at (StringConstant (codes "abc")) (op Plus (int 0 ∷ int 1 ∷ []))) ∷ []) 0 ≡ report (gives (CharV 98)) [] [] 0
unfolding ran
character_by_a_sum = refl

-- a body does not see the caller's scope, also where the name stands there
abbrev reads_c : Function
reads_c = record { name = codes "f"; this_type = None; params = []; body = stmts (ExprStmt (var "c") ∷ []) }

scope_of_the_caller_stays_outside : run (world_with (reads_c ∷ [])) (stmts (ExprStmt (fn "f" []) ∷ [])) AtStatements (const_is "c" (i 2) ∷ []) 1 ≡ report (WithStuck Unbound) (const_is "c" (i 2) ∷ []) [] 0
unfolding ran
scope_of_the_caller_stays_outside = refl

-- a counter past the greatest integer
counter_too_large : (body : Acts) → counted (Some (codes "i")) 9223372036854775808 body ≡ Only (Fail CounterTooLarge)
counter_too_large body = refl

-- `for (x, i) in 3..=4 { print(x, i) } for x in 5..3 { print() }`
for_over_ranges : (ran (For (codes "x") (Some (codes "i")) (op Through (int 3 ∷ int 4 ∷ [])) (stmts (ExprStmt (fn "print" (var "x" ∷ var "i" ∷ [])) ∷ [])) ∷ For (codes "x") None (op UpTo (int 5 ∷ int 3 ∷ [])) (stmts (ExprStmt (fn "print" []) ∷ [])) ∷ []) 9)
    ≡ report (gives UnitV) [] (asked "print" (i 3 ∷ i 0 ∷ []) ∷ asked "print" (i 4 ∷ i 1 ∷ []) ∷ []) 7
unfolding ran
for_over_ranges = refl

-- a host that answers 3, and 4 as the new receiver
abbrev new_receiver : World
new_receiver = record { engine = nothing_set; host = record { answer = λ past c. Answers (i 3) (Some (i 4)); module_value = λ x. None; module_of = λ p. None; text = type_name }; functions = [] }

-- a getter's new receiver, and that of `index$get$`, go
getter_writes_nothing : (ran_in new_receiver (let' "x" (int 1) ∷ ExprStmt (dot (var "x") (prop "p")) ∷ ExprStmt (at (var "x") (StringConstant (codes "q"))) ∷ ExprStmt (var "x") ∷ []) 0).ended ≡ gives (i 1)
unfolding ran
getter_writes_nothing = refl

-- a function for a receiver's type, or for any
abbrev typed : Option (List ℕ) → ℕ → Function
typed t n = record { name = codes "g"; this_type = t; params = []; body = stmts (ExprStmt (int n) ∷ []) }

-- a method is the function for the value's own type before that for any
type_before_none : (ran_in (world_with (typed None 1 ∷ typed (Some (codes "i64")) 2 ∷ [])) (ExprStmt (array (dot (int 0) (meth "g" []) ∷ dot UnitConstant (meth "g" []) ∷ [])) ∷ []) 2).ended ≡ gives (ArrayV (values (i 2 ∷ i 1 ∷ [])))
unfolding ran
type_before_none = refl

-- `const a = []; a.push(1)`
constant_receiver : (ran (const' "a" (array []) ∷ ExprStmt (dot (var "a") (meth "push" (int 1 ∷ []))) ∷ []) 0).ended ≡ WithStuck WriteToConstant
unfolding ran
constant_receiver = refl

-- `let x = [[1]]; x[0][{ x = []; 0 }]`
broken_path : (ran (let' "x" (array (array (int 1 ∷ []) ∷ [])) ∷ ExprStmt (Index (record { negated = false; breaks = false; exported = false }) (var "x") (at (int 0) (BlockExpr (stmts (Assignment None (var "x") (array []) ∷ ExprStmt (int 0) ∷ []))))) ∷ []) 0).ended ≡ WithStuck NoPlace
unfolding ran
broken_path = refl

-- `let u = (); u?.g(f())`
optional_before_arguments : ran (let' "u" UnitConstant ∷ ExprStmt (Dot (record { negated = true; breaks = false; exported = false }) (var "u") (meth "g" (fn "f" [] ∷ []))) ∷ []) 0 ≡ report (gives UnitV) (var_is "u" UnitV ∷ []) [] 0
unfolding ran
optional_before_arguments = refl

-- `const x = 1; x = f()`
constant_after_calls : ran (const' "x" (int 1) ∷ Assignment None (var "x") (fn "f" []) ∷ []) 0 ≡ report (WithStuck WriteToConstant) (const_is "x" (i 1) ∷ []) (asked "f" [] ∷ []) 0
unfolding ran
constant_after_calls = refl

-- `let x = 1; x.p = 2`
setter_writes : ran_in new_receiver (let' "x" (int 1) ∷ Assignment None (dot (var "x") (prop "p")) (int 2) ∷ []) 0 ≡ report (gives UnitV) (var_is "x" (i 4) ∷ []) (record (asked "set$p" (i 2 ∷ [])) { receiver = Some (i 1) } ∷ []) 0
unfolding ran
setter_writes = refl

-- `for x in [1] { continue f(); }`
continue_evaluates : ran (For (codes "x") None (array (int 1 ∷ [])) (stmts (BreakLoop false false (an_expr (fn "f" [])) ∷ [])) ∷ []) 1 ≡ report (gives UnitV) [] (asked "f" [] ∷ []) 0
unfolding ran
continue_evaluates = refl

-- `1 = f()`, which has no left side; `a[0] = f()` as a chain that does not end
ill_targets : (ran (Assignment None (int 1) (fn "f" []) ∷ []) 0) ∷ (ran (Assignment None (Index (record { negated = false; breaks = false; exported = false }) (var "a") (int 0)) (fn "f" []) ∷ []) 0) ∷ [] ≡ report (WithStuck WrongKind) [] [] 0 ∷ report (WithStuck WrongKind) [] (asked "f" [] ∷ []) 0 ∷ []
unfolding ran
ill_targets = refl

-- `fn g() { this = 5; throw 1 }` as entry
entry_that_throws : run (world_with (record { name = codes "g"; this_type = None; params = []; body = stmts (Assignment None ThisPtr (int 5) ∷ Return true false (an_expr (int 1)) ∷ []) } ∷ [])) no_stmts (AtFunction (key (codes "g") 0 None) (Some (i 0)) []) [] 1
    ≡ record { ended = WithThrown (i 1); variables = []; exports = []; this = Some (i 5); calls = []; turns = 0 }
unfolding ran
entry_that_throws = refl

-- a method by the own name of a type that is mapped to another
unmapped : (ran_in (record { engine = record nothing_set { type_names = record { from = codes "i64"; to = codes "Integer" } ∷ [] }; host = program_host; functions = typed (Some (codes "Integer")) 1 ∷ typed (Some (codes "i64")) 2 ∷ [] }) (ExprStmt (dot (int 0) (meth "g" [])) ∷ []) 1).ended ≡ gives (i 2)
unfolding ran
unmapped = refl

-- `switch "a" { "a" if f() => 1, _ => 2 }` where f answers false
guarded_text_passes : (ran_in (record { engine = nothing_set; host = record { answer = λ past c. Answers (BoolV false) None; module_value = λ x. None; module_of = λ p. None; text = type_name }; functions = [] }) (Switch (StringConstant (codes "a")) (arms ((fn "f" [], int 1) ∷ (BoolConstant true, int 2) ∷ [])) (record { cases = record { value = TextV (codes "a"); arms = 0 ∷ [] } ∷ []; ranges = []; default = Some 1 }) ∷ []) 0).ended ≡ gives (i 2)
unfolding ran
guarded_text_passes = refl

-- an iterable that is no array and no range; `throw` without a value; a stuck run is not caught
kinds : (ran (For (codes "x") None (int 1) no_stmts ∷ []) 1).ended ∷ (ran (Return true false no_expr ∷ []) 0).ended ∷ (ran (TryCatch UnitConstant (stmts (ExprStmt (var "q") ∷ [])) no_stmts ∷ []) 0).ended ∷ [] ≡ WithStuck WrongKind ∷ WithThrown UnitV ∷ WithStuck Unbound ∷ []
unfolding ran
kinds = refl

-- `f().1`
shape_before_base : ran (ExprStmt (dot (fn "f" []) (int 1)) ∷ []) 0 ≡ report (WithStuck WrongKind) [] [] 0
unfolding ran
shape_before_base = refl

-- an operator asks no function of the script, also one of its symbol's name
operator_asks_the_host : (ran_in (world_with (record { name = codes "-"; this_type = None; params = codes "a" ∷ codes "b" ∷ []; body = no_stmts } ∷ [])) (ExprStmt (op Minus (int 1 ∷ BoolConstant true ∷ [])) ∷ []) 1) ≡ report (gives UnitV) [] (asked "-" (i 1 ∷ BoolV true ∷ []) ∷ []) 1
unfolding ran
operator_asks_the_host = refl

-- `let x = 1; x.p.q = 2`
getter_has_no_place : ran_in new_receiver (let' "x" (int 1) ∷ Assignment None (dot (var "x") (dot (prop "p") (prop "q"))) (int 2) ∷ []) 0 ≡ report (WithStuck NoPlace) (var_is "x" (i 1) ∷ []) (record (asked "get$p" []) { receiver = Some (i 1) } ∷ []) 0
unfolding ran
getter_has_no_place = refl

-- `switch 5 { 1 => 2 }`
switch_of_nothing : ran (Switch (int 5) (arms ((BoolConstant true, int 2) ∷ [])) (record { cases = record { value = i 1; arms = 0 ∷ [] } ∷ []; ranges = []; default = None }) ∷ []) 0 ≡ report (gives UnitV) [] [] 0
unfolding ran
switch_of_nothing = refl

-- `f()[0] = g()` as a chain that does not end
shape_before_place : ran (Assignment None (Index (record { negated = false; breaks = false; exported = false }) (fn "f" []) (int 0)) (fn "g" []) ∷ []) 0 ≡ report (WithStuck WrongKind) [] (asked "g" [] ∷ []) 0
unfolding ran
shape_before_place = refl

-- `#{a: f(), a: 2}`
equal_keys_have_no_run : ran (ExprStmt (MapOf (pairs ((codes "a", fn "f" []) ∷ (codes "a", int 2) ∷ [])) (codes "a" ∷ [])) ∷ []) 0 ≡ report (WithStuck WrongKind) [] [] 0
unfolding ran
equal_keys_have_no_run = refl

-- `&&` without operands
empty_operands_run : (ran (ExprStmt (And no_exprs) ∷ []) 0).ended ≡ gives (BoolV true)
unfolding ran
empty_operands_run = refl

-- ---- the flag EXPORTED, which says nothing of nodes other than declarations

abbrev dot_flagged : Bool → Expr → Expr → Expr
dot_flagged o l r = Dot (record { negated = false; breaks = false; exported = o }) l r

abbrev index_flagged : Bool → Expr → Expr → Expr
index_flagged o l r = Index (record { negated = false; breaks = true; exported = o }) l r

abbrev reports : List Stmt → List Report
reports [] = []
reports (s ∷ ss) = ran (s ∷ []) 1 ∷ reports ss

-- do { f() } while false; return f(); f().a; [1][0]; loop { break f() }; f()[g()].a; a.b = f()
abbrev flagged : Bool → List Stmt
flagged o =
    Do false o (BoolConstant false) (stmts (ExprStmt (fn "f" []) ∷ []))
    ∷ Return false o (an_expr (fn "f" []))
    ∷ ExprStmt (dot_flagged o (fn "f" []) (prop "a"))
    ∷ ExprStmt (index_flagged o (array (int 1 ∷ [])) (int 0))
    ∷ While UnitConstant (stmts (BreakLoop true o (an_expr (fn "f" [])) ∷ []))
    ∷ ExprStmt (Index (record { negated = false; breaks = false; exported = false }) (fn "f" []) (dot_flagged o (fn "g" []) (prop "a")))
    ∷ Assignment None (dot_flagged o (var "a") (prop "b")) (fn "f" [])
    ∷ []

exported_nodes : reports (flagged true) ≡ reports (flagged false)
unfolding ran
exported_nodes = refl

exported_index : ran (ExprStmt (index_flagged true (array (int 1 ∷ [])) (int 0)) ∷ []) 0 ≡ report (gives (i 1)) [] [] 0
unfolding ran
exported_index = refl

exported_break : ran (While UnitConstant (stmts (BreakLoop true true (an_expr (fn "f" [])) ∷ [])) ∷ []) 1 ≡ report (gives (BoolV true)) [] (asked "f" [] ∷ []) 0
unfolding ran
exported_break = refl
