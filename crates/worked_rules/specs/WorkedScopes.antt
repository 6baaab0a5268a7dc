-- Runs that differ where the closure's conditions don't hold: names that are variables, bases, guards, and calls that capture.
use Rattle.std.specs.Prelude.{◌≡◌, ℕ, true, false, List, [], ◌∷◌, Some, None, codes, refl}
use Rattle.rhai_base.specs.Value.{UnitV, ArrayV, values, type_name}
use Rattle.theory_meaning.specs.Act.{HostCall, Answers, Host, WrongKind}
use Rattle.theory_meaning.specs.Run.{End, WithStuck, WithoutTurns}
use Rattle.theory_meaning.specs.Tree.{NoToken, Expr, DynamicConstant, UnitConstant, Variable, MethodCall, BlockExpr, FnCall, Dot, exprs, Stmt, While, For, Var, Block, TryCatch, ExprStmt, Return, an_expr, no_stmts, stmts, Function}
use Rattle.theory_meaning.specs.WorkedForms.{int, call, nothing_set, joining, ran_with, asked, i}

abbrev x : Expr
x = Variable [] (codes "x")

-- f(e)
abbrev f : Expr → Stmt
f e = ExprStmt (call "f" (e ∷ []))

abbrev const_x : Stmt
const_x = Var true false (codes "x") (int 1)

abbrev calls : List Function → ℕ → List Stmt → List HostCall
calls fs n ss = (ran_with nothing_set joining fs n ss).calls

abbrev f_of : ℕ → List HostCall
f_of n = asked "f" (i n ∷ []) ∷ []

-- const x = 1; for x in [2] { f(x) }: the loop name is a variable
abbrev loop : Expr → List Stmt
loop e = const_x ∷ For (codes "x") None (DynamicConstant (ArrayV (values (i 2 ∷ [])))) (stmts (f e ∷ [])) ∷ []

loop_name : (calls [] 1 (loop x) ≡ f_of 2) × (calls [] 1 (loop (int 1)) ≡ f_of 1)
unfolding ran_with
loop_name = (refl, refl)

-- const x = 1; try { throw 2 } catch (x) { f(x) }
abbrev catching : Expr → List Stmt
catching e = const_x ∷ TryCatch x (stmts (Return true false (an_expr (int 2)) ∷ [])) (stmts (f e ∷ [])) ∷ []

catch_name : (calls [] 0 (catching x) ≡ f_of 2) × (calls [] 0 (catching (int 1)) ≡ f_of 1)
unfolding ran_with
catch_name = (refl, refl)

-- fn g(x) { f(x) }; const x = 1; g(2): a parameter is a variable
abbrev taking : Expr → List Function
taking e = record { name = codes "g"; this_type = None; params = codes "x" ∷ []; body = stmts (f e ∷ []) } ∷ []

parameter : (calls (taking x) 1 (const_x ∷ ExprStmt (call "g" (int 2 ∷ [])) ∷ []) ≡ f_of 2) × (calls (taking (int 1)) 1 (const_x ∷ ExprStmt (call "g" (int 2 ∷ [])) ∷ []) ≡ f_of 1)
unfolding ran_with
parameter = (refl, refl)

-- fn g() { f(x) }; const x = 1; { let x = 2; g!() }: a call that captures sees the names around it
abbrev capturing : Expr → List Function
capturing e = record { name = codes "g"; this_type = None; params = []; body = stmts (f e ∷ []) } ∷ []

abbrev captured : List Stmt
captured = const_x ∷ Block (stmts (Var false false (codes "x") (int 2) ∷ ExprStmt (FnCall (record { namespace = []; name = codes "g"; captures = true; token = NoToken }) (exprs [])) ∷ [])) ∷ []

capture : (calls (capturing x) 1 captured ≡ f_of 2) × (calls (capturing (int 1)) 1 captured ≡ f_of 1)
unfolding ran_with
capture = (refl, refl)

-- let x = 1; { x }.m(); f(x): a base that becomes a name is changed by its method
abbrev renewing : Host
renewing = record { answer = λ past c. Answers UnitV (Some (i 2)); module_value = λ y. None; module_of = λ p. None; text = type_name }

abbrev based : Expr → List Stmt
based e = Var false false (codes "x") (int 1) ∷ ExprStmt (Dot (record { negated = false; breaks = true; exported = false }) e (MethodCall (record { namespace = []; name = codes "m"; captures = false; token = NoToken }) (exprs []))) ∷ f x ∷ []

abbrev m : HostCall
m = record { name = codes "m"; receiver = Some (i 1); arguments = [] }

base_place : ((ran_with nothing_set renewing [] 0 (based (BlockExpr (stmts (ExprStmt x ∷ []))))).calls ≡ m ∷ f_of 1) × ((ran_with nothing_set renewing [] 0 (based x)).calls ≡ m ∷ f_of 2)
unfolding ran_with
base_place = (refl, refl)

-- while {} {}: a guard that gives unit is stuck, and `loop` goes on for ever
ended_by : Expr → End
unfolding ran_with
ended_by e = (ran_with nothing_set joining [] 2 (While e no_stmts ∷ [])).ended

guard_unit : (ended_by (BlockExpr no_stmts) ≡ WithStuck WrongKind) × (ended_by UnitConstant ≡ WithoutTurns)
unfolding ended_by
guard_unit = (refl, refl)
