-- For the rules over constants: a part that is none is run. Scripts in which f() stands in its place ask the host first for f,
-- and what the rule would leave asks nobody.
use Rattle.std.specs.Prelude.{◌≡◌, true, false, List, [], ◌∷◌, map, Option, Some, None, codes, refl}
use Rattle.rhai_base.specs.Value.{Text, UnitV, BoolV, TextV, ArrayV, PointerV, values}
use Rattle.rhai_base.specs.Operators.{Plus, computed}
use Rattle.theory_meaning.specs.Act.{HostCall}
use Rattle.theory_meaning.specs.Control.{texts_joined}
use Rattle.theory_meaning.specs.Run.{WithValue, WithThrown, WithoutTurns}
use Rattle.theory_meaning.specs.Tree.{Expr, DynamicConstant, BoolConstant, UnitConstant, InterpolatedString, ArrayOf, MapOf, MethodCall, FnCall, Dot, Index, And, Or, Coalesce, Stmt, Noop, If, While, Block, ExprStmt, exprs, pairs, stmts, no_stmts}
use Rattle.theory_meaning.specs.WorkedForms.{int, call, op, nothing_set, joining, ran, ends, i}
use Rattle.theory_rewriting.specs.Parts.{named}
use Rattle.worked_rules.specs.WorkedConditions.{Differ}
use Rattle.worked_rules.specs.WorkedNodes.{dot, safe, index, safe_index, property}

abbrev ask : Expr
ask = call "f" []

abbrev word : Text → List Expr → Expr
word f es = FnCall (named f false) (exprs es)

abbrev method : Text → Expr
method f = MethodCall (named f false) (exprs [])

abbrev pointer : Expr
pointer = DynamicConstant (PointerV (codes "g") (values []))

abbrev one_item : Expr
one_item = DynamicConstant (ArrayV (values (i 1 ∷ [])))

abbrev one_entry : Expr
one_entry = MapOf (pairs ((codes "a", int 1) ∷ [])) (codes "a" ∷ [])

-- the name of the first call
abbrev first_name : List HostCall → Option Text
first_name [] = None
first_name (c ∷ cs) = Some c.name

abbrev asks_first : Stmt → Option Text
unfolding ran texts_joined computed
asks_first s = first_name (ran nothing_set joining (s ∷ [])).calls

abbrev f : Option Text
f = Some (codes "f")

-- [f()], `${f()}`, #{a: f()}, 1 + f()
literals : map (λ e. asks_first (ExprStmt e)) (ArrayOf (exprs (ask ∷ [])) ∷ InterpolatedString (exprs (ask ∷ [])) ∷ MapOf (pairs ((codes "a", ask) ∷ [])) (codes "a" ∷ []) ∷ op Plus (int 1 ∷ ask ∷ []) ∷ []) ≡ f ∷ f ∷ f ∷ f ∷ []
unfolding asks_first
literals = refl

-- type_of(f()), is_shared(f()), Fn(f()), curry(f()), curry(g, f())
words : map (λ e. asks_first (ExprStmt e)) (word (codes "type_of") (ask ∷ []) ∷ word (codes "is_shared") (ask ∷ []) ∷ word (codes "Fn") (ask ∷ []) ∷ word (codes "curry") (ask ∷ []) ∷ word (codes "curry") (pointer ∷ ask ∷ []) ∷ []) ≡ f ∷ f ∷ f ∷ f ∷ f ∷ []
unfolding asks_first
words = refl

-- f()?.a, f()?[0], f().a, f()[0], [1][f()], f().type_of(), f().is_shared(), #{a: 1}[f()]
chains : map (λ e. asks_first (ExprStmt e)) (Dot safe ask (property "a") ∷ Index safe_index ask (int 0) ∷ Dot dot ask (property "a") ∷ Index index ask (int 0) ∷ Index index one_item ask ∷ Dot dot ask (method (codes "type_of")) ∷ Dot dot ask (method (codes "is_shared")) ∷ Index index one_entry ask ∷ []) ≡ f ∷ f ∷ f ∷ f ∷ f ∷ f ∷ f ∷ f ∷ []
unfolding asks_first
chains = refl

-- f().a.b, f()[0].a, [1][f()].a, f().type_of().is_shared(), f().is_shared().type_of(), #{a: 1}[f()].b
longer_chains : map (λ e. asks_first (ExprStmt e)) (Dot dot ask (Dot dot (property "a") (property "b")) ∷ Index dot ask (Dot dot (int 0) (property "a")) ∷ Index dot one_item (Dot dot ask (property "a")) ∷ Dot dot ask (Dot dot (method (codes "type_of")) (method (codes "is_shared"))) ∷ Dot dot ask (Dot dot (method (codes "is_shared")) (method (codes "type_of"))) ∷ Index dot one_entry (Dot dot ask (property "b")) ∷ []) ≡ f ∷ f ∷ f ∷ f ∷ f ∷ f ∷ []
unfolding asks_first
longer_chains = refl

-- f() && true, f() || false, f() ?? 1; if f() {}, while f() {}
conditions : map asks_first (ExprStmt (And (exprs (ask ∷ BoolConstant true ∷ []))) ∷ ExprStmt (Or (exprs (ask ∷ BoolConstant false ∷ []))) ∷ ExprStmt (Coalesce (exprs (ask ∷ int 1 ∷ []))) ∷ If ask no_stmts no_stmts ∷ While ask no_stmts ∷ []) ≡ f ∷ f ∷ f ∷ f ∷ f ∷ []
unfolding asks_first
conditions = refl

-- ---- a constant of another value

abbrev t : Expr
t = BoolConstant true

abbrev n : Expr
n = BoolConstant false

-- while true {} is not nothing, and while false {} no loop
true_guard_goes_on : Differ (While t no_stmts ∷ []) (ends WithoutTurns []) (Noop ∷ []) (ends (WithValue UnitV) [])
unfolding ran
true_guard_goes_on = (refl, refl)

false_guard_ends : Differ (While n no_stmts ∷ []) (ends (WithValue UnitV) []) (While UnitConstant no_stmts ∷ []) (ends WithoutTurns [])
unfolding ran
false_guard_ends = (refl, refl)

-- if false { 1 } else { 2 }, and the other block
other_block : Differ (If n (stmts (ExprStmt (int 1) ∷ [])) (stmts (ExprStmt (int 2) ∷ [])) ∷ []) (ends (WithValue (i 2)) []) (Block (stmts (ExprStmt (int 1) ∷ [])) ∷ []) (ends (WithValue (i 1)) [])
unfolding ran
other_block = (refl, refl)

-- ()?.is_shared() is unit, not false; nor where the chain goes on
is_shared_past_unit : Differ (ExprStmt (Dot safe UnitConstant (method (codes "is_shared"))) ∷ []) (ends (WithValue UnitV) []) (ExprStmt n ∷ []) (ends (WithValue (BoolV false)) [])
unfolding ran
is_shared_past_unit = (refl, refl)

is_shared_first_past_unit : Differ (ExprStmt (Dot safe UnitConstant (Dot dot (method (codes "is_shared")) (method (codes "is_shared")))) ∷ []) (ends (WithValue UnitV) []) (ExprStmt (Dot dot n (method (codes "is_shared"))) ∷ []) (ends (WithValue (BoolV false)) [])
unfolding ran
is_shared_first_past_unit = (refl, refl)

-- another element: [1, 2][1], and 1
other_element : Differ (ExprStmt (Index index (ArrayOf (exprs (int 1 ∷ int 2 ∷ []))) (int 1)) ∷ []) (ends (WithValue (i 2)) []) (ExprStmt (int 1) ∷ []) (ends (WithValue (i 1)) [])
unfolding ran
other_element = (refl, refl)

-- one that is not there throws: [1][1]
missing_element : Differ (ExprStmt (Index index (ArrayOf (exprs (int 1 ∷ []))) (int 1)) ∷ []) (ends (WithThrown (TextV (codes "array bounds"))) []) (ExprStmt UnitConstant ∷ []) (ends (WithValue UnitV) [])
unfolding ran
missing_element = (refl, refl)
