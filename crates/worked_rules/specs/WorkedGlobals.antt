-- What bodies know of the constants of the script's own statements.
use Rattle.std.specs.Prelude.{◌≡◌, true, false, List, [], ◌∷◌, Option, Some, None, codes, refl}
use Prim.Native.String.{String}
use Rattle.rhai_base.specs.Value.{Text, Value, UnitV, BoolV, MapV, field, no_fields}
use Rattle.theory_meaning.specs.Tree.{NoToken, Expr, DynamicConstant, BoolConstant, Variable, Dot, Index, Stmt, Var, Block, ExprStmt, FnCallStmt, Function, Script, exprs, stmts}
use Rattle.theory_meaning.specs.WorkedForms.{int, nothing_set, i, call}
use Rattle.theory_rewriting.specs.Context.{knowing, known_after}
use Rattle.theory_rewriting.specs.Known.{Known, known_at}
use Rattle.theory_rewriting.specs.Rewriting.{same_stmts, in_expression, in_head, by_expr_rule}
use Rattle.theory_rewriting.specs.Rules.{ExprRule, known_name, known_property, dot_rule}
use Rattle.theory_rewriting.specs.Scripts.{known_globals, known_inside, no_functions, functions, OptimisedTo}
use Rattle.worked_rules.specs.WorkedNodes.{dot, property}

abbrev global : List Text
global = codes "global" ∷ []

abbrev const : String → Expr → Stmt
const x e = Var true false (codes x) e

-- what is known by global::x behind these statements
abbrev known : List Stmt → Option Value
known ss = known_at (known_globals (stmts ss)) global (codes "x")

-- ---- what is known

-- const y = 2; const x = 1
literal : known (const "y" (int 2) ∷ const "x" (int 1) ∷ []) ≡ Some (i 1)
literal = refl

exported : known (Var true true (codes "x") (int 1) ∷ []) ≡ Some (i 1)
exported = refl

-- const x = 1; const x = 2
declared_twice : known (const "x" (int 1) ∷ const "x" (int 2) ∷ []) ≡ None
declared_twice = refl

-- const x = 1; const x = f()
declared_by_a_call_too : known (const "x" (int 1) ∷ const "x" (call "f" []) ∷ []) ≡ None
declared_by_a_call_too = refl

by_a_call : known (const "x" (call "f" []) ∷ []) ≡ None
by_a_call = refl

-- a unit that no constant of its kind holds has no meaning
odd_constant : known (const "x" (DynamicConstant UnitV) ∷ []) ≡ None
odd_constant = refl

-- let x = 1
variable : known (Var false false (codes "x") (int 1) ∷ []) ≡ None
variable = refl

-- { const x = 1 }
of_a_block : known (Block (stmts (const "x" (int 1) ∷ [])) ∷ []) ≡ None
of_a_block = refl

-- it is no name, and stands in no other module
by_its_name : known_at (known_globals (stmts (const "x" (int 1) ∷ []))) [] (codes "x") ≡ None
by_its_name = refl

in_another_module : known_at (known_globals (stmts (const "x" (int 1) ∷ []))) (codes "m" ∷ []) (codes "x") ≡ None
in_another_module = refl

by_a_longer_path : known_at (known_globals (stmts (const "x" (int 1) ∷ []))) (codes "global" ∷ codes "m" ∷ []) (codes "x") ≡ None
by_a_longer_path = refl

-- a parameter of that name hides the name alone, and behind a call of `eval` it is known still
behind_eval : known_at (known_after false (ExprStmt (call "eval" [])) (known_globals (stmts (const "x" (int 1) ∷ [])))) global (codes "x") ≡ Some (i 1)
behind_eval = refl

-- ---- scripts

-- const x = true; fn g(x) { e }
abbrev script : Expr → Expr → Script
script c e = record { statements = stmts (const "x" c ∷ []); functions = record { name = codes "g"; this_type = None; params = codes "x" ∷ []; body = stmts (ExprStmt e ∷ []) } ∷ [] }

known_in_a_body : OptimisedTo nothing_set [] (script (BoolConstant true) (Variable global (codes "x"))) (script (BoolConstant true) (BoolConstant true))
known_in_a_body = record {
  statements = same_stmts;
  functions = functions (record { name = refl; this_type = refl; params = refl; body = in_head (in_expression (by_expr_rule (known_name (BoolV true) refl))) }) no_functions;
}

-- global::x.a
abbrev fields : Value
fields = MapV (field (codes "a") (i 1) no_fields)

part_in_a_body : OptimisedTo nothing_set [] (script (DynamicConstant fields) (Dot dot (Variable global (codes "x")) (property "a"))) (script (DynamicConstant fields) (int 1))
part_in_a_body = record {
  statements = same_stmts;
  functions = functions (record { name = refl; this_type = refl; params = refl; body = in_head (in_expression (by_expr_rule (dot_rule (known_property (field (codes "a") (i 1) no_fields) refl)))) }) no_functions;
}

-- f!(): where a call captures nothing is known
nothing_inside : known_inside nothing_set [] (record { statements = stmts (const "x" (int 1) ∷ FnCallStmt (record { name = codes "f"; namespace = []; captures = true; token = NoToken }) (exprs []) ∷ []); functions = [] }) ≡ []
nothing_inside = refl
