-- Worked answers: what of the whole language is left to reduce, and what comes near it.
use Rattle.std.specs.Prelude.{◌≡◌, true, false, [], ◌∷◌, Some, None, pos, negsuc, codes, refl}
use Rattle.rhai_base.specs.Value.{ArrayV, MapV, values, field, no_fields}
use Rattle.theory_meaning.specs.Tree.{ChainFlags, SwitchTable, ExclusiveInt, Expr, DynamicConstant, IntegerConstant, BoolConstant, UnitConstant, Variable, Property, Dot, Index, Noop, If, Var, Block, ExprStmt, BreakLoop, Return, no_expr, an_expr, no_stmts, exprs, stmts, Assignment, While, Script, Stmt, Stmts}
use Rattle.theory_meaning.specs.WorkedForms.{int, call, i, nothing_set}
use Rattle.theory_rewriting.specs.Reducible.{is_always, follows_deciding, follows_some, chain_answer, is_chosen, goes_on_after_leaving, tests_constant, idles, ends_in_return, IsIrreducibleList, IsIrreducibleNode, IsIrreducibleBody, IsIrreducibleScript}
use Rattle.theory_meaning.specs.Walk.{OfExpr, OfStmt, every, over_expr}

abbrev plain : ChainFlags
plain = record { negated = false; breaks = true; exported = false }

abbrev questioned : ChainFlags
questioned = record { negated = true; breaks = true; exported = false }

abbrev property : Expr
property = Property (record { getter = codes "get$a"; setter = codes "set$a"; name = codes "a" })

abbrev x : Expr
x = Variable [] (codes "x")

-- `while false`, `while true`, `while x`
false_is_false : is_always false (BoolConstant false) ≡ true
false_is_false = refl

true_is_not : is_always false (BoolConstant true) ≡ false
true_is_not = refl

name_is_not : is_always false x ≡ false
name_is_not = refl

-- true && false && f(), f() && false, false || true
operand_follows : follows_deciding false (exprs (BoolConstant true ∷ BoolConstant false ∷ call "f" [] ∷ [])) ≡ true
operand_follows = refl

none_follows : follows_deciding false (exprs (call "f" [] ∷ BoolConstant false ∷ [])) ≡ false
none_follows = refl

goes_on : follows_deciding true (exprs (BoolConstant false ∷ BoolConstant true ∷ [])) ≡ false
goes_on = refl

-- 1 ?? f(), () ?? f()
option_follows : follows_some (exprs (int 1 ∷ call "f" [] ∷ [])) ≡ true
option_follows = refl

unit_goes_on : follows_some (exprs (UnitConstant ∷ call "f" [] ∷ [])) ≡ false
unit_goes_on = refl

-- [1, 2][-1], [1, 2]?[0], [1][1], x[0], #{a: 1}.a
index_answers : chain_answer (Index plain (DynamicConstant (ArrayV (values (i 1 ∷ i 2 ∷ [])))) (IntegerConstant (negsuc 0))) ≡ Some (i 2)
index_answers = refl

question_is_none : chain_answer (Index questioned (DynamicConstant (ArrayV (values (i 1 ∷ [])))) (int 0)) ≡ None
question_is_none = refl

out_of_bounds_is_none : chain_answer (Index plain (DynamicConstant (ArrayV (values (i 1 ∷ [])))) (int 1)) ≡ None
out_of_bounds_is_none = refl

name_is_none : chain_answer (Index plain x (int 0)) ≡ None
name_is_none = refl

property_answers : chain_answer (Dot plain (DynamicConstant (MapV (field (codes "a") (i 1) no_fields))) property) ≡ Some (i 1)
property_answers = refl

-- switch 1 { 1 => .. }, switch 2 { 1 => .. }, switch 2 { 1 => .., 0..3 => .. }, switch 1 { 1 if .. , 1 => .. }
abbrev one_case : SwitchTable
one_case = record { cases = record { value = i 1; arms = 0 ∷ [] } ∷ []; ranges = []; default = None }

one_arm_chosen : is_chosen (DynamicConstant (i 1)) one_case ≡ true
one_arm_chosen = refl

none_chosen : is_chosen (DynamicConstant (i 2)) one_case ≡ true
none_chosen = refl

range_holds : is_chosen (DynamicConstant (i 2)) (record one_case { ranges = record { range = ExclusiveInt (pos 0) (pos 3); arm = 1 } ∷ [] }) ≡ false
range_holds = refl

two_arms : is_chosen (DynamicConstant (i 1)) (record one_case { cases = record { value = i 1; arms = 0 ∷ 1 ∷ [] } ∷ [] }) ≡ false
two_arms = refl

-- break; f()
after_break : goes_on_after_leaving (stmts (BreakLoop true false no_expr ∷ ExprStmt (call "f" []) ∷ [])) ≡ true
after_break = refl

break_last : goes_on_after_leaving (stmts (ExprStmt (call "f" []) ∷ BreakLoop true false no_expr ∷ [])) ≡ false
break_last = refl

-- const x = false; if x {}; and with x declared again in between
constant_tested : tests_constant (stmts (Var true false (codes "x") (BoolConstant false) ∷ ExprStmt (call "f" []) ∷ If x no_stmts no_stmts ∷ [])) ≡ true
constant_tested = refl

declared_again : tests_constant (stmts (Var true false (codes "x") (BoolConstant false) ∷ Var false false (codes "x") (int 1) ∷ If x no_stmts no_stmts ∷ [])) ≡ false
declared_again = refl

unknown_behind_eval : tests_constant (stmts (Var true false (codes "x") (BoolConstant false) ∷ ExprStmt (call "eval" []) ∷ If x no_stmts no_stmts ∷ [])) ≡ false
unknown_behind_eval = refl

-- also where it is nested in an expression; not where a list inside calls it
unknown_behind_nested : tests_constant (stmts (Var true false (codes "x") (BoolConstant false) ∷ ExprStmt (call "f" (call "eval" [] ∷ [])) ∷ If x no_stmts no_stmts ∷ [])) ≡ false
unknown_behind_nested = refl

known_behind_a_block : tests_constant (stmts (Var true false (codes "x") (BoolConstant false) ∷ Block (stmts (ExprStmt (call "eval" []) ∷ [])) ∷ If x no_stmts no_stmts ∷ [])) ≡ true
known_behind_a_block = refl

variable_tested : tests_constant (stmts (Var false false (codes "x") (BoolConstant false) ∷ If x no_stmts no_stmts ∷ [])) ≡ false
variable_tested = refl

-- 1; f()
constant_idles : idles (stmts (ExprStmt (int 1) ∷ ExprStmt (call "f" []) ∷ [])) ≡ true
constant_idles = refl

last_stays : idles (stmts (ExprStmt (call "f" []) ∷ ExprStmt (int 1) ∷ [])) ≡ false
last_stays = refl

-- return 1, return
returns : ends_in_return (stmts (Noop ∷ Return false false (an_expr (int 1)) ∷ [])) ≡ true
returns = refl

returns_unit : ends_in_return (stmts (Return false false no_expr ∷ [])) ≡ false
returns_unit = refl

-- ---- nodes, and trees at every depth

abbrev goes_on_from : ChainFlags
goes_on_from = record { negated = false; breaks = false; exported = false }

abbrev IsIrreducible : Expr → Type 0
IsIrreducible e = over_expr (every (IsIrreducibleNode nothing_set)) e

-- [1][0], which answers 1
abbrev first : Expr
first = Index plain (DynamicConstant (ArrayV (values (i 1 ∷ [])))) (int 0)

first_answers : chain_answer first ≡ Some (i 1)
first_answers = refl

-- [1][0] = x: a left side is no expression; x = [1][0]: a right side is one
left_side_stays : IsIrreducibleNode nothing_set (OfStmt (Assignment None first x))
left_side_stays = record { alone = tt; lists = tt; expressions = refl }

right_side_reduces : IsIrreducibleNode nothing_set (OfStmt (Assignment None x first)) → ⊥
right_side_reduces h = absurd (let e : true ≡ false = h.expressions in cc)

-- x[[1]][0]: nor is the rest of a chain; x[[1][0]][2]: an index in the rest is one
rest_stays : IsIrreducible (Index goes_on_from x first)
rest_stays = (record { alone = tt; lists = tt; expressions = (refl, λ h. absurd cc) }, ((record { alone = tt; lists = tt; expressions = tt }, tt), (record { alone = tt; lists = tt; expressions = (refl, λ h. refl) }, ((record { alone = tt; lists = tt; expressions = tt }, tt), (record { alone = tt; lists = tt; expressions = tt }, tt)))))

index_in_rest_reduces : IsIrreducible (Index goes_on_from x (Index plain first (int 2))) → ⊥
index_in_rest_reduces h = absurd (let e : true ≡ false = h.1.1.0.expressions.0 in cc)

-- x[x[0]], x[[1][0]]: what ends a chain in brackets is an expression
last_index_stays : IsIrreducibleNode nothing_set (OfExpr (Index plain x (Index plain x (int 0))))
last_index_stays = record { alone = tt; lists = tt; expressions = (refl, λ h. refl) }

last_index_reduces : IsIrreducibleNode nothing_set (OfExpr (Index plain x first)) → ⊥
last_index_reduces h = absurd (let e : true ≡ false = h.expressions.1 refl in cc)

-- ---- lists

abbrev ask : Stmt
ask = ExprStmt (call "f" [])

-- f(); x, and 1; x
list_stays : IsIrreducibleList (stmts (ask ∷ ExprStmt x ∷ []))
list_stays = record { ends_where_left = refl; tests_no_constant = refl; never_idles = refl }

list_reduces : IsIrreducibleList (stmts (ExprStmt (int 1) ∷ ExprStmt x ∷ [])) → ⊥
list_reduces h = absurd (let e : true ≡ false = h.never_idles in cc)

-- while x { f(); break; }, while x { break; f(); }
loop_body_stays : IsIrreducibleNode nothing_set (OfStmt (While x (stmts (ask ∷ BreakLoop true false no_expr ∷ []))))
loop_body_stays = record { alone = refl; lists = record { ends_where_left = refl; tests_no_constant = refl; never_idles = refl }; expressions = (refl, (tt, (tt, tt))) }

loop_body_reduces : IsIrreducibleNode nothing_set (OfStmt (While x (stmts (BreakLoop true false no_expr ∷ ask ∷ [])))) → ⊥
loop_body_reduces h = absurd (let e : true ≡ false = h.lists.ends_where_left in cc)

-- ---- bodies and scripts

-- f(), and f(); return 1
body_stays : IsIrreducibleBody nothing_set (stmts (ask ∷ []))
body_stays = record {
  list = record { ends_where_left = refl; tests_no_constant = refl; never_idles = refl };
  returns_nothing = refl;
  nodes = ((record { alone = tt; lists = tt; expressions = refl }, (record { alone = refl; lists = tt; expressions = tt }, tt)), tt);
}

body_reduces : IsIrreducibleBody nothing_set (stmts (ask ∷ Return false false (an_expr (int 1)) ∷ [])) → ⊥
body_reduces h = absurd (let e : true ≡ false = h.returns_nothing in cc)

-- a script of these statements and one function of that body
abbrev script : Stmts → Stmts → Script
script ss body = record { statements = ss; functions = record { name = codes "g"; this_type = None; params = []; body = body } ∷ [] }

-- f(), and fn g() { f() }; where g ends in return 1; where the script does
script_stays : IsIrreducibleScript nothing_set (script (stmts (ask ∷ [])) (stmts (ask ∷ [])))
script_stays = record { statements = body_stays; functions = (body_stays, tt) }

function_body_reduces : IsIrreducibleScript nothing_set (script (stmts (ask ∷ [])) (stmts (ask ∷ Return false false (an_expr (int 1)) ∷ []))) → ⊥
function_body_reduces h = body_reduces h.functions.0

script_reduces : IsIrreducibleScript nothing_set (script (stmts (ask ∷ Return false false (an_expr (int 1)) ∷ [])) (stmts (ask ∷ []))) → ⊥
script_reduces h = body_reduces h.statements
