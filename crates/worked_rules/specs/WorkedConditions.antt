-- For conditions of rules on nodes: two scripts that the rule without it would take for one, and what each does. Those of
-- `switch` stand in `WorkedTables`.
use Rattle.std.specs.Prelude.{◌≡◌, true, false, List, [], ◌∷◌, Some, codes, refl}
use Rattle.rhai_base.specs.Value.{Value, UnitV, BoolV, TextV, ArrayV, MapV, values, field, no_fields, text_of}
use Rattle.theory_meaning.specs.Act.{HostCall, WrongKind}
use Rattle.theory_meaning.specs.Faults.{NoOperands, fault_of}
use Rattle.theory_meaning.specs.Run.{Report, WithValue, WithThrown, WithStuck, WithoutTurns}
use Rattle.theory_meaning.specs.Tree.{Expr, BoolConstant, StringConstant, UnitConstant, ArrayOf, BlockExpr, FnCall, Dot, Index, MethodCall, And, Coalesce, Stmt, Noop, While, TryCatch, ExprStmt, Return, an_expr, exprs, stmts, DynamicConstant, If, MapOf, pairs, InterpolatedString}
use Rattle.theory_meaning.specs.Walk.{OfExpr, outermost}
use Rattle.theory_meaning.specs.WorkedForms.{int, call, nothing_set, joining, ran, ends, i, op, asked, overriding}
use Rattle.theory_rewriting.specs.Parts.{named}
use Rattle.worked_rules.specs.WorkedNodes.{safe, index, dot, property}
use Rattle.worked_rules.specs.WorkedRewrites.{f, asks_f}
use Rattle.rhai_base.specs.Operators.{Plus, computed}
use Rattle.theory_meaning.specs.Control.{texts_joined}

-- what the two do
abbrev pub Differ : List Stmt → Report → List Stmt → Report → Type 0
Differ a r b q = (ran nothing_set joining a ≡ r) × (ran nothing_set joining b ≡ q)

abbrev shown : Expr → List Stmt
shown e = ExprStmt e ∷ []

abbrev t : Expr
t = BoolConstant true

abbrev n : Expr
n = BoolConstant false

abbrev ask : Expr
ask = call "f" []

-- a pure operand goes only directly before one that decides: {false} && f() && false calls nobody, f() && false calls f
pure_operand_keeps_a_call_away : Differ (shown (And (exprs (BlockExpr (stmts (ExprStmt n ∷ [])) ∷ ask ∷ n ∷ [])))) (ends (WithValue (BoolV false)) []) (shown (And (exprs (ask ∷ n ∷ [])))) (ends (WithStuck WrongKind) asks_f)
unfolding ran
pure_operand_keeps_a_call_away = (refl, refl)

-- an operand that isn't pure stays: f() && false, and false
call_before_deciding_stays : Differ (shown (And (exprs (ask ∷ n ∷ [])))) (ends (WithStuck WrongKind) asks_f) (shown (And (exprs (n ∷ [])))) (ends (WithValue (BoolV false)) [])
unfolding ran
call_before_deciding_stays = (refl, refl)

-- `false` doesn't go from `&&`: false && true, and true
deciding_stays : Differ (shown (And (exprs (n ∷ t ∷ [])))) (ends (WithValue (BoolV false)) []) (shown (And (exprs (t ∷ [])))) (ends (WithValue (BoolV true)) [])
unfolding ran
deciding_stays = (refl, refl)

-- nor does what follows a constant that doesn't decide: true && false, and true
passing_decides_nothing : Differ (shown (And (exprs (t ∷ n ∷ [])))) (ends (WithValue (BoolV false)) []) (shown (And (exprs (t ∷ [])))) (ends (WithValue (BoolV true)) [])
unfolding ran
passing_decides_nothing = (refl, refl)

-- one operand stays, as `&&` without one is no well-formed node
no_operands_left : fault_of outermost (OfExpr (And (exprs []))) ≡ Some NoOperands
no_operands_left = refl

-- after a `??` constant that is unit the others stay: () ?? 1, and ()
unit_decides_nothing : Differ (shown (Coalesce (exprs (UnitConstant ∷ int 1 ∷ [])))) (ends (WithValue (i 1)) []) (shown (Coalesce (exprs (UnitConstant ∷ [])))) (ends (WithValue UnitV) [])
unfolding ran
unit_decides_nothing = (refl, refl)

-- only unit goes from `??`: 1 ?? 2, and 2
some_stays : Differ (shown (Coalesce (exprs (int 1 ∷ int 2 ∷ [])))) (ends (WithValue (i 1)) []) (shown (Coalesce (exprs (int 2 ∷ [])))) (ends (WithValue (i 2)) [])
unfolding ran
some_stays = (refl, refl)

-- a constant goes from a text only where its own text is empty: `1`, and ``
text_of_constant_stays : Differ (shown (InterpolatedString (exprs (int 1 ∷ [])))) (ends (WithValue (TextV (codes "1"))) []) (shown (InterpolatedString (exprs []))) (ends (WithValue (TextV [])) [])
unfolding ran texts_joined text_of
text_of_constant_stays = (refl, refl)

-- what is built in is no more where it is overridden: 1 + 2, and 3
overridden_call : (ran (overriding (codes "+") (codes "i64" ∷ codes "i64" ∷ []) false) joining (shown (op Plus (int 1 ∷ int 2 ∷ []))) ≡ ends (WithValue (TextV (codes "12"))) (asked "+" (i 1 ∷ i 2 ∷ []) ∷ [])) × (ran (overriding (codes "+") (codes "i64" ∷ codes "i64" ∷ []) false) joining (shown (int 3)) ≡ ends (WithValue (i 3)) [])
unfolding ran computed
overridden_call = (refl, refl)

-- without `?` a unit goes on, and the host is asked: ().a, ()[0], and ()
unit_without_question : Differ (shown (Dot dot UnitConstant (property "a"))) (ends (WithValue UnitV) (record { name = codes "get"; receiver = Some UnitV; arguments = [] } ∷ [])) (shown UnitConstant) (ends (WithValue UnitV) [])
unfolding ran
unit_without_question = (refl, refl)

unit_index_without_question : Differ (shown (Index index UnitConstant (int 0))) (ends (WithValue UnitV) (record { name = codes "index$get$"; receiver = Some UnitV; arguments = i 0 ∷ [] } ∷ [])) (shown UnitConstant) (ends (WithValue UnitV) [])
unfolding ran
unit_index_without_question = (refl, refl)

-- `()?.type_of()` is unit, not "()"
type_of_past_unit : Differ (shown (Dot safe UnitConstant (MethodCall (named (codes "type_of") false) (exprs [])))) (ends (WithValue UnitV) []) (shown (StringConstant (codes "()"))) (ends (WithValue (TextV (codes "()"))) [])
unfolding ran
type_of_past_unit = (refl, refl)

-- nor where the chain goes on: ()?.type_of().is_shared() is unit
type_of_first_past_unit : Differ (shown (Dot safe UnitConstant (Dot dot (MethodCall (named (codes "type_of") false) (exprs [])) (MethodCall (named (codes "is_shared") false) (exprs []))))) (ends (WithValue UnitV) []) (shown (Dot dot (StringConstant (codes "()")) (MethodCall (named (codes "is_shared") false) (exprs [])))) (ends (WithValue (BoolV false)) [])
unfolding ran
type_of_first_past_unit = (refl, refl)

-- an index that ends its chain is a whole expression, and no first step: [7, 8][1[0]] asks the host, and 8[0] is false
index_is_whole : Differ (shown (Index index (DynamicConstant (ArrayV (values (i 7 ∷ i 8 ∷ [])))) (Index index (int 1) (int 0)))) (ends (WithValue UnitV) (record { name = codes "index$get$"; receiver = Some (ArrayV (values (i 7 ∷ i 8 ∷ []))); arguments = BoolV true ∷ [] } ∷ [])) (shown (Index index (int 8) (int 0))) (ends (WithValue (BoolV false)) [])
unfolding ran
index_is_whole = (refl, refl)

-- the other parts of a literal are pure: [f(), 1][1], and 1
other_parts_call : Differ (shown (Index index (ArrayOf (exprs (ask ∷ int 1 ∷ []))) (int 1))) (ends (WithValue (i 1)) asks_f) (shown (int 1)) (ends (WithValue (i 1)) [])
unfolding ran
other_parts_call = (refl, refl)

-- so are those of a map: #{a: f(), b: 1}.b, #{a: f(), b: 1}["b"], and 1
abbrev calling_map : Expr
calling_map = MapOf (pairs ((codes "a", ask) ∷ (codes "b", int 1) ∷ [])) (codes "a" ∷ codes "b" ∷ [])

other_properties_call : Differ (shown (Dot dot calling_map (property "b"))) (ends (WithValue (i 1)) asks_f) (shown (int 1)) (ends (WithValue (i 1)) [])
unfolding ran
other_properties_call = (refl, refl)

other_entries_call : Differ (shown (Index index calling_map (StringConstant (codes "b")))) (ends (WithValue (i 1)) asks_f) (shown (int 1)) (ends (WithValue (i 1)) [])
unfolding ran
other_entries_call = (refl, refl)

-- and so they are where the chain goes on: [f(), #{c: 1}][1].c, #{a: f(), b: #{c: 1}}.b.c, #{a: f(), b: #{c: 1}}["b"].c, and #{c: 1}.c
abbrev inner_map : Expr
inner_map = MapOf (pairs ((codes "c", int 1) ∷ [])) (codes "c" ∷ [])

abbrev outer_map : Expr
outer_map = MapOf (pairs ((codes "a", ask) ∷ (codes "b", inner_map) ∷ [])) (codes "a" ∷ codes "b" ∷ [])

other_parts_call_first : Differ (shown (Index dot (ArrayOf (exprs (ask ∷ inner_map ∷ []))) (Dot dot (int 1) (property "c")))) (ends (WithValue (i 1)) asks_f) (shown (Dot dot inner_map (property "c"))) (ends (WithValue (i 1)) [])
unfolding ran
other_parts_call_first = (refl, refl)

other_properties_call_first : Differ (shown (Dot dot outer_map (Dot dot (property "b") (property "c")))) (ends (WithValue (i 1)) asks_f) (shown (Dot dot inner_map (property "c"))) (ends (WithValue (i 1)) [])
unfolding ran
other_properties_call_first = (refl, refl)

other_entries_call_first : Differ (shown (Index dot outer_map (Dot dot (StringConstant (codes "b")) (property "c")))) (ends (WithValue (i 1)) asks_f) (shown (Dot dot inner_map (property "c"))) (ends (WithValue (i 1)) [])
unfolding ran
other_entries_call_first = (refl, refl)

-- what ends a chain in brackets is no first step of a literal either: [7, 8][1[0]], #{c: 1}["c"["d"]]
abbrev asks_index : Value → Value → HostCall
asks_index v j = record { name = codes "index$get$"; receiver = Some v; arguments = j ∷ [] }

literal_index_is_whole : Differ (shown (Index index (ArrayOf (exprs (int 7 ∷ int 8 ∷ []))) (Index index (int 1) (int 0)))) (ends (WithValue UnitV) (asks_index (ArrayV (values (i 7 ∷ i 8 ∷ []))) (BoolV true) ∷ [])) (shown (Index index (int 8) (int 0))) (ends (WithValue (BoolV false)) [])
unfolding ran
literal_index_is_whole = (refl, refl)

map_index_is_whole : Differ (shown (Index index inner_map (Index index (StringConstant (codes "c")) (StringConstant (codes "d"))))) (ends (WithValue UnitV) (asks_index (TextV (codes "c")) (TextV (codes "d")) ∷ asks_index (MapV (field (codes "c") (i 1) no_fields)) UnitV ∷ [])) (shown (Index index (int 1) (StringConstant (codes "d")))) (ends (WithValue UnitV) (asks_index (i 1) (TextV (codes "d")) ∷ []))
unfolding ran
map_index_is_whole = (refl, refl)

-- the name of a pointer is valid: Fn("1") throws
name_is_invalid : ran nothing_set joining (shown (FnCall (named (codes "Fn") false) (exprs (StringConstant (codes "1") ∷ [])))) ≡ ends (WithThrown (TextV (codes "function name"))) []
unfolding ran
name_is_invalid = refl

-- where the value of an `if` without statements is wanted, its condition isn't all: if true {} else {}, and true
wanted_condition : Differ (If t (stmts []) (stmts []) ∷ []) (ends (WithValue UnitV) []) (shown t) (ends (WithValue (BoolV true)) [])
unfolding ran
wanted_condition = (refl, refl)

-- no rule makes the guard of a `while` a literal unit, but for true: while {()} {} is stuck, and loop {} has no end
unit_guard : Differ (While (BlockExpr (stmts (ExprStmt UnitConstant ∷ []))) (stmts []) ∷ []) (ends (WithStuck WrongKind) []) (While UnitConstant (stmts []) ∷ []) (ends WithoutTurns [])
unfolding ran
unit_guard = (refl, refl)

-- the body of a `try` that goes is pure: try { throw 1 } catch { f() }, and nothing
throwing_body : Differ (TryCatch UnitConstant (stmts (Return true false (an_expr (int 1)) ∷ [])) (stmts (f ∷ [])) ∷ []) (ends (WithValue UnitV) asks_f) (Noop ∷ []) (ends (WithValue UnitV) [])
unfolding ran
throwing_body = (refl, refl)
