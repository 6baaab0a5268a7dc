-- Runs with a float in each place where a value may stand, computed from the definitions alone. Texts write it as the host
-- of the program says: by its type's name.
use Rattle.std.specs.Prelude.{◌≡◌, ℕ, true, false, [], ◌∷◌, ◌++◌, Some, None, pos, codes, refl, map}
use Rattle.std.specs.Float.Ieee.{le, lt, of_int, of_bits, round}
use Rattle.rhai_base.specs.Value.{Value, UnitV, BoolV, FloatV, TextV, ArrayV, MapV, PointerV, values, field, no_fields, same, is_hashable, holds_float, text_of}
use Rattle.rhai_base.specs.Operators.{Plus, Minus, Multiply, EqualTo, Less, UpTo, Not, Negative}
use Rattle.theory_meaning.specs.Act.{WrongKind}
use Rattle.theory_meaning.specs.Constants.{is_constant, literal_value, constant_for}
use Rattle.theory_meaning.specs.Control.{holds}
use Rattle.theory_meaning.specs.Queries.{is_pure_expr}
use Rattle.theory_meaning.specs.Run.{WithThrown, WithStuck}
use Rattle.theory_meaning.specs.Tree.{ExclusiveInt, InclusiveInt, Expr, DynamicConstant, FloatConstant, UnitConstant, StringConstant, InterpolatedString, BlockExpr, And, Coalesce, Assignment, ExprStmt, If, For, While, Return, TryCatch, an_expr, exprs, stmts, no_stmts}
use Rattle.theory_meaning.specs.Weight.{expr_weight}
use Rattle.worked_meaning.specs.Runs.{ran, report, gives}
use Rattle.worked_meaning.specs.Terms.{i, int, var, op, fn, let', const', array, at, map_one, asked, var_is, const_is}

-- 1.5
abbrev bits : ℕ
bits = 4609434218613702656

abbrev half : Expr
half = FloatConstant bits

abbrev v : Value
v = FloatV bits

abbrev listed : Value
listed = ArrayV (values (v ∷ []))

-- ---- values

-- 1.5, [1.5], #{a: 1.5}, a constant, `??` over it, braces
alone : ran (ExprStmt half ∷ []) 0 ≡ report (gives v) [] [] 0
unfolding ran
alone = refl

in_an_array : ran (ExprStmt (array (half ∷ [])) ∷ []) 0 ≡ report (gives listed) [] [] 0
unfolding ran
in_an_array = refl

in_a_map : ran (ExprStmt (map_one "a" half) ∷ []) 0 ≡ report (gives (MapV (field (codes "a") v no_fields))) [] [] 0
unfolding ran
in_a_map = refl

as_a_constant : ran (ExprStmt (DynamicConstant listed) ∷ []) 0 ≡ report (gives listed) [] [] 0
unfolding ran
as_a_constant = refl

as_an_option : ran (ExprStmt (Coalesce (exprs (UnitConstant ∷ half ∷ int 1 ∷ []))) ∷ []) 0 ≡ report (gives v) [] [] 0
unfolding ran
as_an_option = refl

in_braces : ran (ExprStmt (BlockExpr (stmts (ExprStmt half ∷ []))) ∷ []) 0 ≡ report (gives v) [] [] 0
unfolding ran
in_braces = refl

-- let x = 1.5; const y = x; y
declared : ran (let' "x" half ∷ const' "y" (var "x") ∷ ExprStmt (var "y") ∷ []) 0 ≡ report (gives v) (var_is "x" v ∷ const_is "y" v ∷ []) [] 0
unfolding ran
declared = refl

-- let x = [1]; x[0] = 1.5; x[0]
written_into : ran (let' "x" (array (int 1 ∷ [])) ∷ Assignment None (at (var "x") (int 0)) half ∷ ExprStmt (at (var "x") (int 0)) ∷ []) 0 ≡ report (gives v) (var_is "x" listed ∷ []) [] 0
unfolding ran
written_into = refl

-- for x in [1.5] { g(x) }
gone_over : ran (For (codes "x") None (array (half ∷ [])) (stmts (ExprStmt (fn "g" (var "x" ∷ [])) ∷ [])) ∷ []) 1 ≡ report (gives UnitV) [] (asked "g" (v ∷ []) ∷ []) 0
unfolding ran
gone_over = refl

-- return 1.5, throw 1.5; what is thrown is caught
returned : ran (Return false false (an_expr half) ∷ []) 0 ≡ report (gives v) [] [] 0
unfolding ran
returned = refl

thrown : ran (Return true false (an_expr half) ∷ []) 0 ≡ report (WithThrown v) [] [] 0
unfolding ran
thrown = refl

caught : ran (TryCatch (var "x") (stmts (Return true false (an_expr half) ∷ [])) (stmts (ExprStmt (fn "g" (var "x" ∷ [])) ∷ [])) ∷ []) 0 ≡ report (gives UnitV) [] (asked "g" (v ∷ []) ∷ []) 0
unfolding ran
caught = refl

-- curry(Fn("h"), 1.5)
curried : ran (ExprStmt (fn "curry" (fn "Fn" (StringConstant (codes "h") ∷ []) ∷ half ∷ [])) ∷ []) 0 ≡ report (gives (PointerV (codes "h") (values (v ∷ [])))) [] [] 0
unfolding ran
curried = refl

-- type_of(1.5)
type_named : ran (ExprStmt (fn "type_of" (half ∷ [])) ∷ []) 0 ≡ report (gives (TextV (codes "f64"))) [] [] 0
unfolding ran
type_named = refl

-- ---- operators are the host's

-- 1.5 * 2, 1 - 1.5, !1.5, -1.5
asks_times : ran (ExprStmt (op Multiply (half ∷ int 2 ∷ [])) ∷ []) 0 ≡ report (gives UnitV) [] (asked "*" (v ∷ i 2 ∷ []) ∷ []) 0
unfolding ran
asks_times = refl

asks_minus : ran (ExprStmt (op Minus (int 1 ∷ half ∷ [])) ∷ []) 0 ≡ report (gives UnitV) [] (asked "-" (i 1 ∷ v ∷ []) ∷ []) 0
unfolding ran
asks_minus = refl

asks_not : ran (ExprStmt (op Not (half ∷ [])) ∷ []) 0 ≡ report (gives UnitV) [] (asked "!" (v ∷ []) ∷ []) 0
unfolding ran
asks_not = refl

asks_negative : ran (ExprStmt (op Negative (half ∷ [])) ∷ []) 0 ≡ report (gives UnitV) [] (asked "-" (v ∷ []) ∷ []) 0
unfolding ran
asks_negative = refl

-- 1.5 == 1.5, 1 == 1.5, 1.5 == (), 1.5 < "a"
asks_equal : ran (ExprStmt (op EqualTo (half ∷ half ∷ [])) ∷ []) 0 ≡ report (gives UnitV) [] (asked "==" (v ∷ v ∷ []) ∷ []) 0
unfolding ran
asks_equal = refl

asks_equal_to_int : ran (ExprStmt (op EqualTo (int 1 ∷ half ∷ [])) ∷ []) 0 ≡ report (gives UnitV) [] (asked "==" (i 1 ∷ v ∷ []) ∷ []) 0
unfolding ran
asks_equal_to_int = refl

asks_equal_to_unit : ran (ExprStmt (op EqualTo (half ∷ UnitConstant ∷ [])) ∷ []) 0 ≡ report (gives UnitV) [] (asked "==" (v ∷ UnitV ∷ []) ∷ []) 0
unfolding ran
asks_equal_to_unit = refl

asks_less : ran (ExprStmt (op Less (half ∷ StringConstant (codes "a") ∷ [])) ∷ []) 0 ≡ report (gives UnitV) [] (asked "<" (v ∷ TextV (codes "a") ∷ []) ∷ []) 0
unfolding ran
asks_less = refl

-- "a" + 1.5, 1.5..2, [1.5] == [1.5]
asks_plus : ran (ExprStmt (op Plus (StringConstant (codes "a") ∷ half ∷ [])) ∷ []) 0 ≡ report (gives (TextV (text_of (TextV (codes "a")) ++ text_of v))) [] (asked "+" (TextV (codes "a") ∷ v ∷ []) ∷ []) 0
unfolding ran
asks_plus = refl

asks_range : ran (ExprStmt (op UpTo (half ∷ int 2 ∷ [])) ∷ []) 0 ≡ report (gives UnitV) [] (asked ".." (v ∷ i 2 ∷ []) ∷ []) 0
unfolding ran
asks_range = refl

asks_of_arrays : ran (ExprStmt (op EqualTo (array (half ∷ []) ∷ array (half ∷ []) ∷ [])) ∷ []) 0 ≡ report (gives UnitV) [] (asked "==" (listed ∷ listed ∷ []) ∷ []) 0
unfolding ran
asks_of_arrays = refl

-- an array and an integer are of different kinds, whatever the array holds: [1.5] == 1
array_and_integer : ran (ExprStmt (op EqualTo (array (half ∷ []) ∷ int 1 ∷ [])) ∷ []) 0 ≡ report (gives (BoolV false)) [] [] 0
unfolding ran
array_and_integer = refl

-- let x = 1; x -= 1.5
asks_in_assignment : ran (let' "x" (int 1) ∷ Assignment (Some Minus) (var "x") half ∷ []) 0 ≡ report (gives UnitV) (var_is "x" UnitV ∷ []) (asked "-" (i 1 ∷ v ∷ []) ∷ []) 0
unfolding ran
asks_in_assignment = refl

-- ---- no bool, no place, nothing to go over

no_condition : ran (If half no_stmts no_stmts ∷ []) 0 ≡ report (WithStuck WrongKind) [] [] 0
unfolding ran
no_condition = refl

no_guard : ran (While half no_stmts ∷ []) 0 ≡ report (WithStuck WrongKind) [] [] 0
unfolding ran
no_guard = refl

no_operand : ran (ExprStmt (And (exprs (half ∷ []))) ∷ []) 0 ≡ report (WithStuck WrongKind) [] [] 0
unfolding ran
no_operand = refl

no_items : ran (For (codes "x") None half no_stmts ∷ []) 1 ≡ report (WithStuck WrongKind) [] [] 1
unfolding ran
no_items = refl

-- [1][1.5] asks the host
asks_for_index : ran (ExprStmt (at (array (int 1 ∷ [])) half) ∷ []) 0 ≡ report (gives UnitV) [] (record { name = codes "index$get$"; receiver = Some (ArrayV (values (i 1 ∷ []))); arguments = v ∷ [] } ∷ []) 0
unfolding ran
asks_for_index = refl

-- ---- texts

-- `a${1.5}`, `${[1.5]}`, and of a pointer to h with 1.5 the name alone
text_as_the_host_says : ran (ExprStmt (InterpolatedString (exprs (StringConstant (codes "a") ∷ half ∷ []))) ∷ []) 0 ≡ report (gives (TextV (codes "af64"))) [] [] 0
unfolding ran
text_as_the_host_says = refl

text_of_an_array : ran (ExprStmt (InterpolatedString (exprs (array (half ∷ []) ∷ int 1 ∷ []))) ∷ []) 0 ≡ report (gives (TextV (codes "array1"))) [] [] 0
unfolding ran
text_of_an_array = refl

text_of_a_pointer : ran (ExprStmt (InterpolatedString (exprs (fn "curry" (fn "Fn" (StringConstant (codes "h") ∷ []) ∷ half ∷ []) ∷ []))) ∷ []) 0 ≡ report (gives (TextV (codes "Fn(h)"))) [] [] 0
unfolding ran
text_of_a_pointer = refl

-- ---- constants

-- a float and what holds it are constants, and a text with one is none; all of them are pure
constants : map is_constant (half ∷ array (half ∷ []) ∷ map_one "a" half ∷ InterpolatedString (exprs (half ∷ [])) ∷ InterpolatedString (exprs (array (half ∷ []) ∷ [])) ∷ []) ≡ true ∷ true ∷ true ∷ false ∷ false ∷ []
constants = refl

pure : map is_pure_expr (half ∷ array (half ∷ []) ∷ map_one "a" half ∷ InterpolatedString (exprs (half ∷ [])) ∷ []) ≡ true ∷ true ∷ true ∷ true ∷ []
pure = refl

literal : (literal_value half ≡ Some v) × (constant_for v ≡ half) × (constant_for listed ≡ DynamicConstant listed)
literal = (refl, refl, refl)

weight : expr_weight half ≡ 2
weight = refl

-- ---- equality and keys

-- equal where the bits are: 0.0 and -0.0 differ
same_bits : (same v v ≡ true) × (same v (FloatV 0) ≡ false) × (same (FloatV 0) (FloatV 9223372036854775808) ≡ false) × (same v (i 1) ≡ false)
same_bits = (refl, refl, refl, refl)

no_key : map is_hashable (v ∷ listed ∷ []) ≡ false ∷ false ∷ []
no_key = refl

held : map holds_float (v ∷ listed ∷ PointerV (codes "h") (values (v ∷ [])) ∷ i 1 ∷ []) ≡ true ∷ true ∷ false ∷ false ∷ []
held = refl

-- 1.5 in 1..3, 2..3, 1..=1, 1..=2, 2..=1
in_ranges : map (λ r. holds r v) (ExclusiveInt (pos 1) (pos 3) ∷ ExclusiveInt (pos 2) (pos 3) ∷ InclusiveInt (pos 1) (pos 1) ∷ InclusiveInt (pos 1) (pos 2) ∷ InclusiveInt (pos 2) (pos 1) ∷ []) ≡ true ∷ false ∷ false ∷ true ∷ false ∷ []
unfolding le lt of_int round of_bits
in_ranges = refl
