-- Scripts with a float: what they may be rewritten to, and what no rule does over one. Their host writes it by its type's name.
use Rattle.std.specs.Prelude.{◌≡◌, ℕ, true, false, [], ◌∷◌, Option, Some, None, codes, refl}
use Rattle.rhai_base.specs.Value.{Text, Value, BoolV, FloatV, TextV, ArrayV, MapV, values, field, no_fields, text_of, type_name}
use Rattle.rhai_base.specs.Operators.{Plus, EqualTo, computed, binary}
use Rattle.theory_meaning.specs.Constants.{text_constants}
use Rattle.theory_meaning.specs.Control.{texts_joined}
use Rattle.theory_meaning.specs.Run.{WithValue}
use Rattle.theory_meaning.specs.Tree.{Callee, OfOperator, Expr, DynamicConstant, FloatConstant, StringConstant, InterpolatedString, ArrayOf, MapOf, SwitchTable, ExprStmt, exprs, pairs}
use Rattle.theory_meaning.specs.WorkedForms.{int, op, nothing_set, joining, ran, ends, asked, i}
use Rattle.theory_rewriting.specs.Choosing.{is_chosen}
use Rattle.theory_rewriting.specs.Folding.{folded}
use Rattle.theory_rewriting.specs.Rewriting.{by_expr_rule, in_expression, in_head, in_tail}
use Rattle.theory_rewriting.specs.Rules.{array_of_constants, map_of_constants, known_name}
use Rattle.worked_rules.specs.WorkedConditions.{Differ}
use Rattle.worked_rules.specs.WorkedLists.{var, const, constant, ends_with}
use Rattle.worked_rules.specs.WorkedRewrites.{Row}

-- 1.5
abbrev bits : ℕ
bits = 4609434218613702656

abbrev half : Expr
half = FloatConstant bits

abbrev v : Value
v = FloatV bits

abbrev listed : Value
listed = ArrayV (values (v ∷ []))

abbrev plus : Callee
plus = record { namespace = []; name = codes "+"; captures = false; token = OfOperator Plus }

abbrev equals : Callee
equals = record { namespace = []; name = codes "=="; captures = false; token = OfOperator EqualTo }

-- const x = 1.5; x
known_row : Row (const "x" half ∷ ExprStmt (var "x") ∷ []) (const "x" half ∷ ExprStmt half ∷ []) (ends_with (WithValue v) (constant "x" v ∷ []) [])
unfolding ran
known_row = (in_tail (in_head (in_expression (by_expr_rule (known_name v refl)))), refl, refl)

-- [1.5], #{a: 1.5}
array_row : Row (ExprStmt (ArrayOf (exprs (half ∷ []))) ∷ []) (ExprStmt (DynamicConstant listed) ∷ []) (ends (WithValue listed) [])
unfolding ran
array_row = (in_head (in_expression (by_expr_rule (array_of_constants {vs = v ∷ []} refl))), refl, refl)

map_row : Row (ExprStmt (MapOf (pairs ((codes "a", half) ∷ [])) (codes "a" ∷ [])) ∷ []) (ExprStmt (DynamicConstant (MapV (field (codes "a") v no_fields))) ∷ []) (ends (WithValue (MapV (field (codes "a") v no_fields))) [])
unfolding ran
map_row = (in_head (in_expression (by_expr_rule (map_of_constants ((codes "a", v) ∷ []) refl))), refl, refl)

-- 1.5 + 1, 1.5 == 1.5, [1.5] == [1.5]
no_fold : (folded nothing_set plus (exprs (half ∷ int 1 ∷ [])) ≡ None) × (folded nothing_set equals (exprs (half ∷ half ∷ [])) ≡ None) × (folded nothing_set equals (exprs (DynamicConstant listed ∷ DynamicConstant listed ∷ [])) ≡ None)
unfolding computed
no_fold = (refl, refl, refl)

-- `a${1.5}`, `${[1.5]}`
no_text : (text_constants (exprs (StringConstant (codes "a") ∷ half ∷ [])) ≡ None) × (text_constants (exprs (ArrayOf (exprs (half ∷ [])) ∷ [])) ≡ None)
no_text = (refl, refl)

-- a text that holds a float is what the host says, not what the value writes: `${1.5}`, and its text
host_writes : Differ (ExprStmt (InterpolatedString (exprs (half ∷ []))) ∷ []) (ends (WithValue (TextV (codes "f64"))) []) (ExprStmt (StringConstant (text_of v)) ∷ []) (ends (WithValue (TextV (text_of v))) [])
unfolding ran texts_joined
host_writes = (refl, refl)

-- a `switch` over one is not decided by its cases
not_chosen : is_chosen half (record { cases = []; ranges = []; default = Some 0 }) ≡ false
not_chosen = refl
