-- What a step answers at the literal of an array or a map: one of its parts.
use Rattle.std.specs.Prelude.{ℕ, zero, suc, Bool, true, false, Option, Some, None, ℤ, if◌then◌else◌}
use Rattle.rhai_base.specs.Value.{Value, IntV, TextV}
use Rattle.theory_meaning.specs.Constants.{constant_value}
use Rattle.theory_meaning.specs.Elements.{at_index, index_in}
use Rattle.theory_meaning.specs.Queries.{is_pure_expr, is_unit}
use Rattle.theory_meaning.specs.Tree.{Expr, UnitConstant, ArrayOf, MapOf, Property, Exprs, count_exprs, Pairs, no_pairs, pair}
use Rattle.theory_rewriting.specs.Indexing.{expr_at, pair_for, or_unit}
use Rattle.opt_chains.specs.declared.parts.literals.Found.{Found}
use Rattle.opt_chains.specs.declared.parts.literals.Found.TheVariants.{At, Missing}

-- ---- which part is asked for

abbrev pub integer_of : Option Value → Option ℤ
integer_of (Some (IntV n)) = Some n
integer_of _ = None

abbrev pub element_for : Exprs → Option ℤ → Option Expr
element_for es o = at_index o (λ n. at_index (index_in (count_exprs es) n) (expr_at es))

-- a missing entry is unit
abbrev pub entry_for : Pairs → Option Value → Option Expr
entry_for ps (Some (TextV x)) = Some (or_unit (pair_for ps x))
entry_for ps _ = None

abbrev pub property_for : Pairs → Expr → Option Expr
property_for ps (Property p) = Some (or_unit (pair_for ps p.name))
property_for ps _ = None

abbrev pub array_part : (dot : Bool) → Exprs → Expr → Option Expr
array_part true es a = None
array_part false es a = element_for es (integer_of (constant_value a))

abbrev pub map_part : (dot : Bool) → Pairs → Expr → Option Expr
map_part true ps a = property_for ps a
map_part false ps a = entry_for ps (constant_value a)

abbrev pub literal_part : (dot : Bool) → Expr → Expr → Option Expr
literal_part dot (ArrayOf es) a = array_part dot es a
literal_part dot (MapOf ps template) a = map_part dot ps a
literal_part dot _ a = None

-- ---- the part that was found

abbrev pub member_at : Pairs → ℕ → Option Expr
member_at no_pairs i = None
member_at (pair k e ps) zero = Some e
member_at (pair k e ps) (suc i) = member_at ps i

abbrev pub found_item : Exprs → Found → Expr
found_item es (At i) = or_unit (expr_at es i)
found_item es Missing = UnitConstant

abbrev pub found_member : Pairs → Found → Expr
found_member ps (At i) = or_unit (member_at ps i)
found_member ps Missing = UnitConstant

abbrev pub found_part : Expr → Found → Expr
found_part (ArrayOf es) f = found_item es f
found_part (MapOf ps template) f = found_member ps f
found_part e f = UnitConstant

-- ---- where unit may stand or not, and of a literal whose parts are pure

abbrev pub allowed_part : (unit : Bool) → Option Expr → Option Expr
allowed_part true o = o
allowed_part false None = None
allowed_part false (Some e) = if is_unit e then None else Some e

abbrev pub literal_answer : (unit dot : Bool) → Expr → Expr → Option Expr
literal_answer unit dot e a = if is_pure_expr e then allowed_part unit (literal_part dot e a) else None
