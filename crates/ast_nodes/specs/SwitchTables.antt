-- Which tables of a `switch` are refused, and why.
use Rattle.std.specs.Prelude.{◌≡◌, ◌↔◌, ℕ, Bool, true, ◌&&◌, ◌||◌, ◌==◌, nat_lt, List, Option, Some, None, length, slice_get, if◌then◌else◌}
use Rattle.std.specs.List.{list_all, list_any}
use Rattle.rhai_base.specs.declared.dynamic.Dynamic.{Dynamic}
use Rattle.rhai_base.specs.Value.{is_hashable}
use Rattle.rhai_base.specs.Reading.{value_of}
use Rattle.base_tokens.specs.declared.error.AstError.{AstError}
use Rattle.base_tokens.specs.declared.error.AstError.TheVariants.{SwitchIndex, SwitchDefaultCondition, SwitchDefaultShared, SwitchKey}
use Rattle.ast_types.specs.declared.expr.BinaryExpr.{BinaryExpr}
use Rattle.rhai_base.specs.declared.cases.CaseBlocksList.{CaseBlocksList}
use Rattle.rhai_base.specs.declared.range_case.RangeCase.{RangeCase}
use Rattle.rhai_base.specs.Ranges.{index_of}
use Rattle.theory_meaning.specs.Queries.{is_literally}
use Rattle.theory_meaning.specs.Shape.{is_table}
use Rattle.ast_types.specs.Reading.{arms_of, expr_of, table_by}

abbrev pub are_keys : List (Dynamic × CaseBlocksList) → Bool
are_keys cases = list_all (λ e. is_hashable (value_of e.0)) cases

-- the places of arms are within the table
abbrev pub lists_within : ℕ → List (Dynamic × CaseBlocksList) → Bool
lists_within n cases = list_all (λ e. list_all (λ i. nat_lt i n) e.1.blocks) cases

abbrev pub ranges_within : ℕ → List RangeCase → Bool
ranges_within n ranges = list_all (λ r. nat_lt (index_of r) n) ranges

-- the arm is named
abbrev pub lists_name : ℕ → List (Dynamic × CaseBlocksList) → Bool
lists_name arm cases = list_any (λ e. list_any (λ i. i == arm) e.1.blocks) cases

abbrev pub ranges_name : ℕ → List RangeCase → Bool
ranges_name arm ranges = list_any (λ r. index_of r == arm) ranges

-- the arm of the default, if the table has it
abbrev pub default_at : Option BinaryExpr → Bool → Option AstError
default_at None named = Some SwitchIndex
default_at (Some arm) named =
    if is_literally true (expr_of arm.lhs) then (if named then Some SwitchDefaultShared else None) else Some SwitchDefaultCondition

abbrev pub default_refusal : List BinaryExpr → List (Dynamic × CaseBlocksList) → List RangeCase → ℕ → Option AstError
default_refusal arms cases ranges arm = default_at (slice_get arms arm) (lists_name arm cases || ranges_name arm ranges)

abbrev pub default_tested : List BinaryExpr → List (Dynamic × CaseBlocksList) → List RangeCase → Option ℕ → Option AstError
default_tested arms cases ranges None = None
default_tested arms cases ranges (Some arm) = default_refusal arms cases ranges arm

-- why a table is refused: the first of four tests that fails
abbrev pub refusal : List BinaryExpr → List (Dynamic × CaseBlocksList) → List RangeCase → Option ℕ → Option AstError
refusal arms cases ranges default =
    if are_keys cases
    then (if lists_within (length arms) cases && ranges_within (length arms) ranges then default_tested arms cases ranges default else Some SwitchIndex)
    else Some SwitchKey

-- what is not refused is a table
abbrev pub RefusalLaw : List BinaryExpr → List (Dynamic × CaseBlocksList) → List RangeCase → Option ℕ → Type 0
RefusalLaw arms cases ranges default = (refusal arms cases ranges default ≡ None) ↔ (is_table (arms_of arms) (table_by cases ranges default) ≡ true)
