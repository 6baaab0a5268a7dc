-- The table of a `switch` that is made of parts.
use Rattle.std.specs.Prelude.{◌≡◌, ℕ, List, Option, Some, None, Result, MatchResult}
use Rattle.rhai_base.specs.declared.dynamic.Dynamic.{Dynamic}
use Rattle.base_tokens.specs.declared.error.AstError.{AstError}
use Rattle.rhai_base.specs.declared.range_case.RangeCase.{RangeCase}
use Rattle.ast_types.specs.declared.expr.BinaryExpr.{BinaryExpr}
use Rattle.ast_types.specs.declared.expr.Expr.TheViews as views
use Rattle.rhai_base.specs.declared.cases.CaseBlocksList.{CaseBlocksList}
use Rattle.ast_types.specs.declared.switch.SwitchCasesCollection.{SwitchCasesCollection}
use Rattle.ast_nodes.specs.SwitchTables.{refusal}

-- the parts as a table where they are not refused, else why they are
abbrev pub IsTableOf : List BinaryExpr → List (Dynamic × CaseBlocksList) → List RangeCase → Option ℕ → Result SwitchCasesCollection AstError → Type 0
IsTableOf arms cases ranges default made = MatchResult made
    (λ t. (refusal arms cases ranges default ≡ None)
    × (t ≡ views.roll-SwitchCasesCollection (record { expressions = arms; cases = cases; ranges = ranges; def_case = default })))
    (λ e. refusal arms cases ranges default ≡ Some e)
