use Rattle.std.proofs.Common.{List, ap, ◌∙◌}
use Rattle.rhai_base.specs.declared.range_case.RangeCase.{RangeCase}
use Rattle.ast_types.specs.declared.expr.BinaryExpr.{BinaryExpr}
use Rattle.ast_types.specs.declared.expr.Expr.TheViews as views
use Rattle.ast_nodes.specs.SwitchTables.{refusal}
use Rattle.ast_nodes.proofs.SwitchTables.{accepted, is_accepted, none_accepted}
use Rattle.ast_nodes.proofs.queries.switch_table.is_table.Goals as goal

pub returns : goal.returns
returns c =
    let t = views.out-SwitchCasesCollection c.args.table.now in
    none_accepted _ _ c.is_none.ensures ∙ ap is_accepted c.table_refusal.ensures
    ∙ ap (λ (bs : List BinaryExpr). is_accepted (refusal bs t.cases c.as_slice-ranges.result.now t.def_case)) c.as_slice-arms.ensures
    ∙ ap (λ (rs : List RangeCase). is_accepted (refusal t.expressions t.cases rs t.def_case)) c.as_slice-ranges.ensures
    ∙ accepted t.expressions t.cases t.ranges t.def_case
