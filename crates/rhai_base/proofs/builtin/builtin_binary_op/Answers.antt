use Rattle.std.proofs.Common.{◌∙◌, sym}
use Rattle.rhai_base.proofs.Floats.{no_entry, no_floats}
use Rattle.rhai_base.proofs.Rows.{no_range, unjoined_row}
use Rattle.rhai_base.proofs.builtin.builtin_binary_op.Goals as goal

pub returns-then-has_float : goal.returns-then-has_float
returns-then-has_float c = no_entry _ _ _ (sym c.has_float.ensures ∙ c.if-has_float.true)

pub returns-in_default : goal.returns-in_default
returns-in_default c =
    let f = no_floats _ _ (sym c.has_float.ensures ∙ c.if-has_float.false) in
    c.unjoined.ensures ∙ unjoined_row _ _ _ f.0 f.1 (sym c.joins.ensures ∙ c.if-joins.false) (no_range _ c.in_default.not-ExclusiveRange c.in_default.not-InclusiveRange)
