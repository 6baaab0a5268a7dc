use Rattle.std.proofs.Common.{◌∙◌, ap}
use Rattle.script_tables.specs.FnLib.{functions_of}
use Rattle.script_tables.specs.Table.{table_of}
use Rattle.demo.proofs.program.written.Goals as goal

pub returns : goal.returns
returns c = c.new-2.ensures.script ∙ (λ i. record {
  statements = c.in_ok-statements.ensures i;
  functions = (ap functions_of c.in_ok-new.ensures.ok ∙ c.in_ok-functions-2.ensures.table ∙ ap table_of c.in_ok-functions.ensures) i;
})
