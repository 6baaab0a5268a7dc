use Rattle.std.proofs.Common.{refl, sym, ap, ◌∙◌}
use Rattle.script_tables.specs.declared.fn_lib.FnLib.{FnLib}
use Rattle.rhai_script.specs.Contents.{Contents, contents}
use Rattle.rhai_optimizer.specs.Optimised.{given}
use Rattle.rhai_optimizer.proofs.Whole.{whole, passes_counted}
use Rattle.rhai_optimizer.proofs.optimizer.optimize_counted.Goals as goal

pub returns-clause-promise : goal.returns-clause-promise
returns-clause-promise c =
    let parts = rw (c.new-block.ensures.block) at c.in_ok-block.ensures in
    let e = c.new-2.ensures.contents in
    whole (given c.args.statements.items c.args.functions.items) (contents c.new-2.result) (c.in_ok-functions.ensures.table ∙ sym c.in_ok-functions.ensures.functions) refl (sym c.in_ok-from_functions.ensures.definitions ∙ sym c.in_ok-functions.ensures.table)
    (ap (λ (x : Contents). x.statements) e ∙ c.statements_of.ensures)
    (ap (λ (x : Contents). x.functions) e ∙ ap (λ (l : FnLib). l.functions) c.in_ok-lib.ensures.ok ∙ c.in_ok-from_functions-2.ensures.definitions)
    _ parts
    (ap (λ (x : Contents). x.source) e, (ap (λ (x : Contents). x.doc) e, ap (λ (x : Contents). x.id) e ∙ ap (λ (l : FnLib). l.id) c.in_ok-lib.ensures.ok ∙ c.in_ok-from_functions-2.ensures.id))

pub returns-clause-passes : goal.returns-clause-passes
returns-clause-passes c =
    let parts = rw (c.new-block.ensures.block) at c.in_ok-block.ensures in
    let e = c.new-2.ensures.contents in
    rw (ap (λ (x : Contents). x.statements) e ∙ c.statements_of.ensures) (passes_counted _ parts)
