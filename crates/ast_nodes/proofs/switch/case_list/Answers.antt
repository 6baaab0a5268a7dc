use Rattle.std.proofs.Common.{None, cond, ap, ◌∙◌}
use Rattle.std.specs.Option.{option_map}
use Rattle.std.specs.Map.{lookup}
use Rattle.rhai_base.proofs.Exact.{equal}
use Rattle.rhai_base.specs.Reading.{value_of}
use Rattle.ast_types.specs.Reading.{table_of}
use Rattle.theory_meaning.specs.Control.{case_for}
use Rattle.ast_nodes.proofs.Listed.{listed_is}
use Rattle.ast_nodes.proofs.switch.case_list.Goals as goal

pub returns : goal.returns
returns c =
    let x = c.args.subject.now in
    ap (option_map (λ l. l.blocks)) (c.get.ensures.value ∙ ap (lookup (equal x)) c.as_map.ensures)
    ∙ listed_is _ x
    ∙ ap (λ b. cond b (case_for (table_of c.args.table.now).cases (value_of x)) None) c.if-not-is_hashable.ensures
