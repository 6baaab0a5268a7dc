use Rattle.std.proofs.Common.{◌&&◌, map, sym, ap, ◌∙◌}
use Rattle.std.specs.Rc.{rc_value}
use Rattle.theory_meaning.specs.Walk.{over_functions}
use Rattle.ast_types.specs.Reading.{function_of}
use Rattle.opt_base.specs.Walks.{capture_walk}
use Rattle.opt_base.proofs.Functions.{listed}
use Rattle.opt_base.proofs.captures.captures_nothing.Goals as goal

pub returns-then-every_statement : goal.returns-then-every_statement
returns-then-every_statement c =
    let bodies = over_functions capture_walk (map function_of (map rc_value c.args.functions.now)) in
    c.every_body.ensures ∙ ap (over_functions capture_walk) (sym (listed c.args.functions.now))
    ∙ ap (λ a. a && bodies) (sym c.if-every_statement.true ∙ c.every_statement.ensures)
