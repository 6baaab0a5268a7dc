use Rattle.std.proofs.Common.{refl, sym, ◌∙◌}
use Rattle.run_state.proofs.Variables.{searched_found}
use Rattle.run_steps.proofs.nodes.variables.position.Goals as goal

pub returns-then-is_called : goal.returns-then-is_called
returns-then-is_called c =
    searched_found c.args.name.now c.args.scope.now c.loop-last.rest.now c.in-Some.others.now c.in-Some.last.now _ c.loop-last.invariant c.in-Some.ensures.cases.0
    (sym c.is_called.ensures ∙ c.if-is_called.true) refl
