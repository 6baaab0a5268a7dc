use Rattle.std.proofs.Common.{sym, ◌∙◌}
use Rattle.std.proofs.lemmas.Result.{on_ok_weaker}
use Rattle.std.specs.Map.Iter.{deref}
use Rattle.std.specs.Option.{option_map}
use Rattle.opt_base.specs.Walks.{listing}
use Rattle.opt_base.specs.State.{progress}
use Rattle.opt_reducer.specs.Parts.{record_of}
use Rattle.rhai_optimizer.proofs.Scopes.{nothing_inside, pushed_inside}
use Rattle.rhai_optimizer.proofs.functions.push_inside.Goals as goal

pub returns-then-captures_nothing : goal.returns-then-captures_nothing
returns-then-captures_nothing c =
    on_ok_weaker _ (pushed_inside (record_of c.args.optimizer.now) (option_map deref c.args.scope) (listing c.args.statements.now c.args.functions.now) (progress c.args.state.now).known (progress c.push_in_bodies.new.state).known _ (sym c.captures_nothing.ensures ∙ c.if-captures_nothing.true)) c.push_in_bodies.ensures

pub returns : goal.returns
returns c = nothing_inside (record_of c.args.optimizer.now) (option_map deref c.args.scope) (listing c.args.statements.now c.args.functions.now) (progress c.args.state.now).known (sym c.captures_nothing.ensures ∙ c.if-captures_nothing.false)
